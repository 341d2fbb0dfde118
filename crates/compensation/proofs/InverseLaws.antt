-- What takes an update back puts its slot back.
use Rattle.std.proofs.Common.{◌≡◌, ◌+◌, ◌≤◌, ◌<◌, ◌++◌, ℕ, Bool, true, false, List, Option, Some, None, length, take, unwrap_or, [], refl, ◌∙◌, ap, subst, sym, arith}
use Rattle.std.proofs.lemmas.List.{length-append, get_or-set_same, take_at, take_all}
use Rattle.sd_base.specs.declared.names.PageNo.{PageNo}
use Rattle.sd_base.specs.declared.page_op.PageOp.{PageOp}
use Rattle.sd_base.specs.declared.page_op.PageOp.TheVariants as ops
use Rattle.page_image.specs.declared.page_view.PageView.{PageView}
use Rattle.page_image.specs.Image.{IsImage}
use Rattle.page_image.specs.Change.{applied, slot_of, with_put, with_append, with_cut, value_in}
use Rattle.log_record.specs.declared.record.LogRecord.{LogRecord}
use Rattle.log_record.specs.declared.record.LogRecord.TheVariants.{Begin, Set, Append, Commit, Abort, Restore, Cut, MapUse, MapFree}
use Rattle.compensation.specs.Inverse.{content, taking_back, IsMarked, Undoes}

some_same : {A : Type 0} {x y : A} → Some x ≡ Some y → x ≡ y
some_same e = cc

-- what an append leaves in its slot
appended : (v : PageView) (slot : ℕ) (bytes : List ℕ) → IsImage v → slot ≤ 15 → length (value_in v slot) + length bytes ≤ 248 → content (with_append slot bytes v) slot ≡ Some (value_in v slot ++ bytes)
appended v slot bytes image le fits =
    let at : slot < length v.slots = omega (arith, image.slots) in
    let short : length (value_in v slot ++ bytes) ≤ 248 = omega (arith, length-append (value_in v slot) bytes) in
    get_or-set_same v.slots slot (Some (take 248 (value_in v slot ++ bytes))) None at ∙ ap Some (take_all 248 (value_in v slot ++ bytes) short)

-- an append that is cut off
cut_off : (v w : PageView) (slot : ℕ) (present : Bool) (len : ℕ) (bytes : List ℕ) → IsMarked present len (content v slot) → content w slot ≡ Some (value_in v slot ++ bytes) → with_cut slot present len w ≡ with_put slot (content v slot) w
cut_off v w slot present len bytes mark held = by (content v slot) present refl mark
  where
    by : (before : Option (List ℕ)) (present : Bool) → content v slot ≡ before → IsMarked present len before → with_cut slot present len w ≡ with_put slot before w
    by None true e m = cc
    by None false e m = refl
    by (Some value) true e m =
        let whole : value_in w slot ≡ value ++ bytes = ap (λ o. unwrap_or o []) held ∙ ap (λ o. unwrap_or o [] ++ bytes) e in
        ap (λ kept. with_put slot (Some kept) w) (ap (take len) whole ∙ ap (λ n. take n (value ++ bytes)) m.1 ∙ take_at value bytes (length value) refl)
    by (Some value) false e m = cc

pub append_undone : (txn prev bsi slot : ℕ) (page : PageNo) (present : Bool) (len : ℕ) (bytes : List ℕ) → Undoes (Append txn prev page bsi slot present len bytes) (ops.Cut slot present len)
append_undone txn prev bsi slot page present len bytes update v w is image le says left =
    let P : PageOp → Type 0 = λ u. slot_of u ≤ 15 → content w (slot_of u) ≡ content (applied u v) (slot_of u) → with_cut slot present len w ≡ with_put (slot_of u) (content v (slot_of u)) w in
    let fits : length (value_in v slot) + length bytes ≤ 248 = omega (arith, says.0.1, says.1) in
    let same : ops.Append slot bytes ≡ update = some_same is in
    subst P same (λ low held. cut_off v w slot present len bytes says.0 (held ∙ appended v slot bytes image low fits)) le left

-- a slot that was set is put back
set_undone : (txn prev bsi slot : ℕ) (page : PageNo) (before after : Option (List ℕ)) → Undoes (Set txn prev page bsi slot before after) (ops.Put slot before)
set_undone txn prev bsi slot page before after update v w is image le says left =
    let same : ops.Put slot after ≡ update = some_same is in
    subst (λ u. with_put slot before w ≡ with_put (slot_of u) (content v (slot_of u)) w) same (ap (λ held. with_put slot held w) (sym says))

-- and so each update is taken back
pub undone : (rec : LogRecord) (change : PageOp) → taking_back rec ≡ Some change → Undoes rec change
undone Begin change is = cc
undone (Set txn prev page bsi slot before after) change is = subst (Undoes (Set txn prev page bsi slot before after)) (some_same is) (set_undone txn prev bsi slot page before after)
undone (Append txn prev page bsi slot present len bytes) change is = subst (Undoes (Append txn prev page bsi slot present len bytes)) (some_same is) (append_undone txn prev bsi slot page present len bytes)
undone (Commit txn prev) change is = cc
undone (Abort txn prev) change is = cc
undone (Restore txn prev next page bsi slot after) change is = cc
undone (Cut txn prev next page bsi slot present len) change is = cc
undone (MapUse page bsi place group) change is = cc
undone (MapFree page bsi place group ident) change is = cc
