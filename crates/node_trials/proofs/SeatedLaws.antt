-- What the calls of the seats leave of what their caller carries.
use Rattle.std.specs.Prelude.{◌≡◌, ◌<◌, ℕ, zero, suc, Bool, true, IsTrue, List, [], ◌∷◌, Option, Some, None, Result, Ok, Err, OnOk, length, slice_index_or, slice_set, refl}
use Rattle.std.proofs.Common.{ap, inl, inr, sym, subst, ◌∙◌}
use Rattle.std.proofs.lemmas.Bool.{cases_eq}
use Rattle.std.proofs.lemmas.List.{get_or-set_other}
use Rattle.std.proofs.lemmas.Grind.{get_or-set_at}
use Rattle.sd_base.specs.Disk.{BlockState, DiskState}
use Rattle.sd_base.specs.Calls.{Keeps, NoNewWriter, NoNewWriterBut}
use Rattle.sd_base.specs.Faults.{StaysLive}
use Rattle.sd_base.specs.declared.fault.DevFault.{DevFault}
use Rattle.sd_base.specs.declared.shape.Shape.{Shape}
use Rattle.page_owner.specs.declared.owners.Own.{Own}
use Rattle.node_cache.specs.Cache.{CacheState}
use Rattle.txn_core.specs.Seats.{OpenTxn, SeatsState}
use Rattle.node_trials.specs.Bench.{IsReady}
use Rattle.node_trials.specs.SeatBench.{AreCounted}
use Rattle.node_trials.proofs.ReadyLaws.{ready_written}

-- what is said of a result that is expected
pub done : {T E P : Type 0} (r : Result T E) (x : T) → r ≡ Ok x → OnOk r P → P
done (Ok y) x is p = p
done (Err e) x is p = cc

pub alive : {T P : Type 0} (r : Result T DevFault) (x : T) → r ≡ Ok x → StaysLive r P → P
alive (Ok y) x is p = p
alive (Err e) x is p = cc

-- no block has a new writer, and so none but for one
pub none_but : (at n : ℕ) (b b' : ℕ → BlockState) → NoNewWriter b b' → NoNewWriterBut at n b b'
none_but at n b b' none k = elim (none k) [ inl same ↦ inl same | inr gone ↦ inr (inl gone) ]

-- what a caller carries, after a call that read the log
pub ready_read : (s : Shape) (told : Bool) (d d' : DiskState) (pool : List (Option (List ℕ))) (owners : List Own) (c : CacheState) → IsReady s told d pool owners c → Keeps c.node.0 d d' → d'.live c.node.0 ≡ true → (IsTrue told → NoNewWriter d.block d'.block)
    → IsReady s told d' pool owners c
ready_read s told d d' pool owners c was keeps live writers =
    ready_written s told d d' pool pool owners c c 0 was keeps live (λ t. none_but 0 c.node.0 d.block d'.block (writers t)) refl (record { shape = refl; node = refl; start = refl }) was.log_tie refl refl

-- what stands in a seat that was set
own_of : (xs : List (Option OpenTxn)) (k : ℕ) (o t : OpenTxn) → slice_index_or (slice_set xs k (Some o)) k None ≡ Some t → o ≡ t
own_of [] k o t is = absurd (let never : None ≡ Some t = is in cc)
own_of (x ∷ xs) zero o t is = let same : Some o ≡ Some t = is in cc
own_of (x ∷ xs) (suc k) o t is = own_of xs k o t is

none_of : {P : Type 0} (xs : List (Option OpenTxn)) (k : ℕ) (t : OpenTxn) → slice_index_or (slice_set xs k None) k None ≡ Some t → P
none_of [] k t is = absurd (let never : None ≡ Some t = is in cc)
none_of (x ∷ xs) zero t is = absurd (let never : None ≡ Some t = is in cc)
none_of (x ∷ xs) (suc k) t is = none_of xs k t is

-- the count of a seat that gets another transaction, or has one more or one less update
pub counted_set : (left : List ℕ) (s t : SeatsState) (seat n : ℕ) (o : OpenTxn) → AreCounted left s → t.seats ≡ slice_set s.seats seat (Some o) → seat < length left → n ≡ o.left → AreCounted (slice_set left seat n) t
counted_set left s t seat n o counted same below is i u there =
    let now : slice_index_or (slice_set s.seats seat (Some o)) i None ≡ Some u = subst (λ xs. slice_index_or xs i None ≡ Some u) same there in
    elim (cases_eq i seat) [
      | inl here ↦
          let own : o ≡ u = own_of s.seats seat o u (subst (λ k. slice_index_or (slice_set s.seats seat (Some o)) k None ≡ Some u) here now) in
          get_or-set_at left seat i n 0 here below ∙ is ∙ ap (λ v. v.left) own
      | inr other ↦ get_or-set_other left seat i n 0 other ∙ counted i u (sym (get_or-set_other s.seats seat i (Some o) None other) ∙ now)
    ]

-- and of one that is free then
pub counted_free : (left : List ℕ) (s t : SeatsState) (seat : ℕ) → AreCounted left s → t.seats ≡ slice_set s.seats seat None → AreCounted left t
counted_free left s t seat counted same i u there =
    let now : slice_index_or (slice_set s.seats seat None) i None ≡ Some u = subst (λ xs. slice_index_or xs i None ≡ Some u) same there in
    elim (cases_eq i seat) [
      | inl here ↦ none_of s.seats seat u (subst (λ k. slice_index_or (slice_set s.seats seat None) k None ≡ Some u) here now)
      | inr other ↦ counted i u (sym (get_or-set_other s.seats seat i None None other) ∙ now)
    ]
