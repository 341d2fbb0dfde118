-- Taking back one update after another, whose pages the node holds.
use Rattle.std.specs.Prelude.{◌≡◌, ◌++◌, ◌∷◌, [], ℕ, suc, Option, Some, None, All, IfSome, length, replicate, reverse, refl}
use Rattle.std.proofs.Common.{arith, ap, subst, sym, ◌∙◌}
use Rattle.std.proofs.lemmas.List.{length-append, reverse-append}
use Rattle.std.proofs.lemmas.List.Elements.{All-head, All-tail, All-weaker}
use Rattle.sd_base.specs.Places.{map_of_data}
use Rattle.sd_base.specs.declared.names.PageNo.{PageNo}
use Rattle.sd_base.specs.declared.names.TxnId.{TxnId}
use Rattle.record_machine.specs.Machine.{Deed, Machine, Write, newest_of, writes_of}
use Rattle.record_machine.specs.Parts.{Back, dos, one}
use Rattle.record_machine.specs.Commands.{backs}
use Rattle.record_machine.proofs.BackSteps.{at_back, back_writes}
use Rattle.record_machine.proofs.Newest.{no_writes, none_newest}
use Rattle.store_commands.specs.Aborts.{HoldsBoth, HoldsWritten}

-- Some of the writes of a transaction were taken back. The node holds the pages of the others, and with them taken back too
-- all are.
pub record HasTakenBack (m : Machine) (t : TxnId) (S : Machine → Type 0) : Type 0 where
  pub now : Machine
  pub rest : dos (backs now t) now ≡ dos (backs m t) m
  pub held : HoldsWritten now t
  pub shown : S now

pub none_back : (m : Machine) (t : TxnId) (S : Machine → Type 0) → HoldsWritten m t → S m → HasTakenBack m t S
none_back m t S held shown = record { now = m; rest = refl; held = held; shown = shown }

module _ (k : Machine) (t : TxnId) (d : Deed) (newest : newest_of k t ≡ Some d) where
  writes : writes_of k t ≡ writes_of (one (Back t) k) t ++ d ∷ []
  writes = at_back (λ o. writes_of k t ≡ writes_of o t ++ d ∷ []) k t d newest (λ w write. back_writes k t d w newest)

  more : backs k t ≡ Back t ∷ backs (one (Back t) k) t
  more = ap (λ n. replicate n (Back t)) (let long = ap length writes ∙ length-append (writes_of (one (Back t) k) t) (d ∷ []) in let next : length (writes_of k t) ≡ suc (length (writes_of (one (Back t) k) t)) = omega (arith, long) in next)

  same_hold : (x : ℕ) → (one (Back t) k).hold x ≡ k.hold x
  same_hold x = at_back (λ o. o.hold x ≡ k.hold x) k t d newest (λ w write. refl)

  same_shape : (one (Back t) k).shape ≡ k.shape
  same_shape = at_back (λ o. o.shape ≡ k.shape) k t d newest (λ w write. refl)

  first : reverse (writes_of k t) ≡ d ∷ reverse (writes_of (one (Back t) k) t)
  first = ap reverse writes ∙ reverse-append (writes_of (one (Back t) k) t) (d ∷ [])

  holds_all : HoldsWritten k t → All (λ e. IfSome e.write (λ w. HoldsBoth k t.node.0 (record { 0 = w.page }))) (d ∷ reverse (writes_of (one (Back t) k) t))
  holds_all held = subst (All (λ (e : Deed). IfSome e.write (λ w. HoldsBoth k t.node.0 (record { 0 = w.page })))) first held

  -- the node holds the page of the newest
  pub holds_newest : (w : Write) → d.write ≡ Some w → HoldsWritten k t → HoldsBoth k t.node.0 (record { 0 = w.page })
  holds_newest w write held =
      subst (λ o. IfSome o (λ v. HoldsBoth k t.node.0 (record { 0 = v.page }))) write
      (All-head (λ (e : Deed). IfSome e.write (λ v. HoldsBoth k t.node.0 (record { 0 = v.page }))) d (reverse (writes_of (one (Back t) k) t)) (holds_all held))

  holds_others : HoldsWritten k t → HoldsWritten (one (Back t) k) t
  holds_others held =
      All-weaker (λ (e : Deed). IfSome e.write (λ v. HoldsBoth k t.node.0 (record { 0 = v.page }))) (λ (e : Deed). IfSome e.write (λ v. HoldsBoth (one (Back t) k) t.node.0 (record { 0 = v.page }))) (λ e was. still e.write was) (reverse (writes_of (one (Back t) k) t)) (All-tail (λ (e : Deed). IfSome e.write (λ v. HoldsBoth k t.node.0 (record { 0 = v.page }))) d (reverse (writes_of (one (Back t) k) t)) (holds_all held))
    where
      both : (x : PageNo) → HoldsBoth k t.node.0 x → HoldsBoth (one (Back t) k) t.node.0 x
      both x was = (ap (λ s. (one (Back t) k).hold (map_of_data s x).0) same_shape ∙ same_hold (map_of_data k.shape x).0 ∙ was.0, same_hold x.0 ∙ was.1)

      still : (o : Option Write) → IfSome o (λ v. HoldsBoth k t.node.0 (record { 0 = v.page })) → IfSome o (λ v. HoldsBoth (one (Back t) k) t.node.0 (record { 0 = v.page }))
      still None was = tt
      still (Some w) was = both (record { 0 = w.page }) was

  pub one_back : (m : Machine) (T : Machine → Type 0) → HoldsWritten k t → dos (backs k t) k ≡ dos (backs m t) m → T (one (Back t) k) → HasTakenBack m t T
  one_back m T held rest shown = record {
    now = one (Back t) k;
    rest = sym (ap (λ ps. dos ps k) more) ∙ rest;
    held = holds_others held;
    shown = shown;
  }

-- where nothing is left, all were
pub all_back : (m : Machine) (t : TxnId) (S : Machine → Type 0) (was : HasTakenBack m t S) → newest_of was.now t ≡ None → S (dos (backs m t) m)
all_back m t S was none =
    let nothing : backs was.now t ≡ [] = ap (λ ds. replicate (length ds) (Back t)) (no_writes t.seat (was.now.pending t.node.0) (none_newest t.seat (was.now.pending t.node.0) none)) in
    subst S (sym (ap (λ ps. dos ps was.now) nothing) ∙ was.rest) was.shown
