-- What pages that a node takes leave of the machine, and who holds them then.
use Rattle.std.specs.Prelude.{◌≡◌, ◌++◌, ◌∷◌, [], ⊤, ℕ, List, Option, Some, None, All, IfSome, reverse, refl}
use Rattle.std.specs.List.{flat_map}
use Rattle.std.proofs.Common.{ap, subst, sym, ◌∙◌}
use Rattle.std.proofs.lemmas.List.Elements.{All-cons, All-nil}
use Rattle.sd_base.specs.Places.{map_of_data}
use Rattle.sd_base.specs.declared.names.TxnId.{TxnId}
use Rattle.record_machine.specs.Commands.{takes_back, takes_written}
use Rattle.record_machine.specs.Machine.{Deed, Machine, Write, writes_of}
use Rattle.record_machine.specs.Parts.{Part, Take, dos, one}
use Rattle.record_machine.proofs.Put.{at_or_off, put_same}
use Rattle.store_commands.specs.Aborts.{HoldsBoth, HoldsWritten}
use Rattle.store_commands.proofs.Takings.{AllTake, all_take}

-- what one page that is taken leaves, they all leave
pub taken_keeps : {A : Type 0} (f : Machine → A) (n : ℕ) (ps : List Part) (m : Machine) → ((k : Machine) (x : ℕ) → f (one (Take x n) k) ≡ f k) → AllTake n ps → f (dos ps m) ≡ f m
taken_keeps f n [] m keeps all = refl
taken_keeps f n (Take x k ∷ ps) m keeps all =
    taken_keeps f n ps (one (Take x k) m) keeps all.1 ∙ subst (λ j. f (one (Take x j) m) ≡ f m) (sym all.0) (keeps m x)
taken_keeps f n (part ∷ ps) m keeps all = absurd all

-- so the transaction has written what it had
writes_same : (a b : Machine) (t : TxnId) → a.pending ≡ b.pending → writes_of a t ≡ writes_of b t
writes_same a b t is = rw is refl

pub writes_taken : (n : ℕ) (ps : List Part) (m : Machine) (t : TxnId) → AllTake n ps → writes_of (dos ps m) t ≡ writes_of m t
writes_taken n ps m t all = writes_same (dos ps m) m t (taken_keeps (λ k. k.pending) n ps m (λ k x. refl) all)

-- ---- who holds them

pub hold_still : (n x : ℕ) (ps : List Part) (m : Machine) → AllTake n ps → m.hold x ≡ Some n → (dos ps m).hold x ≡ Some n
hold_still n x [] m all held = held
hold_still n x (Take y k ∷ ps) m all held = hold_still n x ps (one (Take y k) m) all.1 (at_or_off (λ o. o ≡ Some n) y (Some k) m.hold x (λ here. ap Some all.0) (λ far. held))
hold_still n x (part ∷ ps) m all held = absurd all

-- the node holds each page that one of these parts takes
abbrev pub HoldsTaken : Machine → ℕ → List Part → Type 0
HoldsTaken m n [] = ⊤
HoldsTaken m n (Take x k ∷ ps) = (m.hold x ≡ Some n) × HoldsTaken m n ps
HoldsTaken m n (part ∷ ps) = HoldsTaken m n ps

pub holds_taken : (n : ℕ) (ps : List Part) (m : Machine) → AllTake n ps → HoldsTaken (dos ps m) n ps
holds_taken n [] m all = tt
holds_taken n (Take x k ∷ ps) m all =
    (hold_still n x ps (one (Take x k) m) all.1 (put_same x (Some k) m.hold x refl ∙ ap Some all.0), holds_taken n ps (one (Take x k) m) all.1)
holds_taken n (part ∷ ps) m all = absurd all

taken_front : (m : Machine) (n : ℕ) (ps qs : List Part) → HoldsTaken m n (ps ++ qs) → HoldsTaken m n ps × HoldsTaken m n qs
taken_front m n [] qs all = (tt, all)
taken_front m n (Take x k ∷ ps) qs all = let rest = taken_front m n ps qs all.1 in ((all.0, rest.0), rest.1)
taken_front m n (part ∷ ps) qs all = taken_front m n ps qs all

-- ---- the pages of what a transaction has written

pub written_take : (s : Machine) (n : ℕ) (ds : List Deed) → AllTake n (flat_map (takes_written s n) ds)
written_take s n [] = tt
written_take s n (d ∷ ds) = all_take n (takes_written s n d) (flat_map (takes_written s n) ds) (by d.write refl) (written_take s n ds)
  where
    by : (o : Option Write) → d.write ≡ o → AllTake n (takes_written s n d)
    by None is = rw is tt
    by (Some w) is = rw is (refl, (refl, tt))

written_held : (s m : Machine) (n : ℕ) (ds : List Deed) → m.shape ≡ s.shape → HoldsTaken m n (flat_map (takes_written s n) ds) → All (λ d. IfSome d.write (λ w. HoldsBoth m n (record { 0 = w.page }))) ds
written_held s m n [] shape all = All-nil (λ d. IfSome d.write (λ w. HoldsBoth m n (record { 0 = w.page })))
written_held s m n (d ∷ ds) shape all =
    let parts = taken_front m n (takes_written s n d) (flat_map (takes_written s n) ds) all in
    All-cons (λ e. IfSome e.write (λ w. HoldsBoth m n (record { 0 = w.page }))) d ds (by d.write refl parts.0) (written_held s m n ds shape parts.1)
  where
    both : (w : Write) → d.write ≡ Some w → HoldsTaken m n (takes_written s n d) → HoldsBoth m n (record { 0 = w.page })
    both w is held =
        let these : HoldsTaken m n (Take (map_of_data s.shape (record { 0 = w.page })).0 n ∷ Take w.page n ∷ []) = subst (λ (ps : List Part). HoldsTaken m n ps) (of_some w is) held in
        (subst (λ z. m.hold (map_of_data z (record { 0 = w.page })).0 ≡ Some n) (sym shape) these.0, these.1.0)
      where
        of_some : (w : Write) → d.write ≡ Some w → takes_written s n d ≡ Take (map_of_data s.shape (record { 0 = w.page })).0 n ∷ Take w.page n ∷ []
        of_some w is = rw is refl

    by : (o : Option Write) → d.write ≡ o → HoldsTaken m n (takes_written s n d) → IfSome d.write (λ w. HoldsBoth m n (record { 0 = w.page }))
    by None is held = subst (λ o. IfSome o (λ w. HoldsBoth m n (record { 0 = w.page }))) (sym is) tt
    by (Some w) is held = subst (λ o. IfSome o (λ w. HoldsBoth m n (record { 0 = w.page }))) (sym is) (both w is held)

pub all_written : (m : Machine) (t : TxnId) → AllTake t.node.0 (takes_back m t)
all_written m t = written_take m t.node.0 (reverse (writes_of m t))

-- once they are taken, the node holds them
pub holds_written : (m : Machine) (t : TxnId) → HoldsWritten (dos (takes_back m t) m) t
holds_written m t =
    let n = t.node.0 in
    let k : Machine = dos (takes_back m t) m in
    let all = all_written m t in
    let shape = taken_keeps (λ j. j.shape) n (takes_back m t) m (λ j x. refl) all in
    subst (λ (es : List Deed). All (λ d. IfSome d.write (λ w. HoldsBoth k n (record { 0 = w.page }))) (reverse es)) (sym (writes_taken n (takes_back m t) m t all))
    (written_held m k n (reverse (writes_of m t)) shape (holds_taken n (takes_back m t) m all))
