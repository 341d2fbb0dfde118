-- What a cluster shows after a transaction was ended, committed or given up.
use Rattle.std.specs.Prelude.{◌≡◌, ◌≢◌, ◌==◌, ◌*◌, ◌<◌, ◌≤◌, ◌++◌, ◌∷◌, [], ℕ, Bool, true, false, not, List, Option, Some, None, All, IfSome, filter, length, map, slice_index_or, slice_set, refl}
use Rattle.std.proofs.Common.{arith, inl, inr, ap, subst, sym, ◌∙◌}
use Rattle.std.proofs.lemmas.Bool.{cases_eq}
use Rattle.std.proofs.lemmas.Bool.Decides.{nat_tests}
use Rattle.std.proofs.lemmas.List.{get_or-set_other, get_or-set_same}
use Rattle.std.proofs.lemmas.List.Elements.{All-filter}
use Rattle.sd_base.specs.Disk.{BlockState}
use Rattle.sd_base.specs.declared.names.TxnId.{TxnId}
use Rattle.sd_base.specs.declared.shape.Shape.{Shape}
use Rattle.log_record.specs.declared.record.LogRecord.{LogRecord}
use Rattle.private_log.specs.Log.{SameLog}
use Rattle.compensation.specs.Left.{is_update_of, next_after}
use Rattle.node_cache.specs.Cache.{CacheState}
use Rattle.txn_core.specs.Seats.{OpenTxn, SeatsState, txn_in}
use Rattle.txn_core.specs.Told.{AreTold, HasRecords}
use Rattle.record_machine.specs.Machine.{Deed, Machine, put}
use Rattle.record_machine.specs.Meaning.{Plain, logged}
use Rattle.record_machine.proofs.Put.{put_same}
use Rattle.record_machine.specs.Parts.{Seal, Unlock, dos}
use Rattle.store_nodes.specs.Shows.{ShowsUp, deeds_in, numbers_of}
use Rattle.store_nodes.proofs.ShownBegin.{numbers-other}
use Rattle.store_nodes.proofs.ShownLogged.{up_logged}

-- the deeds of all seats but one
abbrev pub but_seat : ℕ → List Deed → List Deed
but_seat seat ds = filter (λ d. not (d.seat == seat)) ds

-- it has none among them
pub deeds_gone : (seat : ℕ) (ds : List Deed) → deeds_in seat (but_seat seat ds) ≡ []
deeds_gone seat [] = refl
deeds_gone seat (d ∷ ds) = by (d.seat == seat) refl (deeds_gone seat ds)
  where
    by : (b : Bool) → (d.seat == seat) ≡ b → deeds_in seat (but_seat seat ds) ≡ [] → deeds_in seat (but_seat seat (d ∷ ds)) ≡ []
    by true is rest = rw is rest
    by false is rest = rw is (rw is rest)

-- another seat has all its own
pub deeds_stay : (seat other : ℕ) (ds : List Deed) → other ≢ seat → deeds_in other (but_seat seat ds) ≡ deeds_in other ds
deeds_stay seat other [] apart = refl
deeds_stay seat other (d ∷ ds) apart = by (d.seat == seat) (d.seat == other) refl refl (deeds_stay seat other ds apart)
  where
    by : (a b : Bool) → (d.seat == seat) ≡ a → (d.seat == other) ≡ b → deeds_in other (but_seat seat ds) ≡ deeds_in other ds → deeds_in other (but_seat seat (d ∷ ds)) ≡ deeds_in other (d ∷ ds)
    by true true mine its rest = let a : d.seat ≡ seat = grind (arith, nat_tests) in let b : d.seat ≡ other = grind (arith, nat_tests) in absurd (apart (sym b ∙ a))
    by true false mine its rest = rw mine (rw its rest)
    by false true mine its rest = rw mine (rw its (ap (λ es. d ∷ es) rest))
    by false false mine its rest = rw mine (rw its rest)

module _ (n : ℕ) (s : Shape) (pool : List (Option (List ℕ))) (c d : CacheState) (seats after : SeatsState) (b b' : ℕ → BlockState) (p : Plain) (m : Machine) (t : TxnId) (rec : LogRecord) (alone : (k : ℕ) → (is_update_of k rec ≡ false) × (next_after k rec ≡ None)) where
  -- the numbers of each seat's records
  ended_deeds : t.seat < length seats.seats → after.seats ≡ slice_set seats.seats t.seat None → ShowsUp s pool n c seats b p m
      → (seat : ℕ) → seat < 8 → map (λ (e : Deed). e.number) (deeds_in seat (but_seat t.seat (m.pending n))) ≡ numbers_of (6 * c.log.start) (p.live n ++ rec ∷ []) (txn_in after seat)
  ended_deeds within new was seat low = elim (cases_eq t.seat seat) [
    | inl here ↦
        let free : txn_in after t.seat ≡ None = ap (λ os. slice_index_or os t.seat None) new ∙ get_or-set_same seats.seats t.seat None None within in
        subst (λ k. map (λ (e : Deed). e.number) (deeds_in k (but_seat t.seat (m.pending n))) ≡ numbers_of (6 * c.log.start) (p.live n ++ rec ∷ []) (txn_in after k)) here
        (ap (map (λ (e : Deed). e.number)) (deeds_gone t.seat (m.pending n)) ∙ ap (numbers_of (6 * c.log.start) (p.live n ++ rec ∷ [])) (sym free))
    | inr other ↦
        let same : txn_in after seat ≡ txn_in seats seat = ap (λ os. slice_index_or os seat None) new ∙ get_or-set_other seats.seats t.seat seat None None (λ e. other (sym e)) in
        ap (map (λ (e : Deed). e.number)) (deeds_stay t.seat seat (m.pending n) (λ e. other (sym e)))
        ∙ was.deeds seat low
        ∙ sym (numbers-other (6 * c.log.start) (p.live n) rec (txn_in seats seat) (none_of (txn_in seats seat)))
        ∙ ap (numbers_of (6 * c.log.start) (p.live n ++ rec ∷ [])) (sym same)
  ]
    where
      none_of : (o : Option OpenTxn) → IfSome o (λ u. (is_update_of u.begin rec ≡ false) × (next_after u.begin rec ≡ None))
      none_of None = tt
      none_of (Some u) = alone u.begin

  -- the deeds of the node
  deeds_left : t.node.0 ≡ n → (dos (Seal t ∷ Unlock t ∷ []) m).pending n ≡ but_seat t.seat (m.pending n)
  deeds_left node = ap (λ k. put k (but_seat t.seat (m.pending k)) m.pending n) node ∙ put_same n (but_seat t.seat (m.pending n)) m.pending n refl

  pub up_ended : length seats.seats ≡ 8 → t.node.0 ≡ n → t.seat ≤ 7 → d.pages ≡ c.pages → SameLog c.log d.log
      → after.seats ≡ slice_set seats.seats t.seat None → HasRecords d.log b' (p.live n ++ rec ∷ []) → AreTold after c.log.start (p.live n ++ rec ∷ []) → ShowsUp s pool n c seats b p m
      → ShowsUp s pool n d after b' (logged n rec p) (dos (Seal t ∷ Unlock t ∷ []) m)
  up_ended count node seat pages same new records told was =
      let deeds = deeds_left node in
      up_logged n s pool c d seats after b b' p m (dos (Seal t ∷ Unlock t ∷ []) m) rec pages same refl records told
      (λ k low. ap (λ ds. map (λ (e : Deed). e.number) (deeds_in k ds)) deeds ∙ ended_deeds (omega (arith, seat, count)) new was k low)
      (subst (All (λ (e : Deed). e.seat < 8)) (sym deeds) (All-filter (λ (e : Deed). not (e.seat == t.seat)) (λ (e : Deed). e.seat < 8) (m.pending n) was.within)) was
