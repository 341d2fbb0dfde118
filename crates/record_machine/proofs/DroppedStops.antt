-- Nobody holds a page any more: whatever the node may still lose that held it, it isn't a change of that page.
use Rattle.std.proofs.Common.{◌≡◌, ◌≢◌, ◌⊎◌, inl, inr, ◌+◌, ◌-◌, ◌≤◌, ℕ, Bool, true, false, if◌then◌else◌, List, length, drop, refl, ap, sym, ◌∙◌, arith, Option, Some, None}
use Rattle.std.proofs.lemmas.Bool.{cases_eq}
use Rattle.recovery_theory.specs.Steps.{IsPlaceToCut}
use Rattle.record_machine.specs.CutParts.{DroppedSurvives}
use Rattle.record_machine.specs.Cuts.{behind_cut}
use Rattle.record_machine.specs.Machine.{LooseChange, Machine, is_up, put}
use Rattle.record_machine.specs.Parts.{Drop, behind_page, loose_after_drop, one}
use Rattle.record_machine.specs.Recoverable.{IsKeptBy}
use Rattle.record_machine.proofs.FewLoose.{IsFew, few_of_one, few_resting, same_behind}
use Rattle.record_machine.proofs.Put.{put_other, put_same}
use Rattle.record_machine.proofs.RestSteps.{means_dropped}
use Rattle.record_machine.proofs.StillStops.{still_stops}

-- what a node may lose then is what it might, or what is behind its last change of the page
few_dropped : (m : Machine) (x j : ℕ) → IsFew m x j (loose_after_drop x m j)
few_dropped m x j = by (m.hold x) refl
  where
    from : (o : ℕ) (b : Bool) → is_up (m.mode o) ≡ b → IsFew m x j ((if is_up (m.mode o) then put o (behind_page x (m.loose o)) m.loose else m.loose) j)
    from o false e = rw e (inl refl)
    from o true e = rw e (few_of_one m x o j)

    by : (o : Option ℕ) → m.hold x ≡ o → IsFew m x j (loose_after_drop x m j)
    by None e = rw e (inl refl)
    by (Some o) e = rw e (from o (is_up (m.mode o)) refl)

pub dropped_survives : DroppedSurvives
dropped_survives dirty h p m x s clean = record {
  recoverable = record {
    holds = s.recoverable.holds;
    roomy = s.recoverable.roomy;
    rolled = s.recoverable.rolled;
    shape = s.recoverable.shape;
    first = s.recoverable.first;
    live = s.recoverable.live;
    maps = s.recoverable.maps;
    pages = s.recoverable.pages;
    guard = λ y n e. guard y n e (cases_eq y x);
    stored = s.recoverable.stored;
    begun = s.recoverable.begun;
    seats = λ t busy. (let z = s.recoverable.seats t busy in record { left = z.left; going = z.going; begins = z.begins; writes = z.writes });
    opens = λ k txn us e. (let z = s.recoverable.opens k txn us e in record { who = z.who; node = z.node; busy = z.busy; begins = z.begins });
    below = s.recoverable.below;
    apart = s.recoverable.apart;
    locked = s.recoverable.locked;
    locker = s.recoverable.locker;
    idle = s.recoverable.idle;
    holder = λ y e. holder y e (cases_eq y x);
  };
  means = means_dropped p m x s.means;
  stops = still_stops h m s.recoverable.begun h.devices.disk h.stable h.lock m.mode m.reopening m.locks (put x None m.hold) loose s.stops (λ j. omega arith) (λ j k low high. (same j k (record { low = low; high = high })).0)
      (λ j. (same j (h.stable j) (record { low = omega arith; high = s.recoverable.holds.history.sound j })).1) (λ j k seat key at any e. e) (λ j rest. few_resting h m s.recoverable.begun x s.stops sure j (loose j) rest (few_dropped m x j)) s.stops.owners s.stops.nodes;
}
  where
    sure : h.last x ≤ h.stable (h.guard x)
    sure = (s.recoverable.stored x clean).sure

    loose : ℕ → List LooseChange
    loose = loose_after_drop x m

    same : (j k : ℕ) → IsPlaceToCut h j k → (drop (length (loose j) - (length (h.live j) - k)) (loose j) ≡ behind_cut h m j k) × (length (h.live j) ≤ k + length (loose j))
    same j k at = same_behind h m s.recoverable.begun x s.stops sure j k (loose j) at (few_dropped m x j)

    holder : (y : ℕ) → dirty y ≡ true → (y ≡ x) ⊎ (y ≢ x) → IsKeptBy (one (Drop x) m) y (h.guard y)
    holder y e (inl z) = let never : true ≡ false = sym e ∙ (ap dirty z ∙ clean) in absurd cc
    holder y e (inr d) = kept (s.recoverable.holder y e)
      where
        kept : IsKeptBy m y (h.guard y) → IsKeptBy (one (Drop x) m) y (h.guard y)
        kept (inl z) = inl (put_other x None m.hold y d ∙ z.0, z.1)
        kept (inr z) = inr z

    guard : (y n : ℕ) → put x None m.hold y ≡ Some n → (y ≡ x) ⊎ (y ≢ x) → h.guard y ≡ n
    guard y n e (inl same) = let never : None ≡ Some n = sym (put_same x None m.hold y same) ∙ e in absurd cc
    guard y n e (inr other) = s.recoverable.guard y n (sym (put_other x None m.hold y other) ∙ e)
