-- A page passes to another node: whatever a node may still lose, it isn't a change of that page.
use Rattle.std.proofs.Common.{◌≡◌, ◌≢◌, ◌⊎◌, inl, inr, ◌==◌, ◌&&◌, not, ◌+◌, ◌<◌, ◌≤◌, ℕ, Bool, true, false, if◌then◌else◌, List, length, take, refl, ap, sym, subst, ◌∙◌, arith, Option, Some, None, eq-eqb, ne_eqb, count_by}
use Rattle.std.specs.List.{list_any}
use Rattle.std.proofs.lemmas.Bool.{cases_eq}
use Rattle.sd_base.specs.Shape.{page_count}
use Rattle.space_map.specs.Image.{MapImage}
use Rattle.space_map.specs.PageImage.{ident_of, map_page}
use Rattle.recovery_theory.specs.History.{History, entry_now, image_now}
use Rattle.recovery_theory.specs.Pages.{is_used}
use Rattle.recovery_theory.specs.Steps.{IsPlaceToCut, passed, set_at}
use Rattle.record_machine.specs.CutParts.{TakenSurvives}
use Rattle.record_machine.specs.Cuts.{MayStop, Survives, TakesBackTo, TellsLog, behind_cut, deeds_at, touches}
use Rattle.record_machine.specs.Machine.{Deed, Machine, is_up, put, writes_page}
use Rattle.record_machine.specs.Meaning.{Plain}
use Rattle.record_machine.specs.Parts.{Take, behind_page, loose_after_take, one}
use Rattle.record_machine.specs.Stops.{entries_before, ident_before, pending_before, tail_before}
use Rattle.record_machine.proofs.CutSteps.{told_still}
use Rattle.record_machine.proofs.FewLoose.{IsFew, few_of_one, few_resting, off_page, same_behind}
use Rattle.record_machine.proofs.LockSteps.{means_taken}
use Rattle.record_machine.proofs.RecoverablePages.{taken_begun, taken_recoverable}
use Rattle.record_machine.proofs.StopSteps.{idents_left}
use Rattle.record_machine.proofs.TakenBack.{entries_left, untouched}
use Rattle.record_machine.proofs.ToldNow.{entries_now, ident_now}

module _ (dirty : ℕ → Bool) (h : History) (p : Plain) (m : Machine) (x n : ℕ) (s : Survives dirty h p m) (sure : h.last x ≤ h.stable (h.guard x)) where
  abbrev h' : History
  h' = passed h x n

  abbrev m' : Machine
  m' = one (Take x n) m

  abbrev begun : ℕ → ℕ → ℕ
  begun = s.recoverable.begun

  few : (j : ℕ) → IsFew m x j (m'.loose j)
  few j = by (m.hold x) refl
    where
      from : (o : ℕ) (b : Bool) → (not (o == n) && is_up (m.mode o)) ≡ b → IsFew m x j ((if not (o == n) && is_up (m.mode o) then put o (behind_page x (m.loose o)) m.loose else m.loose) j)
      from o false e = rw e (inl refl)
      from o true e = rw e (few_of_one m x o j)

      by : (o : Option ℕ) → m.hold x ≡ o → IsFew m x j (loose_after_take x n m j)
      by None e = rw e (inl refl)
      by (Some o) e = rw e (from o (not (o == n) && is_up (m.mode o)) refl)

  off : (j k : ℕ) → IsPlaceToCut h j k → list_any (touches x) (behind_cut h m j k) ≡ false
  off j k at = off_page h m begun x s.stops sure j k at

  same : (j k : ℕ) → IsPlaceToCut h j k → (behind_cut h' m' j k ≡ behind_cut h m j k) × (length (h.live j) ≤ k + length (m'.loose j))
  same j k at = same_behind h m begun x s.stops sure j k (m'.loose j) at (few j)

  back : (j k : ℕ) → IsPlaceToCut h' j k → TakesBackTo h' m' s.recoverable.begun j k
  back j k at' = record {
    log = told_still m m' s.recoverable.begun s.recoverable.begun j (h.devices.first j) (take k (h.live j)) (deeds_at h' m' j k) (subst (TellsLog m s.recoverable.begun j (h.devices.first j) (take k (h.live j))) (sym deeds) b.log)
        (λ seat key any. refl) (λ key y e. e) (λ seat key y any e. e) (λ seat key any e. e) (λ seat any e. e) (λ seat any. refl);
    tail = ap (λ l. tail_before j l m.tail j) (same j k at).0 ∙ b.tail;
    ident = λ y lt g. ap (λ l. ident_before l m.ident y) (same j k at).0 ∙ ident y lt g (cases_eq y x);
    entries = λ y map lt g e. ap (λ l. entries_before l m.entries y) (same j k at).0 ∙ entries y map lt g e (cases_eq y x);
    others = λ y how. ap (list_any (touches y)) (same j k at).0 ∙ others y how (cases_eq y x);
    writes = λ y. (let one = ap (λ (ds : List Deed). count_by (writes_page y) ds) deeds in let old = b.writes y in omega (arith, one, old));
  }
    where
      at : IsPlaceToCut h j k
      at = record { low = at'.low; high = at'.high }

      b : TakesBackTo h m s.recoverable.begun j k
      b = s.stops.back j k at

      deeds : deeds_at h' m' j k ≡ deeds_at h m j k
      deeds = ap (λ l. pending_before j l m.pending j) (same j k at).0

      ident : (y : ℕ) → y < page_count m.shape → set_at x n h.guard y ≡ j → (y ≡ x) ⊎ (y ≢ x) → ident_before (behind_cut h m j k) m.ident y ≡ ident_of (h'.image y k)
      ident y lt g (inl e) = rw (eq-eqb y x e) (subst (λ y. y < page_count m.shape → ident_before (behind_cut h m j k) m.ident y ≡ ident_of (image_now h x)) (sym e)
          (λ lt. idents_left x (behind_cut h m j k) m.ident (untouched x (behind_cut h m j k) (off j k at)) ∙ ident_now dirty h p m s.recoverable s.means x lt) lt)
      ident y lt g (inr d) = rw (ne_eqb y x d) (b.ident y lt (rw (ne_eqb y x d) at g))

      entries : (y : ℕ) (map : MapImage) → y < m.shape.maps → set_at x n h.guard y ≡ j → h'.image y k ≡ map_page map → (y ≡ x) ⊎ (y ≢ x) → entries_before (behind_cut h m j k) m.entries y ≡ map.entries
      entries y map lt g i (inl e) = subst (λ y. y < m.shape.maps → entries_before (behind_cut h m j k) m.entries y ≡ map.entries) (sym e)
          (λ lt. entries_left x (behind_cut h m j k) m.entries (off j k at) ∙ entries_now dirty h p m s.recoverable s.means x map lt (rw (eq-eqb y x e) at i)) lt
      entries y map lt g i (inr d) = b.entries y map lt (rw (ne_eqb y x d) at g) (rw (ne_eqb y x d) at i)

      others : (y : ℕ) → (set_at x n h.guard y ≢ j) ⊎ (set_at x 0 h.last y ≤ k) → (y ≡ x) ⊎ (y ≢ x) → list_any (touches y) (behind_cut h m j k) ≡ false
      others y how (inl e) = subst (λ y. list_any (touches y) (behind_cut h m j k) ≡ false) (sym e) (off j k at)
      others y (inl g) (inr d) = b.others y (inl (rw (ne_eqb y x d) at g))
      others y (inr l) (inr d) = b.others y (inr (rw (ne_eqb y x d) at l))

  pub taken_stops : MayStop h' m' s.recoverable.begun
  taken_stops = record {
    enough = λ j. (same j (h.stable j) (record { low = omega arith; high = s.recoverable.holds.history.sound j })).1;
    back = back;
    used = λ y k at in_use. used y k at in_use (cases_eq y x);
    resting = λ j rest. few_resting h m s.recoverable.begun x s.stops sure j (m'.loose j) rest (few j);
    owners = s.stops.owners;
    nodes = s.stops.nodes;
  }
    where
      used : (y k : ℕ) → IsPlaceToCut h' (set_at x n h.guard y) k → is_used (h'.entry y k) ≡ true → (y ≡ x) ⊎ (y ≢ x) → h'.entry y k ≡ entry_now h' y
      used y k at in_use (inl e) = rw (eq-eqb y x e) refl
      used y k at in_use (inr d) =
          let at' = subst (λ g. IsPlaceToCut h' g k) (rw (ne_eqb y x d) refl) at in
          rw (ne_eqb y x d) (s.stops.used y k (record { low = at'.low; high = at'.high }) (rw (ne_eqb y x d) at in_use))

pub taken_survives : TakenSurvives
taken_survives dirty h p m x n s clean map_held = record {
  recoverable = taken_recoverable dirty h p m x n s.recoverable clean map_held;
  means = means_taken p m x n s.means;
  stops = subst (MayStop (passed h x n) (one (Take x n) m)) (sym (taken_begun dirty h p m x n s.recoverable clean map_held)) (taken_stops dirty h p m x n s (s.recoverable.stored x clean).sure);
}
