-- Each further elementary step keeps the records.
use Rattle.std.proofs.Common.{◌≡◌, ◌≢◌, ◌⊎◌, inl, inr, ℕ, suc, ◌+◌, ◌≤◌, ◌&&◌, Bool, true, false, cond, eqb, List, [], ◌∷◌, length, refl, ap, sym, subst, ◌∙◌, arith, Some, None, eq-eqb, ne_eqb, take_all}
use Rattle.std.proofs.lemmas.Bool.{cases_eq}
use mathlib.Core.Path.{fun_ext}
use Rattle.log_record.specs.declared.record.LogRecord.{LogRecord}
use Rattle.recovery_theory.specs.Effect.{Transaction, OpenUpdate, of_slot, open_updates, listed, left_of, effect_of, down_to}
use Rattle.recovery_theory.specs.Effect.Effect.{Begun, Compensated}
use Rattle.recovery_theory.specs.History.{logs_at, History, IsHistory, IsCut, entry_at, image_now, entry_now}
use Rattle.recovery_theory.specs.Records.{ArchiveKeepsRecords, BeginKeepsRecords, CompensationKeepsRecords, ForceKeepsRecords, HasRecords, Holds, LocksKeepRecords, LossKeepsRecords, MoveKeepsRecords, PassKeepsRecords, PurgeKeepsRecords, RedoKeepsRecords, WriteKeepsRecords}
use Rattle.recovery_theory.specs.Pages.{SlotValue, place_of, is_used}
use Rattle.recovery_theory.specs.Steps.{with_record, set_at, passed, moved, forced}
use Rattle.space_map.specs.declared.map_entry.MapEntry.{MapEntry}
use Rattle.recovery_theory.proofs.PartialRedo.{redo_broken_off}
use Rattle.recovery_theory.proofs.Compensations.{compensates}
use Rattle.recovery_theory.proofs.Cuts.{at_or_off, set_at-same, set_at-other}
use Rattle.recovery_theory.proofs.UpdatedRecords.{logged_holds}
use Rattle.recovery_theory.proofs.BeginsAndLocks.{begins, locks_change, left_of-new}
use Rattle.recovery_theory.proofs.LogMoves.{purges, moves, up_legal, moved_open, moved_at}
use Rattle.recovery_theory.proofs.OpenUpdates.{transaction, transaction_cases, open-here, open-by}
use Rattle.recovery_theory.proofs.Stops.{forces}
use Rattle.recovery_theory.proofs.Updates.{of_slot-same}
use Rattle.recovery_theory.proofs.PageWrites.{writes, loses, archives, passes, steady_at}
use Rattle.space_map.specs.PageImage.{changed, ident_of}

-- what is left is left of a used page
page_is_used : (p : History) (n t x : ℕ) (u : OpenUpdate) (us : List OpenUpdate) (records : ℕ → SlotValue) → Holds p records → left_of t (p.devices.first n) (p.live n) None ≡ Some (u ∷ us) → u.page ≡ x → is_used (entry_now p x) ≡ true
page_is_used p n t x u us records h o page = (h.pending end (λ m. (h.history.sound m, omega arith)) x (place_of u.back) (transaction n t) there).1
  where
    end : ℕ → ℕ
    end m = length (p.live m)

    there : of_slot x (place_of u.back) (open_updates p.devices.first (logs_at p end) (transaction n t)) ≢ []
    there z =
        let is : open_updates p.devices.first (logs_at p end) (transaction n t) ≡ u ∷ us = rw (take_all (length (p.live n)) (p.live n) (omega arith), o) refl in
        let k : of_slot x (place_of u.back) (u ∷ us) ≡ u ∷ of_slot x (place_of u.back) us = of_slot-same x (place_of u.back) u us page refl in
        let z' : of_slot x (place_of u.back) (u ∷ us) ≡ [] = ap (of_slot x (place_of u.back)) (sym is) ∙ z in
        absurd cc

-- a compensation leaves no more of a slot
compensation_less : (first : ℕ → ℕ) (logs : ℕ → List LogRecord) (n t next x b : ℕ) (u : OpenUpdate) (us : List OpenUpdate) (r : LogRecord) → effect_of r ≡ Compensated t next x b u.back → down_to next (u ∷ us) ≡ us → left_of t (first n) (logs n) None ≡ Some (u ∷ us) → (y s : ℕ) (w : Transaction)
    → of_slot y s (open_updates first logs w) ≡ [] → (w ≡ transaction n t) ⊎ (w ≢ transaction n t) → of_slot y s (open_updates first (with_record n r logs) w) ≡ []
compensation_less first logs n t next x b u us r is links e y s w z (inr d) = ap (of_slot y s) (open-by first n r logs w (λ k q. rw (is, ne_eqb t k (λ j. d (q ∙ ap (transaction n) (sym j)))) refl)) ∙ z
compensation_less first logs n t next x b u us r is links e y s w z (inl h) =
    let now : open_updates first (with_record n r logs) (transaction n t) ≡ us = open-here first n r logs t ∙ rw (is, eq-eqb t t refl, e) links in
    let was : open_updates first logs (transaction n t) ≡ u ∷ us = rw e refl in
    let z' : of_slot y s (u ∷ us) ≡ [] = ap (of_slot y s) (sym was ∙ ap (open_updates first logs) (sym h)) ∙ z in
    ap (λ k. of_slot y s (open_updates first (with_record n r logs) k)) h ∙ (ap (of_slot y s) now ∙ less (eqb u.page y && eqb (place_of u.back) s) z')
  where
    less : (c : Bool) → cond c (u ∷ of_slot y s us) (of_slot y s us) ≡ [] → of_slot y s us ≡ []
    less true q = absurd cc
    less false q = q

-- a beginning leaves what is left
begin_same : (first : ℕ → ℕ) (n : ℕ) (r : LogRecord) (logs : ℕ → List LogRecord) (w : Transaction) → effect_of r ≡ Begun → open_updates first (with_record n r logs) w ≡ open_updates first logs w
begin_same first n r logs w is = open-by first n r logs w (λ u e. rw is (new (logs n) u (cases_eq (first n + length (logs n)) u)))
  where
    new : (l : List LogRecord) (u : ℕ) → (first n + length l ≡ u) ⊎ (first n + length l ≢ u) → listed (cond (eqb (first n + length l) u) (Some []) (left_of u (first n) l None)) ≡ listed (left_of u (first n) l None)
    new l u (inl e) = rw (eq-eqb (first n + length l) u e, left_of-new u (first n) l (omega arith)) refl
    new l u (inr d) = rw (ne_eqb (first n + length l) u d) refl

-- a page has the entry that it had
moved_now : (p : History) (n c y : ℕ) → entry_now p y ≡ entry_now (moved p n c) y
moved_now p n c y = go (cases_eq (p.guard y) n)
  where
    go : (p.guard y ≡ n) ⊎ (p.guard y ≢ n) → entry_now p y ≡ entry_now (moved p n c) y
    go (inl g) = rw (eq-eqb (p.guard y) n g) refl
    go (inr d) = rw (ne_eqb (p.guard y) n d) refl

-- a cut behind what is stable now is one behind what was
wider : (p : History) (n k : ℕ) → p.stable n ≤ k → (cut : ℕ → ℕ) → IsCut (forced p n k) cut → IsCut p cut
wider p n k low cut is = at_or_off (λ m. (p.stable m ≤ cut m) × (cut m ≤ length (p.live m))) n
    (let h = rw (set_at-same n k p.stable) at (is n).0 in (omega arith, (is n).1))
    (λ m d. (rw (set_at-other n k p.stable m d) at (is m).0, (is m).1))

passed_same : (p : History) (x m : ℕ) → IsHistory p → p.last x ≤ p.stable (p.guard x) → (cut : ℕ → ℕ) → IsCut p cut → (y : ℕ) → entry_at p cut y ≡ entry_at (passed p x m) cut y
passed_same p x m history last cut is y = go (cases_eq y x)
  where
    go : (y ≡ x) ⊎ (y ≢ x) → entry_at p cut y ≡ entry_at (passed p x m) cut y
    go (inl e) = rw (e, eq-eqb x x refl) (steady_at p x cut history last is).1
    go (inr d) = rw (ne_eqb y x d) refl

passed_now : (p : History) (x m : ℕ) (y : ℕ) → entry_now p y ≡ entry_now (passed p x m) y
passed_now p x m y = go (cases_eq y x)
  where
    go : (y ≡ x) ⊎ (y ≢ x) → entry_now p y ≡ entry_now (passed p x m) y
    go (inl e) = rw (e, eq-eqb x x refl) refl
    go (inr d) = rw (ne_eqb y x d) refl

pub compensation_keeps : CompensationKeepsRecords
compensation_keeps p n t x next u us r records h c =
    logged_holds p n r (set_at x (changed u.back (image_now p x)) (image_now p)) (set_at x (suc (length (p.live n))) p.last) records h
    (compensates p n t x next u us r h.history c (page_is_used p n t x u us records h c.newest c.page_is))
    (λ logs e y s w k. inl (λ z. k (compensation_less p.devices.first logs n t next x (ident_of (image_now p x)) u us r c.effect c.next_is (rw e c.newest) y s w z (transaction_cases w (transaction n t)))))

pub begin_keeps : BeginKeepsRecords
begin_keeps p n r records h is = logged_holds p n r (image_now p) p.last records h (begins p n r h.history is) (λ logs e y s w k. inl (λ z. k (ap (of_slot y s) (begin_same p.devices.first n r logs w is) ∙ z)))

pub write_keeps : WriteKeepsRecords
write_keeps p x r h last = record { history = writes p x h.history last; keys = h.keys; pending = h.pending }

pub loss_keeps : LossKeepsRecords
loss_keeps p x r h = record { history = loses p x h.history; keys = h.keys; pending = h.pending }

pub archive_keeps : ArchiveKeepsRecords
archive_keeps p x r h last clean = record { history = archives p x h.history last clean; keys = h.keys; pending = h.pending }

pub purge_keeps : PurgeKeepsRecords
purge_keeps p n gone l r h may = record { history = purges p n gone l h.history may; keys = h.keys; pending = h.pending }

pub redo_keeps : RedoKeepsRecords
redo_keeps p n disk r h how = record { history = redo_broken_off p n disk h.history how; keys = h.keys; pending = h.pending }

pub locks_keep : LocksKeepRecords
locks_keep p lock r h may = record { history = locks_change p lock h.history may; keys = h.keys; pending = h.pending }

pub force_keeps : ForceKeepsRecords
force_keeps p n k r h place = record {
  history = forces p n k h.history place;
  keys = λ cut is. h.keys cut (wider p n k place.low cut is);
  pending = λ cut is. h.pending cut (wider p n k place.low cut is);
}

pub pass_keeps : PassKeepsRecords
pass_keeps p x m r h may = record {
  history = passes p x m h.history may;
  keys = λ cut is. subst (λ (f : ℕ → MapEntry). HasRecords p.devices.shape f p.settled r) (fun_ext (passed_same p x m h.history may.stable cut is)) (h.keys cut is);
  pending = λ cut is y s o k. let e = h.pending cut is y s o k in (sym (passed_same p x m h.history may.stable cut is y) ∙ (e.0 ∙ passed_now p x m y), ap is_used (sym (passed_now p x m y)) ∙ e.1);
}

pub move_keeps : MoveKeepsRecords
move_keeps p n c r h may = record {
  history = moves p n c h.history may;
  keys = λ cut is. subst (λ (f : ℕ → MapEntry). HasRecords p.devices.shape f p.settled r) (fun_ext (moved_at p n c h.history may p.entry cut)) (h.keys (set_at n (length (p.live n)) cut) (up_legal p n c h.history may cut is));
  pending = λ cut is y s o k.
      let e = h.pending (set_at n (length (p.live n)) cut) (up_legal p n c h.history may cut is) y s o (λ z. k (ap (of_slot y s) (moved_open p n c h.history may cut is o) ∙ z)) in
      (sym (moved_at p n c h.history may p.entry cut y) ∙ (e.0 ∙ moved_now p n c y), ap is_used (sym (moved_now p n c y)) ∙ e.1);
}
