-- Updates and stops keep the records.
use Rattle.std.proofs.Common.{◌≡◌, ◌≢◌, ◌⊎◌, inl, inr, ℕ, suc, ◌<◌, ◌≤◌, Bool, true, false, leb, List, [], length, take, refl, ap, sym, subst, ◌∙◌, arith, Some, None, eq-eqb, take_all, length-take-le, leb-true, leb-false}
use Rattle.std.proofs.lemmas.Bool.{cases_eq}
use mathlib.Core.Path.{fun_ext}
use Rattle.log_record.specs.declared.record.LogRecord.{LogRecord}
use Rattle.recovery_theory.specs.Effect.{Transaction, of_slot, listed, left_of, open_updates}
use Rattle.recovery_theory.specs.History.{History, IsHistory, IsCut, logs_at, entry_at, image_now, entry_now}
use Rattle.recovery_theory.specs.Records.{HasRecords, Holds, UpdateKeepsRecords, StopKeepsRecords}
use Rattle.recovery_theory.specs.Pages.{SlotValue, is_used}
use Rattle.recovery_theory.specs.Steps.{with_record, set_at, with_last_cut, logged, stopped}
use Rattle.space_map.specs.declared.map_entry.MapEntry.{MapEntry}
use Rattle.recovery_theory.proofs.Cuts.{set_at-same, set_at-other, with_last_cut-below, with_last_cut-above, entry_at-above, entry_now-above, LongCut, long_cut, below_legal, below_same, above_same, above_legal}
use Rattle.recovery_theory.proofs.OpenUpdates.{transaction, transaction_cases}
use Rattle.recovery_theory.proofs.Stops.{stopped_at, stopped_cut, stopped_logs, stops}
use Rattle.recovery_theory.proofs.Updates.{updates, open-update, open-update_other, of_slot-other, open_update_of}
use Rattle.space_map.specs.PageImage.{changed, PageImage, ident_of}

-- a record that opens updates on used pages of its own node alone
pub logged_holds : (p : History) (n : ℕ) (r : LogRecord) (now : ℕ → PageImage) (last : ℕ → ℕ) (records : ℕ → SlotValue) → Holds p records
    → IsHistory (logged p n r (entry_now p) now last)
    → ((logs : ℕ → List LogRecord) → logs n ≡ p.live n → (x s : ℕ) (o : Transaction) → of_slot x s (open_updates p.devices.first (with_record n r logs) o) ≢ []
    → (of_slot x s (open_updates p.devices.first logs o) ≢ []) ⊎ ((p.guard x ≡ n) × (is_used (entry_now p x) ≡ true)))
    → Holds (logged p n r (entry_now p) now last) records
logged_holds p n r now last records holds history opens = record {
  history = history;
  keys = λ cut is. keys cut (long_cut p n r cut is) (leb (cut n) (length (p.live n))) refl;
  pending = λ cut is x s o h. pending cut (long_cut p n r cut is) x s o h (leb (cut n) (length (p.live n))) refl;
}
  where
    up : (ℕ → ℕ) → ℕ → ℕ
    up cut = set_at n (length (p.live n)) cut

    keys : (cut : ℕ → ℕ) → LongCut p n r cut → (t : Bool) → leb (cut n) (length (p.live n)) ≡ t → HasRecords p.devices.shape (λ y. with_last_cut p n p.entry (entry_now p) y (cut (p.guard y))) p.settled records
    keys cut c true e =
        let le : cut n ≤ length (p.live n) = leb-true (cut n) (length (p.live n)) e in
        subst (λ (f : ℕ → MapEntry). HasRecords p.devices.shape f p.settled records) (fun_ext (λ y. with_last_cut-below p n p.entry (entry_now p) y cut le)) (holds.keys cut (below_legal p n r cut c le))
    keys cut c false e =
        let lt : length (p.live n) < cut n = leb-false (cut n) (length (p.live n)) e in
        subst (λ (f : ℕ → MapEntry). HasRecords p.devices.shape f p.settled records) (fun_ext (entry_at-above p n cut lt)) (holds.keys (set_at n (length (p.live n)) cut) (above_legal p n r cut (holds.history.sound n) c))

    pending : (cut : ℕ → ℕ) → LongCut p n r cut → (x s : ℕ) (o : Transaction) → of_slot x s (open_updates p.devices.first (λ m. take (cut m) (with_record n r p.live m)) o) ≢ [] → (t : Bool) → leb (cut n) (length (p.live n)) ≡ t
        → (with_last_cut p n p.entry (entry_now p) x (cut (p.guard x)) ≡ with_last_cut p n p.entry (entry_now p) x (length (with_record n r p.live (p.guard x)))) × ((is_used (with_last_cut p n p.entry (entry_now p) x (length (with_record n r p.live (p.guard x))))) ≡ true)
    pending cut c x s o h true e =
        let le : cut n ≤ length (p.live n) = leb-true (cut n) (length (p.live n)) e in
        let old = holds.pending cut (below_legal p n r cut c le) x s o (λ z. h (ap (λ l. of_slot x s (listed (left_of o.txn (p.devices.first o.node) l None))) (sym (below_same p n r cut le o.node)) ∙ z)) in
        (sym (with_last_cut-below p n p.entry (entry_now p) x cut le) ∙ (old.0 ∙ entry_now-above p n r x), ap is_used (sym (entry_now-above p n r x)) ∙ old.1)
    pending cut c x s o h false e =
        let lt : length (p.live n) < cut n = leb-false (cut n) (length (p.live n)) e in
        let here : logs_at p (set_at n (length (p.live n)) cut) n ≡ p.live n = rw (set_at-same n (length (p.live n)) cut) (take_all (length (p.live n)) (p.live n) (omega arith)) in
        let h' : of_slot x s (open_updates p.devices.first (with_record n r (logs_at p (set_at n (length (p.live n)) cut))) o) ≢ [] = λ z. h (ap (λ l. of_slot x s (listed (left_of o.txn (p.devices.first o.node) l None))) (sym (above_same p n r cut lt o.node)) ∙ z) in
        go lt (opens (logs_at p (set_at n (length (p.live n)) cut)) here x s o h')
      where
        go : length (p.live n) < cut n → (of_slot x s (open_updates p.devices.first (logs_at p (set_at n (length (p.live n)) cut)) o) ≢ []) ⊎ ((p.guard x ≡ n) × (is_used (entry_now p x) ≡ true))
            → (with_last_cut p n p.entry (entry_now p) x (cut (p.guard x)) ≡ with_last_cut p n p.entry (entry_now p) x (length (with_record n r p.live (p.guard x)))) × ((is_used (with_last_cut p n p.entry (entry_now p) x (length (with_record n r p.live (p.guard x))))) ≡ true)
        go lt (inl k) =
            let old = holds.pending (set_at n (length (p.live n)) cut) (above_legal p n r cut (holds.history.sound n) c) x s o k in
            (sym (entry_at-above p n cut lt x) ∙ (old.0 ∙ entry_now-above p n r x), ap is_used (sym (entry_now-above p n r x)) ∙ old.1)
        go lt (inr (g, u)) =
            let at : with_last_cut p n p.entry (entry_now p) x (cut (p.guard x)) ≡ entry_now p x = sym (with_last_cut-above p n p.entry (entry_now p) x cut lt) ∙ rw (eq-eqb (p.guard x) n g) refl in
            (at ∙ entry_now-above p n r x, ap is_used (sym (entry_now-above p n r x)) ∙ u)

pub update_keeps : UpdateKeepsRecords
update_keeps p n t x op back r us records holds u =
    logged_holds p n r (set_at x (changed op (image_now p x)) (image_now p)) (set_at x (suc (length (p.live n))) p.last) records holds
    (updates p n t x op back r us holds.history u)
    (λ logs e y s o h. opens logs e y s o h (transaction_cases o (transaction n t)) (cases_eq x y))
  where
    opens : (logs : ℕ → List LogRecord) → logs n ≡ p.live n → (y s : ℕ) (o : Transaction) → of_slot y s (open_updates p.devices.first (with_record n r logs) o) ≢ []
        → (o ≡ transaction n t) ⊎ (o ≢ transaction n t) → (x ≡ y) ⊎ (x ≢ y) → (of_slot y s (open_updates p.devices.first logs o) ≢ []) ⊎ ((p.guard y ≡ n) × (is_used (entry_now p y) ≡ true))
    opens logs e y s o h a (inl z) = inr (ap p.guard (sym z) ∙ u.guarded, ap (λ k. is_used (entry_now p k)) (sym z) ∙ u.used)
    opens logs e y s o h (inr d) (inr z) = inl (λ k. h (ap (of_slot y s) (open-update_other p.devices logs n t x (ident_of (image_now p x)) op back r o u.effect d) ∙ k))
    opens logs e y s o h (inl a) (inr z) =
        let opened : left_of t (p.devices.first n) (logs n) None ≡ Some us = rw e u.is_open in
        inl (λ k. h (ap (λ w. of_slot y s (open_updates p.devices.first (with_record n r logs) w)) a
        ∙ (ap (of_slot y s) (open-update p.devices logs n t x (ident_of (image_now p x)) op back r us u.effect opened)
        ∙ (of_slot-other y s (open_update_of p.devices logs n x op back) (open_updates p.devices.first logs (transaction n t)) (inl z) ∙ (ap (λ w. of_slot y s (open_updates p.devices.first logs w)) (sym a) ∙ k)))))

pub stop_keeps : StopKeepsRecords
stop_keeps p n k records holds place = record {
  history = stops p n k holds.history place;
  keys = λ cut is. holds.keys cut (stopped_cut p n k place cut is);
  pending = λ cut is x s o h. pending cut is x s o h (cases_eq (p.guard x) n);
}
  where
    pending : (cut : ℕ → ℕ) → IsCut (stopped p n k) cut → (x s : ℕ) (o : Transaction) → of_slot x s (open_updates p.devices.first (logs_at (stopped p n k) cut) o) ≢ [] → (p.guard x ≡ n) ⊎ (p.guard x ≢ n)
        → (entry_at p cut x ≡ entry_now (stopped p n k) x) × (is_used (entry_now (stopped p n k) x) ≡ true)
    pending cut is x s o h g =
        let before = holds.pending cut (stopped_cut p n k place cut is) x s o (λ z. h (ap (λ l. of_slot x s (listed (left_of o.txn (p.devices.first o.node) l None))) (sym (stopped_logs p n k place cut is o.node)) ∙ z)) in
        let e = now g in
        (e, ap is_used (sym e ∙ before.0) ∙ before.1)
      where
        now : (p.guard x ≡ n) ⊎ (p.guard x ≢ n) → entry_at p cut x ≡ entry_now (stopped p n k) x
        now (inl z) =
            let l : length (set_at n (take k (p.live n)) p.live (p.guard x)) ≡ k = rw (z, set_at-same n (take k (p.live n)) p.live) (length-take-le k (p.live n) place.high) in
            let c : cut (p.guard x) ≡ k = rw z (stopped_at p n k place cut is) in
            ap (p.entry x) (c ∙ sym l)
        now (inr d) =
            let before = holds.pending cut (stopped_cut p n k place cut is) x s o (λ z. h (ap (λ l. of_slot x s (listed (left_of o.txn (p.devices.first o.node) l None))) (sym (stopped_logs p n k place cut is o.node)) ∙ z)) in
            before.0 ∙ ap (p.entry x) (ap (λ (l : List LogRecord). length l) (sym (set_at-other n (take k (p.live n)) p.live (p.guard x) d)))
