-- The slots of a page that comes into use get the locks that transactions have of the records of its group.
use Rattle.std.proofs.Common.{◌≡◌, ◌≢◌, ◌⊎◌, inl, inr, ℕ, Bool, true, false, leb, [], length, refl, ap, sym, ◌∙◌, Option, None, leb-true, leb-false}
use Rattle.std.proofs.lemmas.Bool.{cases_eq}
use Rattle.sd_base.specs.Places.{page_of_place}
use Rattle.sd_base.specs.declared.names.GroupNo.{GroupNo}
use Rattle.sd_base.specs.declared.page_op.PageOp.TheVariants.{MapUse}
use Rattle.space_map.specs.PageImage.{ident_of}
use Rattle.log_record.specs.declared.record.LogRecord.{LogRecord}
use Rattle.recovery_theory.specs.Pages.{SlotValue, is_used}
use Rattle.recovery_theory.specs.Effect.{Transaction, left_of, listed, of_slot, open_updates}
use Rattle.recovery_theory.specs.History.{History, IsCut, entry_now, image_now, logs_at}
use Rattle.recovery_theory.specs.Steps.{IsPlaceUse, set_at, used_page}
use Rattle.recovery_theory.specs.Records.{Holds, UseWithLocksKeepsRecords}
use Rattle.recovery_theory.proofs.Cuts.{LongCut, above_legal, above_same, below_legal, below_same, long_cut, set_at-other}
use Rattle.recovery_theory.proofs.KeptRecords.{locks_keep}
use Rattle.recovery_theory.proofs.MappedRecords.{nothing_left, use_keeps}
use Rattle.recovery_theory.proofs.PlaceFrees.{open-map}

-- nothing is left of the page, also at the cuts behind the record that brings it into use
nothing_left_then : (p : History) (n m q : ℕ) (g : GroupNo) (r : LogRecord) (records : ℕ → SlotValue) → Holds p records → IsPlaceUse p n m q g r → is_used (entry_now p (page_of_place p.devices.shape m q)) ≡ false
    → (cut : ℕ → ℕ) → IsCut (used_page p n r m q g) cut → (s : ℕ) (o : Transaction) → of_slot (page_of_place p.devices.shape m q) s (open_updates p.devices.first (logs_at (used_page p n r m q g) cut) o) ≡ []
nothing_left_then p n m q g r records holds use_it free cut is s o = by (leb (cut n) (length (p.live n))) refl
  where
    x : ℕ
    x = page_of_place p.devices.shape m q

    long : LongCut p n r cut
    long = long_cut p n r cut is

    by : (b : Bool) → leb (cut n) (length (p.live n)) ≡ b → of_slot (page_of_place p.devices.shape m q) s (open_updates p.devices.first (logs_at (used_page p n r m q g) cut) o) ≡ []
    by true e =
        let le = leb-true (cut n) (length (p.live n)) e in
        ap (λ l. of_slot x s (listed (left_of o.txn (p.devices.first o.node) l None))) (sym (below_same p n r cut le o.node)) ∙ nothing_left p x records holds free cut (below_legal p n r cut long le) s o
    by false e =
        let lt = leb-false (cut n) (length (p.live n)) e in
        ap (λ l. of_slot x s (listed (left_of o.txn (p.devices.first o.node) l None))) (sym (above_same p n r cut lt o.node))
        ∙ (ap (of_slot x s) (open-map p.devices.first n m (ident_of (image_now p m)) (MapUse q g) r (logs_at p (set_at n (length (p.live n)) cut)) o use_it.effect)
        ∙ nothing_left p x records holds free (set_at n (length (p.live n)) cut) (above_legal p n r cut (holds.history.sound n) long) s o)

pub use_with_locks_keeps : UseWithLocksKeepsRecords
use_with_locks_keeps p n m q g r lock records holds use_it may = locks_keep (used_page p n r m q g) (set_at x lock p.lock) records (use_keeps p n m q g r records holds use_it may) (λ y s. may_have y s (cases_eq y x))
  where
    x : ℕ
    x = page_of_place p.devices.shape m q

    may_have : (y s : ℕ) → (y ≡ x) ⊎ (y ≢ x) → (set_at x lock p.lock y s ≡ p.lock y s) ⊎ ((cut : ℕ → ℕ) → IsCut (used_page p n r m q g) cut → (o : Transaction) → of_slot y s (open_updates p.devices.first (logs_at (used_page p n r m q g) cut) o) ≡ [])
    may_have y s (inr d) = inl (ap (λ (f : ℕ → Option Transaction). f s) (set_at-other x lock p.lock y d))
    may_have y s (inl e) = inr (λ cut is o. ap (λ z. of_slot z s (open_updates p.devices.first (logs_at (used_page p n r m q g) cut) o)) e ∙ nothing_left_then p n m q g r records holds use_it may.free cut is s o)
