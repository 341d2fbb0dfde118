-- What is read in a log that has these records.
use Rattle.std.specs.Prelude.{◌≡◌, ◌⊎◌, ◌≤◌, ◌<◌, ◌*◌, ◌-◌, ℕ, zero, suc, true, [], ◌∷◌, ◌++◌, List, Some, length, map, nat_le, slice_get, slice_index_or, refl}
use Rattle.std.proofs.Common.{arith, ap, inl, inr, subst, sym, ◌∙◌}
use Rattle.std.proofs.lemmas.Bool.Decides.{nat_tests}
use Rattle.std.proofs.lemmas.List.{get_or-map, length-map, map-append}
use Rattle.sd_base.specs.Disk.{BlockState}
use Rattle.sd_base.specs.Faults.{IsStopOf}
use Rattle.sd_base.specs.declared.fault.DevFault.{DevFault}
use Rattle.sd_base.specs.declared.fault.DevFault.TheVariants.{Stopped, Failed, Lost, Damaged}
use Rattle.sd_base.specs.declared.shape.Shape.{Shape}
use Rattle.log_record.specs.declared.record.LogRecord.{LogRecord}
use Rattle.log_record.specs.Legal.{IsLegal}
use Rattle.log_record.specs.Text.{record_text}
use Rattle.private_log.specs.Log.{IsLogOn, LogState, SameLog}
use Rattle.private_log.proofs.LogLaws.{on_tail}
use Rattle.compensation.specs.Finding.{record_at}
use Rattle.compensation.proofs.LogRecords.{at_place, of_place, old_or_new}
use Rattle.recovery_theory.specs.Effect.{effect_of}
use Rattle.one_log_redo.specs.Records.{IsRecordOf, NamesPage}
use Rattle.loser_undo.specs.Logs.{HasRecords, IsNoRecordAt, first_of}

-- what stands at a place of a list
pub there_is : {X : Type 0} (xs : List X) (i : ℕ) → i < length xs → (x : X) × (slice_get xs i ≡ Some x)
there_is [] i below = absurd (omega (arith, below))
there_is (x ∷ xs) zero below = (x, refl)
there_is (x ∷ xs) (suc i) below = there_is xs i (omega (arith, below))

pub got : {X : Type 0} (xs : List X) (i : ℕ) (x : X) → slice_get xs i ≡ Some x → (i < length xs) × (slice_index_or xs i x ≡ x)
got [] i x e = cc
got (y ∷ ys) zero x e = let same : y ≡ x = cc in (omega arith, same)
got (y ∷ ys) (suc i) x e = let rest = got ys i x e in (omega (arith, rest.0), rest.1)

-- a text that is read is that of the record with this number
pub record Reads (l : LogState) (recs : List LogRecord) (r : ℕ) (text : List ℕ) : Type 0 where
  pub rec : LogRecord
  pub there : record_at (first_of l) recs r ≡ Some rec
  pub is : IsRecordOf l.shape text rec

pub read_is : (l : LogState) (b : ℕ → BlockState) (recs : List LogRecord) (r : ℕ) (text : List ℕ) → HasRecords l b recs → first_of l ≤ r → r < l.tail → text ≡ slice_index_or (map record_text recs) (r - first_of l) [] → Reads l recs r text
read_is l b recs r text has from below read =
    let tail = on_tail l b (map record_text recs) has.on in
    let small : r - first_of l < length recs = omega (arith, tail, from, below, length-map recs record_text) in
    let there = there_is recs (r - first_of l) small in
    let at = got recs (r - first_of l) there.0 there.1 in
    let here : nat_le (first_of l) r ≡ true = grind (arith, nat_tests) in
    let is : record_at (first_of l) recs r ≡ Some there.0 = rw here there.1 in
    let legal = has.legal r there.0 is in
    record {
      rec = there.0;
      there = is;
      is = record {
        legal = legal.0;
        text_is = read ∙ get_or-map record_text recs (r - first_of l) there.0 [] small ∙ ap record_text at.1;
        page = legal.1;
      };
    }

-- a stop says nothing of a record
pub stop_is_none : (l : LogState) (xs : List (List ℕ)) (r port : ℕ) (fault : DevFault) → IsStopOf port fault → IsNoRecordAt l xs r fault
stop_is_none l xs r port (Stopped n) is = tt
stop_is_none l xs r port (Failed n) is = tt
stop_is_none l xs r port (Lost at) is = is
stop_is_none l xs r port (Damaged at) is = absurd is

-- a log has one record more
pub has_more : (l m : LogState) (b c : ℕ → BlockState) (recs : List LogRecord) (rec : LogRecord) → HasRecords l b recs → SameLog l m → IsLegal rec → NamesPage l.shape (effect_of rec)
    → IsLogOn m c (map record_text recs ++ record_text rec ∷ []) → HasRecords m c (recs ++ rec ∷ [])
has_more l m b c recs rec has same legal page on = record {
  on = subst (IsLogOn m c) (sym (map-append record_text recs (rec ∷ []))) on;
  legal = λ r x is.
      let at = at_place (first_of m) (recs ++ rec ∷ []) r x is in
      let P : Shape → Type 0 = λ s. IsLegal x × NamesPage s (effect_of x) in
      let here : (r - first_of m < length recs) × (slice_get recs (r - first_of m) ≡ Some x) → IsLegal x × NamesPage l.shape (effect_of x) = λ old.
      let there : record_at (first_of m) recs r ≡ Some x = of_place (first_of m) recs r x at.0 old.1 in
      has.legal r x (subst (λ s. record_at (6 * s) recs r ≡ Some x) same.start there) in
      let new : (r - first_of m ≡ length recs) × (rec ≡ x) → IsLegal x × NamesPage l.shape (effect_of x) = λ last. subst (λ y. IsLegal y × NamesPage l.shape (effect_of y)) last.1 (legal, page) in
      subst P (sym same.shape) (either here new (old_or_new recs rec x (r - first_of m) at.1));
}
  where
    either : {A B C : Type 0} → (A → C) → (B → C) → A ⊎ B → C
    either f h (inl a) = f a
    either f h (inr b) = h b
