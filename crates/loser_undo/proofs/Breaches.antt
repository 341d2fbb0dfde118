-- What a log with these records breaks, and that a stop breaks nothing.
use Rattle.std.specs.Prelude.{◌≡◌, ◌+◌, ◌/◌, ℕ, List, Some, length, map}
use Rattle.std.proofs.Common.{arith, inl, refl, subst, sym}
use Rattle.std.proofs.lemmas.List.{length-map}
use Rattle.sd_base.specs.Disk.{BlockState}
use Rattle.sd_base.specs.Faults.{IsStopOf}
use Rattle.sd_base.specs.declared.fault.DevFault.{DevFault}
use Rattle.sd_base.specs.declared.fault.DevFault.TheVariants.{Stopped, Failed, Lost, Damaged}
use Rattle.log_record.specs.declared.record.LogRecord.{LogRecord}
use Rattle.log_record.specs.Text.{record_text}
use Rattle.private_log.specs.Content.{place}
use Rattle.private_log.specs.Log.{LogState, region}
use Rattle.private_log.proofs.LogLaws.{on_tail}
use Rattle.compensation.specs.Finding.{record_at}
use Rattle.loser_undo.specs.Logs.{HasRecords, first_of}
use Rattle.loser_undo.specs.Losers.{BreaksRule, IsBreach}
use Rattle.loser_undo.specs.Rules.{KeepsRule}

-- where the next record goes
pub has_tail : (l : LogState) (b : ℕ → BlockState) (recs : List LogRecord) → HasRecords l b recs → l.tail ≡ first_of l + length recs
has_tail l b recs has = omega (arith, on_tail l b (map record_text recs) has.on, length-map recs record_text)

-- a call that changes no block leaves the records
pub has_still : (l : LogState) (b c : ℕ → BlockState) (recs : List LogRecord) → c ≡ b → HasRecords l b recs → HasRecords l c recs
has_still l b c recs same has = subst (λ (d : ℕ → BlockState). HasRecords l d recs) (sym same) has

pub stop_is_breach : (l : LogState) (recs : List LogRecord) (port : ℕ) (fault : DevFault) → IsStopOf port fault → IsBreach l recs fault
stop_is_breach l recs port (Stopped n) is = tt
stop_is_breach l recs port (Failed n) is = tt
stop_is_breach l recs port (Lost at) is = absurd is
stop_is_breach l recs port (Damaged at) is = absurd is

-- a record that breaks its rule
pub broken_at : (l : LogState) (recs : List LogRecord) (r : ℕ) (rec : LogRecord) (fault : DevFault) → fault ≡ Damaged (record { 0 = place (region l) (r / 6) }) → record_at (first_of l) recs r ≡ Some rec → ¬ (KeepsRule (first_of l) recs r rec) → IsBreach l recs fault
broken_at l recs r rec fault is there broken =
    let here : BreaksRule l recs (place (region l) (r / 6)) = inl (r, rec, there, refl, broken) in
    subst (IsBreach l recs) (sym is) here
