-- What is read in a log that has these records.
use Rattle.std.specs.Prelude.{◌≡◌, ◌≤◌, ◌<◌, ◌-◌, ◌*◌, ℕ, true, [], List, Some, length, map, nat_le, slice_index_or}
use Rattle.std.proofs.Common.{arith, ap, subst, ◌∙◌}
use Rattle.std.proofs.lemmas.Bool.Decides.{nat_tests}
use Rattle.std.proofs.lemmas.List.{get_or-map, length-map}
use Rattle.sd_base.specs.Disk.{BlockState}
use Rattle.log_record.specs.declared.record.LogRecord.{LogRecord}
use Rattle.log_record.specs.Legal.{IsLegal}
use Rattle.log_record.specs.Text.{record_text}
use Rattle.private_log.specs.Log.{LogState}
use Rattle.private_log.proofs.LogLaws.{on_tail}
use Rattle.compensation.specs.Finding.{record_at}
use Rattle.node_cache.proofs.Finding.{got}
use Rattle.node_cache.proofs.PageWrites.{there_is}
use Rattle.txn_core.specs.Told.{HasRecords}

-- a text that is read is that of the record with this number
pub record Reads (first : ℕ) (recs : List LogRecord) (r : ℕ) (text : List ℕ) : Type 0 where
  pub rec : LogRecord
  pub there : record_at first recs r ≡ Some rec
  pub legal : IsLegal rec
  pub is : text ≡ record_text rec

pub read_is : (l : LogState) (b : ℕ → BlockState) (recs : List LogRecord) (r : ℕ) (text : List ℕ) → HasRecords l b recs → 6 * l.start ≤ r → r < l.tail → text ≡ slice_index_or (map record_text recs) (r - 6 * l.start) [] → Reads (6 * l.start) recs r text
read_is l b recs r text has from below read =
    let tail = on_tail l b (map record_text recs) has.on in
    let small : r - 6 * l.start < length recs = omega (arith, tail, from, below, length-map recs record_text) in
    let there = there_is recs (r - 6 * l.start) small in
    let at = got recs (r - 6 * l.start) there.0 there.1 in
    let here : nat_le (6 * l.start) r ≡ true = grind (arith, nat_tests) in
    record {
      rec = there.0;
      there = rw here there.1;
      legal = subst IsLegal at.1 (has.legal (r - 6 * l.start) there.0 small);
      is = read ∙ get_or-map record_text recs (r - 6 * l.start) there.0 [] small ∙ ap record_text at.1;
    }
