-- How a transaction ends.
use Rattle.log_record.specs.declared.record.LogRecord.{LogRecord}
use Rattle.log_record.specs.declared.record.LogRecord.TheVariants as rec
use Rattle.txn_core.specs.declared.ending.Ending.{Ending}
use Rattle.txn_core.specs.declared.ending.Ending.TheVariants.{Commit, Abort}
use Rattle.txn_core.specs.Seats.{OpenTxn}

-- the record by which the transaction ends
abbrev pub end_record : Ending → OpenTxn → LogRecord
end_record Commit t = rec.Commit t.begin t.last
end_record Abort t = rec.Abort t.begin t.last
