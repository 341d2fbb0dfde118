-- What holds between two bytes of a job.
use Rattle.std.specs.Prelude.{◌≡◌, ℕ, List, ◌++◌}
use Rattle.sd_base.specs.Stream.{SinkState}
use Rattle.script_text.specs.Lines.{Splits, answered}
use Rattle.script_text.specs.declared.reply.Reply.{Reply}
use Rattle.shared_store.specs.Causes.{AreCounted}
use Rattle.shared_store.specs.Devices.{Devices}
use Rattle.shared_store.specs.LineBuffer.{HoldsLine}
use Rattle.shared_store.specs.Store.{Shows}
use Rattle.shared_store.specs.Transcript.{Beginning, RunFrom, all_replies, transcript_text}
use Rattle.shared_store.specs.declared.line.LineBuffer.{LineBuffer}
use Rattle.shared_store.specs.declared.store.Store.{Store}

-- The whole lines of these bytes were answered, the buffer holds the line that has begun, and the store and the disk show
-- the state that the run has come to.
pub record Served (from : Beginning) (bytes : List ℕ) (line : LineBuffer) (store : Store) (now : Devices) (sink : SinkState) : Type 0 where
  pub lines : List (List ℕ)
  pub rest : List ℕ
  pub replies : List (List Reply)
  pub splits : Splits bytes lines rest
  pub buffered : HoldsLine line rest
  pub run : RunFrom from (answered lines) replies (Shows store now.disk)
  pub disk_size : now.disk.size ≡ from.devices.disk.size
  pub vault_size : now.vault.size ≡ from.devices.vault.size
  pub printed : sink.taken ≡ from.taken ++ transcript_text replies
  pub counted : AreCounted (all_replies replies) from.devices now
