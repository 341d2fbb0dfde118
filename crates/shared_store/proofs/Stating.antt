-- What a job tells, as the statement of a run.
use Rattle.std.proofs.Common.{◌≡◌, ◌∙◌, [], refl, sym}
use Rattle.std.proofs.lemmas.List.{append-nil}
use Rattle.sd_base.specs.Stream.{SourceState, SinkState}
use Rattle.shared_store.specs.Devices.{Devices}
use Rattle.shared_store.specs.Job.{TellsJob}
use Rattle.shared_store.specs.Statement.{TellsRun}
use Rattle.shared_store.specs.StoreState.{StoreState}
use Rattle.shared_store.specs.Transcript.{Beginning}
use Rattle.shared_store.specs.declared.script.Status.{Status}
use Rattle.shared_store.specs.declared.script.Status.TheVariants as ended
use Rattle.shared_store.proofs.Counting.{AreCounted-none}

module _ (from : Beginning) (source left : SourceState) (S : StoreState → Type 0) (now : Devices) (sink : SinkState) where
  by_status : (status : Status) → (status ≡ ended.Usage → ⊥) → TellsJob status from source left S now sink → TellsRun status from source left S now sink
  by_status ended.Done used job = record {
    bytes = job.bytes;
    read = job.read;
    lines = _;
    executed = record { whole = job.tells.lines; rest = job.tells.rest; splits = job.tells.splits; are = refl };
    replies = job.tells.replies;
    run = job.tells.run;
    printed = job.tells.printed;
    counted = job.tells.counted;
  }
  by_status ended.Usage used job = absurd (used refl)
  by_status ended.ReadFault used job = record {
    bytes = job.bytes;
    read = job.read;
    lines = _;
    executed = record { whole = job.tells.lines; rest = job.tells.rest; splits = job.tells.splits; are = refl };
    replies = job.tells.replies;
    run = job.tells.run;
    printed = job.tells.printed;
    counted = job.tells.counted;
  }
  by_status ended.WriteFault used job = record {
    bytes = job.bytes;
    read = job.read;
    lines = _;
    executed = record { before = job.tells.lines; last = job.tells.line; rest = job.tells.rest; are = refl; whole = job.tells.whole; each = job.tells.each; no_feed = job.tells.no_feed; ends = job.tells.ends };
    replies = _;
    run = job.tells.run;
    printed = record { whole = job.tells.replies; last = job.tells.last; are = refl; length_taken = job.tells.length_taken; printed = job.tells.printed };
    counted = job.tells.counted;
  }
  by_status ended.TooLong used job = record {
    bytes = job.bytes;
    read = job.read;
    lines = _;
    executed = record { whole = job.tells.lines; rest = job.tells.rest; splits = job.tells.splits; are = refl };
    replies = job.tells.replies;
    run = job.tells.run;
    printed = job.tells.printed;
    counted = job.tells.counted;
  }

  pub run_told : (status : Status) → (status ≡ ended.Usage → ⊥) → TellsJob status from source left S now sink → TellsRun status from source left S now sink
  run_told = by_status

-- a run that did nothing
pub nothing_told : (from : Beginning) (source : SourceState) (S : StoreState → Type 0) (sink : SinkState) → S from.state → sink.taken ≡ from.taken → TellsRun ended.Usage from source source S from.devices sink
nothing_told from source S sink holds same = record {
  bytes = [];
  read = refl;
  lines = [];
  executed = refl;
  replies = [];
  run = holds;
  printed = same ∙ sym (append-nil from.taken);
  counted = AreCounted-none from.devices;
}
