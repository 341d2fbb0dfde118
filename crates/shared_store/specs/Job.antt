-- What a whole run of the program tells.
use Rattle.std.specs.Prelude.{true, false, ◌≡◌, ◌≢◌, ◌+◌, ◌≤◌, ◌^◌, ◌↔◌, ⊤, ℕ, List, ◌++◌}
use Rattle.sd_base.specs.Stream.{SourceState, SinkState}
use Rattle.shared_store.specs.Devices.{Devices}
use Rattle.shared_store.specs.StoreState.{Seal, StoreState, shut}
use Rattle.shared_store.specs.Transcript.{Beginning, Transcribes, TranscribesPart}
use Rattle.shared_store.specs.declared.script.Status.{Status}
use Rattle.shared_store.specs.declared.script.Status.TheVariants as ended

-- the number that the program ends with
abbrev pub status_number : Status → ℕ
status_number ended.Done = 0
status_number ended.Usage = 2
status_number ended.ReadFault = 3
status_number ended.WriteFault = 4
status_number ended.TooLong = 6

-- a job begins with no store open
abbrev pub beginning : Seal → Devices → SinkState → Beginning
beginning seal devices sink = record { state = shut seal; devices = devices; taken = sink.taken }

-- of the bytes that were read, the transcript was written whole, or up to within the replies to a line where the sink failed
abbrev pub Tells : Status → Beginning → List ℕ → (StoreState → Type 0) → Devices → SinkState → Type 0
Tells ended.Done from bytes S now sink = Transcribes true from bytes S now sink.taken
Tells ended.Usage from bytes S now sink = ⊤
Tells ended.ReadFault from bytes S now sink = Transcribes false from bytes S now sink.taken
Tells ended.WriteFault from bytes S now sink = TranscribesPart from bytes S now sink.taken
Tells ended.TooLong from bytes S now sink = Transcribes false from bytes S now sink.taken

-- These bytes were read of the source, and the sink tells a run over their lines, which ends in a state of S.
pub record TellsJob (status : Status) (from : Beginning) (source left : SourceState) (S : StoreState → Type 0) (now : Devices) (sink : SinkState) : Type 0 where
  pub bytes : List ℕ
  pub read : source.left ≡ bytes ++ left.left
  pub tells : Tells status from bytes S now sink

-- the source gives 2^40 bytes at most, and the status is TooLong exactly where it gave them and the sink didn't fail
pub record IsBounded (status : Status) (source left : SourceState) : Type 0 where
  pub most : left.given ≤ source.given + 2 ^ 40
  pub all : (status ≡ ended.TooLong) ↔ ((left.given ≡ source.given + 2 ^ 40) × (status ≢ ended.WriteFault))
