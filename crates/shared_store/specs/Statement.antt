-- What a run of the program tells of its script: the statement of the call `run`.
use Rattle.std.specs.Prelude.{◌≡◌, ℕ, Bool, true, false, List, [], ◌∷◌, ◌++◌, take, All}
use Rattle.std.specs.List.{flat_map}
use Rattle.sd_base.specs.Stream.{SourceState, SinkState}
use Rattle.script_text.specs.Lines.{EndsLine, HasNoFeed, Splits, answered, ended as with_feed, lines_read}
use Rattle.script_text.specs.declared.reply.Reply.{Reply}
use Rattle.shared_store.specs.Causes.{AreCounted}
use Rattle.shared_store.specs.Devices.{Devices}
use Rattle.shared_store.specs.StoreState.{StoreState}
use Rattle.shared_store.specs.Transcript.{Beginning, RunFrom, all_replies, replies_text, transcript_text}
use Rattle.shared_store.specs.declared.script.Status.{Status}
use Rattle.shared_store.specs.declared.script.Status.TheVariants as ended

-- these are all lines of the bytes. A last one that no line feed ends counts only at the end of the script
pub record AreAllLines (at_end : Bool) (bytes : List ℕ) (lines : List (List ℕ)) : Type 0 where
  pub whole : List (List ℕ)
  pub rest : List ℕ
  pub splits : Splits bytes whole rest
  pub are : lines ≡ lines_read at_end whole rest

-- these are the lines of the bytes up to one, which may be any
pub record AreFirstLines (bytes : List ℕ) (lines : List (List ℕ)) : Type 0 where
  pub before : List (List ℕ)
  pub last : List ℕ
  pub rest : List ℕ
  pub are : lines ≡ before ++ last ∷ []
  pub whole : bytes ≡ (flat_map with_feed before ++ last) ++ rest
  pub each : All HasNoFeed before
  pub no_feed : HasNoFeed last
  pub ends : EndsLine rest

-- which lines are executed: all of them; where the sink failed, those up to one
abbrev pub AreExecuted : Status → List ℕ → List (List ℕ) → Type 0
AreExecuted ended.Done bytes lines = AreAllLines true bytes lines
AreExecuted ended.Usage bytes lines = lines ≡ []
AreExecuted ended.ReadFault bytes lines = AreAllLines false bytes lines
AreExecuted ended.WriteFault bytes lines = AreFirstLines bytes lines
AreExecuted ended.TooLong bytes lines = AreAllLines false bytes lines

-- the sink took all replies but for the end of those to the last line
pub record IsFront (before : List ℕ) (replies : List (List Reply)) (taken : List ℕ) : Type 0 where
  pub whole : List (List Reply)
  pub last : List Reply
  pub are : replies ≡ whole ++ last ∷ []
  pub length_taken : ℕ
  pub printed : taken ≡ (before ++ transcript_text whole) ++ take length_taken (replies_text last)

-- what the sink took: the replies' lines, one after another, and nothing else; where it failed, a front of them
abbrev pub IsTranscript : Status → List ℕ → List (List Reply) → List ℕ → Type 0
IsTranscript ended.Done before replies taken = taken ≡ before ++ transcript_text replies
IsTranscript ended.Usage before replies taken = taken ≡ before ++ transcript_text replies
IsTranscript ended.ReadFault before replies taken = taken ≡ before ++ transcript_text replies
IsTranscript ended.WriteFault before replies taken = IsFront before replies taken
IsTranscript ended.TooLong before replies taken = taken ≡ before ++ transcript_text replies

-- The statement. `from` is what the run begins with, `source` and `left` are the source before and after it, and S is what
-- the state in which the run ends is to meet.
pub record TellsRun (status : Status) (from : Beginning) (source left : SourceState) (S : StoreState → Type 0) (now : Devices) (sink : SinkState) : Type 0 where
  -- These bytes were read of the source, and it has the others left.
  pub bytes : List ℕ
  pub read : source.left ≡ bytes ++ left.left
  -- These lines of them were executed, one after another.
  pub lines : List (List ℕ)
  pub executed : AreExecuted status bytes lines
  -- Each of them that isn't a comment was answered with these replies, by a run of the store: each step is one of the record
  -- machine, until a reply says that a node stopped. It ends in a state of S.
  pub replies : List (List Reply)
  pub run : RunFrom from (answered lines) replies S
  -- The sink took the replies, and nothing else.
  pub printed : IsTranscript status from.taken replies sink.taken
  -- There are no more stops and faults than the devices' counts of them rose.
  pub counted : AreCounted (all_replies replies) from.devices now
