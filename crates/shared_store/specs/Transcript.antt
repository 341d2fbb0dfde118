-- What a run of the store prints, and what state it ends in.
use Rattle.std.specs.Prelude.{◌≡◌, ℕ, Bool, List, [], ◌∷◌, ◌++◌, take, All}
use Rattle.std.specs.List.{flat_map}
use Rattle.script_text.specs.Lines.{Splits, ended, HasNoFeed, EndsLine, lines_read, answered}
use Rattle.script_text.specs.Reply.{reply_text}
use Rattle.script_text.specs.declared.reply.Reply.{Reply}
use Rattle.shared_store.specs.Causes.{AreCounted}
use Rattle.shared_store.specs.Devices.{Devices}
use Rattle.shared_store.specs.StoreState.{StoreState, Run}

-- What a job begins with: the state that the devices show, the devices, and what the sink has taken.
pub record Beginning : Type 0 where
  pub state : StoreState
  pub devices : Devices
  pub taken : List ℕ

-- from there the lines may be answered with these replies, a list of them for each, and the store end in a state of S
abbrev pub RunFrom : Beginning → List (List ℕ) → List (List Reply) → (StoreState → Type 0) → Type 0
RunFrom from lines replies S = Run from.devices.disk.size from.devices.vault.size from.state lines replies S

-- the replies' lines, one after another
abbrev pub replies_text : List Reply → List ℕ
replies_text replies = flat_map reply_text replies

-- the replies to all lines of a script, and the transcript: their lines
abbrev pub all_replies : List (List Reply) → List Reply
all_replies replies = flat_map (λ said. said) replies

abbrev pub transcript_text : List (List Reply) → List ℕ
transcript_text replies = replies_text (all_replies replies)

-- The bytes were read as lines, each line that gets a reply was answered, the sink took the replies' lines, and the store
-- ended in a state of S.
pub record Transcribes (at_end : Bool) (from : Beginning) (bytes : List ℕ) (S : StoreState → Type 0) (now : Devices) (taken : List ℕ) : Type 0 where
  pub lines : List (List ℕ)
  pub rest : List ℕ
  pub replies : List (List Reply)
  pub splits : Splits bytes lines rest
  pub run : RunFrom from (answered (lines_read at_end lines rest)) replies S
  pub printed : taken ≡ from.taken ++ transcript_text replies
  pub counted : AreCounted (all_replies replies) from.devices now

-- The sink failed while it was given the replies to a line: the lines up to that one were answered, no line behind it was
-- executed, and the sink took the replies' lines but for the end of what the last line gets. Where that one is a dump, its
-- rows which weren't asked for any more are those that would have been given.
pub record TranscribesPart (from : Beginning) (bytes : List ℕ) (S : StoreState → Type 0) (now : Devices) (taken : List ℕ) : Type 0 where
  pub lines : List (List ℕ)
  pub line : List ℕ
  pub rest : List ℕ
  pub replies : List (List Reply)
  pub last : List Reply
  pub whole : bytes ≡ (flat_map ended lines ++ line) ++ rest
  pub each : All HasNoFeed lines
  pub no_feed : HasNoFeed line
  pub ends : EndsLine rest
  pub run : RunFrom from (answered (lines ++ line ∷ [])) (replies ++ last ∷ []) S
  pub length_taken : ℕ
  pub printed : taken ≡ (from.taken ++ transcript_text replies) ++ take length_taken (replies_text last)
  pub counted : AreCounted (all_replies (replies ++ last ∷ [])) from.devices now
