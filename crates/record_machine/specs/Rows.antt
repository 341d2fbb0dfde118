-- What a dump is answered: the records, in the rising order of their keys.
use Rattle.std.specs.Prelude.{◌≡◌, ◌⊎◌, ◌+◌, ◌^◌, ◌<◌, ◌≤◌, ◌++◌, ◌∷◌, [], ℕ, List, Option, Some, None, All, IfSome, length, map}
use Rattle.std.specs.List.{AllPairs, Contains}
use Rattle.sd_base.specs.declared.device.NodeId.{NodeId}
use Rattle.sd_base.specs.declared.names.Key.{Key}
use Rattle.script_text.specs.declared.command.Command.{Command}
use Rattle.script_text.specs.declared.command.Command.TheVariants as asks
use Rattle.script_text.specs.declared.reply.Reply.{Reply}
use Rattle.script_text.specs.declared.reply.Reply.TheVariants as says
use Rattle.record_machine.specs.Machine.{Machine, home}

-- the node that is asked for a dump, where the command is one
abbrev pub dumped_by : Command → Option NodeId
dumped_by asks.Bad = None
dumped_by (asks.Format s) = None
dumped_by (asks.Start n) = None
dumped_by (asks.Begin t) = None
dumped_by (asks.Get t key) = None
dumped_by (asks.Put t key value) = None
dumped_by (asks.Append t key bytes) = None
dumped_by (asks.Del t key) = None
dumped_by (asks.Commit t) = None
dumped_by (asks.Abort t) = None
dumped_by (asks.Flush n) = None
dumped_by (asks.Dump n) = Some n
dumped_by (asks.Stat n) = None

-- ---- one row

-- the least key behind this one, or behind none
abbrev pub next_key : Option Key → ℕ
next_key None = 0
next_key (Some key) = key.0 + 1

-- no record has a key from this one on and below `end`
abbrev pub HasNoneIn : Machine → ℕ → ℕ → Type 0
HasNoneIn m first end = (k : ℕ) → first ≤ k → k < end → m.records k ≡ None

-- The record with the least key from this one on.
pub record IsNext (m : Machine) (first : ℕ) (key : Key) (value : List ℕ) : Type 0 where
  pub from : first ≤ key.0
  pub there : m.records key.0 ≡ Some value
  pub least : HasNoneIn m first key.0

-- there is none
abbrev pub HasNone : Machine → ℕ → Type 0
HasNone m first = HasNoneIn m first (2 ^ 32)

-- what is answered where the next record is asked for
abbrev pub IsNextRow : Machine → ℕ → Reply → Type 0
IsNextRow m first (says.Row key value) = IsNext m first key value
IsNextRow m first says.NoMore = HasNone m first
IsNextRow m first reply = ⊥

-- a page that a dump may take: a map page, or the page of a group
abbrev pub IsInUse : Machine → ℕ → Type 0
IsInUse m x = (x < m.shape.maps) ⊎ ((key : ℕ) × (home m key ≡ Some x))

-- ---- all rows

-- a record, with its key
pub record Row : Type 0 where
  pub key : Key
  pub value : List ℕ

abbrev pub row_reply : Row → Reply
row_reply r = says.Row r.key r.value

-- These are the records with a key below `end`, all of them, in the rising order of their keys.
pub record AreRows (m : Machine) (end : ℕ) (rows : List Row) : Type 0 where
  pub rising : AllPairs (λ a b. a.key.0 < b.key.0) rows
  pub each : All (λ r. (r.key.0 < end) × (m.records r.key.0 ≡ Some r.value)) rows
  pub complete : (key : ℕ) → key < end → IfSome (m.records key) (λ value. Contains rows (record { key = record { 0 = key }; value = value }))

-- the replies of a dump that isn't refused: a row for each record, and how many there are
pub record AreAllRows (m : Machine) (replies : List Reply) : Type 0 where
  pub rows : List Row
  pub are : AreRows m (2 ^ 32) rows
  pub said : replies ≡ map row_reply rows ++ says.EndDump (length rows) ∷ []
