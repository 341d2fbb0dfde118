-- Which line spells which command.
use Rattle.std.specs.Prelude.{◌≡◌, ℕ, List, [], ◌∷◌, codes}
use Rattle.sd_base.specs.Shape.{IsShape}
use Rattle.script_text.specs.Spelling.{spelled, IsValue}
use Rattle.script_text.specs.Words.{spaced, IsNode, node_word, IsTxn, txn_word, IsKey, key_word, shape_words}
use Rattle.script_text.specs.declared.command.Command.{Command}
use Rattle.script_text.specs.declared.command.Command.TheVariants.{Bad, Format, Start, Begin, Get, Put, Append, Del, Commit, Abort, Flush, Dump, Stat}

-- the first word of a form
abbrev pub form_name : Command → List ℕ
form_name Bad = []
form_name (Format s) = codes "format"
form_name (Start n) = codes "start"
form_name (Begin t) = codes "begin"
form_name (Get t k) = codes "get"
form_name (Put t k v) = codes "put"
form_name (Append t k v) = codes "append"
form_name (Del t k) = codes "del"
form_name (Commit t) = codes "commit"
form_name (Abort t) = codes "abort"
form_name (Flush n) = codes "flush"
form_name (Dump n) = codes "dump"
form_name (Stat n) = codes "stat"

-- the words behind it. A value stands last, as its spelling, which may be empty and may have spaces
abbrev pub arguments : Command → List (List ℕ)
arguments Bad = []
arguments (Format s) = shape_words s
arguments (Start n) = node_word n ∷ []
arguments (Begin t) = txn_word t ∷ []
arguments (Get t k) = txn_word t ∷ key_word k ∷ []
arguments (Put t k v) = txn_word t ∷ key_word k ∷ spelled v ∷ []
arguments (Append t k v) = txn_word t ∷ key_word k ∷ spelled v ∷ []
arguments (Del t k) = txn_word t ∷ key_word k ∷ []
arguments (Commit t) = txn_word t ∷ []
arguments (Abort t) = txn_word t ∷ []
arguments (Flush n) = node_word n ∷ []
arguments (Dump n) = node_word n ∷ []
arguments (Stat n) = node_word n ∷ []

-- the numbers and the value of a command are in their ranges; `Bad` is no command
abbrev pub IsCommand : Command → Type 0
IsCommand Bad = ⊥
IsCommand (Format s) = IsShape s
IsCommand (Start n) = IsNode n
IsCommand (Begin t) = IsTxn t
IsCommand (Get t k) = IsTxn t × IsKey k
IsCommand (Put t k v) = IsTxn t × IsKey k × IsValue v
IsCommand (Append t k v) = IsTxn t × IsKey k × IsValue v
IsCommand (Del t k) = IsTxn t × IsKey k
IsCommand (Commit t) = IsTxn t
IsCommand (Abort t) = IsTxn t
IsCommand (Flush n) = IsNode n
IsCommand (Dump n) = IsNode n
IsCommand (Stat n) = IsNode n

-- the line spells the command: it is the command's words, with one space between
pub record Spells (line : List ℕ) (c : Command) : Type 0 where
  pub numbers : IsCommand c
  pub text : line ≡ spaced (form_name c ∷ arguments c)

-- the line means the command: it spells it, or it spells none and is bad
abbrev pub Means : List ℕ → Command → Type 0
Means line Bad = (c : Command) → ¬ (Spells line c)
Means line c = Spells line c

-- the numbers of what a line means are in their ranges
abbrev pub InRange : Command → Type 0
InRange Bad = Unit {0}
InRange c = IsCommand c
