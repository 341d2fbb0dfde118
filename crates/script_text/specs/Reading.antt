-- What stands at the parts of a line that is being read.
use Rattle.std.specs.Prelude.{◌≡◌, ◌≢◌, ◌<◌, ℕ, List, ◌∷◌, ◌++◌, length, slice_index}
use Rattle.script_text.specs.Lines.{Lacks}
use Rattle.script_text.specs.Words.{spaced}
use Rattle.script_text.specs.Command.{form_name, arguments, IsCommand}
use Rattle.script_text.specs.declared.command.Command.{Command}

-- the text is cut at its first such byte
pub record IsCut (mark : ℕ) (text front back : List ℕ) : Type 0 where
  pub whole : text ≡ front ++ mark ∷ back
  pub first : Lacks mark front

-- the first such byte of the text stands there
pub record IsFirst (mark : ℕ) (text : List ℕ) (place : ℕ) : Type 0 where
  pub within : place < length text
  pub here : slice_index text place ≡ mark
  pub before : (k : ℕ) → k < place → slice_index text k ≢ mark

-- the first word is the name of the command's form, and the rest of the line is the words behind it
pub record SpellsBehind (name rest : List ℕ) (c : Command) : Type 0 where
  pub numbers : IsCommand c
  pub name_is : name ≡ form_name c
  pub rest_is : rest ≡ spaced (arguments c)
