-- The text of a slot: its state, its length, two zero bytes, and the value with zeros behind it.
use Rattle.std.specs.Prelude.{ℕ, ◌-◌, ◌≤◌, List, ◌∷◌, ◌++◌, length, replicate, Option, Some, None, IfSome}

-- what a slot holds can be written
abbrev pub FitsSlot : Option (List ℕ) → Type 0
FitsSlot content = IfSome content (λ value. length value ≤ 248)

-- the text of a slot, absent or with a value
abbrev pub slot_text : Option (List ℕ) → List ℕ
slot_text None = replicate 252 0
slot_text (Some value) = 1 ∷ length value ∷ 0 ∷ 0 ∷ (value ++ replicate (248 - length value) 0)
