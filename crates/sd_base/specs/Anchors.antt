-- The text of an anchor.
use Rattle.std.specs.Prelude.{◌≤◌, ◌^◌, ℕ, Bool, true, false, List, [], ◌∷◌, codes}
use Rattle.sd_base.specs.Text.{bytes_field, number_field, block_text}

-- what an anchor begins with, on the vault and on the disk
abbrev pub anchor_magic : Bool → List ℕ
anchor_magic true = codes "SDVANCHR"
anchor_magic false = codes "SDANCHOR"

-- the number of a log block that an anchor may have
abbrev pub IsAnchorNumber : ℕ → Type 0
IsAnchorNumber number = number ≤ 2 ^ 56

-- the anchor of a node, on the vault or on the disk, with this number of a log block
unfoldable pub anchor_text : Bool → ℕ → ℕ → List ℕ
anchor_text vault node number = block_text (
    bytes_field 0 (anchor_magic vault) ∷
    bytes_field 8 (node ∷ []) ∷
    number_field 16 8 number ∷ [])
