-- The text of a super.
use Rattle.std.specs.Prelude.{◌≡◌, ℕ, Bool, true, false, List, [], ◌∷◌, codes}
use Rattle.sd_base.specs.Text.{bytes_field, number_field, number_at, block_text}
use Rattle.sd_base.specs.declared.shape.Shape.{Shape}

-- what a super begins with, on the vault and on the disk
abbrev pub magic : Bool → List ℕ
magic true = codes "SDVAULT1"
magic false = codes "SDSTORE1"

-- the super of a shape, on the vault or on the disk
unfoldable pub super_text : Bool → Shape → List ℕ
super_text vault s = block_text (
    bytes_field 0 (magic vault) ∷
    number_field 8 4 1 ∷
    number_field 12 4 s.nodes ∷
    number_field 16 4 s.ring ∷
    number_field 20 4 s.maps ∷
    number_field 24 4 s.keep ∷
    number_field 32 8 s.birth ∷ [])

-- the shape's numbers stand at their places
pub record HasFields (s : Shape) (text : List ℕ) : Type 0 where
  pub nodes : number_at 4 12 text ≡ s.nodes
  pub ring : number_at 4 16 text ≡ s.ring
  pub maps : number_at 4 20 text ≡ s.maps
  pub keep : number_at 4 24 text ≡ s.keep
  pub birth : number_at 8 32 text ≡ s.birth
