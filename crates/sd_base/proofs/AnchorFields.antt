-- What is read of the text of an anchor.
use Rattle.std.proofs.Common.{◌≡◌, ℕ, Bool, true, false, List, [], ◌∷◌, length, sym, ap, ◌∙◌, arith}
use Rattle.sd_base.specs.Text.{put, zero_block, number_at}
use Rattle.sd_base.specs.Anchors.{anchor_magic, anchor_text, IsAnchorNumber}
use Rattle.sd_base.proofs.TextLaws.{length-put, number_at-field}

length-magic : (vault : Bool) → length (put 0 (anchor_magic vault) zero_block) ≡ 4096
length-magic true = length-put 0 (anchor_magic true) zero_block (omega arith)
length-magic false = length-put 0 (anchor_magic false) zero_block (omega arith)

-- the number is read
pub anchor_text-number : (vault : Bool) (node number : ℕ) → IsAnchorNumber number → number_at 8 16 (anchor_text vault node number) ≡ number
unfolding anchor_text
anchor_text-number vault node number h =
    let magic : List ℕ = put 0 (anchor_magic vault) zero_block in
    let len : length (put 8 (node ∷ []) magic) ≡ 4096 = length-put 8 (node ∷ []) magic (omega (arith, length-magic vault)) ∙ length-magic vault in
    number_at-field 8 16 number 4096 (put 8 (node ∷ []) magic) [] len (omega arith) (omega (arith, h)) tt

-- an anchor has one number
pub anchor_text-one : (vault : Bool) (node n m : ℕ) → IsAnchorNumber n → IsAnchorNumber m → anchor_text vault node n ≡ anchor_text vault node m → n ≡ m
anchor_text-one vault node n m h k e = sym (anchor_text-number vault node n h) ∙ (ap (number_at 8 16) e ∙ anchor_text-number vault node m k)
