use Rattle.std.proofs.Common.{◌≡◌, Bool, List, ℕ, Some, ap, ◌∙◌, rules}
use Rattle.sd_base.specs.Text.{number_at}
use Rattle.sd_base.specs.Anchors.{anchor_text, IsAnchorNumber}
use Rattle.sd_base.proofs.AnchorFields.{anchor_text-number}
use Rattle.sd_base.proofs.anchors.parse_anchor.Goals as goal

-- what has the text has the number
number_of : (vault : Bool) (node number : ℕ) (b : List ℕ) → IsAnchorNumber number → b ≡ anchor_text vault node number → number_at 8 16 b ≡ number
number_of vault node number b h e = ap (number_at 8 16) e ∙ anchor_text-number vault node number h

pub returns-then-number-gt-MAX_ANCHOR-clause-only : goal.returns-then-number-gt-MAX_ANCHOR-clause-only
returns-then-number-gt-MAX_ANCHOR-clause-only c = λ number h e.
    let n : c.u64_at-number.result ≡ number = c.u64_at-number.ensures ∙ number_of _ _ number _ h e in search rules

pub returns-then-eq-clause-only : goal.returns-then-eq-clause-only
returns-then-eq-clause-only c = λ number h e.
    let n : c.u64_at-number.result ≡ number = c.u64_at-number.ensures ∙ number_of _ _ number _ h e in ap Some n

pub returns-else-eq-clause-only : goal.returns-else-eq-clause-only
returns-else-eq-clause-only c = λ number h e.
    let n : c.u64_at-number.result ≡ number = c.u64_at-number.ensures ∙ number_of _ _ number _ h e in search rules
