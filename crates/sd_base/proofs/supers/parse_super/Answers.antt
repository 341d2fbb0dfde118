use Rattle.std.proofs.Common.{◌≡◌, Bool, List, ℕ, Some, sym, subst, rules}
use Rattle.sd_base.specs.Shape.{IsShape}
use Rattle.sd_base.specs.Supers.{super_text, HasFields}
use Rattle.sd_base.specs.declared.shape.Shape.{Shape}
use Rattle.sd_base.proofs.SuperFields.{super_text-fields}
use Rattle.sd_base.proofs.supers.parse_super.Goals as goal

-- what has the text has the fields
fields_of : (vault : Bool) (s : Shape) (b : List ℕ) → IsShape s → b ≡ super_text vault s → HasFields s b
fields_of vault s b h e = let P : List ℕ → Type 0 = HasFields s in subst P (sym e) (super_text-fields vault s h)

pub returns-in_err-shape-clause-only : goal.returns-in_err-shape-clause-only
returns-in_err-shape-clause-only c = λ s h e.
    let r : c.shape_at.result ≡ Some s = c.shape_at.ensures.read s h (fields_of _ s _ h e) in search rules

pub returns-then-eq-clause-only : goal.returns-then-eq-clause-only
returns-then-eq-clause-only c = λ s h e.
    let r : c.shape_at.result ≡ Some s = c.shape_at.ensures.read s h (fields_of _ s _ h e) in search rules

pub returns-else-eq-clause-only : goal.returns-else-eq-clause-only
returns-else-eq-clause-only c = λ s h e.
    let r : c.shape_at.result ≡ Some s = c.shape_at.ensures.read s h (fields_of _ s _ h e) in search rules
