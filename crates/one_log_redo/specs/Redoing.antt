-- What redo makes of one page by one change: the change is made exactly where the page has the change's identifier.
use Rattle.std.specs.Prelude.{ℕ, Bool, cond, eqb}
use Rattle.sd_base.specs.declared.page_op.PageOp.{PageOp}
use Rattle.space_map.specs.PageImage.{PageImage, changed, ident_of}
use Rattle.recovery_theory.specs.Pages.{in_life_from}

-- the page x that an image stands for, whose life began with the identifier `birth`, has this identifier
abbrev pub is_next : ℕ → ℕ → ℕ → PageImage → Bool
is_next x birth bsi i = eqb bsi (ident_of (in_life_from x birth i))

-- the image of page x behind redo of one change
abbrev pub redone : ℕ → ℕ → ℕ → PageOp → PageImage → PageImage
redone x birth bsi op i = cond (is_next x birth bsi i) (changed op (in_life_from x birth i)) i
