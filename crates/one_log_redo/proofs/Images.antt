-- What is read in the block of a page, of either kind, and the page in the life that its map page says.
use Rattle.std.proofs.Common.{◌≢◌, ◌≡◌, ◌≤◌, ◌<◌, ◌⊎◌, inl, inr, ℕ, max, true, false, List, ap, sym, subst, ◌∙◌, refl, arith}
use Rattle.std.proofs.lemmas.Bool.{cases_lt, eq-eqb, ne_eqb}
use Rattle.sd_base.specs.Page.{header_ident}
use Rattle.sd_base.specs.declared.names.PageNo.{PageNo}
use Rattle.page_image.specs.Image.{IsTextOf, birth_image}
use Rattle.page_image.proofs.ImageLaws as slots
use Rattle.space_map.proofs.ImageLaws as entries
use Rattle.state_ids.specs.PageImage.{PageImage, data_page, map_page, IsText, ident_of, is_map, changed}
use Rattle.recovery_theory.specs.Pages.{in_life_from}
use Rattle.recovery_theory.proofs.PageLaws.{in_life_from-blank, in_life_from-same}
use Rattle.one_log_redo.specs.Redoing.{redone}
use Rattle.sd_base.specs.declared.page_op.PageOp.{PageOp}

-- the identifier of a page stands in its header
pub ident-read : (i : PageImage) (b : List ℕ) → IsText i b → header_ident b ≡ ident_of i
ident-read (data_page v) b t = ap header_ident t.text ∙ slots.ident-read v t.image
ident-read (map_page m) b t = ap header_ident t.text ∙ entries.ident-read m t.image

-- that of the page that an image stands for is the greater one
pub ident-in_life : (x birth : ℕ) (i : PageImage) → ident_of (in_life_from x birth i) ≡ max (ident_of i) birth
ident-in_life x birth i = by (cases_lt (ident_of i) birth)
  where
    by : (ident_of i < birth) ⊎ (birth ≤ ident_of i) → ident_of (in_life_from x birth i) ≡ max (ident_of i) birth
    by (inl lt) = let e : max (ident_of i) birth ≡ birth = omega (arith, lt) in ap ident_of (in_life_from-blank x birth i lt) ∙ sym e
    by (inr le) = let e : max (ident_of i) birth ≡ ident_of i = omega (arith, le) in ap ident_of (in_life_from-same x birth i le) ∙ sym e

-- an image of the present life stands for itself
pub present : (x birth : ℕ) (i : PageImage) (b : List ℕ) → birth ≤ ident_of i → IsText i b → IsText (in_life_from x birth i) b
present x birth i b le t = subst (λ j. IsText j b) (sym (in_life_from-same x birth i le)) t

-- an image of an earlier one for the blank page
pub stale : (x : PageNo) (birth : ℕ) (i : PageImage) (b : List ℕ) → ident_of i < birth → IsTextOf (birth_image x birth) b → IsText (in_life_from x.0 birth i) b
stale x birth i b lt t = subst (λ j. IsText j b) (sym (in_life_from-blank x.0 birth i lt)) t

-- the page that an image stands for is of the image's kind, since a map page has one life
pub kind-in_life : (x birth : ℕ) (i : PageImage) → (is_map i ≡ true → birth ≡ 0) → is_map (in_life_from x birth i) ≡ is_map i
kind-in_life x birth (data_page v) none = by (cases_lt v.ident birth)
  where
    by : (v.ident < birth) ⊎ (birth ≤ v.ident) → is_map (in_life_from x birth (data_page v)) ≡ false
    by (inl lt) = ap is_map (in_life_from-blank x birth (data_page v) lt)
    by (inr le) = ap is_map (in_life_from-same x birth (data_page v) le)
kind-in_life x birth (map_page m) none = ap is_map (in_life_from-same x birth (map_page m) (let e : birth ≡ 0 = none refl in omega (arith, e)))

-- a change is left out where the page hasn't its identifier
pub next-not : (x birth bsi : ℕ) (op : PageOp) (i : PageImage) → bsi ≢ ident_of (in_life_from x birth i) → redone x birth bsi op i ≡ i
next-not x birth bsi op i ne = rw (ne_eqb bsi (ident_of (in_life_from x birth i)) ne) refl

-- and made where it has
pub next-is : (x birth bsi : ℕ) (op : PageOp) (i : PageImage) → bsi ≡ ident_of (in_life_from x birth i) → redone x birth bsi op i ≡ changed op (in_life_from x birth i)
next-is x birth bsi op i e = rw (eq-eqb bsi (ident_of (in_life_from x birth i)) e) refl
