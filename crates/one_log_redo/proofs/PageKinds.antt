-- Which kind of page is in a frame, and what a redone change makes of it.
use Rattle.std.proofs.Common.{◌≡◌, ◌≢◌, ◌<◌, ◌≤◌, ◌+◌, ◌⊎◌, ℕ, Bool, true, false, cond, eqb, ltb, List, Option, Some, None, inl, inr, refl, ap, sym, ◌∙◌, subst, arith, lt-ltb, le-ltb}
use Rattle.std.proofs.lemmas.Bool.{cases_eq, cases_lt}
use Rattle.sd_base.specs.Places.{map_of_data, map_of_page}
use Rattle.sd_base.specs.declared.names.PageNo.{PageNo}
use Rattle.sd_base.specs.declared.page_op.PageOp.{PageOp}
use Rattle.sd_base.specs.declared.shape.Shape.{Shape}
use Rattle.sd_base.proofs.PlaceLaws.{map_of_page-data}
use Rattle.page_image.specs.declared.page_view.PageView.{PageView}
use Rattle.space_map.specs.Image.{MapImage}
use Rattle.space_map.proofs.PageImageLaws.{changed-page, changed-map}
use Rattle.state_ids.specs.PageImage.{PageImage, changed, data_page, ident_of, is_map, is_map_op, map_page, page_of}
use Rattle.state_ids.specs.Held.{Shows}
use Rattle.state_ids.specs.Blocks.{IsOfKind, ShowsPage}
use Rattle.recovery_theory.specs.Effect.{Step}
use Rattle.recovery_theory.specs.Pages.{blank, in_life_from, page_named}
use Rattle.recovery_theory.specs.Redo.{birth_in, is_applied, page_in, redo_step}
use Rattle.recovery_theory.specs.Steps.{set_at}
use Rattle.one_log_redo.specs.Copies.{ShowsAs}
use Rattle.one_log_redo.specs.Redoing.{is_next, redone}
use Rattle.one_log_redo.specs.Steps.{IsChangeOf}
use Rattle.one_log_redo.proofs.Images.{kind-in_life}
use Rattle.one_log_redo.proofs.StepFacts.{birth-map, step-here}

-- ---- kinds

pub map_kind : (s : Shape) (x : PageNo) (i : PageImage) → page_of i ≡ x → IsOfKind s i → x.0 < s.maps → is_map i ≡ true
map_kind s x (map_page m) at kind lt = refl
map_kind s x (data_page v) at kind lt = let number = ap (λ (y : PageNo). y.0) at in absurd (omega (arith, number, kind, lt))

pub data_kind : (s : Shape) (x : PageNo) (i : PageImage) → page_of i ≡ x → IsOfKind s i → s.maps ≤ x.0 → is_map i ≡ false
data_kind s x (data_page v) at kind le = refl
data_kind s x (map_page m) at kind le = let number = ap (λ (y : PageNo). y.0) at in absurd (omega (arith, number, kind, le))

-- a map page has a low number
pub map_low : (s : Shape) (x : PageNo) (i : PageImage) → page_of i ≡ x → IsOfKind s i → is_map i ≡ true → x.0 < s.maps
map_low s x (map_page m) at kind is = let number = ap (λ (y : PageNo). y.0) at in omega (arith, number, kind)
map_low s x (data_page v) at kind is = absurd cc

-- a page with the number and the kind of another one is of the kind that its number says
same_kind : (s : Shape) (i j : PageImage) → page_of j ≡ page_of i → is_map j ≡ is_map i → IsOfKind s i → IsOfKind s j
same_kind s (data_page v) (data_page w) page kind is = let number = ap (λ (y : PageNo). y.0) page in omega (arith, number, is)
same_kind s (map_page m) (map_page n) page kind is = let number = ap (λ (y : PageNo). y.0) page in omega (arith, number, is)
same_kind s (data_page v) (map_page n) page kind is = absurd cc
same_kind s (map_page m) (data_page w) page kind is = absurd cc

pub map_shown : (s : Shape) (x : PageNo) (pool : List (Option (List ℕ))) (f : ℕ) → x.0 < s.maps → ShowsPage s x pool f → (m : MapImage) × Shows pool f (map_page m)
map_shown s x pool f lt w = by w.0 w.1 w.2 w.3
  where
    by : (i : PageImage) → Shows pool f i → page_of i ≡ x → IsOfKind s i → (m : MapImage) × Shows pool f (map_page m)
    by (map_page m) shows at kind = (m, shows)
    by (data_page v) shows at kind = let number = ap (λ (y : PageNo). y.0) at in absurd (omega (arith, number, kind, lt))

pub data_shown : (s : Shape) (x : PageNo) (pool : List (Option (List ℕ))) (f : ℕ) → s.maps ≤ x.0 → ShowsPage s x pool f → (v : PageView) × Shows pool f (data_page v)
data_shown s x pool f le w = by w.0 w.1 w.2 w.3
  where
    by : (i : PageImage) → Shows pool f i → page_of i ≡ x → IsOfKind s i → (v : PageView) × Shows pool f (data_page v)
    by (data_page v) shows at kind = (v, shows)
    by (map_page m) shows at kind = let number = ap (λ (y : PageNo). y.0) at in absurd (omega (arith, number, kind, le))

-- a change of a map page is of an entry, and one of a data page of a slot
pub map_op : (s : Shape) (x bsi : ℕ) (op : PageOp) → IsChangeOf s x bsi op → x < s.maps → is_map_op op ≡ true
map_op s x bsi op is lt = by (is_map_op op) refl
  where
    by : (b : Bool) → is_map_op op ≡ b → is_map_op op ≡ true
    by true e = e
    by false e = let far = is.slot e in absurd (omega (arith, far.0, lt))

pub slot_op : (s : Shape) (x bsi : ℕ) (op : PageOp) → IsChangeOf s x bsi op → s.maps ≤ x → is_map_op op ≡ false
slot_op s x bsi op is le = by (is_map_op op) refl
  where
    by : (b : Bool) → is_map_op op ≡ b → is_map_op op ≡ false
    by false e = e
    by true e = let far = is.map e in absurd (omega (arith, far, le))

-- ---- the page after a step

life_page : (x : PageNo) (birth : ℕ) (i : PageImage) → page_of i ≡ x → page_of (in_life_from x.0 birth i) ≡ x
life_page x birth i at = by (ltb (ident_of i) birth)
  where
    by : (b : Bool) → page_of (cond b (blank x.0 birth) i) ≡ x
    by true = refl
    by false = at

redone_page : (x : PageNo) (birth bsi : ℕ) (op : PageOp) (i : PageImage) → page_of i ≡ x → page_of (redone x.0 birth bsi op i) ≡ x
redone_page x birth bsi op i at = by (is_next x.0 birth bsi i)
  where
    by : (b : Bool) → page_of (cond b (changed op (in_life_from x.0 birth i)) i) ≡ x
    by true = changed-page op (in_life_from x.0 birth i) ∙ life_page x birth i at
    by false = at

redone_map : (x : PageNo) (birth bsi : ℕ) (op : PageOp) (i : PageImage) → (is_map i ≡ true → birth ≡ 0) → is_map (redone x.0 birth bsi op i) ≡ is_map i
redone_map x birth bsi op i none = by (is_next x.0 birth bsi i)
  where
    by : (b : Bool) → is_map (cond b (changed op (in_life_from x.0 birth i)) i) ≡ is_map i
    by true = changed-map op (in_life_from x.0 birth i) ∙ kind-in_life x.0 birth i none
    by false = refl

module _ (s : Shape) (x : PageNo) (bsi : ℕ) (op : PageOp) (images : ℕ → PageImage) where
  abbrev stepped : PageImage
  stepped = redo_step s x.0 (record { bsi = bsi; op = op }) images x.0

  pub stepped_page : page_of (images x.0) ≡ x → page_of stepped ≡ x
  stepped_page at = ap page_of (step-here s x.0 bsi op images) ∙ redone_page x (birth_in s images x.0) bsi op (images x.0) at

  pub stepped_kind : page_of (images x.0) ≡ x → IsOfKind s (images x.0) → IsOfKind s stepped
  stepped_kind at kind =
      same_kind s (images x.0) stepped (stepped_page at ∙ sym at)
      (ap is_map (step-here s x.0 bsi op images) ∙ redone_map x (birth_in s images x.0) bsi op (images x.0) (λ is. birth-map s images x.0 (map_low s x (images x.0) at kind is))) kind

  -- a step that isn't made changes nothing
  pub step_passed : is_applied s x.0 bsi images ≡ false → redo_step s x.0 (record { bsi = bsi; op = op }) images x.0 ≡ images x.0
  step_passed e = rw e refl
