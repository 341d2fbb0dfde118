-- Redo of a record is that of its change; redo of a change gives its page the image that the page's life and identifier say.
use Rattle.std.proofs.Common.{◌≡◌, ◌≤◌, ◌<◌, ℕ, Bool, true, false, cond, eqb, List, refl, lt-ltb, le-ltb}
use Rattle.sd_base.specs.Places.{map_of_data, place_of_page}
use Rattle.sd_base.specs.declared.names.PageNo.{PageNo}
use Rattle.sd_base.specs.declared.page_op.PageOp.{PageOp}
use Rattle.sd_base.specs.declared.shape.Shape.{Shape}
use Rattle.log_record.specs.declared.record.LogRecord.TheVariants.{Begin, Set, Append, Commit, Abort, Restore, Cut, MapUse, MapFree}
use Rattle.space_map.specs.PageImage.{PageImage, changed, ident_of, is_map, data_page, map_page}
use Rattle.space_map.specs.Image.{MapImage, IsMapText}
use Rattle.state_ids.specs.PageImage.{IsText}
use Rattle.recovery_theory.specs.Pages.{birth_of, entries_of}
use Rattle.recovery_theory.specs.Redo.{birth_in, page_in, redo_step}
use Rattle.recovery_theory.specs.Steps.{set_at}
use Rattle.recovery_theory.proofs.Cuts.{set_at-same, set_at-other}
use Rattle.one_log_redo.specs.Redoing.{redone}
use Rattle.one_log_redo.specs.Steps.{RecordIsCounted, RecordIsStep, StepKeepsOthers}

pub record_is_step : RecordIsStep
record_is_step shape Begin images = refl
record_is_step shape (Set txn prev page bsi slot before after) images = refl
record_is_step shape (Append txn prev page bsi slot present len bytes) images = refl
record_is_step shape (Commit txn prev) images = refl
record_is_step shape (Abort txn prev) images = refl
record_is_step shape (Restore txn prev next page bsi slot after) images = refl
record_is_step shape (Cut txn prev next page bsi slot present len) images = refl
record_is_step shape (MapUse page bsi place group) images = refl
record_is_step shape (MapFree page bsi place group ident) images = refl

pub record_is_counted : RecordIsCounted
record_is_counted shape Begin images = (refl, refl)
record_is_counted shape (Set txn prev page bsi slot before after) images = (refl, refl)
record_is_counted shape (Append txn prev page bsi slot present len bytes) images = (refl, refl)
record_is_counted shape (Commit txn prev) images = (refl, refl)
record_is_counted shape (Abort txn prev) images = (refl, refl)
record_is_counted shape (Restore txn prev next page bsi slot after) images = (refl, refl)
record_is_counted shape (Cut txn prev next page bsi slot present len) images = (refl, refl)
record_is_counted shape (MapUse page bsi place group) images = (refl, refl)
record_is_counted shape (MapFree page bsi place group ident) images = (refl, refl)

pub step_keeps_others : StepKeepsOthers
step_keeps_others shape x y s images ne = by (eqb s.bsi (ident_of (page_in shape images x)))
  where
    by : (b : Bool) → cond b (set_at x (changed s.op (page_in shape images x)) images) images y ≡ images y
    by true = set_at-other x (changed s.op (page_in shape images x)) images y ne
    by false = refl

-- the image of the page itself
pub step-here : (shape : Shape) (x bsi : ℕ) (op : PageOp) (images : ℕ → PageImage) → redo_step shape x (record { bsi = bsi; op = op }) images x ≡ redone x (birth_in shape images x) bsi op (images x)
step-here shape x bsi op images = by (eqb bsi (ident_of (page_in shape images x)))
  where
    by : (b : Bool) → cond b (set_at x (changed op (page_in shape images x)) images) images x ≡ cond b (changed op (page_in shape images x)) (images x)
    by true = set_at-same x (changed op (page_in shape images x)) images
    by false = refl

-- the life of a map page, and of a data page
pub birth-map : (shape : Shape) (images : ℕ → PageImage) (x : ℕ) → x < shape.maps → birth_in shape images x ≡ 0
birth-map shape images x lt = rw (lt-ltb x shape.maps lt) refl

pub birth-data : (shape : Shape) (images : ℕ → PageImage) (x : PageNo) → shape.maps ≤ x.0 → birth_in shape images x.0 ≡ birth_of (entries_of (images (map_of_data shape x).0) (place_of_page shape x))
birth-data shape images x le = rw (le-ltb x.0 shape.maps le) refl

-- the life that is read in the block of a map page
pub birth-read : (i : PageImage) (b : List ℕ) (place birth : ℕ) → is_map i ≡ true → IsText i b → ((m : MapImage) → IsMapText m b → birth ≡ birth_of (entries_of (map_page m) place)) → birth ≡ birth_of (entries_of i place)
birth-read (map_page m) b place birth is t read = read m t
birth-read (data_page v) b place birth is t read = absurd cc
