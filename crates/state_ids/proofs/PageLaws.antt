-- Pages in frames, and their texts.
use Rattle.std.proofs.Common.{◌≡◌, ◌≤◌, ℕ, true, false, List, Option, Some, None, is_some, set, sym, ◌∙◌, ap, subst, arith}
use Rattle.std.proofs.lemmas.List.{get_or-set_same}
use Rattle.sd_base.specs.declared.names.PageNo.{PageNo}
use Rattle.sd_base.specs.declared.shape.Shape.{Shape}
use Rattle.page_image.specs.declared.page_view.PageView.{PageView}
use Rattle.page_image.specs.Image.{IsTextOf, image_text}
use Rattle.space_map.specs.declared.map_entry.MapEntry.{MapEntry}
use Rattle.space_map.specs.Image.{MapImage, IsMapText}
use Rattle.space_map.specs.Life.{DataPage, IsDataText, page_in_life}
use Rattle.frame_pool.specs.Frames.{frame_at, IsOut}
use Rattle.frame_pool.proofs.PoolLaws.{IsOut-within}
use Rattle.state_ids.specs.PageImage.{PageImage, data_page, map_page, page_of, IsText, data_of, view_of, in_life, is_map, is_map_op, changed}
use Rattle.sd_base.specs.declared.page_op.PageOp.{PageOp}
use Rattle.page_image.specs.Change.{applied}
use Rattle.space_map.specs.Change.{applied_map}
use Rattle.state_ids.specs.Held.{Shows}
use Rattle.state_ids.specs.Blocks.{IsOfKind, HoldsPage}
pub use Rattle.space_map.proofs.PageImageLaws.{changed-page, changed-map, changed-ident, in_life-page, in_life-map}

-- the text of a data page, in the words for what it holds
pub data_text : (v : PageView) (b : List ℕ) → IsTextOf v b → IsDataText v.page (data_of v) b
unfolding image_text
data_text v b t = record { image = record { ident = t.image.ident; slots = t.image.slots; values = t.image.values }; text = t.text }

pub view_text : (x : PageNo) (page : DataPage) (b : List ℕ) → IsDataText x page b → IsTextOf (view_of x page) b
unfolding image_text
view_text x page b t = record { image = record { ident = t.image.ident; slots = t.image.slots; values = t.image.values }; text = t.text }

-- a frame that was written holds what was written
pub Shows-written : (pool : List (Option (List ℕ))) (f : ℕ) (b : List ℕ) (image : PageImage) → IsOut pool f → IsText image b → Shows (set pool f (Some b)) f image
Shows-written pool f b image out text = record {
  bytes = b;
  held = get_or-set_same pool f (Some b) None (IsOut-within pool f out);
  text = text;
}

-- what a frame shows is out
pub Shows-out : (pool : List (Option (List ℕ))) (f : ℕ) (image : PageImage) → Shows pool f image → IsOut pool f
Shows-out pool f image s = ap is_some s.held

-- the bytes of a frame are the text of what it shows
pub Shows-text : (pool : List (Option (List ℕ))) (f : ℕ) (image : PageImage) (b : List ℕ) → Shows pool f image → frame_at pool f ≡ Some b → IsText image b
Shows-text pool f image b s is =
    let both : Some s.bytes ≡ Some b = sym s.held ∙ is in
    let same : s.bytes ≡ b = cc in
    subst (IsText image) same s.text

-- a page with a number of a data page is one
pub data_in : (s : Shape) (x : PageNo) (image : PageImage) (b : List ℕ) → s.maps ≤ x.0 → page_of image ≡ x → IsOfKind s image → IsText image b → (page : DataPage) × IsDataText x page b
data_in s x (data_page v) b le is kind t = (data_of v, subst (λ y. IsDataText y (data_of v) b) is (data_text v b t))
data_in s x (map_page m) b le is kind t = absurd (omega (arith, kind, le, ap (λ (y : PageNo). y.0) is))

-- a data page under its map entry
pub in_life_text : (s : Shape) (x : PageNo) (e : MapEntry) (image : PageImage) (b c : List ℕ) → s.maps ≤ x.0 → page_of image ≡ x → IsOfKind s image → IsText image b
    → ((page : DataPage) → IsDataText x page b → IsDataText x (page_in_life e page) c) → IsText (in_life (Some e) image) c
in_life_text s x e (data_page v) b c le is kind t life =
    view_text v.page (page_in_life e (data_of v)) c (subst (λ y. IsDataText y (page_in_life e (data_of v)) c) (sym is) (life (data_of v) (subst (λ y. IsDataText y (data_of v) b) is (data_text v b t))))
in_life_text s x e (map_page m) b c le is kind t life = absurd (omega (arith, kind, le, ap (λ (y : PageNo). y.0) is))

-- a frame that was read from a block that holds the page
pub Shows-read : (s : Shape) (x : PageNo) (pool : List (Option (List ℕ))) (f : ℕ) (b : List ℕ) (content : Option (List ℕ)) (image : PageImage) → IsOut pool f → content ≡ Some b → HoldsPage s x image content → Shows (set pool f (Some b)) f image
Shows-read s x pool f b content image out is h =
    let both : Some h.0 ≡ Some b = sym h.1 ∙ is in
    let same : h.0 ≡ b = cc in
    Shows-written pool f b image out (subst (IsText image) same h.2)

-- a change of a slot, and of a map entry
pub changed_data : (op : PageOp) (image : PageImage) (b c : List ℕ) → is_map_op op ≡ false → is_map image ≡ is_map_op op → IsText image b → ((v : PageView) → IsTextOf v b → IsTextOf (applied op v) c) → IsText (changed op image) c
changed_data op (data_page v) b c slot kind t does = does v t
changed_data op (map_page m) b c slot kind t does = absurd (let no : true ≡ false = kind ∙ slot in cc)

pub changed_map : (op : PageOp) (image : PageImage) (b c : List ℕ) → is_map_op op ≡ true → is_map image ≡ is_map_op op → IsText image b → ((m : MapImage) → IsMapText m b → IsMapText (applied_map op m) c) → IsText (changed op image) c
changed_map op (data_page v) b c entry kind t does = absurd (let no : false ≡ true = kind ∙ entry in cc)
changed_map op (map_page m) b c entry kind t does = does m t

-- a page under its map entry keeps its kind
pub in_life-kind : (s : Shape) (e : Option MapEntry) (image : PageImage) → IsOfKind s image → IsOfKind s (in_life e image)
in_life-kind s None image kind = kind
in_life-kind s (Some e) (data_page v) kind = kind
in_life-kind s (Some e) (map_page m) kind = kind
