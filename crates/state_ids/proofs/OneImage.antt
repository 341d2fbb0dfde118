-- A text is that of one page with its number.
use Rattle.std.proofs.Common.{◌≡◌, ◌≤◌, ℕ, List, [], ◌∷◌, Option, length, codes, ◌*◌, get_or, refl, sym, ◌∙◌, ap, arith}
use Rattle.std.specs.List.{flat_map}
use Rattle.std.proofs.lemmas.List.{places}
use Rattle.sd_base.specs.Text.{number_at, zero_block, bytes_field, number_field, put}
use Rattle.sd_base.specs.Page.{page_text}
use Rattle.sd_base.proofs.TextLaws.{length-put, number_at-field}
use Rattle.page_image.specs.declared.page_view.PageView.{PageView}
use Rattle.page_image.specs.Image.{IsTextOf, image_text}
use Rattle.sd_base.specs.Slot.{slot_text}
use Rattle.sd_base.proofs.SlotLaws.{length-slot_text}
use Rattle.sd_base.proofs.Rows.{length-rows}
use Rattle.page_image.proofs.ImageLaws.{HasFields-same, IsTextOf-fields}
use Rattle.space_map.specs.Image.{MapImage, IsMapText, map_text}
use Rattle.space_map.specs.Entry.{entry_text}
use Rattle.space_map.proofs.ImageLaws.{length-map_text, IsMapText-image_at}
use Rattle.state_ids.specs.PageImage.{PageImage, data_page, map_page, page_of, IsText}
use Rattle.state_ids.specs.Held.{Shows}
use Rattle.state_ids.proofs.PageLaws.{Shows-text}

abbrev first_bytes : List ℕ
first_bytes = put 0 (codes "SDPAGE01") zero_block

-- the kind of a page is read in its header
kind_read : (page ident : ℕ) (body : List ℕ) → length body ≤ 4032 → (number_at 1 8 (page_text 1 page ident body) ≡ 1) × (number_at 1 8 (page_text 2 page ident body) ≡ 2)
unfolding page_text
kind_read page ident body le = (
  number_at-field 1 8 1 4096 first_bytes (number_field 12 4 page ∷ number_field 16 8 ident ∷ bytes_field 64 body ∷ []) (length-put 0 (codes "SDPAGE01") zero_block (omega arith)) (omega arith) (omega arith)
      ((omega arith, omega arith), ((omega arith, omega arith), ((omega arith, omega arith), tt))),
  number_at-field 1 8 2 4096 first_bytes (number_field 12 4 page ∷ number_field 16 8 ident ∷ bytes_field 64 body ∷ []) (length-put 0 (codes "SDPAGE01") zero_block (omega arith)) (omega arith) (omega arith)
      ((omega arith, omega arith), ((omega arith, omega arith), ((omega arith, omega arith), tt))),
)

data_kind : (v : PageView) (b : List ℕ) → IsTextOf v b → number_at 1 8 b ≡ 2
unfolding image_text
data_kind v b t =
    let body : length (flat_map slot_text v.slots) ≡ 4032 = length-rows slot_text 252 v.slots (λ k d lt. length-slot_text (get_or v.slots k d) (t.image.values k d lt)) ∙ ap (λ n. 252 * n) t.image.slots in
    ap (number_at 1 8) t.text ∙ (kind_read v.page.0 v.ident (flat_map slot_text v.slots) (omega (arith, body))).1

-- a body that fills no more than the rest of a block
body_fits : (page ident : ℕ) (body : List ℕ) → length (page_text 1 page ident body) ≡ 4096 → length body ≤ 4032
unfolding page_text put
body_fits page ident body e = grind (arith, places)

map_kind : (m : MapImage) (b : List ℕ) → IsMapText m b → number_at 1 8 b ≡ 1
unfolding map_text
map_kind m b t = ap (number_at 1 8) t.text ∙ (kind_read m.page.0 m.ident (flat_map entry_text m.entries) (body_fits m.page.0 m.ident (flat_map entry_text m.entries) (length-map_text m t.image))).0

pub one_image : (image other : PageImage) (b : List ℕ) → page_of image ≡ page_of other → IsText image b → IsText other b → image ≡ other
one_image (data_page v) (data_page w) b same t u = ap data_page (HasFields-same v w b same (IsTextOf-fields v b t) (IsTextOf-fields w b u))
one_image (map_page m) (map_page n) b same t u = ap map_page (sym (IsMapText-image_at m n.page b same t) ∙ IsMapText-image_at n n.page b refl u)
one_image (data_page v) (map_page n) b same t u = let two = data_kind v b t in let one = map_kind n b u in absurd (omega (arith, two, one))
one_image (map_page m) (data_page w) b same t u = let one = map_kind m b t in let two = data_kind w b u in absurd (omega (arith, two, one))

pub one_shown : (pool : List (Option (List ℕ))) (frame : ℕ) (image other : PageImage) → Shows pool frame image → Shows pool frame other → page_of image ≡ page_of other → image ≡ other
one_shown pool frame image other s t same = one_image image other t.bytes same (Shows-text pool frame image t.bytes s t.held) t.text
