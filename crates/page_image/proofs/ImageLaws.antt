-- What is read of the text of a data page, and how it is changed.
use Rattle.std.proofs.Common.{◌≡◌, ◌≤◌, ◌<◌, ◌+◌, ◌*◌, ◌^◌, ℕ, Option, None, List, [], All, length, take, drop, set, get_or, refl, sym, ◌∙◌, ap, subst, arith}
use Rattle.std.specs.List.{flat_map}
use Rattle.std.proofs.lemmas.List.{ext_get_or, get_or_default, flat_map_more, length-set, take_more, take_all}
use Rattle.std.proofs.lemmas.List.Elements.{All-set, All-replicate, All-weaker}
use Rattle.sd_base.specs.Text.{put}
use Rattle.sd_base.specs.Page.{page_text, header_page, header_ident, with_header_ident}
use Rattle.sd_base.proofs.PageLaws.{length-page_text, header_page-page_text, header_ident-page_text, drop-page_text, put-in_body, put-behind_body, with_header_ident-page_text}
use Rattle.sd_base.proofs.Rows.{IsRow, length-rows, length-rows_before, drop-rows, put-rows}
use Rattle.sd_base.specs.declared.names.PageNo.{PageNo}
use Rattle.page_image.specs.declared.page_view.PageView.{PageView}
use Rattle.page_image.specs.Slot.{slot_text, slot_of_text, FitsSlot}
use Rattle.page_image.specs.Image.{image_text, IsImage, IsTextOf, HasFields, birth_image}
use Rattle.page_image.specs.Change.{with_put}
use Rattle.sd_base.proofs.SlotLaws.{length-slot_text}
use Rattle.page_image.proofs.SlotLaws.{slot_of_text-slot_text, FitsSlot-slot_of_text}

abbrev body_of : PageView → List ℕ
body_of v = flat_map slot_text v.slots

-- each slot's text has the same length
rows_of : (v : PageView) → IsImage v → All (IsRow slot_text 252) v.slots
rows_of v h = All-weaker FitsSlot (IsRow slot_text 252) length-slot_text v.slots h.values

length-body_of : (v : PageView) → IsImage v → length (body_of v) ≡ 4032
length-body_of v h = length-rows slot_text 252 v.slots (rows_of v h) ∙ ap (λ n. 252 * n) h.slots

-- a data page fills a block
pub length-image_text : (v : PageView) → IsImage v → length (image_text v) ≡ 4096
unfolding image_text
length-image_text v h = length-page_text 2 v.page.0 v.ident (body_of v) (omega (arith, length-body_of v h))

-- the identifier is read
pub ident-read : (v : PageView) → IsImage v → header_ident (image_text v) ≡ v.ident
unfolding image_text
ident-read v h = header_ident-page_text 2 v.page.0 v.ident (body_of v) (omega (arith, h.ident)) (omega (arith, length-body_of v h))

-- a slot is read
pub slot-read : (v : PageView) (k : ℕ) → IsImage v → k < 16 → slot_of_text (drop (64 + 252 * k) (image_text v)) ≡ get_or v.slots k None
unfolding image_text
slot-read v k h lt =
    let at : k < length v.slots = omega (arith, h.slots) in
    ap slot_of_text (drop-page_text 2 v.page.0 v.ident (252 * k) (body_of v) (length-body_of v h) ∙ drop-rows slot_text 252 v.slots k None at (rows_of v h))
    ∙ slot_of_text-slot_text (get_or v.slots k None) (drop (252 * (k + 1)) (body_of v)) (h.values k None at)

-- a block that is the text of a data page has its identifier and slots
pub IsTextOf-fields : (v : PageView) (b : List ℕ) → IsTextOf v b → HasFields v b
IsTextOf-fields v b t = record {
  ident = sym (ident-read v t.image) ∙ ap header_ident (sym t.text);
  count = t.image.slots;
  slots = λ k lt. sym (slot-read v k t.image lt) ∙ ap (λ text. slot_of_text (drop (64 + 252 * k) text)) (sym t.text);
}

-- slots that are read can be written
pub HasFields-fits : (v : PageView) (b : List ℕ) → HasFields v b → All FitsSlot v.slots
HasFields-fits v b f = λ k d lt.
    let e : get_or v.slots k d ≡ slot_of_text (drop (64 + 252 * k) b) = get_or_default v.slots k d None lt ∙ f.slots k (omega (arith, f.count)) in
    subst FitsSlot (sym e) (FitsSlot-slot_of_text (drop (64 + 252 * k) b))

-- what is read is one data page
pub HasFields-same : (v w : PageView) (b : List ℕ) → v.page ≡ w.page → HasFields v b → HasFields w b → v ≡ w
HasFields-same v w b page f g =
    let ident : v.ident ≡ w.ident = f.ident ∙ sym g.ident in
    let slots : v.slots ≡ w.slots = ext_get_or None v.slots w.slots (f.count ∙ sym g.count) (λ k lt. f.slots k (omega (arith, f.count)) ∙ sym (g.slots k (omega (arith, f.count)))) in
    λ i. record { page = page i; ident = ident i; slots = slots i }

-- the page number is read
page-read : (v : PageView) → IsImage v → v.page.0 < 2 ^ 32 → header_page (image_text v) ≡ v.page.0
unfolding image_text
page-read v h lt = header_page-page_text 2 v.page.0 v.ident (body_of v) lt (omega (arith, length-body_of v h))

-- a block is the text of one data page
pub IsTextOf-same : (v w : PageView) (b : List ℕ) → v.page.0 < 2 ^ 32 → w.page.0 < 2 ^ 32 → IsTextOf v b → IsTextOf w b → v ≡ w
IsTextOf-same v w b lt lt' t u =
    let page : v.page.0 ≡ w.page.0 = sym (page-read v t.image lt) ∙ ap header_page (sym t.text ∙ u.text) ∙ page-read w u.image lt' in
    HasFields-same v w b (λ i. record { 0 = page i }) (IsTextOf-fields v b t) (IsTextOf-fields w b u)

-- two data pages with equal texts are equal
pub image_text-injective : (v w : PageView) → IsImage v → IsImage w → v.page.0 < 2 ^ 32 → w.page.0 < 2 ^ 32 → image_text v ≡ image_text w → v ≡ w
image_text-injective v w h k lt lt' same =
    IsTextOf-same v w (image_text v) lt lt' (record { image = h; text = refl }) (record { image = k; text = same })

-- a page with its first slots written, and the next slot put behind them
pub page_text-next : (v : PageView) (i : ℕ) → IsImage v → i < 16 → put (64 + 252 * i) (slot_text (get_or v.slots i None)) (page_text 2 v.page.0 v.ident (flat_map slot_text (take i v.slots))) ≡ page_text 2 v.page.0 v.ident (flat_map slot_text (take (i + 1) v.slots))
page_text-next v i h lt =
    let at : i < length v.slots = omega (arith, h.slots) in
    let first : List ℕ = flat_map slot_text (take i v.slots) in
    let long : length first ≡ 252 * i = length-rows_before slot_text 252 v.slots i (omega arith) (rows_of v h) in
    let next : length (slot_text (get_or v.slots i None)) ≡ 252 = rows_of v h i None at in
    put-behind_body 2 v.page.0 v.ident (252 * i) (slot_text (get_or v.slots i None)) first (sym long) (omega arith)
    ∙ ap (page_text 2 v.page.0 v.ident) (flat_map_more slot_text [] (take i v.slots) (get_or v.slots i None) ∙ ap (flat_map slot_text) (sym (take_more v.slots i None at)))

-- a page with all slots written
pub page_text-all : (v : PageView) → IsImage v → page_text 2 v.page.0 v.ident (flat_map slot_text (take 16 v.slots)) ≡ image_text v
unfolding image_text
page_text-all v h = ap (λ slots. page_text 2 v.page.0 v.ident (flat_map slot_text slots)) (take_all 16 v.slots (omega (arith, h.slots)))

-- a slot and the next identifier put into a data page
pub put-image_text : (v : PageView) (slot : ℕ) (after : Option (List ℕ)) → IsImage v → slot ≤ 15 → FitsSlot after → with_header_ident (v.ident + 1) (put (64 + 252 * slot) (slot_text after) (image_text v)) ≡ image_text (with_put slot after v)
unfolding image_text
put-image_text v slot after h le fits =
    let at : slot < length v.slots = omega (arith, h.slots) in
    let long : length (body_of v) ≡ 4032 = length-body_of v h in
    let next : length (slot_text after) ≡ 252 = length-slot_text after fits in
    let changed : put (252 * slot) (slot_text after) (body_of v) ≡ flat_map slot_text (set v.slots slot after) = put-rows slot_text 252 v.slots slot after at (rows_of v h) next in
    let long' : length (flat_map slot_text (set v.slots slot after)) ≡ 4032 = length-body_of (record v { slots = set v.slots slot after }) (record { ident = h.ident; slots = length-set v.slots slot after ∙ h.slots; values = All-set FitsSlot v.slots slot after fits h.values }) in
    ap (with_header_ident (v.ident + 1)) (put-in_body 2 v.page.0 v.ident (252 * slot) (slot_text after) (body_of v) (omega arith) (omega arith) ∙ ap (page_text 2 v.page.0 v.ident) changed)
    ∙ with_header_ident-page_text 2 v.page.0 v.ident (v.ident + 1) (flat_map slot_text (set v.slots slot after)) (omega arith)

-- a page is born as a data page
pub IsImage-birth_image : (x : PageNo) (ident : ℕ) → ident ≤ 2 ^ 63 + 2 ^ 40 → IsImage (birth_image x ident)
IsImage-birth_image x ident le = record { ident = le; slots = refl; values = All-replicate FitsSlot 16 None tt }

-- a change keeps what holds of a data page
pub IsImage-with_put : (v : PageView) (slot : ℕ) (after : Option (List ℕ)) → IsImage v → v.ident < 2 ^ 63 + 2 ^ 40 → FitsSlot after → IsImage (with_put slot after v)
IsImage-with_put v slot after h lt fits = record {
  ident = omega arith;
  slots = length-set v.slots slot after ∙ h.slots;
  values = All-set FitsSlot v.slots slot after fits h.values;
}
