-- What is read of the text of a data page, and the text of a blank one.
use Rattle.std.proofs.Common.{◌≡◌, ◌≤◌, ◌<◌, ◌+◌, ◌*◌, ◌^◌, ℕ, None, List, [], length, refl, subst, sym, ◌∙◌, ap, arith, cond, nat_lt}
use Rattle.std.specs.List.{flat_map}
use Rattle.std.proofs.lemmas.List.Elements.{All-replicate, All-weaker}
use Rattle.sd_base.specs.Page.{page_text, header_ident}
use Rattle.sd_base.specs.Slot.{FitsSlot, slot_text}
use Rattle.sd_base.specs.declared.names.PageNo.{PageNo}
use Rattle.sd_base.proofs.PageLaws.{header_ident-page_text, page_text-zeros}
use Rattle.sd_base.proofs.Rows.{IsRow, length-rows}
use Rattle.sd_base.proofs.SlotLaws.{length-slot_text}
use Rattle.space_map.specs.declared.map_entry.MapEntry.{MapEntry}
use Rattle.space_map.specs.Entry.{ident_of}
use Rattle.space_map.specs.Life.{DataPage, IsDataText, blank_page, page_in_life}

-- the identifier is read
pub IsDataText-ident : (x : PageNo) (page : DataPage) (b : List ℕ) → IsDataText x page b → header_ident b ≡ page.ident
IsDataText-ident x page b t =
    let long : length (flat_map slot_text page.slots) ≡ 4032 = length-rows slot_text 252 page.slots (All-weaker FitsSlot (IsRow slot_text 252) length-slot_text page.slots t.image.values) ∙ ap (λ n. 252 * n) t.image.slots in
    ap header_ident t.text ∙ header_ident-page_text 2 x.0 page.ident (flat_map slot_text page.slots) (omega (arith, t.image.ident)) (omega arith)

-- a header alone is a blank page
pub IsDataText-blank_page : (x : PageNo) (ident : ℕ) (b : List ℕ) → ident ≤ 2 ^ 63 + 2 ^ 40 → b ≡ page_text 2 x.0 ident [] → IsDataText x (blank_page ident) b
IsDataText-blank_page x ident b le e = record {
  image = record { ident = le; slots = refl; values = All-replicate FitsSlot 16 None tt };
  text = e ∙ sym (page_text-zeros 2 x.0 ident);
}

stale_by : (page : DataPage) (ident : ℕ) → page.ident < ident → (cond (nat_lt page.ident ident) (blank_page ident) page) ≡ blank_page ident
stale_by page ident lt = grind arith

present_by : (page : DataPage) (ident : ℕ) → ident ≤ page.ident → (cond (nat_lt page.ident ident) (blank_page ident) page) ≡ page
present_by page ident le = grind arith

-- an image of an earlier life stands for a header alone
pub IsDataText-stale : (x : PageNo) (page : DataPage) (e : MapEntry) (b blank : List ℕ) → IsDataText x page b → ident_of e ≤ 2 ^ 63 + 2 ^ 40 → header_ident b < ident_of e → blank ≡ page_text 2 x.0 (ident_of e) [] → IsDataText x (page_in_life e page) blank
IsDataText-stale x page e b blank t le lt written =
    let stale : page.ident < ident_of e = omega (arith, IsDataText-ident x page b t) in
    subst (λ (p : DataPage). IsDataText x p blank) (sym (stale_by page (ident_of e) stale)) (IsDataText-blank_page x (ident_of e) blank le written)

-- an image of the present life stands for itself
pub IsDataText-present : (x : PageNo) (page : DataPage) (e : MapEntry) (b : List ℕ) → IsDataText x page b → ident_of e ≤ header_ident b → IsDataText x (page_in_life e page) b
IsDataText-present x page e b t le =
    let present : ident_of e ≤ page.ident = omega (arith, IsDataText-ident x page b t) in
    subst (λ (p : DataPage). IsDataText x p b) (sym (present_by page (ident_of e) present)) t
