-- What is read of the text of a map page, and how it is changed.
use Rattle.std.proofs.Common.{◌≡◌, ◌≤◌, ◌<◌, ◌+◌, ◌*◌, ◌^◌, ℕ, List, [], All, length, take, drop, set, get_or, refl, sym, ◌∙◌, ap, arith}
use Rattle.std.specs.List.{flat_map}
use Rattle.std.proofs.lemmas.List.{flat_map_more, length-set, take_more, take_all}
use Rattle.std.proofs.lemmas.List.Elements.{All-set, All-replicate}
use Rattle.std.proofs.lemmas.List.FromFn.{fill_by_all}
use Rattle.sd_base.specs.Text.{put}
use Rattle.sd_base.specs.Page.{page_text, header_page, header_ident, with_header_ident}
use Rattle.sd_base.specs.declared.names.PageNo.{PageNo}
use Rattle.sd_base.proofs.PageLaws.{length-page_text, header_page-page_text, header_ident-page_text, drop-page_text, put-in_body, put-behind_body, with_header_ident-page_text}
use Rattle.sd_base.proofs.Rows.{IsRow, length-rows, length-rows_before, drop-rows, put-rows}
use Rattle.space_map.specs.declared.map_entry.MapEntry.{MapEntry}
use Rattle.space_map.specs.declared.map_entry.MapEntry.TheVariants.{Free}
use Rattle.space_map.specs.Entry.{IsEntry, entry_text, entry_of_text}
use Rattle.space_map.specs.Image.{MapImage, IsMapImage, IsMapText, map_text, birth_map}
use Rattle.space_map.specs.Reading.{entries_at, image_at}
use Rattle.space_map.specs.Change.{with_entry}
use Rattle.space_map.proofs.EntryLaws.{length-entry_text, entry_of_text-entry_text}

abbrev body_of : MapImage → List ℕ
body_of m = flat_map entry_text m.entries

-- each entry's text has the same length
rows_of : (entries : List MapEntry) → All (IsRow entry_text 16) entries
rows_of entries = λ k d lt. length-entry_text (get_or entries k d)

length-body : (entries : List MapEntry) → length entries ≡ 252 → length (flat_map entry_text entries) ≡ 4032
length-body entries count = length-rows entry_text 16 entries (rows_of entries) ∙ ap (λ n. 16 * n) count

-- a map page fills a block
pub length-map_text : (m : MapImage) → IsMapImage m → length (map_text m) ≡ 4096
unfolding map_text
length-map_text m h = length-page_text 1 m.page.0 m.ident (body_of m) (omega (arith, length-body m.entries h.count))

-- the page number is read
page-read : (m : MapImage) → IsMapImage m → m.page.0 < 2 ^ 32 → header_page (map_text m) ≡ m.page.0
unfolding map_text
page-read m h lt = header_page-page_text 1 m.page.0 m.ident (body_of m) lt (omega (arith, length-body m.entries h.count))

-- the identifier is read
pub ident-read : (m : MapImage) → IsMapImage m → header_ident (map_text m) ≡ m.ident
unfolding map_text
ident-read m h = header_ident-page_text 1 m.page.0 m.ident (body_of m) (omega (arith, h.ident)) (omega (arith, length-body m.entries h.count))

-- an entry is read
pub entry-read : (m : MapImage) (k : ℕ) → IsMapImage m → k < 252 → entry_of_text (drop (64 + 16 * k) (map_text m)) ≡ get_or m.entries k (Free 0)
unfolding map_text
entry-read m k h lt =
    let at : k < length m.entries = omega (arith, h.count) in
    ap entry_of_text (drop-page_text 1 m.page.0 m.ident (16 * k) (body_of m) (length-body m.entries h.count) ∙ drop-rows entry_text 16 m.entries k (Free 0) at (rows_of m.entries))
    ∙ entry_of_text-entry_text (get_or m.entries k (Free 0)) (drop (16 * (k + 1)) (body_of m)) (h.entries k (Free 0) at)

-- what is read at a place of the text of a map page is its entry
pub IsMapText-entry : (m : MapImage) (b : List ℕ) (k : ℕ) → IsMapText m b → k < 252 → entry_of_text (drop (64 + 16 * k) b) ≡ get_or m.entries k (Free 0)
IsMapText-entry m b k t lt = ap (λ text. entry_of_text (drop (64 + 16 * k) text)) t.text ∙ entry-read m k t.image lt

-- what is read at all places are its entries
pub IsMapText-entries : (m : MapImage) (b : List ℕ) → IsMapText m b → entries_at b ≡ m.entries
IsMapText-entries m b t = sym (fill_by_all (λ k. entry_of_text (drop (64 + 16 * k) b)) m.entries 252 (Free 0) t.image.count (λ k lt. sym (IsMapText-entry m b k t lt)))

-- what is read in the text of a map page is that page
pub IsMapText-image_at : (m : MapImage) (x : PageNo) (b : List ℕ) → m.page ≡ x → IsMapText m b → image_at x b ≡ m
IsMapText-image_at m x b page t =
    let ident : header_ident b ≡ m.ident = ap header_ident t.text ∙ ident-read m t.image in
    let entries : entries_at b ≡ m.entries = IsMapText-entries m b t in
    λ i. record { page = sym page i; ident = ident i; entries = entries i }

-- a block is the text of one map page
pub IsMapText-same : (m n : MapImage) (b : List ℕ) → m.page.0 < 2 ^ 32 → n.page.0 < 2 ^ 32 → IsMapText m b → IsMapText n b → m ≡ n
IsMapText-same m n b lt lt' t u =
    let number : n.page.0 ≡ m.page.0 = sym (page-read n u.image lt') ∙ ap header_page (sym u.text ∙ t.text) ∙ page-read m t.image lt in
    let page : n.page ≡ m.page = λ i. record { 0 = number i } in
    sym (IsMapText-image_at m m.page b refl t) ∙ IsMapText-image_at n m.page b page u

-- a page with its first entries written, and the next entry put behind them
pub page_text-next : (page ident i : ℕ) (entries : List MapEntry) (d : MapEntry) → length entries ≡ 252 → i < 252 → put (64 + 16 * i) (entry_text (get_or entries i d)) (page_text 1 page ident (flat_map entry_text (take i entries))) ≡ page_text 1 page ident (flat_map entry_text (take (i + 1) entries))
page_text-next page ident i entries d count lt =
    let at : i < length entries = omega arith in
    let first : List ℕ = flat_map entry_text (take i entries) in
    let long : length first ≡ 16 * i = length-rows_before entry_text 16 entries i (omega arith) (rows_of entries) in
    let next : length (entry_text (get_or entries i d)) ≡ 16 = length-entry_text (get_or entries i d) in
    put-behind_body 1 page ident (16 * i) (entry_text (get_or entries i d)) first (sym long) (omega arith)
    ∙ ap (page_text 1 page ident) (flat_map_more entry_text [] (take i entries) (get_or entries i d) ∙ ap (flat_map entry_text) (sym (take_more entries i d at)))

-- a page with all entries written
pub page_text-all : (page ident : ℕ) (entries : List MapEntry) → length entries ≡ 252 → page_text 1 page ident (flat_map entry_text (take 252 entries)) ≡ page_text 1 page ident (flat_map entry_text entries)
page_text-all page ident entries count = ap (λ all. page_text 1 page ident (flat_map entry_text all)) (take_all 252 entries (omega arith))

-- an entry and the next identifier put into a map page
pub put-map_text : (m : MapImage) (place : ℕ) (e : MapEntry) → IsMapImage m → place ≤ 251 → with_header_ident (m.ident + 1) (put (64 + 16 * place) (entry_text e) (map_text m)) ≡ map_text (with_entry place e m)
unfolding map_text
put-map_text m place e h le =
    let at : place < length m.entries = omega (arith, h.count) in
    let long : length (body_of m) ≡ 4032 = length-body m.entries h.count in
    let next : length (entry_text e) ≡ 16 = length-entry_text e in
    let changed : put (16 * place) (entry_text e) (body_of m) ≡ flat_map entry_text (set m.entries place e) = put-rows entry_text 16 m.entries place e at (rows_of m.entries) next in
    let long' : length (flat_map entry_text (set m.entries place e)) ≡ 4032 = length-body (set m.entries place e) (length-set m.entries place e ∙ h.count) in
    ap (with_header_ident (m.ident + 1)) (put-in_body 1 m.page.0 m.ident (16 * place) (entry_text e) (body_of m) (omega arith) (omega arith) ∙ ap (page_text 1 m.page.0 m.ident) changed)
    ∙ with_header_ident-page_text 1 m.page.0 m.ident (m.ident + 1) (flat_map entry_text (set m.entries place e)) (omega arith)

-- a map page is born as one
pub IsMapImage-birth_map : (x : PageNo) (ident : ℕ) → ident ≤ 2 ^ 63 + 2 ^ 40 → IsMapImage (birth_map x ident)
IsMapImage-birth_map x ident le = record { ident = le; count = refl; entries = All-replicate IsEntry 252 (Free ident) le }

-- a change keeps what holds of a map page
pub IsMapImage-with_entry : (m : MapImage) (place : ℕ) (e : MapEntry) → IsMapImage m → m.ident < 2 ^ 63 + 2 ^ 40 → IsEntry e → IsMapImage (with_entry place e m)
IsMapImage-with_entry m place e h lt fits = record {
  ident = omega arith;
  count = length-set m.entries place e ∙ h.count;
  entries = All-set IsEntry m.entries place e fits h.entries;
}
