-- What a fetch leaves of a cache: which pages it has then, which of them have changes, what their frames hold, and which
-- blocks were written to make room.
use Rattle.std.specs.Prelude.{◌≡◌, ◌≢◌, ◌⊎◌, ◌<◌, ◌≤◌, ◌∷◌, [], ℕ, zero, suc, Bool, true, false, List, Option, Some, None, All, AllPairs, is_some, nat_lt, option_and_then, slice_index_or, refl, length, ◌+◌, ◌++◌, IsTrue}
use Rattle.std.specs.List.{find, slice_get, position}
use Rattle.std.specs.Option.{option_or}
use Rattle.std.proofs.Common.{arith, inl, inr, ap, subst, sym, ◌∙◌}
use Rattle.std.proofs.lemmas.Bool.{cases_eq, eq-eqb, cases_lt}
use Rattle.std.proofs.lemmas.Bool.Decides.{nat_tests}
use Rattle.std.proofs.lemmas.List.{get_or-set_other, length-append}
use Rattle.std.proofs.lemmas.List.Elements.{All-append, All-cons, All-nil}
use Rattle.std.proofs.lemmas.List.Folds.{find-append}
use Rattle.std.proofs.lemmas.Option.{get_or_from_slice_get, slice_get_within}
use Rattle.sd_base.specs.Disk.{BlockState}
use Rattle.sd_base.specs.Shape.{page_count}
use Rattle.sd_base.specs.declared.device.NodeId.{NodeId}
use Rattle.sd_base.specs.declared.names.PageNo.{PageNo}
use Rattle.sd_base.specs.declared.shape.Shape.{Shape}
use Rattle.sd_base.specs.Places.{map_of_data, map_of_page}
use Rattle.sd_base.proofs.PlaceLaws.{map_of_page-data}
use Rattle.frame_pool.specs.Frames.{IsOut, frame_at}
use Rattle.space_map.specs.declared.map_entry.MapEntry.{MapEntry}
use Rattle.state_ids.specs.Blocks.{page_place}
use Rattle.node_cache.specs.Cache.{AreOut, CachedPage, CacheState, Changes, IsCache, IsOfStore, IsTiedToLog, first_change, is_cached, is_changed, is_page, page_at}
use Rattle.node_cache.specs.Writes.{KeepsContentsButPages}
use Rattle.node_cache.specs.Room.{Arrived, freed, leaving, staying, is_map_of, may_go}
use Rattle.node_cache.proofs.Arriving.{none_is, not_found}
use Rattle.node_cache.proofs.Leaving.{all_stay, who_leaves, none_leaves, one_leaves, Leaves}
use Rattle.node_cache.proofs.OnePage.{found, head_pairs, is_page-other, tail_pairs}
use Rattle.node_cache.proofs.Owning.{this_or_other}
use Rattle.node_cache.proofs.Without.{other_found, others_apart}
use Rattle.sd_base.proofs.Positions.{placed, not_placed}
use Rattle.std.proofs.lemmas.List.Edits.{length-remove}
use Rattle.node_cache.proofs.Finding.{all_at}
use Rattle.node_cache.proofs.RoomLaws.{same_content}

-- ---- the frames of the pages that stay

-- in the pool in which those that leave have given their frames back
pub frames_left : (s : Shape) (x : PageNo) (node : NodeId) (pages : List CachedPage) (pool : List (Option (List ℕ))) → IsCache node pages → All (λ q. frame_at (freed (leaving s x pages) pool) q.frame ≡ frame_at pool q.frame) (staying s x pages)
frames_left s x node pages pool is = elim (who_leaves s x pages) [
  | inl none ↦ λ k d low. ap (λ left. frame_at (freed left pool) (slice_index_or (staying s x pages) k d).frame) none.0
  | inr one ↦ λ k d low.
      let l = one.1 in
      ap (λ left. frame_at (freed left pool) (slice_index_or (staying s x pages) k d).frame) l.left
      ∙ get_or-set_other pool l.page.frame (slice_index_or (staying s x pages) k d).frame None None
      (subst (λ ps. All (λ q. q.frame ≢ l.page.frame) ps) (sym l.stayed) (others_apart (λ q. q.frame) pages one.0 l.page is.apart l.at) k d low)
]

-- and in the one in which the new page has a frame that was free
pub frames_stay : (s : Shape) (x : PageNo) (e : Option MapEntry) (c d : CacheState) (pool new : List (Option (List ℕ))) → IsCache c.node c.pages → AreOut pool c → Arrived s x e (staying s x c.pages) (freed (leaving s x c.pages) pool) d new
    → All (λ q. frame_at new q.frame ≡ frame_at pool q.frame) (staying s x c.pages)
frames_stay s x e c d pool new is out came = λ k f low.
    let q = slice_index_or (staying s x c.pages) k f in
    let left = frames_left s x c.node c.pages pool is k f low in
    let apart : q.frame ≢ came.frame = λ same. let some = all_stay (λ p. IsOut pool p.frame) s x c.pages out k f low in let none : frame_at pool q.frame ≡ None = sym left ∙ ap (frame_at (freed (leaving s x c.pages) pool)) same ∙ came.free in let never : false ≡ true = ap is_some (sym none) ∙ some in cc in
    ap (λ frames. frame_at frames q.frame) came.others ∙ get_or-set_other (freed (leaving s x c.pages) pool) came.frame q.frame (frame_at new came.frame) None apart ∙ left

-- ---- what is found, and what has changes

-- a page of a list is found by its number
at_once : (pages : List CachedPage) (i : ℕ) (p : CachedPage) → AllPairs (λ q r. q.ticket.page ≢ r.ticket.page) pages → slice_get pages i ≡ Some p → page_at p.ticket.page pages ≡ Some p
at_once [] i p once at = cc
at_once (q ∷ pages) zero p once at = let same : q ≡ p = cc in subst (λ r. page_at p.ticket.page (r ∷ pages) ≡ Some p) (sym same) (rw (eq-eqb p.ticket.page.0 p.ticket.page.0 refl) refl)
at_once (q ∷ pages) (suc i) p once at =
    let apart : q.ticket.page ≢ p.ticket.page = apart_at (head_pairs (λ q r. q.ticket.page ≢ r.ticket.page) q pages once) in
    rw (is_page-other p.ticket.page q apart) (at_once pages i p (tail_pairs (λ q r. q.ticket.page ≢ r.ticket.page) q pages once) at)
  where
    apart_at : All (λ r. q.ticket.page ≢ r.ticket.page) pages → q.ticket.page ≢ p.ticket.page
    apart_at all = let low = slice_get_within pages i p at in subst (λ r. q.ticket.page ≢ r.ticket.page) (get_or_from_slice_get pages i p p at) (all i p low)

-- whether the page that was found has changes
abbrev pub has_more : Option CachedPage → Bool
has_more o = is_some (option_and_then first_change o)

-- A page that the cache hasn't changed, unless it is the page that made room for x and left with its changes.
pub left_or_kept : (s : Shape) (x y : PageNo) (c : CacheState) → IsCache c.node c.pages → (page_at y (staying s x c.pages) ≡ page_at y c.pages → is_changed y c ≡ false)
    → (is_changed y c ≡ false) ⊎ ((p : CachedPage) × (leaving s x c.pages ≡ p ∷ []) × (p.ticket.page ≡ y) × (p.changes ≢ None))
left_or_kept s x y c is kept = elim (who_leaves s x c.pages) [
  | inl none ↦ inl (kept (ap (λ ps. page_at y ps) none.1))
  | inr one ↦ elim (this_or_other y one.1.page.ticket.page) [
    | inl gone ↦ went one.1.page (let at = at_once c.pages one.0 one.1.page is.once one.1.at in ap (λ z. page_at z c.pages) (sym gone) ∙ at) one.1.left gone
    | inr other ↦ inl (kept (ap (page_at y) one.1.stayed ∙ other_found c.pages one.0 one.1.page y one.1.at other))
  ]
]
  where
    went : (p : CachedPage) → page_at y c.pages ≡ Some p → leaving s x c.pages ≡ p ∷ [] → p.ticket.page ≡ y → (is_changed y c ≡ false) ⊎ ((p : CachedPage) × (leaving s x c.pages ≡ p ∷ []) × (p.ticket.page ≡ y) × (p.changes ≢ None))
    went p here left page = by p.changes refl
      where
        by : (o : Option Changes) → p.changes ≡ o → (is_changed y c ≡ false) ⊎ ((p : CachedPage) × (leaving s x c.pages ≡ p ∷ []) × (p.ticket.page ≡ y) × (p.changes ≢ None))
        by None clean = inl (ap has_more here ∙ rw clean refl)
        by (Some ch) dirty = inr (p, left, page, λ none. let never : Some ch ≡ None = sym dirty ∙ none in cc)

-- where x came in,
pub changed_after : (s : Shape) (x y : PageNo) (e : Option MapEntry) (c d : CacheState) (pool new : List (Option (List ℕ))) → IsCache c.node c.pages → Arrived s x e (staying s x c.pages) pool d new → is_changed y d ≡ false
    → (is_changed y c ≡ false) ⊎ ((p : CachedPage) × (leaving s x c.pages ≡ p ∷ []) × (p.ticket.page ≡ y) × (p.changes ≢ None))
changed_after s x y e c d pool new is came not = left_or_kept s x y c is (still (page_at y c.pages) refl)
  where
    still : (o : Option CachedPage) → page_at y c.pages ≡ o → page_at y (staying s x c.pages) ≡ page_at y c.pages → is_changed y c ≡ false
    still None here same = ap has_more here
    still (Some q) here same =
        let found : page_at y d.pages ≡ Some q = ap (page_at y) came.last ∙ find-append (is_page y) (staying s x c.pages) _ ∙ ap (λ o. option_or o (find (is_page y) (record { ticket = record { page = x; node = d.node }; frame = came.frame; entry = e; changes = None } ∷ []))) (same ∙ here) in
        ap has_more here ∙ sym (ap has_more found) ∙ not

-- and where it didn't
pub changed_missed : (s : Shape) (x y : PageNo) (c d : CacheState) → IsCache c.node c.pages → d.pages ≡ staying s x c.pages → is_changed y d ≡ false
    → (is_changed y c ≡ false) ⊎ ((p : CachedPage) × (leaving s x c.pages ≡ p ∷ []) × (p.ticket.page ≡ y) × (p.changes ≢ None))
changed_missed s x y c d is pages not = left_or_kept s x y c is (λ same. ap has_more (sym same ∙ ap (page_at y) (sym pages)) ∙ not)

-- a page that isn't cached isn't among those that stay
pub not_staying : (s : Shape) (x : PageNo) (c : CacheState) → is_cached x c ≡ false → is_some (page_at x (staying s x c.pages)) ≡ false
not_staying s x c missing = not_found x (staying s x c.pages) (all_stay (λ q. q.ticket.page ≢ x) s x c.pages (none_is x c.pages missing))

-- a page that isn't cached has no changes
pub uncached : (x : PageNo) (c : CacheState) → is_cached x c ≡ false → is_changed x c ≡ false
uncached x c missing = by (page_at x c.pages) missing
  where
    by : (o : Option CachedPage) → is_some o ≡ false → has_more o ≡ false
    by None none = refl
    by (Some q) none = cc

-- ---- the map page of the page that came

-- a page that may go isn't the map page
pub goes_apart : (s : Shape) (x : PageNo) (p : CachedPage) → s.maps ≤ x.0 → may_go s x p ≡ true → p.ticket.page ≢ map_of_data s x
goes_apart s x p far goes same =
    let here : p.ticket.page.0 ≡ (map_of_page s x).0 = ap (λ (y : PageNo). y.0) (same ∙ sym (map_of_page-data s x far)) in
    let is : is_map_of s p.ticket.page x ≡ true = grind (arith, nat_tests, far, here) in
    let never : false ≡ true = sym (rw is refl) ∙ goes in cc

-- it is found among the pages that stay, where it was found before
pub map_stays : (s : Shape) (x : PageNo) (pages : List CachedPage) → s.maps ≤ x.0 → page_at (map_of_data s x) (staying s x pages) ≡ page_at (map_of_data s x) pages
map_stays s x pages far = elim (cases_lt (length pages) 16) [
  | inl room ↦ ap (page_at (map_of_data s x)) (none_leaves s x pages room).1
  | inr full ↦ by full (position (may_go s x) pages) refl
]
  where
    by : 16 ≤ length pages → (o : Option ℕ) → position (may_go s x) pages ≡ o → page_at (map_of_data s x) (staying s x pages) ≡ page_at (map_of_data s x) pages
    by full None none = let many : nat_lt (length pages) 16 ≡ false = grind (arith, nat_tests) in rw (many, none) refl
    by full (Some i) place =
        let l = one_leaves s x pages i full place in
        let goes : may_go s x l.page ≡ true = found (may_go s x) pages l.page ((placed (may_go s x) pages i place).1 ∙ l.at) in
        ap (page_at (map_of_data s x)) l.stayed ∙ other_found pages i l.page (map_of_data s x) l.at (goes_apart s x l.page far goes)

-- ---- which pages are written to make room

-- what a fetch of x leaves of a cache and of the pages' blocks
pub record CacheRoom (s : Shape) (x : PageNo) (c d : CacheState) (a b : ℕ → BlockState) : Type 0 where
  pub came : (y : PageNo) → IsTrue (is_cached y d) → (y ≡ x) ⊎ IsTrue (is_cached y c)
  pub full : length c.pages ≡ 16 → length d.pages ≡ 16
  pub room : (y : PageNo) → y.0 < page_count s → ((b (page_place s y)).current ≡ (a (page_place s y)).current) ⊎ (IsTrue (is_cached y c) × (length d.pages ≡ 16) × (s.maps ≤ x.0 → y ≢ map_of_data s x))

pub room_hit : (s : Shape) (x : PageNo) (c : CacheState) (a : ℕ → BlockState) → CacheRoom s x c c a a
room_hit s x c a = record { came = λ y has. inr has; full = λ full. full; room = λ y low. inl refl }

module _ (s : Shape) (x : PageNo) (e : Option MapEntry) (c d : CacheState) (pool new : List (Option (List ℕ))) (a b : ℕ → BlockState) (few : length d.pages ≤ 16) (store : IsOfStore s c) (tie : IsTiedToLog c)
    (miss : is_cached x c ≡ false) (came : Arrived s x e (staying s x c.pages) pool d new) (keeps : KeepsContentsButPages s c.log (leaving s x c.pages) a b) where
  same_page : (y z : PageNo) → y.0 ≡ z.0 → y ≡ z
  same_page y z is = ap (λ n. record { 0 = n }) is

  abbrev last : CachedPage
  last = record { ticket = record { page = x; node = d.node }; frame = came.frame; entry = e; changes = None }

  counted : length d.pages ≡ length (staying s x c.pages) + 1
  counted = ap length came.last ∙ length-append (staying s x c.pages) (last ∷ [])

  -- a page that is cached was so before, or is the one that came
  comes : (y : PageNo) → IsTrue (is_cached y d) → (y ≡ x) ⊎ IsTrue (is_cached y c)
  comes y has = by (cases_eq y.0 x.0) (is_cached y c) refl
    where
      by : (y.0 ≡ x.0) ⊎ (y.0 ≡ x.0 → ⊥) → (o : Bool) → is_cached y c ≡ o → (y ≡ x) ⊎ IsTrue (is_cached y c)
      by (inl same) o is = inl (same_page y x same)
      by (inr other) true is = inr is
      by (inr other) false is =
          let apart : All (λ q. q.ticket.page ≢ y) (staying s x c.pages) = all_stay (λ q. q.ticket.page ≢ y) s x c.pages (none_is y c.pages is) in
          let all = All-append (λ q. q.ticket.page ≢ y) (staying s x c.pages) (last ∷ []) apart (All-cons (λ q. q.ticket.page ≢ y) last [] (λ is. other (ap (λ (p : PageNo). p.0) (sym is))) (All-nil (λ q. q.ticket.page ≢ y))) in
          let never : is_some (page_at y d.pages) ≡ false = ap (λ ps. is_some (page_at y ps)) came.last ∙ not_found y (staying s x c.pages ++ last ∷ []) all in
          let contra : true ≡ false = sym has ∙ never in cc

  -- a full cache stays full
  stays_full : length c.pages ≡ 16 → length d.pages ≡ 16
  stays_full full = elim (who_leaves s x c.pages) [
    | inl none ↦ absurd (omega (arith, few, counted, ap length none.1, full))
    | inr one ↦
        let low = slice_get_within c.pages one.0 one.1.page one.1.at in
        omega (arith, counted, ap length one.1.stayed, length-remove c.pages one.0 low, full)
  ]

  abbrev Room : PageNo → Type 0
  Room y = ((b (page_place s y)).current ≡ (a (page_place s y)).current) ⊎ (IsTrue (is_cached y c) × (length d.pages ≡ 16) × (s.maps ≤ x.0 → y ≢ map_of_data s x))

  keeps_page : (y : PageNo) → All (λ q. q.ticket.page ≢ y) (leaving s x c.pages) → Room y
  keeps_page y others = inl (same_content s c (leaving s x c.pages) y a b store tie others keeps)

  -- the page that left
  left_page : (y : PageNo) (i : ℕ) (l : Leaves s x c.pages i) → 16 ≤ length c.pages → position (may_go s x) c.pages ≡ Some i → (y.0 ≡ l.page.ticket.page.0) ⊎ (y.0 ≡ l.page.ticket.page.0 → ⊥) → Room y
  left_page y i l full place (inr other) = keeps_page y (subst (All (λ q. q.ticket.page ≢ y)) (sym l.left) (All-cons (λ q. q.ticket.page ≢ y) l.page [] (λ is. other (ap (λ (p : PageNo). p.0) (sym is))) (All-nil (λ q. q.ticket.page ≢ y))))
  left_page y i l full place (inl same) =
      let at : y ≡ l.page.ticket.page = same_page y l.page.ticket.page same in
      let low = slice_get_within c.pages i l.page l.at in
      let goes : may_go s x l.page ≡ true = found (may_go s x) c.pages l.page ((placed (may_go s x) c.pages i place).1 ∙ l.at) in
      inr (cached (is_cached y c) refl at, omega (arith, few, counted, ap length l.stayed, length-remove c.pages i low, full), λ far is. goes_apart s x l.page far goes (sym at ∙ is))
    where
      cached : (o : Bool) → is_cached y c ≡ o → y ≡ l.page.ticket.page → IsTrue (is_cached y c)
      cached true is at = is
      cached false is at = absurd (all_at (λ q. q.ticket.page ≢ y) c.pages i l.page (none_is y c.pages is) l.at (sym at))

  makes_room : (y : PageNo) → y.0 < page_count s → Room y
  makes_room y low = elim (cases_lt (length c.pages) 16) [
    | inl free ↦ keeps_page y (subst (All (λ q. q.ticket.page ≢ y)) (sym (none_leaves s x c.pages free).0) (All-nil (λ q. q.ticket.page ≢ y)))
    | inr full ↦ by full (position (may_go s x) c.pages) refl
  ]
    where
      by : 16 ≤ length c.pages → (o : Option ℕ) → position (may_go s x) c.pages ≡ o → Room y
      by full None none =
          let not_free : nat_lt (length c.pages) 16 ≡ false = grind (arith, nat_tests) in
          let nobody : leaving s x c.pages ≡ [] = rw (not_free, not_placed (may_go s x) c.pages none) refl in
          keeps_page y (subst (All (λ q. q.ticket.page ≢ y)) (sym nobody) (All-nil (λ q. q.ticket.page ≢ y)))
      by full (Some i) place = let l = one_leaves s x c.pages i full place in left_page y i l full place (cases_eq y.0 l.page.ticket.page.0)

  pub room_arrived : CacheRoom s x c d a b
  room_arrived = record { came = comes; full = stays_full; room = makes_room }
