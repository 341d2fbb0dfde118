-- Which page makes room for another one, and which pages stay.
use Rattle.std.specs.Prelude.{◌≡◌, ◌≢◌, ◌⊎◌, ◌≤◌, ◌<◌, ◌+◌, ◌==◌, ◌&&◌, ℕ, Bool, true, false, not, nat_lt, List, [], ◌∷◌, Option, Some, None, option_map, length, All, AllPairs, refl}
use Rattle.std.specs.List.{find, position, remove, slice_get}
use Rattle.std.proofs.Common.{arith, inl, inr, ap, sym, subst, ◌∙◌}
use Rattle.std.proofs.lemmas.Bool.{cases_lt}
use Rattle.std.proofs.lemmas.List.Elements.{All-nil, All-cons}
use Rattle.std.proofs.lemmas.Option.{slice_get-get_or}
use Rattle.std.proofs.lemmas.Bool.Decides.{nat_tests}
use Rattle.sd_base.specs.Places.{map_of_page}
use Rattle.sd_base.specs.declared.names.PageNo.{PageNo}
use Rattle.sd_base.specs.declared.shape.Shape.{Shape}
use Rattle.node_cache.specs.Cache.{CachedPage, written_back}
use Rattle.node_cache.specs.Places.{IsWrittenWithin, between}
use Rattle.node_cache.specs.Room.{is_map_of, leaving, may_go, staying}
use Rattle.sd_base.proofs.Positions.{not_placed, placed}
use Rattle.node_cache.proofs.Finding.{all_at, got}
use Rattle.node_cache.proofs.Packing.{first_passes, first_fails}
use Rattle.node_cache.proofs.PageWrites.{there_is}
use Rattle.node_cache.proofs.Ranges.{one_between, one_within}
use Rattle.node_cache.proofs.Without.{all_without, set_gone}

-- two numbers that pass one test are the same
both_are : (some : Bool) (m n k : ℕ) → (some && m == k) ≡ true → (some && n == k) ≡ true → m ≡ n
both_are some m n k first second = grind (arith, nat_tests)

-- a page has one map page at the most
one_map : (s : Shape) (x m n : PageNo) → is_map_of s m x ≡ true → is_map_of s n x ≡ true → m ≡ n
one_map s x m n first second = ap (λ k. record { 0 = k }) (both_are _ m.0 n.0 (map_of_page s x).0 first second)

-- where the first page is the map page of x, the second one may go
pub second_goes : (s : Shape) (x : PageNo) (pages : List CachedPage) (p : CachedPage) → 2 ≤ length pages → AllPairs (λ p q. p.ticket.page ≢ q.ticket.page) pages
    → slice_get pages 0 ≡ Some p → is_map_of s p.ticket.page x ≡ true → position (may_go s x) pages ≡ Some 1
second_goes s x [] p many once first is = absurd (omega (arith, many))
second_goes s x (q ∷ []) p many once first is = absurd (omega (arith, many))
second_goes s x (q ∷ (r ∷ rest)) p many once first is =
    let same : q ≡ p = cc in
    let map_page : is_map_of s q.ticket.page x ≡ true = subst (λ o. is_map_of s o.ticket.page x ≡ true) (sym same) is in
    let here : may_go s x q ≡ false = ap not map_page in
    let other : may_go s x r ≡ true = by (is_map_of s r.ticket.page x) refl map_page in
    first_fails (may_go s x) q (r ∷ rest) here ∙ ap (option_map (λ i. i + 1)) (first_passes (may_go s x) r rest other)
  where
    by : (b : Bool) → is_map_of s r.ticket.page x ≡ b → is_map_of s q.ticket.page x ≡ true → not (is_map_of s r.ticket.page x) ≡ true
    by true e map_page = absurd (once 0 1 q (omega arith) (omega arith) (one_map s x q.ticket.page r.ticket.page map_page e))
    by false e map_page = ap not e

-- where there is room, no page leaves
pub none_leaves : (s : Shape) (x : PageNo) (pages : List CachedPage) → length pages < 16 → (leaving s x pages ≡ []) × (staying s x pages ≡ pages)
none_leaves s x pages room = let free : nat_lt (length pages) 16 ≡ true = grind (arith, nat_tests) in (rw free refl, rw free refl)

-- A page that leaves from its place, and the others.
pub record Leaves (s : Shape) (x : PageNo) (pages : List CachedPage) (place : ℕ) : Type 0 where
  pub page : CachedPage
  pub at : slice_get pages place ≡ Some page
  pub left : leaving s x pages ≡ page ∷ []
  pub stayed : staying s x pages ≡ remove pages place

-- in a full cache the first page that may go does
pub one_leaves : (s : Shape) (x : PageNo) (pages : List CachedPage) (i : ℕ) → 16 ≤ length pages → position (may_go s x) pages ≡ Some i → Leaves s x pages i
one_leaves s x pages i full place =
    let none : nat_lt (length pages) 16 ≡ false = grind (arith, nat_tests) in
    let is = placed (may_go s x) pages i place in
    let p = there_is pages i is.0 in
    let goes : find (may_go s x) pages ≡ Some p.0 = is.1 ∙ p.1 in
    record { page = p.0; at = p.1; left = rw (none, goes) refl; stayed = rw (none, place) refl }

-- it is the range of one page
pub range_leaves : (s : Shape) (x : PageNo) (pages : List CachedPage) (i : ℕ) → Leaves s x pages i → between i (i + 1) pages ≡ leaving s x pages
range_leaves s x pages i l = one_between i pages l.page l.at ∙ sym l.left

-- where it was written, the others are there when it has gone
pub written_gone : (s : Shape) (x : PageNo) (old new : List CachedPage) (i : ℕ) → Leaves s x old i → IsWrittenWithin i (i + 1) old new → remove new i ≡ staying s x old
written_gone s x old new i l is = ap (λ ps. remove ps i) (one_within i old new l.page l.at is) ∙ set_gone old i (written_back l.page) ∙ sym l.stayed

-- that page has no changes then
pub written_at : (s : Shape) (x : PageNo) (old new : List CachedPage) (i : ℕ) → (l : Leaves s x old i) → IsWrittenWithin i (i + 1) old new → slice_get new i ≡ Some (written_back l.page)
written_at s x old new i l is =
    let here = got old i l.page l.at in
    slice_get-get_or new i l.page (omega (arith, here.0, is.count)) ∙ ap Some (is.inside i l.page (omega arith) (omega arith) here.0 ∙ ap written_back here.1)

-- either no page leaves, or one does
pub who_leaves : (s : Shape) (x : PageNo) (pages : List CachedPage) → ((leaving s x pages ≡ []) × (staying s x pages ≡ pages)) ⊎ ((i : ℕ) × Leaves s x pages i)
who_leaves s x pages = elim (cases_lt (length pages) 16) [
  | inl room ↦ inl (none_leaves s x pages room)
  | inr full ↦ by full (position (may_go s x) pages) refl
]
  where
    by : 16 ≤ length pages → (o : Option ℕ) → position (may_go s x) pages ≡ o → ((leaving s x pages ≡ []) × (staying s x pages ≡ pages)) ⊎ ((i : ℕ) × Leaves s x pages i)
    by full None none =
        let not_free : nat_lt (length pages) 16 ≡ false = grind (arith, nat_tests) in
        inl (rw (not_free, not_placed (may_go s x) pages none) refl, rw (not_free, none) refl)
    by full (Some i) place = inr (i, one_leaves s x pages i full place)

-- what holds of each page holds of the one that leaves, and of those that stay
pub all_left : (P : CachedPage → Type 0) (s : Shape) (x : PageNo) (pages : List CachedPage) → All P pages → All P (leaving s x pages)
all_left P s x pages all = elim (who_leaves s x pages) [
  | inl none ↦ subst (All P) (sym none.0) (All-nil P)
  | inr one ↦ subst (All P) (sym one.1.left) (All-cons P one.1.page [] (all_at P pages one.0 one.1.page all one.1.at) (All-nil P))
]

pub all_stay : (P : CachedPage → Type 0) (s : Shape) (x : PageNo) (pages : List CachedPage) → All P pages → All P (staying s x pages)
all_stay P s x pages all = elim (who_leaves s x pages) [
  | inl none ↦ subst (All P) (sym none.1) all
  | inr one ↦ subst (All P) (sym one.1.stayed) (all_without P pages one.0 (got pages one.0 one.1.page one.1.at).0 all)
]
