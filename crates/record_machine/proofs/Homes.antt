-- Where the groups of keys have their pages.
use Rattle.std.specs.Prelude.{◌≡◌, ◌≢◌, ◌≤◌, ◌<◌, ℕ, Bool, true, false, cond, nat_lt, List, Option, Some, None, length, option_map, slice_index_or, slice_set, refl}
use Rattle.std.specs.List.{position, position_or_len}
use Rattle.std.proofs.Common.{arith, ap, subst, sym, ◌∙◌}
use Rattle.std.proofs.lemmas.Bool.{eqb-true}
use Rattle.std.proofs.lemmas.List.{get_or-set_same, get_or-set_other, length-set}
use Rattle.std.proofs.lemmas.Bool.Decides.{nat_tests}
use Rattle.std.proofs.lemmas.List.Folds.{position_or_len-set}
use Rattle.std.proofs.lemmas.List.Quantifiers.{position-Some}
use Rattle.std.proofs.lemmas.List.Sums.{fails_before_first, position_or_len_is}
use Rattle.sd_base.specs.declared.names.GroupNo.{GroupNo}
use Rattle.sd_base.specs.Shape.{page_count, pages_per_map}
use Rattle.sd_base.specs.Places.{group_of, map_of_data, map_of_key, page_of_place}
use Rattle.sd_base.proofs.PlaceLaws.{data_of_place, map_of_its_place, map_of_key-below, one_place_of_page}
use Rattle.space_map.specs.declared.map_entry.MapEntry.{MapEntry}
use Rattle.space_map.specs.declared.map_entry.MapEntry.TheVariants.{Free, Used}
use Rattle.space_map.specs.Entry.{is_used_by}
use Rattle.record_machine.specs.Machine.{Machine, home}
use Rattle.record_machine.specs.Meaning.{ArePages, Plain}

-- the place of a group's page
pub record HasPlace (m : Machine) (key x : ℕ) : Type 0 where
  pub place : ℕ
  pub here : position (is_used_by (group_of key)) (m.entries (map_of_key m.shape key)) ≡ Some place
  pub page : x ≡ page_of_place m.shape (map_of_key m.shape key) place
  pub within : place < pages_per_map
  pub map : map_of_key m.shape key < m.shape.maps
  pub used : is_used_by (group_of key) (slice_index_or (m.entries (map_of_key m.shape key)) place (Free 0)) ≡ true

pub place_of : (p : Plain) (m : Machine) (key x : ℕ) → ArePages p m → home m key ≡ Some x → HasPlace m key x
place_of p m key x pages is = by (position (is_used_by (group_of key)) (m.entries (map_of_key m.shape key))) refl is
  where
    map : map_of_key m.shape key < m.shape.maps
    map = map_of_key-below m.shape key pages.shape

    by : (o : Option ℕ) → position (is_used_by (group_of key)) (m.entries (map_of_key m.shape key)) ≡ o → option_map (page_of_place m.shape (map_of_key m.shape key)) o ≡ Some x → HasPlace m key x
    by None none is = cc
    by (Some place) some is =
        let at = position-Some (is_used_by (group_of key)) (m.entries (map_of_key m.shape key)) place (Free 0) some in
        let low = at.0 in
        let count = pages.count (map_of_key m.shape key) map in
        record { place = place; here = some; page = (let same : page_of_place m.shape (map_of_key m.shape key) place ≡ x = cc in sym same); within = omega (arith, low, count); map = map; used = at.1 }

-- a page is of one group
used_once : (e : MapEntry) (g h : GroupNo) → is_used_by g e ≡ true → is_used_by h e ≡ true → g.0 ≡ h.0
used_once (Free ident) g h one two = cc
used_once (Used group ident) g h one two = sym (eqb-true group.0 g.0 one) ∙ eqb-true group.0 h.0 two

pub one_group : (p : Plain) (m : Machine) (key other x : ℕ) → ArePages p m → home m key ≡ Some x → home m other ≡ Some x → (group_of key).0 ≡ (group_of other).0
one_group p m key other x pages is too =
    let a = place_of p m key x pages is in
    let b = place_of p m other x pages too in
    let same = one_place_of_page m.shape (map_of_key m.shape key) (map_of_key m.shape other) a.place b.place a.within b.within (sym a.page ∙ b.page) in
    used_once (slice_index_or (m.entries (map_of_key m.shape key)) a.place (Free 0)) (group_of key) (group_of other) a.used
    (subst (λ x. is_used_by (group_of other) (slice_index_or (m.entries x) a.place (Free 0)) ≡ true) (sym same.0) (subst (λ i. is_used_by (group_of other) (slice_index_or (m.entries (map_of_key m.shape other)) i (Free 0)) ≡ true) (sym same.1) b.used))

-- and a data page
pub home_is_data : (p : Plain) (m : Machine) (key x : ℕ) → ArePages p m → home m key ≡ Some x → (m.shape.maps ≤ x) × (x < page_count m.shape)
home_is_data p m key x pages is =
    let a = place_of p m key x pages is in
    subst (λ y. (m.shape.maps ≤ y) × (y < page_count m.shape)) (sym a.page) (data_of_place m.shape (map_of_key m.shape key) a.place a.map a.within)

-- whose map page is that of the key
pub map_of_home : (p : Plain) (m : Machine) (key x : ℕ) → ArePages p m → home m key ≡ Some x → (map_of_data m.shape (record { 0 = x })).0 ≡ map_of_key m.shape key
map_of_home p m key x pages is =
    let a = place_of p m key x pages is in
    ap (λ q. q.0) (map_of_its_place m.shape (record { 0 = x }) (record { 0 = map_of_key m.shape key }) a.place a.within a.page)

-- a page that no group uses isn't any group's
pub free_is_no_home : (p : Plain) (m : Machine) (key x map place ident : ℕ) → ArePages p m → home m key ≡ Some x → place < pages_per_map → slice_index_or (m.entries map) place (Free 0) ≡ Free ident → page_of_place m.shape map place ≢ x
free_is_no_home p m key x map place ident pages is low free same =
    let a = place_of p m key x pages is in
    let one = one_place_of_page m.shape map (map_of_key m.shape key) place a.place low a.within (same ∙ a.page) in
    let here : slice_index_or (m.entries (map_of_key m.shape key)) a.place (Free 0) ≡ Free ident = ap (λ i. slice_index_or (m.entries (map_of_key m.shape key)) i (Free 0)) (sym one.1) ∙ ap (λ x. slice_index_or (m.entries x) place (Free 0)) (sym one.0) ∙ free in
    let never : false ≡ true = ap (is_used_by (group_of key)) (sym here) ∙ a.used in
    cc

-- ---- a group gets a page

is_below : (a b : ℕ) → a < b → nat_lt a b ≡ true
is_below a b lt = grind (arith, nat_tests)

-- the first one that passes
position_is : {X : Type 0} (test : X → Bool) (xs : List X) (i : ℕ) (d : X) → i < length xs → ((k : ℕ) → k < i → test (slice_index_or xs k d) ≡ false) → test (slice_index_or xs i d) ≡ true → position test xs ≡ Some i
position_is test xs i d low before is =
    let at : position_or_len test xs ≡ i = position_or_len_is test xs i d (omega (arith, low)) before (λ _. is) in
    ap (λ n. cond (nat_lt n (length xs)) (Some n) None) at ∙ ap (λ b. cond b (Some i) None) (is_below i (length xs) low)

-- where there is none, each one fails
pub none_passes : {X : Type 0} (test : X → Bool) (xs : List X) (k : ℕ) (d : X) → position test xs ≡ None → k < length xs → test (slice_index_or xs k d) ≡ false
none_passes test xs k d none low = by (nat_lt (position_or_len test xs) (length xs)) refl none
  where
    by : (b : Bool) → nat_lt (position_or_len test xs) (length xs) ≡ b → cond b (Some (position_or_len test xs)) None ≡ None → test (slice_index_or xs k d) ≡ false
    by true is none = cc
    by false is none = fails_before_first test xs k d (let far : length xs ≤ position_or_len test xs = grind (arith, nat_tests) in omega (arith, far, low))

-- there one that is set and passes is the first
pub position_set : {X : Type 0} (test : X → Bool) (xs : List X) (i : ℕ) (y d : X) → position test xs ≡ None → test y ≡ true → i < length xs → position test (slice_set xs i y) ≡ Some i
position_set test xs i y d none is low =
    position_is test (slice_set xs i y) i d (omega (arith, low, length-set xs i y))
    (λ k before. ap test (get_or-set_other xs i k y d (λ e. omega (arith, e, before))) ∙ none_passes test xs k d none (omega (arith, before, low)))
    (ap test (get_or-set_same xs i y d low) ∙ is)

-- and one that passes as the one before did changes nothing
pub position_kept : {X : Type 0} (test : X → Bool) (xs : List X) (i : ℕ) (y d : X) → test y ≡ test (slice_index_or xs i d) → position test (slice_set xs i y) ≡ position test xs
position_kept test xs i y d same = ap (λ n. cond (nat_lt n (length (slice_set xs i y))) (Some n) None) (position_or_len-set test xs i y d same) ∙ ap (λ n. cond (nat_lt (position_or_len test xs) n) (Some (position_or_len test xs)) None) (length-set xs i y)
