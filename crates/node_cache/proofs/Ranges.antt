-- Some pages of a list, one after the other.
use Rattle.std.specs.Prelude.{◌≡◌, ◌≢◌, ◌⊎◌, ◌≤◌, ◌<◌, ◌+◌, ◌-◌, ℕ, zero, suc, List, [], ◌∷◌, Option, Some, None, All, Any, length, take, drop, slice_set, slice_index_or, map, Bool, true, false, is_some, if◌then◌else◌, refl}
use Rattle.std.specs.List.{slice_get, count_by}
use Rattle.std.proofs.Common.{arith, inl, inr, ap, subst, sym, ◌∙◌}
use Rattle.std.proofs.lemmas.Bool.{cases_lt, cases_eq}
use Rattle.std.proofs.lemmas.List.{places, same_lists, length-drop, get_or-drop, length-set, length-map, get_or-set_other, get_or_default}
use Rattle.std.proofs.lemmas.List.Sums.{count_by_more_yes, count_by_more_no, count_by-le-length, sum_by-cons}
use Rattle.std.proofs.lemmas.Grind.{get_or-set_at}
use Rattle.std.proofs.lemmas.Option.{slice_get-get_or}
use Rattle.node_cache.specs.Cache.{CachedPage, Changes, SamePages, first_change, has_changes, written_back}
use Rattle.node_cache.specs.Places.{between, IsWrittenWithin}
use Rattle.node_cache.proofs.Finding.{got}
use Rattle.node_cache.proofs.SamePages.{at_map}

-- where the pages of a range stand
pub length_between : (from to : ℕ) (pages : List CachedPage) → to ≤ length pages → length (between from to pages) ≡ to - from
length_between from to pages high = grind (arith, places)

pub at_between : (from to j : ℕ) (pages : List CachedPage) (d : CachedPage) → to ≤ length pages → j < to - from → slice_index_or (between from to pages) j d ≡ slice_index_or pages (from + j) d
at_between from to j pages d high below = grind (arith, places)

pub all_between : (P : CachedPage → Type 0) (from to i : ℕ) (pages : List CachedPage) (d : CachedPage) → to ≤ length pages → from ≤ i → i < to → All P (between from to pages) → P (slice_index_or pages i d)
all_between P from to i pages d high low below all =
    let place : from + (i - from) ≡ i = omega (arith, low) in
    subst P (at_between from to (i - from) pages d high (omega (arith, low, below)) ∙ ap (λ k. slice_index_or pages k d) place) (all (i - from) d (omega (arith, low, below, length_between from to pages high)))

pub any_between : (P : CachedPage → Type 0) (from to i : ℕ) (pages : List CachedPage) (d : CachedPage) → to ≤ length pages → from ≤ i → i < to → P (slice_index_or pages i d) → Any P (between from to pages)
any_between P from to i pages d high low below h =
    let p : CachedPage = slice_index_or pages i d in
    let place : from + (i - from) ≡ i = omega (arith, low) in
    let is : slice_index_or (between from to pages) (i - from) p ≡ p =
    at_between from to (i - from) pages p high (omega (arith, low, below)) ∙ ap (λ k. slice_index_or pages k p) place ∙ get_or_default pages i p d (omega (arith, below, high)) in
    (i - from, p, omega (arith, low, below, length_between from to pages high), is, h)

-- what holds of each page of a range holds of it as a list
pub all_of_between : (P : CachedPage → Type 0) (from to : ℕ) (pages : List CachedPage) → to ≤ length pages → ((i : ℕ) (d : CachedPage) → from ≤ i → i < to → P (slice_index_or pages i d)) → All P (between from to pages)
all_of_between P from to pages high each j d below =
    let small : j < to - from = omega (arith, below, length_between from to pages high) in
    subst P (sym (at_between from to j pages d high small)) (each (from + j) d (omega arith) (omega (arith, small)))

-- the same of a page that stands at a place
pub any_here : (P : CachedPage → Type 0) (from to i : ℕ) (pages : List CachedPage) (p : CachedPage) → to ≤ length pages → from ≤ i → i < to → slice_get pages i ≡ Some p → P p → Any P (between from to pages)
any_here P from to i pages p high low below at h = any_between P from to i pages p high low below (subst P (sym (got pages i p at).1) h)

pub all_here : (P : CachedPage → Type 0) (from to i : ℕ) (pages : List CachedPage) (p : CachedPage) → to ≤ length pages → from ≤ i → i < to → slice_get pages i ≡ Some p → All P (between from to pages) → P p
all_here P from to i pages p high low below at all = subst P (got pages i p at).1 (all_between P from to i pages p high low below all)

pub more_between : (P : CachedPage → Type 0) (from i : ℕ) (pages : List CachedPage) (p : CachedPage) → from ≤ i → slice_get pages i ≡ Some p → All P (between from i pages) → P p → All P (between from (i + 1) pages)
more_between P from i pages p low at all h =
    let there = got pages i p at in
    let within = there.0 in
    all_of_between P from (i + 1) pages (omega (arith, within)) (λ j d from' below. elim (cases_eq j i) [
      | inl here ↦ subst P (sym (ap (λ k. slice_index_or pages k d) here ∙ get_or_default pages i d p there.0 ∙ there.1)) h
      | inr other ↦ all_between P from i j pages d (omega (arith, within)) from' (omega (arith, below, other)) all
    ])

-- the range of no page, and one more page
pub none_within : (from : ℕ) (pages : List CachedPage) → IsWrittenWithin from from pages pages
none_within from pages = record { count = refl; inside = λ i d low high below. absurd (omega (arith, low, high)); outside = λ i d out. refl }

pub more_within : (from to : ℕ) (old new : List CachedPage) (p : CachedPage) → from ≤ to → slice_get old to ≡ Some p → IsWrittenWithin from to old new → IsWrittenWithin from (to + 1) old (slice_set new to (written_back p))
more_within from to old new p low at is =
    let there = got old to p at in
    record {
      count = length-set new to (written_back p) ∙ is.count;
      inside = λ i d from' to' below. elim (cases_eq i to) [
        | inl here ↦
            get_or-set_at new to i (written_back p) d here (omega (arith, there.0, is.count)) ∙ ap written_back (sym there.1 ∙ get_or_default old to p d there.0 ∙ ap (λ k. slice_index_or old k d) (sym here))
        | inr other ↦ get_or-set_other new to i (written_back p) d other ∙ is.inside i d from' (omega (arith, to', other)) below
      ];
      outside = λ i d out. get_or-set_other new to i (written_back p) d (apart i out) ∙ is.outside i d (wider i out);
    }
  where
    apart : (i : ℕ) → (i < from) ⊎ (to + 1 ≤ i) → i ≢ to
    apart i (inl before) e = omega (arith, before, e, low)
    apart i (inr behind) e = omega (arith, behind, e)

    wider : (i : ℕ) → (i < from) ⊎ (to + 1 ≤ i) → (i < from) ⊎ (to ≤ i)
    wider i (inl before) = inl before
    wider i (inr behind) = inr (omega (arith, behind))

-- the next page is as it was
pub next_within : (from to : ℕ) (old new : List CachedPage) (p : CachedPage) → slice_get old to ≡ Some p → IsWrittenWithin from to old new → slice_get new to ≡ Some p
next_within from to old new p at is =
    let there = got old to p at in
    slice_get-get_or new to p (omega (arith, there.0, is.count)) ∙ ap Some (is.outside to p (inr (omega arith)) ∙ there.1)

-- they are the same pages
pub same_within : (from to : ℕ) (old new : List CachedPage) → IsWrittenWithin from to old new → SamePages old new
same_within from to old new is = same_lists (map written_back new) (map written_back old) (length-map new written_back ∙ is.count ∙ sym (length-map old written_back)) (λ i d below.
    let small : i < length new = omega (arith, below, length-map new written_back) in
    at_map new i d small ∙ by i d (omega (arith, small, is.count)) (cases_lt i from) (cases_lt i to) ∙ sym (at_map old i d (omega (arith, small, is.count))))
  where
    by : (i : ℕ) (d : CachedPage) → i < length old → (i < from) ⊎ (from ≤ i) → (i < to) ⊎ (to ≤ i) → written_back (slice_index_or new i d) ≡ written_back (slice_index_or old i d)
    by i d small (inl before) high = ap written_back (is.outside i d (inl before))
    by i d small (inr low) (inl high) = ap written_back (is.inside i d low high small)
    by i d small (inr low) (inr behind) = ap written_back (is.outside i d (inr behind))

-- all of them written, and one alone
pub all_within : (old new : List CachedPage) → IsWrittenWithin 0 (length old) old new → new ≡ map written_back old
all_within old new is = same_lists new (map written_back old) (is.count ∙ sym (length-map old written_back)) (λ i d below.
    let small : i < length old = omega (arith, below, is.count) in
    is.inside i d (omega arith) small small ∙ sym (at_map old i d small))

pub one_within : (i : ℕ) (old new : List CachedPage) (p : CachedPage) → slice_get old i ≡ Some p → IsWrittenWithin i (i + 1) old new → new ≡ slice_set old i (written_back p)
one_within i old new p at is = same_lists new (slice_set old i (written_back p)) (is.count ∙ sym (length-set old i (written_back p))) (λ k d below.
    let there = got old i p at in
    elim (cases_eq k i) [
      | inl here ↦
          is.inside k d (omega (arith, here)) (omega (arith, here)) (omega (arith, below, is.count)) ∙ ap written_back (ap (λ j. slice_index_or old j d) here ∙ get_or_default old i d p there.0 ∙ there.1)
          ∙ sym (get_or-set_at old i k (written_back p) d here there.0)
      | inr other ↦ is.outside k d (aside k other) ∙ sym (get_or-set_other old i k (written_back p) d other)
    ])
  where
    aside : (k : ℕ) → k ≢ i → (k < i) ⊎ (i + 1 ≤ k)
    aside k other = elim (cases_lt k i) [ inl before ↦ inl before | inr behind ↦ inr (omega (arith, behind, other)) ]

-- how many pages of a range have changes, with one more page
grown : (from i : ℕ) (pages : List CachedPage) → from ≤ i → between from (i + 1) pages ≡ take ((i - from) + 1) (drop from pages)
grown from i pages low = ap (λ n. take n (drop from pages)) (omega (arith, low))

at_drop : (from i : ℕ) (pages : List CachedPage) (p : CachedPage) → from ≤ i → slice_get pages i ≡ Some p → slice_index_or (drop from pages) (i - from) p ≡ p
at_drop from i pages p low at =
    let there = got pages i p at in
    let place : from + (i - from) ≡ i = omega (arith, low) in
    get_or-drop from pages (i - from) p ∙ ap (λ k. slice_index_or pages k p) place ∙ there.1

in_drop : (from i : ℕ) (pages : List CachedPage) (p : CachedPage) → from ≤ i → slice_get pages i ≡ Some p → i - from < length (drop from pages)
in_drop from i pages p low at = let there = got pages i p at in let below = there.0 in omega (arith, below, low, length-drop from pages)

pub count_changed : (from i : ℕ) (pages : List CachedPage) (p : CachedPage) → from ≤ i → slice_get pages i ≡ Some p → has_changes p ≡ true
    → count_by has_changes (between from (i + 1) pages) ≡ count_by has_changes (between from i pages) + 1
count_changed from i pages p low at is = ap (count_by has_changes) (grown from i pages low) ∙ count_by_more_yes has_changes (drop from pages) (i - from) p (in_drop from i pages p low at) (ap has_changes (at_drop from i pages p low at) ∙ is)

pub count_unchanged : (from i : ℕ) (pages : List CachedPage) (p : CachedPage) → from ≤ i → slice_get pages i ≡ Some p → has_changes p ≡ false
    → count_by has_changes (between from (i + 1) pages) ≡ count_by has_changes (between from i pages)
count_unchanged from i pages p low at is = ap (count_by has_changes) (grown from i pages low) ∙ count_by_more_no has_changes (drop from pages) (i - from) p (in_drop from i pages p low at) (ap has_changes (at_drop from i pages p low at) ∙ is)

-- a page has changes where there is a first one
pub first_changed : (p : CachedPage) → is_some (first_change p) ≡ has_changes p
first_changed p = by p.changes
  where
    by : (c : Option Changes) → is_some (first_change (record { ticket = p.ticket; frame = p.frame; entry = p.entry; changes = c })) ≡ is_some c
    by None = refl
    by (Some c) = refl

-- a range in which some page has changes has a page
pub some_between : (from to : ℕ) (pages : List CachedPage) → to ≤ length pages → 0 < count_by has_changes (between from to pages) → from < to
some_between from to pages high some = omega (arith, some, count_by-le-length has_changes (between from to pages), length_between from to pages high)

no_change : (p : CachedPage) → has_changes p ≡ false → written_back p ≡ p
no_change p none = by p.changes refl
  where
    by : (c : Option Changes) → p.changes ≡ c → written_back p ≡ p
    by None e = λ i. record { ticket = p.ticket; frame = p.frame; entry = p.entry; changes = sym e i }
    by (Some c) e = let both : has_changes p ≡ true = ap is_some e in absurd cc

first : (P : CachedPage → Type 0) (p : CachedPage) (ps : List CachedPage) → P p → All P ps → All P (p ∷ ps)
first P p ps h all zero d below = h
first P p ps h all (suc i) d below = all i d (omega (arith, below))

count_first : (p : CachedPage) (ps : List CachedPage) → count_by has_changes (p ∷ ps) ≡ (if has_changes p then 1 else 0) + count_by has_changes ps
count_first p ps = sum_by-cons (λ q. if has_changes q then 1 else 0) p ps

pub unchanged : (pages : List CachedPage) → count_by has_changes pages ≡ 0 → All (λ p. has_changes p ≡ false) pages
unchanged [] none = λ i d below. absurd (omega (arith, below))
unchanged (p ∷ ps) none = by (has_changes p) refl none (unchanged ps)
  where
    by : (b : Bool) → has_changes p ≡ b → count_by has_changes (p ∷ ps) ≡ 0 → (count_by has_changes ps ≡ 0 → All (λ q. has_changes q ≡ false) ps) → All (λ q. has_changes q ≡ false) (p ∷ ps)
    by true is none rest = let one : 1 + count_by has_changes ps ≡ count_by has_changes (p ∷ ps) = ap (λ b. (if b then 1 else 0) + count_by has_changes ps) (sym is) ∙ sym (count_first p ps) in absurd (omega (arith, one, none))
    by false is none rest = let all : 0 + count_by has_changes ps ≡ 0 = ap (λ b. (if b then 1 else 0) + count_by has_changes ps) (sym is) ∙ sym (count_first p ps) ∙ none in first (λ q. has_changes q ≡ false) p ps is (rest (omega (arith, all)))

-- where no page of a range has changes, writing leaves it
pub none_changed_within : (from to : ℕ) (pages : List CachedPage) → to ≤ length pages → count_by has_changes (between from to pages) ≡ 0 → IsWrittenWithin from to pages pages
none_changed_within from to pages high none = record {
  count = refl;
  inside = λ i d low below' below. sym (no_change (slice_index_or pages i d) (all_between (λ p. has_changes p ≡ false) from to i pages d high low below' (unchanged (between from to pages) none)));
  outside = λ i d out. refl;
}

-- a range of one page
pub one_between : (i : ℕ) (pages : List CachedPage) (p : CachedPage) → slice_get pages i ≡ Some p → between i (i + 1) pages ≡ p ∷ []
one_between i pages p at =
    let there = got pages i p at in
    let within = there.0 in
    let count : length (between i (i + 1) pages) ≡ 1 = omega (arith, length_between i (i + 1) pages (omega (arith, within))) in
    same_lists (between i (i + 1) pages) (p ∷ []) count (λ k d below.
    let none : k ≡ 0 = omega (arith, below, count) in
    at_between i (i + 1) k pages d (omega (arith, within)) (omega (arith, none)) ∙ ap (λ j. slice_index_or pages j d) (omega (arith, none)) ∙ get_or_default pages i d p within ∙ there.1 ∙ sym (ap (λ j. slice_index_or (p ∷ []) j d) none))
