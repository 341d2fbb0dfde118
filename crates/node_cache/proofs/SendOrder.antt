-- The changed pages of a list are sent in rising order of their numbers: which one is next, and which were sent.
use Rattle.std.specs.Prelude.{◌≡◌, ◌≢◌, ◌⊎◌, ◌≤◌, ◌<◌, ◌+◌, ◌-◌, ◌&&◌, ◌++◌, ℕ, zero, suc, Bool, true, false, nat_lt, List, [], ◌∷◌, Option, Some, None, All, AllPairs, IfSome, length, is_some, slice_index_or, if◌then◌else◌, refl}
use Rattle.std.specs.List.{slice_get, find, count_by}
use Rattle.std.specs.Option.{option_or}
use Rattle.std.proofs.Common.{arith, inl, inr, ap, subst, sym, ◌∙◌}
use Rattle.std.proofs.lemmas.Bool.{cases_lt, cases_order, eq-eqb}
use Rattle.std.proofs.lemmas.Bool.Decides.{nat_tests}
use Rattle.std.proofs.lemmas.List.{get_or_default, length-append}
use Rattle.std.proofs.lemmas.List.Elements.{All-append, All-cons, All-nil}
use Rattle.std.proofs.lemmas.List.Folds.{find-append}
use Rattle.std.proofs.lemmas.List.Quantifiers.{all_pairs_push}
use Rattle.std.proofs.lemmas.List.Sums.{count_by-le-length, sum_by-cons}
use Rattle.std.proofs.lemmas.Option.{slice_get-get_or}
use Rattle.sd_base.specs.declared.names.PageNo.{PageNo}
use Rattle.state_ids.specs.Batch.{is_sent, sent_at}
use Rattle.state_ids.specs.declared.held.WrittenPage.{WrittenPage}
use Rattle.node_cache.specs.Cache.{CachedPage, Changes, has_changes}
use Rattle.node_cache.specs.Places.{between}
use Rattle.node_cache.specs.Sending.{IsNext, IsNextPlace, IsSent, Rises, Waits, sent_as}
use Rattle.node_cache.proofs.Finding.{got}
use Rattle.node_cache.proofs.PageWrites.{changed_or_not, there_is}
use Rattle.node_cache.proofs.Ranges.{at_between, length_between, more_between}

-- ---- which page is next

-- One more page of a range was looked at.
module _ (pages : List CachedPage) (least from i : ℕ) (p : CachedPage) (low : from ≤ i) (at : slice_get pages i ≡ Some p) where
  -- it comes first
  pub now_next : (next : Option ℕ) → IsNextPlace least from i pages next → Waits least p → IfSome next (λ j. (q : CachedPage) → slice_get pages j ≡ Some q → p.ticket.page.0 < q.ticket.page.0)
      → IsNextPlace least from (i + 1) pages (Some i)
  now_next None none waits before = (
    low,
    omega arith,
    λ q is.
        let same : p ≡ q = cc in
        subst (IsNext least (between from (i + 1) pages)) same (record {
          waits = waits;
          first = more_between (λ r. Waits least r → p.ticket.page.0 ≤ r.ticket.page.0) from i pages p low at (λ k d below w. absurd (none k d below w)) (λ w. omega arith);
        }),
  )
  now_next (Some j) (from', below, next) waits before = (
    low,
    omega arith,
    λ q is.
        let same : p ≡ q = cc in
        let inside = (got pages i p at).0 in
        let there = there_is pages j (omega (arith, below, inside)) in
        let less = before there.0 there.1 in
        let first = (next there.0 there.1).first in
        subst (IsNext least (between from (i + 1) pages)) same (record {
          waits = waits;
          first = more_between (λ r. Waits least r → p.ticket.page.0 ≤ r.ticket.page.0) from i pages p low at (λ k d under w. let more = first k d under w in omega (arith, more, less)) (λ w. omega arith);
        }),
  )

  -- or it doesn't
  pub still_next : (next : Option ℕ) → IsNextPlace least from i pages next → (Waits least p → (j : ℕ) × (next ≡ Some j) × ((q : CachedPage) → slice_get pages j ≡ Some q → q.ticket.page.0 ≤ p.ticket.page.0))
      → IsNextPlace least from (i + 1) pages next
  still_next None none behind = more_between (λ q. ¬ (Waits least q)) from i pages p low at none (λ w. let b = behind w in let never : None ≡ Some b.0 = b.1 in cc)
  still_next (Some j) (from', below, next) behind = (
    from',
    omega (arith, below),
    λ q is. record {
      waits = (next q is).waits;
      first = more_between (λ r. Waits least r → q.ticket.page.0 ≤ r.ticket.page.0) from i pages p low at (next q is).first
          (λ w. let b = behind w in let same : j ≡ b.0 = cc in b.2 q (subst (λ k. slice_get pages k ≡ Some q) same is));
    },
  )

-- ---- a range as a list

pub at_range : (from to i : ℕ) (pages : List CachedPage) (p : CachedPage) → to ≤ length pages → from ≤ i → i < to → slice_get pages i ≡ Some p → slice_get (between from to pages) (i - from) ≡ Some p
at_range from to i pages p high low below at =
    let place : from + (i - from) ≡ i = omega (arith, low) in
    slice_get-get_or (between from to pages) (i - from) p (omega (arith, low, below, length_between from to pages high))
    ∙ ap Some (at_between from to (i - from) pages p high (omega (arith, low, below)) ∙ ap (λ k. slice_index_or pages k p) place ∙ (got pages i p at).1)

pub pairs_range : (R : CachedPage → CachedPage → Type 0) (from to : ℕ) (pages : List CachedPage) → to ≤ length pages → AllPairs R pages → AllPairs R (between from to pages)
pairs_range R from to pages high pairs i j d lt below =
    let small : j < to - from = omega (arith, below, length_between from to pages high) in
    subst (λ p. R p (slice_index_or (between from to pages) j d)) (sym (at_between from to i pages d high (omega (arith, lt, small))))
    (subst (R (slice_index_or pages (from + i) d)) (sym (at_between from to j pages d high small)) (pairs (from + i) (from + j) d (omega (arith, lt)) (omega (arith, small, high))))

-- ---- what was sent

-- a page whose number is greater than all that were sent wasn't
pub not_sent : (least : ℕ) (x : PageNo) (sent : List WrittenPage) → least ≤ x.0 → All (λ w. w.page.0 < least) sent → sent_at x sent ≡ None
not_sent least x [] low all = refl
not_sent least x (w ∷ ws) low all =
    let less : w.page.0 < least = all 0 w (omega arith) in
    let other : is_sent x w ≡ false = grind (arith, nat_tests) in
    rw other (not_sent least x ws low (λ i d below. all (suc i) d (omega (arith, below))))

-- whether a page has changes and a number below this one
abbrev pub is_below : ℕ → CachedPage → Bool
is_below least p = has_changes p && nat_lt p.ticket.page.0 least

-- two tests that agree on a list
same_count : {X : Type 0} (f g : X → Bool) (xs : List X) → ((j : ℕ) (d : X) → j < length xs → g (slice_index_or xs j d) ≡ f (slice_index_or xs j d)) → count_by g xs ≡ count_by f xs
same_count f g [] all = refl
same_count f g (x ∷ xs) all =
    sum_by-cons (λ y. if g y then 1 else 0) x xs ∙ ap (λ b. (if b then 1 else 0) + count_by g xs) (all 0 x (omega arith)) ∙ ap (λ n. (if f x then 1 else 0) + n) (same_count f g xs (λ j d under. all (suc j) d (omega (arith, under))))
    ∙ sym (sum_by-cons (λ y. if f y then 1 else 0) x xs)

has_some : (c : Option Changes) → c ≢ None → is_some c ≡ true
has_some None some = absurd (some refl)
has_some (Some c) some = refl

-- one more element of a list passes
one_more : {X : Type 0} (f g : X → Bool) (xs : List X) (i : ℕ) → i < length xs → ((d : X) → (f (slice_index_or xs i d) ≡ false) × (g (slice_index_or xs i d) ≡ true)) → ((j : ℕ) (d : X) → j < length xs → j ≢ i → g (slice_index_or xs j d) ≡ f (slice_index_or xs j d))
    → count_by g xs ≡ count_by f xs + 1
one_more f g [] i below here others = absurd (omega (arith, below))
one_more f g (x ∷ xs) zero below here others =
    let rest = same_count f g xs (λ j d under. others (suc j) d (omega (arith, under)) (λ e. omega (arith, e))) in
    let no = (here x).0 in
    let yes = (here x).1 in
    let one : count_by f (x ∷ xs) ≡ (if false then 1 else 0) + count_by f xs = sum_by-cons (λ y. if f y then 1 else 0) x xs ∙ ap (λ b. (if b then 1 else 0) + count_by f xs) no in
    let two : count_by g (x ∷ xs) ≡ (if true then 1 else 0) + count_by g xs = sum_by-cons (λ y. if g y then 1 else 0) x xs ∙ ap (λ b. (if b then 1 else 0) + count_by g xs) yes in
    omega (arith, one, two, rest)
one_more f g (x ∷ xs) (suc i) below here others =
    let rest = one_more f g xs i (omega (arith, below)) here (λ j d under other. others (suc j) d (omega (arith, under)) (λ e. other (omega (arith, e)))) in
    let first : g x ≡ f x = others 0 x (omega arith) (λ e. omega (arith, e)) in
    let one : count_by f (x ∷ xs) ≡ (if f x then 1 else 0) + count_by f xs = sum_by-cons (λ y. if f y then 1 else 0) x xs in
    let two : count_by g (x ∷ xs) ≡ (if f x then 1 else 0) + count_by g xs = sum_by-cons (λ y. if g y then 1 else 0) x xs ∙ ap (λ b. (if b then 1 else 0) + count_by g xs) first in
    omega (arith, one, two, rest)

-- the number at a place
pub one_page : (xs : List CachedPage) (i j : ℕ) (d : CachedPage) → AllPairs (λ p q. p.ticket.page ≢ q.ticket.page) xs → i < length xs → j < length xs → (slice_index_or xs i d).ticket.page.0 ≡ (slice_index_or xs j d).ticket.page.0 → i ≡ j
one_page xs i j d once below below' same =
    let number : (slice_index_or xs i d).ticket.page ≡ (slice_index_or xs j d).ticket.page = ap (λ n. record { 0 = n }) same in
    elim (cases_order i j) [
      | inl here ↦ here
      | inr (inl before) ↦ absurd (once i j d before below' number)
      | inr (inr behind) ↦ absurd (once j i d behind below (sym number))
    ]

-- a page that has changes
pub changes_of : (o : Option Changes) → o ≢ None → (c : Changes) × (o ≡ Some c)
changes_of None some = absurd (some refl)
changes_of (Some c) some = (c, refl)

-- What was sent of these pages: those that have changes and a number below this one.
pub record AreSent (xs : List CachedPage) (least : ℕ) (sent : List WrittenPage) : Type 0 where
  pub low : All (λ w. w.page.0 < least) sent
  pub rising : AllPairs Rises sent
  pub count : length sent ≡ count_by (is_below least) xs
  pub each : All (λ p. p.ticket.page.0 < least → IsSent sent p) xs

-- at first nothing
pub none_sent : (xs : List CachedPage) → AreSent xs 0 []
none_sent xs = record {
  low = λ k d below. absurd (omega (arith, below));
  rising = λ i j d lt below. absurd (omega (arith, below));
  count = sym (none_below xs);
  each = λ k d below less. absurd (omega (arith, less));
}
  where
    none_below : (xs : List CachedPage) → count_by (is_below 0) xs ≡ 0
    none_below [] = refl
    none_below (p ∷ ps) =
        let no : nat_lt p.ticket.page.0 0 ≡ false = grind (arith, nat_tests) in
        let out : is_below 0 p ≡ false = grind (arith, nat_tests) in
        let one : count_by (is_below 0) (p ∷ ps) ≡ (if false then 1 else 0) + count_by (is_below 0) ps = sum_by-cons (λ q. if is_below 0 q then 1 else 0) p ps ∙ ap (λ b. (if b then 1 else 0) + count_by (is_below 0) ps) out in
        omega (arith, one, none_below ps)

-- The page at a place of a list is the next one.
module _ (xs : List CachedPage) (once : AllPairs (λ p q. p.ticket.page ≢ q.ticket.page) xs) (least i : ℕ) (p : CachedPage) (at : slice_get xs i ≡ Some p) (next : IsNext least xs p) where
  -- of the pages that have changes and a number up to its own it is the only one that doesn't come before it
  among : (j : ℕ) (d : CachedPage) → j < length xs → (slice_index_or xs j d).changes ≢ None → (slice_index_or xs j d).ticket.page.0 < p.ticket.page.0 + 1 → ((slice_index_or xs j d).ticket.page.0 < least) ⊎ (j ≡ i)
  among j d below some less = elim (cases_lt (slice_index_or xs j d).ticket.page.0 least) [
    | inl before ↦ inl before
    | inr low ↦
        let first = next.first j d below (some, low) in
        let there = got xs i p at in
        let here : slice_index_or xs i d ≡ p = get_or_default xs i d p there.0 ∙ there.1 in
        let number : (slice_index_or xs i d).ticket.page.0 ≡ p.ticket.page.0 = ap (λ q. q.ticket.page.0) here in
        inr (one_page xs j i d once below there.0 (omega (arith, first, less, number)))
  ]

  -- what holds of it, and of those before it, holds of all up to it
  pub up_to : (P Q : CachedPage → Type 0) → ((q : CachedPage) → q.ticket.page.0 < p.ticket.page.0 → P q → Q q) → Q p → All (λ q. q.changes ≢ None → q.ticket.page.0 < least → P q) xs
      → All (λ q. q.changes ≢ None → q.ticket.page.0 < p.ticket.page.0 + 1 → Q q) xs
  up_to P Q others this all j d below some less = elim (among j d below some less) [
    | inl before ↦ let from = next.waits.1 in others (slice_index_or xs j d) (omega (arith, before, from)) (all j d below some before)
    | inr here ↦
        let there = got xs i p at in
        subst Q (sym (ap (λ k. slice_index_or xs k d) here ∙ get_or_default xs i d p there.0 ∙ there.1)) this
  ]

  -- one more page has changes and a number up to its own
  pub counted_more : count_by (is_below (p.ticket.page.0 + 1)) xs ≡ count_by (is_below least) xs + 1
  counted_more =
      let there = got xs i p at in
      one_more (is_below least) (is_below (p.ticket.page.0 + 1)) xs i there.0 (λ d. subst (λ q. (is_below least q ≡ false) × (is_below (p.ticket.page.0 + 1) q ≡ true)) (sym (get_or_default xs i d p there.0 ∙ there.1)) here)
      (λ j d below other. alike (slice_index_or xs j d) (changed_or_not (slice_index_or xs j d).changes) (cases_lt (slice_index_or xs j d).ticket.page.0 least) (λ some less. either (among j d below some less) other))
    where
      here : (is_below least p ≡ false) × (is_below (p.ticket.page.0 + 1) p ≡ true)
      here =
          let from = next.waits.1 in
          let some : has_changes p ≡ true = has_some p.changes next.waits.0 in
          let no : nat_lt p.ticket.page.0 least ≡ false = grind (arith, nat_tests) in
          let yes : nat_lt p.ticket.page.0 (p.ticket.page.0 + 1) ≡ true = grind (arith, nat_tests) in
          (rw (some, no) refl, rw (some, yes) refl)

      either : {j : ℕ} {P : Type 0} → P ⊎ (j ≡ i) → j ≢ i → P
      either (inl p) other = p
      either (inr here) other = absurd (other here)

      alike : (q : CachedPage) → (q.changes ≡ None) ⊎ (q.changes ≢ None) → (q.ticket.page.0 < least) ⊎ (least ≤ q.ticket.page.0) → (q.changes ≢ None → q.ticket.page.0 < p.ticket.page.0 + 1 → q.ticket.page.0 < least)
          → is_below (p.ticket.page.0 + 1) q ≡ is_below least q
      alike q (inl none) order only = let without : has_changes q ≡ false = ap is_some none in rw without refl
      alike q (inr some) (inl before) only =
          let from = next.waits.1 in
          let one : nat_lt q.ticket.page.0 least ≡ true = grind (arith, nat_tests) in
          let two : nat_lt q.ticket.page.0 (p.ticket.page.0 + 1) ≡ true = grind (arith, nat_tests) in
          rw (one, two) refl
      alike q (inr some) (inr low) only =
          let high : p.ticket.page.0 + 1 ≤ q.ticket.page.0 = elim (cases_lt q.ticket.page.0 (p.ticket.page.0 + 1)) [ inl less ↦ let no = only some less in absurd (omega (arith, no, low)) | inr high ↦ high ] in
          let one : nat_lt q.ticket.page.0 least ≡ false = grind (arith, nat_tests) in
          let two : nat_lt q.ticket.page.0 (p.ticket.page.0 + 1) ≡ false = grind (arith, nat_tests) in
          rw (one, two) refl

  -- so there is room for it
  pub room_for : count_by (is_below least) xs < length xs
  room_for = omega (arith, counted_more, count_by-le-length (is_below (p.ticket.page.0 + 1)) xs)

-- It is sent with its changes.
module _ (xs : List CachedPage) (once : AllPairs (λ p q. p.ticket.page ≢ q.ticket.page) xs) (least i : ℕ) (p : CachedPage) (at : slice_get xs i ≡ Some p) (next : IsNext least xs p) (c : Changes) (is : p.changes ≡ Some c) (sent : List WrittenPage) (were : AreSent xs least sent) where
  in_front : (q : CachedPage) → IsSent sent q → IsSent (sent ++ sent_as p c ∷ []) q
  in_front q was e has =
      find-append (is_sent q.ticket.page) sent (sent_as p c ∷ []) ∙ ap (λ o. option_or o (find (is_sent q.ticket.page) (sent_as p c ∷ []))) (was e has)

  at_end : IsSent (sent ++ sent_as p c ∷ []) p
  at_end e has =
      let one : c ≡ e = cc in
      let yes : is_sent p.ticket.page (sent_as p c) ≡ true = eq-eqb p.ticket.page.0 p.ticket.page.0 refl in
      find-append (is_sent p.ticket.page) sent (sent_as p c ∷ []) ∙ ap (λ o. option_or o (find (is_sent p.ticket.page) (sent_as p c ∷ []))) (not_sent least p.ticket.page sent next.waits.1 were.low)
      ∙ rw yes (ap (λ k. Some (sent_as p k)) one)

  pub one_sent : AreSent xs (p.ticket.page.0 + 1) (sent ++ sent_as p c ∷ [])
  one_sent =
      let from = next.waits.1 in
      record {
        low = All-append (λ v. v.page.0 < p.ticket.page.0 + 1) sent (sent_as p c ∷ []) (λ k d below. let less = were.low k d below in omega (arith, less, from)) (All-cons (λ v. v.page.0 < p.ticket.page.0 + 1) (sent_as p c) [] (omega arith) (All-nil (λ v. v.page.0 < p.ticket.page.0 + 1)));
        rising = all_pairs_push Rises sent (sent_as p c) were.rising (λ k d below. let less = were.low k d below in omega (arith, less, from));
        count = length-append sent (sent_as p c ∷ []) ∙ ap (λ n. n + 1) were.count ∙ sym (counted_more xs once least i p at next);
        each = λ j d below less e has.
            up_to xs once least i p at next (IsSent sent) (IsSent (sent ++ sent_as p c ∷ [])) (λ q lower. in_front q) at_end (λ k x under some before. were.each k x under before) j d below (λ none. cc) less e has;
      }

-- where no page waits any more, each was sent, and they were counted
pub all_sent : (least : ℕ) (xs : List CachedPage) (sent : List WrittenPage) → All (λ p. ¬ (Waits least p)) xs → AreSent xs least sent → All (IsSent sent) xs
all_sent least xs sent none were i d below c is = elim (cases_lt (slice_index_or xs i d).ticket.page.0 least) [
  | inl before ↦ were.each i d below before c is
  | inr low ↦ absurd (none i d below ((λ e. cc), low))
]

-- what holds of each page that doesn't wait holds of all that have changes
pub all_done : (P : CachedPage → Type 0) (least : ℕ) (xs : List CachedPage) → All (λ p. ¬ (Waits least p)) xs → All (λ p. p.changes ≢ None → p.ticket.page.0 < least → P p) xs → All (λ p. p.changes ≢ None → P p) xs
all_done P least xs none all i d below some = elim (cases_lt (slice_index_or xs i d).ticket.page.0 least) [
  | inl before ↦ all i d below some before
  | inr low ↦ absurd (none i d below (some, low))
]

pub all_counted : (least : ℕ) (xs : List CachedPage) → All (λ p. ¬ (Waits least p)) xs → count_by (is_below least) xs ≡ count_by has_changes xs
all_counted least xs none = same_count has_changes (is_below least) xs (λ i d below. by (slice_index_or xs i d) (changed_or_not (slice_index_or xs i d).changes) (none i d below))
  where
    by : (p : CachedPage) → (p.changes ≡ None) ⊎ (p.changes ≢ None) → ¬ (Waits least p) → is_below least p ≡ has_changes p
    by p (inl none) waits = let without : has_changes p ≡ false = ap is_some none in rw without refl
    by p (inr some) waits =
        let yes : has_changes p ≡ true = has_some p.changes some in
        let less : p.ticket.page.0 < least = elim (cases_lt p.ticket.page.0 least) [ inl less ↦ less | inr low ↦ absurd (waits (some, low)) ] in
        let below : nat_lt p.ticket.page.0 least ≡ true = grind (arith, nat_tests) in
        rw (yes, below) refl
