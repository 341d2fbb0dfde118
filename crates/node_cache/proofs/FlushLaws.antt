-- One page of a cache as a range of its list.
use Rattle.std.specs.Prelude.{◌≡◌, ◌≢◌, ◌≤◌, ◌<◌, ◌+◌, ℕ, zero, suc, Bool, true, false, List, [], ◌∷◌, Option, Some, None, All, AllPairs, is_some, option_and_then, length, slice_index_or, if◌then◌else◌, refl}
use Rattle.std.specs.List.{find, cons_option, count_by}
use Rattle.std.proofs.Common.{arith, ap, sym, ◌∙◌}
use Rattle.std.proofs.lemmas.List.{same_lists}
use Rattle.sd_base.specs.declared.names.PageNo.{PageNo}
use Rattle.node_cache.specs.Cache.{CachedPage, Changes, first_change, has_changes, is_page, page_at, place_of, with_page, written_back}
use Rattle.node_cache.specs.Places.{between, IsWrittenWithin}
use Rattle.sd_base.proofs.Positions.{placed}
use Rattle.node_cache.proofs.OnePage.{found, others_stay, set_page}
use Rattle.node_cache.proofs.PageWrites.{there_is}
use Rattle.node_cache.proofs.Ranges.{at_between, length_between, one_between, one_within}

-- the range of a page that is cached
pub page_range : (x : PageNo) (pages : List CachedPage) (i : ℕ) → place_of x pages ≡ Some i → between i (i + 1) pages ≡ cons_option (page_at x pages) []
page_range x pages i at =
    let is = placed (is_page x) pages i at in
    let there = there_is pages i is.0 in
    one_between i pages there.0 there.1 ∙ sym (ap (λ o. cons_option o []) (is.1 ∙ there.1))

pub within : (x : PageNo) (pages : List CachedPage) (i : ℕ) → place_of x pages ≡ Some i → i + 1 ≤ length pages
within x pages i at = let below = (placed (is_page x) pages i at).0 in omega (arith, below)

-- how many of it have changes
pub unchanged_page : (o : Option CachedPage) → is_some (option_and_then first_change o) ≡ false → count_by has_changes (cons_option o []) ≡ 0
unchanged_page None none = refl
unchanged_page (Some p) none = by p.changes refl none
  where
    by : (c : Option Changes) → p.changes ≡ c → is_some (first_change p) ≡ false → count_by has_changes (p ∷ []) ≡ 0
    by None e none = rw e refl
    by (Some c) e none = let some : is_some (first_change p) ≡ true = rw e refl in absurd cc

pub changed_page : (o : Option CachedPage) → is_some (option_and_then first_change o) ≡ true → count_by has_changes (cons_option o []) ≡ 1
changed_page None some = cc
changed_page (Some p) some = by p.changes refl some
  where
    by : (c : Option Changes) → p.changes ≡ c → is_some (first_change p) ≡ true → count_by has_changes (p ∷ []) ≡ 1
    by None e some = let none : is_some (first_change p) ≡ false = rw e refl in absurd cc
    by (Some c) e some = rw e refl

-- the pages with the page x written
pub page_written : (x : PageNo) (pages new : List CachedPage) (i : ℕ) → place_of x pages ≡ Some i → AllPairs (λ p q. p.ticket.page ≢ q.ticket.page) pages → IsWrittenWithin i (i + 1) pages new → new ≡ with_page x written_back pages
page_written x pages new i at once is =
    let here = placed (is_page x) pages i at in
    let there = there_is pages i here.0 in
    one_within i pages new there.0 there.1 is ∙ set_page x written_back pages i there.0 once there.1 (found (is_page x) pages there.0 (here.1 ∙ there.1))

not_found : (x : PageNo) (pages : List CachedPage) → page_at x pages ≡ None → All (λ p. is_page x p ≡ false) pages
not_found x [] none i d below = absurd (omega (arith, below))
not_found x (p ∷ ps) none i d below = by (is_page x p) refl none (not_found x ps) i below
  where
    by : (b : Bool) → is_page x p ≡ b → (if b then Some p else find (is_page x) ps) ≡ None → (page_at x ps ≡ None → All (λ q. is_page x q ≡ false) ps) → (i : ℕ) → i < length (p ∷ ps) → is_page x (slice_index_or (p ∷ ps) i d) ≡ false
    by true is none rest i below = cc
    by false is none rest zero below = is
    by false is none rest (suc i) below = rest none i d (omega (arith, below))

-- and without it, where it isn't cached
pub page_missing : (x : PageNo) (f : CachedPage → CachedPage) (pages : List CachedPage) → page_at x pages ≡ None → with_page x f pages ≡ pages
page_missing x f pages none = others_stay x f pages (not_found x pages none)

-- the range of all pages
pub all_range : (n : ℕ) (pages : List CachedPage) → n ≡ length pages → between 0 n pages ≡ pages
all_range n pages all = same_lists (between 0 n pages) pages (length_between 0 n pages (omega (arith, all)) ∙ omega (arith, all)) (λ k d below.
    at_between 0 n k pages d (omega (arith, all)) (omega (arith, below, length_between 0 n pages (omega (arith, all)))) ∙ ap (λ j. slice_index_or pages j d) (omega arith))
