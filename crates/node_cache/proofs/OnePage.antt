-- What is done to one page of a cache leaves the others.
use Rattle.std.specs.Prelude.{◌≡◌, ◌≢◌, ℕ, zero, suc, Bool, true, false, List, [], ◌∷◌, Some, All, AllPairs, slice_set, slice_index_or, refl, if◌then◌else◌}
use Rattle.std.specs.List.{slice_get, find, position_or_len}
use Rattle.std.proofs.Common.{arith, inl, inr, ap, sym, subst, ◌∙◌}
use Rattle.std.proofs.lemmas.Bool.{cases_order}
use Rattle.std.proofs.lemmas.Bool.Decides.{nat_tests}
use Rattle.std.proofs.lemmas.List.{get_or_default}
use Rattle.std.proofs.lemmas.List.Elements.{All-map}
use Rattle.std.proofs.lemmas.List.Folds.{find_at}
use Rattle.sd_base.specs.declared.names.PageNo.{PageNo}
use Rattle.node_cache.specs.Cache.{CachedPage, is_page, with_page, page_at, place_of}
use Rattle.sd_base.proofs.Positions.{placed}
use Rattle.node_cache.proofs.Finding.{got}

pub tail_pairs : {X : Type 0} (R : X → X → Type 0) (x : X) (xs : List X) → AllPairs R (x ∷ xs) → AllPairs R xs
tail_pairs R x xs all i j d before below = all (suc i) (suc j) d (omega (arith, before)) (omega (arith, below))

pub head_pairs : {X : Type 0} (R : X → X → Type 0) (x : X) (xs : List X) → AllPairs R (x ∷ xs) → All (R x) xs
head_pairs R x xs all j d below = all 0 (suc j) d (omega arith) (omega (arith, below))

-- a page is x where it has its number
pub is_page-same : (x : PageNo) (p : CachedPage) → is_page x p ≡ true → p.ticket.page ≡ x
is_page-same x p is = let same : p.ticket.page.0 ≡ x.0 = grind (arith, nat_tests) in ap (λ n. record { 0 = n }) same

pub is_page-other : (x : PageNo) (p : CachedPage) → p.ticket.page ≢ x → is_page x p ≡ false
is_page-other x p other = by (is_page x p) refl
  where
    by : (b : Bool) → is_page x p ≡ b → is_page x p ≡ false
    by true e = absurd (other (is_page-same x p e))
    by false e = e

-- what is found passes the test
pub found : {X : Type 0} (test : X → Bool) (xs : List X) (x : X) → find test xs ≡ Some x → test x ≡ true
found test [] x e = cc
found test (y ∷ ys) x e = by (test y) refl e (found test ys x)
  where
    by : (b : Bool) → test y ≡ b → (if b then Some y else find test ys) ≡ Some x → (find test ys ≡ Some x → test x ≡ true) → test x ≡ true
    by true is e rest = let same : y ≡ x = cc in subst (λ z. test z ≡ true) same is
    by false is e rest = rest e

pub others_stay : (x : PageNo) (f : CachedPage → CachedPage) (pages : List CachedPage) → All (λ p. is_page x p ≡ false) pages → with_page x f pages ≡ pages
others_stay x f [] none = refl
others_stay x f (p ∷ ps) none = rw (none 0 p (omega arith)) (ap (λ qs. p ∷ qs) (others_stay x f ps (λ i d below. none (suc i) d (omega (arith, below)))))

-- a page put where another one of its number stands
pub set_page : (x : PageNo) (f : CachedPage → CachedPage) (pages : List CachedPage) (i : ℕ) (p : CachedPage) → AllPairs (λ p q. p.ticket.page ≢ q.ticket.page) pages
    → slice_get pages i ≡ Some p → is_page x p ≡ true → slice_set pages i (f p) ≡ with_page x f pages
set_page x f [] i p once at is = cc
set_page x f (q ∷ qs) zero p once at is =
    let same : q ≡ p = cc in
    let this : is_page x q ≡ true = subst (λ r. is_page x r ≡ true) (sym same) is in
    let others = others_stay x f qs (λ j d below. is_page-other x (slice_index_or qs j d) (λ e. head_pairs (λ p q. p.ticket.page ≢ q.ticket.page) q qs once j d below (is_page-same x q this ∙ sym e))) in
    rw (this, others) (ap (λ r. f r ∷ qs) (sym same))
set_page x f (q ∷ qs) (suc i) p once at is =
    let inside = got qs i p at in
    let other : is_page x q ≡ false = is_page-other x q (λ e. head_pairs (λ p q. p.ticket.page ≢ q.ticket.page) q qs once i p inside.0 (e ∙ sym (is_page-same x p is) ∙ sym (ap (λ r. r.ticket.page) inside.1))) in
    rw other (ap (λ rs. q ∷ rs) (set_page x f qs i p (tail_pairs (λ p q. p.ticket.page ≢ q.ticket.page) q qs once) at is))

-- the place of a page holds it
pub place_holds : (x y : PageNo) (pages : List CachedPage) (i : ℕ) (p : CachedPage) → y ≡ x → place_of y pages ≡ Some i → page_at x pages ≡ Some p → slice_get pages i ≡ Some p
place_holds x y pages i p e at there = let is = placed (is_page y) pages i at in sym is.1 ∙ ap (λ z. page_at z pages) e ∙ there

-- something was done to the page at that place
pub set_at_place : (x y : PageNo) (f : CachedPage → CachedPage) (pages new : List CachedPage) (i : ℕ) (p : CachedPage) → y ≡ x → place_of y pages ≡ Some i → page_at x pages ≡ Some p
    → AllPairs (λ p q. p.ticket.page ≢ q.ticket.page) pages → ((q : CachedPage) → slice_get pages i ≡ Some q → new ≡ slice_set pages i (f q)) → new ≡ with_page x f pages
set_at_place x y f pages new i p e at there once set =
    let here = place_holds x y pages i p e at there in
    set p here ∙ set_page x f pages i p once here (found (is_page x) pages p there)

-- what holds of the page x when something was done to it, and of each other page
pub all_with : (Q : CachedPage → Type 0) (x : PageNo) (f : CachedPage → CachedPage) (pages : List CachedPage)
    → All (λ p. (is_page x p ≡ true → Q (f p)) × (is_page x p ≡ false → Q p)) pages → All Q (with_page x f pages)
all_with Q x f pages all = All-map Q (λ p. if is_page x p then f p else p) pages (λ i d below. by (slice_index_or pages i d) (is_page x (slice_index_or pages i d)) refl (all i d below))
  where
    by : (p : CachedPage) (b : Bool) → is_page x p ≡ b → (is_page x p ≡ true → Q (f p)) × (is_page x p ≡ false → Q p) → Q (if is_page x p then f p else p)
    by p true is h = rw is (h.0 is)
    by p false is h = rw is (h.1 is)

-- a page that is found is the only one with its number, and no other one has its frame
pub only : (x : PageNo) (pages : List CachedPage) (p : CachedPage) → AllPairs (λ p q. p.ticket.page ≢ q.ticket.page) pages → AllPairs (λ p q. p.frame ≢ q.frame) pages → page_at x pages ≡ Some p
    → All (λ q. (is_page x q ≡ true → q ≡ p) × (is_page x q ≡ false → q.frame ≢ p.frame)) pages
only x pages p once apart there i d below =
    let j : ℕ = position_or_len (is_page x) pages in
    let at : slice_get pages j ≡ Some p = sym (find_at (is_page x) pages) ∙ there in
    let inside = got pages j p at in
    let this : slice_index_or pages j d ≡ p = get_or_default pages j d p inside.0 ∙ inside.1 in
    let is : is_page x p ≡ true = found (is_page x) pages p there in
    elim (cases_order i j) [
      | inl same ↦
          let here : slice_index_or pages i d ≡ p = ap (λ k. slice_index_or pages k d) same ∙ this in
          (λ e. here, λ other. let no : is_page x p ≡ false = subst (λ q. is_page x q ≡ false) here other in absurd cc)
      | inr (inl before) ↦ (
        λ e. absurd (once i j d before inside.0 (is_page-same x (slice_index_or pages i d) e ∙ sym (is_page-same x p is) ∙ sym (ap (λ q. q.ticket.page) this))),
        λ other same. apart i j d before inside.0 (same ∙ sym (ap (λ q. q.frame) this)),
      )
      | inr (inr behind) ↦ (
        λ e. absurd (once j i d behind below (ap (λ q. q.ticket.page) this ∙ is_page-same x p is ∙ sym (is_page-same x (slice_index_or pages i d) e))),
        λ other same. apart j i d behind below (ap (λ q. q.frame) this ∙ sym same),
      )
    ]
