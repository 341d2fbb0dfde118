-- The least number of a record that a page's block hasn't.
use Rattle.std.specs.Prelude.{◌≡◌, ◌+◌, ◌≤◌, ◌⊎◌, ℕ, zero, suc, List, [], ◌∷◌, Option, Some, None, IfSome, IfNone, All, Any, min, fold, filter_map, option_and_then, length, refl}
use Rattle.std.specs.List.{cons_option, range_with_len, reduce, slice_get}
use Rattle.std.proofs.Common.{arith, ap, sym, inl, inr, ◌∙◌}
use Rattle.std.proofs.lemmas.Bool.{cases_lt}
use Rattle.std.proofs.lemmas.List.Elements.{All-cons}
use Rattle.node_cache.specs.Cache.{CachedPage, Changes, IsLeastChange, first_change}

-- what is read at places that count from the next number on
shifted : {Y : Type 0} (read : ℕ → Option Y) (a b n : ℕ) → b ≡ suc a → filter_map read (range_with_len b n) ≡ filter_map (λ i. read (suc i)) (range_with_len a n)
shifted read a b zero e = refl
shifted read a b (suc n) e = rw e (ap (cons_option (read (suc a))) (shifted read (a + 1) (suc a + 1) n (omega arith)))

-- what is read at all places of a list is what is read of its elements
pub at_places : {X Y : Type 0} (read : X → Option Y) (xs : List X) (n : ℕ) → n ≡ length xs → filter_map (λ i. option_and_then read (slice_get xs i)) (range_with_len 0 n) ≡ filter_map read xs
at_places read [] n e = rw e refl
at_places read (x ∷ xs) n e =
    rw e (ap (cons_option (read x)) (shifted (λ i. option_and_then read (slice_get (x ∷ xs) i)) 0 (0 + 1) (length xs) (omega arith) ∙ at_places read xs (length xs) refl))

-- and at one place
pub read_at : {X Y : Type 0} (read : X → Option Y) (xs : List X) (i : ℕ) (x : X) (o : Option Y) → slice_get xs i ≡ Some x → o ≡ read x → o ≡ option_and_then read (slice_get xs i)
read_at read xs i x o there e = rw there e

-- a page of which P holds, alone or among the others
any_here : (P : CachedPage → Type 0) (p : CachedPage) (pages : List CachedPage) → P p → Any P (p ∷ pages)
any_here P p pages here = (0, p, omega arith, refl, here)

any_there : (P : CachedPage → Type 0) (p : CachedPage) (pages : List CachedPage) → Any P pages → Any P (p ∷ pages)
any_there P p pages (i, q, below, is, there) = (suc i, q, omega (arith, below), is, there)

-- a page that has no first change has none
unchanged : (p : CachedPage) → first_change p ≡ None → p.changes ≡ None
unchanged p = by p.changes refl
  where
    by : (changes : Option Changes) → p.changes ≡ changes → first_change p ≡ None → p.changes ≡ None
    by None is none = is
    by (Some c) is none = let some : first_change p ≡ Some c.first = rw is refl in cc

-- the least of a number and the changes of these pages
record IsLeastFrom (start : ℕ) (pages : List CachedPage) (least : ℕ) : Type 0 where
  below : least ≤ start
  all : All (λ p. (other : ℕ) → first_change p ≡ Some other → least ≤ other) pages
  there : (least ≡ start) ⊎ Any (λ p. first_change p ≡ Some least) pages

least_from : (pages : List CachedPage) (start : ℕ) → IsLeastFrom start pages (fold min start (filter_map first_change pages))
least_from [] start = record { below = omega arith; all = λ i d h. absurd (omega (arith, h)); there = inl refl }
least_from (p ∷ pages) start = by (first_change p) refl (least_from pages)
  where
    by : (change : Option ℕ) → first_change p ≡ change → ((s : ℕ) → IsLeastFrom s pages (fold min s (filter_map first_change pages))) → IsLeastFrom start (p ∷ pages) (fold min start (cons_option change (filter_map first_change pages)))
    by None is rest =
        let from = rest start in
        record {
          below = from.below;
          all = All-cons (λ q. (other : ℕ) → first_change q ≡ Some other → fold min start (filter_map first_change pages) ≤ other) p pages (λ other some. cc) from.all;
          there = elim from.there [ inl same ↦ inl same | inr there ↦ inr (any_there (λ q. first_change q ≡ Some (fold min start (filter_map first_change pages))) p pages there) ];
        }
    by (Some n) is rest =
        let from = rest (min start n) in
        let least = fold min (min start n) (filter_map first_change pages) in
        record {
          below = omega (arith, from.below);
          all = All-cons (λ q. (other : ℕ) → first_change q ≡ Some other → least ≤ other) p pages (λ other some. let same : n ≡ other = cc in omega (arith, from.below, same)) from.all;
          there = elim from.there [
            | inl same ↦ elim (cases_lt start n) [ inl less ↦ inl (omega (arith, same, less)) | inr more ↦ inr (any_here (λ q. first_change q ≡ Some least) p pages (is ∙ ap Some (omega (arith, same, more)))) ]
            | inr there ↦ inr (any_there (λ q. first_change q ≡ Some least) p pages there)
          ];
        }

-- the least of all changes, and where there is none
pub least_is : (pages : List CachedPage) (result : Option ℕ) → result ≡ reduce min (filter_map first_change pages)
    → IfSome result (IsLeastChange pages) × IfNone result (All (λ p. p.changes ≡ None) pages)
least_is [] result e = rw e (tt, λ i d h. absurd (omega (arith, h)))
least_is (p ∷ pages) result e = by (first_change p) refl e (least_is pages result)
  where
    more : (o : Option ℕ) → first_change p ≡ None → IfSome o (IsLeastChange pages) × IfNone o (All (λ q. q.changes ≡ None) pages) → IfSome o (IsLeastChange (p ∷ pages)) × IfNone o (All (λ q. q.changes ≡ None) (p ∷ pages))
    more None is rest = (tt, All-cons (λ q. q.changes ≡ None) p pages (unchanged p is) rest.1)
    more (Some least) is rest = (
      record {
        some = any_there (λ q. first_change q ≡ Some least) p pages rest.0.some;
        least = All-cons (λ q. (other : ℕ) → first_change q ≡ Some other → least ≤ other) p pages (λ other some. cc) rest.0.least;
      },
      tt,
    )

    by : (change : Option ℕ) → first_change p ≡ change → result ≡ reduce min (cons_option change (filter_map first_change pages))
        → (result ≡ reduce min (filter_map first_change pages) → IfSome result (IsLeastChange pages) × IfNone result (All (λ q. q.changes ≡ None) pages))
        → IfSome result (IsLeastChange (p ∷ pages)) × IfNone result (All (λ q. q.changes ≡ None) (p ∷ pages))
    by None is e rest = more result is (rest e)
    by (Some n) is e rest =
        let from = least_from pages n in
        let least = fold min n (filter_map first_change pages) in
        rw e (
          record {
            some = elim from.there [ inl same ↦ any_here (λ q. first_change q ≡ Some least) p pages (is ∙ ap Some (sym same)) | inr there ↦ any_there (λ q. first_change q ≡ Some least) p pages there ];
            least = All-cons (λ q. (other : ℕ) → first_change q ≡ Some other → least ≤ other) p pages (λ other some. let same : n ≡ other = cc in omega (arith, from.below, same)) from.all;
          },
          tt,
        )
