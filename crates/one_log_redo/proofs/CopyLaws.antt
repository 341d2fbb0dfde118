-- Which pages are in frames, as one comes in, goes or changes.
use Rattle.std.proofs.Common.{◌≡◌, ◌≢◌, ◌<◌, ◌≤◌, ◌+◌, ◌⊎◌, ℕ, zero, suc, List, [], ◌∷◌, Option, Some, None, IfSome, length, slice_index_or, inl, inr, ap, sym, ◌∙◌, arith}
use Rattle.std.proofs.lemmas.Bool.{cases_eq}
use Rattle.sd_base.specs.declared.names.PageNo.{PageNo}
use Rattle.recovery_theory.specs.Pages.{page_named}
use Rattle.one_log_redo.specs.declared.copies.Copied.{Copied}
use Rattle.one_log_redo.specs.Copies.{ComesFirst, copy_at}

-- what stands at a place is one of the list
pub there : {X : Type 0} (xs : List (Option X)) (k : ℕ) (x : X) → slice_index_or xs k None ≡ Some x → k < length xs
there [] k x e = cc
there (y ∷ ys) zero x e = omega arith
there (y ∷ ys) (suc k) x e = let rest = there ys k x e in omega (arith, rest)

-- a page is its number
pub same_page : (x y : PageNo) → x.0 ≡ y.0 → x ≡ y
same_page x y e = ap page_named e

-- two pages are one or have two numbers
pub cases_page : (x y : PageNo) → (x ≡ y) ⊎ (x ≢ y)
cases_page x y = elim (cases_eq x.0 y.0) [
  | inl e ↦ inl (same_page x y e)
  | inr ne ↦ inr (λ e. ne (ap (λ (z : PageNo). z.0) e))
]

-- one place has one page
pub one_copy : (copies : List (Option Copied)) (j k : ℕ) (c d : Copied) → j ≡ k → copy_at copies j ≡ Some c → copy_at copies k ≡ Some d → c ≡ d
one_copy copies j k c d e p q = let both : Some c ≡ Some d = sym p ∙ (ap (copy_at copies) e ∙ q) in cc

-- the place is the first one so far
pub first_now : (copies : List (Option Copied)) (keep : PageNo) (n : ℕ) (first : Option ℕ) → ComesFirst copies keep n first → (c : Copied) → copy_at copies n ≡ Some c → c.page ≢ keep → IfSome first (λ j. (d : Copied) → copy_at copies j ≡ Some d → c.since ≤ d.since)
    → ComesFirst copies keep (n + 1) (Some n)
first_now copies keep n None f c at ne b = (
  c,
  at,
  ne,
  λ k d lt here far. elim (cases_eq k n) [
    | inl e ↦ let same = one_copy copies k n d c e here at in let since : d.since ≡ c.since = ap (λ (x : Copied). x.since) same in omega (arith, since)
    | inr other ↦ absurd (far (f k d (omega arith) here))
  ],
)
first_now copies keep n (Some j) f c at ne b = (
  c,
  at,
  ne,
  λ k d lt here far. elim (cases_eq k n) [
    | inl e ↦ let same = one_copy copies k n d c e here at in let since : d.since ≡ c.since = ap (λ (x : Copied). x.since) same in omega (arith, since)
    | inr other ↦ let low = f.3 k d (omega arith) here far in let lower = b f.0 f.1 in omega (arith, low, lower)
  ],
)

-- the first one so far is still that
pub first_still : (copies : List (Option Copied)) (keep : PageNo) (n : ℕ) (first : Option ℕ) → ComesFirst copies keep n first
    → ((c : Copied) → copy_at copies n ≡ Some c → c.page ≢ keep → (j : ℕ) × (first ≡ Some j) × ((d : Copied) → copy_at copies j ≡ Some d → d.since ≤ c.since))
    → ComesFirst copies keep (n + 1) first
first_still copies keep n None f b = λ k d lt here. elim (cases_eq k n) [
  | inl e ↦ elim (cases_page d.page keep) [
    | inl same ↦ same
    | inr far ↦ let w = b d (ap (copy_at copies) (sym e) ∙ here) far in let no : None ≡ Some w.0 = w.1 in absurd cc
  ]
  | inr other ↦ f k d (omega arith) here
]
first_still copies keep n (Some j) f b = (
  f.0,
  f.1,
  f.2,
  λ k d lt here far. elim (cases_eq k n) [
    | inl e ↦
        let w = b d (ap (copy_at copies) (sym e) ∙ here) far in
        let is : Some j ≡ Some w.0 = w.1 in
        let same : w.0 ≡ j = cc in
        w.2 f.0 (ap (copy_at copies) same ∙ f.1)
    | inr other ↦ f.3 k d (omega arith) here far
  ],
)

-- the first one is one of the list
pub first_within : (copies : List (Option Copied)) (keep : PageNo) (n : ℕ) (first : Option ℕ) → ComesFirst copies keep n first → IfSome first (λ j. j < length copies)
first_within copies keep n None f = tt
first_within copies keep n (Some j) f = there copies j f.0 f.1
