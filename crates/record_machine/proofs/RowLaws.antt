-- The rows of a dump, one after the other.
use Rattle.std.proofs.Common.{◌≡◌, ◌⊎◌, zero, suc, ◌+◌, ◌-◌, ◌^◌, ◌<◌, ◌≤◌, ◌++◌, ◌∷◌, [], ℕ, List, Option, Some, None, IfSome, arith, inl, inr, subst, sym, append_assoc, refl}
use Rattle.std.specs.List.{Contains}
use Rattle.std.proofs.lemmas.Bool.{cases_eq, cases_lt}
use Rattle.std.proofs.lemmas.List.{append-nil}
use Rattle.std.proofs.lemmas.List.Elements.{All-append, All-cons, All-get_or, All-nil, All-weaker, Contains-append_left, Contains-push}
use Rattle.std.proofs.lemmas.List.Quantifiers.{all_pairs_push}
use Rattle.sd_base.specs.declared.names.Key.{Key}
use Rattle.record_machine.specs.Machine.{Machine}
use Rattle.record_machine.specs.Rows.{AreRows, HasNone, IsNext, Row}

abbrev pub row_at : ℕ → List ℕ → Row
row_at key value = record { key = record { 0 = key }; value = value }

pub no_rows : (m : Machine) → AreRows m 0 []
no_rows m = record {
  rising = λ i j d low high. absurd (omega (arith, high));
  each = All-nil (λ r. (r.key.0 < 0) × (m.records r.key.0 ≡ Some r.value));
  complete = λ key below. absurd (omega (arith, below));
}

-- the next record, behind the rows up to it
pub rows_more : (m : Machine) (first : ℕ) (key : Key) (value : List ℕ) (rows : List Row) → AreRows m first rows → IsNext m first key value → AreRows m (key.0 + 1) (rows ++ record { key = key; value = value } ∷ [])
rows_more m first key value rows was next = record {
  rising = all_pairs_push (λ a b. a.key.0 < b.key.0) rows last was.rising (λ k d within. omega (arith, (All-get_or Below rows k d within was.each).0, next.from));
  each = All-append Now rows (last ∷ []) (All-weaker Below Now (λ r is. (omega (arith, is.0, next.from), is.1)) rows was.each) (All-cons Now last [] (omega arith, next.there) (All-nil Now));
  complete = λ k below. by k (cases_lt k first) (cases_eq k key.0) below;
}
  where
    last : Row
    last = record { key = key; value = value }

    Below : Row → Type 0
    Below r = (r.key.0 < first) × (m.records r.key.0 ≡ Some r.value)

    Now : Row → Type 0
    Now r = (r.key.0 < key.0 + 1) × (m.records r.key.0 ≡ Some r.value)

    Has : ℕ → Option (List ℕ) → Type 0
    Has k o = IfSome o (λ v. Contains (rows ++ last ∷ []) (row_at k v))

    kept : (k : ℕ) (o : Option (List ℕ)) → IfSome o (λ v. Contains rows (row_at k v)) → Has k o
    kept k None has = tt
    kept k (Some v) has = Contains-append_left rows (last ∷ []) (row_at k v) has

    here : (k : ℕ) → k ≡ key.0 → Has k (m.records k)
    here k is = subst (λ n. Has n (m.records n)) (sym is) (subst (Has key.0) (sym next.there) (Contains-push rows last))

    by : (k : ℕ) → (k < first) ⊎ (first ≤ k) → (k ≡ key.0) ⊎ (k ≡ key.0 → ⊥) → k < key.0 + 1 → Has k (m.records k)
    by k (inl low) other below = kept k (m.records k) (was.complete k low)
    by k (inr from) (inl same) below = here k same
    by k (inr from) (inr other) below = subst (Has k) (sym (next.least k from (omega (arith, below, other)))) tt

-- and where there is no further one up to a key
pub rows_longer : (m : Machine) (first end : ℕ) (rows : List Row) → first ≤ end → AreRows m first rows → ((k : ℕ) → first ≤ k → k < end → m.records k ≡ None) → AreRows m end rows
rows_longer m first end rows low was none = record {
  rising = was.rising;
  each = All-weaker (λ r. (r.key.0 < first) × (m.records r.key.0 ≡ Some r.value)) (λ r. (r.key.0 < end) × (m.records r.key.0 ≡ Some r.value)) (λ r is. (omega (arith, is.0, low), is.1)) rows was.each;
  complete = λ k below. by k (cases_lt k first) below;
}
  where
    by : (k : ℕ) → (k < first) ⊎ (first ≤ k) → k < end → IfSome (m.records k) (λ value. Contains rows (row_at k value))
    by k (inl low) below = was.complete k low
    by k (inr from) below = subst (λ o. IfSome o (λ value. Contains rows (row_at k value))) (sym (none k from below)) tt

pub rows_all : (m : Machine) (first : ℕ) (rows : List Row) → first ≤ 2 ^ 32 → AreRows m first rows → HasNone m first → AreRows m (2 ^ 32) rows
rows_all m first rows low was none = rows_longer m first (2 ^ 32) rows low was none

-- the rows of so many keys more
rows_on : (m : Machine) (count first : ℕ) (rows : List Row) → AreRows m first rows → (more : List Row) × AreRows m (first + count) (rows ++ more)
rows_on m zero first rows was = ([], subst (λ n. AreRows m n (rows ++ [])) (omega arith) (subst (AreRows m first) (sym (append-nil rows)) was))
rows_on m (suc count) first rows was = by (m.records first) refl (λ now. rows_on m count (first + 1) now)
  where
    by : (o : Option (List ℕ)) → m.records first ≡ o → ((now : List Row) → AreRows m (first + 1) now → (more : List Row) × AreRows m (first + 1 + count) (now ++ more)) → (more : List Row) × AreRows m (first + suc count) (rows ++ more)
    by None is go_on =
        let none : (k : ℕ) → first ≤ k → k < first + 1 → m.records k ≡ None = λ k from below. subst (λ n. m.records n ≡ None) (omega (arith, from, below)) is in
        let rest = go_on rows (rows_longer m first (first + 1) rows (omega arith) was none) in
        (rest.0, subst (λ n. AreRows m n (rows ++ rest.0)) (omega arith) rest.1)
    by (Some value) is go_on =
        let key : Key = record { 0 = first } in
        let next : IsNext m first key value = record { from = omega arith; there = is; least = λ k from below. absurd (omega (arith, from, below)) } in
        let rest = go_on (rows ++ row_at first value ∷ []) (rows_more m first key value rows was next) in
        (row_at first value ∷ rest.0, subst (λ n. AreRows m n (rows ++ row_at first value ∷ rest.0)) (omega arith) (subst (AreRows m (first + 1 + count)) (append_assoc rows (row_at first value ∷ []) rest.0) rest.1))

pub rows_rest : (m : Machine) (first : ℕ) (rows : List Row) → first ≤ 2 ^ 32 → AreRows m first rows → (more : List Row) × AreRows m (2 ^ 32) (rows ++ more)
rows_rest m first rows low was =
    let rest = rows_on m (2 ^ 32 - first) first rows was in
    (rest.0, subst (λ n. AreRows m n (rows ++ rest.0)) (omega (arith, low)) rest.1)
