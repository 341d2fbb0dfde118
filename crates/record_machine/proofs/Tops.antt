-- That each data page has room for what may still be taken back.
use Rattle.std.specs.Prelude.{◌≡◌, ◌≢◌, ◌==◌, ◌⊎◌, ◌+◌, ◌*◌, ◌^◌, ◌≤◌, ◌<◌, ◌++◌, ◌∷◌, [], ℕ, zero, suc, Bool, true, false, cond, not, Option, Some, None, count_by, length, refl}
use Rattle.std.specs.List.{range_with_len, sum_by}
use Rattle.std.proofs.Common.{arith, inl, inr, ap, subst, sym}
use Rattle.std.proofs.lemmas.Bool.{cases_eq, eq-eqb}
use Rattle.std.proofs.lemmas.Bool.Decides.{nat_tests}
use Rattle.std.proofs.lemmas.List.{length-append}
use Rattle.std.proofs.lemmas.List.Filters.{sum_by-filter_both}
use Rattle.std.proofs.lemmas.List.FromFn.{get_or-range_with_len, length-range_with_len}
use Rattle.std.proofs.lemmas.List.Sums.{count_by-le-length, sum_by-cons, sum_by-le, sum_by-le-sum_by, sum_by_push}
use Rattle.sd_base.specs.Shape.{IsShape, page_count}
use Rattle.sd_base.specs.declared.names.GroupNo.{GroupNo}
use Rattle.sd_base.specs.declared.names.TxnId.{TxnId}
use Rattle.record_machine.specs.Machine.{Deed, Machine, Write, newest_of, open_writes, owed, put, without_newest, writes_page}
use Rattle.record_machine.specs.Parts.{Change, Seal, Use, done_by, one, taken_back}
use Rattle.record_machine.specs.Meaning.{AreBelowTop}
use Rattle.record_machine.proofs.Deeds.{without}
use Rattle.record_machine.proofs.DeedSteps.{deed}
use Rattle.record_machine.proofs.Newest.{IsNewest, count_rest, newest_is}
use Rattle.record_machine.proofs.Put.{at_or_off, put_other, put_same}

-- ---- sums over the nodes

sum_same : (f g : ℕ → ℕ) (a n : ℕ) → ((i : ℕ) → a ≤ i → f i ≡ g i) → sum_by f (range_with_len a n) ≡ sum_by g (range_with_len a n)
sum_same f g a zero same = refl
sum_same f g a (suc n) same =
    let rest = sum_same f g (a + 1) n (λ i low. same i (omega (arith, low))) in
    let here = same a (omega arith) in
    let one = sum_by-cons f a (range_with_len (a + 1) n) in
    let two = sum_by-cons g a (range_with_len (a + 1) n) in
    omega (arith, rest, here, one, two)

-- where one term is one less, the sum is
sum_less : (f g : ℕ → ℕ) (k a n : ℕ) → ((i : ℕ) → i ≢ k → f i ≡ g i) → f k + 1 ≡ g k → a ≤ k → k < a + n → sum_by f (range_with_len a n) + 1 ≡ sum_by g (range_with_len a n)
sum_less f g k a zero others less low high = absurd (omega (arith, low, high))
sum_less f g k a (suc n) others less low high =
    let one = sum_by-cons f a (range_with_len (a + 1) n) in
    let two = sum_by-cons g a (range_with_len (a + 1) n) in
    elim (cases_eq a k) [
      | inl same ↦
          let rest = sum_same f g (a + 1) n (λ i up. others i (λ e. omega (arith, e, same, up))) in
          let here : f a + 1 ≡ g a = subst (λ i. f i + 1 ≡ g i) (sym same) less in
          omega (arith, rest, here, one, two)
      | inr apart ↦
          let rest = sum_less f g k (a + 1) n others less (omega (arith, apart, low)) (omega (arith, high)) in
          let here = others a apart in
          omega (arith, rest, here, one, two)
    ]

-- ---- one deed more

abbrev counted : Bool → ℕ
counted b = cond b 1 0

-- of which none is counted that doesn't write the page
open_done : (t : TxnId) (w : Option Write) (m : Machine) (x : ℕ) → writes_page x (deed t w m) ≡ false → open_writes (done_by t w m) x ≡ open_writes m x
open_done t w m x not = sum_same (λ n. count_by (writes_page x) (put t.node.0 (m.pending t.node.0 ++ deed t w m ∷ []) m.pending n)) (λ n. count_by (writes_page x) (m.pending n)) 1 m.shape.nodes (λ n up.
    at_or_off (λ ds. count_by (writes_page x) ds ≡ count_by (writes_page x) (m.pending n)) t.node.0 (m.pending t.node.0 ++ deed t w m ∷ []) m.pending n
    (λ same.
    let more = sum_by_push (λ d. cond (writes_page x d) 1 0) (m.pending t.node.0) (deed t w m) in
    let none : counted (writes_page x (deed t w m)) ≡ 0 = ap counted not in
    let old : count_by (writes_page x) (m.pending n) ≡ count_by (writes_page x) (m.pending t.node.0) = ap (λ k. count_by (writes_page x) (m.pending k)) same in
    omega (arith, more, none, old))
    (λ other. refl))

-- no page has more than the logs have room for
open_most : (t : TxnId) (w : Option Write) (m : Machine) (x : ℕ) → IsShape m.shape → ((n : ℕ) → 1 ≤ n → n ≤ m.shape.nodes → owed m n ≤ 6 * m.shape.ring) → open_writes (done_by t w m) x < 2 ^ 40
open_most t w m x shape owing =
    let count = length-range_with_len 1 m.shape.nodes in
    let most = sum_by-le f 24577 (range_with_len 1 m.shape.nodes) (λ k d low.
    let at = get_or-range_with_len 1 m.shape.nodes k d (omega (arith, low, count)) in
    subst (λ n. f n ≤ 24577) (sym at) (each (1 + k) (omega arith) (omega (arith, low, count)))) in
    let few = shape.nodes.1 in
    omega (arith, most, count, few)
  where
    f : ℕ → ℕ
    f n = count_by (writes_page x) (put t.node.0 (m.pending t.node.0 ++ deed t w m ∷ []) m.pending n)

    each : (n : ℕ) → 1 ≤ n → n ≤ m.shape.nodes → f n ≤ 24577
    each n up low =
        let few = owing n up low in
        let ring = shape.ring.1 in
        at_or_off (λ ds. count_by (writes_page x) ds ≤ 24577) t.node.0 (m.pending t.node.0 ++ deed t w m ∷ []) m.pending n
        (λ same.
        let most = count_by-le-length (writes_page x) (m.pending t.node.0 ++ deed t w m ∷ []) in
        let more = length-append (m.pending t.node.0) (deed t w m ∷ []) in
        let old : length (m.pending n) ≡ length (m.pending t.node.0) = ap (λ k. length (m.pending k)) same in
        omega (arith, most, more, old, few, ring))
        (λ other. let most = count_by-le-length (writes_page x) (m.pending n) in omega (arith, most, few, ring))

pub tops_begun : (t : TxnId) (m : Machine) → AreBelowTop m → AreBelowTop (done_by t None m)
tops_begun t m was = λ x low high. let same = open_done t None m x refl in let old = was x low high in omega (arith, same, old)

pub tops_changed : (t : TxnId) (w : Write) (m : Machine) → IsShape m.shape → m.ident w.page < 2 ^ 63 → ((n : ℕ) → 1 ≤ n → n ≤ m.shape.nodes → owed m n ≤ 6 * m.shape.ring) → AreBelowTop m → AreBelowTop (one (Change t w) m)
tops_changed t w m shape room owing was = λ x low high. at_or_off (λ ident. ident + open_writes (one (Change t w) m) x ≤ 2 ^ 63 + 2 ^ 40) w.page (m.ident w.page + 1) m.ident x
    (λ same. let most = open_most t (Some w) m x shape owing in omega (arith, most, room))
    (λ other.
    let not : writes_page x (deed t (Some w) m) ≡ false = grind (arith, nat_tests) in
    let same = open_done t (Some w) m x not in
    let old = was x low high in
    omega (arith, same, old))

-- ---- the other parts

pub tops_used : (n map place : ℕ) (g : GroupNo) (m : Machine) → map < m.shape.maps → AreBelowTop m → AreBelowTop (one (Use n map place g) m)
tops_used n map place g m within was = λ x low high. rw (put_other map (m.ident map + 1) m.ident x (λ same. omega (arith, same, low, within))) (was x low high)

pub tops_sealed : (t : TxnId) (m : Machine) → AreBelowTop m → AreBelowTop (one (Seal t) m)
tops_sealed t m was = λ x low high.
    let old = was x low high in
    let less = sum_by-le-sum_by (λ n. count_by (writes_page x) (put t.node.0 (without t.seat (m.pending t.node.0)) m.pending n)) (λ n. count_by (writes_page x) (m.pending n)) (range_with_len 1 m.shape.nodes) (λ n.
    at_or_off (λ ds. count_by (writes_page x) ds ≤ count_by (writes_page x) (m.pending n)) t.node.0 (without t.seat (m.pending t.node.0)) m.pending n
    (λ same.
    let both = sum_by-filter_both (λ d. not (d.seat == t.seat)) (λ d. not (not (d.seat == t.seat))) (λ d. refl) (λ d. cond (writes_page x d) 1 0) (m.pending t.node.0) in
    let all : count_by (writes_page x) (m.pending n) ≡ count_by (writes_page x) (m.pending t.node.0) = ap (λ k. count_by (writes_page x) (m.pending k)) same in
    omega (arith, both, all))
    (λ other. omega arith)) in
    omega (arith, old, less)

-- what is taken back needs no room any more
pub tops_back : (t : TxnId) (m : Machine) (d : Deed) (w : Write) → newest_of m t ≡ Some d → d.write ≡ Some w → 1 ≤ t.node.0 → t.node.0 ≤ m.shape.nodes → AreBelowTop m → AreBelowTop (taken_back t (Some w) m)
tops_back t m d w is write up low was = λ x from to. by x from to (cases_eq x w.page)
  where
    it : IsNewest t.seat (m.pending t.node.0) d
    it = newest_is t.seat (m.pending t.node.0) d is

    f : ℕ → ℕ → ℕ
    f x n = count_by (writes_page x) (put t.node.0 (without_newest t.seat (m.pending t.node.0)) m.pending n)

    g : ℕ → ℕ → ℕ
    g x n = count_by (writes_page x) (m.pending n)

    here : (x : ℕ) → f x t.node.0 + cond (writes_page x d) 1 0 ≡ g x t.node.0
    here x = rw (put_same t.node.0 (without_newest t.seat (m.pending t.node.0)) m.pending t.node.0 refl) (count_rest t.seat (writes_page x) (m.pending t.node.0) d it)

    others : (x i : ℕ) → i ≢ t.node.0 → f x i ≡ g x i
    others x i apart = ap (count_by (writes_page x)) (put_other t.node.0 (without_newest t.seat (m.pending t.node.0)) m.pending i apart)

    by : (x : ℕ) → m.shape.maps ≤ x → x < page_count m.shape → (x ≡ w.page) ⊎ (x ≢ w.page) → put w.page (m.ident w.page + 1) m.ident x + open_writes (taken_back t (Some w) m) x ≤ 2 ^ 63 + 2 ^ 40
    by x from to (inl same) =
        let its : writes_page x d ≡ true = rw write (eq-eqb w.page x (sym same)) in
        let less : f x t.node.0 + 1 ≡ g x t.node.0 = subst (λ b. f x t.node.0 + cond b 1 0 ≡ g x t.node.0) its (here x) in
        let sums = sum_less (f x) (g x) t.node.0 1 m.shape.nodes (others x) less up (omega (arith, low)) in
        let old = was x from to in
        let ident : m.ident w.page ≡ m.ident x = ap m.ident (sym same) in
        rw (put_same w.page (m.ident w.page + 1) m.ident x same) (omega (arith, sums, old, ident))
    by x from to (inr apart) =
        let not : (w.page == x) ≡ false = grind (arith, nat_tests) in
        let its : writes_page x d ≡ false = rw write not in
        let sums = sum_same (f x) (g x) 1 m.shape.nodes (λ i _. elim (cases_eq i t.node.0) [
          | inl node ↦ let same : f x t.node.0 + 0 ≡ g x t.node.0 = subst (λ b. f x t.node.0 + cond b 1 0 ≡ g x t.node.0) its (here x) in subst (λ i. f x i ≡ g x i) (sym node) (omega (arith, same))
          | inr off ↦ others x i off
        ]) in
        let old = was x from to in
        rw (put_other w.page (m.ident w.page + 1) m.ident x apart) (omega (arith, sums, old))
