-- What the open transactions of a log owe, summed over them, is no more than their deeds.
use Rattle.std.proofs.Common.{◌≡◌, ◌⊎◌, inl, inr, ◌==◌, ◌+◌, ◌<◌, ◌≤◌, ℕ, zero, suc, Bool, true, false, cond, ltb, List, [], ◌∷◌, filter, is_none, is_some, map, length, reverse, refl, ap, sym, subst, ◌∙◌, arith, Option, Some, None, eqb-true, lt-ltb, le-ltb}
use Rattle.std.proofs.lemmas.List.{length-map, length-reverse}
use Rattle.std.proofs.lemmas.Bool.{cases_lt}
use Rattle.record_machine.specs.Machine.{Deed, Machine, deeds_of, owed}
use Rattle.recovery_theory.specs.Effect.{OpenUpdate, left_of}
use Rattle.recovery_theory.specs.Rules.{debt_of, debts, numbers}
use Rattle.record_machine.specs.RecoverableParts.{OwedByDeeds}

-- two kinds of deeds that have none in common, and are both of a third kind
both_within : (a b c : Deed → Bool) (ds : List Deed) → ((d : Deed) → a d ≡ true → (c d ≡ true) × (b d ≡ false)) → ((d : Deed) → b d ≡ true → c d ≡ true) → length (filter a ds) + length (filter b ds) ≤ length (filter c ds)
both_within a b c [] ha hb = omega arith
both_within a b c (d ∷ ds) ha hb = go (a d) refl (b d) refl (c d) refl (both_within a b c ds ha hb)
  where
    go : (x : Bool) → a d ≡ x → (y : Bool) → b d ≡ y → (z : Bool) → c d ≡ z → length (filter a ds) + length (filter b ds) ≤ length (filter c ds)
        → length (cond x (d ∷ filter a ds) (filter a ds)) + length (cond y (d ∷ filter b ds) (filter b ds)) ≤ length (cond z (d ∷ filter c ds) (filter c ds))
    go true x true y z w h = let never : true ≡ false = sym y ∙ (ha d x).1 in absurd cc
    go true x false y true w h = omega arith
    go true x false y false w h = let never : false ≡ true = sym w ∙ (ha d x).0 in absurd cc
    go false x true y true w h = omega arith
    go false x true y false w h = let never : false ≡ true = sym w ∙ hb d y in absurd cc
    go false x false y true w h = omega arith
    go false x false y false w h = omega arith

-- a number for each transaction, none for one without a seat
pub seated : (begun : ℕ → ℕ) (ds : List Deed) (debt : ℕ → ℕ) → ((t : ℕ) → (debt t ≡ 0) ⊎ ((s : ℕ) × (begun s ≡ t) × (debt t ≤ length (filter (λ d. d.seat == s) ds))))
    → (total : ℕ → ℕ) → total 0 ≡ 0 → ((t : ℕ) → total (suc t) ≡ debt t + total t) → (k : ℕ) → total k ≤ length (filter (λ d. ltb (begun d.seat) k) ds)
seated begun ds debt each total none more zero = rw none (omega arith)
seated begun ds debt each total none more (suc t) = go (each t) (seated begun ds debt each total none more t)
  where
    wider : (d : Deed) → ltb (begun d.seat) t ≡ true → ltb (begun d.seat) (suc t) ≡ true
    wider d h = below (cases_lt (begun d.seat) t)
      where
        below : (begun d.seat < t) ⊎ (t ≤ begun d.seat) → ltb (begun d.seat) (suc t) ≡ true
        below (inl lt) = lt-ltb (begun d.seat) (suc t) (omega arith)
        below (inr ge) = let never : true ≡ false = sym h ∙ le-ltb (begun d.seat) t ge in absurd cc

    go : (debt t ≡ 0) ⊎ ((s : ℕ) × (begun s ≡ t) × (debt t ≤ length (filter (λ d. d.seat == s) ds))) → total t ≤ length (filter (λ d. ltb (begun d.seat) t) ds) → total (suc t) ≤ length (filter (λ d. ltb (begun d.seat) (suc t)) ds)
    go (inl z) h =
        let w = both_within (λ d. false) (λ d. ltb (begun d.seat) t) (λ d. ltb (begun d.seat) (suc t)) ds (λ d e. absurd cc) wider in
        omega (arith, more t)
    go (inr (s, is, le)) h =
        let w = both_within (λ d. d.seat == s) (λ d. ltb (begun d.seat) t) (λ d. ltb (begun d.seat) (suc t)) ds (λ d e. own d e) wider in
        omega (arith, more t)
      where
        own : (d : Deed) → (d.seat == s) ≡ true → (ltb (begun d.seat) (suc t) ≡ true) × (ltb (begun d.seat) t ≡ false)
        own d e =
            let q : begun d.seat ≡ t = ap begun (eqb-true d.seat s e) ∙ is in
            (lt-ltb (begun d.seat) (suc t) (omega arith), le-ltb (begun d.seat) t (omega arith))

parts_of : (ds : List Deed) → length ds ≡ length (filter (λ (d : Deed). is_none d.write) ds) + length (filter (λ (d : Deed). is_some d.write) ds)
parts_of [] = refl
parts_of (d ∷ ds) = go d.write (parts_of ds)
  where
    go : (w : Option Rattle.record_machine.specs.Machine.Write) → length ds ≡ length (filter (λ (d : Deed). is_none d.write) ds) + length (filter (λ (d : Deed). is_some d.write) ds)
        → suc (length ds) ≡ length (cond (is_none w) (d ∷ filter (λ (d : Deed). is_none d.write) ds) (filter (λ (d : Deed). is_none d.write) ds)) + length (cond (is_some w) (d ∷ filter (λ (d : Deed). is_some d.write) ds) (filter (λ (d : Deed). is_some d.write) ds))
    go None h = omega arith
    go (Some w) h = omega arith

numbers_length : (us : List OpenUpdate) → length (numbers us) ≡ length us
numbers_length [] = refl
numbers_length (u ∷ us) = ap suc (numbers_length us)

pub some_are : (a : Deed → Bool) (ds : List Deed) → length (filter a ds) ≤ length ds
some_are a [] = omega arith
some_are a (d ∷ ds) = go (a d) (some_are a ds)
  where
    go : (b : Bool) → length (filter a ds) ≤ length ds → length (cond b (d ∷ filter a ds) (filter a ds)) ≤ suc (length ds)
    go true h = omega arith
    go false h = omega arith

pub owed_by_deeds : OwedByDeeds
owed_by_deeds dirty h p m n r =
    let all = seated (r.begun n) (m.pending n) (λ t. debt_of (left_of t (h.devices.first n) (h.live n) None)) each (λ k. debts k (h.devices.first n) (h.live n)) refl (λ t. refl) (h.devices.first n + length (h.live n)) in
    let some = some_are (λ d. ltb (r.begun n d.seat) (h.devices.first n + length (h.live n))) (m.pending n) in
    omega arith
  where
    each : (t : ℕ) → (debt_of (left_of t (h.devices.first n) (h.live n) None) ≡ 0) ⊎ ((s : ℕ) × (r.begun n s ≡ t) × (debt_of (left_of t (h.devices.first n) (h.live n) None) ≤ length (filter (λ (d : Deed). d.seat == s) (m.pending n))))
    each t = by (left_of t (h.devices.first n) (h.live n) None) refl
      where
        by : (o : Option (List OpenUpdate)) → left_of t (h.devices.first n) (h.live n) None ≡ o → (debt_of o ≡ 0) ⊎ ((s : ℕ) × (r.begun n s ≡ t) × (debt_of o ≤ length (filter (λ (d : Deed). d.seat == s) (m.pending n))))
        by None e = inl refl
        by (Some us) e =
            let z = r.opens n t us e in
            let q = r.seats z.who z.busy in
            let same : Some q.left ≡ Some us = sym q.going ∙ (ap (λ b. left_of b (h.devices.first z.who.node.0) (h.live z.who.node.0) None) z.begins ∙ (ap (λ k. left_of t (h.devices.first k) (h.live k) None) z.node ∙ e)) in
            let left_is : q.left ≡ us = cc in
            let one : length (filter (λ (d : Deed). is_none d.write) (deeds_of m z.who)) ≡ 1 = ap (λ (l : List Deed). length l) q.begins in
            let writes : length (map (λ (d : Deed). d.number) (filter (λ (d : Deed). is_some d.write) (deeds_of m z.who))) ≡ length (reverse (numbers q.left)) = ap (λ (l : List ℕ). length l) q.writes in
            let many : length (filter (λ (d : Deed). is_some d.write) (deeds_of m z.who)) ≡ length us =
            sym (length-map (filter (λ (d : Deed). is_some d.write) (deeds_of m z.who)) (λ (d : Deed). d.number)) ∙ (writes ∙ (length-reverse (numbers q.left) ∙ (numbers_length q.left ∙ ap (λ (l : List OpenUpdate). length l) left_is))) in
            let whole = parts_of (deeds_of m z.who) in
            let count : suc (length us) ≤ length (deeds_of m z.who) = omega arith in
            inr (z.who.seat, ap (λ k. r.begun k z.who.seat) (sym z.node) ∙ z.begins, subst (λ k. suc (length us) ≤ length (filter (λ (d : Deed). d.seat == z.who.seat) (m.pending k))) z.node count)
