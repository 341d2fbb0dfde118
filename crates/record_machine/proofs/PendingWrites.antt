-- The updates of a page that are left are no more than the writes of it that the machine has.
use Rattle.std.proofs.Common.{◌≡◌, ◌⊎◌, inl, inr, ◌==◌, ◌+◌, ◌≤◌, ℕ, suc, Bool, true, false, cond, eqb, ltb, List, [], ◌∷◌, filter, is_some, IfSome, map, length, reverse, refl, ap, sym, subst, ◌∙◌, arith, Option, Some, None, length-append, zero, ◌<◌, ◌*◌, ◌^◌}
use Rattle.std.specs.List.{count_by, range_with_len, sum_by}
use Rattle.std.proofs.lemmas.Bool.{cases_lt}
use Rattle.std.proofs.lemmas.List.Sums.{sum_by-cons}
use Rattle.sd_base.specs.declared.shape.Shape.{Shape}
use Rattle.std.proofs.lemmas.List.{reverse-append}
use Rattle.std.proofs.lemmas.List.Elements.{filter-append}
use Rattle.std.proofs.lemmas.List.Recursion.{is_count_by}
use Rattle.log_record.specs.declared.record.LogRecord.{LogRecord}
use Rattle.log_record.specs.declared.record.LogRecord.TheVariants.{Begin, Set, Append, Commit, Abort, Restore, Cut, MapUse, MapFree}
use Rattle.compensation.specs.Finding.{record_at}
use Rattle.sd_base.specs.Shape.{page_count}
use Rattle.record_machine.specs.Machine.{open_writes, Deed, Write, writes_page}
use Rattle.record_machine.specs.Meaning.{IsLogged, Means, Plain, Tells, after, first_record}
use Rattle.record_machine.specs.Meaning as meaning
use Rattle.recovery_theory.specs.History.{image_now}
use Rattle.recovery_theory.specs.Effect.{Effect, OpenUpdate, effect_of, left_of}
use Rattle.recovery_theory.specs.Effect.Effect.{Begun, Updated, Ended, Compensated, Mapped}
use Rattle.space_map.specs.PageImage.{ident_of}
use Rattle.recovery_theory.specs.Rules.{AreLogged, numbers}
use Rattle.recovery_theory.specs.Headroom.{pending_on, all_pending, count_on, pending_of}
use Rattle.recovery_theory.specs.Rules.{total}
use Rattle.recovery_theory.proofs.OwedRecords.{left_is_logged}
use Rattle.record_machine.specs.RecoverableParts.{PendingByWrites, HeadroomOfMachine}
use Rattle.record_machine.proofs.OwedDeeds.{seated, some_are}

-- the record with this number updates the page
abbrev updates : ℕ → Effect → Bool
updates x Begun = false
updates x (Updated txn page bsi op back) = page == x
updates x (Ended txn) = false
updates x (Compensated txn next page bsi op) = false
updates x (Mapped page bsi op) = false

abbrev is_on : ℕ → Option LogRecord → Bool
is_on x None = false
is_on x (Some rec) = updates x (effect_of rec)

abbrev on_page : ℕ → ℕ → List LogRecord → ℕ → Bool
on_page x first recs k = is_on x (record_at first recs k)

counted : (x first : ℕ) (recs : List LogRecord) (t : ℕ) (us : List OpenUpdate) → AreLogged first recs t us → count_on x us ≡ length (filter (on_page x first recs) (numbers us))
counted x first recs t [] h = refl
counted x first recs t (u ∷ us) h = rw (h.0.2, h.0.3) (go (eqb u.page x) (counted x first recs t us h.1))
  where
    go : (b : Bool) → count_on x us ≡ length (filter (on_page x first recs) (numbers us)) → cond b (suc (count_on x us)) (count_on x us) ≡ length (cond b (u.number ∷ filter (on_page x first recs) (numbers us)) (filter (on_page x first recs) (numbers us)))
    go true e = ap suc e
    go false e = e

-- the page of a write is that of its record
abbrev IsTied : ℕ → ℕ → List LogRecord → Deed → Type 0
IsTied x first recs d = IfSome d.write (λ w. on_page x first recs d.number ≡ (w.page == x))

told_page : (x : ℕ) (rec : LogRecord) (w : Write) (v : Option (List ℕ)) → Tells rec w v → updates x (effect_of rec) ≡ (w.page == x)
told_page x Begin w v t = absurd t
told_page x (Set txn prev page bsi slot before value) w v t = ap (λ k. eqb k x) t.0
told_page x (Append txn prev page bsi slot present len bytes) w v t = ap (λ k. eqb k x) t.0
told_page x (Commit txn prev) w v t = absurd t
told_page x (Abort txn prev) w v t = absurd t
told_page x (Restore txn prev next page bsi slot value) w v t = absurd t
told_page x (Cut txn prev next page bsi slot present len) w v t = absurd t
told_page x (MapUse page bsi place group) w v t = absurd t
told_page x (MapFree page bsi place group ident) w v t = absurd t

abbrev TiedAll : ℕ → ℕ → List LogRecord → List Deed → Type 0
TiedAll x first recs [] = Rattle.std.specs.Prelude.⊤
TiedAll x first recs (d ∷ ds) = IsTied x first recs d × TiedAll x first recs ds

tied : (x first : ℕ) (recs : List LogRecord) (value : ℕ → ℕ → Option (List ℕ)) (ds : List Deed) → meaning.AreLogged first recs value ds → TiedAll x first recs ds
tied x first recs value [] h = tt
tied x first recs value (e ∷ ds) h = (go e.write h.0.wrote, tied x first recs (after e value) ds h.1)
  where
    go : (w : Option Write) → IfSome w (λ w. Tells h.0.rec w (value e.seat w.key)) → IfSome w (λ w. on_page x first recs e.number ≡ (w.page == x))
    go None t = tt
    go (Some w) t = ap (is_on x) h.0.there ∙ told_page x h.0.rec w (value e.seat w.key) t

tied_some : (x first : ℕ) (recs : List LogRecord) (a : Deed → Bool) (ds : List Deed) → TiedAll x first recs ds → TiedAll x first recs (filter a ds)
tied_some x first recs a [] h = tt
tied_some x first recs a (d ∷ ds) h = go (a d) (tied_some x first recs a ds h.1)
  where
    go : (b : Bool) → TiedAll x first recs (filter a ds) → TiedAll x first recs (cond b (d ∷ filter a ds) (filter a ds))
    go true r = (h.0, r)
    go false r = r

abbrev named : List Deed → List ℕ
named ds = map (λ (d : Deed). d.number) (filter (λ (d : Deed). is_some d.write) ds)

written : (x first : ℕ) (recs : List LogRecord) (ds : List Deed) → TiedAll x first recs ds → length (filter (writes_page x) ds) ≡ length (filter (on_page x first recs) (named ds))
written x first recs [] h = refl
written x first recs (d ∷ ds) h = go d.write h.0 (written x first recs ds h.1)
  where
    go : (w : Option Write) → IfSome w (λ w. on_page x first recs d.number ≡ (w.page == x)) → length (filter (writes_page x) ds) ≡ length (filter (on_page x first recs) (named ds))
        → length (cond (writes_page x (record { number = d.number; seat = d.seat; write = w })) (d ∷ filter (writes_page x) ds) (filter (writes_page x) ds))
        ≡ length (filter (on_page x first recs) (map (λ (d : Deed). d.number) (cond (is_some w) (d ∷ filter (λ (d : Deed). is_some d.write) ds) (filter (λ (d : Deed). is_some d.write) ds))))
    go None t e = e
    go (Some w) t e = rw t (here (w.page == x) e)
      where
        here : (b : Bool) → length (filter (writes_page x) ds) ≡ length (filter (on_page x first recs) (named ds)) → length (cond b (d ∷ filter (writes_page x) ds) (filter (writes_page x) ds)) ≡ length (cond b (d.number ∷ filter (on_page x first recs) (named ds)) (filter (on_page x first recs) (named ds)))
        here true e = ap suc e
        here false e = e

-- ---- lists

turned : (a : ℕ → Bool) (l : List ℕ) → length (filter a (reverse l)) ≡ length (filter a l)
turned a [] = refl
turned a (k ∷ l) = ap (λ z. length (filter a z)) (reverse-append (k ∷ []) l) ∙ (ap (λ (z : List ℕ). length z) (filter-append a (reverse l) (k ∷ [])) ∙ (length-append (filter a (reverse l)) (filter a (k ∷ [])) ∙ go (a k) (turned a l)))
  where
    go : (b : Bool) → length (filter a (reverse l)) ≡ length (filter a l) → length (filter a (reverse l)) + length (cond b (k ∷ []) []) ≡ length (cond b (k ∷ filter a l) (filter a l))
    go true e = omega (arith, e)
    go false e = omega (arith, e)

swapped : (a b : Deed → Bool) (ds : List Deed) → filter a (filter b ds) ≡ filter b (filter a ds)
swapped a b [] = refl
swapped a b (d ∷ ds) = go (a d) refl (b d) refl (swapped a b ds)
  where
    go : (v : Bool) → a d ≡ v → (w : Bool) → b d ≡ w → filter a (filter b ds) ≡ filter b (filter a ds) → filter a (cond w (d ∷ filter b ds) (filter b ds)) ≡ filter b (cond v (d ∷ filter a ds) (filter a ds))
    go true x true y e = rw (x, y) (ap (λ l. d ∷ l) e)
    go true x false y e = rw y e
    go false x true y e = rw x e
    go false x false y e = e

count_is : (a : Deed → Bool) (ds : List Deed) → length (filter a ds) ≡ count_by a ds
count_is a ds = is_count_by (λ l. length (filter a l)) a refl (λ d l. go d l (a d)) ds
  where
    go : (d : Deed) (l : List Deed) (b : Bool) → length (cond b (d ∷ filter a l) (filter a l)) ≡ cond b (1 + length (filter a l)) (length (filter a l))
    go d l true = omega arith
    go d l false = refl

-- ---- the sum

pub pending_by_writes : PendingByWrites
pending_by_writes dirty h p m x n r means =
    let all = seated (r.begun n) (filter (writes_page x) (m.pending n)) (λ t. pending_of x (left_of t (h.devices.first n) (h.live n) None)) each
    (λ k. total (λ t. pending_of x (left_of t (h.devices.first n) (h.live n) None)) k) refl (λ t. refl) (h.devices.first n + length (h.live n)) in
    let some = some_are (λ d. ltb (r.begun n d.seat) (h.devices.first n + length (h.live n))) (filter (writes_page x) (m.pending n)) in
    omega (arith, count_is (writes_page x) (m.pending n))
  where
    logged : TiedAll x (h.devices.first n) (h.live n) (m.pending n)
    logged = subst (λ l. TiedAll x (h.devices.first n) l (m.pending n)) (sym (r.live n)) (subst (λ f. TiedAll x f (p.live n) (m.pending n)) (sym (r.first n)) (tied x (first_record m n) (p.live n) (λ seat. m.records) (m.pending n) (means.logs.deeds n)))

    each : (t : ℕ) → (pending_of x (left_of t (h.devices.first n) (h.live n) None) ≡ 0)
        ⊎ ((s : ℕ) × (r.begun n s ≡ t) × (pending_of x (left_of t (h.devices.first n) (h.live n) None) ≤ length (filter (λ (d : Deed). d.seat == s) (filter (writes_page x) (m.pending n)))))
    each t = by (left_of t (h.devices.first n) (h.live n) None) refl
      where
        by : (o : Option (List OpenUpdate)) → left_of t (h.devices.first n) (h.live n) None ≡ o
            → (pending_of x o ≡ 0) ⊎ ((s : ℕ) × (r.begun n s ≡ t) × (pending_of x o ≤ length (filter (λ (d : Deed). d.seat == s) (filter (writes_page x) (m.pending n)))))
        by None e = inl refl
        by (Some us) e =
            let z = r.opens n t us e in
            let q = r.seats z.who z.busy in
            let same : Some q.left ≡ Some us = sym q.going ∙ (ap (λ b. left_of b (h.devices.first z.who.node.0) (h.live z.who.node.0) None) z.begins ∙ (ap (λ k. left_of t (h.devices.first k) (h.live k) None) z.node ∙ e)) in
            let left_is : q.left ≡ us = cc in
            let names : named (filter (λ (d : Deed). d.seat == z.who.seat) (m.pending n)) ≡ reverse (numbers us) =
            subst (λ k. named (filter (λ (d : Deed). d.seat == z.who.seat) (m.pending k)) ≡ reverse (numbers us)) z.node (q.writes ∙ ap (λ l. reverse (numbers l)) left_is) in
            let a = counted x (h.devices.first n) (h.live n) t us (left_is_logged (h.devices.first n) (h.live n) t us e) in
            let b = written x (h.devices.first n) (h.live n) (filter (λ (d : Deed). d.seat == z.who.seat) (m.pending n)) (tied_some x (h.devices.first n) (h.live n) (λ d. d.seat == z.who.seat) (m.pending n) logged) in
            let c : length (filter (on_page x (h.devices.first n) (h.live n)) (named (filter (λ (d : Deed). d.seat == z.who.seat) (m.pending n)))) ≡ length (filter (on_page x (h.devices.first n) (h.live n)) (numbers us)) =
            ap (λ l. length (filter (on_page x (h.devices.first n) (h.live n)) l)) names ∙ turned (on_page x (h.devices.first n) (h.live n)) (numbers us) in
            let s : length (filter (λ (d : Deed). d.seat == z.who.seat) (filter (writes_page x) (m.pending n))) ≡ length (filter (writes_page x) (filter (λ (d : Deed). d.seat == z.who.seat) (m.pending n))) =
            ap (λ (l : List Deed). length l) (swapped (λ (d : Deed). d.seat == z.who.seat) (writes_page x) (m.pending n)) in
            inr (z.who.seat, ap (λ k. r.begun k z.who.seat) (sym z.node) ∙ z.begins, omega (arith, a, b, c, s))

-- ---- all nodes

sum_end : (g : ℕ → ℕ) (a n : ℕ) → sum_by g (range_with_len a (suc n)) ≡ sum_by g (range_with_len a n) + g (a + n)
sum_end g a zero =
    let one = sum_by-cons g a [] in
    let e : g a ≡ g (a + 0) = ap g (omega arith) in
    omega arith
sum_end g a (suc n) =
    let one = sum_by-cons g a (range_with_len (a + 1) (suc n)) in
    let two = sum_by-cons g a (range_with_len (a + 1) n) in
    let rest = sum_end g (a + 1) n in
    let e : g (a + 1 + n) ≡ g (a + suc n) = ap g (omega arith) in
    omega arith

total_sum : (f g : ℕ → ℕ) → ((n : ℕ) → f (suc n) ≤ g (suc n)) → (k : ℕ) → total (λ n. f (suc n)) k ≤ sum_by g (range_with_len 1 k)
total_sum f g le zero = omega arith
total_sum f g le (suc k) =
    let rest = total_sum f g le k in
    let one = le k in
    let more = sum_end g 1 k in
    let e : g (1 + k) ≡ g (suc k) = ap g (omega arith) in
    omega arith

pub headroom_of_machine : HeadroomOfMachine
headroom_of_machine dirty h p m r means maps x lt =
    let low : x < page_count m.shape = subst (λ (s : Shape). x < 253 * s.maps) r.shape lt in
    let sum = total_sum (λ n. pending_on x (h.devices.first n) (h.live n)) (λ n. count_by (writes_page x) (m.pending n)) (λ n. pending_by_writes dirty h p m x (suc n) r means) m.shape.nodes in
    go low sum (cases_lt x m.shape.maps)
  where
    go : x < page_count m.shape → all_pending x h.devices.first h.live m.shape.nodes ≤ open_writes m x → (x < m.shape.maps) ⊎ (m.shape.maps ≤ x)
        → ident_of (image_now h x) + all_pending x h.devices.first h.live m.shape.nodes ≤ 2 ^ 63 + 2 ^ 40
    go low sum (inl map) =
        let i : ident_of (image_now h x) ≡ m.ident x = ap ident_of (r.maps x map) ∙ means.pages.map_ident x map in
        let top = maps x map in
        omega arith
    go low sum (inr page) =
        let i : ident_of (image_now h x) ≡ m.ident x = ap ident_of (r.pages x page low) ∙ means.pages.ident x page low in
        let top = means.tops x page low in
        omega arith
