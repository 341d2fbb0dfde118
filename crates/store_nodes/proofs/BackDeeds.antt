-- What is left of a seat's deeds after its newest write was taken back.
use Rattle.std.specs.Prelude.{◌≡◌, ◌==◌, ◌⊎◌, ◌+◌, ◌++◌, ◌∷◌, [], ℕ, Bool, true, false, List, Some, filter, is_some, length, map, reverse, refl}
use Rattle.std.specs.List.{list_any}
use Rattle.std.proofs.Common.{arith, inl, inr, ap, sym, ◌∙◌}
use Rattle.std.proofs.lemmas.List.{length-append, length-map, map-append, reverse-append, reverse-reverse}
use Rattle.std.proofs.lemmas.List.Elements.{filter-append}
use Rattle.std.proofs.lemmas.List.Sums.{count_by-le-length, fold-append, length-filter}
use Rattle.std.proofs.lemmas.Bool.{eq-eqb}
use Rattle.sd_base.specs.declared.names.TxnId.{TxnId}
use Rattle.record_machine.specs.Machine.{Deed, Machine, Write, is_write_in, newest_of, overlaid, seen, without_newest, written}
use Rattle.record_machine.proofs.Deeds.{overlaid_not, written_is}
use Rattle.record_machine.proofs.Newest.{IsNewest, newest_is, no_keys, own_seat, some_write}
use Rattle.store_nodes.specs.Shows.{deeds_in}

-- ---- what it had left

-- the transaction saw what it wrote last
pub newest_seen : (m : Machine) (t : TxnId) (d : Deed) (w : Write) → newest_of m t ≡ Some d → d.write ≡ Some w → seen m t w.key ≡ w.value
newest_seen m t d w is write =
    let it = newest_is t.seat (m.pending t.node.0) d is in
    let old = m.records w.key in
    ap (overlaid t.seat w.key old) it.whole
    ∙ fold-append (written t.seat w.key) old it.before (d ∷ it.behind)
    ∙ overlaid_not t.seat w.key (written t.seat w.key (overlaid t.seat w.key old it.before) d) it.behind (no_keys t.seat w.key it.behind it.last)
    ∙ written_is t.seat w.key (overlaid t.seat w.key old it.before) d w (own_seat t.seat d it.write) write refl

-- ---- the deeds of its seat

abbrev wrote : Deed → Bool
wrote d = is_some d.write

abbrev number_of : Deed → ℕ
number_of d = d.number

-- those behind it are no writes
none_behind : (seat : ℕ) (ds : List Deed) → list_any (is_write_in seat) ds ≡ false → filter wrote (deeds_in seat ds) ≡ []
none_behind seat [] none = refl
none_behind seat (d ∷ ds) none = by (d.seat == seat) (is_some d.write) refl refl none (none_behind seat ds)
  where
    by : (a b : Bool) → (d.seat == seat) ≡ a → is_some d.write ≡ b → list_any (is_write_in seat) (d ∷ ds) ≡ false → (list_any (is_write_in seat) ds ≡ false → filter wrote (deeds_in seat ds) ≡ []) → filter wrote (deeds_in seat (d ∷ ds)) ≡ []
    by true true own some none rest = let never : true ≡ false = sym (rw (own, some) refl) ∙ none in cc
    by true false own some none rest = let behind : list_any (is_write_in seat) ds ≡ false = sym (rw (own, some) refl) ∙ none in rw own (rw some (rest behind))
    by false b own some none rest = let behind : list_any (is_write_in seat) ds ≡ false = sym (rw own refl) ∙ none in rw own (rest behind)

-- A list of deeds begins with one that has this number, and the others have the numbers of those that write: then nothing
-- stands behind the last write, unless that number is a write's.
pub nothing_behind : (front behind : List Deed) (d : Deed) (begin : ℕ) → map number_of (front ++ d ∷ behind) ≡ begin ∷ map number_of (filter wrote (front ++ d ∷ behind)) → filter wrote behind ≡ [] → wrote d ≡ true
    → (behind ≡ []) ⊎ ((rest : List ℕ) × (map number_of (filter wrote (front ++ d ∷ behind)) ≡ begin ∷ rest))
nothing_behind front [] d begin numbers none is = inl refl
nothing_behind front (e ∷ behind) d begin numbers none is = inr (of_front front numbers)
  where
    writes : (ds : List Deed) → filter wrote (ds ++ d ∷ e ∷ behind) ≡ filter wrote ds ++ d ∷ []
    writes ds = filter-append wrote ds (d ∷ e ∷ behind) ∙ ap (λ es. filter wrote ds ++ es) (rw is (ap (λ es. d ∷ es) none))

    of_front : (ds : List Deed) → map number_of (ds ++ d ∷ e ∷ behind) ≡ begin ∷ map number_of (filter wrote (ds ++ d ∷ e ∷ behind)) → (rest : List ℕ) × (map number_of (filter wrote (ds ++ d ∷ e ∷ behind)) ≡ begin ∷ rest)
    of_front [] are = let head : d.number ≡ begin = cc in ([], ap (map number_of) (writes []) ∙ ap (λ n. n ∷ []) head)
    of_front (a ∷ ds) are = by (is_some a.write) refl
      where
        head : a.number ≡ begin
        head = cc

        by : (b : Bool) → is_some a.write ≡ b → (rest : List ℕ) × (map number_of (filter wrote ((a ∷ ds) ++ d ∷ e ∷ behind)) ≡ begin ∷ rest)
        by true some = (map number_of (filter wrote (ds ++ d ∷ e ∷ behind)), rw some (ap (λ n. n ∷ map number_of (filter wrote (ds ++ d ∷ e ∷ behind))) head))
        by false some =
            let count = ap length are in
            let whole = length-map (ds ++ d ∷ e ∷ behind) number_of in
            let long = length-append ds (d ∷ e ∷ behind) in
            let some_of = length-map (filter wrote ((a ∷ ds) ++ d ∷ e ∷ behind)) number_of in
            let less : length (filter wrote ((a ∷ ds) ++ d ∷ e ∷ behind)) ≡ length (filter wrote ds) + 1 = ap length (rw some (writes ds)) ∙ length-append (filter wrote ds) (d ∷ []) in
            let few = length-filter wrote ds in
            let most = count_by-le-length wrote ds in
            absurd (omega (arith, count, whole, long, some_of, less, few, most))

-- the numbers of the seat's deeds without it
pub deeds_back : (seat begin : ℕ) (left : List ℕ) (ds : List Deed) (d : Deed) → IsNewest seat ds d → map number_of (deeds_in seat ds) ≡ begin ∷ reverse left → reverse (map number_of (filter wrote (deeds_in seat ds))) ≡ left → ((earlier : List ℕ) → left ≡ earlier ++ begin ∷ [] → ⊥)
    → (rest : List ℕ) × (left ≡ d.number ∷ rest) × (map number_of (deeds_in seat (without_newest seat ds)) ≡ begin ∷ reverse rest)
deeds_back seat begin left ds d it numbers writes never = elim (nothing_behind (deeds_in seat it.before) (deeds_in seat it.behind) d begin all (none_behind seat it.behind it.last) (some_write seat d it.write)) [
  | inl none ↦
      let front : deeds_in seat (without_newest seat ds) ≡ deeds_in seat it.before = ap (deeds_in seat) it.rest ∙ filter-append (λ e. e.seat == seat) it.before it.behind ∙ ap (λ es. deeds_in seat it.before ++ es) none ∙ append-none (deeds_in seat it.before) in
      let parts : deeds_in seat ds ≡ deeds_in seat it.before ++ d ∷ [] = whole ∙ ap (λ es. deeds_in seat it.before ++ d ∷ es) none in
      let back : left ≡ d.number ∷ reverse (map number_of (filter wrote (deeds_in seat it.before))) =
      sym writes ∙ ap (λ es. reverse (map number_of (filter wrote es))) parts
      ∙ ap (λ es. reverse (map number_of es)) (filter-append wrote (deeds_in seat it.before) (d ∷ []) ∙ ap (λ es. filter wrote (deeds_in seat it.before) ++ es) (rw (some_write seat d it.write) refl))
      ∙ ap reverse (map-append number_of (filter wrote (deeds_in seat it.before)) (d ∷ []))
      ∙ reverse-append (map number_of (filter wrote (deeds_in seat it.before))) (d.number ∷ []) in
      let rest = reverse (map number_of (filter wrote (deeds_in seat it.before))) in
      let was : map number_of (deeds_in seat it.before) ++ d.number ∷ [] ≡ (begin ∷ reverse rest) ++ d.number ∷ [] =
      sym (ap (map number_of) parts ∙ map-append number_of (deeds_in seat it.before) (d ∷ [])) ∙ numbers ∙ ap (λ es. begin ∷ reverse es) back ∙ ap (λ es. begin ∷ es) (reverse-append (d.number ∷ []) rest) in
      (rest, back, ap (map number_of) front ∙ same_front (map number_of (deeds_in seat it.before)) (begin ∷ reverse rest) d.number was)
  | inr some ↦
      let first : map number_of (filter wrote (deeds_in seat ds)) ≡ begin ∷ some.0 = ap (λ es. map number_of (filter wrote es)) whole ∙ some.1 in
      absurd (never (reverse some.0) (sym writes ∙ ap reverse first ∙ reverse-append (begin ∷ []) some.0))
]
  where
    append-none : {X : Type 0} (xs : List X) → xs ++ [] ≡ xs
    append-none [] = refl
    append-none (x ∷ xs) = ap (λ es. x ∷ es) (append-none xs)

    same_front : (xs ys : List ℕ) (n : ℕ) → xs ++ n ∷ [] ≡ ys ++ n ∷ [] → xs ≡ ys
    same_front xs ys n same =
        let back : n ∷ reverse xs ≡ n ∷ reverse ys = sym (reverse-append xs (n ∷ [])) ∙ ap reverse same ∙ reverse-append ys (n ∷ []) in
        let tails : reverse xs ≡ reverse ys = cc in
        sym (reverse-reverse xs) ∙ ap reverse tails ∙ reverse-reverse ys

    whole : deeds_in seat ds ≡ deeds_in seat it.before ++ d ∷ deeds_in seat it.behind
    whole = ap (deeds_in seat) it.whole ∙ filter-append (λ e. e.seat == seat) it.before (d ∷ it.behind) ∙ ap (λ es. deeds_in seat it.before ++ es) (rw (eq-eqb d.seat seat (own_seat seat d it.write)) refl)

    all : map number_of (deeds_in seat it.before ++ d ∷ deeds_in seat it.behind) ≡ begin ∷ map number_of (filter wrote (deeds_in seat it.before ++ d ∷ deeds_in seat it.behind))
    all = ap (map number_of) (sym whole) ∙ numbers ∙ ap (λ es. begin ∷ es) (ap reverse (sym writes) ∙ reverse-reverse (map number_of (filter wrote (deeds_in seat ds)))) ∙ ap (λ es. begin ∷ map number_of (filter wrote es)) whole
