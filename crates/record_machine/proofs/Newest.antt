-- The newest write of a seat, and the deeds without it.
use Rattle.std.specs.Prelude.{◌≡◌, ◌≢◌, ◌==◌, ◌&&◌, ◌||◌, ◌⊎◌, ◌+◌, ◌<◌, ◌++◌, ◌∷◌, [], ℕ, suc, Bool, true, false, cond, not, List, Option, Some, None, All, count_by, filter, is_some, length, refl}
use Rattle.std.specs.List.{list_any}
use Rattle.std.proofs.Common.{arith, inl, inr, ap, append-nil, subst, sym, ◌∙◌}
use Rattle.std.proofs.lemmas.Bool.{and_parts, cases_eq, eq-eqb, eqb-true, not-true, or_parts}
use Rattle.std.proofs.lemmas.List.{length-append}
use Rattle.std.proofs.lemmas.List.Elements.{All-cons, All-head, All-tail, filter-append}
use Rattle.std.proofs.lemmas.List.Folds.{list_any-append}
use Rattle.std.proofs.lemmas.List.Kept.{AllPairs-cons}
use Rattle.std.proofs.lemmas.List.Sums.{fold-append, sum_by-append, sum_by-cons}
use Rattle.log_record.specs.declared.record.LogRecord.{LogRecord}
use Rattle.record_machine.specs.Machine.{Deed, Write, is_newest_in, is_write_in, newest_in, overlaid, without_newest, written}
use Rattle.record_machine.specs.Meaning.{AreInOrder, AreLogged, IsLogged, after, writes_key}
use Rattle.record_machine.proofs.Deeds.{logged-same, not_seat, overlaid_not, writes_none, written_not}

-- where the newest write stands among the deeds
pub record IsNewest (seat : ℕ) (ds : List Deed) (d : Deed) : Type 0 where
  pub before : List Deed
  pub behind : List Deed
  pub whole : ds ≡ before ++ d ∷ behind
  pub rest : without_newest seat ds ≡ before ++ behind
  pub write : is_write_in seat d ≡ true
  pub last : list_any (is_write_in seat) behind ≡ false

-- ---- tests

alone : (a b : Bool) → (a && not b) ≡ false → b ≡ false → (a || b) ≡ false
alone true true first rest = cc
alone true false first rest = cc
alone false b first rest = rest

less : (a b c : Bool) → (a || c) ≡ true → (a || (b || c)) ≡ true
less true b c is = refl
less false true c is = refl
less false false c is = is

middle : (a b : Bool) → (a || (true || b)) ≡ true
middle true b = refl
middle false b = refl

-- ---- where it stands

pub newest_is : (seat : ℕ) (ds : List Deed) (d : Deed) → newest_in seat ds ≡ Some d → IsNewest seat ds d
newest_is seat [] d is = cc
newest_is seat (e ∷ es) d is = by (is_newest_in seat e es) refl is (newest_is seat es d)
  where
    by : (b : Bool) → is_newest_in seat e es ≡ b → cond b (Some e) (newest_in seat es) ≡ Some d → (newest_in seat es ≡ Some d → IsNewest seat es d) → IsNewest seat (e ∷ es) d
    by true it found ih =
        let same : e ≡ d = cc in
        let tests = and_parts (is_write_in seat e) (not (list_any (is_write_in seat) es)) it in
        record { before = []; behind = es; whole = ap (λ o. o ∷ es) same; rest = rw it refl; write = ap (is_write_in seat) (sym same) ∙ tests.0; last = not-true (list_any (is_write_in seat) es) tests.1 }
    by false it found ih =
        let more = ih found in
        record { before = e ∷ more.before; behind = more.behind; whole = ap (λ os. e ∷ os) more.whole; rest = rw it (ap (λ os. e ∷ os) more.rest); write = more.write; last = more.last }

-- where there is none, no deed is a write of the seat
pub none_newest : (seat : ℕ) (ds : List Deed) → newest_in seat ds ≡ None → list_any (is_write_in seat) ds ≡ false
none_newest seat [] none = refl
none_newest seat (d ∷ ds) none = by (is_newest_in seat d ds) refl none (none_newest seat ds)
  where
    by : (b : Bool) → is_newest_in seat d ds ≡ b → cond b (Some d) (newest_in seat ds) ≡ None → (newest_in seat ds ≡ None → list_any (is_write_in seat) ds ≡ false) → list_any (is_write_in seat) (d ∷ ds) ≡ false
    by true it none ih = cc
    by false it none ih = alone (is_write_in seat d) (list_any (is_write_in seat) ds) it (ih none)

pub own_seat : (seat : ℕ) (d : Deed) → is_write_in seat d ≡ true → d.seat ≡ seat
own_seat seat d write = eqb-true d.seat seat (and_parts (d.seat == seat) (is_some d.write) write).0

pub some_write : (seat : ℕ) (d : Deed) → is_write_in seat d ≡ true → is_some d.write ≡ true
some_write seat d write = (and_parts (d.seat == seat) (is_some d.write) write).1

-- ---- a seat that writes nothing

no_key : (seat key : ℕ) (d : Deed) → is_write_in seat d ≡ false → writes_key seat key d ≡ false
no_key seat key d not = by (d.seat == seat) refl d.write refl
  where
    by : (b : Bool) → (d.seat == seat) ≡ b → (o : Option Write) → d.write ≡ o → writes_key seat key d ≡ false
    by false is o write = rw is refl
    by true is None write = writes_none seat key d write
    by true is (Some w) write = let here : is_write_in seat d ≡ true = rw is (rw write refl) in let never : true ≡ false = sym here ∙ not in cc

pub no_keys : (seat key : ℕ) (ds : List Deed) → list_any (is_write_in seat) ds ≡ false → list_any (writes_key seat key) ds ≡ false
no_keys seat key [] none = refl
no_keys seat key (d ∷ ds) none =
    let parts = or_parts (is_write_in seat d) (list_any (is_write_in seat) ds) none in
    rw (no_key seat key d parts.0) (no_keys seat key ds parts.1)

pub no_writes : (seat : ℕ) (ds : List Deed) → list_any (is_write_in seat) ds ≡ false → filter (is_write_in seat) ds ≡ []
no_writes seat [] none = refl
no_writes seat (d ∷ ds) none =
    let parts = or_parts (is_write_in seat d) (list_any (is_write_in seat) ds) none in
    rw parts.0 (no_writes seat ds parts.1)

-- ---- what the seats see without it, and have written

-- of a key that it doesn't write, each sees what it saw
pub seen_rest : (seat other key : ℕ) (v : Option (List ℕ)) (ds : List Deed) (d : Deed) → IsNewest seat ds d → writes_key other key d ≡ false → overlaid other key v (without_newest seat ds) ≡ overlaid other key v ds
seen_rest seat other key v ds d it not =
    ap (overlaid other key v) it.rest ∙ fold-append (written other key) v it.before it.behind
    ∙ ap (λ o. overlaid other key o it.behind) (sym (written_not other key (overlaid other key v it.before) d not))
    ∙ sym (ap (overlaid other key v) it.whole ∙ fold-append (written other key) v it.before (d ∷ it.behind))

-- and the seat itself sees of each key what it saw before the write
pub seen_before : (seat key : ℕ) (v : Option (List ℕ)) (ds : List Deed) (d : Deed) (it : IsNewest seat ds d) → overlaid seat key v (without_newest seat ds) ≡ overlaid seat key v it.before
seen_before seat key v ds d it =
    ap (overlaid seat key v) it.rest ∙ fold-append (written seat key) v it.before it.behind
    ∙ overlaid_not seat key (overlaid seat key v it.before) it.behind (no_keys seat key it.behind it.last)

pub written_rest : (seat other key : ℕ) (ds : List Deed) (d : Deed) → IsNewest seat ds d → writes_key other key d ≡ false → list_any (writes_key other key) (without_newest seat ds) ≡ list_any (writes_key other key) ds
written_rest seat other key ds d it not =
    ap (list_any (writes_key other key)) it.rest ∙ list_any-append (writes_key other key) it.before it.behind
    ∙ ap (λ b. list_any (writes_key other key) it.before || (b || list_any (writes_key other key) it.behind)) (sym not)
    ∙ sym (ap (list_any (writes_key other key)) it.whole ∙ list_any-append (writes_key other key) it.before (d ∷ it.behind))

pub written_less : (seat other key : ℕ) (ds : List Deed) (d : Deed) → IsNewest seat ds d → list_any (writes_key other key) (without_newest seat ds) ≡ true → list_any (writes_key other key) ds ≡ true
written_less seat other key ds d it any =
    ap (list_any (writes_key other key)) it.whole ∙ list_any-append (writes_key other key) it.before (d ∷ it.behind)
    ∙ less (list_any (writes_key other key) it.before) (writes_key other key d) (list_any (writes_key other key) it.behind)
    (sym (ap (list_any (writes_key other key)) it.rest ∙ list_any-append (writes_key other key) it.before it.behind) ∙ any)

pub written_it : (seat : ℕ) (ds : List Deed) (d : Deed) (w : Write) → IsNewest seat ds d → d.write ≡ Some w → list_any (writes_key seat w.key) ds ≡ true
written_it seat ds d w it write =
    ap (list_any (writes_key seat w.key)) it.whole ∙ list_any-append (writes_key seat w.key) it.before (d ∷ it.behind)
    ∙ ap (λ b. list_any (writes_key seat w.key) it.before || (b || list_any (writes_key seat w.key) it.behind)) here
    ∙ middle (list_any (writes_key seat w.key) it.before) (list_any (writes_key seat w.key) it.behind)
  where
    here : writes_key seat w.key d ≡ true
    here = rw (eq-eqb d.seat seat (own_seat seat d it.write)) (rw write (eq-eqb w.key w.key refl))

-- ---- the lists

pub length_rest : (seat : ℕ) (ds : List Deed) (d : Deed) → IsNewest seat ds d → length ds ≡ length (without_newest seat ds) + 1
length_rest seat ds d it =
    let whole = ap length it.whole ∙ length-append it.before (d ∷ it.behind) in
    let rest = ap length it.rest ∙ length-append it.before it.behind in
    omega (arith, whole, rest)

-- the writes of the seat are those that are left, and it
pub writes_rest : (seat : ℕ) (ds : List Deed) (d : Deed) → IsNewest seat ds d → filter (is_write_in seat) ds ≡ filter (is_write_in seat) (without_newest seat ds) ++ d ∷ []
writes_rest seat ds d it =
    let none = no_writes seat it.behind it.last in
    let last : filter (is_write_in seat) (d ∷ it.behind) ≡ d ∷ [] = rw it.write (ap (λ os. d ∷ os) none) in
    let rest = ap (filter (is_write_in seat)) it.rest ∙ filter-append (is_write_in seat) it.before it.behind ∙ ap (λ os. filter (is_write_in seat) it.before ++ os) none ∙ append-nil (filter (is_write_in seat) it.before) in
    ap (filter (is_write_in seat)) it.whole ∙ filter-append (is_write_in seat) it.before (d ∷ it.behind) ∙ ap (λ os. filter (is_write_in seat) it.before ++ os) last ∙ ap (λ os. os ++ d ∷ []) (sym rest)

-- a test that it fails finds what it found
pub filter_rest : (seat : ℕ) (test : Deed → Bool) (ds : List Deed) (d : Deed) → IsNewest seat ds d → test d ≡ false → filter test (without_newest seat ds) ≡ filter test ds
filter_rest seat test ds d it not =
    ap (filter test) it.rest ∙ filter-append test it.before it.behind
    ∙ ap (λ os. filter test it.before ++ os) (let same : filter test (d ∷ it.behind) ≡ filter test it.behind = rw not refl in sym same)
    ∙ sym (ap (filter test) it.whole ∙ filter-append test it.before (d ∷ it.behind))

pub count_rest : (seat : ℕ) (test : Deed → Bool) (ds : List Deed) (d : Deed) → IsNewest seat ds d → count_by test (without_newest seat ds) + cond (test d) 1 0 ≡ count_by test ds
count_rest seat test ds d it =
    let f : Deed → ℕ = (λ x. cond (test x) 1 0) in
    let rest = ap (count_by test) it.rest ∙ sum_by-append f it.before it.behind in
    let whole = ap (count_by test) it.whole ∙ sum_by-append f it.before (d ∷ it.behind) in
    let first = sum_by-cons f d it.behind in
    omega (arith, rest, whole, first)

pub all_rest : (seat : ℕ) (P : Deed → Type 0) (ds : List Deed) (d : Deed) → IsNewest seat ds d → All P ds → All P (without_newest seat ds)
all_rest seat P ds d it all = subst (All P) (sym it.rest) (cut it.before (subst (All P) it.whole all))
  where
    cut : (es : List Deed) → All P (es ++ d ∷ it.behind) → All P (es ++ it.behind)
    cut [] all = All-tail P d it.behind all
    cut (e ∷ es) all = All-cons P e (es ++ it.behind) (All-head P e (es ++ d ∷ it.behind) all) (cut es (All-tail P e (es ++ d ∷ it.behind) all))

-- those that are left are in their order
pub ordered_rest : (seat : ℕ) (ds : List Deed) (d : Deed) → IsNewest seat ds d → AreInOrder ds → AreInOrder (without_newest seat ds)
ordered_rest seat ds d it rising = subst AreInOrder (sym it.rest) (cut it.before (subst AreInOrder it.whole rising))
  where
    tail : (e : Deed) (es : List Deed) → AreInOrder (e ∷ es) → AreInOrder es
    tail e es rising = λ i j x lt low. rising (suc i) (suc j) x (omega arith) (omega arith)

    cut : (es : List Deed) → AreInOrder (es ++ d ∷ it.behind) → AreInOrder (es ++ it.behind)
    cut [] rising = tail d it.behind rising
    cut (e ∷ es) rising = AllPairs-cons (λ a b. a.number < b.number) e (es ++ it.behind)
        (skip es (λ j x low. rising 0 (suc j) x (omega arith) (omega arith)))
        (cut es (tail e (es ++ d ∷ it.behind) rising))
      where
        skip : (fs : List Deed) → All (λ b. e.number < b.number) (fs ++ d ∷ it.behind) → All (λ b. e.number < b.number) (fs ++ it.behind)
        skip [] all = All-tail (λ b. e.number < b.number) d it.behind all
        skip (f ∷ fs) all = All-cons (λ b. e.number < b.number) f (fs ++ it.behind) (All-head (λ b. e.number < b.number) f (fs ++ d ∷ it.behind) all) (skip fs (All-tail (λ b. e.number < b.number) f (fs ++ d ∷ it.behind) all))

pub at_newest : (seat : ℕ) (P : Deed → Type 0) (ds : List Deed) (d : Deed) → IsNewest seat ds d → All P ds → P d
at_newest seat P ds d it all = cut it.before (subst (All P) it.whole all)
  where
    cut : (es : List Deed) → All P (es ++ d ∷ it.behind) → P d
    cut [] all = All-head P d it.behind all
    cut (e ∷ es) all = cut es (All-tail P e (es ++ d ∷ it.behind) all)

-- ---- the log

-- the deeds but for one stand in the log, where none behind it has written what it has
logged_cut : (first : ℕ) (recs : List LogRecord) (value : ℕ → ℕ → Option (List ℕ)) (es : List Deed) (d : Deed) (behind : List Deed) → AreLogged first recs value (es ++ d ∷ behind)
    → ((other key : ℕ) → list_any (writes_key other key) behind ≡ true → writes_key other key d ≡ false) → AreLogged first recs value (es ++ behind)
logged_cut first recs value [] d behind all apart = logged-same first recs (after d value) value behind all.1 (λ other key any. sym (written_not other key (value other key) d (apart other key any)))
logged_cut first recs value (e ∷ es) d behind all apart = (all.0, logged_cut first recs (after e value) es d behind all.1 apart)

pub logged_rest : (seat first : ℕ) (recs : List LogRecord) (value : ℕ → ℕ → Option (List ℕ)) (ds : List Deed) (d : Deed) → IsNewest seat ds d → AreLogged first recs value ds → AreLogged first recs value (without_newest seat ds)
logged_rest seat first recs value ds d it all = subst (AreLogged first recs value) (sym it.rest) (logged_cut first recs value it.before d it.behind (subst (AreLogged first recs value) it.whole all) (λ other key any. apart other key any (cases_eq other seat)))
  where
    apart : (other key : ℕ) → list_any (writes_key other key) it.behind ≡ true → (other ≡ seat) ⊎ (other ≢ seat) → writes_key other key d ≡ false
    apart other key any (inl same) = let never : true ≡ false = sym any ∙ ap (λ s. list_any (writes_key s key) it.behind) same ∙ no_keys seat key it.behind it.last in cc
    apart other key any (inr off) = not_seat d seat other key (eq-eqb d.seat seat (own_seat seat d it.write)) off

-- and that one stands there, where those before it have led
logged_here : (first : ℕ) (recs : List LogRecord) (value : ℕ → ℕ → Option (List ℕ)) (es : List Deed) (d : Deed) (behind : List Deed) → AreLogged first recs value (es ++ d ∷ behind) → IsLogged first recs (λ seat key. overlaid seat key (value seat key) es) d
logged_here first recs value [] d behind all = all.0
logged_here first recs value (e ∷ es) d behind all = logged_here first recs (after e value) es d behind all.1

pub logged_newest : (seat first : ℕ) (recs : List LogRecord) (value : ℕ → ℕ → Option (List ℕ)) (ds : List Deed) (d : Deed) (it : IsNewest seat ds d) → AreLogged first recs value ds → IsLogged first recs (λ other key. overlaid other key (value other key) it.before) d
logged_newest seat first recs value ds d it all = logged_here first recs value it.before d it.behind (subst (AreLogged first recs value) it.whole all)
