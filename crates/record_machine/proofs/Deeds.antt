-- What transactions see after one deed more, and after the deeds of one of them are gone.
use Rattle.std.specs.Prelude.{◌≡◌, ◌≢◌, ◌==◌, ◌||◌, ◌+◌, ◌<◌, ◌++◌, ◌∷◌, [], ℕ, Bool, true, false, not, List, Option, Some, None, All, IfSome, filter, length, refl}
use Rattle.std.specs.List.{list_any}
use Rattle.std.proofs.Common.{arith, ap, subst, sym, ◌∙◌}
use Rattle.std.proofs.lemmas.Bool.{eq-eqb}
use Rattle.std.proofs.lemmas.Bool.Decides.{nat_tests}
use Rattle.std.proofs.lemmas.List.Elements.{All-cons, All-nil}
use Rattle.std.proofs.lemmas.List.Folds.{list_any-append}
use Rattle.std.proofs.lemmas.List.Sums.{fold-append}
use Rattle.log_record.specs.declared.record.LogRecord.{LogRecord}
use Rattle.compensation.proofs.LogRecords.{below_end, record_at-push}
use Rattle.record_machine.specs.Machine.{Deed, Write, overlaid, written}
use Rattle.record_machine.specs.Meaning.{AreLogged, IsLogged, Tells, after, writes_key}

-- ---- one deed

-- a deed leaves what it doesn't write
pub written_not : (seat key : ℕ) (v : Option (List ℕ)) (d : Deed) → writes_key seat key d ≡ false → written seat key v d ≡ v
written_not seat key v d not = by (d.seat == seat) refl d.write refl not
  where
    by : (b : Bool) → (d.seat == seat) ≡ b → (o : Option Write) → d.write ≡ o → writes_key seat key d ≡ false → written seat key v d ≡ v
    by false is o write not = rw is refl
    by true is None write not = rw is (rw write refl)
    by true is (Some w) write not = let other : (w.key == key) ≡ false = cc in rw is (rw write (rw other refl))

-- and of what it writes it leaves that
pub written_is : (seat key : ℕ) (v : Option (List ℕ)) (d : Deed) (w : Write) → d.seat ≡ seat → d.write ≡ Some w → w.key ≡ key → written seat key v d ≡ w.value
written_is seat key v d w own write of = rw (eq-eqb d.seat seat own) (rw write (rw (eq-eqb w.key key of) refl))

-- a deed that writes nothing, or another key
pub writes_none : (seat key : ℕ) (d : Deed) → d.write ≡ None → writes_key seat key d ≡ false
writes_none seat key d none = by (d.seat == seat) refl
  where
    by : (b : Bool) → (d.seat == seat) ≡ b → writes_key seat key d ≡ false
    by true is = rw is (rw none refl)
    by false is = rw is refl

pub writes_other : (seat key : ℕ) (d : Deed) (w : Write) → d.write ≡ Some w → w.key ≢ key → writes_key seat key d ≡ false
writes_other seat key d w some other = by (d.seat == seat) refl
  where
    not : (w.key == key) ≡ false
    not = grind (arith, nat_tests)

    by : (b : Bool) → (d.seat == seat) ≡ b → writes_key seat key d ≡ false
    by true is = rw is (rw some (rw not refl))
    by false is = rw is refl

-- ---- a list of deeds

-- a seat that has written nothing of a key sees what it saw
pub overlaid_not : (seat key : ℕ) (v : Option (List ℕ)) (ds : List Deed) → list_any (writes_key seat key) ds ≡ false → overlaid seat key v ds ≡ v
overlaid_not seat key v [] not = refl
overlaid_not seat key v (d ∷ ds) not = by (writes_key seat key d) refl not (overlaid_not seat key v ds)
  where
    by : (b : Bool) → writes_key seat key d ≡ b → list_any (writes_key seat key) (d ∷ ds) ≡ false → (list_any (writes_key seat key) ds ≡ false → overlaid seat key v ds ≡ v) → overlaid seat key v (d ∷ ds) ≡ v
    by true is not ih = cc
    by false is not ih = ap (λ o. overlaid seat key o ds) (written_not seat key v d is) ∙ ih (let rest : list_any (writes_key seat key) ds ≡ false = cc in rest)

pub overlaid-push : (seat key : ℕ) (v : Option (List ℕ)) (ds : List Deed) (d : Deed) → overlaid seat key v (ds ++ d ∷ []) ≡ written seat key (overlaid seat key v ds) d
overlaid-push seat key v ds d = fold-append (written seat key) v ds (d ∷ [])

pub written-push : (seat key : ℕ) (ds : List Deed) (d : Deed) → list_any (writes_key seat key) (ds ++ d ∷ []) ≡ (list_any (writes_key seat key) ds || (writes_key seat key d || false))
written-push seat key ds d = list_any-append (writes_key seat key) ds (d ∷ [])

-- ---- deeds in a log

-- they stand in a log with one record more
pub logged-longer : (first : ℕ) (recs : List LogRecord) (x : LogRecord) (value : ℕ → ℕ → Option (List ℕ)) (ds : List Deed) → AreLogged first recs value ds → AreLogged first (recs ++ x ∷ []) value ds
logged-longer first recs x value [] all = tt
logged-longer first recs x value (d ∷ ds) all = (record { rec = all.0.rec; there = record_at-push first recs x d.number all.0.rec all.0.there; began = all.0.began; wrote = all.0.wrote }, logged-longer first recs x (after d value) ds all.1)

-- each has a number of the log
pub logged-below : (first : ℕ) (recs : List LogRecord) (value : ℕ → ℕ → Option (List ℕ)) (ds : List Deed) → AreLogged first recs value ds → All (λ d. d.number < first + length recs) ds
logged-below first recs value [] all = All-nil (λ d. d.number < first + length recs)
logged-below first recs value (d ∷ ds) all = All-cons (λ e. e.number < first + length recs) d ds (below_end first recs d.number all.0.rec all.0.there) (logged-below first recs (after d value) ds all.1)

-- and one deed more stands there behind them
pub logged-push : (first : ℕ) (recs : List LogRecord) (value : ℕ → ℕ → Option (List ℕ)) (ds : List Deed) (d : Deed) → AreLogged first recs value ds → IsLogged first recs (λ seat key. overlaid seat key (value seat key) ds) d → AreLogged first recs value (ds ++ d ∷ [])
logged-push first recs value [] d all last = (last, tt)
logged-push first recs value (e ∷ ds) d all last = (all.0, logged-push first recs (after e value) ds d all.1 last)

-- ---- without the deeds of one seat

abbrev pub without : ℕ → List Deed → List Deed
without seat ds = filter (λ d. not (d.seat == seat)) ds

pub not_seat : (d : Deed) (seat other key : ℕ) → (d.seat == seat) ≡ true → other ≢ seat → writes_key other key d ≡ false
not_seat d seat other key is apart = let not : (d.seat == other) ≡ false = grind (arith, nat_tests) in rw not refl

-- the others see what they saw
pub overlaid_others : (seat other key : ℕ) (v : Option (List ℕ)) (ds : List Deed) → other ≢ seat → overlaid other key v (without seat ds) ≡ overlaid other key v ds
overlaid_others seat other key v [] apart = refl
overlaid_others seat other key v (d ∷ ds) apart = by (d.seat == seat) refl (overlaid_others seat other key v ds apart) (overlaid_others seat other key (written other key v d) ds apart)
  where
    by : (b : Bool) → (d.seat == seat) ≡ b → overlaid other key v (without seat ds) ≡ overlaid other key v ds → overlaid other key (written other key v d) (without seat ds) ≡ overlaid other key (written other key v d) ds
        → overlaid other key v (without seat (d ∷ ds)) ≡ overlaid other key v (d ∷ ds)
    by true is same next = rw is (same ∙ ap (λ o. overlaid other key o ds) (sym (written_not other key v d (not_seat d seat other key is apart))))
    by false is same next = rw is next

-- and have written what they had
pub written_others : (seat other key : ℕ) (ds : List Deed) → other ≢ seat → list_any (writes_key other key) (without seat ds) ≡ list_any (writes_key other key) ds
written_others seat other key [] apart = refl
written_others seat other key (d ∷ ds) apart = by (d.seat == seat) refl (written_others seat other key ds apart)
  where
    by : (b : Bool) → (d.seat == seat) ≡ b → list_any (writes_key other key) (without seat ds) ≡ list_any (writes_key other key) ds → list_any (writes_key other key) (without seat (d ∷ ds)) ≡ list_any (writes_key other key) (d ∷ ds)
    by true is same = let not = not_seat d seat other key is apart in rw is (same ∙ rw not refl)
    by false is same = rw is (ap (λ b. writes_key other key d || b) same)

-- the seat itself has written nothing
pub written_none : (seat key : ℕ) (ds : List Deed) → list_any (writes_key seat key) (without seat ds) ≡ false
written_none seat key [] = refl
written_none seat key (d ∷ ds) = by (d.seat == seat) refl (written_none seat key ds)
  where
    by : (b : Bool) → (d.seat == seat) ≡ b → list_any (writes_key seat key) (without seat ds) ≡ false → list_any (writes_key seat key) (without seat (d ∷ ds)) ≡ false
    by true is none = rw is none
    by false is none = rw is (rw is none)

-- The deeds of some seats go on standing in the log, where what they have written was seen as it is now.
logged-kept : (first : ℕ) (recs : List LogRecord) (keep : ℕ → Bool) (value now : ℕ → ℕ → Option (List ℕ)) (ds : List Deed) → AreLogged first recs value ds
    → ((seat key : ℕ) → keep seat ≡ true → list_any (writes_key seat key) ds ≡ true → now seat key ≡ value seat key) → AreLogged first recs now (filter (λ d. keep d.seat) ds)
logged-kept first recs keep value now [] all agree = tt
logged-kept first recs keep value now (d ∷ ds) all agree = by (keep d.seat) refl
    (logged-kept first recs keep (after d value) now ds all.1)
    (logged-kept first recs keep (after d value) (after d now) ds all.1 (λ seat key kept any. ap (λ o. written seat key o d) (agree seat key kept (more seat key any))))
  where
    more : (seat key : ℕ) → list_any (writes_key seat key) ds ≡ true → list_any (writes_key seat key) (d ∷ ds) ≡ true
    more seat key any = join (writes_key seat key d) any
      where
        join : (b : Bool) → list_any (writes_key seat key) ds ≡ true → (b || list_any (writes_key seat key) ds) ≡ true
        join true any = refl
        join false any = any

    own : (o : Option Write) → d.write ≡ o → keep d.seat ≡ true → IfSome o (λ w. Tells all.0.rec w (value d.seat w.key)) → IfSome o (λ w. Tells all.0.rec w (now d.seat w.key))
    own None is kept tells = tt
    own (Some w) is kept tells = subst (Tells all.0.rec w) (sym (agree d.seat w.key kept (first_writes w is))) tells
      where
        first_writes : (w : Write) → d.write ≡ Some w → list_any (writes_key d.seat w.key) (d ∷ ds) ≡ true
        first_writes w is = rw (eq-eqb d.seat d.seat refl) (rw is (rw (eq-eqb w.key w.key refl) refl))

    -- a seat whose deed goes is none of those
    another : (seat key : ℕ) → keep d.seat ≡ false → keep seat ≡ true → writes_key seat key d ≡ false
    another seat key gone kept = let apart : d.seat ≢ seat = (λ same. let never : false ≡ true = sym gone ∙ ap keep same ∙ kept in cc) in let not : (d.seat == seat) ≡ false = grind (arith, nat_tests) in rw not refl

    by : (b : Bool) → keep d.seat ≡ b → (((seat key : ℕ) → keep seat ≡ true → list_any (writes_key seat key) ds ≡ true → now seat key ≡ after d value seat key) → AreLogged first recs now (filter (λ d. keep d.seat) ds))
        → AreLogged first recs (after d now) (filter (λ d. keep d.seat) ds) → AreLogged first recs now (filter (λ d. keep d.seat) (d ∷ ds))
    by false is gone rest = rw is (gone (λ seat key kept any. agree seat key kept (more seat key any) ∙ sym (written_not seat key (value seat key) d (another seat key is kept))))
    by true is gone rest = rw is (record { rec = all.0.rec; there = all.0.there; began = all.0.began; wrote = own d.write refl is all.0.wrote }, rest)

pub logged-without : (first : ℕ) (recs : List LogRecord) (seat : ℕ) (value now : ℕ → ℕ → Option (List ℕ)) (ds : List Deed) → AreLogged first recs value ds
    → ((other key : ℕ) → other ≢ seat → list_any (writes_key other key) ds ≡ true → now other key ≡ value other key) → AreLogged first recs now (without seat ds)
logged-without first recs seat value now ds all agree = logged-kept first recs (λ s. not (s == seat)) value now ds all (λ other key kept any. agree other key (λ same. let never : not (other == seat) ≡ false = ap not (eq-eqb other seat same) in let clash : true ≡ false = sym kept ∙ never in cc) any)

pub logged-same : (first : ℕ) (recs : List LogRecord) (value now : ℕ → ℕ → Option (List ℕ)) (ds : List Deed) → AreLogged first recs value ds
    → ((seat key : ℕ) → list_any (writes_key seat key) ds ≡ true → now seat key ≡ value seat key) → AreLogged first recs now ds
logged-same first recs value now ds all agree = subst (AreLogged first recs now) (kept_all ds) (logged-kept first recs (λ s. true) value now ds all (λ seat key kept any. agree seat key any))
  where
    kept_all : (ds : List Deed) → filter (λ d. true) ds ≡ ds
    kept_all [] = refl
    kept_all (d ∷ ds) = ap (λ es. d ∷ es) (kept_all ds)
