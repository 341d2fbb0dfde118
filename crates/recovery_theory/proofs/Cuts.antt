-- Where one log grows by a record, each cut either is an old one or has the whole of that log.
use Rattle.std.proofs.Common.{◌≡◌, ◌≢◌, ℕ, suc, ◌<◌, ◌≤◌, ◌&&◌, Bool, true, false, cond, eqb, leb, ltb, List, [], ◌∷◌, ◌++◌, length, take, refl, ap, sym, subst, ◌∙◌, arith, Option, length-append, take_all, eq-eqb, ne_eqb, eqb-true, leb-true, leb-false, lt-ltb, le-ltb}
use Rattle.std.proofs.lemmas.Bool.{eqb-false}
use Rattle.std.proofs.lemmas.List.{take-append-le}
use mathlib.Core.Path.{fun_ext}
use Rattle.std.proofs.lemmas.Bool.{cases_eq}
use Rattle.std.proofs.Common.{◌⊎◌, inl, inr}
use Rattle.log_record.specs.declared.record.LogRecord.{LogRecord}
use Rattle.recovery_theory.specs.Effect.{Transaction}
use Rattle.recovery_theory.specs.History.{History, IsHistory, IsCut, logs_at, image_at, entry_at, image_now, entry_now}
use Rattle.recovery_theory.specs.Pages.{SlotValue}
use Rattle.recovery_theory.specs.Standing.{Devices, IsStanding}
use Rattle.recovery_theory.specs.Steps.{with_record, with_last_cut, set_at, logged, changed_page}
use Rattle.sd_base.specs.declared.page_op.PageOp.{PageOp}
use Rattle.space_map.specs.declared.map_entry.MapEntry.{MapEntry}
use Rattle.space_map.specs.PageImage.{PageImage, changed}

-- what stands is said of functions by their values alone
pub stands_ext : (w : Devices) (logs logs' : ℕ → List LogRecord) (guard : ℕ → ℕ) (entry entry' : ℕ → MapEntry) (image image' : ℕ → PageImage) (settled : ℕ → ℕ → SlotValue) (lock : ℕ → ℕ → Option Transaction)
    → ((m : ℕ) → logs m ≡ logs' m) → ((y : ℕ) → entry y ≡ entry' y) → ((y : ℕ) → image y ≡ image' y)
    → IsStanding w logs guard entry image settled lock → IsStanding w logs' guard entry' image' settled lock
stands_ext w logs logs' guard entry entry' image image' settled lock l b f s =
    let s1 = subst (λ (z : ℕ → List LogRecord). IsStanding w z guard entry image settled lock) (fun_ext l) s in
    let s2 = subst (λ (z : ℕ → MapEntry). IsStanding w logs' guard z image settled lock) (fun_ext b) s1 in
    subst (λ (z : ℕ → PageImage). IsStanding w logs' guard entry' z settled lock) (fun_ext f) s2

-- what holds at n and at every other place holds everywhere
pub at_or_off : (P : ℕ → Type 0) (n : ℕ) → P n → ((m : ℕ) → m ≢ n → P m) → (m : ℕ) → P m
at_or_off P n here off m = go (eqb m n) refl
  where
    go : (t : Bool) → eqb m n ≡ t → P m
    go true e = subst P (sym (eqb-true m n e)) here
    go false e = off m (eqb-false m n e)

-- a function that is changed at one place
pub set_at-same : {A : Type 0} (n : ℕ) (a : A) (f : ℕ → A) → set_at n a f n ≡ a
set_at-same n a f = rw (eq-eqb n n refl) refl

pub set_at-other : {A : Type 0} (n : ℕ) (a : A) (f : ℕ → A) (m : ℕ) → m ≢ n → set_at n a f m ≡ f m
set_at-other n a f m d = rw (ne_eqb m n d) refl

-- a log that has grown by a record
pub with_record-same : (n : ℕ) (r : LogRecord) (live : ℕ → List LogRecord) → with_record n r live n ≡ live n ++ r ∷ []
with_record-same n r live = rw (eq-eqb n n refl) refl

pub with_record-other : (n : ℕ) (r : LogRecord) (live : ℕ → List LogRecord) (m : ℕ) → m ≢ n → with_record n r live m ≡ live m
with_record-other n r live m d = rw (ne_eqb m n d) refl

-- at a cut of the old log a page is what it was
pub with_last_cut-below : {A : Type 0} (p : History) (n : ℕ) (f : ℕ → ℕ → A) (now : ℕ → A) (y : ℕ) (cut : ℕ → ℕ) → cut n ≤ length (p.live n)
    → f y (cut (p.guard y)) ≡ with_last_cut p n f now y (cut (p.guard y))
with_last_cut-below {A} p n f now y cut le = go (eqb (p.guard y) n) refl
  where
    go : (t : Bool) → eqb (p.guard y) n ≡ t → f y (cut (p.guard y)) ≡ cond (t && ltb (length (p.live n)) (cut (p.guard y))) (now y) (f y (cut (p.guard y)))
    go true e = let g = eqb-true (p.guard y) n e in
        let b : cut (p.guard y) ≤ length (p.live n) = subst (λ k. cut k ≤ length (p.live n)) (sym g) le in
        rw (le-ltb (length (p.live n)) (cut (p.guard y)) b) refl
    go false e = refl

-- at the cut behind the new record it is what it is now, or, with another guard, what it was
pub with_last_cut-above : {A : Type 0} (p : History) (n : ℕ) (f : ℕ → ℕ → A) (now : ℕ → A) (y : ℕ) (cut : ℕ → ℕ) → length (p.live n) < cut n
    → cond (eqb (p.guard y) n) (now y) (f y (set_at n (length (p.live n)) cut (p.guard y))) ≡ with_last_cut p n f now y (cut (p.guard y))
with_last_cut-above {A} p n f now y cut lt = go (eqb (p.guard y) n) refl
  where
    go : (t : Bool) → eqb (p.guard y) n ≡ t → cond t (now y) (f y (cond t (length (p.live n)) (cut (p.guard y)))) ≡ cond (t && ltb (length (p.live n)) (cut (p.guard y))) (now y) (f y (cut (p.guard y)))
    go true e = let g = eqb-true (p.guard y) n e in
        let b : length (p.live n) < cut (p.guard y) = subst (λ k. length (p.live n) < cut k) (sym g) lt in
        rw (lt-ltb (length (p.live n)) (cut (p.guard y)) b) refl
    go false e = refl

-- a cut of the longer log
pub record LongCut (p : History) (n : ℕ) (r : LogRecord) (cut : ℕ → ℕ) : Type 0 where
  pub low : p.stable n ≤ cut n
  pub high : cut n ≤ suc (length (p.live n))
  pub others : (m : ℕ) → m ≢ n → (p.stable m ≤ cut m) × (cut m ≤ length (p.live m))

-- each cut of the longer log is one
pub long_cut : (p : History) (n : ℕ) (r : LogRecord) (cut : ℕ → ℕ) → ((m : ℕ) → (p.stable m ≤ cut m) × (cut m ≤ length (with_record n r p.live m))) → LongCut p n r cut
long_cut p n r cut is = record {
  low = (is n).0;
  high = let e = ap (λ (l : List LogRecord). length l) (with_record-same n r p.live) in let l = length-append (p.live n) (r ∷ []) in omega (arith, (is n).1);
  others = λ m d. ((is m).0, let e = ap (λ (l : List LogRecord). length l) (with_record-other n r p.live m d) in omega (arith, (is m).1));
}

-- without the new record it is a cut of the old log, of the same records
pub below_legal : (p : History) (n : ℕ) (r : LogRecord) (cut : ℕ → ℕ) → LongCut p n r cut → cut n ≤ length (p.live n) → IsCut p cut
below_legal p n r cut c le = at_or_off (λ m. (p.stable m ≤ cut m) × (cut m ≤ length (p.live m))) n (c.low, le) c.others

pub below_same : (p : History) (n : ℕ) (r : LogRecord) (cut : ℕ → ℕ) → cut n ≤ length (p.live n) → (m : ℕ) → take (cut m) (p.live m) ≡ take (cut m) (with_record n r p.live m)
below_same p n r cut le = at_or_off (λ m. take (cut m) (p.live m) ≡ take (cut m) (with_record n r p.live m)) n
    (rw (with_record-same n r p.live) (sym (take-append-le (cut n) (p.live n) (r ∷ []) le)))
    (λ m d. rw (with_record-other n r p.live m d) refl)

-- with it, all of the old log belongs to it
pub above_legal : (p : History) (n : ℕ) (r : LogRecord) (cut : ℕ → ℕ) → p.stable n ≤ length (p.live n) → LongCut p n r cut → IsCut p (set_at n (length (p.live n)) cut)
above_legal p n r cut sound c = at_or_off (λ m. (p.stable m ≤ set_at n (length (p.live n)) cut m) × (set_at n (length (p.live n)) cut m ≤ length (p.live m))) n
    (rw (set_at-same n (length (p.live n)) cut) (sound, omega arith))
    (λ m d. rw (set_at-other n (length (p.live n)) cut m d) (c.others m d))

pub above_same : (p : History) (n : ℕ) (r : LogRecord) (cut : ℕ → ℕ) → length (p.live n) < cut n → (m : ℕ)
    → with_record n r (logs_at p (set_at n (length (p.live n)) cut)) m ≡ take (cut m) (with_record n r p.live m)
above_same p n r cut lt = at_or_off (λ m. with_record n r (logs_at p (set_at n (length (p.live n)) cut)) m ≡ take (cut m) (with_record n r p.live m)) n
    (let l = length-append (p.live n) (r ∷ []) in
    rw (with_record-same n r (logs_at p (set_at n (length (p.live n)) cut)), with_record-same n r p.live, set_at-same n (length (p.live n)) cut, take_all (length (p.live n)) (p.live n) (omega arith), take_all (cut n) (p.live n ++ r ∷ []) (omega arith)) refl)
    (λ m d. rw (with_record-other n r (logs_at p (set_at n (length (p.live n)) cut)) m d, with_record-other n r p.live m d, set_at-other n (length (p.live n)) cut m d) refl)

-- what a page is at the end of the longer log
pub with_last_cut-end : {A : Type 0} (p : History) (n : ℕ) (r : LogRecord) (f : ℕ → ℕ → A) (now : ℕ → A) (y : ℕ) → p.guard y ≡ n
    → with_last_cut p n f now y (length (with_record n r p.live (p.guard y))) ≡ now y
with_last_cut-end {A} p n r f now y g =
    let l = length-append (p.live n) (r ∷ []) in
    let lt : length (p.live n) < length (p.live n ++ r ∷ []) = omega arith in
    rw (g, with_record-same n r p.live, eq-eqb n n refl, lt-ltb (length (p.live n)) (length (p.live n ++ r ∷ [])) lt) refl

-- with another guard a page is what it was, and so within the old log
pub with_last_cut-off : {A : Type 0} (p : History) (n : ℕ) (f : ℕ → ℕ → A) (now : ℕ → A) (y k : ℕ) → p.guard y ≢ n → with_last_cut p n f now y k ≡ f y k
with_last_cut-off p n f now y k d = rw (ne_eqb (p.guard y) n d) refl

-- where a cut has all of the longer log, the entries are those with all of the old one; and so are those of now
pub entry_at-above : (p : History) (n : ℕ) (cut : ℕ → ℕ) → length (p.live n) < cut n → (y : ℕ)
    → entry_at p (set_at n (length (p.live n)) cut) y ≡ with_last_cut p n p.entry (entry_now p) y (cut (p.guard y))
entry_at-above p n cut lt y = was (cases_eq (p.guard y) n) ∙ with_last_cut-above p n p.entry (entry_now p) y cut lt
  where
    was : (p.guard y ≡ n) ⊎ (p.guard y ≢ n) → entry_at p (set_at n (length (p.live n)) cut) y ≡ cond (eqb (p.guard y) n) (entry_now p y) (entry_at p (set_at n (length (p.live n)) cut) y)
    was (inl g) = rw (eq-eqb (p.guard y) n g) (ap (p.entry y) (at_guard g))
      where
        at_guard : p.guard y ≡ n → set_at n (length (p.live n)) cut (p.guard y) ≡ length (p.live (p.guard y))
        at_guard g = rw (g, set_at-same n (length (p.live n)) cut) refl
    was (inr d) = rw (ne_eqb (p.guard y) n d) refl

pub entry_now-above : (p : History) (n : ℕ) (r : LogRecord) (y : ℕ) → entry_now p y ≡ with_last_cut p n p.entry (entry_now p) y (length (with_record n r p.live (p.guard y)))
entry_now-above p n r y = go (cases_eq (p.guard y) n)
  where
    go : (p.guard y ≡ n) ⊎ (p.guard y ≢ n) → entry_now p y ≡ with_last_cut p n p.entry (entry_now p) y (length (with_record n r p.live (p.guard y)))
    go (inl g) = sym (with_last_cut-end p n r p.entry (entry_now p) y g)
    go (inr d) = ap (p.entry y) (ap (λ (l : List LogRecord). length l) (sym (with_record-other n r p.live (p.guard y) d))) ∙ sym (with_last_cut-off p n p.entry (entry_now p) y (length (with_record n r p.live (p.guard y))) d)

pub with_last_cut-low : {A : Type 0} (p : History) (n : ℕ) (f : ℕ → ℕ → A) (now : ℕ → A) (y k : ℕ) → k ≤ length (p.live n) → with_last_cut p n f now y k ≡ f y k
with_last_cut-low {A} p n f now y k le = go (eqb (p.guard y) n)
  where
    go : (t : Bool) → cond (t && ltb (length (p.live n)) k) (now y) (f y k) ≡ f y k
    go true = rw (le-ltb (length (p.live n)) k le) refl
    go false = refl

-- the pages that n guards and that the record doesn't change are what they were
abbrev pub Keeps : History → ℕ → (ℕ → MapEntry) → (ℕ → PageImage) → (ℕ → ℕ) → Type 0
Keeps p n entry now last = (y : ℕ) → ((p.guard y ≡ n) × (last y ≡ suc (length (p.live n)))) ⊎ ((last y ≡ p.last y) × (p.guard y ≡ n → (now y ≡ image_now p y) × (entry y ≡ entry_now p y)))

-- past its last record a page is what it is at the end
pub logged_steady : (p : History) (n : ℕ) (r : LogRecord) (entry : ℕ → MapEntry) (now : ℕ → PageImage) (last : ℕ → ℕ) → IsHistory p → Keeps p n entry now last
    → (y k : ℕ) → last y ≤ k → k ≤ length (with_record n r p.live (p.guard y))
    → (with_last_cut p n p.image now y k ≡ with_last_cut p n p.image now y (length (with_record n r p.live (p.guard y))))
    × (with_last_cut p n p.entry entry y k ≡ with_last_cut p n p.entry entry y (length (with_record n r p.live (p.guard y))))
logged_steady p n r entry now last history keeps y k low high = go (cases_eq (p.guard y) n) (keeps y)
  where
    go : (p.guard y ≡ n) ⊎ (p.guard y ≢ n) → ((p.guard y ≡ n) × (last y ≡ suc (length (p.live n)))) ⊎ ((last y ≡ p.last y) × (p.guard y ≡ n → (now y ≡ image_now p y) × (entry y ≡ entry_now p y)))
        → (with_last_cut p n p.image now y k ≡ with_last_cut p n p.image now y (length (with_record n r p.live (p.guard y))))
        × (with_last_cut p n p.entry entry y k ≡ with_last_cut p n p.entry entry y (length (with_record n r p.live (p.guard y))))
    go (inl g) how =
        let e : length (with_record n r p.live (p.guard y)) ≡ suc (length (p.live n)) = rw (g, with_record-same n r p.live) (omega (arith, length-append (p.live n) (r ∷ []))) in
        let same : (leb k (length (p.live n)) ≡ true) ⊎ (k ≡ length (with_record n r p.live (p.guard y))) = split (leb k (length (p.live n))) refl e in
        pick same how
      where
        split : (t : Bool) → leb k (length (p.live n)) ≡ t → length (with_record n r p.live (p.guard y)) ≡ suc (length (p.live n)) → (leb k (length (p.live n)) ≡ true) ⊎ (k ≡ length (with_record n r p.live (p.guard y)))
        split true q e = inl q
        split false q e = inr (let lt = leb-false k (length (p.live n)) q in omega arith)

        pick : (leb k (length (p.live n)) ≡ true) ⊎ (k ≡ length (with_record n r p.live (p.guard y)))
            → ((p.guard y ≡ n) × (last y ≡ suc (length (p.live n)))) ⊎ ((last y ≡ p.last y) × (p.guard y ≡ n → (now y ≡ image_now p y) × (entry y ≡ entry_now p y)))
            → (with_last_cut p n p.image now y k ≡ with_last_cut p n p.image now y (length (with_record n r p.live (p.guard y))))
            × (with_last_cut p n p.entry entry y k ≡ with_last_cut p n p.entry entry y (length (with_record n r p.live (p.guard y))))
        pick (inr e) h = (ap (with_last_cut p n p.image now y) e, ap (with_last_cut p n p.entry entry y) e)
        pick (inl q) (inl (g', e)) = let le = leb-true k (length (p.live n)) q in absurd (omega arith)
        pick (inl q) (inr (e, same)) =
            let le : k ≤ length (p.live n) = leb-true k (length (p.live n)) q in
            let le' : k ≤ length (p.live (p.guard y)) = rw g le in
            let old = history.steady y k (omega arith) le' in
            let new = same g in (
              with_last_cut-low p n p.image now y k le ∙ (old.0 ∙ (sym new.0 ∙ sym (with_last_cut-end p n r p.image now y g))),
              with_last_cut-low p n p.entry entry y k le ∙ (old.1 ∙ (sym new.1 ∙ sym (with_last_cut-end p n r p.entry entry y g))),
            )
    go (inr d) (inl (g, e)) = absurd (d g)
    go (inr d) (inr (e, same)) =
        let le : k ≤ length (p.live (p.guard y)) = omega (arith, ap (λ (l : List LogRecord). length l) (with_record-other n r p.live (p.guard y) d)) in
        let old = history.steady y k (omega arith) le in
        let l : length (with_record n r p.live (p.guard y)) ≡ length (p.live (p.guard y)) = ap (λ (l : List LogRecord). length l) (with_record-other n r p.live (p.guard y) d) in (
          with_last_cut-off p n p.image now y k d ∙ (old.0 ∙ (ap (p.image y) (sym l) ∙ sym (with_last_cut-off p n p.image now y (length (with_record n r p.live (p.guard y))) d))),
          with_last_cut-off p n p.entry entry y k d ∙ (old.1 ∙ (ap (p.entry y) (sym l) ∙ sym (with_last_cut-off p n p.entry entry y (length (with_record n r p.live (p.guard y))) d))),
        )

-- a record that is right at each cut with the whole of its log is right
pub logged_history : (p : History) (n : ℕ) (r : LogRecord) (entry : ℕ → MapEntry) (now : ℕ → PageImage) (last : ℕ → ℕ) → IsHistory p
    → Keeps p n entry now last
    → ((logs : ℕ → List LogRecord) (was : ℕ → MapEntry) (image : ℕ → PageImage) → logs n ≡ p.live n
    → ((y : ℕ) → p.guard y ≡ n → was y ≡ entry_now p y) → ((y : ℕ) → p.guard y ≡ n → image y ≡ image_now p y)
    → IsStanding p.devices logs p.guard was image p.settled p.lock
    → IsStanding p.devices (with_record n r logs) p.guard (λ y. cond (eqb (p.guard y) n) (entry y) (was y)) (λ y. cond (eqb (p.guard y) n) (now y) (image y)) p.settled p.lock)
    → IsHistory (logged p n r entry now last)
logged_history p n r entry now last history keeps step = record {
  sound = at_or_off (λ m. p.stable m ≤ length (with_record n r p.live m)) n
      (let h = history.sound n in let l = length-append (p.live n) (r ∷ []) in rw (with_record-same n r p.live) (omega arith))
      (λ m d. rw (with_record-other n r p.live m d) (history.sound m));
  steady = logged_steady p n r entry now last history keeps;
  stands = λ cut is. at cut (long_cut p n r cut is) (leb (cut n) (length (p.live n))) refl;
}
  where
    at : (cut : ℕ → ℕ) → LongCut p n r cut → (t : Bool) → leb (cut n) (length (p.live n)) ≡ t
        → IsStanding p.devices (logs_at (logged p n r entry now last) cut) p.guard (entry_at (logged p n r entry now last) cut) (image_at (logged p n r entry now last) cut) p.settled p.lock
    at cut c true e =
        let le : cut n ≤ length (p.live n) = leb-true (cut n) (length (p.live n)) e in
        stands_ext p.devices (logs_at p cut) (logs_at (logged p n r entry now last) cut) p.guard (entry_at p cut) (entry_at (logged p n r entry now last) cut) (image_at p cut) (image_at (logged p n r entry now last) cut) p.settled p.lock
        (below_same p n r cut le) (λ y. with_last_cut-below p n p.entry entry y cut le) (λ y. with_last_cut-below p n p.image now y cut le) (history.stands cut (below_legal p n r cut c le))
    at cut c false e =
        let lt : length (p.live n) < cut n = leb-false (cut n) (length (p.live n)) e in
        let c' : ℕ → ℕ = set_at n (length (p.live n)) cut in
        let at_guard : (y : ℕ) → p.guard y ≡ n → set_at n (length (p.live n)) cut (p.guard y) ≡ length (p.live (p.guard y)) =
        λ y g. rw (g, set_at-same n (length (p.live n)) cut) refl in
        let here : take (set_at n (length (p.live n)) cut n) (p.live n) ≡ p.live n = rw (set_at-same n (length (p.live n)) cut) (take_all (length (p.live n)) (p.live n) (omega arith)) in
        stands_ext p.devices (with_record n r (logs_at p c')) (logs_at (logged p n r entry now last) cut) p.guard
        (λ y. cond (eqb (p.guard y) n) (entry y) (entry_at p c' y)) (entry_at (logged p n r entry now last) cut)
        (λ y. cond (eqb (p.guard y) n) (now y) (image_at p c' y)) (image_at (logged p n r entry now last) cut) p.settled p.lock
        (above_same p n r cut lt) (λ y. with_last_cut-above p n p.entry entry y cut lt) (λ y. with_last_cut-above p n p.image now y cut lt)
        (step (logs_at p c') (entry_at p c') (image_at p c') here (λ y g. ap (p.entry y) (at_guard y g)) (λ y g. ap (p.image y) (at_guard y g))
        (history.stands c' (above_legal p n r cut (history.sound n) c)))

-- the same, for a record of page x with operation op
pub changed_history : (p : History) (n : ℕ) (r : LogRecord) (x : ℕ) (op : PageOp) → IsHistory p → p.guard x ≡ n
    → ((logs : ℕ → List LogRecord) (was : ℕ → MapEntry) (image : ℕ → PageImage) → logs n ≡ p.live n → was x ≡ entry_now p x → image x ≡ image_now p x
    → IsStanding p.devices logs p.guard was image p.settled p.lock
    → IsStanding p.devices (with_record n r logs) p.guard was (set_at x (changed op (image x)) image) p.settled p.lock)
    → IsHistory (changed_page p n r x op)
changed_history p n r x op history g step = logged_history p n r (entry_now p) (set_at x (changed op (image_now p x)) (image_now p)) (set_at x (suc (length (p.live n))) p.last) history
    (λ y. keeps y (cases_eq y x))
    (λ logs was image l b f st. stands_ext p.devices (with_record n r logs) (with_record n r logs) p.guard was (λ y. cond (eqb (p.guard y) n) (entry_now p y) (was y))
    (set_at x (changed op (image x)) image) (λ y. cond (eqb (p.guard y) n) (set_at x (changed op (image_now p x)) (image_now p) y) (image y)) p.settled p.lock
    (λ m. refl) (λ y. bb was b y (cases_eq (p.guard y) n)) (λ y. ff image f y (cases_eq (p.guard y) n) (cases_eq y x)) (step logs was image l (b x g) (f x g) st))
  where
    keeps : (y : ℕ) → (y ≡ x) ⊎ (y ≢ x) → ((p.guard y ≡ n) × (set_at x (suc (length (p.live n))) p.last y ≡ suc (length (p.live n))))
        ⊎ ((set_at x (suc (length (p.live n))) p.last y ≡ p.last y) × (p.guard y ≡ n → (set_at x (changed op (image_now p x)) (image_now p) y ≡ image_now p y) × (entry_now p y ≡ entry_now p y)))
    keeps y (inl e) = inl (ap p.guard e ∙ g, rw (eq-eqb y x e) refl)
    keeps y (inr d) = inr (rw (ne_eqb y x d) refl, λ q. (rw (ne_eqb y x d) refl, refl))

    bb : (was : ℕ → MapEntry) → ((y : ℕ) → p.guard y ≡ n → was y ≡ entry_now p y) → (y : ℕ) → (p.guard y ≡ n) ⊎ (p.guard y ≢ n) → was y ≡ cond (eqb (p.guard y) n) (entry_now p y) (was y)
    bb was b y (inl e) = rw (eq-eqb (p.guard y) n e) (b y e)
    bb was b y (inr d) = rw (ne_eqb (p.guard y) n d) refl

    ff : (image : ℕ → PageImage) → ((y : ℕ) → p.guard y ≡ n → image y ≡ image_now p y) → (y : ℕ) → (p.guard y ≡ n) ⊎ (p.guard y ≢ n) → (y ≡ x) ⊎ (y ≢ x)
        → set_at x (changed op (image x)) image y ≡ cond (eqb (p.guard y) n) (set_at x (changed op (image_now p x)) (image_now p) y) (image y)
    ff image f y (inl e) (inl a) = rw (eq-eqb (p.guard y) n e, eq-eqb y x a) (ap (changed op) (f x g))
    ff image f y (inl e) (inr a) = rw (eq-eqb (p.guard y) n e, ne_eqb y x a) (f y e)
    ff image f y (inr d) (inl a) = absurd (d (ap p.guard a ∙ g))
    ff image f y (inr d) (inr a) = rw (ne_eqb (p.guard y) n d, ne_eqb y x a) refl
