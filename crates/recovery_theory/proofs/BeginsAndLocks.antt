-- A beginning, and a change of locks, keep what stands.
use Rattle.std.proofs.Common.{◌++◌, ◌≡◌, ◌≢◌, ◌⊎◌, inl, inr, ℕ, suc, ◌+◌, ◌≤◌, Bool, true, false, cond, eqb, List, [], ◌∷◌, length, refl, ap, ◌∙◌, arith, Option, Some, None, eq-eqb, ne_eqb}
use Rattle.std.proofs.lemmas.Bool.{cases_eq}
use Rattle.log_record.specs.declared.record.LogRecord.{LogRecord}
use Rattle.recovery_theory.specs.Effect.{OpenUpdate, Transaction, left_of, listed, of_slot, open_updates, step_on, effect_of, Effect, left_by_effect}
use Rattle.recovery_theory.specs.Effect.Effect.{Begun, Updated, Ended, Compensated, Mapped}
use Rattle.recovery_theory.specs.History.{History, IsHistory, IsCut, logs_at, image_now, entry_now}
use Rattle.recovery_theory.specs.Standing.{Settles, InOrder}
use Rattle.recovery_theory.specs.Steps.{with_record, logged, BeginKeepsHistory, LocksKeepHistory}
use Rattle.recovery_theory.proofs.Cuts.{stands_ext, logged_history}
use Rattle.recovery_theory.proofs.Ends.{pages_kept}
use Rattle.recovery_theory.proofs.OpenUpdates.{ordered_record, apart_record, open-by}
use Rattle.space_map.specs.PageImage.{PageImage}

-- no record but its own opens a transaction
pub left_by_effect-none : (t r : ℕ) (e : Effect) → r ≢ t → left_by_effect t r e None ≡ None
left_by_effect-none t r Begun d = rw (ne_eqb r t d) refl
left_by_effect-none t r (Updated v x b op back) d = same (eqb v t)
  where
    same : (c : Bool) → cond {A = Option (List OpenUpdate)} c None None ≡ None
    same true = refl
    same false = refl
left_by_effect-none t r (Ended v) d = same (eqb v t)
  where
    same : (c : Bool) → cond {A = Option (List OpenUpdate)} c None None ≡ None
    same true = refl
    same false = refl
left_by_effect-none t r (Compensated v next x b op) d = same (eqb v t)
  where
    same : (c : Bool) → cond {A = Option (List OpenUpdate)} c None None ≡ None
    same true = refl
    same false = refl
left_by_effect-none t r (Mapped x b op) d = refl

-- the number of a transaction is new: no record of an older log opens it
pub left_of-new : (t r : ℕ) (l : List LogRecord) → r + length l ≤ t → left_of t r l None ≡ None
left_of-new t r [] h = refl
left_of-new t r (rec ∷ l) h = ap (left_of t (suc r) l) (left_by_effect-none t r (effect_of rec) (λ e. absurd (omega arith))) ∙ left_of-new t (suc r) l (omega arith)

-- a record that is of no page and changes no open update
pub idle_history : (p : History) (n : ℕ) (r : LogRecord) → IsHistory p
    → ((logs : ℕ → List LogRecord) (o : Transaction) → open_updates p.devices.first (with_record n r logs) o ≡ open_updates p.devices.first logs o)
    → ((y : ℕ) → step_on y r ≡ []) → ((l : List LogRecord) → InOrder p.devices l r)
    → IsHistory (logged p n r (entry_now p) (image_now p) p.last)
idle_history p n r history same none order = logged_history p n r (entry_now p) (image_now p) p.last history (λ y. inr (refl, λ g. (refl, refl)))
    (λ logs was image l b f st. stands_ext p.devices (with_record n r logs) (with_record n r logs) p.guard was (λ y. cond (eqb (p.guard y) n) (entry_now p y) (was y))
    image (λ y. cond (eqb (p.guard y) n) (image_now p y) (image y)) p.settled p.lock (λ m. refl)
    (λ y. at (was y) (entry_now p y) y (b y) (cases_eq (p.guard y) n)) (λ y. at (image y) (image_now p y) y (f y) (cases_eq (p.guard y) n))
    (record {
      pages = pages_kept p.devices logs p.guard was image n r st.pages none;
      shaped = st.shaped;
      unused = st.unused;
      slots = λ x s. slot logs (image x) x s (st.slots x s);
      locks = λ x s o h. st.locks x s o (λ q. h (ap (of_slot x s) (same logs o) ∙ q));
      map_pages = st.map_pages;
      lives = st.lives;
      ordered = ordered_record p.devices n r logs st.ordered (order (p.devices.kept n ++ logs n));
      apart = apart_record p.devices logs p.guard was n r (λ y. inl (none y)) st.apart;
    }))
  where
    at : {A : Type 0} (a now : A) (y : ℕ) → (p.guard y ≡ n → a ≡ now) → (p.guard y ≡ n) ⊎ (p.guard y ≢ n) → a ≡ cond (eqb (p.guard y) n) now a
    at {A} a now y e (inl g) = rw (eq-eqb (p.guard y) n g) (e g)
    at {A} a now y e (inr d) = rw (ne_eqb (p.guard y) n d) refl

    slot : (logs : ℕ → List LogRecord) (i : PageImage) (x s : ℕ) → Settles p.devices.first logs i x s (p.settled x s) → Settles p.devices.first (with_record n r logs) i x s (p.settled x s)
    slot logs i x s (o, c) = (o, record { alone = λ q d. ap (of_slot x s) (same logs q) ∙ c.alone q d; value = rw (same logs o) c.value })

pub begins : BeginKeepsHistory
begins p n r history is = idle_history p n r history
    (λ logs o. open-by p.devices.first n r logs o (λ u e. rw is (new (logs n) u (cases_eq (p.devices.first n + length (logs n)) u))))
    (λ y. rw is refl) (λ l. rw is tt)
  where
    new : (l : List LogRecord) (u : ℕ) → (p.devices.first n + length l ≡ u) ⊎ (p.devices.first n + length l ≢ u)
        → listed (cond (eqb (p.devices.first n + length l) u) (Some []) (left_of u (p.devices.first n) l None)) ≡ listed (left_of u (p.devices.first n) l None)
    new l u (inl e) = rw (eq-eqb (p.devices.first n + length l) u e, left_of-new u (p.devices.first n) l (omega arith)) refl
    new l u (inr d) = rw (ne_eqb (p.devices.first n + length l) u d) refl

pub locks_change : LocksKeepHistory
locks_change p lock history ok = record {
  sound = history.sound;
  steady = history.steady;
  stands = λ cut is. let st = history.stands cut is in record {
    pages = st.pages;
    shaped = st.shaped;
    unused = st.unused;
    slots = st.slots;
    map_pages = st.map_pages;
    lives = st.lives;
    ordered = st.ordered;
    apart = st.apart;
    locks = λ x s o h. go cut is x s o h (ok x s);
  };
}
  where
    go : (cut : ℕ → ℕ) → IsCut p cut → (x s : ℕ) (o : Transaction) → of_slot x s (open_updates p.devices.first (logs_at p cut) o) ≢ []
        → (lock x s ≡ p.lock x s) ⊎ ((cut : ℕ → ℕ) → IsCut p cut → (o : Transaction) → of_slot x s (open_updates p.devices.first (logs_at p cut) o) ≡ [])
        → lock x s ≡ Some o
    go cut is x s o h (inl e) = e ∙ (history.stands cut is).locks x s o h
    go cut is x s o h (inr none) = absurd (h (none cut is o))
