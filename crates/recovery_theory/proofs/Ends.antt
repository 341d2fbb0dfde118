-- A transaction ends by a record that is forced.
use Rattle.std.proofs.Common.{◌++◌, ◌≡◌, ◌≢◌, ◌⊎◌, inl, inr, ℕ, suc, ◌<◌, ◌≤◌, cond, eqb, List, [], ◌∷◌, length, take, refl, ap, sym, subst, ◌∙◌, arith, Option, Some, None, eq-eqb, ne_eqb, length-append, take_all}
use Rattle.std.proofs.lemmas.Bool.{cases_eq}
use Rattle.log_record.specs.declared.record.LogRecord.{LogRecord}
use Rattle.recovery_theory.specs.Effect.{steps_on, step_on, Transaction, OpenUpdate, left_of, listed, of_slot, open_updates, effect_of}
use Rattle.recovery_theory.specs.Effect.Effect.{Ended}
use Rattle.recovery_theory.specs.History.{History, IsHistory, IsCut, logs_at, image_at, entry_at, image_now, entry_now}
use Rattle.recovery_theory.specs.Pages.{SlotValue, slot_after, slots_of, birth_of, in_life_from}
use Rattle.recovery_theory.specs.Standing.{Devices, Leads, with_updates, Settles, PageChain, InOrder, IsStanding, base_of}
use Rattle.recovery_theory.specs.Steps.{with_record, set_at, ended, EndKeepsHistory}
use Rattle.space_map.specs.declared.map_entry.MapEntry.{MapEntry}
use Rattle.recovery_theory.proofs.Cuts.{at_or_off, set_at-same, set_at-other, with_record-same, with_record-other, stands_ext, with_last_cut-above, LongCut, above_same, above_legal, logged_steady}
use Rattle.recovery_theory.proofs.OpenUpdates.{steps_on-with_record, chained_ext, transaction, transaction_cases, open-here, ordered_record, gap_same, apart_record, rises_same, open-by}
use Rattle.space_map.specs.PageImage.{PageImage}

-- the pages after a record of no page
pub pages_kept : (w : Devices) (logs : ℕ → List LogRecord) (guard : ℕ → ℕ) (entry : ℕ → MapEntry) (image : ℕ → PageImage) (n : ℕ) (r : LogRecord)
    → ((y : ℕ) → PageChain w logs (birth_of (entry y)) (image y) y (guard y))
    → ((y : ℕ) → step_on y r ≡ [])
    → (y : ℕ) → PageChain w (with_record n r logs) (birth_of (entry y)) (image y) y (guard y)
pages_kept w logs guard entry image n r pages none y =
    let p = pages y in
    record {
      shown = p.shown;
      disk = p.disk;
      chain = chained_ext (in_life_from y (birth_of (entry y)) (base_of w y)) p.shown (λ m. steps_on y (w.kept m)) (λ m. steps_on y (logs m)) (λ m. steps_on y (with_record n r logs m)) (image y) (guard y) (steps_on-with_record y n r logs (none y)) p.chain;
      gap = gap_same (birth_of (entry y)) w.kept y n r logs (none y) p.gap;
      rises = rises_same w.kept y n r logs (none y) p.rises;
    }

-- the value of a slot is what its open updates make of the settled one
pub leads-with_updates : (us : List OpenUpdate) (v slot : SlotValue) → Leads us v slot → slot ≡ with_updates us v
leads-with_updates [] v slot l = sym l
leads-with_updates (u ∷ us) v slot l = sym l.0 ∙ ap (slot_after u.update) (leads-with_updates us v (slot_after u.back slot) l.1)

-- a record of node n that is right at each cut with the whole of its log, and after which that log is stable
pub sealed_history : (p : History) (n t : ℕ) (r : LogRecord) → IsHistory p
    → ((logs : ℕ → List LogRecord) (entry : ℕ → MapEntry) (image : ℕ → PageImage) → logs n ≡ p.live n
    → IsStanding p.devices logs p.guard entry image p.settled p.lock
    → IsStanding p.devices (with_record n r logs) p.guard entry image (λ x s. with_updates (of_slot x s (open_updates p.devices.first p.live (transaction n t))) (p.settled x s)) p.lock)
    → IsHistory (ended p n t r)
sealed_history p n t r history step = record {
  sound = at_or_off (λ m. set_at n (suc (length (p.live n))) p.stable m ≤ length (with_record n r p.live m)) n
      (rw (set_at-same n (suc (length (p.live n))) p.stable, with_record-same n r p.live) (omega (arith, length-append (p.live n) (r ∷ []))))
      (λ m d. rw (set_at-other n (suc (length (p.live n))) p.stable m d, with_record-other n r p.live m d) (history.sound m));
  steady = logged_steady p n r (entry_now p) (image_now p) p.last history (λ y. inr (refl, λ g. (refl, refl)));
  stands = λ cut is. at cut (low cut is) (long cut is);
}
  where
    low : (cut : ℕ → ℕ) → IsCut (ended p n t r) cut → length (p.live n) < cut n
    low cut is = let h = rw (set_at-same n (suc (length (p.live n))) p.stable) at (is n).0 in omega arith

    long : (cut : ℕ → ℕ) → IsCut (ended p n t r) cut → LongCut p n r cut
    long cut is = record {
      low = let h = rw (set_at-same n (suc (length (p.live n))) p.stable) at (is n).0 in let s = history.sound n in omega arith;
      high = let e = ap (λ (l : List LogRecord). length l) (with_record-same n r p.live) in let l = length-append (p.live n) (r ∷ []) in omega (arith, (is n).1);
      others = λ m d. (rw (set_at-other n (suc (length (p.live n))) p.stable m d) at (is m).0, let e = ap (λ (l : List LogRecord). length l) (with_record-other n r p.live m d) in omega (arith, (is m).1));
    }

    at : (cut : ℕ → ℕ) → length (p.live n) < cut n → LongCut p n r cut
        → IsStanding p.devices (logs_at (ended p n t r) cut) p.guard (entry_at (ended p n t r) cut) (image_at (ended p n t r) cut) (λ x s. with_updates (of_slot x s (open_updates p.devices.first p.live (transaction n t))) (p.settled x s)) p.lock
    at cut lt c =
        let c' : ℕ → ℕ = set_at n (length (p.live n)) cut in
        let at_guard : (y : ℕ) → p.guard y ≡ n → set_at n (length (p.live n)) cut (p.guard y) ≡ length (p.live (p.guard y)) =
        λ y g. rw (g, set_at-same n (length (p.live n)) cut) refl in
        let here : take (set_at n (length (p.live n)) cut n) (p.live n) ≡ p.live n = rw (set_at-same n (length (p.live n)) cut) (take_all (length (p.live n)) (p.live n) (omega arith)) in
        stands_ext p.devices (with_record n r (logs_at p c')) (logs_at (ended p n t r) cut) p.guard
        (entry_at p c') (entry_at (ended p n t r) cut) (image_at p c') (image_at (ended p n t r) cut) (λ x s. with_updates (of_slot x s (open_updates p.devices.first p.live (transaction n t))) (p.settled x s)) p.lock
        (above_same p n r cut lt)
        (λ y. was (entry_at p c' y) (entry_now p y) y (cases_eq (p.guard y) n) (λ g. ap (p.entry y) (at_guard y g)) ∙ with_last_cut-above p n p.entry (entry_now p) y cut lt)
        (λ y. was (image_at p c' y) (image_now p y) y (cases_eq (p.guard y) n) (λ g. ap (p.image y) (at_guard y g)) ∙ with_last_cut-above p n p.image (image_now p) y cut lt)
        (step (logs_at p c') (entry_at p c') (image_at p c') here (history.stands c' (above_legal p n r cut (history.sound n) c)))
      where
        was : {A : Type 0} (a now : A) (y : ℕ) → (p.guard y ≡ n) ⊎ (p.guard y ≢ n) → (p.guard y ≡ n → a ≡ now) → a ≡ cond (eqb (p.guard y) n) now a
        was {A} a now y (inl g) e = rw (eq-eqb (p.guard y) n g) (e g)
        was {A} a now y (inr d) e = rw (ne_eqb (p.guard y) n d) refl

-- what an end record needs: it closes its transaction and leaves the others
pub record Closes (first : ℕ → ℕ) (r : LogRecord) (n t : ℕ) : Type 0 where
  pub here : (logs : ℕ → List LogRecord) → open_updates first (with_record n r logs) (transaction n t) ≡ []
  pub there : (logs : ℕ → List LogRecord) (o : Transaction) → o ≢ transaction n t → open_updates first (with_record n r logs) o ≡ open_updates first logs o
  pub no_page : (y : ℕ) → step_on y r ≡ []
  pub in_order : (w : Devices) (l : List LogRecord) → InOrder w l r

-- such a record keeps a history
pub closes_history : (p : History) (n t : ℕ) (r : LogRecord) → IsHistory p → Closes p.devices.first r n t → IsHistory (ended p n t r)
closes_history p n t r history closing = sealed_history p n t r history step
  where
    step : (logs : ℕ → List LogRecord) (entry : ℕ → MapEntry) (image : ℕ → PageImage) → logs n ≡ p.live n
        → IsStanding p.devices logs p.guard entry image p.settled p.lock
        → IsStanding p.devices (with_record n r logs) p.guard entry image (λ x s. with_updates (of_slot x s (open_updates p.devices.first p.live (transaction n t))) (p.settled x s)) p.lock
    step logs entry image l st = record {
      pages = pages_kept p.devices logs p.guard entry image n r st.pages closing.no_page;
      shaped = st.shaped;
      unused = st.unused;
      slots = λ x s. slot x s (st.slots x s);
      locks = λ x s o h. lock x s o h (transaction_cases o (transaction n t));
      map_pages = st.map_pages;
      lives = st.lives;
      ordered = ordered_record p.devices n r logs st.ordered (closing.in_order p.devices (p.devices.kept n ++ logs n));
      apart = apart_record p.devices logs p.guard entry n r (λ y. inl (closing.no_page y)) st.apart;
    }
      where
        same : open_updates p.devices.first logs (transaction n t) ≡ open_updates p.devices.first p.live (transaction n t)
        same = rw l refl

        lock : (x s : ℕ) (o : Transaction) → of_slot x s (open_updates p.devices.first (with_record n r logs) o) ≢ [] → (o ≡ transaction n t) ⊎ (o ≢ transaction n t) → p.lock x s ≡ Some o
        lock x s o h (inl e) = absurd (h (rw (e, closing.here logs) refl))
        lock x s o h (inr d) = st.locks x s o (λ q. h (ap (of_slot x s) (closing.there logs o d) ∙ q))

        slot : (x s : ℕ) → Settles p.devices.first logs (image x) x s (p.settled x s)
            → Settles p.devices.first (with_record n r logs) (image x) x s (with_updates (of_slot x s (open_updates p.devices.first p.live (transaction n t))) (p.settled x s))
        slot x s (o, c) = go (transaction_cases o (transaction n t))
          where
            go : (o ≡ transaction n t) ⊎ (o ≢ transaction n t) → Settles p.devices.first (with_record n r logs) (image x) x s (with_updates (of_slot x s (open_updates p.devices.first p.live (transaction n t))) (p.settled x s))
            go (inl e) = (
              o,
              record {
                alone = λ q d. ap (of_slot x s) (closing.there logs q (λ h. d (h ∙ sym e))) ∙ c.alone q d;
                value = rw (e, closing.here logs, ← same) (sym (leads-with_updates (of_slot x s (open_updates p.devices.first logs (transaction n t))) (p.settled x s) (slots_of (image x) s)
                    (subst (λ k. Leads (of_slot x s (open_updates p.devices.first logs k)) (p.settled x s) (slots_of (image x) s)) e c.value)));
              },
            )
            go (inr d) =
                let none : of_slot x s (open_updates p.devices.first p.live (transaction n t)) ≡ [] = rw (← same) (c.alone (transaction n t) (λ h. d (sym h))) in (
                  o,
                  record {
                    alone = λ q h. alone q h (transaction_cases q (transaction n t));
                    value = rw (closing.there logs o d, none) c.value;
                  },
                )
              where
                alone : (q : Transaction) → q ≢ o → (q ≡ transaction n t) ⊎ (q ≢ transaction n t) → of_slot x s (open_updates p.devices.first (with_record n r logs) q) ≡ []
                alone q h (inl e) = rw (e, closing.here logs) refl
                alone q h (inr k) = ap (of_slot x s) (closing.there logs q k) ∙ c.alone q h

-- the end of one transaction leaves the others
closed : (t u : ℕ) (s : Option (List OpenUpdate)) → t ≢ u → listed (cond (eqb t u) None s) ≡ listed s
closed t u s d = rw (ne_eqb t u d) refl

-- the record that ends a transaction is such a one
pub end_closes : (first : ℕ → ℕ) (n t : ℕ) (r : LogRecord) → effect_of r ≡ Ended t → Closes first r n t
end_closes first n t r is = record {
  here = λ logs. open-here first n r logs t ∙ rw (is, eq-eqb t t refl) refl;
  there = λ logs o d. open-by first n r logs o (λ u e. rw is (closed t u (left_of u (first n) (logs n) None) (λ q. d (e ∙ ap (transaction n) (sym q)))));
  no_page = λ y. rw is refl;
  in_order = λ w l. rw is tt;
}

pub ends_history : EndKeepsHistory
ends_history p n t r history is = closes_history p n t r history (end_closes p.devices.first n t r is)
