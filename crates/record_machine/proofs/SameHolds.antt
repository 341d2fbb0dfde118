-- Two machines that differ in nothing but the functions which say who holds a page and what is loose, and agree on each page and
-- node there: what one of them survives, the other does.
use Rattle.std.proofs.Common.{◌≡◌, ◌≢◌, ◌⊎◌, inl, inr, ◌==◌, ◌&&◌, ◌-◌, ℕ, Bool, true, false, not, if◌then◌else◌, List, [], length, drop, refl, ap, sym, subst, ◌∙◌, arith, Option, Some, None, eq-eqb, ne_eqb}
use Rattle.std.proofs.lemmas.Bool.{cases_eq}
use Rattle.record_locks.specs.Held.{Held}
use Rattle.recovery_theory.specs.History.{History}
use Rattle.record_machine.specs.Cuts.{Survives, SurvivesAs}
use Rattle.record_machine.specs.Machine.{Down, LooseChange, Machine, is_up, put}
use Rattle.record_machine.specs.Meaning.{Plain}
use Rattle.record_machine.specs.Parts.{Drop, Take, behind_page, loose_after_drop, loose_after_take, one}
use Rattle.record_machine.specs.Recoverable.{IsKeptBy}
use Rattle.record_machine.specs.Stops.{any_up, changes_back, down, stop, stop_in_undo, with_tables}
use Rattle.record_machine.proofs.Put.{at_or_off, put_same}
use Rattle.record_machine.proofs.RestSteps.{means_rest}
use Rattle.record_machine.proofs.StillStops.{still_stops}

-- ---- a page that is given up before it is taken

-- who holds each page then is as where it is taken at once
pub passed_holds : (m : Machine) (x n y : ℕ) → (one (Take x n) (one (Drop x) m)).hold y ≡ (one (Take x n) m).hold y
passed_holds m x n y = by (y == x) refl
  where
    by : (b : Bool) → (y == x) ≡ b → put x (Some n) (put x None m.hold) y ≡ put x (Some n) m.hold y
    by true e = rw e refl
    by false e = rw e refl

-- so is what each node may lose, unless node n itself is up and holds the page: then it keeps all if it takes it at once
pub passed_loose : (m : Machine) (x n j : ℕ) → (m.hold x ≡ Some n → is_up (m.mode n) ≡ false) → (one (Take x n) (one (Drop x) m)).loose j ≡ (one (Take x n) m).loose j
passed_loose m x n j apart = rw (put_same x None m.hold x refl) (by (m.hold x) refl)
  where
    by : (o : Option ℕ) → m.hold x ≡ o → loose_after_drop x m j ≡ loose_after_take x n m j
    by None e = rw e refl
    by (Some o) e = rw e (own (cases_eq o n))
      where
        own : (o ≡ n) ⊎ (o ≢ n) → (if is_up (m.mode o) then put o (behind_page x (m.loose o)) m.loose else m.loose) j ≡ (if not (o == n) && is_up (m.mode o) then put o (behind_page x (m.loose o)) m.loose else m.loose) j
        own (inl same) = let rests : is_up (m.mode o) ≡ false = ap (λ i. is_up (m.mode i)) same ∙ apart (e ∙ ap Some same) in rw (eq-eqb o n same, rests) refl
        own (inr other) = rw (ne_eqb o n other) refl

-- ---- a page that is taken by its holder

-- who holds each page is as it was
pub taken_again : (m : Machine) (x n y : ℕ) → m.hold x ≡ Some n → (one (Take x n) m).hold y ≡ m.hold y
taken_again m x n y is = at_or_off (λ o. o ≡ m.hold y) x (Some n) m.hold y (λ same. sym is ∙ ap m.hold (sym same)) (λ other. refl)

-- and so is what each node may lose
pub again_loose : (m : Machine) (x n j : ℕ) → m.hold x ≡ Some n → (one (Take x n) m).loose j ≡ m.loose j
again_loose m x n j is = rw (is, eq-eqb n n refl) refl

-- ---- what is survived

module _ (dirty : ℕ → Bool) (h : History) (p : Plain) (m : Machine) (hold : ℕ → Option ℕ) (loose : ℕ → List LooseChange) (holds : (y : ℕ) → hold y ≡ m.hold y) (looses : (j : ℕ) → loose j ≡ m.loose j) where
  abbrev m' : Machine
  m' = record m { hold = hold; loose = loose }

  -- a store survives the same
  pub survives_same : Survives dirty h p m → Survives dirty h p m'
  survives_same s = record {
    recoverable = record {
      holds = s.recoverable.holds;
      roomy = s.recoverable.roomy;
      rolled = s.recoverable.rolled;
      shape = s.recoverable.shape;
      first = s.recoverable.first;
      live = s.recoverable.live;
      maps = s.recoverable.maps;
      pages = s.recoverable.pages;
      guard = λ y n e. s.recoverable.guard y n (sym (holds y) ∙ e);
      stored = s.recoverable.stored;
      begun = s.recoverable.begun;
      seats = λ t busy. (let z = s.recoverable.seats t busy in record { left = z.left; going = z.going; begins = z.begins; writes = z.writes });
      opens = λ k txn us e. (let z = s.recoverable.opens k txn us e in record { who = z.who; node = z.node; busy = z.busy; begins = z.begins });
      below = s.recoverable.below;
      apart = s.recoverable.apart;
      locked = s.recoverable.locked;
      locker = s.recoverable.locker;
      idle = s.recoverable.idle;
      holder = λ y e. kept y (s.recoverable.holder y e);
    };
    means = means_rest p m m.mode m.reopening hold m.first loose m.gone s.means;
    stops = still_stops h m s.recoverable.begun h.devices.disk h.stable h.lock m.mode m.reopening m.locks hold loose s.stops (λ j. omega arith)
        (λ j k low high. ap (λ (l : List LooseChange). drop (length l - (length (h.live j) - k)) l) (looses j)) (λ j. rw (looses j) (s.stops.enough j)) (λ j k seat key at any e. e)
        (λ j rest. looses j ∙ s.stops.resting j rest) s.stops.owners s.stops.nodes;
  }
    where
      kept : (y : ℕ) → IsKeptBy m y (h.guard y) → IsKeptBy m' y (h.guard y)
      kept y (inl z) = inl (holds y ∙ z.0, z.1)
      kept y (inr z) = inr z

-- so it does where its tables are lost
pub survives_as_same : (held : Held) (dirty : ℕ → Bool) (h : History) (p : Plain) (m : Machine) (hold : ℕ → Option ℕ) (loose : ℕ → List LooseChange) → ((y : ℕ) → hold y ≡ m.hold y) → ((j : ℕ) → loose j ≡ m.loose j)
    → SurvivesAs held dirty h p m → SurvivesAs held dirty h p (record m { hold = hold; loose = loose })
survives_as_same held dirty h p m hold loose holds looses s = record {
  survives = survives_same dirty h p (record m { locks = held }) hold loose holds looses s.survives;
  own = s.own;
  lost = s.lost;
  awaits = s.awaits;
  quiet = s.quiet;
}

-- and where node n stops
pub survives_stop_same : (held : Held) (dirty : ℕ → Bool) (h : History) (p : Plain) (m : Machine) (hold : ℕ → Option ℕ) (loose : ℕ → List LooseChange) (n kept : ℕ) → ((y : ℕ) → hold y ≡ m.hold y) → ((j : ℕ) → loose j ≡ m.loose j)
    → SurvivesAs held dirty h p (stop n kept m) → SurvivesAs held dirty h p (stop n kept (record m { hold = hold; loose = loose }))
survives_stop_same held dirty h p m hold loose n kept holds looses s = subst (λ l. SurvivesAs held dirty h p (with_tables (down n (changes_back n (drop kept l) (record m { hold = hold; loose = loose }))))) (sym (looses n))
    (survives_as_same held dirty h p (stop n kept m) (λ y. if any_up (down n m) then hold y else None) (put n [] loose) (λ y. ap (λ o. if any_up (down n m) then o else None) (holds y)) (λ j. ap (λ l. if j == n then [] else l) (looses j)) s)

-- also as it takes back the open transactions of node u
pub survives_undo_same : (held : Held) (dirty : ℕ → Bool) (h : History) (p : Plain) (m : Machine) (hold : ℕ → Option ℕ) (loose : ℕ → List LooseChange) (u n kept : ℕ) → ((y : ℕ) → hold y ≡ m.hold y) → ((j : ℕ) → loose j ≡ m.loose j)
    → SurvivesAs held dirty h p (stop_in_undo u n kept m) → SurvivesAs held dirty h p (stop_in_undo u n kept (record m { hold = hold; loose = loose }))
survives_undo_same held dirty h p m hold loose u n kept holds looses s =
    subst (λ l. SurvivesAs held dirty h p (with_tables (record (down n (changes_back n (drop kept l) (record m { hold = hold; loose = loose }))) { mode = put u Down (put n Down m.mode) }))) (sym (looses n))
    (survives_as_same held dirty h p (stop_in_undo u n kept m) (λ y. if any_up there then hold y else None) (put n [] loose) (λ y. ap (λ o. if any_up there then o else None) (holds y)) (λ j. ap (λ l. if j == n then [] else l) (looses j)) s)
  where
    there : Machine
    there = record m { mode = put u Down (put n Down m.mode) }
