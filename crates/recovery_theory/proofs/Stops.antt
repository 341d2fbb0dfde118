-- A node stops: one of the cuts is taken.
use Rattle.std.proofs.Common.{◌≡◌, ◌≢◌, ◌⊎◌, inl, inr, ℕ, ◌≤◌, cond, eqb, length, take, refl, ap, sym, arith, eq-eqb, ne_eqb, take-take, length-take-le}
use Rattle.std.proofs.lemmas.Bool.{cases_eq}
use Rattle.recovery_theory.specs.History.{History, IsCut, logs_at, image_at, entry_at}
use Rattle.recovery_theory.specs.Steps.{IsPlaceToCut, set_at, stopped, StopKeepsHistory, ForceKeepsHistory}
use Rattle.recovery_theory.proofs.Cuts.{at_or_off, set_at-same, set_at-other, stands_ext}

pub forces : ForceKeepsHistory
forces p n k history place = record {
  sound = at_or_off (λ m. set_at n k p.stable m ≤ length (p.live m)) n (rw (set_at-same n k p.stable) place.high) (λ m d. rw (set_at-other n k p.stable m d) (history.sound m));
  steady = history.steady;
  stands = λ cut is. history.stands cut (at_or_off (λ m. (p.stable m ≤ cut m) × (cut m ≤ length (p.live m))) n
      (let h = rw (set_at-same n k p.stable) at (is n).0 in (omega (arith, place.low), (is n).1))
      (λ m d. (rw (set_at-other n k p.stable m d) at (is m).0, (is m).1)));
}

-- the cut of n's log behind a stop
pub stopped_at : (p : History) (n k : ℕ) → IsPlaceToCut p n k → (cut : ℕ → ℕ) → IsCut (stopped p n k) cut → cut n ≡ k
stopped_at p n k place cut is =
    let a = rw (set_at-same n k p.stable) at (is n).0 in
    let b = rw (set_at-same n (take k (p.live n)) p.live) at (is n).1 in
    omega (arith, place.low, place.high, length-take-le k (p.live n) place.high)

-- each cut behind it is one of those before it, with the same logs
pub stopped_cut : (p : History) (n k : ℕ) → IsPlaceToCut p n k → (cut : ℕ → ℕ) → IsCut (stopped p n k) cut → IsCut p cut
stopped_cut p n k place cut is = at_or_off (λ m. (p.stable m ≤ cut m) × (cut m ≤ length (p.live m))) n
    (let e = stopped_at p n k place cut is in (omega (arith, place.low, place.high), omega (arith, place.low, place.high)))
    (λ m d. (rw (set_at-other n k p.stable m d) at (is m).0, rw (set_at-other n (take k (p.live n)) p.live m d) at (is m).1))

pub stopped_logs : (p : History) (n k : ℕ) → IsPlaceToCut p n k → (cut : ℕ → ℕ) → IsCut (stopped p n k) cut → (m : ℕ) → take (cut m) (p.live m) ≡ take (cut m) (set_at n (take k (p.live n)) p.live m)
stopped_logs p n k place cut is = at_or_off (λ m. take (cut m) (p.live m) ≡ take (cut m) (set_at n (take k (p.live n)) p.live m)) n
    (let e = stopped_at p n k place cut is in rw (set_at-same n (take k (p.live n)) p.live) (sym (take-take (cut n) k (p.live n) (omega arith))))
    (λ m d. rw (set_at-other n (take k (p.live n)) p.live m d) refl)

pub stops : StopKeepsHistory
stops p n k history place = record {
  sound = at_or_off (λ m. set_at n k p.stable m ≤ length (set_at n (take k (p.live n)) p.live m)) n
      (rw (set_at-same n k p.stable, set_at-same n (take k (p.live n)) p.live) (omega (arith, place.low, place.high, long)))
      (λ m d. rw (set_at-other n k p.stable m d, set_at-other n (take k (p.live n)) p.live m d) (history.sound m));
  steady = λ y j l h. steady y j l h (cases_eq (p.guard y) n);
  stands = λ cut is.
      let legal = stopped_cut p n k place cut is in
      stands_ext p.devices (logs_at p cut) (logs_at (stopped p n k) cut) p.guard (entry_at p cut) (entry_at (stopped p n k) cut) (image_at p cut) (image_at (stopped p n k) cut) p.settled p.lock
      (stopped_logs p n k place cut is) (λ y. refl) (λ y. refl) (history.stands cut legal);
}
  where
    long : length (take k (p.live n)) ≡ k
    long = length-take-le k (p.live n) place.high

    steady : (y j : ℕ) → cond (eqb (p.guard y) n) k (p.last y) ≤ j → j ≤ length (set_at n (take k (p.live n)) p.live (p.guard y)) → (p.guard y ≡ n) ⊎ (p.guard y ≢ n)
        → (p.image y j ≡ p.image y (length (set_at n (take k (p.live n)) p.live (p.guard y)))) × (p.entry y j ≡ p.entry y (length (set_at n (take k (p.live n)) p.live (p.guard y))))
    steady y j l h (inl g) =
        let l' = rw (eq-eqb (p.guard y) n g) at l in
        let e : length (set_at n (take k (p.live n)) p.live (p.guard y)) ≡ k = rw (g, set_at-same n (take k (p.live n)) p.live) long in
        let q : j ≡ length (set_at n (take k (p.live n)) p.live (p.guard y)) = omega (arith, place.low, place.high) in
        (ap (p.image y) q, ap (p.entry y) q)
    steady y j l h (inr d) =
        let l' = rw (ne_eqb (p.guard y) n d) at l in
        let e : set_at n (take k (p.live n)) p.live (p.guard y) ≡ p.live (p.guard y) = set_at-other n (take k (p.live n)) p.live (p.guard y) d in
        let h' : j ≤ length (p.live (p.guard y)) = rw e at h in
        rw e (history.steady y j l' h')
