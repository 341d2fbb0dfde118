-- A node's log is stable as a whole: so are the records of each page that the node guards.
use Rattle.std.proofs.Common.{◌≡◌, ◌≢◌, ◌⊎◌, inl, inr, ℕ, ◌≤◌, Bool, false, cond, eqb, length, refl, ap, sym, subst, ◌∙◌, arith, eq-eqb, ne_eqb}
use Rattle.std.specs.List.{list_any}
use Rattle.std.proofs.lemmas.Bool.{cases_eq}
use Rattle.recovery_theory.specs.History.{History, entry_now, image_now}
use Rattle.recovery_theory.specs.Steps.{IsPlaceToCut, forced}
use Rattle.recovery_theory.proofs.Cuts.{set_at-same}
use Rattle.record_machine.specs.Cuts.{Survives, behind_cut, touches}
use Rattle.record_machine.specs.Machine.{Machine}
use Rattle.record_machine.specs.Meaning.{Plain}
use Rattle.record_machine.proofs.StillStops.{forced_survives}
use Rattle.record_machine.proofs.StopPages.{nothing_behind}

-- the whole log of the node is stable, and the last record of each of its pages stands in it
abbrev pub whole : History → ℕ → History
whole h n = record (forced h n (length (h.live n))) { last = λ x. cond (eqb (h.guard x) n) (length (h.live n)) (h.last x) }

-- so many records are stable then,
pub whole_stable : (h : History) (n : ℕ) → (whole h n).stable n ≡ length (h.live n)
whole_stable h n = set_at-same n (length (h.live n)) h.stable

-- and those of its pages are among them
pub whole_sure : (h : History) (n x : ℕ) → h.guard x ≡ n → (whole h n).last x ≤ (whole h n).stable (h.guard x)
whole_sure h n x at = rw (eq-eqb (h.guard x) n at) (omega arith)

module _ (dirty : ℕ → Bool) (h : History) (p : Plain) (m : Machine) (n : ℕ) (s : Survives dirty h p m) where
  f : Survives dirty (forced h n (length (h.live n))) p m
  f = forced_survives dirty h p m n (length (h.live n)) s (s.recoverable.holds.history.sound n) (omega arith)

  steady : (x k : ℕ) → (whole h n).last x ≤ k → k ≤ length (h.live (h.guard x)) → (h.guard x ≡ n) ⊎ (h.guard x ≢ n) → (h.image x k ≡ image_now h x) × (h.entry x k ≡ entry_now h x)
  steady x k low high (inl at) =
      let from : length (h.live n) ≤ k = rw (eq-eqb (h.guard x) n at) at low in
      let long : length (h.live (h.guard x)) ≡ length (h.live n) = ap (λ j. length (h.live j)) at in
      let end : k ≡ length (h.live (h.guard x)) = omega (arith, from, long, high) in
      (ap (h.image x) end, ap (h.entry x) end)
  steady x k low high (inr off) = f.recoverable.holds.history.steady x k (rw (ne_eqb (h.guard x) n off) at low) high

  sure : (x : ℕ) → h.last x ≤ (forced h n (length (h.live n))).stable (h.guard x) → (h.guard x ≡ n) ⊎ (h.guard x ≢ n) → (whole h n).last x ≤ (whole h n).stable (h.guard x)
  sure x was (inl at) = whole_sure h n x at
  sure x was (inr off) = let last : (whole h n).last x ≡ h.last x = rw (ne_eqb (h.guard x) n off) refl in subst (λ k. k ≤ (whole h n).stable (h.guard x)) (sym last) was

  -- no change of a page is behind a cut that has its last record
  off_page : (x j k : ℕ) → IsPlaceToCut (whole h n) j k → (h.guard x ≢ j) ⊎ ((whole h n).last x ≤ k) → (h.guard x ≡ n) ⊎ (h.guard x ≢ n) → (h.guard x ≡ j) ⊎ (h.guard x ≢ j) → list_any (touches x) (behind_cut h m j k) ≡ false
  off_page x j k at how end (inr apart) = (f.stops.back j k (record { low = at.low; high = at.high })).others x (inl apart)
  off_page x j k at (inl apart) end (inl own) = absurd (apart own)
  off_page x j k at (inr last) (inr off) (inl own) = (f.stops.back j k (record { low = at.low; high = at.high })).others x (inr (rw (ne_eqb (h.guard x) n off) at last))
  off_page x j k at (inr last) (inl end) (inl own) =
      let from : length (h.live n) ≤ k = rw (eq-eqb (h.guard x) n end) at last in
      let long : length (h.live j) ≡ length (h.live n) = ap (λ i. length (h.live i)) (sym own ∙ end) in
      let high = at.high in
      let is : k ≡ length (h.live j) = omega (arith, from, long, high) in
      ap (list_any (touches x)) (ap (behind_cut h m j) is ∙ nothing_behind h m j)

  pub whole_survives : Survives dirty (whole h n) p m
  whole_survives = record {
    recoverable = record {
      holds = record {
        history = record {
          sound = f.recoverable.holds.history.sound;
          steady = λ x k low high. steady x k low high (cases_eq (h.guard x) n);
          stands = f.recoverable.holds.history.stands;
        };
        keys = f.recoverable.holds.keys;
        pending = f.recoverable.holds.pending;
      };
      roomy = record { whole = f.recoverable.roomy.whole; loose = f.recoverable.roomy.loose };
      rolled = record { others = f.recoverable.rolled.others; own = f.recoverable.rolled.own };
      shape = f.recoverable.shape;
      first = f.recoverable.first;
      live = f.recoverable.live;
      maps = f.recoverable.maps;
      pages = f.recoverable.pages;
      guard = f.recoverable.guard;
      stored = λ x clean. (let z = f.recoverable.stored x clean in record { sure = sure x z.sure (cases_eq (h.guard x) n); clean = z.clean });
      holder = f.recoverable.holder;
      begun = f.recoverable.begun;
      seats = λ t busy. (let z = f.recoverable.seats t busy in record { left = z.left; going = z.going; begins = z.begins; writes = z.writes });
      opens = λ k txn us e. (let z = f.recoverable.opens k txn us e in record { who = z.who; node = z.node; busy = z.busy; begins = z.begins });
      below = f.recoverable.below;
      apart = f.recoverable.apart;
      locked = f.recoverable.locked;
      locker = f.recoverable.locker;
      idle = f.recoverable.idle;
    };
    means = f.means;
    stops = record {
      enough = f.stops.enough;
      back = λ j k at. (let b = f.stops.back j k (record { low = at.low; high = at.high }) in record {
        log = b.log;
        tail = b.tail;
        ident = b.ident;
        entries = b.entries;
        others = λ x how. off_page x j k at how (cases_eq (h.guard x) n) (cases_eq (h.guard x) j);
        writes = b.writes;
      });
      used = λ x k at used. f.stops.used x k (record { low = at.low; high = at.high }) used;
      resting = f.stops.resting;
      owners = f.stops.owners;
      nodes = f.stops.nodes;
    };
  }
