-- Steps that change neither the present pages nor the records: a page passes to another node, is written, or more is stable.
use Rattle.std.proofs.Common.{◌≡◌, ◌≢◌, ◌⊎◌, inl, inr, ℕ, ◌+◌, ◌*◌, ◌<◌, ◌≤◌, Bool, true, false, cond, eqb, length, refl, ap, sym, subst, ◌∙◌, arith, Option, Some, None, eq-eqb, ne_eqb}
use Rattle.std.proofs.lemmas.Bool.{cases_eq}
use Rattle.sd_base.specs.declared.names.TxnId.{TxnId}
use Rattle.record_machine.specs.Machine as machine
use Rattle.record_machine.specs.Machine.{Down, Idle, Machine, Up}
use Rattle.space_map.specs.PageImage.{PageImage}
use Rattle.recovery_theory.specs.History.{History, IsCut, entry_now, image_now}
use Rattle.recovery_theory.specs.Steps.{on_disk, passed, set_at}
use Rattle.recovery_theory.proofs.Room.{force_keeps_room}
use Rattle.recovery_theory.proofs.Headroom.{force_keeps_rising, pass_keeps_rising}
use Rattle.recovery_theory.proofs.KeptRecords.{force_keeps, pass_keeps, write_keeps}
use Rattle.recovery_theory.proofs.PageLaws.{in_life_from-same}
use Rattle.recovery_theory.proofs.SlotChanges.{birth_le}
use Rattle.record_machine.proofs.Put.{at_or_off, put_other}
use Rattle.sd_base.specs.Places.{page_of_place}
use Rattle.sd_base.specs.Shape.{pages_per_map}
use Rattle.record_machine.specs.Meaning.{Plain}
use Rattle.record_machine.specs.Recoverable.{IsKeptBy, IsKnown, IsStored, Recoverable}
use Rattle.record_machine.specs.Parts.{Start, Take, one}
use Rattle.record_machine.specs.RecoverableParts.{StartedRecoverable, ForcedRecoverable, TakenRecoverable, WrittenRecoverable}

-- a page that passed is the same page
pub passed_image : (h : History) (x n y : ℕ) → image_now (passed h x n) y ≡ image_now h y
passed_image h x n y = go (cases_eq y x)
  where
    go : (y ≡ x) ⊎ (y ≢ x) → image_now (passed h x n) y ≡ image_now h y
    go (inl e) = rw (e, eq-eqb x x refl) refl
    go (inr d) = rw (ne_eqb y x d) refl

passed_entry : (h : History) (x n y : ℕ) → entry_now (passed h x n) y ≡ entry_now h y
passed_entry h x n y = go (cases_eq y x)
  where
    go : (y ≡ x) ⊎ (y ≢ x) → entry_now (passed h x n) y ≡ entry_now h y
    go (inl e) = rw (e, eq-eqb x x refl) refl
    go (inr d) = rw (ne_eqb y x d) refl

passed_stored : (h : History) (x n y : ℕ) → IsStored h x → IsStored h y → IsStored (passed h x n) y
passed_stored h x n y was is = record {
  sure = go (cases_eq y x);
  clean = rw (passed_image h x n y, passed_entry h x n y) is.clean;
}
  where
    go : (y ≡ x) ⊎ (y ≢ x) → set_at x 0 h.last y ≤ h.stable (set_at x n h.guard y)
    go (inl e) = rw (eq-eqb y x e) (omega arith)
    go (inr d) = rw (ne_eqb y x d) is.sure

pub taken_recoverable : TakenRecoverable
taken_recoverable dirty h p m x n r clean map_held =
    let s = r.stored x clean in record {
      holds = pass_keeps h x n m.records r.holds (record { stable = s.sure; clean = s.clean; with_map = λ k q lt le e. r.guard k n (map_held k q (rw (ap (λ z. z.maps) (sym r.shape)) lt) le (rw (sym r.shape) e)) });
      shape = r.shape;
      first = r.first;
      live = r.live;
      roomy = record { whole = r.roomy.whole; loose = r.roomy.loose };
      rolled = pass_keeps_rising h x n r.holds.history r.rolled s.sure;
      maps = λ y lt. passed_image h x n y ∙ r.maps y lt;
      pages = λ y low high. passed_image h x n y ∙ r.pages y low high;
      guard = λ y k e. guard y k e (cases_eq y x);
      stored = λ y e. passed_stored h x n y s (r.stored y e);
      begun = r.begun;
      seats = λ t busy. let z = r.seats t busy in record { left = z.left; going = z.going; begins = z.begins; writes = z.writes };
      opens = λ k txn us e. let z = r.opens k txn us e in record { who = z.who; node = z.node; busy = z.busy; begins = z.begins };
      below = r.below;
      idle = r.idle;
      holder = λ y e. holder y e (cases_eq y x);
      apart = r.apart;
      locked = r.locked;
      locker = r.locker;
    }
  where
    holder : (y : ℕ) → dirty y ≡ true → (y ≡ x) ⊎ (y ≢ x) → IsKeptBy (one (Take x n) m) y (set_at x n h.guard y)
    holder y e (inl z) = let never : true ≡ false = sym e ∙ (ap dirty z ∙ clean) in absurd cc
    holder y e (inr d) = rw (ne_eqb y x d) (r.holder y e)

    guard : (y k : ℕ) → machine.put x (Some n) m.hold y ≡ Some k → (y ≡ x) ⊎ (y ≢ x) → set_at x n h.guard y ≡ k
    guard y k e (inl z) =
        let e' : Some n ≡ Some k = rw (eq-eqb y x z) at e in
        rw (eq-eqb y x z) cc
    guard y k e (inr d) = rw (ne_eqb y x d) (r.guard y k (rw (ne_eqb y x d) at e))

pub forced_recoverable : ForcedRecoverable
forced_recoverable dirty h p m n k r low high = record {
  holds = force_keeps h n k m.records r.holds (record { low = low; high = high });
  shape = r.shape;
  first = r.first;
  live = r.live;
  roomy = force_keeps_room h n k r.roomy low;
  rolled = force_keeps_rising h n k r.rolled low;
  maps = r.maps;
  pages = r.pages;
  guard = r.guard;
  stored = λ x e. let s = r.stored x e in record { sure = sure x s.sure (cases_eq (h.guard x) n); clean = s.clean };
  begun = r.begun;
  seats = λ t busy. let z = r.seats t busy in record { left = z.left; going = z.going; begins = z.begins; writes = z.writes };
  opens = λ k txn us e. let z = r.opens k txn us e in record { who = z.who; node = z.node; busy = z.busy; begins = z.begins };
  below = r.below;
  idle = r.idle;
  holder = r.holder;
  apart = r.apart;
  locked = r.locked;
  locker = r.locker;
}
  where
    sure : (x : ℕ) → h.last x ≤ h.stable (h.guard x) → (h.guard x ≡ n) ⊎ (h.guard x ≢ n) → h.last x ≤ set_at n k h.stable (h.guard x)
    sure x s (inl e) = let low' : h.stable (h.guard x) ≤ k = rw e low in rw (eq-eqb (h.guard x) n e) (omega arith)
    sure x s (inr d) = rw (ne_eqb (h.guard x) n d) s

-- a page is as its in_life_from at least
pub born_now : (h : History) (x : ℕ) (records : ℕ → Option (Rattle.std.proofs.Common.List ℕ)) → Rattle.recovery_theory.specs.Records.Holds h records → Rattle.recovery_theory.specs.Pages.birth_of (entry_now h x) ≤ Rattle.space_map.specs.PageImage.ident_of (image_now h x)
born_now h x records holds = birth_le h.devices (Rattle.recovery_theory.specs.History.logs_at h end) (Rattle.recovery_theory.specs.Pages.birth_of (entry_now h x)) (image_now h x) x (h.guard x) ((holds.history.stands end (λ n. (holds.history.sound n, omega arith))).pages x)
  where
    end : ℕ → ℕ
    end n = length (h.live n)

pub written_recoverable : WrittenRecoverable
written_recoverable dirty h p m x r sure = record {
  holds = write_keeps h x m.records r.holds sure;
  shape = r.shape;
  first = r.first;
  live = r.live;
  roomy = record {
    whole = record { ruled = r.roomy.whole.ruled; fits = λ n. (let f = r.roomy.whole.fits n in record { room = f.room; last = f.last }) };
    loose = r.roomy.loose;
  };
  rolled = record { others = r.rolled.others; own = r.rolled.own };
  maps = r.maps;
  pages = r.pages;
  guard = r.guard;
  stored = λ y e. stored y e (cases_eq y x);
  begun = r.begun;
  seats = λ t busy. let z = r.seats t busy in record { left = z.left; going = z.going; begins = z.begins; writes = z.writes };
  opens = λ k txn us e. let z = r.opens k txn us e in record { who = z.who; node = z.node; busy = z.busy; begins = z.begins };
  below = r.below;
  idle = r.idle;
  holder = λ y. at_or_off (λ b. b ≡ true → IsKeptBy m y (h.guard y)) x false dirty y (λ same e. absurd cc) (λ off e. r.holder y e);
  apart = r.apart;
  locked = r.locked;
  locker = r.locker;
}
  where
    stored : (y : ℕ) → machine.put x false dirty y ≡ false → (y ≡ x) ⊎ (y ≢ x) → IsStored (on_disk h x (Some (image_now h x))) y
    stored y e (inl z) = record {
      sure = rw z sure;
      clean = inr (image_now h x, rw (eq-eqb y x z) refl, rw z (in_life_from-same x (Rattle.recovery_theory.specs.Pages.birth_of (entry_now h x)) (image_now h x) (born_now h x m.records r.holds)));
    }
    stored y e (inr d) = let s = r.stored y (rw (ne_eqb y x d) at e) in record { sure = s.sure; clean = rw (ne_eqb y x d) s.clean }

pub started_recoverable : StartedRecoverable
started_recoverable dirty h p m n r rest = record {
  holds = r.holds;
  shape = r.shape;
  first = r.first;
  live = r.live;
  roomy = r.roomy;
  rolled = r.rolled;
  maps = r.maps;
  pages = r.pages;
  guard = r.guard;
  stored = r.stored;
  begun = r.begun;
  seats = λ t busy. let z = r.seats t busy in record { left = z.left; going = z.going; begins = z.begins; writes = z.writes };
  opens = λ k txn us e. let z = r.opens k txn us e in record { who = z.who; node = z.node; busy = z.busy; begins = z.begins };
  below = λ t up k. below t up k (cases_eq t.node.0 n);
  apart = r.apart;
  locked = r.locked;
  locker = r.locker;
  idle = λ t still k. idle t still k (cases_eq t.node.0 n);
  holder = λ x e. up (h.guard x) (r.holder x e);
}
  where
    up : {x : ℕ} (g : ℕ) → IsKeptBy m x g → IsKeptBy (one (Start n) m) x g
    up g (inl z) = inl (z.0, at_or_off (λ mode. mode ≢ Idle) n Up m.mode g (λ same e. absurd cc) (λ off. z.1))
    up g (inr z) = inr (z.0, put_other n Up m.mode g (λ same. let never : Idle ≡ Down = sym rest ∙ (ap m.mode (sym same) ∙ z.1) in absurd cc) ∙ z.1)

    below : (t : TxnId) → machine.put n Up m.mode t.node.0 ≡ Up → IsKnown m t → (t.node.0 ≡ n) ⊎ (t.node.0 ≢ n) → r.begun t.node.0 t.seat < h.devices.first t.node.0 + length (h.live t.node.0)
    below t up k (inl e) = absurd (r.idle t (ap m.mode e ∙ rest) k)
    below t up k (inr d) = r.below t (sym (put_other n Up m.mode t.node.0 d) ∙ up) k

    idle : (t : TxnId) → machine.put n Up m.mode t.node.0 ≡ Idle → IsKnown m t → (t.node.0 ≡ n) ⊎ (t.node.0 ≢ n) → ⊥
    idle t still k (inl e) = r.idle t (ap m.mode e ∙ rest) k
    idle t still k (inr d) = r.idle t (sym (put_other n Up m.mode t.node.0 d) ∙ still) k

-- ---- the transactions in the seats begin as they did

pub taken_begun : (dirty : ℕ → Bool) (h : History) (p : Plain) (m : Machine) (x n : ℕ) (r : Recoverable dirty h p m) (clean : dirty x ≡ false)
    (map_held : (map place : ℕ) → map < m.shape.maps → place < pages_per_map → x ≡ page_of_place m.shape map place → m.hold map ≡ Some n) → (taken_recoverable dirty h p m x n r clean map_held).begun ≡ r.begun
unfolding taken_recoverable
taken_begun dirty h p m x n r clean map_held = refl

pub forced_begun : (dirty : ℕ → Bool) (h : History) (p : Plain) (m : Machine) (n k : ℕ) (r : Recoverable dirty h p m) (low : h.stable n ≤ k) (high : k ≤ length (h.live n)) → (forced_recoverable dirty h p m n k r low high).begun ≡ r.begun
unfolding forced_recoverable
forced_begun dirty h p m n k r low high = refl

pub written_begun : (dirty : ℕ → Bool) (h : History) (p : Plain) (m : Machine) (x : ℕ) (r : Recoverable dirty h p m) (sure : h.last x ≤ h.stable (h.guard x)) → (written_recoverable dirty h p m x r sure).begun ≡ r.begun
unfolding written_recoverable
written_begun dirty h p m x r sure = refl

pub started_begun : (dirty : ℕ → Bool) (h : History) (p : Plain) (m : Machine) (n : ℕ) (r : Recoverable dirty h p m) (rest : m.mode n ≡ Idle) → (started_recoverable dirty h p m n r rest).begun ≡ r.begun
unfolding started_recoverable
started_begun dirty h p m n r rest = refl
