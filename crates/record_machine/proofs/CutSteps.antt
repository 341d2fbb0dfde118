-- What the cuts of the logs tell of the machine after a step that leaves what they told.
use Rattle.std.proofs.Common.{◌≡◌, ◌≢◌, ◌⊎◌, inl, inr, ◌≤◌, ℕ, Bool, true, List, length, IfSome, ap, sym, subst, ◌∙◌, arith, Option, Some, None, slice_index_or}
use Rattle.record_machine.proofs.Put.{put_other, put_same}
use Rattle.std.specs.List.{list_any}
use Rattle.std.proofs.lemmas.Bool.{cases_eq}
use Rattle.sd_base.specs.declared.names.Key.{Key}
use Rattle.sd_base.specs.Places.{slot_of_key}
use Rattle.log_record.specs.declared.record.LogRecord.{LogRecord}
use Rattle.record_locks.specs.declared.mode.Mode.TheVariants as locks
use Rattle.record_locks.specs.Held.{mode_of}
use Rattle.recovery_theory.specs.Effect.{OpenUpdate, left_of, of_slot}
use Rattle.recovery_theory.specs.History.{History}
use Rattle.recovery_theory.specs.Standing.{with_updates}
use Rattle.recovery_theory.specs.Steps.{IsPlaceToCut}
use Rattle.record_machine.specs.Cuts.{Survives, TellsLog, seat_of}
use Rattle.record_machine.specs.Machine.{Deed, Machine, Write, home, is_begin_in, is_busy, overlaid, put}
use Rattle.record_machine.specs.Meaning.{Plain, writes_key}
use Rattle.record_machine.specs.Recoverable.{TellsDeeds}
use Rattle.record_machine.proofs.Deeds.{logged-same}
use Rattle.record_machine.proofs.StopPages.{deeds_now}
use Rattle.record_machine.proofs.ToldNow.{AreOpened}

-- the cut behind all records is one
pub whole_place : (h : History) → ((j : ℕ) → h.stable j ≤ length (h.live j)) → (j : ℕ) → IsPlaceToCut h j (length (h.live j))
whole_place h sound j = record { low = sound j; high = omega arith }

-- so what is written at present is written by transactions that are open
pub opened_now : (dirty : ℕ → Bool) (h : History) (p : Plain) (m : Machine) → Survives dirty h p m → AreOpened m
opened_now dirty h p m s j seat key any = subst (λ ds. list_any (writes_key seat key) ds ≡ true → list_any (is_begin_in seat) ds ≡ true) (deeds_now h m j)
    ((s.stops.back j (length (h.live j)) (whole_place h s.recoverable.holds.history.sound j)).log.opened seat key) any

-- a value that is put back
pub put_back : {A : Type 0} (n : ℕ) (a : A) (f : ℕ → A) (k : ℕ) → put n (f n) (put n a f) k ≡ f k
put_back n a f k = go (cases_eq k n)
  where
    go : (k ≡ n) ⊎ (k ≢ n) → put n (f n) (put n a f) k ≡ f k
    go (inl e) = put_same n (f n) (put n a f) k e ∙ ap f (sym e)
    go (inr d) = put_other n (f n) (put n a f) k d ∙ put_other n a f k d

module _ (m m' : Machine) (begun begun' : ℕ → ℕ → ℕ) (j first : ℕ) (recs : List LogRecord) (ds : List Deed) (tells : TellsLog m begun j first recs ds) where
  pub told_still : ((seat key : ℕ) → list_any (writes_key seat key) ds ≡ true → m'.records key ≡ m.records key)
      → ((key x : ℕ) → home m key ≡ Some x → home m' key ≡ Some x)
      → ((seat key x : ℕ) → list_any (writes_key seat key) ds ≡ true → home m' key ≡ Some x → home m key ≡ Some x)
      → ((seat : ℕ) (key : Key) → list_any (writes_key seat key.0) ds ≡ true → mode_of m.locks key (seat_of j seat) ≡ Some locks.Write → mode_of m'.locks key (seat_of j seat) ≡ Some locks.Write)
      → ((seat : ℕ) → list_any (is_begin_in seat) ds ≡ true → is_busy m (seat_of j seat) ≡ true → is_busy m' (seat_of j seat) ≡ true)
      → ((seat : ℕ) → list_any (is_begin_in seat) ds ≡ true → begun' j seat ≡ begun j seat)
      → TellsLog m' begun' j first recs ds
  told_still same home_kept home_back lock_kept busy_kept begun_kept = record {
    deeds = logged-same first recs (λ seat. m.records) (λ seat. m'.records) ds tells.deeds same;
    rising = tells.rising;
    homes = λ i d low. at_home (slice_index_or ds i d).write (tells.homes i d low);
    locked = λ seat key any. lock_kept seat key any (tells.locked seat key any);
    opened = tells.opened;
    still = λ seat b. busy_kept seat b (tells.still seat b);
    seats = λ seat b. subst (TellsDeeds first recs ds seat) (sym (begun_kept seat b)) (tells.seats seat b);
    opens = λ txn left e. (let z = tells.opens txn left e in (z.0, z.1, begun_kept z.0 z.1 ∙ z.2));
    seen = seen;
  }
    where
      at_home : (o : Option Write) → IfSome o (λ w. home m w.key ≡ Some w.page) → IfSome o (λ w. home m' w.key ≡ Some w.page)
      at_home None e = tt
      at_home (Some w) e = home_kept w.key w.page e

      seen : (seat : ℕ) (key : Key) (x : ℕ) (left : List OpenUpdate) → list_any (writes_key seat key.0) ds ≡ true → home m' key.0 ≡ Some x → left_of (begun' j seat) first recs None ≡ Some left
          → overlaid seat key.0 (m'.records key.0) ds ≡ with_updates (of_slot x (slot_of_key key.0) left) (m'.records key.0)
      seen seat key x left any is going = subst (λ v. overlaid seat key.0 v ds ≡ with_updates (of_slot x (slot_of_key key.0) left) v) (sym (same seat key.0 any))
          (tells.seen seat key x left any (home_back seat key.0 x any is) (ap (λ b. left_of b first recs None) (sym (begun_kept seat (tells.opened seat key.0 any))) ∙ going))
