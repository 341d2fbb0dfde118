-- What taking back the open transactions of a node leaves as it was.
use Rattle.std.specs.Prelude.{⊤}
use Rattle.std.proofs.Common.{◌≡◌, ◌≢◌, ◌⊎◌, inl, inr, ◌==◌, ◌&&◌, ◌∷◌, [], ℕ, zero, suc, Bool, true, false, not, List, Option, Some, None, filter, is_none, min, option_and_then, refl, ap, ◌∙◌, ne_eqb, if◌then◌else◌}
use Rattle.std.specs.List.{list_any}
use Rattle.sd_base.specs.declared.names.Key.{Key}
use Rattle.sd_base.specs.declared.names.TxnId.{TxnId}
use Rattle.sd_base.specs.Places.{map_of_data}
use Rattle.record_locks.specs.declared.mode.Mode.{Mode}
use Rattle.record_locks.specs.Held.{mode_of, passing}
use Rattle.record_locks.specs.Order.{lock}
use Rattle.record_locks.proofs.HeldLaws.{get-locks_where}
use Rattle.record_machine.specs.Cuts.{seat_of}
use Rattle.record_machine.specs.Machine.{Deed, Machine, Write, is_write_in, newest_of, without_newest}
use Rattle.record_machine.specs.Meaning.{has_written}
use Rattle.record_machine.specs.Parts as part
use Rattle.record_machine.specs.Parts.{Seal, one, taken_back}
use Rattle.record_machine.specs.RecoverySteps.{ended_all, ended_for, freed, moves_for, newest_write, next_moves, moved, taken_back_from, undone, without_writes, writes_left}
use Rattle.record_machine.specs.Stops.{recovered}
use Rattle.record_machine.proofs.Newest.{no_keys}
use Rattle.record_machine.proofs.Put.{put_other}
use Rattle.record_machine.proofs.SealSteps.{same_or_not, sealed_others, sealed_own, seen_nothing}

-- the committed records, the other nodes' deeds and the locks are as they were
record Kept (u : ℕ) (m k : Machine) : Type 0 where
  records : (key : ℕ) → k.records key ≡ m.records key
  others : (j : ℕ) → j ≢ u → k.pending j ≡ m.pending j
  held : k.locks ≡ m.locks

kept_all : (u : ℕ) (m : Machine) → Kept u m m
kept_all u m = record { records = λ key. refl; others = λ j d. refl; held = refl }

kept_then : (u : ℕ) (m k l : Machine) → Kept u m k → Kept u k l → Kept u m l
kept_then u m k l a b = record { records = λ key. b.records key ∙ a.records key; others = λ j d. b.others j d ∙ a.others j d; held = b.held ∙ a.held }

-- ---- writes are taken back

kept_back : (u seat : ℕ) (m : Machine) (o : Option Write) → Kept u m (part.all_sure u (taken_back (seat_of u seat) o m))
kept_back u seat m None = record { records = λ key. refl; others = λ j d. refl; held = refl }
kept_back u seat m (Some w) = record { records = λ key. refl; others = λ j d. put_other u (without_newest seat (m.pending u)) m.pending j d; held = refl }

kept_moves : (u : ℕ) (m : Machine) (d : Deed) (o : Option Write) → d.write ≡ o → Kept u m (moved (moves_for m u d) m)
kept_moves u m d None e = rw e (kept_all u m)
kept_moves u m d (Some w) e = rw e (record { records = after.records; others = after.others; held = after.held })
  where
    taken : Machine
    taken = one (part.Take w.page u) (one (part.Take (map_of_data m.shape (record { 0 = w.page })).0 u) m)

    after : Kept u taken (part.all_sure u (taken_back (seat_of u d.seat) (option_and_then (λ e. e.write) (newest_of taken (seat_of u d.seat))) taken))
    after = kept_back u d.seat taken (option_and_then (λ e. e.write) (newest_of taken (seat_of u d.seat)))

kept_next : (u : ℕ) (m : Machine) (o : Option Deed) → newest_write (m.pending u) ≡ o → Kept u m (moved (next_moves u m) m)
kept_next u m None e = rw e (kept_all u m)
kept_next u m (Some d) e = rw e (kept_moves u m d d.write refl)

kept_from : (u count : ℕ) (m : Machine) → Kept u m (taken_back_from u count m)
kept_from u zero m = kept_all u m
kept_from u (suc count) m = kept_then u m (moved (next_moves u m) m) (taken_back_from u count (moved (next_moves u m) m)) (kept_next u m (newest_write (m.pending u)) refl) (kept_from u count (moved (next_moves u m) m))

-- ---- transactions without a write end

abbrev NoWrites : ℕ → List Deed → Machine → Type 0
NoWrites u [] m = ⊤
NoWrites u (d ∷ ds) m = ((key : ℕ) → has_written m (seat_of u d.seat) key ≡ false) × NoWrites u ds m

still_none : (u seat : ℕ) (ds : List Deed) (m : Machine) → NoWrites u ds m → NoWrites u ds (one (Seal (seat_of u seat)) m)
still_none u seat [] m none = tt
still_none u seat (d ∷ ds) m none = (λ key. by key (same_or_not (seat_of u seat) (seat_of u d.seat)), still_none u seat ds m none.1)
  where
    by : (key : ℕ) → (seat_of u d.seat ≡ seat_of u seat) ⊎ (seat_of u d.seat ≢ seat_of u seat) → has_written (one (Seal (seat_of u seat)) m) (seat_of u d.seat) key ≡ false
    by key (inl same) = ap (λ t. has_written (one (Seal (seat_of u seat)) m) t key) same ∙ sealed_own (seat_of u seat) m key
    by key (inr other) = sealed_others (seat_of u seat) (seat_of u d.seat) m key other ∙ none.0 key

kept_seal : (u seat : ℕ) (m : Machine) → ((key : ℕ) → has_written m (seat_of u seat) key ≡ false) → Kept u m (one (Seal (seat_of u seat)) m)
kept_seal u seat m none = record {
  records = λ key. seen_nothing (seat_of u seat) (seat_of u seat) m key (m.records key) (none key);
  others = λ j d. put_other u (filter (λ d. not (d.seat == seat)) (m.pending u)) m.pending j d;
  held = refl;
}

kept_ends : (u : ℕ) (ds : List Deed) (m : Machine) → NoWrites u ds m → Kept u m (ended_for u ds m)
kept_ends u [] m none = kept_all u m
kept_ends u (d ∷ ds) m none = kept_then u m (one (Seal (seat_of u d.seat)) m) (ended_for u ds (one (Seal (seat_of u d.seat)) m)) (kept_seal u d.seat m none.0) (kept_ends u ds (one (Seal (seat_of u d.seat)) m) (still_none u d.seat ds m none.1))

none_there : (u : ℕ) (m : Machine) (ds : List Deed) → NoWrites u (filter (λ d. is_none d.write && not (list_any (is_write_in d.seat) (m.pending u))) ds) m
none_there u m [] = tt
none_there u m (d ∷ ds) = go (is_none d.write) refl (list_any (is_write_in d.seat) (m.pending u)) refl (none_there u m ds)
  where
    go : (a : Bool) → is_none d.write ≡ a → (b : Bool) → list_any (is_write_in d.seat) (m.pending u) ≡ b → NoWrites u (filter (λ d. is_none d.write && not (list_any (is_write_in d.seat) (m.pending u))) ds) m
        → NoWrites u (filter (λ d. is_none d.write && not (list_any (is_write_in d.seat) (m.pending u))) (d ∷ ds)) m
    go false p b q rest = rw p rest
    go true p true q rest = rw (p, q) rest
    go true p false q rest = rw (p, q) (λ key. no_keys d.seat key (m.pending u) q, rest)

kept_ended : (u count : ℕ) (m : Machine) → Kept u m (ended_all u (taken_back_from u count m))
kept_ended u count m = kept_then u m (taken_back_from u count m) (ended_all u (taken_back_from u count m)) (kept_from u count m)
    (kept_ends u (without_writes u (taken_back_from u count m)) (taken_back_from u count m) (none_there u (taken_back_from u count m) ((taken_back_from u count m).pending u)))

-- ---- the whole

abbrev finished : Bool → (u w : ℕ) → Machine → Machine
finished b u w k = if b then recovered (freed u w k) else k

same_records : (b : Bool) (u w : ℕ) (k : Machine) (key : ℕ) → (finished b u w k).records key ≡ k.records key
same_records true u w k key = refl
same_records false u w k key = refl

same_pending : (b : Bool) (u w : ℕ) (k : Machine) (j : ℕ) → (finished b u w k).pending j ≡ k.pending j
same_pending true u w k j = refl
same_pending false u w k j = refl

same_locks : (b : Bool) (u w : ℕ) (k : Machine) (key : Key) (t : TxnId) → t.node.0 ≢ u → mode_of (finished b u w k).locks key t ≡ mode_of k.locks key t
same_locks false u w k key t d = refl
same_locks true u w k key t d = get-locks_where (λ l mode. not (l.txn.node.0 == u)) k.locks (lock key t) ∙ by (mode_of k.locks key t)
  where
    by : (o : Option Mode) → passing (λ l mode. not (l.txn.node.0 == u)) (lock key t) o ≡ o
    by None = refl
    by (Some mode) = rw (ne_eqb t.node.0 u d) refl

pub undone_records : (m : Machine) (u w count key : ℕ) → (undone u w count m).records key ≡ m.records key
undone_records m u w count key = let k = ended_all u (taken_back_from u (min count (writes_left u m)) m) in same_records (writes_left u k == 0) u w k key ∙ (kept_ended u (min count (writes_left u m)) m).records key

pub undone_others : (m : Machine) (u w count j : ℕ) → j ≢ u → (undone u w count m).pending j ≡ m.pending j
undone_others m u w count j d = let k = ended_all u (taken_back_from u (min count (writes_left u m)) m) in same_pending (writes_left u k == 0) u w k j ∙ (kept_ended u (min count (writes_left u m)) m).others j d

pub undone_locks : (m : Machine) (u w count : ℕ) (key : Key) (t : TxnId) → t.node.0 ≢ u → mode_of (undone u w count m).locks key t ≡ mode_of m.locks key t
undone_locks m u w count key t d =
    let k = ended_all u (taken_back_from u (min count (writes_left u m)) m) in
    same_locks (writes_left u k == 0) u w k key t d ∙ ap (λ l. mode_of l key t) (kept_ended u (min count (writes_left u m)) m).held
