-- Where a stop may cut a node's log: which changes of the machine it takes back then, and what the shorter log says.
use Rattle.std.specs.Prelude.{◌≡◌, ◌≢◌, ◌⊎◌, ◌==◌, ◌||◌, ◌+◌, ◌-◌, ◌<◌, ◌≤◌, ℕ, Bool, true, false, List, [], All, IfSome, Option, Some, None, drop, length, take}
use Rattle.std.specs.FinMap as finite
use Rattle.recovery_theory.specs.Pages.{is_used}
use Rattle.std.specs.List.{count_by, list_any}
use Rattle.sd_base.specs.declared.names.Key.{Key}
use Rattle.sd_base.specs.declared.names.TxnId.{TxnId}
use Rattle.sd_base.specs.Places.{slot_of_key}
use Rattle.sd_base.specs.Shape.{page_count}
use Rattle.log_record.specs.declared.record.LogRecord.{LogRecord}
use Rattle.record_locks.specs.declared.mode.Mode.TheVariants as locks
use Rattle.record_locks.specs.declared.mode.Mode.{Mode}
use Rattle.record_locks.specs.Held.{Held, mode_of}
use Rattle.space_map.specs.Image.{MapImage}
use Rattle.space_map.specs.PageImage.{ident_of, map_page}
use Rattle.recovery_theory.specs.Effect.{OpenUpdate, left_of, of_slot, steps_on}
use Rattle.recovery_theory.specs.History.{History, entry_now}
use Rattle.recovery_theory.specs.Standing.{with_updates}
use Rattle.recovery_theory.specs.Steps.{IsPlaceToCut}
use Rattle.record_machine.specs.Machine.{Deed, EntriesBefore, Idle, LooseChange, Machine, Up, home, is_begin_in, is_busy, overlaid, writes_page}
use Rattle.record_machine.specs.Meaning.{AreInOrder, AreLogged, Means, Plain, first_record, writes_key}
use Rattle.record_machine.specs.Parts.{is_of_page}
use Rattle.record_machine.specs.Recoverable.{Recoverable, TellsDeeds}
use Rattle.record_machine.specs.Stops.{any_awaits, entries_before, ident_before, pending_before, tail_before}

-- ---- what is taken back

-- the last of the node's loose changes, one for each record behind a cut of its log
abbrev pub behind_cut : History → Machine → (n cut : ℕ) → List LooseChange
behind_cut h m n cut = drop (length (m.loose n) - (length (h.live n) - cut)) (m.loose n)

-- what the node's open transactions have done up to there
abbrev pub deeds_at : History → Machine → (n cut : ℕ) → List Deed
deeds_at h m n cut = pending_before n (behind_cut h m n cut) m.pending n

-- the change was one of the page, or of its entries
abbrev pub is_of_map : ℕ → Option EntriesBefore → Bool
is_of_map x None = false
is_of_map x (Some e) = e.map == x

abbrev pub touches : ℕ → LooseChange → Bool
touches x c = is_of_page x c || is_of_map x c.entries

-- ---- what the shorter log says

-- the transaction in a seat of a node
abbrev pub seat_of : (n seat : ℕ) → TxnId
seat_of n seat = record { node = record { 0 = n }; seat = seat }

-- These records of node n's log tell these deeds of its open transactions. What they have written is written by transactions that
-- are open, here and at present, and have the lock; it stands in the page that the group has at present; and they see of it what
-- their updates that are left make of the committed record.
pub record TellsLog (m : Machine) (begun : ℕ → ℕ → ℕ) (n first : ℕ) (recs : List LogRecord) (ds : List Deed) : Type 0 where
  pub deeds : AreLogged first recs (λ seat. m.records) ds
  pub rising : AreInOrder ds
  pub homes : All (λ d. IfSome d.write (λ w. home m w.key ≡ Some w.page)) ds
  pub locked : (seat : ℕ) (key : Key) → list_any (writes_key seat key.0) ds ≡ true → mode_of m.locks key (seat_of n seat) ≡ Some locks.Write
  pub opened : (seat key : ℕ) → list_any (writes_key seat key) ds ≡ true → list_any (is_begin_in seat) ds ≡ true
  pub still : (seat : ℕ) → list_any (is_begin_in seat) ds ≡ true → is_busy m (seat_of n seat) ≡ true
  pub seats : (seat : ℕ) → list_any (is_begin_in seat) ds ≡ true → TellsDeeds first recs ds seat (begun n seat)
  pub opens : (txn : ℕ) (left : List OpenUpdate) → left_of txn first recs None ≡ Some left → (seat : ℕ) × (list_any (is_begin_in seat) ds ≡ true) × (begun n seat ≡ txn)
  pub seen : (seat : ℕ) (key : Key) (x : ℕ) (left : List OpenUpdate) → list_any (writes_key seat key.0) ds ≡ true → home m key.0 ≡ Some x → left_of (begun n seat) first recs None ≡ Some left
      → overlaid seat key.0 (m.records key.0) ds ≡ with_updates (of_slot x (slot_of_key key.0) left) (m.records key.0)

-- ---- every cut

-- What is taken back where node n's log is cut there leaves what the shorter log and its pages say. Each record that is cut off
-- takes back one write of a page at most.
pub record TakesBackTo (h : History) (m : Machine) (begun : ℕ → ℕ → ℕ) (n cut : ℕ) : Type 0 where
  pub log : TellsLog m begun n (h.devices.first n) (take cut (h.live n)) (deeds_at h m n cut)
  pub tail : tail_before n (behind_cut h m n cut) m.tail n ≡ first_record m n + cut
  pub ident : (x : ℕ) → x < page_count m.shape → h.guard x ≡ n → ident_before (behind_cut h m n cut) m.ident x ≡ ident_of (h.image x cut)
  pub entries : (x : ℕ) (map : MapImage) → x < m.shape.maps → h.guard x ≡ n → h.image x cut ≡ map_page map → entries_before (behind_cut h m n cut) m.entries x ≡ map.entries
  -- a page that another node logs, or that no record behind the cut has changed, stays as it is
  pub others : (x : ℕ) → (h.guard x ≢ n) ⊎ (h.last x ≤ cut) → list_any (touches x) (behind_cut h m n cut) ≡ false
  pub writes : (x : ℕ) → count_by (writes_page x) (deeds_at h m n cut) ≤ count_by (writes_page x) (m.pending n) + length (steps_on x (drop cut (h.live n)))

-- Each node has a loose change for each of its records that isn't stable, and they take back what the log says. A place that a
-- group has at some cut, it has at present. Only nodes of the store are in use; one that isn't has nothing loose, and no lock.
pub record MayStop (h : History) (m : Machine) (begun : ℕ → ℕ → ℕ) : Type 0 where
  pub enough : (n : ℕ) → length (h.live n) ≤ h.stable n + length (m.loose n)
  pub back : (n cut : ℕ) → IsPlaceToCut h n cut → TakesBackTo h m begun n cut
  pub used : (x cut : ℕ) → IsPlaceToCut h (h.guard x) cut → is_used (h.entry x cut) ≡ true → h.entry x cut ≡ entry_now h x
  pub resting : (n : ℕ) → m.mode n ≡ Idle → m.loose n ≡ []
  pub owners : (key : Key) (t : TxnId) (mode : Mode) → mode_of m.locks key t ≡ Some mode → m.mode t.node.0 ≢ Idle
  pub nodes : (n : ℕ) → m.mode n ≢ Idle → (1 ≤ n) × (n ≤ m.shape.nodes)

-- A store whose history and present mean the machine's state, and do so wherever a node stops.
pub record Survives (dirty : ℕ → Bool) (h : History) (p : Plain) (m : Machine) : Type 0 where
  pub recoverable : Recoverable dirty h p m
  pub means : Means p m
  pub stops : MayStop h m recoverable.begun

-- A store, also where its tables are lost: it is as if it still had these locks. While no table is lost they are its own. While they
-- are lost, no lock is taken, some node awaits recovery, and no transaction of a node that is up is open or has one of these locks.
pub record SurvivesAs (held : Held) (dirty : ℕ → Bool) (h : History) (p : Plain) (m : Machine) : Type 0 where
  pub survives : Survives dirty h p (record m { locks = held })
  pub own : m.reopening ≡ false → held ≡ m.locks
  pub lost : m.reopening ≡ true → m.locks ≡ finite.empty
  pub awaits : m.reopening ≡ true → any_awaits m ≡ true
  pub quiet : m.reopening ≡ true → (t : TxnId) → m.mode t.node.0 ≡ Up → (is_busy m t ≡ false) × ((key : Key) → mode_of held key t ≡ None)
