-- What recovers a node: its log is redone, and then its open transactions are taken back.
use Rattle.std.specs.Prelude.{◌≡◌, ◌≢◌, ◌==◌, ◌-◌, ◌<◌, ◌≤◌, ◌&&◌, ◌⊎◌, ◌++◌, ◌∷◌, [], ℕ, zero, suc, Bool, true, false, not, List, Option, Some, None, IsSome, count_by, filter, fold, is_none, length, min, nat_lt, option_and_then, option_map, is_some, take, if◌then◌else◌}
use Rattle.std.specs.List.{find, list_any, range_with_len}
use Rattle.std.specs.FinMap as finite
use Rattle.sd_base.specs.declared.names.TxnId.{TxnId}
use Rattle.sd_base.specs.declared.shape.Shape.{Shape}
use Rattle.sd_base.specs.Places.{map_of_data}
use Rattle.sd_base.specs.Shape.{page_count}
use Rattle.space_map.specs.PageImage.{PageImage}
use Rattle.log_record.specs.declared.record.LogRecord.{LogRecord}
use Rattle.record_locks.specs.Held.{Held, without_node}
use Rattle.recovery_theory.specs.Effect.{steps_on}
use Rattle.recovery_theory.specs.History.{History}
use Rattle.recovery_theory.specs.Redo.{count_applied, count_skipped}
use Rattle.record_machine.specs.Commands.{first_of, where_so}
use Rattle.record_machine.specs.Cuts.{SurvivesAs, seat_of}
use Rattle.record_machine.specs.Machine.{Deed, Down, Idle, Machine, NodeMode, Redone, Up, Write, is_down, is_idle, is_write_in, put, used}
use Rattle.record_machine.specs.Meaning.{Plain}
use Rattle.record_machine.specs.Parts.{Back, Drop, Seal, Take, all_sure, one}
use Rattle.record_machine.specs.Stops.{recovered, stop, stop_in_undo}

-- ---- what is answered

-- What a step of recovery is answered: why it is refused, that a page is lost or a node stopped in it, how many records were
-- scanned, applied and skipped, how many writes were taken back and how many are left, or that all is done.
pub data RecoveryReply : Type 0 where
  NoNode : (node : ℕ) → RecoveryReply
  NotDown : (node : ℕ) → RecoveryReply
  NotRedone : (node : ℕ) → RecoveryReply
  NoWorker : (node : ℕ) → RecoveryReply
  RedoFirst : (node : ℕ) → RecoveryReply
  Lost : (page : ℕ) → RecoveryReply
  Stopped : (node : ℕ) → RecoveryReply
  Fault : (node : ℕ) → RecoveryReply
  TellsRedo : (scanned applied skipped : ℕ) → RecoveryReply
  TellsUndo : (done left : ℕ) → RecoveryReply
  Fine : RecoveryReply

-- the store has no such node; the worker isn't in use; the least node that is down
abbrev pub is_none_such : Machine → ℕ → Option RecoveryReply
is_none_such m n = where_so (nat_lt m.shape.nodes n) (NoNode n)

abbrev pub is_no_worker : Machine → ℕ → Option RecoveryReply
is_no_worker m w = where_so (is_idle (m.mode w)) (NoWorker w)

abbrev pub least_down : Machine → Option ℕ
least_down m = find (λ n. is_down (m.mode n)) (range_with_len 1 m.shape.nodes)

-- Why a step is refused, if it is: the first of these reasons. The worker may be a node that is itself down or redone.
abbrev pub redo_refusal : Machine → (n w : ℕ) → Option RecoveryReply
redo_refusal m n w = first_of (is_none_such m n ∷ is_none_such m w ∷ where_so (not (is_down (m.mode n))) (NotDown n) ∷ is_no_worker m w ∷ [])

abbrev pub is_redone : NodeMode → Bool
is_redone Idle = false
is_redone Up = false
is_redone Down = false
is_redone Redone = true

abbrev pub undo_refusal : Machine → (u w : ℕ) → Option RecoveryReply
undo_refusal m u w = first_of (is_none_such m u ∷ is_none_such m w ∷ where_so (not (is_redone (m.mode u))) (NotRedone u) ∷ is_no_worker m w ∷ option_map RedoFirst (least_down m) ∷ [])

abbrev pub recover_refusal : Machine → ℕ → Option RecoveryReply
recover_refusal m w = first_of (is_none_such m w ∷ is_no_worker m w ∷ [])

-- ---- a log is redone

-- the pages that the node holds are nobody's
abbrev pub released : ℕ → (ℕ → Option ℕ) → ℕ → Option ℕ
released n hold x = by (hold x)
  where
    by : Option ℕ → Option ℕ
    by None = None
    by (Some h) = if h == n then None else Some h

-- node u holds nothing
abbrev pub holding_none : ℕ → Machine → Machine
holding_none u m = record m { hold = released u m.hold }

-- so it is once its log is redone
abbrev pub redone : ℕ → Machine → Machine
redone n m = holding_none n (record m { mode = put n Redone m.mode })

-- a record of this log changes the page, or a page whose map page it is
abbrev pub IsOfLog : Shape → List LogRecord → ℕ → Type 0
IsOfLog s recs x = (y : ℕ) × (steps_on y recs ≢ []) × ((x ≡ y) ⊎ ((s.maps ≤ y) × (x ≡ (map_of_data s (record { 0 = y })).0)))

-- The counts are those of redo over the node's log, from what the disk holds. It has read all pages of the log, and none is lost.
pub record CountsRedo (h : History) (m : Machine) (n applied skipped : ℕ) : Type 0 where
  pub whole : (x : ℕ) → IsOfLog m.shape (h.live n) x → IsSome (h.devices.disk x)
  pub images : ℕ → PageImage
  pub on_disk : (x : ℕ) (i : PageImage) → h.devices.disk x ≡ Some i → images x ≡ i
  pub applied_is : applied ≡ count_applied h.devices.shape (h.live n) images
  pub skipped_is : skipped ≡ count_skipped h.devices.shape (h.live n) images

-- A node has stopped as it worked for another one: it keeps so many of its loose changes.
abbrev pub WorkerStops : Machine → (w h : ℕ) → (Machine → Type 0) → Type 0
WorkerStops m w h S = (h ≡ w) × (kept : ℕ) × (kept ≤ length (m.loose h)) × S (stop h kept m)

-- a redo that isn't refused: done, or broken off, where a page of the log is lost or the worker stopped
abbrev pub Redoes : History → Machine → (n w : ℕ) → RecoveryReply → (Machine → Type 0) → Type 0
Redoes h m n w (TellsRedo scanned applied skipped) S = (scanned ≡ used m n) × CountsRedo h m n applied skipped × S (redone n m)
Redoes h m n w (Lost x) S = (m.gone x ≡ true) × IsOfLog m.shape (h.live n) x × S m
Redoes h m n w (Stopped k) S = WorkerStops m w k S
Redoes h m n w (Fault k) S = WorkerStops m w k S
Redoes h m n w reply S = ⊥

-- From m, whose history this is, worker w may be answered so where it redoes the log of node n, and the machine go on to a state
-- of S.
abbrev pub RedoStep : History → Machine → (n w : ℕ) → RecoveryReply → (Machine → Type 0) → Type 0
RedoStep h m n w reply S = by (redo_refusal m n w)
  where
    by : Option RecoveryReply → Type 0
    by None = Redoes h m n w reply S
    by (Some why) = (reply ≡ why) × S m

-- ---- its open transactions are taken back

-- the newest write of a node's transactions
abbrev pub newest_write : List Deed → Option Deed
newest_write [] = None
newest_write (d ∷ ds) = or_this (newest_write ds)
  where
    or_this : Option Deed → Option Deed
    or_this (Some e) = Some e
    or_this None = if is_some d.write then Some d else None

-- how many there are
abbrev pub writes_left : ℕ → Machine → ℕ
writes_left u m = count_by (λ d. is_some d.write) (m.pending u)

-- the newest write of a seat is taken back by a record that no stop takes away
abbrev pub back_surely : TxnId → Machine → Machine
back_surely t m = all_sure t.node.0 (one (Back t) m)

-- what is done for one write: node u gets the map page and the page, the write is taken back, and nobody holds them any more
abbrev pub moves_for : Machine → ℕ → Deed → List (Machine → Machine)
moves_for m u d = of_write d.write
  where
    of_write : Option Write → List (Machine → Machine)
    of_write None = []
    of_write (Some w) = one (Take (map_of_data m.shape (record { 0 = w.page })).0 u) ∷ one (Take w.page u) ∷ back_surely (seat_of u d.seat) ∷ one (Drop w.page) ∷ one (Drop (map_of_data m.shape (record { 0 = w.page })).0) ∷ []

-- for the newest one, if there is one
abbrev pub next_moves : ℕ → Machine → List (Machine → Machine)
next_moves u m = by (newest_write (m.pending u))
  where
    by : Option Deed → List (Machine → Machine)
    by None = []
    by (Some d) = moves_for m u d

-- these, one after the other
abbrev pub moved : List (Machine → Machine) → Machine → Machine
moved [] m = m
moved (f ∷ fs) m = moved fs (f m)

-- so many writes are taken back
abbrev pub taken_back_from : ℕ → ℕ → Machine → Machine
taken_back_from u zero m = m
taken_back_from u (suc count) m = taken_back_from u count (moved (next_moves u m) m)

-- the transactions that have no write left, and what their ends make of the machine
abbrev pub without_writes : ℕ → Machine → List Deed
without_writes u m = filter (λ d. is_none d.write && not (list_any (is_write_in d.seat) (m.pending u))) (m.pending u)

abbrev pub ended_for : ℕ → List Deed → Machine → Machine
ended_for u ds m = fold (λ k d. one (Seal (seat_of u d.seat)) k) m ds

-- none is left: the node's locks go, and it is up where it worked itself
abbrev pub freed : (u w : ℕ) → Machine → Machine
freed u w m = record m { mode = put u (if u == w then Up else Idle) m.mode; locks = without_node (record { 0 = u }) m.locks }

abbrev pub ended_all : ℕ → Machine → Machine
ended_all u m = ended_for u (without_writes u m) m

abbrev pub undone : (u w count : ℕ) → Machine → Machine
undone u w count m = (let k = ended_all u (taken_back_from u (min count (writes_left u m)) m) in if writes_left u k == 0 then recovered (freed u w k) else k)

-- ---- an undo that is broken off

-- so many writes are taken back, and so many moves of the next one are done
abbrev pub undo_at : (u done front : ℕ) → Machine → Machine
undo_at u done front m = moved (take front (next_moves u (taken_back_from u done m))) (taken_back_from u done m)

-- all writes are taken back, and so many ends are logged
abbrev pub ends_at : (u count front : ℕ) → Machine → Machine
ends_at u count front m = (let k = taken_back_from u (min count (writes_left u m)) m in ended_for u (take front (without_writes u k)) k)

-- the page that is taken next, where so many moves of a write are done
abbrev pub next_page : (u front : ℕ) → Machine → Option ℕ
next_page u front m = by (option_and_then (λ d. d.write) (newest_write (m.pending u))) front
  where
    by : Option Write → ℕ → Option ℕ
    by None front = None
    by (Some w) zero = Some (map_of_data m.shape (record { 0 = w.page })).0
    by (Some w) (suc zero) = Some w.page
    by (Some w) (suc (suc more)) = None

-- Node h stopped before all writes were taken back: the worker, or the node from which the next page was to be taken. Where it was
-- the worker, node u has to be redone again, and holds what it has taken. Else it goes on to hold nothing.
pub record StopsTakingBack (u w count h : ℕ) (m : Machine) (S : Machine → Type 0) : Type 0 where
  pub done : ℕ
  pub below : done < min count (writes_left u m)
  pub front : ℕ
  pub port : (h ≡ w) ⊎ ((page : ℕ) × (next_page u front (taken_back_from u done m) ≡ Some page) × ((undo_at u done front m).hold page ≡ Some h))
  pub kept : ℕ
  pub within : kept ≤ length ((undo_at u done front m).loose h)
  pub after : S (if h == w then stop_in_undo u h kept (undo_at u done front m) else stop h kept (holding_none u (undo_at u done front m)))

-- The worker stopped once they were.
pub record StopsEnding (u w count h : ℕ) (m : Machine) (S : Machine → Type 0) : Type 0 where
  pub worker : h ≡ w
  pub front : ℕ
  pub kept : ℕ
  pub within : kept ≤ length ((ends_at u count front m).loose h)
  pub after : S (stop_in_undo u h kept (ends_at u count front m))

-- A page of the write that is taken back next is lost: that page, or its map page. So many writes are taken back, all of them newer, and
-- no transaction is ended. Node u may have taken the pages up to the lost one, and holds none in the end.
pub record LosesPage (u count x : ℕ) (m : Machine) (S : Machine → Type 0) : Type 0 where
  pub done : ℕ
  pub below : done < min count (writes_left u m)
  pub which : ℕ
  pub named : next_page u which (taken_back_from u done m) ≡ Some x
  pub front : ℕ
  pub taking : front ≤ suc which
  pub gone : m.gone x ≡ true
  pub after : S (holding_none u (undo_at u done front m))

abbrev pub StopsUndo : (u w count h : ℕ) → Machine → (Machine → Type 0) → Type 0
StopsUndo u w count h m S = StopsTakingBack u w count h m S ⊎ StopsEnding u w count h m S

-- an undo that isn't refused: done, or broken off
abbrev pub Undoes : Machine → (u w count : ℕ) → RecoveryReply → (Machine → Type 0) → Type 0
Undoes m u w count (TellsUndo done left) S = (done ≡ min count (writes_left u m)) × (left ≡ writes_left u m - done) × S (undone u w count m)
Undoes m u w count (Lost x) S = LosesPage u count x m S
Undoes m u w count (Stopped h) S = StopsUndo u w count h m S
Undoes m u w count (Fault h) S = StopsUndo u w count h m S
Undoes m u w count reply S = ⊥

-- From m worker w may be answered so where it takes back so many writes of node u at most, and the machine go on to a state of S.
abbrev pub UndoStep : Machine → (u w count : ℕ) → RecoveryReply → (Machine → Type 0) → Type 0
UndoStep m u w count reply S = by (undo_refusal m u w)
  where
    by : Option RecoveryReply → Type 0
    by None = Undoes m u w count reply S
    by (Some why) = (reply ≡ why) × S m

-- ---- all nodes are recovered

-- in this order: the logs of the nodes that are down, that of the worker first, and then the transactions of those that are redone
abbrev pub redo_order : ℕ → Machine → List ℕ
redo_order w m = (if is_down (m.mode w) then w ∷ [] else []) ++ filter (λ n. is_down (m.mode n) && not (n == w)) (range_with_len 1 m.shape.nodes)

abbrev pub undo_order : Machine → List ℕ
undo_order m = filter (λ n. is_redone (m.mode n)) (range_with_len 1 m.shape.nodes)

abbrev pub redone_all : List ℕ → Machine → Machine
redone_all ns m = fold (λ k n. redone n k) m ns

abbrev pub undone_all : ℕ → List ℕ → Machine → Machine
undone_all w ns m = fold (λ k n. undone n w (writes_left n k) k) m ns

-- broken off as it redid the log of a node, or took transactions back
abbrev pub BreaksRedo : History → Machine → (n w : ℕ) → RecoveryReply → (Machine → Type 0) → Type 0
BreaksRedo h m n w (TellsRedo scanned applied skipped) S = ⊥
BreaksRedo h m n w reply S = Redoes h m n w reply S

pub record BreaksInRedo (h : History) (m : Machine) (w : ℕ) (reply : RecoveryReply) (S : Machine → Type 0) : Type 0 where
  pub before : List ℕ
  pub node : ℕ
  pub behind : List ℕ
  pub order : redo_order w m ≡ before ++ node ∷ behind
  pub breaks : BreaksRedo h (redone_all before m) node w reply S

abbrev pub BreaksUndo : Machine → (u w : ℕ) → RecoveryReply → (Machine → Type 0) → Type 0
BreaksUndo m u w (TellsUndo done left) S = ⊥
BreaksUndo m u w reply S = Undoes m u w (writes_left u m) reply S

pub record BreaksInUndo (m : Machine) (w : ℕ) (reply : RecoveryReply) (S : Machine → Type 0) : Type 0 where
  pub before : List ℕ
  pub node : ℕ
  pub behind : List ℕ
  pub order : undo_order m ≡ before ++ node ∷ behind
  pub breaks : BreaksUndo (undone_all w before m) node w reply S

abbrev pub all_redone : ℕ → Machine → Machine
all_redone w m = redone_all (redo_order w m) m

abbrev pub Recovers : History → Machine → ℕ → RecoveryReply → (Machine → Type 0) → Type 0
Recovers h m w Fine S = S (recovered (undone_all w (undo_order (all_redone w m)) (all_redone w m)))
Recovers h m w reply S = BreaksInRedo h m w reply S ⊎ BreaksInUndo (all_redone w m) w reply S

-- From m, whose history this is, worker w may be answered so where it recovers all nodes, and the machine go on to a state of S. The
-- logs of the nodes that are down stay as they are while the others are redone.
abbrev pub RecoverStep : History → Machine → ℕ → RecoveryReply → (Machine → Type 0) → Type 0
RecoverStep h m w reply S = by (recover_refusal m w)
  where
    by : Option RecoveryReply → Type 0
    by None = Recovers h m w reply S
    by (Some why) = (reply ≡ why) × S m

-- ---- a store is opened

-- The machine as a store is opened whose devices have this history: all is stable, all nodes are down and the tables are lost.
-- Each open transaction has the number of the record that began it as its seat.
pub record Opens (dirty : ℕ → Bool) (h : History) (p : Plain) (m : Machine) : Type 0 where
  pub held : Held
  pub shown : SurvivesAs held dirty h p m
  pub stable : (n : ℕ) → h.stable n ≡ length (h.live n)
  pub named : (n seat : ℕ) → shown.survives.recoverable.begun n seat ≡ seat
  pub down : (n : ℕ) → 1 ≤ n → n ≤ m.shape.nodes → m.mode n ≡ Down
  pub flag : m.reopening ≡ true
  pub locks : m.locks ≡ finite.empty
  pub free : (x : ℕ) → m.hold x ≡ None
  pub sure : (n : ℕ) → m.loose n ≡ []
  pub gone : (x : ℕ) → x < page_count m.shape → m.gone x ≡ is_none (h.devices.disk x)
