-- The record machine: what a store means, as plain data.
use Rattle.std.specs.Prelude.{◌==◌, ◌-◌, ◌*◌, ◌^◌, ◌&&◌, ℕ, Bool, true, false, not, List, [], ◌∷◌, Option, Some, None, is_none, is_some, option_map, filter, fold, length, min, replicate, if◌then◌else◌}
use Rattle.std.specs.List.{count_by, list_any, position, range_with_len, sum_by}
use Rattle.std.specs.FinMap as finite
use Rattle.sd_base.specs.declared.names.TxnId.{TxnId}
use Rattle.sd_base.specs.declared.shape.Shape.{Shape}
use Rattle.sd_base.specs.Places.{group_of, map_of_key, page_of_place}
use Rattle.sd_base.specs.Shape.{pages_per_map}
use Rattle.space_map.specs.declared.map_entry.MapEntry.{MapEntry}
use Rattle.space_map.specs.declared.map_entry.MapEntry.TheVariants.{Free}
use Rattle.space_map.specs.Entry.{is_free, is_used_by}
use Rattle.record_locks.specs.Held.{Held}

-- what a node is: not in use, in use, or stopped, and then redone
pub data NodeMode : Type 0 where
  Idle : NodeMode
  Up : NodeMode
  Down : NodeMode
  Redone : NodeMode

abbrev pub is_idle : NodeMode → Bool
is_idle Idle = true
is_idle Up = false
is_idle Down = false
is_idle Redone = false

abbrev pub is_up : NodeMode → Bool
is_up Idle = false
is_up Up = true
is_up Down = false
is_up Redone = false

abbrev pub is_down : NodeMode → Bool
is_down Idle = false
is_down Up = false
is_down Down = true
is_down Redone = false

-- the node has stopped, and isn't recovered yet
abbrev pub awaits_recovery : NodeMode → Bool
awaits_recovery Idle = false
awaits_recovery Up = false
awaits_recovery Down = true
awaits_recovery Redone = true

-- a write: of which key, in which page its record stands, and the new value, or that the record is absent
pub record Write : Type 0 where
  pub key : ℕ
  pub page : ℕ
  pub value : Option (List ℕ)

-- What the transaction in a seat has done, with the number of the log record: it began, or wrote a record.
pub record Deed : Type 0 where
  pub number : ℕ
  pub seat : ℕ
  pub write : Option Write

-- the entries of a map page, and the identifier of a page, as they were
pub record EntriesBefore : Type 0 where
  pub map : ℕ
  pub entries : List MapEntry

pub record IdentBefore : Type 0 where
  pub page : ℕ
  pub ident : ℕ

-- A change by a record of a node's log, which a stop of the node may still take away: what it changed, as it was before. That is
-- the number of the log's next record, what the open transactions of the node had done, the identifiers of the pages that it
-- changed, and the entries of the map page, if it changed one.
pub record LooseChange : Type 0 where
  pub number : ℕ
  pub pending : List Deed
  pub idents : List IdentBefore
  pub entries : Option EntriesBefore

-- The state of an open store.
pub record Machine : Type 0 where
  pub shape : Shape
  -- what each node is
  pub mode : ℕ → NodeMode
  -- all nodes have stopped, and not all of them are recovered yet
  pub reopening : Bool
  -- the committed record of each key
  pub records : ℕ → Option (List ℕ)
  -- what the open transactions of each node have done, in the order of the log
  pub pending : ℕ → List Deed
  pub locks : Held
  -- the entries of each map page
  pub entries : ℕ → List MapEntry
  -- the identifier of each page; of an unused page, that of its entry
  pub ident : ℕ → ℕ
  -- which node holds each page
  pub hold : ℕ → Option ℕ
  -- of each node's log, its first block and the number of its next record
  pub start : ℕ → ℕ
  pub tail : ℕ → ℕ
  -- the first block that the vault has kept of it
  pub first : ℕ → ℕ
  -- the changes of each node that a stop of it may still take away, in their order
  pub loose : ℕ → List LooseChange
  -- the pages that are lost, and not rebuilt since
  pub gone : ℕ → Bool

-- the same function, but for one argument
abbrev pub put : {A : Type 0} → ℕ → A → (ℕ → A) → ℕ → A
put n a f k = if k == n then a else f k

-- as a store is formatted
abbrev pub formatted : Shape → Machine
formatted s = record {
  shape = s;
  mode = λ n. Idle;
  reopening = false;
  records = λ key. None;
  pending = λ n. [];
  locks = finite.empty;
  entries = λ x. replicate pages_per_map (Free s.birth);
  ident = λ x. s.birth;
  hold = λ x. None;
  start = λ n. 0;
  tail = λ n. 0;
  first = λ n. 0;
  loose = λ n. [];
  gone = λ x. false;
}

-- ---- pages and groups

-- the page of the key's group, if it has one
abbrev pub home : Machine → ℕ → Option ℕ
home m key = option_map (page_of_place m.shape (map_of_key m.shape key)) (position (is_used_by (group_of key)) (m.entries (map_of_key m.shape key)))

-- the place that the group gets if it has none, and the page of that place
abbrev pub free_place : Machine → ℕ → Option ℕ
free_place m key = position is_free (m.entries (map_of_key m.shape key))

abbrev pub new_home : Machine → ℕ → Option ℕ
new_home m key = option_map (page_of_place m.shape (map_of_key m.shape key)) (free_place m key)

-- ---- open transactions

-- what a deed leaves of the record of a key, as the transaction in a seat sees it
abbrev pub written : ℕ → ℕ → Option (List ℕ) → Deed → Option (List ℕ)
written seat key v d = if d.seat == seat then wrote d.write else v
  where
    wrote : Option Write → Option (List ℕ)
    wrote None = v
    wrote (Some w) = if w.key == key then w.value else v

-- what these deeds leave of it
abbrev pub overlaid : ℕ → ℕ → Option (List ℕ) → List Deed → Option (List ℕ)
overlaid seat key v deeds = fold (written seat key) v deeds

-- what a transaction sees of a key: its own last write of it, or else the committed record
abbrev pub seen : Machine → TxnId → ℕ → Option (List ℕ)
seen m t key = overlaid t.seat key (m.records key) (m.pending t.node.0)

-- a seat with an open transaction
abbrev pub is_begin_in : ℕ → Deed → Bool
is_begin_in seat d = d.seat == seat && is_none d.write

abbrev pub is_busy : Machine → TxnId → Bool
is_busy m t = list_any (is_begin_in t.seat) (m.pending t.node.0)

-- ---- what an abort takes back

-- a write of the seat
abbrev pub is_write_in : ℕ → Deed → Bool
is_write_in seat d = d.seat == seat && is_some d.write

-- the newest one, where these deeds are behind it
abbrev pub is_newest_in : ℕ → Deed → List Deed → Bool
is_newest_in seat d behind = is_write_in seat d && not (list_any (is_write_in seat) behind)

-- the newest write of a seat, if it has one
abbrev pub newest_in : ℕ → List Deed → Option Deed
newest_in seat [] = None
newest_in seat (d ∷ ds) = if is_newest_in seat d ds then Some d else newest_in seat ds

-- the deeds but for that one
abbrev pub without_newest : ℕ → List Deed → List Deed
without_newest seat [] = []
without_newest seat (d ∷ ds) = if is_newest_in seat d ds then ds else d ∷ without_newest seat ds

-- of a transaction: its newest write, all its writes, and all that it has done
abbrev pub newest_of : Machine → TxnId → Option Deed
newest_of m t = newest_in t.seat (m.pending t.node.0)

abbrev pub writes_of : Machine → TxnId → List Deed
writes_of m t = filter (is_write_in t.seat) (m.pending t.node.0)

abbrev pub deeds_of : Machine → TxnId → List Deed
deeds_of m t = filter (λ d. d.seat == t.seat) (m.pending t.node.0)

-- how many writes of a page the open transactions have made, each of which may still be taken back
abbrev pub writes_page : ℕ → Deed → Bool
writes_page x d = is_of d.write
  where
    is_of : Option Write → Bool
    is_of None = false
    is_of (Some w) = w.page == x

abbrev pub open_writes : Machine → ℕ → ℕ
open_writes m x = sum_by (λ n. count_by (writes_page x) (m.pending n)) (range_with_len 1 m.shape.nodes)

-- ---- the room of a log

-- how many records the log of a node has
abbrev pub used : Machine → ℕ → ℕ
used m n = m.tail n - 6 * m.start n

-- how many records its open transactions may still need: an end record for each, and a compensation for each write
abbrev pub owed : Machine → ℕ → ℕ
owed m n = length (m.pending n)

-- how many more there is room for
abbrev pub room : Machine → ℕ → ℕ
room m n = min (6 * m.shape.ring - used m n) (6 * 2 ^ 56 - m.tail n) - owed m n
