-- What a stop of a node does to the machine.
use Rattle.std.specs.Prelude.{ℕ, Bool, true, List, [], ◌∷◌, ◌&&◌, Option, Some, None, drop, if◌then◌else◌}
use Rattle.std.specs.List.{list_any, range_with_len}
use Rattle.std.specs.FinMap as finite
use Rattle.space_map.specs.declared.map_entry.MapEntry.{MapEntry}
use Rattle.record_locks.specs.Held.{without_reads_of}
use Rattle.record_machine.specs.Machine.{Deed, Down, EntriesBefore, IdentBefore, LooseChange, Machine, awaits_recovery, is_up, put}

-- ---- what is taken back, the newest change first

-- the number of the node's next record, and what its open transactions have done, are as before the first of these changes
abbrev pub tail_before : ℕ → List LooseChange → (ℕ → ℕ) → ℕ → ℕ
tail_before n [] tail = tail
tail_before n (c ∷ cs) tail = put n c.number (tail_before n cs tail)

abbrev pub pending_before : ℕ → List LooseChange → (ℕ → List Deed) → ℕ → List Deed
pending_before n [] pending = pending
pending_before n (c ∷ cs) pending = put n c.pending (pending_before n cs pending)

-- so are the identifiers of their pages
abbrev pub with_idents : List IdentBefore → (ℕ → ℕ) → ℕ → ℕ
with_idents [] ident = ident
with_idents (i ∷ is) ident = put i.page i.ident (with_idents is ident)

abbrev pub ident_before : List LooseChange → (ℕ → ℕ) → ℕ → ℕ
ident_before [] ident = ident
ident_before (c ∷ cs) ident = with_idents c.idents (ident_before cs ident)

-- and the entries of their map pages
abbrev pub with_entries : Option EntriesBefore → (ℕ → List MapEntry) → ℕ → List MapEntry
with_entries None entries = entries
with_entries (Some e) entries = put e.map e.entries entries

abbrev pub entries_before : List LooseChange → (ℕ → List MapEntry) → ℕ → List MapEntry
entries_before [] entries = entries
entries_before (c ∷ cs) entries = with_entries c.entries (entries_before cs entries)

-- these changes of the node are taken back; who holds their pages stays
abbrev pub changes_back : ℕ → List LooseChange → Machine → Machine
changes_back n cs m = record m {
  tail = tail_before n cs m.tail;
  pending = pending_before n cs m.pending;
  ident = ident_before cs m.ident;
  entries = entries_before cs m.entries;
}

-- ---- the node

-- The node is down. Its locks to read go, and those to write stay until it is recovered; what it holds it still holds.
abbrev pub down : ℕ → Machine → Machine
down h m = record m { mode = put h Down m.mode; locks = without_reads_of (record { 0 = h }) m.locks; loose = put h [] m.loose }

-- a node of the store is up, or awaits recovery
abbrev pub any_up : Machine → Bool
any_up m = list_any (λ n. is_up (m.mode n)) (range_with_len 1 m.shape.nodes)

abbrev pub any_awaits : Machine → Bool
any_awaits m = list_any (λ n. awaits_recovery (m.mode n)) (range_with_len 1 m.shape.nodes)

-- where no node is up, the tables of locks and of holds are lost
abbrev pub with_tables : Machine → Machine
with_tables m = record m {
  locks = if any_up m then m.locks else finite.empty;
  hold = λ x. if any_up m then m.hold x else None;
  reopening = if any_up m then m.reopening else true;
}

-- Node h stops, and so many of its loose changes are kept, but no table is lost.
abbrev pub halted : (h kept : ℕ) → Machine → Machine
halted h kept m = down h (changes_back h (drop kept (m.loose h)) m)

-- Node h stops: so many of its loose changes are kept, and those behind them are taken back.
abbrev pub stop : (h kept : ℕ) → Machine → Machine
stop h kept m = with_tables (down h (changes_back h (drop kept (m.loose h)) m))

-- Node h stops as it takes back the open transactions of node u, which has to be redone then.
abbrev pub stop_in_undo : (u h kept : ℕ) → Machine → Machine
stop_in_undo u h kept m = with_tables (with_down (down h (changes_back h (drop kept (m.loose h)) m)))
  where
    with_down : Machine → Machine
    with_down k = record k { mode = put u Down k.mode }

-- Once no node awaits recovery, the tables aren't lost any more.
abbrev pub recovered : Machine → Machine
recovered m = record m { reopening = m.reopening && any_awaits m }
