-- What a command does to the machine, part by part.
use Rattle.std.specs.Prelude.{◌==◌, ◌+◌, ◌&&◌, ℕ, Bool, List, [], ◌∷◌, ◌++◌, Option, Some, None, filter, map, not, option_and_then, option_map, slice_index_or, slice_set, if◌then◌else◌}
use Rattle.std.specs.List.{list_any}
use Rattle.sd_base.specs.declared.names.GroupNo.{GroupNo}
use Rattle.sd_base.specs.declared.names.Key.{Key}
use Rattle.sd_base.specs.declared.names.TxnId.{TxnId}
use Rattle.sd_base.specs.Places.{page_of_place}
use Rattle.space_map.specs.declared.map_entry.MapEntry.{MapEntry}
use Rattle.space_map.specs.declared.map_entry.MapEntry.TheVariants.{Free, Used}
use Rattle.space_map.specs.Entry.{ident_of}
use Rattle.record_locks.specs.declared.mode.Mode as locks
use Rattle.record_locks.specs.Held.{taken, without_txn}
use Rattle.record_machine.specs.Machine.{LooseChange, Machine, Up, Write, is_up, newest_of, put, seen, without_newest}

-- the parts
pub data Part : Type 0 where
  -- the node is up
  Start : (node : ℕ) → Part
  -- the node gets the page
  Take : (page node : ℕ) → Part
  -- nobody holds the page any more
  Drop : (page : ℕ) → Part
  Begin : (txn : TxnId) → Part
  -- the place of the map page is used by the group
  Use : (node map place : ℕ) → (group : GroupNo) → Part
  -- the place of the map page is free again, and its page begins a new life
  FreePlace : (node map place : ℕ) → Part
  Lock : (key : Key) → (txn : TxnId) → (mode : locks.Mode) → Part
  -- the transaction writes the record of the key, which stands in the page
  Change : (txn : TxnId) → (write : Write) → Part
  -- the newest write of the transaction is taken back
  Back : (txn : TxnId) → Part
  -- what the transaction wrote is committed
  Seal : (txn : TxnId) → Part
  -- its locks are released
  Unlock : (txn : TxnId) → Part
  -- all that the node has logged is stable
  Sure : (node : ℕ) → Part

-- ---- what a stop may take away

-- what a change of a node is about to change: these pages, and the entries of this map page
abbrev pub before : ℕ → List ℕ → Option ℕ → Machine → LooseChange
before n pages map_page m = record {
  number = m.tail n;
  pending = m.pending n;
  idents = map (λ x. record { page = x; ident = m.ident x }) pages;
  entries = option_map (λ x. record { map = x; entries = m.entries x }) map_page;
}

-- a stop may take away this change too
abbrev pub loosened : ℕ → LooseChange → Machine → Machine
loosened n c m = record m { loose = put n (m.loose n ++ c ∷ []) m.loose }

-- all changes of the node are sure
abbrev pub all_sure : ℕ → Machine → Machine
all_sure n m = record m { loose = put n [] m.loose }

-- the change was one of the page
abbrev pub is_of_page : ℕ → LooseChange → Bool
is_of_page x c = list_any (λ i. i.page == x) c.idents

-- the changes behind the last one of the page
abbrev pub behind_page : ℕ → List LooseChange → List LooseChange
behind_page x [] = []
behind_page x (c ∷ cs) = if list_any (is_of_page x) (c ∷ cs) then behind_page x cs else c ∷ cs

-- Where another node that is up held the page, its log is stable up to its last change of the page. So these are the changes
-- of each node that a stop may still take away once node n has taken the page.
abbrev pub loose_after_take : ℕ → ℕ → Machine → ℕ → List LooseChange
loose_after_take x n m = from (m.hold x)
  where
    from : Option ℕ → ℕ → List LooseChange
    from None = m.loose
    from (Some h) = if not (h == n) && is_up (m.mode h) then put h (behind_page x (m.loose h)) m.loose else m.loose

-- Where a node that is up gives the page up, its log is stable up to its last change of the page, too. So these are the changes of
-- each node that a stop may still take away once nobody holds the page.
abbrev pub loose_after_drop : ℕ → Machine → ℕ → List LooseChange
loose_after_drop x m = from (m.hold x)
  where
    from : Option ℕ → ℕ → List LooseChange
    from None = m.loose
    from (Some h) = if is_up (m.mode h) then put h (behind_page x (m.loose h)) m.loose else m.loose

-- ---- what each part does

-- one more deed of a transaction, whose log record is the next one
abbrev pub done_by : TxnId → Option Write → Machine → Machine
done_by t w m = record m {
  pending = put t.node.0 (m.pending t.node.0 ++ record { number = m.tail t.node.0; seat = t.seat; write = w } ∷ []) m.pending;
  tail = put t.node.0 (m.tail t.node.0 + 1) m.tail;
}

-- this write of a transaction, its newest, is taken back, by a change of its page and a log record
abbrev pub taken_back : TxnId → Option Write → Machine → Machine
taken_back t None m = m
taken_back t (Some w) m = loosened t.node.0 (before t.node.0 (w.page ∷ []) None m) (record m {
  pending = put t.node.0 (without_newest t.seat (m.pending t.node.0)) m.pending;
  ident = put w.page (m.ident w.page + 1) m.ident;
  tail = put t.node.0 (m.tail t.node.0 + 1) m.tail;
})

-- the entry of a place of the map page is this one
abbrev pub with_entry : ℕ → ℕ → ℕ → MapEntry → Machine → Machine
with_entry n map_page place e m = record m {
  entries = put map_page (slice_set (m.entries map_page) place e) m.entries;
  ident = put map_page (m.ident map_page + 1) m.ident;
  tail = put n (m.tail n + 1) m.tail;
}

abbrev pub one : Part → Machine → Machine
one (Start n) m = record m { mode = put n Up m.mode; loose = put n [] m.loose }
one (Take x n) m = record m { hold = put x (Some n) m.hold; loose = loose_after_take x n m }
one (Drop x) m = record m { hold = put x None m.hold; loose = loose_after_drop x m }
one (Begin t) m = loosened t.node.0 (before t.node.0 [] None m) (done_by t None m)
one (Use n map_page place g) m = loosened n (before n (map_page ∷ []) (Some map_page) m) (with_entry n map_page place (Used g (ident_of (slice_index_or (m.entries map_page) place (Free 0)))) m)
one (FreePlace n map_page place) m = (let x = page_of_place m.shape map_page place in
    loosened n (before n (map_page ∷ x ∷ []) (Some map_page) m) (with_entry n map_page place (Free (m.ident x + 1)) (record m { ident = put x (m.ident x + 1) m.ident })))
one (Lock key t mode) m = record m { locks = taken m.locks key t mode }
one (Change t w) m = loosened t.node.0 (before t.node.0 (w.page ∷ []) None m) (done_by t (Some w) (record m { ident = put w.page (m.ident w.page + 1) m.ident }))
one (Back t) m = taken_back t (option_and_then (λ d. d.write) (newest_of m t)) m
one (Seal t) m = record m {
  records = λ key. seen m t key;
  pending = put t.node.0 (filter (λ d. not (d.seat == t.seat)) (m.pending t.node.0)) m.pending;
  tail = put t.node.0 (m.tail t.node.0 + 1) m.tail;
  loose = put t.node.0 [] m.loose;
}
one (Unlock t) m = record m { locks = without_txn t m.locks }
one (Sure n) m = all_sure n m

-- these parts, one after the other
abbrev pub dos : List Part → Machine → Machine
dos [] m = m
dos (p ∷ ps) m = dos ps (one p m)
