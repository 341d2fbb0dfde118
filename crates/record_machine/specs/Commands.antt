-- What a command is answered, and what it does.
use Rattle.std.specs.Prelude.{◌≡◌, ◌≤◌, ◌^◌, ◌++◌, ◌∷◌, [], ℕ, Bool, true, false, not, nat_le, nat_lt, List, Option, Some, None, length, option_map, replicate, reverse, unwrap_or}
use Rattle.std.specs.List.{flat_map}
use Rattle.sd_base.specs.declared.device.NodeId.{NodeId}
use Rattle.sd_base.specs.declared.names.Key.{Key}
use Rattle.sd_base.specs.declared.names.TxnId.{TxnId}
use Rattle.sd_base.specs.Places.{group_of, map_of_data, map_of_key}
use Rattle.record_locks.specs.declared.mode.Mode.{Mode}
use Rattle.record_locks.specs.declared.mode.Mode.TheVariants as locks
use Rattle.record_locks.specs.declared.mode.LockAnswer.{LockAnswer}
use Rattle.record_locks.specs.declared.mode.LockAnswer.TheVariants.{Free, Mine, Conflict, Full}
use Rattle.record_locks.specs.Answer.{lock_answer}
use Rattle.record_locks.specs.Held.{least_where}
use Rattle.script_text.specs.declared.command.Command.{Command}
use Rattle.script_text.specs.declared.command.Command.TheVariants as asks
use Rattle.script_text.specs.declared.reply.Reply.{Reply}
use Rattle.script_text.specs.declared.reply.Reply.TheVariants as says
use Rattle.record_machine.specs.Machine.{Deed, Machine, NodeMode, Write, Idle, Up, Down, Redone, free_place, home, is_busy, is_idle, is_up, new_home, owed, room, seen, used, writes_of}
use Rattle.record_machine.specs.Parts.{Part, Start, Take, Begin, Use, Lock, Change, Back, Seal, Unlock}

-- ---- refusals

-- this reply, where it is refused for this
abbrev pub where_so : {R : Type 0} → Bool → R → Option R
where_so true why = Some why
where_so false why = None

-- the first refusal of a list
abbrev pub first_of : {R : Type 0} → List (Option R) → Option R
first_of [] = None
first_of (None ∷ more) = first_of more
first_of (Some why ∷ more) = Some why

-- the store has no such node, or it isn't idle, or isn't up
abbrev pub no_node : Machine → NodeId → Option Reply
no_node m n = where_so (nat_lt m.shape.nodes n.0) (says.NoNode n)

abbrev pub not_idle : Machine → NodeId → Option Reply
not_idle m n = where_so (not (is_idle (m.mode n.0))) (says.NotIdle n)

abbrev pub not_up : Machine → NodeId → Option Reply
not_up m n = where_so (not (is_up (m.mode n.0))) (says.NotUp n)

-- the transaction is open, or isn't
abbrev pub busy : Machine → TxnId → Option Reply
busy m t = where_so (is_busy m t) (says.Busy t)

abbrev pub no_txn : Machine → TxnId → Option Reply
no_txn m t = where_so (not (is_busy m t)) (says.NotTxn t)

-- the lock can't be had
abbrev pub lock_refusal : LockAnswer → Option Reply
lock_refusal Free = None
lock_refusal Mine = None
lock_refusal (Conflict u) = Some (says.Locked u)
lock_refusal Full = Some says.LocksFull

abbrev pub no_lock : Machine → Key → TxnId → Mode → Option Reply
no_lock m key t mode = lock_refusal (lock_answer m.locks key t mode)

-- a transaction has a lock: the least one that has
abbrev pub any_lock : Machine → Option Reply
any_lock m = option_map says.Busy (least_where (λ l mode. true) m.locks)

-- no further change may be made of a page
abbrev pub at_limit : Machine → ℕ → Option Reply
at_limit m x = where_so (nat_le (2 ^ 63) (m.ident x)) (says.Limit (record { 0 = x }))

-- the log has no room for so many records
abbrev pub no_room : Machine → NodeId → ℕ → Option Reply
no_room m n need = where_so (nat_lt (room m n.0) need) (says.LogFull need (room m n.0))

-- the record with these bytes behind it, where an absent one counts as empty, and why it would be too long
abbrev pub joined : Option (List ℕ) → List ℕ → List ℕ
joined v bytes = unwrap_or v [] ++ bytes

abbrev pub too_long : Option (List ℕ) → List ℕ → Option Reply
too_long v bytes = where_so (nat_lt 248 (length (joined v bytes))) (says.TooLong (length (joined v bytes)))

-- The first reason why a record can't be written into its group's page: into the one that it has, or into the one that
-- it gets. The reasons stand in the order in which they are met. A group without a page needs a free place of its map
-- page. Where there is none, the map page is tested for its limit, and then there is no space. Where there is one, the
-- page of that place is taken, and only then are tested the map page, the page, the value and the room of the log.
abbrev pub no_page : Machine → NodeId → ℕ → Option Reply → Option Reply
no_page m n key no_value = of_group (home m key)
  where
    -- the page of the first free place, if there is one
    of_new : Option ℕ → Option Reply
    of_new None = first_of (at_limit m (map_of_key m.shape key) ∷ Some (says.NoSpace (record { 0 = map_of_key m.shape key })) ∷ [])
    of_new (Some x) = first_of (at_limit m (map_of_key m.shape key) ∷ at_limit m x ∷ no_value ∷ no_room m n 3 ∷ [])

    of_group : Option ℕ → Option Reply
    of_group (Some x) = first_of (at_limit m x ∷ no_value ∷ no_room m n 2 ∷ [])
    of_group None = of_new (new_home m key)

-- the first reason why the record of the key, if the transaction sees one, can't be deleted from its group's page
abbrev pub no_deletion : Machine → TxnId → ℕ → Option Reply
no_deletion m t key = of_record (seen m t key) (home m key)
  where
    of_record : Option (List ℕ) → Option ℕ → Option Reply
    of_record None x = None
    of_record (Some value) None = None
    of_record (Some value) (Some x) = first_of (at_limit m x ∷ no_room m t.node 2 ∷ [])

-- ---- what is done

-- the node takes the map page of the key's group, and then a page if there is one
abbrev pub takes_both : Machine → ℕ → ℕ → Option ℕ → List Part
takes_both m n key None = Take (map_of_key m.shape key) n ∷ []
takes_both m n key (Some x) = Take (map_of_key m.shape key) n ∷ Take x n ∷ []

-- the page in which the record of the key is to be written
abbrev pub target : Machine → ℕ → Option ℕ
target m key = or_new (home m key)
  where
    or_new : Option ℕ → Option ℕ
    or_new None = new_home m key
    or_new (Some x) = Some x

-- the pages that a write of the record takes, and those that a command takes
abbrev pub takes_target : Machine → TxnId → Key → List Part
takes_target m t key = takes_both m t.node.0 key.0 (target m key.0)

-- a page that is written is taken after the map page that has its entry
abbrev pub takes_written : Machine → ℕ → Deed → List Part
takes_written m n d = of_write d.write
  where
    of_write : Option Write → List Part
    of_write None = []
    of_write (Some w) = Take (map_of_data m.shape (record { 0 = w.page })).0 n ∷ Take w.page n ∷ []

-- the pages of all that the transaction has written, the newest write first
abbrev pub takes_back : Machine → TxnId → List Part
takes_back m t = flat_map (takes_written m t.node.0) (reverse (writes_of m t))

abbrev pub takes : Machine → Command → List Part
takes m (asks.Get t key) = takes_both m t.node.0 key.0 (home m key.0)
takes m (asks.Put t key value) = takes_target m t key
takes m (asks.Append t key bytes) = takes_target m t key
takes m (asks.Del t key) = takes_both m t.node.0 key.0 (home m key.0)
takes m asks.Bad = []
takes m (asks.Format s) = []
takes m (asks.Start n) = []
takes m (asks.Begin t) = []
takes m (asks.Commit t) = []
takes m (asks.Abort t) = takes_back m t
takes m (asks.Flush n) = []
takes m (asks.Dump n) = []
takes m (asks.Stat n) = []

-- a group that has no page gets the first free place of its map page
abbrev pub uses : Machine → ℕ → ℕ → List Part
uses m n key = for_group (home m key)
  where
    for_place : Option ℕ → List Part
    for_place None = []
    for_place (Some place) = Use n (map_of_key m.shape key) place (group_of key) ∷ []

    for_group : Option ℕ → List Part
    for_group (Some x) = []
    for_group None = for_place (free_place m key)

-- the record of the key is written into its page
abbrev pub writes : TxnId → ℕ → Option (List ℕ) → Option ℕ → List Part
writes t key value None = []
writes t key value (Some x) = Change t (record { key = key; page = x; value = value }) ∷ []

-- the record of the key gets this value, in its group's page or in the one that the group gets
abbrev pub to_write : Machine → TxnId → Key → Option (List ℕ) → List Part
to_write m t key value = takes_target m t key ++ uses m t.node.0 key.0 ++ Lock key t locks.Write ∷ writes t key.0 value (target m key.0)

-- where the transaction sees a record, it becomes absent
abbrev pub deletes : TxnId → ℕ → Option (List ℕ) → Option ℕ → List Part
deletes t key None x = []
deletes t key (Some value) x = writes t key None x

-- each write of the transaction is taken back
abbrev pub backs : Machine → TxnId → List Part
backs m t = replicate (length (writes_of m t)) (Back t)

-- what a command does that isn't refused, part by part
abbrev pub parts : Machine → Command → List Part
parts m (asks.Start n) = Start n.0 ∷ []
parts m (asks.Begin t) = Begin t ∷ []
parts m (asks.Get t key) = takes m (asks.Get t key) ++ Lock key t locks.Read ∷ []
parts m (asks.Put t key value) = to_write m t key (Some value)
parts m (asks.Append t key bytes) = to_write m t key (Some (joined (seen m t key.0) bytes))
parts m (asks.Del t key) = takes m (asks.Del t key) ++ Lock key t locks.Write ∷ deletes t key.0 (seen m t key.0) (home m key.0)
parts m (asks.Commit t) = Seal t ∷ Unlock t ∷ []
parts m asks.Bad = []
parts m (asks.Format s) = []
parts m (asks.Abort t) = takes_back m t ++ backs m t ++ Seal t ∷ Unlock t ∷ []
parts m (asks.Flush n) = []
parts m (asks.Dump n) = []
parts m (asks.Stat n) = []

-- ---- the reply to a command that isn't refused

abbrev pub found : Option (List ℕ) → Reply
found None = says.Absent
found (Some value) = says.Found value

abbrev pub deleted : Option (List ℕ) → Reply
deleted None = says.Absent
deleted (Some value) = says.Fine

-- the reply tells what the node is; there is none yet that tells of a node which is redone
abbrev pub TellsNode : Machine → ℕ → Reply → Type 0
TellsNode m n r = by (m.mode n)
  where
    by : NodeMode → Type 0
    by Idle = r ≡ says.StatIdle
    by Up = r ≡ says.StatUp (used m n) (owed m n) (room m n)
    by Down = r ≡ says.StatDown
    by Redone = ⊥

-- the reply tells of so many pages that were written: no more than a cache has
abbrev pub TellsFlush : Reply → Type 0
TellsFlush r = (count : ℕ) × (count ≤ 16) × (r ≡ says.Flushed count)

-- what is answered by one reply. A dump is answered row by row (Rows)
abbrev pub MayAnswer : Machine → Command → Reply → Type 0
MayAnswer m (asks.Get t key) r = r ≡ found (seen m t key.0)
MayAnswer m (asks.Del t key) r = r ≡ deleted (seen m t key.0)
MayAnswer m (asks.Flush n) r = TellsFlush r
MayAnswer m (asks.Stat n) r = TellsNode m n.0 r
MayAnswer m (asks.Dump n) r = ⊥
MayAnswer m c r = r ≡ says.Fine

-- ---- when a refusal is met

-- the refusals that a command on a record meets only once it has taken its pages: for what is in them, for the value, and
-- for the room of the log, which is tested last
abbrev pub needs_pages : Reply → Bool
needs_pages (says.Limit x) = true
needs_pages (says.NoSpace x) = true
needs_pages (says.TooLong len) = true
needs_pages (says.LogFull need room) = true
needs_pages why = false
