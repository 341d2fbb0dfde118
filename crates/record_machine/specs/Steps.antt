-- What a command of a store with several nodes is answered, and what it does, where any node may stop in it.
use Rattle.std.specs.Prelude.{◌≡◌, ◌≤◌, ◌++◌, ◌∷◌, [], ⊤, ℕ, true, All, List, Option, Some, None, is_some, map, option_map, take, if◌then◌else◌}
use Rattle.std.specs.List.{find, range_with_len}
use Rattle.sd_base.specs.declared.device.NodeId.{NodeId}
use Rattle.sd_base.specs.Places.{map_of_data}
use Rattle.record_locks.specs.declared.mode.Mode.TheVariants as locks
use Rattle.script_text.specs.declared.command.Command.{Command}
use Rattle.script_text.specs.declared.command.Command.TheVariants as asks
use Rattle.script_text.specs.declared.reply.Reply.{Reply}
use Rattle.script_text.specs.declared.reply.Reply.TheVariants as says
use Rattle.record_machine.specs.Commands.{MayAnswer, any_lock, busy, first_of, needs_pages, no_deletion, no_lock, no_node, no_page, no_room, no_txn, not_idle, not_up, parts, takes, too_long, where_so}
use Rattle.record_machine.specs.Led.{Broke}
use Rattle.record_machine.specs.Machine.{Machine, awaits_recovery, is_down, seen}
use Rattle.record_machine.specs.Parts.{Part, Sure, Take, dos, one}
use Rattle.record_machine.specs.Rows.{AreAllRows, AreRows, IsInUse, IsNextRow, Row, row_reply}

-- ---- refusals

-- the tables are lost: the first node that awaits recovery
abbrev pub reopening : Machine → Option Reply
reopening m = if m.reopening then option_map (λ n. says.Reopening (record { 0 = n })) (find (λ n. awaits_recovery (m.mode n)) (range_with_len 1 m.shape.nodes)) else None

-- a node that is down holds the page
abbrev pub held_page : Machine → ℕ → Option Reply
held_page m x = by (m.hold x)
  where
    by : Option ℕ → Option Reply
    by None = None
    by (Some h) = where_so (is_down (m.mode h)) (says.Held (record { 0 = x }) (record { 0 = h }))

-- the first page that these parts take and that a node which is down holds
abbrev pub held : Machine → List Part → Option Reply
held m [] = None
held m (Take x n ∷ ps) = first_of (held_page m x ∷ held m ps ∷ [])
held m (part ∷ ps) = held m ps

-- Why a command is refused, if it is: the first of these reasons that there is.
abbrev pub refused_for : Machine → Command → Option Reply
refused_for m asks.Bad = Some says.Bad
refused_for m (asks.Format s) = Some says.Formatted
refused_for m (asks.Start n) = first_of (no_node m n ∷ not_idle m n ∷ [])
refused_for m (asks.Begin t) = first_of (no_node m t.node ∷ not_up m t.node ∷ busy m t ∷ reopening m ∷ no_room m t.node 2 ∷ [])
refused_for m (asks.Get t key) = first_of (no_node m t.node ∷ not_up m t.node ∷ no_txn m t ∷ no_lock m key t locks.Read ∷ held m (takes m (asks.Get t key)) ∷ [])
refused_for m (asks.Put t key value) = first_of (no_node m t.node ∷ not_up m t.node ∷ no_txn m t ∷ no_lock m key t locks.Write ∷ held m (takes m (asks.Put t key value)) ∷ no_page m t.node key.0 None ∷ [])
refused_for m (asks.Append t key bytes) = first_of (no_node m t.node ∷ not_up m t.node ∷ no_txn m t ∷ no_lock m key t locks.Write ∷ held m (takes m (asks.Append t key bytes)) ∷ no_page m t.node key.0 (too_long (seen m t key.0) bytes) ∷ [])
refused_for m (asks.Del t key) = first_of (no_node m t.node ∷ not_up m t.node ∷ no_txn m t ∷ no_lock m key t locks.Write ∷ held m (takes m (asks.Del t key)) ∷ no_deletion m t key.0 ∷ [])
refused_for m (asks.Commit t) = first_of (no_node m t.node ∷ not_up m t.node ∷ no_txn m t ∷ [])
refused_for m (asks.Abort t) = first_of (no_node m t.node ∷ not_up m t.node ∷ no_txn m t ∷ held m (takes m (asks.Abort t)) ∷ [])
refused_for m (asks.Flush n) = first_of (no_node m n ∷ not_up m n ∷ [])
refused_for m (asks.Stat n) = no_node m n
refused_for m (asks.Dump n) = first_of (no_node m n ∷ not_up m n ∷ any_lock m ∷ reopening m ∷ [])

-- when a refusal is met: before the command reads or takes anything, once it has read in its node's log which pages it
-- takes, as it takes its pages, or once it has taken them all
pub data Met : Type 0 where
  Before : Met
  Ahead : Met
  Taking : Met
  Behind : Met

-- a page that a node has which is down: an abort tests all its pages before it takes the first one
abbrev pub met_held : Command → Met
met_held (asks.Abort t) = Ahead
met_held c = Taking

abbrev pub met : Command → Reply → Met
met c (says.Held x h) = met_held c
met c why = if needs_pages why then Behind else Before

-- ---- what is done

-- what a command does that isn't refused: a flush makes sure all that its node has logged, and does nothing else
abbrev pub parts_of : Machine → Command → List Part
parts_of m (asks.Flush n) = Sure n.0 ∷ []
parts_of m c = parts m c

-- the node whose ports do the work of a command
abbrev pub worker : Command → ℕ
worker asks.Bad = 0
worker (asks.Format s) = 0
worker (asks.Start n) = n.0
worker (asks.Begin t) = t.node.0
worker (asks.Get t key) = t.node.0
worker (asks.Put t key value) = t.node.0
worker (asks.Append t key bytes) = t.node.0
worker (asks.Del t key) = t.node.0
worker (asks.Commit t) = t.node.0
worker (asks.Abort t) = t.node.0
worker (asks.Flush n) = n.0
worker (asks.Stat n) = n.0
worker (asks.Dump n) = n.0

-- so many of a command's pages were taken, none of them from a node that is down
pub record HasTaken (m : Machine) (c : Command) (S : Machine → Type 0) : Type 0 where
  pub count : ℕ
  pub free : held m (take count (takes m c)) ≡ None
  pub after : S (dos (take count (takes m c)) m)

-- A command that is refused for what is in its pages, for the value or for the room of the log has taken all of its pages. One of
-- whose pages is held by a node that is down may have taken some, unless it is an abort. That one, and one that is refused for
-- anything else, has taken none.
abbrev pub StaysAs : Machine → Command → Reply → (Machine → Type 0) → Type 0
StaysAs m c why S = by (met c why)
  where
    by : Met → Type 0
    by Before = S m
    by Ahead = S m
    by Taking = HasTaken m c S
    by Behind = S (dos (takes m c) m)

-- the last of these parts takes the page
abbrev pub EndsWithTake : ℕ → List Part → Type 0
EndsWithTake x [] = ⊥
EndsWithTake x (Take y n ∷ []) = x ≡ y
EndsWithTake x (part ∷ ps) = EndsWithTake x ps

-- a page that a command has taken is lost: it was the last one that it took
pub record HasLost (m : Machine) (c : Command) (x : ℕ) (S : Machine → Type 0) : Type 0 where
  pub count : ℕ
  pub free : held m (take count (takes m c)) ≡ None
  pub last : EndsWithTake x (take count (takes m c))
  pub gone : m.gone x ≡ true
  pub after : S (dos (take count (takes m c)) m)

-- the parts of a command up to the first page that it can't take
abbrev pub up_to_held : Machine → List Part → List Part
up_to_held m [] = []
up_to_held m (Take x n ∷ ps) = if is_some (held_page m x) then [] else Take x n ∷ up_to_held m ps
up_to_held m (part ∷ ps) = part ∷ up_to_held m ps

-- A node has stopped in a command. Where its pages tell that it is refused, it stopped as it took them. Where it is refused
-- before it takes one, its node stopped as it read its log.
abbrev pub StopsIn : Machine → Command → ℕ → (Machine → Type 0) → Type 0
StopsIn m c h S = by (refused_for m c)
  where
    refused : Met → Type 0
    refused Before = ⊥
    refused Ahead = Broke (worker c) h [] m S
    refused Taking = Broke (worker c) h (up_to_held m (takes m c)) m S
    refused Behind = Broke (worker c) h (takes m c) m S

    by : Option Reply → Type 0
    by None = Broke (worker c) h (parts_of m c) m S
    by (Some why) = refused (met c why)

-- a page of it is lost
abbrev pub LosesIn : Machine → Command → ℕ → (Machine → Type 0) → Type 0
LosesIn m c x S = by (refused_for m c)
  where
    refused : Met → Type 0
    refused Before = ⊥
    refused Ahead = ⊥
    refused Taking = HasLost m c x S
    refused Behind = HasLost m c x S

    by : Option Reply → Type 0
    by None = HasLost m c x S
    by (Some why) = refused (met c why)

-- From m the machine may answer a command so, and go on to a state of S.
abbrev pub StepOrStop : Machine → Command → Reply → (Machine → Type 0) → Type 0
StepOrStop m c (says.Stopped h) S = StopsIn m c h.0 S
StepOrStop m c (says.Fault h) S = StopsIn m c h.0 S
StepOrStop m c (says.LostPage x) S = LosesIn m c x.0 S
StepOrStop m c r S = by (refused_for m c)
  where
    by : Option Reply → Type 0
    by None = MayAnswer m c r × S (dos (parts_of m c) m)
    by (Some why) = (r ≡ why) × StaysAs m c why S

-- ---- a dump

-- node n takes these pages
abbrev pub take_all : ℕ → List ℕ → List Part
take_all n pages = map (λ x. Take x n) pages

-- where the page is a data page, the node holds its map page
abbrev pub HoldsItsMap : Machine → ℕ → ℕ → Type 0
HoldsItsMap m n x = m.shape.maps ≤ x → m.hold (map_of_data m.shape (record { 0 = x })).0 ≡ Some n

-- a node that takes a data page by one of these parts holds the map page at that point: it has taken it before, or had it
abbrev pub AreMapped : Machine → List Part → Type 0
AreMapped m [] = ⊤
AreMapped m (Take x n ∷ ps) = HoldsItsMap m n x × AreMapped (one (Take x n) m) ps
AreMapped m (part ∷ ps) = AreMapped (one part m) ps

-- Node n has taken pages that a dump may take, each data page behind its map page, and none of them from a node that is down.
pub record TakesPages (m : Machine) (n : NodeId) (S : Machine → Type 0) : Type 0 where
  pub pages : List ℕ
  pub in_use : All (IsInUse m) pages
  pub mapped : AreMapped m (take_all n.0 pages)
  pub free : held m (take_all n.0 pages) ≡ None
  pub after : S (dos (take_all n.0 pages) m)

-- it stopped as it did so, or another node did of which it was to take a page
pub record StopsTaking (m : Machine) (n : NodeId) (h : ℕ) (S : Machine → Type 0) : Type 0 where
  pub pages : List ℕ
  pub in_use : All (IsInUse m) pages
  pub mapped : AreMapped m (take_all n.0 pages)
  pub free : held m (take_all n.0 pages) ≡ None
  pub after : Broke n.0 h (take_all n.0 pages) m S

-- a page that it may take is held by a node that is down, or is lost
abbrev pub IsHeldPage : Machine → ℕ → ℕ → Type 0
IsHeldPage m x h = IsInUse m x × (held_page m x ≡ Some (says.Held (record { 0 = x }) (record { 0 = h })))

abbrev pub IsLostPage : Machine → ℕ → Type 0
IsLostPage m x = IsInUse m x × (m.gone x ≡ true)

-- From m, where the dump isn't refused, the machine may answer so where the next record is asked for, and go on to a state of S.
abbrev pub NextOrStop : Machine → NodeId → ℕ → Reply → (Machine → Type 0) → Type 0
NextOrStop m n first (says.Stopped h) S = StopsTaking m n h.0 S
NextOrStop m n first (says.Fault h) S = StopsTaking m n h.0 S
NextOrStop m n first (says.Held x h) S = IsHeldPage m x.0 h.0 × TakesPages m n S
NextOrStop m n first (says.LostPage x) S = IsLostPage m x.0 × TakesPages m n S
NextOrStop m n first r S = IsNextRow m first r × TakesPages m n S

-- whether it is refused or not
abbrev pub RowOrStop : Machine → NodeId → ℕ → Reply → (Machine → Type 0) → Type 0
RowOrStop m n first r S = by (refused_for m (asks.Dump n))
  where
    by : Option Reply → Type 0
    by None = NextOrStop m n first r S
    by (Some why) = (r ≡ why) × S m

-- These replies are the first rows of a dump, and then this one.
pub record AreRowsThen (m : Machine) (replies : List Reply) (why : Reply) : Type 0 where
  pub end : ℕ
  pub rows : List Row
  pub are : AreRows m end rows
  pub said : replies ≡ map row_reply rows ++ why ∷ []

-- how a dump ends that isn't refused: with all rows, or behind some where a page is held or lost, or a node stopped
pub data DumpEnds (m : Machine) (n : NodeId) (replies : List Reply) (S : Machine → Type 0) : Type 0 where
  all_rows : AreAllRows m replies → TakesPages m n S → DumpEnds m n replies S
  held_by : (x h : ℕ) → AreRowsThen m replies (says.Held (record { 0 = x }) (record { 0 = h })) → IsHeldPage m x h → TakesPages m n S → DumpEnds m n replies S
  lost : (x : ℕ) → AreRowsThen m replies (says.LostPage (record { 0 = x })) → IsLostPage m x → TakesPages m n S → DumpEnds m n replies S
  stopped : (h : NodeId) → AreRowsThen m replies (says.Stopped h) → StopsTaking m n h.0 S → DumpEnds m n replies S
  failed : (h : NodeId) → AreRowsThen m replies (says.Fault h) → StopsTaking m n h.0 S → DumpEnds m n replies S

-- From m a dump may be answered with these replies, and the machine go on to a state of S.
abbrev pub DumpOrStop : Machine → NodeId → List Reply → (Machine → Type 0) → Type 0
DumpOrStop m n replies S = by (refused_for m (asks.Dump n))
  where
    by : Option Reply → Type 0
    by None = DumpEnds m n replies S
    by (Some why) = (replies ≡ why ∷ []) × S m
