-- What a node has of the pages in memory, and what a change leaves of it.
use Rattle.std.specs.Prelude.{◌≡◌, ◌⊎◌, ◌+◌, ◌-◌, ◌≤◌, ◌<◌, ⊤, ℕ, Bool, true, false, List, Option, Some, None, IsTrue, IfSome}
use Rattle.std.specs.List.{count_by, slice_get}
use Rattle.sd_base.specs.declared.names.PageNo.{PageNo}
use Rattle.sd_base.specs.declared.names.TxnId.{TxnId}
use Rattle.page_image.specs.declared.page_view.PageView.{PageView}
use Rattle.space_map.specs.declared.map_entry.MapEntry.{MapEntry}
use Rattle.space_map.specs.declared.map_entry.MapEntry.TheVariants.{Free, Used}
use Rattle.space_map.specs.Image.{MapImage}
use Rattle.space_map.specs.PageImage.{map_page}
use Rattle.private_log.specs.Log.{SameLog, space}
use Rattle.state_ids.specs.Held.{Shows}
use Rattle.record_machine.specs.Commands.{joined}
use Rattle.node_cache.specs.Cache.{CachedPage, CacheState, has_changes, is_cached, is_changed, page_at}
use Rattle.node_cache.specs.Room.{without_page}
use Rattle.txn_core.specs.Seats.{OpenTxn, SeatsState, is_busy, owed, txn_in}
use Rattle.txn_core.specs.Updates.{HasPage}
use Rattle.txn_core.specs.declared.change.Change.{Change}
use Rattle.txn_core.specs.declared.change.Change.TheVariants.{Put, Append, Delete}
use Rattle.store_nodes.specs.declared.node.Node.{Node}
use Rattle.store_nodes.specs.declared.node.Node.TheVariants.{Idle, Up, Down}
use Rattle.store_nodes.specs.declared.store.Store.{Store}
use Rattle.store_nodes.specs.Nodes.{OnUp, is_up, node_at}

-- ---- what a node has cached

-- the map page x is cached, with this in its frame
pub record HasMap (pool : List (Option (List ℕ))) (pages : List CachedPage) (x : PageNo) (image : MapImage) : Type 0 where
  pub page : CachedPage
  pub there : page_at x pages ≡ Some page
  pub shows : Shows pool page.frame (map_page image)
  pub number : image.page ≡ x

-- node n has the page cached
abbrev pub HasCached : Store → ℕ → PageNo → Type 0
HasCached c n x = OnUp (node_at c.nodes n) (λ d seats. IsTrue (is_cached x d))

-- it has the map page cached, or the data page, with this in its frame
abbrev pub ShowsMap : Store → ℕ → PageNo → MapImage → Type 0
ShowsMap c n x image = OnUp (node_at c.nodes n) (λ k seats. HasMap c.shared.pool k.pages x image)

abbrev pub ShowsData : Store → ℕ → PageNo → PageView → Type 0
ShowsData c n x v = OnUp (node_at c.nodes n) (λ k seats. HasPage c.shared.pool k.pages x v)

-- the entry has none of the groups from `first` on and below `end`
abbrev pub IsUnused : ℕ → ℕ → MapEntry → Type 0
IsUnused first end (Free ident) = ⊤
IsUnused first end (Used g ident) = (g.0 < first) ⊎ (end ≤ g.0)

-- no entry of a map page has one
abbrev pub AreUnused : ℕ → ℕ → List MapEntry → Type 0
AreUnused first end entries = (place : ℕ) → place < 252 → IfSome (slice_get entries place) (IsUnused first end)

-- ---- its transactions

-- a seat of the node has an open transaction
abbrev pub has_txn : Node → TxnId → Bool
has_txn Idle t = false
has_txn (Up c seats) t = is_busy seats t.seat
has_txn Down t = false

-- how many records there is room for in its log
abbrev pub room_in : Node → ℕ
room_in Idle = 0
room_in (Up c seats) = space c.log - owed seats
room_in Down = 0

-- the node is up and has the transactions that it had
abbrev pub KeepsSeats : Node → Node → Type 0
KeepsSeats Idle new = new ≡ Idle
KeepsSeats (Up c before) new = (is_up new ≡ true) × OnUp new (λ d after. after ≡ before)
KeepsSeats Down new = new ≡ Down

-- no lock and no transaction has changed
pub record KeepsWork (n : ℕ) (old new : Store) : Type 0 where
  pub locks : new.shared.locks ≡ old.shared.locks
  pub reopening : new.shared.reopening ≡ old.shared.reopening
  pub seats : KeepsSeats (node_at old.nodes n) (node_at new.nodes n)

-- the transaction in the seat has one update less that is left
abbrev pub LeavesLess : ℕ → SeatsState → SeatsState → Type 0
LeavesLess seat old new = (t u : OpenTxn) → txn_in old seat ≡ Some t → txn_in new seat ≡ Some u → u.left + 1 ≡ t.left

-- ---- changes

-- the record after a change of this one
abbrev pub value_after : Change → Option (List ℕ) → Option (List ℕ)
value_after (Put value) v = Some value
value_after (Append bytes) v = Some (joined v bytes)
value_after Delete v = None

-- A node after a place of a map page came into use: its transactions are as before, its log has one record more, and its
-- data pages, which begin at this one, are as they were.
pub record UsesPlace (first : ℕ) (pool after : List (Option (List ℕ))) (c d : CacheState) (old new : SeatsState) : Type 0 where
  pub seats : new ≡ old
  pub tail : d.log.tail ≡ c.log.tail + 1
  pub room : space d.log + 1 ≡ space c.log
  pub pages : (x : PageNo) (v : PageView) → first ≤ x.0 → HasPage pool c.pages x v → HasPage after d.pages x v

-- the cache has the pages that it had, with the changes that it had made of them
abbrev pub KeepsPages : CacheState → CacheState → Type 0
KeepsPages c d = d.pages ≡ c.pages

-- A node after it has given up the page x: no other page of its cache has changed; where x had changes, all records of its
-- log are stable, and else the log is as it was.
pub record GivesUp (x : PageNo) (c d : CacheState) : Type 0 where
  pub pages : d.pages ≡ without_page x c.pages
  pub same : SameLog c.log d.log
  pub tail : d.log.tail ≡ c.log.tail
  pub stable : is_changed x c ≡ true → d.log.stable ≡ c.log.tail
  pub kept : is_changed x c ≡ false → d.log ≡ c.log

-- The pages that the cache had changed were written, and so many there were: it has changed none since, and all records
-- of its log are stable.
pub record WritesBack (c d : CacheState) (count : ℕ) : Type 0 where
  pub number : count ≡ count_by has_changes c.pages
  pub clean : count_by has_changes d.pages ≡ 0
  pub stable : d.log.stable ≡ d.log.tail
