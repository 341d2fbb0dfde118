-- What a store and its disk mean to the record machine.
use Rattle.std.specs.Prelude.{◌≡◌, ◌==◌, ◌*◌, ◌<◌, ◌≤◌, ◌∷◌, [], ⊤, ℕ, true, false, List, Option, Some, None, All, filter, map, option_map, reverse, nat_lt, if◌then◌else◌}
use Rattle.std.specs.List.{slice_get}
use Rattle.sd_base.specs.Disk.{BlockState, MayHold}
use Rattle.sd_base.specs.Shape.{page_count}
use Rattle.sd_base.specs.Places.{map_of_data, place_of_page}
use Rattle.sd_base.specs.declared.names.PageNo.{PageNo}
use Rattle.sd_base.specs.declared.shape.Shape.{Shape}
use Rattle.space_map.specs.declared.map_entry.MapEntry.{MapEntry}
use Rattle.space_map.specs.Entry.{ident_of}
use Rattle.space_map.specs.PageImage.{PageImage, data_page, in_life, map_page}
use Rattle.log_record.specs.declared.record.LogRecord.{LogRecord}
use Rattle.log_record.specs.Legal.{IsLegal}
use Rattle.log_record.specs.Text.{record_text}
use Rattle.private_log.specs.Content.{HasNoFuture, LogContent, region_of}
use Rattle.private_log.specs.Reading.{contents}
use Rattle.private_log.specs.Spread.{IsStill}
use Rattle.page_owner.specs.declared.owners.Own.{Own}
use Rattle.page_owner.specs.declared.owners.Own.TheVariants.{Nobody, Out, Parked}
use Rattle.page_owner.specs.Owners.{owner_of}
use Rattle.compensation.specs.Left.{uncompensated}
use Rattle.state_ids.specs.Held.{Shows}
use Rattle.state_ids.specs.Blocks.{HoldsPage, page_place}
use Rattle.node_cache.specs.Cache.{CacheState, is_changed}
use Rattle.txn_core.specs.Seats.{OpenTxn, SeatsState, txn_in}
use Rattle.txn_core.specs.Told.{AreTold, HasRecords, NamesEarlier}
use Rattle.record_machine.specs.Machine.{Deed, Machine, owed}
use Rattle.record_machine.specs.Machine as mode
use Rattle.record_machine.specs.Meaning.{Means, Plain}
use Rattle.store_nodes.specs.declared.node.Node.{Node}
use Rattle.store_nodes.specs.declared.node.Node.TheVariants.{Idle, Up, Down}
use Rattle.store_nodes.specs.declared.store.Store.{Store}
use Rattle.store_nodes.specs.Nodes.{IsPlace, OnUp, is_up, node_at}

-- the page as it is at present
abbrev pub image_in : Shape → Plain → PageNo → PageImage
image_in s p x = if nat_lt x.0 s.maps then map_page (p.maps x.0) else data_page (p.pages x.0)

-- the map entry of a data page
abbrev pub entry_in : Shape → Plain → PageNo → Option MapEntry
entry_in s p x = if nat_lt x.0 s.maps then None else slice_get (p.maps (map_of_data s x).0).entries (place_of_page s x)

-- whatever a stop leaves of the page's block, it stands for the page as it is at present
abbrev pub IsOnDisk : Shape → (ℕ → BlockState) → Plain → PageNo → Type 0
IsOnDisk s b p x = (o : Option (List ℕ)) → MayHold b (page_place s x) o → (image : PageImage) × HoldsPage s x image o × (in_life (entry_in s p x) image ≡ image_in s p x)

-- ---- transactions

-- what a seat owes the machine: its begin, and a write for each update that is left, in the order of the log
abbrev pub deeds_in : ℕ → List Deed → List Deed
deeds_in seat ds = filter (λ d. d.seat == seat) ds

abbrev pub numbers_of : ℕ → List LogRecord → Option OpenTxn → List ℕ
numbers_of first recs None = []
numbers_of first recs (Some t) = t.begin ∷ reverse (uncompensated t.begin first recs)

-- ---- nodes

-- A node that is up: its log has the records, which tell its transactions, and its cache shows the pages, each in the
-- life in which it came in.
pub record ShowsUp (s : Shape) (pool : List (Option (List ℕ))) (n : ℕ) (c : CacheState) (seats : SeatsState) (b : ℕ → BlockState) (p : Plain) (m : Machine) : Type 0 where
  pub records : HasRecords c.log b (p.live n)
  pub told : AreTold seats c.log.start (p.live n)
  pub start : m.start n ≡ c.log.start
  pub cached : All (λ q. Shows pool q.frame (image_in s p q.ticket.page)) c.pages
  pub lives : All (λ q. option_map ident_of q.entry ≡ option_map ident_of (entry_in s p q.ticket.page)) c.pages
  pub deeds : (seat : ℕ) → seat < 8 → map (λ d. d.number) (deeds_in seat (m.pending n)) ≡ numbers_of (6 * c.log.start) (p.live n) (txn_in seats seat)
  pub within : All (λ d. d.seat < 8) (m.pending n)

-- A node that isn't in use: nothing of its log is uncovered, its log has the records, and no transaction of it is open.
pub record ShowsIdle (s : Shape) (n : ℕ) (b : ℕ → BlockState) (p : Plain) (m : Machine) : Type 0 where
  pub legal : All IsLegal (p.live n)
  pub still : IsStill (region_of s n) b
  pub content : LogContent (region_of s n) (contents b) (m.start n) (map record_text (p.live n))
  pub clean : HasNoFuture (region_of s n) (contents b) (m.start n) (map record_text (p.live n))
  pub names : NamesEarlier (6 * m.start n) (p.live n)
  pub none : m.pending n ≡ []

abbrev pub ShowsNode : Shape → List (Option (List ℕ)) → ℕ → Node → (ℕ → BlockState) → Plain → Machine → Type 0
ShowsNode s pool n Idle b p m = (m.mode n ≡ mode.Idle) × ShowsIdle s n b p m
ShowsNode s pool n (Up c seats) b p m = (m.mode n ≡ mode.Up) × ShowsUp s pool n c seats b p m
ShowsNode s pool n Down b p m = (m.mode n ≡ mode.Down) × (owed m n ≤ 6 * s.ring)

-- ---- pages

-- which node holds a page
abbrev pub holder : Own → Option ℕ
holder Nobody = None
holder (Parked n) = Some n.0
holder (Out n) = Some n.0

-- the node that holds the page isn't down
abbrev pub IsHolderUp : List Node → Own → Type 0
IsHolderUp nodes Nobody = ⊤
IsHolderUp nodes (Parked n) = is_up (node_at nodes n.0) ≡ true
IsHolderUp nodes (Out n) = is_up (node_at nodes n.0) ≡ true

-- no node has changes of the page that its block hasn't
pub record IsSettled (nodes : List Node) (owners : List Own) (x : PageNo) : Type 0 where
  pub holder : IsHolderUp nodes (owner_of owners x.0)
  pub clean : (n : ℕ) → IsPlace n → OnUp (node_at nodes n) (λ c seats. is_changed x c ≡ false)

-- ---- the store

-- A store's nodes and its logs mean a state of the machine, by the logs and pages of the store as they are at present. Of a
-- node that is down nothing is said but that it is, and that its transactions owe no more records than its log may have.
pub record ShowsNodes (s : Shape) (pool : List (Option (List ℕ))) (owners : List Own) (nodes : List Node) (b : ℕ → BlockState) (p : Plain) (m : Machine) : Type 0 where
  pub means : Means p m
  pub shape : m.shape ≡ s
  pub node : (n : ℕ) → IsPlace n → n ≤ s.nodes → ShowsNode s pool n (node_at nodes n) b p m
  pub hold : (x : ℕ) → x < page_count s → m.hold x ≡ holder (owner_of owners x)

-- So do the nodes, the logs and the pages on the disk.
pub record ShowsStoreOf (s : Shape) (pool : List (Option (List ℕ))) (owners : List Own) (nodes : List Node) (b : ℕ → BlockState) (p : Plain) (m : Machine) : Type 0 where
  pub means : Means p m
  pub shape : m.shape ≡ s
  pub node : (n : ℕ) → IsPlace n → n ≤ s.nodes → ShowsNode s pool n (node_at nodes n) b p m
  pub stored : (x : PageNo) → x.0 < page_count s → IsSettled nodes owners x → IsOnDisk s b p x
  pub hold : (x : ℕ) → x < page_count s → m.hold x ≡ holder (owner_of owners x)

pub record ShowsStore (c : Store) (b : ℕ → BlockState) (p : Plain) (m : Machine) : Type 0 where
  pub nodes : ShowsStoreOf c.shape c.shared.pool c.shared.owners c.nodes b p m
  pub locks : m.locks ≡ c.shared.locks
  pub reopening : m.reopening ≡ c.shared.reopening

-- it means this state of the machine by some logs and pages
abbrev pub IsShown : Store → (ℕ → BlockState) → Machine → Type 0
IsShown c b m = (p : Plain) × ShowsStore c b p m
