-- What a store and its disk say of a history: the logs and pages that a stop leaves, whatever it is.
use Rattle.std.specs.Prelude.{◌≡◌, ◌+◌, ◌*◌, ◌≤◌, ◌<◌, ℕ, All, IfSome, List, Option, None, MatchOption, length, map}
use Rattle.sd_base.specs.Disk.{BlockState, MayHold}
use Rattle.sd_base.specs.Shape.{page_count}
use Rattle.sd_base.specs.declared.names.PageNo.{PageNo}
use Rattle.sd_base.specs.declared.shape.Shape.{Shape}
use Rattle.log_record.specs.declared.record.LogRecord.{LogRecord}
use Rattle.log_record.specs.Legal.{IsLegal}
use Rattle.log_record.specs.Text.{record_text}
use Rattle.private_log.specs.Content.{region_of}
use Rattle.private_log.specs.Spread.{IsSpread, IsStill}
use Rattle.state_ids.specs.Blocks.{HoldsPage, page_place}
use Rattle.node_cache.specs.Cache.{CacheState}
use Rattle.txn_core.specs.Seats.{SeatsState}
use Rattle.recovery_theory.specs.History.{History}
use Rattle.recovery_theory.specs.Rules.{last_record_of}
use Rattle.store_nodes.specs.declared.node.Node.{Node}
use Rattle.store_nodes.specs.declared.node.Node.TheVariants.{Idle, Up, Down}
use Rattle.store_nodes.specs.Nodes.{IsPlace, node_at}

-- the last record of each open transaction is where its seat says
abbrev pub AreLatest : ℕ → List LogRecord → SeatsState → Type 0
AreLatest first recs seats = All (λ o. IfSome o (λ t. last_record_of t.begin first recs t.begin ≡ t.last)) seats.seats

-- A node that is up: its log begins where the history has it, has what the history takes as stable stable, and has the last record
-- of each of its transactions where the seat says.
pub record TiesUp (n : ℕ) (c : CacheState) (seats : SeatsState) (h : History) : Type 0 where
  pub first : h.devices.first n ≡ 6 * c.log.start
  pub stable : 6 * c.log.start + h.stable n ≤ c.log.stable
  pub latest : AreLatest (h.devices.first n) (h.live n) seats

-- One that isn't: nothing of its log is uncovered, and whatever a stop leaves, the log has the records, all of which are stable.
pub record TiesStill (s : Shape) (n : ℕ) (b : ℕ → BlockState) (h : History) : Type 0 where
  pub start : ℕ
  pub first : h.devices.first n ≡ 6 * start
  pub legal : All IsLegal (h.live n)
  pub stable : h.stable n ≡ length (h.live n)
  pub still : IsStill (region_of s n) b
  pub log : IsSpread (region_of s n) start (length (h.live n)) b (map record_text (h.live n))

abbrev pub TiesNode : Shape → ℕ → Node → (ℕ → BlockState) → History → Type 0
TiesNode s n Idle b h = TiesStill s n b h
TiesNode s n (Up c seats) b h = TiesUp n c seats h
TiesNode s n Down b h = TiesStill s n b h

-- whatever a stop leaves of the page's block, it is what the history has of it
abbrev pub TiesPage : Shape → (ℕ → BlockState) → History → PageNo → Type 0
TiesPage s b h x = (o : Option (List ℕ)) → MayHold b (page_place s x) o → MatchOption (h.devices.disk x.0) (o ≡ None) (λ image. HoldsPage s x image o)

-- A store's nodes and its disk have the logs and pages of a history.
pub record IsTied (s : Shape) (nodes : List Node) (b : ℕ → BlockState) (h : History) : Type 0 where
  pub node : (n : ℕ) → IsPlace n → n ≤ s.nodes → TiesNode s n (node_at nodes n) b h
  pub page : (x : PageNo) → x.0 < page_count s → TiesPage s b h x
