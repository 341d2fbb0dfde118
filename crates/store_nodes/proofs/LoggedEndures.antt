-- A store endures a call of a node that logs one record, where its pages stay: what it leaves, done or stopped.
use Rattle.std.specs.Prelude.{◌≡◌, ◌≢◌, ◌-◌, ◌/◌, ◌≤◌, ℕ, All, List, map}
use Rattle.std.proofs.Common.{subst, ◌∙◌}
use Rattle.sd_base.specs.Disk.{BlockState}
use Rattle.sd_base.specs.Calls.{KeepsForeign, KeepsForeignBut, Narrows}
use Rattle.log_record.specs.Legal.{IsLegal}
use Rattle.log_record.specs.Text.{record_text}
use Rattle.private_log.specs.Frames.{NarrowsBeside}
use Rattle.private_log.specs.Log.{SameLog, next_place, region}
use Rattle.private_log.specs.Spread.{IsCutLog, IsStill}
use Rattle.node_cache.specs.Cache.{CacheState}
use Rattle.txn_core.specs.Seats.{SeatsState}
use Rattle.recovery_theory.specs.History.{History}
use Rattle.record_machine.specs.Cuts.{SurvivesAs}
use Rattle.record_machine.specs.Machine.{Machine}
use Rattle.record_machine.specs.Machine as machine
use Rattle.record_machine.specs.Meaning.{Plain}
use Rattle.store_nodes.specs.declared.node.Node.{Node}
use Rattle.store_nodes.specs.declared.node.Node.TheVariants.{Up}
use Rattle.store_nodes.specs.declared.store.Store.{Store}
use Rattle.store_nodes.specs.Endures.{AreBusy, EnduresAs, MayHaltAs, with_held}
use Rattle.store_nodes.specs.Nodes.{IsPlace, IsStore, node_at, with_node}
use Rattle.store_nodes.specs.Ports.{IsQuiet}
use Rattle.store_nodes.specs.Shows.{ShowsUp}
use Rattle.store_nodes.specs.Tied.{AreLatest, TiesNode, TiesUp}
use Rattle.store_nodes.proofs.Logs as logs
use Rattle.store_nodes.proofs.RingEndures.{ring_endures, ring_halts}
use Rattle.store_nodes.proofs.ShownOthers.{LeavesNode}
use Rattle.store_nodes.proofs.Ties.{LeavesLog, up_tied}

module _ (me : Store) (n i : ℕ) (c d : CacheState) (seats after : SeatsState) (is : IsStore me) (place : IsPlace n) (at : i ≡ n - 1) (up : node_at me.nodes n ≡ Up c seats) (b b' : ℕ → BlockState) (p p' : Plain) (m m' : Machine) (e : EnduresAs me b p m) (h' : History)
    (narrows : NarrowsBeside (next_place c.log) b b') (foreign : KeepsForeignBut (next_place c.log) c.node.0 b b') (quiet : IsQuiet me b)
    (shape : m'.shape ≡ m.shape) (reopening : m'.reopening ≡ m.reopening) (gone : m'.gone ≡ m.gone) (hold : (x : ℕ) → m'.hold x ≡ m.hold x) (disk : h'.devices.disk ≡ e.history.devices.disk) (first : h'.devices.first n ≡ e.history.devices.first n)
    (leaves : (k : ℕ) → IsPlace k → k ≢ n → LeavesNode me.shape k (node_at me.nodes k) p p' (with_held e.held m) (with_held e.held m')) (logged : (k : ℕ) → k ≢ n → LeavesLog k e.history h') where
  low : n ≤ me.shape.nodes
  low = logs.low me n i c d seats after is place at up

  was_tied : TiesUp n c seats e.history
  was_tied = subst (λ o. TiesNode me.shape n o b e.history) up (e.tied.node n place low)

  abbrev S : List Node → Store
  S nodes = record { shape = me.shape; shared = me.shared; nodes = nodes }

  -- it is done
  pub logged_endures : m'.mode n ≡ machine.Up → d.pages ≡ c.pages → SameLog c.log d.log → h'.stable n ≡ e.history.stable n → c.log.stable ≤ d.log.stable → AreLatest (e.history.devices.first n) (h'.live n) after → AreBusy m' → m'.locks ≡ m.locks → ShowsUp me.shape me.shared.pool n d after b' p' (with_held e.held m') → SurvivesAs e.held e.dirty h' p' m'
      → EnduresAs (S (with_node me.nodes n (Up d after))) b' p' m'
  logged_endures live same_pages same stable rises latest busy locks shows survives =
      ring_endures me n i (c.log.tail / 6) c d seats after is place at up b b' p p' m m' e h' narrows foreign quiet shape reopening gone hold disk first leaves logged e.held me.shared.locks live same_pages (up_tied n c d seats after e.history h' first stable same rises latest was_tied) busy (locks ∙ e.locks) shows survives

  -- or the node is about to halt, whose port has stopped in it
  pub logged_halts : (b'' : ℕ → BlockState) → m'.mode n ≡ machine.Up → Narrows b' b'' → KeepsForeign n b' b'' → All IsLegal (h'.live n) → (cut : IsCutLog (region c.log) c.log.start c.log.stable b' (map record_text (h'.live n))) → h'.stable n ≤ cut.count → IsStill (region c.log) b' → AreBusy m' → m'.locks ≡ m.locks → SurvivesAs e.held e.dirty h' p' m'
      → MayHaltAs n (S (with_node me.nodes n (Up d after))) b'' p' m'
  logged_halts b'' live settled stops legal cut sure still busy locks survives =
      ring_halts me n i (c.log.tail / 6) c d seats after is place at up b b' p p' m m' e h' narrows foreign quiet shape reopening gone hold disk first leaves logged b'' live settled stops legal cut sure still (λ key t how has up far. busy key t how has up) locks survives
