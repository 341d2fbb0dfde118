-- What a store shows doesn't hang on which changes a stop may still take away.
use Rattle.std.specs.Prelude.{ℕ, List, Option}
use Rattle.sd_base.specs.Disk.{BlockState}
use Rattle.sd_base.specs.declared.shape.Shape.{Shape}
use Rattle.record_machine.specs.Machine.{LooseChange, Machine}
use Rattle.record_machine.specs.Meaning.{Plain}
use Rattle.record_machine.specs.Parts.{Sure, one}
use Rattle.record_machine.proofs.RestSteps.{means_loose}
use Rattle.store_nodes.specs.declared.node.Node.{Node}
use Rattle.store_nodes.specs.declared.node.Node.TheVariants.{Idle, Up, Down}
use Rattle.store_nodes.specs.declared.store.Store.{Store}
use Rattle.store_nodes.specs.Nodes.{node_at}
use Rattle.store_nodes.specs.Shows.{IsShown, ShowsNode}

module _ (m : Machine) (loose : ℕ → List LooseChange) where
  -- the same machine, of which other changes may be taken away
  abbrev loosened : Machine
  loosened = record m { loose = loose }

  node_loose : (s : Shape) (pool : List (Option (List ℕ))) (n : ℕ) (node : Node) (b : ℕ → BlockState) (p : Plain) → ShowsNode s pool n node b p m → ShowsNode s pool n node b p loosened
  node_loose s pool n Idle b p was = (was.0, record { legal = was.1.legal; still = was.1.still; content = was.1.content; clean = was.1.clean; names = was.1.names; none = was.1.none })
  node_loose s pool n (Up c seats) b p was = (was.0, record { records = was.1.records; told = was.1.told; start = was.1.start; cached = was.1.cached; lives = was.1.lives; deeds = was.1.deeds; within = was.1.within })
  node_loose s pool n Down b p was = was

  pub shown_loose : (c : Store) (b : ℕ → BlockState) → IsShown c b m → IsShown c b loosened
  shown_loose c b was = (
    was.0,
    record {
      nodes = record {
        means = means_loose was.0 m loose was.1.nodes.means;
        shape = was.1.nodes.shape;
        node = λ n is low. node_loose c.shape c.shared.pool n (node_at c.nodes n) b was.0 (was.1.nodes.node n is low);
        stored = was.1.nodes.stored;
        hold = was.1.nodes.hold;
      };
      locks = was.1.locks;
      reopening = was.1.reopening;
    },
  )

-- the changes of a node are sure
pub shown_sure : (c : Store) (b : ℕ → BlockState) (n : ℕ) (m : Machine) → IsShown c b m → IsShown c b (one (Sure n) m)
shown_sure c b n m was = shown_loose m (one (Sure n) m).loose c b was
