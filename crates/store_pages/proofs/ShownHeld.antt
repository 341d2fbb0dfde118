-- Which pages nodes that are down hold; and a page that is taken once it is nobody's.
use Rattle.std.specs.Prelude.{◌≡◌, ◌==◌, ◌<◌, ◌≤◌, ℕ, Bool, true, false, not, List, Option, Some, None, refl}
use Rattle.std.proofs.Common.{arith, inl, inr, ap, ◌∙◌}
use Rattle.sd_base.specs.Disk.{BlockState}
use Rattle.sd_base.specs.Shape.{page_count}
use Rattle.sd_base.specs.declared.device.NodeId.{NodeId}
use Rattle.sd_base.specs.declared.names.PageNo.{PageNo}
use Rattle.sd_base.specs.declared.shape.Shape.{Shape}
use Rattle.page_owner.specs.declared.owners.Own.{Own}
use Rattle.page_owner.specs.declared.owners.Own.TheVariants.{Nobody, Out, Parked}
use Rattle.page_owner.specs.Owners.{owner_of}
use Rattle.script_text.specs.declared.reply.Reply.TheVariants as says
use Rattle.record_machine.specs.Commands.{where_so}
use Rattle.record_machine.specs.Machine.{Machine, is_down, put}
use Rattle.record_machine.specs.Meaning.{Plain}
use Rattle.record_machine.specs.Parts.{Drop, Take, loose_after_take, one}
use Rattle.record_machine.specs.Steps.{held_page}
use Rattle.record_machine.proofs.RestSteps.{means_rest}
use Rattle.store_nodes.specs.declared.node.Node.{Node}
use Rattle.store_nodes.specs.declared.node.Node.TheVariants.{Idle, Up, Down}
use Rattle.store_nodes.specs.declared.store.Store.{Store}
use Rattle.store_nodes.specs.Known.{held_by, held_in}
use Rattle.store_nodes.specs.Nodes.{IsHeldBy, IsNode, IsPlace, IsStore, is_up, node_at}
use Rattle.store_nodes.specs.Shows.{IsShown, ShowsNode, ShowsStore, ShowsStoreOf, holder}

-- ---- pages that a node has which is down

-- a node that has a page is one of the store
holder_known : (c : Store) (x : ℕ) (h : NodeId) → IsStore c → IsHeldBy h (owner_of c.shared.owners x) → IsPlace h.0 × (h.0 ≤ c.shape.nodes)
holder_known c x h is held =
    let place = is.shared.holders x h held in
    (place, by (node_at c.nodes h.0) (is.is h.0 place))
  where
    by : (o : Node) → IsNode c.shape c.shared.pool c.shared.owners h.0 o → h.0 ≤ c.shape.nodes
    by Idle was = absurd (was x held)
    by (Up k seats) was = (let number = was.number in let last = was.store.node.1 in omega (arith, number, last))
    by Down was = was.known

-- the machine has it down exactly where it isn't up
down_known : (c : Store) (x : ℕ) (h : NodeId) (b : ℕ → BlockState) (p : Plain) (m : Machine) → IsStore c → IsHeldBy h (owner_of c.shared.owners x) → ShowsStore c b p m → is_down (m.mode h.0) ≡ not (is_up (node_at c.nodes h.0))
down_known c x h b p m is held shown =
    let known = holder_known c x h is held in
    by (node_at c.nodes h.0) (is.is h.0 known.0) (shown.nodes.node h.0 known.0 known.1)
  where
    by : (o : Node) → IsNode c.shape c.shared.pool c.shared.owners h.0 o → ShowsNode c.shape c.shared.pool h.0 o b p m → is_down (m.mode h.0) ≡ not (is_up o)
    by Idle was now = absurd (was x held)
    by (Up k seats) was now = ap is_down now.0
    by Down was now = ap is_down now.0

-- the page is held exactly where the machine says so
pub held_shown : (c : Store) (x : PageNo) (b : ℕ → BlockState) (m : Machine) → IsStore c → x.0 < page_count c.shape → IsShown c b m → held_page m x.0 ≡ held_in c x
held_shown c x b m is within shown = by (owner_of c.shared.owners x.0) refl
  where
    hold : m.hold x.0 ≡ holder (owner_of c.shared.owners x.0)
    hold = shown.1.nodes.hold x.0 within

    some : (h : NodeId) → IsHeldBy h (owner_of c.shared.owners x.0) → m.hold x.0 ≡ Some h.0 → held_page m x.0 ≡ where_so (not (is_up (node_at c.nodes h.0))) (says.Held x h)
    some h held is_held = rw is_held (ap (λ o. where_so o (says.Held x h)) (down_known c x.0 h b shown.0 m is held shown.1))

    by : (own : Own) → owner_of c.shared.owners x.0 ≡ own → held_page m x.0 ≡ held_by c x own
    by Nobody is_own = let none : m.hold x.0 ≡ None = hold ∙ ap holder is_own in rw none refl
    by (Parked h) is_own = some h (inl is_own) (hold ∙ ap holder is_own)
    by (Out h) is_own = some h (inr is_own) (hold ∙ ap holder is_own)

-- ---- a page that is taken once it is nobody's

node_dropped : (s : Shape) (pool : List (Option (List ℕ))) (k : ℕ) (o : Node) (b : ℕ → BlockState) (p : Plain) (m : Machine) (x n : ℕ) → ShowsNode s pool k o b p (one (Take x n) (one (Drop x) m)) → ShowsNode s pool k o b p (one (Take x n) m)
node_dropped s pool k Idle b p m x n was = (was.0, record { legal = was.1.legal; still = was.1.still; content = was.1.content; clean = was.1.clean; names = was.1.names; none = was.1.none })
node_dropped s pool k (Up c seats) b p m x n was = (was.0, record { records = was.1.records; told = was.1.told; start = was.1.start; cached = was.1.cached; lives = was.1.lives; deeds = was.1.deeds; within = was.1.within })
node_dropped s pool k Down b p m x n was = was

pub dropped_taken : (c : Store) (b : ℕ → BlockState) (m : Machine) (x n : ℕ) → IsShown c b (one (Take x n) (one (Drop x) m)) → IsShown c b (one (Take x n) m)
dropped_taken c b m x n shown = (
  shown.0,
  record {
    nodes = record {
      means = means_rest shown.0 (one (Take x n) (one (Drop x) m)) m.mode m.reopening (put x (Some n) m.hold) m.first (loose_after_take x n m) m.gone was.means;
      shape = was.shape;
      node = λ k k_is low. node_dropped c.shape c.shared.pool k (node_at c.nodes k) b shown.0 m x n (was.node k k_is low);
      stored = was.stored;
      hold = λ y within. by y (y == x) refl ∙ was.hold y within;
    };
    locks = shown.1.locks;
    reopening = shown.1.reopening;
  },
)
  where
    was : ShowsStoreOf c.shape c.shared.pool c.shared.owners c.nodes b shown.0 (one (Take x n) (one (Drop x) m))
    was = shown.1.nodes

    by : (y : ℕ) (t : Bool) → (y == x) ≡ t → put x (Some n) m.hold y ≡ put x (Some n) (put x None m.hold) y
    by y true same = rw same refl
    by y false other = rw other refl
