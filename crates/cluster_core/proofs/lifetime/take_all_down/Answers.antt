use Rattle.std.specs.Prelude.{◌≡◌, ◌≤◌, ◌<◌, false}
use Rattle.std.proofs.Common.{arith, ap, inl, inr, subst, sym, ◌∙◌}
use Rattle.store_nodes.specs.Nodes.{is_up, node_at}
use Rattle.cluster_core.proofs.Opened.{down_next}
use Rattle.cluster_core.proofs.lifetime.take_all_down.Goals as goal

pub loop-n-preserved : goal.loop-n-preserved
loop-n-preserved g c = record {
  low = (let low = c.loop-n.invariant.low in omega (arith, low));
  is = c.take_one_down.ensures.is;
  down = down_next c.loop-n.store.nodes c.take_one_down.new.store.nodes c.loop-n.n c.take_one_down.ensures.down c.take_one_down.ensures.others c.loop-n.invariant.down;
}
