use Rattle.std.proofs.Common.{◌≡◌, true}
use Rattle.node_trials.specs.declared.store.TheConstants.{NODE, SHAPE}
use Rattle.node_trials.specs.Bench.{IsWhole}
use Rattle.node_trials.proofs.stop_tests.read_idents.Given as goal

abbrev pub invariant-loop-x : goal.invariant-loop-x
invariant-loop-x g l = record {
  live : (g.D.Disk.state l.disk).live NODE.0 ≡ true;
  whole : IsWhole SHAPE (g.D.Disk.state l.disk);
}
