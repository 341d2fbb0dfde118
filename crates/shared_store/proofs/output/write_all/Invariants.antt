use Rattle.std.proofs.Common.{◌≡◌, ◌≤◌, ◌-◌, ◌++◌, length, take, IsTrue}
use Rattle.shared_store.proofs.output.write_all.Given as goal

abbrev pub invariant-loop-sent : goal.invariant-loop-sent
invariant-loop-sent g l = record {
  within : l.sent ≤ length l.bytes;
  faults : (g.K.Sink.state l.initial.sink).faults ≤ (g.K.Sink.state l.sink).faults;
  taken : IsTrue g.K.Sink.told → (g.K.Sink.state l.sink).taken ≡ (g.K.Sink.state l.initial.sink).taken ++ take l.sent l.bytes;
}

abbrev pub decreases-loop-sent : goal.decreases-loop-sent
decreases-loop-sent g l = length l.bytes - l.sent
