-- Which locks stay where some are given up.
use Rattle.std.specs.Prelude.{◌==◌, ◌||◌, Bool, not}
use Rattle.record_locks.specs.declared.entry.GivenUp.{GivenUp}
use Rattle.record_locks.specs.declared.entry.GivenUp.TheVariants.{OfTxn, OfNode, ReadsOfNode}
use Rattle.record_locks.specs.declared.mode.Mode.{Mode}
use Rattle.record_locks.specs.Order.{Lock, same_txn}
use Rattle.record_locks.specs.Held.{is_write}

-- a lock in this mode isn't given up with these
abbrev pub stays : GivenUp → Lock → Mode → Bool
stays (OfTxn t) l mode = not (same_txn l.txn t)
stays (OfNode n) l mode = not (l.txn.node.0 == n.0)
stays (ReadsOfNode n) l mode = not (l.txn.node.0 == n.0) || is_write mode
