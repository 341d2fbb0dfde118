-- A seat, as a contract sees it.
use Rattle.txn_core.specs.declared.seats.Open.{Open}
use Rattle.txn_core.specs.Seats.{OpenTxn}

abbrev pub shown : Open → OpenTxn
shown o = record { begin = o.begin; last = o.last; left = o.left }
