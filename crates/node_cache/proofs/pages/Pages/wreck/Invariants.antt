use Rattle.std.proofs.Common.{◌≡◌, ◌+◌, All, length}
use Rattle.frame_pool.specs.Frames.{free_count}
use Rattle.node_cache.specs.Room.{freed, parked}
use Rattle.node_cache.proofs.Parking.{AreHeld}
use Rattle.node_cache.proofs.pages.Pages.wreck.Given as goal

-- what is still to be done ends alike
abbrev pub invariant-loop-n : goal.invariant-loop-n
invariant-loop-n g l = record {
  own : All (λ p. p.ticket.node ≡ l.n) l.self;
  held : AreHeld l.self l.pool l.owners;
  pool : freed l.self l.pool ≡ freed l.initial.self l.initial.pool;
  counted : free_count l.pool + length l.self ≡ free_count l.initial.pool + length l.initial.self;
  owners : parked l.self l.owners ≡ parked l.initial.self l.initial.owners;
}

abbrev pub decreases-loop-n : goal.decreases-loop-n
decreases-loop-n g l = length l.self
