-- What is said of a result by whether the port stopped, where an error is a fault and what comes back with it.
use Rattle.std.specs.Prelude.{Result, Ok, Err, IfErr, MatchResult}
use Rattle.sd_base.specs.Faults.{OnStop, StaysLive}
use Rattle.sd_base.specs.declared.fault.DevFault.{DevFault}
use Rattle.sd_base.specs.declared.fault.DevFault.TheVariants.{Stopped, Failed, Lost, Damaged}
use Rattle.state_ids.specs.Blocks.{UnlessStopped}

-- what follows where the port stopped, and where it didn't
pub stop_then : {T X P Q : Type 0} (r : Result T (DevFault × X)) → IfErr r (λ e. OnStop e.0 P) → (P → Q) → IfErr r (λ e. OnStop e.0 Q)
stop_then (Ok t) p f = tt
stop_then (Err (Stopped n, x)) p f = f p
stop_then (Err (Failed n, x)) p f = f p
stop_then (Err (Lost at, x)) p f = tt
stop_then (Err (Damaged at, x)) p f = tt

pub live_then : {T X P Q : Type 0} (r : Result T (DevFault × X)) → MatchResult r (λ _. P) (λ e. UnlessStopped e.0 P) → (P → Q) → MatchResult r (λ _. Q) (λ e. UnlessStopped e.0 Q)
live_then (Ok t) p f = f p
live_then (Err (Stopped n, x)) p f = tt
live_then (Err (Failed n, x)) p f = tt
live_then (Err (Lost at, x)) p f = f p
live_then (Err (Damaged at, x)) p f = f p

-- the same of a fault alone, and of a result that is one
pub unless_then : {P Q : Type 0} (f : DevFault) → UnlessStopped f P → (P → Q) → UnlessStopped f Q
unless_then (Stopped n) p g = tt
unless_then (Failed n) p g = tt
unless_then (Lost at) p g = g p
unless_then (Damaged at) p g = g p

pub stays_then : (T : Type 0) {P Q : Type 0} (f : DevFault) → UnlessStopped f P → (P → Q) → StaysLive {T = T} (Err f) Q
stays_then T (Stopped n) p g = tt
stays_then T (Failed n) p g = tt
stays_then T (Lost at) p g = g p
stays_then T (Damaged at) p g = g p

pub stopped_then : {T P Q : Type 0} (r : Result T DevFault) → IfErr r (λ f. OnStop f P) → (P → Q) → IfErr r (λ f. OnStop f Q)
stopped_then (Ok x) p g = tt
stopped_then (Err (Stopped n)) p g = g p
stopped_then (Err (Failed n)) p g = g p
stopped_then (Err (Lost at)) p g = tt
stopped_then (Err (Damaged at)) p g = tt
