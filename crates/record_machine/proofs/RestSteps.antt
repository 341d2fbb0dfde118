-- What a store means doesn't hang on which nodes are up, who holds a page, or what is loose.
use Rattle.std.specs.Prelude.{ℕ, Bool, List, Option, None}
use Rattle.record_machine.specs.Machine.{LooseChange, Machine, NodeMode, put}
use Rattle.record_machine.specs.Meaning.{AreLocked, AreLogs, ArePages, Means, Plain}
use Rattle.record_machine.specs.Parts.{Drop, loose_after_drop, one}

-- the machine with other holds and the like
abbrev pub with_rest : (ℕ → NodeMode) → Bool → (ℕ → Option ℕ) → (ℕ → ℕ) → (ℕ → List LooseChange) → (ℕ → Bool) → Machine → Machine
with_rest mode reopening hold first loose gone m = record m { mode = mode; reopening = reopening; hold = hold; first = first; loose = loose; gone = gone }

pub pages_rest : (p : Plain) (m : Machine) (mode : ℕ → NodeMode) (reopening : Bool) (hold : ℕ → Option ℕ) (first : ℕ → ℕ) (loose : ℕ → List LooseChange) (gone : ℕ → Bool) → ArePages p m → ArePages p (with_rest mode reopening hold first loose gone m)
pages_rest p m mode reopening hold first loose gone was = record {
  shape = was.shape;
  count = was.count;
  map_number = was.map_number;
  number = was.number;
  entries = was.entries;
  map_ident = was.map_ident;
  ident = was.ident;
  alive = was.alive;
  unused = was.unused;
  present = was.present;
  absent = was.absent;
}

pub logs_rest : (p : Plain) (m : Machine) (mode : ℕ → NodeMode) (reopening : Bool) (hold : ℕ → Option ℕ) (first : ℕ → ℕ) (loose : ℕ → List LooseChange) (gone : ℕ → Bool) → AreLogs p m → AreLogs p (with_rest mode reopening hold first loose gone m)
logs_rest p m mode reopening hold first loose gone was = record { tail = was.tail; deeds = was.deeds; rising = was.rising; homes = was.homes }

pub locked_rest : (m : Machine) (mode : ℕ → NodeMode) (reopening : Bool) (hold : ℕ → Option ℕ) (first : ℕ → ℕ) (loose : ℕ → List LooseChange) (gone : ℕ → Bool) → AreLocked m → AreLocked (with_rest mode reopening hold first loose gone m)
locked_rest m mode reopening hold first loose gone was = record { apart = was.apart; written = was.written }

pub means_rest : (p : Plain) (m : Machine) (mode : ℕ → NodeMode) (reopening : Bool) (hold : ℕ → Option ℕ) (first : ℕ → ℕ) (loose : ℕ → List LooseChange) (gone : ℕ → Bool) → Means p m → Means p (with_rest mode reopening hold first loose gone m)
means_rest p m mode reopening hold first loose gone means = record {
  pages = pages_rest p m mode reopening hold first loose gone means.pages;
  logs = logs_rest p m mode reopening hold first loose gone means.logs;
  locked = locked_rest m mode reopening hold first loose gone means.locked;
  tops = means.tops;
}

-- and so not on what is loose
pub means_loose : (p : Plain) (m : Machine) (loose : ℕ → List LooseChange) → Means p m → Means p (record m { loose = loose })
means_loose p m loose means = means_rest p m m.mode m.reopening m.hold m.first loose m.gone means

-- nor on a page that nobody holds any more
pub means_dropped : (p : Plain) (m : Machine) (x : ℕ) → Means p m → Means p (one (Drop x) m)
means_dropped p m x means = means_rest p m m.mode m.reopening (put x None m.hold) m.first (loose_after_drop x m) m.gone means
