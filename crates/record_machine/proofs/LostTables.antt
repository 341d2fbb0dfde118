-- A store whose tables may be lost goes on as the one that still has its locks does.
use Rattle.std.specs.Prelude.{◌≡◌, ◌<◌, ℕ, Bool, Some, false}
use Rattle.sd_base.specs.Places.{page_of_place}
use Rattle.sd_base.specs.Shape.{pages_per_map}
use Rattle.record_locks.specs.Held.{Held}
use Rattle.recovery_theory.specs.History.{History}
use Rattle.recovery_theory.specs.Steps.{passed}
use Rattle.record_machine.specs.Cuts.{Survives, SurvivesAs}
use Rattle.record_machine.specs.Machine.{Machine}
use Rattle.record_machine.specs.Meaning.{Plain}
use Rattle.record_machine.specs.Parts.{Drop, Take, one}
use Rattle.record_machine.proofs.DroppedStops.{dropped_survives}
use Rattle.record_machine.proofs.TakenStops.{taken_survives}

-- where the machine stays as it is
pub survives_still : (held : Held) (dirty dirty' : ℕ → Bool) (h h' : History) (p p' : Plain) (m : Machine) → SurvivesAs held dirty h p m → Survives dirty' h' p' (record m { locks = held }) → SurvivesAs held dirty' h' p' m
survives_still held dirty dirty' h h' p p' m s now = record { survives = now; own = s.own; lost = s.lost; awaits = s.awaits; quiet = s.quiet }

-- where nobody holds a page any more
pub dropped_still : (held : Held) (dirty : ℕ → Bool) (h : History) (p : Plain) (m : Machine) (x : ℕ) → SurvivesAs held dirty h p m → dirty x ≡ false → SurvivesAs held dirty h p (one (Drop x) m)
dropped_still held dirty h p m x s clean = record {
  survives = dropped_survives dirty h p (record m { locks = held }) x s.survives clean;
  own = s.own;
  lost = s.lost;
  awaits = s.awaits;
  quiet = s.quiet;
}

-- and where a node takes one
pub taken_still : (held : Held) (dirty : ℕ → Bool) (h : History) (p : Plain) (m : Machine) (x n : ℕ) → SurvivesAs held dirty h p m → dirty x ≡ false
    → ((map place : ℕ) → map < m.shape.maps → place < pages_per_map → x ≡ page_of_place m.shape map place → m.hold map ≡ Some n) → SurvivesAs held dirty (passed h x n) p (one (Take x n) m)
taken_still held dirty h p m x n s clean map_held = record {
  survives = taken_survives dirty h p (record m { locks = held }) x n s.survives clean map_held;
  own = s.own;
  lost = s.lost;
  awaits = s.awaits;
  quiet = s.quiet;
}
