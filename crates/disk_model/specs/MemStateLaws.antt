-- The laws of a device in memory.
use Rattle.std.specs.Prelude.{◌≡◌, ◌<◌, ℕ, true, List, Option, None}
use Rattle.std.proofs.lemmas.Bool.{lt-ltb}
use Rattle.sd_base.specs.Disk.{IsLawful}
use Rattle.sd_base.specs.Outcomes.{among, among-one, among-first}
use Rattle.disk_model.specs.Memory.{view_of}
use Rattle.disk_model.specs.MemState.{mem_state}
use Rattle.disk_model.specs.declared.cell.Mark.{Mark}
use Rattle.disk_model.specs.declared.cell.Mark.TheVariants.{Covered, Lost, Waiting}
use Rattle.disk_model.specs.declared.memory.MemDisk.{MemDisk}

-- each block is in reach
pub mem_reaches : (d : MemDisk) (k : ℕ) → k < (mem_state d).size → (mem_state d).reach k ≡ true
unfolding mem_state
mem_reaches d k lt = lt-ltb k _ lt

-- what a block holds is one of its outcomes
pub current_among : (m : Mark) (now before : List ℕ) → among (view_of m now before).state.outcomes (view_of m now before).state.current ≡ true
current_among Lost now before = among-first _ _
current_among Covered now before = among-first _ _
current_among (Waiting port was_lost bit) now before = among-first _ _

-- a block with no writer has one outcome
pub covered_one : (m : Mark) (now before : List ℕ) → (view_of m now before).state.writer ≡ None → (o : Option (List ℕ)) → among (view_of m now before).state.outcomes o ≡ true → o ≡ (view_of m now before).state.current
covered_one Lost now before e o h = among-one _ _ h
covered_one Covered now before e o h = among-one _ _ h
covered_one (Waiting port was_lost bit) now before e o h = cc

-- a lost block has no other outcome
pub lost_one : (m : Mark) (now before : List ℕ) → (view_of m now before).state.current ≡ None → (o : Option (List ℕ)) → among (view_of m now before).state.outcomes o ≡ true → o ≡ None
lost_one Lost now before e o h = among-one _ _ h
lost_one Covered now before e o h = cc
lost_one (Waiting port was_lost bit) now before e o h = cc

-- what holds of each block of a device
pub mem_lawful : (d : MemDisk) (k : ℕ) → IsLawful (mem_state d).block k
unfolding mem_state
mem_lawful d k = record {
  current = current_among _ _ _;
  lost_alone = lost_one _ _ _;
  covered = covered_one _ _ _;
  port = λ n e. (d.reached.waiting n k e).port;
}
