use Rattle.record_machine.proofs.SameHolds.{again_loose, passed_holds, passed_loose, taken_again}
use Rattle.record_machine.proofs.laws.law_of_passed_pages.Goals as goal

pub returns : goal.returns
returns c = record {
  holds = passed_holds;
  loose = passed_loose;
  again = taken_again;
  again_loose = again_loose;
}
