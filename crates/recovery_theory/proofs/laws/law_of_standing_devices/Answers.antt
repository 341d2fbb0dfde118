use Rattle.recovery_theory.proofs.OpenedDevices.{each_cut, one_set, opens}
use Rattle.recovery_theory.proofs.FormattedRecords.{formatted_holds_none}
use Rattle.recovery_theory.proofs.laws.law_of_standing_devices.Goals as goal

pub returns : goal.returns
returns c = record {
  each_cut = each_cut;
  opens = opens;
  one_set = one_set;
  formatted = formatted_holds_none;
}
