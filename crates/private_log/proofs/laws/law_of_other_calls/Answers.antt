use Rattle.private_log.proofs.OtherCalls.{on_narrowed, on_stilled, cut_narrowed}
use Rattle.private_log.proofs.WholeLogs.{whole_on, whole_cut}
use Rattle.private_log.proofs.laws.law_of_other_calls.Goals as goal

pub returns : goal.returns
returns c = record { on = on_narrowed; stopped = on_stilled; cut = cut_narrowed; whole = whole_on; whole_cut = whole_cut }
