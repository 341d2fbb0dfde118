use Rattle.txn_core.proofs.ToldLaws.{open-other, open-begun, open-updated, open-taken_back, names-push, next_is_update, next_is_begin, next_is_none, left_is_update}
use Rattle.txn_core.proofs.laws.law_of_told_transactions.Goals as goal

pub returns-clause-other : goal.returns-clause-other
returns-clause-other c = open-other

pub returns-clause-begun : goal.returns-clause-begun
returns-clause-begun c = open-begun

pub returns-clause-updated : goal.returns-clause-updated
returns-clause-updated c = open-updated

pub returns-clause-taken_back : goal.returns-clause-taken_back
returns-clause-taken_back c = open-taken_back

pub returns-clause-names : goal.returns-clause-names
returns-clause-names c = names-push

pub returns-clause-next : goal.returns-clause-next
returns-clause-next c = next_is_update

pub returns-clause-next_is_begin : goal.returns-clause-next_is_begin
returns-clause-next_is_begin c = next_is_begin

pub returns-clause-no_next : goal.returns-clause-no_next
returns-clause-no_next c = next_is_none

pub returns-clause-is_update : goal.returns-clause-is_update
returns-clause-is_update c = left_is_update
