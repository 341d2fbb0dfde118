use Rattle.std.proofs.Common.{ap, ◌∙◌}
use Rattle.page_owner.specs.Owners.{owner_of}
use Rattle.node_trials.specs.declared.store.TheConstants.{PAGES}
use Rattle.node_trials.proofs.ReadyLaws.{nobody_at}
use Rattle.node_trials.proofs.store.open_on.Goals as goal

pub open-requires-clause-nobody : goal.open-requires-clause-nobody
open-requires-clause-nobody g c = λ x. ap (λ owners. owner_of owners x) c.in_ok-owners.ensures ∙ nobody_at PAGES x
