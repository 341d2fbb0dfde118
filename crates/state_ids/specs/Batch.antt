-- Pages that are written together and covered by one barrier.
use Rattle.std.specs.Prelude.{◌==◌, Bool, List, Option}
use Rattle.std.specs.List.{find}
use Rattle.sd_base.specs.declared.device.NodeId.{NodeId}
use Rattle.sd_base.specs.declared.names.PageNo.{PageNo}
use Rattle.state_ids.specs.declared.held.WrittenPage.{WrittenPage}

-- A batch: the port that it writes through, and the pages that were sent, in the order in which they were.
pub record BatchState : Type 0 where
  pub port : NodeId
  pub sent : List WrittenPage

-- what was sent of the page x, if it was
abbrev pub is_sent : PageNo → WrittenPage → Bool
is_sent x w = w.page.0 == x.0

abbrev pub sent_at : PageNo → List WrittenPage → Option WrittenPage
sent_at x sent = find (is_sent x) sent
