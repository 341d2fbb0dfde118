-- Who owns the pages of a store.
use Rattle.std.specs.Prelude.{◌==◌, ℕ, List, slice_index_or, if◌then◌else◌}
use Rattle.sd_base.specs.declared.device.NodeId.{NodeId}
use Rattle.sd_base.specs.declared.names.PageNo.{PageNo}
use Rattle.page_owner.specs.declared.owners.Own.{Own}
use Rattle.page_owner.specs.declared.owners.Own.TheVariants.{Nobody, Parked, Out}

-- what a ticket says: this node may change this page
pub record Grant : Type 0 where
  pub page : PageNo
  pub node : NodeId

-- whose page x is; past the end of the table it is nobody's
abbrev pub owner_of : List Own → ℕ → Own
owner_of owners x = slice_index_or owners x Nobody

-- a page after a node has lost what it had parked
abbrev pub without_node : NodeId → Own → Own
without_node n Nobody = Nobody
without_node n (Parked m) = if m.0 == n.0 then Nobody else Parked m
without_node n (Out m) = Out m
