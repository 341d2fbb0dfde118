-- What a dump finds, where it looks for the records from a key on, and what it leaves.
use Rattle.std.specs.Prelude.{◌≡◌, ◌+◌, ◌^◌, ◌≤◌, ◌<◌, ℕ, true, Option, Some, None, Result, Ok, Err, IfErr, OnOk}
use Rattle.sd_base.specs.Calls.{Narrows}
use Rattle.sd_base.specs.Disk.{DiskState}
use Rattle.sd_base.specs.Places.{first_key, group_of}
use Rattle.sd_base.specs.Shape.{page_count}
use Rattle.sd_base.specs.declared.device.NodeId.{NodeId}
use Rattle.sd_base.specs.declared.names.PageNo.{PageNo}
use Rattle.private_log.specs.Reading.{contents}
use Rattle.state_ids.specs.Blocks.{page_place}
use Rattle.script_text.specs.declared.reply.Reply.{Reply}
use Rattle.script_text.specs.declared.reply.Reply.TheVariants as says
use Rattle.record_machine.specs.Machine.{Machine}
use Rattle.record_machine.specs.Rows.{HasNone, HasNoneIn, IsNext}
use Rattle.record_machine.specs.Steps.{IsHeldPage, TakesPages}
use Rattle.store_nodes.specs.declared.node.Node.TheVariants.{Down}
use Rattle.store_nodes.specs.declared.store.Store.{Store}
use Rattle.store_nodes.specs.Causes.{IsToldOfPages}
use Rattle.store_nodes.specs.Known.{held_in}
use Rattle.store_nodes.specs.Nodes.{is_up, node_at}
use Rattle.store_nodes.specs.Pages.{KeepsWork}
use Rattle.store_nodes.specs.Ports.{HasCause, IsStopReply, IsWorker, SaysStopOf, UnlessStop, WorksWith, WritesWith}
use Rattle.store_commands.specs.declared.dumping.Row.{Row}
use Rattle.store_commands.specs.declared.dumping.Found.{Found}
use Rattle.store_commands.specs.declared.dumping.Found.TheVariants.{Record, NoneBelow}
use Rattle.store_commands.specs.Reasons.{IsFoundIn}

-- ---- why it fails

-- Node n or another one that was up stopped, of which HasCause says the rest; a node that is down has a page of the store,
-- or such a page is lost, or its block is damaged.
abbrev pub IsDumpFault : Store → ℕ → Reply → Type 0
IsDumpFault c n (says.Stopped m) = IsWorker n c.nodes m.0
IsDumpFault c n (says.Fault m) = IsWorker n c.nodes m.0
IsDumpFault c n (says.Held y h) = (y.0 < page_count c.shape) × (held_in c y ≡ Some (says.Held y h))
IsDumpFault c n (says.LostPage y) = y.0 < page_count c.shape
IsDumpFault c n (says.DamagedDisk at) = (x : PageNo) × (x.0 < page_count c.shape) × (at.0 ≡ page_place c.shape x)
IsDumpFault c n reply = ⊥

-- ---- what it finds

-- the group of a key ends below this one
abbrev pub group_end : ℕ → ℕ
group_end key = first_key ((group_of key).0 + 1)

-- what is found in the page of a group: the next record, or that the group has none from this key on
abbrev pub IsFoundInGroup : Machine → ℕ → Option Row → Type 0
IsFoundInGroup m first (Some r) = IsNext m first r.key r.value
IsFoundInGroup m first None = HasNoneIn m first (group_end first)

-- what is found from a group on: the next record, or that there is none up to a group further on
abbrev pub IsFoundFrom : Machine → ℕ → Found → Type 0
IsFoundFrom m first (Record r) = IsNext m (first_key first) r.key r.value
IsFoundFrom m first (NoneBelow end) = HasNoneIn m (first_key first) (first_key end)

-- and what is found in all
abbrev pub IsFirstRecord : Machine → ℕ → Option Row → Type 0
IsFirstRecord m first (Some r) = IsNext m first r.key r.value
IsFirstRecord m first None = HasNone m first

-- a record that is found stands in what node n has in memory, and what is found leads on
abbrev pub LeadsOn : Store → ℕ → ℕ → Found → Type 0
LeadsOn c n first (Record r) = (first_key first ≤ r.key.0) × IsFoundIn c n r.key (Some r.value)
LeadsOn c n first (NoneBelow end) = (first < end) × (end ≤ 2 ^ 28)

-- the reply where the next record was asked for
abbrev pub reply_row : Result (Option Row) Reply → Reply
reply_row (Ok (Some r)) = says.Row r.key r.value
reply_row (Ok None) = says.NoMore
reply_row (Err why) = why

-- ---- what a part of it leaves

-- From m, unless a node stops: what is done holds this of its value, and what fails has met a page that is held. Pages were
-- taken, and the machine is in a state of S.
abbrev pub DumpsOn : {T : Type 0} → Machine → NodeId → Result T Reply → (Machine → Type 0) → (T → Type 0) → Type 0
DumpsOn m n (Ok value) S P = P value × TakesPages m n S
DumpsOn m n (Err (says.Held x h)) S P = IsHeldPage m x.0 h.0 × TakesPages m n S
DumpsOn m n (Err why) S P = ⊥

-- Whatever the devices hold: what a call of node n leaves that takes pages for a dump, and why it fails. Where a device is
-- told of its blocks (Told, VaultTold), so much more is known.
pub record TakesOf {T : Type 0} (n : ℕ) (r : Result T Reply) (Told VaultTold : Type 0) (old new : Store) (disk disk' vault vault' : DiskState) : Type 0 where
  pub works : WorksWith n (SaysStopOf r) old new disk disk' vault vault'
  pub writes : Told → WritesWith n old new disk.block disk'.block
  pub vault_outcomes : VaultTold → Narrows vault.block vault'.block
  pub cause : IfErr r (λ why. HasCause why disk disk')
  pub fault : IfErr r (IsDumpFault old n)
  pub told : Told → IfErr r (IsToldOfPages old.shape (contents disk'.block))
  pub down : IfErr r (λ why. (h : ℕ) → IsStopReply h why → node_at new.nodes h ≡ Down)
  pub up : OnOk r (is_up (node_at new.nodes n) ≡ true)
  pub work : UnlessStop r (KeepsWork n old new)
  pub holders : UnlessStop r ((y : PageNo) → held_in new y ≡ held_in old y)
