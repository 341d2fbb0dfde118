-- Why a page that a key needs couldn't be taken.
use Rattle.std.specs.Prelude.{◌≡◌, ◌⊎◌, ℕ, Some}
use Rattle.sd_base.specs.declared.names.Key.{Key}
use Rattle.sd_base.specs.declared.names.PageNo.{PageNo}
use Rattle.state_ids.specs.Blocks.{page_place}
use Rattle.script_text.specs.declared.reply.Reply.{Reply}
use Rattle.script_text.specs.declared.reply.Reply.TheVariants as says
use Rattle.txn_core.specs.declared.change.Change.{Change}
use Rattle.store_nodes.specs.declared.store.Store.{Store}
use Rattle.store_nodes.specs.Ports.{IsWorker}
use Rattle.store_nodes.specs.Known.{held_in}
use Rattle.store_commands.specs.Reasons.{IsPageFor, IsWriteRefusal}

-- Node n or another one that was up stopped, of which HasCause says the rest; a node that is down has a page that the key
-- needs, or such a page is lost, or its block is damaged.
abbrev pub IsFaultFor : Store → ℕ → Key → Reply → Type 0
IsFaultFor c n key (says.Stopped m) = IsWorker n c.nodes m.0
IsFaultFor c n key (says.Fault m) = IsWorker n c.nodes m.0
IsFaultFor c n key (says.Held y h) = IsPageFor c.shape key y × (held_in c y ≡ Some (says.Held y h))
IsFaultFor c n key (says.LostPage y) = IsPageFor c.shape key y
IsFaultFor c n key (says.DamagedDisk at) = (x : PageNo) × IsPageFor c.shape key x × (at.0 ≡ page_place c.shape x)
IsFaultFor c n key reply = ⊥

-- a write is refused, or a page that it needs couldn't be taken
abbrev pub IsWriteReason : Store → Store → ℕ → Key → Change → Reply → Type 0
IsWriteReason old new n key what reply = IsWriteRefusal new n key what reply ⊎ IsFaultFor old n key reply
