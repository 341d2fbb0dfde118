-- Why a call of a node gives another answer than that it is done.
use Rattle.std.specs.Prelude.{◌≡◌, ◌≢◌, ◌⊎◌, ⊤, ℕ, true, List, Option, None, Some}
use Rattle.sd_base.specs.declared.device.NodeId.{NodeId}
use Rattle.sd_base.specs.declared.names.PageNo.{PageNo}
use Rattle.sd_base.specs.declared.shape.Shape.{Shape}
use Rattle.space_map.specs.PageImage.{PageImage}
use Rattle.page_owner.specs.Owners.{owner_of}
use Rattle.private_log.specs.Content.{Region}
use Rattle.private_log.specs.Reading.{IsBroken, IsInRegion}
use Rattle.state_ids.specs.Blocks.{HoldsPage, page_place}
use Rattle.script_text.specs.declared.reply.Reply.{Reply}
use Rattle.script_text.specs.declared.reply.Reply.TheVariants as says
use Rattle.store_nodes.specs.declared.store.Store.{Store}
use Rattle.store_nodes.specs.Known.{held_in}
use Rattle.store_nodes.specs.Nodes.{IsHeldBy, is_up, node_at}

-- ---- a page

-- the page x couldn't be taken: this node stopped, or the page's block is lost or damaged
abbrev pub IsFaultOfPage : Shape → ℕ → PageNo → Reply → Type 0
IsFaultOfPage s n x (says.Stopped m) = m.0 ≡ n
IsFaultOfPage s n x (says.Fault m) = m.0 ≡ n
IsFaultOfPage s n x (says.LostPage y) = y ≡ x
IsFaultOfPage s n x (says.DamagedDisk at) = at.0 ≡ page_place s x
IsFaultOfPage s n x reply = ⊥

-- a page that is said to be lost is, and a block that is said to be damaged holds something, but no image of the page
-- that belongs there
abbrev pub IsToldOfPages : Shape → (ℕ → Option (List ℕ)) → Reply → Type 0
IsToldOfPages s image (says.LostPage x) = image (page_place s x) ≡ None
IsToldOfPages s image (says.DamagedDisk at) = (image at.0 ≢ None) × ((x : PageNo) (held : PageImage) → at.0 ≡ page_place s x → ¬ (HoldsPage s x held (image at.0)))
IsToldOfPages s image reply = ⊤

-- a node that has a hand in it where node n takes the page x: n, and the one that has the page, if that is up
abbrev pub IsTaker : Store → ℕ → PageNo → NodeId → Type 0
IsTaker c n x m = (m.0 ≡ n) ⊎ (IsHeldBy m (owner_of c.shared.owners x.0) × (is_up (node_at c.nodes m.0) ≡ true))

-- the page x couldn't be taken: one of these stopped, a node that is down has the page, or the page's block is lost or
-- damaged
abbrev pub IsFaultOfTake : Store → ℕ → PageNo → Reply → Type 0
IsFaultOfTake c n x (says.Stopped m) = IsTaker c n x m
IsFaultOfTake c n x (says.Fault m) = IsTaker c n x m
IsFaultOfTake c n x (says.Held y h) = held_in c x ≡ Some (says.Held y h)
IsFaultOfTake c n x (says.LostPage y) = y ≡ x
IsFaultOfTake c n x (says.DamagedDisk at) = at.0 ≡ page_place c.shape x
IsFaultOfTake c n x reply = ⊥

-- ---- a log

-- a log isn't read to its end: this node stopped, or a block of the log is damaged
abbrev pub IsLogReply : ℕ → Region → Reply → Type 0
IsLogReply n g (says.Stopped m) = m.0 ≡ n
IsLogReply n g (says.Fault m) = m.0 ≡ n
IsLogReply n g (says.DamagedDisk at) = IsInRegion g at.0
IsLogReply n g reply = ⊥

-- a block of a log that is said to be damaged is lost, or may not stand at its place
abbrev pub IsToldDamaged : Region → (ℕ → Option (List ℕ)) → Reply → Type 0
IsToldDamaged g image (says.DamagedDisk at) = (image at.0 ≡ None) ⊎ IsBroken g image at.0
IsToldDamaged g image reply = ⊤
