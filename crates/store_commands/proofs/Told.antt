-- What is told of the blocks of pages where a write isn't done.
use Rattle.std.specs.Prelude.{◌≡◌, ◌^◌, ◌≤◌, ◌+◌, ℕ, Bool, true, false, nat_le, List, Option, Some, None, Err, if◌then◌else◌, refl}
use Rattle.std.specs.List.{position}
use Rattle.std.proofs.Common.{arith, ap, subst, ◌∙◌}
use Rattle.sd_base.specs.declared.names.Key.{Key}
use Rattle.sd_base.specs.declared.names.PageNo.{PageNo}
use Rattle.sd_base.specs.declared.names.TxnId.{TxnId}
use Rattle.sd_base.specs.declared.shape.Shape.{Shape}
use Rattle.space_map.specs.Entry.{is_free}
use Rattle.space_map.specs.Image.{MapImage}
use Rattle.private_log.specs.Log.{space}
use Rattle.txn_core.specs.Seats.{is_busy, owed}
use Rattle.txn_core.specs.declared.change.Change.{Change}
use Rattle.script_text.specs.declared.reply.Reply.{Reply}
use Rattle.script_text.specs.declared.reply.Reply.TheVariants as says
use Rattle.record_machine.specs.Commands.{needs_pages}
use Rattle.store_nodes.specs.declared.node.Node.{Node}
use Rattle.store_nodes.specs.declared.node.Node.TheVariants.{Idle, Up, Down}
use Rattle.store_nodes.specs.declared.store.Store.{Store}
use Rattle.store_nodes.specs.Causes.{IsToldOfPages}
use Rattle.store_nodes.specs.Nodes.{OnUp, node_at}
use Rattle.store_nodes.specs.Pages.{KeepsSeats, KeepsWork, has_txn, room_in}
use Rattle.store_nodes.specs.Ports.{IsStopReply}
use Rattle.store_commands.specs.Changing.{new_place, place_or}
use Rattle.store_commands.specs.Reasons.{IsWriteRefusal}

-- a refusal is told of no block
pub refusal_told : (s : Shape) (image : ℕ → Option (List ℕ)) (c : Store) (n : ℕ) (key : Key) (what : Change) (why : Reply) → IsWriteRefusal c n key what why → IsToldOfPages s image why
refusal_told s image c n key what (says.LostPage x) refused = absurd refused
refusal_told s image c n key what (says.DamagedDisk at) refused = absurd refused
refusal_told s image c n key what why refused = tt

-- nor is a stop
pub stop_told : (s : Shape) (image : ℕ → Option (List ℕ)) (n : ℕ) (why : Reply) → IsStopReply n why → IsToldOfPages s image why
stop_told s image n (says.LostPage x) is = absurd is
stop_told s image n (says.DamagedDisk at) is = absurd is
stop_told s image n why is = tt

-- that a group gets no place is found once its map page was taken
pub place_late : (map : PageNo) (image : MapImage) (why : Reply) → new_place map image ≡ Err why → needs_pages why ≡ true
place_late map image why is = by (nat_le (2 ^ 63) image.ident) (position is_free image.entries) is
  where
    by : (b : Bool) (o : Option ℕ) → place_or (if b then says.Limit map else says.NoSpace map) o ≡ Err why → needs_pages why ≡ true
    by true None is = let same : says.Limit map ≡ why = cc in subst (λ r. needs_pages r ≡ true) same refl
    by false None is = let same : says.NoSpace map ≡ why = cc in subst (λ r. needs_pages r ≡ true) same refl
    by b (Some place) is = cc

-- a transaction stays open where its node keeps its work
pub busy_kept : (c d : Store) (n : ℕ) (t : TxnId) → KeepsWork n c d → has_txn (node_at c.nodes n) t ≡ true → has_txn (node_at d.nodes n) t ≡ true
busy_kept c d n t work busy = by (node_at c.nodes n) (node_at d.nodes n) work.seats busy
  where
    by : (old new : Node) → KeepsSeats old new → has_txn old t ≡ true → has_txn new t ≡ true
    by Idle new kept busy = cc
    by Down new kept busy = cc
    by (Up k before) Idle kept busy = let never : false ≡ true = kept.0 in cc
    by (Up k before) Down kept busy = let never : false ≡ true = kept.0 in cc
    by (Up k before) (Up j after) kept busy = ap (λ s. is_busy s t.seat) kept.1 ∙ busy

-- the log has room for the record of a place that comes into use
pub room_first : (c : Store) (n : ℕ) → 3 ≤ room_in (node_at c.nodes n) → OnUp (node_at c.nodes n) (λ k seats. owed seats + 1 ≤ space k.log)
room_first c n free = by (node_at c.nodes n) free
  where
    by : (node : Node) → 3 ≤ room_in node → OnUp node (λ k seats. owed seats + 1 ≤ space k.log)
    by Idle free = tt
    by (Up k seats) free = omega (arith, free)
    by Down free = tt
