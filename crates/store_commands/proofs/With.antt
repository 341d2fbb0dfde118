-- What two calls leave, one behind the other, in which other nodes may have had to give up pages.
use Rattle.std.specs.Prelude.{◌≡◌, ◌≢◌, ◌<◌, ℕ, Bool, true, false, not, Some, Result, Ok, Err}
use Rattle.std.proofs.Common.{inl, inr, ap, subst, sym, ◌∙◌}
use Rattle.sd_base.specs.Disk.{BlockState, DiskState}
use Rattle.sd_base.specs.Shape.{page_count}
use Rattle.sd_base.specs.declared.device.NodeId.{NodeId}
use Rattle.sd_base.specs.declared.names.Key.{Key}
use Rattle.page_owner.specs.declared.owners.Own.{Own}
use Rattle.page_owner.specs.declared.owners.Own.TheVariants.{Nobody, Out, Parked}
use Rattle.page_owner.specs.Owners.{owner_of}
use Rattle.private_log.specs.Content.{place, region_of}
use Rattle.state_ids.specs.Blocks.{page_place}
use Rattle.sd_base.specs.declared.names.PageNo.{PageNo}
use Rattle.record_locks.specs.Held.{Held}
use Rattle.script_text.specs.declared.reply.Reply.{Reply}
use Rattle.script_text.specs.declared.reply.Reply.TheVariants as says
use Rattle.record_machine.specs.Commands.{where_so}
use Rattle.txn_core.specs.declared.change.Change.{Change}
use Rattle.store_nodes.specs.declared.node.Node.{Node}
use Rattle.store_nodes.specs.declared.node.Node.TheVariants.{Idle, Up, Down}
use Rattle.store_nodes.specs.declared.store.Store.{Store}
use Rattle.store_nodes.specs.Nodes.{IsStore, is_up, node_at}
use Rattle.store_nodes.specs.Ports.{IsStopReply, IsWorker, SaysStopOf, StaysOrStops, WorksWith, WritesWith}
use Rattle.store_nodes.specs.Causes.{IsFaultOfTake, IsTaker}
use Rattle.store_nodes.specs.Known.{held_by, held_in}
use Rattle.store_commands.specs.Faults.{IsFaultFor, IsWriteReason}
use Rattle.store_commands.specs.Reasons.{IsPageFor}
use Rattle.store_commands.proofs.ShownLocks.{with_locks}
-- a call of the node alone is one in which no other works, and two calls are one
pub use Rattle.store_pages.proofs.WorksWith.{work_then, works_with as works_alone, works_with_then as works_then, worker_earlier as worker_before, writes_with as writes_alone}

abbrev pub NoStop : ℕ → Type 0
NoStop m = ⊥

pub writes_then : (n : ℕ) (old mid new : Store) (a b c : ℕ → BlockState) → ((m : ℕ) → IsWorker n mid.nodes m → IsWorker n old.nodes m) → mid.shape ≡ old.shape → WritesWith n old mid a b → WritesWith n mid new b c → WritesWith n old new a c
writes_then n old mid new a b c before shape first next = record {
  quiet = next.quiet;
  besides = λ k o page ring may. first.besides k o page ring (next.besides k o (subst (λ s. (x : PageNo) → x.0 < page_count s → k ≢ page_place s x) (sym shape) page) (λ m number works. subst (λ s. k ≢ place (region_of s m) number) (sym shape) (ring m number (before m works))) may);
}

-- ---- which nodes the reply Said have stopped

said : (A B : Type 0) (old new : Node) → (A → B) → StaysOrStops A old new → StaysOrStops B old new
said A B Idle new then same = same
said A B (Up c before) new then (inl kept) = inl kept
said A B (Up c before) new then (inr stopped) = inr (then stopped.0, stopped.1)
said A B Down new then same = same

pub works_said : (n : ℕ) (A B : ℕ → Type 0) (old new : Store) (disk disk' vault vault' : DiskState) → ((m : ℕ) → A m → B m) → WorksWith n A old new disk disk' vault vault' → WorksWith n B old new disk disk' vault vault'
works_said n A B old new disk disk' vault vault' then works = record {
  ready = works.ready;
  shape = works.shape;
  keeps = works.keeps;
  vault_keeps = works.vault_keeps;
  others = λ m place far. said (A m) (B m) (node_at old.nodes m) (node_at new.nodes m) (then m) (works.others m place far);
}

-- an error that is passed on Said the same, and a call that was done Said of none
pub says_on : {T U : Type 0} (r : Result T Reply) (r' : Result U Reply) (why : Reply) → r ≡ Err why → r' ≡ Err why → (m : ℕ) → SaysStopOf r m → SaysStopOf r' m
says_on (Ok value) r' why is out m Said = cc
says_on (Err other) (Ok value) why is out m Said = cc
says_on (Err other) (Err again) why is out m Said = let one : other ≡ why = cc in let two : again ≡ why = cc in subst (IsStopReply m) (one ∙ sym two) Said

pub says_none : {T : Type 0} (r : Result T Reply) (value : T) → r ≡ Ok value → (m : ℕ) → SaysStopOf r m → ⊥
says_none (Ok other) value is m Said = Said
says_none (Err why) value is m Said = cc

-- ---- a page that couldn't be taken

-- a node that has a hand in it works in the call
pub worker : (c : Store) (n : ℕ) (x : PageNo) (m : NodeId) → IsStore c → IsTaker c n x m → IsWorker n c.nodes m.0
worker c n x m is (inl same) = inl same
worker c n x m is (inr has) = inr (is.shared.holders x.0 m has.0, has.1)

-- a page that is held is the one that was to be taken
pub held_page_is : (c : Store) (x y : PageNo) (h : NodeId) → held_in c x ≡ Some (says.Held y h) → x ≡ y
held_page_is c x y h is = by (owner_of c.shared.owners x.0) is
  where
    test : (b : Bool) (k : NodeId) → where_so b (says.Held x k) ≡ Some (says.Held y h) → x ≡ y
    test true k is = cc
    test false k is = cc

    by : (own : Own) → held_by c x own ≡ Some (says.Held y h) → x ≡ y
    by Nobody is = cc
    by (Parked k) is = test (not (is_up (node_at c.nodes k.0))) k is
    by (Out k) is = test (not (is_up (node_at c.nodes k.0))) k is

-- it is one for the key
pub fault_for : (old mid : Store) (n : ℕ) (key : Key) (x : PageNo) (why : Reply) → IsStore mid → mid.shape ≡ old.shape → ((m : ℕ) → IsWorker n mid.nodes m → IsWorker n old.nodes m) → held_in mid x ≡ held_in old x → IsPageFor old.shape key x → IsFaultOfTake mid n x why → IsFaultFor old n key why
fault_for old mid n key x (says.Stopped m) is shape before same page fault = before m.0 (worker mid n x m is fault)
fault_for old mid n key x (says.Fault m) is shape before same page fault = before m.0 (worker mid n x m is fault)
fault_for old mid n key x (says.Held y h) is shape before same page fault = let there = held_page_is mid x y h fault in subst (λ z. IsPageFor old.shape key z × (held_in old z ≡ Some (says.Held y h))) there (page, sym same ∙ fault)
fault_for old mid n key x (says.LostPage y) is shape before same page fault = subst (IsPageFor old.shape key) (sym fault) page
fault_for old mid n key x (says.DamagedDisk at) is shape before same page fault = (x, page, fault ∙ ap (λ s. page_place s x) shape)
fault_for old mid n key x why is shape before same page fault = absurd fault

-- a stop of this node is one
pub stop_for : (old : Store) (n : ℕ) (key : Key) (why : Reply) → IsStopReply n why → IsFaultFor old n key why
stop_for old n key (says.Stopped m) is = inl is
stop_for old n key (says.Fault m) is = inl is
stop_for old n key why is = absurd is

-- ---- a lock more changes nothing of this

pub works_locked : (n : ℕ) (Said : ℕ → Type 0) (old new : Store) (held : Held) (disk disk' vault vault' : DiskState) → WorksWith n Said old new disk disk' vault vault' → WorksWith n Said old (with_locks new held) disk disk' vault vault'
works_locked n Said old new held disk disk' vault vault' works = record {
  ready = record { is = works.ready.is; served = works.ready.served };
  shape = works.shape;
  keeps = works.keeps;
  vault_keeps = works.vault_keeps;
  others = works.others;
}

pub writes_locked : (n : ℕ) (old new : Store) (held : Held) (b b' : ℕ → BlockState) → WritesWith n old new b b' → WritesWith n old (with_locks new held) b b'
writes_locked n old new held b b' writes = record { quiet = writes.quiet; besides = writes.besides }

-- what a command met behind a call that kept the holders of all pages, it could have met before
fault_before : (old mid : Store) (n : ℕ) (key : Key) (why : Reply) → mid.shape ≡ old.shape → ((m : ℕ) → IsWorker n mid.nodes m → IsWorker n old.nodes m) → ((y : PageNo) → held_in mid y ≡ held_in old y) → IsFaultFor mid n key why → IsFaultFor old n key why
fault_before old mid n key (says.Stopped m) shape before same fault = before m.0 fault
fault_before old mid n key (says.Fault m) shape before same fault = before m.0 fault
fault_before old mid n key (says.Held y h) shape before same fault = (subst (λ s. IsPageFor s key y) shape fault.0, sym (same y) ∙ fault.1)
fault_before old mid n key (says.LostPage y) shape before same fault = subst (λ s. IsPageFor s key y) shape fault
fault_before old mid n key (says.DamagedDisk at) shape before same fault = (fault.0, subst (λ s. IsPageFor s key fault.0) shape fault.1, fault.2 ∙ ap (λ s. page_place s fault.0) shape)
fault_before old mid n key why shape before same fault = absurd fault

pub reason_before : (old mid new : Store) (n : ℕ) (key : Key) (what : Change) (why : Reply) → mid.shape ≡ old.shape → ((m : ℕ) → IsWorker n mid.nodes m → IsWorker n old.nodes m) → ((y : PageNo) → held_in mid y ≡ held_in old y) → IsWriteReason mid new n key what why → IsWriteReason old new n key what why
reason_before old mid new n key what why shape before same (inl refused) = inl refused
reason_before old mid new n key what why shape before same (inr fault) = inr (fault_before old mid n key why shape before same fault)
