-- Why an abort isn't done.
use Rattle.std.specs.Prelude.{◌≡◌, ◌⊎◌, ◌<◌, ℕ, Some, refl}
use Rattle.std.proofs.Common.{inl, inr, ap, subst, sym, ◌∙◌}
use Rattle.sd_base.specs.Disk.{BlockState}
use Rattle.sd_base.specs.Shape.{page_count}
use Rattle.sd_base.specs.declared.names.PageNo.{PageNo}
use Rattle.sd_base.specs.declared.names.TxnId.{TxnId}
use Rattle.sd_base.specs.declared.shape.Shape.{Shape}
use Rattle.private_log.specs.Content.{region_of}
use Rattle.private_log.specs.Reading.{IsInRegion, contents}
use Rattle.state_ids.specs.Blocks.{page_place}
use Rattle.script_text.specs.declared.reply.Reply.{Reply}
use Rattle.script_text.specs.declared.reply.Reply.TheVariants as says
use Rattle.store_nodes.specs.declared.store.Store.{Store}
use Rattle.store_nodes.specs.Causes.{IsFaultOfPage, IsFaultOfTake, IsLogReply, IsToldOfPages}
use Rattle.store_nodes.specs.Known.{held_in}
use Rattle.store_nodes.specs.Nodes.{IsStore}
use Rattle.store_nodes.specs.Ports.{IsStopReply, IsWorker}
use Rattle.store_pages.specs.Updates.{HasNoRoomFor}
use Rattle.store_commands.specs.Aborts.{IsAbortFault, IsToldOfAbort}
use Rattle.store_commands.proofs.With.{held_page_is, worker}

-- ---- why

-- a page couldn't be taken
pub take_fault : (c : Store) (n : ℕ) (x : PageNo) (why : Reply) → IsStore c → x.0 < page_count c.shape → IsFaultOfTake c n x why → IsAbortFault c n why
take_fault c n x (says.Stopped m) is low fault = worker c n x m is fault
take_fault c n x (says.Fault m) is low fault = worker c n x m is fault
take_fault c n x (says.Held y h) is low fault = subst (λ (z : PageNo). (z.0 < page_count c.shape) × (held_in c z ≡ Some (says.Held y h))) (held_page_is c x y h fault) (low, fault)
take_fault c n x (says.LostPage y) is low fault = subst (λ (z : PageNo). z.0 < page_count c.shape) (sym fault) low
take_fault c n x (says.DamagedDisk at) is low fault = inr (x, low, fault)
take_fault c n x why is low fault = absurd fault

-- nor could its block be read again
pub page_fault : (c : Store) (n : ℕ) (x : PageNo) (why : Reply) → x.0 < page_count c.shape → IsFaultOfPage c.shape n x why → IsAbortFault c n why
page_fault c n x (says.Stopped m) low fault = inl fault
page_fault c n x (says.Fault m) low fault = inl fault
page_fault c n x (says.LostPage y) low fault = subst (λ (z : PageNo). z.0 < page_count c.shape) (sym fault) low
page_fault c n x (says.DamagedDisk at) low fault = inr (x, low, fault)
page_fault c n x why low fault = absurd fault

-- a block of the log is damaged
pub log_fault : (c : Store) (n : ℕ) (why : Reply) → IsLogReply n (region_of c.shape n) why → IsAbortFault c n why
log_fault c n (says.Stopped m) is = inl is
log_fault c n (says.Fault m) is = inl is
log_fault c n (says.DamagedDisk at) is = inl is
log_fault c n why is = absurd is

-- a page has no room
pub room_fault : (c : Store) (n : ℕ) (x : PageNo) (why : Reply) → x.0 < page_count c.shape → why ≡ says.DamagedDisk (record { 0 = page_place c.shape x }) → IsAbortFault c n why
room_fault c n x why low is = subst (IsAbortFault c n) (sym is) (inr (x, low, refl))

-- the node stopped
pub stop_fault : (c : Store) (n : ℕ) (why : Reply) → IsStopReply n why → IsAbortFault c n why
stop_fault c n (says.Stopped m) is = inl is
stop_fault c n (says.Fault m) is = inl is
stop_fault c n why is = absurd is

-- what is met behind a call that kept the holders of all pages could have been met before
pub fault_earlier : (a b : Store) (n : ℕ) (why : Reply) → b.shape ≡ a.shape → ((m : ℕ) → IsWorker n b.nodes m → IsWorker n a.nodes m) → ((y : PageNo) → held_in b y ≡ held_in a y) → IsAbortFault b n why → IsAbortFault a n why
fault_earlier a b n (says.Stopped m) shape before same fault = before m.0 fault
fault_earlier a b n (says.Fault m) shape before same fault = before m.0 fault
fault_earlier a b n (says.Held y h) shape before same fault = (subst (λ s. y.0 < page_count s) shape fault.0, sym (same y) ∙ fault.1)
fault_earlier a b n (says.LostPage y) shape before same fault = subst (λ s. y.0 < page_count s) shape fault
fault_earlier a b n (says.DamagedDisk at) shape before same (inl log) = inl (subst (λ s. IsInRegion (region_of s n) at.0) shape log)
fault_earlier a b n (says.DamagedDisk at) shape before same (inr page) = inr (page.0, subst (λ s. page.0.0 < page_count s) shape page.1, page.2 ∙ ap (λ s. page_place s page.0) shape)
fault_earlier a b n why shape before same fault = absurd fault

-- ---- what is told

pub pages_told : (c : Store) (s : Shape) (b : ℕ → BlockState) (t : TxnId) (why : Reply) → c.shape ≡ s → IsToldOfPages s (contents b) why → IsToldOfAbort c b t why
pages_told c s b t (says.LostPage x) same told = subst (λ z. IsToldOfPages z (contents b) (says.LostPage x)) (sym same) told
pages_told c s b t (says.DamagedDisk at) same told = inr (inl (subst (λ z. IsToldOfPages z (contents b) (says.DamagedDisk at)) (sym same) told))
pages_told c s b t why same told = tt

pub log_told : (c : Store) (s : Shape) (b : ℕ → BlockState) (t : TxnId) (why : Reply) → c.shape ≡ s → IsLogReply t.node.0 (region_of s t.node.0) why → IsToldOfAbort c b t why
log_told c s b t (says.LostPage x) same is = absurd is
log_told c s b t (says.DamagedDisk at) same is = inl (subst (λ z. IsLogReply t.node.0 (region_of z t.node.0) (says.DamagedDisk at)) (sym same) is)
log_told c s b t why same is = tt

pub room_told : (c d : Store) (a b : ℕ → BlockState) (t : TxnId) (x : PageNo) (why : Reply) → why ≡ says.DamagedDisk (record { 0 = page_place c.shape x }) → HasNoRoomFor c a t x → d ≡ c → b ≡ a → IsToldOfAbort d b t why
room_told c d a b t x why is none same blocks =
    subst (IsToldOfAbort d b t) (sym is) (subst (λ k. IsToldOfAbort k b t (says.DamagedDisk (record { 0 = page_place c.shape x }))) (sym same) (subst (λ z. IsToldOfAbort c z t (says.DamagedDisk (record { 0 = page_place c.shape x }))) (sym blocks) (inr (inr (x, refl, none)))))

pub stop_told : (c : Store) (b : ℕ → BlockState) (t : TxnId) (n : ℕ) (why : Reply) → IsStopReply n why → IsToldOfAbort c b t why
stop_told c b t n (says.LostPage x) is = absurd is
stop_told c b t n (says.DamagedDisk at) is = absurd is
stop_told c b t n why is = tt

-- ---- which node stopped

-- the log is read by this node alone
pub log_stop : (n h : ℕ) (s : Shape) (why : Reply) → IsLogReply n (region_of s n) why → IsStopReply h why → h ≡ n
log_stop n h s (says.Stopped m) is stop = sym stop ∙ is
log_stop n h s (says.Fault m) is stop = sym stop ∙ is
log_stop n h s why is stop = absurd stop

pub page_stop : (n h : ℕ) (s : Shape) (x : PageNo) (why : Reply) → IsFaultOfPage s n x why → IsStopReply h why → h ≡ n
page_stop n h s x (says.Stopped m) is stop = sym stop ∙ is
page_stop n h s x (says.Fault m) is stop = sym stop ∙ is
page_stop n h s x why is stop = absurd stop

-- ---- where a page's room was tested

-- a block of the log is damaged, or the page has no room
abbrev IsRoomFault : Store → ℕ → PageNo → Type 0 → Type 0 → Type 0 → Reply → Type 0
IsRoomFault c n x P Q R why = IsLogReply n (region_of c.shape n) why ⊎ ((why ≡ says.DamagedDisk (record { 0 = page_place c.shape x })) × P × Q × R)

pub room_stop : (n h : ℕ) (c : Store) (x : PageNo) (why : Reply) (P Q R : Type 0) → IsRoomFault c n x P Q R why → IsStopReply h why → h ≡ n
room_stop n h c x why P Q R (inl log) stop = log_stop n h c.shape why log stop
room_stop n h c x why P Q R (inr room) stop = absurd (subst (IsStopReply h) room.0 stop)

pub room_fails : (c : Store) (n : ℕ) (x : PageNo) (why : Reply) (P Q R : Type 0) → x.0 < page_count c.shape → IsRoomFault c n x P Q R why → IsAbortFault c n why
room_fails c n x why P Q R low (inl log) = log_fault c n why log
room_fails c n x why P Q R low (inr room) = room_fault c n x why low room.0

pub room_tells : (c d : Store) (a b : ℕ → BlockState) (t : TxnId) (x : PageNo) (why : Reply) (Told : Type 0) → Told → d.shape ≡ c.shape
    → IsLogReply t.node.0 (region_of c.shape t.node.0) why ⊎ ((why ≡ says.DamagedDisk (record { 0 = page_place c.shape x })) × (Told → HasNoRoomFor c a t x) × (d ≡ c) × (Told → b ≡ a)) → IsToldOfAbort d b t why
room_tells c d a b t x why Told told shape (inl log) = log_told d c.shape b t why shape log
room_tells c d a b t x why Told told shape (inr room) = room_told c d a b t x why room.0 (room.1 told) room.2 (room.3 told)
