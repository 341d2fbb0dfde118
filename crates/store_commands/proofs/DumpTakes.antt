-- What calls that take pages for a dump leave, one behind the other.
use Rattle.std.specs.Prelude.{◌≡◌, ◌<◌, ℕ, true, Some, Result, Ok, Err, IfErr, OnOk, refl}
use Rattle.std.proofs.Common.{arith, ap, inl, inr, subst, sym, ◌∙◌}
use Rattle.sd_base.specs.Calls.{Narrows}
use Rattle.sd_base.specs.Disk.{DiskState, Rose-after}
use Rattle.sd_base.specs.Faults.{Grew}
use Rattle.sd_base.specs.Shape.{IsShape, page_count}
use Rattle.sd_base.specs.Places.{map_of_key}
use Rattle.sd_base.proofs.PlaceLaws.{data_of_place, map_of_key-below}
use Rattle.sd_base.specs.declared.names.Key.{Key}
use Rattle.sd_base.specs.declared.names.PageNo.{PageNo}
use Rattle.sd_base.specs.declared.shape.Shape.{Shape}
use Rattle.private_log.specs.Reading.{contents}
use Rattle.state_ids.specs.Blocks.{page_place}
use Rattle.script_text.specs.declared.reply.Reply.{Reply}
use Rattle.script_text.specs.declared.reply.Reply.TheVariants as says
use Rattle.store_nodes.specs.declared.node.Node.TheVariants.{Down}
use Rattle.store_nodes.specs.declared.store.Store.{Store}
use Rattle.store_nodes.specs.Causes.{IsFaultOfTake, IsToldOfPages}
use Rattle.store_nodes.specs.Known.{held_in}
use Rattle.store_nodes.specs.Nodes.{IsStore, is_up, node_at}
use Rattle.store_nodes.specs.Pages.{KeepsWork}
use Rattle.store_nodes.specs.Ports.{HasCause, IsQuiet, IsReady, IsStopReply, IsWorker, SaysStopOf, UnlessStop, WorksWith, WritesWith}
use Rattle.store_pages.proofs.WorksWith.{seats_same, works_same}
use Rattle.store_commands.specs.Dumps.{IsDumpFault, TakesOf}
use Rattle.store_commands.specs.Faults.{IsFaultFor}
use Rattle.store_commands.specs.Reasons.{IsPageFor}
use Rattle.store_commands.proofs.Stopping.{unless_then}
use Rattle.store_commands.proofs.Testing.{error_then}
use Rattle.store_commands.proofs.With.{NoStop, held_page_is, work_then, worker, worker_before, works_said, works_then, writes_then}

-- ---- why a page couldn't be taken

take_fault : (c : Store) (n : ℕ) (x : PageNo) (why : Reply) → IsStore c → x.0 < page_count c.shape → IsFaultOfTake c n x why → IsDumpFault c n why
take_fault c n x (says.Stopped m) is page fault = worker c n x m is fault
take_fault c n x (says.Fault m) is page fault = worker c n x m is fault
take_fault c n x (says.Held y h) is page fault = subst (λ z. (z.0 < page_count c.shape) × (held_in c z ≡ Some (says.Held y h))) (held_page_is c x y h fault) (page, fault)
take_fault c n x (says.LostPage y) is page fault = subst (λ z. z.0 < page_count c.shape) (sym fault) page
take_fault c n x (says.DamagedDisk at) is page fault = (x, page, fault)
take_fault c n x why is page fault = absurd fault

-- a page that a key needs is one of the store
page_of_store : (s : Shape) (key : Key) (x : PageNo) → IsShape s → IsPageFor s key x → x.0 < page_count s
page_of_store s key x shape (inl map) = omega (arith, map, map_of_key-below s key.0 shape)
page_of_store s key x shape (inr at) = let in_store = (data_of_place s (map_of_key s key.0) at.0 (map_of_key-below s key.0 shape) (omega (arith, at.1))).1 in omega (arith, at.2, in_store)

group_fault : (c : Store) (n : ℕ) (key : Key) (why : Reply) → IsShape c.shape → IsFaultFor c n key why → IsDumpFault c n why
group_fault c n key (says.Stopped m) shape fault = fault
group_fault c n key (says.Fault m) shape fault = fault
group_fault c n key (says.Held y h) shape fault = (page_of_store c.shape key y shape fault.0, fault.1)
group_fault c n key (says.LostPage y) shape fault = page_of_store c.shape key y shape fault
group_fault c n key (says.DamagedDisk at) shape fault = (fault.0, page_of_store c.shape key fault.0 shape fault.1, fault.2)
group_fault c n key why shape fault = absurd fault

-- what was met behind a call that kept the holders of all pages could have been met before
fault_before : (old mid : Store) (n : ℕ) (why : Reply) → mid.shape ≡ old.shape → ((m : ℕ) → IsWorker n mid.nodes m → IsWorker n old.nodes m) → ((y : PageNo) → held_in mid y ≡ held_in old y) → IsDumpFault mid n why → IsDumpFault old n why
fault_before old mid n (says.Stopped m) shape before same fault = before m.0 fault
fault_before old mid n (says.Fault m) shape before same fault = before m.0 fault
fault_before old mid n (says.Held y h) shape before same fault = (subst (λ s. y.0 < page_count s) shape fault.0, sym (same y) ∙ fault.1)
fault_before old mid n (says.LostPage y) shape before same fault = subst (λ s. y.0 < page_count s) shape fault
fault_before old mid n (says.DamagedDisk at) shape before same fault = (fault.0, subst (λ s. fault.0.0 < page_count s) shape fault.1, fault.2 ∙ ap (λ s. page_place s fault.0) shape)
fault_before old mid n why shape before same fault = absurd fault

-- ---- a call by itself

-- the error that it passes on
pub takes_pass : {T U : Type 0} (n : ℕ) (r : Result T Reply) (r' : Result U Reply) (why : Reply) (Told VaultTold : Type 0) (old new : Store) (d d' v v' : DiskState) → r ≡ Err why → r' ≡ Err why → TakesOf n r Told VaultTold old new d d' v v' → TakesOf n r' Told VaultTold old new d d' v v'
takes_pass {T} {U} n r r' why Told VaultTold old new d d' v v' fails out was = subst (λ f. TakesOf n f Told VaultTold old new d d' v v') (sym out) (by (subst (λ f. TakesOf n f Told VaultTold old new d d' v v') fails was))
  where
    by : TakesOf {T = T} n (Err why) Told VaultTold old new d d' v v' → TakesOf {T = U} n (Err why) Told VaultTold old new d d' v v'
    by was = record {
      works = works_said n (SaysStopOf {T = T} (Err why)) (SaysStopOf {T = U} (Err why)) old new d d' v v' (λ m said. said) was.works;
      writes = was.writes;
      vault_outcomes = was.vault_outcomes;
      cause = was.cause;
      fault = was.fault;
      told = was.told;
      down = was.down;
      up = tt;
      work = was.work;
      holders = was.holders;
    }

-- and where it was done
pub takes_done : {T U : Type 0} (n : ℕ) (r : Result T Reply) (value : T) (other : U) (Told VaultTold : Type 0) (old new : Store) (d d' v v' : DiskState) → r ≡ Ok value → TakesOf n r Told VaultTold old new d d' v v' → TakesOf n (Ok other) Told VaultTold old new d d' v v'
takes_done {T} {U} n r value other Told VaultTold old new d d' v v' done was = by (subst (λ f. TakesOf n f Told VaultTold old new d d' v v') done was)
  where
    by : TakesOf {T = T} n (Ok value) Told VaultTold old new d d' v v' → TakesOf {T = U} n (Ok other) Told VaultTold old new d d' v v'
    by was = record {
      works = works_said n (SaysStopOf {T = T} (Ok value)) (SaysStopOf {T = U} (Ok other)) old new d d' v v' (λ m said. said) was.works;
      writes = was.writes;
      vault_outcomes = was.vault_outcomes;
      cause = tt;
      fault = tt;
      told = λ told. tt;
      down = tt;
      up = was.up;
      work = was.work;
      holders = was.holders;
    }

-- nothing at all
pub takes_none : {T : Type 0} (n : ℕ) (value : T) (Told VaultTold : Type 0) (c : Store) (d v : DiskState) → IsReady c d v → (Told → IsQuiet c d.block) → is_up (node_at c.nodes n) ≡ true → TakesOf n (Ok value) Told VaultTold c c d d v v
takes_none n value Told VaultTold c d v ready quiet up = record {
  works = works_same n (SaysStopOf (Ok value)) c d v ready;
  writes = λ told. record { quiet = quiet told; besides = λ k o page ring may. may };
  vault_outcomes = λ told k o may. may;
  cause = tt;
  fault = tt;
  told = λ told. tt;
  down = tt;
  up = up;
  work = record { locks = refl; reopening = refl; seats = seats_same (node_at c.nodes n) (node_at c.nodes n) refl };
  holders = λ y. refl;
}

-- ---- two calls

cause_behind : (why : Reply) (a b c : DiskState) → Grew a b → HasCause why b c → HasCause why a c
cause_behind (says.Stopped m) a b c grew cause = Rose-after (a.cuts m.0) (b.cuts m.0) (c.cuts m.0) (grew.cuts m.0) cause
cause_behind (says.Fault m) a b c grew cause = Rose-after (a.faults m.0) (b.faults m.0) (c.faults m.0) (grew.faults m.0) cause
cause_behind says.NoMore a b c grew cause = cause
cause_behind why a b c grew cause = tt

pub takes_behind : {T U : Type 0} (n : ℕ) (value : U) (r : Result T Reply) (Told VaultTold : Type 0) (old mid new : Store) (d d' d'' v v' v'' : DiskState) → TakesOf n (Ok value) Told VaultTold old mid d d' v v' → TakesOf n r Told VaultTold mid new d' d'' v' v'' → TakesOf n r Told VaultTold old new d d'' v v''
takes_behind {T} {U} n value r Told VaultTold old mid new d d' d'' v v' v'' first next =
    let works = works_said n (SaysStopOf {T = U} (Ok value)) NoStop old mid d d' v v' (λ m said. said) first.works in
    let before = worker_before n NoStop old mid d d' v v' works in record {
      works = works_then n (SaysStopOf r) old mid new d d' d'' v v' v'' works next.works;
      writes = λ told. writes_then n old mid new d.block d'.block d''.block before works.shape (first.writes told) (next.writes told);
      vault_outcomes = λ told k o may. first.vault_outcomes told k o (next.vault_outcomes told k o may);
      cause = error_then r (λ why. HasCause why d' d'') (λ why. HasCause why d d'') next.cause (λ why cause. cause_behind why d d' d'' works.keeps.grew cause);
      fault = error_then r (IsDumpFault mid n) (IsDumpFault old n) next.fault (λ why fault. fault_before old mid n why works.shape before first.holders fault);
      told = λ told. subst (λ s. IfErr r (IsToldOfPages s (contents d''.block))) works.shape (next.told told);
      down = next.down;
      up = next.up;
      work = unless_then r (work_then n old mid new first.work) next.work;
      holders = unless_then r (λ later y. later y ∙ first.holders y) next.holders;
    }

-- ---- one page, or those of a group

pub page_taken : (n : ℕ) (x : PageNo) (r : Result (Unit {0}) Reply) (Told VaultTold : Type 0) (old new : Store) (d d' v v' : DiskState) → IsStore old → x.0 < page_count old.shape → WorksWith n (SaysStopOf r) old new d d' v v' → (Told → WritesWith n old new d.block d'.block) → (VaultTold → Narrows v.block v'.block)
    → IfErr r (λ why. HasCause why d d') → IfErr r (IsFaultOfTake old n x) → (Told → IfErr r (IsToldOfPages old.shape (contents d'.block))) → IfErr r (λ why. (h : ℕ) → IsStopReply h why → node_at new.nodes h ≡ Down) → OnOk r (is_up (node_at new.nodes n) ≡ true) → UnlessStop r (KeepsWork n old new)
    → UnlessStop r ((y : PageNo) → held_in new y ≡ held_in old y) → TakesOf n r Told VaultTold old new d d' v v'
page_taken n x r Told VaultTold old new d d' v v' is page works writes outcomes cause fault told down up work holders = record {
  works = works;
  writes = writes;
  vault_outcomes = outcomes;
  cause = cause;
  fault = error_then r (IsFaultOfTake old n x) (IsDumpFault old n) fault (λ why that. take_fault old n x why is page that);
  told = told;
  down = down;
  up = up;
  work = work;
  holders = holders;
}

pub group_taken : {T : Type 0} (n : ℕ) (key : Key) (r : Result T Reply) (Told VaultTold : Type 0) (old new : Store) (d d' v v' : DiskState) → IsStore old → WorksWith n (SaysStopOf r) old new d d' v v' → (Told → WritesWith n old new d.block d'.block) → (VaultTold → Narrows v.block v'.block)
    → IfErr r (λ why. HasCause why d d') → IfErr r (IsFaultFor old n key) → (Told → IfErr r (IsToldOfPages old.shape (contents d'.block))) → IfErr r (λ why. (h : ℕ) → IsStopReply h why → node_at new.nodes h ≡ Down) → OnOk r (is_up (node_at new.nodes n) ≡ true) → UnlessStop r (KeepsWork n old new)
    → UnlessStop r ((y : PageNo) → held_in new y ≡ held_in old y) → TakesOf n r Told VaultTold old new d d' v v'
group_taken n key r Told VaultTold old new d d' v v' is works writes outcomes cause fault told down up work holders = record {
  works = works;
  writes = writes;
  vault_outcomes = outcomes;
  cause = cause;
  fault = error_then r (IsFaultFor old n key) (IsDumpFault old n) fault (λ why that. group_fault old n key why is.shared.shape that);
  told = told;
  down = down;
  up = up;
  work = work;
  holders = holders;
}
