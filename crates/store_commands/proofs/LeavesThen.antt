-- What the parts of an abort leave, one behind the other.
use Rattle.std.specs.Prelude.{◌≡◌, ℕ, Bool, true, false, List, None, Result, Ok, Err, IfErr, IsOk, IsTrue, OnOk, refl}
use Rattle.std.proofs.Common.{ap, subst, sym, ◌∙◌}
use Rattle.sd_base.specs.Calls.{Narrows}
use Rattle.sd_base.specs.Disk.{DiskState, Rose-after}
use Rattle.sd_base.specs.Faults.{Grew}
use Rattle.sd_base.specs.declared.names.PageNo.{PageNo}
use Rattle.script_text.specs.declared.reply.Reply.{Reply}
use Rattle.script_text.specs.declared.reply.Reply.TheVariants as says
use Rattle.record_machine.specs.Machine.{Machine}
use Rattle.record_machine.specs.Parts.{Part}
use Rattle.record_machine.specs.Steps.{held}
use Rattle.store_nodes.specs.declared.node.Node.TheVariants.{Down}
use Rattle.store_nodes.specs.declared.store.Store.{Store}
use Rattle.store_nodes.specs.Known.{held_in}
use Rattle.store_nodes.specs.Nodes.{is_up, node_at}
use Rattle.store_nodes.specs.Pages.{KeepsWork}
use Rattle.store_nodes.specs.Ports.{HasCause, IsQuiet, IsReady, IsStopReply, IsWorker, SaysStopOf, UnlessStop, Works, WorksWith, Writes, says_stop}
use Rattle.store_pages.proofs.WorksWith.{seats_same}
use Rattle.store_commands.specs.Aborts.{IsAbortFault, Leaves}
use Rattle.store_commands.specs.Taking.{UnlessHeld}
use Rattle.store_commands.proofs.AbortCauses.{fault_earlier}
use Rattle.store_commands.proofs.Stopping.{unless_ok, unless_then}
use Rattle.store_commands.proofs.Taken.{is_free}
use Rattle.store_commands.proofs.Testing.{error_then, on_done}
use Rattle.store_commands.proofs.Unchanged.{stops, works_same, writes_same}
use Rattle.store_commands.proofs.With.{NoStop, says_none, worker_before, works_alone, works_said, works_then, writes_alone, writes_then}

-- what is answered where it is done
abbrev pub the_done : Result (Unit {0}) Reply
the_done = Ok tt

-- the cause of a later answer is one of this
pub cause_later : (why : Reply) (a b c : DiskState) → Grew a b → HasCause why b c → HasCause why a c
cause_later (says.Stopped m) a b c grew cause = Rose-after (a.cuts m.0) (b.cuts m.0) (c.cuts m.0) (grew.cuts m.0) cause
cause_later (says.Fault m) a b c grew cause = Rose-after (a.faults m.0) (b.faults m.0) (c.faults m.0) (grew.faults m.0) cause
cause_later says.NoMore a b c grew cause = cause
cause_later why a b c grew cause = tt

module _ (told vault_told : Bool) (n : ℕ) where
  -- an error that is passed on
  same_error : {T U : Type 0} (why : Reply) (a b : Store) (da db va vb : DiskState) → Leaves {T = T} told vault_told n (Err why) a b da db va vb → Leaves {T = U} told vault_told n (Err why) a b da db va vb
  same_error {T} {U} why a b da db va vb was = record {
    works = works_said n (SaysStopOf {T = T} (Err why)) (SaysStopOf {T = U} (Err why)) a b da db va vb (λ m says. says) was.works;
    writes = was.writes;
    vault_outcomes = was.vault_outcomes;
    cause = was.cause;
    down = was.down;
    up = tt;
    holders = was.holders;
  }

  pub leaves_pass : {T U : Type 0} (r : Result T Reply) (r' : Result U Reply) (why : Reply) (a b : Store) (da db va vb : DiskState) → r ≡ Err why → r' ≡ Err why → Leaves told vault_told n r a b da db va vb → Leaves told vault_told n r' a b da db va vb
  leaves_pass {T} {U} r r' why a b da db va vb fails out was =
      subst (λ (k : Result U Reply). Leaves told vault_told n k a b da db va vb) (sym out) (same_error {T = T} {U = U} why a b da db va vb (subst (λ (k : Result T Reply). Leaves told vault_told n k a b da db va vb) fails was))

  -- a call that was done
  module _ {T : Type 0} (r : Result T Reply) (value : T) (done : r ≡ Ok value) (a b : Store) (da db va vb : DiskState) (first : Leaves told vault_told n r a b da db va vb) where
    pub works_done : WorksWith n NoStop a b da db va vb
    works_done = works_said n (SaysStopOf r) NoStop a b da db va vb (says_none r value done) first.works

    pub workers_done : (m : ℕ) → IsWorker n b.nodes m → IsWorker n a.nodes m
    workers_done = worker_before n NoStop a b da db va vb works_done

    pub holders_done : (y : PageNo) → held_in b y ≡ held_in a y
    holders_done = unless_ok r value done first.holders

    pub up_done : is_up (node_at b.nodes n) ≡ true
    up_done = done_up r done first.up
      where
        done_up : (k : Result T Reply) → k ≡ Ok value → OnOk k (is_up (node_at b.nodes n) ≡ true) → is_up (node_at b.nodes n) ≡ true
        done_up (Ok x) is up = up
        done_up (Err why) is up = cc

    -- where it gives another value
    pub leaves_value : {U : Type 0} (other : U) → Leaves told vault_told n (Ok other) a b da db va vb
    leaves_value {U} other = record {
      works = works_said n NoStop (SaysStopOf {T = U} (Ok other)) a b da db va vb (λ m says. absurd says) works_done;
      writes = first.writes;
      vault_outcomes = first.vault_outcomes;
      cause = tt;
      down = tt;
      up = up_done;
      holders = holders_done;
    }

    -- and what comes behind it
    pub leaves_then : {U : Type 0} (r' : Result U Reply) (c : Store) (dc vc : DiskState) → Leaves told vault_told n r' b c db dc vb vc → Leaves told vault_told n r' a c da dc va vc
    leaves_then {U} r' c dc vc next = record {
      works = works_then n (SaysStopOf r') a b c da db dc va vb vc works_done next.works;
      writes = λ is. writes_then n a b c da.block db.block dc.block workers_done works_done.shape (first.writes is) (next.writes is);
      vault_outcomes = λ is k o may. first.vault_outcomes is k o (next.vault_outcomes is k o may);
      cause = error_then r' (λ why. HasCause why db dc) (λ why. HasCause why da dc) next.cause (λ why cause. cause_later why da db dc works_done.keeps.grew cause);
      down = next.down;
      up = next.up;
      holders = unless_then r' (λ later y. later y ∙ holders_done y) next.holders;
    }

    pub fault_behind : {U : Type 0} (r' : Result U Reply) → IfErr r' (IsAbortFault b n) → IfErr r' (IsAbortFault a n)
    fault_behind r' fault = error_then r' (IsAbortFault b n) (IsAbortFault a n) fault (λ why is. fault_earlier a b n why works_done.shape workers_done holders_done is)

  -- nothing at all
  pub leaves_none : {T : Type 0} (value : T) (c : Store) (d v : DiskState) → IsReady c d v → (IsTrue told → IsQuiet c d.block) → is_up (node_at c.nodes n) ≡ true → Leaves told vault_told n (Ok value) c c d d v v
  leaves_none {T} value c d v ready quiet up = record {
    works = works_alone n (SaysStopOf {T = T} (Ok value)) c c d d v v (works_same n c d v ready);
    writes = λ is. writes_alone n c c d.block d.block (writes_same n c d.block (quiet is));
    vault_outcomes = λ is k o may. may;
    cause = tt;
    down = tt;
    up = up;
    holders = λ y. refl;
  }

  -- a call of the node alone
  pub leaves_alone : {T : Type 0} (r : Result T Reply) (a b : Store) (da db va vb : DiskState) → Works n a b da db va vb → (IsTrue told → Writes n a b da.block db.block) → (IsTrue vault_told → Narrows va.block vb.block) → IfErr r (λ why. HasCause why da db)
      → IfErr r (λ why. (h : ℕ) → IsStopReply h why → node_at b.nodes h ≡ Down) → OnOk r (is_up (node_at b.nodes n) ≡ true) → UnlessStop r ((y : PageNo) → held_in b y ≡ held_in a y) → Leaves told vault_told n r a b da db va vb
  leaves_alone r a b da db va vb works writes outcomes cause down up holders = record {
    works = works_alone n (SaysStopOf r) a b da db va vb works;
    writes = λ is. writes_alone n a b da.block db.block (writes is);
    vault_outcomes = outcomes;
    cause = cause;
    down = down;
    up = up;
    holders = holders;
  }

  -- one that changes nothing, unless the node stops in it
  pub leaves_read : {T : Type 0} (r : Result T Reply) (a b : Store) (da db va vb : DiskState) (P Q : Type 0) → Works n a b da db va vb → (IsTrue told → Writes n a b da.block db.block) → (IsTrue vault_told → Narrows va.block vb.block) → IfErr r (λ why. HasCause why da db)
      → IfErr r (λ why. (h : ℕ) → IsStopReply h why → node_at b.nodes h ≡ Down) → is_up (node_at a.nodes n) ≡ true → OnOk r ((b ≡ a) × P) → IfErr r (λ why. says_stop why ≡ false → (b ≡ a) × Q) → Leaves told vault_told n r a b da db va vb
  leaves_read {T} r a b da db va vb P Q works writes outcomes cause down up same kept =
      leaves_alone r a b da db va vb works writes outcomes cause down (on_done r same (λ both. subst (λ (v : Store). is_up (node_at v.nodes n) ≡ true) (sym both.0) up)) (stays r same kept)
    where
      stays : (k : Result T Reply) → OnOk k ((b ≡ a) × P) → IfErr k (λ why. says_stop why ≡ false → (b ≡ a) × Q) → UnlessStop k ((y : PageNo) → held_in b y ≡ held_in a y)
      stays (Ok x) same kept = λ y. ap (λ (v : Store). held_in v y) same.0
      stays (Err why) same kept = λ runs y. ap (λ (v : Store). held_in v y) (kept runs).0

-- nor does that change the node's work
pub work_same : (n : ℕ) (c : Store) → KeepsWork n c c
work_same n c = record { locks = refl; reopening = refl; seats = seats_same (node_at c.nodes n) (node_at c.nodes n) refl }

-- ---- what a call says that reads alone

-- nothing has changed, unless the node stopped in it
pub same_unless : {T : Type 0} (r : Result T Reply) (a b : Store) (P Q : Type 0) → OnOk r ((b ≡ a) × P) → IfErr r (λ why. says_stop why ≡ false → (b ≡ a) × Q) → UnlessStop r (b ≡ a)
same_unless (Ok x) a b P Q same kept = same.0
same_unless (Err why) a b P Q same kept = λ runs. (kept runs).0

-- the node that is said to have stopped is this one, and down
pub down_alone : {T : Type 0} (r : Result T Reply) (n : ℕ) (b : Store) → IfErr r (λ why. (h : ℕ) → IsStopReply h why → h ≡ n) → IfErr r (λ why. says_stop why ≡ true → node_at b.nodes n ≡ Down) → IfErr r (λ why. (h : ℕ) → IsStopReply h why → node_at b.nodes h ≡ Down)
down_alone (Ok x) n b one down = tt
down_alone (Err why) n b one down = λ h stop. ap (node_at b.nodes) (one h stop) ∙ down (stops h why stop)

-- what holds of a refusal
pub if_refused : {T : Type 0} (P : Type 0) (r : Result T Reply) → UnlessStop r P → IfErr r (λ why. says_stop why ≡ false → P)
if_refused P (Ok x) p = tt
if_refused P (Err why) p = p

-- a step of the machine that can't be refused any more
pub sure_step : {T : Type 0} (r : Result T Reply) (P : Type 0) (m : Machine) (ps : List Part) (S : Machine → Type 0) → held m ps ≡ None → IfErr r (λ why. says_stop why ≡ true) → OnOk r P → UnlessStop r (UnlessHeld m ps r S (IsOk r × P))
sure_step (Ok x) P m ps S free stopped p = is_free m ps (Ok x) S free (refl, p)
sure_step (Err why) P m ps S free stopped p = λ runs. let never : true ≡ false = sym stopped ∙ runs in absurd cc
