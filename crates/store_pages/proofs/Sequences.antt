-- What two calls of one node leave, one after the other.
use Rattle.std.specs.Prelude.{◌≡◌, ℕ, Result, Ok, Err, IfErr, refl}
use Rattle.std.proofs.Common.{subst, ◌∙◌}
use Rattle.sd_base.specs.Disk.{BlockState, DiskState, Rose-after}
use Rattle.sd_base.specs.Calls.{Keeps, Keeps-then}
use Rattle.sd_base.specs.Faults.{Grew-keeps}
use Rattle.script_text.specs.declared.reply.Reply.{Reply}
use Rattle.script_text.specs.declared.reply.Reply.TheVariants as says
use Rattle.store_nodes.specs.declared.store.Store.{Store}
use Rattle.store_nodes.specs.Nodes.{KeepsFramesOf, pages_of}
use Rattle.store_nodes.specs.Ports.{HasCause, IsQuiet, IsReady, NarrowsBesides, Works, Writes}
use Rattle.store_nodes.proofs.Logs.{keeps_same}

-- where nothing was done
pub works_none : (n : ℕ) (a : Store) (disk vault : DiskState) → IsReady a disk vault → Works n a a disk disk vault vault
works_none n a disk vault ready = record {
  ready = ready;
  shape = refl;
  keeps = keeps_same n disk;
  vault_keeps = keeps_same n vault;
  others = λ m is far. refl;
  frames = λ m is far j e low. refl;
}

pub writes_none : (n : ℕ) (a : Store) (b : ℕ → BlockState) → IsQuiet a b → Writes n a a b b
writes_none n a b quiet = record { quiet = quiet; besides = λ k o page ring may. may }

pub works_then : (n : ℕ) (a b c : Store) (disk disk' disk'' vault vault' vault'' : DiskState) → Works n a b disk disk' vault vault' → Works n b c disk' disk'' vault' vault'' → Works n a c disk disk'' vault vault''
works_then n a b c disk disk' disk'' vault vault' vault'' first next = record {
  ready = next.ready;
  shape = next.shape ∙ first.shape;
  keeps = Keeps-then n disk disk' disk'' first.keeps next.keeps;
  vault_keeps = Keeps-then n vault vault' vault'' first.vault_keeps next.vault_keeps;
  others = λ m is far. next.others m is far ∙ first.others m is far;
  frames = λ m is far j e low.
      subst (λ o. KeepsFramesOf (pages_of o) b.shared.pool c.shared.pool) (first.others m is far) (next.frames m is far) j e low
      ∙ first.frames m is far j e low;
}

pub writes_then : (n : ℕ) (a b c : Store) (x y z : ℕ → BlockState) → b.shape ≡ a.shape → Writes n a b x y → Writes n b c y z → Writes n a c x z
writes_then n a b c x y z shape first next = record {
  quiet = next.quiet;
  besides = λ k o page ring may. first.besides k o page ring (subst (λ s. NarrowsBesides n s y z) shape next.besides k o page ring may);
}

-- the cause of a later answer is one of this
pub cause_then : (n : ℕ) (why : Reply) (a b c : DiskState) → Keeps n a b → HasCause why b c → HasCause why a c
cause_then n (says.Stopped m) a b c keeps cause = Rose-after (a.cuts m.0) (b.cuts m.0) (c.cuts m.0) ((Grew-keeps n a b keeps).cuts m.0) cause
cause_then n (says.Fault m) a b c keeps cause = Rose-after (a.faults m.0) (b.faults m.0) (c.faults m.0) ((Grew-keeps n a b keeps).faults m.0) cause
cause_then n says.NoMore a b c keeps cause = cause
cause_then n why a b c keeps cause = tt

pub caused_then : {T : Type 0} (n : ℕ) (r : Result T Reply) (a b c : DiskState) → Keeps n a b → IfErr r (λ why. HasCause why b c) → IfErr r (λ why. HasCause why a c)
caused_then n (Ok value) a b c keeps cause = tt
caused_then n (Err why) a b c keeps cause = cause_then n why a b c keeps cause
