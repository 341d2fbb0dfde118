-- A call that does nothing leaves all as it was.
use Rattle.std.specs.Prelude.{◌≡◌, ℕ, true, refl}
use Rattle.sd_base.specs.Disk.{BlockState, DiskState}
use Rattle.script_text.specs.declared.reply.Reply.{Reply}
use Rattle.script_text.specs.declared.reply.Reply.TheVariants as says
use Rattle.store_nodes.specs.declared.store.Store.{Store}
use Rattle.store_nodes.specs.Ports.{IsQuiet, IsReady, IsStopReply, Works, Writes, says_stop}
use Rattle.store_nodes.proofs.Logs.{keeps_same}

pub works_same : (n : ℕ) (c : Store) (disk vault : DiskState) → IsReady c disk vault → Works n c c disk disk vault vault
works_same n c disk vault ready = record {
  ready = ready;
  shape = refl;
  keeps = keeps_same n disk;
  vault_keeps = keeps_same n vault;
  others = λ m place far. refl;
  frames = λ m place far i q at. refl;
}

pub writes_same : (n : ℕ) (c : Store) (b : ℕ → BlockState) → IsQuiet c b → Writes n c c b b
writes_same n c b quiet = record { quiet = quiet; besides = λ k o page ring may. may }

-- a stop of this node is one
pub stops : (n : ℕ) (why : Reply) → IsStopReply n why → says_stop why ≡ true
stops n (says.Stopped m) is = refl
stops n (says.Fault m) is = refl
stops n why is = absurd is
