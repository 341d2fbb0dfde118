-- What the call of a command leaves, by the reply that its result becomes.
use Rattle.std.specs.Prelude.{◌≡◌, ◌≢◌, ◌⊎◌, ℕ, Option, Result, Ok, Err, refl}
use Rattle.std.proofs.Common.{inl, inr, subst, sym}
use Rattle.sd_base.specs.Calls.{Narrows}
use Rattle.sd_base.specs.Disk.{BlockState, DiskState}
use Rattle.script_text.specs.declared.reply.Reply.{Reply}
use Rattle.store_nodes.specs.declared.node.Node.{Node}
use Rattle.store_nodes.specs.declared.node.Node.TheVariants.{Idle, Up, Down}
use Rattle.store_nodes.specs.declared.store.Store.{Store}
use Rattle.store_nodes.specs.Nodes.{IsPlace, node_at}
use Rattle.store_nodes.specs.Pages.{KeepsWork}
use Rattle.store_nodes.specs.Ports.{IsQuiet, IsStopReply, SaysStopOf, StaysOrStops, WorksWith, WritesWith}
use Rattle.store_pages.proofs.WorksWith.{seats_same}

stays_says : (P Q : Type 0) (a b : Node) → (P → Q) → StaysOrStops P a b → StaysOrStops Q a b
stays_says P Q Idle b then stays = stays
stays_says P Q (Up c seats) b then (inl keeps) = inl keeps
stays_says P Q (Up c seats) b then (inr stop) = inr (then stop.0, stop.1)
stays_says P Q Down b then stays = stays

-- the reply says of each node that it stopped of which the result does
stop_says : {T : Type 0} (say : Result T Reply → Reply) (r : Result T Reply) (n : ℕ) → ((why : Reply) → say (Err why) ≡ why) → SaysStopOf r n → IsStopReply n (say r)
stop_says say (Ok value) n err is = absurd is
stop_says say (Err why) n err is = subst (IsStopReply n) (sym (err why)) is

pub works_says : {T : Type 0} (n : ℕ) (say : Result T Reply → Reply) (r : Result T Reply) (old new : Store) (disk disk' vault vault' : DiskState) → ((why : Reply) → say (Err why) ≡ why)
    → WorksWith n (SaysStopOf r) old new disk disk' vault vault' → WorksWith n (λ h. IsStopReply h (say r)) old new disk disk' vault vault'
works_says n say r old new disk disk' vault vault' err works = record {
  ready = works.ready;
  shape = works.shape;
  keeps = works.keeps;
  vault_keeps = works.vault_keeps;
  others = λ m place far. stays_says (SaysStopOf r m) (IsStopReply m (say r)) (node_at old.nodes m) (node_at new.nodes m) (stop_says say r m err) (works.others m place far);
}

-- where no block has a new outcome
pub writes_narrow : (n : ℕ) (old new : Store) (b b' : ℕ → BlockState) → IsQuiet new b' → Narrows b b' → WritesWith n old new b b'
writes_narrow n old new b b' quiet narrows = record { quiet = quiet; besides = λ k o page ring may. narrows k o may }

-- nothing at all
pub work_same : (n : ℕ) (c : Store) → KeepsWork n c c
work_same n c = record { locks = refl; reopening = refl; seats = seats_same (node_at c.nodes n) (node_at c.nodes n) refl }
