-- What a call of a node leaves that reads the node's log, and what it answers where that can't be read.
use Rattle.std.specs.Prelude.{◌≡◌, ◌-◌, ℕ, true, false, slice_set, refl}
use Rattle.std.proofs.Common.{inl, inr, ap, subst, sym, ◌∙◌}
use Rattle.sd_base.specs.Disk.{BlockState, DiskState}
use Rattle.sd_base.specs.Calls.{Keeps, NoNewWriter}
use Rattle.private_log.specs.Content.{Region}
use Rattle.node_cache.specs.Cache.{CacheState}
use Rattle.txn_core.specs.Seats.{SeatsState}
use Rattle.script_text.specs.declared.reply.Reply.{Reply}
use Rattle.script_text.specs.declared.reply.Reply.TheVariants as says
use Rattle.store_nodes.specs.declared.node.Node.TheVariants.{Up}
use Rattle.store_nodes.specs.declared.store.Store.{Store}
use Rattle.store_nodes.specs.Causes.{IsLogReply}
use Rattle.store_nodes.specs.Nodes.{IsPlace, IsStore, IsStoreButOf, is_up, node_at}
use Rattle.store_nodes.specs.Ports.{HasCause, IsQuiet, IsQuietButOf, IsQuietOf, IsReady, Works, says_stop}
use Rattle.store_pages.specs.Updates.{IsLogBlock}
use Rattle.store_nodes.proofs.Eight.{same_there}
use Rattle.store_nodes.proofs.Logs as logs
use Rattle.store_nodes.proofs.Logs.{keeps_same}
use Rattle.store_nodes.proofs.Works.{served_still}

module _ (me : Store) (n i : ℕ) (c : CacheState) (seats : SeatsState) (is : IsStore me) (place_is : IsPlace n) (at : i ≡ n - 1) (up : node_at me.nodes n ≡ Up c seats) where
  -- the nodes as the code has them are those that there were
  pub nodes_read : slice_set me.nodes i (Up c seats) ≡ me.nodes
  nodes_read = ap (λ j. slice_set me.nodes j (Up c seats)) at ∙ ap (λ o. slice_set me.nodes (n - 1) o) (sym up) ∙ same_there me.nodes n is.shared.eight place_is

  pub store_read : record { shape = me.shape; shared = me.shared; nodes = slice_set me.nodes i (Up c seats) } ≡ me
  store_read = ap (λ os. record { shape = me.shape; shared = me.shared; nodes = os }) nodes_read

  pub ready_read : (disk disk' vault : DiskState) → Keeps c.node.0 disk disk' → disk'.live c.node.0 ≡ true → IsReady me disk vault → IsReady me disk' vault
  ready_read disk disk' vault keeps live ready =
      let number = (logs.work me n i c c seats seats is place_is at up).number in
      let mine : Keeps n disk disk' = subst (λ k. Keeps k disk disk') number keeps in
      let was = ready.served.live n place_is in
      let vault_was = ready.served.vault_live n place_is in
      record {
        is = is;
        served = served_still me.shape me.nodes me.nodes n disk disk' vault vault mine (keeps_same n vault) (subst (λ k. disk'.live k ≡ true) number live ∙ sym (ap is_up up)) vault_was (λ m m_is far. refl) ready.served;
      }

  pub works_read : (disk disk' vault : DiskState) → Keeps c.node.0 disk disk' → disk'.live c.node.0 ≡ true → IsReady me disk vault → Works n me me disk disk' vault vault
  works_read disk disk' vault keeps live ready = record {
    ready = ready_read disk disk' vault keeps live ready;
    shape = refl;
    keeps = subst (λ k. Keeps k disk disk') (logs.work me n i c c seats seats is place_is at up).number keeps;
    vault_keeps = keeps_same n vault;
    others = λ m m_is far. refl;
    frames = λ m m_is far j e low. refl;
  }

  -- the node may be halted after it
  pub but_read : IsStoreButOf n me.shape me.shared.pool me.shared.owners (slice_set me.nodes i (Up c seats))
  but_read = logs.but_after me n i c c seats seats is place_is at up refl refl (logs.work me n i c c seats seats is place_is at up).cache

  module _ (b b' : ℕ → BlockState) where
    pub quiet_but_read : NoNewWriter b b' → IsQuiet me b → IsQuietButOf n me.shape (slice_set me.nodes i (Up c seats)) b'
    quiet_but_read writers quiet = logs.quiet_but_after me n i c c seats seats is place_is at up b b' (λ k. elim (writers k) [ inl same ↦ inl same | inr none ↦ inr (inl none) ]) quiet

    pub quiet_read : NoNewWriter b b' → IsQuiet me b → IsQuietOf me.shape (slice_set me.nodes i (Up c seats)) b'
    quiet_read writers quiet = logs.quiet_after me n i c c seats seats is place_is at up b b' (λ k. elim (writers k) [ inl same ↦ inl same | inr none ↦ inr (inl none) ]) quiet

-- ---- a block of the log that is damaged

pub block_says : (n : ℕ) (g : Region) (why : Reply) → IsLogBlock g why → IsLogReply n g why
block_says n g (says.DamagedDisk at) is = is
block_says n g why is = absurd is

pub block_stays : (g : Region) (why : Reply) → IsLogBlock g why → says_stop why ≡ false
block_stays g (says.DamagedDisk at) is = refl
block_stays g why is = absurd is

pub block_cause : (g : Region) (why : Reply) (a b : DiskState) → IsLogBlock g why → HasCause why a b
block_cause g (says.DamagedDisk at) a b is = tt
block_cause g why a b is = absurd is
