-- What a command that isn't refused for what is in memory may count on.
use Rattle.std.specs.Prelude.{◌≡◌, ◌+◌, ◌≤◌, ◌∷◌, [], ℕ, Bool, true, false, not, nat_lt, List, Option, Some, None, IsTrue, option_map, refl}
use Rattle.std.proofs.Common.{arith, ap, sym, subst, ◌∙◌}
use Rattle.std.proofs.lemmas.Bool.Decides.{nat_tests}
use Rattle.sd_base.specs.declared.device.NodeId.{NodeId}
use Rattle.sd_base.specs.declared.names.TxnId.{TxnId}
use Rattle.private_log.specs.Log.{space}
use Rattle.record_locks.specs.Answer.{may_take}
use Rattle.record_locks.specs.declared.mode.LockAnswer.{LockAnswer}
use Rattle.record_locks.specs.declared.mode.LockAnswer.TheVariants.{Free, Mine, Conflict, Full}
use Rattle.script_text.specs.Words.{IsNode, IsTxn}
use Rattle.script_text.specs.declared.reply.Reply.{Reply}
use Rattle.script_text.specs.declared.reply.Reply.TheVariants as says
use Rattle.record_machine.specs.Commands.{first_of, lock_refusal, where_so}
use Rattle.txn_core.specs.Seats.{is_busy, owed}
use Rattle.store_nodes.specs.declared.node.Node.{Node}
use Rattle.store_nodes.specs.declared.node.Node.TheVariants.{Idle, Up, Down}
use Rattle.store_nodes.specs.declared.store.Store.{Store}
use Rattle.store_nodes.specs.Known.{busy, is_idle, no_node, no_room, no_txn, not_idle, not_up, reopening}
use Rattle.store_nodes.specs.Nodes.{IsPlace, IsStore, OnUp, is_up, node_at}
use Rattle.store_nodes.specs.Pages.{has_txn, room_in}

-- the store has the node
pub record IsThere (c : Store) (n : NodeId) : Type 0 where
  pub place : IsPlace n.0
  pub last : n.0 ≤ c.shape.nodes

-- a test that fails in no case but this one
passes : (test : Bool) (why : Reply) (os : List (Option Reply)) → first_of (where_so test why ∷ os) ≡ None → (test ≡ false) × (first_of os ≡ None)
passes true why os none = cc
passes false why os none = (refl, none)

behind : (o : Option Reply) (os : List (Option Reply)) → first_of (o ∷ os) ≡ None → first_of os ≡ None
behind None os none = none
behind (Some why) os none = cc

not_false : (t : Bool) → not t ≡ false → t ≡ true
not_false true is = refl
not_false false is = cc

module _ (c : Store) (is : IsStore c) where
  there : (n : NodeId) → IsNode n → nat_lt c.shape.nodes n.0 ≡ false → IsThere c n
  there n range low =
      let last : n.0 ≤ c.shape.nodes = grind (arith, nat_tests, low) in
      record { place = (range.0, (let most = is.shared.shape.nodes in omega (arith, last, most))); last = last }

  pub node_known : (n : NodeId) (os : List (Option Reply)) → IsNode n → first_of (no_node c n ∷ os) ≡ None → IsThere c n × (first_of os ≡ None)
  node_known n os range none = let first = passes (nat_lt c.shape.nodes n.0) (says.NoNode n) os none in (there n range first.0, first.1)

  pub idle_known : (n : NodeId) → IsNode n → first_of (no_node c n ∷ not_idle c n ∷ []) ≡ None → IsThere c n × (node_at c.nodes n.0 ≡ Idle)
  idle_known n range none = let first = node_known n (not_idle c n ∷ []) range none in (first.0, by (node_at c.nodes n.0) (not_false (is_idle (node_at c.nodes n.0)) (passes (not (is_idle (node_at c.nodes n.0))) (says.NotIdle n) [] first.1).0))
    where
      by : (node : Node) → is_idle node ≡ true → node ≡ Idle
      by Idle idle = refl
      by (Up d seats) idle = cc
      by Down idle = cc

  pub up_known : (n : NodeId) (os : List (Option Reply)) → IsNode n → first_of (no_node c n ∷ not_up c n ∷ os) ≡ None → IsThere c n × (is_up (node_at c.nodes n.0) ≡ true) × (first_of os ≡ None)
  up_known n os range none =
      let first = node_known n (not_up c n ∷ os) range none in
      let next = passes (not (is_up (node_at c.nodes n.0))) (says.NotUp n) os first.1 in
      (first.0, not_false (is_up (node_at c.nodes n.0)) next.0, next.1)

  pub txn_known : (t : TxnId) (os : List (Option Reply)) → IsTxn t → first_of (no_node c t.node ∷ not_up c t.node ∷ no_txn c t ∷ os) ≡ None → IsThere c t.node × (is_up (node_at c.nodes t.node.0) ≡ true) × (has_txn (node_at c.nodes t.node.0) t ≡ true) × (first_of os ≡ None)
  txn_known t os range none =
      let first = up_known t.node (no_txn c t ∷ os) range.0 none in
      let next = passes (not (has_txn (node_at c.nodes t.node.0) t)) (says.NotTxn t) os first.2 in
      (first.0, first.1, not_false (has_txn (node_at c.nodes t.node.0) t) next.0, next.1)

  -- a transaction that may begin
  pub begin_known : (t : TxnId) → IsTxn t → first_of (no_node c t.node ∷ not_up c t.node ∷ busy c t ∷ reopening c ∷ no_room c t.node 2 ∷ []) ≡ None
      → IsThere c t.node × (is_up (node_at c.nodes t.node.0) ≡ true) × OnUp (node_at c.nodes t.node.0) (λ d seats. (is_busy seats t.seat ≡ false) × (owed seats + 2 ≤ space d.log))
  begin_known t range none =
      let first = up_known t.node (busy c t ∷ reopening c ∷ no_room c t.node 2 ∷ []) range.0 none in
      let next = passes (has_txn (node_at c.nodes t.node.0) t) (says.Busy t) (reopening c ∷ no_room c t.node 2 ∷ []) first.2 in
      let last = passes (nat_lt (room_in (node_at c.nodes t.node.0)) 2) (says.LogFull 2 (room_in (node_at c.nodes t.node.0))) [] (behind (reopening c) (no_room c t.node 2 ∷ []) next.1) in
      (first.0, first.1, by (node_at c.nodes t.node.0) next.0 last.0)
    where
      by : (node : Node) → has_txn node t ≡ false → nat_lt (room_in node) 2 ≡ false → OnUp node (λ d seats. (is_busy seats t.seat ≡ false) × (owed seats + 2 ≤ space d.log))
      by Idle free room = tt
      by (Up d seats) free room = (free, grind (arith, nat_tests, room))
      by Down free room = tt

-- a lock that can be had
pub lock_known : (a : LockAnswer) → first_of (lock_refusal a ∷ []) ≡ None → IsTrue (may_take a)
lock_known Free none = refl
lock_known Mine none = refl
lock_known (Conflict u) none = cc
lock_known Full none = cc

-- no lock is held
pub unlocked : (o : Option TxnId) (os : List (Option Reply)) → first_of (option_map says.Busy o ∷ os) ≡ None → o ≡ None
unlocked None os none = refl
unlocked (Some t) os none = cc
