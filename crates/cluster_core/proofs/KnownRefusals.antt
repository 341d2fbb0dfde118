-- What a command is refused for by what is in memory, the machine refuses it for too; and what else it refuses it for.
use Rattle.std.specs.Prelude.{◌≡◌, ◌⊎◌, ◌++◌, ◌∷◌, [], ◌-◌, ◌*◌, ◌≤◌, ℕ, Bool, true, false, not, nat_lt, List, Option, Some, None, option_map, refl}
use Rattle.std.proofs.Common.{arith, inl, inr, ap, sym, ◌∙◌}
use Rattle.std.proofs.lemmas.Bool.{cases_lt}
use Rattle.std.proofs.lemmas.Bool.Decides.{nat_tests}
use Rattle.sd_base.specs.Disk.{BlockState}
use Rattle.sd_base.specs.declared.device.NodeId.{NodeId}
use Rattle.sd_base.specs.declared.names.Key.{Key}
use Rattle.sd_base.specs.declared.names.TxnId.{TxnId}
use Rattle.record_locks.specs.declared.mode.Mode.{Mode}
use Rattle.record_locks.specs.declared.mode.Mode.TheVariants as locks
use Rattle.record_locks.specs.Answer.{lock_answer}
use Rattle.record_locks.specs.Held.{least_where}
use Rattle.script_text.specs.Command.{InRange}
use Rattle.script_text.specs.Words.{IsNode, IsTxn}
use Rattle.script_text.specs.declared.command.Command.{Command}
use Rattle.script_text.specs.declared.command.Command.TheVariants as asks
use Rattle.script_text.specs.declared.reply.Reply.{Reply}
use Rattle.script_text.specs.declared.reply.Reply.TheVariants as says
use Rattle.record_machine.specs.Commands.{TellsNode, first_of, lock_refusal, no_deletion, no_page, takes, too_long, where_so}
use Rattle.record_machine.specs.Commands as wants
use Rattle.record_machine.specs.Machine as machine
use Rattle.record_machine.specs.Machine.{Machine, owed, room, seen, used}
use Rattle.record_machine.specs.Meaning.{Plain}
use Rattle.record_machine.specs.Steps.{held, refused_for, reopening}
use Rattle.txn_core.specs.Seats as txn
use Rattle.store_nodes.specs.declared.node.Node.{Node}
use Rattle.store_nodes.specs.declared.node.Node.TheVariants.{Idle, Up, Down}
use Rattle.store_nodes.specs.declared.store.Store.{Store}
use Rattle.store_nodes.specs.Known as known
use Rattle.store_nodes.specs.Known.{is_idle, state_of}
use Rattle.store_nodes.specs.Nodes.{IsPlace, IsStore, is_up, node_at}
use Rattle.store_nodes.specs.Nodes as nodes
use Rattle.store_nodes.specs.Pages.{has_txn, room_in}
use Rattle.store_nodes.specs.Shows.{ShowsNode, ShowsStore}
use Rattle.store_nodes.proofs.Owing.{owed_shown}
use Rattle.store_nodes.proofs.ShownLogged.{tail_shown}
use Rattle.store_nodes.proofs.ShownReopening.{reopening_shown}
use Rattle.store_commands.proofs.Room.{room_shown}
use Rattle.store_nodes.proofs.Seated.{busy_shown}
use Rattle.cluster_core.proofs.Tests.{first_none, first_one, first_some, tests, tests_are}

-- ---- what else the machine refuses it for

-- what it may be refused for behind them
abbrev pub behind : Machine → Command → List (Option Reply)
behind m asks.Bad = []
behind m (asks.Format s) = []
behind m (asks.Start n) = []
behind m (asks.Begin t) = []
behind m (asks.Get t key) = held m (takes m (asks.Get t key)) ∷ []
behind m (asks.Put t key value) = held m (takes m (asks.Put t key value)) ∷ no_page m t.node key.0 None ∷ []
behind m (asks.Append t key bytes) = held m (takes m (asks.Append t key bytes)) ∷ no_page m t.node key.0 (too_long (seen m t key.0) bytes) ∷ []
behind m (asks.Del t key) = held m (takes m (asks.Del t key)) ∷ no_deletion m t key.0 ∷ []
behind m (asks.Commit t) = []
behind m (asks.Abort t) = held m (takes m (asks.Abort t)) ∷ []
behind m (asks.Flush n) = []
behind m (asks.Stat n) = []
behind m (asks.Dump n) = []

-- ---- the machine's tests

module _ (c : Store) (b : ℕ → BlockState) (p : Plain) (m : Machine) (is : IsStore c) (shown : ShowsStore c b p m) where
  mine : (n : ℕ) → IsPlace n → n ≤ c.shape.nodes → ShowsNode c.shape c.shared.pool n (node_at c.nodes n) b p m
  mine n place last = shown.nodes.node n place last

  up_mode : (n : ℕ) → IsPlace n → n ≤ c.shape.nodes → machine.is_up (m.mode n) ≡ is_up (node_at c.nodes n)
  up_mode n place last = by (node_at c.nodes n) (mine n place last)
    where
      by : (node : Node) → ShowsNode c.shape c.shared.pool n node b p m → machine.is_up (m.mode n) ≡ is_up node
      by Idle is = ap machine.is_up is.0
      by (Up d seats) is = ap machine.is_up is.0
      by Down is = ap machine.is_up is.0

  idle_mode : (n : ℕ) → IsPlace n → n ≤ c.shape.nodes → machine.is_idle (m.mode n) ≡ is_idle (node_at c.nodes n)
  idle_mode n place last = by (node_at c.nodes n) (mine n place last)
    where
      by : (node : Node) → ShowsNode c.shape c.shared.pool n node b p m → machine.is_idle (m.mode n) ≡ is_idle node
      by Idle is = ap machine.is_idle is.0
      by (Up d seats) is = ap machine.is_idle is.0
      by Down is = ap machine.is_idle is.0

  -- the store has the node, or hasn't
  there_or_none : (n : NodeId) → IsNode n → (IsPlace n.0 × (n.0 ≤ c.shape.nodes) × (nat_lt c.shape.nodes n.0 ≡ false)) ⊎ (nat_lt c.shape.nodes n.0 ≡ true)
  there_or_none n range = elim (cases_lt c.shape.nodes n.0) [
    | inl none ↦ inr (grind (arith, nat_tests, none))
    | inr there ↦ inl ((range.0, (let most = is.shared.shape.nodes in omega (arith, there, most))), there, grind (arith, nat_tests, there))
  ]

  none_same : (n : NodeId) → wants.no_node m n ≡ known.no_node c n
  none_same n = ap (λ s. where_so (nat_lt s.nodes n.0) (says.NoNode n)) shown.nodes.shape

  -- where it is up, its transactions and its room are what the machine says
  up_busy : (t : TxnId) → IsPlace t.node.0 → t.node.0 ≤ c.shape.nodes → t.seat ≤ 7 → is_up (node_at c.nodes t.node.0) ≡ true → machine.is_busy m t ≡ has_txn (node_at c.nodes t.node.0) t
  up_busy t place last seat up = by (node_at c.nodes t.node.0) up (is.is t.node.0 place) (mine t.node.0 place last)
    where
      by : (node : Node) → is_up node ≡ true → nodes.IsNode c.shape c.shared.pool c.shared.owners t.node.0 node → ShowsNode c.shape c.shared.pool t.node.0 node b p m → machine.is_busy m t ≡ has_txn node t
      by Idle up work node = cc
      by (Up d seats) up work node = busy_shown c.shape c.shared.pool d seats b p m t (omega (arith, seat)) work.eight shown.nodes.means.logs node.1
      by Down up work node = cc

  up_room : (n : ℕ) → IsPlace n → n ≤ c.shape.nodes → is_up (node_at c.nodes n) ≡ true → room m n ≡ room_in (node_at c.nodes n)
  up_room n place last up = by (node_at c.nodes n) up (is.is n place) (mine n place last)
    where
      by : (node : Node) → is_up node ≡ true → nodes.IsNode c.shape c.shared.pool c.shared.owners n node → ShowsNode c.shape c.shared.pool n node b p m → room m n ≡ room_in node
      by Idle up work node = cc
      by (Up d seats) up work node = room_shown n c.shape c.shared.pool d seats b p m work.store.shape shown.nodes.shape work.eight shown.nodes.means.logs node.1
      by Down up work node = cc

  -- the tests of a node that has to be up, and then of others
  up_first : (n : NodeId) (rest more : List (Option Reply)) → IsNode n → (IsPlace n.0 → n.0 ≤ c.shape.nodes → is_up (node_at c.nodes n.0) ≡ true → first_of rest ≡ first_of more)
      → first_of (wants.no_node m n ∷ wants.not_up m n ∷ rest) ≡ first_of (known.no_node c n ∷ known.not_up c n ∷ more)
  up_first n rest more range same = ap (λ o. first_of (o ∷ wants.not_up m n ∷ rest)) (none_same n) ∙ elim (there_or_none n range) [
    | inl there ↦
        ap (λ k. first_of (where_so k (says.NoNode n) ∷ wants.not_up m n ∷ rest)) there.2
        ∙ ap (λ k. first_of (where_so (not k) (says.NotUp n) ∷ rest)) (up_mode n.0 there.0 there.1)
        ∙ by (is_up (node_at c.nodes n.0)) (same there.0 there.1)
        ∙ sym (ap (λ k. first_of (where_so k (says.NoNode n) ∷ known.not_up c n ∷ more)) there.2)
    | inr none ↦
        ap (λ k. first_of (where_so k (says.NoNode n) ∷ wants.not_up m n ∷ rest)) none
        ∙ sym (ap (λ k. first_of (where_so k (says.NoNode n) ∷ known.not_up c n ∷ more)) none)
  ]
    where
      by : (k : Bool) → (k ≡ true → first_of rest ≡ first_of more) → first_of (where_so (not k) (says.NotUp n) ∷ rest) ≡ first_of (where_so (not k) (says.NotUp n) ∷ more)
      by true same = same refl
      by false same = refl

  -- the tests of a transaction that has to be open, and then of others
  txn_first : (t : TxnId) (rest more : List (Option Reply)) → IsTxn t → first_of rest ≡ first_of more
      → first_of (wants.no_node m t.node ∷ wants.not_up m t.node ∷ wants.no_txn m t ∷ rest) ≡ first_of (known.no_node c t.node ∷ known.not_up c t.node ∷ known.no_txn c t ∷ more)
  txn_first t rest more range same =
      up_first t.node (wants.no_txn m t ∷ rest) (known.no_txn c t ∷ more) range.0
      (λ place last up. ap (λ k. first_of (where_so (not k) (says.NotTxn t) ∷ rest)) (up_busy t place last range.1 up) ∙ by (has_txn (node_at c.nodes t.node.0) t))
    where
      by : (k : Bool) → first_of (where_so (not k) (says.NotTxn t) ∷ rest) ≡ first_of (where_so (not k) (says.NotTxn t) ∷ more)
      by true = same
      by false = refl

  -- and of a lock
  lock_first : (t : TxnId) (key : Key) (mode : Mode) (more : List (Option Reply)) → IsTxn t
      → first_of (wants.no_node m t.node ∷ wants.not_up m t.node ∷ wants.no_txn m t ∷ wants.no_lock m key t mode ∷ more) ≡ first_of (known.no_node c t.node ∷ known.not_up c t.node ∷ known.no_txn c t ∷ known.no_lock c key t mode ∷ more)
  lock_first t key mode more range = txn_first t (wants.no_lock m key t mode ∷ more) (known.no_lock c key t mode ∷ more) range (ap (λ those. first_of (lock_refusal (lock_answer those key t mode) ∷ more)) shown.locks)

  idle_first : (n : NodeId) → IsNode n → first_of (wants.no_node m n ∷ wants.not_idle m n ∷ []) ≡ first_of (known.no_node c n ∷ known.not_idle c n ∷ [])
  idle_first n range = ap (λ o. first_of (o ∷ wants.not_idle m n ∷ [])) (none_same n) ∙ elim (there_or_none n range) [
    | inl there ↦ ap (λ k. first_of (known.no_node c n ∷ where_so (not k) (says.NotIdle n) ∷ [])) (idle_mode n.0 there.0 there.1)
    | inr none ↦
        ap (λ k. first_of (where_so k (says.NoNode n) ∷ wants.not_idle m n ∷ [])) none
        ∙ sym (ap (λ k. first_of (where_so k (says.NoNode n) ∷ known.not_idle c n ∷ [])) none)
  ]

  opens : reopening m ≡ known.reopening c
  opens = reopening_shown c b m is (p, shown)

  begin_first : (t : TxnId) → IsTxn t
      → first_of (wants.no_node m t.node ∷ wants.not_up m t.node ∷ wants.busy m t ∷ reopening m ∷ wants.no_room m t.node 2 ∷ []) ≡ first_of (known.no_node c t.node ∷ known.not_up c t.node ∷ known.busy c t ∷ known.reopening c ∷ known.no_room c t.node 2 ∷ [])
  begin_first t range =
      up_first t.node (wants.busy m t ∷ reopening m ∷ wants.no_room m t.node 2 ∷ []) (known.busy c t ∷ known.reopening c ∷ known.no_room c t.node 2 ∷ []) range.0
      (λ place last up.
      ap (λ k. first_of (where_so k (says.Busy t) ∷ reopening m ∷ wants.no_room m t.node 2 ∷ [])) (up_busy t place last range.1 up)
      ∙ ap (λ o. first_of (known.busy c t ∷ o ∷ wants.no_room m t.node 2 ∷ [])) opens
      ∙ ap (λ k. first_of (known.busy c t ∷ known.reopening c ∷ where_so (nat_lt k 2) (says.LogFull 2 k) ∷ [])) (up_room t.node.0 place last up))

  dump_first : (n : NodeId) → IsNode n → first_of (wants.no_node m n ∷ wants.not_up m n ∷ wants.any_lock m ∷ reopening m ∷ []) ≡ first_of (known.no_node c n ∷ known.not_up c n ∷ known.any_lock c ∷ known.reopening c ∷ [])
  dump_first n range =
      up_first n (wants.any_lock m ∷ reopening m ∷ []) (known.any_lock c ∷ known.reopening c ∷ []) range
      (λ place last up.
      ap (λ those. first_of (option_map says.Busy (least_where (λ l mode. true) those) ∷ reopening m ∷ [])) shown.locks
      ∙ ap (λ o. first_of (known.any_lock c ∷ o ∷ [])) opens)

  -- all tests of the machine are those in memory, and then those behind them
  all_same : (command : Command) → InRange command → refused_for m command ≡ first_of (tests c command ++ behind m command)
  all_same asks.Bad range = refl
  all_same (asks.Format s) range = refl
  all_same (asks.Start n) range = idle_first n range
  all_same (asks.Begin t) range = begin_first t range
  all_same (asks.Get t key) range = lock_first t key locks.Read (behind m (asks.Get t key)) range.0
  all_same (asks.Put t key value) range = lock_first t key locks.Write (behind m (asks.Put t key value)) range.0
  all_same (asks.Append t key bytes) range = lock_first t key locks.Write (behind m (asks.Append t key bytes)) range.0
  all_same (asks.Del t key) range = lock_first t key locks.Write (behind m (asks.Del t key)) range.0
  all_same (asks.Commit t) range = txn_first t [] [] range refl
  all_same (asks.Abort t) range = txn_first t (behind m (asks.Abort t)) (behind m (asks.Abort t)) range refl
  all_same (asks.Flush n) range = up_first n [] [] range (λ place last up. refl)
  all_same (asks.Stat n) range = none_same n ∙ sym (first_one (known.no_node c n))
  all_same (asks.Dump n) range = dump_first n range

  pub known_refused : (command : Command) (why : Reply) → InRange command → known.known c command ≡ Some why → refused_for m command ≡ Some why
  known_refused command why range so = all_same command range ∙ first_some (tests c command) (behind m command) why (tests_are c command ∙ so)

  pub behind_known : (command : Command) → InRange command → known.known c command ≡ None → refused_for m command ≡ first_of (behind m command)
  behind_known command range so = all_same command range ∙ first_none (tests c command) (behind m command) (tests_are c command ∙ so)

  -- what is told of a node of the store is what the machine tells of it
  pub told_node : (n : NodeId) → IsPlace n.0 → n.0 ≤ c.shape.nodes → TellsNode m n.0 (state_of (node_at c.nodes n.0))
  told_node n place last = by (node_at c.nodes n.0) (is.is n.0 place) (mine n.0 place last)
    where
      by : (node : Node) → nodes.IsNode c.shape c.shared.pool c.shared.owners n.0 node → ShowsNode c.shape c.shared.pool n.0 node b p m → TellsNode m n.0 (state_of node)
      by Idle work node = rw (node.0) refl
      by (Up d seats) work node =
          let up = node.1 in
          let tail = tail_shown n.0 c.shape c.shared.pool d seats b p m shown.nodes.means.logs up in
          let length : used m n.0 ≡ d.log.tail - 6 * d.log.start = ap (λ k. k - 6 * m.start n.0) tail ∙ ap (λ k. d.log.tail - 6 * k) up.start in
          let owing : txn.owed seats ≡ owed m n.0 = owed_shown n.0 c.shape c.shared.pool d seats b p m work.eight up in
          let free : room m n.0 ≡ room_in (Up d seats) = room_shown n.0 c.shape c.shared.pool d seats b p m work.store.shape shown.nodes.shape work.eight shown.nodes.means.logs up in
          rw (node.0) (ap (λ k. says.StatUp k (txn.owed seats) (room_in (Up d seats))) (sym length) ∙ ap (λ k. says.StatUp (used m n.0) k (room_in (Up d seats))) owing ∙ ap (says.StatUp (used m n.0) (owed m n.0)) (sym free))
      by Down work node = rw (node.0) refl
