-- The tests that a command has to pass in memory, as a list, and what holds of the reply of the first one that fails.
use Rattle.std.specs.Prelude.{◌≡◌, ◌++◌, ◌∷◌, [], ⊤, Bool, true, false, List, Option, Some, None, IfSome, option_map, if◌then◌else◌, refl}
use Rattle.std.proofs.Common.{subst}
use Rattle.sd_base.specs.declared.device.NodeId.{NodeId}
use Rattle.sd_base.specs.declared.names.TxnId.{TxnId}
use Rattle.record_locks.specs.declared.mode.LockAnswer.{LockAnswer}
use Rattle.record_locks.specs.declared.mode.LockAnswer.TheVariants.{Free, Mine, Conflict, Full}
use Rattle.record_locks.specs.declared.mode.Mode.TheVariants as locks
use Rattle.script_text.specs.declared.command.Command.{Command}
use Rattle.script_text.specs.declared.command.Command.TheVariants as asks
use Rattle.script_text.specs.declared.reply.Reply.{Reply}
use Rattle.script_text.specs.declared.reply.Reply.TheVariants as says
use Rattle.record_machine.specs.Commands.{first_of, lock_refusal, where_so}
use Rattle.store_nodes.specs.declared.store.Store.{Store}
use Rattle.store_nodes.specs.Known.{any_lock, busy, first_down, known, no_lock, no_node, no_room, no_txn, not_idle, not_up, reopening}

-- ---- tests, and then more

pub first_some : (os more : List (Option Reply)) (why : Reply) → first_of os ≡ Some why → first_of (os ++ more) ≡ Some why
first_some [] more why is = cc
first_some (None ∷ os) more why is = first_some os more why is
first_some (Some other ∷ os) more why is = is

pub first_none : (os more : List (Option Reply)) → first_of os ≡ None → first_of (os ++ more) ≡ first_of more
first_none [] more is = refl
first_none (None ∷ os) more is = first_none os more is
first_none (Some other ∷ os) more is = cc

pub first_one : (o : Option Reply) → first_of (o ∷ []) ≡ o
first_one None = refl
first_one (Some why) = refl

-- ---- what holds of the reply of each test that may fail, holds of the first

abbrev pub AllSay : (Reply → Type 0) → List (Option Reply) → Type 0
AllSay P [] = ⊤
AllSay P (o ∷ os) = IfSome o P × AllSay P os

pub first_says : (P : Reply → Type 0) (os : List (Option Reply)) (why : Reply) → AllSay P os → first_of os ≡ Some why → P why
first_says P [] why all is = cc
first_says P (None ∷ os) why (here, rest) is = first_says P os why rest is
first_says P (Some other ∷ os) why (here, rest) is = let same : other ≡ why = cc in subst P same here

pub tested : (P : Reply → Type 0) (test : Bool) (why : Reply) → P why → IfSome (where_so test why) P
tested P true why holds = holds
tested P false why holds = tt

pub locked : (P : Reply → Type 0) (a : LockAnswer) → ((t : TxnId) → P (says.Locked t)) → P says.LocksFull → IfSome (lock_refusal a) P
locked P Free conflict full = tt
locked P Mine conflict full = tt
locked P (Conflict t) conflict full = conflict t
locked P Full conflict full = full

pub unlocked : (P : Reply → Type 0) (o : Option TxnId) → ((t : TxnId) → P (says.Busy t)) → IfSome (option_map says.Busy o) P
unlocked P None busy = tt
unlocked P (Some t) busy = busy t

pub reopened : (P : Reply → Type 0) (c : Store) → ((n : NodeId) → P (says.Reopening n)) → IfSome (reopening c) P
reopened P c is = by c.shared.reopening (first_down c)
  where
    by : (b : Bool) (o : Option NodeId) → IfSome (if b then option_map says.Reopening o else None) P
    by true (Some n) = is n
    by true None = tt
    by false o = tt

-- ---- the tests of a command

abbrev pub tests : Store → Command → List (Option Reply)
tests c asks.Bad = Some says.Bad ∷ []
tests c (asks.Format s) = Some says.Formatted ∷ []
tests c (asks.Start n) = no_node c n ∷ not_idle c n ∷ []
tests c (asks.Begin t) = no_node c t.node ∷ not_up c t.node ∷ busy c t ∷ reopening c ∷ no_room c t.node 2 ∷ []
tests c (asks.Get t key) = no_node c t.node ∷ not_up c t.node ∷ no_txn c t ∷ no_lock c key t locks.Read ∷ []
tests c (asks.Put t key value) = no_node c t.node ∷ not_up c t.node ∷ no_txn c t ∷ no_lock c key t locks.Write ∷ []
tests c (asks.Append t key bytes) = no_node c t.node ∷ not_up c t.node ∷ no_txn c t ∷ no_lock c key t locks.Write ∷ []
tests c (asks.Del t key) = no_node c t.node ∷ not_up c t.node ∷ no_txn c t ∷ no_lock c key t locks.Write ∷ []
tests c (asks.Commit t) = no_node c t.node ∷ not_up c t.node ∷ no_txn c t ∷ []
tests c (asks.Abort t) = no_node c t.node ∷ not_up c t.node ∷ no_txn c t ∷ []
tests c (asks.Flush n) = no_node c n ∷ not_up c n ∷ []
tests c (asks.Stat n) = no_node c n ∷ []
tests c (asks.Dump n) = no_node c n ∷ not_up c n ∷ any_lock c ∷ reopening c ∷ []

pub tests_are : (c : Store) (command : Command) → first_of (tests c command) ≡ known c command
tests_are c asks.Bad = refl
tests_are c (asks.Format s) = refl
tests_are c (asks.Start n) = refl
tests_are c (asks.Begin t) = refl
tests_are c (asks.Get t key) = refl
tests_are c (asks.Put t key value) = refl
tests_are c (asks.Append t key bytes) = refl
tests_are c (asks.Del t key) = refl
tests_are c (asks.Commit t) = refl
tests_are c (asks.Abort t) = refl
tests_are c (asks.Flush n) = refl
tests_are c (asks.Stat n) = first_one (no_node c n)
tests_are c (asks.Dump n) = refl
