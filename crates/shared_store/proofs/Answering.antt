-- What a command is answered that a store is asked.
use Rattle.std.specs.Prelude.{⊤, ◌∷◌, [], nat_lt, option_map, List, Option, IfSome, if◌then◌else◌}
use Rattle.std.proofs.Common.{◌≡◌, ◌≢◌, ◌∙◌, ℕ, Bool, true, false, Some, None, inl, refl, ap, subst, sym}
use Rattle.sd_base.specs.declared.device.NodeId.{NodeId}
use Rattle.sd_base.specs.declared.names.TxnId.{TxnId}
use Rattle.sd_base.specs.Disk.{DiskState}
use Rattle.script_text.specs.declared.command.Command.{Command}
use Rattle.script_text.specs.declared.command.Command.TheVariants as asks
use Rattle.script_text.specs.declared.reply.Reply.{Reply}
use Rattle.script_text.specs.declared.reply.Reply.TheVariants as says
use Rattle.record_machine.specs.Commands.{first_of, where_so}
use Rattle.record_machine.specs.Machine.{Machine}
use Rattle.record_machine.specs.Rows.{dumped_by}
use Rattle.record_machine.specs.Steps as machine
use Rattle.record_machine.specs.Steps.{RowOrStop, StepOrStop, refused_for}
use Rattle.store_format.specs.Device.{ComesToRest}
use Rattle.store_nodes.specs.declared.node.Node.{Node}
use Rattle.store_nodes.specs.declared.node.Node.TheVariants.{Idle, Up, Down}
use Rattle.store_nodes.specs.declared.store.Store as nodes
use Rattle.store_nodes.specs.Known.{first_down, known, no_node, reopening, state_of}
use Rattle.store_nodes.specs.Nodes.{node_at}
use Rattle.store_nodes.specs.Ports as nodes_ports
use Rattle.store_nodes.specs.Ports.{says_stop}
use Rattle.store_nodes.specs.Shows.{IsShown}
use Rattle.cluster_core.specs.Answers.{IsAnswer, IsRowAnswer}
use Rattle.shared_store.specs.Answering.{IsRowFrom, NextAnswered, NextOpen}
use Rattle.shared_store.specs.Causes.{HasCause}
use Rattle.shared_store.specs.Devices.{both}
use Rattle.shared_store.specs.Store.{Leaves, Shows}
use Rattle.shared_store.specs.StoreState.{StoreState, shut, opened, stopped, AnsweredOnce, AnswersOpen, AnswersStopped, MayStop}
use Rattle.shared_store.specs.declared.store.Store.TheVariants.{Closed, Open}

-- An open store has answered a command that gets one reply: it is refused at once for what is known, and else it is a step of the machine.
module _ (c next : nodes.Store) (command : Command) (reply : Reply) (old new : DiskState)
    (single : dumped_by command ≡ None)
    (refused : (why : Reply) → known c command ≡ Some why → reply ≡ why)
    (answer : known c command ≡ None → IsAnswer c next command reply)
    (step : says_stop reply ≡ false → (m : Machine) → IsShown c old.block m → StepOrStop m command reply (IsShown next new.block)) where
  -- which is no dump
  no_dump : {P : Type 0} (n : NodeId) → command ≡ asks.Dump n → P
  no_dump n is = let never : Some n ≡ None = ap dumped_by (sym is) ∙ single in cc

  -- it may stop in a command that isn't refused
  may_stop : (asked : Command) → command ≡ asked → says_stop reply ≡ true → MayStop asked
  may_stop (asks.Format s) is stops = let e = refused _ (ap (known c) is) in cc
  may_stop (asks.Start n) is stops = tt
  may_stop (asks.Begin t) is stops = tt
  may_stop (asks.Get t key) is stops = tt
  may_stop (asks.Put t key value) is stops = tt
  may_stop (asks.Append t key bytes) is stops = tt
  may_stop (asks.Del t key) is stops = tt
  may_stop (asks.Commit t) is stops = tt
  may_stop (asks.Abort t) is stops = tt
  may_stop (asks.Flush n) is stops = tt
  may_stop (asks.Stat n) is stops = told_of_node n is (no_node c n) refl
    where
      told : (node : Node) → says_stop (state_of node) ≡ false
      told Idle = refl
      told (Up d seats) = refl
      told Down = refl

      told_of_node : (n : NodeId) → command ≡ asks.Stat n → (o : Option Reply) → no_node c n ≡ o → ⊥
      told_of_node n is None so =
          let node : Node = node_at next.nodes n.0 in
          let says : reply ≡ state_of node = subst (λ k. IsAnswer c next k reply) is (answer (ap (known c) is ∙ so)) in
          let never : true ≡ false = sym stops ∙ ap says_stop says ∙ told node in cc
      told_of_node n is (Some why) so = none_stops (nat_lt c.shape.nodes n.0) so (refused why (ap (known c) is ∙ so))
        where
          none_stops : (b : Bool) → where_so b (says.NoNode n) ≡ Some why → reply ≡ why → ⊥
          none_stops true so same = let which : says.NoNode n ≡ why = cc in let never : true ≡ false = sym stops ∙ ap says_stop (same ∙ sym which) in cc
          none_stops false so same = cc
  may_stop (asks.Dump n) is stops = no_dump n is
  may_stop asks.Bad is stops = let e = refused _ (ap (known c) is) in cc

  while_stopped : (asked : Command) → command ≡ asked → AnswersStopped asked reply
  while_stopped (asks.Format s) is = refused _ (ap (known c) is)
  while_stopped (asks.Start n) is = tt
  while_stopped (asks.Begin t) is = tt
  while_stopped (asks.Get t key) is = tt
  while_stopped (asks.Put t key value) is = tt
  while_stopped (asks.Append t key bytes) is = tt
  while_stopped (asks.Del t key) is = tt
  while_stopped (asks.Commit t) is = tt
  while_stopped (asks.Abort t) is = tt
  while_stopped (asks.Flush n) is = tt
  while_stopped (asks.Stat n) is = tt
  while_stopped (asks.Dump n) is = no_dump n is
  while_stopped asks.Bad is = refused _ (ap (known c) is)

  while_open : (m : Machine) → IsShown c old.block m → (stops : Bool) → says_stop reply ≡ stops → AnswersOpen stops m command reply (Shows (Open next) new)
  while_open m shown true is = (may_stop command refl is, tt)
  while_open m shown false is = step is m shown

  pub open_answers : (disk vault : ℕ) (state : StoreState) → Shows (Open c) old state → AnsweredOnce disk vault state command reply (Shows (Open next) new)
  open_answers disk vault (shut seal) shows = absurd shows
  open_answers disk vault (opened m) shows = while_open m shows (says_stop reply) refl
  open_answers disk vault stopped shows = (while_stopped command refl, tt)

-- ---- why

-- the port of a node whose count rose is one of the disk
pub open_cause : (reply : Reply) (disk disk' vault vault' : DiskState) → nodes_ports.HasCause reply disk disk' → HasCause reply (both disk vault) (both disk' vault')
open_cause (says.Stopped n) disk disk' vault vault' cause = inl cause
open_cause (says.Fault n) disk disk' vault vault' cause = inl cause
open_cause reply disk disk' vault vault' cause = tt

pub row_cause : (reply : Reply) (disk disk' vault vault' : DiskState) → (reply ≢ says.NoMore → nodes_ports.HasCause reply disk disk') → HasCause reply (both disk vault) (both disk' vault')
row_cause (says.Stopped n) disk disk' vault vault' cause = inl (cause (λ is. cc))
row_cause (says.Fault n) disk disk' vault vault' cause = inl (cause (λ is. cc))
row_cause reply disk disk' vault vault' cause = tt

-- ---- the next record

-- the reply is no row, nor that there is no further one
abbrev pub IsNoRow : Reply → Type 0
IsNoRow (says.Row key value) = ⊥
IsNoRow says.NoMore = ⊥
IsNoRow reply = ⊤

-- the first reason of a list is none of these, where none of its reasons is
first_no_row : (o : Option Reply) (more : List (Option Reply)) → IfSome o IsNoRow → IfSome (first_of more) IsNoRow → IfSome (first_of (o ∷ more)) IsNoRow
first_no_row None more one rest = rest
first_no_row (Some why) more one rest = one

where_no_row : (b : Bool) (why : Reply) → IsNoRow why → IfSome (where_so b why) IsNoRow
where_no_row true why none = none
where_no_row false why none = tt

named_no_row : {A : Type 0} (o : Option A) (says : A → Reply) → ((x : A) → IsNoRow (says x)) → IfSome (option_map says o) IsNoRow
named_no_row None says none = tt
named_no_row (Some x) says none = none x

-- the tables are lost, or they aren't
reopening_no_row : {A : Type 0} (lost : Bool) (down : Option A) (says : A → Reply) → ((x : A) → IsNoRow (says x)) → IfSome (if lost then option_map says down else None) IsNoRow
reopening_no_row true down says none = named_no_row down says none
reopening_no_row false down says none = tt

-- the reasons for which a dump is refused
dump_no_row : (none down : Bool) (n : NodeId) (locked : Option TxnId) (reopening : Option Reply) → IfSome reopening IsNoRow → IfSome (first_of (where_so none (says.NoNode n) ∷ where_so down (says.NotUp n) ∷ option_map says.Busy locked ∷ reopening ∷ [])) IsNoRow
dump_no_row none down n locked reopening is =
    first_no_row (where_so none (says.NoNode n)) (where_so down (says.NotUp n) ∷ option_map says.Busy locked ∷ reopening ∷ []) (where_no_row none (says.NoNode n) tt)
    (first_no_row (where_so down (says.NotUp n)) (option_map says.Busy locked ∷ reopening ∷ []) (where_no_row down (says.NotUp n) tt)
    (first_no_row (option_map says.Busy locked) (reopening ∷ []) (named_no_row locked says.Busy (λ t. tt)) (first_no_row reopening [] is tt)))

known_no_row : (c : nodes.Store) (n : NodeId) (why : Reply) → known c (asks.Dump n) ≡ Some why → IsNoRow why
known_no_row c n why is = subst (λ o. IfSome o IsNoRow) is (dump_no_row (nat_lt c.shape.nodes n.0) _ n _ (reopening c) (reopening_no_row c.shared.reopening (first_down c) says.Reopening (λ h. tt)))

pub refusal_no_row : (m : Machine) (n : NodeId) (why : Reply) → refused_for m (asks.Dump n) ≡ Some why → IsNoRow why
refusal_no_row m n why is = subst (λ o. IfSome o IsNoRow) is (dump_no_row (nat_lt m.shape.nodes n.0) _ n _ (machine.reopening m) (reopening_no_row m.reopening _ (λ h. says.Reopening (record { 0 = h })) (λ h. tt)))

-- an open store was asked for the next record of a dump
pub open_rising : (c next : nodes.Store) (n : NodeId) (first : ℕ) (reply : Reply) → ((why : Reply) → known c (asks.Dump n) ≡ Some why → reply ≡ why) → (known c (asks.Dump n) ≡ None → IsRowAnswer c next n.0 first reply) → IsRowFrom first reply
open_rising c next n first reply refused answer = by (known c (asks.Dump n)) refl
  where
    no_key : (why : Reply) → IsNoRow why → IsRowFrom first why
    no_key (says.Row key value) none = absurd none
    no_key why none = tt

    key_from : (reply : Reply) → IsRowAnswer c next n.0 first reply → IsRowFrom first reply
    key_from (says.Row key value) is = is.0
    key_from reply is = tt

    by : (o : Option Reply) → known c (asks.Dump n) ≡ o → IsRowFrom first reply
    by None is = key_from reply (answer is)
    by (Some why) is = subst (IsRowFrom first) (sym (refused why is)) (no_key why (known_no_row c n why is))

pub open_next : (c next : nodes.Store) (n : NodeId) (first : ℕ) (reply : Reply) (old new : DiskState) → (says_stop reply ≡ false → (m : Machine) → IsShown c old.block m → RowOrStop m n first reply (IsShown next new.block))
    → (state : StoreState) → Shows (Open c) old state → NextAnswered state n first reply (Shows (Open next) new)
open_next c next n first reply old new step (shut seal) shows = absurd shows
open_next c next n first reply old new step (opened m) shows = by (says_stop reply) refl
  where
    by : (stops : Bool) → says_stop reply ≡ stops → NextOpen stops m n first reply (Shows (Open next) new)
    by true is = tt
    by false is = step is m shows
open_next c next n first reply old new step stopped shows = tt

-- a closed store was asked for it
pub closed_next : (d : DiskState) (n : NodeId) (first : ℕ) (state : StoreState) → Shows Closed d state → NextAnswered state n first says.Closed (Shows Closed d)
closed_next d n first (shut seal) shows = (refl, shows)
closed_next d n first (opened m) shows = absurd shows
closed_next d n first stopped shows = absurd shows

-- ---- the end

-- a store that was closed has left what it showed
pub open_leaves : (c : nodes.Store) (old new : DiskState) (state : StoreState) → Shows (Open c) old state → ComesToRest old.block new.block → Leaves new state
open_leaves c old new (shut seal) shows rest = absurd shows
open_leaves c old new (opened m) shows rest = record { store = c; before = old.block; shown = shows; rest = rest }
open_leaves c old new stopped shows rest = tt

pub closed_leaves : (d : DiskState) (state : StoreState) → Shows Closed d state → Leaves d state
closed_leaves d (shut seal) shows = shows
closed_leaves d (opened m) shows = absurd shows
closed_leaves d stopped shows = absurd shows
