-- What a command does is a step of the machine, where no node stops in it.
use Rattle.std.specs.Prelude.{◌≡◌, ◌∷◌, ◌≤◌, [], ℕ, Bool, true, false, List, Option, Some, None, Result, Ok, Err, IfErr, IfOk, IsOk, OnOk, is_some, refl}
use Rattle.std.proofs.Common.{ap, subst, sym, ◌∙◌}
use Rattle.sd_base.specs.declared.device.NodeId.{NodeId}
use Rattle.sd_base.specs.declared.names.Key.{Key}
use Rattle.sd_base.specs.declared.names.TxnId.{TxnId}
use Rattle.script_text.specs.declared.command.Command.{Command}
use Rattle.script_text.specs.declared.command.Command.TheVariants as asks
use Rattle.script_text.specs.declared.reply.Reply.{Reply}
use Rattle.script_text.specs.declared.reply.Reply.TheVariants as says
use Rattle.record_machine.specs.Commands.{MayAnswer, TellsFlush, deleted, first_of, takes}
use Rattle.record_machine.specs.Led.{Broke, Led}
use Rattle.record_machine.specs.Machine.{Machine}
use Rattle.record_machine.specs.Parts.{Part, dos}
use Rattle.record_machine.specs.Steps.{NextOrStop, RowOrStop, StaysAs, StepOrStop, held, met, met_held, parts_of, refused_for, worker}
use Rattle.record_machine.specs.Steps as when
use Rattle.store_nodes.specs.Ports.{UnlessStop, says_stop}
use Rattle.store_commands.specs.Answering.{Answers, AnswersWith, reply_deleted, reply_found, reply_of}
use Rattle.store_commands.specs.Taking.{UnlessHeld, WhereHeld}
use Rattle.cluster_core.proofs.WhenMet.{held_met, held_says}

-- a reply that says of no node that it stopped, of no page that it is lost, and not that there is no more
abbrev pub is_plain : Reply → Bool
is_plain (says.Stopped n) = false
is_plain (says.Fault n) = false
is_plain (says.LostPage x) = false
is_plain says.NoMore = false
is_plain reply = true

-- ---- a step, by what the machine refuses

pub refused_step : (m : Machine) (c : Command) (why : Reply) (S : Machine → Type 0) → is_plain why ≡ true → refused_for m c ≡ Some why → StaysAs m c why S → StepOrStop m c why S
refused_step m c (says.Stopped n) S plain is stays = cc
refused_step m c (says.Fault n) S plain is stays = cc
refused_step m c (says.LostPage x) S plain is stays = cc
refused_step m c why S plain is stays = rw is (refl, stays)

pub done_step : (m : Machine) (c : Command) (r : Reply) (S : Machine → Type 0) → is_plain r ≡ true → refused_for m c ≡ None → MayAnswer m c r → S (dos (parts_of m c) m) → StepOrStop m c r S
done_step m c (says.Stopped n) S plain is may after = cc
done_step m c (says.Fault n) S plain is may after = cc
done_step m c (says.LostPage x) S plain is may after = cc
done_step m c r S plain is may after = rw is (may, after)

-- what is met behind the pages is plain
late_plain : (c : Command) (why : Reply) → met c why ≡ when.Behind → is_plain why ≡ true
late_plain c (says.Stopped n) is = cc
late_plain c (says.Fault n) is = cc
late_plain c (says.LostPage x) is = cc
late_plain c says.NoMore is = cc
late_plain c why is = refl

-- and so is a page that is held
held_plain : (m : Machine) (ps : List Part) (why : Reply) → held m ps ≡ Some why → is_plain why ≡ true
held_plain m ps why is = held_says (λ r. is_plain r ≡ true) (λ x h. refl) m ps why is

-- ---- a command that takes pages

-- a node that is down holds one of them, or none does
pub taken_step : {T : Type 0} (P : Type 0) (m : Machine) (c : Command) (more : List (Option Reply)) (say : Result T Reply → Reply) (r : Result T Reply) (S : Machine → Type 0)
    → ((why : Reply) → say (Err why) ≡ why) → met_held c ≡ when.Taking → refused_for m c ≡ first_of (held m (takes m c) ∷ more) → UnlessHeld m (takes m c) r S P → (refused_for m c ≡ first_of more → P → StepOrStop m c (say r) S) → StepOrStop m c (say r) S
taken_step {T} P m c more say r S err as_taken is was next = by (held m (takes m c)) refl was
  where
    by : (o : Option Reply) → held m (takes m c) ≡ o → WhereHeld o m (takes m c) r S P → StepOrStop m c (say r) S
    by None free p = next (is ∙ ap (λ o. first_of (o ∷ more)) free) p
    by (Some why) page some =
        let taking : met c why ≡ when.Taking = held_met m c (takes m c) why page ∙ as_taken in
        let stays : StaysAs m c why S = rw taking (record { count = some.1.count; free = some.1.free; after = some.1.after }) in
        subst (λ k. StepOrStop m c k S) (sym (ap say some.0 ∙ err why)) (refused_step m c why S (held_plain m (takes m c) why page) (is ∙ ap (λ o. first_of (o ∷ more)) page) stays)

-- it is refused behind them, or done
pub answered_step : {T : Type 0} (m : Machine) (c : Command) (value : T) (say : Result T Reply → Reply) (o : Option Reply) (r : Result T Reply) (S : Machine → Type 0)
    → ((why : Reply) → say (Err why) ≡ why) → ((why : Reply) → o ≡ Some why → met c why ≡ when.Behind) → is_plain (say (Ok value)) ≡ true → MayAnswer m c (say (Ok value)) → refused_for m c ≡ first_of (o ∷ [])
    → AnswersWith value o r (S (dos (parts_of m c) m)) (S (dos (takes m c) m)) → StepOrStop m c (say r) S
answered_step m c value say None r S err late plain may is done = subst (λ k. StepOrStop m c (say k) S) (sym done.0) (done_step m c (say (Ok value)) S plain is may done.1)
answered_step m c value say (Some why) r S err late plain may is stayed =
    let behind : met c why ≡ when.Behind = late why refl in
    let stays : StaysAs m c why S = rw behind stayed.1 in
    subst (λ k. StepOrStop m c k S) (sym (ap say stayed.0 ∙ err why)) (refused_step m c why S (late_plain c why behind) is stays)

-- what holds unless a node stopped, where the reply says of none that it did
pub where_runs : {T P : Type 0} (say : Result T Reply → Reply) (r : Result T Reply) → ((why : Reply) → say (Err why) ≡ why) → UnlessStop r P → says_stop (say r) ≡ false → P
where_runs say (Ok value) err p runs = p
where_runs say (Err why) err p runs = p (ap says_stop (sym (err why)) ∙ runs)

-- a record is read
pub found_step : (m : Machine) (t : TxnId) (key : Key) (r : Result (Option (List ℕ)) Reply) (S : Machine → Type 0) → refused_for m (asks.Get t key) ≡ None → IsOk r → OnOk r (MayAnswer m (asks.Get t key) (reply_found r)) → S (dos (parts_of m (asks.Get t key)) m)
    → StepOrStop m (asks.Get t key) (reply_found r) S
found_step m t key (Ok None) S none ok may after = done_step m (asks.Get t key) says.Absent S refl none may after
found_step m t key (Ok (Some value)) S none ok may after = done_step m (asks.Get t key) (says.Found value) S refl none may after
found_step m t key (Err why) S none ok may after = cc

-- a transaction is taken back, or a page is held, which is tested before one is taken
pub back_step : (m : Machine) (t : TxnId) (r : Result (Unit {0}) Reply) (S : Machine → Type 0) → refused_for m (asks.Abort t) ≡ first_of (held m (takes m (asks.Abort t)) ∷ [])
    → Answers (held m (takes m (asks.Abort t))) r (S (dos (parts_of m (asks.Abort t)) m)) (S m) → StepOrStop m (asks.Abort t) (reply_of r) S
back_step m t r S is was = by (held m (takes m (asks.Abort t))) refl was
  where
    by : (o : Option Reply) → held m (takes m (asks.Abort t)) ≡ o → Answers o r (S (dos (parts_of m (asks.Abort t)) m)) (S m) → StepOrStop m (asks.Abort t) (reply_of r) S
    by None free all = subst (λ k. StepOrStop m (asks.Abort t) (reply_of k) S) (sym all.0) (done_step m (asks.Abort t) says.Fine S refl (is ∙ ap (λ o. first_of (o ∷ [])) free) refl all.1)
    by (Some why) page all =
        let ahead : met (asks.Abort t) why ≡ when.Ahead = held_met m (asks.Abort t) (takes m (asks.Abort t)) why page in
        let stays : StaysAs m (asks.Abort t) why S = rw ahead all.1 in
        subst (λ k. StepOrStop m (asks.Abort t) (reply_of k) S) (sym all.0) (refused_step m (asks.Abort t) why S (held_plain m (takes m (asks.Abort t)) why page) (is ∙ ap (λ o. first_of (o ∷ [])) page) stays)

-- ---- a command that may fail by a stop alone

-- it was done
pub done_call : {T : Type 0} (m : Machine) (c : Command) (say : Result T Reply → Reply) (r : Result T Reply) (S : Machine → Type 0) → ((why : Reply) → say (Err why) ≡ why) → refused_for m c ≡ None → IfErr r (λ why. says_stop why ≡ true) → says_stop (say r) ≡ false
    → IfOk r (λ value. is_plain (say (Ok value)) ≡ true) → IfOk r (λ value. MayAnswer m c (say (Ok value))) → OnOk r (S (dos (parts_of m c) m)) → StepOrStop m c (say r) S
done_call m c say (Ok value) S err is stops runs plain may after = done_step m c (say (Ok value)) S plain is may after
done_call m c say (Err why) S err is stops runs plain may after = let never : true ≡ false = sym stops ∙ ap says_stop (sym (err why)) ∙ runs in cc

-- or its node stopped in it
pub led_call : {T : Type 0} (n : ℕ) (m : Machine) (c : Command) (say : Result T Reply → Reply) (r : Result T Reply) (S : Machine → Type 0) → ((why : Reply) → say (Err why) ≡ why) → worker c ≡ n → refused_for m c ≡ None
    → IfOk r (λ value. is_plain (say (Ok value)) ≡ true) → IfOk r (λ value. MayAnswer m c (say (Ok value))) → Led n r (parts_of m c) m S → StepOrStop m c (say r) S
led_call n m c say (Ok value) S err at is plain may led = done_step m c (say (Ok value)) S plain is may led
led_call n m c say (Err (says.Stopped h)) S err at is plain may led = subst (λ k. StepOrStop m c k S) (sym (err (says.Stopped h))) (rw is (subst (λ j. Broke j h.0 (parts_of m c) m S) (sym at) led))
led_call n m c say (Err (says.Fault h)) S err at is plain may led = subst (λ k. StepOrStop m c k S) (sym (err (says.Fault h))) (rw is (subst (λ j. Broke j h.0 (parts_of m c) m S) (sym at) led))
led_call n m c say (Err why) S err at is plain may led = absurd led

pub all_ok : {T E : Type 0} (r : Result T E) (P : T → Type 0) → ((value : T) → P value) → IfOk r P
all_ok (Ok value) P all = all value
all_ok (Err why) P all = tt

-- whether a record was deleted
pub deleted_is : (v : Option (List ℕ)) → reply_deleted (Ok (is_some v)) ≡ deleted v
deleted_is None = refl
deleted_is (Some value) = refl

pub deleted_plain : (v : Option (List ℕ)) → is_plain (reply_deleted (Ok (is_some v))) ≡ true
deleted_plain None = refl
deleted_plain (Some value) = refl

-- ---- a row of a dump

pub refused_row : (m : Machine) (n : NodeId) (first : ℕ) (why : Reply) (S : Machine → Type 0) → refused_for m (asks.Dump n) ≡ Some why → S m → RowOrStop m n first why S
refused_row m n first why S is shown = rw is (refl, shown)

pub next_row : (m : Machine) (n : NodeId) (first : ℕ) (r : Reply) (S : Machine → Type 0) → refused_for m (asks.Dump n) ≡ None → NextOrStop m n first r S → RowOrStop m n first r S
next_row m n first r S is next = rw is next
