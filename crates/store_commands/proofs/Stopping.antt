-- What holds of a call unless a node stopped in it, for the call that makes it.
use Rattle.std.specs.Prelude.{◌≡◌, ℕ, true, false, List, None, Result, Ok, Err, IfErr, IsOk, refl}
use Rattle.std.proofs.Common.{ap, sym, ◌∙◌}
use Rattle.script_text.specs.declared.reply.Reply.{Reply}
use Rattle.record_machine.specs.Machine.{Machine}
use Rattle.record_machine.specs.Parts.{Part}
use Rattle.record_machine.specs.Steps.{held}
use Rattle.store_nodes.specs.Ports.{IsStopReply, UnlessStop, says_stop}
use Rattle.store_commands.specs.Taking.{UnlessHeld}
use Rattle.store_commands.proofs.BothTaken.{err_held, ok_taken}
use Rattle.store_commands.proofs.Taken.{is_held}
use Rattle.store_commands.proofs.Testing.{never}
use Rattle.store_commands.proofs.Unchanged.{stops}

-- of a call that was done
pub unless_ok : {T : Type 0} {P : Type 0} (r : Result T Reply) (value : T) → r ≡ Ok value → UnlessStop r P → P
unless_ok (Ok other) value is p = p
unless_ok (Err why) value is p = cc

-- of one that failed
pub unless_err : {T : Type 0} {P : Type 0} (r : Result T Reply) (why : Reply) → r ≡ Err why → says_stop why ≡ false → UnlessStop r P → P
unless_err (Ok value) why is runs p = cc
unless_err (Err other) why is runs p = let same : other ≡ why = cc in p (ap says_stop same ∙ runs)

pub unless_failed : {T : Type 0} {P : Type 0} (r : Result T Reply) (why : Reply) → r ≡ Err why → (says_stop why ≡ false → P) → UnlessStop r P
unless_failed (Ok value) why is p = cc
unless_failed (Err other) why is p = let same : other ≡ why = cc in λ runs. p (ap says_stop (sym same) ∙ runs)

pub unless_then : {T : Type 0} {P Q : Type 0} (r : Result T Reply) → (P → Q) → UnlessStop r P → UnlessStop r Q
unless_then (Ok value) then p = then p
unless_then (Err why) then p = λ runs. then (p runs)

-- a page that is held is so for the call above
pub held_on : {T U : Type 0} (P Q : Type 0) (m : Machine) (ps : List Part) (r : Result T Reply) (r' : Result U Reply) (why : Reply) (S : Machine → Type 0) → r ≡ Err why → r' ≡ Err why → UnlessHeld m ps r S (IsOk r × P) → UnlessHeld m ps r' S Q
held_on P Q m ps r r' why S fails out was =
    let some = err_held m ps r why S fails (λ p. never r why p.0 fails) was in
    is_held Q m ps r' S why some.0 out some.1

pub stop_on : {T U : Type 0} (P Q : Type 0) (m : Machine) (ps : List Part) (r : Result T Reply) (r' : Result U Reply) (why : Reply) (S : Machine → Type 0) → r ≡ Err why → r' ≡ Err why → UnlessStop r (UnlessHeld m ps r S (IsOk r × P)) → UnlessStop r' (UnlessHeld m ps r' S Q)
stop_on P Q m ps r r' why S fails out was = unless_failed r' why out (λ runs. held_on P Q m ps r r' why S fails out (unless_err r why fails runs was))

-- what was taken was held by no node that is down
pub done_on : {T : Type 0} {P : Type 0} (m : Machine) (ps : List Part) (r : Result T Reply) (value : T) (S : Machine → Type 0) → r ≡ Ok value → UnlessStop r (UnlessHeld m ps r S (IsOk r × P)) → (held m ps ≡ None) × P
done_on m ps r value S done was = let all = ok_taken m ps r value S done (unless_ok r value done was) in (all.0, all.1.1)

-- a stop of this node alone may be in its way
pub unless_stopped : {P : Type 0} (n : ℕ) (r : Result (Unit {0}) Reply) → IfErr r (IsStopReply n) → (r ≡ Ok tt → P) → UnlessStop r P
unless_stopped n (Ok x) is then = then refl
unless_stopped n (Err why) is then = λ runs. let never : true ≡ false = sym (stops n why is) ∙ runs in absurd cc

-- what an error leaves, for the call that passes it on
pub unless_pass : {T U : Type 0} (P : Type 0) (r : Result T Reply) (r' : Result U Reply) (why : Reply) → r ≡ Err why → r' ≡ Err why → UnlessStop r P → UnlessStop r' P
unless_pass P r r' why fails out p = unless_failed r' why out (λ runs. unless_err r why fails runs p)
