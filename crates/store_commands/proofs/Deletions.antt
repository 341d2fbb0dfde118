-- The answer to a command that deletes a record.
use Rattle.std.specs.Prelude.{◌≡◌, ◌++◌, ◌∷◌, [], ℕ, false, List, Option, Some, None, Result, Ok, Err, is_some, refl}
use Rattle.std.proofs.Common.{ap, subst, sym, ◌∙◌}
use Rattle.sd_base.specs.declared.names.Key.{Key}
use Rattle.sd_base.specs.declared.names.TxnId.{TxnId}
use Rattle.sd_base.specs.Places.{map_of_key}
use Rattle.record_locks.specs.declared.mode.Mode.TheVariants as locks
use Rattle.script_text.specs.declared.command.Command.TheVariants as asks
use Rattle.script_text.specs.declared.reply.Reply.{Reply}
use Rattle.record_machine.specs.Machine.{Machine, home, seen}
use Rattle.record_machine.specs.Parts.{Lock, Take, dos, one}
use Rattle.record_machine.specs.Commands.{first_of, no_deletion, parts, takes, takes_both}
use Rattle.record_machine.specs.Commands as wants
use Rattle.store_commands.specs.Answering.{Answers, AnswersWith}
use Rattle.store_commands.proofs.WriteParts.{once_taken, writes_there}

-- what an error says where another value would have been given
pub answers_err : {T : Type 0} (value : T) (o : Option Reply) (r : Result (Unit {0}) Reply) (r' : Result T Reply) (why : Reply) (D D' S : Type 0) → Answers o r D S → r ≡ Err why → r' ≡ Err why → AnswersWith value o r' D' S
answers_err value None r r' why D D' S was is out = let never : ◌≡◌ {A = Result (Unit {0}) Reply} (Ok tt) (Err why) = sym was.0 ∙ is in cc
answers_err value (Some other) r r' why D D' S was is out = let same : ◌≡◌ {A = Result (Unit {0}) Reply} (Err why) (Err other) = sym is ∙ was.0 in let reply : why ≡ other = cc in (out ∙ ap Err reply, was.1)

-- and where it was done
pub answers_ok : {T : Type 0} (value : T) (o : Option Reply) (r : Result (Unit {0}) Reply) (D S : Type 0) → Answers o r D S → r ≡ Ok tt → AnswersWith value o (Ok value) D S
answers_ok value None r D S was is = (refl, was.1)
answers_ok value (Some why) r D S was is = let never : ◌≡◌ {A = Result (Unit {0}) Reply} (Ok tt) (Err why) = sym is ∙ was.0 in cc

-- a test that passes changes nothing
without_test : (o : Option Reply) (os : List (Option Reply)) → first_of (o ∷ None ∷ os) ≡ first_of (o ∷ os)
without_test None os = refl
without_test (Some why) os = refl

-- a record that is there is deleted from its group's page, once both pages were taken
pub deletes_there : (m : Machine) (t : TxnId) (key : Key) (x : ℕ) (value : List ℕ) (r : Result (Unit {0}) Reply) (S : Machine → Type 0) → home m key.0 ≡ Some x → seen m t key.0 ≡ Some value
    → Answers (first_of (wants.at_limit (once_taken m t key) x ∷ None ∷ wants.no_room (once_taken m t key) t.node 2 ∷ [])) r (S (writes_there t key x None (once_taken m t key))) (S (once_taken m t key))
    → Answers (no_deletion m t key.0) r (S (dos (parts m (asks.Del t key)) m)) (S (dos (takes m (asks.Del t key)) m))
deletes_there m t key x value r S here there was =
    let both : once_taken m t key ≡ taken = ap (λ o. dos (takes_both m t.node.0 key.0 o) m) here in
    let tests : no_deletion m t key.0 ≡ first_of (wants.at_limit m x ∷ wants.no_room m t.node 2 ∷ []) = rw (there, here) refl in
    subst (λ o. Answers o r (S (dos (parts m (asks.Del t key)) m)) (S (dos (takes m (asks.Del t key)) m))) (sym tests)
    (by (first_of (wants.at_limit m x ∷ wants.no_room m t.node 2 ∷ [])) (subst (λ o. Answers o r (S (writes_there t key x None taken)) (S taken)) (without_test (wants.at_limit m x) (wants.no_room m t.node 2 ∷ []))
    (subst (λ k. Answers (first_of (wants.at_limit k x ∷ None ∷ wants.no_room k t.node 2 ∷ [])) r (S (writes_there t key x None k)) (S k)) both was)))
  where
    taken : Machine
    taken = one (Take x t.node.0) (one (Take (map_of_key m.shape key.0) t.node.0) m)

    whole : dos (parts m (asks.Del t key)) m ≡ writes_there t key x None taken
    whole = rw (there, here) refl

    by : (o : Option Reply) → Answers o r (S (writes_there t key x None taken)) (S taken) → Answers o r (S (dos (parts m (asks.Del t key)) m)) (S (dos (takes m (asks.Del t key)) m))
    by None was = (was.0, subst S (sym whole) was.1)
    by (Some why) was = (was.0, rw here was.1)

-- where none is there, the lock alone is taken
pub deletes_none : (m : Machine) (t : TxnId) (key : Key) (S : Machine → Type 0) → seen m t key.0 ≡ None → S (dos (takes_both m t.node.0 key.0 (home m key.0) ++ Lock key t locks.Write ∷ []) m)
    → AnswersWith (is_some (seen m t key.0)) (no_deletion m t key.0) (Ok false) (S (dos (parts m (asks.Del t key)) m)) (S (dos (takes m (asks.Del t key)) m))
deletes_none m t key S none shown = rw none (refl, shown)
