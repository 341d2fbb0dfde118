-- Tests that a command has to pass, and what follows of what a call answered.
use Rattle.std.specs.Prelude.{◌≡◌, ◌∷◌, List, Option, Some, None, Result, Ok, Err, IfErr, IsOk, OnOk, refl}
use Rattle.std.specs.Result.{IsErrAnd}
use Rattle.std.proofs.Common.{ap, sym, ◌∙◌}
use Rattle.script_text.specs.declared.reply.Reply.{Reply}
use Rattle.record_machine.specs.Commands.{first_of}
use Rattle.store_nodes.specs.Known.{checked}
use Rattle.store_commands.specs.Answering.{Answers}

-- no test fails
pub passed : (o : Option Reply) → checked o ≡ Ok tt → o ≡ None
passed None is = refl
passed (Some why) is = cc

-- the refusal of a test that failed
pub test_of : (o : Option Reply) (r : Result (Unit {0}) Reply) (why : Reply) → r ≡ checked o → r ≡ Err why → o ≡ Some why
test_of o r why tests is = by o (sym tests ∙ is)
  where
    err_is : (a b : Reply) → ◌≡◌ {A = Result (Unit {0}) Reply} (Err a) (Err b) → a ≡ b
    err_is a b is = cc

    by : (o : Option Reply) → checked o ≡ Err why → o ≡ Some why
    by None is = cc
    by (Some other) is = ap Some (err_is other why is)

-- what holds of an error that is passed on
pub passed_on : {T : Type 0} (r : Result T Reply) (P Q : Reply → Type 0) → IsErrAnd r P → ((why : Reply) → P why → Q why) → IfErr r Q
passed_on (Ok x) P Q is then = tt
passed_on (Err why) P Q is then = then why is

-- and what follows of one, and of a call that was done
pub error_then : {T : Type 0} (r : Result T Reply) (P Q : Reply → Type 0) → IfErr r P → ((why : Reply) → P why → Q why) → IfErr r Q
error_then (Ok x) P Q p then = tt
error_then (Err why) P Q p then = then why p

pub on_done : {T E : Type 0} {P Q : Type 0} (r : Result T E) → OnOk r P → (P → Q) → OnOk r Q
on_done (Ok x) p then = then p
on_done (Err why) p then = tt

pub of_done : {P : Type 0} (r : Result (Unit {0}) Reply) → r ≡ Ok tt → OnOk r P → P
of_done (Ok x) is p = p
of_done (Err why) is p = cc

-- the error that was passed on
pub the_error : {T : Type 0} (r : Result T Reply) (P : Reply → Type 0) → IsErrAnd r P → (why : Reply) × (r ≡ Err why) × P why
the_error (Ok x) P is = absurd is
the_error (Err why) P is = (why, refl, is)

-- what was done didn't fail
pub never : {T E : Type 0} (r : Result T E) (e : E) → IsOk r → r ≡ Err e → ⊥
never (Ok x) e done failed = cc
never (Err f) e done failed = cc

-- ---- answers

-- it was refused by a test, or passed the tests and was done
pub failed : {S : Type 0} (D : Type 0) (o : Option Reply) (r : Result (Unit {0}) Reply) (why : Reply) → checked o ≡ Err why → r ≡ Err why → S → Answers o r D S
failed D None r why is out stayed = cc
failed D (Some other) r why is out stayed = let same : other ≡ why = cc in (out ∙ ap Err (sym same), stayed)

pub was_done : {D : Type 0} (S : Type 0) (o : Option Reply) (r : Result (Unit {0}) Reply) → checked o ≡ Ok tt → r ≡ Ok tt → D → Answers o r D S
was_done S None r is out done = (out, done)
was_done S (Some why) r is out done = cc

-- the first refusal behind a test, by the first one of what follows
pub first_behind : (o : Option Reply) (os ps : List (Option Reply)) → first_of os ≡ first_of ps → first_of (o ∷ os) ≡ first_of (o ∷ ps)
first_behind None os ps same = same
first_behind (Some why) os ps same = refl
