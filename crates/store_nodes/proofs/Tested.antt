-- Tests that a command has to pass, in their order.
use Rattle.std.specs.Prelude.{◌≡◌, ◌++◌, ◌∷◌, [], List, Option, Some, None, Ok, Err, refl}
use Rattle.script_text.specs.declared.reply.Reply.{Reply}
use Rattle.record_machine.specs.Commands.{first_of}
use Rattle.store_nodes.specs.Known.{checked}

-- where these are passed, the tests that are left decide
pub decided : (os ds : List (Option Reply)) → checked (first_of os) ≡ Ok tt → checked (first_of (os ++ ds)) ≡ checked (first_of ds)
decided [] ds passed = refl
decided (None ∷ os) ds passed = decided os ds passed
decided (Some why ∷ os) ds passed = cc

-- where one of these fails, those behind it say nothing
pub refused : (os ds : List (Option Reply)) (why : Reply) → checked (first_of os) ≡ Err why → checked (first_of (os ++ ds)) ≡ Err why
refused [] ds why fails = cc
refused (None ∷ os) ds why fails = refused os ds why fails
refused (Some first ∷ os) ds why fails = fails

-- the last test alone
pub last : (o : Option Reply) → checked (first_of (o ∷ [])) ≡ checked o
last None = refl
last (Some why) = refl
