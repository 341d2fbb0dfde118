-- What the machine does where a node takes one page.
use Rattle.std.specs.Prelude.{◌≡◌, ◌∷◌, [], ℕ, true, false, Option, Some, None, Result, Ok, Err, IfErr, IfSome, IsOk, OnOk, refl}
use Rattle.std.proofs.Common.{sym, ◌∙◌}
use Rattle.script_text.specs.declared.reply.Reply.{Reply}
use Rattle.record_machine.specs.Machine.{Machine}
use Rattle.record_machine.specs.Parts.{Take, one}
use Rattle.record_machine.specs.Steps.{held_page}
use Rattle.store_nodes.specs.Ports.{UnlessStop, says_stop}
use Rattle.store_commands.specs.Taking.{UnlessHeld}
use Rattle.store_commands.proofs.Stopping.{unless_failed}
use Rattle.store_commands.proofs.Taken.{free_one, held_one, is_free, is_held, none_taken}

pub page_step : (m : Machine) (x n : ℕ) (o : Option Reply) (r : Result (Unit {0}) Reply) (S : Machine → Type 0) → held_page m x ≡ o → IfSome o (λ why. (r ≡ Err why) × S m) → (o ≡ None → IfErr r (λ why. says_stop why ≡ true)) → OnOk r (S (one (Take x n) m))
    → UnlessStop r (UnlessHeld m (Take x n ∷ []) r S (IsOk r × S (one (Take x n) m)))
page_step m x n (Some why) r S is held stopped shows = unless_failed r why held.0 (λ runs. is_held _ m (Take x n ∷ []) r S why (held_one m x n [] why is) held.0 (none_taken m (Take x n ∷ []) S held.1))
page_step m x n None r S is held stopped shows = by r (stopped refl) shows
  where
    by : (r : Result (Unit {0}) Reply) → IfErr r (λ why. says_stop why ≡ true) → OnOk r (S (one (Take x n) m)) → UnlessStop r (UnlessHeld m (Take x n ∷ []) r S (IsOk r × S (one (Take x n) m)))
    by (Ok done) stops shown = is_free m (Take x n ∷ []) (Ok done) S (free_one m x n is) (refl, shown)
    by (Err why) stops shown = λ runs. let never : true ≡ false = sym stops ∙ runs in absurd cc

-- what follows of a value, if there is one
pub some_then : {A : Type 0} (o : Option A) (P Q : A → Type 0) → IfSome o P → ((a : A) → P a → Q a) → IfSome o Q
some_then None P Q p then = tt
some_then (Some a) P Q p then = then a p
