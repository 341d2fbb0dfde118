-- What is answered where the pages of a group are taken: the map page, and then the group's page if it has one.
use Rattle.std.specs.Prelude.{◌≡◌, ◌≢◌, ◌∷◌, [], ℕ, List, Option, Some, None, Result, Ok, Err, IsOk, refl}
use Rattle.std.proofs.Common.{ap, subst, sym, ◌∙◌}
use Rattle.sd_base.specs.Places.{map_of_key}
use Rattle.script_text.specs.declared.reply.Reply.{Reply}
use Rattle.record_machine.specs.Commands.{first_of, takes_both}
use Rattle.record_machine.specs.Machine.{Machine}
use Rattle.record_machine.specs.Parts.{Part, Take, dos, one}
use Rattle.record_machine.specs.Steps.{held, held_page}
use Rattle.store_nodes.specs.Ports.{UnlessStop}
use Rattle.store_commands.specs.Taking.{HasSome, UnlessHeld}
use Rattle.store_commands.proofs.BothTaken.{err_held, second_taken}
use Rattle.store_commands.proofs.Stopping.{unless_err, unless_failed, unless_ok}
use Rattle.store_commands.proofs.Taken.{is_free, is_held, more_taken}
use Rattle.store_commands.proofs.Testing.{never}

-- a page that is held is so with more behind it, and one that isn't by itself
held_more : (m : Machine) (x n : ℕ) (ps : List Part) (why : Reply) → held m (Take x n ∷ []) ≡ Some why → held m (Take x n ∷ ps) ≡ Some why
held_more m x n ps why is = by (held_page m x) is
  where
    by : (o : Option Reply) → first_of (o ∷ None ∷ []) ≡ Some why → first_of (o ∷ held m ps ∷ []) ≡ Some why
    by None is = cc
    by (Some other) is = is

pub free_page : (m : Machine) (x n : ℕ) → held m (Take x n ∷ []) ≡ None → held_page m x ≡ None
free_page m x n is = by (held_page m x) is
  where
    by : (o : Option Reply) → first_of (o ∷ None ∷ []) ≡ None → o ≡ None
    by None is = refl
    by (Some other) is = cc

-- an error is passed on
same_error : {T U : Type 0} (r : Result T Reply) (r' : Result U Reply) (why other : Reply) → r ≡ Err why → r' ≡ Err why → r ≡ Err other → r' ≡ Err other
same_error {T} r r' why other fails out is = let both : ◌≡◌ {A = Result T Reply} (Err why) (Err other) = sym fails ∙ is in let same : why ≡ other = cc in out ∙ ap Err same

is_done : {T : Type 0} (r : Result T Reply) (value : T) → r ≡ Ok value → IsOk r
is_done (Ok other) value is = refl
is_done (Err why) value is = cc

module _ (m : Machine) (n key map : ℕ) (at : map ≡ map_of_key m.shape key) where
  -- the map page couldn't be taken
  pub first_failed : {T U : Type 0} (P Q : Type 0) (o : Option ℕ) (r : Result T Reply) (r' : Result U Reply) (why : Reply) (S : Machine → Type 0) → r ≡ Err why → r' ≡ Err why → UnlessStop r (UnlessHeld m (Take map n ∷ []) r S (IsOk r × P)) → UnlessStop r' (UnlessHeld m (takes_both m n key o) r' S Q)
  first_failed P Q o r r' why S fails out was = unless_failed r' why out (λ runs. by o (err_held m (Take map n ∷ []) r why S fails (λ p. never r why p.0 fails) (unless_err r why fails runs was)))
    where
      more : (ps : List Part) → (held m (Take map n ∷ []) ≡ Some why) × HasSome m (Take map n ∷ []) S → UnlessHeld m (Take (map_of_key m.shape key) n ∷ ps) r' S Q
      more ps some = subst (λ k. UnlessHeld m (Take k n ∷ ps) r' S Q) at (is_held Q m (Take map n ∷ ps) r' S why (held_more m map n ps why some.0) out (more_taken m map n ps S some.1))

      by : (o : Option ℕ) → (held m (Take map n ∷ []) ≡ Some why) × HasSome m (Take map n ∷ []) S → UnlessHeld m (takes_both m n key o) r' S Q
      by None some = more [] some
      by (Some x) some = more (Take x n ∷ []) some

  -- it was taken, and the group has no page
  pub first_done : {U : Type 0} (r' : Result U Reply) (S : Machine → Type 0) → held m (Take map n ∷ []) ≡ None → IsOk r' → S (one (Take map n) m) → UnlessHeld m (takes_both m n key None) r' S (IsOk r' × S (dos (takes_both m n key None) m))
  first_done r' S free ok shown = subst (λ k. UnlessHeld m (Take k n ∷ []) r' S (IsOk r' × S (one (Take k n) m))) at (is_free m (Take map n ∷ []) r' S free (ok, shown))

  -- the group's page couldn't be
  pub second_failed : {T U : Type 0} (P Q : Type 0) (x : ℕ) (r : Result T Reply) (r' : Result U Reply) (why : Reply) (S : Machine → Type 0) → x ≢ map → held m (Take map n ∷ []) ≡ None → r ≡ Err why → r' ≡ Err why
      → UnlessStop r (UnlessHeld (one (Take map n) m) (Take x n ∷ []) r S (IsOk r × P)) → UnlessStop r' (UnlessHeld m (takes_both m n key (Some x)) r' S Q)
  second_failed P Q x r r' why S far free fails out was = unless_failed r' why out (λ runs.
      subst (λ k. UnlessHeld m (Take k n ∷ Take x n ∷ []) r' S Q) at
      (second_taken m map n x far r r' S (free_page m map n free) (λ other is. same_error r r' why other fails out is) (λ p. absurd (never r why p.0 fails)) (unless_err r why fails runs was)))

  -- both were taken
  pub both_done : {T U : Type 0} (x : ℕ) (r : Result T Reply) (value : T) (r' : Result U Reply) (S : Machine → Type 0) → x ≢ map → held m (Take map n ∷ []) ≡ None → r ≡ Ok value → IsOk r'
      → UnlessStop r (UnlessHeld (one (Take map n) m) (Take x n ∷ []) r S (IsOk r × S (one (Take x n) (one (Take map n) m)))) → UnlessHeld m (takes_both m n key (Some x)) r' S (IsOk r' × S (dos (takes_both m n key (Some x)) m))
  both_done x r value r' S far free done ok was =
      subst (λ k. UnlessHeld m (Take k n ∷ Take x n ∷ []) r' S (IsOk r' × S (one (Take x n) (one (Take k n) m)))) at
      (second_taken m map n x far r r' S (free_page m map n free) (λ other is. absurd (never r other (is_done r value done) is)) (λ p. (ok, p.1)) (unless_ok r value done was))
