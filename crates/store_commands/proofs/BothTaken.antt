-- The map page of a group is taken, and then a data page: one of them may be held by a node that is down.
use Rattle.std.specs.Prelude.{◌≡◌, ◌≢◌, ◌<◌, ◌∷◌, [], ℕ, zero, suc, List, Option, Some, None, Result, Ok, Err, take, refl}
use Rattle.std.proofs.Common.{arith, ap, subst, sym, ◌∙◌}
use Rattle.sd_base.specs.declared.shape.Shape.{Shape}
use Rattle.sd_base.specs.Places.{page_of_place}
use Rattle.script_text.specs.declared.reply.Reply.{Reply}
use Rattle.record_machine.specs.Commands.{first_of}
use Rattle.record_machine.specs.Machine.{Machine}
use Rattle.record_machine.specs.Parts.{Part, Take, dos, one}
use Rattle.record_machine.specs.Steps.{held, held_page}
use Rattle.store_commands.specs.Taking.{HasSome, UnlessHeld, WhereHeld}
use Rattle.store_commands.proofs.Taken.{free_one, held_behind, held_next, held_one, is_free, is_held, none_taken}

-- ---- what follows of what was answered

-- what was done wasn't held
pub ok_taken : {T : Type 0} {P : Type 0} (m : Machine) (ps : List Part) (r : Result T Reply) (value : T) (S : Machine → Type 0) → r ≡ Ok value → UnlessHeld m ps r S P → (held m ps ≡ None) × P
ok_taken {T} {P} m ps r value S done was = by (held m ps) refl was
  where
    by : (o : Option Reply) → held m ps ≡ o → WhereHeld o m ps r S P → (held m ps ≡ None) × P
    by None is was = (is, was)
    by (Some why) is was = let never : ◌≡◌ {A = Result T Reply} (Ok value) (Err why) = sym done ∙ was.0 in cc

-- what failed was
pub err_held : {T : Type 0} {P : Type 0} (m : Machine) (ps : List Part) (r : Result T Reply) (why : Reply) (S : Machine → Type 0) → r ≡ Err why → (P → ⊥) → UnlessHeld m ps r S P → (held m ps ≡ Some why) × HasSome m ps S
err_held {T} {P} m ps r why S fails not was = by (held m ps) refl was
  where
    by : (o : Option Reply) → held m ps ≡ o → WhereHeld o m ps r S P → (held m ps ≡ Some why) × HasSome m ps S
    by None is was = absurd (not was)
    by (Some other) is was = let both : ◌≡◌ {A = Result T Reply} (Err why) (Err other) = sym fails ∙ was.0 in let same : other ≡ why = cc in (is ∙ ap Some same, was.1)

-- ---- one page behind another

module _ (m : Machine) (map n x : ℕ) (far : x ≢ map) where
  -- who holds the second is as it was
  held_second : held (one (Take map n) m) (Take x n ∷ []) ≡ held m (Take x n ∷ [])
  held_second = ap (λ o. first_of (o ∷ None ∷ [])) (held_behind m map n x far)

  -- some of what comes behind a page that was taken are some of the whole
  some_behind : (S : Machine → Type 0) → held_page m map ≡ None → HasSome (one (Take map n) m) (Take x n ∷ []) S → HasSome m (Take map n ∷ Take x n ∷ []) S
  some_behind S free some = by some.count some.free some.after
    where
      both : held (one (Take map n) m) (Take x n ∷ []) ≡ None → held m (Take map n ∷ Take x n ∷ []) ≡ None
      both none = held_next m map n (Take x n ∷ []) None free (sym held_second ∙ none)

      by : (k : ℕ) → held (one (Take map n) m) (take k (Take x n ∷ [])) ≡ None → S (dos (take k (Take x n ∷ [])) (one (Take map n) m)) → HasSome m (Take map n ∷ Take x n ∷ []) S
      by zero none shown = record { count = 1; free = free_one m map n free; after = shown }
      by (suc zero) none shown = record { count = 2; free = both none; after = shown }
      by (suc (suc k)) none shown = record { count = 2; free = both none; after = shown }

  -- what the second call answered, for both
  pub second_taken : {T U : Type 0} {P Q : Type 0} (r : Result T Reply) (r' : Result U Reply) (S : Machine → Type 0) → held_page m map ≡ None → ((why : Reply) → r ≡ Err why → r' ≡ Err why) → (P → Q)
      → UnlessHeld (one (Take map n) m) (Take x n ∷ []) r S P → UnlessHeld m (Take map n ∷ Take x n ∷ []) r' S Q
  second_taken {T} {U} {P} {Q} r r' S free fails then was = by (held m (Take x n ∷ [])) refl (subst (λ o. WhereHeld o (one (Take map n) m) (Take x n ∷ []) r S P) held_second was)
    where
      by : (o : Option Reply) → held m (Take x n ∷ []) ≡ o → WhereHeld o (one (Take map n) m) (Take x n ∷ []) r S P → UnlessHeld m (Take map n ∷ Take x n ∷ []) r' S Q
      by None is was = is_free m (Take map n ∷ Take x n ∷ []) r' S (held_next m map n (Take x n ∷ []) None free is) (then was)
      by (Some why) is was = is_held Q m (Take map n ∷ Take x n ∷ []) r' S why (held_next m map n (Take x n ∷ []) (Some why) free is) (fails why was.0) (some_behind S free was.1)

  -- what the first call answered, which failed
  pub first_held : {T : Type 0} (P : Type 0) (r : Result T Reply) (why : Reply) (ps : List Part) (S : Machine → Type 0) → held_page m map ≡ Some why → r ≡ Err why → S m → UnlessHeld m (Take map n ∷ ps) r S P
  first_held P r why ps S is fails shown = is_held P m (Take map n ∷ ps) r S why (held_one m map n ps why is) fails (none_taken m (Take map n ∷ ps) S shown)

-- a data page isn't a map page
pub apart : (s : Shape) (map place : ℕ) → map < s.maps → page_of_place s map place ≢ map
apart s map place near same = omega (arith, same, near)
