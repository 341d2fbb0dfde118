-- Which pages a command has taken when one is held by a node that is down.
use Rattle.std.specs.Prelude.{◌≡◌, ◌≢◌, ◌∷◌, [], ℕ, zero, suc, List, Option, Some, None, Result, Err, take, refl}
use Rattle.std.proofs.Common.{◌∙◌}
use Rattle.script_text.specs.declared.reply.Reply.{Reply}
use Rattle.record_machine.specs.Machine.{Machine}
use Rattle.record_machine.specs.Parts.{Part, Take, dos, one}
use Rattle.record_machine.specs.Steps.{held, held_page}
use Rattle.record_machine.proofs.Put.{put_other}
use Rattle.store_commands.specs.Taking.{HasSome, UnlessHeld, WhereHeld}

-- a page that is taken changes nothing of who holds another
pub held_behind : (m : Machine) (map n x : ℕ) → x ≢ map → held_page (one (Take map n) m) x ≡ held_page m x
held_behind m map n x far = by (m.hold x) refl
  where
    same : (one (Take map n) m).hold x ≡ m.hold x
    same = put_other map (Some n) m.hold x far

    by : (o : Option ℕ) → m.hold x ≡ o → held_page (one (Take map n) m) x ≡ held_page m x
    by None is = let now = same ∙ is in rw now (rw is refl)
    by (Some h) is = let now = same ∙ is in rw now (rw is refl)

-- one page
pub held_one : (m : Machine) (x n : ℕ) (ps : List Part) (why : Reply) → held_page m x ≡ Some why → held m (Take x n ∷ ps) ≡ Some why
held_one m x n ps why is = rw is refl

pub free_one : (m : Machine) (x n : ℕ) → held_page m x ≡ None → held m (Take x n ∷ []) ≡ None
free_one m x n is = rw is refl

pub held_next : (m : Machine) (x n : ℕ) (ps : List Part) (o : Option Reply) → held_page m x ≡ None → held m ps ≡ o → held m (Take x n ∷ ps) ≡ o
held_next m x n ps None free is = rw free (rw is refl)
held_next m x n ps (Some why) free is = rw free (rw is refl)

-- none was taken, or the first
pub none_taken : (m : Machine) (ps : List Part) (S : Machine → Type 0) → S m → HasSome m ps S
none_taken m ps S shown = record { count = 0; free = refl; after = shown }

pub one_taken : (m : Machine) (x n : ℕ) (ps : List Part) (S : Machine → Type 0) → held_page m x ≡ None → S (one (Take x n) m) → HasSome m (Take x n ∷ ps) S
one_taken m x n ps S free shown = record { count = 1; free = free_one m x n free; after = shown }

-- some of one page are some of that and more
pub more_taken : (m : Machine) (x n : ℕ) (ps : List Part) (S : Machine → Type 0) → HasSome m (Take x n ∷ []) S → HasSome m (Take x n ∷ ps) S
more_taken m x n ps S some = by some.count some.free some.after
  where
    by : (k : ℕ) → held m (take k (Take x n ∷ [])) ≡ None → S (dos (take k (Take x n ∷ [])) m) → HasSome m (Take x n ∷ ps) S
    by zero free shown = none_taken m (Take x n ∷ ps) S shown
    by (suc zero) free shown = record { count = 1; free = free; after = shown }
    by (suc (suc k)) free shown = record { count = 1; free = free; after = shown }

-- ---- where one is held

pub is_held : {T : Type 0} (P : Type 0) (m : Machine) (ps : List Part) (r : Result T Reply) (S : Machine → Type 0) (why : Reply) → held m ps ≡ Some why → r ≡ Err why → HasSome m ps S → UnlessHeld m ps r S P
is_held P m ps r S why is out some = rw is (out, some)

pub is_free : {T : Type 0} {P : Type 0} (m : Machine) (ps : List Part) (r : Result T Reply) (S : Machine → Type 0) → held m ps ≡ None → P → UnlessHeld m ps r S P
is_free m ps r S is p = rw is p

-- what else follows where none is
pub unless_then : {T : Type 0} {P Q : Type 0} (m : Machine) (ps : List Part) (r : Result T Reply) (S : Machine → Type 0) → (held m ps ≡ None → P → Q) → UnlessHeld m ps r S P → UnlessHeld m ps r S Q
unless_then {T} {P} {Q} m ps r S then was = by (held m ps) refl was
  where
    by : (o : Option Reply) → held m ps ≡ o → WhereHeld o m ps r S P → WhereHeld o m ps r S Q
    by None is was = then is was
    by (Some why) is was = was
