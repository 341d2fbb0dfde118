-- Pages that a node which is up takes, one list of them behind another.
use Rattle.std.specs.Prelude.{◌≡◌, ◌==◌, ◌++◌, ◌∷◌, [], ⊤, ℕ, zero, suc, Bool, true, false, List, Option, Some, None, Result, Ok, Err, IfErr, IsOk, OnOk, take, refl}
use Rattle.std.proofs.Common.{ap, subst, sym, ◌∙◌}
use Rattle.std.proofs.lemmas.Bool.{eqb-true}
use Rattle.script_text.specs.declared.reply.Reply.{Reply}
use Rattle.script_text.specs.declared.reply.Reply.TheVariants as says
use Rattle.record_machine.specs.Commands.{first_of, where_so}
use Rattle.record_machine.specs.Machine.{Machine, is_down}
use Rattle.record_machine.specs.Parts.{Part, Take, dos, one}
use Rattle.record_machine.specs.Steps.{held, held_page}
use Rattle.record_machine.proofs.Put.{put_same}
use Rattle.record_machine.proofs.Steps.{dos-then}
use Rattle.store_nodes.specs.Ports.{UnlessStop, says_stop}
use Rattle.store_commands.specs.Taking.{HasSome, UnlessHeld, WhereHeld}
use Rattle.store_commands.proofs.BothTaken.{err_held}
use Rattle.store_commands.proofs.Taken.{is_free, is_held}
use Rattle.store_commands.proofs.Stopping.{unless_then}
use Rattle.store_commands.proofs.Testing.{never}

-- each of the parts is a page that the node takes
abbrev pub AllTake : ℕ → List Part → Type 0
AllTake n [] = ⊤
AllTake n (Take x k ∷ ps) = (k ≡ n) × AllTake n ps
AllTake n (part ∷ ps) = ⊥

-- two such lists are one
pub all_take : (n : ℕ) (ps qs : List Part) → AllTake n ps → AllTake n qs → AllTake n (ps ++ qs)
all_take n [] qs first next = next
all_take n (Take x k ∷ ps) qs first next = (first.0, all_take n ps qs first.1 next)
all_take n (part ∷ ps) qs first next = absurd first

-- ---- which page is held by a node that is down

abbrev held_from : Machine → ℕ → Option ℕ → Option Reply
held_from m x None = None
held_from m x (Some h) = where_so (is_down (m.mode h)) (says.Held (record { 0 = x }) (record { 0 = h }))

held_is : (m : Machine) (x : ℕ) (o : Option ℕ) → m.hold x ≡ o → held_page m x ≡ held_from m x o
held_is m x None is = rw is refl
held_is m x (Some h) is = rw is refl

-- a page that a node has which is up is held by none
pub held_up : (m : Machine) (x n : ℕ) → is_down (m.mode n) ≡ false → m.hold x ≡ Some n → held_page m x ≡ None
held_up m x n up is = held_is m x (Some n) is ∙ none
  where
    none : held_from m x (Some n) ≡ None
    none = rw up refl

-- none is any more, where a page was taken that none was before
pub held_past : (m : Machine) (x n y : ℕ) → is_down (m.mode n) ≡ false → held_page m x ≡ None → held_page (one (Take x n) m) y ≡ held_page m y
held_past m x n y up free = by (y == x) refl
  where
    none : held_from m y (Some n) ≡ None
    none = rw up refl

    by : (b : Bool) → (y == x) ≡ b → held_page (one (Take x n) m) y ≡ held_page m y
    by true same =
        let here : y ≡ x = eqb-true y x same in
        held_is (one (Take x n) m) y (Some n) (put_same x (Some n) m.hold y here) ∙ none ∙ sym (ap (held_page m) here ∙ free)
    by false other =
        let still : (one (Take x n) m).hold y ≡ m.hold y = rw other refl in
        held_is (one (Take x n) m) y (m.hold y) still ∙ sym (held_is m y (m.hold y) refl)

last_of : (o : Option Reply) → first_of (o ∷ []) ≡ o
last_of None = refl
last_of (Some why) = refl

held_same : (m k : Machine) (ps : List Part) → ((y : ℕ) → held_page k y ≡ held_page m y) → held k ps ≡ held m ps
held_same m k [] same = refl
held_same m k (Take x n ∷ ps) same = ap (λ o. first_of (o ∷ held k ps ∷ [])) (same x) ∙ ap (λ o. first_of (held_page m x ∷ o ∷ [])) (held_same m k ps same)
held_same m k (part ∷ ps) same = held_same m k ps same

-- the first of a list isn't, and none of the rest
first_free : (m : Machine) (x n : ℕ) (ps : List Part) → held m (Take x n ∷ ps) ≡ None → (held_page m x ≡ None) × (held m ps ≡ None)
first_free m x n ps none = by (held_page m x) refl none
  where
    by : (o : Option Reply) → held_page m x ≡ o → first_of (o ∷ held m ps ∷ []) ≡ None → (held_page m x ≡ None) × (held m ps ≡ None)
    by None is none = (is, sym (last_of (held m ps)) ∙ none)
    by (Some why) is none = cc

-- which of the next ones is held is as it was, where these were taken
pub held_after : (m : Machine) (n : ℕ) (ps qs : List Part) → is_down (m.mode n) ≡ false → AllTake n ps → held m ps ≡ None → held (dos ps m) qs ≡ held m qs
held_after m n [] qs up all none = refl
held_after m n (Take x k ∷ ps) qs up all none =
    let free = first_free m x k ps none in
    let down : is_down (m.mode k) ≡ false = subst (λ j. is_down (m.mode j) ≡ false) (sym all.0) up in
    let past : (y : ℕ) → held_page (one (Take x k) m) y ≡ held_page m y = λ y. held_past m x k y down free.0 in
    held_after (one (Take x k) m) n ps qs up all.1 (held_same m (one (Take x k) m) ps past ∙ free.1) ∙ held_same m (one (Take x k) m) qs past
held_after m n (part ∷ ps) qs up all none = absurd all

-- of two lists the first one that is held, or the second
pub held_then : (m : Machine) (ps qs : List Part) → held m ps ≡ None → held m (ps ++ qs) ≡ held m qs
held_then m [] qs none = refl
held_then m (Take x n ∷ ps) qs none =
    let free = first_free m x n ps none in
    ap (λ o. first_of (o ∷ held m (ps ++ qs) ∷ [])) free.0 ∙ last_of (held m (ps ++ qs)) ∙ held_then m ps qs free.1
held_then m (part ∷ ps) qs none = held_then m ps qs none

held_front : (m : Machine) (ps qs : List Part) (why : Reply) → held m ps ≡ Some why → held m (ps ++ qs) ≡ Some why
held_front m [] qs why is = cc
held_front m (Take x n ∷ ps) qs why is = by (held_page m x) refl is (held_front m ps qs why)
  where
    by : (o : Option Reply) → held_page m x ≡ o → first_of (o ∷ held m ps ∷ []) ≡ Some why → (held m ps ≡ Some why → held m (ps ++ qs) ≡ Some why) → held m (Take x n ∷ ps ++ qs) ≡ Some why
    by None none is rest = ap (λ o. first_of (o ∷ held m (ps ++ qs) ∷ [])) none ∙ last_of (held m (ps ++ qs)) ∙ rest (sym (last_of (held m ps)) ∙ is)
    by (Some other) some is rest = ap (λ o. first_of (o ∷ held m (ps ++ qs) ∷ [])) some ∙ is
held_front m (part ∷ ps) qs why is = held_front m ps qs why is

-- ---- some of them

take_front : (k : ℕ) (ps qs : List Part) → (j : ℕ) × (take j (ps ++ qs) ≡ take k ps)
take_front zero ps qs = (0, refl)
take_front (suc k) [] qs = (0, refl)
take_front (suc k) (p ∷ ps) qs = let rest = take_front k ps qs in (suc rest.0, ap (λ es. p ∷ es) rest.1)

take_behind : (k : ℕ) (ps qs : List Part) → (j : ℕ) × (take j (ps ++ qs) ≡ ps ++ take k qs)
take_behind k [] qs = (k, refl)
take_behind k (p ∷ ps) qs = let rest = take_behind k ps qs in (suc rest.0, ap (λ es. p ∷ es) rest.1)

-- some of the first list are some of both
pub some_front : (m : Machine) (ps qs : List Part) (S : Machine → Type 0) → HasSome m ps S → HasSome m (ps ++ qs) S
some_front m ps qs S some =
    let parts = take_front some.count ps qs in
    record { count = parts.0; free = ap (held m) parts.1 ∙ some.free; after = subst (λ es. S (dos es m)) (sym parts.1) some.after }

-- and so are some of the second behind all of the first
pub some_behind : (m : Machine) (n : ℕ) (ps qs : List Part) (S : Machine → Type 0) → is_down (m.mode n) ≡ false → AllTake n ps → held m ps ≡ None → HasSome (dos ps m) qs S → HasSome m (ps ++ qs) S
some_behind m n ps qs S up all none some =
    let parts = take_behind some.count ps qs in
    let next : List Part = take some.count qs in
    record {
      count = parts.0;
      free = ap (held m) parts.1 ∙ held_then m ps next none ∙ sym (held_after m n ps next up all none) ∙ some.free;
      after = subst (λ es. S (dos es m)) (sym parts.1) (subst S (sym (dos-then ps next m)) some.after);
    }

-- ---- what is answered

-- the first list was taken, and this is answered as the second is
pub step_behind : {T : Type 0} (m : Machine) (n : ℕ) (ps qs : List Part) (r : Result T Reply) (S : Machine → Type 0) → is_down (m.mode n) ≡ false → AllTake n ps → held m ps ≡ None
    → UnlessHeld (dos ps m) qs r S (IsOk r × S (dos qs (dos ps m))) → UnlessHeld m (ps ++ qs) r S (IsOk r × S (dos (ps ++ qs) m))
step_behind m n ps qs r S up all none next = by (held m qs) refl (subst (λ o. WhereHeld o (dos ps m) qs r S (IsOk r × S (dos qs (dos ps m)))) (held_after m n ps qs up all none) next)
  where
    by : (o : Option Reply) → held m qs ≡ o → WhereHeld o (dos ps m) qs r S (IsOk r × S (dos qs (dos ps m))) → UnlessHeld m (ps ++ qs) r S (IsOk r × S (dos (ps ++ qs) m))
    by None is was = is_free m (ps ++ qs) r S (held_then m ps qs none ∙ is) (was.0, subst S (sym (dos-then ps qs m)) was.1)
    by (Some why) is was = is_held (IsOk r × S (dos (ps ++ qs) m)) m (ps ++ qs) r S why (held_then m ps qs none ∙ is) was.0 (some_behind m n ps qs S up all none was.1)

-- one of the first list couldn't be
pub step_front : {T U : Type 0} (P Q : Type 0) (m : Machine) (ps qs : List Part) (r : Result T Reply) (r' : Result U Reply) (why : Reply) (S : Machine → Type 0) → r ≡ Err why → r' ≡ Err why → UnlessHeld m ps r S (IsOk r × P) → UnlessHeld m (ps ++ qs) r' S Q
step_front P Q m ps qs r r' why S fails out was =
    let some = err_held m ps r why S fails (λ p. never r why p.0 fails) was in
    is_held Q m (ps ++ qs) r' S why (held_front m ps qs why some.0) out (some_front m ps qs S some.1)

-- where none is held, all were taken, unless a node stopped
pub free_step : {T : Type 0} (r : Result T Reply) (P : Type 0) (m : Machine) (ps : List Part) (S : Machine → Type 0) → held m ps ≡ None → UnlessStop r (UnlessHeld m ps r S (IsOk r × P)) → OnOk r P × IfErr r (λ why. says_stop why ≡ true)
free_step {T} r P m ps S free was = of r (unless_then r (λ u. subst (λ o. WhereHeld o m ps r S (IsOk r × P)) free u) was)
  where
    by : (why : Reply) (b : Bool) → says_stop why ≡ b → (says_stop why ≡ false → ⊥) → says_stop why ≡ true
    by why true is not = is
    by why false is not = absurd (not is)

    of : (r : Result T Reply) → UnlessStop r (IsOk r × P) → OnOk r P × IfErr r (λ why. says_stop why ≡ true)
    of (Ok x) was = (was.1, tt)
    of (Err why) was = (tt, by why (says_stop why) refl (λ runs. (let ok = (was runs).0 in cc)))
