-- The filled places of a cache come first.
use Rattle.std.specs.Prelude.{◌≡◌, ◌<◌, ◌+◌, ◌-◌, ◌≤◌, ◌++◌, ℕ, zero, suc, Bool, true, false, option_map, List, [], ◌∷◌, Option, Some, None, map, replicate, length, slice_set, slice_index_or, take, drop, IsSome, refl}
use Rattle.std.proofs.Common.{arith, nat_lt, cond, ap, sym, subst, ◌∙◌}
use Rattle.std.specs.List.{slice_get, position, position_or_len, remove}
use Rattle.sd_base.specs.declared.names.PageNo.{PageNo}
use Rattle.std.proofs.lemmas.Bool.Decides.{nat_tests}
use Rattle.std.proofs.lemmas.List.{length-map, length-replicate, map-set, append_assoc}
use Rattle.node_cache.specs.declared.slot.Slot.{Slot}
use Rattle.node_cache.specs.Cache.{CachedPage, place_of, is_page}
use Rattle.node_cache.specs.Places.{shown, filled, packed, is_in, IsPacked}

pub filled-packed : (xs : List Slot) (free : ℕ) → filled (packed xs free) ≡ xs
filled-packed [] zero = refl
filled-packed [] (suc free) = refl
filled-packed (x ∷ xs) free = ap (λ ys. x ∷ ys) (filled-packed xs free)

pub length_packed : (xs : List Slot) (free : ℕ) → length (packed xs free) ≡ length xs + free
length_packed [] free = omega (arith, length-replicate {A = Option Slot} free None)
length_packed (x ∷ xs) free = omega (arith, length_packed xs free)

-- places that hold these first are packed
pub filled-of : (slots : List (Option Slot)) (xs : List Slot) (free : ℕ) → slots ≡ packed xs free → filled slots ≡ xs
filled-of slots xs free e = ap filled e ∙ filled-packed xs free

pub is_packed : (slots : List (Option Slot)) (xs : List Slot) (len : ℕ) → len ≤ 16 → length xs ≡ len → slots ≡ packed xs (16 - len) → IsPacked slots len
is_packed slots xs len few count e =
    let is : filled slots ≡ xs = filled-of slots xs (16 - len) e in
    record { few = few; count = ap length is ∙ count; packed = e ∙ ap (λ ys. packed ys (16 - len)) (sym is) }

-- how many pages there are
pub counted : (slots : List (Option Slot)) (len : ℕ) (pages : List CachedPage) → map shown (filled slots) ≡ pages → IsPacked slots len → length pages ≡ len
counted slots len pages e is = ap length (sym e) ∙ length-map (filled slots) shown ∙ is.count

-- a place that is counted holds what the list has there
pub slot_at : (slots : List (Option Slot)) (i : ℕ) (d : Option Slot) (x : Slot) → i < length (map shown (filled slots)) → slice_index_or slots i d ≡ Some x → slice_get (map shown (filled slots)) i ≡ Some (shown x)
slot_at [] i d x h e = absurd (omega (arith, h))
slot_at (None ∷ rest) i d x h e = absurd (omega (arith, h))
slot_at (Some y ∷ rest) zero d x h e = cc
slot_at (Some y ∷ rest) (suc i) d x h e = slot_at rest i d x (omega (arith, h)) e

-- and isn't free
pub slot_there : (slots : List (Option Slot)) (i : ℕ) (d : Option Slot) → i < length (map shown (filled slots)) → slice_index_or slots i d ≡ None → ⊥
slot_there [] i d h e = omega (arith, h)
slot_there (None ∷ rest) i d h e = omega (arith, h)
slot_there (Some y ∷ rest) zero d h e = cc
slot_there (Some y ∷ rest) (suc i) d h e = slot_there rest i d (omega (arith, h)) e

-- a page behind the others
push_in : (xs : List Slot) (len free : ℕ) (x : Slot) → length xs ≡ len → slice_set (packed xs (suc free)) len (Some x) ≡ packed (xs ++ x ∷ []) free
push_in [] len free x e = rw (← e) refl
push_in (y ∷ xs) zero free x e = cc
push_in (y ∷ xs) (suc len) free x e = ap (λ ys. Some y ∷ ys) (push_in xs len free x (omega (arith, e)))

pub push-packed : (slots : List (Option Slot)) (len : ℕ) (x : Slot) → IsPacked slots len → len < 16 → slice_set slots len (Some x) ≡ packed (filled slots ++ x ∷ []) (16 - (len + 1))
push-packed slots len x is below =
    let count : 16 - len ≡ suc (16 - (len + 1)) = omega (arith, below) in
    let whole : slots ≡ packed (filled slots) (suc (16 - (len + 1))) = is.packed ∙ ap (packed (filled slots)) count in
    ap (λ ys. slice_set ys len (Some x)) whole ∙ push_in (filled slots) len (16 - (len + 1)) x is.count

-- the first index at which a test passes, by the first item
pub first_passes : {X : Type 0} (p : X → Bool) (x : X) (xs : List X) → p x ≡ true → position p (x ∷ xs) ≡ Some 0
first_passes p x xs e =
    let f : nat_lt 0 (suc (length xs)) ≡ true = grind (arith, nat_tests) in
    rw e (rw f refl)

pub first_fails : {X : Type 0} (p : X → Bool) (x : X) (xs : List X) → p x ≡ false → position p (x ∷ xs) ≡ option_map (λ i. i + 1) (position p xs)
first_fails p x xs e = rw e (by (nat_lt (position_or_len p xs) (length xs)) refl)
  where
    by : (b : Bool) → nat_lt (position_or_len p xs) (length xs) ≡ b
        → cond (nat_lt (1 + position_or_len p xs) (suc (length xs))) (Some (1 + position_or_len p xs)) None ≡ option_map (λ i. i + 1) (cond (nat_lt (position_or_len p xs) (length xs)) (Some (position_or_len p xs)) None)
    by true lt =
        let f : nat_lt (1 + position_or_len p xs) (suc (length xs)) ≡ true = grind (arith, nat_tests) in
        rw (lt, f) (ap Some (omega arith))
    by false lt =
        let f : nat_lt (1 + position_or_len p xs) (suc (length xs)) ≡ false = grind (arith, nat_tests) in
        rw (lt, f) refl

-- the first place that holds a page
pub place_packed : (x : PageNo) (xs : List Slot) (free : ℕ) → position (is_in x) (packed xs free) ≡ place_of x (map shown xs)
place_packed x [] zero = refl
place_packed x [] (suc free) = first_fails (is_in x) None (replicate free None) refl ∙ ap (option_map (λ i. i + 1)) (place_packed x [] free)
place_packed x (y ∷ xs) free = by (is_page x (shown y)) refl (place_packed x xs free)
  where
    by : (b : Bool) → is_page x (shown y) ≡ b → position (is_in x) (packed xs free) ≡ place_of x (map shown xs) → position (is_in x) (packed (y ∷ xs) free) ≡ place_of x (map shown (y ∷ xs))
    by true e rest = first_passes (is_in x) (Some y) (packed xs free) e ∙ sym (first_passes (is_page x) (shown y) (map shown xs) e)
    by false e rest = first_fails (is_in x) (Some y) (packed xs free) e ∙ ap (option_map (λ i. i + 1)) rest ∙ sym (first_fails (is_page x) (shown y) (map shown xs) e)

pub place_there : (x : PageNo) (slots : List (Option Slot)) (len : ℕ) → IsPacked slots len → position (is_in x) slots ≡ place_of x (map shown (filled slots))
place_there x slots len is = ap (position (is_in x)) is.packed ∙ place_packed x (filled slots) (16 - len)

-- a page taken out of the first places: those behind it move up, and its place goes behind them
pub moved_up : (xs : List Slot) (i k free : ℕ) → i + k ≡ length xs → 0 < k
    → take i (slice_set (packed xs free) i None)
    ++ ((drop 1 (take k (drop i (slice_set (packed xs free) i None))) ++ take 1 (take k (drop i (slice_set (packed xs free) i None))))
    ++ drop k (drop i (slice_set (packed xs free) i None)))
    ≡ packed (remove xs i) (suc free)
moved_up [] i k free e some = absurd (omega (arith, e))
moved_up (y ∷ ys) i zero free e some = absurd (omega (arith, some))
moved_up (y ∷ ys) zero (suc k) free e some =
    let count : k ≡ length ys = omega (arith, e) in
    rw (count, takes ys free, drops ys free) (append_assoc (map Some ys) (None ∷ []) (replicate free None))
  where
    takes : (ys : List Slot) (free : ℕ) → take (length ys) (packed ys free) ≡ map Some ys
    takes [] free = refl
    takes (y ∷ ys) free = ap (λ zs. Some y ∷ zs) (takes ys free)

    drops : (ys : List Slot) (free : ℕ) → drop (length ys) (packed ys free) ≡ replicate free None
    drops [] free = refl
    drops (y ∷ ys) free = drops ys free
moved_up (y ∷ ys) (suc i) (suc k) free e some = ap (λ zs. Some y ∷ zs) (moved_up ys i (suc k) free (omega (arith, e)) some)

-- what a place holds, and that it holds something
pub held_at : (xs : List Slot) (i free : ℕ) (d : Option Slot) (x : Slot) → i < length xs → slice_index_or (packed xs free) i d ≡ Some x → slice_get xs i ≡ Some x
held_at [] i free d x h e = absurd (omega (arith, h))
held_at (y ∷ ys) zero free d x h e = e
held_at (y ∷ ys) (suc i) free d x h e = held_at ys i free d x (omega (arith, h)) e

pub holds_some : (xs : List Slot) (i free : ℕ) (d : Option Slot) → i < length xs → IsSome (slice_index_or (packed xs free) i d)
holds_some [] i free d h = absurd (omega (arith, h))
holds_some (y ∷ ys) zero free d h = refl
holds_some (y ∷ ys) (suc i) free d h = holds_some ys i free d (omega (arith, h))

-- the list without one of them
pub shown-remove : (xs : List Slot) (i : ℕ) → i < length xs → map shown (remove xs i) ≡ remove (map shown xs) i
shown-remove [] i h = absurd (omega (arith, h))
shown-remove (y ∷ ys) zero h = refl
shown-remove (y ∷ ys) (suc i) h = ap (λ zs. shown y ∷ zs) (shown-remove ys i (omega (arith, h)))

-- the page at a place, of which the list is known
pub lifted : (slots : List (Option Slot)) (i : ℕ) (x : Slot) (pages : List CachedPage) → map shown (filled slots) ≡ pages → i < length pages → slice_index_or slots i None ≡ Some x → slice_get pages i ≡ Some (shown x)
lifted slots i x pages e h is = subst (λ ps. slice_get ps i ≡ Some (shown x)) e (slot_at slots i None x (subst (λ ps. i < length ps) (sym e) h) is)

-- a place that is counted isn't free
pub filled_at : (slots : List (Option Slot)) (len i : ℕ) → IsPacked slots len → i < len → IsSome (slice_index_or slots i None)
filled_at slots len i is h = subst (λ ys. IsSome (slice_index_or ys i None)) (sym is.packed) (holds_some (filled slots) i (16 - len) None (omega (arith, is.count, h)))

-- another page at a place
set_in : (xs : List Slot) (i free : ℕ) (y : Slot) → i < length xs → slice_set (slice_set (packed xs free) i None) i (Some y) ≡ packed (slice_set xs i y) free
set_in [] i free y h = absurd (omega (arith, h))
set_in (x ∷ xs) zero free y h = refl
set_in (x ∷ xs) (suc i) free y h = ap (λ zs. Some x ∷ zs) (set_in xs i free y (omega (arith, h)))

pub put_back : (slots new : List (Option Slot)) (len i : ℕ) (y : Slot) → IsPacked slots len → i < len → new ≡ slice_set (slice_set slots i None) i (Some y) → new ≡ packed (slice_set (filled slots) i y) (16 - len)
put_back slots new len i y is h e =
    e ∙ ap (λ ys. slice_set (slice_set ys i None) i (Some y)) is.packed ∙ set_in (filled slots) i (16 - len) y (omega (arith, is.count, h))

-- the page that is at a place
pub the_page : (slots : List (Option Slot)) (i : ℕ) (x : Slot) (pages : List CachedPage) (p : CachedPage) → map shown (filled slots) ≡ pages → i < length pages → slice_index_or slots i None ≡ Some x
    → slice_get pages i ≡ Some p → shown x ≡ p
the_page slots i x pages p e h is at = let there = lifted slots i x pages e h is in cc

-- the list with another page at a place
pub set_back : (slots new : List (Option Slot)) (len i : ℕ) (y : Slot) (pages : List CachedPage) → map shown (filled slots) ≡ pages → IsPacked slots len → i < len
    → new ≡ slice_set (slice_set slots i None) i (Some y) → map shown (filled new) ≡ slice_set pages i (shown y)
set_back slots new len i y pages e is h n =
    ap (map shown) (filled-of new (slice_set (filled slots) i y) (16 - len) (put_back slots new len i y is h n))
    ∙ map-set shown (filled slots) i y ∙ ap (λ ps. slice_set ps i (shown y)) e

-- nothing changes where a page is put where it stands
pub set_same : (pages : List CachedPage) (i : ℕ) (p : CachedPage) → slice_get pages i ≡ Some p → slice_set pages i p ≡ pages
set_same [] i p e = refl
set_same (q ∷ pages) zero p e = let same : q ≡ p = cc in ap (λ r. r ∷ pages) (sym same)
set_same (q ∷ pages) (suc i) p e = ap (λ ps. q ∷ ps) (set_same pages i p e)
