-- A node that is up takes pages, none of them from a node that is down: what the machine has then.
use Rattle.std.specs.Prelude.{◌≡◌, ◌++◌, ◌∷◌, [], ℕ, Bool, true, false, All, List, Option, Some, None, drop, take, refl}
use Rattle.std.proofs.Common.{ap, inl, inr, subst, sym, ◌∙◌}
use Rattle.std.proofs.lemmas.Bool.{cases_eq}
use Rattle.std.proofs.lemmas.List.{take-append-drop, take-map}
use Rattle.std.proofs.lemmas.List.Elements.{All-append, All-head, All-nil, All-tail, All-take, All-weaker}
use Rattle.sd_base.specs.declared.device.NodeId.{NodeId}
use Rattle.script_text.specs.declared.reply.Reply.{Reply}
use Rattle.script_text.specs.declared.reply.Reply.TheVariants as says
use Rattle.record_machine.specs.Commands.{first_of, where_so}
use Rattle.record_machine.specs.Machine.{LooseChange, Machine, NodeMode, is_down, is_up, put}
use Rattle.record_machine.specs.Machine as mode
use Rattle.record_machine.specs.Parts.{Take, dos, loose_after_take, one}
use Rattle.record_machine.specs.Rows.{IsInUse}
use Rattle.record_machine.specs.Steps.{AreMapped, IsHeldPage, TakesPages, held, held_page, take_all}
use Rattle.record_machine.proofs.Put.{put_same}
use Rattle.store_commands.specs.Taking.{HasSome}
use Rattle.store_commands.proofs.Taken.{held_behind, held_next}

-- ---- what else changes

only_taken : (n : ℕ) (pages : List ℕ) (m : Machine) → (hold : ℕ → Option ℕ) × (loose : ℕ → List LooseChange) × (dos (take_all n pages) m ≡ record m { hold = hold; loose = loose })
only_taken n [] m = (m.hold, m.loose, refl)
only_taken n (x ∷ ps) m = only_taken n ps (record m { hold = put x (Some n) m.hold; loose = loose_after_take x n m })

-- what doesn't hang on who holds the pages holds before as it does behind
pub before_taken : (Q : Machine → Type 0) (n : ℕ) (pages : List ℕ) (m : Machine) → ((hold : ℕ → Option ℕ) (loose : ℕ → List LooseChange) → Q (record m { hold = hold; loose = loose }) → Q m) → Q (dos (take_all n pages) m) → Q m
before_taken Q n pages m back was = let those = only_taken n pages m in back those.0 those.1 (subst Q those.2 was)

pub behind_taken : (Q : Machine → Type 0) (n : ℕ) (pages : List ℕ) (m : Machine) → ((hold : ℕ → Option ℕ) (loose : ℕ → List LooseChange) → Q m → Q (record m { hold = hold; loose = loose })) → Q m → Q (dos (take_all n pages) m)
behind_taken Q n pages m on was = let those = only_taken n pages m in subst Q (sym those.2) (on those.0 those.1 was)

two_takes : (n : ℕ) (a b : List ℕ) (m : Machine) → dos (take_all n (a ++ b)) m ≡ dos (take_all n b) (dos (take_all n a) m)
two_takes n [] b m = refl
two_takes n (x ∷ a) b m = two_takes n a b (one (Take x n) m)

-- ---- data pages behind their map pages

mapped_both : (n : ℕ) (a b : List ℕ) (m : Machine) → AreMapped m (take_all n a) → AreMapped (dos (take_all n a) m) (take_all n b) → AreMapped m (take_all n (a ++ b))
mapped_both n [] b m first next = next
mapped_both n (x ∷ a) b m first next = (first.0, mapped_both n a b (one (Take x n) m) first.1 next)

mapped_front : (n : ℕ) (a b : List ℕ) (m : Machine) → AreMapped m (take_all n (a ++ b)) → AreMapped m (take_all n a)
mapped_front n [] b m all = tt
mapped_front n (x ∷ a) b m all = (all.0, mapped_front n a b (one (Take x n) m) all.1)

-- ---- who holds a page

held_up : (m : Machine) (x h : ℕ) → m.hold x ≡ Some h → is_up (m.mode h) ≡ true → held_page m x ≡ None
held_up m x h is up = rw is (by (m.mode h) up)
  where
    by : (k : NodeMode) → is_up k ≡ true → where_so (is_down k) (says.Held (record { 0 = x }) (record { 0 = h })) ≡ None
    by mode.Idle up = cc
    by mode.Up up = refl
    by mode.Down up = cc
    by mode.Redone up = cc

held_still : (m : Machine) (y n x : ℕ) → is_up (m.mode n) ≡ true → held_page m y ≡ None → held_page (one (Take y n) m) x ≡ held_page m x
held_still m y n x up free = elim (cases_eq x y) [
  | inl same ↦ held_up (one (Take y n) m) x n (put_same y (Some n) m.hold x same) up ∙ sym (ap (held_page m) same ∙ free)
  | inr far ↦ held_behind m y n x far
]

held_alike : (m k : Machine) (n : ℕ) (pages : List ℕ) → ((x : ℕ) → held_page k x ≡ held_page m x) → held k (take_all n pages) ≡ held m (take_all n pages)
held_alike m k n [] same = refl
held_alike m k n (x ∷ ps) same =
    ap (λ o. first_of (o ∷ held k (take_all n ps) ∷ [])) (same x) ∙ ap (λ o. first_of (held_page m x ∷ o ∷ [])) (held_alike m k n ps same)

-- of a list none of which is held, neither the first nor the others are
first_free : (o p : Option Reply) → first_of (o ∷ p ∷ []) ≡ None → (o ≡ None) × (p ≡ None)
first_free None None is = (refl, refl)
first_free None (Some why) is = cc
first_free (Some why) p is = cc

held_all : (n : ℕ) (pages : List ℕ) (m : Machine) → is_up (m.mode n) ≡ true → held m (take_all n pages) ≡ None → (x : ℕ) → held_page (dos (take_all n pages) m) x ≡ held_page m x
held_all n [] m up free x = refl
held_all n (y ∷ ps) m up free x =
    let none = first_free (held_page m y) (held m (take_all n ps)) free in
    let still : (z : ℕ) → held_page (one (Take y n) m) z ≡ held_page m z = λ z. held_still m y n z up none.0 in
    held_all n ps (one (Take y n) m) up (held_alike m (one (Take y n) m) n ps still ∙ none.1) x ∙ still x

held_both : (m : Machine) (n : ℕ) (a b : List ℕ) → held m (take_all n a) ≡ None → held m (take_all n b) ≡ None → held m (take_all n (a ++ b)) ≡ None
held_both m n [] b first next = next
held_both m n (x ∷ a) b first next = let none = first_free (held_page m x) (held m (take_all n a)) first in held_next m x n (take_all n (a ++ b)) None none.0 (held_both m n a b none.1 next)

-- ---- pages that are taken behind others

in_use_before : (n : ℕ) (pages : List ℕ) (m : Machine) (x : ℕ) → IsInUse (dos (take_all n pages) m) x → IsInUse m x
in_use_before n pages m x was = before_taken (λ k. IsInUse k x) n pages m (λ hold loose is. is) was

module _ (m : Machine) (n : NodeId) (S : Machine → Type 0) (up : is_up (m.mode n.0) ≡ true) (first : TakesPages m n S) where
  pub takes_then : (R : Machine → Type 0) → TakesPages (dos (take_all n.0 first.pages) m) n R → TakesPages m n R
  takes_then R next = record {
    pages = first.pages ++ next.pages;
    in_use = All-append (IsInUse m) first.pages next.pages first.in_use (All-weaker (IsInUse (dos (take_all n.0 first.pages) m)) (IsInUse m) (in_use_before n.0 first.pages m) next.pages next.in_use);
    mapped = mapped_both n.0 first.pages next.pages m first.mapped next.mapped;
    free = held_both m n.0 first.pages next.pages first.free (sym (held_alike m (dos (take_all n.0 first.pages) m) n.0 next.pages (held_all n.0 first.pages m up first.free)) ∙ next.free);
    after = subst R (sym (two_takes n.0 first.pages next.pages m)) next.after;
  }

  pub held_then : (x h : ℕ) → IsHeldPage (dos (take_all n.0 first.pages) m) x h → IsHeldPage m x h
  held_then x h is = (in_use_before n.0 first.pages m x is.0, sym (held_all n.0 first.pages m up first.free x) ∙ is.1)

-- none at all
pub no_takes : (m : Machine) (n : NodeId) (S : Machine → Type 0) → S m → TakesPages m n S
no_takes m n S shown = record { pages = []; in_use = All-nil (IsInUse m); mapped = tt; free = refl; after = shown }

-- ---- some of the pages

pub some_takes : (m : Machine) (n : NodeId) (pages : List ℕ) (S : Machine → Type 0) → All (IsInUse m) pages → AreMapped m (take_all n.0 pages) → HasSome m (take_all n.0 pages) S → TakesPages m n S
some_takes m n pages S in_use mapped some =
    let same : take some.count (take_all n.0 pages) ≡ take_all n.0 (take some.count pages) = take-map (λ x. Take x n.0) some.count pages in record {
      pages = take some.count pages;
      in_use = All-take (IsInUse m) some.count pages in_use;
      mapped = mapped_front n.0 (take some.count pages) (drop some.count pages) m (subst (λ ys. AreMapped m (take_all n.0 ys)) (sym (take-append-drop some.count pages)) mapped);
      free = subst (λ ps. held m ps ≡ None) same some.free;
      after = subst (λ ps. S (dos ps m)) same some.after;
    }

-- the page that is held
held_says : (m : Machine) (x : ℕ) (why : Reply) → held_page m x ≡ Some why → (h : ℕ) × (why ≡ says.Held (record { 0 = x }) (record { 0 = h }))
held_says m x why is = by (m.hold x) refl
  where
    test : (h : ℕ) (b : Bool) → where_so b (says.Held (record { 0 = x }) (record { 0 = h })) ≡ Some why → why ≡ says.Held (record { 0 = x }) (record { 0 = h })
    test h true is = cc
    test h false is = cc

    by : (o : Option ℕ) → m.hold x ≡ o → (h : ℕ) × (why ≡ says.Held (record { 0 = x }) (record { 0 = h }))
    by None none = let free : held_page m x ≡ None = rw none refl in let never : None ≡ Some why = sym free ∙ is in cc
    by (Some h) some = let said : held_page m x ≡ where_so (is_down (m.mode h)) (says.Held (record { 0 = x }) (record { 0 = h })) = rw some refl in (h, test h (is_down (m.mode h)) (sym said ∙ is))

pub held_found : (m : Machine) (n : ℕ) (pages : List ℕ) (why : Reply) → All (IsInUse m) pages → held m (take_all n pages) ≡ Some why → (x h : ℕ) × (why ≡ says.Held (record { 0 = x }) (record { 0 = h })) × IsHeldPage m x h
held_found m n [] why in_use is = cc
held_found m n (x ∷ ps) why in_use is = by (held_page m x) refl (λ rest. held_found m n ps why (All-tail (IsInUse m) x ps in_use) rest)
  where
    behind : (o : Option Reply) → first_of (None ∷ o ∷ []) ≡ Some why → o ≡ Some why
    behind None is = is
    behind (Some other) is = is

    by : (o : Option Reply) → held_page m x ≡ o → (held m (take_all n ps) ≡ Some why → (y h : ℕ) × (why ≡ says.Held (record { 0 = y }) (record { 0 = h })) × IsHeldPage m y h) → (y h : ℕ) × (why ≡ says.Held (record { 0 = y }) (record { 0 = h })) × IsHeldPage m y h
    by None free more = more (behind (held m (take_all n ps)) (subst (λ o. first_of (o ∷ held m (take_all n ps) ∷ []) ≡ Some why) free is))
    by (Some other) here more =
        let same : Some other ≡ Some why = subst (λ o. first_of (o ∷ held m (take_all n ps) ∷ []) ≡ Some why) here is in
        let said = held_says m x why (here ∙ same) in
        (x, said.0, said.1, (All-head (IsInUse m) x ps in_use, here ∙ same ∙ ap Some said.1))
