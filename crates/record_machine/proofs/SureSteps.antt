-- What a stop can't take away once a page is taken, and which pages a command may take.
use Rattle.std.specs.Prelude.{◌≡◌, ◌≢◌, ◌==◌, ◌&&◌, ◌++◌, ◌∷◌, [], ℕ, suc, Bool, true, false, not, List, Option, Some, None, drop, if◌then◌else◌, refl}
use Rattle.std.specs.List.{list_any}
use Rattle.std.proofs.Common.{ap, subst, sym, ◌∙◌, ne_eqb}
use Rattle.script_text.specs.declared.reply.Reply.{Reply}
use Rattle.script_text.specs.declared.reply.Reply.TheVariants as says
use Rattle.record_machine.specs.Machine.{Down, LooseChange, Machine, Up, is_up, put}
use Rattle.record_machine.specs.Parts as part
use Rattle.record_machine.specs.Parts.{behind_page, is_of_page, loose_after_drop, loose_after_take, one}
use Rattle.record_machine.specs.Commands.{first_of}
use Rattle.record_machine.specs.Steps.{held, held_page}
use Rattle.record_machine.proofs.Put.{at_or_off, put_same}

-- none of the changes behind the last one of a page is one of the page
behind_off : (x : ℕ) (cs : List LooseChange) → list_any (is_of_page x) (behind_page x cs) ≡ false
behind_off x [] = refl
behind_off x (c ∷ cs) = by (list_any (is_of_page x) (c ∷ cs)) refl (behind_off x cs)
  where
    by : (b : Bool) → list_any (is_of_page x) (c ∷ cs) ≡ b → list_any (is_of_page x) (behind_page x cs) ≡ false → list_any (is_of_page x) (if list_any (is_of_page x) (c ∷ cs) then behind_page x cs else c ∷ cs) ≡ false
    by true is more = rw is more
    by false is more = subst (λ b. list_any (is_of_page x) (if b then behind_page x cs else c ∷ cs) ≡ false) (sym is) is

-- they are the last of all
behind_drops : (x : ℕ) (cs : List LooseChange) → (count : ℕ) × (behind_page x cs ≡ drop count cs)
behind_drops x [] = (0, refl)
behind_drops x (c ∷ cs) = by (list_any (is_of_page x) (c ∷ cs)) refl (behind_drops x cs)
  where
    by : (b : Bool) → list_any (is_of_page x) (c ∷ cs) ≡ b → (count : ℕ) × (behind_page x cs ≡ drop count cs) → (count : ℕ) × ((if list_any (is_of_page x) (c ∷ cs) then behind_page x cs else c ∷ cs) ≡ drop count (c ∷ cs))
    by true is more = (suc more.0, rw is more.1)
    by false is more = (0, rw is refl)

pub taken_is_sure : (m : Machine) (x n h : ℕ) → m.hold x ≡ Some h → h ≢ n → m.mode h ≡ Up → list_any (is_of_page x) ((one (part.Take x n) m).loose h) ≡ false
taken_is_sure m x n h holds apart up = rw (holds, ne_eqb h n apart, up) (ap (list_any (is_of_page x)) (put_same h (behind_page x (m.loose h)) m.loose h refl) ∙ behind_off x (m.loose h))

-- where one node has those left, each has the last of its own
left_of_one : (m : Machine) (x o h : ℕ) → (count : ℕ) × (put o (behind_page x (m.loose o)) m.loose h ≡ drop count (m.loose h))
left_of_one m x o h = at_or_off (λ cs. (count : ℕ) × (cs ≡ drop count (m.loose h))) o (behind_page x (m.loose o)) m.loose h
    (λ same. subst (λ k. (count : ℕ) × (behind_page x (m.loose k) ≡ drop count (m.loose h))) same (behind_drops x (m.loose h)))
    (λ other. (0, refl))

pub left_by_take : (m : Machine) (x n h : ℕ) → (count : ℕ) × ((one (part.Take x n) m).loose h ≡ drop count (m.loose h))
left_by_take m x n h = by (m.hold x) refl
  where
    all_left : (count : ℕ) × (m.loose h ≡ drop count (m.loose h))
    all_left = (0, refl)

    from : (o : ℕ) (b : Bool) → (not (o == n) && is_up (m.mode o)) ≡ b → (count : ℕ) × ((if not (o == n) && is_up (m.mode o) then put o (behind_page x (m.loose o)) m.loose else m.loose) h ≡ drop count (m.loose h))
    from o true is = rw is (left_of_one m x o h)
    from o false is = rw is all_left

    by : (o : Option ℕ) → m.hold x ≡ o → (count : ℕ) × (loose_after_take x n m h ≡ drop count (m.loose h))
    by None is = rw is all_left
    by (Some o) is = rw is (from o (not (o == n) && is_up (m.mode o)) refl)

-- so it is where the page is given up
pub dropped_is_sure : (m : Machine) (x h : ℕ) → m.hold x ≡ Some h → m.mode h ≡ Up → list_any (is_of_page x) ((one (part.Drop x) m).loose h) ≡ false
dropped_is_sure m x h holds up = rw (holds, up) (ap (list_any (is_of_page x)) (put_same h (behind_page x (m.loose h)) m.loose h refl) ∙ behind_off x (m.loose h))

pub left_by_drop : (m : Machine) (x h : ℕ) → (count : ℕ) × ((one (part.Drop x) m).loose h ≡ drop count (m.loose h))
left_by_drop m x h = by (m.hold x) refl
  where
    from : (o : ℕ) (b : Bool) → is_up (m.mode o) ≡ b → (count : ℕ) × ((if is_up (m.mode o) then put o (behind_page x (m.loose o)) m.loose else m.loose) h ≡ drop count (m.loose h))
    from o true is = rw is (left_of_one m x o h)
    from o false is = rw is (0, refl)

    by : (o : Option ℕ) → m.hold x ≡ o → (count : ℕ) × (loose_after_drop x m h ≡ drop count (m.loose h))
    by None is = rw is (0, refl)
    by (Some o) is = rw is (from o (is_up (m.mode o)) refl)

-- ---- which pages may be taken

-- the first reason is none
first_none : (o : Option Reply) (more : List (Option Reply)) → first_of (o ∷ more) ≡ None → (o ≡ None) × (first_of more ≡ None)
first_none None more is = (refl, is)
first_none (Some why) more is = cc

only_one : (o : Option Reply) → first_of (o ∷ []) ≡ None → o ≡ None
only_one None is = refl
only_one (Some why) is = cc

-- where no page of these parts is held, none of those behind the first is
held_behind : (m : Machine) (p : part.Part) (ps : List part.Part) → held m (p ∷ ps) ≡ None → held m ps ≡ None
held_behind m (part.Take x n) ps is = only_one (held m ps) (first_none (held_page m x) (held m ps ∷ []) is).1
held_behind m (part.Start n) ps is = is
held_behind m (part.Drop x) ps is = is
held_behind m (part.Begin t) ps is = is
held_behind m (part.Use n map place g) ps is = is
held_behind m (part.FreePlace n map place) ps is = is
held_behind m (part.Lock key t mode) ps is = is
held_behind m (part.Change t w) ps is = is
held_behind m (part.Back t) ps is = is
held_behind m (part.Seal t) ps is = is
held_behind m (part.Unlock t) ps is = is
held_behind m (part.Sure n) ps is = is

pub not_down : (m : Machine) (ps qs : List part.Part) (x n h : ℕ) → held m (ps ++ part.Take x n ∷ qs) ≡ None → m.hold x ≡ Some h → m.mode h ≢ Down
not_down m (p ∷ ps) qs x n h none holds down = not_down m ps qs x n h (held_behind m p (ps ++ part.Take x n ∷ qs) none) holds down
not_down m [] qs x n h none holds down =
    let here : held_page m x ≡ Some (says.Held (record { 0 = x }) (record { 0 = h })) = rw (holds, down) refl in
    let never : None ≡ Some (says.Held (record { 0 = x }) (record { 0 = h })) = sym (first_none (held_page m x) (held m qs ∷ []) none).0 ∙ here in
    cc
