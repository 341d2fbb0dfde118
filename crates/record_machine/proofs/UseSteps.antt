-- The machine after a group has got a page.
use Rattle.std.specs.Prelude.{◌≡◌, ◌≢◌, ◌==◌, ◌⊎◌, ◌+◌, ◌≤◌, ◌<◌, ◌++◌, ◌∷◌, [], ℕ, suc, Bool, true, false, List, Option, Some, None, All, IfSome, length, option_map, replicate, slice_index_or, slice_set, refl}
use Rattle.std.specs.List.{list_any, position}
use Rattle.std.proofs.Common.{arith, inl, inr, ap, subst, sym, ◌∙◌}
use Rattle.std.proofs.lemmas.Bool.{cases_eq, eq-eqb}
use Rattle.std.proofs.lemmas.Bool.Decides.{nat_tests}
use Rattle.std.proofs.lemmas.List.{get_or-replicate, get_or-set_same, get_or-set_other, length-set}
use Rattle.std.proofs.lemmas.List.Quantifiers.{position-Some}
use Rattle.sd_base.specs.declared.names.GroupNo.{GroupNo}
use Rattle.sd_base.specs.declared.names.TxnId.{TxnId}
use Rattle.sd_base.specs.Places.{group_of, map_of_group, map_of_key, page_of_place, slot_of_key}
use Rattle.sd_base.specs.Shape.{pages_per_map}
use Rattle.sd_base.proofs.PlaceLaws.{map_of_key-below}
use Rattle.compensation.specs.Inverse.{content}
use Rattle.log_record.specs.declared.record.LogRecord.{LogRecord}
use Rattle.space_map.specs.declared.map_entry.MapEntry.{MapEntry}
use Rattle.space_map.specs.declared.map_entry.MapEntry.TheVariants.{Free, Used}
use Rattle.space_map.specs.Entry.{ident_of, is_free, is_used_by}
use Rattle.space_map.specs.Image.{MapImage}
use Rattle.record_machine.specs.Machine.{Deed, Machine, Write, free_place, home, put}
use Rattle.record_machine.specs.Parts.{Use, one}
use Rattle.record_machine.specs.Meaning.{AreLocked, AreLogged, AreLogs, ArePages, IsPresent, IsUsed, Plain, first_record, has_written, logged, now_used, with_map, writes_key}
use Rattle.record_machine.proofs.Deeds.{logged-longer, overlaid_not, writes_none, writes_other}
use Rattle.record_machine.proofs.DeedSteps.{tail_longer}
use Rattle.record_machine.proofs.Homes.{position_kept, position_set}
use Rattle.record_machine.proofs.Put.{at_or_off, put_other, put_same}

-- the free place of a map page
pub free_there : (m : Machine) (map place : ℕ) → length (m.entries map) ≡ pages_per_map → position is_free (m.entries map) ≡ Some place → (place < pages_per_map) × (is_free (slice_index_or (m.entries map) place (Free 0)) ≡ true)
free_there m map place count is = let at = position-Some is_free (m.entries map) place (Free 0) is in let low = at.0 in (omega (arith, low, count), at.1)

free_unused : (e : MapEntry) (g : GroupNo) → is_free e ≡ true → is_used_by g e ≡ false
free_unused (Free ident) g is = refl
free_unused (Used group ident) g is = cc

-- ---- the homes after it

-- the home of a key of another group
pub home_kept : (n map place : ℕ) (g : GroupNo) (m : Machine) (key : ℕ) → length (m.entries map) ≡ pages_per_map → position is_free (m.entries map) ≡ Some place → g.0 ≢ (group_of key).0 → home (one (Use n map place g) m) key ≡ home m key
home_kept n map place g m key count free apart = ap (option_map (page_of_place m.shape (map_of_key m.shape key)))
    (at_or_off (λ es. position (is_used_by (group_of key)) es ≡ position (is_used_by (group_of key)) (m.entries (map_of_key m.shape key))) map (slice_set (m.entries map) place (now_used g m map place)) m.entries (map_of_key m.shape key)
    (λ same. position_kept (is_used_by (group_of key)) (m.entries map) place (now_used g m map place) (Free 0) (not_it ∙ sym (free_unused (slice_index_or (m.entries map) place (Free 0)) (group_of key) (free_there m map place count free).1)) ∙ ap (λ x. position (is_used_by (group_of key)) (m.entries x)) (sym same))
    (λ other. refl))
  where
    not_it : is_used_by (group_of key) (now_used g m map place) ≡ false
    not_it = let not : (g.0 == (group_of key).0) ≡ false = grind (arith, nat_tests) in not

-- and the one of the group
pub home_new : (n place : ℕ) (m : Machine) (key other : ℕ) → length (m.entries (map_of_key m.shape key)) ≡ pages_per_map → home m key ≡ None → position is_free (m.entries (map_of_key m.shape key)) ≡ Some place → (group_of key).0 ≡ (group_of other).0
    → home (one (Use n (map_of_key m.shape key) place (group_of key)) m) other ≡ Some (page_of_place m.shape (map_of_key m.shape key) place)
home_new n place m key other count none free same =
    let low = (free_there m (map_of_key m.shape key) place count free).0 in
    let map : map_of_key m.shape other ≡ map_of_key m.shape key = ap (λ g. map_of_group m.shape (record { 0 = g })) (sym same) in
    let nothing : position (is_used_by (group_of key)) (m.entries (map_of_key m.shape key)) ≡ None = is_none (position (is_used_by (group_of key)) (m.entries (map_of_key m.shape key))) refl none in
    ap (λ x. option_map (page_of_place m.shape x) (position (is_used_by (group_of other)) (put (map_of_key m.shape key) (slice_set (m.entries (map_of_key m.shape key)) place (now_used (group_of key) m (map_of_key m.shape key) place)) m.entries x))) map
    ∙ ap (λ g. option_map (page_of_place m.shape (map_of_key m.shape key)) (position (is_used_by (record { 0 = g })) (put (map_of_key m.shape key) (slice_set (m.entries (map_of_key m.shape key)) place (now_used (group_of key) m (map_of_key m.shape key) place)) m.entries (map_of_key m.shape key)))) (sym same)
    ∙ ap (λ es. option_map (page_of_place m.shape (map_of_key m.shape key)) (position (is_used_by (group_of key)) es)) (put_same (map_of_key m.shape key) (slice_set (m.entries (map_of_key m.shape key)) place (now_used (group_of key) m (map_of_key m.shape key) place)) m.entries (map_of_key m.shape key) refl)
    ∙ ap (option_map (page_of_place m.shape (map_of_key m.shape key))) (position_set (is_used_by (group_of key)) (m.entries (map_of_key m.shape key)) place (now_used (group_of key) m (map_of_key m.shape key) place) (Free 0) nothing (eq-eqb (group_of key).0 (group_of key).0 refl) (omega (arith, low, count)))
  where
    is_none : (o : Option ℕ) → position (is_used_by (group_of key)) (m.entries (map_of_key m.shape key)) ≡ o → option_map (page_of_place m.shape (map_of_key m.shape key)) o ≡ None → position (is_used_by (group_of key)) (m.entries (map_of_key m.shape key)) ≡ None
    is_none None is none = is
    is_none (Some i) is none = cc

-- a key of a group without a page was never written
pub never_written : (p : Plain) (m : Machine) (key : ℕ) (t : TxnId) → AreLogs p m → home m key ≡ None → has_written m t key ≡ false
never_written p m key t logs none = by (m.pending t.node.0) (logs.homes t)
  where
    not : (d : Deed) (o : Option Write) → d.write ≡ o → IfSome o (λ w. home m w.key ≡ Some w.page) → writes_key t.seat key d ≡ false
    not d None is here = writes_none t.seat key d is
    not d (Some w) is here = writes_other t.seat key d w is (λ same. let never : None ≡ Some w.page = sym none ∙ ap (home m) (sym same) ∙ here in cc)

    by : (ds : List Deed) → All (λ d. IfSome d.write (λ w. home m w.key ≡ Some w.page)) ds → list_any (writes_key t.seat key) ds ≡ false
    by [] all = refl
    by (d ∷ ds) all = let first = not d d.write refl (all 0 d (omega arith)) in rw first (by ds (λ k e low. all (suc k) e (omega (arith, low))))

-- an entry that is free
as_free : (e : MapEntry) → is_free e ≡ true → e ≡ Free (ident_of e)
as_free (Free ident) is = refl
as_free (Used group ident) is = cc

-- the page of a place that is free has no record
pub blank_there : (p : Plain) (m : Machine) (map place slot : ℕ) → ArePages p m → map < m.shape.maps → position is_free (m.entries map) ≡ Some place → slot < 16 → content (p.pages (page_of_place m.shape map place)) slot ≡ None
blank_there p m map place slot pages within free low =
    let there = free_there m map place (pages.count map within) free in
    let blank = pages.unused map place (ident_of (slice_index_or (m.entries map) place (Free 0))) within there.0 (as_free (slice_index_or (m.entries map) place (Free 0)) there.1) in
    ap (λ slots. slice_index_or slots slot None) blank.1 ∙ get_or-replicate 16 slot None None low

pub pages_used : (n place : ℕ) (p : Plain) (m : Machine) (rec : LogRecord) (key : ℕ) (map : MapImage) → home m key ≡ None → free_place m key ≡ Some place → IsUsed m (map_of_key m.shape key) place (group_of key) (p.maps (map_of_key m.shape key)) map → AreLogs p m → ArePages p m
    → ArePages (logged n rec (with_map (map_of_key m.shape key) map p)) (one (Use n (map_of_key m.shape key) place (group_of key)) m)
pages_used n place p m rec key map none free used logs was = record {
  shape = was.shape;
  count = λ x low. at_or_off (λ es. length es ≡ pages_per_map) at (slice_set (m.entries at) place entry) m.entries x (λ same. length-set (m.entries at) place entry ∙ count) (λ other. was.count x low);
  map_number = λ x low. at_or_off (λ (o : MapImage). o.page.0 ≡ x) at map p.maps x (λ same. ap (λ y. y.0) used.page ∙ was.map_number at within ∙ sym same) (λ other. was.map_number x low);
  number = was.number;
  entries = λ x low. by_entries x low;
  map_ident = λ x low. by_ident x low;
  ident = λ x low high. was.ident x low high ∙ sym (put_other at (m.ident at + 1) m.ident x (λ same. omega (arith, same, low, within)));
  alive = λ x i low small. by_alive x i low small;
  unused = λ x i ident low small is. by_unused x i ident low small is;
  present = λ other x is. by_present other x is (cases_eq (group_of key).0 (group_of other).0);
  absent = λ other is. by_absent other is (cases_eq (group_of key).0 (group_of other).0);
}
  where
    at : ℕ
    at = map_of_key m.shape key

    entry : MapEntry
    entry = now_used (group_of key) m at place

    within : at < m.shape.maps
    within = map_of_key-below m.shape key was.shape

    count : length (m.entries at) ≡ pages_per_map
    count = was.count at within

    no_home : (other : ℕ) → (group_of key).0 ≡ (group_of other).0 → home m other ≡ None
    no_home other same = ap (λ g. option_map (page_of_place m.shape (map_of_group m.shape (record { 0 = g }))) (position (is_used_by (record { 0 = g })) (m.entries (map_of_group m.shape (record { 0 = g }))))) (sym same) ∙ none

    by_entries : (x : ℕ) → x < m.shape.maps → (put at map p.maps x).entries ≡ put at (slice_set (m.entries at) place entry) m.entries x
    by_entries x low = by (x == at) refl
      where
        by : (b : Bool) → (x == at) ≡ b → (put at map p.maps x).entries ≡ put at (slice_set (m.entries at) place entry) m.entries x
        by true is = rw is (used.entries ∙ ap (λ es. slice_set es place entry) (was.entries at within))
        by false is = rw is (was.entries x low)

    by_ident : (x : ℕ) → x < m.shape.maps → (put at map p.maps x).ident ≡ put at (m.ident at + 1) m.ident x
    by_ident x low = by (x == at) refl
      where
        by : (b : Bool) → (x == at) ≡ b → (put at map p.maps x).ident ≡ put at (m.ident at + 1) m.ident x
        by true is = rw is (used.ident ∙ ap (λ n. n + 1) (was.map_ident at within))
        by false is = rw is (was.map_ident x low)

    by_alive : (x i : ℕ) → x < m.shape.maps → i < pages_per_map → ident_of (slice_index_or (put at (slice_set (m.entries at) place entry) m.entries x) i (Free 0)) ≤ (p.pages (page_of_place m.shape x i)).ident
    by_alive x i low small = at_or_off (λ es. ident_of (slice_index_or es i (Free 0)) ≤ (p.pages (page_of_place m.shape x i)).ident) at (slice_set (m.entries at) place entry) m.entries x
        (λ same. elim (cases_eq i place) [
          | inl here ↦
              let set : ident_of (slice_index_or (slice_set (m.entries at) place entry) i (Free 0)) ≡ ident_of (slice_index_or (m.entries at) place (Free 0)) = ap (λ k. ident_of (slice_index_or (slice_set (m.entries at) place entry) k (Free 0))) here ∙ ap ident_of (get_or-set_same (m.entries at) place entry (Free 0) (let low = (free_there m at place count free).0 in omega (arith, low, count))) in
              let old = was.alive at place within (free_there m at place count free).0 in
              subst (λ k. k ≤ (p.pages (page_of_place m.shape x i)).ident) (sym set) (subst (λ y. ident_of (slice_index_or (m.entries at) place (Free 0)) ≤ (p.pages (page_of_place m.shape y i)).ident) (sym same) (subst (λ k. ident_of (slice_index_or (m.entries at) place (Free 0)) ≤ (p.pages (page_of_place m.shape at k)).ident) (sym here) old))
          | inr other ↦
              let old = was.alive at i within small in
              subst (λ e. ident_of e ≤ (p.pages (page_of_place m.shape x i)).ident) (sym (get_or-set_other (m.entries at) place i entry (Free 0) other)) (subst (λ y. ident_of (slice_index_or (m.entries at) i (Free 0)) ≤ (p.pages (page_of_place m.shape y i)).ident) (sym same) old)
        ])
        (λ other. was.alive x i low small)

    by_unused : (x i ident : ℕ) → x < m.shape.maps → i < pages_per_map → slice_index_or (put at (slice_set (m.entries at) place entry) m.entries x) i (Free 0) ≡ Free ident
        → ((p.pages (page_of_place m.shape x i)).ident ≡ ident) × ((p.pages (page_of_place m.shape x i)).slots ≡ replicate 16 None)
    by_unused x i ident low small is = was.unused x i ident low small (at_or_off (λ es. slice_index_or es i (Free 0) ≡ Free ident → slice_index_or (m.entries x) i (Free 0) ≡ Free ident) at (slice_set (m.entries at) place entry) m.entries x
        (λ same is. elim (cases_eq i place) [
          | inl here ↦ let never : slice_index_or (slice_set (m.entries at) place entry) i (Free 0) ≡ entry = ap (λ k. slice_index_or (slice_set (m.entries at) place entry) k (Free 0)) here ∙ get_or-set_same (m.entries at) place entry (Free 0) (let low = (free_there m at place count free).0 in omega (arith, low, count)) in let clash : Free ident ≡ entry = sym is ∙ never in cc
          | inr other ↦ ap (λ y. slice_index_or (m.entries y) i (Free 0)) same ∙ sym (get_or-set_other (m.entries at) place i entry (Free 0) other) ∙ is
        ])
        (λ other is. is) is)

    by_present : (other x : ℕ) → home (one (Use n at place (group_of key)) m) other ≡ Some x → ((group_of key).0 ≡ (group_of other).0) ⊎ ((group_of key).0 ≢ (group_of other).0) → IsPresent m other (content (p.pages x) (slot_of_key other))
    by_present other x is (inl same) =
        let page : Some (page_of_place m.shape at place) ≡ Some x = sym (home_new n place m key other count none free same) ∙ is in
        let page_is : page_of_place m.shape at place ≡ x = cc in
        let nothing : content (p.pages x) (slot_of_key other) ≡ None = ap (λ y. content (p.pages y) (slot_of_key other)) (sym page_is) ∙ blank_there p m at place (slot_of_key other) was within free (omega arith) in
        λ t alone. nothing ∙ sym (overlaid_not t.seat other (m.records other) (m.pending t.node.0) (never_written p m other t logs (no_home other same)) ∙ was.absent other (no_home other same))
    by_present other x is (inr apart) = was.present other x (sym (home_kept n at place (group_of key) m other count free apart) ∙ is)

    by_absent : (other : ℕ) → home (one (Use n at place (group_of key)) m) other ≡ None → ((group_of key).0 ≡ (group_of other).0) ⊎ ((group_of key).0 ≢ (group_of other).0) → m.records other ≡ None
    by_absent other is (inl same) = let never : None ≡ Some (page_of_place m.shape at place) = sym is ∙ home_new n place m key other count none free same in cc
    by_absent other is (inr apart) = was.absent other (sym (home_kept n at place (group_of key) m other count free apart) ∙ is)

-- the deeds stay where they stand, and their pages are still those of their groups
pub logs_used : (n place : ℕ) (p : Plain) (m : Machine) (rec : LogRecord) (key : ℕ) (map : MapImage) → home m key ≡ None → free_place m key ≡ Some place → ArePages p m → AreLogs p m
    → AreLogs (logged n rec (with_map (map_of_key m.shape key) map p)) (one (Use n (map_of_key m.shape key) place (group_of key)) m)
logs_used n place p m rec key map none free pages was = record {
  tail = λ k. tail_longer n p m rec k (was.tail k);
  deeds = λ k. at_or_off (λ recs. AreLogged (first_record m k) recs (λ seat. m.records) (m.pending k)) n (p.live n ++ rec ∷ []) p.live k
      (λ same. subst (λ i. AreLogged (first_record m k) (p.live i ++ rec ∷ []) (λ seat. m.records) (m.pending k)) same (logged-longer (first_record m k) (p.live k) rec (λ seat. m.records) (m.pending k) (was.deeds k)))
      (λ other. was.deeds k);
  rising = was.rising;
  homes = λ t i d low. kept (slice_index_or (m.pending t.node.0) i d).write (was.homes t i d low);
}
  where
    count : length (m.entries (map_of_key m.shape key)) ≡ pages_per_map
    count = pages.count (map_of_key m.shape key) (map_of_key-below m.shape key pages.shape)

    kept : (o : Option Write) → IfSome o (λ w. home m w.key ≡ Some w.page) → IfSome o (λ w. home (one (Use n (map_of_key m.shape key) place (group_of key)) m) w.key ≡ Some w.page)
    kept None here = tt
    kept (Some w) here = home_kept n (map_of_key m.shape key) place (group_of key) m w.key count free (λ same. let never : None ≡ Some w.page = sym none ∙ ap (λ g. option_map (page_of_place m.shape (map_of_group m.shape (record { 0 = g }))) (position (is_used_by (record { 0 = g })) (m.entries (map_of_group m.shape (record { 0 = g }))))) same ∙ here in cc) ∙ here

pub locked_used : (n map place : ℕ) (g : GroupNo) (m : Machine) → AreLocked m → AreLocked (one (Use n map place g) m)
locked_used n map place g m was = record { apart = was.apart; written = was.written }
