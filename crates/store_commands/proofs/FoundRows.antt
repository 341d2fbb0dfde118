-- What a dump finds on a store that is shown.
use Rattle.std.specs.Prelude.{◌≡◌, ◌+◌, ◌^◌, ◌≤◌, ◌<◌, ℕ, true, List, Option, Some, None, IfNone, IfSome, length, option_map, slice_index_or, refl}
use Rattle.std.specs.List.{position, slice_get}
use Rattle.std.proofs.Common.{arith, ap, inl, inr, subst, sym, ◌∙◌}
use Rattle.std.proofs.lemmas.Bool.{cases_lt, eqb-true}
use Rattle.std.proofs.lemmas.List.Quantifiers.{position-Some}
use Rattle.std.proofs.lemmas.Option.{slice_get-get_or}
use Rattle.sd_base.specs.Disk.{BlockState}
use Rattle.sd_base.specs.Shape.{page_count}
use Rattle.sd_base.specs.declared.names.GroupNo.{GroupNo}
use Rattle.sd_base.specs.declared.names.Key.{Key}
use Rattle.sd_base.specs.declared.names.PageNo.{PageNo}
use Rattle.sd_base.specs.declared.shape.Shape.{Shape}
use Rattle.sd_base.specs.Places.{first_key, group_of, map_of_group, map_of_key, page_of_place, slot_of_key}
use Rattle.sd_base.proofs.PlaceLaws.{map_of_key-below}
use Rattle.page_image.specs.declared.page_view.PageView.{PageView}
use Rattle.space_map.specs.declared.map_entry.MapEntry.{MapEntry}
use Rattle.space_map.specs.declared.map_entry.MapEntry.TheVariants.{Free, Used}
use Rattle.space_map.specs.Entry.{is_used_by}
use Rattle.space_map.specs.Image.{MapImage}
use Rattle.compensation.specs.Inverse.{content}
use Rattle.record_locks.specs.Held.{least_where}
use Rattle.record_machine.specs.Machine.{LooseChange, Machine, home}
use Rattle.record_machine.specs.Machine as mode
use Rattle.record_machine.specs.Rows.{HasNoneIn, IsNext}
use Rattle.record_machine.specs.Steps.{take_all}
use Rattle.record_machine.specs.Parts.{dos}
use Rattle.record_machine.proofs.LockSteps.{committed_there}
use Rattle.store_nodes.specs.declared.node.Node.{Node}
use Rattle.store_nodes.specs.declared.node.Node.TheVariants.{Down, Idle, Up}
use Rattle.store_nodes.specs.declared.store.Store.{Store}
use Rattle.store_nodes.specs.Nodes.{IsPlace, IsStore, is_up, node_at}
use Rattle.store_nodes.specs.Pages.{AreUnused, IsUnused, ShowsData, ShowsMap}
use Rattle.store_nodes.specs.Shows.{IsShown, ShowsNode}
use Rattle.store_nodes.proofs.Works.{up_most}
use Rattle.store_commands.specs.declared.dumping.Row.{Row}
use Rattle.store_commands.specs.declared.dumping.Found.{Found}
use Rattle.store_commands.specs.declared.dumping.Found.TheVariants.{Record, NoneBelow}
use Rattle.store_commands.specs.Dumps.{IsFirstRecord, IsFoundFrom, IsFoundInGroup, group_end}
use Rattle.store_commands.specs.Reasons.{IsFoundIn, IsPageFor}
use Rattle.store_commands.proofs.ShownImages.{data_is, entries_is}
use Rattle.store_commands.proofs.TakenAll.{before_taken, behind_taken}

-- ---- groups

-- a group that no entry has is at no place
no_entry : (g : GroupNo) (first end : ℕ) (entries : List MapEntry) → length entries ≡ 252 → first ≤ g.0 → g.0 < end → AreUnused first end entries → position (is_used_by g) entries ≡ None
no_entry g first end entries count from below unused = by (position (is_used_by g) entries) refl
  where
    never : (e : MapEntry) → IsUnused first end e → is_used_by g e ≡ true → ⊥
    never (Free ident) free used = cc
    never (Used h ident) (inl low) used = let same = eqb-true h.0 g.0 used in omega (arith, low, same, from)
    never (Used h ident) (inr high) used = let same = eqb-true h.0 g.0 used in omega (arith, high, same, below)

    by : (o : Option ℕ) → position (is_used_by g) entries ≡ o → position (is_used_by g) entries ≡ None
    by None is = is
    by (Some place) is =
        let at = position-Some (is_used_by g) entries place (Free 0) is in
        let there = slice_get-get_or entries place (Free 0) at.0 in
        absurd (never (slice_index_or entries place (Free 0)) (subst (λ o. IfSome o (IsUnused first end)) there (unused place (omega (arith, at.0, count)))) at.1)

-- of fewer groups none is there either
unused_less : (first end less : ℕ) (entries : List MapEntry) → less ≤ end → AreUnused first end entries → AreUnused first less entries
unused_less first end less entries low unused = λ place within. by (slice_get entries place) (unused place within)
  where
    entry : (e : MapEntry) → IsUnused first end e → IsUnused first less e
    entry (Free ident) free = tt
    entry (Used h ident) (inl below) = inl below
    entry (Used h ident) (inr high) = inr (omega (arith, high, low))

    by : (o : Option MapEntry) → IfSome o (IsUnused first end) → IfSome o (IsUnused first less)
    by None free = tt
    by (Some e) free = entry e free

-- keys of one group have one page
same_home : (m : Machine) (key other : ℕ) → (group_of other).0 ≡ (group_of key).0 → home m other ≡ home m key
same_home m key other same = ap (λ q. option_map (page_of_place m.shape (map_of_group m.shape (record { 0 = q }))) (position (is_used_by (record { 0 = q })) (m.entries (map_of_group m.shape (record { 0 = q }))))) same

-- the keys from one on that are in its group
in_group : (first k : ℕ) → first ≤ k → k < group_end first → (group_of k).0 ≡ (group_of first).0
in_group first k from below = omega (arith, from, below)

-- and need one page
page_for_same : (s : Shape) (key other : Key) (x : PageNo) → (group_of other.0).0 ≡ (group_of key.0).0 → IsPageFor s key x → IsPageFor s other x
page_for_same s key other x same (inl map) = inl (map ∙ ap (λ q. map_of_group s (record { 0 = q })) (sym same))
page_for_same s key other x same (inr at) = inr (at.0, at.1, at.2 ∙ ap (λ q. page_of_place s (map_of_group s (record { 0 = q })) at.0) (sym same))

-- what the group's page holds of a key is found of it
pub page_found : (c : Store) (n : ℕ) (s : Shape) (first : Key) (o : Option PageNo) (x : PageNo) (v : PageView) (found : Option Row) → c.shape ≡ s → o ≡ Some x → IfSome o (IsPageFor s first) → ShowsData c n x v
    → IfSome found (λ r. (first.0 ≤ r.key.0) × ((group_of r.key.0).0 ≡ (group_of first.0).0) × ((v : PageView) → ShowsData c n x v → content v (slot_of_key r.key.0) ≡ Some r.value)) → IfSome found (λ r. (first.0 ≤ r.key.0) × IsFoundIn c n r.key (Some r.value))
page_found c n s first o x v None same is for_key shows some = tt
page_found c n s first o x v (Some r) same is for_key shows some =
    (some.0, inr (x, page_for_same c.shape first r.key x some.1 (subst (λ t. IsPageFor t first x) (sym same) (subst (λ o. IfSome o (IsPageFor s first)) is for_key)), v, shows, sym (some.2 v shows)))

-- ---- what is found in all

pub none_then : (m : Machine) (first mid end : ℕ) → HasNoneIn m first mid → HasNoneIn m mid end → HasNoneIn m first end
none_then m first mid end before behind = λ k from below. elim (cases_lt k mid) [
  | inl low ↦ before k from low
  | inr high ↦ behind k high below
]

pub next_then : (m : Machine) (first mid : ℕ) (key : Key) (value : List ℕ) → first ≤ mid → HasNoneIn m first mid → IsNext m mid key value → IsNext m first key value
next_then m first mid key value low none next = record {
  from = omega (arith, low, next.from);
  there = next.there;
  least = none_then m first mid key.0 none next.least;
}

pub record_behind : (m : Machine) (first mid : ℕ) (found : Option Row) → first ≤ mid → HasNoneIn m first mid → IsFirstRecord m mid found → IsFirstRecord m first found
record_behind m first mid (Some r) low none is = next_then m first mid r.key r.value low none is
record_behind m first mid None low none is = none_then m first mid (2 ^ 32) none is

-- what is found in the page of the least group that has one, behind groups that have none
pub found_there : (m : Machine) (first group : ℕ) (r : Row) → first ≤ group → HasNoneIn m (first_key first) (first_key group) → IsFoundInGroup m (first_key group) (Some r) → IsFoundFrom m first (Record r)
found_there m first group r low none is = next_then m (first_key first) (first_key group) r.key r.value (omega (arith, low)) none is

pub none_there : (m : Machine) (first group : ℕ) → HasNoneIn m (first_key first) (first_key group) → IsFoundInGroup m (first_key group) None → IsFoundFrom m first (NoneBelow (group + 1))
none_there m first group none is = none_then m (first_key first) (first_key group) (first_key (group + 1)) none (λ k from below. is k from (omega (arith, below)))

-- ---- pages that were taken change nothing of it

next_before : (n : ℕ) (pages : List ℕ) (m : Machine) (first : ℕ) (key : Key) (value : List ℕ) → IsNext (dos (take_all n pages) m) first key value → IsNext m first key value
next_before n pages m first key value is = before_taken (λ k. IsNext k first key value) n pages m (λ hold loose was. record { from = was.from; there = was.there; least = was.least }) is

none_in_before : (n : ℕ) (pages : List ℕ) (m : Machine) (first end : ℕ) → HasNoneIn (dos (take_all n pages) m) first end → HasNoneIn m first end
none_in_before n pages m first end is = before_taken (λ k. HasNoneIn k first end) n pages m (λ hold loose was. was) is

pub group_before : (n : ℕ) (pages : List ℕ) (m : Machine) (first : ℕ) (found : Option Row) → IsFoundInGroup (dos (take_all n pages) m) first found → IsFoundInGroup m first found
group_before n pages m first (Some r) is = next_before n pages m first r.key r.value is
group_before n pages m first None is = none_in_before n pages m first (group_end first) is

pub from_before : (n : ℕ) (pages : List ℕ) (m : Machine) (first : ℕ) (found : Found) → IsFoundFrom (dos (take_all n pages) m) first found → IsFoundFrom m first found
from_before n pages m first (Record r) is = next_before n pages m (first_key first) r.key r.value is
from_before n pages m first (NoneBelow end) is = none_in_before n pages m (first_key first) (first_key end) is

pub first_before : (n : ℕ) (pages : List ℕ) (m : Machine) (first : ℕ) (found : Option Row) → IsFirstRecord (dos (take_all n pages) m) first found → IsFirstRecord m first found
first_before n pages m first (Some r) is = next_before n pages m first r.key r.value is
first_before n pages m first None is = none_in_before n pages m first (2 ^ 32) is

-- ---- map pages

module _ (c : Store) (n : ℕ) (b : ℕ → BlockState) (m : Machine) (is : IsStore c) (place : IsPlace n) (up : is_up (node_at c.nodes n) ≡ true) (shown : IsShown c b m) where
  -- the node is up in the machine too
  pub mode_up : mode.is_up (m.mode n) ≡ true
  mode_up = by (node_at c.nodes n) up (shown.1.nodes.node n place (up_most c.shape c.shared.pool c.shared.owners c.nodes is n place up))
    where
      by : (node : Node) → is_up node ≡ true → ShowsNode c.shape c.shared.pool n node b shown.0 m → mode.is_up (m.mode n) ≡ true
      by Idle up node = cc
      by (Up k seats) up node = ap mode.is_up node.0
      by Down up node = cc

  -- the map pages up to one that the node has cached
  more_unused : (x first end less : ℕ) (image : MapImage) → x < c.shape.maps → less ≤ end → ShowsMap c n (record { 0 = x }) image → AreUnused first less image.entries → ((y : ℕ) → y < x → AreUnused first end (m.entries y)) → (y : ℕ) → y < x + 1 → AreUnused first less (m.entries y)
  more_unused x first end less image near low has unused before = λ y below. elim (cases_lt y x) [
    | inl behind ↦ unused_less first end less (m.entries y) low (before y behind)
    | inr high ↦
        let same : y ≡ x = omega (arith, below, high) in
        subst (λ k. AreUnused first less (m.entries k)) (sym same) (subst (AreUnused first less) (entries_is c n b m is place up shown (record { 0 = x }) image near has) unused)
  ]

  -- ---- the page of a group

  module _ (free : least_where (λ l mode. true) c.shared.locks ≡ None) (first : Key) (x : PageNo) (v : PageView) (at : home m first.0 ≡ Some x.0) (far : c.shape.maps ≤ x.0) (within : x.0 < page_count c.shape) (shows : ShowsData c n x v) where
    -- its slots have the committed records
    committed : (k : ℕ) → (group_of k).0 ≡ (group_of first.0).0 → content v (slot_of_key k) ≡ m.records k
    committed k same =
        ap (λ u. content u (slot_of_key k)) (data_is c n b m is place up shown x v far within shows)
        ∙ committed_there shown.0 m (record { 0 = k }) x.0 shown.1.nodes.means.locked shown.1.nodes.means.pages (ap (least_where (λ l mode. true)) shown.1.locks ∙ free) (same_home m first.0 k same ∙ at)

    found_in_page : (found : Option Row) → IfSome found (λ r. (first.0 ≤ r.key.0) × ((group_of r.key.0).0 ≡ (group_of first.0).0) × ((v : PageView) → ShowsData c n x v → content v (slot_of_key r.key.0) ≡ Some r.value))
        → IfSome found (λ r. (v : PageView) → ShowsData c n x v → (k : ℕ) → first.0 ≤ k → k < r.key.0 → content v (slot_of_key k) ≡ None)
        → IfNone found ((v : PageView) → ShowsData c n x v → (k : ℕ) → first.0 ≤ k → k < group_end first.0 → content v (slot_of_key k) ≡ None) → IsFoundInGroup m first.0 found
    found_in_page None some least none = λ k from below. sym (committed k (in_group first.0 k from below)) ∙ none v shows k from below
    found_in_page (Some r) some least none = record {
      from = some.0;
      there = sym (committed r.key.0 some.1) ∙ some.2 v shows;
      least = λ k from below.
          let same : (group_of k).0 ≡ (group_of first.0).0 = omega (arith, from, below, some.1) in
          sym (committed k same) ∙ least v shows k from below;
    }

-- and where it has just taken that one
pub more_below : (c : Store) (n : ℕ) (b : ℕ → BlockState) (m : Machine) (pages : List ℕ) → IsStore c → IsPlace n → is_up (node_at c.nodes n) ≡ true → IsShown c b (dos (take_all n pages) m) → (x first end less : ℕ) (image : MapImage) → x < c.shape.maps → less ≤ end → ShowsMap c n (record { 0 = x }) image → AreUnused first less image.entries
    → ((y : ℕ) → y < x → AreUnused first end (m.entries y)) → (y : ℕ) → y < x + 1 → AreUnused first less (m.entries y)
more_below c n b m pages is place up shown x first end less image near low has unused before =
    before_taken (λ k. (y : ℕ) → y < x + 1 → AreUnused first less (k.entries y)) n pages m (λ hold loose was. was)
    (more_unused c n b (dos (take_all n pages) m) is place up shown x first end less image near low has unused (behind_taken (λ k. (y : ℕ) → y < x → AreUnused first end (k.entries y)) n pages m (λ hold loose was. was) before))

-- what is found in the page of a group, by what the machine says once its pages are taken
pub page_before : (c : Store) (n : ℕ) (b : ℕ → BlockState) (m : Machine) (pages : List ℕ) → IsStore c → IsPlace n → is_up (node_at c.nodes n) ≡ true → IsShown c b (dos (take_all n pages) m) → least_where (λ l mode. true) c.shared.locks ≡ None → (first : Key) (x : PageNo) (v : PageView) → home m first.0 ≡ Some x.0 → c.shape.maps ≤ x.0 → x.0 < page_count c.shape → ShowsData c n x v
    → (found : Option Row) → IfSome found (λ r. (first.0 ≤ r.key.0) × ((group_of r.key.0).0 ≡ (group_of first.0).0) × ((v : PageView) → ShowsData c n x v → content v (slot_of_key r.key.0) ≡ Some r.value))
    → IfSome found (λ r. (v : PageView) → ShowsData c n x v → (k : ℕ) → first.0 ≤ k → k < r.key.0 → content v (slot_of_key k) ≡ None)
    → IfNone found ((v : PageView) → ShowsData c n x v → (k : ℕ) → first.0 ≤ k → k < group_end first.0 → content v (slot_of_key k) ≡ None) → IsFoundInGroup m first.0 found
page_before c n b m pages is place up shown free first x v at far within shows found some least none =
    group_before n pages m first.0 found
    (found_in_page c n b (dos (take_all n pages) m) is place up shown free first x v (behind_taken (λ k. home k first.0 ≡ Some x.0) n pages m (λ hold loose was. was) at) far within shows found some least none)

-- ---- groups that have no page

module _ (c : Store) (b : ℕ → BlockState) (m : Machine) (shown : IsShown c b m) where
  -- a key whose group has no page has no record
  none_at : (key : ℕ) → home m key ≡ None → m.records key ≡ None
  none_at key none = shown.1.nodes.means.pages.absent key none

  -- where no map page has a group, no key of it has a record
  none_unused : (first end : ℕ) → ((x : ℕ) → x < m.shape.maps → AreUnused first end (m.entries x)) → (k : ℕ) → first ≤ (group_of k).0 → (group_of k).0 < end → m.records k ≡ None
  none_unused first end unused k from below =
      let map : map_of_key m.shape k < m.shape.maps = map_of_key-below m.shape k shown.1.nodes.means.pages.shape in
      let none = no_entry (group_of k) first end (m.entries (map_of_key m.shape k)) (shown.1.nodes.means.pages.count (map_of_key m.shape k) map) from below (unused (map_of_key m.shape k) map) in
      none_at k (ap (option_map (page_of_place m.shape (map_of_key m.shape k))) none)

  -- up to the first key of the group that is found
  pub none_before : (first group : ℕ) → ((x : ℕ) → x < m.shape.maps → AreUnused first group (m.entries x)) → HasNoneIn m (first_key first) (first_key group)
  none_before first group unused = λ k from below. none_unused first group unused k (omega (arith, from)) (omega (arith, below))

  pub none_in_group : (first : ℕ) → home m first ≡ None → IsFoundInGroup m first None
  none_in_group first none = λ k from below. none_at k (same_home m first k (in_group first k from below) ∙ none)
