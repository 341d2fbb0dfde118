-- What the machine has of the nodes of a store where one has halted.
use Rattle.std.specs.Prelude.{◌≡◌, ◌≢◌, ◌==◌, ◌||◌, ◌+◌, ◌-◌, ◌*◌, ◌<◌, ◌≤◌, ℕ, zero, suc, Bool, true, false, List, [], ◌∷◌, ◌⊎◌, Option, Some, None, All, is_some, find, length, map, nat_lt, option_map, slice_get, slice_index_or, if◌then◌else◌, refl}
use Rattle.std.specs.List.{list_any, range_with_len}
use Rattle.std.proofs.Common.{arith, ap, inl, inr, subst, sym, ◌∙◌}
use Rattle.std.proofs.lemmas.Bool.{cases_eq, cases_lt, eq-eqb}
use Rattle.std.proofs.lemmas.Bool.Decides.{nat_tests}
use Rattle.std.proofs.lemmas.Option.{slice_get-get_or}
use Rattle.compensation.proofs.LogRecords.{at_place, below_end}
use Rattle.log_record.specs.declared.record.LogRecord.{LogRecord}
use Rattle.sd_base.specs.Disk.{BlockState}
use Rattle.sd_base.specs.Places.{map_of_data, page_of_place, place_of_page}
use Rattle.sd_base.specs.Shape.{page_count, pages_per_map}
use Rattle.sd_base.specs.declared.names.PageNo.{PageNo}
use Rattle.sd_base.specs.declared.shape.Shape.{Shape}
use Rattle.sd_base.proofs.PlaceLaws.{at_its_place, map_of_data-below, place_of_page-below}
use Rattle.space_map.specs.declared.map_entry.MapEntry.TheVariants.{Free}
use Rattle.space_map.specs.Entry.{ident_of}
use Rattle.space_map.specs.PageImage.{PageImage, data_page, map_page}
use Rattle.node_cache.specs.Cache.{CachedPage, page_at, is_page}
use Rattle.record_machine.specs.Machine.{Deed, Machine}
use Rattle.record_machine.specs.Machine as machine
use Rattle.record_machine.specs.Meaning.{AreInOrder, AreLogged, Means, Plain, after}
use Rattle.record_machine.specs.Recoverable.{Recoverable}
use Rattle.record_machine.specs.Stops as stops
use Rattle.recovery_theory.specs.History.{History, entry_now, image_now}
use Rattle.recovery_theory.specs.Pages.{entries_of}
use Rattle.store_nodes.specs.declared.node.Node.{Node}
use Rattle.store_nodes.specs.declared.node.Node.TheVariants.{Idle, Up, Down}
use Rattle.store_nodes.specs.Nodes.{IsPlace, any_up, is_up, node_at}
use Rattle.store_nodes.specs.Shows.{entry_in, image_in}
use Rattle.store_nodes.proofs.CachedImages.{data_image, map_image}

-- ---- deeds of a log

-- deeds of a log, in its order, stand behind as many records
each_behind : (first : ℕ) (ds : List Deed) (d : Deed) → AreInOrder ds → ((i : ℕ) → i < length ds → first ≤ (slice_index_or ds i d).number) → (i : ℕ) → i < length ds → first + i ≤ (slice_index_or ds i d).number
each_behind first ds d rising low zero within = let at = low 0 within in omega (arith, at)
each_behind first ds d rising low (suc i) within =
    let before = each_behind first ds d rising low i (omega (arith, within)) in
    let more = rising i (suc i) d (omega arith) within in
    omega (arith, before, more)

-- each of them is one of its records
each_within : (first : ℕ) (recs : List LogRecord) (value : ℕ → ℕ → Option (List ℕ)) (ds : List Deed) (d : Deed) → AreLogged first recs value ds → (i : ℕ) → i < length ds → (first ≤ (slice_index_or ds i d).number) × ((slice_index_or ds i d).number < first + length recs)
each_within first recs value [] d logged i within = absurd (omega (arith, within))
each_within first recs value (e ∷ ds) d logged zero within = ((at_place first recs e.number logged.0.rec logged.0.there).0, below_end first recs e.number logged.0.rec logged.0.there)
each_within first recs value (e ∷ ds) d logged (suc i) within = each_within first recs (after e value) ds d logged.1 i (omega (arith, within))

-- so they are no more than its records
pub within_log : (first : ℕ) (recs : List LogRecord) (value : ℕ → ℕ → Option (List ℕ)) (ds : List Deed) → AreInOrder ds → AreLogged first recs value ds → length ds ≤ length recs
within_log first recs value [] rising logged = omega arith
within_log first recs value (e ∷ ds) rising logged =
    let last = each_behind first (e ∷ ds) e rising (λ i within. (each_within first recs value (e ∷ ds) e logged i within).0) (length ds) (omega arith) in
    let end = (each_within first recs value (e ∷ ds) e logged (length ds) (omega arith)).1 in
    omega (arith, last, end)

-- ---- whether any node is up

any_same : (f g : ℕ → Bool) (a n : ℕ) → ((k : ℕ) → a ≤ k → k < a + n → f k ≡ g k) → list_any f (range_with_len a n) ≡ list_any g (range_with_len a n)
any_same f g a zero same = refl
any_same f g a (suc n) same = ap (λ b. b || list_any f (range_with_len (a + 1) n)) (same a (omega arith) (omega arith)) ∙ ap (λ b. g a || b) (any_same f g (a + 1) n (λ k low high. same k (omega (arith, low)) (omega (arith, high))))

none_beyond : (f : ℕ → Bool) (a n : ℕ) → ((k : ℕ) → a ≤ k → k < a + n → f k ≡ false) → list_any f (range_with_len a n) ≡ false
none_beyond f a zero none = refl
none_beyond f a (suc n) none = ap (λ b. b || list_any f (range_with_len (a + 1) n)) (none a (omega arith) (omega arith)) ∙ none_beyond f (a + 1) n (λ k low high. none k (omega (arith, low)) (omega (arith, high)))

any_longer : (f : ℕ → Bool) (a total n : ℕ) → n ≤ total → ((k : ℕ) → a + n ≤ k → k < a + total → f k ≡ false) → list_any f (range_with_len a total) ≡ list_any f (range_with_len a n)
any_longer f a total zero within none = none_beyond f a total (λ k low high. none k (omega (arith, low)) high)
any_longer f a zero (suc n) within none = absurd (omega (arith, within))
any_longer f a (suc total) (suc n) within none = ap (λ b. f a || b) (any_longer f (a + 1) total n (omega (arith, within)) (λ k low high. none k (omega (arith, low)) (omega (arith, high))))

any_listed : (os : List Node) (a : ℕ) (f : ℕ → Bool) → ((i : ℕ) → i < length os → f (a + i) ≡ is_up (slice_index_or os i Idle)) → list_any f (range_with_len a (length os)) ≡ list_any is_up os
any_listed [] a f same = refl
any_listed (o ∷ os) a f same =
    ap (λ b. b || list_any f (range_with_len (a + 1) (length os))) (ap f (let e : a ≡ a + 0 = omega arith in e) ∙ same 0 (omega arith))
    ∙ ap (λ b. is_up o || b) (any_listed os (a + 1) f (λ i low. ap f (let e : a + 1 + i ≡ a + suc i = omega arith in e) ∙ same (suc i) (omega (arith, low))))

-- a node of the machine is up exactly where one of the store is
pub any_up_shown : (s : Shape) (nodes : List Node) (m : Machine) → m.shape ≡ s → length nodes ≡ 8 → s.nodes ≤ 8 → ((k : ℕ) → IsPlace k → k ≤ s.nodes → machine.is_up (m.mode k) ≡ is_up (node_at nodes k)) → ((k : ℕ) → IsPlace k → is_up (node_at nodes k) ≡ true → k ≤ s.nodes) → stops.any_up m ≡ any_up nodes
any_up_shown s nodes m shape eight most same known =
    ap (λ (z : Shape). list_any (λ n. machine.is_up (m.mode n)) (range_with_len 1 z.nodes)) shape
    ∙ any_same (λ n. machine.is_up (m.mode n)) (λ n. is_up (node_at nodes n)) 1 s.nodes (λ k low high. same k (omega (arith, low), omega (arith, high, most)) (omega (arith, high)))
    ∙ sym (any_longer (λ n. is_up (node_at nodes n)) 1 (s.nodes + (8 - s.nodes)) s.nodes (omega arith) (λ k low high. beyond k low high (is_up (node_at nodes k)) refl))
    ∙ ap (λ n. list_any (λ k. is_up (node_at nodes k)) (range_with_len 1 n)) (let e : s.nodes + (8 - s.nodes) ≡ length nodes = omega (arith, eight, most) in e)
    ∙ any_listed nodes 1 (λ n. is_up (node_at nodes n)) (λ i low. ap (λ k. is_up (slice_index_or nodes k Idle)) (let e : 1 + i - 1 ≡ i = omega arith in e))
  where
    beyond : (k : ℕ) → 1 + s.nodes ≤ k → k < 1 + (s.nodes + (8 - s.nodes)) → (b : Bool) → is_up (node_at nodes k) ≡ b → is_up (node_at nodes k) ≡ false
    beyond k low high true up = let last = known k (omega (arith, low), omega (arith, high, most)) up in absurd (omega (arith, last, low))
    beyond k low high false up = up

-- ---- the pages of the other nodes

-- a page among those of a cache is cached
pub cached_there : (x : PageNo) (ps : List CachedPage) (k : ℕ) (d : CachedPage) → k < length ps → (slice_index_or ps k d).ticket.page ≡ x → is_some (page_at x ps) ≡ true
cached_there x [] k d low same = absurd (omega (arith, low))
cached_there x (p ∷ ps) zero d low same = let here : is_page x p ≡ true = eq-eqb p.ticket.page.0 x.0 (ap (λ (y : PageNo). y.0) same) in rw here refl
cached_there x (p ∷ ps) (suc k) d low same = by (is_page x p) (cached_there x ps k d (omega (arith, low)) same)
  where
    by : (b : Bool) → is_some (page_at x ps) ≡ true → is_some (if b then Some p else page_at x ps) ≡ true
    by true rest = refl
    by false rest = rest

-- the entry of a data page in its map page is that of the history
entry_there : (dirty : ℕ → Bool) (h : History) (p : Plain) (m : Machine) (s : Shape) → Recoverable dirty h p m → Means p m → m.shape ≡ s → (x : PageNo) → s.maps ≤ x.0 → x.0 < page_count s → slice_get (p.maps (map_of_data s x).0).entries (place_of_page s x) ≡ Some (entry_now h x.0)
entry_there dirty h p m s r ms shape x far within =
    let map = (map_of_data s x).0 in
    let place = place_of_page s x in
    let low : map < s.maps = map_of_data-below s x far within in
    let in_map : place < pages_per_map = place_of_page-below s x in
    let same : h.devices.shape ≡ s = r.shape ∙ shape in
    let stands = r.holds.history.stands (λ n. length (h.live n)) (λ n. (r.holds.history.sound n, omega arith)) in
    let lives = stands.lives map place (subst (λ (z : Shape). map < z.maps) (sym same) low) in_map in
    let here : page_of_place h.devices.shape map place ≡ x.0 = ap (λ z. page_of_place z map place) same ∙ at_its_place s x far in
    let image : image_now h map ≡ map_page (p.maps map) = r.maps map (subst (λ (z : Shape). map < z.maps) (sym shape) low) in
    let entry : slice_index_or (p.maps map).entries place (Free 0) ≡ entry_now h x.0 = sym (ap (λ i. entries_of i place) image) ∙ sym lives ∙ ap (entry_now h) here in
    let long : length (p.maps map).entries ≡ pages_per_map = (let low' = subst (λ (z : Shape). map < z.maps) (sym shape) low in ap length (ms.pages.entries map low') ∙ ms.pages.count map low') in
    slice_get-get_or (p.maps map).entries place (Free 0) (omega (arith, long, in_map)) ∙ ap Some entry

-- A page whose guard's log is whole in both histories is the same page in both, of the same life.
module _ (dirty dirty' : ℕ → Bool) (h h' : History) (p q : Plain) (m m' : Machine) (r : Recoverable dirty h p m) (r' : Recoverable dirty' h' q m') (ms : Means p m) (ms' : Means q m') (s : Shape) (shape : m.shape ≡ s) (shape' : m'.shape ≡ s) where
  pub image_left : (x : PageNo) → x.0 < page_count s → image_now h' x.0 ≡ image_now h x.0 → image_in s q x ≡ image_in s p x
  image_left x within same = by (cases_lt x.0 s.maps)
    where
      by : (x.0 < s.maps) ⊎ (s.maps ≤ x.0) → image_in s q x ≡ image_in s p x
      by (inl near) = map_image s q x near ∙ sym (r'.maps x.0 (subst (λ (z : Shape). x.0 < z.maps) (sym shape') near)) ∙ same ∙ r.maps x.0 (subst (λ (z : Shape). x.0 < z.maps) (sym shape) near) ∙ sym (map_image s p x near)
      by (inr far) = data_image s q x far ∙ sym (r'.pages x.0 (subst (λ (z : Shape). z.maps ≤ x.0) (sym shape') far) (subst (λ z. x.0 < page_count z) (sym shape') within)) ∙ same
          ∙ r.pages x.0 (subst (λ (z : Shape). z.maps ≤ x.0) (sym shape) far) (subst (λ z. x.0 < page_count z) (sym shape) within) ∙ sym (data_image s p x far)

  pub life_left : (x : PageNo) → x.0 < page_count s → entry_now h' x.0 ≡ entry_now h x.0 → option_map ident_of (entry_in s q x) ≡ option_map ident_of (entry_in s p x)
  life_left x within same = by (cases_lt x.0 s.maps)
    where
      by : (x.0 < s.maps) ⊎ (s.maps ≤ x.0) → option_map ident_of (entry_in s q x) ≡ option_map ident_of (entry_in s p x)
      by (inl near) = let low : nat_lt x.0 s.maps ≡ true = grind (arith, nat_tests) in rw low refl
      by (inr far) =
          let high : nat_lt x.0 s.maps ≡ false = grind (arith, nat_tests) in
          rw high (ap (option_map ident_of) (entry_there dirty' h' q m' s r' ms' shape' x far within ∙ ap Some same ∙ sym (entry_there dirty h p m s r ms shape x far within)))
