-- The pages of a history after a stop are what the machine has with its loose changes taken back.
use Rattle.std.proofs.Common.{◌≡◌, ◌≢◌, ◌⊎◌, inl, inr, ◌-◌, ◌<◌, ◌≤◌, ℕ, Bool, true, false, List, [], length, take, refl, ap, sym, subst, ◌∙◌, arith, Some, slice_index_or, length-take-le, take_all}
use Rattle.space_map.specs.Entry.{is_used_by}
use Rattle.std.specs.List.{list_any}
use Rattle.std.proofs.lemmas.List.{drop_all}
use Rattle.std.proofs.lemmas.Bool.{cases_eq}
use Rattle.sd_base.specs.declared.shape.Shape.{Shape}
use Rattle.sd_base.specs.Places.{page_of_place, group_of}
use Rattle.sd_base.specs.Shape.{page_count, pages_per_map}
use Rattle.page_image.specs.declared.page_view.PageView.{PageView}
use Rattle.space_map.specs.Image.{MapImage}
use Rattle.space_map.specs.PageImage.{PageImage, data_page, ident_of, map_page}
use Rattle.space_map.specs.declared.map_entry.MapEntry.{MapEntry}
use Rattle.space_map.specs.declared.map_entry.MapEntry.TheVariants.{Free}
use Rattle.log_record.specs.declared.record.LogRecord.{LogRecord}
use Rattle.recovery_theory.specs.History.{History, IsCut, entry_at, entry_now, image_at, image_now, logs_at}
use Rattle.recovery_theory.specs.Pages.{IsImageOf, entries_of, is_used}
use Rattle.recovery_theory.specs.Records.{Holds}
use Rattle.recovery_theory.specs.Standing.{IsStanding}
use Rattle.recovery_theory.specs.Steps.{IsPlaceToCut, stopped}
use Rattle.recovery_theory.proofs.Cuts.{set_at-other, set_at-same}
use Rattle.recovery_theory.proofs.UpdatedRecords.{stop_keeps}
use Rattle.record_machine.specs.Cuts.{Survives, TellsLog, behind_cut, deeds_at, touches}
use Rattle.record_machine.specs.Machine.{LooseChange, Machine, home}
use Rattle.record_machine.specs.Meaning.{Plain}
use Rattle.record_machine.specs.Recoverable.{Recoverable}
use Rattle.record_machine.specs.Stops.{halted, pending_before}
use Rattle.record_machine.proofs.HomePlaces.{IsHome, home_of_page, page_of_home}
use Rattle.record_machine.proofs.RecoverableEnds.{is_used_of}
use Rattle.record_machine.proofs.StopSteps.{idents_left, pending_others}
use Rattle.record_machine.proofs.ToldNow.{ident_now, tie_now}
use Rattle.record_machine.proofs.TakenBack.{entries_left, untouched}

-- the map page, and the data page, that an image is
abbrev pub map_in : PageImage → MapImage
map_in (map_page i) = i
map_in (data_page v) = record { page = v.page; ident = v.ident; entries = [] }

abbrev pub data_in : PageImage → PageView
data_in (data_page v) = v
data_in (map_page i) = record { page = i.page; ident = i.ident; slots = [] }

shaped_map : (shape : Shape) (x : ℕ) (i : PageImage) → x < shape.maps → IsImageOf shape x i → (i ≡ map_page (map_in i)) × (length (map_in i).entries ≡ pages_per_map) × ((map_in i).page.0 ≡ x)
shaped_map shape x (data_page v) lt is = absurd (omega (arith, is.0))
shaped_map shape x (map_page i) lt is = (refl, is.2, is.1)

shaped_data : (shape : Shape) (x : ℕ) (i : PageImage) → shape.maps ≤ x → IsImageOf shape x i → (i ≡ data_page (data_in i)) × ((data_in i).page.0 ≡ x)
shaped_data shape x (data_page v) le is = (refl, is.1)
shaped_data shape x (map_page i) le is = absurd (omega (arith, is.0))

-- at the end of a log nothing is taken back
pub nothing_behind : (h : History) (m : Machine) (j : ℕ) → behind_cut h m j (length (h.live j)) ≡ []
nothing_behind h m j = drop_all (length (m.loose j) - (length (h.live j) - length (h.live j))) (m.loose j) (omega arith)

pub deeds_now : (h : History) (m : Machine) (j : ℕ) → deeds_at h m j (length (h.live j)) ≡ m.pending j
deeds_now h m j = ap (λ l. pending_before j l m.pending j) (nothing_behind h m j)

module _ (dirty : ℕ → Bool) (h : History) (p : Plain) (m : Machine) (n cut : ℕ) (s : Survives dirty h p m) (place : IsPlaceToCut h n cut) where
  abbrev r : Recoverable dirty h p m
  r = s.recoverable

  abbrev cs : List LooseChange
  cs = behind_cut h m n cut

  abbrev h' : History
  h' = stopped h n cut

  abbrev m' : Machine
  m' = halted n (length (m.loose n) - (length (h.live n) - cut)) m

  -- what the shorter logs and their pages are
  abbrev pub plain_after : Plain
  plain_after = record { live = h'.live; maps = λ x. map_in (image_now h' x); pages = λ x. data_in (image_now h' x) }

  abbrev end : ℕ → ℕ
  end k = length (h.live k)

  abbrev end' : ℕ → ℕ
  end' k = length (h'.live k)

  pub live_here : h'.live n ≡ take cut (h.live n)
  live_here = set_at-same n (take cut (h.live n)) h.live

  pub live_other : (j : ℕ) → j ≢ n → h'.live j ≡ h.live j
  live_other j d = set_at-other n (take cut (h.live n)) h.live j d

  pub long : length (h'.live n) ≡ cut
  long = ap (λ (l : List LogRecord). length l) live_here ∙ length-take-le cut (h.live n) place.high

  pub held : Holds h' m.records
  held = stop_keeps h n cut m.records s.recoverable.holds place

  pub is_end : IsCut h' end'
  is_end k = (held.history.sound k, omega arith)

  pub standing : IsStanding h'.devices (logs_at h' end') h'.guard (entry_at h' end') (image_at h' end') h'.settled h'.lock
  standing = held.history.stands end' is_end

  pub image_here : (x : ℕ) → h.guard x ≡ n → image_now h' x ≡ h.image x cut
  image_here x g = ap (h.image x) (ap (λ k. length (h'.live k)) g ∙ long)

  pub image_other : (x : ℕ) → h.guard x ≢ n → image_now h' x ≡ image_now h x
  image_other x d = ap (h.image x) (ap (λ (l : List LogRecord). length l) (live_other (h.guard x) d))

  pub entry_here : (x : ℕ) → h.guard x ≡ n → entry_now h' x ≡ h.entry x cut
  entry_here x g = ap (h.entry x) (ap (λ k. length (h'.live k)) g ∙ long)

  pub entry_other : (x : ℕ) → h.guard x ≢ n → entry_now h' x ≡ entry_now h x
  entry_other x d = ap (h.entry x) (ap (λ (l : List LogRecord). length l) (live_other (h.guard x) d))

  maps_is : h.devices.shape.maps ≡ m.shape.maps
  maps_is = ap (λ z. z.maps) s.recoverable.shape

  -- pages that the other nodes log are as they were
  pub off : (x : ℕ) → h.guard x ≢ n → list_any (touches x) cs ≡ false
  off x d = (s.stops.back n cut place).others x (inl d)

  pub ident_is : (x : ℕ) → x < page_count m.shape → m'.ident x ≡ ident_of (image_now h' x)
  ident_is x lt = go (cases_eq (h.guard x) n)
    where
      go : (h.guard x ≡ n) ⊎ (h.guard x ≢ n) → m'.ident x ≡ ident_of (image_now h' x)
      go (inl g) = (s.stops.back n cut place).ident x lt g ∙ ap ident_of (sym (image_here x g))
      go (inr d) = idents_left x cs m.ident (untouched x cs (off x d)) ∙ (ident_now dirty h p m s.recoverable s.means x lt ∙ ap ident_of (sym (image_other x d)))

  shaped_low : (x : ℕ) → x < m.shape.maps → (image_now h' x ≡ map_page (plain_after.maps x)) × (length (plain_after.maps x).entries ≡ pages_per_map) × ((plain_after.maps x).page.0 ≡ x)
  shaped_low x lt = shaped_map h.devices.shape x (image_now h' x) (omega (arith, lt, maps_is)) (standing.shaped x)

  shaped_high : (x : ℕ) → m.shape.maps ≤ x → (image_now h' x ≡ data_page (plain_after.pages x)) × ((plain_after.pages x).page.0 ≡ x)
  shaped_high x le = shaped_data h.devices.shape x (image_now h' x) (omega (arith, le, maps_is)) (standing.shaped x)

  pub map_is : (x : ℕ) → x < m.shape.maps → image_now h' x ≡ map_page (plain_after.maps x)
  map_is x lt = (shaped_low x lt).0

  pub map_number : (x : ℕ) → x < m.shape.maps → (plain_after.maps x).page.0 ≡ x
  map_number x lt = (shaped_low x lt).2

  pub page_is : (x : ℕ) → m.shape.maps ≤ x → image_now h' x ≡ data_page (plain_after.pages x)
  page_is x le = (shaped_high x le).0

  pub page_number : (x : ℕ) → m.shape.maps ≤ x → (plain_after.pages x).page.0 ≡ x
  page_number x le = (shaped_high x le).1

  pub entries_are : (x : ℕ) → x < m.shape.maps → m'.entries x ≡ (plain_after.maps x).entries
  entries_are x lt = go (cases_eq (h.guard x) n)
    where
      go : (h.guard x ≡ n) ⊎ (h.guard x ≢ n) → m'.entries x ≡ (plain_after.maps x).entries
      go (inl g) = (s.stops.back n cut place).entries x (plain_after.maps x) lt g (sym (image_here x g) ∙ map_is x lt)
      go (inr d) = entries_left x cs m.entries (off x d) ∙ (sym (s.means.pages.entries x lt) ∙ ap (λ i. (map_in i).entries) (sym (s.recoverable.maps x lt) ∙ sym (image_other x d)))

  pub count_is : (x : ℕ) → x < m.shape.maps → length (m'.entries x) ≡ pages_per_map
  count_is x lt = ap (λ (l : List MapEntry). length l) (entries_are x lt) ∙ (shaped_low x lt).1

  -- the entry of a place is the machine's
  pub tie_after : (k q : ℕ) → k < m.shape.maps → q < pages_per_map → entry_now h' (page_of_place m.shape k q) ≡ slice_index_or (m'.entries k) q (Free 0)
  tie_after k q lt le = subst (λ z. entry_now h' (page_of_place z k q) ≡ entries_of (image_now h' k) q) s.recoverable.shape (standing.lives k q (omega (arith, lt, maps_is)) le)
      ∙ (ap (λ i. entries_of i q) (map_is k lt) ∙ ap (λ es. slice_index_or es q (Free 0)) (sym (entries_are k lt)))

  -- ---- where the groups have their pages

  entry_kept : (x : ℕ) → is_used (entry_now h' x) ≡ true → entry_now h' x ≡ entry_now h x
  entry_kept x used = go (cases_eq (h.guard x) n)
    where
      go : (h.guard x ≡ n) ⊎ (h.guard x ≢ n) → entry_now h' x ≡ entry_now h x
      go (inl g) = entry_here x g ∙ s.stops.used x cut (subst (λ k. IsPlaceToCut h k cut) (sym g) place) (ap is_used (sym (entry_here x g)) ∙ used)
      go (inr d) = entry_other x d

  -- a group that has a page then has it now
  pub home_back : (key x : ℕ) → home m' key ≡ Some x → home m key ≡ Some x
  home_back key x is =
      let a : IsHome h' m' key x = page_of_home h' m.records m' held s.recoverable.shape s.means.pages.shape count_is tie_after key x is in
      let same = entry_kept x (is_used_of (group_of key) (entry_now h' x) a.used).0 in
      home_of_page h m.records m s.recoverable.holds s.recoverable.shape s.means.pages.shape s.means.pages.count (tie_now dirty h p m s.recoverable s.means) key a.place a.within
      (ap (λ y. is_used_by (group_of key) (entry_now h y)) (sym a.page) ∙ (ap (is_used_by (group_of key)) (sym same) ∙ a.used))
      ∙ ap (λ y. Some y) (sym a.page)

  -- and one that has it now has it then, where the page is in use then
  pub home_kept : (key x : ℕ) → home m key ≡ Some x → is_used (entry_now h' x) ≡ true → home m' key ≡ Some x
  home_kept key x is used =
      let a : IsHome h m key x = page_of_home h m.records m s.recoverable.holds s.recoverable.shape s.means.pages.shape s.means.pages.count (tie_now dirty h p m s.recoverable s.means) key x is in
      let same = entry_kept x used in
      home_of_page h' m.records m' held s.recoverable.shape s.means.pages.shape count_is tie_after key a.place a.within
      (ap (λ y. is_used_by (group_of key) (entry_now h' y)) (sym a.page) ∙ (ap (is_used_by (group_of key)) same ∙ a.used))
      ∙ ap (λ y. Some y) (sym a.page)

  -- ---- what the logs tell

  pub whole : (j : ℕ) → IsPlaceToCut h j (length (h.live j))
  whole j = record { low = s.recoverable.holds.history.sound j; high = omega arith }

  pub told : (j : ℕ) → TellsLog m s.recoverable.begun j (h.devices.first j) (h'.live j) (m'.pending j)
  told j = go (cases_eq j n)
    where
      go : (j ≡ n) ⊎ (j ≢ n) → TellsLog m s.recoverable.begun j (h.devices.first j) (h'.live j) (m'.pending j)
      go (inl e) = subst (λ k. TellsLog m s.recoverable.begun k (h.devices.first k) (h'.live k) (m'.pending k)) (sym e)
          (subst (λ l. TellsLog m s.recoverable.begun n (h.devices.first n) l (m'.pending n)) (sym live_here) (s.stops.back n cut place).log)
      go (inr d) = subst (λ l. TellsLog m s.recoverable.begun j (h.devices.first j) l (m'.pending j)) (take_all (length (h.live j)) (h.live j) (omega arith) ∙ sym (live_other j d))
          (subst (λ ds. TellsLog m s.recoverable.begun j (h.devices.first j) (take (length (h.live j)) (h.live j)) ds) (deeds_now h m j ∙ sym (pending_others n j cs m.pending d)) (s.stops.back j (length (h.live j)) (whole j)).log)
