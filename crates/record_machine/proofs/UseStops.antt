-- A group gets a page: the loose change that the machine keeps is what its record changes.
use Rattle.std.proofs.Common.{◌≡◌, ◌≢◌, ◌⊎◌, inl, inr, ◌==◌, ◌||◌, ◌+◌, ◌<◌, ◌≤◌, ◌++◌, ◌∷◌, ℕ, suc, Bool, true, false, List, [], length, take, All, IfSome, refl, ap, sym, subst, ◌∙◌, arith, Option, Some, None, option_map, position, slice_index_or, slice_set, eq-eqb, eqb-true}
use Rattle.std.specs.List.{list_any}
use Rattle.std.proofs.lemmas.Bool.{cases_eq}
use Rattle.std.proofs.lemmas.List.Folds.{Any-from_list_any}
use Rattle.sd_base.specs.Places.{group_of, map_of_group, map_of_key, page_of_place}
use Rattle.sd_base.specs.Shape.{pages_per_map}
use Rattle.sd_base.specs.declared.page_op.PageOp.TheVariants.{MapUse}
use Rattle.sd_base.proofs.PlaceLaws.{map_of_key-below}
use Rattle.space_map.specs.declared.map_entry.MapEntry.{MapEntry}
use Rattle.space_map.specs.declared.map_entry.MapEntry.TheVariants.{Free, Used}
use Rattle.space_map.specs.Change.{applied_map}
use Rattle.space_map.specs.Entry.{is_free, is_used_by}
use Rattle.space_map.specs.Image.{MapImage}
use Rattle.space_map.specs.PageImage.{changed}
use Rattle.log_record.specs.declared.record.LogRecord.{LogRecord}
use Rattle.recovery_theory.specs.Effect.{Transaction, effect_of}
use Rattle.recovery_theory.specs.Effect.Effect.{Mapped}
use Rattle.recovery_theory.specs.History.{History, entry_now, image_now}
use Rattle.recovery_theory.specs.Pages.{birth_of, is_used}
use Rattle.recovery_theory.specs.Room.{HasRoom}
use Rattle.recovery_theory.specs.Steps.{set_at, used_page, with_locks}
use Rattle.recovery_theory.proofs.Cuts.{set_at-other, set_at-same}
use Rattle.record_machine.specs.CutParts.{UsedSurvives}
use Rattle.record_machine.specs.Cuts.{MayStop, Survives, TellsLog, touches}
use Rattle.record_machine.specs.Machine.{Deed, Idle, Machine, Write, free_place, home, put}
use Rattle.record_machine.specs.Meaning.{IsUsed, Means, Plain, logged, now_used, with_map, writes_key}
use Rattle.record_machine.specs.Parts.{Use, before, one}
use Rattle.record_machine.specs.Recoverable.{Recoverable}
use Rattle.record_machine.proofs.CutSteps.{opened_now, put_back, told_still}
use Rattle.record_machine.proofs.LoggedStops.{LogGrows, MachineGrows, logged_stops}
use Rattle.record_machine.proofs.Put.{put_other, put_same}
use Rattle.record_machine.proofs.RecoverableUses.{slots, used_begun, used_now}
use Rattle.record_machine.proofs.Steps.{means_used}
use Rattle.record_machine.proofs.ToldNow.{AreOpened, entries_now, ident_now, tail_now, tie_now, told_now}
use Rattle.record_machine.proofs.UseSteps.{free_there, home_kept}

-- a group that is written has a page
written_home : (m : Machine) (seat other : ℕ) (ds : List Deed) → All (λ d. IfSome d.write (λ w. home m w.key ≡ Some w.page)) ds → list_any (writes_key seat other) ds ≡ true → (y : ℕ) × (home m other ≡ Some y)
written_home m seat other ds homes any =
    let z = Any-from_list_any (writes_key seat other) ds any in
    by z.1 z.4 (subst (λ (d : Deed). IfSome d.write (λ w. home m w.key ≡ Some w.page)) z.3 (homes z.0 z.1 z.2))
  where
    by : (d : Deed) → writes_key seat other d ≡ true → IfSome d.write (λ w. home m w.key ≡ Some w.page) → (y : ℕ) × (home m other ≡ Some y)
    by d is at = go (d.seat == seat) refl d.write refl at
      where
        go : (a : Bool) → (d.seat == seat) ≡ a → (o : Option Write) → d.write ≡ o → IfSome o (λ w. home m w.key ≡ Some w.page) → (y : ℕ) × (home m other ≡ Some y)
        go false p o q at = let never : false ≡ true = rw p at is in absurd cc
        go true p None q at = let never : false ≡ true = rw (p, q) at is in absurd cc
        go true p (Some w) q at = let same : (w.key == other) ≡ true = rw (p, q) at is in (w.page, ap (home m) (sym (eqb-true w.key other same)) ∙ at)

-- a free entry is no group's
not_used : (e : MapEntry) → is_free e ≡ true → is_used e ≡ false
not_used (Free ident) is = refl
not_used (Used group ident) is = absurd cc

module _ (dirty : ℕ → Bool) (h : History) (p : Plain) (m : Machine) (n key place : ℕ) (rec : LogRecord) (map : MapImage) (s : Survives dirty h p m) (up : m.mode n ≢ Idle)
    (none : home m key ≡ None) (free : free_place m key ≡ Some place) (held_map : m.hold (map_of_key m.shape key) ≡ Some n) (held_page : m.hold (page_of_place m.shape (map_of_key m.shape key) place) ≡ Some n)
    (is : effect_of rec ≡ Mapped (map_of_key m.shape key) (p.maps (map_of_key m.shape key)).ident (MapUse place (group_of key))) (fits : HasRoom h.devices n (h.live n ++ rec ∷ []))
    (new : map ≡ applied_map (MapUse place (group_of key)) (p.maps (map_of_key m.shape key))) (used : IsUsed m (map_of_key m.shape key) place (group_of key) (p.maps (map_of_key m.shape key)) map) where
  abbrev mp : ℕ
  mp = map_of_key m.shape key

  abbrev x : ℕ
  x = page_of_place h.devices.shape (map_of_key m.shape key) place

  abbrev last' : ℕ → ℕ
  last' = set_at x (suc (length (h.live n))) (set_at mp (suc (length (h.live n))) h.last)

  abbrev entry' : ℕ → MapEntry
  entry' = set_at x (Used (group_of key) (birth_of (entry_now h x))) (entry_now h)

  abbrev lock' : ℕ → ℕ → Option Transaction
  lock' = slots dirty h p m n key place rec map s.recoverable s.means none free held_map held_page is fits new

  abbrev h' : History
  h' = with_locks (used_page h n rec (map_of_key m.shape key) place (group_of key)) lock'

  abbrev p' : Plain
  p' = logged n rec (with_map (map_of_key m.shape key) map p)

  abbrev m' : Machine
  m' = one (Use n (map_of_key m.shape key) place (group_of key)) m

  abbrev dirty' : ℕ → Bool
  dirty' = put (page_of_place m.shape (map_of_key m.shape key) place) true (put (map_of_key m.shape key) true dirty)

  abbrev r' : Recoverable dirty' h' p' m'
  r' = used_now dirty h p m n key place rec map s.recoverable s.means none free held_map held_page is fits new up

  means' : Means p' m'
  means' = means_used p m n place key rec map none free used s.means

  low : mp < m.shape.maps
  low = map_of_key-below m.shape key s.means.pages.shape

  count : length (m.entries mp) ≡ pages_per_map
  count = s.means.pages.count mp low

  there : (place < pages_per_map) × (is_free (slice_index_or (m.entries mp) place (Free 0)) ≡ true)
  there = free_there m mp place count free

  unused : is_used (entry_now h x) ≡ false
  unused = subst (λ z. is_used (entry_now h (page_of_place z mp place)) ≡ false) (sym s.recoverable.shape) (ap is_used (tie_now dirty h p m s.recoverable s.means mp place low there.0) ∙ not_used (slice_index_or (m.entries mp) place (Free 0)) there.1)

  guard_page : h.guard x ≡ n
  guard_page = subst (λ z. h.guard (page_of_place z mp place) ≡ n) (sym s.recoverable.shape) (s.recoverable.guard (page_of_place m.shape mp place) n held_page)

  -- a group that has a page keeps it
  other_group : (other y : ℕ) → home m other ≡ Some y → (group_of key).0 ≢ (group_of other).0
  other_group other y at same =
      let one_home : home m key ≡ home m other = ap (λ g. option_map (page_of_place m.shape (map_of_group m.shape (record { 0 = g }))) (position (is_used_by (record { 0 = g })) (m.entries (map_of_group m.shape (record { 0 = g }))))) same in
      let never : None ≡ Some y = sym none ∙ (one_home ∙ at) in
      absurd cc

  home_same : (other y : ℕ) → home m other ≡ Some y → home m' other ≡ home m other
  home_same other y at = home_kept n mp place (group_of key) m other count free (other_group other y at)

  grows : MachineGrows m m' n (before n (mp ∷ []) (Some mp) m)
  grows = record {
    shape = refl;
    start = λ j. refl;
    mode = λ j. refl;
    loose_here = put_same n (m.loose n ++ before n (mp ∷ []) (Some mp) m ∷ []) m.loose n refl;
    loose_other = λ j d. put_other n (m.loose n ++ before n (mp ∷ []) (Some mp) m ∷ []) m.loose j d;
    locks = refl;
    pending_other = λ j d. refl;
    tail_other = λ j d. put_other n (m.tail n + 1) m.tail j d;
    number = refl;
    pending = refl;
    ident = λ y. put_back mp (m.ident mp + 1) m.ident y;
    entries = λ y. put_back mp (slice_set (m.entries mp) place (now_used (group_of key) m mp place)) m.entries y;
  }

  opened' : AreOpened m'
  opened' = opened_now dirty h p m s

  touched : (y : ℕ) → touches y (before n (mp ∷ []) (Some mp) m) ≡ true → y ≡ mp
  touched y e = sym (eqb-true mp y (by (mp == y) e))
    where
      by : (b : Bool) → ((b || false) || b) ≡ true → b ≡ true
      by true e = refl
      by false e = absurd cc

  untouched : (y : ℕ) → touches y (before n (mp ∷ []) (Some mp) m) ≡ false → y ≢ mp
  untouched y e same = let never : true ≡ false = rw (eq-eqb mp y (sym same)) at e in absurd cc

  at_end : (y : ℕ) → y ≡ mp → length (h.live n) < last' y
  at_end y e = go (cases_eq y x)
    where
      go : (y ≡ x) ⊎ (y ≢ x) → length (h.live n) < last' y
      go (inl q) = subst (λ z. length (h.live n) < last' z) (sym q) (rw (set_at-same x (suc (length (h.live n))) (set_at mp (suc (length (h.live n))) h.last)) (omega arith))
      go (inr d) = rw (set_at-other x (suc (length (h.live n))) (set_at mp (suc (length (h.live n))) h.last) y d)
          (subst (λ z. length (h.live n) < set_at mp (suc (length (h.live n))) h.last z) (sym e) (rw (set_at-same mp (suc (length (h.live n))) h.last) (omega arith)))

  kept : (y k : ℕ) → y ≢ mp → last' y ≤ k → (h.guard y ≢ n) ⊎ (k ≤ length (h.live n)) → (y ≡ x) ⊎ (y ≢ x) → h.last y ≤ k
  kept y k d le how (inr e) = rw (set_at-other x (suc (length (h.live n))) (set_at mp (suc (length (h.live n))) h.last) y e, set_at-other mp (suc (length (h.live n))) h.last y d) at le
  kept y k d le (inl g) (inl e) = absurd (g (ap h.guard e ∙ guard_page))
  kept y k d le (inr short) (inl e) =
      let far : suc (length (h.live n)) ≤ k = subst (λ i. i ≤ k) (set_at-same x (suc (length (h.live n))) (set_at mp (suc (length (h.live n))) h.last)) (subst (λ z. last' z ≤ k) e le) in
      absurd (omega (arith, far, short))

  log : LogGrows h h' m m' s.recoverable.begun s.recoverable.begun n rec (before n (mp ∷ []) (Some mp) m) entry' last'
  log = record {
    touched = λ y e. (let q = touched y e in (ap h.guard q ∙ s.recoverable.guard mp n held_map, at_end y q));
    kept = λ y k e le how. kept y k (untouched y e) le how (cases_eq y x);
    told = λ j k ds at tells. told_still m m' s.recoverable.begun s.recoverable.begun j (h.devices.first j) (take k (h.live j)) ds tells
        (λ seat other any. refl) (λ other y e. home_same other y e ∙ e) (λ seat other y any e. (let z = written_home m seat other ds tells.homes any in sym (home_same other z.0 z.1) ∙ e)) (λ seat other any e. e) (λ seat any e. e) (λ seat any. refl);
    now = subst (λ b. TellsLog m' b n (h.devices.first n) (h'.live n) (m'.pending n)) (used_begun dirty h p m n key place rec map s.recoverable s.means none free held_map held_page is fits new up) (told_now dirty' h' p' m' r' means' opened' n);
    tail = tail_now dirty' h' p' m' r' means' n;
    ident_is = ident_now dirty' h' p' m' r' means';
    entries_are = entries_now dirty' h' p' m' r' means';
    writes = λ y. omega arith;
    used = λ y e. still y e (cases_eq y x);
    at_work = up;
  }
    where
      still : (y : ℕ) → is_used (entry_now h y) ≡ true → (y ≡ x) ⊎ (y ≢ x) → entry' y ≡ entry_now h y
      still y e (inl q) = let never : true ≡ false = sym e ∙ (ap (λ z. is_used (entry_now h z)) q ∙ unused) in absurd cc
      still y e (inr d) = set_at-other x (Used (group_of key) (birth_of (entry_now h x))) (entry_now h) y d

  pub used_here : Survives dirty' h' p' m'
  used_here = record {
    recoverable = r';
    means = means';
    stops = subst (MayStop h' m') (sym (used_begun dirty h p m n key place rec map s.recoverable s.means none free held_map held_page is fits new up)) (logged_stops h m m' s.recoverable.begun s.recoverable.begun n rec (before n (mp ∷ []) (Some mp) m) entry' (set_at mp (changed (MapUse place (group_of key)) (image_now h mp)) (image_now h)) last' lock' s.stops (s.recoverable.holds.history.sound n) grows log);
  }

pub used_survives : UsedSurvives
used_survives dirty h p m n key place rec map s up none free held_map held_page is fits new used =
    (slots dirty h p m n key place rec map s.recoverable s.means none free held_map held_page is fits new, used_here dirty h p m n key place rec map s up none free held_map held_page is fits new used)
