-- A group gets a page.
use Rattle.std.proofs.Common.{◌≡◌, ◌≢◌, ◌⊎◌, inl, inr, ◌==◌, ◌&&◌, ◌+◌, ◌*◌, ◌/◌, ◌%◌, ◌<◌, ◌≤◌, ◌++◌, ℕ, suc, Bool, true, false, cond, eqb, leb, List, [], ◌∷◌, length, refl, ap, sym, subst, ◌∙◌, arith, Option, Some, None, IsSome, option_map, slice_index_or, slice_set, eq-eqb, ne_eqb, eqb-true, leb-true, leb-false}
use Rattle.std.specs.List.{position}
use Rattle.std.specs.FinMap as finite
use Rattle.std.proofs.lemmas.Bool.{cases_eq}
use Rattle.std.proofs.lemmas.List.Quantifiers.{position-Some}
use Rattle.sd_base.specs.declared.names.GroupNo.{GroupNo}
use Rattle.sd_base.specs.declared.names.Key.{Key}
use Rattle.sd_base.specs.declared.names.TxnId.{TxnId}
use Rattle.sd_base.specs.declared.page_op.PageOp.TheVariants.{MapUse}
use Rattle.space_map.specs.declared.map_entry.MapEntry.{MapEntry}
use Rattle.space_map.specs.declared.map_entry.MapEntry.TheVariants.{Free, Used}
use Rattle.space_map.specs.Change.{applied_map}
use Rattle.space_map.specs.Entry.{ident_of as entry_ident, is_free, is_used_by}
use Rattle.space_map.specs.Image.{MapImage}
use Rattle.log_record.specs.declared.record.LogRecord.{LogRecord}
use Rattle.record_locks.specs.declared.mode.Mode.{Mode}
use Rattle.record_locks.specs.declared.mode.Mode.TheVariants as locks
use Rattle.record_locks.specs.Held.{IsLeast, Passes, is_write, least_where, mode_of, passing}
use Rattle.record_locks.specs.Order.{Lock, lock}
use Rattle.record_locks.proofs.HeldLaws.{IsLeast-least_where}
use Rattle.sd_base.specs.Places.{group_of, map_of_key, page_of_place}
use Rattle.record_machine.specs.Machine as machine
use Rattle.record_machine.specs.Machine.{Idle, Machine, free_place, home, is_busy}
use Rattle.record_machine.specs.Meaning.{Means, Plain, logged, with_map}
use Rattle.record_machine.specs.Parts as part
use Rattle.record_machine.proofs.Put.{put_true}
use Rattle.record_machine.proofs.Homes.{free_is_no_home, none_passes, position_kept}
use Rattle.record_machine.proofs.UseSteps.{home_new}
use Rattle.space_map.specs.PageImage.{PageImage, changed, ident_of}
use Rattle.recovery_theory.specs.Pages.{birth_of, entries_of, is_used}
use Rattle.space_map.specs.PageImage.{map_page}
use Rattle.recovery_theory.specs.Effect.{OpenUpdate, Transaction, effect_of, left_of, listed, of_slot, open_updates, step_on}
use Rattle.recovery_theory.specs.Effect.Effect.{Begun, Mapped}
use Rattle.recovery_theory.specs.History.{History, IsCut, entry_now, image_now, logs_at}
use Rattle.recovery_theory.specs.Records.{Holds}
use Rattle.recovery_theory.specs.Room.{HasRoom}
use Rattle.recovery_theory.specs.Steps.{set_at, used_page, with_locks, with_record}
use Rattle.recovery_theory.specs.Headroom.{IsRising}
use Rattle.recovery_theory.proofs.SlotChanges.{StepIs, step_of_map}
use Rattle.recovery_theory.proofs.Cuts.{LongCut, above_legal, above_same, below_legal, below_same, long_cut, with_last_cut-end, with_last_cut-off, set_at-other, set_at-same, with_record-other, with_record-same}
use Rattle.recovery_theory.proofs.PlaceFrees.{open-map}
use Rattle.space_map.proofs.PageImageLaws.{changed-ident}
use Rattle.recovery_theory.proofs.MappedRecords.{use_keeps}
use Rattle.recovery_theory.proofs.OpenUpdates.{left_of-append, list_cases, transaction}
use Rattle.recovery_theory.proofs.Room.{logged_keeps_room}
use Rattle.recovery_theory.proofs.KeptRecords.{locks_keep}
use Rattle.recovery_theory.proofs.Headroom.{logged_keeps_rising}
use Rattle.record_machine.proofs.OpenSeats.{open_then}
use Rattle.record_machine.specs.Recoverable.{HasSeat, IsKeptBy, IsKnown, IsStored, Recoverable, TellsSeat}
use Rattle.record_machine.specs.RecoverableParts.{UsedRecoverable}
use Rattle.record_machine.proofs.LoggedLater.{live_more, longer}
use Rattle.record_machine.proofs.RecoverableEnds.{used_is}

-- a changed map page
apply_use : (place : ℕ) (g : GroupNo) (a b : MapImage) → b ≡ applied_map (MapUse place g) a → changed (MapUse place g) (map_page a) ≡ map_page b
apply_use place g a b e = ap map_page (sym e)

free_unused : (e : MapEntry) → is_free e ≡ true → is_used e ≡ false
free_unused (Free ident) h = refl
free_unused (Used group ident) h = cc

as_free : (e : MapEntry) → is_free e ≡ true → e ≡ Free (entry_ident e)
as_free (Free ident) h = refl
as_free (Used group ident) h = cc

free_not : (e : MapEntry) (g : GroupNo) → is_free e ≡ true → is_used_by g e ≡ false
free_not (Free ident) g h = refl
free_not (Used group ident) g h = cc

no_position : (m : Machine) (key : ℕ) → home m key ≡ None → position (is_used_by (group_of key)) (m.entries (map_of_key m.shape key)) ≡ None
no_position m key e = by (position (is_used_by (group_of key)) (m.entries (map_of_key m.shape key))) refl e
  where
    by : (o : Option ℕ) → position (is_used_by (group_of key)) (m.entries (map_of_key m.shape key)) ≡ o → option_map (page_of_place m.shape (map_of_key m.shape key)) o ≡ None → o ≡ None
    by None a b = refl
    by (Some i) a b = absurd cc

-- the home of a key of another group
home_kept : (n map place : ℕ) (g : GroupNo) (m : Machine) (key : ℕ) → length (m.entries map) ≡ 252 → position is_free (m.entries map) ≡ Some place → g.0 ≢ key / 16 → home (part.one (part.Use n map place g) m) key ≡ home m key
home_kept n map place g m key count free apart = ap (option_map (page_of_place m.shape (map_of_key m.shape key))) (go (cases_eq (map_of_key m.shape key) map))
  where
    at : (place < length (m.entries map)) × (is_free (slice_index_or (m.entries map) place (Free 0)) ≡ true)
    at = let z = position-Some is_free (m.entries map) place (Free 0) free in (z.0, z.1)

    now : MapEntry
    now = Used g (entry_ident (slice_index_or (m.entries map) place (Free 0)))

    not_it : is_used_by (group_of key) (Used g (entry_ident (slice_index_or (m.entries map) place (Free 0)))) ≡ false
    not_it = ne_eqb g.0 (key / 16) apart

    go : (map_of_key m.shape key ≡ map) ⊎ (map_of_key m.shape key ≢ map) → position (is_used_by (group_of key)) (cond (eqb (map_of_key m.shape key) map) (slice_set (m.entries map) place (Used g (entry_ident (slice_index_or (m.entries map) place (Free 0))))) (m.entries (map_of_key m.shape key))) ≡ position (is_used_by (group_of key)) (m.entries (map_of_key m.shape key))
    go (inr d) = rw (ne_eqb (map_of_key m.shape key) map d) refl
    go (inl e) = rw (eq-eqb (map_of_key m.shape key) map e) (position_kept (is_used_by (group_of key)) (m.entries map) place (Used g (entry_ident (slice_index_or (m.entries map) place (Free 0)))) (Free 0) (not_it ∙ sym (free_not (slice_index_or (m.entries map) place (Free 0)) (group_of key) at.1))
        ∙ ap (λ x. position (is_used_by (group_of key)) (m.entries x)) (sym e))

module _ (dirty : ℕ → Bool) (h : History) (p : Plain) (m : Machine) (n key place : ℕ) (rec : LogRecord) (map : MapImage) (r : Recoverable dirty h p m) (means : Means p m)
    (none : home m key ≡ None) (free : free_place m key ≡ Some place) (held_map : m.hold (map_of_key m.shape key) ≡ Some n) (held_page : m.hold (page_of_place m.shape (map_of_key m.shape key) place) ≡ Some n)
    (is : effect_of rec ≡ Mapped (map_of_key m.shape key) (p.maps (map_of_key m.shape key)).ident (MapUse place (group_of key))) (fits : HasRoom h.devices n (h.live n ++ rec ∷ []))
    (new : map ≡ applied_map (MapUse place (group_of key)) (p.maps (map_of_key m.shape key))) where
  abbrev k : ℕ
  k = map_of_key m.shape key

  abbrev x : ℕ
  x = page_of_place h.devices.shape (map_of_key m.shape key) place

  abbrev h1 : History
  h1 = used_page h n rec (map_of_key m.shape key) place (group_of key)

  abbrev m' : Machine
  m' = part.one (part.Use n (map_of_key m.shape key) place (group_of key)) m

  maps_is : h.devices.shape.maps ≡ m.shape.maps
  maps_is = ap (λ s. s.maps) r.shape

  below : map_of_key m.shape key < m.shape.maps
  below = omega (arith, means.pages.shape.maps.0)

  count : length (m.entries (map_of_key m.shape key)) ≡ 252
  count = means.pages.count (map_of_key m.shape key) below

  there : (place < length (m.entries (map_of_key m.shape key))) × (is_free (slice_index_or (m.entries (map_of_key m.shape key)) place (Free 0)) ≡ true)
  there = let z = position-Some is_free (m.entries (map_of_key m.shape key)) place (Free 0) free in (z.0, z.1)

  small : place < 252
  small = let a = there.0 in omega (arith, count)

  x_is : page_of_place h.devices.shape (map_of_key m.shape key) place ≡ page_of_place m.shape (map_of_key m.shape key) place
  x_is = omega (arith, maps_is)

  entry_is : (j : ℕ) → j < 252 → entry_now h (page_of_place h.devices.shape (map_of_key m.shape key) j) ≡ slice_index_or (m.entries (map_of_key m.shape key)) j (Free 0)
  entry_is j lt =
      (r.holds.history.stands (λ i. length (h.live i)) (λ i. (r.holds.history.sound i, omega arith))).lives (map_of_key m.shape key) j (omega (arith, below, maps_is)) lt
      ∙ (ap (λ i. entries_of i j) (r.maps (map_of_key m.shape key) below) ∙ ap (λ es. slice_index_or es j (Free 0)) (means.pages.entries (map_of_key m.shape key) below))

  unused : is_used (entry_now h (page_of_place h.devices.shape (map_of_key m.shape key) place)) ≡ false
  unused = ap is_used (entry_is place small) ∙ free_unused (slice_index_or (m.entries (map_of_key m.shape key)) place (Free 0)) there.1

  guard_map : h.guard (map_of_key m.shape key) ≡ n
  guard_map = r.guard (map_of_key m.shape key) n held_map

  guard_page : h.guard (page_of_place h.devices.shape (map_of_key m.shape key) place) ≡ n
  guard_page = r.guard (page_of_place h.devices.shape (map_of_key m.shape key) place) n (ap m.hold x_is ∙ held_page)

  image : image_now h (map_of_key m.shape key) ≡ map_page (p.maps (map_of_key m.shape key))
  image = r.maps (map_of_key m.shape key) below

  effect : effect_of rec ≡ Mapped (map_of_key m.shape key) (ident_of (image_now h (map_of_key m.shape key))) (MapUse place (group_of key))
  effect = is ∙ ap (λ i. Mapped (map_of_key m.shape key) i (MapUse place (group_of key))) (sym (ap ident_of image))

  step : StepIs rec (map_of_key m.shape key) (ident_of (image_now h (map_of_key m.shape key))) (MapUse place (group_of key))
  step = step_of_map rec (map_of_key m.shape key) (ident_of (image_now h (map_of_key m.shape key))) (MapUse place (group_of key)) effect

  records : Holds h1 m.records
  records = use_keeps h n (map_of_key m.shape key) place (group_of key) rec m.records r.holds
      (record { effect = effect; is_map = omega (arith, below, maps_is); in_map = small; guarded_map = guard_map; guarded_page = guard_page })
      (record {
        free = unused;
        home = ap (λ z. (key / 16) % z) maps_is;
        none = λ j lt u g.
            let f = none_passes (is_used_by (group_of key)) (m.entries (map_of_key m.shape key)) j (Free 0) (no_position m key none) (omega (arith, count)) in
            let t = used_is (entry_now h (page_of_place h.devices.shape (map_of_key m.shape key) j)) (key / 16) u g in
            let t' : is_used_by (group_of key) (slice_index_or (m.entries (map_of_key m.shape key)) j (Free 0)) ≡ true = subst (λ e. is_used_by (group_of key) e ≡ true) (entry_is j lt) t in
            let never : true ≡ false = sym t' ∙ f in cc;
      })

  -- ---- the pages

  abbrev now : ℕ → PageImage
  now = set_at (map_of_key m.shape key) (changed (MapUse place (group_of key)) (image_now h (map_of_key m.shape key))) (image_now h)

  abbrev entries : ℕ → MapEntry
  entries = set_at (page_of_place h.devices.shape (map_of_key m.shape key) place) (Used (group_of key) (birth_of (entry_now h (page_of_place h.devices.shape (map_of_key m.shape key) place)))) (entry_now h)

  image_same : (y : ℕ) → y ≢ map_of_key m.shape key → image_now h1 y ≡ image_now h y
  image_same y ne = go (cases_eq (h.guard y) n)
    where
      go : (h.guard y ≡ n) ⊎ (h.guard y ≢ n) → image_now h1 y ≡ image_now h y
      go (inl g) = with_last_cut-end h n rec h.image now y g ∙ set_at-other (map_of_key m.shape key) (changed (MapUse place (group_of key)) (image_now h (map_of_key m.shape key))) (image_now h) y ne
      go (inr g) = with_last_cut-off h n h.image now y (length (with_record n rec h.live (h.guard y))) g ∙ ap (h.image y) (ap (λ (l : List LogRecord). length l) (with_record-other n rec h.live (h.guard y) g))

  image_here : image_now h1 (map_of_key m.shape key) ≡ map_page map
  image_here = with_last_cut-end h n rec h.image now (map_of_key m.shape key) guard_map
      ∙ (set_at-same (map_of_key m.shape key) (changed (MapUse place (group_of key)) (image_now h (map_of_key m.shape key))) (image_now h) ∙ (ap (changed (MapUse place (group_of key))) image ∙ apply_use place (group_of key) (p.maps (map_of_key m.shape key)) map new))

  entry_same : (y : ℕ) → y ≢ page_of_place h.devices.shape (map_of_key m.shape key) place → entry_now h1 y ≡ entry_now h y
  entry_same y ne = go (cases_eq (h.guard y) n)
    where
      go : (h.guard y ≡ n) ⊎ (h.guard y ≢ n) → entry_now h1 y ≡ entry_now h y
      go (inl g) = with_last_cut-end h n rec h.entry entries y g ∙ set_at-other (page_of_place h.devices.shape (map_of_key m.shape key) place) (Used (group_of key) (birth_of (entry_now h (page_of_place h.devices.shape (map_of_key m.shape key) place)))) (entry_now h) y ne
      go (inr g) = with_last_cut-off h n h.entry entries y (length (with_record n rec h.live (h.guard y))) g ∙ ap (h.entry y) (ap (λ (l : List LogRecord). length l) (with_record-other n rec h.live (h.guard y) g))

  maps_now : (y : ℕ) → y < m.shape.maps → image_now h1 y ≡ map_page (machine.put (map_of_key m.shape key) map p.maps y)
  maps_now y lt = go (cases_eq y (map_of_key m.shape key))
    where
      go : (y ≡ map_of_key m.shape key) ⊎ (y ≢ map_of_key m.shape key) → image_now h1 y ≡ map_page (machine.put (map_of_key m.shape key) map p.maps y)
      go (inl e) = subst (λ z. image_now h1 z ≡ map_page (machine.put (map_of_key m.shape key) map p.maps z)) (sym e) (image_here ∙ ap map_page (sym (set_at-same (map_of_key m.shape key) map p.maps)))
      go (inr ne) = image_same y ne ∙ (r.maps y lt ∙ ap map_page (sym (set_at-other (map_of_key m.shape key) map p.maps y ne)))

  rolled : IsRising h1
  rolled = logged_keeps_rising h n rec entries now (set_at (page_of_place h.devices.shape (map_of_key m.shape key) place) (suc (length (h.live n))) (set_at (map_of_key m.shape key) (suc (length (h.live n))) h.last)) r.holds.history r.rolled
      (λ y. guards y (cases_eq y (map_of_key m.shape key))) (λ y g. rising y (cases_eq y (map_of_key m.shape key)))
    where
      guards : (y : ℕ) → (y ≡ map_of_key m.shape key) ⊎ (y ≢ map_of_key m.shape key) → (step_on y rec ≡ []) ⊎ (h.guard y ≡ n)
      guards y (inl e) = inr (ap h.guard e ∙ guard_map)
      guards y (inr ne) = inl (step.there y ne)

      rising : (y : ℕ) → (y ≡ map_of_key m.shape key) ⊎ (y ≢ map_of_key m.shape key) → ident_of (image_now h y) + length (step_on y rec) ≤ ident_of (now y)
      rising y (inl e) = rw (e, set_at-same (map_of_key m.shape key) (changed (MapUse place (group_of key)) (image_now h (map_of_key m.shape key))) (image_now h), step.here) (omega (arith, changed-ident (MapUse place (group_of key)) (image_now h (map_of_key m.shape key))))
      rising y (inr ne) = rw (set_at-other (map_of_key m.shape key) (changed (MapUse place (group_of key)) (image_now h (map_of_key m.shape key))) (image_now h) y ne, step.there y ne) (omega arith)

  -- ---- the locks

  abbrev test : ℕ → Lock → Mode → Bool
  test j l mode = l.key.0 == j && is_write mode

  -- who may write the record of a key
  abbrev writer : ℕ → Option Transaction
  writer j = option_map (λ (u : TxnId). transaction u.node.0 (r.begun u.node.0 u.seat)) (least_where (test j) m.locks)

  -- the lock that passes is one to write the record
  passed : (j : ℕ) (other : Key) (u : TxnId) → Passes (test j) m.locks (lock other u) → (other.0 ≡ j) × (mode_of m.locks other u ≡ Some locks.Write)
  passed j other u ok = by (finite.get m.locks (lock other u)) refl ok
    where
      by : (o : Option Mode) → finite.get m.locks (lock other u) ≡ o → IsSome (passing (test j) (lock other u) o) → (other.0 ≡ j) × (mode_of m.locks other u ≡ Some locks.Write)
      by None e g = absurd cc
      by (Some mode) e g = split (other.0 == j) refl mode e g
        where
          split : (b : Bool) → (other.0 == j) ≡ b → (a : Mode) → finite.get m.locks (lock other u) ≡ Some a → IsSome (cond (b && is_write a) (Some a) None) → (other.0 ≡ j) × (mode_of m.locks other u ≡ Some locks.Write)
          split true t locks.Write e g = (eqb-true other.0 j t, e)
          split true t locks.Read e g = absurd cc
          split false t a e g = absurd cc

  passes : (other : Key) (u : TxnId) → mode_of m.locks other u ≡ Some locks.Write → Passes (test other.0) m.locks (lock other u)
  passes other u e = subst (λ o. IsSome (passing (test other.0) (lock other u) o)) (sym e) (rw (eq-eqb other.0 other.0 refl) refl)

  writer_is : (other : Key) (u : TxnId) → mode_of m.locks other u ≡ Some locks.Write → writer other.0 ≡ Some (transaction u.node.0 (r.begun u.node.0 u.seat))
  writer_is other u has = by (least_where (test other.0) m.locks) refl (IsLeast-least_where (test other.0) m.locks)
    where
      by : (o : Option TxnId) → least_where (test other.0) m.locks ≡ o → IsLeast (test other.0) m.locks o → option_map (λ (u : TxnId). transaction u.node.0 (r.begun u.node.0 u.seat)) o ≡ Some (transaction u.node.0 (r.begun u.node.0 u.seat))
      by None e l = absurd (l (lock other u) (passes other u has))
      by (Some t) e l =
          let z = passed other.0 l.0.0 t l.0.1 in
          let same : l.0.0 ≡ other = ap (λ i. record { 0 = i }) z.0 in
          let one : t ≡ u = means.locked.apart other t u locks.Write locks.Write (ap (λ q. mode_of m.locks q t) (sym same) ∙ z.1) has refl in
          ap (λ (u : TxnId). Some (transaction u.node.0 (r.begun u.node.0 u.seat))) one

  writer_of : (o : Transaction) (other : Key) → writer other.0 ≡ Some o → (u : TxnId) × (mode_of m.locks other u ≡ Some locks.Write) × (o ≡ record { node = u.node.0; txn = r.begun u.node.0 u.seat })
  writer_of o other e = by (least_where (test other.0) m.locks) (IsLeast-least_where (test other.0) m.locks) e
    where
      by : (w : Option TxnId) → IsLeast (test other.0) m.locks w → option_map (λ (u : TxnId). transaction u.node.0 (r.begun u.node.0 u.seat)) w ≡ Some o → (u : TxnId) × (mode_of m.locks other u ≡ Some locks.Write) × (o ≡ record { node = u.node.0; txn = r.begun u.node.0 u.seat })
      by None l e = absurd cc
      by (Some t) l e =
          let z = passed other.0 l.0.0 t l.0.1 in
          let same : l.0.0 ≡ other = ap (λ i. record { 0 = i }) z.0 in
          (t, ap (λ q. mode_of m.locks q t) (sym same) ∙ z.1, cc)

  abbrev pub slots : ℕ → ℕ → Option Transaction
  slots y s = cond (eqb y (page_of_place h.devices.shape (map_of_key m.shape key) place)) (writer (16 * (key / 16) + s)) (h.lock y s)

  -- nothing is left of the new page
  quiet_then : (cut : ℕ → ℕ) → IsCut h cut → (s : ℕ) (o : Transaction) → of_slot (page_of_place h.devices.shape (map_of_key m.shape key) place) s (open_updates h.devices.first (logs_at h cut) o) ≡ []
  quiet_then cut is s o = go (list_cases (of_slot (page_of_place h.devices.shape (map_of_key m.shape key) place) s (open_updates h.devices.first (logs_at h cut) o)))
    where
      go : (of_slot (page_of_place h.devices.shape (map_of_key m.shape key) place) s (open_updates h.devices.first (logs_at h cut) o) ≡ []) ⊎ (of_slot (page_of_place h.devices.shape (map_of_key m.shape key) place) s (open_updates h.devices.first (logs_at h cut) o) ≢ []) → of_slot (page_of_place h.devices.shape (map_of_key m.shape key) place) s (open_updates h.devices.first (logs_at h cut) o) ≡ []
      go (inl e) = e
      go (inr d) = let u = (r.holds.pending cut is (page_of_place h.devices.shape (map_of_key m.shape key) place) s o d).1 in let never : true ≡ false = sym u ∙ unused in absurd cc

  quiet : (cut : ℕ → ℕ) → IsCut h1 cut → (s : ℕ) (o : Transaction) → of_slot (page_of_place h.devices.shape (map_of_key m.shape key) place) s (open_updates h.devices.first (logs_at h1 cut) o) ≡ []
  quiet cut is s o = by (leb (cut n) (length (h.live n))) refl
    where
      c : LongCut h n rec cut
      c = long_cut h n rec cut is

      by : (b : Bool) → leb (cut n) (length (h.live n)) ≡ b → of_slot (page_of_place h.devices.shape (map_of_key m.shape key) place) s (open_updates h.devices.first (logs_at h1 cut) o) ≡ []
      by true e =
          let le = leb-true (cut n) (length (h.live n)) e in
          ap (λ l. of_slot (page_of_place h.devices.shape (map_of_key m.shape key) place) s (listed (left_of o.txn (h.devices.first o.node) l None))) (sym (below_same h n rec cut le o.node)) ∙ quiet_then cut (below_legal h n rec cut c le) s o
      by false e =
          let lt = leb-false (cut n) (length (h.live n)) e in
          ap (λ l. of_slot (page_of_place h.devices.shape (map_of_key m.shape key) place) s (listed (left_of o.txn (h.devices.first o.node) l None))) (sym (above_same h n rec cut lt o.node))
          ∙ (ap (of_slot (page_of_place h.devices.shape (map_of_key m.shape key) place) s) (open-map h.devices.first n (map_of_key m.shape key) (ident_of (image_now h (map_of_key m.shape key))) (MapUse place (group_of key)) rec (logs_at h (set_at n (length (h.live n)) cut)) o effect)
          ∙ quiet_then (set_at n (length (h.live n)) cut) (above_legal h n rec cut (r.holds.history.sound n) c) s o)

  held_records : Holds (with_locks h1 slots) m.records
  held_records = locks_keep h1 slots m.records records (λ y s. go y s (cases_eq y (page_of_place h.devices.shape (map_of_key m.shape key) place)))
    where
      go : (y s : ℕ) → (y ≡ page_of_place h.devices.shape (map_of_key m.shape key) place) ⊎ (y ≢ page_of_place h.devices.shape (map_of_key m.shape key) place) → (slots y s ≡ h.lock y s) ⊎ ((cut : ℕ → ℕ) → IsCut h1 cut → (o : Transaction) → of_slot y s (open_updates h.devices.first (logs_at h1 cut) o) ≡ [])
      go y s (inr ne) = inl (rw (ne_eqb y (page_of_place h.devices.shape (map_of_key m.shape key) place) ne) refl)
      go y s (inl e) = inr (λ cut is o. ap (λ z. of_slot z s (open_updates h.devices.first (logs_at h1 cut) o)) e ∙ quiet cut is s o)

  -- the homes of keys
  new_home : (other : Key) → key / 16 ≡ other.0 / 16 → home m' other.0 ≡ Some (page_of_place h.devices.shape (map_of_key m.shape key) place)
  new_home other e = home_new n place m key other.0 count none free e ∙ ap (λ z. Some z) (sym x_is)

  old_home : (other : Key) → key / 16 ≢ other.0 / 16 → home m' other.0 ≡ home m other.0
  old_home other d = home_kept n (map_of_key m.shape key) place (group_of key) m other.0 count free d

  not_old : (other : Key) (y : ℕ) → home m other.0 ≡ Some y → y ≢ page_of_place h.devices.shape (map_of_key m.shape key) place
  not_old other y e z = free_is_no_home p m other.0 y (map_of_key m.shape key) place (entry_ident (slice_index_or (m.entries (map_of_key m.shape key)) place (Free 0))) means.pages e small (as_free (slice_index_or (m.entries (map_of_key m.shape key)) place (Free 0)) there.1) (sym (z ∙ x_is))

  key_at : (other : Key) → key / 16 ≡ other.0 / 16 → 16 * (key / 16) + other.0 % 16 ≡ other.0
  key_at other e = omega (arith, e)

  locked : (u : TxnId) (other : Key) (y : ℕ) → home m' other.0 ≡ Some y → mode_of m.locks other u ≡ Some locks.Write → slots y (other.0 % 16) ≡ Some (record { node = u.node.0; txn = r.begun u.node.0 u.seat })
  locked u other y e has = go (cases_eq (key / 16) (other.0 / 16))
    where
      go : (key / 16 ≡ other.0 / 16) ⊎ (key / 16 ≢ other.0 / 16) → slots y (other.0 % 16) ≡ Some (record { node = u.node.0; txn = r.begun u.node.0 u.seat })
      go (inl g) =
          let a : y ≡ page_of_place h.devices.shape (map_of_key m.shape key) place = (let q : Some y ≡ Some (page_of_place h.devices.shape (map_of_key m.shape key) place) = sym e ∙ new_home other g in cc) in
          rw (eq-eqb y (page_of_place h.devices.shape (map_of_key m.shape key) place) a) (ap writer (key_at other g) ∙ writer_is other u has)
      go (inr d) =
          let old : home m other.0 ≡ Some y = sym (old_home other d) ∙ e in
          rw (ne_eqb y (page_of_place h.devices.shape (map_of_key m.shape key) place) (not_old other y old)) (r.locked u other y old has)

  locker : (o : Transaction) (other : Key) (y : ℕ) → home m' other.0 ≡ Some y → slots y (other.0 % 16) ≡ Some o → (u : TxnId) × (mode_of m.locks other u ≡ Some locks.Write) × (o ≡ record { node = u.node.0; txn = r.begun u.node.0 u.seat })
  locker o other y e has = go (cases_eq (key / 16) (other.0 / 16))
    where
      go : (key / 16 ≡ other.0 / 16) ⊎ (key / 16 ≢ other.0 / 16) → (u : TxnId) × (mode_of m.locks other u ≡ Some locks.Write) × (o ≡ record { node = u.node.0; txn = r.begun u.node.0 u.seat })
      go (inl g) =
          let a : y ≡ page_of_place h.devices.shape (map_of_key m.shape key) place = (let q : Some y ≡ Some (page_of_place h.devices.shape (map_of_key m.shape key) place) = sym e ∙ new_home other g in cc) in
          writer_of o other (ap writer (sym (key_at other g)) ∙ (rw (eq-eqb y (page_of_place h.devices.shape (map_of_key m.shape key) place) a) at has))
      go (inr d) =
          let old : home m other.0 ≡ Some y = sym (old_home other d) ∙ e in
          r.locker o other y old (rw (ne_eqb y (page_of_place h.devices.shape (map_of_key m.shape key) place) (not_old other y old)) at has)

  -- ---- the whole

  stored : (y : ℕ) → machine.put (page_of_place m.shape (map_of_key m.shape key) place) true (machine.put (map_of_key m.shape key) true dirty) y ≡ false → IsStored (with_locks h1 slots) y
  stored y e = go (cases_eq y (page_of_place m.shape (map_of_key m.shape key) place)) (cases_eq y (map_of_key m.shape key))
    where
      go : (y ≡ page_of_place m.shape (map_of_key m.shape key) place) ⊎ (y ≢ page_of_place m.shape (map_of_key m.shape key) place) → (y ≡ map_of_key m.shape key) ⊎ (y ≢ map_of_key m.shape key) → IsStored (with_locks h1 slots) y
      go (inl z) b = let never : true ≡ false = rw (eq-eqb y (page_of_place m.shape (map_of_key m.shape key) place) z) at e in absurd cc
      go (inr a) (inl z) = let never : true ≡ false = rw (ne_eqb y (page_of_place m.shape (map_of_key m.shape key) place) a, eq-eqb y (map_of_key m.shape key) z) at e in absurd cc
      go (inr a) (inr b) =
          let s = r.stored y (rw (ne_eqb y (page_of_place m.shape (map_of_key m.shape key) place) a, ne_eqb y (map_of_key m.shape key) b) at e) in
          let a' : y ≢ page_of_place h.devices.shape (map_of_key m.shape key) place = λ z. a (z ∙ x_is) in
          record { sure = rw (ne_eqb y (page_of_place h.devices.shape (map_of_key m.shape key) place) a', ne_eqb y (map_of_key m.shape key) b) s.sure; clean = rw (image_same y b, entry_same y a') s.clean }

  seats : (u : TxnId) → is_busy m u ≡ true → TellsSeat (with_locks h1 slots) m' u (r.begun u.node.0 u.seat)
  seats u b =
      let z = r.seats u b in record { left = z.left; going = going (cases_eq u.node.0 n) ∙ z.going; begins = z.begins; writes = z.writes }
    where
      going : (u.node.0 ≡ n) ⊎ (u.node.0 ≢ n) → left_of (r.begun u.node.0 u.seat) (h.devices.first u.node.0) (with_record n rec h.live u.node.0) None ≡ left_of (r.begun u.node.0 u.seat) (h.devices.first u.node.0) (h.live u.node.0) None
      going (inr q) = rw (with_record-other n rec h.live u.node.0 q) refl
      going (inl q) = subst (λ z. left_of (r.begun u.node.0 u.seat) (h.devices.first z) (with_record n rec h.live z) None ≡ left_of (r.begun u.node.0 u.seat) (h.devices.first z) (h.live z) None) (sym q)
          (ap (λ l. left_of (r.begun u.node.0 u.seat) (h.devices.first n) l None) (with_record-same n rec h.live)
          ∙ (left_of-append (r.begun u.node.0 u.seat) (h.devices.first n) (h.live n) rec None ∙ rw is refl))

  opens : (j txn : ℕ) (us : List OpenUpdate) → left_of txn (h.devices.first j) (with_record n rec h.live j) None ≡ Some us → HasSeat m' r.begun j txn
  opens = open_then h.devices.first n rec h.live (HasSeat m' r.begun) (λ b. let never : Begun ≡ Mapped (map_of_key m.shape key) (p.maps (map_of_key m.shape key)).ident (MapUse place (group_of key)) = sym b ∙ is in absurd cc)
      (λ j txn us e apart. let z = r.opens j txn us e in record { who = z.who; node = z.node; busy = z.busy; begins = z.begins })

  known : (u : TxnId) → IsKnown m' u → IsKnown m u
  known u (inl b) = inl b
  known u (inr l) = inr l

  pub used_now : m.mode n ≢ Idle → Recoverable (machine.put (page_of_place m.shape (map_of_key m.shape key) place) true (machine.put (map_of_key m.shape key) true dirty)) (with_locks h1 slots) (logged n rec (with_map (map_of_key m.shape key) map p)) m'
  used_now working = record {
    holds = held_records;
    roomy = (let z = logged_keeps_room h n rec entries now (set_at (page_of_place h.devices.shape (map_of_key m.shape key) place) (suc (length (h.live n))) (set_at (map_of_key m.shape key) (suc (length (h.live n))) h.last)) r.holds.history r.roomy (rw is tt) (rw is refl) fits in record { whole = z.whole; loose = z.loose });
    rolled = record { others = rolled.others; own = rolled.own };
    shape = r.shape;
    first = r.first;
    live = live_more n rec h.live p.live r.live;
    maps = maps_now;
    pages = λ y low high. image_same y (λ e. absurd (omega (arith, below))) ∙ r.pages y low high;
    guard = r.guard;
    stored = stored;
    begun = r.begun;
    seats = seats;
    opens = opens;
    below = λ u up k. longer n rec h.devices.first h.live u.node.0 (r.begun u.node.0 u.seat) (r.below u up (known u k));
    idle = λ u rest k. r.idle u rest (known u k);
    holder = put_true (machine.put (map_of_key m.shape key) true dirty) (page_of_place m.shape (map_of_key m.shape key) place) (λ y. IsKeptBy m' y (h.guard y)) (kept (page_of_place m.shape (map_of_key m.shape key) place) held_page)
        (put_true dirty (map_of_key m.shape key) (λ y. IsKeptBy m' y (h.guard y)) (kept (map_of_key m.shape key) held_map) r.holder);
    apart = λ a b y z. r.apart a b (known a y) (known b z);
    locked = locked;
    locker = locker;
  }
    where
      kept : (y : ℕ) → m.hold y ≡ Some n → IsKeptBy m' y (h.guard y)
      kept y held = subst (IsKeptBy m' y) (sym (r.guard y n held)) (inl (held, working))

  pub used_begun : (working : m.mode n ≢ Idle) → (used_now working).begun ≡ r.begun
  unfolding used_now
  used_begun working = refl

pub used_recoverable : UsedRecoverable
used_recoverable dirty h p m n key place rec map r means working none free held_map held_page is fits new =
    (slots dirty h p m n key place rec map r means none free held_map held_page is fits new, used_now dirty h p m n key place rec map r means none free held_map held_page is fits new working)
