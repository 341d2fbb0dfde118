-- A place of a map page is used for a group.
use Rattle.std.proofs.Common.{◌++◌, ◌≡◌, ◌≤◌, false, ◌≢◌, ◌⊎◌, inl, inr, ℕ, suc, ◌<◌, true, cond, eqb, List, [], length, refl, ap, sym, subst, ◌∙◌, arith, Option, eq-eqb, ne_eqb}
use Rattle.std.proofs.lemmas.Bool.{cases_eq, both_ways}
use Rattle.sd_base.specs.Places.{page_of_place}
use Rattle.sd_base.specs.Shape.{pages_per_map}
use Rattle.sd_base.specs.declared.names.GroupNo.{GroupNo}
use Rattle.log_record.specs.declared.record.LogRecord.{LogRecord}
use Rattle.recovery_theory.specs.Effect.{step_on, Transaction, of_slot, effect_of}
use Rattle.recovery_theory.specs.Effect.Effect.{Mapped}
use Rattle.recovery_theory.specs.History.{image_now, entry_now}
use Rattle.recovery_theory.specs.Pages.{SlotValue, slots_of, entries_of, birth_of, is_used, IsImageOf, blank}
use Rattle.recovery_theory.specs.Standing.{Devices, Settles, PageChain, IsStanding, Apart}
use Rattle.recovery_theory.specs.Steps.{with_record, set_at, UseKeepsHistory}
use Rattle.sd_base.specs.declared.page_op.PageOp.{PageOp}
use Rattle.sd_base.specs.declared.page_op.PageOp.TheVariants.{MapUse}
use Rattle.space_map.specs.declared.map_entry.MapEntry.{MapEntry}
use Rattle.space_map.specs.declared.map_entry.MapEntry.TheVariants.{Used}
use Rattle.recovery_theory.proofs.PageLaws.IsMapChange.{use_op}
use Rattle.recovery_theory.proofs.SlotChanges.{pages_grow, StepIs, step_of_map}
use Rattle.recovery_theory.proofs.Cuts.{set_at-same, set_at-other, stands_ext, logged_history}
use Rattle.recovery_theory.proofs.PlaceFrees.{open-map, owned_ext}
use Rattle.recovery_theory.proofs.PageLaws.{slots-map, entries-same, entries-other, shaped-changed}
use Rattle.recovery_theory.proofs.OpenUpdates.{ordered_record, apart_record}
use Rattle.space_map.specs.PageImage.{PageImage, changed, ident_of}

module _ (w : Devices) (logs : ℕ → List LogRecord) (guard : ℕ → ℕ) (entry : ℕ → MapEntry) (image : ℕ → PageImage) (settled : ℕ → ℕ → SlotValue) (lock : ℕ → ℕ → Option Transaction)
    (n m q : ℕ) (g : GroupNo) (r : LogRecord)
    (st : IsStanding w logs guard entry image settled lock)
    (below : m < w.shape.maps) (place : q < pages_per_map)
    (guard_map : guard m ≡ n) (guard_page : guard (page_of_place w.shape m q) ≡ n)
    (is : effect_of r ≡ Mapped m (ident_of (image m)) (MapUse q g)) where
  abbrev x : ℕ
  x = page_of_place w.shape m q

  abbrev op : PageOp
  op = MapUse q g

  step : StepIs r m (ident_of (image m)) (MapUse q g)
  step = step_of_map r m (ident_of (image m)) (MapUse q g) is

  abbrev image' : ℕ → PageImage
  image' = set_at m (changed op (image m)) image

  abbrev life_now : MapEntry
  life_now = Used g (birth_of (entry x))

  abbrev entry' : ℕ → MapEntry
  entry' = set_at x life_now entry

  same_birth : (y : ℕ) → birth_of (entry y) ≡ birth_of (entry' y)
  same_birth y = go (cases_eq y x)
    where
      go : (y ≡ x) ⊎ (y ≢ x) → birth_of (entry y) ≡ birth_of (entry' y)
      go (inl e) = rw (e, set_at-same x life_now entry) refl
      go (inr d) = ap birth_of (sym (set_at-other x life_now entry y d))

  use_pages : (y : ℕ) → PageChain w (with_record n r logs) (birth_of (entry' y)) (image' y) y (guard y)
  use_pages y = subst (λ k. PageChain w (with_record n r logs) k (image' y) y (guard y)) (same_birth y)
      (pages_grow w logs guard entry image n m op r st.pages guard_map step.here step.there tt y)

  use_slots : (y s : ℕ) → Settles w.first (with_record n r logs) (image' y) y s (settled y s)
  use_slots y s = owned_ext w.first n m (ident_of (image m)) op r logs (image y) (image' y) y s (settled y s) is (slot (cases_eq y m)) (st.slots y s)
    where
      slot : (y ≡ m) ⊎ (y ≢ m) → slots_of (image' y) s ≡ slots_of (image y) s
      slot (inl e) = rw (e, set_at-same m (changed op (image m)) image) (slots-map op (use_op q g) (image m) s)
      slot (inr d) = ap (λ (i : PageImage). slots_of i s) (set_at-other m (changed op (image m)) image y d)

  use_lives : (k j : ℕ) → k < w.shape.maps → j < pages_per_map → entry' (page_of_place w.shape k j) ≡ entries_of (image' k) j
  use_lives k j lt le = go (cases_eq k m) (cases_eq j q)
    where
      go : (k ≡ m) ⊎ (k ≢ m) → (j ≡ q) ⊎ (j ≢ q) → entry' (page_of_place w.shape k j) ≡ entries_of (image' k) j
      go (inl e) (inl h) = rw (e, h, set_at-same x life_now entry, set_at-same m (changed op (image m)) image)
          (ap (λ (a : MapEntry). used_for (birth_of a)) (st.lives m q below place) ∙ sym (entries-same w.shape m op (image m) q (st.shaped m) below place refl))
        where
          used_for : ℕ → MapEntry
          used_for i = Used g i
      go (inl e) (inr h) =
          let d : page_of_place w.shape k j ≢ x = λ z. absurd (omega arith) in
          rw (set_at-other x life_now entry (page_of_place w.shape k j) d, ap (set_at m (changed op (image m)) image) e, set_at-same m (changed op (image m)) image)
          (st.lives k j lt le ∙ (ap (λ z. entries_of (image z) j) e ∙ sym (entries-other op (image m) j h)))
      go (inr e) h =
          let d : page_of_place w.shape k j ≢ x = λ z. absurd (omega arith) in
          rw (set_at-other x life_now entry (page_of_place w.shape k j) d, set_at-other m (changed op (image m)) image k e) (st.lives k j lt le)

  use_apart : Apart w (with_record n r logs) guard entry'
  use_apart k j o i lt le d e =
      rw (← same_birth (page_of_place w.shape k j)) (apart_record w logs guard entry n r (λ y. touch y (cases_eq m y)) st.apart k j o i lt le d e)
    where
      touch : (y : ℕ) → (m ≡ y) ⊎ (m ≢ y) → (step_on y r ≡ []) ⊎ (guard y ≡ n)
      touch y (inl e) = inr (ap guard (sym e) ∙ guard_map)
      touch y (inr d) = inl (step.there y (λ e. d (sym e)))

  pub use_stands : IsStanding w (with_record n r logs) guard entry' image' settled lock
  use_stands = record {
    pages = use_pages;
    shaped = λ y. shaped y (cases_eq y m);
    unused = λ y le free. unused y le free (cases_eq y x);
    slots = use_slots;
    locks = λ y s o h. st.locks y s o (λ e. h (ap (of_slot y s) (open-map w.first n m (ident_of (image m)) op r logs o is) ∙ e));
    map_pages = λ y lt. sym (same_birth y) ∙ st.map_pages y lt;
    lives = use_lives;
    ordered = ordered_record w n r logs st.ordered (step.in_order w (w.kept n ++ logs n) tt);
    apart = use_apart;
  }
    where
      shaped : (y : ℕ) → (y ≡ m) ⊎ (y ≢ m) → IsImageOf w.shape y (image' y)
      shaped y (inl h) = rw (h, set_at-same m (changed op (image m)) image) (shaped-changed w.shape m op (image m) (st.shaped m))
      shaped y (inr h) = rw (set_at-other m (changed op (image m)) image y h) (st.shaped y)

      unused : (y : ℕ) → w.shape.maps ≤ y → is_used (entry' y) ≡ false → (y ≡ x) ⊎ (y ≢ x) → image' y ≡ blank y (birth_of (entry' y))
      unused y le free (inl e) = let u : is_used (entry' y) ≡ true = rw (e, set_at-same x life_now entry) refl in absurd (both_ways (is_used (entry' y)) free u)
      unused y le free (inr d) =
          let h : y ≢ m = λ e. absurd (omega arith) in
          set_at-other m (changed op (image m)) image y h
          ∙ (st.unused y le (ap is_used (sym (set_at-other x life_now entry y d)) ∙ free) ∙ ap (λ e. blank y (birth_of e)) (sym (set_at-other x life_now entry y d)))

pub uses : UseKeepsHistory
uses p n m q g r history use_it = logged_history p n r (set_at xp (used_as (entry_now p xp)) (entry_now p))
    (set_at m (changed (MapUse q g) (image_now p m)) (image_now p))
    (set_at xp end (set_at m end p.last)) history
    (λ y. keeps y (cases_eq y xp) (cases_eq y m)) step
  where
    used_as : MapEntry → MapEntry
    used_as e = Used g (birth_of e)

    xp : ℕ
    xp = page_of_place p.devices.shape m q

    end : ℕ
    end = suc (length (p.live n))

    keeps : (y : ℕ) → (y ≡ xp) ⊎ (y ≢ xp) → (y ≡ m) ⊎ (y ≢ m)
        → ((p.guard y ≡ n) × (set_at xp end (set_at m end p.last) y ≡ end))
        ⊎ ((set_at xp end (set_at m end p.last) y ≡ p.last y) × (p.guard y ≡ n → (set_at m (changed (MapUse q g) (image_now p m)) (image_now p) y ≡ image_now p y) × (set_at xp (used_as (entry_now p xp)) (entry_now p) y ≡ entry_now p y)))
    keeps y (inl e) h = inl (ap p.guard e ∙ use_it.guarded_page, rw (eq-eqb y xp e) refl)
    keeps y (inr d) (inl e) = inl (ap p.guard e ∙ use_it.guarded_map, rw (ne_eqb y xp d, eq-eqb y m e) refl)
    keeps y (inr d) (inr h) = inr (rw (ne_eqb y xp d, ne_eqb y m h) refl, λ z. (rw (ne_eqb y m h) refl, rw (ne_eqb y xp d) refl))

    step : (logs : ℕ → List LogRecord) (was : ℕ → MapEntry) (image : ℕ → PageImage) → logs n ≡ p.live n
        → ((y : ℕ) → p.guard y ≡ n → was y ≡ entry_now p y) → ((y : ℕ) → p.guard y ≡ n → image y ≡ image_now p y)
        → IsStanding p.devices logs p.guard was image p.settled p.lock
        → IsStanding p.devices (with_record n r logs) p.guard
        (λ y. cond (eqb (p.guard y) n) (set_at xp (used_as (entry_now p xp)) (entry_now p) y) (was y))
        (λ y. cond (eqb (p.guard y) n) (set_at m (changed (MapUse q g) (image_now p m)) (image_now p) y) (image y)) p.settled p.lock
    step logs was image l b f st =
        let done = use_stands p.devices logs p.guard was image p.settled p.lock n m q g r st use_it.is_map use_it.in_map use_it.guarded_map use_it.guarded_page (rw (f m use_it.guarded_map) use_it.effect) in
        stands_ext p.devices (with_record n r logs) (with_record n r logs) p.guard
        (set_at xp (used_as (was xp)) was) (λ y. cond (eqb (p.guard y) n) (set_at xp (used_as (entry_now p xp)) (entry_now p) y) (was y))
        (set_at m (changed (MapUse q g) (image m)) image)
        (λ y. cond (eqb (p.guard y) n) (set_at m (changed (MapUse q g) (image_now p m)) (image_now p) y) (image y)) p.settled p.lock
        (λ k. refl) (λ y. bb y (cases_eq (p.guard y) n) (cases_eq y xp)) (λ y. ff y (cases_eq (p.guard y) n) (cases_eq y m)) done
      where
        bb : (y : ℕ) → (p.guard y ≡ n) ⊎ (p.guard y ≢ n) → (y ≡ xp) ⊎ (y ≢ xp) → set_at xp (used_as (was xp)) was y ≡ cond (eqb (p.guard y) n) (set_at xp (used_as (entry_now p xp)) (entry_now p) y) (was y)
        bb y (inl h) (inl e) = rw (eq-eqb (p.guard y) n h, eq-eqb y xp e) (ap used_as (b xp use_it.guarded_page))
        bb y (inl h) (inr d) = rw (eq-eqb (p.guard y) n h, ne_eqb y xp d) (b y h)
        bb y (inr h) (inl e) = absurd (h (ap p.guard e ∙ use_it.guarded_page))
        bb y (inr h) (inr d) = rw (ne_eqb (p.guard y) n h, ne_eqb y xp d) refl

        ff : (y : ℕ) → (p.guard y ≡ n) ⊎ (p.guard y ≢ n) → (y ≡ m) ⊎ (y ≢ m)
            → set_at m (changed (MapUse q g) (image m)) image y ≡ cond (eqb (p.guard y) n) (set_at m (changed (MapUse q g) (image_now p m)) (image_now p) y) (image y)
        ff y (inl h) (inl e) = rw (eq-eqb (p.guard y) n h, eq-eqb y m e) (ap (changed (MapUse q g)) (f m use_it.guarded_map))
        ff y (inl h) (inr d) = rw (eq-eqb (p.guard y) n h, ne_eqb y m d) (f y h)
        ff y (inr k) (inl e) = absurd (k (ap p.guard e ∙ use_it.guarded_map))
        ff y (inr k) (inr d) = rw (ne_eqb (p.guard y) n k, ne_eqb y m d) refl
