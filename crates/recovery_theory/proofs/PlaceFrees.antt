-- Places of map pages are used and freed.
use Rattle.std.proofs.Common.{◌≡◌, ◌≢◌, ◌⊎◌, inl, inr, ℕ, suc, ◌+◌, ◌<◌, ◌≤◌, false, cond, eqb, List, [], ◌++◌, length, refl, ap, ap₂, sym, ◌∙◌, arith, Option, Some, None, IfSome, eq-eqb, ne_eqb}
use Rattle.std.proofs.lemmas.Bool.{cases_eq}
use Rattle.sd_base.specs.Places.{page_of_place}
use Rattle.sd_base.specs.Shape.{pages_per_map}
use Rattle.log_record.specs.declared.record.LogRecord.{LogRecord}
use Rattle.recovery_theory.specs.Chain.{steps_from}
use Rattle.recovery_theory.specs.Effect.{steps_on, step_on, Transaction, of_slot, open_updates, effect_of}
use Rattle.recovery_theory.specs.Effect.Effect.{Mapped}
use Rattle.recovery_theory.specs.History.{image_now, entry_now}
use Rattle.recovery_theory.specs.Pages.{SlotValue, in_life_from, blank, slots_of, entries_of, birth_of, is_used, IsImageOf}
use Rattle.recovery_theory.specs.Standing.{Devices, Settles, PageChain, IsStanding, InOrder, IsApart, Apart, base_of}
use Rattle.recovery_theory.specs.Steps.{with_record, set_at, FreeKeepsHistory}
use Rattle.sd_base.specs.declared.page_op.PageOp.{PageOp}
use Rattle.sd_base.specs.declared.page_op.PageOp.TheVariants.{MapFree}
use Rattle.space_map.specs.declared.map_entry.MapEntry.{MapEntry}
use Rattle.space_map.specs.declared.map_entry.MapEntry.TheVariants.{Free}
use Rattle.recovery_theory.proofs.PageLaws.IsMapChange.{free_op}
use Rattle.recovery_theory.proofs.SlotChanges.{pages_grow, birth_le, StepIs, step_of_map}
use Rattle.recovery_theory.proofs.Cuts.{set_at-same, set_at-other, stands_ext, logged_history}
use Rattle.recovery_theory.proofs.ChainLaws.{ident-disk, ident-image, past_image}
use Rattle.recovery_theory.proofs.StepLists.{steps_from-steps_from, steps_to-beyond, steps_from-parts}
use Rattle.recovery_theory.proofs.PageLaws.{slots-map, entries-same, entries-other, shaped-changed, slots-blank, in_life_from-blank, in_life_from-above}
use Rattle.recovery_theory.proofs.OpenUpdates.{steps_on-append, transaction, steps_on-with_record, list_cases, ordered_record, apart_record, gap_same, open-by, rises_same}
use Rattle.space_map.specs.PageImage.{PageImage, changed, ident_of}

-- a record of a map page leaves what is left of each transaction
pub open-map : (first : ℕ → ℕ) (n m b : ℕ) (op : PageOp) (r : LogRecord) (logs : ℕ → List LogRecord) (o : Transaction) → effect_of r ≡ Mapped m b op → open_updates first (with_record n r logs) o ≡ open_updates first logs o
open-map first n m b op r logs o is = open-by first n r logs o (λ u e. rw is refl)

-- and a slot settles to what it did
pub owned_ext : (first : ℕ → ℕ) (n m b : ℕ) (op : PageOp) (r : LogRecord) (logs : ℕ → List LogRecord) (i j : PageImage) (x s : ℕ) (v : SlotValue) → effect_of r ≡ Mapped m b op → slots_of j s ≡ slots_of i s → Settles first logs i x s v → Settles first (with_record n r logs) j x s v
owned_ext first n m b op r logs i j x s v is e (o, c) = (
  o,
  record {
    alone = λ q d. ap (of_slot x s) (open-map first n m b op r logs q is) ∙ c.alone q d;
    value = rw (open-map first n m b op r logs o is, e) c.value;
  },
)

-- a page under a life past all that it had is blank
paged_blank : (w : Devices) (n : ℕ) (r : LogRecord) (logs : ℕ → List LogRecord) (entry : ℕ) (image : PageImage) (x guard top : ℕ) → PageChain w logs entry image x guard → step_on x r ≡ [] → ident_of image ≤ top
    → PageChain w (with_record n r logs) (suc top) (blank x (suc top)) x guard
paged_blank w n r logs entry image x guard top p none lt = record {
  shown = blank x next_birth;
  disk = on_disk (w.disk x) p.disk;
  chain = rw (in_life_from-blank x next_birth (base_of w x) (omega (arith, d, f, in_life_from-above x entry (base_of w x)))) (record {
    old = [];
    new = [];
    linked = λ k. rw (← steps_on-with_record x n r logs none k) (gone k);
    same = refl;
    near = λ k. (steps_from-parts next_birth (steps_on x (w.kept k)) (steps_on x (logs k)) (gone k)).0;
    whole = refl;
    rising = tt;
  });
  gap = gap_same next_birth w.kept x n r logs none (λ k. steps_to-beyond top (steps_on x (w.kept k) ++ steps_on x (logs k)) (past_image (in_life_from x entry (base_of w x)) p.shown image (λ k. steps_on x (w.kept k)) (λ k. steps_on x (logs k)) guard p.chain top lt k));
  rises = rises_same w.kept x n r logs none p.rises;
}
  where
    next_birth : ℕ
    next_birth = suc top

    d : ident_of p.shown ≡ ident_of (in_life_from x entry (base_of w x)) + length p.chain.old
    d = ident-disk (in_life_from x entry (base_of w x)) p.shown image (λ k. steps_on x (w.kept k)) (λ k. steps_on x (logs k)) guard p.chain

    f : ident_of image ≡ ident_of p.shown + length p.chain.new
    f = ident-image (in_life_from x entry (base_of w x)) p.shown image (λ k. steps_on x (w.kept k)) (λ k. steps_on x (logs k)) guard p.chain

    gone : (k : ℕ) → steps_from next_birth (steps_on x (w.kept k) ++ steps_on x (logs k)) ≡ []
    gone k = past_image (in_life_from x entry (base_of w x)) p.shown image (λ k. steps_on x (w.kept k)) (λ k. steps_on x (logs k)) guard p.chain next_birth (omega arith) k

    on_disk : (o : Option PageImage) → IfSome o (λ i. p.shown ≡ in_life_from x entry i) → IfSome o (λ i. blank x next_birth ≡ in_life_from x next_birth i)
    on_disk None h = tt
    on_disk (Some i) h = let e = ap ident_of h in let a = in_life_from-above x entry i in sym (in_life_from-blank x next_birth i (omega (arith, f)))

module _ (w : Devices) (logs : ℕ → List LogRecord) (guard : ℕ → ℕ) (entry : ℕ → MapEntry) (image : ℕ → PageImage) (settled : ℕ → ℕ → SlotValue) (lock : ℕ → ℕ → Option Transaction)
    (n m q : ℕ) (r : LogRecord)
    (st : IsStanding w logs guard entry image settled lock)
    (below : m < w.shape.maps) (place : q < pages_per_map)
    (guard_map : guard m ≡ n) (guard_page : guard (page_of_place w.shape m q) ≡ n)
    (is : effect_of r ≡ Mapped m (ident_of (image m)) (MapFree q (suc (ident_of (image (page_of_place w.shape m q))))))
    (none : (s : ℕ) → (settled (page_of_place w.shape m q) s ≡ None) × (lock (page_of_place w.shape m q) s ≡ None)) where
  abbrev x : ℕ
  x = page_of_place w.shape m q

  abbrev next_birth : ℕ
  next_birth = suc (ident_of (image x))

  abbrev op : PageOp
  op = MapFree q next_birth

  step : StepIs r m (ident_of (image m)) (MapFree q (suc (ident_of (image (page_of_place w.shape m q)))))
  step = step_of_map r m (ident_of (image m)) (MapFree q (suc (ident_of (image (page_of_place w.shape m q))))) is

  abbrev image' : ℕ → PageImage
  image' = set_at x (blank x next_birth) (set_at m (changed op (image m)) image)

  abbrev life_now : MapEntry
  life_now = Free next_birth

  abbrev entry' : ℕ → MapEntry
  entry' = set_at x life_now entry

  not_map : m ≢ x
  not_map e = absurd (omega arith)

  raises : birth_of (entries_of (image m) q) < next_birth
  raises =
      let a = ap birth_of (st.lives m q below place) in
      let b = birth_le w logs (birth_of (entry x)) (image x) x (guard x) (st.pages x) in
      omega arith

  free_pages : (y : ℕ) → PageChain w (with_record n r logs) (birth_of (entry' y)) (image' y) y (guard y)
  free_pages y = go (cases_eq y x)
    where
      go : (y ≡ x) ⊎ (y ≢ x) → PageChain w (with_record n r logs) (birth_of (entry' y)) (image' y) y (guard y)
      go (inl e) = rw (e, set_at-same x life_now entry, set_at-same x (blank x next_birth) (set_at m (changed op (image m)) image))
          (paged_blank w n r logs (birth_of (entry x)) (image x) x (guard x) (ident_of (image x)) (st.pages x) (step.there x (λ e. not_map (sym e))) (omega arith))
      go (inr d) = rw (set_at-other x life_now entry y d, set_at-other x (blank x next_birth) (set_at m (changed op (image m)) image) y d)
          (pages_grow w logs guard entry image n m op r st.pages guard_map step.here step.there raises y)

  free_slots : (y s : ℕ) → Settles w.first (with_record n r logs) (image' y) y s (settled y s)
  free_slots y s = go (cases_eq y x) (cases_eq y m)
    where
      go : (y ≡ x) ⊎ (y ≢ x) → (y ≡ m) ⊎ (y ≢ m) → Settles w.first (with_record n r logs) (image' y) y s (settled y s)
      go (inl e) h = (
        transaction 0 0,
        record {
          alone = λ o d. quiet o;
          value = rw (quiet (transaction 0 0), e, set_at-same x (blank x next_birth) (set_at m (changed op (image m)) image), slots-blank x next_birth s) (none s).0;
        },
      )
        where
          quiet : (o : Transaction) → of_slot y s (open_updates w.first (with_record n r logs) o) ≡ []
          quiet o = rw (open-map w.first n m (ident_of (image m)) op r logs o is) (nothing (list_cases (of_slot y s (open_updates w.first logs o))))
            where
              nothing : (of_slot y s (open_updates w.first logs o) ≡ []) ⊎ (of_slot y s (open_updates w.first logs o) ≢ []) → of_slot y s (open_updates w.first logs o) ≡ []
              nothing (inl z) = z
              nothing (inr z) = let a = st.locks y s o z in let b : lock y s ≡ None = rw e (none s).1 in absurd cc
      go (inr d) (inl h) = owned_ext w.first n m (ident_of (image m)) op r logs (image y) (image' y) y s (settled y s) is
          (rw (set_at-other x (blank x next_birth) (set_at m (changed op (image m)) image) y d, h, set_at-same m (changed op (image m)) image) (slots-map op (free_op q next_birth) (image m) s)) (st.slots y s)
      go (inr d) (inr h) = owned_ext w.first n m (ident_of (image m)) op r logs (image y) (image' y) y s (settled y s) is
          (rw (set_at-other x (blank x next_birth) (set_at m (changed op (image m)) image) y d, set_at-other m (changed op (image m)) image y h) refl) (st.slots y s)

  free_lives : (k j : ℕ) → k < w.shape.maps → j < pages_per_map → entry' (page_of_place w.shape k j) ≡ entries_of (image' k) j
  free_lives k j lt le = go (cases_eq k m) (cases_eq j q)
    where
      low : k ≢ x
      low e = absurd (omega arith)

      go : (k ≡ m) ⊎ (k ≢ m) → (j ≡ q) ⊎ (j ≢ q) → entry' (page_of_place w.shape k j) ≡ entries_of (image' k) j
      go (inl e) (inl h) = rw (set_at-other x (blank x next_birth) (set_at m (changed op (image m)) image) k low, e, h, set_at-same x life_now entry, set_at-same m (changed op (image m)) image)
          (sym (entries-same w.shape m op (image m) q (st.shaped m) below place refl))
      go (inl e) (inr h) =
          let d : page_of_place w.shape k j ≢ x = λ z. absurd (omega arith) in
          rw (set_at-other x (blank x next_birth) (set_at m (changed op (image m)) image) k low, set_at-other x life_now entry (page_of_place w.shape k j) d, ap (set_at m (changed op (image m)) image) e, set_at-same m (changed op (image m)) image)
          (st.lives k j lt le ∙ (ap (λ z. entries_of (image z) j) e ∙ sym (entries-other op (image m) j h)))
      go (inr e) h =
          let d : page_of_place w.shape k j ≢ x = λ z. absurd (omega arith) in
          rw (set_at-other x (blank x next_birth) (set_at m (changed op (image m)) image) k low, set_at-other x life_now entry (page_of_place w.shape k j) d, set_at-other m (changed op (image m)) image k e) (st.lives k j lt le)

  -- no log has a step of the page from its identifier on
  gone : (o : ℕ) → steps_from (ident_of (image x)) (steps_on x (w.kept o) ++ steps_on x (logs o)) ≡ []
  gone o = let p = st.pages x in past_image (in_life_from x (birth_of (entry x)) (base_of w x)) p.shown (image x) (λ k. steps_on x (w.kept k)) (λ k. steps_on x (logs k)) (guard x) p.chain (ident_of (image x)) (omega arith) o

  free_order : InOrder w (w.kept n ++ logs n) r
  free_order = step.in_order w (w.kept n ++ logs n) (ap (steps_from (ident_of (image x))) (steps_on-append x (w.kept n) (logs n)) ∙ gone n)

  free_apart : Apart w (with_record n r logs) guard entry'
  free_apart k j o i lt le d e = go (cases_eq (page_of_place w.shape k j) x)
    where
      touch : (y : ℕ) → (m ≡ y) ⊎ (m ≢ y) → (step_on y r ≡ []) ⊎ (guard y ≡ n)
      touch y (inl e) = inr (ap guard (sym e) ∙ guard_map)
      touch y (inr d) = inl (step.there y (λ e. d (sym e)))

      go : (page_of_place w.shape k j ≡ x) ⊎ (page_of_place w.shape k j ≢ x) → IsApart w (with_record n r logs) guard entry' k j o i
      go (inl z) =
          let none : steps_from next_birth (steps_on x (w.kept o) ++ steps_on x (logs o)) ≡ [] =
          sym (steps_from-steps_from (ident_of (image x)) next_birth (omega arith) (steps_on x (w.kept o) ++ steps_on x (logs o))) ∙ ap (steps_from next_birth) (gone o) in
          let same : k ≡ m = omega arith in
          inr (rw (z, set_at-same x life_now entry, ← steps_on-with_record x n r logs (step.there x (λ e. not_map (sym e))) o) none, λ h. d (sym h ∙ (ap guard z ∙ (guard_page ∙ (sym guard_map ∙ ap guard (sym same))))))
      go (inr z) = rw (set_at-other x life_now entry (page_of_place w.shape k j) z) (apart_record w logs guard entry n r (λ y. touch y (cases_eq m y)) st.apart k j o i lt le d e)

  pub free_stands : IsStanding w (with_record n r logs) guard entry' image' settled lock
  free_stands = record {
    pages = free_pages;
    shaped = λ y. shaped y (cases_eq y x) (cases_eq y m);
    unused = λ y le free. unused y le free (cases_eq y x);
    slots = free_slots;
    locks = λ y s o h. st.locks y s o (λ e. h (ap (of_slot y s) (open-map w.first n m (ident_of (image m)) op r logs o is) ∙ e));
    map_pages = λ y lt. ap birth_of (set_at-other x life_now entry y (λ e. absurd (omega arith))) ∙ st.map_pages y lt;
    lives = free_lives;
    ordered = ordered_record w n r logs st.ordered free_order;
    apart = free_apart;
  }
    where
      shaped : (y : ℕ) → (y ≡ x) ⊎ (y ≢ x) → (y ≡ m) ⊎ (y ≢ m) → IsImageOf w.shape y (image' y)
      shaped y (inl e) h = rw (e, set_at-same x (blank x next_birth) (set_at m (changed op (image m)) image)) (omega arith, refl, refl)
      shaped y (inr d) (inl h) = rw (set_at-other x (blank x next_birth) (set_at m (changed op (image m)) image) y d, h, set_at-same m (changed op (image m)) image) (shaped-changed w.shape m op (image m) (st.shaped m))
      shaped y (inr d) (inr h) = rw (set_at-other x (blank x next_birth) (set_at m (changed op (image m)) image) y d, set_at-other m (changed op (image m)) image y h) (st.shaped y)

      unused : (y : ℕ) → w.shape.maps ≤ y → is_used (entry' y) ≡ false → (y ≡ x) ⊎ (y ≢ x) → image' y ≡ blank y (birth_of (entry' y))
      unused y le free (inl e) = rw (e, set_at-same x (blank x next_birth) (set_at m (changed op (image m)) image), set_at-same x life_now entry) refl
      unused y le free (inr d) =
          let h : y ≢ m = λ e. absurd (omega arith) in
          set_at-other x (blank x next_birth) (set_at m (changed op (image m)) image) y d ∙ (set_at-other m (changed op (image m)) image y h
          ∙ (st.unused y le (ap is_used (sym (set_at-other x life_now entry y d)) ∙ free) ∙ ap (λ e. blank y (birth_of e)) (sym (set_at-other x life_now entry y d))))

pub frees : FreeKeepsHistory
frees p n m q r history free = logged_history p n r (set_at x_page (Free birth_now) (entry_now p))
    (set_at x_page (blank x_page birth_now) (set_at m (changed (MapFree q birth_now) (image_now p m)) (image_now p)))
    (set_at x_page (suc (length (p.live n))) (set_at m (suc (length (p.live n))) p.last)) history
    (λ y. keeps y (cases_eq y x_page) (cases_eq y m)) step
  where
    x_page : ℕ
    x_page = page_of_place p.devices.shape m q

    birth_now : ℕ
    birth_now = suc (ident_of (image_now p x_page))

    end : ℕ
    end = suc (length (p.live n))

    keeps : (y : ℕ) → (y ≡ x_page) ⊎ (y ≢ x_page) → (y ≡ m) ⊎ (y ≢ m)
        → ((p.guard y ≡ n) × (set_at x_page end (set_at m end p.last) y ≡ end))
        ⊎ ((set_at x_page end (set_at m end p.last) y ≡ p.last y) × (p.guard y ≡ n → (set_at x_page (blank x_page birth_now) (set_at m (changed (MapFree q birth_now) (image_now p m)) (image_now p)) y ≡ image_now p y) × (set_at x_page (Free birth_now) (entry_now p) y ≡ entry_now p y)))
    keeps y (inl e) h = inl (ap p.guard e ∙ free.guarded_page, rw (eq-eqb y x_page e) refl)
    keeps y (inr d) (inl e) = inl (ap p.guard e ∙ free.guarded_map, rw (ne_eqb y x_page d, eq-eqb y m e) refl)
    keeps y (inr d) (inr h) = inr (rw (ne_eqb y x_page d, ne_eqb y m h) refl, λ g. (rw (ne_eqb y x_page d, ne_eqb y m h) refl, rw (ne_eqb y x_page d) refl))

    step : (logs : ℕ → List LogRecord) (was : ℕ → MapEntry) (image : ℕ → PageImage) → logs n ≡ p.live n
        → ((y : ℕ) → p.guard y ≡ n → was y ≡ entry_now p y) → ((y : ℕ) → p.guard y ≡ n → image y ≡ image_now p y)
        → IsStanding p.devices logs p.guard was image p.settled p.lock
        → IsStanding p.devices (with_record n r logs) p.guard
        (λ y. cond (eqb (p.guard y) n) (set_at x_page (Free birth_now) (entry_now p) y) (was y))
        (λ y. cond (eqb (p.guard y) n) (set_at x_page (blank x_page birth_now) (set_at m (changed (MapFree q birth_now) (image_now p m)) (image_now p)) y) (image y)) p.settled p.lock
    step logs was image l b f st =
        let ex : image x_page ≡ image_now p x_page = f x_page free.guarded_page in
        let em : image m ≡ image_now p m = f m free.guarded_map in
        let done = free_stands p.devices logs p.guard was image p.settled p.lock n m q r st free.is_map free.in_map free.guarded_map free.guarded_page (rw (em, ex) free.effect) free.empty in
        stands_ext p.devices (with_record n r logs) (with_record n r logs) p.guard
        (set_at x_page (Free (suc (ident_of (image x_page)))) was) (λ y. cond (eqb (p.guard y) n) (set_at x_page (Free birth_now) (entry_now p) y) (was y))
        (set_at x_page (blank x_page (suc (ident_of (image x_page)))) (set_at m (changed (MapFree q (suc (ident_of (image x_page)))) (image m)) image))
        (λ y. cond (eqb (p.guard y) n) (set_at x_page (blank x_page birth_now) (set_at m (changed (MapFree q birth_now) (image_now p m)) (image_now p)) y) (image y)) p.settled p.lock
        (λ k. refl) (λ y. bb y (cases_eq (p.guard y) n) (cases_eq y x_page)) (λ y. ff y (cases_eq (p.guard y) n) (cases_eq y x_page) (cases_eq y m)) done
      where
        bb : (y : ℕ) → (p.guard y ≡ n) ⊎ (p.guard y ≢ n) → (y ≡ x_page) ⊎ (y ≢ x_page) → set_at x_page (Free (suc (ident_of (image x_page)))) was y ≡ cond (eqb (p.guard y) n) (set_at x_page (Free birth_now) (entry_now p) y) (was y)
        bb y (inl g) (inl e) = rw (eq-eqb (p.guard y) n g, eq-eqb y x_page e) (ap (λ (i : PageImage). Free (suc (ident_of i))) (f x_page free.guarded_page))
        bb y (inl g) (inr d) = rw (eq-eqb (p.guard y) n g, ne_eqb y x_page d) (b y g)
        bb y (inr h) (inl e) = absurd (h (ap p.guard e ∙ free.guarded_page))
        bb y (inr h) (inr d) = rw (ne_eqb (p.guard y) n h, ne_eqb y x_page d) refl

        ff : (y : ℕ) → (p.guard y ≡ n) ⊎ (p.guard y ≢ n) → (y ≡ x_page) ⊎ (y ≢ x_page) → (y ≡ m) ⊎ (y ≢ m)
            → set_at x_page (blank x_page (suc (ident_of (image x_page)))) (set_at m (changed (MapFree q (suc (ident_of (image x_page)))) (image m)) image) y
            ≡ cond (eqb (p.guard y) n) (set_at x_page (blank x_page birth_now) (set_at m (changed (MapFree q birth_now) (image_now p m)) (image_now p)) y) (image y)
        ff y (inl g) (inl e) h = rw (eq-eqb (p.guard y) n g, eq-eqb y x_page e) (ap (λ (i : PageImage). blank x_page (suc (ident_of i))) (f x_page free.guarded_page))
        ff y (inl g) (inr d) (inl e) = rw (eq-eqb (p.guard y) n g, ne_eqb y x_page d, eq-eqb y m e) (ap₂ (λ (i j : PageImage). changed (MapFree q (suc (ident_of i))) j) (f x_page free.guarded_page) (f m free.guarded_map))
        ff y (inl g) (inr d) (inr h) = rw (eq-eqb (p.guard y) n g, ne_eqb y x_page d, ne_eqb y m h) (f y g)
        ff y (inr k) (inl e) h = absurd (k (ap p.guard e ∙ free.guarded_page))
        ff y (inr k) (inr d) (inl e) = absurd (k (ap p.guard e ∙ free.guarded_map))
        ff y (inr k) (inr d) (inr h) = rw (ne_eqb (p.guard y) n k, ne_eqb y x_page d, ne_eqb y m h) refl
