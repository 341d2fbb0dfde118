-- What is rebuilt is the recovered image, and the devices determine it.
use Rattle.std.proofs.Common.{◌≡◌, ◌≢◌, ◌⊎◌, inl, inr, ℕ, suc, ◌+◌, ◌<◌, ◌≤◌, Bool, true, false, cond, eqb, leb, List, [], ◌∷◌, ◌++◌, length, refl, ap, sym, subst, ◌∙◌, arith, append_assoc, length-append, le-leb, eq-eqb}
use Rattle.std.proofs.lemmas.Bool.{cases_lt}
use Rattle.recovery_theory.specs.Chain.{NodeChange, steps_from, in_log, all_by, replay, ChainedBy}
use Rattle.recovery_theory.specs.Effect.{Step, steps_on, OpenUpdate, of_slot, open_updates}
use Rattle.recovery_theory.specs.Rebuilding.{Has, Rebuilds, ChainRebuilds, DevicesDetermine}
use Rattle.recovery_theory.specs.Rebuilding.Rebuilds.{done, more}
use Rattle.recovery_theory.specs.Pages.{SlotValue, slot_after, in_life_from, slots_of, entries_of, birth_of, page_named}
use Rattle.recovery_theory.specs.Standing.{Leads, Settles, base_of}
use Rattle.recovery_theory.proofs.StepLists.{steps_from-in_log, steps_from-steps_from}
use Rattle.recovery_theory.proofs.OpenUpdates.{transaction_cases}
use Rattle.sd_base.specs.Places.{map_of_data, place_of_page}
use Rattle.sd_base.specs.Shape.{pages_per_map}
use Rattle.sd_base.proofs.PlaceLaws.{at_its_place, map_of_data-below, place_of_page-below}
use Rattle.space_map.specs.PageImage.{PageImage, changed, ident_of}
use Rattle.space_map.proofs.PageImageLaws.{changed-ident}
use Rattle.recovery_theory.proofs.ChainLaws.{whole_replay}

-- what a list has at or past b is in its part from b on, and back
pub has-steps_from : (b : ℕ) (l : List Step) (s : Step) → b ≤ s.bsi → Has l s → Has (steps_from b l) s
has-steps_from b [] s le h = h
has-steps_from b (t ∷ l) s le (inl e) = rw (le-leb b t.bsi (let z = ap (λ (k : Step). k.bsi) e in omega arith)) (inl e)
has-steps_from b (t ∷ l) s le (inr h) = go (leb b t.bsi) (has-steps_from b l s le h)
  where
    go : (c : Bool) → Has (steps_from b l) s → Has (cond c (t ∷ steps_from b l) (steps_from b l)) s
    go true k = inr k
    go false k = k

pub steps_from-has : (b : ℕ) (l : List Step) (s : Step) → Has (steps_from b l) s → Has l s
steps_from-has b [] s h = h
steps_from-has b (t ∷ l) s h = go (leb b t.bsi) h (steps_from-has b l s)
  where
    go : (c : Bool) → Has (cond c (t ∷ steps_from b l) (steps_from b l)) s → (Has (steps_from b l) s → Has l s) → Has (t ∷ l) s
    go true (inl e) rest = inl e
    go true (inr k) rest = inr (rest k)
    go false k rest = inr (rest k)

-- each step of a history stands in one log, under its number
pub in_log-has : (n b : ℕ) (h : List NodeChange) (s : Step) → Has (in_log n b h) s → b ≤ s.bsi
in_log-has n b [] s k = absurd k
in_log-has n b (a ∷ h) s k = go (eqb a.node n) k (in_log-has n (suc b) h s)
  where
    go : (c : Bool) → Has (cond c (record { bsi = b; op = a.op } ∷ in_log n (suc b) h) (in_log n (suc b) h)) s → (Has (in_log n (suc b) h) s → suc b ≤ s.bsi) → b ≤ s.bsi
    go true (inl e) rest = let z = ap (λ (k : Step). k.bsi) e in omega arith
    go true (inr k) rest = let z = rest k in omega arith
    go false k rest = let z = rest k in omega arith

-- the first number of a history is that of its first change
pub in_log-first_only : (n b : ℕ) (a : NodeChange) (h : List NodeChange) (s : Step) → Has (in_log n b (a ∷ h)) s → s.bsi ≡ b → s.op ≡ a.op
in_log-first_only n b a h s k e = go (eqb a.node n) k
  where
    late : Has (in_log n (suc b) h) s → s.op ≡ a.op
    late k = let z = in_log-has n (suc b) h s k in absurd (omega arith)

    go : (c : Bool) → Has (cond c (record { bsi = b; op = a.op } ∷ in_log n (suc b) h) (in_log n (suc b) h)) s → s.op ≡ a.op
    go true (inl e) = sym (ap (λ (k : Step). k.op) e)
    go true (inr k) = late k
    go false k = late k

-- the rest of a history, from the image that it has reached
module _ (base : PageImage) (kept live : ℕ → List Step) (changes : List NodeChange) (linked : (n : ℕ) → steps_from (ident_of base) (kept n ++ live n) ≡ in_log n (ident_of base) changes) where
  -- what a log has of the history from an image on
  pub rest_of : (front h : List NodeChange) → changes ≡ front ++ h → (i : PageImage) → ident_of i ≡ ident_of base + length front → (n : ℕ) → steps_from (ident_of i) (kept n ++ live n) ≡ in_log n (ident_of i) h
  rest_of front h e i at n =
      sym (steps_from-steps_from (ident_of base) (ident_of i) (omega arith) (kept n ++ live n)) ∙ (ap (steps_from (ident_of i)) (linked n ∙ ap (in_log n (ident_of base)) e) ∙ steps_from-in_log n (ident_of base) (ident_of i) front h at)

  longer : (front h : List NodeChange) (a : NodeChange) → changes ≡ front ++ a ∷ h → changes ≡ (front ++ a ∷ []) ++ h
  longer front h a e = e ∙ sym (append_assoc front (a ∷ []) h)

  up : (front : List NodeChange) (a : NodeChange) (i : PageImage) → ident_of i ≡ ident_of base + length front → ident_of (changed a.op i) ≡ ident_of base + length (front ++ a ∷ [])
  up front a i at = omega (arith, changed-ident a.op i, length-append front (a ∷ []))

  pub can : (h front : List NodeChange) → changes ≡ front ++ h → (i : PageImage) → ident_of i ≡ ident_of base + length front → Rebuilds kept live (replay h i) i
  can [] front e i at = done i refl (λ s k q.
      let has = has-steps_from (ident_of i) (kept k.node ++ live k.node) s (omega arith) k.stands in
      let none : Has [] s = subst (λ l. Has l s) (rest_of front [] e i at k.node) has in absurd none)
  can (a ∷ h) front e i at =
      let first : in_log a.node (ident_of i) (a ∷ h) ≡ record { bsi = ident_of i; op = a.op } ∷ in_log a.node (suc (ident_of i)) h = rw (eq-eqb a.node a.node refl) refl in
      let has : Has (steps_from (ident_of i) (kept a.node ++ live a.node)) (record { bsi = ident_of i; op = a.op }) = subst (λ l. Has l (record { bsi = ident_of i; op = a.op })) (sym (rest_of front (a ∷ h) e i at a.node ∙ first)) (inl refl) in
      more i (record { bsi = ident_of i; op = a.op }) (record { node = a.node; stands = steps_from-has (ident_of i) (kept a.node ++ live a.node) (record { bsi = ident_of i; op = a.op }) has }) refl
      (can h (front ++ a ∷ []) (longer front h a e) (changed a.op i) (up front a i at))

  pub only : (j i : PageImage) → Rebuilds kept live j i → (h front : List NodeChange) → changes ≡ front ++ h → ident_of i ≡ ident_of base + length front → j ≡ replay h i
  only j x (done i q none) [] front e at = sym q
  only j x (done i q none) (a ∷ h) front e at =
      let first : in_log a.node (ident_of i) (a ∷ h) ≡ record { bsi = ident_of i; op = a.op } ∷ in_log a.node (suc (ident_of i)) h = rw (eq-eqb a.node a.node refl) refl in
      let has : Has (steps_from (ident_of i) (kept a.node ++ live a.node)) (record { bsi = ident_of i; op = a.op }) = subst (λ l. Has l (record { bsi = ident_of i; op = a.op })) (sym (rest_of front (a ∷ h) e i at a.node ∙ first)) (inl refl) in
      absurd (none (record { bsi = ident_of i; op = a.op }) (record { node = a.node; stands = steps_from-has (ident_of i) (kept a.node ++ live a.node) (record { bsi = ident_of i; op = a.op }) has }) refl)
  only j x (more i s k q r) [] front e at =
      let has = has-steps_from (ident_of i) (kept k.node ++ live k.node) s (omega arith) k.stands in
      let none : Has [] s = subst (λ l. Has l s) (rest_of front [] e i at k.node) has in absurd none
  only j x (more i s k q r) (a ∷ h) front e at =
      let has = has-steps_from (ident_of i) (kept k.node ++ live k.node) s (omega arith) k.stands in
      let has' : Has (in_log k.node (ident_of i) (a ∷ h)) s = subst (λ l. Has l s) (rest_of front (a ∷ h) e i at k.node) has in
      let same : s.op ≡ a.op = in_log-first_only k.node (ident_of i) a h s has' q in
      let at' : ident_of (changed s.op i) ≡ ident_of base + length (front ++ a ∷ []) = rw same (up front a i at) in
      only j (changed s.op i) r h (front ++ a ∷ []) (longer front h a e) at' ∙ ap (λ o. replay h (changed o i)) same

pub rebuilding : ChainRebuilds
rebuilding base disk image kept live (n, c) =
    let changes : List NodeChange = c.old ++ all_by n c.new in
    let w = whole_replay base disk image kept live n c in (
      subst (λ j. Rebuilds kept live j base) (sym w) (can base kept live (c.old ++ all_by n c.new) c.linked (c.old ++ all_by n c.new) [] refl base (omega arith)),
      λ i r. only base kept live (c.old ++ all_by n c.new) c.linked i base r (c.old ++ all_by n c.new) [] refl (omega arith) ∙ sym w,
    )

-- updates lead to a slot from one value only
pub leads_one : (us : List OpenUpdate) (v v' slot : SlotValue) → Leads us v slot → Leads us v' slot → v ≡ v'
leads_one [] v v' slot a b = a ∙ sym b
leads_one (u ∷ us) v v' slot a b = leads_one us v v' (slot_after u.back slot) a.1 b.1

pub determined : DevicesDetermine
determined w logs guard guard' entry entry' image image' settled settled' lock lock' st st' x lt = (page x (lives (cases_lt x w.shape.maps)), λ s. slot s (st.slots x s) (st'.slots x s))
  where
    page : (y : ℕ) → birth_of (entry y) ≡ birth_of (entry' y) → image y ≡ image' y
    page y e =
        let c = (st.pages y).chain in
        let c' : ChainedBy (in_life_from y (birth_of (entry y)) (base_of w y)) (st'.pages y).shown (λ n. steps_on y (w.kept n)) (λ n. steps_on y (logs n)) (image' y) (guard' y) = rw e (st'.pages y).chain in
        (rebuilding (in_life_from y (birth_of (entry y)) (base_of w y)) (st'.pages y).shown (image' y) (λ n. steps_on y (w.kept n)) (λ n. steps_on y (logs n)) (guard' y, c')).1 (image y)
        (rebuilding (in_life_from y (birth_of (entry y)) (base_of w y)) (st.pages y).shown (image y) (λ n. steps_on y (w.kept n)) (λ n. steps_on y (logs n)) (guard y, c)).0

    map_page : (m : ℕ) → m < w.shape.maps → image m ≡ image' m
    map_page m low = page m (st.map_pages m low ∙ sym (st'.map_pages m low))

    lives : (x < w.shape.maps) ⊎ (w.shape.maps ≤ x) → birth_of (entry x) ≡ birth_of (entry' x)
    lives (inl low) = st.map_pages x low ∙ sym (st'.map_pages x low)
    lives (inr high) = subst (λ k. (birth_of (entry k)) ≡ birth_of (entry' k)) (at_its_place w.shape (page_named x) high) (ap birth_of (st.lives map place below in_map ∙ (ap (λ (i : PageImage). entries_of i place) (map_page map below) ∙ sym (st'.lives map place below in_map))))
      where
        map : ℕ
        map = (map_of_data w.shape (page_named x)).0

        place : ℕ
        place = place_of_page w.shape (page_named x)

        below : (map_of_data w.shape (page_named x)).0 < w.shape.maps
        below = map_of_data-below w.shape (page_named x) high lt

        in_map : place_of_page w.shape (page_named x) < pages_per_map
        in_map = place_of_page-below w.shape (page_named x)

    slot : (s : ℕ) → Settles w.first logs (image x) x s (settled x s) → Settles w.first logs (image' x) x s (settled' x s) → settled x s ≡ settled' x s
    slot s (o, c) (o', c') = go (transaction_cases o o')
      where
        same : image' x ≡ image x
        same = sym (page x (lives (cases_lt x w.shape.maps)))

        go : (o ≡ o') ⊎ (o ≢ o') → settled x s ≡ settled' x s
        go (inl e) = leads_one (of_slot x s (open_updates w.first logs o')) (settled x s) (settled' x s) (slots_of (image x) s)
            (subst (λ k. Leads (of_slot x s (open_updates w.first logs k)) (settled x s) (slots_of (image x) s)) e c.value)
            (subst (λ i. Leads (of_slot x s (open_updates w.first logs o')) (settled' x s) (slots_of i s)) same c'.value)
        go (inr d) =
            let a : settled x s ≡ slots_of (image x) s = rw (c'.alone o d) at c.value in
            let b : settled' x s ≡ slots_of (image' x) s = rw (c.alone o' (λ e. d (sym e))) at c'.value in
            a ∙ (ap (λ (i : PageImage). slots_of i s) (sym same) ∙ sym b)
