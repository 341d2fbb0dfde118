-- What a change leaves of a page, and which page an image stands for.
use Rattle.std.proofs.Common.{◌≡◌, ◌≢◌, ◌⊎◌, inl, inr, ℕ, zero, suc, ◌<◌, ◌≤◌, Bool, true, false, cond, ltb, List, [], ◌∷◌, ◌++◌, length, take, refl, ap, sym, ◌∙◌, arith, Some, None, unwrap_or, slice_index_or, slice_set, ltb-false, ltb-true, lt-ltb, le-ltb, replicate}
use Rattle.std.proofs.lemmas.Bool.{cases_eq, cases_lt}
use Rattle.std.proofs.lemmas.List.{get_or-set_same, get_or-set_other, length-set, get_or-replicate, set_past}
use Rattle.sd_base.specs.Shape.{pages_per_map}
use Rattle.sd_base.specs.declared.shape.Shape.{Shape}
use Rattle.sd_base.specs.declared.page_op.PageOp.{PageOp}
use Rattle.sd_base.specs.declared.page_op.PageOp.TheVariants.{Put, Append, Cut, MapUse, MapFree}
use Rattle.space_map.specs.declared.map_entry.MapEntry.{MapEntry}
use Rattle.space_map.specs.declared.map_entry.MapEntry.TheVariants.{Free, Used}
use Rattle.recovery_theory.specs.Pages.{IsImageOf, IsSlotChange, SlotValue, birth_of, blank, entries_of, entry_after, in_life_from, place_of, slot_after, slots_of}
use Rattle.space_map.specs.PageImage.{data_page, map_page, PageImage, changed, ident_of}
use Rattle.sd_base.specs.declared.names.GroupNo.{GroupNo}

-- ---- slots

-- a change changes the slot that it names, and no other one
pub slots-changed_same : (shape : Shape) (x : ℕ) (op : PageOp) (i : PageImage) → IsImageOf shape x i → shape.maps ≤ x → IsSlotChange op → slots_of (changed op i) (place_of op) ≡ slot_after op (slots_of i (place_of op))
slots-changed_same shape x (Put s v) (data_page d) h le low = get_or-set_same d.slots s v None (omega (arith, h.2))
slots-changed_same shape x (Append s b) (data_page d) h le low = get_or-set_same d.slots s (Some (take 248 (unwrap_or (slice_index_or d.slots s None) [] ++ b))) None (omega (arith, h.2))
slots-changed_same shape x (Cut s true n) (data_page d) h le low = get_or-set_same d.slots s (Some (take n (unwrap_or (slice_index_or d.slots s None) []))) None (omega (arith, h.2))
slots-changed_same shape x (Cut s false n) (data_page d) h le low = get_or-set_same d.slots s None None (omega (arith, h.2))
slots-changed_same shape x (MapUse q g) (data_page d) h le low = absurd low
slots-changed_same shape x (MapFree q k) (data_page d) h le low = absurd low
slots-changed_same shape x op (map_page m) h le low = absurd (omega (arith, h.0))

pub slots-changed_other : (op : PageOp) (i : PageImage) (s : ℕ) → s ≢ place_of op → slots_of (changed op i) s ≡ slots_of i s
slots-changed_other (Put k v) (data_page d) s ne = get_or-set_other d.slots k s v None ne
slots-changed_other (Append k b) (data_page d) s ne = get_or-set_other d.slots k s (Some (take 248 (unwrap_or (slice_index_or d.slots k None) [] ++ b))) None ne
slots-changed_other (Cut k true n) (data_page d) s ne = get_or-set_other d.slots k s (Some (take n (unwrap_or (slice_index_or d.slots k None) []))) None ne
slots-changed_other (Cut k false n) (data_page d) s ne = get_or-set_other d.slots k s None None ne
slots-changed_other (MapUse q g) (data_page d) s ne = refl
slots-changed_other (MapFree q k) (data_page d) s ne = refl
slots-changed_other op (map_page m) s ne = refl

-- ---- entries

-- a change of an entry
pub data IsMapChange : PageOp → Type 0 where
  use_op : (q : ℕ) (g : GroupNo) → IsMapChange (MapUse q g)
  free_op : (q i : ℕ) → IsMapChange (MapFree q i)

-- changes no slot
pub slots-map : (op : PageOp) → IsMapChange op → (i : PageImage) (s : ℕ) → slots_of (changed op i) s ≡ slots_of i s
slots-map (MapUse q g) h (data_page d) s = refl
slots-map (MapFree q k) h (data_page d) s = refl
slots-map (Put a v) h (data_page d) s = elim h [ ]
slots-map (Append a v) h (data_page d) s = elim h [ ]
slots-map (Cut a f v) h (data_page d) s = elim h [ ]
slots-map op h (map_page m) s = refl

-- a change changes the entry that it names, and no other one
pub entries-same : (shape : Shape) (x : ℕ) (op : PageOp) (i : PageImage) (q : ℕ) → IsImageOf shape x i → x < shape.maps → q < pages_per_map → place_of op ≡ q → entries_of (changed op i) q ≡ entry_after op (entries_of i q)
entries-same shape x op (data_page d) q h lt low e = absurd (omega (arith, h.0))
entries-same shape x (Put s v) (map_page m) q h lt low e = refl
entries-same shape x (Append s b) (map_page m) q h lt low e = refl
entries-same shape x (Cut s f n) (map_page m) q h lt low e = refl
entries-same shape x (MapUse p g) (map_page m) q h lt low e =
    rw (← e) (get_or-set_same m.entries p (Used g (birth_of (slice_index_or m.entries p (Free 0)))) (Free 0) (omega (arith, h.2)))
entries-same shape x (MapFree p k) (map_page m) q h lt low e = rw (← e) (get_or-set_same m.entries p (Free k) (Free 0) (omega (arith, h.2)))

pub entries-other : (op : PageOp) (i : PageImage) (q : ℕ) → q ≢ place_of op → entries_of (changed op i) q ≡ entries_of i q
entries-other op (data_page d) q ne = refl
entries-other (Put s v) (map_page m) q ne = refl
entries-other (Append s b) (map_page m) q ne = refl
entries-other (Cut s f n) (map_page m) q ne = refl
entries-other (MapUse p g) (map_page m) q ne = get_or-set_other m.entries p q (Used g (birth_of (slice_index_or m.entries p (Free 0)))) (Free 0) ne
entries-other (MapFree p k) (map_page m) q ne = get_or-set_other m.entries p q (Free k) (Free 0) ne

-- only the freeing of a place changes the identifier of its entry
pub birth_cases : (op : PageOp) (i : PageImage) (q : ℕ) → (birth_of (entries_of (changed op i) q) ≡ birth_of (entries_of i q)) ⊎ (op ≡ MapFree q (birth_of (entries_of (changed op i) q)))
birth_cases op (data_page d) q = inl refl
birth_cases (Put s v) (map_page m) q = inl refl
birth_cases (Append s b) (map_page m) q = inl refl
birth_cases (Cut s f n) (map_page m) q = inl refl
birth_cases (MapUse p g) (map_page m) q = go (cases_eq q p) (cases_lt p (length m.entries))
  where
    e : MapEntry
    e = Used g (birth_of (slice_index_or m.entries p (Free 0)))

    go : (q ≡ p) ⊎ (q ≢ p) → (p < length m.entries) ⊎ (length m.entries ≤ p)
        → (birth_of (slice_index_or (slice_set m.entries p (Used g (birth_of (slice_index_or m.entries p (Free 0))))) q (Free 0)) ≡ birth_of (slice_index_or m.entries q (Free 0)))
        ⊎ (MapUse p g ≡ MapFree q (birth_of (slice_index_or (slice_set m.entries p (Used g (birth_of (slice_index_or m.entries p (Free 0))))) q (Free 0))))
    go (inr d) h = inl (ap birth_of (get_or-set_other m.entries p q (Used g (birth_of (slice_index_or m.entries p (Free 0)))) (Free 0) d))
    go (inl z) (inl lt) = inl (rw z (ap birth_of (get_or-set_same m.entries p (Used g (birth_of (slice_index_or m.entries p (Free 0)))) (Free 0) lt)))
    go (inl z) (inr le) = inl (ap (λ l. birth_of (slice_index_or l q (Free 0))) (set_past m.entries p (Used g (birth_of (slice_index_or m.entries p (Free 0)))) le))
birth_cases (MapFree p k) (map_page m) q = go (cases_eq q p) (cases_lt p (length m.entries))
  where
    go : (q ≡ p) ⊎ (q ≢ p) → (p < length m.entries) ⊎ (length m.entries ≤ p)
        → (birth_of (slice_index_or (slice_set m.entries p (Free k)) q (Free 0)) ≡ birth_of (slice_index_or m.entries q (Free 0)))
        ⊎ (MapFree p k ≡ MapFree q (birth_of (slice_index_or (slice_set m.entries p (Free k)) q (Free 0))))
    go (inr d) h = inl (ap birth_of (get_or-set_other m.entries p q (Free k) (Free 0) d))
    go (inl z) (inl lt) = inr (rw z (ap (λ e. MapFree p (birth_of e)) (sym (get_or-set_same m.entries p (Free k) (Free 0) lt))))
    go (inl z) (inr le) = inl (ap (λ l. birth_of (slice_index_or l q (Free 0))) (set_past m.entries p (Free k) le))

-- ---- the kind of a page

-- a change leaves the kind of a page
pub shaped-changed : (shape : Shape) (x : ℕ) (op : PageOp) (i : PageImage) → IsImageOf shape x i → IsImageOf shape x (changed op i)
shaped-changed shape x (Put s v) (data_page d) h = (h.0, h.1, length-set d.slots s v ∙ h.2)
shaped-changed shape x (Append s b) (data_page d) h = (h.0, h.1, length-set d.slots s (Some (take 248 (unwrap_or (slice_index_or d.slots s None) [] ++ b))) ∙ h.2)
shaped-changed shape x (Cut s true n) (data_page d) h = (h.0, h.1, length-set d.slots s (Some (take n (unwrap_or (slice_index_or d.slots s None) []))) ∙ h.2)
shaped-changed shape x (Cut s false n) (data_page d) h = (h.0, h.1, length-set d.slots s None ∙ h.2)
shaped-changed shape x (MapUse q g) (data_page d) h = h
shaped-changed shape x (MapFree q k) (data_page d) h = h
shaped-changed shape x (Put s v) (map_page m) h = h
shaped-changed shape x (Append s b) (map_page m) h = h
shaped-changed shape x (Cut s f n) (map_page m) h = h
shaped-changed shape x (MapUse q g) (map_page m) h = (h.0, h.1, length-set m.entries q (Used g (birth_of (slice_index_or m.entries q (Free 0)))) ∙ h.2)
shaped-changed shape x (MapFree q k) (map_page m) h = (h.0, h.1, length-set m.entries q (Free k) ∙ h.2)

-- a blank page has no record
pub slots-blank : (x b s : ℕ) → slots_of (blank x b) s ≡ None
slots-blank x b s = go (cases_lt s 16)
  where
    go : (s < 16) ⊎ (16 ≤ s) → slots_of (blank x b) s ≡ None
    go (inl lt) = get_or-replicate 16 s None None lt
    go (inr le) = beyond (replicate 16 None) s (omega arith)
      where
        beyond : (l : List SlotValue) (k : ℕ) → length l ≤ k → slice_index_or l k None ≡ None
        beyond [] k h = refl
        beyond (a ∷ l) zero h = absurd (omega arith)
        beyond (a ∷ l) (suc k) h = beyond l k (omega arith)

-- ---- lives

-- a page is not below the identifier with which its life began
pub ident-in_life_from : (x b : ℕ) (i : PageImage) → b ≤ ident_of (in_life_from x b i)
ident-in_life_from x b i = go (ltb (ident_of i) b) refl
  where
    go : (t : Bool) → ltb (ident_of i) b ≡ t → b ≤ ident_of (cond t (blank x b) i)
    go true e = omega arith
    go false e = ltb-false (ident_of i) b e

-- an image of the present life stands for itself, one of an earlier life for the blank page
pub in_life_from-same : (x b : ℕ) (i : PageImage) → b ≤ ident_of i → in_life_from x b i ≡ i
in_life_from-same x b i h = rw (le-ltb (ident_of i) b h) refl

pub in_life_from-blank : (x b : ℕ) (i : PageImage) → ident_of i < b → in_life_from x b i ≡ blank x b
in_life_from-blank x b i h = rw (lt-ltb (ident_of i) b h) refl

-- no image is above what it stands for
pub in_life_from-above : (x b : ℕ) (i : PageImage) → ident_of i ≤ ident_of (in_life_from x b i)
in_life_from-above x b i = go (ltb (ident_of i) b) refl
  where
    go : (t : Bool) → ltb (ident_of i) b ≡ t → ident_of i ≤ ident_of (cond t (blank x b) i)
    go true e = let h = ltb-true (ident_of i) b e in omega arith
    go false e = omega arith
