-- A page comes into the frame of a free place, as its block has it.
use Rattle.std.proofs.Common.{◌≡◌, ◌≢◌, ◌<◌, ◌≤◌, ◌+◌, ◌⊎◌, ℕ, Bool, true, false, List, Option, Some, None, is_some, length, set, inl, inr, refl, ap, sym, ◌∙◌, subst, arith}
use Rattle.std.proofs.lemmas.Bool.{cases_eq}
use Rattle.std.proofs.lemmas.List.{get_or-set_other, get_or-set_same, length-set}
use Rattle.sd_base.specs.Disk.{BlockState}
use Rattle.sd_base.specs.Shape.{page_count}
use Rattle.sd_base.specs.declared.names.PageNo.{PageNo}
use Rattle.sd_base.specs.declared.shape.Shape.{Shape}
use Rattle.frame_pool.specs.Frames.{IsOut, frame_at}
use Rattle.state_ids.specs.PageImage.{PageImage}
use Rattle.state_ids.specs.Held.{KeepsFrames, Shows}
use Rattle.state_ids.specs.Blocks.{HoldsPage, ShowsPage, page_place}
use Rattle.one_log_redo.specs.declared.copies.Copied.{Copied}
use Rattle.one_log_redo.specs.Copies.{AreCopies, AreLent, HaveImages, IsAt, IsNowhere, IsUnchanged, KeepsOthers, ShowsAs, copy_at, frame_of}

-- a frame that isn't written shows what it showed
module _ (pool pool' : List (Option (List ℕ))) (frames : List (Option ℕ)) (count k : ℕ) (lent : AreLent pool frames count) (below : k < count) (keeps : KeepsFrames (frame_of frames k) pool pool') where
  same_frame : (j : ℕ) → j < count → j ≢ k → frame_at pool' (frame_of frames j) ≡ frame_at pool (frame_of frames j)
  same_frame j lt ne = ap (λ (p : List (Option (List ℕ))). frame_at p (frame_of frames j)) keeps ∙ get_or-set_other pool (frame_of frames k) (frame_of frames j) (frame_at pool' (frame_of frames k)) None (λ e. ne (lent.apart j k lt below e))

  pub still_shows : (j : ℕ) → j < count → j ≢ k → (image : PageImage) → Shows pool (frame_of frames j) image → Shows pool' (frame_of frames j) image
  still_shows j lt ne image w = record { bytes = w.bytes; held = same_frame j lt ne ∙ w.held; text = w.text }

  pub still_page : (s : Shape) (x : PageNo) (j : ℕ) → j < count → j ≢ k → ShowsPage s x pool (frame_of frames j) → ShowsPage s x pool' (frame_of frames j)
  still_page s x j lt ne w = (w.0, still_shows j lt ne w.0 w.1, w.2, w.3)

  pub still_as : (s : Shape) (x : PageNo) (j : ℕ) → j < count → j ≢ k → (image : PageImage) → ShowsAs s x pool (frame_of frames j) image → ShowsAs s x pool' (frame_of frames j) image
  still_as s x j lt ne image w = record { shows = still_shows j lt ne image w.shows; page = w.page; kind = w.kind }

-- the frames that are out stay out, and the others stay as they are
pub lent_kept : (pool pool' : List (Option (List ℕ))) (frames : List (Option ℕ)) (count k : ℕ) → AreLent pool frames count → k < count → KeepsFrames (frame_of frames k) pool pool' → IsOut pool' (frame_of frames k) → AreLent pool' frames count
lent_kept pool pool' frames count k lent below keeps out = record {
  few = lent.few;
  some = lent.some;
  none = lent.none;
  out = λ j lt. elim (cases_eq j k) [
    | inl e ↦ subst (λ i. IsOut pool' (frame_of frames i)) (sym e) out
    | inr ne ↦ ap is_some (same_frame pool pool' frames count k lent below keeps j lt ne) ∙ lent.out j lt
  ];
  apart = lent.apart;
}

pub others_kept : (pool pool' : List (Option (List ℕ))) (frames : List (Option ℕ)) (count k : ℕ) → k < count → KeepsFrames (frame_of frames k) pool pool' → KeepsOthers frames count pool pool'
others_kept pool pool' frames count k below keeps = record {
  size = ap length keeps ∙ length-set pool (frame_of frames k) (frame_at pool' (frame_of frames k));
  others = λ f far. ap (λ (p : List (Option (List ℕ))). frame_at p f) keeps ∙ get_or-set_other pool (frame_of frames k) f (frame_at pool' (frame_of frames k)) None (far k below);
}

-- what the frame of a page shows
pub at_page : (s : Shape) (pool : List (Option (List ℕ))) (frames : List (Option ℕ)) (count : ℕ) (copies : List (Option Copied)) (x y : PageNo) (k f : ℕ) → AreCopies s pool frames count copies → IsAt x k copies → x ≡ y → f ≡ frame_of frames k → ShowsPage s y pool f
at_page s pool frames count copies x y k f is w same number = subst (ShowsPage s y pool) (sym number) (subst (λ (z : PageNo). ShowsPage s z pool (frame_of frames k)) (w.2 ∙ same) (is.shows k w.0 w.1))

pub at_image : (s : Shape) (pool : List (Option (List ℕ))) (frames : List (Option ℕ)) (copies : List (Option Copied)) (b : ℕ → BlockState) (images : ℕ → PageImage) (x y : PageNo) (k f : ℕ) → HaveImages s pool frames copies b images → IsAt x k copies → x ≡ y → f ≡ frame_of frames k → ShowsAs s y pool f (images y.0)
at_image s pool frames copies b images x y k f h w same number = subst (λ g. ShowsAs s y pool g (images y.0)) (sym number) (subst (λ (z : PageNo). ShowsAs s z pool (frame_of frames k) (images z.0)) (w.2 ∙ same) (h.shown k w.0 w.1))

-- the page at a place
module _ (copies : List (Option Copied)) (k : ℕ) (c : Copied) (below : k < length copies) where
  abbrev more : List (Option Copied)
  more = set copies k (Some c)

  pub more_here : copy_at more k ≡ Some c
  more_here = get_or-set_same copies k (Some c) None below

  pub more_other : (j : ℕ) → j ≢ k → copy_at more j ≡ copy_at copies j
  more_other j ne = get_or-set_other copies k j (Some c) None ne

  -- what is at a place then
  pub more_cases : (j : ℕ) (d : Copied) → copy_at more j ≡ Some d → ((j ≡ k) × (d ≡ c)) ⊎ ((j ≢ k) × (copy_at copies j ≡ Some d))
  more_cases j d at = elim (cases_eq j k) [
    | inl e ↦ let both : Some c ≡ Some d = sym more_here ∙ ap (copy_at more) (sym e) ∙ at in let same : d ≡ c = cc in inl (e, same)
    | inr ne ↦ inr (ne, sym (more_other j ne) ∙ at)
  ]

module _ (s : Shape) (pool pool' : List (Option (List ℕ))) (frames : List (Option ℕ)) (count : ℕ) (copies : List (Option Copied)) (k : ℕ) (x : PageNo) (since : ℕ) (lent : AreLent pool frames count) (is : AreCopies s pool frames count copies) (below : k < count) (within : k < length copies) (free : copy_at copies k ≡ None)
    (nowhere : IsNowhere x copies) (keeps : KeepsFrames (frame_of frames k) pool pool') where
  abbrev new : Copied
  new = record { page = x; since = since; changed = false }

  abbrev copies' : List (Option Copied)
  copies' = set copies k (Some new)

  page_of_new : (d : Copied) → d ≡ new → d.page ≡ x
  page_of_new d e = ap (λ (y : Copied). y.page) e

  pub copies_arrived : x.0 < page_count s → ShowsPage s x pool' (frame_of frames k) → AreCopies s pool' frames count copies'
  copies_arrived low shows = record {
    within = λ j d at. elim (more_cases copies k new within j d at) [
      | inl w ↦ subst (λ i. i < count) (sym w.0) below
      | inr w ↦ is.within j d w.1
    ];
    pages = λ j d at. elim (more_cases copies k new within j d at) [
      | inl w ↦ subst (λ (y : PageNo). y.0 < page_count s) (sym (page_of_new d w.1)) low
      | inr w ↦ is.pages j d w.1
    ];
    shows = λ j d at. elim (more_cases copies k new within j d at) [
      | inl w ↦ subst (λ i. ShowsPage s d.page pool' (frame_of frames i)) (sym w.0) (subst (λ (y : PageNo). ShowsPage s y pool' (frame_of frames k)) (sym (page_of_new d w.1)) shows)
      | inr w ↦ still_page pool pool' frames count k lent below keeps s d.page j (is.within j d w.1) w.0 (is.shows j d w.1)
    ];
    once = λ i j c d at at' same. elim (more_cases copies k new within i c at) [
      | inl w ↦ elim (more_cases copies k new within j d at') [
        | inl v ↦ w.0 ∙ sym v.0
        | inr v ↦ absurd (nowhere j d v.1 (sym same ∙ page_of_new c w.1))
      ]
      | inr w ↦ elim (more_cases copies k new within j d at') [
        | inl v ↦ absurd (nowhere i c w.1 (same ∙ page_of_new d v.1))
        | inr v ↦ is.once i j c d w.1 v.1 same
      ]
    ];
  }

  was_unchanged : (y : PageNo) → IsUnchanged y copies' → IsUnchanged y copies
  was_unchanged y rest j d at same = rest j d (more_other copies k new within j (λ e. let no : None ≡ Some d = sym free ∙ ap (copy_at copies) (sym e) ∙ at in absurd cc) ∙ at) same

  pub images_arrived : (b : ℕ → BlockState) (images : ℕ → PageImage) (i : PageImage) → x.0 < page_count s → HoldsPage s x i (b (page_place s x)).current → Shows pool' (frame_of frames k) i
      → HaveImages s pool frames copies b images → HaveImages s pool' frames copies' b images
  images_arrived b images i low holds shows h =
      let same : images x.0 ≡ i = h.stored x i low (λ j d at e. absurd (nowhere j d at e)) holds in
      let now : ShowsAs s x pool' (frame_of frames k) (images x.0) = subst (ShowsAs s x pool' (frame_of frames k)) (sym same) (record { shows = shows; page = holds.3; kind = holds.4 }) in
      record {
        shown = λ j d at. elim (more_cases copies k new within j d at) [
          | inl w ↦ subst (λ n. ShowsAs s d.page pool' (frame_of frames n) (images d.page.0)) (sym w.0) (subst (λ (y : PageNo). ShowsAs s y pool' (frame_of frames k) (images y.0)) (sym (page_of_new d w.1)) now)
          | inr w ↦ still_as pool pool' frames count k lent below keeps s d.page j (is.within j d w.1) w.0 (images d.page.0) (h.shown j d w.1)
        ];
        stored = λ y n lt rest here. h.stored y n lt (was_unchanged y rest) here;
      }

  pub there_arrived : IsAt x k copies'
  there_arrived = (new, more_here copies k new within, refl)

  pub kept_arrived : (y : PageNo) (j : ℕ) → IsAt y j copies → IsAt y j copies'
  kept_arrived y j w = (w.0, more_other copies k new within j (λ e. let no : None ≡ Some w.0 = sym free ∙ ap (copy_at copies) (sym e) ∙ w.1 in absurd cc) ∙ w.1, w.2)
