-- A change is made of a page in a frame, or is passed over.
use Rattle.std.proofs.Common.{◌≡◌, ◌≢◌, ◌<◌, ◌≤◌, ◌+◌, ◌⊎◌, ◌||◌, ℕ, Bool, true, false, List, Option, Some, None, length, set, inl, inr, refl, ap, sym, ◌∙◌, subst, arith}
use Rattle.sd_base.specs.Disk.{BlockState}
use Rattle.sd_base.specs.Shape.{page_count}
use Rattle.sd_base.specs.declared.names.PageNo.{PageNo}
use Rattle.sd_base.specs.declared.shape.Shape.{Shape}
use Rattle.state_ids.specs.PageImage.{PageImage}
use Rattle.state_ids.specs.Held.{KeepsFrames}
use Rattle.state_ids.specs.Blocks.{HoldsPage, ShowsPage, page_place}
use Rattle.one_log_redo.specs.declared.copies.Copied.{Copied}
use Rattle.one_log_redo.specs.Copies.{AreCopies, AreLent, HaveImages, IsUnchanged, ShowsAs, copy_at, frame_of, noted}
use Rattle.one_log_redo.proofs.Arrivals.{more_cases, more_here, more_other, still_as, still_page}
use Rattle.one_log_redo.proofs.CopyLaws.{cases_page, one_copy, same_page, there}

-- neither was so
neither : (a b : Bool) → (a || b) ≡ false → (a ≡ false) × (b ≡ false)
neither true b e = absurd cc
neither false b e = (refl, e)

module _ (s : Shape) (pool pool' : List (Option (List ℕ))) (frames : List (Option ℕ)) (count : ℕ) (copies : List (Option Copied)) (k : ℕ) (x : PageNo) (c : Copied) (made : Bool) (lent : AreLent pool frames count) (is : AreCopies s pool frames count copies) (at : copy_at copies k ≡ Some c) (page : c.page ≡ x)
    (keeps : KeepsFrames (frame_of frames k) pool pool') where
  below : k < count
  below = is.within k c at

  within : k < length copies
  within = there copies k c at

  abbrev copies' : List (Option Copied)
  copies' = set copies k (Some (noted made c))

  page_new : (d : Copied) → d ≡ noted made c → d.page ≡ x
  page_new d e = ap (λ (y : Copied). y.page) e ∙ page

  pub copies_noted : ShowsPage s x pool' (frame_of frames k) → AreCopies s pool' frames count copies'
  copies_noted shows = record {
    within = λ j d at'. elim (more_cases copies k (noted made c) within j d at') [
      | inl w ↦ subst (λ i. i < count) (sym w.0) below
      | inr w ↦ is.within j d w.1
    ];
    pages = λ j d at'. elim (more_cases copies k (noted made c) within j d at') [
      | inl w ↦ subst (λ (y : PageNo). y.0 < page_count s) (page ∙ sym (page_new d w.1)) (is.pages k c at)
      | inr w ↦ is.pages j d w.1
    ];
    shows = λ j d at'. elim (more_cases copies k (noted made c) within j d at') [
      | inl w ↦ subst (λ i. ShowsPage s d.page pool' (frame_of frames i)) (sym w.0) (subst (λ (y : PageNo). ShowsPage s y pool' (frame_of frames k)) (sym (page_new d w.1)) shows)
      | inr w ↦ still_page pool pool' frames count k lent below keeps s d.page j (is.within j d w.1) w.0 (is.shows j d w.1)
    ];
    once = λ i j a d at' at'' same. elim (more_cases copies k (noted made c) within i a at') [
      | inl w ↦ elim (more_cases copies k (noted made c) within j d at'') [
        | inl v ↦ w.0 ∙ sym v.0
        | inr v ↦ w.0 ∙ is.once k j c d at v.1 (page ∙ sym (page_new a w.1) ∙ same)
      ]
      | inr w ↦ elim (more_cases copies k (noted made c) within j d at'') [
        | inl v ↦ is.once i k a c w.1 at (same ∙ page_new d v.1 ∙ sym page) ∙ sym v.0
        | inr v ↦ is.once i j a d w.1 v.1 same
      ]
    ];
  }

  pub images_noted : (b : ℕ → BlockState) (images images' : ℕ → PageImage) → ShowsAs s x pool' (frame_of frames k) (images' x.0) → ((y : ℕ) → y ≢ x.0 → images' y ≡ images y) → (made ≡ false → images' x.0 ≡ images x.0)
      → HaveImages s pool frames copies b images → HaveImages s pool' frames copies' b images'
  images_noted b images images' shows others passed h = record {
    shown = λ j d at'. elim (more_cases copies k (noted made c) within j d at') [
      | inl w ↦ subst (λ n. ShowsAs s d.page pool' (frame_of frames n) (images' d.page.0)) (sym w.0) (subst (λ (y : PageNo). ShowsAs s y pool' (frame_of frames k) (images' y.0)) (sym (page_new d w.1)) shows)
      | inr w ↦ subst (ShowsAs s d.page pool' (frame_of frames j)) (sym (others d.page.0 (λ e. w.0 (is.once j k d c w.1 at (same_page d.page x e ∙ sym page)))))
          (still_as pool pool' frames count k lent below keeps s d.page j (is.within j d w.1) w.0 (images d.page.0) (h.shown j d w.1))
    ];
    stored = λ y i lt rest here. elim (cases_page y x) [
      | inl same ↦
          let none = neither c.changed made (rest k (noted made c) (more_here copies k (noted made c) within) (page ∙ sym same)) in
          ap (λ (z : PageNo). images' z.0) same ∙ passed none.1 ∙ ap (λ (z : PageNo). images z.0) (sym same) ∙ h.stored y i lt (was_here y same none.0) here
      | inr far ↦ others y.0 (λ e. far (same_page y x e)) ∙ h.stored y i lt (was_other y far rest) here
    ];
  }
    where
      was_here : (y : PageNo) → y ≡ x → c.changed ≡ false → IsUnchanged y copies
      was_here y same none j d at' e = ap (λ (z : Copied). z.changed) (one_copy copies j k d c (is.once j k d c at' at (e ∙ same ∙ sym page)) at' at) ∙ none

      was_other : (y : PageNo) → y ≢ x → IsUnchanged y copies' → IsUnchanged y copies
      was_other y far rest j d at' e = rest j d (more_other copies k (noted made c) within j (λ q. far (sym e ∙ ap (λ (z : Copied). z.page) (one_copy copies j k d c q at' at) ∙ page)) ∙ at') e
