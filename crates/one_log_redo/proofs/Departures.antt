-- A page leaves its frame, and is written before if it has changes.
use Rattle.std.proofs.Common.{◌≡◌, ◌≢◌, ◌<◌, ◌≤◌, ◌+◌, ◌⊎◌, ℕ, Bool, true, false, List, Option, Some, None, IsTrue, length, set, inl, inr, refl, ap, sym, ◌∙◌, subst, arith}
use Rattle.std.proofs.lemmas.Bool.{cases_eq}
use Rattle.std.proofs.lemmas.List.{get_or-set_other, get_or-set_same}
use Rattle.sd_base.specs.Disk.{BlockState, DiskState, Holds, IsLawful, MayHold}
use Rattle.sd_base.specs.Calls.{Keeps, KeepsForeignBut, NarrowsBut, NoNewWriterBut}
use Rattle.sd_base.specs.Shape.{page_count}
use Rattle.sd_base.specs.declared.names.PageNo.{PageNo}
use Rattle.sd_base.specs.declared.shape.Shape.{Shape}
use Rattle.frame_pool.specs.Frames.{IsOut, frame_at}
use Rattle.state_ids.specs.PageImage.{PageImage, IsText, page_of}
use Rattle.state_ids.specs.Blocks.{HoldsPage, page_place}
use Rattle.state_ids.proofs.PageLaws.{Shows-text}
use Rattle.state_ids.proofs.OneImage.{one_image}
use Rattle.one_log_redo.specs.declared.copies.Copied.{Copied}
use Rattle.one_log_redo.specs.Copies.{AreCopies, HaveImages, IsAt, IsNowhere, IsUnchanged, ShowsAs, copy_at, frame_of}
use Rattle.one_log_redo.specs.Pages.{AreStill, IsBeside, KeepsPages, NarrowsToImages, UsesPages}
use Rattle.one_log_redo.proofs.CopyLaws.{cases_page, one_copy, same_page, there}
use Rattle.one_log_redo.proofs.PageCalls.{place_one}

-- ---- the places

module _ (copies : List (Option Copied)) (k : ℕ) (below : k < length copies) where
  abbrev gone : List (Option Copied)
  gone = set copies k None

  pub gone_here : copy_at gone k ≡ None
  gone_here = get_or-set_same copies k None None below

  pub gone_other : (j : ℕ) → j ≢ k → copy_at gone j ≡ copy_at copies j
  gone_other j ne = get_or-set_other copies k j None None ne

  -- what is left was there
  pub left_was : (j : ℕ) (d : Copied) → copy_at gone j ≡ Some d → (j ≢ k) × (copy_at copies j ≡ Some d)
  left_was j d at = elim (cases_eq j k) [
    | inl e ↦ let no : None ≡ Some d = sym gone_here ∙ ap (copy_at gone) (sym e) ∙ at in absurd cc
    | inr ne ↦ (ne, sym (gone_other j ne) ∙ at)
  ]

  pub copies_left : (s : Shape) (pool : List (Option (List ℕ))) (frames : List (Option ℕ)) (count : ℕ) → AreCopies s pool frames count copies → AreCopies s pool frames count gone
  copies_left s pool frames count is = record {
    within = λ j d at. is.within j d (left_was j d at).1;
    pages = λ j d at. is.pages j d (left_was j d at).1;
    shows = λ j d at. is.shows j d (left_was j d at).1;
    once = λ i j c d at at' same. is.once i j c d (left_was i c at).1 (left_was j d at').1 same;
  }

  pub nowhere_left : (x : PageNo) → IsNowhere x copies → IsNowhere x gone
  nowhere_left x none = λ j d at. none j d (left_was j d at).1

  pub kept_left : (c : Copied) (keep : PageNo) → copy_at copies k ≡ Some c → c.page ≢ keep → (j : ℕ) → IsAt keep j copies → IsAt keep j gone
  kept_left c keep at far j w = (w.0, gone_other j (λ e. let same = one_copy copies j k w.0 c e w.1 at in far (ap (λ (x : Copied). x.page) (sym same) ∙ w.2)) ∙ w.1, w.2)

  -- a page that has no changes now had none, if the one that left had none or is another one
  unchanged_was : (x : PageNo) → ((c : Copied) → copy_at copies k ≡ Some c → c.page ≡ x → c.changed ≡ false) → IsUnchanged x gone → IsUnchanged x copies
  unchanged_was x here rest = λ j d at same. elim (cases_eq j k) [
    | inl e ↦ here d (ap (copy_at copies) (sym e) ∙ at) same
    | inr ne ↦ rest j d (gone_other j ne ∙ at) same
  ]

  -- a page without changes leaves
  pub images_left : (s : Shape) (pool : List (Option (List ℕ))) (frames : List (Option ℕ)) (b : ℕ → BlockState) (images : ℕ → PageImage)
      → ((c : Copied) → copy_at copies k ≡ Some c → c.changed ≡ false) → HaveImages s pool frames copies b images → HaveImages s pool frames gone b images
  images_left s pool frames b images none h = record {
    shown = λ j d at. h.shown j d (left_was j d at).1;
    stored = λ x i lt rest holds. h.stored x i lt (unchanged_was x (λ c at same. none c at) rest) holds;
  }

-- ---- the page at a place is written and covered

module _ (s : Shape) (n : ℕ) (pool : List (Option (List ℕ))) (frames : List (Option ℕ)) (count : ℕ) (copies : List (Option Copied)) (k : ℕ) (c : Copied) (is : AreCopies s pool frames count copies) (at : copy_at copies k ≡ Some c) (f : ℕ) (old new : ℕ → BlockState) where
  abbrev here : ℕ
  here = page_place s c.page

  pub settled_still : AreStill s old → NoNewWriterBut here n old new → (new here).writer ≡ None → AreStill s new
  settled_still still writers covered = λ x lt. elim (cases_page x c.page) [
    | inl same ↦ ap (λ (y : PageNo). (new (page_place s y)).writer) same ∙ covered
    | inr far ↦ elim (writers (page_place s x)) [
      | inl was ↦ was ∙ still x lt
      | inr (inl none) ↦ none
      | inr (inr w) ↦ absurd (far (same_page x c.page (place_one s x c.page w.0)))
    ]
  ]

  pub settled_beside : KeepsForeignBut here n old new → (j : ℕ) → IsBeside s j → (old j).writer ≢ Some n → new j ≡ old j
  settled_beside foreign j far w = foreign j (far c.page (is.pages k c at)) w

  -- what it holds then
  settled_current : (bytes : List ℕ) → IsLawful new here → Holds new here (Some bytes) → (new here).current ≡ Some bytes
  settled_current bytes law holds = holds (new here).current law.current

  other_content : ((j : ℕ) → j ≢ here → (new j).current ≡ (old j).current) → (x : PageNo) → x ≢ c.page → (new (page_place s x)).current ≡ (old (page_place s x)).current
  other_content others x far = others (page_place s x) (λ e. far (same_page x c.page (place_one s x c.page e)))

  pub settled_pages : f ≡ frame_of frames k → IsLawful new here → ((j : ℕ) → j ≢ here → (new j).current ≡ (old j).current) → ((bytes : List ℕ) → frame_at pool f ≡ Some bytes → Holds new here (Some bytes)) → KeepsPages s old new
  settled_pages number law others written =
      let w = is.shows k c at in
      let bytes = w.1.bytes in
      let now = settled_current bytes law (written bytes (ap (frame_at pool) number ∙ w.1.held)) in
      record {
        beside = λ j far. others j (far c.page (is.pages k c at));
        pages = λ x i lt h. elim (cases_page x c.page) [
          | inl same ↦ (w.0, subst (λ (y : PageNo). HoldsPage s y w.0 (new (page_place s y)).current) (sym same) (bytes, now, w.1.text, w.2, w.3))
          | inr far ↦ (i, subst (HoldsPage s x i) (sym (other_content others x far)) h)
        ];
      }

  pub settled_narrows : f ≡ frame_of frames k → ((bytes : List ℕ) → frame_at pool f ≡ Some bytes → NarrowsBut here bytes old new) → (images : ℕ → PageImage) → HaveImages s pool frames copies old images → NarrowsToImages s images old new
  settled_narrows number narrows images h = λ j o may.
      let w = h.shown k c at in
      elim (narrows w.shows.bytes (ap (frame_at pool) number ∙ w.shows.held) j o may) [
        | inl was ↦ inl was
        | inr e ↦ inr (c.page, is.pages k c at, e.0, (w.shows.bytes, e.1, w.shows.text, w.page, w.kind))
      ]

  pub settled_images : k < length copies → f ≡ frame_of frames k → IsLawful new here → ((j : ℕ) → j ≢ here → (new j).current ≡ (old j).current) → ((bytes : List ℕ) → frame_at pool f ≡ Some bytes → Holds new here (Some bytes))
      → (images : ℕ → PageImage) → HaveImages s pool frames copies old images → HaveImages s pool frames (set copies k None) new images
  settled_images below number law others written images h =
      let w = h.shown k c at in
      let bytes = w.shows.bytes in
      let now = settled_current bytes law (written bytes (ap (frame_at pool) number ∙ w.shows.held)) in
      record {
        shown = λ j d at'. h.shown j d (left_was copies k below j d at').1;
        stored = λ x i lt rest holds. elim (cases_page x c.page) [
          | inl same ↦ ap (λ (y : PageNo). images y.0) same ∙ stored_here images w now x i same holds
          | inr far ↦ h.stored x i lt (unchanged_was copies k below x (λ d at' e. absurd (far (sym e ∙ ap (λ (y : Copied). y.page) (one_copy copies k k d c refl at' at)))) rest) (subst (HoldsPage s x i) (other_content others x far) holds)
        ];
      }
    where
      stored_here : (images : ℕ → PageImage) (w : ShowsAs s c.page pool (frame_of frames k) (images c.page.0)) → (new here).current ≡ Some w.shows.bytes → (x : PageNo) (i : PageImage) → x ≡ c.page → HoldsPage s x i (new (page_place s x)).current → images c.page.0 ≡ i
      stored_here images w now x i same holds =
          let at_here = subst (λ (y : PageNo). HoldsPage s y i (new (page_place s y)).current) same holds in
          let both : Some at_here.0 ≡ Some w.shows.bytes = sym at_here.1 ∙ now in
          let one : at_here.0 ≡ w.shows.bytes = cc in
          one_image (images c.page.0) i w.shows.bytes (w.page ∙ sym at_here.3) w.shows.text (subst (IsText i) one at_here.2)
