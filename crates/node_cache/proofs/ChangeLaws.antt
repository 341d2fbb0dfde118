-- What a change leaves of the pages of a cache: their frames show them still, each in its life.
use Rattle.std.specs.Prelude.{◌≡◌, ◌≢◌, ◌≤◌, ◌<◌, ℕ, List, Option, Some, None, All, AllPairs, slice_index_or, nat_lt, if◌then◌else◌, refl}
use Rattle.std.proofs.Common.{arith, inl, inr, ap, subst, sym, ◌∙◌}
use Rattle.std.proofs.lemmas.Bool.{cases_lt}
use Rattle.std.proofs.lemmas.List.{get_or-set_other}
use Rattle.sd_base.specs.Disk.{BlockState}
use Rattle.sd_base.specs.declared.names.PageNo.{PageNo}
use Rattle.sd_base.specs.declared.page_op.PageOp.{PageOp}
use Rattle.sd_base.specs.declared.shape.Shape.{Shape}
use Rattle.sd_base.specs.declared.device.NodeId.{NodeId}
use Rattle.private_log.specs.Log.{LogState}
use Rattle.frame_pool.specs.Frames.{frame_at}
use Rattle.page_image.specs.declared.page_view.PageView.{PageView}
use Rattle.space_map.specs.declared.map_entry.MapEntry.{MapEntry}
use Rattle.space_map.specs.Entry as entries
use Rattle.space_map.specs.Life.{DataPage, page_in_life, blank_page}
use Rattle.state_ids.specs.PageImage.{PageImage, data_page, map_page, page_of, ident_of, is_map, is_map_op, changed, in_life, data_of, view_of}
use Rattle.state_ids.specs.Held.{Shows, KeepsFrames}
use Rattle.state_ids.specs.Blocks.{IsOfKind, ShowsPage}
use Rattle.state_ids.proofs.PageLaws.{changed-page, changed-ident}
use Rattle.state_ids.proofs.OneImage.{one_shown}
use Rattle.node_cache.specs.Cache.{CachedPage, Changes, IsTiedToDisk, FitsCached, IsInLife, StandsFor, changed_by, with_change, is_page, with_page}
use Rattle.node_cache.proofs.OnePage.{all_with, found, is_page-same, only}

-- a change leaves a page what its number says
changed-kind : (s : Shape) (op : PageOp) (image : PageImage) → IsOfKind s image → IsOfKind s (changed op image)
changed-kind s op (data_page v) kind = subst (λ x. s.maps ≤ x.0) (sym (changed-page op (data_page v))) kind
changed-kind s op (map_page m) kind = subst (λ x. x.0 < s.maps) (sym (changed-page op (map_page m))) kind

-- a page of an earlier life, and one of this life
pub stale_by : (page : DataPage) (ident : ℕ) → page.ident < ident → (if nat_lt page.ident ident then blank_page ident else page) ≡ blank_page ident
stale_by page ident lt = grind arith

pub present_by : (page : DataPage) (ident : ℕ) → ident ≤ page.ident → (if nat_lt page.ident ident then blank_page ident else page) ≡ page
present_by page ident le = grind arith

-- a data page is in its life exactly where its identifier isn't below that of the entry
in_present : (e : MapEntry) (v : PageView) → in_life (Some e) (data_page v) ≡ data_page v → entries.ident_of e ≤ v.ident
in_present e v same = elim (cases_lt v.ident (entries.ident_of e)) [
  | inl stale ↦
      let blank : page_in_life e (data_of v) ≡ blank_page (entries.ident_of e) = stale_by (data_of v) (entries.ident_of e) stale in
      let ident : entries.ident_of e ≡ v.ident = sym (ap (λ page. page.ident) blank) ∙ ap ident_of same in
      omega (arith, ident)
  | inr present ↦ present
]

present-in : (e : MapEntry) (v : PageView) → entries.ident_of e ≤ v.ident → in_life (Some e) (data_page v) ≡ data_page v
present-in e v present = ap (λ page. data_page (view_of v.page page)) (present_by (data_of v) (entries.ident_of e) present)

-- a change leaves a page in its life
pub changed-life : (e : Option MapEntry) (op : PageOp) (image : PageImage) → is_map image ≡ is_map_op op → in_life e image ≡ image → in_life e (changed op image) ≡ changed op image
changed-life None op image kind same = refl
changed-life (Some e) op (map_page m) kind same = refl
changed-life (Some e) op (data_page v) kind same =
    let before = in_present e v same in
    let after = changed-ident op (data_page v) in
    present-in e _ (omega (arith, before, after))

module _ (pool pool' : List (Option (List ℕ))) (pages : List CachedPage) (x : PageNo) (before number : ℕ) (op : PageOp) (once : AllPairs (λ p q. p.ticket.page ≢ q.ticket.page) pages) (apart : AllPairs (λ p q. p.frame ≢ q.frame) pages)
    (fits : FitsCached pool pages x before op) (keeps : KeepsFrames fits.page.frame pool pool') (image : (i : PageImage) → Shows pool fits.page.frame i → is_map i ≡ is_map_op op → Shows pool' fits.page.frame (changed op i)) where
  -- another frame holds what it held
  kept : (q : CachedPage) (i : PageImage) → q.frame ≢ fits.page.frame → Shows pool q.frame i → Shows pool' q.frame i
  kept q i other s = record {
    bytes = s.bytes;
    held = ap (λ frames. frame_at frames q.frame) keeps ∙ get_or-set_other pool fits.page.frame q.frame (frame_at pool' fits.page.frame) None other ∙ s.held;
    text = s.text;
  }

  kept_back : (q : CachedPage) (i : PageImage) → q.frame ≢ fits.page.frame → Shows pool' q.frame i → Shows pool q.frame i
  kept_back q i other s = record {
    bytes = s.bytes;
    held = sym (ap (λ frames. frame_at frames q.frame) keeps ∙ get_or-set_other pool fits.page.frame q.frame (frame_at pool' fits.page.frame) None other) ∙ s.held;
    text = s.text;
  }

  this : (q : CachedPage) → q ≡ fits.page → q.ticket.page ≡ page_of fits.image
  this q same = ap (λ p. p.ticket.page) same ∙ is_page-same x fits.page (found (is_page x) pages fits.page fits.there) ∙ sym fits.number

  pub still_shown : (s : Shape) → All (λ q. ShowsPage s q.ticket.page pool q.frame) pages → All (λ q. ShowsPage s q.ticket.page pool' q.frame) (with_page x (changed_by number) pages)
  still_shown s shown = all_with (λ q. ShowsPage s q.ticket.page pool' q.frame) x (changed_by number) pages (λ i d below.
      let q : CachedPage = slice_index_or pages i d in
      let one = only x pages fits.page once apart fits.there i d below in
      let was = shown i d below in (
        λ is.
            let same : q ≡ fits.page = one.0 is in
            let shows : Shows pool fits.page.frame was.0 = subst (λ p. Shows pool p.frame was.0) same was.1 in
            let image_is : was.0 ≡ fits.image = one_shown pool fits.page.frame was.0 fits.image shows fits.shows (was.2 ∙ this q same) in (
              changed op fits.image,
              subst (λ p. Shows pool' p.frame (changed op fits.image)) (sym same) (image fits.image fits.shows fits.kind),
              changed-page op fits.image ∙ sym (this q same),
              changed-kind s op fits.image (subst (IsOfKind s) image_is was.3),
            ),
        λ is. (was.0, kept q was.0 (one.1 is) was.1, was.2, was.3),
      ))

  pub still_life : All (IsInLife pool) pages → All (IsInLife pool') (with_page x (changed_by number) pages)
  still_life life = all_with (IsInLife pool') x (changed_by number) pages (λ i d below.
      let q : CachedPage = slice_index_or pages i d in
      let one = only x pages fits.page once apart fits.there i d below in (
        λ is im shows number_is.
            let same : q ≡ fits.page = one.0 is in
            let made : Shows pool' q.frame (changed op fits.image) = subst (λ p. Shows pool' p.frame (changed op fits.image)) (sym same) (image fits.image fits.shows fits.kind) in
            let image_is : im ≡ changed op fits.image = one_shown pool' q.frame im (changed op fits.image) shows made (number_is ∙ this q same ∙ sym (changed-page op fits.image)) in
            let was : in_life q.entry fits.image ≡ fits.image = life i d below fits.image (subst (λ p. Shows pool p.frame fits.image) (sym same) fits.shows) (sym (this q same)) in
            subst (λ j. in_life q.entry j ≡ j) (sym image_is) (changed-life q.entry op fits.image fits.kind was),
        λ is im shows number_is. life i d below im (kept_back q im (one.1 is) shows) number_is,
      ))

  pub still_clean : (s : Shape) (b : ℕ → BlockState) → All (λ q. q.changes ≡ None → StandsFor s pool q b) pages → All (λ q. q.changes ≡ None → StandsFor s pool' q b) (with_page x (changed_by number) pages)
  still_clean s b clean = all_with (λ q. q.changes ≡ None → StandsFor s pool' q b) x (changed_by number) pages (λ i d below.
      let q : CachedPage = slice_index_or pages i d in
      let one = only x pages fits.page once apart fits.there i d below in (
        λ is none. absurd (not_clean q.changes none),
        λ is none o may. elim (clean i d below none o may) [
          | inl lost ↦ inl lost
          | inr stands ↦ inr (stands.0, stands.1, kept q (in_life q.entry stands.0) (one.1 is) stands.2)
        ],
      ))
    where
      not_clean : (c : Option Changes) → with_change number c ≡ None → ⊥
      not_clean None e = cc
      not_clean (Some c) e = cc

  pub still_tied : (s : Shape) (log : LogState) (node : NodeId) (b : ℕ → BlockState) → IsTiedToDisk s pool (record { log = log; node = node; pages = pages }) b
      → IsTiedToDisk s pool' (record { log = log; node = node; pages = with_page x (changed_by number) pages }) b
  still_tied s log node b tie = record { shown = still_shown s tie.shown; life = still_life tie.life; clean = still_clean s b tie.clean }
