-- What a cache shows after a read that brings a page in, or doesn't.
use Rattle.std.specs.Prelude.{◌≡◌, ◌≢◌, ℕ, false, List, Option, Some, None, All, Result, Ok, Err, OnOk, OnErr, IfSome, MatchResult, is_some, slice_index_or, refl}
use Rattle.std.proofs.Common.{arith, inl, inr, ap, subst, subst₂, sym, ◌∙◌}
use Rattle.std.proofs.lemmas.Bool.{cases_lt}
use Rattle.std.proofs.lemmas.List.{get_or-set_other}
use Rattle.std.proofs.lemmas.List.Elements.{All-push}
use Rattle.sd_base.specs.Disk.{BlockState, IsLawful}
use Rattle.sd_base.specs.declared.fault.DevFault.{DevFault}
use Rattle.sd_base.specs.declared.fault.DevFault.TheVariants.{Stopped, Failed, Lost, Damaged}
use Rattle.sd_base.specs.declared.names.PageNo.{PageNo}
use Rattle.sd_base.specs.declared.shape.Shape.{Shape}
use Rattle.frame_pool.specs.Frames.{IsOut, frame_at}
use Rattle.page_owner.specs.Owners.{Grant}
use Rattle.space_map.specs.Entry as entries
use Rattle.space_map.specs.Life.{DataPage, blank_page, page_in_life}
use Rattle.space_map.specs.declared.map_entry.MapEntry.{MapEntry}
use Rattle.state_ids.specs.Blocks.{HoldsPage, ShowsPage, UnlessStopped, page_place}
use Rattle.state_ids.specs.Held.{Shows}
use Rattle.state_ids.specs.PageImage.{PageImage, data_of, data_page, in_life, map_page, view_of}
use Rattle.state_ids.proofs.OneImage.{one_shown}
use Rattle.state_ids.proofs.PageLaws.{in_life-page}
use Rattle.node_cache.specs.Cache.{AreOut, AreShown, CachedPage, CacheState, IsInLife, IsTiedToDisk, StandsFor, page_at}
use Rattle.node_cache.specs.Room.{Arrived}
use Rattle.node_cache.proofs.Arriving.{found_last}
use Rattle.node_cache.proofs.ChangeLaws.{present_by, stale_by}
use Rattle.node_cache.proofs.Without.{shows_same}

-- a page is of the life in which it was put
life_twice : (e : MapEntry) (page : DataPage) → page_in_life e (page_in_life e page) ≡ page_in_life e page
life_twice e page = elim (cases_lt page.ident (entries.ident_of e)) [
  | inl stale ↦
      let is : page_in_life e page ≡ blank_page (entries.ident_of e) = stale_by page (entries.ident_of e) stale in
      rw is (present_by (blank_page (entries.ident_of e)) (entries.ident_of e) (omega arith))
  | inr present ↦ ap (page_in_life e) (present_by page (entries.ident_of e) present)
]

in_life-twice : (e : Option MapEntry) (image : PageImage) → in_life e (in_life e image) ≡ in_life e image
in_life-twice None image = refl
in_life-twice (Some e) (map_page m) = refl
in_life-twice (Some e) (data_page v) = ap (λ page. data_page (view_of v.page page)) (life_twice e (data_of v))

-- The page x came in behind those that stayed: what their frames show, and what its own does.
module _ (s : Shape) (x : PageNo) (e : Option MapEntry) (stayed : List CachedPage) (old : List (Option (List ℕ))) (c : CacheState) (new : List (Option (List ℕ)))
    (out : All (λ q. IsOut old q.frame) stayed) (a : Arrived s x e stayed old c new) where
  abbrev last : CachedPage
  last = record { ticket = record { page = x; node = c.node }; frame = a.frame; entry = e; changes = None }

  -- the frames of the others hold what they held
  frame_kept : All (λ q. frame_at new q.frame ≡ frame_at old q.frame) stayed
  frame_kept k d below =
      let other : (slice_index_or stayed k d).frame ≢ a.frame = λ same. let some = ap is_some (sym (ap (frame_at old) same ∙ a.free)) ∙ out k d below in cc in
      ap (λ frames. frame_at frames (slice_index_or stayed k d).frame) a.others ∙ get_or-set_other old a.frame (slice_index_or stayed k d).frame (frame_at new a.frame) None other

  pub arrived_shown : All (λ q. ShowsPage s q.ticket.page old q.frame) stayed → AreShown s new c
  arrived_shown shown =
      subst (All (λ q. ShowsPage s q.ticket.page new q.frame)) (sym a.last)
      (All-push (λ q. ShowsPage s q.ticket.page new q.frame) stayed last (λ k d below. let was = shown k d below in (was.0, shows_same old new _ was.0 (frame_kept k d below) was.1, was.2, was.3)) a.shows)

  arrived_life : All (IsInLife old) stayed → IsInLife new last → All (IsInLife new) c.pages
  arrived_life life here =
      subst (All (IsInLife new)) (sym a.last)
      (All-push (IsInLife new) stayed last (λ k d below image shows number. life k d below image (shows_same new old _ image (sym (frame_kept k d below)) shows) number) here)

  arrived_clean : (b : ℕ → BlockState) → All (λ q. q.changes ≡ None → StandsFor s old q b) stayed → StandsFor s new last b → All (λ q. q.changes ≡ None → StandsFor s new q b) c.pages
  arrived_clean b clean here =
      subst (All (λ q. q.changes ≡ None → StandsFor s new q b)) (sym a.last)
      (All-push (λ q. q.changes ≡ None → StandsFor s new q b) stayed last (λ k d below none o may. elim (clean k d below none o may) [
        | inl lost ↦ inl lost
        | inr stands ↦ inr (stands.0, stands.1, shows_same old new _ (in_life (slice_index_or stayed k d).entry stands.0) (frame_kept k d below) stands.2)
      ]) (λ none. here))

  -- The page that came in is what its block holds, in its life. A lawful block that no port has written holds that,
  -- whatever a stop leaves.
  module _ (b : ℕ → BlockState) (law : IsLawful b (page_place s x)) (covered : (b (page_place s x)).writer ≡ None) (image : PageImage) (holds : HoldsPage s x image (b (page_place s x)).current) (shows : Shows new a.frame (in_life e image)) where
    last_life : IsInLife new last
    last_life other shown number =
        let same : other ≡ in_life e image = one_shown new a.frame other (in_life e image) shown shows (number ∙ sym (in_life-page e image ∙ holds.3)) in
        subst (λ i. in_life e i ≡ i) (sym same) (in_life-twice e image)

    last_stands : StandsFor s new last b
    last_stands o may = inr (image, subst (HoldsPage s x image) (sym (law.covered covered o may)) holds, shows)

    pub arrived_tied : All (λ q. ShowsPage s q.ticket.page old q.frame) stayed → All (IsInLife old) stayed → All (λ q. q.changes ≡ None → StandsFor s old q b) stayed → IsTiedToDisk s new c b
    arrived_tied shown life clean = record { shown = arrived_shown shown; life = arrived_life life last_life; clean = arrived_clean b clean last_stands }

-- a cache of the same pages in the same frames, over the same blocks, is tied as before
tied_kept : (s : Shape) (c d : CacheState) (old new : List (Option (List ℕ))) (b b' : ℕ → BlockState) → d.pages ≡ c.pages → new ≡ old → b' ≡ b → IsTiedToDisk s old c b → IsTiedToDisk s new d b'
tied_kept s c d old new b b' pages pool blocks tie = record {
  shown = subst₂ (λ frames ps. All (λ q. ShowsPage s q.ticket.page frames q.frame) ps) (sym pool) (sym pages) tie.shown;
  life = subst₂ (λ frames ps. All (IsInLife frames) ps) (sym pool) (sym pages) tie.life;
  clean = subst (λ k. All (λ q. q.changes ≡ None → StandsFor s new q k) d.pages) (sym blocks) (subst₂ (λ frames ps. All (λ q. q.changes ≡ None → StandsFor s frames q b) ps) (sym pool) (sym pages) tie.clean);
}

-- what is shown after the read: c is the cache before it, with the frames `old`, and d the one after it
pub shown_then : (s : Shape) (x : PageNo) (e : Option MapEntry) (c d : CacheState) (old new : List (Option (List ℕ))) (r : Result (Unit {0}) (DevFault × Grant)) → AreOut old c
    → OnOk r (Arrived s x e c.pages old d new) → OnErr r (d.pages ≡ c.pages) → OnErr r (new ≡ old) → AreShown s old c → AreShown s new d
shown_then s x e c d old new (Ok u) out arrived pages pool shown = arrived_shown s x e c.pages old d new out arrived shown
shown_then s x e c d old new (Err f) out arrived pages pool shown = subst₂ (λ frames ps. All (λ q. ShowsPage s q.ticket.page frames q.frame) ps) (sym pool) (sym pages) shown

-- and how it is tied, where the block had no uncovered write
pub tied_then : (s : Shape) (x : PageNo) (e : Option MapEntry) (c d : CacheState) (old new : List (Option (List ℕ))) (b b' : ℕ → BlockState) (r : Result (Unit {0}) (DevFault × Grant)) → AreOut old c
    → OnOk r (Arrived s x e c.pages old d new) → OnErr r (d.pages ≡ c.pages) → OnErr r (new ≡ old) → is_some (page_at x c.pages) ≡ false → IsLawful b (page_place s x) → (b (page_place s x)).writer ≡ None
    → MatchResult r (λ _. b' ≡ b) (λ f. UnlessStopped f.0 (b' ≡ b)) → OnOk r ((image : PageImage) × HoldsPage s x image (b (page_place s x)).current)
    → OnOk r ((image : PageImage) → HoldsPage s x image (b (page_place s x)).current → IfSome (page_at x d.pages) (λ p. Shows new p.frame (in_life e image)))
    → IsTiedToDisk s old c b → MatchResult r (λ _. IsTiedToDisk s new d b') (λ f. UnlessStopped f.0 (IsTiedToDisk s new d b'))
tied_then s x e c d old new b b' (Ok u) out arrived pages pool none law covered blocks found image tie =
    let last : CachedPage = record { ticket = record { page = x; node = d.node }; frame = arrived.frame; entry = e; changes = None } in
    let there : page_at x d.pages ≡ Some last = ap (page_at x) arrived.last ∙ found_last x c.pages last none refl in
    let shows : Shows new arrived.frame (in_life e found.0) = subst (λ o. IfSome o (λ p. Shows new p.frame (in_life e found.0))) there (image found.0 found.1) in
    subst (IsTiedToDisk s new d) (sym blocks) (arrived_tied s x e c.pages old d new out arrived b law covered found.0 found.1 shows tie.shown tie.life tie.clean)
tied_then s x e c d old new b b' (Err (Stopped n, t)) out arrived pages pool none law covered blocks found image tie = tt
tied_then s x e c d old new b b' (Err (Failed n, t)) out arrived pages pool none law covered blocks found image tie = tt
tied_then s x e c d old new b b' (Err (Lost at, t)) out arrived pages pool none law covered blocks found image tie = tied_kept s c d old new b b' pages pool blocks tie
tied_then s x e c d old new b b' (Err (Damaged at, t)) out arrived pages pool none law covered blocks found image tie = tied_kept s c d old new b b' pages pool blocks tie
