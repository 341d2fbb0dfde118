-- The pages of a cache without one of them.
use Rattle.std.specs.Prelude.{◌≡◌, ◌≢◌, ◌<◌, ◌+◌, ◌++◌, ℕ, zero, suc, Bool, true, false, List, [], ◌∷◌, Option, Some, None, All, AllPairs, is_some, refl, length, slice_index_or, slice_set, take, drop}
use Rattle.std.specs.List.{remove, slice_get}
use Rattle.std.proofs.Common.{arith, inl, inr, ap, sym, subst, ◌∙◌}
use Rattle.std.proofs.lemmas.Bool.{cases_lt}
use Rattle.std.proofs.lemmas.List.{drop-set-lt, get_or_default, get_or-set_other, take-set-le}
use Rattle.std.proofs.lemmas.List.Edits.{length-remove, get_or-remove_below, get_or-remove_above}
use Rattle.std.proofs.lemmas.List.Quantifiers.{all_pairs_remove}
use Rattle.sd_base.specs.Disk.{BlockState}
use Rattle.sd_base.specs.declared.device.NodeId.{NodeId}
use Rattle.sd_base.specs.declared.names.PageNo.{PageNo}
use Rattle.sd_base.specs.declared.shape.Shape.{Shape}
use Rattle.frame_pool.specs.Frames.{IsOut, frame_at}
use Rattle.page_owner.specs.declared.owners.Own.{Own}
use Rattle.page_owner.specs.declared.owners.Own.TheVariants.{Out}
use Rattle.page_owner.specs.Owners.{owner_of}
use Rattle.state_ids.specs.Blocks.{ShowsPage}
use Rattle.state_ids.specs.Held.{Shows}
use Rattle.state_ids.specs.PageImage.{PageImage, in_life}
use Rattle.node_cache.specs.Cache.{CachedPage, CacheState, IsCache, IsInLife, IsInLog, IsTiedToDisk, IsTiedToLog, StandsFor, is_page, page_at}
use Rattle.node_cache.proofs.Finding.{got}
use Rattle.node_cache.proofs.OnePage.{is_page-other}
use Rattle.node_cache.proofs.Parking.{is_within}

-- what holds of each page holds of each that is left
pub all_without : (P : CachedPage → Type 0) (pages : List CachedPage) (i : ℕ) → i < length pages → All P pages → All P (remove pages i)
all_without P pages i within all k d below = elim (cases_lt k i) [
  | inl before ↦ subst P (sym (get_or-remove_below pages i d k before within)) (all k d (omega (arith, before, within)))
  | inr behind ↦ subst P (sym (get_or-remove_above pages i d k behind within)) (all (k + 1) d (omega (arith, below, length-remove pages i within)))
]

-- where no two pages share something, none that is left shares it with the one that is gone
pub others_apart : {K : Type 0} (key : CachedPage → K) (pages : List CachedPage) (i : ℕ) (p : CachedPage) → AllPairs (λ p q. key p ≢ key q) pages → slice_get pages i ≡ Some p → All (λ q. key q ≢ key p) (remove pages i)
others_apart key pages i p apart at k d below same =
    let there = got pages i p at in
    let this : slice_index_or pages i d ≡ p = get_or_default pages i d p there.0 ∙ there.1 in
    elim (cases_lt k i) [
      | inl before ↦ apart k i d before there.0 (ap key (sym (get_or-remove_below pages i d k before there.0)) ∙ same ∙ ap key (sym this))
      | inr behind ↦ apart i (k + 1) d (omega (arith, behind)) (omega (arith, below, length-remove pages i there.0)) (ap key this ∙ sym same ∙ ap key (get_or-remove_above pages i d k behind there.0))
    ]

-- a cache is one still
pub cache_without : (node : NodeId) (pages : List CachedPage) (i : ℕ) → i < length pages → IsCache node pages → IsCache node (remove pages i)
cache_without node pages i within is = record {
  port = is.port;
  few = omega (arith, is.few, length-remove pages i within);
  own = all_without (λ p. p.ticket.node ≡ node) pages i within is.own;
  once = all_pairs_remove (λ p q. p.ticket.page ≢ q.ticket.page) pages i within is.once;
  apart = all_pairs_remove (λ p q. p.frame ≢ q.frame) pages i within is.apart;
}

-- another page is found where one has gone
pub other_found : (pages : List CachedPage) (i : ℕ) (p : CachedPage) (y : PageNo) → slice_get pages i ≡ Some p → p.ticket.page ≢ y → page_at y (remove pages i) ≡ page_at y pages
other_found [] i p y at other = cc
other_found (q ∷ pages) zero p y at other = let same : q ≡ p = cc in sym (subst (λ r. page_at y (r ∷ pages) ≡ page_at y pages) (sym same) (rw (is_page-other y p other) refl))
other_found (q ∷ pages) (suc i) p y at other = by (is_page y q) refl (other_found pages i p y at other)
  where
    by : (b : Bool) → is_page y q ≡ b → page_at y (remove pages i) ≡ page_at y pages → page_at y (remove (q ∷ pages) (suc i)) ≡ page_at y (q ∷ pages)
    by true is rest = rw is refl
    by false is rest = rw is rest

-- a page that is out is one of the table
pub out_within : (owners : List Own) (x : ℕ) (n : NodeId) → owner_of owners x ≡ Out n → x < length owners
out_within owners x n out = is_within owners x (Out n) (λ never. cc) out

-- a page that is gone leaves the same pages, whatever was done to it
pub set_gone : (pages : List CachedPage) (i : ℕ) (p : CachedPage) → remove (slice_set pages i p) i ≡ remove pages i
set_gone pages i p = ap (λ ps. ps ++ drop (suc i) (slice_set pages i p)) (take-set-le i pages i p (omega arith)) ∙ ap (λ ps. take i pages ++ ps) (drop-set-lt (suc i) pages i p (omega arith))

-- the records of the changes of those that are left stand in the log
pub log_without : (c d : CacheState) (i : ℕ) → i < length c.pages → d.log ≡ c.log → d.node ≡ c.node → d.pages ≡ remove c.pages i → IsTiedToLog c → IsTiedToLog d
log_without c d i within log node pages tie = record {
  node = ap (λ l. l.node) log ∙ tie.node ∙ sym node;
  changes = subst (λ l. All (λ p. IsInLog l p.changes) d.pages) (sym log) (subst (All (λ p. IsInLog c.log p.changes)) (sym pages) (all_without (λ p. IsInLog c.log p.changes) c.pages i within tie.changes));
}

-- a frame that holds what it held shows what it showed
pub shows_same : (old new : List (Option (List ℕ))) (frame : ℕ) (image : PageImage) → frame_at new frame ≡ frame_at old frame → Shows old frame image → Shows new frame image
shows_same old new frame image same s = record { bytes = s.bytes; held = same ∙ s.held; text = s.text }

-- The frame of one page is given back: those of the others show them still.
module _ (pool : List (Option (List ℕ))) (pages : List CachedPage) (i : ℕ) (p : CachedPage) (apart : AllPairs (λ p q. p.frame ≢ q.frame) pages) (at : slice_get pages i ≡ Some p) where
  frame_stays : All (λ q. frame_at (slice_set pool p.frame None) q.frame ≡ frame_at pool q.frame) (remove pages i)
  frame_stays k d below = get_or-set_other pool p.frame (slice_index_or (remove pages i) k d).frame None None (others_apart (λ q. q.frame) pages i p apart at k d below)

  each : (P : CachedPage → Type 0) → All P pages → All P (remove pages i)
  each P all = all_without P pages i (got pages i p at).0 all

  pub left_out : All (λ q. IsOut pool q.frame) pages → All (λ q. IsOut (slice_set pool p.frame None) q.frame) (remove pages i)
  left_out out k d below = ap is_some (frame_stays k d below) ∙ each (λ q. IsOut pool q.frame) out k d below

  pub left_shown : (s : Shape) → All (λ q. ShowsPage s q.ticket.page pool q.frame) pages → All (λ q. ShowsPage s q.ticket.page (slice_set pool p.frame None) q.frame) (remove pages i)
  left_shown s shown k d below =
      let was = each (λ q. ShowsPage s q.ticket.page pool q.frame) shown k d below in
      (was.0, shows_same pool (slice_set pool p.frame None) _ was.0 (frame_stays k d below) was.1, was.2, was.3)

  left_life : All (IsInLife pool) pages → All (IsInLife (slice_set pool p.frame None)) (remove pages i)
  left_life life k d below image shows number = each (IsInLife pool) life k d below image (shows_same (slice_set pool p.frame None) pool _ image (sym (frame_stays k d below)) shows) number

  left_clean : (s : Shape) (b : ℕ → BlockState) → All (λ q. q.changes ≡ None → StandsFor s pool q b) pages → All (λ q. q.changes ≡ None → StandsFor s (slice_set pool p.frame None) q b) (remove pages i)
  left_clean s b clean k d below none o may = elim (each (λ q. q.changes ≡ None → StandsFor s pool q b) clean k d below none o may) [
    | inl lost ↦ inl lost
    | inr stands ↦ inr (stands.0, stands.1, shows_same pool (slice_set pool p.frame None) _ (in_life (slice_index_or (remove pages i) k d).entry stands.0) (frame_stays k d below) stands.2)
  ]

  pub left_tied : (s : Shape) (c d : CacheState) (b : ℕ → BlockState) → c.pages ≡ pages → d.pages ≡ remove pages i → IsTiedToDisk s pool c b → IsTiedToDisk s (slice_set pool p.frame None) d b
  left_tied s c d b is gone tie = record {
    shown = subst (All (λ q. ShowsPage s q.ticket.page (slice_set pool p.frame None) q.frame)) (sym gone) (left_shown s (subst (All (λ q. ShowsPage s q.ticket.page pool q.frame)) is tie.shown));
    life = subst (All (IsInLife (slice_set pool p.frame None))) (sym gone) (left_life (subst (All (IsInLife pool)) is tie.life));
    clean = subst (All (λ q. q.changes ≡ None → StandsFor s (slice_set pool p.frame None) q b)) (sym gone) (left_clean s b (subst (All (λ q. q.changes ≡ None → StandsFor s pool q b)) is tie.clean));
  }
