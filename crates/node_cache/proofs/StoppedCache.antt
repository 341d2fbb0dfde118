-- What a stop leaves of the blocks of cached pages, where some of the pages may have been written.
use Rattle.std.specs.Prelude.{◌≡◌, ◌≢◌, ◌⊎◌, ℕ, List, [], Option, Some, None, All, Any, AllPairs, slice_index_or, refl}
use Rattle.std.specs.List.{cons_option}
use Rattle.std.proofs.Common.{arith, inl, inr, ap, subst, sym, ◌∙◌}
use Rattle.std.proofs.lemmas.List.{get_or_default}
use Rattle.std.proofs.lemmas.List.Elements.{All-cons}
use Rattle.sd_base.specs.Disk.{BlockState, IsOutcome, MayHold}
use Rattle.sd_base.specs.declared.names.PageNo.{PageNo}
use Rattle.sd_base.specs.declared.shape.Shape.{Shape}
use Rattle.sd_base.proofs.Positions.{find_all}
use Rattle.frame_pool.specs.Frames.{frame_at}
use Rattle.state_ids.specs.Blocks.{page_place}
use Rattle.node_cache.specs.Cache.{CachedPage, CacheState, IsOfStore, IsTiedToLog, StandsFor, first_change, is_page, page_at}
use Rattle.node_cache.specs.Records.{AreAmong, IsExplained}
use Rattle.node_cache.specs.Room.{leaving}
use Rattle.node_cache.specs.Writes.{IsWrittenAhead, NarrowsButPages}
use Rattle.node_cache.proofs.DiskTie.{not_in_ring}
use Rattle.node_cache.proofs.Leaving.{all_left}
use Rattle.node_cache.proofs.PageWrites.{one_place}
use Rattle.node_cache.proofs.RecordTie.{AreBefore}
use Rattle.node_cache.proofs.WriteAhead.{one_index}

module _ (s : Shape) (pool : List (Option (List ℕ))) (c : CacheState) (pages : List CachedPage) (old new : ℕ → BlockState) (store : IsOfStore s c) (tie : IsTiedToLog c) (once : AllPairs (λ p q. p.ticket.page ≢ q.ticket.page) c.pages)
    (among : AreAmong pages c.pages) (narrows : NarrowsButPages s c.log pool pages old new) where
  -- the block of a page holds what it could hold before, or, where the page has changes, what its frame does
  outcome : All (λ p. (o : Option (List ℕ)) → MayHold new (page_place s p.ticket.page) o → MayHold old (page_place s p.ticket.page) o ⊎ ((p.changes ≢ None) × (o ≡ frame_at pool p.frame))) c.pages
  outcome i d below o may = elim (narrows _ o may) [
    | inl was ↦ inl was
    | inr (inl log) ↦ absurd (not_in_ring s c store tie _ _ log)
    | inr (inr (j, q, within, at, image)) ↦
        let one = among j q within in
        let same : one.1 ≡ q = one.4 ∙ at in
        let there : slice_index_or c.pages one.0 d ≡ q = get_or_default c.pages one.0 d one.1 one.2 ∙ one.3 ∙ same in
        let place : i ≡ one.0 = one_index c.pages i one.0 d once below one.2 (one_place s _ _ image.0.1 ∙ sym (ap (λ p. p.ticket.page) there)) in
        let is : q ≡ slice_index_or c.pages i d = sym there ∙ ap (λ k. slice_index_or c.pages k d) (sym place) in
        inr (subst (λ p. (p.changes ≢ None) × (o ≡ frame_at pool p.frame)) is (image.0.0, image.1))
  ]

  pub stopped_clean : All (λ p. p.changes ≡ None → StandsFor s pool p old) c.pages → All (λ p. p.changes ≡ None → StandsFor s pool p new) c.pages
  stopped_clean clean i d below none o may = elim (outcome i d below o may) [
    | inl was ↦ clean i d below none o was
    | inr frame ↦ absurd (frame.0 none)
  ]

  pub stopped_changed : (xs : List (List ℕ)) → AreBefore s c.log.start xs old c.pages → IsWrittenAhead c.log xs old new → (image : ℕ → Option (List ℕ)) → IsOutcome new image
      → All (λ p. (number : ℕ) → first_change p ≡ Some number → IsExplained s pool c xs image p number) c.pages
  stopped_changed xs before ahead image out i d below number first =
      let was = before i d below number first in
      let k : ℕ = page_place s (slice_index_or c.pages i d).ticket.page in (
        was.0,
        was.1,
        elim (outcome i d below (image k) (out k)) [
          | inl old ↦ inl (was.2 (image k) old)
          | inr frame ↦ elim (ahead image k out) [
            | inl old ↦ inl (was.2 (image k) old)
            | inr (inl log) ↦ absurd (not_in_ring s c store tie _ _ log)
            | inr (inr front) ↦ inr (frame.1, front)
          ]
        ],
      )

-- the pages that a call may write are among those that are cached
pub among_all : (pages : List CachedPage) → AreAmong pages pages
among_all pages i d below = (i, slice_index_or pages i d, below, get_or_default pages i (slice_index_or pages i d) d below, refl)

pub among_one : (x : PageNo) (pages : List CachedPage) → AreAmong (cons_option (page_at x pages) []) pages
among_one x pages = by (page_at x pages) refl
  where
    by : (o : Option CachedPage) → page_at x pages ≡ o → AreAmong (cons_option o []) pages
    by None none = λ i d below. absurd (omega (arith, below))
    by (Some p) there = All-cons (λ q. Any (λ r. r ≡ q) pages) p [] (find_all (λ q. Any (λ r. r ≡ q) pages) (is_page x) pages p there (among_all pages)) (λ i d below. absurd (omega (arith, below)))

pub among_leaving : (s : Shape) (x : PageNo) (pages : List CachedPage) → AreAmong (leaving s x pages) pages
among_leaving s x pages = all_left (λ q. Any (λ r. r ≡ q) pages) s x pages (among_all pages)
