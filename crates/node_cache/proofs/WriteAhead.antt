-- Pages are written when all records of the log are stable: the log stays, and the pages are what their blocks stand for.
use Rattle.std.specs.Prelude.{◌≡◌, ◌≢◌, ◌⊎◌, ◌≤◌, ◌<◌, ◌+◌, ◌-◌, ℕ, List, Option, None, AllPairs, length, slice_index_or}
use Rattle.std.proofs.Common.{arith, inl, inr, ap, subst, sym, ◌∙◌}
use Rattle.std.proofs.lemmas.Bool.{cases_lt, cases_order}
use Rattle.std.proofs.lemmas.List.{length-take, get_or_default}
use Rattle.sd_base.specs.Disk.{BlockState, Holds, IsLawful, IsOutcome, MayHold}
use Rattle.sd_base.specs.declared.device.NodeId.{NodeId}
use Rattle.sd_base.specs.declared.shape.Shape.{Shape}
use Rattle.frame_pool.specs.Frames.{frame_at}
use Rattle.private_log.specs.Content.{region_of, HoldsFront}
use Rattle.private_log.specs.Spread.{IsCutLog, NarrowsRegion}
use Rattle.private_log.specs.Log.{LogState, SameLog, IsLogOn, region}
use Rattle.private_log.proofs.LogLaws.{less_cut}
use Rattle.private_log.proofs.Outcomes.{cut_outcome}
use Rattle.private_log.proofs.WholeLogs.{whole_on, whole_cut}
use Rattle.state_ids.specs.Held.{Shows}
use Rattle.state_ids.specs.Blocks.{ShowsPage, page_place}
use Rattle.node_cache.specs.Cache.{CachedPage, CacheState, IsInLife, IsOfStore, IsTiedToDisk, IsTiedToLog, StandsFor, first_change}
use Rattle.node_cache.specs.Places.{between, IsWrittenWithin}
use Rattle.node_cache.specs.Records.{IsBefore}
use Rattle.node_cache.specs.Writes.{HoldsPages, NarrowsToPages}
use Rattle.node_cache.proofs.DiskTie.{not_in_region}
use Rattle.node_cache.proofs.PageWrites.{changed_or_not, one_place}
use Rattle.node_cache.proofs.RecordTie.{AreBefore, before_narrowed}
use Rattle.node_cache.proofs.Ranges.{all_between, at_between, length_between, same_within}
use Rattle.node_cache.proofs.SamePages.{all_same}

region_same : (l m : LogState) → SameLog l m → region m ≡ region l
region_same l m same = ap (λ t. region_of t m.node.0) same.shape ∙ ap (λ n. region_of l.shape n.0) same.node

-- the records that are stable are there
pub stable_below : (l : LogState) (b : ℕ → BlockState) (xs : List (List ℕ)) → IsLogOn l b xs → l.stable ≤ l.tail
stable_below l b xs (inl h) = let stable = h.2.stable in let tail = h.2.tail in let low = h.2.spread.ring.low in omega (arith, stable, tail, low)
stable_below l b xs (inr h) = let stable = h.0.stable in let tail = h.0.tail in let low = h.0.spread.ring.low in omega (arith, stable, tail, low, length-take h.0.count xs)

-- The log l of a cache was made stable: it is m then. After that pages of the store were written.
module _ (s : Shape) (old : CacheState) (m : LogState) (pool : List (Option (List ℕ))) (pages : List CachedPage) (b c : ℕ → BlockState) (xs : List (List ℕ)) (law : (k : ℕ) → IsLawful c k) (store : IsOfStore s old) (tie : IsTiedToLog old)
    (same : SameLog old.log m) (tail : m.tail ≡ old.log.tail) (stable : m.stable ≡ old.log.tail) (narrows : NarrowsToPages s pool pages b c) (on : IsLogOn m b xs) where
  narrows_region : NarrowsRegion (region m) b c
  narrows_region i o within may =
      let ring : m.shape.ring ≡ s.ring = ap (λ t. t.ring) (same.shape ∙ store.shape) in
      elim (narrows _ o may) [
        | inl was ↦ was
        | inr written ↦ absurd (not_in_region s old store tie i (omega (arith, within, ring)) written.1.ticket.page (sym written.4.0.1 ∙ ap (λ g. g.anchor + i) (region_same old.log m same)))
      ]

  pub log_stays : IsLogOn m c xs
  log_stays = whole_on m b c xs law narrows_region (stable ∙ sym tail) on

  whole : IsCutLog (region old.log) old.log.start old.log.tail c xs
  whole =
      subst (λ g. IsCutLog g old.log.start old.log.tail c xs) (region_same old.log m same)
      (subst (λ n. IsCutLog (region m) n old.log.tail c xs) same.start
      (subst (λ n. IsCutLog (region m) m.start n c xs) tail (whole_cut m c xs (stable ∙ sym tail) log_stays)))

  pub all_there : (image : ℕ → Option (List ℕ)) → IsOutcome c image → HoldsFront (region old.log) old.log.start old.log.tail xs image
  all_there image is = cut_outcome (region old.log) old.log.start old.log.tail c xs image whole is

  pub log_cut : old.log.stable ≤ old.log.tail → IsCutLog (region old.log) old.log.start old.log.stable c xs
  log_cut low = less_cut (region old.log) old.log.start old.log.tail old.log.stable c xs low whole

-- pages with one number stand at one place
pub one_index : (pages : List CachedPage) (i j : ℕ) (d : CachedPage) → AllPairs (λ p q. p.ticket.page ≢ q.ticket.page) pages → i < length pages → j < length pages
    → (slice_index_or pages i d).ticket.page ≡ (slice_index_or pages j d).ticket.page → i ≡ j
one_index pages i j d once below below' same = elim (cases_order i j) [
  | inl here ↦ here
  | inr (inl before) ↦ absurd (once i j d before below' same)
  | inr (inr behind) ↦ absurd (once j i d behind below (sym same))
]

-- Some pages were written and hold what their frames do.
module _ (s : Shape) (pool : List (Option (List ℕ))) (from to : ℕ) (pages new : List CachedPage) (b c : ℕ → BlockState) (once : AllPairs (λ p q. p.ticket.page ≢ q.ticket.page) pages) (high : to ≤ length pages)
    (narrows : NarrowsToPages s pool (between from to pages) b c) (holds : HoldsPages s pool (between from to pages) c) (is : IsWrittenWithin from to pages new) where
  -- a page without changes is what its block stands for still
  still : (i : ℕ) (d : CachedPage) → i < length pages → (slice_index_or pages i d).changes ≡ None → StandsFor s pool (slice_index_or pages i d) b → StandsFor s pool (slice_index_or pages i d) c
  still i d below none stands o may = elim (narrows _ o may) [
    | inl was ↦ stands o was
    | inr (j, q, lt, at, image) ↦
        let small : j < to - from = omega (arith, lt, length_between from to pages high) in
        let there : slice_index_or pages (from + j) d ≡ q = get_or_default pages (from + j) d q (omega (arith, small, high)) ∙ sym (at_between from to j pages q high small) ∙ at in
        let place : i ≡ from + j = one_index pages i (from + j) d once below (omega (arith, small, high)) (one_place s _ _ image.0.1 ∙ sym (ap (λ p. p.ticket.page) there)) in
        absurd (image.0.0 (sym (ap (λ p. p.changes) there) ∙ ap (λ k. (slice_index_or pages k d).changes) (sym place) ∙ none))
  ]

  -- one that was written is what its block stands for now
  now : (i : ℕ) (d : CachedPage) → i < length pages → from ≤ i → i < to → (slice_index_or pages i d).changes ≢ None → ShowsPage s (slice_index_or pages i d).ticket.page pool (slice_index_or pages i d).frame
      → IsInLife pool (slice_index_or pages i d) → StandsFor s pool (slice_index_or pages i d) c
  now i d below low below' some shown life o may =
      let p : CachedPage = slice_index_or pages i d in
      let held : o ≡ frame_at pool p.frame = all_between (λ q. q.changes ≢ None → Holds c (page_place s q.ticket.page) (frame_at pool q.frame)) from to i pages d high low below' holds some o may in
      inr (shown.0, (shown.1.bytes, held ∙ shown.1.held, shown.1.text, shown.2, shown.3), subst (Shows pool p.frame) (sym (life shown.0 shown.1 shown.2)) shown.1)

  -- a page with changes that wasn't written has no new outcome
  outside : (i : ℕ) (d : CachedPage) → i < length pages → (i < from) ⊎ (to ≤ i) → (o : Option (List ℕ)) → MayHold c (page_place s (slice_index_or pages i d).ticket.page) o → MayHold b (page_place s (slice_index_or pages i d).ticket.page) o
  outside i d below beside o may = elim (narrows _ o may) [
    | inl was ↦ was
    | inr (j, q, lt, at, image) ↦
        let small : j < to - from = omega (arith, lt, length_between from to pages high) in
        let there : slice_index_or pages (from + j) d ≡ q = get_or_default pages (from + j) d q (omega (arith, small, high)) ∙ sym (at_between from to j pages q high small) ∙ at in
        let place : i ≡ from + j = one_index pages i (from + j) d once below (omega (arith, small, high)) (one_place s _ _ image.0.1 ∙ sym (ap (λ p. p.ticket.page) there)) in
        absurd (elim beside [ inl before ↦ omega (arith, before, place) | inr behind ↦ omega (arith, behind, place, small) ])
  ]

  pub before_written : (start : ℕ) (xs : List (List ℕ)) → AreBefore s start xs b pages → AreBefore s start xs c new
  before_written start xs was i d below number first = by (cases_lt i from) (cases_lt i to)
    where
      low : i < length pages
      low = omega (arith, below, is.count)

      kept : (i < from) ⊎ (to ≤ i) → IsBefore s start xs c (slice_index_or new i d) number
      kept beside =
          let same = is.outside i d beside in
          subst (λ p. IsBefore s start xs c p number) (sym same) (before_narrowed s start xs b c (slice_index_or pages i d) number (outside i d low beside) (was i d low number (sym (ap first_change same) ∙ first)))

      by : (i < from) ⊎ (from ≤ i) → (i < to) ⊎ (to ≤ i) → IsBefore s start xs c (slice_index_or new i d) number
      by (inl before) high' = kept (inl before)
      by (inr low') (inr behind) = kept (inr behind)
      by (inr low') (inl below') = let never = sym (ap first_change (is.inside i d low' below' low)) ∙ first in absurd cc

  pub tied_written : (log : LogState) (node : NodeId) → IsTiedToDisk s pool (record { log = log; node = node; pages = pages }) b → IsTiedToDisk s pool (record { log = log; node = node; pages = new }) c
  tied_written log node tie = record {
    shown = all_same (λ p. ShowsPage s p.ticket.page pool p.frame) pages new (same_within from to pages new is) tie.shown;
    life = all_same (IsInLife pool) pages new (same_within from to pages new is) tie.life;
    clean = λ i d below none. by i d (omega (arith, below, is.count)) none (cases_lt i from) (cases_lt i to) (tie.clean i d (omega (arith, below, is.count))) (tie.shown i d (omega (arith, below, is.count))) (tie.life i d (omega (arith, below, is.count)));
  }
    where
      by : (i : ℕ) (d : CachedPage) → i < length pages → (slice_index_or new i d).changes ≡ None → (i < from) ⊎ (from ≤ i) → (i < to) ⊎ (to ≤ i)
          → ((slice_index_or pages i d).changes ≡ None → StandsFor s pool (slice_index_or pages i d) b) → ShowsPage s (slice_index_or pages i d).ticket.page pool (slice_index_or pages i d).frame → IsInLife pool (slice_index_or pages i d)
          → StandsFor s pool (slice_index_or new i d) c
      by i d below none (inl before) high' stands shown life =
          let same = is.outside i d (inl before) in
          let unchanged = sym (ap (λ p. p.changes) same) ∙ none in
          subst (λ p. StandsFor s pool p c) (sym same) (still i d below unchanged (stands unchanged))
      by i d below none (inr low) (inr behind) stands shown life =
          let same = is.outside i d (inr behind) in
          let unchanged = sym (ap (λ p. p.changes) same) ∙ none in
          subst (λ p. StandsFor s pool p c) (sym same) (still i d below unchanged (stands unchanged))
      by i d below none (inr low) (inl below') stands shown life =
          subst (λ p. StandsFor s pool p c) (sym (is.inside i d low below' below)) (elim (changed_or_not (slice_index_or pages i d).changes) [
            | inl unchanged ↦ still i d below unchanged (stands unchanged)
            | inr some ↦ now i d below low below' some shown life
          ])
