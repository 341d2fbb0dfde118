-- What is left of the device and the log by a call that makes room and a read behind it. Here a are the blocks before
-- both, b those between them, and c those after the read.
use Rattle.std.specs.Prelude.{◌≡◌, ◌≢◌, ◌⊎◌, ◌≤◌, ◌+◌, ℕ, List, Option, Some, None, All, Any}
use Rattle.std.proofs.Common.{inl, inr, subst, sym, ◌∙◌}
use Rattle.sd_base.specs.Disk.{BlockState, IsFreeFor, IsLawful, IsOutcome}
use Rattle.sd_base.specs.Calls.{Narrows, NoNewWriter, NoNewWriterBut, KeepsForeign}
use Rattle.sd_base.specs.declared.names.PageNo.{PageNo}
use Rattle.sd_base.specs.declared.shape.Shape.{Shape}
use Rattle.private_log.specs.Content.{Region, HoldsFront}
use Rattle.private_log.specs.Spread.{IsCutLog, IsFreeRegion, IsStill}
use Rattle.private_log.specs.Log.{LogState, region, tail_place, SameLog, IsLogOn}
use Rattle.private_log.proofs.LogLaws.{carry}
use Rattle.private_log.proofs.Outcomes.{on_outcome_since, cut_since}
use Rattle.private_log.proofs.OtherCalls.{on_stilled}
use Rattle.state_ids.specs.Blocks.{HasSettled, page_place}
use Rattle.node_cache.specs.Cache.{CachedPage, CacheState, IsOfStore, IsTiedToLog}
use Rattle.node_cache.specs.Writes.{IsBlockOf, IsWrittenAhead, KeepsContentsButPages, KeepsForeignButPages, NarrowsButPages}
use Rattle.node_cache.proofs.DiskTie.{not_in_ring}
use Rattle.node_cache.proofs.PageWrites.{one_place}

-- a read adds no outcome, and leaves what the port had not written
pub narrows_then : (s : Shape) (l : LogState) (pool : List (Option (List ℕ))) (pages : List CachedPage) (a b c : ℕ → BlockState) → NarrowsButPages s l pool pages a b → Narrows b c → NarrowsButPages s l pool pages a c
narrows_then s l pool pages a b c first read k o may = first k o (read k o may)

pub foreign_then : (s : Shape) (l : LogState) (pages : List CachedPage) (n : ℕ) (a b c : ℕ → BlockState) → KeepsForeignButPages s l pages n a b → KeepsForeign n b c → KeepsForeignButPages s l pages n a c
foreign_then s l pages n a b c first read k behind other not =
    let same : b k ≡ a k = first k behind other not in
    read k (subst (λ (x : BlockState). x.writer ≢ Some n) (sym same) not) ∙ same

pub ahead_then : (l : LogState) (xs : List (List ℕ)) (a b c : ℕ → BlockState) → IsWrittenAhead l xs a b → Narrows b c → IsWrittenAhead l xs a c
ahead_then l xs a b c first read image k out = first image k (λ j. read j (image j) (out j))

-- a region that was free for the port has no uncovered write when the port has settled
still_block : (n : ℕ) (x y : BlockState) → IsFreeFor n x → (y.writer ≡ x.writer) ⊎ (y.writer ≡ None) → y.writer ≢ Some n → y.writer ≡ None
still_block n x y free (inr none) settled = none
still_block n x y (inl mine) (inl same) settled = absurd (settled (same ∙ mine))
still_block n x y (inr none) (inl same) settled = same ∙ none

pub settled_still : (g : Region) (n : ℕ) (b c : ℕ → BlockState) → IsFreeRegion g n b → NoNewWriter b c → HasSettled n c → IsStill g c
settled_still g n b c free writers settled i within = still_block n (b (g.anchor + i)) (c (g.anchor + i)) (free i within) (writers (g.anchor + i)) (settled (g.anchor + i))

-- the block of a page that isn't among those that may be written holds what it held
pub same_content : (s : Shape) (c : CacheState) (pages : List CachedPage) (x : PageNo) (a b : ℕ → BlockState) → IsOfStore s c → IsTiedToLog c → All (λ q. q.ticket.page ≢ x) pages
    → KeepsContentsButPages s c.log pages a b → (b (page_place s x)).current ≡ (a (page_place s x)).current
same_content s c pages x a b store tie others keeps = keeps (page_place s x) (not_in_ring s c store tie _ x) (no_block s pages x others)
  where
    no_block : (s : Shape) (pages : List CachedPage) (x : PageNo) → All (λ q. q.ticket.page ≢ x) pages → ¬ (Any (IsBlockOf s (page_place s x)) pages)
    no_block s pages x others (k, q, below, is, block) =
        subst (λ r. r.ticket.page ≢ x) is (others k q below) (sym (one_place s x q.ticket.page block.1))

-- nor has it a new writer
pub same_writer : (s : Shape) (c : CacheState) (x : PageNo) (n : ℕ) (a b : ℕ → BlockState) → IsOfStore s c → IsTiedToLog c → NoNewWriterBut (tail_place c.log) n a b
    → (a (page_place s x)).writer ≡ None → (b (page_place s x)).writer ≡ None
same_writer s c x n a b store tie writers none = elim (writers (page_place s x)) [
  | inl same ↦ same ∙ none
  | inr (inl covered) ↦ covered
  | inr (inr here) ↦ absurd (not_in_ring s c store tie _ x here.0)
]

-- the log was l before both calls, and is m between them: what a read leaves in which the port stopped, and what any
-- settled device holds after a read
pub cut_then : (l m : LogState) (n : ℕ) (b c : ℕ → BlockState) (xs : List (List ℕ)) → ((k : ℕ) → IsLawful c k) → SameLog l m → l.stable ≤ m.stable → IsLogOn m b xs
    → IsFreeRegion (region m) n b → Narrows b c → NoNewWriter b c → HasSettled n c → IsCutLog (region l) l.start l.stable c xs
cut_then l m n b c xs law same rises between free narrows writers settled =
    cut_since l m c xs same rises (on_stilled m b c xs law (λ i o within. narrows _ o) (settled_still (region m) n b c free writers settled) between)

pub outcome_then : (l m : LogState) (b c : ℕ → BlockState) (xs : List (List ℕ)) (image : ℕ → Option (List ℕ)) → SameLog l m → l.stable ≤ m.stable → IsLogOn m b xs → Narrows b c → IsOutcome c image → HoldsFront (region l) l.start l.stable xs image
outcome_then l m b c xs image same rises between narrows out =
    on_outcome_since l m b xs image same rises between (λ k. narrows k (image k) (out k))

-- and in the words from before both calls
pub still_before : (l m : LogState) (c : ℕ → BlockState) → SameLog l m → IsStill (region m) c → IsStill (region l) c
still_before l m c same still = carry m l (λ g start. IsStill g c) (record { shape = sym same.shape; node = sym same.node; start = sym same.start }) still
