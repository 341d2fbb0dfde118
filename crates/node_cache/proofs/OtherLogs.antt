-- What the calls of a cache leave of the region of another node's log.
use Rattle.std.specs.Prelude.{◌≡◌, ◌≢◌, ◌≤◌, ◌+◌, ◌-◌, ◌/◌, ℕ, true, List, Some, None}
use Rattle.std.proofs.Common.{arith, inl, inr, ap, subst, sym, ◌∙◌}
use Rattle.sd_base.specs.Disk.{BlockState, IsFreeFor}
use Rattle.sd_base.specs.Outcomes.{among}
use Rattle.sd_base.specs.declared.shape.Shape.{Shape}
use Rattle.private_log.specs.Content.{region_of}
use Rattle.private_log.specs.Log.{region, tail_place}
use Rattle.private_log.specs.Reading.{IsInRegion}
use Rattle.private_log.specs.Spread.{IsFreeRegion, IsStill, KeepsRegion, NarrowsRegion}
use Rattle.private_log.proofs.Places.{place-in}
use Rattle.private_log.proofs.Regions.{before_pages, regions_apart}
use Rattle.node_cache.specs.Cache.{CachedPage, CacheState, IsOfStore, IsTiedToLog}
use Rattle.node_cache.specs.Writes.{KeepsForeignButPages}

-- where the log of a cache lies
pub region_is : (s : Shape) (c : CacheState) → IsOfStore s c → IsTiedToLog c → region c.log ≡ region_of s c.node.0
region_is s c store tie = ap (λ t. region_of t c.log.node.0) store.shape ∙ ap (λ n. region_of s n.0) tie.node

-- and where its blocks do
pub tail_inside : (s : Shape) (c : CacheState) → IsOfStore s c → IsTiedToLog c → IsInRegion (region_of s c.node.0) (tail_place c.log)
tail_inside s c store tie =
    let some = store.valid.ring.0 in
    let ring : c.log.shape.ring ≡ s.ring = ap (λ t. t.ring) store.shape in
    let inside = place-in (region c.log) ((c.log.tail - 1) / 6) (omega (arith, ring, some)) in
    subst (λ g. IsInRegion g (tail_place c.log)) (region_is s c store tie) (omega arith, omega (arith, inside.1))

-- A call wrote the last block of the log of a cache, and pages, and no block in the region of the node m that another
-- port than that node's had written.
module _ (s : Shape) (c : CacheState) (pages : List CachedPage) (m : ℕ) (b d : ℕ → BlockState) (store : IsOfStore s c) (tie : IsTiedToLog c) (low : 1 ≤ m) (most : m ≤ s.nodes) (other : m ≢ c.node.0)
    (free : IsFreeRegion (region_of s m) m b) (foreign : KeepsForeignButPages s c.log pages c.node.0 b d) where
  not_mine : (i : ℕ) → i ≤ s.ring → (b ((region_of s m).anchor + i)).writer ≢ Some c.node.0
  not_mine i within mine = elim (free i within) [
    | inl theirs ↦ let both : Some m ≡ Some c.node.0 = sym theirs ∙ mine in other cc
    | inr none ↦ let both : None ≡ Some c.node.0 = sym none ∙ mine in cc
  ]

  same_block : (i : ℕ) → i ≤ s.ring → d ((region_of s m).anchor + i) ≡ b ((region_of s m).anchor + i)
  same_block i within = foreign ((region_of s m).anchor + i)
      (λ e. regions_apart s m c.node.0 ((region_of s m).anchor + i) store.valid low most store.node.0 store.node.1 other (omega arith, omega (arith, within)) (subst (IsInRegion (region_of s c.node.0)) (sym e) (tail_inside s c store tie)))
      (λ any. let at = any.4.1 in let before = before_pages s m ((region_of s m).anchor + i) store.valid low most (omega arith, omega (arith, within)) in omega (arith, at, before))
      (not_mine i within)

  pub other_narrows : NarrowsRegion (region_of s m) b d
  other_narrows i o within may = subst (λ (x : BlockState). among x.outcomes o ≡ true) (same_block i within) may

  pub other_keeps : KeepsRegion (region_of s m) b d
  other_keeps i within = ap (λ (x : BlockState). x.current) (same_block i within)

  pub other_free : IsFreeRegion (region_of s m) m d
  other_free i within = subst (λ (x : BlockState). IsFreeFor m x) (sym (same_block i within)) (free i within)

-- no uncovered write comes into a region that has none
pub other_still : (s : Shape) (c : CacheState) (pages : List CachedPage) (m : ℕ) (b d : ℕ → BlockState) → IsOfStore s c → IsTiedToLog c → 1 ≤ m → m ≤ s.nodes → m ≢ c.node.0
    → IsStill (region_of s m) b → KeepsForeignButPages s c.log pages c.node.0 b d → IsStill (region_of s m) d
other_still s c pages m b d store tie low most other still foreign i within =
    ap (λ (x : BlockState). x.writer) (same_block s c pages m b d store tie low most other (λ j inside. inr (still j inside)) foreign i within) ∙ still i within
