-- The tie of a cache to the device, through calls that leave the blocks of its pages.
use Rattle.std.specs.Prelude.{◌≡◌, ◌≢◌, ◌≤◌, ◌+◌, ◌%◌, ℕ, Option, List}
use Rattle.std.proofs.Common.{arith, ap, inl, inr, ◌∙◌}
use Rattle.sd_base.specs.Disk.{BlockState, MayHold}
use Rattle.sd_base.specs.declared.names.PageNo.{PageNo}
use Rattle.sd_base.specs.declared.shape.Shape.{Shape}
use Rattle.private_log.specs.Content.{region_of, place}
use Rattle.private_log.specs.Frames.{NarrowsBeside}
use Rattle.private_log.specs.Log.{LogState, region}
use Rattle.private_log.proofs.Places.{place-in}
use Rattle.private_log.proofs.Regions.{before_pages}
use Rattle.state_ids.specs.Blocks.{page_place}
use Rattle.node_cache.specs.Cache.{CacheState, IsOfStore, IsTiedToLog, IsTiedToDisk}

-- no block of the log's region is a page's
pub not_in_region : (s : Shape) (c : CacheState) → IsOfStore s c → IsTiedToLog c → (i : ℕ) → i ≤ s.ring → (x : PageNo) → page_place s x ≢ (region c.log).anchor + i
not_in_region s c store tie i within x same =
    let node : c.log.node.0 ≡ c.node.0 = ap (λ n. n.0) tie.node in
    let is : (region c.log).anchor ≡ (region_of s c.node.0).anchor = ap (λ t. (region_of t c.log.node.0).anchor) store.shape ∙ ap (λ n. (region_of s n).anchor) node in
    let before = before_pages s c.node.0 ((region_of s c.node.0).anchor + i) store.valid store.node.0 store.node.1 (omega arith, omega (arith, within)) in
    omega (arith, same, is, before)

-- nor is one in which a log block stands
pub not_in_ring : (s : Shape) (c : CacheState) → IsOfStore s c → IsTiedToLog c → (number : ℕ) (x : PageNo) → page_place s x ≢ place (region c.log) number
not_in_ring s c store tie number x same =
    let ring : c.log.shape.ring ≡ s.ring = ap (λ t. t.ring) store.shape in
    let some = store.valid.ring.0 in
    let inside = place-in (region c.log) number (omega (arith, ring, some)) in
    not_in_region s c store tie (1 + number % c.log.shape.ring) (omega (arith, inside.1, ring)) x (same ∙ omega arith)

-- The pages are tied to the device as long as none of their blocks has a new outcome.
pub tied_narrowed : (s : Shape) (pool : List (Option (List ℕ))) (c : CacheState) (m : LogState) (b b' : ℕ → BlockState)
    → ((x : PageNo) (o : Option (List ℕ)) → MayHold b' (page_place s x) o → MayHold b (page_place s x) o)
    → IsTiedToDisk s pool c b → IsTiedToDisk s pool (record { log = m; node = c.node; pages = c.pages }) b'
tied_narrowed s pool c m b b' narrows tie = record {
  shown = tie.shown;
  life = tie.life;
  clean = λ i d below none o may. tie.clean i d below none o (narrows _ o may);
}

-- as they are where the log alone is written
pub tied_beside : (s : Shape) (pool : List (Option (List ℕ))) (c : CacheState) (m : LogState) (number : ℕ) (b b' : ℕ → BlockState) → IsOfStore s c → IsTiedToLog c
    → NarrowsBeside (place (region c.log) number) b b' → IsTiedToDisk s pool c b → IsTiedToDisk s pool (record { log = m; node = c.node; pages = c.pages }) b'
tied_beside s pool c m number b b' store tie narrows =
    tied_narrowed s pool c m b b' (λ x o may. elim (narrows _ o may) [
      | inl old ↦ old
      | inr here ↦ absurd (not_in_ring s c store tie number x here)
    ])
