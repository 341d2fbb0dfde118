-- What a call of one node leaves of the logs of the others.
use Rattle.std.specs.Prelude.{◌≡◌, ◌≢◌, ◌+◌, ◌-◌, ◌/◌, ◌≤◌, ℕ, true, List, Option, Some, None, refl}
use Rattle.std.proofs.Common.{arith, inl, inr, ap, subst, sym, ◌∙◌}
use Rattle.sd_base.specs.Disk.{BlockState}
use Rattle.sd_base.specs.Outcomes.{among}
use Rattle.sd_base.specs.Calls.{KeepsForeign, KeepsForeignBut}
use Rattle.sd_base.specs.Shape.{IsShape}
use Rattle.sd_base.specs.declared.shape.Shape.{Shape}
use Rattle.private_log.specs.Content.{Region, region_of}
use Rattle.private_log.specs.Log.{region}
use Rattle.private_log.specs.Reading.{IsInRegion}
use Rattle.private_log.specs.Spread.{IsFreeRegion, IsStill, KeepsRegion, NarrowsRegion}
use Rattle.private_log.proofs.OtherCalls.{foreign_free, foreign_keeps, foreign_narrows}
use Rattle.private_log.proofs.Regions.{before_pages, regions_apart}
use Rattle.page_owner.specs.declared.owners.Own.{Own}
use Rattle.node_cache.specs.Cache.{CachedPage, CacheState, IsOfStore, IsTiedToLog}
use Rattle.node_cache.specs.Writes.{KeepsForeignButPages}
use Rattle.txn_core.specs.Seats.{SeatsState}
use Rattle.store_nodes.specs.declared.node.Node.{Node}
use Rattle.store_nodes.specs.declared.node.Node.TheVariants.{Up}
use Rattle.store_nodes.specs.Nodes.{IsPlace, IsStoreOf, is_up, node_at}
use Rattle.store_nodes.specs.Ports.{IsQuietOf}
use Rattle.store_nodes.proofs.Works.{free_region, place_inside, region_at, work_at}

-- the region of its log stays
pub record LeavesRegion (g : Region) (b b' : ℕ → BlockState) : Type 0 where
  pub narrows : NarrowsRegion g b b'
  pub keeps : KeepsRegion g b b'
  pub still : IsStill g b → IsStill g b'

-- as it does where no block has changed
pub region_same : (g : Region) (b : ℕ → BlockState) → LeavesRegion g b b
region_same g b = record { narrows = λ i o low may. may; keeps = λ i low. refl; still = λ was. was }

-- ---- what the device leaves of the others

-- the region of another node, by a call of this one
pub region_foreign : (s : Shape) (n m at : ℕ) (b b' : ℕ → BlockState) → n ≢ m → IsFreeRegion (region_of s m) m b → ¬ (IsInRegion (region_of s m) at) → KeepsForeignBut at n b b' → LeavesRegion (region_of s m) b b'
region_foreign s n m at b b' far free outside foreign = record {
  narrows = foreign_narrows (region_of s m) n m at b b' far free outside foreign;
  keeps = foreign_keeps (region_of s m) n m at b b' far free outside foreign;
  still = λ still i low. ap (λ (x : BlockState). x.writer) (foreign ((region_of s m).anchor + i) (λ e. outside (omega (arith, e), omega (arith, e, low)))
      (λ mine. let none = still i low in let both : None ≡ Some n = sym none ∙ mine in absurd cc)) ∙ still i low;
}

-- a region without uncovered writes, by a stop of any port
pub region_settled : (g : Region) (n : ℕ) (b b' : ℕ → BlockState) → IsStill g b → KeepsForeign n b b' → LeavesRegion g b b'
region_settled g n b b' still foreign = record {
  narrows = λ i o low may. subst (λ (x : BlockState). among x.outcomes o ≡ true) (same i low) may;
  keeps = λ i low. ap (λ (x : BlockState). x.current) (same i low);
  still = λ was i low. ap (λ (x : BlockState). x.writer) (same i low) ∙ was i low;
}
  where
    same : (i : ℕ) → i ≤ g.ring → b' (g.anchor + i) ≡ b (g.anchor + i)
    same i low = foreign (g.anchor + i) (λ mine. let none = still i low in let both : None ≡ Some n = sym none ∙ mine in absurd cc)

pub region_then : (g : Region) (a b c : ℕ → BlockState) → LeavesRegion g a b → LeavesRegion g b c → LeavesRegion g a c
region_then g a b c p q = record {
  narrows = λ i o low may. p.narrows i o low (q.narrows i o low may);
  keeps = λ i low. q.keeps i low ∙ p.keeps i low;
  still = λ was. q.still (p.still was);
}

-- what a call of node n, and then its stop, leave of the regions of the others
module _ (s : Shape) (nodes : List Node) (n at : ℕ) (b b' : ℕ → BlockState) (valid : IsShape s) (first : 1 ≤ n) (last : n ≤ s.nodes) (most : (m : ℕ) → IsPlace m → is_up (node_at nodes m) ≡ true → m ≤ s.nodes)
    (inside : IsInRegion (region_of s n) at) (quiet : IsQuietOf s nodes b) (foreign : KeepsForeignBut at n b b') where
  outside : (m : ℕ) → IsPlace m → m ≤ s.nodes → m ≢ n → ¬ (IsInRegion (region_of s m) at)
  outside m is low far here = regions_apart s n m at valid first last is.0 low (λ e. far (sym e)) inside here

  pub others_leave : (m : ℕ) → IsPlace m → m ≤ s.nodes → m ≢ n → LeavesRegion (region_of s m) b b'
  others_leave m is low far = region_foreign s n m at b b' (λ e. far (sym e)) (free_region s nodes m b valid is.0 low most quiet) (outside m is low far) foreign

  pub others_settle : (b'' : ℕ → BlockState) → KeepsForeign n b' b'' → (m : ℕ) → IsPlace m → m ≤ s.nodes → m ≢ n → LeavesRegion (region_of s m) b' b''
  others_settle b'' stops m is low far =
      region_foreign s n m at b' b'' (λ e. far (sym e)) (foreign_free (region_of s m) n m at b b' (λ e. far (sym e)) (free_region s nodes m b valid is.0 low most quiet) (outside m is low far) foreign) (outside m is low far) (λ k beside other. stops k other)

-- the same of a call that writes pages too
module _ (s : Shape) (nodes : List Node) (n : ℕ) (c : CacheState) (pages : List CachedPage) (b b' : ℕ → BlockState) (valid : IsShape s) (place : IsPlace n) (last : n ≤ s.nodes) (most : (m : ℕ) → IsPlace m → is_up (node_at nodes m) ≡ true → m ≤ s.nodes)
    (number : c.node.0 ≡ n) (store : IsOfStore s c) (tie : IsTiedToLog c) (quiet : IsQuietOf s nodes b) (foreign : KeepsForeignButPages s c.log pages c.node.0 b b') where
  same_region : (m : ℕ) → IsPlace m → m ≤ s.nodes → m ≢ n → (i : ℕ) → i ≤ s.ring → b' ((region_of s m).anchor + i) ≡ b ((region_of s m).anchor + i)
  same_region m is low far i within = foreign ((region_of s m).anchor + i)
      (λ e. regions_apart s n m ((region_of s m).anchor + i) valid place.0 last is.0 low (λ same. far (sym same)) (subst (IsInRegion (region_of s n)) (sym e) (place_inside s n c ((c.log.tail - 1) / 6) number store tie)) (omega arith, omega (arith, within)))
      (λ any. let at = any.4.1 in let before = before_pages s m ((region_of s m).anchor + i) valid is.0 low (omega arith, omega (arith, within)) in omega (arith, at, before))
      (λ mine. elim (free_region s nodes m b valid is.0 low most quiet i within) [
        | inl theirs ↦ (let both : Some m ≡ Some c.node.0 = sym theirs ∙ mine in let same : m ≡ c.node.0 = cc in far (same ∙ number))
        | inr none ↦ (let both : None ≡ Some c.node.0 = sym none ∙ mine in absurd cc)
      ])

  pub pages_leave : (m : ℕ) → IsPlace m → m ≤ s.nodes → m ≢ n → LeavesRegion (region_of s m) b b'
  pages_leave m is low far = record {
    narrows = λ i o within may. subst (λ (x : BlockState). among x.outcomes o ≡ true) (same_region m is low far i within) may;
    keeps = λ i within. ap (λ (x : BlockState). x.current) (same_region m is low far i within);
    still = λ was i within. ap (λ (x : BlockState). x.writer) (same_region m is low far i within) ∙ was i within;
  }

  pub pages_settle : (b'' : ℕ → BlockState) → KeepsForeign n b' b'' → (m : ℕ) → IsPlace m → m ≤ s.nodes → m ≢ n → LeavesRegion (region_of s m) b' b''
  pages_settle b'' stops m is low far = record {
    narrows = λ i o within may. subst (λ (x : BlockState). among x.outcomes o ≡ true) (same i within) may;
    keeps = λ i within. ap (λ (x : BlockState). x.current) (same i within);
    still = λ was i within. ap (λ (x : BlockState). x.writer) (same i within) ∙ was i within;
  }
    where
      same : (i : ℕ) → i ≤ s.ring → b'' ((region_of s m).anchor + i) ≡ b' ((region_of s m).anchor + i)
      same i within = stops ((region_of s m).anchor + i) (λ mine.
          let here = ap (λ (x : BlockState). x.writer) (sym (same_region m is low far i within)) ∙ mine in
          elim (free_region s nodes m b valid is.0 low most quiet i within) [
            | inl theirs ↦ (let both : Some m ≡ Some n = sym theirs ∙ here in let same : m ≡ n = cc in far same)
            | inr none ↦ (let both : None ≡ Some n = sym none ∙ here in absurd cc)
          ])

pub regions_at : (s : Shape) (pool : List (Option (List ℕ))) (owners : List Own) (nodes : List Node) → IsStoreOf s pool owners nodes → (m : ℕ) (d : CacheState) (after : SeatsState) → IsPlace m → node_at nodes m ≡ Up d after → region d.log ≡ region_of s m
regions_at s pool owners nodes is m d after place up = let work = work_at s pool owners nodes m d after place up is in region_at s m d work.number work.store work.log_tie
