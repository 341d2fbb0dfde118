-- What a call of one node leaves of what the logs and pages of a store say of its history.
use Rattle.std.specs.Prelude.{◌≡◌, ◌≢◌, ◌+◌, ◌*◌, ◌/◌, ◌≤◌, ◌<◌, ℕ, All, List, None, MatchOption, length, map, take, refl}
use Rattle.std.proofs.Common.{arith, inl, inr, ap, subst, sym, ◌∙◌, length-take-le}
use Rattle.std.proofs.lemmas.List.{length-map, take-map}
use Rattle.std.proofs.lemmas.List.Elements.{All-take}
use Rattle.sd_base.specs.Disk.{BlockState}
use Rattle.sd_base.specs.Calls.{KeepsForeign, Narrows}
use Rattle.sd_base.specs.Shape.{page_count}
use Rattle.sd_base.specs.declared.names.PageNo.{PageNo}
use Rattle.sd_base.specs.declared.shape.Shape.{Shape}
use Rattle.log_record.specs.declared.record.LogRecord.{LogRecord}
use Rattle.log_record.specs.Legal.{IsLegal}
use Rattle.log_record.specs.Text.{record_text}
use Rattle.private_log.specs.Content.{place, region_of}
use Rattle.private_log.specs.Frames.{NarrowsBeside}
use Rattle.private_log.specs.Log.{SameLog, next_place, region}
use Rattle.private_log.specs.Spread.{IsCutLog, IsSpread, IsStill}
use Rattle.private_log.proofs.SpreadLaws.{narrowed_log}
use Rattle.state_ids.specs.Blocks.{HoldsPage, page_place}
use Rattle.node_cache.specs.Cache.{CacheState, IsOfStore, IsTiedToLog}
use Rattle.node_cache.proofs.DiskTie.{not_in_ring}
use Rattle.txn_core.specs.Seats.{SeatsState}
use Rattle.recovery_theory.specs.History.{History}
use Rattle.recovery_theory.specs.Steps.{IsPlaceToCut, stopped}
use Rattle.recovery_theory.proofs.Cuts.{set_at-other, set_at-same}
use Rattle.store_nodes.specs.declared.node.Node.{Node}
use Rattle.store_nodes.specs.declared.node.Node.TheVariants.{Idle, Up, Down}
use Rattle.store_nodes.specs.Nodes.{IsPlace, node_at, with_node}
use Rattle.store_nodes.specs.Tied.{AreLatest, IsTied, TiesNode, TiesPage, TiesStill, TiesUp}
use Rattle.store_nodes.proofs.Eight.{each_with}
use Rattle.store_nodes.proofs.OtherLogs.{LeavesRegion, region_settled}

-- ---- a node of which nothing has changed

-- the history has the node's log as before
pub record LeavesLog (n : ℕ) (h h' : History) : Type 0 where
  pub live : h'.live n ≡ h.live n
  pub stable : h'.stable n ≡ h.stable n
  pub first : h'.devices.first n ≡ h.devices.first n

pub tie_left : (s : Shape) (n : ℕ) (node : Node) (b b' : ℕ → BlockState) (h h' : History) → LeavesRegion (region_of s n) b b' → LeavesLog n h h' → TiesNode s n node b h → TiesNode s n node b' h'
tie_left s n node b b' h h' region same was = by node was
  where
    still : TiesStill s n b h → TiesStill s n b' h'
    still w = record {
      start = w.start;
      first = same.first ∙ w.first;
      legal = subst (All IsLegal) (sym same.live) w.legal;
      stable = same.stable ∙ w.stable ∙ ap length (sym same.live);
      still = region.still w.still;
      log = subst (λ recs. IsSpread (region_of s n) w.start (length recs) b' (map record_text recs)) (sym same.live) (narrowed_log (region_of s n) w.start (length (h.live n)) b b' (map record_text (h.live n)) region.narrows region.keeps w.log);
    }

    by : (o : Node) → TiesNode s n o b h → TiesNode s n o b' h'
    by Idle w = still w
    by Down w = still w
    by (Up c seats) w = record {
      first = same.first ∙ w.first;
      stable = subst (λ k. 6 * c.log.start + k ≤ c.log.stable) (sym same.stable) w.stable;
      latest = subst (λ f. AreLatest f (h'.live n) seats) (sym same.first) (subst (λ recs. AreLatest (h.devices.first n) recs seats) (sym same.live) w.latest);
    }

-- ---- the whole, where one node and its log have changed

module _ (s : Shape) (nodes : List Node) (n : ℕ) (node' : Node) (b b' : ℕ → BlockState) (h h' : History) (eight : length nodes ≡ 8) (place : IsPlace n) (was : IsTied s nodes b h)
    (logs : (k : ℕ) → IsPlace k → k ≤ s.nodes → k ≢ n → LeavesRegion (region_of s k) b b') (others : (k : ℕ) → k ≢ n → LeavesLog k h h') where
  pub tied_with : TiesNode s n node' b' h' → ((x : PageNo) → x.0 < page_count s → TiesPage s b' h' x) → IsTied s (with_node nodes n node') b' h'
  tied_with here pages = record {
    node = λ k k_is. each_with nodes n node' eight place (λ j o. j ≤ s.nodes → TiesNode s j o b' h') (λ most. here) (λ j j_is far most. tie_left s j (node_at nodes j) b b' h h' (logs j j_is most far) (others j far) (was.node j j_is most)) k k_is;
    page = pages;
  }

-- ---- the pages, where only a block of a log was written

pub pages_beside_block : (s : Shape) (nodes : List Node) (c : CacheState) (number : ℕ) (b b' : ℕ → BlockState) (h h' : History) → IsOfStore s c → IsTiedToLog c → NarrowsBeside (place (region c.log) number) b b' → h'.devices.disk ≡ h.devices.disk → IsTied s nodes b h → (x : PageNo) → x.0 < page_count s → TiesPage s b' h' x
pages_beside_block s nodes c number b b' h h' store tie narrows same was x low o may = subst (λ disk. MatchOption (disk x.0) (o ≡ None) (λ i. HoldsPage s x i o)) (sym same) (elim (narrows (page_place s x) o may) [
  | inl old ↦ was.page x low o old
  | inr log ↦ absurd (not_in_ring s c store tie _ x log)
])

-- as one record more was
pub pages_beside : (s : Shape) (nodes : List Node) (c : CacheState) (b b' : ℕ → BlockState) (h h' : History) → IsOfStore s c → IsTiedToLog c → NarrowsBeside (next_place c.log) b b' → h'.devices.disk ≡ h.devices.disk → IsTied s nodes b h → (x : PageNo) → x.0 < page_count s → TiesPage s b' h' x
pages_beside s nodes c = pages_beside_block s nodes c (c.log.tail / 6)

-- and where then no block has a new outcome
pub pages_narrowed : (s : Shape) (b b' : ℕ → BlockState) (h h' : History) → Narrows b b' → h'.devices.disk ≡ h.devices.disk → ((x : PageNo) → x.0 < page_count s → TiesPage s b h x) → (x : PageNo) → x.0 < page_count s → TiesPage s b' h' x
pages_narrowed s b b' h h' narrows same was x low o may = subst (λ disk. MatchOption (disk x.0) (o ≡ None) (λ i. HoldsPage s x i o)) (sym same) (was x low o (narrows (page_place s x) o may))

-- ---- the node itself

-- it is up still
pub up_tied : (n : ℕ) (c d : CacheState) (seats after : SeatsState) (h h' : History) → h'.devices.first n ≡ h.devices.first n → h'.stable n ≡ h.stable n → SameLog c.log d.log → c.log.stable ≤ d.log.stable → AreLatest (h.devices.first n) (h'.live n) after → TiesUp n c seats h → TiesUp n d after h'
up_tied n c d seats after h h' first stable same rises latest was = record {
  first = first ∙ was.first ∙ ap (λ k. 6 * k) (sym same.start);
  stable = (let old = was.stable in let start = same.start in omega (arith, old, start, rises, stable));
  latest = subst (λ f. AreLatest f (h'.live n) after) (sym first) latest;
}

-- what the history takes as stable is in each front of its log that a stop leaves
pub stable_cut : (n : ℕ) (c : CacheState) (b : ℕ → BlockState) (h : History) (xs : List (List ℕ)) (cut : IsCutLog (region c.log) c.log.start c.log.stable b xs) → 6 * c.log.start + h.stable n ≤ c.log.stable → h.stable n ≤ cut.count
stable_cut n c b h xs cut was = (let low = cut.low in omega (arith, was, low))

-- It has stopped: a front of its log is left, which has all that was stable.
module _ (s : Shape) (n : ℕ) (c : CacheState) (b b' : ℕ → BlockState) (h : History) (own : region c.log ≡ region_of s n) (first : h.devices.first n ≡ 6 * c.log.start) (legal : All IsLegal (h.live n)) (cut : IsCutLog (region c.log) c.log.start c.log.stable b (map record_text (h.live n)))
    (low : h.stable n ≤ cut.count) (still : IsStill (region c.log) b) (settles : KeepsForeign n b b') where
  pub place_cut : IsPlaceToCut h n cut.count
  place_cut = record { low = low; high = (let high = cut.high in let texts = length-map (h.live n) record_text in omega (arith, high, texts)) }

  left : (stopped h n cut.count).live n ≡ take cut.count (h.live n)
  left = set_at-same n (take cut.count (h.live n)) h.live

  long : length (take cut.count (h.live n)) ≡ cut.count
  long = length-take-le cut.count (h.live n) place_cut.high

  region_left : LeavesRegion (region_of s n) b b'
  region_left = region_settled (region_of s n) n b b' (subst (λ g. IsStill g b) own still) settles

  pub down_tied : TiesStill s n b' (stopped h n cut.count)
  down_tied = record {
    start = c.log.start;
    first = first;
    legal = subst (All IsLegal) (sym left) (All-take IsLegal cut.count (h.live n) legal);
    stable = set_at-same n cut.count h.stable ∙ sym long ∙ ap (λ (l : List LogRecord). length l) (sym left);
    still = region_left.still (subst (λ g. IsStill g b) own still);
    log = subst (λ recs. IsSpread (region_of s n) c.log.start (length recs) b' (map record_text recs)) (sym left)
        (subst (λ k. IsSpread (region_of s n) c.log.start k b' (map record_text (take cut.count (h.live n)))) (sym long)
        (subst (λ ts. IsSpread (region_of s n) c.log.start cut.count b' ts) (take-map record_text cut.count (h.live n))
        (narrowed_log (region_of s n) c.log.start cut.count b b' (take cut.count (map record_text (h.live n))) region_left.narrows region_left.keeps (subst (λ g. IsSpread g c.log.start cut.count b (take cut.count (map record_text (h.live n)))) own cut.log))));
  }

-- the history has the logs of the others as they were
pub stopped_others : (h : History) (n cut k : ℕ) → k ≢ n → LeavesLog k h (stopped h n cut)
stopped_others h n cut k far = record { live = set_at-other n (take cut (h.live n)) h.live k far; stable = set_at-other n cut h.stable k far; first = refl }
