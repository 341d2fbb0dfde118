-- What a store shows after a call of one node, by what that node shows.
use Rattle.std.specs.Prelude.{◌≡◌, ◌≢◌, ◌<◌, ◌≤◌, ℕ, false, List, Option, is_some, length, option_and_then}
use Rattle.std.proofs.Common.{inl, inr, ap}
use Rattle.sd_base.specs.Disk.{BlockState}
use Rattle.sd_base.specs.Shape.{page_count}
use Rattle.sd_base.specs.declared.device.NodeId.{NodeId}
use Rattle.sd_base.specs.declared.names.PageNo.{PageNo}
use Rattle.sd_base.specs.declared.shape.Shape.{Shape}
use Rattle.private_log.specs.Content.{region_of}
use Rattle.private_log.specs.Frames.{NarrowsBeside}
use Rattle.private_log.specs.Log.{next_place}
use Rattle.page_owner.specs.declared.owners.Own.{Own}
use Rattle.page_owner.specs.Owners.{owner_of}
use Rattle.state_ids.specs.Blocks.{page_place}
use Rattle.node_cache.specs.Cache.{CacheState, IsOfStore, IsTiedToLog, first_change, is_changed, page_at}
use Rattle.node_cache.proofs.DiskTie.{not_in_ring}
use Rattle.txn_core.specs.Seats.{SeatsState}
use Rattle.record_machine.specs.Machine.{Machine}
use Rattle.record_machine.specs.Machine as mode
use Rattle.record_machine.specs.Meaning.{Means, Plain}
use Rattle.store_nodes.specs.declared.node.Node.{Node}
use Rattle.store_nodes.specs.declared.node.Node.TheVariants.{Up}
use Rattle.store_nodes.specs.Nodes.{IsHeldBy, IsPlace, IsStoreOf, KeepsFramesBut, node_at, with_node}
use Rattle.store_nodes.specs.Shows.{IsOnDisk, IsSettled, ShowsNode, ShowsNodes, ShowsStoreOf, ShowsUp, holder}
use Rattle.store_nodes.proofs.Holders.{clean_later, settled_earlier}
use Rattle.store_nodes.proofs.Others.{KeepsHeldBy}
use Rattle.store_nodes.proofs.Eight.{each_with}
use Rattle.store_nodes.proofs.OtherLogs.{LeavesRegion, regions_at}
use Rattle.store_nodes.proofs.ShownOthers.{LeavesNode, node_left}

-- ---- the node, and the others

module _ (s : Shape) (pool pool' : List (Option (List ℕ))) (owners owners' : List Own) (nodes : List Node) (n : ℕ) (d : CacheState) (after : SeatsState) (b b' : ℕ → BlockState) (p p' : Plain) (m m' : Machine)
    (is : IsStoreOf s pool owners nodes) (place : IsPlace n) (was : ShowsNodes s pool owners nodes b p m)
    (logs : (k : ℕ) → IsPlace k → k ≤ s.nodes → k ≢ n → LeavesRegion (region_of s k) b b') (frames : KeepsFramesBut n nodes pool pool') (others : (k : ℕ) → IsPlace k → k ≢ n → LeavesNode s k (node_at nodes k) p p' m m') where
  pub nodes_with : Means p' m' → m'.shape ≡ s → m'.mode n ≡ mode.Up → ShowsUp s pool' n d after b' p' m' → ((x : ℕ) → x < page_count s → m'.hold x ≡ holder (owner_of owners' x)) → ShowsNodes s pool' owners' (with_node nodes n (Up d after)) b' p' m'
  nodes_with means shape up shows hold = record {
    means = means;
    shape = shape;
    node = λ k k_is low. each_with nodes n (Up d after) is.shared.eight place (λ j o. j ≤ s.nodes → ShowsNode s pool' j o b' p' m') (λ most. (up, shows))
        (λ j j_is far most. node_left s pool pool' j b b' p p' m m' is.shared.shape (logs j j_is most far) (node_at nodes j) (λ c seats at. regions_at s pool owners nodes is j c seats j_is at) (frames j j_is far) (others j j_is far) (was.node j j_is most))
        k k_is low;
    hold = hold;
  }

-- and with the pages on the disk
module _ (s : Shape) (pool pool' : List (Option (List ℕ))) (owners owners' : List Own) (nodes : List Node) (n : ℕ) (d : CacheState) (after : SeatsState) (b b' : ℕ → BlockState) (p p' : Plain) (m m' : Machine)
    (is : IsStoreOf s pool owners nodes) (place : IsPlace n) (was : ShowsStoreOf s pool owners nodes b p m)
    (logs : (k : ℕ) → IsPlace k → k ≤ s.nodes → k ≢ n → LeavesRegion (region_of s k) b b') (frames : KeepsFramesBut n nodes pool pool') (others : (k : ℕ) → IsPlace k → k ≢ n → LeavesNode s k (node_at nodes k) p p' m m') where
  pub shown_with : Means p' m' → m'.shape ≡ s → m'.mode n ≡ mode.Up → ShowsUp s pool' n d after b' p' m' → ((x : PageNo) → x.0 < page_count s → IsSettled (with_node nodes n (Up d after)) owners' x → IsOnDisk s b' p' x)
      → ((x : ℕ) → x < page_count s → m'.hold x ≡ holder (owner_of owners' x)) → ShowsStoreOf s pool' owners' (with_node nodes n (Up d after)) b' p' m'
  shown_with means shape up shows stored hold =
      let nodes_were : ShowsNodes s pool owners nodes b p m = record { means = was.means; shape = was.shape; node = was.node; hold = was.hold } in
      let now = nodes_with s pool pool' owners owners' nodes n d after b b' p p' m m' is place nodes_were logs frames others means shape up shows hold in
      record { means = now.means; shape = now.shape; node = now.node; stored = stored; hold = now.hold }

-- ---- what is on the disk

-- a page is settled as before, where the node is up still and has the changes that it had
pub settled_before : (nodes : List Node) (owners : List Own) (n : ℕ) (c d : CacheState) (seats after : SeatsState) → length nodes ≡ 8 → IsPlace n → node_at nodes n ≡ Up c seats
    → (x : PageNo) → ((k : NodeId) → IsHeldBy k (owner_of owners x.0) → IsPlace k.0) → (is_changed x d ≡ false → is_changed x c ≡ false) → IsSettled (with_node nodes n (Up d after)) owners x → IsSettled nodes owners x
settled_before nodes owners n c d seats after eight place up x known same was =
    let keeps : (m : ℕ) → m ≢ n → KeepsHeldBy m owners owners = λ m far y own held. (λ there. there, λ there. there) in
    settled_earlier nodes owners owners n c d seats after eight place up keeps x known (same (clean_later nodes owners owners n c d seats after eight place up keeps x was)) was

-- a page on the disk stays so, where only the log was written
pub stored_beside : (s : Shape) (p : Plain) (c : CacheState) (x : PageNo) (b b' : ℕ → BlockState) → IsOfStore s c → IsTiedToLog c → NarrowsBeside (next_place c.log) b b' → IsOnDisk s b p x → IsOnDisk s b' p x
stored_beside s p c x b b' store tie narrows was o may = elim (narrows (page_place s x) o may) [
  | inl old ↦ was o old
  | inr log ↦ absurd (not_in_ring s c store tie _ x log)
]

-- the same pages have the same changes
pub changed_same : (x : PageNo) (c d : CacheState) → d.pages ≡ c.pages → is_changed x d ≡ is_changed x c
changed_same x c d same = ap (λ ps. is_some (option_and_then first_change (page_at x ps))) same
