-- What a node that is up shows after one record more in its log, where its pages stay.
use Rattle.std.specs.Prelude.{◌≡◌, ◌≢◌, ◌+◌, ◌*◌, ◌<◌, ◌++◌, ◌∷◌, [], ℕ, List, Option, All, length, map, option_map, refl}
use Rattle.std.proofs.Common.{arith, subst, sym, ◌∙◌}
use Rattle.std.proofs.lemmas.List.{length-map}
use Rattle.sd_base.specs.Disk.{BlockState}
use Rattle.sd_base.specs.declared.shape.Shape.{Shape}
use Rattle.space_map.specs.Entry.{ident_of}
use Rattle.log_record.specs.declared.record.LogRecord.{LogRecord}
use Rattle.log_record.specs.Text.{record_text}
use Rattle.private_log.specs.Log.{SameLog, next_place}
use Rattle.private_log.proofs.LogLaws.{on_tail}
use Rattle.state_ids.specs.Held.{Shows}
use Rattle.node_cache.specs.Cache.{CacheState, IsOfStore, IsTiedToLog}
use Rattle.txn_core.specs.Seats.{SeatsState, txn_in}
use Rattle.txn_core.specs.Told.{AreTold, HasRecords}
use Rattle.record_machine.specs.Machine.{Deed, Machine}
use Rattle.record_machine.specs.Meaning.{AreLogs, Plain, logged}
use Rattle.record_machine.proofs.Put.{put_other, put_same}
use Rattle.sd_base.specs.Shape.{page_count}
use Rattle.sd_base.specs.declared.names.PageNo.{PageNo}
use Rattle.page_owner.specs.declared.owners.Own.{Own}
use Rattle.private_log.specs.Frames.{NarrowsBeside}
use Rattle.store_nodes.specs.declared.node.Node.{Node}
use Rattle.store_nodes.specs.declared.node.Node.TheVariants.{Up}
use Rattle.store_nodes.specs.Nodes.{IsPlace, IsStoreOf, node_at, with_node}
use Rattle.store_nodes.specs.Shows.{IsOnDisk, IsSettled, ShowsStoreOf, ShowsUp, deeds_in, entry_in, image_in, numbers_of}
use Rattle.store_nodes.proofs.ShownOthers.{LeavesNode}
use Rattle.store_nodes.proofs.ShownWith.{changed_same, settled_before, stored_beside}

-- the next record of the machine is that of the node's log
pub tail_shown : (n : ℕ) (s : Shape) (pool : List (Option (List ℕ))) (c : CacheState) (seats : SeatsState) (b : ℕ → BlockState) (p : Plain) (m : Machine) → AreLogs p m → ShowsUp s pool n c seats b p m → m.tail n ≡ c.log.tail
tail_shown n s pool c seats b p m logs up =
    let told = logs.tail n in
    let start = up.start in
    let long = on_tail c.log b (map record_text (p.live n)) up.records.on in
    let count = length-map (p.live n) record_text in
    omega (arith, told, start, long, count)

-- how many records it has
pub length_shown : (n : ℕ) (s : Shape) (pool : List (Option (List ℕ))) (c : CacheState) (seats : SeatsState) (b : ℕ → BlockState) (p : Plain) (m : Machine) → ShowsUp s pool n c seats b p m → 6 * c.log.start + length (p.live n) ≡ c.log.tail
length_shown n s pool c seats b p m up =
    let long = on_tail c.log b (map record_text (p.live n)) up.records.on in
    let count = length-map (p.live n) record_text in
    omega (arith, long, count)

module _ (n : ℕ) (s : Shape) (pool : List (Option (List ℕ))) (c d : CacheState) (seats after : SeatsState) (b b' : ℕ → BlockState) (p : Plain) (m m' : Machine) (rec : LogRecord) where
  pub up_logged : d.pages ≡ c.pages → SameLog c.log d.log → m'.start n ≡ m.start n → HasRecords d.log b' (p.live n ++ rec ∷ []) → AreTold after c.log.start (p.live n ++ rec ∷ [])
      → ((seat : ℕ) → seat < 8 → map (λ (e : Deed). e.number) (deeds_in seat (m'.pending n)) ≡ numbers_of (6 * c.log.start) (p.live n ++ rec ∷ []) (txn_in after seat)) → All (λ (e : Deed). e.seat < 8) (m'.pending n) → ShowsUp s pool n c seats b p m → ShowsUp s pool n d after b' (logged n rec p) m'
  up_logged pages same first records told deeds within was =
      let start : d.log.start ≡ c.log.start = same.start in
      let live : (logged n rec p).live n ≡ p.live n ++ rec ∷ [] = put_same n (p.live n ++ rec ∷ []) p.live n refl in
      record {
        records = subst (HasRecords d.log b') (sym live) records;
        told = subst (AreTold after d.log.start) (sym live) (subst (λ k. AreTold after k (p.live n ++ rec ∷ [])) (sym start) told);
        start = first ∙ was.start ∙ sym start;
        cached = subst (All (λ q. Shows pool q.frame (image_in s p q.ticket.page))) (sym pages) was.cached;
        lives = subst (All (λ q. option_map ident_of q.entry ≡ option_map ident_of (entry_in s p q.ticket.page))) (sym pages) was.lives;
        deeds = λ seat low. subst (λ recs. map (λ (e : Deed). e.number) (deeds_in seat (m'.pending n)) ≡ numbers_of (6 * d.log.start) recs (txn_in after seat)) (sym live) (subst (λ k. map (λ (e : Deed). e.number) (deeds_in seat (m'.pending n)) ≡ numbers_of (6 * k) (p.live n ++ rec ∷ []) (txn_in after seat)) (sym start) (deeds seat low));
        within = within;
      }

-- ---- the others, and the pages on the disk

-- the record is in the log of its node alone
pub logged_others : (s : Shape) (nodes : List Node) (n : ℕ) (rec : LogRecord) (p : Plain) (m m' : Machine) → ((k : ℕ) → k ≢ n → (m'.mode k ≡ m.mode k) × (m'.start k ≡ m.start k) × (m'.pending k ≡ m.pending k))
    → (k : ℕ) → IsPlace k → k ≢ n → LeavesNode s k (node_at nodes k) p (logged n rec p) m m'
logged_others s nodes n rec p m m' same k is far = record {
  live = put_other n (p.live n ++ rec ∷ []) p.live k far;
  mode = (same k far).0;
  start = (same k far).1;
  pending = (same k far).2;
  images = λ j d low. refl;
  lives = λ j d low. refl;
}

-- a page that was on the disk is there still
pub logged_stored : (s : Shape) (pool : List (Option (List ℕ))) (owners : List Own) (nodes : List Node) (n : ℕ) (c d : CacheState) (seats after : SeatsState) (b b' : ℕ → BlockState) (p : Plain) (m : Machine) (rec : LogRecord) → IsStoreOf s pool owners nodes → IsPlace n → node_at nodes n ≡ Up c seats
    → IsOfStore s c → IsTiedToLog c → d.pages ≡ c.pages → NarrowsBeside (next_place c.log) b b' → ShowsStoreOf s pool owners nodes b p m → (x : PageNo) → x.0 < page_count s → IsSettled (with_node nodes n (Up d after)) owners x → IsOnDisk s b' (logged n rec p) x
logged_stored s pool owners nodes n c d seats after b b' p m rec is place up store tie same narrows was x low settled =
    stored_beside s p c x b b' store tie narrows
    (was.stored x low (settled_before nodes owners n c d seats after is.shared.eight place up x (is.shared.holders x.0) (λ clean. sym (changed_same x c d same) ∙ clean) settled))
