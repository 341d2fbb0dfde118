-- What a store shows after one record more in a node's log, which changes one of its pages.
use Rattle.std.specs.Prelude.{◌≡◌, ◌≢◌, ◌*◌, ◌<◌, ◌++◌, ◌∷◌, [], ℕ, true, false, List, Option, Some, None, All, is_some, map, nat_lt, option_and_then, option_map, slice_index_or, if◌then◌else◌, refl}
use Rattle.std.proofs.Common.{ap, subst, sym, ◌∙◌}
use Rattle.sd_base.specs.Disk.{BlockState}
use Rattle.sd_base.specs.Shape.{page_count}
use Rattle.sd_base.specs.declared.names.PageNo.{PageNo}
use Rattle.sd_base.specs.declared.shape.Shape.{Shape}
use Rattle.space_map.specs.declared.map_entry.MapEntry.{MapEntry}
use Rattle.space_map.specs.Entry.{ident_of}
use Rattle.space_map.specs.Life.{blank_page}
use Rattle.space_map.specs.PageImage.{PageImage, data_of, data_page, in_life, map_page, view_of}
use Rattle.log_record.specs.declared.record.LogRecord.{LogRecord}
use Rattle.page_owner.specs.declared.owners.Own.{Own}
use Rattle.private_log.specs.Frames.{NarrowsBeside}
use Rattle.private_log.specs.Log.{SameLog, next_place}
use Rattle.state_ids.specs.Held.{KeepsFrames, Shows}
use Rattle.node_cache.specs.Cache.{CachedPage, CacheState, Changes, IsCache, IsOfStore, IsTiedToLog, changed_by, first_change, is_changed, page_at, with_page}
use Rattle.node_cache.proofs.OnePage.{all_with, is_page-same, only}
use Rattle.node_cache.proofs.Without.{shows_same}
use Rattle.node_cache.proofs.ChangedPages.{frames_beside, other_page, page_beside}
use Rattle.txn_core.specs.Seats.{SeatsState, txn_in}
use Rattle.txn_core.specs.Told.{AreTold, HasRecords}
use Rattle.txn_core.proofs.UpdateLaws.{page_with}
use Rattle.record_machine.specs.Machine.{Deed, Machine}
use Rattle.record_machine.specs.Meaning.{Plain, logged}
use Rattle.record_machine.proofs.Put.{put_other, put_same}
use Rattle.store_nodes.specs.declared.node.Node.{Node}
use Rattle.store_nodes.specs.declared.node.Node.TheVariants.{Up}
use Rattle.store_nodes.specs.Nodes.{IsPlace, IsStoreOf, OnUp, node_at, pages_of, with_node}
use Rattle.store_nodes.specs.Shows.{IsOnDisk, IsSettled, ShowsStoreOf, ShowsUp, deeds_in, entry_in, image_in, numbers_of}
use Rattle.store_nodes.proofs.Eight.{at_same}
use Rattle.store_nodes.proofs.ShownOthers.{LeavesNode}
use Rattle.store_nodes.proofs.ShownWith.{settled_before, stored_beside}

-- Of the logs and pages of a store only page x is another one, and each entry has begun the same life.
pub record OnlyPage (s : Shape) (old new : Plain) (x : PageNo) : Type 0 where
  pub live : (n : ℕ) → new.live n ≡ old.live n
  pub others : (y : PageNo) → y ≢ x → image_in s new y ≡ image_in s old y
  pub entries : (y : PageNo) → option_map ident_of (entry_in s new y) ≡ option_map ident_of (entry_in s old y)

-- what a page stands for hangs on the identifier of its entry alone
in_life_by : (e f : Option MapEntry) (image : PageImage) → option_map ident_of e ≡ option_map ident_of f → in_life e image ≡ in_life f image
in_life_by None None image same = refl
in_life_by None (Some f) image same = cc
in_life_by (Some e) None image same = cc
in_life_by (Some e) (Some f) (map_page m) same = refl
in_life_by (Some e) (Some f) (data_page v) same =
    let ident : ident_of e ≡ ident_of f = cc in
    ap (λ n. data_page (view_of v.page (if nat_lt v.ident n then blank_page n else data_of v))) ident

-- a page on the disk stays so, where another page has changed and only the log was written
disk_changed : (s : Shape) (p q : Plain) (x y : PageNo) (b : ℕ → BlockState) → OnlyPage s p q x → y ≢ x → IsOnDisk s b p y → IsOnDisk s b q y
disk_changed s p q x y b one other was o may =
    let stands = was o may in
    (stands.0, stands.1, in_life_by (entry_in s q y) (entry_in s p y) stands.0 (one.entries y) ∙ stands.2 ∙ sym (one.others y other))

-- the page that has changed has changes
has_changed : (x y : PageNo) (number : ℕ) (pages : List CachedPage) (page : CachedPage) → page_at x pages ≡ Some page → y ≡ x → is_some (option_and_then first_change (page_at y (with_page x (changed_by number) pages))) ≡ true
has_changed x y number pages page there here =
    ap (λ z. is_some (option_and_then first_change (page_at z (with_page x (changed_by number) pages)))) here
    ∙ ap (λ o. is_some (option_and_then first_change o)) (page_with x (changed_by number) pages (λ p. refl) ∙ ap (option_map (changed_by number)) there) ∙ some page.changes refl
  where
    some : (o : Option Changes) → page.changes ≡ o → is_some (first_change (changed_by number page)) ≡ true
    some None is = rw is refl
    some (Some ch) is = rw is refl

-- ---- the node

module _ (n : ℕ) (s : Shape) (pool new : List (Option (List ℕ))) (c d : CacheState) (seats after : SeatsState) (b b' : ℕ → BlockState) (p q : Plain) (m m' : Machine) (x : PageNo) (page : CachedPage) (number : ℕ) (rec : LogRecord) (one : OnlyPage s p q x) (is : IsCache c.node c.pages) (there : page_at x c.pages ≡ Some page) where
  shown_changed : KeepsFrames page.frame pool new → Shows new page.frame (image_in s q x) → All (λ r. Shows pool r.frame (image_in s p r.ticket.page)) c.pages → All (λ r. Shows new r.frame (image_in s q r.ticket.page)) (with_page x (changed_by number) c.pages)
  shown_changed keeps here was = all_with (λ r. Shows new r.frame (image_in s q r.ticket.page)) x (changed_by number) c.pages (λ i k below.
      let r : CachedPage = slice_index_or c.pages i k in (
        λ yes. subst (λ y. Shows new r.frame (image_in s q y)) (sym (is_page-same x r yes)) (subst (λ (z : CachedPage). Shows new z.frame (image_in s q x)) (sym ((only x c.pages page is.once is.apart there i k below).0 yes)) here),
        λ no. subst (Shows new r.frame) (sym (one.others r.ticket.page (other_page x r no))) (shows_same pool new r.frame (image_in s p r.ticket.page) (frames_beside c.node c.pages x page pool new is there keeps i k below no) (was i k below)),
      ))

  lives_changed : All (λ r. option_map ident_of r.entry ≡ option_map ident_of (entry_in s p r.ticket.page)) c.pages → All (λ r. option_map ident_of r.entry ≡ option_map ident_of (entry_in s q r.ticket.page)) (with_page x (changed_by number) c.pages)
  lives_changed was = all_with (λ r. option_map ident_of r.entry ≡ option_map ident_of (entry_in s q r.ticket.page)) x (changed_by number) c.pages (λ i k below.
      let r : CachedPage = slice_index_or c.pages i k in
      let still : option_map ident_of r.entry ≡ option_map ident_of (entry_in s q r.ticket.page) = was i k below ∙ sym (one.entries r.ticket.page) in
      (λ yes. still, λ no. still))

  pub up_changed : KeepsFrames page.frame pool new → Shows new page.frame (image_in s q x) → d.pages ≡ with_page x (changed_by number) c.pages → SameLog c.log d.log → m'.start n ≡ m.start n
      → HasRecords d.log b' (p.live n ++ rec ∷ []) → AreTold after c.log.start (p.live n ++ rec ∷ []) → ((seat : ℕ) → seat < 8 → map (λ (e : Deed). e.number) (deeds_in seat (m'.pending n)) ≡ numbers_of (6 * c.log.start) (p.live n ++ rec ∷ []) (txn_in after seat)) → All (λ (e : Deed). e.seat < 8) (m'.pending n)
      → ShowsUp s pool n c seats b p m → ShowsUp s new n d after b' (logged n rec q) m'
  up_changed keeps here pages same first records told deeds within was =
      let start : d.log.start ≡ c.log.start = same.start in
      let live : (logged n rec q).live n ≡ p.live n ++ rec ∷ [] = put_same n (q.live n ++ rec ∷ []) q.live n refl ∙ ap (λ rs. rs ++ rec ∷ []) (one.live n) in
      record {
        records = subst (HasRecords d.log b') (sym live) records;
        told = subst (AreTold after d.log.start) (sym live) (subst (λ k. AreTold after k (p.live n ++ rec ∷ [])) (sym start) told);
        start = first ∙ was.start ∙ sym start;
        cached = subst (All (λ r. Shows new r.frame (image_in s q r.ticket.page))) (sym pages) (shown_changed keeps here was.cached);
        lives = subst (All (λ r. option_map ident_of r.entry ≡ option_map ident_of (entry_in s q r.ticket.page))) (sym pages) (lives_changed was.lives);
        deeds = λ seat low. subst (λ recs. map (λ (e : Deed). e.number) (deeds_in seat (m'.pending n)) ≡ numbers_of (6 * d.log.start) recs (txn_in after seat)) (sym live) (subst (λ k. map (λ (e : Deed). e.number) (deeds_in seat (m'.pending n)) ≡ numbers_of (6 * k) (p.live n ++ rec ∷ []) (txn_in after seat)) (sym start) (deeds seat low));
        within = within;
      }

-- ---- the others, and the pages on the disk

-- the record is in the log of its node alone, and no other node has the page
pub changed_others : (s : Shape) (nodes : List Node) (n : ℕ) (rec : LogRecord) (p q : Plain) (m m' : Machine) (x : PageNo) → OnlyPage s p q x → ((k : ℕ) → IsPlace k → k ≢ n → All (λ r. r.ticket.page ≢ x) (pages_of (node_at nodes k)))
    → ((k : ℕ) → k ≢ n → (m'.mode k ≡ m.mode k) × (m'.start k ≡ m.start k) × (m'.pending k ≡ m.pending k)) → (k : ℕ) → IsPlace k → k ≢ n → LeavesNode s k (node_at nodes k) p (logged n rec q) m m'
changed_others s nodes n rec p q m m' x one apart same k is far = record {
  live = put_other n (q.live n ++ rec ∷ []) q.live k far ∙ one.live k;
  mode = (same k far).0;
  start = (same k far).1;
  pending = (same k far).2;
  images = λ j d low. one.others (slice_index_or (pages_of (node_at nodes k)) j d).ticket.page (apart k is far j d low);
  lives = λ j d low. one.entries (slice_index_or (pages_of (node_at nodes k)) j d).ticket.page;
}

-- the page that has changed isn't settled, and another one is so only if it was
module _ (s : Shape) (pool : List (Option (List ℕ))) (owners : List Own) (nodes : List Node) (n : ℕ) (c d : CacheState) (seats after : SeatsState) (x : PageNo) (page : CachedPage) (number : ℕ)
    (is : IsStoreOf s pool owners nodes) (place : IsPlace n) (up : node_at nodes n ≡ Up c seats) (there : page_at x c.pages ≡ Some page) (pages : d.pages ≡ with_page x (changed_by number) c.pages) where
  unsettled : (y : PageNo) → y ≡ x → ¬ (IsSettled (with_node nodes n (Up d after)) owners y)
  unsettled y here settled =
      let clean : is_changed y d ≡ false = subst (λ o. OnUp o (λ e seats. is_changed y e ≡ false)) (at_same nodes n (Up d after) is.shared.eight place) (settled.clean n place) in
      let yes = has_changed x y number c.pages page there here in
      let never : true ≡ false = sym yes ∙ ap (λ ps. is_some (option_and_then first_change (page_at y ps))) (sym pages) ∙ clean in
      cc

  pub settled_changed : (y : PageNo) → IsSettled (with_node nodes n (Up d after)) owners y → (y.0 ≢ x.0) × IsSettled nodes owners y
  settled_changed y settled =
      let apart : y ≢ x = λ same. unsettled y same settled in
      let beside : page_at y d.pages ≡ page_at y c.pages = ap (page_at y) pages ∙ page_beside x y (changed_by number) c.pages (λ r. refl) apart in (
        λ here. apart (ap (λ k. record { 0 = k }) here),
        settled_before nodes owners n c d seats after is.shared.eight place up y (is.shared.holders y.0) (λ clean. ap (λ o. is_some (option_and_then first_change o)) (sym beside) ∙ clean) settled,
      )

-- a page that was on the disk is there still, but for the one that has changed
module _ (s : Shape) (pool : List (Option (List ℕ))) (owners : List Own) (nodes : List Node) (n : ℕ) (c d : CacheState) (seats after : SeatsState) (b b' : ℕ → BlockState) (p q : Plain) (m : Machine) (x : PageNo) (page : CachedPage) (number : ℕ) (rec : LogRecord)
    (is : IsStoreOf s pool owners nodes) (place : IsPlace n) (up : node_at nodes n ≡ Up c seats) (store : IsOfStore s c) (tie : IsTiedToLog c) (one : OnlyPage s p q x) (there : page_at x c.pages ≡ Some page) (pages : d.pages ≡ with_page x (changed_by number) c.pages) where
  pub changed_stored : NarrowsBeside (next_place c.log) b b' → ShowsStoreOf s pool owners nodes b p m → (y : PageNo) → y.0 < page_count s → IsSettled (with_node nodes n (Up d after)) owners y → IsOnDisk s b' (logged n rec q) y
  changed_stored narrows was y low settled =
      let at = settled_changed s pool owners nodes n c d seats after x page number is place up there pages y settled in
      disk_changed s p q x y b' one (λ same. at.0 (ap (λ (z : PageNo). z.0) same)) (stored_beside s p c y b b' store tie narrows (was.stored y low at.1))
