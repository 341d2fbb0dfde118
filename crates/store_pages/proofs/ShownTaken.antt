-- What a store shows after a node has fetched a page that no other one has.
use Rattle.std.specs.Prelude.{◌≡◌, ◌≢◌, ◌==◌, ◌-◌, ◌<◌, ◌≤◌, [], ℕ, Bool, true, false, List, Option, Some, IfSome, slice_set, refl}
use Rattle.std.proofs.Common.{arith, inl, inr, ap, subst, sym, ◌∙◌}
use Rattle.std.proofs.lemmas.Bool.{eqb-true}
use Rattle.std.proofs.lemmas.List.Elements.{All-nil}
use Rattle.sd_base.specs.Disk.{BlockState, IsLawful}
use Rattle.sd_base.specs.Shape.{page_count}
use Rattle.sd_base.specs.declared.device.NodeId.{NodeId}
use Rattle.sd_base.specs.declared.names.PageNo.{PageNo}
use Rattle.sd_base.specs.declared.shape.Shape.{Shape}
use Rattle.page_owner.specs.declared.owners.Own.{Own}
use Rattle.page_owner.specs.declared.owners.Own.TheVariants.{Nobody, Out, Parked}
use Rattle.page_owner.specs.Owners.{owner_of}
use Rattle.space_map.specs.declared.map_entry.MapEntry.{MapEntry}
use Rattle.space_map.specs.PageImage.{PageImage, in_life}
use Rattle.private_log.specs.Content.{region_of}
use Rattle.private_log.specs.Log.{IsLogOn, SameLog}
use Rattle.state_ids.specs.Blocks.{HoldsPage, page_place}
use Rattle.state_ids.specs.Held.{Shows}
use Rattle.node_cache.specs.Cache.{CacheState, is_cached, is_changed, page_at}
use Rattle.node_cache.specs.Room.{Arrived, IsEntryOf, IsOpenTo, freed, leaving, parked, staying}
use Rattle.node_cache.specs.Writes.{HoldsPages, NarrowsButPages}
use Rattle.node_cache.proofs.Fetched.{uncached}
use Rattle.node_cache.proofs.ChangedPages.{out_of_shown}
use Rattle.node_cache.proofs.Leaving.{all_left}
use Rattle.txn_core.specs.Seats.{SeatsState}
use Rattle.record_machine.specs.Machine.{LooseChange, Machine, put}
use Rattle.record_machine.specs.Meaning.{Plain}
use Rattle.record_machine.specs.Parts.{Take, loose_after_take, one}
use Rattle.record_machine.proofs.LockSteps.{means_taken}
use Rattle.store_nodes.specs.declared.node.Node.{Node}
use Rattle.store_nodes.specs.declared.node.Node.TheVariants.{Idle, Up, Down}
use Rattle.store_nodes.specs.declared.store.Store.{Store}
use Rattle.store_nodes.specs.Nodes.{IsNode, IsPlace, IsStore, KeepsFramesBut, OnUp, is_up, node_at, with_node}
use Rattle.store_nodes.specs.Shows.{IsHolderUp, IsSettled, IsShown, ShowsNode, ShowsStoreOf, holder}
use Rattle.store_nodes.proofs.Eight.{same_there}
use Rattle.store_nodes.proofs.Holders.{clean_later, holder_taken, put_at, settled_earlier}
use Rattle.store_nodes.proofs.Living.{living}
use Rattle.store_nodes.proofs.OtherLogs.{LeavesRegion}
use Rattle.store_nodes.proofs.Others.{KeepsHeldBy}
use Rattle.store_pages.proofs.ShownFetch.{stored_fetched, up_fetched, up_taken}
use Rattle.store_nodes.proofs.ShownWith.{shown_with}
use Rattle.store_pages.proofs.Takes.{all_out, owner_fetched}
use Rattle.store_nodes.proofs.Works.{work_at}

-- ---- a page that no other node has

-- and of which the node has no changes: no node has any
pub settled_clean : (me : Store) (n : NodeId) (x : PageNo) (c : CacheState) (seats : SeatsState) → IsStore me → IsPlace n.0 → node_at me.nodes n.0 ≡ Up c seats → IsOpenTo n (owner_of me.shared.owners x.0) → is_changed x c ≡ false → IsSettled me.nodes me.shared.owners x
settled_clean me n x c seats is place up free clean = record {
  holder = holds (owner_of me.shared.owners x.0) free;
  clean = λ k k_is. by k k_is (node_at me.nodes k) refl (is.is k k_is);
}
  where
    holds : (own : Own) → IsOpenTo n own → IsHolderUp me.nodes own
    holds own (inl nobody) = subst (IsHolderUp me.nodes) (sym nobody) tt
    holds own (inr (inl here)) = subst (IsHolderUp me.nodes) (sym here) (ap is_up up)
    holds own (inr (inr here)) = subst (IsHolderUp me.nodes) (sym here) (ap is_up up)

    out_here : (k : NodeId) → owner_of me.shared.owners x.0 ≡ Out k → k ≡ n
    out_here k out = elim free [
      | inl nobody ↦ (let both : Nobody ≡ Out k = sym nobody ∙ out in cc)
      | inr (inl here) ↦ (let both : Parked n ≡ Out k = sym here ∙ out in cc)
      | inr (inr here) ↦ (let both : Out n ≡ Out k = sym here ∙ out in cc)
    ]

    by : (k : ℕ) → IsPlace k → (o : Node) → node_at me.nodes k ≡ o → IsNode me.shape me.shared.pool me.shared.owners k o → OnUp o (λ d after. is_changed x d ≡ false)
    by k k_is Idle at was = tt
    by k k_is Down at was = tt
    by k k_is (Up d after) at was = cached (is_cached x d) refl
      where
        cached : (b : Bool) → is_cached x d ≡ b → is_changed x d ≡ false
        cached false none = uncached x d none
        cached true there =
            let same : d.node ≡ n = out_here d.node ((was.owned x).1 there) in
            let here : k ≡ n.0 = sym was.number ∙ ap (λ (i : NodeId). i.0) same in
            let both : Up d after ≡ Up c seats = sym at ∙ ap (node_at me.nodes) here ∙ up in
            let one_cache : d ≡ c = cc in
            ap (is_changed x) one_cache ∙ clean

-- as where it hasn't cached it
pub settled_open : (me : Store) (n : NodeId) (x : PageNo) (c : CacheState) (seats : SeatsState) → IsStore me → IsPlace n.0 → node_at me.nodes n.0 ≡ Up c seats → IsOpenTo n (owner_of me.shared.owners x.0) → is_cached x c ≡ false → IsSettled me.nodes me.shared.owners x
settled_open me n x c seats is place up free missing = settled_clean me n x c seats is place up free (uncached x c missing)

-- ---- a page that the node holds already

-- what a node shows doesn't hang on who holds the pages, nor on what is loose
pub node_held : (s : Shape) (pool : List (Option (List ℕ))) (k : ℕ) (o : Node) (b : ℕ → BlockState) (p : Plain) (m : Machine) (hold : ℕ → Option ℕ) (loose : ℕ → List LooseChange) → ShowsNode s pool k o b p m → ShowsNode s pool k o b p (record m { hold = hold; loose = loose })
node_held s pool k Idle b p m hold loose was = (was.0, record { legal = was.1.legal; still = was.1.still; content = was.1.content; clean = was.1.clean; names = was.1.names; none = was.1.none })
node_held s pool k (Up c seats) b p m hold loose was = (was.0, record { records = was.1.records; told = was.1.told; start = was.1.start; cached = was.1.cached; lives = was.1.lives; deeds = was.1.deeds; within = was.1.within })
node_held s pool k Down b p m hold loose was = was

pub shown_taken : (c : Store) (b : ℕ → BlockState) (m : Machine) (x n : ℕ) → holder (owner_of c.shared.owners x) ≡ Some n → IsShown c b m → IsShown c b (one (Take x n) m)
shown_taken c b m x n holds shown = (
  shown.0,
  record {
    nodes = record {
      means = means_taken shown.0 m x n was.means;
      shape = was.shape;
      node = λ k k_is low. node_held c.shape c.shared.pool k (node_at c.nodes k) b shown.0 m (put x (Some n) m.hold) (loose_after_take x n m) (was.node k k_is low);
      stored = was.stored;
      hold = λ y within. by y within (y == x) refl;
    };
    locks = shown.1.locks;
    reopening = shown.1.reopening;
  },
)
  where
    was : ShowsStoreOf c.shape c.shared.pool c.shared.owners c.nodes b shown.0 m
    was = shown.1.nodes

    by : (y : ℕ) → y < page_count c.shape → (t : Bool) → (y == x) ≡ t → put x (Some n) m.hold y ≡ holder (owner_of c.shared.owners y)
    by y within true same = rw same (sym holds ∙ ap (λ k. holder (owner_of c.shared.owners k)) (sym (eqb-true y x same)))
    by y within false other = rw other (was.hold y within)

-- the store is the same, where what the node had is
pub store_again : (me : Store) (n i : ℕ) (c d : CacheState) (seats : SeatsState) (pool : List (Option (List ℕ))) (owners : List Own) → IsStore me → IsPlace n → i ≡ n - 1 → node_at me.nodes n ≡ Up c seats → pool ≡ me.shared.pool → owners ≡ me.shared.owners → d ≡ c
    → record { shape = me.shape; shared = record { pool = pool; owners = owners; locks = me.shared.locks; reopening = me.shared.reopening }; nodes = slice_set me.nodes i (Up d seats) } ≡ me
store_again me n i c d seats pool owners is place at up frames own cache =
    let still : slice_set me.nodes i (Up d seats) ≡ me.nodes = ap (λ j. slice_set me.nodes j (Up d seats)) at ∙ ap (λ e. with_node me.nodes n (Up e seats)) cache ∙ ap (λ o. with_node me.nodes n o) (sym up) ∙ same_there me.nodes n is.shared.eight place in
    ap (λ ps. record { shape = me.shape; shared = record { pool = ps; owners = owners; locks = me.shared.locks; reopening = me.shared.reopening }; nodes = slice_set me.nodes i (Up d seats) }) frames
    ∙ ap (λ os. record { shape = me.shape; shared = record { pool = me.shared.pool; owners = os; locks = me.shared.locks; reopening = me.shared.reopening }; nodes = slice_set me.nodes i (Up d seats) }) own
    ∙ ap (λ ns. record { shape = me.shape; shared = me.shared; nodes = ns }) still

-- ---- a page that came in

-- who holds the pages then
pub holder_fetched : (me : Store) (n : NodeId) (x : PageNo) (c : CacheState) (seats : SeatsState) (owners' : List Own) (owns : Own) → IsStore me → IsPlace n.0 → node_at me.nodes n.0 ≡ Up c seats → x.0 < page_count me.shape → holder owns ≡ Some n.0
    → owners' ≡ parked (leaving me.shape x c.pages) (slice_set me.shared.owners x.0 owns) → (y : ℕ) → holder (owner_of owners' y) ≡ put x.0 (Some n.0) (λ k. holder (owner_of me.shared.owners k)) y
holder_fetched me n x c seats owners' owns is place up within here own y =
    let work = work_at me.shape me.shared.pool me.shared.owners me.nodes n.0 c seats place up is in
    let name : c.node ≡ n = ap (λ k. record { 0 = k }) work.number in
    let table = is.shared.table in
    ap (λ os. holder (owner_of os y)) own
    ∙ holder_taken me.shared.owners x.0 n owns (leaving me.shape x c.pages) (omega (arith, table, within)) here
    (all_left (λ q. q.ticket.node ≡ n) me.shape x c.pages (λ j f low. work.cache.own j f low ∙ name)) (all_left (λ q. owner_of me.shared.owners q.ticket.page.0 ≡ Out n) me.shape x c.pages (all_out me.shared.owners n c name work.cache work.owned)) y

-- and where none came in
pub holder_missed : (me : Store) (n : NodeId) (x : PageNo) (owners' : List Own) (owns : Own) → IsStore me → x.0 < page_count me.shape → holder owns ≡ Some n.0 → owners' ≡ parked [] (slice_set me.shared.owners x.0 owns) → (y : ℕ) → holder (owner_of owners' y) ≡ put x.0 (Some n.0) (λ k. holder (owner_of me.shared.owners k)) y
holder_missed me n x owners' owns is within here own y =
    let table = is.shared.table in
    ap (λ os. holder (owner_of os y)) own ∙ holder_taken me.shared.owners x.0 n owns [] (omega (arith, table, within)) here (All-nil (λ q. q.ticket.node ≡ n)) (All-nil (λ q. owner_of me.shared.owners q.ticket.page.0 ≡ Out n)) y

module _ (me : Store) (n : NodeId) (x : PageNo) (e : Option MapEntry) (c d : CacheState) (seats : SeatsState) (new : List (Option (List ℕ))) (owners' : List Own) (b b' : ℕ → BlockState) (p : Plain) (m : Machine)
    (is : IsStore me) (place : IsPlace n.0) (up : node_at me.nodes n.0 ≡ Up c seats) (within : x.0 < page_count me.shape) (free : IsOpenTo n (owner_of me.shared.owners x.0)) (missing : is_cached x c ≡ false) where
  pub store_taken : ShowsStoreOf me.shape me.shared.pool me.shared.owners me.nodes b p m → ((k : ℕ) → IsLawful b k) → IsEntryOf me.shape me.shared.pool c x e → d.node ≡ c.node → SameLog c.log d.log → Arrived me.shape x e (staying me.shape x c.pages) (freed (leaving me.shape x c.pages) me.shared.pool) d new
      → NarrowsButPages me.shape c.log me.shared.pool (leaving me.shape x c.pages) b b' → HoldsPages me.shape me.shared.pool (leaving me.shape x c.pages) b' → ((image : PageImage) → HoldsPage me.shape x image (b (page_place me.shape x)).current → IfSome (page_at x d.pages) (λ q. Shows new q.frame (in_life e image)))
      → ((xs : List (List ℕ)) → IsLogOn c.log b xs → IsLogOn d.log b' xs) → owners' ≡ parked (leaving me.shape x c.pages) (slice_set me.shared.owners x.0 (Out c.node))
      → ((k : ℕ) → IsPlace k → k ≤ me.shape.nodes → k ≢ n.0 → LeavesRegion (region_of me.shape k) b b') → KeepsFramesBut n.0 me.nodes me.shared.pool new → ShowsStoreOf me.shape new owners' (with_node me.nodes n.0 (Up d seats)) b' p (one (Take x.0 n.0) m)
  store_taken was law entry node same came narrows holds image log own logs frames =
      let s = me.shape in
      let work = work_at s me.shared.pool me.shared.owners me.nodes n.0 c seats place up is in
      let name : c.node ≡ n = ap (λ k. record { 0 = k }) work.number in
      let low : n.0 ≤ s.nodes = (let last = work.store.node.1 in let number = work.number in omega (arith, last, number)) in
      let mine = subst (λ o. ShowsNode s me.shared.pool n.0 o b p m) up (was.node n.0 place low) in
      let alive = living s p m was.shape was.means.pages in
      let tickets = all_left (λ q. q.ticket.node ≡ n) s x c.pages (λ j f low. work.cache.own j f low ∙ name) in
      let outs = all_left (λ q. owner_of me.shared.owners q.ticket.page.0 ≡ Out n) s x c.pages (all_out me.shared.owners n c name work.cache work.owned) in
      shown_with s me.shared.pool new me.shared.owners owners' me.nodes n.0 d seats b b' p p m (one (Take x.0 n.0) m) is place was logs frames
      (λ j j_is far. record { live = refl; mode = refl; start = refl; pending = refl; images = λ i f below. refl; lives = λ i f below. refl })
      (means_taken p m x.0 n.0 was.means) was.shape mine.0
      (up_taken s new n.0 d seats b' p m x.0 n.0 (up_fetched s me.shared.pool new n.0 x e c d seats b b' p m work.cache work.store work.log_tie (out_of_shown s me.shared.pool c work.shown) law within (was.stored x within (settled_open me n x c seats is place up free missing)) missing entry node same came image log mine.1))
      (λ y y_in now. (let keeps : (k : ℕ) → k ≢ n.0 → KeepsHeldBy k me.shared.owners owners' = λ k far. subst (KeepsHeldBy k me.shared.owners) (sym own) (owner_fetched k n x me.shared.owners (Out c.node) (leaving s x c.pages) far (inr (ap Out name)) free tickets outs) in
      stored_fetched s p x e c d me.shared.pool _ new b b' work.cache work.store work.log_tie alive mine.1.cached came narrows holds y y_in
      (λ clean. was.stored y y_in (settled_earlier me.nodes me.shared.owners owners' n.0 c d seats seats is.shared.eight place up keeps y (is.shared.holders y.0) clean now))
      (clean_later me.nodes me.shared.owners owners' n.0 c d seats seats is.shared.eight place up keeps y now)))
      (λ y y_in. put_at x.0 (Some n.0) m.hold (λ k. holder (owner_of me.shared.owners k)) y (was.hold y y_in) ∙ sym (holder_fetched me n x c seats owners' (Out c.node) is place up within (ap (λ (k : NodeId). Some k.0) name) own y))
