-- A page that is on the disk as it is at present stays so where it is written, and a page is so once it was written.
use Rattle.std.specs.Prelude.{◌≡◌, ◌<◌, ℕ, List, Option, All}
use Rattle.std.proofs.Common.{inl, inr, subst, sym, ◌∙◌}
use Rattle.sd_base.specs.Disk.{BlockState, Holds, MayHold}
use Rattle.sd_base.specs.Shape.{page_count}
use Rattle.sd_base.specs.declared.names.PageNo.{PageNo}
use Rattle.sd_base.specs.declared.shape.Shape.{Shape}
use Rattle.frame_pool.specs.Frames.{frame_at}
use Rattle.space_map.specs.PageImage.{PageImage, in_life}
use Rattle.state_ids.specs.Held.{Shows}
use Rattle.state_ids.specs.Blocks.{HoldsPage, page_place}
use Rattle.node_cache.specs.Cache.{CachedPage, CacheState, IsOfStore, IsTiedToLog}
use Rattle.node_cache.specs.Writes.{NarrowsButPages}
use Rattle.node_cache.proofs.DiskTie.{not_in_ring}
use Rattle.node_cache.proofs.PageWrites.{one_place}
use Rattle.record_machine.specs.Meaning.{Plain}
use Rattle.store_nodes.specs.Shows.{IsOnDisk, entry_in, image_in}
use Rattle.store_nodes.proofs.Living.{AreLiving}

-- what a frame holds stands for its page
from_frame : (s : Shape) (p : Plain) (y : PageNo) (pool : List (Option (List ℕ))) (frame : ℕ) (o : Option (List ℕ)) → AreLiving s p → y.0 < page_count s → Shows pool frame (image_in s p y) → o ≡ frame_at pool frame
    → (image : PageImage) × HoldsPage s y image o × (in_life (entry_in s p y) image ≡ image_in s p y)
from_frame s p y pool frame o living within shown here =
    let is = living y within in
    (image_in s p y, (shown.bytes, here ∙ shown.held, shown.text, is.0, is.1), is.2)

-- a page on the disk stays so, where the last block of the log was written, and pages with what their frames show
pub still_stored : (s : Shape) (p : Plain) (y : PageNo) (c : CacheState) (pages : List CachedPage) (pool : List (Option (List ℕ))) (b b' : ℕ → BlockState) → IsOfStore s c → IsTiedToLog c → AreLiving s p → y.0 < page_count s → All (λ q. Shows pool q.frame (image_in s p q.ticket.page)) pages
    → NarrowsButPages s c.log pool pages b b' → IsOnDisk s b p y → IsOnDisk s b' p y
still_stored s p y c pages pool b b' store tie living within shown narrows was o may = elim (narrows (page_place s y) o may) [
  | inl old ↦ was o old
  | inr new ↦ elim new [
    | inl log ↦ absurd (not_in_ring s c store tie _ y log)
    | inr written ↦
        let q = written.1 in
        let page : y ≡ q.ticket.page = one_place s y q.ticket.page written.4.0.1 in
        let shows : Shows pool q.frame (image_in s p q.ticket.page) = subst (λ r. Shows pool r.frame (image_in s p r.ticket.page)) written.3 (shown written.0 q written.2) in
        from_frame s p y pool q.frame o living within (subst (λ z. Shows pool q.frame (image_in s p z)) (sym page) shows) written.4.1
  ]
]

-- and a page whose block holds what its frame shows is on it
pub written_stored : (s : Shape) (p : Plain) (y : PageNo) (q : CachedPage) (pool : List (Option (List ℕ))) (b : ℕ → BlockState) → AreLiving s p → y.0 < page_count s → q.ticket.page ≡ y → Shows pool q.frame (image_in s p q.ticket.page) → Holds b (page_place s q.ticket.page) (frame_at pool q.frame) → IsOnDisk s b p y
written_stored s p y q pool b living within page shows held o may =
    let here : o ≡ frame_at pool q.frame = held o (subst (λ z. MayHold b (page_place s z) o) (sym page) may) in
    from_frame s p y pool q.frame o living within (subst (λ z. Shows pool q.frame (image_in s p z)) page shows) here
