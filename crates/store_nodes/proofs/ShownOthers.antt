-- What a call of one node leaves of what the others show.
use Rattle.std.specs.Prelude.{◌≡◌, refl, ◌+◌, ◌*◌, ◌%◌, ◌<◌, ◌≤◌, ℕ, List, Option, All, length, map, option_map, slice_index_or}
use Rattle.std.proofs.Common.{arith, ap, subst, sym, ◌∙◌}
use Rattle.sd_base.specs.Disk.{BlockState}
use Rattle.sd_base.specs.Shape.{IsShape}
use Rattle.sd_base.specs.declared.shape.Shape.{Shape}
use Rattle.space_map.specs.Entry.{ident_of}
use Rattle.log_record.specs.Legal.{IsLegal}
use Rattle.log_record.specs.Text.{record_text}
use Rattle.private_log.specs.Content.{Ends, HasNoFuture, IsStale, LogContent, Region, place, region_of}
use Rattle.private_log.specs.Log.{region}
use Rattle.private_log.specs.Reading.{contents}
use Rattle.private_log.specs.Spread.{KeepsRegion, NarrowsRegion}
use Rattle.private_log.proofs.OtherCalls.{on_narrowed}
use Rattle.private_log.proofs.Places.{place-in}
use Rattle.state_ids.specs.Held.{Shows}
use Rattle.node_cache.specs.Cache.{CacheState}
use Rattle.node_cache.proofs.Without.{shows_same}
use Rattle.txn_core.specs.Seats.{SeatsState, txn_in}
use Rattle.txn_core.specs.Told.{AreTold, HasRecords, NamesEarlier}
use Rattle.record_machine.specs.Machine.{Machine}
use Rattle.record_machine.specs.Meaning.{Plain}
use Rattle.store_nodes.specs.declared.node.Node.{Node}
use Rattle.store_nodes.specs.declared.node.Node.TheVariants.{Idle, Up, Down}
use Rattle.store_nodes.specs.Nodes.{KeepsFramesOf, pages_of}
use Rattle.store_nodes.specs.Shows.{ShowsIdle, ShowsNode, ShowsUp, deeds_in, entry_in, image_in, numbers_of}
use Rattle.store_nodes.proofs.OtherLogs.{LeavesRegion}

-- What the machine has of the node, and what the logs and pages have of it, is as it was: its log, and the pages that it
-- has cached.
pub record LeavesNode (s : Shape) (n : ℕ) (node : Node) (p p' : Plain) (m m' : Machine) : Type 0 where
  pub live : p'.live n ≡ p.live n
  pub mode : m'.mode n ≡ m.mode n
  pub start : m'.start n ≡ m.start n
  pub pending : m'.pending n ≡ m.pending n
  pub images : All (λ q. image_in s p' q.ticket.page ≡ image_in s p q.ticket.page) (pages_of node)
  pub lives : All (λ q. option_map ident_of (entry_in s p' q.ticket.page) ≡ option_map ident_of (entry_in s p q.ticket.page)) (pages_of node)

-- ---- a log by its region

-- what a region holds, it holds
module _ (g : Region) (b b' : ℕ → BlockState) (same : KeepsRegion g b b') (ring : 1 ≤ g.ring) where
  pub at_place : (number : ℕ) → contents b' (place g number) ≡ contents b (place g number)
  at_place number = (let within = (place-in g number (omega (arith, ring))).1 in subst (λ k. contents b' k ≡ contents b k) (omega arith) (same (1 + number % g.ring) within))

  pub content_left : (start : ℕ) (xs : List (List ℕ)) → LogContent g (contents b) start xs → LogContent g (contents b') start xs
  content_left start xs was = record {
    number = was.number;
    anchor = (let at : g.anchor + 0 ≡ g.anchor = omega arith in subst (λ k. contents b' k ≡ contents b k) at (same 0 (omega arith))) ∙ was.anchor;
    texts = was.texts;
    room = was.room;
    last = was.last;
    blocks = λ k low. at_place (start + k) ∙ was.blocks k low;
    ends = λ k low full. subst (Ends g (start + k)) (sym (at_place (start + k))) (was.ends k low full);
  }

  pub future_left : (start : ℕ) (xs : List (List ℕ)) → HasNoFuture g (contents b) start xs → HasNoFuture g (contents b') start xs
  future_left start xs was k low past = subst (IsStale g start (start + k)) (sym (at_place (start + k))) (was k low past)

-- ---- a node

module _ (s : Shape) (pool pool' : List (Option (List ℕ))) (n : ℕ) (b b' : ℕ → BlockState) (p p' : Plain) (m m' : Machine) (valid : IsShape s) (left : LeavesRegion (region_of s n) b b') where
  idle_left : (node : Node) → LeavesNode s n node p p' m m' → ShowsIdle s n b p m → ShowsIdle s n b' p' m'
  idle_left node same was = record {
    legal = subst (All IsLegal) (sym same.live) was.legal;
    still = left.still was.still;
    content = subst (λ k. LogContent (region_of s n) (contents b') k (map record_text (p'.live n))) (sym same.start)
        (subst (λ recs. LogContent (region_of s n) (contents b') (m.start n) (map record_text recs)) (sym same.live) (content_left (region_of s n) b b' left.keeps ring (m.start n) (map record_text (p.live n)) was.content));
    clean = subst (λ k. HasNoFuture (region_of s n) (contents b') k (map record_text (p'.live n))) (sym same.start)
        (subst (λ recs. HasNoFuture (region_of s n) (contents b') (m.start n) (map record_text recs)) (sym same.live) (future_left (region_of s n) b b' left.keeps ring (m.start n) (map record_text (p.live n)) was.clean));
    names = subst (λ k. NamesEarlier (6 * k) (p'.live n)) (sym same.start) (subst (NamesEarlier (6 * m.start n)) (sym same.live) was.names);
    none = same.pending ∙ was.none;
  }
    where
      ring : 1 ≤ s.ring
      ring = (let some = valid.ring.0 in omega (arith, some))

  up_left : (c : CacheState) (seats : SeatsState) → region c.log ≡ region_of s n → KeepsFramesOf c.pages pool pool' → LeavesNode s n (Up c seats) p p' m m' → ShowsUp s pool n c seats b p m → ShowsUp s pool' n c seats b' p' m'
  up_left c seats own frames same was = record {
    records = subst (HasRecords c.log b') (sym same.live) (record {
      legal = was.records.legal;
      on = on_narrowed c.log b b' (map record_text (p.live n)) (subst (λ g. NarrowsRegion g b b') (sym own) left.narrows) (subst (λ g. KeepsRegion g b b') (sym own) left.keeps) was.records.on;
    });
    told = subst (AreTold seats c.log.start) (sym same.live) was.told;
    start = same.start ∙ was.start;
    cached = λ k d low. subst (Shows pool' (slice_index_or c.pages k d).frame) (sym (same.images k d low)) (shows_same pool pool' (slice_index_or c.pages k d).frame (image_in s p (slice_index_or c.pages k d).ticket.page) (frames k d low) (was.cached k d low));
    lives = λ k d low. was.lives k d low ∙ sym (same.lives k d low);
    deeds = λ seat low. ap (λ ds. map (λ e. e.number) (deeds_in seat ds)) same.pending ∙ was.deeds seat low ∙ ap (λ recs. numbers_of (6 * c.log.start) recs (txn_in seats seat)) (sym same.live);
    within = subst (All (λ d. d.seat < 8)) (sym same.pending) was.within;
  }

  pub node_left : (node : Node) → ((c : CacheState) (seats : SeatsState) → node ≡ Up c seats → region c.log ≡ region_of s n) → KeepsFramesOf (pages_of node) pool pool' → LeavesNode s n node p p' m m' → ShowsNode s pool n node b p m → ShowsNode s pool' n node b' p' m'
  node_left node own frames same was = by node refl frames same was
    where
      by : (o : Node) → node ≡ o → KeepsFramesOf (pages_of o) pool pool' → LeavesNode s n o p p' m m' → ShowsNode s pool n o b p m → ShowsNode s pool' n o b' p' m'
      by Idle at kept left' shown = (left'.mode ∙ shown.0, idle_left Idle left' shown.1)
      by (Up c seats) at kept left' shown = (left'.mode ∙ shown.0, up_left c seats (own c seats at) kept left' shown.1)
      by Down at kept left' shown = (left'.mode ∙ shown.0, subst (λ ds. length ds ≤ 6 * s.ring) (sym left'.pending) shown.1)
