-- What a page that goes from one node to another leaves.
use Rattle.std.specs.Prelude.{◌≡◌, ◌≢◌, ◌<◌, ◌≤◌, ℕ, true, not, IsTrue, List, Option, None, Result, Ok, Err, IfErr, OnOk, length, slice_set, refl}
use Rattle.std.specs.Result.{IsErrAnd}
use Rattle.std.proofs.Common.{inl, inr, ap, subst, sym, ◌∙◌, get_or-set_same, get_or-set_other}
use Rattle.std.proofs.lemmas.Bool.{cases_eq}
use Rattle.sd_base.specs.Disk.{BlockState}
use Rattle.sd_base.specs.Places.{map_of_data}
use Rattle.sd_base.specs.Shape.{page_count}
use Rattle.sd_base.specs.declared.device.NodeId.{NodeId}
use Rattle.sd_base.specs.declared.names.PageNo.{PageNo}
use Rattle.sd_base.proofs.Positions.{find_all}
use Rattle.frame_pool.specs.Frames.{frame_at}
use Rattle.space_map.specs.Image.{MapImage}
use Rattle.space_map.specs.PageImage.{map_page}
use Rattle.page_owner.specs.declared.owners.Own.{Own}
use Rattle.page_owner.specs.declared.owners.Own.TheVariants.{Nobody, Out, Parked}
use Rattle.page_owner.specs.Owners.{owner_of}
use Rattle.node_cache.specs.Cache.{is_cached, is_page}
use Rattle.node_cache.specs.Room.{IsOpenTo}
use Rattle.node_cache.proofs.Without.{shows_same}
use Rattle.script_text.specs.declared.reply.Reply.{Reply}
use Rattle.script_text.specs.declared.reply.Reply.TheVariants as says
use Rattle.record_machine.specs.Commands.{where_so}
use Rattle.store_nodes.specs.declared.node.Node.{Node}
use Rattle.store_nodes.specs.declared.node.Node.TheVariants.{Down, Idle, Up}
use Rattle.store_nodes.specs.declared.store.Store.{Store}
use Rattle.store_nodes.specs.Footprint.{KeepsPage, MadeRoom, TookPage}
use Rattle.store_nodes.specs.Known.{held_by, held_in}
use Rattle.store_nodes.specs.Nodes.{IsHeldBy, IsPlace, KeepsFramesOf, OnUp, is_up, node_at, pages_of}
use Rattle.store_nodes.specs.Pages.{HasCached, HasMap}
use Rattle.store_nodes.specs.Ports.{IsStopReply, SaysStopOf, StaysOrStops, UnlessStop}

-- ---- replies

-- a result that has such a reply says of the node that it stopped
pub says_of : {T : Type 0} (r : Result T Reply) (h : ℕ) (why : Reply) → IsErrAnd r (λ k. k ≡ why) → IsStopReply h why → SaysStopOf r h
says_of (Ok value) h why is stop = absurd is
says_of (Err k) h why is stop = subst (IsStopReply h) (sym is) stop

-- a node that was up, where it says so
pub stops_up : (says : Type 0) (a b : Node) → is_up a ≡ true → says → b ≡ Down → StaysOrStops says a b
stops_up says Idle b up said down = cc
stops_up says (Up c seats) b up said down = inr (said, down)
stops_up says Down b up said down = cc

-- ---- what follows of a call that was done, of one that wasn't, and of one in which no node stopped

pub on_done : {T E P Q : Type 0} (r : Result T E) → OnOk r P → (P → Q) → OnOk r Q
on_done (Ok x) p then = then p
on_done (Err why) p then = tt

pub on_error : {T E : Type 0} (r : Result T E) (P Q : E → Type 0) → IfErr r P → ((why : E) → P why → Q why) → IfErr r Q
on_error (Ok x) P Q p then = tt
on_error (Err why) P Q p then = then why p

pub on_live : {T P Q : Type 0} (r : Result T Reply) → UnlessStop r P → (P → Q) → UnlessStop r Q
on_live (Ok x) p then = then p
on_live (Err why) p then = λ live. then (p live)

-- ---- who has a page

-- a page that another node has isn't open to this one
pub not_open : (n h : NodeId) (own : Own) → h.0 ≢ n.0 → IsHeldBy h own → ¬ (IsOpenTo n own)
not_open n h Nobody far (inl held) opens = cc
not_open n h Nobody far (inr held) opens = cc
not_open n h (Parked k) far (inl held) (inl none) = cc
not_open n h (Parked k) far (inl held) (inr (inl here)) = far (let same : h ≡ n = cc in ap (λ (i : NodeId). i.0) same)
not_open n h (Parked k) far (inl held) (inr (inr out)) = cc
not_open n h (Parked k) far (inr held) opens = cc
not_open n h (Out k) far (inl held) opens = cc
not_open n h (Out k) far (inr held) (inl none) = cc
not_open n h (Out k) far (inr held) (inr (inl here)) = cc
not_open n h (Out k) far (inr held) (inr (inr out)) = far (let same : h ≡ n = cc in ap (λ (i : NodeId). i.0) same)

-- where a page is nobody's that no node had which is down, they have the pages that they had
pub held_given : (c d : Store) (x : PageNo) → x.0 < length c.shared.owners → d.shared.owners ≡ slice_set c.shared.owners x.0 Nobody → ((y : ℕ) (k : NodeId) → IsHeldBy k (owner_of c.shared.owners y) → IsPlace k.0) → ((k : ℕ) → IsPlace k → is_up (node_at d.nodes k) ≡ is_up (node_at c.nodes k))
    → held_in c x ≡ None → (y : PageNo) → held_in d y ≡ held_in c y
held_given c d x low owners known same free y = ap (λ os. held_by d y (owner_of os y.0)) owners ∙ elim (cases_eq y.0 x.0) [
  | inl here ↦
      let this : y ≡ x = ap (λ k. record { 0 = k }) here in
      ap (λ k. held_by d y (owner_of (slice_set c.shared.owners x.0 Nobody) k)) here ∙ ap (held_by d y) (get_or-set_same c.shared.owners x.0 Nobody Nobody low) ∙ sym free ∙ ap (held_in c) (sym this)
  | inr far ↦ ap (held_by d y) (get_or-set_other c.shared.owners x.0 y.0 Nobody Nobody far) ∙ each (owner_of c.shared.owners y.0) (λ k. known y.0 k)
]
  where
    each : (own : Own) → ((k : NodeId) → IsHeldBy k own → IsPlace k.0) → held_by d y own ≡ held_by c y own
    each Nobody places = refl
    each (Parked k) places = ap (λ o. where_so (not o) (says.Held y k)) (same k.0 (places k (inl refl)))
    each (Out k) places = ap (λ o. where_so (not o) (says.Held y k)) (same k.0 (places k (inr refl)))

-- ---- what the node has cached

-- a map page shows what it showed
pub map_apart : (pool pool' : List (Option (List ℕ))) (o : Node) (y : PageNo) (image : MapImage) → KeepsFramesOf (pages_of o) pool pool' → OnUp o (λ k seats. HasMap pool k.pages y image) → OnUp o (λ k seats. HasMap pool' k.pages y image)
map_apart pool pool' Idle y image kept was = tt
map_apart pool pool' Down y image kept was = tt
map_apart pool pool' (Up c seats) y image kept was = record {
  page = was.page;
  there = was.there;
  shows = shows_same pool pool' was.page.frame (map_page image) (find_all (λ q. frame_at pool' q.frame ≡ frame_at pool q.frame) (is_page y) c.pages was.page was.there kept) was.shows;
  number = was.number;
}

-- the node that takes the page makes room for it, and the one that gave it up may have written it
pub took_page : (n h : NodeId) (x : PageNo) (c d e : Store) (a b b' : ℕ → BlockState) → node_at d.nodes n.0 ≡ node_at c.nodes n.0 → d.shape ≡ c.shape → h.0 ≢ n.0 → IsHeldBy h (owner_of c.shared.owners x.0) → ((y : PageNo) → y.0 < page_count c.shape → y ≢ x → KeepsPage c.shape y a b) → MadeRoom n.0 x d e b b' → TookPage n x c e a b'
took_page n h x c d e a b b' same shape far held pages made = record {
  came = λ y has. elim (made.came y has) [ inl this ↦ inl this | inr there ↦ inr (before y there) ];
  full = λ full. made.full (subst (λ o. OnUp o (λ q seats. length q.pages ≡ 16)) (sym same) full);
  room = λ y low. elim (cases_eq y.0 x.0) [
    | inl this ↦ inr (inr (ap (λ k. record { 0 = k }) this, not_open n h (owner_of c.shared.owners x.0) far held))
    | inr other ↦
        let kept = pages y low (λ is. other (ap (λ (p : PageNo). p.0) is)) in
        elim (made.room y (subst (λ s. y.0 < page_count s) (sym shape) low)) [
          | inl still ↦ inl (subst (λ s. KeepsPage s y b b') shape still ∙ kept)
          | inr gone ↦ inr (inl (before y gone.0, gone.1, subst (λ s. s.maps ≤ x.0 → y ≢ map_of_data s x) shape gone.2))
        ]
  ];
}
  where
    before : (y : PageNo) → HasCached d n.0 y → HasCached c n.0 y
    before y has = subst (λ o. OnUp o (λ q seats. IsTrue (is_cached y q))) same has
