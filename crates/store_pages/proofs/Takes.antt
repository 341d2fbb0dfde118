-- What a fetch of one node leaves of a store.
use Rattle.std.specs.Prelude.{◌≡◌, ◌≢◌, ◌⊎◌, ◌+◌, ◌-◌, ◌*◌, ◌<◌, ◌≤◌, ℕ, zero, suc, List, [], ◌∷◌, Option, None, All, length, is_some, slice_index_or, slice_set, refl}
use Rattle.std.specs.List.{fold, sum_by}
use Rattle.std.proofs.Common.{arith, inl, inr, ap, subst, sym, ◌∙◌, get_or-set_other, length-set}
use Rattle.std.proofs.lemmas.Bool.{cases_lt}
use Rattle.std.proofs.lemmas.List.Elements.{All-push, All-nil}
use Rattle.std.proofs.Math.ListN.{get_or-eq_default}
use Rattle.sd_base.specs.declared.device.NodeId.{NodeId}
use Rattle.sd_base.specs.declared.names.PageNo.{PageNo}
use Rattle.sd_base.specs.declared.shape.Shape.{Shape}
use Rattle.frame_pool.specs.Frames.{IsOut, frame_at, free_count}
use Rattle.space_map.specs.declared.map_entry.MapEntry.{MapEntry}
use Rattle.page_owner.specs.declared.owners.Own.{Own}
use Rattle.page_owner.specs.declared.owners.Own.TheVariants.{Out, Parked}
use Rattle.page_owner.specs.Owners.{owner_of}
use Rattle.node_cache.specs.Cache.{AreOwned, CachedPage, CacheState, IsCache, is_page}
use Rattle.node_cache.specs.Room.{Arrived, IsEntryOf, IsOpenTo, Missed, freed, leaving, parked, staying}
use Rattle.node_cache.proofs.Leaving.{all_left, all_stay}
use Rattle.node_cache.proofs.Parking.{all_owned, length-parked}
use Rattle.txn_core.specs.Seats.{SeatsState}
use Rattle.store_nodes.specs.declared.node.Node.{Node}
use Rattle.store_nodes.specs.declared.node.Node.TheVariants.{Idle, Up, Down}
use Rattle.store_nodes.specs.Nodes.{AreApart, CanHalt, IsHeldBy, IsNode, IsPlace, IsStoreOf, IsStoreButOf, KeepsFramesOf, OnUp, cached, count_of, node_at, pages_of, with_node}
use Rattle.store_nodes.proofs.Eight.{same_there}
use Rattle.store_nodes.proofs.Others.{KeepsHeldBy, freed_others, held_before}
use Rattle.store_pages.proofs.Shares.{not_another, not_nobody, set_kept}
use Rattle.store_nodes.proofs.Works.{work_at}
use Rattle.node_cache.proofs.ChangedPages.{out_of_shown}
use Rattle.sd_base.proofs.Positions.{find_all}
use Rattle.sd_base.specs.Places.{map_of_data}
use Rattle.node_cache.proofs.Without.{shows_same}
use Rattle.space_map.specs.PageImage.{map_page}

-- ---- frames

module _ (s : Shape) (x : PageNo) (e : Option MapEntry) (c d : CacheState) (pool pool' : List (Option (List ℕ))) (qs : List CachedPage) (apart : AreApart c.pages qs) (out : All (λ q. IsOut pool q.frame) qs) where
  left_apart : AreApart (leaving s x c.pages) qs
  left_apart = all_left (λ p. All (λ q. p.frame ≢ q.frame) qs) s x c.pages apart

  stay_apart : AreApart (staying s x c.pages) qs
  stay_apart = all_stay (λ p. All (λ q. p.frame ≢ q.frame) qs) s x c.pages apart

  gone : KeepsFramesOf qs pool (freed (leaving s x c.pages) pool)
  gone = freed_others (leaving s x c.pages) qs pool left_apart

  module _ (a : Arrived s x e (staying s x c.pages) (freed (leaving s x c.pages) pool) d pool') where
    other : All (λ q. a.frame ≢ q.frame) qs
    other k i below same =
        let none = sym (gone k i below) ∙ sym (ap (frame_at (freed (leaving s x c.pages) pool)) same) ∙ a.free in
        let some = out k i below in
        let never = sym (ap is_some none) ∙ some in
        cc

    pub frames_arrived : KeepsFramesOf qs pool pool'
    frames_arrived k i below =
        ap (λ p. frame_at p (slice_index_or qs k i).frame) a.others
        ∙ get_or-set_other (freed (leaving s x c.pages) pool) a.frame (slice_index_or qs k i).frame (frame_at pool' a.frame) None (λ same. other k i below (sym same)) ∙ gone k i below

    pub apart_arrived : AreApart d.pages qs
    apart_arrived = subst (λ ps. AreApart ps qs) (sym a.last) (All-push (λ p. All (λ q. p.frame ≢ q.frame) qs) (staying s x c.pages) _ stay_apart other)

  pub frames_broken : (owners owners' : List Own) → Missed x [] c.pages pool owners d pool' owners' ⊎ Missed x (leaving s x c.pages) (staying s x c.pages) pool owners d pool' owners' → KeepsFramesOf qs pool pool'
  frames_broken owners owners' (inl m) = subst (λ p. KeepsFramesOf qs pool p) (sym m.pool) (λ k i below. refl)
  frames_broken owners owners' (inr m) = subst (λ p. KeepsFramesOf qs pool p) (sym m.pool) gone

  pub apart_broken : (owners owners' : List Own) → Missed x [] c.pages pool owners d pool' owners' ⊎ Missed x (leaving s x c.pages) (staying s x c.pages) pool owners d pool' owners' → AreApart d.pages qs
  apart_broken owners owners' (inl m) = subst (λ ps. AreApart ps qs) (sym m.pages) apart
  apart_broken owners owners' (inr m) = subst (λ ps. AreApart ps qs) (sym m.pages) stay_apart

-- ---- owners

parked_kept : (m : ℕ) (n : NodeId) (left : List CachedPage) (owners : List Own) → m ≢ n.0 → All (λ p. p.ticket.node ≡ n) left → All (λ p. ¬ (IsHeldBy (record { 0 = m }) (owner_of owners p.ticket.page.0))) left → KeepsHeldBy m owners (parked left owners)
parked_kept m n [] owners far tickets old y own held = (λ e. e, λ e. e)
parked_kept m n (p ∷ ps) owners far tickets old y own held =
    let after = slice_set owners p.ticket.page.0 (Parked p.ticket.node) in
    let first : KeepsHeldBy m owners after = set_kept m p.ticket.page.0 owners (Parked p.ticket.node) (not_another m n (Parked p.ticket.node) far (inl (ap Parked (tickets 0 p (omega arith))))) (old 0 p (omega arith)) in
    let rest = parked_kept m n ps after far (λ k d below. tickets (suc k) d (omega (arith, below))) (λ k d below now. old (suc k) d (omega (arith, below)) (held_before m owners after first _ now)) y own held in
    (λ e. (first y own held).0 (rest.0 e), λ e. rest.1 ((first y own held).1 e))

open_apart : (m : ℕ) (n : NodeId) (own : Own) → m ≢ n.0 → IsOpenTo n own → ¬ (IsHeldBy (record { 0 = m }) own)
open_apart m n own far (inl none) held = not_nobody m (subst (IsHeldBy (record { 0 = m })) none held)
open_apart m n own far (inr mine) held = not_another m n own far mine held

pub owner_fetched : (m : ℕ) (n : NodeId) (x : PageNo) (owners : List Own) (owns : Own) (left : List CachedPage) → m ≢ n.0 → IsHeldBy n owns → IsOpenTo n (owner_of owners x.0) → All (λ p. p.ticket.node ≡ n) left → All (λ p. owner_of owners p.ticket.page.0 ≡ Out n) left → KeepsHeldBy m owners (parked left (slice_set owners x.0 owns))
owner_fetched m n x owners owns left far is free tickets mine y own held =
    let first : KeepsHeldBy m owners (slice_set owners x.0 owns) = set_kept m x.0 owners owns (not_another m n owns far is) (open_apart m n (owner_of owners x.0) far free) in
    let rest = parked_kept m n left (slice_set owners x.0 owns) far tickets (λ k d below now. not_another m n _ far (inr (mine k d below)) (held_before m owners (slice_set owners x.0 owns) first _ now)) y own held in
    (λ e. (first y own held).0 (rest.0 e), λ e. rest.1 ((first y own held).1 e))

-- ---- there are frames enough

sum_from : (f : Node → ℕ) (a : ℕ) (os : List Node) → fold (λ b o. b + f o) a os ≡ a + sum_by f os
sum_from f a [] = omega arith
sum_from f a (o ∷ os) = (let here = sum_from f (a + f o) os in let first = sum_from f (0 + f o) os in omega (arith, here, first))

sum_first : (f : Node → ℕ) (o : Node) (os : List Node) → sum_by f (o ∷ os) ≡ f o + sum_by f os
sum_first f o os = (let first = sum_from f (0 + f o) os in omega (arith, first))

all_cached : (os : List Node) (k : ℕ) → ((i : ℕ) → count_of (slice_index_or os i Idle) ≤ 16) → ((i : ℕ) → k ≤ i → count_of (slice_index_or os i Idle) ≡ 0) → cached os ≤ 16 * k
all_cached [] k few none = omega arith
all_cached (o ∷ os) zero few none = (let first = sum_first count_of o os in let here = none 0 (omega arith) in let rest = all_cached os zero (λ i. few (suc i)) (λ i low. none (suc i) (omega arith)) in omega (arith, first, here, rest))
all_cached (o ∷ os) (suc k) few none = (let first = sum_first count_of o os in let here = few 0 in let rest = all_cached os k (λ i. few (suc i)) (λ i low. none (suc i) (omega (arith, low))) in omega (arith, first, here, rest))

most_cached : (os : List Node) (k j : ℕ) → j < k → ((i : ℕ) → count_of (slice_index_or os i Idle) ≤ 16) → ((i : ℕ) → k ≤ i → count_of (slice_index_or os i Idle) ≡ 0) → cached os + 16 ≤ 16 * k + count_of (slice_index_or os j Idle)
most_cached [] k j low few none = omega (arith, low)
most_cached (o ∷ os) zero j low few none = absurd (omega (arith, low))
most_cached (o ∷ os) (suc k) zero low few none = (let first = sum_first count_of o os in let rest = all_cached os k (λ i. few (suc i)) (λ i high. none (suc i) (omega (arith, high))) in omega (arith, first, rest))
most_cached (o ∷ os) (suc k) (suc j) low few none = (let first = sum_first count_of o os in let here = few 0 in let rest = most_cached os k j (omega (arith, low)) (λ i. few (suc i)) (λ i high. none (suc i) (omega (arith, high))) in omega (arith, first, here, rest))

pub room_at : (s : Shape) (pool : List (Option (List ℕ))) (owners : List Own) (nodes : List Node) (n : ℕ) (c : CacheState) (seats : SeatsState) → IsStoreOf s pool owners nodes → IsPlace n → n ≤ s.nodes → node_at nodes n ≡ Up c seats → 16 ≤ free_count pool + length c.pages
room_at s pool owners nodes n c seats is place low up =
    let first = place.0 in
    let most = most_cached nodes s.nodes (n - 1) (omega (arith, first, low)) few none in
    let here : count_of (node_at nodes n) ≡ length c.pages = ap count_of up in
    let frames = is.shared.frames in
    omega (arith, most, here, frames)
  where
    few_of : (o : Node) (m : ℕ) → IsNode s pool owners m o → count_of o ≤ 16
    few_of Idle m was = omega arith
    few_of Down m was = omega arith
    few_of (Up d after) m was = was.cache.few

    none_of : (o : Node) (m : ℕ) → s.nodes < m → IsNode s pool owners m o → count_of o ≡ 0
    none_of Idle m high was = refl
    none_of Down m high was = refl
    none_of (Up d after) m high was = (let number = was.number in let last = was.store.node.1 in absurd (omega (arith, high, number, last)))

    here : (i : ℕ) → i < 8 → IsNode s pool owners (i + 1) (slice_index_or nodes i Idle)
    here i low = let same : (i + 1) - 1 ≡ i = omega arith in subst (λ j. IsNode s pool owners (i + 1) (slice_index_or nodes j Idle)) same (is.is (i + 1) (omega arith, omega (arith, low)))

    few : (i : ℕ) → count_of (slice_index_or nodes i Idle) ≤ 16
    few i = elim (cases_lt i 8) [
      | inl low ↦ few_of (slice_index_or nodes i Idle) (i + 1) (here i low)
      | inr past ↦ (let empty = ap count_of (get_or-eq_default nodes Idle {n = i} (let eight = is.shared.eight in omega (arith, eight, past))) in omega (arith, empty))
    ]

    none : (i : ℕ) → s.nodes ≤ i → count_of (slice_index_or nodes i Idle) ≡ 0
    none i high = elim (cases_lt i 8) [
      | inl low ↦ none_of (slice_index_or nodes i Idle) (i + 1) (omega (arith, high)) (here i low)
      | inr past ↦ ap count_of (get_or-eq_default nodes Idle {n = i} (let eight = is.shared.eight in omega (arith, eight, past)))
    ]

-- ---- the store after it

-- the pages of a cache are out at its node
pub all_out : (owners : List Own) (n : NodeId) (c : CacheState) → c.node ≡ n → IsCache c.node c.pages → AreOwned owners c → All (λ p. owner_of owners p.ticket.page.0 ≡ Out n) c.pages
all_out owners n c name cache owned k d low = all_owned c owners cache.own owned k d low ∙ ap Out (cache.own k d low ∙ name)

-- a store of which a node that is up may be halted
pub but_of : (s : Shape) (pool : List (Option (List ℕ))) (owners : List Own) (nodes : List Node) (n : ℕ) (c : CacheState) (seats : SeatsState) → IsPlace n → node_at nodes n ≡ Up c seats → IsStoreOf s pool owners nodes → IsStoreButOf n s pool owners nodes
but_of s pool owners nodes n c seats place up is =
    let work = work_at s pool owners nodes n c seats place up is in
    record {
      shared = is.shared;
      ends = subst (CanHalt s pool owners n) (sym up) (record { number = work.number; known = (let number = work.number in let last = work.store.node.1 in omega (arith, number, last)); cache = work.cache; out = out_of_shown s pool c work.shown; owned = work.owned });
      others = λ m other far. is.is m other;
    }

-- the frames of a node's pages are out
pub out_at : (s : Shape) (pool : List (Option (List ℕ))) (owners : List Own) (m : ℕ) (o : Node) → IsNode s pool owners m o → All (λ q. IsOut pool q.frame) (pages_of o)
out_at s pool owners m Idle was = All-nil (λ q. IsOut pool q.frame)
out_at s pool owners m Down was = All-nil (λ q. IsOut pool q.frame)
out_at s pool owners m (Up c seats) was = out_of_shown s pool c was.shown

-- a page that was cached already
pub store_hit : (s : Shape) (pool : List (Option (List ℕ))) (owners : List Own) (nodes : List Node) (n : ℕ) (c d : CacheState) (seats : SeatsState) → length nodes ≡ 8 → IsPlace n → node_at nodes n ≡ Up c seats → d ≡ c → IsStoreOf s pool owners nodes → IsStoreOf s pool owners (with_node nodes n (Up d seats))
store_hit s pool owners nodes n c d seats eight place up same is = subst (IsStoreOf s pool owners) (sym (ap (with_node nodes n) (ap (λ e. Up e seats) same ∙ sym up) ∙ same_there nodes n eight place)) is

-- the table after a fetch that brought nothing in
pub long_broken : (s : Shape) (x : PageNo) (pool pool' : List (Option (List ℕ))) (owners owners' : List Own) (c d : CacheState) → Missed x [] c.pages pool owners d pool' owners' ⊎ Missed x (leaving s x c.pages) (staying s x c.pages) pool owners d pool' owners' → length owners' ≡ length owners
long_broken s x pool pool' owners owners' c d (inl m) = ap length m.parks ∙ length-set owners x.0 _
long_broken s x pool pool' owners owners' c d (inr m) = ap length m.parks ∙ length-parked (leaving s x c.pages) _ ∙ length-set owners x.0 _

pub owner_broken : (m : ℕ) (n : NodeId) (s : Shape) (x : PageNo) (pool pool' : List (Option (List ℕ))) (owners owners' : List Own) (c d : CacheState) → m ≢ n.0 → d.node ≡ n → IsOpenTo n (owner_of owners x.0) → All (λ p. p.ticket.node ≡ n) (leaving s x c.pages) → All (λ p. owner_of owners p.ticket.page.0 ≡ Out n) (leaving s x c.pages)
    → Missed x [] c.pages pool owners d pool' owners' ⊎ Missed x (leaving s x c.pages) (staying s x c.pages) pool owners d pool' owners' → KeepsHeldBy m owners owners'
owner_broken m n s x pool pool' owners owners' c d far name free tickets mine (inl w) = subst (KeepsHeldBy m owners) (sym w.parks) (owner_fetched m n x owners (Parked d.node) [] far (inl (ap Parked name)) free (All-nil (λ p. p.ticket.node ≡ n)) (All-nil (λ p. owner_of owners p.ticket.page.0 ≡ Out n)))
owner_broken m n s x pool pool' owners owners' c d far name free tickets mine (inr w) = subst (KeepsHeldBy m owners) (sym w.parks) (owner_fetched m n x owners (Parked d.node) (leaving s x c.pages) far (inl (ap Parked name)) free tickets mine)

-- ---- an entry in a cached map page

pub entry_kept : (s : Shape) (pool pool' : List (Option (List ℕ))) (o : Node) (x : PageNo) (e : Option MapEntry) → KeepsFramesOf (pages_of o) pool pool' → OnUp o (λ c seats. IsEntryOf s pool c x e) → OnUp o (λ c seats. IsEntryOf s pool' c x e)
entry_kept s pool pool' Idle x e kept was = tt
entry_kept s pool pool' Down x e kept was = tt
entry_kept s pool pool' (Up c seats) x e kept was = record {
  none = was.none;
  some = λ far. let is = was.some far in (is.0, is.1, is.2, shows_same pool pool' is.0.frame (map_page is.1) (find_all (λ q. frame_at pool' q.frame ≡ frame_at pool q.frame) (is_page (map_of_data s x)) c.pages is.0 is.2 kept) is.3, is.4);
}
