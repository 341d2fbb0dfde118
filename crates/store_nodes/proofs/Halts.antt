-- What is left of a store when a node goes down.
use Rattle.std.specs.Prelude.{◌≡◌, ◌≢◌, ◌==◌, Bool, if◌then◌else◌, ◌↔◌, ◌+◌, ◌-◌, ◌<◌, ℕ, true, false, List, [], Option, All, length, replicate, refl}
use Rattle.std.proofs.Common.{arith, inl, inr, ap, subst, sym, ◌∙◌, length-set}
use Rattle.std.proofs.lemmas.Bool.{cases_lt, eqb-true}
use Rattle.std.proofs.lemmas.List.{get_or-replicate, length-replicate}
use Rattle.std.proofs.lemmas.List.Folds.{list_any_at}
use Rattle.std.proofs.Math.ListN.{get_or-eq_default}
use Rattle.sd_base.specs.declared.device.NodeId.{NodeId}
use Rattle.sd_base.specs.declared.shape.Shape.{Shape}
use Rattle.frame_pool.specs.Frames.{frame_at, free_count}
use Rattle.page_owner.specs.declared.owners.Own.{Own}
use Rattle.page_owner.specs.declared.owners.Own.TheVariants.{Nobody, Out, Parked}
use Rattle.page_owner.specs.Owners.{owner_of}
use Rattle.node_cache.specs.Cache.{CacheState}
use Rattle.node_cache.specs.Room.{freed, given_up, parked}
use Rattle.node_cache.proofs.Parking.{length-parked}
use Rattle.txn_core.specs.Seats.{SeatsState}
use Rattle.store_nodes.specs.declared.node.Node.{Node}
use Rattle.store_nodes.specs.declared.node.Node.TheVariants.{Idle, Up, Down}
use Rattle.store_nodes.specs.Nodes.{AreApart, AreShared, CanEnd, CanHalt, IsHeldBy, IsNode, IsPlace, IsStopped, IsStoreButOf, IsStoreOf, KeepsFramesBut, any_up, count_of, is_up, node_at, pages_of, with_node}
use Rattle.store_nodes.proofs.Eight.{apart_none, apart_with, cached_with, each_with}
use Rattle.store_nodes.proofs.Others.{freed_others, given_held, given_other, given_out, node_stays}

-- a node that had a cache, which was ended
pub store_ended : (s : Shape) (pool pool' : List (Option (List ℕ))) (owners owners' : List Own) (nodes : List Node) (n : NodeId) (c : CacheState) (seats : SeatsState) → IsPlace n.0 → node_at nodes n.0 ≡ Up c seats → IsStoreButOf n.0 s pool owners nodes
    → pool' ≡ freed c.pages pool → free_count pool' ≡ free_count pool + length c.pages → owners' ≡ parked c.pages owners → ((x : ℕ) → owner_of owners' x ≡ given_up c.node (owner_of owners x)) → IsStoreOf s pool' owners' (with_node nodes n.0 Down)
store_ended s pool pool' owners owners' nodes n c seats place up was frames counted table given = record {
  shared = record {
    shape = all.shape;
    table = (let old = all.table in let long = ap length table ∙ length-parked c.pages owners in omega (arith, old, long));
    eight = length-set nodes (n.0 - 1) Down ∙ all.eight;
    frames = (let old = all.frames in let sum = cached_with nodes n.0 Down all.eight place in let count : count_of (node_at nodes n.0) ≡ length c.pages = ap count_of up in omega (arith, old, sum, count, counted));
    apart = apart_with nodes n.0 Down all.eight place (λ m other far. apart_none (pages_of (node_at nodes m))) all.apart;
    holders = λ x m held. all.holders x m (given_held c.node (owner_of owners x) m (subst (IsHeldBy m) (given x) held));
  };
  is = each_with nodes n.0 Down all.eight place (IsNode s pool' owners') (record { known = ends.known; none = λ x out. (given_out c.node (owner_of owners x) (record { 0 = n.0 }) (sym (given x) ∙ out)).1 (sym ends.number) })
      (λ m other far. node_stays s pool pool' owners owners' m (node_at nodes m)
      (subst (λ p. All (λ q. frame_at p q.frame ≡ frame_at pool q.frame) (pages_of (node_at nodes m))) (sym frames) (freed_others c.pages (pages_of (node_at nodes m)) pool (subst (λ ps. AreApart ps (pages_of (node_at nodes m))) (ap pages_of up) (all.apart n.0 m place other (λ e. far (sym e))))))
      (λ x own held. subst (λ o. (o ≡ own) ↔ (owner_of owners x ≡ own)) (sym (given x)) (given_other c.node own (owner_of owners x) m (λ e. far (e ∙ ends.number)) held)) (was.others m other far));
}
  where
    all : AreShared s pool owners nodes
    all = was.shared

    ends : CanEnd s pool owners n.0 c
    ends = subst (CanHalt s pool owners n.0) up was.ends

-- the frames of all others stay
pub frames_ended : (s : Shape) (pool : List (Option (List ℕ))) (owners : List Own) (nodes : List Node) (n : ℕ) (c : CacheState) (seats : SeatsState) → IsPlace n → node_at nodes n ≡ Up c seats → AreShared s pool owners nodes → KeepsFramesBut n nodes pool (freed c.pages pool)
frames_ended s pool owners nodes n c seats place up all m other far = freed_others c.pages (pages_of (node_at nodes m)) pool (subst (λ ps. AreApart ps (pages_of (node_at nodes m))) (ap pages_of up) (all.apart n m place other (λ e. far (sym e))))

-- a node that had none
pub store_downed : (s : Shape) (pool : List (Option (List ℕ))) (owners : List Own) (nodes : List Node) (n : NodeId) → IsPlace n.0 → is_up (node_at nodes n.0) ≡ false → IsStoreButOf n.0 s pool owners nodes → IsStoreOf s pool owners (with_node nodes n.0 Down)
store_downed s pool owners nodes n place down was = record {
  shared = record {
    shape = all.shape;
    table = all.table;
    eight = length-set nodes (n.0 - 1) Down ∙ all.eight;
    frames = (let old = all.frames in let sum = cached_with nodes n.0 Down all.eight place in let count = none (node_at nodes n.0) down in omega (arith, old, sum, count));
    apart = apart_with nodes n.0 Down all.eight place (λ m other far. apart_none (pages_of (node_at nodes m))) all.apart;
    holders = all.holders;
  };
  is = each_with nodes n.0 Down all.eight place (IsNode s pool owners) (rests (node_at nodes n.0) down was.ends) was.others;
}
  where
    all : AreShared s pool owners nodes
    all = was.shared

    none : (node : Node) → is_up node ≡ false → count_of node ≡ 0
    none Idle down = refl
    none (Up c seats) down = cc
    none Down down = refl

    rests : (node : Node) → is_up node ≡ false → CanHalt s pool owners n.0 node → IsStopped s owners n.0
    rests Idle down was = was
    rests (Up c seats) down was = cc
    rests Down down was = was

-- it had no page, and no ticket was out at it
pub none_cached : (node : Node) → is_up node ≡ false → pages_of node ≡ []
none_cached Idle down = refl
none_cached (Up c seats) down = cc
none_cached Down down = refl

pub given_none : (s : Shape) (pool : List (Option (List ℕ))) (owners : List Own) (nodes : List Node) (n : NodeId) → is_up (node_at nodes n.0) ≡ false → IsStoreButOf n.0 s pool owners nodes → (x : ℕ) → owner_of owners x ≡ given_up n (owner_of owners x)
given_none s pool owners nodes n down was x = by (owner_of owners x) (rests (node_at nodes n.0) down was.ends)
  where
    rests : (node : Node) → is_up node ≡ false → CanHalt s pool owners n.0 node → owner_of owners x ≢ Out (record { 0 = n.0 })
    rests Idle down was = was.none x
    rests (Up c seats) down was = cc
    rests Down down was = was.none x

    by : (own : Own) → own ≢ Out (record { 0 = n.0 }) → own ≡ given_up n own
    by Nobody none = refl
    by (Parked k) none = refl
    by (Out k) none = out (k.0 == n.0) refl
      where
        out : (b : Bool) → (k.0 == n.0) ≡ b → Out k ≡ (if b then Parked k else Out k)
        out true is = absurd (none (ap (λ i. Out (record { 0 = i })) (eqb-true k.0 n.0 is)))
        out false is = refl

-- ---- where no node is up

-- no ticket is out
pub none_out : (s : Shape) (pool : List (Option (List ℕ))) (owners : List Own) (nodes : List Node) → any_up nodes ≡ false → IsStoreOf s pool owners nodes → (x : ℕ) (m : NodeId) → owner_of owners x ≢ Out m
none_out s pool owners nodes none is x m out =
    let place = is.shared.holders x m (inr out) in
    by (node_at nodes m.0) refl place (is.is m.0 place)
  where
    low : IsPlace m.0 → m.0 - 1 < length nodes
    low place = (let eight = is.shared.eight in let first = place.0 in let last = place.1 in omega (arith, eight, first, last))

    by : (node : Node) → node_at nodes m.0 ≡ node → IsPlace m.0 → IsNode s pool owners m.0 node → ⊥
    by Idle at place rest = rest x (inr out)
    by Down at place stopped = stopped.none x out
    by (Up c seats) at place work = let some : any_up nodes ≡ true = list_any_at is_up nodes (m.0 - 1) Idle (low place) (ap is_up at) in absurd cc

-- a table of pages that are nobody's
pub all_nobody : (n x : ℕ) → owner_of (replicate n Nobody) x ≡ Nobody
all_nobody n x = elim (cases_lt x n) [
  | inl near ↦ get_or-replicate n x Nobody Nobody near
  | inr far ↦ get_or-eq_default (replicate n Nobody) Nobody (omega (arith, far, length-replicate n Nobody))
]

pub store_lost : (s : Shape) (pool : List (Option (List ℕ))) (owners owners' : List Own) (nodes : List Node) → any_up nodes ≡ false → owners' ≡ replicate (length owners) Nobody → IsStoreOf s pool owners nodes → IsStoreOf s pool owners' nodes
store_lost s pool owners owners' nodes none nobody was = record {
  shared = record {
    shape = was.shared.shape;
    table = (let old = was.shared.table in let long = ap length nobody ∙ length-replicate (length owners) Nobody in omega (arith, old, long));
    eight = was.shared.eight;
    frames = was.shared.frames;
    apart = was.shared.apart;
    holders = λ x m held. absurd (never x m held);
  };
  is = λ n place. by n (node_at nodes n) refl place (was.is n place);
}
  where
    is_nobody : (x : ℕ) → owner_of owners' x ≡ Nobody
    is_nobody x = ap (λ os. owner_of os x) nobody ∙ all_nobody (length owners) x

    never : (x : ℕ) (m : NodeId) → ¬ (IsHeldBy m (owner_of owners' x))
    never x m (inl parked) = let is = is_nobody x in cc
    never x m (inr out) = let is = is_nobody x in cc

    by : (n : ℕ) (node : Node) → node_at nodes n ≡ node → IsPlace n → IsNode s pool owners n node → IsNode s pool owners' n node
    by n Idle at place rest = λ x. never x (record { 0 = n })
    by n Down at place stopped = record { known = stopped.known; none = λ x out. never x (record { 0 = n }) (inr out) }
    by n (Up c seats) at place work =
        let low : n - 1 < length nodes = (let eight = was.shared.eight in let first = place.0 in let last = place.1 in omega (arith, eight, first, last)) in
        let some : any_up nodes ≡ true = list_any_at is_up nodes (n - 1) Idle low (ap is_up at) in
        absurd cc
