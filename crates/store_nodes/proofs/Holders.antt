-- Who holds the pages after a page was taken or given up.
use Rattle.std.specs.Prelude.{◌≡◌, ◌≢◌, ◌==◌, ◌<◌, ℕ, suc, Bool, true, false, not, List, [], ◌∷◌, Option, Some, None, All, length, slice_set, if◌then◌else◌, refl}
use Rattle.std.proofs.Common.{arith, inl, inr, ap, subst, sym, ◌∙◌, get_or-set_same, get_or-set_other, length-set}
use Rattle.std.proofs.lemmas.Bool.{cases_eq, cases_lt, eq-eqb, eqb-true}
use Rattle.std.proofs.Math.ListN.{get_or-eq_default}
use Rattle.sd_base.specs.declared.device.NodeId.{NodeId}
use Rattle.sd_base.specs.declared.names.PageNo.{PageNo}
use Rattle.page_owner.specs.declared.owners.Own.{Own}
use Rattle.page_owner.specs.declared.owners.Own.TheVariants.{Nobody, Out, Parked}
use Rattle.page_owner.specs.Owners.{owner_of}
use Rattle.node_cache.specs.Cache.{CachedPage, CacheState, is_changed}
use Rattle.node_cache.specs.Room.{IsOpenTo, parked}
use Rattle.script_text.specs.declared.reply.Reply.{Reply}
use Rattle.script_text.specs.declared.reply.Reply.TheVariants as says
use Rattle.txn_core.specs.Seats.{SeatsState}
use Rattle.record_machine.specs.Commands.{where_so}
use Rattle.record_machine.specs.Machine.{put}
use Rattle.store_nodes.specs.declared.node.Node.{Node}
use Rattle.store_nodes.specs.declared.node.Node.TheVariants.{Up}
use Rattle.store_nodes.specs.declared.store.Store.{Store}
use Rattle.store_nodes.specs.Known.{held_by, held_in}
use Rattle.store_nodes.specs.Nodes.{IsHeldBy, IsPlace, OnUp, is_up, node_at, with_node}
use Rattle.store_nodes.specs.Shows.{IsHolderUp, IsSettled, holder}
use Rattle.store_nodes.proofs.Eight.{at_other, at_same}
use Rattle.store_nodes.proofs.Others.{KeepsHeldBy}

-- ---- the holder of each page

-- where one page gets another owner
pub holder_set : (owners : List Own) (x : ℕ) (own : Own) → x < length owners → (y : ℕ) → holder (owner_of (slice_set owners x own) y) ≡ put x (holder own) (λ k. holder (owner_of owners k)) y
holder_set owners x own low y = elim (cases_eq y x) [
  | inl here ↦ let same : (y == x) ≡ true = eq-eqb y x here in rw same (ap (λ k. holder (owner_of (slice_set owners x own) k)) here ∙ ap holder (get_or-set_same owners x own Nobody low))
  | inr far ↦ by (y == x) refl far
]
  where
    by : (b : Bool) → (y == x) ≡ b → y ≢ x → holder (owner_of (slice_set owners x own) y) ≡ put x (holder own) (λ k. holder (owner_of owners k)) y
    by true same far = absurd (far (eqb-true y x same))
    by false other far = rw other (ap holder (get_or-set_other owners x y own Nobody far))

-- and what holds of one page holds of it where another one is put
pub put_at : (x : ℕ) (o : Option ℕ) (f g : ℕ → Option ℕ) (y : ℕ) → f y ≡ g y → put x o f y ≡ put x o g y
put_at x o f g y same = ap (λ v. if y == x then o else v) same

-- where it gets one that holds it already
holder_same : (owners : List Own) (x : ℕ) (own : Own) → holder own ≡ holder (owner_of owners x) → (y : ℕ) → holder (owner_of (slice_set owners x own) y) ≡ holder (owner_of owners y)
holder_same owners x own same y = elim (cases_eq y x) [
  | inl here ↦ elim (cases_lt x (length owners)) [
    | inl low ↦ ap (λ k. holder (owner_of (slice_set owners x own) k)) here ∙ ap holder (get_or-set_same owners x own Nobody low) ∙ same ∙ ap (λ k. holder (owner_of owners k)) (sym here)
    | inr past ↦
        let new = get_or-eq_default (slice_set owners x own) Nobody {n = y} (let long = length-set owners x own in omega (arith, past, long, here)) in
        let old = get_or-eq_default owners Nobody {n = y} (omega (arith, past, here)) in
        ap holder (new ∙ sym old)
  ]
  | inr far ↦ ap holder (get_or-set_other owners x y own Nobody far)
]

-- pages that their holders park
pub holder_parked : (left : List CachedPage) (owners : List Own) → All (λ p. holder (owner_of owners p.ticket.page.0) ≡ Some p.ticket.node.0) left → (y : ℕ) → holder (owner_of (parked left owners) y) ≡ holder (owner_of owners y)
holder_parked [] owners hold y = refl
holder_parked (p ∷ ps) owners hold y =
    let first = holder_same owners p.ticket.page.0 (Parked p.ticket.node) (sym (hold 0 p (omega arith))) in
    holder_parked ps (slice_set owners p.ticket.page.0 (Parked p.ticket.node)) (λ k d below. first _ ∙ hold (suc k) d (omega (arith, below))) y ∙ first y

-- a page that is taken, where pages are parked then
pub holder_taken : (owners : List Own) (x : ℕ) (n : NodeId) (own : Own) (left : List CachedPage) → x < length owners → holder own ≡ Some n.0 → All (λ p. p.ticket.node ≡ n) left → All (λ p. owner_of owners p.ticket.page.0 ≡ Out n) left
    → (y : ℕ) → holder (owner_of (parked left (slice_set owners x own)) y) ≡ put x (Some n.0) (λ k. holder (owner_of owners k)) y
holder_taken owners x n own left low is tickets mine y =
    holder_parked left (slice_set owners x own) (λ k d below. set _ ∙ here _ (mine k d below) ∙ ap (λ (i : NodeId). Some i.0) (sym (tickets k d below))) y ∙ set y
  where
    set : (k : ℕ) → holder (owner_of (slice_set owners x own) k) ≡ put x (Some n.0) (λ j. holder (owner_of owners j)) k
    set k = holder_set owners x own low k ∙ ap (λ o. put x o (λ j. holder (owner_of owners j)) k) is

    here : (k : ℕ) → owner_of owners k ≡ Out n → put x (Some n.0) (λ j. holder (owner_of owners j)) k ≡ Some n.0
    here k out = by (k == x) refl
      where
        by : (b : Bool) → (k == x) ≡ b → put x (Some n.0) (λ j. holder (owner_of owners j)) k ≡ Some n.0
        by true same = rw same refl
        by false other = rw other (ap holder out)

-- ---- pages that nodes have which are down

abbrev held_from : Store → PageNo → Option ℕ → Option Reply
held_from c y None = None
held_from c y (Some h) = where_so (not (is_up (node_at c.nodes h))) (says.Held y (record { 0 = h }))

held_is : (c : Store) (y : PageNo) (own : Own) → held_by c y own ≡ held_from c y (holder own)
held_is c y Nobody = refl
held_is c y (Parked h) = refl
held_is c y (Out h) = refl

-- where a page goes to a node that is up, which no node has that is down, they have the pages that they had
pub held_after : (c d : Store) (x : PageNo) (n : ℕ) → ((y : ℕ) → holder (owner_of d.shared.owners y) ≡ put x.0 (Some n) (λ k. holder (owner_of c.shared.owners k)) y) → ((y : ℕ) (k : NodeId) → IsHeldBy k (owner_of c.shared.owners y) → IsPlace k.0) → ((k : ℕ) → IsPlace k → is_up (node_at d.nodes k) ≡ is_up (node_at c.nodes k))
    → is_up (node_at d.nodes n) ≡ true → held_in c x ≡ None → (y : PageNo) → held_in d y ≡ held_in c y
held_after c d x n holds known same up free y = held_is d y (owner_of d.shared.owners y.0) ∙ ap (held_from d y) (holds y.0) ∙ by (y.0 == x.0) refl
  where
    by : (b : Bool) → (y.0 == x.0) ≡ b → held_from d y (put x.0 (Some n) (λ k. holder (owner_of c.shared.owners k)) y.0) ≡ held_in c y
    by true here =
        let this : y ≡ x = ap (λ k. record { 0 = k }) (eqb-true y.0 x.0 here) in
        let none : held_from d y (Some n) ≡ None = rw up refl in
        rw here (none ∙ sym free ∙ ap (held_in c) (sym this))
    by false other = rw other (each (owner_of c.shared.owners y.0) (λ k. known y.0 k))
      where
        each : (own : Own) → ((k : NodeId) → IsHeldBy k own → IsPlace k.0) → held_from d y (holder own) ≡ held_by c y own
        each Nobody places = refl
        each (Parked k) places = ap (λ o. where_so (not o) (says.Held y k)) (same k.0 (places k (inl refl)))
        each (Out k) places = ap (λ o. where_so (not o) (says.Held y k)) (same k.0 (places k (inr refl)))

-- a page that a node which is up may have no node has that is down
pub open_free : (c : Store) (x : PageNo) (n : NodeId) → is_up (node_at c.nodes n.0) ≡ true → IsOpenTo n (owner_of c.shared.owners x.0) → held_in c x ≡ None
open_free c x n up (inl nobody) = ap (held_by c x) nobody
open_free c x n up (inr (inl here)) = ap (held_by c x) here ∙ ap (λ o. where_so (not o) (says.Held x n)) up
open_free c x n up (inr (inr here)) = ap (held_by c x) here ∙ ap (λ o. where_so (not o) (says.Held x n)) up

-- ---- a page is settled as before, where the node is up still and had no changes of it

module _ (nodes : List Node) (owners owners' : List Own) (n : ℕ) (c d : CacheState) (seats after : SeatsState) (eight : length nodes ≡ 8) (place : IsPlace n) (up : node_at nodes n ≡ Up c seats) (kept : (m : ℕ) → m ≢ n → KeepsHeldBy m owners owners') where
  holder_earlier : (y : ℕ) (own : Own) → ((k : NodeId) → IsHeldBy k own → IsPlace k.0) → owner_of owners y ≡ own → IsHolderUp (with_node nodes n (Up d after)) (owner_of owners' y) → IsHolderUp nodes own
  holder_earlier y Nobody known is now = tt
  holder_earlier y (Parked k) known is now = elim (cases_eq k.0 n) [
    | inl same ↦ ap (λ j. is_up (node_at nodes j)) same ∙ ap is_up up
    | inr far ↦
        let there = (kept k.0 far y (Parked k) (inl refl)).1 is in
        let still : is_up (node_at (with_node nodes n (Up d after)) k.0) ≡ true = subst (IsHolderUp (with_node nodes n (Up d after))) there now in
        ap is_up (sym (at_other nodes n (Up d after) eight place k.0 (known k (inl refl)) far)) ∙ still
  ]
  holder_earlier y (Out k) known is now = elim (cases_eq k.0 n) [
    | inl same ↦ ap (λ j. is_up (node_at nodes j)) same ∙ ap is_up up
    | inr far ↦
        let there = (kept k.0 far y (Out k) (inr refl)).1 is in
        let still : is_up (node_at (with_node nodes n (Up d after)) k.0) ≡ true = subst (IsHolderUp (with_node nodes n (Up d after))) there now in
        ap is_up (sym (at_other nodes n (Up d after) eight place k.0 (known k (inr refl)) far)) ∙ still
  ]

  pub settled_earlier : (y : PageNo) → ((k : NodeId) → IsHeldBy k (owner_of owners y.0) → IsPlace k.0) → is_changed y c ≡ false → IsSettled (with_node nodes n (Up d after)) owners' y → IsSettled nodes owners y
  settled_earlier y known clean now = record {
    holder = holder_earlier y.0 (owner_of owners y.0) known refl now.holder;
    clean = λ k k_is. elim (cases_eq k n) [
      | inl here ↦ subst (λ j. OnUp (node_at nodes j) (λ e seats. is_changed y e ≡ false)) (sym here) (subst (λ o. OnUp o (λ e seats. is_changed y e ≡ false)) (sym up) clean)
      | inr far ↦ subst (λ o. OnUp o (λ e seats. is_changed y e ≡ false)) (at_other nodes n (Up d after) eight place k k_is far) (now.clean k k_is)
    ];
  }

  -- nor has the node changes of it after that
  pub clean_later : (y : PageNo) → IsSettled (with_node nodes n (Up d after)) owners' y → is_changed y d ≡ false
  clean_later y now = subst (λ o. OnUp o (λ e seats. is_changed y e ≡ false)) (at_same nodes n (Up d after) eight place) (now.clean n place)
