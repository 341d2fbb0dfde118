-- The eight nodes, where another one stands at a place.
use Rattle.std.specs.Prelude.{◌≡◌, ◌≢◌, ◌+◌, ◌-◌, ℕ, zero, suc, List, [], ◌∷◌, Option, length, slice_index_or, slice_set, refl}
use Rattle.std.proofs.Common.{arith, inl, inr, ap, subst, sym, ◌∙◌, get_or-set_same, get_or-set_other}
use Rattle.std.proofs.lemmas.Bool.{cases_eq}
use Rattle.std.proofs.lemmas.List.{get_or_default}
use Rattle.std.proofs.lemmas.List.Sums.{sum_by-set}
use Rattle.node_cache.specs.Cache.{CachedPage}
use Rattle.store_nodes.specs.declared.node.Node.{Node}
use Rattle.store_nodes.specs.declared.node.Node.TheVariants.{Idle}
use Rattle.store_nodes.specs.Nodes.{AreApart, IsPlace, KeepsFramesBut, KeepsFramesOf, OthersStay, cached, count_of, node_at, pages_of, with_node}

module _ (nodes : List Node) (n : ℕ) (node : Node) (eight : length nodes ≡ 8) (place : IsPlace n) where
  pub at_same : node_at (with_node nodes n node) n ≡ node
  at_same = get_or-set_same nodes (n - 1) node Idle (let low = place.0 in let high = place.1 in omega (arith, eight, low, high))

  pub at_other : (m : ℕ) → IsPlace m → m ≢ n → node_at (with_node nodes n node) m ≡ node_at nodes m
  at_other m other apart = get_or-set_other nodes (n - 1) (m - 1) node Idle (λ same. apart (let low = place.0 in let first = other.0 in omega (arith, low, first, same)))

  pub others_stay : OthersStay n nodes (with_node nodes n node)
  others_stay m other apart = at_other m other apart

  pub cached_with : cached (with_node nodes n node) + count_of (node_at nodes n) ≡ cached nodes + count_of node
  cached_with = sum_by-set count_of nodes (n - 1) node Idle (let low = place.0 in let high = place.1 in omega (arith, eight, low, high))

  -- what holds of it, and of each other one, holds of each
  pub each_with : (P : ℕ → Node → Type 0) → P n node → ((m : ℕ) → IsPlace m → m ≢ n → P m (node_at nodes m)) → (m : ℕ) → IsPlace m → P m (node_at (with_node nodes n node) m)
  each_with P here others m is = elim (cases_eq m n) [
    | inl same ↦ subst (λ k. P k (node_at (with_node nodes n node) k)) (sym same) (subst (P n) (sym at_same) here)
    | inr apart ↦ subst (P m) (sym (at_other m is apart)) (others m is apart)
  ]

-- the node that stands at a place
pub found_at : (nodes : List Node) (n i : ℕ) (d node : Node) → length nodes ≡ 8 → IsPlace n → i ≡ n - 1 → slice_index_or nodes i d ≡ node → node_at nodes n ≡ node
found_at nodes n i d node eight place is at =
    get_or_default nodes (n - 1) Idle d (let low = place.0 in let high = place.1 in omega (arith, eight, low, high)) ∙ ap (λ k. slice_index_or nodes k d) (sym is) ∙ at

-- pages that are apart are so either way
pub apart_back : (ps qs : List CachedPage) → AreApart ps qs → AreApart qs ps
apart_back ps qs apart j e low k d below same = apart k d below j e low (sym same)

pub apart_none : (ps : List CachedPage) → AreApart [] ps
apart_none ps k d below = absurd (omega (arith, below))

-- the nodes are apart still, where the pages of the one that stands at the place now are apart from the others'
pub apart_with : (nodes : List Node) (n : ℕ) (node : Node) → length nodes ≡ 8 → IsPlace n → ((m : ℕ) → IsPlace m → m ≢ n → AreApart (pages_of node) (pages_of (node_at nodes m)))
    → ((k m : ℕ) → IsPlace k → IsPlace m → k ≢ m → AreApart (pages_of (node_at nodes k)) (pages_of (node_at nodes m)))
    → (k m : ℕ) → IsPlace k → IsPlace m → k ≢ m → AreApart (pages_of (node_at (with_node nodes n node) k)) (pages_of (node_at (with_node nodes n node) m))
apart_with nodes n node eight place here apart k m is other differ = elim (cases_eq k n) [
  | inl same ↦
      let far : m ≢ n = λ e. differ (same ∙ sym e) in
      subst (λ o. AreApart (pages_of o) (pages_of (node_at (with_node nodes n node) m))) (sym (ap (node_at (with_node nodes n node)) same ∙ at_same nodes n node eight place))
      (subst (λ o. AreApart (pages_of node) (pages_of o)) (sym (at_other nodes n node eight place m other far)) (here m other far))
  | inr far ↦ subst (λ o. AreApart (pages_of o) (pages_of (node_at (with_node nodes n node) m))) (sym (at_other nodes n node eight place k is far)) (elim (cases_eq m n) [
    | inl same ↦ subst (λ o. AreApart (pages_of (node_at nodes k)) (pages_of o)) (sym (ap (node_at (with_node nodes n node)) same ∙ at_same nodes n node eight place)) (apart_back _ _ (here k is far))
    | inr apart' ↦ subst (λ o. AreApart (pages_of (node_at nodes k)) (pages_of o)) (sym (at_other nodes n node eight place m other apart')) (apart k m is other differ)
  ])
]

-- the frames of all others, where another node stands at the place
pub frames_but : (nodes : List Node) (n : ℕ) (node : Node) (old new : List (Option (List ℕ))) → length nodes ≡ 8 → IsPlace n → KeepsFramesBut n (with_node nodes n node) old new → KeepsFramesBut n nodes old new
frames_but nodes n node old new eight place keeps m is far = subst (λ o. KeepsFramesOf (pages_of o) old new) (at_other nodes n node eight place m is far) (keeps m is far)

-- the node that stands there already
pub same_there : (nodes : List Node) (n : ℕ) → length nodes ≡ 8 → IsPlace n → with_node nodes n (node_at nodes n) ≡ nodes
same_there nodes n eight place = by nodes (n - 1)
  where
    by : (os : List Node) (i : ℕ) → slice_set os i (slice_index_or os i Idle) ≡ os
    by [] i = refl
    by (o ∷ os) zero = refl
    by (o ∷ os) (suc i) = ap (λ rest. o ∷ rest) (by os i)
