-- What a call of one node that takes or gives pages leaves of a store.
use Rattle.std.specs.Prelude.{◌≡◌, ◌≢◌, ◌+◌, ◌-◌, ℕ, List, [], ◌∷◌, Option, Some, None, All, length, slice_set, refl}
use Rattle.std.specs.List.{cons_option, remove}
use Rattle.std.proofs.Common.{arith, inl, inr, ap, subst, sym, ◌∙◌, get_or-set_same, get_or-set_other, length-set}
use Rattle.std.proofs.lemmas.Bool.{cases_eq, cases_lt}
use Rattle.std.proofs.lemmas.List.Elements.{All-cons, All-nil}
use Rattle.std.proofs.Math.ListN.{get_or-eq_default}
use Rattle.sd_base.specs.declared.device.NodeId.{NodeId}
use Rattle.sd_base.specs.declared.names.PageNo.{PageNo}
use Rattle.sd_base.specs.declared.shape.Shape.{Shape}
use Rattle.frame_pool.specs.Frames.{frame_at, free_count}
use Rattle.page_owner.specs.declared.owners.Own.{Own}
use Rattle.page_owner.specs.declared.owners.Own.TheVariants.{Nobody, Out, Parked}
use Rattle.page_owner.specs.Owners.{owner_of}
use Rattle.node_cache.specs.Cache.{CachedPage, CacheState, is_page, page_at, place_of}
use Rattle.node_cache.specs.Room.{freed, without_page}
use Rattle.node_cache.proofs.Finding.{all_at, got}
use Rattle.node_cache.proofs.Giving.{page_placed}
use Rattle.node_cache.proofs.Without.{all_without}
use Rattle.sd_base.proofs.Positions.{not_placed}
use Rattle.txn_core.specs.Seats.{SeatsState}
use Rattle.store_nodes.specs.declared.node.Node.{Node}
use Rattle.store_nodes.specs.declared.node.Node.TheVariants.{Up}
use Rattle.store_nodes.specs.Nodes.{AreApart, IsAtWork, IsHeldBy, IsNode, IsPlace, IsStoreOf, KeepsFramesBut, count_of, node_at, pages_of, with_node}
use Rattle.store_nodes.proofs.Eight.{apart_with, cached_with, each_with}
use Rattle.store_nodes.proofs.Others.{KeepsHeldBy, freed_others, held_before, node_stays}

-- a node whose call leaves the frames and the pages of all others
pub store_worked : (s : Shape) (pool pool' : List (Option (List ℕ))) (owners owners' : List Own) (nodes : List Node) (n : ℕ) (c d : CacheState) (seats after : SeatsState) → IsPlace n → node_at nodes n ≡ Up c seats → IsStoreOf s pool owners nodes
    → IsAtWork s pool' owners' n d after → free_count pool' + length d.pages ≡ free_count pool + length c.pages → length owners' ≡ length owners
    → KeepsFramesBut n nodes pool pool' → ((m : ℕ) → m ≢ n → KeepsHeldBy m owners owners') → ((m : ℕ) → IsPlace m → m ≢ n → AreApart d.pages (pages_of (node_at nodes m)))
    → IsStoreOf s pool' owners' (with_node nodes n (Up d after))
store_worked s pool pool' owners owners' nodes n c d seats after place up was work counted long frames own apart =
    let all = was.shared in
    record {
      shared = record {
        shape = all.shape;
        table = (let old = all.table in omega (arith, old, long));
        eight = length-set nodes (n - 1) (Up d after) ∙ all.eight;
        frames = (let old = all.frames in let sum = cached_with nodes n (Up d after) all.eight place in let count : count_of (node_at nodes n) ≡ length c.pages = ap count_of up in omega (arith, old, sum, count, counted));
        apart = apart_with nodes n (Up d after) all.eight place apart all.apart;
        holders = λ x m held. elim (cases_eq m.0 n) [
          | inl same ↦ subst IsPlace (sym same) place
          | inr far ↦ all.holders x m (held_before m.0 owners owners' (own m.0 far) x held)
        ];
      };
      is = each_with nodes n (Up d after) all.eight place (IsNode s pool' owners') work (λ m other far. node_stays s pool pool' owners owners' m (node_at nodes m) (frames m other far) (own m far) (was.is m other));
    }

-- ---- a page that is given up

pub not_nobody : (m : ℕ) → ¬ (IsHeldBy (record { 0 = m }) Nobody)
not_nobody m (inl parked) = cc
not_nobody m (inr out) = cc

-- what one node holds no other one does
pub not_another : (m : ℕ) (n : NodeId) (own : Own) → m ≢ n.0 → IsHeldBy n own → ¬ (IsHeldBy (record { 0 = m }) own)
not_another m n own far (inl a) (inl b) = (let both : Parked n ≡ Parked (record { 0 = m }) = sym a ∙ b in let same : n ≡ record { 0 = m } = cc in far (sym (ap (λ (i : NodeId). i.0) same)))
not_another m n own far (inl a) (inr b) = (let both : Parked n ≡ Out (record { 0 = m }) = sym a ∙ b in cc)
not_another m n own far (inr a) (inl b) = (let both : Out n ≡ Parked (record { 0 = m }) = sym a ∙ b in cc)
not_another m n own far (inr a) (inr b) = (let both : Out n ≡ Out (record { 0 = m }) = sym a ∙ b in let same : n ≡ record { 0 = m } = cc in far (sym (ap (λ (i : NodeId). i.0) same)))

-- a page that no other node had, and no other node has: what they hold is what they held
pub set_kept : (m x : ℕ) (owners : List Own) (own : Own) → ¬ (IsHeldBy (record { 0 = m }) own) → ¬ (IsHeldBy (record { 0 = m }) (owner_of owners x)) → KeepsHeldBy m owners (slice_set owners x own)
set_kept m x owners own new old y any held = elim (cases_eq y x) [
  | inl here ↦
      let was : owner_of owners y ≡ any → ⊥ = λ e. old (subst (IsHeldBy (record { 0 = m })) (sym (ap (owner_of owners) (sym here) ∙ e)) held) in
      elim (cases_lt x (length owners)) [
        | inl low ↦
            let now = ap (owner_of (slice_set owners x own)) here ∙ get_or-set_same owners x own Nobody low in
            (λ e. absurd (new (subst (IsHeldBy (record { 0 = m })) (sym (sym now ∙ e)) held)), λ e. absurd (was e))
        | inr past ↦
            let now = ap (owner_of (slice_set owners x own)) here ∙ get_or-eq_default (slice_set owners x own) Nobody (let long = length-set owners x own in omega (arith, past, long)) in
            (λ e. absurd (not_nobody m (subst (IsHeldBy (record { 0 = m })) (sym (sym now ∙ e)) held)), λ e. absurd (was e))
      ]
  | inr far ↦ let same = get_or-set_other owners x y own Nobody far in (λ e. sym same ∙ e, λ e. same ∙ e)
]

-- whose the pages are then
pub owner_given : (owners : List Own) (x : PageNo) (n : NodeId) (m : ℕ) → m ≢ n.0 → IsHeldBy n (owner_of owners x.0) → KeepsHeldBy m owners (slice_set owners x.0 Nobody)
owner_given owners x n m far held = set_kept m x.0 owners Nobody (not_nobody m) (not_another m n (owner_of owners x.0) far held)

-- the frames of the others
module _ (x : PageNo) (pages qs : List CachedPage) (apart : AreApart pages qs) where
  pub frames_given : (pool : List (Option (List ℕ))) → All (λ q. frame_at (freed (cons_option (page_at x pages) []) pool) q.frame ≡ frame_at pool q.frame) qs
  frames_given pool = by (place_of x pages) refl
    where
      by : (o : Option ℕ) → place_of x pages ≡ o → All (λ q. frame_at (freed (cons_option (page_at x pages) []) pool) q.frame ≡ frame_at pool q.frame) qs
      by None none = subst (λ o. All (λ q. frame_at (freed (cons_option o []) pool) q.frame ≡ frame_at pool q.frame) qs) (sym (not_placed (is_page x) pages none)) (λ k d low. refl)
      by (Some i) place =
          let at = page_placed x pages i place in
          subst (λ o. All (λ q. frame_at (freed (cons_option o []) pool) q.frame ≡ frame_at pool q.frame) qs) (sym at.there)
          (freed_others (at.page ∷ []) qs pool (All-cons (λ p. All (λ q. p.frame ≢ q.frame) qs) at.page [] (all_at (λ p. All (λ q. p.frame ≢ q.frame) qs) pages i at.page apart at.at) (All-nil (λ p. All (λ q. p.frame ≢ q.frame) qs))))

  pub apart_given : AreApart (without_page x pages) qs
  apart_given = by (place_of x pages) refl
    where
      by : (o : Option ℕ) → place_of x pages ≡ o → AreApart (without_page x pages) qs
      by None none = let whole : without_page x pages ≡ pages = rw none refl in subst (λ ps. AreApart ps qs) (sym whole) apart
      by (Some i) place =
          let at = page_placed x pages i place in
          let rest : without_page x pages ≡ remove pages i = rw place refl in
          subst (λ ps. AreApart ps qs) (sym rest) (all_without (λ p. All (λ q. p.frame ≢ q.frame) qs) pages i (got pages i at.page at.at).0 apart)
