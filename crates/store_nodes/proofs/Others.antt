-- What a call of one node leaves of the others: their frames, and what the table of owners says of them.
use Rattle.std.specs.Prelude.{◌≡◌, ◌≢◌, ◌↔◌, ◌==◌, ℕ, suc, Bool, true, false, List, [], ◌∷◌, Option, None, All, slice_index_or, slice_set, if◌then◌else◌, refl}
use Rattle.std.proofs.Common.{arith, ap, inl, inr, subst, sym, ◌∙◌, get_or-set_other}
use Rattle.std.proofs.lemmas.Bool.{eq-eqb, eqb-true}
use Rattle.sd_base.specs.declared.device.NodeId.{NodeId}
use Rattle.sd_base.specs.declared.shape.Shape.{Shape}
use Rattle.frame_pool.specs.Frames.{frame_at}
use Rattle.page_owner.specs.declared.owners.Own.{Own}
use Rattle.page_owner.specs.declared.owners.Own.TheVariants.{Nobody, Parked, Out}
use Rattle.page_owner.specs.Owners.{owner_of}
use Rattle.node_cache.specs.Cache.{CachedPage}
use Rattle.node_cache.specs.Room.{freed, given_up}
use Rattle.node_cache.proofs.Without.{shows_same}
use Rattle.store_nodes.specs.declared.node.Node.{Node}
use Rattle.store_nodes.specs.declared.node.Node.TheVariants.{Idle, Up, Down}
use Rattle.store_nodes.specs.Nodes.{AreApart, IsHeldBy, IsNode, KeepsFramesOf, pages_of}

-- the pages that the node holds are those that it held, and its tickets too
abbrev pub KeepsHeldBy : ℕ → List Own → List Own → Type 0
KeepsHeldBy m old new = (x : ℕ) (own : Own) → IsHeldBy (record { 0 = m }) own → (owner_of new x ≡ own) ↔ (owner_of old x ≡ own)

-- what is parked by it, and what is out at it
pub parked_kept : (m : ℕ) (owners owners' : List Own) → KeepsHeldBy m owners owners' → (x : ℕ) → (owner_of owners' x ≡ Parked (record { 0 = m })) ↔ (owner_of owners x ≡ Parked (record { 0 = m }))
parked_kept m owners owners' own x = own x (Parked (record { 0 = m })) (inl refl)

pub out_kept : (m : ℕ) (owners owners' : List Own) → KeepsHeldBy m owners owners' → (x : ℕ) → (owner_of owners' x ≡ Out (record { 0 = m })) ↔ (owner_of owners x ≡ Out (record { 0 = m }))
out_kept m owners owners' own x = own x (Out (record { 0 = m })) (inr refl)

pub held_before : (m : ℕ) (owners owners' : List Own) → KeepsHeldBy m owners owners' → (x : ℕ) → IsHeldBy (record { 0 = m }) (owner_of owners' x) → IsHeldBy (record { 0 = m }) (owner_of owners x)
held_before m owners owners' own x (inl parked) = inl ((parked_kept m owners owners' own x).0 parked)
held_before m owners owners' own x (inr out) = inr ((out_kept m owners owners' own x).0 out)

-- then the node is what it was
pub node_stays : (s : Shape) (pool pool' : List (Option (List ℕ))) (owners owners' : List Own) (m : ℕ) (node : Node) → KeepsFramesOf (pages_of node) pool pool' → KeepsHeldBy m owners owners' → IsNode s pool owners m node → IsNode s pool' owners' m node
node_stays s pool pool' owners owners' m Idle frames own was = λ x held. was x (held_before m owners owners' own x held)
node_stays s pool pool' owners owners' m Down frames own was = record { known = was.known; none = λ x out. was.none x ((out_kept m owners owners' own x).0 out) }
node_stays s pool pool' owners owners' m (Up c seats) frames own was =
    let name : c.node ≡ record { 0 = m } = ap (λ k. record { 0 = k }) was.number in
    record {
      number = was.number;
      cache = was.cache;
      store = was.store;
      shown = λ k d below. let is = was.shown k d below in (is.0, shows_same pool pool' _ is.0 (frames k d below) is.1, is.2, is.3);
      owned = λ x. let is = was.owned x in let same = out_kept m owners owners' own x.0 in (
        λ out. is.0 (subst (λ n. owner_of owners x.0 ≡ Out n) (sym name) (same.0 (subst (λ n. owner_of owners' x.0 ≡ Out n) name out))),
        λ cached. subst (λ n. owner_of owners' x.0 ≡ Out n) (sym name) (same.1 (subst (λ n. owner_of owners x.0 ≡ Out n) name (is.1 cached))),
      );
      log_tie = was.log_tie;
      tie = was.tie;
      eight = was.eight;
    }

-- ---- frames that are given back

frame_freed : (ps : List CachedPage) (pool : List (Option (List ℕ))) (f : ℕ) → All (λ p. p.frame ≢ f) ps → frame_at (freed ps pool) f ≡ frame_at pool f
frame_freed [] pool f apart = refl
frame_freed (p ∷ ps) pool f apart =
    frame_freed ps (slice_set pool p.frame None) f (λ k d below. apart (suc k) d (omega (arith, below)))
    ∙ get_or-set_other pool p.frame f None None (λ same. apart 0 p (omega arith) (sym same))

pub freed_others : (ps qs : List CachedPage) (pool : List (Option (List ℕ))) → AreApart ps qs → KeepsFramesOf qs pool (freed ps pool)
freed_others ps qs pool apart k d below = frame_freed ps pool (slice_index_or qs k d).frame (λ j e low. apart j e low k d below)

-- ---- pages that a node has given up

-- what is out at a node then was out at it before, and isn't at the one that gave up its pages
pub given_out : (n : NodeId) (own : Own) (m : NodeId) → given_up n own ≡ Out m → (own ≡ Out m) × (m.0 ≢ n.0)
given_out n Nobody m out = cc
given_out n (Parked k) m out = cc
given_out n (Out k) m out = by (k.0 == n.0) refl out
  where
    by : (b : Bool) → (k.0 == n.0) ≡ b → (if b then Parked k else Out k) ≡ Out m → (Out k ≡ Out m) × (m.0 ≢ n.0)
    by true is never = cc
    by false is out =
        let same : k ≡ m = cc in
        (out, λ e. let eq : (k.0 == n.0) ≡ true = eq-eqb k.0 n.0 (ap (λ (i : NodeId). i.0) same ∙ e) in cc)

-- what another node holds is what it held
pub given_other : (n : NodeId) (own was : Own) (m : ℕ) → m ≢ n.0 → IsHeldBy (record { 0 = m }) own → (given_up n was ≡ own) ↔ (was ≡ own)
given_other n own Nobody m far held = (λ e. e, λ e. e)
given_other n own (Parked k) m far held = (λ e. e, λ e. e)
given_other n own (Out k) m far held = by (k.0 == n.0) refl held
  where
    by : (b : Bool) → (k.0 == n.0) ≡ b → IsHeldBy (record { 0 = m }) own → ((if b then Parked k else Out k) ≡ own) ↔ (Out k ≡ own)
    by false is held = (λ e. e, λ e. e)
    by true is (inl parked) = (
      λ e. (let both : Parked k ≡ Parked (record { 0 = m }) = e ∙ parked in let same : k ≡ record { 0 = m } = cc in absurd (far (sym (ap (λ (i : NodeId). i.0) same) ∙ eqb-true k.0 n.0 is))),
      λ e. (let both : Out k ≡ Parked (record { 0 = m }) = e ∙ parked in cc),
    )
    by true is (inr out) = (
      λ e. (let both : Parked k ≡ Out (record { 0 = m }) = e ∙ out in cc),
      λ e. (let both : Out k ≡ Out (record { 0 = m }) = e ∙ out in let same : k ≡ record { 0 = m } = cc in absurd (far (sym (ap (λ (i : NodeId). i.0) same) ∙ eqb-true k.0 n.0 is))),
    )

-- whoever holds a page then held it before
pub given_held : (n : NodeId) (own : Own) (m : NodeId) → IsHeldBy m (given_up n own) → IsHeldBy m own
given_held n Nobody m held = held
given_held n (Parked k) m held = held
given_held n (Out k) m held = by (k.0 == n.0) refl held
  where
    by : (b : Bool) → (k.0 == n.0) ≡ b → IsHeldBy m (if b then Parked k else Out k) → IsHeldBy m (Out k)
    by false is held = held
    by true is (inl parked) = inr (let same : k ≡ m = cc in ap Out same)
    by true is (inr out) = cc
