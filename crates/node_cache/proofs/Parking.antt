-- The pages of a cache that ends: the frame of one after another is given back, and the page parked.
use Rattle.std.specs.Prelude.{◌≡◌, ◌≢◌, ◌<◌, ◌==◌, ℕ, zero, suc, Bool, true, false, is_some, List, [], ◌∷◌, Option, Some, None, length, slice_set, slice_index_or, All, AllPairs, refl}
use Rattle.std.specs.List.{remove, slice_get}
use Rattle.std.proofs.Common.{arith, cond, ap, sym, inl, inr, ◌∙◌, eq-eqb, eqb-true, length-set, get_or-set_same, get_or-set_other}
use Rattle.std.proofs.lemmas.Bool.{cases_lt}
use Rattle.std.proofs.lemmas.List.{get_or_past}
use Rattle.sd_base.specs.declared.device.NodeId.{NodeId}
use Rattle.sd_base.specs.declared.names.PageNo.{PageNo}
use Rattle.frame_pool.specs.Frames.{IsOut}
use Rattle.frame_pool.proofs.PoolLaws.{IsOut-given}
use Rattle.page_owner.specs.declared.owners.Own.{Own}
use Rattle.page_owner.specs.declared.owners.Own.TheVariants.{Nobody, Parked, Out}
use Rattle.page_owner.specs.Owners.{owner_of}
use Rattle.node_cache.specs.Cache.{CachedPage, CacheState, AreOwned, is_page, is_cached, page_at}
use Rattle.node_cache.specs.Room.{given_up, parked}
use Rattle.node_cache.proofs.Finding.{some_found}

-- what each page of such a cache has still: its frame, and its place in the table of owners
pub record AreHeld (pages : List CachedPage) (pool : List (Option (List ℕ))) (owners : List Own) : Type 0 where
  pub out : All (λ p. IsOut pool p.frame) pages
  pub apart : AllPairs (λ p q. p.frame ≢ q.frame) pages
  pub owned : All (λ p. owner_of owners p.ticket.page.0 ≡ Out p.ticket.node) pages
  pub once : AllPairs (λ p q. p.ticket.page ≢ q.ticket.page) pages

-- the first page and the others
pub first_is : (pages : List CachedPage) (p : CachedPage) → slice_get pages 0 ≡ Some p → pages ≡ p ∷ remove pages 0
first_is [] p e = cc
first_is (q ∷ pages) p e = let same : q ≡ p = cc in ap (λ r. r ∷ pages) same

-- a page that is somebody's is one of the table
pub is_within : (owners : List Own) (x : ℕ) (own : Own) → own ≢ Nobody → owner_of owners x ≡ own → x < length owners
is_within [] x own some e = absurd (some (sym e))
is_within (o ∷ owners) zero own some e = omega arith
is_within (o ∷ owners) (suc x) own some e = omega (arith, is_within owners x own some e)

-- the others have theirs still when the first one has ended
pub others_held : (p : CachedPage) (pages : List CachedPage) (pool : List (Option (List ℕ))) (owners : List Own) → AreHeld (p ∷ pages) pool owners
    → AreHeld pages (slice_set pool p.frame None) (slice_set owners p.ticket.page.0 (Parked p.ticket.node))
others_held p pages pool owners held = record {
  out = λ i d h. IsOut-given pool _ p.frame _ refl (λ same. held.apart 0 (suc i) d (omega arith) (omega (arith, h)) (sym same)) (held.out (suc i) d (omega (arith, h)));
  apart = λ i j d before h. held.apart (suc i) (suc j) d (omega (arith, before)) (omega (arith, h));
  owned = λ i d h. get_or-set_other owners p.ticket.page.0 _ (Parked p.ticket.node) Nobody (λ same. held.once 0 (suc i) d (omega arith) (omega (arith, h)) (sym (ap (λ n. record { 0 = n }) same))) ∙ held.owned (suc i) d (omega (arith, h));
  once = λ i j d before h. held.once (suc i) (suc j) d (omega (arith, before)) (omega (arith, h));
}

-- the pages of a cache are out at its node
pub all_owned : (c : CacheState) (owners : List Own) → All (λ p. p.ticket.node ≡ c.node) c.pages → AreOwned owners c → All (λ p. owner_of owners p.ticket.page.0 ≡ Out p.ticket.node) c.pages
all_owned c owners own owned = λ i d h.
    let x = (slice_index_or c.pages i d).ticket.page in
    (owned x).1 (some_found (is_page x) c.pages i d h (eq-eqb x.0 x.0 refl)) ∙ ap Out (sym (own i d h))

-- after these pages are parked, a page of the table is parked if it is one of them, and else as it was
parked_at : (n : NodeId) (x : PageNo) (pages : List CachedPage) (owners : List Own) → All (λ p. p.ticket.node ≡ n) pages → x.0 < length owners
    → owner_of (parked pages owners) x.0 ≡ cond (is_some (page_at x pages)) (Parked n) (owner_of owners x.0)
parked_at n x [] owners own within = refl
parked_at n x (p ∷ pages) owners own within =
    parked_at n x pages (slice_set owners p.ticket.page.0 (Parked p.ticket.node)) (λ i d h. own (suc i) d (omega (arith, h))) (omega (arith, within, length-set owners p.ticket.page.0 (Parked p.ticket.node)))
    ∙ by (is_page x p) refl
  where
    by : (b : Bool) → is_page x p ≡ b
        → cond (is_some (page_at x pages)) (Parked n) (owner_of (slice_set owners p.ticket.page.0 (Parked p.ticket.node)) x.0) ≡ cond (is_some (page_at x (p ∷ pages))) (Parked n) (owner_of owners x.0)
    by true e =
        let same : p.ticket.page.0 ≡ x.0 = eqb-true p.ticket.page.0 x.0 e in
        let here : owner_of (slice_set owners p.ticket.page.0 (Parked p.ticket.node)) x.0 ≡ Parked n = ap (λ y. owner_of (slice_set owners y (Parked p.ticket.node)) x.0) same ∙ get_or-set_same owners x.0 (Parked p.ticket.node) Nobody within ∙ ap Parked (own 0 p (omega arith)) in
        rw (e, here) (either (is_some (page_at x pages)))
      where
        either : (b : Bool) → cond b (Parked n) (Parked n) ≡ Parked n
        either true = refl
        either false = refl
    by false e =
        let apart : x.0 ≢ p.ticket.page.0 = λ same. let equal = eq-eqb p.ticket.page.0 x.0 (sym same) in cc in
        rw (e, get_or-set_other owners p.ticket.page.0 x.0 (Parked p.ticket.node) Nobody apart) refl

-- the table has as many pages as before
pub length-parked : (pages : List CachedPage) (owners : List Own) → length (parked pages owners) ≡ length owners
length-parked [] owners = refl
length-parked (p ∷ pages) owners = length-parked pages (slice_set owners p.ticket.page.0 (Parked p.ticket.node)) ∙ length-set owners _ _

-- what isn't out at the node stays as it is
kept : (n : NodeId) (own : Own) → own ≢ Out n → given_up n own ≡ own
kept n Nobody other = refl
kept n (Parked m) other = refl
kept n (Out m) other = by (m.0 == n.0) refl
  where
    by : (b : Bool) → (m.0 == n.0) ≡ b → cond b (Parked m) (Out m) ≡ Out m
    by true e = absurd (other (ap (λ k. Out (record { 0 = k })) (eqb-true m.0 n.0 e)))
    by false e = refl

-- the node gives up all pages that are out at it, which are those of its cache
pub all_parked : (c : CacheState) (owners : List Own) (x : ℕ) → All (λ p. p.ticket.node ≡ c.node) c.pages → AreOwned owners c → owner_of (parked c.pages owners) x ≡ given_up c.node (owner_of owners x)
all_parked c owners x own owned = elim (cases_lt x (length owners)) [
  | inl within ↦ parked_at c.node (record { 0 = x }) c.pages owners own within ∙ by (is_cached (record { 0 = x }) c) refl
  | inr past ↦ get_or_past (parked c.pages owners) x Nobody (omega (arith, length-parked c.pages owners, past)) ∙ ap (given_up c.node) (sym (get_or_past owners x Nobody past))
]
  where
    by : (b : Bool) → is_cached (record { 0 = x }) c ≡ b → cond (is_some (page_at (record { 0 = x }) c.pages)) (Parked c.node) (owner_of owners x) ≡ given_up c.node (owner_of owners x)
    by true e = rw (e, (owned (record { 0 = x })).1 e, eq-eqb c.node.0 c.node.0 refl) refl
    by false e =
        let other : owner_of owners x ≢ Out c.node = λ out. let cached = (owned (record { 0 = x })).0 out in cc in
        rw e (sym (kept c.node (owner_of owners x) other))
