-- Whose the pages are, as one comes into a cache and another one leaves it.
use Rattle.std.specs.Prelude.{◌≡◌, ◌≢◌, ◌⊎◌, ◌↔◌, ◌<◌, ◌++◌, ℕ, suc, true, false, IsTrue, List, [], ◌∷◌, Option, Some, None, All, AllPairs, is_some, length, slice_index_or, slice_set, refl}
use Rattle.std.specs.List.{find, remove, slice_get}
use Rattle.std.specs.Option.{option_or}
use Rattle.std.proofs.Common.{arith, inl, inr, ap, subst₂, sym, ◌∙◌, get_or-set_same, get_or-set_other}
use Rattle.std.proofs.lemmas.Bool.{cases_eq}
use Rattle.std.proofs.lemmas.List.{set-set, set_comm}
use Rattle.std.proofs.lemmas.List.Folds.{find-append}
use Rattle.sd_base.specs.declared.device.NodeId.{NodeId}
use Rattle.sd_base.specs.declared.names.PageNo.{PageNo}
use Rattle.sd_base.specs.declared.shape.Shape.{Shape}
use Rattle.page_owner.specs.declared.owners.Own.{Own}
use Rattle.page_owner.specs.declared.owners.Own.TheVariants.{Nobody, Parked, Out}
use Rattle.page_owner.specs.Owners.{owner_of}
use Rattle.node_cache.specs.Cache.{AreOwned, CachedPage, CacheState, is_page, page_at}
use Rattle.node_cache.specs.Room.{Missed, freed, leaving, parked, staying}
use Rattle.node_cache.proofs.Arriving.{found_last, not_found}
use Rattle.node_cache.proofs.Finding.{all_at}
use Rattle.node_cache.proofs.Leaving.{who_leaves}
use Rattle.node_cache.proofs.OnePage.{is_page-other}
use Rattle.node_cache.proofs.Parking.{length-parked}
use Rattle.node_cache.proofs.Without.{other_found, others_apart, out_within}

-- the pages are those that are out at this node
abbrev pub ArePages : List Own → NodeId → List CachedPage → Type 0
ArePages owners n pages = (y : PageNo) → (owner_of owners y.0 ≡ Out n) ↔ IsTrue (is_some (page_at y pages))

-- what is said of another page stays where one is given to somebody
other_owner : (owners : List Own) (x y : PageNo) (own : Own) → y ≢ x → owner_of (slice_set owners x.0 own) y.0 ≡ owner_of owners y.0
other_owner owners x y own other = get_or-set_other owners x.0 y.0 own Nobody (λ same. other (ap (λ n. record { 0 = n }) same))

pub still_owned : (owners : List Own) (x : PageNo) (own : Own) (pages : List CachedPage) → All (λ q. q.ticket.page ≢ x) pages → All (λ p. owner_of owners p.ticket.page.0 ≡ Out p.ticket.node) pages
    → All (λ p. owner_of (slice_set owners x.0 own) p.ticket.page.0 ≡ Out p.ticket.node) pages
still_owned owners x own pages others owned k d below = other_owner owners x (slice_index_or pages k d).ticket.page own (others k d below) ∙ owned k d below

-- pages that are parked leave each other one
pub not_parked : (x : PageNo) (pages : List CachedPage) (owners : List Own) → All (λ q. q.ticket.page ≢ x) pages → owner_of (parked pages owners) x.0 ≡ owner_of owners x.0
not_parked x [] owners others = refl
not_parked x (q ∷ qs) owners others =
    not_parked x qs (slice_set owners q.ticket.page.0 (Parked q.ticket.node)) (λ k d below. others (suc k) d (omega (arith, below)))
    ∙ other_owner owners q.ticket.page x (Parked q.ticket.node) (λ same. others 0 q (omega arith) (sym same))

pub parked_set : (x : PageNo) (own : Own) (pages : List CachedPage) (owners : List Own) → All (λ q. q.ticket.page ≢ x) pages → slice_set (parked pages owners) x.0 own ≡ parked pages (slice_set owners x.0 own)
parked_set x own [] owners others = refl
parked_set x own (q ∷ qs) owners others =
    parked_set x own qs (slice_set owners q.ticket.page.0 (Parked q.ticket.node)) (λ k d below. others (suc k) d (omega (arith, below)))
    ∙ ap (parked qs) (set_comm owners q.ticket.page.0 x.0 (Parked q.ticket.node) own (λ same. others 0 q (omega arith) (ap (λ n. record { 0 = n }) same)))

-- the page x was given to a node, and is parked then
pub parked_then : (x : PageNo) (first then : Own) (pages : List CachedPage) (owners : List Own) → All (λ q. q.ticket.page ≢ x) pages → slice_set (parked pages (slice_set owners x.0 first)) x.0 then ≡ parked pages (slice_set owners x.0 then)
parked_then x first then pages owners others = parked_set x then pages (slice_set owners x.0 first) others ∙ ap (parked pages) (set-set owners x.0 first then)

-- another page is cached as before when one is gone, and when one has come
cached_without : (y : PageNo) (pages : List CachedPage) (i : ℕ) (p : CachedPage) → slice_get pages i ≡ Some p → p.ticket.page ≢ y → is_some (page_at y (remove pages i)) ≡ is_some (page_at y pages)
cached_without y pages i p at other = ap is_some (other_found pages i p y at other)

cached_with : (y : PageNo) (pages : List CachedPage) (p : CachedPage) → p.ticket.page ≢ y → is_some (page_at y (pages ++ p ∷ [])) ≡ is_some (page_at y pages)
cached_with y pages p other = ap is_some (find-append (is_page y) pages (p ∷ [])) ∙ by (page_at y pages)
  where
    by : (o : Option CachedPage) → is_some (option_or o (find (is_page y) (p ∷ []))) ≡ is_some o
    by None = let not : is_page y p ≡ false = is_page-other y p other in rw not refl
    by (Some q) = refl

-- a page is x or another one
pub this_or_other : (x y : PageNo) → (y ≡ x) ⊎ (y ≢ x)
this_or_other x y = elim (cases_eq y.0 x.0) [
  | inl same ↦ inl (ap (λ n. record { 0 = n }) same)
  | inr other ↦ inr (λ same. other (ap (λ p. p.0) same))
]

-- the pages after one has gone, and isn't out at the node any more
pub pages_without : (owners : List Own) (n : NodeId) (pages : List CachedPage) (i : ℕ) (p : CachedPage) (own : Own) → own ≢ Out n → AllPairs (λ p q. p.ticket.page ≢ q.ticket.page) pages → slice_get pages i ≡ Some p → p.ticket.page.0 < length owners
    → ArePages owners n pages → ArePages (slice_set owners p.ticket.page.0 own) n (remove pages i)
pages_without owners n pages i p own never once at within are y = elim (this_or_other p.ticket.page y) [
  | inl same ↦
      let now : owner_of (slice_set owners p.ticket.page.0 own) y.0 ≡ own =
      ap (λ z. owner_of (slice_set owners p.ticket.page.0 own) z.0) same ∙ get_or-set_same owners p.ticket.page.0 own Nobody within in
      let gone : is_some (page_at y (remove pages i)) ≡ false = ap (λ z. is_some (page_at z (remove pages i))) same ∙ not_found p.ticket.page (remove pages i) (others_apart (λ q. q.ticket.page) pages i p once at) in
      (λ out. absurd (never (sym now ∙ out)), λ cached. cc)
  | inr other ↦
      let owner = other_owner owners p.ticket.page y own other in
      let cached = cached_without y pages i p at (λ same. other (sym same)) in
      (λ out. cached ∙ (are y).0 (sym owner ∙ out), λ some. owner ∙ (are y).1 (sym cached ∙ some))
]

-- after the page x, which isn't cached, was given to somebody, and isn't out at the node
pub pages_beside : (owners : List Own) (n : NodeId) (pages : List CachedPage) (x : PageNo) (own : Own) → own ≢ Out n → x.0 < length owners → is_some (page_at x pages) ≡ false → ArePages owners n pages → ArePages (slice_set owners x.0 own) n pages
pages_beside owners n pages x own never within none are y = elim (this_or_other x y) [
  | inl same ↦
      let now : owner_of (slice_set owners x.0 own) y.0 ≡ own = ap (λ z. owner_of (slice_set owners x.0 own) z.0) same ∙ get_or-set_same owners x.0 own Nobody within in
      let gone : is_some (page_at y pages) ≡ false = ap (λ z. is_some (page_at z pages)) same ∙ none in
      (λ out. absurd (never (sym now ∙ out)), λ cached. cc)
  | inr other ↦
      let owner = other_owner owners x y own other in
      (λ out. (are y).0 (sym owner ∙ out), λ some. owner ∙ (are y).1 some)
]

-- and after it has come in
pub pages_with : (owners : List Own) (n : NodeId) (pages : List CachedPage) (p : CachedPage) → p.ticket.page.0 < length owners → is_some (page_at p.ticket.page pages) ≡ false → ArePages owners n pages
    → ArePages (slice_set owners p.ticket.page.0 (Out n)) n (pages ++ p ∷ [])
pages_with owners n pages p within none are y = elim (this_or_other p.ticket.page y) [
  | inl same ↦
      let out : owner_of (slice_set owners p.ticket.page.0 (Out n)) y.0 ≡ Out n = ap (λ z. owner_of (slice_set owners p.ticket.page.0 (Out n)) z.0) same ∙ get_or-set_same owners p.ticket.page.0 (Out n) Nobody within in
      let there : is_some (page_at y (pages ++ p ∷ [])) ≡ true = ap (λ z. is_some (page_at z (pages ++ p ∷ []))) same ∙ ap is_some (found_last p.ticket.page pages p none refl) in
      (λ _. there, λ _. out)
  | inr other ↦
      let owner = other_owner owners p.ticket.page y (Out n) other in
      let cached = cached_with y pages p (λ same. other (sym same)) in
      (λ out. cached ∙ (are y).0 (sym owner ∙ out), λ some. owner ∙ (are y).1 (sym cached ∙ some))
]

-- the pages that stay, after those that leave were parked
pub pages_stay : (s : Shape) (x : PageNo) (owners : List Own) (n : NodeId) (pages : List CachedPage) → AllPairs (λ p q. p.ticket.page ≢ q.ticket.page) pages → All (λ p. owner_of owners p.ticket.page.0 ≡ Out p.ticket.node) pages
    → ArePages owners n pages → ArePages (parked (leaving s x pages) owners) n (staying s x pages)
pages_stay s x owners n pages once owned are = elim (who_leaves s x pages) [
  | inl none ↦ subst₂ (λ left stayed. ArePages (parked left owners) n stayed) (sym none.0) (sym none.1) are
  | inr one ↦
      let l = one.1 in
      subst₂ (λ left stayed. ArePages (parked left owners) n stayed) (sym l.left) (sym l.stayed)
      (pages_without owners n pages one.0 l.page (Parked l.page.ticket.node) (λ e. cc) once l.at (out_within owners l.page.ticket.page.0 l.page.ticket.node (all_at (λ p. owner_of owners p.ticket.page.0 ≡ Out p.ticket.node) pages one.0 l.page owned l.at)) are)
]

-- The page x was given to the node, and these pages left: whose x is then, and when it was parked again.
pub still_given : (owners : List Own) (x : PageNo) (n : NodeId) (left : List CachedPage) → x.0 < length owners → All (λ q. q.ticket.page ≢ x) left → owner_of (parked left (slice_set owners x.0 (Out n))) x.0 ≡ Out n
still_given owners x n left within others = not_parked x left (slice_set owners x.0 (Out n)) others ∙ get_or-set_same owners x.0 (Out n) Nobody within

-- these pages left, and those stayed
abbrev pub Gone : List CachedPage → List CachedPage → List (Option (List ℕ)) → List (Option (List ℕ)) → List Own → List Own → CacheState → Type 0
Gone left stayed old new given owners c = (c.pages ≡ stayed) × (new ≡ freed left old) × (owners ≡ parked left given)

pub missed_of : (x : PageNo) (left stayed : List CachedPage) (old new : List (Option (List ℕ))) (owners given between final : List Own) (c : CacheState) → All (λ q. q.ticket.page ≢ x) left
    → given ≡ slice_set owners x.0 (Out c.node) → final ≡ slice_set between x.0 (Parked c.node) → Gone left stayed old new given between c → Missed x left stayed old owners c new final
missed_of x left stayed old new owners given between final c others first last (pages, pool, parks) = record {
  pages = pages;
  pool = pool;
  parks = last ∙ ap (λ o. slice_set o x.0 (Parked c.node)) (parks ∙ ap (parked left) first) ∙ parked_then x (Out c.node) (Parked c.node) left owners others;
}

-- the pages of a cache are those that are out at its node, when x didn't come in, and when it did
pub owned_missed : (x : PageNo) (left stayed : List CachedPage) (old new : List (Option (List ℕ))) (owners final : List Own) (c : CacheState) → Missed x left stayed old owners c new final → x.0 < length owners
    → All (λ q. q.ticket.page ≢ x) left → All (λ q. q.ticket.page ≢ x) stayed → ArePages (parked left owners) c.node stayed → AreOwned final c
owned_missed x left stayed old new owners final c missed within others none are =
    let is : final ≡ slice_set (parked left owners) x.0 (Parked c.node) = missed.parks ∙ sym (parked_set x (Parked c.node) left owners others) in
    subst₂ (λ o ps. ArePages o c.node ps) (sym is) (sym missed.pages) (pages_beside (parked left owners) c.node stayed x (Parked c.node) (λ e. cc) (omega (arith, within, length-parked left owners)) (not_found x stayed none) are)

pub owned_arrived : (p : CachedPage) (left stayed : List CachedPage) (owners given final : List Own) (c : CacheState) → c.pages ≡ stayed ++ p ∷ [] → given ≡ slice_set owners p.ticket.page.0 (Out c.node) → final ≡ parked left given
    → p.ticket.page.0 < length owners → All (λ q. q.ticket.page ≢ p.ticket.page) left → All (λ q. q.ticket.page ≢ p.ticket.page) stayed → ArePages (parked left owners) c.node stayed → AreOwned final c
owned_arrived p left stayed owners given final c pages first last within others none are =
    let is : final ≡ slice_set (parked left owners) p.ticket.page.0 (Out c.node) = last ∙ ap (parked left) first ∙ sym (parked_set p.ticket.page (Out c.node) left owners others) in
    subst₂ (λ o ps. ArePages o c.node ps) (sym is) (sym pages) (pages_with (parked left owners) c.node stayed p (omega (arith, within, length-parked left owners)) (not_found p.ticket.page stayed none) are)
