-- What holds of pages that are the same but for their changes.
use Rattle.std.specs.Prelude.{◌≡◌, ◌≢◌, ◌<◌, ℕ, zero, suc, Bool, true, false, List, [], ◌∷◌, All, AllPairs, map, length, slice_index_or, is_some, refl}
use Rattle.std.proofs.Common.{arith, ap, sym, subst, ◌∙◌}
use Rattle.std.proofs.lemmas.List.{length-map}
use Rattle.sd_base.specs.declared.device.NodeId.{NodeId}
use Rattle.sd_base.specs.declared.names.PageNo.{PageNo}
use Rattle.node_cache.specs.Cache.{CachedPage, IsCache, SamePages, is_page, page_at, with_page, written_back}

pub at_map : (xs : List CachedPage) (i : ℕ) (d : CachedPage) → i < length xs → slice_index_or (map written_back xs) i d ≡ written_back (slice_index_or xs i d)
at_map [] i d below = absurd (omega (arith, below))
at_map (x ∷ xs) zero d below = refl
at_map (x ∷ xs) (suc i) d below = at_map xs i d (omega (arith, below))

pub same_length : (old new : List CachedPage) → SamePages old new → length new ≡ length old
same_length old new same = sym (length-map new written_back) ∙ ap length same ∙ length-map old written_back

-- what stands at a place is the same page
same_at : (old new : List CachedPage) → SamePages old new → (i : ℕ) (d : CachedPage) → i < length new → written_back (slice_index_or new i d) ≡ written_back (slice_index_or old i d)
same_at old new same i d below =
    sym (at_map new i d below) ∙ ap (λ ps. slice_index_or ps i d) same ∙ at_map old i d (omega (arith, below, same_length old new same))

pub all_same : (P : CachedPage → Type 0) (old new : List CachedPage) → SamePages old new → All (λ p. P (written_back p)) old → All (λ p. P (written_back p)) new
all_same P old new same all i d below = subst P (sym (same_at old new same i d below)) (all i d (omega (arith, below, same_length old new same)))

pairs_same : (R : CachedPage → CachedPage → Type 0) (old new : List CachedPage) → SamePages old new
    → AllPairs (λ p q. R (written_back p) (written_back q)) old → AllPairs (λ p q. R (written_back p) (written_back q)) new
pairs_same R old new same all i j d before below =
    subst (λ p. R p (written_back (slice_index_or new j d))) (sym (same_at old new same i d (omega (arith, before, below))))
    (subst (R (written_back (slice_index_or old i d))) (sym (same_at old new same j d below)) (all i j d before (omega (arith, below, same_length old new same))))

pub cache_same : (node : NodeId) (old new : List CachedPage) → SamePages old new → IsCache node old → IsCache node new
cache_same node old new same is = record {
  port = is.port;
  few = let length = same_length old new same in let few = is.few in omega (arith, length, few);
  own = all_same (λ p. p.ticket.node ≡ node) old new same is.own;
  once = pairs_same (λ p q. p.ticket.page ≢ q.ticket.page) old new same is.once;
  apart = pairs_same (λ p q. p.frame ≢ q.frame) old new same is.apart;
}

-- a page with other changes is the same page
pub with_same : (x : PageNo) (f : CachedPage → CachedPage) → ((p : CachedPage) → written_back (f p) ≡ written_back p) → (pages : List CachedPage) → SamePages pages (with_page x f pages)
with_same x f same [] = refl
with_same x f same (p ∷ ps) = by (is_page x p) refl (with_same x f same ps)
  where
    by : (b : Bool) → is_page x p ≡ b → SamePages ps (with_page x f ps) → map written_back (with_page x f (p ∷ ps)) ≡ written_back p ∷ map written_back ps
    by true is rest = rw is (ap (λ q. q ∷ map written_back (with_page x f ps)) (same p) ∙ ap (λ qs. written_back p ∷ qs) rest)
    by false is rest = rw is (ap (λ qs. written_back p ∷ qs) rest)

pub all_written_same : (pages : List CachedPage) → SamePages pages (map written_back pages)
all_written_same [] = refl
all_written_same (p ∷ ps) = ap (λ qs. written_back p ∷ qs) (all_written_same ps)

-- the same pages are cached
cached_written : (x : PageNo) (pages : List CachedPage) → is_some (page_at x (map written_back pages)) ≡ is_some (page_at x pages)
cached_written x [] = refl
cached_written x (p ∷ ps) = by (is_page x p) refl (cached_written x ps)
  where
    by : (b : Bool) → is_page x p ≡ b → is_some (page_at x (map written_back ps)) ≡ is_some (page_at x ps) → is_some (page_at x (map written_back (p ∷ ps))) ≡ is_some (page_at x (p ∷ ps))
    by true is rest = rw is refl
    by false is rest = rw is rest

pub cached_same : (x : PageNo) (old new : List CachedPage) → SamePages old new → is_some (page_at x new) ≡ is_some (page_at x old)
cached_same x old new same = sym (cached_written x new) ∙ ap (λ ps. is_some (page_at x ps)) same ∙ cached_written x old
