-- A page that comes into a cache, in a frame that was free.
use Rattle.std.specs.Prelude.{◌≡◌, ◌≢◌, ◌≤◌, ◌<◌, ◌+◌, ◌^◌, ◌++◌, ℕ, true, false, List, [], ◌∷◌, Option, Some, None, All, is_some, length, slice_set, zero, suc, refl}
use Rattle.std.specs.List.{find, slice_get}
use Rattle.std.specs.Option.{option_or}
use Rattle.std.proofs.Common.{arith, eq-eqb, inl, inr, ap, sym, subst, ◌∙◌}
use Rattle.std.proofs.lemmas.Bool.{cases_lt}
use Rattle.std.proofs.lemmas.List.{length-append, set-set}
use Rattle.std.proofs.lemmas.List.Elements.{All-push}
use Rattle.std.proofs.lemmas.List.Folds.{find-append}
use Rattle.std.proofs.lemmas.List.Quantifiers.{all_pairs_push}
use Rattle.sd_base.specs.Shape.{page_count}
use Rattle.sd_base.specs.Places.{place_of_page}
use Rattle.sd_base.specs.declared.device.NodeId.{NodeId}
use Rattle.sd_base.specs.declared.names.PageNo.{PageNo}
use Rattle.sd_base.specs.declared.shape.Shape.{Shape}
use Rattle.frame_pool.specs.Frames.{IsOut, frame_at}
use Rattle.frame_pool.proofs.PoolLaws.{taken-apart}
use Rattle.private_log.specs.Log.{SameLog}
use Rattle.space_map.specs.Entry as entries
use Rattle.space_map.specs.Entry.{IsEntry}
use Rattle.space_map.specs.Image.{IsMapImage, MapImage}
use Rattle.space_map.specs.declared.map_entry.MapEntry.{MapEntry}
use Rattle.space_map.specs.declared.map_entry.MapEntry.TheVariants.{Free, Used}
use Rattle.state_ids.specs.Blocks.{FitsPage}
use Rattle.state_ids.specs.Held.{KeepsFrames}
use Rattle.node_cache.specs.Cache.{CachedPage, CacheState, IsCache, IsOfStore, is_page, page_at}
use Rattle.node_cache.specs.Room.{IsEntryOf}
use Rattle.node_cache.proofs.Finding.{all_at, some_found}
use Rattle.node_cache.proofs.OnePage.{is_page-other}

-- where the page x isn't cached, none of the pages is x, and the other way round
pub none_is : (x : PageNo) (pages : List CachedPage) → is_some (page_at x pages) ≡ false → All (λ q. q.ticket.page ≢ x) pages
none_is x pages none k d below same =
    let some = some_found (is_page x) pages k d below (eq-eqb _ x.0 (ap (λ n. n.0) same)) in
    cc

pub not_found : (x : PageNo) (pages : List CachedPage) → All (λ q. q.ticket.page ≢ x) pages → is_some (page_at x pages) ≡ false
not_found x [] none = refl
not_found x (q ∷ qs) none =
    let other : is_page x q ≡ false = is_page-other x q (none 0 q (omega arith)) in
    rw other (not_found x qs (λ k d below. none (suc k) d (omega (arith, below))))

-- a page that comes in behind the others is found there
pub found_last : (x : PageNo) (pages : List CachedPage) (p : CachedPage) → is_some (page_at x pages) ≡ false → p.ticket.page ≡ x → page_at x (pages ++ p ∷ []) ≡ Some p
found_last x pages p none is =
    find-append (is_page x) pages (p ∷ []) ∙ by (page_at x pages) none
  where
    last : find (is_page x) (p ∷ []) ≡ Some p
    last = let this : is_page x p ≡ true = eq-eqb p.ticket.page.0 x.0 (ap (λ n. n.0) is) in rw this refl

    by : (o : Option CachedPage) → is_some o ≡ false → option_or o (find (is_page x) (p ∷ [])) ≡ Some p
    by None e = last
    by (Some q) e = cc

-- the pages with one more are those of a cache
pub cache_with : (node : NodeId) (pages : List CachedPage) (p : CachedPage) → IsCache node pages → length pages < 16 → p.ticket.node ≡ node
    → All (λ q. q.ticket.page ≢ p.ticket.page) pages → All (λ q. q.frame ≢ p.frame) pages → IsCache node (pages ++ p ∷ [])
cache_with node pages p is few own other apart = record {
  port = is.port;
  few = omega (arith, few, length-append pages (p ∷ []));
  own = All-push (λ q. q.ticket.node ≡ node) pages p is.own own;
  once = all_pairs_push (λ q r. q.ticket.page ≢ r.ticket.page) pages p is.once other;
  apart = all_pairs_push (λ q r. q.frame ≢ r.frame) pages p is.apart apart;
}

-- a frame that is free holds nothing
emptied : (frames : List (Option (List ℕ))) (k : ℕ) → frame_at (slice_set frames k None) k ≡ None
emptied [] k = refl
emptied (f ∷ frames) zero = refl
emptied (f ∷ frames) (suc k) = emptied frames k

-- a frame that is taken held nothing, and none of those that are out is it
pub was_free : (old taken : List (Option (List ℕ))) (frame : ℕ) → old ≡ slice_set taken frame None → frame_at old frame ≡ None
was_free old taken frame e = ap (λ frames. frame_at frames frame) e ∙ emptied taken frame

pub frames_apart : (old taken : List (Option (List ℕ))) (frame : ℕ) (pages : List CachedPage) → old ≡ slice_set taken frame None → All (λ q. IsOut old q.frame) pages → All (λ q. q.frame ≢ frame) pages
frames_apart old taken frame pages e out k d below = taken-apart old taken frame _ e (out k d below)

-- what is written in it changes no other one, and nothing is left of it where it is given back
pub others_kept : (old taken new : List (Option (List ℕ))) (frame : ℕ) → old ≡ slice_set taken frame None → KeepsFrames frame taken new → new ≡ slice_set old frame (frame_at new frame)
others_kept old taken new frame e keeps =
    keeps ∙ sym (ap (λ frames. slice_set frames frame (frame_at new frame)) e ∙ set-set taken frame None (frame_at new frame))

pub all_back : (old taken new : List (Option (List ℕ))) (frame : ℕ) → old ≡ slice_set taken frame None → KeepsFrames frame taken new → slice_set new frame None ≡ old
all_back old taken new frame e keeps = ap (λ frames. slice_set frames frame None) keeps ∙ set-set taken frame (frame_at new frame) None ∙ sym e

-- a cache is of the store still, whose pages are the store's
pub store_then : (s : Shape) (c d : CacheState) → IsOfStore s c → SameLog c.log d.log → d.node ≡ c.node → All (λ p. p.ticket.page.0 < page_count s) d.pages → IsOfStore s d
store_then s c d store log node pages = record {
  valid = store.valid;
  shape = log.shape ∙ store.shape;
  node = subst (λ n. (1 ≤ n.0) × (n.0 ≤ s.nodes)) (sym node) store.node;
  pages = pages;
}

-- the entry that a map page has of a page fits it
entry_ident : (e : MapEntry) → IsEntry e → entries.ident_of e ≤ 2 ^ 63 + 2 ^ 40
entry_ident (Free ident) is = is
entry_ident (Used group ident) is = is.1

pub fits_entry : (s : Shape) (pool : List (Option (List ℕ))) (c : CacheState) (x : PageNo) (e : Option MapEntry) → IsEntryOf s pool c x e → FitsPage s x e
fits_entry s pool c x e is = elim (cases_lt x.0 s.maps) [
  | inl low ↦ subst (FitsPage s x) (sym (is.none low)) tt
  | inr high ↦
      let there = is.some high in
      let m = there.1 in
      subst (FitsPage s x) (sym there.4) (by high m there.3.text.image (slice_get m.entries (place_of_page s x)) refl)
]
  where
    by : s.maps ≤ x.0 → (m : MapImage) → IsMapImage m → (o : Option MapEntry) → slice_get m.entries (place_of_page s x) ≡ o → FitsPage s x o
    by high m image None at = tt
    by high m image (Some f) at = (high, entry_ident f (all_at IsEntry m.entries (place_of_page s x) f image.entries at))
