-- What a cache is without one page that its node gives up.
use Rattle.std.specs.Prelude.{◌≡◌, ◌≢◌, ◌↔◌, ◌+◌, ◌<◌, ◌≤◌, ℕ, true, false, IsTrue, Bool, List, [], ◌∷◌, Option, Some, None, IfSome, All, AllPairs, is_some, option_and_then, option_map, length, slice_set, refl}
use Rattle.std.specs.List.{cons_option, remove, slice_get}
use Rattle.std.proofs.Common.{inl, inr, ap, subst, subst₂, sym, ◌∙◌}
use Rattle.sd_base.specs.Disk.{BlockState}
use Rattle.sd_base.specs.Shape.{page_count}
use Rattle.sd_base.specs.declared.device.NodeId.{NodeId}
use Rattle.sd_base.specs.declared.names.PageNo.{PageNo}
use Rattle.sd_base.specs.declared.shape.Shape.{Shape}
use Rattle.frame_pool.specs.Frames.{IsOut}
use Rattle.page_owner.specs.declared.owners.Own.{Own}
use Rattle.page_owner.specs.declared.owners.Own.TheVariants.{Nobody, Parked, Out}
use Rattle.page_owner.specs.Owners.{owner_of}
use Rattle.state_ids.specs.Blocks.{ShowsPage}
use Rattle.node_cache.specs.Cache.{AreOut, AreOwned, AreShown, CachedPage, CacheState, Changes, IsCache, IsInLife, IsOfStore, IsTiedToDisk, IsTiedToLog, StandsFor, first_change, is_page, page_at, place_of, with_page, written_back}
use Rattle.node_cache.specs.Room.{IsHeldBy, freed, without_page}
use Rattle.sd_base.proofs.Positions.{not_placed, placed}
use Rattle.node_cache.proofs.Finding.{all_at, got}
use Rattle.node_cache.proofs.FlushLaws.{page_missing}
use Rattle.node_cache.proofs.OnePage.{found, is_page-same, set_page}
use Rattle.node_cache.proofs.Owning.{pages_beside, pages_without}
use Rattle.node_cache.proofs.PageWrites.{there_is}
use Rattle.node_cache.proofs.Packing.{first_fails, first_passes}
use Rattle.node_cache.proofs.Parking.{is_within}
use Rattle.node_cache.specs.Records.{IsTiedToRecords}
use Rattle.node_cache.proofs.RecordTie.{records_without}
use Rattle.node_cache.proofs.Ties.{state_of}
use Rattle.node_cache.proofs.Without.{all_without, left_out, left_shown, left_tied, log_without, set_gone}

-- The page x at its place.
pub record IsAt (x : PageNo) (pages : List CachedPage) (i : ℕ) : Type 0 where
  pub page : CachedPage
  pub at : slice_get pages i ≡ Some page
  pub is : page.ticket.page ≡ x
  pub there : page_at x pages ≡ Some page

pub page_placed : (x : PageNo) (pages : List CachedPage) (i : ℕ) → place_of x pages ≡ Some i → IsAt x pages i
page_placed x pages i place =
    let is = placed (is_page x) pages i place in
    let here = there_is pages i is.0 in
    record { page = here.0; at = here.1; is = is_page-same x here.0 (found (is_page x) pages here.0 (is.1 ∙ here.1)); there = is.1 ∙ here.1 }

-- a page of which no changes are found has none
pub unchanged_is : (o : Option CachedPage) (p : CachedPage) → is_some (option_and_then first_change o) ≡ false → o ≡ Some p → p.changes ≡ None
unchanged_is o p none there = by p.changes refl (subst (λ q. is_some (option_and_then first_change q) ≡ false) there none)
  where
    by : (c : Option Changes) → p.changes ≡ c → is_some (first_change p) ≡ false → p.changes ≡ None
    by None e none = e
    by (Some c) e none = let some : is_some (first_change p) ≡ true = rw e refl in absurd cc

-- ---- the page after it was written

-- it has no changes
pub unchanged_written : (x : PageNo) (pages : List CachedPage) → is_some (option_and_then first_change (page_at x (with_page x written_back pages))) ≡ false
unchanged_written x [] = refl
unchanged_written x (p ∷ ps) = by (is_page x p) refl (unchanged_written x ps)
  where
    by : (b : Bool) → is_page x p ≡ b → is_some (option_and_then first_change (page_at x (with_page x written_back ps))) ≡ false → is_some (option_and_then first_change (page_at x (with_page x written_back (p ∷ ps)))) ≡ false
    by true is rest = rw is (rw is refl)
    by false is rest = rw is (rw is rest)

-- it is the page that it was, in its place
pub found_written : (x : PageNo) (pages : List CachedPage) → page_at x (with_page x written_back pages) ≡ option_map written_back (page_at x pages)
found_written x [] = refl
found_written x (p ∷ ps) = by (is_page x p) refl (found_written x ps)
  where
    by : (b : Bool) → is_page x p ≡ b → page_at x (with_page x written_back ps) ≡ option_map written_back (page_at x ps) → page_at x (with_page x written_back (p ∷ ps)) ≡ option_map written_back (page_at x (p ∷ ps))
    by true is rest = rw is (rw is refl)
    by false is rest = rw is (rw is rest)

place_written : (x : PageNo) (pages : List CachedPage) → place_of x (with_page x written_back pages) ≡ place_of x pages
place_written x [] = refl
place_written x (p ∷ ps) = by (is_page x p) refl (place_written x ps)
  where
    here : is_page x p ≡ true → with_page x written_back (p ∷ ps) ≡ written_back p ∷ with_page x written_back ps
    here is = rw is refl

    other : is_page x p ≡ false → with_page x written_back (p ∷ ps) ≡ p ∷ with_page x written_back ps
    other is = rw is refl

    by : (b : Bool) → is_page x p ≡ b → place_of x (with_page x written_back ps) ≡ place_of x ps → place_of x (with_page x written_back (p ∷ ps)) ≡ place_of x (p ∷ ps)
    by true is rest = ap (place_of x) (here is) ∙ first_passes (is_page x) (written_back p) (with_page x written_back ps) is ∙ sym (first_passes (is_page x) p ps is)
    by false is rest = ap (place_of x) (other is) ∙ first_fails (is_page x) p (with_page x written_back ps) is ∙ ap (option_map (λ i. i + 1)) rest ∙ sym (first_fails (is_page x) p ps is)

-- the other pages are the same
pub without_written : (x : PageNo) (pages : List CachedPage) → AllPairs (λ p q. p.ticket.page ≢ q.ticket.page) pages → without_page x (with_page x written_back pages) ≡ without_page x pages
without_written x pages once = by (place_of x pages) refl
  where
    by : (o : Option ℕ) → place_of x pages ≡ o → without_page x (with_page x written_back pages) ≡ without_page x pages
    by None none = ap (without_page x) (page_missing x written_back pages (not_placed (is_page x) pages none))
    by (Some i) place =
        let at = page_placed x pages i place in
        let is : is_page x at.page ≡ true = found (is_page x) pages at.page at.there in
        let whole : without_page x (with_page x written_back pages) ≡ remove (with_page x written_back pages) i = rw (place_written x pages ∙ place) refl in
        let rest : without_page x pages ≡ remove pages i = rw place refl in
        whole ∙ ap (λ ps. remove ps i) (sym (set_page x written_back pages i at.page once at.at is)) ∙ set_gone pages i (written_back at.page) ∙ sym rest

pub freed_written : (x : PageNo) (pages : List CachedPage) (pool : List (Option (List ℕ))) → freed (cons_option (page_at x (with_page x written_back pages)) []) pool ≡ freed (cons_option (page_at x pages) []) pool
freed_written x pages pool = ap (λ o. freed (cons_option o []) pool) (found_written x pages) ∙ by (page_at x pages)
  where
    by : (o : Option CachedPage) → freed (cons_option (option_map written_back o) []) pool ≡ freed (cons_option o []) pool
    by None = refl
    by (Some p) = refl

-- what is tied to the device has the page on it
pub stands_written : (s : Shape) (x : PageNo) (pool : List (Option (List ℕ))) (pages : List CachedPage) (c : CacheState) (b : ℕ → BlockState) → c.pages ≡ with_page x written_back pages → IsTiedToDisk s pool c b → IfSome (page_at x pages) (λ p. StandsFor s pool p b)
stands_written s x pool pages c b are tie = by (page_at x pages) refl
  where
    clean : All (λ q. q.changes ≡ None → StandsFor s pool q b) (with_page x written_back pages)
    clean = subst (All (λ q. q.changes ≡ None → StandsFor s pool q b)) are tie.clean

    at : (p : CachedPage) → page_at x pages ≡ Some p → (o : Option ℕ) → place_of x (with_page x written_back pages) ≡ o → StandsFor s pool p b
    at p there None none = let never = sym (not_placed (is_page x) (with_page x written_back pages) none) ∙ found_written x pages ∙ ap (option_map written_back) there in absurd cc
    at p there (Some i) place =
        let here = page_placed x (with_page x written_back pages) i place in
        let both = sym here.there ∙ found_written x pages ∙ ap (option_map written_back) there in
        let same : here.page ≡ written_back p = cc in
        all_at (λ q. q.changes ≡ None → StandsFor s pool q b) (with_page x written_back pages) i (written_back p) clean (here.at ∙ ap Some same) refl

    by : (o : Option CachedPage) → page_at x pages ≡ o → IfSome o (λ p. StandsFor s pool p b)
    by None none = tt
    by (Some p) there = at p there (place_of x (with_page x written_back pages)) refl

-- ---- the cache after the page has gone
module _ (s : Shape) (x : PageNo) (pool : List (Option (List ℕ))) (owners : List Own) (c d : CacheState) (is : IsCache c.node c.pages) (node : d.node ≡ c.node) (pages : d.pages ≡ without_page x c.pages) where
  -- where it wasn't cached, and where it was
  gone_none : place_of x c.pages ≡ None → d.pages ≡ c.pages
  gone_none none = pages ∙ rw none refl

  gone_one : (i : ℕ) → place_of x c.pages ≡ Some i → d.pages ≡ remove c.pages i
  gone_one i place = pages ∙ rw place refl

  pub owned_given : IsHeldBy c.node (owner_of owners x.0) → AreOwned owners c → AreOwned (slice_set owners x.0 Nobody) d
  owned_given held owned = by (place_of x c.pages) refl
    where
      low : x.0 < length owners
      low = elim held [
        | inl parked ↦ is_within owners x.0 (Parked c.node) (λ e. cc) parked
        | inr out ↦ is_within owners x.0 (Out c.node) (λ e. cc) out
      ]

      by : (o : Option ℕ) → place_of x c.pages ≡ o → AreOwned (slice_set owners x.0 Nobody) d
      by None none =
          let are = pages_beside owners c.node c.pages x Nobody (λ e. cc) low (ap is_some (not_placed (is_page x) c.pages none)) owned in
          subst₂ (λ n ps. (y : PageNo) → (owner_of (slice_set owners x.0 Nobody) y.0 ≡ Out n) ↔ IsTrue (is_some (page_at y ps))) (sym node) (sym (gone_none none)) are
      by (Some i) place =
          let at = page_placed x c.pages i place in
          let within : at.page.ticket.page.0 < length owners = subst (λ y. y.0 < length owners) (sym at.is) low in
          let are = pages_without owners c.node c.pages i at.page Nobody (λ e. cc) is.once at.at within owned in
          subst₂ (λ n ps. (y : PageNo) → (owner_of (slice_set owners x.0 Nobody) y.0 ≡ Out n) ↔ IsTrue (is_some (page_at y ps))) (sym node) (sym (gone_one i place)) (subst (λ y. (z : PageNo) → (owner_of (slice_set owners y.0 Nobody) z.0 ≡ Out c.node) ↔ IsTrue (is_some (page_at z (remove c.pages i)))) at.is are)

  pub out_given : AreOut pool c → AreOut (freed (cons_option (page_at x c.pages) []) pool) d
  out_given out = by (place_of x c.pages) refl
    where
      by : (o : Option ℕ) → place_of x c.pages ≡ o → AreOut (freed (cons_option (page_at x c.pages) []) pool) d
      by None none = subst₂ (λ o ps. All (λ q. IsOut (freed (cons_option o []) pool) q.frame) ps) (sym (not_placed (is_page x) c.pages none)) (sym (gone_none none)) out
      by (Some i) place =
          let at = page_placed x c.pages i place in
          subst₂ (λ o ps. All (λ q. IsOut (freed (cons_option o []) pool) q.frame) ps) (sym at.there) (sym (gone_one i place)) (left_out pool c.pages i at.page is.apart at.at out)

  pub shown_given : AreShown s pool c → AreShown s (freed (cons_option (page_at x c.pages) []) pool) d
  shown_given shown = by (place_of x c.pages) refl
    where
      by : (o : Option ℕ) → place_of x c.pages ≡ o → AreShown s (freed (cons_option (page_at x c.pages) []) pool) d
      by None none = subst₂ (λ o ps. All (λ q. ShowsPage s q.ticket.page (freed (cons_option o []) pool) q.frame) ps) (sym (not_placed (is_page x) c.pages none)) (sym (gone_none none)) shown
      by (Some i) place =
          let at = page_placed x c.pages i place in
          subst₂ (λ o ps. All (λ q. ShowsPage s q.ticket.page (freed (cons_option o []) pool) q.frame) ps) (sym at.there) (sym (gone_one i place)) (left_shown pool c.pages i at.page is.apart at.at s shown)

  pub log_given : d.log ≡ c.log → IsTiedToLog c → IsTiedToLog d
  log_given log tie = by (place_of x c.pages) refl
    where
      by : (o : Option ℕ) → place_of x c.pages ≡ o → IsTiedToLog d
      by None none = state_of IsTiedToLog c d log node (gone_none none) tie
      by (Some i) place = log_without c d i (got c.pages i _ (page_placed x c.pages i place).at).0 log node (gone_one i place) tie

  pub store_given : d.log ≡ c.log → IsOfStore s c → IsOfStore s d
  store_given log store = record {
    valid = store.valid;
    shape = ap (λ l. l.shape) log ∙ store.shape;
    node = subst (λ (n : NodeId). (1 ≤ n.0) × (n.0 ≤ s.nodes)) (sym node) store.node;
    pages = by (place_of x c.pages) refl;
  }
    where
      by : (o : Option ℕ) → place_of x c.pages ≡ o → All (λ p. p.ticket.page.0 < page_count s) d.pages
      by None none = subst (All (λ p. p.ticket.page.0 < page_count s)) (sym (gone_none none)) store.pages
      by (Some i) place = subst (All (λ p. p.ticket.page.0 < page_count s)) (sym (gone_one i place)) (all_without (λ p. p.ticket.page.0 < page_count s) c.pages i (got c.pages i _ (page_placed x c.pages i place).at).0 store.pages)

  pub disk_given : (b : ℕ → BlockState) → IsTiedToDisk s pool c b → IsTiedToDisk s (freed (cons_option (page_at x c.pages) []) pool) d b
  disk_given b tie = by (place_of x c.pages) refl
    where
      by : (o : Option ℕ) → place_of x c.pages ≡ o → IsTiedToDisk s (freed (cons_option (page_at x c.pages) []) pool) d b
      by None none =
          let same = gone_none none in
          subst (λ o. IsTiedToDisk s (freed (cons_option o []) pool) d b) (sym (not_placed (is_page x) c.pages none)) (record {
            shown = subst (All (λ q. ShowsPage s q.ticket.page pool q.frame)) (sym same) tie.shown;
            life = subst (All (IsInLife pool)) (sym same) tie.life;
            clean = subst (All (λ q. q.changes ≡ None → StandsFor s pool q b)) (sym same) tie.clean;
          })
      by (Some i) place =
          let at = page_placed x c.pages i place in
          subst (λ o. IsTiedToDisk s (freed (cons_option o []) pool) d b) (sym at.there) (left_tied pool c.pages i at.page is.apart at.at s c d b refl (gone_one i place) tie)

  pub records_given : d.log ≡ c.log → (b : ℕ → BlockState) (xs : List (List ℕ)) → IsTiedToRecords s c b xs → IsTiedToRecords s d b xs
  records_given log b xs tie = by (place_of x c.pages) refl
    where
      by : (o : Option ℕ) → place_of x c.pages ≡ o → IsTiedToRecords s d b xs
      by None none = state_of (λ a. IsTiedToRecords s a b xs) c d log node (gone_none none) tie
      by (Some i) place = records_without s c d b xs i (got c.pages i _ (page_placed x c.pages i place).at).0 log (gone_one i place) tie
