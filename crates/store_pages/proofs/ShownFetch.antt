-- What a node shows after it has fetched a page.
use Rattle.std.specs.Prelude.{◌≡◌, ◌*◌, ◌<◌, ◌≤◌, ◌∷◌, [], ℕ, Bool, true, false, List, Option, Some, None, All, IfSome, is_some, nat_lt, option_map, map, slice_index_or, if◌then◌else◌, refl}
use Rattle.std.specs.List.{slice_get}
use Rattle.std.proofs.Common.{arith, inl, inr, ap, subst, sym, ◌∙◌}
use Rattle.std.proofs.lemmas.Bool.Decides.{nat_tests}
use Rattle.std.proofs.lemmas.List.Elements.{All-push}
use Rattle.sd_base.specs.Disk.{BlockState, IsLawful}
use Rattle.sd_base.specs.Shape.{page_count}
use Rattle.sd_base.specs.declared.names.PageNo.{PageNo}
use Rattle.sd_base.specs.declared.shape.Shape.{Shape}
use Rattle.sd_base.specs.Places.{map_of_data, place_of_page}
use Rattle.sd_base.proofs.PlaceLaws.{map_of_data-below}
use Rattle.space_map.specs.declared.map_entry.MapEntry.{MapEntry}
use Rattle.space_map.specs.Entry.{ident_of}
use Rattle.space_map.specs.Image.{MapImage}
use Rattle.space_map.specs.Reading.{entries_at}
use Rattle.space_map.proofs.ImageLaws.{IsMapText-entries}
use Rattle.space_map.specs.PageImage.{PageImage, data_page, in_life, map_page}
use Rattle.state_ids.specs.Held.{Shows}
use Rattle.state_ids.specs.Blocks.{HoldsPage, page_place}
use Rattle.node_cache.specs.Cache.{AreOut, CachedPage, CacheState, IsCache, IsOfStore, IsTiedToLog, is_cached, is_changed, is_page, page_at}
use Rattle.node_cache.specs.Writes.{HoldsPages, NarrowsButPages}
use Rattle.node_cache.specs.Room.{Arrived, IsEntryOf, freed, leaving, staying}
use Rattle.node_cache.proofs.Arriving.{found_last}
use Rattle.node_cache.proofs.Fetched.{changed_after, frames_left, frames_stay, not_staying}
use Rattle.node_cache.proofs.Leaving.{all_left, all_stay}
use Rattle.node_cache.proofs.OnePage.{found, is_page-same}
use Rattle.node_cache.proofs.Without.{shows_same}
use Rattle.private_log.specs.Log.{IsLogOn, SameLog}
use Rattle.txn_core.specs.Seats.{SeatsState, txn_in}
use Rattle.txn_core.specs.Told.{AreTold}
use Rattle.record_machine.specs.Machine.{Machine}
use Rattle.record_machine.specs.Meaning.{Plain}
use Rattle.record_machine.specs.Parts.{Take, one}
use Rattle.store_nodes.specs.Shows.{IsOnDisk, ShowsUp, deeds_in, entry_in, image_in, numbers_of}
use Rattle.store_nodes.proofs.Living.{AreLiving}
use Rattle.store_pages.proofs.Stored.{still_stored, written_stored}
use Rattle.sd_base.proofs.Positions.{find_all}

-- ---- what each page shows

pub shown_stay : (s : Shape) (p : Plain) (x : PageNo) (e : Option MapEntry) (c d : CacheState) (pool new : List (Option (List ℕ))) → IsCache c.node c.pages → AreOut pool c → (came : Arrived s x e (staying s x c.pages) (freed (leaving s x c.pages) pool) d new)
    → All (λ q. Shows pool q.frame (image_in s p q.ticket.page)) c.pages → Shows new came.frame (image_in s p x) → All (λ q. Shows new q.frame (image_in s p q.ticket.page)) d.pages
shown_stay s p x e c d pool new is out came shown here =
    subst (All (λ q. Shows new q.frame (image_in s p q.ticket.page))) (sym came.last)
    (All-push (λ q. Shows new q.frame (image_in s p q.ticket.page)) (staying s x c.pages) _
    (λ k f low. let q = slice_index_or (staying s x c.pages) k f in shows_same pool new q.frame (image_in s p q.ticket.page) (frames_stay s x e c d pool new is out came k f low) (all_stay (λ q. Shows pool q.frame (image_in s p q.ticket.page)) s x c.pages shown k f low)) here)

-- a frame shows the entries of one map page
pub same_entries : (pool : List (Option (List ℕ))) (frame : ℕ) (m n : MapImage) → Shows pool frame (map_page m) → Shows pool frame (map_page n) → m.entries ≡ n.entries
same_entries pool frame m n a b =
    let both : Some a.bytes ≡ Some b.bytes = sym a.held ∙ b.held in
    let bytes : a.bytes ≡ b.bytes = cc in
    sym (IsMapText-entries m a.bytes a.text) ∙ ap entries_at bytes ∙ IsMapText-entries n b.bytes b.text

-- the entry of a page, as its map page shows it
pub entry_shown : (s : Shape) (p : Plain) (pool : List (Option (List ℕ))) (c : CacheState) (x : PageNo) (e : Option MapEntry) → x.0 < page_count s → All (λ q. Shows pool q.frame (image_in s p q.ticket.page)) c.pages → IsEntryOf s pool c x e → e ≡ entry_in s p x
entry_shown s p pool c x e within shown is = by (nat_lt x.0 s.maps) refl
  where
    by : (b : Bool) → nat_lt x.0 s.maps ≡ b → e ≡ entry_in s p x
    by true low = is.none (grind (arith, nat_tests)) ∙ rw low refl
    by false high =
        let map = is.some (grind (arith, nat_tests)) in
        let q = map.0 in
        let same : q.ticket.page ≡ map_of_data s x = is_page-same (map_of_data s x) q (found (is_page (map_of_data s x)) c.pages q map.2) in
        let low : nat_lt (map_of_data s x).0 s.maps ≡ true = (let far : s.maps ≤ x.0 = grind (arith, nat_tests) in let lt = map_of_data-below s x far within in grind (arith, nat_tests)) in
        let here : Shows pool q.frame (map_page (p.maps (map_of_data s x).0)) = subst (λ b. Shows pool q.frame (if b then map_page (p.maps (map_of_data s x).0) else data_page (p.pages (map_of_data s x).0))) low (subst (λ y. Shows pool q.frame (image_in s p y)) same (find_all (λ r. Shows pool r.frame (image_in s p r.ticket.page)) (is_page (map_of_data s x)) c.pages q map.2 shown)) in
        let one : map.1.entries ≡ (p.maps (map_of_data s x).0).entries = same_entries pool q.frame map.1 (p.maps (map_of_data s x).0) map.3 here in
        map.4 ∙ ap (λ es. slice_get es (place_of_page s x)) one ∙ rw high refl

-- ---- the pages on the disk

pub stored_fetched : (s : Shape) (p : Plain) (x : PageNo) (e : Option MapEntry) (c d : CacheState) (pool mid new : List (Option (List ℕ))) (b b' : ℕ → BlockState) → IsCache c.node c.pages → IsOfStore s c → IsTiedToLog c → AreLiving s p
    → All (λ q. Shows pool q.frame (image_in s p q.ticket.page)) c.pages → Arrived s x e (staying s x c.pages) mid d new → NarrowsButPages s c.log pool (leaving s x c.pages) b b' → HoldsPages s pool (leaving s x c.pages) b'
    → (y : PageNo) → y.0 < page_count s → (is_changed y c ≡ false → IsOnDisk s b p y) → is_changed y d ≡ false → IsOnDisk s b' p y
stored_fetched s p x e c d pool mid new b b' is store tie living shown came narrows holds y within was not = elim (changed_after s x y e c d mid new is came not) [
  | inl clean ↦ still_stored s p y c (leaving s x c.pages) pool b b' store tie living within gone_shown narrows (was clean)
  | inr gone ↦ written_stored s p y gone.0 pool b' living within gone.2 (first (subst (All (λ r. Shows pool r.frame (image_in s p r.ticket.page))) gone.1 gone_shown)) (subst (λ ps. HoldsPages s pool ps b') gone.1 holds 0 gone.0 (omega arith) gone.3)
]
  where
    gone_shown : All (λ r. Shows pool r.frame (image_in s p r.ticket.page)) (leaving s x c.pages)
    gone_shown = all_left (λ r. Shows pool r.frame (image_in s p r.ticket.page)) s x c.pages shown

    first : {q : CachedPage} → All (λ r. Shows pool r.frame (image_in s p r.ticket.page)) (q ∷ []) → Shows pool q.frame (image_in s p q.ticket.page)
    first {q} all = all 0 q (omega arith)

-- ---- all that a node that is up shows

-- the page that came in is the one that the store has
arrived_shows : (s : Shape) (p : Plain) (x : PageNo) (e : Option MapEntry) (c d : CacheState) (mid new : List (Option (List ℕ))) (b : ℕ → BlockState) → IsLawful b (page_place s x) → is_cached x c ≡ false → e ≡ entry_in s p x → (came : Arrived s x e (staying s x c.pages) mid d new) → IsOnDisk s b p x
    → is_some (page_at x (staying s x c.pages)) ≡ false → ((image : PageImage) → HoldsPage s x image (b (page_place s x)).current → IfSome (page_at x d.pages) (λ q. Shows new q.frame (in_life e image))) → Shows new came.frame (image_in s p x)
arrived_shows s p x e c d mid new b law missing entry came disk other image =
    let found = disk (b (page_place s x)).current law.current in
    let here : page_at x d.pages ≡ Some (record { ticket = record { page = x; node = d.node }; frame = came.frame; entry = e; changes = None }) = ap (page_at x) came.last ∙ found_last x (staying s x c.pages) (record { ticket = record { page = x; node = d.node }; frame = came.frame; entry = e; changes = None }) other refl in
    let shows : Shows new came.frame (in_life e found.0) = subst (λ o. IfSome o (λ q. Shows new q.frame (in_life e found.0))) here (image found.0 found.1) in
    subst (Shows new came.frame) (ap (λ o. in_life o found.0) entry ∙ found.2) shows

pub up_fetched : (s : Shape) (pool new : List (Option (List ℕ))) (n : ℕ) (x : PageNo) (e : Option MapEntry) (c d : CacheState) (seats : SeatsState) (b b' : ℕ → BlockState) (p : Plain) (m : Machine) → IsCache c.node c.pages → IsOfStore s c → IsTiedToLog c → AreOut pool c → ((k : ℕ) → IsLawful b k) → x.0 < page_count s → IsOnDisk s b p x
    → is_cached x c ≡ false → IsEntryOf s pool c x e → d.node ≡ c.node → SameLog c.log d.log → Arrived s x e (staying s x c.pages) (freed (leaving s x c.pages) pool) d new
    → ((image : PageImage) → HoldsPage s x image (b (page_place s x)).current → IfSome (page_at x d.pages) (λ q. Shows new q.frame (in_life e image))) → ((xs : List (List ℕ)) → IsLogOn c.log b xs → IsLogOn d.log b' xs) → ShowsUp s pool n c seats b p m → ShowsUp s new n d seats b' p m
up_fetched s pool new n x e c d seats b b' p m is store tie out law within disk missing entry node same came image log was =
    let e_is = entry_shown s p pool c x e within was.cached entry in
    let start : d.log.start ≡ c.log.start = same.start in
    record {
      records = record { legal = was.records.legal; on = log _ was.records.on };
      told = subst (λ k. AreTold seats k (p.live n)) (sym start) was.told;
      start = was.start ∙ sym start;
      cached = shown_stay s p x e c d pool new is out came was.cached (arrived_shows s p x e c d _ new b (law (page_place s x)) missing e_is came disk (not_staying s x c missing) image);
      lives = subst (All (λ q. option_map ident_of q.entry ≡ option_map ident_of (entry_in s p q.ticket.page))) (sym came.last) (All-push (λ q. option_map ident_of q.entry ≡ option_map ident_of (entry_in s p q.ticket.page)) (staying s x c.pages) _ (all_stay (λ q. option_map ident_of q.entry ≡ option_map ident_of (entry_in s p q.ticket.page)) s x c.pages was.lives) (ap (option_map ident_of) e_is));
      deeds = λ seat low. subst (λ k. map (λ e. e.number) (deeds_in seat (m.pending n)) ≡ numbers_of (6 * k) (p.live n) (txn_in seats seat)) (sym start) (was.deeds seat low);
      within = was.within;
    }

-- so it does where the page didn't come in
pub up_missed : (s : Shape) (pool new : List (Option (List ℕ))) (n : ℕ) (x : PageNo) (c d : CacheState) (seats : SeatsState) (b b' : ℕ → BlockState) (p : Plain) (m : Machine) → IsCache c.node c.pages → SameLog c.log d.log → d.pages ≡ staying s x c.pages → new ≡ freed (leaving s x c.pages) pool
    → ((xs : List (List ℕ)) → IsLogOn c.log b xs → IsLogOn d.log b' xs) → ShowsUp s pool n c seats b p m → ShowsUp s new n d seats b' p m
up_missed s pool new n x c d seats b b' p m is same pages frees log was =
    let start : d.log.start ≡ c.log.start = same.start in
    record {
      records = record { legal = was.records.legal; on = log _ was.records.on };
      told = subst (λ k. AreTold seats k (p.live n)) (sym start) was.told;
      start = was.start ∙ sym start;
      cached = subst (λ frames. All (λ q. Shows frames q.frame (image_in s p q.ticket.page)) d.pages) (sym frees) (subst (All (λ q. Shows (freed (leaving s x c.pages) pool) q.frame (image_in s p q.ticket.page))) (sym pages)
          (λ k f low. let q = slice_index_or (staying s x c.pages) k f in shows_same pool (freed (leaving s x c.pages) pool) q.frame (image_in s p q.ticket.page) (frames_left s x c.node c.pages pool is k f low) (all_stay (λ q. Shows pool q.frame (image_in s p q.ticket.page)) s x c.pages was.cached k f low)));
      lives = subst (All (λ q. option_map ident_of q.entry ≡ option_map ident_of (entry_in s p q.ticket.page))) (sym pages) (all_stay (λ q. option_map ident_of q.entry ≡ option_map ident_of (entry_in s p q.ticket.page)) s x c.pages was.lives);
      deeds = λ seat low. subst (λ k. map (λ e. e.number) (deeds_in seat (m.pending n)) ≡ numbers_of (6 * k) (p.live n) (txn_in seats seat)) (sym start) (was.deeds seat low);
      within = was.within;
    }

-- what a node shows doesn't hang on who holds the pages
pub up_taken : (s : Shape) (pool : List (Option (List ℕ))) (n : ℕ) (c : CacheState) (seats : SeatsState) (b : ℕ → BlockState) (p : Plain) (m : Machine) (x k : ℕ) → ShowsUp s pool n c seats b p m → ShowsUp s pool n c seats b p (one (Take x k) m)
up_taken s pool n c seats b p m x k was = record { records = was.records; told = was.told; start = was.start; cached = was.cached; lives = was.lives; deeds = was.deeds; within = was.within }
