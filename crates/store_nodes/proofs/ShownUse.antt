-- What a store shows after a free place of a map page has come into use.
use Rattle.std.specs.Prelude.{◌≡◌, ◌≢◌, ◌+◌, ◌*◌, ◌≤◌, ◌<◌, ◌++◌, ◌∷◌, [], ℕ, zero, suc, Bool, true, false, List, Option, Some, None, IfSome, nat_lt, option_map, slice_index_or, slice_set, if◌then◌else◌, refl}
use Rattle.std.specs.List.{slice_get}
use Rattle.std.proofs.Common.{arith, ap, subst, sym, ◌∙◌}
use Rattle.sd_base.specs.Disk.{BlockState}
use Rattle.sd_base.specs.declared.names.GroupNo.{GroupNo}
use Rattle.sd_base.specs.declared.names.PageNo.{PageNo}
use Rattle.sd_base.specs.declared.page_op.PageOp.TheVariants as ops
use Rattle.sd_base.specs.declared.shape.Shape.{Shape}
use Rattle.sd_base.specs.Places.{group_of, map_of_data, map_of_key, place_of_page}
use Rattle.frame_pool.specs.Frames.{frame_at}
use Rattle.space_map.specs.declared.map_entry.MapEntry.{MapEntry}
use Rattle.space_map.specs.declared.map_entry.MapEntry.TheVariants.{Free, Used}
use Rattle.space_map.specs.Change.{applied_map}
use Rattle.space_map.specs.Entry.{ident_of}
use Rattle.space_map.specs.Image.{MapImage}
use Rattle.log_record.specs.declared.record.LogRecord.{LogRecord}
use Rattle.log_record.specs.declared.record.LogRecord.TheVariants.{MapUse}
use Rattle.page_owner.specs.declared.owners.Own.{Own}
use Rattle.private_log.specs.Log.{SameLog, space}
use Rattle.compensation.specs.Left.{is_update_of, next_after}
use Rattle.state_ids.specs.Held.{KeepsFrames, Shows}
use Rattle.space_map.specs.PageImage.{data_page, map_page}
use Rattle.node_cache.specs.Cache as cache
use Rattle.node_cache.specs.Cache.{CacheState, changed_by, is_page, page_at}
use Rattle.node_cache.proofs.OnePage.{found, is_page-other, is_page-same}
use Rattle.node_cache.proofs.Without.{shows_same}
use Rattle.txn_core.specs.Seats.{OpenTxn, SeatsState, txn_in}
use Rattle.txn_core.specs.Told.{AreTold, HasRecords}
use Rattle.txn_core.proofs.SeatLaws.{space_less}
use Rattle.record_machine.specs.Machine.{Machine, free_place, home}
use Rattle.record_machine.specs.Meaning.{IsUsed, Means, Plain, logged, with_map}
use Rattle.record_machine.specs.Parts.{Use, one}
use Rattle.record_machine.proofs.Put.{at_or_off, put_other, put_same}
use Rattle.record_machine.proofs.Steps.{means_used}
use Rattle.store_nodes.specs.Pages.{HasMap, UsesPlace}
use Rattle.store_nodes.specs.Nodes.{IsAtWork}
use Rattle.store_nodes.specs.Shows.{ShowsUp, image_in}
use Rattle.store_nodes.proofs.CachedImages.{map_image}
use Rattle.store_nodes.proofs.OtherRecords.{use_is_none}
use Rattle.store_nodes.proofs.ShownBegin.{numbers-other}
use Rattle.store_nodes.proofs.ShownChange.{OnlyPage, up_changed}
use Rattle.sd_base.proofs.Positions.{find_all}
use Rattle.node_cache.proofs.ChangedPages.{frames_beside, page_beside}

-- ---- the map page

-- an entry that is set to one of the same identifier
idents_set : (es : List MapEntry) (place k : ℕ) (e : MapEntry) → ident_of e ≡ ident_of (slice_index_or es place (Free 0)) → option_map ident_of (slice_get (slice_set es place e) k) ≡ option_map ident_of (slice_get es k)
idents_set [] place k e same = refl
idents_set (f ∷ es) zero zero e same = ap Some same
idents_set (f ∷ es) zero (suc k) e same = refl
idents_set (f ∷ es) (suc place) zero e same = refl
idents_set (f ∷ es) (suc place) (suc k) e same = idents_set es place k e same

-- another map page in place of one, with entries of the same identifiers
only_map : (s : Shape) (p : Plain) (x : PageNo) (map : MapImage) → ((k : ℕ) → option_map ident_of (slice_get map.entries k) ≡ option_map ident_of (slice_get (p.maps x.0).entries k)) → OnlyPage s p (with_map x.0 map p) x
only_map s p x map idents = record {
  live = λ n. refl;
  others = λ y other. ap (λ m. if nat_lt y.0 s.maps then map_page m else data_page (p.pages y.0)) (put_other x.0 map p.maps y.0 (λ same. other (ap (λ n. record { 0 = n }) same)));
  entries = λ y. either (nat_lt y.0 s.maps) _ _ (at_or_off (λ m. option_map ident_of (slice_get m.entries (place_of_page s y)) ≡ option_map ident_of (slice_get (p.maps (map_of_data s y).0).entries (place_of_page s y))) x.0 map p.maps (map_of_data s y).0
      (λ same. idents (place_of_page s y) ∙ ap (λ n. option_map ident_of (slice_get (p.maps n).entries (place_of_page s y))) (sym same)) (λ other. refl));
}
  where
    either : (b : Bool) (e f : Option MapEntry) → option_map ident_of e ≡ option_map ident_of f → option_map ident_of (if b then None else e) ≡ option_map ident_of (if b then None else f)
    either true e f same = refl
    either false e f same = same

-- the map page with a place of it in use
pub only_used : (s : Shape) (p : Plain) (x : PageNo) (place : ℕ) (group : GroupNo) → OnlyPage s p (with_map x.0 (applied_map (ops.MapUse place group) (p.maps x.0)) p) x
only_used s p x place group = only_map s p x (applied_map (ops.MapUse place group) (p.maps x.0)) (λ k. idents_set (p.maps x.0).entries place k (Used group (ident_of (slice_index_or (p.maps x.0).entries place (Free 0)))) refl)

-- its entry is in use, and the map page has changed
pub place_used : (p : Plain) (m : Machine) (map place : ℕ) (group : GroupNo) → map < m.shape.maps → Means p m → IsUsed m map place group (p.maps map) (applied_map (ops.MapUse place group) (p.maps map))
place_used p m map place group near means = record {
  page = refl;
  ident = refl;
  entries = ap (λ es. slice_set (p.maps map).entries place (Used group (ident_of (slice_index_or es place (Free 0))))) (means.pages.entries map near);
}

-- what a store means, where the place of the map page has come into use
pub means_placed : (n : ℕ) (p : Plain) (m : Machine) (map : PageNo) (place key : ℕ) (group : GroupNo) (rec : LogRecord) → home m key ≡ None → free_place m key ≡ Some place → group_of key ≡ group → map_of_key m.shape key ≡ map.0 → map.0 < m.shape.maps → Means p m
    → Means (logged n rec (with_map map.0 (applied_map (ops.MapUse place group) (p.maps map.0)) p)) (one (Use n map.0 place group) m)
means_placed n p m map place key group rec none free its_group its_map near means =
    subst (λ g. Means (logged n rec (with_map map.0 (applied_map (ops.MapUse place g) (p.maps map.0)) p)) (one (Use n map.0 place g) m)) its_group
    (subst (λ k. Means (logged n rec (with_map k (applied_map (ops.MapUse place (group_of key)) (p.maps k)) p)) (one (Use n k place (group_of key)) m)) its_map
    (means_used p m n place key rec (applied_map (ops.MapUse place (group_of key)) (p.maps (map_of_key m.shape key))) none free (place_used p m (map_of_key m.shape key) place (group_of key) (subst (λ k. k < m.shape.maps) (sym its_map) near) means) means))

-- ---- the node after it

module _ (n : ℕ) (s : Shape) (pool new : List (Option (List ℕ))) (owners : List Own) (c d : CacheState) (seats : SeatsState) (map : PageNo) (image : MapImage) (work : IsAtWork s pool owners n c seats) (has : HasMap pool c.pages map image) (keeps : KeepsFrames has.page.frame pool new)
    (pages : d.pages ≡ cache.with_page map (changed_by c.log.tail) c.pages) (same : SameLog c.log d.log) where
  pub uses_place : map.0 < s.maps → d.log.tail ≡ c.log.tail + 1 → 6 * c.log.start ≤ c.log.tail → 1 ≤ space c.log → UsesPlace s.maps pool new c d seats seats
  uses_place near tail low some = record {
    seats = refl;
    tail = tail;
    room = space_less c.log d.log same tail low some;
    pages = λ x v far was.
        let apart : x ≢ map = λ e. let number : x.0 ≡ map.0 = ap (λ (y : PageNo). y.0) e in omega (arith, number, far, near) in
        let other : is_page map was.page ≡ false = is_page-other map was.page (λ e. apart (sym (is_page-same x was.page (found (is_page x) c.pages was.page was.there)) ∙ e)) in
        let frame = find_all (λ q. is_page map q ≡ false → frame_at new q.frame ≡ frame_at pool q.frame) (is_page x) c.pages was.page was.there (frames_beside c.node c.pages map has.page pool new work.cache has.there keeps) other in
        record {
          page = was.page;
          there = ap (page_at x) pages ∙ page_beside map x (changed_by c.log.tail) c.pages (λ p. refl) apart ∙ was.there;
          shows = shows_same pool new was.page.frame (data_page v) frame was.shows;
          number = was.number;
        };
  }

  pub up_used : (b b' : ℕ → BlockState) (p : Plain) (m : Machine) (bsi place : ℕ) (group : GroupNo) → map.0 < s.maps → image ≡ p.maps map.0 → Shows new has.page.frame (map_page (applied_map (ops.MapUse place group) image))
      → HasRecords d.log b' (p.live n ++ MapUse map bsi place group ∷ []) → AreTold seats c.log.start (p.live n ++ MapUse map bsi place group ∷ []) → ShowsUp s pool n c seats b p m
      → ShowsUp s new n d seats b' (logged n (MapUse map bsi place group) (with_map map.0 (applied_map (ops.MapUse place group) (p.maps map.0)) p)) (one (Use n map.0 place group) m)
  up_used b b' p m bsi place group near is shown records told was =
      let rec : LogRecord = MapUse map bsi place group in
      let next : MapImage = applied_map (ops.MapUse place group) (p.maps map.0) in
      let here : Shows new has.page.frame (image_in s (with_map map.0 next p) map) =
      subst (Shows new has.page.frame) (sym (map_image s (with_map map.0 next p) map near ∙ ap map_page (put_same map.0 next p.maps map.0 refl))) (subst (λ i. Shows new has.page.frame (map_page (applied_map (ops.MapUse place group) i))) is shown) in
      up_changed n s pool new c d seats seats b b' p (with_map map.0 next p) m (one (Use n map.0 place group) m) map has.page c.log.tail rec (only_used s p map place group)
      work.cache has.there keeps here pages same refl records told
      (λ seat low. was.deeds seat low ∙ sym (numbers-other (6 * c.log.start) (p.live n) rec (txn_in seats seat) (none_of (txn_in seats seat) bsi place group))) was.within was
    where
      none_of : (o : Option OpenTxn) (bsi place : ℕ) (group : GroupNo) → IfSome o (λ t. (is_update_of t.begin (MapUse map bsi place group) ≡ false) × (next_after t.begin (MapUse map bsi place group) ≡ None))
      none_of None bsi place group = tt
      none_of (Some t) bsi place group = use_is_none map bsi place group t.begin
