-- The record of an update, and the page after it.
use Rattle.std.specs.Prelude.{◌≡◌, ◌≢◌, ◌+◌, ◌*◌, ◌^◌, ◌≤◌, ◌<◌, ◌++◌, ◌∷◌, [], ℕ, Bool, true, false, List, Option, Some, None, All, AllPairs, IfSome, is_some, option_map, length, unwrap_or, slice_index_or, slice_set, refl}
use Rattle.std.proofs.Common.{arith, inl, inr, ap, subst, sym, ◌∙◌}
use Rattle.std.proofs.lemmas.Bool.{cases_eq, cases_order, eq-eqb}
use Rattle.std.proofs.lemmas.Bool.Decides.{nat_tests}
use Rattle.std.proofs.lemmas.List.{length-set, get_or-set_same, get_or-set_other, get_or_default}
use Rattle.sd_base.specs.declared.names.PageNo.{PageNo}
use Rattle.sd_base.specs.declared.page_op.PageOp.{PageOp}
use Rattle.page_image.specs.declared.page_view.PageView.{PageView}
use Rattle.page_image.specs.Image.{IsTextOf}
use Rattle.page_image.specs.Change.{applied}
use Rattle.sd_base.specs.Slot.{FitsSlot}
use Rattle.state_ids.specs.Held.{Shows}
use Rattle.log_record.specs.declared.record.LogRecord.{LogRecord}
use Rattle.log_record.specs.Fields.{fields_of}
use Rattle.log_record.specs.Legal.{IsLegal, IsContent, IsMark}
use Rattle.log_record.specs.Record.{page_op_of}
use Rattle.compensation.specs.Inverse.{content}
use Rattle.compensation.specs.Left.{is_update_of, next_after}
use Rattle.compensation.specs.Finding.{record_before}
use Rattle.frame_pool.specs.Frames.{frame_at}
use Rattle.private_log.specs.Log.{IsLog, SameLog, space}
use Rattle.state_ids.specs.PageImage.{data_page, is_map_op}
use Rattle.state_ids.proofs.PageLaws.{Shows-text, changed-page}
use Rattle.node_cache.specs.Cache.{CachedPage, CacheState, is_page, page_at, with_page}
use Rattle.txn_core.specs.declared.change.Change.{Change}
use Rattle.txn_core.specs.declared.change.Change.TheVariants.{Put, Append, Delete}
use Rattle.txn_core.specs.Seats.{AreApart, AreTied, OpenTxn, SeatsState, owed, txn_in}
use Rattle.txn_core.specs.Told.{AreTold, IsOpenIn}
use Rattle.txn_core.specs.Updates.{FitsSlotOf, HasPage, op_of, update_of}
use Rattle.txn_core.proofs.SeatLaws.{LiesIn, all_longer, apart_set, owed_set, space_less}
use Rattle.txn_core.proofs.ToldLaws.{names-push, open-other, open-updated}

-- what is seen of a cached page is its text
pub viewed : (pool : List (Option (List ℕ))) (pages : List CachedPage) (x : PageNo) (v : PageView) (bytes : List ℕ) → HasPage pool pages x v → IfSome (page_at x pages) (λ p. frame_at pool p.frame ≡ Some bytes) → IsTextOf v bytes
viewed pool pages x v bytes has seen = Shows-text pool has.page.frame (data_page v) bytes has.shows (subst (λ o. IfSome o (λ p. frame_at pool p.frame ≡ Some bytes)) has.there seen)

pub op_update : (t : OpenTxn) (v : PageView) (slot : ℕ) (what : Change) → page_op_of (update_of t v slot what) ≡ Some (v.page, v.ident, op_of slot what)
op_update t v slot (Put value) = refl
op_update t v slot (Append bytes) = refl
op_update t v slot Delete = refl

pub slot_update : (slot : ℕ) (what : Change) → is_map_op (op_of slot what) ≡ false
slot_update slot (Put value) = refl
slot_update slot (Append bytes) = refl
slot_update slot Delete = refl

pub update_is : (t : OpenTxn) (v : PageView) (slot : ℕ) (what : Change) → (record_before (update_of t v slot what) ≡ t.last) × ((fields_of (update_of t v slot what)).txn ≡ t.begin)
update_is t v slot (Put value) = (refl, refl)
update_is t v slot (Append bytes) = (refl, refl)
update_is t v slot Delete = (refl, refl)

pub update_own : (t : OpenTxn) (v : PageView) (slot : ℕ) (what : Change) (u : ℕ) → t.begin ≡ u → is_update_of u (update_of t v slot what) ≡ true
update_own t v slot (Put value) u same = eq-eqb t.begin u same
update_own t v slot (Append bytes) u same = eq-eqb t.begin u same
update_own t v slot Delete u same = eq-eqb t.begin u same

pub update_other : (t : OpenTxn) (v : PageView) (slot : ℕ) (what : Change) (u : ℕ) → t.begin ≢ u → (is_update_of u (update_of t v slot what) ≡ false) × (next_after u (update_of t v slot what) ≡ None)
update_other t v slot (Put value) u other = (grind (arith, nat_tests), refl)
update_other t v slot (Append bytes) u other = (grind (arith, nat_tests), refl)
update_other t v slot Delete u other = (grind (arith, nat_tests), refl)

-- the page that is found after something was done to it
pub page_with : (x : PageNo) (f : CachedPage → CachedPage) (pages : List CachedPage) → ((p : CachedPage) → is_page x (f p) ≡ is_page x p) → page_at x (with_page x f pages) ≡ option_map f (page_at x pages)
page_with x f [] same = refl
page_with x f (p ∷ ps) same = by (is_page x p) refl (page_with x f ps same)
  where
    by : (b : Bool) → is_page x p ≡ b → page_at x (with_page x f ps) ≡ option_map f (page_at x ps) → page_at x (with_page x f (p ∷ ps)) ≡ option_map f (page_at x (p ∷ ps))
    by true is rest = let other : is_page x (f p) ≡ true = same p ∙ is in rw is (rw other refl)
    by false is rest = rw is (rw is rest)

-- what holds of one seat with something else, and of each other one
pub all_seats : (P : Option OpenTxn → Type 0) (seats : List (Option OpenTxn)) (i : ℕ) (o : Option OpenTxn) → i < length seats → P o → ((j : ℕ) (d : Option OpenTxn) → j ≢ i → j < length seats → P (slice_index_or seats j d)) → All P (slice_set seats i o)
all_seats P seats i o within this others j d below = elim (cases_eq j i) [
  | inl here ↦ subst P (sym (ap (λ m. slice_index_or (slice_set seats i o) m d) here ∙ get_or-set_same seats i o d within)) this
  | inr other ↦ subst P (sym (get_or-set_other seats i j o d other)) (others j d other (omega (arith, below, length-set seats i o)))
]

-- the transaction of a seat is not that of another one
pub apart_at : (seats : List (Option OpenTxn)) (i j : ℕ) (t : OpenTxn) (d : Option OpenTxn) → AllPairs AreApart seats → i < length seats → j < length seats → j ≢ i → slice_index_or seats i None ≡ Some t → IfSome (slice_index_or seats j d) (λ u. t.begin ≢ u.begin)
apart_at seats i j t d apart within below other is =
    let here : slice_index_or seats i d ≡ Some t = get_or_default seats i d None within ∙ is in
    elim (cases_order i j) [
      | inl same ↦ absurd (other (sym same))
      | inr (inl before) ↦ subst (λ o. AreApart o (slice_index_or seats j d)) here (apart i j d before below)
      | inr (inr behind) ↦ turn (slice_index_or seats j d) (subst (AreApart (slice_index_or seats j d)) here (apart j i d behind within))
    ]
  where
    turn : (o : Option OpenTxn) → AreApart o (Some t) → IfSome o (λ u. t.begin ≢ u.begin)
    turn None a = tt
    turn (Some u) a = λ e. a (sym e)

-- a transaction has one more update
pub tied_updated : (s : SeatsState) (c d : CacheState) (seat : ℕ) (t : OpenTxn) → IsLog c.log → AreTied s c → d.node ≡ c.node → SameLog c.log d.log → d.log.tail ≡ c.log.tail + 1 → seat < length s.seats → txn_in s seat ≡ Some t → owed s + 2 ≤ space c.log
    → AreTied (record { node = s.node; seats = slice_set s.seats seat (Some (record { begin = t.begin; last = c.log.tail; left = t.left + 1 })) }) d
tied_updated s c d seat t is tie node same tail below busy room =
    let low : 6 * c.log.start ≤ c.log.tail = let first = is.low in let more = is.stable in omega (arith, first, more) in
    let start = same.start in
    let u : OpenTxn = record { begin = t.begin; last = c.log.tail; left = t.left + 1 } in
    let more = owed_set s.seats seat (Some t) (Some u) below busy in
    let less = space_less c.log d.log same tail low (omega (arith, room)) in
    let lies : LiesIn c.log t = subst (λ o. IfSome o (LiesIn c.log)) busy (tie.within seat None below) in
    record {
      node = tie.node ∙ sym node;
      room = omega (arith, more, less, room);
      within = all_seats (λ o. IfSome o (LiesIn d.log)) s.seats seat (Some u) below (omega (arith, start, lies.0), omega (arith, lies.1, lies.2), omega (arith, tail)) (λ j e other small. all_longer c.log d.log s.seats start (omega (arith, tail)) tie.within j e small);
      apart = apart_set s.seats seat (Some u) tie.apart (λ j e other small. apart_at s.seats seat j t e tie.apart below small other busy);
    }

-- and the records tell it
pub told_updated : (s : SeatsState) (c : CacheState) (seat number : ℕ) (t : OpenTxn) (v : PageView) (slot : ℕ) (what : Change) (recs : List LogRecord) → AreTied s c → seat < length s.seats → txn_in s seat ≡ Some t → 6 * c.log.start + length recs ≡ number → t.begin < number → AreTold s c.log.start recs
    → AreTold (record { node = s.node; seats = slice_set s.seats seat (Some (record { begin = t.begin; last = number; left = t.left + 1 })) }) c.log.start (recs ++ update_of t v slot what ∷ [])
told_updated s c seat number t v slot what recs tie below busy here before told = record {
  names = let named = (update_is t v slot what).1 in names-push (6 * c.log.start) recs (update_of t v slot what) told.names (omega (arith, named, here, before));
  each = all_seats (λ o. IfSome o (IsOpenIn (6 * c.log.start) (recs ++ update_of t v slot what ∷ []))) s.seats seat (Some (record { begin = t.begin; last = number; left = t.left + 1 })) below
      (subst (λ n. IsOpenIn (6 * c.log.start) (recs ++ update_of t v slot what ∷ []) (record { begin = t.begin; last = n; left = t.left + 1 })) here
      (open-updated t (6 * c.log.start) recs (update_of t v slot what) (let lies : LiesIn c.log t = subst (λ o. IfSome o (LiesIn c.log)) busy (tie.within seat None below) in lies.0) (update_own t v slot what t.begin refl) (update_is t v slot what).0
      (subst (λ o. IfSome o (IsOpenIn (6 * c.log.start) recs)) busy (told.each seat None below))))
      (λ j e other small. another (slice_index_or s.seats j e) (apart_at s.seats seat j t e tie.apart below small other busy) (told.each j e small));
}
  where
    another : (o : Option OpenTxn) → IfSome o (λ u. t.begin ≢ u.begin) → IfSome o (IsOpenIn (6 * c.log.start) recs) → IfSome o (IsOpenIn (6 * c.log.start) (recs ++ update_of t v slot what ∷ []))
    another None apart is = tt
    another (Some u) apart is = let none = update_other t v slot what u.begin apart in open-other u (6 * c.log.start) recs (update_of t v slot what) none.0 none.1 is

-- the page after an update
pub page_updated : (pool new : List (Option (List ℕ))) (pages : List CachedPage) (x : PageNo) (v : PageView) (f : CachedPage → CachedPage) (op : PageOp) → ((p : CachedPage) → is_page x (f p) ≡ is_page x p) → ((p : CachedPage) → (f p).frame ≡ p.frame)
    → (has : HasPage pool pages x v) → Shows new has.page.frame (data_page (applied op v)) → HasPage new (with_page x f pages) x (applied op v)
page_updated pool new pages x v f op same frame has shows = record {
  page = f has.page;
  there = page_with x f pages same ∙ ap (option_map f) has.there;
  shows = subst (λ k. Shows new k (data_page (applied op v))) (sym (frame has.page)) shows;
  number = changed-page op (data_page v) ∙ has.number;
}

-- what a slot holds is of a slot
held_fits : (v : PageView) (bytes : List ℕ) (slot : ℕ) → IsTextOf v bytes → slot ≤ 15 → IsContent (content v slot)
held_fits v bytes slot text place = t (content v slot) (text.image.values slot None (omega (arith, place, text.image.slots)))
  where
    t : (o : Option (List ℕ)) → FitsSlot o → IsContent o
    t None fits = tt
    t (Some value) fits = fits

mark_fits : (o : Option (List ℕ)) → IsContent o → IsMark (is_some o) (length (unwrap_or o []))
mark_fits None fits = refl
mark_fits (Some value) fits = fits

-- the record of an update is legal
pub legal_update : (t : OpenTxn) (v : PageView) (bytes : List ℕ) (slot : ℕ) (what : Change) → IsTextOf v bytes → v.page.0 < 2 ^ 32 → v.ident < 2 ^ 63 → t.begin < 6 * 2 ^ 56 → t.last < 6 * 2 ^ 56 → slot ≤ 15 → FitsSlotOf v slot what → IsLegal (update_of t v slot what)
legal_update t v bytes slot (Put value) text page ident begin last place fits = record {
  page = page;
  bsi = omega (arith, ident);
  txn = begin;
  prev = last;
  group = omega arith;
  place = place;
  extra = tt;
  contents = (held_fits v bytes slot text place, fits);
}
legal_update t v bytes slot (Append more) text page ident begin last place fits = record {
  page = page;
  bsi = omega (arith, ident);
  txn = begin;
  prev = last;
  group = omega arith;
  place = place;
  extra = tt;
  contents = (mark_fits (content v slot) (held_fits v bytes slot text place), omega (arith, fits));
}
legal_update t v bytes slot Delete text page ident begin last place fits = record {
  page = page;
  bsi = omega (arith, ident);
  txn = begin;
  prev = last;
  group = omega arith;
  place = place;
  extra = tt;
  contents = (held_fits v bytes slot text place, tt);
}
