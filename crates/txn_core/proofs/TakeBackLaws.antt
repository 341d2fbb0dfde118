-- The record that takes an update back, and the seats after it.
use Rattle.std.specs.Prelude.{◌≡◌, ◌≢◌, ◌==◌, ◌+◌, ◌-◌, ◌*◌, ◌^◌, ◌≤◌, ◌<◌, ◌++◌, ◌∷◌, [], ℕ, Bool, true, false, List, Option, Some, None, All, IfSome, length, option_and_then, slice_index_or, slice_set, unwrap_or, refl}
use Rattle.std.proofs.Common.{arith, inl, inr, ap, subst, sym, ◌∙◌}
use Rattle.std.proofs.lemmas.Bool.{eq-eqb}
use Rattle.std.proofs.lemmas.Bool.Decides.{nat_tests}
use Rattle.std.proofs.lemmas.Option.{cond_some}
use Rattle.sd_base.specs.declared.names.PageNo.{PageNo}
use Rattle.sd_base.specs.declared.page_op.PageOp.{PageOp}
use Rattle.sd_base.specs.declared.page_op.PageOp.TheVariants as ops
use Rattle.page_image.specs.declared.page_view.PageView.{PageView}
use Rattle.state_ids.specs.Held.{Shows}
use Rattle.state_ids.specs.PageImage.{data_page, is_map_op}
use Rattle.state_ids.proofs.OneImage.{one_shown}
use Rattle.log_record.specs.declared.record.LogRecord.{LogRecord}
use Rattle.log_record.specs.declared.record.LogRecord.TheVariants.{Begin, Set, Append, Commit, Abort, Restore, Cut, MapUse, MapFree}
use Rattle.log_record.specs.Fields.{fields_of}
use Rattle.log_record.specs.Legal.{IsLegal, IsRecordNo}
use Rattle.log_record.specs.Record.{page_op_of}
use Rattle.compensation.specs.Inverse.{taking_back}
use Rattle.compensation.specs.Left.{is_update_of, next_after, uncompensated}
use Rattle.compensation.specs.Finding.{newest, next_behind, record_at, record_before}
use Rattle.private_log.specs.Log.{SameLog}
use Rattle.node_cache.specs.Cache.{CachedPage, CacheState, page_at}
use Rattle.node_cache.proofs.Finding.{all_at}
use Rattle.txn_core.specs.Seats.{AreTied, OpenTxn, SeatsState, txn_in}
use Rattle.txn_core.specs.Told.{AreTold, IsOpenIn}
use Rattle.txn_core.specs.Undo.{IsPageOf, IsToUndo, TakesBack, compensation_of}
use Rattle.txn_core.specs.Updates.{HasPage}
use Rattle.txn_core.proofs.CompensationLaws.{own_page}
use Rattle.compensation.proofs.LogRecords.{at_place}
use Rattle.txn_core.proofs.SeatLaws.{LiesIn, all_longer, apart_set, owed_set, seat_numbers, space_less}
use Rattle.txn_core.proofs.ToldLaws.{names-push, open-other, open-taken_back}
use Rattle.txn_core.proofs.UpdateLaws.{all_seats, apart_at}
use Rattle.txn_core.proofs.UndoLaws.{newest_update}

-- ---- what the record says

-- what holds of the two kinds of update, and of what takes each back, holds of this one
by_kind : (P : LogRecord → LogRecord → Type 0) (t : OpenTxn) (next ident : ℕ) (update rec : LogRecord) → compensation_of t next ident update ≡ Some rec
    → ((txn prev : ℕ) (page : PageNo) (bsi slot : ℕ) (before after : Option (List ℕ)) → P (Set txn prev page bsi slot before after) (Restore t.begin t.last next page ident slot before))
    → ((txn prev : ℕ) (page : PageNo) (bsi slot : ℕ) (present : Bool) (len : ℕ) (bytes : List ℕ) → P (Append txn prev page bsi slot present len bytes) (Cut t.begin t.last next page ident slot present len))
    → P update rec
by_kind P t next ident Begin rec is set append = cc
by_kind P t next ident (Set txn prev page bsi slot before after) rec is set append =
    let made : Restore t.begin t.last next page ident slot before ≡ rec = cc in
    subst (P (Set txn prev page bsi slot before after)) made (set txn prev page bsi slot before after)
by_kind P t next ident (Append txn prev page bsi slot present len bytes) rec is set append =
    let made : Cut t.begin t.last next page ident slot present len ≡ rec = cc in
    subst (P (Append txn prev page bsi slot present len bytes)) made (append txn prev page bsi slot present len bytes)
by_kind P t next ident (Commit txn prev) rec is set append = cc
by_kind P t next ident (Abort txn prev) rec is set append = cc
by_kind P t next ident (Restore txn prev after page bsi slot value) rec is set append = cc
by_kind P t next ident (Cut txn prev after page bsi slot present len) rec is set append = cc
by_kind P t next ident (MapUse page bsi place group) rec is set append = cc
by_kind P t next ident (MapFree page bsi place group free) rec is set append = cc

-- the record names its transaction
names_own : (t : OpenTxn) (next ident : ℕ) (update rec : LogRecord) → compensation_of t next ident update ≡ Some rec → (fields_of rec).txn ≡ t.begin
names_own t next ident update rec is = by_kind (λ u r. (fields_of r).txn ≡ t.begin) t next ident update rec is (λ txn prev page bsi slot before after. refl) (λ txn prev page bsi slot present len bytes. refl)

-- it says what is next
pub next_told : (t : OpenTxn) (next ident : ℕ) (update rec : LogRecord) → compensation_of t next ident update ≡ Some rec → next_after t.begin rec ≡ Some next
next_told t next ident update rec is =
    let own : (t.begin == t.begin) ≡ true = eq-eqb t.begin t.begin refl in
    by_kind (λ u r. next_after t.begin r ≡ Some next) t next ident update rec is (λ txn prev page bsi slot before after. rw own refl) (λ txn prev page bsi slot present len bytes. rw own refl)

-- and nothing to any other transaction
pub not_another : (t : OpenTxn) (next ident other : ℕ) (update rec : LogRecord) → compensation_of t next ident update ≡ Some rec → t.begin ≢ other → (is_update_of other rec ≡ false) × (next_after other rec ≡ None)
not_another t next ident other update rec is apart =
    let not : (t.begin == other) ≡ false = grind (arith, nat_tests) in
    by_kind (λ u r. (is_update_of other r ≡ false) × (next_after other r ≡ None)) t next ident update rec is (λ txn prev page bsi slot before after. (refl, rw not refl)) (λ txn prev page bsi slot present len bytes. (refl, rw not refl))

-- it changes a page, as the update is taken back
pub change_back : (t : OpenTxn) (next : ℕ) (v : PageView) (update rec : LogRecord) → compensation_of t next v.ident update ≡ Some rec → IsPageOf update v
    → (op : PageOp) × (taking_back update ≡ Some op) × (page_op_of rec ≡ Some (v.page, v.ident, op)) × (is_map_op op ≡ false)
change_back t next v update rec is =
    by_kind (λ u r. IsPageOf u v → (op : PageOp) × (taking_back u ≡ Some op) × (page_op_of r ≡ Some (v.page, v.ident, op)) × (is_map_op op ≡ false)) t next v.ident update rec is
    (λ txn prev page bsi slot before after of_page. (ops.Put slot before, refl, ap (λ y. Some (y, v.ident, ops.Put slot before)) of_page, refl))
    (λ txn prev page bsi slot present len bytes of_page. (ops.Cut slot present len, refl, ap (λ y. Some (y, v.ident, ops.Cut slot present len)) of_page, refl))

-- the update has a page
has_page : (t : OpenTxn) (next ident : ℕ) (update rec : LogRecord) → compensation_of t next ident update ≡ Some rec → (change : PageNo × ℕ × PageOp) × (page_op_of update ≡ Some change)
has_page t next ident update rec is =
    by_kind (λ u r. (change : PageNo × ℕ × PageOp) × (page_op_of u ≡ Some change)) t next ident update rec is
    (λ txn prev page bsi slot before after. ((page, bsi, ops.Put slot after), refl))
    (λ txn prev page bsi slot present len bytes. ((page, bsi, ops.Append slot bytes), refl))

-- the record is legal
pub legal_back : (t : OpenTxn) (next ident : ℕ) (update rec : LogRecord) → compensation_of t next ident update ≡ Some rec → IsLegal update → IsRecordNo next → ident < 2 ^ 63 + 2 ^ 40 → IsRecordNo t.begin → IsRecordNo t.last → IsLegal rec
legal_back t next ident update rec is legal number room begin last =
    by_kind (λ u r. IsLegal u → IsLegal r) t next ident update rec is
    (λ txn prev page bsi slot before after was. record { page = was.page; bsi = room; txn = begin; prev = last; group = omega arith; place = was.place; extra = number; contents = was.contents.0 })
    (λ txn prev page bsi slot present len bytes was. record { page = was.page; bsi = room; txn = begin; prev = last; group = omega arith; place = was.place; extra = number; contents = was.contents.0 })
    legal

-- what a compensation says is next is the number of a record
number_after : (t n : ℕ) (rec : LogRecord) → IsLegal rec → next_after t rec ≡ Some n → IsRecordNo n
number_after t n Begin legal is = cc
number_after t n (Set txn prev page bsi slot before after) legal is = cc
number_after t n (Append txn prev page bsi slot present len bytes) legal is = cc
number_after t n (Commit txn prev) legal is = cc
number_after t n (Abort txn prev) legal is = cc
number_after t n (Restore txn prev next page bsi slot after) legal is = subst IsRecordNo (cond_some (txn == t) next n is).1 legal.extra
number_after t n (Cut txn prev next page bsi slot present len) legal is = subst IsRecordNo (cond_some (txn == t) next n is).1 legal.extra
number_after t n (MapUse page bsi place group) legal is = cc
number_after t n (MapFree page bsi place group ident) legal is = cc

-- and so is what is next behind an update
number_behind : (t first : ℕ) (recs : List LogRecord) (update : LogRecord) → All IsLegal recs → IsLegal update → IsRecordNo (next_behind t first recs update)
number_behind t first recs update all legal =
    by (record_at first recs (record_before update)) (λ rec at. all_at IsLegal recs (record_before update - first) rec all (at_place first recs (record_before update) rec at).1)
  where
    or_before : (o : Option ℕ) → ((n : ℕ) → o ≡ Some n → IsRecordNo n) → IsRecordNo (unwrap_or o (record_before update))
    or_before None each = legal.prev
    or_before (Some n) each = each n refl

    by : (o : Option LogRecord) → ((rec : LogRecord) → o ≡ Some rec → IsLegal rec) → IsRecordNo (unwrap_or (option_and_then (next_after t) o) (record_before update))
    by None each = legal.prev
    by (Some rec) each = or_before (next_after t rec) (λ n. number_after t n rec (each rec refl))

-- a record that takes back what is left of the transaction in a seat is legal
pub legal_seat_back : (s : SeatsState) (c : CacheState) (seat : ℕ) (t : OpenTxn) (pool : List (Option (List ℕ))) (pages : List CachedPage) (recs : List LogRecord) (v : PageView) (rec : LogRecord) → AreTied s c → txn_in s seat ≡ Some t → All IsLegal recs
    → TakesBack pool pages (6 * c.log.start) recs t v rec → IsLegal rec
legal_seat_back s c seat t pool pages recs v rec tie is all takes =
    let first = 6 * c.log.start in
    let undo = takes.undo in
    let numbers = seat_numbers s c seat t tie is in
    let legal = all_at IsLegal recs (undo.number - first) undo.update all (at_place first recs undo.number undo.update undo.there).1 in
    legal_back t (next_behind t.begin first recs undo.update) v.ident undo.update rec takes.is legal (number_behind t.begin first recs undo.update all legal) undo.room numbers.0 numbers.1

-- each update is taken back by a record
pub back_of_update : (t : OpenTxn) (next ident : ℕ) (update : LogRecord) → is_update_of t.begin update ≡ true → (rec : LogRecord) × (compensation_of t next ident update ≡ Some rec)
back_of_update t next ident Begin own = cc
back_of_update t next ident (Set txn prev page bsi slot before after) own = (Restore t.begin t.last next page ident slot before, refl)
back_of_update t next ident (Append txn prev page bsi slot present len bytes) own = (Cut t.begin t.last next page ident slot present len, refl)
back_of_update t next ident (Commit txn prev) own = cc
back_of_update t next ident (Abort txn prev) own = cc
back_of_update t next ident (Restore txn prev after page bsi slot value) own = cc
back_of_update t next ident (Cut txn prev after page bsi slot present len) own = cc
back_of_update t next ident (MapUse page bsi place group) own = cc
back_of_update t next ident (MapFree page bsi place group free) own = cc

-- ---- which update it takes back

-- what is left begins with the newest
pub newest_first : (us : List ℕ) (u : ℕ) → newest us ≡ Some u → (rest : List ℕ) × (us ≡ u ∷ rest)
newest_first [] u is = cc
newest_first (n ∷ us) u is = let same : n ≡ u = cc in (us, ap (λ m. m ∷ us) same)

-- the record before an update lies in the transaction too
pub before_within : (t : OpenTxn) (first : ℕ) (recs : List LogRecord) (u : ℕ) (update : LogRecord) → IsOpenIn first recs t → record_at first recs u ≡ Some update → is_update_of t.begin update ≡ true → (t.begin ≤ record_before update) × (record_before update < u)
before_within t first recs u update was at own =
    let place = at_place first recs u update at in
    let before = was.chained.update (u - first) update place.1 own in
    let sooner = before.3 in (
      elim before.2 [
        | inl begun ↦ omega (arith, begun.0)
        | inr later ↦ omega (arith, later.0)
      ],
      omega (arith, sooner, place.0),
    )

-- an update that is left is taken back by a record
pub some_back : (pool : List (Option (List ℕ))) (pages : List CachedPage) (first : ℕ) (recs : List LogRecord) (t : OpenTxn) (v : PageView) → IsOpenIn first recs t → IsToUndo pool pages first recs t v → (rec : LogRecord) × TakesBack pool pages first recs t v rec
some_back pool pages first recs t v was undo =
    let rec = back_of_update t (next_behind t.begin first recs undo.update) v.ident undo.update (newest_update t first recs undo.number undo.update was undo.newest undo.there) in
    (rec.0, record { undo = undo; is = rec.1 })

-- the newest update that is left is one
pub one_update : (first : ℕ) (recs : List LogRecord) (t : OpenTxn) (u n : ℕ) (update other : LogRecord) → newest (uncompensated t.begin first recs) ≡ Some u → record_at first recs u ≡ Some update → newest (uncompensated t.begin first recs) ≡ Some n → record_at first recs n ≡ Some other → update ≡ other
one_update first recs t u n update other new at too there =
    let both : Some u ≡ Some n = sym new ∙ too in
    let number : u ≡ n = cc in
    let two : Some update ≡ Some other = sym at ∙ ap (record_at first recs) number ∙ there in
    cc

-- a cached page is seen as one
pub one_view : (pool : List (Option (List ℕ))) (pages : List CachedPage) (v w : PageView) → HasPage pool pages v.page v → HasPage pool pages w.page w → v.page ≡ w.page → v ≡ w
one_view pool pages v w has other same =
    let both : Some has.page ≡ Some other.page = sym has.there ∙ ap (λ x. page_at x pages) same ∙ other.there in
    let page : has.page ≡ other.page = cc in
    let image : data_page v ≡ data_page w = one_shown pool has.page.frame (data_page v) (data_page w) has.shows (subst (λ p. Shows pool p.frame (data_page w)) (sym page) other.shows) same in
    cc

-- it is taken back by one record
pub one_back : (pool : List (Option (List ℕ))) (pages : List CachedPage) (t : OpenTxn) (next : ℕ) (v w : PageView) (update rec other : LogRecord) → HasPage pool pages v.page v → HasPage pool pages w.page w → IsPageOf update v → IsPageOf update w
    → compensation_of t next v.ident update ≡ Some rec → compensation_of t next w.ident update ≡ Some other → rec ≡ other
one_back pool pages t next v w update rec other has too of_page of_other is made =
    let page = has_page t next v.ident update rec is in
    let same : v ≡ w = one_view pool pages v w has too (own_page update v page.0 page.1 of_page ∙ sym (own_page update w page.0 page.1 of_other)) in
    let both : Some rec ≡ Some other = sym is ∙ ap (λ x. compensation_of t next x.ident update) same ∙ made in
    cc

pub one_taken : (pool : List (Option (List ℕ))) (pages : List CachedPage) (first : ℕ) (recs : List LogRecord) (t : OpenTxn) (v w : PageView) (rec other : LogRecord) → TakesBack pool pages first recs t v rec → TakesBack pool pages first recs t w other → rec ≡ other
one_taken pool pages first recs t v w rec other a b =
    let same : b.undo.update ≡ a.undo.update = one_update first recs t b.undo.number a.undo.number b.undo.update a.undo.update b.undo.newest b.undo.there a.undo.newest a.undo.there in
    one_back pool pages t (next_behind t.begin first recs a.undo.update) v w a.undo.update rec other a.undo.cached b.undo.cached a.undo.of_page (subst (λ u. IsPageOf u w) same b.undo.of_page) a.is
    (subst (λ u. compensation_of t (next_behind t.begin first recs u) w.ident u ≡ Some other) same b.is)

-- ---- the seats after it

-- a transaction has one update less to take back
pub tied_taken_back : (s : SeatsState) (c d : CacheState) (seat : ℕ) (t : OpenTxn) → AreTied s c → d.node ≡ c.node → SameLog c.log d.log → d.log.tail ≡ c.log.tail + 1 → seat < length s.seats → txn_in s seat ≡ Some t → 1 ≤ t.left
    → AreTied (record { node = s.node; seats = slice_set s.seats seat (Some (record { begin = t.begin; last = c.log.tail; left = t.left - 1 })) }) d
tied_taken_back s c d seat t tie node same tail below busy some =
    let lies : LiesIn c.log t = subst (λ o. IfSome o (LiesIn c.log)) busy (tie.within seat None below) in
    let start = same.start in
    let u : OpenTxn = record { begin = t.begin; last = c.log.tail; left = t.left - 1 } in
    let fewer = owed_set s.seats seat (Some t) (Some u) below busy in
    let room = tie.room in
    let less = space_less c.log d.log same tail (omega (arith, lies.0, lies.1, lies.2)) (omega (arith, fewer, some, room)) in
    record {
      node = tie.node ∙ sym node;
      room = omega (arith, fewer, less, some, room);
      within = all_seats (λ o. IfSome o (LiesIn d.log)) s.seats seat (Some u) below (omega (arith, start, lies.0), omega (arith, lies.1, lies.2), omega (arith, tail)) (λ j e other small. all_longer c.log d.log s.seats start (omega (arith, tail)) tie.within j e small);
      apart = apart_set s.seats seat (Some u) tie.apart (λ j e other small. apart_at s.seats seat j t e tie.apart below small other busy);
    }

-- and the records tell it
pub told_taken_back : (s : SeatsState) (c : CacheState) (seat number : ℕ) (t : OpenTxn) (pool : List (Option (List ℕ))) (pages : List CachedPage) (v : PageView) (recs : List LogRecord) (rec : LogRecord) → AreTied s c → seat < length s.seats → txn_in s seat ≡ Some t → 6 * c.log.start + length recs ≡ number → t.begin < number → AreTold s c.log.start recs
    → TakesBack pool pages (6 * c.log.start) recs t v rec
    → AreTold (record { node = s.node; seats = slice_set s.seats seat (Some (record { begin = t.begin; last = number; left = t.left - 1 })) }) c.log.start (recs ++ rec ∷ [])
told_taken_back s c seat number t pool pages v recs rec tie below busy here before told takes = record {
  names = let named = names_own t (next_behind t.begin (6 * c.log.start) recs takes.undo.update) v.ident takes.undo.update rec takes.is in names-push (6 * c.log.start) recs rec told.names (omega (arith, named, here, before));
  each = all_seats (λ o. IfSome o (IsOpenIn (6 * c.log.start) (recs ++ rec ∷ []))) s.seats seat (Some (record { begin = t.begin; last = number; left = t.left - 1 })) below
      (let lies : LiesIn c.log t = subst (λ o. IfSome o (LiesIn c.log)) busy (tie.within seat None below) in
      let left = newest_first (uncompensated t.begin (6 * c.log.start) recs) takes.undo.number takes.undo.newest in
      subst (λ n. IsOpenIn (6 * c.log.start) (recs ++ rec ∷ []) (record { begin = t.begin; last = n; left = t.left - 1 })) here
      (open-taken_back t (6 * c.log.start) recs takes.undo.number left.0 takes.undo.update rec lies.0 left.1 takes.undo.there (next_told t (next_behind t.begin (6 * c.log.start) recs takes.undo.update) v.ident takes.undo.update rec takes.is) told.names
      (subst (λ o. IfSome o (IsOpenIn (6 * c.log.start) recs)) busy (told.each seat None below))))
      (λ j e other small. another (slice_index_or s.seats j e) (apart_at s.seats seat j t e tie.apart below small other busy) (told.each j e small));
}
  where
    another : (o : Option OpenTxn) → IfSome o (λ u. t.begin ≢ u.begin) → IfSome o (IsOpenIn (6 * c.log.start) recs) → IfSome o (IsOpenIn (6 * c.log.start) (recs ++ rec ∷ []))
    another None apart is = tt
    another (Some u) apart is = let none = not_another t (next_behind t.begin (6 * c.log.start) recs takes.undo.update) v.ident u.begin takes.undo.update rec takes.is apart in open-other u (6 * c.log.start) recs rec none.0 none.1 is
