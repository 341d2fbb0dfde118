-- What becomes of the seats, and of their tie to a cache, when one of them changes.
use Rattle.std.specs.Prelude.{◌≡◌, ◌≢◌, ◌+◌, ◌*◌, ◌≤◌, ◌<◌, ◌++◌, ◌∷◌, [], ℕ, List, Option, Some, None, All, AllPairs, IfSome, IsTrue, length, slice_index_or, slice_set, is_some, zero, suc, true, false, ◌%◌, refl}
use Rattle.std.specs.List.{sum_by}
use Rattle.std.proofs.Common.{arith, inl, inr, ap, subst, sym, ◌∙◌}
use Rattle.std.proofs.lemmas.Bool.{cases_eq}
use Rattle.std.proofs.lemmas.List.{length-set, get_or-set_same, get_or-set_other}
use Rattle.std.proofs.lemmas.List.Elements.{All-set, All-push}
use Rattle.std.proofs.lemmas.List.Sums.{sum_by-set}
use Rattle.sd_base.specs.declared.device.NodeId.{NodeId}
use Rattle.sd_base.specs.Shape.{page_count}
use Rattle.sd_base.specs.declared.shape.Shape.{Shape}
use Rattle.private_log.specs.Content.{HoldsFront}
use Rattle.private_log.specs.Log.{LogState, SameLog, region, space, written}
use Rattle.private_log.proofs.LogLaws.{carry}
use Rattle.private_log.proofs.Outcomes.{less_front}
use Rattle.private_log.specs.Log.{IsLog}
use Rattle.log_record.specs.Legal.{IsLegal, IsRecordNo}
use Rattle.log_record.specs.declared.record.LogRecord.{LogRecord}
use Rattle.log_record.specs.declared.record.LogRecord.TheVariants.{Begin}
use Rattle.node_cache.specs.Cache.{CacheState, IsOfStore}
use Rattle.txn_core.specs.declared.ending.Ending.{Ending}
use Rattle.txn_core.specs.declared.ending.Ending.TheVariants.{Commit, Abort}
use Rattle.txn_core.specs.Ending.{end_record}
use Rattle.txn_core.specs.Seats.{AreApart, AreTied, OpenTxn, SeatsState, is_busy, owed, owed_in, txn_in}
use Rattle.txn_core.specs.Told.{AreTold, IsOpenIn}
use Rattle.compensation.specs.Left.{is_update_of, next_after}
use Rattle.log_record.specs.Fields.{fields_of}
use Rattle.txn_core.proofs.ToldLaws.{names-push, open-begun, open-other}

-- what is owed when a seat gets something else
pub owed_set : (seats : List (Option OpenTxn)) (i : ℕ) (before after : Option OpenTxn) → i < length seats → slice_index_or seats i None ≡ before
    → sum_by owed_in (slice_set seats i after) + owed_in before ≡ sum_by owed_in seats + owed_in after
owed_set seats i before after below is = subst (λ o. sum_by owed_in (slice_set seats i after) + owed_in o ≡ sum_by owed_in seats + owed_in after) is (sum_by-set owed_in seats i after None below)

-- the records of a transaction lie in the log
abbrev pub LiesIn : LogState → OpenTxn → Type 0
LiesIn l t = (6 * l.start ≤ t.begin) × (t.begin ≤ t.last) × (t.last < l.tail)

lies_longer : (l m : LogState) (o : Option OpenTxn) → m.start ≡ l.start → l.tail ≤ m.tail → IfSome o (LiesIn l) → IfSome o (LiesIn m)
lies_longer l m None start more in' = tt
lies_longer l m (Some t) start more in' = (omega (arith, start, in'.0), in'.1, omega (arith, more, in'.2))

pub all_longer : (l m : LogState) (seats : List (Option OpenTxn)) → m.start ≡ l.start → l.tail ≤ m.tail → All (λ o. IfSome o (LiesIn l)) seats → All (λ o. IfSome o (LiesIn m)) seats
all_longer l m seats start more all i d below = lies_longer l m (slice_index_or seats i d) start more (all i d below)

-- one more record, and the log has room for one less
pub space_less : (l m : LogState) → SameLog l m → m.tail ≡ l.tail + 1 → 6 * l.start ≤ l.tail → 1 ≤ space l → space m + 1 ≡ space l
space_less l m same tail low some =
    let ring : m.shape.ring ≡ l.shape.ring = ap (λ s. s.ring) same.shape in
    let start = same.start in
    omega (arith, ring, start, tail, low, some)

-- two transactions are two in either order
apart_back : (o p : Option OpenTxn) → AreApart o p → AreApart p o
apart_back None None a = tt
apart_back None (Some u) a = tt
apart_back (Some t) None a = tt
apart_back (Some t) (Some u) a = λ e. a (sym e)

-- the seats stay apart when one of them gets what is apart from all others
pub apart_set : (seats : List (Option OpenTxn)) (i : ℕ) (o : Option OpenTxn) → AllPairs AreApart seats → ((j : ℕ) (d : Option OpenTxn) → j ≢ i → j < length seats → AreApart o (slice_index_or seats j d)) → AllPairs AreApart (slice_set seats i o)
apart_set seats i o apart others j k d before below =
    let small : k < length seats = omega (arith, below, length-set seats i o) in
    elim (cases_eq j i) [
      | inl here ↦
          let other : k ≢ i = λ e. omega (arith, before, here, e) in
          subst (λ p. AreApart p (slice_index_or (slice_set seats i o) k d)) (sym (at_set j here (omega (arith, before, small))))
          (subst (AreApart o) (sym (get_or-set_other seats i k o d other)) (others k d other small))
      | inr other ↦ elim (cases_eq k i) [
        | inl here ↦
            subst (AreApart (slice_index_or (slice_set seats i o) j d)) (sym (at_set k here small))
            (subst (λ p. AreApart p o) (sym (get_or-set_other seats i j o d other)) (apart_back o (slice_index_or seats j d) (others j d other (omega (arith, before, small)))))
        | inr another ↦
            subst (λ p. AreApart p (slice_index_or (slice_set seats i o) k d)) (sym (get_or-set_other seats i j o d other))
            (subst (AreApart (slice_index_or seats j d)) (sym (get_or-set_other seats i k o d another)) (apart j k d before small))
      ]
    ]
  where
    at_set : (n : ℕ) → n ≡ i → n < length seats → slice_index_or (slice_set seats i o) n d ≡ o
    at_set n here below = ap (λ m. slice_index_or (slice_set seats i o) m d) here ∙ get_or-set_same seats i o d (omega (arith, here, below))

-- a transaction begins in a free seat
pub tied_begun : (s : SeatsState) (c d : CacheState) (seat : ℕ) → IsLog c.log → AreTied s c → d.node ≡ c.node → SameLog c.log d.log → d.log.tail ≡ c.log.tail + 1 → seat < length s.seats → txn_in s seat ≡ None → owed s + 2 ≤ space c.log
    → AreTied (record { node = s.node; seats = slice_set s.seats seat (Some (record { begin = c.log.tail; last = c.log.tail; left = 0 })) }) d
tied_begun s c d seat is tie node same tail below free room =
    let low : 6 * c.log.start ≤ c.log.tail = let first = is.low in let more = is.stable in omega (arith, first, more) in
    let start = same.start in
    let t : OpenTxn = record { begin = c.log.tail; last = c.log.tail; left = 0 } in
    let more = owed_set s.seats seat None (Some t) below free in
    let less = space_less c.log d.log same tail low (omega (arith, room)) in
    record {
      node = tie.node ∙ sym node;
      room = omega (arith, more, less, room);
      within = All-set (λ o. IfSome o (LiesIn d.log)) s.seats seat (Some t) (omega (arith, start, low), omega arith, omega (arith, tail)) (all_longer c.log d.log s.seats start (omega (arith, tail)) tie.within);
      apart = apart_set s.seats seat (Some t) tie.apart (λ j e other small. later (slice_index_or s.seats j e) (tie.within j e small));
    }
  where
    later : (o : Option OpenTxn) → IfSome o (LiesIn c.log) → AreApart (Some (record { begin = c.log.tail; last = c.log.tail; left = 0 })) o
    later None lies = tt
    later (Some u) lies = λ e. omega (arith, e, lies.1, lies.2)

-- and the records tell it
pub told_begun : (s : SeatsState) (start seat : ℕ) (recs : List LogRecord) (number : ℕ) → 6 * start + length recs ≡ number → AreTold s start recs
    → AreTold (record { node = s.node; seats = slice_set s.seats seat (Some (record { begin = number; last = number; left = 0 })) }) start (recs ++ Begin ∷ [])
told_begun s start seat recs number here told = record {
  names = names-push (6 * start) recs Begin told.names (omega arith);
  each = All-set (λ o. IfSome o (IsOpenIn (6 * start) (recs ++ Begin ∷ []))) s.seats seat (Some (record { begin = number; last = number; left = 0 }))
      (subst (λ n. IsOpenIn (6 * start) (recs ++ Begin ∷ []) (record { begin = n; last = n; left = 0 })) here (open-begun (6 * start) recs told.names))
      (λ i d below. another (slice_index_or s.seats i d) (told.each i d below));
}
  where
    another : (o : Option OpenTxn) → IfSome o (IsOpenIn (6 * start) recs) → IfSome o (IsOpenIn (6 * start) (recs ++ Begin ∷ []))
    another None is = tt
    another (Some t) is = open-other t (6 * start) recs Begin refl refl is

-- one more legal record
pub legal_more : (recs : List LogRecord) (rec : LogRecord) → All IsLegal recs → IsLegal rec → All IsLegal (recs ++ rec ∷ [])
legal_more recs rec all legal = All-push IsLegal recs rec all legal

-- what holds of seats holds of those that are the same
pub seats_state : (P : SeatsState → Type 0) (s : SeatsState) (node : NodeId) (seats : List (Option OpenTxn)) → node ≡ s.node → seats ≡ s.seats → P s → P (record { node = node; seats = seats })
seats_state P s node seats same all p = subst P (λ i. record { node = sym same i; seats = sym all i }) p

pub free_seat : (o : Option OpenTxn) → is_some o ≡ false → o ≡ None
free_seat None free = refl
free_seat (Some t) free = cc

pub legal_begin : IsLegal Begin
legal_begin = record { page = omega arith; bsi = omega arith; txn = omega arith; prev = omega arith; group = omega arith; place = tt; extra = tt; contents = tt }

-- A log through a record more: what was stable is stable still.
pub raised : (l m : LogState) → (((l.tail + 1) % 6 ≢ 0) → m.stable ≡ l.stable) → (((l.tail + 1) % 6 ≡ 0) → m.stable ≡ written l) → l.stable ≤ m.stable
raised l m memory full = elim (cases_eq ((l.tail + 1) % 6) 0) [
  | inl e ↦ let is = full e in omega (arith, is)
  | inr ne ↦ let is = memory ne in omega (arith, is)
]

same_back : (l m : LogState) → SameLog l m → SameLog m l
same_back l m same = record { shape = sym same.shape; node = sym same.node; start = sym same.start }

pub front_since : (l m : LogState) (xs : List (List ℕ)) (image : ℕ → Option (List ℕ)) → SameLog l m → l.stable ≤ m.stable → HoldsFront (region m) m.start m.stable xs image → HoldsFront (region l) l.start l.stable xs image
front_since l m xs image same more front = carry m l (λ g start. HoldsFront g start l.stable xs image) (same_back l m same) (less_front (region m) m.start m.stable l.stable xs image more front)

-- the store of a cache, through calls that change no page
pub store_since : (s : Shape) (c d : CacheState) → d.node ≡ c.node → d.pages ≡ c.pages → SameLog c.log d.log → IsOfStore s c → IsOfStore s d
store_since s c d node pages same store = record {
  valid = store.valid;
  shape = same.shape ∙ store.shape;
  node = subst (λ n. (1 ≤ n.0) × (n.0 ≤ s.nodes)) (sym node) store.node;
  pages = subst (λ ps. All (λ p. p.ticket.page.0 < page_count s) ps) (sym pages) store.pages;
}

owed_some : (o : Option OpenTxn) → is_some o ≡ true → 1 ≤ owed_in o
owed_some None busy = cc
owed_some (Some t) busy = omega arith

-- a transaction ends, and its seat is free
pub tied_ended : (s : SeatsState) (c d : CacheState) (seat : ℕ) → AreTied s c → d.node ≡ c.node → SameLog c.log d.log → d.log.tail ≡ c.log.tail + 1 → seat < length s.seats → is_busy s seat ≡ true
    → AreTied (record { node = s.node; seats = slice_set s.seats seat None }) d
tied_ended s c d seat tie node same tail below busy =
    let less = owed_set s.seats seat (txn_in s seat) None below refl in
    let some = owed_some (txn_in s seat) busy in
    let ring : d.log.shape.ring ≡ c.log.shape.ring = ap (λ t. t.ring) same.shape in
    let start = same.start in
    let room = tie.room in
    record {
      node = tie.node ∙ sym node;
      room = omega (arith, less, some, ring, start, tail, room);
      within = All-set (λ o. IfSome o (LiesIn d.log)) s.seats seat None tt (all_longer c.log d.log s.seats start (omega (arith, tail)) tie.within);
      apart = apart_set s.seats seat None tie.apart (λ j e other small. tt);
    }

-- a busy seat has room in the log for its end
pub room_for_end : (s : SeatsState) (c : CacheState) (seat : ℕ) → AreTied s c → seat < length s.seats → is_busy s seat ≡ true → 1 ≤ space c.log
room_for_end s c seat tie below busy =
    let less = owed_set s.seats seat (txn_in s seat) None below refl in
    let some = owed_some (txn_in s seat) busy in
    let room = tie.room in
    omega (arith, less, some, room)

-- a seat owes no more than all seats
pub owed_at : (s : SeatsState) (seat : ℕ) (t : OpenTxn) → seat < length s.seats → txn_in s seat ≡ Some t → 1 + t.left ≤ owed s
owed_at s seat t below is = let less = owed_set s.seats seat (Some t) None below is in omega (arith, less)

-- the record is that of the transaction in the seat
pub ends_seated : (s : SeatsState) (seat : ℕ) (ending : Ending) (u t : OpenTxn) (rec : LogRecord) → txn_in s seat ≡ Some u → rec ≡ end_record ending u → txn_in s seat ≡ Some t → rec ≡ end_record ending t
ends_seated s seat ending u t rec there is here = let same : u ≡ t = cc in is ∙ ap (end_record ending) same

-- it is legal
ends_legal : (ending : Ending) (t : OpenTxn) → IsRecordNo t.begin → IsRecordNo t.last → IsLegal (end_record ending t)
ends_legal Commit t begin last = record { page = omega arith; bsi = omega arith; txn = begin; prev = last; group = omega arith; place = tt; extra = tt; contents = tt }
ends_legal Abort t begin last = record { page = omega arith; bsi = omega arith; txn = begin; prev = last; group = omega arith; place = tt; extra = tt; contents = tt }

-- it is no update, and takes none back
pub ends_alone : (ending : Ending) (t : OpenTxn) (k : ℕ) → (is_update_of k (end_record ending t) ≡ false) × (next_after k (end_record ending t) ≡ None)
ends_alone Commit t k = (refl, refl)
ends_alone Abort t k = (refl, refl)

-- and the records tell it, since the end is no change
pub told_ended : (s : SeatsState) (start seat : ℕ) (recs : List LogRecord) (ending : Ending) (t : OpenTxn) → t.begin ≤ 6 * start + length recs → AreTold s start recs
    → AreTold (record { node = s.node; seats = slice_set s.seats seat None }) start (recs ++ end_record ending t ∷ [])
told_ended s start seat recs ending t named told = record {
  names = names-push (6 * start) recs (end_record ending t) told.names (in_log ending);
  each = All-set (λ o. IfSome o (IsOpenIn (6 * start) (recs ++ end_record ending t ∷ []))) s.seats seat None tt (λ i d below. another (slice_index_or s.seats i d) (told.each i d below));
}
  where
    in_log : (e : Ending) → (fields_of (end_record e t)).txn ≤ 6 * start + length recs
    in_log Commit = named
    in_log Abort = named

    another : (o : Option OpenTxn) → IfSome o (IsOpenIn (6 * start) recs) → IfSome o (IsOpenIn (6 * start) (recs ++ end_record ending t ∷ []))
    another None is = tt
    another (Some u) is = open-other u (6 * start) recs (end_record ending t) (ends_alone ending t u.begin).0 (ends_alone ending t u.begin).1 is

-- the transaction in a seat began before the end of the log
pub seat_lies : (s : SeatsState) (c : CacheState) (seat : ℕ) (t : OpenTxn) → AreTied s c → seat < length s.seats → txn_in s seat ≡ Some t → LiesIn c.log t
seat_lies s c seat t tie below is = subst (λ o. IfSome o (LiesIn c.log)) is (tie.within seat None below)

-- a seat with a transaction is one of the list
pub busy_below : (s : SeatsState) (seat : ℕ) (t : OpenTxn) → txn_in s seat ≡ Some t → seat < length s.seats
busy_below s seat t is = below s.seats seat is
  where
    below : (os : List (Option OpenTxn)) (i : ℕ) → slice_index_or os i None ≡ Some t → i < length os
    below [] i e = cc
    below (o ∷ os) zero e = omega arith
    below (o ∷ os) (suc i) e = omega (arith, below os i e)

-- the numbers of the transaction in a seat are those of records
pub seat_numbers : (s : SeatsState) (c : CacheState) (seat : ℕ) (t : OpenTxn) → AreTied s c → txn_in s seat ≡ Some t → IsRecordNo t.begin × IsRecordNo t.last
seat_numbers s c seat t tie is =
    let below = busy_below s seat t is in
    let lies = seat_lies s c seat t tie below is in
    let room = room_for_end s c seat tie below (ap is_some is) in
    (omega (arith, lies.1, lies.2, room), omega (arith, lies.2, room))

-- the record by which the transaction in a seat ends is legal
pub legal_end : (s : SeatsState) (c : CacheState) (seat : ℕ) (ending : Ending) (t : OpenTxn) → AreTied s c → txn_in s seat ≡ Some t → IsLegal (end_record ending t)
legal_end s c seat ending t tie is = let numbers = seat_numbers s c seat t tie is in ends_legal ending t numbers.0 numbers.1

-- the transaction in a busy seat
pub txn_of : (seats : SeatsState) (seat : ℕ) → IsTrue (is_busy seats seat) → (txn : OpenTxn) × (txn_in seats seat ≡ Some txn)
txn_of seats seat busy = by (txn_in seats seat) refl busy
  where
    by : (o : Option OpenTxn) → txn_in seats seat ≡ o → IsTrue (is_some o) → (txn : OpenTxn) × (txn_in seats seat ≡ Some txn)
    by None is some = cc
    by (Some txn) is some = (txn, is)

-- the tie of the seats, through a call that leaves the log as long as it was
pub tied_same : (s : SeatsState) (c d : CacheState) → d.node ≡ c.node → SameLog c.log d.log → d.log.tail ≡ c.log.tail → AreTied s c → AreTied s d
tied_same s c d node same tail tie =
    let ring : d.log.shape.ring ≡ c.log.shape.ring = ap (λ shape. shape.ring) same.shape in
    let start = same.start in
    let room = tie.room in
    record {
      node = tie.node ∙ sym node;
      room = omega (arith, ring, start, tail, room);
      within = all_longer c.log d.log s.seats start (omega (arith, tail)) tie.within;
      apart = tie.apart;
    }
