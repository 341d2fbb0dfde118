-- After a stop, the shorter logs and their pages mean the machine with its loose changes taken back.
use Rattle.std.proofs.Common.{◌≡◌, ◌≢◌, ◌⊎◌, inl, inr, ◌==◌, ◌||◌, not, ◌^◌, ◌+◌, ◌-◌, ◌<◌, ◌≤◌, ◌++◌, ◌∷◌, ℕ, zero, suc, Bool, true, false, List, [], length, take, drop, All, IfSome, refl, ap, sym, subst, ◌∙◌, arith, Option, Some, None, slice_index_or, take_all, eq-eqb, sum_by, count_by}
use Rattle.sd_base.proofs.PlaceLaws.{data_of_place}
use Rattle.record_machine.proofs.Homes.{home_is_data}
use Rattle.std.specs.List.{list_any, range_with_len}
use Rattle.std.proofs.lemmas.Bool.{cases_eq, cases_Bool}
use Rattle.std.proofs.lemmas.List.Folds.{list_any_at}
use Rattle.std.proofs.lemmas.List.Sums.{sum_by-cons}
use Rattle.sd_base.specs.declared.names.TxnId.{TxnId}
use Rattle.sd_base.specs.Places.{group_of, map_of_key, page_of_place, slot_of_key, map_of_group}
use Rattle.sd_base.specs.Shape.{page_count}
use Rattle.compensation.specs.Inverse.{content}
use Rattle.log_record.specs.declared.record.LogRecord.{LogRecord}
use Rattle.record_locks.specs.Held.{is_write}
use Rattle.record_locks.proofs.CompatibleLaws.{IsCompatible-locks_where}
use Rattle.space_map.specs.declared.map_entry.MapEntry.TheVariants.{Free}
use Rattle.space_map.specs.Entry.{ident_of as begins_at, is_used_by}
use Rattle.space_map.specs.PageImage.{data_page, ident_of}
use Rattle.recovery_theory.specs.Effect.{OpenUpdate, Transaction, left_of, listed, of_slot, open_updates, step_on, steps_on}
use Rattle.recovery_theory.specs.History.{History, IsCut, entry_at, entry_now, image_now, logs_at}
use Rattle.recovery_theory.specs.Pages.{birth_of, blank, is_used, slots_of}
use Rattle.recovery_theory.specs.Records.{HasRecords}
use Rattle.recovery_theory.specs.Standing.{SettlesBy, with_updates}
use Rattle.recovery_theory.specs.Steps.{IsPlaceToCut, set_at, stopped}
use Rattle.recovery_theory.proofs.Cuts.{at_or_off, set_at-other, set_at-same}
use Rattle.recovery_theory.proofs.Ends.{leads-with_updates}
use Rattle.recovery_theory.proofs.OpenUpdates.{list_cases, transaction, transaction_cases}
use Rattle.recovery_theory.proofs.SlotChanges.{birth_le}
use Rattle.record_machine.specs.Cuts.{Survives, TellsLog, behind_cut, seat_of}
use Rattle.record_machine.specs.Machine.{Deed, LooseChange, Machine, Write, home, open_writes, seen, writes_page}
use Rattle.record_machine.specs.Meaning.{AreLocked, AreLogged, AreLogs, ArePages, IsPresent, Means, Plain, first_record, has_written, writes_key}
use Rattle.record_machine.specs.Recoverable.{Recoverable}
use Rattle.record_machine.specs.Stops.{halted}
use Rattle.record_machine.proofs.Deeds.{overlaid_not}
use Rattle.record_machine.proofs.HomePlaces.{home_of_page, settled_there}
use Rattle.record_machine.proofs.RecoverableEnds.{used_is}
use Rattle.record_machine.proofs.SlotsLeft.{left_written, written_left}
use Rattle.record_machine.proofs.StopPages.{count_is, data_in, entries_are, held, home_back, home_kept, ident_is, is_end, live_other, long, map_is, map_number, off, page_is, page_number, plain_after, standing, tie_after, told}
use Rattle.record_machine.proofs.StopSteps.{idents_left, pending_others, tail_others, write_stays}
use Rattle.record_machine.proofs.ToldNow.{ident_now}
use Rattle.record_machine.proofs.TakenBack.{untouched}

-- ---- sums over the nodes

sum_same : (f g : ℕ → ℕ) (n : ℕ) → ((j : ℕ) → j ≢ n → f j ≤ g j) → (k a : ℕ) → n < a → sum_by f (range_with_len a k) ≤ sum_by g (range_with_len a k)
sum_same f g n le zero a past = omega arith
sum_same f g n le (suc k) a past =
    let one = sum_by-cons f a (range_with_len (a + 1) k) in
    let two = sum_by-cons g a (range_with_len (a + 1) k) in
    let here = le a (λ e. absurd (omega (arith, e, past))) in
    let rest = sum_same f g n le k (a + 1) (omega (arith, past)) in
    omega (arith, one, two, here, rest)

-- one of the numbers may be greater by so much
sum_one : (f g : ℕ → ℕ) (n e : ℕ) → ((j : ℕ) → j ≢ n → f j ≤ g j) → f n ≤ g n + e → (k a : ℕ) → sum_by f (range_with_len a k) ≤ sum_by g (range_with_len a k) + e
sum_one f g n e le own zero a = omega arith
sum_one f g n e le own (suc k) a = go (cases_eq a n) (sum_one f g n e le own k (a + 1))
  where
    one : sum_by f (range_with_len a (suc k)) ≡ f a + sum_by f (range_with_len (a + 1) k)
    one = sum_by-cons f a (range_with_len (a + 1) k)

    two : sum_by g (range_with_len a (suc k)) ≡ g a + sum_by g (range_with_len (a + 1) k)
    two = sum_by-cons g a (range_with_len (a + 1) k)

    go : (a ≡ n) ⊎ (a ≢ n) → sum_by f (range_with_len (a + 1) k) ≤ sum_by g (range_with_len (a + 1) k) + e → sum_by f (range_with_len a (suc k)) ≤ sum_by g (range_with_len a (suc k)) + e
    go (inl same) ih =
        let rest = sum_same f g n le k (a + 1) (omega (arith, same)) in
        let here : f a ≤ g a + e = subst (λ j. f j ≤ g j + e) (sym same) own in
        omega (arith, one, two, here, rest)
    go (inr other) ih = (let here = le a other in omega (arith, one, two, here, ih))

-- ---- steps of a page

second_none : {A : Type 0} (a b : List A) → a ++ b ≡ [] → b ≡ []
second_none [] b e = e
second_none (x ∷ a) b e = absurd cc

none_later : (x j k : ℕ) (l : List LogRecord) → j ≤ k → steps_on x (drop j l) ≡ [] → steps_on x (drop k l) ≡ []
none_later x zero zero l le e = e
none_later x zero (suc k) [] le e = refl
none_later x zero (suc k) (r ∷ l) le e = none_later x zero k l (omega arith) (second_none (step_on x r) (steps_on x l) e)
none_later x (suc j) zero l le e = absurd (omega arith)
none_later x (suc j) (suc k) [] le e = refl
none_later x (suc j) (suc k) (r ∷ l) le e = none_later x j k l (omega arith) e

-- what is left of an open transaction
left_listed : (o : Option (List OpenUpdate)) (x s : ℕ) → of_slot x s (listed o) ≢ [] → (left : List OpenUpdate) × (o ≡ Some left)
left_listed None x s some = absurd (some refl)
left_listed (Some left) x s some = (left, refl)

module _ (dirty : ℕ → Bool) (h : History) (p : Plain) (m : Machine) (n cut : ℕ) (s : Survives dirty h p m) (place : IsPlaceToCut h n cut) where
  abbrev r : Recoverable dirty h p m
  r = s.recoverable

  abbrev cs : List LooseChange
  cs = behind_cut h m n cut

  abbrev h' : History
  h' = stopped h n cut

  abbrev m' : Machine
  m' = halted n (length (m.loose n) - (length (h.live n) - cut)) m

  abbrev q : Plain
  q = plain_after dirty h p m n cut s place

  abbrev ends : ℕ → ℕ
  ends k = length (h'.live k)

  -- where another log is cut too, what is written stands in the page that the group has then
  pub homes_after : (j c : ℕ) → IsPlaceToCut h' j c → (ds : List Deed) → TellsLog m s.recoverable.begun j (h.devices.first j) (take c (h'.live j)) ds → All (λ d. IfSome d.write (λ w. home m' w.key ≡ Some w.page)) ds
  homes_after j c at ds tells i d low = go (slice_index_or ds i d).write refl (tells.homes i d low)
    where
      seat : ℕ
      seat = (slice_index_or ds i d).seat

      cuts : ℕ → ℕ
      cuts = set_at j c ends

      is_cut : IsCut h' cuts
      is_cut = at_or_off (λ k. (h'.stable k ≤ set_at j c ends k) × (set_at j c ends k ≤ length (h'.live k))) j
          (rw (set_at-same j c ends) (at.low, at.high))
          (λ k d. rw (set_at-other j c ends k d) (is_end dirty h p m n cut s place k))

      by : (w : Write) → (slice_index_or ds i d).write ≡ Some w → home m w.key ≡ Some w.page → home m' w.key ≡ Some w.page
      by w is at_home =
          let own : writes_key (slice_index_or ds i d).seat w.key (slice_index_or ds i d) ≡ true = rw (is, eq-eqb (slice_index_or ds i d).seat (slice_index_or ds i d).seat refl) (eq-eqb w.key w.key refl) in
          let any : list_any (writes_key (slice_index_or ds i d).seat w.key) ds ≡ true = list_any_at (writes_key (slice_index_or ds i d).seat w.key) ds i d low own in
          let z = tells.seats (slice_index_or ds i d).seat (tells.opened (slice_index_or ds i d).seat w.key any) in
          let some = written_left m s.recoverable.begun j (h.devices.first j) (take c (h'.live j)) ds (slice_index_or ds i d).seat w.key w.page z.left tells any at_home z.going in
          let opened : open_updates h.devices.first (logs_at h' cuts) (transaction j (s.recoverable.begun j (slice_index_or ds i d).seat)) ≡ z.left =
          ap (λ k. listed (left_of (s.recoverable.begun j (slice_index_or ds i d).seat) (h.devices.first j) (take k (h'.live j)) None)) (set_at-same j c ends) ∙ ap listed z.going in
          let pending = (held dirty h p m n cut s place).pending cuts is_cut w.page (slot_of_key w.key) (transaction j (s.recoverable.begun j (slice_index_or ds i d).seat)) (λ e. some (ap (of_slot w.page (slot_of_key w.key)) (sym opened) ∙ e)) in
          home_kept dirty h p m n cut s place w.key w.page at_home pending.1

      go : (o : Option Write) → (slice_index_or ds i d).write ≡ o → IfSome o (λ w. home m w.key ≡ Some w.page) → IfSome o (λ w. home m' w.key ≡ Some w.page)
      go None is at_home = tt
      go (Some w) is at_home = by w is at_home

  -- ---- what is present

  logs_end : (j : ℕ) → logs_at h' ends j ≡ h'.live j
  logs_end j = take_all (length (h'.live j)) (h'.live j) (omega arith)

  opened : (o : Transaction) → open_updates h.devices.first (logs_at h' ends) o ≡ open_updates h.devices.first h'.live o
  opened o = ap (λ l. listed (left_of o.txn (h.devices.first o.node) l None)) (logs_end o.node)

  keys : HasRecords h'.devices.shape (entry_at h' ends) h'.settled m.records
  keys = (held dirty h p m n cut s place).keys ends (is_end dirty h p m n cut s place)

  settled_is : (key x : ℕ) → home m' key ≡ Some x → m.records key ≡ h.settled x (slot_of_key key)
  settled_is key x is = settled_there h' m.records m' (held dirty h p m n cut s place) s.recoverable.shape s.means.pages.shape (count_is dirty h p m n cut s place) (tie_after dirty h p m n cut s place) key x is

  -- a transaction sees what its updates that are left make of the record
  sees : (t : TxnId) (key x : ℕ) → home m' key ≡ Some x → has_written m' t key ≡ true
      → seen m' t key ≡ with_updates (of_slot x (slot_of_key key) (open_updates h.devices.first h'.live (transaction t.node.0 (s.recoverable.begun t.node.0 t.seat)))) (m.records key)
  sees t key x is any =
      let tells = told dirty h p m n cut s place t.node.0 in
      let z = tells.seats t.seat (tells.opened t.seat key any) in
      tells.seen t.seat (record { 0 = key }) x z.left any (home_back dirty h p m n cut s place key x is) z.going
      ∙ ap (λ o. with_updates (of_slot x (slot_of_key key) (listed o)) (m.records key)) (sym z.going)

  present_after : (key x : ℕ) → home m' key ≡ Some x → IsPresent m' key (content (q.pages x) (slot_of_key key))
  present_after key x is t alone = go owner (list_cases (of_slot x (slot_of_key key) (open_updates h.devices.first h'.live owner.0)))
    where
      owner : (o : Transaction) × SettlesBy h.devices.first (logs_at h' ends) (image_now h' x) x (slot_of_key key) (h.settled x (slot_of_key key)) o
      owner = (standing dirty h p m n cut s place).slots x (slot_of_key key)

      value : content (q.pages x) (slot_of_key key) ≡ with_updates (of_slot x (slot_of_key key) (open_updates h.devices.first h'.live owner.0)) (m.records key)
      value = ap (λ i. slots_of i (slot_of_key key)) (sym (page_is dirty h p m n cut s place x (home_is_data p m key x s.means.pages (home_back dirty h p m n cut s place key x is)).0))
          ∙ (leads-with_updates (of_slot x (slot_of_key key) (open_updates h.devices.first (logs_at h' ends) owner.0)) (h.settled x (slot_of_key key)) (slots_of (image_now h' x) (slot_of_key key)) owner.1.value
          ∙ (ap (λ us. with_updates (of_slot x (slot_of_key key) us) (h.settled x (slot_of_key key))) (opened owner.0)
          ∙ ap (with_updates (of_slot x (slot_of_key key) (open_updates h.devices.first h'.live owner.0))) (sym (settled_is key x is))))

      -- nothing is left of the slot: nobody sees other than the committed record
      of_none : of_slot x (slot_of_key key) (open_updates h.devices.first h'.live owner.0) ≡ [] → (has_written m' t key ≡ true) ⊎ (has_written m' t key ≡ false) → content (q.pages x) (slot_of_key key) ≡ seen m' t key
      of_none none (inr not) = value ∙ (ap (λ us. with_updates us (m.records key)) none ∙ sym (overlaid_not t.seat key (m.records key) (m'.pending t.node.0) not))
      of_none none (inl any) = value ∙ (ap (λ us. with_updates us (m.records key)) (none ∙ sym (its (transaction_cases (transaction t.node.0 (s.recoverable.begun t.node.0 t.seat)) owner.0))) ∙ sym (sees t key x is any))
        where
          its : (transaction t.node.0 (s.recoverable.begun t.node.0 t.seat) ≡ owner.0) ⊎ (transaction t.node.0 (s.recoverable.begun t.node.0 t.seat) ≢ owner.0)
              → of_slot x (slot_of_key key) (open_updates h.devices.first h'.live (transaction t.node.0 (s.recoverable.begun t.node.0 t.seat))) ≡ []
          its (inl e) = ap (λ o. of_slot x (slot_of_key key) (open_updates h.devices.first h'.live o)) e ∙ none
          its (inr d) = ap (of_slot x (slot_of_key key)) (sym (opened (transaction t.node.0 (s.recoverable.begun t.node.0 t.seat)))) ∙ owner.1.alone (transaction t.node.0 (s.recoverable.begun t.node.0 t.seat)) d

      -- what is left is of a transaction that has written the record, so it is the one
      of_some : of_slot x (slot_of_key key) (open_updates h.devices.first h'.live owner.0) ≢ [] → content (q.pages x) (slot_of_key key) ≡ seen m' t key
      of_some some =
          let left = left_listed (left_of owner.0.txn (h.devices.first owner.0.node) (h'.live owner.0.node) None) x (slot_of_key key) some in
          let tells = told dirty h p m n cut s place owner.0.node in
          let seat = tells.opens owner.0.txn left.0 left.1 in
          let going : left_of (s.recoverable.begun owner.0.node seat.0) (h.devices.first owner.0.node) (h'.live owner.0.node) None ≡ Some left.0 = ap (λ b. left_of b (h.devices.first owner.0.node) (h'.live owner.0.node) None) seat.2 ∙ left.1 in
          let any : has_written m' (seat_of owner.0.node seat.0) key ≡ true =
          left_written p m s.recoverable.begun owner.0.node (h.devices.first owner.0.node) (h'.live owner.0.node) (m'.pending owner.0.node) seat.0 key x left.0 s.means.pages tells seat.1 (home_back dirty h p m n cut s place key x is) going
          (λ e. some (ap (λ o. of_slot x (slot_of_key key) (listed o)) left.1 ∙ e)) in
          let it_is : seat_of owner.0.node seat.0 ≡ t = alone (seat_of owner.0.node seat.0) any in
          let its : transaction owner.0.node (s.recoverable.begun owner.0.node seat.0) ≡ owner.0 = ap (transaction owner.0.node) seat.2 in
          value ∙ (ap (λ o. with_updates (of_slot x (slot_of_key key) (open_updates h.devices.first h'.live o)) (m.records key)) (sym its)
          ∙ (sym (sees (seat_of owner.0.node seat.0) key x is any) ∙ ap (λ u. seen m' u key) it_is))

      go : (o : (o : Transaction) × SettlesBy h.devices.first (logs_at h' ends) (image_now h' x) x (slot_of_key key) (h.settled x (slot_of_key key)) o)
          → (of_slot x (slot_of_key key) (open_updates h.devices.first h'.live owner.0) ≡ []) ⊎ (of_slot x (slot_of_key key) (open_updates h.devices.first h'.live owner.0) ≢ []) → content (q.pages x) (slot_of_key key) ≡ seen m' t key
      go o (inl none) = of_none none (cases_Bool (has_written m' t key))
      go o (inr some) = of_some some

  absent_after : (key : ℕ) → home m' key ≡ None → m.records key ≡ None
  absent_after key none = all.absent key (λ k i lt le used group.
      let map_is : map_of_key m.shape key ≡ k = sym (ap (λ g. map_of_group m.shape (record { 0 = g })) group) ∙ all.home k i lt le used in
      let there : is_used_by (group_of key) (entry_now h' (page_of_place m.shape k i)) ≡ true = used_is (entry_now h' (page_of_place m.shape k i)) (group_of key).0 used group in
      let some = home_of_page h' m.records m' (held dirty h p m n cut s place) s.recoverable.shape s.means.pages.shape (count_is dirty h p m n cut s place) (tie_after dirty h p m n cut s place) key i le
      (subst (λ z. is_used_by (group_of key) (entry_now h' (page_of_place m.shape z i)) ≡ true) (sym map_is) there) in
      let never : None ≡ Some (page_of_place m.shape (map_of_key m.shape key) i) = sym none ∙ some in
      absurd cc)
    where
      all : HasRecords m.shape (entry_at h' ends) h.settled m.records
      all = subst (λ z. HasRecords z (entry_at h' ends) h.settled m.records) s.recoverable.shape keys

  pages_after : ArePages q m'
  pages_after = record {
    shape = s.means.pages.shape;
    count = count_is dirty h p m n cut s place;
    map_number = map_number dirty h p m n cut s place;
    number = λ x low high. page_number dirty h p m n cut s place x low;
    entries = λ x lt. sym (entries_are dirty h p m n cut s place x lt);
    map_ident = λ x lt. sym (ident_is dirty h p m n cut s place x (omega (arith, lt)) ∙ ap ident_of (map_is dirty h p m n cut s place x lt));
    ident = λ x low high. sym (ident_is dirty h p m n cut s place x high ∙ ap ident_of (page_is dirty h p m n cut s place x low));
    alive = λ k i lt le.
        let its = data_of_place m.shape k i lt le in
        let born = birth_le h'.devices (logs_at h' ends) (birth_of (entry_now h' (page_of_place m.shape k i))) (image_now h' (page_of_place m.shape k i)) (page_of_place m.shape k i) (h.guard (page_of_place m.shape k i)) ((standing dirty h p m n cut s place).pages (page_of_place m.shape k i)) in
        let entry = ap begins_at (tie_after dirty h p m n cut s place k i lt le) in
        let image = ap ident_of (page_is dirty h p m n cut s place (page_of_place m.shape k i) its.0) in
        omega (arith, born, entry, image);
    unused = λ k i ident lt le free.
        let its = data_of_place m.shape k i lt le in
        let entry : entry_now h' (page_of_place m.shape k i) ≡ Free ident = tie_after dirty h p m n cut s place k i lt le ∙ free in
        let empty = (standing dirty h p m n cut s place).unused (page_of_place m.shape k i) (subst (λ z. z.maps ≤ page_of_place m.shape k i) (sym s.recoverable.shape) its.0) (ap is_used entry) in
        let image : data_page (q.pages (page_of_place m.shape k i)) ≡ blank (page_of_place m.shape k i) ident = sym (page_is dirty h p m n cut s place (page_of_place m.shape k i) its.0) ∙ (empty ∙ ap (λ e. blank (page_of_place m.shape k i) (birth_of e)) entry) in
        (ap ident_of image, ap (λ i. (data_in i).slots) image);
    present = present_after;
    absent = absent_after;
  }

  -- ---- logs and locks

  logs_after : AreLogs q m'
  logs_after = record {
    tail = λ j. tail j (cases_eq j n);
    deeds = λ j. subst (λ f. AreLogged f (h'.live j) (λ seat. m.records) (m'.pending j)) (s.recoverable.first j) (told dirty h p m n cut s place j).deeds;
    rising = λ j. (told dirty h p m n cut s place j).rising;
    homes = λ t. homes_after t.node.0 (length (h'.live t.node.0)) (record { low = (is_end dirty h p m n cut s place t.node.0).0; high = omega arith }) (m'.pending t.node.0)
        (subst (λ l. TellsLog m s.recoverable.begun t.node.0 (h.devices.first t.node.0) l (m'.pending t.node.0)) (sym (logs_end t.node.0)) (told dirty h p m n cut s place t.node.0));
  }
    where
      tail : (j : ℕ) → (j ≡ n) ⊎ (j ≢ n) → m'.tail j ≡ first_record m j + length (h'.live j)
      tail j (inl e) = subst (λ k. m'.tail k ≡ first_record m k + length (h'.live k)) (sym e) ((s.stops.back n cut place).tail ∙ ap (λ k. first_record m n + k) (sym (long dirty h p m n cut s place)))
      tail j (inr d) = tail_others n j cs m.tail d ∙ (s.means.logs.tail j ∙ ap (λ (l : List LogRecord). first_record m j + length l) (sym (s.recoverable.live j) ∙ sym (live_other dirty h p m n cut s place j d)))

  locked_after : AreLocked m'
  locked_after = record {
    apart = IsCompatible-locks_where (λ l mode. not (l.txn.node.0 == n) || is_write mode) m.locks s.means.locked.apart;
    written = λ t key any. write_stays m.locks n key t true refl ((told dirty h p m n cut s place t.node.0).locked t.seat key any);
  }

  -- ---- identifiers

  tops_after : (x : ℕ) → m.shape.maps ≤ x → x < page_count m.shape → m'.ident x + open_writes m' x ≤ 2 ^ 63 + 2 ^ 40
  tops_after x low high =
      let top = s.means.tops x low high in
      let sum = sum_one (λ j. count_by (writes_page x) (m'.pending j)) (λ j. count_by (writes_page x) (m.pending j)) n (length (steps_on x (drop cut (h.live n))))
      (λ j d. let e = ap (λ (ds : List Deed). count_by (writes_page x) ds) (pending_others n j cs m.pending d) in omega (arith, e))
      ((s.stops.back n cut place).writes x) m.shape.nodes 1 in
      let up = rises (cases_eq (h.guard x) n) in
      omega (arith, top, sum, up)
    where
      rises : (h.guard x ≡ n) ⊎ (h.guard x ≢ n) → m'.ident x + length (steps_on x (drop cut (h.live n))) ≤ m.ident x
      rises (inl g) =
          let own = subst (λ k. ident_of (h.image x cut) + length (steps_on x (drop cut (h.live k))) ≤ ident_of (image_now h x)) g
          (s.recoverable.rolled.own x cut (subst (λ k. h.stable k ≤ cut) (sym g) place.low) (subst (λ k. cut ≤ length (h.live k)) (sym g) place.high)) in
          let was = ident_now dirty h p m s.recoverable s.means x high in
          let is = (s.stops.back n cut place).ident x high g in
          omega (arith, own, was, is)
      rises (inr d) =
          let none = none_later x (h.stable n) cut (h.live n) place.low (s.recoverable.rolled.others x n (λ e. d (sym e))) in
          let zero_steps = ap (λ l. length l) none in
          let is = idents_left x cs m.ident (untouched x cs (off dirty h p m n cut s place x d)) in
          omega (arith, zero_steps, is)

  pub means_after : Means q m'
  means_after = record { pages = pages_after; logs = logs_after; locked = locked_after; tops = tops_after }
