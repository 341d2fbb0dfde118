-- The updates that are left of a transaction are the writes of it that the machine has.
use Rattle.std.specs.Prelude.{◌≡◌, ◌≢◌, ◌==◌, ◌*◌, ◌<◌, ◌++◌, ◌∷◌, [], ℕ, Bool, true, false, List, Option, Some, None, All, IfSome, filter, is_some, map, reverse, refl}
use Rattle.std.proofs.Common.{arith, ap, subst, sym, ◌∙◌}
use Rattle.std.proofs.lemmas.List.{append_assoc, map-append, reverse-append, reverse-reverse}
use Rattle.std.proofs.lemmas.List.Elements.{All-cons, All-filter, All-head, All-tail}
use Rattle.sd_base.specs.Disk.{BlockState}
use Rattle.sd_base.specs.declared.names.TxnId.{TxnId}
use Rattle.sd_base.specs.declared.shape.Shape.{Shape}
use Rattle.log_record.specs.declared.record.LogRecord.{LogRecord}
use Rattle.log_record.specs.declared.record.LogRecord.TheVariants.{Begin, Set, Append, Commit, Abort, Restore, Cut, MapUse, MapFree}
use Rattle.log_record.specs.Record.{page_op_of}
use Rattle.compensation.specs.Left.{is_update_of, uncompensated}
use Rattle.compensation.specs.Finding.{record_at}
use Rattle.compensation.proofs.FindingLaws.{update_left}
use Rattle.node_cache.specs.Cache.{CacheState}
use Rattle.txn_core.specs.Seats.{OpenTxn, SeatsState, txn_in}
use Rattle.txn_core.specs.Told.{IsOpenIn}
use Rattle.txn_core.proofs.UndoLaws.{seat_told}
use Rattle.record_machine.specs.Machine.{Deed, Machine, Write, is_write_in, writes_of}
use Rattle.record_machine.specs.Meaning.{AreLogged, AreLogs, Plain, Tells, after}
use Rattle.store_nodes.specs.Shows.{ShowsUp, deeds_in, numbers_of}

-- ---- the log record of a deed

-- it stands in the log, and changes the page of the write
pub record Stands (first : ℕ) (recs : List LogRecord) (d : Deed) : Type 0 where
  pub rec : LogRecord
  pub there : record_at first recs d.number ≡ Some rec
  pub began : d.write ≡ None → rec ≡ Begin
  pub wrote : IfSome d.write (λ w. (rec ≢ Begin) × (is_some (page_op_of rec) ≡ true) × IfSome (page_op_of rec) (λ o. o.0.0 ≡ w.page))

told_page : (rec : LogRecord) (w : Write) (v : Option (List ℕ)) → Tells rec w v → (rec ≢ Begin) × (is_some (page_op_of rec) ≡ true) × IfSome (page_op_of rec) (λ o. o.0.0 ≡ w.page)
told_page Begin w v tells = absurd tells
told_page (Set txn prev page bsi slot before after) w v tells = (λ same. cc, refl, tells.0)
told_page (Append txn prev page bsi slot present len bytes) w v tells = (λ same. cc, refl, tells.0)
told_page (Commit txn prev) w v tells = absurd tells
told_page (Abort txn prev) w v tells = absurd tells
told_page (Restore txn prev next page bsi slot after) w v tells = absurd tells
told_page (Cut txn prev next page bsi slot present len) w v tells = absurd tells
told_page (MapUse page bsi place group) w v tells = absurd tells
told_page (MapFree page bsi place group ident) w v tells = absurd tells

some_then : {X : Type 0} (o : Option X) (P Q : X → Type 0) → IfSome o P → ((x : X) → P x → Q x) → IfSome o Q
some_then None P Q p then = tt
some_then (Some x) P Q p then = then x p

pub all_stand : (first : ℕ) (recs : List LogRecord) (value : ℕ → ℕ → Option (List ℕ)) (ds : List Deed) → AreLogged first recs value ds → All (Stands first recs) ds
all_stand first recs value [] logged = λ k d low. absurd (omega (arith, low))
all_stand first recs value (d ∷ ds) logged = All-cons (Stands first recs) d ds
    (record {
      rec = logged.0.rec;
      there = logged.0.there;
      began = logged.0.began;
      wrote = some_then d.write (λ w. Tells logged.0.rec w (value d.seat w.key)) _ logged.0.wrote (λ w tells. told_page logged.0.rec w (value d.seat w.key) tells);
    })
    (all_stand first recs (after d value) ds logged.1)

-- ---- the writes among the deeds of a seat

pub filter_both : (seat : ℕ) (ds : List Deed) → filter (is_write_in seat) ds ≡ filter (λ d. is_some d.write) (deeds_in seat ds)
filter_both seat [] = refl
filter_both seat (d ∷ ds) = by (d.seat == seat) refl (is_some d.write) refl (filter_both seat ds)
  where
    by : (a : Bool) → (d.seat == seat) ≡ a → (b : Bool) → is_some d.write ≡ b → filter (is_write_in seat) ds ≡ filter (λ e. is_some e.write) (deeds_in seat ds) → filter (is_write_in seat) (d ∷ ds) ≡ filter (λ e. is_some e.write) (deeds_in seat (d ∷ ds))
    by true own true some rest = rw own (rw some (ap (λ es. d ∷ es) rest))
    by true own false some rest = rw own (rw some rest)
    by false own b some rest = rw own rest

-- the numbers of deeds, the last first
abbrev pub numbers_back : List Deed → List ℕ
numbers_back ds = reverse (map (λ d. d.number) ds)

pub back_parts : (earlier later : List Deed) (d : Deed) → numbers_back (earlier ++ d ∷ later) ≡ numbers_back later ++ d.number ∷ numbers_back earlier
back_parts earlier later d =
    ap reverse (map-append (λ (e : Deed). e.number) earlier (d ∷ later))
    ∙ reverse-append (map (λ (e : Deed). e.number) earlier) (d.number ∷ map (λ (e : Deed). e.number) later)
    ∙ ap (λ ns. ns ++ numbers_back earlier) (reverse-append (d.number ∷ []) (map (λ (e : Deed). e.number) later))
    ∙ append_assoc (numbers_back later) (d.number ∷ []) (numbers_back earlier)

module _ (n : ℕ) (s : Shape) (pool : List (Option (List ℕ))) (c : CacheState) (seats : SeatsState) (b : ℕ → BlockState) (p : Plain) (m : Machine) (t : TxnId) (u : OpenTxn) (was : ShowsUp s pool n c seats b p m) (logs : AreLogs p m) (node : t.node.0 ≡ n) (low : t.seat < 8) (busy : txn_in seats t.seat ≡ Some u) where
  abbrev pub first : ℕ
  first = 6 * c.log.start

  abbrev pub left : List ℕ
  left = uncompensated u.begin first (p.live n)

  own : IsOpenIn first (p.live n) u
  own = seat_told seats c.log.start t.seat u (p.live n) was.told busy

  pub stand : All (Stands first (p.live n)) (m.pending n)
  stand = all_stand first (p.live n) (λ seat. m.records) (m.pending n) (subst (λ j. AreLogged (6 * j) (p.live n) (λ seat. m.records) (m.pending n)) was.start (logs.deeds n))

  -- a deed whose number is left wrote
  pub wrote : (d : Deed) (newer before : List ℕ) → Stands first (p.live n) d → left ≡ newer ++ d.number ∷ before → is_some d.write ≡ true
  wrote d newer before stands at = by d.write refl
    where
      by : (o : Option Write) → d.write ≡ o → is_some d.write ≡ true
      by None none =
          let is : is_update_of u.begin stands.rec ≡ true = update_left u.begin first (p.live n) newer d.number before stands.rec at stands.there in
          let never : false ≡ true = ap (is_update_of u.begin) (sym (stands.began none)) ∙ is in cc
      by (Some w) some = ap is_some some

  all_wrote : (earlier ds : List Deed) → numbers_back (earlier ++ ds) ≡ left → All (Stands first (p.live n)) ds → filter (λ d. is_some d.write) ds ≡ ds
  all_wrote earlier [] are stands = refl
  all_wrote earlier (d ∷ ds) are stands =
      let is = wrote d (numbers_back ds) (numbers_back earlier) (All-head (Stands first (p.live n)) d ds stands) (sym are ∙ back_parts earlier ds d) in
      let rest = all_wrote (earlier ++ d ∷ []) ds (ap numbers_back (append_assoc earlier (d ∷ []) ds) ∙ are) (All-tail (Stands first (p.live n)) d ds stands) in
      rw is (ap (λ es. d ∷ es) rest)

  -- the first deed is the begin, and the others are the writes
  split : (ds : List Deed) → map (λ d. d.number) ds ≡ u.begin ∷ reverse left → All (Stands first (p.live n)) ds → numbers_back (filter (λ d. is_some d.write) ds) ≡ left
  split [] are stands = cc
  split (d ∷ ds) are stands =
      let head : d.number ≡ u.begin = cc in
      let tail : map (λ (e : Deed). e.number) ds ≡ reverse left = cc in
      let back : numbers_back ds ≡ left = ap reverse tail ∙ reverse-reverse left in
      let none : is_some d.write ≡ false = begins d (All-head (Stands first (p.live n)) d ds stands) head in
      rw none (ap numbers_back (all_wrote [] ds back (All-tail (Stands first (p.live n)) d ds stands)) ∙ back)
    where
      begins : (d : Deed) → Stands first (p.live n) d → d.number ≡ u.begin → is_some d.write ≡ false
      begins d stands at = by d.write refl
        where
          by : (o : Option Write) → d.write ≡ o → is_some d.write ≡ false
          by None none = ap is_some none
          by (Some w) some =
              let one : Some stands.rec ≡ Some Begin = sym stands.there ∙ ap (record_at first (p.live n)) at ∙ own.chained.begun in
              let is : stands.rec ≡ Begin = cc in
              absurd ((subst (λ o. IfSome o (λ x. (stands.rec ≢ Begin) × (is_some (page_op_of stands.rec) ≡ true) × IfSome (page_op_of stands.rec) (λ q. q.0.0 ≡ x.page))) some stands.wrote).0 is)

  -- the numbers of the writes are those of the updates that are left
  pub writes_left : numbers_back (writes_of m t) ≡ left
  writes_left =
      ap (λ j. numbers_back (filter (is_write_in t.seat) (m.pending j))) node
      ∙ ap numbers_back (filter_both t.seat (m.pending n))
      ∙ split (deeds_in t.seat (m.pending n)) (was.deeds t.seat low ∙ ap (numbers_of first (p.live n)) busy) (All-filter (λ d. d.seat == t.seat) (Stands first (p.live n)) (m.pending n) stand)

  -- what is left before a write of it
  pub left_parts : (earlier later : List Deed) (d : Deed) → writes_of m t ≡ earlier ++ d ∷ later → left ≡ numbers_back later ++ d.number ∷ numbers_back earlier
  left_parts earlier later d are = sym writes_left ∙ ap numbers_back are ∙ back_parts earlier later d
