-- Whether a transaction is open is what the machine says.
use Rattle.std.specs.Prelude.{◌≡◌, ◌≢◌, ◌==◌, ◌||◌, ◌*◌, ◌<◌, ◌∷◌, [], ℕ, Bool, true, false, List, Option, Some, None, All, IfSome, filter, is_none, is_some, length, map, reverse, refl}
use Rattle.std.specs.List.{list_any}
use Rattle.std.proofs.Common.{arith, ap, subst, sym, ◌∙◌}
use Rattle.std.proofs.lemmas.List.Elements.{All-filter, All-head}
use Rattle.sd_base.specs.Disk.{BlockState}
use Rattle.sd_base.specs.declared.names.TxnId.{TxnId}
use Rattle.sd_base.specs.declared.shape.Shape.{Shape}
use Rattle.log_record.specs.declared.record.LogRecord.{LogRecord}
use Rattle.log_record.specs.declared.record.LogRecord.TheVariants.{Begin}
use Rattle.log_record.specs.Record.{page_op_of}
use Rattle.compensation.specs.Finding.{record_at}
use Rattle.compensation.specs.Left.{uncompensated}
use Rattle.node_cache.specs.Cache.{CacheState}
use Rattle.txn_core.specs.Seats.{OpenTxn, SeatsState, txn_in}
use Rattle.txn_core.specs.Told.{IsOpenIn}
use Rattle.record_machine.specs.Machine.{Deed, Machine, Write, is_begin_in, is_busy}
use Rattle.record_machine.specs.Meaning.{AreLogs, Plain}
use Rattle.store_nodes.specs.Shows.{ShowsUp, deeds_in, numbers_of}
use Rattle.store_nodes.proofs.LeftWrites.{Stands, all_stand}

-- a deed whose log record begins a transaction wrote nothing
began : (first : ℕ) (recs : List LogRecord) (d : Deed) → Stands first recs d → record_at first recs d.number ≡ Some Begin → is_none d.write ≡ true
began first recs d stands begins = by d.write stands.wrote
  where
    is : stands.rec ≡ Begin
    is = let same : Some stands.rec ≡ Some Begin = sym stands.there ∙ begins in cc

    by : (o : Option Write) → IfSome o (λ w. (stands.rec ≢ Begin) × (is_some (page_op_of stands.rec) ≡ true) × IfSome (page_op_of stands.rec) (λ q. q.0.0 ≡ w.page)) → is_none o ≡ true
    by None wrote = refl
    by (Some w) wrote = absurd (wrote.0 is)

-- a seat's deeds are looked at alone
any_in_seat : (seat : ℕ) (ds : List Deed) → list_any (is_begin_in seat) ds ≡ list_any (λ d. is_none d.write) (deeds_in seat ds)
any_in_seat seat [] = refl
any_in_seat seat (d ∷ ds) = by (d.seat == seat) refl (any_in_seat seat ds)
  where
    by : (b : Bool) → (d.seat == seat) ≡ b → list_any (is_begin_in seat) ds ≡ list_any (λ d. is_none d.write) (deeds_in seat ds) → list_any (is_begin_in seat) (d ∷ ds) ≡ list_any (λ d. is_none d.write) (deeds_in seat (d ∷ ds))
    by true is rest = rw is (ap (λ more. is_none d.write || more) rest)
    by false is rest = rw is rest

pub busy_shown : (s : Shape) (pool : List (Option (List ℕ))) (c : CacheState) (seats : SeatsState) (b : ℕ → BlockState) (p : Plain) (m : Machine) (t : TxnId) → t.seat < 8 → length seats.seats ≡ 8 → AreLogs p m → ShowsUp s pool t.node.0 c seats b p m → is_busy m t ≡ is_some (txn_in seats t.seat)
busy_shown s pool c seats b p m t low eight logs up =
    any_in_seat t.seat (m.pending n) ∙ by (txn_in seats t.seat) refl (deeds_in t.seat (m.pending n)) (All-filter (λ (d : Deed). d.seat == t.seat) (Stands (6 * m.start n) (p.live n)) (m.pending n) (all_stand (6 * m.start n) (p.live n) (λ seat. m.records) (m.pending n) (logs.deeds n))) (up.deeds t.seat low)
  where
    n : ℕ
    n = t.node.0

    by : (o : Option OpenTxn) → txn_in seats t.seat ≡ o → (ds : List Deed) → All (Stands (6 * m.start n) (p.live n)) ds → map (λ (e : Deed). e.number) ds ≡ numbers_of (6 * c.log.start) (p.live n) (txn_in seats t.seat) → list_any (λ (d : Deed). is_none d.write) ds ≡ is_some o
    by None is [] stands numbers = refl
    by None is (d ∷ ds) stands numbers = let never : d.number ∷ map (λ (e : Deed). e.number) ds ≡ [] = numbers ∙ ap (numbers_of (6 * c.log.start) (p.live n)) is in cc
    by (Some txn) is [] stands numbers = let never : [] ≡ numbers_of (6 * c.log.start) (p.live n) (Some txn) = numbers ∙ ap (numbers_of (6 * c.log.start) (p.live n)) is in cc
    by (Some txn) is (d ∷ ds) stands numbers =
        let all : d.number ∷ map (λ (e : Deed). e.number) ds ≡ txn.begin ∷ reverse (uncompensated txn.begin (6 * c.log.start) (p.live n)) = numbers ∙ ap (numbers_of (6 * c.log.start) (p.live n)) is in
        let first : d.number ≡ txn.begin = cc in
        let opened : IsOpenIn (6 * c.log.start) (p.live n) txn = subst (λ o. IfSome o (IsOpenIn (6 * c.log.start) (p.live n))) is (up.told.each t.seat None (omega (arith, low, eight))) in
        let begins : record_at (6 * m.start n) (p.live n) d.number ≡ Some Begin = ap (λ k. record_at (6 * k) (p.live n) d.number) up.start ∙ ap (record_at (6 * c.log.start) (p.live n)) first ∙ opened.chained.begun in
        ap (λ b. b || list_any (λ (d : Deed). is_none d.write) ds) (began (6 * m.start n) (p.live n) d (All-head (Stands (6 * m.start n) (p.live n)) d ds stands) begins)

-- and which record began it
pub begun_shown : (s : Shape) (pool : List (Option (List ℕ))) (c : CacheState) (seats : SeatsState) (b : ℕ → BlockState) (p : Plain) (m : Machine) (t : TxnId) (u : OpenTxn) (begin : ℕ) → t.seat < 8 → length seats.seats ≡ 8 → AreLogs p m → ShowsUp s pool t.node.0 c seats b p m → txn_in seats t.seat ≡ Some u
    → filter (λ (d : Deed). is_none d.write) (deeds_in t.seat (m.pending t.node.0)) ≡ record { number = begin; seat = t.seat; write = None } ∷ [] → begin ≡ u.begin
begun_shown s pool c seats b p m t u begin low eight logs up busy begins =
    by (deeds_in t.seat (m.pending n)) (All-filter (λ (d : Deed). d.seat == t.seat) (Stands (6 * m.start n) (p.live n)) (m.pending n) (all_stand (6 * m.start n) (p.live n) (λ seat. m.records) (m.pending n) (logs.deeds n)))
    (up.deeds t.seat low ∙ ap (numbers_of (6 * c.log.start) (p.live n)) busy) begins
  where
    n : ℕ
    n = t.node.0

    by : (ds : List Deed) → All (Stands (6 * m.start n) (p.live n)) ds → map (λ (e : Deed). e.number) ds ≡ u.begin ∷ reverse (uncompensated u.begin (6 * c.log.start) (p.live n)) → filter (λ (d : Deed). is_none d.write) ds ≡ record { number = begin; seat = t.seat; write = None } ∷ [] → begin ≡ u.begin
    by [] stands numbers begins = absurd cc
    by (d ∷ ds) stands numbers begins =
        let first : d.number ≡ u.begin = cc in
        let opened : IsOpenIn (6 * c.log.start) (p.live n) u = subst (λ o. IfSome o (IsOpenIn (6 * c.log.start) (p.live n))) busy (up.told.each t.seat None (omega (arith, low, eight))) in
        let stands_here : record_at (6 * m.start n) (p.live n) d.number ≡ Some Begin = ap (λ k. record_at (6 * k) (p.live n) d.number) up.start ∙ ap (record_at (6 * c.log.start) (p.live n)) first ∙ opened.chained.begun in
        let none : is_none d.write ≡ true = began (6 * m.start n) (p.live n) d (All-head (Stands (6 * m.start n) (p.live n)) d ds stands) stands_here in
        let one : d ∷ filter (λ (d : Deed). is_none d.write) ds ≡ record { number = begin; seat = t.seat; write = None } ∷ [] = rw none at begins in
        let same : d ≡ record { number = begin; seat = t.seat; write = None } = cc in
        sym (ap (λ (e : Deed). e.number) same) ∙ first
