-- What a cluster shows after a transaction has begun.
use Rattle.std.specs.Prelude.{◌≡◌, ◌≢◌, ◌==◌, ◌*◌, ◌<◌, ◌≤◌, ◌++◌, ◌∷◌, [], ℕ, Bool, true, false, List, Option, Some, None, All, IfSome, is_some, length, map, reverse, slice_index_or, slice_set, refl}
use Rattle.std.proofs.Common.{arith, inl, inr, ap, subst, sym, ◌∙◌, length-set}
use Rattle.std.proofs.lemmas.Bool.{cases_eq, eq-eqb}
use Rattle.std.proofs.lemmas.Bool.Decides.{nat_tests}
use Rattle.std.proofs.lemmas.List.{get_or-set_other, get_or-set_same, map-append}
use Rattle.std.proofs.lemmas.List.Elements.{All-push}
use Rattle.sd_base.specs.Disk.{BlockState}
use Rattle.sd_base.specs.declared.names.TxnId.{TxnId}
use Rattle.sd_base.specs.declared.shape.Shape.{Shape}
use Rattle.log_record.specs.declared.record.LogRecord.{LogRecord}
use Rattle.log_record.specs.declared.record.LogRecord.TheVariants.{Begin}
use Rattle.private_log.specs.Log.{SameLog}
use Rattle.compensation.specs.Left.{is_update_of, next_after, uncompensated}
use Rattle.compensation.proofs.LeftLaws.{left-other}
use Rattle.node_cache.specs.Cache.{CacheState}
use Rattle.txn_core.specs.Seats.{OpenTxn, SeatsState, is_busy, txn_in}
use Rattle.txn_core.specs.Told.{AreTold, HasRecords, IsOpenIn}
use Rattle.record_machine.specs.Machine.{Deed, Machine, Write, put}
use Rattle.record_machine.specs.Meaning.{AreLogs, Plain, logged}
use Rattle.record_machine.proofs.Put.{put_same}
use Rattle.record_machine.specs.Parts.{Begin as Began, done_by, one}
use Rattle.store_nodes.specs.Shows.{ShowsUp, deeds_in, numbers_of}
use Rattle.store_nodes.proofs.ShownLogged.{tail_shown, up_logged}

-- ---- the deeds of a seat

-- one more deed of it, or of another one
pub deeds-push : (seat : ℕ) (ds : List Deed) (d : Deed) → d.seat ≡ seat → deeds_in seat (ds ++ d ∷ []) ≡ deeds_in seat ds ++ d ∷ []
deeds-push seat [] d own = rw (eq-eqb d.seat seat own) refl
deeds-push seat (e ∷ ds) d own = by (e.seat == seat) refl (deeds-push seat ds d own)
  where
    by : (b : Bool) → (e.seat == seat) ≡ b → deeds_in seat (ds ++ d ∷ []) ≡ deeds_in seat ds ++ d ∷ [] → deeds_in seat ((e ∷ ds) ++ d ∷ []) ≡ deeds_in seat (e ∷ ds) ++ d ∷ []
    by true is rest = rw is (ap (λ es. e ∷ es) rest)
    by false is rest = rw is rest

pub deeds-other : (seat : ℕ) (ds : List Deed) (d : Deed) → d.seat ≢ seat → deeds_in seat (ds ++ d ∷ []) ≡ deeds_in seat ds
deeds-other seat [] d other = let not : (d.seat == seat) ≡ false = grind (arith, nat_tests) in rw not refl
deeds-other seat (e ∷ ds) d other = by (e.seat == seat) refl (deeds-other seat ds d other)
  where
    by : (b : Bool) → (e.seat == seat) ≡ b → deeds_in seat (ds ++ d ∷ []) ≡ deeds_in seat ds → deeds_in seat ((e ∷ ds) ++ d ∷ []) ≡ deeds_in seat (e ∷ ds)
    by true is rest = rw is (ap (λ es. e ∷ es) rest)
    by false is rest = rw is rest

-- ---- the numbers of a seat's records

-- a record that is none of the transaction's changes nothing
pub numbers-other : (first : ℕ) (recs : List LogRecord) (rec : LogRecord) (o : Option OpenTxn) → IfSome o (λ t. (is_update_of t.begin rec ≡ false) × (next_after t.begin rec ≡ None)) → numbers_of first (recs ++ rec ∷ []) o ≡ numbers_of first recs o
numbers-other first recs rec None other = refl
numbers-other first recs rec (Some t) other = ap (λ us. t.begin ∷ reverse us) (left-other t.begin first recs rec other.0 other.1)

-- ---- the node after it

-- the deeds of the node
pub deeds_done : (n : ℕ) (t : TxnId) (w : Option Write) (m : Machine) → t.node.0 ≡ n → (done_by t w m).pending n ≡ m.pending n ++ record { number = m.tail n; seat = t.seat; write = w } ∷ []
deeds_done n t w m node =
    ap (λ k. put k (m.pending k ++ record { number = m.tail k; seat = t.seat; write = w } ∷ []) m.pending n) node
    ∙ put_same n (m.pending n ++ record { number = m.tail n; seat = t.seat; write = w } ∷ []) m.pending n refl

module _ (n : ℕ) (s : Shape) (pool : List (Option (List ℕ))) (c d : CacheState) (seats after : SeatsState) (b b' : ℕ → BlockState) (p : Plain) (m : Machine) (t : TxnId) where
  -- the numbers of each seat's records
  begun_deeds : t.seat < length seats.seats → after.seats ≡ slice_set seats.seats t.seat (Some (record { begin = c.log.tail; last = c.log.tail; left = 0 })) → is_busy seats t.seat ≡ false → m.tail n ≡ c.log.tail → AreTold after c.log.start (p.live n ++ Begin ∷ []) → ShowsUp s pool n c seats b p m
      → (seat : ℕ) → seat < 8 → map (λ (e : Deed). e.number) (deeds_in seat (m.pending n ++ record { number = m.tail n; seat = t.seat; write = None } ∷ [])) ≡ numbers_of (6 * c.log.start) (p.live n ++ Begin ∷ []) (txn_in after seat)
  begun_deeds within new idle tail told was seat low = elim (cases_eq t.seat seat) [
    | inl here ↦
        let mine : txn_in after t.seat ≡ Some (record { begin = c.log.tail; last = c.log.tail; left = 0 }) = ap (λ os. slice_index_or os t.seat None) new ∙ get_or-set_same seats.seats t.seat _ None within in
        subst (λ k. map (λ (e : Deed). e.number) (deeds_in k (m.pending n ++ record { number = m.tail n; seat = t.seat; write = None } ∷ [])) ≡ numbers_of (6 * c.log.start) (p.live n ++ Begin ∷ []) (txn_in after k)) here
        (ap (map (λ (e : Deed). e.number)) (deeds-push t.seat (m.pending n) (record { number = m.tail n; seat = t.seat; write = None }) refl)
        ∙ map-append (λ (e : Deed). e.number) (deeds_in t.seat (m.pending n)) (record { number = m.tail n; seat = t.seat; write = None } ∷ [])
        ∙ ap (λ ns. ns ++ m.tail n ∷ []) (was.deeds t.seat (omega (arith, low, here)) ∙ ap (numbers_of (6 * c.log.start) (p.live n)) (idle_seat (txn_in seats t.seat) idle))
        ∙ ap (λ n. n ∷ []) tail
        ∙ ap (λ us. c.log.tail ∷ reverse us) (sym (nothing_left _ (all_open t.seat within mine)))
        ∙ ap (numbers_of (6 * c.log.start) (p.live n ++ Begin ∷ [])) (sym mine))
    | inr other ↦
        let same : txn_in after seat ≡ txn_in seats seat = ap (λ os. slice_index_or os seat None) new ∙ get_or-set_other seats.seats t.seat seat _ None (λ e. other (sym e)) in
        ap (map (λ (e : Deed). e.number)) (deeds-other seat (m.pending n) (record { number = m.tail n; seat = t.seat; write = None }) other)
        ∙ was.deeds seat low
        ∙ sym (numbers-other (6 * c.log.start) (p.live n) Begin (txn_in seats seat) (none_of (txn_in seats seat)))
        ∙ ap (numbers_of (6 * c.log.start) (p.live n ++ Begin ∷ [])) (sym same)
  ]
    where
      idle_seat : (o : Option OpenTxn) → is_some o ≡ false → o ≡ None
      idle_seat None free = refl
      idle_seat (Some u) free = cc

      none_of : (o : Option OpenTxn) → IfSome o (λ u. (is_update_of u.begin Begin ≡ false) × (next_after u.begin Begin ≡ None))
      none_of None = tt
      none_of (Some u) = (refl, refl)

      nothing_left : (us : List ℕ) → length us ≡ 0 → us ≡ []
      nothing_left [] none = refl
      nothing_left (u ∷ us) none = cc

      all_open : (k : ℕ) → k < length seats.seats → txn_in after k ≡ Some (record { begin = c.log.tail; last = c.log.tail; left = 0 }) → length (uncompensated c.log.tail (6 * c.log.start) (p.live n ++ Begin ∷ [])) ≡ 0
      all_open k low mine =
          let long : length after.seats ≡ length seats.seats = ap length new ∙ length-set seats.seats t.seat _ in
          let is : IsOpenIn (6 * c.log.start) (p.live n ++ Begin ∷ []) (record { begin = c.log.tail; last = c.log.tail; left = 0 }) = subst (λ o. IfSome o (IsOpenIn (6 * c.log.start) (p.live n ++ Begin ∷ []))) mine (told.each k None (omega (arith, low, long))) in
          is.count

  pub up_begun : length seats.seats ≡ 8 → t.node.0 ≡ n → t.seat ≤ 7 → is_busy seats t.seat ≡ false → AreLogs p m → d.pages ≡ c.pages → SameLog c.log d.log
      → after.seats ≡ slice_set seats.seats t.seat (Some (record { begin = c.log.tail; last = c.log.tail; left = 0 })) → HasRecords d.log b' (p.live n ++ Begin ∷ []) → AreTold after c.log.start (p.live n ++ Begin ∷ []) → ShowsUp s pool n c seats b p m → ShowsUp s pool n d after b' (logged n Begin p) (one (Began t) m)
  up_begun count node seat idle logs pages same new records told was =
      let tail = tail_shown n s pool c seats b p m logs was in
      let deeds = deeds_done n t None m node in
      up_logged n s pool c d seats after b b' p m (one (Began t) m) Begin pages same refl records told
      (λ k low. ap (λ ds. map (λ (e : Deed). e.number) (deeds_in k ds)) deeds ∙ begun_deeds (omega (arith, seat, count)) new idle tail told was k low)
      (subst (All (λ (e : Deed). e.seat < 8)) (sym deeds) (All-push (λ (e : Deed). e.seat < 8) (m.pending n) _ was.within (omega (arith, seat)))) was
