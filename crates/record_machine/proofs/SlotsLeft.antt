-- The writes that the machine has of a slot are the updates of it that are left in the log.
use Rattle.std.specs.Prelude.{◌≡◌, ◌≢◌, ◌==◌, ◌||◌, ◌&&◌, ◌∷◌, [], ⊤, ℕ, suc, Bool, true, false, cond, List, Option, Some, None, All, IfSome, eqb, filter, is_some, map, reverse, refl}
use Rattle.std.specs.List.{list_any}
use Rattle.std.proofs.Common.{arith, ap, subst, sym, ◌∙◌, eq-eqb, eqb-true}
use Rattle.std.proofs.lemmas.List.{reverse-append}
use Rattle.std.proofs.lemmas.List.Folds.{list_any-append}
use Rattle.sd_base.specs.Places.{group_of, slot_of_key}
use Rattle.sd_base.specs.declared.page_op.PageOp.{PageOp}
use Rattle.sd_base.specs.declared.page_op.PageOp.TheVariants as ops
use Rattle.log_record.specs.declared.record.LogRecord.{LogRecord}
use Rattle.log_record.specs.declared.record.LogRecord.TheVariants.{Begin, Set, Append, Commit, Abort, Restore, Cut, MapUse, MapFree}
use Rattle.compensation.specs.Finding.{record_at}
use Rattle.recovery_theory.specs.Effect.{OpenUpdate, effect_of, left_of, of_slot}
use Rattle.recovery_theory.specs.Effect.Effect.{Updated}
use Rattle.recovery_theory.specs.Pages.{place_of}
use Rattle.recovery_theory.specs.Rules as rules
use Rattle.recovery_theory.specs.Rules.{numbers}
use Rattle.recovery_theory.proofs.OwedRecords.{left_is_logged}
use Rattle.record_machine.specs.Cuts.{TellsLog}
use Rattle.record_machine.specs.Machine.{Deed, Machine, Write, home, is_begin_in}
use Rattle.record_machine.specs.Meaning.{ArePages, AreLogged, Plain, Tells, after, writes_key}
use Rattle.record_machine.proofs.Homes.{one_group}

-- ---- the record of a write

record UpdateOf (rec : LogRecord) (w : Write) : Type 0 where
  txn : ℕ
  bsi : ℕ
  op : PageOp
  back : PageOp
  effect : effect_of rec ≡ Updated txn w.page bsi op back
  place : place_of back ≡ slot_of_key w.key

update_told : (rec : LogRecord) (w : Write) (v : Option (List ℕ)) → Tells rec w v → UpdateOf rec w
update_told Begin w v t = absurd t
update_told (Set txn prev page bsi slot before value) w v t = record { txn = txn; bsi = bsi; op = ops.Put slot value; back = ops.Put slot before; effect = ap (λ x. Updated txn x bsi (ops.Put slot value) (ops.Put slot before)) t.0; place = t.1 }
update_told (Append txn prev page bsi slot present len bytes) w v t = record { txn = txn; bsi = bsi; op = ops.Append slot bytes; back = ops.Cut slot present len; effect = ap (λ x. Updated txn x bsi (ops.Append slot bytes) (ops.Cut slot present len)) t.0; place = t.1 }
update_told (Commit txn prev) w v t = absurd t
update_told (Abort txn prev) w v t = absurd t
update_told (Restore txn prev next page bsi slot value) w v t = absurd t
update_told (Cut txn prev next page bsi slot present len) w v t = absurd t
update_told (MapUse page bsi place group) w v t = absurd t
update_told (MapFree page bsi place group ident) w v t = absurd t

-- a record that stands in the log, and what it does
record StandsAs (first : ℕ) (recs : List LogRecord) (number : ℕ) (w : Write) : Type 0 where
  rec : LogRecord
  there : record_at first recs number ≡ Some rec
  update : UpdateOf rec w

-- each write has its record, and stands in the page of its group
abbrev IsSeen : Machine → ℕ → List LogRecord → Deed → Type 0
IsSeen m first recs d = IfSome d.write (λ w. (home m w.key ≡ Some w.page) × StandsAs first recs d.number w)

abbrev AreSeen : Machine → ℕ → List LogRecord → List Deed → Type 0
AreSeen m first recs [] = ⊤
AreSeen m first recs (d ∷ ds) = IsSeen m first recs d × AreSeen m first recs ds

all_seen : (m : Machine) (first : ℕ) (recs : List LogRecord) (value : ℕ → ℕ → Option (List ℕ)) (ds : List Deed) → AreLogged first recs value ds → All (λ d. IfSome d.write (λ w. home m w.key ≡ Some w.page)) ds → AreSeen m first recs ds
all_seen m first recs value [] logged homes = tt
all_seen m first recs value (d ∷ ds) logged homes = (one d.write (homes 0 d (omega arith)) logged.0.wrote, all_seen m first recs (after d value) ds logged.1 (λ i e low. homes (suc i) e (omega (arith, low))))
  where
    one : (o : Option Write) → IfSome o (λ w. home m w.key ≡ Some w.page) → IfSome o (λ w. Tells logged.0.rec w (value d.seat w.key)) → IfSome o (λ w. (home m w.key ≡ Some w.page) × StandsAs first recs d.number w)
    one None a b = tt
    one (Some w) a b = (a, record { rec = logged.0.rec; there = logged.0.there; update = update_told logged.0.rec w (value d.seat w.key) b })

-- ---- numbers

abbrev has : ℕ → List ℕ → Bool
has k l = list_any (λ j. j == k) l

either_way : (a b : Bool) → (a || (b || false)) ≡ (b || a)
either_way true true = refl
either_way true false = refl
either_way false true = refl
either_way false false = refl

has_turned : (k : ℕ) (l : List ℕ) → has k (reverse l) ≡ has k l
has_turned k [] = refl
has_turned k (j ∷ l) = ap (has k) (reverse-append (j ∷ []) l) ∙ (list_any-append (λ i. i == k) (reverse l) (j ∷ []) ∙ (ap (λ b. b || ((j == k) || false)) (has_turned k l) ∙ either_way (has k l) (j == k)))

-- the numbers of a seat's writes
abbrev names : ℕ → List Deed → List ℕ
names seat ds = map (λ (d : Deed). d.number) (filter (λ (d : Deed). is_some d.write) (filter (λ (d : Deed). d.seat == seat) ds))

more_names : (k seat : ℕ) (d : Deed) (ds : List Deed) → has k (names seat ds) ≡ true → has k (names seat (d ∷ ds)) ≡ true
more_names k seat d ds is = go (d.seat == seat) refl (is_some d.write) refl
  where
    or_true : (b : Bool) → (b || has k (names seat ds)) ≡ true
    or_true true = refl
    or_true false = is

    go : (a : Bool) → (d.seat == seat) ≡ a → (b : Bool) → is_some d.write ≡ b → has k (names seat (d ∷ ds)) ≡ true
    go false x b y = rw x is
    go true x true y = rw (x, y) (or_true (d.number == k))
    go true x false y = rw (x, y) is

record FoundDeed (m : Machine) (first : ℕ) (recs : List LogRecord) (seat key : ℕ) (ds : List Deed) : Type 0 where
  number : ℕ
  write : Write
  key_is : write.key ≡ key
  named : has number (names seat ds) ≡ true
  at_home : home m write.key ≡ Some write.page
  stands : StandsAs first recs number write

-- what is written is named
found_deed : (m : Machine) (first : ℕ) (recs : List LogRecord) (seat key : ℕ) (ds : List Deed) → AreSeen m first recs ds → list_any (writes_key seat key) ds ≡ true → FoundDeed m first recs seat key ds
found_deed m first recs seat key [] seen any = absurd cc
found_deed m first recs seat key (d ∷ ds) seen any = go (writes_key seat key d) refl any (found_deed m first recs seat key ds seen.1)
  where
    later : FoundDeed m first recs seat key ds → FoundDeed m first recs seat key (d ∷ ds)
    later f = record { number = f.number; write = f.write; key_is = f.key_is; named = more_names f.number seat d ds f.named; at_home = f.at_home; stands = f.stands }

    here : (a : Bool) → (d.seat == seat) ≡ a → (o : Option Write) → d.write ≡ o → IfSome o (λ w. (home m w.key ≡ Some w.page) × StandsAs first recs d.number w) → writes_key seat key d ≡ true → FoundDeed m first recs seat key (d ∷ ds)
    here false x o y s is = let never : false ≡ true = rw x at is in absurd cc
    here true x None y s is = let never : false ≡ true = rw (x, y) at is in absurd cc
    here true x (Some w) y s is =
        let of : (w.key == key) ≡ true = rw (x, y) at is in
        record { number = d.number; write = w; key_is = eqb-true w.key key of; named = rw (x, y) (rw (eq-eqb d.number d.number refl) refl); at_home = s.0; stands = s.1 }

    go : (b : Bool) → writes_key seat key d ≡ b → (b || list_any (writes_key seat key) ds) ≡ true → (list_any (writes_key seat key) ds ≡ true → FoundDeed m first recs seat key ds) → FoundDeed m first recs seat key (d ∷ ds)
    go true is h ih = here (d.seat == seat) refl d.write refl seen.0 is
    go false is h ih = later (ih h)

record NamedDeed (m : Machine) (first : ℕ) (recs : List LogRecord) (seat number : ℕ) (ds : List Deed) : Type 0 where
  write : Write
  written : list_any (writes_key seat write.key) ds ≡ true
  at_home : home m write.key ≡ Some write.page
  stands : StandsAs first recs number write

-- and what is named is written
named_deed : (m : Machine) (first : ℕ) (recs : List LogRecord) (seat k : ℕ) (ds : List Deed) → AreSeen m first recs ds → has k (names seat ds) ≡ true → NamedDeed m first recs seat k ds
named_deed m first recs seat k [] seen is = absurd cc
named_deed m first recs seat k (d ∷ ds) seen is = go (named_deed m first recs seat k ds seen.1) (d.seat == seat) refl d.write refl seen.0
  where
    later : NamedDeed m first recs seat k ds → NamedDeed m first recs seat k (d ∷ ds)
    later f =
        record { write = f.write; written = or_true (writes_key seat f.write.key d) f.written; at_home = f.at_home; stands = f.stands }
      where
        or_true : (b : Bool) {c : Bool} → c ≡ true → (b || c) ≡ true
        or_true true e = refl
        or_true false e = e

    go : (has k (names seat ds) ≡ true → NamedDeed m first recs seat k ds) → (a : Bool) → (d.seat == seat) ≡ a → (o : Option Write) → d.write ≡ o → IfSome o (λ w. (home m w.key ≡ Some w.page) × StandsAs first recs d.number w) → NamedDeed m first recs seat k (d ∷ ds)
    go ih false x o y s = later (ih (rw x at is))
    go ih true x None y s = later (ih (rw (x, y) at is))
    go ih true x (Some w) y s = split (d.number == k) refl (rw (x, y) at is)
      where
        own : writes_key seat w.key d ≡ true
        own = rw (x, y) (eq-eqb w.key w.key refl)

        split : (b : Bool) → (d.number == k) ≡ b → (b || has k (names seat ds)) ≡ true → NamedDeed m first recs seat k (d ∷ ds)
        split false e h = later (ih h)
        split true e h = record { write = w; written = rw own refl; at_home = s.0; stands = subst (λ i. StandsAs first recs i w) (eqb-true d.number k e) s.1 }

-- ---- updates that are left

-- the update with this number is one of the slot
slot_found : (first : ℕ) (recs : List LogRecord) (t k : ℕ) (w : Write) (us : List OpenUpdate) → rules.AreLogged first recs t us → has k (numbers us) ≡ true → StandsAs first recs k w → of_slot w.page (slot_of_key w.key) us ≢ []
slot_found first recs t k w [] logged is s e = absurd cc
slot_found first recs t k w (u ∷ us) logged is s e = go (u.number == k) refl is e (λ h. slot_found first recs t k w us logged.1 h s)
  where
    same : (b : Bool) → cond b (u ∷ of_slot w.page (slot_of_key w.key) us) (of_slot w.page (slot_of_key w.key) us) ≡ [] → of_slot w.page (slot_of_key w.key) us ≡ []
    same true z = absurd cc
    same false z = z

    own : u.number ≡ k → of_slot w.page (slot_of_key w.key) (u ∷ us) ≡ [] → ⊥
    own q z =
        let one : Some logged.0.0 ≡ Some s.rec = sym logged.0.2 ∙ (ap (record_at first recs) q ∙ s.there) in
        let rec_is : logged.0.0 ≡ s.rec = cc in
        let effects : Updated t u.page logged.0.1 u.update u.back ≡ Updated s.update.txn w.page s.update.bsi s.update.op s.update.back = sym logged.0.3 ∙ (ap effect_of rec_is ∙ s.update.effect) in
        let page_is : u.page ≡ w.page = cc in
        let back_is : u.back ≡ s.update.back = cc in
        let z' : cond (eqb u.page w.page && eqb (place_of u.back) (slot_of_key w.key)) (u ∷ of_slot w.page (slot_of_key w.key) us) (of_slot w.page (slot_of_key w.key) us) ≡ [] = z in
        let never : u ∷ of_slot w.page (slot_of_key w.key) us ≡ [] = rw (eq-eqb u.page w.page page_is, eq-eqb (place_of u.back) (slot_of_key w.key) (ap place_of back_is ∙ s.update.place)) at z' in
        absurd cc

    go : (b : Bool) → (u.number == k) ≡ b → (b || has k (numbers us)) ≡ true → of_slot w.page (slot_of_key w.key) (u ∷ us) ≡ [] → (has k (numbers us) ≡ true → of_slot w.page (slot_of_key w.key) us ≢ []) → ⊥
    go true q h z ih = own (eqb-true u.number k q) z
    go false q h z ih = ih h (same (eqb u.page w.page && eqb (place_of u.back) (slot_of_key w.key)) z)

record NamedUpdate (first : ℕ) (recs : List LogRecord) (x s : ℕ) (us : List OpenUpdate) : Type 0 where
  number : ℕ
  named : has number (numbers us) ≡ true
  rec : LogRecord
  there : record_at first recs number ≡ Some rec
  txn : ℕ
  bsi : ℕ
  op : PageOp
  back : PageOp
  effect : effect_of rec ≡ Updated txn x bsi op back
  place : place_of back ≡ s

slot_named : (first : ℕ) (recs : List LogRecord) (t x s : ℕ) (us : List OpenUpdate) → rules.AreLogged first recs t us → of_slot x s us ≢ [] → NamedUpdate first recs x s us
slot_named first recs t x s [] logged some = absurd (some refl)
slot_named first recs t x s (u ∷ us) logged some = go (slot_named first recs t x s us logged.1) (eqb u.page x) refl (eqb (place_of u.back) s) refl
  where
    later : NamedUpdate first recs x s us → NamedUpdate first recs x s (u ∷ us)
    later f =
        record { number = f.number; named = or_true (u.number == f.number) f.named; rec = f.rec; there = f.there; txn = f.txn; bsi = f.bsi; op = f.op; back = f.back; effect = f.effect; place = f.place }
      where
        or_true : (b : Bool) {c : Bool} → c ≡ true → (b || c) ≡ true
        or_true true e = refl
        or_true false e = e

    go : (of_slot x s us ≢ [] → NamedUpdate first recs x s us) → (a : Bool) → eqb u.page x ≡ a → (b : Bool) → eqb (place_of u.back) s ≡ b → NamedUpdate first recs x s (u ∷ us)
    go ih true p true q = record {
      number = u.number;
      named = rw (eq-eqb u.number u.number refl) refl;
      rec = logged.0.0;
      there = logged.0.2;
      txn = t;
      bsi = logged.0.1;
      op = u.update;
      back = u.back;
      effect = logged.0.3 ∙ ap (λ y. Updated t y logged.0.1 u.update u.back) (eqb-true u.page x p);
      place = eqb-true (place_of u.back) s q;
    }
    go ih true p false q = later (ih (λ e. some (rw (p, q) e)))
    go ih false p b q = later (ih (λ e. some (rw p e)))

-- ---- both together

same_left : (first : ℕ) (recs : List LogRecord) (t : ℕ) (a b : List OpenUpdate) → left_of t first recs None ≡ Some a → left_of t first recs None ≡ Some b → a ≡ b
same_left first recs t a b x y = let q : Some a ≡ Some b = sym x ∙ y in cc

-- one record is one update
same_update : (rec rec' : LogRecord) (t x b t' x' b' : ℕ) (op back op' back' : PageOp) → rec ≡ rec' → effect_of rec ≡ Updated t x b op back → effect_of rec' ≡ Updated t' x' b' op' back' → (x ≡ x') × (back ≡ back')
same_update rec rec' t x b t' x' b' op back op' back' same a a' =
    let whole : Updated t x b op back ≡ Updated t' x' b' op' back' = sym a ∙ (ap effect_of same ∙ a') in
    (cc, cc)

-- what is written of a record is left in the log
pub written_left : (m : Machine) (begun : ℕ → ℕ → ℕ) (n first : ℕ) (recs : List LogRecord) (ds : List Deed) (seat key x : ℕ) (left : List OpenUpdate) → TellsLog m begun n first recs ds
    → list_any (writes_key seat key) ds ≡ true → home m key ≡ Some x → left_of (begun n seat) first recs None ≡ Some left → of_slot x (slot_of_key key) left ≢ []
written_left m begun n first recs ds seat key x left told any is going none =
    let f = found_deed m first recs seat key ds (all_seen m first recs (λ seat. m.records) ds told.deeds told.homes) any in
    let z = told.seats seat (told.opened seat key any) in
    let left_is : z.left ≡ left = same_left first recs (begun n seat) z.left left z.going going in
    let named : has f.number (numbers left) ≡ true = ap (λ l. has f.number (numbers l)) (sym left_is) ∙ (sym (has_turned f.number (numbers z.left)) ∙ (ap (has f.number) (sym z.writes) ∙ f.named)) in
    let page : Some f.write.page ≡ Some x = sym f.at_home ∙ (ap (home m) f.key_is ∙ is) in
    let page_is : f.write.page ≡ x = cc in
    slot_found first recs (begun n seat) f.number f.write left (left_is_logged first recs (begun n seat) left going) named f.stands
    (ap (λ y. of_slot y (slot_of_key f.write.key) left) page_is ∙ (ap (λ k. of_slot x (slot_of_key k) left) f.key_is ∙ none))

-- and what is left of a record is written
pub left_written : (p : Plain) (m : Machine) (begun : ℕ → ℕ → ℕ) (n first : ℕ) (recs : List LogRecord) (ds : List Deed) (seat key x : ℕ) (left : List OpenUpdate) → ArePages p m → TellsLog m begun n first recs ds
    → list_any (is_begin_in seat) ds ≡ true → home m key ≡ Some x → left_of (begun n seat) first recs None ≡ Some left → of_slot x (slot_of_key key) left ≢ [] → list_any (writes_key seat key) ds ≡ true
left_written p m begun n first recs ds seat key x left pages told busy is going some =
    let u = slot_named first recs (begun n seat) x (slot_of_key key) left (left_is_logged first recs (begun n seat) left going) some in
    let z = told.seats seat busy in
    let left_is : z.left ≡ left = same_left first recs (begun n seat) z.left left z.going going in
    let named : has u.number (names seat ds) ≡ true = ap (has u.number) z.writes ∙ (has_turned u.number (numbers z.left) ∙ (ap (λ l. has u.number (numbers l)) left_is ∙ u.named)) in
    let d = named_deed m first recs seat u.number ds (all_seen m first recs (λ seat. m.records) ds told.deeds told.homes) named in
    let one : Some u.rec ≡ Some d.stands.rec = sym u.there ∙ d.stands.there in
    let rec_is : u.rec ≡ d.stands.rec = cc in
    let both = same_update u.rec d.stands.rec u.txn x u.bsi d.stands.update.txn d.write.page d.stands.update.bsi u.op u.back d.stands.update.op d.stands.update.back rec_is u.effect d.stands.update.effect in
    let page_is : x ≡ d.write.page = both.0 in
    let back_is : u.back ≡ d.stands.update.back = both.1 in
    let slot_is : slot_of_key d.write.key ≡ slot_of_key key = sym d.stands.update.place ∙ (ap place_of (sym back_is) ∙ u.place) in
    let group_is : (group_of d.write.key).0 ≡ (group_of key).0 = one_group p m d.write.key key x pages (d.at_home ∙ ap (λ y. Some y) (sym page_is)) is in
    let key_is : d.write.key ≡ key = omega (arith, group_is, slot_is) in
    subst (λ k. list_any (writes_key seat k) ds ≡ true) key_is d.written
