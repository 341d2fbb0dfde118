-- What the transactions of a node owe is what the machine says, and no node owes more than its log may have.
use Rattle.std.specs.Prelude.{◌≡◌, ◌==◌, ◌+◌, ◌*◌, ◌<◌, ◌≤◌, ◌∷◌, [], ℕ, suc, Bool, true, false, List, Option, Some, None, All, IfSome, filter, length, nat_lt, slice_index_or, refl}
use Rattle.std.specs.List.{sum_by}
use Rattle.std.proofs.Common.{arith, ap, subst, sym, ◌∙◌}
use Rattle.std.proofs.lemmas.Bool.Decides.{nat_tests}
use Rattle.std.proofs.lemmas.List.{length-map, length-reverse}
use Rattle.std.proofs.lemmas.List.Elements.{All-head, All-tail}
use Rattle.std.proofs.lemmas.List.Sums.{sum_by-cons}
use Rattle.sd_base.specs.Disk.{BlockState}
use Rattle.sd_base.specs.declared.shape.Shape.{Shape}
use Rattle.page_owner.specs.declared.owners.Own.{Own}
use Rattle.compensation.specs.Left.{uncompensated}
use Rattle.node_cache.specs.Cache.{CacheState}
use Rattle.txn_core.specs.Seats.{OpenTxn, SeatsState, owed, owed_in, txn_in}
use Rattle.txn_core.specs.Told.{IsOpenIn}
use Rattle.record_machine.specs.Machine as machine
use Rattle.record_machine.specs.Machine.{Deed, Machine}
use Rattle.record_machine.specs.Meaning.{Plain}
use Rattle.store_nodes.specs.declared.node.Node.{Node}
use Rattle.store_nodes.specs.declared.node.Node.TheVariants.{Idle, Up, Down}
use Rattle.store_nodes.specs.Nodes.{IsNode, IsPlace, IsStoreOf, node_at}
use Rattle.store_nodes.specs.Shows.{ShowsNode, ShowsNodes, ShowsStoreOf, ShowsUp, deeds_in, numbers_of}

-- ---- the deeds of the seats below one

abbrev below : ℕ → List Deed → ℕ
below n ds = length (filter (λ d. nat_lt d.seat n) ds)

below_none : (ds : List Deed) → below 0 ds ≡ 0
below_none [] = refl
below_none (d ∷ ds) = let not : nat_lt d.seat 0 ≡ false = grind (arith, nat_tests) in rw not (below_none ds)

below_all : (ds : List Deed) → All (λ d. d.seat < 8) ds → below 8 ds ≡ length ds
below_all [] all = refl
below_all (d ∷ ds) all =
    let low = All-head (λ (e : Deed). e.seat < 8) d ds all in
    let is : nat_lt d.seat 8 ≡ true = grind (arith, nat_tests, low) in
    rw is (ap suc (below_all ds (All-tail (λ (e : Deed). e.seat < 8) d ds all)))

-- one seat more
below_next : (n : ℕ) (ds : List Deed) → below (n + 1) ds ≡ below n ds + length (deeds_in n ds)
below_next n [] = refl
below_next n (d ∷ ds) = by (nat_lt d.seat n) (d.seat == n) refl refl (below_next n ds)
  where
    by : (a b : Bool) → nat_lt d.seat n ≡ a → (d.seat == n) ≡ b → below (n + 1) ds ≡ below n ds + length (deeds_in n ds) → below (n + 1) (d ∷ ds) ≡ below n (d ∷ ds) + length (deeds_in n (d ∷ ds))
    by true true low here rest = grind (arith, nat_tests, low, here)
    by true false low here rest = let more : nat_lt d.seat (n + 1) ≡ true = grind (arith, nat_tests, low) in rw more (rw low (rw here (omega (arith, rest))))
    by false true low here rest = let more : nat_lt d.seat (n + 1) ≡ true = grind (arith, nat_tests, here) in rw more (rw low (rw here (omega (arith, rest))))
    by false false low here rest = let more : nat_lt d.seat (n + 1) ≡ false = grind (arith, nat_tests, low, here) in rw more (rw low (rw here rest))

-- what all seats from this one on owe
owed_below : (os : List (Option OpenTxn)) (k : ℕ) (ds : List Deed) → ((i : ℕ) → i < length os → owed_in (slice_index_or os i None) ≡ length (deeds_in (k + i) ds)) → sum_by owed_in os + below k ds ≡ below (k + length os) ds
owed_below [] k ds each = let same = ap (λ n. below n ds) (plus_zero k) in omega (arith, same)
  where
    plus_zero : (k : ℕ) → k + 0 ≡ k
    plus_zero k = omega arith
owed_below (o ∷ os) k ds each =
    let first = each 0 (omega arith) in
    let here : deeds_in (k + 0) ds ≡ deeds_in k ds = ap (λ n. deeds_in n ds) (zeroed k) in
    let long = ap length here in
    let rest = owed_below os (k + 1) ds (λ i low. each (suc i) (omega (arith, low)) ∙ ap (λ n. length (deeds_in n ds)) (moved k i)) in
    let next = below_next k ds in
    let sum = sum_by-cons owed_in o os in
    let whole = ap (λ n. below n ds) (moved k (length os)) in
    omega (arith, first, long, rest, next, sum, whole)
  where
    zeroed : (k : ℕ) → k + 0 ≡ k
    zeroed k = omega arith

    moved : (k i : ℕ) → k + suc i ≡ k + 1 + i
    moved k i = omega arith

module _ (n : ℕ) (s : Shape) (pool : List (Option (List ℕ))) (c : CacheState) (seats : SeatsState) (b : ℕ → BlockState) (p : Plain) (m : Machine) where
  -- what each seat owes, it has done
  seat_owed : length seats.seats ≡ 8 → ShowsUp s pool n c seats b p m → (seat : ℕ) → seat < 8 → owed_in (txn_in seats seat) ≡ length (deeds_in seat (m.pending n))
  seat_owed eight up seat low = by (txn_in seats seat) refl ∙ ap length (sym (up.deeds seat low)) ∙ length-map (deeds_in seat (m.pending n)) (λ (e : Deed). e.number)
    where
      by : (o : Option OpenTxn) → txn_in seats seat ≡ o → owed_in o ≡ length (numbers_of (6 * c.log.start) (p.live n) o)
      by None is = refl
      by (Some txn) is =
          let opened : IsOpenIn (6 * c.log.start) (p.live n) txn = subst (λ o. IfSome o (IsOpenIn (6 * c.log.start) (p.live n))) is (up.told.each seat None (omega (arith, low, eight))) in
          let long = length-reverse (uncompensated txn.begin (6 * c.log.start) (p.live n)) in
          let count = opened.count in
          omega (arith, long, count)

  zero_plus : (k : ℕ) → k ≡ 0 + k
  zero_plus k = omega arith

  pub owed_shown : length seats.seats ≡ 8 → ShowsUp s pool n c seats b p m → owed seats ≡ length (m.pending n)
  owed_shown eight up =
      let sum = owed_below seats.seats 0 (m.pending n) (λ k low. seat_owed eight up k (omega (arith, low, eight)) ∙ ap (λ j. length (deeds_in j (m.pending n))) (zero_plus k)) in
      let none = below_none (m.pending n) in
      let all = below_all (m.pending n) up.within in
      let long = ap (λ j. below j (m.pending n)) (sym (zero_plus (length seats.seats)) ∙ eight) in
      omega (arith, sum, none, all, long)

-- no node owes more records than its log may have
pub nodes_owe_few : (s : Shape) (pool : List (Option (List ℕ))) (owners : List Own) (nodes : List Node) (b : ℕ → BlockState) (p : Plain) (m : Machine) → IsStoreOf s pool owners nodes → ShowsNodes s pool owners nodes b p m → (n : ℕ) → 1 ≤ n → n ≤ m.shape.nodes → machine.owed m n ≤ 6 * m.shape.ring
nodes_owe_few s pool owners nodes b p m is was n first last =
    let many = is.shared.shape.nodes in
    let count : m.shape.nodes ≡ s.nodes = ap (λ t. t.nodes) was.shape in
    let ring : m.shape.ring ≡ s.ring = ap (λ t. t.ring) was.shape in
    let place : IsPlace n = (first, omega (arith, last, count, many)) in
    let few = by (node_at nodes n) (is.is n place) (was.node n place (omega (arith, last, count))) in
    omega (arith, few, ring)
  where
    by : (node : Node) → IsNode s pool owners n node → ShowsNode s pool n node b p m → machine.owed m n ≤ 6 * s.ring
    by Idle rest shown = let none = ap length shown.1.none in omega (arith, none)
    by (Up c seats) work shown =
        let owing = owed_shown n s pool c seats b p m work.eight shown.1 in
        let room = work.tie.room in
        let ring : c.log.shape.ring ≡ s.ring = ap (λ t. t.ring) work.store.shape in
        omega (arith, owing, room, ring)
    by Down stopped shown = shown.1

pub owes_few : (s : Shape) (pool : List (Option (List ℕ))) (owners : List Own) (nodes : List Node) (b : ℕ → BlockState) (p : Plain) (m : Machine) → IsStoreOf s pool owners nodes → ShowsStoreOf s pool owners nodes b p m → (n : ℕ) → 1 ≤ n → n ≤ m.shape.nodes → machine.owed m n ≤ 6 * m.shape.ring
owes_few s pool owners nodes b p m is was = nodes_owe_few s pool owners nodes b p m is (record { means = was.means; shape = was.shape; node = was.node; hold = was.hold })
