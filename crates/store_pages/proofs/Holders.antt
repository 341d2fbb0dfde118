-- Which pages of a transaction's updates nodes have that are down: a walk over the updates, the newest first.
use Rattle.std.specs.Prelude.{◌≡◌, ◌⊎◌, ◌*◌, ◌<◌, ◌≤◌, ◌∷◌, [], ℕ, true, false, Bool, List, Option, Some, None, Result, Ok, Err, IfSome, not, refl}
use Rattle.std.specs.Result.{IsErrAnd}
use Rattle.std.proofs.Common.{arith, inl, inr, ap, subst, sym, ◌∙◌}
use Rattle.sd_base.proofs.PlaceLaws.{map_of_data-below}
use Rattle.sd_base.specs.Disk.{BlockState}
use Rattle.sd_base.specs.Places.{map_of_data}
use Rattle.sd_base.specs.Shape.{page_count}
use Rattle.sd_base.specs.declared.device.NodeId.{NodeId}
use Rattle.sd_base.specs.declared.names.PageNo.{PageNo}
use Rattle.sd_base.specs.declared.page_op.PageOp.{PageOp}
use Rattle.log_record.specs.declared.record.LogRecord.{LogRecord}
use Rattle.log_record.specs.Record.{page_op_of}
use Rattle.compensation.specs.Left.{uncompensated}
use Rattle.page_owner.specs.declared.owners.Own.{Own}
use Rattle.page_owner.specs.declared.owners.Own.TheVariants.{Nobody, Out, Parked}
use Rattle.page_owner.specs.Owners.{owner_of}
use Rattle.private_log.specs.Content.{Region}
use Rattle.script_text.specs.declared.reply.Reply.{Reply}
use Rattle.script_text.specs.declared.reply.Reply.TheVariants as says
use Rattle.node_cache.specs.Cache.{CacheState}
use Rattle.txn_core.specs.Seats.{OpenTxn, SeatsState, txn_in}
use Rattle.txn_core.specs.Told.{AreTold, HasRecords}
use Rattle.txn_core.proofs.UndoLaws.{page_of_update}
use Rattle.record_machine.specs.Commands.{first_of, where_so}
use Rattle.store_nodes.specs.declared.node.Node.{Node}
use Rattle.store_nodes.specs.declared.node.Node.TheVariants.{Idle, Up, Down}
use Rattle.store_nodes.specs.declared.store.Store.{Store}
use Rattle.store_nodes.specs.Known.{checked, held_by, held_in}
use Rattle.store_nodes.specs.Nodes.{IsHeldBy, OnUp, is_up, node_at}
use Rattle.store_nodes.specs.Ports.{IsStopReply, UnlessStop, says_stop}
use Rattle.store_pages.specs.Holders.{IsHolderReply, ReadsNot, held_among, held_at, held_both, held_left, held_op}
use Rattle.store_pages.specs.Updates.{IsLeftAfter, IsNextAfter}
use Rattle.store_pages.proofs.Walks.{Found, one_further}

-- the node that is found has the page
pub has_page : (h k : NodeId) (found own : Own) → found ≡ own → h ≡ k → (found ≡ Parked k) ⊎ (found ≡ Out k) → IsHeldBy h own
has_page h k found own is same (inl parked) = inl (sym is ∙ parked ∙ ap Parked (sym same))
has_page h k found own is same (inr out) = inr (sym is ∙ out ∙ ap Out (sym same))

-- ---- the walk

-- what was looked at is had by no node that is down, and these are left to be looked at
abbrev pub Passed : Store → CacheState → SeatsState → (ℕ → BlockState) → ℕ → Option ℕ → Type 0
Passed me c seats b seat after = (recs : List LogRecord) (u : OpenTxn) → txn_in seats seat ≡ Some u → HasRecords c.log b recs → AreTold seats c.log.start recs
    → (before : List ℕ) × IsLeftAfter u.begin (6 * c.log.start) recs after before × (held_left me u.begin (6 * c.log.start) recs ≡ held_among me (6 * c.log.start) recs before)

pub none_passed : (me : Store) (node : Node) (b : ℕ → BlockState) (seat : ℕ) → OnUp node (λ c seats. Passed me c seats b seat None)
none_passed me Idle b seat = tt
none_passed me (Up c seats) b seat = λ recs u txn has tells. (uncompensated u.begin (6 * c.log.start) recs, refl, refl)
none_passed me Down b seat = tt

-- the page of the update that is found
found_at : (me : Store) (t first : ℕ) (recs : List LogRecord) (before : List ℕ) (v : ℕ × PageNo) → IsNextAfter t first recs before (Some v) → held_at me first recs v.0 ≡ held_both me v.1
found_at me t first recs before v found = rw found.2 (by (page_op_of found.1) refl found.4)
  where
    by : (o : Option (PageNo × ℕ × PageOp)) → page_op_of found.1 ≡ o → IfSome o (λ q. q.0 ≡ v.1) → held_op me o ≡ held_both me v.1
    by None op page = absurd (page_of_update t found.1 found.3 op)
    by (Some q) op page = ap (held_both me) page

passed_free : (o : Option Reply) → checked o ≡ Ok tt → (p : Option Reply) → first_of (o ∷ p ∷ []) ≡ p
passed_free None free None = refl
passed_free None free (Some why) = refl
passed_free (Some other) free p = cc

failed_first : (o : Option Reply) (why : Reply) → checked o ≡ Err why → (p : Option Reply) → first_of (o ∷ p ∷ []) ≡ Some why
failed_first None why fails p = cc
failed_first (Some other) why fails p = let same : other ≡ why = cc in ap Some same

module _ (me : Store) (a b : ℕ → BlockState) (seat : ℕ) (after : Option ℕ) (same : b ≡ a) where
  -- what is tested next
  next_tested : (c : CacheState) (seats : SeatsState) (v : ℕ × PageNo) → Passed me c seats a seat after → Found c seats b seat after (Some v)
      → (recs : List LogRecord) (u : OpenTxn) → txn_in seats seat ≡ Some u → HasRecords c.log a recs → AreTold seats c.log.start recs
      → (rest : List ℕ) × IsLeftAfter u.begin (6 * c.log.start) recs (Some v.0) rest × (held_left me u.begin (6 * c.log.start) recs ≡ first_of (held_both me v.1 ∷ held_among me (6 * c.log.start) recs rest ∷ []))
  next_tested c seats v passed found recs u txn has tells =
      let was = passed recs u txn has tells in
      let it = found recs u was.0 txn (subst (λ k. HasRecords c.log k recs) (sym same) has) tells was.1 in
      let rest = one_further u.begin (6 * c.log.start) recs after was.0 v was.1 it in
      let here = found_at me u.begin (6 * c.log.start) recs was.0 v it in
      (rest.0, rest.2, was.2 ∙ ap (held_among me (6 * c.log.start) recs) rest.1 ∙ ap (λ o. first_of (o ∷ held_among me (6 * c.log.start) recs rest.0 ∷ [])) here)

  pub passed_on : (node : Node) (v : ℕ × PageNo) → checked (held_both me v.1) ≡ Ok tt → OnUp node (λ c seats. Passed me c seats a seat after) → OnUp node (λ c seats. Found c seats b seat after (Some v)) → OnUp node (λ c seats. Passed me c seats a seat (Some v.0))
  passed_on Idle v free passed found = tt
  passed_on (Up c seats) v free passed found = λ recs u txn has tells.
      let next = next_tested c seats v passed found recs u txn has tells in
      (next.0, next.1, next.2 ∙ passed_free (held_both me v.1) free (held_among me (6 * c.log.start) recs next.0))
  passed_on Down v free passed found = tt

  -- the first that can't be taken
  pub held_first : (node : Node) (v : ℕ × PageNo) (why : Reply) → checked (held_both me v.1) ≡ Err why → OnUp node (λ c seats. Passed me c seats a seat after) → OnUp node (λ c seats. Found c seats b seat after (Some v))
      → OnUp node (λ c seats. (recs : List LogRecord) (u : OpenTxn) → txn_in seats seat ≡ Some u → HasRecords c.log a recs → AreTold seats c.log.start recs → held_left me u.begin (6 * c.log.start) recs ≡ Some why)
  held_first Idle v why fails passed found = tt
  held_first (Up c seats) v why fails passed found = λ recs u txn has tells.
      let next = next_tested c seats v passed found recs u txn has tells in
      next.2 ∙ failed_first (held_both me v.1) why fails (held_among me (6 * c.log.start) recs next.0)
  held_first Down v why fails passed found = tt

  -- where nothing is found any more, none is held
  pub all_passed : (node : Node) → OnUp node (λ c seats. Passed me c seats a seat after) → OnUp node (λ c seats. Found c seats b seat after None)
      → OnUp node (λ c seats. (recs : List LogRecord) (u : OpenTxn) → txn_in seats seat ≡ Some u → HasRecords c.log a recs → AreTold seats c.log.start recs → held_left me u.begin (6 * c.log.start) recs ≡ None)
  all_passed Idle passed found = tt
  all_passed (Up c seats) passed found = λ recs u txn has tells.
      let was = passed recs u txn has tells in
      let none = found recs u was.0 txn (subst (λ k. HasRecords c.log k recs) (sym same) has) tells was.1 in
      was.2 ∙ ap (held_among me (6 * c.log.start) recs) none
  all_passed Down passed found = tt

-- ---- what is answered

-- a page that is held is one that a node which is down has
page_says : (me : Store) (y : PageNo) (n : ℕ) (why : Reply) → y.0 < page_count me.shape → held_in me y ≡ Some why → IsHolderReply me n why
page_says me y n why low held = by (owner_of me.shared.owners y.0) held
  where
    test : (h : NodeId) (b : Bool) → where_so b (says.Held y h) ≡ Some why → IsHolderReply me n why
    test h true is = let same : says.Held y h ≡ why = cc in subst (λ k. held_in me y ≡ Some k → IsHolderReply me n k) same (λ is_held. (low, is_held)) held
    test h false is = cc

    by : (own : Own) → held_by me y own ≡ Some why → IsHolderReply me n why
    by Nobody is = cc
    by (Parked h) is = test h (not (is_up (node_at me.nodes h.0))) is
    by (Out h) is = test h (not (is_up (node_at me.nodes h.0))) is

pub both_say : (me : Store) (x : PageNo) (n : ℕ) (why : Reply) → me.shape.maps ≤ x.0 → x.0 < page_count me.shape → checked (held_both me x) ≡ Err why → IsHolderReply me n why
both_say me x n why far low fails = by (held_in me (map_of_data me.shape x)) (held_in me x) refl refl fails
  where
    map_low : (map_of_data me.shape x).0 < page_count me.shape
    map_low = let map = map_of_data-below me.shape x far low in omega (arith, map, far, low)

    by : (o p : Option Reply) → held_in me (map_of_data me.shape x) ≡ o → held_in me x ≡ p → checked (first_of (o ∷ p ∷ [])) ≡ Err why → IsHolderReply me n why
    by (Some other) p map page fails = let same : other ≡ why = cc in page_says me (map_of_data me.shape x) n why map_low (map ∙ ap Some same)
    by None (Some other) map page fails = let same : other ≡ why = cc in page_says me x n why low (page ∙ ap Some same)
    by None None map page fails = cc

-- the log wasn't read since the node stopped
pub stopped_first : (n : ℕ) (r : Result (Unit {0}) Reply) (why : Reply) (P : Type 0) → IsErrAnd r (λ k. k ≡ why) → IsStopReply n why → UnlessStop r P
stopped_first n (Ok x) why P is stop = absurd is
stopped_first n (Err other) why P is stop = λ runs. let never : true ≡ false = sym (stops why stop) ∙ sym (ap says_stop is) ∙ runs in cc
  where
    stops : (k : Reply) → IsStopReply n k → says_stop k ≡ true
    stops (says.Stopped m) stop = refl
    stops (says.Fault m) stop = refl
    stops k stop = absurd stop

-- the test's answer
pub error_is : (r : Result (Unit {0}) Reply) (why : Reply) → IsErrAnd r (λ k. k ≡ why) → r ≡ Err why
error_is (Ok x) why is = absurd is
error_is (Err other) why is = ap Err is

pub holds_always : {P : Type 0} (r : Result (Unit {0}) Reply) → P → UnlessStop r P
holds_always (Ok x) p = p
holds_always (Err why) p = λ runs. p

pub tested_always : (node : Node) (b : ℕ → BlockState) (seat : ℕ) (me : Store) (n : ℕ) (g : Region) (r : Result (Unit {0}) Reply) (o : Option Reply) → r ≡ checked o
    → OnUp node (λ c seats. (recs : List LogRecord) (u : OpenTxn) → txn_in seats seat ≡ Some u → HasRecords c.log b recs → AreTold seats c.log.start recs → held_left me u.begin (6 * c.log.start) recs ≡ o)
    → OnUp node (λ c seats. (recs : List LogRecord) (u : OpenTxn) → txn_in seats seat ≡ Some u → HasRecords c.log b recs → AreTold seats c.log.start recs → (r ≡ checked (held_left me u.begin (6 * c.log.start) recs)) ⊎ ReadsNot n g r)
tested_always Idle b seat me n g r o is left = tt
tested_always (Up c seats) b seat me n g r o is left = λ recs u txn has tells. inl (is ∙ ap checked (sym (left recs u txn has tells)))
tested_always Down b seat me n g r o is left = tt
