-- A walk over the updates that are left of a transaction, the newest first.
use Rattle.std.specs.Prelude.{◌≡◌, ◌==◌, ◌*◌, ◌+◌, ◌^◌, ◌<◌, ◌≤◌, ◌++◌, ◌∷◌, [], ℕ, Bool, true, false, List, Option, Some, None, IfSome, cond, length, refl}
use Rattle.std.specs.List.{count_by}
use Rattle.std.proofs.Common.{arith, ap, subst, sym, ◌∙◌}
use Rattle.std.proofs.lemmas.List.{append_assoc}
use Rattle.std.proofs.lemmas.List.Sums.{sum_by-cons}
use Rattle.sd_base.specs.Disk.{BlockState}
use Rattle.sd_base.specs.declared.names.PageNo.{PageNo}
use Rattle.sd_base.specs.declared.page_op.PageOp.{PageOp}
use Rattle.page_image.specs.declared.page_view.PageView.{PageView}
use Rattle.log_record.specs.declared.record.LogRecord.{LogRecord}
use Rattle.log_record.specs.Record.{page_op_of}
use Rattle.compensation.specs.Left.{uncompensated}
use Rattle.node_cache.specs.Cache.{CacheState}
use Rattle.txn_core.specs.Seats.{OpenTxn, SeatsState, owed, txn_in}
use Rattle.txn_core.specs.Told.{AreTold, HasRecords}
use Rattle.txn_core.proofs.UndoLaws.{page_of_update, seat_told}
use Rattle.txn_core.proofs.SeatLaws.{busy_below, owed_at}
use Rattle.txn_core.specs.Updates.{HasPage}
use Rattle.store_pages.specs.Updates.{IsLeftAfter, IsNextAfter, OnLeft, changes_page, is_op_of, left_on}
use Rattle.store_nodes.specs.declared.node.Node.{Node}
use Rattle.store_nodes.specs.declared.node.Node.TheVariants.{Idle, Up, Down}
use Rattle.store_nodes.specs.declared.store.Store.{Store}
use Rattle.store_nodes.specs.Nodes.{OnUp, node_at}
use Rattle.store_nodes.specs.Pages.{ShowsData}

-- ---- that it ends

-- since the numbers fall
abbrev pub ahead : Option ℕ → ℕ
ahead None = 2 ^ 64
ahead (Some number) = number

-- and how many it counts
pub few_more : (after : Option ℕ) (count number top : ℕ) → (after ≡ None → count ≡ 0) → IfSome after (λ n. count + n ≤ top) → IfSome after (λ n. number < n) → number < top → count + 1 + number ≤ top
few_more None count number top none few behind low = let zero = none refl in omega (arith, zero, low)
few_more (Some n) count number top none few behind low = omega (arith, few, behind)

-- ---- one step of it

-- what is left behind the update that is found
pub one_further : (t first : ℕ) (recs : List LogRecord) (after : Option ℕ) (before : List ℕ) (v : ℕ × PageNo) → IsLeftAfter t first recs after before → IsNextAfter t first recs before (Some v) → (rest : List ℕ) × (before ≡ v.0 ∷ rest) × IsLeftAfter t first recs (Some v.0) rest
one_further t first recs after [] v left found = let never : None ≡ Some v.0 = found.0 in cc
one_further t first recs after (n ∷ rest) v left found =
    let here : n ≡ v.0 = (let same : Some n ≡ Some v.0 = found.0 in cc) in
    (rest, ap (λ k. k ∷ rest) here, by after left here)
  where
    by : (after : Option ℕ) → IsLeftAfter t first recs after (n ∷ rest) → n ≡ v.0 → IsLeftAfter t first recs (Some v.0) rest
    by None left here = ([], left ∙ ap (λ k. k ∷ rest) here)
    by (Some number) left here = (left.0 ++ number ∷ [], left.1 ∙ ap (λ k. left.0 ++ number ∷ k ∷ rest) here ∙ sym (append_assoc left.0 (number ∷ []) (v.0 ∷ rest)))

-- whether it is of the page
pub changes_found : (t first : ℕ) (recs : List LogRecord) (before : List ℕ) (v : ℕ × PageNo) (x : ℕ) → IsNextAfter t first recs before (Some v) → changes_page first recs x v.0 ≡ (v.1.0 == x)
changes_found t first recs before v x found = rw found.2 (by (page_op_of found.1) refl found.4)
  where
    by : (o : Option (PageNo × ℕ × PageOp)) → page_op_of found.1 ≡ o → IfSome o (λ q. q.0 ≡ v.1) → is_op_of x o ≡ (v.1.0 == x)
    by None op page = absurd (page_of_update t found.1 found.3 op)
    by (Some q) op page = ap (λ (y : PageNo). y.0 == x) page

-- ---- the count of the updates of a page

-- so many were counted, and these are left to be looked at
abbrev pub Counted : CacheState → SeatsState → (ℕ → BlockState) → ℕ → ℕ → Option ℕ → ℕ → Type 0
Counted c seats b seat x after count = (recs : List LogRecord) (u : OpenTxn) → txn_in seats seat ≡ Some u → HasRecords c.log b recs → AreTold seats c.log.start recs
    → (before : List ℕ) × IsLeftAfter u.begin (6 * c.log.start) recs after before × (count + count_by (changes_page (6 * c.log.start) recs x) before ≡ left_on u.begin (6 * c.log.start) recs x)

abbrev pub Found : CacheState → SeatsState → (ℕ → BlockState) → ℕ → Option ℕ → Option (ℕ × PageNo) → Type 0
Found c seats b seat after o = (recs : List LogRecord) (u : OpenTxn) (before : List ℕ) → txn_in seats seat ≡ Some u → HasRecords c.log b recs → AreTold seats c.log.start recs
    → IsLeftAfter u.begin (6 * c.log.start) recs after before → IsNextAfter u.begin (6 * c.log.start) recs before o

counted_up : (c : CacheState) (seats : SeatsState) (a b : ℕ → BlockState) (seat x : ℕ) (after : Option ℕ) (v : ℕ × PageNo) (count next : ℕ) → b ≡ a → next ≡ count + cond (v.1.0 == x) 1 0 → Counted c seats a seat x after count → Found c seats b seat after (Some v) → Counted c seats a seat x (Some v.0) next
counted_up c seats a b seat x after v count next same is counted found recs u txn has tells =
    let was = counted recs u txn has tells in
    let it = found recs u was.0 txn (subst (λ k. HasRecords c.log k recs) (sym same) has) tells was.1 in
    let rest = one_further u.begin (6 * c.log.start) recs after was.0 v was.1 it in
    let test = changes_page (6 * c.log.start) recs x in
    let sum = ap (count_by test) rest.1 ∙ sum_by-cons (λ n. cond (test n) 1 0) v.0 rest.0 in
    let one = ap {B = ℕ} (λ t. cond t 1 0) (changes_found u.begin (6 * c.log.start) recs was.0 v x it) in
    let all = was.2 in
    (rest.0, rest.2, omega (arith, sum, one, all, is))

pub counted_on : (node : Node) (a b : ℕ → BlockState) (seat x : ℕ) (after : Option ℕ) (v : ℕ × PageNo) (count next : ℕ) → b ≡ a → next ≡ count + cond (v.1.0 == x) 1 0
    → OnUp node (λ c seats. Counted c seats a seat x after count) → OnUp node (λ c seats. Found c seats b seat after (Some v)) → OnUp node (λ c seats. Counted c seats a seat x (Some v.0) next)
counted_on Idle a b seat x after v count next same is counted found = tt
counted_on (Up c seats) a b seat x after v count next same is counted found = counted_up c seats a b seat x after v count next same is counted found
counted_on Down a b seat x after v count next same is counted found = tt

-- at first none was counted
none_yet : (k : ℕ) → 0 + k ≡ k
none_yet k = omega arith

pub counted_none : (node : Node) (a : ℕ → BlockState) (seat x : ℕ) → OnUp node (λ c seats. Counted c seats a seat x None 0)
counted_none Idle a seat x = tt
counted_none (Up c seats) a seat x = λ recs u txn has tells. (uncompensated u.begin (6 * c.log.start) recs, refl, none_yet (left_on u.begin (6 * c.log.start) recs x))
counted_none Down a seat x = tt

-- where nothing is found any more, all are counted
pub counted_all : (node : Node) (a b : ℕ → BlockState) (seat x : ℕ) (after : Option ℕ) (count : ℕ) → b ≡ a → OnUp node (λ c seats. Counted c seats a seat x after count) → OnUp node (λ c seats. Found c seats b seat after None)
    → OnUp node (λ c seats. (recs : List LogRecord) (u : OpenTxn) → txn_in seats seat ≡ Some u → HasRecords c.log a recs → AreTold seats c.log.start recs → count ≡ left_on u.begin (6 * c.log.start) recs x)
counted_all Idle a b seat x after count same counted found = tt
counted_all (Up c seats) a b seat x after count same counted found = λ recs u txn has tells.
    let was = counted recs u txn has tells in
    let none = found recs u was.0 txn (subst (λ k. HasRecords c.log k recs) (sym same) has) tells was.1 in
    let sum : count_by (changes_page (6 * c.log.start) recs x) was.0 ≡ 0 = ap (count_by (changes_page (6 * c.log.start) recs x)) none in
    let all = was.2 in
    omega (arith, sum, all)
counted_all Down a b seat x after count same counted found = tt

-- ---- the room of a page

count_few : (test : ℕ → Bool) (ns : List ℕ) → count_by test ns ≤ length ns
count_few test [] = omega arith
count_few test (n ∷ ns) =
    let sum = sum_by-cons (λ k. cond (test k) 1 0) n ns in
    let rest = count_few test ns in
    let one = at_most (test n) in
    omega (arith, sum, rest, one)
  where
    at_most : (b : Bool) → cond {A = ℕ} b 1 0 ≤ 1
    at_most true = omega arith
    at_most false = omega arith

-- where so many updates are left, and the identifier is this
pub left_counted : (c : Store) (n : ℕ) (b : ℕ → BlockState) (seat ident count : ℕ) (x : PageNo) (P : ℕ → Type 0) → ((v : PageView) → ShowsData c n x v → ident ≡ v.ident) → P (ident + count)
    → OnUp (node_at c.nodes n) (λ k seats. (recs : List LogRecord) (u : OpenTxn) → txn_in seats seat ≡ Some u → HasRecords k.log b recs → AreTold seats k.log.start recs → count ≡ left_on u.begin (6 * k.log.start) recs x.0)
    → OnLeft c n b seat x (λ v left. P (v.ident + left))
left_counted c n b seat ident count x P is holds counted = by (node_at c.nodes n) is counted
  where
    by : (node : Node) → ((v : PageView) → OnUp node (λ k seats. HasPage c.shared.pool k.pages x v) → ident ≡ v.ident)
        → OnUp node (λ k seats. (recs : List LogRecord) (u : OpenTxn) → txn_in seats seat ≡ Some u → HasRecords k.log b recs → AreTold seats k.log.start recs → count ≡ left_on u.begin (6 * k.log.start) recs x.0)
        → OnUp node (λ k seats. (v : PageView) (recs : List LogRecord) (t : OpenTxn) → HasPage c.shared.pool k.pages x v → txn_in seats seat ≡ Some t → HasRecords k.log b recs → AreTold seats k.log.start recs → P (v.ident + left_on t.begin (6 * k.log.start) recs x.0))
    by Idle is counted = tt
    by (Up k seats) is counted = λ v recs t has txn records tells. subst (λ j. P (j + left_on t.begin (6 * k.log.start) recs x.0)) (is v has) (subst (λ j. P (ident + j)) (counted recs t txn records tells) holds)
    by Down is counted = tt

-- where the page has room for all that the open transactions may need
pub left_owed : (c : Store) (n : ℕ) (b : ℕ → BlockState) (seat ident total top : ℕ) (x : PageNo) → ((v : PageView) → ShowsData c n x v → ident ≡ v.ident) → OnUp (node_at c.nodes n) (λ k seats. total ≡ owed seats) → ident + total ≤ top → OnLeft c n b seat x (λ v left. v.ident + left ≤ top)
left_owed c n b seat ident total top x is owes fits = by (node_at c.nodes n) is owes
  where
    by : (node : Node) → ((v : PageView) → OnUp node (λ k seats. HasPage c.shared.pool k.pages x v) → ident ≡ v.ident) → OnUp node (λ k seats. total ≡ owed seats)
        → OnUp node (λ k seats. (v : PageView) (recs : List LogRecord) (t : OpenTxn) → HasPage c.shared.pool k.pages x v → txn_in seats seat ≡ Some t → HasRecords k.log b recs → AreTold seats k.log.start recs → v.ident + left_on t.begin (6 * k.log.start) recs x.0 ≤ top)
    by Idle is owes = tt
    by (Up k seats) is owes = λ v recs t has txn records tells.
        let own = seat_told seats k.log.start seat t recs tells txn in
        let few = count_few (changes_page (6 * k.log.start) recs x.0) (uncompensated t.begin (6 * k.log.start) recs) in
        let long = own.count in
        let need = owed_at seats seat t (busy_below seats seat t txn) txn in
        let ident_is = is v has in
        omega (arith, few, long, need, ident_is, owes, fits)
    by Down is owes = tt
