-- In a store that is shown, each page has room for what is to be taken back of it.
use Rattle.std.specs.Prelude.{◌≡◌, ◌*◌, ◌+◌, ◌^◌, ◌<◌, ◌≤◌, ℕ, true, false, List, Some, IsTrue, refl}
use Rattle.std.proofs.Common.{arith}
use Rattle.sd_base.specs.Disk.{BlockState}
use Rattle.sd_base.specs.Shape.{page_count}
use Rattle.sd_base.specs.declared.names.PageNo.{PageNo}
use Rattle.sd_base.specs.declared.names.TxnId.{TxnId}
use Rattle.page_image.specs.declared.page_view.PageView.{PageView}
use Rattle.log_record.specs.declared.record.LogRecord.{LogRecord}
use Rattle.txn_core.specs.Seats.{OpenTxn, is_busy, txn_in}
use Rattle.txn_core.specs.Told.{AreTold, HasRecords}
use Rattle.txn_core.specs.Updates.{HasPage}
use Rattle.record_machine.specs.Machine.{Machine}
use Rattle.record_machine.specs.Meaning.{Plain}
use Rattle.store_pages.specs.Updates.{OnLeft, left_on}
use Rattle.store_nodes.specs.declared.node.Node.{Node}
use Rattle.store_nodes.specs.declared.node.Node.TheVariants.{Idle, Up, Down}
use Rattle.store_nodes.specs.declared.store.Store.{Store}
use Rattle.store_nodes.specs.Nodes.{IsPlace, OnUp, is_up, node_at}
use Rattle.store_nodes.specs.Pages.{ShowsData}
use Rattle.store_nodes.specs.Shows.{IsShown, ShowsNode}
use Rattle.store_pages.proofs.FoundWrites.{left_fits}
use Rattle.txn_core.proofs.SeatLaws.{txn_of}

pub has_room : (c : Store) (b : ℕ → BlockState) (m : Machine) (t : TxnId) (x : PageNo) → IsPlace t.node.0 → t.node.0 ≤ c.shape.nodes → is_up (node_at c.nodes t.node.0) ≡ true → t.seat < 8 → OnUp (node_at c.nodes t.node.0) (λ k seats. IsTrue (is_busy seats t.seat)) → c.shape.maps ≤ x.0 → x.0 < page_count c.shape
    → (v : PageView) × ShowsData c t.node.0 x v → IsShown c b m → OnLeft c t.node.0 b t.seat x (λ v left. 2 ^ 63 + 2 ^ 40 < v.ident + left) → ⊥
has_room c b m t x place known up low busy far within there shown over = by (node_at c.nodes t.node.0) up busy there.1 (shown.1.nodes.node t.node.0 place known) over
  where
    p : Plain
    p = shown.0

    by : (n : Node) → is_up n ≡ true → OnUp n (λ k seats. IsTrue (is_busy seats t.seat)) → OnUp n (λ k seats. HasPage c.shared.pool k.pages x there.0) → ShowsNode c.shape c.shared.pool t.node.0 n b p m
        → OnUp n (λ k seats. (v : PageView) (recs : List LogRecord) (u : OpenTxn) → HasPage c.shared.pool k.pages x v → txn_in seats t.seat ≡ Some u → HasRecords k.log b recs → AreTold seats k.log.start recs → 2 ^ 63 + 2 ^ 40 < v.ident + left_on u.begin (6 * k.log.start) recs x.0) → ⊥
    by Idle up busy has was over = let never : false ≡ true = up in cc
    by (Up k seats) up busy has was over =
        let u = txn_of seats t.seat busy in
        let fits = left_fits t.node.0 c.shape c.shared.pool k seats b p m t u.0 was.1 shown.1.nodes.means.logs refl low u.1 x there.0 shown.1.nodes.shape place.0 known shown.1.nodes.means.pages shown.1.nodes.means.tops far within has in
        let more = over there.0 (p.live t.node.0) u.0 has u.1 was.1.records was.1.told in
        omega (arith, fits, more)
    by Down up busy has was over = let never : false ≡ true = up in cc
