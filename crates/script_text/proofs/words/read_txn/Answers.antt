use Rattle.std.proofs.Common.{decimal, arith}
use Rattle.script_text.specs.Words.{node_word}
use Rattle.script_text.proofs.WordLaws.{number_without_point, txn_of}
use Rattle.script_text.proofs.words.read_txn.Goals as goal

pub returns-in_err-node-clause-only : goal.returns-in_err-node-clause-only
returns-in_err-node-clause-only c = λ t in_range is.
    absurd (c.in_err-node.ensures.only (node_word t.node) (decimal t.seat) record { whole = is; first = number_without_point t.node.0 (omega arith) })

pub returns-in_err-node-2-clause-only : goal.returns-in_err-node-2-clause-only
returns-in_err-node-2-clause-only c = λ t in_range is.
    let parts = c.in_ok-node.ensures.only (node_word t.node) (decimal t.seat) record { whole = is; first = number_without_point t.node.0 (omega arith) } in
    let node = c.in_err-node-2.ensures.only t.node in_range.0 parts.0 in cc

pub returns-in_err-seat-clause-only : goal.returns-in_err-seat-clause-only
returns-in_err-seat-clause-only c = λ t in_range is.
    let parts = c.in_ok-node.ensures.only (node_word t.node) (decimal t.seat) record { whole = is; first = number_without_point t.node.0 (omega arith) } in
    let seat = c.in_err-seat.ensures.only t.seat (omega arith, in_range.1) parts.1 in cc

pub returns-clause-only : goal.returns-clause-only
returns-clause-only c = λ t in_range is.
    let parts = c.in_ok-node.ensures.only (node_word t.node) (decimal t.seat) record { whole = is; first = number_without_point t.node.0 (omega arith) } in
    txn_of c.in_ok-node-2.node t.node c.in_ok-seat.field-0 t.seat
    (c.in_ok-node-2.ensures.only t.node in_range.0 parts.0)
    (c.in_ok-seat.ensures.only t.seat (omega arith, in_range.1) parts.1)
