use Rattle.script_text.specs.Words.{txn_word, key_word}
use Rattle.script_text.proofs.WordLaws.{txn_without_space}
use Rattle.script_text.proofs.read.read_record.Goals as goal

pub returns-in_err-txn-clause-only : goal.returns-in_err-txn-clause-only
returns-in_err-txn-clause-only c = λ t k txn key is.
    absurd (c.in_err-txn.ensures.only (txn_word t) (key_word k) record { whole = is; first = txn_without_space t txn })

pub returns-in_err-read_txn-clause-only : goal.returns-in_err-read_txn-clause-only
returns-in_err-read_txn-clause-only c = λ t k txn key is.
    let parts = c.in_ok-txn.ensures.only (txn_word t) (key_word k) record { whole = is; first = txn_without_space t txn } in
    let read = c.in_err-read_txn.ensures.only t txn parts.0 in cc

pub returns-in_err-read_key-clause-only : goal.returns-in_err-read_key-clause-only
returns-in_err-read_key-clause-only c = λ t k txn key is.
    let parts = c.in_ok-txn.ensures.only (txn_word t) (key_word k) record { whole = is; first = txn_without_space t txn } in
    let read = c.in_err-read_key.ensures.only k key parts.1 in cc

pub returns-clause-only : goal.returns-clause-only
returns-clause-only c = λ t k txn key is.
    let parts = c.in_ok-txn.ensures.only (txn_word t) (key_word k) record { whole = is; first = txn_without_space t txn } in
    let first = c.in_ok-read_txn.ensures.only t txn parts.0 in
    let second = c.in_ok-read_key.ensures.only k key parts.1 in cc
