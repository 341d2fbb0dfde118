use Rattle.std.proofs.Common.{◌∷◌, []}
use Rattle.script_text.specs.Spelling.{spelled}
use Rattle.script_text.specs.Words.{spaced, txn_word, key_word}
use Rattle.script_text.proofs.WordLaws.{txn_without_space, key_without_space, change_of}
use Rattle.script_text.proofs.read.read_change.Goals as goal

pub returns-in_err-txn-clause-only : goal.returns-in_err-txn-clause-only
returns-in_err-txn-clause-only c = λ t k v txn key value is.
    absurd (c.in_err-txn.ensures.only (txn_word t) (spaced (key_word k ∷ spelled v ∷ [])) record { whole = is; first = txn_without_space t txn })

pub returns-in_err-key-clause-only : goal.returns-in_err-key-clause-only
returns-in_err-key-clause-only c = λ t k v txn key value is.
    let front = c.in_ok-txn.ensures.only (txn_word t) (spaced (key_word k ∷ spelled v ∷ [])) record { whole = is; first = txn_without_space t txn } in
    absurd (c.in_err-key.ensures.only (key_word k) (spelled v) record { whole = front.1; first = key_without_space k key })

pub returns-in_err-read_txn-clause-only : goal.returns-in_err-read_txn-clause-only
returns-in_err-read_txn-clause-only c = λ t k v txn key value is.
    let front = c.in_ok-txn.ensures.only (txn_word t) (spaced (key_word k ∷ spelled v ∷ [])) record { whole = is; first = txn_without_space t txn } in
    let read = c.in_err-read_txn.ensures.only t txn front.0 in cc

pub returns-in_err-read_key-clause-only : goal.returns-in_err-read_key-clause-only
returns-in_err-read_key-clause-only c = λ t k v txn key value is.
    let front = c.in_ok-txn.ensures.only (txn_word t) (spaced (key_word k ∷ spelled v ∷ [])) record { whole = is; first = txn_without_space t txn } in
    let back = c.in_ok-key.ensures.only (key_word k) (spelled v) record { whole = front.1; first = key_without_space k key } in
    let read = c.in_err-read_key.ensures.only k key back.0 in cc

pub returns-in_err-read_value-clause-only : goal.returns-in_err-read_value-clause-only
returns-in_err-read_value-clause-only c = λ t k v txn key value is.
    let front = c.in_ok-txn.ensures.only (txn_word t) (spaced (key_word k ∷ spelled v ∷ [])) record { whole = is; first = txn_without_space t txn } in
    let back = c.in_ok-key.ensures.only (key_word k) (spelled v) record { whole = front.1; first = key_without_space k key } in
    let read = c.in_err-read_value.ensures.only v value back.1 in cc

pub returns-clause-only : goal.returns-clause-only
returns-clause-only c = λ t k v txn key value is.
    let front = c.in_ok-txn.ensures.only (txn_word t) (spaced (key_word k ∷ spelled v ∷ [])) record { whole = is; first = txn_without_space t txn } in
    let back = c.in_ok-key.ensures.only (key_word k) (spelled v) record { whole = front.1; first = key_without_space k key } in
    change_of c.in_ok-read_txn.field-0 t c.in_ok-read_key.field-0 k c.in_ok-read_value.field-0 v
    (c.in_ok-read_txn.ensures.only t txn front.0)
    (c.in_ok-read_key.ensures.only k key back.0)
    (c.in_ok-read_value.ensures.only v value back.1)
