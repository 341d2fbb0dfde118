-- Bytes that are kept in a longer text, with zeros behind them.
use Rattle.std.specs.Prelude.{◌≡◌, ◌≤◌, ◌-◌, ◌++◌, ℕ, List, length, take, drop, replicate}
use Rattle.std.proofs.Common.{◌∙◌, ap, sym, arith}
use Rattle.std.proofs.lemmas.List.{length-take-le, take-append-drop}

-- the front of a text that is zero from there on gives back its length and the text
pub padded_is : (size len : ℕ) (bytes : List ℕ) → len ≤ size → length bytes ≡ size → drop len bytes ≡ replicate (size - len) 0 → (length (take len bytes) ≡ len) × (take len bytes ++ replicate (size - length (take len bytes)) 0 ≡ bytes)
padded_is size len bytes le long zeros =
    let e : length (take len bytes) ≡ len = length-take-le len bytes (omega arith) in
    (e, ap (λ n. take len bytes ++ replicate (size - n) 0) e ∙ ap (λ rest. take len bytes ++ rest) (sym zeros) ∙ take-append-drop len bytes)
