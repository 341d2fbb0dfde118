-- Bytes that are kept in front of zeros, and bytes that are cut.
use Rattle.std.proofs.Common.{◌≡◌, ◌≤◌, ◌+◌, ◌-◌, ℕ, List, ◌++◌, length, take, drop, replicate, ◌∙◌, ap, sym, arith}
use Rattle.std.proofs.lemmas.List.{append_assoc, drop-replicate, length-append, length-replicate}
use Rattle.std.proofs.Math.Seq.{take-append-add}
use Rattle.sd_base.specs.Text.{put}
use Rattle.sd_base.proofs.PutLaws.{put-append_right}

-- bytes put in front of zeros
put-zeros : (size : ℕ) (bytes : List ℕ) → put 0 bytes (replicate size 0) ≡ bytes ++ replicate (size - length bytes) 0
unfolding put
put-zeros size bytes =
    let none : 0 + length bytes ≡ length bytes = omega arith in
    ap (λ n. bytes ++ drop n (replicate size 0)) none ∙ ap (λ zeros. bytes ++ zeros) (drop-replicate (length bytes) size 0)

-- bytes put in front of zeros, and others behind them
pub put-parts : (size : ℕ) (front back : List ℕ) → length front + length back ≤ size → put (length front) back (put 0 front (replicate size 0)) ≡ (front ++ back) ++ replicate (size - length (front ++ back)) 0
put-parts size front back le =
    let rest : List ℕ = replicate (size - length front) 0 in
    let room : length back ≤ length rest = simp length-replicate (omega arith) in
    let left : size - length front - length back ≡ size - length (front ++ back) = simp length-append (omega arith) in
    ap (put (length front) back) (put-zeros size front)
    ∙ put-append_right 0 (length front) back front rest (omega arith) (omega arith)
    ∙ ap (λ tail. front ++ tail) (put-zeros (size - length front) back)
    ∙ sym (append_assoc front back (replicate (size - length front - length back) 0))
    ∙ ap (λ n. (front ++ back) ++ replicate n 0) left

-- bytes and others behind them, cut at a length that is past the first ones
pub take-append_past : (size : ℕ) (front back : List ℕ) → length front ≤ size → take size (front ++ back) ≡ front ++ take (size - length front) back
take-append_past size front back le =
    let all : size ≡ length front + (size - length front) = omega arith in
    ap (λ n. take n (front ++ back)) all ∙ take-append-add front back (size - length front)
