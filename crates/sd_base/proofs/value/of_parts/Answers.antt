use Rattle.std.proofs.Common.{◌≡◌, ◌+◌, ◌-◌, ◌++◌, ◌∙◌, ℕ, List, length, take, drop, replicate, ap, arith}
use Rattle.std.proofs.lemmas.List.{length-append, length-replicate, drop_at, take_at}
use Rattle.sd_base.specs.Text.{put}
use Rattle.sd_base.proofs.ValueLaws.{put-parts}
use Rattle.sd_base.proofs.value.of_parts.Goals as goal

pub invariant_of-result : goal.invariant_of-result
invariant_of-result c =
    let front : List ℕ = c.args.front.now in
    let back : List ℕ = c.args.back.now in
    let zeros : List ℕ = replicate (248 - length (front ++ back)) 0 in
    let long : length (front ++ back) ≡ length front + length back = length-append front back in
    let made : c.put_bytes-2.new.out ≡ (front ++ back) ++ zeros = c.put_bytes-2.ensures ∙ ap (put (length front) back) c.put_bytes.ensures ∙ put-parts 248 front back c.requires in (
      c.requires,
      ap length made ∙ simp (length-append, length-replicate) (omega (arith, c.requires)),
      ap (drop (length front + length back)) made
          ∙ drop_at (front ++ back) zeros (length front + length back) long
          ∙ ap (λ n. replicate (248 - n) 0) long,
    )

pub returns : goal.returns
returns c =
    let front : List ℕ = c.args.front.now in
    let back : List ℕ = c.args.back.now in
    let made : c.put_bytes-2.new.out ≡ (front ++ back) ++ replicate (248 - length (front ++ back)) 0 = c.put_bytes-2.ensures ∙ ap (put (length front) back) c.put_bytes.ensures ∙ put-parts 248 front back c.requires in
    ap (take (length front + length back)) made
    ∙ take_at (front ++ back) (replicate (248 - length (front ++ back)) 0) (length front + length back) (length-append front back)
