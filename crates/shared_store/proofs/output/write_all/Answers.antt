use Rattle.std.proofs.Common.{◌-◌, ◌++◌, ◌∙◌, ℕ, List, length, take, drop, sym, ap, arith, append_assoc}
use Rattle.std.proofs.lemmas.List.{take_rest, length-drop}
use Rattle.std.proofs.Math.Seq.{take-add}
use Rattle.shared_store.proofs.output.write_all.Goals as goal

pub loop-sent-preserved : goal.loop-sent-preserved
loop-sent-preserved g c =
    let sent : ℕ = c.loop-sent.sent in
    let n : ℕ = c.in-Took.n in
    let bytes : List ℕ = c.args.bytes.now in
    let start : List ℕ = (g.K.Sink.state c.args.sink.now).taken in
    let rest = take_rest bytes sent in
    let count = c.in-Took.ensures.count in
    record {
      within = omega (arith, ap length rest, length-drop sent bytes, count.0);
      faults = omega (arith, c.write.ensures.faults);
      taken = λ told.
          c.in-Took.ensures.bytes told
          ∙ ap (λ xs. xs ++ take n (take (length bytes - sent) (drop sent bytes))) (c.loop-sent.invariant.taken told)
          ∙ ap (λ xs. (start ++ take sent bytes) ++ take n xs) rest
          ∙ append_assoc start (take sent bytes) (take n (drop sent bytes))
          ∙ ap (λ xs. start ++ xs) (sym (take-add sent n bytes));
    }
