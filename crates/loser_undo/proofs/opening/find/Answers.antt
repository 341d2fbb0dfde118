use Rattle.std.proofs.Common.{◌≡◌, ◌≢◌, ◌<◌, ℕ, length, rules, slice_index_or, arith}
use Rattle.loser_undo.proofs.Opened.{first_without, none_without}
use Rattle.loser_undo.proofs.opening.find.Goals as goal

pub returns-then-open-i-clause-some : goal.returns-then-open-i-clause-some
returns-then-open-i-clause-some c =
    let below = c.loop-i-test.true in
    let here : slice_index_or c.args.open.now c.loop-i.i c.args.t ≡ c.args.t = search rules in
    (below, (c.loop-i.i, below, here), first_without c.args.open.now c.args.t c.loop-i.i below here c.loop-i.invariant)

pub returns-clause-none : goal.returns-clause-none
returns-clause-none c =
    let all : (j : ℕ) → j < length c.args.open.now → slice_index_or c.args.open.now j c.args.t ≢ c.args.t = λ j lt. c.loop-i.invariant j (omega (arith, lt)) in
    (λ has. all has.0 has.1 has.2, none_without c.args.open.now c.args.t all)
