use Rattle.std.proofs.Common.{◌≡◌, ◌-◌, ◌/◌, true, rules, arith, ap, sym, ◌∙◌, subst}
use Rattle.sd_base.specs.Disk.{IsFreeFor}
use Rattle.sd_base.proofs.Results.{ok_then, err_then}
use Rattle.private_log.specs.Log.{LogState, IsLog, region, tail_place}
use Rattle.private_log.proofs.SpreadLaws.{at_place, free_region}
use Rattle.private_log.proofs.LogLaws.{ring_some, tail_written, tail_cut}
use Rattle.private_log.proofs.log.Log.write_tail.Goals as goal

pub write_block-requires-clause-reach : goal.write_block-requires-clause-reach
write_block-requires-clause-reach g c =
    let log : IsLog c.args.self.now = subst IsLog c.self.view_is c.self.invariant in
    let at : c.ring_block-at.result.0 ≡ tail_place c.args.self.now = search rules in
    ap (λ r. r c.ring_block-at.result.0) c.cover_below.ensures.keeps.reach
    ∙ (ap (g.D.Disk.state c.args.disk.now).reach at
    ∙ at_place (region c.args.self.now) (λ j. (g.D.Disk.state c.args.disk.now).reach j ≡ true) ((c.args.self.now.tail - 1) / 6) (ring_some c.args.self.now log) c.requires.reach)

pub write_block-requires-clause-free : goal.write_block-requires-clause-free
write_block-requires-clause-free g c = λ t.
    let log : IsLog c.args.self.now = subst IsLog c.self.view_is c.self.invariant in
    let at : c.ring_block-at.result.0 ≡ tail_place c.args.self.now = search rules in
    let free = free_region (region c.args.self.now) c.args.port.0 (g.D.Disk.state c.args.disk.now).block (g.D.Disk.state c.cover_below.new.disk).block (c.cover_below.ensures.writers t) (c.requires.free t) in
    subst (λ j. IsFreeFor c.args.port.0 ((g.D.Disk.state c.cover_below.new.disk).block j)) (sym at)
    (at_place (region c.args.self.now) (λ j. IsFreeFor c.args.port.0 ((g.D.Disk.state c.cover_below.new.disk).block j)) ((c.args.self.now.tail - 1) / 6) (ring_some c.args.self.now log) free)

pub returns-clause-log : goal.returns-clause-log
returns-clause-log g c = ok_then c.write_block.result c.write_block.ensures.written (λ writes t xs h.
    let at : c.ring_block-at.result.0 ≡ tail_place c.args.self.now = search rules in
    let number : (c.self.inside.tail - 1) / 6 ≡ (c.args.self.now.tail - 1) / 6 = ap (λ (l : LogState). (l.tail - 1) / 6) c.self.view_is in
    let block : c.self-2.inside.block ≡ c.cover_below.new.self.block = ap (λ (l : LogState). l.block) c.self-2.view_is in
    tail_written c.args.self.now c.cover_below.new.self c.args.port.0 c.ring_block-at.result.0 c.self-2.inside.block (g.D.Disk.state c.cover_below.new.disk).block (g.D.Disk.state c.write_block.new.disk).block xs
    c.cover_below.ensures.same c.cover_below.ensures.tail at block (omega (arith, number, c.in_ok-cover_below.ensures.stable)) (c.write_block.ensures.outcomes t)
    (c.in_ok-cover_below.ensures.log t xs (omega (arith, number, c.requires.some)) h) (writes t))

pub returns-clause-cut : goal.returns-clause-cut
returns-clause-cut g c = err_then c.write_block.result c.write_block.ensures.cut (λ cuts t xs h.
    let at : c.ring_block-at.result.0 ≡ tail_place c.args.self.now = search rules in
    let number : (c.self.inside.tail - 1) / 6 ≡ (c.args.self.now.tail - 1) / 6 = ap (λ (l : LogState). (l.tail - 1) / 6) c.self.view_is in
    let block : c.self-2.inside.block ≡ c.cover_below.new.self.block = ap (λ (l : LogState). l.block) c.self-2.view_is in
    let free = free_region (region c.args.self.now) c.args.port.0 (g.D.Disk.state c.args.disk.now).block (g.D.Disk.state c.cover_below.new.disk).block (c.cover_below.ensures.writers t) (c.requires.free t) in
    tail_cut c.args.self.now c.cover_below.new.self c.args.port.0 c.ring_block-at.result.0 c.self-2.inside.block (g.D.Disk.state c.cover_below.new.disk).block (g.D.Disk.state c.write_block.new.disk).block xs
    c.cover_below.ensures.same c.cover_below.ensures.tail at block (omega (arith, number, c.in_ok-cover_below.ensures.stable)) (c.write_block.ensures.outcomes t)
    (c.in_ok-cover_below.ensures.log t xs (omega (arith, number, c.requires.some)) h)
    (omega (arith, c.in_ok-cover_below.ensures.stable)) (λ k. g.met.D.Disk.lawful c.write_block.new.disk k t) free (c.write_block.ensures.foreign t) (cuts t))
