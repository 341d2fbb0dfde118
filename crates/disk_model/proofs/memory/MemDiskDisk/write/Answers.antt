use Rattle.std.proofs.Common.{refl, ◌≡◌, ◌<◌, arith, rules, length, length-set, set, ap}
use Rattle.disk_model.specs.Memory.{BlockView, view_at, port_at}
use Rattle.disk_model.specs.Reached.{Reaches, IsReached}
use Rattle.disk_model.proofs.BlockSteps.{writes_narrows}
use Rattle.disk_model.proofs.Reaching.{IsReached-widen, IsReached-write, port_at-set_same}
use Rattle.disk_model.proofs.Counting.{WritesPicks-writes}
use Rattle.disk_model.specs.MemPicks.{mem_picks}
use Rattle.disk_model.specs.MemState.{mem_state}
use Rattle.disk_model.proofs.memory.MemDiskDisk.write.Goals as goal

pub invariant_of-self-clause-reached : goal.invariant_of-self-clause-reached
unfolding mem_state
invariant_of-self-clause-reached c =
    let at = c.args.at.0 in
    let n = c.args.n.0 in
    let cells = c.args.self.now.cells.items in
    let ports = c.args.self.now.ports in
    let is_block : at < length cells = search rules in
    let is_port : n < length ports = omega arith in
    let wide : IsReached cells (set ports n c.widen.new.self) =
    IsReached-widen cells ports n c.widen.new.self c.args.self.now.reached is_port (omega arith) (omega arith)
    (omega (arith, c.args.self.now.reached.ends n)) in
    let here : port_at (set ports n c.widen.new.self) n ≡ c.widen.new.self = port_at-set_same ports n _ is_port in
    let reaches : Reaches (set ports n c.widen.new.self) n at = record {
      port = c.requires.port;
      first = rw here (omega arith);
      end = rw here (omega arith);
    } in
    let wrote : IsReached c.write_block-is_first.new.cells.items (set ports n c.widen.new.self) =
    IsReached-write cells _ _ n at wide c.write_block-is_first.ensures.cells
    (λ k ne. ap (λ (b : BlockView). b.state.writer) (c.write_block-is_first.ensures.others k ne))
    c.write_block-is_first.ensures.here.writer reaches in
    IsReached-widen _ _ n _ wrote (omega (arith, length-set ports n c.widen.new.self)) (omega arith) (omega arith) (wrote.ends n)

pub returns-clause-outcomes : goal.returns-clause-outcomes
unfolding mem_state
returns-clause-outcomes c = λ k o h.
    writes_narrows (view_at c.args.self.now.cells.items c.args.self.now.copies)
    (view_at c.write_block-is_first.new.cells.items c.write_block-is_first.new.copies) c.args.n.0 c.args.at.0 _ _ c.args.content.now
    c.write_block-is_first.ensures.here c.write_block-is_first.ensures.others k o h

pub returns-clause-picks : goal.returns-clause-picks
unfolding mem_state mem_picks
returns-clause-picks c =
    let lt : c.args.n.0 < length c.args.self.now.ports = omega arith in
    WritesPicks-writes c.args.self.now.cells.items c.write_block-is_first.new.cells.items c.args.self.now.copies c.write_block-is_first.new.copies
    c.args.self.now.ports c.args.n.0 c.args.at.0 c.from.result c.widen.new.self _ c.args.content.now c.write_block-is_first.result lt
    c.write_block-is_first.ensures.here c.write_block-is_first.ensures.others c.widen.ensures.next_bit refl
    (λ first. rw first at c.from.ensures) (λ again. rw again at c.from.ensures)
