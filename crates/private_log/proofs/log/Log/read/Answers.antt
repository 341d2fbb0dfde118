use Rattle.std.proofs.Common.{rules, ◌≡◌, ◌-◌, ◌*◌, ◌/◌, ℕ, [], List, Some, true, IsTrue, IfErr, get_or, ap, sym, ◌∙◌, subst}
use Rattle.sd_base.specs.Faults.{IsStopOf}
use Rattle.private_log.specs.LogBlock.{log_block}
use Rattle.private_log.specs.Content.{place}
use Rattle.private_log.specs.Log.{LogState, IsLog, region}
use Rattle.private_log.proofs.SpreadLaws.{at_place}
use Rattle.private_log.proofs.LogLaws.{ring_some}
use Rattle.private_log.proofs.RecordLaws.{FindsRecord, on_finds, read_finds, not_lost}
use Rattle.private_log.proofs.log.Log.read.Given.{Over}
use Rattle.private_log.proofs.log.Log.read.Goals as goal

pub read_block-requires-clause-reach : goal.read_block-requires-clause-reach
read_block-requires-clause-reach g c =
    let log : IsLog c.args.self.now = subst IsLog c.self.view_is c.self.invariant in
    let at : c.ring_block-at.result.0 ≡ place (region c.args.self.now) (c.args.r / 6) = search rules in
    ap (g.D.Disk.state c.args.disk.now).reach at
    ∙ at_place (region c.args.self.now) (λ j. (g.D.Disk.state c.args.disk.now).reach j ≡ true) (c.args.r / 6) (ring_some c.args.self.now log) c.requires.reach

-- the record in memory
from_memory : (g : Over) (c : goal.After-copy_record g) (xs : List (List ℕ)) → FindsRecord c.args.self.now (g.D.Disk.state c.args.disk.now).block xs c.args.r → c.copy_record.new.out ≡ get_or xs (c.args.r - 6 * c.args.self.now.start) []
from_memory g c xs finds =
    let m = finds.memory (search rules) in
    c.copy_record.ensures c.args.self.now.node.0 (c.args.r / 6) m.0 m.1.fits m.1.within (ap (λ (l : LogState). l.block) c.self.view_is ∙ m.2) ∙ m.1.is

pub returns-then-number-self-clause-record : goal.returns-then-number-self-clause-record
returns-then-number-self-clause-record g c = λ t xs on. from_memory g c xs (on_finds c.args.self.now (g.D.Disk.state c.args.disk.now).block xs c.args.r c.requires.from c.requires.below on)

pub returns-then-number-self-clause-record_read : goal.returns-then-number-self-clause-record_read
returns-then-number-self-clause-record_read g c = λ t w. from_memory g c w.records (read_finds c.args.self.now (g.D.Disk.state c.args.disk.now).block c.args.r c.requires.from c.requires.below w)

-- the block of the record isn't lost
only_stopped : (g : Over) (c : goal.After-from_residual g) (xs : List (List ℕ)) → IsTrue g.D.Disk.told → FindsRecord c.args.self.now (g.D.Disk.state c.args.disk.now).block xs c.args.r → IfErr c.from_residual.result (IsStopOf c.args.port.0)
only_stopped g c xs t finds =
    let at : c.ring_block-at.result.0 ≡ place (region c.args.self.now) (c.args.r / 6) = search rules in
    let tail : c.self.inside.tail / 6 ≡ c.args.self.now.tail / 6 = ap (λ (l : LogState). l.tail / 6) c.self.view_is in
    let m = finds.device (λ e. c.if-number-self.false (e ∙ sym tail)) in
    let stop : IsStopOf c.args.port.0 c.in_err-read_block.field-0.0 =
    not_lost c.in_err-read_block.field-0.0 c.args.port.0 c.ring_block-at.result.0 c.read_block.new.out (log_block c.args.self.now.node.0 (c.args.r / 6) m.0) (g.D.Disk.state c.args.disk.now).block (g.D.Disk.state c.read_block.new.disk).block
    c.in_err-read_block.ensures.fault (c.in_err-read_block.ensures.blocks t) (ap (λ k. ((g.D.Disk.state c.args.disk.now).block k).current) at ∙ m.2) in
    search rules

pub returns-in_err-read_block-clause-there : goal.returns-in_err-read_block-clause-there
returns-in_err-read_block-clause-there g c = λ t xs on. only_stopped g c xs t (on_finds c.args.self.now (g.D.Disk.state c.args.disk.now).block xs c.args.r c.requires.from c.requires.below on)

pub returns-in_err-read_block-clause-there_read : goal.returns-in_err-read_block-clause-there_read
returns-in_err-read_block-clause-there_read g c = λ t w. only_stopped g c w.records t (read_finds c.args.self.now (g.D.Disk.state c.args.disk.now).block c.args.r c.requires.from c.requires.below w)

-- the block of the record is what it should be
not_damaged : (g : Over) (c : goal.Then-not-holds_record g) (xs : List (List ℕ)) → IsTrue g.D.Disk.told → FindsRecord c.args.self.now (g.D.Disk.state c.args.disk.now).block xs c.args.r → ⊥
not_damaged g c xs t finds =
    let l = c.args.self.now in
    let at : c.ring_block-at.result.0 ≡ place (region l) (c.args.r / 6) = search rules in
    let tail : c.self.inside.tail / 6 ≡ l.tail / 6 = ap (λ (l : LogState). l.tail / 6) c.self.view_is in
    let m = finds.device (λ e. c.if-number-self.false (e ∙ sym tail)) in
    let held : Some c.read_block.new.out ≡ Some (log_block l.node.0 (c.args.r / 6) m.0) =
    sym (c.in_ok-read_block.ensures.blocks t).0 ∙ (ap (λ k. ((g.D.Disk.state c.args.disk.now).block k).current) at ∙ m.2) in
    let node : c.self.inside.node.0 ≡ l.node.0 = ap (λ (l : LogState). l.node.0) c.self.view_is in
    let is : c.read_block.new.out ≡ log_block c.self.inside.node.0 (c.args.r / 6) m.0 = cc in
    c.if-not-holds_record.ensures.only (search rules) m.0 m.1.fits m.1.within is

pub returns-then-not-holds_record-clause-there : goal.returns-then-not-holds_record-clause-there
returns-then-not-holds_record-clause-there g c = λ t xs on. not_damaged g c xs t (on_finds c.args.self.now (g.D.Disk.state c.args.disk.now).block xs c.args.r c.requires.from c.requires.below on)

pub returns-then-not-holds_record-clause-there_read : goal.returns-then-not-holds_record-clause-there_read
returns-then-not-holds_record-clause-there_read g c = λ t w. not_damaged g c w.records t (read_finds c.args.self.now (g.D.Disk.state c.args.disk.now).block c.args.r c.requires.from c.requires.below w)

-- the record on the device
from_device : (g : Over) (c : goal.After-copy_record-2 g) (xs : List (List ℕ)) → IsTrue g.D.Disk.told → FindsRecord c.args.self.now (g.D.Disk.state c.args.disk.now).block xs c.args.r → c.copy_record-2.new.out ≡ get_or xs (c.args.r - 6 * c.args.self.now.start) []
from_device g c xs t finds =
    let l = c.args.self.now in
    let at : c.ring_block-at.result.0 ≡ place (region l) (c.args.r / 6) = search rules in
    let tail : c.self.inside.tail / 6 ≡ l.tail / 6 = ap (λ (l : LogState). l.tail / 6) c.self.view_is in
    let m = finds.device (λ e. c.if-number-self.false (e ∙ sym tail)) in
    let held : Some c.read_block.new.out ≡ Some (log_block l.node.0 (c.args.r / 6) m.0) =
    sym (c.in_ok-read_block.ensures.blocks t).0 ∙ (ap (λ k. ((g.D.Disk.state c.args.disk.now).block k).current) at ∙ m.2) in
    let is : c.read_block.new.out ≡ log_block l.node.0 (c.args.r / 6) m.0 = cc in
    c.copy_record-2.ensures l.node.0 (c.args.r / 6) m.0 m.1.fits m.1.within is ∙ m.1.is

pub returns-clause-record : goal.returns-clause-record
returns-clause-record g c = λ t xs on. from_device g c xs t (on_finds c.args.self.now (g.D.Disk.state c.args.disk.now).block xs c.args.r c.requires.from c.requires.below on)

pub returns-clause-record_read : goal.returns-clause-record_read
returns-clause-record_read g c = λ t w. from_device g c w.records t (read_finds c.args.self.now (g.D.Disk.state c.args.disk.now).block c.args.r c.requires.from c.requires.below w)
