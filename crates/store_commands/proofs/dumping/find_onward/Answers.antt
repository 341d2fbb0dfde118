use Rattle.std.specs.Prelude.{true, Some, None, Ok, Err, IsTrue, refl}
use Rattle.std.proofs.Common.{arith, ap, subst, sym, ◌∙◌}
use Rattle.sd_base.specs.Places.{first_key}
use Rattle.record_locks.specs.Held.{least_where}
use Rattle.record_machine.specs.Machine.{Machine}
use Rattle.record_machine.specs.Parts.{dos}
use Rattle.record_machine.specs.Steps.{take_all}
use Rattle.store_nodes.specs.Shows.{IsShown}
use Rattle.store_commands.specs.Dumps.{IsFoundFrom, LeadsOn}
use Rattle.store_commands.proofs.DumpSteps.{dumps_done, dumps_pass, dumps_then}
use Rattle.store_commands.proofs.DumpTakes.{takes_behind, takes_done, takes_none, takes_pass}
use Rattle.store_commands.proofs.FoundRows.{from_before, mode_up, next_then, none_then}
use Rattle.store_commands.proofs.TakenAll.{no_takes}
use Rattle.store_commands.proofs.Testing.{the_error}
use Rattle.store_commands.proofs.dumping.find_onward.Goals as goal

pub loop-first-init : goal.loop-first-init
loop-first-init g c = record {
  takes = takes_none c.args.n.0 _ (IsTrue g.D.Disk.told) (IsTrue g.V.Disk.told) c.args.store.now (g.D.Disk.state c.args.disk.now) (g.V.Disk.state c.args.vault.now) c.requires.ready c.requires.quiet c.requires.up;
  low = omega arith;
  high = c.requires.range;
  step = λ told m shown. ((λ k from below. absurd (omega (arith, from, below))), no_takes m c.args.n (IsShown c.args.store.now (g.D.Disk.state c.args.disk.now).block) shown);
}

pub find_from-requires-clause-up : goal.find_from-requires-clause-up
find_from-requires-clause-up g c = c.loop-first.invariant.takes.up

pub find_from-requires-clause-free : goal.find_from-requires-clause-free
find_from-requires-clause-free g c = ap (least_where (λ l mode. true)) c.loop-first.invariant.takes.work.locks ∙ c.requires.free

pub find_from-requires-clause-ready : goal.find_from-requires-clause-ready
find_from-requires-clause-ready g c = c.loop-first.invariant.takes.works.ready

pub find_from-requires-clause-quiet : goal.find_from-requires-clause-quiet
find_from-requires-clause-quiet g c = λ told. (c.loop-first.invariant.takes.writes told).quiet

pub returns-in_err-row-clause-takes : goal.returns-in_err-row-clause-takes
returns-in_err-row-clause-takes g c =
    let e = the_error c.from_residual.result _ c.from_residual.ensures.1 in
    takes_behind c.args.n.0 c.loop-first.first c.from_residual.result (IsTrue g.D.Disk.told) (IsTrue g.V.Disk.told) c.args.store.now c.loop-first.store c.find_from.new.store (g.D.Disk.state c.args.disk.now) (g.D.Disk.state c.loop-first.disk) (g.D.Disk.state c.find_from.new.disk) (g.V.Disk.state c.args.vault.now) (g.V.Disk.state c.loop-first.vault) (g.V.Disk.state c.find_from.new.vault) c.loop-first.invariant.takes
    (takes_pass c.args.n.0 c.find_from.result c.from_residual.result e.0 (IsTrue g.D.Disk.told) (IsTrue g.V.Disk.told) c.loop-first.store c.find_from.new.store (g.D.Disk.state c.loop-first.disk) (g.D.Disk.state c.find_from.new.disk) (g.V.Disk.state c.loop-first.vault) (g.V.Disk.state c.find_from.new.vault) (c.in_err-row.was ∙ ap Err (sym e.2)) e.1 c.find_from.ensures.takes)

pub returns-in_err-row-clause-step : goal.returns-in_err-row-clause-step
returns-in_err-row-clause-step g c = λ told m shown.
    let e = the_error c.from_residual.result _ c.from_residual.ensures.1 in
    let S : Machine → Type 0 = IsShown c.loop-first.store (g.D.Disk.state c.loop-first.disk).block in
    let R : Machine → Type 0 = IsShown c.find_from.new.store (g.D.Disk.state c.find_from.new.disk).block in
    let before = c.loop-first.invariant.step told m shown in
    dumps_pass m c.args.n c.find_from.result c.from_residual.result e.0 R (IsFoundFrom m c.loop-first.first) _ (c.in_err-row.was ∙ ap Err (sym e.2)) e.1
    (dumps_then m c.args.n c.find_from.result S R _ (IsFoundFrom m c.loop-first.first) (mode_up c.args.store.now c.args.n.0 (g.D.Disk.state c.args.disk.now).block m c.requires.ready.is c.requires.node c.requires.up shown) before.1
    (λ found is. from_before c.args.n.0 before.1.pages m c.loop-first.first found is) (c.find_from.ensures.step told (dos (take_all c.args.n.0 before.1.pages) m) before.1.after))

-- ---- a record was found, or none below a group further on

pub returns-in-Record-clause-takes : goal.returns-in-Record-clause-takes
returns-in-Record-clause-takes g c =
    takes_behind c.args.n.0 c.loop-first.first (Ok (Some c.in-Record.row)) (IsTrue g.D.Disk.told) (IsTrue g.V.Disk.told) c.args.store.now c.loop-first.store c.find_from.new.store (g.D.Disk.state c.args.disk.now) (g.D.Disk.state c.loop-first.disk) (g.D.Disk.state c.find_from.new.disk) (g.V.Disk.state c.args.vault.now) (g.V.Disk.state c.loop-first.vault) (g.V.Disk.state c.find_from.new.vault) c.loop-first.invariant.takes
    (takes_done c.args.n.0 c.find_from.result c.in_ok-row.field-0 (Some c.in-Record.row) (IsTrue g.D.Disk.told) (IsTrue g.V.Disk.told) c.loop-first.store c.find_from.new.store (g.D.Disk.state c.loop-first.disk) (g.D.Disk.state c.find_from.new.disk) (g.V.Disk.state c.loop-first.vault) (g.V.Disk.state c.find_from.new.vault) c.in_ok-row.was c.find_from.ensures.takes)

pub returns-in-Record-clause-read : goal.returns-in-Record-clause-read
returns-in-Record-clause-read g c =
    let leads = subst (LeadsOn c.find_from.new.store c.args.n.0 c.loop-first.first) c.in-Record.is c.in_ok-row.ensures.leads in
    (omega (arith, leads.0, c.loop-first.invariant.low), leads.1)

pub returns-in-Record-clause-step : goal.returns-in-Record-clause-step
returns-in-Record-clause-step g c = λ told m shown.
    let S : Machine → Type 0 = IsShown c.loop-first.store (g.D.Disk.state c.loop-first.disk).block in
    let R : Machine → Type 0 = IsShown c.find_from.new.store (g.D.Disk.state c.find_from.new.disk).block in
    let before = c.loop-first.invariant.step told m shown in
    let found = dumps_done m c.args.n c.find_from.result c.in_ok-row.field-0 R (IsFoundFrom m c.loop-first.first) c.in_ok-row.was
    (dumps_then m c.args.n c.find_from.result S R _ (IsFoundFrom m c.loop-first.first) (mode_up c.args.store.now c.args.n.0 (g.D.Disk.state c.args.disk.now).block m c.requires.ready.is c.requires.node c.requires.up shown) before.1
    (λ found is. from_before c.args.n.0 before.1.pages m c.loop-first.first found is) (c.find_from.ensures.step told (dos (take_all c.args.n.0 before.1.pages) m) before.1.after)) in
    (next_then m (first_key c.args.first) (first_key c.loop-first.first) c.in-Record.row.key c.in-Record.row.value (omega (arith, c.loop-first.invariant.low)) before.0 (subst (IsFoundFrom m c.loop-first.first) c.in-Record.is found.0), found.1)

pub loop-first-preserved : goal.loop-first-preserved
loop-first-preserved g c =
    let leads = subst (LeadsOn c.find_from.new.store c.args.n.0 c.loop-first.first) c.in-NoneBelow.is c.in_ok-row.ensures.leads in
    record {
      takes = takes_behind c.args.n.0 c.loop-first.first (Ok c.in-NoneBelow.end) (IsTrue g.D.Disk.told) (IsTrue g.V.Disk.told) c.args.store.now c.loop-first.store c.find_from.new.store (g.D.Disk.state c.args.disk.now) (g.D.Disk.state c.loop-first.disk) (g.D.Disk.state c.find_from.new.disk) (g.V.Disk.state c.args.vault.now) (g.V.Disk.state c.loop-first.vault) (g.V.Disk.state c.find_from.new.vault) c.loop-first.invariant.takes
          (takes_done c.args.n.0 c.find_from.result c.in_ok-row.field-0 c.in-NoneBelow.end (IsTrue g.D.Disk.told) (IsTrue g.V.Disk.told) c.loop-first.store c.find_from.new.store (g.D.Disk.state c.loop-first.disk) (g.D.Disk.state c.find_from.new.disk) (g.V.Disk.state c.loop-first.vault) (g.V.Disk.state c.find_from.new.vault) c.in_ok-row.was c.find_from.ensures.takes);
      low = omega (arith, c.loop-first.invariant.low, leads.0);
      high = leads.1;
      step = λ told m shown.
          let S : Machine → Type 0 = IsShown c.loop-first.store (g.D.Disk.state c.loop-first.disk).block in
          let R : Machine → Type 0 = IsShown c.find_from.new.store (g.D.Disk.state c.find_from.new.disk).block in
          let before = c.loop-first.invariant.step told m shown in
          let found = dumps_done m c.args.n c.find_from.result c.in_ok-row.field-0 R (IsFoundFrom m c.loop-first.first) c.in_ok-row.was
          (dumps_then m c.args.n c.find_from.result S R _ (IsFoundFrom m c.loop-first.first) (mode_up c.args.store.now c.args.n.0 (g.D.Disk.state c.args.disk.now).block m c.requires.ready.is c.requires.node c.requires.up shown) before.1
          (λ found is. from_before c.args.n.0 before.1.pages m c.loop-first.first found is) (c.find_from.ensures.step told (dos (take_all c.args.n.0 before.1.pages) m) before.1.after)) in
          (none_then m (first_key c.args.first) (first_key c.loop-first.first) (first_key c.in-NoneBelow.end) before.0 (subst (IsFoundFrom m c.loop-first.first) c.in-NoneBelow.is found.0), found.1);
    }

-- ---- the groups have ended

pub returns-clause-takes : goal.returns-clause-takes
returns-clause-takes g c = takes_done c.args.n.0 (Ok c.loop-first.first) c.loop-first.first None (IsTrue g.D.Disk.told) (IsTrue g.V.Disk.told) c.args.store.now c.loop-first.store (g.D.Disk.state c.args.disk.now) (g.D.Disk.state c.loop-first.disk) (g.V.Disk.state c.args.vault.now) (g.V.Disk.state c.loop-first.vault) refl c.loop-first.invariant.takes

pub returns-clause-step : goal.returns-clause-step
returns-clause-step g c = λ told m shown.
    let found = c.loop-first.invariant.step told m shown in
    ((λ k from below. found.0 k from (omega (arith, below, c.loop-first-test.false))), found.1)
