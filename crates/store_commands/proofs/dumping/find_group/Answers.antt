use Rattle.std.specs.Prelude.{◌≡◌, ◌<◌, ⊤, true, Ok, Err, IsTrue}
use Rattle.std.proofs.Common.{arith, ap, subst, sym, ◌∙◌}
use Rattle.sd_base.specs.Shape.{page_count}
use Rattle.record_machine.specs.Machine.{Machine}
use Rattle.record_machine.specs.Parts.{Take, one}
use Rattle.record_machine.specs.Steps.{TakesPages}
use Rattle.store_nodes.specs.Known.{held_in}
use Rattle.store_nodes.specs.Ports.{says_stop}
use Rattle.store_nodes.specs.Shows.{IsShown}
use Rattle.store_commands.proofs.DumpSteps.{dumps_done, dumps_pass, page_dumped}
use Rattle.store_commands.proofs.DumpTakes.{page_taken, takes_behind, takes_done, takes_none, takes_pass}
use Rattle.store_commands.proofs.FoundRows.{mode_up, more_below}
use Rattle.store_commands.proofs.TakenAll.{no_takes}
use Rattle.store_commands.proofs.TakeSteps.{some_then}
use Rattle.store_commands.proofs.Testing.{error_then, on_done, the_error}
use Rattle.store_commands.proofs.dumping.find_group.Goals as goal

pub loop-x-init : goal.loop-x-init
loop-x-init g c = record {
  takes = takes_none c.args.n.0 _ (IsTrue g.D.Disk.told) (IsTrue g.V.Disk.told) c.args.store.now (g.D.Disk.state c.args.disk.now) (g.V.Disk.state c.args.vault.now) c.requires.ready c.requires.quiet c.requires.up;
  low = c.requires.range;
  high = omega arith;
  step = λ told m shown. ((λ x below. absurd (omega (arith, below))), no_takes m c.args.n (IsShown c.args.store.now (g.D.Disk.state c.args.disk.now).block) shown);
}

pub take-requires-clause-quiet : goal.take-requires-clause-quiet
take-requires-clause-quiet g c = λ told. (c.loop-x.invariant.takes.writes told).quiet

-- ---- the map page couldn't be taken

pub returns-in_err-take-clause-takes : goal.returns-in_err-take-clause-takes
returns-in_err-take-clause-takes g c =
    let e = the_error c.from_residual.result _ c.from_residual.ensures.1 in
    let d' = g.D.Disk.state c.loop-x.disk in
    let v' = g.V.Disk.state c.loop-x.vault in
    let d'' = g.D.Disk.state c.take.new.disk in
    let v'' = g.V.Disk.state c.take.new.vault in
    takes_behind c.args.n.0 c.loop-x.least c.from_residual.result (IsTrue g.D.Disk.told) (IsTrue g.V.Disk.told) c.args.store.now c.loop-x.store c.take.new.store (g.D.Disk.state c.args.disk.now) d' d'' (g.V.Disk.state c.args.vault.now) v' v'' c.loop-x.invariant.takes
    (takes_pass c.args.n.0 c.take.result c.from_residual.result e.0 (IsTrue g.D.Disk.told) (IsTrue g.V.Disk.told) c.loop-x.store c.take.new.store d' d'' v' v'' (c.in_err-take.was ∙ ap Err (sym e.2)) e.1
    (page_taken c.args.n.0 (record { 0 = c.loop-x.x }) c.take.result (IsTrue g.D.Disk.told) (IsTrue g.V.Disk.told) c.loop-x.store c.take.new.store d' d'' v' v'' c.loop-x.invariant.takes.works.ready.is (subst (λ s. c.loop-x.x < page_count s) (sym c.loop-x.invariant.takes.works.shape) (omega (arith, c.loop-x-test.true)))
    c.take.ensures.works c.take.ensures.writes c.take.ensures.vault_outcomes c.take.ensures.cause c.take.ensures.fault c.take.ensures.told c.take.ensures.down c.take.ensures.up c.take.ensures.work c.take.ensures.holders))

-- what the machine does as it is taken, or why it doesn't
pub returns-in_err-take-clause-step : goal.returns-in_err-take-clause-step
returns-in_err-take-clause-step g c = λ told m shown.
    let e = the_error c.from_residual.result _ c.from_residual.ensures.1 in
    let before = c.loop-x.invariant.step told m shown in
    let S : Machine → Type 0 = IsShown c.loop-x.store (g.D.Disk.state c.loop-x.disk).block in
    let R : Machine → Type 0 = IsShown c.take.new.store (g.D.Disk.state c.take.new.disk).block in
    let up = mode_up c.args.store.now c.args.n.0 (g.D.Disk.state c.args.disk.now).block m c.requires.ready.is c.requires.node c.requires.up shown in
    let near : c.loop-x.x < m.shape.maps = subst (λ s. c.loop-x.x < s.maps) (sym shown.1.nodes.shape) c.loop-x-test.true in
    dumps_pass m c.args.n c.take.result c.from_residual.result e.0 R _ _ (c.in_err-take.was ∙ ap Err (sym e.2)) e.1
    (page_dumped m c.args.n c.loop-x.x (held_in c.loop-x.store (record { 0 = c.loop-x.x })) c.take.result S R up before.1 near
    (λ k is. c.take.ensures.refused told k is)
    (some_then (held_in c.loop-x.store (record { 0 = c.loop-x.x })) _ (λ why. (c.take.result ≡ Err why) × ((k : Machine) → S k → R k)) c.take.ensures.held (λ why same. (same.0, λ k is. subst (λ v. IsShown v (g.D.Disk.state c.take.new.disk).block k) (sym same.1) (subst (λ d. IsShown c.loop-x.store (g.D.Disk.state d).block k) (sym same.2) is))))
    (λ k is free. error_then c.take.result _ (λ why. says_stop why ≡ true) c.take.ensures.stopped (λ why stops. stops told k is free))
    (λ k is. on_done {Q = R (one (Take c.loop-x.x c.args.n.0) k)} c.take.result c.take.ensures.shows (λ shows. shows told k is)))

-- ---- it was taken

pub loop-x-preserved : goal.loop-x-preserved
loop-x-preserved g c =
    let n = c.args.n.0 in
    let d' = g.D.Disk.state c.loop-x.disk in
    let v' = g.V.Disk.state c.loop-x.vault in
    let d'' = g.D.Disk.state c.take.new.disk in
    let v'' = g.V.Disk.state c.take.new.vault in
    record {
      takes = takes_behind n c.loop-x.least (Ok c.next_group-least.result) (IsTrue g.D.Disk.told) (IsTrue g.V.Disk.told) c.args.store.now c.loop-x.store c.take.new.store (g.D.Disk.state c.args.disk.now) d' d'' (g.V.Disk.state c.args.vault.now) v' v'' c.loop-x.invariant.takes
          (takes_done n c.take.result tt c.next_group-least.result (IsTrue g.D.Disk.told) (IsTrue g.V.Disk.told) c.loop-x.store c.take.new.store d' d'' v' v'' c.in_ok-take.was
          (page_taken n (record { 0 = c.loop-x.x }) c.take.result (IsTrue g.D.Disk.told) (IsTrue g.V.Disk.told) c.loop-x.store c.take.new.store d' d'' v' v'' c.loop-x.invariant.takes.works.ready.is (subst (λ s. c.loop-x.x < page_count s) (sym c.loop-x.invariant.takes.works.shape) (omega (arith, c.loop-x-test.true)))
          c.take.ensures.works c.take.ensures.writes c.take.ensures.vault_outcomes c.take.ensures.cause c.take.ensures.fault c.take.ensures.told c.take.ensures.down c.take.ensures.up c.take.ensures.work c.take.ensures.holders));
      low = c.next_group-least.ensures.within.0;
      high = omega (arith, c.next_group-least.ensures.within.1, c.loop-x.invariant.high);
      step = λ told m shown.
          let before = c.loop-x.invariant.step told m shown in
          let S : Machine → Type 0 = IsShown c.loop-x.store d'.block in
          let R : Machine → Type 0 = IsShown c.take.new.store d''.block in
          let up = mode_up c.args.store.now n (g.D.Disk.state c.args.disk.now).block m c.requires.ready.is c.requires.node c.requires.up shown in
          let near : c.loop-x.x < m.shape.maps = subst (λ s. c.loop-x.x < s.maps) (sym shown.1.nodes.shape) c.loop-x-test.true in
          let that = page_dumped m c.args.n c.loop-x.x (held_in c.loop-x.store (record { 0 = c.loop-x.x })) c.take.result S R up before.1 near
          (λ k is. c.take.ensures.refused told k is)
          (some_then (held_in c.loop-x.store (record { 0 = c.loop-x.x })) _ (λ why. (c.take.result ≡ Err why) × ((k : Machine) → S k → R k)) c.take.ensures.held (λ why same. (same.0, λ k is. subst (λ v. IsShown v d''.block k) (sym same.1) (subst (λ d. IsShown c.loop-x.store (g.D.Disk.state d).block k) (sym same.2) is))))
          (λ k is free. error_then c.take.result _ (λ why. says_stop why ≡ true) c.take.ensures.stopped (λ why stops. stops told k is free))
          (λ k is. on_done {Q = R (one (Take c.loop-x.x c.args.n.0) k)} c.take.result c.take.ensures.shows (λ shows. shows told k is)) in
          let taken : TakesPages m c.args.n R = (dumps_done m c.args.n c.take.result tt R (λ done. ⊤) c.in_ok-take.was that).1 in
          let there = c.next_group-least.ensures.there in
          let shape = c.take.ensures.works.shape ∙ c.loop-x.invariant.takes.works.shape in
          (more_below c.take.new.store n d''.block m taken.pages c.take.ensures.works.ready.is c.requires.node c.in_ok-take.ensures.up taken.after c.loop-x.x c.args.first c.loop-x.least c.next_group-least.result there.0 (subst (λ s. c.loop-x.x < s.maps) (sym shape) c.loop-x-test.true) c.next_group-least.ensures.within.1 there.1 (c.next_group-least.ensures.none there.0 there.1) before.0, taken);
    }

pub returns-clause-step : goal.returns-clause-step
returns-clause-step g c = λ told m shown.
    let found = c.loop-x.invariant.step told m shown in
    (λ x below. found.0 x (omega (arith, subst (λ s. x < s.maps) shown.1.nodes.shape below, c.loop-x-test.false)), found.1)
