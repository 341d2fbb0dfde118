use Rattle.std.proofs.Common.{IsTrue, inl, inr, subst, subst₂, sym}
use Rattle.sd_base.specs.Faults.{OnStop}
use Rattle.record_machine.specs.Machine.{Machine}
use Rattle.store_nodes.specs.Endures.{Endures, MayHalt, Stops}
use Rattle.state_ids.specs.Blocks.{UnlessStopped}
use Rattle.store_nodes.specs.Ports.{IsQuiet}
use Rattle.store_nodes.proofs.Broken.{on_stop}
use Rattle.store_nodes.proofs.store.Store.give_up.Goals as goal
use Rattle.store_nodes.proofs.store.Store.give_up.Goals.{in-Stopped, in-Lost}

pub returns-clause-quiet : goal.returns-clause-quiet
returns-clause-quiet g c = λ told. elim c.match-fault.branch [
  | in-Stopped w ↦ subst₂ (λ o d. IsQuiet o (g.D.Disk.state d).block) (sym w.self-is) (sym w.disk-is) (w.halt.ensures.quiet told)
  | in-Lost w ↦
      let all = c.requires.quiet_all in
      let quiet : IsQuiet c.args.self.now (g.D.Disk.state c.args.disk.now).block = elim w.in-Lost.is [
        | inl lost ↦ subst (λ f. UnlessStopped f (IsTrue g.D.Disk.told → IsQuiet c.args.self.now (g.D.Disk.state c.args.disk.now).block)) lost.1 all told
        | inr damaged ↦ subst (λ f. UnlessStopped f (IsTrue g.D.Disk.told → IsQuiet c.args.self.now (g.D.Disk.state c.args.disk.now).block)) damaged.1 all told
      ] in
      subst₂ (λ o d. IsQuiet o (g.D.Disk.state d).block) (sym w.self-is) (sym w.disk-is) quiet
]

pub returns-clause-led : goal.returns-clause-led
returns-clause-led g c =
    let n = c.args.n.0 in
    let me = c.args.self.now in
    let P : Type 0 = IsTrue g.D.Disk.told → (m : Machine) → MayHalt n me (g.D.Disk.state c.match-fault.disk).block m → Stops n m (Endures c.match-fault.self (g.D.Disk.state c.match-fault.disk).block) in
    elim c.match-fault.branch [
      | in-Stopped w ↦ on_stop c.args.fault P (λ told m. subst₂ (λ o d. MayHalt n me (g.D.Disk.state d).block m → Stops n m (Endures o (g.D.Disk.state d).block)) (sym w.self-is) (sym w.disk-is) (w.halt.ensures.led told m))
      | in-Lost w ↦ elim w.in-Lost.is [
        | inl lost ↦ subst (λ f. OnStop f P) (sym lost.1) tt
        | inr damaged ↦ subst (λ f. OnStop f P) (sym damaged.1) tt
      ]
    ]
