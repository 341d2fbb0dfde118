use Rattle.std.proofs.Common.{IsTrue, inl, inr, subst, subst₂, sym}
use Rattle.sd_base.specs.Faults.{OnStop}
use Rattle.record_machine.specs.Machine.{Machine}
use Rattle.store_nodes.specs.Endures.{Endures, MayHalt, Stops}
use Rattle.store_nodes.specs.Ports.{IsQuiet}
use Rattle.store_nodes.proofs.Broken.{on_stop}
use Rattle.store_nodes.proofs.Started.{quiet_stopped}
use Rattle.store_nodes.proofs.store.Store.leave_out.Goals as goal
use Rattle.store_nodes.proofs.store.Store.leave_out.Goals.{in-Stopped, in-Lost}

pub returns-clause-quiet : goal.returns-clause-quiet
returns-clause-quiet g c = λ told. elim c.match-fault.branch [
  | in-Stopped w ↦ subst₂ (λ o d. IsQuiet o (g.D.Disk.state d).block) (sym w.self-is) (sym w.disk-is) (w.halt.ensures.quiet told)
  | in-Lost w ↦
      let me = c.args.self.now in
      let a = (g.D.Disk.state c.args.disk.now).block in
      let b = (g.D.Disk.state w.stop.new.self).block in
      subst₂ (λ o d. IsQuiet o (g.D.Disk.state d).block) (sym w.self-is) (sym w.disk-is) (quiet_stopped me.shape me.nodes c.args.n.0 a b (w.stop.ensures.writers told) (w.stop.ensures.blocks told) (c.requires.quiet told))
]

pub returns-clause-led : goal.returns-clause-led
returns-clause-led g c =
    let n = c.args.n.0 in
    let me = c.args.self.now in
    let P : Type 0 = IsTrue g.D.Disk.told → (m : Machine) → MayHalt n me (g.D.Disk.state c.match-fault.disk).block m → Stops n m (Endures c.match-fault.self (g.D.Disk.state c.match-fault.disk).block) in
    elim c.match-fault.branch [
      | in-Stopped w ↦ on_stop c.args.fault P (λ told m. subst₂ (λ o d. MayHalt n me (g.D.Disk.state d).block m → Stops n m (Endures o (g.D.Disk.state d).block)) (sym w.self-is) (sym w.disk-is) (w.halt.ensures.led told m))
      | in-Lost w ↦ elim w.in-Lost.is [
        | inl lost ↦ subst (λ f. OnStop f P) (sym lost.1) tt
        | inr damaged ↦ subst (λ f. OnStop f P) (sym damaged.1) tt
      ]
    ]
