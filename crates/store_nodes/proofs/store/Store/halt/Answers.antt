use Rattle.std.proofs.Common.{◌≡◌, true, false, ap, sym, subst, subst₂, ◌∙◌}
use Rattle.page_owner.specs.Owners.{owner_of}
use Rattle.record_locks.specs.Held.{without_reads_of}
use Rattle.store_nodes.specs.declared.node.Node.TheVariants.{Down}
use Rattle.store_nodes.specs.declared.store.Shared.{Shared}
use Rattle.store_nodes.specs.Halting.{KeepsTables, LosesTables}
use Rattle.store_nodes.specs.Nodes.{KeepsFramesBut, any_up, with_node}
use Rattle.store_nodes.specs.Ports.{IsQuietOf}
use Rattle.store_nodes.proofs.StoppedEndures.{stopped_endures}
use Rattle.store_nodes.proofs.Works.{quiet_halted}
use Rattle.store_nodes.proofs.store.Store.halt.Goals as goal

pub returns-clause-quiet : goal.returns-clause-quiet
returns-clause-quiet g c = λ told.
    let me = c.args.self.now in
    subst₂ (λ z ns. IsQuietOf z ns (g.D.Disk.state c.stop.new.self).block) (sym (c.lose_tables.ensures.shape ∙ c.take_down.ensures.shape)) (sym (c.lose_tables.ensures.nodes ∙ c.take_down.ensures.nodes))
    (quiet_halted me.shape me.nodes c.args.n.0 (g.D.Disk.state c.args.disk.now).block (g.D.Disk.state c.stop.new.self).block c.requires.is.shared.eight c.requires.node (c.stop.ensures.writers told) (c.stop.ensures.blocks told) (c.requires.quiet told))

pub returns-clause-led : goal.returns-clause-led
returns-clause-led g c = λ told m may.
    let n = c.args.n in
    let me = c.args.self.now in
    let new = c.lose_tables.new.self in
    let nodes : new.nodes ≡ with_node me.nodes n.0 Down = c.lose_tables.ensures.nodes ∙ c.take_down.ensures.nodes in
    let frames : KeepsFramesBut n.0 me.nodes me.shared.pool new.shared.pool = subst (KeepsFramesBut n.0 me.nodes me.shared.pool) (sym c.lose_tables.ensures.pool) c.take_down.ensures.frames in
    let kept : any_up new.nodes ≡ true → KeepsTables n me new = λ some. (let same = c.lose_tables.ensures.kept (ap any_up (sym c.lose_tables.ensures.nodes) ∙ some) in record {
      locks = ap (λ (s : Shared). s.locks) same ∙ c.retain_node.ensures ∙ ap (without_reads_of n) c.take_down.ensures.locks;
      owners = λ x. ap (λ (s : Shared). owner_of s.owners x) same ∙ c.take_down.ensures.owners x;
      reopening = ap (λ (s : Shared). s.reopening) same ∙ c.take_down.ensures.reopening;
    }) in
    let lost : any_up new.nodes ≡ false → LosesTables new = λ none. c.lose_tables.ensures.lost (ap any_up (sym c.lose_tables.ensures.nodes) ∙ none) in
    stopped_endures n me new (g.D.Disk.state c.stop.new.self).block may.0 m c.requires.node may.1 c.requires.is c.lose_tables.ensures.is (c.lose_tables.ensures.shape ∙ c.take_down.ensures.shape) nodes frames kept lost
