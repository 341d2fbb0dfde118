use Rattle.std.proofs.Common.{Bool, true, map, sym, ◌∙◌, ap}
use Rattle.record_locks.specs.declared.mode.Mode.{Mode}
use Rattle.record_locks.specs.Order.{Lock}
use Rattle.record_locks.specs.Held.{least_of, least_where}
use Rattle.record_locks.proofs.TableLaws.{least_where-held, all_pass}
use Rattle.record_locks.proofs.table.Locks.least.Goals as goal

pub returns : goal.returns
returns c =
    let any : Lock → Mode → Bool = λ l mode. true in
    c.least.ensures
    ∙ ap (λ es. least_of (map (λ e. e.txn) es)) (c.deref.ensures.value ∙ sym (all_pass c.self.inside.entries.items))
    ∙ sym (least_where-held any c.self.inside.entries.items c.self.invariant.0)
    ∙ ap (least_where any) c.self.view_is
