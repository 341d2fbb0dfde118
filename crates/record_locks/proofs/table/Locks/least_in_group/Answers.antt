use Rattle.std.proofs.Common.{filter, map, sym, ◌∙◌, ap}
use Rattle.record_locks.specs.Held.{is_in_group, least_of, least_where}
use Rattle.record_locks.proofs.TableLaws.{entry_test, least_where-held}
use Rattle.record_locks.proofs.table.Locks.least_in_group.Goals as goal

pub returns : goal.returns
returns c =
    c.least_in_group.ensures
    ∙ ap (λ es. least_of (map (λ e. e.txn) (filter (entry_test (is_in_group c.args.g)) es))) c.deref.ensures.value
    ∙ sym (least_where-held (is_in_group c.args.g) c.self.inside.entries.items c.self.invariant.0)
    ∙ ap (least_where (is_in_group c.args.g)) c.self.view_is
