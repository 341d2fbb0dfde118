use Rattle.std.proofs.Common.{◌≡◌, filter, rules, arith, ◌∙◌, ap}
use Rattle.std.proofs.lemmas.Fn.{filter_same}
use Rattle.record_locks.specs.GivenUp.{stays}
use Rattle.record_locks.specs.Held.{locks_where}
use Rattle.record_locks.proofs.TableLaws.{entry_test, held-filter, IsTable-filter}
use Rattle.record_locks.proofs.table.Locks.give_up.Goals as goal

pub invariant_of-self : goal.invariant_of-self
invariant_of-self c =
    let kept : c.retain.new.self.items ≡ filter (entry_test (stays c.args.which)) c.self.inside.entries.items = filter_same _ (entry_test (stays c.args.which)) _ (λ e b f k. search rules) _ _ c.retain.ensures.filtered in
    (IsTable-filter (stays c.args.which) c.self.inside.entries.items c.retain.new.self.items kept c.self.invariant.0, omega (arith, c.retain.ensures.capacity, c.self.invariant.1))

pub returns : goal.returns
returns c =
    let kept : c.retain.new.self.items ≡ filter (entry_test (stays c.args.which)) c.self.inside.entries.items = filter_same _ (entry_test (stays c.args.which)) _ (λ e b f k. search rules) _ _ c.retain.ensures.filtered in
    held-filter (stays c.args.which) c.self.inside.entries.items c.retain.new.self.items kept c.self.invariant.0 ∙ ap (locks_where (stays c.args.which)) c.self.view_is
