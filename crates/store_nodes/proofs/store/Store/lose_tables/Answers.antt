use Rattle.std.proofs.Common.{rules, ◌≡◌, false}
use Rattle.store_nodes.specs.Nodes.{any_up}
use Rattle.store_nodes.proofs.Halts.{none_out}
use Rattle.store_nodes.proofs.store.Store.lose_tables.Goals as goal

pub drop_all-requires : goal.drop_all-requires
drop_all-requires c = let none : any_up c.args.self.now.nodes ≡ false = search rules in none_out c.args.self.now.shape c.args.self.now.shared.pool c.args.self.now.shared.owners c.args.self.now.nodes none c.requires.is
