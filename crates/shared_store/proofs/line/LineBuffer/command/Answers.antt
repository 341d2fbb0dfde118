use Rattle.std.proofs.Common.{◌∙◌, ℕ, List, subst, arith}
use Rattle.script_text.specs.Command.{Means}
use Rattle.shared_store.proofs.Buffering.{not_long, held_whole}
use Rattle.script_text.proofs.LineLengths.{length-line}
use Rattle.shared_store.proofs.line.LineBuffer.command.Goals as goal

pub returns-then-self-clause-means : goal.returns-then-self-clause-means
returns-then-self-clause-means c = λ line holds command spells.
    let short = holds.short (omega (arith, length-line line command spells)) in cc

pub returns-else-self-clause-means : goal.returns-else-self-clause-means
returns-else-self-clause-means c = λ line holds.
    let short = not_long line c.args.self.now.is_long c.if-self.false holds.long in
    let P : List ℕ → Type 0 = λ xs. Means xs c.read_line.result in
    subst P (c.as_slice.ensures.value ∙ held_whole line c.args.self.now.kept.items holds.kept short) c.read_line.ensures.means
