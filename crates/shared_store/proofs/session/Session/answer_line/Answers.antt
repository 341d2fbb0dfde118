use Rattle.std.proofs.Common.{◌∙◌, sym}
use Rattle.shared_store.specs.Devices.{both}
use Rattle.shared_store.proofs.Serving.{served_line, served_part, served_end, served_silent, silent_end}
use Rattle.shared_store.proofs.session.Session.answer_line.Goals as goal

pub returns-clause-served : goal.returns-clause-served
returns-clause-served g c = λ sent tellK tellD from bytes s.
    served_line from bytes _ _ _ _ _ (both (g.D.Disk.state c.answer.new.disk) (g.V.Disk.state c.answer.new.vault)) _ (g.K.Sink.state c.answer.new.sink) c.command-command.result
    (λ l holds. sym (c.is_silent.ensures l holds) ∙ c.if-is_silent.false) c.command-command.ensures.means c.clear-2.ensures
    c.answer.ensures.disk c.answer.ensures.vault s (c.answer.ensures.sends sent tellK tellD)

pub returns-clause-cut : goal.returns-clause-cut
returns-clause-cut g c = λ sent tellK tellD from bytes s.
    served_part from bytes _ c.clear-2.new.self _ _ _ (both (g.D.Disk.state c.answer.new.disk) (g.V.Disk.state c.answer.new.vault)) _ (g.K.Sink.state c.answer.new.sink) c.command-command.result
    (λ l holds. sym (c.is_silent.ensures l holds) ∙ c.if-is_silent.false) c.command-command.ensures.means c.clear-2.ensures
    c.answer.ensures.disk c.answer.ensures.vault s (c.answer.ensures.part sent tellK tellD)

pub returns-clause-ended : goal.returns-clause-ended
returns-clause-ended g c = λ sent tellK tellD from bytes s.
    served_end from bytes _ c.clear-2.new.self _ _ _ (both (g.D.Disk.state c.answer.new.disk) (g.V.Disk.state c.answer.new.vault)) _ (g.K.Sink.state c.answer.new.sink) c.command-command.result
    (λ l holds. sym (c.is_silent.ensures l holds) ∙ c.if-is_silent.false) c.command-command.ensures.means c.clear-2.ensures
    c.answer.ensures.disk c.answer.ensures.vault s (c.answer.ensures.sends sent tellK tellD)

pub returns-then-is_silent-clause-served : goal.returns-then-is_silent-clause-served
returns-then-is_silent-clause-served g c = λ done tellK tellD from bytes s.
    served_silent from bytes _ _ _ _ _ (λ l holds. sym (c.is_silent.ensures l holds) ∙ c.if-is_silent.true) c.clear.ensures s

pub returns-then-is_silent-clause-ended : goal.returns-then-is_silent-clause-ended
returns-then-is_silent-clause-ended g c = λ done tellK tellD from bytes s.
    silent_end from bytes _ _ _ _ (λ l holds. sym (c.is_silent.ensures l holds) ∙ c.if-is_silent.true) s
