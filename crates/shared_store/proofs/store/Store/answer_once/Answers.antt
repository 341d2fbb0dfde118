use Rattle.shared_store.specs.Devices.{both}
use Rattle.shared_store.proofs.Sending.{sends_once, part_once}
use Rattle.shared_store.proofs.store.Store.answer_once.Goals as goal

pub returns-clause-sends : goal.returns-clause-sends
returns-clause-sends g c = λ sent tellK tellD.
    sends_once c.args.command.now c.exec-reply.result c.args.self.now c.exec-reply.new.self (both (g.D.Disk.state c.args.disk.now) (g.V.Disk.state c.args.vault.now)) (both (g.D.Disk.state c.exec-reply.new.disk) (g.V.Disk.state c.exec-reply.new.vault))
    (g.K.Sink.state c.args.sink.now).taken (g.K.Sink.state c.say.new.sink).taken
    c.requires.one c.exec-reply.ensures.disk c.exec-reply.ensures.vault c.exec-reply.ensures.cause (c.exec-reply.ensures.answered tellD) (c.say.ensures.all tellK sent)

pub returns-clause-part : goal.returns-clause-part
returns-clause-part g c = λ failed tellK tellD.
    part_once c.args.command.now c.exec-reply.result c.args.self.now c.exec-reply.new.self (both (g.D.Disk.state c.args.disk.now) (g.V.Disk.state c.args.vault.now)) (both (g.D.Disk.state c.exec-reply.new.disk) (g.V.Disk.state c.exec-reply.new.vault))
    (g.K.Sink.state c.args.sink.now).taken (g.K.Sink.state c.say.new.sink).taken
    c.requires.one c.exec-reply.ensures.disk c.exec-reply.ensures.vault c.exec-reply.ensures.cause (c.exec-reply.ensures.answered tellD) (c.say.ensures.part tellK)
