use Rattle.shared_store.proofs.Serving.{served_byte}
use Rattle.shared_store.proofs.session.Session.take_byte.Goals as goal

pub returns-else-b-eq10-clause-served : goal.returns-else-b-eq10-clause-served
returns-else-b-eq10-clause-served g c = λ sent tellK tellD from bytes s.
    served_byte from bytes c.args.b _ _ _ _ _ c.if-b-eq10.false c.push.ensures s
