use Rattle.cluster_core.proofs.cluster.Cluster.exec.Goals as goal

pub returns-clause-works : goal.returns-clause-works
returns-clause-works g c = rw (← c.self.view_is) c.execute.ensures.works

pub returns-clause-writes : goal.returns-clause-writes
returns-clause-writes g c = rw (← c.self.view_is) c.execute.ensures.writes

pub returns-clause-vault_outcomes : goal.returns-clause-vault_outcomes
returns-clause-vault_outcomes g c = c.execute.ensures.vault_outcomes

pub returns-clause-cause : goal.returns-clause-cause
returns-clause-cause g c = c.execute.ensures.cause

pub returns-clause-down : goal.returns-clause-down
returns-clause-down g c = c.execute.ensures.down

pub returns-clause-known : goal.returns-clause-known
returns-clause-known g c = rw (← c.self.view_is) c.execute.ensures.known

pub returns-clause-answer : goal.returns-clause-answer
returns-clause-answer g c = rw (← c.self.view_is) c.execute.ensures.answer

pub returns-clause-told : goal.returns-clause-told
returns-clause-told g c = rw (← c.self.view_is) c.execute.ensures.told

pub returns-clause-refused : goal.returns-clause-refused
returns-clause-refused g c = rw (← c.self.view_is) c.execute.ensures.refused

pub returns-clause-refused_shown : goal.returns-clause-refused_shown
returns-clause-refused_shown g c = rw (← c.self.view_is) c.execute.ensures.refused_shown

pub returns-clause-commit_contents : goal.returns-clause-commit_contents
returns-clause-commit_contents g c = rw (← c.self.view_is) c.execute.ensures.commit_contents

pub returns-clause-commit_ring : goal.returns-clause-commit_ring
returns-clause-commit_ring g c = rw (← c.self.view_is) c.execute.ensures.commit_ring

pub returns-clause-append_memory : goal.returns-clause-append_memory
returns-clause-append_memory g c = rw (← c.self.view_is) c.execute.ensures.append_memory

pub returns-clause-put_memory : goal.returns-clause-put_memory
returns-clause-put_memory g c = rw (← c.self.view_is) c.execute.ensures.put_memory

pub returns-clause-del_memory : goal.returns-clause-del_memory
returns-clause-del_memory g c = rw (← c.self.view_is) c.execute.ensures.del_memory

pub returns-clause-taken : goal.returns-clause-taken
returns-clause-taken g c = rw (← c.self.view_is) c.execute.ensures.taken

pub returns-clause-flushed : goal.returns-clause-flushed
returns-clause-flushed g c = rw (← c.self.view_is) c.execute.ensures.flushed

pub returns-clause-stat : goal.returns-clause-stat
returns-clause-stat g c = rw (← c.self.view_is) c.execute.ensures.stat

pub returns-clause-step : goal.returns-clause-step
returns-clause-step g c = rw (← c.self.view_is) c.execute.ensures.step

pub execute-requires-clause-ready : goal.execute-requires-clause-ready
execute-requires-clause-ready g c = rw c.self.view_is c.requires.ready

pub execute-requires-clause-quiet : goal.execute-requires-clause-quiet
execute-requires-clause-quiet g c = rw c.self.view_is c.requires.quiet

pub returns-clause-room : goal.returns-clause-room
returns-clause-room g c = rw (← c.self.view_is) c.execute.ensures.room

pub returns-clause-led : goal.returns-clause-led
returns-clause-led g c = rw (← c.self.view_is) c.execute.ensures.led
