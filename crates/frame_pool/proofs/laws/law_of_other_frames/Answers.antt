use Rattle.std.proofs.Common.{◌∙◌, Some, None, ap, sym}
use Rattle.std.proofs.lemmas.List.{get_or-set_other, get_or-set_same}
use Rattle.frame_pool.specs.Frames.{frame_at}
use Rattle.frame_pool.proofs.PoolLaws.{IsOut-within, taken-apart}
use Rattle.frame_pool.proofs.laws.law_of_other_frames.Goals as goal

pub returns-clause-taken : goal.returns-clause-taken
returns-clause-taken c = λ old new f k e out.
    (taken-apart old new f k e out, sym (get_or-set_other new f k None None (taken-apart old new f k e out)) ∙ sym (ap (λ frames. frame_at frames k) e))

pub returns-clause-set : goal.returns-clause-set
returns-clause-set c = λ pool f k content apart. get_or-set_other pool f k content None apart

pub returns-clause-written : goal.returns-clause-written
returns-clause-written c = λ pool f bytes out. get_or-set_same pool f (Some bytes) None (IsOut-within pool f out)
