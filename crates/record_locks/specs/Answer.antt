-- What a transaction is answered that asks for a lock.
use Rattle.std.specs.Prelude.{◌==◌, ◌&&◌, Bool, true, false, Option, Some, None, is_none, if◌then◌else◌}
use Rattle.std.specs.FinMap as finite
use Rattle.sd_base.specs.declared.names.Key.{Key}
use Rattle.sd_base.specs.declared.names.TxnId.{TxnId}
use Rattle.record_locks.specs.declared.mode.Mode.{Mode}
use Rattle.record_locks.specs.declared.mode.LockAnswer.{LockAnswer}
use Rattle.record_locks.specs.declared.mode.LockAnswer.TheVariants.{Free, Mine, Conflict, Full}
use Rattle.record_locks.specs.Held.{Held, mode_of, covers, conflicts, least_where}

-- the conflict with this transaction, if there is one, and else this answer
abbrev pub conflict_or : Option TxnId → LockAnswer → LockAnswer
conflict_or (Some u) answer = Conflict u
conflict_or None answer = answer

-- The transaction has the key in a mode that covers this one; else the least transaction that has it
-- in a mode which excludes this one is in the way; else it would be one lock more where 4,096 are held.
abbrev pub lock_answer : Held → Key → TxnId → Mode → LockAnswer
lock_answer m key t mode =
    if covers (mode_of m key t) mode then Mine
    else conflict_or (least_where (conflicts key t mode) m)
    (if is_none (mode_of m key t) && finite.len m == 4096 then Full else Free)

-- the lock may be taken
abbrev pub may_take : LockAnswer → Bool
may_take Free = true
may_take Mine = true
may_take (Conflict u) = false
may_take Full = false
