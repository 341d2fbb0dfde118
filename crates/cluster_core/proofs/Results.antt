-- What holds of the reply to a command, by what holds of the result of its call.
use Rattle.std.specs.Prelude.{◌≡◌, ◌≢◌, ◌⊎◌, ◌≤◌, ℕ, Bool, true, false, List, Option, Some, None, Result, Ok, Err, IfErr, IfOk, IfSome, OnOk, refl}
use Rattle.std.proofs.Common.{ap, inl, inr, sym, ◌∙◌}
use Rattle.sd_base.specs.Disk.{DiskState}
use Rattle.sd_base.specs.declared.names.Key.{Key}
use Rattle.script_text.specs.declared.reply.Reply.{Reply}
use Rattle.script_text.specs.declared.reply.Reply.TheVariants as says
use Rattle.record_machine.specs.Commands.{TellsFlush}
use Rattle.txn_core.specs.declared.change.Change.{Change}
use Rattle.store_nodes.specs.declared.store.Store.{Store}
use Rattle.store_nodes.specs.Ports.{HasCause, says_stop}
use Rattle.store_commands.specs.Answering.{reply_deleted, reply_found, reply_of}
use Rattle.store_commands.specs.Dumps.{IsDumpFault, reply_row}
use Rattle.store_commands.specs.Faults.{IsFaultFor, IsWriteReason}
use Rattle.store_commands.specs.Reasons.{IsFoundIn, IsWriteRefusal}
use Rattle.store_commands.specs.declared.dumping.Row.{Row}
use Rattle.cluster_core.specs.Answers.{IsRowAnswer, reply_flushed}
use Rattle.cluster_core.specs.Records.{says_done}

-- where it holds of all replies that say that the command was done
pub of_done : (P : Reply → Type 0) (r : Result (Unit {0}) Reply) → P says.Fine → IfErr r P → P (reply_of r)
of_done P (Ok x) fine why = fine
of_done P (Err reply) fine why = why

pub of_found : (P : Reply → Type 0) (r : Result (Option (List ℕ)) Reply) → P says.Absent → ((value : List ℕ) → P (says.Found value)) → IfErr r P → P (reply_found r)
of_found P (Ok None) absent found why = absent
of_found P (Ok (Some value)) absent found why = found value
of_found P (Err reply) absent found why = why

pub of_deleted : (P : Reply → Type 0) (r : Result Bool Reply) → P says.Fine → P says.Absent → IfErr r P → P (reply_deleted r)
of_deleted P (Ok true) fine absent why = fine
of_deleted P (Ok false) fine absent why = absent
of_deleted P (Err reply) fine absent why = why

pub of_flushed : (P : Reply → Type 0) (r : Result ℕ Reply) → ((count : ℕ) → P (says.Flushed count)) → IfErr r P → P (reply_flushed r)
of_flushed P (Ok count) flushed why = flushed count
of_flushed P (Err reply) flushed why = why

pub of_row : (P : Reply → Type 0) (r : Result (Option Row) Reply) → P says.NoMore → IfOk r (λ found. IfSome found (λ row. P (says.Row row.key row.value))) → IfErr r P → P (reply_row r)
of_row P (Ok None) none row why = none
of_row P (Ok (Some r)) none row why = row
of_row P (Err reply) none row why = why

pub all_rows : (P : Reply → Type 0) (r : Result (Option Row) Reply) → ((row : Row) → P (says.Row row.key row.value)) → IfOk r (λ found. IfSome found (λ row. P (says.Row row.key row.value)))
all_rows P (Ok None) all = tt
all_rows P (Ok (Some row)) all = all row
all_rows P (Err why) all = tt

-- that there is no more needs no cause
pub row_cause : (r : Result (Option Row) Reply) (old new : DiskState) → IfErr r (λ why. HasCause why old new) → reply_row r ≢ says.NoMore → HasCause (reply_row r) old new
row_cause (Ok None) old new cause more = absurd (more refl)
row_cause (Ok (Some row)) old new cause more = tt
row_cause (Err why) old new cause more = cause

fault_row : (old new : Store) (n first : ℕ) (why : Reply) → IsDumpFault old n why → IsRowAnswer old new n first why
fault_row old new n first (says.Row key value) fault = absurd fault
fault_row old new n first says.NoMore fault = tt
fault_row old new n first why fault = fault

pub row_answer : (old new : Store) (n first : ℕ) (r : Result (Option Row) Reply) → IfOk r (λ found. IfSome found (λ row. (first ≤ row.key.0) × IsFoundIn new n row.key (Some row.value))) → IfErr r (IsDumpFault old n) → IsRowAnswer old new n first (reply_row r)
row_answer old new n first (Ok None) read fault = tt
row_answer old new n first (Ok (Some row)) read fault = read
row_answer old new n first (Err why) read fault = fault_row old new n first why fault

-- what two facts of an error give
pub both_then : {T : Type 0} (r : Result T Reply) (P Q R : Reply → Type 0) → IfErr r P → IfErr r Q → ((why : Reply) → P why → Q why → R why) → IfErr r R
both_then (Ok value) P Q R p q then = tt
both_then (Err why) P Q R p q then = then why p q

-- ---- what is answered

pub fine_or : (P : Reply → Type 0) (r : Result (Unit {0}) Reply) → IfErr r P → (reply_of r ≡ says.Fine) ⊎ P (reply_of r)
fine_or P (Ok x) why = inl refl
fine_or P (Err reply) why = inr why

pub found_or : (P : Reply → Type 0) (Q : Option (List ℕ) → Type 0) (r : Result (Option (List ℕ)) Reply) → IfOk r Q → IfErr r P → ((found : Option (List ℕ)) × (reply_found r ≡ reply_found (Ok found)) × Q found) ⊎ P (reply_found r)
found_or P Q (Ok found) is why = inl (found, refl, is)
found_or P Q (Err reply) is why = inr why

pub deleted_or : (P : Reply → Type 0) (Q : Type 0) (r : Result Bool Reply) → (r ≡ Ok false → Q) → IfErr r P → (reply_deleted r ≡ says.Fine) ⊎ ((reply_deleted r ≡ says.Absent) × Q) ⊎ P (reply_deleted r)
deleted_or P Q (Ok true) absent why = inl refl
deleted_or P Q (Ok false) absent why = inr (inl (refl, absent refl))
deleted_or P Q (Err reply) absent why = inr (inr why)

pub flushed_or : (P : Reply → Type 0) (r : Result ℕ Reply) → IfOk r (λ count. count ≤ 16) → IfErr r P → TellsFlush (reply_flushed r) ⊎ P (reply_flushed r)
flushed_or P (Ok count) few why = inl (count, few, refl)
flushed_or P (Err reply) few why = inr why

-- ---- what was done

-- where an error says a stop alone, and the reply says none
pub done_runs : {T P : Type 0} (say : Result T Reply → Reply) (r : Result T Reply) → ((why : Reply) → say (Err why) ≡ why) → IfErr r (λ why. says_stop why ≡ true) → says_stop (say r) ≡ false → OnOk r P → P
done_runs say (Ok value) err stops runs p = p
done_runs say (Err why) err stops runs p = let never : true ≡ false = sym stops ∙ ap says_stop (sym (err why)) ∙ runs in cc

pub flushed_count : (P : ℕ → Type 0) (r : Result ℕ Reply) → IfErr r (λ why. says_stop why ≡ true) → says_stop (reply_flushed r) ≡ false → IfOk r P → (count : ℕ) × (reply_flushed r ≡ says.Flushed count) × P count
flushed_count P (Ok count) stops runs p = (count, refl, p)
flushed_count P (Err why) stops runs p = let never : true ≡ false = sym stops ∙ runs in cc

-- where no error is a reply that says that it was done
pub done_only : {T P : Type 0} (say : Result T Reply → Reply) (r : Result T Reply) → ((why : Reply) → say (Err why) ≡ why) → (Q : Reply → Type 0) → ((why : Reply) → Q why → says_done why ≡ true → ⊥) → IfErr r Q → says_done (say r) ≡ true → OnOk r P → P
done_only say (Ok value) err Q never error done p = p
done_only say (Err why) err Q never error done p = absurd (never why error (ap says_done (sym (err why)) ∙ done))

pub fault_not_done : (c : Store) (n : ℕ) (key : Key) (why : Reply) → IsFaultFor c n key why → says_done why ≡ true → ⊥
fault_not_done c n key says.Fine fault done = fault
fault_not_done c n key (says.Found value) fault done = fault
fault_not_done c n key says.Absent fault done = fault
fault_not_done c n key why fault done = cc

refusal_not_done : (c : Store) (n : ℕ) (key : Key) (what : Change) (why : Reply) → IsWriteRefusal c n key what why → says_done why ≡ true → ⊥
refusal_not_done c n key what says.Fine refused done = refused
refusal_not_done c n key what (says.Found value) refused done = refused
refusal_not_done c n key what says.Absent refused done = refused
refusal_not_done c n key what why refused done = cc

pub reason_not_done : (old new : Store) (n : ℕ) (key : Key) (what : Change) (why : Reply) → IsWriteReason old new n key what why → says_done why ≡ true → ⊥
reason_not_done old new n key what why (inl refused) done = refusal_not_done new n key what why refused done
reason_not_done old new n key what why (inr fault) done = fault_not_done old n key why fault done
