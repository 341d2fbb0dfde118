-- What a stop leaves of a log that was to get one more record.
use Rattle.std.specs.Prelude.{◌≡◌, ◌+◌, ◌++◌, ℕ, Bool, IsTrue, List, Option, Result, Ok, Err, IfErr, length, map, take, refl}
use Rattle.std.proofs.Common.{arith, subst, sym}
use Rattle.std.proofs.lemmas.List.{length-append, take-append-le, take_at}
use Rattle.sd_base.specs.Disk.{BlockState, IsLawful}
use Rattle.sd_base.specs.Calls.{Narrows}
use Rattle.sd_base.specs.Faults.{OnStop, StaysLive}
use Rattle.sd_base.specs.declared.fault.DevFault.{DevFault}
use Rattle.sd_base.specs.declared.fault.DevFault.TheVariants.{Stopped, Failed, Lost, Damaged}
use Rattle.private_log.specs.Content.{Region, HasNoFuture, HoldsFront, LogContent}
use Rattle.private_log.specs.Spread.{IsCutLog, IsFreeRegion, IsStill}
use Rattle.private_log.specs.Log.{LogState, region}
use Rattle.private_log.proofs.LogLaws.{front_log}
use Rattle.private_log.proofs.OtherCalls.{on_stilled}
use Rattle.log_record.specs.declared.record.LogRecord.{LogRecord}
use Rattle.log_record.specs.Text.{record_text}
use Rattle.state_ids.specs.Blocks.{UnlessStopped}
use Rattle.txn_core.specs.Told.{HasRecords}

-- what follows where the port stopped
pub stop_then : {P Q : Type 0} (f : DevFault) → OnStop f P → (P → Q) → OnStop f Q
stop_then (Stopped n) p g = g p
stop_then (Failed n) p g = g p
stop_then (Lost at) p g = tt
stop_then (Damaged at) p g = tt

-- what holds in any case holds where it stopped
pub on_stop : {T P : Type 0} (r : Result T DevFault) → P → IfErr r (λ f. OnStop f P)
on_stop (Ok x) p = tt
on_stop (Err (Stopped n)) p = p
on_stop (Err (Failed n)) p = p
on_stop (Err (Lost at)) p = tt
on_stop (Err (Damaged at)) p = tt

-- and where the fault is this one
pub on_fault : {T : Type 0} (P : Type 0) (r : Result T DevFault) (f : DevFault) → r ≡ Err f → OnStop f P → IfErr r (λ e. OnStop e P)
on_fault P (Ok x) f is p = tt
on_fault P (Err e) f is p = let same : f ≡ e = cc in subst (λ g. OnStop g P) same p

-- what follows where it didn't stop, on a device of which something holds
pub stays_then : (T : Type 0) {R P Q : Type 0} (f : DevFault) → (R → UnlessStopped f P) → (R → P → Q) → StaysLive {T = T} (Err f) (R → Q)
stays_then T (Stopped n) p g = tt
stays_then T (Failed n) p g = tt
stays_then T (Lost at) p g = λ r. g r (p r)
stays_then T (Damaged at) p g = λ r. g r (p r)

-- a front of the records is one of more records
pub cut_more : (g : Region) (start stable : ℕ) (b : ℕ → BlockState) (xs more : List (List ℕ)) → IsCutLog g start stable b xs → IsCutLog g start stable b (xs ++ more)
cut_more g start stable b xs more cut = front_log g start stable (length xs) b (xs ++ more) (omega (arith, length-append xs more)) (subst (IsCutLog g start stable b) (sym (take_at xs more (length xs) refl)) cut)

pub front_more : (g : Region) (start stable : ℕ) (xs more : List (List ℕ)) (image : ℕ → Option (List ℕ)) → HoldsFront g start stable xs image → HoldsFront g start stable (xs ++ more) image
front_more g start stable xs more image f =
    let same : take f.count xs ≡ take f.count (xs ++ more) = sym (take-append-le f.count xs more f.high) in
    record {
      count = f.count;
      low = f.low;
      high = omega (arith, f.high, length-append xs more);
      content = subst (λ ys. LogContent g image start ys) same f.content;
      clean = subst (λ ys. HasNoFuture g image start ys) same f.clean;
    }

-- what a stop leaves of a log that was read
pub read_cut : (f : DevFault) (told : Bool) (l : LogState) (n : ℕ) (b c : ℕ → BlockState) → (IsTrue told → (k : ℕ) → IsLawful c k) → (IsTrue told → Narrows b c) → OnStop f (IsTrue told → IsFreeRegion (region l) n b → IsStill (region l) c)
    → OnStop f (IsTrue told → IsFreeRegion (region l) n b → (recs : List LogRecord) → HasRecords l b recs → IsCutLog (region l) l.start l.stable c (map record_text recs))
read_cut f told l n b c law narrows still = stop_then f still (λ is t free recs has. on_stilled l b c (map record_text recs) (law t) (λ i o le may. narrows t ((region l).anchor + i) o may) (is t free) has.on)
