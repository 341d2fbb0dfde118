-- What a call that reads a node's log, and logs a record, answers where it gives up.
use Rattle.std.specs.Prelude.{◌≡◌, ◌-◌, ℕ, Bool, true, false, List, Option, Err, nat_le, if◌then◌else◌}
use Rattle.std.proofs.Common.{arith, subst, ◌∙◌}
use Rattle.std.proofs.lemmas.Bool.Decides.{nat_tests}
use Rattle.sd_base.specs.Faults.{IsStopOf, OnStop, StaysLive}
use Rattle.sd_base.specs.Shape.{first_page}
use Rattle.sd_base.specs.declared.fault.DevFault.{DevFault}
use Rattle.sd_base.specs.declared.fault.DevFault.TheVariants.{Damaged, Failed, Lost, Stopped}
use Rattle.sd_base.specs.declared.shape.Shape.{Shape}
use Rattle.private_log.specs.Content.{region_of}
use Rattle.private_log.specs.Log.{region}
use Rattle.private_log.specs.Reading.{IsInRegion, IsLogFault}
use Rattle.private_log.proofs.Regions.{before_pages}
use Rattle.state_ids.specs.Blocks.{UnlessStopped}
use Rattle.node_cache.specs.Cache.{CacheState}
use Rattle.txn_core.specs.Seats.{SeatsState}
use Rattle.page_owner.specs.declared.owners.Own.{Own}
use Rattle.script_text.specs.declared.reply.Reply.TheVariants as says
use Rattle.store_nodes.specs.Causes.{IsLogReply}
use Rattle.store_nodes.specs.Nodes.{IsAtWork}
use Rattle.store_nodes.specs.Ports.{IsStopReply, reply_to, says_stop}
use Rattle.store_nodes.proofs.Works.{region_at}

-- what holds in any case holds unless the port stopped
pub unless_stopped : (f : DevFault) (P : Type 0) → P → UnlessStopped f P
unless_stopped (Stopped n) P p = tt
unless_stopped (Failed n) P p = tt
unless_stopped (Lost at) P p = p
unless_stopped (Damaged at) P p = p

-- a stop is answered as one
pub stop_says : (n first : ℕ) (f : DevFault) → IsStopOf n f → IsStopReply n (reply_to first f)
stop_says n first (Stopped m) is = is
stop_says n first (Failed m) is = is
stop_says n first (Lost at) is = absurd is
stop_says n first (Damaged at) is = absurd is

-- and a block of the node's log that is lost is damaged
pub log_says : (s : Shape) (pool : List (Option (List ℕ))) (owners : List Own) (n : ℕ) (c : CacheState) (seats : SeatsState) (f : DevFault) → IsAtWork s pool owners n c seats → IsLogFault (region c.log) c.node.0 f → IsLogReply n (region_of s n) (reply_to (first_page s) f)
log_says s pool owners n c seats (Stopped m) work is = is ∙ work.number
log_says s pool owners n c seats (Failed m) work is = is ∙ work.number
log_says s pool owners n c seats (Lost at) work is =
    let inside : IsInRegion (region_of s n) at.0 = subst (λ g. IsInRegion g at.0) (region_at s n c work.number work.store work.log_tie) is in
    let number = work.number in
    let first = work.store.node.0 in
    let last = work.store.node.1 in
    let before = before_pages s n at.0 work.store.valid (omega (arith, number, first)) (omega (arith, number, last)) inside in
    let no : nat_le (first_page s) at.0 ≡ false = grind (arith, nat_tests, before) in
    rw no inside
log_says s pool owners n c seats (Damaged at) work is = subst (λ g. IsInRegion g at.0) (region_at s n c work.number work.store work.log_tie) is

-- what holds of a call whose port is live still holds unless the port stopped
pub unless_live : (f : DevFault) (A B C P : Type 0) → StaysLive {T = Unit {0}} (Err f) A → StaysLive {T = Unit {0}} (Err f) B → StaysLive {T = Unit {0}} (Err f) C → (A → B → C → P) → UnlessStopped f P
unless_live (Stopped n) A B C P a b c so = tt
unless_live (Failed n) A B C P a b c so = tt
unless_live (Lost at) A B C P a b c so = so a b c
unless_live (Damaged at) A B C P a b c so = so a b c

-- what holds where the port stopped holds where it is said to have
pub where_stopped : (first : ℕ) (f : DevFault) (P : Type 0) → says_stop (reply_to first f) ≡ true → OnStop f P → P
where_stopped first (Stopped n) P stop on = on
where_stopped first (Failed n) P stop on = on
where_stopped first (Lost at) P stop on = by (nat_le first at.0) stop
  where
    by : (b : Bool) → says_stop (if b then says.LostPage (record { 0 = at.0 - first }) else says.DamagedDisk at) ≡ true → P
    by true never = cc
    by false never = cc
where_stopped first (Damaged at) P stop on = cc

-- and what holds unless it stopped holds where it isn't said to have
pub where_live : (first : ℕ) (f : DevFault) (P : Type 0) → says_stop (reply_to first f) ≡ false → UnlessStopped f P → P
where_live first (Stopped n) P live so = cc
where_live first (Failed n) P live so = cc
where_live first (Lost at) P live so = so
where_live first (Damaged at) P live so = so
