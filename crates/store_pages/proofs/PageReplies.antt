-- What is answered where a page couldn't be taken.
use Rattle.std.specs.Prelude.{◌≡◌, ◌≢◌, ◌+◌, ◌-◌, ℕ, true, false, nat_le, List, Option, Result, Ok, Err, IsOk, refl}
use Rattle.std.proofs.Common.{arith, ap, subst, sym, ◌∙◌}
use Rattle.std.proofs.lemmas.Bool.Decides.{nat_tests}
use Rattle.sd_base.specs.Disk.{BlockState}
use Rattle.sd_base.specs.Faults.{IsStopOf, OnStop, StaysLive}
use Rattle.sd_base.specs.Shape.{first_page}
use Rattle.sd_base.specs.declared.fault.DevFault.{DevFault}
use Rattle.sd_base.specs.declared.fault.DevFault.TheVariants.{Damaged, Failed, Lost, Stopped}
use Rattle.sd_base.specs.declared.names.PageNo.{PageNo}
use Rattle.sd_base.specs.declared.shape.Shape.{Shape}
use Rattle.state_ids.specs.Blocks.{HoldsPage, IsPageFault, IsToldOfPage, UnlessStopped, page_place}
use Rattle.node_cache.specs.Cache.{CacheState, IsOfStore, IsTiedToLog, is_cached}
use Rattle.node_cache.specs.Room.{leaving}
use Rattle.node_cache.specs.Writes.{KeepsContentsButPages}
use Rattle.node_cache.proofs.Arriving.{none_is}
use Rattle.node_cache.proofs.Leaving.{all_left}
use Rattle.node_cache.proofs.PageWrites.{one_place}
use Rattle.node_cache.proofs.RoomLaws.{same_content}
use Rattle.store_nodes.specs.Causes.{IsFaultOfPage, IsToldOfPages}
use Rattle.store_nodes.specs.Ports.{reply_to, says_stop}

-- ---- a page that couldn't be taken

-- the reply to the fault of a page's block names the page, or the block
pub fault_says : (s : Shape) (x : PageNo) (port : ℕ) (f : DevFault) → IsPageFault s x port f → IsFaultOfPage s port x (reply_to (first_page s) f)
fault_says s x port (Stopped n) is = is
fault_says s x port (Failed n) is = is
fault_says s x port (Lost at) is =
    let low : nat_le (first_page s) at.0 ≡ true = grind (arith, nat_tests, is) in
    let number : at.0 - first_page s ≡ x.0 = omega (arith, is) in
    rw low (ap (λ n. record { 0 = n }) number)
fault_says s x port (Damaged at) is = is

-- and what is told of the block is told of it in the reply, where the block holds what it did then
pub told_says : (s : Shape) (x : PageNo) (port : ℕ) (f : DevFault) (old new : ℕ → Option (List ℕ)) → IsPageFault s x port f → IsToldOfPage s x (old (page_place s x)) f → UnlessStopped f (new (page_place s x) ≡ old (page_place s x)) → IsToldOfPages s new (reply_to (first_page s) f)
told_says s x port (Stopped n) old new is told same = tt
told_says s x port (Failed n) old new is told same = tt
told_says s x port (Lost at) old new is told same =
    let low : nat_le (first_page s) at.0 ≡ true = grind (arith, nat_tests, is) in
    let place : first_page s + (at.0 - first_page s) ≡ page_place s x = omega (arith, is) in
    rw low (ap new place ∙ same ∙ told)
told_says s x port (Damaged at) old new is told same =
    let here : new at.0 ≡ old (page_place s x) = ap new is ∙ same in (
      λ none. told.0 (sym here ∙ none),
      λ y held at_y holds.
          let one_page : y ≡ x = one_place s y x (sym at_y ∙ is) in
          told.1 held (subst (λ z. HoldsPage s z held (old (page_place s x))) one_page (subst (HoldsPage s y held) here holds)),
    )

-- what holds of the devices unless the port stopped, behind a call and what follows it
stays_then : (T : Type 0) {P Q R : Type 0} (f : DevFault) → StaysLive {T = T} (Err f) P → UnlessStopped f Q → (P → Q → R) → UnlessStopped f R
stays_then T (Stopped n) live kept follows = tt
stays_then T (Failed n) live kept follows = tt
stays_then T (Lost at) live kept follows = follows live kept
stays_then T (Damaged at) live kept follows = follows live kept

pub unless_then : (T : Type 0) (P : Type 0) {Q R : Type 0} (r : Result T DevFault) (f : DevFault) → r ≡ Err f → StaysLive r P → UnlessStopped f Q → (P → Q → R) → UnlessStopped f R
unless_then T P r f is live kept follows = stays_then T f (subst (λ k. StaysLive k P) is live) kept follows

-- the block of a page that isn't cached holds what it did, where pages made room for the page
pub block_kept : (s : Shape) (c : CacheState) (x : PageNo) (a b : ℕ → BlockState) → IsOfStore s c → IsTiedToLog c → is_cached x c ≡ false → KeepsContentsButPages s c.log (leaving s x c.pages) a b → (b (page_place s x)).current ≡ (a (page_place s x)).current
block_kept s c x a b store tie new keeps = same_content s c (leaving s x c.pages) x a b store tie (all_left (λ q. q.ticket.page ≢ x) s x c.pages (none_is x c.pages new)) keeps

-- what holds in any case holds unless the port stopped
pub unless : {P : Type 0} (f : DevFault) → P → UnlessStopped f P
unless (Stopped n) p = tt
unless (Failed n) p = tt
unless (Lost at) p = p
unless (Damaged at) p = p

-- where a port stopped, the reply says so
pub stop_says : (n first : ℕ) (f : DevFault) → IsStopOf n f → says_stop (reply_to first f) ≡ true
stop_says n first (Stopped m) is = refl
stop_says n first (Failed m) is = refl
stop_says n first (Lost at) is = absurd is
stop_says n first (Damaged at) is = absurd is

-- a call isn't done and failed
pub never : {T E : Type 0} (r : Result T E) (e : E) → IsOk r → r ≡ Err e → ⊥
never (Ok x) e done failed = cc
never (Err f) e done failed = cc

-- what follows where it didn't stop
pub stays_unless : (f : DevFault) (P Q : Type 0) → StaysLive {T = Unit {0}} (Err f) P → (P → Q) → UnlessStopped f Q
stays_unless (Stopped n) P Q live follows = tt
stays_unless (Failed n) P Q live follows = tt
stays_unless (Lost at) P Q live follows = follows live
stays_unless (Damaged at) P Q live follows = follows live

-- what follows where it did
pub stop_then : (f : DevFault) (P Q : Type 0) → OnStop f P → (P → Q) → OnStop f Q
stop_then (Stopped n) P Q stops follows = follows stops
stop_then (Failed n) P Q stops follows = follows stops
stop_then (Lost at) P Q stops follows = tt
stop_then (Damaged at) P Q stops follows = tt
