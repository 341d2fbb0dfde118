-- A call has stopped with the node that does it.
use Rattle.std.specs.Prelude.{◌≡◌, ℕ, Bool, true, false, All, List, slice_index_or, take}
use Rattle.std.specs.List.{list_any}
use Rattle.std.proofs.Common.{inl, refl, subst, sym, ◌∙◌}
use Rattle.std.proofs.lemmas.List.Folds.{list_any_at}
use Rattle.sd_base.specs.declared.fault.DevFault.{DevFault}
use Rattle.sd_base.specs.declared.fault.DevFault.TheVariants.{Stopped, Failed, Lost, Damaged}
use Rattle.sd_base.specs.Faults.{IsStopOf, OnStop}
use Rattle.record_machine.specs.Led.{Broke, LedErr, is_unlock}
use Rattle.record_machine.specs.Machine.{Machine}
use Rattle.record_machine.specs.Parts.{Part, dos}
use Rattle.store_format.specs.FaultReply.{fault_reply}
use Rattle.store_nodes.specs.Endures.{Stops}
use Rattle.store_nodes.specs.Ports.{reply_to}

-- none of these parts releases locks
pub no_unlock : (ps : List Part) → list_any is_unlock ps ≡ false → All (λ part. is_unlock part ≡ false) ps
no_unlock ps none j d low = by (is_unlock (slice_index_or ps j d)) refl
  where
    by : (b : Bool) → is_unlock (slice_index_or ps j d) ≡ b → is_unlock (slice_index_or ps j d) ≡ false
    by false was = was
    by true was = let some : list_any is_unlock ps ≡ true = list_any_at is_unlock ps j d low was in let never : true ≡ false = sym some ∙ none in absurd cc

-- its node stopped behind so many of the parts
pub broke_here : (n : ℕ) (ps : List Part) (count : ℕ) (m : Machine) (S : Machine → Type 0) → All (λ part. is_unlock part ≡ false) (take count ps) → Stops n (dos (take count ps) m) S → Broke n n ps m S
broke_here n ps count m S locked s = record { count = count; locked = locked; port = inl refl; kept = s.kept; within = s.within; shows = s.shows }

-- and the reply to the fault of its port says so
pub led_fault : (n first : ℕ) (fault : DevFault) (ps : List Part) (m : Machine) (S : Machine → Type 0) → IsStopOf n fault → Broke n n ps m S → LedErr n (reply_to first fault) ps m S
led_fault n first (Stopped h) ps m S is broke = subst (λ k. Broke n k ps m S) (sym is) broke
led_fault n first (Failed h) ps m S is broke = subst (λ k. Broke n k ps m S) (sym is) broke
led_fault n first (Lost at) ps m S is broke = absurd is
led_fault n first (Damaged at) ps m S is broke = absurd is

-- also where a block that is no page was read
pub led_read : (n : ℕ) (fault : DevFault) (ps : List Part) (m : Machine) (S : Machine → Type 0) → IsStopOf n fault → Broke n n ps m S → LedErr n (fault_reply fault) ps m S
led_read n (Stopped h) ps m S is broke = subst (λ k. Broke n k ps m S) (sym is) broke
led_read n (Failed h) ps m S is broke = subst (λ k. Broke n k ps m S) (sym is) broke
led_read n (Lost at) ps m S is broke = absurd is
led_read n (Damaged at) ps m S is broke = absurd is

-- what holds on a stop holds of it
pub of_stop : (n : ℕ) (fault : DevFault) (P : Type 0) → IsStopOf n fault → OnStop fault P → P
of_stop n (Stopped h) P is was = was
of_stop n (Failed h) P is was = was
of_stop n (Lost at) P is was = absurd is
of_stop n (Damaged at) P is was = absurd is

-- what holds in any case holds on a stop
pub on_stop : (fault : DevFault) (P : Type 0) → P → OnStop fault P
on_stop (Stopped h) P was = was
on_stop (Failed h) P was = was
on_stop (Lost at) P was = tt
on_stop (Damaged at) P was = tt
