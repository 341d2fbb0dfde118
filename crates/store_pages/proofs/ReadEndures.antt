-- A store endures a call of a node that only reads: where the node's port stops in it, it may halt.
use Rattle.std.specs.Prelude.{◌≡◌, ◌-◌, ◌∷◌, [], ℕ, Bool, true, false, not, nat_le, All, List, Option, Some, None, Err, if◌then◌else◌, map, refl}
use Rattle.std.proofs.Common.{inl, ap, subst, sym, ◌∙◌}
use Rattle.sd_base.specs.Disk.{BlockState}
use Rattle.sd_base.specs.Calls.{KeepsForeign, Narrows}
use Rattle.sd_base.specs.Faults.{IsStopOf, OnStop}
use Rattle.sd_base.specs.Places.{map_of_data}
use Rattle.sd_base.specs.declared.device.NodeId.{NodeId}
use Rattle.sd_base.specs.declared.fault.DevFault.{DevFault}
use Rattle.sd_base.specs.declared.fault.DevFault.TheVariants.{Stopped, Failed, Lost, Damaged}
use Rattle.sd_base.specs.declared.names.PageNo.{PageNo}
use Rattle.sd_base.specs.declared.shape.Shape.{Shape}
use Rattle.log_record.specs.Legal.{IsLegal}
use Rattle.log_record.specs.Text.{record_text}
use Rattle.log_record.specs.declared.record.LogRecord.{LogRecord}
use Rattle.private_log.specs.Content.{Region}
use Rattle.private_log.specs.Log.{region}
use Rattle.private_log.specs.Reading.{IsLogFault}
use Rattle.private_log.specs.Spread.{IsCutLog, IsStill}
use Rattle.page_owner.specs.declared.owners.Own.{Own}
use Rattle.page_owner.specs.declared.owners.Own.TheVariants.{Nobody, Out, Parked}
use Rattle.page_owner.specs.Owners.{owner_of}
use Rattle.state_ids.specs.Blocks.{IsPageFault}
use Rattle.node_cache.specs.Cache.{CacheState}
use Rattle.txn_core.specs.Seats.{SeatsState}
use Rattle.txn_core.specs.Told.{HasRecords}
use Rattle.script_text.specs.declared.reply.Reply.{Reply}
use Rattle.script_text.specs.declared.reply.Reply.TheVariants as says
use Rattle.record_machine.specs.Commands.{first_of, where_so}
use Rattle.record_machine.specs.Led.{Broke, LedOnStop}
use Rattle.record_machine.specs.Machine.{Machine}
use Rattle.record_machine.specs.Meaning.{Plain}
use Rattle.record_machine.specs.Parts.{Part}
use Rattle.store_nodes.specs.declared.node.Node.TheVariants.{Up}
use Rattle.store_nodes.specs.declared.store.Store.{Store}
use Rattle.store_nodes.specs.Endures.{EnduresAs, MayHaltAs, with_held}
use Rattle.store_nodes.specs.Known.{checked, held_by, held_in}
use Rattle.store_nodes.specs.Nodes.{IsPlace, IsStore, is_up, node_at, with_node}
use Rattle.store_nodes.specs.Ports.{IsQuiet, reply_to}
use Rattle.store_nodes.specs.Shows.{ShowsNode}
use Rattle.store_nodes.specs.Tied.{TiesNode, TiesUp}
use Rattle.store_pages.specs.Holders.{held_both}
use Rattle.store_pages.specs.Updates.{IsLogBlock}
use Rattle.store_nodes.proofs.LoggedEndures.{logged_halts}
use Rattle.store_nodes.proofs.Logs as logs
use Rattle.store_nodes.proofs.Ties.{stable_cut}

-- ---- the reply to a fault

-- where it says that a port stopped, that is the node's
pub page_stop : (s : Shape) (x : PageNo) (n : ℕ) (f : DevFault) → IsPageFault s x n f → OnStop f (IsStopOf n f)
page_stop s x n (Stopped h) is = is
page_stop s x n (Failed h) is = is
page_stop s x n (Lost at) is = tt
page_stop s x n (Damaged at) is = tt

pub log_stop : (g : Region) (n : ℕ) (f : DevFault) → IsLogFault g n f → OnStop f (IsStopOf n f)
log_stop g n (Stopped h) is = is
log_stop g n (Failed h) is = is
log_stop g n (Lost at) is = tt
log_stop g n (Damaged at) is = tt

-- and the call has stopped so
pub led_on_stop : (n first : ℕ) (f : DevFault) (ps : List Part) (m : Machine) (S : Machine → Type 0) → OnStop f (IsStopOf n f) → (IsStopOf n f → Broke n n ps m S) → LedOnStop n (reply_to first f) ps m S
led_on_stop n first (Stopped h) ps m S is broke = subst (λ k. Broke n k ps m S) (sym is) (broke is)
led_on_stop n first (Failed h) ps m S is broke = subst (λ k. Broke n k ps m S) (sym is) (broke is)
led_on_stop n first (Lost at) ps m S is broke = by (nat_le first at.0)
  where
    by : (b : Bool) → LedOnStop n (if b then says.LostPage (record { 0 = at.0 - first }) else says.DamagedDisk at) ps m S
    by true = tt
    by false = tt
led_on_stop n first (Damaged at) ps m S is broke = tt

-- a block of the log that is damaged is no stop
pub block_led : (n : ℕ) (g : Region) (why : Reply) (ps : List Part) (m : Machine) (S : Machine → Type 0) → IsLogBlock g why → LedOnStop n why ps m S
block_led n g (says.DamagedDisk at) ps m S is = tt
block_led n g why ps m S is = absurd is

-- nor is a page that a node has which is down
held_led : (me : Store) (y : PageNo) (why : Reply) (n : ℕ) (ps : List Part) (m : Machine) (S : Machine → Type 0) → held_in me y ≡ Some why → LedOnStop n why ps m S
held_led me y why n ps m S held = by (owner_of me.shared.owners y.0) held
  where
    test : (h : NodeId) (b : Bool) → where_so b (says.Held y h) ≡ Some why → LedOnStop n why ps m S
    test h true is = let same : says.Held y h ≡ why = cc in subst (λ k. LedOnStop n k ps m S) same tt
    test h false is = cc

    by : (own : Own) → held_by me y own ≡ Some why → LedOnStop n why ps m S
    by Nobody is = cc
    by (Parked h) is = test h (not (is_up (node_at me.nodes h.0))) is
    by (Out h) is = test h (not (is_up (node_at me.nodes h.0))) is

pub both_led : (me : Store) (x : PageNo) (why : Reply) (n : ℕ) (ps : List Part) (m : Machine) (S : Machine → Type 0) → checked (held_both me x) ≡ Err why → LedOnStop n why ps m S
both_led me x why n ps m S fails = by (held_in me (map_of_data me.shape x)) (held_in me x) refl refl fails
  where
    by : (o p : Option Reply) → held_in me (map_of_data me.shape x) ≡ o → held_in me x ≡ p → checked (first_of (o ∷ p ∷ [])) ≡ Err why → LedOnStop n why ps m S
    by (Some k) p map page is = let same : k ≡ why = cc in held_led me (map_of_data me.shape x) why n ps m S (map ∙ ap Some same)
    by None (Some k) map page is = let same : k ≡ why = cc in held_led me x why n ps m S (page ∙ ap Some same)
    by None None map page is = cc

-- ---- what it leaves

module _ (me : Store) (n i : ℕ) (c : CacheState) (seats : SeatsState) (is : IsStore me) (place : IsPlace n) (at : i ≡ n - 1) (up : node_at me.nodes n ≡ Up c seats) (b : ℕ → BlockState) (p : Plain) (m : Machine) (e : EnduresAs me b p m) where
  abbrev m1 : Machine
  m1 = with_held e.held m

  mine : ShowsNode me.shape me.shared.pool n (Up c seats) b p m1
  mine = subst (λ o. ShowsNode me.shape me.shared.pool n o b p m1) up (e.nodes.node n place (logs.low me n i c c seats seats is place at up))

  pub log_shown : HasRecords c.log b (p.live n)
  log_shown = mine.1.records

  tied : TiesUp n c seats e.history
  tied = subst (λ o. TiesNode me.shape n o b e.history) up (e.tied.node n place (logs.low me n i c c seats seats is place at up))

  same : e.history.live n ≡ p.live n
  same = e.survives.survives.recoverable.live n

  -- the log has all its records, of which a front is on the disk
  pub read_halts : (b' b'' : ℕ → BlockState) → IsQuiet me b → Narrows b b' → KeepsForeign c.node.0 b b' → Narrows b' b'' → KeepsForeign n b' b'' → IsStill (region c.log) b' → IsCutLog (region c.log) c.log.start c.log.stable b' (map record_text (p.live n))
      → MayHaltAs n (record { shape = me.shape; shared = me.shared; nodes = with_node me.nodes n (Up c seats) }) b'' p m
  read_halts b' b'' quiet narrows foreign settled stops still was =
      let cut : IsCutLog (region c.log) c.log.start c.log.stable b' (map record_text (e.history.live n)) = subst (λ (l : List LogRecord). IsCutLog (region c.log) c.log.start c.log.stable b' (map record_text l)) (sym same) was in
      logged_halts me n i c c seats seats is place at up b b' p p m m e e.history (λ k o may. inl (narrows k o may)) (λ k beside other. foreign k other) quiet refl refl refl (λ x. refl) refl refl
      (λ k k_is far. record { live = refl; mode = refl; start = refl; pending = refl; images = λ q d low. refl; lives = λ q d low. refl }) (λ k far. record { live = refl; stable = refl; first = refl })
      b'' mine.0 settled stops (subst (All IsLegal) (sym same) mine.1.records.legal) cut (stable_cut n c b' e.history _ cut tied.stable) still e.lockers refl e.survives
