-- A node's log has room for one record more in the history, where the node has it.
use Rattle.std.specs.Prelude.{◌≡◌, ◌+◌, ◌≤◌, ◌++◌, ◌∷◌, [], ℕ, Bool, List, Option, length}
use Rattle.std.proofs.Common.{arith, ap, ◌∙◌}
use Rattle.sd_base.specs.Disk.{BlockState}
use Rattle.sd_base.specs.declared.shape.Shape.{Shape}
use Rattle.log_record.specs.declared.record.LogRecord.{LogRecord}
use Rattle.page_owner.specs.declared.owners.Own.{Own}
use Rattle.private_log.specs.Log.{space}
use Rattle.node_cache.specs.Cache.{CacheState}
use Rattle.txn_core.specs.Seats.{SeatsState, owed}
use Rattle.recovery_theory.specs.History.{History}
use Rattle.recovery_theory.specs.Room.{HasRoom, HasRoomFor}
use Rattle.recovery_theory.proofs.RoomTaken.{room_for_one_more}
use Rattle.record_machine.specs.Machine.{Machine}
use Rattle.record_machine.specs.Meaning.{Plain}
use Rattle.record_machine.specs.Recoverable.{Recoverable}
use Rattle.record_machine.proofs.OwedDeeds.{owed_by_deeds}
use Rattle.store_nodes.specs.Nodes.{IsAtWork}
use Rattle.store_nodes.specs.Shows.{ShowsUp}
use Rattle.store_nodes.proofs.Owing.{owed_shown}
use Rattle.store_nodes.proofs.ShownLogged.{length_shown}

module _ (n : ℕ) (s : Shape) (pool : List (Option (List ℕ))) (owners : List Own) (c : CacheState) (seats : SeatsState) (b : ℕ → BlockState) (dirty : ℕ → Bool) (h : History) (p : Plain) (m : Machine) (work : IsAtWork s pool owners n c seats) (shape : m.shape ≡ s) (up : ShowsUp s pool n c seats b p m) (r : Recoverable dirty h p m) where
  -- so many records more than are owed
  pub room_shown : (need : ℕ) → owed seats + need ≤ space c.log → HasRoomFor need h.devices n (h.live n)
  room_shown need room =
      let owes = owed_by_deeds dirty h p m n r in
      let owing = owed_shown n s pool c seats b p m work.eight up in
      let long = length_shown n s pool c seats b p m up in
      let live : length (h.live n) ≡ length (p.live n) = ap length (r.live n) in
      let first = r.first n in
      let start = up.start in
      let ring : h.devices.shape.ring ≡ s.ring = ap (λ (z : Shape). z.ring) (r.shape ∙ shape) in
      let log_ring : c.log.shape.ring ≡ s.ring = ap (λ (z : Shape). z.ring) work.store.shape in
      record { room = omega (arith, owes, owing, long, live, room, ring, log_ring); last = omega (arith, owes, owing, long, live, room, first, start) }

  pub room_for_record : (rec : LogRecord) → owed seats + 2 ≤ space c.log → HasRoom h.devices n (h.live n ++ rec ∷ [])
  room_for_record rec room = room_for_one_more h.devices n (h.live n) rec (room_shown 2 room)
