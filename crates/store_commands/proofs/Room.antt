-- How many more records the log of a node has room for is what the machine says.
use Rattle.std.specs.Prelude.{◌≡◌, ◌-◌, ◌*◌, ◌^◌, ℕ, List, Option, length, min}
use Rattle.std.proofs.Common.{ap, sym, ◌∙◌}
use Rattle.sd_base.specs.Disk.{BlockState}
use Rattle.sd_base.specs.declared.shape.Shape.{Shape}
use Rattle.private_log.specs.Log.{space}
use Rattle.node_cache.specs.Cache.{CacheState}
use Rattle.txn_core.specs.Seats.{SeatsState, owed}
use Rattle.record_machine.specs.Machine.{Machine, room}
use Rattle.record_machine.specs.Meaning.{AreLogs, Plain}
use Rattle.store_nodes.specs.Shows.{ShowsUp}
use Rattle.store_nodes.proofs.Owing.{owed_shown}
use Rattle.store_nodes.proofs.ShownLogged.{tail_shown}

pub room_shown : (n : ℕ) (s : Shape) (pool : List (Option (List ℕ))) (c : CacheState) (seats : SeatsState) (b : ℕ → BlockState) (p : Plain) (m : Machine) → c.log.shape ≡ s → m.shape ≡ s → length seats.seats ≡ 8 → AreLogs p m → ShowsUp s pool n c seats b p m → room m n ≡ space c.log - owed seats
room_shown n s pool c seats b p m store shape eight logs up =
    let ring : m.shape.ring ≡ c.log.shape.ring = ap (λ t. t.ring) (shape ∙ sym store) in
    ap (λ k. min (6 * k - (m.tail n - 6 * m.start n)) (6 * 2 ^ 56 - m.tail n) - length (m.pending n)) ring
    ∙ ap (λ k. min (6 * c.log.shape.ring - (k - 6 * m.start n)) (6 * 2 ^ 56 - k) - length (m.pending n)) (tail_shown n s pool c seats b p m logs up)
    ∙ ap (λ k. min (6 * c.log.shape.ring - (c.log.tail - 6 * k)) (6 * 2 ^ 56 - c.log.tail) - length (m.pending n)) up.start
    ∙ ap (λ k. space c.log - k) (sym (owed_shown n s pool c seats b p m eight up))
