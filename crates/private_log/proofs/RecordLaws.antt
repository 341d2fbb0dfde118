-- Where the records of a log are.
use Rattle.std.proofs.Common.{◌≡◌, ◌≢◌, ◌≤◌, ◌<◌, ◌+◌, ◌-◌, ◌*◌, ◌/◌, ◌%◌, ℕ, [], List, Some, None, Err, length, take, get_or, min, inl, inr, sym, ◌∙◌, ap, arith, subst}
use Rattle.std.proofs.lemmas.List.{length-take, length-take-le}
use Rattle.sd_base.specs.Disk.{BlockState}
use Rattle.sd_base.specs.Faults.{IsStopOf, IsReadFault, ReadsBlock}
use Rattle.sd_base.specs.declared.fault.DevFault.{DevFault}
use Rattle.sd_base.specs.declared.fault.DevFault.TheVariants.{Stopped, Failed, Lost, Damaged}
use Rattle.private_log.specs.LogBlock.{log_block, FitsBlock, six}
use Rattle.private_log.specs.Content.{place}
use Rattle.private_log.specs.Spread.{FitsLog}
use Rattle.private_log.specs.Reading.{contents, ReadsLog}
use Rattle.private_log.specs.Log.{LogState, region, IsLogOn}
use Rattle.private_log.proofs.Sixes.{in_six, six-take, length-six, AreRecords-six}

-- the block of a record
pub record HasRecord (l : LogState) (xs : List (List ℕ)) (r : ℕ) (records : List (List ℕ)) : Type 0 where
  pub fits : FitsBlock (r / 6) records
  pub within : r % 6 < length records
  pub is : get_or records (r % 6) [] ≡ get_or xs (r - 6 * l.start) []

has_record : (l : LogState) (xs : List (List ℕ)) (r k : ℕ) → FitsLog (region l) l.start xs → l.start + k ≡ r / 6 → r < 6 * l.start + length xs → HasRecord l xs r (six k xs)
has_record l xs r k f here below =
    let len : length (six k xs) ≡ min 6 (length xs - 6 * k) = length-six k xs in
    let i : ℕ = r - 6 * l.start in
    let block : i / 6 ≡ k = omega arith in
    let at : i % 6 ≡ r % 6 = omega arith in
    record {
      fits = record { some = omega arith; most = omega arith; texts = AreRecords-six k xs f.texts; below = omega (arith, f.last) };
      within = omega arith;
      is = ap (λ n. get_or (six k xs) n []) (sym at) ∙ (ap (λ n. get_or (six n xs) (i % 6) []) (sym block) ∙ in_six i xs []);
    }

-- a record of the last block, which isn't full, is in memory
in_memory : (l : LogState) (b : ℕ → BlockState) (xs : List (List ℕ)) (r : ℕ) → 6 * l.start ≤ r → r < l.tail → r / 6 ≡ l.tail / 6 → IsLogOn l b xs
    → (records : List (List ℕ)) × HasRecord l xs r records × (l.block ≡ log_block l.node.0 (r / 6) records)
in_memory l b xs r from below last (inl h) = absurd (omega (arith, h.1, h.2.tail))
in_memory l b xs r from below last (inr h) =
    let k = h.0 in
    let here : l.start + k.last ≡ r / 6 = omega (arith, k.tail, k.some, h.1) in
    (six k.last xs, has_record l xs r k.last k.fits here (omega (arith, k.tail)), k.block ∙ ap (λ n. log_block l.node.0 n (six k.last xs)) here)

-- each other one is on the device
on_device : (l : LogState) (b : ℕ → BlockState) (xs : List (List ℕ)) (r : ℕ) → 6 * l.start ≤ r → r < l.tail → r / 6 ≢ l.tail / 6 → IsLogOn l b xs
    → (records : List (List ℕ)) × HasRecord l xs r records × ((b (place (region l) (r / 6))).current ≡ Some (log_block l.node.0 (r / 6) records))
on_device l b xs r from below other (inl h) =
    let w = h.2 in
    let k : ℕ = r / 6 - l.start in
    let here : l.start + k ≡ r / 6 = omega arith in
    let inside : 6 * k < length xs = omega (arith, w.tail) in
    let shows = w.spread.ring.current k (omega (arith, w.spread.ring.fits.room)) in (
      six k xs,
      has_record l xs r k w.spread.ring.fits here (omega (arith, w.tail)),
      subst (λ n. (b (place (region l) n)).current ≡ Some (log_block l.node.0 n (six k xs))) here (shows.there inside),
    )
on_device l b xs r from below other (inr h) =
    let m = h.0 in
    let k : ℕ = r / 6 - l.start in
    let here : l.start + k ≡ r / 6 = omega arith in
    let before : 6 * k + 6 ≤ 6 * m.last = omega (arith, m.tail, m.some, h.1) in
    let high : m.count ≤ length xs = omega (arith, m.some, m.count_is, m.spread.ring.low, length-take m.count xs) in
    let long : length (take m.count xs) ≡ m.count = length-take-le m.count xs high in
    let shows = m.spread.ring.current k (omega (arith, m.fits.room, m.some)) in (
      six k xs,
      has_record l xs r k m.fits here (omega (arith, m.tail)),
      subst (λ n. (b (place (region l) n)).current ≡ Some (log_block l.node.0 n (six k xs))) here
          (shows.there (omega (arith, m.count_is)) ∙ ap (λ (r : List (List ℕ)). Some (log_block l.node.0 (l.start + k) r)) (six-take k m.count xs (omega (arith, m.count_is)))),
    )

-- Where the block of a record is: in memory, or on the device.
pub record FindsRecord (l : LogState) (b : ℕ → BlockState) (xs : List (List ℕ)) (r : ℕ) : Type 0 where
  pub memory : r / 6 ≡ l.tail / 6 → (records : List (List ℕ)) × HasRecord l xs r records × (l.block ≡ log_block l.node.0 (r / 6) records)
  pub device : r / 6 ≢ l.tail / 6 → (records : List (List ℕ)) × HasRecord l xs r records × ((b (place (region l) (r / 6))).current ≡ Some (log_block l.node.0 (r / 6) records))

pub on_finds : (l : LogState) (b : ℕ → BlockState) (xs : List (List ℕ)) (r : ℕ) → 6 * l.start ≤ r → r < l.tail → IsLogOn l b xs → FindsRecord l b xs r
on_finds l b xs r from below on = record {
  memory = λ last. in_memory l b xs r from below last on;
  device = λ other. on_device l b xs r from below other on;
}

-- the same of a log that was read
pub read_finds : (l : LogState) (b : ℕ → BlockState) (r : ℕ) → 6 * l.start ≤ r → r < l.tail → (w : ReadsLog (region l) (contents b) l.start l.tail l.block) → FindsRecord l b w.records r
read_finds l b r from below w =
    let xs : List (List ℕ) = w.records in
    let k : ℕ = r / 6 - l.start in
    let here : l.start + k ≡ r / 6 = omega arith in
    let fits : FitsLog (region l) l.start xs = record { number = w.content.number; texts = w.content.texts; room = w.content.room; last = w.content.last } in
    let has : HasRecord l xs r (six k xs) = has_record l xs r k fits here (omega (arith, w.tail_is)) in
    record {
      memory = λ last. (six k xs, has, w.last k (omega (arith, w.tail_is)) (omega (arith, w.tail_is)) ∙ ap (λ n. log_block l.node.0 n (six k xs)) here);
      device = λ other. (six k xs, has, subst (λ n. contents b (place (region l) n) ≡ Some (log_block l.node.0 n (six k xs))) here (w.content.blocks k (omega (arith, w.tail_is))));
    }

-- a block that has a content isn't lost
pub not_lost : (fault : DevFault) (port at : ℕ) (out content : List ℕ) (old new : ℕ → BlockState) → IsReadFault port at fault → ReadsBlock {T = Unit {0}} (Err fault) port at out old new → (old at).current ≡ Some content → IsStopOf port fault
not_lost (Stopped n) port at out content old new is reads held = is
not_lost (Failed n) port at out content old new is reads held = is
not_lost (Lost b) port at out content old new is reads held = (let x : None ≡ Some content = sym reads.0 ∙ held in cc)
not_lost (Damaged b) port at out content old new is reads held = is
