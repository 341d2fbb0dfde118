-- A log whose start its owner moves.
use Rattle.std.proofs.Common.{◌≡◌, ◌⊎◌, ◌≤◌, ◌<◌, ◌+◌, ◌-◌, ◌*◌, ◌%◌, ℕ, false, List, length, take, drop, inl, inr, sym, ◌∙◌, ap, arith, subst}
use Rattle.std.proofs.lemmas.List.{length-take, length-take-le, length-drop, drop-take, take_all}
use Rattle.sd_base.specs.Disk.{BlockState, IsLawful}
use Rattle.sd_base.specs.Calls.{NarrowsBut, Writes, Covers}
use Rattle.sd_base.specs.Anchors.{anchor_text}
use Rattle.private_log.specs.LogBlock.{log_block, six}
use Rattle.private_log.specs.Spread.{FitsLog, IsSpread, IsCutLog, IsFreeRegion, IsStill}
use Rattle.private_log.specs.Log.{LogState, region, written, IsWritten, IsLoaded, IsLogOn}
use Rattle.private_log.proofs.Sixes.{six-drop}
use Rattle.private_log.proofs.LogLaws.{front_log}
use Rattle.private_log.proofs.Moves.{FitsLog-drop, moved_or_not, moved_log}

-- What is written of a log, and how much of it is sure.
record Written (l : LogState) (b : ℕ → BlockState) (xs : List (List ℕ)) : Type 0 where
  sure : ℕ
  count : ℕ
  stable : l.stable ≡ 6 * l.start + sure
  tail : l.tail ≡ 6 * l.start + length xs
  high : count ≤ length xs
  spread : IsSpread (region l) l.start sure b (take count xs)

written_of : (l : LogState) (b : ℕ → BlockState) (xs : List (List ℕ)) → IsLogOn l b xs → Written l b xs
written_of l b xs (inl h) = record {
  sure = h.2.sure;
  count = length xs;
  stable = h.2.stable;
  tail = h.2.tail;
  high = omega arith;
  spread = subst (λ ys. IsSpread (region l) l.start h.2.sure b ys) (sym (take_all (length xs) xs (omega arith))) h.2.spread;
}
written_of l b xs (inr h) = record {
  sure = h.0.sure;
  count = h.0.count;
  stable = h.0.stable;
  tail = h.0.tail;
  high = omega (arith, h.0.some, h.0.count_is, h.0.spread.ring.low, length-take h.0.count xs);
  spread = h.0.spread;
}

-- the records behind the first ones, of a front
drop_front : (d n : ℕ) (xs : List (List ℕ)) → d ≤ n → drop d (take n xs) ≡ take (n - d) (drop d xs)
drop_front d n xs le =
    let e : n ≡ d + (n - d) = omega arith in
    ap (λ m. drop d (take m xs)) e ∙ drop-take d (n - d) xs

-- a stop while the anchor was written
pub cut_move : (l : LogState) (to : ℕ) (b c : ℕ → BlockState) (xs : List (List ℕ)) → ((k : ℕ) → IsLawful c k) → l.start ≤ to → 6 * to ≤ l.stable → NarrowsBut (region l).anchor (anchor_text false l.node.0 to) b c → IsStill (region l) c → IsLogOn l b xs
    → IsCutLog (region l) l.start l.stable c xs ⊎ IsCutLog (region l) to l.stable c (drop (6 * (to - l.start)) xs)
cut_move l to b c xs law from stable narrows still on =
    let w = written_of l b xs on in
    let d : ℕ = to - l.start in
    let is : l.start + d ≡ to = omega arith in
    let low : w.sure ≤ w.count = omega (arith, w.spread.ring.low, length-take-le w.count xs w.high) in
    let le : 6 * d ≤ w.sure = omega (arith, w.stable) in
    let len : length (drop (6 * d) xs) ≡ length xs - 6 * d = length-drop (6 * d) xs in
    elim (moved_or_not (region l) l.start w.sure d b c (take w.count xs) law le (subst (λ n. NarrowsBut (region l).anchor (anchor_text false l.node.0 n) b c) (sym is) narrows) still w.spread) [
      | inl old ↦ inl (subst (λ n. IsCutLog (region l) l.start n c xs) (sym w.stable) (front_log (region l) l.start (6 * l.start + w.sure) w.count c xs w.high old))
      | inr new ↦
          let moved : IsCutLog (region l) to l.stable c (take (w.count - 6 * d) (drop (6 * d) xs)) =
          subst (λ ys. IsCutLog (region l) to l.stable c ys) (drop_front (6 * d) w.count xs (omega arith))
          (subst (λ n. IsCutLog (region l) to n c (drop (6 * d) (take w.count xs))) (sym w.stable)
          (subst (λ n. IsCutLog (region l) n (6 * l.start + w.sure) c (drop (6 * d) (take w.count xs))) is new)) in
          inr (front_log (region l) to l.stable (w.count - 6 * d) c (drop (6 * d) xs) (omega (arith, w.high)) moved)
    ]

-- The log after its anchor was written and covered.
module _ (l : LogState) (n to : ℕ) (a b c : ℕ → BlockState) (xs : List (List ℕ)) (from : l.start ≤ to) (stable : 6 * to ≤ l.stable) (free : IsFreeRegion (region l) n b)
    (narrows : NarrowsBut (region l).anchor (anchor_text false l.node.0 to) a b) (writes : Writes n (region l).anchor (anchor_text false l.node.0 to) a b) (covers : Covers n b c) where
  abbrev d : ℕ
  d = to - l.start

  abbrev m : LogState
  m = record l { start = to; stable = written l }

  -- what is written of it
  spread_moved : (sure : ℕ) (ys : List (List ℕ)) → 6 * d ≤ sure → IsSpread (region l) l.start sure a ys → IsSpread (region l) to (length ys - 6 * d) c (drop (6 * d) ys)
  spread_moved sure ys le s =
      let is : to ≡ l.start + d = omega (arith, from) in
      subst (λ k. IsSpread (region l) k (length ys - 6 * d) c (drop (6 * d) ys)) (sym is)
      (moved_log (region l) n l.start sure d a b c ys le free (subst (λ k. NarrowsBut (region l).anchor (anchor_text false l.node.0 k) a b) is narrows)
      (subst (λ k. Writes n (region l).anchor (anchor_text false l.node.0 k) a b) is writes) covers s)

  moved_written : IsWritten l a xs → l.tail % 6 ≡ 0 → IsWritten m c (drop (6 * d) xs)
  moved_written w full =
      let len : length (drop (6 * d) xs) ≡ length xs - 6 * d = length-drop (6 * d) xs in
      let low : w.sure ≤ length xs = w.spread.ring.low in
      record {
        sure = length xs - 6 * d;
        tail = omega (arith, w.tail, w.stable);
        stable = omega (arith, w.tail, w.stable);
        spread = spread_moved w.sure xs (omega (arith, w.stable)) w.spread;
      }

  moved_loaded : (h : IsLoaded l a xs) → length xs < 6 * h.last + 6 → (k : IsLoaded m c (drop (6 * d) xs)) × (length (drop (6 * d) xs) < 6 * k.last + 6)
  moved_loaded h open' =
      let len : length (drop (6 * d) xs) ≡ length xs - 6 * d = length-drop (6 * d) xs in
      let high : h.count ≤ length xs = omega (arith, h.some, h.count_is, h.spread.ring.low, length-take h.count xs) in
      let long : length (take h.count xs) ≡ h.count = length-take-le h.count xs high in
      let le : 6 * d ≤ h.sure = omega (arith, h.stable) in
      let block : l.start + h.last ≡ to + (h.last - d) = omega (arith, from, h.count_is, open') in
      let texts : six h.last xs ≡ six (h.last - d) (drop (6 * d) xs) =
      (let e : h.last ≡ d + (h.last - d) = omega (arith, h.count_is, open') in ap (λ k. six k xs) e ∙ sym (six-drop (h.last - d) d xs)) in (
        record {
          sure = h.count - 6 * d;
          last = h.last - d;
          count = h.count - 6 * d;
          some = omega (arith, h.some, h.count_is);
          most = omega (arith, h.most, h.count_is);
          tail = omega (arith, h.tail, h.count_is);
          stable = omega (arith, h.tail, h.stable, h.count_is, h.some, open');
          fits = subst (λ k. FitsLog (region l) k (drop (6 * d) xs)) (omega arith) (FitsLog-drop (region l) l.start d xs (omega (arith, h.count_is)) h.fits);
          block = h.block ∙ (ap (λ k. log_block l.node.0 k (six h.last xs)) block ∙ ap (log_block l.node.0 (to + (h.last - d))) texts);
          count_is = omega (arith, h.count_is, open');
          spread = subst (λ k. IsSpread (region l) to (k - 6 * d) c (take (h.count - 6 * d) (drop (6 * d) xs))) long
              (subst (λ ys. IsSpread (region l) to (length (take h.count xs) - 6 * d) c ys) (drop_front (6 * d) h.count xs (omega (arith, h.count_is)))
              (spread_moved h.sure (take h.count xs) le h.spread));
        },
        omega (arith, open', h.count_is),
      )

  pub moved : IsLogOn l a xs → IsLogOn m c (drop (6 * d) xs)
  moved (inl h) =
      let len : length (drop (6 * d) xs) ≡ length xs - 6 * d = length-drop (6 * d) xs in
      inl (h.0 - d, omega (arith, h.1, h.2.tail, h.2.stable, h.2.spread.ring.low), moved_written h.2 (omega (arith, h.1, h.2.tail)))
  moved (inr h) = inr (moved_loaded h.0 h.1)
