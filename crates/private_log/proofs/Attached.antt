-- A log that was read, on its device.
use Rattle.std.proofs.Common.{◌≡◌, ◌<◌, ◌+◌, ◌*◌, ◌/◌, ℕ, List, length, inl, inr, sym, ◌∙◌, ap, arith, subst}
use Rattle.std.proofs.lemmas.Bool.{cases_eq}
use Rattle.std.proofs.lemmas.List.{take_all}
use Rattle.sd_base.specs.Disk.{BlockState, IsLawful}
use Rattle.private_log.specs.LogBlock.{log_block, six}
use Rattle.private_log.specs.Content.{LogContent, HasNoFuture}
use Rattle.private_log.specs.Spread.{IsSpread, IsStill}
use Rattle.private_log.specs.Reading.{contents, ReadsLog}
use Rattle.private_log.specs.Log.{LogState, region, IsLogOn}
use Rattle.private_log.proofs.SpreadLaws.{attached_log}
use Rattle.private_log.proofs.OneLog.{one_log}

-- where no block of the region has an uncovered write, and none is still to come, what was read is what the log has
pub read_on : (l : LogState) (b : ℕ → BlockState) (start : ℕ) (xs : List (List ℕ)) → ((k : ℕ) → IsLawful b k) → IsStill (region l) b → LogContent (region l) (contents b) start xs → HasNoFuture (region l) (contents b) start xs
    → l.stable ≡ l.tail → ReadsLog (region l) (contents b) l.start l.tail l.block → IsLogOn l b xs
read_on l b start xs law still content clean stable r =
    let one = one_log (region l) (contents b) start l.start xs r.records content r.content in
    let tail : l.tail ≡ 6 * l.start + length xs = r.tail_is ∙ ap (λ (ys : List (List ℕ)). 6 * l.start + length ys) (sym one.1) in
    let spread : IsSpread (region l) l.start (length xs) b xs = subst (λ n. IsSpread (region l) n (length xs) b xs) one.0 (attached_log (region l) start b xs law still content clean) in
    elim (cases_eq (length xs) (6 * (length xs / 6))) [
      | inl whole ↦ inl (length xs / 6, whole, record { sure = length xs; tail = tail; stable = stable ∙ tail; spread = spread })
      | inr part ↦ inr (
        record {
          sure = length xs;
          last = length xs / 6;
          count = length xs;
          some = omega arith;
          most = omega arith;
          tail = tail;
          stable = stable ∙ tail;
          fits = spread.ring.fits;
          block =
              let P : List (List ℕ) → Type 0 = λ ys. 6 * (length xs / 6) < length ys → length ys < 6 * (length xs / 6) + 6 → l.block ≡ log_block l.node.0 (l.start + length xs / 6) (six (length xs / 6) ys) in
              subst P (sym one.1) (r.last (length xs / 6)) (omega arith) (omega arith);
          count_is = omega arith;
          spread = subst (λ ys. IsSpread (region l) l.start (length xs) b ys) (sym (take_all (length xs) xs (omega arith))) spread;
        },
        omega arith,
      )
    ]
