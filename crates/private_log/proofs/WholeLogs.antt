-- A log of which all records are stable, and its device.
use Rattle.std.proofs.Common.{◌≡◌, ◌+◌, ◌*◌, ℕ, List, Option, length, take, inl, inr, sym, ◌∙◌, arith, subst}
use Rattle.std.proofs.lemmas.List.{take_all}
use Rattle.sd_base.specs.Disk.{BlockState, MayHold, IsLawful}
use Rattle.private_log.specs.Content.{Region, place}
use Rattle.private_log.specs.Spread.{ShowsBlock, ShowsCut, AreCuts, IsSpread, IsCutLog, NarrowsRegion}
use Rattle.private_log.specs.Log.{LogState, region, IsLogOn}
use Rattle.private_log.proofs.SpreadLaws.{at_place, at_anchor}
use Rattle.private_log.proofs.LogLaws.{on_tail}

-- a front that has all records shows all
all_shown : (g : Region) (start k : ℕ) (xs : List (List ℕ)) (o : Option (List ℕ)) → ShowsCut g start (length xs) xs k o → ShowsBlock g start xs k o
all_shown g start k xs o c =
    let P : List (List ℕ) → Type 0 = λ ys. ShowsBlock g start ys k o in
    subst P (take_all c.count xs c.low) c.shows

-- where all records are sure, the content of a block is one of its outcomes and so shows them too
whole_spread : (g : Region) (start : ℕ) (b c : ℕ → BlockState) (xs : List (List ℕ)) → ((k : ℕ) → IsLawful c k) → NarrowsRegion g b c → IsSpread g start (length xs) b xs → IsSpread g start (length xs) c xs
whole_spread g start b c xs law narrows s =
    let cuts : AreCuts g start (length xs) c xs = λ k lt o may. s.ring.blocks k lt o (at_place g (λ j. MayHold c j o → MayHold b j o) (start + k) (omega arith) (λ i le. narrows i o le) may) in
    record {
      anchor = λ o may. s.anchor o (at_anchor g (λ j. MayHold c j o → MayHold b j o) (λ i le. narrows i o le) may);
      ring = record {
        fits = s.ring.fits;
        low = s.ring.low;
        near = s.ring.near;
        blocks = cuts;
        current = λ k lt. all_shown g start k xs _ (cuts k lt _ (law (place g (start + k))).current);
      };
    }

-- all records of such a log are sure
all_sure : (l : LogState) (b : ℕ → BlockState) (xs : List (List ℕ)) → l.stable ≡ l.tail → IsLogOn l b xs → IsSpread (region l) l.start (length xs) b xs
all_sure l b xs whole (inl h) =
    let e : h.2.sure ≡ length xs = omega (arith, h.2.tail, h.2.stable) in
    subst (λ n. IsSpread (region l) l.start n b xs) e h.2.spread
all_sure l b xs whole (inr h) =
    let k = h.0 in
    let e : k.sure ≡ length xs = omega (arith, k.tail, k.stable) in
    let all : take k.count xs ≡ xs = take_all k.count xs (omega (arith, k.count_is)) in
    subst (λ n. IsSpread (region l) l.start n b xs) e (subst (λ ys. IsSpread (region l) l.start k.sure b ys) all k.spread)

pub whole_on : (l : LogState) (b c : ℕ → BlockState) (xs : List (List ℕ)) → ((k : ℕ) → IsLawful c k) → NarrowsRegion (region l) b c → l.stable ≡ l.tail → IsLogOn l b xs → IsLogOn l c xs
whole_on l b c xs law narrows whole (inl h) =
    inl (h.0, h.1, record { sure = length xs; tail = h.2.tail; stable = whole ∙ h.2.tail; spread = whole_spread (region l) l.start b c xs law narrows (all_sure l b xs whole (inl h)) })
whole_on l b c xs law narrows whole (inr h) =
    let k = h.0 in
    inr (
      record {
        sure = length xs;
        last = k.last;
        count = length xs;
        some = k.some;
        most = k.most;
        tail = k.tail;
        stable = whole ∙ k.tail;
        fits = k.fits;
        block = k.block;
        count_is = omega (arith, k.some);
        spread = subst (λ ys. IsSpread (region l) l.start (length xs) c ys) (sym (take_all (length xs) xs (omega arith))) (whole_spread (region l) l.start b c xs law narrows (all_sure l b xs whole (inr h)));
      },
      h.1,
    )

-- no stop leaves less than all of it
pub whole_cut : (l : LogState) (b : ℕ → BlockState) (xs : List (List ℕ)) → l.stable ≡ l.tail → IsLogOn l b xs → IsCutLog (region l) l.start l.tail b xs
whole_cut l b xs whole on =
    let tail : l.tail ≡ 6 * l.start + length xs = on_tail l b xs on in
    record {
      count = length xs;
      low = omega arith;
      high = omega arith;
      log = subst (λ ys. IsSpread (region l) l.start (length xs) b ys) (sym (take_all (length xs) xs (omega arith))) (all_sure l b xs whole on);
    }
