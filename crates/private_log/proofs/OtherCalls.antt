-- A log through calls of its device that aren't its own.
use Rattle.std.proofs.Common.{◌≡◌, ◌≢◌, ◌≤◌, ◌+◌, ◌*◌, ℕ, true, List, Some, None, take, inl, inr, sym, ◌∙◌, ap, arith, subst}
use Rattle.std.proofs.lemmas.List.{length-take}
use Rattle.sd_base.specs.Disk.{BlockState, IsFreeFor, IsLawful}
use Rattle.sd_base.specs.Calls.{KeepsForeignBut}
use Rattle.sd_base.specs.Outcomes.{among}
use Rattle.private_log.specs.Content.{Region, HoldsFront}
use Rattle.private_log.specs.Spread.{IsCutLog, IsFreeRegion, IsStill, NarrowsRegion, KeepsRegion}
use Rattle.private_log.specs.Reading.{contents, IsInRegion}
use Rattle.private_log.specs.Log.{LogState, region, IsLogOn}
use Rattle.private_log.proofs.SpreadLaws.{narrowed_log, stilled_log}
use Rattle.private_log.proofs.LogLaws.{front_log}
use Rattle.private_log.proofs.Outcomes.{cut_outcome}

pub on_narrowed : (l : LogState) (b c : ℕ → BlockState) (xs : List (List ℕ)) → NarrowsRegion (region l) b c → KeepsRegion (region l) b c → IsLogOn l b xs → IsLogOn l c xs
on_narrowed l b c xs narrows keeps (inl h) =
    inl (h.0, h.1, record { sure = h.2.sure; tail = h.2.tail; stable = h.2.stable; spread = narrowed_log (region l) l.start h.2.sure b c xs narrows keeps h.2.spread })
on_narrowed l b c xs narrows keeps (inr h) =
    let k = h.0 in
    inr (
      record {
        sure = k.sure;
        last = k.last;
        count = k.count;
        some = k.some;
        most = k.most;
        tail = k.tail;
        stable = k.stable;
        fits = k.fits;
        block = k.block;
        count_is = k.count_is;
        spread = narrowed_log (region l) l.start k.sure b c (take k.count xs) narrows keeps k.spread;
      },
      h.1,
    )

pub on_stilled : (l : LogState) (b c : ℕ → BlockState) (xs : List (List ℕ)) → ((k : ℕ) → IsLawful c k) → NarrowsRegion (region l) b c → IsStill (region l) c → IsLogOn l b xs → IsCutLog (region l) l.start l.stable c xs
on_stilled l b c xs law narrows still (inl h) =
    subst (λ n. IsCutLog (region l) l.start n c xs) (sym h.2.stable) (stilled_log (region l) l.start h.2.sure b c xs law narrows still h.2.spread)
on_stilled l b c xs law narrows still (inr h) =
    let k = h.0 in
    subst (λ n. IsCutLog (region l) l.start n c xs) (sym k.stable)
    (front_log (region l) l.start (6 * l.start + k.sure) k.count c xs (omega (arith, k.some, k.count_is, k.spread.ring.low, length-take k.count xs))
    (stilled_log (region l) l.start k.sure b c (take k.count xs) law narrows still k.spread))

pub cut_narrowed : (g : Region) (start stable : ℕ) (b c : ℕ → BlockState) (xs : List (List ℕ)) → NarrowsRegion g b c → KeepsRegion g b c → IsCutLog g start stable b xs → IsCutLog g start stable c xs
cut_narrowed g start stable b c xs narrows keeps k =
    record { count = k.count; low = k.low; high = k.high; log = narrowed_log g start k.count b c (take k.count xs) narrows keeps k.log }

-- what stands in the blocks is a front
pub cut_contents : (g : Region) (start stable : ℕ) (b : ℕ → BlockState) (xs : List (List ℕ)) → ((k : ℕ) → IsLawful b k) → IsCutLog g start stable b xs → HoldsFront g start stable xs (contents b)
cut_contents g start stable b xs law k = cut_outcome g start stable b xs (contents b) k (λ j. (law j).current)

-- A call of port n leaves the region of another port as it was.
module _ (g : Region) (n m at : ℕ) (b c : ℕ → BlockState) (other : n ≢ m) (free : IsFreeRegion g m b) (outside : ¬ (IsInRegion g at)) (foreign : KeepsForeignBut at n b c) where
  not_written : (i : ℕ) → i ≤ g.ring → (b (g.anchor + i)).writer ≢ Some n
  not_written i le e = elim (free i le) [
    | inl theirs ↦ let both : Some n ≡ Some m = sym e ∙ theirs in other cc
    | inr none ↦ let both : None ≡ Some n = sym none ∙ e in cc
  ]

  same_block : (i : ℕ) → i ≤ g.ring → c (g.anchor + i) ≡ b (g.anchor + i)
  same_block i le = foreign (g.anchor + i) (λ e. outside (omega (arith, e), omega (arith, e))) (not_written i le)

  pub foreign_narrows : NarrowsRegion g b c
  foreign_narrows i o le may =
      let P : BlockState → Type 0 = λ x. among x.outcomes o ≡ true in
      subst P (same_block i le) may

  pub foreign_keeps : KeepsRegion g b c
  foreign_keeps i le = ap (λ (x : BlockState). x.current) (same_block i le)

  pub foreign_free : IsFreeRegion g m c
  foreign_free i le = subst (λ (x : BlockState). IsFreeFor m x) (sym (same_block i le)) (free i le)
