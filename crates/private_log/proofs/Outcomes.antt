-- What each settled device holds of a log.
use Rattle.std.proofs.Common.{◌≡◌, ◌≢◌, ◌≤◌, ◌+◌, ◌*◌, ◌/◌, ◌%◌, ℕ, List, Option, length, take, inl, inr, sym, ◌∙◌, arith, subst}
use Rattle.std.proofs.lemmas.List.{length-take, length-take-le, take-take, take_all}
use Rattle.sd_base.specs.Disk.{BlockState, IsOutcome, IsLawful}
use Rattle.sd_base.specs.Calls.{Narrows, KeepsForeign, Settles, Covers}
use Rattle.private_log.specs.Content.{Region, LogContent, HasNoFuture, HoldsFront}
use Rattle.private_log.specs.Spread.{IsSpread, IsCutLog, IsFreeRegion}
use Rattle.private_log.specs.LogBlock.{six}
use Rattle.private_log.specs.Log.{LogState, region, SameLog, IsWritten, IsLoaded, IsLogOn}
use Rattle.private_log.proofs.SpreadLaws.{spread_outcome, stopped_log, covered_log}
use Rattle.private_log.proofs.LogLaws.{carry, less_cut, renamed}

-- a front of a front
front_front : (g : Region) (start stable n : ℕ) (xs : List (List ℕ)) (image : ℕ → Option (List ℕ)) → n ≤ length xs → HoldsFront g start stable (take n xs) image → HoldsFront g start stable xs image
front_front g start stable n xs image le f =
    let len : length (take n xs) ≡ n = length-take-le n xs le in
    let same : take f.count (take n xs) ≡ take f.count xs = take-take f.count n xs (omega (arith, f.high)) in
    record {
      count = f.count;
      low = f.low;
      high = omega (arith, f.high);
      content = subst (λ ys. LogContent g image start ys) same f.content;
      clean = subst (λ ys. HasNoFuture g image start ys) same f.clean;
    }

pub less_front : (g : Region) (start stable less : ℕ) (xs : List (List ℕ)) (image : ℕ → Option (List ℕ)) → less ≤ stable → HoldsFront g start stable xs image → HoldsFront g start less xs image
less_front g start stable less xs image le f = record { count = f.count; low = omega (arith, f.low); high = f.high; content = f.content; clean = f.clean }

-- a front of what a stop has left
pub cut_outcome : (g : Region) (start stable : ℕ) (b : ℕ → BlockState) (xs : List (List ℕ)) (image : ℕ → Option (List ℕ)) → IsCutLog g start stable b xs → IsOutcome b image → HoldsFront g start stable xs image
cut_outcome g start stable b xs image k out =
    front_front g start stable k.count xs image k.high (less_front g start (6 * start + k.count) stable (take k.count xs) image k.low (spread_outcome g start k.count b (take k.count xs) image k.log out))

pub written_outcome : (l : LogState) (b : ℕ → BlockState) (xs : List (List ℕ)) (image : ℕ → Option (List ℕ)) → IsWritten l b xs → IsOutcome b image → HoldsFront (region l) l.start l.stable xs image
written_outcome l b xs image w out =
    subst (λ n. HoldsFront (region l) l.start n xs image) (sym w.stable) (spread_outcome (region l) l.start w.sure b xs image w.spread out)

pub loaded_outcome : (l : LogState) (b : ℕ → BlockState) (xs : List (List ℕ)) (image : ℕ → Option (List ℕ)) → IsLoaded l b xs → IsOutcome b image → HoldsFront (region l) l.start l.stable xs image
loaded_outcome l b xs image h out =
    subst (λ n. HoldsFront (region l) l.start n xs image) (sym h.stable)
    (front_front (region l) l.start (6 * l.start + h.sure) h.count xs image (omega (arith, h.some, h.count_is, h.spread.ring.low, length-take h.count xs))
    (spread_outcome (region l) l.start h.sure b (take h.count xs) image h.spread out))

pub on_outcome : (l : LogState) (b : ℕ → BlockState) (xs : List (List ℕ)) (image : ℕ → Option (List ℕ)) → IsLogOn l b xs → IsOutcome b image → HoldsFront (region l) l.start l.stable xs image
on_outcome l b xs image (inl h) out = written_outcome l b xs image h.2 out
on_outcome l b xs image (inr h) out = loaded_outcome l b xs image h.0 out

-- what holds after a call, in the words from before it
pub on_outcome_since : (l m : LogState) (b : ℕ → BlockState) (xs : List (List ℕ)) (image : ℕ → Option (List ℕ)) → SameLog l m → l.stable ≤ m.stable → IsLogOn m b xs → IsOutcome b image → HoldsFront (region l) l.start l.stable xs image
on_outcome_since l m b xs image s le on out =
    carry m l (λ g start. HoldsFront g start l.stable xs image) (record { shape = sym s.shape; node = sym s.node; start = sym s.start })
    (less_front (region m) m.start m.stable l.stable xs image le (on_outcome m b xs image on out))

pub cut_since : (l m : LogState) (b : ℕ → BlockState) (xs : List (List ℕ)) → SameLog l m → l.stable ≤ m.stable → IsCutLog (region m) m.start m.stable b xs → IsCutLog (region l) l.start l.stable b xs
cut_since l m b xs s le k =
    carry m l (λ g start. IsCutLog g start l.stable b xs) (record { shape = sym s.shape; node = sym s.node; start = sym s.start })
    (less_cut (region m) m.start m.stable l.stable b xs le k)

-- a loaded log whose last block isn't full, and a written one whose last block is
pub loaded_on : (l : LogState) (b : ℕ → BlockState) (xs : List (List ℕ)) → l.tail % 6 ≢ 0 → IsLoaded l b xs → IsLogOn l b xs
loaded_on l b xs open' h = inr (h, omega (arith, h.tail, h.most, open'))

pub written_on : (l : LogState) (b : ℕ → BlockState) (xs : List (List ℕ)) → l.tail % 6 ≡ 0 → IsWritten l b xs → IsLogOn l b xs
written_on l b xs full w = inl (length xs / 6, omega (arith, w.tail), w)

pub on_loaded : (l : LogState) (b : ℕ → BlockState) (xs : List (List ℕ)) → l.tail % 6 ≢ 0 → IsLogOn l b xs → IsLoaded l b xs
on_loaded l b xs open' (inl h) = absurd (open' (omega (arith, h.1, h.2.tail)))
on_loaded l b xs open' (inr h) = h.0

pub on_written : (l : LogState) (b : ℕ → BlockState) (xs : List (List ℕ)) → l.tail % 6 ≡ 0 → IsLogOn l b xs → IsWritten l b xs
on_written l b xs full (inl h) = h.2
on_written l b xs full (inr h) = absurd (omega (arith, h.1, h.0.some, h.0.tail))

-- a call in which the port stopped, but a write of its own
pub written_stopped : (l : LogState) (n : ℕ) (b c : ℕ → BlockState) (xs : List (List ℕ)) → ((k : ℕ) → IsLawful c k) → IsFreeRegion (region l) n b
    → Narrows b c → KeepsForeign n b c → Settles n b c → IsWritten l b xs → IsCutLog (region l) l.start l.stable c xs
written_stopped l n b c xs law free narrows foreign settles w =
    subst (λ k. IsCutLog (region l) l.start k c xs) (sym w.stable) (stopped_log (region l) n l.start w.sure b c xs law free narrows foreign settles w.spread)

-- a barrier that was done where all is written: the log l is as it was before the write of its last block, m after it
pub forced : (l m o : LogState) (n : ℕ) (a b c : ℕ → BlockState) (xs : List (List ℕ)) → SameLog l m → SameLog m o → m.tail ≡ l.tail → m.block ≡ l.block → o.tail ≡ m.tail → o.block ≡ m.block → o.stable ≡ m.tail
    → IsFreeRegion (region m) n b → Narrows b c → Covers n b c → IsLogOn l a xs → IsWritten m b xs → IsLogOn o c xs
forced l m o n a b c xs s t tail block tail' block' stable free narrows covers (inl h) w =
    inl (
      h.0,
      h.1,
      record {
        sure = length xs;
        tail = omega (arith, w.tail, t.start);
        stable = omega (arith, w.tail, t.start);
        spread = carry m o (λ g start. IsSpread g start (length xs) c xs) t (covered_log (region m) n m.start w.sure b c xs free narrows covers w.spread);
      },
    )
forced l m o n a b c xs s t tail block tail' block' stable free narrows covers (inr h) w =
    let k = h.0 in
    let both : SameLog l o = record { shape = t.shape ∙ s.shape; node = t.node ∙ s.node; start = t.start ∙ s.start } in
    inr (
      record {
        sure = length xs;
        last = k.last;
        count = length xs;
        some = k.some;
        most = k.most;
        tail = omega (arith, w.tail, t.start);
        stable = omega (arith, w.tail, t.start);
        fits = carry m o (λ g start. Rattle.private_log.specs.Spread.FitsLog g start xs) t w.spread.ring.fits;
        block = block' ∙ (block ∙ (k.block ∙ renamed l o k.last (six k.last xs) both));
        count_is = omega (arith, k.some);
        spread = carry m o (λ g start. IsSpread g start (length xs) c (take (length xs) xs)) t
            (subst (λ ys. IsSpread (region m) m.start (length xs) c ys) (sym (take_all (length xs) xs (omega arith))) (covered_log (region m) n m.start w.sure b c xs free narrows covers w.spread));
      },
      h.1,
    )
