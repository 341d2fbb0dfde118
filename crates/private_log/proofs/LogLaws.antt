-- A log and its device through the steps of its calls.
use Rattle.std.proofs.Common.{◌≡◌, ◌≤◌, ◌<◌, ◌+◌, ◌-◌, ◌*◌, ◌/◌, ◌^◌, ℕ, false, List, [], ◌∷◌, ◌++◌, length, take, max, inl, inr, sym, ◌∙◌, ap, arith, subst}
use Rattle.std.proofs.lemmas.List.{length-append, length-take, length-take-le, take-take, take_all, take-append-le}
use Rattle.std.proofs.lemmas.List.Elements.{All-push}
use Rattle.sd_base.specs.Disk.{BlockState, IsLawful}
use Rattle.sd_base.specs.Calls.{Narrows, NarrowsBut, KeepsForeign, KeepsForeignBut, Settles, Covers, Writes, CutsWrite}
use Rattle.sd_base.specs.Shape.{anchor_place}
use Rattle.private_log.specs.LogBlock.{log_block, AreRecords, six}
use Rattle.private_log.specs.Content.{Region, place}
use Rattle.private_log.specs.Spread.{FitsLog, IsSpread, IsCutLog, IsFreeRegion}
use Rattle.private_log.specs.Log.{LogState, region, tail_place, space, IsLog, SameLog, IsWritten, IsLoaded, IsLogOn}
use Rattle.private_log.proofs.Sixes.{six-push}
use Rattle.private_log.proofs.SpreadLaws.{stopped_log, covered_log, written_log, written_cut}

-- what is said of the region and the start of a log holds while it is the same
pub carry : (l m : LogState) (P : Region → ℕ → Type 0) → SameLog l m → P (region l) l.start → P (region m) m.start
carry l m P s p =
    let same : region l ≡ region m = λ i. record { node = (sym s.node i).0; anchor = anchor_place false (sym s.shape i) (sym s.node i).0; ring = (sym s.shape i).ring } in
    subst (P (region m)) (sym s.start) (subst (λ g. P g l.start) same p)

-- a cut of a front is one of the whole
pub front_log : (g : Region) (start stable n : ℕ) (b : ℕ → BlockState) (xs : List (List ℕ)) → n ≤ length xs → IsCutLog g start stable b (take n xs) → IsCutLog g start stable b xs
front_log g start stable n b xs le k =
    let len : length (take n xs) ≡ n = length-take-le n xs le in
    let P : List (List ℕ) → Type 0 = λ ys. IsSpread g start k.count b ys in
    record { count = k.count; low = k.low; high = omega (arith, k.high); log = subst P (take-take k.count n xs (omega (arith, k.high))) k.log }

-- the same block by its other name
pub renamed : (l m : LogState) (k : ℕ) (records : List (List ℕ)) → SameLog l m → log_block l.node.0 (l.start + k) records ≡ log_block m.node.0 (m.start + k) records
renamed l m k records s = λ i. log_block (sym s.node i).0 (sym s.start i + k) records

FitsLog-push : (g : Region) (start : ℕ) (xs : List (List ℕ)) (text : List ℕ) → length text ≡ 672 → length xs < 6 * g.ring → 6 * start + length xs < 6 * 2 ^ 56 → FitsLog g start xs → FitsLog g start (xs ++ text ∷ [])
FitsLog-push g start xs text long room last f =
    let len : length (xs ++ text ∷ []) ≡ length xs + 1 = length-append xs (text ∷ []) in
    record {
      number = f.number;
      texts = All-push (λ (x : List ℕ). length x ≡ 672) xs text f.texts long;
      room = omega arith;
      last = omega arith;
    }

-- the records of a log are texts, as many as its numbers say
pub on_texts : (l : LogState) (b : ℕ → BlockState) (xs : List (List ℕ)) → IsLogOn l b xs → AreRecords xs
on_texts l b xs (inl h) = h.2.spread.ring.fits.texts
on_texts l b xs (inr h) = h.0.fits.texts

pub on_tail : (l : LogState) (b : ℕ → BlockState) (xs : List (List ℕ)) → IsLogOn l b xs → l.tail ≡ 6 * l.start + length xs
on_tail l b xs (inl h) = h.2.tail
on_tail l b xs (inr h) = h.0.tail

-- one more record in memory
module _ (l m : LogState) (b : ℕ → BlockState) (xs : List (List ℕ)) (text : List ℕ) (room : 1 ≤ space l) (s : SameLog l m) (tail : m.tail ≡ l.tail + 1) (stable : m.stable ≡ l.stable) (long : length text ≡ 672)
    (block : (k : ℕ) → 6 * k ≤ length xs → length xs < 6 * k + 6 → m.block ≡ log_block l.node.0 (l.start + k) (six k xs ++ text ∷ [])) where
  loaded : (sure k count : ℕ) → 6 * k ≤ length xs → length xs < 6 * k + 6 → l.tail ≡ 6 * l.start + length xs → l.stable ≡ 6 * l.start + sure → FitsLog (region l) l.start xs
      → count ≤ length xs → count ≡ max sure (6 * k) → IsSpread (region l) l.start sure b (take count xs) → IsLoaded m b (xs ++ text ∷ [])
  loaded sure k count low high at sure_is f le is spread =
      let len : length (xs ++ text ∷ []) ≡ length xs + 1 = length-append xs (text ∷ []) in
      record {
        sure = sure;
        last = k;
        count = count;
        some = omega arith;
        most = omega arith;
        tail = omega (arith, s.start);
        stable = omega (arith, s.start);
        fits = carry l m (λ g start. FitsLog g start (xs ++ text ∷ [])) s (FitsLog-push (region l) l.start xs text long (omega arith) (omega arith) f);
        block = block k low high ∙ (renamed l m k (six k xs ++ text ∷ []) s ∙ ap (log_block m.node.0 (m.start + k)) (sym (six-push k xs text low high)));
        count_is = is;
        spread = carry l m (λ g start. IsSpread g start sure b (take count (xs ++ text ∷ []))) s
            (subst (λ ys. IsSpread (region l) l.start sure b ys) (sym (take-append-le count xs (text ∷ []) le)) spread);
      }

  pub pushed : IsLogOn l b xs → IsLoaded m b (xs ++ text ∷ [])
  pushed (inl h) =
      let w = h.2 in
      loaded w.sure h.0 (length xs) (omega (arith, h.1)) (omega (arith, h.1)) w.tail w.stable w.spread.ring.fits (omega arith) (omega (arith, h.1, w.spread.ring.low))
      (subst (λ ys. IsSpread (region l) l.start w.sure b ys) (sym (take_all (length xs) xs (omega arith))) w.spread)
  pushed (inr h) =
      let k = h.0 in
      loaded k.sure k.last k.count (omega (arith, k.some)) h.1 k.tail k.stable k.fits (omega (arith, k.some, k.count_is, k.spread.ring.low, length-take k.count xs)) k.count_is k.spread

-- what is covered of a loaded log
pub covered_below : (l m : LogState) (n number : ℕ) (b c : ℕ → BlockState) (xs : List (List ℕ)) → IsFreeRegion (region l) n b → Narrows b c → Covers n b c → SameLog l m → m.tail ≡ l.tail → m.block ≡ l.block
    → l.stable < 6 * number → m.stable ≡ 6 * number → 6 * number < l.tail → l.tail ≤ 6 * number + 6 → IsLoaded l b xs → IsLoaded m c xs
covered_below l m n number b c xs free narrows covers s tail block before after low high h =
    let last : number ≡ l.start + h.last = omega (arith, h.tail, h.some, h.most) in
    let count : h.count ≡ 6 * h.last = omega (arith, h.count_is, h.stable) in
    let len : length (take h.count xs) ≡ h.count = length-take-le h.count xs (omega (arith, h.some)) in
    record {
      sure = h.count;
      last = h.last;
      count = h.count;
      some = h.some;
      most = h.most;
      tail = omega (arith, s.start, h.tail);
      stable = omega (arith, s.start);
      fits = carry l m (λ g start. FitsLog g start xs) s h.fits;
      block = block ∙ (h.block ∙ renamed l m h.last (six h.last xs) s);
      count_is = omega arith;
      spread = carry l m (λ g start. IsSpread g start h.count c (take h.count xs)) s
          (subst (λ n. IsSpread (region l) l.start n c (take h.count xs)) len (covered_log (region l) n l.start h.sure b c (take h.count xs) free narrows covers h.spread));
    }

-- a call in which the port stopped, but a write of its own, leaves a front of what is written
pub loaded_stopped : (l : LogState) (n : ℕ) (b c : ℕ → BlockState) (xs : List (List ℕ)) → ((k : ℕ) → IsLawful c k) → IsFreeRegion (region l) n b
    → Narrows b c → KeepsForeign n b c → Settles n b c → IsLoaded l b xs → IsCutLog (region l) l.start l.stable c xs
loaded_stopped l n b c xs law free narrows foreign settles h =
    subst (λ k. IsCutLog (region l) l.start k c xs) (sym h.stable)
    (front_log (region l) l.start (6 * l.start + h.sure) h.count c xs (omega (arith, h.some, h.count_is, h.spread.ring.low, length-take h.count xs))
    (stopped_log (region l) n l.start h.sure b c (take h.count xs) law free narrows foreign settles h.spread))

-- the ring of a log has blocks
pub ring_some : (l : LogState) → IsLog l → 0 < l.shape.ring
ring_some l log = omega (arith, log.shape.ring)

pub less_cut : (g : Region) (start stable less : ℕ) (b : ℕ → BlockState) (xs : List (List ℕ)) → less ≤ stable → IsCutLog g start stable b xs → IsCutLog g start less b xs
less_cut g start stable less b xs le k = record { count = k.count; low = omega (arith, k.low); high = k.high; log = k.log }

-- A write of the last block of a log, after all before it was covered: the log before that is l, and m after it.
module _ (l m : LogState) (n at : ℕ) (content : List ℕ) (b c : ℕ → BlockState) (xs : List (List ℕ)) (s : SameLog l m) (tail : m.tail ≡ l.tail) (here : at ≡ tail_place l) (is : content ≡ m.block)
    (covered : 6 * ((l.tail - 1) / 6) ≤ m.stable) (narrows : NarrowsBut at content b c) (h : IsLoaded m b xs) where
  number : (l.tail - 1) / 6 ≡ m.start + h.last
  number = omega (arith, h.tail, h.some, h.most)

  place_is : at ≡ place (region m) (m.start + h.last)
  place_is =
      let same : place (region l) ((l.tail - 1) / 6) ≡ place (region m) ((l.tail - 1) / 6) =
      λ i. place (record { node = (sym s.node i).0; anchor = anchor_place false (sym s.shape i) (sym s.node i).0; ring = (sym s.shape i).ring }) ((l.tail - 1) / 6) in
      here ∙ (same ∙ ap (place (region m)) number)

  content_is : content ≡ log_block m.node.0 (m.start + h.last) (six h.last xs)
  content_is = is ∙ h.block

  from : 6 * h.last ≤ h.sure
  from = omega (arith, h.stable, number)

  low : h.sure ≤ length xs
  low = omega (arith, h.spread.ring.low, length-take h.count xs)

  narrows_is : NarrowsBut (place (region m) (m.start + h.last)) (log_block m.node.0 (m.start + h.last) (six h.last xs)) b c
  narrows_is = subst (λ k. NarrowsBut k (log_block m.node.0 (m.start + h.last) (six h.last xs)) b c) place_is (subst (λ t. NarrowsBut at t b c) content_is narrows)

  spread_is : IsSpread (region m) m.start h.sure b (take h.sure xs)
  spread_is = subst (λ k. IsSpread (region m) m.start h.sure b (take k xs)) (omega (arith, h.count_is, from)) h.spread

  pub tail_written : Writes n at content b c → IsWritten m c xs
  tail_written writes = record {
    sure = h.sure;
    tail = h.tail;
    stable = h.stable;
    spread = written_log (region m) m.start h.sure h.last b c xs h.fits from low h.some h.most narrows_is spread_is n
        (subst (λ k. Writes n k (log_block m.node.0 (m.start + h.last) (six h.last xs)) b c) place_is (subst (λ t. Writes n at t b c) content_is writes));
  }

  pub tail_cut : l.stable ≤ m.stable → ((k : ℕ) → IsLawful c k) → IsFreeRegion (region l) n b → KeepsForeignBut at n b c → CutsWrite n at b c → IsCutLog (region l) l.start l.stable c xs
  tail_cut le law free foreign cuts =
      let back : SameLog m l = record { shape = sym s.shape; node = sym s.node; start = sym s.start } in
      let own : IsFreeRegion (region m) n b = carry l m (λ g start. IsFreeRegion g n b) s free in
      let k : IsCutLog (region m) m.start (6 * m.start + h.sure) c xs =
      written_cut (region m) m.start h.sure h.last b c xs h.fits from low h.some h.most narrows_is spread_is n law own
      (subst (λ k. KeepsForeignBut k n b c) place_is foreign) (subst (λ k. CutsWrite n k b c) place_is cuts) in
      carry m l (λ g start. IsCutLog g start l.stable c xs) back (less_cut (region m) m.start (6 * m.start + h.sure) l.stable c xs (omega (arith, h.stable)) k)
