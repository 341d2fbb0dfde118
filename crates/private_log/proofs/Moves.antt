-- A log whose start moves.
use Rattle.std.proofs.Common.{◌≡◌, ◌⊎◌, ◌≤◌, ◌<◌, ◌+◌, ◌-◌, ◌*◌, ◌%◌, ℕ, false, List, Option, Some, None, length, take, drop, inl, inr, sym, ◌∙◌, ap, arith, subst}
use Rattle.std.proofs.lemmas.Bool.{cases_lt}
use Rattle.std.proofs.lemmas.List.{length-take-le, length-drop, drop-take}
use Rattle.std.proofs.Math.Nat.{add-mod_right}
use Rattle.sd_base.specs.Disk.{BlockState, MayHold, Holds, IsLawful, IsFreeFor}
use Rattle.sd_base.specs.Calls.{NarrowsBut, Covers, Writes}
use Rattle.sd_base.specs.Anchors.{anchor_text}
use Rattle.private_log.specs.LogBlock.{log_block, six}
use Rattle.private_log.specs.Content.{Region, place, IsStale}
use Rattle.private_log.specs.Spread.{ShowsBlock, ShowsCut, FitsLog, AreCuts, IsRing, IsSpread, IsCutLog, IsFreeRegion, IsStill}
use Rattle.private_log.proofs.Sixes.{six-drop, length-six, AreRecords-six, AreRecords-drop}
use Rattle.private_log.proofs.Fronts.{FitsLog-take}
use Rattle.private_log.proofs.Places.{place-lap}
use Rattle.private_log.proofs.SpreadLaws.{at_anchor, settled_cut, covered_ring}

-- what is stale stays so
stale_later : (g : Region) (start to number number' : ℕ) (o : Option (List ℕ)) → start ≤ to → number % g.ring ≡ number' % g.ring → IsStale g start number o → IsStale g to number' o
stale_later g start to number number' o le same (inl zeros) = inl zeros
stale_later g start to number number' o le same (inr h) =
    inr (record { held = h.0.held; records = h.0.records; fits = h.0.fits; shares = h.0.shares ∙ same; text = h.0.text }, omega (arith, h.1))

-- a block behind the new start
near_block : (g : Region) (start d k : ℕ) (ys : List (List ℕ)) (o : Option (List ℕ)) → 6 * d ≤ length ys → ShowsBlock g start ys (d + k) o → ShowsBlock g (start + d) (drop (6 * d) ys) k o
near_block g start d k ys o le shows =
    let len : length (drop (6 * d) ys) ≡ length ys - 6 * d = length-drop (6 * d) ys in
    let same : start + (d + k) ≡ start + d + k = omega arith in
    record {
      there = λ lt. shows.there (omega arith) ∙ (ap (λ n. Some (log_block g.node n (six (d + k) ys))) same ∙ ap (λ r. Some (log_block g.node (start + d + k) r)) (sym (six-drop k d ys)));
      stale = λ high. stale_later g start (start + d) (start + (d + k)) (start + d + k) o (omega arith) (ap (λ n. n % g.ring) same) (shows.stale (omega arith));
    }

-- a block before the new start stands at the place of one of the next lap
far_block : (g : Region) (start d j k : ℕ) (ys : List (List ℕ)) (o : Option (List ℕ)) → FitsLog g start ys → 6 * d ≤ length ys → j < d → k + d ≡ j + g.ring → ShowsBlock g start ys j o → ShowsBlock g (start + d) (drop (6 * d) ys) k o
far_block g start d j k ys o f le before lap shows =
    let len : length (drop (6 * d) ys) ≡ length ys - 6 * d = length-drop (6 * d) ys in
    let is : length (six j ys) ≡ 6 = length-six j ys ∙ omega arith in
    record {
      there = λ lt. absurd (omega (arith, f.room));
      stale = λ high. inr (
        record {
          held = start + j;
          records = six j ys;
          fits = record { some = omega arith; most = omega arith; texts = AreRecords-six j ys f.texts; below = omega (arith, f.last) };
          shares = (let e : start + j + g.ring ≡ start + d + k = omega arith in sym (add-mod_right (start + j) g.ring) ∙ ap (λ n. n % g.ring) e);
          text = shows.there (omega arith);
        },
        omega arith,
      );
    }

-- where the block k of the log with the new start stands, in the log with the old start
record WasBlock (g : Region) (start d k : ℕ) : Type 0 where
  j : ℕ
  within : j < g.ring
  same : place g (start + j) ≡ place g (start + d + k)
  moves : (ys : List (List ℕ)) (o : Option (List ℕ)) → FitsLog g start ys → 6 * d ≤ length ys → ShowsBlock g start ys j o → ShowsBlock g (start + d) (drop (6 * d) ys) k o

was_block : (g : Region) (start d k : ℕ) → d ≤ g.ring → k < g.ring → WasBlock g start d k
was_block g start d k le lt = elim (cases_lt (d + k) g.ring) [
  | inl near ↦ record {
    j = d + k;
    within = near;
    same = ap (place g) (omega arith);
    moves = λ ys o f le shows. near_block g start d k ys o le shows;
  }
  | inr far ↦ record {
    j = d + k - g.ring;
    within = omega arith;
    same = (let e : start + (d + k - g.ring) + g.ring ≡ start + d + k = omega arith in sym (place-lap g (start + (d + k - g.ring))) ∙ ap (place g) e);
    moves = λ ys o f le shows. far_block g start d (d + k - g.ring) k ys o f le (omega arith) (omega arith) shows;
  }
]

pub FitsLog-drop : (g : Region) (start d : ℕ) (xs : List (List ℕ)) → 6 * d ≤ length xs → FitsLog g start xs → FitsLog g (start + d) (drop (6 * d) xs)
FitsLog-drop g start d xs le f =
    let len : length (drop (6 * d) xs) ≡ length xs - 6 * d = length-drop (6 * d) xs in
    record {
      number = omega (arith, f.last);
      texts = AreRecords-drop (6 * d) xs f.texts;
      room = omega (arith, f.room);
      last = omega (arith, f.last);
    }

-- a front of the records behind the new start
moved_cut : (g : Region) (start sure d k : ℕ) (xs : List (List ℕ)) (o : Option (List ℕ)) → FitsLog g start xs → 6 * d ≤ sure → (w : WasBlock g start d k) → ShowsCut g start sure xs w.j o → ShowsCut g (start + d) (sure - 6 * d) (drop (6 * d) xs) k o
moved_cut g start sure d k xs o f le w c =
    let len : length (drop (6 * d) xs) ≡ length xs - 6 * d = length-drop (6 * d) xs in
    let long : length (take c.count xs) ≡ c.count = length-take-le c.count xs c.high in
    let count : c.count ≡ 6 * d + (c.count - 6 * d) = omega (arith, c.low) in
    let front : drop (6 * d) (take c.count xs) ≡ take (c.count - 6 * d) (drop (6 * d) xs) =
    ap (λ n. drop (6 * d) (take n xs)) count ∙ drop-take (6 * d) (c.count - 6 * d) xs in
    let P : List (List ℕ) → Type 0 = λ ys. ShowsBlock g (start + d) ys k o in
    record {
      count = c.count - 6 * d;
      low = omega (arith, c.low);
      high = omega (arith, c.high);
      shows = subst P front (w.moves (take c.count xs) o (FitsLog-take g start c.count xs c.high f) (omega (arith, c.low)) c.shows);
    }

-- what a stop may leave of a ring is the same in the words of a later start, before which all records are sure
pub moved_cuts : (g : Region) (start sure d : ℕ) (b : ℕ → BlockState) (xs : List (List ℕ)) → FitsLog g start xs → sure ≤ length xs → 6 * d ≤ sure → AreCuts g start sure b xs → AreCuts g (start + d) (sure - 6 * d) b (drop (6 * d) xs)
moved_cuts g start sure d b xs f low le cuts k lt o may =
    let w = was_block g start d k (omega (arith, f.room)) lt in
    let P : ℕ → Type 0 = λ at. MayHold b at o in
    moved_cut g start sure d k xs o f le w (cuts w.j w.within o (subst P (sym w.same) may))

-- the ring of a log with a later start, of which all before it are sure
pub moved_ring : (g : Region) (start sure d : ℕ) (b : ℕ → BlockState) (xs : List (List ℕ)) → 6 * d ≤ sure → IsRing g start sure b xs → IsRing g (start + d) (sure - 6 * d) b (drop (6 * d) xs)
moved_ring g start sure d b xs le r =
    let len : length (drop (6 * d) xs) ≡ length xs - 6 * d = length-drop (6 * d) xs in
    let low : sure ≤ length xs = r.low in
    record {
      fits = FitsLog-drop g start d xs (omega arith) r.fits;
      low = omega arith;
      near = omega (arith, r.near);
      blocks = moved_cuts g start sure d b xs r.fits r.low le r.blocks;
      current = λ k lt.
          let w = was_block g start d k (omega (arith, r.fits.room)) lt in
          let P : ℕ → Type 0 = λ at. ShowsBlock g (start + d) (drop (6 * d) xs) k (b at).current in
          subst P w.same (w.moves xs (b (place g (start + w.j))).current r.fits (omega arith) (r.current w.j w.within));
    }

-- a write of the anchor leaves the outcomes of the ring
anchor_cuts : (g : Region) (start sure : ℕ) (content : List ℕ) (b c : ℕ → BlockState) (xs : List (List ℕ)) → NarrowsBut g.anchor content b c → AreCuts g start sure b xs → AreCuts g start sure c xs
anchor_cuts g start sure content b c xs narrows cuts k lt o may = elim (narrows (place g (start + k)) o may) [
  | inl old ↦ cuts k lt o old
  | inr new ↦ absurd (omega (arith, new.0))
]

-- a write of the anchor leaves the ring
pub anchor_ring : (g : Region) (n start sure : ℕ) (content : List ℕ) (b c : ℕ → BlockState) (xs : List (List ℕ)) → NarrowsBut g.anchor content b c → Writes n g.anchor content b c → IsRing g start sure b xs → IsRing g start sure c xs
anchor_ring g n start sure content b c xs narrows writes r = record {
  fits = r.fits;
  low = r.low;
  near = r.near;
  blocks = anchor_cuts g start sure content b c xs narrows r.blocks;
  current = λ k lt.
      let P : Option (List ℕ) → Type 0 = λ x. ShowsBlock g start xs k x in
      subst P (sym (writes.others (place g (start + k)) (λ e. absurd (omega (arith, e))))) (r.current k lt);
}

-- a stop while the anchor was written leaves a front of the log with the one start or the other
pub moved_or_not : (g : Region) (start sure d : ℕ) (b c : ℕ → BlockState) (xs : List (List ℕ)) → ((k : ℕ) → IsLawful c k) → 6 * d ≤ sure → NarrowsBut g.anchor (anchor_text false g.node (start + d)) b c → IsStill g c → IsSpread g start sure b xs
    → IsCutLog g start (6 * start + sure) c xs ⊎ IsCutLog g (start + d) (6 * start + sure) c (drop (6 * d) xs)
moved_or_not g start sure d b c xs law le narrows still s =
    let cuts : AreCuts g start sure c xs = anchor_cuts g start sure (anchor_text false g.node (start + d)) b c xs narrows s.ring.blocks in
    let alone : Holds c g.anchor (c g.anchor).current = (law g.anchor).covered (at_anchor g (λ j. (c j).writer ≡ None) still) in
    elim (narrows g.anchor (c g.anchor).current (law g.anchor).current) [
      | inl old ↦ inl (settled_cut g start sure c xs law s.ring.fits s.ring.low s.ring.near (λ o may. alone o may ∙ s.anchor _ old) cuts still)
      | inr new ↦
          let len : length (drop (6 * d) xs) ≡ length xs - 6 * d = length-drop (6 * d) xs in
          let low : sure ≤ length xs = s.ring.low in
          let cut : IsCutLog g (start + d) (6 * (start + d) + (sure - 6 * d)) c (drop (6 * d) xs) =
          settled_cut g (start + d) (sure - 6 * d) c (drop (6 * d) xs) law (FitsLog-drop g start d xs (omega arith) s.ring.fits) (omega arith) (omega (arith, s.ring.near)) (λ o may. alone o may ∙ new.1)
          (moved_cuts g start sure d c xs s.ring.fits s.ring.low le cuts) still in
          inr (subst (λ n. IsCutLog g (start + d) n c (drop (6 * d) xs)) (omega arith) cut)
    ]

-- the anchor was written and covered
pub moved_log : (g : Region) (n start sure d : ℕ) (a b c : ℕ → BlockState) (xs : List (List ℕ)) → 6 * d ≤ sure → IsFreeRegion g n b → NarrowsBut g.anchor (anchor_text false g.node (start + d)) a b
    → Writes n g.anchor (anchor_text false g.node (start + d)) a b → Covers n b c → IsSpread g start sure a xs → IsSpread g (start + d) (length xs - 6 * d) c (drop (6 * d) xs)
moved_log g n start sure d a b c xs le free narrows writes covers s =
    let low : sure ≤ length xs = s.ring.low in
    record {
      anchor = λ o may. covers.holds g.anchor (at_anchor g (λ j. IsFreeFor n (b j)) free) o may ∙ writes.current;
      ring = moved_ring g start (length xs) d c xs (omega arith)
          (covered_ring g n start sure b c xs free covers (anchor_ring g n start sure (anchor_text false g.node (start + d)) a b xs narrows writes s.ring));
    }
