-- A log through the calls of its device.
use Rattle.std.proofs.Common.{◌≡◌, ◌≢◌, ◌≤◌, ◌<◌, ◌+◌, ◌*◌, ◌/◌, ◌%◌, ℕ, false, List, Option, Some, None, length, take, inl, inr, refl, sym, ◌∙◌, ap, arith, subst}
use Rattle.std.proofs.lemmas.Bool.{cases_eq}
use Rattle.std.proofs.lemmas.List.{length-take-le, take-take, take_all}
use Rattle.sd_base.specs.Disk.{BlockState, MayHold, Holds, IsOutcome, IsLawful, IsFreeFor}
use Rattle.sd_base.specs.Calls.{Narrows, NarrowsBut, NoNewWriter, NoNewWriterBut, KeepsForeign, KeepsForeignBut, Settles, Covers, Writes, CutsWrite}
use Rattle.sd_base.specs.Anchors.{anchor_text}
use Rattle.private_log.specs.LogBlock.{log_block, six}
use Rattle.private_log.specs.Content.{Region, place, IsStale, LogContent, HasNoFuture, HoldsFront}
use Rattle.private_log.specs.Spread.{ShowsBlock, ShowsCut, FitsLog, AreCuts, IsRing, IsSpread, IsCutLog, IsFreeRegion, IsStill, NarrowsRegion, KeepsRegion}
use Rattle.private_log.proofs.Sixes.{six-take}
use Rattle.private_log.proofs.Places.{place-one, place-in}
use Rattle.private_log.proofs.Fronts.{FitsLog-take, one_front, holds_front, content_shown}

-- what holds of each block of the region holds at each place of the ring
pub at_place : (g : Region) (P : ℕ → Type 0) (number : ℕ) → 0 < g.ring → ((i : ℕ) → i ≤ g.ring → P (g.anchor + i)) → P (place g number)
at_place g P number some each =
    let e : g.anchor + (1 + number % g.ring) ≡ place g number = omega arith in
    subst P e (each (1 + number % g.ring) (place-in g number some).1)

-- what holds of each block of the region holds at the anchor
pub at_anchor : (g : Region) (P : ℕ → Type 0) → ((i : ℕ) → i ≤ g.ring → P (g.anchor + i)) → P g.anchor
at_anchor g P each =
    let e : g.anchor + 0 ≡ g.anchor = omega arith in
    subst P e (each 0 (omega arith))

-- all records are a front of themselves
pub whole_cut : (g : Region) (start sure k : ℕ) (xs : List (List ℕ)) (o : Option (List ℕ)) → sure ≤ length xs → ShowsBlock g start xs k o → ShowsCut g start sure xs k o
whole_cut g start sure k xs o low shows =
    let P : List (List ℕ) → Type 0 = λ ys. ShowsBlock g start ys k o in
    record { count = length xs; low = low; high = omega arith; shows = subst P (sym (take_all (length xs) xs (omega arith))) shows }

-- a front of a front
front_cut : (g : Region) (start sure m k : ℕ) (xs : List (List ℕ)) (o : Option (List ℕ)) → m ≤ length xs → ShowsCut g start sure (take m xs) k o → ShowsCut g start sure xs k o
front_cut g start sure m k xs o le c =
    let len : length (take m xs) ≡ m = length-take-le m xs le in
    let P : List (List ℕ) → Type 0 = λ ys. ShowsBlock g start ys k o in
    record { count = c.count; low = c.low; high = omega (arith, c.high); shows = subst P (take-take c.count m xs (omega (arith, c.high))) c.shows }

-- each settled device holds a front
pub spread_outcome : (g : Region) (start sure : ℕ) (b : ℕ → BlockState) (xs : List (List ℕ)) (image : ℕ → Option (List ℕ)) → IsSpread g start sure b xs → IsOutcome b image → HoldsFront g start (6 * start + sure) xs image
spread_outcome g start sure b xs image s out =
    holds_front g start sure xs image s.ring.fits s.ring.low s.ring.near (s.anchor _ (out g.anchor)) (λ k lt. s.ring.blocks k lt _ (out (place g (start + k))))

-- the region of a port that has settled what it wrote shows a front
pub settled_cut : (g : Region) (start sure : ℕ) (c : ℕ → BlockState) (xs : List (List ℕ)) → ((k : ℕ) → IsLawful c k) → FitsLog g start xs → sure ≤ length xs → length xs ≤ 6 * (sure / 6) + 6
    → Holds c g.anchor (Some (anchor_text false g.node start)) → AreCuts g start sure c xs → IsStill g c → IsCutLog g start (6 * start + sure) c xs
settled_cut g start sure c xs law f low near anchor cuts still =
    let m = one_front g start sure xs (λ k. (c k).current) f low near (λ k lt. cuts k lt _ (law (place g (start + k))).current) in
    let len : length (take m.0 xs) ≡ m.0 = length-take-le m.0 xs m.2 in
    record {
      count = m.0;
      low = omega (arith, m.1);
      high = m.2;
      log = record {
        anchor = anchor;
        ring = record {
          fits = FitsLog-take g start m.0 xs m.2 f;
          low = omega arith;
          near = omega arith;
          blocks = λ k lt o may.
              let none : (c (place g (start + k))).writer ≡ None = at_place g (λ j. (c j).writer ≡ None) (start + k) (omega arith) still in
              let P : Option (List ℕ) → Type 0 = λ x. ShowsCut g start m.0 (take m.0 xs) k x in
              subst P (sym ((law (place g (start + k))).covered none o may)) (whole_cut g start m.0 k (take m.0 xs) _ (omega arith) (m.3 k lt));
          current = m.3;
        };
      };
    }

-- no block of the ring has a new outcome
narrow_cuts : (g : Region) (start sure : ℕ) (b c : ℕ → BlockState) (xs : List (List ℕ)) → Narrows b c → AreCuts g start sure b xs → AreCuts g start sure c xs
narrow_cuts g start sure b c xs narrows cuts k lt o may = cuts k lt o (narrows _ o may)

-- a port that settles what it wrote leaves no writer
settled_block : (n k : ℕ) (b c : ℕ → BlockState) → IsFreeFor n (b k) → KeepsForeign n b c → Settles n b c → (c k).writer ≡ None
settled_block n k b c (inl mine) foreign settles = (settles k mine).writer
settled_block n k b c (inr none) foreign settles =
    let ne : (b k).writer ≢ Some n = λ e. (let x : None ≡ Some n = sym none ∙ e in cc) in ap (λ (s : BlockState). s.writer) (foreign k ne) ∙ none

pub settled_still : (g : Region) (n : ℕ) (b c : ℕ → BlockState) → IsFreeRegion g n b → KeepsForeign n b c → Settles n b c → IsStill g c
settled_still g n b c free foreign settles i le = settled_block n (g.anchor + i) b c (free i le) foreign settles

cut_block : (n at k : ℕ) (b c : ℕ → BlockState) → IsFreeFor n (b k) → KeepsForeignBut at n b c → CutsWrite n at b c → (c k).writer ≡ None
cut_block n at k b c own foreign cuts = elim (cases_eq k at) [
  | inl here ↦ rw here cuts.here.writer
  | inr ne ↦ elim own [
    | inl mine ↦ (cuts.others k mine).writer
    | inr none ↦ let other : (b k).writer ≢ Some n = λ e. (let x : None ≡ Some n = sym none ∙ e in cc) in ap (λ (s : BlockState). s.writer) (foreign k ne other) ∙ none
  ]
]

-- a write in which the port stopped leaves no writer in the region
pub cut_still : (g : Region) (n at : ℕ) (b c : ℕ → BlockState) → IsFreeRegion g n b → KeepsForeignBut at n b c → CutsWrite n at b c → IsStill g c
cut_still g n at b c free foreign cuts i le = cut_block n at (g.anchor + i) b c (free i le) foreign cuts

-- the region stays free for a port through its calls
free_block : (n k : ℕ) (b c : ℕ → BlockState) → NoNewWriter b c → IsFreeFor n (b k) → IsFreeFor n (c k)
free_block n k b c writers own = elim (writers k) [
  | inl same ↦ elim own [ inl mine ↦ inl (same ∙ mine) | inr none ↦ inr (same ∙ none) ]
  | inr none ↦ inr none
]

pub free_region : (g : Region) (n : ℕ) (b c : ℕ → BlockState) → NoNewWriter b c → IsFreeRegion g n b → IsFreeRegion g n c
free_region g n b c writers free i le = free_block n (g.anchor + i) b c writers (free i le)

pub free_region_but : (g : Region) (at n : ℕ) (b c : ℕ → BlockState) → NoNewWriterBut at n b c → IsFreeRegion g n b → IsFreeRegion g n c
free_region_but g at n b c writers free i le = elim (writers (g.anchor + i)) [
  | inl same ↦ elim (free i le) [ inl mine ↦ inl (same ∙ mine) | inr none ↦ inr (same ∙ none) ]
  | inr (inl none) ↦ inr none
  | inr (inr here) ↦ inl here.1
]

-- any call in which the port stopped, but a write of its own, leaves a front
pub stopped_log : (g : Region) (n start sure : ℕ) (b c : ℕ → BlockState) (xs : List (List ℕ)) → ((k : ℕ) → IsLawful c k) → IsFreeRegion g n b
    → Narrows b c → KeepsForeign n b c → Settles n b c → IsSpread g start sure b xs → IsCutLog g start (6 * start + sure) c xs
stopped_log g n start sure b c xs law free narrows foreign settles s =
    settled_cut g start sure c xs law s.ring.fits s.ring.low s.ring.near (λ o may. s.anchor o (narrows _ o may)) (narrow_cuts g start sure b c xs narrows s.ring.blocks)
    (settled_still g n b c free foreign settles)

-- a barrier that was done makes all that is written sure
pub covered_ring : (g : Region) (n start sure : ℕ) (b c : ℕ → BlockState) (xs : List (List ℕ)) → IsFreeRegion g n b → Covers n b c → IsRing g start sure b xs → IsRing g start (length xs) c xs
covered_ring g n start sure b c xs free covers r = record {
  fits = r.fits;
  low = omega arith;
  near = omega arith;
  blocks = λ k lt o may.
      let own : IsFreeFor n (b (place g (start + k))) = at_place g (λ j. IsFreeFor n (b j)) (start + k) (omega arith) free in
      let P : Option (List ℕ) → Type 0 = λ x. ShowsCut g start (length xs) xs k x in
      subst P (sym (covers.holds (place g (start + k)) own o may)) (whole_cut g start (length xs) k xs _ (omega arith) (r.current k lt));
  current = λ k lt.
      let P : Option (List ℕ) → Type 0 = λ x. ShowsBlock g start xs k x in
      subst P (sym (covers.current (place g (start + k)))) (r.current k lt);
}

pub covered_log : (g : Region) (n start sure : ℕ) (b c : ℕ → BlockState) (xs : List (List ℕ)) → IsFreeRegion g n b → Narrows b c → Covers n b c → IsSpread g start sure b xs → IsSpread g start (length xs) c xs
covered_log g n start sure b c xs free narrows covers s = record {
  anchor = λ o may. s.anchor o (narrows _ o may);
  ring = covered_ring g n start sure b c xs free covers s.ring;
}

-- a call that gives no block of the region a new outcome or another content
pub narrowed_log : (g : Region) (start sure : ℕ) (b c : ℕ → BlockState) (xs : List (List ℕ)) → NarrowsRegion g b c → KeepsRegion g b c → IsSpread g start sure b xs → IsSpread g start sure c xs
narrowed_log g start sure b c xs narrows keeps s = record {
  anchor = λ o may. s.anchor o (at_anchor g (λ j. MayHold c j o → MayHold b j o) (λ i le. narrows i o le) may);
  ring = record {
    fits = s.ring.fits;
    low = s.ring.low;
    near = s.ring.near;
    blocks = λ k lt o may. s.ring.blocks k lt o (at_place g (λ j. MayHold c j o → MayHold b j o) (start + k) (omega arith) (λ i le. narrows i o le) may);
    current = λ k lt.
        let P : Option (List ℕ) → Type 0 = λ x. ShowsBlock g start xs k x in
        subst P (sym (at_place g (λ j. (c j).current ≡ (b j).current) (start + k) (omega arith) keeps)) (s.ring.current k lt);
  };
}

-- a call that gives no block of the region a new outcome and leaves none uncovered
pub stilled_log : (g : Region) (start sure : ℕ) (b c : ℕ → BlockState) (xs : List (List ℕ)) → ((k : ℕ) → IsLawful c k) → NarrowsRegion g b c → IsStill g c → IsSpread g start sure b xs → IsCutLog g start (6 * start + sure) c xs
stilled_log g start sure b c xs law narrows still s =
    settled_cut g start sure c xs law s.ring.fits s.ring.low s.ring.near (λ o may. s.anchor o (at_anchor g (λ j. MayHold c j o → MayHold b j o) (λ i le. narrows i o le) may))
    (λ k lt o may. s.ring.blocks k lt o (at_place g (λ j. MayHold c j o → MayHold b j o) (start + k) (omega arith) (λ i le. narrows i o le) may)) still

-- the log of a region without uncovered writes, where no block is still to come
pub attached_log : (g : Region) (start : ℕ) (b : ℕ → BlockState) (xs : List (List ℕ)) → ((k : ℕ) → IsLawful b k) → IsStill g b
    → LogContent g (λ k. (b k).current) start xs → HasNoFuture g (λ k. (b k).current) start xs → IsSpread g start (length xs) b xs
attached_log g start b xs law still content clean = record {
  anchor = λ o may. (law g.anchor).covered (at_anchor g (λ j. (b j).writer ≡ None) still) o may ∙ content.anchor;
  ring = record {
    fits = record { number = content.number; texts = content.texts; room = content.room; last = content.last };
    low = omega arith;
    near = omega arith;
    blocks = λ k lt o may.
        let none : (b (place g (start + k))).writer ≡ None = at_place g (λ j. (b j).writer ≡ None) (start + k) (omega arith) still in
        let P : Option (List ℕ) → Type 0 = λ x. ShowsCut g start (length xs) xs k x in
        subst P (sym ((law (place g (start + k))).covered none o may)) (whole_cut g start (length xs) k xs _ (omega arith) (content_shown g start xs _ content clean k lt));
    current = content_shown g start xs _ content clean;
  };
}

-- What a write of the last block of a log may leave. Here the records before that block are sure, and all that were
-- written are.
module _ (g : Region) (start sure last : ℕ) (b c : ℕ → BlockState) (xs : List (List ℕ)) (f : FitsLog g start xs)
    (from : 6 * last ≤ sure) (low : sure ≤ length xs) (some : 6 * last < length xs) (most : length xs ≤ 6 * last + 6)
    (narrows : NarrowsBut (place g (start + last)) (log_block g.node (start + last) (six last xs)) b c)
    (s : IsSpread g start sure b (take sure xs)) where
  -- the new content shows all records
  new_block : (k : ℕ) (o : Option (List ℕ)) → k ≡ last → o ≡ Some (log_block g.node (start + last) (six last xs)) → ShowsBlock g start xs k o
  new_block k o e is = rw e (record { there = λ lt. is; stale = λ le. absurd (omega arith) })

  pub written_cuts : AreCuts g start sure c xs
  written_cuts k lt o may = elim (narrows (place g (start + k)) o may) [
    | inl old ↦ front_cut g start sure sure k xs o low (s.ring.blocks k lt o old)
    | inr new ↦ whole_cut g start sure k xs o low (new_block k o (place-one g start k last lt (omega (arith, f.room)) new.0) new.1)
  ]

  pub written_anchor : Holds c g.anchor (Some (anchor_text false g.node start))
  written_anchor o may = elim (narrows g.anchor o may) [
    | inl old ↦ s.anchor o old
    | inr new ↦ absurd (omega (arith, new.0))
  ]

  -- a write that was done
  pub written_log : (n : ℕ) → Writes n (place g (start + last)) (log_block g.node (start + last) (six last xs)) b c → IsSpread g start sure c xs
  written_log n writes = record {
    anchor = written_anchor;
    ring = record {
      fits = f;
      low = low;
      near = omega arith;
      blocks = written_cuts;
      current = λ k lt. elim (cases_eq k last) [
        | inl e ↦
            let P : ℕ → Type 0 = λ j. ShowsBlock g start xs j (c (place g (start + j))).current in
            subst P (sym e) (new_block last _ refl writes.current)
        | inr ne ↦
            let len : length (take sure xs) ≡ sure = length-take-le sure xs low in
            let apart : place g (start + k) ≢ place g (start + last) = λ e. ne (place-one g start k last lt (omega (arith, f.room)) e) in
            let was = s.ring.current k lt in
            record {
              there = λ le. writes.others _ apart ∙ (was.there (omega arith) ∙ ap (λ r. Some (log_block g.node (start + k) r)) (six-take k sure xs (omega arith)));
              stale = λ le.
                  let P : Option (List ℕ) → Type 0 = λ x. IsStale g start (start + k) x in
                  subst P (sym (writes.others _ apart)) (was.stale (omega arith));
            }
      ];
    };
  }

  -- a write in which the port stopped
  pub written_cut : (n : ℕ) → ((k : ℕ) → IsLawful c k) → IsFreeRegion g n b → KeepsForeignBut (place g (start + last)) n b c → CutsWrite n (place g (start + last)) b c
      → IsCutLog g start (6 * start + sure) c xs
  written_cut n law free foreign cuts =
      settled_cut g start sure c xs law f low (omega arith) written_anchor written_cuts (cut_still g n (place g (start + last)) b c free foreign cuts)
