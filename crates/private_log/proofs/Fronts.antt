-- The front of a log that an image of a device shows.
use Rattle.std.proofs.Common.{◌≡◌, ◌≢◌, ◌≤◌, ◌<◌, ◌+◌, ◌*◌, ◌/◌, ℕ, false, List, Option, Some, length, take, inl, inr, sym, ◌∙◌, ap, arith, subst}
use Rattle.std.proofs.lemmas.Bool.{cases_eq, cases_lt}
use Rattle.std.proofs.lemmas.List.{length-take-le}
use Rattle.sd_base.specs.Anchors.{anchor_text}
use Rattle.private_log.specs.LogBlock.{log_block}
use Rattle.private_log.specs.Content.{Region, place, IsStale, Ends, LogContent, HasNoFuture, HoldsFront}
use Rattle.private_log.specs.Spread.{ShowsBlock, ShowsCut, FitsLog}
use Rattle.private_log.proofs.Sixes.{six-take, AreRecords-take}

-- a front of the records of a log
pub FitsLog-take : (g : Region) (start m : ℕ) (xs : List (List ℕ)) → m ≤ length xs → FitsLog g start xs → FitsLog g start (take m xs)
FitsLog-take g start m xs le f =
    let len : length (take m xs) ≡ m = length-take-le m xs le in
    record {
      number = f.number;
      texts = AreRecords-take m xs f.texts;
      room = omega (arith, f.room);
      last = omega (arith, f.last);
    }

-- a block that isn't behind the sure records shows every front that has those
other_block : (g : Region) (start sure m k : ℕ) (xs : List (List ℕ)) (o : Option (List ℕ)) → sure ≤ m → m ≤ length xs → length xs ≤ 6 * (sure / 6) + 6 → k ≢ sure / 6
    → ShowsCut g start sure xs k o → ShowsBlock g start (take m xs) k o
other_block g start sure m k xs o low high near ne c =
    let len : length (take m xs) ≡ m = length-take-le m xs high in
    let long : length (take c.count xs) ≡ c.count = length-take-le c.count xs c.high in
    record {
      there = λ lt.
          let whole : 6 * k + 6 ≤ sure = omega arith in
          c.shows.there (omega (arith, c.low)) ∙ ap (λ r. Some (log_block g.node (start + k) r)) (six-take k c.count xs (omega (arith, c.low)) ∙ sym (six-take k m xs (omega arith)));
      stale = λ le. c.shows.stale (omega (arith, c.high));
    }

-- blocks that each show some front show one front
pub one_front : (g : Region) (start sure : ℕ) (xs : List (List ℕ)) (image : ℕ → Option (List ℕ)) → FitsLog g start xs → sure ≤ length xs → length xs ≤ 6 * (sure / 6) + 6
    → ((k : ℕ) → k < g.ring → ShowsCut g start sure xs k (image (place g (start + k))))
    → (m : ℕ) × (sure ≤ m) × (m ≤ length xs) × ((k : ℕ) → k < g.ring → ShowsBlock g start (take m xs) k (image (place g (start + k))))
one_front g start sure xs image f low near cuts = elim (cases_lt (sure / 6) g.ring) [
  | inl inside ↦
      let c = cuts (sure / 6) inside in (
        c.count,
        c.low,
        c.high,
        λ k lt. elim (cases_eq k (sure / 6)) [
          | inl same ↦
              let P : ℕ → Type 0 = λ j. ShowsBlock g start (take c.count xs) j (image (place g (start + j))) in
              subst P (sym same) c.shows
          | inr ne ↦ other_block g start sure c.count k xs _ c.low c.high near ne (cuts k lt)
        ],
      )
  | inr outside ↦ (length xs, low, omega arith, λ k lt. other_block g start sure (length xs) k xs _ low (omega arith) near (omega arith) (cuts k lt))
]

-- what is stale ends the log
stale_ends : (g : Region) (start k : ℕ) (o : Option (List ℕ)) → IsStale g start (start + k) o → Ends g (start + k) o
stale_ends g start k o (inl zeros) = inl zeros
stale_ends g start k o (inr h) = inr (h.0, omega (arith, h.1))

-- an image whose blocks show these records has them as its log
pub shown_content : (g : Region) (start : ℕ) (xs : List (List ℕ)) (image : ℕ → Option (List ℕ)) → FitsLog g start xs → image g.anchor ≡ Some (anchor_text false g.node start)
    → ((k : ℕ) → k < g.ring → ShowsBlock g start xs k (image (place g (start + k)))) → LogContent g image start xs
shown_content g start xs image f anchor shows = record {
  number = f.number;
  anchor = anchor;
  texts = f.texts;
  room = f.room;
  last = f.last;
  blocks = λ k lt. (shows k (omega (arith, f.room))).there lt;
  ends = λ k lt e. stale_ends g start k _ ((shows k lt).stale (omega arith));
}

-- the log of an image without a block that is still to come is shown by its blocks
pub content_shown : (g : Region) (start : ℕ) (xs : List (List ℕ)) (image : ℕ → Option (List ℕ)) → LogContent g image start xs → HasNoFuture g image start xs
    → (k : ℕ) → k < g.ring → ShowsBlock g start xs k (image (place g (start + k)))
content_shown g start xs image content clean k lt = record {
  there = content.blocks k;
  stale = clean k lt;
}

-- an image whose blocks each show some front has one
pub holds_front : (g : Region) (start sure : ℕ) (xs : List (List ℕ)) (image : ℕ → Option (List ℕ)) → FitsLog g start xs → sure ≤ length xs → length xs ≤ 6 * (sure / 6) + 6
    → image g.anchor ≡ Some (anchor_text false g.node start)
    → ((k : ℕ) → k < g.ring → ShowsCut g start sure xs k (image (place g (start + k)))) → HoldsFront g start (6 * start + sure) xs image
holds_front g start sure xs image f low near anchor cuts =
    let m = one_front g start sure xs image f low near cuts in
    record {
      count = m.0;
      low = omega (arith, m.1);
      high = m.2;
      content = shown_content g start (take m.0 xs) image (FitsLog-take g start m.0 xs m.2 f) anchor m.3;
      clean = λ k lt. (m.3 k lt).stale;
    }
