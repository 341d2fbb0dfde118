-- The ring of a log, block after block.
use Rattle.std.proofs.Common.{◌≡◌, ◌≢◌, ◌≤◌, ◌<◌, ◌+◌, ◌-◌, ◌*◌, ◌/◌, ◌^◌, ℕ, false, List, [], ◌++◌, Option, Some, length, take, min, inl, inr, refl, sym, ◌∙◌, ap, arith, subst}
use Rattle.std.proofs.lemmas.Bool.{cases_eq, cases_lt}
use Rattle.std.proofs.lemmas.List.{length-append, take_all, drop_at}
use Rattle.std.proofs.lemmas.List.Elements.{All-nil, All-append}
use Rattle.sd_base.specs.Text.{zero_block}
use Rattle.sd_base.specs.Anchors.{anchor_text, IsAnchorNumber}
use Rattle.private_log.specs.LogBlock.{log_block, AreRecords, FitsBlock, six}
use Rattle.private_log.specs.Content.{Region, place, IsLegal, Ends, LogContent, CountsRecords}
use Rattle.private_log.specs.Reading.{ReadsLog}
use Rattle.private_log.proofs.Sixes.{six-append, length-six, AreRecords-six}
use Rattle.private_log.proofs.Blocks.{log_block-one, log_block-some}

-- the first k blocks of a ring are full, and have these records
pub record FullBlocks (g : Region) (image : ℕ → Option (List ℕ)) (start k : ℕ) : Type 0 where
  pub records : List (List ℕ)
  pub texts : AreRecords records
  pub long : length records ≡ 6 * k
  pub last : 6 * start + length records ≤ 6 * 2 ^ 56
  pub blocks : (j : ℕ) → j < k → image (place g (start + j)) ≡ Some (log_block g.node (start + j) (six j records))

pub no_blocks : (g : Region) (image : ℕ → Option (List ℕ)) (start : ℕ) → IsAnchorNumber start → FullBlocks g image start 0
no_blocks g image start number = record {
  records = [];
  texts = All-nil (λ (x : List ℕ). length x ≡ 672);
  long = refl;
  last = omega (arith, number);
  blocks = λ j lt. absurd (omega arith);
}

-- the records of the blocks with those of one more
more_six : (k : ℕ) (xs ys : List (List ℕ)) → length xs ≡ 6 * k → length ys ≤ 6 → six k (xs ++ ys) ≡ ys
more_six k xs ys long most = ap (take 6) (drop_at xs ys (6 * k) long) ∙ take_all 6 ys most

module _ (g : Region) (image : ℕ → Option (List ℕ)) (start k : ℕ) (f : FullBlocks g image start k) (records : List (List ℕ)) (fits : FitsBlock (start + k) records)
    (is : image (place g (start + k)) ≡ Some (log_block g.node (start + k) records)) where
  joined : List (List ℕ)
  joined = f.records ++ records

  all_blocks : (j : ℕ) → j < k + 1 → image (place g (start + j)) ≡ Some (log_block g.node (start + j) (six j (f.records ++ records)))
  all_blocks j lt = elim (cases_lt j k) [
    | inl before ↦ f.blocks j before ∙ ap (λ r. Some (log_block g.node (start + j) r)) (sym (six-append j f.records records (omega (arith, f.long))))
    | inr last ↦
        let e : j ≡ k = omega arith in
        ap (λ n. image (place g (start + n))) e
        ∙ (is ∙ ap (λ r. Some (log_block g.node (start + k) r)) (sym (more_six k f.records records f.long fits.most)) ∙ ap (λ n. Some (log_block g.node (start + n) (six n (f.records ++ records)))) (sym e))
  ]

  -- one more full block
  pub more_blocks : length records ≡ 6 → FullBlocks g image start (k + 1)
  more_blocks six' = record {
    records = f.records ++ records;
    texts = All-append (λ (x : List ℕ). length x ≡ 672) f.records records f.texts fits.texts;
    long = length-append f.records records ∙ omega (arith, f.long);
    last = omega (arith, f.long, fits.below, length-append f.records records);
    blocks = all_blocks;
  }

  -- a last block that isn't full
  pub last_block : IsAnchorNumber start → image g.anchor ≡ Some (anchor_text false g.node start) → k < g.ring → length records < 6 → (block : List ℕ) → block ≡ log_block g.node (start + k) records
      → ReadsLog g image start (6 * (start + k) + length records) block
  last_block number anchor inside few block same =
      let len : length (f.records ++ records) ≡ 6 * k + length records = length-append f.records records ∙ omega (arith, f.long) in
      record {
        records = f.records ++ records;
        content = record {
          number = number;
          anchor = anchor;
          texts = All-append (λ (x : List ℕ). length x ≡ 672) f.records records f.texts fits.texts;
          room = omega arith;
          last = omega (arith, fits.below);
          blocks = λ j lt. all_blocks j (omega (arith, few));
          ends = λ j lt e. absurd (omega (arith, fits.some, few));
        };
        tail_is = omega arith;
        last = λ j low high.
            let e : j ≡ k = omega (arith, fits.some, few) in
            same ∙ ap (λ r. log_block g.node (start + k) r) (sym (more_six k f.records records f.long fits.most)) ∙ ap (λ n. log_block g.node (start + n) (six n (f.records ++ records))) (sym e);
      }

-- the log ends before a block
pub ends_here : (g : Region) (image : ℕ → Option (List ℕ)) (start k : ℕ) (block : List ℕ) → FullBlocks g image start k → IsAnchorNumber start → image g.anchor ≡ Some (anchor_text false g.node start) → k ≤ g.ring
    → (k < g.ring → Ends g (start + k) (image (place g (start + k)))) → ReadsLog g image start (6 * (start + k)) block
ends_here g image start k block f number anchor inside ends = record {
  records = f.records;
  content = record {
    number = number;
    anchor = anchor;
    texts = f.texts;
    room = omega (arith, f.long);
    last = f.last;
    blocks = λ j lt. f.blocks j (omega (arith, f.long));
    ends = λ j lt e.
        let same : j ≡ k = omega (arith, f.long) in
        let P : ℕ → Type 0 = λ n. Ends g (start + n) (image (place g (start + n))) in
        subst P (sym same) (ends (omega arith));
  };
  tail_is = omega (arith, f.long);
  last = λ j low high. absurd (omega (arith, f.long));
}

-- what ends a log isn't its next block
pub ends_apart : (g : Region) (number : ℕ) (content : Option (List ℕ)) (records : List (List ℕ)) → FitsBlock number records → Ends g number content → content ≢ Some (log_block g.node number records)
ends_apart g number content records fits (inl zeros) e =
    let same : log_block g.node number records ≡ zero_block = (let both : Some zero_block ≡ Some (log_block g.node number records) = sym zeros ∙ e in cc) in
    log_block-some g.node number records fits same
ends_apart g number content records fits (inr h) e =
    let same : log_block g.node h.0.held h.0.records ≡ log_block g.node number records = (let both : Some (log_block g.node h.0.held h.0.records) ≡ Some (log_block g.node number records) = sym h.0.text ∙ e in cc) in
    h.1 (log_block-one g.node h.0.held number h.0.records records h.0.fits fits same).0

-- a log goes on over its full blocks
pub goes_on : (g : Region) (image : ℕ → Option (List ℕ)) (start k : ℕ) (xs : List (List ℕ)) → FullBlocks g image start k → k ≤ g.ring → LogContent g image start xs → 6 * k ≤ length xs
goes_on g image start k xs f inside content = elim (cases_lt (length xs) (6 * k)) [
  | inr more ↦ more
  | inl less ↦
      let j : ℕ = length xs / 6 in
      let before : j < k = omega arith in
      let full : length (six j f.records) ≡ 6 = length-six j f.records ∙ omega (arith, f.long) in
      let fits : FitsBlock (start + j) (six j f.records) = record { some = omega arith; most = omega arith; texts = AreRecords-six j f.records f.texts; below = omega (arith, f.last, f.long) } in
      elim (cases_eq (length xs) (6 * j)) [
        | inl whole ↦ absurd (ends_apart g (start + j) _ (six j f.records) fits (content.ends j (omega arith) whole) (f.blocks j before))
        | inr part ↦
            let low : 6 * j < length xs = omega arith in
            let few : length (six j xs) ≡ length xs - 6 * j = length-six j xs ∙ omega arith in
            let other : FitsBlock (start + j) (six j xs) = record { some = omega arith; most = omega arith; texts = AreRecords-six j xs content.texts; below = omega (arith, content.last) } in
            let same : log_block g.node (start + j) (six j xs) ≡ log_block g.node (start + j) (six j f.records) =
            (let both : Some (log_block g.node (start + j) (six j xs)) ≡ Some (log_block g.node (start + j) (six j f.records)) = sym (content.blocks j low) ∙ f.blocks j before in cc) in
            let one : six j xs ≡ six j f.records = (log_block-one g.node (start + j) (start + j) (six j xs) (six j f.records) other fits same).1 in
            absurd (omega (arith, ap (λ (r : List (List ℕ)). length r) one))
      ]
]

-- the block behind the full ones is legal where there is a log
pub next_legal : (g : Region) (image : ℕ → Option (List ℕ)) (start k : ℕ) (xs : List (List ℕ)) → FullBlocks g image start k → k < g.ring → LogContent g image start xs → IsLegal g (start + k) (image (place g (start + k)))
next_legal g image start k xs f inside content =
    let low : 6 * k ≤ length xs = goes_on g image start k xs f (omega arith) content in
    elim (cases_eq (length xs) (6 * k)) [
      | inl whole ↦ elim (content.ends k inside whole) [ inl zeros ↦ inl zeros | inr h ↦ inr h.0 ]
      | inr more ↦
          let some : length (six k xs) ≡ min 6 (length xs - 6 * k) = length-six k xs in
          inr (record {
            held = start + k;
            records = six k xs;
            fits = record { some = omega arith; most = omega arith; texts = AreRecords-six k xs content.texts; below = omega (arith, content.last) };
            shares = refl;
            text = content.blocks k (omega arith);
          })
    ]

-- a full block has a number below 2^56
pub counted_number : (g : Region) (number count : ℕ) (bytes : List ℕ) → 6 ≤ count → CountsRecords g number count bytes → number < 2 ^ 56
counted_number g number count bytes full (inl none) = absurd (omega (arith, none.0))
counted_number g number count bytes full (inr h) = h.1.below

-- a block that was read and is full
pub counted_full : (g : Region) (image : ℕ → Option (List ℕ)) (start k number count : ℕ) (bytes : List ℕ) → FullBlocks g image start k → number ≡ start + k → image (place g number) ≡ Some bytes → 6 ≤ count → count ≤ 6
    → CountsRecords g number count bytes → FullBlocks g image start (k + 1)
counted_full g image start k number count bytes f here is full most (inl none) = absurd (omega (arith, none.0))
counted_full g image start k number count bytes f here is full most (inr h) =
    let fits : FitsBlock (start + k) h.0 = subst (λ n. FitsBlock n h.0) here h.1 in
    let held : image (place g (start + k)) ≡ Some (log_block g.node (start + k) h.0) =
    subst (λ n. image (place g n) ≡ Some (log_block g.node n h.0)) here (is ∙ ap Some h.3) in
    more_blocks g image start k f h.0 fits held (omega (arith, h.2))

-- a block that was read and isn't full
pub counted_last : (g : Region) (image : ℕ → Option (List ℕ)) (start k number count : ℕ) (bytes : List ℕ) → FullBlocks g image start k → number ≡ start + k → image (place g number) ≡ Some bytes → count < 6 → k < g.ring
    → IsAnchorNumber start → image g.anchor ≡ Some (anchor_text false g.node start) → CountsRecords g number count bytes → ReadsLog g image start (6 * number + count) bytes
counted_last g image start k number count bytes f here is few inside low anchor (inl none) =
    let ends : Ends g (start + k) (image (place g (start + k))) =
    subst (λ n. Ends g n (image (place g n))) here (subst (Ends g number) (sym is) none.1) in
    subst (λ n. ReadsLog g image start n bytes) (omega (arith, here, none.0)) (ends_here g image start k bytes f low anchor (omega arith) (λ lt. ends))
counted_last g image start k number count bytes f here is few inside low anchor (inr h) =
    let fits : FitsBlock (start + k) h.0 = subst (λ n. FitsBlock n h.0) here h.1 in
    let held : image (place g (start + k)) ≡ Some (log_block g.node (start + k) h.0) =
    subst (λ n. image (place g n) ≡ Some (log_block g.node n h.0)) here (is ∙ ap Some h.3) in
    subst (λ n. ReadsLog g image start n bytes) (omega (arith, here, h.2))
    (last_block g image start k f h.0 fits held low anchor inside (omega (arith, h.2)) bytes (h.3 ∙ ap (λ n. log_block g.node n h.0) here))
