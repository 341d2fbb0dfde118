-- An image holds one log.
use Rattle.std.proofs.Common.{◌≡◌, ◌≤◌, ◌<◌, ◌+◌, ◌-◌, ◌*◌, ◌/◌, ◌%◌, ℕ, false, List, Option, Some, length, get_or, min, inl, inr, sym, ◌∙◌, ap, arith, subst}
use Rattle.std.proofs.lemmas.Bool.{cases_eq, cases_lt}
use Rattle.std.proofs.lemmas.List.{same_lists}
use Rattle.sd_base.specs.Anchors.{anchor_text}
use Rattle.sd_base.proofs.AnchorFields.{anchor_text-one}
use Rattle.private_log.specs.LogBlock.{log_block, FitsBlock, six}
use Rattle.private_log.specs.Content.{Region, LogContent}
use Rattle.private_log.proofs.Sixes.{in_six, length-six, AreRecords-six}
use Rattle.private_log.proofs.Blocks.{log_block-one}
use Rattle.private_log.proofs.RingLaws.{ends_apart}

-- records with the same blocks
same_sixes : (xs ys : List (List ℕ)) → length xs ≡ length ys → ((k : ℕ) → 6 * k < length xs → six k xs ≡ six k ys) → xs ≡ ys
same_sixes xs ys len same = same_lists xs ys len (λ i d lt.
    sym (in_six i xs d) ∙ (ap (λ (r : List (List ℕ)). get_or r (i % 6) d) (same (i / 6) (omega arith)) ∙ in_six i ys d))

module _ (g : Region) (image : ℕ → Option (List ℕ)) (start : ℕ) where
  block_fits : (xs : List (List ℕ)) (k : ℕ) → LogContent g image start xs → 6 * k < length xs → FitsBlock (start + k) (six k xs)
  block_fits xs k c lt =
      let len : length (six k xs) ≡ min 6 (length xs - 6 * k) = length-six k xs in
      record { some = omega arith; most = omega arith; texts = AreRecords-six k xs c.texts; below = omega (arith, c.last) }

  -- a block that both have is the same
  one_block : (xs ys : List (List ℕ)) (k : ℕ) → LogContent g image start xs → LogContent g image start ys → 6 * k < length xs → 6 * k < length ys → six k xs ≡ six k ys
  one_block xs ys k c e lt lt' =
      let same : log_block g.node (start + k) (six k xs) ≡ log_block g.node (start + k) (six k ys) =
      (let both : Some (log_block g.node (start + k) (six k xs)) ≡ Some (log_block g.node (start + k) (six k ys)) = sym (c.blocks k lt) ∙ e.blocks k lt' in cc) in
      (log_block-one g.node (start + k) (start + k) (six k xs) (six k ys) (block_fits xs k c lt) (block_fits ys k e lt') same).1

  -- neither ends before the other
  not_shorter : (xs ys : List (List ℕ)) → LogContent g image start xs → LogContent g image start ys → length ys ≤ length xs
  not_shorter xs ys c e = elim (cases_lt (length xs) (length ys)) [
    | inr more ↦ more
    | inl less ↦
        let k : ℕ = length xs / 6 in
        let there : 6 * k < length ys = omega arith in
        elim (cases_eq (length xs) (6 * k)) [
          | inl whole ↦ absurd (ends_apart g (start + k) _ (six k ys) (block_fits ys k e there) (c.ends k (omega (arith, e.room)) whole) (e.blocks k there))
          | inr part ↦
              let one : six k xs ≡ six k ys = one_block xs ys k c e (omega arith) there in
              absurd (omega (arith, ap (λ (r : List (List ℕ)). length r) one, length-six k xs, length-six k ys))
        ]
  ]

  pub one_records : (xs ys : List (List ℕ)) → LogContent g image start xs → LogContent g image start ys → xs ≡ ys
  one_records xs ys c e =
      let len : length xs ≡ length ys = omega (arith, not_shorter xs ys c e, not_shorter ys xs e c) in
      same_sixes xs ys len (λ k lt. one_block xs ys k c e lt (omega arith))

-- an image has one start
pub one_start : (g : Region) (image : ℕ → Option (List ℕ)) (start other : ℕ) (xs ys : List (List ℕ)) → LogContent g image start xs → LogContent g image other ys → start ≡ other
one_start g image start other xs ys c e =
    let same : anchor_text false g.node start ≡ anchor_text false g.node other = (let both : Some (anchor_text false g.node start) ≡ Some (anchor_text false g.node other) = sym c.anchor ∙ e.anchor in cc) in
    anchor_text-one false g.node start other c.number e.number same

pub one_log : (g : Region) (image : ℕ → Option (List ℕ)) (start other : ℕ) (xs ys : List (List ℕ)) → LogContent g image start xs → LogContent g image other ys → (start ≡ other) × (xs ≡ ys)
one_log g image start other xs ys c e =
    let same : start ≡ other = one_start g image start other xs ys c e in
    (same, one_records g image start xs ys c (subst (λ n. LogContent g image n ys) (sym same) e))
