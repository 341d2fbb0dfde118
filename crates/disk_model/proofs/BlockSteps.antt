-- What is done to one cell, as it is seen from all blocks.
use Rattle.std.proofs.Common.{◌≡◌, ◌≢◌, ◌⊎◌, ◌<◌, ◌≤◌, ◌+◌, ◌*◌, ℕ, Bool, true, false, List, Option, Some, None, refl, sym, ap, ◌∙◌, subst, inl, inr, arith, length, set, get_or, get_or-set_same, get_or-set_other}
use Rattle.std.proofs.lemmas.Bool.{cases_eq, cases_lt}
use Rattle.sd_base.specs.Calls.{Loses}
use Rattle.sd_base.specs.Outcomes.{among}
use Rattle.disk_model.specs.Memory.{BlockView, view_at, block_at, cell_at, copy_at, place_of, cell_view, waiter_at}
use Rattle.disk_model.specs.MemStateLaws.{covered_one}
use Rattle.disk_model.specs.Settling.{WritesBlock, DoneBelow, IsWithin, one_after, two_after}
use Rattle.disk_model.specs.declared.cell.Cell.{Cell}
use Rattle.disk_model.specs.declared.cell.Mark.TheVariants.{Lost}
use Rattle.disk_model.proofs.Laid.{read_at}

-- the cell that was written
pub cell_at-set_same : (cells : List Cell) (k : ℕ) (cell : Cell) → k < length cells → cell_at (set cells k cell) k ≡ cell
cell_at-set_same cells k cell lt = get_or-set_same cells k cell _ lt

-- another cell than the one that was written
pub cell_at-set_other : (cells : List Cell) (k j : ℕ) (cell : Cell) → j ≢ k → cell_at (set cells k cell) j ≡ cell_at cells j
cell_at-set_other cells k j cell ne = get_or-set_other cells k j cell _ ne

-- another block than the one whose cell was written
pub view_at-set_other : (cells : List Cell) (copies : List (List ℕ)) (k j : ℕ) (cell : Cell) → j ≢ k → view_at (set cells k cell) copies j ≡ view_at cells copies j
view_at-set_other cells copies k j cell ne =
    ap (λ (c : Cell). cell_view c (copy_at copies j false) (copy_at copies j true)) (cell_at-set_other cells k j cell ne)

-- what is done to a cell is done to the block, whatever its copies are
pub changes_at : (R : BlockView → BlockView → Type 0) (cells : List Cell) (copies : List (List ℕ)) (k : ℕ) (old new : Cell) → k < length cells → old ≡ get_or cells k old → ((one two : List ℕ) → R (cell_view old one two) (cell_view new one two)) → R (view_at cells copies k) (view_at (set cells k new) copies k)
changes_at R cells copies k old new lt e h =
    let was : cell_at cells k ≡ old = read_at cells k old _ lt e in
    let is : cell_at (set cells k new) k ≡ new = cell_at-set_same cells k new lt in
    let P : Cell → Cell → Type 0 = λ a b. R (cell_view a (copy_at copies k false) (copy_at copies k true)) (cell_view b (copy_at copies k false) (copy_at copies k true)) in
    let Q : Cell → Type 0 = λ a. P a (cell_at (set cells k new) k) in
    subst Q (sym was) (subst (P old) (sym is) (h _ _))

-- the copies of a block after a content was put in one of them
copy_one-set : (copies : List (List ℕ)) (k : ℕ) (second : Bool) (content : List ℕ) → 2 * k + 1 < length copies → copy_at (set copies (place_of k second) content) k false ≡ one_after second content (copy_at copies k false)
copy_one-set copies k false content lt = get_or-set_same copies (2 * k) content _ (omega arith)
copy_one-set copies k true content lt = get_or-set_other copies (2 * k + 1) (2 * k) content _ (omega arith)

-- the same of the second copy
copy_two-set : (copies : List (List ℕ)) (k : ℕ) (second : Bool) (content : List ℕ) → 2 * k + 1 < length copies → copy_at (set copies (place_of k second) content) k true ≡ two_after second content (copy_at copies k true)
copy_two-set copies k false content lt = get_or-set_other copies (2 * k) (2 * k + 1) content _ (omega arith)
copy_two-set copies k true content lt = get_or-set_same copies (2 * k + 1) content _ lt

-- a copy of each block is within the copies
pub place_of-within : (k : ℕ) (second : Bool) (count : ℕ) → k < count → place_of k second < 2 * count
place_of-within k false count lt = omega arith
place_of-within k true count lt = omega arith

-- a cell is changed, and then a content is put in its current copy
pub writes_at : (R : BlockView → BlockView → Type 0) (cells : List Cell) (copies : List (List ℕ)) (k : ℕ) (old new : Cell) (content : List ℕ) → k < length cells → length copies ≡ 2 * length cells → old ≡ get_or cells k old → ((one two : List ℕ) → R (cell_view old one two) (cell_view new (one_after new.second content one) (two_after new.second content two))) → R (view_at cells copies k) (view_at (set cells k new) (set copies (place_of k new.second) content) k)
writes_at R cells copies k old new content lt len e h =
    let was : cell_at cells k ≡ old = read_at cells k old _ lt e in
    let is : cell_at (set cells k new) k ≡ new = cell_at-set_same cells k new lt in
    let one : copy_at (set copies (place_of k new.second) content) k false ≡ one_after new.second content (copy_at copies k false) = copy_one-set copies k new.second content (omega arith) in
    let two : copy_at (set copies (place_of k new.second) content) k true ≡ two_after new.second content (copy_at copies k true) = copy_two-set copies k new.second content (omega arith) in
    let state : view_at (set cells k new) (set copies (place_of k new.second) content) k ≡ cell_view new (one_after new.second content (copy_at copies k false)) (two_after new.second content (copy_at copies k true)) = cc in
    let from : view_at cells copies k ≡ cell_view old (copy_at copies k false) (copy_at copies k true) = cc in
    let Q : BlockView → Type 0 = λ b. R b (view_at (set cells k new) (set copies (place_of k new.second) content) k) in
    subst Q (sym from) (subst (R (cell_view old (copy_at copies k false) (copy_at copies k true))) (sym state) (h _ _))

-- one more block is done
pub DoneBelow-more : (R : BlockView → BlockView → Type 0) (n : ℕ) (old now new : ℕ → BlockView) → DoneBelow R n old now → R (now n) (new n) → ((k : ℕ) → k ≢ n → new k ≡ now k) → DoneBelow R (n + 1) old new
DoneBelow-more R n old now new done step others = record {
  below = λ k lt. elim (cases_eq k n) [
    | inl e ↦
        let at_old : now k ≡ old k = done.rest k (omega arith) in
        let P : BlockView → Type 0 = λ b. R b (new k) in
        let Q : ℕ → Type 0 = λ i. R (now i) (new i) in
        subst P at_old (subst Q (sym e) step)
    | inr ne ↦
        let less : k < n = omega arith in
        let P : BlockView → Type 0 = λ b. R (old k) b in
        subst P (sym (others k ne)) (done.below k less)
  ];
  rest = λ k le. others k (omega arith) ∙ done.rest k (omega arith);
}

-- the range is done, and no block behind it waits for the port
pub DoneBelow-all : (R : ℕ → BlockView → BlockView → Type 0) → ((n : ℕ) (b : BlockView) → b.state.writer ≢ Some n → R n b b) → (cells : List Cell) (copies : List (List ℕ)) (new : ℕ → BlockView) (port first end n : ℕ) → IsWithin cells port first end → end ≤ n → DoneBelow (R port) n (view_at cells copies) new → (k : ℕ) → R port (view_at cells copies k) (new k)
DoneBelow-all R same cells copies new port first end n within le done k = elim (cases_lt k n) [
  | inl lt ↦ done.below k lt
  | inr past ↦
      let P : BlockView → Type 0 = λ b. R port (view_at cells copies k) b in
      subst P (sym (done.rest k past)) (same port _ (λ e. let in_range = (within k e).1 in absurd (omega arith)))
]

-- each outcome after a write is one from before, or the content
pub writes_narrows : (old new : ℕ → BlockView) (port at bit : ℕ) (is_first : Bool) (content : List ℕ) → WritesBlock port content bit is_first (old at) (new at) → ((k : ℕ) → k ≢ at → new k ≡ old k) → (k : ℕ) (o : Option (List ℕ)) → among (new k).state.outcomes o ≡ true → (among (old k).state.outcomes o ≡ true) ⊎ ((k ≡ at) × (o ≡ Some content))
writes_narrows old new port at bit is_first content here others k o h = elim (cases_eq k at) [
  | inl e ↦
      let P : ℕ → Type 0 = λ i. among (new i).state.outcomes o ≡ true in
      elim (here.outcomes o (subst P e h)) [
        | inl was ↦ let Q : ℕ → Type 0 = λ i. among (old i).state.outcomes o ≡ true in inl (subst Q (sym e) was)
        | inr is ↦ inr (e, is)
      ]
  | inr ne ↦ let R : BlockView → Type 0 = λ b. among b.state.outcomes o ≡ true in inl (subst R (others k ne) h)
]

-- a block is lost
pub loses_at : (cells : List Cell) (copies : List (List ℕ)) (k : ℕ) (second : Bool) → k < length cells → Loses k (block_at cells copies) (block_at (set cells k record { mark = Lost; second = second }) copies)
loses_at cells copies k second lt =
    let lost : Cell = record { mark = Lost; second = second } in
    let here : cell_at (set cells k lost) k ≡ lost = cell_at-set_same cells k lost lt in
    let none : waiter_at (set cells k lost) k ≡ None = rw here refl in record {
      current = rw here refl;
      covered = record {
        outcomes = λ o h. covered_one (cell_at (set cells k lost) k).mark _ _ none o h;
        writer = none;
      };
      others = λ j ne. ap (λ (b : BlockView). b.state) (view_at-set_other cells copies k j lost ne);
    }
