-- What a write, a barrier and a stop do to one block, by its cell and its two copies.
use Rattle.std.proofs.Common.{◌≡◌, ◌≢◌, ◌⊎◌, ℕ, Bool, true, false, not, List, Option, Some, None, refl, sym, ap, ◌∙◌, inl, inr}
use Rattle.std.proofs.lemmas.Bool.{cases_eq}
use Rattle.std.proofs.Common.{◌/◌, ◌%◌, ◌^◌, IsBitSet, bit_and}
use Rattle.std.proofs.lemmas.Nat.{bit_set_by_shift}
use Rattle.sd_base.specs.Disk.{IsFreeFor}
use Rattle.sd_base.specs.Outcomes.{among, among-one, among-more, among-here, among-there}
use Rattle.disk_model.specs.Memory.{BlockView, view_of, cell_view, current_copy, other_copy, writer_of}
use Rattle.disk_model.specs.MemStateLaws.{covered_one}
use Rattle.disk_model.specs.Settling.{WritesBlock, SettlesBlock, CoversBlock, StopsBlock, one_after, two_after}
use Rattle.disk_model.specs.declared.cell.Cell.{Cell}
use Rattle.disk_model.specs.declared.cell.Mark.{Mark}
use Rattle.disk_model.specs.declared.cell.Mark.TheVariants.{Covered, Lost, Waiting}

-- a block that the port has not written
pub SettlesBlock-same : (port : ℕ) (b : BlockView) → b.state.writer ≢ Some port → SettlesBlock port b b
SettlesBlock-same port b ne = record {
  outcomes = λ o h. h;
  one = λ e. absurd (ne e);
  writer = λ e. absurd (ne e);
  foreign = λ _. refl;
}

-- the same of a stop
pub StopsBlock-same : (picks port : ℕ) (b : BlockView) → b.state.writer ≢ Some port → StopsBlock port picks b b
StopsBlock-same picks port b ne = record {
  settles = SettlesBlock-same port b ne;
  kept = λ e. absurd (ne e);
  back = λ e. absurd (ne e);
}

-- the same of a barrier
pub CoversBlock-same : (port : ℕ) (b : BlockView) → b.state.writer ≢ Some port → CoversBlock port b b
CoversBlock-same port b ne = record { current = refl; settles = SettlesBlock-same port b ne }

-- the current content is taken
settles_now : (port bit : ℕ) (was_lost : Bool) (now before : List ℕ) → SettlesBlock port (view_of (Waiting port was_lost bit) now before) (view_of Covered now before)
settles_now port bit was_lost now before = record {
  outcomes = λ o h. among-here _ _ _ (among-one _ _ h);
  one = λ e o h. among-one _ _ h;
  writer = λ e. refl;
  foreign = λ ne. absurd (ne refl);
}

-- what it held before is taken
settles_before : (port bit : ℕ) (now before other : List ℕ) → SettlesBlock port (view_of (Waiting port false bit) now before) (view_of Covered before other)
settles_before port bit now before other = record {
  outcomes = λ o h. among-there _ _ _ h;
  one = λ e o h. among-one _ _ h;
  writer = λ e. refl;
  foreign = λ ne. absurd (ne refl);
}

-- it was lost, and is lost again
settles_lost : (port bit : ℕ) (now before : List ℕ) → SettlesBlock port (view_of (Waiting port true bit) now before) (view_of Lost now before)
settles_lost port bit now before = record {
  outcomes = λ o h. among-there _ _ _ h;
  one = λ e o h. among-one _ _ h;
  writer = λ e. refl;
  foreign = λ ne. absurd (ne refl);
}

-- the block's bit is set
stops_now : (port picks bit : ℕ) (was_lost : Bool) (now before : List ℕ) → IsBitSet picks (bit % 64) → StopsBlock port picks (view_of (Waiting port was_lost bit) now before) (view_of Covered now before)
stops_now port picks bit was_lost now before set = record {
  settles = settles_now port bit was_lost now before;
  kept = λ e one. refl;
  back = λ e zero. absurd (zero set);
}

-- it is not, and the block was lost
stops_lost : (port picks bit : ℕ) (now before : List ℕ) → ¬ IsBitSet picks (bit % 64) → StopsBlock port picks (view_of (Waiting port true bit) now before) (view_of Lost now before)
stops_lost port picks bit now before unset = record {
  settles = settles_lost port bit now before;
  kept = λ e one. absurd (unset one);
  back = λ e zero. refl;
}

-- it is not, and the block had a content
stops_before : (port picks bit : ℕ) (now before other : List ℕ) → ¬ IsBitSet picks (bit % 64) → StopsBlock port picks (view_of (Waiting port false bit) now before) (view_of Covered before other)
stops_before port picks bit now before other unset = record {
  settles = settles_before port bit now before other;
  kept = λ e one. absurd (unset one);
  back = λ e zero. refl;
}

-- the other copy becomes the current one
stops_back : (second : Bool) (port picks bit : ℕ) (one two : List ℕ) → ¬ IsBitSet picks (bit % 64) → StopsBlock port picks (cell_view record { mark = Waiting port false bit; second = second } one two) (cell_view record { mark = Covered; second = not second } one two)
stops_back false port picks bit one two unset = stops_before port picks bit one two one unset
stops_back true port picks bit one two unset = stops_before port picks bit two one two unset

-- the same of a mark that is known by an equation, and of the code's test of the bit
pub stops_now_at : (m : Mark) (second : Bool) (writer port picks bit : ℕ) (was_lost : Bool) (one two : List ℕ) → m ≡ Waiting writer was_lost bit → writer ≡ port → bit_and (picks / 2 ^ (bit % 64)) 1 ≡ 1 → StopsBlock port picks (cell_view record { mark = m; second = second } one two) (cell_view record { mark = Covered; second = second } one two)
stops_now_at m second writer port picks bit was_lost one two e f set =
    rw (e, f) (stops_now port picks bit was_lost (current_copy second one two) (other_copy second one two) ((bit_set_by_shift picks (bit % 64)).0 set))

-- where the bit is 0, of a block that was lost
pub stops_lost_at : (m : Mark) (second : Bool) (writer port picks bit : ℕ) (was_lost : Bool) (one two : List ℕ) → m ≡ Waiting writer was_lost bit → writer ≡ port → ¬ (bit_and (picks / 2 ^ (bit % 64)) 1 ≡ 1) → was_lost ≡ true → StopsBlock port picks (cell_view record { mark = m; second = second } one two) (cell_view record { mark = Lost; second = second } one two)
stops_lost_at m second writer port picks bit was_lost one two e f unset g =
    rw (e, f, g) (stops_lost port picks bit (current_copy second one two) (other_copy second one two) (λ set. unset ((bit_set_by_shift picks (bit % 64)).1 set)))

-- where the bit is 0, of a block that had a content
pub stops_back_at : (m : Mark) (second : Bool) (writer port picks bit : ℕ) (was_lost : Bool) (one two : List ℕ) → m ≡ Waiting writer was_lost bit → writer ≡ port → ¬ (bit_and (picks / 2 ^ (bit % 64)) 1 ≡ 1) → was_lost ≡ false → StopsBlock port picks (cell_view record { mark = m; second = second } one two) (cell_view record { mark = Covered; second = not second } one two)
stops_back_at m second writer port picks bit was_lost one two e f unset g =
    rw (e, f, g) (stops_back second port picks bit one two (λ set. unset ((bit_set_by_shift picks (bit % 64)).1 set)))

-- a barrier takes the current content
pub covers_at : (m : Mark) (second : Bool) (writer port bit : ℕ) (was_lost : Bool) (one two : List ℕ) → m ≡ Waiting writer was_lost bit → writer ≡ port → CoversBlock port (cell_view record { mark = m; second = second } one two) (cell_view record { mark = Covered; second = second } one two)
covers_at m second writer port bit was_lost one two e f = rw (e, f) record { current = refl; settles = settles_now port bit was_lost _ _ }

-- a further write of the same port
writes_again : (port given bit : ℕ) (was_lost : Bool) (now before content : List ℕ) → WritesBlock port content given false (view_of (Waiting port was_lost bit) now before) (view_of (Waiting port was_lost bit) content before)
writes_again port given bit was_lost now before content = record {
  current = refl;
  writer = refl;
  outcomes = λ o h. elim (among-more _ _ o h) [ inl new ↦ inr new | inr old ↦ inl (among-there _ _ _ old) ];
  stood = refl;
  first = λ e. cc;
  again = λ e. (refl, refl);
}

-- it goes to the current copy
writes_current : (second : Bool) (port given bit : ℕ) (was_lost : Bool) (content one two : List ℕ) → let cell : Cell = record { mark = Waiting port was_lost bit; second = second } in WritesBlock port content given false (cell_view cell one two) (cell_view cell (one_after second content one) (two_after second content two))
writes_current false port given bit was_lost content one two = writes_again port given bit was_lost one two content
writes_current true port given bit was_lost content one two = writes_again port given bit was_lost two one content

-- the first write of a covered block
writes_covered : (port bit : ℕ) (now before content : List ℕ) → WritesBlock port content (bit % 64) true (view_of Covered now before) (view_of (Waiting port false bit) content now)
writes_covered port bit now before content = record {
  current = refl;
  writer = refl;
  outcomes = λ o h. elim (among-more _ _ o h) [ inl new ↦ inr new | inr old ↦ inl old ];
  stood = refl;
  first = λ e. (refl, refl);
  again = λ e. cc;
}

-- the first write of a lost block
writes_lost : (port bit : ℕ) (now before content : List ℕ) → WritesBlock port content (bit % 64) true (view_of Lost now before) (view_of (Waiting port true bit) content now)
writes_lost port bit now before content = record {
  current = refl;
  writer = refl;
  outcomes = λ o h. elim (among-more _ _ o h) [ inl new ↦ inr new | inr old ↦ inl old ];
  stood = refl;
  first = λ e. (refl, refl);
  again = λ e. cc;
}

-- it goes to the other copy, which becomes the current one
writes_other : (second : Bool) (port bit : ℕ) (content one two : List ℕ) → WritesBlock port content (bit % 64) true (cell_view record { mark = Covered; second = second } one two) (cell_view record { mark = Waiting port false bit; second = not second } (one_after (not second) content one) (two_after (not second) content two))
writes_other false port bit content one two = writes_covered port bit one two content
writes_other true port bit content one two = writes_covered port bit two one content

-- the same of a lost block
writes_other_lost : (second : Bool) (port bit : ℕ) (content one two : List ℕ) → WritesBlock port content (bit % 64) true (cell_view record { mark = Lost; second = second } one two) (cell_view record { mark = Waiting port true bit; second = not second } (one_after (not second) content one) (two_after (not second) content two))
writes_other_lost false port bit content one two = writes_lost port bit one two content
writes_other_lost true port bit content one two = writes_lost port bit two one content

-- the same of a mark that is known by an equation
pub writes_current_at : (m : Mark) (second : Bool) (writer port given bit : ℕ) (was_lost : Bool) (content one two : List ℕ) → m ≡ Waiting writer was_lost bit → (writer_of m ≡ Some port) ⊎ (writer_of m ≡ None) → let cell : Cell = record { mark = m; second = second } in WritesBlock port content given false (cell_view cell one two) (cell_view cell (one_after second content one) (two_after second content two))
writes_current_at m second writer port given bit was_lost content one two e free =
    let mine : writer ≡ port = elim free [
      | inl same ↦ let f : Some writer ≡ Some port = rw e at same in cc
      | inr none ↦ let f : Some writer ≡ None = rw e at none in cc
    ] in
    rw (e, mine) (writes_current second port given bit was_lost content one two)

-- the first write, of a covered block
pub writes_covered_at : (m : Mark) (second : Bool) (port bit : ℕ) (was_lost : Bool) (content one two : List ℕ) → m ≡ Covered → was_lost ≡ false → WritesBlock port content (bit % 64) true (cell_view record { mark = m; second = second } one two) (cell_view record { mark = Waiting port was_lost bit; second = not second } (one_after (not second) content one) (two_after (not second) content two))
writes_covered_at m second port bit was_lost content one two e f = rw (e, f) (writes_other second port bit content one two)

-- the first write, of a lost block
pub writes_lost_at : (m : Mark) (second : Bool) (port bit : ℕ) (was_lost : Bool) (content one two : List ℕ) → m ≡ Lost → was_lost ≡ true → WritesBlock port content (bit % 64) true (cell_view record { mark = m; second = second } one two) (cell_view record { mark = Waiting port was_lost bit; second = not second } (one_after (not second) content one) (two_after (not second) content two))
writes_lost_at m second port bit was_lost content one two e f = rw (e, f) (writes_other_lost second port bit content one two)

-- what a covered block holds, where no other port had written it
pub covers_holds : (port : ℕ) (m : Mark) (now before : List ℕ) (new : BlockView) → CoversBlock port (view_of m now before) new → IsFreeFor port (view_of m now before).state → (o : Option (List ℕ)) → among new.state.outcomes o ≡ true → o ≡ (view_of m now before).state.current
covers_holds port m now before new covers free o h = elim free [
  | inl mine ↦ covers.settles.one mine o h ∙ covers.current
  | inr none ↦ covered_one m now before none o (covers.settles.outcomes o h)
]

-- a covered block has no writer, where no other port had written it
pub covers_writer : (port : ℕ) (old new : BlockView) → CoversBlock port old new → IsFreeFor port old.state → new.state.writer ≡ None
covers_writer port old new covers free = elim free [
  | inl mine ↦ covers.settles.writer mine
  | inr none ↦
      let other : old.state.writer ≢ Some port = λ e. cc in
      ap (λ (b : BlockView). b.state.writer) (covers.settles.foreign other) ∙ none
]

-- a block that waits for a port, or not
writer_cases : (o : Option ℕ) (n : ℕ) → (o ≡ Some n) ⊎ (o ≢ Some n)
writer_cases None n = inr (λ e. cc)
writer_cases (Some m) n = elim (cases_eq m n) [
  | inl e ↦ inl (ap Some e)
  | inr ne ↦ inr (λ e. let same : m ≡ n = cc in ne same)
]

-- a block that still waits after its port has stopped waited before, and for another port
pub settles_waits : (port : ℕ) (old new : BlockView) (n : ℕ) → SettlesBlock port old new → new.state.writer ≡ Some n → (old.state.writer ≡ Some n) × (n ≢ port)
settles_waits port old new n settles waits = elim (writer_cases old.state.writer port) [
  | inl mine ↦ let none = settles.writer mine in cc
  | inr other ↦
      let same : new.state.writer ≡ old.state.writer = ap (λ (b : BlockView). b.state.writer) (settles.foreign other) in
      let was : old.state.writer ≡ Some n = sym same ∙ waits in
      (was, λ e. other (was ∙ ap Some e))
]

-- a stop and a barrier give no block a new writer
pub settles_writer : (port : ℕ) (old new : BlockView) → SettlesBlock port old new → (new.state.writer ≡ old.state.writer) ⊎ (new.state.writer ≡ None)
settles_writer port old new settles = elim (writer_cases old.state.writer port) [
  | inl mine ↦ inr (settles.writer mine)
  | inr other ↦ inl (ap (λ (b : BlockView). b.state.writer) (settles.foreign other))
]
