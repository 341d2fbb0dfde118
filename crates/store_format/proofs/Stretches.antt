-- Stretches of blocks, one after another.
use Rattle.std.proofs.Common.{◌≡◌, ◌≢◌, ◌≤◌, ◌<◌, ◌∙◌, ℕ, List, Option, Some, None, inl, inr, sym, ap, refl, arith}
use Rattle.std.proofs.lemmas.Bool.{cases_lt}
use Rattle.sd_base.specs.Disk.{BlockState}
use Rattle.sd_base.specs.Calls.{Covers, KeepsForeign}
use Rattle.store_format.specs.Device.{IsFreeForOne, IsAllCovered}
use Rattle.store_format.specs.Stretch.{IsOutside, KeepsOutside, Fills, CutsFill, Lays}

-- a stretch without blocks
pub fills_none : (at : ℕ) (text : ℕ → List ℕ) (b : ℕ → BlockState) → IsFreeForOne b → Fills at at text b b
fills_none at text b free = record {
  within = λ k low high. absurd (omega arith);
  contents = λ k out. refl;
  outside = λ k out other. refl;
  free = free;
}

-- what lies outside of a stretch lies outside of its parts
outside_front : (first mid end k : ℕ) → mid ≤ end → IsOutside first end k → IsOutside first mid k
outside_front first mid end k le (inl low) = inl low
outside_front first mid end k le (inr high) = inr (omega arith)

outside_back : (first mid end k : ℕ) → first ≤ mid → IsOutside first end k → IsOutside mid end k
outside_back first mid end k le (inl low) = inl (omega arith)
outside_back first mid end k le (inr high) = inr high

-- what the port had not written, it has not written outside of a stretch
still_other : (first end k : ℕ) (a b : ℕ → BlockState) → KeepsOutside first end a b → IsOutside first end k → (a k).writer ≢ Some 1 → (b k).writer ≢ Some 1
still_other first end k a b keeps out other is = other (sym (ap (λ (s : BlockState). s.writer) (keeps k out other)) ∙ is)

outside_then : (first mid end : ℕ) (a b c : ℕ → BlockState) → first ≤ mid → mid ≤ end → KeepsOutside first mid a b → KeepsOutside mid end b c → KeepsOutside first end a c
outside_then first mid end a b c low high one two k out other =
    let front : IsOutside first mid k = outside_front first mid end k high out in
    two k (outside_back first mid end k low out) (still_other first mid k a b one front other) ∙ one k front other

-- two stretches, one behind the other
pub fills_then : (first mid end : ℕ) (text : ℕ → List ℕ) (a b c : ℕ → BlockState) → first ≤ mid → mid ≤ end → Fills first mid text a b → Fills mid end text b c → Fills first end text a c
fills_then first mid end text a b c low high one two = record {
  within = λ k from to. elim (cases_lt k mid) [
    | inl front ↦ two.contents k (inl front) ∙ one.within k from front
    | inr back ↦ two.within k back to
  ];
  contents = λ k out. two.contents k (outside_back first mid end k low out) ∙ one.contents k (outside_front first mid end k high out);
  outside = outside_then first mid end a b c low high one.outside two.outside;
  free = two.free;
}

-- the port stopped in the second one
pub fills_cut : (first mid end : ℕ) (text : ℕ → List ℕ) (a b c : ℕ → BlockState) → first ≤ mid → mid ≤ end → Fills first mid text a b → CutsFill mid end b c → CutsFill first end a c
fills_cut first mid end text a b c low high one two = record {
  outside = outside_then first mid end a b c low high one.outside two.outside;
  quiet = two.quiet;
}

-- the port stopped in a part of the stretch
pub cut_wider : (first mid from end : ℕ) (a b : ℕ → BlockState) → from ≤ first → mid ≤ end → CutsFill first mid a b → CutsFill from end a b
cut_wider first mid from end a b low high cut = record {
  outside = λ k out other. cut.outside k (outside_back from first mid k low (outside_front from mid end k high out)) other;
  quiet = cut.quiet;
}

-- the texts of the stretch alone count
pub fills_text : (first end : ℕ) (text other : ℕ → List ℕ) (a b : ℕ → BlockState) → ((k : ℕ) → first ≤ k → k < end → text k ≡ other k) → Fills first end text a b → Fills first end other a b
fills_text first end text other a b same f = record {
  within = λ k low high. f.within k low high ∙ ap Some (same k low high);
  contents = f.contents;
  outside = f.outside;
  free = f.free;
}

-- a block without a writer isn't that of the port
pub no_writer : (w : Option ℕ) → w ≡ None → w ≢ Some 1
no_writer w none some = cc

-- a stretch that was written and then covered
pub laid : (first end : ℕ) (text : ℕ → List ℕ) (a b c : ℕ → BlockState) → IsAllCovered a → Fills first end text a b → Covers 1 b c → KeepsForeign 1 b c → Lays first end text a c
laid first end text a b c quiet f covers keeps = record {
  within = λ k low high o may. covers.holds k (f.free k) o may ∙ f.within k low high;
  outside = λ k out.
      let other : (a k).writer ≢ Some 1 = no_writer (a k).writer (quiet k) in
      keeps k (still_other first end k a b f.outside out other) ∙ f.outside k out other;
  quiet = λ k. covers.writer k (f.free k);
}
