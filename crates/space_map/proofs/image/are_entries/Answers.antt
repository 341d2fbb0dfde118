use Rattle.std.proofs.Common.{◌≡◌, ◌∙◌, ◌↔◌, Bool, false, ◌+◌, ◌*◌, ◌<◌, ℕ, List, get_or, drop, subst, sym, IsTrue, refl, arith}
use Rattle.std.proofs.lemmas.List.FromFn.{get_or-map-range_with_len}
use Rattle.space_map.specs.declared.map_entry.MapEntry.{MapEntry}
use Rattle.space_map.specs.declared.map_entry.MapEntry.TheVariants.{Free}
use Rattle.space_map.specs.Entry.{IsEntry, entry_of_text}
use Rattle.space_map.specs.Reading.{entries_at}
use Rattle.space_map.proofs.image.are_entries.Goals as goal

read : (b : List ℕ) (k : ℕ) (d : MapEntry) → k < 252 → get_or (entries_at b) k d ≡ entry_of_text (drop (64 + 16 * k) b)
read b k d lt = get_or-map-range_with_len (λ i. entry_of_text (drop (64 + 16 * i) b)) 0 252 k k d lt (omega arith)

not_entry : {P : Type 0} (result : Bool) → (IsTrue result ↔ P) → result ≡ false → P → ⊥
not_entry result h is p = let yes : IsTrue result = h.1 p in cc

pub returns-then-not-is_entry : goal.returns-then-not-is_entry
returns-then-not-is_entry c = (λ no. absurd (cc), λ all. absurd (not_entry c.is_entry.result c.is_entry.ensures c.if-not-is_entry.true (subst IsEntry (read c.args.b.now c.loop-place.place (Free 0) c.loop-place-test.true ∙ sym c.entry_at.ensures) (all c.loop-place.place (Free 0) c.loop-place-test.true))))

pub returns : goal.returns
returns c = (λ _. λ k d lt. subst IsEntry (sym (read c.args.b.now k d lt)) (c.loop-place.invariant k (omega arith)), λ _. refl)
