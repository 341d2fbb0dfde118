use Rattle.std.proofs.Common.{◌≡◌, ◌≤◌, ◌+◌, ◌-◌, ℕ, List, length, take, drop, Some, ◌∙◌, ap, sym, arith}
use Rattle.std.proofs.lemmas.List.{length-take}
use Rattle.page_image.specs.Slot.{slot_of_text}
use Rattle.page_image.proofs.SlotLaws.{value_from, slot_of_text-present}
use Rattle.page_image.proofs.slots.slot_at.Goals as goal

pub returns : goal.returns
returns c =
    let at : ℕ = c.slot_place-at.result in
    let len : ℕ = c.min-len.result in
    let rest : List ℕ = drop (at + 4) c.args.b.now in
    let all : at + 4 + len - (at + 4) ≡ len = omega arith in
    let short : length (take (at + 4 + len - (at + 4)) rest) ≤ 248 = omega (arith, length-take (at + 4 + len - (at + 4)) rest, c.min-len.ensures) in
    value_from c.from_slice.result (take (at + 4 + len - (at + 4)) rest) c.from_slice.ensures.long c.from_slice.ensures.value short
    ∙ ap (λ n. Some (take n rest)) all
    ∙ sym (slot_of_text-present c.args.b.now at len c.if-b-at-eq0.false c.min-len.ensures)
    ∙ ap (λ n. slot_of_text (drop n c.args.b.now)) c.slot_place-at.ensures
