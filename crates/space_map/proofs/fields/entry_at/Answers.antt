use Rattle.std.proofs.Common.{drop, ◌∙◌, ap, sym}
use Rattle.space_map.specs.declared.map_entry.MapEntry.TheVariants.{Free, Used}
use Rattle.space_map.specs.Entry.{entry_of_text}
use Rattle.space_map.proofs.EntryLaws.{entry_of_text-free, entry_of_text-used}
use Rattle.space_map.proofs.fields.entry_at.Goals as goal

pub returns-then-b-at-eq-FREE : goal.returns-then-b-at-eq-FREE
returns-then-b-at-eq-FREE c =
    ap Free c.u64_at-ident.ensures
    ∙ sym (entry_of_text-free c.args.b.now c.entry_place-at.result c.if-b-at-eq-FREE.true)
    ∙ ap (λ n. entry_of_text (drop n c.args.b.now)) c.entry_place-at.ensures

pub returns : goal.returns
returns c =
    let g = c.u32_at.ensures in
    let i = c.u64_at-ident.ensures in
    (λ k. Used (record { 0 = g k }) (i k))
    ∙ sym (entry_of_text-used c.args.b.now c.entry_place-at.result c.if-b-at-eq-FREE.false)
    ∙ ap (λ n. entry_of_text (drop n c.args.b.now)) c.entry_place-at.ensures
