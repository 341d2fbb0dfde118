use Rattle.std.proofs.Common.{◌≡◌, ◌+◌, ◌*◌, ℕ, List, take, get_or, drop, ◌∙◌, ap, sym, refl, arith}
use Rattle.std.specs.List.{flat_map}
use Rattle.std.proofs.lemmas.List.FromFn.{get_or-map-range_with_len}
use Rattle.sd_base.specs.Text.{put}
use Rattle.sd_base.specs.Page.{page_text, header_ident}
use Rattle.space_map.specs.declared.map_entry.MapEntry.TheVariants.{Free}
use Rattle.space_map.specs.Entry.{entry_text, entry_of_text}
use Rattle.space_map.specs.Image.{map_text}
use Rattle.space_map.specs.Reading.{entries_at}
use Rattle.space_map.proofs.ImageLaws.{page_text-next, page_text-all}
use Rattle.space_map.proofs.image.write_as_read.Goals as goal

pub loop-place-preserved : goal.loop-place-preserved
loop-place-preserved c =
    let i : ℕ = c.loop-place.place in
    let b : List ℕ = c.args.b.now in
    let read : c.entry_at.result ≡ get_or (entries_at b) i (Free 0) = c.entry_at.ensures ∙ sym (get_or-map-range_with_len (λ k. entry_of_text (drop (64 + 16 * k) b)) 0 252 i i (Free 0) (omega arith) (omega arith)) in
    c.write_entry.ensures
    ∙ ap (λ e. put (64 + 16 * i) (entry_text e) c.loop-place.out) read
    ∙ ap (put (64 + 16 * i) (entry_text (get_or (entries_at b) i (Free 0)))) c.loop-place.invariant
    ∙ page_text-next c.args.x.0 (header_ident b) i (entries_at b) (Free 0) refl (omega arith)

pub returns : goal.returns
unfolding map_text
returns c =
    let b : List ℕ = c.args.b.now in
    let all : c.loop-place.place ≡ 252 = omega arith in
    c.loop-place.invariant
    ∙ ap (λ n. page_text 1 c.args.x.0 (header_ident b) (flat_map entry_text (take n (entries_at b)))) all
    ∙ page_text-all c.args.x.0 (header_ident b) (entries_at b) refl
