use Rattle.std.proofs.Common.{◌≡◌, ◌+◌, ◌*◌, ℕ, List, take, get_or, replicate, ◌∙◌, ap, sym, refl, arith}
use Rattle.std.specs.List.{flat_map}
use Rattle.std.proofs.lemmas.List.{get_or-replicate}
use Rattle.sd_base.specs.Text.{put}
use Rattle.sd_base.specs.Page.{page_text}
use Rattle.space_map.specs.declared.map_entry.MapEntry.{MapEntry}
use Rattle.space_map.specs.declared.map_entry.MapEntry.TheVariants.{Free}
use Rattle.space_map.specs.Entry.{entry_text}
use Rattle.space_map.specs.Image.{map_text}
use Rattle.space_map.proofs.ImageLaws.{page_text-next, page_text-all, IsMapImage-birth_map}
use Rattle.space_map.proofs.image.write_birth_map.Goals as goal

pub loop-place-preserved : goal.loop-place-preserved
loop-place-preserved c =
    let i : ℕ = c.loop-place.place in
    let free : List MapEntry = replicate 252 (Free c.args.ident) in
    let same : Free c.args.ident ≡ get_or free i (Free 0) = sym (get_or-replicate 252 i (Free c.args.ident) (Free 0) (omega arith)) in
    c.write_entry.ensures
    ∙ ap (λ e. put (64 + 16 * i) (entry_text e) c.loop-place.out) same
    ∙ ap (put (64 + 16 * i) (entry_text (get_or free i (Free 0)))) c.loop-place.invariant
    ∙ page_text-next c.args.x.0 c.args.ident i free (Free 0) refl (omega arith)

pub returns : goal.returns
unfolding map_text
returns c =
    let free : List MapEntry = replicate 252 (Free c.args.ident) in
    let all : c.loop-place.place ≡ 252 = omega arith in
    record {
      image = IsMapImage-birth_map c.args.x c.args.ident c.requires;
      text = c.loop-place.invariant
          ∙ ap (λ n. page_text 1 c.args.x.0 c.args.ident (flat_map entry_text (take n free))) all
          ∙ page_text-all c.args.x.0 c.args.ident free refl;
    }
