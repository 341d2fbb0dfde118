use Rattle.std.proofs.Common.{◌≡◌, subst, get_or, ◌∙◌, Some, ap, sym, arith}
use Rattle.std.proofs.lemmas.Option.{slice_get-get_or}
use Rattle.space_map.specs.declared.map_entry.MapEntry.TheVariants.{Free}
use Rattle.space_map.specs.Entry.{IsEntry}
use Rattle.space_map.specs.Image.{MapImage, IsMapText}
use Rattle.space_map.proofs.ImageLaws.{IsMapText-entry}
use Rattle.space_map.proofs.image.entry.Goals as goal

pub returns-clause-entry : goal.returns-clause-entry
returns-clause-entry c = λ m t.
    slice_get-get_or m.entries c.args.place (Free 0) (omega (arith, t.image.count, c.requires.place))
    ∙ ap Some (sym (c.entry_at.ensures ∙ IsMapText-entry m c.args.b.now c.args.place t (omega (arith, c.requires.place))))

pub returns-clause-range : goal.returns-clause-range
returns-clause-range c =
    let m : MapImage = c.requires.image.0 in
    let t : IsMapText m c.args.b.now = c.requires.image.1 in
    let read : c.entry_at.result ≡ get_or m.entries c.args.place (Free 0) = c.entry_at.ensures ∙ IsMapText-entry m c.args.b.now c.args.place t (omega (arith, c.requires.place)) in
    subst IsEntry (sym read) (t.image.entries c.args.place (Free 0) (omega (arith, t.image.count, c.requires.place)))
