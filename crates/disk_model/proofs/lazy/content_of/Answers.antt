use Rattle.std.proofs.Common.{◌≡◌, ◌<◌, Some, None, ◌∙◌, sym, ap, arith, length, get_or}
use Rattle.disk_model.specs.Lazy.{zero_block, content_at}
use Rattle.disk_model.proofs.Laid.{read_at, laid_out-at}
use Rattle.disk_model.proofs.lazy.content_of.Goals as goal

pub index-requires-in-Some : goal.index-requires-in-Some
index-requires-in-Some c =
    let here : get_or c.args.places.now.items c.args.i None ≡ Some c.in-Some.place =
    read_at _ _ _ None c.requires.index c.index.ensures ∙ c.in-Some.is in
    let lt : c.in-Some.place < length c.args.contents.now.items = c.requires.laid.within c.args.i c.in-Some.place here in
    omega (arith, lt)

pub returns-in-Some : goal.returns-in-Some
returns-in-Some c =
    let here : get_or c.args.places.now.items c.args.i None ≡ Some c.in-Some.place =
    read_at _ _ _ None c.requires.index c.index.ensures ∙ c.in-Some.is in
    let lt : c.in-Some.place < length c.args.contents.now.items = c.requires.laid.within c.args.i c.in-Some.place here in
    sym (laid_out-at _ c.args.contents.now.items c.args.i c.requires.index ∙ ap (content_at c.args.contents.now.items) here
    ∙ read_at _ _ _ zero_block lt c.index-in-Some.ensures)

pub returns-in-None : goal.returns-in-None
unfolding zero_block
returns-in-None c =
    let here : get_or c.args.places.now.items c.args.i None ≡ None =
    read_at _ _ _ None c.requires.index c.index.ensures ∙ c.in-None.is in
    sym (laid_out-at _ c.args.contents.now.items c.args.i c.requires.index ∙ ap (content_at c.args.contents.now.items) here)
