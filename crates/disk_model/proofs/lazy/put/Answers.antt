use Rattle.std.proofs.Common.{◌≡◌, ◌<◌, Some, None, ◌∙◌, arith, length, get_or}
use Rattle.std.proofs.Common.{vec_capacity}
use Rattle.disk_model.proofs.Laid.{read_at, room_left, IsLaid-push, laid_out-overwrite, laid_out-push}
use Rattle.disk_model.proofs.lazy.put.Goals as goal

pub index_mut-requires : goal.index_mut-requires
index_mut-requires c =
    let here : get_or c.args.places.now.items c.args.i None ≡ Some c.in-Some.place =
    read_at _ _ _ None c.requires.index c.index.ensures ∙ c.in-Some.is in
    let lt : c.in-Some.place < length c.args.contents.now.items = c.requires.laid.within c.args.i c.in-Some.place here in
    omega (arith, lt)

pub push_reserved-requires : goal.push_reserved-requires
push_reserved-requires c =
    let here : get_or c.args.places.now.items c.args.i None ≡ None =
    read_at _ _ _ None c.requires.index c.index.ensures ∙ c.in-None.is in
    let lt : length c.args.contents.now.items < vec_capacity c.args.contents.now =
    room_left _ _ _ c.args.i c.requires.laid c.requires.index here in
    omega (arith, lt)

pub returns-in-Some-clause-value : goal.returns-in-Some-clause-value
returns-in-Some-clause-value c =
    laid_out-overwrite _ _ _ c.args.i c.in-Some.place c.args.content.now c.requires.laid c.requires.index
    (read_at _ _ _ None c.requires.index c.index.ensures ∙ c.in-Some.is)

pub returns-in-None-clause-laid : goal.returns-in-None-clause-laid
returns-in-None-clause-laid c =
    let here : get_or c.args.places.now.items c.args.i None ≡ None =
    read_at _ _ _ None c.requires.index c.index.ensures ∙ c.in-None.is in
    let len : c.len.result ≡ length c.args.contents.now.items = omega arith in
    rw (len, c.push_reserved.ensures.items, c.push_reserved.ensures.capacity)
    (IsLaid-push _ c.args.contents.now.items _ c.args.i c.args.content.now c.requires.laid c.requires.index here)

pub returns-in-None-clause-value : goal.returns-in-None-clause-value
returns-in-None-clause-value c =
    let here : get_or c.args.places.now.items c.args.i None ≡ None =
    read_at _ _ _ None c.requires.index c.index.ensures ∙ c.in-None.is in
    let len : c.len.result ≡ length c.args.contents.now.items = omega arith in
    rw (len, c.push_reserved.ensures.items)
    (laid_out-push _ c.args.contents.now.items _ c.args.i c.args.content.now c.requires.laid c.requires.index here)
