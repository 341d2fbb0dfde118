use Rattle.std.proofs.Common.{rules, ◌≡◌, true, false}
use Rattle.state_ids.specs.PageImage.{is_map_op, changed}
use Rattle.state_ids.proofs.PageLaws.{Shows-written, Shows-out, Shows-text, changed_data, changed_map}
use Rattle.state_ids.proofs.changing.change_frame.Goals as goal

pub returns-in-Put-clause-image : goal.returns-in-Put-clause-image
returns-in-Put-clause-image c = λ image shows kind.
    let slot : is_map_op c.args.op.now ≡ false = search rules in
    Shows-written c.args.pool.now c.args.f.now c.apply.new.b (changed c.args.op.now image) (Shows-out c.args.pool.now c.args.f.now image shows)
    (changed_data c.args.op.now image c.bytes_mut.result.now c.apply.new.b slot kind (Shows-text c.args.pool.now c.args.f.now image c.bytes_mut.result.now shows c.bytes_mut.ensures.value) c.apply.ensures)

pub returns-in-MapUse-clause-image : goal.returns-in-MapUse-clause-image
returns-in-MapUse-clause-image c = λ image shows kind.
    let entry : is_map_op c.args.op.now ≡ true = search rules in
    Shows-written c.args.pool.now c.args.f.now c.apply_map.new.b (changed c.args.op.now image) (Shows-out c.args.pool.now c.args.f.now image shows)
    (changed_map c.args.op.now image c.bytes_mut-in-MapUse.result.now c.apply_map.new.b entry kind (Shows-text c.args.pool.now c.args.f.now image c.bytes_mut-in-MapUse.result.now shows c.bytes_mut-in-MapUse.ensures.value) c.apply_map.ensures)
