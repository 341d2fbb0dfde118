use Rattle.std.proofs.Common.{◌≡◌, ◌+◌, ◌*◌, None, take, get_or, ◌∙◌, ap, arith}
use Rattle.std.specs.List.{flat_map}
use Rattle.std.proofs.lemmas.List.{get_or_default}
use Rattle.sd_base.specs.Text.{put}
use Rattle.sd_base.specs.Page.{page_text}
use Rattle.page_image.specs.declared.page_view.PageView.{PageView}
use Rattle.page_image.specs.Slot.{slot_text}
use Rattle.page_image.proofs.ImageLaws.{page_text-next, page_text-all}
use Rattle.page_image.proofs.image.write_image.Goals as goal

pub loop-i-preserved : goal.loop-i-preserved
loop-i-preserved c =
    let v : PageView = c.args.v.now in
    let content : get_or v.slots c.loop-i.i c.index-v-i.result ≡ get_or v.slots c.loop-i.i None = get_or_default v.slots c.loop-i.i c.index-v-i.result None (omega (arith, c.requires.slots)) in
    c.write_slot.ensures.text
    ∙ ap (λ held. put (64 + 252 * c.loop-i.i) (slot_text held) c.loop-i.out) content
    ∙ ap (put (64 + 252 * c.loop-i.i) (slot_text (get_or v.slots c.loop-i.i None))) c.loop-i.invariant
    ∙ page_text-next v c.loop-i.i c.requires c.loop-i-test.true

pub returns : goal.returns
returns c =
    let v : PageView = c.args.v.now in
    let all : c.loop-i.i ≡ 16 = omega arith in
    c.loop-i.invariant ∙ ap (λ n. page_text 2 v.page.0 v.ident (flat_map slot_text (take n v.slots))) all ∙ page_text-all v c.requires
