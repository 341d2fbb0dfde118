use Rattle.std.proofs.Common.{◌≡◌, ◌+◌, ◌*◌, ◌<◌, ◌^◌, ℕ, List, ◌∙◌, ap, arith}
use Rattle.sd_base.specs.Text.{put}
use Rattle.sd_base.specs.Page.{header_ident, with_header_ident}
use Rattle.page_image.specs.declared.page_view.PageView.{PageView}
use Rattle.page_image.specs.Slot.{slot_text}
use Rattle.page_image.specs.Image.{IsTextOf}
use Rattle.page_image.proofs.ImageLaws.{ident-read, put-image_text, IsImage-with_put}
use Rattle.page_image.proofs.change.apply_put.Goals as goal

-- the identifier that is read in the text of a data page
read_as : (v : PageView) (b : List ℕ) (ident : ℕ) → ident ≡ header_ident b → IsTextOf v b → ident ≡ v.ident
read_as v b ident e t = e ∙ ap header_ident t.text ∙ ident-read v t.image

pub overflow_add-ident : goal.overflow_add-ident
overflow_add-ident c =
    let e = read_as c.requires.image.0 c.args.b.now c.page_ident-ident.result c.page_ident-ident.ensures c.requires.image.1 in omega (arith, e, c.requires.image.2)

pub returns : goal.returns
returns c = λ v t.
    let read : c.page_ident-ident.result ≡ v.ident = read_as v c.args.b.now c.page_ident-ident.result c.page_ident-ident.ensures t in
    let room : v.ident < 2 ^ 63 + 2 ^ 40 = let e = read_as c.requires.image.0 c.args.b.now c.page_ident-ident.result c.page_ident-ident.ensures c.requires.image.1 in omega (arith, read, e, c.requires.image.2) in
    record {
      image = IsImage-with_put v c.args.slot c.args.after.now t.image room c.write_slot.ensures.fits;
      text = c.put_page_ident.ensures
          ∙ ap (λ n. with_header_ident (n + 1) c.write_slot.new.out) read
          ∙ ap (with_header_ident (v.ident + 1)) (c.write_slot.ensures.text ∙ ap (put (64 + 252 * c.args.slot) (slot_text c.args.after.now)) t.text)
          ∙ put-image_text v c.args.slot c.args.after.now t.image c.requires.slot c.write_slot.ensures.fits;
    }
