use Rattle.std.proofs.Common.{◌≡◌, ◌+◌, ◌*◌, ◌<◌, ◌^◌, ℕ, List, ◌∙◌, ap, arith}
use Rattle.sd_base.specs.Text.{put}
use Rattle.sd_base.specs.Page.{header_ident, with_header_ident}
use Rattle.space_map.specs.Entry.{entry_text}
use Rattle.space_map.specs.Image.{MapImage, IsMapText}
use Rattle.space_map.proofs.ImageLaws.{ident-read, put-map_text, IsMapImage-with_entry}
use Rattle.space_map.proofs.change.put_entry.Goals as goal

-- the identifier that is read in the text of a map page
read_as : (m : MapImage) (b : List ℕ) (ident : ℕ) → ident ≡ header_ident b → IsMapText m b → ident ≡ m.ident
read_as m b ident e t = e ∙ ap header_ident t.text ∙ ident-read m t.image

pub overflow_add-ident : goal.overflow_add-ident
overflow_add-ident c =
    let e = read_as c.requires.image.0 c.args.b.now c.page_ident-ident.result c.page_ident-ident.ensures c.requires.image.1 in omega (arith, e, c.requires.image.2)

pub returns : goal.returns
returns c = λ m t.
    let read : c.page_ident-ident.result ≡ m.ident = read_as m c.args.b.now c.page_ident-ident.result c.page_ident-ident.ensures t in
    let room : m.ident < 2 ^ 63 + 2 ^ 40 = let e = read_as c.requires.image.0 c.args.b.now c.page_ident-ident.result c.page_ident-ident.ensures c.requires.image.1 in omega (arith, read, e, c.requires.image.2) in
    record {
      image = IsMapImage-with_entry m c.args.place c.args.e.now t.image room c.requires.entry;
      text = c.put_page_ident.ensures
          ∙ ap (λ n. with_header_ident (n + 1) c.write_entry.new.out) read
          ∙ ap (with_header_ident (m.ident + 1)) (c.write_entry.ensures ∙ ap (put (64 + 16 * c.args.place) (entry_text c.args.e.now)) t.text)
          ∙ put-map_text m c.args.place c.args.e.now t.image c.requires.place;
    }
