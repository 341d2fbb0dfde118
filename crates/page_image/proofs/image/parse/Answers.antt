use Rattle.std.proofs.Common.{◌≡◌, ◌∙◌, Some, sym, ap, arith, rules}
use Rattle.page_image.specs.Image.{image_text}
use Rattle.page_image.proofs.ImageLaws.{HasFields-fits, HasFields-same, IsTextOf-fields}
use Rattle.page_image.proofs.image.parse.Goals as goal

pub write_image-requires : goal.write_image-requires
write_image-requires c = record {
  ident = omega arith;
  slots = c.view_at-view.ensures.fields.count;
  values = HasFields-fits c.view_at-view.result c.args.b.now c.view_at-view.ensures.fields;
}

pub returns-then-view-gt-MAX_IDENT-clause-only : goal.returns-then-view-gt-MAX_IDENT-clause-only
returns-then-view-gt-MAX_IDENT-clause-only c = λ v same t.
    let e : c.view_at-view.result.ident ≡ v.ident = c.view_at-view.ensures.fields.ident ∙ sym (IsTextOf-fields v c.args.b.now t).ident in
    absurd (omega (arith, t.image.ident))

pub returns-then-eq-clause-found : goal.returns-then-eq-clause-found
returns-then-eq-clause-found c = (
  c.view_at-view.ensures.page,
  record {
    image = record {
      ident = omega arith;
      slots = c.view_at-view.ensures.fields.count;
      values = HasFields-fits c.view_at-view.result c.args.b.now c.view_at-view.ensures.fields;
    };
    text = search rules;
  },
)

pub returns-then-eq-clause-only : goal.returns-then-eq-clause-only
returns-then-eq-clause-only c = λ v same t.
    ap Some (HasFields-same c.view_at-view.result v c.args.b.now (c.view_at-view.ensures.page ∙ sym same) c.view_at-view.ensures.fields (IsTextOf-fields v c.args.b.now t))

pub returns-else-eq-clause-only : goal.returns-else-eq-clause-only
returns-else-eq-clause-only c = λ v same t.
    let e : c.view_at-view.result ≡ v = HasFields-same c.view_at-view.result v c.args.b.now (c.view_at-view.ensures.page ∙ sym same) c.view_at-view.ensures.fields (IsTextOf-fields v c.args.b.now t) in
    let written : c.write_image.new.out ≡ c.args.b.now = c.write_image.ensures ∙ ap image_text e ∙ sym t.text in
    search rules
