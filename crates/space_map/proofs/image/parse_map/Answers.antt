use Rattle.std.proofs.Common.{◌≡◌, ◌∙◌, Some, sym, ap, subst, refl, All, arith, rules}
use Rattle.std.proofs.lemmas.Bool.Decides.{Decides-eqb}
use Rattle.std.proofs.lemmas.Slice.Eq.{slice_eq-Decides}
use Rattle.space_map.specs.Entry.{IsEntry}
use Rattle.space_map.specs.Image.{map_text}
use Rattle.space_map.specs.Reading.{entries_at, image_at}
use Rattle.space_map.proofs.ImageLaws.{IsMapText-image_at, IsMapText-entries}
use Rattle.space_map.proofs.image.parse_map.Goals as goal
use Rattle.space_map.proofs.image.parse_map.Goals.{then-ident-gt-MAX_IDENT-via-then-ident-gt-MAX_IDENT, then-ident-gt-MAX_IDENT-via-else-ident-gt-MAX_IDENT+then-not-are_entries}

pub returns-then-ident-gt-MAX_IDENT-clause-only : goal.returns-then-ident-gt-MAX_IDENT-clause-only
returns-then-ident-gt-MAX_IDENT-clause-only c = λ m same t.
    let image : image_at c.args.x c.args.b.now ≡ m = IsMapText-image_at m c.args.x c.args.b.now same t in
    let ident : c.page_ident-ident.result ≡ m.ident = c.page_ident-ident.ensures ∙ ap (λ n. n.ident) image in
    let entries : All IsEntry (entries_at c.args.b.now) = subst (All IsEntry) (sym (IsMapText-entries m c.args.b.now t)) t.image.entries in
    elim c.then-ident-gt-MAX_IDENT.branch [
      | then-ident-gt-MAX_IDENT-via-then-ident-gt-MAX_IDENT w ↦ absurd (omega (arith, t.image.ident))
      | then-ident-gt-MAX_IDENT-via-else-ident-gt-MAX_IDENT+then-not-are_entries w ↦ absurd (let yes = w.are_entries.ensures.1 entries in cc)
    ]

pub returns-then-eq-clause-found : goal.returns-then-eq-clause-found
returns-then-eq-clause-found c = (
  image_at c.args.x c.args.b.now,
  refl,
  sym c.page_ident-ident.ensures,
  record {
    image = record {
      ident = omega (arith, c.page_ident-ident.ensures);
      count = refl;
      entries = c.are_entries.ensures.0 (search rules);
    };
    text = sym ((slice_eq-Decides Decides-eqb _ _ _ c.eq.ensures).0 c.if-eq.true) ∙ c.write_as_read.ensures;
  },
)

pub returns-then-eq-clause-only : goal.returns-then-eq-clause-only
returns-then-eq-clause-only c = λ m same t. ap Some (c.page_ident-ident.ensures ∙ ap (λ n. n.ident) (IsMapText-image_at m c.args.x c.args.b.now same t))

pub returns-else-eq-clause-only : goal.returns-else-eq-clause-only
returns-else-eq-clause-only c = λ m same t.
    let image : image_at c.args.x c.args.b.now ≡ m = IsMapText-image_at m c.args.x c.args.b.now same t in
    let written : c.write_as_read.new.out ≡ c.args.b.now = c.write_as_read.ensures ∙ ap map_text image ∙ sym t.text in
    absurd (let yes = (slice_eq-Decides Decides-eqb _ _ _ c.eq.ensures).1 written in let no = c.if-eq.false in cc)
