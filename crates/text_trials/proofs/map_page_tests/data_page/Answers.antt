use Rattle.std.proofs.Common.{◌≡◌, ◌∙◌, ◌∷◌, ℕ, List, Option, Some, None, All, replicate, ap, sym, refl, codes, arith}
use Rattle.std.specs.List.{flat_map}
use Rattle.std.proofs.lemmas.List.Elements.{All-cons, All-replicate}
use Rattle.sd_base.specs.Text.{put}
use Rattle.sd_base.specs.Page.{page_text}
use Rattle.sd_base.specs.Slot.{FitsSlot, slot_text}
use Rattle.sd_base.proofs.PageLaws.{page_text-zeros, put-in_body}
use Rattle.text_trials.proofs.map_page_tests.data_page.Goals as goal

abbrev slots : List (Option (List ℕ))
slots = Some (codes "hello") ∷ replicate 15 None

abbrev bytes : List ℕ
bytes = 1 ∷ 5 ∷ 0 ∷ 0 ∷ codes "hello"

body : put 0 bytes (replicate 4032 0) ≡ flat_map slot_text slots
unfolding put
body = refl

fit : All FitsSlot slots
fit = All-cons FitsSlot (Some (codes "hello")) (replicate 15 None) (omega arith) (All-replicate FitsSlot 15 None tt)

pub returns : goal.returns
returns c = record {
  image = record { ident = c.requires; slots = refl; values = fit };
  text = c.put_bytes.ensures
      ∙ ap (put 64 bytes) (c.write_page_header.ensures ∙ sym (page_text-zeros 2 7 c.args.ident))
      ∙ put-in_body 2 7 c.args.ident 0 bytes (replicate 4032 0) (omega arith) (omega arith)
      ∙ ap (page_text 2 7 c.args.ident) body;
}
