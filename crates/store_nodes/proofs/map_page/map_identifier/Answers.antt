use Rattle.std.proofs.Common.{ap, ◌∙◌}
use Rattle.sd_base.specs.Page.{header_ident}
use Rattle.space_map.proofs.ImageLaws.{ident-read}
use Rattle.store_nodes.proofs.map_page.map_identifier.Goals as goal

pub returns : goal.returns
returns c = λ m t. c.page_ident.ensures ∙ ap header_ident t.text ∙ ident-read m t.image
