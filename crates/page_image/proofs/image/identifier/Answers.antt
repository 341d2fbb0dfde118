use Rattle.std.proofs.Common.{◌∙◌, ap}
use Rattle.sd_base.specs.Page.{header_ident}
use Rattle.page_image.proofs.ImageLaws.{ident-read}
use Rattle.page_image.proofs.image.identifier.Goals as goal

pub returns : goal.returns
returns c = λ v t. c.page_ident.ensures ∙ ap header_ident t.text ∙ ident-read v t.image
