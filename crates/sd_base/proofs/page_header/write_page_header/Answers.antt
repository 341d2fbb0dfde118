use Rattle.sd_base.proofs.PageLaws.{page_text-nil}
use Rattle.sd_base.proofs.page_header.write_page_header.Goals as goal

pub returns : goal.returns
returns c = cc (page_text-nil c.args.kind c.args.page.0 c.args.ident)
