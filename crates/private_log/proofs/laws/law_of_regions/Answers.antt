use Rattle.private_log.proofs.Regions.{before_pages, regions_apart}
use Rattle.private_log.proofs.laws.law_of_regions.Goals as goal

pub returns : goal.returns
returns c = record { pages = before_pages; apart = regions_apart }
