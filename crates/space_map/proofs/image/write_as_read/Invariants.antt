use Rattle.std.proofs.Common.{◌≡◌, take}
use Rattle.std.specs.List.{flat_map}
use Rattle.sd_base.specs.Page.{page_text, header_ident}
use Rattle.space_map.specs.Entry.{entry_text}
use Rattle.space_map.specs.Reading.{entries_at}
use Rattle.space_map.proofs.image.write_as_read.Given as goal

-- the header stands, and the entries before this one
abbrev pub invariant-loop-place : goal.invariant-loop-place
invariant-loop-place l = l.out ≡ page_text 1 l.fn.x.0 (header_ident l.b) (flat_map entry_text (take l.place (entries_at l.b)))
