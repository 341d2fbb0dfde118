use Rattle.std.proofs.Common.{◌≡◌, take, replicate}
use Rattle.std.specs.List.{flat_map}
use Rattle.sd_base.specs.Page.{page_text}
use Rattle.space_map.specs.declared.map_entry.MapEntry.TheVariants.{Free}
use Rattle.space_map.specs.Entry.{entry_text}
use Rattle.space_map.proofs.image.write_birth_map.Given as goal

-- the header stands, and the entries before this one
abbrev pub invariant-loop-place : goal.invariant-loop-place
invariant-loop-place l = l.out ≡ page_text 1 l.fn.x.0 l.ident (flat_map entry_text (take l.place (replicate 252 (Free l.ident))))
