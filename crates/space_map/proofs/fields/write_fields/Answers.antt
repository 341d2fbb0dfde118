use Rattle.std.proofs.Common.{◌+◌, ℕ, ◌∙◌, ap, arith}
use Rattle.byteorder.specs.Endian.{big_bytes}
use Rattle.sd_base.specs.Text.{put}
use Rattle.space_map.specs.Entry.{fields_text}
use Rattle.space_map.proofs.EntryLaws.{put-fields}
use Rattle.space_map.proofs.fields.write_fields.Goals as goal

pub returns : goal.returns
returns c =
    let at : ℕ = c.entry_place-at.result in
    c.put_u64.ensures
    ∙ ap (put (at + 8) (big_bytes 8 c.args.ident)) (c.put_u32.ensures ∙ ap (put (at + 4) (big_bytes 4 c.args.group)) c.put_bytes.ensures)
    ∙ put-fields c.args.state c.args.group c.args.ident at c.args.out.now (omega arith)
    ∙ ap (λ n. put n (fields_text c.args.state c.args.group c.args.ident) c.args.out.now) c.entry_place-at.ensures
