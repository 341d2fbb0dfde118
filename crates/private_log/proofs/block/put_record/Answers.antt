use Rattle.std.proofs.Common.{◌∙◌, ◌+◌, ◌*◌, ◌∷◌, [], arith, ap}
use Rattle.sd_base.specs.Text.{put}
use Rattle.private_log.proofs.Blocks.{log_block-push}
use Rattle.private_log.proofs.block.put_record.Goals as goal

pub returns : goal.returns
returns c = λ node number records h e is.
    c.put_bytes-2.ensures ∙ (ap (put (64 + 672 * c.args.count) c.args.text.now) (c.put_bytes.ensures ∙ ap (put 9 ((c.args.count + 1) ∷ [])) is) ∙ log_block-push node number c.args.count records c.args.text.now h e (omega arith) (omega arith))
