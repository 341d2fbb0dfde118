use Rattle.sd_base.proofs.ValueLaws.{take-append_past}
use Rattle.sd_base.proofs.value.Value.join.Goals as goal

pub returns : goal.returns
returns c = cc (take-append_past 248 c.args.self.now c.args.more.now c.as_slice-bytes.ensures.short)
