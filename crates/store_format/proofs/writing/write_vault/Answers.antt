use Rattle.std.proofs.Common.{◌≡◌, IsTrue, arith, subst}
use Rattle.std.proofs.lemmas.Result.{on_ok_weaker}
use Rattle.sd_base.specs.Calls.{Covers}
use Rattle.sd_base.specs.Text.{zero_block}
use Rattle.sd_base.specs.Shape.{first_image}
use Rattle.store_format.specs.Stretch.{Fills}
use Rattle.store_format.proofs.Formats.{vault_formatted}
use Rattle.store_format.proofs.writing.write_vault.Goals as goal

pub returns-clause-formatted : goal.returns-clause-formatted
returns-clause-formatted g c =
    let b = (g.V.Disk.state c.write_head.new.vault).block in
    let d = (g.V.Disk.state c.fill.new.disk).block in
    let e = (g.V.Disk.state c.cover.new.disk).block in
    let start : c.image_block.result.0 ≡ first_image c.args.s.now = omega (arith, c.image_block.ensures) in
    let then = λ (covers : IsTrue g.V.Disk.told → Covers 1 d e) (told : IsTrue g.V.Disk.told).
    vault_formatted c.args.s.now (g.V.Disk.state c.args.vault.now).block b d e
    (c.in_ok-write_head.ensures.filled told) (subst (λ end. Fills (first_image c.args.s.now) end (λ k. zero_block) b d) c.vault_need.ensures
    (subst (λ first. Fills first c.vault_need.result (λ k. zero_block) b d) start (c.in_ok-fill.ensures.filled told))) (covers told) in
    on_ok_weaker c.cover.result then c.cover.ensures.covered
