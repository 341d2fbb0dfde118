use Rattle.std.proofs.Common.{rules, ◌∷◌, [], map, subst, sym}
use Rattle.std.proofs.lemmas.List.{map-append}
use Rattle.sd_base.proofs.Results.{err_then, ok_then}
use Rattle.log_record.specs.declared.record.LogRecord.TheVariants.{Abort}
use Rattle.log_record.specs.Legal.{IsLegal}
use Rattle.log_record.specs.Text.{record_text}
use Rattle.private_log.specs.Spread.{IsCutLog}
use Rattle.private_log.specs.Log.{region}
use Rattle.loser_undo.proofs.LogRecords.{has_more}
use Rattle.loser_undo.proofs.ending.end_loser.Goals as goal

pub returns-clause-records : goal.returns-clause-records
returns-clause-records g c = ok_then c.append_forced.result c.append_forced.ensures.log (λ log told recs has.
    let legal : IsLegal (Abort c.args.l.now.begin c.args.l.now.last) = search rules in
    has_more c.args.log.now c.append_forced.new.log _ _ recs (Abort c.args.l.now.begin c.args.l.now.last) has c.append_forced.ensures.same legal tt (log told (map record_text recs) has.on))

pub returns-clause-cut : goal.returns-clause-cut
returns-clause-cut g c = err_then c.append_forced.result c.append_forced.ensures.cut (λ cut told recs has.
    subst (IsCutLog (region c.args.log.now) c.args.log.now.start c.args.log.now.stable (g.D.Disk.state c.append_forced.new.disk).block) (sym (map-append record_text recs (Abort c.args.l.now.begin c.args.l.now.last ∷ [])))
    (cut told (map record_text recs) has.on))
