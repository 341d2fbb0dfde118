use Rattle.std.proofs.Common.{rules, ◌≡◌, Some, map, ap, subst, sym, ◌∙◌}
use Rattle.log_record.specs.Text.{record_text}
use Rattle.one_log_redo.specs.Records.{IsRecordOf}
use Rattle.loser_undo.proofs.LogRecords.{read_is, stop_is_none}
use Rattle.loser_undo.proofs.reading.read_record.Goals as goal

pub returns-in_err-read-clause-damaged : goal.returns-in_err-read-clause-damaged
returns-in_err-read-clause-damaged g c = λ told xs on.
    let none = stop_is_none c.args.log.now xs c.args.r c.args.port.0 c.in_err-read.field-0.0 (c.in_err-read.ensures.there told xs on) in
    search (rules, none)

pub returns-in_err-read-clause-there : goal.returns-in_err-read-clause-there
returns-in_err-read-clause-there g c = λ told recs has.
    let stop = c.in_err-read.ensures.there told (map record_text recs) has.on in
    search (rules, stop)

pub returns-in-Some-clause-record : goal.returns-in-Some-clause-record
returns-in-Some-clause-record g c = λ told recs has.
    let reads = read_is c.args.log.now _ recs c.args.r c.read.new.out has c.requires.from c.requires.below (c.in_ok-read.ensures.record told (map record_text recs) has.on) in
    let only = c.read_record.ensures.only reads.rec (subst (λ s. IsRecordOf s c.read.new.out reads.rec) (sym c.shape.ensures.shape) reads.is) in
    let found = c.in-Some.is in
    let same : reads.rec ≡ c.in-Some.rec = cc in
    reads.there ∙ ap Some same

pub returns-in-None-clause-there : goal.returns-in-None-clause-there
returns-in-None-clause-there g c = λ told recs has.
    let reads = read_is c.args.log.now _ recs c.args.r c.read.new.out has c.requires.from c.requires.below (c.in_ok-read.ensures.record told (map record_text recs) has.on) in
    let only = c.read_record.ensures.only reads.rec (subst (λ s. IsRecordOf s c.read.new.out reads.rec) (sym c.shape.ensures.shape) reads.is) in
    let none = c.in-None.is in
    cc
