use Rattle.std.proofs.Common.{rules, ◌≡◌, Some, map, ap, ◌∙◌}
use Rattle.log_record.specs.Text.{record_text}
use Rattle.txn_core.proofs.ReadLaws.{read_is}
use Rattle.txn_core.proofs.reading.read_record.Goals as goal

pub returns-in_err-read-clause-there : goal.returns-in_err-read-clause-there
returns-in_err-read-clause-there g c = λ told recs has.
    let stop = c.in_err-read.ensures.there told (map record_text recs) has.on in
    search (rules, stop)

pub returns-in-Some-clause-record : goal.returns-in-Some-clause-record
returns-in-Some-clause-record g c = λ told recs has.
    let reads = read_is c.args.log.now _ recs c.args.r c.read.new.out has c.requires.from c.requires.below (c.in_ok-read.ensures.record told (map record_text recs) has.on) in
    let only = c.decode.ensures.only reads.rec reads.legal reads.is in
    let found = c.in-Some.is in
    let same : reads.rec ≡ c.in-Some.rec = cc in
    reads.there ∙ ap Some same

pub returns-in-None-clause-there : goal.returns-in-None-clause-there
returns-in-None-clause-there g c = λ told recs has.
    let reads = read_is c.args.log.now _ recs c.args.r c.read.new.out has c.requires.from c.requires.below (c.in_ok-read.ensures.record told (map record_text recs) has.on) in
    let only = c.decode.ensures.only reads.rec reads.legal reads.is in
    let none = c.in-None.is in
    cc
