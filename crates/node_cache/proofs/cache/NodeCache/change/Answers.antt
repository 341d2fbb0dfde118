use Rattle.std.specs.Prelude.{◌≡◌, ◌≢◌, ◌+◌, ◌/◌, ◌++◌, [], ◌∷◌, AllPairs, slice_index_or}
use Rattle.std.proofs.Common.{ap, arith, subst, subst₂, sym, ◌∙◌}
use Rattle.std.proofs.lemmas.List.{length-append}
use Rattle.log_record.specs.Text.{record_text}
use Rattle.private_log.specs.Frames.{NarrowsBeside}
use Rattle.sd_base.proofs.Results.{on_err}
use Rattle.node_cache.specs.Cache.{IsTiedToLog, IsTiedToDisk, IsOfStore, with_page, changed_by}
use Rattle.private_log.specs.Log.{LogState, next_place}
use Rattle.node_cache.proofs.Ties.{rises_logged, tied_changed, state_of}
use Rattle.node_cache.proofs.DiskTie.{tied_beside}
use Rattle.node_cache.proofs.RecordTie.{AreBefore, before_changed, before_narrowed, pages_beside_log}
use Rattle.node_cache.proofs.cache.NodeCache.change.Goals as goal

pub returns-in_err-logged-clause-shown : goal.returns-in_err-logged-clause-shown
returns-in_err-logged-clause-shown g c = λ s shown. rw (ap (λ v. v.pages) c.self.view_is) shown

pub returns-in_err-logged-clause-cut : goal.returns-in_err-logged-clause-cut
returns-in_err-logged-clause-cut g c = rw (← c.self.view_is) (on_err c.from_residual.result c.in_err-logged.ensures.cut)

pub returns-in_err-logged-clause-any_outcome : goal.returns-in_err-logged-clause-any_outcome
returns-in_err-logged-clause-any_outcome g c = rw (← c.self.view_is) c.log_page.ensures.any_outcome

pub returns-clause-shown : goal.returns-clause-shown
returns-clause-shown g c = λ s shown. c.apply.ensures.shown s (rw (ap (λ v. v.pages) c.self.view_is) shown)

pub returns-clause-log_tie : goal.returns-clause-log_tie
returns-clause-log_tie g c =
    let tie = tied_changed (record { log = c.self.inside.log; node = c.self.inside.node; pages = c.self.inside.pages }) c.log_page.new.log c.in_ok-logged.logged.page c.tail-number.ensures.log c.log_page.ensures.same c.in_ok-logged.ensures.tail (subst IsTiedToLog (sym c.self.view_is) c.requires.log_tie) in
    state_of IsTiedToLog _ c.apply.new.self c.apply.ensures.log c.apply.ensures.node
    (c.apply.ensures.pages ∙ ap (λ n. with_page c.in_ok-logged.logged.page (changed_by n) c.self.inside.pages) c.in_ok-logged.ensures.number) tie

pub returns-clause-disk_tie : goal.returns-clause-disk_tie
returns-clause-disk_tie g c = λ told s store tie.
    c.apply.ensures.disk_tie s _ (tied_beside s c.args.pool.now (record { log = c.self.inside.log; node = c.self.inside.node; pages = c.self.inside.pages }) c.log_page.new.log _ _ _ (subst (IsOfStore s) (sym c.self.view_is) store) (subst IsTiedToLog (sym c.self.view_is) c.requires.log_tie)
    (c.log_page.ensures.outcomes told) (subst (λ v. IsTiedToDisk s c.args.pool.now v (g.D.Disk.state c.args.disk.now).block) (sym c.self.view_is) tie))

pub returns-clause-log : goal.returns-clause-log
returns-clause-log g c = rw (← c.self.view_is, c.apply.ensures.log) c.in_ok-logged.ensures.log

pub returns-clause-any_outcome : goal.returns-clause-any_outcome
returns-clause-any_outcome g c = rw (← c.self.view_is) c.log_page.ensures.any_outcome

pub returns-clause-rises : goal.returns-clause-rises
returns-clause-rises g c =
    let rises = rises_logged c.self.inside.log c.log_page.new.log c.in_ok-logged.ensures.stable_in_memory c.in_ok-logged.ensures.stable_written in
    let log = ap (λ (l : LogState). l.stable) c.apply.ensures.log in
    let old = ap (λ v. v.log.stable) c.self.view_is in
    omega (arith, rises, log, old)

pub returns-clause-record_tie : goal.returns-clause-record_tie
returns-clause-record_tie g c = λ told s xs store tie records.
    let l = c.in_ok-logged.logged in
    let token = c.in_ok-logged.ensures.token in
    let pages = ap (λ v. v.pages) c.self.view_is in
    let log = ap (λ v. v.log) c.self.view_is in
    let old = (g.D.Disk.state c.args.disk.now).block in
    let new = (g.D.Disk.state c.log_page.new.disk).block in
    let beside = pages_beside_log s c.args.self.now (c.args.self.now.log.tail / 6) old new store c.requires.log_tie (subst (λ m. NarrowsBeside (next_place m) old new) log (c.log_page.ensures.outcomes told)) in
    let same = c.log_page.ensures.same in
    let start : c.apply.new.self.log.start ≡ c.args.self.now.log.start = ap (λ (m : LogState). m.start) c.apply.ensures.log ∙ same.start ∙ ap (λ (m : LogState). m.start) log in
    let number : l.number ≡ c.args.self.now.log.tail = c.in_ok-logged.ensures.number ∙ ap (λ (m : LogState). m.tail) log in
    let tail : c.apply.new.self.log.tail ≡ c.args.self.now.log.tail + 1 = ap (λ (m : LogState). m.tail) c.apply.ensures.log ∙ c.in_ok-logged.ensures.tail ∙ ap (λ (m : LogState). m.tail + 1) log in
    let made = before_changed s c.args.pool.now c.args.self.now.pages l.page l.ident l.number l.op (subst (AllPairs (λ p q. p.ticket.page ≢ q.ticket.page)) pages c.self.invariant.once) (subst (AllPairs (λ p q. p.frame ≢ q.frame)) pages c.self.invariant.apart)
    (c.requires.fits l.page l.ident l.op token) c.args.self.now.log.start xs c.args.rec.now c.requires.legal token (number ∙ records.count) new (λ i d below none o may. tie.clean i d below none o (beside _ o may))
    (λ i d below n first. before_narrowed s c.args.self.now.log.start xs old new (slice_index_or c.args.self.now.pages i d) n (beside _) (records.before i d below n first)) in
    record {
      count = let count = records.count in omega (arith, tail, start, count, length-append xs (record_text c.args.rec.now ∷ []));
      before = subst₂ (λ st ps. AreBefore s st (xs ++ record_text c.args.rec.now ∷ []) new ps) (sym start) (sym (c.apply.ensures.pages ∙ ap (with_page l.page (changed_by l.number)) pages)) made;
    }
