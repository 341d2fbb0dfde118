use Rattle.std.proofs.Common.{[], ap, subst, sym, refl, is_some, option_and_then, ◌∙◌}
use Rattle.std.specs.List.{cons_option}
use Rattle.private_log.specs.Log.{IsLogOn}
use Rattle.page_owner.specs.Owners.{owner_of}
use Rattle.node_cache.specs.Cache.{AreOut, AreOwned, AreShown, IsTiedToDisk, SamePages, first_change, page_at, written_back}
use Rattle.node_cache.specs.Room.{IsHeldBy, freed, without_page}
use Rattle.node_cache.proofs.ChangedPages.{out_same, owned_same, shown_same, store_same}
use Rattle.node_cache.proofs.Giving.{disk_given, freed_written, log_given, out_given, owned_given, records_given, shown_given, stands_written, store_given, unchanged_written, without_written}
use Rattle.node_cache.proofs.SamePages.{with_same}
use Rattle.node_cache.proofs.cache.NodeCache.surrender.Goals as goal

pub returns-in_err-flush_page-clause-shown : goal.returns-in_err-flush_page-clause-shown
returns-in_err-flush_page-clause-shown g c =
    λ shown. subst (λ ps. AreShown c.args.s.now c.args.pool.now (record { log = c.flush_page.new.self.log; node = c.flush_page.new.self.node; pages = ps })) (sym c.in_err-flush_page.ensures.pages_kept) shown

pub give_back-requires-clause-clean : goal.give_back-requires-clause-clean
give_back-requires-clause-clean g c =
    ap (λ ps. is_some (option_and_then first_change (page_at c.args.x ps))) c.in_ok-flush_page.ensures.pages ∙ unchanged_written c.args.x c.args.self.now.pages

pub give_back-requires-clause-out : goal.give_back-requires-clause-out
give_back-requires-clause-out g c =
    let same = subst (SamePages c.args.self.now.pages) (sym c.in_ok-flush_page.ensures.pages) (with_same c.args.x written_back (λ p. refl) c.args.self.now.pages) in
    (out_same c.args.pool.now c.args.self.now c.flush_page.new.self same c.requires.out)

pub give_back-requires-clause-owned : goal.give_back-requires-clause-owned
give_back-requires-clause-owned g c =
    let same = subst (SamePages c.args.self.now.pages) (sym c.in_ok-flush_page.ensures.pages) (with_same c.args.x written_back (λ p. refl) c.args.self.now.pages) in
    (owned_same c.args.owners.now c.args.self.now c.flush_page.new.self c.flush_page.ensures.node same c.requires.owned)

pub returns-clause-pages : goal.returns-clause-pages
returns-clause-pages g c =
    c.give_back.ensures.pages ∙ ap (without_page c.args.x) c.in_ok-flush_page.ensures.pages ∙ without_written c.args.x c.args.self.now.pages c.law_of_pages.ensures.once

pub returns-clause-pool : goal.returns-clause-pool
returns-clause-pool g c =
    c.give_back.ensures.pool ∙ ap (λ ps. freed (cons_option (page_at c.args.x ps) []) c.args.pool.now) c.in_ok-flush_page.ensures.pages ∙ freed_written c.args.x c.args.self.now.pages c.args.pool.now

pub returns-clause-store : goal.returns-clause-store
returns-clause-store g c =
    let same = subst (SamePages c.args.self.now.pages) (sym c.in_ok-flush_page.ensures.pages) (with_same c.args.x written_back (λ p. refl) c.args.self.now.pages) in
    store_given c.args.s.now c.args.x c.args.pool.now c.args.owners.now c.flush_page.new.self c.give_back.new.self c.law_of_pages-2.ensures c.give_back.ensures.node c.give_back.ensures.pages c.give_back.ensures.log (store_same c.args.s.now c.args.self.now c.flush_page.new.self c.flush_page.ensures.node c.flush_page.ensures.same same c.requires.store)

pub returns-clause-owned : goal.returns-clause-owned
returns-clause-owned g c =
    let same = subst (SamePages c.args.self.now.pages) (sym c.in_ok-flush_page.ensures.pages) (with_same c.args.x written_back (λ p. refl) c.args.self.now.pages) in
    subst (λ os. AreOwned os c.give_back.new.self) (sym c.give_back.ensures.owners) (owned_given c.args.s.now c.args.x c.args.pool.now c.args.owners.now c.flush_page.new.self c.give_back.new.self c.law_of_pages-2.ensures c.give_back.ensures.node c.give_back.ensures.pages (subst (λ n. IsHeldBy n (owner_of c.args.owners.now c.args.x.0)) (sym c.flush_page.ensures.node) c.requires.held) (owned_same c.args.owners.now c.args.self.now c.flush_page.new.self c.flush_page.ensures.node same c.requires.owned))

pub returns-clause-out : goal.returns-clause-out
returns-clause-out g c =
    let same = subst (SamePages c.args.self.now.pages) (sym c.in_ok-flush_page.ensures.pages) (with_same c.args.x written_back (λ p. refl) c.args.self.now.pages) in
    subst (λ p. AreOut p c.give_back.new.self) (sym c.give_back.ensures.pool) (out_given c.args.s.now c.args.x c.args.pool.now c.args.owners.now c.flush_page.new.self c.give_back.new.self c.law_of_pages-2.ensures c.give_back.ensures.node c.give_back.ensures.pages (out_same c.args.pool.now c.args.self.now c.flush_page.new.self same c.requires.out))

pub returns-clause-shown : goal.returns-clause-shown
returns-clause-shown g c =
    let same = subst (SamePages c.args.self.now.pages) (sym c.in_ok-flush_page.ensures.pages) (with_same c.args.x written_back (λ p. refl) c.args.self.now.pages) in
    λ shown. subst (λ p. AreShown c.args.s.now p c.give_back.new.self) (sym c.give_back.ensures.pool) (shown_given c.args.s.now c.args.x c.args.pool.now c.args.owners.now c.flush_page.new.self c.give_back.new.self c.law_of_pages-2.ensures c.give_back.ensures.node c.give_back.ensures.pages (shown_same c.args.s.now c.args.pool.now c.args.self.now c.flush_page.new.self same shown))

pub returns-clause-log_tie : goal.returns-clause-log_tie
returns-clause-log_tie g c =
    log_given c.args.s.now c.args.x c.args.pool.now c.args.owners.now c.flush_page.new.self c.give_back.new.self c.law_of_pages-2.ensures c.give_back.ensures.node c.give_back.ensures.pages c.give_back.ensures.log c.flush_page.ensures.log_tie

pub returns-clause-disk_tie : goal.returns-clause-disk_tie
returns-clause-disk_tie g c =
    λ told tie. subst (λ p. IsTiedToDisk c.args.s.now p c.give_back.new.self (g.D.Disk.state c.flush_page.new.disk).block) (sym c.give_back.ensures.pool) (disk_given c.args.s.now c.args.x c.args.pool.now c.args.owners.now c.flush_page.new.self c.give_back.new.self c.law_of_pages-2.ensures c.give_back.ensures.node c.give_back.ensures.pages (g.D.Disk.state c.flush_page.new.disk).block (c.in_ok-flush_page.ensures.disk_tie told tie))

pub returns-clause-stands : goal.returns-clause-stands
returns-clause-stands g c =
    λ told tie. stands_written c.args.s.now c.args.x c.args.pool.now c.args.self.now.pages c.flush_page.new.self (g.D.Disk.state c.flush_page.new.disk).block c.in_ok-flush_page.ensures.pages (c.in_ok-flush_page.ensures.disk_tie told tie)

pub returns-clause-log : goal.returns-clause-log
returns-clause-log g c =
    λ told xs on. subst (λ l. IsLogOn l (g.D.Disk.state c.flush_page.new.disk).block xs) (sym c.give_back.ensures.log) (c.in_ok-flush_page.ensures.log told xs on)

pub returns-clause-record_tie : goal.returns-clause-record_tie
returns-clause-record_tie g c =
    λ told xs tie. records_given c.args.s.now c.args.x c.args.pool.now c.args.owners.now c.flush_page.new.self c.give_back.new.self c.law_of_pages-2.ensures c.give_back.ensures.node c.give_back.ensures.pages c.give_back.ensures.log (g.D.Disk.state c.flush_page.new.disk).block xs
    (c.in_ok-flush_page.ensures.record_tie told xs tie)
