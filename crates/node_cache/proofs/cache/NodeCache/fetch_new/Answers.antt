use Rattle.std.proofs.Common.{◌≡◌, ◌≢◌, All, IsTrue, IfErr, OnOk, subst, subst₂, sym}
use Rattle.std.specs.Option.{IfSome}
use Rattle.sd_base.specs.Faults.{IsStopOf}
use Rattle.sd_base.specs.Calls.{KeepsForeign}
use Rattle.sd_base.proofs.Results.{ok_then}
use Rattle.private_log.specs.Spread.{IsFreeRegion}
use Rattle.private_log.specs.Log.{region, IsLogOn}
use Rattle.private_log.proofs.Outcomes.{cut_outcome}
use Rattle.state_ids.specs.PageImage.{PageImage, in_life}
use Rattle.state_ids.specs.Held.{Shows}
use Rattle.state_ids.specs.Blocks.{HoldsPage, IsToldOfPage, page_place}
use Rattle.node_cache.specs.Cache.{page_at}
use Rattle.node_cache.specs.Room.{Arrived, freed, leaving, staying}
use Rattle.node_cache.specs.Writes.{HoldsPages, KeepsContentsButPages, KeepsForeignButPages, NarrowsButPages}
use Rattle.node_cache.proofs.Arriving.{none_is, not_found}
use Rattle.node_cache.proofs.ArrivedTie.{shown_then, tied_then}
use Rattle.node_cache.proofs.Leaving.{all_left, all_stay}
use Rattle.node_cache.proofs.RoomLaws.{narrows_then, foreign_then, ahead_then, settled_still, same_content, same_writer, cut_then, outcome_then, still_before}
use Rattle.node_cache.proofs.Stopping.{stop_then, live_then}
use Rattle.node_cache.proofs.RecordTie.{records_then}
use Rattle.node_cache.proofs.cache.NodeCache.fetch_new.Goals as goal

-- the page's block holds between the two calls what it held before
content : (g : Rattle.node_cache.proofs.cache.NodeCache.fetch_new.Given.Over) (c : goal.After-bring g) → IsTrue g.D.Disk.told
    → ((g.D.Disk.state c.make_room.new.disk).block (page_place c.args.s.now c.args.ticket.page)).current ≡ ((g.D.Disk.state c.args.disk.now).block (page_place c.args.s.now c.args.ticket.page)).current
content g c told =
    let others = all_left (λ q. q.ticket.page ≢ c.args.ticket.page) c.args.s.now c.page.result c.args.self.now.pages (none_is c.args.ticket.page c.args.self.now.pages c.requires.new) in
    same_content c.args.s.now c.args.self.now (leaving c.args.s.now c.page.result c.args.self.now.pages) c.args.ticket.page (g.D.Disk.state c.args.disk.now).block (g.D.Disk.state c.make_room.new.disk).block c.requires.store c.requires.log_tie others (c.in-Ok.ensures.contents told)

pub bring-requires-clause-new : goal.bring-requires-clause-new
bring-requires-clause-new g c = not_found c.args.ticket.page c.make_room.new.self.pages
    (subst (All (λ q. q.ticket.page ≢ c.args.ticket.page)) (sym c.in-Ok.ensures.pages) (all_stay (λ q. q.ticket.page ≢ c.args.ticket.page) c.args.s.now c.page.result c.args.self.now.pages (none_is c.args.ticket.page c.args.self.now.pages c.requires.new)))

pub returns-in-Ok-clause-told : goal.returns-in-Ok-clause-told
returns-in-Ok-clause-told g c = λ told.
    subst (λ o. IfErr c.bring.result (λ r. IsToldOfPage c.args.s.now c.args.ticket.page o r.0)) (content g c told) (c.bring.ensures.told told)

pub returns-in-Ok-clause-arrived : goal.returns-in-Ok-clause-arrived
returns-in-Ok-clause-arrived g c =
    subst (λ x. OnOk c.bring.result (Arrived c.args.s.now c.args.ticket.page c.args.e (staying c.args.s.now x c.args.self.now.pages) (freed (leaving c.args.s.now x c.args.self.now.pages) c.args.pool.now) c.bring.new.self c.bring.new.pool)) c.page.ensures
    (subst₂ (λ stayed old. OnOk c.bring.result (Arrived c.args.s.now c.args.ticket.page c.args.e stayed old c.bring.new.self c.bring.new.pool)) c.in-Ok.ensures.pages c.in-Ok.ensures.pool c.bring.ensures.arrived)

pub returns-in-Ok-clause-shown : goal.returns-in-Ok-clause-shown
returns-in-Ok-clause-shown g c = λ shown.
    shown_then c.args.s.now c.args.ticket.page c.args.e c.make_room.new.self c.bring.new.self c.make_room.new.pool c.bring.new.pool c.bring.result c.make_room.ensures.out c.bring.ensures.arrived c.bring.ensures.pages_kept c.bring.ensures.pool_kept (c.make_room.ensures.shown shown)

pub returns-in-Ok-clause-disk_tie : goal.returns-in-Ok-clause-disk_tie
returns-in-Ok-clause-disk_tie g c = λ told covered tie.
    let none = not_found c.args.ticket.page c.make_room.new.self.pages
    (subst (All (λ q. q.ticket.page ≢ c.args.ticket.page)) (sym c.in-Ok.ensures.pages) (all_stay (λ q. q.ticket.page ≢ c.args.ticket.page) c.args.s.now c.page.result c.args.self.now.pages (none_is c.args.ticket.page c.args.self.now.pages c.requires.new))) in
    tied_then c.args.s.now c.args.ticket.page c.args.e c.make_room.new.self c.bring.new.self c.make_room.new.pool c.bring.new.pool (g.D.Disk.state c.make_room.new.disk).block (g.D.Disk.state c.bring.new.disk).block c.bring.result
    c.make_room.ensures.out c.bring.ensures.arrived c.bring.ensures.pages_kept c.bring.ensures.pool_kept none (g.met.D.Disk.lawful c.make_room.new.disk (page_place c.args.s.now c.args.ticket.page) told)
    (same_writer c.args.s.now c.args.self.now c.args.ticket.page c.args.self.now.node.0 (g.D.Disk.state c.args.disk.now).block (g.D.Disk.state c.make_room.new.disk).block c.requires.store c.requires.log_tie (c.make_room.ensures.writers told) covered)
    (c.bring.ensures.blocks told) (ok_then {Q = (image : PageImage) × HoldsPage c.args.s.now c.args.ticket.page image ((g.D.Disk.state c.make_room.new.disk).block (page_place c.args.s.now c.args.ticket.page)).current} c.bring.result c.bring.ensures.found (λ found. found told))
    (ok_then {Q = (image : PageImage) → HoldsPage c.args.s.now c.args.ticket.page image ((g.D.Disk.state c.make_room.new.disk).block (page_place c.args.s.now c.args.ticket.page)).current
    → IfSome (page_at c.args.ticket.page c.bring.new.self.pages) (λ p. Shows c.bring.new.pool p.frame (in_life c.args.e image))} c.bring.result c.bring.ensures.image (λ shows. shows told)) (c.in-Ok.ensures.disk_tie told tie)

pub returns-in-Ok-clause-there : goal.returns-in-Ok-clause-there
returns-in-Ok-clause-there g c = λ told image holds.
    subst (λ n. IfErr c.bring.result (λ r. IsStopOf n.0 r.0)) c.make_room.ensures.node
    (c.bring.ensures.there told image (subst (HoldsPage c.args.s.now c.args.ticket.page image) (sym (content g c told)) holds))

pub returns-in-Ok-clause-found : goal.returns-in-Ok-clause-found
returns-in-Ok-clause-found g c = ok_then c.bring.result c.bring.ensures.found (λ found told.
    subst (λ o. (image : PageImage) × HoldsPage c.args.s.now c.args.ticket.page image o) (content g c told) (found told))

pub returns-in-Ok-clause-image : goal.returns-in-Ok-clause-image
returns-in-Ok-clause-image g c = ok_then c.bring.result c.bring.ensures.image (λ shows told image holds.
    shows told image (subst (HoldsPage c.args.s.now c.args.ticket.page image) (sym (content g c told)) holds))

pub returns-in-Ok-clause-outcomes : goal.returns-in-Ok-clause-outcomes
returns-in-Ok-clause-outcomes g c = λ told.
    subst (λ x. NarrowsButPages c.args.s.now c.args.self.now.log c.args.pool.now (leaving c.args.s.now x c.args.self.now.pages) (g.D.Disk.state c.args.disk.now).block (g.D.Disk.state c.bring.new.disk).block) c.page.ensures
    (narrows_then c.args.s.now c.args.self.now.log c.args.pool.now (leaving c.args.s.now c.page.result c.args.self.now.pages) (g.D.Disk.state c.args.disk.now).block (g.D.Disk.state c.make_room.new.disk).block (g.D.Disk.state c.bring.new.disk).block (c.make_room.ensures.outcomes told) (c.bring.ensures.outcomes told))

pub returns-in-Ok-clause-foreign : goal.returns-in-Ok-clause-foreign
returns-in-Ok-clause-foreign g c = λ told.
    subst (λ x. KeepsForeignButPages c.args.s.now c.args.self.now.log (leaving c.args.s.now x c.args.self.now.pages) c.args.self.now.node.0 (g.D.Disk.state c.args.disk.now).block (g.D.Disk.state c.bring.new.disk).block) c.page.ensures
    (foreign_then c.args.s.now c.args.self.now.log (leaving c.args.s.now c.page.result c.args.self.now.pages) c.args.self.now.node.0 (g.D.Disk.state c.args.disk.now).block (g.D.Disk.state c.make_room.new.disk).block (g.D.Disk.state c.bring.new.disk).block (c.make_room.ensures.foreign told)
    (subst (λ n. KeepsForeign n.0 (g.D.Disk.state c.make_room.new.disk).block (g.D.Disk.state c.bring.new.disk).block) c.make_room.ensures.node (c.bring.ensures.foreign told)))

pub returns-in-Ok-clause-contents : goal.returns-in-Ok-clause-contents
returns-in-Ok-clause-contents g c = λ told. live_then c.bring.result (c.bring.ensures.blocks told) (λ same.
    subst (λ b. KeepsContentsButPages c.args.s.now c.args.self.now.log (leaving c.args.s.now c.args.ticket.page c.args.self.now.pages) (g.D.Disk.state c.args.disk.now).block b) (sym same)
    (subst (λ x. KeepsContentsButPages c.args.s.now c.args.self.now.log (leaving c.args.s.now x c.args.self.now.pages) (g.D.Disk.state c.args.disk.now).block (g.D.Disk.state c.make_room.new.disk).block) c.page.ensures (c.in-Ok.ensures.contents told)))

pub returns-in-Ok-clause-holds : goal.returns-in-Ok-clause-holds
returns-in-Ok-clause-holds g c = λ told. live_then c.bring.result (c.bring.ensures.blocks told) (λ same.
    subst (HoldsPages c.args.s.now c.args.pool.now (leaving c.args.s.now c.args.ticket.page c.args.self.now.pages)) (sym same)
    (subst (λ x. HoldsPages c.args.s.now c.args.pool.now (leaving c.args.s.now x c.args.self.now.pages) (g.D.Disk.state c.make_room.new.disk).block) c.page.ensures (c.in-Ok.ensures.holds told)))

pub returns-in-Ok-clause-free : goal.returns-in-Ok-clause-free
returns-in-Ok-clause-free g c = λ told. live_then c.bring.result (c.bring.ensures.blocks told) (λ same.
    subst (λ l. IsFreeRegion (region l) c.args.self.now.node.0 (g.D.Disk.state c.bring.new.disk).block) (sym c.bring.ensures.log) (subst (IsFreeRegion (region c.make_room.new.self.log) c.args.self.now.node.0) (sym same) (c.in-Ok.ensures.free told)))

pub returns-in-Ok-clause-still : goal.returns-in-Ok-clause-still
returns-in-Ok-clause-still g c = stop_then c.bring.result c.bring.ensures.settled (λ settled told.
    still_before c.args.self.now.log c.make_room.new.self.log (g.D.Disk.state c.bring.new.disk).block c.make_room.ensures.same
    (settled_still (region c.make_room.new.self.log) c.make_room.new.self.node.0 (g.D.Disk.state c.make_room.new.disk).block (g.D.Disk.state c.bring.new.disk).block
    (subst (λ n. IsFreeRegion (region c.make_room.new.self.log) n.0 (g.D.Disk.state c.make_room.new.disk).block) (sym c.make_room.ensures.node) (c.in-Ok.ensures.free told)) (c.bring.ensures.writers told) (settled told)))

pub returns-in-Ok-clause-ahead : goal.returns-in-Ok-clause-ahead
returns-in-Ok-clause-ahead g c = λ told xs on. ahead_then c.args.self.now.log xs (g.D.Disk.state c.args.disk.now).block (g.D.Disk.state c.make_room.new.disk).block (g.D.Disk.state c.bring.new.disk).block (c.make_room.ensures.ahead told xs on) (c.bring.ensures.outcomes told)

pub returns-in-Ok-clause-log : goal.returns-in-Ok-clause-log
returns-in-Ok-clause-log g c = λ told xs on. live_then c.bring.result (c.bring.ensures.blocks told) (λ same.
    subst (λ l. IsLogOn l (g.D.Disk.state c.bring.new.disk).block xs) (sym c.bring.ensures.log) (subst (λ b. IsLogOn c.make_room.new.self.log b xs) (sym same) (c.in-Ok.ensures.log told xs on)))

pub returns-in-Ok-clause-cut : goal.returns-in-Ok-clause-cut
returns-in-Ok-clause-cut g c = λ told xs on. stop_then c.bring.result c.bring.ensures.settled (λ settled.
    cut_then c.args.self.now.log c.make_room.new.self.log c.make_room.new.self.node.0 (g.D.Disk.state c.make_room.new.disk).block (g.D.Disk.state c.bring.new.disk).block xs
    (λ k. g.met.D.Disk.lawful c.bring.new.disk k told) c.make_room.ensures.same c.in-Ok.ensures.rises (c.in-Ok.ensures.log told xs on)
    (subst (λ n. IsFreeRegion (region c.make_room.new.self.log) n.0 (g.D.Disk.state c.make_room.new.disk).block) (sym c.make_room.ensures.node) (c.in-Ok.ensures.free told)) (c.bring.ensures.outcomes told) (c.bring.ensures.writers told) (settled told))

pub returns-in-Ok-clause-any_outcome : goal.returns-in-Ok-clause-any_outcome
returns-in-Ok-clause-any_outcome g c = λ told xs on image out.
    outcome_then c.args.self.now.log c.make_room.new.self.log (g.D.Disk.state c.make_room.new.disk).block (g.D.Disk.state c.bring.new.disk).block xs image c.make_room.ensures.same c.in-Ok.ensures.rises (c.in-Ok.ensures.log told xs on) (c.bring.ensures.outcomes told) out

pub returns-in-Err-clause-any_outcome : goal.returns-in-Err-clause-any_outcome
returns-in-Err-clause-any_outcome g c = λ told xs on image. cut_outcome _ _ _ _ xs image (c.in-Err.ensures.cut told xs on)

pub returns-in-Ok-clause-record_tie : goal.returns-in-Ok-clause-record_tie
returns-in-Ok-clause-record_tie g c = λ told xs tie.
    records_then c.args.s.now c.args.ticket.page c.args.e c.make_room.new.self c.bring.new.self c.make_room.new.pool c.bring.new.pool (g.D.Disk.state c.make_room.new.disk).block (g.D.Disk.state c.bring.new.disk).block xs c.bring.result c.bring.ensures.log
    c.bring.ensures.arrived c.bring.ensures.pages_kept (c.bring.ensures.blocks told) (c.in-Ok.ensures.record_tie told xs tie)
