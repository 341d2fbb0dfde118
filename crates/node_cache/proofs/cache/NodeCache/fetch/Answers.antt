use Rattle.std.proofs.Common.{◌≡◌, ◌≢◌, ◌⊎◌, ◌<◌, List, [], None, All, AllPairs, length, slice_set, inl, inr, refl, arith, ap, subst, sym, ◌∙◌}
use Rattle.std.specs.Option.{IfSome, is_some}
use Rattle.std.proofs.lemmas.List.Elements.{All-nil, All-push}
use Rattle.sd_base.specs.Shape.{page_count}
use Rattle.page_owner.specs.declared.owners.Own.TheVariants.{Out, Parked}
use Rattle.page_owner.specs.Owners.{owner_of}
use Rattle.private_log.proofs.Outcomes.{on_outcome}
use Rattle.state_ids.specs.Blocks.{FitsPage, HoldsPage, UnlessStopped, page_place}
use Rattle.state_ids.specs.Held.{Shows}
use Rattle.state_ids.specs.PageImage.{PageImage, in_life}
use Rattle.node_cache.specs.Cache.{CachedPage, page_at}
use Rattle.node_cache.specs.Room.{Arrived, Missed, freed, leaving, parked, staying}
use Rattle.node_cache.specs.Writes.{HoldsPages, KeepsContentsButPages, KeepsForeignButPages, NarrowsButPages}
use Rattle.node_cache.proofs.Arriving.{fits_entry, found_last, none_is, not_found, store_then}
use Rattle.node_cache.proofs.Leaving.{all_left, all_stay}
use Rattle.node_cache.proofs.Owning.{ArePages, Gone, missed_of, owned_arrived, owned_missed, pages_stay, still_given, still_owned}
use Rattle.node_cache.proofs.Parking.{all_owned}
use Rattle.node_cache.proofs.Stopping.{stays_then, unless_then}
use Rattle.node_cache.proofs.cache.NodeCache.fetch.Given as given
use Rattle.node_cache.proofs.cache.NodeCache.fetch.Goals as goal

-- the page came in, behind those that stayed
arrived : (g : given.Over) (c : goal.In-Ok g) → Arrived c.args.s.now c.args.x c.args.e (staying c.args.s.now c.args.x c.args.self.now.pages) (freed (leaving c.args.s.now c.args.x c.args.self.now.pages) c.args.pool.now) c.fetch_new.new.self c.fetch_new.new.pool
arrived g c = subst (λ y. Arrived c.args.s.now y c.args.e (staying c.args.s.now y c.args.self.now.pages) (freed (leaving c.args.s.now y c.args.self.now.pages) c.args.pool.now) c.fetch_new.new.self c.fetch_new.new.pool) c.take_ticket-ticket.ensures.page c.in-Ok.ensures.arrived

abbrev last : (g : given.Over) (c : goal.In-Ok g) → CachedPage
last g c = record { ticket = record { page = c.args.x; node = c.fetch_new.new.self.node }; frame = (arrived g c).frame; entry = c.args.e; changes = None }

pub returns-then-has-clause-any_outcome : goal.returns-then-has-clause-any_outcome
returns-then-has-clause-any_outcome g c = λ told xs on image out. on_outcome c.args.self.now.log (g.D.Disk.state c.args.disk.now).block xs image on out

pub fetch_new-requires-clause-entry : goal.fetch_new-requires-clause-entry
fetch_new-requires-clause-entry g c = subst (λ y. FitsPage c.args.s.now y c.args.e) (sym c.take_ticket-ticket.ensures.page) (fits_entry c.args.s.now c.args.pool.now c.args.self.now c.args.x c.args.e c.requires.entry)

pub fetch_new-requires-clause-owned : goal.fetch_new-requires-clause-owned
fetch_new-requires-clause-owned g c =
    let others = none_is c.args.x c.args.self.now.pages (sym c.has.ensures ∙ c.if-has.false) in
    let owned = all_owned c.args.self.now c.args.owners.now (subst (λ v. All (λ p. p.ticket.node ≡ v.node) v.pages) c.self.view_is c.self.invariant.own) c.requires.owned in
    subst (λ o. All (λ p. owner_of o p.ticket.page.0 ≡ Out p.ticket.node) c.args.self.now.pages) (sym c.take_ticket-ticket.ensures.table) (still_owned c.args.owners.now c.args.x (Out c.self.inside.node) c.args.self.now.pages others owned)

pub park-requires-clause-out : goal.park-requires-clause-out
park-requires-clause-out g c =
    let others = none_is c.args.x c.args.self.now.pages (sym c.has.ensures ∙ c.if-has.false) in
    let others_left = all_left (λ q. q.ticket.page ≢ c.args.x) c.args.s.now c.args.x c.args.self.now.pages others in
    let within : c.args.x.0 < length c.args.owners.now = omega (arith, c.requires.page, c.requires.table) in
    let ticket : c.in-Err.ticket ≡ record { page = c.args.x; node = c.self.inside.node } = c.in-Err.ensures.ticket_back ∙ (λ i. record { page = c.take_ticket-ticket.ensures.page i; node = c.take_ticket-ticket.ensures.node i }) in
    let broken = subst (λ y. Gone [] c.args.self.now.pages c.args.pool.now c.fetch_new.new.pool c.take_ticket-ticket.new.owners c.fetch_new.new.owners c.fetch_new.new.self ⊎ Gone (leaving c.args.s.now y c.args.self.now.pages) (staying c.args.s.now y c.args.self.now.pages) c.args.pool.now c.fetch_new.new.pool c.take_ticket-ticket.new.owners c.fetch_new.new.owners c.fetch_new.new.self) c.take_ticket-ticket.ensures.page c.in-Err.ensures.broken in
    let out : (left : List CachedPage) → All (λ q. q.ticket.page ≢ c.args.x) left → c.fetch_new.new.owners ≡ parked left c.take_ticket-ticket.new.owners → owner_of c.fetch_new.new.owners c.args.x.0 ≡ Out c.self.inside.node = λ left apart is.
    ap (λ o. owner_of o c.args.x.0) (is ∙ ap (parked left) c.take_ticket-ticket.ensures.table) ∙ still_given c.args.owners.now c.args.x c.self.inside.node left within apart in
    subst (λ t. owner_of c.fetch_new.new.owners t.page.0 ≡ Out t.node) (sym ticket) (elim broken [ inl same ↦ out [] (All-nil (λ q. q.ticket.page ≢ c.args.x)) same.2 | inr left ↦ out (leaving c.args.s.now c.args.x c.args.self.now.pages) others_left left.2 ])

pub returns-in-Ok-clause-cached : goal.returns-in-Ok-clause-cached
returns-in-Ok-clause-cached g c =
    let others = none_is c.args.x c.args.self.now.pages (sym c.has.ensures ∙ c.if-has.false) in
    let others_stay = all_stay (λ q. q.ticket.page ≢ c.args.x) c.args.s.now c.args.x c.args.self.now.pages others in
    ap (λ ps. is_some (page_at c.args.x ps)) (arrived g c).last ∙ ap is_some (found_last c.args.x (staying c.args.s.now c.args.x c.args.self.now.pages) (last g c) (not_found c.args.x (staying c.args.s.now c.args.x c.args.self.now.pages) others_stay) refl)

pub returns-in-Ok-clause-arrived : goal.returns-in-Ok-clause-arrived
returns-in-Ok-clause-arrived g c = λ none. arrived g c

pub returns-in-Ok-clause-owners : goal.returns-in-Ok-clause-owners
returns-in-Ok-clause-owners g c = λ none.
    c.in-Ok.ensures.owners ∙ ap (λ y. parked (leaving c.args.s.now y c.args.self.now.pages) c.take_ticket-ticket.new.owners) c.take_ticket-ticket.ensures.page
    ∙ ap (parked (leaving c.args.s.now c.args.x c.args.self.now.pages)) (c.take_ticket-ticket.ensures.table ∙ ap (λ v. slice_set c.args.owners.now c.args.x.0 (Out v.node)) c.self.view_is)

pub returns-in-Ok-clause-store : goal.returns-in-Ok-clause-store
returns-in-Ok-clause-store g c =
    let pages = All-push (λ p. p.ticket.page.0 < page_count c.args.s.now) (staying c.args.s.now c.args.x c.args.self.now.pages) (last g c) (all_stay (λ p. p.ticket.page.0 < page_count c.args.s.now) c.args.s.now c.args.x c.args.self.now.pages c.requires.store.pages) c.requires.page in
    store_then c.args.s.now c.args.self.now c.fetch_new.new.self c.requires.store c.fetch_new.ensures.same c.fetch_new.ensures.node (subst (All (λ p. p.ticket.page.0 < page_count c.args.s.now)) (sym (arrived g c).last) pages)

pub returns-in-Ok-clause-owned : goal.returns-in-Ok-clause-owned
returns-in-Ok-clause-owned g c =
    let others = none_is c.args.x c.args.self.now.pages (sym c.has.ensures ∙ c.if-has.false) in
    let others_left = all_left (λ q. q.ticket.page ≢ c.args.x) c.args.s.now c.args.x c.args.self.now.pages others in
    let others_stay = all_stay (λ q. q.ticket.page ≢ c.args.x) c.args.s.now c.args.x c.args.self.now.pages others in
    let owned = all_owned c.args.self.now c.args.owners.now (subst (λ v. All (λ p. p.ticket.node ≡ v.node) v.pages) c.self.view_is c.self.invariant.own) c.requires.owned in
    let once = subst (AllPairs (λ p q. p.ticket.page ≢ q.ticket.page)) (ap (λ v. v.pages) c.self.view_is) c.self.invariant.once in
    let within : c.args.x.0 < length c.args.owners.now = omega (arith, c.requires.page, c.requires.table) in
    let first = c.take_ticket-ticket.ensures.table ∙ ap (λ n. slice_set c.args.owners.now c.args.x.0 (Out n)) (ap (λ v. v.node) c.self.view_is ∙ sym c.fetch_new.ensures.node) in
    let are = subst (λ n. ArePages (parked (leaving c.args.s.now c.args.x c.args.self.now.pages) c.args.owners.now) n (staying c.args.s.now c.args.x c.args.self.now.pages)) (sym c.fetch_new.ensures.node) (pages_stay c.args.s.now c.args.x c.args.owners.now c.args.self.now.node c.args.self.now.pages once owned c.requires.owned) in
    owned_arrived (last g c) (leaving c.args.s.now c.args.x c.args.self.now.pages) (staying c.args.s.now c.args.x c.args.self.now.pages) c.args.owners.now c.take_ticket-ticket.new.owners c.fetch_new.new.owners c.fetch_new.new.self (arrived g c).last first
    (c.in-Ok.ensures.owners ∙ ap (λ y. parked (leaving c.args.s.now y c.args.self.now.pages) c.take_ticket-ticket.new.owners) c.take_ticket-ticket.ensures.page) within others_left others_stay are

pub returns-in-Ok-clause-found : goal.returns-in-Ok-clause-found
returns-in-Ok-clause-found g c = λ told none. subst (λ y. (image : PageImage) × HoldsPage c.args.s.now y image ((g.D.Disk.state c.args.disk.now).block (page_place c.args.s.now y)).current) c.take_ticket-ticket.ensures.page (c.in-Ok.ensures.found told)

pub returns-in-Ok-clause-image : goal.returns-in-Ok-clause-image
returns-in-Ok-clause-image g c = λ told none.
    subst (λ y. (image : PageImage) → HoldsPage c.args.s.now y image ((g.D.Disk.state c.args.disk.now).block (page_place c.args.s.now y)).current → IfSome (page_at y c.fetch_new.new.self.pages) (λ p. Shows c.fetch_new.new.pool p.frame (in_life c.args.e image))) c.take_ticket-ticket.ensures.page (c.in-Ok.ensures.image told)

pub returns-in-Ok-clause-outcomes : goal.returns-in-Ok-clause-outcomes
returns-in-Ok-clause-outcomes g c = λ told. subst (λ y. NarrowsButPages c.args.s.now c.args.self.now.log c.args.pool.now (leaving c.args.s.now y c.args.self.now.pages) (g.D.Disk.state c.args.disk.now).block (g.D.Disk.state c.fetch_new.new.disk).block) c.take_ticket-ticket.ensures.page (c.fetch_new.ensures.outcomes told)

pub returns-in-Ok-clause-foreign : goal.returns-in-Ok-clause-foreign
returns-in-Ok-clause-foreign g c = λ told. subst (λ y. KeepsForeignButPages c.args.s.now c.args.self.now.log (leaving c.args.s.now y c.args.self.now.pages) c.args.self.now.node.0 (g.D.Disk.state c.args.disk.now).block (g.D.Disk.state c.fetch_new.new.disk).block) c.take_ticket-ticket.ensures.page (c.fetch_new.ensures.foreign told)

pub returns-in-Ok-clause-contents : goal.returns-in-Ok-clause-contents
returns-in-Ok-clause-contents g c = λ told. subst (λ y. KeepsContentsButPages c.args.s.now c.args.self.now.log (leaving c.args.s.now y c.args.self.now.pages) (g.D.Disk.state c.args.disk.now).block (g.D.Disk.state c.fetch_new.new.disk).block) c.take_ticket-ticket.ensures.page (c.in-Ok.ensures.contents told)

pub returns-in-Ok-clause-holds : goal.returns-in-Ok-clause-holds
returns-in-Ok-clause-holds g c = λ told none. subst (λ y. HoldsPages c.args.s.now c.args.pool.now (leaving c.args.s.now y c.args.self.now.pages) (g.D.Disk.state c.fetch_new.new.disk).block) c.take_ticket-ticket.ensures.page (c.in-Ok.ensures.holds told)

pub returns-in-Ok-clause-log : goal.returns-in-Ok-clause-log
returns-in-Ok-clause-log g c = λ told xs on. c.in-Ok.ensures.log told xs on

pub returns-in-Err-clause-outcomes : goal.returns-in-Err-clause-outcomes
returns-in-Err-clause-outcomes g c = λ told. subst (λ y. NarrowsButPages c.args.s.now c.args.self.now.log c.args.pool.now (leaving c.args.s.now y c.args.self.now.pages) (g.D.Disk.state c.args.disk.now).block (g.D.Disk.state c.fetch_new.new.disk).block) c.take_ticket-ticket.ensures.page (c.fetch_new.ensures.outcomes told)

pub returns-in-Err-clause-foreign : goal.returns-in-Err-clause-foreign
returns-in-Err-clause-foreign g c = λ told. subst (λ y. KeepsForeignButPages c.args.s.now c.args.self.now.log (leaving c.args.s.now y c.args.self.now.pages) c.args.self.now.node.0 (g.D.Disk.state c.args.disk.now).block (g.D.Disk.state c.fetch_new.new.disk).block) c.take_ticket-ticket.ensures.page (c.fetch_new.ensures.foreign told)

pub returns-in-Err-clause-contents : goal.returns-in-Err-clause-contents
returns-in-Err-clause-contents g c = λ told.
    stays_then (Unit {0}) c.in-Err.fault (subst (λ y. UnlessStopped c.in-Err.fault (KeepsContentsButPages c.args.s.now c.args.self.now.log (leaving c.args.s.now y c.args.self.now.pages) (g.D.Disk.state c.args.disk.now).block (g.D.Disk.state c.fetch_new.new.disk).block)) c.take_ticket-ticket.ensures.page (c.in-Err.ensures.contents told)) (λ keeps. keeps)

pub returns-in-Err-clause-holds : goal.returns-in-Err-clause-holds
returns-in-Err-clause-holds g c = λ told.
    stays_then (Unit {0}) c.in-Err.fault (subst (λ y. UnlessStopped c.in-Err.fault (HoldsPages c.args.s.now c.args.pool.now (leaving c.args.s.now y c.args.self.now.pages) (g.D.Disk.state c.fetch_new.new.disk).block)) c.take_ticket-ticket.ensures.page (c.in-Err.ensures.holds told)) (λ holds none. holds)

pub returns-in-Err-clause-log : goal.returns-in-Err-clause-log
returns-in-Err-clause-log g c = λ told xs on. stays_then (Unit {0}) c.in-Err.fault (c.in-Err.ensures.log told xs on) (λ log. log)

pub returns-in-Err-clause-there : goal.returns-in-Err-clause-there
returns-in-Err-clause-there g c = λ told image holds. c.in-Err.ensures.there told image (subst (λ y. HoldsPage c.args.s.now y image ((g.D.Disk.state c.args.disk.now).block (page_place c.args.s.now y)).current) (sym c.take_ticket-ticket.ensures.page) holds)

-- the page didn't come in: these pages left, and those stayed
missed : (g : given.Over) (c : goal.After-park g) (left stayed : List CachedPage) → All (λ q. q.ticket.page ≢ c.args.x) left → Gone left stayed c.args.pool.now c.fetch_new.new.pool c.take_ticket-ticket.new.owners c.fetch_new.new.owners c.fetch_new.new.self → Missed c.args.x left stayed c.args.pool.now c.args.owners.now c.fetch_new.new.self c.fetch_new.new.pool c.park.new.self
missed g c left stayed apart =
    let ticket : c.in-Err.ticket ≡ record { page = c.args.x; node = c.fetch_new.new.self.node } = c.in-Err.ensures.ticket_back ∙ (λ i. record { page = c.take_ticket-ticket.ensures.page i; node = (c.take_ticket-ticket.ensures.node ∙ ap (λ v. v.node) c.self.view_is ∙ sym c.fetch_new.ensures.node) i }) in
    let first = c.take_ticket-ticket.ensures.table ∙ ap (λ n. slice_set c.args.owners.now c.args.x.0 (Out n)) (ap (λ v. v.node) c.self.view_is ∙ sym c.fetch_new.ensures.node) in
    let final = c.park.ensures ∙ ap (λ t. slice_set c.fetch_new.new.owners t.page.0 (Parked t.node)) ticket in
    missed_of c.args.x left stayed c.args.pool.now c.fetch_new.new.pool c.args.owners.now c.take_ticket-ticket.new.owners c.fetch_new.new.owners c.park.new.self c.fetch_new.new.self apart first final

not_arrived : (g : given.Over) (c : goal.After-park g) → Missed c.args.x [] c.args.self.now.pages c.args.pool.now c.args.owners.now c.fetch_new.new.self c.fetch_new.new.pool c.park.new.self ⊎ Missed c.args.x (leaving c.args.s.now c.args.x c.args.self.now.pages) (staying c.args.s.now c.args.x c.args.self.now.pages) c.args.pool.now c.args.owners.now c.fetch_new.new.self c.fetch_new.new.pool c.park.new.self
not_arrived g c =
    let others = none_is c.args.x c.args.self.now.pages (sym c.has.ensures ∙ c.if-has.false) in
    let others_left = all_left (λ q. q.ticket.page ≢ c.args.x) c.args.s.now c.args.x c.args.self.now.pages others in
    let broken = subst (λ y. Gone [] c.args.self.now.pages c.args.pool.now c.fetch_new.new.pool c.take_ticket-ticket.new.owners c.fetch_new.new.owners c.fetch_new.new.self ⊎ Gone (leaving c.args.s.now y c.args.self.now.pages) (staying c.args.s.now y c.args.self.now.pages) c.args.pool.now c.fetch_new.new.pool c.take_ticket-ticket.new.owners c.fetch_new.new.owners c.fetch_new.new.self) c.take_ticket-ticket.ensures.page c.in-Err.ensures.broken in
    elim broken [ inl same ↦ inl (missed g c [] c.args.self.now.pages (All-nil (λ q. q.ticket.page ≢ c.args.x)) same) | inr left ↦ inr (missed g c (leaving c.args.s.now c.args.x c.args.self.now.pages) (staying c.args.s.now c.args.x c.args.self.now.pages) others_left left) ]

pub returns-in-Err-clause-missed : goal.returns-in-Err-clause-missed
returns-in-Err-clause-missed g c =
    let others = none_is c.args.x c.args.self.now.pages (sym c.has.ensures ∙ c.if-has.false) in
    let others_left = all_left (λ q. q.ticket.page ≢ c.args.x) c.args.s.now c.args.x c.args.self.now.pages others in
    unless_then c.in-Err.fault (subst (λ y. UnlessStopped c.in-Err.fault (Gone (leaving c.args.s.now y c.args.self.now.pages) (staying c.args.s.now y c.args.self.now.pages) c.args.pool.now c.fetch_new.new.pool c.take_ticket-ticket.new.owners c.fetch_new.new.owners c.fetch_new.new.self)) c.take_ticket-ticket.ensures.page c.in-Err.ensures.missed) (missed g c (leaving c.args.s.now c.args.x c.args.self.now.pages) (staying c.args.s.now c.args.x c.args.self.now.pages) others_left)

pub returns-in-Err-clause-broken : goal.returns-in-Err-clause-broken
returns-in-Err-clause-broken g c = not_arrived g c

pub returns-in-Err-clause-store : goal.returns-in-Err-clause-store
returns-in-Err-clause-store g c =
    store_then c.args.s.now c.args.self.now c.fetch_new.new.self c.requires.store c.fetch_new.ensures.same c.fetch_new.ensures.node (elim (not_arrived g c) [
      | inl same ↦ subst (All (λ p. p.ticket.page.0 < page_count c.args.s.now)) (sym same.pages) c.requires.store.pages
      | inr left ↦ subst (All (λ p. p.ticket.page.0 < page_count c.args.s.now)) (sym left.pages) (all_stay (λ p. p.ticket.page.0 < page_count c.args.s.now) c.args.s.now c.args.x c.args.self.now.pages c.requires.store.pages)
    ])

pub returns-in-Err-clause-owned : goal.returns-in-Err-clause-owned
returns-in-Err-clause-owned g c =
    let others = none_is c.args.x c.args.self.now.pages (sym c.has.ensures ∙ c.if-has.false) in
    let owned = all_owned c.args.self.now c.args.owners.now (subst (λ v. All (λ p. p.ticket.node ≡ v.node) v.pages) c.self.view_is c.self.invariant.own) c.requires.owned in
    let once = subst (AllPairs (λ p q. p.ticket.page ≢ q.ticket.page)) (ap (λ v. v.pages) c.self.view_is) c.self.invariant.once in
    let within : c.args.x.0 < length c.args.owners.now = omega (arith, c.requires.page, c.requires.table) in
    elim (not_arrived g c) [
      | inl same ↦
          let are = subst (λ n. ArePages c.args.owners.now n c.args.self.now.pages) (sym c.fetch_new.ensures.node) c.requires.owned in
          owned_missed c.args.x [] c.args.self.now.pages c.args.pool.now c.fetch_new.new.pool c.args.owners.now c.park.new.self c.fetch_new.new.self same within (All-nil (λ q. q.ticket.page ≢ c.args.x)) others are
      | inr left ↦
          let others_left = all_left (λ q. q.ticket.page ≢ c.args.x) c.args.s.now c.args.x c.args.self.now.pages others in
          let others_stay = all_stay (λ q. q.ticket.page ≢ c.args.x) c.args.s.now c.args.x c.args.self.now.pages others in
          let are = subst (λ n. ArePages (parked (leaving c.args.s.now c.args.x c.args.self.now.pages) c.args.owners.now) n (staying c.args.s.now c.args.x c.args.self.now.pages)) (sym c.fetch_new.ensures.node) (pages_stay c.args.s.now c.args.x c.args.owners.now c.args.self.now.node c.args.self.now.pages once owned c.requires.owned) in
          owned_missed c.args.x (leaving c.args.s.now c.args.x c.args.self.now.pages) (staying c.args.s.now c.args.x c.args.self.now.pages) c.args.pool.now c.fetch_new.new.pool c.args.owners.now c.park.new.self c.fetch_new.new.self left within others_left others_stay are
    ]

pub returns-in-Err-clause-record_tie : goal.returns-in-Err-clause-record_tie
returns-in-Err-clause-record_tie g c = λ told xs tie. stays_then (Unit {0}) c.in-Err.fault (c.in-Err.ensures.record_tie told xs tie) (λ now. now)
