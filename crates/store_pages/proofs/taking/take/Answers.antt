use Rattle.std.specs.Prelude.{◌≡◌, ◌≢◌, ◌∷◌, [], true, Err, IfSome, refl}
use Rattle.std.proofs.Common.{inr, subst, sym}
use Rattle.page_owner.specs.Owners.{owner_of}
use Rattle.record_machine.specs.Led.{LedOnStop}
use Rattle.record_machine.specs.Parts.{Take, one}
use Rattle.store_nodes.specs.Endures.{Endures}
use Rattle.store_nodes.specs.Nodes.{IsHeldBy, IsPlace, is_up, node_at}
use Rattle.store_pages.proofs.Passes.{not_open, on_done, on_error}
use Rattle.store_pages.proofs.Results.{passed_on}
use Rattle.store_pages.proofs.ShownHeld.{held_shown}
use Rattle.store_pages.proofs.TakeEndures.{led_behind, led_held}
use Rattle.store_pages.proofs.TakenPages.{cached_own, made_took, writes_same}
use Rattle.store_pages.proofs.WorksWith.{writes_with}
use Rattle.store_pages.proofs.taking.take.Goals as goal

-- ---- a node that is down has it

pub returns-in_err-holder-clause-writes : goal.returns-in_err-holder-clause-writes
returns-in_err-holder-clause-writes g c = λ told. writes_same c.args.n.0 c.args.store.now (g.D.Disk.state c.args.disk.now).block (c.requires.quiet told)

pub returns-in_err-holder-clause-refused : goal.returns-in_err-holder-clause-refused
returns-in_err-holder-clause-refused g c = λ told m shown. held_shown c.args.store.now c.args.x (g.D.Disk.state c.args.disk.now).block m c.requires.ready.is c.requires.page shown

-- ---- nobody else has it

pub returns-in-None-clause-writes : goal.returns-in-None-clause-writes
returns-in-None-clause-writes g c = λ told. writes_with c.args.n.0 c.args.store.now c.fetch.new.store (g.D.Disk.state c.args.disk.now).block (g.D.Disk.state c.fetch.new.disk).block (c.fetch.ensures.writes told)

pub returns-in-None-clause-stopped : goal.returns-in-None-clause-stopped
returns-in-None-clause-stopped g c = on_error c.fetch.result _ _ c.fetch.ensures.stopped (λ why stops told m shown none. stops told m shown)

pub returns-in-None-clause-made_room : goal.returns-in-None-clause-made_room
returns-in-None-clause-made_room g c = on_done c.fetch.result c.fetch.ensures.made_room (λ made told. made_took c.args.n c.args.x c.args.store.now c.fetch.new.store (g.D.Disk.state c.args.disk.now).block (g.D.Disk.state c.fetch.new.disk).block (made told))

-- ---- another node that is up has it

pub returns-in-Some-clause-stopped : goal.returns-in-Some-clause-stopped
returns-in-Some-clause-stopped g c = on_error c.pass.result _ _ c.pass.ensures.stopped (λ why stops told m shown none. stops told m shown)

pub returns-in-Some-clause-hit : goal.returns-in-Some-clause-hit
returns-in-Some-clause-hit g c = λ hit.
    let me = c.args.store.now in
    let n = c.args.n in
    let own = owner_of me.shared.owners c.args.x.0 in
    let other = subst (λ o. IfSome o (λ h. IsPlace h.0 × (h.0 ≢ n.0) × IsHeldBy h own × (is_up (node_at me.nodes h.0) ≡ true))) c.in-Some.is c.in_ok-holder.ensures.holder in
    absurd (not_open n c.in-Some.h own other.1 other.2 (inr (inr (cached_own me n c.args.x c.requires.ready.is c.requires.node c.requires.up hit))))

-- ---- what the store endures

pub returns-in-None-clause-halts : goal.returns-in-None-clause-halts
returns-in-None-clause-halts g c =
    let new = c.fetch.new.store in
    let b = (g.D.Disk.state c.fetch.new.disk).block in
    on_error c.fetch.result _ _ c.fetch.ensures.halts (λ why halts told m unlost was. led_behind c.args.n.0 c.args.x.0 m (Endures new b) (one (Take c.args.x.0 c.args.n.0) m) why (λ k kept within shows. (within, shows)) (halts told m unlost was))

pub returns-in_err-holder-clause-halts : goal.returns-in_err-holder-clause-halts
returns-in_err-holder-clause-halts g c =
    let me = c.args.store.now in
    let S = Endures me (g.D.Disk.state c.args.disk.now).block in
    passed_on c.from_residual.result _ _ c.from_residual.ensures.1 (λ why same told m unlost was. subst (λ r. LedOnStop c.args.n.0 r (Take c.args.x.0 c.args.n.0 ∷ []) m S) (sym same)
    (led_held me c.args.x c.args.n.0 (Err c.in_err-holder.field-0.0) c.in_err-holder.field-0.0 (Take c.args.x.0 c.args.n.0 ∷ []) m S refl c.in_err-holder.ensures.held c.in_err-holder.ensures.free))
