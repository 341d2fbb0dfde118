use Rattle.std.specs.Prelude.{◌≡◌, ◌≤◌, ◌∷◌, [], ℕ, OnOk}
use Rattle.std.proofs.Common.{arith, inl, inr, ap, subst, subst₂, sym, ◌∙◌, get_or-set_other, get_or-set_same}
use Rattle.std.proofs.lemmas.Bool.{cases_eq}
use Rattle.sd_base.specs.Places.{map_of_data}
use Rattle.page_owner.specs.declared.owners.Own.TheVariants.{Nobody}
use Rattle.page_owner.specs.Owners.{owner_of}
use Rattle.node_cache.specs.Room.{IsEntryOf}
use Rattle.space_map.specs.Image.{MapImage}
use Rattle.record_machine.specs.Led.{LedOnStop}
use Rattle.record_machine.specs.Parts.{Drop, Take, one}
use Rattle.store_nodes.specs.Endures.{Endures}
use Rattle.store_nodes.specs.Nodes.{IsPlace, OnUp, is_up, node_at}
use Rattle.store_nodes.specs.Pages.{HasMap, ShowsMap}
use Rattle.store_nodes.specs.Ports.{SaysStopOf, WorksWith}
use Rattle.store_nodes.specs.Shows.{holder}
use Rattle.store_nodes.proofs.Holders.{open_free}
use Rattle.store_pages.proofs.Passes.{held_given, map_apart, on_done, on_error, on_live, says_of, stops_up, took_page}
use Rattle.store_pages.proofs.Results.{passed_on}
use Rattle.store_pages.proofs.ShownHeld.{dropped_taken}
use Rattle.store_pages.proofs.TakeEndures.{endures_passed, held_there, led_before, led_behind, stop_passed}
use Rattle.store_pages.proofs.Takes.{entry_kept}
use Rattle.store_pages.proofs.WorksWith.{stays_seats, works_for, works_with, works_with_then, writes_for, writes_with, writes_with_then}
use Rattle.store_pages.proofs.taking.pass.Goals as goal

pub fetch-requires-clause-up : goal.fetch-requires-clause-up
fetch-requires-clause-up g c = ap is_up (c.surrender.ensures.works.others c.args.n.0 c.requires.node (λ e. c.requires.other (sym e))) ∙ c.requires.up

pub fetch-requires-clause-entry : goal.fetch-requires-clause-entry
fetch-requires-clause-entry g c =
    let me = c.args.store.now in
    let mid = c.surrender.new.store in
    let works = c.surrender.ensures.works in
    let far : c.args.n.0 ≡ c.args.h.0 → ⊥ = λ e. c.requires.other (sym e) in
    subst₂ (λ s o. OnUp o (λ d seats. IsEntryOf s mid.shared.pool d c.args.x c.args.e)) (sym works.shape) (sym (works.others c.args.n.0 c.requires.node far))
    (entry_kept me.shape me.shared.pool mid.shared.pool (node_at me.nodes c.args.n.0) c.args.x c.args.e (works.frames c.args.n.0 c.requires.node far) c.requires.entry)

pub fetch-requires-clause-open : goal.fetch-requires-clause-open
fetch-requires-clause-open g c =
    let me = c.args.store.now in
    let table = c.requires.ready.is.shared.table in
    let page = c.requires.page in
    inl (ap (λ os. owner_of os c.args.x.0) c.in_ok-surrender.ensures.owners ∙ get_or-set_same me.shared.owners c.args.x.0 Nobody Nobody (omega (arith, table, page)))

pub returns-clause-works : goal.returns-clause-works
returns-clause-works g c =
    let me = c.args.store.now in
    let mid = c.surrender.new.store in
    let n = c.args.n.0 in
    let h = c.args.h.0 in
    let first : WorksWith n (λ m. ⊥) me mid (g.D.Disk.state c.args.disk.now) (g.D.Disk.state c.surrender.new.disk) (g.V.Disk.state c.args.vault.now) (g.V.Disk.state c.surrender.new.vault) =
    works_for n h (λ m. ⊥) me mid (g.D.Disk.state c.args.disk.now) (g.D.Disk.state c.surrender.new.disk) (g.V.Disk.state c.args.vault.now) (g.V.Disk.state c.surrender.new.vault) c.requires.holder c.requires.holder_up (stays_seats ⊥ (node_at me.nodes h) (node_at mid.nodes h) c.in_ok-surrender.ensures.work.seats) c.surrender.ensures.works in
    works_with_then n (SaysStopOf c.fetch.result) me mid c.fetch.new.store (g.D.Disk.state c.args.disk.now) (g.D.Disk.state c.surrender.new.disk) (g.D.Disk.state c.fetch.new.disk) (g.V.Disk.state c.args.vault.now) (g.V.Disk.state c.surrender.new.vault) (g.V.Disk.state c.fetch.new.vault) first
    (works_with n (SaysStopOf c.fetch.result) mid c.fetch.new.store (g.D.Disk.state c.surrender.new.disk) (g.D.Disk.state c.fetch.new.disk) (g.V.Disk.state c.surrender.new.vault) (g.V.Disk.state c.fetch.new.vault) c.fetch.ensures.works)

pub returns-clause-writes : goal.returns-clause-writes
returns-clause-writes g c = λ told.
    let me = c.args.store.now in
    let mid = c.surrender.new.store in
    let n = c.args.n.0 in
    let h = c.args.h.0 in
    let a = (g.D.Disk.state c.args.disk.now).block in
    let b = (g.D.Disk.state c.surrender.new.disk).block in
    let d = (g.D.Disk.state c.fetch.new.disk).block in
    writes_with_then n (λ m. ⊥) me mid c.fetch.new.store (g.D.Disk.state c.args.disk.now) (g.D.Disk.state c.surrender.new.disk) (g.V.Disk.state c.args.vault.now) (g.V.Disk.state c.surrender.new.vault) a b d
    (works_for n h (λ m. ⊥) me mid (g.D.Disk.state c.args.disk.now) (g.D.Disk.state c.surrender.new.disk) (g.V.Disk.state c.args.vault.now) (g.V.Disk.state c.surrender.new.vault) c.requires.holder c.requires.holder_up (stays_seats ⊥ (node_at me.nodes h) (node_at mid.nodes h) c.in_ok-surrender.ensures.work.seats) c.surrender.ensures.works)
    (writes_for n h me mid a b c.requires.holder c.requires.holder_up (c.surrender.ensures.writes told)) (writes_with n mid c.fetch.new.store b d (c.fetch.ensures.writes told))

pub returns-clause-shows : goal.returns-clause-shows
returns-clause-shows g c = on_done c.fetch.result c.fetch.ensures.shows (λ shows told m shown. dropped_taken c.fetch.new.store (g.D.Disk.state c.fetch.new.disk).block m c.args.x.0 c.args.n.0 (shows told (one (Drop c.args.x.0) m) (c.in_ok-surrender.ensures.shows told m shown)))

pub returns-clause-stopped : goal.returns-clause-stopped
returns-clause-stopped g c = on_error c.fetch.result _ _ c.fetch.ensures.stopped (λ why stops told m shown. stops told (one (Drop c.args.x.0) m) (c.in_ok-surrender.ensures.shows told m shown))

pub fetch-requires-clause-quiet : goal.fetch-requires-clause-quiet
fetch-requires-clause-quiet g c = λ told. (c.surrender.ensures.writes told).quiet

-- ---- where the page's holder stopped

pub returns-in_err-surrender-clause-works : goal.returns-in_err-surrender-clause-works
returns-in_err-surrender-clause-works g c =
    let me = c.args.store.now in
    let new = c.surrender.new.store in
    let n = c.args.n.0 in
    let h = c.args.h.0 in
    let says = says_of c.from_residual.result h c.in_err-surrender.field-0.0 c.from_residual.ensures.1 c.in_err-surrender.ensures.stopped in
    works_for n h (SaysStopOf c.from_residual.result) me new (g.D.Disk.state c.args.disk.now) (g.D.Disk.state c.surrender.new.disk) (g.V.Disk.state c.args.vault.now) (g.V.Disk.state c.surrender.new.vault) c.requires.holder c.requires.holder_up
    (stops_up (SaysStopOf c.from_residual.result h) (node_at me.nodes h) (node_at new.nodes h) c.requires.holder_up says c.in_err-surrender.ensures.down) c.surrender.ensures.works

pub returns-in_err-surrender-clause-writes : goal.returns-in_err-surrender-clause-writes
returns-in_err-surrender-clause-writes g c = λ told. writes_for c.args.n.0 c.args.h.0 c.args.store.now c.surrender.new.store (g.D.Disk.state c.args.disk.now).block (g.D.Disk.state c.surrender.new.disk).block c.requires.holder c.requires.holder_up (c.surrender.ensures.writes told)

-- ---- behind the fetch

pub returns-clause-holders : goal.returns-clause-holders
returns-clause-holders g c =
    let me = c.args.store.now in
    let mid = c.surrender.new.store in
    let h = c.args.h in
    let works = c.surrender.ensures.works in
    let table = c.requires.ready.is.shared.table in
    let page = c.requires.page in
    let ups : (k : ℕ) → IsPlace k → is_up (node_at mid.nodes k) ≡ is_up (node_at me.nodes k) = λ k k_is. elim (cases_eq k h.0) [
      | inl same ↦ ap (λ j. is_up (node_at mid.nodes j)) same ∙ c.in_ok-surrender.ensures.up ∙ sym c.requires.holder_up ∙ ap (λ j. is_up (node_at me.nodes j)) (sym same)
      | inr far ↦ ap is_up (works.others k k_is far)
    ] in
    on_live c.fetch.result c.fetch.ensures.holders (λ same y. same y ∙ held_given me mid c.args.x (omega (arith, table, page)) c.in_ok-surrender.ensures.owners c.requires.ready.is.shared.holders ups (open_free me c.args.x h c.requires.holder_up (inr c.requires.has)) y)

pub returns-clause-owners : goal.returns-clause-owners
returns-clause-owners g c =
    let me = c.args.store.now in
    let x = c.args.x in
    on_done c.fetch.result c.fetch.ensures.owners (λ same y far. same y far
    ∙ ap (λ os. holder (owner_of os y.0)) c.in_ok-surrender.ensures.owners
    ∙ ap holder (get_or-set_other me.shared.owners x.0 y.0 Nobody Nobody (λ is. far (ap (λ k. record { 0 = k }) is))))

pub returns-clause-map : goal.returns-clause-map
returns-clause-map g c =
    let me = c.args.store.now in
    let mid = c.surrender.new.store in
    let new = c.fetch.new.store in
    let n = c.args.n.0 in
    let x = c.args.x in
    let works = c.surrender.ensures.works in
    let far : n ≡ c.args.h.0 → ⊥ = λ e. c.requires.other (sym e) in
    let map = subst (λ s. OnOk c.fetch.result (s.maps ≤ x.0 → (image : MapImage) → ShowsMap mid n (map_of_data s x) image → ShowsMap new n (map_of_data s x) image)) works.shape c.fetch.ensures.map in
    on_done c.fetch.result map (λ map high image was. map high image
    (subst (λ o. OnUp o (λ k seats. HasMap mid.shared.pool k.pages (map_of_data me.shape x) image)) (sym (works.others n c.requires.node far))
    (map_apart me.shared.pool mid.shared.pool (node_at me.nodes n) (map_of_data me.shape x) image (works.frames n c.requires.node far) was)))

pub returns-clause-made_room : goal.returns-clause-made_room
returns-clause-made_room g c =
    let me = c.args.store.now in
    let mid = c.surrender.new.store in
    let works = c.surrender.ensures.works in
    let far : c.args.n.0 ≡ c.args.h.0 → ⊥ = λ e. c.requires.other (sym e) in
    on_done c.fetch.result c.fetch.ensures.made_room (λ made told.
    took_page c.args.n c.args.h c.args.x me mid c.fetch.new.store (g.D.Disk.state c.args.disk.now).block (g.D.Disk.state c.surrender.new.disk).block (g.D.Disk.state c.fetch.new.disk).block (works.others c.args.n.0 c.requires.node far) works.shape c.requires.other c.requires.has (c.in_ok-surrender.ensures.pages told) (made told))

-- ---- what the store endures

pub returns-in_err-surrender-clause-halts : goal.returns-in_err-surrender-clause-halts
returns-in_err-surrender-clause-halts g c =
    let me = c.args.store.now in
    let n = c.args.n.0 in
    let h = c.args.h.0 in
    let x = c.args.x in
    let a = (g.D.Disk.state c.args.disk.now).block in
    let S = Endures c.surrender.new.store (g.D.Disk.state c.surrender.new.disk).block in
    passed_on c.from_residual.result _ _ c.from_residual.ensures.1 (λ why same told m unlost was.
    subst (λ r. LedOnStop n r (Take x.0 n ∷ []) m S) (sym same)
    (led_before n x.0 m S h c.in_err-surrender.field-0.0 c.in_err-surrender.ensures.stopped (held_there me a was.0 m x c.args.h c.requires.page c.requires.has was.1) (c.in_err-surrender.ensures.led told m unlost was)))

pub returns-clause-led : goal.returns-clause-led
returns-clause-led g c =
    let new = c.fetch.new.store in
    let b = (g.D.Disk.state c.fetch.new.disk).block in
    on_live c.fetch.result c.fetch.ensures.led (λ led told m unlost was. endures_passed new b m c.args.x.0 c.args.n.0 c.args.h.0 (held_there c.args.store.now (g.D.Disk.state c.args.disk.now).block was.0 m c.args.x c.args.h c.requires.page c.requires.has was.1) c.requires.other (led told (one (Drop c.args.x.0) m) unlost (c.in_ok-surrender.ensures.led told m unlost was)))

pub returns-clause-halts : goal.returns-clause-halts
returns-clause-halts g c =
    let new = c.fetch.new.store in
    let b = (g.D.Disk.state c.fetch.new.disk).block in
    on_error c.fetch.result _ _ c.fetch.ensures.halts (λ why halts told m unlost was.
    let held = held_there c.args.store.now (g.D.Disk.state c.args.disk.now).block was.0 m c.args.x c.args.h c.requires.page c.requires.has was.1 in
    led_behind c.args.n.0 c.args.x.0 m (Endures new b) (one (Take c.args.x.0 c.args.n.0) (one (Drop c.args.x.0) m)) why (stop_passed new b m c.args.x.0 c.args.n.0 c.args.h.0 held c.requires.other) (halts told (one (Drop c.args.x.0) m) unlost (c.in_ok-surrender.ensures.led told m unlost was)))
