use Rattle.std.specs.Prelude.{◌≡◌, ◌&&◌, ◌<◌, ◌∷◌, [], true, false, not, Bool, Ok, Err, IfErr, IsTrue, refl}
use Rattle.std.proofs.Common.{ap, subst, sym, ◌∙◌}
use Rattle.sd_base.specs.Shape.{page_count}
use Rattle.private_log.specs.Reading.{contents}
use Rattle.node_cache.specs.Cache.{CacheState, is_cached, is_changed}
use Rattle.record_machine.specs.Machine.{Machine}
use Rattle.record_machine.specs.Parts.{Take, one}
use Rattle.store_nodes.specs.declared.node.Node.{Node}
use Rattle.store_nodes.specs.declared.node.Node.TheVariants.{Down, Idle, Up}
use Rattle.store_nodes.specs.declared.store.Store.{Store}
use Rattle.store_nodes.specs.Causes.{IsFaultOfPage, IsToldOfPages}
use Rattle.store_nodes.specs.Known.{held_in}
use Rattle.store_nodes.specs.Nodes.{OnUp, node_at}
use Rattle.store_nodes.specs.Pages.{HasCached, KeepsWork}
use Rattle.store_nodes.specs.Ports.{says_stop}
use Rattle.store_nodes.specs.Shows.{IsShown}
use Rattle.store_commands.specs.Aborts.{IsAbortFault}
use Rattle.store_commands.proofs.AbortCauses.{page_fault, page_stop, take_fault}
use Rattle.store_commands.proofs.LeavesThen.{down_alone, fault_behind, leaves_pass, leaves_read, leaves_then, leaves_value, same_unless, sure_step}
use Rattle.store_commands.proofs.Stopping.{done_on, stop_on, unless_ok, unless_pass, unless_then}
use Rattle.store_commands.proofs.Taken.{is_free}
use Rattle.store_commands.proofs.TakeSteps.{page_step, some_then}
use Rattle.store_commands.proofs.Testing.{error_then, on_done, passed_on, the_error}
use Rattle.store_commands.proofs.Unchanged.{stops}
use Rattle.store_commands.proofs.abort_pages.take_anew.Goals as goal

-- ---- the page couldn't be taken

pub returns-in_err-take-clause-leaves : goal.returns-in_err-take-clause-leaves
returns-in_err-take-clause-leaves g c =
    let e = the_error c.from_residual.result _ c.from_residual.ensures.1 in
    leaves_pass g.D.Disk.told g.V.Disk.told c.args.n.0 c.take.result c.from_residual.result e.0 c.args.store.now c.take.new.store (g.D.Disk.state c.args.disk.now) (g.D.Disk.state c.take.new.disk) (g.V.Disk.state c.args.vault.now) (g.V.Disk.state c.take.new.vault) (c.in_err-take.was ∙ ap Err (sym e.2)) e.1
    (record { works = c.take.ensures.works; writes = c.take.ensures.writes; vault_outcomes = c.take.ensures.vault_outcomes; cause = c.take.ensures.cause; down = c.take.ensures.down; up = c.take.ensures.up; holders = c.take.ensures.holders })

pub returns-in_err-take-clause-work : goal.returns-in_err-take-clause-work
returns-in_err-take-clause-work g c =
    let e = the_error c.from_residual.result _ c.from_residual.ensures.1 in
    unless_pass _ c.take.result c.from_residual.result e.0 (c.in_err-take.was ∙ ap Err (sym e.2)) e.1 c.take.ensures.work

pub returns-in_err-take-clause-fault : goal.returns-in_err-take-clause-fault
returns-in_err-take-clause-fault g c =
    passed_on c.from_residual.result _ (IsAbortFault c.args.store.now c.args.n.0) c.from_residual.ensures.1
    (λ why same. subst (IsAbortFault c.args.store.now c.args.n.0) (sym same) (take_fault c.args.store.now c.args.n.0 c.args.x c.in_err-take.field-0.0 c.requires.ready.is c.requires.page c.in_err-take.ensures.fault))

pub returns-in_err-take-clause-told : goal.returns-in_err-take-clause-told
returns-in_err-take-clause-told g c = λ told.
    passed_on c.from_residual.result _ (IsToldOfPages c.args.store.now.shape (contents (g.D.Disk.state c.take.new.disk).block)) c.from_residual.ensures.1
    (λ why same. subst (IsToldOfPages c.args.store.now.shape (contents (g.D.Disk.state c.take.new.disk).block)) (sym same) (c.in_err-take.ensures.told told))

pub returns-in_err-take-clause-step : goal.returns-in_err-take-clause-step
returns-in_err-take-clause-step g c = λ told m shown.
    let e = the_error c.from_residual.result _ c.from_residual.ensures.1 in
    let S : Machine → Type 0 = IsShown c.take.new.store (g.D.Disk.state c.take.new.disk).block in
    stop_on _ _ m (Take c.args.x.0 c.args.n.0 ∷ []) c.take.result c.from_residual.result e.0 S (c.in_err-take.was ∙ ap Err (sym e.2)) e.1
    (page_step m c.args.x.0 c.args.n.0 (held_in c.args.store.now c.args.x) c.take.result S (c.take.ensures.refused told m shown)
    (some_then (held_in c.args.store.now c.args.x) _ _ c.take.ensures.held (λ why same. (same.0, subst (λ v. IsShown v (g.D.Disk.state c.take.new.disk).block m) (sym same.1) (subst (λ d. IsShown c.args.store.now (g.D.Disk.state d).block m) (sym same.2) shown))))
    (λ free. error_then c.take.result _ (λ why. says_stop why ≡ true) c.take.ensures.stopped (λ why stops. stops told m shown free))
    (on_done c.take.result c.take.ensures.shows (λ shows. shows told m shown)))

-- ---- it was taken

-- a page that is clean is cached, and unchanged
clean_is : (node : Node) (c : CacheState → Bool) (d : CacheState → Bool) (r : Bool) → r ≡ true → OnUp node (λ k seats. r ≡ (c k && not (d k))) → OnUp node (λ k seats. IsTrue (c k) × (d k ≡ false))
clean_is Idle c d r is test = tt
clean_is (Up k seats) c d r is test = by (c k) (d k) (sym test ∙ is)
  where
    by : (a b : Bool) → (a && not b) ≡ true → IsTrue a × (b ≡ false)
    by true false is = (refl, refl)
    by true true is = cc
    by false b is = cc
clean_is Down c d r is test = tt

pub reread-requires-clause-quiet : goal.reread-requires-clause-quiet
reread-requires-clause-quiet g c = λ told. (c.take.ensures.writes told).quiet

pub returns-then-again-clause-leaves : goal.returns-then-again-clause-leaves
returns-then-again-clause-leaves g c =
    let n = c.args.n.0 in
    let a = c.args.store.now in
    let b = c.take.new.store in
    leaves_then g.D.Disk.told g.V.Disk.told n c.take.result tt c.in_ok-take.was a b (g.D.Disk.state c.args.disk.now) (g.D.Disk.state c.take.new.disk) (g.V.Disk.state c.args.vault.now) (g.V.Disk.state c.take.new.vault)
    (record { works = c.take.ensures.works; writes = c.take.ensures.writes; vault_outcomes = c.take.ensures.vault_outcomes; cause = c.take.ensures.cause; down = c.take.ensures.down; up = c.take.ensures.up; holders = c.take.ensures.holders })
    c.reread.result c.reread.new.store (g.D.Disk.state c.reread.new.disk) (g.V.Disk.state c.reread.new.vault)
    (leaves_read g.D.Disk.told g.V.Disk.told n c.reread.result b c.reread.new.store (g.D.Disk.state c.take.new.disk) (g.D.Disk.state c.reread.new.disk) (g.V.Disk.state c.take.new.vault) (g.V.Disk.state c.reread.new.vault) _ _ c.reread.ensures.works c.reread.ensures.writes c.reread.ensures.vault_outcomes c.reread.ensures.cause
    (down_alone c.reread.result n c.reread.new.store (error_then c.reread.result (IsFaultOfPage b.shape n c.args.x) _ c.reread.ensures.fault (λ why fault h stop. page_stop n h b.shape c.args.x why fault stop)) c.reread.ensures.down)
    c.in_ok-take.ensures.up c.reread.ensures.same c.reread.ensures.kept)

pub returns-then-again-clause-work : goal.returns-then-again-clause-work
returns-then-again-clause-work g c =
    let first = unless_ok c.take.result tt c.in_ok-take.was c.take.ensures.work in
    unless_then c.reread.result (λ same. subst (λ (v : Store). KeepsWork c.args.n.0 c.args.store.now v) (sym same) first) (same_unless c.reread.result c.take.new.store c.reread.new.store _ _ c.reread.ensures.same c.reread.ensures.kept)

pub returns-then-again-clause-fault : goal.returns-then-again-clause-fault
returns-then-again-clause-fault g c =
    let n = c.args.n.0 in
    let b = c.take.new.store in
    let within : c.args.x.0 < page_count b.shape = subst (λ s. c.args.x.0 < page_count s) (sym c.take.ensures.works.shape) c.requires.page in
    fault_behind g.D.Disk.told g.V.Disk.told n c.take.result tt c.in_ok-take.was c.args.store.now b (g.D.Disk.state c.args.disk.now) (g.D.Disk.state c.take.new.disk) (g.V.Disk.state c.args.vault.now) (g.V.Disk.state c.take.new.vault)
    (record { works = c.take.ensures.works; writes = c.take.ensures.writes; vault_outcomes = c.take.ensures.vault_outcomes; cause = c.take.ensures.cause; down = c.take.ensures.down; up = c.take.ensures.up; holders = c.take.ensures.holders })
    c.reread.result (error_then c.reread.result (IsFaultOfPage b.shape n c.args.x) (IsAbortFault b n) c.reread.ensures.fault (λ why fault. page_fault b n c.args.x why within fault))

pub returns-then-again-clause-told : goal.returns-then-again-clause-told
returns-then-again-clause-told g c = λ told. subst (λ s. IfErr c.reread.result (IsToldOfPages s (contents (g.D.Disk.state c.reread.new.disk).block))) c.take.ensures.works.shape (c.reread.ensures.told told)

pub returns-then-again-clause-cached : goal.returns-then-again-clause-cached
returns-then-again-clause-cached g c = on_done c.reread.result c.reread.ensures.same (λ same. subst (λ (v : Store). HasCached v c.args.n.0 c.args.x) (sym same.0) c.in_ok-take.ensures.cached)

pub returns-then-again-clause-step : goal.returns-then-again-clause-step
returns-then-again-clause-step g c = λ told m shown.
    let n = c.args.n.0 in
    let x = c.args.x in
    let me = c.args.store.now in
    let db = (g.D.Disk.state c.take.new.disk).block in
    let S : Machine → Type 0 = IsShown c.take.new.store db in
    let again : c.is_clean-again.result ≡ true = search in
    let clean : OnUp (node_at me.nodes n) (λ k seats. IsTrue (is_cached x k) × (is_changed x k ≡ false)) = clean_is (node_at me.nodes n) (is_cached x) (is_changed x) c.is_clean-again.result again c.is_clean-again.ensures in
    let hit = c.take.ensures.hit (cached_of (node_at me.nodes n) clean) in
    let all = done_on m (Take x.0 n ∷ []) c.take.result tt S c.in_ok-take.was
    (page_step m x.0 n (held_in me x) c.take.result S (c.take.ensures.refused told m shown)
    (some_then (held_in me x) _ _ c.take.ensures.held (λ why same. (same.0, subst (λ v. IsShown v db m) (sym same.1) (subst (λ d. IsShown me (g.D.Disk.state d).block m) (sym same.2) shown))))
    (λ free. error_then c.take.result _ (λ why. says_stop why ≡ true) c.take.ensures.stopped (λ why stops. stops told m shown free))
    (on_done c.take.result c.take.ensures.shows (λ shows. shows told m shown))) in
    sure_step c.reread.result (IsShown c.reread.new.store (g.D.Disk.state c.reread.new.disk).block (one (Take x.0 n) m)) m (Take x.0 n ∷ []) (IsShown c.reread.new.store (g.D.Disk.state c.reread.new.disk).block) all.0
    (error_then c.reread.result _ (λ why. says_stop why ≡ true) (c.reread.ensures.stopped (subst (λ (v : Store). OnUp (node_at v.nodes n) (λ k seats. IsTrue (is_cached x k) × (is_changed x k ≡ false))) (sym hit.1) clean)) (λ why stop. stops n why (stop told (one (Take x.0 n) m) all.1)))
    (on_done c.reread.result c.reread.ensures.same (λ same. subst (λ (v : Store). IsShown v (g.D.Disk.state c.reread.new.disk).block (one (Take x.0 n) m)) (sym same.0) (subst (λ b. IsShown c.take.new.store b (one (Take x.0 n) m)) (sym (same.1 told)) all.1)))
  where
    cached_of : (node : Node) → OnUp node (λ k seats. IsTrue (is_cached c.args.x k) × (is_changed c.args.x k ≡ false)) → OnUp node (λ k seats. IsTrue (is_cached c.args.x k))
    cached_of Idle clean = tt
    cached_of (Up k seats) clean = clean.0
    cached_of Down clean = tt

pub returns-else-again-clause-leaves : goal.returns-else-again-clause-leaves
returns-else-again-clause-leaves g c =
    leaves_value g.D.Disk.told g.V.Disk.told c.args.n.0 c.take.result tt c.in_ok-take.was c.args.store.now c.take.new.store (g.D.Disk.state c.args.disk.now) (g.D.Disk.state c.take.new.disk) (g.V.Disk.state c.args.vault.now) (g.V.Disk.state c.take.new.vault)
    (record { works = c.take.ensures.works; writes = c.take.ensures.writes; vault_outcomes = c.take.ensures.vault_outcomes; cause = c.take.ensures.cause; down = c.take.ensures.down; up = c.take.ensures.up; holders = c.take.ensures.holders }) tt

pub returns-else-again-clause-work : goal.returns-else-again-clause-work
returns-else-again-clause-work g c = unless_ok c.take.result tt c.in_ok-take.was c.take.ensures.work

pub returns-else-again-clause-step : goal.returns-else-again-clause-step
returns-else-again-clause-step g c = λ told m shown.
    let n = c.args.n.0 in
    let x = c.args.x in
    let me = c.args.store.now in
    let db = (g.D.Disk.state c.take.new.disk).block in
    let S : Machine → Type 0 = IsShown c.take.new.store db in
    let all = done_on m (Take x.0 n ∷ []) c.take.result tt S c.in_ok-take.was
    (page_step m x.0 n (held_in me x) c.take.result S (c.take.ensures.refused told m shown)
    (some_then (held_in me x) _ _ c.take.ensures.held (λ why same. (same.0, subst (λ v. IsShown v db m) (sym same.1) (subst (λ d. IsShown me (g.D.Disk.state d).block m) (sym same.2) shown))))
    (λ free. error_then c.take.result _ (λ why. says_stop why ≡ true) c.take.ensures.stopped (λ why stops. stops told m shown free))
    (on_done c.take.result c.take.ensures.shows (λ shows. shows told m shown))) in
    is_free m (Take x.0 n ∷ []) (Ok tt) S all.0 (refl, all.1)
