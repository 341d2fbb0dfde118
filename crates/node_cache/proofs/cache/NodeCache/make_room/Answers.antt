use Rattle.std.proofs.Common.{◌≡◌, ◌≢◌, ◌≤◌, ℕ, List, Some, All, AllPairs, count_by, length, refl, arith, ap, subst, subst₂, sym, ◌∙◌}
use Rattle.std.specs.List.{position}
use Rattle.sd_base.specs.declared.names.PageNo.{PageNo}
use Rattle.sd_base.specs.declared.shape.Shape.{Shape}
use Rattle.sd_base.proofs.Results.{on_err}
use Rattle.frame_pool.specs.Frames.{IsOut}
use Rattle.page_owner.specs.declared.owners.Own.TheVariants.{Out}
use Rattle.page_owner.specs.Owners.{owner_of}
use Rattle.private_log.specs.Log.{IsLogOn}
use Rattle.state_ids.specs.Blocks.{ShowsPage}
use Rattle.node_cache.specs.Cache.{CachedPage, IsCache, IsTiedToDisk, has_changes, written_back}
use Rattle.node_cache.specs.Room.{freed, may_go, parked}
use Rattle.node_cache.specs.Writes.{AreFree, AreInReach, HoldsPages, KeepsContentsButPages, KeepsForeignButPages, NarrowsButPages}
use Rattle.node_cache.proofs.Finding.{all_at, got}
use Rattle.node_cache.proofs.Leaving.{Leaves, one_leaves, range_leaves, written_at, written_gone}
use Rattle.node_cache.proofs.Ranges.{same_within}
use Rattle.node_cache.proofs.SamePages.{cache_same}
use Rattle.node_cache.proofs.Without.{left_out, left_shown, left_tied, log_without}
use Rattle.node_cache.proofs.RecordTie.{records_without}
use Rattle.node_cache.proofs.cache.NodeCache.make_room.Goals as goal

-- the page that leaves a full cache
leaves : (s : Shape) (x : PageNo) (inside pages : List CachedPage) (len i : ℕ) → inside ≡ pages → len ≡ length inside → 16 ≤ len → position (may_go s x) pages ≡ Some i → Leaves s x pages i
leaves s x inside pages len i same is full place = one_leaves s x pages i (omega (arith, is, full, ap length same)) place

pub write_back-requires-clause-page_reach : goal.write_back-requires-clause-page_reach
write_back-requires-clause-page_reach g c =
    let l = leaves c.args.s.now c.args.x _ _ _ _ (ap (λ s. s.pages) c.self.view_is) c.len.ensures c.if-len-lt-MAX_PAGES.false c.leaving_place-i.ensures in
    subst (λ ps. AreInReach c.args.s.now ps (g.D.Disk.state c.args.disk.now).reach) (sym (range_leaves _ _ _ _ l)) c.requires.page_reach

pub write_back-requires-clause-page_free : goal.write_back-requires-clause-page_free
write_back-requires-clause-page_free g c = λ told.
    let l = leaves c.args.s.now c.args.x _ _ _ _ (ap (λ s. s.pages) c.self.view_is) c.len.ensures c.if-len-lt-MAX_PAGES.false c.leaving_place-i.ensures in
    subst (λ ps. AreFree c.args.s.now ps c.args.self.now.node.0 (g.D.Disk.state c.args.disk.now).block) (sym (range_leaves _ _ _ _ l)) (c.requires.page_free told)

pub returns-in_err-write_back-clause-pages_kept : goal.returns-in_err-write_back-clause-pages_kept
returns-in_err-write_back-clause-pages_kept g c = on_err c.from_residual.result c.in_err-write_back.ensures.kept

pub returns-in_err-write_back-clause-shown : goal.returns-in_err-write_back-clause-shown
returns-in_err-write_back-clause-shown g c = λ shown.
    subst (All (λ q. ShowsPage c.args.s.now q.ticket.page c.args.pool.now q.frame)) (sym c.in_err-write_back.ensures.kept) shown

pub returns-in_err-write_back-clause-outcomes : goal.returns-in_err-write_back-clause-outcomes
returns-in_err-write_back-clause-outcomes g c = λ told.
    let l = leaves c.args.s.now c.args.x _ _ _ _ (ap (λ s. s.pages) c.self.view_is) c.len.ensures c.if-len-lt-MAX_PAGES.false c.leaving_place-i.ensures in
    subst (λ ps. NarrowsButPages c.args.s.now c.args.self.now.log c.args.pool.now ps (g.D.Disk.state c.args.disk.now).block (g.D.Disk.state c.write_back.new.disk).block) (range_leaves _ _ _ _ l) (c.write_back.ensures.outcomes told)

pub returns-in_err-write_back-clause-foreign : goal.returns-in_err-write_back-clause-foreign
returns-in_err-write_back-clause-foreign g c = λ told.
    let l = leaves c.args.s.now c.args.x _ _ _ _ (ap (λ s. s.pages) c.self.view_is) c.len.ensures c.if-len-lt-MAX_PAGES.false c.leaving_place-i.ensures in
    subst (λ ps. KeepsForeignButPages c.args.s.now c.args.self.now.log ps c.args.self.now.node.0 (g.D.Disk.state c.args.disk.now).block (g.D.Disk.state c.write_back.new.disk).block) (range_leaves _ _ _ _ l) (c.write_back.ensures.foreign told)

pub let_go-requires-clause-clean : goal.let_go-requires-clause-clean
let_go-requires-clause-clean g c = λ p at.
    let l = leaves c.args.s.now c.args.x _ _ _ _ (ap (λ s. s.pages) c.self.view_is) c.len.ensures c.if-len-lt-MAX_PAGES.false c.leaving_place-i.ensures in
    let is = written_at _ _ _ _ _ l c.in_ok-write_back.ensures.written in
    let same : p ≡ written_back l.page = cc in
    ap (λ q. q.changes) same

pub let_go-requires-clause-owned : goal.let_go-requires-clause-owned
let_go-requires-clause-owned g c = λ p at.
    let l = leaves c.args.s.now c.args.x _ _ _ _ (ap (λ s. s.pages) c.self.view_is) c.len.ensures c.if-len-lt-MAX_PAGES.false c.leaving_place-i.ensures in
    let is = written_at _ _ _ _ _ l c.in_ok-write_back.ensures.written in
    let same : p ≡ written_back l.page = cc in
    subst (λ q. owner_of c.args.owners.now q.ticket.page.0 ≡ Out q.ticket.node) (sym same)
    (all_at (λ q. owner_of c.args.owners.now q.ticket.page.0 ≡ Out q.ticket.node) _ _ l.page c.requires.owned l.at)

pub returns-clause-pages : goal.returns-clause-pages
returns-clause-pages g c =
    let l = leaves c.args.s.now c.args.x _ _ _ _ (ap (λ s. s.pages) c.self.view_is) c.len.ensures c.if-len-lt-MAX_PAGES.false c.leaving_place-i.ensures in
    c.let_go.ensures.pages ∙ written_gone _ _ _ _ _ l c.in_ok-write_back.ensures.written

pub returns-clause-pool : goal.returns-clause-pool
returns-clause-pool g c =
    let l = leaves c.args.s.now c.args.x _ _ _ _ (ap (λ s. s.pages) c.self.view_is) c.len.ensures c.if-len-lt-MAX_PAGES.false c.leaving_place-i.ensures in
    c.let_go.ensures.pool _ (written_at _ _ _ _ _ l c.in_ok-write_back.ensures.written) ∙ ap (λ ps. freed ps c.args.pool.now) (sym l.left)

pub returns-clause-owners : goal.returns-clause-owners
returns-clause-owners g c =
    let l = leaves c.args.s.now c.args.x _ _ _ _ (ap (λ s. s.pages) c.self.view_is) c.len.ensures c.if-len-lt-MAX_PAGES.false c.leaving_place-i.ensures in
    c.let_go.ensures.owners _ (written_at _ _ _ _ _ l c.in_ok-write_back.ensures.written) ∙ ap (λ ps. parked ps c.args.owners.now) (sym l.left)

pub returns-clause-out : goal.returns-clause-out
returns-clause-out g c =
    let l = leaves c.args.s.now c.args.x _ _ _ _ (ap (λ s. s.pages) c.self.view_is) c.len.ensures c.if-len-lt-MAX_PAGES.false c.leaving_place-i.ensures in
    let pool = c.let_go.ensures.pool _ (written_at _ _ _ _ _ l c.in_ok-write_back.ensures.written) in
    let pages = c.let_go.ensures.pages ∙ written_gone _ _ _ _ _ l c.in_ok-write_back.ensures.written ∙ l.stayed in
    let apart = subst (AllPairs (λ p q. p.frame ≢ q.frame)) (ap (λ s. s.pages) c.self.view_is) c.self.invariant.apart in
    subst₂ (λ frames ps. All (λ q. IsOut frames q.frame) ps) (sym pool) (sym pages) (left_out c.args.pool.now c.args.self.now.pages c.leaving_place-i.result l.page apart l.at c.requires.out)

pub returns-clause-shown : goal.returns-clause-shown
returns-clause-shown g c = λ shown.
    let l = leaves c.args.s.now c.args.x _ _ _ _ (ap (λ s. s.pages) c.self.view_is) c.len.ensures c.if-len-lt-MAX_PAGES.false c.leaving_place-i.ensures in
    let pool = c.let_go.ensures.pool _ (written_at _ _ _ _ _ l c.in_ok-write_back.ensures.written) in
    let pages = c.let_go.ensures.pages ∙ written_gone _ _ _ _ _ l c.in_ok-write_back.ensures.written ∙ l.stayed in
    let apart = subst (AllPairs (λ p q. p.frame ≢ q.frame)) (ap (λ s. s.pages) c.self.view_is) c.self.invariant.apart in
    subst₂ (λ frames ps. All (λ q. ShowsPage c.args.s.now q.ticket.page frames q.frame) ps) (sym pool) (sym pages) (left_shown c.args.pool.now c.args.self.now.pages c.leaving_place-i.result l.page apart l.at c.args.s.now shown)

pub returns-clause-log_tie : goal.returns-clause-log_tie
returns-clause-log_tie g c =
    let l = leaves c.args.s.now c.args.x _ _ _ _ (ap (λ s. s.pages) c.self.view_is) c.len.ensures c.if-len-lt-MAX_PAGES.false c.leaving_place-i.ensures in
    log_without c.write_back.new.self c.let_go.new.self c.leaving_place-i.result (got _ _ _ (written_at _ _ _ _ _ l c.in_ok-write_back.ensures.written)).0 c.let_go.ensures.log c.let_go.ensures.node c.let_go.ensures.pages c.write_back.ensures.log_tie

pub returns-clause-disk_tie : goal.returns-clause-disk_tie
returns-clause-disk_tie g c = λ told tie.
    let l = leaves c.args.s.now c.args.x _ _ _ _ (ap (λ s. s.pages) c.self.view_is) c.len.ensures c.if-len-lt-MAX_PAGES.false c.leaving_place-i.ensures in
    let at = written_at _ _ _ _ _ l c.in_ok-write_back.ensures.written in
    let is = subst (IsCache c.self.inside.node) (ap (λ s. s.pages) c.self.view_is) c.self.invariant in
    let apart = (cache_same c.self.inside.node c.args.self.now.pages c.write_back.new.self.pages (same_within _ _ _ _ c.in_ok-write_back.ensures.written) is).apart in
    subst (λ frames. IsTiedToDisk c.args.s.now frames c.let_go.new.self (g.D.Disk.state c.write_back.new.disk).block) (sym (c.let_go.ensures.pool _ at))
    (left_tied c.args.pool.now c.write_back.new.self.pages c.leaving_place-i.result (written_back l.page) apart at c.args.s.now c.write_back.new.self c.let_go.new.self (g.D.Disk.state c.write_back.new.disk).block refl c.let_go.ensures.pages (c.in_ok-write_back.ensures.disk_tie told tie))

pub returns-clause-outcomes : goal.returns-clause-outcomes
returns-clause-outcomes g c = λ told.
    let l = leaves c.args.s.now c.args.x _ _ _ _ (ap (λ s. s.pages) c.self.view_is) c.len.ensures c.if-len-lt-MAX_PAGES.false c.leaving_place-i.ensures in
    subst (λ ps. NarrowsButPages c.args.s.now c.args.self.now.log c.args.pool.now ps (g.D.Disk.state c.args.disk.now).block (g.D.Disk.state c.write_back.new.disk).block) (range_leaves _ _ _ _ l) (c.write_back.ensures.outcomes told)

pub returns-clause-foreign : goal.returns-clause-foreign
returns-clause-foreign g c = λ told.
    let l = leaves c.args.s.now c.args.x _ _ _ _ (ap (λ s. s.pages) c.self.view_is) c.len.ensures c.if-len-lt-MAX_PAGES.false c.leaving_place-i.ensures in
    subst (λ ps. KeepsForeignButPages c.args.s.now c.args.self.now.log ps c.args.self.now.node.0 (g.D.Disk.state c.args.disk.now).block (g.D.Disk.state c.write_back.new.disk).block) (range_leaves _ _ _ _ l) (c.write_back.ensures.foreign told)

pub returns-clause-contents : goal.returns-clause-contents
returns-clause-contents g c = λ told.
    let l = leaves c.args.s.now c.args.x _ _ _ _ (ap (λ s. s.pages) c.self.view_is) c.len.ensures c.if-len-lt-MAX_PAGES.false c.leaving_place-i.ensures in
    subst (λ ps. KeepsContentsButPages c.args.s.now c.args.self.now.log ps (g.D.Disk.state c.args.disk.now).block (g.D.Disk.state c.write_back.new.disk).block) (range_leaves _ _ _ _ l) (c.in_ok-write_back.ensures.contents told)

pub returns-clause-holds : goal.returns-clause-holds
returns-clause-holds g c = λ told.
    let l = leaves c.args.s.now c.args.x _ _ _ _ (ap (λ s. s.pages) c.self.view_is) c.len.ensures c.if-len-lt-MAX_PAGES.false c.leaving_place-i.ensures in
    subst (λ ps. HoldsPages c.args.s.now c.args.pool.now ps (g.D.Disk.state c.write_back.new.disk).block) (range_leaves _ _ _ _ l) (c.in_ok-write_back.ensures.holds told)

pub returns-clause-log : goal.returns-clause-log
returns-clause-log g c = λ told xs on. subst (λ m. IsLogOn m (g.D.Disk.state c.write_back.new.disk).block xs) (sym c.let_go.ensures.log) (c.in_ok-write_back.ensures.log told xs on)

pub returns-clause-record_tie : goal.returns-clause-record_tie
returns-clause-record_tie g c = λ told xs tie.
    let l = leaves c.args.s.now c.args.x _ _ _ _ (ap (λ s. s.pages) c.self.view_is) c.len.ensures c.if-len-lt-MAX_PAGES.false c.leaving_place-i.ensures in
    records_without c.args.s.now c.write_back.new.self c.let_go.new.self (g.D.Disk.state c.write_back.new.disk).block xs c.leaving_place-i.result (got _ _ _ (written_at _ _ _ _ _ l c.in_ok-write_back.ensures.written)).0 c.let_go.ensures.log c.let_go.ensures.pages
    (c.in_ok-write_back.ensures.record_tie told xs tie)

pub returns-clause-stable : goal.returns-clause-stable
returns-clause-stable g c = λ some.
    let l = leaves c.args.s.now c.args.x _ _ _ _ (ap (λ s. s.pages) c.self.view_is) c.len.ensures c.if-len-lt-MAX_PAGES.false c.leaving_place-i.ensures in
    ap (λ m. m.stable) c.let_go.ensures.log ∙ c.in_ok-write_back.ensures.stable (subst (λ ps. 1 ≤ count_by has_changes ps) (sym (range_leaves _ _ _ _ l)) some)
