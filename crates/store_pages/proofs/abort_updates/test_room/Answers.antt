use Rattle.std.specs.Prelude.{◌≡◌, ◌+◌, ◌^◌, ◌<◌, ◌≤◌, [], true, false}
use Rattle.std.proofs.Common.{arith, inl, inr, ap, subst, sym, ◌∙◌}
use Rattle.private_log.specs.Content.{region_of}
use Rattle.script_text.specs.declared.reply.Reply.TheVariants as says
use Rattle.state_ids.specs.Blocks.{page_place}
use Rattle.record_machine.specs.Led.{LedOnStop}
use Rattle.store_nodes.specs.Causes.{IsLogReply}
use Rattle.store_nodes.specs.Endures.{Endures}
use Rattle.store_nodes.specs.Ports.{HasCause, IsStopReply, says_stop}
use Rattle.store_pages.proofs.Results.{passed_on}
use Rattle.store_pages.proofs.Sequences.{works_none, writes_none}
use Rattle.store_pages.proofs.ShownRoom.{has_room}
use Rattle.store_nodes.proofs.Works.{up_most}
use Rattle.store_pages.proofs.Walks.{left_counted, left_owed}
use Rattle.store_pages.proofs.abort_updates.test_room.Goals as goal

pub overflow_add-ident : goal.overflow_add-ident
overflow_add-ident g c = let ident = c.data_ident-ident.ensures.range in let few = c.owed.ensures.few in omega (arith, ident, few)

-- ---- where there is room for all

pub returns-then-ident-owed-le-MAX_IDENT-clause-works : goal.returns-then-ident-owed-le-MAX_IDENT-clause-works
returns-then-ident-owed-le-MAX_IDENT-clause-works g c = works_none c.args.t.node.0 c.args.store.now (g.D.Disk.state c.args.disk.now) (g.V.Disk.state c.args.vault.now) c.requires.ready

pub returns-then-ident-owed-le-MAX_IDENT-clause-writes : goal.returns-then-ident-owed-le-MAX_IDENT-clause-writes
returns-then-ident-owed-le-MAX_IDENT-clause-writes g c = λ told. writes_none c.args.t.node.0 c.args.store.now (g.D.Disk.state c.args.disk.now).block (c.requires.quiet told)

pub returns-then-ident-owed-le-MAX_IDENT-clause-room : goal.returns-then-ident-owed-le-MAX_IDENT-clause-room
returns-then-ident-owed-le-MAX_IDENT-clause-room g c = λ told.
    left_owed c.args.store.now c.args.t.node.0 (g.D.Disk.state c.args.disk.now).block c.args.t.seat c.data_ident-ident.result c.owed.result (2 ^ 63 + 2 ^ 40) c.args.x c.data_ident-ident.ensures.ident c.owed.ensures.is (let fits = c.if-ident-owed-le-MAX_IDENT.true in omega (arith, fits))

-- ---- where they can't be counted

pub returns-in_err-count-clause-cause : goal.returns-in_err-count-clause-cause
returns-in_err-count-clause-cause g c = passed_on c.from_residual.result _ _ c.from_residual.ensures.1 (λ why same. subst (λ r. HasCause r (g.D.Disk.state c.args.disk.now) (g.D.Disk.state c.count_left.new.disk)) (sym same) c.in_err-count.ensures.cause)

pub returns-in_err-count-clause-fault : goal.returns-in_err-count-clause-fault
returns-in_err-count-clause-fault g c = passed_on c.from_residual.result _ _ c.from_residual.ensures.1 (λ why same. inl (subst (IsLogReply c.args.t.node.0 (region_of c.args.store.now.shape c.args.t.node.0)) (sym same) c.in_err-count.ensures.fault))

pub returns-in_err-count-clause-down : goal.returns-in_err-count-clause-down
returns-in_err-count-clause-down g c = passed_on c.from_residual.result _ _ c.from_residual.ensures.1 (λ why same stop. c.in_err-count.ensures.down (subst (λ r. says_stop r ≡ true) same stop))

pub returns-in_err-count-clause-kept : goal.returns-in_err-count-clause-kept
returns-in_err-count-clause-kept g c = passed_on c.from_residual.result _ _ c.from_residual.ensures.1 (λ why same live. c.in_err-count.ensures.kept (subst (λ r. says_stop r ≡ false) same live))

pub returns-in_err-count-clause-stopped : goal.returns-in_err-count-clause-stopped
returns-in_err-count-clause-stopped g c =
    passed_on c.from_residual.result _ _ c.from_residual.ensures.1 (λ why same told m shown. subst (IsStopReply c.args.t.node.0) (sym same) (c.in_err-count.ensures.stopped told m shown))

pub returns-in_err-count-clause-led : goal.returns-in_err-count-clause-led
returns-in_err-count-clause-led g c =
    passed_on c.from_residual.result _ _ c.from_residual.ensures.1 (λ why same told m was. subst (λ r. LedOnStop c.args.t.node.0 r [] m (Endures c.count_left.new.store (g.D.Disk.state c.count_left.new.disk).block)) (sym same) (c.in_err-count.ensures.led told m was))

-- ---- where there is no room for them

pub returns-then-ident-count-gt-MAX_IDENT-clause-fault : goal.returns-then-ident-count-gt-MAX_IDENT-clause-fault
returns-then-ident-count-gt-MAX_IDENT-clause-fault g c = inr (
  ap (λ n. says.DamagedDisk (record { 0 = n })) (c.page_block.ensures ∙ ap (λ v. page_place v.shape c.args.x) c.in_ok-count.ensures.same.0),
  λ told. (c.requires.up, left_counted c.args.store.now c.args.t.node.0 (g.D.Disk.state c.args.disk.now).block c.args.t.seat c.data_ident-ident.result c.in_ok-count.count c.args.x (λ n. 2 ^ 63 + 2 ^ 40 < n) c.data_ident-ident.ensures.ident (let over = c.if-ident-count-gt-MAX_IDENT.true in omega (arith, over)) (c.in_ok-count.ensures.count told)),
  c.in_ok-count.ensures.same.0,
  c.in_ok-count.ensures.same.1,
)

pub returns-then-ident-count-gt-MAX_IDENT-clause-kept : goal.returns-then-ident-count-gt-MAX_IDENT-clause-kept
returns-then-ident-count-gt-MAX_IDENT-clause-kept g c = λ live. c.in_ok-count.ensures.same

pub returns-then-ident-count-gt-MAX_IDENT-clause-stopped : goal.returns-then-ident-count-gt-MAX_IDENT-clause-stopped
returns-then-ident-count-gt-MAX_IDENT-clause-stopped g c = λ told m shown.
    absurd (has_room c.args.store.now (g.D.Disk.state c.args.disk.now).block m c.args.t c.args.x c.requires.node (up_most c.args.store.now.shape c.args.store.now.shared.pool c.args.store.now.shared.owners c.args.store.now.nodes c.requires.ready.is c.args.t.node.0 c.requires.node c.requires.up) c.requires.up (let low = c.requires.seat in omega (arith, low)) c.requires.busy c.requires.data c.requires.page c.data_ident-ident.ensures.there shown
    (left_counted c.args.store.now c.args.t.node.0 (g.D.Disk.state c.args.disk.now).block c.args.t.seat c.data_ident-ident.result c.in_ok-count.count c.args.x (λ n. 2 ^ 63 + 2 ^ 40 < n) c.data_ident-ident.ensures.ident (let over = c.if-ident-count-gt-MAX_IDENT.true in omega (arith, over)) (c.in_ok-count.ensures.count told)))

pub returns-clause-room : goal.returns-clause-room
returns-clause-room g c = λ told.
    left_counted c.args.store.now c.args.t.node.0 (g.D.Disk.state c.args.disk.now).block c.args.t.seat c.data_ident-ident.result c.in_ok-count.count c.args.x (λ n. n ≤ 2 ^ 63 + 2 ^ 40) c.data_ident-ident.ensures.ident (let fits = c.if-ident-count-gt-MAX_IDENT.false in omega (arith, fits)) (c.in_ok-count.ensures.count told)
