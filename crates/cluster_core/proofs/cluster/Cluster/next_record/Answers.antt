use Rattle.std.specs.Prelude.{◌≡◌, ◌∷◌, [], true, false, ℕ, Some, None, refl}
use Rattle.std.proofs.Common.{ap, subst, sym, ◌∙◌}
use Rattle.private_log.specs.Reading.{contents}
use Rattle.record_locks.specs.Held.{least_where}
use Rattle.script_text.specs.declared.command.Command.TheVariants as asks
use Rattle.record_machine.specs.Machine.{Machine}
use Rattle.record_machine.specs.Rows.{next_key}
use Rattle.store_nodes.specs.declared.node.Node.TheVariants.{Down}
use Rattle.store_nodes.specs.Causes.{IsToldOfPages}
use Rattle.store_nodes.specs.Known.{any_lock, known, reopening}
use Rattle.store_nodes.specs.Nodes.{IsStore, node_at}
use Rattle.store_nodes.specs.Ports.{IsQuiet, IsReady, IsStopReply, says_stop}
use Rattle.store_nodes.specs.Shows.{IsShown}
use Rattle.store_pages.proofs.WorksWith.{works_same}
use Rattle.store_commands.specs.Dumps.{reply_row}
use Rattle.store_commands.proofs.Testing.{passed, test_of}
use Rattle.cluster_core.proofs.Answered.{known_plain, plain_cause, plain_runs}
use Rattle.cluster_core.proofs.KnownRefusals.{behind_known, known_refused}
use Rattle.cluster_core.proofs.Passing.{unlocked, up_known}
use Rattle.cluster_core.proofs.Results.{all_rows, of_row, row_answer, row_cause}
use Rattle.cluster_core.proofs.Saying.{work_same, works_says, writes_narrow}
use Rattle.cluster_core.proofs.Steps.{next_row, refused_row, where_runs}
use Rattle.cluster_core.proofs.cluster.Cluster.next_record.Goals as goal

-- ---- refused for what is in memory

pub returns-in-Err-clause-works : goal.returns-in-Err-clause-works
returns-in-Err-clause-works g c = rw (← c.self.view_is) (works_same c.args.n.0 (λ h. IsStopReply h c.in-Err.why) c.self.inside.store (g.D.Disk.state c.args.disk.now) (g.V.Disk.state c.args.vault.now) (subst (λ s. IsReady s (g.D.Disk.state c.args.disk.now) (g.V.Disk.state c.args.vault.now)) (sym c.self.view_is) c.requires.ready))

pub returns-in-Err-clause-writes : goal.returns-in-Err-clause-writes
returns-in-Err-clause-writes g c = λ told. (let b = (g.D.Disk.state c.args.disk.now).block in rw (← c.self.view_is) (writes_narrow c.args.n.0 c.self.inside.store c.self.inside.store b b (subst (λ s. IsQuiet s b) (sym c.self.view_is) (c.requires.quiet told)) (λ k o may. may)))

pub returns-in-Err-clause-cause : goal.returns-in-Err-clause-cause
returns-in-Err-clause-cause g c = λ none. plain_cause c.in-Err.why (g.D.Disk.state c.args.disk.now) (g.D.Disk.state c.args.disk.now) (known_plain c.self.inside.store (asks.Dump c.args.n) c.in-Err.why (test_of (known c.self.inside.store (asks.Dump c.args.n)) c.check.result c.in-Err.why c.check.ensures c.in-Err.is))

pub returns-in-Err-clause-down : goal.returns-in-Err-clause-down
returns-in-Err-clause-down g c = λ h is. plain_runs c.in-Err.why h (known_plain c.self.inside.store (asks.Dump c.args.n) c.in-Err.why (test_of (known c.self.inside.store (asks.Dump c.args.n)) c.check.result c.in-Err.why c.check.ensures c.in-Err.is)) is

pub returns-in-Err-clause-known : goal.returns-in-Err-clause-known
returns-in-Err-clause-known g c = λ why some. (let both : Some c.in-Err.why ≡ Some why = sym (test_of (known c.self.inside.store (asks.Dump c.args.n)) c.check.result c.in-Err.why c.check.ensures c.in-Err.is) ∙ ap (λ s. known s (asks.Dump c.args.n)) c.self.view_is ∙ some in (cc, c.self.view_is, refl, refl))

pub returns-in-Err-clause-answer : goal.returns-in-Err-clause-answer
returns-in-Err-clause-answer g c = λ none. (let never : Some c.in-Err.why ≡ None = sym (test_of (known c.self.inside.store (asks.Dump c.args.n)) c.check.result c.in-Err.why c.check.ensures c.in-Err.is) ∙ ap (λ s. known s (asks.Dump c.args.n)) c.self.view_is ∙ none in cc)

pub returns-in-Err-clause-told : goal.returns-in-Err-clause-told
returns-in-Err-clause-told g c = λ told none. (let never : Some c.in-Err.why ≡ None = sym (test_of (known c.self.inside.store (asks.Dump c.args.n)) c.check.result c.in-Err.why c.check.ensures c.in-Err.is) ∙ ap (λ s. known s (asks.Dump c.args.n)) c.self.view_is ∙ none in cc)

pub returns-in-Err-clause-refused : goal.returns-in-Err-clause-refused
returns-in-Err-clause-refused g c = rw (← c.self.view_is) (λ runs. work_same c.args.n.0 c.self.inside.store)

pub returns-in-Err-clause-step : goal.returns-in-Err-clause-step
returns-in-Err-clause-step g c = λ told runs m shown.
    let now = c.self.inside.store in
    let a = (g.D.Disk.state c.args.disk.now).block in
    let was : IsShown now a m = subst (λ s. IsShown s a m) (sym c.self.view_is) shown in
    let whole : IsStore now = subst IsStore (sym c.self.view_is) c.requires.ready.is in
    refused_row m c.args.n (next_key c.args.after) c.in-Err.why (IsShown now a) (known_refused now a was.0 m whole was.1 (asks.Dump c.args.n) c.in-Err.why c.requires.range (test_of (known c.self.inside.store (asks.Dump c.args.n)) c.check.result c.in-Err.why c.check.ensures c.in-Err.is)) was

-- ---- what is found

pub find_record-requires-clause-node : goal.find_record-requires-clause-node
find_record-requires-clause-node g c = (up_known c.self.inside.store (subst IsStore (sym c.self.view_is) c.requires.ready.is) c.args.n (any_lock c.self.inside.store ∷ reopening c.self.inside.store ∷ []) c.requires.range (passed (known c.self.inside.store (asks.Dump c.args.n)) (sym c.check.ensures ∙ c.in_default.is))).0.place

pub find_record-requires-clause-up : goal.find_record-requires-clause-up
find_record-requires-clause-up g c = (up_known c.self.inside.store (subst IsStore (sym c.self.view_is) c.requires.ready.is) c.args.n (any_lock c.self.inside.store ∷ reopening c.self.inside.store ∷ []) c.requires.range (passed (known c.self.inside.store (asks.Dump c.args.n)) (sym c.check.ensures ∙ c.in_default.is))).1

pub find_record-requires-clause-free : goal.find_record-requires-clause-free
find_record-requires-clause-free g c = unlocked (least_where (λ l mode. true) c.self.inside.store.shared.locks) (reopening c.self.inside.store ∷ []) (up_known c.self.inside.store (subst IsStore (sym c.self.view_is) c.requires.ready.is) c.args.n (any_lock c.self.inside.store ∷ reopening c.self.inside.store ∷ []) c.requires.range (passed (known c.self.inside.store (asks.Dump c.args.n)) (sym c.check.ensures ∙ c.in_default.is))).2

pub find_record-requires-clause-ready : goal.find_record-requires-clause-ready
find_record-requires-clause-ready g c = (subst (λ s. IsReady s (g.D.Disk.state c.args.disk.now) (g.V.Disk.state c.args.vault.now)) (sym c.self.view_is) c.requires.ready)

pub find_record-requires-clause-quiet : goal.find_record-requires-clause-quiet
find_record-requires-clause-quiet g c = rw c.self.view_is c.requires.quiet

pub returns-clause-works : goal.returns-clause-works
returns-clause-works g c = rw (c.reply_row.ensures, ← c.self.view_is) (works_says c.args.n.0 reply_row c.find_record.result c.self.inside.store c.find_record.new.store (g.D.Disk.state c.args.disk.now) (g.D.Disk.state c.find_record.new.disk) (g.V.Disk.state c.args.vault.now) (g.V.Disk.state c.find_record.new.vault) (λ why. refl) c.find_record.ensures.works)

pub returns-clause-writes : goal.returns-clause-writes
returns-clause-writes g c = rw (← c.self.view_is) c.find_record.ensures.writes

pub returns-clause-cause : goal.returns-clause-cause
returns-clause-cause g c = rw c.reply_row.ensures (row_cause c.find_record.result (g.D.Disk.state c.args.disk.now) (g.D.Disk.state c.find_record.new.disk) c.find_record.ensures.cause)

pub returns-clause-down : goal.returns-clause-down
returns-clause-down g c = rw c.reply_row.ensures (of_row (λ why. (h : ℕ) → IsStopReply h why → node_at c.find_record.new.store.nodes h ≡ Down) c.find_record.result (λ h is. absurd is) (all_rows (λ why. (h : ℕ) → IsStopReply h why → node_at c.find_record.new.store.nodes h ≡ Down) c.find_record.result (λ row h is. absurd is)) c.find_record.ensures.down)

pub returns-clause-known : goal.returns-clause-known
returns-clause-known g c = λ why some. (let never : None ≡ Some why = sym (passed (known c.self.inside.store (asks.Dump c.args.n)) (sym c.check.ensures ∙ c.in_default.is)) ∙ ap (λ s. known s (asks.Dump c.args.n)) c.self.view_is ∙ some in cc)

pub returns-clause-answer : goal.returns-clause-answer
returns-clause-answer g c = rw (c.reply_row.ensures, ← c.self.view_is, ← c.key_behind.ensures) (λ none. row_answer c.self.inside.store c.find_record.new.store c.args.n.0 c.key_behind.result c.find_record.result c.find_record.ensures.read c.find_record.ensures.fault)

pub returns-clause-told : goal.returns-clause-told
returns-clause-told g c = rw (c.reply_row.ensures, ← c.self.view_is) (λ told none. of_row (IsToldOfPages c.self.inside.store.shape (contents (g.D.Disk.state c.find_record.new.disk).block)) c.find_record.result tt (all_rows (IsToldOfPages c.self.inside.store.shape (contents (g.D.Disk.state c.find_record.new.disk).block)) c.find_record.result (λ row. tt)) (c.find_record.ensures.told told))

pub returns-clause-refused : goal.returns-clause-refused
returns-clause-refused g c = rw (c.reply_row.ensures, ← c.self.view_is) (λ runs. where_runs reply_row c.find_record.result (λ why. refl) c.find_record.ensures.work runs)

pub returns-clause-step : goal.returns-clause-step
returns-clause-step g c = λ told runs m shown.
    let now = c.self.inside.store in
    let a = (g.D.Disk.state c.args.disk.now).block in
    let S : Machine → Type 0 = IsShown c.find_record.new.store (g.D.Disk.state c.find_record.new.disk).block in
    let was : IsShown now a m = subst (λ s. IsShown s a m) (sym c.self.view_is) shown in
    let whole : IsStore now = subst IsStore (sym c.self.view_is) c.requires.ready.is in
    let goes : says_stop (reply_row c.find_record.result) ≡ false = subst (λ k. says_stop k ≡ false) c.reply_row.ensures runs in
    rw (c.reply_row.ensures, ← c.key_behind.ensures)
    (next_row m c.args.n c.key_behind.result (reply_row c.find_record.result) S (behind_known now a was.0 m whole was.1 (asks.Dump c.args.n) c.requires.range (passed (known c.self.inside.store (asks.Dump c.args.n)) (sym c.check.ensures ∙ c.in_default.is))) (where_runs reply_row c.find_record.result (λ why. refl) (c.find_record.ensures.step told m was) goes))
