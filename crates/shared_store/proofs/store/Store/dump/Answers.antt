use Rattle.std.proofs.Common.{◌≡◌, ◌+◌, ◌<◌, ◌^◌, ◌∷◌, [], ◌++◌, ◌∙◌, ℕ, length, refl, ap, sym, subst, arith}
use Rattle.std.proofs.lemmas.List.{append-nil, length_push}
use Rattle.script_text.specs.Reply.{reply_text}
use Rattle.script_text.specs.declared.reply.Reply.{Reply}
use Rattle.record_machine.specs.Rows.{Row}
use Rattle.shared_store.specs.Answering.{end_of_dump}
use Rattle.shared_store.specs.Devices.{Devices, GoesOn-then, both}
use Rattle.shared_store.specs.Output.{IsPart}
use Rattle.shared_store.specs.Store.{Shows}
use Rattle.shared_store.proofs.Counting.{HasCause-after}
use Rattle.shared_store.proofs.Dumping.{Dumps, IsBelow, below_first, below_next, dumps_more, dumps_none}
use Rattle.shared_store.proofs.Sending.{part_end, part_row, printed_more, sends_end}
use Rattle.shared_store.proofs.store.Store.dump.Goals as goal

-- the count is that of the rows
ends : (last reply : Reply) (rows count : ℕ) → last ≡ end_of_dump reply count → rows ≡ count → last ≡ end_of_dump reply rows
ends last reply rows count is same = is ∙ ap (end_of_dump reply) (sym same)

pub loop-reply-init : goal.loop-reply-init
loop-reply-init g c =
    let asked = c.next_record-reply.ensures in
    record {
      ready = asked.ready;
      quiet = asked.quiet;
      disk = asked.disk;
      vault = asked.vault;
      ports = asked.ports;
      vault_ports = asked.vault_ports;
      faults = omega arith;
      below = below_first c.next_record-reply.result;
      cause = asked.cause;
      dumped = ([], refl, λ told. sym (append-nil (g.K.Sink.state c.args.sink.now).taken), λ told state shows. dumps_none state c.args.n c.next_record-reply.result (Shows c.next_record-reply.new.self (g.D.Disk.state c.next_record-reply.new.disk)) (asked.answered told state shows));
    }

pub loop-reply-preserved : goal.loop-reply-preserved
loop-reply-preserved g c =
    let asked = c.next_record-reply-in-Row.ensures in
    let old : Devices = both (g.D.Disk.state c.args.disk.now) (g.V.Disk.state c.args.vault.now) in
    let mid : Devices = both (g.D.Disk.state c.loop-reply.disk) (g.V.Disk.state c.loop-reply.vault) in
    let now : Devices = both (g.D.Disk.state c.next_record-reply-in-Row.new.disk) (g.V.Disk.state c.next_record-reply-in-Row.new.vault) in
    let row : Row = record { key = c.in-Row.key; value = c.in-Row.field-1 } in
    let range : c.in-Row.key.0 < 2 ^ 32 = omega arith in
    let was = c.loop-reply.invariant.dumped in
    record {
      ready = asked.ready;
      quiet = asked.quiet;
      disk = GoesOn-then old.disk mid.disk now.disk c.loop-reply.invariant.disk asked.disk;
      vault = GoesOn-then old.vault mid.vault now.vault c.loop-reply.invariant.vault asked.vault;
      ports = λ first keeps. asked.ports first (c.loop-reply.invariant.ports first keeps);
      vault_ports = λ first keeps. asked.vault_ports first (c.loop-reply.invariant.vault_ports first keeps);
      faults = omega (arith, c.say.ensures.faults);
      below = below_next c.loop-reply.count c.in-Row.key.0 c.next_record-reply-in-Row.result (subst (IsBelow c.loop-reply.count) c.in-Row.is c.loop-reply.invariant.below) range asked.rising;
      cause = HasCause-after c.next_record-reply-in-Row.result old mid now c.loop-reply.invariant.disk.grew c.loop-reply.invariant.vault.grew asked.cause;
      dumped = (
        was.0 ++ row ∷ [],
        length_push was.0 row ∙ ap (λ k. k + 1) was.1,
        λ told. printed_more (g.K.Sink.state c.args.sink.now).taken (g.K.Sink.state c.loop-reply.sink).taken (g.K.Sink.state c.say.new.sink).taken was.0 row (was.2 told) (c.say.ensures.all told c.if-not-say.false),
        λ told state shows. dumps_more state c.args.n was.0 c.in-Row.key c.in-Row.field-1 c.next_record-reply-in-Row.result (Shows c.loop-reply.self mid.disk) (Shows c.next_record-reply-in-Row.new.self now.disk) range
            (subst (λ r. Dumps state c.args.n was.0 r (Shows c.loop-reply.self mid.disk)) c.in-Row.is (was.3 told state shows)) (asked.answered told),
      );
    }

pub returns-then-not-say-clause-part : goal.returns-then-not-say-clause-part
returns-then-not-say-clause-part g c = λ failed tellK tellD.
    let old : Devices = both (g.D.Disk.state c.args.disk.now) (g.V.Disk.state c.args.vault.now) in
    let now : Devices = both (g.D.Disk.state c.loop-reply.disk) (g.V.Disk.state c.loop-reply.vault) in
    let range : c.in-Row.key.0 < 2 ^ 32 = omega arith in
    let was = c.loop-reply.invariant.dumped in
    part_row c.args.n was.0 c.in-Row.key c.in-Row.field-1 c.args.self.now c.loop-reply.self old now (g.K.Sink.state c.args.sink.now).taken (g.K.Sink.state c.loop-reply.sink).taken (g.K.Sink.state c.say.new.sink).taken
    range c.loop-reply.invariant.disk c.loop-reply.invariant.vault
    (λ state shows. subst (λ r. Dumps state c.args.n was.0 r (Shows c.loop-reply.self now.disk)) c.in-Row.is (was.3 tellD state shows)) (was.2 tellK)
    (c.say.ensures.part tellK)

pub returns-clause-sends : goal.returns-clause-sends
returns-clause-sends g c = λ sent tellK tellD.
    let old : Devices = both (g.D.Disk.state c.args.disk.now) (g.V.Disk.state c.args.vault.now) in
    let now : Devices = both (g.D.Disk.state c.loop-reply.disk) (g.V.Disk.state c.loop-reply.vault) in
    let was = c.loop-reply.invariant.dumped in
    let last : c.end_of_dump.result ≡ end_of_dump c.loop-reply.reply (length was.0) = ends c.end_of_dump.result c.loop-reply.reply (length was.0) c.loop-reply.count c.end_of_dump.ensures was.1 in
    sends_end c.args.n was.0 c.loop-reply.reply c.args.self.now c.loop-reply.self old now (g.K.Sink.state c.args.sink.now).taken (g.K.Sink.state c.loop-reply.sink).taken (g.K.Sink.state c.say-2.new.sink).taken
    c.loop-reply.invariant.disk c.loop-reply.invariant.vault c.loop-reply.invariant.cause (was.3 tellD) (was.2 tellK) c.in_default.not-Row
    (subst (λ r. (g.K.Sink.state c.say-2.new.sink).taken ≡ (g.K.Sink.state c.loop-reply.sink).taken ++ reply_text r) last (c.say-2.ensures.all tellK sent))

pub returns-clause-part : goal.returns-clause-part
returns-clause-part g c = λ failed tellK tellD.
    let old : Devices = both (g.D.Disk.state c.args.disk.now) (g.V.Disk.state c.args.vault.now) in
    let now : Devices = both (g.D.Disk.state c.loop-reply.disk) (g.V.Disk.state c.loop-reply.vault) in
    let was = c.loop-reply.invariant.dumped in
    let last : c.end_of_dump.result ≡ end_of_dump c.loop-reply.reply (length was.0) = ends c.end_of_dump.result c.loop-reply.reply (length was.0) c.loop-reply.count c.end_of_dump.ensures was.1 in
    part_end c.args.n was.0 c.loop-reply.reply c.args.self.now c.loop-reply.self old now (g.K.Sink.state c.args.sink.now).taken (g.K.Sink.state c.loop-reply.sink).taken (g.K.Sink.state c.say-2.new.sink).taken
    c.loop-reply.invariant.disk c.loop-reply.invariant.vault c.loop-reply.invariant.cause (was.3 tellD) (was.2 tellK) c.in_default.not-Row
    (let P : Reply → Type 0 = λ r. IsPart (g.K.Sink.state c.loop-reply.sink).taken (reply_text r) (g.K.Sink.state c.say-2.new.sink).taken in subst P last (c.say-2.ensures.part tellK))
