use Rattle.std.proofs.Common.{◌≡◌, ◌++◌, ◌∙◌, [], take, ap, sym, refl, inl, arith, append_assoc, ℕ, List, subst}
use Rattle.std.proofs.lemmas.List.{append-nil}
use Rattle.shared_store.specs.Devices.{GoesOn-same, GoesOn-then, both}
use Rattle.shared_store.specs.Output.{StaysFlushed-then}
use Rattle.shared_store.specs.Store.{Shows}
use Rattle.shared_store.specs.Transcript.{TranscribesPart}
use Rattle.shared_store.proofs.Serving.{served_transcribes}
use Rattle.shared_store.proofs.script.read_script.Goals as goal

-- what was read of a source, after a read of this piece, and after one of nothing
read_on : (all bytes left piece now : List ℕ) → all ≡ bytes ++ left → left ≡ piece ++ now → all ≡ (bytes ++ piece) ++ now
read_on all bytes left piece now before gives = before ∙ ap (λ xs. bytes ++ xs) gives ∙ sym (append_assoc bytes piece now)

read_none : (all bytes left now : List ℕ) → all ≡ bytes ++ left → left ≡ now → all ≡ bytes ++ now
read_none all bytes left now before same = before ∙ ap (λ xs. bytes ++ xs) same

pub loop-given-init : goal.loop-given-init
loop-given-init g c = record {
  ready = c.requires.ready;
  quiet = c.requires.quiet;
  disk = GoesOn-same (g.D.Disk.state c.args.disk.now);
  vault = GoesOn-same (g.V.Disk.state c.args.vault.now);
  ports = λ first keeps. keeps;
  vault_ports = λ first keeps. keeps;
  sink_faults = omega arith;
  source_faults = omega arith;
  given = omega arith;
  most = omega arith;
  flushed = λ told. inl refl;
  served = λ tellS tellK tellD from s. ([], refl, s);
}

pub loop-given-preserved : goal.loop-given-preserved
loop-given-preserved g c =
    let count = c.in-Got.ensures.count in
    record {
      ready = c.feed.ensures.ready;
      quiet = c.feed.ensures.quiet;
      disk = GoesOn-then _ _ _ c.loop-given.invariant.disk c.feed.ensures.disk;
      vault = GoesOn-then _ _ _ c.loop-given.invariant.vault c.feed.ensures.vault;
      ports = λ first keeps. c.feed.ensures.ports first (c.loop-given.invariant.ports first keeps);
      vault_ports = λ first keeps. c.feed.ensures.vault_ports first (c.loop-given.invariant.vault_ports first keeps);
      sink_faults = omega (arith, c.feed.ensures.faults);
      source_faults = omega (arith, c.read_piece.ensures.faults);
      given = omega (arith, count.1, c.loop-given.invariant.given);
      most = omega (arith, count.0);
      flushed = λ told. StaysFlushed-then _ (g.K.Sink.state c.loop-given.sink) _ (c.loop-given.invariant.flushed told) (c.feed.ensures.flushed c.if-not-feed.false told);
      served = λ tellS tellK tellD from s.
          let before = c.loop-given.invariant.served tellS tellK tellD from s in (
            before.0 ++ take c.in-Got.n c.read_piece.new.piece,
            read_on _ before.0 _ (take c.in-Got.n c.read_piece.new.piece) _ before.1 (c.in-Got.ensures.bytes tellS).0,
            c.feed.ensures.served c.if-not-feed.false tellK tellD from before.0 before.2,
          );
    }

pub returns-then-not-feed-clause-transcript : goal.returns-then-not-feed-clause-transcript
returns-then-not-feed-clause-transcript g c = λ tellS tellK tellD from s.
    let before = c.loop-given.invariant.served tellS tellK tellD from s in
    let disk = g.D.Disk.state c.feed.new.disk in
    let P : List ℕ → Type 0 = λ xs. TranscribesPart from xs (Shows c.feed.new.self.store disk) (both disk (g.V.Disk.state c.feed.new.vault)) (g.K.Sink.state c.feed.new.sink).taken in
    record {
      bytes = before.0 ++ take c.in-Got.n c.read_piece.new.piece;
      read = read_on _ before.0 _ (take c.in-Got.n c.read_piece.new.piece) _ before.1 (c.in-Got.ensures.bytes tellS).0;
      tells = subst P (append-nil (before.0 ++ take c.in-Got.n c.read_piece.new.piece)) (c.feed.ensures.cut c.if-not-feed.true tellK tellD from before.0 before.2 []);
    }

pub returns-in-Failed-clause-transcript : goal.returns-in-Failed-clause-transcript
returns-in-Failed-clause-transcript g c = λ tellS tellK tellD from s.
    let before = c.loop-given.invariant.served tellS tellK tellD from s in
    record {
      bytes = before.0;
      read = read_none _ before.0 _ _ before.1 (sym (c.in-Failed.ensures.bytes tellS));
      tells = served_transcribes from before.0 c.loop-given.session.line c.loop-given.session.store _ (g.K.Sink.state c.loop-given.sink) before.2;
    }

pub returns-clause-transcript : goal.returns-clause-transcript
returns-clause-transcript g c = λ tellS tellK tellD from s.
    let before = c.loop-given.invariant.served tellS tellK tellD from s in
    record {
      bytes = before.0;
      read = before.1;
      tells = served_transcribes from before.0 c.loop-given.session.line c.loop-given.session.store _ (g.K.Sink.state c.loop-given.sink) before.2;
    }

pub returns-then-is_answered-clause-transcript : goal.returns-then-is_answered-clause-transcript
returns-then-is_answered-clause-transcript g c = λ tellS tellK tellD from s.
    let before = c.loop-given.invariant.served tellS tellK tellD from s in
    record {
      bytes = before.0;
      read = read_none _ before.0 _ _ before.1 ((c.in-End.ensures.bytes tellS).0 ∙ sym (c.in-End.ensures.bytes tellS).1);
      tells = c.answer_line-is_answered.ensures.ended c.if-is_answered.true tellK tellD from before.0 before.2;
    }

pub returns-else-is_answered-clause-transcript : goal.returns-else-is_answered-clause-transcript
returns-else-is_answered-clause-transcript g c = λ tellS tellK tellD from s.
    let before = c.loop-given.invariant.served tellS tellK tellD from s in
    let disk = g.D.Disk.state c.answer_line-is_answered.new.disk in
    let P : List ℕ → Type 0 = λ xs. TranscribesPart from xs (Shows c.answer_line-is_answered.new.self.store disk) (both disk (g.V.Disk.state c.answer_line-is_answered.new.vault)) (g.K.Sink.state c.answer_line-is_answered.new.sink).taken in
    record {
      bytes = before.0;
      read = read_none _ before.0 _ _ before.1 ((c.in-End.ensures.bytes tellS).0 ∙ sym (c.in-End.ensures.bytes tellS).1);
      tells = subst P (append-nil before.0) (c.answer_line-is_answered.ensures.cut c.if-is_answered.false tellK tellD from before.0 before.2 [] tt);
    }
