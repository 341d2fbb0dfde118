use Rattle.std.proofs.Common.{rules, ◌≡◌, ℕ, Some, arith, inl, inr, subst, sym, ◌∙◌}
use Rattle.std.proofs.lemmas.Bool.{cases_lt}
use Rattle.log_record.specs.declared.record.LogRecord.{LogRecord}
use Rattle.compensation.specs.Finding.{record_at}
use Rattle.compensation.proofs.LogRecords.{below_end}
use Rattle.loser_undo.specs.Logs.{first_of}
use Rattle.loser_undo.specs.Rules.{Names}
use Rattle.loser_undo.proofs.Breaches.{has_still, has_tail}
use Rattle.loser_undo.proofs.telling.last_of.Goals as goal

pub returns-in_err-rec-clause-there : goal.returns-in_err-rec-clause-there
returns-in_err-rec-clause-there g c = λ told recs has.
    let now = has_still c.args.log.now _ (g.D.Disk.state c.loop-r.disk).block recs (c.loop-r.invariant.blocks told) has in
    let stop = c.in_err-rec.ensures.there told recs now in
    search (rules, stop)

pub loop-r-preserved : goal.loop-r-preserved
loop-r-preserved g c = record {
  keeps = search rules;
  live = search rules;
  blocks = λ t. c.in_ok-rec.ensures.blocks t ∙ c.loop-r.invariant.blocks t;
  low = elim c.newer-last.ensures [
    | inl h ↦ omega (arith, h.0, c.loop-r.invariant.behind)
    | inr h ↦ omega (arith, h.0, c.loop-r.invariant.low)
  ];
  high = elim c.newer-last.ensures [
    | inl h ↦ omega (arith, h.0)
    | inr h ↦ omega (arith, h.0, c.loop-r.invariant.high)
  ];
  behind = omega (arith, c.loop-r.invariant.behind);
  own = λ told recs has not.
      let now = has_still c.args.log.now _ (g.D.Disk.state c.loop-r.disk).block recs (c.loop-r.invariant.blocks told) has in
      let there = c.in_ok-rec.ensures.record told recs now in
      let P : ℕ → Type 0 = λ k. (rec : LogRecord) × (record_at (first_of c.args.log.now) recs k ≡ Some rec) × Names c.args.t rec in
      elim c.newer-last.ensures [
        | inl h ↦ subst P (sym h.0) (c.in_ok-rec.rec, there, h.1)
        | inr h ↦ subst P (sym h.0) (c.loop-r.invariant.own told recs has (λ e. not (h.0 ∙ e)))
      ];
  none = λ told recs has q rec behind below at.
      let now = has_still c.args.log.now _ (g.D.Disk.state c.loop-r.disk).block recs (c.loop-r.invariant.blocks told) has in
      let there = c.in_ok-rec.ensures.record told recs now in
      elim c.newer-last.ensures [
        | inl h ↦ absurd (omega (arith, h.0, behind, below))
        | inr h ↦ elim (cases_lt q c.loop-r.r) [
          | inl lt ↦ c.loop-r.invariant.none told recs has q rec (omega (arith, h.0, behind)) lt at
          | inr ge ↦
              let same : c.loop-r.r ≡ q = omega (arith, ge, below) in
              let here : record_at (first_of c.args.log.now) recs q ≡ Some c.in_ok-rec.rec = subst (λ k. record_at (first_of c.args.log.now) recs k ≡ Some c.in_ok-rec.rec) same there in
              let one : rec ≡ c.in_ok-rec.rec = cc in
              λ names. h.1 (subst (Names c.args.t) one names)
        ]
      ];
}

pub returns-clause-near : goal.returns-clause-near
returns-clause-near g c =
    let log = c.tail-end.ensures.log in
    omega (arith, c.tail-end.ensures.tail, log.room, log.shape.ring.1, c.loop-r.invariant.high, c.requires.begun, c.loop-r.auto.r-end, c.requires.below)

pub returns-clause-last : goal.returns-clause-last
returns-clause-last g c = λ told recs has. record {
  own = c.loop-r.invariant.own told recs has;
  none = λ q rec behind at.
      c.loop-r.invariant.none told recs has q rec behind
      (omega (arith, below_end (first_of c.args.log.now) recs q rec at, has_tail c.args.log.now _ recs has, c.loop-r-test.false, c.tail-end.ensures.tail)) at;
}
