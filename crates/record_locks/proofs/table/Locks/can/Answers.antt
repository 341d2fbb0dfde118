use Rattle.std.proofs.Common.{◌≡◌, ◌==◌, ◌&&◌, find, filter, map, length, is_none, not, sym, ◌∙◌, ap, arith}
use Rattle.std.specs.Option.{option_map}
use Rattle.record_locks.specs.Held.{conflicts, least_of}
use Rattle.record_locks.specs.Table.{is_of}
use Rattle.record_locks.proofs.TableLaws.{entry_test, answer_mine, answer_conflict, answer_full, answer_free, len_bounded, is_None, not_full}
use Rattle.record_locks.proofs.table.Locks.can.Goals as goal
use Rattle.record_locks.proofs.table.Locks.can.Goals.{else-is_none-via-then-is_none+else-len-eq-CAPACITY, else-is_none-via-else-is_none}

pub returns-then-covers-clause-answer : goal.returns-then-covers-clause-answer
returns-then-covers-clause-answer c =
    let had : c.mode_of-had.result ≡ option_map (λ e. e.mode) (find (is_of c.args.key c.args.t) c.self.inside.entries.items) = c.mode_of-had.ensures ∙ ap (λ es. option_map (λ e. e.mode) (find (is_of c.args.key c.args.t) es)) c.deref.ensures.value in
    answer_mine c.args.key c.args.t c.args.mode c.self.inside.entries.items c.args.self.now c.mode_of-had.result c.self.invariant.0 c.self.view_is had (sym c.covers.ensures ∙ c.if-covers.true)

pub returns-then-covers-clause-bounded : goal.returns-then-covers-clause-bounded
returns-then-covers-clause-bounded c = len_bounded c.self.inside.entries.items c.args.self.now c.self.invariant.0 c.self.view_is

pub returns-in-Some-clause-answer : goal.returns-in-Some-clause-answer
returns-in-Some-clause-answer c =
    let had : c.mode_of-had.result ≡ option_map (λ e. e.mode) (find (is_of c.args.key c.args.t) c.self.inside.entries.items) = c.mode_of-had.ensures ∙ ap (λ es. option_map (λ e. e.mode) (find (is_of c.args.key c.args.t) es)) c.deref.ensures.value in
    let least : c.least_conflict.result ≡ least_of (map (λ e. e.txn) (filter (entry_test (conflicts c.args.key c.args.t c.args.mode)) c.self.inside.entries.items)) = c.least_conflict.ensures ∙ ap (λ es. least_of (map (λ e. e.txn) (filter (entry_test (conflicts c.args.key c.args.t c.args.mode)) es))) c.deref-2.ensures.value in
    answer_conflict c.args.key c.args.t c.args.mode c.self.inside.entries.items c.args.self.now c.mode_of-had.result c.self.invariant.0 c.self.view_is had c.least_conflict.result least (sym c.covers.ensures ∙ c.if-covers.false) c.in-Some.other c.in-Some.is

pub returns-in-Some-clause-bounded : goal.returns-in-Some-clause-bounded
returns-in-Some-clause-bounded c = len_bounded c.self.inside.entries.items c.args.self.now c.self.invariant.0 c.self.view_is

pub returns-then-len-eq-CAPACITY-clause-answer : goal.returns-then-len-eq-CAPACITY-clause-answer
returns-then-len-eq-CAPACITY-clause-answer c =
    let had : c.mode_of-had.result ≡ option_map (λ e. e.mode) (find (is_of c.args.key c.args.t) c.self.inside.entries.items) = c.mode_of-had.ensures ∙ ap (λ es. option_map (λ e. e.mode) (find (is_of c.args.key c.args.t) es)) c.deref.ensures.value in
    let least : c.least_conflict.result ≡ least_of (map (λ e. e.txn) (filter (entry_test (conflicts c.args.key c.args.t c.args.mode)) c.self.inside.entries.items)) = c.least_conflict.ensures ∙ ap (λ es. least_of (map (λ e. e.txn) (filter (entry_test (conflicts c.args.key c.args.t c.args.mode)) es))) c.deref-2.ensures.value in
    answer_full c.args.key c.args.t c.args.mode c.self.inside.entries.items c.args.self.now c.mode_of-had.result c.self.invariant.0 c.self.view_is had c.least_conflict.result least (sym c.covers.ensures ∙ c.if-covers.false)
    (is_None c.least_conflict.result c.in_default.not-Some)
    (ap not c.is_none.ensures ∙ ap (λ b. not (not b)) c.if-is_none.true)
    (omega (arith, c.if-len-eq-CAPACITY.true, c.len.ensures, c.deref.ensures.len, ap length c.deref.ensures.value))

pub returns-then-len-eq-CAPACITY-clause-bounded : goal.returns-then-len-eq-CAPACITY-clause-bounded
returns-then-len-eq-CAPACITY-clause-bounded c = len_bounded c.self.inside.entries.items c.args.self.now c.self.invariant.0 c.self.view_is

pub returns-clause-answer : goal.returns-clause-answer
returns-clause-answer c =
    let had : c.mode_of-had.result ≡ option_map (λ e. e.mode) (find (is_of c.args.key c.args.t) c.self.inside.entries.items) = c.mode_of-had.ensures ∙ ap (λ es. option_map (λ e. e.mode) (find (is_of c.args.key c.args.t) es)) c.deref.ensures.value in
    let least : c.least_conflict.result ≡ least_of (map (λ e. e.txn) (filter (entry_test (conflicts c.args.key c.args.t c.args.mode)) c.self.inside.entries.items)) = c.least_conflict.ensures ∙ ap (λ es. least_of (map (λ e. e.txn) (filter (entry_test (conflicts c.args.key c.args.t c.args.mode)) es))) c.deref-2.ensures.value in
    answer_free c.args.key c.args.t c.args.mode c.self.inside.entries.items c.args.self.now c.mode_of-had.result c.self.invariant.0 c.self.view_is had c.least_conflict.result least (sym c.covers.ensures ∙ c.if-covers.false)
    (is_None c.least_conflict.result c.in_default.not-Some)
    (elim c.else-is_none.branch [
      | else-is_none-via-then-is_none+else-len-eq-CAPACITY w ↦
          let count : length c.self.inside.entries.items ≡ w.len.result = omega (arith, w.len.ensures, c.deref.ensures.len, ap length c.deref.ensures.value) in
          not_full (is_none c.mode_of-had.result) (length c.self.inside.entries.items) (λ full. w.if-len-eq-CAPACITY.false (sym count ∙ full))
      | else-is_none-via-else-is_none w ↦
          ap (λ b. b && length c.self.inside.entries.items == 4096) (ap not c.is_none.ensures ∙ ap (λ b. not (not b)) w.if-is_none.false)
    ])

pub returns-clause-bounded : goal.returns-clause-bounded
returns-clause-bounded c = len_bounded c.self.inside.entries.items c.args.self.now c.self.invariant.0 c.self.view_is
