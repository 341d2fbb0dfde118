use Rattle.std.proofs.Common.{◌≡◌, ◌<◌, Some, None, position, length, set, IsTrue, sym, ◌∙◌, ap, subst, arith, rules}
use Rattle.std.proofs.lemmas.List.Quantifiers.{position-Some}
use Rattle.record_locks.specs.declared.entry.Entry.{Entry}
use Rattle.record_locks.specs.declared.mode.Mode.TheVariants.{Read, Write}
use Rattle.record_locks.specs.Held.{taken}
use Rattle.record_locks.specs.Answer.{lock_answer, may_take}
use Rattle.record_locks.specs.Table.{held, is_of, IsTable}
use Rattle.record_locks.proofs.TableLaws.{held-write, IsTable-write, held-read, held-push, IsTable-push, room_to_take, not_held, held_somehow}
use Rattle.record_locks.proofs.table.Locks.take.Goals as goal

pub invariant_of-self : goal.invariant_of-self
invariant_of-self c =
    let at : position (is_of c.args.key c.args.t) c.self.inside.entries.items ≡ Some c.in-Some.place = sym (ap (position (is_of c.args.key c.args.t)) c.deref.ensures.value) ∙ sym c.place_of.ensures ∙ c.in-Some.is in
    let placed = position-Some (is_of c.args.key c.args.t) c.self.inside.entries.items c.in-Some.place c.index_mut.result.now at in
    let P : Entry → Type 0 = λ e. IsTable (set c.self.inside.entries.items c.in-Some.place (record e { mode = Write })) in
    (subst P (sym c.index_mut.ensures.value) (IsTable-write c.args.key c.args.t c.self.inside.entries.items c.in-Some.place c.index_mut.result.now c.self.invariant.0 placed.0 placed.1), c.self.invariant.1)

pub push_reserved-requires : goal.push_reserved-requires
push_reserved-requires c =
    let none : position (is_of c.args.key c.args.t) c.self.inside.entries.items ≡ None = sym (ap (position (is_of c.args.key c.args.t)) c.deref.ensures.value) ∙ sym c.place_of.ensures ∙ c.in-None.is in
    let may : IsTrue (may_take (lock_answer (held c.self.inside.entries.items) c.args.key c.args.t c.args.mode)) = subst (λ h. IsTrue (may_take (lock_answer h c.args.key c.args.t c.args.mode))) (sym c.self.view_is) c.requires in
    let room : length c.self.inside.entries.items < 4096 = room_to_take c.args.key c.args.t c.args.mode c.self.inside.entries.items c.self.invariant.0 (not_held c.args.key c.args.t c.self.inside.entries.items none) may in
    omega (arith, room, c.self.invariant.1, c.deref.ensures.len, ap length c.deref.ensures.value)

pub invariant_of-self-in-None : goal.invariant_of-self-in-None
invariant_of-self-in-None c =
    let none : position (is_of c.args.key c.args.t) c.self.inside.entries.items ≡ None = sym (ap (position (is_of c.args.key c.args.t)) c.deref.ensures.value) ∙ sym c.place_of.ensures ∙ c.in-None.is in
    let may : IsTrue (may_take (lock_answer (held c.self.inside.entries.items) c.args.key c.args.t c.args.mode)) = subst (λ h. IsTrue (may_take (lock_answer h c.args.key c.args.t c.args.mode))) (sym c.self.view_is) c.requires in
    let room : length c.self.inside.entries.items < 4096 = room_to_take c.args.key c.args.t c.args.mode c.self.inside.entries.items c.self.invariant.0 (not_held c.args.key c.args.t c.self.inside.entries.items none) may in
    let table = IsTable-push c.args.key c.args.t c.args.mode c.self.inside.entries.items (not_held c.args.key c.args.t c.self.inside.entries.items none) room c.self.invariant.0 in
    (subst IsTable (sym c.push_reserved.ensures.items) table, omega (arith, c.push_reserved.ensures.capacity, c.self.invariant.1))

pub returns-then-eq : goal.returns-then-eq
returns-then-eq c =
    let at : position (is_of c.args.key c.args.t) c.self.inside.entries.items ≡ Some c.in-Some.place = sym (ap (position (is_of c.args.key c.args.t)) c.deref.ensures.value) ∙ sym c.place_of.ensures ∙ c.in-Some.is in
    let placed = position-Some (is_of c.args.key c.args.t) c.self.inside.entries.items c.in-Some.place c.index_mut.result.now at in
    let write : c.args.mode ≡ Write = search rules in
    ap (λ e. held (set c.self.inside.entries.items c.in-Some.place (record e { mode = Write }))) c.index_mut.ensures.value
    ∙ held-write c.args.key c.args.t c.self.inside.entries.items c.in-Some.place c.index_mut.result.now c.self.invariant.0 placed.0 placed.1
    ∙ (λ i. taken (c.self.view_is i) c.args.key c.args.t (sym write i))

pub returns-else-eq : goal.returns-else-eq
returns-else-eq c =
    let at : position (is_of c.args.key c.args.t) c.self.inside.entries.items ≡ Some c.in-Some.place = sym (ap (position (is_of c.args.key c.args.t)) c.deref.ensures.value) ∙ sym c.place_of.ensures ∙ c.in-Some.is in
    let had = held_somehow c.args.key c.args.t c.self.inside.entries.items c.in-Some.place at in
    let read : c.args.mode ≡ Read = search rules in
    sym c.self.view_is ∙ held-read c.args.key c.args.t c.self.inside.entries.items had.0 had.1 ∙ (λ i. taken (c.self.view_is i) c.args.key c.args.t (sym read i))

pub returns-in-None : goal.returns-in-None
returns-in-None c =
    let none : position (is_of c.args.key c.args.t) c.self.inside.entries.items ≡ None = sym (ap (position (is_of c.args.key c.args.t)) c.deref.ensures.value) ∙ sym c.place_of.ensures ∙ c.in-None.is in
    ap held c.push_reserved.ensures.items
    ∙ held-push c.args.key c.args.t c.args.mode c.self.inside.entries.items (not_held c.args.key c.args.t c.self.inside.entries.items none)
    ∙ ap (λ h. taken h c.args.key c.args.t c.args.mode) c.self.view_is
