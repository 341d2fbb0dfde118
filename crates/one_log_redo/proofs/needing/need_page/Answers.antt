use Rattle.std.proofs.Common.{rules, refl, false, ◌≡◌, ◌<◌, ℕ, Option, Some, None, IfNone, length, arith, subst, sym, ap, ◌∙◌}
use Rattle.std.proofs.lemmas.Result.{err_from_is_err_and}
use Rattle.one_log_redo.specs.Copies.{IsAt, copy_at}
use Rattle.one_log_redo.proofs.Arrivals.{more_here, more_other}
use Rattle.one_log_redo.proofs.PageCalls.{err_stays, keeps_pages_then}
use Rattle.one_log_redo.specs.declared.copies.Copied.{Copied}
use Rattle.one_log_redo.proofs.needing.need_page.Goals as goal

-- what is said where nothing is found
none_said : {X : Type 0} (o : Option X) (P : Type 0) → o ≡ None → IfNone o P → P
none_said None P e p = p
none_said (Some x) P e p = absurd cc

pub load-requires-clause-nowhere : goal.load-requires-clause-nowhere
load-requires-clause-nowhere g c = c.in_ok-k.ensures.fewer c.args.x (none_said c.find.result _ c.in_default.is c.find.ensures.none)

pub returns-in_err-load-clause-pages : goal.returns-in_err-load-clause-pages
returns-in_err-load-clause-pages g c =
    let p = err_from_is_err_and c.from_residual-in_err-load.result c.from_residual-in_err-load.ensures.1 in
    rw (p.1, p.2) (err_stays (Unit {0}) ℕ c.in_err-load.field-0.0 c.in_err-load.ensures.pages (λ pages told. keeps_pages_then _ _ _ _ (c.in_ok-k.ensures.pages told) (pages told)))

pub returns-clause-pages : goal.returns-clause-pages
returns-clause-pages g c = λ told. keeps_pages_then _ _ _ _ (c.in_ok-k.ensures.pages told) (c.in_ok-load.ensures.pages told)

pub returns-clause-there : goal.returns-clause-there
returns-clause-there g c =
    let long : length c.make_room.new.copies ≡ 16 = search rules in
    let within : c.in_ok-k.k < length c.make_room.new.copies = omega (arith, long, c.in_ok-k.ensures.free.0, c.requires.lent.few) in
    let new : Copied = record { page = c.args.x; since = c.args.since; changed = false } in
    (new, ap (λ cs. copy_at cs c.in_ok-k.k) c.in_ok-load.ensures.there ∙ more_here c.make_room.new.copies c.in_ok-k.k new within, refl)

pub returns-clause-kept : goal.returns-clause-kept
returns-clause-kept g c = λ j at.
    let long : length c.make_room.new.copies ≡ 16 = search rules in
    let within : c.in_ok-k.k < length c.make_room.new.copies = omega (arith, long, c.in_ok-k.ensures.free.0, c.requires.lent.few) in
    let new : Copied = record { page = c.args.x; since = c.args.since; changed = false } in
    let w = c.in_ok-k.ensures.kept j at in
    (w.0, ap (λ cs. copy_at cs j) c.in_ok-load.ensures.there ∙ more_other c.make_room.new.copies c.in_ok-k.k new within j (λ e. let no : None ≡ Some w.0 = sym c.in_ok-k.ensures.free.1 ∙ ap (copy_at c.make_room.new.copies) (sym e) ∙ w.1 in absurd cc) ∙ w.1, w.2)
