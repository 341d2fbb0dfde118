-- The words of the theory are those of the layers below.
use Rattle.std.proofs.Common.{◌≡◌, ◌≤◌, ◌<◌, ◌⊎◌, inl, inr, Some, refl, sym, ap, ◌∙◌, arith, nat_lt, if◌then◌else◌}
use Rattle.std.proofs.lemmas.Bool.{cases_lt}
use Rattle.space_map.specs.Entry as entry
use Rattle.space_map.specs.Life.{blank_page}
use Rattle.space_map.specs.PageImage.{data_of, data_page, map_page, in_life, view_of}
use Rattle.log_record.specs.declared.record.LogRecord.TheVariants.{Begin, Set, Append, Commit, Abort, Restore, Cut, MapUse, MapFree}
use Rattle.recovery_theory.specs.Pages.{LifeIsOfItsEntry, birth_of, in_life_from, page_named}
use Rattle.recovery_theory.specs.Effect.{StepIsSaid, UpdateIsSaid}
use Rattle.recovery_theory.proofs.PageLaws.{in_life_from-blank, in_life_from-same}

pub step_is_said : StepIsSaid
step_is_said Begin x = refl
step_is_said (Set txn prev page bsi slot before after) x = refl
step_is_said (Append txn prev page bsi slot present len bytes) x = refl
step_is_said (Commit txn prev) x = refl
step_is_said (Abort txn prev) x = refl
step_is_said (Restore txn prev next page bsi slot after) x = refl
step_is_said (Cut txn prev next page bsi slot present len) x = refl
step_is_said (MapUse page bsi place group) x = refl
step_is_said (MapFree page bsi place group ident) x = refl

pub update_is_said : UpdateIsSaid
update_is_said Begin t x b op back e = absurd cc
update_is_said (Set txn prev page bsi slot before after) t x b op back e = (cc, cc)
update_is_said (Append txn prev page bsi slot present len bytes) t x b op back e = (cc, cc)
update_is_said (Commit txn prev) t x b op back e = absurd cc
update_is_said (Abort txn prev) t x b op back e = absurd cc
update_is_said (Restore txn prev next page bsi slot after) t x b op back e = absurd cc
update_is_said (Cut txn prev next page bsi slot present len) t x b op back e = absurd cc
update_is_said (MapUse page bsi place group) t x b op back e = absurd cc
update_is_said (MapFree page bsi place group ident) t x b op back e = absurd cc

pub life_is_of_its_entry : LifeIsOfItsEntry
life_is_of_its_entry shape x e (map_page m) is = (λ le. absurd (omega (arith, is.0)), λ lt. in_life_from-same x 0 (map_page m) (omega arith))
life_is_of_its_entry shape x e (data_page v) is = (λ le. by (cases_lt v.ident (birth_of e)), λ lt. in_life_from-same x 0 (data_page v) (omega arith))
  where
    named : v.page ≡ page_named x
    named = ap page_named is.1

    by : (v.ident < birth_of e) ⊎ (birth_of e ≤ v.ident) → in_life_from x (birth_of e) (data_page v) ≡ in_life (Some e) (data_page v)
    by (inl lt) =
        let stale : (if nat_lt v.ident (entry.ident_of e) then blank_page (entry.ident_of e) else data_of v) ≡ blank_page (entry.ident_of e) = grind arith in
        in_life_from-blank x (birth_of e) (data_page v) lt ∙ (ap (λ page. data_page (view_of page (blank_page (entry.ident_of e)))) (sym named) ∙ ap (λ page. data_page (view_of v.page page)) (sym stale))
    by (inr le) =
        let present : (if nat_lt v.ident (entry.ident_of e) then blank_page (entry.ident_of e) else data_of v) ≡ data_of v = grind arith in
        in_life_from-same x (birth_of e) (data_page v) le ∙ ap (λ page. data_page (view_of v.page page)) (sym present)
