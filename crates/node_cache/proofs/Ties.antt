-- The tie of a cache to its log, through calls of the log.
use Rattle.std.specs.Prelude.{◌≡◌, ◌≢◌, ◌≤◌, ◌+◌, ◌%◌, Option, Some, None}
use Rattle.std.proofs.Common.{arith, inl, inr, subst, sym, ◌∙◌}
use Rattle.std.proofs.lemmas.Bool.{cases_eq}
use Rattle.sd_base.specs.declared.names.PageNo.{PageNo}
use Rattle.private_log.specs.Log.{LogState, IsLog, SameLog, written}
use Rattle.node_cache.specs.Cache.{Changes, CacheState, IsInLog, IsTiedToLog, with_change, changed_by, with_page}
use Rattle.node_cache.proofs.OnePage.{all_with}

-- the records stay in a log that keeps its start and loses none
pub in_longer : (l m : LogState) → SameLog l m → l.tail ≤ m.tail → (changes : Option Changes) → IsInLog l changes → IsInLog m changes
in_longer l m same longer None inside = tt
in_longer l m same longer (Some c) inside = let start = same.start in (omega (arith, start, inside.0), inside.1, omega (arith, longer, inside.2))

pub tied_longer : (c : CacheState) (m : LogState) → SameLog c.log m → c.log.tail ≤ m.tail → IsTiedToLog c → IsTiedToLog (record { log = m; node = c.node; pages = c.pages })
tied_longer c m same longer tie = record { node = same.node ∙ tie.node; changes = λ i d below. in_longer c.log m same longer _ (tie.changes i d below) }

-- no record is less stable than before, when one more was appended
pub rises_logged : (l m : LogState) → ((l.tail + 1) % 6 ≢ 0 → m.stable ≡ l.stable) → ((l.tail + 1) % 6 ≡ 0 → m.stable ≡ written l) → l.stable ≤ m.stable
rises_logged l m memory full = elim (cases_eq ((l.tail + 1) % 6) 0) [
  | inl zero ↦ (let is = full zero in omega (arith, is))
  | inr more ↦ (let is = memory more in omega (arith, is))
]

-- one more record of the page x stands at the end of the log
changed_in : (l m : LogState) → IsLog l → SameLog l m → m.tail ≡ l.tail + 1 → (changes : Option Changes) → IsInLog l changes → IsInLog m (with_change l.tail changes)
changed_in l m is same more None inside = let start = same.start in let low = is.low in let stable = is.stable in (omega (arith, start, low, stable), omega arith, omega (arith, more))
changed_in l m is same more (Some c) inside = let start = same.start in (omega (arith, start, inside.0), omega (arith, inside.1, inside.2), omega (arith, more))

pub tied_changed : (c : CacheState) (m : LogState) (x : PageNo) → IsLog c.log → SameLog c.log m → m.tail ≡ c.log.tail + 1 → IsTiedToLog c
    → IsTiedToLog (record { log = m; node = c.node; pages = with_page x (changed_by c.log.tail) c.pages })
tied_changed c m x is same more tie = record {
  node = same.node ∙ tie.node;
  changes = all_with (λ p. IsInLog m p.changes) x (changed_by c.log.tail) c.pages
      (λ i d below. (λ e. changed_in c.log m is same more _ (tie.changes i d below), λ e. in_longer c.log m same (omega (arith, more)) _ (tie.changes i d below)));
}

-- what holds of a cache holds of one with the same log, node and pages
pub state_of : (P : CacheState → Type 0) (c d : CacheState) → d.log ≡ c.log → d.node ≡ c.node → d.pages ≡ c.pages → P c → P d
state_of P c d log node pages p = subst P (λ i. record { log = sym log i; node = sym node i; pages = sym pages i }) p
