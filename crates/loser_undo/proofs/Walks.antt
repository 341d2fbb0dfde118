-- The records of a transaction, followed back from its last one.
use Rattle.std.specs.Prelude.{◌≡◌, ◌≢◌, ℕ, Bool, true, false, List, [], ◌∷◌, ◌++◌, Some, refl}
use Rattle.std.proofs.Common.{append_assoc, ap, subst, sym}
use Rattle.log_record.specs.declared.record.LogRecord.{LogRecord}
use Rattle.compensation.specs.Left.{is_update_of, next_after}
use Rattle.compensation.specs.Finding.{record_at, record_before}
use Rattle.loser_undo.specs.Losers.{Counts, IsLast, IsLoser, LeadsTo}
use Rattle.loser_undo.specs.Losers.LeadsTo.{at_begin, an_update, a_compensation}
use Rattle.loser_undo.specs.Rules.{AllLeadBack, IsEarlier, Names}
use Rattle.loser_undo.specs.declared.losers.Loser.{Loser}

-- These updates were found between the last record and record r.
pub record Walked (first : ℕ) (recs : List LogRecord) (t last r : ℕ) (l : Loser) : Type 0 where
  pub own : r ≢ t → (rec : LogRecord) × (record_at first recs r ≡ Some rec) × Names t rec
  pub updates : List ℕ
  pub counts : Counts l updates
  pub found : (more : List ℕ) → LeadsTo first recs t r more → LeadsTo first recs t last (updates ++ more)

-- at the last record none was found yet
pub walked_none : (first : ℕ) (recs : List LogRecord) (t last : ℕ) → IsLast first recs t last → Walked first recs t last last (record { begin = t; last = last; next = t; left = 0 })
walked_none first recs t last is = record { own = is.own; updates = []; counts = (refl, refl); found = λ more leads. leads }

-- where a record leads to, by what it is
abbrev pub LeadsOn : ℕ → LogRecord → Bool → ℕ → Type 0
LeadsOn t rec is_update to = (is_update ≡ true → (is_update_of t rec ≡ true) × (to ≡ record_before rec)) × (is_update ≡ false → next_after t rec ≡ Some to)

-- it is an earlier one
pub leads_earlier : (first : ℕ) (recs : List LogRecord) (t r to : ℕ) (rec : LogRecord) (is_update : Bool) → AllLeadBack first recs t → record_at first recs r ≡ Some rec → Names t rec → LeadsOn t rec is_update to → IsEarlier first recs t r to
leads_earlier first recs t r to rec true back at names on = subst (IsEarlier first recs t r) (sym (on.0 refl).1) (back r rec at names).before
leads_earlier first recs t r to rec false back at names on = (back r rec at names).next to (on.1 refl)

-- the record that is followed is one of the transaction
pub walked_names : (first : ℕ) (recs : List LogRecord) (t last r : ℕ) (l : Loser) (rec : LogRecord) → Walked first recs t last r l → r ≢ t → record_at first recs r ≡ Some rec → Names t rec
walked_names first recs t last r l rec walked not at =
    let own = walked.own not in
    let there = own.1 in
    let same : own.0 ≡ rec = cc in
    subst (Names t) same own.2

-- one record further back
pub walked_on : (first : ℕ) (recs : List LogRecord) (t last r to : ℕ) (l m : Loser) (rec : LogRecord) (is_update : Bool) → AllLeadBack first recs t → record_at first recs r ≡ Some rec → Names t rec → LeadsOn t rec is_update to
    → (is_update ≡ true → (us : List ℕ) → Counts l us → Counts m (us ++ r ∷ [])) → (is_update ≡ false → (us : List ℕ) → Counts l us → Counts m us) → Walked first recs t last r l → Walked first recs t last to m
walked_on first recs t last r to l m rec true back at names on update other walked = record {
  own = (leads_earlier first recs t r to rec true back at names on).own;
  updates = walked.updates ++ r ∷ [];
  counts = update refl walked.updates walked.counts;
  found = λ more leads. subst (LeadsTo first recs t last) (sym (append_assoc walked.updates (r ∷ []) more)) (walked.found (r ∷ more) (an_update r rec more at (on.0 refl).0 (subst (λ k. LeadsTo first recs t k more) (on.0 refl).1 leads)));
}
walked_on first recs t last r to l m rec false back at names on update other walked = record {
  own = (leads_earlier first recs t r to rec false back at names on).own;
  updates = walked.updates;
  counts = other refl walked.updates walked.counts;
  found = λ more leads. walked.found more (a_compensation r to rec more at (on.1 refl) leads);
}

no_more : (us : List ℕ) → us ++ [] ≡ us
no_more [] = refl
no_more (u ∷ us) = ap (λ l. u ∷ l) (no_more us)

-- at the record that began the transaction all were found
pub walked_all : (first : ℕ) (recs : List LogRecord) (t last r : ℕ) (l : Loser) → l.begin ≡ t → l.last ≡ last → r ≡ t → IsLast first recs t last → Walked first recs t last r l → IsLoser first recs l
walked_all first recs t last r l begin is_last at_t last_one walked =
    let leads = walked.found [] (subst (λ k. LeadsTo first recs t k []) (sym at_t) at_begin) in
    let all = subst (LeadsTo first recs t last) (no_more walked.updates) leads in
    record {
      last = subst (λ k. IsLast first recs k l.last) (sym begin) (subst (IsLast first recs t) (sym is_last) last_one);
      updates = walked.updates;
      found = subst (λ k. LeadsTo first recs k l.last walked.updates) (sym begin) (subst (λ k. LeadsTo first recs t k walked.updates) (sym is_last) all);
      counts = walked.counts;
    }
