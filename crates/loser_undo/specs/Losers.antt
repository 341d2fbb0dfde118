-- The losers of a log, with the numbers that the log gives for them.
use Rattle.std.specs.Prelude.{ℕ, true, ◌≡◌, ◌≢◌, ◌≤◌, ◌<◌, ◌+◌, ◌*◌, ◌/◌, ◌⊎◌, ⊤, List, [], ◌∷◌, Some, All, length, map}
use Rattle.sd_base.specs.declared.fault.DevFault.{DevFault}
use Rattle.sd_base.specs.declared.fault.DevFault.TheVariants.{Stopped, Failed, Lost, Damaged}
use Rattle.log_record.specs.declared.record.LogRecord.{LogRecord}
use Rattle.private_log.specs.Content.{place}
use Rattle.private_log.specs.Log.{LogState, region}
use Rattle.compensation.specs.Left.{is_update_of, next_after}
use Rattle.compensation.specs.Finding.{record_at, record_before}
use Rattle.loser_undo.specs.Logs.{first_of}
use Rattle.loser_undo.specs.Rules.{KeepsRule, Names, open_in}
use Rattle.loser_undo.specs.declared.losers.Loser.{Loser}

-- What record r of transaction t leads to: an update to itself and then to the record before it, and a compensation to what it
-- says is next, until the record that began the transaction. These are the updates that aren't taken back, the newest first.
pub data LeadsTo (first : ℕ) (recs : List LogRecord) (t : ℕ) : ℕ → List ℕ → Type 0 where
  at_begin : LeadsTo first recs t t []
  an_update : (r : ℕ) (rec : LogRecord) (us : List ℕ) → record_at first recs r ≡ Some rec → is_update_of t rec ≡ true → LeadsTo first recs t (record_before rec) us → LeadsTo first recs t r (r ∷ us)
  a_compensation : (r next : ℕ) (rec : LogRecord) (us : List ℕ) → record_at first recs r ≡ Some rec → next_after t rec ≡ Some next → LeadsTo first recs t next us → LeadsTo first recs t r us

-- record `last` is the last one of transaction t: the record that began it, or one that names it, and none behind it does
pub record IsLast (first : ℕ) (recs : List LogRecord) (t last : ℕ) : Type 0 where
  pub own : last ≢ t → (rec : LogRecord) × (record_at first recs last ≡ Some rec) × Names t rec
  pub none : (q : ℕ) (rec : LogRecord) → last < q → record_at first recs q ≡ Some rec → ¬ (Names t rec)

-- the newest of these updates, or the record that began the transaction
abbrev pub newest_or : ℕ → List ℕ → ℕ
newest_or t [] = t
newest_or t (u ∷ us) = u

-- these updates are left, and which of them is next
abbrev pub Counts : Loser → List ℕ → Type 0
Counts l us = (l.next ≡ newest_or l.begin us) × (l.left ≡ length us)

-- the transaction's last record, and which of its updates aren't taken back
pub record IsLoser (first : ℕ) (recs : List LogRecord) (l : Loser) : Type 0 where
  pub last : IsLast first recs l.begin l.last
  pub updates : List ℕ
  pub found : LeadsTo first recs l.begin l.last updates
  pub counts : Counts l updates

-- the number of the record that began it
abbrev pub begin_of : Loser → ℕ
begin_of l = l.begin

-- these are the losers of the log, by rising numbers of the records that began them
pub record AreLosers (first : ℕ) (recs : List LogRecord) (ls : List Loser) : Type 0 where
  pub begun : map begin_of ls ≡ open_in first recs
  pub each : All (IsLoser first recs) ls

-- the records that they may still need: an end for each, and a compensation for each update that is left
abbrev pub owed : List Loser → ℕ
owed [] = 0
owed (l ∷ ls) = l.left + 1 + owed ls

-- the log has room for what they may still need
abbrev pub HasRoom : LogState → List LogRecord → List Loser → Type 0
HasRoom l recs ls = length recs + owed ls ≤ 6 * l.shape.ring

-- The rules that a log breaks at a block: that of a record in it or, at the anchor, that the log has room for what it owes.
abbrev pub BreaksRule : LogState → List LogRecord → ℕ → Type 0
BreaksRule l recs at =
    ((r : ℕ) × (rec : LogRecord) × (record_at (first_of l) recs r ≡ Some rec) × (at ≡ place (region l) (r / 6)) × ¬ (KeepsRule (first_of l) recs r rec))
    ⊎ ((ls : List Loser) × AreLosers (first_of l) recs ls × (at ≡ (region l).anchor) × ¬ (HasRoom l recs ls))

-- a block that is said to be damaged is one where the log breaks a rule, and no other than the anchor is lost
abbrev pub IsBreach : LogState → List LogRecord → DevFault → Type 0
IsBreach l recs (Stopped n) = ⊤
IsBreach l recs (Failed n) = ⊤
IsBreach l recs (Lost at) = at.0 ≡ (region l).anchor
IsBreach l recs (Damaged at) = BreaksRule l recs at.0
