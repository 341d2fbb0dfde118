-- The rules and the room of the logs of a history, wherever they are cut.
use Rattle.std.specs.Prelude.{ℕ, ◌≡◌, ◌≤◌, ◌+◌, ◌*◌, ◌^◌, ◌++◌, ◌∷◌, [], false, List, length, drop}
use Rattle.space_map.specs.declared.map_entry.MapEntry.{MapEntry}
use Rattle.log_record.specs.declared.record.LogRecord.{LogRecord}
use Rattle.sd_base.specs.declared.page_op.PageOp.{PageOp}
use Rattle.recovery_theory.specs.Effect.{effect_of}
use Rattle.recovery_theory.specs.Effect.Effect.{Mapped}
use Rattle.recovery_theory.specs.Standing.{Devices}
use Rattle.recovery_theory.specs.History.{History, IsCut, IsHistory, logs_at}
use Rattle.recovery_theory.specs.Steps.{IsPlaceToCut, ended, forced, logged, moved, stopped}
use Rattle.recovery_theory.specs.Rules.{EndsNone, IsOwed, IsRuled, RuleOf, is_end, owed_by}
use Rattle.space_map.specs.PageImage.{PageImage}

-- a log with what its open transactions may still need fits into the ring, and into the numbers of records
pub record HasRoom (w : Devices) (n : ℕ) (recs : List LogRecord) : Type 0 where
  pub room : length recs + owed_by (w.first n) recs ≤ 6 * w.shape.ring
  pub last : w.first n + (length recs + owed_by (w.first n) recs) ≤ 6 * 2 ^ 56

-- there is room for so many records more, with what is owed
pub record HasRoomFor (need : ℕ) (w : Devices) (n : ℕ) (recs : List LogRecord) : Type 0 where
  pub room : length recs + owed_by (w.first n) recs + need ≤ 6 * w.shape.ring
  pub last : w.first n + (length recs + owed_by (w.first n) recs) + need ≤ 6 * 2 ^ 56

-- the live logs keep their rules, and fit
pub record AreSoundLogs (w : Devices) (logs : ℕ → List LogRecord) : Type 0 where
  pub ruled : (n : ℕ) → IsRuled (w.first n) [] (logs n)
  pub fits : (n : ℕ) → HasRoom w n (logs n)

-- Those of a history do as a whole, and no transaction ends in what isn't stable: its end is forced.
pub record IsRoomy (p : History) : Type 0 where
  pub whole : AreSoundLogs p.devices p.live
  pub loose : (n : ℕ) → EndsNone (drop (p.stable n) (p.live n))

-- so they do wherever they are cut
abbrev pub SoundAtCuts : Type 0
SoundAtCuts = (p : History) (cut : ℕ → ℕ) → IsHistory p → IsRoomy p → IsCut p cut → AreSoundLogs p.devices (logs_at p cut)

-- ---- the room that a record takes

-- any record takes two places at most: its own, and one that it owes
abbrev pub RoomForOneMore : Type 0
RoomForOneMore = (w : Devices) (n : ℕ) (l : List LogRecord) (rec : LogRecord) → HasRoomFor 2 w n l → HasRoom w n (l ++ rec ∷ [])

-- a change of a map page takes one
abbrev pub RoomForMapChange : Type 0
RoomForMapChange = (w : Devices) (n page bsi : ℕ) (op : PageOp) (l : List LogRecord) (rec : LogRecord) → effect_of rec ≡ Mapped page bsi op → HasRoomFor 1 w n l → HasRoom w n (l ++ rec ∷ [])

-- a record that is owed always has room: so an abort never lacks it
abbrev pub RoomForOwed : Type 0
RoomForOwed = (w : Devices) (n t : ℕ) (l : List LogRecord) (rec : LogRecord) → IsOwed (w.first n) l rec t → HasRoom w n l → HasRoom w n (l ++ rec ∷ [])

-- ---- what each step of the logs has to show

-- a record that ends no transaction is appended
abbrev pub LoggedKeepsRoom : Type 0
LoggedKeepsRoom = (p : History) (n : ℕ) (r : LogRecord) (entry : ℕ → MapEntry) (now : ℕ → PageImage) (last : ℕ → ℕ) → IsHistory p → IsRoomy p
    → RuleOf (p.devices.first n) (p.live n) r (effect_of r) → is_end (effect_of r) ≡ false → HasRoom p.devices n (p.live n ++ r ∷ []) → IsRoomy (logged p n r entry now last)

-- a transaction ends
abbrev pub EndKeepsRoom : Type 0
EndKeepsRoom = (p : History) (n t : ℕ) (r : LogRecord) → IsRoomy p → RuleOf (p.devices.first n) (p.live n) r (effect_of r) → HasRoom p.devices n (p.live n ++ r ∷ []) → IsRoomy (ended p n t r)

-- more of a log is stable
abbrev pub ForceKeepsRoom : Type 0
ForceKeepsRoom = (p : History) (n k : ℕ) → IsRoomy p → p.stable n ≤ k → IsRoomy (forced p n k)

-- a node stops
abbrev pub StopKeepsRoom : Type 0
StopKeepsRoom = (p : History) (n k : ℕ) → IsHistory p → IsRoomy p → IsPlaceToCut p n k → IsRoomy (stopped p n k)

-- the start of a log moves
abbrev pub MoveKeepsRoom : Type 0
MoveKeepsRoom = (p : History) (n c : ℕ) → IsRoomy p → p.stable n ≡ length (p.live n) → c ≤ length (p.live n) → IsRoomy (moved p n c)
