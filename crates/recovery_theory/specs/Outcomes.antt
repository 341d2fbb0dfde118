-- Devices that stand for records, with all that is asked of them, at every outcome of a history.
use Rattle.std.specs.Prelude.{ℕ, ◌<◌, ◌≤◌, ◌+◌, ◌^◌, List}
use Rattle.sd_base.specs.Shape.{page_count}
use Rattle.log_record.specs.declared.record.LogRecord.{LogRecord}
use Rattle.recovery_theory.specs.Pages.{SlotValue}
use Rattle.recovery_theory.specs.Standing.{Devices}
use Rattle.recovery_theory.specs.History.{History, IsCut, image_now, logs_at}
use Rattle.recovery_theory.specs.Records.{Holds, Stands}
use Rattle.recovery_theory.specs.Room.{AreSoundLogs, IsRoomy}
use Rattle.recovery_theory.specs.Headroom.{IsRising, all_pending}
use Rattle.space_map.specs.PageImage.{ident_of}

-- The devices stand for the records: as chains, slots and keys (Stands); their live logs keep the rules and have room; and the
-- identifier of each page leaves room to take back what is left, in the logs of so many nodes.
pub record StandsFor (w : Devices) (logs : ℕ → List LogRecord) (nodes : ℕ) (records : ℕ → SlotValue) : Type 0 where
  pub stands : Stands w logs records
  pub sound : AreSoundLogs w logs
  pub headroom : (x : ℕ) → x < page_count w.shape → ident_of (stands.image x) + all_pending x w.first logs nodes ≤ 2 ^ 63 + 2 ^ 40

-- The same of what is read on devices, whatever that is: the texts of the supers, the anchors, the log blocks and the pages,
-- legal each in its place, are the business of those who read them.
pub record StandsOn (reads : Devices → (ℕ → List LogRecord) → Type 0) (nodes : ℕ) (records : ℕ → SlotValue) : Type 0 where
  pub devices : Devices
  pub logs : ℕ → List LogRecord
  pub read : reads devices logs
  pub stands : StandsFor devices logs nodes records

-- the present leaves room to take back what is left
abbrev pub HasHeadroom : History → ℕ → Type 0
HasHeadroom p nodes = (x : ℕ) → x < page_count p.devices.shape → ident_of (image_now p x) + all_pending x p.devices.first p.live nodes ≤ 2 ^ 63 + 2 ^ 40

-- so at every cut, and in particular after every stop, the devices stand for the history's records
abbrev pub StandsForAtEachCut : Type 0
StandsForAtEachCut = (p : History) (records : ℕ → SlotValue) (nodes : ℕ) (cut : ℕ → ℕ) → Holds p records → IsRoomy p → IsRising p → HasHeadroom p nodes → IsCut p cut → StandsFor p.devices (logs_at p cut) nodes records
