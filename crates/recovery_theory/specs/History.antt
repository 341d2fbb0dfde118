-- The history of a store: what its devices and logs say, wherever a stop cuts the logs.
use Rattle.std.specs.Prelude.{ℕ, ◌≡◌, ◌≤◌, List, length, take, Option}
use Rattle.space_map.specs.declared.map_entry.MapEntry.{MapEntry}
use Rattle.log_record.specs.declared.record.LogRecord.{LogRecord}
use Rattle.recovery_theory.specs.Pages.{SlotValue}
use Rattle.recovery_theory.specs.Effect.{Transaction}
use Rattle.recovery_theory.specs.Standing.{Devices, IsStanding}
use Rattle.space_map.specs.PageImage.{PageImage}

-- The devices; the records that each node has appended, and how many of them are stable. For each page its guard, the one node
-- whose log may have what isn't sure of the page; its entry and its recovered image for each place at which the guard's log may
-- be cut; and the place from which on no record changes it. For each slot its value without what is left to be taken back, and
-- who has its lock.
--
-- Entry and image depend on the cut of one log alone. So a cut of another log changes nothing of the page, and a stop of a node
-- only picks a place in its log.
pub record History : Type 0 where
  pub devices : Devices
  pub live : ℕ → List LogRecord
  pub stable : ℕ → ℕ
  pub guard : ℕ → ℕ
  pub entry : ℕ → ℕ → MapEntry
  pub image : ℕ → ℕ → PageImage
  pub last : ℕ → ℕ
  pub settled : ℕ → ℕ → SlotValue
  pub lock : ℕ → ℕ → Option Transaction

-- a place in each log behind all that is stable
abbrev pub IsCut : History → (ℕ → ℕ) → Type 0
IsCut h cut = (n : ℕ) → (h.stable n ≤ cut n) × (cut n ≤ length (h.live n))

-- the logs, and what each page is, where the logs are cut there
abbrev pub logs_at : History → (ℕ → ℕ) → ℕ → List LogRecord
logs_at h cut n = take (cut n) (h.live n)

-- the recovered images at a cut
abbrev pub image_at : History → (ℕ → ℕ) → ℕ → PageImage
image_at h cut x = h.image x (cut (h.guard x))

-- the entries at a cut
abbrev pub entry_at : History → (ℕ → ℕ) → ℕ → MapEntry
entry_at h cut x = h.entry x (cut (h.guard x))

-- at the end of the logs
abbrev pub image_now : History → ℕ → PageImage
image_now h x = h.image x (length (h.live (h.guard x)))

-- the entry at the end of the logs
abbrev pub entry_now : History → ℕ → MapEntry
entry_now h x = h.entry x (length (h.live (h.guard x)))

-- wherever the logs are cut behind what is stable, the devices stand
pub record IsHistory (h : History) : Type 0 where
  pub sound : (n : ℕ) → h.stable n ≤ length (h.live n)
  pub steady : (x k : ℕ) → h.last x ≤ k → k ≤ length (h.live (h.guard x)) → (h.image x k ≡ image_now h x) × (h.entry x k ≡ entry_now h x)
  pub stands : (cut : ℕ → ℕ) → IsCut h cut → IsStanding h.devices (logs_at h cut) h.guard (entry_at h cut) (image_at h cut) h.settled h.lock
