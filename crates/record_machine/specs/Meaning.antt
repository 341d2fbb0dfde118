-- What the logs and the pages of a store mean to the machine.
use Rattle.std.specs.Prelude.{◌≡◌, ◌≢◌, ◌==◌, ◌&&◌, ◌+◌, ◌*◌, ◌^◌, ◌≤◌, ◌<◌, ◌++◌, ⊤, ℕ, Bool, true, false, List, [], ◌∷◌, Option, Some, None, All, IfSome, length, map, replicate, unwrap_or, slice_index_or, slice_set}
use Rattle.std.specs.List.{AllPairs, list_any}
use Rattle.sd_base.specs.Shape.{IsShape, page_count, pages_per_map}
use Rattle.sd_base.specs.declared.names.GroupNo.{GroupNo}
use Rattle.sd_base.specs.declared.names.Key.{Key}
use Rattle.sd_base.specs.declared.names.TxnId.{TxnId}
use Rattle.sd_base.specs.declared.shape.Shape.{Shape}
use Rattle.sd_base.specs.Places.{page_of_place, slot_of_key}
use Rattle.page_image.specs.declared.page_view.PageView.{PageView}
use Rattle.space_map.specs.declared.map_entry.MapEntry.{MapEntry}
use Rattle.space_map.specs.declared.map_entry.MapEntry.TheVariants.{Free, Used}
use Rattle.space_map.specs.Entry.{ident_of}
use Rattle.space_map.specs.Image.{MapImage, birth_map}
use Rattle.log_record.specs.declared.record.LogRecord.{LogRecord}
use Rattle.log_record.specs.declared.record.LogRecord.TheVariants.{Begin, Set, Append, Commit, Abort, Restore, Cut, MapUse, MapFree}
use Rattle.compensation.specs.Inverse.{IsMarked, content}
use Rattle.compensation.specs.Finding.{record_at}
use Rattle.record_locks.specs.declared.mode.Mode.TheVariants as locks
use Rattle.record_locks.specs.Held.{IsCompatible, mode_of}
use Rattle.record_machine.specs.Machine.{Deed, Machine, Write, home, open_writes, put, seen, written}

-- The logs and pages of a store as they are at present, with all that is in memory alone: the records that each node has
-- logged since the start of its log, each map page, and each data page in its present life.
pub record Plain : Type 0 where
  pub live : ℕ → List LogRecord
  pub maps : ℕ → MapImage
  pub pages : ℕ → PageView

-- the number of the first record of a node's log
abbrev pub first_record : Machine → ℕ → ℕ
first_record m n = 6 * m.start n

-- the log record tells the write: it changes the slot of the key in that page from this value
abbrev pub Tells : LogRecord → Write → Option (List ℕ) → Type 0
Tells Begin w v = ⊥
Tells (Set txn prev page bsi slot before after) w v = (page.0 ≡ w.page) × (slot ≡ slot_of_key w.key) × (before ≡ v) × (after ≡ w.value)
Tells (Append txn prev page bsi slot present len bytes) w v = (page.0 ≡ w.page) × (slot ≡ slot_of_key w.key) × IsMarked present len v × (w.value ≡ Some (unwrap_or v [] ++ bytes))
Tells (Commit txn prev) w v = ⊥
Tells (Abort txn prev) w v = ⊥
Tells (Restore txn prev next page bsi slot after) w v = ⊥
Tells (Cut txn prev next page bsi slot present len) w v = ⊥
Tells (MapUse page bsi place group) w v = ⊥
Tells (MapFree page bsi place group ident) w v = ⊥

-- this deed stands in the log, where a transaction has seen these values before it
pub record IsLogged (first : ℕ) (recs : List LogRecord) (value : ℕ → ℕ → Option (List ℕ)) (d : Deed) : Type 0 where
  pub rec : LogRecord
  pub there : record_at first recs d.number ≡ Some rec
  pub began : d.write ≡ None → rec ≡ Begin
  pub wrote : IfSome d.write (λ w. Tells rec w (value d.seat w.key))

-- what each seat sees of each key after a deed
abbrev pub after : Deed → (ℕ → ℕ → Option (List ℕ)) → ℕ → ℕ → Option (List ℕ)
after d value seat key = written seat key (value seat key) d

-- the deeds stand in the log, each where the ones before it have led
abbrev pub AreLogged : ℕ → List LogRecord → (ℕ → ℕ → Option (List ℕ)) → List Deed → Type 0
AreLogged first recs value [] = ⊤
AreLogged first recs value (d ∷ ds) = IsLogged first recs value d × AreLogged first recs (after d value) ds

-- these deeds are in the order of their records
abbrev pub AreInOrder : List Deed → Type 0
AreInOrder ds = AllPairs (λ d e. d.number < e.number) ds

-- the transaction in a seat has written the record of the key
abbrev pub writes_key : ℕ → ℕ → Deed → Bool
writes_key seat key d = d.seat == seat && is_of d.write
  where
    is_of : Option Write → Bool
    is_of None = false
    is_of (Some w) = w.key == key

abbrev pub has_written : Machine → TxnId → ℕ → Bool
has_written m t key = list_any (writes_key t.seat key) (m.pending t.node.0)

-- this is at present the record of the key, for each transaction such that no other one has written it
abbrev pub IsPresent : Machine → ℕ → Option (List ℕ) → Type 0
IsPresent m key v = (t : TxnId) → ((u : TxnId) → has_written m u key ≡ true → u ≡ t) → v ≡ seen m t key

-- no two transactions have a key where one may write, and each may write what it has written
pub record AreLocked (m : Machine) : Type 0 where
  pub apart : IsCompatible m.locks
  pub written : (t : TxnId) (key : Key) → has_written m t key.0 ≡ true → mode_of m.locks key t ≡ Some locks.Write

-- the pages of the store mean what the machine says
pub record ArePages (p : Plain) (m : Machine) : Type 0 where
  pub shape : IsShape m.shape
  pub count : (x : ℕ) → x < m.shape.maps → length (m.entries x) ≡ pages_per_map
  pub map_number : (x : ℕ) → x < m.shape.maps → (p.maps x).page.0 ≡ x
  pub number : (x : ℕ) → m.shape.maps ≤ x → x < page_count m.shape → (p.pages x).page.0 ≡ x
  pub entries : (x : ℕ) → x < m.shape.maps → (p.maps x).entries ≡ m.entries x
  pub map_ident : (x : ℕ) → x < m.shape.maps → (p.maps x).ident ≡ m.ident x
  pub ident : (x : ℕ) → m.shape.maps ≤ x → x < page_count m.shape → (p.pages x).ident ≡ m.ident x
  -- each data page is of the life that its entry has begun
  pub alive : (map place : ℕ) → map < m.shape.maps → place < pages_per_map → ident_of (slice_index_or (m.entries map) place (Free 0)) ≤ (p.pages (page_of_place m.shape map place)).ident
  -- and one that no group uses is blank, as its life begins
  pub unused : (map place ident : ℕ) → map < m.shape.maps → place < pages_per_map → slice_index_or (m.entries map) place (Free 0) ≡ Free ident
      → ((p.pages (page_of_place m.shape map place)).ident ≡ ident) × ((p.pages (page_of_place m.shape map place)).slots ≡ replicate 16 None)
  -- the slot of a key in its group's page has its present record
  pub present : (key x : ℕ) → home m key ≡ Some x → IsPresent m key (content (p.pages x) (slot_of_key key))
  -- and a key whose group has no page has none
  pub absent : (key : ℕ) → home m key ≡ None → m.records key ≡ None

-- the logs of the store mean what the machine says
pub record AreLogs (p : Plain) (m : Machine) : Type 0 where
  pub tail : (n : ℕ) → m.tail n ≡ first_record m n + length (p.live n)
  pub deeds : (n : ℕ) → AreLogged (first_record m n) (p.live n) (λ seat. m.records) (m.pending n)
  -- in the order in which they were logged
  pub rising : (n : ℕ) → AreInOrder (m.pending n)
  -- what is written stands in the page of the key's group
  pub homes : (t : TxnId) → All (λ d. IfSome d.write (λ w. home m w.key ≡ Some w.page)) (m.pending t.node.0)

-- each data page has room for the changes that take back what open transactions have written of it
abbrev pub AreBelowTop : Machine → Type 0
AreBelowTop m = (x : ℕ) → m.shape.maps ≤ x → x < page_count m.shape → m.ident x + open_writes m x ≤ 2 ^ 63 + 2 ^ 40

-- The logs, the pages and the locks of a store mean this state of the machine.
pub record Means (p : Plain) (m : Machine) : Type 0 where
  pub pages : ArePages p m
  pub logs : AreLogs p m
  pub locked : AreLocked m
  pub tops : AreBelowTop m

-- one record more in the log of a node, and another page
abbrev pub logged : ℕ → LogRecord → Plain → Plain
logged n rec p = record p { live = put n (p.live n ++ rec ∷ []) p.live }

abbrev pub with_page : ℕ → PageView → Plain → Plain
with_page x v p = record p { pages = put x v p.pages }

abbrev pub with_map : ℕ → MapImage → Plain → Plain
with_map x map p = record p { maps = put x map p.maps }

-- a data page after a change of one slot of it
pub record IsChangedAt (slot : ℕ) (value : Option (List ℕ)) (old new : PageView) : Type 0 where
  pub page : new.page ≡ old.page
  pub ident : new.ident ≡ old.ident + 1
  pub here : content new slot ≡ value
  pub others : (i : ℕ) → i ≢ slot → content new i ≡ content old i

-- a map page after a place of it has come into use
abbrev pub now_used : GroupNo → Machine → ℕ → ℕ → MapEntry
now_used g m map place = Used g (ident_of (slice_index_or (m.entries map) place (Free 0)))

pub record IsUsed (m : Machine) (map place : ℕ) (g : GroupNo) (old new : MapImage) : Type 0 where
  pub page : new.page ≡ old.page
  pub ident : new.ident ≡ old.ident + 1
  pub entries : new.entries ≡ slice_set old.entries place (now_used g m map place)

-- a store as it is formatted: nothing is logged, and each page is as it is born
abbrev pub born : Shape → Plain
born s = record {
  live = λ n. [];
  maps = λ x. birth_map (record { 0 = x }) s.birth;
  pages = λ x. record { page = record { 0 = x }; ident = s.birth; slots = replicate 16 None };
}
