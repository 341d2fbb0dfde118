-- What each part of a command leaves of all that a store means.
use Rattle.std.proofs.Common.{arith, subst, sym, refl}
use Rattle.std.specs.Prelude.{◌≡◌, ◌+◌, ◌*◌, ◌^◌, ◌≤◌, ◌<◌, ◌++◌, ◌∷◌, [], ℕ, List, false, Some, None, IsTrue}
use Rattle.sd_base.specs.declared.names.Key.{Key}
use Rattle.sd_base.specs.declared.names.TxnId.{TxnId}
use Rattle.sd_base.specs.Places.{group_of, map_of_key, slot_of_key}
use Rattle.sd_base.proofs.PlaceLaws.{map_of_key-below}
use Rattle.page_image.specs.declared.page_view.PageView.{PageView}
use Rattle.space_map.specs.Image.{MapImage}
use Rattle.log_record.specs.declared.record.LogRecord.{LogRecord}
use Rattle.log_record.specs.declared.record.LogRecord.TheVariants.{Begin}
use Rattle.record_locks.specs.declared.mode.Mode.{Mode}
use Rattle.record_locks.specs.declared.mode.Mode.TheVariants as locks
use Rattle.record_locks.specs.Answer.{lock_answer, may_take}
use Rattle.record_locks.specs.Held.{mode_of, taken, without_txn}
use Rattle.record_machine.specs.Machine.{Deed, Machine, Write, free_place, home, newest_of, owed, put, seen}
use Rattle.record_machine.specs.Meaning.{IsChangedAt, IsUsed, Means, Plain, Tells, has_written, logged, with_map, with_page}
use Rattle.record_machine.specs.Parts as part
use Rattle.record_machine.specs.Parts.{done_by, one}
use Rattle.record_machine.proofs.BackSteps.{back_home, back_is, locked_back, logs_back, pages_back}
use Rattle.record_machine.proofs.DeedSteps.{locked_done, logs_done}
use Rattle.record_machine.proofs.LockSteps.{locked_dropped, locked_taken, logs_still, pages_still}
use Rattle.record_machine.proofs.PageSteps.{pages_begun, pages_changed}
use Rattle.record_machine.proofs.Put.{put_same}
use Rattle.record_machine.proofs.RestSteps.{locked_rest, logs_rest, means_loose}
use Rattle.record_machine.proofs.SealSteps.{locked_sealed, logs_sealed, pages_sealed}
use Rattle.record_machine.proofs.Homes.{home_is_data}
use Rattle.record_machine.proofs.Tops.{tops_back, tops_begun, tops_changed, tops_sealed, tops_used}
use Rattle.record_machine.proofs.UseSteps.{locked_used, logs_used, pages_used}

-- parts one after the other
pub dos-then : (ps qs : List part.Part) (m : Machine) → part.dos (ps ++ qs) m ≡ part.dos qs (part.dos ps m)
dos-then [] qs m = refl
dos-then (p ∷ ps) qs m = dos-then ps qs (one p m)

pub means_begun : (p : Plain) (m : Machine) (t : TxnId) → Means p m → Means (logged t.node.0 Begin p) (one (part.Begin t) m)
means_begun p m t means = means_loose (logged t.node.0 Begin p) (done_by t None m) (one (part.Begin t) m).loose (record {
  pages = pages_begun t p m means.pages;
  logs = logs_done t None m p Begin (λ none. refl) tt tt means.logs;
  locked = locked_done t None m tt means.locked;
  tops = tops_begun t m means.tops;
})

pub means_used : (p : Plain) (m : Machine) (n place key : ℕ) (rec : LogRecord) (map : MapImage) → home m key ≡ None → free_place m key ≡ Some place → IsUsed m (map_of_key m.shape key) place (group_of key) (p.maps (map_of_key m.shape key)) map
    → Means p m → Means (logged n rec (with_map (map_of_key m.shape key) map p)) (one (part.Use n (map_of_key m.shape key) place (group_of key)) m)
means_used p m n place key rec map none free used means = record {
  pages = pages_used n place p m rec key map none free used means.logs means.pages;
  logs = logs_used n place p m rec key map none free means.pages means.logs;
  locked = locked_used n (map_of_key m.shape key) place (group_of key) m means.locked;
  tops = tops_used n (map_of_key m.shape key) place (group_of key) m (map_of_key-below m.shape key means.pages.shape) means.tops;
}

pub means_locked : (p : Plain) (m : Machine) (key : Key) (t : TxnId) (mode : Mode) → IsTrue (may_take (lock_answer m.locks key t mode)) → Means p m → Means p (one (part.Lock key t mode) m)
means_locked p m key t mode free means = record {
  pages = pages_still p m (taken m.locks key t mode) means.pages;
  logs = logs_still p m (taken m.locks key t mode) means.logs;
  locked = locked_taken key t mode m free means.locked;
  tops = means.tops;
}

pub means_changed : (p : Plain) (m : Machine) (t : TxnId) (w : Write) (rec : LogRecord) (v : PageView) → home m w.key ≡ Some w.page → mode_of m.locks (record { 0 = w.key }) t ≡ Some locks.Write → Tells rec w (seen m t w.key) → IsChangedAt (slot_of_key w.key) w.value (p.pages w.page) v
    → m.ident w.page < 2 ^ 63 → ((n : ℕ) → 1 ≤ n → n ≤ m.shape.nodes → owed m n ≤ 6 * m.shape.ring) → Means p m → Means (logged t.node.0 rec (with_page w.page v p)) (one (part.Change t w) m)
means_changed p m t w rec v here lock tells changed room owing means = record {
  pages = pages_changed t w p m rec v here changed means.pages;
  logs = logs_rest (logged t.node.0 rec (with_page w.page v p)) (done_by t (Some w) raised) m.mode m.reopening m.hold m.first (one (part.Change t w) m).loose m.gone
      (logs_done t (Some w) raised (with_page w.page v p) rec (λ none. cc) tells here (record { tail = means.logs.tail; deeds = means.logs.deeds; rising = means.logs.rising; homes = means.logs.homes }));
  locked = locked_rest (done_by t (Some w) raised) m.mode m.reopening m.hold m.first (one (part.Change t w) m).loose m.gone
      (locked_done t (Some w) raised (λ key same. subst (λ k. mode_of m.locks (record { 0 = k }) t ≡ Some locks.Write) (sym same) lock) (record { apart = means.locked.apart; written = means.locked.written }));
  tops = tops_changed t w m means.pages.shape room owing means.tops;
}
  where
    raised : Machine
    raised = record m { ident = put w.page (m.ident w.page + 1) m.ident }

pub means_back : (p : Plain) (m : Machine) (t : TxnId) (d : Deed) (w : Write) (rec : LogRecord) (v : PageView) → newest_of m t ≡ Some d → d.write ≡ Some w → 1 ≤ t.node.0 → t.node.0 ≤ m.shape.nodes → IsChangedAt (slot_of_key w.key) (seen (one (part.Back t) m) t w.key) (p.pages w.page) v
    → Means p m → Means (logged t.node.0 rec (with_page w.page v p)) (one (part.Back t) m)
means_back p m t d w rec v is write up low changed means =
    let same = back_is m t d w is write in
    subst (λ o. Means (logged t.node.0 rec (with_page w.page v p)) o) (sym same) (record {
      pages = pages_back p m t d w rec v is write (back_home p m t d w is write means.logs) (subst (λ o. IsChangedAt (slot_of_key w.key) (seen o t w.key) (p.pages w.page) v) same changed) means.locked means.pages;
      logs = logs_back p m t d w rec v is means.logs;
      locked = locked_back m t d w is means.locked;
      tops = tops_back t m d w is write up low means.tops;
    })

-- the page of a write that is to be taken back has room for that change
pub room_back : (p : Plain) (m : Machine) (t : TxnId) (d : Deed) (w : Write) → newest_of m t ≡ Some d → d.write ≡ Some w → 1 ≤ t.node.0 → t.node.0 ≤ m.shape.nodes → Means p m → m.ident w.page < 2 ^ 63 + 2 ^ 40
room_back p m t d w is write up low means =
    let page = home_is_data p m w.key w.page means.pages (back_home p m t d w is write means.logs) in
    let top = tops_back t m d w is write up low means.tops w.page page.0 page.1 in
    let same = put_same w.page (m.ident w.page + 1) m.ident w.page refl in
    omega (arith, top, same)

pub means_sealed : (p : Plain) (m : Machine) (t : TxnId) (rec : LogRecord) → Means p m → Means (logged t.node.0 rec p) (one (part.Seal t) m)
means_sealed p m t rec means = record {
  pages = pages_sealed t p m rec means.logs means.locked means.pages;
  logs = logs_sealed t p m rec means.locked means.logs;
  locked = locked_sealed t m means.locked;
  tops = tops_sealed t m means.tops;
}

pub means_unlocked : (p : Plain) (m : Machine) (t : TxnId) → ((key : ℕ) → has_written m t key ≡ false) → Means p m → Means p (one (part.Unlock t) m)
means_unlocked p m t nothing means = record {
  pages = pages_still p m (without_txn t m.locks) means.pages;
  logs = logs_still p m (without_txn t m.locks) means.logs;
  locked = locked_dropped t m nothing means.locked;
  tops = means.tops;
}
