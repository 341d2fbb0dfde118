-- The record of an update, as the page has the slot.
use Rattle.std.specs.Prelude.{◌≡◌, ◌+◌, ◌≤◌, ℕ, true, List, [], Option, Some, None, is_some, length, unwrap_or}
use Rattle.sd_base.specs.declared.names.PageNo.{PageNo}
use Rattle.sd_base.specs.declared.page_op.PageOp.{PageOp}
use Rattle.sd_base.specs.declared.page_op.PageOp.TheVariants as ops
use Rattle.page_image.specs.declared.page_view.PageView.{PageView}
use Rattle.log_record.specs.declared.record.LogRecord.{LogRecord}
use Rattle.log_record.specs.declared.record.LogRecord.TheVariants as rec
use Rattle.compensation.specs.Inverse.{content}
use Rattle.state_ids.specs.PageImage.{data_page}
use Rattle.state_ids.specs.Held.{KeepsFrames, Shows}
use Rattle.node_cache.specs.Cache.{CachedPage, changed_by, page_at, with_page}
use Rattle.txn_core.specs.declared.change.Change.{Change}
use Rattle.txn_core.specs.declared.change.Change.TheVariants.{Put, Append, Delete}
use Rattle.txn_core.specs.Seats.{OpenTxn}

-- the record that the transaction logs for a change of a slot of this page
abbrev pub update_of : OpenTxn → PageView → ℕ → Change → LogRecord
update_of t v slot (Put value) = rec.Set t.begin t.last v.page v.ident slot (content v slot) (Some value)
update_of t v slot (Append bytes) = rec.Append t.begin t.last v.page v.ident slot (is_some (content v slot)) (length (unwrap_or (content v slot) [])) bytes
update_of t v slot Delete = rec.Set t.begin t.last v.page v.ident slot (content v slot) None

-- the change fits what the slot holds: the value is not too long, and what is deleted is there
abbrev pub FitsSlotOf : PageView → ℕ → Change → Type 0
FitsSlotOf v slot (Put value) = length value ≤ 248
FitsSlotOf v slot (Append bytes) = length (unwrap_or (content v slot) []) + length bytes ≤ 248
FitsSlotOf v slot Delete = is_some (content v slot) ≡ true

-- the data page x is cached, with this in its frame
pub record HasPage (pool : List (Option (List ℕ))) (pages : List CachedPage) (x : PageNo) (v : PageView) : Type 0 where
  pub page : CachedPage
  pub there : page_at x pages ≡ Some page
  pub shows : Shows pool page.frame (data_page v)
  pub number : v.page ≡ x

-- the change of the page that it makes
abbrev pub op_of : ℕ → Change → PageOp
op_of slot (Put value) = ops.Put slot (Some value)
op_of slot (Append bytes) = ops.Append slot bytes
op_of slot Delete = ops.Put slot None

-- the page x is cached and has one more change, whose record has this number, and no other frame than its own has changed
pub record ChangesPage (x : PageNo) (number : ℕ) (old new : List CachedPage) (pool after : List (Option (List ℕ))) : Type 0 where
  pub cached : is_some (page_at x old) ≡ true
  pub pages : new ≡ with_page x (changed_by number) old
  pub frames : (p : CachedPage) → page_at x old ≡ Some p → KeepsFrames p.frame pool after
