-- The changes of pages that their blocks haven't, in the records of the log. Here xs are the records of a log, as texts,
-- and `start` is the number of the log block that it begins with.
use Rattle.std.specs.Prelude.{◌≡◌, ◌⊎◌, ◌+◌, ◌*◌, ℕ, List, Option, Some, None, All, Any, length}
use Rattle.std.specs.List.{slice_get}
use Rattle.sd_base.specs.Disk.{BlockState, MayHold}
use Rattle.sd_base.specs.declared.names.PageNo.{PageNo}
use Rattle.sd_base.specs.declared.page_op.PageOp.{PageOp}
use Rattle.sd_base.specs.declared.shape.Shape.{Shape}
use Rattle.frame_pool.specs.Frames.{frame_at}
use Rattle.log_record.specs.Legal.{IsLegal}
use Rattle.log_record.specs.Record.{page_op_of}
use Rattle.log_record.specs.Text.{record_text}
use Rattle.log_record.specs.declared.record.LogRecord.{LogRecord}
use Rattle.private_log.specs.Content.{HoldsFront}
use Rattle.private_log.specs.Log.{region}
use Rattle.state_ids.specs.PageImage.{PageImage, ident_of, in_life}
use Rattle.state_ids.specs.Blocks.{HoldsPage, page_place}
use Rattle.node_cache.specs.Cache.{CachedPage, CacheState, first_change}

-- The record with this number is in the log. It changes the page x, and says that x has this identifier before it.
pub record Names (start : ℕ) (xs : List (List ℕ)) (number : ℕ) (x : PageNo) (ident : ℕ) : Type 0 where
  pub place : ℕ
  pub is : number ≡ 6 * start + place
  pub rec : LogRecord
  pub legal : IsLegal rec
  pub text : slice_get xs place ≡ Some (record_text rec)
  pub op : PageOp
  pub change : page_op_of rec ≡ Some (x, ident, op)

-- what a block holds stands, under the entry with which the page came in, for the page with this identifier, or it is lost
abbrev pub HoldsIdent : Shape → CachedPage → ℕ → Option (List ℕ) → Type 0
HoldsIdent s p ident o = (o ≡ None) ⊎ ((image : PageImage) × HoldsPage s p.ticket.page image o × (ident_of (in_life p.entry image) ≡ ident))

-- The block of a page is as it was before the record with this number: whatever a stop leaves of it, it stands for the
-- page with the identifier that the record names, or it is lost.
abbrev pub IsBefore : Shape → ℕ → List (List ℕ) → (ℕ → BlockState) → CachedPage → ℕ → Type 0
IsBefore s start xs b p number =
    (ident : ℕ) × Names start xs number p.ticket.page ident × ((o : Option (List ℕ)) → MayHold b (page_place s p.ticket.page) o → HoldsIdent s p ident o)

-- The tie of a cache to the records of its log: they are so many as its numbers say, and the block of each page with
-- changes is as it was before the first of them.
pub record IsTiedToRecords (s : Shape) (c : CacheState) (b : ℕ → BlockState) (xs : List (List ℕ)) : Type 0 where
  pub count : c.log.tail ≡ 6 * c.log.start + length xs
  pub before : All (λ p. (number : ℕ) → first_change p ≡ Some number → IsBefore s c.log.start xs b p number) c.pages

-- each of these pages is one of those
abbrev pub AreAmong : List CachedPage → List CachedPage → Type 0
AreAmong some pages = All (λ q. Any (λ p. p ≡ q) pages) some

-- What a stop has left of the block of a page that has changes, the first of them in the record with this number: it is
-- as it was before that record, or it holds what the page's frame does, and then all records of the log are there.
abbrev pub IsExplained : Shape → List (Option (List ℕ)) → CacheState → List (List ℕ) → (ℕ → Option (List ℕ)) → CachedPage → ℕ → Type 0
IsExplained s pool c xs image p number =
    (ident : ℕ) × Names c.log.start xs number p.ticket.page ident
    × (HoldsIdent s p ident (image (page_place s p.ticket.page)) ⊎ ((image (page_place s p.ticket.page) ≡ frame_at pool p.frame) × HoldsFront (region c.log) c.log.start c.log.tail xs image))
