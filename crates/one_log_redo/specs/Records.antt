-- Which records redo takes: legal ones whose page is one of the store, and of the kind that they change.
use Rattle.std.specs.Prelude.{ℕ, ⊤, ◌≡◌, ◌<◌, ◌≤◌, List}
use Rattle.sd_base.specs.Shape.{page_count}
use Rattle.sd_base.specs.declared.shape.Shape.{Shape}
use Rattle.log_record.specs.declared.record.LogRecord.{LogRecord}
use Rattle.log_record.specs.Legal.{IsLegal}
use Rattle.log_record.specs.Text.{record_text}
use Rattle.recovery_theory.specs.Effect.{Effect, effect_of}
use Rattle.recovery_theory.specs.Effect.Effect.{Begun, Updated, Ended, Compensated, Mapped}

-- the page of an effect is a data page of the store, or of a change of an entry a map page
abbrev pub NamesPage : Shape → Effect → Type 0
NamesPage s Begun = ⊤
NamesPage s (Updated txn page bsi op back) = (s.maps ≤ page) × (page < page_count s)
NamesPage s (Ended txn) = ⊤
NamesPage s (Compensated txn next page bsi op) = (s.maps ≤ page) × (page < page_count s)
NamesPage s (Mapped page bsi op) = page < s.maps

-- these bytes are the text of the record, which redo of a store of this shape takes
pub record IsRecordOf (s : Shape) (text : List ℕ) (rec : LogRecord) : Type 0 where
  pub legal : IsLegal rec
  pub text_is : text ≡ record_text rec
  pub page : NamesPage s (effect_of rec)
