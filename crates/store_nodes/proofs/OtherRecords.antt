-- A record that is none of any transaction: what it leaves of the transactions of a node and of its log.
use Rattle.std.specs.Prelude.{◌≡◌, ◌+◌, ◌*◌, ◌^◌, ◌≤◌, ◌<◌, ◌++◌, ◌∷◌, [], ℕ, false, List, Option, Some, None, All, IfSome, length, map, option_map, slice_index_or, refl}
use Rattle.std.proofs.Common.{arith, ap, subst, sym, ◌∙◌}
use Rattle.std.proofs.lemmas.List.{map-append}
use Rattle.sd_base.specs.Disk.{BlockState}
use Rattle.sd_base.specs.declared.names.GroupNo.{GroupNo}
use Rattle.sd_base.specs.declared.names.PageNo.{PageNo}
use Rattle.log_record.specs.declared.record.LogRecord.{LogRecord}
use Rattle.log_record.specs.declared.record.LogRecord.TheVariants.{MapUse}
use Rattle.log_record.specs.Fields.{fields_of}
use Rattle.log_record.specs.Legal.{IsLegal}
use Rattle.log_record.specs.Text.{record_text}
use Rattle.compensation.specs.Left.{is_update_of, next_after}
use Rattle.private_log.specs.Log.{IsLogOn, LogState, SameLog, space}
use Rattle.node_cache.specs.Cache.{CachedPage, CacheState, Changes, IsInLog, IsTiedToLog, changed_by, is_page, page_at, with_change, with_page}
use Rattle.txn_core.specs.Seats.{AreTied, OpenTxn, SeatsState, owed}
use Rattle.txn_core.specs.Told.{AreTold, HasRecords, IsOpenIn}
use Rattle.txn_core.proofs.SeatLaws.{all_longer, legal_more, space_less}
use Rattle.txn_core.proofs.ToldLaws.{names-push, open-other}
use Rattle.txn_core.proofs.UpdateLaws.{page_with}
use Rattle.sd_base.proofs.Positions.{find_all}

-- the record is neither an update nor a compensation
abbrev pub IsOfNone : LogRecord → Type 0
IsOfNone rec = (t : ℕ) → (is_update_of t rec ≡ false) × (next_after t rec ≡ None)

-- the records tell the open transactions still
pub told_none : (seats : SeatsState) (start : ℕ) (recs : List LogRecord) (rec : LogRecord) → IsOfNone rec → (fields_of rec).txn ≤ 6 * start + length recs → AreTold seats start recs → AreTold seats start (recs ++ rec ∷ [])
told_none seats start recs rec none named told = record {
  names = names-push (6 * start) recs rec told.names named;
  each = λ i d below. another (slice_index_or seats.seats i d) (told.each i d below);
}
  where
    another : (o : Option OpenTxn) → IfSome o (IsOpenIn (6 * start) recs) → IfSome o (IsOpenIn (6 * start) (recs ++ rec ∷ []))
    another None is = tt
    another (Some t) is = open-other t (6 * start) recs rec (none t.begin).0 (none t.begin).1 is

-- the log has it too, where it is legal
pub records_more : (l : LogState) (b : ℕ → BlockState) (recs : List LogRecord) (rec : LogRecord) → IsLegal rec → All IsLegal recs → IsLogOn l b (map record_text recs ++ record_text rec ∷ []) → HasRecords l b (recs ++ rec ∷ [])
records_more l b recs rec legal all on = record {
  legal = legal_more recs rec all legal;
  on = subst (IsLogOn l b) (sym (map-append record_text recs (rec ∷ []))) on;
}

-- ---- the room of the log

-- the number of a record that changed a cached page lies behind the start of the log
pub change_lies : (d : CacheState) (x : PageNo) (number : ℕ) (pages : List CachedPage) (page : CachedPage) → d.pages ≡ with_page x (changed_by number) pages → page_at x pages ≡ Some page → IsTiedToLog d → 6 * d.log.start ≤ number
change_lies d x number pages page same there tie =
    let now : page_at x d.pages ≡ Some (changed_by number page) = ap (page_at x) same ∙ page_with x (changed_by number) pages (λ p. refl) ∙ ap (option_map (changed_by number)) there in
    by page.changes (find_all (λ p. IsInLog d.log p.changes) (is_page x) d.pages (changed_by number page) now tie.changes)
  where
    by : (o : Option Changes) → IsInLog d.log (with_change number o) → 6 * d.log.start ≤ number
    by None lies = lies.0
    by (Some ch) lies = omega (arith, lies.0, lies.1)

-- a record more leaves room for what is owed, where there was room for it and the record
pub tied_more : (seats : SeatsState) (c d : CacheState) → 6 * c.log.start ≤ c.log.tail → d.node ≡ c.node → SameLog c.log d.log → d.log.tail ≡ c.log.tail + 1 → owed seats + 1 ≤ space c.log → AreTied seats c → AreTied seats d
tied_more seats c d low node same tail room tie =
    let less = space_less c.log d.log same tail low (omega (arith, room)) in
    record {
      node = tie.node ∙ sym node;
      room = omega (arith, less, room);
      within = all_longer c.log d.log seats.seats same.start (omega (arith, tail)) tie.within;
      apart = tie.apart;
    }

-- ---- the record of a place that comes into use

pub use_is_none : (map : PageNo) (bsi place : ℕ) (group : GroupNo) → IsOfNone (MapUse map bsi place group)
use_is_none map bsi place group t = (refl, refl)

pub legal_use : (map : PageNo) (bsi place : ℕ) (group : GroupNo) → map.0 < 2 ^ 32 → bsi < 2 ^ 63 → place ≤ 251 → group.0 ≤ 268435455 → IsLegal (MapUse map bsi place group)
legal_use map bsi place group page ident low small = record {
  page = page;
  bsi = omega (arith, ident);
  txn = omega arith;
  prev = omega arith;
  group = small;
  place = low;
  extra = tt;
  contents = tt;
}
