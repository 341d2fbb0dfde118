-- The tie of a cache to the records of its log, through its calls.
use Rattle.std.specs.Prelude.{◌≡◌, ◌≢◌, ◌+◌, ◌*◌, ◌<◌, ◌++◌, ℕ, zero, suc, List, [], ◌∷◌, Option, Some, None, Result, Ok, Err, OnOk, OnErr, MatchResult, All, AllPairs, length, slice_index_or, refl}
use Rattle.std.specs.List.{remove, slice_get}
use Rattle.std.proofs.Common.{arith, inl, inr, ap, subst, subst₂, sym, ◌∙◌}
use Rattle.std.proofs.lemmas.List.{length-append}
use Rattle.std.proofs.lemmas.List.Elements.{All-push}
use Rattle.sd_base.specs.Disk.{BlockState, MayHold}
use Rattle.sd_base.specs.declared.fault.DevFault.{DevFault}
use Rattle.sd_base.specs.declared.fault.DevFault.TheVariants.{Stopped, Failed, Lost, Damaged}
use Rattle.sd_base.specs.declared.names.PageNo.{PageNo}
use Rattle.sd_base.specs.declared.page_op.PageOp.{PageOp}
use Rattle.sd_base.specs.declared.shape.Shape.{Shape}
use Rattle.log_record.specs.Legal.{IsLegal}
use Rattle.log_record.specs.Record.{page_op_of}
use Rattle.log_record.specs.Text.{record_text}
use Rattle.log_record.specs.declared.record.LogRecord.{LogRecord}
use Rattle.private_log.specs.Content.{place}
use Rattle.private_log.specs.Frames.{NarrowsBeside}
use Rattle.private_log.specs.Log.{LogState, SameLog, region}
use Rattle.page_owner.specs.Owners.{Grant}
use Rattle.space_map.specs.declared.map_entry.MapEntry.{MapEntry}
use Rattle.state_ids.specs.Blocks.{UnlessStopped, page_place}
use Rattle.state_ids.specs.Held.{Shows}
use Rattle.state_ids.specs.PageImage.{ident_of, in_life}
use Rattle.state_ids.proofs.OneImage.{one_shown}
use Rattle.state_ids.proofs.PageLaws.{in_life-page}
use Rattle.node_cache.specs.Cache.{CachedPage, CacheState, Changes, FitsCached, IsOfStore, IsTiedToLog, StandsFor, changed_by, first_change, is_page, with_page}
use Rattle.node_cache.specs.Records.{IsBefore, IsTiedToRecords, Names}
use Rattle.node_cache.specs.Room.{Arrived}
use Rattle.node_cache.proofs.DiskTie.{not_in_ring}
use Rattle.node_cache.proofs.OnePage.{all_with, found, is_page-same, only}
use Rattle.node_cache.proofs.Without.{all_without}

-- the first changes of these pages are told by the records, and their blocks are as before them
abbrev pub AreBefore : Shape → ℕ → List (List ℕ) → (ℕ → BlockState) → List CachedPage → Type 0
AreBefore s start xs b pages = All (λ p. (number : ℕ) → first_change p ≡ Some number → IsBefore s start xs b p number) pages

-- a record stays where it stands when more come behind it, of which the first one stands there
get-more : (xs ys : List (List ℕ)) (i : ℕ) (x : List ℕ) → slice_get xs i ≡ Some x → slice_get (xs ++ ys) i ≡ Some x
get-more [] ys i x at = cc
get-more (r ∷ rs) ys zero x at = at
get-more (r ∷ rs) ys (suc i) x at = get-more rs ys i x at

get-last : (xs : List (List ℕ)) (x : List ℕ) → slice_get (xs ++ x ∷ []) (length xs) ≡ Some x
get-last [] x = refl
get-last (r ∷ rs) x = get-last rs x

-- what is before a change is so in a longer log, and where its block has no new outcome
before_more : (s : Shape) (start : ℕ) (xs ys : List (List ℕ)) (b : ℕ → BlockState) (p : CachedPage) (number : ℕ) → IsBefore s start xs b p number → IsBefore s start (xs ++ ys) b p number
before_more s start xs ys b p number (ident, n, block) = (
  ident,
  record { place = n.place; is = n.is; rec = n.rec; legal = n.legal; text = get-more xs ys n.place (record_text n.rec) n.text; op = n.op; change = n.change },
  block,
)

pub before_narrowed : (s : Shape) (start : ℕ) (xs : List (List ℕ)) (b b' : ℕ → BlockState) (p : CachedPage) (number : ℕ) → ((o : Option (List ℕ)) → MayHold b' (page_place s p.ticket.page) o → MayHold b (page_place s p.ticket.page) o)
    → IsBefore s start xs b p number → IsBefore s start xs b' p number
before_narrowed s start xs b b' p number narrows (ident, n, block) = (ident, n, λ o may. block o (narrows o may))

-- the tie through a call that leaves the pages, and their blocks
pub records_kept : (s : Shape) (c d : CacheState) (b b' : ℕ → BlockState) (xs : List (List ℕ)) → SameLog c.log d.log → d.log.tail ≡ c.log.tail → d.pages ≡ c.pages
    → ((x : PageNo) (o : Option (List ℕ)) → MayHold b' (page_place s x) o → MayHold b (page_place s x) o) → IsTiedToRecords s c b xs → IsTiedToRecords s d b' xs
records_kept s c d b b' xs same tail pages narrows tie = record {
  count = let start = same.start in let count = tie.count in omega (arith, tail, start, count);
  before = subst₂ (λ start ps. AreBefore s start xs b' ps) (sym same.start) (sym pages) (λ k e below number first. before_narrowed s c.log.start xs b b' (slice_index_or c.pages k e) number (narrows _) (tie.before k e below number first));
}

-- and one more record in the log
pub records_more : (s : Shape) (c d : CacheState) (b b' : ℕ → BlockState) (xs : List (List ℕ)) (x : List ℕ) → SameLog c.log d.log → d.log.tail ≡ c.log.tail + 1 → d.pages ≡ c.pages
    → ((x : PageNo) (o : Option (List ℕ)) → MayHold b' (page_place s x) o → MayHold b (page_place s x) o) → IsTiedToRecords s c b xs → IsTiedToRecords s d b' (xs ++ x ∷ [])
records_more s c d b b' xs x same tail pages narrows tie = record {
  count = let start = same.start in let count = tie.count in omega (arith, tail, start, count, length-append xs (x ∷ []));
  before = subst₂ (λ start ps. AreBefore s start (xs ++ x ∷ []) b' ps) (sym same.start) (sym pages)
      (λ k e below number first. before_more s c.log.start xs (x ∷ []) b' (slice_index_or c.pages k e) number (before_narrowed s c.log.start xs b b' (slice_index_or c.pages k e) number (narrows _) (tie.before k e below number first)));
}

-- no block of a page has a new outcome where the log alone is written
pub pages_beside_log : (s : Shape) (c : CacheState) (number : ℕ) (b b' : ℕ → BlockState) → IsOfStore s c → IsTiedToLog c → NarrowsBeside (place (region c.log) number) b b'
    → (x : PageNo) (o : Option (List ℕ)) → MayHold b' (page_place s x) o → MayHold b (page_place s x) o
pages_beside_log s c number b b' store tie narrows x o may = elim (narrows _ o may) [
  | inl old ↦ old
  | inr here ↦ absurd (not_in_ring s c store tie number x here)
]

-- One more record is in the log, which changes the page x. Where it is the first change of the page, the block was what
-- the page stands for.
module _ (s : Shape) (pool : List (Option (List ℕ))) (pages : List CachedPage) (x : PageNo) (ident number : ℕ) (op : PageOp) (once : AllPairs (λ p q. p.ticket.page ≢ q.ticket.page) pages) (apart : AllPairs (λ p q. p.frame ≢ q.frame) pages)
    (fits : FitsCached pool pages x ident op) (start : ℕ) (xs : List (List ℕ)) (rec : LogRecord) (legal : IsLegal rec) (change : page_op_of rec ≡ Some (x, ident, op)) (count : number ≡ 6 * start + length xs) (b : ℕ → BlockState)
    (clean : All (λ q. q.changes ≡ None → StandsFor s pool q b) pages) where
  names : Names start (xs ++ record_text rec ∷ []) number x ident
  names = record { place = length xs; is = count; rec = rec; legal = legal; text = get-last xs (record_text rec); op = op; change = change }

  -- of the page itself
  here : (q : CachedPage) → q ≡ fits.page → (q.changes ≡ None → StandsFor s pool q b) → ((n : ℕ) → first_change q ≡ Some n → IsBefore s start xs b q n) → (n : ℕ) → first_change (changed_by number q) ≡ Some n
      → IsBefore s start (xs ++ record_text rec ∷ []) b (changed_by number q) n
  here q same stands was n first = by q.changes refl
    where
      is_x : q.ticket.page ≡ x
      is_x = ap (λ p. p.ticket.page) same ∙ is_page-same x fits.page (found (is_page x) pages fits.page fits.there)

      by : (o : Option Changes) → q.changes ≡ o → IsBefore s start (xs ++ record_text rec ∷ []) b (changed_by number q) n
      by None none =
          let begins : first_change (changed_by number q) ≡ Some number = rw none refl in
          let is : number ≡ n = cc in
          subst (λ m. IsBefore s start (xs ++ record_text rec ∷ []) b (changed_by number q) m) is (
            ident,
            subst (λ y. Names start (xs ++ record_text rec ∷ []) number y ident) (sym is_x) names,
            λ o may. elim (stands none o may) [
              | inl lost ↦ inl lost
              | inr shows ↦
                  let shown : Shows pool q.frame fits.image = subst (λ p. Shows pool p.frame fits.image) (sym same) fits.shows in
                  let one = one_shown pool q.frame (in_life q.entry shows.0) fits.image shows.2 shown (in_life-page q.entry shows.0 ∙ shows.1.3 ∙ is_x ∙ sym fits.number) in
                  inr (shows.0, shows.1, ap ident_of one ∙ fits.ident)
            ],
          )
      by (Some ch) some =
          let began : first_change q ≡ Some ch.first = rw some refl in
          let begins : first_change (changed_by number q) ≡ Some ch.first = rw some refl in
          let is : ch.first ≡ n = cc in
          before_more s start xs (record_text rec ∷ []) b q n (was n (began ∙ ap Some is))

  pub before_changed : AreBefore s start xs b pages → AreBefore s start (xs ++ record_text rec ∷ []) b (with_page x (changed_by number) pages)
  before_changed was = all_with (λ q. (n : ℕ) → first_change q ≡ Some n → IsBefore s start (xs ++ record_text rec ∷ []) b q n) x (changed_by number) pages (λ i d below. (
    λ is. here (slice_index_or pages i d) ((only x pages fits.page once apart fits.there i d below).0 is) (clean i d below) (was i d below),
    λ is n first. before_more s start xs (record_text rec ∷ []) b (slice_index_or pages i d) n (was i d below n first),
  ))

-- a page that comes in has no changes
pub before_arrived : (s : Shape) (start : ℕ) (xs : List (List ℕ)) (b : ℕ → BlockState) (pages : List CachedPage) (p : CachedPage) → p.changes ≡ None → AreBefore s start xs b pages → AreBefore s start xs b (pages ++ p ∷ [])
before_arrived s start xs b pages p none was = All-push (λ q. (n : ℕ) → first_change q ≡ Some n → IsBefore s start xs b q n) pages p was (λ n first.
    let no : first_change p ≡ None = rw none refl in
    absurd cc)

-- the pages without one
pub before_without : (s : Shape) (start : ℕ) (xs : List (List ℕ)) (b : ℕ → BlockState) (pages : List CachedPage) (i : ℕ) → i < length pages → AreBefore s start xs b pages → AreBefore s start xs b (remove pages i)
before_without s start xs b pages i within was = all_without (λ q. (n : ℕ) → first_change q ≡ Some n → IsBefore s start xs b q n) pages i within was

pub records_without : (s : Shape) (c d : CacheState) (b : ℕ → BlockState) (xs : List (List ℕ)) (i : ℕ) → i < length c.pages → d.log ≡ c.log → d.pages ≡ remove c.pages i → IsTiedToRecords s c b xs → IsTiedToRecords s d b xs
records_without s c d b xs i within log pages tie = record {
  count = subst (λ (l : LogState). l.tail ≡ 6 * l.start + length xs) (sym log) tie.count;
  before = subst₂ (λ (l : LogState) ps. AreBefore s l.start xs b ps) (sym log) (sym pages) (before_without s c.log.start xs b c.pages i within tie.before);
}

records_same : (s : Shape) (c d : CacheState) (b b' : ℕ → BlockState) (xs : List (List ℕ)) → d.log ≡ c.log → d.pages ≡ c.pages → b' ≡ b → IsTiedToRecords s c b xs → IsTiedToRecords s d b' xs
records_same s c d b b' xs log pages blocks tie = record {
  count = subst (λ (l : LogState). l.tail ≡ 6 * l.start + length xs) (sym log) tie.count;
  before = subst (λ a. AreBefore s d.log.start xs a d.pages) (sym blocks) (subst₂ (λ (l : LogState) ps. AreBefore s l.start xs b ps) (sym log) (sym pages) tie.before);
}

-- the cache d is the cache c after a read, which brought a page in or didn't
pub records_then : (s : Shape) (x : PageNo) (e : Option MapEntry) (c d : CacheState) (old new : List (Option (List ℕ))) (b b' : ℕ → BlockState) (xs : List (List ℕ)) (r : Result (Unit {0}) (DevFault × Grant)) → d.log ≡ c.log → OnOk r (Arrived s x e c.pages old d new)
    → OnErr r (d.pages ≡ c.pages) → MatchResult r (λ _. b' ≡ b) (λ f. UnlessStopped f.0 (b' ≡ b)) → IsTiedToRecords s c b xs → MatchResult r (λ _. IsTiedToRecords s d b' xs) (λ f. UnlessStopped f.0 (IsTiedToRecords s d b' xs))
records_then s x e c d old new b b' xs (Ok u) log arrived pages blocks tie = record {
  count = subst (λ (l : LogState). l.tail ≡ 6 * l.start + length xs) (sym log) tie.count;
  before = subst (λ a. AreBefore s d.log.start xs a d.pages) (sym blocks)
      (subst₂ (λ (l : LogState) ps. AreBefore s l.start xs b ps) (sym log) (sym arrived.last)
      (before_arrived s c.log.start xs b c.pages (record { ticket = record { page = x; node = d.node }; frame = arrived.frame; entry = e; changes = None }) refl tie.before));
}
records_then s x e c d old new b b' xs (Err (Stopped n, t)) log arrived pages blocks tie = tt
records_then s x e c d old new b b' xs (Err (Failed n, t)) log arrived pages blocks tie = tt
records_then s x e c d old new b b' xs (Err (Lost at, t)) log arrived pages blocks tie = records_same s c d b b' xs log pages blocks tie
records_then s x e c d old new b b' xs (Err (Damaged at, t)) log arrived pages blocks tie = records_same s c d b b' xs log pages blocks tie
