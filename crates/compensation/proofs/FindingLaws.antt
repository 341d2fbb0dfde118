-- What is left of a transaction is found from record to record.
use Rattle.std.proofs.Common.{◌≡◌, ◌+◌, ◌-◌, ◌≤◌, ◌<◌, ◌&&◌, ◌||◌, ◌++◌, ℕ, zero, suc, Bool, true, false, not, cond, nat_le, List, [], ◌∷◌, All, Option, Some, None, length, filter, take, refl, sym, ◌∙◌, ap, subst, arith, ◌⊎◌, inl, inr, option_and_then, unwrap_or}
use Rattle.std.specs.List.{list_any, slice_get}
use Rattle.std.proofs.lemmas.List.{append-nil, length-append, length-take, take-append-le, take_all, take_at}
use Rattle.std.proofs.lemmas.List.Elements.{All-append}
use Rattle.std.proofs.Math.Bool.{or-false}
use Rattle.std.proofs.lemmas.List.Folds.{list_any-append}
use Rattle.std.proofs.lemmas.Option.{slice_get_within}
use Rattle.std.proofs.lemmas.Bool.{or_parts}
use Rattle.std.proofs.lemmas.Bool.Decides.{nat_tests}
use Rattle.log_record.specs.declared.record.LogRecord.{LogRecord}
use Rattle.compensation.specs.Left.{is_update_of, next_after, lies_before, takes_back, uncompensated}
use Rattle.compensation.specs.Finding.{left_at, record_at, record_before, next_behind, TellsLeft}
use Rattle.compensation.proofs.LeftLaws.{here, left-update, left-compensation, not_before, update_not_compensation, compensation_not_update}
use Rattle.compensation.proofs.LogRecords.{is_le, left_at-push, old_or_new}

-- ---- an update that is left, and what was left before it

record IsLeft (t first : ℕ) (recs : List LogRecord) (u : ℕ) (rest : List ℕ) : Type 0 where
  before : List LogRecord
  rec : LogRecord
  behind : List LogRecord
  split : recs ≡ before ++ rec ∷ behind
  number : u ≡ first + length before
  update : is_update_of t rec ≡ true
  stays : list_any (takes_back t u) behind ≡ false
  left : rest ≡ uncompensated t first before

-- what takes back an update takes back those behind it
fewer : (t u v : ℕ) (rec : LogRecord) → u ≤ v → takes_back t v rec ≡ false → takes_back t u rec ≡ false
fewer t u v rec le h = by (next_after t rec) h
  where
    by : (o : Option ℕ) → lies_before o v ≡ false → lies_before o u ≡ false
    by None e = refl
    by (Some next) e = grind (arith, nat_tests)

none_fewer : (t u v : ℕ) (recs : List LogRecord) → u ≤ v → list_any (takes_back t v) recs ≡ false → list_any (takes_back t u) recs ≡ false
none_fewer t u v [] le h = refl
none_fewer t u v (r ∷ rs) le h =
    let parts = or_parts (takes_back t v r) (list_any (takes_back t v) rs) h in
    ap (λ b. b || list_any (takes_back t u) rs) (fewer t u v r le parts.0) ∙ none_fewer t u v rs le parts.1

-- an element of a list with at most one more stands in the list, or is that one
cut : (xs newer end : List ℕ) (u : ℕ) (rest : List ℕ) → length end ≤ 1 → xs ++ end ≡ newer ++ u ∷ rest → ((more : List ℕ) × (xs ≡ newer ++ u ∷ more) × (more ++ end ≡ rest)) ⊎ (end ≡ u ∷ rest)
cut [] [] end u rest short e = inr e
cut [] (n ∷ ns) end u rest short e = let count = ap length e in let more = length-append ns (u ∷ rest) in absurd (omega (arith, short, count, more))
cut (x ∷ xs) [] end u rest short e =
    let same : x ≡ u = cc in
    let tail : xs ++ end ≡ rest = cc in
    inl (xs, ap (λ n. n ∷ xs) same, tail)
cut (x ∷ xs) (n ∷ ns) end u rest short e =
    let same : x ≡ n = cc in
    let tail : xs ++ end ≡ ns ++ u ∷ rest = cc in
    elim (cut xs ns end u rest short tail) as (λ _. ((more : List ℕ) × (x ∷ xs ≡ n ∷ (ns ++ u ∷ more)) × (more ++ end ≡ rest)) ⊎ (end ≡ u ∷ rest)) [
      | inl h ↦ inl (h.0, (λ i. same i ∷ h.1 i), h.2)
      | inr h ↦ inr h
    ]

left_is : (t first : ℕ) (recs : List LogRecord) (newer : List ℕ) (u : ℕ) (rest : List ℕ) → uncompensated t first recs ≡ newer ++ u ∷ rest → IsLeft t first recs u rest
left_is t first [] newer u rest e = let count = ap length e in let more = length-append newer (u ∷ rest) in absurd (omega (arith, count, more))
left_is t first (r ∷ rs) newer u rest e = by (cut (uncompensated t (first + 1) rs) newer (here (is_update_of t r) (list_any (takes_back t first) rs) first) u rest (short (is_update_of t r && not (list_any (takes_back t first) rs))) e) (λ more is. left_is t (first + 1) rs newer u more is)
  where
    short : (b : Bool) → length (cond b (first ∷ []) []) ≤ 1
    short true = omega arith
    short false = omega arith

    alone : (b g : Bool) → list_any (takes_back t first) rs ≡ g → is_update_of t r ≡ b → here b g first ≡ u ∷ rest → IsLeft t first (r ∷ rs) u rest
    alone true false kept is e = record {
      before = [];
      rec = r;
      behind = rs;
      split = refl;
      number = (let same : first ≡ u = cc in omega arith);
      update = is;
      stays = (let same : first ≡ u = cc in ap (λ v. list_any (takes_back t v) rs) (sym same) ∙ kept);
      left = (let same : [] ≡ rest = cc in sym same);
    }
    alone true true kept is e = cc
    alone false g kept is e = cc

    by : ((more : List ℕ) × (uncompensated t (first + 1) rs ≡ newer ++ u ∷ more) × (more ++ here (is_update_of t r) (list_any (takes_back t first) rs) first ≡ rest)) ⊎ (here (is_update_of t r) (list_any (takes_back t first) rs) first ≡ u ∷ rest)
        → ((more : List ℕ) → uncompensated t (first + 1) rs ≡ newer ++ u ∷ more → IsLeft t (first + 1) rs u more) → IsLeft t first (r ∷ rs) u rest
    by (inr it) deeper = alone (is_update_of t r) (list_any (takes_back t first) rs) refl refl it
    by (inl it) deeper =
        let h : IsLeft t (first + 1) rs u it.0 = deeper it.0 it.1 in
        let low : first ≤ u = (let n = h.number in omega arith) in
        let gone : list_any (takes_back t first) rs ≡ list_any (takes_back t first) h.before =
        ap (list_any (takes_back t first)) h.split
        ∙ list_any-append (takes_back t first) h.before (h.rec ∷ h.behind)
        ∙ ap (λ b. list_any (takes_back t first) h.before || b) (ap (λ o. lies_before o first || list_any (takes_back t first) h.behind) (update_not_compensation t h.rec h.update) ∙ none_fewer t first u h.behind low h.stays)
        ∙ or-false (list_any (takes_back t first) h.before) in
        record {
          before = r ∷ h.before;
          rec = h.rec;
          behind = h.behind;
          split = ap (λ xs. r ∷ xs) h.split;
          number = (let n = h.number in omega arith);
          update = h.update;
          stays = h.stays;
          left = sym it.2 ∙ (λ i. h.left i ++ here (is_update_of t r) (gone i) first);
        }

-- ---- the numbers of what is left

abbrev Ends : ℕ → ℕ → List LogRecord → Type 0
Ends t first recs = All (λ v. v < first + length recs) (uncompensated t first recs)

ends : (t first : ℕ) (recs : List LogRecord) → Ends t first recs
ends t first [] = λ k d lt. absurd (omega arith)
ends t first (r ∷ rs) =
    All-append (λ v. v < first + length (r ∷ rs)) (uncompensated t (first + 1) rs) (here (is_update_of t r) (list_any (takes_back t first) rs) first)
    (λ k d lt. (let later = ends t (first + 1) rs k d lt in omega arith))
    (own (is_update_of t r && not (list_any (takes_back t first) rs)))
  where
    own : (b : Bool) → All (λ v. v < first + length (r ∷ rs)) (cond b (first ∷ []) [])
    own true zero d lt = omega arith
    own true (suc k) d lt = absurd (omega arith)
    own false k d lt = absurd (omega arith)

left_at-bounded : (t first : ℕ) (recs : List LogRecord) (r : ℕ) → All (λ v. v ≤ r) (left_at t first recs r)
left_at-bounded t first recs r = λ k d lt.
    let low = not_before t first (take (r + 1 - first) recs) k d lt in
    let high = ends t first (take (r + 1 - first) recs) k d lt in
    omega (arith, length-take (r + 1 - first) recs)

all_kept : (xs : List ℕ) (n : ℕ) → All (λ v. v ≤ n) xs → filter (λ v. nat_le v n) xs ≡ xs
all_kept [] n h = refl
all_kept (x ∷ xs) n h = by (nat_le x n) refl (all_kept xs n (λ k d lt. h (suc k) d (omega arith)))
  where
    by : (b : Bool) → nat_le x n ≡ b → filter (λ v. nat_le v n) xs ≡ xs → cond b (x ∷ filter (λ v. nat_le v n) xs) (filter (λ v. nat_le v n) xs) ≡ x ∷ xs
    by true le rest = ap (λ ys. x ∷ ys) rest
    by false le rest = let low = h 0 x (omega arith) in absurd (grind (arith, nat_tests))

-- ---- a log with one record more

pub TellsLeft-push : (t first : ℕ) (recs : List LogRecord) (x : LogRecord) → TellsLeft t first recs
    → (is_update_of t x ≡ true → (first ≤ record_before x) × (record_before x < first + length recs) × (left_at t first recs (record_before x) ≡ uncompensated t first recs))
    → ((next : ℕ) → next_after t x ≡ Some next → (next < first + length recs) × (left_at t first recs next ≡ uncompensated t first (recs ++ x ∷ [])))
    → TellsLeft t first (recs ++ x ∷ [])
TellsLeft-push t first recs x told update compensation = record { update = updates; compensation = compensations }
  where
    updates : (i : ℕ) (rec : LogRecord) → slice_get (recs ++ x ∷ []) i ≡ Some rec → is_update_of t rec ≡ true → (first ≤ record_before rec) × (record_before rec < first + i) × (left_at t first (recs ++ x ∷ []) (record_before rec) ≡ uncompensated t first (take i (recs ++ x ∷ [])))
    updates i rec at is = elim (old_or_new recs x rec i at) as (λ _. (first ≤ record_before rec) × (record_before rec < first + i) × (left_at t first (recs ++ x ∷ []) (record_before rec) ≡ uncompensated t first (take i (recs ++ x ∷ [])))) [
      | inl h ↦
          let old = told.update i rec h.1 is in
          (old.0, old.1, left_at-push t first recs x (record_before rec) (omega (arith, old.1, h.0)) ∙ old.2 ∙ sym (ap (uncompensated t first) (take-append-le i recs (x ∷ []) (omega (arith, h.0)))))
      | inr h ↦
          let new = update (ap (is_update_of t) h.1 ∙ is) in
          let before : record_before x ≡ record_before rec = ap record_before h.1 in (
            omega (arith, new.0, before),
            omega (arith, new.1, before, h.0),
            ap (left_at t first (recs ++ x ∷ [])) (sym before)
                ∙ left_at-push t first recs x (record_before x) new.1
                ∙ new.2
                ∙ ap (uncompensated t first) (sym (take_at recs (x ∷ []) (length recs) refl) ∙ ap (λ n. take n (recs ++ x ∷ [])) (sym h.0)),
          )
    ]

    compensations : (i next : ℕ) (rec : LogRecord) → slice_get (recs ++ x ∷ []) i ≡ Some rec → next_after t rec ≡ Some next → (next < first + i) × (left_at t first (recs ++ x ∷ []) next ≡ uncompensated t first (take (i + 1) (recs ++ x ∷ [])))
    compensations i next rec at is = elim (old_or_new recs x rec i at) as (λ _. (next < first + i) × (left_at t first (recs ++ x ∷ []) next ≡ uncompensated t first (take (i + 1) (recs ++ x ∷ [])))) [
      | inl h ↦
          let old = told.compensation i next rec h.1 is in
          (old.0, left_at-push t first recs x next (omega (arith, old.0, h.0)) ∙ old.1 ∙ sym (ap (uncompensated t first) (take-append-le (i + 1) recs (x ∷ []) (omega (arith, h.0)))))
      | inr h ↦
          let new = compensation next (ap (next_after t) h.1 ∙ is) in (
            omega (arith, new.0, h.0),
            left_at-push t first recs x next new.0 ∙ new.1 ∙ ap (uncompensated t first) (sym (take_all (i + 1) (recs ++ x ∷ []) (omega (arith, length-append recs (x ∷ []), h.0)))),
          )
    ]

-- ---- what each record tells

length-before : (before : List LogRecord) (rec : LogRecord) (behind : List LogRecord) → slice_get (before ++ rec ∷ behind) (length before) ≡ Some rec
length-before [] rec behind = refl
length-before (b ∷ bs) rec behind = length-before bs rec behind

first_at : (t first : ℕ) (recs : List LogRecord) (i : ℕ) → left_at t first recs (first + i) ≡ uncompensated t first (take (i + 1) recs)
first_at t first recs i = let n : first + i + 1 - first ≡ i + 1 = omega arith in ap (λ n. uncompensated t first (take n recs)) n

take-next : (recs : List LogRecord) (i : ℕ) (rec : LogRecord) → slice_get recs i ≡ Some rec → take (i + 1) recs ≡ take i recs ++ rec ∷ []
take-next [] i rec e = cc
take-next (r ∷ rs) zero rec e = let same : r ≡ rec = cc in ap (λ x. x ∷ []) same
take-next (r ∷ rs) (suc i) rec e = let n : suc i + 1 ≡ suc (i + 1) = omega arith in ap (λ n. take n (r ∷ rs)) n ∙ ap (λ xs. r ∷ xs) (take-next rs i rec e)

pub found-update : (t first : ℕ) (recs : List LogRecord) (i : ℕ) (rec : LogRecord) → TellsLeft t first recs → slice_get recs i ≡ Some rec → is_update_of t rec ≡ true → left_at t first recs (first + i) ≡ (first + i) ∷ left_at t first recs (record_before rec)
found-update t first recs i rec told at is =
    let told_here = told.update i rec at is in
    let count : length (take i recs) ≡ i = (let lt = slice_get_within recs i rec at in omega (arith, length-take i recs)) in
    first_at t first recs i
    ∙ ap (uncompensated t first) (take-next recs i rec at)
    ∙ left-update t first (take i recs) rec is
    ∙ (λ j. (first + count j) ∷ sym told_here.2 j)

pub found-compensation : (t first : ℕ) (recs : List LogRecord) (i next : ℕ) (rec : LogRecord) → TellsLeft t first recs → slice_get recs i ≡ Some rec → next_after t rec ≡ Some next → left_at t first recs (first + i) ≡ left_at t first recs next
found-compensation t first recs i next rec told at is = first_at t first recs i ∙ sym (told.compensation i next rec at is).1

-- ---- a compensation takes back the newest

record_at-is : (first : ℕ) (recs : List LogRecord) (r : ℕ) → first ≤ r → record_at first recs r ≡ slice_get recs (r - first)
record_at-is first recs r le = ap (λ b. cond b (slice_get recs (r - first)) None) (is_le first r le)

not_le : (a b : ℕ) → b < a → nat_le a b ≡ false
not_le a b lt = grind (arith, nat_tests)

-- an update that is left stands where its number says
left_stands : (t first : ℕ) (recs : List LogRecord) (u : ℕ) (rest : List ℕ) (h : IsLeft t first recs u rest) → slice_get recs (length h.before) ≡ Some h.rec
left_stands t first recs u rest h = ap (λ xs. slice_get xs (length h.before)) h.split ∙ length-before h.before h.rec h.behind

-- its record is an update
pub update_left : (t first : ℕ) (recs : List LogRecord) (newer : List ℕ) (u : ℕ) (rest : List ℕ) (rec : LogRecord) → uncompensated t first recs ≡ newer ++ u ∷ rest → record_at first recs u ≡ Some rec → is_update_of t rec ≡ true
update_left t first recs newer u rest rec left at =
    let h = left_is t first recs newer u rest left in
    let low : first ≤ u = (let n = h.number in omega arith) in
    let place : u - first ≡ length h.before = (let n = h.number in omega arith) in
    let same : Some h.rec ≡ Some rec = sym (left_stands t first recs u rest h) ∙ sym (ap (slice_get recs) place) ∙ sym (record_at-is first recs u low) ∙ at in
    let one : h.rec ≡ rec = cc in
    ap (is_update_of t) (sym one) ∙ h.update

-- what is next behind an update: as much was left at it as before the update
next_behind_is : (t first : ℕ) (recs : List LogRecord) (update : LogRecord) → TellsLeft t first recs → first ≤ record_before update → (next_behind t first recs update ≤ record_before update) × (left_at t first recs (next_behind t first recs update) ≡ left_at t first recs (record_before update))
next_behind_is t first recs update told low =
    chosen (record_at first recs (record_before update)) (option_and_then (next_after t) (record_at first recs (record_before update))) (sym (record_at-is first recs (record_before update) low)) refl
  where
    chosen : (o : Option LogRecord) (n : Option ℕ) → slice_get recs (record_before update - first) ≡ o → option_and_then (next_after t) o ≡ n → (unwrap_or n (record_before update) ≤ record_before update) × (left_at t first recs (unwrap_or n (record_before update)) ≡ left_at t first recs (record_before update))
    chosen o None at is = (omega arith, refl)
    chosen None (Some next) at is = cc
    chosen (Some rec) (Some next) at is =
        let here = told.compensation (record_before update - first) next rec at is in
        let number : record_before update + 1 - first ≡ record_before update - first + 1 = omega arith in
        (omega (arith, here.0), here.1 ∙ ap (λ n. uncompensated t first (take n recs)) (sym number))

-- what the record of an update that is left tells
record IsTold (t first : ℕ) (recs : List LogRecord) (u : ℕ) (rest : List ℕ) (update : LogRecord) : Type 0 where
  place : ℕ
  number : u ≡ first + place
  within : place < length recs
  low : first ≤ record_before update
  high : record_before update < u
  left : rest ≡ left_at t first recs (next_behind t first recs update)
  next_low : next_behind t first recs update ≤ record_before update

left_told : (t first : ℕ) (recs : List LogRecord) (newer : List ℕ) (u : ℕ) (rest : List ℕ) (update : LogRecord) → TellsLeft t first recs → uncompensated t first recs ≡ newer ++ u ∷ rest → record_at first recs u ≡ Some update → IsTold t first recs u rest update
left_told t first recs newer u rest update told left at =
    let h : IsLeft t first recs u rest = left_is t first recs newer u rest left in
    let i : ℕ = length h.before in
    let reads = left_stands t first recs u rest h in
    let low : first ≤ u = (let n = h.number in omega arith) in
    let place : u - first ≡ i = (let n = h.number in omega arith) in
    let here = told.update i update (ap (slice_get recs) (sym place) ∙ sym (record_at-is first recs u low) ∙ at) (update_left t first recs newer u rest update left at) in
    let front : take i recs ≡ h.before = ap (take i) h.split ∙ take_at h.before (h.rec ∷ h.behind) i refl in
    let behind = next_behind_is t first recs update told here.0 in
    record {
      place = i;
      number = h.number;
      within = slice_get_within recs i h.rec reads;
      low = here.0;
      high = (let n = h.number in omega (arith, here.1));
      left = h.left ∙ ap (uncompensated t first) (sym front) ∙ sym here.2 ∙ sym behind.1;
      next_low = behind.0;
    }

-- what is left before it is what was left at the record that is next behind it
pub left_behind : (t first : ℕ) (recs : List LogRecord) (newer : List ℕ) (u : ℕ) (rest : List ℕ) (update : LogRecord) → TellsLeft t first recs → uncompensated t first recs ≡ newer ++ u ∷ rest → record_at first recs u ≡ Some update → left_at t first recs (next_behind t first recs update) ≡ rest
left_behind t first recs newer u rest update told left at = sym (left_told t first recs newer u rest update told left at).left

-- what a compensation leaves that takes back the newest update, and that it tells so
module _ (t first : ℕ) (recs : List LogRecord) (u : ℕ) (rest : List ℕ) (update rec : LogRecord) (told : TellsLeft t first recs) (newest : uncompensated t first recs ≡ u ∷ rest) (at : record_at first recs u ≡ Some update) (is : next_after t rec ≡ Some (next_behind t first recs update)) where
  newest_told : IsTold t first recs u rest update
  newest_told = left_told t first recs [] u rest update told newest at

  pub left-taken_back : uncompensated t first (recs ++ rec ∷ []) ≡ rest
  left-taken_back =
      let h = newest_told in
      let q : ℕ = next_behind t first recs update in
      let above : nat_le u q ≡ false = not_le u q (omega (arith, h.high, h.next_low)) in
      let low : All (λ v. v ≤ q) rest = subst (All (λ v. v ≤ q)) (sym h.left) (left_at-bounded t first recs q) in
      left-compensation t first q recs rec is
      ∙ ap (filter (λ v. nat_le v q)) newest
      ∙ ap (λ b. cond b (u ∷ filter (λ v. nat_le v q) rest) (filter (λ v. nat_le v q) rest)) above
      ∙ all_kept rest q low

  pub TellsLeft-taken_back : TellsLeft t first (recs ++ rec ∷ [])
  TellsLeft-taken_back =
      let h = newest_told in
      TellsLeft-push t first recs rec told
      (λ update_too. let no_update : true ≡ false = sym update_too ∙ compensation_not_update t (next_behind t first recs update) rec is in cc)
      (λ next is_next.
      let same : Some (next_behind t first recs update) ≡ Some next = sym is ∙ is_next in
      let one : next_behind t first recs update ≡ next = cc in (
        omega (arith, one, h.number, h.within, h.high, h.next_low),
        ap (left_at t first recs) (sym one) ∙ sym h.left ∙ sym left-taken_back,
      ))

pub TellsLeft-update : (t first : ℕ) (recs : List LogRecord) (rec : LogRecord) → TellsLeft t first recs → is_update_of t rec ≡ true → first ≤ record_before rec → record_before rec < first + length recs → left_at t first recs (record_before rec) ≡ uncompensated t first recs → TellsLeft t first (recs ++ rec ∷ [])
TellsLeft-update t first recs rec told is low high left =
    TellsLeft-push t first recs rec told (λ _. (low, high, left))
    (λ next is_next. let never : None ≡ Some next = sym (update_not_compensation t rec is) ∙ is_next in cc)

pub TellsLeft-other : (t first : ℕ) (recs : List LogRecord) (rec : LogRecord) → TellsLeft t first recs → is_update_of t rec ≡ false → next_after t rec ≡ None → TellsLeft t first (recs ++ rec ∷ [])
TellsLeft-other t first recs rec told other none =
    TellsLeft-push t first recs rec told
    (λ is. let never : true ≡ false = sym is ∙ other in cc)
    (λ next is_next. let never : None ≡ Some next = sym none ∙ is_next in cc)

pub TellsLeft-empty : (t first : ℕ) → TellsLeft t first []
TellsLeft-empty t first = record { update = λ i rec at is. cc; compensation = λ i next rec at is. cc }

-- ---- where it begins

no_updates : (t first : ℕ) (recs : List LogRecord) → ((i : ℕ) (rec : LogRecord) → slice_get recs i ≡ Some rec → is_update_of t rec ≡ false) → uncompensated t first recs ≡ []
no_updates t first [] none = refl
no_updates t first (r ∷ rs) none =
    λ i. no_updates t (first + 1) rs (λ k rec at. none (suc k) rec at) i ++ here (none 0 r refl i) (list_any (takes_back t first) rs) first

in_front : (recs : List LogRecord) (n i : ℕ) (rec : LogRecord) → slice_get (take n recs) i ≡ Some rec → (i < n) × (slice_get recs i ≡ Some rec)
in_front recs zero i rec at = cc
in_front [] (suc n) i rec at = cc
in_front (r ∷ rs) (suc n) zero rec at = (omega arith, at)
in_front (r ∷ rs) (suc n) (suc i) rec at = let rest = in_front rs n i rec at in (omega (arith, rest.0), rest.1)

pub left_at-begin : (t first : ℕ) (recs : List LogRecord) → ((i : ℕ) (rec : LogRecord) → slice_get recs i ≡ Some rec → first + i ≤ t → is_update_of t rec ≡ false) → left_at t first recs t ≡ []
left_at-begin t first recs none =
    no_updates t first (take (t + 1 - first) recs) (λ i rec at. let front = in_front recs (t + 1 - first) i rec at in none i rec front.1 (omega (arith, front.0)))

-- a log that begins later, behind no update of the transaction, leaves the same
pub uncompensated-append : (t first : ℕ) (front recs : List LogRecord) → ((i : ℕ) (rec : LogRecord) → slice_get front i ≡ Some rec → is_update_of t rec ≡ false) → uncompensated t first (front ++ recs) ≡ uncompensated t (first + length front) recs
uncompensated-append t first [] recs none = let same : first ≡ first + 0 = omega arith in ap (λ n. uncompensated t n recs) same
uncompensated-append t first (r ∷ rs) recs none =
    let number : first + 1 + length rs ≡ first + length (r ∷ rs) = omega arith in
    (λ i. uncompensated-append t (first + 1) rs recs (λ k rec at. none (suc k) rec at) i ++ here (none 0 r refl i) (list_any (takes_back t first) (rs ++ recs)) first)
    ∙ append-nil (uncompensated t (first + 1 + length rs) recs)
    ∙ ap (λ n. uncompensated t n recs) number
