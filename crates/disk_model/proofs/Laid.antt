-- What a write does to blocks that have places.
use Rattle.std.proofs.Common.{◌≡◌, ◌≢◌, ◌<◌, ◌≤◌, ◌+◌, ℕ, zero, suc, cond, List, [], ◌∷◌, ◌++◌, Option, Some, None, refl, sym, ap, ◌∙◌, inl, inr, arith, length, length-set, set, get_or, replicate, get_or-set_same, get_or-set_other}
use Rattle.std.specs.Prelude.{count_by, is_some}
use Rattle.std.proofs.lemmas.List.{get_or-map, get_or_default, get_or_past, get_or_push, get_or_append_left, get_or-replicate, length-replicate, ext_get_or, length-map, length_push}
use Rattle.std.proofs.lemmas.List.Sums.{count_by-le-length, sum_by-set}
use Rattle.std.proofs.lemmas.List.Folds.{sum_by-replicate}
use Rattle.std.proofs.lemmas.Bool.{cases_eq, cases_lt}
use Rattle.disk_model.specs.Lazy.{zero_block, content_at, laid_out, IsLaid}

-- what is read at an index, with any default
pub read_at : {X : Type 0} (xs : List X) (k : ℕ) (x d : X) → k < length xs → x ≡ get_or xs k x → get_or xs k d ≡ x
read_at xs k x d lt e = get_or_default xs k d x lt ∙ sym e

-- what a block holds, by its place
pub laid_out-at : (places : List (Option ℕ)) (contents : List (List ℕ)) (i : ℕ) → i < length places → get_or (laid_out places contents) i zero_block ≡ content_at contents (get_or places i None)
laid_out-at places contents i lt = get_or-map (content_at contents) places i None zero_block lt

-- each block has a content
pub length-laid_out : (places : List (Option ℕ)) (contents : List (List ℕ)) → length (laid_out places contents) ≡ length places
length-laid_out places contents = length-map places (content_at contents)

-- a block that gets a place is one more of those that have one
pub count_by-set_place : (places : List (Option ℕ)) (i place : ℕ) → i < length places → get_or places i None ≡ None → count_by is_some (set places i (Some place)) ≡ count_by is_some places + 1
count_by-set_place places i place lt e =
    let moved = rw e at (sum_by-set (λ o. cond (is_some o) 1 0) places i (Some place) None lt) in omega (arith, moved)

-- where a block has no place, there is room for one more content
pub room_left : (places : List (Option ℕ)) (contents : List (List ℕ)) (capacity i : ℕ) → IsLaid places contents capacity → i < length places → get_or places i None ≡ None → length contents < capacity
room_left places contents capacity i laid lt e =
    let more = count_by-set_place places i 0 lt e in
    let most = count_by-le-length is_some (set places i (Some 0)) in
    omega (arith, laid.counted, laid.room, more, most, length-set places i (Some 0))

-- a further write of a block changes no place
pub IsLaid-overwrite : (places : List (Option ℕ)) (contents : List (List ℕ)) (capacity place : ℕ) (x : List ℕ) → IsLaid places contents capacity → IsLaid places (set contents place x) capacity
IsLaid-overwrite places contents capacity place x laid =
    let same = length-set contents place x in record {
      within = λ i p e. omega (arith, laid.within i p e, same);
      apart = laid.apart;
      counted = same ∙ laid.counted;
      room = laid.room;
    }

-- a write at one place leaves what another place holds
content_at-set_other : (contents : List (List ℕ)) (place : ℕ) (x : List ℕ) (o : Option ℕ) → o ≢ Some place → content_at (set contents place x) o ≡ content_at contents o
content_at-set_other contents place x None ne = refl
content_at-set_other contents place x (Some q) ne = get_or-set_other contents place q x zero_block (λ e. ne (ap Some e))

-- a further write of a block
pub laid_out-overwrite : (places : List (Option ℕ)) (contents : List (List ℕ)) (capacity i place : ℕ) (x : List ℕ) → IsLaid places contents capacity → i < length places → get_or places i None ≡ Some place → laid_out places (set contents place x) ≡ set (laid_out places contents) i x
laid_out-overwrite places contents capacity i place x laid lt e =
    let old = laid_out places contents in
    let new = laid_out places (set contents place x) in
    let len : length new ≡ length old = length-laid_out places (set contents place x) ∙ sym (length-laid_out places contents) in
    let lt_old : i < length old = omega (arith, length-laid_out places contents) in
    ext_get_or zero_block new (set old i x) (len ∙ sym (length-set old i x)) (λ j less.
    let lt_j : j < length places = omega (arith, length-laid_out places (set contents place x)) in
    let read : get_or new j zero_block ≡ content_at (set contents place x) (get_or places j None) = laid_out-at places (set contents place x) j lt_j in
    elim (cases_eq j i) [
      | inl same ↦
          let here : get_or places j None ≡ Some place = rw same e in
          let wrote : get_or (set contents place x) place zero_block ≡ x = get_or-set_same contents place x zero_block (laid.within i place e) in
          let want : get_or (set old i x) j zero_block ≡ x = rw same (get_or-set_same old i x zero_block lt_old) in
          read ∙ ap (content_at (set contents place x)) here ∙ wrote ∙ sym want
      | inr other ↦
          let apart : get_or places j None ≢ Some place = λ there. other (laid.apart j i place there e) in
          read ∙ content_at-set_other contents place x (get_or places j None) apart ∙ sym (laid_out-at places contents j lt_j) ∙ sym (get_or-set_other old i j x zero_block other)
    ])

-- what the blocks with a place hold stays where one more content comes
content_at-push : (contents : List (List ℕ)) (x : List ℕ) (o : Option ℕ) → ((p : ℕ) → o ≡ Some p → p < length contents) → content_at (contents ++ x ∷ []) o ≡ content_at contents o
content_at-push contents x None within = refl
content_at-push contents x (Some p) within = get_or_append_left contents (x ∷ []) zero_block p (within p refl)

-- the first write of a block gives it a place of its own
pub IsLaid-push : (places : List (Option ℕ)) (contents : List (List ℕ)) (capacity i : ℕ) (x : List ℕ) → IsLaid places contents capacity → i < length places → get_or places i None ≡ None → IsLaid (set places i (Some (length contents))) (contents ++ x ∷ []) capacity
IsLaid-push places contents capacity i x laid lt e =
    let new = set places i (Some (length contents)) in
    let len : length (contents ++ x ∷ []) ≡ length contents + 1 = length_push contents x in
    let here : get_or new i None ≡ Some (length contents) = get_or-set_same places i (Some (length contents)) None lt in
    let there : (j : ℕ) → j ≢ i → get_or new j None ≡ get_or places j None = λ j ne. get_or-set_other places i j (Some (length contents)) None ne in
    let fresh : (j p : ℕ) → j ≢ i → get_or new j None ≡ Some p → p < length contents = λ j p ne f. laid.within j p (sym (there j ne) ∙ f) in
    record {
      within = λ j p f. elim (cases_eq j i) [
        | inl same ↦ let q : Some (length contents) ≡ Some p = sym here ∙ rw same at f in let r : length contents ≡ p = cc in omega arith
        | inr other ↦ let q = fresh j p other f in omega (arith, len, q)
      ];
      apart = λ j k p f g. elim (cases_eq j i) [
        | inl j_is ↦ elim (cases_eq k i) [
          | inl k_is ↦ j_is ∙ sym k_is
          | inr k_not ↦ let q = fresh k p k_not g in let r : Some (length contents) ≡ Some p = sym here ∙ rw j_is at f in let s : length contents ≡ p = cc in absurd (omega (arith, q, s))
        ]
        | inr j_not ↦ elim (cases_eq k i) [
          | inl k_is ↦ let q = fresh j p j_not f in let r : Some (length contents) ≡ Some p = sym here ∙ rw k_is at g in let s : length contents ≡ p = cc in absurd (omega (arith, q, s))
          | inr k_not ↦ laid.apart j k p (sym (there j j_not) ∙ f) (sym (there k k_not) ∙ g)
        ]
      ];
      counted = len ∙ ap (λ n. n + 1) laid.counted ∙ sym (count_by-set_place places i (length contents) lt e);
      room = omega (arith, laid.room, length-set places i (Some (length contents)));
    }

-- the first write of a block
pub laid_out-push : (places : List (Option ℕ)) (contents : List (List ℕ)) (capacity i : ℕ) (x : List ℕ) → IsLaid places contents capacity → i < length places → get_or places i None ≡ None → laid_out (set places i (Some (length contents))) (contents ++ x ∷ []) ≡ set (laid_out places contents) i x
laid_out-push places contents capacity i x laid lt e =
    let next = set places i (Some (length contents)) in
    let old = laid_out places contents in
    let new = laid_out next (contents ++ x ∷ []) in
    let len_next : length next ≡ length places = length-set places i (Some (length contents)) in
    let len : length new ≡ length old = length-laid_out next (contents ++ x ∷ []) ∙ len_next ∙ sym (length-laid_out places contents) in
    let lt_old : i < length old = omega (arith, length-laid_out places contents) in
    ext_get_or zero_block new (set old i x) (len ∙ sym (length-set old i x)) (λ j less.
    let lt_j : j < length places = omega (arith, length-laid_out next (contents ++ x ∷ []), len_next) in
    let read : get_or new j zero_block ≡ content_at (contents ++ x ∷ []) (get_or next j None) = laid_out-at next (contents ++ x ∷ []) j (omega (arith, len_next, lt_j)) in
    elim (cases_eq j i) [
      | inl same ↦
          let here : get_or next j None ≡ Some (length contents) = rw same (get_or-set_same places i (Some (length contents)) None lt) in
          let wrote : get_or (contents ++ x ∷ []) (length contents) zero_block ≡ x = get_or_push contents x zero_block (length contents) refl in
          let want : get_or (set old i x) j zero_block ≡ x = rw same (get_or-set_same old i x zero_block lt_old) in
          read ∙ ap (content_at (contents ++ x ∷ [])) here ∙ wrote ∙ sym want
      | inr other ↦
          let there : get_or next j None ≡ get_or places j None = get_or-set_other places i j (Some (length contents)) None other in
          read ∙ ap (content_at (contents ++ x ∷ [])) there ∙ content_at-push contents x (get_or places j None) (λ p f. laid.within j p f) ∙ sym (laid_out-at places contents j lt_j) ∙ sym (get_or-set_other old i j x zero_block other)
    ])

-- blocks that have no place are zero
pub laid_out-blank : (n : ℕ) (contents : List (List ℕ)) → laid_out (replicate n None) contents ≡ replicate n zero_block
laid_out-blank zero contents = refl
laid_out-blank (suc n) contents = ap (λ rest. zero_block ∷ rest) (laid_out-blank n contents)

-- no block has a place
no_place : (n i : ℕ) → get_or (replicate {A = Option ℕ} n None) i None ≡ None
no_place n i = elim (cases_lt i n) [
  | inl lt ↦ get_or-replicate n i None None lt
  | inr past ↦ get_or_past (replicate n None) i None (simp length-replicate past)
]

-- none of them has a place
count_by-no_place : (n : ℕ) → count_by (is_some {T = ℕ}) (replicate n None) ≡ 0
count_by-no_place n = let none = sum_by-replicate (λ o. cond (is_some {T = ℕ} o) 1 0) n None in omega (arith, none)

-- blocks that have no place need no content
pub IsLaid-blank : (n capacity : ℕ) → n ≤ capacity → IsLaid (replicate n None) [] capacity
IsLaid-blank n capacity le = record {
  within = λ i p e. let no : get_or (replicate {A = Option ℕ} n None) i None ≡ None = no_place n i in cc;
  apart = λ i j p e f. let no : get_or (replicate {A = Option ℕ} n None) i None ≡ None = no_place n i in cc;
  counted = sym (count_by-no_place n);
  room = simp length-replicate le;
}
