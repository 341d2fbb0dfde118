-- Frames that are out of a pool, as they come out, are written and go back.
use Rattle.std.proofs.Common.{◌≡◌, ◌≢◌, ◌<◌, ◌≤◌, ◌+◌, ◌⊎◌, ℕ, zero, suc, List, Bool, true, false, Option, Some, None, IsSome, is_some, MatchOption, length, replicate, set, get_or, unwrap_or, slice_index_or, inl, inr, refl, ap, sym, ◌∙◌, subst, arith}
use Rattle.std.proofs.lemmas.Bool.{cases_eq, cases_lt}
use Rattle.std.proofs.lemmas.List.{get_or-set_other, get_or-set_same, get_or-replicate, get_or_past, length-replicate, length-set, same_lists}
use Rattle.frame_pool.specs.Frames.{IsOut, frame_at}
use Rattle.frame_pool.proofs.PoolLaws.{IsOut-within, taken-apart}
use Rattle.one_log_redo.specs.Copies.{AreLent, IsElsewhere, KeepsOthers, TakesFrames, frame_of}

abbrev frame_is : List (Option ℕ) → ℕ → Option ℕ
frame_is frames k = slice_index_or frames k None

-- no place has a frame yet
none_in : (k : ℕ) → frame_is (replicate 16 None) k ≡ None
none_in k = elim (cases_lt k 16) [
  | inl lt ↦ get_or-replicate 16 k None None lt
  | inr ge ↦ get_or_past (replicate 16 None) k None (omega (arith, length-replicate {A = Option ℕ} 16 None, ge))
]

pub none_lent : (pool : List (Option (List ℕ))) → AreLent pool (replicate 16 None) 0
none_lent pool = record { few = omega arith; some = λ k lt. absurd (omega arith); none = λ k le. none_in k; out = λ k lt. absurd (omega arith); apart = λ j k lt. absurd (omega arith) }

pub kept_same : (frames : List (Option ℕ)) (count : ℕ) (pool : List (Option (List ℕ))) → KeepsOthers frames count pool pool
kept_same frames count pool = record { size = refl; others = λ f far. refl }

pub kept_then : (frames : List (Option ℕ)) (count : ℕ) (a b c : List (Option (List ℕ))) → KeepsOthers frames count a b → KeepsOthers frames count b c → KeepsOthers frames count a c
kept_then frames count a b c p q = record { size = q.size ∙ p.size; others = λ f far. q.others f far ∙ p.others f far }

pub none_taken : (pool : List (Option (List ℕ))) → TakesFrames (replicate 16 None) 0 pool pool
none_taken pool = record { kept = kept_same (replicate 16 None) 0 pool; free = λ k lt. absurd (omega arith) }

-- one frame more comes out
module _ (frames : List (Option ℕ)) (n f : ℕ) (old new : List (Option (List ℕ))) (lent : AreLent old frames n) (long : length frames ≡ 16) (few : n < 16) (taken : old ≡ set new f None) (out : IsOut new f) where
  abbrev frames' : List (Option ℕ)
  frames' = set frames n (Some f)

  here : slice_index_or frames' n None ≡ Some f
  here = get_or-set_same frames n (Some f) None (omega arith)

  other : (k : ℕ) → k ≢ n → slice_index_or frames' k None ≡ slice_index_or frames k None
  other k ne = get_or-set_other frames n k (Some f) None ne

  frame_here : (k : ℕ) → k ≡ n → frame_of frames' k ≡ f
  frame_here k e = ap (λ j. unwrap_or (slice_index_or frames' j None) 0) e ∙ ap (λ o. unwrap_or o 0) here

  frame_other : (k : ℕ) → k ≢ n → frame_of frames' k ≡ frame_of frames k
  frame_other k ne = ap (λ o. unwrap_or o 0) (other k ne)

  far : (k : ℕ) → k < n → frame_of frames k ≢ f
  far k lt = taken-apart old new f (frame_of frames k) taken (lent.out k lt)

  same_frame : (g : ℕ) → g ≢ f → frame_at new g ≡ frame_at old g
  same_frame g ne = sym (get_or-set_other new f g None None ne) ∙ sym (ap (λ (p : List (Option (List ℕ))). frame_at p g) taken)

  pub lent_more : AreLent new frames' (n + 1)
  lent_more = record {
    few = omega arith;
    some = λ k lt. elim (cases_eq k n) [
      | inl e ↦ ap (λ j. is_some (slice_index_or frames' j None)) e ∙ ap is_some here
      | inr ne ↦ ap is_some (other k ne) ∙ lent.some k (omega arith)
    ];
    none = λ k le. other k (omega arith) ∙ lent.none k (omega arith);
    out = λ k lt. elim (cases_eq k n) [
      | inl e ↦ subst (IsOut new) (sym (frame_here k e)) out
      | inr ne ↦ subst (IsOut new) (sym (frame_other k ne)) (ap is_some (same_frame (frame_of frames k) (far k (omega arith))) ∙ lent.out k (omega arith))
    ];
    apart = λ j k lt lt' same. elim (cases_eq j n) [
      | inl e ↦ elim (cases_eq k n) [
        | inl e' ↦ e ∙ sym e'
        | inr ne ↦ absurd (far k (omega arith) (sym (frame_other k ne) ∙ sym same ∙ frame_here j e))
      ]
      | inr ne ↦ elim (cases_eq k n) [
        | inl e ↦ absurd (far j (omega arith) (sym (frame_other j ne) ∙ same ∙ frame_here k e))
        | inr ne' ↦ lent.apart j k (omega arith) (omega arith) (sym (frame_other j ne) ∙ same ∙ frame_other k ne')
      ]
    ];
  }

  pub taken_more : (first : List (Option (List ℕ))) → TakesFrames frames n first old → TakesFrames frames' (n + 1) first new
  taken_more first t = record {
    kept = record {
      size = sym (length-set new f None) ∙ sym (ap length taken) ∙ t.kept.size;
      others = λ g away. same_frame g (λ e. away n (omega arith) (e ∙ sym (frame_here n refl)))
          ∙ t.kept.others g (λ k lt e. away k (omega arith) (e ∙ sym (frame_other k (omega arith))));
    };
    free = λ k lt. elim (cases_eq k n) [
      | inl e ↦ ap (frame_at first) (frame_here k e) ∙ sym (t.kept.others f (λ j below same. far j below (sym same))) ∙ ap (λ (p : List (Option (List ℕ))). frame_at p f) taken
          ∙ get_or-set_same new f None None (IsOut-within new f out)
      | inr ne ↦ ap (frame_at first) (frame_other k ne) ∙ t.free k (omega arith)
    ];
  }

-- frames go back
pub record AreBack (frames : List (Option ℕ)) (count n : ℕ) (first : List (Option (List ℕ))) (left : List (Option ℕ)) (pool : List (Option (List ℕ))) : Type 0 where
  pub gone : (k : ℕ) → k < n → slice_index_or left k None ≡ None
  pub same : (k : ℕ) → n ≤ k → slice_index_or left k None ≡ slice_index_or frames k None
  pub out : (k : ℕ) → n ≤ k → k < count → IsOut pool (frame_of frames k)
  pub size : length pool ≡ length first
  pub free : (k : ℕ) → k < n → k < count → frame_at pool (frame_of frames k) ≡ None
  pub others : (f : ℕ) → IsElsewhere frames count f → frame_at pool f ≡ frame_at first f

pub none_back : (frames : List (Option ℕ)) (count : ℕ) (pool : List (Option (List ℕ))) → AreLent pool frames count → AreBack frames count 0 pool frames pool
none_back frames count pool lent = record {
  gone = λ k lt. absurd (omega arith);
  same = λ k le. refl;
  out = λ k le lt. lent.out k lt;
  size = refl;
  free = λ k lt. absurd (omega arith);
  others = λ f far. refl;
}

-- the frame at a place that has one
some_is : (o : Option ℕ) → IsSome o → o ≡ Some (unwrap_or o 0)
some_is (Some f) is = refl
some_is None is = let no : false ≡ true = is in absurd cc

pub lent_at : (pool : List (Option (List ℕ))) (frames : List (Option ℕ)) (count k : ℕ) → AreLent pool frames count → k < count → slice_index_or frames k None ≡ Some (frame_of frames k)
lent_at pool frames count k lent lt = some_is (slice_index_or frames k None) (lent.some k lt)

-- one more
module _ (frames : List (Option ℕ)) (count n : ℕ) (first : List (Option (List ℕ))) (left : List (Option ℕ)) (pool pool' : List (Option (List ℕ))) (lent : AreLent first frames count) (long : length left ≡ 16) (few : n < 16) (b : AreBack frames count n first left pool)
    (gave : MatchOption (slice_index_or left n None) (pool' ≡ pool) (λ f. pool' ≡ set pool f None)) where
  abbrev left' : List (Option ℕ)
  left' = set left n None

  gone_more : (k : ℕ) → k < n + 1 → slice_index_or left' k None ≡ None
  gone_more k lt = elim (cases_eq k n) [
    | inl e ↦ ap (λ j. slice_index_or left' j None) e ∙ get_or-set_same left n None None (omega arith)
    | inr ne ↦ get_or-set_other left n k None None ne ∙ b.gone k (omega arith)
  ]

  same_more : (k : ℕ) → n + 1 ≤ k → slice_index_or left' k None ≡ slice_index_or frames k None
  same_more k le = get_or-set_other left n k None None (omega arith) ∙ b.same k (omega arith)

  given : n < count → pool' ≡ set pool (frame_of frames n) None
  given lt = let P : Option ℕ → Type 0 = λ o. MatchOption o (pool' ≡ pool) (λ f. pool' ≡ set pool f None) in subst P (b.same n (omega arith) ∙ lent_at first frames count n lent lt) gave

  kept : count ≤ n → pool' ≡ pool
  kept le = let P : Option ℕ → Type 0 = λ o. MatchOption o (pool' ≡ pool) (λ f. pool' ≡ set pool f None) in subst P (b.same n (omega arith) ∙ lent.none n le) gave

  other_frame : n < count → (g : ℕ) → g ≢ frame_of frames n → frame_at pool' g ≡ frame_at pool g
  other_frame lt g ne = ap (λ (p : List (Option (List ℕ))). frame_at p g) (given lt) ∙ get_or-set_other pool (frame_of frames n) g None None ne

  pub back_more : AreBack frames count (n + 1) first left' pool'
  back_more = elim (cases_lt n count) [
    | inl lt ↦ record {
      gone = gone_more;
      same = same_more;
      out = λ k le below. ap is_some (other_frame lt (frame_of frames k) (λ e. let no : k ≡ n = lent.apart k n below lt e in absurd (omega arith))) ∙ b.out k (omega arith) below;
      size = ap length (given lt) ∙ length-set pool (frame_of frames n) None ∙ b.size;
      free = λ k lt' below. elim (cases_eq k n) [
        | inl e ↦ ap (λ j. frame_at pool' (frame_of frames j)) e ∙ ap (λ (p : List (Option (List ℕ))). frame_at p (frame_of frames n)) (given lt) ∙ get_or-set_same pool (frame_of frames n) None None (IsOut-within pool (frame_of frames n) (b.out n (omega arith) lt))
        | inr ne ↦ other_frame lt (frame_of frames k) (λ e. ne (lent.apart k n below lt e)) ∙ b.free k (omega arith) below
      ];
      others = λ f far. other_frame lt f (far n lt) ∙ b.others f far;
    }
    | inr le ↦ record {
      gone = gone_more;
      same = same_more;
      out = λ k le' below. absurd (omega arith);
      size = ap length (kept le) ∙ b.size;
      free = λ k lt below. ap (λ (p : List (Option (List ℕ))). frame_at p (frame_of frames k)) (kept le) ∙ b.free k (omega arith) below;
      others = λ f far. ap (λ (p : List (Option (List ℕ))). frame_at p f) (kept le) ∙ b.others f far;
    }
  ]

-- the frame at a place to give back is out
pub back_out : (frames : List (Option ℕ)) (count n : ℕ) (first : List (Option (List ℕ))) (left : List (Option ℕ)) (pool : List (Option (List ℕ))) → AreLent first frames count → AreBack frames count n first left pool → (f : ℕ) → slice_index_or left n None ≡ Some f → IsOut pool f
back_out frames count n first left pool lent b f at = elim (cases_lt n count) [
  | inl lt ↦
      let both : Some f ≡ Some (frame_of frames n) = sym at ∙ (b.same n (omega arith) ∙ lent_at first frames count n lent lt) in
      let same : frame_of frames n ≡ f = cc in
      subst (IsOut pool) same (b.out n (omega arith) lt)
  | inr le ↦ let no : None ≡ Some f = sym (b.same n (omega arith) ∙ lent.none n le) ∙ at in absurd cc
]

-- a frame is at one of these places or at none
among : (frames : List (Option ℕ)) (n f : ℕ) → ((k : ℕ) × (k < n) × (f ≡ frame_of frames k)) ⊎ IsElsewhere frames n f
among frames zero f = inr (λ k lt. absurd (omega arith))
among frames (suc n) f = elim (cases_eq f (frame_of frames n)) [
  | inl e ↦ inl (n, omega arith, e)
  | inr ne ↦ elim (among frames n f) [
    | inl w ↦ inl (w.0, (let lt = w.1 in omega (arith, lt)), w.2)
    | inr far ↦ inr (λ k lt. elim (cases_eq k n) [
      | inl e ↦ λ same. ne (same ∙ ap (frame_of frames) e)
      | inr other ↦ far k (omega arith)
    ])
  ]
]
