-- The frames of a pool, as a frame is taken, given back and written.
use Rattle.std.proofs.Common.{◌≡◌, ◌≢◌, ◌<◌, ◌≤◌, ◌+◌, ◌^◌, ℕ, zero, suc, true, List, [], ◌∷◌, ◌++◌, All, Option, Some, None, IsSome, is_some, is_none, map, length, replicate, set, get_or, refl, sym, ◌∙◌, ap, subst, arith}
use Rattle.std.specs.List.{range_with_len}
use Rattle.std.proofs.Math.Seq.{get_or-append_seam}
use Rattle.std.proofs.lemmas.List.{ext_get_or, get_or_default, get_or-map, get_or-set_other, get_or_append_left, length-append, length-map, length-replicate, length-set, get_or-replicate, map-id, map-set}
use Rattle.std.proofs.lemmas.List.Elements.{All-append, All-cons}
use Rattle.std.proofs.lemmas.List.FromFn.{get_or-range_with_len, length-range_with_len, map-range_with_len_more}
use Rattle.std.proofs.lemmas.List.Quantifiers.{all_pairs_push}
use Rattle.std.proofs.lemmas.List.Sums.{count_by-le-length}
use Rattle.frame_pool.specs.Frames.{frame_at, IsOut, free_count, shown, IsPool}
use Rattle.frame_pool.proofs.Blanking.{blanked, set_here, length-blanked, get_or-blanked, get_or-blanked_other, apart-from_IsSome, count_by-set_none, count_by-blanked, set-blanked}

-- a frame that is out is one of the pool's
pub IsOut-within : (frames : List (Option (List ℕ))) (k : ℕ) → IsOut frames k → k < length frames
IsOut-within [] k out = let no : is_some {T = List ℕ} None ≡ true = out in absurd (cc)
IsOut-within (x ∷ xs) zero out = omega arith
IsOut-within (x ∷ xs) (suc k) out = let lt : k < length xs = IsOut-within xs k out in omega arith

-- where a frame is out, not all are free
pub free_count-lt-length : (frames : List (Option (List ℕ))) (k : ℕ) → IsOut frames k → free_count frames < length frames
free_count-lt-length frames k out =
    let one : free_count (set frames k None) ≡ free_count frames + 1 = count_by-set_none frames k (IsOut-within frames k out) out in
    let le : free_count (set frames k None) ≤ length (set frames k None) = count_by-le-length is_none (set frames k None) in
    omega (arith, length-set frames k None, one, le)

-- a block stands in each frame that isn't free
held : (blocks : List (List ℕ)) (k : ℕ) → k < length blocks → get_or (map Some blocks) k None ≡ Some (get_or blocks k [])
held blocks k lt = get_or-map Some blocks k [] None lt

none_free : (blocks : List (List ℕ)) → free_count (map Some blocks) ≡ 0
none_free [] = refl
none_free (b ∷ bs) = none_free bs

pub length-shown : (blocks : List (List ℕ)) (free : List ℕ) → length (shown blocks free) ≡ length blocks
length-shown blocks free = length-blanked (map Some blocks) free ∙ length-map blocks Some

-- a frame that is out has a number of a block
pub within-shown : (blocks : List (List ℕ)) (free : List ℕ) (k : ℕ) → IsOut (shown blocks free) k → k < length blocks
within-shown blocks free k out = omega (arith, length-shown blocks free, IsOut-within (shown blocks free) k out)

-- and holds that block
pub frame_at-shown : (blocks : List (List ℕ)) (free : List ℕ) (k : ℕ) → IsOut (shown blocks free) k → frame_at (shown blocks free) k ≡ Some (get_or blocks k [])
frame_at-shown blocks free k out =
    get_or-blanked_other (map Some blocks) free k None (apart-from_IsSome (map Some blocks) free k out)
    ∙ held blocks k (within-shown blocks free k out)

-- as many frames are free as the pool has free numbers
pub free_count-shown : (blocks : List (List ℕ)) (free : List ℕ) (capacity : ℕ) → IsPool blocks free capacity → free_count (shown blocks free) ≡ length free
free_count-shown blocks free capacity h =
    let within : All (λ n. n < length (map Some blocks)) free = λ i d lt. omega (arith, length-map blocks Some, h.within i d lt) in
    let out : All (λ n. IsSome (get_or (map Some blocks) n None)) free = λ i d lt. ap is_some (held blocks (get_or free i d) (h.within i d lt)) in
    omega (arith, count_by-blanked (map Some blocks) free within out h.apart, none_free blocks)

-- no two numbers are free twice, and there is room for one more where a frame is out
pub room-shown : (blocks : List (List ℕ)) (free : List ℕ) (capacity k : ℕ) → IsPool blocks free capacity → IsOut (shown blocks free) k → length free < capacity
room-shown blocks free capacity k h out =
    omega (arith, h.room, free_count-lt-length (shown blocks free) k out, free_count-shown blocks free capacity h, length-shown blocks free)

module _ (blocks : List (List ℕ)) (ns : List ℕ) (n capacity : ℕ) where
  front : (i d : ℕ) → i < length ns → get_or (ns ++ n ∷ []) i d ≡ get_or ns i d
  front i d lt = get_or_append_left ns (n ∷ []) d i lt

  long : length (ns ++ n ∷ []) ≡ length ns + 1
  long = length-append ns (n ∷ [])

  -- a number taken from the free ones
  pub IsPool-popped : IsPool blocks (ns ++ n ∷ []) capacity → IsPool blocks ns capacity
  IsPool-popped h = record {
    within = λ i d lt. subst (λ (m : ℕ). m < length blocks) (front i d lt) (h.within i d (omega (arith, long)));
    apart = λ i j d before lt same. h.apart i j d before (omega (arith, long)) (front i d (omega arith) ∙ same ∙ sym (front j d lt));
    room = h.room;
    few = h.few;
  }

  pub last-within : IsPool blocks (ns ++ n ∷ []) capacity → n < length blocks
  last-within h = subst (λ (m : ℕ). m < length blocks) (get_or-append_seam ns n [] 0) (h.within (length ns) 0 (omega (arith, long)))

  last-apart : IsPool blocks (ns ++ n ∷ []) capacity → All (λ m. n ≢ m) ns
  last-apart h = λ i d lt same. h.apart i (length ns) d lt (omega (arith, long)) (front i d lt ∙ sym same ∙ sym (get_or-append_seam ns n [] d))

  -- the frame of that number is out then
  pub IsOut-popped : IsPool blocks (ns ++ n ∷ []) capacity → IsOut (shown blocks ns) n
  IsOut-popped h = ap is_some (get_or-blanked_other (map Some blocks) ns n None (last-apart h) ∙ held blocks n (last-within h))

  -- a number put to the free ones
  pub IsPool-pushed : IsPool blocks ns capacity → IsOut (shown blocks ns) n → IsPool blocks (ns ++ n ∷ []) capacity
  IsPool-pushed h out = record {
    within = All-append (λ m. m < length blocks) ns (n ∷ []) h.within (All-cons (λ m. m < length blocks) n [] (within-shown blocks ns n out) (λ i d lt. absurd (omega arith)));
    apart = all_pairs_push (λ i j. i ≢ j) ns n h.apart (λ k d lt same. apart-from_IsSome (map Some blocks) ns n out k d lt (sym same));
    room = h.room;
    few = h.few;
  }

-- other bytes in a frame that is out
pub shown-set : (blocks : List (List ℕ)) (free : List ℕ) (k : ℕ) (bytes : List ℕ) → IsOut (shown blocks free) k → shown (set blocks k bytes) free ≡ set (shown blocks free) k (Some bytes)
shown-set blocks free k bytes out =
    ap (λ frames. blanked frames free) (map-set Some blocks k bytes) ∙ set-blanked (map Some blocks) free k (Some bytes) (apart-from_IsSome (map Some blocks) free k out)

-- a pool whose numbers are all free
pub IsPool-all : (blocks : List (List ℕ)) (frames capacity : ℕ) → length blocks ≡ frames → frames < 2 ^ 16 → frames ≤ capacity → IsPool blocks (range_with_len 0 frames) capacity
IsPool-all blocks frames capacity e few room = record {
  within = λ i d lt. omega (arith, get_or-range_with_len 0 frames i d (omega (arith, length-range_with_len 0 frames)), length-range_with_len 0 frames);
  apart = λ i j d before lt same. absurd (omega (arith, same, get_or-range_with_len 0 frames i d (omega (arith, length-range_with_len 0 frames)), get_or-range_with_len 0 frames j d (omega (arith, length-range_with_len 0 frames))));
  room = omega arith;
  few = omega arith;
}

pub shown-all : (blocks : List (List ℕ)) (frames : ℕ) → length blocks ≡ frames → shown blocks (range_with_len 0 frames) ≡ replicate frames None
shown-all blocks frames e =
    let same_length : length (shown blocks (range_with_len 0 frames)) ≡ length (replicate frames None) = length-shown blocks (range_with_len 0 frames) ∙ e ∙ sym (length-replicate frames None) in
    ext_get_or None (shown blocks (range_with_len 0 frames)) (replicate frames None) same_length (λ i lt.
    let at : i < frames = omega (arith, length-shown blocks (range_with_len 0 frames)) in
    let number : get_or (range_with_len 0 frames) i 0 ≡ i = get_or-range_with_len 0 frames i 0 at ∙ omega arith in
    ap (λ n. get_or (shown blocks (range_with_len 0 frames)) n None) (sym number)
    ∙ get_or-blanked (map Some blocks) (range_with_len 0 frames) i 0 (omega (arith, length-range_with_len 0 frames))
    ∙ sym (get_or-replicate frames i None None at))

-- a frame that is taken is none of those that are out
pub taken-apart : (old new : List (Option (List ℕ))) (f k : ℕ) → old ≡ set new f None → IsOut old k → k ≢ f
taken-apart old new f k e out same =
    let none : frame_at old k ≡ None = (λ i. frame_at (e i) (same i)) ∙ set_here new f in
    let no : is_some {T = List ℕ} None ≡ true = sym (ap is_some none) ∙ out in
    cc

still_some : (frames : List (Option (List ℕ))) (f k : ℕ) (bytes : List ℕ) → IsOut frames k → IsOut (set frames f (Some bytes)) k
still_some [] f k bytes out = out
still_some (x ∷ xs) zero zero bytes out = refl
still_some (x ∷ xs) zero (suc k) bytes out = out
still_some (x ∷ xs) (suc f) zero bytes out = out
still_some (x ∷ xs) (suc f) (suc k) bytes out = still_some xs f k bytes out

-- what is known of a pool's parts is known of what it shows
module _ (blocks : List (List ℕ)) (free : List ℕ) (frames : List (Option (List ℕ))) (n k : ℕ) (view : shown blocks free ≡ frames) (number : n ≡ k) where
  pub IsOut-inside : IsOut frames k → IsOut (shown blocks free) n
  IsOut-inside out = ap is_some (λ i. frame_at (view i) (number i)) ∙ out

  pub number-within : IsOut frames k → n < length blocks
  number-within out = within-shown blocks free n (IsOut-inside out)

  -- the block of a frame that is out is what the frame holds
  pub frame_at-inside : (bytes : List ℕ) → IsOut frames k → bytes ≡ get_or blocks n bytes → frame_at frames k ≡ Some bytes
  frame_at-inside bytes out e =
      sym (λ i. frame_at (view i) (number i))
      ∙ frame_at-shown blocks free n (IsOut-inside out)
      ∙ ap Some (sym (e ∙ get_or_default blocks n bytes [] (number-within out)))

  -- other bytes in that block are other bytes in the frame
  pub shown-inside : (bytes : List ℕ) → IsOut frames k → shown (set blocks n bytes) free ≡ set frames k (Some bytes)
  shown-inside bytes out = shown-set blocks free n bytes (IsOut-inside out) ∙ (λ i. set (view i) (number i) (Some bytes))

-- no more frames are free than there are
pub free_count-le-length : (frames : List (Option (List ℕ))) → free_count frames ≤ length frames
free_count-le-length frames = count_by-le-length is_none frames

-- the numbers below the next one
pub range_with_len-more : (n : ℕ) → range_with_len 0 (n + 1) ≡ range_with_len 0 n ++ n ∷ []
range_with_len-more n =
    sym (map-id (range_with_len 0 (n + 1))) ∙ map-range_with_len_more (λ k. k) 0 n n (omega arith) ∙ ap (λ xs. xs ++ n ∷ []) (map-id (range_with_len 0 n))

-- the same numbers, and the same room for them
pub IsPool-same : (blocks : List (List ℕ)) (free free' : List ℕ) (capacity capacity' : ℕ) → free ≡ free' → capacity ≡ capacity' → IsPool blocks free capacity → IsPool blocks free' capacity'
IsPool-same blocks free free' capacity capacity' e e' h =
    subst (IsPool blocks free') e' (subst (λ (ns : List ℕ). IsPool blocks ns capacity) e h)

-- a frame that is out stays out when another one is taken
pub IsOut-taken : (old new : List (Option (List ℕ))) (f k : ℕ) → old ≡ set new f None → IsOut old k → IsOut new k
IsOut-taken old new f k e out = ap is_some (sym (get_or-set_other new f k None None (taken-apart old new f k e out)) ∙ sym (ap (λ frames. frame_at frames k) e)) ∙ out

-- and when one is written, itself or another one
pub IsOut-written : (old new : List (Option (List ℕ))) (f k : ℕ) (bytes : List ℕ) → new ≡ set old f (Some bytes) → IsOut old k → IsOut new k
IsOut-written old new f k bytes e out = ap (λ frames. is_some (frame_at frames k)) e ∙ still_some old f k bytes out

-- and when another one is given back
pub IsOut-given : (old new : List (Option (List ℕ))) (f k : ℕ) → new ≡ set old f None → k ≢ f → IsOut old k → IsOut new k
IsOut-given old new f k e apart out = ap is_some (ap (λ frames. frame_at frames k) e ∙ get_or-set_other old f k None None apart) ∙ out
