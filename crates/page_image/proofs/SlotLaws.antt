-- What is read of the text of a slot.
use Rattle.std.proofs.Common.{◌≡◌, ◌≤◌, ◌<◌, ◌+◌, ◌-◌, ◌==◌, ℕ, Bool, true, false, cond, Option, Some, None, List, ◌∷◌, ◌++◌, length, take, drop, set, get_or, replicate, min, refl, sym, ◌∙◌, ap, arith, add-zero, ◌↔◌, IsNone, IfSome}
use Rattle.std.proofs.lemmas.List.{append_assoc, drop-drop, drop-replicate, length-take, take_at, get_or-drop}
use Rattle.sd_base.specs.Text.{put}
use Rattle.page_image.specs.Slot.{slot_text, slot_of_text, FitsSlot}

-- what was written is read
pub slot_of_text-slot_text : (content : Option (List ℕ)) (rest : List ℕ) → FitsSlot content → slot_of_text (slot_text content ++ rest) ≡ content
slot_of_text-slot_text None rest fits = refl
slot_of_text-slot_text (Some value) rest fits =
    let zeros : List ℕ = replicate (248 - length value) 0 in
    let short : min (length value) 248 ≡ length value = omega arith in
    ap Some (ap (λ n. take n (value ++ zeros ++ rest)) short ∙ ap (take (length value)) (append_assoc value zeros rest) ∙ take_at value (zeros ++ rest) (length value) refl)

fits_by : (b : Bool) (n : ℕ) (bytes : List ℕ) → FitsSlot (cond b None (Some (take (min n 248) bytes)))
fits_by true n bytes = tt
fits_by false n bytes = omega (arith, length-take (min n 248) bytes)

-- what is read can be written
pub FitsSlot-slot_of_text : (text : List ℕ) → FitsSlot (slot_of_text text)
FitsSlot-slot_of_text text = fits_by _ _ _

-- the text of a slot as it is made: its state, its length and its value put over zeros
pub slot_text-put : (value : List ℕ) → put 4 value (set (set (replicate 252 0) 0 1) 1 (length value)) ≡ slot_text (Some value)
unfolding put
slot_text-put value =
    let text : List ℕ = 1 ∷ length value ∷ replicate 250 0 in
    ap (λ tail. 1 ∷ length value ∷ 0 ∷ 0 ∷ (value ++ tail)) (sym (drop-drop (length value) 4 text) ∙ drop-replicate (length value) 248 0)

-- a value made of at most 248 bytes has these bytes
pub value_from : (r : Option (List ℕ)) (bytes : List ℕ) → (IsNone r ↔ (248 < length bytes)) → IfSome r (λ v. v ≡ bytes) → length bytes ≤ 248 → r ≡ Some bytes
value_from None bytes long same le = let too_long : 248 < length bytes = long.0 refl in absurd (omega arith)
value_from (Some v) bytes long same le = ap Some same

present_by : (state len' len : ℕ) (bytes : List ℕ) → ¬ (state ≡ 0) → len ≡ min len' 248 → cond (state == 0) None (Some (take (min len' 248) bytes)) ≡ Some (take len bytes)
present_by state len' len bytes present e = grind arith

-- what is read at a place where a value stands
pub slot_of_text-present : (b : List ℕ) (at len : ℕ) → ¬ (get_or b at 0 ≡ 0) → len ≡ min (get_or b (at + 1) 0) 248 → slot_of_text (drop at b) ≡ Some (take len (drop (at + 4) b))
slot_of_text-present b at len present e =
    let state : get_or (drop at b) 0 0 ≡ get_or b at 0 = get_or-drop at b 0 0 ∙ ap (λ n. get_or b n 0) (add-zero at) in
    let long : get_or (drop at b) 1 0 ≡ get_or b (at + 1) 0 = get_or-drop at b 1 0 in
    present_by (get_or (drop at b) 0 0) (get_or (drop at b) 1 0) len (drop 4 (drop at b)) (λ none. present (sym state ∙ none)) (e ∙ ap (λ n. min n 248) (sym long))
    ∙ ap (λ rest. Some (take len rest)) (drop-drop 4 at b)
