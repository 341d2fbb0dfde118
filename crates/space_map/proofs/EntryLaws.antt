-- What is read of the text of an entry.
use Rattle.std.proofs.Common.{◌≡◌, ◌≤◌, ◌<◌, ◌+◌, ◌^◌, ◌==◌, ℕ, cond, List, [], ◌∷◌, ◌++◌, length, drop, get_or, sym, ◌∙◌, ap, arith, add-zero}
use Rattle.std.proofs.lemmas.List.{append_assoc, drop-drop, drop_at, get_or-drop, length-append}
use Rattle.byteorder.specs.Endian.{big_bytes, big_number}
use Rattle.byteorder.specs.Numbers.{big_number-reads_back}
use Rattle.sd_base.specs.Text.{put, number_at}
use Rattle.sd_base.proofs.TextLaws.{length-big_bytes}
use Rattle.sd_base.proofs.PutLaws.{put-behind}
use Rattle.space_map.specs.declared.map_entry.MapEntry.{MapEntry}
use Rattle.space_map.specs.declared.map_entry.MapEntry.TheVariants.{Free, Used}
use Rattle.space_map.specs.Entry.{IsEntry, fields_text, entry_text, entry_of_text}

module _ (state group ident : ℕ) where
  abbrev head : List ℕ
  head = state ∷ 0 ∷ 0 ∷ 0 ∷ []

  length-front : length (head ++ big_bytes 4 group) ≡ 8
  length-front = length-append head (big_bytes 4 group) ∙ ap (λ n. 4 + n) (length-big_bytes 4 group)

  length-fields_text : length (fields_text state group ident) ≡ 16
  length-fields_text = length-append (head ++ big_bytes 4 group) (big_bytes 8 ident) ∙ omega (arith, length-front, length-big_bytes 8 ident)

  -- the group is read
  group-read : (rest : List ℕ) → group < 2 ^ 32 → number_at 4 4 (fields_text state group ident ++ rest) ≡ group
  group-read rest lt =
      ap (big_number 4) (append_assoc (big_bytes 4 group) (big_bytes 8 ident) rest)
      ∙ big_number-reads_back 4 group (big_bytes 8 ident ++ rest) (omega arith)

  -- the identifier is read
  ident-read : (rest : List ℕ) → ident < 2 ^ 64 → number_at 8 8 (fields_text state group ident ++ rest) ≡ ident
  ident-read rest lt =
      ap (number_at 8 8) (append_assoc (head ++ big_bytes 4 group) (big_bytes 8 ident) rest)
      ∙ ap (big_number 8) (drop_at (head ++ big_bytes 4 group) (big_bytes 8 ident ++ rest) 8 (sym length-front))
      ∙ big_number-reads_back 8 ident rest (omega arith)

  -- the fields of an entry, put one behind another
  pub put-fields : (at : ℕ) (out : List ℕ) → at + 16 ≤ length out → put (at + 8) (big_bytes 8 ident) (put (at + 4) (big_bytes 4 group) (put at head out)) ≡ put at (fields_text state group ident) out
  put-fields at out le =
      let four : length (big_bytes 4 group) ≡ 4 = length-big_bytes 4 group in
      let eight : length (big_bytes 8 ident) ≡ 8 = length-big_bytes 8 ident in
      ap (put (at + 8) (big_bytes 8 ident)) (put-behind at head (big_bytes 4 group) out (omega arith))
      ∙ ap (λ n. put (at + n) (big_bytes 8 ident) (put at (head ++ big_bytes 4 group) out)) (sym length-front)
      ∙ put-behind at (head ++ big_bytes 4 group) (big_bytes 8 ident) out (omega (arith, length-front))

pub length-entry_text : (e : MapEntry) → length (entry_text e) ≡ 16
length-entry_text (Free ident) = length-fields_text 0 0 ident
length-entry_text (Used group ident) = length-fields_text 1 group.0 ident

-- what was written is read
pub entry_of_text-entry_text : (e : MapEntry) (rest : List ℕ) → IsEntry e → entry_of_text (entry_text e ++ rest) ≡ e
entry_of_text-entry_text (Free ident) rest h = ap Free (ident-read 0 0 ident rest (omega arith))
entry_of_text-entry_text (Used group ident) rest h =
    let g : number_at 4 4 (fields_text 1 group.0 ident ++ rest) ≡ group.0 = group-read 1 group.0 ident rest (omega (arith, h.0)) in
    let i : number_at 8 8 (fields_text 1 group.0 ident ++ rest) ≡ ident = ident-read 1 group.0 ident rest (omega (arith, h.1)) in
    λ k. Used (record { 0 = g k }) (i k)

zero_chosen : (n : ℕ) (a b : MapEntry) → n ≡ 0 → cond (n == 0) a b ≡ a
zero_chosen n a b e = grind arith

other_chosen : (n : ℕ) (a b : MapEntry) → ¬ (n ≡ 0) → cond (n == 0) a b ≡ b
other_chosen n a b e = grind arith

state-read : (b : List ℕ) (at : ℕ) → get_or (drop at b) 0 0 ≡ get_or b at 0
state-read b at = get_or-drop at b 0 0 ∙ ap (λ n. get_or b n 0) (add-zero at)

-- what is read at a place whose state is 0
pub entry_of_text-free : (b : List ℕ) (at : ℕ) → get_or b at 0 ≡ 0 → entry_of_text (drop at b) ≡ Free (number_at 8 (at + 8) b)
entry_of_text-free b at e =
    zero_chosen (get_or (drop at b) 0 0) _ _ (state-read b at ∙ e)
    ∙ ap (λ text. Free (big_number 8 text)) (drop-drop 8 at b)

-- what is read at a place whose state is another
pub entry_of_text-used : (b : List ℕ) (at : ℕ) → ¬ (get_or b at 0 ≡ 0) → entry_of_text (drop at b) ≡ Used (record { 0 = number_at 4 (at + 4) b }) (number_at 8 (at + 8) b)
entry_of_text-used b at other =
    let g : number_at 4 4 (drop at b) ≡ number_at 4 (at + 4) b = ap (big_number 4) (drop-drop 4 at b) in
    let i : number_at 8 8 (drop at b) ≡ number_at 8 (at + 8) b = ap (big_number 8) (drop-drop 8 at b) in
    let both : Used (record { 0 = number_at 4 4 (drop at b) }) (number_at 8 8 (drop at b)) ≡ Used (record { 0 = number_at 4 (at + 4) b }) (number_at 8 (at + 8) b) = λ k. Used (record { 0 = g k }) (i k) in
    other_chosen (get_or (drop at b) 0 0) _ _ (λ zero. other (sym (state-read b at) ∙ zero)) ∙ both
