-- Bytes of a text, at the place of a field and beside it.
use Rattle.std.proofs.Common.{◌≡◌, ◌≤◌, ◌<◌, ◌+◌, ℕ, List, [], ◌∷◌, length, get_or, refl, sym, ap, ◌∙◌, arith, rules}
use Rattle.std.proofs.lemmas.List.{same_lists, places}
use Rattle.sd_base.specs.Text.{put, Field, bytes_field, with_fields, bytes_at}
use Rattle.sd_base.proofs.TextLaws.{length-put, StandBehind}

-- bytes put behind others leave them
bytes_at-before : (n at to : ℕ) (bytes text : List ℕ) → at + n ≤ to → to + length bytes ≤ length text → bytes_at n at (put to bytes text) ≡ bytes_at n at text
unfolding put
bytes_at-before n at to bytes text le le' = same_lists _ _ (search (rules, places)) (λ k d h. grind (arith, places))

-- bytes that were put are read
pub bytes_at-here : (n at : ℕ) (bytes text : List ℕ) → n ≡ length bytes → at + n ≤ length text → bytes_at n at (put at bytes text) ≡ bytes
unfolding put
bytes_at-here n at bytes text e le = same_lists _ _ (search (rules, places)) (λ k d h. grind (arith, places))

-- a byte is one of those that are read
byte_at : (n at k : ℕ) (text : List ℕ) → k < n → get_or (bytes_at n at text) k 0 ≡ get_or text (at + k) 0
byte_at n at k text lt = grind (arith, places)

-- fields behind bytes leave them
bytes_at-later : (n at size : ℕ) (text : List ℕ) (fs : List Field) → length text ≡ size → StandBehind (at + n) size fs → bytes_at n at (with_fields text fs) ≡ bytes_at n at text
bytes_at-later n at size text [] len h = refl
bytes_at-later n at size text (f ∷ fs) len h =
    bytes_at-later n at size (put f.place f.bytes text) fs (length-put f.place f.bytes text (omega (arith, h.0.1)) ∙ len) h.1
    ∙ bytes_at-before n at f.place f.bytes text h.0.0 (omega (arith, h.0.1))

-- the bytes of a field are read, whatever fields stand behind it
pub bytes_at-field : (n at size : ℕ) (bytes text : List ℕ) (fs : List Field) → n ≡ length bytes → length text ≡ size → at + n ≤ size → StandBehind (at + n) size fs → bytes_at n at (with_fields text (bytes_field at bytes ∷ fs)) ≡ bytes
bytes_at-field n at size bytes text fs e len le h =
    bytes_at-later n at size (put at bytes text) fs (length-put at bytes text (omega arith) ∙ len) h
    ∙ bytes_at-here n at bytes text e (omega arith)

-- a byte of a field is read
pub byte-field : (n at k size : ℕ) (bytes text : List ℕ) (fs : List Field) → k < n → n ≡ length bytes → length text ≡ size → at + n ≤ size → StandBehind (at + n) size fs → get_or (with_fields text (bytes_field at bytes ∷ fs)) (at + k) 0 ≡ get_or bytes k 0
byte-field n at k size bytes text fs lt e len le h =
    sym (byte_at n at k (with_fields text (bytes_field at bytes ∷ fs)) lt) ∙ ap (λ (read : List ℕ). get_or read k 0) (bytes_at-field n at size bytes text fs e len le h)
