-- Reading a field of a text.
use Rattle.std.proofs.Common.{◌≡◌, ◌≤◌, ◌<◌, ◌+◌, ◌^◌, ℕ, List, [], ◌∷◌, ◌++◌, length, take, drop, refl, sym, ◌∙◌, ap, arith, append_assoc, subst}
use Rattle.std.proofs.lemmas.List.{drop-append-le, take-append-drop, length-take-le, length-drop, length-append}
use Rattle.std.proofs.Math.Seq.{drop-append_seam}
use Rattle.byteorder.specs.Endian.{big_bytes, big_number}
use Rattle.byteorder.specs.Numbers.{big_from-append, big_number-reads_back, length-bytes_high_first}
use Rattle.sd_base.specs.Text.{put, Field, number_field, with_fields, number_at}

-- a field is as long as its number says
pub length-big_bytes : (n x : ℕ) → length (big_bytes n x) ≡ n
length-big_bytes n x = length-bytes_high_first n x

-- bytes put inside a text leave its length
pub length-put : (at : ℕ) (bytes text : List ℕ) → at + length bytes ≤ length text → length (put at bytes text) ≡ length text
unfolding put
length-put at bytes text le = simp (length-append, length-drop) (omega (arith, length-take-le at text (omega arith)))

-- a number is read in the text that it stands in
number_in : (n at to : ℕ) (text rest : List ℕ) → at + n ≤ to → to ≤ length text → number_at n at (take to text ++ rest) ≡ big_number n (drop at (take to text))
number_in n at to text rest le le' =
    let len : length (take to text) ≡ to = length-take-le to text le' in
    let inside : at ≤ length (take to text) = omega arith in
    let long : n ≤ length (drop at (take to text)) = simp length-drop (omega arith) in
    ap (big_number n) (drop-append-le at (take to text) rest inside) ∙ big_from-append n (drop at (take to text)) rest long

-- bytes put behind a number leave it
pub number_at-before : (n at to : ℕ) (bytes text : List ℕ) → at + n ≤ to → to ≤ length text → number_at n at (put to bytes text) ≡ number_at n at text
unfolding put
number_at-before n at to bytes text le le' =
    ap (number_at n at) (append_assoc (take to text) bytes (drop (to + length bytes) text))
    ∙ number_in n at to text (bytes ++ drop (to + length bytes) text) le le'
    ∙ sym (number_in n at to text (drop to text) le le')
    ∙ ap (number_at n at) (take-append-drop to text)

-- a number that was put is read
pub number_at-here : (n at x : ℕ) (text : List ℕ) → at ≤ length text → x < 256 ^ n → number_at n at (put at (big_bytes n x) text) ≡ x
unfolding put
number_at-here n at x text le lt =
    let len : length (take at text) ≡ at = length-take-le at text le in
    let rest : List ℕ = drop (at + length (big_bytes n x)) text in
    let seam : drop at (take at text ++ (big_bytes n x ++ rest)) ≡ big_bytes n x ++ rest =
    subst (λ (k : ℕ). drop k (take at text ++ (big_bytes n x ++ rest)) ≡ big_bytes n x ++ rest) len (drop-append_seam (take at text) (big_bytes n x ++ rest)) in
    ap (number_at n at) (append_assoc (take at text) (big_bytes n x) rest)
    ∙ ap (big_number n) seam
    ∙ big_number-reads_back n x rest lt

-- each of these fields stands at or behind a place, and within a text of this length
abbrev pub StandBehind : ℕ → ℕ → List Field → Type 0
StandBehind from size [] = Unit {0}
StandBehind from size (f ∷ fs) = ((from ≤ f.place) × (f.place + length f.bytes ≤ size)) × StandBehind from size fs

pub length-with_fields : (size : ℕ) (text : List ℕ) (fs : List Field) → length text ≡ size → StandBehind 0 size fs → length (with_fields text fs) ≡ size
length-with_fields size text [] len h = len
length-with_fields size text (f ∷ fs) len h =
    length-with_fields size (put f.place f.bytes text) fs (length-put f.place f.bytes text (omega (arith, h.0.1)) ∙ len) h.1

-- fields behind a number leave it
pub number_at-later : (n at size : ℕ) (text : List ℕ) (fs : List Field) → length text ≡ size → StandBehind (at + n) size fs → number_at n at (with_fields text fs) ≡ number_at n at text
number_at-later n at size text [] len h = refl
number_at-later n at size text (f ∷ fs) len h =
    number_at-later n at size (put f.place f.bytes text) fs (length-put f.place f.bytes text (omega (arith, h.0.1)) ∙ len) h.1
    ∙ number_at-before n at f.place f.bytes text h.0.0 (omega (arith, h.0.1))

-- the number of a field is read, whatever fields stand behind it
pub number_at-field : (n at x size : ℕ) (text : List ℕ) (fs : List Field) → length text ≡ size → at + n ≤ size → x < 256 ^ n → StandBehind (at + n) size fs → number_at n at (with_fields text (number_field at n x ∷ fs)) ≡ x
number_at-field n at x size text fs len le lt h =
    number_at-later n at size (put at (big_bytes n x) text) fs (length-put at (big_bytes n x) text (omega (arith, length-big_bytes n x)) ∙ len) h
    ∙ number_at-here n at x text (omega arith) lt
