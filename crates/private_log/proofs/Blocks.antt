-- What is read of the text of a log block, and what is put into it.
use Rattle.std.proofs.Common.{◌≡◌, ◌≢◌, ◌≤◌, ◌<◌, ◌+◌, ◌*◌, ◌^◌, ℕ, List, [], ◌∷◌, ◌++◌, length, take, drop, get_or, codes, refl, sym, ◌∙◌, ap, arith}
use Rattle.std.specs.List.{concat}
use Rattle.std.proofs.lemmas.List.{length-append, length-take-le, length-drop, take-append-drop, drop-drop, append-nil, append_assoc}
use Rattle.std.proofs.lemmas.List.Folds.{concat-append}
use Rattle.sd_base.specs.Text.{put, bytes_field, number_field, with_fields, zero_block, number_at, bytes_at}
use Rattle.sd_base.proofs.TextLaws.{length-put, length-big_bytes, number_at-field, StandBehind}
use Rattle.sd_base.proofs.PutLaws.{put-within, put_comm, put-behind, drop-put}
use Rattle.sd_base.proofs.FieldLaws.{bytes_at-field, byte-field}
use Rattle.private_log.specs.LogBlock.{log_header, log_block, AreRecords, FitsBlock}
use Rattle.private_log.proofs.Records.{length-concat, concat-one, concat-at, parts_of}

-- a block is its header and its records
pub log_block-parts : (node number : ℕ) (records : List (List ℕ)) → log_block node number records ≡ put 64 (concat records) (log_header node number (length records))
unfolding log_block log_header
log_block-parts node number records = refl

-- no bytes put anywhere
put-nothing : (at : ℕ) (text : List ℕ) → put at [] text ≡ text
unfolding put
put-nothing at text = ap (λ n. take at text ++ [] ++ drop n text) (omega arith) ∙ (append_assoc (take at text) [] (drop at text) ∙ take-append-drop at text)

-- the header up to each of its fields
abbrev to_node : List ℕ
to_node = put 0 (codes "SDLOGBLK") zero_block

abbrev to_number : ℕ → ℕ → List ℕ
to_number node count = put 8 (node ∷ count ∷ []) to_node

length-to_node : length to_node ≡ 4096
length-to_node = length-put 0 (codes "SDLOGBLK") zero_block (omega arith)

length-to_number : (node count : ℕ) → length (to_number node count) ≡ 4096
length-to_number node count = length-put 8 (node ∷ count ∷ []) to_node (omega (arith, length-to_node)) ∙ length-to_node

pub length-log_header : (node number count : ℕ) → length (log_header node number count) ≡ 4096
unfolding log_header
length-log_header node number count =
    length-put 16 (number_field 16 8 number).bytes (to_number node count) (omega (arith, length-to_number node count, length-big_bytes 8 number)) ∙ length-to_number node count

-- a block without records is its header
pub log_block-none : (node number : ℕ) → log_header node number 0 ≡ log_block node number []
log_block-none node number = sym (put-nothing 64 (log_header node number 0)) ∙ sym (log_block-parts node number [])

-- the header with another count
log_header-count : (node number count more : ℕ) → put 9 (more ∷ []) (log_header node number count) ≡ log_header node number more
unfolding log_header put
log_header-count node number count more =
    let digits : List ℕ = (number_field 16 8 number).bytes in
    let eight : length digits ≡ 8 = length-big_bytes 8 number in
    sym (put_comm 9 16 (more ∷ []) digits (to_number node count) (omega arith) (omega (arith, length-to_number node count)))
    ∙ ap (put 16 digits) (put-within 8 1 (more ∷ []) (node ∷ count ∷ []) to_node (omega arith) (omega (arith, length-to_node)))

-- one more record behind those of a block
pub log_block-push : (node number count : ℕ) (records : List (List ℕ)) (text : List ℕ) → AreRecords records → length records ≡ count → count < 6 → length text ≡ 672
    → put (64 + 672 * count) text (put 9 ((count + 1) ∷ []) (log_block node number records)) ≡ log_block node number (records ++ text ∷ [])
log_block-push node number count records text h e lt long =
    let joined : List ℕ = concat records in
    let len : length joined ≡ 672 * count = length-concat 672 records h ∙ ap (λ n. 672 * n) e in
    let header : List ℕ = log_header node number (count + 1) in
    let head : length header ≡ 4096 = length-log_header node number (count + 1) in
    let counted : put 9 ((count + 1) ∷ []) (log_block node number records) ≡ put 64 joined header =
    ap (put 9 ((count + 1) ∷ [])) (log_block-parts node number records)
    ∙ (sym (put_comm 9 64 ((count + 1) ∷ []) joined (log_header node number (length records)) (omega arith) (omega (arith, length-log_header node number (length records))))
    ∙ ap (put 64 joined) (log_header-count node number (length records) (count + 1))) in
    let behind : put (64 + 672 * count) text (put 64 joined header) ≡ put 64 (joined ++ text) header =
    ap (λ n. put (64 + n) text (put 64 joined header)) (sym len) ∙ put-behind 64 joined text header (omega arith) in
    let all : joined ++ text ≡ concat (records ++ text ∷ []) = ap (λ rest. joined ++ rest) (sym (append-nil text)) ∙ sym (concat-append records (text ∷ [])) in
    let more : count + 1 ≡ length (records ++ text ∷ []) = ap (λ n. n + 1) (sym e) ∙ sym (length-append records (text ∷ [])) in
    ap (put (64 + 672 * count) text) counted
    ∙ (behind
    ∙ (ap (λ bytes. put 64 bytes header) all
    ∙ (ap (λ n. put 64 (concat (records ++ text ∷ [])) (log_header node number n)) more
    ∙ sym (log_block-parts node number (records ++ text ∷ [])))))

module _ (node number : ℕ) (records : List (List ℕ)) (f : FitsBlock number records) where
  abbrev count : ℕ
  count = length records

  abbrev from_records : List Rattle.sd_base.specs.Text.Field
  from_records = bytes_field 64 (concat records) ∷ []

  abbrev from_number : List Rattle.sd_base.specs.Text.Field
  from_number = number_field 16 8 number ∷ from_records

  abbrev from_node : List Rattle.sd_base.specs.Text.Field
  from_node = bytes_field 8 (node ∷ count ∷ []) ∷ from_number

  length-joined : length (concat records) ≡ 672 * count
  length-joined = length-concat 672 records f.texts

  behind_node : StandBehind 8 4096 from_node
  behind_node = ((omega arith, omega arith), ((omega arith, omega (arith, length-big_bytes 8 number)), ((omega arith, omega (arith, length-joined, f.most)), tt)))

  abbrev below_records : List ℕ
  below_records = put 16 (number_field 16 8 number).bytes (to_number node count)

  length-below : length below_records ≡ 4096
  length-below = length-put 16 (number_field 16 8 number).bytes (to_number node count) (omega (arith, length-to_number node count, length-big_bytes 8 number)) ∙ length-to_number node count

  pub log_block-number : number_at 8 16 (log_block node number records) ≡ number
  unfolding log_block
  log_block-number = number_at-field 8 16 number 4096 (to_number node count) from_records (length-to_number node count) (omega arith) (omega (arith, f.below)) ((omega arith, omega (arith, length-joined, f.most)), tt)

  pub log_block-count : get_or (log_block node number records) 9 0 ≡ count
  unfolding log_block
  log_block-count = byte-field 2 8 1 4096 (node ∷ count ∷ []) to_node from_number (omega arith) refl length-to_node (omega arith) ((omega arith, omega (arith, length-big_bytes 8 number)), ((omega arith, omega (arith, length-joined, f.most)), tt))

  pub log_block-first : get_or (log_block node number records) 0 0 ≡ 83
  unfolding log_block
  log_block-first = byte-field 8 0 0 4096 (codes "SDLOGBLK") zero_block from_node (omega arith) refl refl (omega arith) behind_node

  pub log_block-joined : bytes_at (672 * count) 64 (log_block node number records) ≡ concat records
  unfolding log_block
  log_block-joined = bytes_at-field (672 * count) 64 4096 (concat records) below_records [] (sym length-joined) length-below (omega (arith, f.most)) tt

-- a log block isn't zeros
pub log_block-some : (node number : ℕ) (records : List (List ℕ)) → FitsBlock number records → log_block node number records ≢ zero_block
log_block-some node number records f e =
    let first : 0 ≡ 83 = ap (λ (b : List ℕ). get_or b 0 0) (sym e) ∙ log_block-first node number records f in
    absurd (omega (arith, first))

-- a log block has one number and one list of records
pub log_block-one : (node n m : ℕ) (xs ys : List (List ℕ)) → FitsBlock n xs → FitsBlock m ys → log_block node n xs ≡ log_block node m ys → (n ≡ m) × (xs ≡ ys)
log_block-one node n m xs ys f g e =
    let number : n ≡ m = sym (log_block-number node n xs f) ∙ (ap (number_at 8 16) e ∙ log_block-number node m ys g) in
    let count : length xs ≡ length ys = sym (log_block-count node n xs f) ∙ (ap (λ (b : List ℕ). get_or b 9 0) e ∙ log_block-count node m ys g) in
    let joined : concat xs ≡ concat ys = sym (log_block-joined node n xs f) ∙ (ap (bytes_at (672 * length xs) 64) e ∙ (ap (λ k. bytes_at (672 * k) 64 (log_block node m ys)) count ∙ log_block-joined node m ys g)) in
    (number, concat-one 672 xs ys f.texts g.texts count joined)

-- the record at a place of a block
pub log_block-record : (node number i : ℕ) (records : List (List ℕ)) → FitsBlock number records → i < length records → bytes_at 672 (64 + 672 * i) (log_block node number records) ≡ get_or records i []
log_block-record node number i records f lt =
    let joined : List ℕ = concat records in
    let header : List ℕ = log_header node number (length records) in
    let len : length joined ≡ 672 * length records = length-concat 672 records f.texts in
    let fits : 64 + length joined ≤ length header = omega (arith, f.most, length-log_header node number (length records)) in
    let seen : drop 64 (log_block node number records) ≡ joined ++ drop (64 + length joined) header =
    ap (drop 64) (log_block-parts node number records) ∙ drop-put 64 joined header fits in
    ap (take 672) (sym (drop-drop (672 * i) 64 (log_block node number records)) ∙ ap (drop (672 * i)) seen)
    ∙ concat-at 672 i records (drop (64 + length joined) header) f.texts lt

-- the block that has this header and these bytes behind it
pub log_block-parsed : (node number count : ℕ) (text : List ℕ) → length text ≡ 4096 → number < 2 ^ 56 → 1 ≤ count → count ≤ 6 → put 64 (bytes_at (672 * count) 64 text) (log_header node number count) ≡ text
    → (records : List (List ℕ)) × FitsBlock number records × (length records ≡ count) × (text ≡ log_block node number records)
log_block-parsed node number count text len below some most same =
    let bytes : List ℕ = bytes_at (672 * count) 64 text in
    let long : length bytes ≡ 672 * count = length-take-le (672 * count) (drop 64 text) (omega (arith, length-drop 64 text)) in
    let p = parts_of 672 count bytes long in (
      p.texts,
      record { some = omega (arith, p.count); most = omega (arith, p.count); texts = p.long; below = below },
      p.count,
      sym same ∙ (ap (λ b. put 64 b (log_header node number count)) (sym p.joined) ∙ (ap (λ n. put 64 (concat p.texts) (log_header node number n)) (sym p.count) ∙ sym (log_block-parts node number p.texts))),
    )

-- a block that has the header and the bytes of a log block is that
pub log_block-again : (node number : ℕ) (records : List (List ℕ)) (text : List ℕ) → FitsBlock number records → text ≡ log_block node number records
    → put 64 (bytes_at (672 * length records) 64 text) (log_header node number (length records)) ≡ text
log_block-again node number records text f is =
    ap (λ t. put 64 (bytes_at (672 * length records) 64 t) (log_header node number (length records))) is
    ∙ (ap (λ b. put 64 b (log_header node number (length records))) (log_block-joined node number records f) ∙ (sym (log_block-parts node number records) ∙ sym is))
