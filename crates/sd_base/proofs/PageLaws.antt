-- What is read of the text of a page, and how its parts are changed.
use Rattle.std.proofs.Common.{◌≡◌, ◌≤◌, ◌<◌, ◌+◌, ◌^◌, ℕ, List, [], ◌∷◌, ◌++◌, length, drop, replicate, refl, sym, ◌∙◌, ap, arith, codes}
use Rattle.std.proofs.lemmas.List.{drop-drop, drop-replicate, drop_all, append-nil}
use Rattle.byteorder.specs.Endian.{big_bytes}
use Rattle.sd_base.specs.Text.{put, zero_block, bytes_field, number_field}
use Rattle.sd_base.specs.Page.{page_text, header_page, header_ident, with_header_ident}
use Rattle.sd_base.proofs.TextLaws.{length-big_bytes, length-put, number_at-field}
use Rattle.sd_base.proofs.PutLaws.{put-put, put-within, put_comm, put-behind, put_same, drop-put, drop-put_before}

module _ (kind page : ℕ) where
  -- the block with what stands before the page number, the identifier and the body
  abbrev to_page : List ℕ
  to_page = put 8 (kind ∷ []) (put 0 (codes "SDPAGE01") zero_block)

  abbrev to_ident : List ℕ
  to_ident = put 12 (big_bytes 4 page) to_page

  abbrev to_body : ℕ → List ℕ
  to_body ident = put 16 (big_bytes 8 ident) to_ident

  long : (at n x : ℕ) (text : List ℕ) → length text ≡ 4096 → at + n ≤ 4096 → length (put at (big_bytes n x) text) ≡ 4096
  long at n x text len le = length-put at (big_bytes n x) text (omega (arith, length-big_bytes n x)) ∙ len

  length-to_page : length to_page ≡ 4096
  length-to_page =
      let first : length (put 0 (codes "SDPAGE01") zero_block) ≡ 4096 = length-put 0 (codes "SDPAGE01") zero_block (omega arith) in
      length-put 8 (kind ∷ []) (put 0 (codes "SDPAGE01") zero_block) (omega arith) ∙ first

  length-to_ident : length to_ident ≡ 4096
  length-to_ident = long 12 4 page to_page length-to_page (omega arith)

  length-to_body : (ident : ℕ) → length (to_body ident) ≡ 4096
  length-to_body ident = long 16 8 ident to_ident length-to_ident (omega arith)

  -- a header alone is a page with no body
  pub page_text-nil : (ident : ℕ) → page_text kind page ident [] ≡ put 16 (big_bytes 8 ident) (put 12 (big_bytes 4 page) (put 8 (kind ∷ []) (put 0 (codes "SDPAGE01") zero_block)))
  unfolding page_text
  page_text-nil ident = put_same 64 [] (drop 64 (to_body ident)) (to_body ident) refl

  -- behind the header stand zeros until a body is put there
  drop-to_body : (ident : ℕ) → drop 64 (to_body ident) ≡ replicate 4032 0
  drop-to_body ident =
      let first : length (put 0 (codes "SDPAGE01") zero_block) ≡ 4096 = length-put 0 (codes "SDPAGE01") zero_block (omega arith) in
      drop-put_before 16 64 (big_bytes 8 ident) to_ident (omega (arith, length-big_bytes 8 ident)) (omega (arith, length-to_ident, length-big_bytes 8 ident))
      ∙ drop-put_before 12 64 (big_bytes 4 page) to_page (omega (arith, length-big_bytes 4 page)) (omega (arith, length-to_page, length-big_bytes 4 page))
      ∙ drop-put_before 8 64 (kind ∷ []) (put 0 (codes "SDPAGE01") zero_block) (omega arith) (omega arith)
      ∙ drop-put_before 0 64 (codes "SDPAGE01") zero_block (omega arith) (omega arith)
      ∙ drop-replicate 64 4096 0

  -- a body of zeros is none
  pub page_text-zeros : (ident : ℕ) → page_text kind page ident (replicate 4032 0) ≡ page_text kind page ident []
  unfolding page_text
  page_text-zeros ident =
      put_same 64 (replicate 4032 0) [] (to_body ident) (drop-to_body ident ∙ sym (append-nil (replicate 4032 0)))
      ∙ sym (page_text-nil ident)

  pub length-page_text : (ident : ℕ) (body : List ℕ) → length body ≤ 4032 → length (page_text kind page ident body) ≡ 4096
  unfolding page_text
  length-page_text ident body le = length-put 64 body (to_body ident) (omega (arith, length-to_body ident)) ∙ length-to_body ident

  -- the page number is read
  pub header_page-page_text : (ident : ℕ) (body : List ℕ) → page < 2 ^ 32 → length body ≤ 4032 → header_page (page_text kind page ident body) ≡ page
  unfolding page_text header_page
  header_page-page_text ident body lt le =
      number_at-field 4 12 page 4096 to_page (number_field 16 8 ident ∷ bytes_field 64 body ∷ []) length-to_page (omega arith) (omega arith)
      ((omega arith, omega arith), ((omega arith, omega arith), tt))

  -- the identifier is read
  pub header_ident-page_text : (ident : ℕ) (body : List ℕ) → ident < 2 ^ 64 → length body ≤ 4032 → header_ident (page_text kind page ident body) ≡ ident
  unfolding page_text header_ident
  header_ident-page_text ident body lt le =
      number_at-field 8 16 ident 4096 to_ident (bytes_field 64 body ∷ []) length-to_ident (omega arith) (omega arith)
      ((omega arith, omega arith), tt)

  -- behind the header stands the body
  pub drop-page_text : (ident i : ℕ) (body : List ℕ) → length body ≡ 4032 → drop (64 + i) (page_text kind page ident body) ≡ drop i body
  unfolding page_text
  drop-page_text ident i body len =
      let rest : drop (64 + length body) (to_body ident) ≡ [] = drop_all (64 + length body) (to_body ident) (omega (arith, length-to_body ident)) in
      sym (drop-drop i 64 (put 64 body (to_body ident)))
      ∙ ap (drop i) (drop-put 64 body (to_body ident) (omega (arith, length-to_body ident)) ∙ ap (λ tail. body ++ tail) rest ∙ append-nil body)

  -- bytes put within the body
  pub put-in_body : (ident i : ℕ) (bytes body : List ℕ) → i + length bytes ≤ length body → length body ≤ 4032 → put (64 + i) bytes (page_text kind page ident body) ≡ page_text kind page ident (put i bytes body)
  unfolding page_text
  put-in_body ident i bytes body le le' = put-within 64 i bytes body (to_body ident) le (omega (arith, length-to_body ident))

  -- bytes put behind the body
  pub put-behind_body : (ident i : ℕ) (bytes body : List ℕ) → i ≡ length body → i + length bytes ≤ 4032 → put (64 + i) bytes (page_text kind page ident body) ≡ page_text kind page ident (body ++ bytes)
  unfolding page_text
  put-behind_body ident i bytes body e le =
      ap (λ n. put (64 + n) bytes (put 64 body (to_body ident))) e
      ∙ put-behind 64 body bytes (to_body ident) (omega (arith, length-to_body ident))

  -- the page with another identifier
  pub with_header_ident-page_text : (ident new : ℕ) (body : List ℕ) → length body ≤ 4032 → with_header_ident new (page_text kind page ident body) ≡ page_text kind page new body
  unfolding page_text with_header_ident
  with_header_ident-page_text ident new body le =
      sym (put_comm 16 64 (big_bytes 8 new) body (to_body ident) (omega (arith, length-big_bytes 8 new)) (omega (arith, length-to_body ident)))
      ∙ ap (put 64 body) (put-put 16 (big_bytes 8 ident) (big_bytes 8 new) to_ident (length-big_bytes 8 ident ∙ sym (length-big_bytes 8 new)) (omega (arith, length-to_ident, length-big_bytes 8 ident)))
