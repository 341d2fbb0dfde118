-- The text of a page: its header and its body.
use Rattle.std.specs.Prelude.{ℕ, List, [], ◌∷◌, codes}
use Rattle.byteorder.specs.Endian.{big_bytes}
use Rattle.sd_base.specs.Text.{put, number_at, bytes_field, number_field, block_text}

-- the page of a kind that has this number, identifier and body
unfoldable pub page_text : ℕ → ℕ → ℕ → List ℕ → List ℕ
page_text kind page ident body = block_text (
    bytes_field 0 (codes "SDPAGE01") ∷
    bytes_field 8 (kind ∷ []) ∷
    number_field 12 4 page ∷
    number_field 16 8 ident ∷
    bytes_field 64 body ∷ [])

-- the page number in the header of a page
unfoldable pub header_page : List ℕ → ℕ
header_page text = number_at 4 12 text

-- the identifier in the header of a page
unfoldable pub header_ident : List ℕ → ℕ
header_ident text = number_at 8 16 text

-- the page with another identifier
unfoldable pub with_header_ident : ℕ → List ℕ → List ℕ
with_header_ident ident text = put 16 (big_bytes 8 ident) text
