-- What is read in the text of fields.
use Rattle.std.proofs.Common.{◌≡◌, ◌≤◌, ◌<◌, ◌+◌, ◌^◌, ℕ, List, [], ◌∷◌, length, replicate, refl, sym, ◌∙◌, arith}
use Rattle.sd_base.specs.Text.{put, Field, bytes_field, number_field, with_fields}
use Rattle.sd_base.proofs.TextLaws.{length-big_bytes, length-put, number_at-field, StandBehind}
use Rattle.log_record.specs.declared.fields.Fields.{Fields}
use Rattle.log_record.specs.Text.{fields_text}
use Rattle.log_record.specs.Reading.{HasFields}
use Rattle.sd_base.proofs.FieldLaws.{bytes_at-field, byte-field}

-- what stands at the places of a text is one
pub HasFields-same : (f g : Fields) (text : List ℕ) → HasFields f text → HasFields g text → f ≡ g
HasFields-same f g text h k =
    let kind : f.kind ≡ g.kind = sym h.kind ∙ k.kind in
    let place : f.place ≡ g.place = sym h.place ∙ k.place in
    let page : f.page ≡ g.page = sym h.page ∙ k.page in
    let bsi : f.bsi ≡ g.bsi = sym h.bsi ∙ k.bsi in
    let txn : f.txn ≡ g.txn = sym h.txn ∙ k.txn in
    let prev : f.prev ≡ g.prev = sym h.prev ∙ k.prev in
    let extra : f.extra ≡ g.extra = sym h.extra ∙ k.extra in
    let group : f.group ≡ g.group = sym h.group ∙ k.group in
    let before_state : f.before.state ≡ g.before.state = sym h.before_state ∙ k.before_state in
    let before_len : f.before.len ≡ g.before.len = sym h.before_len ∙ k.before_len in
    let after_state : f.after.state ≡ g.after.state = sym h.after_state ∙ k.after_state in
    let after_len : f.after.len ≡ g.after.len = sym h.after_len ∙ k.after_len in
    let before_value : f.before.value ≡ g.before.value = sym h.before_value ∙ k.before_value in
    let after_value : f.after.value ≡ g.after.value = sym h.after_value ∙ k.after_value in
    λ i. record {
      kind = kind i;
      place = place i;
      page = page i;
      bsi = bsi i;
      txn = txn i;
      prev = prev i;
      extra = extra i;
      group = group i;
      before = record { state = before_state i; len = before_len i; value = before_value i };
      after = record { state = after_state i; len = after_len i; value = after_value i };
    }

-- fields that stand behind a place stand behind a lower one
behind_less : (from from' size : ℕ) (fs : List Field) → from ≤ from' → StandBehind from' size fs → StandBehind from size fs
behind_less from from' size [] le h = tt
behind_less from from' size (f ∷ fs) le h = ((omega (arith, h.0.0), h.0.1), behind_less from from' size fs le h.1)

-- fields that can be written: each number has room at its place, and each value fills its place
pub record FitsText (f : Fields) : Type 0 where
  pub page : f.page < 2 ^ 32
  pub bsi : f.bsi < 2 ^ 64
  pub txn : f.txn < 2 ^ 64
  pub prev : f.prev < 2 ^ 64
  pub extra : f.extra < 2 ^ 64
  pub group : f.group < 2 ^ 32
  pub before : length f.before.value ≡ 248
  pub after : length f.after.value ≡ 248

module _ (f : Fields) (h : FitsText f) where
  abbrev states : List ℕ
  states = f.before.state ∷ f.before.len ∷ f.after.state ∷ f.after.len ∷ []

  -- the fields from each place on
  abbrev from_after : List Field
  from_after = bytes_field 296 f.after.value ∷ []

  abbrev from_before : List Field
  from_before = bytes_field 48 f.before.value ∷ from_after

  abbrev from_states : List Field
  from_states = bytes_field 44 states ∷ from_before

  abbrev from_group : List Field
  from_group = number_field 40 4 f.group ∷ from_states

  abbrev from_extra : List Field
  from_extra = number_field 32 8 f.extra ∷ from_group

  abbrev from_prev : List Field
  from_prev = number_field 24 8 f.prev ∷ from_extra

  abbrev from_txn : List Field
  from_txn = number_field 16 8 f.txn ∷ from_prev

  abbrev from_bsi : List Field
  from_bsi = number_field 8 8 f.bsi ∷ from_txn

  abbrev from_page : List Field
  from_page = number_field 4 4 f.page ∷ from_bsi

  -- the text with the fields before each place
  abbrev to_page : List ℕ
  to_page = put 0 (f.kind ∷ f.place ∷ []) (replicate 672 0)

  abbrev to_bsi : List ℕ
  to_bsi = with_fields to_page (number_field 4 4 f.page ∷ [])

  abbrev to_txn : List ℕ
  to_txn = with_fields to_bsi (number_field 8 8 f.bsi ∷ [])

  abbrev to_prev : List ℕ
  to_prev = with_fields to_txn (number_field 16 8 f.txn ∷ [])

  abbrev to_extra : List ℕ
  to_extra = with_fields to_prev (number_field 24 8 f.prev ∷ [])

  abbrev to_group : List ℕ
  to_group = with_fields to_extra (number_field 32 8 f.extra ∷ [])

  abbrev to_states : List ℕ
  to_states = with_fields to_group (number_field 40 4 f.group ∷ [])

  abbrev to_before : List ℕ
  to_before = put 44 states to_states

  abbrev to_after : List ℕ
  to_after = put 48 f.before.value to_before

  long : (at n x : ℕ) (text : List ℕ) → length text ≡ 672 → at + n ≤ 672 → length (with_fields text (number_field at n x ∷ [])) ≡ 672
  long at n x text len le = length-put at (number_field at n x).bytes text (omega (arith, length-big_bytes n x)) ∙ len

  -- the fields of a text are read in it
  pub fields_text-fields : HasFields f (fields_text f)
  unfolding fields_text
  fields_text-fields =
      let l4 : length to_page ≡ 672 = length-put 0 (f.kind ∷ f.place ∷ []) (replicate 672 0) (omega arith) in
      let l8 : length to_bsi ≡ 672 = long 4 4 f.page to_page l4 (omega arith) in
      let l16 : length to_txn ≡ 672 = long 8 8 f.bsi to_bsi l8 (omega arith) in
      let l24 : length to_prev ≡ 672 = long 16 8 f.txn to_txn l16 (omega arith) in
      let l32 : length to_extra ≡ 672 = long 24 8 f.prev to_prev l24 (omega arith) in
      let l40 : length to_group ≡ 672 = long 32 8 f.extra to_extra l32 (omega arith) in
      let l44 : length to_states ≡ 672 = long 40 4 f.group to_group l40 (omega arith) in
      let l48 : length to_before ≡ 672 = length-put 44 states to_states (omega arith) ∙ l44 in
      let l296 : length to_after ≡ 672 = length-put 48 f.before.value to_before (omega (arith, h.before)) ∙ l48 in
      let s296 : StandBehind 296 672 from_after = ((omega arith, omega (arith, h.after)), tt) in
      let s48 : StandBehind 48 672 from_before = ((omega arith, omega (arith, h.before)), behind_less 48 296 672 from_after (omega arith) s296) in
      let s44 : StandBehind 44 672 from_states = ((omega arith, omega arith), behind_less 44 48 672 from_before (omega arith) s48) in
      let s40 : StandBehind 40 672 from_group = ((omega arith, omega arith), behind_less 40 44 672 from_states (omega arith) s44) in
      let s32 : StandBehind 32 672 from_extra = ((omega arith, omega arith), behind_less 32 40 672 from_group (omega arith) s40) in
      let s24 : StandBehind 24 672 from_prev = ((omega arith, omega arith), behind_less 24 32 672 from_extra (omega arith) s32) in
      let s16 : StandBehind 16 672 from_txn = ((omega arith, omega arith), behind_less 16 24 672 from_prev (omega arith) s24) in
      let s8 : StandBehind 8 672 from_bsi = ((omega arith, omega arith), behind_less 8 16 672 from_txn (omega arith) s16) in
      let s2 : StandBehind 2 672 from_page = ((omega arith, omega arith), behind_less 2 8 672 from_bsi (omega arith) s8) in
      record {
        kind = byte-field 2 0 0 672 (f.kind ∷ f.place ∷ []) (replicate 672 0) from_page (omega arith) refl refl (omega arith) s2;
        place = byte-field 2 0 1 672 (f.kind ∷ f.place ∷ []) (replicate 672 0) from_page (omega arith) refl refl (omega arith) s2;
        page = number_at-field 4 4 f.page 672 to_page from_bsi l4 (omega arith) (omega (arith, h.page)) s8;
        bsi = number_at-field 8 8 f.bsi 672 to_bsi from_txn l8 (omega arith) (omega (arith, h.bsi)) s16;
        txn = number_at-field 8 16 f.txn 672 to_txn from_prev l16 (omega arith) (omega (arith, h.txn)) s24;
        prev = number_at-field 8 24 f.prev 672 to_prev from_extra l24 (omega arith) (omega (arith, h.prev)) s32;
        extra = number_at-field 8 32 f.extra 672 to_extra from_group l32 (omega arith) (omega (arith, h.extra)) s40;
        group = number_at-field 4 40 f.group 672 to_group from_states l40 (omega arith) (omega (arith, h.group)) s44;
        before_state = byte-field 4 44 0 672 states to_states from_before (omega arith) refl l44 (omega arith) s48;
        before_len = byte-field 4 44 1 672 states to_states from_before (omega arith) refl l44 (omega arith) s48;
        after_state = byte-field 4 44 2 672 states to_states from_before (omega arith) refl l44 (omega arith) s48;
        after_len = byte-field 4 44 3 672 states to_states from_before (omega arith) refl l44 (omega arith) s48;
        before_value = bytes_at-field 248 48 672 f.before.value to_before from_after (sym h.before) l48 (omega arith) s296;
        after_value = bytes_at-field 248 296 672 f.after.value to_after [] (sym h.after) l296 (omega arith) tt;
      }
