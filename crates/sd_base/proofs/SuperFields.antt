-- What is read of the text of a super.
use Rattle.std.proofs.Common.{◌≡◌, ◌≤◌, ◌+◌, ℕ, Bool, true, false, List, [], ◌∷◌, length, ◌∙◌, arith}
use Rattle.byteorder.specs.Endian.{big_bytes}
use Rattle.sd_base.specs.Text.{put, Field, number_field, zero_block}
use Rattle.sd_base.specs.Shape.{IsShape}
use Rattle.sd_base.specs.Supers.{super_text, magic, HasFields}
use Rattle.sd_base.specs.declared.shape.Shape.{Shape}
use Rattle.sd_base.proofs.TextLaws.{length-big_bytes, length-put, number_at-field}

length-magic : (vault : Bool) → length (put 0 (magic vault) zero_block) ≡ 4096
length-magic true = length-put 0 (magic true) zero_block (omega arith)
length-magic false = length-put 0 (magic false) zero_block (omega arith)

module _ (vault : Bool) (s : Shape) (h : IsShape s) where
  -- the fields from each place on
  abbrev from_birth : List Field
  from_birth = number_field 32 8 s.birth ∷ []

  abbrev from_keep : List Field
  from_keep = number_field 24 4 s.keep ∷ from_birth

  abbrev from_maps : List Field
  from_maps = number_field 20 4 s.maps ∷ from_keep

  abbrev from_ring : List Field
  from_ring = number_field 16 4 s.ring ∷ from_maps

  -- the block with the fields before each place
  abbrev to_nodes : List ℕ
  to_nodes = put 8 (big_bytes 4 1) (put 0 (magic vault) zero_block)

  abbrev to_ring : List ℕ
  to_ring = put 12 (big_bytes 4 s.nodes) to_nodes

  abbrev to_maps : List ℕ
  to_maps = put 16 (big_bytes 4 s.ring) to_ring

  abbrev to_keep : List ℕ
  to_keep = put 20 (big_bytes 4 s.maps) to_maps

  abbrev to_birth : List ℕ
  to_birth = put 24 (big_bytes 4 s.keep) to_keep

  long : (at n x : ℕ) (text : List ℕ) → length text ≡ 4096 → at + n ≤ 4096 → length (put at (big_bytes n x) text) ≡ 4096
  long at n x text len le = length-put at (big_bytes n x) text (omega (arith, length-big_bytes n x)) ∙ len

  pub super_text-fields : HasFields s (super_text vault s)
  unfolding super_text
  super_text-fields =
      let l12 : length to_nodes ≡ 4096 = long 8 4 1 (put 0 (magic vault) zero_block) (length-magic vault) (omega arith) in
      let l16 : length to_ring ≡ 4096 = long 12 4 s.nodes to_nodes l12 (omega arith) in
      let l20 : length to_maps ≡ 4096 = long 16 4 s.ring to_ring l16 (omega arith) in
      let l24 : length to_keep ≡ 4096 = long 20 4 s.maps to_maps l20 (omega arith) in
      let l32 : length to_birth ≡ 4096 = long 24 4 s.keep to_keep l24 (omega arith) in
      record {
        nodes = number_at-field 4 12 s.nodes 4096 to_nodes from_ring l12 (omega arith) (omega (arith, h.nodes))
            ((omega arith, omega arith), ((omega arith, omega arith), ((omega arith, omega arith), ((omega arith, omega arith), tt))));
        ring = number_at-field 4 16 s.ring 4096 to_ring from_maps l16 (omega arith) (omega (arith, h.ring))
            ((omega arith, omega arith), ((omega arith, omega arith), ((omega arith, omega arith), tt)));
        maps = number_at-field 4 20 s.maps 4096 to_maps from_keep l20 (omega arith) (omega (arith, h.maps))
            ((omega arith, omega arith), ((omega arith, omega arith), tt));
        keep = number_at-field 4 24 s.keep 4096 to_keep from_birth l24 (omega arith) (omega (arith, h.keep))
            ((omega arith, omega arith), tt);
        birth = number_at-field 8 32 s.birth 4096 to_birth [] l32 (omega arith) (omega (arith, h.birth)) tt;
      }
