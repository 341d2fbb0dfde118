-- A store as it is formatted.
use Rattle.std.specs.Prelude.{◌≡◌, ℕ, true, false, Option, Some, None, option_map, replicate, slice_index_or, refl}
use Rattle.std.specs.List.{position, range_with_len}
use Rattle.std.proofs.Common.{arith, ap, sym, ◌∙◌}
use Rattle.std.proofs.lemmas.List.{get_or-replicate, length-replicate}
use Rattle.std.proofs.lemmas.List.Quantifiers.{position-Some}
use Rattle.std.proofs.lemmas.List.Sums.{sum_by-le}
use Rattle.sd_base.specs.Shape.{IsShape, pages_per_map}
use Rattle.sd_base.specs.declared.shape.Shape.{Shape}
use Rattle.sd_base.specs.Places.{group_of, map_of_key, page_of_place}
use Rattle.space_map.specs.declared.map_entry.MapEntry.TheVariants.{Free}
use Rattle.space_map.specs.Entry.{ident_of, is_used_by}
use Rattle.record_locks.proofs.CompatibleLaws.{IsCompatible-empty}
use Rattle.record_machine.specs.Machine.{formatted, home}
use Rattle.record_machine.specs.Meaning.{Means, born}

-- no group has a page
no_home : (s : Shape) (key : ℕ) → home (formatted s) key ≡ None
no_home s key = ap (option_map (page_of_place s (map_of_key s key))) (by (position (is_used_by (group_of key)) (replicate pages_per_map (Free s.birth))) refl)
  where
    by : (o : Option ℕ) → position (is_used_by (group_of key)) (replicate pages_per_map (Free s.birth)) ≡ o → position (is_used_by (group_of key)) (replicate pages_per_map (Free s.birth)) ≡ None
    by None is = is
    by (Some i) is =
        let at = position-Some (is_used_by (group_of key)) (replicate pages_per_map (Free s.birth)) i (Free s.birth) is in
        let low = at.0 in
        let here : is_used_by (group_of key) (slice_index_or (replicate pages_per_map (Free s.birth)) i (Free s.birth)) ≡ false = ap (is_used_by (group_of key)) (get_or-replicate pages_per_map i (Free s.birth) (Free s.birth) (omega (arith, low, length-replicate pages_per_map (Free s.birth)))) in
        let never : true ≡ false = sym at.1 ∙ here in
        cc

pub means_formatted : (s : Shape) → IsShape s → Means (born s) (formatted s)
means_formatted s valid = record {
  pages = record {
    shape = valid;
    count = λ x low. length-replicate pages_per_map (Free s.birth);
    map_number = λ x low. refl;
    number = λ x low high. refl;
    entries = λ x low. refl;
    map_ident = λ x low. refl;
    ident = λ x low high. refl;
    alive = λ map place low small. let here = ap ident_of (get_or-replicate pages_per_map place (Free s.birth) (Free 0) small) in omega (arith, here);
    unused = λ map place ident low small is.
        let here : Free s.birth ≡ Free ident = sym (get_or-replicate pages_per_map place (Free s.birth) (Free 0) small) ∙ is in
        ((let same : s.birth ≡ ident = cc in same), refl);
    present = λ key x is. let never : None ≡ Some x = sym (no_home s key) ∙ is in cc;
    absent = λ key none. refl;
  };
  logs = record { tail = λ n. refl; deeds = λ n. tt; rising = λ n i j d lt low. absurd (omega (arith, low)); homes = λ t k d low. absurd (omega (arith, low)) };
  locked = record { apart = IsCompatible-empty; written = λ t key is. cc };
  tops = λ x low high. let none = sum_by-le (λ n. 0) 0 (range_with_len 1 s.nodes) (λ k d within. omega arith) in let birth = valid.birth in omega (arith, none, birth);
}
