-- What a write is refused for, by the tests that it failed.
use Rattle.std.specs.Prelude.{◌≡◌, ◌⊎◌, ◌^◌, ◌∷◌, [], ℕ, Bool, true, false, nat_le, nat_lt, List, Option, Some, None, Err, IfNone, IfSome, length, if◌then◌else◌, refl}
use Rattle.std.specs.List.{position}
use Rattle.std.proofs.Common.{arith, inl, inr, subst}
use Rattle.std.proofs.lemmas.Bool.Decides.{nat_tests}
use Rattle.sd_base.specs.declared.device.NodeId.{NodeId}
use Rattle.sd_base.specs.declared.names.Key.{Key}
use Rattle.sd_base.specs.declared.names.PageNo.{PageNo}
use Rattle.sd_base.specs.Places.{map_of_key, slot_of_key}
use Rattle.page_image.specs.declared.page_view.PageView.{PageView}
use Rattle.space_map.specs.Entry.{is_free}
use Rattle.space_map.specs.Image.{MapImage}
use Rattle.compensation.specs.Inverse.{content}
use Rattle.script_text.specs.declared.reply.Reply.{Reply}
use Rattle.script_text.specs.declared.reply.Reply.TheVariants as says
use Rattle.record_machine.specs.Commands.{first_of, joined, where_so}
use Rattle.txn_core.specs.declared.change.Change.{Change}
use Rattle.txn_core.specs.declared.change.Change.TheVariants.{Put, Append, Delete}
use Rattle.store_nodes.specs.declared.store.Store.{Store}
use Rattle.store_nodes.specs.Known.{checked, no_room}
use Rattle.store_nodes.specs.Nodes.{node_at}
use Rattle.store_nodes.specs.Pages.{ShowsData, ShowsMap, room_in}
use Rattle.store_commands.specs.Changing.{length_refusal, new_place, place_or}
use Rattle.store_commands.specs.Reasons.{HasNoPage, IsFoundIn, IsPageFor, IsWriteRefusal}

module _ (c : Store) (n : NodeId) (key : Key) (what : Change) where
  -- why a record of a cached data page isn't changed
  pub write_refused : (x : PageNo) (v : PageView) (need : ℕ) (why : Reply) → IsPageFor c.shape key x → ShowsData c n.0 x v → (need ≡ 2) ⊎ ((need ≡ 3) × HasNoPage c n.0 key)
      → checked (first_of (where_so (nat_le (2 ^ 63) v.ident) (says.Limit x) ∷ length_refusal what (content v (slot_of_key key.0)) ∷ no_room c n need ∷ [])) ≡ Err why → IsWriteRefusal c n.0 key what why
  write_refused x v need why page shows needs is = by (nat_le (2 ^ 63) v.ident) (length_refusal what (content v (slot_of_key key.0))) (nat_lt (room_in (node_at c.nodes n.0)) need) refl refl refl is
    where
      too_long : (how : Change) (other : Reply) → length_refusal how (content v (slot_of_key key.0)) ≡ Some other → IsWriteRefusal c n.0 key how other
      too_long (Put value) other is = cc
      too_long (Append bytes) other is = by_test (nat_lt 248 (length (joined (content v (slot_of_key key.0)) bytes))) refl is
        where
          len : ℕ
          len = length (joined (content v (slot_of_key key.0)) bytes)

          by_test : (t : Bool) → nat_lt 248 len ≡ t → where_so t (says.TooLong len) ≡ Some other → IsWriteRefusal c n.0 key (Append bytes) other
          by_test true long so = let same : says.TooLong len ≡ other = cc in subst (IsWriteRefusal c n.0 key (Append bytes)) same (x, page, v, shows, rw long refl)
          by_test false long so = cc
      too_long Delete other is = cc

      by : (a : Bool) (o : Option Reply) (b : Bool) → nat_le (2 ^ 63) v.ident ≡ a → length_refusal what (content v (slot_of_key key.0)) ≡ o → nat_lt (room_in (node_at c.nodes n.0)) need ≡ b → checked (first_of (where_so a (says.Limit x) ∷ o ∷ where_so b (says.LogFull need (room_in (node_at c.nodes n.0))) ∷ [])) ≡ Err why → IsWriteRefusal c n.0 key what why
      by true o b high long small is = let same : says.Limit x ≡ why = cc in subst (IsWriteRefusal c n.0 key what) same (page, inr (v, shows, grind (arith, nat_tests, high)))
      by false (Some other) b high long small is = let same : other ≡ why = cc in subst (IsWriteRefusal c n.0 key what) same (too_long what other long)
      by false None true high long small is = let same : says.LogFull need (room_in (node_at c.nodes n.0)) ≡ why = cc in subst (IsWriteRefusal c n.0 key what) same (needs, refl, grind (arith, nat_tests, small))
      by false None false high long small is = cc

  -- why a group gets no place of its map page
  pub place_refused : (map : PageNo) (image : MapImage) (why : Reply) → map.0 ≡ map_of_key c.shape key.0 → ShowsMap c n.0 map image → HasNoPage c n.0 key → new_place map image ≡ Err why → IsWriteRefusal c n.0 key what why
  place_refused map image why at shows page is = by (nat_le (2 ^ 63) image.ident) (position is_free image.entries) refl refl is
    where
      by : (b : Bool) (o : Option ℕ) → nat_le (2 ^ 63) image.ident ≡ b → position is_free image.entries ≡ o → place_or (if b then says.Limit map else says.NoSpace map) o ≡ Err why → IsWriteRefusal c n.0 key what why
      by true None high none is = let same : says.Limit map ≡ why = cc in subst (IsWriteRefusal c n.0 key what) same (inl at, inl (image, shows, grind (arith, nat_tests, high)))
      by false None high none is = let same : says.NoSpace map ≡ why = cc in subst (IsWriteRefusal c n.0 key what) same (at, (image, shows, none), page)
      by b (Some place) high none is = cc

  -- and why a record isn't written into the page of a place that it would get
  pub new_refused : (map : PageNo) (image : MapImage) (x : PageNo) (v : PageView) (why : Reply) → map.0 ≡ map_of_key c.shape key.0 → ShowsMap c n.0 map image → HasNoPage c n.0 key → IsPageFor c.shape key x → ShowsData c n.0 x v
      → checked (first_of (where_so (nat_le (2 ^ 63) image.ident) (says.Limit map) ∷ where_so (nat_le (2 ^ 63) v.ident) (says.Limit x) ∷ length_refusal what (content v (slot_of_key key.0)) ∷ no_room c n 3 ∷ [])) ≡ Err why → IsWriteRefusal c n.0 key what why
  new_refused map image x v why at has_map none page shows is = by (nat_le (2 ^ 63) image.ident) refl is
    where
      by : (b : Bool) → nat_le (2 ^ 63) image.ident ≡ b → checked (first_of (where_so b (says.Limit map) ∷ where_so (nat_le (2 ^ 63) v.ident) (says.Limit x) ∷ length_refusal what (content v (slot_of_key key.0)) ∷ no_room c n 3 ∷ [])) ≡ Err why → IsWriteRefusal c n.0 key what why
      by true high is = let same : says.Limit map ≡ why = cc in subst (IsWriteRefusal c n.0 key what) same (inl at, inl (image, has_map, grind (arith, nat_tests, high)))
      by false high is = write_refused x v 3 why page shows (inr (refl, none)) is

-- what is found where the group's page is cached, if it has one
pub found_in : (c : Store) (n : ℕ) (key : Key) (home : Option PageNo) (found : Option (List ℕ)) → IfNone home (HasNoPage c n key) → IfSome home (IsPageFor c.shape key)
    → IfNone home (found ≡ None) → IfSome home (λ x. (v : PageView) → ShowsData c n x v → found ≡ content v (slot_of_key key.0)) → IfSome home (λ x. (v : PageView) × ShowsData c n x v) → IsFoundIn c n key found
found_in c n key None found no_page page none some there = inl (none, no_page)
found_in c n key (Some x) found no_page page none some there = inr (x, page, there.0, there.1, some there.0 there.1)
