-- What a command finds in memory needs no device call.
use Rattle.std.specs.Prelude.{◌≡◌, ◌+◌, ◌%◌, ◌<◌, ℕ, true, Option, Some, None, Ok, IfSome, option_map, refl}
use Rattle.std.specs.List.{position}
use Rattle.std.proofs.Common.{arith, subst, sym}
use Rattle.sd_base.specs.declared.names.PageNo.{PageNo}
use Rattle.sd_base.specs.Places.{map_of_key}
use Rattle.space_map.specs.Entry.{is_free}
use Rattle.space_map.specs.Image.{MapImage}
use Rattle.store_nodes.specs.declared.node.Node.{Node}
use Rattle.store_nodes.specs.declared.node.Node.TheVariants.{Down, Idle, Up}
use Rattle.store_nodes.specs.declared.store.Store.{Store}
use Rattle.store_nodes.specs.Footprint.{FillsNoBlock}
use Rattle.store_nodes.specs.Nodes.{OnUp, is_up, node_at}
use Rattle.store_nodes.specs.Pages.{ShowsMap, UsesPlace}
use Rattle.store_commands.specs.AtHand.{CanWriteAt, HasPlace}
use Rattle.store_commands.specs.Changing.{new_place}
use Rattle.store_commands.proofs.WriteTests.{place_found}

-- where two records fit, one fits, and the second one fits behind it
pub fills_less : (c : Store) (n : ℕ) → FillsNoBlock c n 2 → FillsNoBlock c n 1
fills_less c n room = by (node_at c.nodes n) room
  where
    by : (node : Node) → OnUp node (λ d seats. d.log.tail % 6 + 2 < 6) → OnUp node (λ d seats. d.log.tail % 6 + 1 < 6)
    by Idle room = tt
    by (Up d seats) room = omega (arith, room)
    by Down room = tt

room_behind : (tail next : ℕ) → next ≡ tail + 1 → tail % 6 + 2 < 6 → next % 6 + 1 < 6
room_behind tail next is room = omega (arith, is, room)

pub fills_behind : (c d : Store) (n : ℕ) → is_up (node_at c.nodes n) ≡ true → OnUp (node_at c.nodes n) (λ k old. OnUp (node_at d.nodes n) (λ j new. UsesPlace c.shape.maps c.shared.pool d.shared.pool k j old new)) → FillsNoBlock c n 2 → FillsNoBlock d n 1
fills_behind c d n up kept room = by (node_at c.nodes n) (node_at d.nodes n) up kept room
  where
    by : (old new : Node) → is_up old ≡ true → OnUp old (λ k before. OnUp new (λ j after. UsesPlace c.shape.maps c.shared.pool d.shared.pool k j before after)) → OnUp old (λ k seats. k.log.tail % 6 + 2 < 6) → OnUp new (λ j seats. j.log.tail % 6 + 1 < 6)
    by Idle o up kept room = cc
    by (Up k seats) Idle up kept room = tt
    by (Up k seats) (Up j later) up kept room = room_behind k.log.tail j.log.tail kept.tail room
    by (Up k seats) Down up kept room = tt
    by Down o up kept room = cc

-- the pages are cached, and the log has room in its block
pub places_cached : (c : Store) (n map count : ℕ) (o : Option ℕ) → IfSome o (CanWriteAt c n map count) → IfSome o (HasPlace c n map)
places_cached c n map count None can = tt
places_cached c n map count (Some place) can = can.0

pub place_fills : (c : Store) (n map count x : ℕ) (number : ℕ → ℕ) (o : Option ℕ) → Some x ≡ option_map number o → IfSome o (CanWriteAt c n map count) → FillsNoBlock c n count
place_fills c n map count x number None is can = cc
place_fills c n map count x number (Some place) is can = can.1

-- no page for the group
pub no_place : (number : ℕ → ℕ) (o : Option ℕ) → None ≡ option_map number o → o ≡ None
no_place number None is = refl
no_place number (Some place) is = cc

-- the place that the group gets
pub free_at : (c : Store) (n key : ℕ) (map : PageNo) (image : MapImage) (place : ℕ) → map.0 ≡ map_of_key c.shape key → new_place map image ≡ Ok place → IfSome (position is_free image.entries) (CanWriteAt c n (map_of_key c.shape key) 2) → CanWriteAt c n map.0 2 place
free_at c n key map image place at is free = subst (λ k. CanWriteAt c n k 2 place) (sym at) (subst (λ o. IfSome o (CanWriteAt c n (map_of_key c.shape key) 2)) (place_found map image place is) free)

-- the map page of the key, by its number
pub map_at_number : (c : Store) (n number : ℕ) (map : PageNo) (image : MapImage) → map.0 ≡ number → ShowsMap c n (record { 0 = number }) image → ShowsMap c n map image
map_at_number c n number map image at shows = subst (λ k. ShowsMap c n (record { 0 = k }) image) (sym at) shows
