-- A change that passed its tests can be made.
use Rattle.std.specs.Prelude.{◌≡◌, ◌≤◌, ◌<◌, ◌+◌, ◌^◌, ◌∷◌, [], ℕ, Bool, true, false, nat_le, nat_lt, List, Option, Some, None, Ok, length, unwrap_or, refl}
use Rattle.std.proofs.Common.{arith, ap, ◌∙◌}
use Rattle.std.proofs.lemmas.Bool.Decides.{nat_tests}
use Rattle.std.proofs.lemmas.List.{length-append}
use Rattle.sd_base.specs.declared.device.NodeId.{NodeId}
use Rattle.sd_base.specs.declared.names.PageNo.{PageNo}
use Rattle.page_image.specs.declared.page_view.PageView.{PageView}
use Rattle.space_map.specs.Image.{MapImage}
use Rattle.record_locks.specs.declared.mode.Mode.{Mode}
use Rattle.record_locks.specs.declared.mode.Mode.TheVariants as locks
use Rattle.record_locks.specs.Held.{raised}
use Rattle.script_text.specs.declared.reply.Reply.{Reply}
use Rattle.script_text.specs.declared.reply.Reply.TheVariants as says
use Rattle.record_machine.specs.Commands.{first_of, joined, where_so}
use Rattle.compensation.specs.Inverse.{content}
use Rattle.private_log.specs.Log.{space}
use Rattle.txn_core.specs.declared.change.Change as txn
use Rattle.txn_core.specs.declared.change.Change.TheVariants as change
use Rattle.txn_core.specs.Seats.{is_busy, owed}
use Rattle.txn_core.specs.Updates.{FitsSlotOf, HasPage}
use Rattle.std.specs.Prelude.{IsTrue}
use Rattle.store_nodes.specs.declared.node.Node.{Node}
use Rattle.store_nodes.specs.declared.node.Node.TheVariants.{Down, Idle, Up}
use Rattle.store_nodes.specs.declared.store.Store.{Store}
use Rattle.store_nodes.specs.Known as known
use Rattle.store_nodes.specs.Known.{checked}
use Rattle.store_nodes.specs.Nodes.{OnUp, is_up, node_at}
use Rattle.store_nodes.specs.Pages.{HasMap, ShowsData, ShowsMap, UsesPlace, has_txn, room_in}
use Rattle.sd_base.specs.declared.names.TxnId.{TxnId}
use Rattle.store_commands.specs.Changing.{Suits, length_refusal}

-- a lock to write is one to write
pub raised_write : (o : Option Mode) → raised o locks.Write ≡ locks.Write
raised_write None = refl
raised_write (Some locks.Read) = refl
raised_write (Some locks.Write) = refl

-- what a page passed that passed all tests
pub page_fits : (c : Store) (n : NodeId) (x : PageNo) (v : PageView) (need : ℕ) (extra : Option Reply) → checked (first_of (where_so (nat_le (2 ^ 63) v.ident) (says.Limit x) ∷ extra ∷ known.no_room c n need ∷ [])) ≡ Ok tt → (v.ident < 2 ^ 63) × (extra ≡ None) × (need ≤ room_in (node_at c.nodes n.0))
page_fits c n x v need extra tests = by (nat_le (2 ^ 63) v.ident) refl extra (nat_lt (room_in (node_at c.nodes n.0)) need) refl tests
  where
    by : (t : Bool) → nat_le (2 ^ 63) v.ident ≡ t → (o : Option Reply) (d : Bool) → nat_lt (room_in (node_at c.nodes n.0)) need ≡ d → checked (first_of (where_so t (says.Limit x) ∷ o ∷ where_so d (says.LogFull need (room_in (node_at c.nodes n.0))) ∷ [])) ≡ Ok tt
        → (v.ident < 2 ^ 63) × (o ≡ None) × (need ≤ room_in (node_at c.nodes n.0))
    by true is o d small tests = cc
    by false is (Some why) d small tests = cc
    by false is None true small tests = cc
    by false is None false small tests = (grind (arith, nat_tests), refl, grind (arith, nat_tests, small))

-- and what a new page and its map page passed
pub new_fits : (c : Store) (n : NodeId) (map : PageNo) (image : MapImage) (x : PageNo) (v : PageView) (extra : Option Reply) → checked (first_of (where_so (nat_le (2 ^ 63) image.ident) (says.Limit map) ∷ where_so (nat_le (2 ^ 63) v.ident) (says.Limit x) ∷ extra ∷ known.no_room c n 3 ∷ [])) ≡ Ok tt
    → (image.ident < 2 ^ 63) × (v.ident < 2 ^ 63) × (extra ≡ None) × (3 ≤ room_in (node_at c.nodes n.0))
new_fits c n map image x v extra tests = by (nat_le (2 ^ 63) image.ident) refl (nat_le (2 ^ 63) v.ident) refl extra (nat_lt (room_in (node_at c.nodes n.0)) 3) refl tests
  where
    by : (a : Bool) → nat_le (2 ^ 63) image.ident ≡ a → (b : Bool) → nat_le (2 ^ 63) v.ident ≡ b → (o : Option Reply) (d : Bool) → nat_lt (room_in (node_at c.nodes n.0)) 3 ≡ d
        → checked (first_of (where_so a (says.Limit map) ∷ where_so b (says.Limit x) ∷ o ∷ where_so d (says.LogFull 3 (room_in (node_at c.nodes n.0))) ∷ [])) ≡ Ok tt → (image.ident < 2 ^ 63) × (v.ident < 2 ^ 63) × (o ≡ None) × (3 ≤ room_in (node_at c.nodes n.0))
    by true high b of_page o d small tests = cc
    by false low true of_page o d small tests = cc
    by false low false of_page (Some why) d small tests = cc
    by false low false of_page None true small tests = cc
    by false low false of_page None false small tests = (grind (arith, nat_tests, low), grind (arith, nat_tests, of_page), refl, grind (arith, nat_tests, small))

-- the map page takes the change, and the log has room for it
pub map_takes : (c : Store) (n : ℕ) (map : PageNo) (image : MapImage) → ShowsMap c n map image → image.ident < 2 ^ 63 → OnUp (node_at c.nodes n) (λ k seats. (i : MapImage) × HasMap c.shared.pool k.pages map i × (i.ident < 2 ^ 63))
map_takes c n map image has low = by (node_at c.nodes n) has
  where
    by : (node : Node) → OnUp node (λ k seats. HasMap c.shared.pool k.pages map image) → OnUp node (λ k seats. (i : MapImage) × HasMap c.shared.pool k.pages map i × (i.ident < 2 ^ 63))
    by Idle has = tt
    by (Up k seats) has = (image, has, low)
    by Down has = tt

-- and so does the data page its change
pub page_takes : (c : Store) (n : ℕ) (x : PageNo) (v : PageView) (slot : ℕ) (what : txn.Change) → ShowsData c n x v → v.ident < 2 ^ 63 → FitsSlotOf v slot what
    → OnUp (node_at c.nodes n) (λ k seats. (w : PageView) × HasPage c.shared.pool k.pages x w × (w.ident < 2 ^ 63) × FitsSlotOf w slot what)
page_takes c n x v slot what has low fits = by (node_at c.nodes n) has
  where
    by : (node : Node) → OnUp node (λ k seats. HasPage c.shared.pool k.pages x v) → OnUp node (λ k seats. (w : PageView) × HasPage c.shared.pool k.pages x w × (w.ident < 2 ^ 63) × FitsSlotOf w slot what)
    by Idle has = tt
    by (Up k seats) has = (v, has, low, fits)
    by Down has = tt

pub seat_busy : (node : Node) (t : TxnId) → has_txn node t ≡ true → OnUp node (λ k seats. IsTrue (is_busy seats t.seat))
seat_busy Idle t busy = tt
seat_busy (Up k seats) t busy = busy
seat_busy Down t busy = tt

pub room_for : (node : Node) (need : ℕ) → 1 ≤ need → need ≤ room_in node → OnUp node (λ k seats. owed seats + need ≤ space k.log)
room_for Idle need some free = tt
room_for (Up k seats) need some free = omega (arith, some, free)
room_for Down need some free = tt

-- and then for the write
pub room_left : (c d : Store) (n : ℕ) → is_up (node_at c.nodes n) ≡ true → is_up (node_at d.nodes n) ≡ true → OnUp (node_at c.nodes n) (λ k old. OnUp (node_at d.nodes n) (λ j new. UsesPlace c.shape.maps c.shared.pool d.shared.pool k j old new)) → 3 ≤ room_in (node_at c.nodes n) → 2 ≤ room_in (node_at d.nodes n)
room_left c d n up later kept free = by (node_at c.nodes n) (node_at d.nodes n) up later kept free
  where
    by : (old new : Node) → is_up old ≡ true → is_up new ≡ true → OnUp old (λ k before. OnUp new (λ j after. UsesPlace c.shape.maps c.shared.pool d.shared.pool k j before after)) → 3 ≤ room_in old → 2 ≤ room_in new
    by Idle o up later kept free = cc
    by (Up k seats) Idle up later kept free = cc
    by (Up k seats) (Up j after) up later kept free = let same = ap owed kept.seats in omega (arith, same, kept.room, free)
    by (Up k seats) Down up later kept free = cc
    by Down o up later kept free = cc

-- the transactions stay as a place of a map page comes into use
pub busy_still : (c d : Store) (n : ℕ) (t : TxnId) → is_up (node_at d.nodes n) ≡ true → OnUp (node_at c.nodes n) (λ k old. OnUp (node_at d.nodes n) (λ j new. UsesPlace c.shape.maps c.shared.pool d.shared.pool k j old new)) → has_txn (node_at c.nodes n) t ≡ true → has_txn (node_at d.nodes n) t ≡ true
busy_still c d n t later kept busy = by (node_at c.nodes n) (node_at d.nodes n) later kept busy
  where
    by : (old new : Node) → is_up new ≡ true → OnUp old (λ k before. OnUp new (λ j after. UsesPlace c.shape.maps c.shared.pool d.shared.pool k j before after)) → has_txn old t ≡ true → has_txn new t ≡ true
    by Idle o later kept busy = cc
    by (Up k seats) Idle later kept busy = cc
    by (Up k seats) (Up j after) later kept busy = ap (λ s. is_busy s t.seat) kept.seats ∙ busy
    by (Up k seats) Down later kept busy = cc
    by Down o later kept busy = cc

-- a change that suits a record, and doesn't make it too long, fits its slot
pub fits : (v : PageView) (slot : ℕ) (what : txn.Change) → Suits what (content v slot) → length_refusal what (content v slot) ≡ None → FitsSlotOf v slot what
fits v slot (change.Put value) suits short = suits
fits v slot (change.Append bytes) suits short = by (nat_lt 248 (length (joined (content v slot) bytes))) refl short
  where
    by : (t : Bool) → nat_lt 248 (length (joined (content v slot) bytes)) ≡ t → where_so t (says.TooLong (length (joined (content v slot) bytes))) ≡ None → length (unwrap_or (content v slot) []) + length bytes ≤ 248
    by true is none = cc
    by false is none = let long = length-append (unwrap_or (content v slot) []) bytes in let low : length (joined (content v slot) bytes) ≤ 248 = grind (arith, nat_tests) in omega (arith, long, low)
fits v slot change.Delete suits short = suits

-- a change that suits an absent record suits any
pub suits_any : (what : txn.Change) (v : Option (List ℕ)) → Suits what None → Suits what v
suits_any (change.Put value) v suits = suits
suits_any (change.Append bytes) v suits = tt
suits_any change.Delete v suits = cc

-- a data page is as it was once a place of a map page has come into use
pub page_stays : (c d : Store) (n : ℕ) (x : PageNo) (v : PageView) → is_up (node_at c.nodes n) ≡ true → OnUp (node_at c.nodes n) (λ k old. OnUp (node_at d.nodes n) (λ j new. UsesPlace c.shape.maps c.shared.pool d.shared.pool k j old new)) → c.shape.maps ≤ x.0 → ShowsData c n x v → ShowsData d n x v
page_stays c d n x v up kept far has = by (node_at c.nodes n) (node_at d.nodes n) up kept has
  where
    by : (old new : Node) → is_up old ≡ true → OnUp old (λ k before. OnUp new (λ j after. UsesPlace c.shape.maps c.shared.pool d.shared.pool k j before after)) → OnUp old (λ k seats. HasPage c.shared.pool k.pages x v) → OnUp new (λ k seats. HasPage d.shared.pool k.pages x v)
    by Idle o up kept has = cc
    by (Up k seats) Idle up kept has = tt
    by (Up k seats) (Up j later) up kept has = kept.pages x v far has
    by (Up k seats) Down up kept has = tt
    by Down o up kept has = cc
