-- What is refused for what is in memory is no stop, and needs no cause at the devices.
use Rattle.std.specs.Prelude.{◌≡◌, ◌^◌, ◌∷◌, [], ⊤, ℕ, Bool, true, false, nat_le, List, Option, Some, None, Result, Ok, Err, IfErr, IfSome, OnErr, refl}
use Rattle.std.proofs.Common.{ap, subst, sym, ◌∙◌}
use Rattle.sd_base.specs.Disk.{DiskState}
use Rattle.sd_base.specs.declared.device.NodeId.{NodeId}
use Rattle.sd_base.specs.declared.names.PageNo.{PageNo}
use Rattle.script_text.specs.declared.reply.Reply.{Reply}
use Rattle.script_text.specs.declared.reply.Reply.TheVariants as says
use Rattle.record_machine.specs.Commands.{first_of, needs_pages, where_so}
use Rattle.txn_core.specs.declared.change.Change.{Change}
use Rattle.txn_core.specs.declared.change.Change.TheVariants.{Put, Append, Delete}
use Rattle.store_nodes.specs.declared.node.Node.{Node}
use Rattle.store_nodes.specs.declared.node.Node.TheVariants.{Down}
use Rattle.store_nodes.specs.declared.store.Store.{Store}
use Rattle.store_nodes.specs.Known as known
use Rattle.store_nodes.specs.Known.{checked}
use Rattle.store_nodes.specs.Nodes.{node_at}
use Rattle.store_nodes.specs.Ports.{HasCause, IsStopReply, says_stop}
use Rattle.store_commands.specs.Answering.{reply_of}
use Rattle.store_commands.specs.Changing.{length_refusal}
use Rattle.store_commands.proofs.Unchanged.{stops}

-- the refusal comes once the pages are taken; and so does each one of a list
abbrev Comes : Reply → Type 0
Comes why = needs_pages why ≡ true

abbrev AllCome : List (Option Reply) → Type 0
AllCome [] = ⊤
AllCome (o ∷ os) = IfSome o Comes × AllCome os

first_comes : (os : List (Option Reply)) (why : Reply) → AllCome os → checked (first_of os) ≡ Err why → Comes why
first_comes [] why all is = cc
first_comes (None ∷ os) why (here, rest) is = first_comes os why rest is
first_comes (Some other ∷ os) why (here, rest) is = let same : other ≡ why = cc in subst Comes same here

tested : (test : Bool) (why : Reply) → Comes why → IfSome (where_so test why) Comes
tested true why comes = comes
tested false why comes = tt

late_change : (what : Change) (v : Option (List ℕ)) → IfSome (length_refusal what v) Comes
late_change (Put value) v = tt
late_change (Append bytes) v = tested _ _ refl
late_change Delete v = tt

-- so it is no stop
pub late_runs : (why : Reply) → needs_pages why ≡ true → says_stop why ≡ false
late_runs (says.Stopped n) late = cc
late_runs (says.Fault n) late = cc
late_runs why late = refl

pub late_cause : (why : Reply) (old new : DiskState) → needs_pages why ≡ true → HasCause why old new
late_cause (says.Stopped n) old new late = cc
late_cause (says.Fault n) old new late = cc
late_cause says.NoMore old new late = cc
late_cause why old new late = tt

module _ (c : Store) (n : NodeId) (x : PageNo) (b need : ℕ) (what : Change) (v : Option (List ℕ)) (why : Reply) where
  -- of a page that is there
  late_there : checked (first_of (where_so (nat_le (2 ^ 63) b) (says.Limit x) ∷ length_refusal what v ∷ known.no_room c n need ∷ [])) ≡ Err why → needs_pages why ≡ true
  late_there is = first_comes (where_so (nat_le (2 ^ 63) b) (says.Limit x) ∷ length_refusal what v ∷ known.no_room c n need ∷ []) why (tested _ _ refl, (late_change what v, (tested _ _ refl, tt))) is

  pub refusal_runs : checked (first_of (where_so (nat_le (2 ^ 63) b) (says.Limit x) ∷ length_refusal what v ∷ known.no_room c n need ∷ [])) ≡ Err why → says_stop why ≡ false
  refusal_runs is = late_runs why (late_there is)

  pub refusal_cause : (old new : DiskState) → checked (first_of (where_so (nat_le (2 ^ 63) b) (says.Limit x) ∷ length_refusal what v ∷ known.no_room c n need ∷ [])) ≡ Err why → HasCause why old new
  refusal_cause old new is = late_cause why old new (late_there is)

  -- and of a new one, with its map page
  pub new_late : (map : PageNo) (a : ℕ) → checked (first_of (where_so (nat_le (2 ^ 63) a) (says.Limit map) ∷ where_so (nat_le (2 ^ 63) b) (says.Limit x) ∷ length_refusal what v ∷ known.no_room c n need ∷ [])) ≡ Err why → needs_pages why ≡ true
  new_late map a is = first_comes (where_so (nat_le (2 ^ 63) a) (says.Limit map) ∷ where_so (nat_le (2 ^ 63) b) (says.Limit x) ∷ length_refusal what v ∷ known.no_room c n need ∷ []) why (tested _ _ refl, (tested _ _ refl, (late_change what v, (tested _ _ refl, tt)))) is

-- it wasn't stopped, where a stop of this node alone may be in its way
pub not_stopped : (n : ℕ) (r : Result (Unit {0}) Reply) → IfErr r (IsStopReply n) → says_stop (reply_of r) ≡ false → r ≡ Ok tt
not_stopped n (Ok x) is runs = refl
not_stopped n (Err why) is runs = let never : true ≡ false = sym (stops n why is) ∙ runs in cc

-- a reply says of one node that it stopped
one_stop : (n h : ℕ) (why : Reply) → IsStopReply n why → IsStopReply h why → h ≡ n
one_stop n h (says.Stopped m) first next = sym next ∙ first
one_stop n h (says.Fault m) first next = sym next ∙ first
one_stop n h why first next = absurd first

-- so the node that it says so of is this one, and down
pub down_of : (n : ℕ) (nodes : List Node) (r : Result (Unit {0}) Reply) → IfErr r (IsStopReply n) → OnErr r (node_at nodes n ≡ Down) → IfErr r (λ why. (h : ℕ) → IsStopReply h why → (h ≡ n) × (node_at nodes h ≡ Down))
down_of n nodes (Ok x) is down = tt
down_of n nodes (Err why) is down = λ h stopped. let same = one_stop n h why is stopped in (same, ap (node_at nodes) same ∙ down)
