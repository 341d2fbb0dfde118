-- What is said of a reply, by the reply that it is.
use Rattle.std.specs.Prelude.{◌≡◌, ◌⊎◌, ◌≤◌, ◌∷◌, [], ⊤, ℕ, Bool, true, false, not, nat_lt, List, Option, Some, None, Result, Ok, Err, IfErr, IfSome, OnErr, option_map, refl}
use Rattle.std.proofs.Common.{arith, ap, subst, sym, ◌∙◌}
use Rattle.sd_base.specs.Calls.{Narrows}
use Rattle.sd_base.specs.Disk.{BlockState, DiskState, IsLawful}
use Rattle.sd_base.specs.declared.names.TxnId.{TxnId}
use Rattle.sd_base.specs.declared.shape.Shape.{Shape}
use Rattle.private_log.specs.Content.{IsLegal, Region, place, region_of}
use Rattle.private_log.specs.Reading.{IsInRegion, IsNoAnchor, contents}
use Rattle.private_log.proofs.Regions.{regions_apart}
use Rattle.script_text.specs.declared.command.Command.{Command}
use Rattle.script_text.specs.declared.command.Command.TheVariants as asks
use Rattle.script_text.specs.declared.reply.Reply.{Reply}
use Rattle.script_text.specs.declared.reply.Reply.TheVariants as says
use Rattle.record_machine.specs.Commands.{where_so}
use Rattle.record_machine.specs.Steps.{worker}
use Rattle.store_nodes.specs.declared.node.Node.{Node}
use Rattle.store_nodes.specs.declared.node.Node.TheVariants.{Idle, Up, Down}
use Rattle.store_nodes.specs.declared.store.Store.{Store}
use Rattle.store_nodes.specs.Causes.{IsLogReply, IsToldDamaged, IsToldOfPages}
use Rattle.store_nodes.specs.Known.{known, state_of}
use Rattle.store_nodes.specs.Nodes.{IsPlace, IsStore, is_up, node_at}
use Rattle.store_nodes.specs.Ports.{HasCause, IsQuiet, IsStopReply, says_stop}
use Rattle.store_nodes.proofs.Works.{up_most}
use Rattle.cluster_core.specs.Answers.{LeavesOpen}
use Rattle.cluster_core.specs.Records.{is_refusal, says_done}
use Rattle.cluster_core.proofs.Saying.{work_same}
use Rattle.cluster_core.proofs.Tests.{AllSay, first_says, locked, reopened, tested, tests, tests_are, unlocked}
use Rattle.cluster_core.proofs.Steps.{is_plain}

-- ---- a plain reply

pub plain_cause : (why : Reply) (old new : DiskState) → is_plain why ≡ true → HasCause why old new
plain_cause (says.Stopped n) old new plain = cc
plain_cause (says.Fault n) old new plain = cc
plain_cause says.NoMore old new plain = cc
plain_cause why old new plain = tt

pub plain_runs : {P : Type 0} (why : Reply) (h : ℕ) → is_plain why ≡ true → IsStopReply h why → P
plain_runs (says.Stopped n) h plain stop = cc
plain_runs (says.Fault n) h plain stop = cc
plain_runs why h plain stop = absurd stop

-- what is refused for what is in memory is answered plainly
abbrev Plain : Reply → Type 0
Plain why = is_plain why ≡ true

plain : (test : Bool) (why : Reply) → Plain why → IfSome (where_so test why) Plain
plain = tested Plain

all_plain : (c : Store) (command : Command) → AllSay Plain (tests c command)
all_plain c asks.Bad = (refl, tt)
all_plain c (asks.Format s) = (refl, tt)
all_plain c (asks.Start n) = (plain _ _ refl, (plain _ _ refl, tt))
all_plain c (asks.Begin t) = (plain _ _ refl, (plain _ _ refl, (plain _ _ refl, (reopened Plain c (λ n. refl), (plain _ _ refl, tt)))))
all_plain c (asks.Get t key) = (plain _ _ refl, (plain _ _ refl, (plain _ _ refl, (locked Plain _ (λ u. refl) refl, tt))))
all_plain c (asks.Put t key value) = (plain _ _ refl, (plain _ _ refl, (plain _ _ refl, (locked Plain _ (λ u. refl) refl, tt))))
all_plain c (asks.Append t key bytes) = (plain _ _ refl, (plain _ _ refl, (plain _ _ refl, (locked Plain _ (λ u. refl) refl, tt))))
all_plain c (asks.Del t key) = (plain _ _ refl, (plain _ _ refl, (plain _ _ refl, (locked Plain _ (λ u. refl) refl, tt))))
all_plain c (asks.Commit t) = (plain _ _ refl, (plain _ _ refl, (plain _ _ refl, tt)))
all_plain c (asks.Abort t) = (plain _ _ refl, (plain _ _ refl, (plain _ _ refl, tt)))
all_plain c (asks.Flush n) = (plain _ _ refl, (plain _ _ refl, tt))
all_plain c (asks.Stat n) = (plain _ _ refl, tt)
all_plain c (asks.Dump n) = (plain _ _ refl, (plain _ _ refl, (unlocked Plain _ (λ t. refl), (reopened Plain c (λ n. refl), tt))))

pub known_plain : (c : Store) (command : Command) (why : Reply) → known c command ≡ Some why → is_plain why ≡ true
known_plain c command why is = first_says Plain (tests c command) why (all_plain c command) (tests_are c command ∙ is)

-- and not as done
abbrev Refused : Reply → Type 0
Refused why = says_done why ≡ false

refused : (test : Bool) (why : Reply) → Refused why → IfSome (where_so test why) Refused
refused = tested Refused

all_refused : (c : Store) (command : Command) → AllSay Refused (tests c command)
all_refused c asks.Bad = (refl, tt)
all_refused c (asks.Format s) = (refl, tt)
all_refused c (asks.Start n) = (refused _ _ refl, (refused _ _ refl, tt))
all_refused c (asks.Begin t) = (refused _ _ refl, (refused _ _ refl, (refused _ _ refl, (reopened Refused c (λ n. refl), (refused _ _ refl, tt)))))
all_refused c (asks.Get t key) = (refused _ _ refl, (refused _ _ refl, (refused _ _ refl, (locked Refused _ (λ u. refl) refl, tt))))
all_refused c (asks.Put t key value) = (refused _ _ refl, (refused _ _ refl, (refused _ _ refl, (locked Refused _ (λ u. refl) refl, tt))))
all_refused c (asks.Append t key bytes) = (refused _ _ refl, (refused _ _ refl, (refused _ _ refl, (locked Refused _ (λ u. refl) refl, tt))))
all_refused c (asks.Del t key) = (refused _ _ refl, (refused _ _ refl, (refused _ _ refl, (locked Refused _ (λ u. refl) refl, tt))))
all_refused c (asks.Commit t) = (refused _ _ refl, (refused _ _ refl, (refused _ _ refl, tt)))
all_refused c (asks.Abort t) = (refused _ _ refl, (refused _ _ refl, (refused _ _ refl, tt)))
all_refused c (asks.Flush n) = (refused _ _ refl, (refused _ _ refl, tt))
all_refused c (asks.Stat n) = (refused _ _ refl, tt)
all_refused c (asks.Dump n) = (refused _ _ refl, (refused _ _ refl, (unlocked Refused _ (λ t. refl), (reopened Refused c (λ n. refl), tt))))

pub known_not_done : (c : Store) (command : Command) (why : Reply) → known c command ≡ Some why → says_done why ≡ false
known_not_done c command why is = first_says Refused (tests c command) why (all_refused c command) (tests_are c command ∙ is)

-- an abort meets no refusal there that it may meet later
abbrev Early : Reply → Type 0
Early why = is_refusal why ≡ false

pub early_abort : (c : Store) (t : TxnId) (why : Reply) → known c (asks.Abort t) ≡ Some why → is_refusal why ≡ false
early_abort c t why is = first_says Early (tests c (asks.Abort t)) why (tested Early _ _ refl, (tested Early _ _ refl, (tested Early _ _ refl, tt))) is

-- so a command that is refused there leaves what it is to leave
pub known_leaves : (c : Store) (command : Command) (why : Reply) → known c command ≡ Some why → is_refusal why ≡ true → LeavesOpen command c c
known_leaves c (asks.Abort t) why is refused = (let never : false ≡ true = sym (early_abort c t why is) ∙ refused in cc)
known_leaves c command why is refused = work_same (worker command) c

-- what is told of a node is plain too
pub state_plain : (node : Node) → is_plain (state_of node) ≡ true
state_plain Idle = refl
state_plain (Up c seats) = refl
state_plain Down = refl

-- ---- a stop

pub stop_runs : (n : ℕ) (why : Reply) → IsStopReply n why → says_stop why ≡ true
stop_runs n (says.Stopped m) is = refl
stop_runs n (says.Fault m) is = refl
stop_runs n why is = absurd is

-- the node that stopped is down
one_stop : (n h : ℕ) (why : Reply) → IsStopReply n why → IsStopReply h why → h ≡ n
one_stop n h (says.Stopped m) is here = sym here ∙ is
one_stop n h (says.Fault m) is here = sym here ∙ is
one_stop n h why is here = absurd is

pub stops_down : {T : Type 0} (n : ℕ) (r : Result T Reply) (nodes : List Node) → IfErr r (IsStopReply n) → OnErr r (node_at nodes n ≡ Down) → IfErr r (λ why. (h : ℕ) → IsStopReply h why → node_at nodes h ≡ Down)
stops_down n (Ok value) nodes stops down = tt
stops_down n (Err why) nodes stops down = λ h is. ap (node_at nodes) (one_stop n h why stops is) ∙ down

log_stop : (n h : ℕ) (g : Region) (why : Reply) → IsLogReply n g why → IsStopReply h why → h ≡ n
log_stop n h g (says.Stopped m) is here = sym here ∙ is
log_stop n h g (says.Fault m) is here = sym here ∙ is
log_stop n h g why is here = absurd here

pub log_down : {T : Type 0} (n : ℕ) (g : Region) (r : Result T Reply) (nodes : List Node) → IfErr r (IsLogReply n g) → IfErr r (λ why. says_stop why ≡ true → node_at nodes n ≡ Down) → IfErr r (λ why. (h : ℕ) → IsStopReply h why → node_at nodes h ≡ Down)
log_down n g (Ok value) nodes reply down = tt
log_down n g (Err why) nodes reply down = λ h is. ap (node_at nodes) (log_stop n h g why reply is) ∙ down (stop_runs h why is)

-- it is no refusal
pub stop_no_refusal : {P : Type 0} (n : ℕ) (why : Reply) → IsStopReply n why → is_refusal why ≡ true → P
stop_no_refusal n (says.Stopped m) is refused = cc
stop_no_refusal n (says.Fault m) is refused = cc
stop_no_refusal n why is refused = absurd is

pub refusal_runs : (why : Reply) → is_refusal why ≡ true → says_stop why ≡ false
refusal_runs (says.Stopped m) refused = cc
refusal_runs (says.Fault m) refused = cc
refusal_runs why refused = refl

pub state_no_refusal : {P : Type 0} (node : Node) → is_refusal (state_of node) ≡ true → P
state_no_refusal Idle refused = cc
state_no_refusal (Up c seats) refused = cc
state_no_refusal Down refused = cc

-- nothing is told of a page in it, nor where a node's state is told
pub stop_told : (s : Shape) (image : ℕ → Option (List ℕ)) (n : ℕ) (why : Reply) → IsStopReply n why → IsToldOfPages s image why
stop_told s image n (says.LostPage x) is = absurd is
stop_told s image n (says.DamagedDisk at) is = absurd is
stop_told s image n why is = tt

pub state_told : (s : Shape) (image : ℕ → Option (List ℕ)) (node : Node) → IsToldOfPages s image (state_of node)
state_told s image Idle = tt
state_told s image (Up c seats) = tt
state_told s image Down = tt

-- ---- a block of the log of a node that is to start

-- an idle node has no uncovered write in its log, so its blocks keep their content where none has a new outcome
log_kept : (c : Store) (n at : ℕ) (a b : ℕ → BlockState) → IsStore c → IsPlace n → n ≤ c.shape.nodes → node_at c.nodes n ≡ Idle → IsQuiet c a → ((k : ℕ) → IsLawful a k) → ((k : ℕ) → IsLawful b k) → Narrows a b → IsInRegion (region_of c.shape n) at
    → contents b at ≡ contents a at
log_kept c n at a b is place last idle quiet was lawful narrows inside = (was at).covered (by (a at).writer refl) (b at).current (narrows at (b at).current (lawful at).current)
  where
    by : (w : Option ℕ) → (a at).writer ≡ w → (a at).writer ≡ None
    by None none = none
    by (Some m) some =
        let own = quiet at m some in
        let far : n ≡ m → ⊥ = λ same. let never : false ≡ true = sym (ap is_up idle) ∙ ap (λ k. is_up (node_at c.nodes k)) same ∙ own.up in cc in
        absurd (regions_apart c.shape n m at is.shared.shape place.0 last own.number.0 (up_most c.shape c.shared.pool c.shared.owners c.nodes is m own.number own.up) far inside own.log)

pub start_told : (c : Store) (n : ℕ) (a b : ℕ → BlockState) (why : Reply) → IsStore c → IsPlace n → n ≤ c.shape.nodes → node_at c.nodes n ≡ Idle → IsQuiet c a → ((k : ℕ) → IsLawful a k) → ((k : ℕ) → IsLawful b k) → Narrows a b
    → IsLogReply n (region_of c.shape n) why → IsToldDamaged (region_of c.shape n) (contents a) why → IsToldDamaged (region_of c.shape n) (contents b) why
start_told c n a b (says.DamagedDisk at) is inside last idle quiet was lawful narrows reply told =
    let g = region_of c.shape n in
    subst (λ o. (o ≡ None) ⊎ ((at.0 ≡ g.anchor) × IsNoAnchor g o) ⊎ ((number : ℕ) × (at.0 ≡ place g number) × ¬ (IsLegal g number o))) (sym (log_kept c n at.0 a b is inside last idle quiet was lawful narrows reply)) told
start_told c n a b why is place last idle quiet was lawful narrows reply told = tt
