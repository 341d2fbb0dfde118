-- When a command meets a refusal: before it takes a page, as it takes its pages, or behind them.
use Rattle.std.specs.Prelude.{◌≡◌, ◌^◌, ◌∷◌, [], ⊤, ℕ, Bool, true, false, nat_le, List, Option, Some, None, IfSome, refl}
use Rattle.std.proofs.Common.{ap, subst, sym, ◌∙◌}
use Rattle.sd_base.specs.declared.device.NodeId.{NodeId}
use Rattle.sd_base.specs.declared.names.Key.{Key}
use Rattle.sd_base.specs.declared.names.PageNo.{PageNo}
use Rattle.sd_base.specs.declared.names.TxnId.{TxnId}
use Rattle.sd_base.specs.Places.{map_of_key, page_of_place}
use Rattle.record_locks.specs.declared.mode.LockAnswer.{LockAnswer}
use Rattle.script_text.specs.declared.command.Command.{Command}
use Rattle.script_text.specs.declared.command.Command.TheVariants as asks
use Rattle.script_text.specs.declared.reply.Reply.{Reply}
use Rattle.script_text.specs.declared.reply.Reply.TheVariants as says
use Rattle.record_machine.specs.Commands.{at_limit, first_of, lock_refusal, no_deletion, no_page, no_room, takes, too_long, where_so}
use Rattle.record_machine.specs.Machine.{Machine, free_place, home, is_down, seen}
use Rattle.record_machine.specs.Parts.{Part, Start, Take, Drop, Begin, Use, FreePlace, Lock, Change, Back, Seal, Unlock, Sure, dos}
use Rattle.record_machine.specs.Steps.{HasTaken, Met, StaysAs, held, held_page, met, met_held}
use Rattle.record_machine.specs.Steps as when
use Rattle.store_nodes.specs.declared.store.Store.{Store}
use Rattle.store_nodes.specs.Known.{known, no_lock, no_node, no_txn, not_up}
use Rattle.store_commands.proofs.WriteTests.{full_refusal, new_refusal, there_refusal}
use Rattle.cluster_core.proofs.Tests.{first_says, locked, tested}

-- it meets the refusal then
abbrev Comes : Command → Met → Reply → Type 0
Comes command w why = met command why ≡ w

-- ---- before

stays_before : (m : Machine) (command : Command) (why : Reply) (S : Machine → Type 0) → Comes command when.Before why → S m → StaysAs m command why S
stays_before m command why S early shown = rw early shown

-- a command that takes no page has taken none in any case
stays_none : (m : Machine) (command : Command) (why : Reply) (S : Machine → Type 0) → takes m command ≡ [] → S m → StaysAs m command why S
stays_none m command why S none shown = by (met command why) refl
  where
    by : (w : Met) → met command why ≡ w → StaysAs m command why S
    by when.Before is = rw is shown
    by when.Ahead is = rw is shown
    by when.Taking is = rw is (record { count = 0; free = refl; after = shown })
    by when.Behind is = rw is (subst (λ ps. S (dos ps m)) (sym none) shown)

module _ (c : Store) (command : Command) (t : TxnId) where
  early_txn : (why : Reply) → first_of (no_node c t.node ∷ not_up c t.node ∷ no_txn c t ∷ []) ≡ Some why → Comes command when.Before why
  early_txn why is = first_says (Comes command when.Before) (no_node c t.node ∷ not_up c t.node ∷ no_txn c t ∷ []) why (tested (Comes command when.Before) _ _ refl, (tested (Comes command when.Before) _ _ refl, (tested (Comes command when.Before) _ _ refl, tt))) is

  early_lock : (key : Key) (a : LockAnswer) (why : Reply) → first_of (no_node c t.node ∷ not_up c t.node ∷ no_txn c t ∷ lock_refusal a ∷ []) ≡ Some why → Comes command when.Before why
  early_lock key a why is = first_says (Comes command when.Before) (no_node c t.node ∷ not_up c t.node ∷ no_txn c t ∷ lock_refusal a ∷ []) why (tested (Comes command when.Before) _ _ refl, (tested (Comes command when.Before) _ _ refl, (tested (Comes command when.Before) _ _ refl, (locked (Comes command when.Before) a (λ u. refl) refl, tt)))) is

-- what is refused for what is in memory has taken no page
pub known_stays : (c : Store) (m : Machine) (command : Command) (why : Reply) (S : Machine → Type 0) → known c command ≡ Some why → S m → StaysAs m command why S
known_stays c m asks.Bad why S is shown = stays_none m asks.Bad why S refl shown
known_stays c m (asks.Format s) why S is shown = stays_none m (asks.Format s) why S refl shown
known_stays c m (asks.Start n) why S is shown = stays_none m (asks.Start n) why S refl shown
known_stays c m (asks.Begin t) why S is shown = stays_none m (asks.Begin t) why S refl shown
known_stays c m (asks.Get t key) why S is shown = stays_before m (asks.Get t key) why S (early_lock c (asks.Get t key) t key _ why is) shown
known_stays c m (asks.Put t key value) why S is shown = stays_before m (asks.Put t key value) why S (early_lock c (asks.Put t key value) t key _ why is) shown
known_stays c m (asks.Append t key bytes) why S is shown = stays_before m (asks.Append t key bytes) why S (early_lock c (asks.Append t key bytes) t key _ why is) shown
known_stays c m (asks.Del t key) why S is shown = stays_before m (asks.Del t key) why S (early_lock c (asks.Del t key) t key _ why is) shown
known_stays c m (asks.Commit t) why S is shown = stays_none m (asks.Commit t) why S refl shown
known_stays c m (asks.Abort t) why S is shown = stays_before m (asks.Abort t) why S (early_txn c (asks.Abort t) t why is) shown
known_stays c m (asks.Flush n) why S is shown = stays_none m (asks.Flush n) why S refl shown
known_stays c m (asks.Stat n) why S is shown = stays_none m (asks.Stat n) why S refl shown
known_stays c m (asks.Dump n) why S is shown = stays_none m (asks.Dump n) why S refl shown

-- ---- as pages are taken

-- what holds of all replies that a page is held holds of this one
page_says : (P : Reply → Type 0) → ((x : PageNo) (h : NodeId) → P (says.Held x h)) → (m : Machine) (x : ℕ) → IfSome (held_page m x) P
page_says P all m x = by (m.hold x) refl
  where
    by : (o : Option ℕ) → m.hold x ≡ o → IfSome (held_page m x) P
    by None is = rw is tt
    by (Some h) is = rw is (tested P (is_down (m.mode h)) _ (all (record { 0 = x }) (record { 0 = h })))

module _ (P : Reply → Type 0) (all : (x : PageNo) (h : NodeId) → P (says.Held x h)) where
  pub held_says : (m : Machine) (ps : List Part) (why : Reply) → held m ps ≡ Some why → P why
  held_says m [] why is = cc
  held_says m (Take x n ∷ ps) why is = by (held_page m x) (held m ps) (page_says P all m x) (held_says m ps why) is
    where
      by : (o q : Option Reply) → IfSome o P → (q ≡ Some why → P why) → first_of (o ∷ q ∷ []) ≡ Some why → P why
      by (Some other) q comes rest is = let same : other ≡ why = cc in subst P same comes
      by None (Some other) comes rest is = rest is
      by None None comes rest is = cc
  held_says m (Start n ∷ ps) why is = held_says m ps why is
  held_says m (Drop x ∷ ps) why is = held_says m ps why is
  held_says m (Begin t ∷ ps) why is = held_says m ps why is
  held_says m (Use n map_page place g ∷ ps) why is = held_says m ps why is
  held_says m (FreePlace n map_page place ∷ ps) why is = held_says m ps why is
  held_says m (Lock key t mode ∷ ps) why is = held_says m ps why is
  held_says m (Change t w ∷ ps) why is = held_says m ps why is
  held_says m (Back t ∷ ps) why is = held_says m ps why is
  held_says m (Seal t ∷ ps) why is = held_says m ps why is
  held_says m (Unlock t ∷ ps) why is = held_says m ps why is
  held_says m (Sure n ∷ ps) why is = held_says m ps why is

-- so it is met as the command meets a page that is held
pub held_met : (m : Machine) (command : Command) (ps : List Part) (why : Reply) → held m ps ≡ Some why → met command why ≡ met_held command
held_met m command ps why is = held_says (λ r. met command r ≡ met_held command) (λ x h. refl) m ps why is

-- ---- behind them

-- a write is refused then, for whatever it is
pub late_write : (command : Command) (m : Machine) (n : NodeId) (key : ℕ) (extra : Option Reply) (why : Reply) → IfSome extra (λ r. met command r ≡ when.Behind) → no_page m n key extra ≡ Some why → met command why ≡ when.Behind
late_write command m n key extra why of_value is = by (home m key) refl (free_place m key) refl
  where
    by : (o : Option ℕ) → home m key ≡ o → (p : Option ℕ) → free_place m key ≡ p → Comes command when.Behind why
    by (Some x) here p free = first_says (Comes command when.Behind) (at_limit m x ∷ extra ∷ no_room m n 2 ∷ []) why (tested (Comes command when.Behind) _ _ refl, (of_value, (tested (Comes command when.Behind) _ _ refl, tt))) (sym (there_refusal m n key x extra here) ∙ is)
    by None none None full = first_says (Comes command when.Behind) (at_limit m (map_of_key m.shape key) ∷ Some (says.NoSpace (record { 0 = map_of_key m.shape key })) ∷ []) why (tested (Comes command when.Behind) _ _ refl, (refl, tt)) (sym (full_refusal m n key extra none full) ∙ is)
    by None none (Some place) free =
        first_says (Comes command when.Behind) (at_limit m (map_of_key m.shape key) ∷ at_limit m (page_of_place m.shape (map_of_key m.shape key) place) ∷ extra ∷ no_room m n 3 ∷ []) why (tested (Comes command when.Behind) _ _ refl, (tested (Comes command when.Behind) _ _ refl, (of_value, (tested (Comes command when.Behind) _ _ refl, tt)))) (sym (new_refusal m n key extra none place free) ∙ is)

pub late_length : (command : Command) (v : Option (List ℕ)) (bytes : List ℕ) → IfSome (too_long v bytes) (λ r. met command r ≡ when.Behind)
late_length command v bytes = tested (Comes command when.Behind) _ _ refl

-- and so is a deletion
pub late_deletion : (command : Command) (m : Machine) (t : TxnId) (key : ℕ) (why : Reply) → no_deletion m t key ≡ Some why → met command why ≡ when.Behind
late_deletion command m t key why is = by (seen m t key) refl (home m key) refl
  where
    by : (v : Option (List ℕ)) → seen m t key ≡ v → (o : Option ℕ) → home m key ≡ o → Comes command when.Behind why
    by None none o here = let never : ◌≡◌ {A = Option Reply} None (Some why) = sym (rw none refl) ∙ is in cc
    by (Some value) there None none = let never : ◌≡◌ {A = Option Reply} None (Some why) = sym (rw (there, none) refl) ∙ is in cc
    by (Some value) there (Some x) here = first_says (Comes command when.Behind) (at_limit m x ∷ no_room m t.node 2 ∷ []) why (tested (Comes command when.Behind) _ _ refl, (tested (Comes command when.Behind) _ _ refl, tt)) (sym (rw (there, here) refl) ∙ is)
