-- A write as a whole: the parts of the machine that it does, and what is answered to it.
use Rattle.std.specs.Prelude.{◌≡◌, ◌++◌, ◌∷◌, [], ℕ, List, Option, Some, None, Result, refl}
use Rattle.std.proofs.Common.{ap, subst, sym, ◌∙◌}
use Rattle.sd_base.specs.declared.names.Key.{Key}
use Rattle.sd_base.specs.declared.names.TxnId.{TxnId}
use Rattle.sd_base.specs.Places.{group_of, map_of_key}
use Rattle.record_locks.specs.declared.mode.Mode.TheVariants as locks
use Rattle.script_text.specs.declared.reply.Reply.{Reply}
use Rattle.record_machine.specs.Machine.{Machine, free_place, home, new_home, seen}
use Rattle.record_machine.specs.Parts.{Change, Lock, Take, Use, dos, one}
use Rattle.record_machine.specs.Commands.{first_of, no_page, takes_both, takes_target, to_write}
use Rattle.record_machine.specs.Commands as wants
use Rattle.txn_core.specs.declared.change.Change as txn
use Rattle.store_nodes.specs.Pages.{value_after}
use Rattle.store_commands.specs.Answering.{Answers, new_parts, new_takes}
use Rattle.store_commands.specs.Changing.{length_refusal}
use Rattle.store_commands.proofs.ShownLocks.{takes_seen}
use Rattle.store_commands.proofs.WriteTests.{there_refusal}

-- what a write does to the record of a key in this page
abbrev pub writes_there : TxnId → Key → ℕ → Option (List ℕ) → Machine → Machine
writes_there t key x value m = dos (Lock key t locks.Write ∷ Change t (record { key = key.0; page = x; value = value }) ∷ []) m

-- the machine, once the map page of the key's group was taken, and the page that the group has
abbrev pub once_taken : Machine → TxnId → Key → Machine
once_taken m t key = dos (takes_both m t.node.0 key.0 (home m key.0)) m

module _ (m : Machine) (t : TxnId) (key : Key) where
  abbrev with_map : Machine
  with_map = one (Take (map_of_key m.shape key.0) t.node.0) m

  -- into the page that the group has
  parts_there : (value : Option (List ℕ)) (x : ℕ) → home m key.0 ≡ Some x → dos (to_write m t key value) m ≡ writes_there t key x value (dos (takes_both m t.node.0 key.0 (Some x)) m)
  parts_there value x is = rw is refl

  -- and into a new one, once the map page was taken
  parts_anew : (value : Option (List ℕ)) → home m key.0 ≡ None → dos (to_write m t key value) m ≡ dos (new_parts with_map t key value) with_map
  parts_anew value none = by (new_home m key.0) refl
    where
      by : (o : Option ℕ) → new_home m key.0 ≡ o → dos (to_write m t key value) m ≡ dos (new_parts with_map t key value) with_map
      by None is = rw (none, is) refl
      by (Some x) is = rw (none, is) refl

  -- what follows once the page was taken and the place has come into use
  pub new_parts_are : (value : Option (List ℕ)) (map place x : ℕ) → home m key.0 ≡ None → free_place m key.0 ≡ Some place → map_of_key m.shape key.0 ≡ map → new_home m key.0 ≡ Some x
      → dos (new_parts m t key value) m ≡ writes_there t key x value (one (Use t.node.0 map place (group_of key.0)) (one (Take x t.node.0) m))
  new_parts_are value map place x none free number page =
      ap (λ o. dos (new_takes t.node.0 o ++ wants.uses m t.node.0 key.0 ++ Lock key t locks.Write ∷ wants.writes t key.0 value o) m) page
      ∙ rw (none, free) (ap (λ k. writes_there t key x value (one (Use t.node.0 k place (group_of key.0)) (one (Take x t.node.0) m))) number)

  -- ---- the answer to a write

  -- into the page that the group has, once both pages were taken
  answers_there : (value : Option (List ℕ)) (extra : Option Reply) (x : ℕ) (r : Result (Unit {0}) Reply) (S : Machine → Type 0) → home m key.0 ≡ Some x
      → Answers (first_of (wants.at_limit (once_taken m t key) x ∷ extra ∷ wants.no_room (once_taken m t key) t.node 2 ∷ [])) r (S (writes_there t key x value (once_taken m t key))) (S (once_taken m t key))
      → Answers (no_page m t.node key.0 extra) r (S (dos (to_write m t key value) m)) (S (dos (takes_target m t key) m))
  answers_there value extra x r S here was =
      let both : once_taken m t key ≡ one (Take x t.node.0) with_map = ap (λ o. dos (takes_both m t.node.0 key.0 o) m) here in
      subst (λ o. Answers o r (S (dos (to_write m t key value) m)) (S (dos (takes_target m t key) m))) (sym (there_refusal m t.node key.0 x extra here))
      (by (first_of (wants.at_limit m x ∷ extra ∷ wants.no_room m t.node 2 ∷ [])) (subst (λ k. Answers (first_of (wants.at_limit k x ∷ extra ∷ wants.no_room k t.node 2 ∷ [])) r (S (writes_there t key x value k)) (S k)) both was))
    where
      stays : S (one (Take x t.node.0) with_map) → S (dos (takes_target m t key) m)
      stays shown = rw here shown

      by : (o : Option Reply) → Answers o r (S (writes_there t key x value (one (Take x t.node.0) with_map))) (S (one (Take x t.node.0) with_map)) → Answers o r (S (dos (to_write m t key value) m)) (S (dos (takes_target m t key) m))
      by None was = (was.0, subst S (sym (parts_there value x here)) was.1)
      by (Some why) was = (was.0, stays was.1)

  -- and into a new one, once the map page was taken
  answers_anew : (value : Option (List ℕ)) (extra : Option Reply) (r : Result (Unit {0}) Reply) (S : Machine → Type 0) → home m key.0 ≡ None
      → Answers (no_page (once_taken m t key) t.node key.0 extra) r (S (dos (new_parts (once_taken m t key) t key value) (once_taken m t key))) (S (dos (new_takes t.node.0 (new_home (once_taken m t key) key.0)) (once_taken m t key)))
      → Answers (no_page m t.node key.0 extra) r (S (dos (to_write m t key value) m)) (S (dos (takes_target m t key) m))
  answers_anew value extra r S none was =
      let first : once_taken m t key ≡ with_map = ap (λ o. dos (takes_both m t.node.0 key.0 o) m) none in
      by (no_page m t.node key.0 extra) (subst (λ k. Answers (no_page k t.node key.0 extra) r (S (dos (new_parts k t key value) k)) (S (dos (new_takes t.node.0 (new_home k key.0)) k))) first was)
    where
      stays : (o : Option ℕ) → new_home m key.0 ≡ o → S (dos (new_takes t.node.0 o) with_map) → S (dos (takes_target m t key) m)
      stays None is shown = rw (none, is) shown
      stays (Some x) is shown = rw (none, is) shown

      by : (o : Option Reply) → Answers o r (S (dos (new_parts with_map t key value) with_map)) (S (dos (new_takes t.node.0 (new_home m key.0)) with_map)) → Answers o r (S (dos (to_write m t key value) m)) (S (dos (takes_target m t key) m))
      by None was = (was.0, subst S (sym (parts_anew value none)) was.1)
      by (Some why) was = (was.0, stays (new_home m key.0) refl was.1)

  -- of a change, whose record is the same once the pages were taken
  pub changes_there : (what : txn.Change) (x : ℕ) (r : Result (Unit {0}) Reply) (S : Machine → Type 0) → home m key.0 ≡ Some x
      → Answers (first_of (wants.at_limit (once_taken m t key) x ∷ length_refusal what (seen (once_taken m t key) t key.0) ∷ wants.no_room (once_taken m t key) t.node 2 ∷ [])) r
      (S (writes_there t key x (value_after what (seen (once_taken m t key) t key.0)) (once_taken m t key))) (S (once_taken m t key))
      → Answers (no_page m t.node key.0 (length_refusal what (seen m t key.0))) r (S (dos (to_write m t key (value_after what (seen m t key.0))) m)) (S (dos (takes_target m t key) m))
  changes_there what x r S here was =
      let taken = once_taken m t key in
      answers_there (value_after what (seen m t key.0)) (length_refusal what (seen m t key.0)) x r S here
      (subst (λ v. Answers (first_of (wants.at_limit taken x ∷ length_refusal what v ∷ wants.no_room taken t.node 2 ∷ [])) r (S (writes_there t key x (value_after what v) taken)) (S taken)) (takes_seen m t.node.0 key.0 key.0 t (home m key.0)) was)

  pub changes_anew : (what : txn.Change) (r : Result (Unit {0}) Reply) (S : Machine → Type 0) → home m key.0 ≡ None
      → Answers (no_page (once_taken m t key) t.node key.0 (length_refusal what (seen (once_taken m t key) t key.0))) r
      (S (dos (new_parts (once_taken m t key) t key (value_after what (seen (once_taken m t key) t key.0))) (once_taken m t key)))
      (S (dos (new_takes t.node.0 (new_home (once_taken m t key) key.0)) (once_taken m t key)))
      → Answers (no_page m t.node key.0 (length_refusal what (seen m t key.0))) r (S (dos (to_write m t key (value_after what (seen m t key.0))) m)) (S (dos (takes_target m t key) m))
  changes_anew what r S none was =
      let taken = once_taken m t key in
      answers_anew (value_after what (seen m t key.0)) (length_refusal what (seen m t key.0)) r S none
      (subst (λ v. Answers (no_page taken t.node key.0 (length_refusal what v)) r (S (dos (new_parts taken t key (value_after what v)) taken)) (S (dos (new_takes t.node.0 (new_home taken key.0)) taken)))
      (takes_seen m t.node.0 key.0 key.0 t (home m key.0)) was)
