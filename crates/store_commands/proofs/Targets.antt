-- The pages that a write takes: those of the key's group, or the map page and then the first free page.
use Rattle.std.specs.Prelude.{◌≡◌, ◌≢◌, ◌∷◌, [], ℕ, false, Option, Some, None, Result, Ok, Err, IsOk, option_map, refl}
use Rattle.std.proofs.Common.{ap, subst, sym, ◌∙◌}
use Rattle.sd_base.specs.Shape.{IsShape}
use Rattle.sd_base.specs.declared.names.Key.{Key}
use Rattle.sd_base.specs.declared.names.TxnId.{TxnId}
use Rattle.sd_base.specs.Places.{map_of_key, page_of_place}
use Rattle.sd_base.proofs.PlaceLaws.{map_of_key-below}
use Rattle.script_text.specs.declared.reply.Reply.{Reply}
use Rattle.record_machine.specs.Commands.{takes_both, takes_target, target}
use Rattle.record_machine.specs.Machine.{Machine, free_place, home, new_home}
use Rattle.record_machine.specs.Parts.{Take, dos, one}
use Rattle.record_machine.specs.Steps.{held}
use Rattle.store_nodes.specs.Ports.{UnlessStop, says_stop}
use Rattle.store_commands.specs.Answering.{new_takes, reply_of}
use Rattle.store_commands.specs.Taking.{UnlessHeld}
use Rattle.store_commands.proofs.BothTaken.{apart, second_taken}
use Rattle.store_commands.proofs.GroupTaken.{first_failed, free_page}
use Rattle.store_commands.proofs.Stopping.{stop_on}
use Rattle.store_commands.proofs.Taken.{is_free}
use Rattle.store_commands.proofs.WriteParts.{once_taken}

pub target_some : (m : Machine) (key x : ℕ) → home m key ≡ Some x → target m key ≡ Some x
target_some m key x is = rw is refl

pub target_none : (m : Machine) (key : ℕ) → home m key ≡ None → target m key ≡ new_home m key
target_none m key is = rw is refl

-- a call whose reply says no stop
pub unless_runs : {P : Type 0} (r : Result (Unit {0}) Reply) → (says_stop (reply_of r) ≡ false → P) → UnlessStop r P
unless_runs (Ok x) then = then refl
unless_runs (Err why) then = then

module _ (m : Machine) (t : TxnId) (key : Key) where
  -- the pages of the group couldn't be taken
  pub target_failed : {T U : Type 0} (P Q : Type 0) (r : Result T Reply) (r' : Result U Reply) (why : Reply) (S : Machine → Type 0) → r ≡ Err why → r' ≡ Err why → UnlessStop r (UnlessHeld m (takes_both m t.node.0 key.0 (home m key.0)) r S (IsOk r × P))
      → UnlessStop r' (UnlessHeld m (takes_target m t key) r' S Q)
  target_failed P Q r r' why S fails out was = by (home m key.0) refl was
    where
      by : (o : Option ℕ) → home m key.0 ≡ o → UnlessStop r (UnlessHeld m (takes_both m t.node.0 key.0 o) r S (IsOk r × P)) → UnlessStop r' (UnlessHeld m (takes_target m t key) r' S Q)
      by None is was = first_failed m t.node.0 key.0 (map_of_key m.shape key.0) refl P Q (target m key.0) r r' why S fails out was
      by (Some x) is was = subst (λ o. UnlessStop r' (UnlessHeld m (takes_both m t.node.0 key.0 o) r' S Q)) (sym (target_some m key.0 x is)) (stop_on P Q m (takes_both m t.node.0 key.0 (Some x)) r r' why S fails out was)

  -- they were, and the group has this page
  pub target_there : {P : Type 0} (x : ℕ) (r : Result (Unit {0}) Reply) (S : Machine → Type 0) → home m key.0 ≡ Some x → held m (takes_both m t.node.0 key.0 (home m key.0)) ≡ None → P → UnlessHeld m (takes_target m t key) r S P
  target_there x r S here free p =
      is_free m (takes_target m t key) r S (ap (λ o. held m (takes_both m t.node.0 key.0 o)) (target_some m key.0 x here ∙ sym here) ∙ free) p

  -- they were, and it has none
  pub target_anew : {P Q : Type 0} (r : Result (Unit {0}) Reply) (S : Machine → Type 0) → IsShape m.shape → home m key.0 ≡ None → held m (takes_both m t.node.0 key.0 (home m key.0)) ≡ None → (P → Q)
      → UnlessHeld (once_taken m t key) (new_takes t.node.0 (new_home (once_taken m t key) key.0)) r S P → UnlessHeld m (takes_target m t key) r S Q
  target_anew {P} {Q} r S valid none free then was =
      by (new_home m key.0) refl (subst (λ k. UnlessHeld k (new_takes t.node.0 (new_home k key.0)) r S P) first was)
    where
      first : once_taken m t key ≡ one (Take (map_of_key m.shape key.0) t.node.0) m
      first = ap (λ o. dos (takes_both m t.node.0 key.0 o) m) none

      alone : held m (Take (map_of_key m.shape key.0) t.node.0 ∷ []) ≡ None
      alone = ap (λ o. held m (takes_both m t.node.0 key.0 o)) (sym none) ∙ free

      far : (x : ℕ) (o : Option ℕ) → option_map (page_of_place m.shape (map_of_key m.shape key.0)) o ≡ Some x → x ≢ map_of_key m.shape key.0
      far x None is = cc
      far x (Some place) is = let number : page_of_place m.shape (map_of_key m.shape key.0) place ≡ x = cc in subst (λ k. k ≢ map_of_key m.shape key.0) number (apart m.shape (map_of_key m.shape key.0) place (map_of_key-below m.shape key.0 valid))

      by : (o : Option ℕ) → new_home m key.0 ≡ o → UnlessHeld (one (Take (map_of_key m.shape key.0) t.node.0) m) (new_takes t.node.0 o) r S P → UnlessHeld m (takes_target m t key) r S Q
      by None is was = subst (λ o. UnlessHeld m (takes_both m t.node.0 key.0 o) r S Q) (sym (target_none m key.0 none ∙ is)) (is_free m (Take (map_of_key m.shape key.0) t.node.0 ∷ []) r S alone (then was))
      by (Some x) is was =
          subst (λ o. UnlessHeld m (takes_both m t.node.0 key.0 o) r S Q) (sym (target_none m key.0 none ∙ is))
          (second_taken m (map_of_key m.shape key.0) t.node.0 x (far x (free_place m key.0) is) r r S (free_page m (map_of_key m.shape key.0) t.node.0 alone) (λ why fails. fails) then was)
