-- What a store shows after a lock was taken, and what a transaction reads under a lock.
use Rattle.std.specs.Prelude.{◌≡◌, ◌≤◌, ◌<◌, ◌++◌, ◌∷◌, [], ℕ, true, List, Option, Some, None, Ok, IsTrue, IfNone, IfSome, option_map, refl}
use Rattle.std.proofs.Common.{arith, ap, subst, sym, ◌∙◌}
use Rattle.sd_base.specs.Disk.{BlockState}
use Rattle.sd_base.specs.Shape.{page_count}
use Rattle.sd_base.specs.declared.names.Key.{Key}
use Rattle.sd_base.specs.declared.names.PageNo.{PageNo}
use Rattle.sd_base.specs.declared.names.TxnId.{TxnId}
use Rattle.sd_base.specs.declared.shape.Shape.{Shape}
use Rattle.sd_base.specs.Places.{map_of_key, page_of_place, slot_of_key}
use Rattle.sd_base.proofs.PlaceLaws.{map_of_key-below}
use Rattle.page_image.specs.declared.page_view.PageView.{PageView}
use Rattle.compensation.specs.Inverse.{content}
use Rattle.record_locks.specs.declared.mode.Mode.{Mode}
use Rattle.record_locks.specs.Answer.{lock_answer, may_take}
use Rattle.record_locks.specs.Held.{Held, mode_of, raised, taken}
use Rattle.record_locks.proofs.HeldLaws.{mode_of-taken}
use Rattle.record_machine.specs.Commands.{found, takes_both}
use Rattle.record_machine.specs.Machine.{Machine, free_place, home, new_home, seen}
use Rattle.record_machine.specs.Parts.{Lock, dos, one}
use Rattle.record_machine.proofs.LockSteps.{seen_absent, seen_locked}
use Rattle.record_machine.proofs.Steps.{dos-then, means_locked}
use Rattle.record_machine.proofs.UseSteps.{blank_there}
use Rattle.store_nodes.specs.declared.node.Node.{Node}
use Rattle.store_nodes.specs.declared.node.Node.TheVariants.{Down, Idle, Up}
use Rattle.store_nodes.specs.declared.store.Store.{Store}
use Rattle.store_nodes.specs.Nodes.{IsPlace, IsStore, is_up, node_at}
use Rattle.store_nodes.specs.Pages.{ShowsData}
use Rattle.store_nodes.specs.Shows.{IsShown, ShowsNode}
use Rattle.store_commands.specs.Answering.{reply_found}
use Rattle.store_commands.proofs.ShownImages.{data_is}

-- what the pages taken change nothing of
pub takes_home : (m : Machine) (n key k : ℕ) (o : Option ℕ) → home (dos (takes_both m n key o) m) k ≡ home m k
takes_home m n key k None = refl
takes_home m n key k (Some x) = refl

pub takes_seen : (m : Machine) (n key k : ℕ) (t : TxnId) (o : Option ℕ) → seen (dos (takes_both m n key o) m) t k ≡ seen m t k
takes_seen m n key k t None = refl
takes_seen m n key k t (Some x) = refl

-- the store with these locks
abbrev pub with_locks : Store → Held → Store
with_locks c held = record c { shared = record c.shared { locks = held } }

-- a lock more
pub shown_locked : (c : Store) (b : ℕ → BlockState) (m : Machine) (key : Key) (t : TxnId) (mode : Mode) → IsTrue (may_take (lock_answer c.shared.locks key t mode)) → IsShown c b m → IsShown (with_locks c (taken c.shared.locks key t mode)) b (one (Lock key t mode) m)
shown_locked c b m key t mode free shown =
    let s = shown.1 in (
      shown.0,
      record {
        nodes = record {
          means = means_locked shown.0 m key t mode (subst (λ held. IsTrue (may_take (lock_answer held key t mode))) (sym s.locks) free) s.nodes.means;
          shape = s.nodes.shape;
          node = λ n place low. by n (node_at c.nodes n) (s.nodes.node n place low);
          stored = s.nodes.stored;
          hold = s.nodes.hold;
        };
        locks = ap (λ held. taken held key t mode) s.locks;
        reopening = s.reopening;
      },
    )
  where
    by : (n : ℕ) (node : Node) → ShowsNode c.shape c.shared.pool n node b shown.0 m → ShowsNode c.shape c.shared.pool n node b shown.0 (one (Lock key t mode) m)
    by n Idle is = (is.0, record { legal = is.1.legal; still = is.1.still; content = is.1.content; clean = is.1.clean; names = is.1.names; none = is.1.none })
    by n (Up d seats) is = (is.0, record { records = is.1.records; told = is.1.told; start = is.1.start; cached = is.1.cached; lives = is.1.lives; deeds = is.1.deeds; within = is.1.within })
    by n Down is = is

-- and none is seen where the group has no page
pub seen_none : (c : Store) (b : ℕ → BlockState) (m : Machine) (key : ℕ) (txn : TxnId) → home m key ≡ None → IsShown c b m → seen m txn key ≡ None
seen_none c b m key txn none shown = seen_absent shown.0 m key txn shown.1.nodes.means.logs shown.1.nodes.means.pages none

module _ (c : Store) (n : ℕ) (b : ℕ → BlockState) (m : Machine) (is : IsStore c) (node : IsPlace n) (up : is_up (node_at c.nodes n) ≡ true) where
  -- a transaction that may have the lock sees what the slot of the key holds in the page of its group
  pub seen_there : (key : Key) (t : TxnId) (mode : Mode) (x : PageNo) (v : PageView) → IsTrue (may_take (lock_answer c.shared.locks key t mode)) → home m key.0 ≡ Some x.0
      → c.shape.maps ≤ x.0 → x.0 < page_count c.shape → ShowsData c n x v → IsShown c b m → content v (slot_of_key key.0) ≡ seen m t key.0
  seen_there key t mode x v free here far within has shown =
      let s = shown.1 in
      let after = means_locked shown.0 m key t mode (subst (λ held. IsTrue (may_take (lock_answer held key t mode))) (sym s.locks) free) s.nodes.means in
      ap (λ v. content v (slot_of_key key.0)) (data_is c n b m is node up shown x v far within has)
      ∙ seen_locked shown.0 (one (Lock key t mode) m) key x.0 t (raised (mode_of m.locks key t) mode) after.locked after.pages here (mode_of-taken m.locks key t mode)

  -- none is in the page that a group gets
  pub blank_shown : (key place : ℕ) (x : PageNo) (v : PageView) → free_place m key ≡ Some place → new_home m key ≡ Some x.0 → c.shape.maps ≤ x.0 → x.0 < page_count c.shape → ShowsData c n x v → IsShown c b m → content v (slot_of_key key) ≡ None
  blank_shown key place x v free page far within has shown =
      let s = shown.1.nodes in
      let here : Some (page_of_place m.shape (map_of_key m.shape key) place) ≡ Some x.0 = sym (ap (option_map (page_of_place m.shape (map_of_key m.shape key))) free) ∙ page in
      let number : x.0 ≡ page_of_place m.shape (map_of_key m.shape key) place = cc in
      ap (λ v. content v (slot_of_key key)) (data_is c n b m is node up shown x v far within has)
      ∙ ap (λ k. content (shown.0.pages k) (slot_of_key key)) number
      ∙ blank_there shown.0 m (map_of_key m.shape key) place (slot_of_key key) s.means.pages (map_of_key-below m.shape key s.means.pages.shape) free (omega arith)

  -- the record of a key, read from the page of its group by a transaction that may have the lock
  read_is : (key : Key) (t : TxnId) (mode : Mode) (page : Option PageNo) (value : Option (List ℕ)) → IsTrue (may_take (lock_answer c.shared.locks key t mode)) → option_map (λ x. x.0) page ≡ home m key.0
      → IfSome page (λ x. (c.shape.maps ≤ x.0) × (x.0 < page_count c.shape)) → IfNone page (value ≡ None) → IfSome page (λ x. (v : PageView) → ShowsData c n x v → value ≡ content v (slot_of_key key.0)) → IfSome page (λ x. (v : PageView) × ShowsData c n x v) → IsShown c b m → value ≡ seen m t key.0
  read_is key t mode None value free here within none some there shown = none ∙ sym (seen_none c b m key.0 t (sym here) shown)
  read_is key t mode (Some x) value free here within none some there shown = some there.0 there.1 ∙ seen_there key t mode x there.0 free (sym here) within.0 within.1 there.1 shown

-- it is so once the pages of the group were taken
pub taken_read : (c : Store) (n : ℕ) (b : ℕ → BlockState) (m : Machine) → IsStore c → IsPlace n → is_up (node_at c.nodes n) ≡ true → (key : Key) (t : TxnId) (mode : Mode) (page : Option PageNo) (value : Option (List ℕ)) → IsTrue (may_take (lock_answer c.shared.locks key t mode)) → option_map (λ x. x.0) page ≡ home m key.0
    → IfSome page (λ x. (c.shape.maps ≤ x.0) × (x.0 < page_count c.shape)) → IfNone page (value ≡ None) → IfSome page (λ x. (v : PageView) → ShowsData c n x v → value ≡ content v (slot_of_key key.0)) → IfSome page (λ x. (v : PageView) × ShowsData c n x v)
    → IsShown c b (dos (takes_both m n key.0 (home m key.0)) m) → value ≡ seen m t key.0
taken_read c n b m is node up key t mode page value free here within none some there shown =
    read_is c n b (dos (takes_both m n key.0 (home m key.0)) m) is node up key t mode page value free (here ∙ sym (takes_home m n key.0 key.0 (home m key.0))) within none some there shown ∙ takes_seen m n key.0 key.0 t (home m key.0)

-- a transaction that has read its record, once the pages were taken, and then takes the lock
pub locks_behind : (c : Store) (b : ℕ → BlockState) (m : Machine) (key : Key) (t : TxnId) (mode : Mode) → IsTrue (may_take (lock_answer c.shared.locks key t mode)) → IsShown c b (dos (takes_both m t.node.0 key.0 (home m key.0)) m)
    → IsShown (with_locks c (taken c.shared.locks key t mode)) b (dos (takes_both m t.node.0 key.0 (home m key.0) ++ Lock key t mode ∷ []) m)
locks_behind c b m key t mode free shown =
    subst (IsShown (with_locks c (taken c.shared.locks key t mode)) b) (sym (dos-then (takes_both m t.node.0 key.0 (home m key.0)) (Lock key t mode ∷ []) m))
    (shown_locked c b (dos (takes_both m t.node.0 key.0 (home m key.0)) m) key t mode free shown)

-- the reply with a record that was read
pub found_is : (value : Option (List ℕ)) → reply_found (Ok value) ≡ found value
found_is None = refl
found_is (Some value) = refl

-- a page that is one of the store's data pages
pub still_within : (o : Option PageNo) (s after : Shape) (Q : PageNo → Type 0) → after ≡ s → IfSome o (λ x. (s.maps ≤ x.0) × (x.0 < page_count s) × Q x) → IfSome o (λ x. (after.maps ≤ x.0) × (x.0 < page_count after))
still_within None s after Q same within = tt
still_within (Some x) s after Q same within = subst (λ r. (r.maps ≤ x.0) × (x.0 < page_count r)) (sym same) (within.0, within.1)
