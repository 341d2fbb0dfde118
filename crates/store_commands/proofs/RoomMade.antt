-- What a command leaves of the blocks of pages: some made room for others in the node's cache, and others were given up by
-- the nodes that had them.
use Rattle.std.specs.Prelude.{◌≡◌, ◌≢◌, ◌⊎◌, ◌≤◌, ◌<◌, ℕ, Some, None, refl}
use Rattle.std.proofs.Common.{arith, inl, inr, ap, subst, sym, ◌∙◌}
use Rattle.sd_base.specs.Disk.{BlockState}
use Rattle.sd_base.specs.Places.{map_of_data}
use Rattle.sd_base.specs.Shape.{page_count}
use Rattle.sd_base.specs.declared.device.NodeId.{NodeId}
use Rattle.sd_base.specs.declared.names.Key.{Key}
use Rattle.sd_base.specs.declared.names.PageNo.{PageNo}
use Rattle.sd_base.specs.declared.shape.Shape.{Shape}
use Rattle.page_owner.specs.declared.owners.Own.{Own}
use Rattle.page_owner.specs.declared.owners.Own.TheVariants.{Nobody, Out, Parked}
use Rattle.page_owner.specs.Owners.{owner_of}
use Rattle.node_cache.specs.Room.{IsOpenTo}
use Rattle.store_nodes.specs.declared.store.Store.{Store}
use Rattle.store_nodes.specs.Footprint.{IsFull, KeepsCache, KeepsHoldersBut, KeepsPage, TookPage}
use Rattle.store_nodes.specs.Pages.{HasCached}
use Rattle.store_nodes.specs.Shows.{holder}
use Rattle.store_commands.specs.AtHand.{MakesRoomWith}
use Rattle.store_commands.specs.Reasons.{IsPageFor}

-- ---- whether a node may have a page hangs on the node that holds it

open_holder : (n : NodeId) (own : Own) → IsOpenTo n own → (holder own ≡ None) ⊎ (holder own ≡ Some n.0)
open_holder n own (inl nobody) = inl (ap holder nobody)
open_holder n own (inr (inl parked)) = inr (ap holder parked)
open_holder n own (inr (inr out)) = inr (ap holder out)

holder_open : (n : NodeId) (own : Own) → (holder own ≡ None) ⊎ (holder own ≡ Some n.0) → IsOpenTo n own
holder_open n Nobody is = inl refl
holder_open n (Parked k) (inl none) = cc
holder_open n (Parked k) (inr mine) = let same : k.0 ≡ n.0 = cc in inr (inl (ap (λ i. Parked (record { 0 = i })) same))
holder_open n (Out k) (inl none) = cc
holder_open n (Out k) (inr mine) = let same : k.0 ≡ n.0 = cc in inr (inr (ap (λ i. Out (record { 0 = i })) same))

open_held : (n : NodeId) (a b : Own) → holder b ≡ holder a → IsOpenTo n a → IsOpenTo n b
open_held n a b same opens = holder_open n b (elim (open_holder n a opens) [ inl none ↦ inl (same ∙ none) | inr mine ↦ inr (same ∙ mine) ])

-- ---- one page, and two

-- what a page leaves of the block of another one
abbrev AsTaken : NodeId → PageNo → Shape → Store → Store → (ℕ → BlockState) → (ℕ → BlockState) → PageNo → Type 0
AsTaken n x s c d old new y = KeepsPage s y old new ⊎ (HasCached c n.0 y × IsFull d n.0 × (s.maps ≤ x.0 → y ≢ map_of_data s x)) ⊎ ((y ≡ x) × ¬ (IsOpenTo n (owner_of c.shared.owners x.0)))

abbrev AsLeft : NodeId → Key → Store → Store → (ℕ → BlockState) → (ℕ → BlockState) → PageNo → Type 0
AsLeft n key c d old new y = KeepsPage c.shape y old new ⊎ (HasCached c n.0 y × IsFull d n.0) ⊎ (IsPageFor c.shape key y × ¬ (IsOpenTo n (owner_of c.shared.owners y.0)))

module _ (n : NodeId) (key : Key) where
  -- a page that another node had
  given : (c : Store) (x y : PageNo) → IsPageFor c.shape key x → y ≡ x → ¬ (IsOpenTo n (owner_of c.shared.owners x.0)) → IsPageFor c.shape key y × ¬ (IsOpenTo n (owner_of c.shared.owners y.0))
  given c x y page is other = subst (λ z. IsPageFor c.shape key z × ¬ (IsOpenTo n (owner_of c.shared.owners z.0))) (sym is) (page, other)

  pub room_alone : (x : PageNo) (c d : Store) (a b : ℕ → BlockState) → IsPageFor c.shape key x → TookPage n x c d a b → MakesRoomWith n key c d a b
  room_alone x c d a b page took = λ y low. by y (took.room y low)
    where
      by : (y : PageNo) → AsTaken n x c.shape c d a b y → AsLeft n key c d a b y
      by y (inl same) = inl same
      by y (inr (inl room)) = inr (inl (room.0, room.1))
      by y (inr (inr other)) = inr (inr (given c x y page other.0 other.1))

  -- a data page behind its map page
  pub room_both : (map x : PageNo) (c m d : Store) (a b e : ℕ → BlockState) → m.shape ≡ c.shape → map.0 < c.shape.maps → c.shape.maps ≤ x.0 → map_of_data c.shape x ≡ map → IsPageFor c.shape key map → IsPageFor c.shape key x
      → KeepsHoldersBut map c m → TookPage n map c m a b → TookPage n x m d b e → MakesRoomWith n key c d a e
  room_both map x c m d a b e shape low far is map_page page holds first next =
      λ y within. by y (first.room y within) (subst (λ s. AsTaken n x s m d b e y) shape (next.room y (subst (λ s. y.0 < page_count s) (sym shape) within)))
    where
      apart : x ≢ map
      apart same = let number = ap (λ (z : PageNo). z.0) same in absurd (omega (arith, low, far, number))

      by : (y : PageNo) → AsTaken n map c.shape c m a b y → AsTaken n x c.shape m d b e y → AsLeft n key c d a e y
      by y (inr (inl room)) other = inr (inl (room.0, next.full room.1))
      by y (inr (inr had)) other = inr (inr (given c map y map_page had.0 had.1))
      by y (inl same) (inl too) = inl (too ∙ same)
      by y (inl same) (inr (inl room)) = elim (first.came y room.0) [
        | inl here ↦ absurd (room.2 far (here ∙ sym is))
        | inr there ↦ inr (inl (there, room.1))
      ]
      by y (inl same) (inr (inr had)) = inr (inr (given c x y page had.0 (λ opens. had.1 (open_held n (owner_of c.shared.owners x.0) (owner_of m.shared.owners x.0) (holds x apart) opens))))

  -- ---- behind them a page is changed in memory

  pub room_then : (c m d : Store) (a b e : ℕ → BlockState) → m.shape ≡ c.shape → MakesRoomWith n key c m a b → KeepsCache n.0 m d b e → MakesRoomWith n key c d a e
  room_then c m d a b e shape made kept = λ y low. by y (made y low) (subst (λ s. KeepsPage s y b e) shape (kept.pages y (subst (λ s. y.0 < page_count s) (sym shape) low)))
    where
      by : (y : PageNo) → AsLeft n key c m a b y → KeepsPage c.shape y b e → AsLeft n key c d a e y
      by y (inl same) still = inl (still ∙ same)
      by y (inr (inl room)) still = inr (inl (room.0, kept.full room.1))
      by y (inr (inr other)) still = inr (inr other)

pub took_then : (n : NodeId) (x : PageNo) (c m d : Store) (a b e : ℕ → BlockState) → m.shape ≡ c.shape → TookPage n x c m a b → KeepsCache n.0 m d b e → TookPage n x c d a e
took_then n x c m d a b e shape took kept = record {
  came = λ y has. took.came y (kept.cached y has);
  full = λ full. kept.full (took.full full);
  room = λ y low. by y (took.room y low) (subst (λ s. KeepsPage s y b e) shape (kept.pages y (subst (λ s. y.0 < page_count s) (sym shape) low)));
}
  where
    by : (y : PageNo) → AsTaken n x c.shape c m a b y → KeepsPage c.shape y b e → AsTaken n x c.shape c d a e y
    by y (inl same) still = inl (still ∙ same)
    by y (inr (inl room)) still = inr (inl (room.0, kept.full room.1, room.2))
    by y (inr (inr other)) still = inr (inr other)
