-- What the calls of a device do to what it means. Here n is the port of the call.
use Rattle.std.specs.Prelude.{◌≡◌, ◌≢◌, ◌⊎◌, ◌+◌, ◌-◌, ◌≤◌, ◌^◌, ℕ, List, Option, Some, None, min}
use Rattle.std.proofs.Common.{◌∙◌, arith}
use Rattle.sd_base.specs.Disk.{BlockState, DiskState, MayHold, Holds, IsCovered, IsFreeFor}

-- the call changes neither the device's extent nor another port, and no count falls
pub record Keeps (n : ℕ) (old new : DiskState) : Type 0 where
  pub name : new.name ≡ old.name
  pub size : new.size ≡ old.size
  pub reach : new.reach ≡ old.reach
  pub below : new.below ≡ old.below
  pub orders : new.orders ≡ old.orders
  pub live : (m : ℕ) → m ≢ n → new.live m ≡ old.live m
  pub other_faults : (m : ℕ) → m ≢ n → new.faults m ≡ old.faults m
  pub other_cuts : (m : ℕ) → m ≢ n → new.cuts m ≡ old.cuts m
  pub faults : old.faults n ≤ new.faults n
  pub cuts : old.cuts n ≤ new.cuts n

-- neither count of the port has changed
pub record CountsStay (n : ℕ) (old new : DiskState) : Type 0 where
  pub faults : new.faults n ≡ old.faults n
  pub cuts : new.cuts n ≡ old.cuts n

-- one more order was given, and neither the extent nor a port has changed
pub record IsOrdered (old new : DiskState) : Type 0 where
  pub name : new.name ≡ old.name
  pub size : new.size ≡ old.size
  pub reach : new.reach ≡ old.reach
  pub below : new.below ≡ old.below
  pub live : new.live ≡ old.live
  pub faults : new.faults ≡ old.faults
  pub cuts : new.cuts ≡ old.cuts
  pub orders : new.orders ≡ min (old.orders + 1) (2 ^ 64 - 1)

-- no block has a new outcome
abbrev pub Narrows : (ℕ → BlockState) → (ℕ → BlockState) → Type 0
Narrows old new = (k : ℕ) (o : Option (List ℕ)) → MayHold new k o → MayHold old k o

-- no block has a new outcome, but for this content of this block
abbrev pub NarrowsBut : ℕ → List ℕ → (ℕ → BlockState) → (ℕ → BlockState) → Type 0
NarrowsBut at content old new =
    (k : ℕ) (o : Option (List ℕ)) → MayHold new k o → MayHold old k o ⊎ ((k ≡ at) × (o ≡ Some content))

-- no block has a new writer
abbrev pub NoNewWriter : (ℕ → BlockState) → (ℕ → BlockState) → Type 0
NoNewWriter old new = (k : ℕ) → ((new k).writer ≡ (old k).writer) ⊎ ((new k).writer ≡ None)

-- no block has a new writer, but for the port at this block
abbrev pub NoNewWriterBut : ℕ → ℕ → (ℕ → BlockState) → (ℕ → BlockState) → Type 0
NoNewWriterBut at n old new =
    (k : ℕ) → ((new k).writer ≡ (old k).writer) ⊎ ((new k).writer ≡ None) ⊎ ((k ≡ at) × ((new k).writer ≡ Some n))

-- the blocks that the port had not written stay
abbrev pub KeepsForeign : ℕ → (ℕ → BlockState) → (ℕ → BlockState) → Type 0
KeepsForeign n old new = (k : ℕ) → (old k).writer ≢ Some n → new k ≡ old k

-- the blocks that the port had not written stay, but for this one
abbrev pub KeepsForeignBut : ℕ → ℕ → (ℕ → BlockState) → (ℕ → BlockState) → Type 0
KeepsForeignBut at n old new = (k : ℕ) → k ≢ at → (old k).writer ≢ Some n → new k ≡ old k

-- a write that was done
pub record Writes (n at : ℕ) (content : List ℕ) (old new : ℕ → BlockState) : Type 0 where
  pub current : (new at).current ≡ Some content
  pub writer : IsFreeFor n (new at)
  pub others : (k : ℕ) → k ≢ at → (new k).current ≡ (old k).current

-- the port has stopped: what it had written is settled
abbrev pub Settles : ℕ → (ℕ → BlockState) → (ℕ → BlockState) → Type 0
Settles n old new = (k : ℕ) → (old k).writer ≡ Some n → IsCovered new k

-- a write in which the port stopped
pub record CutsWrite (n at : ℕ) (old new : ℕ → BlockState) : Type 0 where
  pub here : IsCovered new at
  pub others : Settles n old new

-- a barrier that was done: each block that no other port has written is covered with what it holds
pub record Covers (n : ℕ) (old new : ℕ → BlockState) : Type 0 where
  pub current : (k : ℕ) → (new k).current ≡ (old k).current
  pub holds : (k : ℕ) → IsFreeFor n (old k) → Holds new k (old k).current
  pub writer : (k : ℕ) → IsFreeFor n (old k) → (new k).writer ≡ None

-- the block is lost
pub record Loses (at : ℕ) (old new : ℕ → BlockState) : Type 0 where
  pub current : (new at).current ≡ None
  pub covered : IsCovered new at
  pub others : (k : ℕ) → k ≢ at → new k ≡ old k

-- one call of a port, and then another
pub Keeps-then : (n : ℕ) (a b c : DiskState) → Keeps n a b → Keeps n b c → Keeps n a c
Keeps-then n a b c p q = record {
  name = q.name ∙ p.name;
  size = q.size ∙ p.size;
  reach = q.reach ∙ p.reach;
  below = q.below ∙ p.below;
  orders = q.orders ∙ p.orders;
  live = λ m ne. q.live m ne ∙ p.live m ne;
  other_faults = λ m ne. q.other_faults m ne ∙ p.other_faults m ne;
  other_cuts = λ m ne. q.other_cuts m ne ∙ p.other_cuts m ne;
  faults = omega (arith, p.faults, q.faults);
  cuts = omega (arith, p.cuts, q.cuts);
}
