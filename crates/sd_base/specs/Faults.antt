-- Why a call that uses a device gave up.
use Rattle.std.specs.Prelude.{◌≡◌, ◌≤◌, ℕ, List, Some, None, Result, Ok, Err}
use Rattle.std.proofs.Common.{arith, inl, inr, subst, sym}
use Rattle.std.proofs.lemmas.Bool.{cases_eq}
use Rattle.sd_base.specs.Disk.{BlockState, DiskState, Rose, Rose-after}
use Rattle.sd_base.specs.Calls.{Keeps, Settles}
use Rattle.sd_base.specs.declared.fault.DevFault.{DevFault}
use Rattle.sd_base.specs.declared.fault.DevFault.TheVariants.{Stopped, Failed, Lost, Damaged}

-- no count has fallen
pub record Grew (a b : DiskState) : Type 0 where
  pub faults : (p : ℕ) → a.faults p ≤ b.faults p
  pub cuts : (p : ℕ) → a.cuts p ≤ b.cuts p

-- a stop or a failure comes only where that count of its port rose
abbrev pub Caused : DevFault → DiskState → DiskState → Type 0
Caused (Stopped n) a b = Rose (a.cuts n.0) (b.cuts n.0)
Caused (Failed n) a b = Rose (a.faults n.0) (b.faults n.0)
Caused (Lost at) a b = Unit {0}
Caused (Damaged at) a b = Unit {0}

pub Grew-keeps : (n : ℕ) (a b : DiskState) → Keeps n a b → Grew a b
Grew-keeps n a b k = record {
  faults = λ p. elim (cases_eq p n) [
    | inl e ↦ let P : ℕ → Type 0 = λ j. a.faults j ≤ b.faults j in subst P (sym e) k.faults
    | inr ne ↦ omega (arith, k.other_faults p ne)
  ];
  cuts = λ p. elim (cases_eq p n) [
    | inl e ↦ let P : ℕ → Type 0 = λ j. a.cuts j ≤ b.cuts j in subst P (sym e) k.cuts
    | inr ne ↦ omega (arith, k.other_cuts p ne)
  ];
}

pub Grew-then : (a b c : DiskState) → Grew a b → Grew b c → Grew a c
Grew-then a b c p q = record {
  faults = λ n. omega (arith, p.faults n, q.faults n);
  cuts = λ n. omega (arith, p.cuts n, q.cuts n);
}

pub Grew-same : (a : DiskState) → Grew a a
Grew-same a = record { faults = λ n. omega arith; cuts = λ n. omega arith }

pub Caused-after : (e : DevFault) (a b c : DiskState) → Grew a b → Caused e b c → Caused e a c
Caused-after (Stopped n) a b c g r = Rose-after (a.cuts n.0) (b.cuts n.0) (c.cuts n.0) (g.cuts n.0) r
Caused-after (Failed n) a b c g r = Rose-after (a.faults n.0) (b.faults n.0) (c.faults n.0) (g.faults n.0) r
Caused-after (Lost at) a b c g r = tt
Caused-after (Damaged at) a b c g r = tt

-- the port stopped or failed
abbrev pub IsStopOf : ℕ → DevFault → Type 0
IsStopOf port (Stopped n) = n.0 ≡ port
IsStopOf port (Failed n) = n.0 ≡ port
IsStopOf port (Lost at) = ⊥
IsStopOf port (Damaged at) = ⊥

-- why a read of this block through the port gives up
abbrev pub IsReadFault : ℕ → ℕ → DevFault → Type 0
IsReadFault port block (Stopped n) = n.0 ≡ port
IsReadFault port block (Failed n) = n.0 ≡ port
IsReadFault port block (Lost at) = at.0 ≡ block
IsReadFault port block (Damaged at) = ⊥

-- P where the port neither stopped nor failed
abbrev pub StaysLive : {T : Type 0} → Result T DevFault → Type 0 → Type 0
StaysLive (Ok x) P = P
StaysLive (Err (Stopped n)) P = Unit {0}
StaysLive (Err (Failed n)) P = Unit {0}
StaysLive (Err (Lost at)) P = P
StaysLive (Err (Damaged at)) P = P

-- P where the port stopped or failed
abbrev pub OnStop : DevFault → Type 0 → Type 0
OnStop (Stopped n) P = P
OnStop (Failed n) P = P
OnStop (Lost at) P = Unit {0}
OnStop (Damaged at) P = Unit {0}

-- what a read says of the block and of the buffer: it changes no block unless the port stopped
abbrev pub ReadsBlock : {T : Type 0} → Result T DevFault → ℕ → ℕ → List ℕ → (ℕ → BlockState) → (ℕ → BlockState) → Type 0
ReadsBlock (Ok x) n at out old new = ((old at).current ≡ Some out) × (new ≡ old)
ReadsBlock (Err (Stopped m)) n at out old new = Settles n old new
ReadsBlock (Err (Failed m)) n at out old new = Settles n old new
ReadsBlock (Err (Lost b)) n at out old new = ((old at).current ≡ None) × (new ≡ old)
ReadsBlock (Err (Damaged b)) n at out old new = ⊥
