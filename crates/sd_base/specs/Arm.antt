-- What is armed at a device, and what the orders to arm it change. Here n is the port of the call.
use Rattle.std.specs.Prelude.{◌≡◌, ◌≢◌, ℕ}

-- What is armed at a port. Of each count, 0 says that it is disarmed.
pub record Armed : Type 0 where
  -- the write that is to be cut, where 1 is the port's next one
  pub writes : ℕ
  -- what the blocks are to hold then
  pub picks : ℕ
  -- the read, write or barrier that is to fail, where 1 is the port's next one
  pub calls : ℕ

-- a cut was ordered, and nothing else of what is armed has changed
pub record ArmsCut (n writes picks : ℕ) (old new : ℕ → Armed) : Type 0 where
  pub here : new n ≡ record { writes = writes; picks = picks; calls = (old n).calls }
  pub others : (m : ℕ) → m ≢ n → new m ≡ old m

-- a failure was ordered, and nothing else of what is armed has changed
pub record ArmsFault (n calls : ℕ) (old new : ℕ → Armed) : Type 0 where
  pub here : new n ≡ record { writes = (old n).writes; picks = (old n).picks; calls = calls }
  pub others : (m : ℕ) → m ≢ n → new m ≡ old m
