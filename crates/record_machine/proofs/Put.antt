-- A function that is changed at one argument.
use Rattle.std.specs.Prelude.{◌≡◌, ◌≢◌, ◌==◌, ℕ, Bool, true, false, refl}
use Rattle.std.proofs.Common.{sym, subst, ◌∙◌}
use Rattle.std.proofs.lemmas.Bool.{eq-eqb, eqb-true}
use Rattle.record_machine.specs.Machine.{put}

pub put_same : {A : Type 0} (n : ℕ) (a : A) (f : ℕ → A) (k : ℕ) → k ≡ n → put n a f k ≡ a
put_same n a f k same = rw (eq-eqb k n same) refl

-- what holds at that argument and at each other one
pub at_or_off : {A : Type 0} (P : A → Type 0) (n : ℕ) (a : A) (f : ℕ → A) (k : ℕ) → (k ≡ n → P a) → (k ≢ n → P (f k)) → P (put n a f k)
at_or_off P n a f k at off = by (k == n) refl
  where
    by : (b : Bool) → (k == n) ≡ b → P (put n a f k)
    by true is = rw is (at (eqb-true k n is))
    by false is = rw is (off (λ e. let never : true ≡ false = sym (eq-eqb k n e) ∙ is in cc))

pub put_other : {A : Type 0} (n : ℕ) (a : A) (f : ℕ → A) (k : ℕ) → k ≢ n → put n a f k ≡ f k
put_other n a f k other = at_or_off (λ b. b ≡ f k) n a f k (λ same. absurd (other same)) (λ off. refl)

-- what holds of a number, and of each that passed, holds of each that passes with it
pub put_true : (test : ℕ → Bool) (n : ℕ) (P : ℕ → Type 0) → P n → ((k : ℕ) → test k ≡ true → P k) → (k : ℕ) → put n true test k ≡ true → P k
put_true test n P here was k = at_or_off (λ b. b ≡ true → P k) n true test k (λ same e. subst P (sym same) here) (λ off e. was k e)
