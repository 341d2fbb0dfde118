-- Calls that read and write pages alone, one after the other.
use Rattle.std.proofs.Common.{◌≡◌, ◌≢◌, ◌<◌, ◌≤◌, ◌+◌, ◌⊎◌, ℕ, Bool, true, List, Option, Some, None, IsTrue, inl, inr, refl, ap, sym, ◌∙◌, subst, arith}
use Rattle.std.specs.Prelude.{Result, Ok, Err, IfErr, OnOk}
use Rattle.std.specs.Result.{IsErrAnd}
use Rattle.sd_base.specs.Disk.{BlockState, DiskState, MayHold}
use Rattle.sd_base.specs.Faults.{StaysLive}
use Rattle.sd_base.specs.declared.fault.DevFault.{DevFault}
use Rattle.sd_base.specs.declared.fault.DevFault.TheVariants.{Stopped, Failed, Lost, Damaged}
use Rattle.sd_base.specs.Outcomes.{among}
use Rattle.sd_base.specs.Calls.{Keeps, Keeps-then, Narrows, KeepsForeign, KeepsForeignBut, NoNewWriter}
use Rattle.sd_base.specs.Shape.{first_page, page_count}
use Rattle.sd_base.specs.declared.names.PageNo.{PageNo}
use Rattle.sd_base.specs.declared.shape.Shape.{Shape}
use Rattle.state_ids.specs.PageImage.{PageImage}
use Rattle.state_ids.specs.Blocks.{HoldsPage, page_place}
use Rattle.one_log_redo.specs.Pages.{AreInReach, AreStill, IsReady, KeepsPages, NarrowsToImages, UsesPages}

-- what follows where there is a value, of two facts
pub ok_both : {T E P Q R : Type 0} (r : Result T E) → OnOk r P → OnOk r Q → (P → Q → R) → OnOk r R
ok_both (Ok x) p q f = f p q
ok_both (Err e) p q f = tt

-- and where the port goes on after a fault that is passed on
pub err_stays : (T U : Type 0) {P Q : Type 0} (e : DevFault) → StaysLive {T = T} (Err e) P → (P → Q) → StaysLive {T = U} (Err e) Q
err_stays T U (Stopped n) p f = tt
err_stays T U (Failed n) p f = tt
err_stays T U (Lost at) p f = f p
err_stays T U (Damaged at) p f = f p

-- what holds of a fault that is passed on
pub passed_on : {T E : Type 0} (r : Result T E) (P Q : E → Type 0) → IsErrAnd r P → ((why : E) → P why → Q why) → IfErr r Q
passed_on (Ok x) P Q is then = tt
passed_on (Err why) P Q is then = then why is

-- a call that does nothing
pub keeps_none : (n : ℕ) (a : DiskState) → Keeps n a a
keeps_none n a = record { name = refl; size = refl; reach = refl; below = refl; orders = refl; live = λ m far. refl; other_faults = λ m far. refl; other_cuts = λ m far. refl; faults = omega arith; cuts = omega arith }

module _ (s : Shape) (n : ℕ) (told : Bool) where
  pub uses_none : (a : DiskState) → UsesPages s n told a a
  uses_none a = record { keeps = keeps_none n a; beside = λ t k far w. refl }

  pub uses_then : (a b c : DiskState) → UsesPages s n told a b → UsesPages s n told b c → UsesPages s n told a c
  uses_then a b c p q = record {
    keeps = Keeps-then n a b c p.keeps q.keeps;
    beside = λ t k far w.
        let same = p.beside t k far w in
        q.beside t k far (λ e. w (ap (λ (x : BlockState). x.writer) (sym same) ∙ e)) ∙ same;
  }

  -- a read
  pub uses_read : (a b : DiskState) → Keeps n a b → (IsTrue told → KeepsForeign n a.block b.block) → UsesPages s n told a b
  uses_read a b keeps foreign = record { keeps = keeps; beside = λ t k far w. foreign t k w }

  pub ready_then : (a b : DiskState) → IsReady told s n a → Keeps n a b → b.live n ≡ true → (IsTrue told → AreStill s b.block) → IsReady told s n b
  ready_then a b ready keeps live still = record {
    shape = ready.shape;
    port = ready.port;
    live = live;
    reach = λ x lt. ap (λ (r : ℕ → Bool). r (page_place s x)) keeps.reach ∙ ready.reach x lt;
    still = still;
  }

module _ (s : Shape) where
  pub still_read : (old new : ℕ → BlockState) → AreStill s old → NoNewWriter old new → AreStill s new
  still_read old new still writers = λ x lt. elim (writers (page_place s x)) [
    | inl same ↦ same ∙ still x lt
    | inr none ↦ none
  ]

  pub keeps_pages_none : (b : ℕ → BlockState) → KeepsPages s b b
  keeps_pages_none b = record { beside = λ k far. refl; pages = λ x i lt h. (i, h) }

  pub keeps_pages_same : (old new : ℕ → BlockState) → new ≡ old → KeepsPages s old new
  keeps_pages_same old new e = subst (KeepsPages s old) (sym e) (keeps_pages_none old)

  pub keeps_pages_then : (a b c : ℕ → BlockState) → KeepsPages s a b → KeepsPages s b c → KeepsPages s a c
  keeps_pages_then a b c p q = record {
    beside = λ k far. q.beside k far ∙ p.beside k far;
    pages = λ x i lt h. let there = p.pages x i lt h in q.pages x there.0 lt there.1;
  }

  pub narrows_none : (images : ℕ → PageImage) (b : ℕ → BlockState) → NarrowsToImages s images b b
  narrows_none images b = λ k o may. inl may

  pub narrows_read : (images : ℕ → PageImage) (old new : ℕ → BlockState) → Narrows old new → NarrowsToImages s images old new
  narrows_read images old new narrows = λ k o may. inl (narrows k o may)

  pub narrows_then : (images : ℕ → PageImage) (a b c : ℕ → BlockState) → NarrowsToImages s images a b → NarrowsToImages s images b c → NarrowsToImages s images a c
  narrows_then images a b c p q = λ k o may. elim (q k o may) [
    | inl was ↦ p k o was
    | inr w ↦ inr w
  ]

  -- the blocks of two pages
  pub place_one : (x y : PageNo) → page_place s x ≡ page_place s y → x.0 ≡ y.0
  place_one x y e = omega (arith, e)
