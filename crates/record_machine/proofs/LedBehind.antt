-- How far a call has led the machine that comes behind a part which is done.
use Rattle.std.specs.Prelude.{◌≡◌, ◌∷◌, ℕ, suc, false, List, Result, Ok, Err, take}
use Rattle.std.proofs.lemmas.List.Elements.{All-cons}
use Rattle.script_text.specs.declared.reply.Reply.{Reply}
use Rattle.script_text.specs.declared.reply.Reply.TheVariants as says
use Rattle.record_machine.specs.Led.{Broke, Led, LedErr, is_unlock}
use Rattle.record_machine.specs.Machine.{Machine}
use Rattle.record_machine.specs.Parts.{Part, one}

module _ (n : ℕ) (part : Part) (ps : List Part) (m : Machine) (S : Machine → Type 0) (locks : is_unlock part ≡ false) where
  broke_behind : (h : ℕ) → Broke n h ps (one part m) S → Broke n h (part ∷ ps) m S
  broke_behind h b = record { count = suc b.count; locked = All-cons (λ p. is_unlock p ≡ false) part (take b.count ps) locks b.locked; port = b.port; kept = b.kept; within = b.within; shows = b.shows }

  err_behind : (why : Reply) → LedErr n why ps (one part m) S → LedErr n why (part ∷ ps) m S
  err_behind (says.Stopped h) b = broke_behind h.0 b
  err_behind (says.Fault h) b = broke_behind h.0 b
  err_behind why b = absurd b

  -- the part, which releases no lock, is one of those that it did, or of the front that was done as it broke
  pub led_behind : {A : Type 0} (r : Result A Reply) → Led n r ps (one part m) S → Led n r (part ∷ ps) m S
  led_behind (Ok x) s = s
  led_behind (Err why) b = err_behind why b
