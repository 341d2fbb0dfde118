-- A log through a record that is appended and made stable.
use Rattle.std.specs.Prelude.{◌≡◌, ◌≢◌, ◌≤◌, ◌+◌, ◌-◌, ◌/◌, ◌%◌, ℕ, List, Option}
use Rattle.std.proofs.Common.{arith, ap, sym, inl, inr}
use Rattle.std.proofs.lemmas.Bool.{cases_eq}
use Rattle.private_log.specs.Content.{HoldsFront, place}
use Rattle.private_log.specs.Log.{LogState, SameLog, next_place, region, tail_place, written}
use Rattle.private_log.proofs.LogLaws.{carry}
use Rattle.private_log.proofs.Outcomes.{less_front}

-- what was stable is stable still
pub raised : (l m : LogState) → (((l.tail + 1) % 6 ≢ 0) → m.stable ≡ l.stable) → (((l.tail + 1) % 6 ≡ 0) → m.stable ≡ written l) → l.stable ≤ m.stable
raised l m memory full = elim (cases_eq ((l.tail + 1) % 6) 0) [
  | inl e ↦ let is = full e in omega (arith, is)
  | inr ne ↦ let is = memory ne in omega (arith, is)
]

same_back : (l m : LogState) → SameLog l m → SameLog m l
same_back l m same = record { shape = sym same.shape; node = sym same.node; start = sym same.start }

pub front_since : (l m : LogState) (xs : List (List ℕ)) (image : ℕ → Option (List ℕ)) → SameLog l m → l.stable ≤ m.stable → HoldsFront (region m) m.start m.stable xs image → HoldsFront (region l) l.start l.stable xs image
front_since l m xs image same more front = carry m l (λ g start. HoldsFront g start l.stable xs image) (same_back l m same) (less_front (region m) m.start m.stable l.stable xs image more front)

-- the last record stands in the block into which the next one went
pub tail_is_next : (l m : LogState) → SameLog l m → m.tail ≡ l.tail + 1 → tail_place m ≡ next_place l
tail_is_next l m same more =
    let before : m.tail - 1 ≡ l.tail = omega (arith, more) in
    carry l m (λ g start. place g ((m.tail - 1) / 6) ≡ next_place l) same (ap (λ t. place (region l) (t / 6)) before)
