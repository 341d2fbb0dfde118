-- How the uncovered blocks of a port are counted, and which bits of `picks` are set.
use Rattle.std.proofs.Common.{◌≡◌, ◌≢◌, ◌<◌, ◌+◌, ◌-◌, ◌^◌, ◌%◌, ℕ, Bool, true, false, List, None, refl, ap, ◌∙◌, inl, inr, arith, add-zero, IsBitSet, bit_and, mod-eq_of_lt, length, length-set, set}
use Rattle.std.proofs.lemmas.Nat.{and_comm, and_mask, pow_below, pow_pos}
use Rattle.std.proofs.Math.Nat.{mod-mod}
use Rattle.std.proofs.lemmas.Bool.{cases_eq}
use Rattle.disk_model.specs.Memory.{BlockView, view_at, block_at, stood_at, bit_at, next_at, port_at, view_of, bit_of}
use Rattle.disk_model.specs.Settling.{WritesBlock, SettlesBlock}
use Rattle.disk_model.specs.Picks.{WritesPicks, EndsPicks}
use Rattle.disk_model.specs.declared.cell.Cell.{Cell}
use Rattle.disk_model.specs.declared.cell.Mark.{Mark}
use Rattle.disk_model.specs.declared.cell.Mark.TheVariants.{Covered, Lost, Waiting}
use Rattle.disk_model.specs.declared.port.Port.{Port}
use Rattle.disk_model.proofs.Reaching.{port_at-set_same, port_at-set_other}

-- all 64 bits of the largest number are set
pub IsBitSet-ones : (k : ℕ) → k < 64 → IsBitSet (2 ^ 64 - 1) k
IsBitSet-ones k lt e =
    let is : bit_and (2 ^ 64 - 1) (2 ^ k) ≡ 2 ^ k =
    and_comm (2 ^ 64 - 1) (2 ^ k) ∙ and_mask (2 ^ k) 64 ∙ mod-eq_of_lt (pow_below k 64 lt) in
    let some : 0 < 2 ^ k = pow_pos k in
    absurd (omega (arith, is, some, e))

-- a block belongs to one of the 64 bits
pub bit_of-below : (m : Mark) → bit_of m < 64
bit_of-below Covered = omega arith
bit_of-below Lost = omega arith
bit_of-below (Waiting port was_lost bit) = omega arith

-- of a block that does not wait there stands what is current
stood_of-covered : (m : Mark) (now before : List ℕ) → (view_of m now before).state.writer ≡ None → (view_of m now before).stood ≡ (view_of m now before).state.current
stood_of-covered Covered now before e = refl
stood_of-covered Lost now before e = refl
stood_of-covered (Waiting port was_lost bit) now before e = cc

-- a barrier or a stop, by what it does to each block
pub EndsPicks-settles : (cells cells' : List Cell) (copies : List (List ℕ)) (ports : List Port) (n : ℕ) (port : Port) → n < length ports → port.next_bit ≡ 0 → ((k : ℕ) → SettlesBlock n (view_at cells copies k) (view_at cells' copies k)) → EndsPicks n (block_at cells copies) record { stood = stood_at cells copies; bit = bit_at cells; next = next_at ports } record { stood = stood_at cells' copies; bit = bit_at cells'; next = next_at (set ports n port) }
EndsPicks-settles cells cells' copies ports n port lt zero each = record {
  next = ap (λ (p : Port). p.next_bit % 64) (port_at-set_same ports n port lt) ∙ ap (λ bit. bit % 64) zero;
  stood = λ k other. ap (λ (b : BlockView). b.stood) ((each k).foreign other);
  bit = λ k other. ap (λ (b : BlockView). b.bit) ((each k).foreign other);
  other_ports = λ m ne. ap (λ (p : Port). p.next_bit % 64) (port_at-set_other ports n m port ne);
}

-- a write, by what it does to its block: the port is first widened to `port` and counts on to `port'`
pub WritesPicks-writes : (cells cells' : List Cell) (copies copies' : List (List ℕ)) (ports : List Port) (n at step : ℕ) (port port' : Port) (content : List ℕ) (is_first : Bool) → n < length ports → WritesBlock n content (port.next_bit % 64 % 64) is_first (view_at cells copies at) (view_at cells' copies' at) → ((k : ℕ) → k ≢ at → view_at cells' copies' k ≡ view_at cells copies k) → port.next_bit ≡ (port_at ports n).next_bit → port'.next_bit ≡ port.next_bit % 64 + step → (is_first ≡ true → step ≡ 1) → (is_first ≡ false → step ≡ 0) → WritesPicks n at (block_at cells copies) record { stood = stood_at cells copies; bit = bit_at cells; next = next_at ports } record { stood = stood_at cells' copies'; bit = bit_at cells'; next = next_at (set (set ports n port) n port') }
WritesPicks-writes cells cells' copies copies' ports n at step port port' content is_first lt here others next next' one zero =
    let ports' = set (set ports n port) n port' in
    let same_length : length (set ports n port) ≡ length ports = length-set ports n port in
    let counted : next_at ports' n ≡ (next_at ports n + step) % 64 =
    ap (λ (p : Port). p.next_bit % 64) (port_at-set_same (set ports n port) n port' (omega (arith, same_length)))
    ∙ ap (λ bit. bit % 64) (next' ∙ ap (λ bit. bit % 64 + step) next) in record {
      stood = λ k. elim (cases_eq k at) [
        | inl e ↦ rw e here.stood
        | inr ne ↦ ap (λ (b : BlockView). b.stood) (others k ne)
      ];
      stands = λ none. here.stood ∙ stood_of-covered _ _ _ none;
      first_bit = λ none. (here.first none).1 ∙ mod-mod port.next_bit 64 ∙ ap (λ bit. bit % 64) next;
      first_next = λ none. counted ∙ ap (λ s. (next_at ports n + s) % 64) (one (here.first none).0);
      again_bit = λ mine. (here.again mine).1;
      again_next = λ mine. counted ∙ ap (λ s. (next_at ports n + s) % 64) (zero (here.again mine).0) ∙ ap (λ bit. bit % 64) (add-zero (next_at ports n)) ∙ mod-mod (port_at ports n).next_bit 64;
      other_bits = λ k ne. ap (λ (b : BlockView). b.bit) (others k ne);
      other_ports = λ m ne. ap (λ (p : Port). p.next_bit % 64) (port_at-set_other (set ports n port) n m port' ne ∙ port_at-set_other ports n m port ne);
    }
