-- How the blocks that wait stay in reach of their ports.
use Rattle.std.proofs.Common.{◌≡◌, ◌≢◌, ◌<◌, ◌≤◌, ℕ, false, List, Some, None, refl, sym, ap, ◌∙◌, inl, inr, arith, length, set, replicate, get_or-set_same, get_or-set_other}
use Rattle.std.proofs.lemmas.List.{get_or-replicate, get_or_past, length-replicate}
use Rattle.std.proofs.lemmas.Bool.{cases_eq, cases_lt}
use Rattle.disk_model.specs.Memory.{waiter_at, cell_at, port_at}
use Rattle.disk_model.specs.Reached.{Reaches, IsReached}
use Rattle.disk_model.specs.declared.cell.Cell.{Cell}
use Rattle.disk_model.specs.declared.cell.Mark.TheVariants.{Covered}
use Rattle.disk_model.specs.declared.port.Port.{Port}

-- the port that was written
pub port_at-set_same : (ports : List Port) (n : ℕ) (port : Port) → n < length ports → port_at (set ports n port) n ≡ port
port_at-set_same ports n port lt = get_or-set_same ports n port _ lt

-- another port than the one that was written
pub port_at-set_other : (ports : List Port) (n m : ℕ) (port : Port) → m ≢ n → port_at (set ports n port) m ≡ port_at ports m
port_at-set_other ports n m port ne = get_or-set_other ports n m port _ ne

-- a port that reaches as far as before, or further
pub IsReached-widen : (cells : List Cell) (ports : List Port) (n : ℕ) (port : Port) → IsReached cells ports → n < length ports → port.first ≤ (port_at ports n).first → (port_at ports n).end ≤ port.end → port.end ≤ length cells → IsReached cells (set ports n port)
IsReached-widen cells ports n port reached lt first end within =
    let here : port_at (set ports n port) n ≡ port = port_at-set_same ports n port lt in record {
      ends = λ m. elim (cases_eq m n) [
        | inl e ↦ rw (e, here) within
        | inr ne ↦ rw (port_at-set_other ports n m port ne) (reached.ends m)
      ];
      waiting = λ m k w. let old = reached.waiting m k w in elim (cases_eq m n) [
        | inl e ↦
            let is : port_at (set ports n port) m ≡ port = rw e here in
            let was : port_at ports m ≡ port_at ports n = ap (port_at ports) e in
            let old_first : (port_at ports n).first ≤ k = rw e at old.first in
            let old_end : k < (port_at ports n).end = rw e at old.end in record {
              port = old.port;
              first = rw is (omega arith);
              end = rw is (omega arith);
            }
        | inr ne ↦ let is = port_at-set_other ports n m port ne in record {
          port = old.port;
          first = rw is old.first;
          end = rw is old.end;
        }
      ];
    }

-- a port that reaches no block, where none waits for it
pub IsReached-clear : (cells cells' : List Cell) (ports : List Port) (n : ℕ) (port : Port) → IsReached cells ports → n < length ports → port.end ≡ 0 → length cells' ≡ length cells → ((k m : ℕ) → waiter_at cells' k ≡ Some m → (waiter_at cells k ≡ Some m) × (m ≢ n)) → IsReached cells' (set ports n port)
IsReached-clear cells cells' ports n port reached lt none len waits =
    let here : port_at (set ports n port) n ≡ port = port_at-set_same ports n port lt in record {
      ends = λ m. elim (cases_eq m n) [
        | inl e ↦ rw (e, here, none) (omega arith)
        | inr ne ↦ let is = port_at-set_other ports n m port ne in let old = reached.ends m in rw (is, len) old
      ];
      waiting = λ m k w.
          let was = waits k m w in
          let old = reached.waiting m k was.0 in
          let is = port_at-set_other ports n m port was.1 in record {
            port = old.port;
            first = rw is old.first;
            end = rw is old.end;
          };
    }

-- a block that a port reaches is written
pub IsReached-write : (cells cells' : List Cell) (ports : List Port) (n at : ℕ) → IsReached cells ports → length cells' ≡ length cells → ((k : ℕ) → k ≢ at → waiter_at cells' k ≡ waiter_at cells k) → waiter_at cells' at ≡ Some n → Reaches ports n at → IsReached cells' ports
IsReached-write cells cells' ports n at reached len others here reaches = record {
  ends = λ m. rw len (reached.ends m);
  waiting = λ m k w. elim (cases_eq k at) [
    | inl e ↦
        let mine : Some n ≡ Some m = sym here ∙ rw e at w in
        let same : n ≡ m = cc in
        rw (e, ← same) reaches
    | inr ne ↦ reached.waiting m k (sym (others k ne) ∙ w)
  ];
}

-- a block no longer waits
pub IsReached-lose : (cells : List Cell) (ports : List Port) (at : ℕ) (cell : Cell) → IsReached cells ports → at < length cells → waiter_at (set cells at cell) at ≡ None → length (set cells at cell) ≡ length cells → IsReached (set cells at cell) ports
IsReached-lose cells ports at cell reached lt here len = record {
  ends = λ m. rw len (reached.ends m);
  waiting = λ m k w. elim (cases_eq k at) [
    | inl e ↦ let none : None ≡ Some m = sym here ∙ rw e at w in cc
    | inr ne ↦ let was : waiter_at (set cells at cell) k ≡ waiter_at cells k = rw (get_or-set_other cells at k cell _ ne) refl in reached.waiting m k (sym was ∙ w)
  ];
}

-- a block of a device that was made
pub cell_at-blank : (count k : ℕ) → cell_at (replicate count record { mark = Covered; second = false }) k ≡ record { mark = Covered; second = false }
cell_at-blank count k = elim (cases_lt k count) [
  | inl lt ↦ get_or-replicate count k _ _ lt
  | inr past ↦ get_or_past (replicate count record { mark = Covered; second = false }) k _ (simp length-replicate past)
]

-- a port of a device that was made
pub port_at-blank : (n : ℕ) (port : Port) → port.live ≡ false → port.end ≡ 0 → port.next_bit ≡ 0 → ((port_at (replicate 17 port) n).live ≡ false) × ((port_at (replicate 17 port) n).end ≡ 0) × ((port_at (replicate 17 port) n).next_bit ≡ 0)
port_at-blank n port idle none zero = elim (cases_lt n 17) [
  | inl lt ↦
      let is : port_at (replicate 17 port) n ≡ port = get_or-replicate 17 n port _ lt in
      rw is (idle, none, zero)
  | inr past ↦
      let is : port_at (replicate 17 port) n ≡ record { live = false; first = 0; end = 0; next_bit = 0 } =
      get_or_past (replicate 17 port) n _ (simp length-replicate past) in
      rw is (refl, refl, refl)
]

-- no block waits, and no port reaches one
pub IsReached-blank : (count : ℕ) (port : Port) → port.live ≡ false → port.end ≡ 0 → port.next_bit ≡ 0 → IsReached (replicate count record { mark = Covered; second = false }) (replicate 17 port)
IsReached-blank count port idle none zero = record {
  ends = λ n. let end = (port_at-blank n port idle none zero).1 in omega (arith, end);
  waiting = λ n k w. let no : None ≡ Some n = rw cell_at-blank at w in cc;
}
