-- More replies are counted.
use Rattle.std.proofs.Common.{◌≡◌, ◌⊎◌, ◌==◌, ◌+◌, ◌≤◌, ℕ, Bool, true, false, List, [], ◌∷◌, ◌++◌, cond, inl, inr, refl, subst, arith}
use Rattle.std.specs.List.{count_by}
use Rattle.std.proofs.lemmas.Bool.Decides.{nat_tests}
use Rattle.std.specs.Prelude.{map}
use Rattle.std.proofs.lemmas.List.Sums.{fold_push, sum_by-append}
use Rattle.sd_base.specs.Disk.{Rose, Rose-after}
use Rattle.sd_base.specs.Faults.{Grew, Grew-same}
use Rattle.script_text.specs.declared.reply.Reply.{Reply}
use Rattle.script_text.specs.declared.reply.Reply.TheVariants as says
use Rattle.record_machine.specs.Rows.{Row, row_reply}
use Rattle.shared_store.specs.Causes.{AreCounted, HasCause, RoseBy, is_fault_of, is_stop_of}
use Rattle.shared_store.specs.Devices.{Devices}

-- two counts that have risen by so much, after they rose no further, and after one of them did
rose_same : (times d v dm vm dn vn : ℕ) → RoseBy times d v dm vm → dm ≤ dn → vm ≤ vn → RoseBy (times + 0) d v dn vn
rose_same times d v dm vm dn vn before disk vault low high = omega (arith, before (omega arith) (omega arith))

rose_once : (times d v dm vm dn vn : ℕ) → RoseBy times d v dm vm → dm ≤ dn → vm ≤ vn → Rose dm dn ⊎ Rose vm vn → RoseBy (times + 1) d v dn vn
rose_once times d v dm vm dn vn before disk vault (inl rose) low high = omega (arith, before (omega arith) (omega arith))
rose_once times d v dm vm dn vn before disk vault (inr rose) low high = omega (arith, before (omega arith) (omega arith))

-- so much does a reply count that names a node, one of whose counts has risen
rose_more : (n node : ℕ) (times : ℕ) (d v dm vm dn vn : ℕ → ℕ) → RoseBy times (d n) (v n) (dm n) (vm n) → dm n ≤ dn n → vm n ≤ vn n → Rose (dm node) (dn node) ⊎ Rose (vm node) (vn node) → RoseBy (times + cond (node == n) 1 0) (d n) (v n) (dn n) (vn n)
rose_more n node times d v dm vm dn vn before disk vault rose = by (node == n) refl
  where
    by : (b : Bool) → (node == n) ≡ b → RoseBy (times + cond b 1 0) (d n) (v n) (dn n) (vn n)
    by false other = rose_same times (d n) (v n) (dm n) (vm n) (dn n) (vn n) before disk vault
    by true same =
        let e : node ≡ n = grind (arith, nat_tests) in
        let P : ℕ → Type 0 = λ k. Rose (dm k) (dn k) ⊎ Rose (vm k) (vn k) in
        rose_once times (d n) (v n) (dm n) (vm n) (dn n) (vn n) before disk vault (subst P e rose)

stops_more : (n : ℕ) (reply : Reply) (replies : List Reply) (a b c : Devices) → AreCounted replies a b → Grew b.disk c.disk → Grew b.vault c.vault → HasCause reply b c
    → RoseBy (count_by (is_stop_of n) replies + cond (is_stop_of n reply) 1 0) (a.disk.cuts n) (a.vault.cuts n) (c.disk.cuts n) (c.vault.cuts n)
stops_more n (says.Stopped node) replies a b c counted disk vault cause =
    rose_more n node.0 (count_by (is_stop_of n) replies) a.disk.cuts a.vault.cuts b.disk.cuts b.vault.cuts c.disk.cuts c.vault.cuts (counted.stops n) (disk.cuts n) (vault.cuts n) cause
stops_more n reply replies a b c counted disk vault cause =
    rose_same (count_by (is_stop_of n) replies) (a.disk.cuts n) (a.vault.cuts n) (b.disk.cuts n) (b.vault.cuts n) (c.disk.cuts n) (c.vault.cuts n) (counted.stops n) (disk.cuts n) (vault.cuts n)

faults_more : (n : ℕ) (reply : Reply) (replies : List Reply) (a b c : Devices) → AreCounted replies a b → Grew b.disk c.disk → Grew b.vault c.vault → HasCause reply b c
    → RoseBy (count_by (is_fault_of n) replies + cond (is_fault_of n reply) 1 0) (a.disk.faults n) (a.vault.faults n) (c.disk.faults n) (c.vault.faults n)
faults_more n (says.Fault node) replies a b c counted disk vault cause =
    rose_more n node.0 (count_by (is_fault_of n) replies) a.disk.faults a.vault.faults b.disk.faults b.vault.faults c.disk.faults c.vault.faults (counted.faults n) (disk.faults n) (vault.faults n) cause
faults_more n reply replies a b c counted disk vault cause =
    rose_same (count_by (is_fault_of n) replies) (a.disk.faults n) (a.vault.faults n) (b.disk.faults n) (b.vault.faults n) (c.disk.faults n) (c.vault.faults n) (counted.faults n) (disk.faults n) (vault.faults n)

pub AreCounted-more : (reply : Reply) (replies : List Reply) (a b c : Devices) → AreCounted replies a b → Grew b.disk c.disk → Grew b.vault c.vault → HasCause reply b c → AreCounted (replies ++ reply ∷ []) a c
AreCounted-more reply replies a b c counted disk vault cause = record {
  stops = λ n. rw (fold_push (λ k r. k + cond (is_stop_of n r) 1 0) 0 replies reply) (stops_more n reply replies a b c counted disk vault cause);
  faults = λ n. rw (fold_push (λ k r. k + cond (is_fault_of n r) 1 0) 0 replies reply) (faults_more n reply replies a b c counted disk vault cause);
}

pub AreCounted-none : (a : Devices) → AreCounted [] a a
AreCounted-none a = record { stops = λ n low high. omega arith; faults = λ n low high. omega arith }

-- no count has fallen since
pub AreCounted-after : (replies : List Reply) (a b c : Devices) → AreCounted replies a b → Grew b.disk c.disk → Grew b.vault c.vault → AreCounted replies a c
AreCounted-after replies a b c counted disk vault = record {
  stops = λ n low high. omega (arith, counted.stops n (omega (arith, disk.cuts n)) (omega (arith, vault.cuts n)), disk.cuts n, vault.cuts n);
  faults = λ n low high. omega (arith, counted.faults n (omega (arith, disk.faults n)) (omega (arith, vault.faults n)), disk.faults n, vault.faults n);
}

-- one reply
pub AreCounted-one : (reply : Reply) (a b : Devices) → Grew a.disk b.disk → Grew a.vault b.vault → HasCause reply a b → AreCounted (reply ∷ []) a b
AreCounted-one reply a b disk vault cause = AreCounted-more reply [] a a b (AreCounted-none a) disk vault cause

-- replies, and those behind them
pub AreCounted-then : (replies more : List Reply) (a b c : Devices) → AreCounted replies a b → AreCounted more b c → Grew b.disk c.disk → Grew b.vault c.vault → AreCounted (replies ++ more) a c
AreCounted-then replies more a b c first then disk vault = record {
  stops = λ n low high.
      rw (sum_by-append (λ r. cond (is_stop_of n r) 1 0) replies more)
      (omega (arith, first.stops n (omega (arith, disk.cuts n)) (omega (arith, vault.cuts n)), then.stops n low high));
  faults = λ n low high.
      rw (sum_by-append (λ r. cond (is_fault_of n r) 1 0) replies more)
      (omega (arith, first.faults n (omega (arith, disk.faults n)) (omega (arith, vault.faults n)), then.faults n low high));
}

-- rows count for nothing
pub AreCounted-rows : (rows : List Row) (a : Devices) → AreCounted (map row_reply rows) a a
AreCounted-rows [] a = AreCounted-none a
AreCounted-rows (row ∷ rows) a =
    AreCounted-then (row_reply row ∷ []) (map row_reply rows) a a a (AreCounted-one (row_reply row) a a (Grew-same a.disk) (Grew-same a.vault) tt) (AreCounted-rows rows a) (Grew-same a.disk) (Grew-same a.vault)

-- a cause that came later
risen_later : (n : ℕ) (da db dc va vb vc : ℕ → ℕ) → da n ≤ db n → va n ≤ vb n → Rose (db n) (dc n) ⊎ Rose (vb n) (vc n) → Rose (da n) (dc n) ⊎ Rose (va n) (vc n)
risen_later n da db dc va vb vc disk vault (inl rose) = inl (Rose-after (da n) (db n) (dc n) disk rose)
risen_later n da db dc va vb vc disk vault (inr rose) = inr (Rose-after (va n) (vb n) (vc n) vault rose)

pub HasCause-after : (reply : Reply) (a b c : Devices) → Grew a.disk b.disk → Grew a.vault b.vault → HasCause reply b c → HasCause reply a c
HasCause-after (says.Stopped n) a b c disk vault cause = risen_later n.0 a.disk.cuts b.disk.cuts c.disk.cuts a.vault.cuts b.vault.cuts c.vault.cuts (disk.cuts n.0) (vault.cuts n.0) cause
HasCause-after (says.Fault n) a b c disk vault cause = risen_later n.0 a.disk.faults b.disk.faults c.disk.faults a.vault.faults b.vault.faults c.vault.faults (disk.faults n.0) (vault.faults n.0) cause
HasCause-after reply a b c disk vault cause = tt
