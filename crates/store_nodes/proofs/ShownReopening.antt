-- A store is to be reopened exactly where the machine is, and for the same node.
use Rattle.std.specs.Prelude.{◌≡◌, ◌+◌, ◌-◌, ◌≤◌, ◌<◌, ℕ, zero, suc, Bool, true, false, Option, Some, None, cond, option_map, if◌then◌else◌, refl}
use Rattle.std.specs.List.{find, range_with_len}
use Rattle.std.proofs.Common.{arith, ap, ◌∙◌}
use Rattle.sd_base.specs.Disk.{BlockState}
use Rattle.script_text.specs.declared.reply.Reply.{Reply}
use Rattle.script_text.specs.declared.reply.Reply.TheVariants as says
use Rattle.record_machine.specs.Machine.{Machine, awaits_recovery}
use Rattle.record_machine.specs.Steps as machine
use Rattle.store_nodes.specs.declared.node.Node.{Node}
use Rattle.store_nodes.specs.declared.node.Node.TheVariants.{Idle, Up, Down}
use Rattle.store_nodes.specs.declared.store.Store.{Store}
use Rattle.store_nodes.specs.Known.{first_down, is_down, reopening}
use Rattle.store_nodes.specs.Nodes.{IsStore, node_at}
use Rattle.store_nodes.specs.Shows.{IsShown, ShowsNode}

-- the first number of a range, where one is left
pub find_onward : (test : ℕ → Bool) (a n : ℕ) → 0 < n → find test (range_with_len a n) ≡ cond (test a) (Some a) (find test (range_with_len (a + 1) (n - 1)))
find_onward test a zero some = absurd (omega (arith, some))
find_onward test a (suc n) some = let less : suc n - 1 ≡ n = omega arith in rw less refl

-- tests that say the same of each number of a range find the same one
find_same : (f g : ℕ → Bool) (a n : ℕ) → ((k : ℕ) → a ≤ k → k < a + n → f k ≡ g k) → find f (range_with_len a n) ≡ find g (range_with_len a n)
find_same f g a zero same = refl
find_same f g a (suc n) same =
    ap (λ t. cond t (Some a) (find f (range_with_len (a + 1) n))) (same a (omega arith) (omega arith))
    ∙ ap (λ o. cond (g a) (Some a) o) (find_same f g (a + 1) n (λ k low high. same k (omega (arith, low)) (omega (arith, high))))

-- the node that is named
abbrev named : Option ℕ → Option Reply
named found = option_map (λ n. says.Reopening (record { 0 = n })) found

named_too : (found : Option ℕ) → named found ≡ option_map says.Reopening (option_map (λ n. record { 0 = n }) found)
named_too None = refl
named_too (Some n) = refl

pub reopening_shown : (c : Store) (b : ℕ → BlockState) (m : Machine) → IsStore c → IsShown c b m → machine.reopening m ≡ reopening c
reopening_shown c b m is shown =
    ap (λ (s : Bool). if s then named (find (λ n. awaits_recovery (m.mode n)) (range_with_len 1 m.shape.nodes)) else None) shown.1.reopening
    ∙ by c.shared.reopening
  where
    down : (n : ℕ) (node : Node) → ShowsNode c.shape c.shared.pool n node b shown.0 m → awaits_recovery (m.mode n) ≡ is_down node
    down n Idle was = ap awaits_recovery was.0
    down n (Up d seats) was = ap awaits_recovery was.0
    down n Down was = ap awaits_recovery was.0

    found : find (λ n. awaits_recovery (m.mode n)) (range_with_len 1 m.shape.nodes) ≡ find (λ n. is_down (node_at c.nodes n)) (range_with_len 1 c.shape.nodes)
    found = let range = is.shared.shape.nodes in
        ap (λ s. find (λ n. awaits_recovery (m.mode n)) (range_with_len 1 s.nodes)) shown.1.nodes.shape
        ∙ find_same (λ n. awaits_recovery (m.mode n)) (λ n. is_down (node_at c.nodes n)) 1 c.shape.nodes (λ k low high. down k (node_at c.nodes k) (shown.1.nodes.node k (low, omega (arith, high, range)) (omega (arith, high))))

    by : (s : Bool) → (if s then named (find (λ n. awaits_recovery (m.mode n)) (range_with_len 1 m.shape.nodes)) else None) ≡ (if s then option_map says.Reopening (first_down c) else None)
    by true = ap named found ∙ named_too (find (λ n. is_down (node_at c.nodes n)) (range_with_len 1 c.shape.nodes))
    by false = refl
