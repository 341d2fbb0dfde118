use Rattle.std.specs.Prelude.{◌≡◌, ◌+◌, ◌-◌, ℕ, Bool, true, false, Some, cond, option_map}
use Rattle.std.specs.List.{find, range_with_len}
use Rattle.std.proofs.Common.{arith, ap, sym, ◌∙◌}
use Rattle.store_nodes.specs.Known.{is_down}
use Rattle.store_nodes.specs.Nodes.{node_at}
use Rattle.store_nodes.proofs.ShownReopening.{find_onward}
use Rattle.store_nodes.proofs.store.Store.first_down.Goals as goal

-- the nodes that are left, by whether the first of them is down
pub loop-i-preserved : goal.loop-i-preserved
loop-i-preserved c =
    let me = c.args.self.now in
    let i = c.loop-i.i in
    let test : ℕ → Bool = λ n. is_down (node_at me.nodes n) in
    let here : test (i + 1) ≡ false = ap is_down (sym c.node.ensures) ∙ sym c.is_down.ensures ∙ c.if-is_down.false in
    c.loop-i.invariant ∙ find_onward test (i + 1) (me.shape.nodes - i) (omega arith)
    ∙ ap (λ t. cond t (Some (i + 1)) (find test (range_with_len (i + 1 + 1) (me.shape.nodes - i - 1)))) here
    ∙ ap (λ k. find test (range_with_len (i + 1 + 1) k)) (omega arith)

pub returns-then-is_down : goal.returns-then-is_down
returns-then-is_down c =
    let me = c.args.self.now in
    let i = c.loop-i.i in
    let test : ℕ → Bool = λ n. is_down (node_at me.nodes n) in
    let here : test (i + 1) ≡ true = ap is_down (sym c.node.ensures) ∙ sym c.is_down.ensures ∙ c.if-is_down.true in
    let found : find test (range_with_len 1 me.shape.nodes) ≡ Some (i + 1) =
    c.loop-i.invariant ∙ find_onward test (i + 1) (me.shape.nodes - i) (omega arith)
    ∙ ap (λ t. cond t (Some (i + 1)) (find test (range_with_len (i + 1 + 1) (me.shape.nodes - i - 1)))) here in
    sym (ap (option_map (λ n. record { 0 = n })) found)
