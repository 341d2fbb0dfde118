use Rattle.std.proofs.Common.{◌≡◌, ◌+◌, ◌∙◌, ap, sym, arith, refl, ◌++◌, ◌∷◌, [], List, ℕ, length, Option, None, is_some, vec_capacity, true, IsSome}
use Rattle.std.proofs.lemmas.List.{length-append}
use Rattle.frame_pool.specs.Frames.{IsPool, shown, free_count}
use Rattle.frame_pool.proofs.PoolLaws.{free_count-shown, IsPool-same, IsPool-popped, IsOut-popped}
use Rattle.frame_pool.proofs.pool.Pool.take.Goals as goal

-- as many frames are free as there are free numbers
counted : (blocks : List (List ℕ)) (free : List ℕ) (capacity : ℕ) (frames : List (Option (List ℕ))) → IsPool blocks free capacity → shown blocks free ≡ frames → free_count frames ≡ length free
counted blocks free capacity frames h view = ap free_count (sym view) ∙ free_count-shown blocks free capacity h

no_some : {T : Type 0} (o : Option T) → o ≡ None → IsSome o → ⊥
no_some {T} o e some = let no : is_some {T = T} None ≡ true = sym (ap is_some e) ∙ some in cc

-- one more number was free
one_more : (xs ys : List ℕ) (n : ℕ) → xs ≡ ys ++ n ∷ [] → length xs ≡ length ys + 1
one_more xs ys n e = ap length e ∙ length-append ys (n ∷ [])

pub returns-in_err-number-clause-some : goal.returns-in_err-number-clause-some
returns-in_err-number-clause-some c =
    let n : free_count c.args.self.now ≡ length c.self.inside.free.items = counted c.self.inside.blocks.items c.self.inside.free.items (vec_capacity c.self.inside.free) c.args.self.now c.self.invariant c.self.view_is in
    (λ some. absurd (no_some c.from_residual.result c.from_residual.ensures some), λ lt. absurd (omega (arith, n, c.self.inside.free.ok.0, c.in_err-number.ensures.cases.0)))

pub invariant_of-self-2 : goal.invariant_of-self-2
invariant_of-self-2 c =
    let pushed : IsPool c.self.inside.blocks.items (c.pop.new.self.items ++ c.in_ok-number.number ∷ []) (vec_capacity c.pop.new.self) = IsPool-same _ _ _ _ _ c.in_ok-number.ensures.items (sym c.in_ok-number.ensures.capacity) c.self.invariant in
    IsPool-popped c.self.inside.blocks.items c.pop.new.self.items c.in_ok-number.number (vec_capacity c.pop.new.self) pushed

pub returns-clause-some : goal.returns-clause-some
returns-clause-some c =
    let n : free_count c.args.self.now ≡ length c.self.inside.free.items = counted c.self.inside.blocks.items c.self.inside.free.items (vec_capacity c.self.inside.free) c.args.self.now c.self.invariant c.self.view_is in
    (λ _. omega (arith, n, one_more c.self.inside.free.items c.pop.new.self.items c.in_ok-number.number c.in_ok-number.ensures.items), λ _. refl)

pub returns-clause-out : goal.returns-clause-out
returns-clause-out c =
    let pushed : IsPool c.self.inside.blocks.items (c.pop.new.self.items ++ c.in_ok-number.number ∷ []) (vec_capacity c.pop.new.self) = IsPool-same _ _ _ _ _ c.in_ok-number.ensures.items (sym c.in_ok-number.ensures.capacity) c.self.invariant in
    IsOut-popped c.self.inside.blocks.items c.pop.new.self.items c.in_ok-number.number (vec_capacity c.pop.new.self) pushed

pub returns-clause-counted : goal.returns-clause-counted
returns-clause-counted c =
    let pushed : IsPool c.self.inside.blocks.items (c.pop.new.self.items ++ c.in_ok-number.number ∷ []) (vec_capacity c.pop.new.self) = IsPool-same _ _ _ _ _ c.in_ok-number.ensures.items (sym c.in_ok-number.ensures.capacity) c.self.invariant in
    let popped : IsPool c.self.inside.blocks.items c.pop.new.self.items (vec_capacity c.pop.new.self) = IsPool-popped c.self.inside.blocks.items c.pop.new.self.items c.in_ok-number.number (vec_capacity c.pop.new.self) pushed in
    let n : free_count c.args.self.now ≡ length c.self.inside.free.items = counted c.self.inside.blocks.items c.self.inside.free.items (vec_capacity c.self.inside.free) c.args.self.now c.self.invariant c.self.view_is in
    let m : free_count (shown c.self.inside.blocks.items c.pop.new.self.items) ≡ length c.pop.new.self.items = free_count-shown c.self.inside.blocks.items c.pop.new.self.items (vec_capacity c.pop.new.self) popped in
    omega (arith, n, m, one_more c.self.inside.free.items c.pop.new.self.items c.in_ok-number.number c.in_ok-number.ensures.items)
