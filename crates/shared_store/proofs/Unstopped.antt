-- A run in which no node stops.
use Rattle.std.proofs.Common.{◌≡◌, ◌∙◌, ℕ, Bool, true, false, List, [], ◌∷◌, ◌++◌, Option, Some, None, All, cond, inl, inr, refl, ap, subst, sym, arith}
use Rattle.std.specs.Prelude.{⊤, map}
use Rattle.std.specs.List.{count_by}
use Rattle.std.proofs.lemmas.Bool.{eq-eqb}
use Rattle.std.proofs.lemmas.List.Elements.{All-cons, All-head, All-nil, All-tail}
use Rattle.std.proofs.lemmas.List.Concat.{flat_map-cons}
use Rattle.std.proofs.lemmas.List.Sums.{sum_by-cons}
use Rattle.sd_base.specs.declared.device.NodeId.{NodeId}
use Rattle.sd_base.specs.declared.shape.Shape.{Shape}
use Rattle.script_text.specs.declared.command.Command.{Command}
use Rattle.script_text.specs.declared.command.Command.TheVariants as asks
use Rattle.script_text.specs.declared.reply.Reply.{Reply}
use Rattle.script_text.specs.declared.reply.Reply.TheVariants as says
use Rattle.record_machine.specs.Rows.{Row, dumped_by, row_reply}
use Rattle.store_nodes.specs.Ports.{says_stop}
use Rattle.shared_store.specs.Causes.{AreCounted, StandStill, is_fault_of, is_stop_of}
use Rattle.shared_store.specs.Devices.{Devices}
use Rattle.shared_store.specs.StoreState.{Seal, StoreState, shut, opened, stopped, Answered, AnsweredOnce, AnswersDump, AnswersOpen, IsKnown, Run, after_format, after_shut}
use Rattle.shared_store.specs.Transcript.{all_replies}
use Rattle.shared_store.proofs.Stepping.{DumpOrStop-map, StepOrStop-map}

-- the reply doesn't say that a node stopped
abbrev IsNoStop : Reply → Type 0
IsNoStop r = says_stop r ≡ false

-- ---- the counts

abbrev one_if : Bool → ℕ
one_if b = cond b 1 0

-- a list without stops and faults of any node
none_of : (replies : List Reply) → ((n : ℕ) → count_by (is_stop_of n) replies ≡ 0) → ((n : ℕ) → count_by (is_fault_of n) replies ≡ 0) → All IsNoStop replies
none_of [] stops faults = All-nil IsNoStop
none_of (r ∷ rs) stops faults = All-cons IsNoStop r rs (one r (λ n. here n) (λ n. there n)) (none_of rs (λ n. rest n) (λ n. others n))
  where
    here : (n : ℕ) → one_if (is_stop_of n r) ≡ 0
    here n = omega (arith, sum_by-cons (λ x. one_if (is_stop_of n x)) r rs, stops n)

    rest : (n : ℕ) → count_by (is_stop_of n) rs ≡ 0
    rest n = omega (arith, sum_by-cons (λ x. one_if (is_stop_of n x)) r rs, stops n)

    there : (n : ℕ) → one_if (is_fault_of n r) ≡ 0
    there n = omega (arith, sum_by-cons (λ x. one_if (is_fault_of n x)) r rs, faults n)

    others : (n : ℕ) → count_by (is_fault_of n) rs ≡ 0
    others n = omega (arith, sum_by-cons (λ x. one_if (is_fault_of n x)) r rs, faults n)

    one : (r : Reply) → ((n : ℕ) → one_if (is_stop_of n r) ≡ 0) → ((n : ℕ) → one_if (is_fault_of n r) ≡ 0) → IsNoStop r
    one (says.Stopped n) stop fault = let never : ◌≡◌ {A = ℕ} 1 0 = sym (ap one_if (eq-eqb n.0 n.0 refl)) ∙ stop n.0 in cc
    one (says.Fault n) stop fault = let never : ◌≡◌ {A = ℕ} 1 0 = sym (ap one_if (eq-eqb n.0 n.0 refl)) ∙ fault n.0 in cc
    one r stop fault = refl

pub no_stops : (replies : List Reply) (old new : Devices) → AreCounted replies old new → StandStill old new → All IsNoStop replies
no_stops replies old new counted still =
    none_of replies (λ n. omega (arith, counted.stops n (still.cuts n).2 (still.cuts n).3, (still.cuts n).0, (still.cuts n).1)) (λ n. omega (arith, counted.faults n (still.faults n).2 (still.faults n).3, (still.faults n).0, (still.faults n).1))

-- ---- one line

known_format : (seal : Seal) (s : Shape) (r : Reply) → IsKnown (after_format seal s r)
known_format seal s says.Fine = tt
known_format seal s r = tt

known_shut : (seal : Seal) (c : Command) (r : Reply) → IsKnown (after_shut seal c r)
known_shut seal (asks.Format s) r = known_format seal s r
known_shut seal c r = tt

module _ (disk vault : ℕ) (S T : StoreState → Type 0) (f : (k : StoreState) → IsKnown k → S k → T k) where
  once_on : (state : StoreState) (c : Command) (r : Reply) → IsKnown state → IsNoStop r → AnsweredOnce disk vault state c r S → AnsweredOnce disk vault state c r T
  once_on (shut seal) c r known on a = (a.0, f (after_shut seal c r) (known_shut seal c r) a.1)
  once_on (opened m) c r known on a = by (says_stop r) refl on a
    where
      by : (b : Bool) → says_stop r ≡ b → b ≡ false → AnswersOpen b m c r S → AnswersOpen b m c r T
      by true is on a = cc
      by false is on a = StepOrStop-map (λ k. S (opened k)) (λ k. T (opened k)) (λ k. f (opened k) tt) m c r a
  once_on stopped c r known on a = absurd known

  last_stops : (rows : List Row) (last : Reply) → All IsNoStop (map row_reply rows ++ last ∷ []) → IsNoStop last
  last_stops [] last all = All-head IsNoStop last [] all
  last_stops (row ∷ rows) last all = last_stops rows last (All-tail IsNoStop (row_reply row) (map row_reply rows ++ last ∷ []) all)

  dump_on : (state : StoreState) (n : NodeId) (said : List Reply) → IsKnown state → All IsNoStop said → AnswersDump state n said S → AnswersDump state n said T
  dump_on (shut seal) n said known on a = (a.0, f (shut seal) tt a.1)
  dump_on (opened m) n said known on (inl step) = inl (DumpOrStop-map (λ k. S (opened k)) (λ k. T (opened k)) (λ k. f (opened k) tt) m n said step)
  dump_on (opened m) n said known on (inr stop) =
      let goes : IsNoStop stop.0.last = last_stops stop.0.rows stop.0.last (subst (All IsNoStop) stop.0.said on) in
      let never : true ≡ false = sym stop.0.stops ∙ goes in cc
  dump_on stopped n said known on a = absurd known

  pub answered_on : (state : StoreState) (c : Command) (said : List Reply) → IsKnown state → All IsNoStop said → Answered disk vault state c said S → Answered disk vault state c said T
  answered_on state c said known on a = by (dumped_by c) refl
    where
      by : (o : Option NodeId) → dumped_by c ≡ o → Answered disk vault state c said T
      by None is = let h = rw is at a in rw is (h.0, h.1, once_on state c h.0 known (All-head IsNoStop h.0 [] (subst (All IsNoStop) h.1 on)) h.2)
      by (Some n) is = let h = rw is at a in rw is (dump_on state n said known on h)

-- ---- all lines

front_of : (xs ys : List Reply) → All IsNoStop (xs ++ ys) → All IsNoStop xs × All IsNoStop ys
front_of [] ys all = (All-nil IsNoStop, all)
front_of (x ∷ xs) ys all =
    let rest = front_of xs ys (All-tail IsNoStop x (xs ++ ys) all) in
    (All-cons IsNoStop x xs (All-head IsNoStop x (xs ++ ys) all) rest.0, rest.1)

pub stays_known : (disk vault : ℕ) (state : StoreState) (lines : List (List ℕ)) (replies : List (List Reply)) → IsKnown state → All IsNoStop (all_replies replies) → Run disk vault state lines replies (λ end. ⊤) → Run disk vault state lines replies IsKnown
stays_known disk vault state [] [] known on run = known
stays_known disk vault state (line ∷ lines) (said ∷ replies) known on run =
    let both = front_of said (all_replies replies) (subst (All IsNoStop) (flat_map-cons (λ s. s) said replies) on) in (
      run.0,
      run.1,
      answered_on disk vault (λ k. Run disk vault k lines replies (λ end. ⊤)) (λ k. Run disk vault k lines replies IsKnown) (λ k is rest. stays_known disk vault k lines replies is both.1 rest) state run.0 said known both.0 run.2,
    )
stays_known disk vault state [] (said ∷ replies) known on run = absurd run
stays_known disk vault state (line ∷ lines) [] known on run = absurd run
