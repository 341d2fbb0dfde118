-- A run goes on by one line, and ends in other words.
use Rattle.std.proofs.Common.{◌≡◌, ℕ, Bool, true, false, List, [], ◌∷◌, ◌++◌, Option, Some, None, inl, inr, refl, ap, subst, sym}
use Rattle.sd_base.specs.declared.device.NodeId.{NodeId}
use Rattle.script_text.specs.Command.{Means}
use Rattle.script_text.specs.declared.command.Command.{Command}
use Rattle.script_text.specs.declared.reply.Reply.{Reply}
use Rattle.record_machine.specs.Machine.{Machine}
use Rattle.record_machine.specs.Rows.{dumped_by}
use Rattle.store_nodes.specs.Ports.{says_stop}
use Rattle.shared_store.specs.StoreState.{StoreState, shut, opened, stopped, Answered, AnsweredOnce, AnswersDump, AnswersOpen, Run}
use Rattle.shared_store.proofs.Stepping.{DumpOrStop-end, DumpOrStop-map, StepOrStop-end, StepOrStop-map}

-- ---- the same answers, with more that holds of the states after them

AnswersOpen-map : (stops : Bool) (m : Machine) (c : Command) (r : Reply) (S T : StoreState → Type 0) → ((k : StoreState) → S k → T k) → AnswersOpen stops m c r S → AnswersOpen stops m c r T
AnswersOpen-map true m c r S T f a = (a.0, f stopped a.1)
AnswersOpen-map false m c r S T f a = StepOrStop-map (λ k. S (opened k)) (λ k. T (opened k)) (λ k. f (opened k)) m c r a

AnsweredOnce-map : (disk vault : ℕ) (state : StoreState) (c : Command) (r : Reply) (S T : StoreState → Type 0) → ((k : StoreState) → S k → T k) → AnsweredOnce disk vault state c r S → AnsweredOnce disk vault state c r T
AnsweredOnce-map disk vault (shut seal) c r S T f a = (a.0, f _ a.1)
AnsweredOnce-map disk vault (opened m) c r S T f a = AnswersOpen-map (says_stop r) m c r S T f a
AnsweredOnce-map disk vault stopped c r S T f a = (a.0, f stopped a.1)

AnswersDump-map : (state : StoreState) (n : NodeId) (said : List Reply) (S T : StoreState → Type 0) → ((k : StoreState) → S k → T k) → AnswersDump state n said S → AnswersDump state n said T
AnswersDump-map (shut seal) n said S T f a = (a.0, f (shut seal) a.1)
AnswersDump-map (opened m) n said S T f (inl step) = inl (DumpOrStop-map (λ k. S (opened k)) (λ k. T (opened k)) (λ k. f (opened k)) m n said step)
AnswersDump-map (opened m) n said S T f (inr stop) = inr (stop.0, f stopped stop.1)
AnswersDump-map stopped n said S T f a = (a.0, f stopped a.1)

Answered-map : (disk vault : ℕ) (state : StoreState) (c : Command) (said : List Reply) (S T : StoreState → Type 0) → ((k : StoreState) → S k → T k) → Answered disk vault state c said S → Answered disk vault state c said T
Answered-map disk vault state c said S T f a = by (dumped_by c) refl
  where
    by : (o : Option NodeId) → dumped_by c ≡ o → Answered disk vault state c said T
    by None is = let h = rw is at a in rw is (h.0, h.1, AnsweredOnce-map disk vault state c h.0 S T f h.2)
    by (Some n) is = let h = rw is at a in rw is (AnswersDump-map state n said S T f h)

pub Run-map : (disk vault : ℕ) (state : StoreState) (lines : List (List ℕ)) (replies : List (List Reply)) (S T : StoreState → Type 0) → ((k : StoreState) → S k → T k) → Run disk vault state lines replies S → Run disk vault state lines replies T
Run-map disk vault state [] [] S T f run = f state run
Run-map disk vault state (line ∷ lines) (said ∷ replies) S T f run =
    (run.0, run.1, Answered-map disk vault state run.0 said (λ k. Run disk vault k lines replies S) (λ k. Run disk vault k lines replies T) (λ k. Run-map disk vault k lines replies S T f) run.2)
Run-map disk vault state [] (said ∷ replies) S T f run = absurd run
Run-map disk vault state (line ∷ lines) [] S T f run = absurd run

-- ---- the state that they end in

AnswersOpen-end : (stops : Bool) (m : Machine) (c : Command) (r : Reply) (S : StoreState → Type 0) → AnswersOpen stops m c r S → (k : StoreState) × S k × AnswersOpen stops m c r (λ j. j ≡ k)
AnswersOpen-end true m c r S a = (stopped, a.1, (a.0, refl))
AnswersOpen-end false m c r S a =
    let end = StepOrStop-end (λ k. S (opened k)) m c r a in
    (opened end.0, end.1, StepOrStop-map (λ j. j ≡ end.0) (λ j. opened j ≡ opened end.0) (λ j. ap opened) m c r end.2)

AnsweredOnce-end : (disk vault : ℕ) (state : StoreState) (c : Command) (r : Reply) (S : StoreState → Type 0) → AnsweredOnce disk vault state c r S → (k : StoreState) × S k × AnsweredOnce disk vault state c r (λ j. j ≡ k)
AnsweredOnce-end disk vault (shut seal) c r S a = (_, a.1, (a.0, refl))
AnsweredOnce-end disk vault (opened m) c r S a = AnswersOpen-end (says_stop r) m c r S a
AnsweredOnce-end disk vault stopped c r S a = (stopped, a.1, (a.0, refl))

AnswersDump-end : (state : StoreState) (n : NodeId) (said : List Reply) (S : StoreState → Type 0) → AnswersDump state n said S → (k : StoreState) × S k × AnswersDump state n said (λ j. j ≡ k)
AnswersDump-end (shut seal) n said S a = (shut seal, a.1, (a.0, refl))
AnswersDump-end (opened m) n said S (inl step) =
    let end = DumpOrStop-end (λ k. S (opened k)) m n said step in
    (opened end.0, end.1, inl (DumpOrStop-map (λ j. j ≡ end.0) (λ j. opened j ≡ opened end.0) (λ j. ap opened) m n said end.2))
AnswersDump-end (opened m) n said S (inr stop) = (stopped, stop.1, inr (stop.0, refl))
AnswersDump-end stopped n said S a = (stopped, a.1, (a.0, refl))

Answered-end : (disk vault : ℕ) (state : StoreState) (c : Command) (said : List Reply) (S : StoreState → Type 0) → Answered disk vault state c said S → (k : StoreState) × S k × Answered disk vault state c said (λ j. j ≡ k)
Answered-end disk vault state c said S a = by (dumped_by c) refl
  where
    by : (o : Option NodeId) → dumped_by c ≡ o → (k : StoreState) × S k × Answered disk vault state c said (λ j. j ≡ k)
    by None is =
        let h = rw is at a in
        let end = AnsweredOnce-end disk vault state c h.0 S h.2 in (end.0, end.1, rw is (h.0, h.1, end.2))
    by (Some n) is =
        let h = rw is at a in
        let end = AnswersDump-end state n said S h in (end.0, end.1, rw is (end.2))

Run-end : (disk vault : ℕ) (state : StoreState) (lines : List (List ℕ)) (replies : List (List Reply)) (S : StoreState → Type 0) → Run disk vault state lines replies S → (k : StoreState) × S k × Run disk vault state lines replies (λ j. j ≡ k)
Run-end disk vault state [] [] S run = (state, run, refl)
Run-end disk vault state (line ∷ lines) (said ∷ replies) S run =
    let first = Answered-end disk vault state run.0 said (λ k. Run disk vault k lines replies S) run.2 in
    let end = Run-end disk vault first.0 lines replies S first.1 in (
      end.0,
      end.1,
      (
        run.0,
        run.1,
        Answered-map disk vault state run.0 said (λ j. j ≡ first.0) (λ j. Run disk vault j lines replies (λ i. i ≡ end.0))
            (λ j is. subst (λ i. Run disk vault i lines replies (λ k. k ≡ end.0)) (sym is) end.2) first.2,
      ),
    )
Run-end disk vault state [] (said ∷ replies) S run = absurd run
Run-end disk vault state (line ∷ lines) [] S run = absurd run

-- ---- one more line

-- with replies that it gets from each state which the run may end in
pub Run-more : (disk vault : ℕ) (state : StoreState) (lines : List (List ℕ)) (replies : List (List Reply)) (line : List ℕ) (command : Command) (said : List Reply) (S T : StoreState → Type 0) → Means line command → ((k : StoreState) → S k → Answered disk vault k command said T) → Run disk vault state lines replies S → Run disk vault state (lines ++ line ∷ []) (replies ++ said ∷ []) T
Run-more disk vault state [] [] line command said S T means answered run = (command, means, answered state run)
Run-more disk vault state (l ∷ lines) (r ∷ replies) line command said S T means answered run =
    (run.0, run.1, Answered-map disk vault state run.0 r (λ k. Run disk vault k lines replies S) (λ k. Run disk vault k (lines ++ line ∷ []) (replies ++ said ∷ []) T) (λ k. Run-more disk vault k lines replies line command said S T means answered) run.2)
Run-more disk vault state [] (r ∷ replies) line command said S T means answered run = absurd run
Run-more disk vault state (l ∷ lines) [] line command said S T means answered run = absurd run

-- with replies that hang on the state which the run has ended in
pub Run-chosen : (disk vault : ℕ) (state : StoreState) (lines : List (List ℕ)) (replies : List (List Reply)) (line : List ℕ) (command : Command) (S T : StoreState → Type 0) (P : List Reply → Type 0) → Means line command
    → ((k : StoreState) → S k → (said : List Reply) × Answered disk vault k command said T × P said)
    → Run disk vault state lines replies S → (said : List Reply) × Run disk vault state (lines ++ line ∷ []) (replies ++ said ∷ []) T × P said
Run-chosen disk vault state lines replies line command S T P means answered run =
    let end = Run-end disk vault state lines replies S run in
    let last = answered end.0 end.1 in (
      last.0,
      Run-more disk vault state lines replies line command last.0 (λ j. j ≡ end.0) T means (λ j is. subst (λ i. Answered disk vault i command last.0 T) (sym is) last.1) end.2,
      last.2,
    )
