-- What the inductive form says of the set of all log records.
use Rattle.std.proofs.Common.{◌≡◌, ◌≢◌, ◌⊎◌, inl, inr, ℕ, suc, pred, ◌+◌, ◌<◌, ◌≤◌, Bool, true, false, cond, eqb, max, List, [], ◌∷◌, ◌++◌, length, refl, ap, sym, subst, ◌∙◌, arith, Option, Some, append_assoc, length-append, eq-eqb, ne_eqb, lt-ltb, le-ltb}
use Rattle.std.proofs.lemmas.Bool.{cases_eq, cases_lt}
use Rattle.sd_base.specs.Places.{page_of_place}
use Rattle.sd_base.specs.Shape.{pages_per_map}
use Rattle.log_record.specs.declared.record.LogRecord.{LogRecord}
use Rattle.recovery_theory.specs.Chain.{RaisesLife, NodeChange, steps_from, in_log, all_by, replay, redo_page, steps_to, ChainedBy, Rises, RaiseLives}
use Rattle.recovery_theory.specs.Effect.{Step, steps_on, Transaction, effect_of, step_on}
use Rattle.recovery_theory.specs.Effect.Effect.{Mapped}
use Rattle.recovery_theory.specs.Identifiers.{Lives, StandingIsChained, IsStepOf, base_ident, IsTop, IsLinked, IsNear, Reaches, IsSame, IsRecovered, IsChained}
use Rattle.recovery_theory.specs.Identifiers.Reaches.{there, step}
use Rattle.recovery_theory.specs.Rebuilding.{Has, InLogs}
use Rattle.recovery_theory.specs.Pages.{in_life_from, SlotValue, entries_of, birth_of}
use Rattle.recovery_theory.specs.Standing.{IsApart, Devices, IsStanding, Ordered, base_of}
use Rattle.sd_base.specs.declared.page_op.PageOp.{PageOp}
use Rattle.sd_base.specs.declared.page_op.PageOp.TheVariants.{MapFree}
use Rattle.space_map.specs.declared.map_entry.MapEntry.{MapEntry}
use Rattle.recovery_theory.proofs.Rebuilding.{in_log-first_only, rebuilding, rest_of}
use Rattle.recovery_theory.proofs.PartialRedo.{rising_le}
use Rattle.recovery_theory.proofs.ChainLaws.{RaiseLives-back, ident-disk, ident-image, live-new, rising_new}
use Rattle.recovery_theory.proofs.StepLists.{ident-replay, replay-append, steps_from-steps_from, in_log-others, in_log-first, steps_from-in_log}
use Rattle.recovery_theory.proofs.PageLaws.{in_life_from-same}
use Rattle.recovery_theory.proofs.LinkedChains.{chain_is_linked}
use Rattle.recovery_theory.proofs.LogMoves.{ordered_rest}
use Rattle.recovery_theory.proofs.OpenUpdates.{steps_on-append}
use Rattle.recovery_theory.proofs.Rebuilding.{has-steps_from, steps_from-has}
use Rattle.recovery_theory.proofs.PageRedo.{redo_page-new}
use Rattle.space_map.specs.PageImage.{changed, ident_of, PageImage}
use Rattle.space_map.proofs.PageImageLaws.{changed-ident}

-- where the chain begins
pub ident-base : (x b : ℕ) (i : PageImage) → ident_of (in_life_from x b i) ≡ max (ident_of i) b
ident-base x b i = go (cases_lt (ident_of i) b)
  where
    go : (ident_of i < b) ⊎ (b ≤ ident_of i) → ident_of (in_life_from x b i) ≡ max (ident_of i) b
    go (inl h) = rw (lt-ltb (ident_of i) b h) (omega arith)
    go (inr h) = rw (le-ltb (ident_of i) b h) (omega arith)

-- a step of a part, and of the parts
Has-back : (l k : List Step) (s : Step) → Has k s → Has (l ++ k) s
Has-back [] k s h = h
Has-back (t ∷ l) k s h = inr (Has-back l k s h)

Has-parts : (l k : List Step) (s : Step) → Has (l ++ k) s → Has l s ⊎ Has k s
Has-parts [] k s h = inr h
Has-parts (t ∷ l) k s (inl e) = inl (inl e)
Has-parts (t ∷ l) k s (inr h) = go (Has-parts l k s h)
  where
    go : Has l s ⊎ Has k s → (((t ≡ s) ⊎ Has l s) ⊎ Has k s)
    go (inl a) = inl (inr a)
    go (inr a) = inr a

-- no step leads to an identifier to which none does
steps_to-has : (b : ℕ) (l : List Step) (s : Step) → steps_to b l ≡ [] → Has l s → suc s.bsi ≢ b
steps_to-has b [] s e h q = h
steps_to-has b (t ∷ l) s e h q = go (cases_eq (suc t.bsi) b) h (λ e k. steps_to-has b l s e k q)
  where
    go : (suc t.bsi ≡ b) ⊎ (suc t.bsi ≢ b) → (t ≡ s) ⊎ Has l s → (steps_to b l ≡ [] → Has l s → ⊥) → ⊥
    go (inl z) k rest = let y : t ∷ steps_to b l ≡ [] = rw (eq-eqb (suc t.bsi) b z) at e in absurd cc
    go (inr d) (inl z) rest = d (ap (λ (k : Step). suc k.bsi) z ∙ q)
    go (inr d) (inr k) rest = rest (rw (ne_eqb (suc t.bsi) b d) at e) k

-- no step has an identifier from one on from which there is none
steps_from-none : (b : ℕ) (l : List Step) (s : Step) → steps_from b l ≡ [] → Has l s → b ≤ s.bsi → ⊥
steps_from-none b l s e h le = subst (λ k. Has k s) e (has-steps_from b l s le h)

module _ (w : Devices) (logs : ℕ → List LogRecord) (guard : ℕ → ℕ) (entry : ℕ → MapEntry) (image : ℕ → PageImage) (settled : ℕ → ℕ → SlotValue) (lock : ℕ → ℕ → Option Transaction)
    (st : IsStanding w logs guard entry image settled lock) (x : ℕ) where
  abbrev birth : ℕ
  birth = birth_of (entry x)

  abbrev kept : ℕ → List Step
  kept n = steps_on x (w.kept n)

  abbrev live : ℕ → List Step
  live n = steps_on x (logs n)

  abbrev base : PageImage
  base = in_life_from x birth (base_of w x)

  abbrev shown : PageImage
  shown = (st.pages x).shown

  abbrev chain : ChainedBy (in_life_from x (birth_of (entry x)) (base_of w x)) (st.pages x).shown (λ n. steps_on x (w.kept n)) (λ n. steps_on x (logs n)) (image x) (guard x)
  chain = (st.pages x).chain

  at_base : ident_of base ≡ base_ident w birth x
  at_base = ident-base x birth (base_of w x)

  to_disk : ident_of shown ≡ ident_of base + length chain.old
  to_disk = ident-disk base shown (image x) kept live (guard x) chain

  to_end : ident_of (image x) ≡ ident_of shown + length chain.new
  to_end = ident-image base shown (image x) kept live (guard x) chain

  literal : ((j : ℕ) → ident_of base ≤ j → j < ident_of (image x) → (s : Step) × (k : InLogs kept live s) × (s.bsi ≡ j) × ((t : Step) (l : InLogs kept live t) → t.bsi ≡ j → (t ≡ s) × (l.node ≡ k.node)))
      × ((s : Step) → InLogs kept live s → ident_of base ≤ s.bsi → s.bsi < ident_of (image x))
      × ((n : ℕ) → Rises (steps_from (ident_of base) (kept n ++ live n)))
  literal = chain_is_linked base shown (image x) kept live (guard x, chain)

  is_top : IsTop w logs birth x (ident_of (image x))
  is_top = record {
    above = λ s k low. literal.1 s k (omega (arith, at_base));
    reached = go (cases_lt (ident_of base) (ident_of (image x)));
  }
    where
      go : (ident_of base < ident_of (image x)) ⊎ (ident_of (image x) ≤ ident_of base) → (ident_of (image x) ≡ base_ident w birth x) ⊎ ((s : Step) × IsStepOf w logs x s × (base_ident w birth x ≤ s.bsi) × (suc s.bsi ≡ ident_of (image x)))
      go (inr le) = inl (omega (arith, at_base, to_disk, to_end))
      go (inl lt) = let (s, k, e, o) = literal.0 (pred (ident_of (image x))) (omega arith) (omega arith) in inr (s, k, omega (arith, at_base), omega arith)

  is_linked : IsLinked w logs birth x (ident_of (image x))
  is_linked = record { one = λ j low high. literal.0 j (omega (arith, at_base)) high; rise = (st.pages x).rises }

  stored : (i : PageImage) → w.disk x ≡ Some i → shown ≡ in_life_from x birth i
  stored i e = rw e at (st.pages x).disk

  -- what the disk lacks stands in the guard's live log
  lacking : (n : ℕ) (s : Step) → Has (kept n ++ live n) s → ident_of shown ≤ s.bsi → (n ≡ guard x) × Has (live (guard x)) s
  lacking n s h le = by_part (Has-parts (kept n) (live n) s h) (cases_eq n (guard x))
    where
      by_part : Has (kept n) s ⊎ Has (live n) s → (n ≡ guard x) ⊎ (n ≢ guard x) → (n ≡ guard x) × Has (live (guard x)) s
      by_part (inl k) g = absurd (steps_from-none (ident_of shown) (kept n) s (chain.near n) k le)
      by_part (inr k) (inl g) = (g, subst (λ z. Has (live z) s) g k)
      by_part (inr k) (inr d) =
          let none : steps_from (ident_of shown) (live n) ≡ [] = live-new base shown (image x) kept live (guard x) n chain ∙ in_log-others n (guard x) (ident_of shown) chain.new d in
          absurd (steps_from-none (ident_of shown) (live n) s none k le)

  is_near : (i : PageImage) → w.disk x ≡ Some i → IsNear w logs birth x (ident_of (image x)) i
  is_near i e = record {
    low = let s = ap ident_of (stored i e) in omega (arith, at_base, to_disk);
    high = let s = ap ident_of (stored i e) in omega (arith, to_end);
    node = guard x;
    alone = λ s k le. lacking k.node s k.stands (let z = ap ident_of (stored i e) in omega arith);
  }

  walk : (h front : List NodeChange) (i j : PageImage) → chain.old ≡ front ++ h → ident_of i ≡ ident_of base + length front → j ≡ replay h i → Reaches w logs x j i
  walk [] front i j e at is = there i (sym is)
  walk (a ∷ h) front i j e at is =
      step i (record { bsi = ident_of i; op = a.op }) (record { node = a.node; stands = steps_from-has (ident_of base) (kept a.node ++ live a.node) (record { bsi = ident_of i; op = a.op }) mine }) refl
      (walk h (front ++ a ∷ []) (changed a.op i) j (e ∙ sym (append_assoc front (a ∷ []) h)) (omega (arith, changed-ident a.op i, length-append front (a ∷ []))) is)
    where
      whole : chain.old ++ all_by (guard x) chain.new ≡ front ++ (a ∷ (h ++ all_by (guard x) chain.new))
      whole = ap (λ z. z ++ all_by (guard x) chain.new) e ∙ append_assoc front (a ∷ h) (all_by (guard x) chain.new)

      rest : steps_from (ident_of i) (kept a.node ++ live a.node) ≡ record { bsi = ident_of i; op = a.op } ∷ in_log a.node (suc (ident_of i)) (h ++ all_by (guard x) chain.new)
      rest =
          let l = chain.linked a.node in
          let first : in_log a.node (ident_of i) (a ∷ (h ++ all_by (guard x) chain.new)) ≡ record { bsi = ident_of i; op = a.op } ∷ in_log a.node (suc (ident_of i)) (h ++ all_by (guard x) chain.new) = rw (eq-eqb a.node a.node refl) refl in
          sym (steps_from-steps_from (ident_of base) (ident_of i) (omega arith) (kept a.node ++ live a.node))
          ∙ (ap (steps_from (ident_of i)) (l ∙ ap (in_log a.node (ident_of base)) whole)
          ∙ (steps_from-in_log a.node (ident_of base) (ident_of i) front (a ∷ (h ++ all_by (guard x) chain.new)) at ∙ first))

      mine : Has (steps_from (ident_of base) (kept a.node ++ live a.node)) (record { bsi = ident_of i; op = a.op })
      mine = has-steps_from (ident_of base) (kept a.node ++ live a.node) (record { bsi = ident_of i; op = a.op }) (omega arith)
          (steps_from-has (ident_of i) (kept a.node ++ live a.node) (record { bsi = ident_of i; op = a.op }) (subst (λ l. Has l (record { bsi = ident_of i; op = a.op })) (sym rest) (inl refl)))

  is_same : (i : PageImage) → w.disk x ≡ Some i → IsSame w logs birth x i
  is_same i e = walk chain.old [] base (in_life_from x birth i) refl (omega arith) (sym (stored i e) ∙ chain.same)

  is_recovered : IsRecovered w logs birth x (image x)
  is_recovered = record {
    redone = λ i n s e h b. redone i n s e h b;
    as_stored = λ i e none. as_stored i e none chain.new refl;
    lost = λ e. (rebuilding base shown (image x) kept live (guard x, chain)).0;
  }
    where
      redone : (i : PageImage) (n : ℕ) (s : Step) → w.disk x ≡ Some i → Has (live n) s → s.bsi ≡ ident_of (in_life_from x birth i) → image x ≡ redo_page (live n) (in_life_from x birth i)
      redone i n s e h b =
          let z = stored i e in
          let at = lacking n s (Has-back (kept n) (live n) s h) (let q = ap ident_of z in omega arith) in
          let l : steps_from (ident_of shown) (live n) ≡ in_log n (ident_of shown) (all_by n chain.new) = live-new base shown (image x) kept live (guard x) n chain ∙ ap (λ k. in_log n (ident_of shown) (all_by k chain.new)) (sym at.0) in
          subst (λ k. image x ≡ redo_page (live n) k) z (chain.whole ∙ (ap (λ k. replay (all_by k chain.new) shown) (sym at.0) ∙ sym (redo_page-new n (live n) chain.new shown l)))

      as_stored : (i : PageImage) → w.disk x ≡ Some i → ((n : ℕ) (s : Step) → Has (live n) s → s.bsi ≢ ident_of (in_life_from x birth i)) → (new : List PageOp) → chain.new ≡ new → image x ≡ in_life_from x birth i
      as_stored i e none [] z = chain.whole ∙ (ap (λ k. replay (all_by (guard x) k) shown) z ∙ stored i e)
      as_stored i e none (op ∷ new) z =
          let l : steps_from (ident_of shown) (live (guard x)) ≡ in_log (guard x) (ident_of shown) (all_by (guard x) (op ∷ new)) = live-new base shown (image x) kept live (guard x) (guard x) chain ∙ ap (λ k. in_log (guard x) (ident_of shown) (all_by (guard x) k)) z in
          let first = in_log-first (guard x) (ident_of shown) op new in
          let h : Has (live (guard x)) (record { bsi = ident_of shown; op = op }) = steps_from-has (ident_of shown) (live (guard x)) (record { bsi = ident_of shown; op = op }) (subst (λ k. Has k (record { bsi = ident_of shown; op = op })) (sym (l ∙ first)) (inl refl)) in
          absurd (none (guard x) (record { bsi = ident_of shown; op = op }) h (ap ident_of (stored i e)))

  -- what the logs have of the page from an image on that a front of its history has reached
  rest_from : (front h : List NodeChange) (i : PageImage) → chain.old ++ all_by (guard x) chain.new ≡ front ++ h → i ≡ replay front base → (n : ℕ) → steps_from (ident_of i) (kept n ++ live n) ≡ in_log n (ident_of i) h
  rest_from front h i a b = rest_of base kept live (chain.old ++ all_by (guard x) chain.new) chain.linked front h a i (ap ident_of b ∙ ident-replay front base)

  -- a step that stands in a log, where the history has reached its identifier, is the next one of the history
  none_next : (front : List NodeChange) (i : PageImage) (s : Step) → chain.old ++ all_by (guard x) chain.new ≡ front ++ [] → i ≡ replay front base → IsStepOf w logs x s → s.bsi ≡ ident_of i → ⊥
  none_next front i s a b k q = subst (λ l. Has l s) (rest_from front [] i a b k.node) (has-steps_from (ident_of i) (kept k.node ++ live k.node) s (omega arith) k.stands)

  is_next : (front h : List NodeChange) (c : NodeChange) (i : PageImage) (s : Step) → chain.old ++ all_by (guard x) chain.new ≡ front ++ c ∷ h → i ≡ replay front base → IsStepOf w logs x s → s.bsi ≡ ident_of i → s.op ≡ c.op
  is_next front h c i s a b k q = in_log-first_only k.node (ident_of i) c h s (subst (λ l. Has l s) (rest_from front (c ∷ h) i a b k.node) (has-steps_from (ident_of i) (kept k.node ++ live k.node) s (omega arith) k.stands)) q

  -- what the steps reach is what a front of the history makes of the base
  reached : (j i : PageImage) → Reaches w logs x j i → (h front : List NodeChange) → chain.old ++ all_by (guard x) chain.new ≡ front ++ h → i ≡ replay front base
      → (front' : List NodeChange) × (h' : List NodeChange) × (chain.old ++ all_by (guard x) chain.new ≡ front' ++ h') × (j ≡ replay front' base)
  reached j x (there i e) h front a b = (front, h, a, sym e ∙ b)
  reached j x (step i s k q r) [] front a b = absurd (none_next front i s a b k q)
  reached j x (step i s k q r) (c ∷ h) front a b =
      let same : s.op ≡ c.op = is_next front h c i s a b k q in
      reached j (changed s.op i) r h (front ++ c ∷ []) (a ∙ sym (append_assoc front (c ∷ []) h)) (ap (λ o. changed o i) same ∙ (ap (changed c.op) b ∙ sym (replay-append front (c ∷ []) base)))

  -- a step of the history begins a later life, where it begins one
  pub raises : (s : Step) (i : PageImage) → IsStepOf w logs x s → Reaches w logs x i base → s.bsi ≡ ident_of i → RaisesLife i s.op
  raises s i k r q = by (reached i base r (chain.old ++ all_by (guard x) chain.new) [] refl refl)
    where
      by : (front : List NodeChange) × (h : List NodeChange) × (chain.old ++ all_by (guard x) chain.new ≡ front ++ h) × (i ≡ replay front base) → RaisesLife i s.op
      by (front, [], a, b) = absurd (none_next front i s a b k q)
      by (front, c ∷ h, a, b) =
          let rise : RaiseLives (replay front base) (c ∷ h) = RaiseLives-back front (c ∷ h) base (subst (RaiseLives base) a chain.rising) in
          subst (RaisesLife i) (sym (is_next front h c i s a b k q)) (subst (λ z. RaisesLife z c.op) (sym b) rise.0)

  pub is_chained : IsChained w logs birth x (image x)
  is_chained = record { top = is_top; linked = is_linked; near = is_near; same = is_same; recovered = is_recovered }

-- a freeing among rising changes gives a place a greater identifier than it has before them
free_above : (n b q next_birth : ℕ) (h : List NodeChange) (i : PageImage) (s : Step) → RaiseLives i h → Has (in_log n b h) s → s.op ≡ MapFree q next_birth → birth_of (entries_of i q) < next_birth
free_above n b q next_birth [] i s r k e = absurd k
free_above n b q next_birth (a ∷ h) i s r k e = go (eqb a.node n) k (free_above n (suc b) q next_birth h (changed a.op i) s r.1)
  where
    first : a.op ≡ MapFree q next_birth → birth_of (entries_of i q) < next_birth
    first z = subst (RaisesLife i) z r.0

    up : birth_of (entries_of i q) ≤ birth_of (entries_of (changed a.op i) q)
    up = rising_le (a ∷ []) i q (r.0, tt)

    go : (c : Bool) → Has (cond c (record { bsi = b; op = a.op } ∷ in_log n (suc b) h) (in_log n (suc b) h)) s → (Has (in_log n (suc b) h) s → s.op ≡ MapFree q next_birth → birth_of (entries_of (changed a.op i) q) < next_birth) → birth_of (entries_of i q) < next_birth
    go true (inl z) rest = first (ap (λ (t : Step). t.op) z ∙ e)
    go true (inr k) rest = let z = rest k e in omega (arith, up)
    go false k rest = let z = rest k e in omega (arith, up)

module _ (w : Devices) (logs : ℕ → List LogRecord) (guard : ℕ → ℕ) (entry : ℕ → MapEntry) (image : ℕ → PageImage) (settled : ℕ → ℕ → SlotValue) (lock : ℕ → ℕ → Option Transaction)
    (st : IsStanding w logs guard entry image settled lock) (m q : ℕ) (below : m < w.shape.maps) (low : q < pages_per_map) where
  abbrev y : ℕ
  y = page_of_place w.shape m q

  abbrev next_birth : ℕ
  next_birth = birth_of (entry (page_of_place w.shape m q))

  -- the node whose log has a freeing record that the disk lacks guards the map page
  front_none : (n b : ℕ) (r : LogRecord) (front back : List LogRecord) → logs n ≡ front ++ r ∷ back → effect_of r ≡ Mapped m b (MapFree q next_birth) → steps_from (pred next_birth) (steps_on y (w.kept n ++ front)) ≡ []
  front_none n b r front back e is =
      let whole : w.kept n ++ logs n ≡ (w.kept n ++ front) ++ r ∷ back = ap (λ l. w.kept n ++ l) e ∙ sym (append_assoc (w.kept n) front (r ∷ back)) in
      let o : Ordered w (w.kept n ++ front) (r ∷ back) = ordered_rest w [] (w.kept n ++ front) (r ∷ back) (subst (Ordered w []) whole (st.ordered n)) in
      rw is at o.0

  behind : (n b : ℕ) (i : PageImage) (r : LogRecord) (front back : List LogRecord) → w.disk m ≡ Some i → logs n ≡ front ++ r ∷ back → effect_of r ≡ Mapped m b (MapFree q next_birth) → ident_of i ≤ b
      → (s : Step) (k : IsStepOf w logs y s) → next_birth ≤ s.bsi → (k.node ≡ n) × Has (steps_on y back) s
  behind n b i r front back d e is lacks s k le = go (cases_eq k.node n)
    where
      none_y : step_on y r ≡ []
      none_y = rw (is, ne_eqb m y (λ z. absurd (omega arith))) refl

      here : (k.node ≡ n) → Has (steps_on y back) s
      here z =
          let there : Has (steps_on y (w.kept n) ++ steps_on y (logs n)) s = subst (λ j. Has (steps_on y (w.kept j) ++ steps_on y (logs j)) s) z k.stands in
          let parts : steps_on y (w.kept n) ++ steps_on y (logs n) ≡ steps_on y (w.kept n ++ front) ++ (step_on y r ++ steps_on y back) =
          ap (λ l. steps_on y (w.kept n) ++ l) (ap (steps_on y) e ∙ steps_on-append y front (r ∷ back))
          ∙ (sym (append_assoc (steps_on y (w.kept n)) (steps_on y front) (step_on y r ++ steps_on y back)) ∙ ap (λ l. l ++ (step_on y r ++ steps_on y back)) (sym (steps_on-append y (w.kept n) front))) in
          by (Has-parts (steps_on y (w.kept n ++ front)) (step_on y r ++ steps_on y back) s (subst (λ l. Has l s) parts there))
        where
          by : Has (steps_on y (w.kept n ++ front)) s ⊎ Has (step_on y r ++ steps_on y back) s → Has (steps_on y back) s
          by (inl f) = absurd (steps_from-none (pred next_birth) (steps_on y (w.kept n ++ front)) s (front_none n b r front back e is) f (omega arith))
          by (inr f) = subst (λ l. Has l s) (ap (λ l. l ++ steps_on y back) none_y) f

      free : Step
      free = record { bsi = b; op = MapFree q next_birth }

      zero_birth : birth_of (entry m) ≡ 0
      zero_birth = st.map_pages m below

      shown_is : (st.pages m).shown ≡ i
      shown_is = stored w logs guard entry image settled lock st m i d ∙ (ap (λ z. in_life_from m z i) zero_birth ∙ in_life_from-same m 0 i (omega arith))

      in_live : Has (steps_on m (logs n)) (record { bsi = b; op = MapFree q next_birth })
      in_live = subst (λ l. Has l (record { bsi = b; op = MapFree q next_birth })) (sym (ap (steps_on m) e ∙ steps_on-append m front (r ∷ back)))
          (Has-back (steps_on m front) (step_on m r ++ steps_on m back) (record { bsi = b; op = MapFree q next_birth }) (rw (is, eq-eqb m m refl) (inl refl)))

      at_guard : (n ≡ guard m) × Has (steps_on m (logs (guard m))) (record { bsi = b; op = MapFree q next_birth })
      at_guard = lacking w logs guard entry image settled lock st m n (record { bsi = b; op = MapFree q next_birth }) (Has-back (steps_on m (w.kept n)) (steps_on m (logs n)) (record { bsi = b; op = MapFree q next_birth }) in_live) (let z = ap ident_of shown_is in omega arith)

      not_there : birth_of (entries_of i q) ≢ next_birth
      not_there z =
          let c = (st.pages m).chain in
          let l = live-new (in_life_from m (birth_of (entry m)) (base_of w m)) (st.pages m).shown (image m) (λ n. steps_on m (w.kept n)) (λ n. steps_on m (logs n)) (guard m) (guard m) c in
          let k = subst (λ l. Has l (record { bsi = b; op = MapFree q next_birth })) l (has-steps_from (ident_of (st.pages m).shown) (steps_on m (logs (guard m))) (record { bsi = b; op = MapFree q next_birth }) (let z = ap ident_of shown_is in omega arith) at_guard.1) in
          let a = free_above (guard m) (ident_of (st.pages m).shown) q next_birth (all_by (guard m) c.new) (st.pages m).shown (record { bsi = b; op = MapFree q next_birth })
          (rising_new (in_life_from m (birth_of (entry m)) (base_of w m)) (st.pages m).shown (image m) (λ n. steps_on m (w.kept n)) (λ n. steps_on m (logs n)) (guard m) c) k refl in
          let a' : birth_of (entries_of i q) < next_birth = rw shown_is at a in
          absurd (omega arith)

      go : (k.node ≡ n) ⊎ (k.node ≢ n) → (k.node ≡ n) × Has (steps_on y back) s
      go (inl z) = (z, here z)
      go (inr z) = apart (st.apart m q k.node i below low (λ a. z (a ∙ sym at_guard.0)) d)
        where
          apart : IsApart w logs guard entry m q k.node i → (k.node ≡ n) × Has (steps_on y back) s
          apart (inl a) = absurd (not_there a)
          apart (inr a) = absurd (steps_from-none next_birth (steps_on y (w.kept k.node) ++ steps_on y (logs k.node)) s a.0 k.stands le)

  rising : (s : Step) (next : ℕ) (i : PageImage) → IsStepOf w logs m s → s.op ≡ MapFree q next → Reaches w logs m i (base_of w m) → s.bsi ≡ ident_of i → birth_of (entries_of i q) < next
  rising s next i k is r at =
      let one_life : base_of w m ≡ in_life_from m (birth_of (entry m)) (base_of w m) = sym (ap (λ z. in_life_from m z (base_of w m)) (st.map_pages m below) ∙ in_life_from-same m 0 (base_of w m) (omega arith)) in
      subst (RaisesLife i) is (raises w logs guard entry image settled lock st m s i k (subst (Reaches w logs m i) one_life r) at)

  pub has_lives : Lives w logs m q next_birth
  has_lives = record {
    rising = rising;
    gap = λ s k. steps_to-has next_birth (steps_on y (w.kept k.node) ++ steps_on y (logs k.node)) s ((st.pages y).gap k.node) k.stands;
    behind = behind;
  }

pub standing_is_chained : StandingIsChained
standing_is_chained w logs guard entry image settled lock st = (
  λ x. is_chained w logs guard entry image settled lock st x,
  λ m q below low. has_lives w logs guard entry image settled lock st m q below low,
)
