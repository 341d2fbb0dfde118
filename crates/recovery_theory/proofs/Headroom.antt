-- No cut needs more of a page's identifier than the present.
use Rattle.std.proofs.lemmas.List.{drop_all}
use Rattle.std.proofs.Common.{◌≡◌, ◌≢◌, ◌⊎◌, inl, inr, ℕ, zero, suc, ◌+◌, ◌-◌, ◌<◌, ◌≤◌, Bool, true, false, cond, eqb, List, [], ◌∷◌, ◌++◌, length, take, drop, refl, ap, sym, subst, ◌∙◌, arith, Option, Some, None, append_assoc, append-nil, length-append, length-drop, length-take-le, take-append-drop, eq-eqb, ne_eqb}
use Rattle.std.proofs.lemmas.Bool.{cases_eq, cases_lt}
use Rattle.space_map.specs.declared.map_entry.MapEntry.{MapEntry}
use Rattle.log_record.specs.declared.record.LogRecord.{LogRecord}
use Rattle.recovery_theory.specs.Effect.{Effect, Step, OpenUpdate, taken_down_to, effect_of, left_by_effect, left_of, with_update, step_of_effect, step_on, steps_on}
use Rattle.recovery_theory.specs.Effect.Effect.{Begun, Updated, Ended, Compensated, Mapped}
use Rattle.recovery_theory.specs.History.{History, IsHistory, image_now, logs_at}
use Rattle.recovery_theory.specs.Steps.{moved, passed, with_last_cut, set_at, with_record}
use Rattle.recovery_theory.specs.Rules.{EndsNone, IsRuled, RuleOf, TakesBack, is_end, total}
use Rattle.recovery_theory.specs.Headroom.{EndKeepsRising, ForceKeepsRising, FormattedIsRising, HeadroomAtCuts, IsRising, LoggedKeepsRising, MoveKeepsRising, PassKeepsRising, StopKeepsRising, count_on, pending_of, pending_on}
use Rattle.recovery_theory.proofs.Cuts.{with_last_cut-end, with_last_cut-low, with_last_cut-off, set_at-other, set_at-same, with_record-other, with_record-same}
use Rattle.recovery_theory.proofs.BeginsAndLocks.{left_of-new}
use Rattle.recovery_theory.proofs.LogMoves.{left_of-old}
use Rattle.recovery_theory.proofs.OpenUpdates.{steps_on-append, left_of-append}
use Rattle.recovery_theory.proofs.StepLists.{append_nil_parts}
use Rattle.recovery_theory.proofs.OwedRecords.{ruled_rule}
use Rattle.recovery_theory.proofs.Room.{drop_push, ends_later}
use Rattle.recovery_theory.proofs.Sums.{total_fall, total_more}
use Rattle.recovery_theory.proofs.RuledLogs.{ruled_fronts, takes_newest, told_of}
use Rattle.space_map.specs.PageImage.{PageImage, ident_of}

-- ---- one log

module _ (x first : ℕ) (l : List LogRecord) (rec : LogRecord) (ruled : IsRuled first [] l) (rule : RuleOf first l rec (effect_of rec)) (no_end : is_end (effect_of rec) ≡ false) where
  after : (u : ℕ) → left_of u first (l ++ rec ∷ []) None ≡ left_by_effect u (first + length l) (effect_of rec) (left_of u first l None)
  after u = left_of-append u first l rec None

  count_more : (us : List OpenUpdate) (u : OpenUpdate) → count_on x us ≤ count_on x (u ∷ us)
  count_more us u = go (eqb u.page x)
    where
      go : (b : Bool) → count_on x us ≤ cond b (suc (count_on x us)) (count_on x us)
      go true = omega arith
      go false = omega arith

  pending_after : (u : ℕ) (s : Option (List OpenUpdate)) → left_of u first l None ≡ s → pending_of x s ≤ length (step_on x rec) + pending_of x (left_by_effect u (first + length l) (effect_of rec) s)
  pending_after u s is = by (effect_of rec) refl
    where
      by : (e : Effect) → effect_of rec ≡ e → pending_of x s ≤ length (step_of_effect x e) + pending_of x (left_by_effect u (first + length l) e s)
      by Begun e = go (cases_eq (first + length l) u)
        where
          go : (first + length l ≡ u) ⊎ (first + length l ≢ u) → pending_of x s ≤ 0 + pending_of x (cond (eqb (first + length l) u) (Some []) s)
          go (inl z) = let none : s ≡ None = sym is ∙ left_of-new u first l (omega arith) in rw (none, eq-eqb (first + length l) u z) (omega arith)
          go (inr d) = rw (ne_eqb (first + length l) u d) (omega arith)
      by (Mapped page bsi op) e = omega arith
      by (Ended t) e = let never : true ≡ false = sym (ap is_end e) ∙ no_end in absurd cc
      by (Updated t page bsi op back) e = go (eqb t u) s
        where
          go : (b : Bool) (s : Option (List OpenUpdate)) → pending_of x s ≤ length (step_of_effect x (Updated t page bsi op back)) + pending_of x (cond b (with_update (record { number = first + length l; page = page; update = op; back = back }) s) s)
          go false s = omega arith
          go true None = omega arith
          go true (Some us) = let m = count_more us (record { number = first + length l; page = page; update = op; back = back }) in omega arith
      by (Compensated t next page bsi op) e = go (cases_eq t u) s is
        where
          r : RuleOf first l rec (Compensated t next page bsi op)
          r = subst (RuleOf first l rec) e rule

          go : (t ≡ u) ⊎ (t ≢ u) → (s : Option (List OpenUpdate)) → left_of u first l None ≡ s → pending_of x s ≤ length (step_of_effect x (Compensated t next page bsi op)) + pending_of x (cond (eqb t u) (taken_down_to next s) s)
          go (inr d) s is = rw (ne_eqb t u d) (omega arith)
          go (inl z) None is = rw (eq-eqb t u z) (omega arith)
          go (inl z) (Some us) is = taken (cases_lt u first)
            where
              taken : (u < first) ⊎ (first ≤ u) → pending_of x (Some us) ≤ length (step_of_effect x (Compensated t next page bsi op)) + pending_of x (cond (eqb t u) (taken_down_to next (Some us)) (Some us))
              taken (inl lt) = let none : None ≡ Some us = sym (left_of-old u first l lt) ∙ is in absurd cc
              taken (inr ge) =
                  let b : TakesBack first l u next page op = subst (λ v. TakesBack first l v next page op) z (r.1 (rw z ge)) in
                  let same : Some us ≡ Some (b.undo ∷ b.rest) = sym is ∙ b.newest in
                  let u_is : us ≡ b.undo ∷ b.rest = cc in
                  let took = takes_newest first l u next page op (b.undo ∷ b.rest) ((told_of first l u ruled ge).late (b.undo ∷ b.rest) b.newest) b.newest b in
                  rw (eq-eqb t u z, u_is, took, b.page_is) (one (eqb page x) b.rest)
                where
                  one : (c : Bool) (rest : List OpenUpdate) → cond c (suc (count_on x rest)) (count_on x rest) ≤ length {A = Step} (cond c (record { bsi = bsi; op = op } ∷ []) []) + count_on x rest
                  one true rest = omega arith
                  one false rest = omega arith

  pub pending_more : (k : ℕ) → total (λ t. pending_of x (left_of t first l None)) k ≤ length (step_on x rec) + total (λ t. pending_of x (left_of t first (l ++ rec ∷ []) None)) k
  pending_more k = by (effect_of rec) refl
    where
      own : (u : ℕ) → pending_of x (left_of u first l None) ≤ length (step_on x rec) + pending_of x (left_of u first (l ++ rec ∷ []) None)
      own u = rw (after u) (pending_after u (left_of u first l None) refl)

      but : (t : ℕ) → ((u : ℕ) → u ≢ t → (s : Option (List OpenUpdate)) → left_by_effect u (first + length l) (effect_of rec) s ≡ s) → total (λ t. pending_of x (left_of t first l None)) k ≤ length (step_on x rec) + total (λ t. pending_of x (left_of t first (l ++ rec ∷ []) None)) k
      but t same = (total_fall (λ t. pending_of x (left_of t first l None)) (λ t. pending_of x (left_of t first (l ++ rec ∷ []) None)) t (length (step_on x rec))
          (λ u d. rw (after u, same u d (left_of u first l None)) (omega arith)) (own t) k)

      by : (e : Effect) → effect_of rec ≡ e → total (λ t. pending_of x (left_of t first l None)) k ≤ length (step_on x rec) + total (λ t. pending_of x (left_of t first (l ++ rec ∷ []) None)) k
      by Begun e = but (first + length l) (λ u d s. rw (e, ne_eqb (first + length l) u (λ z. d (sym z))) refl)
      by (Updated t page bsi op back) e = but t (λ u d s. rw (e, ne_eqb t u (λ z. d (sym z))) refl)
      by (Ended t) e = but t (λ u d s. rw (e, ne_eqb t u (λ z. d (sym z))) refl)
      by (Compensated t next page bsi op) e = but t (λ u d s. rw (e, ne_eqb t u (λ z. d (sym z))) refl)
      by (Mapped page bsi op) e = but 0 (λ u d s. rw e refl)

-- what is cut off has a step for each update that is pending only without it
pending_at : (x k first : ℕ) (a b : List LogRecord) → IsRuled first [] (a ++ b) → EndsNone b → total (λ t. pending_of x (left_of t first a None)) k ≤ length (steps_on x b) + total (λ t. pending_of x (left_of t first (a ++ b) None)) k
pending_at x k first a [] h none = rw (append-nil a) (omega arith)
pending_at x k first a (rec ∷ b) h none =
    let here = pending_more x first a rec (ruled_fronts first a (rec ∷ b) h) (ruled_rule first [] a rec b h) none.0 k in
    let same : (a ++ rec ∷ []) ++ b ≡ a ++ rec ∷ b = append_assoc a (rec ∷ []) b in
    let rest = pending_at x k first (a ++ rec ∷ []) b (subst (IsRuled first []) (sym same) h) none.1 in
    let rest' : total (λ t. pending_of x (left_of t first (a ++ rec ∷ []) None)) k ≤ length (steps_on x b) + total (λ t. pending_of x (left_of t first (a ++ rec ∷ b) None)) k
    = subst (λ z. total (λ t. pending_of x (left_of t first (a ++ rec ∷ []) None)) k ≤ length (steps_on x b) + total (λ t. pending_of x (left_of t first z None)) k) same rest in
    let l = length-append (step_on x rec) (steps_on x b) in
    omega arith

-- a log that is cut has no more pending than the whole and the steps that are cut off
pub pending_cut : (x first k : ℕ) (l : List LogRecord) → IsRuled first [] l → EndsNone (drop k l) → pending_on x first (take k l) ≤ length (steps_on x (drop k l)) + pending_on x first l
pending_cut x first k l ruled none =
    let whole : take k l ++ drop k l ≡ l = take-append-drop k l in
    let d = pending_at x (first + length l) first (take k l) (drop k l) (subst (IsRuled first []) (sym whole) ruled) none in
    let d' : total (λ t. pending_of x (left_of t first (take k l) None)) (first + length l) ≤ length (steps_on x (drop k l)) + pending_on x first l
    = subst (λ z. total (λ t. pending_of x (left_of t first (take k l) None)) (first + length l) ≤ length (steps_on x (drop k l)) + total (λ t. pending_of x (left_of t first z None)) (first + length l)) whole d in
    let lens : length (take k l) + length (drop k l) ≡ length l = sym (length-append (take k l) (drop k l)) ∙ ap (λ (z : List LogRecord). length z) whole in
    let e : length (drop k l) + (first + length (take k l)) ≡ first + length l = omega arith in
    let m = total_more (λ t. pending_of x (left_of t first (take k l) None)) (length (drop k l)) (first + length (take k l)) (λ u le. ap (pending_of x) (left_of-new u first (take k l) le)) in
    let m' : total (λ t. pending_of x (left_of t first (take k l) None)) (first + length l) ≡ pending_on x first (take k l) = ap (total (λ t. pending_of x (left_of t first (take k l) None))) (sym e) ∙ m in
    omega arith

-- ---- all logs

-- a shorter rest of a log has no more steps
none_later : (x j k : ℕ) (l : List LogRecord) → j ≤ k → steps_on x (drop j l) ≡ [] → steps_on x (drop k l) ≡ []
none_later x zero k l le e = (append_nil_parts (steps_on x (take k l)) (steps_on x (drop k l)) (sym (steps_on-append x (take k l) (drop k l)) ∙ (ap (steps_on x) (take-append-drop k l) ∙ e))).1
none_later x (suc j) zero l le e = absurd (omega arith)
none_later x (suc j) (suc k) [] le e = refl
none_later x (suc j) (suc k) (r ∷ l) le e = none_later x j k l (omega arith) e

pub headroom_at_cuts : HeadroomAtCuts
headroom_at_cuts p cut nodes x bound history roomy rolled is room =
    let own = rolled.own x (cut (p.guard x)) (is (p.guard x)).0 (is (p.guard x)).1 in
    let sum = all (p.guard x) refl in
    omega arith
  where
    cut_of : (n : ℕ) → pending_on x (p.devices.first n) (take (cut n) (p.live n)) ≤ length (steps_on x (drop (cut n) (p.live n))) + pending_on x (p.devices.first n) (p.live n)
    cut_of n = pending_cut x (p.devices.first n) (cut n) (p.live n) (roomy.whole.ruled n) (ends_later (p.stable n) (cut n) (p.live n) (is n).0 (roomy.loose n))

    other : (n : ℕ) → n ≢ p.guard x → pending_on x (p.devices.first n) (take (cut n) (p.live n)) ≤ pending_on x (p.devices.first n) (p.live n)
    other n d =
        let c = cut_of n in
        let z = ap (λ (l : List Step). length l) (none_later x (p.stable n) (cut n) (p.live n) (is n).0 (rolled.others x n d)) in
        omega arith

    steps : ℕ
    steps = length (steps_on x (drop (cut (p.guard x)) (p.live (p.guard x))))

    before : ℕ → ℕ
    before n = pending_on x (p.devices.first (suc n)) (logs_at p cut (suc n))

    after : ℕ → ℕ
    after n = pending_on x (p.devices.first (suc n)) (p.live (suc n))

    all : (g : ℕ) → p.guard x ≡ g → total before nodes ≤ steps + total after nodes
    all zero e = total_fall before after 0 steps (λ n d. other (suc n) (λ z. absurd (apart n (z ∙ e)))) (let o = other 1 (λ z. absurd (apart 0 (z ∙ e))) in omega arith) nodes
      where
        apart : (n : ℕ) → suc n ≡ zero → ⊥
        apart n e = absurd (omega arith)
    all (suc g) e = total_fall before after g steps (λ n d. other (suc n) (λ z. d (let q : suc n ≡ suc g = z ∙ e in omega arith)))
        (subst (λ k. pending_on x (p.devices.first k) (logs_at p cut k) ≤ steps + pending_on x (p.devices.first k) (p.live k)) e (cut_of (p.guard x))) nodes

-- ---- steps

-- nothing of a log has no step
all_dropped : (x k : ℕ) (l : List LogRecord) → length l ≤ k → steps_on x (drop k l) ≡ []
all_dropped x k l le = ap (steps_on x) (drop_all k l le)

-- no other log has a loose step: one more record
logged_others : (p : History) (n : ℕ) (r : LogRecord) → IsHistory p → IsRising p → ((y : ℕ) → (step_on y r ≡ []) ⊎ (p.guard y ≡ n)) → (x k : ℕ) → k ≢ p.guard x → (k ≡ n) ⊎ (k ≢ n) → steps_on x (drop (p.stable k) (with_record n r p.live k)) ≡ []
logged_others p n r history rolled own x k d (inr e) = rw (with_record-other n r p.live k e) (rolled.others x k d)
logged_others p n r history rolled own x k d (inl e) = go (own x)
  where
    go : (step_on x r ≡ []) ⊎ (p.guard x ≡ n) → steps_on x (drop (p.stable k) (with_record n r p.live k)) ≡ []
    go (inr g) = absurd (d (e ∙ sym g))
    go (inl z) = subst (λ j. steps_on x (drop (p.stable j) (with_record n r p.live j)) ≡ []) (sym e)
        (rw (with_record-same n r p.live, drop_push (p.stable n) (p.live n) r (history.sound n), steps_on-append x (drop (p.stable n) (p.live n)) (r ∷ []), rolled.others x n (λ q. d (e ∙ q)), z) refl)

-- the identifier rises along the guard's log: one more record
logged_own : (p : History) (n : ℕ) (r : LogRecord) (entry : ℕ → MapEntry) (now : ℕ → PageImage) (last : ℕ → ℕ) → IsHistory p → IsRising p → ((y : ℕ) → p.guard y ≡ n → ident_of (image_now p y) + length (step_on y r) ≤ ident_of (now y))
    → (x k : ℕ) → p.stable (p.guard x) ≤ k → k ≤ length (with_record n r p.live (p.guard x)) → (p.guard x ≡ n) ⊎ (p.guard x ≢ n)
    → ident_of (with_last_cut p n p.image now x k) + length (steps_on x (drop k (with_record n r p.live (p.guard x)))) ≤ ident_of (with_last_cut p n p.image now x (length (with_record n r p.live (p.guard x))))
logged_own p n r entry now last history rolled rises x k low high (inr d) =
    rw (with_last_cut-off p n p.image now x k d, with_last_cut-off p n p.image now x (length (with_record n r p.live (p.guard x))) d, with_record-other n r p.live (p.guard x) d) (rolled.own x k low (omega (arith, ap (λ (l : List LogRecord). length l) (with_record-other n r p.live (p.guard x) d))))
logged_own p n r entry now last history rolled rises x k low high (inl g) = go (cases_lt (length (p.live n)) k)
  where
    long : length (with_record n r p.live (p.guard x)) ≡ suc (length (p.live n))
    long = rw (g, with_record-same n r p.live) (omega (arith, length-append (p.live n) (r ∷ [])))

    end : with_last_cut p n p.image now x (length (with_record n r p.live (p.guard x))) ≡ now x
    end = with_last_cut-end p n r p.image now x g

    go : (length (p.live n) < k) ⊎ (k ≤ length (p.live n)) → ident_of (with_last_cut p n p.image now x k) + length (steps_on x (drop k (with_record n r p.live (p.guard x)))) ≤ ident_of (with_last_cut p n p.image now x (length (with_record n r p.live (p.guard x))))
    go (inl lt) =
        let e : k ≡ length (with_record n r p.live (p.guard x)) = omega (arith, long) in
        let z = ap (λ (l : List Step). length l) (all_dropped x k (with_record n r p.live (p.guard x)) (omega arith)) in
        let i = ap (λ j. ident_of (with_last_cut p n p.image now x j)) e in
        omega arith
    go (inr le) =
        let low' : p.stable n ≤ k = subst (λ j. p.stable j ≤ k) g low in
        let was = rolled.own x k low (rw g le) in
        let was' : ident_of (p.image x k) + length (steps_on x (drop k (p.live n))) ≤ ident_of (image_now p x) = subst (λ j. ident_of (p.image x k) + length (steps_on x (drop k (p.live j))) ≤ ident_of (image_now p x)) g was in
        let up = rises x g in
        let i : with_last_cut p n p.image now x k ≡ p.image x k = with_last_cut-low p n p.image now x k le in
        let l : with_record n r p.live (p.guard x) ≡ p.live n ++ r ∷ [] = rw g (with_record-same n r p.live) in
        let s : length (steps_on x (drop k (p.live n ++ r ∷ []))) ≡ length (steps_on x (drop k (p.live n))) + length (step_on x r) =
        rw (drop_push k (p.live n) r le, steps_on-append x (drop k (p.live n)) (r ∷ []), append-nil (step_on x r)) (length-append (steps_on x (drop k (p.live n))) (step_on x r)) in
        rw (i, end, l) (omega arith)

-- the same, for the end of a transaction
ended_others : (p : History) (n : ℕ) (r : LogRecord) → IsRising p → (x k : ℕ) → k ≢ p.guard x → (k ≡ n) ⊎ (k ≢ n) → steps_on x (drop (set_at n (suc (length (p.live n))) p.stable k) (with_record n r p.live k)) ≡ []
ended_others p n r rolled x k d (inr e) = rw (set_at-other n (suc (length (p.live n))) p.stable k e, with_record-other n r p.live k e) (rolled.others x k d)
ended_others p n r rolled x k d (inl e) = subst (λ j. steps_on x (drop (set_at n (suc (length (p.live n))) p.stable j) (with_record n r p.live j)) ≡ []) (sym e)
    (rw (set_at-same n (suc (length (p.live n))) p.stable, with_record-same n r p.live) (all_dropped x (suc (length (p.live n))) (p.live n ++ r ∷ []) (omega (arith, length-append (p.live n) (r ∷ [])))))

ended_own : (p : History) (n t : ℕ) (r : LogRecord) → IsRising p → (x k : ℕ) → set_at n (suc (length (p.live n))) p.stable (p.guard x) ≤ k → k ≤ length (with_record n r p.live (p.guard x)) → (p.guard x ≡ n) ⊎ (p.guard x ≢ n)
    → ident_of (with_last_cut p n p.image (image_now p) x k) + length (steps_on x (drop k (with_record n r p.live (p.guard x)))) ≤ ident_of (with_last_cut p n p.image (image_now p) x (length (with_record n r p.live (p.guard x))))
ended_own p n t r rolled x k low high (inr d) =
    rw (with_last_cut-off p n p.image (image_now p) x k d, with_last_cut-off p n p.image (image_now p) x (length (with_record n r p.live (p.guard x))) d, with_record-other n r p.live (p.guard x) d)
    (rolled.own x k (rw (set_at-other n (suc (length (p.live n))) p.stable (p.guard x) d) at low) (omega (arith, ap (λ (l : List LogRecord). length l) (with_record-other n r p.live (p.guard x) d))))
ended_own p n t r rolled x k low high (inl g) =
    let long : length (with_record n r p.live (p.guard x)) ≡ suc (length (p.live n)) = rw (g, with_record-same n r p.live) (omega (arith, length-append (p.live n) (r ∷ []))) in
    let low' : suc (length (p.live n)) ≤ k = rw (g, set_at-same n (suc (length (p.live n))) p.stable) at low in
    let e : k ≡ length (with_record n r p.live (p.guard x)) = omega arith in
    let z = ap (λ (l : List Step). length l) (all_dropped x k (with_record n r p.live (p.guard x)) (omega arith)) in
    let i = ap (λ j. ident_of (with_last_cut p n p.image (image_now p) x j)) e in
    omega arith

-- for a log that is stable further
forced_others : (p : History) (n k : ℕ) → IsRising p → p.stable n ≤ k → (x m : ℕ) → m ≢ p.guard x → (m ≡ n) ⊎ (m ≢ n) → steps_on x (drop (set_at n k p.stable m) (p.live m)) ≡ []
forced_others p n k rolled low x m d (inr e) = rw (set_at-other n k p.stable m e) (rolled.others x m d)
forced_others p n k rolled low x m d (inl e) = subst (λ j. steps_on x (drop (set_at n k p.stable j) (p.live j)) ≡ []) (sym e)
    (rw (set_at-same n k p.stable) (none_later x (p.stable n) k (p.live n) low (rolled.others x n (λ q. d (e ∙ q)))))

forced_low : (p : History) (n k : ℕ) → p.stable n ≤ k → (m j : ℕ) → set_at n k p.stable m ≤ j → (m ≡ n) ⊎ (m ≢ n) → p.stable m ≤ j
forced_low p n k low m j l (inr e) = rw (set_at-other n k p.stable m e) at l
forced_low p n k low m j l (inl e) = let l' : k ≤ j = rw (e, set_at-same n k p.stable) at l in rw e (omega arith)

-- for a log that was cut
stopped_others : (p : History) (n k : ℕ) → IsRising p → k ≤ length (p.live n) → (x m : ℕ) → m ≢ p.guard x → (m ≡ n) ⊎ (m ≢ n) → steps_on x (drop (set_at n k p.stable m) (set_at n (take k (p.live n)) p.live m)) ≡ []
stopped_others p n k rolled high x m d (inr e) = rw (set_at-other n k p.stable m e, set_at-other n (take k (p.live n)) p.live m e) (rolled.others x m d)
stopped_others p n k rolled high x m d (inl e) = subst (λ j. steps_on x (drop (set_at n k p.stable j) (set_at n (take k (p.live n)) p.live j)) ≡ []) (sym e)
    (rw (set_at-same n k p.stable, set_at-same n (take k (p.live n)) p.live) (all_dropped x k (take k (p.live n)) (omega (arith, length-take-le k (p.live n) high))))

stopped_own : (p : History) (n k : ℕ) → IsRising p → k ≤ length (p.live n) → (x j : ℕ) → set_at n k p.stable (p.guard x) ≤ j → j ≤ length (set_at n (take k (p.live n)) p.live (p.guard x)) → (p.guard x ≡ n) ⊎ (p.guard x ≢ n)
    → ident_of (p.image x j) + length (steps_on x (drop j (set_at n (take k (p.live n)) p.live (p.guard x)))) ≤ ident_of (p.image x (length (set_at n (take k (p.live n)) p.live (p.guard x))))
stopped_own p n k rolled high x j low h (inr d) =
    rw (set_at-other n (take k (p.live n)) p.live (p.guard x) d) (rolled.own x j (rw (set_at-other n k p.stable (p.guard x) d) at low) (rw (set_at-other n (take k (p.live n)) p.live (p.guard x) d) at h))
stopped_own p n k rolled high x j low h (inl g) =
    let long : length (set_at n (take k (p.live n)) p.live (p.guard x)) ≡ k = rw (g, set_at-same n (take k (p.live n)) p.live) (length-take-le k (p.live n) high) in
    let low' : k ≤ j = rw (g, set_at-same n k p.stable) at low in
    let e : j ≡ length (set_at n (take k (p.live n)) p.live (p.guard x)) = omega arith in
    let z = ap (λ (l : List Step). length l) (all_dropped x j (set_at n (take k (p.live n)) p.live (p.guard x)) (omega arith)) in
    let i = ap (λ t. ident_of (p.image x t)) e in
    omega arith

-- a page whose records are all stable has no step that isn't
quiet : (p : History) (x : ℕ) → IsHistory p → IsRising p → p.last x ≤ p.stable (p.guard x) → (n : ℕ) → steps_on x (drop (p.stable n) (p.live n)) ≡ []
quiet p x history rolled sure n = go (cases_eq n (p.guard x))
  where
    nothing : (l : List Step) → length l ≡ 0 → l ≡ []
    nothing [] e = refl
    nothing (s ∷ l) e = absurd (omega arith)

    go : (n ≡ p.guard x) ⊎ (n ≢ p.guard x) → steps_on x (drop (p.stable n) (p.live n)) ≡ []
    go (inr d) = rolled.others x n d
    go (inl e) =
        let o = rolled.own x (p.stable (p.guard x)) (omega arith) (history.sound (p.guard x)) in
        let s = ap ident_of (history.steady x (p.stable (p.guard x)) sure (history.sound (p.guard x))).0 in
        rw e (nothing (steps_on x (drop (p.stable (p.guard x)) (p.live (p.guard x)))) (omega arith))

-- for a page that goes to another node
passed_others : (p : History) (x m : ℕ) → IsHistory p → IsRising p → p.last x ≤ p.stable (p.guard x) → (y n : ℕ) → n ≢ set_at x m p.guard y → (y ≡ x) ⊎ (y ≢ x) → steps_on y (drop (p.stable n) (p.live n)) ≡ []
passed_others p x m history rolled sure y n d (inl e) = subst (λ z. steps_on z (drop (p.stable n) (p.live n)) ≡ []) (sym e) (quiet p x history rolled sure n)
passed_others p x m history rolled sure y n d (inr e) = rolled.others y n (rw (set_at-other x m p.guard y e) at d)

passed_own : (p : History) (x m : ℕ) → IsHistory p → IsRising p → p.last x ≤ p.stable (p.guard x) → (y k : ℕ) → p.stable (set_at x m p.guard y) ≤ k → k ≤ length (p.live (set_at x m p.guard y)) → (y ≡ x) ⊎ (y ≢ x)
    → ident_of ((passed p x m).image y k) + length (steps_on y (drop k (p.live (set_at x m p.guard y)))) ≤ ident_of (image_now (passed p x m) y)
passed_own p x m history rolled sure y k low high (inl e) =
    let low' : p.stable m ≤ k = rw (eq-eqb y x e) at low in
    let z = ap (λ (l : List Step). length l) (none_later x (p.stable m) k (p.live m) low' (quiet p x history rolled sure m)) in
    rw (e, eq-eqb x x refl) (omega arith)
passed_own p x m history rolled sure y k low high (inr e) =
    let low' = rw (set_at-other x m p.guard y e) at low in
    let high' = rw (set_at-other x m p.guard y e) at high in
    rw (ne_eqb y x e) (rolled.own y k low' high')

-- for a log whose start moves
moved_others : (p : History) (n c : ℕ) → IsRising p → p.stable n ≡ length (p.live n) → (x m : ℕ) → m ≢ p.guard x → (m ≡ n) ⊎ (m ≢ n) → steps_on x (drop (set_at n (p.stable n - c) p.stable m) (set_at n (drop c (p.live n)) p.live m)) ≡ []
moved_others p n c rolled whole x m d (inr e) = rw (set_at-other n (p.stable n - c) p.stable m e, set_at-other n (drop c (p.live n)) p.live m e) (rolled.others x m d)
moved_others p n c rolled whole x m d (inl e) = subst (λ j. steps_on x (drop (set_at n (p.stable n - c) p.stable j) (set_at n (drop c (p.live n)) p.live j)) ≡ []) (sym e)
    (rw (set_at-same n (p.stable n - c) p.stable, set_at-same n (drop c (p.live n)) p.live) (all_dropped x (p.stable n - c) (drop c (p.live n)) (omega (arith, length-drop c (p.live n)))))

moved_own : (p : History) (n c : ℕ) → IsRising p → p.stable n ≡ length (p.live n) → (x k : ℕ) → set_at n (p.stable n - c) p.stable (p.guard x) ≤ k → k ≤ length (set_at n (drop c (p.live n)) p.live (p.guard x)) → (p.guard x ≡ n) ⊎ (p.guard x ≢ n)
    → ident_of ((moved p n c).image x k) + length (steps_on x (drop k (set_at n (drop c (p.live n)) p.live (p.guard x)))) ≤ ident_of (image_now (moved p n c) x)
moved_own p n c rolled whole x k low high (inr d) =
    let low' = rw (set_at-other n (p.stable n - c) p.stable (p.guard x) d) at low in
    let high' = rw (set_at-other n (drop c (p.live n)) p.live (p.guard x) d) at high in
    rw (ne_eqb (p.guard x) n d) (rolled.own x k low' high')
moved_own p n c rolled whole x k low high (inl g) =
    let low' : p.stable n - c ≤ k = rw (g, set_at-same n (p.stable n - c) p.stable) at low in
    let z = ap (λ (l : List Step). length l) (all_dropped x k (drop c (p.live n)) (omega (arith, length-drop c (p.live n)))) in
    rw (g, eq-eqb n n refl) (omega arith)

pub logged_keeps_rising : LoggedKeepsRising
logged_keeps_rising p n r entry now last history rolled own rises = record {
  others = λ x k d. logged_others p n r history rolled own x k d (cases_eq k n);
  own = λ x k low high. logged_own p n r entry now last history rolled rises x k low high (cases_eq (p.guard x) n);
}

pub end_keeps_rising : EndKeepsRising
end_keeps_rising p n t r rolled none = record {
  others = λ x k d. ended_others p n r rolled x k d (cases_eq k n);
  own = λ x k low high. ended_own p n t r rolled x k low high (cases_eq (p.guard x) n);
}

pub force_keeps_rising : ForceKeepsRising
force_keeps_rising p n k rolled low = record {
  others = λ x m d. forced_others p n k rolled low x m d (cases_eq m n);
  own = λ x j l h. rolled.own x j (forced_low p n k low (p.guard x) j l (cases_eq (p.guard x) n)) h;
}

pub stop_keeps_rising : StopKeepsRising
stop_keeps_rising p n k rolled high = record {
  others = λ x m d. stopped_others p n k rolled high x m d (cases_eq m n);
  own = λ x j l h. stopped_own p n k rolled high x j l h (cases_eq (p.guard x) n);
}

pub pass_keeps_rising : PassKeepsRising
pass_keeps_rising p x m history rolled sure = record {
  others = λ y n d. passed_others p x m history rolled sure y n d (cases_eq y x);
  own = λ y k low high. passed_own p x m history rolled sure y k low high (cases_eq y x);
}

pub move_keeps_rising : MoveKeepsRising
move_keeps_rising p n c rolled whole = record {
  others = λ x m d. moved_others p n c rolled whole x m d (cases_eq m n);
  own = λ x k low high. moved_own p n c rolled whole x k low high (cases_eq (p.guard x) n);
}

pub formatted_is_rising : FormattedIsRising
formatted_is_rising s = record { others = λ x n d. refl; own = λ x k low high. let z : k ≡ 0 = omega arith in rw z (omega arith) }
