-- Log records move to the kept ones, and kept ones go.
use Rattle.std.proofs.Common.{◌≡◌, ◌≢◌, ◌⊎◌, inl, inr, ℕ, suc, ◌+◌, ◌-◌, ◌<◌, ◌≤◌, cond, eqb, List, [], ◌∷◌, ◌++◌, length, take, drop, refl, ap, sym, subst, ◌∙◌, arith, Option, Some, None, append_assoc, append-nil, eq-eqb, ne_eqb, take-append-drop, length-drop, length-take-le, take_all, pred}
use Rattle.std.proofs.lemmas.Bool.{cases_eq, cases_lt}
use Rattle.sd_base.specs.Places.{page_of_place}
use Rattle.log_record.specs.declared.record.LogRecord.{LogRecord}
use Rattle.recovery_theory.specs.Chain.{ChainedBy, steps_from, steps_to, in_log, all_by, replay, Rises}
use Rattle.recovery_theory.specs.Effect.{steps_on, OpenUpdate, Transaction, left_by, left_of, listed, of_slot, open_updates, effect_of, Effect}
use Rattle.recovery_theory.specs.Effect.Effect.{Begun, Updated, Ended, Compensated, Mapped}
use Rattle.recovery_theory.specs.History.{History, IsHistory, IsCut, logs_at, image_at, entry_at, image_now, entry_now}
use Rattle.recovery_theory.specs.Pages.{in_life_from, birth_of}
use Rattle.recovery_theory.specs.Standing.{IsApart, Devices, Settles, PageChain, InOrder, Ordered, IsStanding, base_of, ChangeInOrder, EffectInOrder}
use Rattle.recovery_theory.specs.Steps.{FreshIsClean, IsClean, MayMove, MoveKeepsHistory, PurgeKeepsHistory, moved, purged, set_at}
use Rattle.sd_base.specs.declared.page_op.PageOp.{PageOp}
use Rattle.sd_base.specs.declared.page_op.PageOp.TheVariants.{Put, Append, Cut, MapUse, MapFree}
use Rattle.recovery_theory.proofs.Cuts.{at_or_off, set_at-same, set_at-other, stands_ext}
use Rattle.recovery_theory.proofs.ChainLaws.{ident-image, live-new, past_image}
use Rattle.recovery_theory.proofs.StepLists.{steps_from-append, steps_from-steps_from, in_log-others, Rises-back, steps_from-parts, steps_to-parts}
use Rattle.recovery_theory.proofs.BeginsAndLocks.{left_of-new, left_by_effect-none}
use Rattle.recovery_theory.proofs.PageLaws.{ident-in_life_from, in_life_from-above}
use Rattle.recovery_theory.proofs.OpenUpdates.{steps_on-append}
use Rattle.recovery_theory.proofs.PageWrites.{settles}
use Rattle.space_map.specs.PageImage.{PageImage, ident_of}

-- what is left, along two parts of a log
pub left_of-split : (t r : ℕ) (l k : List LogRecord) (s : Option (List OpenUpdate)) → left_of t r (l ++ k) s ≡ left_of t (r + length l) k (left_of t r l s)
left_of-split t r [] k s = ap (λ z. left_of t z k s) (omega arith)
left_of-split t r (e ∷ l) k s = left_of-split t (suc r) l k (left_by t r e s) ∙ ap (λ z. left_of t z k (left_of t (suc r) l (left_by t r e s))) (omega arith)

-- what hasn't begun doesn't begin past its own number
pub left_of-old : (t r : ℕ) (l : List LogRecord) → t < r → left_of t r l None ≡ None
left_of-old t r [] h = refl
left_of-old t r (rec ∷ l) h = ap (left_of t (suc r) l) (left_by_effect-none t r (effect_of rec) (λ e. absurd (omega arith))) ∙ left_of-old t (suc r) l (omega arith)

-- the open updates are in what is left, if no open transaction began before it
pub left_of-drop : (t f c : ℕ) (l : List LogRecord) → c ≤ length l → ((us : List OpenUpdate) → left_of t f l None ≡ Some us → f + c ≤ t)
    → listed (left_of t (f + c) (drop c l) None) ≡ listed (left_of t f l None)
left_of-drop t f c l le h = go (cases_lt t (f + c)) (left_of t f l None) refl
  where
    len : length (take c l) ≡ c
    len = length-take-le c l le

    split : left_of t f l None ≡ left_of t (f + c) (drop c l) (left_of t f (take c l) None)
    split = ap (λ z. left_of t f z None) (sym (take-append-drop c l)) ∙ (left_of-split t f (take c l) (drop c l) None ∙ ap (λ z. left_of t (f + z) (drop c l) (left_of t f (take c l) None)) len)

    go : (t < f + c) ⊎ (f + c ≤ t) → (s : Option (List OpenUpdate)) → left_of t f l None ≡ s → listed (left_of t (f + c) (drop c l) None) ≡ listed s
    go (inl lt) None e = rw (left_of-old t (f + c) (drop c l) lt) refl
    go (inl lt) (Some us) e = let k = h us e in absurd (omega arith)
    go (inr ge) s e = rw (← e, split, left_of-new t f (take c l) (omega (arith, len))) refl

-- what is in order behind records is in order behind the last of them
pub op_order_less : (w : Devices) (a b : List LogRecord) (p : ℕ) (op : PageOp) → ChangeInOrder w (a ++ b) p op → ChangeInOrder w b p op
op_order_less w a b p (MapFree q i) h =
    let x = page_of_place w.shape p q in
    let j = pred i in
    (steps_from-parts j (steps_on x a) (steps_on x b) (rw (steps_on-append x a b) at h)).1
op_order_less w a b p (MapUse q g) h = tt
op_order_less w a b p (Put q g) h = tt
op_order_less w a b p (Append q g) h = tt
op_order_less w a b p (Cut q g v) h = tt

pub in_order_less : (w : Devices) (a b : List LogRecord) (r : LogRecord) → InOrder w (a ++ b) r → InOrder w b r
in_order_less w a b r h = by (effect_of r) h
  where
    by : (e : Effect) → EffectInOrder w (a ++ b) e → EffectInOrder w b e
    by Begun h = tt
    by (Updated t x k op back) h = op_order_less w a b x op h
    by (Ended t) h = tt
    by (Compensated t next x k op) h = op_order_less w a b x op h
    by (Mapped x k op) h = op_order_less w a b x op h

pub ordered_less : (w : Devices) (a b l : List LogRecord) → Ordered w (a ++ b) l → Ordered w b l
ordered_less w a b [] o = tt
ordered_less w a b (r ∷ l) o = (in_order_less w a b r o.0, ordered_less w a (b ++ r ∷ []) l (subst (λ z. Ordered w z l) (append_assoc a b (r ∷ [])) o.1))

-- and the rest of an ordered log behind its front
pub ordered_rest : (w : Devices) (b l k : List LogRecord) → Ordered w b (l ++ k) → Ordered w (b ++ l) k
ordered_rest w b [] k o = subst (λ z. Ordered w z k) (sym (append-nil b)) o
ordered_rest w b (r ∷ l) k o = subst (λ z. Ordered w z k) (append_assoc b (r ∷ []) l) (ordered_rest w (b ++ r ∷ []) l k o.1)

-- the end of an ordered log is ordered
pub ordered_suffix : (w : Devices) (a b : List LogRecord) → Ordered w [] (a ++ b) → Ordered w [] b
ordered_suffix w a b o = ordered_less w a [] b (subst (λ z. Ordered w z b) (sym (append-nil a)) (ordered_rest w [] a b o))

module _ (p : History) (n c : ℕ) (history : IsHistory p) (may : MayMove p n c) where
  abbrev q : History
  q = moved p n c

  -- the cut of the old logs that belongs to a cut of the new ones
  abbrev up : (ℕ → ℕ) → ℕ → ℕ
  up cut = set_at n (length (p.live n)) cut

  cut_n : (cut : ℕ → ℕ) → IsCut q cut → cut n ≡ length (p.live n) - c
  cut_n cut is =
      let a = rw (set_at-same n (p.stable n - c) p.stable) at (is n).0 in
      let b = rw (set_at-same n (drop c (p.live n)) p.live) at (is n).1 in
      omega (arith, may.whole, may.within, length-drop c (p.live n))

  pub up_legal : (cut : ℕ → ℕ) → IsCut q cut → IsCut p (up cut)
  up_legal cut is = at_or_off (λ m. (p.stable m ≤ up cut m) × (up cut m ≤ length (p.live m))) n
      (rw (set_at-same n (length (p.live n)) cut) (omega (arith, may.whole, may.within), omega (arith, may.whole, may.within)))
      (λ m d. rw (set_at-other n (length (p.live n)) cut m d) (rw (set_at-other n (p.stable n - c) p.stable m d) at (is m).0, rw (set_at-other n (drop c (p.live n)) p.live m d) at (is m).1))

  up_here : (cut : ℕ → ℕ) → logs_at p (up cut) n ≡ p.live n
  up_here cut = rw (set_at-same n (length (p.live n)) cut) (take_all (length (p.live n)) (p.live n) (omega (arith, may.whole, may.within)))

  up_there : (cut : ℕ → ℕ) (m : ℕ) → m ≢ n → logs_at p (up cut) m ≡ logs_at q cut m
  up_there cut m d = rw (set_at-other n (length (p.live n)) cut m d, set_at-other n (drop c (p.live n)) p.live m d) refl

  now_here : (cut : ℕ → ℕ) → IsCut q cut → logs_at q cut n ≡ drop c (p.live n)
  now_here cut is = rw (set_at-same n (drop c (p.live n)) p.live, cut_n cut is) (take_all (length (p.live n) - c) (drop c (p.live n)) (omega (arith, may.whole, may.within, length-drop c (p.live n))))

  -- kept and live records together are what they were
  all_records : (cut : ℕ → ℕ) → IsCut q cut → (m : ℕ) → q.devices.kept m ++ logs_at q cut m ≡ p.devices.kept m ++ logs_at p (up cut) m
  all_records cut is = at_or_off (λ m. q.devices.kept m ++ logs_at q cut m ≡ p.devices.kept m ++ logs_at p (up cut) m) n
      (rw (now_here cut is, up_here cut, set_at-same n (p.devices.kept n ++ take c (p.live n)) p.devices.kept)
      (append_assoc (p.devices.kept n) (take c (p.live n)) (drop c (p.live n)) ∙ ap (λ l. p.devices.kept n ++ l) (take-append-drop c (p.live n))))
      (λ m d. rw (set_at-other n (p.devices.kept n ++ take c (p.live n)) p.devices.kept m d, up_there cut m d) refl)

  together : (cut : ℕ → ℕ) → IsCut q cut → (y m : ℕ) → steps_on y (q.devices.kept m) ++ steps_on y (logs_at q cut m) ≡ steps_on y (p.devices.kept m) ++ steps_on y (logs_at p (up cut) m)
  together cut is y m = sym (steps_on-append y (q.devices.kept m) (logs_at q cut m)) ∙ (ap (steps_on y) (all_records cut is m) ∙ steps_on-append y (p.devices.kept m) (logs_at p (up cut) m))

  pub moved_open : (cut : ℕ → ℕ) → IsCut q cut → (o : Transaction) → open_updates q.devices.first (logs_at q cut) o ≡ open_updates p.devices.first (logs_at p (up cut)) o
  moved_open cut is o = at_or_off (λ m. listed (left_of o.txn (q.devices.first m) (logs_at q cut m) None) ≡ listed (left_of o.txn (p.devices.first m) (logs_at p (up cut) m) None)) n
      (rw (now_here cut is, up_here cut, set_at-same n (p.devices.first n + c) p.devices.first) (left_of-drop o.txn (p.devices.first n) c (p.live n) may.within (may.begun o.txn)))
      (λ m d. rw (set_at-other n (p.devices.first n + c) p.devices.first m d, up_there cut m d) refl) o.node

  moved_chain : (cut : ℕ → ℕ) → IsCut q cut → (y : ℕ) (base shown image : PageImage)
      → ChainedBy base shown (λ m. steps_on y (p.devices.kept m)) (λ m. steps_on y (logs_at p (up cut) m)) image (p.guard y)
      → steps_from (ident_of shown) (steps_on y (take c (p.live n))) ≡ []
      → ChainedBy base shown (λ m. steps_on y (q.devices.kept m)) (λ m. steps_on y (logs_at q cut m)) image (p.guard y)
  moved_chain cut is y base shown image ch none = record {
    old = ch.old;
    new = ch.new;
    linked = λ m. ap (steps_from (ident_of base)) (together cut is y m) ∙ ch.linked m;
    same = ch.same;
    near = at_or_off (λ m. steps_from (ident_of shown) (steps_on y (q.devices.kept m)) ≡ []) n
        (rw (set_at-same n (p.devices.kept n ++ take c (p.live n)) p.devices.kept, steps_on-append y (p.devices.kept n) (take c (p.live n)), steps_from-append (ident_of shown) (steps_on y (p.devices.kept n)) (steps_on y (take c (p.live n))), ch.near n, none) refl)
        (λ m d. rw (set_at-other n (p.devices.kept n ++ take c (p.live n)) p.devices.kept m d) (ch.near m));
    whole = ch.whole;
    rising = ch.rising;
  }

  -- the part of what a log has of a page
  part : (y i : ℕ) → steps_from i (steps_on y (p.live n)) ≡ [] → steps_from i (steps_on y (take c (p.live n))) ≡ []
  part y i e =
      let s : steps_on y (p.live n) ≡ steps_on y (take c (p.live n)) ++ steps_on y (drop c (p.live n)) = ap (steps_on y) (sym (take-append-drop c (p.live n))) ∙ steps_on-append y (take c (p.live n)) (drop c (p.live n)) in
      (steps_from-parts i (steps_on y (take c (p.live n))) (steps_on y (drop c (p.live n))) (rw s at e)).0

  pub moved_at : {A : Type 0} (f : ℕ → ℕ → A) (cut : ℕ → ℕ) (y : ℕ) → f y (up cut (p.guard y)) ≡ cond (eqb (p.guard y) n) (f y (length (p.live (p.guard y)))) (f y (cut (p.guard y)))
  moved_at {A} f cut y = go (cases_eq (p.guard y) n)
    where
      go : (p.guard y ≡ n) ⊎ (p.guard y ≢ n) → f y (up cut (p.guard y)) ≡ cond (eqb (p.guard y) n) (f y (length (p.live (p.guard y)))) (f y (cut (p.guard y)))
      go (inl g) = rw (g, set_at-same n (length (p.live n)) cut, eq-eqb n n refl) refl
      go (inr d) = rw (set_at-other n (length (p.live n)) cut (p.guard y) d, ne_eqb (p.guard y) n d) refl

  moved_page : (cut : ℕ → ℕ) → IsCut q cut → (y : ℕ) → PageChain q.devices (logs_at q cut) (birth_of (entry_at p (up cut) y)) (image_at p (up cut) y) y (p.guard y)
  moved_page cut is y = go (p.devices.disk y) refl
    where
      pg : PageChain p.devices (logs_at p (up cut)) (birth_of (entry_at p (up cut) y)) (image_at p (up cut) y) y (p.guard y)
      pg = (history.stands (up cut) (up_legal cut is)).pages y

      base : PageImage
      base = in_life_from y (birth_of (entry_at p (up cut) y)) (base_of p.devices y)

      beyond : steps_from (ident_of (image_at p (up cut) y)) (steps_on y (take c (p.live n))) ≡ []
      beyond =
          let all = past_image (in_life_from y (birth_of (entry_at p (up cut) y)) (base_of p.devices y)) pg.shown (image_at p (up cut) y) (λ m. steps_on y (p.devices.kept m)) (λ m. steps_on y (logs_at p (up cut) m)) (p.guard y) pg.chain (ident_of (image_at p (up cut) y)) (omega (arith, may.whole, may.within)) n in
          let parts = steps_from-parts (ident_of (image_at p (up cut) y)) (steps_on y (p.devices.kept n)) (steps_on y (logs_at p (up cut) n)) all in
          part y (ident_of (image_at p (up cut) y)) (subst (λ l. steps_from (ident_of (image_at p (up cut) y)) (steps_on y l) ≡ []) (up_here cut) parts.1)

      quiet : (p.guard y ≡ n) ⊎ (p.guard y ≢ n) → (i : PageImage) → p.devices.disk y ≡ Some i → steps_from (ident_of pg.shown) (steps_on y (take c (p.live n))) ≡ []
      quiet (inl g) i e =
          let b : entry_at p (up cut) y ≡ entry_now p y = moved_at p.entry cut y ∙ rw (eq-eqb (p.guard y) n g) refl in
          let h : pg.shown ≡ in_life_from y (birth_of (entry_at p (up cut) y)) i = rw e at pg.disk in
          rw (h, b) (may.covered y i g e)
      quiet (inr d) i e =
          let l = live-new (in_life_from y (birth_of (entry_at p (up cut) y)) (base_of p.devices y)) pg.shown (image_at p (up cut) y) (λ m. steps_on y (p.devices.kept m)) (λ m. steps_on y (logs_at p (up cut) m)) (p.guard y) n pg.chain in
          let o = in_log-others n (p.guard y) (ident_of pg.shown) pg.chain.new (λ z. d (sym z)) in
          part y (ident_of pg.shown) (subst (λ z. steps_from (ident_of pg.shown) (steps_on y z) ≡ []) (up_here cut) (l ∙ o))

      go : (o : Option PageImage) → p.devices.disk y ≡ o → PageChain q.devices (logs_at q cut) (birth_of (entry_at p (up cut) y)) (image_at p (up cut) y) y (p.guard y)
      go None e = record {
        shown = image_at p (up cut) y;
        disk = rw e tt;
        chain = moved_chain cut is y (in_life_from y (birth_of (entry_at p (up cut) y)) (base_of p.devices y)) (image_at p (up cut) y) (image_at p (up cut) y)
            (settles (in_life_from y (birth_of (entry_at p (up cut) y)) (base_of p.devices y)) pg.shown (image_at p (up cut) y) (λ m. steps_on y (p.devices.kept m)) (λ m. steps_on y (logs_at p (up cut) m)) (p.guard y) pg.chain) beyond;
        gap = λ m. rw (together cut is y m) (pg.gap m);
        rises = λ m. rw (together cut is y m) (pg.rises m);
      }
      go (Some i) e = record {
        shown = pg.shown;
        disk = pg.disk;
        chain = moved_chain cut is y (in_life_from y (birth_of (entry_at p (up cut) y)) (base_of p.devices y)) pg.shown (image_at p (up cut) y) pg.chain (quiet (cases_eq (p.guard y) n) i e);
        gap = λ m. rw (together cut is y m) (pg.gap m);
        rises = λ m. rw (together cut is y m) (pg.rises m);
      }

  moved_ordered : (cut : ℕ → ℕ) → IsCut q cut → (m : ℕ) → Ordered q.devices [] (q.devices.kept m ++ logs_at q cut m)
  moved_ordered cut is m = subst (Ordered p.devices []) (sym (all_records cut is m)) ((history.stands (up cut) (up_legal cut is)).ordered m)

  moved_slot : (cut : ℕ → ℕ) → IsCut q cut → (y s : ℕ) → Settles p.devices.first (logs_at p (up cut)) (image_at p (up cut) y) y s (p.settled y s) → Settles q.devices.first (logs_at q cut) (image_at p (up cut) y) y s (p.settled y s)
  moved_slot cut is y s (o, ow) = (o, record { alone = λ r d. ap (of_slot y s) (moved_open cut is r) ∙ ow.alone r d; value = rw (moved_open cut is o) ow.value })

  moved_apart : (cut : ℕ → ℕ) → IsCut q cut → (m r k : ℕ) (i : PageImage) → IsApart p.devices (logs_at p (up cut)) p.guard (entry_at p (up cut)) m r k i → IsApart q.devices (logs_at q cut) p.guard (entry_at p (up cut)) m r k i
  moved_apart cut is m r k i (inl h) = inl h
  moved_apart cut is m r k i (inr (h, g)) = inr (ap (steps_from (birth_of (entry_at p (up cut) (page_of_place p.devices.shape m r)))) (together cut is (page_of_place p.devices.shape m r) k) ∙ h, g)

  pub moves_stands : (cut : ℕ → ℕ) → IsCut q cut → IsStanding q.devices (logs_at q cut) p.guard (entry_at q cut) (image_at q cut) p.settled p.lock
  moves_stands cut is =
      let st = history.stands (up cut) (up_legal cut is) in
      stands_ext q.devices (logs_at q cut) (logs_at q cut) p.guard (entry_at p (up cut)) (entry_at q cut) (image_at p (up cut)) (image_at q cut) p.settled p.lock
      (λ m. refl) (moved_at p.entry cut) (moved_at p.image cut) (record {
        pages = moved_page cut is;
        shaped = st.shaped;
        unused = st.unused;
        slots = λ y s. moved_slot cut is y s (st.slots y s);
        locks = λ y s o h. st.locks y s o (λ e. h (ap (of_slot y s) (moved_open cut is o) ∙ e));
        map_pages = st.map_pages;
        lives = st.lives;
        ordered = moved_ordered cut is;
        apart = λ m r k i lt l d e. moved_apart cut is m r k i (st.apart m r k i lt l d e);
      })

pub moves : MoveKeepsHistory
moves p n c history may = record {
  sound = at_or_off (λ m. set_at n (p.stable n - c) p.stable m ≤ length (set_at n (drop c (p.live n)) p.live m)) n
      (rw (set_at-same n (p.stable n - c) p.stable, set_at-same n (drop c (p.live n)) p.live) (omega (arith, may.whole, may.within, length-drop c (p.live n))))
      (λ m d. rw (set_at-other n (p.stable n - c) p.stable m d, set_at-other n (drop c (p.live n)) p.live m d) (history.sound m));
  steady = λ y k l h. steady y k l h (cases_eq (p.guard y) n);
  stands = moves_stands p n c history may;
}
  where
    steady : (y k : ℕ) → (moved p n c).last y ≤ k → k ≤ length ((moved p n c).live (p.guard y)) → (p.guard y ≡ n) ⊎ (p.guard y ≢ n)
        → ((moved p n c).image y k ≡ image_now (moved p n c) y) × ((moved p n c).entry y k ≡ entry_now (moved p n c) y)
    steady y k l h (inl g) = (rw (eq-eqb (p.guard y) n g) refl, rw (eq-eqb (p.guard y) n g) refl)
    steady y k l h (inr d) =
        let e : set_at n (drop c (p.live n)) p.live (p.guard y) ≡ p.live (p.guard y) = set_at-other n (drop c (p.live n)) p.live (p.guard y) d in
        let l' = rw (ne_eqb (p.guard y) n d) at l in
        let h' = rw e at h in
        rw (ne_eqb (p.guard y) n d) (history.steady y k l' h')

pub purges : PurgeKeepsHistory
purges p n gone l history may = record {
  sound = history.sound;
  steady = history.steady;
  stands = λ cut is. let st = history.stands cut is in record {
    pages = λ y. page cut is y;
    shaped = st.shaped;
    unused = st.unused;
    slots = st.slots;
    locks = st.locks;
    map_pages = st.map_pages;
    lives = st.lives;
    ordered = λ m. ordered cut is m;
    apart = λ m r k i lt le d e. apart cut is m r k i (st.apart m r k i lt le d e);
  };
}
  where
    ordered : (cut : ℕ → ℕ) → IsCut p cut → (m : ℕ) → Ordered p.devices [] (set_at n l p.devices.kept m ++ logs_at p cut m)
    ordered cut is = at_or_off (λ m. Ordered p.devices [] (set_at n l p.devices.kept m ++ logs_at p cut m)) n
        (rw (set_at-same n l p.devices.kept) (ordered_suffix p.devices gone (l ++ logs_at p cut n)
        (subst (Ordered p.devices []) (ap (λ k. k ++ logs_at p cut n) may.split ∙ append_assoc gone l (logs_at p cut n)) ((history.stands cut is).ordered n))))
        (λ m d. rw (set_at-other n l p.devices.kept m d) ((history.stands cut is).ordered m))

    -- what the logs have of a page, without what goes
    less : (cut : ℕ → ℕ) (y b : ℕ) (k : ℕ) → steps_from b (steps_on y (p.devices.kept k) ++ steps_on y (logs_at p cut k)) ≡ [] → steps_from b (steps_on y (set_at n l p.devices.kept k) ++ steps_on y (logs_at p cut k)) ≡ []
    less cut y b = at_or_off (λ k. steps_from b (steps_on y (p.devices.kept k) ++ steps_on y (logs_at p cut k)) ≡ [] → steps_from b (steps_on y (set_at n l p.devices.kept k) ++ steps_on y (logs_at p cut k)) ≡ []) n
        (λ h. let h' : steps_from b (steps_on y (gone ++ l) ++ steps_on y (logs_at p cut n)) ≡ [] = rw (← may.split) h in
        let h2 : steps_from b (steps_on y gone ++ (steps_on y l ++ steps_on y (logs_at p cut n))) ≡ [] = rw (steps_on-append y gone l, append_assoc (steps_on y gone) (steps_on y l) (steps_on y (logs_at p cut n))) at h' in
        rw (set_at-same n l p.devices.kept) (steps_from-parts b (steps_on y gone) (steps_on y l ++ steps_on y (logs_at p cut n)) h2).1)
        (λ k d h. rw (set_at-other n l p.devices.kept k d) h)

    apart : (cut : ℕ → ℕ) → IsCut p cut → (m r k : ℕ) (i : PageImage) → IsApart p.devices (logs_at p cut) p.guard (entry_at p cut) m r k i → IsApart (purged p n l).devices (logs_at p cut) p.guard (entry_at p cut) m r k i
    apart cut is m r k i (inl h) = inl h
    apart cut is m r k i (inr (h, g)) = inr (less cut (page_of_place p.devices.shape m r) (birth_of (entry_at p cut (page_of_place p.devices.shape m r))) k h, g)

    page : (cut : ℕ → ℕ) → IsCut p cut → (y : ℕ) → PageChain (purged p n l).devices (logs_at p cut) (birth_of (entry_at p cut y)) (image_at p cut y) y (p.guard y)
    page cut is y =
        let pg = (history.stands cut is).pages y in
        let base : PageImage = in_life_from y (birth_of (entry_at p cut y)) (base_of p.devices y) in
        let up : ident_of (base_of p.devices y) ≤ ident_of (in_life_from y (birth_of (entry_at p cut y)) (base_of p.devices y)) = in_life_from-above y (birth_of (entry_at p cut y)) (base_of p.devices y) in
        let none : steps_from (ident_of (in_life_from y (birth_of (entry_at p cut y)) (base_of p.devices y))) (steps_on y gone) ≡ [] = sym (steps_from-steps_from (ident_of (base_of p.devices y)) (ident_of (in_life_from y (birth_of (entry_at p cut y)) (base_of p.devices y))) up (steps_on y gone)) ∙ ap (steps_from (ident_of (in_life_from y (birth_of (entry_at p cut y)) (base_of p.devices y)))) (may.covered y) in
        record {
          shown = pg.shown;
          disk = pg.disk;
          chain = record {
            old = pg.chain.old;
            new = pg.chain.new;
            linked = at_or_off (λ m. steps_from (ident_of (in_life_from y (birth_of (entry_at p cut y)) (base_of p.devices y))) (steps_on y (set_at n l p.devices.kept m) ++ steps_on y (logs_at p cut m)) ≡ in_log m (ident_of (in_life_from y (birth_of (entry_at p cut y)) (base_of p.devices y))) (pg.chain.old ++ all_by (p.guard y) pg.chain.new)) n
                (let h : steps_from (ident_of (in_life_from y (birth_of (entry_at p cut y)) (base_of p.devices y))) (steps_on y (gone ++ l) ++ steps_on y (logs_at p cut n)) ≡ in_log n (ident_of (in_life_from y (birth_of (entry_at p cut y)) (base_of p.devices y))) (pg.chain.old ++ all_by (p.guard y) pg.chain.new) = rw (← may.split) (pg.chain.linked n) in
                let a = steps_on-append y gone l in
                let b = append_assoc (steps_on y gone) (steps_on y l) (steps_on y (logs_at p cut n)) in
                let e = steps_from-append (ident_of (in_life_from y (birth_of (entry_at p cut y)) (base_of p.devices y))) (steps_on y gone) (steps_on y l ++ steps_on y (logs_at p cut n)) in
                rw (set_at-same n l p.devices.kept) cc)
                (λ m d. rw (set_at-other n l p.devices.kept m d) (pg.chain.linked m));
            same = pg.chain.same;
            near = at_or_off (λ m. steps_from (ident_of pg.shown) (steps_on y (set_at n l p.devices.kept m)) ≡ []) n
                (let h : steps_from (ident_of pg.shown) (steps_on y (gone ++ l)) ≡ [] = rw (← may.split) (pg.chain.near n) in
                rw (set_at-same n l p.devices.kept) (steps_from-parts (ident_of pg.shown) (steps_on y gone) (steps_on y l) (rw (steps_on-append y gone l) at h)).1)
                (λ m d. rw (set_at-other n l p.devices.kept m d) (pg.chain.near m));
            whole = pg.chain.whole;
            rising = pg.chain.rising;
          };
          gap = at_or_off (λ m. steps_to (birth_of (entry_at p cut y)) (steps_on y (set_at n l p.devices.kept m) ++ steps_on y (logs_at p cut m)) ≡ []) n
              (let h : steps_to (birth_of (entry_at p cut y)) (steps_on y (gone ++ l) ++ steps_on y (logs_at p cut n)) ≡ [] = rw (← may.split) (pg.gap n) in
              let h' : steps_to (birth_of (entry_at p cut y)) (steps_on y gone ++ (steps_on y l ++ steps_on y (logs_at p cut n))) ≡ [] = rw (steps_on-append y gone l, append_assoc (steps_on y gone) (steps_on y l) (steps_on y (logs_at p cut n))) at h in
              rw (set_at-same n l p.devices.kept) (steps_to-parts (birth_of (entry_at p cut y)) (steps_on y gone) (steps_on y l ++ steps_on y (logs_at p cut n)) h').1)
              (λ m d. rw (set_at-other n l p.devices.kept m d) (pg.gap m));
          rises = at_or_off (λ m. Rises (steps_on y (set_at n l p.devices.kept m) ++ steps_on y (logs_at p cut m))) n
              (let h : Rises (steps_on y (gone ++ l) ++ steps_on y (logs_at p cut n)) = rw (← may.split) (pg.rises n) in
              let h' : Rises (steps_on y gone ++ (steps_on y l ++ steps_on y (logs_at p cut n))) = rw (steps_on-append y gone l, append_assoc (steps_on y gone) (steps_on y l) (steps_on y (logs_at p cut n))) at h in
              rw (set_at-same n l p.devices.kept) (Rises-back (steps_on y gone) (steps_on y l ++ steps_on y (logs_at p cut n)) h'))
              (λ m d. rw (set_at-other n l p.devices.kept m d) (pg.rises m));
        }

pub fresh : FreshIsClean
fresh p x history e = go (p.devices.disk x) refl
  where
    cut : ℕ → ℕ
    cut n = length (p.live n)

    is : IsCut p cut
    is n = (history.sound n, omega arith)

    pg : PageChain p.devices (logs_at p cut) (birth_of (entry_now p x)) (image_now p x) x (p.guard x)
    pg = (history.stands cut is).pages x

    go : (o : Option PageImage) → p.devices.disk x ≡ o → IsClean p x
    go None h = inl h
    go (Some i) h =
        let s : pg.shown ≡ in_life_from x (birth_of (entry_now p x)) i = rw h at pg.disk in
        let l = ident-in_life_from x (birth_of (entry_now p x)) i in
        let f = ident-image (in_life_from x (birth_of (entry_now p x)) (base_of p.devices x)) pg.shown (image_now p x) (λ m. steps_on x (p.devices.kept m)) (λ m. steps_on x (logs_at p cut m)) (p.guard x) pg.chain in
        let same_identifier = ap ident_of s in
        inr (i, h, sym s ∙ sym (pg.chain.whole ∙ nothing pg.chain.new (omega arith)))
      where
        nothing : (ops : List PageOp) → length ops ≡ 0 → replay (all_by (p.guard x) ops) pg.shown ≡ pg.shown
        nothing [] z = refl
        nothing (op ∷ ops) z = absurd (omega arith)
