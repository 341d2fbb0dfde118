-- Redo of one log makes the pages of its node whole.
use Rattle.std.proofs.Common.{◌≡◌, ◌≢◌, ◌⊎◌, inl, inr, ℕ, zero, suc, pred, ◌<◌, ◌≤◌, Bool, true, false, cond, eqb, List, [], ◌∷◌, ◌++◌, refl, ap, sym, subst, ◌∙◌, arith, Option, Some, append_assoc, append-nil, eq-eqb, ne_eqb, le-ltb, lt-ltb, eqb-true}
use Rattle.std.proofs.lemmas.Bool.{cases_eq, cases_lt}
use Rattle.sd_base.specs.Places.{map_of_data, page_of_place, place_of_page}
use Rattle.sd_base.specs.Shape.{page_count, pages_per_map}
use Rattle.sd_base.specs.declared.shape.Shape.{Shape}
use Rattle.log_record.specs.declared.record.LogRecord.{LogRecord}
use Rattle.recovery_theory.specs.Chain.{steps_from, steps_to, in_log, all_by, redo_page, replay}
use Rattle.recovery_theory.specs.Effect.{Step, steps_on, step_on, Transaction, effect_of, Effect}
use Rattle.recovery_theory.specs.Effect.Effect.{Begun, Updated, Ended, Compensated, Mapped}
use Rattle.recovery_theory.specs.Pages.{SlotValue, in_life_from, entries_of, birth_of, page_named}
use Rattle.recovery_theory.specs.Redo.{birth_in, page_in, redo_step, redo, RedoRecovers, redo_effect}
use Rattle.recovery_theory.specs.Standing.{IsApart, Devices, InOrder, Ordered, IsStanding, base_of, ChangeInOrder}
use Rattle.recovery_theory.specs.Steps.{set_at}
use Rattle.sd_base.specs.declared.page_op.PageOp.TheVariants.{MapFree}
use Rattle.space_map.specs.declared.map_entry.MapEntry.{MapEntry}
use Rattle.recovery_theory.proofs.Cuts.{set_at-same, set_at-other}
use Rattle.recovery_theory.proofs.ChainLaws.{live-new}
use Rattle.recovery_theory.proofs.StepLists.{in_log-others, steps_from-nil_head, steps_from-parts, steps_to-parts}
use Rattle.recovery_theory.proofs.PageLaws.{ident-in_life_from, in_life_from-same, in_life_from-above, in_life_from-blank, birth_cases}
use Rattle.recovery_theory.proofs.LogMoves.{ordered_rest, ordered_suffix}
use Rattle.recovery_theory.proofs.OpenUpdates.{steps_on-append}
use Rattle.sd_base.proofs.PlaceLaws.{at_its_place, map_of_data-below, place_of_page-below}
use Rattle.recovery_theory.proofs.PageRedo.{redo_page-new}
use Rattle.space_map.specs.PageImage.{PageImage, changed, ident_of}
use Rattle.space_map.proofs.PageImageLaws.{changed-ident}

-- redo along two parts of a log
pub redo_page-append : (l k : List Step) (i : PageImage) → redo_page (l ++ k) i ≡ redo_page k (redo_page l i)
redo_page-append [] k i = refl
redo_page-append (s ∷ l) k i = redo_page-append l k (cond (eqb s.bsi (ident_of i)) (changed s.op i) i)

-- what is to be shown of a record: it is of no page, or of one
pub rec_cases : (P : LogRecord → Type 0) → ((r : LogRecord) → ((y : ℕ) → step_on y r ≡ []) → ((shape : Shape) (images : ℕ → PageImage) → redo_effect shape (effect_of r) images ≡ images) → P r)
    → ((r : LogRecord) (x : ℕ) (s : Step) → step_on x r ≡ s ∷ [] → ((y : ℕ) → y ≢ x → step_on y r ≡ []) → ((shape : Shape) (images : ℕ → PageImage) → redo_effect shape (effect_of r) images ≡ redo_step shape x s images)
    → ((w : Devices) (l : List LogRecord) → InOrder w l r → ChangeInOrder w l x s.op) → P r)
    → (r : LogRecord) → P r
rec_cases P clear paged r = by (effect_of r) refl
  where
    by : (e : Effect) → effect_of r ≡ e → P r
    by Begun e = clear r (λ y. rw e refl) (λ m i. rw e refl)
    by (Ended t) e = clear r (λ y. rw e refl) (λ m i. rw e refl)
    by (Updated t x b op back) e = paged r x (record { bsi = b; op = op }) (rw (e, eq-eqb x x refl) refl) (λ y d. rw (e, ne_eqb x y (λ q. d (sym q))) refl) (λ m i. rw e refl) (λ w l h. rw e at h)
    by (Compensated t next x b op) e = paged r x (record { bsi = b; op = op }) (rw (e, eq-eqb x x refl) refl) (λ y d. rw (e, ne_eqb x y (λ q. d (sym q))) refl) (λ m i. rw e refl) (λ w l h. rw e at h)
    by (Mapped x b op) e = paged r x (record { bsi = b; op = op }) (rw (e, eq-eqb x x refl) refl) (λ y d. rw (e, ne_eqb x y (λ q. d (sym q))) refl) (λ m i. rw e refl) (λ w l h. rw e at h)

-- where the map image at a point of the log doesn't yet give the page its life, the log so far has no step of that life
pub later : (w : Devices) (m q entry : ℕ) (a b : List LogRecord) (i : PageImage) → birth_of (entries_of (redo_page (steps_on m b) i) q) ≡ entry → birth_of (entries_of i q) ≢ entry → Ordered w a b → steps_from (pred entry) (steps_on (page_of_place w.shape m q) a) ≡ []
later w m q entry a [] i e d o = absurd (d e)
later w m q entry a (r ∷ b) i e d o = rec_cases (λ r. (birth_of (entries_of (redo_page (steps_on m (r ∷ b)) i) q)) ≡ entry → InOrder w a r → ((i : PageImage) → birth_of (entries_of (redo_page (steps_on m b) i) q) ≡ entry → birth_of (entries_of i q) ≢ entry → steps_from (pred entry) (steps_on (page_of_place w.shape m q) (a ++ r ∷ [])) ≡ []) → steps_from (pred entry) (steps_on (page_of_place w.shape m q) a) ≡ [])
    none some r e o.0 (λ i' e' d'. later w m q entry (a ++ r ∷ []) b i' e' d' o.1)
  where
    front : (r : LogRecord) → steps_from (pred entry) (steps_on (page_of_place w.shape m q) (a ++ r ∷ [])) ≡ [] → steps_from (pred entry) (steps_on (page_of_place w.shape m q) a) ≡ []
    front r h = (steps_from-parts (pred entry) (steps_on (page_of_place w.shape m q) a) (steps_on (page_of_place w.shape m q) (r ∷ [])) (rw (steps_on-append (page_of_place w.shape m q) a (r ∷ [])) at h)).0

    none : (r : LogRecord) → ((y : ℕ) → step_on y r ≡ []) → ((shape : Shape) (images : ℕ → PageImage) → redo_effect shape (effect_of r) images ≡ images) → (birth_of (entries_of (redo_page (steps_on m (r ∷ b)) i) q)) ≡ entry → InOrder w a r
        → ((i : PageImage) → birth_of (entries_of (redo_page (steps_on m b) i) q) ≡ entry → birth_of (entries_of i q) ≢ entry → steps_from (pred entry) (steps_on (page_of_place w.shape m q) (a ++ r ∷ [])) ≡ []) → steps_from (pred entry) (steps_on (page_of_place w.shape m q) a) ≡ []
    none r clear same e o rest = front r (rest i (rw (clear m) at e) d)

    some : (r : LogRecord) (x : ℕ) (s : Step) → step_on x r ≡ s ∷ [] → ((y : ℕ) → y ≢ x → step_on y r ≡ []) → ((shape : Shape) (images : ℕ → PageImage) → redo_effect shape (effect_of r) images ≡ redo_step shape x s images)
        → ((w : Devices) (l : List LogRecord) → InOrder w l r → ChangeInOrder w l x s.op) → (birth_of (entries_of (redo_page (steps_on m (r ∷ b)) i) q)) ≡ entry → InOrder w a r
        → ((i : PageImage) → birth_of (entries_of (redo_page (steps_on m b) i) q) ≡ entry → birth_of (entries_of i q) ≢ entry → steps_from (pred entry) (steps_on (page_of_place w.shape m q) (a ++ r ∷ [])) ≡ []) → steps_from (pred entry) (steps_on (page_of_place w.shape m q) a) ≡ []
    some r x s one off same order e o rest = where_at (cases_eq m x)
      where
        where_at : (m ≡ x) ⊎ (m ≢ x) → steps_from (pred entry) (steps_on (page_of_place w.shape m q) a) ≡ []
        where_at (inr h) = front r (rest i (rw (off m h) at e) d)
        where_at (inl h) = applied (eqb s.bsi (ident_of i)) refl
          where
            one' : step_on m r ≡ s ∷ []
            one' = subst (λ k. step_on k r ≡ s ∷ []) (sym h) one

            e' : (birth_of (entries_of (redo_page (steps_on m b) (cond (eqb s.bsi (ident_of i)) (changed s.op i) i)) q)) ≡ entry
            e' = rw one' at e

            applied : (t : Bool) → eqb s.bsi (ident_of i) ≡ t → steps_from (pred entry) (steps_on (page_of_place w.shape m q) a) ≡ []
            applied false z = front r (rest i (rw z at e') d)
            applied true z = changed_page (birth_cases s.op i q) (rw z at e')
              where
                changed_page : (birth_of (entries_of (changed s.op i) q) ≡ birth_of (entries_of i q)) ⊎ (s.op ≡ MapFree q (birth_of (entries_of (changed s.op i) q)))
                    → birth_of (entries_of (redo_page (steps_on m b) (changed s.op i)) q) ≡ entry → steps_from (pred entry) (steps_on (page_of_place w.shape m q) a) ≡ []
                changed_page (inl k) f = front r (rest (changed s.op i) f (λ g. d (sym k ∙ g)))
                changed_page (inr k) f = free (cases_eq (birth_of (entries_of (changed s.op i) q)) entry)
                  where
                    free : (birth_of (entries_of (changed s.op i) q) ≡ entry) ⊎ (birth_of (entries_of (changed s.op i) q) ≢ entry) → steps_from (pred entry) (steps_on (page_of_place w.shape m q) a) ≡ []
                    free (inr g) = front r (rest (changed s.op i) f g)
                    free (inl g) =
                        let op : s.op ≡ MapFree q entry = k ∙ ap (MapFree q) g in
                        let z = subst (λ j. ChangeInOrder w a j s.op) (sym h) (order w a o) in
                        subst (λ j. ChangeInOrder w a m j) op z

-- the place of a data page
pub birth_in-data : (w : Devices) (images : ℕ → PageImage) (m q : ℕ) → q < pages_per_map → birth_in w.shape images (page_of_place w.shape m q) ≡ birth_of (entries_of (images m) q)
birth_in-data w images m q lt =
    let d : (map_of_data w.shape (page_named (page_of_place w.shape m q))).0 ≡ m = omega arith in
    let r : place_of_page w.shape (page_named (page_of_place w.shape m q)) ≡ q = omega arith in
    rw (le-ltb (page_of_place w.shape m q) w.shape.maps (omega arith), d, r) refl

-- a map page has one life
pub birth_in-map : (w : Devices) (images : ℕ → PageImage) (m : ℕ) → m < w.shape.maps → birth_in w.shape images m ≡ 0
birth_in-map w images m lt = rw (lt-ltb m w.shape.maps lt) refl

-- a step that doesn't lead there
pub steps_to-nil_head : (i : ℕ) (s : Step) (l : List Step) → steps_to i (s ∷ l) ≡ [] → suc s.bsi ≢ i
steps_to-nil_head i s l e h = let z : s ∷ steps_to i l ≡ [] = rw (eq-eqb (suc s.bsi) i h) at e in absurd cc

-- a number below the one before another
pub under_pred : (n b : ℕ) → n < pred b → suc n < b
under_pred n zero h = absurd (omega arith)
under_pred n (suc b) h = omega arith

-- a step of another page, and one of this page
pub redo_step-other : (shape : Shape) (x : ℕ) (s : Step) (now : ℕ → PageImage) (y : ℕ) → y ≢ x → redo_step shape x s now y ≡ now y
redo_step-other shape x s now y d = go (eqb s.bsi (ident_of (page_in shape now x)))
  where
    go : (t : Bool) → (cond t (set_at x (changed s.op (page_in shape now x)) now) now) y ≡ now y
    go true = set_at-other x (changed s.op (page_in shape now x)) now y d
    go false = refl

pub redo_step-same : (shape : Shape) (x : ℕ) (s : Step) (now : ℕ → PageImage) → redo_step shape x s now x ≡ cond (eqb s.bsi (ident_of (page_in shape now x))) (changed s.op (page_in shape now x)) (now x)
redo_step-same shape x s now = go (eqb s.bsi (ident_of (page_in shape now x)))
  where
    go : (t : Bool) → (cond t (set_at x (changed s.op (page_in shape now x)) now) now) x ≡ cond t (changed s.op (page_in shape now x)) (now x)
    go true = set_at-same x (changed s.op (page_in shape now x)) now
    go false = refl

-- a record under the life that the map pages give then is as good as under the page's life, or it is of an earlier one
pub step_life : (x : ℕ) (s : Step) (i : PageImage) (given entry : ℕ) → (given ≡ entry) ⊎ (suc s.bsi < entry)
    → in_life_from x entry (cond (eqb s.bsi (ident_of (in_life_from x given i))) (changed s.op (in_life_from x given i)) i) ≡ cond (eqb s.bsi (ident_of (in_life_from x entry i))) (changed s.op (in_life_from x entry i)) (in_life_from x entry i)
step_life x s i given entry (inl e) = subst (λ g. in_life_from x entry (cond (eqb s.bsi (ident_of (in_life_from x g i))) (changed s.op (in_life_from x g i)) i) ≡ cond (eqb s.bsi (ident_of (in_life_from x entry i))) (changed s.op (in_life_from x entry i)) (in_life_from x entry i)) (sym e) (go (eqb s.bsi (ident_of (in_life_from x entry i))))
  where
    go : (t : Bool) → in_life_from x entry (cond t (changed s.op (in_life_from x entry i)) i) ≡ cond t (changed s.op (in_life_from x entry i)) (in_life_from x entry i)
    go true = in_life_from-same x entry (changed s.op (in_life_from x entry i)) (let a = changed-ident s.op (in_life_from x entry i) in let b = ident-in_life_from x entry i in omega arith)
    go false = refl
step_life x s i given entry (inr lt) = go (eqb s.bsi (ident_of (in_life_from x given i))) refl
  where
    above : entry ≤ ident_of (in_life_from x entry i)
    above = ident-in_life_from x entry i

    right : cond (eqb s.bsi (ident_of (in_life_from x entry i))) (changed s.op (in_life_from x entry i)) (in_life_from x entry i) ≡ in_life_from x entry i
    right = rw (ne_eqb s.bsi (ident_of (in_life_from x entry i)) (λ e. absurd (omega (arith, above)))) refl

    go : (t : Bool) → eqb s.bsi (ident_of (in_life_from x given i)) ≡ t → in_life_from x entry (cond t (changed s.op (in_life_from x given i)) i) ≡ cond (eqb s.bsi (ident_of (in_life_from x entry i))) (changed s.op (in_life_from x entry i)) (in_life_from x entry i)
    go false e = sym right
    go true e =
        let b = eqb-true s.bsi (ident_of (in_life_from x given i)) e in
        let up = changed-ident s.op (in_life_from x given i) in
        let low = in_life_from-above x given i in
        let one = in_life_from-blank x entry (changed s.op (in_life_from x given i)) (omega arith) in
        let two = in_life_from-blank x entry i (omega arith) in
        one ∙ (sym two ∙ sym right)

-- the pages after one record, where at a record of a page in its present life the map page gives that life
module _ (w : Devices) (logs : ℕ → List LogRecord) (guard : ℕ → ℕ) (entry : ℕ → MapEntry) (image : ℕ → PageImage) (settled : ℕ → ℕ → SlotValue) (lock : ℕ → ℕ → Option Transaction) (images : ℕ → PageImage) (n : ℕ)
    (st : IsStanding w logs guard entry image settled lock)
    (on_disk : (y : ℕ) → w.disk y ≡ Some (images y)) where
  abbrev page : ℕ → ℕ → ℕ
  page m q = page_of_place w.shape m q

  -- what redo has made of the pages after the records a
  pub record Done (a : List LogRecord) (now : ℕ → PageImage) : Type 0 where
    pub maps : (m : ℕ) → m < w.shape.maps → now m ≡ redo_page (steps_on m a) (images m)
    pub all : (x : ℕ) → x < page_count w.shape → in_life_from x (birth_of (entry x)) (now x) ≡ redo_page (steps_on x a) (in_life_from x (birth_of (entry x)) (images x))

  shown_is : (y : ℕ) → (st.pages y).shown ≡ in_life_from y (birth_of (entry y)) (images y)
  shown_is y = rw (on_disk y) at (st.pages y).disk

  map_shown : (m : ℕ) → m < w.shape.maps → in_life_from m (birth_of (entry m)) (images m) ≡ images m
  map_shown m lt = rw (st.map_pages m lt) (in_life_from-same m 0 (images m) (omega arith))

  -- what the disk lacks of a page, in the log of n
  lacks : (y : ℕ) → steps_from (ident_of (in_life_from y (birth_of (entry y)) (images y))) (steps_on y (logs n)) ≡ in_log n (ident_of (in_life_from y (birth_of (entry y)) (images y))) (all_by (guard y) (st.pages y).chain.new)
  lacks y =
      let p = st.pages y in
      let l = live-new (in_life_from y (birth_of (entry y)) (base_of w y)) p.shown (image y) (λ m. steps_on y (w.kept m)) (λ m. steps_on y (logs m)) (guard y) n p.chain in
      rw (shown_is y) at l

  at_end : (y : ℕ) → guard y ≡ n → redo_page (steps_on y (logs n)) (in_life_from y (birth_of (entry y)) (images y)) ≡ image y
  at_end y g =
      let p = st.pages y in
      redo_page-new n (steps_on y (logs n)) p.chain.new (in_life_from y (birth_of (entry y)) (images y)) (rw (ap (λ k. all_by k p.chain.new) (sym g)) (lacks y))
      ∙ (ap (λ k. replay (all_by k p.chain.new) (in_life_from y (birth_of (entry y)) (images y))) (sym g) ∙ (ap (replay (all_by (guard y) p.chain.new)) (sym (shown_is y)) ∙ sym p.chain.whole))

  nothing : (y : ℕ) → guard y ≢ n → steps_from (ident_of (in_life_from y (birth_of (entry y)) (images y))) (steps_on y (logs n)) ≡ []
  nothing y d = lacks y ∙ in_log-others n (guard y) (ident_of (in_life_from y (birth_of (entry y)) (images y))) (st.pages y).chain.new (λ e. d (sym e))

  front : (y i : ℕ) (a b : List LogRecord) → logs n ≡ a ++ b → steps_from i (steps_on y (logs n)) ≡ [] → (steps_from i (steps_on y a) ≡ []) × (steps_from i (steps_on y b) ≡ [])
  front y i a b e h = steps_from-parts i (steps_on y a) (steps_on y b) (ap (steps_from i) (sym (steps_on-append y a b) ∙ ap (steps_on y) (sym e)) ∙ h)

  idle : (y : ℕ) (a b : List LogRecord) → logs n ≡ a ++ b → guard y ≢ n → redo_page (steps_on y a) (in_life_from y (birth_of (entry y)) (images y)) ≡ in_life_from y (birth_of (entry y)) (images y)
  idle y a b e d = redo_page-new n (steps_on y a) [] (in_life_from y (birth_of (entry y)) (images y)) (front y (ident_of (in_life_from y (birth_of (entry y)) (images y))) a b e (nothing y d)).0

  key : (m q : ℕ) → m < w.shape.maps → q < pages_per_map → (a b : List LogRecord) (r : LogRecord) (s : Step) → logs n ≡ a ++ r ∷ b → step_on (page m q) r ≡ s ∷ [] → step_on m r ≡ []
      → (now : ℕ → PageImage) → Done a now → (birth_of (entries_of (now m) q) ≡ birth_of (entry (page m q))) ⊎ (suc s.bsi < birth_of (entry (page m q)))
  key m q lt le a b r s e one off now done = go (cases_eq (guard m) n)
    where
      go : (guard m ≡ n) ⊎ (guard m ≢ n) → (birth_of (entries_of (now m) q) ≡ birth_of (entry (page m q))) ⊎ (suc s.bsi < birth_of (entry (page m q)))
      go (inr d) = pick (st.apart m q n (images m) lt le (λ z. d (sym z)) (on_disk m))
        where
          same : now m ≡ images m
          same = done.maps m lt ∙ rw (map_shown m lt) at (idle m a (r ∷ b) e d)

          pick : IsApart w logs guard entry m q n (images m)
              → (birth_of (entries_of (now m) q) ≡ birth_of (entry (page m q))) ⊎ (suc s.bsi < birth_of (entry (page m q)))
          pick (inl h) = inl (ap (λ (i : PageImage). (birth_of (entries_of i q))) same ∙ h)
          pick (inr (h, g)) =
              let live = (steps_from-parts (birth_of (entry (page m q))) (steps_on (page m q) (w.kept n)) (steps_on (page m q) (logs n)) h).1 in
              let f = (front (page m q) (birth_of (entry (page m q))) a (r ∷ b) e live).1 in
              let f' : steps_from (birth_of (entry (page m q))) (s ∷ steps_on (page m q) b) ≡ [] = rw one at f in
              let lower = steps_from-nil_head (birth_of (entry (page m q))) s (steps_on (page m q) b) f' in
              let gap = (st.pages (page m q)).gap n in
              let g1 = (steps_to-parts (birth_of (entry (page m q))) (steps_on (page m q) (w.kept n)) (steps_on (page m q) (logs n)) gap).1 in
              let g2 : steps_to (birth_of (entry (page m q))) (steps_on (page m q) a ++ steps_on (page m q) (r ∷ b)) ≡ [] = ap (steps_to (birth_of (entry (page m q)))) (sym (steps_on-append (page m q) a (r ∷ b)) ∙ ap (steps_on (page m q)) (sym e)) ∙ g1 in
              let g3 = (steps_to-parts (birth_of (entry (page m q))) (steps_on (page m q) a) (steps_on (page m q) (r ∷ b)) g2).1 in
              let g4 : steps_to (birth_of (entry (page m q))) (s ∷ steps_on (page m q) b) ≡ [] = rw one at g3 in
              let other = steps_to-nil_head (birth_of (entry (page m q))) s (steps_on (page m q) b) g4 in
              inr (omega arith)
      go (inl g) = pick (cases_eq (birth_of (entries_of (now m) q)) (birth_of (entry (page m q))))
        where
          pick : (birth_of (entries_of (now m) q) ≡ birth_of (entry (page m q))) ⊎ (birth_of (entries_of (now m) q) ≢ birth_of (entry (page m q))) → (birth_of (entries_of (now m) q) ≡ birth_of (entry (page m q))) ⊎ (suc s.bsi < birth_of (entry (page m q)))
          pick (inl h) = inl h
          pick (inr h) =
              let whole' : redo_page (steps_on m (logs n)) (images m) ≡ image m = rw (map_shown m lt) at (at_end m g) in
              let split : steps_on m (logs n) ≡ steps_on m a ++ steps_on m b = ap (steps_on m) e ∙ (steps_on-append m a (r ∷ b) ∙ rw off refl) in
              let rest : redo_page (steps_on m b) (now m) ≡ image m = ap (redo_page (steps_on m b)) (done.maps m lt) ∙ (sym (redo_page-append (steps_on m a) (steps_on m b) (images m)) ∙ (ap (λ l. redo_page l (images m)) (sym split) ∙ whole')) in
              let next_birth : birth_of (entries_of (redo_page (steps_on m b) (now m)) q) ≡ birth_of (entry (page m q)) = ap (λ (i : PageImage). (birth_of (entries_of i q))) rest ∙ ap birth_of (sym (st.lives m q lt le)) in
              let order : Ordered w (a ++ r ∷ []) b = ordered_rest w [] (a ++ r ∷ []) b (subst (Ordered w []) (e ∙ sym (append_assoc a (r ∷ []) b)) (ordered_suffix w (w.kept n) (logs n) (st.ordered n))) in
              let none = later w m q (birth_of (entry (page m q))) (a ++ r ∷ []) b (now m) next_birth h order in
              let none' : steps_from (pred (birth_of (entry (page m q)))) (steps_on (page m q) a ++ (s ∷ [])) ≡ [] = rw (steps_on-append (page m q) a (r ∷ []), one) at none in
              let last = (steps_from-parts (pred (birth_of (entry (page m q)))) (steps_on (page m q) a) (s ∷ []) none').1 in
              inr (under_pred s.bsi (birth_of (entry (page m q))) (steps_from-nil_head (pred (birth_of (entry (page m q)))) s [] last))

  started : Done [] images
  started = record { maps = λ m lt. refl; all = λ x lt. refl }

  -- a page that the record isn't of
  same_on : (y : ℕ) (a : List LogRecord) (r : LogRecord) → step_on y r ≡ [] → steps_on y (a ++ r ∷ []) ≡ steps_on y a
  same_on y a r e = steps_on-append y a (r ∷ []) ∙ rw e (append-nil (steps_on y a))

  more_on : (y : ℕ) (a : List LogRecord) (r : LogRecord) (s : Step) → step_on y r ≡ s ∷ [] → steps_on y (a ++ r ∷ []) ≡ steps_on y a ++ s ∷ []
  more_on y a r s e = steps_on-append y a (r ∷ []) ∙ rw e refl

  abbrev Steps : LogRecord → Type 0
  Steps r = (a b : List LogRecord) → logs n ≡ a ++ r ∷ b → (now : ℕ → PageImage) → Done a now → Done (a ++ r ∷ []) (redo_effect w.shape (effect_of r) now)

  steps_none : (r : LogRecord) → ((y : ℕ) → step_on y r ≡ []) → ((shape : Shape) (images : ℕ → PageImage) → redo_effect shape (effect_of r) images ≡ images) → Steps r
  steps_none r clear same a b e now done = subst (Done (a ++ r ∷ [])) (sym (same w.shape now)) (record {
    maps = λ m lt. rw (same_on m a r (clear m)) (done.maps m lt);
    all = λ x lt. rw (same_on x a r (clear x)) (done.all x lt);
  })

  steps_page : (r : LogRecord) (x : ℕ) (s : Step) → step_on x r ≡ s ∷ [] → ((y : ℕ) → y ≢ x → step_on y r ≡ []) → ((shape : Shape) (images : ℕ → PageImage) → redo_effect shape (effect_of r) images ≡ redo_step shape x s images)
      → ((w : Devices) (l : List LogRecord) → InOrder w l r → ChangeInOrder w l x s.op) → Steps r
  steps_page r x s one off same order a b e now done = subst (Done (a ++ r ∷ [])) (sym (same w.shape now)) (record {
    maps = λ m lt. on_map m lt (cases_eq m x);
    all = λ y lt. on_all y lt (cases_eq y x);
  })
    where
      on_map : (m : ℕ) → m < w.shape.maps → (m ≡ x) ⊎ (m ≢ x) → redo_step w.shape x s now m ≡ redo_page (steps_on m (a ++ r ∷ [])) (images m)
      on_map m lt (inr d) = redo_step-other w.shape x s now m d ∙ rw (same_on m a r (off m d)) (done.maps m lt)
      on_map m lt (inl h) =
          let one' : step_on m r ≡ s ∷ [] = subst (λ k. step_on k r ≡ s ∷ []) (sym h) one in
          let see : page_in w.shape now m ≡ now m = rw (birth_in-map w now m lt) (in_life_from-same m 0 (now m) (omega arith)) in
          let left : redo_step w.shape m s now m ≡ cond (eqb s.bsi (ident_of (now m))) (changed s.op (now m)) (now m) = redo_step-same w.shape m s now ∙ ap (λ i. cond (eqb s.bsi (ident_of i)) (changed s.op i) (now m)) see in
          subst (λ k. redo_step w.shape k s now m ≡ redo_page (steps_on m (a ++ r ∷ [])) (images m)) h
          (left ∙ (ap (λ i. cond (eqb s.bsi (ident_of i)) (changed s.op i) i) (done.maps m lt) ∙ (sym (redo_page-append (steps_on m a) (s ∷ []) (images m)) ∙ ap (λ l. redo_page l (images m)) (sym (more_on m a r s one')))))

      given : (y : ℕ) → y < page_count w.shape → (y ≡ x) → (birth_in w.shape now y ≡ birth_of (entry y)) ⊎ (suc s.bsi < birth_of (entry y))
      given y lt h = go (cases_lt y w.shape.maps)
        where
          go : (y < w.shape.maps) ⊎ (w.shape.maps ≤ y) → (birth_in w.shape now y ≡ birth_of (entry y)) ⊎ (suc s.bsi < birth_of (entry y))
          go (inl low) = inl (birth_in-map w now y low ∙ sym (st.map_pages y low))
          go (inr high) = subst (λ k. (birth_in w.shape now k ≡ birth_of (entry k)) ⊎ (suc s.bsi < birth_of (entry k))) at (rw (birth_in-data w now map place in_map) (key map place below in_map a b r s e one' (off map not_map) now done))
            where
              map : ℕ
              map = (map_of_data w.shape (page_named y)).0

              place : ℕ
              place = place_of_page w.shape (page_named y)

              at : page_of_place w.shape (map_of_data w.shape (page_named y)).0 (place_of_page w.shape (page_named y)) ≡ y
              at = at_its_place w.shape (page_named y) high

              below : (map_of_data w.shape (page_named y)).0 < w.shape.maps
              below = map_of_data-below w.shape (page_named y) high lt

              in_map : place_of_page w.shape (page_named y) < pages_per_map
              in_map = place_of_page-below w.shape (page_named y)

              one' : step_on (page_of_place w.shape (map_of_data w.shape (page_named y)).0 (place_of_page w.shape (page_named y))) r ≡ s ∷ []
              one' = subst (λ k. step_on k r ≡ s ∷ []) (sym (at ∙ h)) one

              not_map : (map_of_data w.shape (page_named y)).0 ≢ x
              not_map z = absurd (omega (arith, below, high, h, z))

      on_all : (y : ℕ) → y < page_count w.shape → (y ≡ x) ⊎ (y ≢ x) → in_life_from y (birth_of (entry y)) (redo_step w.shape x s now y) ≡ redo_page (steps_on y (a ++ r ∷ [])) (in_life_from y (birth_of (entry y)) (images y))
      on_all y lt (inr d) = ap (in_life_from y (birth_of (entry y))) (redo_step-other w.shape x s now y d) ∙ rw (same_on y a r (off y d)) (done.all y lt)
      on_all y lt (inl h) =
          let one' : step_on y r ≡ s ∷ [] = subst (λ k. step_on k r ≡ s ∷ []) (sym h) one in
          let left = step_life y s (now y) (birth_in w.shape now y) (birth_of (entry y)) (given y lt h) in
          subst (λ k. in_life_from y (birth_of (entry y)) (redo_step w.shape k s now y) ≡ redo_page (steps_on y (a ++ r ∷ [])) (in_life_from y (birth_of (entry y)) (images y))) h
          (ap (in_life_from y (birth_of (entry y))) (redo_step-same w.shape y s now) ∙ (left ∙ (ap (λ i. cond (eqb s.bsi (ident_of i)) (changed s.op i) i) (done.all y lt)
          ∙ (sym (redo_page-append (steps_on y a) (s ∷ []) (in_life_from y (birth_of (entry y)) (images y))) ∙ ap (λ l. redo_page l (in_life_from y (birth_of (entry y)) (images y))) (sym (more_on y a r s one'))))))

  to_end : (b a : List LogRecord) → logs n ≡ a ++ b → (now : ℕ → PageImage) → Done a now → Done (logs n) (redo w.shape b now)
  to_end [] a e now done = subst (λ l. Done l now) (sym (append-nil a) ∙ sym e) done
  to_end (r ∷ b) a e now done = to_end b (a ++ r ∷ []) (e ∙ sym (append_assoc a (r ∷ []) b)) (redo_effect w.shape (effect_of r) now) (rec_cases Steps steps_none steps_page r a b e now done)

  pub recovered : (x : ℕ) → x < page_count w.shape
      → (guard x ≡ n → in_life_from x (birth_of (entry x)) (redo w.shape (logs n) images x) ≡ image x) × (guard x ≢ n → in_life_from x (birth_of (entry x)) (redo w.shape (logs n) images x) ≡ in_life_from x (birth_of (entry x)) (images x))
  recovered x lt =
      let done = to_end (logs n) [] refl images started in (
        λ g. done.all x lt ∙ at_end x g,
        λ d. done.all x lt ∙ idle x (logs n) [] (sym (append-nil (logs n))) d,
      )

pub recovers : RedoRecovers
recovers w logs guard entry image settled lock images n x st on_disk lt = recovered w logs guard entry image settled lock images n st on_disk x lt
