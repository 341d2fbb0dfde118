-- A redo that is broken off keeps what stands.
use Rattle.std.proofs.Common.{◌≡◌, ◌≢◌, ◌⊎◌, inl, inr, ℕ, suc, ◌<◌, ◌≤◌, Bool, true, false, cond, eqb, leb, List, [], ◌∷◌, ◌++◌, refl, ap, sym, subst, ◌∙◌, arith, Some, append_assoc, eq-eqb, ne_eqb, leb-true, leb-false}
use Rattle.std.proofs.lemmas.Bool.{cases_eq}
use Rattle.sd_base.specs.Shape.{pages_per_map}
use Rattle.recovery_theory.specs.Chain.{steps_from, in_log, all_by, replay, redo_page, ChainedBy, RaisesLife, RaiseLives, NodeChange}
use Rattle.recovery_theory.specs.Effect.{Step, steps_on}
use Rattle.recovery_theory.specs.History.{IsCut, logs_at, image_at, entry_at}
use Rattle.recovery_theory.specs.Pages.{in_life_from, entries_of, birth_of}
use Rattle.recovery_theory.specs.Redo.{with_disk, IsPartlyRedone, RedoKeepsHistory}
use Rattle.recovery_theory.specs.Standing.{IsApart, PageChain, base_of}
use Rattle.sd_base.specs.declared.page_op.PageOp.{PageOp}
use Rattle.sd_base.specs.declared.page_op.PageOp.TheVariants.{MapFree}
use Rattle.recovery_theory.proofs.ChainLaws.{live-new, RaiseLives-front, RaiseLives-back, rising_new}
use Rattle.recovery_theory.proofs.StepLists.{steps_from-steps_from, steps_from-over, steps_from-under, replay-append, ident-replay, in_log-first, in_log-others, steps_from-in_log_all, steps_from-parts}
use Rattle.recovery_theory.proofs.PageLaws.{in_life_from-same, birth_cases}
use Rattle.recovery_theory.proofs.OpenUpdates.{steps_on-append}
use Rattle.recovery_theory.proofs.PageRedo.{redo_page-new}
use Rattle.space_map.specs.PageImage.{PageImage, changed, ident_of}
use Rattle.space_map.proofs.PageImageLaws.{changed-ident}

-- the first part of a log makes the first of the new operations
pub record Parts (n : ℕ) (ops : List PageOp) (i j : PageImage) : Type 0 where
  pub first : List PageOp
  pub second : List PageOp
  pub all : ops ≡ first ++ second
  pub made : j ≡ replay (all_by n first) i

-- the first steps of a log make the first changes of a history
pub parts : (n : ℕ) (a b : List Step) (ops : List PageOp) (i : PageImage) → steps_from (ident_of i) (a ++ b) ≡ in_log n (ident_of i) (all_by n ops) → Parts n ops i (redo_page a i)
parts n [] b ops i e = record { first = []; second = ops; all = refl; made = refl }
parts n (s ∷ a) b ops i e = go (leb (ident_of i) s.bsi) refl (parts n a b)
  where
    taken : (ops : List PageOp) → ident_of i ≤ s.bsi → s ∷ steps_from (ident_of i) (a ++ b) ≡ in_log n (ident_of i) (all_by n ops)
        → ((ops : List PageOp) (i : PageImage) → steps_from (ident_of i) (a ++ b) ≡ in_log n (ident_of i) (all_by n ops) → Parts n ops i (redo_page a i))
        → Parts n ops i (redo_page a (cond (eqb s.bsi (ident_of i)) (changed s.op i) i))
    taken [] le e' rest = absurd cc
    taken (op ∷ ops') le e' rest =
        let first = in_log-first n (ident_of i) op ops' in
        let head : s ≡ record { bsi = ident_of i; op = op } = cc in
        let tail : steps_from (ident_of i) (a ++ b) ≡ in_log n (suc (ident_of i)) (all_by n ops') = cc in
        let number : s.bsi ≡ ident_of i = ap (λ (k : Step). k.bsi) head in
        let up : ident_of (changed op i) ≡ suc (ident_of i) = omega (arith, changed-ident op i) in
        let left_by : steps_from (suc (ident_of i)) (a ++ b) ≡ in_log n (suc (ident_of i)) (all_by n ops') =
        sym (steps_from-steps_from (ident_of i) (suc (ident_of i)) (omega arith) (a ++ b)) ∙ (ap (steps_from (suc (ident_of i))) tail ∙ steps_from-in_log_all n (suc (ident_of i)) (suc (ident_of i)) (all_by n ops') (omega arith)) in
        let leaves' : steps_from (ident_of (changed op i)) (a ++ b) ≡ in_log n (ident_of (changed op i)) (all_by n ops') = rw up left_by in
        let same : changed s.op i ≡ changed op i = ap (λ (k : Step). changed k.op i) head in
        let r = rest ops' (changed op i) leaves' in
        rw (eq-eqb s.bsi (ident_of i) number, same) (record { first = op ∷ r.first; second = r.second; all = ap (λ l. op ∷ l) {y = r.first ++ r.second} r.all; made = r.made })

    go : (t : Bool) → leb (ident_of i) s.bsi ≡ t → ((ops : List PageOp) (i : PageImage) → steps_from (ident_of i) (a ++ b) ≡ in_log n (ident_of i) (all_by n ops) → Parts n ops i (redo_page a i)) → Parts n ops i (redo_page a (cond (eqb s.bsi (ident_of i)) (changed s.op i) i))
    go true h rest = let le : ident_of i ≤ s.bsi = leb-true (ident_of i) s.bsi h in taken ops le (sym (steps_from-over (ident_of i) s (a ++ b) le) ∙ e) rest
    go false h rest =
        let lt : s.bsi < ident_of i = leb-false (ident_of i) s.bsi h in
        rw (ne_eqb s.bsi (ident_of i) (λ k. absurd (omega arith))) (rest ops i (sym (steps_from-under (ident_of i) s (a ++ b) lt) ∙ e))

-- changes of one node, in two parts
all_by-parts : (n : ℕ) (l k : List PageOp) → all_by n (l ++ k) ≡ all_by n l ++ all_by n k
all_by-parts n [] k = refl
all_by-parts n (op ∷ l) k = ap (λ h. record { node = n; op = op } ∷ h) (all_by-parts n l k)

-- along rising changes the identifier of an entry doesn't fall
pub rising_le : (h : List NodeChange) (i : PageImage) (q : ℕ) → RaiseLives i h → birth_of (entries_of i q) ≤ birth_of (entries_of (replay h i) q)
rising_le [] i q r = omega arith
rising_le (a ∷ h) i q r = go (birth_cases a.op i q) (rising_le h (changed a.op i) q r.1)
  where
    go : (birth_of (entries_of (changed a.op i) q) ≡ birth_of (entries_of i q)) ⊎ (a.op ≡ MapFree q (birth_of (entries_of (changed a.op i) q))) → birth_of (entries_of (changed a.op i) q) ≤ birth_of (entries_of (replay h (changed a.op i)) q)
        → birth_of (entries_of i q) ≤ birth_of (entries_of (replay h (changed a.op i)) q)
    go (inl e) t = omega arith
    go (inr e) t = let z : RaisesLife i (MapFree q (birth_of (entries_of (changed a.op i) q))) = subst (RaisesLife i) e r.0 in omega arith

-- the chain with a disk that redo has brought further
pub record Further (base disk image now : PageImage) (kept live : ℕ → List Step) (g : ℕ) : Type 0 where
  pub chain : ChainedBy base now kept live image g
  pub low : (q : ℕ) → birth_of (entries_of disk q) ≤ birth_of (entries_of now q)
  pub high : (q : ℕ) → birth_of (entries_of now q) ≤ birth_of (entries_of image q)

-- redo of a front brings a page further on its chain
pub further : (base disk image : PageImage) (kept live : ℕ → List Step) (g n : ℕ) (a b : List Step) → ChainedBy base disk kept live image g → live n ≡ a ++ b → Further base disk image (redo_page a disk) kept live g
further base disk image kept live g n a b c e = go (cases_eq g n)
  where
    l : steps_from (ident_of disk) (live n) ≡ in_log n (ident_of disk) (all_by g c.new)
    l = live-new base disk image kept live g n c

    go : (g ≡ n) ⊎ (g ≢ n) → Further base disk image (redo_page a disk) kept live g
    go (inr d) =
        let none : steps_from (ident_of disk) (a ++ b) ≡ [] = ap (steps_from (ident_of disk)) (sym e) ∙ (l ∙ in_log-others n g (ident_of disk) c.new (λ z. d (sym z))) in
        let none' = (steps_from-parts (ident_of disk) a b none).0 in
        let same : redo_page a disk ≡ disk = redo_page-new n a [] disk none' in
        rw same (record { chain = c; low = λ q. omega arith; high = λ q. subst (λ (i : PageImage). (birth_of (entries_of disk q)) ≤ birth_of (entries_of i q)) (sym c.whole) (rising_le (all_by g c.new) disk q (rising_new base disk image kept live g c)) })
    go (inl z) =
        let p = parts n a b c.new disk (ap (steps_from (ident_of disk)) (sym e) ∙ (l ∙ ap (λ k. in_log n (ident_of disk) (all_by k c.new)) z)) in
        let made : redo_page a disk ≡ replay (all_by g p.first) disk = p.made ∙ ap (λ k. replay (all_by k p.first) disk) (sym z) in
        let split : all_by g c.new ≡ all_by g p.first ++ all_by g p.second = ap (all_by g) p.all ∙ all_by-parts g p.first p.second in
        let rise : RaiseLives disk (all_by g p.first ++ all_by g p.second) = subst (RaiseLives disk) split (rising_new base disk image kept live g c) in
        let rest : image ≡ replay (all_by g p.second) (replay (all_by g p.first) disk) = c.whole ∙ (ap (λ h. replay h disk) split ∙ replay-append (all_by g p.first) (all_by g p.second) disk) in
        rw made (record {
          chain = record {
            old = c.old ++ all_by g p.first;
            new = p.second;
            linked = λ m. c.linked m ∙ ap (in_log m (ident_of base)) (ap (λ h. c.old ++ h) split ∙ sym (append_assoc c.old (all_by g p.first) (all_by g p.second)));
            same = ap (replay (all_by g p.first)) c.same ∙ sym (replay-append c.old (all_by g p.first) base);
            near = λ m. let up = ident-replay (all_by g p.first) disk in
                sym (steps_from-steps_from (ident_of disk) (ident_of (replay (all_by g p.first) disk)) (omega arith) (kept m)) ∙ ap (steps_from (ident_of (replay (all_by g p.first) disk))) (c.near m);
            whole = rest;
            rising = subst (RaiseLives base) (ap (λ h. c.old ++ h) split ∙ sym (append_assoc c.old (all_by g p.first) (all_by g p.second))) c.rising;
          };
          low = λ q. rising_le (all_by g p.first) disk q (RaiseLives-front (all_by g p.first) (all_by g p.second) disk rise);
          high = λ q. subst (λ (i : PageImage). (birth_of (entries_of (replay (all_by g p.first) disk) q)) ≤ birth_of (entries_of i q)) (sym rest) (rising_le (all_by g p.second) (replay (all_by g p.first) disk) q (RaiseLives-back (all_by g p.first) (all_by g p.second) disk rise));
        })

pub redo_broken_off : RedoKeepsHistory
redo_broken_off p n disk history how = record {
  sound = history.sound;
  steady = history.steady;
  stands = λ cut is. let st = history.stands cut is in record {
    pages = λ y. page cut is y (how y);
    shaped = st.shaped;
    unused = st.unused;
    slots = st.slots;
    locks = st.locks;
    map_pages = st.map_pages;
    lives = st.lives;
    ordered = st.ordered;
    apart = λ m q k i lt le d e. off cut is m q k i lt le d e (how m);
  };
}
  where
    moved : (cut : ℕ → ℕ) (is : IsCut p cut) (y : ℕ) (i j : PageImage) → p.devices.disk y ≡ Some i → IsPartlyRedone p n y i j
        → Further (in_life_from y (birth_of (entry_at p cut y)) (base_of p.devices y)) ((history.stands cut is).pages y).shown (image_at p cut y) (in_life_from y (birth_of (entry_at p cut y)) j) (λ k. steps_on y (p.devices.kept k)) (λ k. steps_on y (logs_at p cut k)) (p.guard y)
    moved cut is y i j a part =
        let q = (history.stands cut is).pages y in
        let (l, r, e, z) = part cut is in
        let s : q.shown ≡ in_life_from y (birth_of (entry_at p cut y)) i = rw a at q.disk in
        let f = further (in_life_from y (birth_of (entry_at p cut y)) (base_of p.devices y)) q.shown (image_at p cut y) (λ k. steps_on y (p.devices.kept k)) (λ k. steps_on y (logs_at p cut k)) (p.guard y) n (steps_on y l) (steps_on y r) q.chain (ap (steps_on y) e ∙ steps_on-append y l r) in
        rw (z, ← s) f

    page : (cut : ℕ → ℕ) → IsCut p cut → (y : ℕ) → (disk y ≡ p.devices.disk y) ⊎ ((i : PageImage) × (j : PageImage) × (p.devices.disk y ≡ Some i) × (disk y ≡ Some j) × IsPartlyRedone p n y i j)
        → PageChain (with_disk p disk).devices (logs_at p cut) (birth_of (entry_at p cut y)) (image_at p cut y) y (p.guard y)
    page cut is y (inl e) = let q = (history.stands cut is).pages y in record { shown = q.shown; disk = rw e q.disk; chain = q.chain; gap = q.gap; rises = q.rises }
    page cut is y (inr (i, j, a, b, part)) =
        let q = (history.stands cut is).pages y in
        record { shown = in_life_from y (birth_of (entry_at p cut y)) j; disk = rw b refl; chain = (moved cut is y i j a part).chain; gap = q.gap; rises = q.rises }

    off : (cut : ℕ → ℕ) → IsCut p cut → (m q k : ℕ) (i : PageImage) → m < p.devices.shape.maps → q < pages_per_map → k ≢ p.guard m → disk m ≡ Some i
        → (disk m ≡ p.devices.disk m) ⊎ ((i : PageImage) × (j : PageImage) × (p.devices.disk m ≡ Some i) × (disk m ≡ Some j) × IsPartlyRedone p n m i j)
        → IsApart p.devices (logs_at p cut) p.guard (entry_at p cut) m q k i
    off cut is m q k i lt le d e (inl h) = (history.stands cut is).apart m q k i lt le d (sym h ∙ e)
    off cut is m q k i lt le d e (inr (i0, j, a, b, part)) = go ((history.stands cut is).apart m q k i0 lt le d a)
      where
        zero_born : birth_of (entry_at p cut m) ≡ 0
        zero_born = (history.stands cut is).map_pages m lt

        same : i ≡ j
        same = let z : Some i ≡ Some j = sym e ∙ b in cc

        go : IsApart p.devices (logs_at p cut) p.guard (entry_at p cut) m q k i0
            → IsApart p.devices (logs_at p cut) p.guard (entry_at p cut) m q k i
        go (inr h) = inr h
        go (inl h) =
            let f = moved cut is m i0 j a part in
            let j' : in_life_from m (birth_of (entry_at p cut m)) j ≡ j = ap (λ t. in_life_from m t j) zero_born ∙ in_life_from-same m 0 j (omega arith) in
            let s : ((history.stands cut is).pages m).shown ≡ in_life_from m (birth_of (entry_at p cut m)) i0 = rw a at ((history.stands cut is).pages m).disk in
            let i0' : in_life_from m (birth_of (entry_at p cut m)) i0 ≡ i0 = ap (λ t. in_life_from m t i0) zero_born ∙ in_life_from-same m 0 i0 (omega arith) in
            let low : birth_of (entries_of i0 q) ≤ birth_of (entries_of j q) = rw (s ∙ i0', j') at f.low q in
            let high : birth_of (entries_of j q) ≤ birth_of (entries_of (image_at p cut m) q) = rw j' at f.high q in
            let end = ap birth_of ((history.stands cut is).lives m q lt le) in
            inl (ap (λ (i : PageImage). (birth_of (entries_of i q))) same ∙ omega arith)
