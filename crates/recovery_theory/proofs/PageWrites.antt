-- Pages are written, lost, archived and passed on.
use Rattle.std.proofs.Common.{◌≡◌, ◌≢◌, ◌⊎◌, inl, inr, ℕ, ◌+◌, ◌<◌, ◌≤◌, List, [], ◌∷◌, ◌++◌, length, refl, ap, sym, subst, ◌∙◌, arith, Some, None, Option, IfSome, eq-eqb, ne_eqb, append-nil}
use Rattle.std.proofs.lemmas.Bool.{cases_eq}
use Rattle.sd_base.specs.Places.{page_of_place}
use Rattle.sd_base.specs.Shape.{pages_per_map}
use Rattle.recovery_theory.specs.Chain.{in_log, all_by, replay, ChainedBy, RaiseLives}
use Rattle.recovery_theory.specs.Effect.{Step, steps_on}
use Rattle.recovery_theory.specs.History.{History, IsHistory, IsCut, logs_at, image_at, entry_at, image_now, entry_now}
use Rattle.recovery_theory.specs.Pages.{in_life_from, entries_of, birth_of}
use Rattle.recovery_theory.specs.Standing.{IsApart, PageChain, IsStanding, base_of}
use Rattle.recovery_theory.specs.Steps.{set_at, on_disk, WriteKeepsHistory, LossKeepsHistory, IsClean, passed, PassKeepsHistory, archived, ArchiveKeepsHistory}
use Rattle.sd_base.specs.declared.page_op.PageOp.{PageOp}
use Rattle.space_map.specs.declared.map_entry.MapEntry.{MapEntry}
use Rattle.recovery_theory.proofs.SlotChanges.{birth_le}
use Rattle.recovery_theory.proofs.Cuts.{stands_ext}
use Rattle.recovery_theory.proofs.ChainLaws.{ident-image, past_image}
use Rattle.recovery_theory.proofs.StepLists.{replay-append, steps_from-parts}
use Rattle.recovery_theory.proofs.PageLaws.{in_life_from-same}
use Rattle.space_map.specs.PageImage.{PageImage, ident_of}

-- the disk may have the recovered image, and the base image may be the recovered one
pub settles : (base disk image : PageImage) (kept live : ℕ → List Step) (n : ℕ) → ChainedBy base disk kept live image n → ChainedBy base image kept live image n
settles base disk image kept live n c = record {
  old = c.old ++ all_by n c.new;
  new = [];
  linked = λ m. rw (append-nil (c.old ++ all_by n c.new)) (c.linked m);
  same = c.whole ∙ (ap (replay (all_by n c.new)) c.same ∙ sym (replay-append c.old (all_by n c.new) base));
  near = λ m. (steps_from-parts (ident_of image) (kept m) (live m) (past_image base disk image kept live n c (ident_of image) (omega arith) m)).0;
  whole = refl;
  rising = subst (RaiseLives base) (sym (append-nil (c.old ++ all_by n c.new))) c.rising;
}

-- the recovered image is archived
pub rebased : (base disk image : PageImage) (kept live : ℕ → List Step) (n m : ℕ) → ChainedBy base disk kept live image n → ChainedBy image image kept live image m
rebased base disk image kept live n m c = record {
  old = [];
  new = [];
  linked = past_image base disk image kept live n c (ident_of image) (omega arith);
  same = refl;
  near = (settles base disk image kept live n c).near;
  whole = refl;
  rising = tt;
}

-- a page of which the disk lacks nothing may have any guard
pub any_guard : (base image : PageImage) (kept live : ℕ → List Step) (n m : ℕ) → ChainedBy base image kept live image n → ChainedBy base image kept live image m
any_guard base image kept live n m c =
    let none = nothing c.new (ident-image base image image kept live n c) in
    record {
      old = c.old;
      new = [];
      linked = λ k. c.linked k ∙ ap (λ h. in_log k (ident_of base) (c.old ++ h)) (ap (all_by n) none);
      same = c.same;
      near = c.near;
      whole = refl;
      rising = subst (λ h. RaiseLives base (c.old ++ h)) (ap (all_by n) none) c.rising;
    }
  where
    nothing : (l : List PageOp) → ident_of image ≡ ident_of image + length l → l ≡ []
    nothing [] e = refl
    nothing (op ∷ l) e = absurd (omega arith)

-- at each cut a page whose records are all stable is as at the end
pub steady_at : (p : History) (x : ℕ) (cut : ℕ → ℕ) → IsHistory p → p.last x ≤ p.stable (p.guard x) → IsCut p cut
    → (image_at p cut x ≡ image_now p x) × (entry_at p cut x ≡ entry_now p x)
steady_at p x cut history last is = let i = is (p.guard x) in history.steady x (cut (p.guard x)) (omega arith) i.1

-- and its chain is that of the end
pub paged_at : (p : History) (x : ℕ) (cut : ℕ → ℕ) → IsHistory p → p.last x ≤ p.stable (p.guard x) → IsCut p cut
    → PageChain p.devices (logs_at p cut) (birth_of (entry_now p x)) (image_now p x) x (p.guard x)
paged_at p x cut history last is =
    let e = steady_at p x cut history last is in
    subst (λ i. PageChain p.devices (logs_at p cut) (birth_of (entry_now p x)) i x (p.guard x)) e.0
    (subst (λ (b : MapEntry). PageChain p.devices (logs_at p cut) (birth_of b) (image_at p cut x) x (p.guard x)) e.1 ((history.stands cut is).pages x))

-- another content of a page's block keeps a history where it keeps what is said of that page
on_disk_keeps : (p : History) (x : ℕ) (content : Option PageImage) → IsHistory p
    → ((cut : ℕ → ℕ) → IsCut p cut → (q n : ℕ) (i : PageImage) → x < p.devices.shape.maps → q < pages_per_map → n ≢ p.guard x → content ≡ Some i → IsApart p.devices (logs_at p cut) p.guard (entry_at p cut) x q n i)
    → ((cut : ℕ → ℕ) → IsCut p cut → PageChain (on_disk p x content).devices (logs_at p cut) (birth_of (entry_at p cut x)) (image_at p cut x) x (p.guard x))
    → IsHistory (on_disk p x content)
on_disk_keeps p x content history apart_at page_at = record {
  sound = history.sound;
  steady = history.steady;
  stands = λ cut is. let st = history.stands cut is in record {
    pages = λ y. page cut is y (cases_eq y x);
    shaped = st.shaped;
    unused = st.unused;
    slots = st.slots;
    locks = st.locks;
    map_pages = st.map_pages;
    lives = st.lives;
    ordered = st.ordered;
    apart = λ m q n i lt le d e. off cut is m q n i lt le d e (cases_eq m x);
  };
}
  where
    off : (cut : ℕ → ℕ) → IsCut p cut → (m q n : ℕ) (i : PageImage) → m < p.devices.shape.maps → q < pages_per_map → n ≢ p.guard m → set_at x content p.devices.disk m ≡ Some i → (m ≡ x) ⊎ (m ≢ x)
        → IsApart p.devices (logs_at p cut) p.guard (entry_at p cut) m q n i
    off cut is m q n i lt le d e (inl h) =
        subst (λ k. IsApart p.devices (logs_at p cut) p.guard (entry_at p cut) k q n i) (sym h)
        (apart_at cut is q n i (subst (λ k. k < p.devices.shape.maps) h lt) le (λ g. d (g ∙ ap p.guard (sym h))) (rw (eq-eqb m x h) at e))
    off cut is m q n i lt le d e (inr h) = (history.stands cut is).apart m q n i lt le d (rw (ne_eqb m x h) at e)

    page : (cut : ℕ → ℕ) → IsCut p cut → (y : ℕ) → (y ≡ x) ⊎ (y ≢ x) → PageChain (on_disk p x content).devices (logs_at p cut) (birth_of (entry_at p cut y)) (image_at p cut y) y (p.guard y)
    page cut is y (inl e) = subst (λ k. PageChain (on_disk p x content).devices (logs_at p cut) (birth_of (entry_at p cut k)) (image_at p cut k) k (p.guard k)) (sym e) (page_at cut is)
    page cut is y (inr d) = let q = (history.stands cut is).pages y in record { shown = q.shown; disk = rw (ne_eqb y x d) q.disk; chain = q.chain; gap = q.gap; rises = q.rises }

pub writes : WriteKeepsHistory
writes p x history last = on_disk_keeps p x (Some (image_now p x)) history apart page
  where
    apart : (cut : ℕ → ℕ) → IsCut p cut → (q n : ℕ) (i : PageImage) → x < p.devices.shape.maps → q < pages_per_map → n ≢ p.guard x → Some (image_now p x) ≡ Some i → IsApart p.devices (logs_at p cut) p.guard (entry_at p cut) x q n i
    apart cut is q n i lt le d e =
        let same : image_at p cut x ≡ i = (steady_at p x cut history last is).0 ∙ cc in
        inl (sym (ap birth_of ((history.stands cut is).lives x q lt le ∙ ap (λ (j : PageImage). entries_of j q) same)))

    page : (cut : ℕ → ℕ) → IsCut p cut → PageChain (on_disk p x (Some (image_now p x))).devices (logs_at p cut) (birth_of (entry_at p cut x)) (image_at p cut x) x (p.guard x)
    page cut is =
        let q = paged_at p x cut history last is in
        let s = steady_at p x cut history last is in
        let here : PageChain (on_disk p x (Some (image_now p x))).devices (logs_at p cut) (birth_of (entry_now p x)) (image_now p x) x (p.guard x) = record {
          shown = image_now p x;
          disk = rw (eq-eqb x x refl) (sym (in_life_from-same x (birth_of (entry_now p x)) (image_now p x) (birth_le p.devices (logs_at p cut) (birth_of (entry_now p x)) (image_now p x) x (p.guard x) q)));
          chain = settles (in_life_from x (birth_of (entry_now p x)) (base_of p.devices x)) q.shown (image_now p x) (λ m. steps_on x (p.devices.kept m)) (λ m. steps_on x (logs_at p cut m)) (p.guard x) q.chain;
          gap = q.gap;
          rises = q.rises;
        } in
        rw (s.0, s.1) here

pub loses : LossKeepsHistory
loses p x history = on_disk_keeps p x None history (λ cut is q n i lt le d e. absurd cc) page
  where
    page : (cut : ℕ → ℕ) → IsCut p cut → PageChain (on_disk p x None).devices (logs_at p cut) (birth_of (entry_at p cut x)) (image_at p cut x) x (p.guard x)
    page cut is = let q = (history.stands cut is).pages x in record { shown = q.shown; disk = rw (eq-eqb x x refl) tt; chain = q.chain; gap = q.gap; rises = q.rises }

-- the chain of a clean page, with the page on the disk
pub clean_at : (p : History) (x : ℕ) (cut : ℕ → ℕ) → IsHistory p → p.last x ≤ p.stable (p.guard x) → IsClean p x → IsCut p cut
    → ChainedBy (in_life_from x (birth_of (entry_now p x)) (base_of p.devices x)) (image_now p x) (λ m. steps_on x (p.devices.kept m)) (λ m. steps_on x (logs_at p cut m)) (image_now p x) (p.guard x)
    × IfSome (p.devices.disk x) (λ i. image_now p x ≡ in_life_from x (birth_of (entry_now p x)) i)
clean_at p x cut history last clean is =
    let q = paged_at p x cut history last is in
    (settles (in_life_from x (birth_of (entry_now p x)) (base_of p.devices x)) q.shown (image_now p x) (λ m. steps_on x (p.devices.kept m)) (λ m. steps_on x (logs_at p cut m)) (p.guard x) q.chain, disk clean)
  where
    disk : IsClean p x → IfSome (p.devices.disk x) (λ i. image_now p x ≡ in_life_from x (birth_of (entry_now p x)) i)
    disk (inl e) = rw e tt
    disk (inr (i, s, e)) = rw s (sym e)

pub passes : PassKeepsHistory
passes p x m history may = record {
  sound = history.sound;
  steady = λ y k l h. steady y k l h (cases_eq y x);
  stands = λ cut is. let st = history.stands cut is in
      let e = steady_at p x cut history may.stable is in
      stands_ext_guard cut is (record {
        pages = λ y. page cut is y (cases_eq y x);
        shaped = st.shaped;
        unused = st.unused;
        slots = st.slots;
        locks = st.locks;
        map_pages = st.map_pages;
        lives = st.lives;
        ordered = st.ordered;
        apart = λ k q n i lt le d e. off cut is k q n i lt le d e (cases_eq k x) (cases_eq (page_of_place p.devices.shape k q) x);
      });
}
  where
    off : (cut : ℕ → ℕ) → IsCut p cut → (k q n : ℕ) (i : PageImage) → k < p.devices.shape.maps → q < pages_per_map → n ≢ set_at x m p.guard k → p.devices.disk k ≡ Some i → (k ≡ x) ⊎ (k ≢ x) → (page_of_place p.devices.shape k q ≡ x) ⊎ (page_of_place p.devices.shape k q ≢ x)
        → IsApart p.devices (logs_at p cut) (set_at x m p.guard) (entry_at p cut) k q n i
    off cut is k q n i lt le d e (inl h) z = inl (sym (ap birth_of ((history.stands cut is).lives k q lt le ∙ ap (λ (j : PageImage). entries_of j q) (ap (image_at p cut) h ∙ (s.0 ∙ sym (same may.clean))))))
      where
        s : (image_at p cut x ≡ image_now p x) × (entry_at p cut x ≡ entry_now p x)
        s = steady_at p x cut history may.stable is

        zero_born : birth_of (entry_now p x) ≡ 0
        zero_born = ap birth_of (sym s.1) ∙ (history.stands cut is).map_pages x (subst (λ j. j < p.devices.shape.maps) h lt)

        same : IsClean p x → i ≡ image_now p x
        same (inl c) = let a = ap p.devices.disk h in absurd cc
        same (inr (j, c, l)) =
            let a = ap p.devices.disk h in
            let b : i ≡ j = cc in
            b ∙ (sym (in_life_from-same x 0 j (omega arith)) ∙ (ap (λ t. in_life_from x t j) (sym zero_born) ∙ l))
    off cut is k q n i lt le d e (inr h) z = go ((history.stands cut is).apart k q n i lt le d' e) z
      where
        d' : n ≢ p.guard k
        d' = rw (ne_eqb k x h) at d

        go : IsApart p.devices (logs_at p cut) p.guard (entry_at p cut) k q n i
            → (page_of_place p.devices.shape k q ≡ x) ⊎ (page_of_place p.devices.shape k q ≢ x)
            → IsApart p.devices (logs_at p cut) (set_at x m p.guard) (entry_at p cut) k q n i
        go (inl a) b = inl a
        go (inr (a, g)) (inl b) = inr (a, λ f. d' (let o = may.with_map k q lt le (sym b) in let f' : m ≡ n = rw (eq-eqb (page_of_place p.devices.shape k q) x b) at f in sym f' ∙ sym o))
        go (inr (a, g)) (inr b) = inr (a, λ f. g (rw (ne_eqb (page_of_place p.devices.shape k q) x b) at f))

    born_same : (cut : ℕ → ℕ) → IsCut p cut → (y : ℕ) → entry_at p cut y ≡ entry_at (passed p x m) cut y
    born_same cut is y = go (cases_eq y x)
      where
        go : (y ≡ x) ⊎ (y ≢ x) → entry_at p cut y ≡ entry_at (passed p x m) cut y
        go (inl e) = rw (e, eq-eqb x x refl) (steady_at p x cut history may.stable is).1
        go (inr d) = rw (ne_eqb y x d) refl

    full_same : (cut : ℕ → ℕ) → IsCut p cut → (y : ℕ) → image_at p cut y ≡ image_at (passed p x m) cut y
    full_same cut is y = go (cases_eq y x)
      where
        go : (y ≡ x) ⊎ (y ≢ x) → image_at p cut y ≡ image_at (passed p x m) cut y
        go (inl e) = rw (e, eq-eqb x x refl) (steady_at p x cut history may.stable is).0
        go (inr d) = rw (ne_eqb y x d) refl

    stands_ext_guard : (cut : ℕ → ℕ) → IsCut p cut → IsStanding p.devices (logs_at p cut) (set_at x m p.guard) (entry_at p cut) (image_at p cut) p.settled p.lock
        → IsStanding p.devices (logs_at p cut) (set_at x m p.guard) (entry_at (passed p x m) cut) (image_at (passed p x m) cut) p.settled p.lock
    stands_ext_guard cut is st = stands_ext p.devices (logs_at p cut) (logs_at p cut) (set_at x m p.guard) (entry_at p cut) (entry_at (passed p x m) cut) (image_at p cut) (image_at (passed p x m) cut) p.settled p.lock
        (λ k. refl) (born_same cut is) (full_same cut is) st

    page : (cut : ℕ → ℕ) → IsCut p cut → (y : ℕ) → (y ≡ x) ⊎ (y ≢ x) → PageChain p.devices (logs_at p cut) (birth_of (entry_at p cut y)) (image_at p cut y) y (set_at x m p.guard y)
    page cut is y (inr d) = rw (ne_eqb y x d) ((history.stands cut is).pages y)
    page cut is y (inl e) =
        let q = clean_at p x cut history may.stable may.clean is in
        let s = steady_at p x cut history may.stable is in
        let here : PageChain p.devices (logs_at p cut) (birth_of (entry_now p x)) (image_now p x) x m = record {
          shown = image_now p x;
          disk = q.1;
          chain = any_guard (in_life_from x (birth_of (entry_now p x)) (base_of p.devices x)) (image_now p x) (λ k. steps_on x (p.devices.kept k)) (λ k. steps_on x (logs_at p cut k)) (p.guard x) m q.0;
          gap = (paged_at p x cut history may.stable is).gap;
          rises = (paged_at p x cut history may.stable is).rises;
        } in
        rw (e, eq-eqb x x refl, s.0, s.1) here

    steady : (y k : ℕ) → set_at x 0 p.last y ≤ k → k ≤ length (p.live (set_at x m p.guard y)) → (y ≡ x) ⊎ (y ≢ x)
        → ((passed p x m).image y k ≡ image_now (passed p x m) y) × ((passed p x m).entry y k ≡ entry_now (passed p x m) y)
    steady y k l h (inl e) = (rw (eq-eqb y x e) refl, rw (eq-eqb y x e) refl)
    steady y k l h (inr d) =
        let l' = rw (ne_eqb y x d) at l in
        let h' = rw (ne_eqb y x d) at h in
        rw (ne_eqb y x d) (history.steady y k l' h')

pub archives : ArchiveKeepsHistory
archives p x history last clean = record {
  sound = history.sound;
  steady = history.steady;
  stands = λ cut is. let st = history.stands cut is in record {
    pages = λ y. page cut is y (cases_eq y x);
    shaped = st.shaped;
    unused = st.unused;
    slots = st.slots;
    locks = st.locks;
    map_pages = st.map_pages;
    lives = st.lives;
    ordered = st.ordered;
    apart = st.apart;
  };
}
  where
    page : (cut : ℕ → ℕ) → IsCut p cut → (y : ℕ) → (y ≡ x) ⊎ (y ≢ x) → PageChain (archived p x).devices (logs_at p cut) (birth_of (entry_at p cut y)) (image_at p cut y) y (p.guard y)
    page cut is y (inr d) = let q = (history.stands cut is).pages y in record { shown = q.shown; disk = q.disk; chain = rw (ne_eqb y x d) q.chain; gap = q.gap; rises = q.rises }
    page cut is y (inl e) =
        let q = clean_at p x cut history last clean is in
        let s = steady_at p x cut history last is in
        let b = in_life_from-same x (birth_of (entry_now p x)) (image_now p x) (birth_le p.devices (logs_at p cut) (birth_of (entry_now p x)) (image_now p x) x (p.guard x) (paged_at p x cut history last is)) in
        let here : PageChain (archived p x).devices (logs_at p cut) (birth_of (entry_now p x)) (image_now p x) x (p.guard x) = record {
          shown = image_now p x;
          disk = q.1;
          chain = rw (eq-eqb x x refl, b) (rebased (in_life_from x (birth_of (entry_now p x)) (base_of p.devices x)) (image_now p x) (image_now p x) (λ k. steps_on x (p.devices.kept k)) (λ k. steps_on x (logs_at p cut k)) (p.guard x) (p.guard x) q.0);
          gap = (paged_at p x cut history last is).gap;
          rises = (paged_at p x cut history last is).rises;
        } in
        rw (e, s.0, s.1) here
