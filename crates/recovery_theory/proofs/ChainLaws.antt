-- A chain goes on where its one owner logs a step.
use Rattle.std.proofs.Common.{◌≡◌, ◌≢◌, ℕ, ◌+◌, ◌≤◌, Bool, true, false, eqb, List, [], ◌∷◌, ◌++◌, length, refl, ap, sym, subst, ◌∙◌, arith, append_assoc, append-nil, length-append, eqb-true}
use Rattle.std.proofs.lemmas.Bool.{eqb-false}
use Rattle.recovery_theory.specs.Chain.{steps_from, NodeChange, in_log, all_by, replay, ChainedBy, Chained, RaisesLife, RaiseLives, ChainGrows}
use Rattle.recovery_theory.specs.Effect.{Step}
use Rattle.sd_base.specs.declared.page_op.PageOp.{PageOp}
use Rattle.recovery_theory.proofs.StepLists.{steps_from-append, steps_from-steps_from, steps_from-over, in_log-append, all_by-append, replay-append, ident-replay, length-all_by, in_log-others, in_log-first, steps_from-in_log, steps_from-in_log_past}
use Rattle.space_map.specs.PageImage.{PageImage, changed, ident_of}

-- the disk's image is as far from the base as `old` is long
pub ident-disk : (base disk image : PageImage) (kept live : ℕ → List Step) (n : ℕ) (c : ChainedBy base disk kept live image n)
    → ident_of disk ≡ ident_of base + length c.old
ident-disk base disk image kept live n c = ap ident_of c.same ∙ ident-replay c.old base

-- and the recovered one is as far from the disk's as `new` is long
pub ident-image : (base disk image : PageImage) (kept live : ℕ → List Step) (n : ℕ) (c : ChainedBy base disk kept live image n)
    → ident_of image ≡ ident_of disk + length c.new
ident-image base disk image kept live n c =
    let e = ap ident_of c.whole in
    let r = ident-replay (all_by n c.new) disk in
    let l = length-all_by n c.new in
    omega arith

-- what the disk lacks stands in the live log of its one node
pub live-new : (base disk image : PageImage) (kept live : ℕ → List Step) (n m : ℕ) (c : ChainedBy base disk kept live image n)
    → steps_from (ident_of disk) (live m) ≡ in_log m (ident_of disk) (all_by n c.new)
live-new base disk image kept live n m c =
    let i = ident-disk base disk image kept live n c in
    let step : ident_of base ≤ ident_of disk = omega arith in
    let all : steps_from (ident_of disk) (kept m ++ live m) ≡ in_log m (ident_of disk) (all_by n c.new) =
    sym (steps_from-steps_from (ident_of base) (ident_of disk) step (kept m ++ live m)) ∙ (ap (steps_from (ident_of disk)) (c.linked m) ∙ steps_from-in_log m (ident_of base) (ident_of disk) c.old (all_by n c.new) i) in
    let parts = steps_from-append (ident_of disk) (kept m) (live m) in
    let none = c.near m in
    cc

-- the node may be any one beside which no log has a step that the disk lacks
pub by_owner : (base disk image : PageImage) (kept live : ℕ → List Step) (n : ℕ)
    → Chained base disk kept live image
    → ((m : ℕ) → m ≢ n → steps_from (ident_of disk) (live m) ≡ [])
    → ChainedBy base disk kept live image n
by_owner base disk image kept live n (last, c) quiet = go (eqb last n) refl
  where
    none : last ≢ n → (new : List PageOp) → steps_from (ident_of disk) (live last) ≡ in_log last (ident_of disk) (all_by last new) → new ≡ []
    none d [] e = refl
    none d (op ∷ l) e =
        let first = in_log-first last (ident_of disk) op l in
        let q = quiet last d in
        absurd cc

    go : (t : Bool) → eqb last n ≡ t → ChainedBy base disk kept live image n
    go true e = subst (λ k. ChainedBy base disk kept live image k) (eqb-true last n e) c
    go false e =
        let d : last ≢ n = eqb-false last n e in
        let none' = none d c.new (live-new base disk image kept live last last c) in
        let same : all_by last c.new ≡ [] = ap (all_by last) none' in
        record {
          old = c.old;
          new = [];
          linked = λ k. c.linked k ∙ ap (λ h. in_log k (ident_of base) (c.old ++ h)) same;
          same = c.same;
          near = c.near;
          whole = c.whole ∙ ap (λ h. replay h disk) same;
          rising = subst (λ h. RaiseLives base (c.old ++ h)) same c.rising;
        }

-- lives rise along a history, and so along its parts
pub RaiseLives-append : (h g : List NodeChange) (i : PageImage) → RaiseLives i h → RaiseLives (replay h i) g → RaiseLives i (h ++ g)
RaiseLives-append [] g i r q = q
RaiseLives-append (a ∷ h) g i r q = (r.0, RaiseLives-append h g (changed a.op i) r.1 q)

-- the image that the whole history makes of the base
pub whole_replay : (base disk image : PageImage) (kept live : ℕ → List Step) (n : ℕ) (c : ChainedBy base disk kept live image n) → image ≡ replay (c.old ++ all_by n c.new) base
whole_replay base disk image kept live n c = c.whole ∙ (ap (replay (all_by n c.new)) c.same ∙ sym (replay-append c.old (all_by n c.new) base))

-- the chain with one more step of its node
pub grows_by : (base disk image : PageImage) (kept live live' : ℕ → List Step) (n : ℕ) (op : PageOp)
    → ChainedBy base disk kept live image n
    → live' n ≡ live n ++ record { bsi = ident_of image; op = op } ∷ []
    → ((m : ℕ) → m ≢ n → live' m ≡ live m)
    → RaisesLife image op
    → ChainedBy base disk kept live' (changed op image) n
grows_by base disk image kept live live' n op c here there raises = record {
  old = c.old;
  new = c.new ++ op ∷ [];
  linked = λ m. linked m (eqb m n) refl;
  same = c.same;
  near = c.near;
  whole = rw (all_by-append n c.new op, replay-append (all_by n c.new) (record { node = n; op = op } ∷ []) disk) (ap (changed op) c.whole);
  rising = subst (RaiseLives base) (sym longer) (RaiseLives-append changes (record { node = n; op = op } ∷ []) base c.rising (subst (λ i. RaisesLife i op) (whole_replay base disk image kept live n c) raises, tt));
}
  where
    changes : List NodeChange
    changes = c.old ++ all_by n c.new

    step : Step
    step = record { bsi = ident_of image; op = op }

    at : ident_of image ≡ ident_of base + length changes
    at =
        let d = ident-disk base disk image kept live n c in
        let f = ident-image base disk image kept live n c in
        let l = length-append c.old (all_by n c.new) in
        let m = length-all_by n c.new in
        omega arith

    longer : c.old ++ all_by n (c.new ++ op ∷ []) ≡ changes ++ record { node = n; op = op } ∷ []
    longer = rw (all_by-append n c.new op) (sym (append_assoc c.old (all_by n c.new) (record { node = n; op = op } ∷ [])))

    linked_here : steps_from (ident_of base) (kept n ++ live' n) ≡ in_log n (ident_of base) (c.old ++ all_by n (c.new ++ op ∷ []))
    linked_here =
        let le : ident_of base ≤ ident_of image = omega (arith, at) in
        let over = steps_from-over (ident_of base) step [] le in
        let first = in_log-first n (ident_of base + length changes) op [] in
        let a = sym (append_assoc (kept n) (live n) (step ∷ [])) in
        let b = steps_from-append (ident_of base) (kept n ++ live n) (step ∷ []) in
        let l = c.linked n in
        let r = in_log-append n (ident_of base) changes (record { node = n; op = op } ∷ []) in
        let bsi = at in
        rw (here, longer) cc

    linked : (m : ℕ) (t : Bool) → eqb m n ≡ t → steps_from (ident_of base) (kept m ++ live' m) ≡ in_log m (ident_of base) (c.old ++ all_by n (c.new ++ op ∷ []))
    linked m true e =
        subst (λ k. steps_from (ident_of base) (kept k ++ live' k) ≡ in_log k (ident_of base) (c.old ++ all_by n (c.new ++ op ∷ []))) (sym (eqb-true m n e)) linked_here
    linked m false e =
        let d : m ≢ n = eqb-false m n e in
        let last : in_log m (ident_of base + length changes) (record { node = n; op = op } ∷ []) ≡ [] = in_log-others m n (ident_of base + length changes) (op ∷ []) d in
        rw (there m d, longer, in_log-append m (ident_of base) changes (record { node = n; op = op } ∷ []), last) (c.linked m ∙ sym (append-nil (in_log m (ident_of base) changes)))

pub grows : ChainGrows
grows base disk image kept live live' n op c quiet here there raises = (n, grows_by base disk image kept live live' n op (by_owner base disk image kept live n c quiet) here there raises)

-- no step of the page is past its recovered image
pub past_image : (base disk image : PageImage) (kept live : ℕ → List Step) (n : ℕ) → ChainedBy base disk kept live image n → (i : ℕ) → ident_of image ≤ i → (m : ℕ) → steps_from i (kept m ++ live m) ≡ []
past_image base disk image kept live n c i le m =
    let d = ident-disk base disk image kept live n c in
    let f = ident-image base disk image kept live n c in
    let h : List NodeChange = c.old ++ all_by n c.new in
    let l = length-append c.old (all_by n c.new) in
    let a = length-all_by n c.new in
    sym (steps_from-steps_from (ident_of base) i (omega arith) (kept m ++ live m)) ∙ (ap (steps_from i) (c.linked m) ∙ steps_from-in_log_past m (ident_of base) i (c.old ++ all_by n c.new) (omega arith))

pub RaiseLives-front : (h g : List NodeChange) (i : PageImage) → RaiseLives i (h ++ g) → RaiseLives i h
RaiseLives-front [] g i r = tt
RaiseLives-front (a ∷ h) g i r = (r.0, RaiseLives-front h g (changed a.op i) r.1)

pub RaiseLives-back : (h g : List NodeChange) (i : PageImage) → RaiseLives i (h ++ g) → RaiseLives (replay h i) g
RaiseLives-back [] g i r = r
RaiseLives-back (a ∷ h) g i r = RaiseLives-back h g (changed a.op i) r.1

-- what the disk lacks rises too
pub rising_new : (base disk image : PageImage) (kept live : ℕ → List Step) (n : ℕ) (c : ChainedBy base disk kept live image n) → RaiseLives disk (all_by n c.new)
rising_new base disk image kept live n c = subst (λ i. RaiseLives i (all_by n c.new)) (sym c.same) (RaiseLives-back c.old (all_by n c.new) base c.rising)
