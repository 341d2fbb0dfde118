-- Pages that a node has written, in the history of its store.
use Rattle.std.specs.Prelude.{◌≡◌, ◌≢◌, ◌⊎◌, ◌<◌, ◌≤◌, ◌∷◌, [], ℕ, zero, suc, Bool, false, All, Any, List, Option, Some, None, MatchOption, length, slice_index_or, refl}
use Rattle.std.proofs.Common.{arith, inl, inr, ap, subst, sym, ◌∙◌}
use Rattle.std.proofs.lemmas.Bool.{cases_eq}
use Rattle.std.proofs.lemmas.List.Elements.{All-cons, All-head, All-nil, All-tail}
use Rattle.sd_base.specs.Disk.{BlockState, MayHold}
use Rattle.sd_base.specs.Shape.{page_count}
use Rattle.sd_base.specs.declared.names.PageNo.{PageNo}
use Rattle.sd_base.specs.declared.shape.Shape.{Shape}
use Rattle.space_map.specs.PageImage.{PageImage}
use Rattle.record_locks.specs.Held.{Held}
use Rattle.state_ids.specs.Blocks.{HoldsPage, page_place}
use Rattle.node_cache.specs.Cache.{CachedPage, Changes}
use Rattle.recovery_theory.specs.History.{History, image_now}
use Rattle.recovery_theory.specs.Steps.{set_at}
use Rattle.recovery_theory.proofs.Cuts.{set_at-other, set_at-same}
use Rattle.record_machine.specs.Cuts.{SurvivesAs}
use Rattle.record_machine.specs.Machine.{Machine, put}
use Rattle.record_machine.specs.Meaning.{Plain}
use Rattle.record_machine.proofs.LostTables.{survives_still}
use Rattle.record_machine.proofs.Put.{at_or_off, put_same}
use Rattle.record_machine.proofs.StillStops.{written_survives}
use Rattle.store_nodes.specs.Tied.{TiesPage}

-- the history, where its disk has these pages
abbrev pub with_disk : (ℕ → Option PageImage) → History → History
with_disk disk h = record h { devices = record h.devices { disk = disk } }

-- whatever a stop leaves of the page's block, it is the page as the history has it now
abbrev pub IsThere : Shape → (ℕ → BlockState) → History → PageNo → Type 0
IsThere s b h x = (o : Option (List ℕ)) → MayHold b (page_place s x) o → HoldsPage s x (image_now h x.0) o

-- this is one of these pages, and it has changes
abbrev pub IsOne : PageNo → CachedPage → Type 0
IsOne x q = (q.changes ≢ None) × (q.ticket.page ≡ x)

abbrev pub IsAmong : PageNo → List CachedPage → Type 0
IsAmong x pages = Any (IsOne x) pages

-- Some of these pages that have changes are written, and each other one is left: then the disk of the history has what the blocks
-- hold. `now` are the pages that it may lack still.
pub record AreWritten (s : Shape) (held : Held) (dirty : ℕ → Bool) (h : History) (p : Plain) (m : Machine) (b : ℕ → BlockState) (Left : CachedPage → Type 0) (pages : List CachedPage) : Type 0 where
  pub disk : ℕ → Option PageImage
  pub now : ℕ → Bool
  pub survives : SurvivesAs held now (with_disk disk h) p m
  pub page : (x : PageNo) → x.0 < page_count s → TiesPage s b (with_disk disk h) x
  pub clean : (x : ℕ) → dirty x ≡ false → now x ≡ false
  pub lost : (x : ℕ) → disk x ≡ None → h.devices.disk x ≡ None
  pub written : All (λ q. q.changes ≢ None → Left q ⊎ (now q.ticket.page.0 ≡ false)) pages

-- what holds of one of several holds of the first, or of one of the others
pub any_first : {A : Type 0} (P : A → Type 0) (a : A) (more : List A) → Any P (a ∷ more) → P a ⊎ Any P more
any_first P a more any = by any.0 any.2 any.3
  where
    by : (k : ℕ) → k < length (a ∷ more) → slice_index_or (a ∷ more) k any.1 ≡ any.1 → P a ⊎ Any P more
    by zero low here = inl (subst P (sym here) any.4)
    by (suc k) low here = inr (k, any.1, omega (arith, low), here, any.4)

module _ (s : Shape) (held : Held) (h : History) (p : Plain) (m : Machine) (b : ℕ → BlockState) (Left : CachedPage → Type 0) where
  abbrev Ties : (ℕ → Option PageImage) → PageNo → Type 0
  Ties disk x = TiesPage s b (with_disk disk h) x

  abbrev IsSure : CachedPage → Type 0
  IsSure q = q.changes ≢ None → h.last q.ticket.page.0 ≤ h.stable (h.guard q.ticket.page.0)

  abbrev IsEither : CachedPage → Type 0
  IsEither q = q.changes ≢ None → (Left q × TiesPage s b h q.ticket.page) ⊎ IsThere s b h q.ticket.page

  abbrev Done : (ℕ → Bool) → CachedPage → Type 0
  Done now q = q.changes ≢ None → Left q ⊎ (now q.ticket.page.0 ≡ false)

  -- the same entry of the disk
  tie_same : (disk disk' : ℕ → Option PageImage) (x : PageNo) → disk' x.0 ≡ disk x.0 → Ties disk x → Ties disk' x
  tie_same disk disk' x same tie o may = subst (λ d. MatchOption d (o ≡ None) (λ image. HoldsPage s x image o)) (sym same) (tie o may)

  -- the blocks that the history doesn't have yet are those of these pages
  abbrev AreLeft : List CachedPage → (ℕ → Option PageImage) → Type 0
  AreLeft pages disk = (x : PageNo) → x.0 < page_count s → Ties disk x ⊎ ((disk x.0 ≡ h.devices.disk x.0) × IsAmong x pages)

  abbrev Lost : (ℕ → Option PageImage) → Type 0
  Lost disk = (x : ℕ) → disk x ≡ None → h.devices.disk x ≡ None

  abbrev Result : List CachedPage → Type 0
  Result pages = (disk : ℕ → Option PageImage) (dirty : ℕ → Bool) → SurvivesAs held dirty (with_disk disk h) p m → Lost disk → AreLeft pages disk → AreWritten s held dirty h p m b Left pages

  -- one page more
  step : (q : CachedPage) (pages : List CachedPage) → IsSure q → IsEither q → Result pages → Result (q ∷ pages)
  step q pages sure either rest disk dirty survives lost ties = by q.changes refl
    where
      x0 : ℕ
      x0 = q.ticket.page.0

      kept : (w : AreWritten s held dirty h p m b Left pages) → Done w.now q → AreWritten s held dirty h p m b Left (q ∷ pages)
      kept w done = record { disk = w.disk; now = w.now; survives = w.survives; page = w.page; clean = w.clean; lost = w.lost; written = All-cons (Done w.now) q pages done w.written }

      -- it is left as it was
      leaves : ((x : PageNo) → IsOne x q → disk x.0 ≡ h.devices.disk x.0 → Ties disk x) → AreWritten s held dirty h p m b Left pages
      leaves here = rest disk dirty survives lost
          (λ x within. elim (ties x within) [
            | inl tie ↦ inl tie
            | inr still ↦ elim (any_first (IsOne x) q pages still.1) [ inl one ↦ inl (here x one still.0) | inr later ↦ inr (still.0, later) ]
          ])

      -- it is written
      writes : q.changes ≢ None → IsThere s b h q.ticket.page → AreWritten s held dirty h p m b Left (q ∷ pages)
      writes some there = record {
        disk = w.disk;
        now = w.now;
        survives = w.survives;
        page = w.page;
        clean = λ x was. w.clean x (at_or_off (λ c. c ≡ false) x0 false dirty x (λ same. refl) (λ off. was));
        lost = w.lost;
        written = All-cons (Done w.now) q pages (λ has. inr (w.clean x0 (put_same x0 false dirty x0 refl))) w.written;
      }
        where
          disk1 : ℕ → Option PageImage
          disk1 = set_at x0 (Some (image_now h x0)) disk

          at : disk1 x0 ≡ Some (image_now h x0)
          at = set_at-same x0 (Some (image_now h x0)) disk

          off : (y : ℕ) → y ≢ x0 → disk1 y ≡ disk y
          off y far = set_at-other x0 (Some (image_now h x0)) disk y far

          survives1 : SurvivesAs held (put x0 false dirty) (with_disk disk1 h) p m
          survives1 = survives_still held dirty (put x0 false dirty) (with_disk disk h) (with_disk disk1 h) p p m survives
              (written_survives dirty (with_disk disk h) p (record m { locks = held }) x0 survives.survives (sure some))

          lost1 : Lost disk1
          lost1 y none = elim (cases_eq y x0) [
            | inl same ↦ (let never : None ≡ Some (image_now h x0) = sym none ∙ ap disk1 same ∙ at in absurd cc)
            | inr far ↦ lost y (sym (off y far) ∙ none)
          ]

          ties1 : AreLeft pages disk1
          ties1 y within = elim (cases_eq y.0 x0) [
            | inl same ↦
                let page : q.ticket.page ≡ y = ap (λ k. record { 0 = k }) (sym same) in
                inl (subst (Ties disk1) page (λ o may. subst (λ d. MatchOption d (o ≡ None) (λ image. HoldsPage s q.ticket.page image o)) (sym at) (there o may)))
            | inr far ↦ elim (ties y within) [
              | inl tie ↦ inl (tie_same disk disk1 y (off y.0 far) tie)
              | inr still ↦ elim (any_first (IsOne y) q pages still.1) [
                | inl one ↦ absurd (far (ap (λ (z : PageNo). z.0) (sym one.1)))
                | inr later ↦ inr (off y.0 far ∙ still.0, later)
              ]
            ]
          ]

          w : AreWritten s held (put x0 false dirty) h p m b Left pages
          w = rest disk1 (put x0 false dirty) survives1 lost1 ties1

      by : (o : Option Changes) → q.changes ≡ o → AreWritten s held dirty h p m b Left (q ∷ pages)
      by None none = kept (leaves (λ x one same. absurd (one.0 none))) (λ some. absurd (some none))
      by (Some ch) is =
          let some : q.changes ≢ None = λ none. (let never : None ≡ Some ch = sym none ∙ is in cc) in
          elim (either some) [
            | inl left ↦ kept (leaves (λ x one same. subst (λ y. disk y.0 ≡ h.devices.disk y.0 → Ties disk y) one.1 (λ e. tie_same h.devices.disk disk q.ticket.page e left.1) same)) (λ has. inl left.0)
            | inr there ↦ writes some there
          ]

  all : (pages : List CachedPage) → All IsSure pages → All IsEither pages → Result pages
  all [] sure either = λ disk dirty survives lost ties. record {
    disk = disk;
    now = dirty;
    survives = survives;
    page = λ x within. elim (ties x within) [ inl tie ↦ tie | inr still ↦ (let low = still.1.2 in absurd (omega (arith, low))) ];
    clean = λ x was. was;
    lost = lost;
    written = All-nil (Done dirty);
  }
  all (q ∷ pages) sure either = step q pages (All-head IsSure q pages sure) (All-head IsEither q pages either) (all pages (All-tail IsSure q pages sure) (All-tail IsEither q pages either))

  -- all pages hold what the history has of them, where those are sure whose blocks hold what it has of them now
  pub pages_written : (pages : List CachedPage) (dirty : ℕ → Bool) → SurvivesAs held dirty h p m → ((x : PageNo) → x.0 < page_count s → TiesPage s b h x ⊎ IsAmong x pages) → All IsSure pages → All IsEither pages → AreWritten s held dirty h p m b Left pages
  pages_written pages dirty survives ties sure either = all pages sure either h.devices.disk dirty survives (λ x none. none) (λ x within. elim (ties x within) [ inl tie ↦ inl tie | inr among ↦ inr (refl, among) ])
