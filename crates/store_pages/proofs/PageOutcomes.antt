-- What the blocks of pages hold that a node was to write: each the page as it was there, or as it is now.
use Rattle.std.specs.Prelude.{◌≡◌, ◌≢◌, ◌⊎◌, ◌+◌, ◌*◌, ◌<◌, ◌≤◌, ◌∷◌, [], ℕ, suc, Bool, All, List, Option, Some, None, length, take, refl, slice_index_or}
use Rattle.std.proofs.Common.{arith, inl, inr, ap, subst, sym, ◌∙◌}
use Rattle.std.proofs.lemmas.Bool.{cases_eq, cases_lt}
use Rattle.std.proofs.lemmas.List.{take_all}
use Rattle.std.proofs.lemmas.List.Elements.{All-cons, All-head, All-nil, All-tail}
use Rattle.sd_base.specs.Disk.{BlockState, Holds, IsLawful, MayHold}
use Rattle.sd_base.specs.Calls.{Narrows}
use Rattle.sd_base.specs.Shape.{page_count}
use Rattle.sd_base.specs.declared.names.PageNo.{PageNo}
use Rattle.sd_base.specs.declared.shape.Shape.{Shape}
use Rattle.frame_pool.specs.Frames.{frame_at}
use Rattle.private_log.specs.Content.{HoldsFront, Region, HasNoFuture, LogContent}
use Rattle.private_log.specs.Log.{region}
use Rattle.private_log.specs.Spread.{IsSpread, IsStill}
use Rattle.private_log.proofs.SpreadLaws.{attached_log}
use Rattle.state_ids.specs.Blocks.{HoldsPage, page_place}
use Rattle.state_ids.specs.Held.{Shows}
use Rattle.node_cache.specs.Cache.{CachedPage, CacheState, Changes, IsOfStore, IsTiedToLog}
use Rattle.node_cache.specs.Writes.{HoldsPages, IsWrittenAhead, NarrowsButPages}
use Rattle.node_cache.proofs.DiskTie.{not_in_ring}
use Rattle.node_cache.proofs.PageWrites.{one_place}
use Rattle.recovery_theory.specs.History.{History, image_now}
use Rattle.record_machine.specs.Machine.{Machine}
use Rattle.record_machine.specs.Meaning.{Plain}
use Rattle.record_machine.specs.Recoverable.{Recoverable}
use Rattle.store_nodes.specs.Shows.{image_in}
use Rattle.store_nodes.specs.Tied.{TiesPage}
use Rattle.store_nodes.proofs.CachedImages.{data_image, map_image}
use Rattle.store_nodes.proofs.Living.{AreLiving}
use Rattle.store_pages.proofs.PagesWritten.{IsAmong, IsOne, IsThere, any_first}

-- the present page is what the history has of it
pub image_there : (dirty : ℕ → Bool) (h : History) (p : Plain) (m : Machine) (s : Shape) → Recoverable dirty h p m → m.shape ≡ s → (x : PageNo) → x.0 < page_count s → image_in s p x ≡ image_now h x.0
image_there dirty h p m s r shape x within = elim (cases_lt x.0 s.maps) [
  | inl near ↦ map_image s p x near ∙ sym (r.maps x.0 (subst (λ (z : Shape). x.0 < z.maps) (sym shape) near))
  | inr far ↦ data_image s p x far ∙ sym (r.pages x.0 (subst (λ (z : Shape). z.maps ≤ x.0) (sym shape) far) (subst (λ z. x.0 < page_count z) (sym shape) within))
]

-- whether this is one of the pages that have changes
among : (x : PageNo) (pages : List CachedPage) → IsAmong x pages ⊎ ¬ (IsAmong x pages)
among x [] = inr (λ any. let low = any.2 in omega (arith, low))
among x (q ∷ pages) = by q.changes refl (among x pages)
  where
    skips : ¬ (IsOne x q) → IsAmong x pages ⊎ ¬ (IsAmong x pages) → IsAmong x (q ∷ pages) ⊎ ¬ (IsAmong x (q ∷ pages))
    skips other (inl later) = inl (suc later.0, later.1, (let low = later.2 in omega (arith, low)), later.3, later.4)
    skips other (inr none) = inr (λ any. elim (any_first (IsOne x) q pages any) [ inl one ↦ other one | inr later ↦ none later ])

    by : (o : Option Changes) → q.changes ≡ o → IsAmong x pages ⊎ ¬ (IsAmong x pages) → IsAmong x (q ∷ pages) ⊎ ¬ (IsAmong x (q ∷ pages))
    by None none rest = skips (λ one. one.0 none) rest
    by (Some ch) is rest = elim (cases_eq q.ticket.page.0 x.0) [
      | inl same ↦ inl (0, q, omega arith, refl, ((λ none. (let never : None ≡ Some ch = sym none ∙ is in cc)), ap (λ k. record { 0 = k }) same))
      | inr far ↦ skips (λ one. far (ap (λ (z : PageNo). z.0) one.1)) rest
    ]

-- each of them is so, or this holds
all_or : {A : Type 0} (P : A → Type 0) (W : Type 0) (xs : List A) → All (λ a. P a ⊎ W) xs → All P xs ⊎ W
all_or P W [] either = inl (All-nil P)
all_or P W (a ∷ xs) either = elim (All-head (λ a. P a ⊎ W) a xs either) [
  | inr is ↦ inr is
  | inl here ↦ elim (all_or P W xs (All-tail (λ a. P a ⊎ W) a xs either)) [ inl rest ↦ inl (All-cons P a xs here rest) | inr is ↦ inr is ]
]

-- the log of a settled region that holds all records
pub whole_cut : (g : Region) (start stable tail : ℕ) (b : ℕ → BlockState) (xs : List (List ℕ)) → ((k : ℕ) → IsLawful b k) → IsStill g b → 6 * start + length xs ≡ tail → stable ≤ tail → HoldsFront g start tail xs (λ k. (b k).current) → IsSpread g start (length xs) b xs
whole_cut g start stable tail b xs law still long low front =
    let some = front.low in
    let most = front.high in
    let all : take front.count xs ≡ xs = take_all front.count xs (omega (arith, some, long)) in
    attached_log g start b xs law still (subst (LogContent g (λ k. (b k).current) start) all front.content) (subst (HasNoFuture g (λ k. (b k).current) start) all front.clean)

module _ (s : Shape) (pool : List (Option (List ℕ))) (c : CacheState) (pages : List CachedPage) (b b' : ℕ → BlockState) (h : History) (p : Plain)
    (store : IsOfStore s c) (log_tie : IsTiedToLog c) (living : AreLiving s p) (now : (x : PageNo) → x.0 < page_count s → image_in s p x ≡ image_now h x.0)
    (within : All (λ q. q.ticket.page.0 < page_count s) pages) (shown : All (λ q. Shows pool q.frame (image_in s p q.ticket.page)) pages) (ties : (x : PageNo) → x.0 < page_count s → TiesPage s b h x) where
  -- what the frame of a page holds is the page as it is now
  from_frame : (q : CachedPage) → q.ticket.page.0 < page_count s → Shows pool q.frame (image_in s p q.ticket.page) → (o : Option (List ℕ)) → o ≡ frame_at pool q.frame → HoldsPage s q.ticket.page (image_now h q.ticket.page.0) o
  from_frame q low shows o is =
      let x = q.ticket.page in
      let alive = living x low in
      subst (λ i. HoldsPage s x i o) (now x low) (shows.bytes, is ∙ shows.held, shows.text, alive.0, alive.1)

  -- where their blocks hold what their frames do, they are there,
  pub there_written : HoldsPages s pool pages b' → All (λ q. q.changes ≢ None → IsThere s b' h q.ticket.page) pages
  there_written holds k d low some o may = let q = slice_index_or pages k d in from_frame q (within k d low) (shown k d low) o (holds k d low some o may)

  module _ (narrows : NarrowsButPages s c.log pool pages b b') where
    -- and each other page is as it was
    pub ties_or_among : (x : PageNo) → x.0 < page_count s → TiesPage s b' h x ⊎ IsAmong x pages
    ties_or_among x low = elim (among x pages) [
      | inl one ↦ inr one
      | inr none ↦ inl (λ o may. elim (narrows (page_place s x) o may) [
        | inl old ↦ ties x low o old
        | inr (inl last) ↦ absurd (not_in_ring s c store log_tie _ x last)
        | inr (inr new) ↦ absurd (none (new.0, new.1, new.2, new.3, (new.4.0.0, sym (one_place s x new.1.ticket.page new.4.0.1))))
      ])
    ]

    -- Where a stop has settled them, each block holds what it held, or the page as it is now.
    module _ (b'' : ℕ → BlockState) (settled : Narrows b' b'') (law : (k : ℕ) → IsLawful b'' k) (single : (x : PageNo) → x.0 < page_count s → (b'' (page_place s x)).writer ≡ None) where
      alone : (x : PageNo) → x.0 < page_count s → Holds b'' (page_place s x) (b'' (page_place s x)).current
      alone x low = (law (page_place s x)).covered (single x low)

      pub ties_or_settled : (x : PageNo) → x.0 < page_count s → TiesPage s b'' h x ⊎ IsAmong x pages
      ties_or_settled x low = elim (ties_or_among x low) [ inl tie ↦ inl (λ o may. tie o (settled (page_place s x) o may)) | inr one ↦ inr one ]

      -- the block holds what it held
      old_tie : (x : PageNo) → x.0 < page_count s → MayHold b (page_place s x) (b'' (page_place s x)).current → TiesPage s b'' h x
      old_tie x low old o may = ties x low o (subst (MayHold b (page_place s x)) (sym (alone x low o may)) old)

      pub whole_or_old : All (λ q. q.changes ≢ None → TiesPage s b'' h q.ticket.page ⊎ IsThere s b'' h q.ticket.page) pages
      whole_or_old k d low some =
          let q = slice_index_or pages k d in
          let x = q.ticket.page in
          let in_store = within k d low in
          elim (narrows (page_place s x) (b'' (page_place s x)).current (settled (page_place s x) (b'' (page_place s x)).current (law (page_place s x)).current)) [
            | inl old ↦ inl (old_tie x in_store old)
            | inr (inl last) ↦ absurd (not_in_ring s c store log_tie _ x last)
            | inr (inr new) ↦
                let same : new.1.ticket.page ≡ x = sym (one_place s x new.1.ticket.page new.4.0.1) in
                let known : new.1.ticket.page.0 < page_count s = subst (λ (z : PageNo). z.0 < page_count s) (sym same) in_store in
                let shows : Shows pool new.1.frame (image_in s p new.1.ticket.page) = subst (λ r. Shows pool r.frame (image_in s p r.ticket.page)) new.3 (shown new.0 new.1 new.2) in
                inr (λ o may. subst (λ y. HoldsPage s y (image_now h y.0) o) same (from_frame new.1 known shows o (alone x in_store o may ∙ new.4.1)))
          ]

      -- Where one of them holds another thing than it held, all records of the log are there.
      pub whole_log_or_old : (xs : List (List ℕ)) → IsWrittenAhead c.log xs b b' → All (λ q. q.changes ≢ None → TiesPage s b'' h q.ticket.page) pages ⊎ HoldsFront (region c.log) c.log.start c.log.tail xs (λ k. (b'' k).current)
      whole_log_or_old xs ahead = all_or (λ q. q.changes ≢ None → TiesPage s b'' h q.ticket.page) (HoldsFront (region c.log) c.log.start c.log.tail xs (λ k. (b'' k).current)) pages (λ k d low.
          let q = slice_index_or pages k d in
          let x = q.ticket.page in
          let in_store = within k d low in
          elim (ahead (λ j. (b'' j).current) (page_place s x) (λ j. settled j (b'' j).current (law j).current)) [
            | inl old ↦ inl (λ some. old_tie x in_store old)
            | inr (inl last) ↦ absurd (not_in_ring s c store log_tie _ x last)
            | inr (inr whole) ↦ inr whole
          ])
