-- What the writes of pages, one after the other, leave of the blocks of a device.
use Rattle.std.specs.Prelude.{◌≡◌, ◌≢◌, ◌⊎◌, ◌<◌, ℕ, zero, suc, List, [], ◌∷◌, Option, Some, None, IsSome, Any, length, refl}
use Rattle.std.specs.List.{slice_get}
use Rattle.std.proofs.Common.{arith, inl, inr, ap, sym, ◌∙◌}
use Rattle.sd_base.specs.Disk.{BlockState, IsFreeFor}
use Rattle.sd_base.specs.Calls.{KeepsForeignBut, NarrowsBut, NoNewWriterBut, Writes}
use Rattle.sd_base.specs.declared.names.PageNo.{PageNo}
use Rattle.sd_base.specs.declared.shape.Shape.{Shape}
use Rattle.frame_pool.specs.Frames.{IsOut, frame_at}
use Rattle.state_ids.specs.Blocks.{page_place}
use Rattle.node_cache.specs.Cache.{CachedPage, Changes}
use Rattle.node_cache.specs.Sending.{IsPlaced, NoNewWriterButPages}
use Rattle.node_cache.specs.Writes.{IsBlockOf, IsImageOf, KeepsContentsOfPages, KeepsForeignOfPages, NarrowsToPages}

-- a place below the end has a page
pub there_is : {X : Type 0} (xs : List X) (i : ℕ) → i < length xs → (x : X) × (slice_get xs i ≡ Some x)
there_is [] i below = absurd (omega (arith, below))
there_is (x ∷ xs) zero below = (x, refl)
there_is (x ∷ xs) (suc i) below = there_is xs i (omega (arith, below))

pub changed_or_not : (c : Option Changes) → (c ≡ None) ⊎ (c ≢ None)
changed_or_not None = inl refl
changed_or_not (Some c) = inr (λ e. cc)

-- what a frame that is out holds
pub content_of : (o : Option (List ℕ)) → IsSome o → (b : List ℕ) × (o ≡ Some b)
content_of None out = cc
content_of (Some b) out = (b, refl)

-- pages with one block are one page
pub one_place : (s : Shape) (x y : PageNo) → page_place s x ≡ page_place s y → x ≡ y
one_place s x y same = let number : x.0 ≡ y.0 = omega (arith, same) in ap (λ n. record { 0 = n }) number

-- One of the pages, which has changes, is written after some of them were.
module _ (s : Shape) (pool : List (Option (List ℕ))) (pages : List CachedPage) (a b c : ℕ → BlockState) (p : CachedPage)
    (out : IsOut pool p.frame) (among : (P : CachedPage → Type 0) → P p → Any P pages) (some : p.changes ≢ None) where
  pub more_outcomes : ((content : List ℕ) → frame_at pool p.frame ≡ Some content → NarrowsBut (page_place s p.ticket.page) content b c) → NarrowsToPages s pool pages a b → NarrowsToPages s pool pages a c
  more_outcomes narrows first k o may =
      let content = content_of (frame_at pool p.frame) out in
      elim (narrows content.0 content.1 k o may) [
        | inl old ↦ first k o old
        | inr new ↦ inr (among (IsImageOf s pool k o) ((some, new.0), new.1 ∙ sym content.1))
      ]

  pub more_foreign : (n : ℕ) → KeepsForeignBut (page_place s p.ticket.page) n b c → KeepsForeignOfPages s pages n a b → KeepsForeignOfPages s pages n a c
  more_foreign n keeps first k none foreign =
      let same = first k none foreign in
      keeps k (λ here. none (among (IsBlockOf s k) (some, here))) (λ e. foreign (sym (ap (λ d. d.writer) same) ∙ e)) ∙ same

  pub more_contents : ((k : ℕ) → k ≢ page_place s p.ticket.page → (c k).current ≡ (b k).current) → KeepsContentsOfPages s pages a b → KeepsContentsOfPages s pages a c
  more_contents others first k none = others k (λ here. none (among (IsBlockOf s k) (some, here))) ∙ first k none

  pub more_writers : (n : ℕ) → NoNewWriterBut (page_place s p.ticket.page) n b c → NoNewWriterButPages s pages n a b → NoNewWriterButPages s pages n a c
  more_writers n wrote first k = elim (wrote k) [
    | inl same ↦ elim (first k) [
      | inl before ↦ inl (same ∙ before)
      | inr (inl none) ↦ inr (inl (same ∙ none))
      | inr (inr here) ↦ inr (inr (here.0, same ∙ here.1))
    ]
    | inr (inl none) ↦ inr (inl none)
    | inr (inr here) ↦ inr (inr (among (IsBlockOf s k) (some, here.0), here.1))
  ]

  -- its block holds what its frame does, and the block of another page what it held
  pub this_placed : (n : ℕ) → ((content : List ℕ) → frame_at pool p.frame ≡ Some content → Writes n (page_place s p.ticket.page) content b c) → IsPlaced s pool c p
  this_placed n writes = let content = content_of (frame_at pool p.frame) out in (writes content.0 content.1).current ∙ sym content.1

  pub other_placed : (n : ℕ) → ((content : List ℕ) → frame_at pool p.frame ≡ Some content → Writes n (page_place s p.ticket.page) content b c) → (q : CachedPage) → q.ticket.page ≢ p.ticket.page → IsPlaced s pool b q → IsPlaced s pool c q
  other_placed n writes q other placed =
      let content = content_of (frame_at pool p.frame) out in
      (writes content.0 content.1).others (page_place s q.ticket.page) (λ same. other (one_place s q.ticket.page p.ticket.page same)) ∙ placed

-- a block that the port may write stays one
pub free_still : (s : Shape) (pages : List CachedPage) (n k : ℕ) (a b : ℕ → BlockState) → NoNewWriterButPages s pages n a b → IsFreeFor n (a k) → IsFreeFor n (b k)
free_still s pages n k a b wrote free = elim (wrote k) [
  | inl same ↦ elim free [ inl own ↦ inl (same ∙ own) | inr none ↦ inr (same ∙ none) ]
  | inr (inl none) ↦ inr none
  | inr (inr here) ↦ inl here.1
]
