-- Devices that stand, and shown states.
use Rattle.std.proofs.Common.{◌≡◌, ◌≢◌, ◌⊎◌, inl, inr, ℕ, ◌+◌, ◌<◌, ◌≤◌, ◌&&◌, true, false, eqb, length, take, refl, ap, sym, subst, ◌∙◌, arith, None, take_all, mod-lt, eq-eqb, eqb-true}
use Rattle.std.proofs.lemmas.Bool.{and_parts, and_from, both_ways}
use Rattle.sd_base.specs.Places.{first_key, group_of, map_of_group, map_of_key, page_of_place, slot_of_key}
use Rattle.sd_base.specs.Shape.{pages_per_map}
use Rattle.recovery_theory.specs.Effect.{of_slot, listed, left_of}
use Rattle.recovery_theory.specs.History.{image_at, History, entry_at}
use Rattle.recovery_theory.specs.Records.{StandsAtEachCut, WhatStandsOpens, OneSetOfRecords}
use Rattle.recovery_theory.specs.Pages.{entries_of, is_used, entry_group}
use Rattle.space_map.specs.declared.map_entry.MapEntry.{MapEntry}
use Rattle.recovery_theory.proofs.Cuts.{stands_ext}
use Rattle.recovery_theory.proofs.Rebuilding.{determined}
use Rattle.recovery_theory.proofs.EndedRecords.{search_below}
use Rattle.space_map.specs.PageImage.{PageImage}

unfoldable pub each_cut : StandsAtEachCut
each_cut p records cut holds is = record {
  guard = p.guard;
  entry = entry_at p cut;
  image = image_at p cut;
  settled = p.settled;
  lock = p.lock;
  stands = holds.history.stands cut is;
  keys = holds.keys cut is;
  pending = λ x s o h. let e = holds.pending cut is x s o h in ap is_used e.0 ∙ e.1;
}

pub opens : WhatStandsOpens
opens w logs records s = (
  p,
  record {
    history = record {
      sound = λ n. omega arith;
      steady = λ y k l h. (refl, refl);
      stands = λ cut is. stands_ext w logs (λ n. take (cut n) (logs n)) s.guard s.entry s.entry s.image s.image s.settled s.lock (λ n. same cut is n) (λ y. refl) (λ y. refl) s.stands;
    };
    keys = λ cut is. s.keys;
    pending = λ cut is x k o h. (refl, s.pending x k o (λ e. h (ap (λ l. of_slot x k (listed (left_of o.txn (w.first o.node) l None))) (sym (same cut is o.node)) ∙ e)));
  },
  refl,
  refl,
  λ n. refl,
)
  where
    p : History
    p = record {
      devices = w;
      live = logs;
      stable = λ n. length (logs n);
      guard = s.guard;
      entry = λ x k. s.entry x;
      image = λ x k. s.image x;
      last = λ x. 0;
      settled = s.settled;
      lock = s.lock;
    }

    same : (cut : ℕ → ℕ) → ((n : ℕ) → (length (logs n) ≤ cut n) × (cut n ≤ length (logs n))) → (n : ℕ) → logs n ≡ take (cut n) (logs n)
    same cut is n = sym (take_all (cut n) (logs n) (is n).0)

pub one_set : OneSetOfRecords
one_set w logs r q pos a b k = go (search_below (λ j. (is_used (a.entry (page_of_place w.shape m j))) && eqb (entry_group (a.entry (page_of_place w.shape m j))) (group_of k).0) pages_per_map)
  where
    m : ℕ
    m = map_of_key w.shape k

    low : map_of_key w.shape k < w.shape.maps
    low = mod-lt (group_of k).0 pos

    split : (g : ℕ) → g ≡ (group_of k).0 → first_key g + slot_of_key k ≡ k
    split g e = omega arith

    same : (i j : ℕ) → i < w.shape.maps → j < pages_per_map → a.entry (page_of_place w.shape i j) ≡ b.entry (page_of_place w.shape i j)
    same i j lt le =
        let d = (determined w logs a.guard b.guard a.entry b.entry a.image b.image a.settled b.settled a.lock b.lock a.stands b.stands i (omega arith)).0 in
        a.stands.lives i j lt le ∙ (ap (λ (z : PageImage). entries_of z j) d ∙ sym (b.stands.lives i j lt le))

    none : (entry : ℕ → MapEntry) → ((i j : ℕ) → i < w.shape.maps → j < pages_per_map → is_used (entry (page_of_place w.shape i j)) ≡ true → map_of_group w.shape (record { 0 = entry_group (entry (page_of_place w.shape i j)) }) ≡ i)
        → ((j : ℕ) → j < pages_per_map → ((is_used (entry (page_of_place w.shape (map_of_key w.shape k) j))) && eqb (entry_group (entry (page_of_place w.shape (map_of_key w.shape k) j))) (group_of k).0) ≡ false)
        → (i j : ℕ) → i < w.shape.maps → j < pages_per_map → is_used (entry (page_of_place w.shape i j)) ≡ true → entry_group (entry (page_of_place w.shape i j)) ≢ (group_of k).0
    none entry home f i j lt le u e =
        let z : i ≡ map_of_key w.shape k = sym (home i j lt le u) ∙ ap (λ g. map_of_group w.shape (record { 0 = g })) e in
        let u' : (is_used (entry (page_of_place w.shape (map_of_key w.shape k) j))) ≡ true = subst (λ t. (is_used (entry (page_of_place w.shape t j))) ≡ true) z u in
        let e' : (entry_group (entry (page_of_place w.shape (map_of_key w.shape k) j))) ≡ (group_of k).0 = subst (λ t. (entry_group (entry (page_of_place w.shape t j))) ≡ (group_of k).0) z e in
        both_ways ((is_used (entry (page_of_place w.shape (map_of_key w.shape k) j))) && eqb (entry_group (entry (page_of_place w.shape (map_of_key w.shape k) j))) (group_of k).0) (f j le)
        (and_from (is_used (entry (page_of_place w.shape (map_of_key w.shape k) j))) (eqb (entry_group (entry (page_of_place w.shape (map_of_key w.shape k) j))) (group_of k).0) u' (eq-eqb (entry_group (entry (page_of_place w.shape (map_of_key w.shape k) j))) (group_of k).0 e'))

    go : ((j : ℕ) × (j < pages_per_map) × (((is_used (a.entry (page_of_place w.shape (map_of_key w.shape k) j))) && eqb (entry_group (a.entry (page_of_place w.shape (map_of_key w.shape k) j))) (group_of k).0) ≡ true))
        ⊎ ((j : ℕ) → j < pages_per_map → ((is_used (a.entry (page_of_place w.shape (map_of_key w.shape k) j))) && eqb (entry_group (a.entry (page_of_place w.shape (map_of_key w.shape k) j))) (group_of k).0) ≡ false) → r k ≡ q k
    go (inl (j, le, e)) =
        let parts = and_parts (is_used (a.entry (page_of_place w.shape (map_of_key w.shape k) j))) (eqb (entry_group (a.entry (page_of_place w.shape (map_of_key w.shape k) j))) (group_of k).0) e in
        let g : (entry_group (a.entry (page_of_place w.shape (map_of_key w.shape k) j))) ≡ (group_of k).0 = eqb-true (entry_group (a.entry (page_of_place w.shape (map_of_key w.shape k) j))) (group_of k).0 parts.1 in
        let s = same (map_of_key w.shape k) j low le in
        let g' : (entry_group (b.entry (page_of_place w.shape (map_of_key w.shape k) j))) ≡ (group_of k).0 = ap (λ (t : MapEntry). (entry_group t)) (sym s) ∙ g in
        let va = a.keys.value (map_of_key w.shape k) j (slot_of_key k) low le (omega arith) parts.0 in
        let vb = b.keys.value (map_of_key w.shape k) j (slot_of_key k) low le (omega arith) (ap (λ (t : MapEntry). (is_used t)) (sym s) ∙ parts.0) in
        let d = (determined w logs a.guard b.guard a.entry b.entry a.image b.image a.settled b.settled a.lock b.lock a.stands b.stands (page_of_place w.shape (map_of_key w.shape k) j) (omega (arith, low))).1 (slot_of_key k) in
        ap r (sym (split (entry_group (a.entry (page_of_place w.shape (map_of_key w.shape k) j))) g)) ∙ (va ∙ (d ∙ (sym vb ∙ ap q (split (entry_group (b.entry (page_of_place w.shape (map_of_key w.shape k) j))) g'))))
    go (inr f) =
        a.keys.absent k (none a.entry a.keys.home f)
        ∙ sym (b.keys.absent k (none b.entry b.keys.home (λ j le. ap (λ (t : MapEntry). (is_used t) && eqb (entry_group t) (group_of k).0) (sym (same (map_of_key w.shape k) j low le)) ∙ f j le)))
