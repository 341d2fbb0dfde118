-- The first state.
use Rattle.std.proofs.Common.{◌≡◌, inl, ℕ, zero, suc, ◌≤◌, Bool, true, false, cond, ltb, [], take, refl, ap, sym, ◌∙◌, arith, None, le-ltb, lt-ltb}
use Rattle.std.proofs.Common.{◌⊎◌, inr, ◌<◌, slice_index_or}
use Rattle.std.proofs.lemmas.Bool.{cases_lt}
use Rattle.std.proofs.lemmas.List.{get_or-replicate}
use Rattle.sd_base.specs.Places.{page_of_place}
use Rattle.sd_base.specs.Shape.{pages_per_map}
use Rattle.sd_base.specs.declared.shape.Shape.{Shape}
use Rattle.space_map.specs.Image.{birth_map}
use Rattle.log_record.specs.declared.record.LogRecord.{LogRecord}
use Rattle.recovery_theory.specs.History.{logs_at}
use Rattle.recovery_theory.specs.Pages.{page_named, entries_of, birth_of, slots_of, IsImageOf, blank, formatted_page}
use Rattle.recovery_theory.specs.Standing.{IsStanding, PageChain}
use Rattle.recovery_theory.specs.Steps.{started, FormattedIsHistory}
use Rattle.space_map.specs.declared.map_entry.MapEntry.{MapEntry}
use Rattle.space_map.specs.declared.map_entry.MapEntry.TheVariants.{Free}
use Rattle.recovery_theory.proofs.Cuts.{stands_ext}
use Rattle.recovery_theory.proofs.PageLaws.{in_life_from-same, slots-blank}
use Rattle.recovery_theory.proofs.OpenUpdates.{transaction}
use Rattle.space_map.specs.PageImage.{PageImage, ident_of, map_page}

-- each entry of a map page as it is born
pub entries-birth : (x b q : ℕ) → q < pages_per_map → slice_index_or (birth_map (page_named x) b).entries q (Free 0) ≡ Free b
entries-birth x b q lt = get_or-replicate 252 q (Free b) (Free 0) lt

module _ (s : Shape) where
  abbrev entry : ℕ → MapEntry
  entry x = Free (cond (ltb x s.maps) 0 s.birth)

  nothing : (k : ℕ) → [] ≡ take {A = LogRecord} k []
  nothing zero = refl
  nothing (suc k) = refl

  ident : (x : ℕ) → ident_of (formatted_page s x) ≡ s.birth
  ident x = go (ltb x s.maps)
    where
      go : (t : Bool) → ident_of (cond t (map_page (birth_map (page_named x) s.birth)) (blank x s.birth)) ≡ s.birth
      go true = refl
      go false = refl

  pub low : (x : ℕ) → cond (ltb x s.maps) 0 s.birth ≤ ident_of (formatted_page s x)
  low x = go (ltb x s.maps)
    where
      go : (t : Bool) → cond t 0 s.birth ≤ ident_of (cond t (map_page (birth_map (page_named x) s.birth)) (blank x s.birth))
      go true = omega arith
      go false = omega arith

  page : (x : ℕ) → PageChain (started s).devices (λ n. []) (cond (ltb x s.maps) 0 s.birth) (formatted_page s x) x 0
  page x = record {
    shown = formatted_page s x;
    disk = sym (in_life_from-same x (cond (ltb x s.maps) 0 s.birth) (formatted_page s x) (low x));
    chain = rw (in_life_from-same x (cond (ltb x s.maps) 0 s.birth) (formatted_page s x) (low x)) (record { old = []; new = []; linked = λ n. refl; same = refl; near = λ n. refl; whole = refl; rising = tt });
    gap = λ n. refl;
    rises = λ n. tt;
  }

  shaped : (x : ℕ) → IsImageOf s x (formatted_page s x)
  shaped x = go (cases_lt x s.maps)
    where
      go : (x < s.maps) ⊎ (s.maps ≤ x) → IsImageOf s x (formatted_page s x)
      go (inl lt) = rw (lt-ltb x s.maps lt) (lt, refl, refl)
      go (inr le) = rw (le-ltb x s.maps le) (le, refl, refl)

  empty : (x k : ℕ) → slots_of (formatted_page s x) k ≡ None
  empty x k = go (ltb x s.maps)
    where
      go : (t : Bool) → slots_of (cond t (map_page (birth_map (page_named x) s.birth)) (blank x s.birth)) k ≡ None
      go true = refl
      go false = slots-blank x s.birth k

  lives : (m q : ℕ) → m < s.maps → q < pages_per_map → entry (page_of_place s m q) ≡ entries_of (formatted_page s m) q
  lives m q lt le = rw (le-ltb (page_of_place s m q) s.maps (omega arith), lt-ltb m s.maps lt) (sym (entries-birth m s.birth q le))

  standing : IsStanding (started s).devices (λ n. []) (λ x. 0) entry (formatted_page s) (λ x k. None) (λ x k. None)
  standing = record {
    pages = page;
    shaped = shaped;
    slots = λ x k. (transaction 0 0, record { alone = λ o d. refl; value = sym (empty x k) });
    locks = λ x k o h. absurd (h refl);
    map_pages = λ x lt. rw (lt-ltb x s.maps lt) refl;
    lives = lives;
    unused = λ x le free. rw (le-ltb x s.maps le) refl;
    ordered = λ n. tt;
    apart = λ m q n i lt le d e. inl (let e' : formatted_page s m ≡ i = cc in sym (ap birth_of (lives m q lt le ∙ ap (λ (j : PageImage). entries_of j q) e')));
  }

pub starts : FormattedIsHistory
starts s = record {
  sound = λ n. omega arith;
  steady = λ y k l h. (refl, refl);
  stands = λ cut is. stands_ext (started s).devices (λ n. []) (logs_at (started s) cut) (λ x. 0) (entry s) (entry s) (formatted_page s) (formatted_page s) (λ x k. None) (λ x k. None)
      (λ m. nothing s (cut m)) (λ y. refl) (λ y. refl) (standing s);
}
