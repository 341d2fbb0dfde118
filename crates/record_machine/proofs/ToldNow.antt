-- What the whole logs and the present pages tell of the machine.
use Rattle.std.proofs.Common.{◌≡◌, ◌⊎◌, inl, inr, ◌+◌, ◌<◌, ◌≤◌, ℕ, Bool, true, List, [], length, ap, sym, subst, ◌∙◌, arith, Some, None, slice_index_or}
use Rattle.std.specs.List.{list_any}
use Rattle.std.proofs.lemmas.Bool.{cases_lt}
use Rattle.sd_base.specs.declared.names.Key.{Key}
use Rattle.sd_base.specs.Places.{page_of_place, slot_of_key}
use Rattle.sd_base.specs.Shape.{page_count, pages_per_map}
use Rattle.space_map.specs.declared.map_entry.MapEntry.TheVariants.{Free}
use Rattle.space_map.specs.declared.map_entry.MapEntry.{MapEntry}
use Rattle.space_map.specs.Image.{MapImage}
use Rattle.space_map.specs.PageImage.{PageImage, data_page, ident_of, map_page}
use Rattle.log_record.specs.declared.record.LogRecord.{LogRecord}
use Rattle.recovery_theory.specs.Effect.{OpenUpdate, left_of, listed, of_slot}
use Rattle.recovery_theory.specs.History.{History, entry_at, entry_now, image_at, image_now, logs_at}
use Rattle.recovery_theory.specs.Pages.{entries_of}
use Rattle.recovery_theory.specs.Standing.{IsStanding, with_updates}
use Rattle.record_machine.specs.Cuts.{TellsLog, seat_of}
use Rattle.record_machine.specs.Machine.{Machine, home, is_begin_in, overlaid}
use Rattle.record_machine.specs.Meaning.{AreLogged, Means, Plain, first_record, writes_key}
use Rattle.record_machine.specs.Recoverable.{Recoverable}
use Rattle.record_machine.proofs.HomePlaces.{settled_there}
use Rattle.record_machine.proofs.RecoverableEnds.{seen_is}

-- the entries of a map page
abbrev entries_in : PageImage → List MapEntry
entries_in (data_page v) = []
entries_in (map_page i) = i.entries

-- what is written is written by transactions that are open
abbrev pub AreOpened : Machine → Type 0
AreOpened m = (j seat key : ℕ) → list_any (writes_key seat key) (m.pending j) ≡ true → list_any (is_begin_in seat) (m.pending j) ≡ true

module _ (dirty : ℕ → Bool) (h : History) (p : Plain) (m : Machine) (r : Recoverable dirty h p m) (means : Means p m) where
  abbrev end : ℕ → ℕ
  end k = length (h.live k)

  pub standing : IsStanding h.devices (logs_at h end) h.guard (entry_at h end) (image_at h end) h.settled h.lock
  standing = r.holds.history.stands end (λ k. (r.holds.history.sound k, omega arith))

  pub ident_now : (x : ℕ) → x < page_count m.shape → m.ident x ≡ ident_of (image_now h x)
  ident_now x lt = go (cases_lt x m.shape.maps)
    where
      go : (x < m.shape.maps) ⊎ (m.shape.maps ≤ x) → m.ident x ≡ ident_of (image_now h x)
      go (inl low) = sym (means.pages.map_ident x low) ∙ ap ident_of (sym (r.maps x low))
      go (inr high) = sym (means.pages.ident x high lt) ∙ ap ident_of (sym (r.pages x high lt))

  maps_is : h.devices.shape.maps ≡ m.shape.maps
  maps_is = ap (λ z. z.maps) r.shape

  -- the entry of a place is the machine's
  pub tie_now : (k q : ℕ) → k < m.shape.maps → q < pages_per_map → entry_now h (page_of_place m.shape k q) ≡ slice_index_or (m.entries k) q (Free 0)
  tie_now k q lt le = subst (λ z. entry_now h (page_of_place z k q) ≡ entries_of (image_now h k) q) r.shape (standing.lives k q (omega (arith, lt, maps_is)) le)
      ∙ (ap (λ i. entries_of i q) (r.maps k lt) ∙ ap (λ es. slice_index_or es q (Free 0)) (means.pages.entries k lt))

  pub told_now : AreOpened m → (j : ℕ) → TellsLog m r.begun j (h.devices.first j) (h.live j) (m.pending j)
  told_now opened j = record {
    deeds = subst (λ l. AreLogged (h.devices.first j) l (λ seat. m.records) (m.pending j)) (sym (r.live j)) (subst (λ f. AreLogged f (p.live j) (λ seat. m.records) (m.pending j)) (sym (r.first j)) (means.logs.deeds j));
    rising = means.logs.rising j;
    homes = means.logs.homes (seat_of j 0);
    locked = λ seat key any. means.locked.written (seat_of j seat) key any;
    opened = opened j;
    still = λ seat b. b;
    seats = λ seat b. r.seats (seat_of j seat) b;
    opens = λ txn left e. (let z = r.opens j txn left e in (z.who.seat, subst (λ k. list_any (is_begin_in z.who.seat) (m.pending k) ≡ true) z.node z.busy, subst (λ k. r.begun k z.who.seat ≡ txn) z.node z.begins));
    seen = seen;
  }
    where
      seen : (seat : ℕ) (key : Key) (x : ℕ) (left : List OpenUpdate) → list_any (writes_key seat key.0) (m.pending j) ≡ true → home m key.0 ≡ Some x → left_of (r.begun j seat) (h.devices.first j) (h.live j) None ≡ Some left
          → overlaid seat key.0 (m.records key.0) (m.pending j) ≡ with_updates (of_slot x (slot_of_key key.0) left) (m.records key.0)
      seen seat key x left any is going = seen_is dirty h p m (seat_of j seat) r means (opened j seat key.0 any) key x is (settled_there h m.records m r.holds r.shape means.pages.shape means.pages.count tie_now key.0 x is)
          ∙ ap (λ o. with_updates (of_slot x (slot_of_key key.0) (listed o)) (m.records key.0)) going

  pub tail_now : (j : ℕ) → m.tail j ≡ first_record m j + length (h.live j)
  tail_now j = means.logs.tail j ∙ ap (λ (l : List LogRecord). first_record m j + length l) (sym (r.live j))

  pub entries_now : (x : ℕ) (map : MapImage) → x < m.shape.maps → image_now h x ≡ map_page map → m.entries x ≡ map.entries
  entries_now x map lt e = sym (means.pages.entries x lt) ∙ ap entries_in (sym (r.maps x lt) ∙ e)
