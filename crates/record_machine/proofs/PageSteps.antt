-- The pages after a step.
use Rattle.std.specs.Prelude.{◌≡◌, ◌≢◌, ◌==◌, ◌+◌, ◌≤◌, ◌<◌, ℕ, Bool, true, false, List, Option, Some, None, replicate, slice_index_or, ◌⊎◌, refl}
use Rattle.std.proofs.Common.{arith, inl, inr, ap, subst, sym, ◌∙◌}
use Rattle.std.proofs.lemmas.Bool.{cases_eq}
use Rattle.sd_base.specs.declared.names.TxnId.{TxnId}
use Rattle.sd_base.specs.Shape.{page_count}
use Rattle.sd_base.specs.Places.{page_of_place, slot_of_key}
use Rattle.page_image.specs.declared.page_view.PageView.{PageView}
use Rattle.compensation.specs.Inverse.{content}
use Rattle.log_record.specs.declared.record.LogRecord.{LogRecord}
use Rattle.log_record.specs.declared.record.LogRecord.TheVariants.{Begin}
use Rattle.space_map.specs.declared.map_entry.MapEntry.TheVariants.{Free}
use Rattle.space_map.specs.Entry.{ident_of}
use Rattle.record_machine.specs.Machine.{Deed, Machine, Write, home, put}
use Rattle.record_machine.specs.Parts.{done_by, one, Change}
use Rattle.record_machine.specs.Meaning.{ArePages, IsChangedAt, IsPresent, Plain, logged, with_page}
use Rattle.record_machine.proofs.Deeds.{writes_none, writes_other}
use Rattle.record_machine.proofs.DeedSteps.{deed, present_kept, present_now}
use Rattle.record_machine.proofs.Homes.{free_is_no_home, home_is_data, one_group}
use Rattle.record_machine.proofs.RestSteps.{pages_rest}
use Rattle.record_machine.proofs.Put.{at_or_off, put_other, put_same}

-- ---- a transaction begins

pub pages_begun : (t : TxnId) (p : Plain) (m : Machine) → ArePages p m → ArePages (logged t.node.0 Begin p) (done_by t None m)
pages_begun t p m was = record {
  shape = was.shape;
  count = was.count;
  map_number = was.map_number;
  number = was.number;
  entries = was.entries;
  map_ident = was.map_ident;
  ident = was.ident;
  alive = was.alive;
  unused = was.unused;
  present = λ key x is. present_kept t None m key (content (p.pages x) (slot_of_key key)) (λ seat. writes_none seat key (deed t None m) refl) (was.present key x is);
  absent = was.absent;
}

-- ---- a slot of a page is written

-- where this value is then the present one of the key, and those of the other keys are as before
pub pages_written : (key x n : ℕ) (value : Option (List ℕ)) (pending : ℕ → List Deed) (tail : ℕ → ℕ) (p : Plain) (m : Machine) (rec : LogRecord) (v : PageView) → home m key ≡ Some x → IsChangedAt (slot_of_key key) value (p.pages x) v
    → IsPresent (record m { pending = pending; ident = put x (m.ident x + 1) m.ident; tail = tail }) key value
    → ((other : ℕ) (u : Option (List ℕ)) → key ≢ other → IsPresent m other u → IsPresent (record m { pending = pending; ident = put x (m.ident x + 1) m.ident; tail = tail }) other u)
    → ArePages p m → ArePages (logged n rec (with_page x v p)) (record m { pending = pending; ident = put x (m.ident x + 1) m.ident; tail = tail })
pages_written key x n value pending tail p m rec v here changed now kept was = record {
  shape = was.shape;
  count = was.count;
  map_number = was.map_number;
  number = λ y low high. by_number y low high;
  entries = was.entries;
  map_ident = λ y low. was.map_ident y low ∙ sym (put_other x (m.ident x + 1) m.ident y (λ same. let own = page.0 in omega (arith, same, own, low)));
  ident = λ y low high. by_ident y low high;
  alive = λ map place low small. at_or_off (λ o. ident_of (slice_index_or (m.entries map) place (Free 0)) ≤ o.ident) x v p.pages (page_of_place m.shape map place)
      (λ same. let old = was.alive map place low small in let more = changed.ident in let here : (p.pages (page_of_place m.shape map place)).ident ≡ (p.pages x).ident = ap (λ y. (p.pages y).ident) same in omega (arith, old, more, here))
      (λ other. was.alive map place low small);
  unused = λ map place ident low small free.
      let apart : page_of_place m.shape map place ≢ x = free_is_no_home p m key x map place ident was here small free in
      let old = was.unused map place ident low small free in
      subst (λ o. (o.ident ≡ ident) × (o.slots ≡ replicate 16 None)) (sym (put_other x v p.pages (page_of_place m.shape map place) apart)) old;
  present = λ other y is. by_present other y is;
  absent = was.absent;
}
  where
    after : Machine
    after = record m { pending = pending; ident = put x (m.ident x + 1) m.ident; tail = tail }

    page : (m.shape.maps ≤ x) × (x < page_count m.shape)
    page = home_is_data p m key x was here

    by_number : (y : ℕ) → m.shape.maps ≤ y → y < page_count m.shape → (put x v p.pages y).page.0 ≡ y
    by_number y low high = at_or_off (λ (o : PageView). o.page.0 ≡ y) x v p.pages y (λ same. ap (λ o. o.0) changed.page ∙ was.number x page.0 page.1 ∙ sym same) (λ other. was.number y low high)

    by_ident : (y : ℕ) → m.shape.maps ≤ y → y < page_count m.shape → (put x v p.pages y).ident ≡ put x (m.ident x + 1) m.ident y
    by_ident y low high = by (y == x) refl
      where
        by : (b : Bool) → (y == x) ≡ b → (put x v p.pages y).ident ≡ put x (m.ident x + 1) m.ident y
        by true is = rw is (changed.ident ∙ ap (λ n. n + 1) (was.ident x page.0 page.1))
        by false is = rw is (was.ident y low high)

    by_present : (other y : ℕ) → home m other ≡ Some y → IsPresent after other (content (put x v p.pages y) (slot_of_key other))
    by_present other y is = elim (cases_eq key other) [
      | inl same ↦
          let one_page : Some x ≡ Some y = sym here ∙ ap (home m) same ∙ is in
          let page : y ≡ x = cc in
          let written : content (put x v p.pages y) (slot_of_key other) ≡ value = ap (λ o. content o (slot_of_key other)) (put_same x v p.pages y page) ∙ ap (λ k. content v (slot_of_key k)) (sym same) ∙ changed.here in
          subst (IsPresent after other) (sym written) (subst (λ k. IsPresent after k value) same now)
      | inr apart ↦ subst (IsPresent after other) (sym (stays apart (cases_eq y x))) (kept other (content (p.pages y) (slot_of_key other)) apart (was.present other y is))
    ]
      where
        stays : key ≢ other → (y ≡ x) ⊎ (y ≢ x) → content (put x v p.pages y) (slot_of_key other) ≡ content (p.pages y) (slot_of_key other)
        stays apart (inl page) =
            let group = one_group p m key other y was (here ∙ ap Some (sym page)) is in
            ap (λ o. content o (slot_of_key other)) (put_same x v p.pages y page) ∙ changed.others (slot_of_key other) (λ e. apart (omega (arith, e, group))) ∙ ap (λ z. content (p.pages z) (slot_of_key other)) (sym page)
        stays apart (inr page) = ap (λ o. content o (slot_of_key other)) (put_other x v p.pages y page)

-- as a transaction writes a record
pub pages_changed : (t : TxnId) (w : Write) (p : Plain) (m : Machine) (rec : LogRecord) (v : PageView) → home m w.key ≡ Some w.page → IsChangedAt (slot_of_key w.key) w.value (p.pages w.page) v → ArePages p m → ArePages (logged t.node.0 rec (with_page w.page v p)) (one (Change t w) m)
pages_changed t w p m rec v here changed was =
    pages_rest (logged t.node.0 rec (with_page w.page v p)) (done_by t (Some w) raised) m.mode m.reopening m.hold m.first (one (Change t w) m).loose m.gone
    (pages_written w.key w.page t.node.0 w.value (one (Change t w) m).pending (one (Change t w) m).tail p m rec v here changed
    (present_now t w raised)
    (λ other u apart. present_kept t (Some w) raised other u (λ seat. writes_other seat other (deed t (Some w) raised) w refl apart))
    was)
  where
    raised : Machine
    raised = record m { ident = put w.page (m.ident w.page + 1) m.ident }
