-- What a stop takes back, change by change: each part of it depends on what it changes alone.
use Rattle.std.specs.Prelude.{◌≡◌, ◌==◌, ◌||◌, ◌++◌, ◌∷◌, [], ℕ, Bool, true, false, List, Option, Some, None, if◌then◌else◌, refl}
use Rattle.std.specs.List.{list_any}
use Rattle.std.proofs.Common.{ap, sym, ◌∙◌, eq-eqb}
use Rattle.space_map.specs.declared.map_entry.MapEntry.{MapEntry}
use Rattle.record_machine.specs.Cuts.{is_of_map, touches}
use Rattle.record_machine.specs.Machine.{Deed, EntriesBefore, IdentBefore, LooseChange, put}
use Rattle.record_machine.specs.Parts.{is_of_page}
use Rattle.record_machine.specs.Stops.{entries_before, ident_before, pending_before, tail_before, with_entries, with_idents}
use Rattle.record_machine.proofs.Put.{put_other, put_same}

-- neither this test nor that one holds
pub neither : (a b : Bool) → (a || b) ≡ false → (a ≡ false) × (b ≡ false)
neither true b is = cc
neither false b is = (refl, is)

-- ---- two states that agree where it looks

pub pending_agrees : (n : ℕ) (cs : List LooseChange) (f g : ℕ → List Deed) → f n ≡ g n → pending_before n cs f n ≡ pending_before n cs g n
pending_agrees n [] f g e = e
pending_agrees n (c ∷ cs) f g e = put_same n c.pending (pending_before n cs f) n refl ∙ sym (put_same n c.pending (pending_before n cs g) n refl)

pub tail_agrees : (n : ℕ) (cs : List LooseChange) (f g : ℕ → ℕ) → f n ≡ g n → tail_before n cs f n ≡ tail_before n cs g n
tail_agrees n [] f g e = e
tail_agrees n (c ∷ cs) f g e = put_same n c.number (tail_before n cs f) n refl ∙ sym (put_same n c.number (tail_before n cs g) n refl)

idents_agree : (x : ℕ) (is : List IdentBefore) (f g : ℕ → ℕ) → f x ≡ g x → with_idents is f x ≡ with_idents is g x
idents_agree x [] f g e = e
idents_agree x (i ∷ is) f g e = go (x == i.page) (idents_agree x is f g e)
  where
    go : (b : Bool) → with_idents is f x ≡ with_idents is g x → (if b then i.ident else with_idents is f x) ≡ (if b then i.ident else with_idents is g x)
    go true h = refl
    go false h = h

pub ident_agrees : (x : ℕ) (cs : List LooseChange) (f g : ℕ → ℕ) → f x ≡ g x → ident_before cs f x ≡ ident_before cs g x
ident_agrees x [] f g e = e
ident_agrees x (c ∷ cs) f g e = idents_agree x c.idents (ident_before cs f) (ident_before cs g) (ident_agrees x cs f g e)

with_agrees : (x : ℕ) (o : Option EntriesBefore) (f g : ℕ → List MapEntry) → f x ≡ g x → with_entries o f x ≡ with_entries o g x
with_agrees x None f g e = e
with_agrees x (Some o) f g e = go (x == o.map)
  where
    go : (b : Bool) → (if b then o.entries else f x) ≡ (if b then o.entries else g x)
    go true = refl
    go false = e

pub entries_agree : (x : ℕ) (cs : List LooseChange) (f g : ℕ → List MapEntry) → f x ≡ g x → entries_before cs f x ≡ entries_before cs g x
entries_agree x [] f g e = e
entries_agree x (c ∷ cs) f g e = with_agrees x c.entries (entries_before cs f) (entries_before cs g) (entries_agree x cs f g e)

-- ---- pages that none of the changes touches

pub untouched : (x : ℕ) (cs : List LooseChange) → list_any (touches x) cs ≡ false → list_any (is_of_page x) cs ≡ false
untouched x [] off = refl
untouched x (c ∷ cs) off =
    let two = neither (touches x c) (list_any (touches x) cs) off in
    let own = neither (is_of_page x c) (is_of_map x c.entries) two.0 in
    rw own.0 (untouched x cs two.1)

pub entries_left : (x : ℕ) (cs : List LooseChange) (f : ℕ → List MapEntry) → list_any (touches x) cs ≡ false → entries_before cs f x ≡ f x
entries_left x [] f off = refl
entries_left x (c ∷ cs) f off =
    let two = neither (touches x c) (list_any (touches x) cs) off in
    one c.entries (neither (is_of_page x c) (is_of_map x c.entries) two.0).1 ∙ entries_left x cs f two.1
  where
    one : (o : Option EntriesBefore) → is_of_map x o ≡ false → with_entries o (entries_before cs f) x ≡ entries_before cs f x
    one None is = refl
    one (Some o) is = put_other o.map o.entries (entries_before cs f) x (λ same. let never : false ≡ true = sym is ∙ eq-eqb o.map x (sym same) in cc)

-- ---- one change more, the newest

pub pending_push : (n : ℕ) (cs : List LooseChange) (c : LooseChange) (f : ℕ → List Deed) → pending_before n (cs ++ c ∷ []) f ≡ pending_before n cs (put n c.pending f)
pending_push n [] c f = refl
pending_push n (e ∷ cs) c f = ap (put n e.pending) (pending_push n cs c f)

pub tail_push : (n : ℕ) (cs : List LooseChange) (c : LooseChange) (f : ℕ → ℕ) → tail_before n (cs ++ c ∷ []) f ≡ tail_before n cs (put n c.number f)
tail_push n [] c f = refl
tail_push n (e ∷ cs) c f = ap (put n e.number) (tail_push n cs c f)

pub ident_push : (cs : List LooseChange) (c : LooseChange) (f : ℕ → ℕ) → ident_before (cs ++ c ∷ []) f ≡ ident_before cs (with_idents c.idents f)
ident_push [] c f = refl
ident_push (e ∷ cs) c f = ap (with_idents e.idents) (ident_push cs c f)

pub entries_push : (cs : List LooseChange) (c : LooseChange) (f : ℕ → List MapEntry) → entries_before (cs ++ c ∷ []) f ≡ entries_before cs (with_entries c.entries f)
entries_push [] c f = refl
entries_push (e ∷ cs) c f = ap (with_entries e.entries) (entries_push cs c f)
