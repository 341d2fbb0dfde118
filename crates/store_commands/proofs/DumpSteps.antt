-- What a dump has done of the machine, part by part.
use Rattle.std.specs.Prelude.{◌≡◌, ◌<◌, ◌∷◌, [], ⊤, ℕ, true, false, All, List, Option, Some, None, Result, Ok, Err, IfErr, IfOk, IfSome, IsOk, OnOk, refl}
use Rattle.std.proofs.Common.{arith, inl, inr, subst, sym, ◌∙◌}
use Rattle.std.proofs.lemmas.List.Elements.{All-cons, All-nil}
use Rattle.sd_base.specs.Places.{map_of_data, map_of_key}
use Rattle.sd_base.proofs.PlaceLaws.{map_of_key-below}
use Rattle.sd_base.specs.declared.device.NodeId.{NodeId}
use Rattle.script_text.specs.declared.reply.Reply.{Reply}
use Rattle.script_text.specs.declared.reply.Reply.TheVariants as says
use Rattle.record_machine.specs.Commands.{takes_both}
use Rattle.record_machine.specs.Machine.{Machine, home, is_up}
use Rattle.record_machine.specs.Meaning.{ArePages, Plain}
use Rattle.record_machine.specs.Parts.{Take, dos, one}
use Rattle.record_machine.specs.Rows.{IsInUse}
use Rattle.record_machine.specs.Steps.{AreMapped, HoldsItsMap, NextOrStop, TakesPages, held, held_page, take_all}
use Rattle.record_machine.proofs.Homes.{map_of_home}
use Rattle.record_machine.proofs.Put.{put_same}
use Rattle.store_nodes.specs.Ports.{UnlessStop, says_stop}
use Rattle.store_commands.specs.declared.dumping.Row.{Row}
use Rattle.store_commands.specs.Dumps.{DumpsOn, IsFirstRecord, reply_row}
use Rattle.store_commands.specs.Taking.{UnlessHeld, WhereHeld}
use Rattle.store_commands.proofs.Stopping.{unless_err, unless_failed, unless_ok}
use Rattle.store_commands.proofs.TakeSteps.{page_step, some_then}
use Rattle.store_commands.proofs.TakenAll.{behind_taken, held_found, held_then, some_takes, takes_then}

-- ---- pages were taken, or one of them is held

dumped : {T : Type 0} (m : Machine) (n : NodeId) (pages : List ℕ) (r : Result T Reply) (S : Machine → Type 0) (P : T → Type 0) → All (IsInUse m) pages → AreMapped m (take_all n.0 pages) → UnlessStop r (UnlessHeld m (take_all n.0 pages) r S (IsOk r × S (dos (take_all n.0 pages) m))) → IfOk r P → UnlessStop r (DumpsOn m n r S P)
dumped {T} m n pages (Ok value) S P in_use mapped was p = by (held m (take_all n.0 pages)) refl was
  where
    by : (o : Option Reply) → held m (take_all n.0 pages) ≡ o → WhereHeld {T = T} o m (take_all n.0 pages) (Ok value) S (IsOk {T = T} {E = Reply} (Ok value) × S (dos (take_all n.0 pages) m)) → DumpsOn {T = T} m n (Ok value) S P
    by None free was = (p, record { pages = pages; in_use = in_use; mapped = mapped; free = free; after = was.1 })
    by (Some why) is was = let never : ◌≡◌ {A = Result T Reply} (Ok value) (Err why) = was.0 in cc
dumped {T} m n pages (Err why) S P in_use mapped was p = λ runs. by (held m (take_all n.0 pages)) refl (was runs)
  where
    by : (o : Option Reply) → held m (take_all n.0 pages) ≡ o → WhereHeld {T = T} o m (take_all n.0 pages) (Err why) S (IsOk {T = T} {E = Reply} (Err why) × S (dos (take_all n.0 pages) m)) → DumpsOn {T = T} m n (Err why) S P
    by None free was = let never : false ≡ true = was.0 in absurd cc
    by (Some other) is was =
        let both : ◌≡◌ {A = Result T Reply} (Err why) (Err other) = was.0 in
        let same : other ≡ why = cc in
        let found = held_found m n.0 pages other in_use is in
        subst (λ w. DumpsOn {T = T} m n (Err w) S P) (sym found.2 ∙ same) (found.3, some_takes m n pages S in_use mapped was.1)

-- ---- the pages of a group

abbrev pages_both : Machine → ℕ → Option ℕ → List ℕ
pages_both m key None = map_of_key m.shape key ∷ []
pages_both m key (Some x) = map_of_key m.shape key ∷ x ∷ []

as_pages : (m : Machine) (n key : ℕ) (o : Option ℕ) → takes_both m n key o ≡ take_all n (pages_both m key o)
as_pages m n key None = refl
as_pages m n key (Some x) = refl

-- a map page needs no other one
map_alone : (m : Machine) (n x : ℕ) → x < m.shape.maps → HoldsItsMap m n x
map_alone m n x near = λ far. absurd (omega (arith, near, far))

module _ (p : Plain) (m : Machine) (key : ℕ) (pages : ArePages p m) where
  abbrev map_page : ℕ
  map_page = map_of_key m.shape key

  map_in_use : IsInUse m map_page
  map_in_use = inl (map_of_key-below m.shape key pages.shape)

  both_in_use : (o : Option ℕ) → home m key ≡ o → All (IsInUse m) (pages_both m key o)
  both_in_use None is = All-cons (IsInUse m) map_page [] map_in_use (All-nil (IsInUse m))
  both_in_use (Some x) is = All-cons (IsInUse m) map_page (x ∷ []) map_in_use (All-cons (IsInUse m) x [] (inr (key, is)) (All-nil (IsInUse m)))

  both_mapped : (n : ℕ) (o : Option ℕ) → home m key ≡ o → AreMapped m (take_all n (pages_both m key o))
  both_mapped n None is = (map_alone m n map_page (map_of_key-below m.shape key pages.shape), tt)
  both_mapped n (Some x) is = (map_alone m n map_page (map_of_key-below m.shape key pages.shape), ((λ far. put_same map_page (Some n) m.hold (map_of_data m.shape (record { 0 = x })).0 (map_of_home p m key x pages is)), tt))

-- ---- one part behind another

pub dumps_then : {T : Type 0} (m : Machine) (n : NodeId) (r : Result T Reply) (S R : Machine → Type 0) (P Q : T → Type 0) → is_up (m.mode n.0) ≡ true → (first : TakesPages m n S)
    → ((value : T) → P value → Q value) → UnlessStop r (DumpsOn (dos (take_all n.0 first.pages) m) n r R P) → UnlessStop r (DumpsOn m n r R Q)
dumps_then m n (Ok value) S R P Q up first then was = (then value was.0, takes_then m n S up first R was.1)
dumps_then {T} m n (Err why) S R P Q up first then was = λ runs. by why (was runs)
  where
    by : (why : Reply) → DumpsOn {T = T} (dos (take_all n.0 first.pages) m) n (Err why) R P → DumpsOn {T = T} m n (Err why) R Q
    by (says.Held x h) is = (held_then m n S up first x.0 h.0 is.0, takes_then m n S up first R is.1)
    by why is = absurd is

-- an error that is passed on
pub dumps_pass : {T U : Type 0} (m : Machine) (n : NodeId) (r : Result T Reply) (r' : Result U Reply) (why : Reply) (S : Machine → Type 0) (P : T → Type 0) (Q : U → Type 0) → r ≡ Err why → r' ≡ Err why → UnlessStop r (DumpsOn m n r S P) → UnlessStop r' (DumpsOn m n r' S Q)
dumps_pass {T} {U} m n r r' why S P Q fails out was =
    unless_failed r' why out (λ runs. subst (λ f. DumpsOn m n f S Q) (sym out) (by why (subst (λ f. DumpsOn m n f S P) fails (unless_err r why fails runs was))))
  where
    by : (why : Reply) → DumpsOn {T = T} m n (Err why) S P → DumpsOn {T = U} m n (Err why) S Q
    by (says.Held x h) is = is
    by why is = absurd is

-- what was done holds what it says of its value
pub dumps_done : {T : Type 0} (m : Machine) (n : NodeId) (r : Result T Reply) (value : T) (S : Machine → Type 0) (P : T → Type 0) → r ≡ Ok value → UnlessStop r (DumpsOn m n r S P) → P value × TakesPages m n S
dumps_done m n r value S P done was = subst (λ f. DumpsOn m n f S P) done (unless_ok r value done was)

-- ---- one map page behind others

ok_any : {T : Type 0} (r : Result T Reply) → IfOk r (λ value. ⊤)
ok_any (Ok value) = tt
ok_any (Err why) = tt

pub page_dumped : (m : Machine) (n : NodeId) (x : ℕ) (o : Option Reply) (r : Result (Unit {0}) Reply) (S R : Machine → Type 0) → is_up (m.mode n.0) ≡ true → (first : TakesPages m n S) → x < m.shape.maps
    → ((k : Machine) → S k → held_page k x ≡ o) → IfSome o (λ why. (r ≡ Err why) × ((k : Machine) → S k → R k)) → ((k : Machine) → S k → o ≡ None → IfErr r (λ why. says_stop why ≡ true)) → ((k : Machine) → S k → OnOk r (R (one (Take x n.0) k)))
    → UnlessStop r (DumpsOn m n r R (λ done. ⊤))
page_dumped m n x o r S R up first near refused held stopped shows =
    let k = dos (take_all n.0 first.pages) m in
    let still : x < k.shape.maps = behind_taken (λ j. x < j.shape.maps) n.0 first.pages m (λ hold loose is. is) near in
    dumps_then m n r S R (λ done. ⊤) (λ done. ⊤) up first (λ value is. tt)
    (dumped k n (x ∷ []) r R (λ done. ⊤) (All-cons (IsInUse k) x [] (inl still) (All-nil (IsInUse k))) (map_alone k n.0 x still, tt)
    (page_step k x n.0 o r R (refused k first.after) (some_then o (λ why. (r ≡ Err why) × ((j : Machine) → S j → R j)) (λ why. (r ≡ Err why) × R k) held (λ why both. (both.0, both.1 k first.after))) (stopped k first.after) (shows k first.after))
    (ok_any r))

-- the pages of a group, of which nothing is asked yet
pub group_dumped : {T : Type 0} (p : Plain) (m : Machine) (n : NodeId) (key : ℕ) (r : Result T Reply) (S : Machine → Type 0) → ArePages p m
    → UnlessStop r (UnlessHeld m (takes_both m n.0 key (home m key)) r S (IsOk r × S (dos (takes_both m n.0 key (home m key)) m))) → UnlessStop r (DumpsOn m n r S (λ value. ⊤))
group_dumped p m n key r S pages was =
    dumped m n (pages_both m key (home m key)) r S (λ value. ⊤) (both_in_use p m key pages (home m key) refl) (both_mapped p m key pages n.0 (home m key) refl)
    (subst (λ ps. UnlessStop r (UnlessHeld m ps r S (IsOk r × S (dos ps m)))) (as_pages m n.0 key (home m key)) was) (ok_any r)

-- what follows of the value of a call that was done
pub value_then : {T : Type 0} (r : Result T Reply) (P Q : T → Type 0) → IfOk r P → ((value : T) → P value → Q value) → IfOk r Q
value_then (Ok value) P Q p then = then value p
value_then (Err why) P Q p then = tt

pub of_ok : {T : Type 0} {P : Type 0} (r : Result T Reply) (value : T) → r ≡ Ok value → OnOk r P → P
of_ok (Ok other) value is p = p
of_ok (Err why) value is p = cc

-- ---- the whole

pub row_step : (m : Machine) (n : NodeId) (first : ℕ) (r : Result (Option Row) Reply) (S : Machine → Type 0) → UnlessStop r (DumpsOn m n r S (IsFirstRecord m first)) → UnlessStop r (NextOrStop m n first (reply_row r) S)
row_step m n first (Ok (Some row)) S was = was
row_step m n first (Ok None) S was = was
row_step m n first (Err why) S was = λ runs. by why (was runs)
  where
    by : (why : Reply) → DumpsOn {T = Option Row} m n (Err why) S (IsFirstRecord m first) → NextOrStop m n first why S
    by (says.Held x h) is = is
    by why is = absurd is
