-- Some of the pages of what a transaction has written were taken, those of its newest writes.
use Rattle.std.specs.Prelude.{◌≡◌, ◌++◌, ◌∷◌, [], ℕ, false, List, Option, Some, None, Result, Ok, Err, IsOk, reverse, refl}
use Rattle.std.specs.List.{flat_map}
use Rattle.std.proofs.Common.{ap, subst, sym, ◌∙◌}
use Rattle.std.proofs.lemmas.List.{append-nil, append_assoc}
use Rattle.std.proofs.lemmas.List.Concat.{flat_map-append}
use Rattle.sd_base.specs.declared.names.PageNo.{PageNo}
use Rattle.sd_base.specs.declared.names.TxnId.{TxnId}
use Rattle.sd_base.specs.declared.shape.Shape.{Shape}
use Rattle.script_text.specs.declared.reply.Reply.{Reply}
use Rattle.record_machine.specs.Commands.{takes_back, takes_written}
use Rattle.record_machine.specs.Machine.{Deed, Machine, is_down, writes_of}
use Rattle.record_machine.specs.Parts.{Part, dos}
use Rattle.record_machine.specs.Steps.{held}
use Rattle.store_nodes.specs.Ports.{UnlessStop}
use Rattle.store_commands.specs.Aborts.{takes_page}
use Rattle.store_commands.specs.Taking.{UnlessHeld}
use Rattle.store_commands.proofs.NextWrites.{EndsWith, IsFirstOf}
use Rattle.store_commands.proofs.Stopping.{done_on, unless_err, unless_failed, unless_then}
use Rattle.store_commands.proofs.TakenStill.{writes_taken, written_take}
use Rattle.store_commands.proofs.Takings.{step_behind, step_front}

-- the pages of these writes
abbrev pub pages_of : Machine → TxnId → List Deed → List Part
pages_of m t ds = flat_map (takes_written m t.node.0) ds

-- Those of the newest ones, down to the one with this number, were taken, and none of them from a node that is down.
pub record HasTakenDown (m : Machine) (t : TxnId) (after : Option ℕ) (S : Machine → Type 0) : Type 0 where
  pub newer : List Deed
  pub older : List Deed
  pub parts : reverse (writes_of m t) ≡ newer ++ older
  pub ends : EndsWith after newer
  pub free : held m (pages_of m t newer) ≡ None
  pub shown : S (dos (pages_of m t newer) m)

pub none_down : (m : Machine) (t : TxnId) (S : Machine → Type 0) → S m → HasTakenDown m t None S
none_down m t S shown = record { newer = []; older = reverse (writes_of m t); parts = refl; ends = refl; free = refl; shown = shown }

module _ (m : Machine) (t : TxnId) (after : Option ℕ) (S : Machine → Type 0) (was : HasTakenDown m t after S) where
  abbrev pub now : Machine
  now = dos (pages_of m t was.newer) m

  pub parts_now : reverse (writes_of now t) ≡ was.newer ++ was.older
  parts_now = ap reverse (writes_taken t.node.0 (pages_of m t was.newer) m t (written_take m t.node.0 was.newer)) ∙ was.parts

  -- the next one's are taken, or one of them can't be
  module _ (number : ℕ) (x : PageNo) (s : Shape) (next : IsFirstOf was.older (Some (number, x))) (up : is_down (m.mode t.node.0) ≡ false) (shape : m.shape ≡ s) where
    abbrev d : Deed
    d = next.0

    abbrev rest : List Deed
    rest = next.2

    -- the pages that are taken
    these : takes_written m t.node.0 d ≡ takes_page s t.node.0 x
    these = of_write ∙ ap (λ z. takes_page z t.node.0 (record { 0 = next.1.page })) shape ∙ ap (λ k. takes_page s t.node.0 (record { 0 = k })) next.6
      where
        of_write : takes_written m t.node.0 d ≡ takes_page m.shape t.node.0 (record { 0 = next.1.page })
        of_write = let is : d.write ≡ Some next.1 = next.5 in rw is refl

    abbrev newer' : List Deed
    newer' = was.newer ++ d ∷ []

    pages' : pages_of m t newer' ≡ pages_of m t was.newer ++ takes_page s t.node.0 x
    pages' = flat_map-append (takes_written m t.node.0) was.newer (d ∷ []) ∙ ap (λ ps. pages_of m t was.newer ++ ps) (append-nil (takes_written m t.node.0 d) ∙ these)

    whole : takes_back m t ≡ (pages_of m t was.newer ++ takes_page s t.node.0 x) ++ pages_of m t rest
    whole =
        ap (pages_of m t) (was.parts ∙ ap (λ es. was.newer ++ es) next.3)
        ∙ flat_map-append (takes_written m t.node.0) was.newer (d ∷ rest)
        ∙ ap (λ ps. pages_of m t was.newer ++ (ps ++ pages_of m t rest)) these
        ∙ sym (append_assoc (pages_of m t was.newer) (takes_page s t.node.0 x) (pages_of m t rest))

    step : (r : Result (Unit {0}) Reply) (S' : Machine → Type 0) → UnlessHeld now (takes_page s t.node.0 x) r S' (IsOk r × S' (dos (takes_page s t.node.0 x) now))
        → UnlessHeld m (pages_of m t was.newer ++ takes_page s t.node.0 x) r S' (IsOk r × S' (dos (pages_of m t was.newer ++ takes_page s t.node.0 x) m))
    step r S' here = step_behind m t.node.0 (pages_of m t was.newer) (takes_page s t.node.0 x) r S' up (written_take m t.node.0 was.newer) was.free here

    pub next_down : (r : Result (Unit {0}) Reply) (S' : Machine → Type 0) → r ≡ Ok tt → UnlessStop r (UnlessHeld now (takes_page s t.node.0 x) r S' (IsOk r × S' (dos (takes_page s t.node.0 x) now))) → HasTakenDown m t (Some number) S'
    next_down r S' done here =
        let all = done_on m (pages_of m t was.newer ++ takes_page s t.node.0 x) r tt S' done (unless_then r (step r S') here) in
        record {
          newer = newer';
          older = rest;
          parts = was.parts ∙ ap (λ es. was.newer ++ es) next.3 ∙ sym (append_assoc was.newer (d ∷ []) rest);
          ends = (was.newer, d, refl, next.4);
          free = ap (held m) pages' ∙ all.0;
          shown = subst (λ ps. S' (dos ps m)) (sym pages') all.1;
        }

    pub next_failed : {U : Type 0} (Q : Type 0) (r : Result (Unit {0}) Reply) (r' : Result U Reply) (why : Reply) (S' : Machine → Type 0) → r ≡ Err why → r' ≡ Err why → UnlessStop r (UnlessHeld now (takes_page s t.node.0 x) r S' (IsOk r × S' (dos (takes_page s t.node.0 x) now)))
        → UnlessStop r' (UnlessHeld m (takes_back m t) r' S' Q)
    next_failed Q r r' why S' fails out here = unless_failed r' why out (λ runs.
        subst (λ ps. UnlessHeld m ps r' S' Q) (sym whole)
        (step_front _ Q m (pages_of m t was.newer ++ takes_page s t.node.0 x) (pages_of m t rest) r r' why S' fails out (step r S' (unless_err r why fails runs here))))

  -- there is none left: all are taken
  pub all_down : was.older ≡ [] → (S' : Machine → Type 0) → S' now → (held m (takes_back m t) ≡ None) × S' (dos (takes_back m t) m)
  all_down none S' shown =
      let all : takes_back m t ≡ pages_of m t was.newer = ap (pages_of m t) (was.parts ∙ ap (λ es. was.newer ++ es) none ∙ append-nil was.newer) in
      (ap (held m) all ∙ was.free, subst (λ ps. S' (dos ps m)) (sym all) shown)
