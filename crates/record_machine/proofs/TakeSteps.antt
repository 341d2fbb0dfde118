-- Pages that are taken change only who holds them.
use Rattle.std.specs.Prelude.{◌≡◌, ◌++◌, ◌∷◌, [], ⊤, ℕ, zero, suc, List, Option, Some, None, reverse, take, refl}
use Rattle.std.specs.List.{flat_map}
use Rattle.std.proofs.Common.{ap, ◌∙◌}
use Rattle.sd_base.specs.declared.names.TxnId.{TxnId}
use Rattle.script_text.specs.declared.command.Command.{Command}
use Rattle.script_text.specs.declared.command.Command.TheVariants as asks
use Rattle.record_machine.specs.Commands.{backs, parts, takes, takes_back, takes_both, takes_written, target}
use Rattle.record_machine.specs.Machine.{Deed, LooseChange, Machine, Write, home, put, writes_of}
use Rattle.record_machine.specs.Parts.{Part, Start, Take, Drop, Begin, Use, FreePlace, Lock, Change, Back, Seal, Unlock, Sure, dos, loose_after_take}
use Rattle.record_machine.proofs.BackSteps.{all_undone}
use Rattle.record_machine.proofs.Steps.{dos-then}

-- ---- lists of pages that are taken

abbrev AreTakes : List Part → Type 0
AreTakes [] = ⊤
AreTakes (Take x n ∷ ps) = AreTakes ps
AreTakes (Start n ∷ ps) = ⊥
AreTakes (Drop x ∷ ps) = ⊥
AreTakes (Begin t ∷ ps) = ⊥
AreTakes (Use n map place g ∷ ps) = ⊥
AreTakes (FreePlace n map place ∷ ps) = ⊥
AreTakes (Lock key t mode ∷ ps) = ⊥
AreTakes (Change t w ∷ ps) = ⊥
AreTakes (Back t ∷ ps) = ⊥
AreTakes (Seal t ∷ ps) = ⊥
AreTakes (Unlock t ∷ ps) = ⊥
AreTakes (Sure n ∷ ps) = ⊥

both_pages : (m : Machine) (n key : ℕ) (x : Option ℕ) → AreTakes (takes_both m n key x)
both_pages m n key None = tt
both_pages m n key (Some x) = tt

written_then : (m : Machine) (n : ℕ) (w : Option Write) (d : Deed) (ps : List Part) → d.write ≡ w → AreTakes ps → AreTakes (takes_written m n d ++ ps)
written_then m n None d ps is all = rw is all
written_then m n (Some w) d ps is all = rw is all

written_pages : (m : Machine) (n : ℕ) (ds : List Deed) → AreTakes (flat_map (takes_written m n) ds)
written_pages m n [] = tt
written_pages m n (d ∷ ds) = written_then m n d.write d (flat_map (takes_written m n) ds) refl (written_pages m n ds)

are_takes : (m : Machine) (c : Command) → AreTakes (takes m c)
are_takes m (asks.Get t key) = both_pages m t.node.0 key.0 (home m key.0)
are_takes m (asks.Put t key value) = both_pages m t.node.0 key.0 (target m key.0)
are_takes m (asks.Append t key bytes) = both_pages m t.node.0 key.0 (target m key.0)
are_takes m (asks.Del t key) = both_pages m t.node.0 key.0 (home m key.0)
are_takes m asks.Bad = tt
are_takes m (asks.Format s) = tt
are_takes m (asks.Start n) = tt
are_takes m (asks.Begin t) = tt
are_takes m (asks.Commit t) = tt
are_takes m (asks.Abort t) = written_pages m t.node.0 (reverse (writes_of m t))
are_takes m (asks.Flush n) = tt
are_takes m (asks.Dump n) = tt
are_takes m (asks.Stat n) = tt

some_of : (count : ℕ) (ps : List Part) → AreTakes ps → AreTakes (take count ps)
some_of zero ps all = tt
some_of (suc count) [] all = tt
some_of (suc count) (Take x n ∷ ps) all = some_of count ps all
some_of (suc count) (Start n ∷ ps) all = absurd all
some_of (suc count) (Drop x ∷ ps) all = absurd all
some_of (suc count) (Begin t ∷ ps) all = absurd all
some_of (suc count) (Use n map place g ∷ ps) all = absurd all
some_of (suc count) (FreePlace n map place ∷ ps) all = absurd all
some_of (suc count) (Lock key t mode ∷ ps) all = absurd all
some_of (suc count) (Change t w ∷ ps) all = absurd all
some_of (suc count) (Back t ∷ ps) all = absurd all
some_of (suc count) (Seal t ∷ ps) all = absurd all
some_of (suc count) (Unlock t ∷ ps) all = absurd all
some_of (suc count) (Sure n ∷ ps) all = absurd all

-- ---- what they change

holds_only : (ps : List Part) (m : Machine) → AreTakes ps → (hold : ℕ → Option ℕ) × (loose : ℕ → List LooseChange) × (dos ps m ≡ record m { hold = hold; loose = loose })
holds_only [] m all = (m.hold, m.loose, refl)
holds_only (Take x n ∷ ps) m all = holds_only ps (record m { hold = put x (Some n) m.hold; loose = loose_after_take x n m }) all
holds_only (Start n ∷ ps) m all = absurd all
holds_only (Drop x ∷ ps) m all = absurd all
holds_only (Begin t ∷ ps) m all = absurd all
holds_only (Use n map place g ∷ ps) m all = absurd all
holds_only (FreePlace n map place ∷ ps) m all = absurd all
holds_only (Lock key t mode ∷ ps) m all = absurd all
holds_only (Change t w ∷ ps) m all = absurd all
holds_only (Back t ∷ ps) m all = absurd all
holds_only (Seal t ∷ ps) m all = absurd all
holds_only (Unlock t ∷ ps) m all = absurd all
holds_only (Sure n ∷ ps) m all = absurd all

pub only_holds : (m : Machine) (c : Command) (count : ℕ) → (hold : ℕ → Option ℕ) × (loose : ℕ → List LooseChange) × (dos (take count (takes m c)) m ≡ record m { hold = hold; loose = loose })
only_holds m c count = holds_only (take count (takes m c)) m (some_of count (takes m c) (are_takes m c))

-- So an abort changes no record: it takes its pages, takes all back that its transaction has written, and ends it.
pub aborted_records : (m : Machine) (t : TxnId) (key : ℕ) → (dos (parts m (asks.Abort t)) m).records key ≡ m.records key
aborted_records m t key =
    let it = holds_only (takes_back m t) m (written_pages m t.node.0 (reverse (writes_of m t))) in
    let there : Machine = record m { hold = it.0; loose = it.1 } in
    ap (λ k. k.records key) (dos-then (takes_back m t ++ backs m t) (Seal t ∷ Unlock t ∷ []) m ∙ ap (dos (Seal t ∷ Unlock t ∷ [])) (dos-then (takes_back m t) (backs m t) m ∙ ap (dos (backs m t)) it.2)) ∙ all_undone there t key
