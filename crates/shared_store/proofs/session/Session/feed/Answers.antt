use Rattle.std.proofs.Common.{◌≡◌, ◌+◌, ◌<◌, ◌∷◌, [], ◌++◌, ◌∙◌, ℕ, List, length, get_or, take, drop, refl, sym, ap, subst, append_assoc, arith}
use Rattle.std.proofs.lemmas.List.{take_more, take-append-drop}
use Rattle.shared_store.specs.Devices.{both}
use Rattle.shared_store.specs.Store.{Shows}
use Rattle.shared_store.specs.Transcript.{TranscribesPart}
use Rattle.shared_store.proofs.session.Session.feed.Goals as goal

-- what was read before, the piece up to a byte, that byte, and what stands behind it
pieces : (bytes piece : List ℕ) (i : ℕ) → i < length piece → ((bytes ++ take i piece) ++ get_or piece i 0 ∷ []) ++ drop (i + 1) piece ≡ bytes ++ piece
pieces bytes piece i lt =
    ap (λ xs. xs ++ drop (i + 1) piece) (append_assoc bytes (take i piece) (get_or piece i 0 ∷ []) ∙ ap (λ xs. bytes ++ xs) (sym (take_more piece i 0 lt)))
    ∙ append_assoc bytes (take (i + 1) piece) (drop (i + 1) piece)
    ∙ ap (λ xs. bytes ++ xs) (take-append-drop (i + 1) piece)

pub returns-then-not-take_byte-clause-cut : goal.returns-then-not-take_byte-clause-cut
returns-then-not-take_byte-clause-cut g c = λ failed tellK tellD from bytes s more.
    let piece : List ℕ = c.args.piece.now in
    let i : ℕ = c.loop-b.b-index in
    let P : List ℕ → Type 0 = λ xs. TranscribesPart from xs (Shows c.take_byte.new.self.store (g.D.Disk.state c.take_byte.new.disk)) (both (g.D.Disk.state c.take_byte.new.disk) (g.V.Disk.state c.take_byte.new.vault)) (g.K.Sink.state c.take_byte.new.sink).taken in
    let part = c.if-not-take_byte.ensures.cut refl tellK tellD from (bytes ++ take i piece) (c.loop-b.invariant.served tellK tellD from bytes s) (drop (i + 1) piece ++ more) in
    subst P (sym (append_assoc ((bytes ++ take i piece) ++ get_or piece i 0 ∷ []) (drop (i + 1) piece) more) ∙ ap (λ xs. xs ++ more) (pieces bytes piece i (omega arith))) part
