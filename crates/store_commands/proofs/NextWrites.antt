-- What is found in a node's log behind some of a transaction's updates: its next older write.
use Rattle.std.specs.Prelude.{◌≡◌, ◌*◌, ◌≤◌, ◌<◌, ◌++◌, ◌∷◌, [], ℕ, true, List, Option, Some, None, IfSome, MatchOption, reverse, refl}
use Rattle.std.proofs.Common.{arith, ap, subst, sym, ◌∙◌}
use Rattle.std.proofs.lemmas.List.{append-nil, reverse-append, reverse-reverse}
use Rattle.sd_base.specs.Disk.{BlockState}
use Rattle.sd_base.specs.declared.names.PageNo.{PageNo}
use Rattle.sd_base.specs.declared.names.TxnId.{TxnId}
use Rattle.log_record.specs.declared.record.LogRecord.{LogRecord}
use Rattle.node_cache.specs.Cache.{CacheState}
use Rattle.txn_core.specs.Seats.{OpenTxn, SeatsState, txn_in}
use Rattle.txn_core.specs.Told.{AreTold, HasRecords}
use Rattle.txn_core.proofs.SeatLaws.{txn_of}
use Rattle.record_machine.specs.Machine.{Deed, Machine, Write, writes_of}
use Rattle.store_nodes.specs.declared.node.Node.{Node}
use Rattle.store_nodes.specs.declared.node.Node.TheVariants.{Down, Idle, Up}
use Rattle.store_nodes.specs.declared.store.Store.{Store}
use Rattle.store_nodes.specs.Nodes.{IsNode, IsPlace, IsStore, OnUp, is_up, node_at}
use Rattle.store_nodes.specs.Pages.{has_txn}
use Rattle.store_nodes.specs.Shows.{IsShown, ShowsNode, ShowsUp}
use Rattle.store_pages.specs.Updates.{IsLeftAfter, IsNextAfter, IsNumberOf}
use Rattle.store_pages.proofs.FoundWrites as found
use Rattle.store_nodes.proofs.LeftWrites as left
use Rattle.store_nodes.proofs.LeftWrites.{back_parts, numbers_back}

-- none was passed, or the last one that was has this number
abbrev pub EndsWith : Option ℕ → List Deed → Type 0
EndsWith None newer = newer ≡ []
EndsWith (Some number) newer = (front : List Deed) × (d : Deed) × (newer ≡ front ++ d ∷ []) × (d.number ≡ number)

-- this is the first of these writes, with its page, or there is none
abbrev pub IsFirstOf : List Deed → Option (ℕ × PageNo) → Type 0
IsFirstOf older o = MatchOption o (older ≡ []) (λ v. (d : Deed) × (w : Write) × (rest : List Deed) × (older ≡ d ∷ rest) × (d.number ≡ v.0) × (d.write ≡ Some w) × (w.page ≡ v.1.0))

-- what update_after says of what it has found
abbrev pub IsFound : Store → (ℕ → BlockState) → TxnId → Option ℕ → Option (ℕ × PageNo) → Type 0
IsFound me b t after o = OnUp (node_at me.nodes t.node.0) (λ c seats. (recs : List LogRecord) (u : OpenTxn) (before : List ℕ) → txn_in seats t.seat ≡ Some u → HasRecords c.log b recs → AreTold seats c.log.start recs
    → IsLeftAfter u.begin (6 * c.log.start) recs after before → IsNextAfter u.begin (6 * c.log.start) recs before o)

module _ (m : Machine) (t : TxnId) (newer older : List Deed) (parts : reverse (writes_of m t) ≡ newer ++ older) where
  whole : writes_of m t ≡ reverse older ++ reverse newer
  whole = sym (reverse-reverse (writes_of m t)) ∙ ap reverse parts ∙ reverse-append newer older

  behind : (front : List Deed) (d : Deed) → newer ≡ front ++ d ∷ [] → writes_of m t ≡ reverse older ++ d ∷ reverse front
  behind front d last = whole ∙ ap (λ es. reverse older ++ es) (ap reverse last ∙ reverse-append front (d ∷ []))

  pub number_passed : (after : Option ℕ) → EndsWith after newer → IfSome after (IsNumberOf m t)
  number_passed None ends = tt
  number_passed (Some number) (front, d, last, is) = (reverse older, reverse front, d, behind front d last, is)

  none_left : numbers_back (reverse older) ≡ [] → older ≡ []
  none_left none = by older none
    where
      by : (ds : List Deed) → numbers_back (reverse ds) ≡ [] → ds ≡ []
      by [] none = refl
      by (d ∷ ds) none =
          let some : numbers_back (reverse (d ∷ ds)) ≡ d.number ∷ numbers_back (reverse ds) = ap numbers_back (reverse-append (d ∷ []) ds) ∙ back_parts (reverse ds) [] d in
          let never : d.number ∷ numbers_back (reverse ds) ≡ [] = sym some ∙ none in
          cc

  pub next_write : (me : Store) (b : ℕ → BlockState) (after : Option ℕ) (o : Option (ℕ × PageNo)) → IsStore me → IsPlace t.node.0 → is_up (node_at me.nodes t.node.0) ≡ true → t.seat ≤ 7 → has_txn (node_at me.nodes t.node.0) t ≡ true → IsShown me b m
      → EndsWith after newer → IsFound me b t after o → IsFirstOf older o
  next_write me b after o is place up seat busy shown ends found_is = by (node_at me.nodes t.node.0) refl up busy (is.is t.node.0 place) found_is
    where
      n : ℕ
      n = t.node.0

      in_up : (c : CacheState) (seats : SeatsState) (u : OpenTxn) → m.shape ≡ me.shape → txn_in seats t.seat ≡ Some u → ShowsUp me.shape me.shared.pool n c seats b shown.0 m
          → ((recs : List LogRecord) (u : OpenTxn) (before : List ℕ) → txn_in seats t.seat ≡ Some u → HasRecords c.log b recs → AreTold seats c.log.start recs → IsLeftAfter u.begin (6 * c.log.start) recs after before → IsNextAfter u.begin (6 * c.log.start) recs before o)
          → IsFirstOf older o
      in_up c seats u shape busy mine finds = on o (finds (shown.0.live n) u (numbers_back (reverse older)) busy mine.records mine.told (left_is after ends))
        where
          low : t.seat < 8
          low = omega (arith, seat)

          left_is : (after : Option ℕ) → EndsWith after newer → IsLeftAfter u.begin (6 * c.log.start) (shown.0.live n) after (numbers_back (reverse older))
          left_is None none =
              sym (left.writes_left n me.shape me.shared.pool c seats b shown.0 m t u mine shown.1.nodes.means.logs refl low busy)
              ∙ ap numbers_back (whole ∙ ap (λ es. reverse older ++ reverse es) none ∙ append-nil (reverse older))
          left_is (Some number) (front, d, last, same) = (
            numbers_back (reverse front),
            left.left_parts n me.shape me.shared.pool c seats b shown.0 m t u mine shown.1.nodes.means.logs refl low busy (reverse older) (reverse front) d (behind front d last)
                ∙ ap (λ k. numbers_back (reverse front) ++ k ∷ numbers_back (reverse older)) same,
          )

          on : (o : Option (ℕ × PageNo)) → IsNextAfter u.begin (6 * c.log.start) (shown.0.live n) (numbers_back (reverse older)) o → IsFirstOf older o
          on None none = none_left none
          on (Some v) next =
              let it = found.found_write n me.shape me.shared.pool c seats b shown.0 m t u mine shown.1.nodes.means.logs refl low busy shape shown.1.nodes.means.pages (reverse older) (reverse newer) v whole next in
              (it.1, it.4, reverse it.0, sym (reverse-reverse older) ∙ ap reverse it.2 ∙ reverse-append it.0 (it.1 ∷ []), it.3, it.5, it.6)

      by : (node : Node) → node_at me.nodes n ≡ node → is_up node ≡ true → has_txn node t ≡ true → IsNode me.shape me.shared.pool me.shared.owners n node
          → OnUp node (λ c seats. (recs : List LogRecord) (u : OpenTxn) (before : List ℕ) → txn_in seats t.seat ≡ Some u → HasRecords c.log b recs → AreTold seats c.log.start recs → IsLeftAfter u.begin (6 * c.log.start) recs after before → IsNextAfter u.begin (6 * c.log.start) recs before o)
          → IsFirstOf older o
      by Idle at up busy work finds = cc
      by Down at up busy work finds = cc
      by (Up c seats) at up busy work finds =
          let known : n ≤ me.shape.nodes = (let number = work.number in let last = work.store.node.1 in omega (arith, number, last)) in
          let mine = (subst (λ node. ShowsNode me.shape me.shared.pool n node b shown.0 m) at (shown.1.nodes.node n place known)).1 in
          let u = txn_of seats t.seat busy in
          in_up c seats u.0 shown.1.nodes.shape u.1 mine finds
