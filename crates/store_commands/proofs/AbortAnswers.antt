-- What an abort answers, whose pages are all tested before one is taken.
use Rattle.std.specs.Prelude.{◌≡◌, ◌⊎◌, ◌*◌, ℕ, true, false, List, Option, Some, None, Result, Ok, Err, IfErr, IfSome, IsOk, OnOk, refl}
use Rattle.std.proofs.Common.{inl, inr, subst, sym, ◌∙◌}
use Rattle.sd_base.specs.Disk.{BlockState}
use Rattle.sd_base.specs.declared.names.TxnId.{TxnId}
use Rattle.log_record.specs.declared.record.LogRecord.{LogRecord}
use Rattle.private_log.specs.Content.{region_of}
use Rattle.script_text.specs.declared.reply.Reply.{Reply}
use Rattle.script_text.specs.declared.reply.Reply.TheVariants as says
use Rattle.txn_core.specs.Seats.{OpenTxn, txn_in}
use Rattle.txn_core.specs.Told.{AreTold, HasRecords}
use Rattle.record_machine.specs.Machine.{Machine}
use Rattle.record_machine.specs.Parts.{Part}
use Rattle.record_machine.specs.Steps.{held}
use Rattle.store_nodes.specs.declared.node.Node.{Node}
use Rattle.store_nodes.specs.declared.node.Node.TheVariants.{Idle, Up, Down}
use Rattle.store_nodes.specs.declared.store.Store.{Store}
use Rattle.store_nodes.specs.Causes.{IsLogReply}
use Rattle.store_nodes.specs.Known.{checked}
use Rattle.store_nodes.specs.Nodes.{OnUp, node_at}
use Rattle.store_nodes.specs.Ports.{IsStopReply, UnlessStop, says_stop}
use Rattle.store_pages.specs.Holders.{AreFree, IsHolderReply, ReadsNot, TestsHolders, held_left}
use Rattle.store_commands.specs.Aborts.{IsAbortFault, IsToldOfAbort, RefusesHeld}
use Rattle.store_commands.specs.Answering.{Answers}
use Rattle.store_commands.specs.Taking.{UnlessHeld, WhereHeld}
use Rattle.store_commands.proofs.AbortCauses.{log_fault, log_stop, log_told}
use Rattle.store_commands.proofs.Stopping.{unless_err, unless_failed, unless_ok, unless_then}
use Rattle.store_commands.proofs.Testing.{failed, passed, test_of}

-- ---- why a test fails

pub holder_fault : (c : Store) (n : ℕ) (why : Reply) → IsHolderReply c n why → IsAbortFault c n why
holder_fault c n (says.Held x h) is = is
holder_fault c n why is = log_fault c n why is

pub holder_told : (c d : Store) (b : ℕ → BlockState) (t : TxnId) (why : Reply) → c.shape ≡ d.shape → IsHolderReply d t.node.0 why → IsToldOfAbort c b t why
holder_told c d b t (says.Held x h) same is = tt
holder_told c d b t why same is = log_told c d.shape b t why same is

pub holder_stop : (n h : ℕ) (c : Store) (why : Reply) → IsHolderReply c n why → IsStopReply h why → h ≡ n
holder_stop n h c (says.Held x k) is stop = absurd stop
holder_stop n h c why is stop = log_stop n h c.shape why is stop

-- ---- the machine's refusal

module _ (o : Option Reply) (r : Result (Unit {0}) Reply) (D S : Type 0) where
  -- what was done is refused for nothing
  pub answered_done : r ≡ Ok tt → UnlessStop r (Answers o r D S) → (o ≡ None) × D
  answered_done done was = by o refl (unless_ok r tt done was)
    where
      by : (p : Option Reply) → o ≡ p → Answers p r D S → (o ≡ None) × D
      by None is all = (is, all.1)
      by (Some why) is all = let never : ◌≡◌ {A = Result (Unit {0}) Reply} (Ok tt) (Err why) = sym done ∙ all.0 in cc

  pub sure_answers : o ≡ None → IfErr r (λ why. says_stop why ≡ true) → OnOk r D → UnlessStop r (Answers o r D S)
  sure_answers none stops d = subst (λ p. UnlessStop r (Answers p r D S)) (sym none) (by r stops d)
    where
      by : (k : Result (Unit {0}) Reply) → IfErr k (λ why. says_stop why ≡ true) → OnOk k D → UnlessStop k (Answers None k D S)
      by (Ok x) stops d = (refl, d)
      by (Err why) stops d = λ runs. let never : true ≡ false = sym stops ∙ runs in absurd cc

  module _ (r' : Result (Unit {0}) Reply) (why : Reply) (fails : r ≡ Err why) (out : r' ≡ Err why) where
    -- a refusal that is passed on
    pub refused_on : (E : Type 0) → UnlessStop r (Answers o r D S) → UnlessStop r' (Answers o r' E S)
    refused_on E was = unless_failed r' why out (λ runs. by o (unless_err r why fails runs was))
      where
        by : (p : Option Reply) → Answers p r D S → Answers p r' E S
        by None all = let never : ◌≡◌ {A = Result (Unit {0}) Reply} (Err why) (Ok tt) = sym fails ∙ all.0 in cc
        by (Some other) all = (out ∙ sym fails ∙ all.0, all.1)

    -- a test that failed
    pub test_failed : UnlessStop r (r ≡ checked o) → (says_stop why ≡ false → S) → UnlessStop r' (Answers o r' D S)
    test_failed tests stays = unless_failed r' why out (λ runs. failed D o r' why (sym (unless_err r why fails runs tests) ∙ fails) out (stays runs))

-- the pages were taken, of which none is held
pub taken_answers : (m : Machine) (ps : List Part) (r : Result (Unit {0}) Reply) (T : Machine → Type 0) (D S : Type 0) → held m ps ≡ None → UnlessStop r (UnlessHeld m ps r T (IsOk r × D)) → UnlessStop r (Answers (held m ps) r D S)
taken_answers m ps r T D S free was =
    unless_then r (λ all. subst (λ o. Answers o r D S) (sym free) (done r (subst (λ o. WhereHeld o m ps r T (IsOk r × D)) free all))) was
  where
    done : (k : Result (Unit {0}) Reply) → IsOk k × D → (k ≡ Ok tt) × D
    done (Ok x) all = (refl, all.1)
    done (Err why) all = let never = all.0 in cc

-- ---- the refusal that the log tells

always_some : {A : Type 0} (o : Option A) (P : A → Type 0) → ((a : A) → P a) → IfSome o P
always_some None P all = tt
always_some (Some a) P all = all a

module _ (c : Store) (b : ℕ → BlockState) (t : TxnId) where
  -- where the test was passed
  pub free_tested : TestsHolders c b t (Ok tt) → AreFree c b t
  free_tested tests = by (node_at c.nodes t.node.0) tests
    where
      by : (node : Node) → OnUp node (λ k seats. (recs : List LogRecord) (u : OpenTxn) → txn_in seats t.seat ≡ Some u → HasRecords k.log b recs → AreTold seats k.log.start recs → (Ok tt ≡ checked (held_left c u.begin (6 * k.log.start) recs)) ⊎ ReadsNot t.node.0 (region_of c.shape t.node.0) (Ok tt))
          → OnUp node (λ k seats. (recs : List LogRecord) (u : OpenTxn) → txn_in seats t.seat ≡ Some u → HasRecords k.log b recs → AreTold seats k.log.start recs → held_left c u.begin (6 * k.log.start) recs ≡ None)
      by Idle tests = tt
      by (Up k seats) tests = λ recs u txn has tells. elim (tests recs u txn has tells) [
        | inl same ↦ passed (held_left c u.begin (6 * k.log.start) recs) (sym same)
        | inr never ↦ absurd never
      ]
      by Down tests = tt

  module _ (d : Store) (b' : ℕ → BlockState) where
    -- nothing is to be refused then
    pub free_refuses : (reply : Reply) → AreFree c b t → RefusesHeld c d b b' t reply
    free_refuses reply free = by (node_at c.nodes t.node.0) free
      where
        by : (node : Node) → OnUp node (λ k seats. (recs : List LogRecord) (u : OpenTxn) → txn_in seats t.seat ≡ Some u → HasRecords k.log b recs → AreTold seats k.log.start recs → held_left c u.begin (6 * k.log.start) recs ≡ None)
            → OnUp node (λ k seats. (recs : List LogRecord) (u : OpenTxn) → txn_in seats t.seat ≡ Some u → HasRecords k.log b recs → AreTold seats k.log.start recs
            → IfSome (held_left c u.begin (6 * k.log.start) recs) (λ why. ((reply ≡ why) × (d ≡ c) × (b' ≡ b)) ⊎ IsLogReply t.node.0 (region_of c.shape t.node.0) reply))
        by Idle free = tt
        by (Up k seats) free = λ recs u txn has tells. subst (λ o. IfSome o (λ why. ((reply ≡ why) × (d ≡ c) × (b' ≡ b)) ⊎ IsLogReply t.node.0 (region_of c.shape t.node.0) reply)) (sym (free recs u txn has tells)) tt
        by Down free = tt

    -- where it wasn't
    pub test_refuses : (r : Result (Unit {0}) Reply) (why : Reply) → r ≡ Err why → IsHolderReply c t.node.0 why → (says_stop why ≡ false → (d ≡ c) × (b' ≡ b)) → TestsHolders c b t r → RefusesHeld c d b b' t why
    test_refuses r why fails fault kept tests = by (node_at c.nodes t.node.0) tests
      where
        kind : (k : Reply) → IsHolderReply c t.node.0 k → (says_stop k ≡ false) ⊎ IsLogReply t.node.0 (region_of c.shape t.node.0) k
        kind (says.Held x h) is = inl refl
        kind k is = inr is

        reads_not : (k : Result (Unit {0}) Reply) → k ≡ Err why → ReadsNot t.node.0 (region_of c.shape t.node.0) k → IsLogReply t.node.0 (region_of c.shape t.node.0) why
        reads_not (Ok x) is never = absurd never
        reads_not (Err other) is log = let same : other ≡ why = cc in subst (IsLogReply t.node.0 (region_of c.shape t.node.0)) same log

        by : (node : Node) → OnUp node (λ k seats. (recs : List LogRecord) (u : OpenTxn) → txn_in seats t.seat ≡ Some u → HasRecords k.log b recs → AreTold seats k.log.start recs → (r ≡ checked (held_left c u.begin (6 * k.log.start) recs)) ⊎ ReadsNot t.node.0 (region_of c.shape t.node.0) r)
            → OnUp node (λ k seats. (recs : List LogRecord) (u : OpenTxn) → txn_in seats t.seat ≡ Some u → HasRecords k.log b recs → AreTold seats k.log.start recs
            → IfSome (held_left c u.begin (6 * k.log.start) recs) (λ first. ((why ≡ first) × (d ≡ c) × (b' ≡ b)) ⊎ IsLogReply t.node.0 (region_of c.shape t.node.0) why))
        by Idle tests = tt
        by (Up k seats) tests = λ recs u txn has tells.
            let o = held_left c u.begin (6 * k.log.start) recs in
            let P : Reply → Type 0 = λ first. ((why ≡ first) × (d ≡ c) × (b' ≡ b)) ⊎ IsLogReply t.node.0 (region_of c.shape t.node.0) why in
            elim (kind why fault) [
              | inr said ↦ always_some o P (λ first. inr said)
              | inl runs ↦ elim (tests recs u txn has tells) [
                | inl same ↦ subst (λ p. IfSome p P) (sym (test_of o r why same fails)) (let stays = kept runs in inl (refl, stays.0, stays.1))
                | inr not_read ↦ always_some o P (λ first. inr (reads_not r fails not_read))
              ]
            ]
        by Down tests = tt
