-- The open updates of a transaction, as its log grows.
use Rattle.std.proofs.Common.{◌≡◌, ◌≢◌, ◌⊎◌, inl, inr, ℕ, suc, ◌+◌, ◌≤◌, List, [], ◌∷◌, ◌++◌, length, refl, ap, ap₂, sym, subst, ◌∙◌, arith, Option, Some, None, append_assoc, append-nil, ne_eqb}
use Rattle.std.proofs.lemmas.Bool.{cases_eq}
use Rattle.sd_base.specs.Places.{page_of_place}
use Rattle.log_record.specs.declared.record.LogRecord.{LogRecord}
use Rattle.recovery_theory.specs.Chain.{ChainedBy, Rises, steps_from, steps_to}
use Rattle.recovery_theory.specs.Effect.{Step, steps_on, step_on, OpenUpdate, Transaction, left_by, left_of, listed, of_slot, open_updates}
use Rattle.recovery_theory.specs.Pages.{SlotValue, slots_of}
use Rattle.recovery_theory.specs.Standing.{Devices, Leads, SettlesBy, Settles, InOrder, IsApart, Ordered, Apart}
use Rattle.recovery_theory.specs.Steps.{with_record}
use Rattle.space_map.specs.declared.map_entry.MapEntry.{MapEntry}
use Rattle.recovery_theory.proofs.StepLists.{steps_to-append, Rises-push}
use Rattle.recovery_theory.proofs.Cuts.{at_or_off, with_record-same, with_record-other}
use mathlib.Core.Path.{fun_ext}
use Rattle.space_map.specs.PageImage.{PageImage}

-- the steps of a page in two parts of a log
pub steps_on-append : (x : ℕ) (l k : List LogRecord) → steps_on x (l ++ k) ≡ steps_on x l ++ steps_on x k
steps_on-append x [] k = refl
steps_on-append x (r ∷ l) k = grind (arith, steps_on-append x l k, append_assoc (step_on x r) (steps_on x l) (steps_on x k))

-- what is left, with one more record
pub left_of-append : (t r : ℕ) (l : List LogRecord) (e : LogRecord) (s : Option (List OpenUpdate)) → left_of t r (l ++ e ∷ []) s ≡ left_by t (r + length l) e (left_of t r l s)
left_of-append t r [] e s = ap (λ k. left_by t k e s) (omega arith)
left_of-append t r (a ∷ l) e s = left_of-append t (suc r) l e (left_by t r a s) ∙ ap (λ k. left_by t k e (left_of t (suc r) l (left_by t r a s))) (omega arith)

-- a transaction, by its node and number
abbrev pub transaction : ℕ → ℕ → Transaction
transaction n t = record { node = n; txn = t }

-- two transactions are the same, or not
pub transaction_cases : (o p : Transaction) → (o ≡ p) ⊎ (o ≢ p)
transaction_cases o p = go (cases_eq o.node p.node) (cases_eq o.txn p.txn)
  where
    go : (o.node ≡ p.node) ⊎ (o.node ≢ p.node) → (o.txn ≡ p.txn) ⊎ (o.txn ≢ p.txn) → (o ≡ p) ⊎ (o ≢ p)
    go (inl a) (inl b) = inl (ap₂ transaction a b)
    go (inl a) (inr b) = inr (λ e. b (ap (λ (q : Transaction). q.txn) e))
    go (inr a) b = inr (λ e. a (ap (λ (q : Transaction). q.node) e))

-- the records of other nodes are what they were, and so are the open updates
pub open-elsewhere : (first : ℕ → ℕ) (n : ℕ) (r : LogRecord) (logs : ℕ → List LogRecord) (o : Transaction) → o.node ≢ n → open_updates first (with_record n r logs) o ≡ open_updates first logs o
open-elsewhere first n r logs o d = rw (with_record-other n r logs o.node d) refl

-- what the record's node has left
pub open-here : (first : ℕ → ℕ) (n : ℕ) (r : LogRecord) (logs : ℕ → List LogRecord) (t : ℕ)
    → open_updates first (with_record n r logs) (record { node = n; txn = t }) ≡ listed (left_by t (first n + length (logs n)) r (left_of t (first n) (logs n) None))
open-here first n r logs t = rw (with_record-same n r logs, left_of-append t (first n) (logs n) r None) refl

-- a step on another page changes no chain
pub steps_on-with_record : (x n : ℕ) (r : LogRecord) (logs : ℕ → List LogRecord) → step_on x r ≡ [] → (m : ℕ) → steps_on x (logs m) ≡ steps_on x (with_record n r logs m)
steps_on-with_record x n r logs e m = go (cases_eq m n)
  where
    go : (m ≡ n) ⊎ (m ≢ n) → steps_on x (logs m) ≡ steps_on x (with_record n r logs m)
    go (inl h) = subst (λ k. steps_on x (logs k) ≡ steps_on x (with_record n r logs k)) (sym h)
        (rw (with_record-same n r logs, steps_on-append x (logs n) (r ∷ []), e) (sym (append-nil (steps_on x (logs n)))))
    go (inr d) = rw (with_record-other n r logs m d) refl

-- a chain is said of the logs by their values alone
pub chained_ext : (base disk : PageImage) (kept live live' : ℕ → List Step) (image : PageImage) (n : ℕ) → ((m : ℕ) → live m ≡ live' m)
    → ChainedBy base disk kept live image n → ChainedBy base disk kept live' image n
chained_ext base disk kept live live' image n e c = subst (λ (l : ℕ → List Step). ChainedBy base disk kept l image n) (fun_ext e) c

-- a list is empty, or not
pub list_cases : {A : Type 0} (l : List A) → (l ≡ []) ⊎ (l ≢ [])
list_cases [] = inl refl
list_cases (a ∷ l) = inr (λ e. absurd cc)

-- the transaction that has the lock may be taken for the owner
pub owned_by_lock : (w : Devices) (logs : ℕ → List LogRecord) (image : PageImage) (x s : ℕ) (v : SlotValue) (o : Transaction)
    → Settles w.first logs image x s v
    → ((p : Transaction) → of_slot x s (open_updates w.first logs p) ≢ [] → Some o ≡ Some p)
    → SettlesBy w.first logs image x s v o
owned_by_lock w logs image x s v o (o0, c) locked = record {
  alone = alone;
  value = value (transaction_cases o0 o);
}
  where
    alone : (p : Transaction) → p ≢ o → of_slot x s (open_updates w.first logs p) ≡ []
    alone p d = go (list_cases (of_slot x s (open_updates w.first logs p)))
      where
        go : (of_slot x s (open_updates w.first logs p) ≡ []) ⊎ (of_slot x s (open_updates w.first logs p) ≢ []) → of_slot x s (open_updates w.first logs p) ≡ []
        go (inl e) = e
        go (inr e) = let l = locked p e in let q : o ≡ p = cc in absurd (d (sym q))

    value : (o0 ≡ o) ⊎ (o0 ≢ o) → Leads (of_slot x s (open_updates w.first logs o)) v (slots_of image s)
    value (inl e) = subst (λ (p : Transaction). Leads (of_slot x s (open_updates w.first logs p)) v (slots_of image s)) e c.value
    value (inr d) =
        let a : of_slot x s (open_updates w.first logs o0) ≡ [] = alone o0 d in
        let b : of_slot x s (open_updates w.first logs o) ≡ [] = c.alone o (λ e. d (sym e)) in
        subst (λ us. Leads us v (slots_of image s)) (a ∙ sym b) c.value

-- order, with one more record
pub Ordered-append : (w : Devices) (a l : List LogRecord) (r : LogRecord) → Ordered w a l → InOrder w (a ++ l) r → Ordered w a (l ++ r ∷ [])
Ordered-append w a [] r o h = (subst (λ z. InOrder w z r) (append-nil a) h, tt)
Ordered-append w a (e ∷ l) r o h = (o.0, Ordered-append w (a ++ e ∷ []) l r o.1 (subst (λ z. InOrder w z r) (sym (append_assoc a (e ∷ []) l)) h))

pub ordered_record : (w : Devices) (n : ℕ) (r : LogRecord) (logs : ℕ → List LogRecord) → ((m : ℕ) → Ordered w [] (w.kept m ++ logs m)) → InOrder w (w.kept n ++ logs n) r → (m : ℕ) → Ordered w [] (w.kept m ++ with_record n r logs m)
ordered_record w n r logs o h m = go (cases_eq m n)
  where
    go : (m ≡ n) ⊎ (m ≢ n) → Ordered w [] (w.kept m ++ with_record n r logs m)
    go (inl e) = subst (λ k. Ordered w [] (w.kept k ++ with_record n r logs k)) (sym e) (subst (λ l. Ordered w [] (w.kept n ++ l)) (sym (with_record-same n r logs))
        (subst (Ordered w []) (append_assoc (w.kept n) (logs n) (r ∷ [])) (Ordered-append w [] (w.kept n ++ logs n) r (o n) h)))
    go (inr d) = subst (λ l. Ordered w [] (w.kept m ++ l)) (sym (with_record-other n r logs m d)) (o m)

-- and lives stay apart, where a record is of a page that its node guards, or of none
pub apart_record : (w : Devices) (logs : ℕ → List LogRecord) (guard : ℕ → ℕ) (entry : ℕ → MapEntry) (n : ℕ) (r : LogRecord) → ((y : ℕ) → (step_on y r ≡ []) ⊎ (guard y ≡ n))
    → Apart w logs guard entry → Apart w (with_record n r logs) guard entry
apart_record w logs guard entry n r how apart m q k i lt le d e = go (apart m q k i lt le d e) (how (page_of_place w.shape m q))
  where
    go : IsApart w logs guard entry m q k i → (step_on (page_of_place w.shape m q) r ≡ []) ⊎ (guard (page_of_place w.shape m q) ≡ n) → IsApart w (with_record n r logs) guard entry m q k i
    go (inl h) a = inl h
    go (inr (h, g)) (inl a) = inr (rw (← steps_on-with_record (page_of_place w.shape m q) n r logs a k) h, g)
    go (inr (h, g)) (inr a) = inr (rw (with_record-other n r logs k (λ z. g (a ∙ sym z))) h, g)

-- no step leads to the birth of a life: a record of another page, and one of this page in its life
pub gap_same : (entry : ℕ) (kept : ℕ → List LogRecord) (y n : ℕ) (r : LogRecord) (logs : ℕ → List LogRecord) → step_on y r ≡ []
    → ((m : ℕ) → steps_to entry (steps_on y (kept m) ++ steps_on y (logs m)) ≡ []) → (m : ℕ) → steps_to entry (steps_on y (kept m) ++ steps_on y (with_record n r logs m)) ≡ []
gap_same entry kept y n r logs none gap m = rw (← steps_on-with_record y n r logs none m) (gap m)

pub gap_step : (entry : ℕ) (kept : ℕ → List LogRecord) (y n : ℕ) (r : LogRecord) (s : Step) (logs : ℕ → List LogRecord) → step_on y r ≡ s ∷ [] → entry ≤ s.bsi
    → ((m : ℕ) → steps_to entry (steps_on y (kept m) ++ steps_on y (logs m)) ≡ []) → (m : ℕ) → steps_to entry (steps_on y (kept m) ++ steps_on y (with_record n r logs m)) ≡ []
gap_step entry kept y n r s logs one le gap = at_or_off (λ m. steps_to entry (steps_on y (kept m) ++ steps_on y (with_record n r logs m)) ≡ []) n
    (let last : steps_to entry (s ∷ []) ≡ [] = rw (ne_eqb (suc s.bsi) entry (λ e. absurd (omega arith))) refl in
    let g = gap n in
    let a = steps_to-append entry (steps_on y (kept n)) (steps_on y (logs n)) in
    let b = steps_to-append entry (steps_on y (kept n)) (steps_on y (logs n) ++ s ∷ []) in
    let c = steps_to-append entry (steps_on y (logs n)) (s ∷ []) in
    let z : steps_to entry (steps_on y (logs n) ++ s ∷ []) ≡ steps_to entry (steps_on y (logs n)) = rw (c, last) (append-nil (steps_to entry (steps_on y (logs n)))) in
    rw (with_record-same n r logs, steps_on-append y (logs n) (r ∷ []), one) (b ∙ (rw z (sym a ∙ g))))
    (λ m d. rw (with_record-other n r logs m d) (gap m))

-- and the steps rise
pub rises_same : (kept : ℕ → List LogRecord) (y n : ℕ) (r : LogRecord) (logs : ℕ → List LogRecord) → step_on y r ≡ []
    → ((m : ℕ) → Rises (steps_on y (kept m) ++ steps_on y (logs m))) → (m : ℕ) → Rises (steps_on y (kept m) ++ steps_on y (with_record n r logs m))
rises_same kept y n r logs none rises m = rw (← steps_on-with_record y n r logs none m) (rises m)

pub rises_step : (kept : ℕ → List LogRecord) (y n : ℕ) (r : LogRecord) (s : Step) (logs : ℕ → List LogRecord) → step_on y r ≡ s ∷ [] → steps_from s.bsi (steps_on y (kept n) ++ steps_on y (logs n)) ≡ []
    → ((m : ℕ) → Rises (steps_on y (kept m) ++ steps_on y (logs m))) → (m : ℕ) → Rises (steps_on y (kept m) ++ steps_on y (with_record n r logs m))
rises_step kept y n r s logs one beyond rises = at_or_off (λ m. Rises (steps_on y (kept m) ++ steps_on y (with_record n r logs m))) n
    (rw (with_record-same n r logs, steps_on-append y (logs n) (r ∷ []), one) (subst Rises (append_assoc (steps_on y (kept n)) (steps_on y (logs n)) (s ∷ [])) (Rises-push (steps_on y (kept n) ++ steps_on y (logs n)) s beyond (rises n))))
    (λ m d. rw (with_record-other n r logs m d) (rises m))

-- what a record does to the open updates, seen at each transaction
pub open-by : (first : ℕ → ℕ) (n : ℕ) (r : LogRecord) (logs : ℕ → List LogRecord) (o : Transaction)
    → ((u : ℕ) → o ≡ transaction n u → listed (left_by u (first n + length (logs n)) r (left_of u (first n) (logs n) None)) ≡ listed (left_of u (first n) (logs n) None))
    → open_updates first (with_record n r logs) o ≡ open_updates first logs o
open-by first n r logs o h = go (cases_eq o.node n)
  where
    go : (o.node ≡ n) ⊎ (o.node ≢ n) → open_updates first (with_record n r logs) o ≡ open_updates first logs o
    go (inl e) =
        let o' : o ≡ transaction n o.txn = ap₂ transaction e refl in
        subst (λ z. open_updates first (with_record n r logs) z ≡ open_updates first logs z) (sym o') (open-here first n r logs o.txn ∙ h o.txn o')
    go (inr d) = open-elsewhere first n r logs o d
