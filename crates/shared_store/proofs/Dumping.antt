-- The replies to a dump, one row after the other.
use Rattle.std.specs.Prelude.{◌≤◌, ◌<◌, ◌^◌, ◌-◌, map, not}
use Rattle.std.proofs.Common.{◌≡◌, ◌≢◌, ◌⊎◌, ◌+◌, ◌∙◌, ℕ, Bool, true, false, List, [], ◌∷◌, ◌++◌, Option, Some, None, length, take, drop, inl, inr, refl, ap, sym, subst, arith, append_assoc}
use Rattle.std.proofs.lemmas.List.{append-nil, map-append, take-append-drop}
use Rattle.std.proofs.lemmas.List.Concat.{flat_map-append}
use Rattle.std.proofs.Math.Seq.{take-append_seam}
use Rattle.sd_base.specs.declared.device.NodeId.{NodeId}
use Rattle.sd_base.specs.declared.names.Key.{Key}
use Rattle.script_text.specs.Reply.{reply_text}
use Rattle.script_text.specs.declared.command.Command.TheVariants as asks
use Rattle.script_text.specs.declared.reply.Reply.{Reply}
use Rattle.script_text.specs.declared.reply.Reply.TheVariants as says
use Rattle.record_machine.specs.Commands as machine
use Rattle.record_machine.specs.Commands.{first_of, where_so}
use Rattle.record_machine.specs.Machine.{LooseChange, Machine, is_up}
use Rattle.record_machine.specs.Parts.{dos}
use Rattle.record_machine.specs.Rows.{AreRows, IsNextRow, Row, row_reply}
use Rattle.record_machine.specs.Steps.{DumpEnds, DumpOrStop, IsLostPage, NextOrStop, RowOrStop, TakesPages, all_rows, held_by, lost, refused_for, reopening, take_all}
use Rattle.record_machine.proofs.RowLaws.{no_rows, rows_all, rows_more, rows_rest}
use Rattle.store_nodes.specs.Ports.{says_stop}
use Rattle.store_commands.proofs.TakenAll.{before_taken, behind_taken, held_then, takes_then}
use Rattle.shared_store.specs.Answering.{IsRowFrom, NextAnswered, NextOpen, end_of_dump}
use Rattle.shared_store.specs.Output.{IsPart}
use Rattle.shared_store.specs.StoreState.{StoreState, shut, opened, stopped, AnswersDump}
use Rattle.shared_store.specs.Transcript.{replies_text}
use Rattle.shared_store.proofs.Answering.{IsNoRow, refusal_no_row}

-- ---- the machine, when it was asked for some rows

-- the node of a dump that isn't refused is up
dump_up : (m : Machine) (n : NodeId) → refused_for m (asks.Dump n) ≡ None → is_up (m.mode n.0) ≡ true
dump_up m n none = by (machine.no_node m n) (is_up (m.mode n.0)) refl none
  where
    by : (o : Option Reply) (up : Bool) → is_up (m.mode n.0) ≡ up → first_of (o ∷ where_so (not up) (says.NotUp n) ∷ machine.any_lock m ∷ reopening m ∷ []) ≡ None → is_up (m.mode n.0) ≡ true
    by (Some why) up is none = cc
    by None true is none = is
    by None false is none = cc

-- Node n has taken pages. What it is asked for next is so from the first on.
module _ (m : Machine) (n : NodeId) (S : Machine → Type 0) (allowed : refused_for m (asks.Dump n) ≡ None) (taken : TakesPages m n S) where
  -- the machine then
  abbrev later : Machine
  later = dos (take_all n.0 taken.pages) m

  still_allowed : refused_for later (asks.Dump n) ≡ None
  still_allowed = behind_taken (λ k. refused_for k (asks.Dump n) ≡ None) n.0 taken.pages m (λ hold loose is. is) allowed

  lost_then : (x : ℕ) → IsLostPage later x → IsLostPage m x
  lost_then x is = before_taken (λ k. IsLostPage k x) n.0 taken.pages m (λ hold loose now. now) is

  row_then : (first : ℕ) (reply : Reply) → IsNextRow later first reply → IsNextRow m first reply
  row_then first reply is = before_taken (λ k. IsNextRow k first reply) n.0 taken.pages m (λ hold loose. by hold loose reply) is
    where
      by : (hold : ℕ → Option ℕ) (loose : ℕ → List LooseChange) (reply : Reply) → IsNextRow (record m { hold = hold; loose = loose }) first reply → IsNextRow m first reply
      by hold loose (says.Row key value) now = record { from = now.from; there = now.there; least = now.least }
      by hold loose says.NoMore now = now
      by hold loose reply now = absurd now

  NextOrStop-then : (first : ℕ) (reply : Reply) (T : Machine → Type 0) → says_stop reply ≡ false → NextOrStop later n first reply T → NextOrStop m n first reply T
  NextOrStop-then first (says.Stopped h) T runs next = cc
  NextOrStop-then first (says.Fault h) T runs next = cc
  NextOrStop-then first (says.Held x h) T runs next = (held_then m n S (dump_up m n allowed) taken x.0 h.0 next.0, takes_then m n S (dump_up m n allowed) taken T next.1)
  NextOrStop-then first (says.LostPage x) T runs next = (lost_then x.0 next.0, takes_then m n S (dump_up m n allowed) taken T next.1)
  NextOrStop-then first reply T runs next = (row_then first reply next.0, takes_then m n S (dump_up m n allowed) taken T next.1)

  NextOpen-then : (stops : Bool) (first : ℕ) (reply : Reply) (T : StoreState → Type 0) → says_stop reply ≡ stops → NextOpen stops later n first reply T → NextOpen stops m n first reply T
  NextOpen-then true first reply T runs next = next
  NextOpen-then false first reply T runs next =
      let step : NextOrStop later n first reply (λ k. T (opened k)) = rw still_allowed at next in
      rw allowed (NextOrStop-then first reply (λ k. T (opened k)) runs step)

-- ---- a dump that goes on

-- From this machine a dump has given these rows, and then this reply where a further row was asked for. Where it has given
-- a row, it isn't refused.
pub record GoesOnOpen (m : Machine) (n : NodeId) (rows : List Row) (reply : Reply) (S : StoreState → Type 0) : Type 0 where
  pub first : ℕ
  pub below : first ≤ 2 ^ 32
  pub are : AreRows m first rows
  pub allowed : (rows ≡ []) ⊎ (refused_for m (asks.Dump n) ≡ None)
  pub next : NextOpen (says_stop reply) m n first reply S

-- and from this state of a store
abbrev pub Dumps : StoreState → NodeId → List Row → Reply → (StoreState → Type 0) → Type 0
Dumps (shut seal) n rows reply S = (rows ≡ []) × (reply ≡ says.Closed) × S (shut seal)
Dumps (opened m) n rows reply S = GoesOnOpen m n rows reply S
Dumps stopped n rows reply S = S stopped

pub dumps_none : (state : StoreState) (n : NodeId) (reply : Reply) (S : StoreState → Type 0) → NextAnswered state n 0 reply S → Dumps state n [] reply S
dumps_none (shut seal) n reply S next = (refl, next.0, next.1)
dumps_none (opened m) n reply S next = record { first = 0; below = omega arith; are = no_rows m; allowed = inl refl; next = next }
dumps_none stopped n reply S next = next

-- the row that was found from there on
record Finds (m : Machine) (n : NodeId) (rows : List Row) (key : Key) (value : List ℕ) (S : StoreState → Type 0) : Type 0 where
  pub are : AreRows m (key.0 + 1) (rows ++ record { key = key; value = value } ∷ [])
  pub allowed : refused_for m (asks.Dump n) ≡ None
  pub takes : TakesPages m n (λ next. S (opened next))

found_row : (m : Machine) (n : NodeId) (rows : List Row) (key : Key) (value : List ℕ) (S : StoreState → Type 0) → GoesOnOpen m n rows (says.Row key value) S → Finds m n rows key value S
found_row m n rows key value S on = by (refused_for m (asks.Dump n)) refl
  where
    by : (o : Option Reply) → refused_for m (asks.Dump n) ≡ o → Finds m n rows key value S
    by None is = let h = rw is at on.next in record { are = rows_more m on.first key value rows on.are h.0; allowed = is; takes = h.1 }
    by (Some why) is = let h = rw is at on.next in absurd (subst IsNoRow (sym h.0) (refusal_no_row m n why is))

-- one row more, and the reply behind it
pub dumps_more : (state : StoreState) (n : NodeId) (rows : List Row) (key : Key) (value : List ℕ) (reply : Reply) (S T : StoreState → Type 0) → key.0 < 2 ^ 32 → Dumps state n rows (says.Row key value) S
    → ((k : StoreState) → S k → NextAnswered k n (key.0 + 1) reply T) → Dumps state n (rows ++ record { key = key; value = value } ∷ []) reply T
dumps_more (shut seal) n rows key value reply S T range on next = let never = on.1 in cc
dumps_more (opened m) n rows key value reply S T range on next =
    let found = found_row m n rows key value S on in
    record {
      first = key.0 + 1;
      below = omega (arith, range);
      are = found.are;
      allowed = inr found.allowed;
      next = NextOpen-then m n (λ k. S (opened k)) found.allowed found.takes (says_stop reply) (key.0 + 1) reply T refl (next _ found.takes.after);
    }
dumps_more stopped n rows key value reply S T range on next = next stopped on

-- ---- a dump that ends

-- the reply was no row, and ends it
pub dumps_end : (state : StoreState) (n : NodeId) (rows : List Row) (reply : Reply) (S : StoreState → Type 0) → ((key : Key) (value : List ℕ) → reply ≢ says.Row key value) → Dumps state n rows reply S
    → AnswersDump state n (map row_reply rows ++ end_of_dump reply (length rows) ∷ []) S
dumps_end (shut seal) n rows reply S ends on = (rw (on.0, on.1) refl, on.2)
dumps_end (opened m) n rows reply S ends on = by (says_stop reply) refl
  where
    stop_last : (reply : Reply) → says_stop reply ≡ true → end_of_dump reply (length rows) ≡ reply
    stop_last says.NoMore stops = cc
    stop_last reply stops = refl

    why_last : (why : Reply) → IsNoRow why → end_of_dump why (length rows) ≡ why
    why_last says.NoMore none = absurd none
    why_last why none = refl

    last : (reply : Reply) → ((key : Key) (value : List ℕ) → reply ≢ says.Row key value) → says_stop reply ≡ false → NextOrStop m n on.first reply (λ k. S (opened k)) → DumpEnds m n (map row_reply rows ++ end_of_dump reply (length rows) ∷ []) (λ k. S (opened k))
    last (says.Stopped h) ends runs next = cc
    last (says.Fault h) ends runs next = cc
    last (says.Held x h) ends runs next = held_by x.0 h.0 (record { end = on.first; rows = rows; are = on.are; said = refl }) next.0 next.1
    last (says.LostPage x) ends runs next = lost x.0 (record { end = on.first; rows = rows; are = on.are; said = refl }) next.0 next.1
    last (says.Row key value) ends runs next = absurd (ends key value refl)
    last says.NoMore ends runs next = all_rows (record { rows = rows; are = rows_all m on.first rows on.below on.are next.0; said = refl }) next.1
    last reply ends runs next = absurd next.0

    refused : (why : Reply) → refused_for m (asks.Dump n) ≡ Some why → reply ≡ why → map row_reply rows ++ end_of_dump reply (length rows) ∷ [] ≡ why ∷ []
    refused why is same = elim on.allowed [
      | inl none ↦ ap (λ rs. map row_reply rs ++ end_of_dump reply (length rows) ∷ []) none ∙ ap (λ r. end_of_dump r (length rows) ∷ []) same ∙ ap (λ r. r ∷ []) (why_last why (refusal_no_row m n why is))
      | inr allowed ↦ let never : Some why ≡ None = sym is ∙ allowed in cc
    ]

    step : (o : Option Reply) → refused_for m (asks.Dump n) ≡ o → says_stop reply ≡ false → DumpOrStop m n (map row_reply rows ++ end_of_dump reply (length rows) ∷ []) (λ next. S (opened next))
    step None is runs =
        let next : RowOrStop m n on.first reply (λ k. S (opened k)) = subst (λ b. NextOpen b m n on.first reply S) runs on.next in
        let h = rw is at next in rw is (last reply ends runs h)
    step (Some why) is runs =
        let next : RowOrStop m n on.first reply (λ k. S (opened k)) = subst (λ b. NextOpen b m n on.first reply S) runs on.next in
        let h = rw is at next in rw is (refused why is h.0, h.1)

    by : (stops : Bool) → says_stop reply ≡ stops → AnswersDump (opened m) n (map row_reply rows ++ end_of_dump reply (length rows) ∷ []) S
    by true is = inr (
      record { end = on.first; rows = rows; are = on.are; last = reply; stops = is; said = ap (λ r. map row_reply rows ++ r ∷ []) (stop_last reply is) },
      subst (λ b. NextOpen b m n on.first reply S) is on.next,
    )
    by false is = inl (step (refused_for m (asks.Dump n)) refl is)
dumps_end stopped n rows reply S ends on = ((rows, end_of_dump reply (length rows), refl), on)

-- the sink failed at a row: those behind it are the machine's
pub record Completes (state : StoreState) (n : NodeId) (rows : List Row) (row : Row) (S : StoreState → Type 0) : Type 0 where
  pub more : List Row
  pub count : ℕ
  pub answers : AnswersDump state n (map row_reply rows ++ row_reply row ∷ (map row_reply more ++ says.EndDump count ∷ [])) S

joined : (rows more : List Row) (row : Row) (end : List Reply) → map row_reply rows ++ row_reply row ∷ (map row_reply more ++ end) ≡ map row_reply ((rows ++ row ∷ []) ++ more) ++ end
joined rows more row end =
    sym (append_assoc (map row_reply rows) (row_reply row ∷ []) (map row_reply more ++ end))
    ∙ sym (append_assoc (map row_reply rows ++ row_reply row ∷ []) (map row_reply more) end)
    ∙ ap (λ rs. (rs ++ map row_reply more) ++ end) (sym (map-append row_reply rows (row ∷ [])))
    ∙ ap (λ rs. rs ++ end) (sym (map-append row_reply (rows ++ row ∷ []) more))

pub dumps_rest : (state : StoreState) (n : NodeId) (rows : List Row) (key : Key) (value : List ℕ) (S : StoreState → Type 0) → key.0 < 2 ^ 32 → Dumps state n rows (says.Row key value) S
    → Completes state n rows (record { key = key; value = value }) S
dumps_rest (shut seal) n rows key value S range on = let never = on.1 in cc
dumps_rest (opened m) n rows key value S range on =
    let row : Row = record { key = key; value = value } in
    let found = found_row m n rows key value S on in
    let rest = rows_rest m (key.0 + 1) (rows ++ row ∷ []) (omega (arith, range)) found.are in
    let count : ℕ = length ((rows ++ row ∷ []) ++ rest.0) in
    record {
      more = rest.0;
      count = count;
      answers = inl (rw found.allowed (all_rows (record { rows = (rows ++ row ∷ []) ++ rest.0; are = rest.1; said = joined rows rest.0 row (says.EndDump count ∷ []) }) found.takes));
    }
dumps_rest stopped n rows key value S range on =
    let row : Row = record { key = key; value = value } in
    record { more = []; count = 0; answers = ((rows ++ row ∷ [], says.EndDump 0, joined rows [] row (says.EndDump 0 ∷ []) ∙ ap (λ rs. map row_reply rs ++ says.EndDump 0 ∷ []) (append-nil (rows ++ row ∷ []))), on) }

-- ---- how many rows there may be

-- so many rows were given, each with a key below that of the row which is given now
abbrev pub IsBelow : ℕ → Reply → Type 0
IsBelow count (says.Row key value) = count ≤ key.0
IsBelow count reply = count ≤ 2 ^ 32

pub below_first : (reply : Reply) → IsBelow 0 reply
below_first (says.Row key value) = omega arith
below_first reply = omega arith

pub below_next : (count : ℕ) (key : ℕ) (reply : Reply) → count ≤ key → key < 2 ^ 32 → IsRowFrom (key + 1) reply → IsBelow (count + 1) reply
below_next count key (says.Row k value) low range from = omega (arith, low, from)
below_next count key reply low range from = omega (arith, low, range)

-- how many keys there are from that of a row on
abbrev pub keys_left : Reply → ℕ
keys_left (says.Row key value) = 2 ^ 32 - key.0
keys_left reply = 0

-- ---- what the sink takes

-- the replies before one, and a part of it, are a part of all
pub part_within : (before taken now : List ℕ) (said : List Reply) (reply : Reply) (more : List Reply) → taken ≡ before ++ replies_text said → IsPart taken (reply_text reply) now → IsPart before (replies_text (said ++ reply ∷ more)) now
part_within before taken now said reply more was part =
    let front : List ℕ = replies_text said ++ take part.0 (reply_text reply) in
    let back : List ℕ = drop part.0 (reply_text reply) ++ replies_text more in (
      length front,
      part.1
          ∙ ap (λ xs. xs ++ take part.0 (reply_text reply)) was
          ∙ append_assoc before (replies_text said) (take part.0 (reply_text reply))
          ∙ ap (λ xs. before ++ xs) (sym (take-append_seam front back))
          ∙ ap (λ xs. before ++ take (length front) xs) (whole said reply more part.0),
    )
  where
    whole : (said : List Reply) (reply : Reply) (more : List Reply) (n : ℕ) → (replies_text said ++ take n (reply_text reply)) ++ (drop n (reply_text reply) ++ replies_text more) ≡ replies_text (said ++ reply ∷ more)
    whole said reply more n =
        append_assoc (replies_text said) (take n (reply_text reply)) (drop n (reply_text reply) ++ replies_text more)
        ∙ ap (λ xs. replies_text said ++ xs) (sym (append_assoc (take n (reply_text reply)) (drop n (reply_text reply)) (replies_text more)) ∙ ap (λ xs. xs ++ replies_text more) (take-append-drop n (reply_text reply)))
        ∙ sym (flat_map-append reply_text said (reply ∷ more))

-- and all of it too
pub whole_within : (before taken now : List ℕ) (said : List Reply) (reply : Reply) → taken ≡ before ++ replies_text said → now ≡ taken ++ reply_text reply → now ≡ before ++ replies_text (said ++ reply ∷ [])
whole_within before taken now said reply was all =
    all ∙ ap (λ xs. xs ++ reply_text reply) was ∙ append_assoc before (replies_text said) (reply_text reply)
    ∙ ap (λ xs. before ++ xs) (ap (λ xs. replies_text said ++ xs) (sym (append-nil (reply_text reply))) ∙ sym (flat_map-append reply_text said (reply ∷ [])))
