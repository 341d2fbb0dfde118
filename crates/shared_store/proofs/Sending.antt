-- What a sink takes of the replies to a command.
use Rattle.std.specs.Prelude.{◌⊎◌, ◌<◌, ◌^◌, map}
use Rattle.std.proofs.Common.{◌≡◌, ◌≢◌, ◌++◌, ◌∙◌, ℕ, List, [], ◌∷◌, None, length, inl, inr, refl, ap, sym}
use Rattle.std.proofs.lemmas.List.{append-nil, map-append}
use Rattle.sd_base.specs.Faults.{Grew-same}
use Rattle.sd_base.specs.declared.device.NodeId.{NodeId}
use Rattle.sd_base.specs.declared.names.Key.{Key}
use Rattle.script_text.specs.Reply.{reply_text}
use Rattle.script_text.specs.declared.command.Command.{Command}
use Rattle.script_text.specs.declared.command.Command.TheVariants as asks
use Rattle.script_text.specs.declared.reply.Reply.{Reply}
use Rattle.script_text.specs.declared.reply.Reply.TheVariants as says
use Rattle.record_machine.specs.Rows.{Row, dumped_by, row_reply}
use Rattle.shared_store.specs.Answering.{Sends, SendsPart, end_of_dump}
use Rattle.shared_store.specs.Causes.{AreCounted, HasCause}
use Rattle.shared_store.specs.Devices.{Devices, GoesOn}
use Rattle.shared_store.specs.Output.{IsPart}
use Rattle.shared_store.specs.Store.{Shows}
use Rattle.shared_store.specs.StoreState.{StoreState, Answered, AnsweredOnce}
use Rattle.shared_store.specs.Transcript.{replies_text}
use Rattle.shared_store.specs.declared.store.Store.{Store}
use Rattle.shared_store.proofs.Counting.{AreCounted-after, AreCounted-more, AreCounted-none, AreCounted-one, AreCounted-rows, AreCounted-then}
use Rattle.shared_store.proofs.Dumping.{Dumps, dumps_end, dumps_rest, part_within, whole_within}

-- a command that gets one reply
module _ (command : Command) (reply : Reply) (was is : Store) (old now : Devices) (before taken : List ℕ)
    (single : dumped_by command ≡ None)
    (disk : GoesOn old.disk now.disk)
    (vault : GoesOn old.vault now.vault)
    (cause : HasCause reply old now)
    (answers : (state : StoreState) → Shows was old.disk state → AnsweredOnce old.disk.size old.vault.size state command reply (Shows is now.disk)) where
  answered_once : (state : StoreState) → Shows was old.disk state → Answered old.disk.size old.vault.size state command (reply ∷ []) (Shows is now.disk)
  answered_once state shows = rw single (reply, refl, answers state shows)

  pub sends_once : taken ≡ before ++ reply_text reply → Sends command was is old now before taken
  sends_once all = record {
    replies = reply ∷ [];
    answered = answered_once;
    printed = whole_within before before taken [] reply (sym (append-nil before)) all;
    counted = AreCounted-one reply old now disk.grew vault.grew cause;
  }

  pub part_once : IsPart before (reply_text reply) taken → (state : StoreState) → Shows was old.disk state → SendsPart state command is old now before taken
  part_once part state shows = record {
    replies = reply ∷ [];
    answered = answered_once state shows;
    part = part_within before before taken [] reply [] (sym (append-nil before)) part;
    counted = AreCounted-one reply old now disk.grew vault.grew cause;
  }

-- a dump, behind these rows
module _ (n : NodeId) (rows : List Row) (reply : Reply) (was is : Store) (old now : Devices) (before said taken : List ℕ)
    (disk : GoesOn old.disk now.disk)
    (vault : GoesOn old.vault now.vault)
    (cause : HasCause reply old now)
    (dumps : (state : StoreState) → Shows was old.disk state → Dumps state n rows reply (Shows is now.disk))
    (printed : said ≡ before ++ replies_text (map row_reply rows)) where
  -- that gives its last reply
  module _ (ends : (key : Key) (value : List ℕ) → reply ≢ says.Row key value) where
    last_cause : (reply : Reply) → HasCause reply old now → HasCause (end_of_dump reply (length rows)) old now
    last_cause says.NoMore cause = tt
    last_cause reply cause = cause

    counted : AreCounted (map row_reply rows ++ end_of_dump reply (length rows) ∷ []) old now
    counted = AreCounted-more (end_of_dump reply (length rows)) (map row_reply rows) old old now (AreCounted-rows rows old) disk.grew vault.grew (last_cause reply cause)

    pub sends_end : taken ≡ said ++ reply_text (end_of_dump reply (length rows)) → Sends (asks.Dump n) was is old now before taken
    sends_end all = record {
      replies = map row_reply rows ++ end_of_dump reply (length rows) ∷ [];
      answered = λ state shows. dumps_end state n rows reply (Shows is now.disk) ends (dumps state shows);
      printed = whole_within before said taken (map row_reply rows) (end_of_dump reply (length rows)) printed all;
      counted = counted;
    }

    pub part_end : IsPart said (reply_text (end_of_dump reply (length rows))) taken → (state : StoreState) → Shows was old.disk state → SendsPart state (asks.Dump n) is old now before taken
    part_end part state shows = record {
      replies = map row_reply rows ++ end_of_dump reply (length rows) ∷ [];
      answered = dumps_end state n rows reply (Shows is now.disk) ends (dumps state shows);
      part = part_within before said taken (map row_reply rows) (end_of_dump reply (length rows)) [] printed part;
      counted = counted;
    }

-- what is printed behind one row more
pub printed_more : (before said taken : List ℕ) (rows : List Row) (row : Row) → said ≡ before ++ replies_text (map row_reply rows) → taken ≡ said ++ reply_text (row_reply row) → taken ≡ before ++ replies_text (map row_reply (rows ++ row ∷ []))
printed_more before said taken rows row was all = whole_within before said taken (map row_reply rows) (row_reply row) was all ∙ ap (λ rs. before ++ replies_text rs) (sym (map-append row_reply rows (row ∷ [])))

-- a dump that failed at a row
pub part_row : (n : NodeId) (rows : List Row) (key : Key) (value : List ℕ) (was is : Store) (old now : Devices) (before said taken : List ℕ) → key.0 < 2 ^ 32
    → GoesOn old.disk now.disk → GoesOn old.vault now.vault
    → ((state : StoreState) → Shows was old.disk state → Dumps state n rows (says.Row key value) (Shows is now.disk))
    → said ≡ before ++ replies_text (map row_reply rows)
    → IsPart said (reply_text (says.Row key value)) taken → (state : StoreState) → Shows was old.disk state → SendsPart state (asks.Dump n) is old now before taken
part_row n rows key value was is old now before said taken range disk vault dumps printed part state shows =
    let row : Row = record { key = key; value = value } in
    let rest = dumps_rest state n rows key value (Shows is now.disk) range (dumps state shows) in
    let end : List Reply = says.EndDump rest.count ∷ [] in
    record {
      replies = map row_reply rows ++ row_reply row ∷ (map row_reply rest.more ++ end);
      answered = rest.answers;
      part = part_within before said taken (map row_reply rows) (row_reply row) (map row_reply rest.more ++ end) printed part;
      counted = AreCounted-after (map row_reply rows ++ row_reply row ∷ (map row_reply rest.more ++ end)) old old now
          (AreCounted-then (map row_reply rows) (row_reply row ∷ (map row_reply rest.more ++ end)) old old old (AreCounted-rows rows old)
          (AreCounted-then (map row_reply (row ∷ rest.more)) end old old old (AreCounted-rows (row ∷ rest.more) old) (AreCounted-one (says.EndDump rest.count) old old (Grew-same old.disk) (Grew-same old.vault) tt) (Grew-same old.disk) (Grew-same old.vault))
          (Grew-same old.disk) (Grew-same old.vault))
          disk.grew vault.grew;
    }
