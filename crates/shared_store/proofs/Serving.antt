-- One byte more of a job.
use Rattle.std.proofs.Common.{◌≡◌, ◌≢◌, ℕ, Bool, true, false, List, [], ◌∷◌, ◌++◌, ◌∙◌, take, sym, ap, subst, refl, append_assoc}
use Rattle.std.proofs.lemmas.List.{flat_map_more, append-nil}
use Rattle.std.proofs.lemmas.List.Concat.{flat_map-append}
use Rattle.sd_base.specs.Stream.{SinkState, SourceState}
use Rattle.script_text.specs.Command.{Means}
use Rattle.script_text.specs.Lines.{EndsLine, answered, is_silent, lines_read}
use Rattle.script_text.specs.Reply.{reply_text}
use Rattle.script_text.specs.declared.command.Command.{Command}
use Rattle.script_text.specs.declared.reply.Reply.{Reply}
use Rattle.script_text.proofs.Lining.{Splits-none, Splits-byte, Splits-line, answered-silent, answered-spoken, answered-with_rest}
use Rattle.shared_store.specs.Answering.{Sends, SendsPart}
use Rattle.shared_store.specs.Causes.{AreCounted}
use Rattle.shared_store.specs.Devices.{Devices, GoesOn}
use Rattle.shared_store.specs.Job.{Tells, TellsJob, beginning}
use Rattle.shared_store.specs.LineBuffer.{HoldsLine}
use Rattle.shared_store.specs.Output.{IsPart}
use Rattle.shared_store.specs.Serving.{Served}
use Rattle.shared_store.specs.Store.{Shows, ShowsSeal}
use Rattle.shared_store.specs.StoreState.{Answered, Seal, StoreState}
use Rattle.shared_store.specs.Transcript.{Beginning, RunFrom, Transcribes, TranscribesPart, all_replies, replies_text, transcript_text}
use Rattle.shared_store.specs.declared.line.LineBuffer.{LineBuffer}
use Rattle.shared_store.specs.declared.script.Status.{Status}
use Rattle.shared_store.specs.declared.script.Status.TheVariants as ended
use Rattle.shared_store.specs.declared.store.Store.{Store}
use Rattle.shared_store.specs.declared.store.Store.TheVariants.{Closed}
use Rattle.shared_store.proofs.Counting.{AreCounted-after, AreCounted-none, AreCounted-then}
use Rattle.shared_store.proofs.Running.{Run-chosen, Run-map, Run-more}

-- a byte that is no line feed
pub served_byte : (from : Beginning) (bytes : List ℕ) (b : ℕ) (line next : LineBuffer) (store : Store) (now : Devices) (sink : SinkState)
    → b ≢ 10 → ((l : List ℕ) → HoldsLine line l → HoldsLine next (l ++ b ∷ []))
    → Served from bytes line store now sink → Served from (bytes ++ b ∷ []) next store now sink
served_byte from bytes b line next store now sink ne holds s = record {
  lines = s.lines;
  rest = s.rest ++ b ∷ [];
  replies = s.replies;
  splits = Splits-byte bytes s.lines s.rest b s.splits ne;
  buffered = holds s.rest s.buffered;
  run = s.run;
  disk_size = s.disk_size;
  vault_size = s.vault_size;
  printed = s.printed;
  counted = s.counted;
}

-- what is printed of one more line
transcript_more : (taken : List ℕ) (replies : List (List Reply)) (said : List Reply) → (taken ++ transcript_text replies) ++ replies_text said ≡ taken ++ transcript_text (replies ++ said ∷ [])
transcript_more taken replies said =
    append_assoc taken (transcript_text replies) (replies_text said)
    ∙ ap (λ xs. taken ++ xs) (sym (flat_map-append reply_text (all_replies replies) said) ∙ ap replies_text (flat_map_more (λ rs. rs) [] replies said))

-- The line has ended, and is answered.
module _ (from : Beginning) (bytes : List ℕ) (line next : LineBuffer) (was is : Store) (old now : Devices) (before sink : SinkState) (command : Command)
    (spoken : (l : List ℕ) → HoldsLine line l → is_silent l ≡ false)
    (means : (l : List ℕ) → HoldsLine line l → Means l command)
    (clear : HoldsLine next [])
    (disk : GoesOn old.disk now.disk)
    (vault : GoesOn old.vault now.vault)
    (s : Served from bytes line was old before) where
  from_sizes : (state : StoreState) (said : List Reply) → Answered old.disk.size old.vault.size state command said (Shows is now.disk) → Answered from.devices.disk.size from.devices.vault.size state command said (Shows is now.disk)
  from_sizes state said answered =
      let P : ℕ → Type 0 = λ n. Answered n old.vault.size state command said (Shows is now.disk) in
      let Q : ℕ → Type 0 = λ n. Answered from.devices.disk.size n state command said (Shows is now.disk) in
      subst Q s.vault_size (subst P s.disk_size answered)

  spoken_run : (said : List Reply) → RunFrom from (answered s.lines ++ s.rest ∷ []) (s.replies ++ said ∷ []) (Shows is now.disk) → RunFrom from (answered (s.lines ++ s.rest ∷ [])) (s.replies ++ said ∷ []) (Shows is now.disk)
  spoken_run said run =
      let R : List (List ℕ) → Type 0 = λ lines. RunFrom from lines (s.replies ++ said ∷ []) (Shows is now.disk) in
      subst R (sym (answered-spoken s.lines s.rest (spoken s.rest s.buffered))) run

  counted_more : (said : List Reply) → AreCounted said old now → AreCounted (all_replies (s.replies ++ said ∷ [])) from.devices now
  counted_more said counted =
      subst (λ rs. AreCounted rs from.devices now) (flat_map_more (λ rs. rs) [] s.replies said)
      (AreCounted-then (all_replies s.replies) said from.devices old now s.counted counted disk.grew vault.grew)

  -- the sink took its replies
  module _ (sent : Sends command was is old now before.taken sink.taken) where
    run : RunFrom from (answered (s.lines ++ s.rest ∷ [])) (s.replies ++ sent.replies ∷ []) (Shows is now.disk)
    run =
        spoken_run sent.replies
        (Run-more from.devices.disk.size from.devices.vault.size from.state (answered s.lines) s.replies s.rest command sent.replies (Shows was old.disk) (Shows is now.disk) (means s.rest s.buffered)
        (λ state shows. from_sizes state sent.replies (sent.answered state shows)) s.run)

    printed : sink.taken ≡ from.taken ++ transcript_text (s.replies ++ sent.replies ∷ [])
    printed = sent.printed ∙ ap (λ xs. xs ++ replies_text sent.replies) s.printed ∙ transcript_more from.taken s.replies sent.replies

    pub served_line : Served from (bytes ++ 10 ∷ []) next is now sink
    served_line = record {
      lines = s.lines ++ s.rest ∷ [];
      rest = [];
      replies = s.replies ++ sent.replies ∷ [];
      splits = Splits-line bytes s.lines s.rest s.splits;
      buffered = clear;
      run = run;
      disk_size = disk.size ∙ s.disk_size;
      vault_size = vault.size ∙ s.vault_size;
      printed = printed;
      counted = counted_more sent.replies sent.counted;
    }

    -- the script ends with the line
    pub served_end : Transcribes true from bytes (Shows is now.disk) now sink.taken
    served_end = record {
      lines = s.lines;
      rest = s.rest;
      replies = s.replies ++ sent.replies ∷ [];
      splits = s.splits;
      run = (let R : List (List ℕ) → Type 0 = λ lines. RunFrom from lines (s.replies ++ sent.replies ∷ []) (Shows is now.disk) in subst R (sym (answered-with_rest s.lines s.rest)) run);
      printed = printed;
      counted = counted_more sent.replies sent.counted;
    }

  -- the sink failed within them, whatever stands behind the line
  pub served_part : ((state : StoreState) → Shows was old.disk state → SendsPart state command is old now before.taken sink.taken) → (more : List ℕ) → EndsLine more → TranscribesPart from (bytes ++ more) (Shows is now.disk) now sink.taken
  served_part sent more ends =
      let P : List Reply → Type 0 = λ said. IsPart before.taken (replies_text said) sink.taken × AreCounted said old now in
      let chosen = Run-chosen from.devices.disk.size from.devices.vault.size from.state (answered s.lines) s.replies s.rest command (Shows was old.disk) (Shows is now.disk) P (means s.rest s.buffered)
      (λ state shows. let part = sent state shows in (part.replies, from_sizes state part.replies part.answered, (part.part, part.counted))) s.run in
      let last : List Reply = chosen.0 in
      let part : IsPart before.taken (replies_text last) sink.taken = chosen.2.0 in
      record {
        lines = s.lines;
        line = s.rest;
        rest = more;
        replies = s.replies;
        last = last;
        whole = ap (λ xs. xs ++ more) s.splits.whole;
        each = s.splits.each;
        no_feed = s.splits.partial;
        ends = ends;
        run = spoken_run last chosen.1;
        length_taken = part.0;
        printed = part.1 ∙ ap (λ xs. xs ++ take part.0 (replies_text last)) s.printed;
        counted = counted_more last chosen.2.1;
      }

-- the line has ended, and gets no reply
pub served_silent : (from : Beginning) (bytes : List ℕ) (line next : LineBuffer) (store : Store) (now : Devices) (sink : SinkState)
    → ((l : List ℕ) → HoldsLine line l → is_silent l ≡ true) → HoldsLine next []
    → Served from bytes line store now sink → Served from (bytes ++ 10 ∷ []) next store now sink
served_silent from bytes line next store now sink silent clear s = record {
  lines = s.lines ++ s.rest ∷ [];
  rest = [];
  replies = s.replies;
  splits = Splits-line bytes s.lines s.rest s.splits;
  buffered = clear;
  run = (let R : List (List ℕ) → Type 0 = λ lines. RunFrom from lines s.replies (Shows store now.disk) in subst R (sym (answered-silent s.lines s.rest (silent s.rest s.buffered))) s.run);
  disk_size = s.disk_size;
  vault_size = s.vault_size;
  printed = s.printed;
  counted = s.counted;
}

-- the script ends with a line that gets no reply
pub silent_end : (from : Beginning) (bytes : List ℕ) (line : LineBuffer) (store : Store) (now : Devices) (sink : SinkState)
    → ((l : List ℕ) → HoldsLine line l → is_silent l ≡ true)
    → Served from bytes line store now sink → Transcribes true from bytes (Shows store now.disk) now sink.taken
silent_end from bytes line store now sink silent s = record {
  lines = s.lines;
  rest = s.rest;
  replies = s.replies;
  splits = s.splits;
  run = (let R : List (List ℕ) → Type 0 = λ lines. RunFrom from lines s.replies (Shows store now.disk) in
      subst R (sym (answered-silent s.lines s.rest (silent s.rest s.buffered)) ∙ sym (answered-with_rest s.lines s.rest)) s.run);
  printed = s.printed;
  counted = s.counted;
}

-- a job that stops between two bytes, with the rest not executed
pub served_transcribes : (from : Beginning) (bytes : List ℕ) (line : LineBuffer) (store : Store) (now : Devices) (sink : SinkState)
    → Served from bytes line store now sink → Transcribes false from bytes (Shows store now.disk) now sink.taken
served_transcribes from bytes line store now sink s = record {
  lines = s.lines;
  rest = s.rest;
  replies = s.replies;
  splits = s.splits;
  run = s.run;
  printed = s.printed;
  counted = s.counted;
}

-- a job that has read nothing
pub served_none : (seal : Seal) (line : LineBuffer) (now : Devices) (sink : SinkState) → HoldsLine line [] → ShowsSeal now.disk seal → Served (beginning seal now sink) [] line Closed now sink
served_none seal line now sink holds shows = record {
  lines = [];
  rest = [];
  replies = [];
  splits = Splits-none;
  buffered = holds;
  run = shows;
  disk_size = refl;
  vault_size = refl;
  printed = sym (append-nil sink.taken);
  counted = AreCounted-none now;
}

-- ---- a job that has ended, and the store was closed behind it

module _ (from : Beginning) (S T : StoreState → Type 0) (old now : Devices)
    (closes : (state : StoreState) → S state → T state)
    (disk : GoesOn old.disk now.disk)
    (vault : GoesOn old.vault now.vault) where
  closed_run : (lines : List (List ℕ)) (replies : List (List Reply)) → RunFrom from lines replies S → RunFrom from lines replies T
  closed_run lines replies = Run-map from.devices.disk.size from.devices.vault.size from.state lines replies S T closes

  closed_whole : (at_end : Bool) (bytes taken : List ℕ) → Transcribes at_end from bytes S old taken → Transcribes at_end from bytes T now taken
  closed_whole at_end bytes taken t = record {
    lines = t.lines;
    rest = t.rest;
    replies = t.replies;
    splits = t.splits;
    run = closed_run (answered (lines_read at_end t.lines t.rest)) t.replies t.run;
    printed = t.printed;
    counted = AreCounted-after (all_replies t.replies) from.devices old now t.counted disk.grew vault.grew;
  }

  closed_part : (bytes taken : List ℕ) → TranscribesPart from bytes S old taken → TranscribesPart from bytes T now taken
  closed_part bytes taken t = record {
    lines = t.lines;
    line = t.line;
    rest = t.rest;
    replies = t.replies;
    last = t.last;
    whole = t.whole;
    each = t.each;
    no_feed = t.no_feed;
    ends = t.ends;
    run = closed_run (answered (t.lines ++ t.line ∷ [])) (t.replies ++ t.last ∷ []) t.run;
    length_taken = t.length_taken;
    printed = t.printed;
    counted = AreCounted-after (all_replies (t.replies ++ t.last ∷ [])) from.devices old now t.counted disk.grew vault.grew;
  }

  closed_tells : (status : Status) (bytes : List ℕ) (sink : SinkState) → Tells status from bytes S old sink → Tells status from bytes T now sink
  closed_tells ended.Done bytes sink t = closed_whole true bytes sink.taken t
  closed_tells ended.Usage bytes sink t = tt
  closed_tells ended.ReadFault bytes sink t = closed_whole false bytes sink.taken t
  closed_tells ended.WriteFault bytes sink t = closed_part bytes sink.taken t
  closed_tells ended.TooLong bytes sink t = closed_whole false bytes sink.taken t

  pub closed_job : (status : Status) (source left : SourceState) (sink : SinkState) → TellsJob status from source left S old sink → TellsJob status from source left T now sink
  closed_job status source left sink t = record { bytes = t.bytes; read = t.read; tells = closed_tells status t.bytes sink t.tells }
