-- The texts of replies: one line each.
use Rattle.std.specs.Prelude.{ℕ, List, [], ◌∷◌, ◌++◌, codes, decimal}
use Rattle.script_text.specs.Spelling.{spelled}
use Rattle.script_text.specs.Words.{spaced, txn_word}
use Rattle.script_text.specs.declared.reply.Reply.{Reply}
use Rattle.script_text.specs.declared.reply.Reply.TheVariants.{Fine, Found, Absent, Flushed, Row, NoMore, EndDump, StatUp, StatIdle, StatDown, Bad, Closed, Formatted, SmallDisk, SmallVault, NoMem, NoNode, NotUp, NotIdle, Busy, Reopening, NotTxn, Locked, LocksFull, Held, LostPage, Limit, NoSpace, TooLong, LogFull, Stopped, Fault, DamagedDisk}

-- the words of a reply. A value stands last, as its spelling, which may be empty and may have spaces. `NoMore` isn't printed
abbrev pub reply_words : Reply → List (List ℕ)
reply_words Fine = codes "ok" ∷ []
reply_words (Found v) = codes "value" ∷ spelled v ∷ []
reply_words Absent = codes "absent" ∷ []
reply_words (Flushed count) = codes "flushed" ∷ decimal count ∷ []
reply_words (Row key v) = codes "record" ∷ decimal key.0 ∷ spelled v ∷ []
reply_words NoMore = []
reply_words (EndDump count) = codes "end" ∷ decimal count ∷ []
reply_words (StatUp used owed room) = codes "stat up" ∷ decimal used ∷ decimal owed ∷ decimal room ∷ []
reply_words StatIdle = codes "stat idle" ∷ []
reply_words StatDown = codes "stat down" ∷ []
reply_words Bad = codes "bad" ∷ []
reply_words Closed = codes "closed" ∷ []
reply_words Formatted = codes "formatted" ∷ []
reply_words (SmallDisk need have) = codes "small disk" ∷ decimal need ∷ decimal have ∷ []
reply_words (SmallVault need have) = codes "small vault" ∷ decimal need ∷ decimal have ∷ []
reply_words NoMem = codes "nomem" ∷ []
reply_words (NoNode node) = codes "nonode" ∷ decimal node.0 ∷ []
reply_words (NotUp node) = codes "notup" ∷ decimal node.0 ∷ []
reply_words (NotIdle node) = codes "notidle" ∷ decimal node.0 ∷ []
reply_words (Busy txn) = codes "busy" ∷ txn_word txn ∷ []
reply_words (Reopening node) = codes "reopening" ∷ decimal node.0 ∷ []
reply_words (NotTxn txn) = codes "notxn" ∷ txn_word txn ∷ []
reply_words (Locked txn) = codes "locked" ∷ txn_word txn ∷ []
reply_words LocksFull = codes "locksfull" ∷ []
reply_words (Held page node) = codes "held" ∷ decimal page.0 ∷ decimal node.0 ∷ []
reply_words (LostPage page) = codes "lost" ∷ decimal page.0 ∷ []
reply_words (Limit page) = codes "limit" ∷ decimal page.0 ∷ []
reply_words (NoSpace page) = codes "nospace" ∷ decimal page.0 ∷ []
reply_words (TooLong len) = codes "toolong" ∷ decimal len ∷ []
reply_words (LogFull need room) = codes "logfull" ∷ decimal need ∷ decimal room ∷ []
reply_words (Stopped node) = codes "stopped" ∷ decimal node.0 ∷ []
reply_words (Fault node) = codes "fault" ∷ decimal node.0 ∷ []
reply_words (DamagedDisk block) = codes "damaged disk" ∷ decimal block.0 ∷ []

-- the line of a reply: its words with one space between, and a line feed
abbrev pub reply_text : Reply → List ℕ
reply_text r = spaced (reply_words r) ++ codes "\n"
