-- A step of the machine: with more that holds of the states after it, and the state that it ends in.
use Rattle.std.proofs.Common.{◌≡◌, [], ℕ, List, Option, Some, None, take, refl}
use Rattle.sd_base.specs.declared.device.NodeId.{NodeId}
use Rattle.script_text.specs.declared.command.Command.{Command}
use Rattle.script_text.specs.declared.command.Command.TheVariants as asks
use Rattle.script_text.specs.declared.reply.Reply.{Reply}
use Rattle.script_text.specs.declared.reply.Reply.TheVariants as says
use Rattle.record_machine.specs.Commands.{takes}
use Rattle.record_machine.specs.Led.{Broke}
use Rattle.record_machine.specs.Machine.{Machine}
use Rattle.record_machine.specs.Parts.{Part, dos}
use Rattle.record_machine.specs.Steps.{Ahead, Before, Behind, DumpEnds, DumpOrStop, HasLost, HasTaken, LosesIn, Met, StaysAs, StepOrStop, StopsIn, StopsTaking, TakesPages, all_rows, failed, held_by, lost, met, parts_of, refused_for, stopped, take_all, Taking, up_to_held, worker}
use Rattle.record_machine.specs.Stops.{stop}

-- ---- more that holds of the states after it

module _ (S T : Machine → Type 0) (f : (k : Machine) → S k → T k) where
  Broke-map : (n h : ℕ) (ps : List Part) (m : Machine) → Broke n h ps m S → Broke n h ps m T
  Broke-map n h ps m b = record { count = b.count; locked = b.locked; port = b.port; kept = b.kept; within = b.within; shows = f (stop h b.kept (dos (take b.count ps) m)) b.shows }

  HasTaken-map : (m : Machine) (c : Command) → HasTaken m c S → HasTaken m c T
  HasTaken-map m c t = record { count = t.count; free = t.free; after = f (dos (take t.count (takes m c)) m) t.after }

  HasLost-map : (m : Machine) (c : Command) (x : ℕ) → HasLost m c x S → HasLost m c x T
  HasLost-map m c x l = record { count = l.count; free = l.free; last = l.last; gone = l.gone; after = f (dos (take l.count (takes m c)) m) l.after }

  StaysAs-map : (m : Machine) (c : Command) (why : Reply) → StaysAs m c why S → StaysAs m c why T
  StaysAs-map m c why stays = by (met c why) refl
    where
      by : (o : Met) → met c why ≡ o → StaysAs m c why T
      by Before is = let now = rw is at stays in rw is (f m now)
      by Ahead is = let now = rw is at stays in rw is (f m now)
      by Taking is = let now = rw is at stays in rw is (HasTaken-map m c now)
      by Behind is = let now = rw is at stays in rw is (f (dos (takes m c) m) now)

  StopsIn-map : (m : Machine) (c : Command) (h : ℕ) → StopsIn m c h S → StopsIn m c h T
  StopsIn-map m c h stops = by (refused_for m c) refl
    where
      refused : (why : Reply) → refused_for m c ≡ Some why → (o : Met) → met c why ≡ o → StopsIn m c h T
      refused why is Before at = let now = rw (is, at) at stops in absurd now
      refused why is Ahead at = let now = rw (is, at) at stops in rw (is, at) (Broke-map (worker c) h [] m now)
      refused why is Taking at = let now = rw (is, at) at stops in rw (is, at) (Broke-map (worker c) h (up_to_held m (takes m c)) m now)
      refused why is Behind at = let now = rw (is, at) at stops in rw (is, at) (Broke-map (worker c) h (takes m c) m now)

      by : (o : Option Reply) → refused_for m c ≡ o → StopsIn m c h T
      by None is = let now = rw is at stops in rw is (Broke-map (worker c) h (parts_of m c) m now)
      by (Some why) is = refused why is (met c why) refl

  LosesIn-map : (m : Machine) (c : Command) (x : ℕ) → LosesIn m c x S → LosesIn m c x T
  LosesIn-map m c x loses = by (refused_for m c) refl
    where
      refused : (why : Reply) → refused_for m c ≡ Some why → (o : Met) → met c why ≡ o → LosesIn m c x T
      refused why is Before at = let now = rw (is, at) at loses in absurd now
      refused why is Ahead at = let now = rw (is, at) at loses in absurd now
      refused why is Taking at = let now = rw (is, at) at loses in rw (is, at) (HasLost-map m c x now)
      refused why is Behind at = let now = rw (is, at) at loses in rw (is, at) (HasLost-map m c x now)

      by : (o : Option Reply) → refused_for m c ≡ o → LosesIn m c x T
      by None is = let now = rw is at loses in rw is (HasLost-map m c x now)
      by (Some why) is = refused why is (met c why) refl

  pub StepOrStop-map : (m : Machine) (c : Command) (r : Reply) → StepOrStop m c r S → StepOrStop m c r T
  StepOrStop-map m c (says.Stopped h) step = StopsIn-map m c h.0 step
  StepOrStop-map m c (says.Fault h) step = StopsIn-map m c h.0 step
  StepOrStop-map m c (says.LostPage x) step = LosesIn-map m c x.0 step
  StepOrStop-map m c r step = by (refused_for m c) refl
    where
      by : (o : Option Reply) → refused_for m c ≡ o → StepOrStop m c r T
      by None is = let now = rw is at step in rw is (now.0, f (dos (parts_of m c) m) now.1)
      by (Some why) is = let now = rw is at step in rw is (now.0, StaysAs-map m c why now.1)

  TakesPages-map : (m : Machine) (n : NodeId) → TakesPages m n S → TakesPages m n T
  TakesPages-map m n t = record { pages = t.pages; in_use = t.in_use; mapped = t.mapped; free = t.free; after = f (dos (take_all n.0 t.pages) m) t.after }

  StopsTaking-map : (m : Machine) (n : NodeId) (h : ℕ) → StopsTaking m n h S → StopsTaking m n h T
  StopsTaking-map m n h s = record { pages = s.pages; in_use = s.in_use; mapped = s.mapped; free = s.free; after = Broke-map n.0 h (take_all n.0 s.pages) m s.after }

  DumpEnds-map : (m : Machine) (n : NodeId) (said : List Reply) → DumpEnds m n said S → DumpEnds m n said T
  DumpEnds-map m n said (all_rows rows takes) = all_rows rows (TakesPages-map m n takes)
  DumpEnds-map m n said (held_by x h rows page takes) = held_by x h rows page (TakesPages-map m n takes)
  DumpEnds-map m n said (lost x rows page takes) = lost x rows page (TakesPages-map m n takes)
  DumpEnds-map m n said (stopped h rows stops) = stopped h rows (StopsTaking-map m n h.0 stops)
  DumpEnds-map m n said (failed h rows stops) = failed h rows (StopsTaking-map m n h.0 stops)

  pub DumpOrStop-map : (m : Machine) (n : NodeId) (said : List Reply) → DumpOrStop m n said S → DumpOrStop m n said T
  DumpOrStop-map m n said step = by (refused_for m (asks.Dump n)) refl
    where
      by : (o : Option Reply) → refused_for m (asks.Dump n) ≡ o → DumpOrStop m n said T
      by None is = let now = rw is at step in rw is (DumpEnds-map m n said now)
      by (Some why) is = let now = rw is at step in rw is (now.0, f m now.1)

-- ---- the state that it ends in

-- one of S, and it is this one
abbrev Ends : ((Machine → Type 0) → Type 0) → (Machine → Type 0) → Type 0
Ends X S = (k : Machine) × S k × X (λ j. j ≡ k)

module _ (S : Machine → Type 0) where
  Broke-end : (n h : ℕ) (ps : List Part) (m : Machine) → Broke n h ps m S → Ends (Broke n h ps m) S
  Broke-end n h ps m b = (_, b.shows, record { count = b.count; locked = b.locked; port = b.port; kept = b.kept; within = b.within; shows = refl })

  HasTaken-end : (m : Machine) (c : Command) → HasTaken m c S → Ends (HasTaken m c) S
  HasTaken-end m c t = (_, t.after, record { count = t.count; free = t.free; after = refl })

  HasLost-end : (m : Machine) (c : Command) (x : ℕ) → HasLost m c x S → Ends (HasLost m c x) S
  HasLost-end m c x l = (_, l.after, record { count = l.count; free = l.free; last = l.last; gone = l.gone; after = refl })

  StaysAs-end : (m : Machine) (c : Command) (why : Reply) → StaysAs m c why S → Ends (StaysAs m c why) S
  StaysAs-end m c why stays = by (met c why) refl
    where
      by : (o : Met) → met c why ≡ o → Ends (StaysAs m c why) S
      by Before is = let now = rw is at stays in (m, now, rw is refl)
      by Ahead is = let now = rw is at stays in (m, now, rw is refl)
      by Taking is = let end = HasTaken-end m c (rw is at stays) in (end.0, end.1, rw is end.2)
      by Behind is = let now = rw is at stays in (dos (takes m c) m, now, rw is refl)

  StopsIn-end : (m : Machine) (c : Command) (h : ℕ) → StopsIn m c h S → Ends (StopsIn m c h) S
  StopsIn-end m c h stops = by (refused_for m c) refl
    where
      refused : (why : Reply) → refused_for m c ≡ Some why → (o : Met) → met c why ≡ o → Ends (StopsIn m c h) S
      refused why is Before at = let now = rw (is, at) at stops in absurd now
      refused why is Ahead at = let now = rw (is, at) at stops in let end = Broke-end (worker c) h [] m now in (end.0, end.1, rw (is, at) end.2)
      refused why is Taking at = let now = rw (is, at) at stops in let end = Broke-end (worker c) h (up_to_held m (takes m c)) m now in (end.0, end.1, rw (is, at) end.2)
      refused why is Behind at = let now = rw (is, at) at stops in let end = Broke-end (worker c) h (takes m c) m now in (end.0, end.1, rw (is, at) end.2)

      by : (o : Option Reply) → refused_for m c ≡ o → Ends (StopsIn m c h) S
      by None is = let now = rw is at stops in let end = Broke-end (worker c) h (parts_of m c) m now in (end.0, end.1, rw is end.2)
      by (Some why) is = refused why is (met c why) refl

  LosesIn-end : (m : Machine) (c : Command) (x : ℕ) → LosesIn m c x S → Ends (LosesIn m c x) S
  LosesIn-end m c x loses = by (refused_for m c) refl
    where
      refused : (why : Reply) → refused_for m c ≡ Some why → (o : Met) → met c why ≡ o → Ends (LosesIn m c x) S
      refused why is Before at = let now = rw (is, at) at loses in absurd now
      refused why is Ahead at = let now = rw (is, at) at loses in absurd now
      refused why is Taking at = let now = rw (is, at) at loses in let end = HasLost-end m c x now in (end.0, end.1, rw (is, at) end.2)
      refused why is Behind at = let now = rw (is, at) at loses in let end = HasLost-end m c x now in (end.0, end.1, rw (is, at) end.2)

      by : (o : Option Reply) → refused_for m c ≡ o → Ends (LosesIn m c x) S
      by None is = let now = rw is at loses in let end = HasLost-end m c x now in (end.0, end.1, rw is end.2)
      by (Some why) is = refused why is (met c why) refl

  pub StepOrStop-end : (m : Machine) (c : Command) (r : Reply) → StepOrStop m c r S → (k : Machine) × S k × StepOrStop m c r (λ j. j ≡ k)
  StepOrStop-end m c (says.Stopped h) step = StopsIn-end m c h.0 step
  StepOrStop-end m c (says.Fault h) step = StopsIn-end m c h.0 step
  StepOrStop-end m c (says.LostPage x) step = LosesIn-end m c x.0 step
  StepOrStop-end m c r step = by (refused_for m c) refl
    where
      by : (o : Option Reply) → refused_for m c ≡ o → (k : Machine) × S k × StepOrStop m c r (λ j. j ≡ k)
      by None is = let now = rw is at step in (dos (parts_of m c) m, now.1, rw is (now.0, refl))
      by (Some why) is = let now = rw is at step in let end = StaysAs-end m c why now.1 in (end.0, end.1, rw is (now.0, end.2))

  TakesPages-end : (m : Machine) (n : NodeId) → TakesPages m n S → Ends (TakesPages m n) S
  TakesPages-end m n t = (_, t.after, record { pages = t.pages; in_use = t.in_use; mapped = t.mapped; free = t.free; after = refl })

  StopsTaking-end : (m : Machine) (n : NodeId) (h : ℕ) → StopsTaking m n h S → Ends (StopsTaking m n h) S
  StopsTaking-end m n h s = let end = Broke-end n.0 h (take_all n.0 s.pages) m s.after in (end.0, end.1, record { pages = s.pages; in_use = s.in_use; mapped = s.mapped; free = s.free; after = end.2 })

  DumpEnds-end : (m : Machine) (n : NodeId) (said : List Reply) → DumpEnds m n said S → Ends (DumpEnds m n said) S
  DumpEnds-end m n said (all_rows rows takes) = let end = TakesPages-end m n takes in (end.0, end.1, all_rows rows end.2)
  DumpEnds-end m n said (held_by x h rows page takes) = let end = TakesPages-end m n takes in (end.0, end.1, held_by x h rows page end.2)
  DumpEnds-end m n said (lost x rows page takes) = let end = TakesPages-end m n takes in (end.0, end.1, lost x rows page end.2)
  DumpEnds-end m n said (stopped h rows stops) = let end = StopsTaking-end m n h.0 stops in (end.0, end.1, stopped h rows end.2)
  DumpEnds-end m n said (failed h rows stops) = let end = StopsTaking-end m n h.0 stops in (end.0, end.1, failed h rows end.2)

  pub DumpOrStop-end : (m : Machine) (n : NodeId) (said : List Reply) → DumpOrStop m n said S → (k : Machine) × S k × DumpOrStop m n said (λ j. j ≡ k)
  DumpOrStop-end m n said step = by (refused_for m (asks.Dump n)) refl
    where
      by : (o : Option Reply) → refused_for m (asks.Dump n) ≡ o → (k : Machine) × S k × DumpOrStop m n said (λ j. j ≡ k)
      by None is = let now = rw is at step in let end = DumpEnds-end m n said now in (end.0, end.1, rw is end.2)
      by (Some why) is = let now = rw is at step in (m, now.1, rw is (now.0, refl))
