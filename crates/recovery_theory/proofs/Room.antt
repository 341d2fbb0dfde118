-- The logs keep their rules and their room, wherever they are cut.
use Rattle.std.proofs.lemmas.List.{drop_all}
use Rattle.std.proofs.Common.{◌≡◌, ℕ, zero, suc, ◌+◌, ◌-◌, ◌≤◌, false, List, [], ◌∷◌, ◌++◌, length, take, drop, refl, sym, subst, arith, length-append, length-drop, length-take-le, take-append-drop}
use Rattle.log_record.specs.declared.record.LogRecord.{LogRecord}
use Rattle.recovery_theory.specs.Effect.{effect_of}
use Rattle.recovery_theory.specs.Standing.{Devices}
use Rattle.recovery_theory.specs.Steps.{moved, set_at, with_record}
use Rattle.recovery_theory.specs.Rules.{EndsNone, IsRuled, RuleOf, is_end, owed_by}
use Rattle.recovery_theory.specs.Room.{AreSoundLogs, EndKeepsRoom, ForceKeepsRoom, HasRoom, LoggedKeepsRoom, MoveKeepsRoom, SoundAtCuts, StopKeepsRoom}
use Rattle.recovery_theory.proofs.Cuts.{at_or_off, set_at-other, set_at-same, with_record-other, with_record-same}
use Rattle.recovery_theory.proofs.OwedRecords.{cuts_owe_no_more}
use Rattle.recovery_theory.proofs.RuledLogs.{ruled_fronts, ruled_more}
use Rattle.recovery_theory.proofs.LaterLogs.{owes_later, ruled_later}

-- ---- what is behind a place

-- a part of a log in which no transaction ends
ends_drop : (k : ℕ) (l : List LogRecord) → EndsNone l → EndsNone (drop k l)
ends_drop zero l h = h
ends_drop (suc k) [] h = tt
ends_drop (suc k) (r ∷ l) h = ends_drop k l h.1

pub ends_later : (j k : ℕ) (l : List LogRecord) → j ≤ k → EndsNone (drop j l) → EndsNone (drop k l)
ends_later zero k l le h = ends_drop k l h
ends_later (suc j) zero l le h = absurd (omega arith)
ends_later (suc j) (suc k) [] le h = tt
ends_later (suc j) (suc k) (r ∷ l) le h = ends_later j k l (omega arith) h

ends_front : (a b : List LogRecord) → EndsNone (a ++ b) → EndsNone a
ends_front [] b h = tt
ends_front (r ∷ a) b h = (h.0, ends_front a b h.1)

ends_push : (l : List LogRecord) (r : LogRecord) → EndsNone l → is_end (effect_of r) ≡ false → EndsNone (l ++ r ∷ [])
ends_push [] r h e = (e, tt)
ends_push (a ∷ l) r h e = (h.0, ends_push l r h.1 e)

-- the rest of a log, with one more record
pub drop_push : (k : ℕ) (l : List LogRecord) (r : LogRecord) → k ≤ length l → drop k (l ++ r ∷ []) ≡ drop k l ++ r ∷ []
drop_push zero l r le = refl
drop_push (suc k) [] r le = absurd (omega arith)
drop_push (suc k) (a ∷ l) r le = drop_push k l r (omega arith)

-- a front behind which no transaction ends has room
fits_front : (w : Devices) (n k : ℕ) (l : List LogRecord) → IsRuled (w.first n) [] l → EndsNone (drop k l) → HasRoom w n l → HasRoom w n (take k l)
fits_front w n k l ruled none fits =
    let whole : take k l ++ drop k l ≡ l = take-append-drop k l in
    let r = cuts_owe_no_more (w.first n) (take k l) (drop k l) (subst (IsRuled (w.first n) []) (sym whole) ruled) none in
    let r' : length (take k l) + owed_by (w.first n) (take k l) ≤ length l + owed_by (w.first n) l = subst (λ z. length (take k l) + owed_by (w.first n) (take k l) ≤ length z + owed_by (w.first n) z) whole r in
    record { room = omega (arith, fits.room); last = omega (arith, fits.last) }

-- a front keeps the rules
ruled_take : (first k : ℕ) (l : List LogRecord) → IsRuled first [] l → IsRuled first [] (take k l)
ruled_take first k l h = ruled_fronts first (take k l) (drop k l) (subst (IsRuled first []) (sym (take-append-drop k l)) h)

pub sound_at_cuts : SoundAtCuts
sound_at_cuts p cut history roomy is = record {
  ruled = λ n. ruled_take (p.devices.first n) (cut n) (p.live n) (roomy.whole.ruled n);
  fits = λ n. fits_front p.devices n (cut n) (p.live n) (roomy.whole.ruled n) (ends_later (p.stable n) (cut n) (p.live n) (is n).0 (roomy.loose n)) (roomy.whole.fits n);
}

-- ---- steps

-- a log with one more record that keeps its rule and has room
sound_more : (w : Devices) (n : ℕ) (r : LogRecord) (logs : ℕ → List LogRecord) → AreSoundLogs w logs → RuleOf (w.first n) (logs n) r (effect_of r) → HasRoom w n (logs n ++ r ∷ []) → AreSoundLogs w (with_record n r logs)
sound_more w n r logs sound rule fits = record {
  ruled = at_or_off (λ m. IsRuled (w.first m) [] (with_record n r logs m)) n (rw (with_record-same n r logs) (ruled_more (w.first n) (logs n) r (sound.ruled n) rule)) (λ m d. rw (with_record-other n r logs m d) (sound.ruled m));
  fits = at_or_off (λ m. HasRoom w m (with_record n r logs m)) n (rw (with_record-same n r logs) fits) (λ m d. rw (with_record-other n r logs m d) (sound.fits m));
}

pub logged_keeps_room : LoggedKeepsRoom
logged_keeps_room p n r entry now last history roomy rule end fits = record {
  whole = sound_more p.devices n r p.live roomy.whole rule fits;
  loose = at_or_off (λ m. EndsNone (drop (p.stable m) (with_record n r p.live m))) n
      (rw (with_record-same n r p.live, drop_push (p.stable n) (p.live n) r (history.sound n)) (ends_push (drop (p.stable n) (p.live n)) r (roomy.loose n) end))
      (λ m d. rw (with_record-other n r p.live m d) (roomy.loose m));
}

pub end_keeps_room : EndKeepsRoom
end_keeps_room p n t r roomy rule fits = record {
  whole = sound_more p.devices n r p.live roomy.whole rule fits;
  loose = at_or_off (λ m. EndsNone (drop (set_at n (suc (length (p.live n))) p.stable m) (with_record n r p.live m))) n
      (rw (set_at-same n (suc (length (p.live n))) p.stable, with_record-same n r p.live, drop_all (suc (length (p.live n))) (p.live n ++ r ∷ []) (omega (arith, length-append (p.live n) (r ∷ [])))) tt)
      (λ m d. rw (set_at-other n (suc (length (p.live n))) p.stable m d, with_record-other n r p.live m d) (roomy.loose m));
}

pub force_keeps_room : ForceKeepsRoom
force_keeps_room p n k roomy low = record {
  whole = roomy.whole;
  loose = at_or_off (λ m. EndsNone (drop (set_at n k p.stable m) (p.live m))) n
      (rw (set_at-same n k p.stable) (ends_later (p.stable n) k (p.live n) low (roomy.loose n)))
      (λ m d. rw (set_at-other n k p.stable m d) (roomy.loose m));
}

pub stop_keeps_room : StopKeepsRoom
stop_keeps_room p n k history roomy place = record {
  whole = record {
    ruled = at_or_off (λ m. IsRuled (p.devices.first m) [] (set_at n (take k (p.live n)) p.live m)) n
        (rw (set_at-same n (take k (p.live n)) p.live) (ruled_take (p.devices.first n) k (p.live n) (roomy.whole.ruled n)))
        (λ m d. rw (set_at-other n (take k (p.live n)) p.live m d) (roomy.whole.ruled m));
    fits = at_or_off (λ m. HasRoom p.devices m (set_at n (take k (p.live n)) p.live m)) n
        (rw (set_at-same n (take k (p.live n)) p.live) (fits_front p.devices n k (p.live n) (roomy.whole.ruled n) (ends_later (p.stable n) k (p.live n) place.low (roomy.loose n)) (roomy.whole.fits n)))
        (λ m d. rw (set_at-other n (take k (p.live n)) p.live m d) (roomy.whole.fits m));
  };
  loose = at_or_off (λ m. EndsNone (drop (set_at n k p.stable m) (set_at n (take k (p.live n)) p.live m))) n
      (rw (set_at-same n k p.stable, set_at-same n (take k (p.live n)) p.live, drop_all k (take k (p.live n)) (omega (arith, length-take-le k (p.live n) place.high))) tt)
      (λ m d. rw (set_at-other n k p.stable m d, set_at-other n (take k (p.live n)) p.live m d) (roomy.loose m));
}

pub move_keeps_room : MoveKeepsRoom
move_keeps_room p n c roomy whole le =
    let same : take c (p.live n) ++ drop c (p.live n) ≡ p.live n = take-append-drop c (p.live n) in
    let len : length (take c (p.live n)) ≡ c = length-take-le c (p.live n) le in
    let fits = roomy.whole.fits n in
    let ruled : IsRuled (p.devices.first n + c) [] (drop c (p.live n)) =
    subst (λ k. IsRuled (p.devices.first n + k) [] (drop c (p.live n))) len (ruled_later (p.devices.first n) (take c (p.live n)) (drop c (p.live n)) (subst (IsRuled (p.devices.first n) []) (sym same) (roomy.whole.ruled n))) in
    let owed : owed_by (p.devices.first n + c) (drop c (p.live n)) ≤ owed_by (p.devices.first n) (p.live n) =
    subst (λ k. owed_by (p.devices.first n + k) (drop c (p.live n)) ≤ owed_by (p.devices.first n) (p.live n)) len (subst (λ l. owed_by (p.devices.first n + length (take c (p.live n))) (drop c (p.live n)) ≤ owed_by (p.devices.first n) l) same (owes_later (p.devices.first n) (take c (p.live n)) (drop c (p.live n)))) in
    record {
      whole = record {
        ruled = at_or_off (λ m. IsRuled (set_at n (p.devices.first n + c) p.devices.first m) [] (set_at n (drop c (p.live n)) p.live m)) n
            (rw (set_at-same n (p.devices.first n + c) p.devices.first, set_at-same n (drop c (p.live n)) p.live) ruled)
            (λ m d. rw (set_at-other n (p.devices.first n + c) p.devices.first m d, set_at-other n (drop c (p.live n)) p.live m d) (roomy.whole.ruled m));
        fits = at_or_off (λ m. HasRoom (moved p n c).devices m (set_at n (drop c (p.live n)) p.live m)) n
            (record {
              room = rw (set_at-same n (p.devices.first n + c) p.devices.first, set_at-same n (drop c (p.live n)) p.live) (omega (arith, fits.room, length-drop c (p.live n)));
              last = rw (set_at-same n (p.devices.first n + c) p.devices.first, set_at-same n (drop c (p.live n)) p.live) (omega (arith, fits.last, length-drop c (p.live n)));
            })
            (λ m d. record {
              room = rw (set_at-other n (p.devices.first n + c) p.devices.first m d, set_at-other n (drop c (p.live n)) p.live m d) (roomy.whole.fits m).room;
              last = rw (set_at-other n (p.devices.first n + c) p.devices.first m d, set_at-other n (drop c (p.live n)) p.live m d) (roomy.whole.fits m).last;
            });
      };
      loose = at_or_off (λ m. EndsNone (drop (set_at n (p.stable n - c) p.stable m) (set_at n (drop c (p.live n)) p.live m))) n
          (rw (set_at-same n (p.stable n - c) p.stable, set_at-same n (drop c (p.live n)) p.live, drop_all (p.stable n - c) (drop c (p.live n)) (omega (arith, length-drop c (p.live n)))) tt)
          (λ m d. rw (set_at-other n (p.stable n - c) p.stable m d, set_at-other n (drop c (p.live n)) p.live m d) (roomy.loose m));
    }
