-- A store endures that a node takes a page, which another one gives up first.
use Rattle.std.specs.Prelude.{◌≡◌, ◌≢◌, ◌<◌, ◌≤◌, ◌∷◌, [], ℕ, zero, suc, Bool, true, false, not, IfSome, IsOk, List, None, Some, Result, Err, drop, length, refl, take}
use Rattle.std.proofs.Common.{inl, inr, ap, subst, sym, ◌∙◌}
use Rattle.sd_base.specs.Disk.{BlockState}
use Rattle.sd_base.specs.Shape.{page_count}
use Rattle.sd_base.specs.declared.device.NodeId.{NodeId}
use Rattle.sd_base.specs.declared.names.PageNo.{PageNo}
use Rattle.page_owner.specs.declared.owners.Own.{Own}
use Rattle.page_owner.specs.declared.owners.Own.TheVariants.{Nobody, Out, Parked}
use Rattle.page_owner.specs.Owners.{owner_of}
use Rattle.script_text.specs.declared.reply.Reply.{Reply}
use Rattle.script_text.specs.declared.reply.Reply.TheVariants as says
use Rattle.record_machine.specs.Commands.{where_so}
use Rattle.record_machine.specs.Led.{Broke, LedErr, LedOnStop, TakesFrom}
use Rattle.record_machine.specs.Machine.{Machine}
use Rattle.record_machine.specs.Meaning.{Plain}
use Rattle.record_machine.specs.Parts.{Drop, Part, Take, dos, one}
use Rattle.record_machine.specs.Stops.{stop}
use Rattle.record_machine.proofs.SameHolds.{passed_holds, passed_loose}
use Rattle.store_nodes.specs.declared.store.Store.{Store}
use Rattle.store_nodes.specs.Endures.{Endures, EnduresAs}
use Rattle.store_nodes.specs.Known.{held_by, held_in}
use Rattle.store_nodes.specs.Nodes.{IsHeldBy, is_up, node_at}
use Rattle.store_nodes.specs.Ports.{IsStopReply}
use Rattle.store_nodes.specs.Shows.{holder}
use Rattle.store_nodes.proofs.Broken.{no_unlock}
use Rattle.store_pages.proofs.FetchEndures.{endures_same, endures_stop_same}
use Rattle.store_pages.proofs.PageReplies.{never}

-- ---- where a node stopped

-- a front of no parts is none
none_taken : (k : ℕ) → take {A = Part} k [] ≡ []
none_taken zero = refl
none_taken (suc k) = refl

none_left : (k : ℕ) → drop {A = Part} k [] ≡ []
none_left zero = refl
none_left (suc k) = refl

module _ (n x : ℕ) (m : Machine) (S : Machine → Type 0) where
  -- the holder of the page stopped before it was taken,
  pub broke_before : (h k : ℕ) → k ≡ h → m.hold x ≡ Some h → Broke h k [] m S → Broke n k (Take x n ∷ []) m S
  broke_before h k same holds b = record {
    count = 0;
    locked = no_unlock [] refl;
    port = inr (holds ∙ ap Some (sym same));
    kept = b.kept;
    within = subst (λ ps. b.kept ≤ length ((dos ps m).loose k)) (none_taken b.count) b.within;
    shows = subst (λ ps. S (stop k b.kept (dos ps m))) (none_taken b.count) b.shows;
  }

  -- or the node that took it, behind that
  pub broke_behind : (m' : Machine) (k : ℕ) → ((kept : ℕ) → kept ≤ length (m'.loose k) → S (stop k kept m') → (kept ≤ length ((one (Take x n) m).loose k)) × S (stop k kept (one (Take x n) m))) → Broke n k [] m' S → Broke n k (Take x n ∷ []) m S
  broke_behind m' k same b =
      let now = same b.kept (subst (λ ps. b.kept ≤ length ((dos ps m').loose k)) (none_taken b.count) b.within) (subst (λ ps. S (stop k b.kept (dos ps m'))) (none_taken b.count) b.shows) in
      record {
        count = 1;
        locked = no_unlock (Take x n ∷ []) refl;
        port = inl (elim b.port [ inl here ↦ here | inr from ↦ absurd (subst (λ ps. TakesFrom k ps (dos (take b.count []) m')) (none_left b.count) from) ]);
        kept = b.kept;
        within = now.0;
        shows = now.1;
      }

  -- so the reply says
  pub led_before : (h : ℕ) (why : Reply) → IsStopReply h why → m.hold x ≡ Some h → LedErr h why [] m S → LedOnStop n why (Take x n ∷ []) m S
  led_before h (says.Stopped k) is holds led = broke_before h k.0 is holds led
  led_before h (says.Fault k) is holds led = broke_before h k.0 is holds led
  led_before h why is holds led = absurd led

  pub led_behind : (m' : Machine) (why : Reply) → ((k kept : ℕ) → kept ≤ length (m'.loose k) → S (stop k kept m') → (kept ≤ length ((one (Take x n) m).loose k)) × S (stop k kept (one (Take x n) m))) → LedOnStop n why [] m' S → LedOnStop n why (Take x n ∷ []) m S
  led_behind m' (says.Stopped k) same led = broke_behind m' k.0 (same k.0) led
  led_behind m' (says.Fault k) same led = broke_behind m' k.0 (same k.0) led
  led_behind m' why same led = tt

-- a node that is down has the page: no node stops
pub led_held : {T : Type 0} (c : Store) (x : PageNo) (n : ℕ) (result : Result T Reply) (why : Reply) (ps : List Part) (m : Machine) (S : Machine → Type 0) → result ≡ Err why → IfSome (held_in c x) (λ r. result ≡ Err r) → (held_in c x ≡ None → IsOk result) → LedOnStop n why ps m S
led_held c x n result why ps m S failed held free = by (owner_of c.shared.owners x.0) held free
  where
    on : (h : NodeId) (b : Bool) → IfSome (where_so (not b) (says.Held x h)) (λ r. result ≡ Err r) → (where_so (not b) (says.Held x h) ≡ None → IsOk result) → LedOnStop n why ps m S
    on h true is none = absurd (never result why (none refl) failed)
    on h false is none = let both = sym failed ∙ is in let same : why ≡ says.Held x h = cc in subst (λ r. LedOnStop n r ps m S) (sym same) tt

    by : (own : Own) → IfSome (held_by c x own) (λ r. result ≡ Err r) → (held_by c x own ≡ None → IsOk result) → LedOnStop n why ps m S
    by Nobody is none = absurd (never result why (none refl) failed)
    by (Parked h) is none = on h (is_up (node_at c.nodes h.0)) is none
    by (Out h) is none = on h (is_up (node_at c.nodes h.0)) is none

-- ---- a page that was given up and then taken has passed

-- another node has it
pub held_there : (c : Store) (b : ℕ → BlockState) (p : Plain) (m : Machine) (x : PageNo) (h : NodeId) → x.0 < page_count c.shape → IsHeldBy h (owner_of c.shared.owners x.0) → EnduresAs c b p m → m.hold x.0 ≡ Some h.0
held_there c b p m x h within held e = e.nodes.hold x.0 within ∙ elim held [ inl is_parked ↦ ap holder is_parked | inr out ↦ ap holder out ]

module _ (c : Store) (b : ℕ → BlockState) (m : Machine) (x n h : ℕ) (held : m.hold x ≡ Some h) (far : h ≢ n) where
  abbrev passing : Machine
  passing = one (Take x n) (one (Drop x) m)

  same_loose : (j : ℕ) → (one (Take x n) m).loose j ≡ passing.loose j
  same_loose j = sym (passed_loose m x n j (λ here. (let both : Some h ≡ Some n = sym held ∙ here in let same : h ≡ n = cc in absurd (far same))))

  pub endures_passed : Endures c b passing → Endures c b (one (Take x n) m)
  endures_passed was = (was.0, endures_same c b was.0 passing (one (Take x n) m).hold (one (Take x n) m).loose (λ y. sym (passed_holds m x n y)) same_loose was.1)

  pub stop_passed : (k kept : ℕ) → kept ≤ length (passing.loose k) → Endures c b (stop k kept passing) → (kept ≤ length ((one (Take x n) m).loose k)) × Endures c b (stop k kept (one (Take x n) m))
  stop_passed k kept within was = (
    subst (λ l. kept ≤ length l) (sym (same_loose k)) within,
    (was.0, endures_stop_same c b was.0 passing (one (Take x n) m).hold (one (Take x n) m).loose k kept (λ y. sym (passed_holds m x n y)) same_loose was.1),
  )
