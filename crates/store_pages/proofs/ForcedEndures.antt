-- A store endures a call of a node that makes its log stable: what it leaves, done or stopped.
use Rattle.std.specs.Prelude.{◌≡◌, ◌-◌, ◌*◌, ◌/◌, ◌≤◌, ℕ, All, List, length, map, refl}
use Rattle.std.proofs.Common.{arith, ap, subst, sym, ◌∙◌}
use Rattle.sd_base.specs.Disk.{BlockState}
use Rattle.sd_base.specs.Calls.{KeepsForeign, KeepsForeignBut, Narrows}
use Rattle.log_record.specs.Legal.{IsLegal}
use Rattle.log_record.specs.Text.{record_text}
use Rattle.private_log.specs.Frames.{NarrowsBeside}
use Rattle.private_log.specs.Log.{IsLogOn, SameLog, region, tail_place}
use Rattle.private_log.specs.Spread.{IsCutLog, IsStill}
use Rattle.node_cache.specs.Cache.{CacheState, written_back}
use Rattle.txn_core.specs.Seats.{SeatsState}
use Rattle.recovery_theory.specs.History.{History}
use Rattle.recovery_theory.specs.Steps.{forced}
use Rattle.recovery_theory.proofs.Cuts.{set_at-other, set_at-same}
use Rattle.record_machine.specs.Cuts.{Survives, SurvivesAs}
use Rattle.record_machine.specs.Machine.{Machine}
use Rattle.record_machine.specs.Meaning.{Plain}
use Rattle.record_machine.specs.Parts.{Sure, one}
use Rattle.record_machine.proofs.StillStops.{forced_survives, sure_survives}
use Rattle.store_nodes.specs.declared.node.Node.TheVariants.{Up}
use Rattle.store_nodes.specs.declared.store.Store.{Store}
use Rattle.store_nodes.specs.Endures.{Endures, EnduresAs, MayHalt, with_held}
use Rattle.store_nodes.specs.Nodes.{IsPlace, IsStore, node_at, with_node}
use Rattle.store_nodes.specs.Ports.{IsQuiet}
use Rattle.store_nodes.specs.Shows.{ShowsNode}
use Rattle.store_nodes.specs.Tied.{TiesNode, TiesUp}
use Rattle.store_nodes.proofs.Logs as logs
use Rattle.store_nodes.proofs.RingEndures.{ring_endures, ring_halts}
use Rattle.store_nodes.proofs.ShownLogged.{length_shown}
use Rattle.store_nodes.proofs.Ties.{stable_cut}
use Rattle.store_pages.proofs.Flushed.{up_kept}

module _ (me : Store) (n i : ℕ) (c d : CacheState) (seats : SeatsState) (is : IsStore me) (place : IsPlace n) (at : i ≡ n - 1) (up : node_at me.nodes n ≡ Up c seats) (b b' : ℕ → BlockState) (m : Machine) (was : Endures me b m)
    (narrows : NarrowsBeside (tail_place c.log) b b') (foreign : KeepsForeignBut (tail_place c.log) c.node.0 b b') (quiet : IsQuiet me b) where
  abbrev p : Plain
  p = was.0

  abbrev e : EnduresAs me b p m
  e = was.1

  abbrev h : History
  h = e.history

  abbrev h' : History
  h' = forced h n (length (h.live n))

  low : n ≤ me.shape.nodes
  low = logs.low me n i c d seats seats is place at up

  mine : ShowsNode me.shape me.shared.pool n (Up c seats) b p (with_held e.held m)
  mine = subst (λ o. ShowsNode me.shape me.shared.pool n o b p (with_held e.held m)) up (e.nodes.node n place low)

  tied : TiesUp n c seats h
  tied = subst (λ o. TiesNode me.shape n o b h) up (e.tied.node n place low)

  live : h.live n ≡ p.live n
  live = e.survives.survives.recoverable.live n

  -- its history goes on with the whole log stable, and nothing of the node is loose any more
  survived : Survives e.dirty h' p (one (Sure n) (with_held e.held m))
  survived = sure_survives e.dirty h' p (with_held e.held m) n (forced_survives e.dirty h p (with_held e.held m) n (length (h.live n)) e.survives.survives (e.survives.survives.recoverable.holds.history.sound n) (omega arith)) (set_at-same n (length (h.live n)) h.stable)

  survives_sure : SurvivesAs e.held e.dirty h' p (one (Sure n) m)
  survives_sure = record { survives = survived; own = e.survives.own; lost = e.survives.lost; awaits = e.survives.awaits; quiet = e.survives.quiet }

  -- it is done
  pub forced_endures : d.pages ≡ c.pages → SameLog c.log d.log → d.log.stable ≡ c.log.tail → ((xs : List (List ℕ)) → IsLogOn c.log b xs → IsLogOn d.log b' xs) → Endures (record { shape = me.shape; shared = me.shared; nodes = with_node me.nodes n (Up d seats) }) b' (one (Sure n) m)
  forced_endures pages same stable records = (
    p,
    ring_endures me n i ((c.log.tail - 1) / 6) c d seats seats is place at up b b' p p m (one (Sure n) m) e h' narrows foreign quiet refl refl refl (λ x. refl) refl refl
        (λ k k_is far. record { live = refl; mode = refl; start = refl; pending = refl; images = λ j q below. refl; lives = λ j q below. refl }) (λ k far. record { live = refl; stable = set_at-other n (length (h.live n)) h.stable k far; first = refl })
        e.held me.shared.locks mine.0 pages ties e.lockers e.locks (up_kept me.shape me.shared.pool n c d seats b b' p (with_held e.held m) (with_held e.held (one (Sure n) m)) refl refl (ap (map written_back) pages) same records mine.1) survives_sure,
  )
    where
      ties : TiesUp n d seats h'
      ties = record {
        first = tied.first ∙ ap (λ k. 6 * k) (sym same.start);
        stable = (
            let begins = same.start in
            let all : h'.stable n ≡ length (h.live n) = set_at-same n (length (h.live n)) h.stable in
            let count : length (h.live n) ≡ length (p.live n) = ap length live in
            let long = length_shown n me.shape me.shared.pool c seats b p (with_held e.held m) mine.1 in
            omega (arith, begins, all, count, long, stable));
        latest = tied.latest;
      }

  -- or the node is about to halt, whose port has stopped in it
  pub forced_halts : (b'' : ℕ → BlockState) → Narrows b' b'' → KeepsForeign n b' b'' → IsCutLog (region c.log) c.log.start c.log.stable b' (map record_text (p.live n)) → IsStill (region c.log) b' → MayHalt n (record { shape = me.shape; shared = me.shared; nodes = with_node me.nodes n (Up d seats) }) b'' m
  forced_halts b'' settled stops left still = (
    p,
    ring_halts me n i ((c.log.tail - 1) / 6) c d seats seats is place at up b b' p p m m e h narrows foreign quiet refl refl refl (λ x. refl) refl refl
        (λ k k_is far. record { live = refl; mode = refl; start = refl; pending = refl; images = λ j q below. refl; lives = λ j q below. refl }) (λ k far. record { live = refl; stable = refl; first = refl })
        b'' mine.0 settled stops (subst (All IsLegal) (sym live) mine.1.records.legal) cut (stable_cut n c b' h _ cut tied.stable) still (λ key t how has up far. e.lockers key t how has up) refl e.survives,
  )
    where
      cut : IsCutLog (region c.log) c.log.start c.log.stable b' (map record_text (h.live n))
      cut = subst (λ recs. IsCutLog (region c.log) c.log.start c.log.stable b' (map record_text recs)) (sym live) left
