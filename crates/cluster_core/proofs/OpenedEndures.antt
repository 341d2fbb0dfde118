-- A store that was formatted endures each stop.
use Rattle.std.specs.Prelude.{◌≡◌, ◌≤◌, ℕ, Bool, true, false, [], List, nat_lt, refl}
use Rattle.std.specs.FinMap.{empty}
use Rattle.std.proofs.Common.{arith, subst, sym}
use Rattle.sd_base.specs.Disk.{BlockState}
use Rattle.sd_base.specs.Shape.{IsShape}
use Rattle.sd_base.specs.declared.names.PageNo.{PageNo}
use Rattle.sd_base.specs.declared.shape.Shape.{Shape}
use Rattle.private_log.specs.Content.{region_of}
use Rattle.private_log.specs.Spread.{IsSpread, IsStill}
use Rattle.state_ids.specs.Blocks.{HoldsPage}
use Rattle.recovery_theory.specs.Pages.{formatted_page}
use Rattle.recovery_theory.specs.Steps.{started}
use Rattle.record_machine.specs.Machine.{formatted}
use Rattle.record_machine.specs.Meaning.{born}
use Rattle.record_machine.proofs.StillStops.{formatted_survives}
use Rattle.store_format.specs.Formatted.{IsBornDisk}
use Rattle.store_nodes.specs.declared.node.Node.{Node}
use Rattle.store_nodes.specs.declared.store.Shared.{Shared}
use Rattle.store_nodes.specs.Endures.{EnduresAs}
use Rattle.store_nodes.specs.Nodes.{IsPlace, node_at}
use Rattle.store_nodes.specs.Shows.{ShowsStore, image_in}
use Rattle.store_nodes.specs.Tied.{IsTied, TiesNode}
use Rattle.cluster_core.proofs.Opened.{born_held, eight, idle_eight}

-- each page of the history is as it is born
page_born : (s : Shape) (x : PageNo) → image_in s (born s) x ≡ formatted_page s x.0
page_born s x = by (nat_lt x.0 s.maps) refl
  where
    by : (low : Bool) → nat_lt x.0 s.maps ≡ low → image_in s (born s) x ≡ formatted_page s x.0
    by true low = rw low refl
    by false high = rw high refl

module _ (s : Shape) (valid : IsShape s) (b : ℕ → BlockState) (disk : IsBornDisk s b) (logs : (n : ℕ) → IsPlace n → n ≤ s.nodes → IsStill (region_of s n) b × IsSpread (region_of s n) 0 0 b []) where
  tied : (nodes : List Node) → nodes ≡ eight → IsTied s nodes b (started s)
  tied nodes are = record {
    node = λ n place last. (
        let log = logs n place last in
        subst (λ os. TiesNode s n (node_at os n) b (started s)) (sym are) (subst (λ o. TiesNode s n o b (started s)) (sym (idle_eight n place))
        record { start = 0; first = refl; legal = λ k d low. absurd (omega (arith, low)); stable = refl; still = log.0; log = log.1 }));
    page = λ x within o may. subst (λ image. HoldsPage s x image o) (page_born s x) (born_held s b valid disk x within o may);
  }

  pub endures_opened : (shared : Shared) (nodes : List Node) → nodes ≡ eight → ShowsStore (record { shape = s; shared = shared; nodes = nodes }) b (born s) (formatted s) → EnduresAs (record { shape = s; shared = shared; nodes = nodes }) b (born s) (formatted s)
  endures_opened shared nodes are shown = record {
    held = empty;
    dirty = λ x. false;
    history = started s;
    nodes = record { means = shown.nodes.means; shape = shown.nodes.shape; node = shown.nodes.node; hold = shown.nodes.hold };
    locks = shown.locks;
    reopening = shown.reopening;
    lockers = λ key t how has up. absurd cc;
    clean = λ whole x within settled. refl;
    lost = λ x within none. absurd cc;
    tied = tied nodes are;
    survives = record {
      survives = formatted_survives s valid;
      own = λ whole. refl;
      lost = λ lost. absurd cc;
      awaits = λ lost. absurd cc;
      quiet = λ lost. absurd cc;
    };
  }
