-- What a store is that was formatted, and what it shows.
use Rattle.std.specs.Prelude.{◌≡◌, ◌-◌, ◌+◌, ◌*◌, ◌≤◌, ◌<◌, ℕ, Bool, true, false, List, [], Option, Some, None, Result, Ok, Err, OnErr, is_none, length, nat_lt, replicate, if◌then◌else◌, refl}
use Rattle.std.specs.FinMap.{empty}
use Rattle.std.proofs.Common.{arith, inl, inr, ap, subst, sym, ◌∙◌}
use Rattle.std.proofs.lemmas.Bool.{cases_eq}
use Rattle.std.proofs.lemmas.Bool.Decides.{nat_tests}
use Rattle.std.proofs.lemmas.List.{get_or-replicate, length-replicate}
use Rattle.std.proofs.lemmas.List.Folds.{sum_by-replicate}
use Rattle.sd_base.specs.Calls.{Keeps}
use Rattle.sd_base.specs.Disk.{BlockState, DiskState, IsPort, MayHold}
use Rattle.sd_base.specs.Shape.{IsShape, disk_need, page_count}
use Rattle.sd_base.specs.declared.device.NodeId.{NodeId}
use Rattle.sd_base.specs.declared.names.PageNo.{PageNo}
use Rattle.sd_base.specs.declared.shape.Shape.{Shape}
use Rattle.frame_pool.specs.Frames.{free_count}
use Rattle.page_image.specs.Image.{birth_image, image_text}
use Rattle.page_image.proofs.ImageLaws.{IsImage-birth_image}
use Rattle.space_map.specs.Image.{birth_map, map_text}
use Rattle.space_map.proofs.ImageLaws.{IsMapImage-birth_map}
use Rattle.page_owner.specs.declared.owners.Own.{Own}
use Rattle.page_owner.specs.declared.owners.Own.TheVariants.{Nobody}
use Rattle.page_owner.specs.Owners.{owner_of}
use Rattle.private_log.specs.Content.{HasNoFuture, LogContent, region_of}
use Rattle.private_log.specs.Reading.{contents}
use Rattle.private_log.specs.Spread.{IsStill}
use Rattle.record_machine.specs.Machine.{formatted}
use Rattle.record_machine.specs.Meaning.{born}
use Rattle.record_machine.proofs.FormattedLaws.{means_formatted}
use Rattle.state_ids.specs.Blocks.{HoldsPage, page_place}
use Rattle.state_ids.specs.PageImage.{IsText}
use Rattle.store_format.specs.Device.{IsIdle, NarrowsAt, TakesOver}
use Rattle.store_format.specs.Formatted.{IsBornDisk}
use Rattle.store_nodes.specs.declared.node.Node.{Node}
use Rattle.store_nodes.specs.declared.node.Node.TheVariants.{Idle, Up, Down}
use Rattle.store_nodes.specs.declared.store.Shared.{Shared}
use Rattle.store_nodes.specs.declared.store.Store.{Store}
use Rattle.store_nodes.specs.Nodes.{AreApart, IsHeldBy, IsNode, IsPlace, IsStore, IsStoreBut, IsStoreOf, OthersStay, is_up, node_at, pages_of}
use Rattle.store_nodes.specs.Ports.{IsServedOf}
use Rattle.store_nodes.specs.Shows.{IsOnDisk, ShowsIdle, ShowsNode, ShowsStore, ShowsStoreOf, holder, image_in}
use Rattle.store_nodes.proofs.Eight.{apart_none}
use Rattle.store_nodes.proofs.Halts.{all_nobody}
use Rattle.store_nodes.proofs.Living.{living}
use Rattle.store_pages.proofs.Takes.{but_of}

-- each of the eight is idle
abbrev pub eight : List Node
eight = replicate 8 Idle

pub idle_eight : (n : ℕ) → IsPlace n → node_at eight n ≡ Idle
idle_eight n place = get_or-replicate 8 (n - 1) Idle Idle (let low = place.0 in let high = place.1 in omega (arith, low, high))

-- ---- what the store is

all_free : (n : ℕ) → free_count (replicate n None) ≡ n
all_free n = (let sum : free_count (replicate n None) ≡ n * 1 = sum_by-replicate (λ (o : Option (List ℕ)). if is_none o then 1 else 0) n None in omega (arith, sum))

module _ (s : Shape) (valid : IsShape s) where
  abbrev owners : List Own
  owners = replicate (page_count s) Nobody

  abbrev pool : List (Option (List ℕ))
  pool = replicate (16 * s.nodes + 4) None

  nobody : (x : ℕ) → owner_of owners x ≡ Nobody
  nobody x = all_nobody (page_count s) x

  none_held : (x : ℕ) (m : NodeId) → ¬ (IsHeldBy m (owner_of owners x))
  none_held x m held = by (subst (IsHeldBy m) (nobody x) held)
    where
      by : IsHeldBy m Nobody → ⊥
      by (inl parked) = cc
      by (inr out) = cc

  pub is_opened : IsStoreOf s pool owners eight
  is_opened = record {
    shared = record {
      shape = valid;
      table = (let long = length-replicate (page_count s) Nobody in omega (arith, long));
      eight = refl;
      frames = (let free = all_free (16 * s.nodes + 4) in omega (arith, free));
      apart = λ n m first second differ. subst (λ o. AreApart (pages_of o) (pages_of (node_at eight m))) (sym (idle_eight n first)) (apart_none (pages_of (node_at eight m)));
      holders = λ x m held. absurd (none_held x m held);
    };
    is = λ n place. subst (IsNode s pool owners n) (sym (idle_eight n place)) (λ x held. none_held x (record { 0 = n }) held);
  }

-- the same, of what has been made
pub opened_is : (s : Shape) (made : List (Option (List ℕ))) (table : List Own) (nodes : List Node) → IsShape s → made ≡ replicate (16 * s.nodes + 4) None → table ≡ replicate (page_count s) Nobody → nodes ≡ eight → IsStoreOf s made table nodes
opened_is s made table nodes valid pool_is owners_is nodes_are =
    subst (λ p. IsStoreOf s p table nodes) (sym pool_is) (subst (λ o. IsStoreOf s (replicate (16 * s.nodes + 4) None) o nodes) (sym owners_is) (subst (IsStoreOf s (replicate (16 * s.nodes + 4) None) (replicate (page_count s) Nobody)) (sym nodes_are) (is_opened s valid)))

pub place_port : (n : ℕ) → IsPlace n → IsPort n
place_port n place = (place.0, (let high = place.1 in omega (arith, high)))

-- no port of the devices may be used where all were stopped, and port 1 once more
pub idle_then : (a b c : DiskState) → TakesOver a b → Keeps 1 b c → c.live 1 ≡ false → IsIdle c
idle_then a b c takes keeps stopped p port = elim (cases_eq p 1) [
  | inl one ↦ ap c.live one ∙ stopped
  | inr far ↦ keeps.live p far ∙ takes.others p port far
]

pub opened_served : (s : Shape) (nodes : List Node) (disk vault : DiskState) → nodes ≡ eight → ((k : ℕ) → k < disk_need s → disk.reach k ≡ true) → IsIdle disk → IsIdle vault → IsServedOf s nodes disk vault
opened_served s nodes disk vault nodes_are whole idle vault_idle = record {
  whole = whole;
  live = λ n place. idle n (place_port n place) ∙ sym (down n place);
  vault_live = λ n place. vault_idle n (place_port n place) ∙ sym (down n place);
}
  where
    down : (n : ℕ) → IsPlace n → is_up (node_at nodes n) ≡ false
    down n place = ap (λ ns. is_up (node_at ns n)) nodes_are ∙ ap is_up (idle_eight n place)

-- ---- what it shows

-- whatever a stop leaves, each page is on the disk as it is born,
pub born_held : (s : Shape) (b : ℕ → BlockState) → IsShape s → IsBornDisk s b → (x : PageNo) → x.0 < page_count s → (o : Option (List ℕ)) → MayHold b (page_place s x) o → HoldsPage s x (image_in s (born s) x) o
born_held s b valid disk x within o may =
    let is = living s (born s) (formatted s) refl (means_formatted s valid).pages x within in
    let text = by (nat_lt x.0 s.maps) refl in
    (text.0, text.1, text.2, is.0, is.1)
  where
    by : (low : Bool) → nat_lt x.0 s.maps ≡ low → (bytes : List ℕ) × (o ≡ Some bytes) × IsText (image_in s (born s) x) bytes
    by true low =
        let lt : x.0 < s.maps = grind (arith, nat_tests) in
        (map_text (birth_map x s.birth), disk.maps x.0 lt o may, rw low record { image = IsMapImage-birth_map x s.birth (omega (arith, valid.birth)); text = refl })
    by false high =
        let far : s.maps ≤ x.0 = grind (arith, nat_tests) in
        (image_text (birth_image x s.birth), disk.pages x.0 far within o may, rw high record { image = IsImage-birth_image x s.birth (omega (arith, valid.birth)); text = refl })

-- which is what it is at present
born_stored : (s : Shape) (b : ℕ → BlockState) → IsShape s → IsBornDisk s b → (x : PageNo) → x.0 < page_count s → IsOnDisk s b (born s) x
born_stored s b valid disk x within o may = (image_in s (born s) x, born_held s b valid disk x within o may, (living s (born s) (formatted s) refl (means_formatted s valid).pages x within).2)

-- the log of a node is empty
idle_formatted : (s : Shape) (n : ℕ) (b : ℕ → BlockState) → IsStill (region_of s n) b → LogContent (region_of s n) (contents b) 0 [] → HasNoFuture (region_of s n) (contents b) 0 [] → ShowsIdle s n b (born s) (formatted s)
idle_formatted s n b still log clean = record {
  legal = λ k d low. absurd (omega (arith, low));
  still = still;
  content = log;
  clean = clean;
  names = λ i rec is. cc;
  none = refl;
}

pub shows_opened : (s : Shape) (b : ℕ → BlockState) → IsShape s → IsBornDisk s b → ((n : ℕ) → IsPlace n → n ≤ s.nodes → IsStill (region_of s n) b × LogContent (region_of s n) (contents b) 0 [] × HasNoFuture (region_of s n) (contents b) 0 [])
    → ShowsStoreOf s (replicate (16 * s.nodes + 4) None) (replicate (page_count s) Nobody) eight b (born s) (formatted s)
shows_opened s b valid disk logs = record {
  means = means_formatted s valid;
  shape = refl;
  node = λ n place last. (let log = logs n place last in subst (λ o. ShowsNode s (replicate (16 * s.nodes + 4) None) n o b (born s) (formatted s)) (sym (idle_eight n place)) (refl, idle_formatted s n b log.0 log.1 log.2));
  stored = λ x within settled. born_stored s b valid disk x within;
  hold = λ x within. sym (ap holder (all_nobody (page_count s) x));
}

-- the same, of what has been made
pub opened_shows : (s : Shape) (shared : Shared) (nodes : List Node) (b : ℕ → BlockState) → shared.pool ≡ replicate (16 * s.nodes + 4) None → shared.owners ≡ replicate (page_count s) Nobody → shared.locks ≡ empty → shared.reopening ≡ false → nodes ≡ eight
    → ShowsStoreOf s (replicate (16 * s.nodes + 4) None) (replicate (page_count s) Nobody) eight b (born s) (formatted s) → ShowsStore (record { shape = s; shared = shared; nodes = nodes }) b (born s) (formatted s)
opened_shows s shared nodes b pool_is owners_is none shut nodes_are shown = record {
  nodes = subst (λ p. ShowsStoreOf s p shared.owners nodes b (born s) (formatted s)) (sym pool_is)
      (subst (λ o. ShowsStoreOf s (replicate (16 * s.nodes + 4) None) o nodes b (born s) (formatted s)) (sym owners_is)
      (subst (λ ns. ShowsStoreOf s (replicate (16 * s.nodes + 4) None) (replicate (page_count s) Nobody) ns b (born s) (formatted s)) (sym nodes_are) shown));
  locks = sym none;
  reopening = sym shut;
}

-- ---- a node that goes down

pub but_up : (c : Store) (n : ℕ) → IsPlace n → is_up (node_at c.nodes n) ≡ true → IsStore c → IsStoreBut n c
but_up c n place up is = by (node_at c.nodes n) refl up
  where
    by : (node : Node) → node_at c.nodes n ≡ node → is_up node ≡ true → IsStoreBut n c
    by Idle at up = cc
    by (Up d seats) at up = but_of c.shape c.shared.pool c.shared.owners c.nodes n d seats place at is
    by Down at up = cc

-- and then the next one is down too
pub down_next : (old new : List Node) (n : ℕ) → is_up (node_at new n) ≡ false → OthersStay n old new → ((m : ℕ) → IsPlace m → m < n → is_up (node_at old m) ≡ false) → (m : ℕ) → IsPlace m → m < n + 1 → is_up (node_at new m) ≡ false
down_next old new n here others before m place low = elim (cases_eq m n) [
  | inl same ↦ ap (λ k. is_up (node_at new k)) same ∙ here
  | inr far ↦ ap is_up (others m place far) ∙ before m place (omega (arith, low, far))
]

-- ---- failures

-- what holds in any case holds after a failure
pub after_failure : {T E P : Type 0} (r : Result T E) → P → OnErr r P
after_failure (Ok x) p = tt
after_failure (Err e) p = p

-- a block that is as another one was has no new outcome, where that one had none
pub narrows_as : (k : ℕ) (a b c : ℕ → BlockState) → ((o : Option (List ℕ)) → MayHold b k o → MayHold a k o) → c k ≡ b k → NarrowsAt k a c
narrows_as k a b c narrows same o may = narrows o (subst (λ (s : BlockState). Rattle.sd_base.specs.Outcomes.among s.outcomes o ≡ true) same may)
