-- What a call that logs a record leaves of a store, where the pages in the caches stay.
use Rattle.std.specs.Prelude.{◌≡◌, ◌+◌, ◌-◌, ◌<◌, ◌≤◌, ◌↔◌, ℕ, true, IsTrue, List, Option, Some, None, All, is_some, length, refl}
use Rattle.std.proofs.Common.{arith, inl, inr, ap, subst, sym, ◌∙◌, length-set}
use Rattle.std.proofs.lemmas.Bool.{cases_eq}
use Rattle.sd_base.specs.Disk.{BlockState, DiskState, IsFreeFor}
use Rattle.sd_base.specs.Calls.{Keeps, NoNewWriter, NoNewWriterBut, Settles}
use Rattle.sd_base.specs.Shape.{IsShape, disk_need}
use Rattle.sd_base.specs.declared.device.NodeId.{NodeId}
use Rattle.sd_base.specs.declared.shape.Shape.{Shape}
use Rattle.frame_pool.specs.Frames.{IsOut}
use Rattle.page_owner.specs.declared.owners.Own.{Own}
use Rattle.page_owner.specs.declared.owners.Own.TheVariants.{Out}
use Rattle.page_owner.specs.Owners.{owner_of}
use Rattle.private_log.specs.Content.{place, region_of}
use Rattle.private_log.specs.Frames.{IsInReach}
use Rattle.private_log.specs.Log.{SameLog, region, tail_place}
use Rattle.private_log.specs.Reading.{IsInRegion}
use Rattle.private_log.specs.Spread.{IsFreeRegion}
use Rattle.private_log.proofs.Places.{place-in}
use Rattle.private_log.proofs.Regions.{before_pages, regions_apart}
use Rattle.state_ids.specs.Blocks.{ShowsPage, page_place}
use Rattle.sd_base.specs.declared.names.PageNo.{PageNo}
use Rattle.node_cache.specs.Cache.{AreOwned, CacheState, IsCache, IsOfStore, IsTiedToLog, is_cached, page_at}
use Rattle.node_cache.proofs.DiskTie.{not_in_ring}
use Rattle.txn_core.specs.Seats.{AreTied, SeatsState}
use Rattle.node_cache.proofs.ChangedPages.{out_of_shown}
use Rattle.txn_core.proofs.SeatLaws.{store_since}
use Rattle.store_nodes.specs.declared.node.Node.{Node}
use Rattle.store_nodes.specs.declared.node.Node.TheVariants.{Idle, Up, Down}
use Rattle.store_nodes.specs.Nodes.{AreApart, AreShared, CanHalt, IsAtWork, IsNode, IsPlace, IsStoreOf, IsStoreButOf, OthersStay, count_of, is_up, node_at, pages_of, with_node}
use Rattle.store_nodes.specs.Ports.{AreLive, AreLiveBut, IsOwnWrite, IsQuietOf, IsQuietButOf, IsServedButOf, IsServedOf}
use Rattle.store_nodes.proofs.Eight.{apart_with, at_other, at_same, cached_with, each_with}

pub work_at : (s : Shape) (pool : List (Option (List ℕ))) (owners : List Own) (nodes : List Node) (n : ℕ) (c : CacheState) (seats : SeatsState) → IsPlace n → node_at nodes n ≡ Up c seats → IsStoreOf s pool owners nodes → IsAtWork s pool owners n c seats
work_at s pool owners nodes n c seats place up is = subst (IsNode s pool owners n) up (is.is n place)

-- what is out at a node is out at it still
owned_still : (owners : List Own) (c d : CacheState) → d.node ≡ c.node → d.pages ≡ c.pages → AreOwned owners c → AreOwned owners d
owned_still owners c d node pages was = λ x.
    subst (λ n. (owner_of owners x.0 ≡ Out n) ↔ IsTrue (is_cached x d)) (sym node) (subst (λ ps. (owner_of owners x.0 ≡ Out c.node) ↔ IsTrue (is_some (page_at x ps))) (sym pages) (was x))

-- a node that is up, after a call that leaves its pages
module _ (s : Shape) (pool : List (Option (List ℕ))) (owners : List Own) (nodes : List Node) (n : ℕ) (c d : CacheState) (seats after : SeatsState)
    (place : IsPlace n) (up : node_at nodes n ≡ Up c seats) (was : IsStoreOf s pool owners nodes) (node : d.node ≡ c.node) (pages : d.pages ≡ c.pages) (cache : IsCache d.node d.pages) where
  work : IsAtWork s pool owners n c seats
  work = work_at s pool owners nodes n c seats place up was

  shared : AreShared s pool owners (with_node nodes n (Up d after))
  shared =
      let all = was.shared in
      let sum = cached_with nodes n (Up d after) all.eight place in
      let count : count_of (node_at nodes n) ≡ length c.pages = ap count_of up in
      let long : length d.pages ≡ length c.pages = ap length pages in
      record {
        shape = all.shape;
        table = all.table;
        eight = length-set nodes (n - 1) (Up d after) ∙ all.eight;
        frames = (let old = all.frames in omega (arith, old, sum, count, long));
        apart = apart_with nodes n (Up d after) all.eight place (λ m other far. subst (λ ps. AreApart ps (pages_of (node_at nodes m))) (ap pages_of up ∙ sym pages) (all.apart n m place other (λ e. far (sym e)))) all.apart;
        holders = all.holders;
      }

  pub store_logged : SameLog c.log d.log → IsTiedToLog d → AreTied after d → length after.seats ≡ length seats.seats → IsStoreOf s pool owners (with_node nodes n (Up d after))
  store_logged same log_tie tie count = record {
    shared = shared;
    is = each_with nodes n (Up d after) was.shared.eight place (IsNode s pool owners) (record {
      number = ap (λ (k : NodeId). k.0) node ∙ work.number;
      cache = cache;
      store = store_since s c d node pages same work.store;
      shown = subst (λ ps. All (λ q. ShowsPage s q.ticket.page pool q.frame) ps) (sym pages) work.shown;
      owned = owned_still owners c d node pages work.owned;
      log_tie = log_tie;
      tie = tie;
      eight = count ∙ work.eight;
    }) (λ m other far. was.is m other);
  }

  pub ends_logged : IsStoreButOf n s pool owners (with_node nodes n (Up d after))
  ends_logged = record {
    shared = shared;
    ends = subst (CanHalt s pool owners n) (sym (at_same nodes n (Up d after) was.shared.eight place)) (record {
      number = ap (λ (k : NodeId). k.0) node ∙ work.number;
      known = (let number = work.number in let last = work.store.node.1 in omega (arith, number, last));
      cache = cache;
      out = subst (λ ps. All (λ q. IsOut pool q.frame) ps) (sym pages) (out_of_shown s pool c work.shown);
      owned = owned_still owners c d node pages work.owned;
    });
    others = λ m other far. subst (IsNode s pool owners m) (sym (at_other nodes n (Up d after) was.shared.eight place m other far)) (was.is m other);
  }

-- ---- what a node asks of the disk

pub region_at : (s : Shape) (n : ℕ) (c : CacheState) → c.node.0 ≡ n → IsOfStore s c → IsTiedToLog c → region c.log ≡ region_of s n
region_at s n c number store tie = ap (λ t. region_of t c.log.node.0) store.shape ∙ ap (region_of s) (ap (λ (k : NodeId). k.0) tie.node ∙ number)

-- the region of its log may be named, and no other port has an uncovered write to it
pub reach_at : (s : Shape) (n : ℕ) (c : CacheState) (d : DiskState) → c.node.0 ≡ n → IsOfStore s c → IsTiedToLog c → ((k : ℕ) → k < disk_need s → d.reach k ≡ true) → IsInReach (region c.log) d.reach
reach_at s n c d number store tie whole = subst (λ g. IsInReach g d.reach) (sym (region_at s n c number store tie)) (λ i low.
    let first = store.node.0 in
    let last = store.node.1 in
    whole _ (let before = before_pages s n ((region_of s n).anchor + i) store.valid (omega (arith, first, number)) (omega (arith, last, number)) (omega arith, omega (arith, low)) in omega (arith, before)))

pub free_at : (s : Shape) (nodes : List Node) (n : ℕ) (c : CacheState) (b : ℕ → BlockState) → IsPlace n → c.node.0 ≡ n → IsOfStore s c → IsTiedToLog c → ((m : ℕ) → IsPlace m → is_up (node_at nodes m) ≡ true → m ≤ s.nodes) → IsQuietOf s nodes b → IsFreeRegion (region c.log) c.node.0 b
free_at s nodes n c b place number store tie most quiet = subst (λ g. IsFreeRegion g c.node.0 b) (sym (region_at s n c number store tie)) (λ i low. subst (λ k. IsFreeFor k (b ((region_of s n).anchor + i))) (sym number) (by i low (b ((region_of s n).anchor + i)).writer refl))
  where
    by : (i : ℕ) → i ≤ s.ring → (w : Option ℕ) → (b ((region_of s n).anchor + i)).writer ≡ w → IsFreeFor n (b ((region_of s n).anchor + i))
    by i low None none = inr none
    by i low (Some m) some =
        let own = quiet ((region_of s n).anchor + i) m some in
        let first = store.node.0 in
        let last = store.node.1 in
        elim (cases_eq m n) [
          | inl same ↦ inl (some ∙ ap Some same)
          | inr far ↦ absurd (regions_apart s m n ((region_of s n).anchor + i) store.valid own.number.0 (most m own.number own.up) (omega (arith, first, number)) (omega (arith, last, number)) far own.log (omega arith, omega (arith, low)))
        ]

-- a node that is up is one of the store
pub up_most : (s : Shape) (pool : List (Option (List ℕ))) (owners : List Own) (nodes : List Node) → IsStoreOf s pool owners nodes → (m : ℕ) → IsPlace m → is_up (node_at nodes m) ≡ true → m ≤ s.nodes
up_most s pool owners nodes is m place up = by (node_at nodes m) up (is.is m place)
  where
    by : (node : Node) → is_up node ≡ true → IsNode s pool owners m node → m ≤ s.nodes
    by Idle up was = cc
    by Down up was = cc
    by (Up c seats) up was = (let number = was.number in let last = was.store.node.1 in omega (arith, number, last))

-- ---- what a call of one node leaves of the devices

pub live_still : (nodes nodes' : List Node) (n : ℕ) (d d' : DiskState) → Keeps n d d' → d'.live n ≡ is_up (node_at nodes' n) → OthersStay n nodes nodes' → AreLive nodes d → AreLive nodes' d'
live_still nodes nodes' n d d' keeps live others was m place = elim (cases_eq m n) [
  | inl same ↦ ap d'.live same ∙ live ∙ ap (λ k. is_up (node_at nodes' k)) (sym same)
  | inr far ↦ keeps.live m far ∙ was m place ∙ ap is_up (sym (others m place far))
]

pub served_still : (s : Shape) (nodes nodes' : List Node) (n : ℕ) (disk disk' vault vault' : DiskState) → Keeps n disk disk' → Keeps n vault vault' → disk'.live n ≡ is_up (node_at nodes' n) → vault'.live n ≡ is_up (node_at nodes' n)
    → OthersStay n nodes nodes' → IsServedOf s nodes disk vault → IsServedOf s nodes' disk' vault'
served_still s nodes nodes' n disk disk' vault vault' keeps vault_keeps live vault_live others was = record {
  whole = λ k low. ap (λ r. r k) keeps.reach ∙ was.whole k low;
  live = live_still nodes nodes' n disk disk' keeps live others was.live;
  vault_live = live_still nodes nodes' n vault vault' vault_keeps vault_live others was.vault_live;
}

-- nothing is said of the node's own ports
pub live_but : (nodes nodes' : List Node) (n : ℕ) (d d' : DiskState) → Keeps n d d' → OthersStay n nodes nodes' → AreLive nodes d → AreLiveBut n nodes' d'
live_but nodes nodes' n d d' keeps others was m place far = keeps.live m far ∙ was m place ∙ ap is_up (sym (others m place far))

pub served_but : (s : Shape) (nodes nodes' : List Node) (n : ℕ) (disk disk' vault vault' : DiskState) → Keeps n disk disk' → Keeps n vault vault' → OthersStay n nodes nodes' → IsServedOf s nodes disk vault → IsServedButOf n s nodes' disk' vault'
served_but s nodes nodes' n disk disk' vault vault' keeps vault_keeps others was = record {
  whole = λ k low. ap (λ r. r k) keeps.reach ∙ was.whole k low;
  live = live_but nodes nodes' n disk disk' keeps others was.live;
  vault_live = live_but nodes nodes' n vault vault' vault_keeps others was.vault_live;
}

-- an uncovered write is one of a node that is up, to its own log, after a call that wrote one block of that log
pub quiet_still : (s : Shape) (nodes nodes' : List Node) (n at : ℕ) (b b' : ℕ → BlockState) → IsPlace n → IsInRegion (region_of s n) at → is_up (node_at nodes' n) ≡ true
    → OthersStay n nodes nodes' → NoNewWriterBut at n b b' → IsQuietOf s nodes b → IsQuietOf s nodes' b'
quiet_still s nodes nodes' n at b b' place inside up others writers quiet k m is = elim (writers k) [
  | inl same ↦
      let own = quiet k m (sym same ∙ is) in
      record { number = own.number; up = elim (cases_eq m n) [ inl e ↦ ap (λ j. is_up (node_at nodes' j)) e ∙ up | inr far ↦ ap is_up (others m own.number far) ∙ own.up ]; log = own.log }
  | inr (inl none) ↦ let never : None ≡ Some m = sym none ∙ is in absurd cc
  | inr (inr here) ↦
      let same : n ≡ m = (let both : Some n ≡ Some m = sym here.1 ∙ is in cc) in
      subst (λ j. IsOwnWrite s nodes' k j) same (record { number = place; up = up; log = subst (IsInRegion (region_of s n)) (sym here.0) inside })
]

pub quiet_but : (s : Shape) (nodes nodes' : List Node) (n at : ℕ) (b b' : ℕ → BlockState)
    → OthersStay n nodes nodes' → NoNewWriterBut at n b b' → IsQuietOf s nodes b → IsQuietButOf n s nodes' b'
quiet_but s nodes nodes' n at b b' others writers quiet k m is far = elim (writers k) [
  | inl same ↦ let own = quiet k m (sym same ∙ is) in record { number = own.number; up = ap is_up (others m own.number far) ∙ own.up; log = own.log }
  | inr (inl none) ↦ let never : None ≡ Some m = sym none ∙ is in absurd cc
  | inr (inr here) ↦ let both : Some n ≡ Some m = sym here.1 ∙ is in let same : n ≡ m = cc in absurd (far (sym same))
]

-- ---- the regions of the logs

-- each block of the ring lies in the region
pub place_inside : (s : Shape) (n : ℕ) (c : CacheState) (number : ℕ) → c.node.0 ≡ n → IsOfStore s c → IsTiedToLog c → IsInRegion (region_of s n) (place (region c.log) number)
place_inside s n c number is store tie =
    let g = region_at s n c is store tie in
    let some = store.valid.ring.0 in
    let inside = place-in (region_of s n) number (omega (arith, some)) in
    subst (λ r. IsInRegion (region_of s n) (place r number)) (sym g) (let low = inside.0 in let high = inside.1 in (omega (arith, low), omega (arith, high)))

pub free_region : (s : Shape) (nodes : List Node) (n : ℕ) (b : ℕ → BlockState) → IsShape s → 1 ≤ n → n ≤ s.nodes → ((m : ℕ) → IsPlace m → is_up (node_at nodes m) ≡ true → m ≤ s.nodes) → IsQuietOf s nodes b → IsFreeRegion (region_of s n) n b
free_region s nodes n b valid first last most quiet = λ i low. by i low (b ((region_of s n).anchor + i)).writer refl
  where
    by : (i : ℕ) → i ≤ s.ring → (w : Option ℕ) → (b ((region_of s n).anchor + i)).writer ≡ w → IsFreeFor n (b ((region_of s n).anchor + i))
    by i low None none = inr none
    by i low (Some m) some =
        let own = quiet ((region_of s n).anchor + i) m some in
        elim (cases_eq m n) [
          | inl same ↦ inl (some ∙ ap Some same)
          | inr far ↦ absurd (regions_apart s m n ((region_of s n).anchor + i) valid own.number.0 (most m own.number own.up) first last far own.log (omega arith, omega (arith, low)))
        ]

-- after the port of a node has stopped it has no uncovered write
pub quiet_halted : (s : Shape) (nodes : List Node) (n : ℕ) (b b' : ℕ → BlockState) → length nodes ≡ 8 → IsPlace n → NoNewWriter b b' → Settles n b b' → IsQuietButOf n s nodes b → IsQuietOf s (with_node nodes n Down) b'
quiet_halted s nodes n b b' eight place writers settles quiet k m is = elim (writers k) [
  | inl same ↦ elim (cases_eq m n) [
    | inl own ↦ let none = (settles k (sym same ∙ is ∙ ap Some own)).writer in let never : None ≡ Some m = sym none ∙ is in absurd cc
    | inr far ↦ let own = quiet k m (sym same ∙ is) far in record { number = own.number; up = ap is_up (at_other nodes n Down eight place m own.number far) ∙ own.up; log = own.log }
  ]
  | inr none ↦ let never : None ≡ Some m = sym none ∙ is in absurd cc
]

-- ---- the blocks of pages

-- no page has an uncovered write
pub page_still : (s : Shape) (nodes : List Node) (b : ℕ → BlockState) (x : PageNo) → IsShape s → ((m : ℕ) → IsPlace m → is_up (node_at nodes m) ≡ true → m ≤ s.nodes) → IsQuietOf s nodes b → (b (page_place s x)).writer ≡ None
page_still s nodes b x valid most quiet = by (b (page_place s x)).writer refl
  where
    by : (w : Option ℕ) → (b (page_place s x)).writer ≡ w → (b (page_place s x)).writer ≡ None
    by None none = none
    by (Some m) some =
        let own = quiet (page_place s x) m some in
        let before = before_pages s m (page_place s x) valid own.number.0 (most m own.number own.up) own.log in
        absurd (omega (arith, before))

-- nor has it after a call that wrote the last block of a log
pub page_quiet : (s : Shape) (c : CacheState) (x : PageNo) (n : ℕ) (b b' : ℕ → BlockState) → IsOfStore s c → IsTiedToLog c → NoNewWriterBut (tail_place c.log) n b b' → (b (page_place s x)).writer ≡ None → (b' (page_place s x)).writer ≡ None
page_quiet s c x n b b' store tie writers none = elim (writers (page_place s x)) [
  | inl same ↦ same ∙ none
  | inr (inl gone) ↦ gone
  | inr (inr here) ↦ absurd (not_in_ring s c store tie _ x here.0)
]
