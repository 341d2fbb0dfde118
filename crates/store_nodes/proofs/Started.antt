-- What a store is, and what it shows, where a node of it has started.
use Rattle.std.specs.Prelude.{◌≡◌, ◌≢◌, ◌-◌, ◌*◌, ◌<◌, ◌≤◌, ℕ, true, false, List, [], Option, Some, None, All, IfSome, is_some, length, map, replicate, slice_index_or, refl}
use Rattle.std.specs.List.{sum_by}
use Rattle.std.proofs.Common.{arith, inl, inr, ap, subst, sym, ◌∙◌, length-set}
use Rattle.std.proofs.lemmas.Bool.{cases_eq}
use Rattle.std.proofs.lemmas.List.{get_or-replicate}
use Rattle.std.proofs.lemmas.List.Elements.{All-replicate}
use Rattle.std.proofs.lemmas.List.Folds.{sum_by-replicate}
use Rattle.sd_base.specs.Disk.{BlockState, DiskState}
use Rattle.sd_base.specs.Calls.{Keeps, NoNewWriter, Settles}
use Rattle.sd_base.specs.declared.device.NodeId.{NodeId}
use Rattle.sd_base.specs.declared.names.PageNo.{PageNo}
use Rattle.sd_base.specs.declared.shape.Shape.{Shape}
use Rattle.log_record.specs.Text.{record_text}
use Rattle.page_owner.specs.declared.owners.Own.{Own}
use Rattle.page_owner.specs.declared.owners.Own.TheVariants.{Nobody, Out, Parked}
use Rattle.page_owner.specs.Owners.{owner_of}
use Rattle.private_log.specs.Content.{HasNoFuture, LogContent, region_of}
use Rattle.private_log.specs.Log.{IsLogOn, region}
use Rattle.private_log.specs.Reading.{contents}
use Rattle.private_log.specs.Spread.{IsStill}
use Rattle.private_log.proofs.OneLog.{one_start}
use Rattle.node_cache.specs.Cache.{AreOwned, CacheState, IsCache, is_cached, is_changed, page_at}
use Rattle.txn_core.specs.Seats.{AreApart, AreTied, SeatsState, owed, owed_in, txn_in}
use Rattle.txn_core.specs.Told.{IsOpenIn, NamesEarlier}
use Rattle.record_machine.specs.Machine.{Machine}
use Rattle.record_machine.specs.Machine as mode
use Rattle.record_machine.specs.Meaning.{Plain}
use Rattle.record_machine.specs.Parts.{Start, one}
use Rattle.record_machine.proofs.LockSteps.{means_started}
use Rattle.record_machine.proofs.Put.{put_other, put_same}
use Rattle.store_nodes.specs.declared.node.Node.{Node}
use Rattle.store_nodes.specs.declared.node.Node.TheVariants.{Idle, Up}
use Rattle.store_nodes.specs.Nodes.{IsAtRest, IsHeldBy, IsNode, IsPlace, IsStoreOf, KeepsFramesBut, OnUp, OthersStay, count_of, is_up, node_at, pages_of, with_node}
use Rattle.store_nodes.specs.Ports.{IsQuietButOf, IsQuietOf, IsServedOf, Works}
use Rattle.store_nodes.specs.Shows.{IsHolderUp, IsSettled, ShowsIdle, ShowsNode, ShowsStoreOf, ShowsUp}
use Rattle.store_nodes.proofs.Eight.{apart_none, apart_with, at_other, at_same, cached_with, each_with, others_stay}
use Rattle.store_nodes.proofs.ShownWith.{shown_with}
use Rattle.store_nodes.specs.declared.store.Shared.{Shared}
use Rattle.store_nodes.specs.declared.store.Store.{Store}
use Rattle.store_nodes.proofs.Works.{served_still}

-- ---- before it starts

rest_at : (s : Shape) (pool : List (Option (List ℕ))) (owners : List Own) (nodes : List Node) (n : ℕ) → IsPlace n → node_at nodes n ≡ Idle → IsStoreOf s pool owners nodes → IsAtRest owners n
rest_at s pool owners nodes n place idle is = subst (IsNode s pool owners n) idle (is.is n place)

-- ---- a node that is at rest

module _ (s : Shape) (pool : List (Option (List ℕ))) (owners : List Own) (nodes : List Node) (n : ℕ) (node : Node) (is : IsStoreOf s pool owners nodes) (place : IsPlace n) (idle : node_at nodes n ≡ Idle) where
  -- whatever becomes of it, a page is settled as before: the node holds none
  pub settled_before : (x : PageNo) → IsSettled (with_node nodes n node) owners x → IsSettled nodes owners x
  settled_before x was = record {
    holder = by (owner_of owners x.0) refl was.holder;
    clean = λ k k_is. elim (cases_eq k n) [
      | inl here ↦ subst (λ j. OnUp (node_at nodes j) (λ e after. is_changed x e ≡ false)) (sym here) (subst (λ o. OnUp o (λ e after. is_changed x e ≡ false)) (sym idle) tt)
      | inr far ↦ subst (λ o. OnUp o (λ e after. is_changed x e ≡ false)) (at_other nodes n node is.shared.eight place k k_is far) (was.clean k k_is)
    ];
  }
    where
      up_before : (k : NodeId) → IsHeldBy k (owner_of owners x.0) → is_up (node_at (with_node nodes n node) k.0) ≡ true → is_up (node_at nodes k.0) ≡ true
      up_before k held up = elim (cases_eq k.0 n) [
        | inl same ↦ absurd (rest_at s pool owners nodes n place idle is x.0 (subst (λ j. IsHeldBy (record { 0 = j }) (owner_of owners x.0)) same held))
        | inr far ↦ ap is_up (sym (at_other nodes n node is.shared.eight place k.0 (is.shared.holders x.0 k held) far)) ∙ up
      ]

      by : (own : Own) → owner_of owners x.0 ≡ own → IsHolderUp (with_node nodes n node) own → IsHolderUp nodes own
      by Nobody at was = tt
      by (Parked k) at was = up_before k (inl at) was
      by (Out k) at was = up_before k (inr at) was

-- ---- where it doesn't

-- the port of a node has stopped that isn't up: each uncovered write is one of a node that is up
pub quiet_stopped : (s : Shape) (nodes : List Node) (n : ℕ) (b b' : ℕ → BlockState) → NoNewWriter b b' → Settles n b b' → IsQuietButOf n s nodes b → IsQuietOf s nodes b'
quiet_stopped s nodes n b b' writers settles quiet k m is = elim (writers k) [
  | inl same ↦ elim (cases_eq m n) [
    | inl own ↦ let none = (settles k (sym same ∙ is ∙ ap Some own)).writer in let never : None ≡ Some m = sym none ∙ is in absurd cc
    | inr far ↦ quiet k m (sym same ∙ is) far
  ]
  | inr none ↦ let never : None ≡ Some m = sym none ∙ is in absurd cc
]

-- ---- the store with it

-- nor has a read a new writer, and the node that starts had none
pub quiet_read : (s : Shape) (nodes : List Node) (b b' : ℕ → BlockState) → NoNewWriter b b' → IsQuietOf s nodes b → IsQuietOf s nodes b'
quiet_read s nodes b b' writers quiet k m is = elim (writers k) [
  | inl same ↦ quiet k m (sym same ∙ is)
  | inr none ↦ let never : None ≡ Some m = sym none ∙ is in absurd cc
]

pub quiet_started : (s : Shape) (nodes : List Node) (n : ℕ) (node : Node) (b : ℕ → BlockState) → length nodes ≡ 8 → IsPlace n → node_at nodes n ≡ Idle → IsQuietOf s nodes b → IsQuietOf s (with_node nodes n node) b
quiet_started s nodes n node b eight place idle quiet k m is =
    let own = quiet k m is in
    let far : m ≢ n = λ same. (let down : is_up (node_at nodes m) ≡ false = ap (λ j. is_up (node_at nodes j)) same ∙ ap is_up idle in let up = own.up in cc) in
    record { number = own.number; up = ap is_up (at_other nodes n node eight place m own.number far) ∙ own.up; log = own.log }

-- no transaction is open in eight free seats
pub tied_new : (seats : SeatsState) (c : CacheState) → seats.node ≡ c.node → seats.seats ≡ replicate 8 None → AreTied seats c
tied_new seats c node free = record {
  node = node;
  room = (let none : owed seats ≡ 0 = ap (sum_by owed_in) free ∙ sum_by-replicate owed_in 8 None in omega (arith, none));
  within = subst (All (λ o. IfSome o (λ t. (6 * c.log.start ≤ t.begin) × (t.begin ≤ t.last) × (t.last < c.log.tail)))) (sym free) (All-replicate (λ o. IfSome o (λ t. (6 * c.log.start ≤ t.begin) × (t.begin ≤ t.last) × (t.last < c.log.tail))) 8 None tt);
  apart = λ i j d before within. subst (λ o. AreApart o (slice_index_or seats.seats j d)) (sym (ap (λ os. slice_index_or os i d) free ∙ get_or-replicate 8 i None d (let long = ap length free in omega (arith, before, within, long)))) tt;
}

module _ (s : Shape) (pool : List (Option (List ℕ))) (owners : List Own) (nodes : List Node) (n : ℕ) (c : CacheState) (seats : SeatsState) (is : IsStoreOf s pool owners nodes) (place : IsPlace n) (last : n ≤ s.nodes) (idle : node_at nodes n ≡ Idle)
    (number : c.node.0 ≡ n) (empty : c.pages ≡ []) (free : seats.seats ≡ replicate 8 None) where
  rest : IsAtRest owners n
  rest = rest_at s pool owners nodes n place idle is

  -- nothing is out at it
  owned_none : AreOwned owners c
  owned_none x = (
    λ out. absurd (rest x.0 (inr (out ∙ ap Out (ap (λ k. record { 0 = k }) number)))),
    λ cached. (let none : is_cached x c ≡ false = ap (λ ps. is_some (page_at x ps)) empty in absurd cc),
  )

  pub store_started : IsCache c.node c.pages → c.log.shape ≡ s → c.log.node ≡ c.node → seats.node ≡ c.node → IsStoreOf s pool owners (with_node nodes n (Up c seats))
  store_started cache shape log seat = record {
    shared = record {
      shape = is.shared.shape;
      table = is.shared.table;
      eight = length-set nodes (n - 1) (Up c seats) ∙ is.shared.eight;
      frames = (let old = is.shared.frames in let sum = cached_with nodes n (Up c seats) is.shared.eight place in let before : count_of (node_at nodes n) ≡ 0 = ap count_of idle in omega (arith, old, sum, before));
      apart = apart_with nodes n (Up c seats) is.shared.eight place (λ m other far. rw empty (apart_none (pages_of (node_at nodes m)))) is.shared.apart;
      holders = is.shared.holders;
    };
    is = each_with nodes n (Up c seats) is.shared.eight place (IsNode s pool owners) (record {
      number = number;
      cache = cache;
      store = record { valid = is.shared.shape; shape = shape; node = (let first = place.0 in omega (arith, first, number), omega (arith, last, number)); pages = rw empty (λ k d low. absurd (omega (arith, low))) };
      shown = rw empty (λ k d low. absurd (omega (arith, low)));
      owned = owned_none;
      log_tie = record { node = log; changes = rw empty (λ k d low. absurd (omega (arith, low))) };
      tie = tied_new seats c seat free;
      eight = ap length free;
    }) (λ m other far. is.is m other);
  }

  -- ---- what it shows

  -- with an empty cache and no transaction, over the log of an idle node
  pub up_started : (b b' : ℕ → BlockState) (p : Plain) (m : Machine) → region c.log ≡ region_of s n → (xs : List (List ℕ)) → LogContent (region_of s n) (contents b) c.log.start xs
      → ((start : ℕ) (xs : List (List ℕ)) → IsStill (region c.log) b → LogContent (region c.log) (contents b) start xs → HasNoFuture (region c.log) (contents b) start xs → IsLogOn c.log b' xs)
      → ShowsIdle s n b p m → ShowsUp s pool n c seats b' p (one (Start n) m)
  up_started b b' p m region_is xs read on shown =
      let start : m.start n ≡ c.log.start = one_start (region_of s n) (contents b) (m.start n) c.log.start (map record_text (p.live n)) xs shown.content read in
      let none = shown.none in
      record {
        records = record {
          legal = shown.legal;
          on = on (m.start n) (map record_text (p.live n)) (subst (λ g. IsStill g b) (sym region_is) shown.still) (subst (λ g. LogContent g (contents b) (m.start n) (map record_text (p.live n))) (sym region_is) shown.content) (subst (λ g. HasNoFuture g (contents b) (m.start n) (map record_text (p.live n))) (sym region_is) shown.clean);
        };
        told = record {
          names = subst (λ k. NamesEarlier (6 * k) (p.live n)) start shown.names;
          each = rw free (All-replicate (λ o. IfSome o (IsOpenIn (6 * c.log.start) (p.live n))) 8 None tt);
        };
        start = start;
        cached = rw empty (λ k d low. absurd (omega (arith, low)));
        lives = rw empty (λ k d low. absurd (omega (arith, low)));
        deeds = λ seat low.
            let nobody : txn_in seats seat ≡ None = ap (λ os. slice_index_or os seat None) free ∙ get_or-replicate 8 seat None None low in
            rw none (rw nobody refl);
        within = rw none (λ k d low. absurd (omega (arith, low)));
      }

  pub shown_started : (b : ℕ → BlockState) (p : Plain) (m : Machine) → region c.log ≡ region_of s n → (xs : List (List ℕ)) → LogContent (region_of s n) (contents b) c.log.start xs
      → ((start : ℕ) (xs : List (List ℕ)) → IsStill (region c.log) b → LogContent (region c.log) (contents b) start xs → HasNoFuture (region c.log) (contents b) start xs → IsLogOn c.log b xs)
      → ShowsStoreOf s pool owners nodes b p m → ShowsStoreOf s pool owners (with_node nodes n (Up c seats)) b p (one (Start n) m)
  shown_started b p m region_is xs read on was =
      let before = subst (λ o. ShowsNode s pool n o b p m) idle (was.node n place last) in
      shown_with s pool pool owners owners nodes n c seats b b p p m (one (Start n) m) is place was (λ k k_is low far. record { narrows = λ i o within may. may; keeps = λ i within. refl; still = λ still. still }) (λ k k_is far i d below. refl)
      (λ k k_is far. record { live = refl; mode = put_other n mode.Up m.mode k far; start = refl; pending = refl; images = λ i d below. refl; lives = λ i d below. refl })
      (means_started p m n was.means) was.shape (put_same n mode.Up m.mode n refl) (up_started b b p m region_is xs read on before.1) (λ x within settled. was.stored x within (settled_before s pool owners nodes n (Up c seats) is place idle x settled)) was.hold

-- ---- the same of the store as the code has it

module _ (me new : Store) (n : ℕ) (c : CacheState) (seats : SeatsState) (shape : new.shape ≡ me.shape) (shared : new.shared ≡ me.shared) (nodes : new.nodes ≡ with_node me.nodes n (Up c seats)) where
  pub moved : (P : Shape → Shared → List Node → Type 0) → P me.shape me.shared (with_node me.nodes n (Up c seats)) → P new.shape new.shared new.nodes
  moved P was = subst (λ s. P s new.shared new.nodes) (sym shape) (subst (λ h. P me.shape h new.nodes) (sym shared) (subst (P me.shape me.shared) (sym nodes) was))

  pub works_started : (disk disk' vault vault' : DiskState) → IsPlace n → IsStoreOf me.shape me.shared.pool me.shared.owners me.nodes → IsStoreOf me.shape me.shared.pool me.shared.owners (with_node me.nodes n (Up c seats)) → IsServedOf me.shape me.nodes disk vault
      → Keeps n disk disk' → Keeps n vault vault' → disk'.live n ≡ true → vault'.live n ≡ true → Works n me new disk disk' vault vault'
  works_started disk disk' vault vault' place was is served keeps vault_keeps live vault_live =
      let eight = was.shared.eight in
      let others = others_stay me.nodes n (Up c seats) eight place in
      let up : is_up (node_at (with_node me.nodes n (Up c seats)) n) ≡ true = ap is_up (at_same me.nodes n (Up c seats) eight place) in
      record {
        ready = record {
          is = moved (λ s h os. IsStoreOf s h.pool h.owners os) is;
          served = moved (λ s h os. IsServedOf s os disk' vault') (served_still me.shape me.nodes (with_node me.nodes n (Up c seats)) n disk disk' vault vault' keeps vault_keeps (live ∙ sym up) (vault_live ∙ sym up) others served);
        };
        shape = shape;
        keeps = keeps;
        vault_keeps = vault_keeps;
        others = moved (λ s h os. OthersStay n me.nodes os) others;
        frames = moved (λ s h os. KeepsFramesBut n me.nodes me.shared.pool h.pool) (λ m other far k d below. refl);
      }
