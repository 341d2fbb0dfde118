-- The pages of a transaction's updates that nodes have which are down are those that the machine names.
use Rattle.std.specs.Prelude.{◌≡◌, ◌≢◌, ◌*◌, ◌<◌, ◌≤◌, ◌++◌, ◌∷◌, [], ℕ, true, false, List, Option, Some, None, All, IfSome, IsTrue, is_some, map, reverse, refl}
use Rattle.std.specs.List.{flat_map}
use Rattle.std.proofs.Common.{arith, ap, subst, sym, ◌∙◌}
use Rattle.std.proofs.lemmas.List.{map-append, reverse-append}
use Rattle.std.proofs.lemmas.List.Concat.{flat_map-cons}
use Rattle.std.proofs.lemmas.List.Elements.{All-filter, All-head, All-push, All-tail}
use Rattle.sd_base.proofs.PlaceLaws.{map_of_data-below}
use Rattle.sd_base.specs.Disk.{BlockState}
use Rattle.sd_base.specs.Places.{map_of_data}
use Rattle.sd_base.specs.Shape.{page_count}
use Rattle.sd_base.specs.declared.names.PageNo.{PageNo}
use Rattle.sd_base.specs.declared.names.TxnId.{TxnId}
use Rattle.sd_base.specs.declared.page_op.PageOp.{PageOp}
use Rattle.sd_base.specs.declared.shape.Shape.{Shape}
use Rattle.log_record.specs.declared.record.LogRecord.{LogRecord}
use Rattle.log_record.specs.declared.record.LogRecord.TheVariants.{Begin}
use Rattle.log_record.specs.Record.{page_op_of}
use Rattle.script_text.specs.declared.reply.Reply.{Reply}
use Rattle.node_cache.specs.Cache.{CacheState}
use Rattle.txn_core.specs.Seats.{OpenTxn, SeatsState, is_busy, txn_in}
use Rattle.txn_core.specs.Told.{AreTold, HasRecords}
use Rattle.txn_core.proofs.SeatLaws.{txn_of}
use Rattle.record_machine.specs.Commands.{first_of, takes_back, takes_written}
use Rattle.record_machine.specs.Machine.{Deed, Machine, Write, home, is_write_in, writes_of}
use Rattle.record_machine.specs.Parts.{Part, Take}
use Rattle.record_machine.specs.Steps.{held, held_page}
use Rattle.record_machine.proofs.Homes.{home_is_data}
use Rattle.store_nodes.specs.declared.node.Node.{Node}
use Rattle.store_nodes.specs.declared.node.Node.TheVariants.{Idle, Up, Down}
use Rattle.store_nodes.specs.declared.store.Store.{Store}
use Rattle.store_nodes.specs.Known.{held_in}
use Rattle.store_nodes.specs.Nodes.{IsNode, IsPlace, IsStore, OnUp, is_up, node_at}
use Rattle.store_nodes.specs.Shows.{IsShown, ShowsNode, ShowsUp}
use Rattle.store_nodes.proofs.LeftWrites as writes
use Rattle.store_nodes.proofs.LeftWrites.{Stands, back_parts, numbers_back}
use Rattle.store_pages.specs.Holders.{held_among, held_at, held_both, held_left, held_op}
use Rattle.store_pages.proofs.FoundWrites.{all_some}
use Rattle.store_pages.proofs.ShownHeld.{held_shown}

-- the first of two, and then the first of these and more
first_three : (a b c : Option Reply) → first_of (first_of (a ∷ b ∷ []) ∷ c ∷ []) ≡ first_of (a ∷ first_of (b ∷ c ∷ []) ∷ [])
first_three (Some why) b c = refl
first_three None (Some why) c = refl
first_three None None None = refl
first_three None None (Some why) = refl

-- what holds of all holds of them in the other order
all_reverse : (P : Deed → Type 0) (ds : List Deed) → All P ds → All P (reverse ds)
all_reverse P [] all = all
all_reverse P (d ∷ ds) all = subst (All P) (sym (reverse-append (d ∷ []) ds)) (All-push P (reverse ds) d (all_reverse P ds (All-tail P d ds all)) (All-head P d ds all))

numbers_down : (ds : List Deed) → numbers_back ds ≡ map (λ d. d.number) (reverse ds)
numbers_down [] = refl
numbers_down (d ∷ ds) =
    back_parts [] ds d ∙ ap (λ ns. ns ++ d.number ∷ []) (numbers_down ds)
    ∙ sym (ap (map (λ (e : Deed). e.number)) (reverse-append (d ∷ []) ds) ∙ map-append (λ (e : Deed). e.number) (reverse ds) (d ∷ []))

-- the record of a write is in the log, and the write in the page of its key's group
abbrev IsOfPage : Machine → ℕ → List LogRecord → Deed → Type 0
IsOfPage m first recs d = Stands first recs d × (is_some d.write ≡ true) × IfSome d.write (λ w. home m w.key ≡ Some w.page)

module _ (me : Store) (b : ℕ → BlockState) (m : Machine) (t : TxnId) (c : CacheState) (seats : SeatsState) (u : OpenTxn) (is : IsStore me) (shown : IsShown me b m) (was : ShowsUp me.shape me.shared.pool t.node.0 c seats b shown.0 m) (low : t.seat < 8) (busy : txn_in seats t.seat ≡ Some u) where
  -- the two pages of a write
  both : (x : PageNo) → me.shape.maps ≤ x.0 → x.0 < page_count me.shape → held_both me x ≡ first_of (held_page m (map_of_data m.shape x).0 ∷ held_page m x.0 ∷ [])
  both x far within =
      let map_low = map_of_data-below me.shape x far within in
      let map_within : (map_of_data me.shape x).0 < page_count me.shape = omega (arith, map_low, far, within) in
      let map_is : held_page m (map_of_data m.shape x).0 ≡ held_in me (map_of_data me.shape x) = ap (λ (s : Shape). held_page m (map_of_data s x).0) shown.1.nodes.shape ∙ held_shown me (map_of_data me.shape x) b m is map_within shown in
      ap (λ o. first_of (o ∷ held_in me x ∷ [])) (sym map_is) ∙ ap (λ o. first_of (held_page m (map_of_data m.shape x).0 ∷ o ∷ [])) (sym (held_shown me x b m is within shown))

  at_write : (d : Deed) (w : Write) → d.write ≡ Some w → IsOfPage m (6 * c.log.start) (shown.0.live t.node.0) d → held_at me (6 * c.log.start) (shown.0.live t.node.0) d.number ≡ first_of (held_page m (map_of_data m.shape (record { 0 = w.page })).0 ∷ held_page m w.page ∷ [])
  at_write d w write of =
      rw of.0.there (by (page_op_of of.0.rec) refl page) ∙ both (record { 0 = w.page }) far within
    where
      page : IfSome (page_op_of of.0.rec) (λ o. o.0.0 ≡ w.page)
      page = (subst (λ o. IfSome o (λ v. (of.0.rec ≢ Begin) × (is_some (page_op_of of.0.rec) ≡ true) × IfSome (page_op_of of.0.rec) (λ q. q.0.0 ≡ v.page))) write of.0.wrote).2

      there : is_some (page_op_of of.0.rec) ≡ true
      there = (subst (λ o. IfSome o (λ v. (of.0.rec ≢ Begin) × (is_some (page_op_of of.0.rec) ≡ true) × IfSome (page_op_of of.0.rec) (λ q. q.0.0 ≡ v.page))) write of.0.wrote).1

      range : (m.shape.maps ≤ w.page) × (w.page < page_count m.shape)
      range = home_is_data shown.0 m w.key w.page shown.1.nodes.means.pages (subst (λ o. IfSome o (λ v. home m v.key ≡ Some v.page)) write of.2)

      far : me.shape.maps ≤ w.page
      far = subst (λ (s : Shape). s.maps ≤ w.page) shown.1.nodes.shape range.0

      within : w.page < page_count me.shape
      within = subst (λ (s : Shape). w.page < page_count s) shown.1.nodes.shape range.1

      by : (o : Option (PageNo × ℕ × PageOp)) → page_op_of of.0.rec ≡ o → IfSome o (λ q. q.0.0 ≡ w.page) → held_op me o ≡ held_both me (record { 0 = w.page })
      by None op same = let never : false ≡ true = ap is_some (sym op) ∙ there in cc
      by (Some q) op same = ap (λ k. held_both me (record { 0 = k })) same

  -- one write after the other
  downward : (ds : List Deed) → All (IsOfPage m (6 * c.log.start) (shown.0.live t.node.0)) ds → held_among me (6 * c.log.start) (shown.0.live t.node.0) (map (λ d. d.number) ds) ≡ held m (flat_map (takes_written m t.node.0) ds)
  downward [] all = refl
  downward (d ∷ ds) all =
      let here = All-head (IsOfPage m (6 * c.log.start) (shown.0.live t.node.0)) d ds all in
      let rest = downward ds (All-tail (IsOfPage m (6 * c.log.start) (shown.0.live t.node.0)) d ds all) in
      by d.write refl here rest ∙ sym (ap (held m) (flat_map-cons (takes_written m t.node.0) d ds))
    where
      by : (o : Option Write) → d.write ≡ o → IsOfPage m (6 * c.log.start) (shown.0.live t.node.0) d → held_among me (6 * c.log.start) (shown.0.live t.node.0) (map (λ e. e.number) ds) ≡ held m (flat_map (takes_written m t.node.0) ds)
          → held_among me (6 * c.log.start) (shown.0.live t.node.0) (d.number ∷ map (λ e. e.number) ds) ≡ held m (takes_written m t.node.0 d ++ flat_map (takes_written m t.node.0) ds)
      by None write here rest = let never : false ≡ true = ap is_some (sym write) ∙ here.1 in cc
      by (Some w) write here rest =
          let rest_is : Option Reply = held m (flat_map (takes_written m t.node.0) ds) in
          let a : Option Reply = held_page m (map_of_data m.shape (record { 0 = w.page })).0 in
          let two : Option Reply = held_page m w.page in
          let parts : takes_written m t.node.0 d ≡ Take (map_of_data m.shape (record { 0 = w.page })).0 t.node.0 ∷ Take w.page t.node.0 ∷ [] = rw write refl in
          ap (λ o. first_of (o ∷ held_among me (6 * c.log.start) (shown.0.live t.node.0) (map (λ (e : Deed). e.number) ds) ∷ [])) (at_write d w write here)
          ∙ ap (λ o. first_of (first_of (a ∷ two ∷ []) ∷ o ∷ [])) rest
          ∙ first_three a two rest_is
          ∙ sym (ap (λ (ps : List Part). held m (ps ++ flat_map (takes_written m t.node.0) ds)) parts)

  of_pages : All (IsOfPage m (6 * c.log.start) (shown.0.live t.node.0)) (writes_of m t)
  of_pages =
      let logs = shown.1.nodes.means.logs in
      let stand = All-filter (is_write_in t.seat) (Stands (6 * c.log.start) (shown.0.live t.node.0)) (m.pending t.node.0) (writes.stand t.node.0 me.shape me.shared.pool c seats b shown.0 m t u was logs refl low busy) in
      let homes = All-filter (is_write_in t.seat) (λ (d : Deed). IfSome d.write (λ w. home m w.key ≡ Some w.page)) (m.pending t.node.0) (logs.homes t) in
      let some = all_some t.node.0 me.shape me.shared.pool c seats b shown.0 m t u was logs refl low busy (m.pending t.node.0) in
      λ k d at. (stand k d at, some k d at, homes k d at)

  pub left_is : held_left me u.begin (6 * c.log.start) (shown.0.live t.node.0) ≡ held m (takes_back m t)
  left_is =
      ap (held_among me (6 * c.log.start) (shown.0.live t.node.0)) (sym (writes.writes_left t.node.0 me.shape me.shared.pool c seats b shown.0 m t u was shown.1.nodes.means.logs refl low busy) ∙ numbers_down (writes_of m t))
      ∙ downward (reverse (writes_of m t)) (all_reverse (IsOfPage m (6 * c.log.start) (shown.0.live t.node.0)) (writes_of m t) of_pages)

-- where the log tells which page it is, or that there is none, the machine does
pub left_shown : (me : Store) (b : ℕ → BlockState) (m : Machine) (t : TxnId) (o : Option Reply) → IsStore me → IsPlace t.node.0 → is_up (node_at me.nodes t.node.0) ≡ true → t.seat ≤ 7 → OnUp (node_at me.nodes t.node.0) (λ c seats. IsTrue (is_busy seats t.seat)) → IsShown me b m
    → OnUp (node_at me.nodes t.node.0) (λ c seats. (recs : List LogRecord) (u : OpenTxn) → txn_in seats t.seat ≡ Some u → HasRecords c.log b recs → AreTold seats c.log.start recs → held_left me u.begin (6 * c.log.start) recs ≡ o) → held m (takes_back m t) ≡ o
left_shown me b m t o is place up seat busy shown left = by (node_at me.nodes t.node.0) refl up busy (is.is t.node.0 place) left
  where
    by : (node : Node) → node_at me.nodes t.node.0 ≡ node → is_up node ≡ true → OnUp node (λ c seats. IsTrue (is_busy seats t.seat)) → IsNode me.shape me.shared.pool me.shared.owners t.node.0 node
        → OnUp node (λ c seats. (recs : List LogRecord) (u : OpenTxn) → txn_in seats t.seat ≡ Some u → HasRecords c.log b recs → AreTold seats c.log.start recs → held_left me u.begin (6 * c.log.start) recs ≡ o) → held m (takes_back m t) ≡ o
    by Idle at up busy work left = cc
    by Down at up busy work left = cc
    by (Up c seats) at up busy work left =
        let known : t.node.0 ≤ me.shape.nodes = (let number = work.number in let last = work.store.node.1 in omega (arith, number, last)) in
        let mine = (subst (λ node. ShowsNode me.shape me.shared.pool t.node.0 node b shown.0 m) at (shown.1.nodes.node t.node.0 place known)).1 in
        let u = txn_of seats t.seat busy in
        let low : t.seat < 8 = omega (arith, seat) in
        sym (left_is me b m t c seats u.0 is shown mine low u.1) ∙ left (shown.0.live t.node.0) u.0 u.1 mine.records mine.told
