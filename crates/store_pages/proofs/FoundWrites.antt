-- What is found in a node's log of the updates that are left of a transaction.
use Rattle.std.specs.Prelude.{◌≡◌, ◌≢◌, ◌==◌, ◌⊎◌, ◌*◌, ◌+◌, ◌-◌, ◌^◌, ◌<◌, ◌≤◌, ◌++◌, ◌∷◌, [], ℕ, Bool, true, false, List, Option, Some, None, All, IfSome, MatchOption, cond, filter, is_some, reverse, slice_index_or, refl}
use Rattle.std.specs.List.{count_by, range_with_len, sum_by}
use Rattle.std.proofs.Common.{arith, inl, inr, ap, subst, sym, ◌∙◌}
use Rattle.std.proofs.lemmas.List.{append_assoc, append-nil, reverse-append}
use Rattle.std.proofs.lemmas.List.FromFn.{get_or-range_with_len, length-range_with_len}
use Rattle.std.proofs.lemmas.List.Sums.{get_or-le-sum_by, sum_by-append, sum_by-cons}
use Rattle.std.proofs.lemmas.List.Elements.{All-cons, All-filter, All-head, All-tail}
use Rattle.sd_base.specs.Disk.{BlockState}
use Rattle.sd_base.specs.Shape.{page_count}
use Rattle.sd_base.specs.declared.names.PageNo.{PageNo}
use Rattle.sd_base.specs.declared.names.TxnId.{TxnId}
use Rattle.sd_base.specs.declared.page_op.PageOp.{PageOp}
use Rattle.sd_base.specs.declared.shape.Shape.{Shape}
use Rattle.log_record.specs.declared.record.LogRecord.{LogRecord}
use Rattle.log_record.specs.declared.record.LogRecord.TheVariants.{Begin}
use Rattle.log_record.specs.Record.{page_op_of}
use Rattle.page_image.specs.declared.page_view.PageView.{PageView}
use Rattle.compensation.specs.Left.{is_update_of, uncompensated}
use Rattle.compensation.specs.Finding.{newest, record_at}
use Rattle.node_cache.specs.Cache.{CacheState}
use Rattle.txn_core.specs.Seats.{OpenTxn, SeatsState, txn_in}
use Rattle.txn_core.specs.Updates.{HasPage}
use Rattle.txn_core.proofs.UndoLaws.{page_of_update}
use Rattle.record_machine.specs.Machine.{Deed, Machine, Write, home, writes_page, is_write_in, newest_of, without_newest, writes_of}
use Rattle.record_machine.specs.Meaning.{AreBelowTop, AreLogs, ArePages, Plain}
use Rattle.record_machine.proofs.Homes.{home_is_data}
use Rattle.record_machine.proofs.Newest.{newest_is, no_writes, none_newest, some_write, writes_rest}
use Rattle.store_nodes.specs.Shows.{ShowsUp}
use Rattle.store_pages.specs.Updates.{IsLeftAfter, IsNextAfter, IsNumberOf, changes_page, is_op_of, left_on}
use Rattle.store_nodes.proofs.CachedImages.{data_shown}
use Rattle.store_nodes.proofs.LeftWrites as writes
use Rattle.store_nodes.proofs.LeftWrites.{Stands, back_parts, numbers_back}
use Rattle.store_nodes.proofs.Living.{living}

-- the last of a list, if it has one
last_of : {X : Type 0} (xs : List X) → (xs ≡ []) ⊎ ((ys : List X) × (y : X) × (xs ≡ ys ++ y ∷ []))
last_of [] = inl refl
last_of (x ∷ xs) = elim (last_of xs) [
  | inl none ↦ inr ([], x, ap (λ zs. x ∷ zs) none)
  | inr some ↦ inr (x ∷ some.0, some.1, ap (λ zs. x ∷ zs) some.2)
]

not_empty : {X : Type 0} (ys : List X) (y : X) → ys ++ y ∷ [] ≡ [] → ⊥
not_empty [] y is = cc
not_empty (x ∷ ys) y is = cc

one_last : {X : Type 0} (xs ys : List X) (x y : X) → xs ++ x ∷ [] ≡ ys ++ y ∷ [] → x ≡ y
one_last xs ys x y same =
    let back : x ∷ reverse xs ≡ y ∷ reverse ys = sym (reverse-append xs (x ∷ [])) ∙ ap reverse same ∙ reverse-append ys (y ∷ []) in
    cc

-- what a node has is no more than what all have
sum_at : (g : ℕ → ℕ) (k n : ℕ) → 1 ≤ n → n ≤ k → g n ≤ sum_by g (range_with_len 1 k)
sum_at g k n first last =
    let count = length-range_with_len 1 k in
    let at : slice_index_or (range_with_len 1 k) (n - 1) 0 ≡ 1 + (n - 1) = get_or-range_with_len 1 k (n - 1) 0 (omega (arith, first, last)) in
    let here : slice_index_or (range_with_len 1 k) (n - 1) 0 ≡ n = omega (arith, at, first) in
    subst (λ j. g j ≤ sum_by g (range_with_len 1 k)) here (get_or-le-sum_by g (range_with_len 1 k) (n - 1) 0 (omega (arith, count, first, last)))

module _ (n : ℕ) (s : Shape) (pool : List (Option (List ℕ))) (c : CacheState) (seats : SeatsState) (b : ℕ → BlockState) (p : Plain) (m : Machine) (t : TxnId) (u : OpenTxn) (was : ShowsUp s pool n c seats b p m) (logs : AreLogs p m) (node : t.node.0 ≡ n) (low : t.seat < 8) (busy : txn_in seats t.seat ≡ Some u) where
  abbrev pub first : ℕ
  first = 6 * c.log.start

  abbrev pub left : List ℕ
  left = uncompensated u.begin first (p.live n)

  stand : All (Stands first (p.live n)) (m.pending n)
  stand = writes.stand n s pool c seats b p m t u was logs node low busy

  writes_left : numbers_back (writes_of m t) ≡ left
  writes_left = writes.writes_left n s pool c seats b p m t u was logs node low busy

  left_parts : (earlier later : List Deed) (d : Deed) → writes_of m t ≡ earlier ++ d ∷ later → left ≡ numbers_back later ++ d.number ∷ numbers_back earlier
  left_parts earlier later d are = writes.left_parts n s pool c seats b p m t u was logs node low busy earlier later d are

  wrote : (d : Deed) (newer before : List ℕ) → Stands first (p.live n) d → left ≡ newer ++ d.number ∷ before → is_some d.write ≡ true
  wrote d newer before stands at = writes.wrote n s pool c seats b p m t u was logs node low busy d newer before stands at

  -- ---- what is found in the log

  -- of one of the writes
  at_middle : (P : Deed → Type 0) (ys zs : List Deed) (d : Deed) → All P (ys ++ d ∷ zs) → P d
  at_middle P [] zs d all = All-head P d zs all
  at_middle P (y ∷ ys) zs d all = at_middle P ys zs d (All-tail P y (ys ++ d ∷ zs) all)

  in_writes : (P : Deed → Type 0) (ys zs : List Deed) (d : Deed) → All P (m.pending t.node.0) → writes_of m t ≡ ys ++ d ∷ zs → P d
  in_writes P ys zs d all are = at_middle P ys zs d (subst (All P) are (All-filter (is_write_in t.seat) P (m.pending t.node.0) all))

  module _ (shape : m.shape ≡ s) (pages : ArePages p m) where
    -- the write whose record was found
    found_page : (ys zs : List Deed) (d : Deed) (v : ℕ × PageNo) (rec : LogRecord) → writes_of m t ≡ ys ++ d ∷ zs → d.number ≡ v.0 → record_at first (p.live n) v.0 ≡ Some rec → is_update_of u.begin rec ≡ true → IfSome (page_op_of rec) (λ o. o.0 ≡ v.1)
        → (w : Write) × (d.write ≡ Some w) × (w.page ≡ v.1.0) × (s.maps ≤ v.1.0) × (v.1.0 < page_count s)
    found_page ys zs d v rec are number at update page = by d.write refl
      where
        it : Stands first (p.live n) d
        it = in_writes (Stands first (p.live n)) ys zs d (subst (λ j. All (Stands first (p.live n)) (m.pending j)) (sym node) stand) are

        same : it.rec ≡ rec
        same = let both : Some it.rec ≡ Some rec = sym it.there ∙ ap (record_at first (p.live n)) number ∙ at in cc

        in_page : (o : Option (PageNo × ℕ × PageOp)) (w : Write) → page_op_of rec ≡ o → IfSome o (λ q. q.0 ≡ v.1) → IfSome o (λ q. q.0.0 ≡ w.page) → w.page ≡ v.1.0
        in_page None w op here there = absurd (page_of_update u.begin rec update op)
        in_page (Some q) w op here there = sym there ∙ ap (λ (x : PageNo). x.0) here

        by : (o : Option Write) → d.write ≡ o → (w : Write) × (d.write ≡ Some w) × (w.page ≡ v.1.0) × (s.maps ≤ v.1.0) × (v.1.0 < page_count s)
        by None none = let never : false ≡ true = ap is_some (sym none) ∙ wrote d (numbers_back zs) (numbers_back ys) it (left_parts ys zs d are) in cc
        by (Some w) is =
            let stands = (subst (λ o. IfSome o (λ x. (it.rec ≢ Begin) × (is_some (page_op_of it.rec) ≡ true) × IfSome (page_op_of it.rec) (λ q. q.0.0 ≡ x.page))) is it.wrote).2 in
            let here : w.page ≡ v.1.0 = in_page (page_op_of rec) w refl page (subst (λ r. IfSome (page_op_of r) (λ q. q.0.0 ≡ w.page)) same stands) in
            let home_is : home m w.key ≡ Some w.page = subst (λ o. IfSome o (λ x. home m x.key ≡ Some x.page)) is (in_writes (λ e. IfSome e.write (λ x. home m x.key ≡ Some x.page)) ys zs d (logs.homes t) are) in
            let range = home_is_data p m w.key w.page pages home_is in
            let maps : m.shape.maps ≡ s.maps = ap (λ (z : Shape). z.maps) shape in
            (w, is, here, omega (arith, range, maps, here), omega (arith, range, maps, here))

    -- what is found before some of the writes is the last of them
    pub found_write : (earlier later : List Deed) (v : ℕ × PageNo) → writes_of m t ≡ earlier ++ later → IsNextAfter u.begin first (p.live n) (numbers_back earlier) (Some v)
        → (ys : List Deed) × (d : Deed) × (earlier ≡ ys ++ d ∷ []) × (d.number ≡ v.0) × (w : Write) × (d.write ≡ Some w) × (w.page ≡ v.1.0) × (s.maps ≤ v.1.0) × (v.1.0 < page_count s)
    found_write earlier later v are found = elim (last_of earlier) [
      | inl none ↦ let never : newest (numbers_back []) ≡ Some v.0 = ap (λ es. newest (numbers_back es)) (sym none) ∙ found.0 in cc
      | inr some ↦
          let ys = some.0 in
          let d = some.1 in
          let head : Some d.number ≡ Some v.0 = ap newest (sym (back_parts ys [] d)) ∙ ap (λ es. newest (numbers_back es)) (sym some.2) ∙ found.0 in
          let number : d.number ≡ v.0 = cc in
          let rest = found_page ys later d v found.1 (are ∙ ap (λ es. es ++ later) some.2 ∙ append_assoc ys (d ∷ []) later) number found.2 found.3 found.4 in
          (ys, d, some.2, number, rest.0, rest.1, rest.2, rest.3, rest.4)
    ]

    -- and what is found first the newest of them
    pub found_newest : (v : ℕ × PageNo) → IsNextAfter u.begin first (p.live n) left (Some v) → (d : Deed) × (w : Write) × (newest_of m t ≡ Some d) × (d.write ≡ Some w) × (w.page ≡ v.1.0)
    found_newest v found = by (newest_of m t) refl
      where
        it : (ys : List Deed) × (d : Deed) × (writes_of m t ≡ ys ++ d ∷ []) × (d.number ≡ v.0) × (w : Write) × (d.write ≡ Some w) × (w.page ≡ v.1.0) × (s.maps ≤ v.1.0) × (v.1.0 < page_count s)
        it = found_write (writes_of m t) [] v (sym (append-nil (writes_of m t))) (subst (λ ns. IsNextAfter u.begin first (p.live n) ns (Some v)) (sym writes_left) found)

        by : (o : Option Deed) → newest_of m t ≡ o → (d : Deed) × (w : Write) × (newest_of m t ≡ Some d) × (d.write ≡ Some w) × (w.page ≡ v.1.0)
        by None none = let never : it.0 ++ it.1 ∷ [] ≡ [] = sym it.2 ∙ no_writes t.seat (m.pending t.node.0) (none_newest t.seat (m.pending t.node.0) none) in absurd (not_empty it.0 it.1 never)
        by (Some e) is =
            let same : e ≡ it.1 = one_last (filter (is_write_in t.seat) (without_newest t.seat (m.pending t.node.0))) it.0 e it.1 (sym (writes_rest t.seat (m.pending t.node.0) e (newest_is t.seat (m.pending t.node.0) e is)) ∙ it.2) in
            (it.1, it.4, is ∙ ap Some same, it.5, it.6)

    pub found_nothing : IsNextAfter u.begin first (p.live n) left None → newest_of m t ≡ None
    found_nothing none = by (newest_of m t) refl
      where
        by : (o : Option Deed) → newest_of m t ≡ o → newest_of m t ≡ None
        by None is = is
        by (Some e) is =
            let parts = left_parts (filter (is_write_in t.seat) (without_newest t.seat (m.pending t.node.0))) [] e (writes_rest t.seat (m.pending t.node.0) e (newest_is t.seat (m.pending t.node.0) e is)) in
            let never : e.number ∷ numbers_back (filter (is_write_in t.seat) (without_newest t.seat (m.pending t.node.0))) ≡ [] = sym parts ∙ none in cc

    -- a data page of the store, and the number of a write
    pub found_range : (earlier later : List Deed) (o : Option (ℕ × PageNo)) → writes_of m t ≡ earlier ++ later → IsNextAfter u.begin first (p.live n) (numbers_back earlier) o → IfSome o (λ v. (s.maps ≤ v.1.0) × (v.1.0 < page_count s))
    found_range earlier later None are found = tt
    found_range earlier later (Some v) are found = let it = found_write earlier later v are found in (it.7, it.8)

    pub found_number : (earlier later : List Deed) (o : Option (ℕ × PageNo)) → writes_of m t ≡ earlier ++ later → IsNextAfter u.begin first (p.live n) (numbers_back earlier) o → IfSome o (λ v. IsNumberOf m t v.0)
    found_number earlier later None are found = tt
    found_number earlier later (Some v) are found =
        let it = found_write earlier later v are found in
        (it.0, later, it.1, are ∙ ap (λ es. es ++ later) it.2 ∙ append_assoc it.0 (it.1 ∷ []) later, it.3)

    pub found_first : (o : Option (ℕ × PageNo)) → IsNextAfter u.begin first (p.live n) left o → MatchOption o (newest_of m t ≡ None) (λ v. (d : Deed) × (w : Write) × (newest_of m t ≡ Some d) × (d.write ≡ Some w) × (w.page ≡ v.1.0))
    found_first None found = found_nothing found
    found_first (Some v) found = found_newest v found

  -- what is left after an update, or in all
  pub left_after : (number : Option ℕ) → IfSome number (IsNumberOf m t) → (earlier later : List Deed) × (writes_of m t ≡ earlier ++ later) × IsLeftAfter u.begin first (p.live n) number (numbers_back earlier)
  left_after None some = (writes_of m t, [], sym (append-nil (writes_of m t)), sym writes_left)
  left_after (Some number) some = (some.0, some.2 ∷ some.1, some.3, (numbers_back some.1, left_parts some.0 some.1 some.2 some.3 ∙ ap (λ n. numbers_back some.1 ++ n ∷ numbers_back some.0) some.4))

  -- ---- the room of a page

  -- a record changes the page of its write
  of_page : (x : ℕ) (d : Deed) → Stands first (p.live n) d → is_some d.write ≡ true → changes_page first (p.live n) x d.number ≡ writes_page x d
  of_page x d stands some = by d.write refl
    where
      on_op : (o : Option (PageNo × ℕ × PageOp)) (w : Write) → IfSome o (λ q. q.0.0 ≡ w.page) → is_some o ≡ true → is_op_of x o ≡ (w.page == x)
      on_op None w page op = cc
      on_op (Some q) w page op = ap (λ y. y == x) page

      by : (o : Option Write) → d.write ≡ o → changes_page first (p.live n) x d.number ≡ writes_page x d
      by None none = let never : false ≡ true = ap is_some (sym none) ∙ some in cc
      by (Some w) is =
          let wrote = subst (λ o. IfSome o (λ z. (stands.rec ≢ Begin) × (is_some (page_op_of stands.rec) ≡ true) × IfSome (page_op_of stands.rec) (λ q. q.0.0 ≡ z.page))) is stands.wrote in
          rw stands.there (rw is (on_op (page_op_of stands.rec) w wrote.2 wrote.1))

  -- so many updates of it are left as the transaction has written of it
  counted_back : (x : ℕ) (ds : List Deed) → All (λ d. Stands first (p.live n) d × (is_some d.write ≡ true)) ds → count_by (changes_page first (p.live n) x) (numbers_back ds) ≡ count_by (writes_page x) ds
  counted_back x [] all = refl
  counted_back x (d ∷ ds) all =
      let test = changes_page first (p.live n) x in
      let f : ℕ → ℕ = (λ k. cond (test k) 1 0) in
      let rest = counted_back x ds (All-tail (λ e. Stands first (p.live n) e × (is_some e.write ≡ true)) d ds all) in
      let here = All-head (λ e. Stands first (p.live n) e × (is_some e.write ≡ true)) d ds all in
      let one = ap {B = ℕ} (λ t. cond t 1 0) (of_page x d here.0 here.1) in
      let parts = ap (count_by test) (back_parts [] ds d) ∙ sum_by-append f (numbers_back ds) (d.number ∷ []) in
      let last = sum_by-cons f d.number [] in
      let sum = sum_by-cons (λ e. cond (writes_page x e) 1 0) d ds in
      omega (arith, rest, one, parts, last, sum)

  all_both : (P Q : Deed → Type 0) (ds : List Deed) → All P ds → All Q ds → All (λ d. P d × Q d) ds
  all_both P Q ds all more = λ k d at. (all k d at, more k d at)

  -- each write of it is one
  pub all_some : (ds : List Deed) → All (λ d. is_some d.write ≡ true) (filter (is_write_in t.seat) ds)
  all_some [] = λ k d at. absurd (omega (arith, at))
  all_some (d ∷ ds) = by (is_write_in t.seat d) refl (all_some ds)
    where
      by : (o : Bool) → is_write_in t.seat d ≡ o → All (λ e. is_some e.write ≡ true) (filter (is_write_in t.seat) ds) → All (λ e. is_some e.write ≡ true) (filter (is_write_in t.seat) (d ∷ ds))
      by true is rest = rw is (All-cons (λ e. is_some e.write ≡ true) d (filter (is_write_in t.seat) ds) (some_write t.seat d is) rest)
      by false is rest = rw is rest

  -- those of the transaction are no more than those of all
  some_of : (x : ℕ) (ds : List Deed) → count_by (writes_page x) (filter (is_write_in t.seat) ds) ≤ count_by (writes_page x) ds
  some_of x [] = omega arith
  some_of x (d ∷ ds) = by (is_write_in t.seat d) refl (some_of x ds)
    where
      f : Deed → ℕ
      f e = cond (writes_page x e) 1 0

      by : (o : Bool) → is_write_in t.seat d ≡ o → count_by (writes_page x) (filter (is_write_in t.seat) ds) ≤ count_by (writes_page x) ds → count_by (writes_page x) (filter (is_write_in t.seat) (d ∷ ds)) ≤ count_by (writes_page x) (d ∷ ds)
      by true is rest = rw is (let a = sum_by-cons (λ e. cond (writes_page x e) 1 0) d (filter (is_write_in t.seat) ds) in let b = sum_by-cons (λ e. cond (writes_page x e) 1 0) d ds in omega (arith, a, b, rest))
      by false is rest = rw is (let b = sum_by-cons (λ e. cond (writes_page x e) 1 0) d ds in omega (arith, b, rest))

  -- the page has room for them
  pub left_fits : (x : PageNo) (v : PageView) → m.shape ≡ s → 1 ≤ n → n ≤ s.nodes → ArePages p m → AreBelowTop m → s.maps ≤ x.0 → x.0 < page_count s → HasPage pool c.pages x v → v.ident + left_on u.begin first (p.live n) x.0 ≤ 2 ^ 63 + 2 ^ 40
  left_fits x v shape place known pages tops far within has =
      let same : v ≡ p.pages x.0 = data_shown s p pool c.pages x v (living s p m shape pages) far within was.cached has in
      let maps : m.shape.maps ≡ s.maps = ap (λ (z : Shape). z.maps) shape in
      let ident : v.ident ≡ m.ident x.0 = ap (λ (o : PageView). o.ident) same ∙ pages.ident x.0 (omega (arith, far, maps)) (omega (arith, within, maps)) in
      let top = tops x.0 (omega (arith, far, maps)) (omega (arith, within, maps)) in
      let all = all_both (Stands first (p.live n)) (λ d. is_some d.write ≡ true) (filter (is_write_in t.seat) (m.pending n)) (All-filter (is_write_in t.seat) (Stands first (p.live n)) (m.pending n) stand) (all_some (m.pending n)) in
      let back : numbers_back (filter (is_write_in t.seat) (m.pending n)) ≡ left = subst (λ j. numbers_back (filter (is_write_in t.seat) (m.pending j)) ≡ left) node writes_left in
      let counted : left_on u.begin first (p.live n) x.0 ≡ count_by (writes_page x.0) (filter (is_write_in t.seat) (m.pending n)) = ap (count_by (changes_page first (p.live n) x.0)) (sym back) ∙ counted_back x.0 (filter (is_write_in t.seat) (m.pending n)) all in
      let fewer = some_of x.0 (m.pending n) in
      let all_writes = sum_at (λ k. count_by (writes_page x.0) (m.pending k)) m.shape.nodes n place (let nodes = ap (λ (z : Shape). z.nodes) shape in omega (arith, known, nodes)) in
      omega (arith, ident, top, counted, fewer, all_writes)
