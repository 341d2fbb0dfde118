-- What calls of one node leave, one after the other, where others may have to give up pages in them.
use Rattle.std.specs.Prelude.{◌≡◌, ◌≢◌, ℕ, true, false, List, refl}
use Rattle.std.proofs.Common.{inl, inr, ap, subst, sym, ◌∙◌}
use Rattle.std.proofs.lemmas.Bool.{cases_eq}
use Rattle.sd_base.specs.Calls.{Keeps}
use Rattle.sd_base.specs.Disk.{BlockState, DiskState}
use Rattle.sd_base.specs.Faults.{Grew-keeps, Grew-same, Grew-then}
use Rattle.store_nodes.specs.declared.node.Node.{Node}
use Rattle.store_nodes.specs.declared.node.Node.TheVariants.{Idle, Up, Down}
use Rattle.store_nodes.specs.declared.store.Store.{Store}
use Rattle.store_nodes.specs.Nodes.{IsPlace, OnUp, is_up, node_at}
use Rattle.store_nodes.specs.Pages.{KeepsSeats, KeepsWork}
use Rattle.store_nodes.specs.Ports.{IsReady, IsWorker, KeepsPorts, NarrowsWith, StaysOrStops, Works, WorksWith, Writes, WritesWith}

-- ---- another node

pub seats_then : (a b c : Node) → KeepsSeats a b → KeepsSeats b c → KeepsSeats a c
seats_then Idle b c first next = by b first next
  where
    by : (b : Node) → b ≡ Idle → KeepsSeats b c → c ≡ Idle
    by Idle first next = next
    by (Up k seats) first next = cc
    by Down first next = cc
seats_then (Up k seats) Idle c first next = (let never : false ≡ true = first.0 in cc)
seats_then (Up k seats) (Up d mid) c first next = (next.0, subst (λ those. OnUp c (λ e after. after ≡ those)) first.1 next.1)
seats_then (Up k seats) Down c first next = (let never : false ≡ true = first.0 in cc)
seats_then Down b c first next = by b first next
  where
    by : (b : Node) → b ≡ Down → KeepsSeats b c → c ≡ Down
    by Idle first next = cc
    by (Up k seats) first next = cc
    by Down first next = next

-- the work of a node is kept by two calls, where each keeps it
pub work_then : (n : ℕ) (a b c : Store) → KeepsWork n a b → KeepsWork n b c → KeepsWork n a c
work_then n a b c first next = record {
  locks = next.locks ∙ first.locks;
  reopening = next.reopening ∙ first.reopening;
  seats = seats_then (node_at a.nodes n) (node_at b.nodes n) (node_at c.nodes n) first.seats next.seats;
}

pub seats_same : (a b : Node) → b ≡ a → KeepsSeats a b
seats_same Idle b same = same
seats_same (Up c seats) b same = subst (KeepsSeats (Up c seats)) (sym same) (refl, refl)
seats_same Down b same = same

pub stays_same : (says : Type 0) (a b : Node) → b ≡ a → StaysOrStops says a b
stays_same says Idle b same = same
stays_same says (Up c seats) b same = inl (seats_same (Up c seats) b same)
stays_same says Down b same = same

pub stays_seats : (says : Type 0) (a b : Node) → KeepsSeats a b → StaysOrStops says a b
stays_seats says Idle b keeps = keeps
stays_seats says (Up c seats) b keeps = inl keeps
stays_seats says Down b keeps = keeps

stays_then : (says : Type 0) (a b c : Node) → StaysOrStops ⊥ a b → StaysOrStops says b c → StaysOrStops says a c
stays_then says Idle b c first next = subst (λ o. StaysOrStops says o c) first next
stays_then says (Up k seats) b c (inr none) next = absurd none.0
stays_then says (Up k seats) Idle c (inl keeps) next = (let never : false ≡ true = keeps.0 in cc)
stays_then says (Up k seats) (Up d mid) c (inl keeps) (inl more) = inl (seats_then (Up k seats) (Up d mid) c keeps more)
stays_then says (Up k seats) (Up d mid) c (inl keeps) (inr stop) = inr stop
stays_then says (Up k seats) Down c (inl keeps) next = (let never : false ≡ true = keeps.0 in cc)
stays_then says Down b c first next = subst (λ o. StaysOrStops says o c) first next

-- a node that is up was up
up_earlier : (says : Type 0) (a b : Node) → StaysOrStops says a b → is_up b ≡ true → is_up a ≡ true
up_earlier says Idle b stays up = ap is_up (sym stays) ∙ up
up_earlier says (Up c seats) b stays up = refl
up_earlier says Down b stays up = ap is_up (sym stays) ∙ up

-- ---- one call of the node itself

pub ports_of : (n : ℕ) (nodes : List Node) (a b : DiskState) → Keeps n a b → KeepsPorts n nodes a b
ports_of n nodes a b keeps = record {
  name = keeps.name;
  size = keeps.size;
  reach = keeps.reach;
  below = keeps.below;
  orders = keeps.orders;
  live = λ m idle. keeps.live m (λ same. idle (inl same));
  faults = λ m idle. keeps.other_faults m (λ same. idle (inl same));
  cuts = λ m idle. keeps.other_cuts m (λ same. idle (inl same));
  grew = Grew-keeps n a b keeps;
}

pub works_with : (n : ℕ) (says : ℕ → Type 0) (old new : Store) (disk disk' vault vault' : DiskState) → Works n old new disk disk' vault vault' → WorksWith n says old new disk disk' vault vault'
works_with n says old new disk disk' vault vault' works = record {
  ready = works.ready;
  shape = works.shape;
  keeps = ports_of n old.nodes disk disk' works.keeps;
  vault_keeps = ports_of n old.nodes vault vault' works.vault_keeps;
  others = λ m is far. stays_same (says m) (node_at old.nodes m) (node_at new.nodes m) (works.others m is far);
}

pub writes_with : (n : ℕ) (old new : Store) (b b' : ℕ → BlockState) → Writes n old new b b' → WritesWith n old new b b'
writes_with n old new b b' writes = record {
  quiet = writes.quiet;
  besides = λ k o page ring may. writes.besides k o page (λ number. ring n number (inl refl)) may;
}

-- ---- a call of another node that was up

ports_for : (n h : ℕ) (nodes : List Node) (a b : DiskState) → IsPlace h → is_up (node_at nodes h) ≡ true → Keeps h a b → KeepsPorts n nodes a b
ports_for n h nodes a b place up keeps = record {
  name = keeps.name;
  size = keeps.size;
  reach = keeps.reach;
  below = keeps.below;
  orders = keeps.orders;
  live = λ m idle. keeps.live m (far m idle);
  faults = λ m idle. keeps.other_faults m (far m idle);
  cuts = λ m idle. keeps.other_cuts m (far m idle);
  grew = Grew-keeps h a b keeps;
}
  where
    far : (m : ℕ) → ¬ (IsWorker n nodes m) → m ≢ h
    far m idle same = idle (inr (subst IsPlace (sym same) place, ap (λ k. is_up (node_at nodes k)) same ∙ up))

pub works_for : (n h : ℕ) (says : ℕ → Type 0) (old new : Store) (disk disk' vault vault' : DiskState) → IsPlace h → is_up (node_at old.nodes h) ≡ true → StaysOrStops (says h) (node_at old.nodes h) (node_at new.nodes h) → Works h old new disk disk' vault vault'
    → WorksWith n says old new disk disk' vault vault'
works_for n h says old new disk disk' vault vault' place up here works = record {
  ready = works.ready;
  shape = works.shape;
  keeps = ports_for n h old.nodes disk disk' place up works.keeps;
  vault_keeps = ports_for n h old.nodes vault vault' place up works.vault_keeps;
  others = λ m is far. elim (cases_eq m h) [
    | inl same ↦ subst (λ k. StaysOrStops (says k) (node_at old.nodes k) (node_at new.nodes k)) (sym same) here
    | inr apart ↦ stays_same (says m) (node_at old.nodes m) (node_at new.nodes m) (works.others m is apart)
  ];
}

pub writes_for : (n h : ℕ) (old new : Store) (b b' : ℕ → BlockState) → IsPlace h → is_up (node_at old.nodes h) ≡ true → Writes h old new b b' → WritesWith n old new b b'
writes_for n h old new b b' place up writes = record {
  quiet = writes.quiet;
  besides = λ k o page ring may. writes.besides k o page (λ number. ring h number (inr (place, up))) may;
}

-- ---- nothing at all

pub works_same : (n : ℕ) (says : ℕ → Type 0) (c : Store) (disk vault : DiskState) → IsReady c disk vault → WorksWith n says c c disk disk vault vault
works_same n says c disk vault ready = record {
  ready = ready;
  shape = refl;
  keeps = record { name = refl; size = refl; reach = refl; below = refl; orders = refl; live = λ m idle. refl; faults = λ m idle. refl; cuts = λ m idle. refl; grew = Grew-same disk };
  vault_keeps = record { name = refl; size = refl; reach = refl; below = refl; orders = refl; live = λ m idle. refl; faults = λ m idle. refl; cuts = λ m idle. refl; grew = Grew-same vault };
  others = λ m is far. stays_same (says m) (node_at c.nodes m) (node_at c.nodes m) refl;
}

-- ---- two after one another

pub worker_earlier : (n : ℕ) (says : ℕ → Type 0) (a b : Store) (da db va vb : DiskState) → WorksWith n says a b da db va vb → (m : ℕ) → IsWorker n b.nodes m → IsWorker n a.nodes m
worker_earlier n says a b da db va vb works m (inl same) = inl same
worker_earlier n says a b da db va vb works m (inr up) = elim (cases_eq m n) [
  | inl same ↦ inl same
  | inr far ↦ inr (up.0, up_earlier (says m) (node_at a.nodes m) (node_at b.nodes m) (works.others m up.0 far) up.1)
]

ports_then : (n : ℕ) (nodes later : List Node) (a b c : DiskState) → ((m : ℕ) → IsWorker n later m → IsWorker n nodes m) → KeepsPorts n nodes a b → KeepsPorts n later b c → KeepsPorts n nodes a c
ports_then n nodes later a b c earlier p q = record {
  name = q.name ∙ p.name;
  size = q.size ∙ p.size;
  reach = q.reach ∙ p.reach;
  below = q.below ∙ p.below;
  orders = q.orders ∙ p.orders;
  live = λ m idle. q.live m (λ works. idle (earlier m works)) ∙ p.live m idle;
  faults = λ m idle. q.faults m (λ works. idle (earlier m works)) ∙ p.faults m idle;
  cuts = λ m idle. q.cuts m (λ works. idle (earlier m works)) ∙ p.cuts m idle;
  grew = Grew-then a b c p.grew q.grew;
}

pub works_with_then : (n : ℕ) (says : ℕ → Type 0) (a b c : Store) (da db dc va vb vc : DiskState) → WorksWith n (λ m. ⊥) a b da db va vb → WorksWith n says b c db dc vb vc → WorksWith n says a c da dc va vc
works_with_then n says a b c da db dc va vb vc p q = record {
  ready = q.ready;
  shape = q.shape ∙ p.shape;
  keeps = ports_then n a.nodes b.nodes da db dc earlier p.keeps q.keeps;
  vault_keeps = ports_then n a.nodes b.nodes va vb vc earlier p.vault_keeps q.vault_keeps;
  others = λ m is far. stays_then (says m) (node_at a.nodes m) (node_at b.nodes m) (node_at c.nodes m) (p.others m is far) (q.others m is far);
}
  where
    earlier : (m : ℕ) → IsWorker n b.nodes m → IsWorker n a.nodes m
    earlier = worker_earlier n (λ m. ⊥) a b da db va vb p

pub writes_with_then : (n : ℕ) (says : ℕ → Type 0) (a b c : Store) (da db va vb : DiskState) (x y z : ℕ → BlockState) → WorksWith n says a b da db va vb → WritesWith n a b x y → WritesWith n b c y z → WritesWith n a c x z
writes_with_then n says a b c da db va vb x y z works p q = record {
  quiet = q.quiet;
  besides = λ k o page ring may. p.besides k o page ring (next k o page (λ m number is. ring m number (worker_earlier n says a b da db va vb works m is)) may);
}
  where
    next : NarrowsWith n b.nodes a.shape y z
    next = subst (λ s. NarrowsWith n b.nodes s y z) works.shape q.besides
