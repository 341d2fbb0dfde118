-- A page that a node holds already is taken again: the store shows the same.
use Rattle.std.specs.Prelude.{◌≡◌, ◌==◌, ◌∷◌, [], ℕ, Bool, true, false, List, Option, Some, None, Result, Ok, Err, IfErr, OnOk, refl}
use Rattle.std.proofs.Common.{ap, subst, ◌∙◌}
use Rattle.std.proofs.lemmas.Bool.{eqb-true}
use Rattle.sd_base.specs.Disk.{BlockState}
use Rattle.sd_base.specs.Places.{map_of_data}
use Rattle.sd_base.specs.declared.names.PageNo.{PageNo}
use Rattle.sd_base.specs.declared.shape.Shape.{Shape}
use Rattle.record_machine.specs.Machine.{Machine, is_down, put}
use Rattle.record_machine.specs.Meaning.{Means, Plain}
use Rattle.record_machine.specs.Parts.{Take, dos, one}
use Rattle.record_machine.specs.Steps.{held, held_page}
use Rattle.store_nodes.specs.declared.node.Node.{Node}
use Rattle.store_nodes.specs.declared.node.Node.TheVariants.{Idle, Up, Down}
use Rattle.store_nodes.specs.declared.store.Store.{Store}
use Rattle.store_nodes.specs.Nodes.{node_at}
use Rattle.store_nodes.specs.Shows.{IsShown, ShowsNode, ShowsStoreOf}
use Rattle.store_commands.specs.Aborts.{HoldsBoth, takes_page}
use Rattle.store_commands.proofs.TakenStill.{hold_still}
use Rattle.store_commands.proofs.Takings.{held_up}

means_again : (p : Plain) (m : Machine) (x n : ℕ) → Means p (one (Take x n) m) → Means p m
means_again p m x n was = record {
  pages = record { shape = was.pages.shape; count = was.pages.count; map_number = was.pages.map_number; number = was.pages.number; entries = was.pages.entries; map_ident = was.pages.map_ident; ident = was.pages.ident; alive = was.pages.alive; unused = was.pages.unused; present = was.pages.present; absent = was.pages.absent };
  logs = record { tail = was.logs.tail; deeds = was.logs.deeds; rising = was.logs.rising; homes = was.logs.homes };
  locked = record { apart = was.locked.apart; written = was.locked.written };
  tops = was.tops;
}

node_again : (s : Shape) (pool : List (Option (List ℕ))) (k : ℕ) (o : Node) (b : ℕ → BlockState) (p : Plain) (m : Machine) (x n : ℕ) → ShowsNode s pool k o b p (one (Take x n) m) → ShowsNode s pool k o b p m
node_again s pool k Idle b p m x n was = (was.0, record { legal = was.1.legal; still = was.1.still; content = was.1.content; clean = was.1.clean; names = was.1.names; none = was.1.none })
node_again s pool k (Up c seats) b p m x n was = (was.0, record { records = was.1.records; told = was.1.told; start = was.1.start; cached = was.1.cached; lives = was.1.lives; deeds = was.1.deeds; within = was.1.within })
node_again s pool k Down b p m x n was = was

pub taken_again : (c : Store) (b : ℕ → BlockState) (m : Machine) (x n : ℕ) → m.hold x ≡ Some n → IsShown c b (one (Take x n) m) → IsShown c b m
taken_again c b m x n held shown = (
  shown.0,
  record {
    nodes = record {
      means = means_again shown.0 m x n was.means;
      shape = was.shape;
      node = λ k k_is low. node_again c.shape c.shared.pool k (node_at c.nodes k) b shown.0 m x n (was.node k k_is low);
      stored = was.stored;
      hold = λ y within. by y (y == x) refl ∙ was.hold y within;
    };
    locks = shown.1.locks;
    reopening = shown.1.reopening;
  },
)
  where
    was : ShowsStoreOf c.shape c.shared.pool c.shared.owners c.nodes b shown.0 (one (Take x n) m)
    was = shown.1.nodes

    by : (y : ℕ) (t : Bool) → (y == x) ≡ t → m.hold y ≡ put x (Some n) m.hold y
    by y true same = rw same (ap m.hold (eqb-true y x same) ∙ held)
    by y false other = rw other refl

-- and so it is where a data page and its map page are
pub both_again : (c : Store) (b : ℕ → BlockState) (m : Machine) (s : Shape) (n : ℕ) (x : PageNo) → m.shape ≡ s → HoldsBoth m n x → IsShown c b (dos (takes_page s n x) m) → IsShown c b m
both_again c b m s n x shape held shown =
    let map = (map_of_data s x).0 in
    let first : m.hold map ≡ Some n = subst (λ z. m.hold (map_of_data z x).0 ≡ Some n) shape held.0 in
    taken_again c b m map n first (taken_again c b (one (Take map n) m) x.0 n (hold_still n x.0 (Take map n ∷ []) m (refl, tt) held.1) shown)

pub both_free : (m : Machine) (s : Shape) (n : ℕ) (x : PageNo) → m.shape ≡ s → is_down (m.mode n) ≡ false → HoldsBoth m n x → held m (takes_page s n x) ≡ None
both_free m s n x shape up held =
    let first : held_page m (map_of_data s x).0 ≡ None = held_up m (map_of_data s x).0 n up (subst (λ z. m.hold (map_of_data z x).0 ≡ Some n) shape held.0) in
    let next : held_page m x.0 ≡ None = held_up m x.0 n up held.1 in
    rw first (rw next refl)

-- what follows of each state that is shown, where a call was done, or wasn't
pub ok_shows : {T E : Type 0} (r : Result T E) (A : Type 0) (H S Q : Machine → Type 0) → (A → (m : Machine) → H m → S m → OnOk r (Q m)) → OnOk r (A → (m : Machine) → H m → S m → Q m)
ok_shows (Ok x) A H S Q all = all
ok_shows (Err why) A H S Q all = tt

pub err_shows : {T E : Type 0} (r : Result T E) (A : Type 0) (H S : Machine → Type 0) (Q : E → Type 0) → (A → (m : Machine) → H m → S m → IfErr r Q) → IfErr r (λ why. A → (m : Machine) → H m → S m → Q why)
err_shows (Ok x) A H S Q all = tt
err_shows (Err why) A H S Q all = all
