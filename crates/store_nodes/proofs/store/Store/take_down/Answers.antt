use Rattle.std.proofs.Common.{◌≡◌, ◌-◌, false, inl, inr, ap, sym, subst, refl, slice_set, ◌∙◌}
use Rattle.node_cache.specs.Room.{freed}
use Rattle.store_nodes.specs.declared.node.Node.TheVariants.{Up}
use Rattle.store_nodes.specs.Nodes.{IsStoreOf, KeepsFramesBut, node_at, is_up}
use Rattle.store_nodes.proofs.Eight.{found_at}
use Rattle.store_nodes.proofs.Halts.{frames_ended, given_none, none_cached, store_downed, store_ended}
use Rattle.store_nodes.proofs.store.Store.take_down.Goals as goal

pub returns-in-Up-clause-is : goal.returns-in-Up-clause-is
returns-in-Up-clause-is g c =
    let me = c.args.self.now in
    let eight = c.requires.is.shared.eight in
    let at : node_at me.nodes c.args.n.0 ≡ Up c.in-Up.cache c.in-Up._seats = found_at me.nodes c.args.n.0 c.place.result c.index-self-place.result _ eight c.requires.node c.place.ensures.is (sym c.replace.ensures.value ∙ c.in-Up.is) in
    subst (λ i. IsStoreOf me.shape c.wreck.new.pool c.wreck.new.owners (slice_set me.nodes i c.replace.new.dest)) (sym c.place.ensures.is)
    (subst (λ o. IsStoreOf me.shape c.wreck.new.pool c.wreck.new.owners (slice_set me.nodes (c.args.n.0 - 1) o)) (sym c.replace.ensures.after)
    (store_ended me.shape me.shared.pool c.wreck.new.pool me.shared.owners c.wreck.new.owners me.nodes c.args.n c.in-Up.cache c.in-Up._seats c.requires.node at c.requires.is c.wreck.ensures.pool c.wreck.ensures.counted c.wreck.ensures.owners c.wreck.ensures.parked))

pub returns-in-Up-clause-frames : goal.returns-in-Up-clause-frames
returns-in-Up-clause-frames g c =
    let me = c.args.self.now in
    let at : node_at me.nodes c.args.n.0 ≡ Up c.in-Up.cache c.in-Up._seats = found_at me.nodes c.args.n.0 c.place.result c.index-self-place.result _ c.requires.is.shared.eight c.requires.node c.place.ensures.is (sym c.replace.ensures.value ∙ c.in-Up.is) in
    subst (λ p. KeepsFramesBut c.args.n.0 me.nodes me.shared.pool p) (sym c.wreck.ensures.pool) (frames_ended me.shape me.shared.pool me.shared.owners me.nodes c.args.n.0 c.in-Up.cache c.in-Up._seats c.requires.node at c.requires.is.shared)

pub returns-in-Idle : goal.returns-in-Idle
returns-in-Idle g c =
    let me = c.args.self.now in
    let at : node_at me.nodes c.args.n.0 ≡ c.replace.result = found_at me.nodes c.args.n.0 c.place.result c.index-self-place.result c.replace.result c.requires.is.shared.eight c.requires.node c.place.ensures.is (sym c.replace.ensures.value) in
    let down : is_up (node_at me.nodes c.args.n.0) ≡ false = ap is_up at ∙ elim c.in-Idle.is [ inl idle ↦ ap is_up idle | inr down ↦ ap is_up down ] in
    record {
      is = subst (λ i. IsStoreOf me.shape me.shared.pool me.shared.owners (slice_set me.nodes i c.replace.new.dest)) (sym c.place.ensures.is)
          (subst (λ o. IsStoreOf me.shape me.shared.pool me.shared.owners (slice_set me.nodes (c.args.n.0 - 1) o)) (sym c.replace.ensures.after) (store_downed me.shape me.shared.pool me.shared.owners me.nodes c.args.n c.requires.node down c.requires.is));
      shape = refl;
      nodes = ap (λ i. slice_set me.nodes i c.replace.new.dest) c.place.ensures.is ∙ ap (λ o. slice_set me.nodes (c.args.n.0 - 1) o) c.replace.ensures.after;
      pool = sym (ap (λ ps. freed ps me.shared.pool) (none_cached (node_at me.nodes c.args.n.0) down));
      owners = given_none me.shape me.shared.pool me.shared.owners me.nodes c.args.n down c.requires.is;
      locks = refl;
      reopening = refl;
      frames = λ m other far k d below. refl;
    }
