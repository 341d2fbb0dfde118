use Rattle.std.proofs.Common.{◌≡◌, ◌≢◌, ◌<◌, ℕ, true, arith, ap, sym, subst}
use Rattle.sd_base.specs.Places.{map_of_data, map_of_page}
use Rattle.sd_base.specs.declared.names.PageNo.{PageNo}
use Rattle.sd_base.proofs.PlaceLaws.{map_of_data-below, map_of_page-data}
use Rattle.state_ids.specs.Held.{Shows}
use Rattle.state_ids.specs.PageImage.{PageImage, is_map}
use Rattle.recovery_theory.specs.Redo.{is_applied, redo_step}
use Rattle.recovery_theory.specs.Steps.{set_at}
use Rattle.recovery_theory.proofs.Cuts.{set_at-other, set_at-same}
use Rattle.state_ids.specs.Blocks.{IsOfKind}
use Rattle.state_ids.specs.PageImage.{page_of}
use Rattle.one_log_redo.proofs.PageKinds.{data_kind, data_shown, map_kind, map_op, map_shown, slot_op, stepped_kind, stepped_page}
use Rattle.one_log_redo.proofs.redoing.redo_page.Goals as goal

pub redo_map_page-requires-clause-image : goal.redo_map_page-requires-clause-image
redo_map_page-requires-clause-image c = map_shown c.args.s.now c.args.x c.args.pool.now c.args.f.now c.if-x-s.true c.requires.image

pub redo_map_page-requires-clause-kind : goal.redo_map_page-requires-clause-kind
redo_map_page-requires-clause-kind c = map_op c.args.s.now c.args.x.0 c.args.bsi c.args.op.now c.requires.change c.if-x-s.true

pub redo_data_page-requires-clause-map : goal.redo_data_page-requires-clause-map
redo_data_page-requires-clause-map c =
    let s = c.args.s.now in
    let low : (map_of_page s c.args.x).0 < s.maps = subst (λ (y : PageNo). y.0 < s.maps) (sym (map_of_page-data s c.args.x c.if-x-s.false)) (map_of_data-below s c.args.x c.if-x-s.false c.requires.page) in
    map_shown s (map_of_page s c.args.x) c.args.pool.now c.args.map.now low c.requires.map

pub redo_data_page-requires-clause-image : goal.redo_data_page-requires-clause-image
redo_data_page-requires-clause-image c = data_shown c.args.s.now c.args.x c.args.pool.now c.args.f.now c.if-x-s.false c.requires.image

pub redo_data_page-requires-clause-kind : goal.redo_data_page-requires-clause-kind
redo_data_page-requires-clause-kind c = slot_op c.args.s.now c.args.x.0 c.args.bsi c.args.op.now c.requires.change c.if-x-s.false

pub returns-then-x-s-clause-shows : goal.returns-then-x-s-clause-shows
returns-then-x-s-clause-shows c =
    let s = c.args.s.now in
    let w = c.requires.image in
    let images : ℕ → PageImage = λ y. w.0 in
    let shows = c.redo_map_page.ensures.image images w.1 (map_kind s c.args.x w.0 w.2 w.3 c.if-x-s.true) in
    (redo_step s c.args.x.0 (record { bsi = c.args.bsi; op = c.args.op.now }) images c.args.x.0, shows, stepped_page s c.args.x c.args.bsi c.args.op.now images w.2, stepped_kind s c.args.x c.args.bsi c.args.op.now images w.2 w.3)

pub returns-then-x-s-clause-made : goal.returns-then-x-s-clause-made
returns-then-x-s-clause-made c = λ images m h. c.redo_map_page.ensures.made images h.shows

pub returns-then-x-s-clause-image : goal.returns-then-x-s-clause-image
returns-then-x-s-clause-image c = λ images m h. record {
  shows = c.redo_map_page.ensures.image images h.shows (map_kind c.args.s.now c.args.x (images c.args.x.0) h.page h.kind c.if-x-s.true);
  page = stepped_page c.args.s.now c.args.x c.args.bsi c.args.op.now images h.page;
  kind = stepped_kind c.args.s.now c.args.x c.args.bsi c.args.op.now images h.page h.kind;
}

pub returns-else-x-s-clause-shows : goal.returns-else-x-s-clause-shows
returns-else-x-s-clause-shows c =
    let s = c.args.s.now in
    let x = c.args.x in
    let w = c.requires.image in
    let m = c.requires.map in
    let images : ℕ → PageImage = set_at x.0 w.0 (λ y. m.0) in
    let here : images x.0 ≡ w.0 = set_at-same x.0 w.0 (λ y. m.0) in
    let moved = map_of_page-data s x c.if-x-s.false in
    let low : (map_of_data s x).0 < s.maps = map_of_data-below s x c.if-x-s.false c.requires.page in
    let there : images (map_of_data s x).0 ≡ m.0 = set_at-other x.0 w.0 (λ y. m.0) (map_of_data s x).0 (let le = c.if-x-s.false in omega arith) in
    let low' : (map_of_page s x).0 < s.maps = subst (λ (y : PageNo). y.0 < s.maps) (sym moved) low in
    let is : is_map (images (map_of_data s x).0) ≡ true = subst (λ (i : PageImage). is_map i ≡ true) (sym there) (map_kind s (map_of_page s x) m.0 m.2 m.3 low') in
    let page : page_of (images x.0) ≡ x = subst (λ (i : PageImage). page_of i ≡ x) (sym here) w.2 in
    let kind : IsOfKind s (images x.0) = subst (IsOfKind s) (sym here) w.3 in
    let shows = c.redo_data_page.ensures.image images (subst (Shows c.args.pool.now c.args.map.now) (sym there) m.1) is (subst (Shows c.args.pool.now c.args.f.now) (sym here) w.1) (data_kind s x (images x.0) page kind c.if-x-s.false) in
    (redo_step s x.0 (record { bsi = c.args.bsi; op = c.args.op.now }) images x.0, shows, stepped_page s x c.args.bsi c.args.op.now images page, stepped_kind s x c.args.bsi c.args.op.now images page kind)

pub returns-else-x-s-clause-made : goal.returns-else-x-s-clause-made
returns-else-x-s-clause-made c = λ images m h.
    let s = c.args.s.now in
    let x = c.args.x in
    let moved = map_of_page-data s x c.if-x-s.false in
    let low' : (map_of_page s x).0 < s.maps = subst (λ (y : PageNo). y.0 < s.maps) (sym moved) (map_of_data-below s x c.if-x-s.false c.requires.page) in
    c.redo_data_page.ensures.made images (subst (λ (y : PageNo). Shows c.args.pool.now c.args.map.now (images y.0)) moved m.shows)
    (subst (λ (y : PageNo). is_map (images y.0) ≡ true) moved (map_kind s (map_of_page s x) (images (map_of_page s x).0) m.page m.kind low')) h.shows

pub returns-else-x-s-clause-image : goal.returns-else-x-s-clause-image
returns-else-x-s-clause-image c = λ images m h.
    let s = c.args.s.now in
    let x = c.args.x in
    let moved = map_of_page-data s x c.if-x-s.false in
    let low' : (map_of_page s x).0 < s.maps = subst (λ (y : PageNo). y.0 < s.maps) (sym moved) (map_of_data-below s x c.if-x-s.false c.requires.page) in
    record {
      shows = c.redo_data_page.ensures.image images (subst (λ (y : PageNo). Shows c.args.pool.now c.args.map.now (images y.0)) moved m.shows)
          (subst (λ (y : PageNo). is_map (images y.0) ≡ true) moved (map_kind s (map_of_page s x) (images (map_of_page s x).0) m.page m.kind low')) h.shows (data_kind s x (images x.0) h.page h.kind c.if-x-s.false);
      page = stepped_page s x c.args.bsi c.args.op.now images h.page;
      kind = stepped_kind s x c.args.bsi c.args.op.now images h.page h.kind;
    }
