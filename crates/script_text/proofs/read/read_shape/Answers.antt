use Rattle.std.proofs.Common.{arith}
use Rattle.script_text.proofs.WordLaws.{cut_nodes, cut_ring, cut_maps, cut_keep, shape_of}
use Rattle.script_text.proofs.read.read_shape.Goals as goal

pub returns-in_err-nodes-clause-only : goal.returns-in_err-nodes-clause-only
returns-in_err-nodes-clause-only c = λ s valid is.
    absurd (c.in_err-nodes.ensures.only _ _ (cut_nodes s valid c.args.rest.now is))

pub returns-in_err-ring-clause-only : goal.returns-in_err-ring-clause-only
returns-in_err-ring-clause-only c = λ s valid is.
    let a = c.in_ok-nodes.ensures.only _ _ (cut_nodes s valid c.args.rest.now is) in
    absurd (c.in_err-ring.ensures.only _ _ (cut_ring s valid _ a.1))

pub returns-in_err-maps-clause-only : goal.returns-in_err-maps-clause-only
returns-in_err-maps-clause-only c = λ s valid is.
    let a = c.in_ok-nodes.ensures.only _ _ (cut_nodes s valid c.args.rest.now is) in
    let b = c.in_ok-ring.ensures.only _ _ (cut_ring s valid _ a.1) in
    absurd (c.in_err-maps.ensures.only _ _ (cut_maps s valid _ b.1))

pub returns-in_err-keep-clause-only : goal.returns-in_err-keep-clause-only
returns-in_err-keep-clause-only c = λ s valid is.
    let a = c.in_ok-nodes.ensures.only _ _ (cut_nodes s valid c.args.rest.now is) in
    let b = c.in_ok-ring.ensures.only _ _ (cut_ring s valid _ a.1) in
    let d = c.in_ok-maps.ensures.only _ _ (cut_maps s valid _ b.1) in
    absurd (c.in_err-keep.ensures.only _ _ (cut_keep s valid _ d.1))

pub returns-in_err-read_number-clause-only : goal.returns-in_err-read_number-clause-only
returns-in_err-read_number-clause-only c = λ s valid is.
    let a = c.in_ok-nodes.ensures.only _ _ (cut_nodes s valid c.args.rest.now is) in
    let b = c.in_ok-ring.ensures.only _ _ (cut_ring s valid _ a.1) in
    let d = c.in_ok-maps.ensures.only _ _ (cut_maps s valid _ b.1) in
    let e = c.in_ok-keep.ensures.only _ _ (cut_keep s valid _ d.1) in
    let read = c.in_err-read_number.ensures.only s.nodes (valid.nodes) a.0 in cc

pub returns-in_err-read_number-2-clause-only : goal.returns-in_err-read_number-2-clause-only
returns-in_err-read_number-2-clause-only c = λ s valid is.
    let a = c.in_ok-nodes.ensures.only _ _ (cut_nodes s valid c.args.rest.now is) in
    let b = c.in_ok-ring.ensures.only _ _ (cut_ring s valid _ a.1) in
    let d = c.in_ok-maps.ensures.only _ _ (cut_maps s valid _ b.1) in
    let e = c.in_ok-keep.ensures.only _ _ (cut_keep s valid _ d.1) in
    let read = c.in_err-read_number-2.ensures.only s.ring (valid.ring) b.0 in cc

pub returns-in_err-read_number-3-clause-only : goal.returns-in_err-read_number-3-clause-only
returns-in_err-read_number-3-clause-only c = λ s valid is.
    let a = c.in_ok-nodes.ensures.only _ _ (cut_nodes s valid c.args.rest.now is) in
    let b = c.in_ok-ring.ensures.only _ _ (cut_ring s valid _ a.1) in
    let d = c.in_ok-maps.ensures.only _ _ (cut_maps s valid _ b.1) in
    let e = c.in_ok-keep.ensures.only _ _ (cut_keep s valid _ d.1) in
    let read = c.in_err-read_number-3.ensures.only s.maps (valid.maps) d.0 in cc

pub returns-in_err-read_number-4-clause-only : goal.returns-in_err-read_number-4-clause-only
returns-in_err-read_number-4-clause-only c = λ s valid is.
    let a = c.in_ok-nodes.ensures.only _ _ (cut_nodes s valid c.args.rest.now is) in
    let b = c.in_ok-ring.ensures.only _ _ (cut_ring s valid _ a.1) in
    let d = c.in_ok-maps.ensures.only _ _ (cut_maps s valid _ b.1) in
    let e = c.in_ok-keep.ensures.only _ _ (cut_keep s valid _ d.1) in
    let read = c.in_err-read_number-4.ensures.only s.keep (valid.keep) e.0 in cc

pub returns-in_err-read_number-5-clause-only : goal.returns-in_err-read_number-5-clause-only
returns-in_err-read_number-5-clause-only c = λ s valid is.
    let a = c.in_ok-nodes.ensures.only _ _ (cut_nodes s valid c.args.rest.now is) in
    let b = c.in_ok-ring.ensures.only _ _ (cut_ring s valid _ a.1) in
    let d = c.in_ok-maps.ensures.only _ _ (cut_maps s valid _ b.1) in
    let e = c.in_ok-keep.ensures.only _ _ (cut_keep s valid _ d.1) in
    let read = c.in_err-read_number-5.ensures.only s.birth (omega arith, valid.birth) e.1 in cc

pub returns-clause-only : goal.returns-clause-only
returns-clause-only c = λ s valid is.
    let a = c.in_ok-nodes.ensures.only _ _ (cut_nodes s valid c.args.rest.now is) in
    let b = c.in_ok-ring.ensures.only _ _ (cut_ring s valid _ a.1) in
    let d = c.in_ok-maps.ensures.only _ _ (cut_maps s valid _ b.1) in
    let e = c.in_ok-keep.ensures.only _ _ (cut_keep s valid _ d.1) in
    shape_of c.in_ok-read_number.field-0 s.nodes c.in_ok-read_number-2.field-0 s.ring c.in_ok-read_number-3.field-0 s.maps c.in_ok-read_number-4.field-0 s.keep c.in_ok-read_number-5.field-0 s.birth
    (c.in_ok-read_number.ensures.only s.nodes (valid.nodes) a.0)
    (c.in_ok-read_number-2.ensures.only s.ring (valid.ring) b.0)
    (c.in_ok-read_number-3.ensures.only s.maps (valid.maps) d.0)
    (c.in_ok-read_number-4.ensures.only s.keep (valid.keep) e.0)
    (c.in_ok-read_number-5.ensures.only s.birth (omega arith, valid.birth) e.1)
