use Rattle.std.proofs.Common.{◌≡◌, ◌<◌, ◌+◌, ◌-◌, ◌∙◌, arith, length, subst, sym, true}
use Rattle.search.proofs.Marks.{IsSwept, all_swept, node_within, not_swept, opened, passed, to_within}
use Rattle.search.proofs.endless.sweep.Goals.{then-is_open, else-is_open}
use Rattle.search.proofs.endless.sweep.Goals as goal

pub edges-init : goal.edges-init
edges-init c = not_swept c.args.edges.now c.args.marks.now

pub is_open-requires-clause-node : goal.is_open-requires-clause-node
is_open-requires-clause-node c =
    node_within c.args.edges.now c.args.marks.now c.edges.at c.edges.is_more c.edges.marks c.edges.invariant c.requires (length c.args.edges.now - 1 - c.edges.at) (omega (arith, c.edges-test.true))

pub is_open-requires-clause-to : goal.is_open-requires-clause-to
is_open-requires-clause-to c =
    to_within c.args.edges.now c.args.marks.now c.edges.at c.edges.is_more c.edges.marks c.edges.invariant c.requires (length c.args.edges.now - 1 - c.edges.at) (omega (arith, c.edges-test.true))

pub bounds-marks-edge : goal.bounds-marks-edge
bounds-marks-edge c =
    node_within c.args.edges.now c.args.marks.now c.edges.at c.edges.is_more c.edges.marks c.edges.invariant c.requires (length c.args.edges.now - 1 - c.edges.at) (omega (arith, c.edges-test.true))

pub edges-preserved : goal.edges-preserved
edges-preserved c =
    let edges = c.args.edges.now in
    let old = c.args.marks.now in
    let at = c.edges.at in
    let k = length edges - 1 - at in
    let lt : k < length edges = omega (arith, c.edges-test.true) in
    elim c.if-is_open.branch [
      | then-is_open w ↦
          subst (λ b. IsSwept edges old (at + 1) b c.if-is_open.marks) (sym w.is_more-is)
          (subst (λ l. IsSwept edges old (at + 1) true l) (sym w.marks-is)
          (opened edges old at c.edges.is_more c.edges.marks c.edges.invariant c.requires k lt (sym c.is_open.ensures ∙ w.if-is_open.true)))
      | else-is_open w ↦
          let place : k + (at + 1) ≡ length edges = omega (arith, c.edges-test.true) in
          subst (λ b. IsSwept edges old (at + 1) b c.if-is_open.marks) (sym w.is_more-is)
          (subst (λ l. IsSwept edges old (at + 1) c.edges.is_more l) (sym w.marks-is)
          (passed edges old at c.edges.is_more c.edges.marks c.edges.invariant c.requires k lt place (sym c.is_open.ensures ∙ w.if-is_open.false)))
    ]

pub returns : goal.returns
returns c = all_swept c.args.edges.now c.args.marks.now c.edges.at c.edges.is_more c.edges.marks (omega (arith, c.edges-test.false)) c.edges.invariant
