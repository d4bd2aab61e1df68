use Rattle.std.proofs.Common.{◌<◌, ◌∙◌, sym, arith}
use Rattle.types.specs.View.{element_in}
use Rattle.types.proofs.References.{below_same, below_less, below_more}
use Rattle.types.proofs.order.is_assignable.Goals as goal

pub returns-then-s-t : goal.returns-then-s-t
returns-then-s-t c =
    let files = c.args.set.now in
    c.is_element_below.ensures ∙ sym (below_same files c.args.s.dimensions c.args.t.dimensions (element_in files c.args.s.element) (element_in files c.args.t.element) c.if-s-t.true)

pub returns-then-s-t-2 : goal.returns-then-s-t-2
returns-then-s-t-2 c = sym (below_less c.args.set.now c.args.s.dimensions c.args.t.dimensions c.args.s.element c.args.t.element c.if-s-t-2.true)

pub returns : goal.returns
returns c =
    let l : c.args.t.dimensions < c.args.s.dimensions = omega arith in
    c.is_object_element.ensures ∙ sym (below_more c.args.set.now c.args.s.dimensions c.args.t.dimensions c.args.s.element c.args.t.element l)
