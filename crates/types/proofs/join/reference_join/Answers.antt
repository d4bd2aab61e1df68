use Rattle.std.proofs.Common.{◌<◌, ◌∙◌, sym, ap, arith}
use Rattle.types.specs.View.{element_in, array_join}
use Rattle.types.proofs.References.{join_same, join_less, join_more}
use Rattle.types.proofs.join.reference_join.Goals as goal

pub returns-then-s-t : goal.returns-then-s-t
returns-then-s-t c =
    let files = c.args.set.now in
    let s = c.args.s in
    let t = c.args.t in
    c.array_join.ensures ∙ ap (λ o. array_join s.dimensions o) c.element_join-component.ensures ∙ sym (join_same files s.dimensions t.dimensions (element_in files s.element) (element_in files t.element) c.if-s-t.true)

pub returns-then-s-t-2 : goal.returns-then-s-t-2
returns-then-s-t-2 c =
    let files = c.args.set.now in
    let s = c.args.s in
    let t = c.args.t in
    c.array_join-then-s-t-2.ensures ∙ ap (λ o. array_join s.dimensions o) c.object_above_element-component.ensures ∙ sym (join_less files s.dimensions t.dimensions s.element t.element c.if-s-t-2.true)

pub returns : goal.returns
returns c =
    let files = c.args.set.now in
    let s = c.args.s in
    let t = c.args.t in
    let l : t.dimensions < s.dimensions = omega arith in
    c.array_join-2.ensures ∙ ap (λ o. array_join t.dimensions o) c.object_above_element-component-2.ensures ∙ sym (join_more files s.dimensions t.dimensions s.element t.element l)
