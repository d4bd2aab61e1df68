use Rattle.std.proofs.Common.{◌∙◌, refl, sym, ap, ◌&&◌, Bool}
use Rattle.model.specs.TypeOrder.{is_mark_below}
use Rattle.types.proofs.FrameTypes.{below_by}
use Rattle.types.proofs.frames.is_frame_below.Goals as goal

pub returns-then-not-is_stack_of_types_below : goal.returns-then-not-is_stack_of_types_below
returns-then-not-is_stack_of_types_below c =
    let a = c.args.a.now in
    let b = c.args.b.now in
    let m = is_mark_below a.constructed b.constructed in
    sym (ap (λ (v : Bool). v && (c.is_stack_of_types_below.result && m)) c.if-not-are_locals_below.false ∙ ap (λ (v : Bool). v && m) c.if-not-is_stack_of_types_below.true)
    ∙ below_by c.args.set.now a b c.are_locals_below.result c.is_stack_of_types_below.result m _ _ _ _ c.deref.ensures.value c.deref-2.ensures.value c.deref-3.ensures.value c.deref-4.ensures.value c.are_locals_below.ensures c.is_stack_of_types_below.ensures refl

pub returns : goal.returns
returns c =
    let a = c.args.a.now in
    let b = c.args.b.now in
    let m = c.is_mark_below.result in
    sym (ap (λ (v : Bool). v && (c.is_stack_of_types_below.result && m)) c.if-not-are_locals_below.false ∙ ap (λ (v : Bool). v && m) c.if-not-is_stack_of_types_below.false)
    ∙ below_by c.args.set.now a b c.are_locals_below.result c.is_stack_of_types_below.result m _ _ _ _ c.deref.ensures.value c.deref-2.ensures.value c.deref-3.ensures.value c.deref-4.ensures.value c.are_locals_below.ensures c.is_stack_of_types_below.ensures c.is_mark_below.ensures
