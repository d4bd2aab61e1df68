use Rattle.std.proofs.Common.{◌∙◌, ◌<◌, length, sym, subst}
use Rattle.model.specs.Classes.{classes_of}
use Rattle.hierarchy.specs.Places.{name_at}
use Rattle.types.proofs.Classes.{common_above}
use Rattle.types.proofs.class.join_by_search.Goals as goal

pub loop-place-preserved : goal.loop-place-preserved
loop-place-preserved c =
    let files = c.args.set.now in
    let more : c.loop-place._place < length (classes_of files) = subst (λ k. c.loop-place._place < k) c.count-place-end.ensures c.loop-place-test.true in
    sym (common_above files (length (classes_of files)) c.loop-place._place (name_at files c.loop-place.class) (name_at files c.in-Some.next) (name_at files c.args.d) more (sym c.is_subclass.ensures ∙ c.if-is_subclass.false) (sym c.in-Some.ensures))
    ∙ c.loop-place.invariant
