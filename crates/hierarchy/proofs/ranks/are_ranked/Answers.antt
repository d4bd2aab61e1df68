use Rattle.std.proofs.Common.{◌∙◌, sym, ap}
use Rattle.std.specs.Prelude.{not}
use Rattle.class_tree.specs.View.{file_of}
use Rattle.model.specs.Classes.{classes_of}
use Rattle.hierarchy.specs.Ranks.{is_misranked}
use Rattle.hierarchy.proofs.Indices.{none_more, none_all}
use Rattle.hierarchy.proofs.ranks.are_ranked.Goals as goal
use Rattle.hierarchy.proofs.Finding.{one_at}

pub returns-in_default : goal.returns-in_default
returns-in_default c = sym (ap not (none_all (is_misranked c.args.set.now c.args.ranks.now) (classes_of c.args.set.now) c.loop-place.place (sym c.in_default.ensures) c.loop-place.invariant))

pub returns-then-is_misranked : goal.returns-then-is_misranked
returns-then-is_misranked c =
    sym (ap not (one_at (is_misranked c.args.set.now c.args.ranks.now) (classes_of c.args.set.now) c.loop-place.place (file_of c.in-Some.file.now) (sym c.in-Some.ensures) (sym c.is_misranked.ensures ∙ c.if-is_misranked.true)))

pub loop-place-preserved : goal.loop-place-preserved
loop-place-preserved c =
    none_more (is_misranked c.args.set.now c.args.ranks.now) (classes_of c.args.set.now) c.loop-place.place (file_of c.in-Some.file.now) (sym c.in-Some.ensures) c.loop-place.invariant (sym c.is_misranked.ensures ∙ c.if-is_misranked.false)
