use Rattle.std.proofs.Common.{Some, sym, ap, ◌∙◌}
use Rattle.std.proofs.lemmas.Option.{slice_get-get_or}
use Rattle.heap.proofs.Same.{same_object}
use Rattle.heap.proofs.layout.is_same_object.Goals as goal

pub returns-then-are_same_kinds : goal.returns-then-are_same_kinds
returns-then-are_same_kinds c = λ same.
    same_object c.args.table.now c.args.cells.now c.args.others.now c.args.other_cells.now c.args.object
    c.in-Some-Some.one.now c.in-Some-Some.other.now
    (slice_get-get_or c.args.table.now c.args.object c.in-Some-Some.one.now c.in-Some-Some.ensures.lookup.3.0
    ∙ ap Some (sym c.in-Some-Some.ensures.lookup.1))
    (slice_get-get_or c.args.others.now c.args.object c.in-Some-Some.other.now c.in-Some-Some.ensures'.lookup.3.0
    ∙ ap Some (sym c.in-Some-Some.ensures'.lookup.1))
    (c.are_same_kinds.ensures c.if-are_same_kinds.true) (sym c.words.ensures ∙ c.are_same_words.ensures same
    ∙ c.words-then-are_same_kinds.ensures)
