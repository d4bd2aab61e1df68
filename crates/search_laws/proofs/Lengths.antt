-- What keeps the lengths of arrays.
use Rattle.std.proofs.Common.{List, refl, ◌∙◌}
use Rattle.model.specs.declared.value.Value.{Value}
use Rattle.model.specs.State.{ObjectOf}
use Rattle.search_laws.specs.Lengths.{KeepsLengths}

pub lengths_same : (heap : List (ObjectOf Value)) → KeepsLengths heap heap
lengths_same heap r old e = (old, (e, refl))

pub lengths_on : (one two three : List (ObjectOf Value)) → KeepsLengths one two → KeepsLengths two three → KeepsLengths one three
lengths_on one two three h g r old e =
    let x = h r old e in
    let y = g r x.0 x.1.0 in
    (y.0, (y.1.0, y.1.1 ∙ x.1.1))
