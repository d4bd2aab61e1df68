use Rattle.std.proofs.Common.{◌≡◌, drop}
use Rattle.model.specs.Lookup.{field_in_class, first_found}
use Rattle.hierarchy.specs.Numbers.{names_of}
use Rattle.hierarchy.proofs.fields.field_among.Given as goal

abbrev pub invariant-loop-place : goal.invariant-loop-place
invariant-loop-place l =
    let found = field_in_class l.sought.files l.sought.member in
    first_found found (names_of l.names (drop l.place l.row)) ≡ first_found found (names_of l.names l.row)
