use Rattle.std.proofs.Common.{◌≡◌, drop}
use Rattle.model.specs.Lookup.{method_in_class, any_method, first_found}
use Rattle.hierarchy.specs.Numbers.{names_of}
use Rattle.hierarchy.proofs.hierarchy.method_among.Given as goal

abbrev pub invariant-loop-place : goal.invariant-loop-place
invariant-loop-place l =
    let found = method_in_class l.sought.files any_method l.sought.member in
    first_found found (names_of l.names (drop l.place l.row)) ≡ first_found found (names_of l.names l.row)
