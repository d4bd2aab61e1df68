use Rattle.std.proofs.Common.{rules, ◌≤◌, length, map, sym, arith}
use Rattle.std.proofs.lemmas.List.{length-map}
use Rattle.classfile.specs.View.{file_of}
use Rattle.link_conditions.proofs.limits_of_linking.TextLaws.{not_too_large}
use Rattle.link_conditions.proofs.limits_of_linking.size.is_too_large.Goals as goal

pub returns-then-not-has_many_entries : goal.returns-then-not-has_many_entries
returns-then-not-has_many_entries c =
    let trees = map file_of c.args.files.now in
    let few : length trees ≤ 65000 = omega (arith, length-map c.args.files.now file_of) in
    sym (not_too_large trees few (c.has_many_entries.ensures (search rules)))
