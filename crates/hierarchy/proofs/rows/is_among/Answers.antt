use Rattle.std.proofs.Common.{◌∙◌, sym}
use Rattle.model.specs.Names.{name_eq}
use Rattle.hierarchy.proofs.Indices.{no_position}
use Rattle.hierarchy.proofs.NumberLaws.{number_among, number_is, none_among}
use Rattle.hierarchy.proofs.rows.is_among.Goals as goal

pub returns-in-Some : goal.returns-in-Some
returns-in-Some c =
    let names = c.args.names.now in
    let name = c.args.name.now in
    c.contains.ensures ∙ number_among names c.args.row.now c.in-Some.number name c.in-Some.ensures.apart (number_is names name c.in-Some.number c.in-Some.ensures.number)

pub returns-in-None : goal.returns-in-None
returns-in-None c =
    let names = c.args.names.now in
    let name = c.args.name.now in
    sym (none_among names c.args.row.now name (no_position (name_eq name) names (sym c.in-None.ensures.number)))
