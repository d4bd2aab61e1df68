use Rattle.std.proofs.Common.{◌∙◌, drop, map, sym, ap}
use Rattle.std.proofs.lemmas.List.{take_rest, drop-map}
use Rattle.classfile.specs.View.{field_of}
use Rattle.linker.proofs.field_links.slots.fields_from.Goals as goal

pub returns-in-Some : goal.returns-in-Some
returns-in-Some c =
    ap (map field_of) (c.in-Some.ensures.lookup.0.2 ∙ take_rest c.deref.result.now c.args.member ∙ ap (drop c.args.member) c.deref.ensures.value)
    ∙ sym (drop-map field_of c.args.member c.args.file.now.fields.items)
