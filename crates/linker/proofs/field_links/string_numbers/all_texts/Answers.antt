use Rattle.std.proofs.Common.{◌∙◌, ap}
use Rattle.std.specs.List.{flat_map}
use Rattle.model.specs.BuiltIn.{built_in_classes}
use Rattle.model.specs.StringConstants.{texts_in, machine_texts}
use Rattle.link_conditions.specs.limits_of_linking.Texts.{with_texts}
use Rattle.linker.proofs.field_links.TextNumbers.{all_texts_are}
use Rattle.linker.proofs.field_links.string_numbers.all_texts.Goals as goal

pub returns : goal.returns
returns c =
    c.in_ok-add_machine_texts.ensures
    ∙ ap (λ l. with_texts l machine_texts) (c.in_ok-add_built_in_texts.ensures ∙ ap (λ l. with_texts l (flat_map texts_in built_in_classes)) c.in_ok-texts.ensures)
    ∙ all_texts_are c.args.set.now
