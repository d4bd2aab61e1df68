use Rattle.std.proofs.Common.{◌≡◌, drop}
use Rattle.std.specs.List.{flat_map}
use Rattle.model.specs.BuiltIn.{built_in_classes}
use Rattle.model.specs.StringConstants.{texts_in}
use Rattle.link_conditions.specs.limits_of_linking.Texts.{with_texts}
use Rattle.linker.proofs.field_links.string_numbers.add_built_in_texts.Given as goal

abbrev pub invariant-loop-place : goal.invariant-loop-place
invariant-loop-place l =
    with_texts l.texts (flat_map texts_in (drop l.place built_in_classes)) ≡ with_texts l.initial.texts (flat_map texts_in built_in_classes)
