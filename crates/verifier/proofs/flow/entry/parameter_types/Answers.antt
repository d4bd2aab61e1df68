use Rattle.std.proofs.Common.{◌≡◌, false, sym, ap, ◌∙◌}
use Rattle.std.specs.List.{list_any}
use Rattle.std.proofs.lemmas.Bool.{true≢false}
use Rattle.model.specs.Resolution.{is_missing}
use Rattle.model.specs.DescriptorParts.{classes_in}
use Rattle.types.specs.method_code.View.{files_of}
use Rattle.types.proofs.described_types.Parameters.{none_of}
use Rattle.types.proofs.described_types.Found.{method_found}
use Rattle.verifier.proofs.flow.LinkedTypes.{descriptor_found}
use Rattle.verifier.proofs.flow.entry.parameter_types.Goals as goal

pub unreachable-requires : goal.unreachable-requires
unreachable-requires c =
    let m = c.args.method.now in
    let S = c.set.result.now in
    let D = c.descriptor.result.now in
    let found : list_any (is_missing S) (classes_in D) ≡ false = ap (λ s. list_any (is_missing s) (classes_in D)) c.set.ensures ∙ ap (λ d. list_any (is_missing (files_of m)) (classes_in d)) c.descriptor.ensures ∙ descriptor_found m c.requires in
    absurd (true≢false (sym (none_of _ _ _ _ c.in_ok-found.ensures.parameters c.in-None.is) ∙ method_found S D found))
