use Rattle.std.proofs.Common.{refl}
use Rattle.model.specs.OpcodeTable.{low_form, high_form}
use Rattle.model.specs.BuiltIn.{built_in_classes}
use Rattle.model.specs.DescriptorScan.{element_at, field_at, field_type, parameters_at, method_type}
use Rattle.run_laws.proofs.examples.TypingProofs.{unconstructed}
use Rattle.run_laws.proofs.examples.only_returns_unconstructed.Goals as goal

pub returns : goal.returns
unfolding low_form high_form built_in_classes element_at field_at field_type parameters_at method_type
returns c = record { holds = λ h. unconstructed _ _ _ _ h.holds refl (λ slots. refl) }
