use Rattle.std.proofs.Common.{[], refl}
use Rattle.model.specs.BuiltIn.{built_in_classes}
use Rattle.model.specs.Names.{java_lang_class}
use Rattle.model.specs.Operands.{values}
use Rattle.model.specs.Opening.{class_reference}
use Rattle.model.specs.Objects.{object_meaning}
use Rattle.types.specs.declared.verification_type.VerificationType.TheVariants as type
use Rattle.types.specs.declared.reference_type.Element.TheVariants as element
use Rattle.instruction_types.specs.declared.leads.Leads.TheVariants as leads
use Rattle.instruction_types.proofs.Telling.{answers, no_class, some_class, pushed}
use Rattle.instruction_types.proofs.objects.class_constant.Goals as goal

pub returns-in_default : goal.returns-in_default
returns-in_default c = λ site refused. no_class c.args.set.now site refused c.args.name.now c.in_default.ensures

pub returns : goal.returns
unfolding built_in_classes
returns c = λ site refused.
    let files = c.args.set.now in
    let name = c.args.name.now in
    answers files site refused _ (object_meaning values site java_lang_class (class_reference files name)) [] 1 (leads.Pushes (type.Object (record { dimensions = 0; element = element.Class 4 }))) c.pushing.result (some_class files site refused name c.in-Some.ensures.1) refl
    (λ ts ops rest. refl)
    c.pushing.ensures.wants c.pushing.ensures.reads (pushed c.pushing.result _ _ c.class_type.ensures c.pushing.ensures.leads) c.pushing.ensures.memory
