use Rattle.std.proofs.Common.{◌∙◌, [], List, Option, refl, ap, sym, subst}
use Rattle.model.specs.BuiltIn.{built_in_classes}
use Rattle.model.specs.declared.value.Value.{Value}
use Rattle.model.specs.Names.{java_lang_string}
use Rattle.model.specs.Tree.{Entry}
use Rattle.model.specs.Spelling.{entry_at}
use Rattle.model.specs.Pool.{class_name_at, string_at}
use Rattle.model.specs.Operands.{values}
use Rattle.model.specs.Opening.{string_reference}
use Rattle.model.specs.Sites.{MeaningOf}
use Rattle.model.specs.Objects.{object_meaning}
use Rattle.types.specs.declared.verification_type.VerificationType.TheVariants as type
use Rattle.types.specs.declared.reference_type.Element.TheVariants as element
use Rattle.instruction_types.specs.declared.leads.Leads.TheVariants as leads
use Rattle.instruction_types.specs.Answers.{Answers}
use Rattle.instruction_types.proofs.Telling.{answers, of_class, of_string, pushed}
use Rattle.instruction_types.proofs.objects.load_constant.Goals as goal

pub returns-in-Some : goal.returns-in-Some
returns-in-Some c = λ site refused same.
    let files = c.args.set.now in
    let named = ap (λ (pool : List Entry). class_name_at pool c.args.index) same ∙ sym c.in-Some.ensures in
    subst (λ (o : Option (MeaningOf Value)). Answers files site refused o c.class_constant.result) (sym (of_class files site refused (entry_at site.body.pool c.args.index) c.in-Some.name.now named)) (c.class_constant.ensures site refused)

pub returns : goal.returns
unfolding built_in_classes
returns c = λ site refused same.
    let files = c.args.set.now in
    let bytes = c.in-Some-string.field-0.now in
    let text = ap (λ (pool : List Entry). string_at pool c.args.index) same ∙ sym c.in-Some-string.ensures in
    answers files site refused _ (object_meaning values site java_lang_string (string_reference files bytes)) [] 1 (leads.Pushes (type.Object (record { dimensions = 0; element = element.Class 3 }))) c.pushing.result
    (of_string files site refused (entry_at site.body.pool c.args.index) bytes text) refl
    (λ ts ops rest. refl)
    c.pushing.ensures.wants c.pushing.ensures.reads (pushed c.pushing.result _ _ c.class_type.ensures c.pushing.ensures.leads) c.pushing.ensures.memory
