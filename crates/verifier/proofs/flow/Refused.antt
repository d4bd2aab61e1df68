-- Linked files name what is found, so that no instruction at a boundary is refused.
use Rattle.std.proofs.Common.{◌≡◌, true, false, Some, refl, ◌∙◌}
use Rattle.std.specs.List.{list_any}
use Rattle.std.proofs.lemmas.Bool.{or_from, or_parts}
use Rattle.std.proofs.lemmas.List.Folds.{list_any-append}
use Rattle.model.specs.declared.instr.Instr.{Instr}
use Rattle.model.specs.declared.instr.Instr.TheVariants.{Return}
use Rattle.model.specs.Names.{Name}
use Rattle.model.specs.Classes.{Program}
use Rattle.model.specs.DescriptorParts.{classes_in}
use Rattle.model.specs.Resolution.{is_missing, operand_classes}
use Rattle.model.specs.Instruction.{instr_at}
use Rattle.model.specs.InstructionStarts.{is_start}
use Rattle.model.specs.Linkable.{TooLarge, DuplicateClass, OutsideProfile, MalformedCode, BadHierarchy, Unresolved, TooManyFields, NoMain, stands}
use Rattle.types.specs.declared.method_code.site.Site.{Site}
use Rattle.types.specs.method_code.Linked.{IsLinked}
use Rattle.types.specs.method_code.View.{files_of, member_of, body_of}
use Rattle.types.specs.method_code.Site.{site_of}
use Rattle.instruction_types.specs.Answers.{returned_classes, is_refused}
use Rattle.verifier.proofs.flow.LinkedTypes.{descriptor_found}
use Rattle.verifier.proofs.flow.AtBoundaries.{operand_found, dimensions_few, operand_names_type}

pub differ : (files : Program) → IsLinked files → stands files DuplicateClass ≡ false
differ files linked =
    let main = or_parts (stands files NoMain) _ linked.1.no_refusal in
    let fields = or_parts (stands files TooManyFields) _ main.1 in
    let names = or_parts (stands files Unresolved) _ fields.1 in
    let above = or_parts (stands files BadHierarchy) _ names.1 in
    let profile = or_parts (stands files OutsideProfile) _ above.1 in
    let code = or_parts (stands files MalformedCode) _ profile.1 in
    let large = or_parts (stands files TooLarge) _ code.1 in
    (or_parts (stands files DuplicateClass) _ large.1).0

returned_found : (files : Program) (descriptor : Name) (i : Instr) → list_any (is_missing files) (classes_in descriptor) ≡ false
    → list_any (is_missing files) (returned_classes descriptor i) ≡ false
returned_found files descriptor (Return returned) h = h
returned_found files descriptor other h = refl

pub not_refused : (s : Site) → IsLinked (files_of s.method) → is_start (body_of s.method).code.code s.offset ≡ true
    → instr_at (body_of s.method).code.code s.offset ≡ Some s.instr → is_refused (files_of s.method) (site_of s) ≡ false
not_refused s linked start is =
    let files = files_of s.method in
    let returned = returned_found files (member_of s.method).descriptor s.instr (descriptor_found s.method linked) in
    let operands = operand_found s.method linked s.offset s.instr start is in
    or_from _ _
    (list_any-append (is_missing files) (returned_classes (member_of s.method).descriptor s.instr) (operand_classes (body_of s.method).pool s.instr) ∙ or_from _ _ returned operands)
    (or_from _ _ (dimensions_few s.method linked s.offset s.instr start is) (operand_names_type s.method linked s.offset s.instr start is))
