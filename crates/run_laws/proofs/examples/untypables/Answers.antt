use Rattle.std.proofs.Common.{◌≡◌, refl, List, [], ◌∷◌, Option, Some, None, Bool, true, ◌||◌, false, subst, sym}
use Rattle.model.specs.OpcodeTable.{low_form, high_form}
use Rattle.model.specs.BuiltIn.{built_in_classes}
use Rattle.std.specs.Prelude.{codes, slice_index_or}
use Rattle.model.specs.Operands.{over_types, is_ready}
use Rattle.model.specs.DescriptorScan.{element_at, field_at, field_type, parameters_at, method_type}
use Rattle.model.specs.Names.{main_of}
use Rattle.model.specs.Types.{VerificationType, Unusable, AnyReference, type_meets}
use Rattle.model.specs.TypeOrder.{FrameType}
use Rattle.model.specs.Typing.{flow}
use Rattle.run_laws.specs.examples.Bytes.{hex}
use Rattle.run_laws.specs.examples.Printing as printing
use Rattle.run_laws.specs.examples.Typings.{body_with, strings}
use Rattle.run_laws.proofs.examples.TypingProofs.{fails, next, begins, may_lead, always_fails, unequal, with_unusable}
use Rattle.run_laws.proofs.examples.untypables.Goals as goal

none_some : {A : Type 0} (o : Option A) (x : A) → o ≡ None → o ≡ Some x → ⊥
none_some o x p q = absurd cc

-- aload_0 finds a reference in the first local variable
abbrev loads : List VerificationType → Bool
loads l =
    is_ready (type_meets []) over_types (record { allowed = true; reads = (0, AnyReference) ∷ []; pops = []; grows = 1 }) 2 (record { locals = l; stack = [] })

abbrev frame_with : List VerificationType → Bool → FrameType
frame_with l c = record { slots = record { locals = l; stack = slice_index_or l 0 Unusable ∷ [] }; constructed = c || false }

pub returns : goal.returns
unfolding low_form high_form built_in_classes element_at field_at field_type parameters_at method_type
returns c =
    record {
      holds = record {
        missing_operand = λ h. fails _ _ _ _ h.holds 1 1 (λ l c. refl) (next _ _ _ _ h.holds 0 0 1 (1 ∷ []) (λ l c. (c || false, refl)) (begins _ _ _ _ h.holds (strings ∷ []) true refl)).0;
        past_the_end = λ h. fails _ _ _ _ h.holds 1 0 (λ l c. refl) (next _ _ _ _ h.holds 0 0 0 (1 ∷ []) (λ l c. (c || false, refl)) (begins _ _ _ _ h.holds (strings ∷ []) true refl)).0;
        other_return = λ h.
            let one = may_lead _ _ _ _ h.holds 0 0 1 (λ l c. (loads l, frame_with l c, refl)) (begins _ _ _ _ h.holds (strings ∷ []) true refl) in
            always_fails _ _ _ _ h.holds 1 (λ t. refl) one.0 one.1;
        too_deep = λ h. fails _ _ _ _ h.holds 2 2 (λ l c. refl)
            (next _ _ _ _ h.holds 1 1 2 (2 ∷ []) (λ l c. (c || false, refl)) (next _ _ _ _ h.holds 0 0 1 (1 ∷ []) (λ l c. (c || false, refl)) (begins _ _ _ _ h.holds (strings ∷ []) true refl)).0).0;
        unset_local = λ h.
            let start = with_unusable _ _ _ _ h.holds strings [] true refl in
            let t = start.0 in
            let rule = h.holds.agrees 0 t start.2 in
            let none : flow (printing.file_with 2 2 (hex (codes "1bb1")) ∷ []) (main_of (codes "A")) (body_with printing.pool 2 2 (hex (codes "1bb1"))) 0 t ≡ None =
            subst (λ ls. flow (printing.file_with 2 2 (hex (codes "1bb1")) ∷ []) (main_of (codes "A")) (body_with printing.pool 2 2 (hex (codes "1bb1"))) 0 (record { slots = record { locals = ls; stack = t.slots.stack }; constructed = t.constructed }) ≡ None) (sym start.3) refl in
            absurd (none_some _ _ none rule.flows);
        unequal_depths = λ h.
            let tested = next _ _ _ _ h.holds 0 0 1 (1 ∷ []) (λ l c. (c || false, refl)) (begins _ _ _ _ h.holds (strings ∷ []) true refl) in
            let both = next _ _ _ _ h.holds 1 1 0 (4 ∷ 5 ∷ []) (λ l c. (c || false, refl)) tested.0 in
            unequal _ _ _ _ h.holds 5 both.1.0 (next _ _ _ _ h.holds 4 0 1 (5 ∷ []) (λ l c. (c || false, refl)) both.0).0;
      };
    }
