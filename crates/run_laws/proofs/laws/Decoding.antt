-- All code of linked files decodes: where decoding ended, a condition of refusal would stand.
use Rattle.std.proofs.Common.{◌≡◌, ℕ, List, [], ◌∷◌, Bool, true, false, not, ◌&&◌, ◌||◌, Option, Some, None, refl, sym, ap, ◌∙◌}
use Rattle.std.specs.Prelude.{is_some}
use Rattle.std.specs.Option.{option_map_or}
use Rattle.std.specs.List.{list_any, AllByRecursion}
use Rattle.std.proofs.lemmas.Bool.{true≢false, or_parts}
use Rattle.model.specs.declared.instr.Instr.{Instr}
use Rattle.model.specs.Tree.{MethodTree, CodeTree, FileTree}
use Rattle.model.specs.Instruction.{sized_at}
use Rattle.model.specs.Classes.{Program, code_in}
use Rattle.model.specs.CodeParts.{boundaries, begins_none, end_of_decoding, decodes, any_code, any_instruction, any_decoded}
use Rattle.model.specs.Profile.{is_known_opcode, unknown_opcode, field_outside_profile, method_outside_profile, is_outside_profile}
use Rattle.model.specs.CodeConditions.{low_above_high, negative_count, too_few_locals, malformed_offset, ends_in_instruction, malformed_code, has_malformed_code}
use Rattle.run_laws.proofs.laws.Found.{found_passes}

-- ---- a code

pub not_false : (b : Bool) → not b ≡ false → b ≡ true
not_false true h = refl
not_false false h = absurd cc

-- an opcode that is known, at which nothing is malformed, begins a whole instruction
whole_one : (known low negative whole : Bool) → not known ≡ false
    → (low || (negative || (known && (not whole && (not low && not negative))))) ≡ false → whole ≡ true
whole_one known low negative true k h = refl
whole_one true true negative false k h = absurd cc
whole_one true false true false k h = absurd cc
whole_one true false false false k h = absurd cc
whole_one false low negative false k h = absurd cc

none_ends : (c : CodeTree) (o : Option ℕ) → end_of_decoding c.code ≡ o
    → option_map_or (λ pc. not (is_known_opcode c.code pc)) o false ≡ false → option_map_or (malformed_offset c) o false ≡ false
    → is_some o ≡ false
none_ends c None e known whole = refl
none_ends c (Some pc) e known whole =
    let none : begins_none c.code pc ≡ true = found_passes (begins_none c.code) (boundaries c.code) pc e in
    let some : is_some (sized_at c.code pc) ≡ true = whole_one (is_known_opcode c.code pc) (low_above_high c.code pc) (negative_count c.code pc) (is_some (sized_at c.code pc)) known whole in
    absurd (true≢false (sym none ∙ ap (λ b. not b) some))

pub code_decodes : (m : MethodTree) (c : CodeTree) → unknown_opcode m c ≡ false → ends_in_instruction c ≡ false → decodes c.code ≡ true
code_decodes m c known whole = ap (λ b. not b) (none_ends c (end_of_decoding c.code) refl known whole)

-- of such a code its instructions are looked at
pub of_decoded : (test : ℕ → Instr → Bool) (c : CodeTree) → decodes c.code ≡ true → any_decoded test c ≡ false
    → any_instruction test c ≡ false
of_decoded test c d h = ap (λ b. b && any_instruction test c) (sym d) ∙ h

-- ---- a class file

-- decoding ends before the end of the code
abbrev pub undecoded : MethodTree → CodeTree → Bool
undecoded m c = not (decodes c.code)

module _ (files : Program) (file : FileTree) where
  undecoded_not : (m : MethodTree) (o : Option CodeTree) → option_map_or (unknown_opcode m) o false ≡ false
      → option_map_or (malformed_code files file m) o false ≡ false → option_map_or (undecoded m) o false ≡ false
  undecoded_not m None known whole = refl
  undecoded_not m (Some c) known whole =
      let a = or_parts (too_few_locals file m c) _ whole in
      ap (λ b. not b) (code_decodes m c known (or_parts (ends_in_instruction c) _ a.1).0)

  abbrev unknown_in : MethodTree → Bool
  unknown_in m = option_map_or (unknown_opcode m) (code_in m.parts) false

  abbrev malformed_in : MethodTree → Bool
  malformed_in m = option_map_or (malformed_code files file m) (code_in m.parts) false

  none_undecoded : (ms : List MethodTree) → list_any unknown_in ms ≡ false → list_any malformed_in ms ≡ false
      → list_any (λ (m : MethodTree). option_map_or (undecoded m) (code_in m.parts) false) ms ≡ false
  none_undecoded [] known whole = refl
  none_undecoded (m ∷ ms) known whole =
      let k = or_parts (unknown_in m) _ known in
      let w = or_parts (malformed_in m) _ whole in
      rw (undecoded_not m (code_in m.parts) k.0 w.0) (none_undecoded ms k.1 w.1)

  -- no opcode of a file is left out where the file is not
  pub all_known : is_outside_profile file ≡ false → any_code unknown_opcode file ≡ false
  all_known h =
      let a = or_parts (list_any (field_outside_profile file) file.fields) _ h in
      let b = or_parts (list_any (method_outside_profile file) file.methods) _ a.1 in
      (or_parts (any_code unknown_opcode file) _ b.1).0

  pub all_decode : any_code unknown_opcode file ≡ false → has_malformed_code files file ≡ false → any_code undecoded file ≡ false
  all_decode known whole = none_undecoded file.methods known whole

-- no condition of Malformed stands in the code of a file, and all of it decodes
pub record IsWellFormed (files : Program) (file : FileTree) : Type 0 where
  pub none : has_malformed_code files file ≡ false
  pub decoded : any_code undecoded file ≡ false

pub well_formed_all : (files some : Program) → list_any is_outside_profile some ≡ false → list_any (has_malformed_code files) some ≡ false
    → AllByRecursion (IsWellFormed files) some
well_formed_all files [] profile code = tt
well_formed_all files (file ∷ some) profile code =
    let p = or_parts (is_outside_profile file) _ profile in
    let c = or_parts (has_malformed_code files file) _ code in
    (record { none = c.0; decoded = all_decode files file (all_known files file p.0) c.0 }, well_formed_all files some p.1 c.1)
