-- From the parts of a class file to the whole.
use Rattle.std.proofs.Common.{◌≡◌, ℕ, ◌<◌, List, [], ◌∷◌, length, map, get_or, Option, Some, None, Bool, true, false, not, ◌&&◌, ◌||◌, refl, sym, ap, subst, ◌∙◌, ⊎_elim}
use Rattle.std.proofs.Math.Path.{fun_ext}
use Rattle.std.specs.Prelude.{Result, Ok, Err, IfOk, ◌==◌}
use Rattle.std.specs.List.{list_any, slice_get}
use Rattle.std.specs.Option.{option_map_or}
use Rattle.std.proofs.lemmas.Option.{slice_get-map, slice_get_read}
use Rattle.std.proofs.lemmas.Bool.{eqb-true, or_left, or_right, and_parts, or_parts, or_cases}
use Rattle.model.specs.declared.class_file.ExceptionEntry.{ExceptionEntry}
use Rattle.model.specs.declared.instr.Instr.{Instr}
use Rattle.model.specs.declared.instr.Instr.TheVariants as instrs
use Rattle.model.specs.declared.instr.Invocation.TheVariants as invocations
use Rattle.model.specs.Tree.{FieldTree, MethodTree, CodeTree, FileTree}
use Rattle.model.specs.InstructionStarts.{is_start}
use Rattle.model.specs.Classes.{Program, code_in}
use Rattle.model.specs.CodeParts.{boundaries, end_of_decoding, decodes, any_code, any_decoded}
use Rattle.model.specs.Profile.{is_known_opcode, unknown_opcode, field_outside_profile, method_outside_profile, instruction_outside_profile, is_outside_profile}
use Rattle.model.specs.CodeConditions.{too_few_locals, malformed_offset, ends_in_instruction, malformed_instruction, malformed_exception, malformed_exceptions, malformed_code, has_malformed_code, special_of_class_aside, range_off_boundary, empty_range}
use Rattle.classfile.specs.declared.profile.fault.Flaw.{Flaw}
use Rattle.classfile.specs.declared.profile.fault.Flaw.TheVariants.{OutsideProfile, MalformedCode}
use Rattle.classfile.specs.declared.profile.fault.ExceptionField.{ExceptionField}
use Rattle.classfile.specs.declared.profile.fault.ExceptionField.TheVariants.{StartPc, EndPc, HandlerPc}
use Rattle.classfile.specs.declared.profile.fault.Spot.{Spot}
use Rattle.classfile.specs.declared.profile.fault.Spot.TheVariants.{Declaration, MaxLocals, Instruction, Exception}
use Rattle.classfile.specs.declared.profile.fault.Place.{Place}
use Rattle.classfile.specs.declared.profile.fault.Place.TheVariants as places
use Rattle.classfile.specs.declared.profile.fault.Fault.{Fault}
use Rattle.classfile.specs.profile.Faults.{names_class_aside, row_of, TellsClassAside, special_of, malformed_instruction_by, malformed_code_by, malformed_method_by, has_malformed_code_by, code_outside_profile, whole_method_outside_profile, ends_at, instruction_outside_at, instruction_malformed_at, exception_stands, code_stands, declaration_stands, method_stands, field_stands, place_stands, has_flaw, Finds, FindsBy, FindsInMethods}
use Rattle.constant_pool.proofs.Passing.{any_at}
use Rattle.opcodes.proofs.Marked.{any_of_starts}

-- ---- elements of lists

-- an element that a loop reads, seen as another value
pub at_place : {V A : Type 0} (p : A → Bool) (f : V → A) (vs : List V) (k : ℕ) (v : V) → k < length vs → v ≡ get_or vs k v → p (f v) ≡ true
    → option_map_or p (slice_get (map f vs) k) false ≡ true
at_place p f vs k v below is h = rw (slice_get-map f vs k, slice_get_read vs (length vs) k v refl below is) h

-- ---- outside of the profile

module _ (file : FileTree) where
  abbrev unknown : MethodTree → Bool
  unknown m = option_map_or (unknown_opcode m) (code_in m.parts) false

  abbrev left_out : MethodTree → Bool
  left_out m = option_map_or (λ c. any_decoded (λ pc i. instruction_outside_profile file.pool i) c) (code_in m.parts) false

  no_unknown : (m : MethodTree) (o : Option CodeTree) → option_map_or (code_outside_profile file) o false ≡ false
      → option_map_or (unknown_opcode m) o false ≡ false
  no_unknown m None h = refl
  no_unknown m (Some c) h = (or_parts (unknown_opcode m c) _ h).0

  no_left_out : (o : Option CodeTree) → option_map_or (code_outside_profile file) o false ≡ false
      → option_map_or (λ c. any_decoded (λ pc i. instruction_outside_profile file.pool i) c) o false ≡ false
  no_left_out None h = refl
  no_left_out (Some c) h = (or_parts (option_map_or (λ pc. not (is_known_opcode c.code pc)) (end_of_decoding c.code) false) _ h).1

  none_outside : (ms : List MethodTree) → list_any (whole_method_outside_profile file) ms ≡ false
      → (list_any (method_outside_profile file) ms ≡ false) × ((list_any unknown ms ≡ false) × (list_any left_out ms ≡ false))
  none_outside [] h = (refl, (refl, refl))
  none_outside (m ∷ ms) h =
      let first : whole_method_outside_profile file m ≡ false = (or_parts (whole_method_outside_profile file m) _ h).0 in
      let rest = none_outside ms (or_parts (whole_method_outside_profile file m) _ h).1 in
      let declared : method_outside_profile file m ≡ false = (or_parts (method_outside_profile file m) _ first).0 in
      let coded : option_map_or (code_outside_profile file) (code_in m.parts) false ≡ false = (or_parts (method_outside_profile file m) _ first).1 in
      (rw declared rest.0, (rw (no_unknown m (code_in m.parts) coded) rest.1.0, rw (no_left_out (code_in m.parts) coded) rest.1.1))

  -- no field and no method with its code is outside
  pub inside : list_any (field_outside_profile file) file.fields ≡ false
      → list_any (whole_method_outside_profile file) file.methods ≡ false → is_outside_profile file ≡ false
  inside fields methods =
      let parts = none_outside file.methods methods in
      rw (fields, parts.0, parts.1.0, parts.1.1) refl

-- ---- a fault that stands

and_so : (a b : Bool) → a ≡ true → b ≡ true → (a && b) ≡ true
and_so a b h e = rw h e

-- what is so where decoding ends
at_end : (test : ℕ → Bool) (pc : ℕ) (o : Option ℕ) → option_map_or (λ k. k == pc) o false ≡ true → test pc ≡ true
    → option_map_or test o false ≡ true
at_end test pc None e h = absurd cc
at_end test pc (Some k) e h = subst (λ (q : ℕ). test q ≡ true) (sym (eqb-true k pc e)) h

-- what is so of an instruction of a code that decodes
in_decoded : (c : CodeTree) (test : ℕ → Bool) (pc : ℕ) → is_start c.code pc ≡ true → decodes c.code ≡ true → test pc ≡ true
    → (decodes c.code && list_any test (boundaries c.code)) ≡ true
in_decoded c test pc start d h = and_so (decodes c.code) _ d (any_of_starts test c.code pc start h)

-- of a code
module _ (aside : ℕ → Bool) (file : FileTree) (m : MethodTree) where
  pub code_is_outside : (spot : Spot) (c : CodeTree) → code_stands aside file m OutsideProfile spot c ≡ true
      → code_outside_profile file c ≡ true
  code_is_outside Declaration c h = absurd cc
  code_is_outside MaxLocals c h = absurd cc
  code_is_outside (Exception entry field) c h = absurd cc
  code_is_outside (Instruction pc) c h =
      let start : is_start c.code pc ≡ true = (and_parts (is_start c.code pc) _ h).0 in
      ⊎_elim
      (λ e. or_left _ _ (at_end (λ q. not (is_known_opcode c.code q)) pc (end_of_decoding c.code) (and_parts (ends_at c.code pc) _ e).0 (and_parts (ends_at c.code pc) _ e).1))
      (λ e. or_right _ _ (in_decoded c (instruction_outside_at file.pool c) pc start (and_parts (decodes c.code) _ e).0 (and_parts (decodes c.code) _ e).1))
      (or_cases (ends_at c.code pc && not (is_known_opcode c.code pc)) (decodes c.code && instruction_outside_at file.pool c pc) (and_parts (is_start c.code pc) _ h).1)

  exception_is_malformed : (c : CodeTree) (field : ExceptionField) (e : ExceptionEntry) → exception_stands c field e ≡ true
      → malformed_exception c e ≡ true
  exception_is_malformed c StartPc e h =
      ⊎_elim
      (λ q. or_left _ _ q)
      (λ q. or_right (empty_range c e) _ (or_left _ _ (or_left _ _ q)))
      (or_cases (empty_range c e) (not (is_start c.code e.start)) h)
  exception_is_malformed c EndPc e h = or_right (empty_range c e) _ (or_left _ _ (or_right (not (is_start c.code e.start)) _ h))
  exception_is_malformed c HandlerPc e h = or_right (empty_range c e) _ (or_right (range_off_boundary c e) _ h)

  pub some_exception : (c : CodeTree) (field : ExceptionField) (o : Option ExceptionEntry)
      → option_map_or (exception_stands c field) o false ≡ true → option_map_or (malformed_exception c) o false ≡ true
  some_exception c field None h = absurd cc
  some_exception c field (Some e) h = exception_is_malformed c field e h

  pub code_is_malformed : (spot : Spot) (c : CodeTree) → code_stands aside file m MalformedCode spot c ≡ true
      → malformed_code_by aside file m c ≡ true
  code_is_malformed Declaration c h = absurd cc
  code_is_malformed MaxLocals c h = or_left _ _ h
  code_is_malformed (Instruction pc) c h =
      let start : is_start c.code pc ≡ true = (and_parts (is_start c.code pc) _ h).0 in
      or_right (too_few_locals file m c) _
      (⊎_elim
      (λ e. or_left _ _ (at_end (malformed_offset c) pc (end_of_decoding c.code) (and_parts (ends_at c.code pc) _ e).0 (and_parts (ends_at c.code pc) _ e).1))
      (λ e.
      or_right (ends_in_instruction c) _
      (or_left _ _ (in_decoded c (instruction_malformed_at aside file.pool c) pc start (and_parts (decodes c.code) _ e).0 (and_parts (decodes c.code) _ e).1)))
      (or_cases (ends_at c.code pc && malformed_offset c pc) (decodes c.code && instruction_malformed_at aside file.pool c pc) (and_parts (is_start c.code pc) _ h).1))
  code_is_malformed (Exception entry field) c h =
      or_right (too_few_locals file m c) _
      (or_right (ends_in_instruction c) _
      (or_right (any_decoded (malformed_instruction_by aside file.pool c) c) _
      (and_so (decodes c.code) _ (and_parts (decodes c.code) _ h).0
      (any_at (malformed_exception c) c.exceptions entry (some_exception c field (slice_get c.exceptions entry) (and_parts (decodes c.code) _ h).1)))))

  some_code_outside : (spot : Spot) (o : Option CodeTree) → option_map_or (code_stands aside file m OutsideProfile spot) o false ≡ true
      → option_map_or (code_outside_profile file) o false ≡ true
  some_code_outside spot None h = absurd cc
  some_code_outside spot (Some c) h = code_is_outside spot c h

  some_code_malformed : (spot : Spot) (o : Option CodeTree) → option_map_or (code_stands aside file m MalformedCode spot) o false ≡ true
      → option_map_or (malformed_code_by aside file m) o false ≡ true
  some_code_malformed spot None h = absurd cc
  some_code_malformed spot (Some c) h = code_is_malformed spot c h

  declaration_is_outside : (spot : Spot) → declaration_stands file OutsideProfile spot m ≡ true → method_outside_profile file m ≡ true
  declaration_is_outside Declaration h = h
  declaration_is_outside MaxLocals h = absurd cc
  declaration_is_outside (Instruction pc) h = absurd cc
  declaration_is_outside (Exception entry field) h = absurd cc

  pub method_is_outside : (spot : Spot) → method_stands aside file OutsideProfile spot m ≡ true → whole_method_outside_profile file m ≡ true
  method_is_outside spot h =
      ⊎_elim
      (λ e. or_left _ _ (declaration_is_outside spot e))
      (λ e. or_right (method_outside_profile file m) _ (some_code_outside spot (code_in m.parts) e))
      (or_cases (declaration_stands file OutsideProfile spot m) (option_map_or (code_stands aside file m OutsideProfile spot) (code_in m.parts) false) h)

  pub method_is_malformed : (spot : Spot) → method_stands aside file MalformedCode spot m ≡ true → malformed_method_by aside file m ≡ true
  method_is_malformed spot h = some_code_malformed spot (code_in m.parts) h

-- of a class file
module _ (aside : ℕ → Bool) (file : FileTree) where
  whole_outside : (ms : List MethodTree) → list_any (whole_method_outside_profile file) ms ≡ true
      → (list_any (method_outside_profile file) ms || (list_any (unknown file) ms || list_any (left_out file) ms)) ≡ true
  whole_outside ms h = by (list_any (method_outside_profile file) ms) (list_any (unknown file) ms) (list_any (left_out file) ms) refl refl refl
    where
      all_false : (ms : List MethodTree) → list_any (method_outside_profile file) ms ≡ false → list_any (unknown file) ms ≡ false
          → list_any (left_out file) ms ≡ false → list_any (whole_method_outside_profile file) ms ≡ false
      all_false [] a b c = refl
      all_false (m ∷ ms) a b c =
          let first : whole_method_outside_profile file m ≡ false =
          rw (or_parts (method_outside_profile file m) _ a).0
          (coded m (code_in m.parts) (or_parts (unknown file m) _ b).0 (or_parts (left_out file m) _ c).0) in
          rw first (all_false ms (or_parts (method_outside_profile file m) _ a).1 (or_parts (unknown file m) _ b).1 (or_parts (left_out file m) _ c).1)
        where
          coded : (m : MethodTree) (o : Option CodeTree) → option_map_or (unknown_opcode m) o false ≡ false
              → option_map_or (λ c. any_decoded (λ pc i. instruction_outside_profile file.pool i) c) o false ≡ false
              → option_map_or (code_outside_profile file) o false ≡ false
          coded m None b c = refl
          coded m (Some code) b c = rw (b, c) refl

      by : (a b c : Bool) → list_any (method_outside_profile file) ms ≡ a → list_any (unknown file) ms ≡ b
          → list_any (left_out file) ms ≡ c → (a || (b || c)) ≡ true
      by true b c p q r = refl
      by false true c p q r = refl
      by false false true p q r = refl
      by false false false p q r = absurd (cc (all_false ms p q r))

  some_method_outside : (spot : Spot) (o : Option MethodTree) → option_map_or (method_stands aside file OutsideProfile spot) o false ≡ true
      → option_map_or (whole_method_outside_profile file) o false ≡ true
  some_method_outside spot None h = absurd cc
  some_method_outside spot (Some m) h = method_is_outside aside file m spot h

  some_method_malformed : (spot : Spot) (o : Option MethodTree)
      → option_map_or (method_stands aside file MalformedCode spot) o false ≡ true
      → option_map_or (malformed_method_by aside file) o false ≡ true
  some_method_malformed spot None h = absurd cc
  some_method_malformed spot (Some m) h = method_is_malformed aside file m spot h

  pub is_outside : (place : Place) → place_stands aside file OutsideProfile place ≡ true → is_outside_profile file ≡ true
  is_outside (places.Field k) h = or_left _ _ (any_at (field_outside_profile file) file.fields k h)
  is_outside (places.Method k spot) h =
      or_right (list_any (field_outside_profile file) file.fields) _
      (whole_outside file.methods (any_at (whole_method_outside_profile file) file.methods k (some_method_outside spot (slice_get file.methods k) h)))

  pub is_malformed : (place : Place) → place_stands aside file MalformedCode place ≡ true → has_malformed_code_by aside file ≡ true
  is_malformed (places.Field k) h = absurd (no_field (slice_get file.fields k) h)
    where
      no_field : (o : Option FieldTree) → option_map_or (field_stands file MalformedCode) o false ≡ true → ⊥
      no_field None h = absurd cc
      no_field (Some f) h = absurd cc
  is_malformed (places.Method k spot) h = any_at (malformed_method_by aside file) file.methods k (some_method_malformed spot (slice_get file.methods k) h)

-- ---- the parts of a walk

pub walked : {E : Type 0} (aside : ℕ → Bool) (file : FileTree) → list_any (field_outside_profile file) file.fields ≡ false
    → (r : Result (Option Fault) E) → IfOk r (FindsInMethods aside file) → IfOk r (FindsBy aside file)
walked aside file fields (Ok None) h = (inside file fields h.0, h.1)
walked aside file fields (Ok (Some f)) h = h fields
walked aside file fields (Err e) h = tt

-- ---- with the other files

module _ (files : Program) (file : FileTree) where
  same_special : (i : Instr) → special_of (names_class_aside files file) i ≡ special_of_class_aside files file i
  same_special instrs.Nop = refl
  same_special instrs.Null = refl
  same_special (instrs.Const a) = refl
  same_special (instrs.LoadConstant a) = refl
  same_special (instrs.Load a b) = refl
  same_special (instrs.Store a b) = refl
  same_special (instrs.LoadElement a) = refl
  same_special (instrs.StoreElement a) = refl
  same_special (instrs.Move a) = refl
  same_special (instrs.Compute a) = refl
  same_special instrs.Negate = refl
  same_special (instrs.Increment a b) = refl
  same_special (instrs.Convert a) = refl
  same_special (instrs.If a b) = refl
  same_special (instrs.IfInts a b) = refl
  same_special (instrs.IfReferences a b) = refl
  same_special (instrs.IfNull a b) = refl
  same_special (instrs.Goto a) = refl
  same_special (instrs.TableSwitch a b c d) = refl
  same_special (instrs.LookupSwitch a b c) = refl
  same_special (instrs.Return a) = refl
  same_special (instrs.Field a b) = refl
  same_special (instrs.InvokeInterface a b c) = refl
  same_special (instrs.New a) = refl
  same_special (instrs.NewArray a) = refl
  same_special (instrs.NewReferenceArray a) = refl
  same_special instrs.ArrayLength = refl
  same_special instrs.Throw = refl
  same_special (instrs.CheckCast a) = refl
  same_special (instrs.InstanceOf a) = refl
  same_special instrs.MonitorEnter = refl
  same_special instrs.MonitorExit = refl
  same_special (instrs.Invoke invocations.Virtual a) = refl
  same_special (instrs.Invoke invocations.Special a) = refl
  same_special (instrs.Invoke invocations.Static a) = refl

  same_instruction : (c : CodeTree) (pc : ℕ) (i : Instr)
      → malformed_instruction_by (names_class_aside files file) file.pool c pc i ≡ malformed_instruction files file c pc i
  same_instruction c pc i = rw (same_special i) refl

  same_code : (m : MethodTree) (c : CodeTree) → malformed_code_by (names_class_aside files file) file m c ≡ malformed_code files file m c
  same_code m c =
      ap (λ (test : ℕ → Instr → Bool). too_few_locals file m c || (ends_in_instruction c || (any_decoded test c || malformed_exceptions c)))
      (fun_ext (λ pc. fun_ext (λ i. same_instruction c pc i)))

  same_file : has_malformed_code_by (names_class_aside files file) file ≡ has_malformed_code files file
  same_file = ap (λ (test : MethodTree → CodeTree → Bool). any_code test file) (fun_ext (λ m. fun_ext (λ c. same_code m c)))

  of_flaw : (flaw : Flaw) (place : Place) → place_stands (names_class_aside files file) file flaw place ≡ true
      → has_flaw files file flaw ≡ true
  of_flaw OutsideProfile place h = is_outside (names_class_aside files file) file place h
  of_flaw MalformedCode place h = sym same_file ∙ is_malformed (names_class_aside files file) file place h

  finds_so : (found : Option Fault) → FindsBy (names_class_aside files file) file found → Finds files file found
  finds_so None h = (h.0, sym same_file ∙ h.1)
  finds_so (Some f) h = (h, of_flaw f.flaw f.place h.stands)

  all_so : {E : Type 0} (r : Result (Option Fault) E) → IfOk r (FindsBy (names_class_aside files file) file) → IfOk r (Finds files file)
  all_so (Ok found) h = finds_so found h
  all_so (Err e) h = tt

  pub finds_all : {E : Type 0} (rows : List Bool) (r : Result (Option Fault) E) → TellsClassAside files file rows
      → IfOk r (FindsBy (row_of rows) file) → IfOk r (Finds files file)
  finds_all rows r tells h = all_so r (subst (λ (aside : ℕ → Bool). IfOk r (FindsBy aside file)) (fun_ext tells) h)
