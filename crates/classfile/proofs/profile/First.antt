-- The first fault.
use Rattle.std.proofs.Common.{◌≡◌, ℕ, zero, suc, ◌+◌, ◌<◌, List, [], ◌∷◌, length, take, find, Option, Some, None, Bool, true, false, not, ◌&&◌, ◌||◌, refl, sym, ap, subst, ◌∙◌, ⊎_elim, arith}
use Rattle.std.specs.Prelude.{Result, Ok, Err, IfOk, nat_lt, ◌==◌, is_some, option_map, slice_index_or}
use Rattle.std.specs.List.{list_any, slice_get}
use Rattle.std.specs.Option.{option_map_or}
use Rattle.std.proofs.lemmas.Bool.{ltb-true, eqb-true, eq-eqb, ne_eqb, or_from, or_left, or_right, and_parts, or_parts, or_cases}
use Rattle.model.specs.declared.class_file.ExceptionEntry.{ExceptionEntry}
use Rattle.model.specs.declared.instr.Instr.{Instr}
use Rattle.model.specs.Tree.{Entry, FieldTree, MethodTree, CodeTree, FileTree}
use Rattle.model.specs.Instruction.{Sized, sized_at, instr_at}
use Rattle.model.specs.InstructionStarts.{starts, is_start}
use Rattle.model.specs.Classes.{code_in}
use Rattle.model.specs.CodeParts.{marked_from, boundaries, begins_none, end_of_decoding, decodes, any_decoded}
use Rattle.model.specs.Profile.{is_known_opcode, field_outside_profile, method_outside_profile, instruction_outside_profile}
use Rattle.model.specs.CodeConditions.{too_few_locals, malformed_offset, malformed_exception, malformed_exceptions, ends_in_instruction}
use Rattle.classfile.specs.declared.profile.fault.Flaw.{Flaw}
use Rattle.classfile.specs.declared.profile.fault.Flaw.TheVariants.{OutsideProfile, MalformedCode}
use Rattle.classfile.specs.declared.profile.fault.ExceptionField.{ExceptionField}
use Rattle.classfile.specs.declared.profile.fault.ExceptionField.TheVariants.{StartPc, EndPc, HandlerPc}
use Rattle.classfile.specs.declared.profile.fault.Spot.{Spot}
use Rattle.classfile.specs.declared.profile.fault.Spot.TheVariants.{Declaration, MaxLocals, Instruction, Exception}
use Rattle.classfile.specs.declared.profile.fault.Place.{Place}
use Rattle.classfile.specs.declared.profile.fault.Place.TheVariants as places
use Rattle.classfile.specs.declared.profile.fault.MethodFault.{MethodFault}
use Rattle.classfile.specs.profile.Faults.{malformed_instruction_by, malformed_code_by, instruction_outside_at, instruction_malformed_at, malformed_method_by, code_outside_profile, whole_method_outside_profile, ends_at, outside_at, malformed_at, exception_stands, is_first_field, code_stands, declaration_stands, method_stands, field_stands, place_stands, field_before, spot_before, place_before, IsFirstBy, IsFirstInMethod, FindsInMethod, IsFirstInCode, FindsInCode, Says, NothingAt, FindsAmong, FindsBoundary, FindsEntry}
use Rattle.classfile.proofs.profile.Walks.{some_exception, method_is_outside, method_is_malformed}
use Rattle.constant_pool.proofs.Passing.{none_at, none_before}
use Rattle.opcodes.proofs.Marked.{none_of_marks}

-- ---- truth

not_so : (a b : Bool) → (a ≡ true → b ≡ true) → b ≡ false → a ≡ false
not_so true b h e = sym (h refl) ∙ e
not_so false b h e = refl

guarded : (a b : Bool) → (a ≡ true → b ≡ false) → (a && b) ≡ false
guarded true b h = h refl
guarded false b h = refl

denied : (a b : Bool) → (not a && b) ≡ true → a ≡ false
denied true b h = absurd cc
denied false b h = refl

-- ---- instructions

pub no_instr : (o : Option Sized) → option_map (λ (s : Sized). s.0) o ≡ None → is_some o ≡ false
no_instr None h = refl
no_instr (Some s) h = absurd cc

-- what is so of each start is so of each boundary
none_of_boundaries : (p : ℕ → Bool) (code : List ℕ) → ((k : ℕ) → is_start code k ≡ true → p k ≡ false)
    → list_any p (boundaries code) ≡ false
none_of_boundaries p code h = none_of_marks p code (starts code) refl (λ k below m. h k m)

-- the first mark that passes a test
none_found : (p : ℕ → Bool) (xs : List ℕ) → list_any p xs ≡ false → find p xs ≡ None
none_found p [] h = refl
none_found p (x ∷ xs) h = let parts = or_parts (p x) _ h in rw parts.0 (none_found p xs parts.1)

first_marked : (p : ℕ → Bool) (n k place : ℕ) (marks : List Bool) → place ≡ n + k → slice_index_or marks k false ≡ true → p place ≡ true
    → ((j other : ℕ) → other ≡ n + j → j < k → slice_index_or marks j false ≡ true → p other ≡ false)
    → find p (marked_from n marks) ≡ Some place
first_marked p n k place [] e m h before = absurd cc
first_marked p n zero place (true ∷ marks) e m h before =
    let same : place ≡ n = omega (arith, e) in
    let here : p n ≡ true = subst (λ (q : ℕ). p q ≡ true) same h in
    rw here (ap (λ (q : ℕ). Some q) (sym same))
first_marked p n zero place (false ∷ marks) e m h before = absurd cc
first_marked p n (suc k) place (true ∷ marks) e m h before =
    let not_here : p n ≡ false = before 0 n (omega arith) (omega arith) refl in
    rw not_here (first_marked p (suc n) k place marks (omega (arith, e)) m h (λ j other q l i. before (suc j) other (omega (arith, q)) (omega (arith, l)) i))
first_marked p n (suc k) place (false ∷ marks) e m h before =
    first_marked p (suc n) k place marks (omega (arith, e)) m h (λ j other q l i. before (suc j) other (omega (arith, q)) (omega (arith, l)) i)

pub boundary_found : (p : ℕ → Bool) (code : List ℕ) (o : Option ℕ) → FindsBoundary code p o → find p (boundaries code) ≡ o
boundary_found p code None h = none_found p (boundaries code) (none_of_boundaries p code h)
boundary_found p code (Some pc) h =
    first_marked p 0 pc pc (starts code) (omega arith) h.0 h.1
    (λ j other q l m. let same : j ≡ other = omega (arith, q) in subst (λ (k : ℕ). p k ≡ false) same (h.2 j l m))

-- ---- exception entries

first_stands : (c : CodeTree) (field : ExceptionField) (e : ExceptionEntry) → is_first_field c field e ≡ true
    → exception_stands c field e ≡ true
first_stands c StartPc e h = h
first_stands c EndPc e h = (and_parts (not (exception_stands c StartPc e)) _ h).1
first_stands c HandlerPc e h = (and_parts (not (exception_stands c EndPc e)) _ (and_parts (not (exception_stands c StartPc e)) _ h).1).1

none_earlier : (c : CodeTree) (other field : ExceptionField) (e : ExceptionEntry) → field_before other field ≡ true
    → is_first_field c field e ≡ true → exception_stands c other e ≡ false
none_earlier c StartPc StartPc e lt h = absurd cc
none_earlier c StartPc EndPc e lt h = denied (exception_stands c StartPc e) _ h
none_earlier c StartPc HandlerPc e lt h = denied (exception_stands c StartPc e) _ h
none_earlier c EndPc StartPc e lt h = absurd cc
none_earlier c EndPc EndPc e lt h = absurd cc
none_earlier c EndPc HandlerPc e lt h = denied (exception_stands c EndPc e) _ (and_parts (not (exception_stands c StartPc e)) _ h).1
none_earlier c HandlerPc StartPc e lt h = absurd cc
none_earlier c HandlerPc EndPc e lt h = absurd cc
none_earlier c HandlerPc HandlerPc e lt h = absurd cc

entry_stands : (c : CodeTree) (field : ExceptionField) (o : Option ExceptionEntry) → option_map_or (is_first_field c field) o false ≡ true
    → option_map_or (exception_stands c field) o false ≡ true
entry_stands c field None h = absurd cc
entry_stands c field (Some e) h = first_stands c field e h

no_earlier_field : (c : CodeTree) (other field : ExceptionField) (o : Option ExceptionEntry) → field_before other field ≡ true
    → option_map_or (is_first_field c field) o false ≡ true → option_map_or (exception_stands c other) o false ≡ false
no_earlier_field c other field None lt h = absurd cc
no_earlier_field c other field (Some e) lt h = none_earlier c other field e lt h

-- ---- a code

module _ (aside : ℕ → Bool) (file : FileTree) (m : MethodTree) where
  no_declaration : (c : CodeTree) (flaw : Flaw) → code_stands aside file m flaw Declaration c ≡ false
  no_declaration c OutsideProfile = refl
  no_declaration c MalformedCode = refl

  no_locals : (c : CodeTree) (flaw : Flaw) → too_few_locals file m c ≡ false → code_stands aside file m flaw MaxLocals c ≡ false
  no_locals c OutsideProfile h = refl
  no_locals c MalformedCode h = h

  -- in a code that decodes only instructions count
  no_instruction : (c : CodeTree) (pc : ℕ) (flaw : Flaw) → end_of_decoding c.code ≡ None
      → NothingAt c.code (instruction_outside_at file.pool c) (instruction_malformed_at aside file.pool c) pc
      → code_stands aside file m flaw (Instruction pc) c ≡ false
  no_instruction c pc OutsideProfile e h = guarded (is_start c.code pc) _ (λ s. rw e (h s).0)
  no_instruction c pc MalformedCode e h = guarded (is_start c.code pc) _ (λ s. rw e (h s).1)

  -- before the end of decoding nothing counts
  none_earlier_than : (c : CodeTree) (end pc : ℕ) (flaw : Flaw) → end_of_decoding c.code ≡ Some end → pc < end
      → code_stands aside file m flaw (Instruction pc) c ≡ false
  none_earlier_than c end pc flaw e lt = by flaw
    where
      apart : (end == pc) ≡ false
      apart = ne_eqb end pc (λ q. omega (arith, lt, q))

      by : (flaw : Flaw) → code_stands aside file m flaw (Instruction pc) c ≡ false
      by OutsideProfile = guarded (is_start c.code pc) _ (λ s. rw (e, apart) refl)
      by MalformedCode = guarded (is_start c.code pc) _ (λ s. rw (e, apart) refl)

  no_exception : (c : CodeTree) (entry : ℕ) (field : ExceptionField) (flaw : Flaw)
      → option_map_or (malformed_exception c) (slice_get c.exceptions entry) false ≡ false
      → code_stands aside file m flaw (Exception entry field) c ≡ false
  no_exception c entry field OutsideProfile h = refl
  no_exception c entry field MalformedCode h = guarded (decodes c.code) _ (λ s. not_so _ _ (some_exception aside file m c field (slice_get c.exceptions entry)) h)

  no_field_of : (c : CodeTree) (entry : ℕ) (other field : ExceptionField) (flaw : Flaw) → field_before other field ≡ true
      → option_map_or (is_first_field c field) (slice_get c.exceptions entry) false ≡ true
      → code_stands aside file m flaw (Exception entry other) c ≡ false
  no_field_of c entry other field OutsideProfile lt h = refl
  no_field_of c entry other field MalformedCode lt h = guarded (decodes c.code) _ (λ s. no_earlier_field c other field (slice_get c.exceptions entry) lt h)

  pub locals_first : (c : CodeTree) → too_few_locals file m c ≡ true
      → IsFirstInCode aside file m c (record { flaw = MalformedCode; spot = MaxLocals })
  locals_first c few = record { stands = few; none_before = before; outside_told = λ e. refl }
    where
      before : (flaw : Flaw) (spot : Spot) → spot_before spot MaxLocals ≡ true → code_stands aside file m flaw spot c ≡ false
      before flaw Declaration e = no_declaration c flaw
      before flaw MaxLocals e = absurd cc
      before flaw (Instruction pc) e = absurd cc
      before flaw (Exception entry field) e = absurd cc

  pub end_first : (c : CodeTree) (pc : ℕ) (flaw : Flaw) → too_few_locals file m c ≡ false
      → FindsBoundary c.code (begins_none c.code) (Some pc)
      → Says (Some flaw) (not (is_known_opcode c.code pc)) (malformed_offset c pc)
      → IsFirstInCode aside file m c (record { flaw = flaw; spot = Instruction pc })
  end_first c pc flaw enough found says = record { stands = so flaw says; none_before = before; outside_told = told flaw says }
    where
      ends : end_of_decoding c.code ≡ Some pc
      ends = boundary_found (begins_none c.code) c.code (Some pc) found

      same : (pc == pc) ≡ true
      same = eq-eqb pc pc refl

      so : (flaw : Flaw) → Says (Some flaw) (not (is_known_opcode c.code pc)) (malformed_offset c pc)
          → code_stands aside file m flaw (Instruction pc) c ≡ true
      so OutsideProfile h = rw (found.0, ends, same, h) refl
      so MalformedCode h = rw (found.0, ends, same, h.1) refl

      told : (flaw : Flaw) → Says (Some flaw) (not (is_known_opcode c.code pc)) (malformed_offset c pc) → flaw ≡ MalformedCode
          → code_stands aside file m OutsideProfile (Instruction pc) c ≡ false
      told OutsideProfile h e = absurd cc
      told MalformedCode h e = guarded (is_start c.code pc) _ (λ s. rw (ends, same, h.0) refl)

      before : (flaw : Flaw) (spot : Spot) → spot_before spot (Instruction pc) ≡ true → code_stands aside file m flaw spot c ≡ false
      before flaw Declaration e = no_declaration c flaw
      before flaw MaxLocals e = no_locals c flaw enough
      before flaw (Instruction j) e = none_earlier_than c pc j flaw ends (ltb-true _ _ e)
      before flaw (Exception entry field) e = absurd cc

  pub instruction_first : (c : CodeTree) (pc : ℕ) (flaw : Flaw) → too_few_locals file m c ≡ false → end_of_decoding c.code ≡ None
      → FindsAmong c.code (instruction_outside_at file.pool c) (instruction_malformed_at aside file.pool c) (Some (pc, flaw))
      → IsFirstInCode aside file m c (record { flaw = flaw; spot = Instruction pc })
  instruction_first c pc flaw enough ends found = record { stands = so flaw found.1; none_before = before; outside_told = told flaw found.1 }
    where
      so : (flaw : Flaw) → Says (Some flaw) (instruction_outside_at file.pool c pc) (instruction_malformed_at aside file.pool c pc)
          → code_stands aside file m flaw (Instruction pc) c ≡ true
      so OutsideProfile h = rw (found.0, ends) h
      so MalformedCode h = rw (found.0, ends) h.1

      told : (flaw : Flaw) → Says (Some flaw) (instruction_outside_at file.pool c pc) (instruction_malformed_at aside file.pool c pc)
          → flaw ≡ MalformedCode → code_stands aside file m OutsideProfile (Instruction pc) c ≡ false
      told OutsideProfile h e = absurd cc
      told MalformedCode h e = guarded (is_start c.code pc) _ (λ s. rw ends h.0)

      before : (flaw : Flaw) (spot : Spot) → spot_before spot (Instruction pc) ≡ true → code_stands aside file m flaw spot c ≡ false
      before flaw Declaration e = no_declaration c flaw
      before flaw MaxLocals e = no_locals c flaw enough
      before flaw (Instruction j) e = no_instruction c j flaw ends (found.2 j (ltb-true _ _ e))
      before flaw (Exception entry field) e = absurd cc

  pub exception_first : (c : CodeTree) (entry : ℕ) (field : ExceptionField) → too_few_locals file m c ≡ false
      → end_of_decoding c.code ≡ None
      → FindsAmong c.code (instruction_outside_at file.pool c) (instruction_malformed_at aside file.pool c) None
      → FindsEntry c (Some (entry, field))
      → IsFirstInCode aside file m c (record { flaw = MalformedCode; spot = Exception entry field })
  exception_first c entry field enough ends instructions found =
      record { stands = rw ends (entry_stands c field (slice_get c.exceptions entry) found.1); none_before = before; outside_told = λ e. refl }
    where
      before : (flaw : Flaw) (spot : Spot) → spot_before spot (Exception entry field) ≡ true → code_stands aside file m flaw spot c ≡ false
      before flaw Declaration e = no_declaration c flaw
      before flaw MaxLocals e = no_locals c flaw enough
      before flaw (Instruction j) e = no_instruction c j flaw ends (instructions j)
      before flaw (Exception j other) e =
          ⊎_elim
          (λ lt. no_exception c j other flaw (none_before (malformed_exception c) c.exceptions entry j (ltb-true _ _ lt) found.0))
          (λ later.
          let same : j ≡ entry = eqb-true _ _ (and_parts (j == entry) _ later).0 in
          subst (λ (n : ℕ). code_stands aside file m flaw (Exception n other) c ≡ false) (sym same)
          (no_field_of c entry other field flaw (and_parts (j == entry) _ later).1 found.1))
          (or_cases (nat_lt j entry) (j == entry && field_before other field) e)

  pub code_none : (c : CodeTree) → too_few_locals file m c ≡ false → end_of_decoding c.code ≡ None
      → FindsAmong c.code (instruction_outside_at file.pool c) (instruction_malformed_at aside file.pool c) None → FindsEntry c None
      → FindsInCode aside file m c None
  code_none c enough ends found exceptions = (
    rw ends (none_of_boundaries (instruction_outside_at file.pool c) c.code (λ k s. (found k s).0)),
    or_from _ _ enough
        (or_from (ends_in_instruction c) _ (rw ends refl)
        (or_from (any_decoded (malformed_instruction_by aside file.pool c) c) (malformed_exceptions c) (rw ends (none_of_boundaries (instruction_malformed_at aside file.pool c) c.code (λ k s. (found k s).1))) (rw ends exceptions))),
  )

-- ---- a method

module _ (aside : ℕ → Bool) (file : FileTree) (m : MethodTree) where
  no_declared : (flaw : Flaw) (spot : Spot) → method_outside_profile file m ≡ false → declaration_stands file flaw spot m ≡ false
  no_declared OutsideProfile Declaration h = h
  no_declared OutsideProfile MaxLocals h = refl
  no_declared OutsideProfile (Instruction pc) h = refl
  no_declared OutsideProfile (Exception entry field) h = refl
  no_declared MalformedCode spot h = refl

  pub declaration_first : method_outside_profile file m ≡ true
      → IsFirstInMethod aside file m (record { flaw = OutsideProfile; spot = Declaration })
  declaration_first h = record { stands = or_left _ _ h; none_before = before; outside_told = λ e. absurd cc }
    where
      before : (flaw : Flaw) (spot : Spot) → spot_before spot Declaration ≡ true → method_stands aside file flaw spot m ≡ false
      before flaw Declaration e = absurd cc
      before flaw MaxLocals e = absurd cc
      before flaw (Instruction pc) e = absurd cc
      before flaw (Exception entry field) e = absurd cc

  of_code : (c : CodeTree) (f : MethodFault) → code_in m.parts ≡ Some c → method_outside_profile file m ≡ false
      → IsFirstInCode aside file m c f → IsFirstInMethod aside file m f
  of_code c f is declared h = record {
    stands = or_right (declaration_stands file f.flaw f.spot m) _ (there true f.flaw f.spot h.stands);
    none_before = λ flaw spot e. or_from _ _ (no_declared flaw spot declared) (there false flaw spot (h.none_before flaw spot e));
    outside_told = λ e. or_from _ _ (no_declared OutsideProfile f.spot declared) (there false OutsideProfile f.spot (h.outside_told e));
  }
    where
      there : (b : Bool) (flaw : Flaw) (spot : Spot) → code_stands aside file m flaw spot c ≡ b
          → option_map_or (code_stands aside file m flaw spot) (code_in m.parts) false ≡ b
      there b flaw spot e = subst (λ (o : Option CodeTree). option_map_or (code_stands aside file m flaw spot) o false ≡ b) (sym is) e

  pub in_code : {E : Type 0} (c : CodeTree) → code_in m.parts ≡ Some c → method_outside_profile file m ≡ false
      → (r : Result (Option MethodFault) E) → IfOk r (FindsInCode aside file m c) → IfOk r (FindsInMethod aside file m)
  in_code c is declared (Ok None) h = (
    or_from _ _ declared (subst (λ (o : Option CodeTree). option_map_or (code_outside_profile file) o false ≡ false) (sym is) h.0),
    subst (λ (o : Option CodeTree). option_map_or (malformed_code_by aside file m) o false ≡ false) (sym is) h.1,
  )
  in_code c is declared (Ok (Some f)) h = of_code c f is declared h
  in_code c is declared (Err e) h = tt

-- ---- a class file

module _ (aside : ℕ → Bool) (file : FileTree) where
  no_field : (flaw : Flaw) (o : Option FieldTree) → option_map_or (field_outside_profile file) o false ≡ false
      → option_map_or (field_stands file flaw) o false ≡ false
  no_field flaw None h = refl
  no_field OutsideProfile (Some f) h = h
  no_field MalformedCode (Some f) h = refl

  no_method : (flaw : Flaw) (spot : Spot) (o : Option MethodTree) → option_map_or (whole_method_outside_profile file) o false ≡ false
      → option_map_or (malformed_method_by aside file) o false ≡ false → option_map_or (method_stands aside file flaw spot) o false ≡ false
  no_method flaw spot None outside malformed = refl
  no_method OutsideProfile spot (Some m) outside malformed = not_so _ _ (method_is_outside aside file m spot) outside
  no_method MalformedCode spot (Some m) outside malformed = not_so _ _ (method_is_malformed aside file m spot) malformed

  pub field_first : (k : ℕ) → list_any (field_outside_profile file) (take k file.fields) ≡ false
      → option_map_or (field_outside_profile file) (slice_get file.fields k) false ≡ true
      → IsFirstBy aside file (record { flaw = OutsideProfile; place = places.Field k })
  field_first k none here = record { stands = here; none_before = before; outside_told = λ e. absurd cc }
    where
      before : (flaw : Flaw) (place : Place) → place_before place (places.Field k) ≡ true → place_stands aside file flaw place ≡ false
      before flaw (places.Field j) e = no_field flaw (slice_get file.fields j) (none_before (field_outside_profile file) file.fields k j (ltb-true _ _ e) none)
      before flaw (places.Method j other) e = absurd cc

  pub method_first : (k : ℕ) (m : MethodTree) (f : MethodFault) → slice_get file.methods k ≡ Some m
      → list_any (whole_method_outside_profile file) (take k file.methods) ≡ false
      → list_any (malformed_method_by aside file) (take k file.methods) ≡ false
      → IsFirstInMethod aside file m f → list_any (field_outside_profile file) file.fields ≡ false
      → IsFirstBy aside file (record { flaw = f.flaw; place = places.Method k f.spot })
  method_first k m f is outside malformed h fields = record {
    stands = there true f.flaw f.spot h.stands;
    none_before = before;
    outside_told = λ e. there false OutsideProfile f.spot (h.outside_told e);
  }
    where
      there : (b : Bool) (flaw : Flaw) (spot : Spot) → method_stands aside file flaw spot m ≡ b
          → option_map_or (method_stands aside file flaw spot) (slice_get file.methods k) false ≡ b
      there b flaw spot e = subst (λ (o : Option MethodTree). option_map_or (method_stands aside file flaw spot) o false ≡ b) (sym is) e

      before : (flaw : Flaw) (place : Place) → place_before place (places.Method k f.spot) ≡ true
          → place_stands aside file flaw place ≡ false
      before flaw (places.Field j) e = no_field flaw (slice_get file.fields j) (none_at (field_outside_profile file) file.fields j fields)
      before flaw (places.Method j other) e =
          ⊎_elim
          (λ lt.
          no_method flaw other (slice_get file.methods j)
          (none_before (whole_method_outside_profile file) file.methods k j (ltb-true _ _ lt) outside)
          (none_before (malformed_method_by aside file) file.methods k j (ltb-true _ _ lt) malformed))
          (λ later.
          let same : j ≡ k = eqb-true _ _ (and_parts (j == k) _ later).0 in
          subst (λ (n : ℕ). option_map_or (method_stands aside file flaw other) (slice_get file.methods n) false ≡ false) (sym same)
          (there false flaw other (h.none_before flaw other (and_parts (j == k) _ later).1)))
          (or_cases (nat_lt j k) (j == k && spot_before other f.spot) e)
