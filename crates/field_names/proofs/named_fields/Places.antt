-- The field at a place that is found is the one that the reference is resolved to.
use Rattle.std.proofs.Common.{◌≡◌, ◌<◌, ◌^◌, ℕ, List, [], ◌∷◌, true, Option, Some, None, length, refl, sym, ap, subst, ◌∙◌, arith}
use Rattle.std.specs.Prelude.{Bool, nat_lt, position, slice_get}
use Rattle.std.specs.Option.{option_and_then, option_map, option_map_or}
use Rattle.std.specs.List.{AllByRecursion, list_all}
use Rattle.std.proofs.lemmas.Bool.{and_parts}
use Rattle.std.proofs.lemmas.Bool.Decides.{nat_tests}
use Rattle.std.proofs.lemmas.Option.{slice_get_within}
use Rattle.model.specs.declared.instr.FieldAccess.{FieldAccess}
use Rattle.model.specs.declared.instr.Instr.{Instr}
use Rattle.model.specs.declared.instr.Instr.TheVariants as instr
use Rattle.model.specs.Names.{Member}
use Rattle.model.specs.Tree.{FieldTree, FileTree}
use Rattle.model.specs.Spelling.{entry_at}
use Rattle.model.specs.Instruction.{instr_at}
use Rattle.model.specs.BuiltIn.{built_in_classes}
use Rattle.model.specs.Classes.{Program, Body, name_of, classes_of}
use Rattle.model.specs.Linkable.{AreSpelled}
use Rattle.model.specs.Lookup.{find_field, is_field, field_member}
use Rattle.run_laws.proofs.laws.Found.{every_all, some_from}
use Rattle.run_laws.proofs.laws.Homes.{spelled}
use Rattle.run_laws.proofs.laws.Lists.{every_append, every_at}
use Rattle.hierarchy.specs.declared.place.MemberPlace.{MemberPlace}
use Rattle.hierarchy.specs.Places.{class_at, name_at, member_in, IsFieldAt}
use Rattle.hierarchy.proofs.Finding.{find_passes, passes_at, position_within}
use Rattle.hierarchy.proofs.SetLaws.{no_item}
use Rattle.linker.proofs.linked_types.Types.{few_classes}
use Rattle.types.specs.method_code.Linked.{IsLinked}
use Rattle.data_races.specs.EventActions.{is_variable}
use Rattle.data_races.specs.Variables.{declares_volatile}
use Rattle.field_names.specs.declared.named_fields.NamedField.{NamedField}
use Rattle.field_names.specs.named_fields.Fields.{IsFieldIf, field_named, field_referred, member_at, reference_in}

-- ---- how many fields a class declares

few_fields : FileTree → Bool
few_fields file = nat_lt (length file.fields) 65536

built_in_few : list_all few_fields built_in_classes ≡ true
unfolding few_fields built_in_classes
built_in_few = refl

few_then : (n : ℕ) → n < 2 ^ 16 → nat_lt n 65536 ≡ true
few_then n h = grind (arith, nat_tests)

files_few : (bytes : List (List ℕ)) (files : Program) → AreSpelled bytes files → AllByRecursion (λ file. few_fields file ≡ true) files
unfolding few_fields
files_few [] [] h = tt
files_few [] (file ∷ files) h = absurd h
files_few (b ∷ bytes) [] h = tt
files_few (b ∷ bytes) (file ∷ files) h = (few_then (length file.fields) h.0.layout.fits.fields.0, files_few bytes files h.1)

then_few : (n : ℕ) → nat_lt n 65536 ≡ true → n < 2 ^ 16
then_few n h = grind (arith, nat_tests)

fields_fit : (files : Program) → IsLinked files → (class : ℕ) (file : FileTree) → class_at files class ≡ Some file → length file.fields < 2 ^ 16
unfolding few_fields
fields_fit files linked class file at =
    then_few (length file.fields) (
    every_at (λ (f : FileTree). few_fields f ≡ true) (classes_of files) class file
    (every_append (λ (f : FileTree). few_fields f ≡ true) built_in_classes files (every_all few_fields built_in_classes built_in_few) (files_few linked.0 files linked.1.spelled))
    at
    )

-- ---- a field at a place

module _ (files : Program) (linked : IsLinked files) (m : Member) (p : MemberPlace) (stands : IsFieldAt files m p) where
  record Standing : Type 0 where
    file : FileTree
    at : class_at files p.class ≡ Some file
    place : position (is_field file.pool m.name m.descriptor) file.fields ≡ Some p.member
    tree : FieldTree
    there : slice_get file.fields p.member ≡ Some tree

  standing : Standing
  standing =
      let s = some_from (λ (file : FileTree). position (is_field file.pool m.name m.descriptor) file.fields) (class_at files p.class) p.member stands in
      by s.0 s.1 s.2 (slice_get s.0.fields p.member) refl
    where
      by : (file : FileTree) → class_at files p.class ≡ Some file → position (is_field file.pool m.name m.descriptor) file.fields ≡ Some p.member
          → (o : Option FieldTree) → slice_get file.fields p.member ≡ o → Standing
      by file at place None e = absurd (no_item file.fields p.member (position_within (is_field file.pool m.name m.descriptor) file.fields p.member place) e)
      by file at place (Some tree) e = record { file = file; at = at; place = place; tree = tree; there = e }

  pub class_fits : p.class < 2 ^ 16
  class_fits = omega (arith, few_classes files linked, slice_get_within (classes_of files) p.class standing.file standing.at)

  pub field_fits : p.member < 2 ^ 16
  field_fits =
      let s = standing in
      omega (arith, fields_fit files linked p.class s.file s.at, position_within (is_field s.file.pool m.name m.descriptor) s.file.fields p.member s.place)

  is_member : (s : Standing) → field_member (name_of s.file) s.file.pool s.tree ≡ member_in files m p
  is_member s =
      let passes : is_field s.file.pool m.name m.descriptor s.tree ≡ true
      = find_passes (is_field s.file.pool m.name m.descriptor) s.file.fields s.tree
      (passes_at (is_field s.file.pool m.name m.descriptor) s.file.fields p.member s.tree s.place s.there) in
      let texts = and_parts _ _ passes in
      let name = spelled (entry_at s.file.pool s.tree.name) m.name texts.0 in
      let descriptor = spelled (entry_at s.file.pool s.tree.descriptor) m.descriptor texts.1 in
      let named : name_of s.file ≡ name_at files p.class = ap (λ (o : Option FileTree). option_map_or name_of o []) (sym s.at) in
      rw (named, name, descriptor)

  member_there : (s : Standing) → member_at files p.class p.member ≡ Some (member_in files m p)
  member_there s =
      ap (λ (o : Option FileTree). option_and_then (λ (g : FileTree). option_map (field_member (name_of g) g.pool) (slice_get g.fields p.member)) o) s.at
      ∙ ap (option_map (field_member (name_of s.file) s.file.pool)) s.there
      ∙ ap (λ (x : Member). Some x) (is_member s)

  pub field_told : (found : Option Member) → option_map (λ (q : MemberPlace). member_in files m q) (Some p) ≡ found
      → (told : NamedField) → told.class ≡ p.class → told.field ≡ p.member → told.is_volatile ≡ declares_volatile files (member_in files m p)
      → told.is_variable ≡ is_variable (member_in files m p)
      → IsFieldIf files found (Some told)
  field_told found is told c k v w =
      subst (λ o. IsFieldIf files o (Some told)) is (
      record {
        at = ap (λ (class : ℕ). member_at files class told.field) c ∙ ap (member_at files p.class) k ∙ member_there standing;
        is_volatile = v;
        is_variable = w;
      }
      )

pub none_told : (files : Program) (m : Member) (found : Option Member) → option_map (λ (q : MemberPlace). member_in files m q) None ≡ found
    → IsFieldIf files found None
none_told files m found is = subst (λ o. IsFieldIf files o None) is tt

-- ---- of an instruction

pub referred_told : (files : Program) (body : Body) (offset : ℕ) (m : Member) (told : Option NamedField) → Some m ≡ field_referred body offset
    → IsFieldIf files (find_field files m) told → IsFieldIf files (field_named files body offset) told
referred_told files body offset m told e h = subst (λ o. IsFieldIf files (option_and_then (find_field files) o) told) e h

pub unreferred_told : (files : Program) (body : Body) (offset : ℕ) → None ≡ field_referred body offset → IsFieldIf files (field_named files body offset) None
unreferred_told files body offset e = subst (λ o. IsFieldIf files (option_and_then (find_field files) o) None) e tt

-- the reference of an instruction that is decoded
pub referred : (body : Body) (offset : ℕ) (code : List ℕ) (i : Instr) → code ≡ body.code.code → Some i ≡ instr_at code offset
    → field_referred body offset ≡ reference_in body i
referred body offset code i e at =
    ap (option_and_then (reference_in body)) (ap (λ (bytes : List ℕ). instr_at bytes offset) (sym e) ∙ sym at)

pub not_referred : (body : Body) (offset : ℕ) (code : List ℕ) → code ≡ body.code.code → None ≡ instr_at code offset → None ≡ field_referred body offset
not_referred body offset code e at =
    sym (ap (option_and_then (reference_in body)) (ap (λ (bytes : List ℕ). instr_at bytes offset) (sym e) ∙ sym at))

-- no other instruction has one
pub no_reference : (body : Body) (i : Instr) → ((access : FieldAccess) (index : ℕ) → i ≡ instr.Field access index → ⊥) → reference_in body i ≡ None
no_reference body (instr.Field access index) n = absurd (n access index refl)
no_reference body _ n = refl
