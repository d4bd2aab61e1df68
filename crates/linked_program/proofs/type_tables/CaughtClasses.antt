-- Classes that are tested have columns.
use Rattle.std.proofs.Common.{◌≡◌, ◌∙◌, ℕ, zero, suc, ◌<◌, ◌^◌, List, [], ◌∷◌, ◌++◌, length, true, false, Option, Some, None, refl, sym, ap, subst, arith}
use Rattle.std.specs.Prelude.{slice_get, slice_index_or, ◌==◌}
use Rattle.std.specs.Option.{option_to_list}
use Rattle.std.specs.List.{flat_map}
use Rattle.std.proofs.lemmas.Bool.{or_left, or_right}
use Rattle.std.proofs.lemmas.Bool.Decides.{nat_tests}
use Rattle.std.proofs.lemmas.List.Folds.{list_any-append}
use Rattle.std.proofs.lemmas.Option.{slice_get_within}
use Rattle.model.specs.Names.{Name}
use Rattle.model.specs.Tree.{Entry}
use Rattle.model.specs.Pool.{class_name_at}
use Rattle.model.specs.Classes.{Program, classes_of}
use Rattle.model.specs.DescribedTypes.{type_named}
use Rattle.model.specs.ReferenceTypes.{ReferenceType}
use Rattle.linker.specs.Linking.{IsLinked}
use Rattle.linked_code.specs.declared.program.LinkedProgram.{LinkedProgram}
use Rattle.linked_code.specs.declared.subclasses.Subclasses.{Subclasses}
use Rattle.linked_code.specs.declared.types.LinkedType.{LinkedType}
use Rattle.linked_code.specs.Numbers.{IsType, IsTypeAt}
use Rattle.linked_code.specs.Programs.{IsComponent}
use Rattle.linked_code.specs.Subtypes.{HasColumn, IsTested}
use Rattle.opcodes.specs.linked_instructions.Operands.{EachRow}
use Rattle.types.specs.subclass_table.Columns.{is_tested}
use Rattle.linker.specs.linked_types.Tested.{HaveColumns}
use Rattle.linker.proofs.linked_types.Types.{few_classes}
use Rattle.linked_program.specs.declared.type_tables.tables.TypeTables.{TypeTables}
use Rattle.linked_program.specs.type_tables.Rows.{AreRows, AreCatchesIn, AreComponentsIn, AreTypesIn, caught_in, rows_of}
use Rattle.linked_program.specs.type_tables.Tables.{AreComponentTypes, AreNamedTypes, AreTaken, HasTables}

same_class : (class : ℕ) → (class == class) ≡ true
same_class class = grind (arith, nat_tests)

-- ---- among those that are tested

pub fewer : (files : Program) (tested more : List ℕ) (table : Subclasses) → HaveColumns files (tested ++ more) table
    → HaveColumns files tested table
fewer files tested more table columns class within fits h = columns class within fits (list_any-append (λ c. c == class) tested more ∙ or_left _ _ h)

pub later : (files : Program) (tested more : List ℕ) (table : Subclasses) → HaveColumns files (tested ++ more) table
    → HaveColumns files more table
later files tested more table columns class within fits h = columns class within fits (list_any-append (λ c. c == class) tested more ∙ or_right (is_tested tested class) _ h)

among_row : (row : List (Option ℕ)) (index class : ℕ) → slice_index_or row index None ≡ Some class → is_tested (caught_in row) class ≡ true
among_row [] index class e = absurd cc
among_row (x ∷ row) zero class e = subst (λ (o : Option ℕ). is_tested (option_to_list o ++ caught_in row) class ≡ true) (sym e) (or_left _ _ (same_class class))
among_row (x ∷ row) (suc index) class e = list_any-append (λ c. c == class) (option_to_list x) (caught_in row) ∙ or_right (is_tested (option_to_list x) class) _ (among_row row index class e)

among_rows : (rows : List (List (Option ℕ))) (k index class : ℕ) → slice_index_or (rows_of rows k) index None ≡ Some class
    → is_tested (flat_map caught_in rows) class ≡ true
among_rows [] k index class e = absurd cc
among_rows (row ∷ rows) zero index class e = list_any-append (λ c. c == class) (caught_in row) (flat_map caught_in rows) ∙ or_left _ _ (among_row row index class e)
among_rows (row ∷ rows) (suc k) index class e = list_any-append (λ c. c == class) (caught_in row) (flat_map caught_in rows) ∙ or_right (is_tested (caught_in row) class) _ (among_rows rows k index class e)

-- the row of a class, as one of a list
pub stands : {A : Type 0} (rows : List (List A)) (k : ℕ) → k < length rows → slice_get rows k ≡ Some (rows_of rows k)
stands [] k below = absurd (omega (arith, below))
stands (row ∷ rows) zero below = refl
stands (row ∷ rows) (suc k) below = stands rows k (omega (arith, below))

-- no Class has the index 0
not_first : (pool : List Entry) (index : ℕ) (name : Name) → class_name_at pool index ≡ Some name → (index == 0) ≡ false
not_first pool zero name e = absurd cc
not_first pool (suc index) name e = grind (arith, nat_tests)

-- ---- tables

module _ (files : Program) (linked : IsLinked files) (tables : TypeTables) (p : LinkedProgram) (has : HasTables p tables) where
  pub types_named : (rows stored : List (List (Option LinkedType))) → stored ≡ rows → AreRows files (AreTypesIn files) rows
      → ((class : ℕ) (row : List (Option LinkedType)) → slice_get stored class ≡ Some row
      → EachRow row (λ index t. (type : ReferenceType) → IsType files t type → IsTested tables.subclasses t))
      → AreRows files (AreNamedTypes files p) rows
  types_named rows stored same are tested =
      record {
        count = are.count;
        each = λ class file at.
            let row = are.each class file at in
            let within : class < length rows = omega (arith, are.count, slice_get_within (classes_of files) class file at) in (
              λ index t e.
                  let is = row.0 index t e in
                  record {
                    name = is.name;
                    named = is.named;
                    numbered = is.numbered;
                    tested = subst (λ (table : Subclasses). IsTested table t) (sym has.subclasses) (tested class (rows_of rows class) (ap (λ l. slice_get l class) same ∙ stands rows class within) index t e (type_named is.name) is.numbered);
                  },
              row.1,
            );
      }

  pub components_named : (rows : List (List (Option ℕ))) → AreRows files (AreComponentsIn files tables.component_types.items) rows
      → AreRows files (AreComponentTypes files p) rows
  components_named rows are =
      record {
        count = are.count;
        each = λ class file at.
            let row = are.each class file at in (
              λ index number e.
                  let is = row.0 index number e in
                  record { name = is.name; named = is.named; numbered = subst (λ (types : List LinkedType). IsTypeAt files types number (type_named is.name)) (sym has.components) is.numbered },
              row.1,
            );
      }

  pub catches_taken : (rows : List (List (Option ℕ))) → AreRows files (AreCatchesIn files) rows
      → HaveColumns files (flat_map caught_in rows) tables.subclasses → AreRows files (AreTaken files p) rows
  catches_taken rows are columns =
      record {
        count = are.count;
        each = λ place file at.
            let row = are.each place file at in (
              λ index class e.
                  let is = row.0 index class e in
                  let within : class < length (classes_of files) = slice_get_within (classes_of files) class is.numbered.0 is.numbered.1 in
                  let fits : class < 2 ^ 16 = omega (arith, within, few_classes files linked) in
                  record {
                    name = is.name;
                    any = not_first file.pool index is.name is.named;
                    named = is.named;
                    numbered = is.numbered;
                    tested = subst (λ (table : Subclasses). HasColumn table class) (sym has.subclasses) (columns class within fits (among_rows rows place index class e));
                  },
              row.1,
            );
      }

  pub component_tested : (t : LinkedType) → ((type : ReferenceType) × IsType files t type)
      → ((type : ReferenceType) → IsType files t type → IsTested tables.subclasses t) → IsComponent files p t
  component_tested t is tested = record { type = is.0; is = is.1; tested = subst (λ (table : Subclasses). IsTested table t) (sym has.subclasses) (tested is.0 is.1) }
