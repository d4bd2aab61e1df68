use Rattle.std.proofs.Common.{◌≡◌, ◌++◌, ℕ, List, sym, ap, subst, ◌∙◌}
use Rattle.std.specs.Prelude.{slice_get}
use Rattle.std.specs.List.{flat_map}
use Rattle.model.specs.Names.{java_lang_string}
use Rattle.model.specs.Classes.{Program}
use Rattle.model.specs.ReferenceTypes.{ClassType}
use Rattle.linker.specs.Linking.{IsLinked}
use Rattle.linked_code.specs.declared.types.LinkedType.{LinkedType}
use Rattle.linked_code.specs.Numbers.{IsTypeAt}
use Rattle.linked_code.specs.Subtypes.{AreSubclasses}
use Rattle.linker.specs.linked_types.Components.{AreComponents}
use Rattle.linker.specs.linked_types.Tested.{HaveColumns}
use Rattle.linked_program.specs.declared.type_tables.tables.TypeTables.{TypeTables}
use Rattle.linked_program.specs.type_tables.Rows.{AreRows, AreComponentsIn, caught_in}
use Rattle.linked_program.proofs.type_tables.PoolRows.{items_of}
use Rattle.linked_program.proofs.type_tables.CaughtClasses.{fewer, later, types_named, components_named, catches_taken, component_tested}
use Rattle.linked_program.proofs.type_tables.tables.TypeTables.new.Goals as goal

pub returns : goal.returns
returns c =
    let files = c.args.linked.now in
    let same = c.hierarchy.ensures.same in
    let linked : IsLinked files = c.hierarchy.ensures.linked in
    let table = c.in_ok-subclasses.subclasses in
    let types = c.in_ok-types.types in
    let rows = c.in_ok-components.components in
    let catches = c.in_ok-catches.catches in
    let component_types = c.into_types-component_types.result in
    let are : AreComponents files c.in_ok-numbered.numbered = c.in_ok-numbered.ensures in
    let tables : TypeTables = record { types = types; components = rows; catches = catches; component_types = component_types; string_component = c.string_component-string_component.result; subclasses = table } in
    let tested = c.in_ok-tested.tested.items in
    let caught = flat_map caught_in (items_of catches.items) in
    let of_hierarchy : HaveColumns c.hierarchy.result.now c.add_caught.new.tested.items table =
    subst (λ (l : List ℕ). HaveColumns c.hierarchy.result.now l table) c.deref-4.ensures.value c.in_ok-subclasses.ensures.tested
    in
    let all : c.add_caught.new.tested.items ≡ tested ++ caught = c.in_ok-add_caught.ensures ∙ ap (λ l. tested ++ flat_map caught_in (items_of l)) c.deref-3.ensures.value in
    let columns : HaveColumns files (tested ++ caught) table =
    subst (λ (l : List ℕ). HaveColumns files l table) all (subst (λ (f : Program). HaveColumns f c.add_caught.new.tested.items table) same of_hierarchy)
    in
    let few : HaveColumns files tested table = fewer files tested caught table columns in
    let numbered : AreRows files (AreComponentsIn files component_types.items) (items_of rows.items) =
    subst (λ (l : List LinkedType). AreRows files (AreComponentsIn files l) (items_of rows.items)) (ap (λ v. v.items) (sym c.into_types-component_types.ensures.same)) c.in_ok-components.ensures
    in
    record {
      types = λ p has. types_named files linked tables p has (items_of types.items) (items_of c.deref.result.now) (ap items_of c.deref.ensures.value) c.in_ok-types.ensures (c.in_ok-tested.ensures.rows files table linked few);
      components = λ p has. components_named files linked tables p has (items_of rows.items) numbered;
      catches = λ p has. catches_taken files linked tables p has (items_of catches.items) c.in_ok-catches.ensures (later files tested caught table columns);
      component_types = λ p has number t at.
          component_tested files linked tables p has t (c.into_types-component_types.ensures.each files are number t at) (c.in_ok-tested.ensures.components files table linked few number t (ap (λ l. slice_get l number) c.deref-2.ensures.value ∙ at));
      string =
          subst (λ (l : List LinkedType). IsTypeAt files l c.string_component-string_component.result (ClassType java_lang_string)) (ap (λ v. v.items) (sym c.into_types-component_types.ensures.same))
          (c.string_component-string_component.ensures files are);
      subclasses = subst (λ (f : Program). AreSubclasses f table) same c.in_ok-subclasses.ensures.right;
    }
