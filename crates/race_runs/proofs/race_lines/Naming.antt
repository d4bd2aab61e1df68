-- What stands at the place of a method's number, and of a field.
use Rattle.std.proofs.Common.{◌≡◌, ℕ, List, [], ◌++◌, Option, Some, None, codes, false, refl, ap, ◌∙◌}
use Rattle.std.specs.Prelude.{slice_get}
use Rattle.std.specs.Option.{option_and_then, option_map, option_map_or}
use Rattle.model.specs.Classes.{Program, name_of}
use Rattle.model.specs.Lookup.{field_member}
use Rattle.model.specs.Names.{Member}
use Rattle.model.specs.Report.{number}
use Rattle.model.specs.Tree.{FieldTree, FileTree, MethodTree}
use Rattle.hierarchy.specs.Places.{class_at, name_at}
use Rattle.hierarchy.specs.declared.place.MemberPlace.{MemberPlace}
use Rattle.linked_code.specs.Numbers.{IsMethodAt}
use Rattle.linked_code.specs.Numbers as linked_code
use Rattle.method_tables.specs.method_links.Methods.{member_at, member_of, methods_of}
use Rattle.method_tables.specs.method_links.Methods as method_links
use Rattle.field_names.specs.named_fields.Fields as fields
use Rattle.traces.specs.Methods.{IsPlaceOf, name_in}
use Rattle.race_runs.specs.race_lines.Lines.{SpellsSite, SpellsVariable, member_words}
use Rattle.race_runs.specs.race_lines.Pieces.{field_name_in, field_place_words, offset_place_words, words_of}
use Rattle.run_races.specs.declared.told_races.RacedVariable.{RacedVariable}

-- ---- the place of a method's number

same_methods : (files : Program) → method_links.methods_of files ≡ linked_code.methods_of files
unfolding method_links.methods_of linked_code.methods_of
same_methods files = refl

pub placed : (files : Program) (numbered : ℕ) (place : MemberPlace)
    → option_map (member_at files) (Some place) ≡ option_map (λ (m : Member). Some m) (slice_get (methods_of files) numbered)
    → IsPlaceOf files numbered place
placed files numbered place e method at =
    let is : slice_get (methods_of files) numbered ≡ Some method = ap (λ l. slice_get l numbered) (same_methods files) ∙ at in
    let both : Some (member_at files place) ≡ Some (Some method) = e ∙ ap (option_map (λ (m : Member). Some m)) is in
    cc

pub no_place : (files : Program) (numbered : ℕ) (place : MemberPlace)
    → None ≡ option_map (λ (m : Member). Some m) (slice_get (methods_of files) numbered) → IsPlaceOf files numbered place
no_place files numbered place e method at =
    let is : slice_get (methods_of files) numbered ≡ Some method = ap (λ l. slice_get l numbered) (same_methods files) ∙ at in
    let bad : None ≡ Some (Some method) = e ∙ ap (option_map (λ (m : Member). Some m)) is in
    cc

-- ---- the class of a member

method_class : (files : Program) (place : MemberPlace) (method : Member) → member_at files place ≡ Some method → name_at files place.class ≡ method.class
method_class files place method e = by (class_at files place.class) refl e
  where
    within : (file : FileTree) → class_at files place.class ≡ Some file → (o : Option MethodTree) → option_map (member_of file) o ≡ Some method
        → name_at files place.class ≡ method.class
    within file c None s = absurd cc
    within file c (Some tree) s =
        let same : member_of file tree ≡ method = cc in
        ap (λ (o : Option FileTree). option_map_or name_of o []) c ∙ ap (λ (m : Member). m.class) same

    by : (o : Option FileTree) → class_at files place.class ≡ o
        → option_and_then (λ (file : FileTree). option_map (member_of file) (slice_get file.methods place.member)) o ≡ Some method
        → name_at files place.class ≡ method.class
    by None c s = absurd cc
    by (Some file) c s = within file c (slice_get file.methods place.member) s

field_class : (files : Program) (class place : ℕ) (field : Member) → fields.member_at files class place ≡ Some field → name_at files class ≡ field.class
field_class files class place field e = by (class_at files class) refl e
  where
    within : (file : FileTree) → class_at files class ≡ Some file → (o : Option FieldTree) → option_map (field_member (name_of file) file.pool) o ≡ Some field
        → name_at files class ≡ field.class
    within file c None s = absurd cc
    within file c (Some tree) s =
        let same : field_member (name_of file) file.pool tree ≡ field = cc in
        ap (λ (o : Option FileTree). option_map_or name_of o []) c ∙ ap (λ (m : Member). m.class) same

    by : (o : Option FileTree) → class_at files class ≡ o
        → option_and_then (λ (file : FileTree). option_map (field_member (name_of file) file.pool) (slice_get file.fields place)) o ≡ Some field
        → name_at files class ≡ field.class
    by None c s = absurd cc
    by (Some file) c s = within file c (slice_get file.fields place) s

-- ---- its words

method_words : (files : Program) (place : MemberPlace) (method : Member) → member_at files place ≡ Some method
    → words_of (name_at files place.class) (name_in files place) ≡ member_words method
method_words files place method e =
    ap (λ (l : List ℕ). words_of l (name_in files place)) (method_class files place method e)
    ∙ ap (λ (o : Option Member). words_of method.class (option_map_or (λ (m : Member). m.name) o [])) e

pub field_spelled : (files : Program) (variable : RacedVariable) → SpellsVariable false files variable (field_place_words files variable.class variable.place)
field_spelled files variable field e =
    ap (λ (l : List ℕ). words_of l (field_name_in files variable.class variable.place)) (field_class files variable.class variable.place field e)
    ∙ ap (λ (o : Option Member). words_of field.class (option_map_or (λ (m : Member). m.name) o [])) e

-- ---- where an instruction stands

pub site_plain : (files : Program) (numbered : ℕ) (place : MemberPlace) (offset : ℕ) → IsPlaceOf files numbered place
    → SpellsSite files numbered offset (offset_place_words files place offset)
site_plain files numbered place offset is method at =
    (None, ap (λ (l : List ℕ). l ++ (codes " " ++ number offset)) (method_words files place method (is method at)))

pub site_sourced : (files : Program) (numbered : ℕ) (place : MemberPlace) (offset : ℕ) → IsPlaceOf files numbered place → (told : List ℕ)
    → SpellsSite files numbered offset (told ++ (codes " (" ++ (offset_place_words files place offset ++ codes ")")))
site_sourced files numbered place offset is told method at =
    (Some told, ap (λ (l : List ℕ). told ++ (codes " (" ++ ((l ++ (codes " " ++ number offset)) ++ codes ")"))) (method_words files place method (is method at)))
