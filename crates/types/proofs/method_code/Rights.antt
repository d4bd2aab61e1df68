-- What is so of the methods of each class: their names, that they differ, and the length of their code.
use Rattle.std.proofs.Common.{◌≡◌, ℕ, List, [], ◌∷◌, length, Bool, true, false, ◌&&◌, refl}
use Rattle.std.specs.Prelude.{nat_lt, MatchBool}
use Rattle.std.specs.Option.{option_map_or}
use Rattle.std.specs.List.{list_all, AllByRecursion}
use Rattle.std.proofs.lemmas.Bool.{and_parts, and_from}
use Rattle.model.specs.Tree.{Entry, MethodPart, CodeOf, SkippedOfMethod, MethodTree, CodeTree, FileTree}
use Rattle.model.specs.Spelling.{is_code, IsCode, IsSkippedOfMethod, MethodPartFits, MethodFits}
use Rattle.model.specs.Conditions.{names_utf8, names_class, entry_indices, field_indices, method_indices, fields_differ, methods_differ}
use Rattle.model.specs.Spells.{Spells}
use Rattle.model.specs.BuiltIn.{built_in_classes}
use Rattle.model.specs.Classes.{Program, classes_of, code_in}
use Rattle.model.specs.Linkable.{AreSpelled}
use Rattle.run_laws.proofs.laws.Lists.{every_append}
use Rattle.run_laws.proofs.laws.Found.{every_all}

abbrev pub is_short : List MethodPart → Bool
is_short parts = option_map_or (λ (c : CodeTree). nat_lt (length c.code) 65536) (code_in parts) true

abbrev pub method_right : List Entry → MethodTree → Bool
method_right pool m = names_utf8 pool m.name && (names_utf8 pool m.descriptor && is_short m.parts)

abbrev pub class_right : FileTree → Bool
class_right file = list_all (method_right file.pool) file.methods && methods_differ file

built_in_right : list_all class_right built_in_classes ≡ true
unfolding built_in_classes
built_in_right = refl

-- a Code, whichever way the attribute is named
fits_code : (b : Bool) (name : ℕ) (c : CodeTree) → MatchBool b (IsCode (CodeOf name c)) (IsSkippedOfMethod (CodeOf name c))
    → nat_lt (length c.code) 65536 ≡ true
fits_code true name c h = (and_parts (nat_lt 0 (length c.code)) _ h.code).1
fits_code false name c h = absurd h

parts_short : (pool : List Entry) (parts : List MethodPart) → AllByRecursion (MethodPartFits pool) parts → is_short parts ≡ true
parts_short pool [] h = refl
parts_short pool (CodeOf name c ∷ parts) h = fits_code (is_code pool name) name c (h.0).kind
parts_short pool (SkippedOfMethod a ∷ parts) h = parts_short pool parts h.1

methods_right : (pool : List Entry) (ms : List MethodTree) → list_all (method_indices pool) ms ≡ true → AllByRecursion (MethodFits pool) ms
    → list_all (method_right pool) ms ≡ true
methods_right pool [] h f = refl
methods_right pool (m ∷ ms) h f =
    let all = and_parts (method_indices pool m) _ h in
    let named = and_parts (names_utf8 pool m.name) _ all.0 in
    let described = and_parts (names_utf8 pool m.descriptor) _ named.1 in
    and_from _ _ (and_from _ _ named.0 (and_from _ _ described.0 (parts_short pool m.parts (f.0).parts.1))) (methods_right pool ms all.1 f.1)

file_right : (bytes : List ℕ) (file : FileTree) → Spells bytes file → class_right file ≡ true
file_right bytes file h =
    let entries = and_parts (list_all (entry_indices file.pool) file.pool) _ h.whole.indices in
    let this = and_parts (names_class file.pool file.this_class) _ entries.1 in
    let above = and_parts (names_class file.pool file.super_class) _ this.1 in
    let interfaces = and_parts (list_all (names_class file.pool) file.interfaces) _ above.1 in
    let fields = and_parts (list_all (field_indices file.pool) file.fields) _ interfaces.1 in
    let methods = and_parts (list_all (method_indices file.pool) file.methods) _ fields.1 in
    and_from _ _ (methods_right file.pool file.methods methods.0 h.layout.fits.methods.1) (and_parts (fields_differ file) _ h.whole.members).1

files_right : (bytes : List (List ℕ)) (files : Program) → AreSpelled bytes files → AllByRecursion (λ file. class_right file ≡ true) files
files_right [] [] h = tt
files_right [] (file ∷ files) h = absurd h
files_right (b ∷ bytes) [] h = tt
files_right (b ∷ bytes) (file ∷ files) h = (file_right b file h.0, files_right bytes files h.1)

pub classes_right : (bytes : List (List ℕ)) (files : Program) → AreSpelled bytes files
    → AllByRecursion (λ file. class_right file ≡ true) (classes_of files)
classes_right bytes files h = every_append (λ file. class_right file ≡ true) built_in_classes files (every_all class_right built_in_classes built_in_right) (files_right bytes files h)
