-- One class more.
use Rattle.std.proofs.Common.{◌≡◌, ℕ, ◌+◌, ◌-◌, ◌<◌, ◌≤◌, true, false, List, [], ◌∷◌, ◌++◌, length, map, take, get_or, sym, ap, subst, ◌∙◌, length-append, arith}
use Rattle.std.specs.List.{list_any}
use Rattle.std.proofs.lemmas.List.{map_more, map-append, take-map, length-map}
use Rattle.std.proofs.Math.ListN.{get_or-map}
use Rattle.class_tree.specs.declared.tree.ClassFile.{ClassFile}
use Rattle.class_tree.specs.View.{file_of}
use Rattle.model.specs.Tree.{FileTree}
use Rattle.model.specs.Names.{Name}
use Rattle.model.specs.Classes.{Program, classes_of, name_of, is_named}
use Rattle.model.specs.BuiltIn.{built_in_classes}
use Rattle.model.specs.Linkable.{stands, DuplicateClass, two_of_one_name}
use Rattle.hierarchy.specs.Set.{trees_of, files_of, IsAgain}
use Rattle.hierarchy.proofs.Names.{differ_push, no_duplicate}
use Rattle.hierarchy.proofs.SetLaws.{files_of_whole, is_file, is_again, again_stands}

pub names_more : {K : Type 0} (items : K → Name) (keys : List K) (key : K) (classes : List ClassFile) (i : ℕ) (d : ClassFile)
    → i < length classes → map items keys ≡ map name_of (trees_of (take i classes))
    → items key ≡ name_of (file_of (get_or classes i d)) → map items (keys ++ key ∷ []) ≡ map name_of (trees_of (take (i + 1) classes))
names_more items keys key classes i d lt h e =
    map-append items keys (key ∷ []) ∙ ap (λ (l : List Name). l ++ items key ∷ []) h ∙ ap (λ (n : Name). map name_of (trees_of (take i classes)) ++ n ∷ []) e
    ∙ sym (map-append name_of (trees_of (take i classes)) (file_of (get_or classes i d) ∷ [])) ∙ ap (λ (l : List FileTree). map name_of l) (sym (map_more file_of classes i d lt))

pub differ_more : (classes : List ClassFile) (i : ℕ) (d : ClassFile) → i < length classes
    → two_of_one_name (trees_of (take i classes)) ≡ false
    → list_any (is_named (name_of (file_of (get_or classes i d)))) (trees_of (take i classes)) ≡ false
    → two_of_one_name (trees_of (take (i + 1) classes)) ≡ false
differ_more classes i d lt h new = ap two_of_one_name (map_more file_of classes i d lt) ∙ differ_push (trees_of (take i classes)) (file_of (get_or classes i d)) h new

-- a name that stands before: the class is a file's
pub again_at : (classes : List ClassFile) (i n : ℕ) (d : ClassFile) → i < length classes → n ≡ length built_in_classes
    → classes_of (files_of (trees_of classes)) ≡ trees_of classes
    → list_any (is_named (name_of (file_of (get_or classes i d)))) (trees_of (take i classes)) ≡ true
    → (n ≤ i) × (stands (files_of (trees_of classes)) DuplicateClass ≡ true) × IsAgain (files_of (trees_of classes)) (i - n)
again_at classes i n d lt count whole h =
    let trees = trees_of classes in
    let files = files_of trees in
    let Before : List FileTree → ℕ → Type 0 = λ l k. list_any (is_named (name_of (get_or l k (file_of d)))) (take k l) ≡ true in
    let in_trees : Before trees i =
    ap (λ (l : List FileTree). list_any (is_named (name_of (get_or trees i (file_of d)))) l) (take-map file_of i classes)
    ∙ ap (λ (t : FileTree). list_any (is_named (name_of t)) (trees_of (take i classes))) (get_or-map file_of classes i d) ∙ h in
    let in_set : Before (classes_of files) i = subst (λ (l : List FileTree). Before l i) (sym whole) in_trees in
    let above : length built_in_classes ≤ i = is_file files i (file_of d) in_set in
    let place : i ≡ length built_in_classes + (i - n) = omega arith in
    let same_length : length (built_in_classes ++ files) ≡ length classes = ap (λ (l : List FileTree). length l) whole ∙ length-map classes file_of in
    let within : i - n < length files = omega (arith, same_length, length-append built_in_classes files) in
    let again : IsAgain files (i - n) = is_again files (i - n) (file_of d) within (subst (λ k. Before (classes_of files) k) place in_set) in
    (omega arith, again_stands files (i - n) again, again)

-- ---- a set of built-in classes and files

pub new_trees : (classes files all : List ClassFile) → all ≡ classes ++ files → trees_of classes ≡ built_in_classes
    → trees_of all ≡ classes_of (trees_of files)
new_trees classes files all e h = ap trees_of e ∙ map-append file_of classes files ∙ ap (λ (l : List FileTree). l ++ trees_of files) h

pub its_files : (all : List ClassFile) (files : Program) → trees_of all ≡ classes_of files → files_of (trees_of all) ≡ files
its_files all files e = ap files_of e ∙ files_of_whole files

pub is_whole : (all : List ClassFile) (files : Program) → trees_of all ≡ classes_of files
    → classes_of (files_of (trees_of all)) ≡ trees_of all
is_whole all files e = ap classes_of (its_files all files e) ∙ sym e

pub all_differ : (all : List ClassFile) (files : Program) → trees_of all ≡ classes_of files → two_of_one_name (trees_of all) ≡ false
    → stands files DuplicateClass ≡ false
all_differ all files e h = no_duplicate files (ap two_of_one_name (sym e) ∙ h)
