-- How far the classes are before any event, by their numbers.
use Rattle.std.proofs.Common.{◌≡◌, ℕ, zero, suc, ◌+◌, ◌-◌, ◌<◌, ◌≤◌, List, [], ◌∷◌, ◌++◌, Bool, true, false, Some, if◌then◌else◌, map, length, replicate, refl, sym, ap, ◌∙◌, arith, ltb}
use Rattle.std.specs.Prelude.{slice_get}
use Rattle.std.proofs.lemmas.Bool.{ltb-true, ltb-false}
use Rattle.std.proofs.lemmas.Option.{slice_get_within}
use Rattle.model.specs.Names.{Name, name_eq}
use Rattle.model.specs.Tree.{FileTree}
use Rattle.model.specs.Classes.{Program, name_of, is_built_in, classes_of}
use Rattle.model.specs.State.{ClassStatus, NotInitialised, Initialised}
use Rattle.model.specs.ClassInitialisation.{status_in, status_of}
use Rattle.model.specs.Operands.{words}
use Rattle.model.specs.Opening.{opening}
use Rattle.hierarchy.proofs.Indices.{get_front, get_behind, count_behind}
use Rattle.linked_code.specs.declared.program.LinkedProgram.{LinkedProgram}
use Rattle.machine_state.specs.declared.state.ClassStatus.TheVariants as status
use Rattle.machine_state.specs.Shown.{IsProgram, shown_status, is_initialised, ShowsStatuses, AreInitialised}
use Rattle.machine_state.proofs.class_initialisation.Named.{is_so, file_at, is_not}
use Rattle.machine_threads.proofs.machine_opening.OpenedHeap.{class_count}

-- ---- the statuses of a list of files

abbrev pub with_none : List FileTree → List (Name × ClassStatus)
with_none files = map (λ (file : FileTree). (name_of file, NotInitialised)) files

names_are : (files : List FileTree) → map (λ (c : Name × ClassStatus). c.0) (with_none files) ≡ map name_of files
names_are [] = refl
names_are (file ∷ files) = ap (λ l. name_of file ∷ l) (names_are files)

statuses_are : (files : List FileTree) → map (λ (c : Name × ClassStatus). c.1) (with_none files)
    ≡ map shown_status (replicate (length files) status.NotInitialised)
statuses_are [] = refl
statuses_are (file ∷ files) = ap (λ l. NotInitialised ∷ l) (statuses_are files)

none_in : (class : Name) (files : List FileTree) → status_in class (with_none files) ≡ NotInitialised
none_in class [] = refl
none_in class (file ∷ files) = by (none_in class files) (name_eq (name_of file) class)
  where
    by : status_in class (with_none files) ≡ NotInitialised → (b : Bool)
        → (if b then NotInitialised else status_in class (with_none files)) ≡ NotInitialised
    by rest true = refl
    by rest false = rest

-- ---- of a program

copy_at : {A : Type 0} (n k : ℕ) (x : A) → k < n → slice_get (replicate n x) k ≡ Some x
copy_at zero k x h = absurd (omega arith)
copy_at (suc n) zero x h = refl
copy_at (suc n) (suc k) x h = copy_at n k x (omega arith)

module _ (trees : Program) (p : LinkedProgram) (program : IsProgram trees p) where
  behind : length p.classes.items ≡ 37 + length trees
  behind = class_count trees (classes_of trees) p.classes.items program.linked.classes ∙ count_behind trees

  pub enough : 37 ≤ length p.classes.items
  enough = omega (arith, behind)

  of_files : length p.classes.items - 37 ≡ length trees
  of_files = omega (arith, behind)

  pub none_initialised : ShowsStatuses trees (replicate (length p.classes.items - 37) status.NotInitialised)
      (opening words trees).world.classes
  none_initialised = record { names = names_are trees; are = statuses_are trees ∙ ap (λ n. map shown_status (replicate n status.NotInitialised)) (sym of_files) }

  module _ (number : ℕ) (class : Name) (file : FileTree) (at : slice_get (classes_of trees) number ≡ Some file) (named : name_of file ≡ class) where
    abbrev pub flags : List Bool
    flags = replicate 37 true ++ replicate (length p.classes.items - 37) false

    abbrev pub status_by : Bool → ClassStatus
    status_by b = if b then Initialised else status_in class (with_none trees)

    built_in_ready : number < 37 → slice_get flags number ≡ Some (is_initialised (status_of (opening words trees).world class))
    built_in_ready below =
        let built_in : is_built_in class ≡ true = ap is_built_in (sym named) ∙ is_so trees program.linkable.no_refusal number below file at in
        get_front (replicate 37 true) (replicate (length p.classes.items - 37) false) number below
        ∙ copy_at 37 number true below
        ∙ ap (λ b. Some (is_initialised (status_by b))) (sym built_in)

    file_not_ready : (k : ℕ) → number ≡ 37 + k
        → slice_get flags number ≡ Some (is_initialised (status_of (opening words trees).world class))
    file_not_ready k is =
        let there : slice_get (classes_of trees) (37 + k) ≡ Some file = ap (slice_get (classes_of trees)) (sym is) ∙ at in
        let other : is_built_in class ≡ false = ap is_built_in (sym named) ∙ is_not trees program.linkable.no_refusal k file there in
        let within : k < length trees = slice_get_within trees k file (file_at trees program.linkable.no_refusal k file there) in
        let room : k < length p.classes.items - 37 = omega (arith, within, behind) in
        ap (slice_get flags) is
        ∙ get_behind (replicate 37 true) (replicate (length p.classes.items - 37) false) k
        ∙ copy_at (length p.classes.items - 37) k false room
        ∙ ap (λ s. Some (is_initialised s)) (sym (none_in class trees))
        ∙ ap (λ b. Some (is_initialised (status_by b))) (sym other)

    ready_by : (b : Bool) → ltb number 37 ≡ b → slice_get flags number ≡ Some (is_initialised (status_of (opening words trees).world class))
    ready_by true e = built_in_ready (ltb-true number 37 e)
    ready_by false e = let above = ltb-false number 37 e in file_not_ready (number - 37) (omega (arith, above))

    pub is_ready : slice_get flags number ≡ Some (is_initialised (status_of (opening words trees).world class))
    is_ready = ready_by (ltb number 37) refl

  pub built_in_are_ready : AreInitialised trees (replicate 37 true
      ++ replicate (length p.classes.items - 37) false) (opening words trees).world
  built_in_are_ready number class at = is_ready number class at.0 at.1 at.2
