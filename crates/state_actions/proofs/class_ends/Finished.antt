-- Which classes are done, and which one is done since an event.
use Rattle.std.proofs.Common.{◌≡◌, refl, sym, ◌∙◌, ap, subst, ℕ, zero, suc, List, [], ◌∷◌, map}
use Rattle.std.specs.Prelude.{Option, Some, None, Bool, true, false, not, ◌&&◌, if◌then◌else◌, slice_get}
use Rattle.std.specs.List.{filter, list_any}
use Rattle.std.proofs.lemmas.Bool.{or_parts}
use Rattle.model.specs.Names.{Name, name_eq}
use Rattle.model.specs.Tree.{FileTree}
use Rattle.model.specs.Classes.{Program, name_of, is_named, is_built_in, classes_of}
use Rattle.model.specs.Linkable.{two_of_one_name}
use Rattle.model.specs.State.{Initialised, World}
use Rattle.model.specs.LimitStands.{Bounds}
use Rattle.model.specs.ClassInitialisation.{status_in, status_of}
use Rattle.model.specs.Operands.{word_of}
use Rattle.model.specs.Words.{map_world}
use Rattle.run_laws.proofs.laws.Classes.{names_same, name_self}
use Rattle.run_laws.proofs.laws.RootedOf.{name_sides}
use Rattle.linked_code.specs.declared.program.LinkedProgram.{LinkedProgram}
use Rattle.linked_code.specs.Numbers.{IsClassAt}
use Rattle.machine_state.specs.declared.state.Shared.{Shared}
use Rattle.machine_state.specs.class_initialisation.Statuses.{IsFileOf}
use Rattle.machine_state.proofs.class_initialisation.Named.{any_at, files_differ, file_at}
use Rattle.machine_state.proofs.class_initialisation.Setting.{built_in_is, kind_of}
use Rattle.race_places.specs.declared.run_actions.Action.TheVariants as action
use Rattle.data_races.specs.Actions as named
use Rattle.data_races.specs.EventActions.{only_if, is_finished, finished_classes}
use Rattle.event_laws.specs.event_changes.Changes.{class_names, KeepsClasses}
use Rattle.state_actions.specs.class_ends.Classes.{IsFinished, Shows, FindsNamed, FinishesNamed}

-- ---- a class that is found

module _ (shared : Shared) (number : ℕ) (finished : Bool) (is : IsFinished shared number finished) where
  pub found_told : finished ≡ true → FindsNamed shared (Some number) (Some (action.FindInitialised number))
  found_told is_so trees p bounds world names None shows right at = absurd at
  found_told is_so trees p bounds world names (Some class) shows right at =
      let done : is_finished (status_of world class) ≡ true = sym (is trees p bounds (map_world word_of world) shows.program shows.represents class at) ∙ is_so in
      ap (λ (n : Name). named.FindInitialised n ∷ []) (right number class at) ∙ ap (λ b. only_if b (named.FindInitialised class ∷ [])) (sym done)

  pub not_found_told : finished ≡ false → FindsNamed shared (Some number) None
  not_found_told not_so trees p bounds world names None shows right at = absurd at
  not_found_told not_so trees p bounds world names (Some class) shows right at =
      let open_still : is_finished (status_of world class) ≡ false = sym (is trees p bounds (map_world word_of world) shows.program shows.represents class at) ∙ not_so in
      ap (λ b. only_if b (named.FindInitialised class ∷ [])) (sym open_still)

pub none_found : (shared : Shared) → FindsNamed shared None None
none_found shared trees p bounds world names None shows right at = refl
none_found shared trees p bounds world names (Some class) shows right at = absurd at

-- ---- the names that pass

none_pass : (test : Name → Bool) (ns : List Name) → ((n : Name) → test n ≡ false) → filter test ns ≡ []
none_pass test [] h = refl
none_pass test (n ∷ ns) h = let e : test n ≡ false = h n in rw e (none_pass test ns h)

pass_one : (test : Name → Bool) (class n : Name) (ns : List Name) (b : Bool) → name_eq n class ≡ true → test class ≡ b → filter test ns ≡ []
    → filter test (n ∷ ns) ≡ only_if b (class ∷ [])
pass_one test class n ns b same e rest = by (names_same n class same) b e
  where
    by : n ≡ class → (c : Bool) → test class ≡ c → filter test (n ∷ ns) ≡ only_if c (class ∷ [])
    by is true g = let h : test n ≡ true = ap test is ∙ g in rw (h, rest, is)
    by is false g = let h : test n ≡ false = ap test is ∙ g in rw (h, rest)

others_fail : (test : Name → Bool) (class : Name) (files : List FileTree) → ((n : Name) → name_eq n class ≡ false → test n ≡ false)
    → list_any (is_named class) files ≡ false → filter test (map name_of files) ≡ []
others_fail test class [] h none = refl
others_fail test class (f ∷ files) h none =
    let parts = or_parts (is_named class f) _ none in
    let e : test (name_of f) ≡ false = h (name_of f) parts.0 in
    rw e (others_fail test class files h parts.1)

-- the class at a place of files with names that differ passes alone
one_passes : (test : Name → Bool) (class : Name) (files : List FileTree) (k : ℕ) (file : FileTree) → two_of_one_name files ≡ false → slice_get files k ≡ Some file
    → name_of file ≡ class → ((n : Name) → name_eq n class ≡ false → test n ≡ false) → filter test (map name_of files) ≡ only_if (test class) (class ∷ [])
one_passes test class [] k file differ at named h = absurd cc
one_passes test class (f ∷ files) zero file differ at named h =
    let is : f ≡ file = cc in
    let same : name_of f ≡ class = ap name_of is ∙ named in
    pass_one test class (name_of f) (map name_of files) (test class) (ap (λ (n : Name). name_eq n class) same ∙ name_self class) refl
    (others_fail test class files h (ap (λ (n : Name). list_any (is_named n) files) (sym same) ∙ (or_parts (list_any (is_named (name_of f)) files) _ differ).0))
one_passes test class (f ∷ files) (suc k) file differ at named h =
    let parts = or_parts (list_any (is_named (name_of f)) files) _ differ in
    let other : name_eq (name_of file) (name_of f) ≡ false = any_at (is_named (name_of f)) files k file at parts.0 in
    let e : test (name_of f) ≡ false = h (name_of f) (ap (λ (n : Name). name_eq (name_of f) n) (sym named) ∙ name_sides (name_of f) (name_of file) ∙ other) in
    rw e (one_passes test class files k file parts.1 at named h)

-- ---- the class that is done since

kept_test : (a b : Bool) → a ≡ b → (a && not b) ≡ false
kept_test true b e = ap not (sym e)
kept_test false b e = refl

module _ (trees : Program) (p : LinkedProgram) (bounds : Bounds) (shared : Shared) (old new : World) (shows : Shows trees p bounds shared new) where
  abbrev test : Name → Bool
  test class = is_finished (status_of new class) && not (is_finished (status_of old class))

  names_are : class_names new.classes ≡ map name_of trees
  names_are = shows.represents.world_is.statuses.names

  none_done : KeepsClasses None old new → finished_classes old new ≡ []
  none_done keeps = none_pass test (class_names new.classes) (λ n. kept_test _ _ (keeps.others n refl))

  built_in_done : (class : Name) → is_built_in class ≡ true → test class ≡ false
  built_in_done class e =
      kept_test _ _
      (ap (λ b. is_finished (if b then Initialised else status_in class new.classes)) e ∙ sym (ap (λ b. is_finished (if b then Initialised else status_in class old.classes)) e))

  others_kept : (class : Name) → KeepsClasses (Some class) old new → (n : Name) → name_eq n class ≡ false → test n ≡ false
  others_kept class keeps n e = kept_test _ _ (keeps.others n e)

  any_kept : (class : Name) → KeepsClasses (Some class) old new → test class ≡ false → (n : Name) → test n ≡ false
  any_kept class keeps e n = by (name_eq n class) refl
    where
      by : (b : Bool) → name_eq n class ≡ b → test n ≡ false
      by true same = ap test (names_same n class same) ∙ e
      by false differs = others_kept class keeps n differs

  one_done : (number : ℕ) (class : Name) → IsClassAt trees number class → KeepsClasses (Some class) old new
      → finished_classes old new ≡ only_if (test class) (class ∷ [])
  one_done number class at keeps = by (kind_of number).0 (kind_of number).1
    where
      by : (found : Option ℕ) → IsFileOf number found → finished_classes old new ≡ only_if (test class) (class ∷ [])
      by None below =
          let none : test class ≡ false = built_in_done class (built_in_is trees shows.program.linkable.no_refusal number below class at) in
          none_pass test (class_names new.classes) (any_kept class keeps none) ∙ ap (λ b. only_if b (class ∷ [])) (sym none)
      by (Some place) is =
          ap (filter test) names_are
          ∙ one_passes test class trees place at.0 (files_differ trees shows.program.linkable.no_refusal)
          (file_at trees shows.program.linkable.no_refusal place at.0 (subst (λ n. slice_get (classes_of trees) n ≡ Some at.0) is at.1)) at.2 (others_kept class keeps)

pub none_finished : (shared : Shared) (was : Bool) → FinishesNamed shared None was None
none_finished shared was trees p bounds old new names None shows right at keeps before =
    sym (ap (map (λ n. named.FinishInitialisation n)) (none_done trees p bounds shared old new shows keeps))
none_finished shared was trees p bounds old new names (Some class) shows right at keeps before = absurd at

module _ (shared : Shared) (number : ℕ) (was : Bool) where
  nothing_since : (trees : Program) (p : LinkedProgram) (bounds : Bounds) (old new : World) (class : Name) → (shows : Shows trees p bounds shared new) → IsClassAt trees number class
      → KeepsClasses (Some class) old new → (is_finished (status_of new class) && not (is_finished (status_of old class))) ≡ false
      → [] ≡ map (λ n. named.FinishInitialisation n) (finished_classes old new)
  nothing_since trees p bounds old new class shows at keeps e =
      sym (ap (map (λ n. named.FinishInitialisation n)) (one_done trees p bounds shared old new shows number class at keeps ∙ ap (λ b. only_if b (class ∷ [])) e))

  and_not : (a b : Bool) → b ≡ true → (a && not b) ≡ false
  and_not true b e = ap not e
  and_not false b e = refl

  pub was_finished_told : was ≡ true → FinishesNamed shared (Some number) was None
  was_finished_told is_so trees p bounds old new names None shows right at keeps before = absurd at
  was_finished_told is_so trees p bounds old new names (Some class) shows right at keeps before =
      nothing_since trees p bounds old new class shows at keeps (and_not (is_finished (status_of new class)) (is_finished (status_of old class)) (sym before ∙ is_so))

  module _ (finished : Bool) (is : IsFinished shared number finished) where
    now_is : (trees : Program) (p : LinkedProgram) (bounds : Bounds) (new : World) (class : Name) → Shows trees p bounds shared new → IsClassAt trees number class
        → finished ≡ is_finished (status_of new class)
    now_is trees p bounds new class shows at = is trees p bounds (map_world word_of new) shows.program shows.represents class at

    pub unfinished_told : finished ≡ false → FinishesNamed shared (Some number) was None
    unfinished_told not_so trees p bounds old new names None shows right at keeps before = absurd at
    unfinished_told not_so trees p bounds old new names (Some class) shows right at keeps before =
        nothing_since trees p bounds old new class shows at keeps
        (ap (λ b. b && not (is_finished (status_of old class))) (sym (now_is trees p bounds new class shows at) ∙ not_so))

    pub finished_told : was ≡ false → finished ≡ true → FinishesNamed shared (Some number) was (Some (action.FinishInitialisation number))
    finished_told before_no is_so trees p bounds old new names None shows right at keeps before = absurd at
    finished_told before_no is_so trees p bounds old new names (Some class) shows right at keeps before =
        let since : (is_finished (status_of new class) && not (is_finished (status_of old class))) ≡ true =
        ap (λ b. b && not (is_finished (status_of old class))) (sym (now_is trees p bounds new class shows at) ∙ is_so) ∙ ap not (sym before ∙ before_no) in
        ap (λ (n : Name). named.FinishInitialisation n ∷ []) (right number class at)
        ∙ sym (ap (map (λ n. named.FinishInitialisation n)) (one_done trees p bounds shared old new shows number class at keeps ∙ ap (λ b. only_if b (class ∷ [])) since))
