-- The status of a class in a world that is shown, and another status set.
use Rattle.std.proofs.Common.{◌≡◌, ◌<◌, ◌≤◌, ◌+◌, ◌-◌, ℕ, zero, suc, List, [], ◌∷◌, Bool, true, false, ltb, Option, Some, None, if◌then◌else◌, map, refl, sym, ap, subst, ◌∙◌, arith}
use Rattle.std.specs.Prelude.{slice_get, slice_set}
use Rattle.std.specs.Option.{option_map}
use Rattle.std.proofs.lemmas.Bool.{true≢false, false≢true}
use Rattle.std.proofs.lemmas.Option.{same_Some, slice_get-map}
use borrow.Author.Tests.{ltb-true, ltb-false}
use Rattle.model.specs.Names.{Name, name_eq}
use Rattle.model.specs.Tree.{FileTree}
use Rattle.model.specs.Classes.{Program, name_of, is_built_in, classes_of, class_of}
use Rattle.model.specs.Linkable.{some_stands}
use Rattle.model.specs.State as model
use Rattle.model.specs.State.{WorldOf}
use Rattle.model.specs.LimitStands.{Bounds}
use Rattle.model.specs.ClassInitialisation.{status_in, status_of, with_status_in, with_class_status}
use Rattle.run_laws.proofs.laws.Classes.{names_same, name_self}
use Rattle.linked_code.specs.declared.program.LinkedProgram.{LinkedProgram}
use Rattle.linked_code.specs.Numbers.{IsClassAt}
use Rattle.machine_state.specs.declared.state.ClassStatus.{ClassStatus}
use Rattle.machine_state.specs.declared.state.Shared.{Shared}
use Rattle.machine_state.specs.Shown.{IsProgram, Represents, shown_status, is_initialised}
use Rattle.machine_state.specs.class_initialisation.Statuses.{IsFileOf}
use Rattle.machine_state.proofs.class_initialisation.Named.{files_differ, none_built_in, is_so, class_below, file_at, is_not, class_behind, one_place}
use Rattle.machine_state.proofs.class_initialisation.FileStatuses.{names, statuses, status_at, set_at, set_names, set_other, set_none}

-- ---- lists

map_set : {A B : Type 0} (f : A → B) (xs : List A) (k : ℕ) (x : A) → map f (slice_set xs k x) ≡ slice_set (map f xs) k (f x)
map_set f [] k x = refl
map_set f (y ∷ ys) zero x = refl
map_set f (y ∷ ys) (suc k) x = ap (λ l. f y ∷ l) (map_set f ys k x)

set_here : {A : Type 0} (xs : List A) (k : ℕ) (old new : A) → slice_get xs k ≡ Some old → slice_get (slice_set xs k new) k ≡ Some new
set_here [] k old new e = absurd cc
set_here (y ∷ ys) zero old new e = refl
set_here (y ∷ ys) (suc k) old new e = set_here ys k old new e

pub set_elsewhere : {A : Type 0} (xs : List A) (k j : ℕ) (new : A) → (k ≡ j → ⊥) → slice_get (slice_set xs k new) j ≡ slice_get xs j
set_elsewhere [] k j new n = refl
set_elsewhere (y ∷ ys) zero zero new n = absurd (n refl)
set_elsewhere (y ∷ ys) zero (suc j) new n = refl
set_elsewhere (y ∷ ys) (suc k) zero new n = refl
set_elsewhere (y ∷ ys) (suc k) (suc j) new n = set_elsewhere ys k j new (λ e. n (ap suc e))

-- ---- the status of a class

by_kind : (b c : Bool) (status : model.ClassStatus) → b ≡ c
    → (if b then model.Initialised else status) ≡ (if c then model.Initialised else status)
by_kind b c status e = ap (λ x. if x then model.Initialised else status) e

module _ (trees : Program) (linkable : some_stands trees ≡ false) where
  pub built_in_is : (number : ℕ) → number < 37 → (class : Name) → IsClassAt trees number class → is_built_in class ≡ true
  built_in_is number below class at = subst (λ (n : Name). is_built_in n ≡ true) at.2 (is_so trees linkable number below at.0 at.1)

  -- the file of a class behind the built-in ones
  at_place : (number place : ℕ) → number ≡ 37 + place → (class : Name) → (at : IsClassAt trees number class)
      → slice_get (classes_of trees) (37 + place) ≡ Some at.0
  at_place number place is class at = subst (λ n. slice_get (classes_of trees) n ≡ Some at.0) is at.1

  pub not_built_in : (number place : ℕ) → number ≡ 37 + place → (class : Name) → IsClassAt trees number class → is_built_in class ≡ false
  not_built_in number place is class at = subst (λ (n : Name). is_built_in n ≡ false) at.2 (is_not trees linkable place at.0 (at_place number place is class at))

  pub its_class : (number : ℕ) (found : Option ℕ) → IsFileOf number found → (file : FileTree)
      → slice_get (classes_of trees) number ≡ Some file → class_of trees (name_of file) ≡ Some file
  its_class number None below file at = class_below trees linkable number below file at
  its_class number (Some place) is file at = class_behind trees linkable place file (subst (λ n. slice_get (classes_of trees) n ≡ Some file) is at)

  module _ (world : WorldOf ℕ) where
    pub initialised : (number : ℕ) → number < 37 → (class : Name) → IsClassAt trees number class → status_of world class ≡ model.Initialised
    initialised number below class at = by_kind (is_built_in class) true (status_in class world.classes) (built_in_is number below class at)

    of_file : (number place : ℕ) → number ≡ 37 + place → (class : Name) → IsClassAt trees number class
        → status_of world class ≡ status_in class world.classes
    of_file number place is class at = by_kind (is_built_in class) false (status_in class world.classes) (not_built_in number place is class at)

    -- classes of two numbers have two names
    pub one_number : (number place : ℕ) → number ≡ 37 + place → (class : Name) → IsClassAt trees number class → (other : ℕ)
        (found : Option ℕ) → IsFileOf other found → IsClassAt trees other class → number ≡ other
    one_number number place is class at other None below there =
        absurd (true≢false (sym (built_in_is other below class there) ∙ not_built_in number place is class at))
    one_number number place is class at other (Some j) is_other there =
        let same : place ≡ j =
        one_place trees (files_differ trees linkable) place j at.0 there.0
        (file_at trees linkable place at.0 (at_place number place is class at))
        (file_at trees linkable j there.0 (at_place other j is_other class there)) (at.2 ∙ sym there.2) in
        is ∙ ap (λ n. 37 + n) same ∙ sym is_other

pub kind_of : (number : ℕ) → (found : Option ℕ) × IsFileOf number found
kind_of number = by (ltb number 37) refl
  where
    by : (b : Bool) → ltb number 37 ≡ b → (found : Option ℕ) × IsFileOf number found
    by true h = (None, ltb-true number 37 h)
    by false h = let above : 37 ≤ number = ltb-false number 37 h in (Some (number - 37), omega arith)

module _ (trees : Program) (p : LinkedProgram) (bounds : Bounds) (world : WorldOf ℕ) (program : IsProgram trees p) (shared : Shared)
    (r : Represents trees p bounds shared world) where
  linkable : some_stands trees ≡ false
  linkable = program.linkable.no_refusal

  pub file_status : (number place : ℕ) → number ≡ 37 + place → (class : Name) → IsClassAt trees number class
      → option_map shown_status (slice_get shared.statuses.items place) ≡ Some (status_of world class)
  file_status number place is class at =
      sym (slice_get-map shown_status shared.statuses.items place)
      ∙ ap (λ l. slice_get l place) (sym r.world_is.statuses.are)
      ∙ status_at trees world.classes r.world_is.statuses.names (files_differ trees linkable) place at.0 (file_at trees linkable place at.0 (at_place trees linkable number place is class at))
      ∙ ap (λ (n : Name). Some (status_in n world.classes)) at.2
      ∙ ap (λ (s : model.ClassStatus). Some s) (sym (of_file trees linkable world number place is class at))

  -- ---- another status

  module _ (class : Name) (status : ClassStatus) where
    abbrev pub after : WorldOf ℕ
    after = with_class_status world class (shown_status status)

    -- of a built-in class nothing changes
    pub nothing_set : (number : ℕ) → number < 37 → IsClassAt trees number class → Represents trees p bounds shared after
    nothing_set number below at =
        subst (λ (cs : List (Name × model.ClassStatus)). Represents trees p bounds shared (record world { classes = cs }))
        (sym (set_none trees world.classes r.world_is.statuses.names (none_built_in trees linkable) class (built_in_is trees linkable number below class at) (shown_status status))) r

    module _ (number place : ℕ) (is : number ≡ 37 + place) (at : IsClassAt trees number class) where
      its_file : slice_get trees place ≡ Some at.0
      its_file = file_at trees linkable place at.0 (at_place trees linkable number place is class at)

      names_kept : names after.classes ≡ map name_of trees
      names_kept = set_names class (shown_status status) world.classes ∙ r.world_is.statuses.names

      statuses_are : statuses after.classes ≡ map shown_status (slice_set shared.statuses.items place status)
      statuses_are =
          subst (λ (n : Name). statuses (with_status_in n (shown_status status) world.classes) ≡ slice_set (statuses world.classes) place (shown_status status)) at.2
          (set_at trees world.classes r.world_is.statuses.names (files_differ trees linkable) place at.0 its_file (shown_status status))
          ∙ ap (λ l. slice_set l place (shown_status status)) r.world_is.statuses.are
          ∙ sym (map_set shown_status shared.statuses.items place status)

      now : status_of after class ≡ shown_status status
      now =
          of_file trees linkable after number place is class at
          ∙ same_Some _ _ (sym (subst (λ (n : Name). slice_get (statuses after.classes) place ≡ Some (status_in n after.classes)) at.2 (status_at trees after.classes names_kept (files_differ trees linkable) place at.0 its_file))
          ∙ ap (λ l. slice_get l place) statuses_are
          ∙ slice_get-map shown_status (slice_set shared.statuses.items place status) place
          ∙ there)
        where
          there : option_map shown_status (slice_get (slice_set shared.statuses.items place status) place) ≡ Some (shown_status status)
          there = by (slice_get shared.statuses.items place) refl (file_status number place is class at)
            where
              by : (o : Option ClassStatus) → slice_get shared.statuses.items place ≡ o
                  → option_map shown_status o ≡ Some (status_of world class)
                  → option_map shown_status (slice_get (slice_set shared.statuses.items place status) place) ≡ Some (shown_status status)
              by None e h = absurd cc
              by (Some old) e h = ap (option_map shown_status) (set_here shared.statuses.items place old status e)

      other_is : (other : Name) → name_eq class other ≡ false → status_of after other ≡ status_of world other
      other_is other differs = ap (λ s. if is_built_in other then model.Initialised else s) (set_other class other (shown_status status) world.classes differs)

      ready_at : (n : ℕ) (other : Name) → IsClassAt trees n other → (b : Bool) → name_eq class other ≡ b
          → slice_get (slice_set shared.ready.items number (is_initialised (shown_status status))) n
          ≡ Some (is_initialised (status_of after other))
      ready_at n other there true same =
          let kind = kind_of n in
          let one : number ≡ n = one_number trees linkable world number place is class at n kind.0 kind.1 (subst (IsClassAt trees n) (sym (names_same class other same)) there) in
          ap (λ k. slice_get (slice_set shared.ready.items number (is_initialised (shown_status status))) k) (sym one)
          ∙ set_here shared.ready.items number (is_initialised (status_of world class)) (is_initialised (shown_status status)) (r.world_is.ready number class at)
          ∙ ap (λ (s : model.ClassStatus). Some (is_initialised s)) (sym now)
          ∙ ap (λ (c : Name). Some (is_initialised (status_of after c))) (names_same class other same)
      ready_at n other there false differs =
          set_elsewhere shared.ready.items number n (is_initialised (shown_status status)) (λ one. false≢true (sym differs ∙ self one))
          ∙ r.world_is.ready n other there
          ∙ ap (λ (s : model.ClassStatus). Some (is_initialised s)) (sym (other_is other differs))
        where
          self : number ≡ n → name_eq class other ≡ true
          self one =
              let same : at.0 ≡ there.0 = same_Some _ _ (sym at.1 ∙ ap (slice_get (classes_of trees)) one ∙ there.1) in
              ap (λ (c : Name). name_eq c other) (sym at.2 ∙ ap name_of same ∙ there.2) ∙ name_self other

      pub set_shown : (new : Shared) → new ≡ record shared { statuses = new.statuses; ready = new.ready }
          → new.statuses.items ≡ slice_set shared.statuses.items place status
          → new.ready.items ≡ slice_set shared.ready.items number (is_initialised (shown_status status))
          → Represents trees p bounds new after
      set_shown new kept statuses_now ready_now =
          subst (λ (s : Shared). Represents trees p bounds s after) (sym kept)
          (record {
            world_is = record {
              objects = r.world_is.objects;
              counted = r.world_is.counted;
              monitors = r.world_is.monitors;
              statics = r.world_is.statics;
              statuses = record { names = names_kept; are = statuses_are ∙ ap (map shown_status) (sym statuses_now) };
              ready = λ n other there. ap (λ l. slice_get l n) ready_now ∙ ready_at n other there (name_eq class other) refl;
              threads = r.world_is.threads;
              printed = r.world_is.printed;
              interned = r.world_is.interned;
              unnamed = r.world_is.unnamed;
            };
            limits = record {
              opening = r.limits.opening;
              objects = r.limits.objects;
              cells = r.limits.cells;
              monitors = r.limits.monitors;
              threads = r.limits.threads;
            };
          })
