-- The statuses of the classes of files, one by one.
use Rattle.std.proofs.Common.{◌≡◌, ℕ, zero, suc, List, [], ◌∷◌, Bool, true, false, Some, if◌then◌else◌, map, refl, sym, ap, ◌∙◌}
use Rattle.std.specs.Prelude.{slice_get, slice_set}
use Rattle.std.specs.List.{list_any}
use Rattle.std.proofs.lemmas.Bool.{true≢false, or_parts}
use Rattle.model.specs.Names.{Name, name_eq}
use Rattle.model.specs.Tree.{FileTree}
use Rattle.model.specs.Classes.{name_of, is_named, is_built_in}
use Rattle.model.specs.Linkable.{two_of_one_name, has_built_in_name}
use Rattle.model.specs.State.{ClassStatus}
use Rattle.model.specs.ClassInitialisation.{status_in, with_status_in}
use Rattle.run_laws.proofs.laws.Classes.{names_same, name_self}
use Rattle.run_laws.proofs.laws.RootedOf.{name_sides}
use Rattle.machine_state.proofs.class_initialisation.Named.{any_at}

abbrev pub Classes : Type 0
Classes = List (Name × ClassStatus)

abbrev pub names : Classes → List Name
names classes = map (λ (c : Name × ClassStatus). c.0) classes

abbrev pub statuses : Classes → List ClassStatus
statuses classes = map (λ (c : Name × ClassStatus). c.1) classes

-- ---- the class of a file

at_once : (b : Bool) (s t : ClassStatus) → b ≡ true → (if b then s else t) ≡ s
at_once b s t h = ap (λ x. if x then s else t) h

later : (b : Bool) (s t : ClassStatus) → b ≡ false → (if b then s else t) ≡ t
later b s t h = ap (λ x. if x then s else t) h

-- the class is the first one
is_first : (f : FileTree) (fs : List FileTree) (c : Name × ClassStatus) (cs : Classes) → names (c ∷ cs) ≡ map name_of (f ∷ fs)
    → (file : FileTree) → Some f ≡ Some file → name_eq c.0 (name_of file) ≡ true
is_first f fs c cs h file e =
    let same : f ≡ file = cc in
    let named : c.0 ≡ name_of f = cc in
    ap (λ n. name_eq n (name_of file)) (named ∙ ap name_of same) ∙ name_self (name_of file)

-- or it is not
is_later : (f : FileTree) (fs : List FileTree) (c : Name × ClassStatus) (cs : Classes) → names (c ∷ cs) ≡ map name_of (f ∷ fs)
    → two_of_one_name (f ∷ fs) ≡ false → (k : ℕ) (file : FileTree) → slice_get fs k ≡ Some file → name_eq c.0 (name_of file) ≡ false
is_later f fs c cs h differ k file e =
    let named : c.0 ≡ name_of f = cc in
    ap (λ n. name_eq n (name_of file)) named ∙ name_sides (name_of f) (name_of file) ∙ any_at (is_named (name_of f)) fs k file e (or_parts (list_any (is_named (name_of f)) fs) _ differ).0

tails : (f : FileTree) (fs : List FileTree) (c : Name × ClassStatus) (cs : Classes) → names (c ∷ cs) ≡ map name_of (f ∷ fs)
    → names cs ≡ map name_of fs
tails f fs c cs h = cc

pub status_at : (fs : List FileTree) (cs : Classes) → names cs ≡ map name_of fs → two_of_one_name fs ≡ false → (k : ℕ) (file : FileTree)
    → slice_get fs k ≡ Some file → slice_get (statuses cs) k ≡ Some (status_in (name_of file) cs)
status_at [] cs h differ k file e = absurd cc
status_at (f ∷ fs) [] h differ k file e = absurd cc
status_at (f ∷ fs) (c ∷ cs) h differ zero file e =
    ap (λ (s : ClassStatus). Some s) (sym (at_once (name_eq c.0 (name_of file)) c.1 (status_in (name_of file) cs) (is_first f fs c cs h file e)))
status_at (f ∷ fs) (c ∷ cs) h differ (suc k) file e =
    status_at fs cs (tails f fs c cs h) (or_parts (list_any (is_named (name_of f)) fs) _ differ).1 k file e
    ∙ ap (λ (s : ClassStatus). Some s) (sym (later (name_eq c.0 (name_of file)) c.1 (status_in (name_of file) cs) (is_later f fs c cs h differ k file e)))

pub set_at : (fs : List FileTree) (cs : Classes) → names cs ≡ map name_of fs → two_of_one_name fs ≡ false → (k : ℕ) (file : FileTree)
    → slice_get fs k ≡ Some file → (s : ClassStatus) → statuses (with_status_in (name_of file) s cs) ≡ slice_set (statuses cs) k s
set_at [] cs h differ k file e s = absurd cc
set_at (f ∷ fs) [] h differ k file e s = absurd cc
set_at (f ∷ fs) (c ∷ cs) h differ zero file e s = ap (λ b. statuses (if b then (c.0, s) ∷ cs else c ∷ with_status_in (name_of file) s cs)) (is_first f fs c cs h file e)
set_at (f ∷ fs) (c ∷ cs) h differ (suc k) file e s =
    ap (λ b. statuses (if b then (c.0, s) ∷ cs else c ∷ with_status_in (name_of file) s cs)) (is_later f fs c cs h differ k file e)
    ∙ ap (λ l. c.1 ∷ l) (set_at fs cs (tails f fs c cs h) (or_parts (list_any (is_named (name_of f)) fs) _ differ).1 k file e s)

-- ---- the names stay

pub set_names : (class : Name) (s : ClassStatus) (cs : Classes) → names (with_status_in class s cs) ≡ names cs
set_names class s [] = refl
set_names class s (c ∷ cs) = by (set_names class s cs) (name_eq c.0 class)
  where
    by : names (with_status_in class s cs) ≡ names cs → (b : Bool)
        → names (if b then (c.0, s) ∷ cs else c ∷ with_status_in class s cs) ≡ c.0 ∷ names cs
    by rest true = refl
    by rest false = ap (λ l. c.0 ∷ l) rest

-- ---- other classes

pub set_other : (class other : Name) (s : ClassStatus) (cs : Classes) → name_eq class other ≡ false
    → status_in other (with_status_in class s cs) ≡ status_in other cs
set_other class other s [] h = refl
set_other class other s (c ∷ cs) h = by (set_other class other s cs h) (name_eq c.0 class) refl
  where
    by : status_in other (with_status_in class s cs) ≡ status_in other cs → (b : Bool) → name_eq c.0 class ≡ b
        → status_in other (if b then (c.0, s) ∷ cs else c ∷ with_status_in class s cs) ≡ status_in other (c ∷ cs)
    by rest true same =
        let differs : name_eq c.0 other ≡ false = ap (λ n. name_eq n other) (names_same c.0 class same) ∙ h in
        later (name_eq c.0 other) s (status_in other cs) differs ∙ sym (later (name_eq c.0 other) c.1 (status_in other cs) differs)
    by rest false same = ap (λ t. if name_eq c.0 other then c.1 else t) rest

-- a class that is none of the files'
pub set_none : (fs : List FileTree) (cs : Classes) → names cs ≡ map name_of fs → list_any has_built_in_name fs ≡ false → (class : Name)
    → is_built_in class ≡ true → (s : ClassStatus) → with_status_in class s cs ≡ cs
set_none [] [] h none class built s = refl
set_none [] (c ∷ cs) h none class built s = absurd cc
set_none (f ∷ fs) [] h none class built s = absurd cc
set_none (f ∷ fs) (c ∷ cs) h none class built s = by (set_none fs cs (tails f fs c cs h) (or_parts (has_built_in_name f) _ none).1 class built s) (name_eq c.0 class) refl
  where
    by : with_status_in class s cs ≡ cs → (b : Bool) → name_eq c.0 class ≡ b
        → (if b then (c.0, s) ∷ cs else c ∷ with_status_in class s cs) ≡ c ∷ cs
    by rest true same =
        let named : c.0 ≡ name_of f = cc in
        absurd (true≢false (sym built ∙ ap is_built_in (sym (names_same c.0 class same) ∙ named) ∙ (or_parts (has_built_in_name f) _ none).0))
    by rest false same = ap (λ l. c ∷ l) rest
