-- The schedules of a tree by its nodes.
use Rattle.std.proofs.Common.{◌≡◌, ℕ, zero, suc, ◌+◌, ◌<◌, ◌≤◌, ◌^◌, List, [], ◌∷◌, ◌++◌, length, reverse, Some, refl, sym, ap, ◌∙◌, subst, arith}
use Rattle.std.specs.Prelude.{slice_get}
use Rattle.std.specs.List.{AllByRecursion}
use Rattle.std.proofs.lemmas.List.{length-append, reverse-append, length-reverse, append_assoc}
use Rattle.std.proofs.lemmas.Option.{none-some, get_or_from_slice_get, slice_get-get_or}
use Rattle.model.specs.declared.event.ScheduleEntry.{ScheduleEntry}
use Rattle.model.specs.Schedule.{EntryFits, AreEntries}
use Rattle.schedule.specs.declared.schedule_tree.tree.Node.{Node}
use Rattle.schedule.specs.schedule_tree.Trees.{way_at, with_way, ways_from, ways, AreBelow, AreFitting, IsWayBack}

abbrev Ways : Type 0
Ways = List (List ScheduleEntry)

-- ---- lists

get_front : {X : Type 0} (xs ys : List X) (k : ℕ) (x : X) → slice_get xs k ≡ Some x → slice_get (xs ++ ys) k ≡ Some x
get_front [] ys k x h = absurd (none-some x h)
get_front (w ∷ ws) ys zero x h = h
get_front (w ∷ ws) ys (suc k) x h = get_front ws ys k x h

get_last : {X : Type 0} (xs : List X) (x : X) → slice_get (xs ++ x ∷ []) (length xs) ≡ Some x
get_last [] x = refl
get_last (w ∷ ws) x = get_last ws x

all_pushed : {X : Type 0} (P : X → Type 0) (xs : List X) (x : X) → AllByRecursion P xs → P x → AllByRecursion P (xs ++ x ∷ [])
all_pushed P [] x h p = (p, tt)
all_pushed P (y ∷ ys) x h p = (h.0, all_pushed P ys x h.1 p)

all_reversed : {X : Type 0} (P : X → Type 0) (xs : List X) → AllByRecursion P xs → AllByRecursion P (reverse xs)
all_reversed P [] h = tt
all_reversed P (x ∷ xs) h = subst (AllByRecursion P) (sym (reverse-append (x ∷ []) xs)) (all_pushed P (reverse xs) x (all_reversed P xs h.1) h.0)

all_at : {X : Type 0} (P : X → Type 0) (xs : List X) (k : ℕ) (x : X) → AllByRecursion P xs → slice_get xs k ≡ Some x → P x
all_at P [] k x h e = absurd (none-some x e)
all_at P (y ∷ ys) zero x h e = subst P (get_or_from_slice_get (y ∷ ys) 0 x x e) h.0
all_at P (y ∷ ys) (suc k) x h e = all_at P ys k x h.1 e

-- ---- schedules

way_of : (w : Ways) (k : ℕ) (x : List ScheduleEntry) → slice_get w k ≡ Some x → way_at w k ≡ x
way_of w k x e = get_or_from_slice_get w k x [] e

way_there : (w : Ways) (k : ℕ) → k < length w → slice_get w k ≡ Some (way_at w k)
way_there w k lt = slice_get-get_or w k [] lt

-- what was there is there
kept : (nodes : List Node) (w : Ways) (k : ℕ) (x : List ScheduleEntry) → slice_get w k ≡ Some x → slice_get (ways_from w nodes) k ≡ Some x
kept [] w k x e = e
kept (node ∷ nodes) w k x e = kept nodes (with_way w node.parent node.entry) k x (get_front w _ k x e)

length_with : (w : Ways) (parent : ℕ) (entry : ScheduleEntry) → length (with_way w parent entry) ≡ suc (length w)
length_with w parent entry = length-append w _ ∙ omega arith

length_from : (nodes : List Node) (w : Ways) → length (ways_from w nodes) ≡ length w + length nodes
length_from [] w = omega arith
length_from (node ∷ nodes) w =
    let rest = length_from nodes (with_way w node.parent node.entry) in
    let one = length_with w node.parent node.entry in
    omega (arith, rest, one)

pub length_ways : (nodes : List Node) → length (ways nodes) ≡ length nodes + 1
length_ways nodes = length_from nodes ([] ∷ []) ∙ omega arith

pushed_from : (nodes : List Node) (w : Ways) (node : Node)
    → ways_from w (nodes ++ node ∷ []) ≡ with_way (ways_from w nodes) node.parent node.entry
pushed_from [] w node = refl
pushed_from (first ∷ nodes) w node = pushed_from nodes (with_way w first.parent first.entry) node

pub ways_pushed : (nodes : List Node) (node : Node) → ways (nodes ++ node ∷ []) ≡ with_way (ways nodes) node.parent node.entry
ways_pushed nodes node = pushed_from nodes ([] ∷ []) node

below_from : (nodes : List Node) (number : ℕ) (node : Node) → AreBelow number nodes → node.parent < number + length nodes
    → AreBelow number (nodes ++ node ∷ [])
below_from [] number node h lt = let l : node.parent < number = omega (arith, lt) in (l, tt)
below_from (first ∷ nodes) number node h lt =
    let l : node.parent < suc number + length nodes = omega (arith, lt) in
    (h.0, below_from nodes (suc number) node h.1 l)

pub below_pushed : (nodes : List Node) (node : Node) → AreBelow 1 nodes → node.parent < length (ways nodes)
    → AreBelow 1 (nodes ++ node ∷ [])
below_pushed nodes node h lt =
    let l : node.parent < 1 + length nodes = omega (arith, lt, length_ways nodes) in
    below_from nodes 1 node h l

pub fitting_pushed : (nodes : List Node) (node : Node) → AreFitting nodes → EntryFits node.entry → AreFitting (nodes ++ node ∷ [])
fitting_pushed nodes node h fits = all_pushed (λ (n : Node). EntryFits n.entry) nodes node h fits

-- the schedule of a node goes on from that of its parent
record IsStep (nodes : List Node) (w : Ways) (i : ℕ) (node : Node) : Type 0 where
  below : node.parent < length w + i
  is : way_at (ways_from w nodes) (length w + i) ≡ way_at (ways_from w nodes) node.parent ++ node.entry ∷ []

step_at : (nodes : List Node) (w : Ways) (i : ℕ) (node : Node) → AreBelow (length w) nodes → slice_get nodes i ≡ Some node
    → IsStep nodes w i node
step_at [] w i node h e = absurd (none-some node e)
step_at (first ∷ nodes) w zero node h e =
    let same : first ≡ node = get_or_from_slice_get (first ∷ nodes) 0 node first e in
    subst (IsStep (first ∷ nodes) w 0) same here
  where
    here : IsStep (first ∷ nodes) w 0 first
    here =
        let after = with_way w first.parent first.entry in
        let own = kept nodes after (length w) _ (get_last w (way_at w first.parent ++ first.entry ∷ [])) in
        let old = kept nodes after first.parent _ (get_front w _ first.parent _ (way_there w first.parent h.0)) in
        let at : length w + 0 ≡ length w = omega arith in
        let lt : first.parent < length w + 0 = omega (arith, h.0) in
        record {
          below = lt;
          is = ap (way_at (ways_from after nodes)) at
              ∙ (way_of (ways_from after nodes) (length w) _ own
              ∙ ap (λ x. x ++ first.entry ∷ []) (sym (way_of (ways_from after nodes) first.parent _ old)));
        }
step_at (first ∷ nodes) w (suc i) node h e =
    let after = with_way w first.parent first.entry in
    let count = length_with w first.parent first.entry in
    let more = step_at nodes after i node (subst (λ n. AreBelow n nodes) (sym count) h.1) e in
    let at : length after + i ≡ length w + suc i = omega (arith, count) in
    record {
      below = subst (λ n. node.parent < n) at more.below;
      is = ap (way_at (ways_from after nodes)) (sym at) ∙ more.is;
    }

-- ---- the way back

-- so far: where it has come to, and the entries from there on, the last one first
pub record IsBack (nodes : List Node) (number at : ℕ) (entries : List ScheduleEntry) : Type 0 where
  pub within : at < length nodes + 1
  pub are : way_at (ways nodes) number ≡ way_at (ways nodes) at ++ reverse entries
  pub each : AllByRecursion EntryFits entries
  pub few : length entries + at ≤ number

append_none : {X : Type 0} (xs : List X) → xs ++ [] ≡ xs
append_none [] = refl
append_none (x ∷ xs) = ap (λ l. x ∷ l) (append_none xs)

pub starts : (nodes : List Node) (number : ℕ) → number < length nodes + 1 → IsBack nodes number number []
starts nodes number lt = record { within = lt; are = sym (append_none (way_at (ways nodes) number)); each = tt; few = omega arith }

module _ (nodes : List Node) (below : AreBelow 1 nodes) (fitting : AreFitting nodes) (number at i : ℕ) (node : Node)
    (is : slice_get nodes i ≡ Some node) (before : at ≡ 1 + i) where
  step : IsStep nodes ([] ∷ []) i node
  step = step_at nodes ([] ∷ []) i node below is

  pub falls : node.parent < at
  falls = let lt = step.below in omega (arith, lt, before)

  pub goes_back : (entries : List ScheduleEntry) → IsBack nodes number at entries
      → IsBack nodes number node.parent (entries ++ node.entry ∷ [])
  goes_back entries h =
      let s = step in
      let lt : node.parent < length nodes + 1 = omega (arith, s.below, h.within, before) in
      let le : length (entries ++ node.entry ∷ []) + node.parent ≤ number = omega (arith, length-append entries (node.entry ∷ []), s.below, h.few, before) in
      record {
        within = lt;
        are = h.are
            ∙ (ap (λ k. way_at (ways nodes) k ++ reverse entries) before
            ∙ (ap (λ l. l ++ reverse entries) s.is
            ∙ (append_assoc (way_at (ways nodes) node.parent) (node.entry ∷ []) (reverse entries)
            ∙ ap (λ l. way_at (ways nodes) node.parent ++ l) (sym (reverse-append entries (node.entry ∷ []))))));
        each = all_pushed EntryFits entries node.entry h.each (all_at (λ (n : Node). EntryFits n.entry) nodes i node fitting is);
        few = le;
      }

pub all_back : (nodes : List Node) (number : ℕ) (entries : List ScheduleEntry) → IsBack nodes number 0 entries
    → IsWayBack nodes number entries
all_back nodes number entries h =
    let none : way_at (ways nodes) 0 ≡ [] = way_of (ways nodes) 0 [] (kept nodes ([] ∷ []) 0 [] refl) in
    let le : length entries ≤ number = omega (arith, h.few) in
    record { are = h.are ∙ ap (λ l. l ++ reverse entries) none; each = h.each; few = le }

pub forwards : (nodes : List Node) (number : ℕ) (entries : List ScheduleEntry) → IsWayBack nodes number entries
    → number < length (ways nodes) → slice_get (ways nodes) number ≡ Some (reverse entries)
forwards nodes number entries h lt = way_there (ways nodes) number lt ∙ ap (λ l. Some l) h.are

pub forwards_fit : (nodes : List Node) (number : ℕ) (entries : List ScheduleEntry) → length nodes + 1 < 2 ^ 32
    → number < length (ways nodes) → IsWayBack nodes number entries → AreEntries (reverse entries)
forwards_fit nodes number entries most lt h =
    let few : length (reverse entries) < 2 ^ 32 = omega (arith, length-reverse entries, h.few, lt, most, length_ways nodes) in
    record { count = few; each = all_reversed EntryFits entries h.each }
