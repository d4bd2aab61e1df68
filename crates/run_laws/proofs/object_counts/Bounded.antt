-- How many objects there are in a run within its limits.
use Rattle.std.proofs.Common.{◌≡◌, ℕ, ◌+◌, ◌≤◌, List, [], ◌∷◌, ◌++◌, map, length, Bool, true, false, if◌then◌else◌, ◌&&◌, Option, Some, refl, ap, subst, arith}
use Rattle.std.specs.Prelude.{is_none, nat_le}
use Rattle.std.specs.List.{flat_map}
use Rattle.std.specs.Option.{option_and_then}
use Rattle.std.proofs.lemmas.Bool.{and_parts, ltb-false, leb-false, leb-true, false≢true}
use Rattle.std.proofs.lemmas.List.{length-append, length-map}
use Rattle.std.proofs.lemmas.Option.{same_Some}
use Rattle.model.specs.declared.event.Event.{Event}
use Rattle.model.specs.declared.end.RunCause.{RunCause}
use Rattle.model.specs.Names.{java_lang_class, java_io_print_stream}
use Rattle.model.specs.BuiltIn.{built_in_classes}
use Rattle.model.specs.Classes.{Program, classes_of}
use Rattle.model.specs.StringConstants.{texts_in, file_texts, machine_texts, string_texts}
use Rattle.model.specs.Operands.{Carrier, words, values}
use Rattle.model.specs.State.{ObjectOf, Instance, State, Characters}
use Rattle.model.specs.Opening.{opening, opening_heap}
use Rattle.model.specs.Outcomes.{Cost, Free, Makes, Fills, Starts, Enters, Joins}
use Rattle.model.specs.Step.{SteppedOf, NotEnabled, WrongKind, Next, stepped, next_by}
use Rattle.model.specs.Run.{run_from}
use Rattle.model.specs.LimitStands.{Bounds, opening_count, objects_made, is_crowded, inflated_by, if_next, limit_of, within_limits_from}
use Rattle.model.specs.Texts.{decoded}
use Rattle.run_laws.specs.object_counts.Bounds.{made, IsOpeningInRange, AreOpeningsInRange, AreObjectsInRange}
use Rattle.run_laws.proofs.laws.Distinct.{distinct_added}
use Rattle.run_laws.proofs.laws.Unrefused.{unrefused_of}
use Rattle.run_laws.proofs.object_counts.CountedSteps.{StateCounted, stepped_counted}

-- ---- the opening state

built_in_count : length built_in_classes ≡ 37
unfolding built_in_classes
built_in_count = refl

few_built_in : nat_le (length (flat_map texts_in built_in_classes ++ machine_texts)) 1000 ≡ true
unfolding built_in_classes
few_built_in = refl

-- beside the texts of the files there are few
texts_count : (files : Program) → length (string_texts files) ≤ length (file_texts files) + 1000
texts_count files =
    let more = distinct_added (flat_map texts_in files) (flat_map texts_in built_in_classes ++ machine_texts) in
    omega (arith, ap length more.are, length-append (file_texts files) more.others, more.count, leb-true _ _ few_built_in)

opened_count : {A : Type 0} (C : Carrier A) (files : Program)
    → length (opening_heap C files) ≡ 41 + length files + length (string_texts files)
unfolding opening_heap
opened_count {A} C files =
    let classes : List (ObjectOf A) = map (λ file. Instance java_lang_class []) (classes_of files) in
    let strings : List (ObjectOf A) = map (λ bytes. Characters (decoded bytes)) (string_texts files) in
    let errors : List (ObjectOf A) = Instance java_io_print_stream [] ∷ [] in
    let behind : length (strings ++ errors) ≡ length strings + 1 = length-append strings errors in
    let all : length (classes ++ (strings ++ errors)) ≡ length classes + length (strings ++ errors) = length-append classes (strings ++ errors) in
    let of_classes : length classes ≡ length (classes_of files) = length-map (classes_of files) (λ file. Instance java_lang_class []) in
    let of_strings : length strings ≡ length (string_texts files) = length-map (string_texts files) (λ bytes. Characters (decoded bytes)) in
    let both : length (classes_of files) ≡ length built_in_classes + length files = length-append built_in_classes files in
    omega (arith, all, behind, of_classes, of_strings, both, built_in_count)

-- at most 65,000 files, and 200,000,000 texts
opening_fits : {A : Type 0} (C : Carrier A) → IsOpeningInRange C
opening_fits C bytes files linkable =
    let h = unrefused_of bytes files linkable.spelled linkable.no_refusal in
    omega (arith, opened_count C files, texts_count files, ltb-false 65000 (length files) h.files_fit, ltb-false 200000000 (length (file_texts files)) h.strings_fit)

pub openings_fit : AreOpeningsInRange
openings_fit = record { of_values = opening_fits values; of_words = opening_fits words }

-- ---- events

no_limit : (b : Bool) (c : RunCause) (o : Option RunCause) → is_none (if b then Some c else o) ≡ true → b ≡ false
no_limit true c o h = absurd (false≢true h)
no_limit false c o h = refl

module _ (files : Program) (bounds : Bounds) where
  -- an event that no limit forbids makes no object past the limit
  grown : (crowded : ℕ → Bool) (state : State) (cost : Cost) (n : ℕ) → is_none (limit_of files bounds crowded state cost) ≡ true
      → n ≡ length state.world.heap + made cost
      → length state.world.heap ≤ opening_count files + bounds.objects → n ≤ opening_count files + bounds.objects
  grown crowded state Free n h e b = omega (arith, e, b)
  grown crowded state (Makes cells) n h e b =
      let room = leb-false bounds.objects (objects_made files state.world) (no_limit _ _ _ h) in
      omega (arith, e, b, room)
  grown crowded state (Fills cells) n h e b = omega (arith, e, b)
  grown crowded state Starts n h e b = omega (arith, e, b)
  grown crowded state (Enters object count) n h e b = omega (arith, e, b)
  grown crowded state (Joins object) n h e b = omega (arith, e, b)

  bounded : (events : List Event) (state : State) (inflated : List ℕ) (last : State)
      → length state.world.heap ≤ opening_count files + bounds.objects
      → within_limits_from files bounds state events inflated ≡ true → run_from files bounds.frames state events ≡ Some last
      → length last.world.heap ≤ opening_count files + bounds.objects
  bounded [] state inflated last b w e =
      let is : state ≡ last = same_Some state last e in
      subst (λ (s : State). length s.world.heap ≤ opening_count files + bounds.objects) is b
  bounded (event ∷ events) state inflated last b w e = by (λ next inflated c. bounded events next inflated last c) (stepped values files bounds.frames state event) (stepped_counted values files bounds.frames state event) w e
    where
      by : ((next : State) (inflated : List ℕ) → length next.world.heap ≤ opening_count files + bounds.objects
          → within_limits_from files bounds next events inflated ≡ true → run_from files bounds.frames next events ≡ Some last
          → length last.world.heap ≤ opening_count files + bounds.objects)
          → (x : SteppedOf State) → StateCounted (length state.world.heap) x
          → if_next x true (λ cost next. is_none (limit_of files bounds (is_crowded bounds.monitors inflated) state cost) &&
          within_limits_from files bounds next events (inflated_by cost inflated)) ≡ true
          → option_and_then (λ next. run_from files bounds.frames next events) (next_by x) ≡ Some last
          → length last.world.heap ≤ opening_count files + bounds.objects
      by rest NotEnabled c w e = absurd cc
      by rest WrongKind c w e = absurd cc
      by rest (Next cost next) c w e =
          let within = and_parts _ _ w in
          rest next (inflated_by cost inflated) (grown (is_crowded bounds.monitors inflated) state cost (length next.world.heap) within.0 c b) within.1 e

pub objects_fit : AreObjectsInRange
objects_fit trees state r =
    let bounds = r.bounds in
    let opened : length (opening values trees).world.heap ≤ opening_count trees + bounds.objects = omega arith in
    let most = bounded trees bounds r.events (opening values trees) [] state opened r.within r.reached in
    omega (arith, most, r.objects, opening_fits values r.files trees r.linkable)
