use Rattle.std.proofs.Common.{◌≡◌, ◌<◌, ◌≤◌, ◌∙◌, ◌++◌, ◌∷◌, [], arith, length, length-append, map, refl, sym, ap}
use Rattle.std.specs.Prelude.{vec_items}
use Rattle.std.specs.Vec.Iter.{into_iter_items}
use Rattle.std.proofs.lemmas.Bool.{false≢true}
use Rattle.std.proofs.lemmas.List.{length-map}
use Rattle.linked_program.specs.declared.class_rows.sources.Selections.{Selections}
use Rattle.linked_program.proofs.class_rows.Filling.{row_kept}
use Rattle.linked_program.specs.linked_calls.Selections.{places_of, selectors_of}
use Rattle.linked_program.proofs.linked_calls.Halves.{all_done, no_first, some_left}
use Rattle.linked_program.proofs.linked_calls.selections.selections_by.Goals as goal

pub returns-in_default-clause-places : goal.returns-in_default-clause-places
returns-in_default-clause-places c =
    let s = c.loop-class.selections.items in
    let more : length (map places_of s) < length (map vec_items c.args.by_place.items) =
    omega (arith, length-map s places_of, length-map c.args.by_place.items vec_items, c.loop-class.invariant.count, c.loop-class-test.true, c.len-count.ensures) in
    let none : into_iter_items c.loop-class.places ≡ [] = no_first (into_iter_items c.loop-class.places) (λ some. false≢true (c.in_default.ensures.variant.1 (omega (arith, some, c.loop-class.invariant.places_left)))) in
    absurd (some_left (map places_of s) (map vec_items (into_iter_items c.loop-class.places)) (map vec_items c.args.by_place.items) c.loop-class.invariant.places more (ap (map vec_items) none))

pub returns-in_default-clause-selectors : goal.returns-in_default-clause-selectors
returns-in_default-clause-selectors c =
    let s = c.loop-class.selections.items in
    let more : length (map places_of s) < length (map vec_items c.args.by_place.items) =
    omega (arith, length-map s places_of, length-map c.args.by_place.items vec_items, c.loop-class.invariant.count, c.loop-class-test.true, c.len-count.ensures) in
    let none : into_iter_items c.loop-class.places ≡ [] = no_first (into_iter_items c.loop-class.places) (λ some. false≢true (c.in_default.ensures.variant.1 (omega (arith, some, c.loop-class.invariant.places_left)))) in
    absurd (some_left (map places_of s) (map vec_items (into_iter_items c.loop-class.places)) (map vec_items c.args.by_place.items) c.loop-class.invariant.places more (ap (map vec_items) none))

pub returns-in_default-next-clause-places : goal.returns-in_default-next-clause-places
returns-in_default-next-clause-places c =
    let s = c.loop-class.selections.items in
    let more : length (map selectors_of s) < length (map vec_items c.args.by_selector.items) =
    omega (arith, length-map s selectors_of, length-map c.args.by_selector.items vec_items, c.loop-class.invariant.count, c.loop-class-test.true, c.len-count.ensures, c.requires) in
    let none : into_iter_items c.loop-class.selectors ≡ [] = no_first (into_iter_items c.loop-class.selectors) (λ some. false≢true (c.in_default-next.ensures.variant.1 (omega (arith, some, c.loop-class.invariant.selectors_left)))) in
    absurd (some_left (map selectors_of s) (map vec_items (into_iter_items c.loop-class.selectors)) (map vec_items c.args.by_selector.items) c.loop-class.invariant.selectors more (ap (map vec_items) none))

pub returns-in_default-next-clause-selectors : goal.returns-in_default-next-clause-selectors
returns-in_default-next-clause-selectors c =
    let s = c.loop-class.selections.items in
    let more : length (map selectors_of s) < length (map vec_items c.args.by_selector.items) =
    omega (arith, length-map s selectors_of, length-map c.args.by_selector.items vec_items, c.loop-class.invariant.count, c.loop-class-test.true, c.len-count.ensures, c.requires) in
    let none : into_iter_items c.loop-class.selectors ≡ [] = no_first (into_iter_items c.loop-class.selectors) (λ some. false≢true (c.in_default-next.ensures.variant.1 (omega (arith, some, c.loop-class.invariant.selectors_left)))) in
    absurd (some_left (map selectors_of s) (map vec_items (into_iter_items c.loop-class.selectors)) (map vec_items c.args.by_selector.items) c.loop-class.invariant.selectors more (ap (map vec_items) none))

pub loop-class-preserved : goal.loop-class-preserved
loop-class-preserved c =
    let s = c.loop-class.selections.items in
    let x : Selections = record { by_place = c.in-Some.by_place; by_selector = c.in-Some-next.by_selector } in
    let pushed : c.push.new.self.items ≡ s ++ x ∷ [] = c.in_ok-push.ensures.items in
    record {
      count = omega (arith, ap length pushed, length-append s (x ∷ []), c.loop-class.invariant.count);
      places_left = omega (arith, c.in-Some.ensures.len, ap length c.in-Some.ensures.items, c.loop-class.invariant.places_left);
      selectors_left = omega (arith, c.in-Some-next.ensures.len, ap length c.in-Some-next.ensures.items, c.loop-class.invariant.selectors_left);
      places = row_kept places_of s c.push.new.self.items x (map vec_items (into_iter_items c.next.new.self)) (map vec_items c.args.by_place.items) c.in-Some.by_place.items refl pushed
          (ap (λ l. map places_of s ++ map vec_items l) (sym c.in-Some.ensures.items) ∙ c.loop-class.invariant.places);
      selectors = row_kept selectors_of s c.push.new.self.items x (map vec_items (into_iter_items c.next-in-loop-class.new.self)) (map vec_items c.args.by_selector.items) c.in-Some-next.by_selector.items refl pushed
          (ap (λ l. map selectors_of s ++ map vec_items l) (sym c.in-Some-next.ensures.items) ∙ c.loop-class.invariant.selectors);
    }

pub returns-clause-places : goal.returns-clause-places
returns-clause-places c =
    let s = c.loop-class.selections.items in
    let done : length (map vec_items c.args.by_place.items) ≤ length (map places_of s) =
    omega (arith, length-map s places_of, length-map c.args.by_place.items vec_items, c.loop-class.invariant.count, c.loop-class-test.false, c.len-count.ensures) in
    all_done (map places_of s) (map vec_items (into_iter_items c.loop-class.places)) (map vec_items c.args.by_place.items) c.loop-class.invariant.places done

pub returns-clause-selectors : goal.returns-clause-selectors
returns-clause-selectors c =
    let s = c.loop-class.selections.items in
    let done : length (map vec_items c.args.by_selector.items) ≤ length (map selectors_of s) =
    omega (arith, length-map s selectors_of, length-map c.args.by_selector.items vec_items, c.loop-class.invariant.count, c.loop-class-test.false, c.len-count.ensures, c.requires) in
    all_done (map selectors_of s) (map vec_items (into_iter_items c.loop-class.selectors)) (map vec_items c.args.by_selector.items) c.loop-class.invariant.selectors done
