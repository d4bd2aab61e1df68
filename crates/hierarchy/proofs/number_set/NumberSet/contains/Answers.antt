use Rattle.std.proofs.Common.{◌≡◌, ◌∙◌, Some, None, sym, ap}
use Rattle.std.specs.Prelude.{nat_eq, slice_get}
use Rattle.std.specs.List.{list_any}
use Rattle.hierarchy.proofs.NumberSets.{no_place_of, none_at_place, one_at_place}
use Rattle.hierarchy.proofs.number_set.NumberSet.contains.Goals as goal

pub returns-in_default : goal.returns-in_default
returns-in_default c =
    let set = c.self.inside in
    let k = c.args.number in
    let none : slice_get set.places.items k ≡ None = ap (λ l. slice_get l k) (sym c.deref.ensures.value) ∙ sym c.in_default.ensures in
    sym (no_place_of set.numbers.items set.places.items k c.self.invariant none) ∙ ap (list_any (nat_eq k)) c.self.view_is

pub returns-in-Some-number_at : goal.returns-in-Some-number_at
returns-in-Some-number_at c =
    let set = c.self.inside in
    let k = c.args.number in
    let p = c.in-Some.place in
    let at : slice_get set.places.items k ≡ Some p = ap (λ l. slice_get l k) (sym c.deref.ensures.value) ∙ sym c.in-Some.ensures in
    let found : slice_get set.numbers.items p ≡ Some c.in-Some-number_at.there = ap (λ l. slice_get l p) (sym c.deref-2.ensures.value) ∙ sym c.in-Some-number_at.ensures in
    one_at_place set.numbers.items set.places.items k p c.in-Some-number_at.there c.self.invariant at found ∙ ap (list_any (nat_eq k)) c.self.view_is

pub returns-in-None : goal.returns-in-None
returns-in-None c =
    let set = c.self.inside in
    let k = c.args.number in
    let p = c.in-Some.place in
    let at : slice_get set.places.items k ≡ Some p = ap (λ l. slice_get l k) (sym c.deref.ensures.value) ∙ sym c.in-Some.ensures in
    let none : slice_get set.numbers.items p ≡ None = ap (λ l. slice_get l p) (sym c.deref-2.ensures.value) ∙ sym c.in-None.ensures in
    sym (none_at_place set.numbers.items set.places.items k p c.self.invariant at none) ∙ ap (list_any (nat_eq k)) c.self.view_is
