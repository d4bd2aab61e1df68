use Rattle.std.proofs.Common.{◌≡◌, ◌∙◌, ℕ, List, false, length, sym, ap, subst, Some}
use Rattle.std.specs.Prelude.{nat_eq}
use Rattle.std.specs.List.{list_any}
use Rattle.hierarchy.specs.Numbers.{ArePlaces}
use Rattle.hierarchy.proofs.NumberSets.{others_placed, one_placed}
use Rattle.hierarchy.proofs.number_set.NumberSet.add.Goals as goal

pub invariant_of-self : goal.invariant_of-self
invariant_of-self c =
    let set = c.self.inside in
    let new : list_any (nat_eq c.args.number) set.numbers.items ≡ false = ap (list_any (nat_eq c.args.number)) c.self.view_is ∙ sym c.contains.ensures ∙ c.if-contains.false in
    others_placed set.numbers.items set.places.items c.write_place.new.places.items c.args.number c.self.invariant new c.write_place.ensures.others

pub invariant_of-self-in_err-push : goal.invariant_of-self-in_err-push
invariant_of-self-in_err-push c =
    let set = c.self.inside in
    let new : list_any (nat_eq c.args.number) set.numbers.items ≡ false = ap (list_any (nat_eq c.args.number)) c.self.view_is ∙ sym c.contains.ensures ∙ c.if-contains.false in
    subst (λ (l : List ℕ). ArePlaces l c.write_place.new.places.items) (sym c.in_err-push.ensures.items) (others_placed set.numbers.items set.places.items c.write_place.new.places.items c.args.number c.self.invariant new c.write_place.ensures.others)

pub invariant_of-self-2 : goal.invariant_of-self-2
invariant_of-self-2 c =
    let set = c.self.inside in
    let new : list_any (nat_eq c.args.number) set.numbers.items ≡ false = ap (list_any (nat_eq c.args.number)) c.self.view_is ∙ sym c.contains.ensures ∙ c.if-contains.false in
    subst (λ (l : List ℕ). ArePlaces l c.write_place.new.places.items) (sym c.in_ok-push.ensures.items)
    (one_placed set.numbers.items set.places.items c.write_place.new.places.items c.args.number c.self.invariant new c.write_place.ensures.others (c.in_ok-write_place.ensures.written ∙ ap Some (c.count-place.ensures ∙ ap length (sym c.self.view_is))))
