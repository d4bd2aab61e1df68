use Rattle.std.proofs.Common.{◌∙◌, Some, None, ap, sym, subst}
use Rattle.std.specs.Prelude.{IfSome, option_map}
use Rattle.model.specs.Lookup.{any_method}
use Rattle.hierarchy.specs.Places.{member_in, IsMethodAt}
use Rattle.hierarchy.proofs.PlaceLaws.{method_by_number, is_method_at}
use Rattle.hierarchy.proofs.hierarchy.method_of.Goals as goal

pub returns-in-Some : goal.returns-in-Some
returns-in-Some c =
    let s = c.args.sought.now in
    record {
      found = ap (option_map (member_in s.files s.member)) c.method_at.ensures ∙ method_by_number s.files s.member any_method c.args.names.now c.args.places.now c.args.number (Some c.in-Some.place) c.requires c.in-Some.ensures;
      place = subst (λ o. IfSome o (IsMethodAt s.files s.member)) (sym c.method_at.ensures) (is_method_at s.files s.member any_method c.in-Some.place);
    }

pub returns-in-None-clause-found : goal.returns-in-None-clause-found
returns-in-None-clause-found c =
    let s = c.args.sought.now in
    method_by_number s.files s.member any_method c.args.names.now c.args.places.now c.args.number None c.requires c.in-None.ensures
