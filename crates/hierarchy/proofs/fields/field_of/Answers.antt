use Rattle.std.proofs.Common.{◌∙◌, Some, None, ap, sym, subst}
use Rattle.std.specs.Prelude.{IfSome, option_map}
use Rattle.hierarchy.specs.Places.{member_in, IsFieldAt}
use Rattle.hierarchy.proofs.PlaceLaws.{field_by_number, is_field_at}
use Rattle.hierarchy.proofs.fields.field_of.Goals as goal

pub returns-in-Some : goal.returns-in-Some
returns-in-Some c =
    let s = c.args.sought.now in
    record {
      found = ap (option_map (member_in s.files s.member)) c.field_at.ensures ∙ field_by_number s.files s.member c.args.names.now c.args.places.now c.args.number (Some c.in-Some.place) c.requires c.in-Some.ensures;
      place = subst (λ o. IfSome o (IsFieldAt s.files s.member)) (sym c.field_at.ensures) (is_field_at s.files s.member c.in-Some.place);
    }

pub returns-in-None-clause-found : goal.returns-in-None-clause-found
returns-in-None-clause-found c =
    let s = c.args.sought.now in
    field_by_number s.files s.member c.args.names.now c.args.places.now c.args.number None c.requires c.in-None.ensures
