use Rattle.std.proofs.Common.{◌≡◌, ◌∙◌, Some, None, sym, ap, subst}
use Rattle.std.specs.Prelude.{IfSome}
use Rattle.std.specs.Option.{option_map}
use Rattle.hierarchy.specs.Places.{place_of, member_in, IsMethodAt}
use Rattle.hierarchy.specs.Wanted.{wants}
use Rattle.hierarchy.proofs.SetLaws.{no_class, method_of_none}
use Rattle.hierarchy.proofs.PlaceLaws.{method_by_place, is_method_at}
use Rattle.hierarchy.proofs.sought.Sought.method_in.Goals as goal

pub returns-in-None-clause-found : goal.returns-in-None-clause-found
returns-in-None-clause-found c =
    let files = c.args.self.now.files in
    let absent : place_of files c.args.class.now ≡ None = sym (c.in-None.ensures.place ∙ ap (λ s. place_of s.files c.args.class.now) c.self.view_is) in
    sym (method_of_none files (wants c.args.wanted) c.args.self.now.member c.args.class.now (no_class files c.args.class.now absent))

pub returns-in-Some : goal.returns-in-Some
returns-in-Some c =
    let files = c.args.self.now.files in
    let m = c.args.self.now.member in
    let place = c.in-Some.place in
    let stood : place_of files c.args.class.now ≡ Some place = sym (c.in-Some.ensures.place ∙ ap (λ s. place_of s.files c.args.class.now) c.self.view_is) in
    record {
      found = ap (option_map (member_in files m)) c.method_at.ensures ∙ method_by_place files m (wants c.args.wanted) c.args.class.now place stood;
      place = subst (λ o. IfSome o (IsMethodAt files m)) (sym c.method_at.ensures) (is_method_at files m (wants c.args.wanted) place);
    }
