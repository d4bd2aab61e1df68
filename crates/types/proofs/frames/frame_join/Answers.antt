use Rattle.std.proofs.Common.{◌∙◌, refl, sym, ap, map, Some, None, ◌&&◌}
use Rattle.std.specs.Prelude.{option_map}
use Rattle.types.specs.View.{type_in}
use Rattle.types.proofs.FrameTypes.{joined_by}
use Rattle.types.proofs.frames.frame_join.Goals as goal

pub returns-in_default-2 : goal.returns-in_default-2
returns-in_default-2 c =
    let files = c.args.set.now in
    let a = c.args.a.now in
    let b = c.args.b.now in
    let locals = sym (ap (λ o. option_map (λ v. map (type_in files) v.items) o) c.in-Some.is) ∙ c.in_ok-locals.ensures in
    let stack = sym (ap (λ o. option_map (λ v. map (type_in files) v.items) o) c.in_default-2.is) ∙ c.in_ok-stack.ensures in
    joined_by files a b (Some (map (type_in files) c.in-Some.locals.items)) None (a.constructed && b.constructed) _ _ _ _ c.deref.ensures.value c.deref-2.ensures.value c.deref-3.ensures.value c.deref-4.ensures.value locals stack refl

pub returns : goal.returns
returns c =
    let files = c.args.set.now in
    let a = c.args.a.now in
    let b = c.args.b.now in
    let locals = sym (ap (λ o. option_map (λ v. map (type_in files) v.items) o) c.in-Some.is) ∙ c.in_ok-locals.ensures in
    let stack = sym (ap (λ o. option_map (λ v. map (type_in files) v.items) o) c.in-Some-2.is) ∙ c.in_ok-stack.ensures in
    joined_by files a b (Some (map (type_in files) c.in-Some.locals.items)) (Some (map (type_in files) c.in-Some-2.stack.items)) c.are_constructed.result _ _ _ _ c.deref.ensures.value c.deref-2.ensures.value c.deref-3.ensures.value c.deref-4.ensures.value locals stack c.are_constructed.ensures
