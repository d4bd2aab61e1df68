use Rattle.std.proofs.Common.{◌≡◌, ◌++◌, ◌∷◌, [], cond, map, sym, ap, ◌∙◌}
use Rattle.model.specs.Typing.{receiver_type, parameter_types}
use Rattle.types.specs.View.{type_in}
use Rattle.types.specs.method_code.View.{files_of, member_of}
use Rattle.verifier.proofs.flow.entry.argument_types.Goals as goal

pub returns : goal.returns
returns c =
    let files = files_of c.args.method.now in
    let member = member_of c.args.method.now in
    let r = c.receiver_type.result in
    let ps = c.in_ok-parameters.parameters.items in
    let items : c.append.new.self.items ≡ r ∷ ps = c.in_ok-append.ensures.items ∙ ap (λ l. l ++ ps) (c.in_ok-push.ensures.items ∙ ap (λ l. l ++ r ∷ []) c.in_ok-arguments.ensures.items) in
    ap (map (type_in files)) items
    ∙ ap (λ t. t ∷ map (type_in files) ps) c.receiver_type.ensures
    ∙ ap (λ l. receiver_type member ∷ l) c.in_ok-parameters.ensures
    ∙ sym (ap (λ b. cond b (parameter_types files member) (receiver_type member ∷ parameter_types files member)) (sym c.has_no_receiver.ensures ∙ c.if-has_no_receiver.false))
