use Rattle.std.proofs.Common.{◌≡◌, List, Bool, ◌++◌, ◌-◌, [], map, length, reverse, not, sym, ap, ◌∙◌}
use Rattle.std.specs.Prelude.{replicate}
use Rattle.std.proofs.lemmas.List.{length-map}
use Rattle.model.specs.Types.{VerificationType, Unusable}
use Rattle.model.specs.TypeOrder.{FrameType}
use Rattle.model.specs.Typing.{argument_types}
use Rattle.types.specs.declared.verification_type.VerificationType.TheVariants as type
use Rattle.types.specs.View.{type_in}
use Rattle.types.specs.method_code.View.{files_of, member_of, body_of}
use Rattle.verifier.proofs.flow.Filling.{map_filled}
use Rattle.verifier.proofs.flow.entry.entry_frame.Goals as goal

abbrev frame : List VerificationType → List VerificationType → Bool → FrameType
frame locals stack constructed = record { slots = record { locals = locals; stack = stack }; constructed = constructed }

pub returns : goal.returns
returns c =
    let m = c.args.method.now in
    let f = type_in (files_of m) in
    let given = c.in_ok-locals.locals.items in
    let wanted = argument_types (files_of m) (member_of m) in
    let same : map f given ≡ wanted = c.in_ok-locals.ensures in
    let count : length given ≡ length wanted = sym (length-map given f) ∙ ap length same in
    let most : c.code.result.now.max_locals ≡ (body_of m).code.max_locals = ap (λ code. code.max_locals) c.code.ensures in
    let locals : map f c.fill_up.new.locals.items ≡ wanted ++ replicate ((body_of m).code.max_locals - length wanted) Unusable =
    ap (map f) c.in_ok-fill_up.ensures ∙ map_filled f type.Unusable given (c.code.result.now.max_locals - length given)
    ∙ ap (λ l. l ++ replicate (c.code.result.now.max_locals - length given) Unusable) same
    ∙ ap (λ n. wanted ++ replicate (c.code.result.now.max_locals - n) Unusable) count
    ∙ ap (λ n. wanted ++ replicate (n - length wanted) Unusable) most in
    ap (λ l. frame l (reverse (map f c.new.result.items)) (not c.is_constructor.result)) locals
    ∙ ap (λ s. frame (wanted ++ replicate ((body_of m).code.max_locals - length wanted) Unusable) (reverse (map f s)) (not c.is_constructor.result)) c.new.ensures.items
    ∙ ap (λ b. frame (wanted ++ replicate ((body_of m).code.max_locals - length wanted) Unusable) [] (not b)) c.is_constructor.ensures
