use Rattle.std.proofs.Common.{◌≡◌, ◌∙◌, length, ap, map, arith}
use Rattle.model.specs.InitialisedTypes.{forgotten}
use Rattle.types.specs.View.{type_in}
use Rattle.instruction_types.proofs.Leading.{written_over}
use Rattle.verifier.proofs.flow_effects.lead.forget_all.Goals as goal

pub returns : goal.returns
returns c =
    let same : length c.forget.new.types ≡ c.args.types.now.len = omega arith in
    λ files. ap (map (type_in files)) (written_over c.args.types.now.len c.args.types.now.items c.forget.new.types same) ∙ c.forget.ensures files ∙ ap (λ l. map (forgotten c.args.offset) (map (type_in files) l)) c.deref_mut.ensures.value
