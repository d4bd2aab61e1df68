use Rattle.std.proofs.Common.{[], ◌∷◌, map, ◌∙◌, sym, ap}
use Rattle.model.specs.DescribedTypes.{returned_type, verification_type}
use Rattle.constant_pool.specs.descriptors.View.{field_of}
use Rattle.types.proofs.described_types.Parameters.{none_of, some_of, all_types, any_missing, parameter_missing, void_found, result_found}
use Rattle.types.proofs.described_types.described.types_of.Goals as goal

pub returns-in_default-clause-parameters : goal.returns-in_default-clause-parameters
returns-in_default-clause-parameters c =
    let files = c.args.set.now in
    let m = c.args.method.now in
    parameter_missing files m.parameters m.returns (sym (any_missing files c.parameters.result.now m.parameters c.parameters.ensures) ∙ none_of _ _ _ _ c.in_ok-found.ensures c.in_default.is)

pub returns-in_default-clause-returns : goal.returns-in_default-clause-returns
returns-in_default-clause-returns c =
    let files = c.args.set.now in
    let m = c.args.method.now in
    parameter_missing files m.parameters m.returns (sym (any_missing files c.parameters.result.now m.parameters c.parameters.ensures) ∙ none_of _ _ _ _ c.in_ok-found.ensures c.in_default.is)

pub returns-in_default-returns-clause-parameters : goal.returns-in_default-returns-clause-parameters
returns-in_default-returns-clause-parameters c =
    let files = c.args.set.now in
    let m = c.args.method.now in
    let found = some_of _ _ _ _ c.in-Some.parameters c.in_ok-found.ensures c.in-Some.is in
    (found.0 ∙ all_types files c.parameters.result.now m.parameters c.parameters.ensures, void_found files m.parameters m.returns (sym (any_missing files c.parameters.result.now m.parameters c.parameters.ensures) ∙ found.1) c.in_default-returns.ensures)

pub returns-in_default-returns-clause-returns : goal.returns-in_default-returns-clause-returns
returns-in_default-returns-clause-returns c =
    let files = c.args.set.now in
    let m = c.args.method.now in
    let found = some_of _ _ _ _ c.in-Some.parameters c.in_ok-found.ensures c.in-Some.is in
    (ap (λ r. map (verification_type files) (returned_type r)) c.in_default-returns.ensures, void_found files m.parameters m.returns (sym (any_missing files c.parameters.result.now m.parameters c.parameters.ensures) ∙ found.1) c.in_default-returns.ensures)

pub returns-clause-parameters : goal.returns-clause-parameters
returns-clause-parameters c =
    let files = c.args.set.now in
    let m = c.args.method.now in
    let found = some_of _ _ _ _ c.in-Some.parameters c.in_ok-found.ensures c.in-Some.is in
    (found.0 ∙ all_types files c.parameters.result.now m.parameters c.parameters.ensures, result_found files m.parameters m.returns (field_of c.in-Some-returns.field) (sym (any_missing files c.parameters.result.now m.parameters c.parameters.ensures) ∙ found.1) c.in-Some-returns.ensures (c.in-Some-declared_type.ensures.value).1)

pub returns-clause-returns : goal.returns-clause-returns
returns-clause-returns c =
    let files = c.args.set.now in
    let m = c.args.method.now in
    let found = some_of _ _ _ _ c.in-Some.parameters c.in_ok-found.ensures c.in-Some.is in
    (ap (λ t. t ∷ []) (c.in-Some-declared_type.ensures.value).0 ∙ ap (λ r. map (verification_type files) (returned_type r)) c.in-Some-returns.ensures, result_found files m.parameters m.returns (field_of c.in-Some-returns.field) (sym (any_missing files c.parameters.result.now m.parameters c.parameters.ensures) ∙ found.1) c.in-Some-returns.ensures (c.in-Some-declared_type.ensures.value).1)
