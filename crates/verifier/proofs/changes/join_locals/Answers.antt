use Rattle.std.proofs.Common.{◌≡◌, ◌∙◌, get_or, ap, subst}
use Rattle.std.specs.Prelude.{slice_index_or}
use Rattle.model.specs.TypeJoin.{local_join}
use Rattle.types.specs.View.{type_in}
use Rattle.types.specs.declared.verification_type.VerificationType.TheVariants as type
use Rattle.types.specs.method_code.View.{files_of}
use Rattle.run_laws.proofs.typing_search.Linking.{ordered_from}
use Rattle.verifier.proofs.Joining.{joined_more}
use Rattle.verifier.proofs.Linked.{has_superclasses}
use Rattle.verifier.proofs.changes.join_locals.Goals as goal

pub local_join-t-requires : goal.local_join-t-requires
local_join-t-requires c = has_superclasses (files_of c.args.method.now) _ c.set.ensures c.requires.1.no_refusal

pub locals-preserved : goal.locals-preserved
locals-preserved c =
    let files = files_of c.args.method.now in
    let join = subst (λ set. type_in set c.local_join-t.result ≡ local_join set (type_in set c.local_at.result) (type_in set c.local_at-in-locals.result)) c.set.ensures c.local_join-t.ensures in
    let is =
    join
    ∙ (ap (λ t. local_join files (type_in files t) (type_in files c.local_at-in-locals.result)) c.local_at.ensures
    ∙ ap (λ t. local_join files (type_in files (slice_index_or c.locals.there.locals (get_or c.args.locals.now c.locals.local-index 0) type.Unusable)) (type_in files t)) c.local_at-in-locals.ensures) in
    joined_more files (ordered_from files c.requires.1.no_refusal).rooted c.args.locals.now c.locals.local-index 0 c.locals-test.true c.args.there.now c.args.frame.now c.locals.there
    c.set_local.new.self c.locals.invariant c.local_join-t.result is c.in_ok-set_local.ensures.locals c.in_ok-set_local.ensures.stack c.in_ok-set_local.ensures.constructed
