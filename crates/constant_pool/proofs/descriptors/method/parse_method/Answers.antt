use Rattle.std.proofs.lemmas.Result.{IfOk-weaker}
use Rattle.constant_pool.proofs.descriptors.MethodLaws.{found_method, only_method}
use Rattle.constant_pool.proofs.descriptors.method.parse_method.Goals as goal

pub returns-clause-found : goal.returns-clause-found
returns-clause-found c = IfOk-weaker c.parsed.result _ _ (λ found read. found_method c.args.text.now found read) c.parsed.ensures

pub returns-clause-only : goal.returns-clause-only
returns-clause-only c = λ m is. IfOk-weaker c.parsed.result _ _ (λ found read. only_method c.args.text.now found read m is) c.parsed.ensures
