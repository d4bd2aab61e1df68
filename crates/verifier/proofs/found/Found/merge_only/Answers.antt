use Rattle.std.proofs.Common.{refl}
use Rattle.model.specs.InstructionStarts.{starts}
use Rattle.run_laws.proofs.typing_search.Linking.{ordered_from}
use Rattle.types.specs.method_code.View.{files_of, body_of}
use Rattle.verifier.proofs.Entries.{start_within}
use Rattle.verifier.proofs.Puts.{first_put}
use Rattle.verifier.proofs.found.Found.merge_only.Goals as goal

pub put-requires-clause-typed : goal.put-requires-clause-typed
put-requires-clause-typed c =
    let m = c.args.method.now in
    let first = c.is_first.ensures c.if-is_first.true in
    (start_within (files_of m) (body_of m) c.args.self.now (starts (body_of m).code.code) c.args.edge.to _ refl c.requires.over refl first.start).0

pub put-requires-clause-waiting : goal.put-requires-clause-waiting
put-requires-clause-waiting c =
    let m = c.args.method.now in
    let first = c.is_first.ensures c.if-is_first.true in
    (start_within (files_of m) (body_of m) c.args.self.now (starts (body_of m).code.code) c.args.edge.to _ refl c.requires.over refl first.start).1

pub returns-then-is_first-clause-merged : goal.returns-then-is_first-clause-merged
returns-then-is_first-clause-merged c =
    let m = c.args.method.now in
    let first = c.is_first.ensures c.if-is_first.true in
    (first_put m (ordered_from (files_of m) c.requires.linked.1.no_refusal) c.args.self.now c.put.new.self c.requires.over c.args.edge.to c.args.frame c.put.ensures.waiting first.none first.start first.size c.put.ensures.types c.put.ensures.looks).0

pub returns-then-is_first-clause-looks : goal.returns-then-is_first-clause-looks
returns-then-is_first-clause-looks c =
    let m = c.args.method.now in
    let first = c.is_first.ensures c.if-is_first.true in
    (first_put m (ordered_from (files_of m) c.requires.linked.1.no_refusal) c.args.self.now c.put.new.self c.requires.over c.args.edge.to c.args.frame c.put.ensures.waiting first.none first.start first.size c.put.ensures.types c.put.ensures.looks).1
