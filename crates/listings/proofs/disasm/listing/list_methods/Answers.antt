use Rattle.std.proofs.Common.{◌∙◌}
use Rattle.std.proofs.lemmas.Result.{err_from_is_err_and}
use Rattle.class_tree.specs.declared.tree.Method.{Method}
use Rattle.model.specs.Listing.{method_lines}
use Rattle.classfile.specs.View.{method_of}
use Rattle.listings.proofs.disasm.Writing.{element_fails, element_written}
use Rattle.listings.proofs.disasm.listing.list_methods.Goals as goal

pub returns-in_err-list_method-clause-written : goal.returns-in_err-list_method-clause-written
returns-in_err-list_method-clause-written g c =
    let p = err_from_is_err_and c.from_residual.result c.from_residual.ensures.1 in
    let contents = g.W.Sink.contents in
    let said = λ (x : Method). method_lines c.args.file.now.pool (method_of x) in
    let x = c.method-item.result in
    rw p.1 (element_fails said c.args.methods.now c.methods.method-index x x (contents c.args.writer.now) (contents c.methods.writer) (contents c.list_method.new.writer)
    c.methods-test.true c.method-item.is c.methods.invariant.so_far (c.in_err-list_method.ensures.written))

pub methods-preserved : goal.methods-preserved
methods-preserved g c =
    let contents = g.W.Sink.contents in
    let said = λ (x : Method). method_lines c.args.file.now.pool (method_of x) in
    let x = c.method-item.result in
    record {
      so_far = element_written said c.args.methods.now c.methods.method-index x x (contents c.args.writer.now) (contents c.methods.writer) (contents c.list_method.new.writer)
          c.methods-test.true c.method-item.is c.methods.invariant.so_far (c.in_ok-list_method.ensures.written);
      failures = c.in_ok-list_method.ensures.counted ∙ c.methods.invariant.failures;
    }
