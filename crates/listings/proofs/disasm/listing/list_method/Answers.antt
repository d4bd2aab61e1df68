use Rattle.std.proofs.Common.{◌≡◌, map, sym, Some}
use Rattle.std.proofs.lemmas.Result.{err_from_is_err_and}
use Rattle.model.specs.Report.{line}
use Rattle.std.proofs.Common.{◌++◌}
use Rattle.model.specs.Classes.{code_in}
use Rattle.model.specs.Listing.{method_head, sizes, code_lines}
use Rattle.classfile.specs.View.{code_of, method_of, method_part_of}
use Rattle.listings.proofs.disasm.Writing.{first_fails, then_writes}
use Rattle.listings.proofs.disasm.listing.list_method.Goals as goal

pub returns-in_err-write_line-clause-written : goal.returns-in_err-write_line-clause-written
returns-in_err-write_line-clause-written g c =
    let p = err_from_is_err_and c.from_residual.result c.from_residual.ensures.1 in
    let contents = g.W.Sink.contents in
    let pool = c.args.file.now.pool in
    let code = code_of c.in-Some.code.now in
    let head = line (method_head pool (method_of c.args.method.now) ++ sizes code) in
    let found : code_in (map method_part_of c.args.method.now.attributes.items) ≡ Some code = sym c.in-Some.ensures in
    rw (p.1, found) (first_fails (contents c.args.writer.now) (contents c.write_line-2.new.writer) head (code_lines pool code) (c.in_err-write_line.ensures.written head c.method_line.ensures))

pub returns-clause-written : goal.returns-clause-written
returns-clause-written g c =
    let contents = g.W.Sink.contents in
    let pool = c.args.file.now.pool in
    let code = code_of c.in-Some.code.now in
    let head = line (method_head pool (method_of c.args.method.now) ++ sizes code) in
    let found : code_in (map method_part_of c.args.method.now.attributes.items) ≡ Some code = sym c.in-Some.ensures in
    rw found (then_writes c.list_code.result (contents c.args.writer.now) (contents c.write_line-2.new.writer) (contents c.list_code.new.writer) head (code_lines pool code) (c.in_ok-write_line.ensures.written head c.method_line.ensures) c.list_code.ensures.written)
