use Rattle.std.specs.List.{flat_map}
use Rattle.std.proofs.lemmas.Result.{err_from_is_err_and}
use Rattle.model.specs.Listing.{catch_line, instruction_lines}
use Rattle.listings.proofs.disasm.Writing.{first_fails, then_writes}
use Rattle.listings.proofs.disasm.listing.list_code.Goals as goal

pub returns-in_err-list_instructions-clause-written : goal.returns-in_err-list_instructions-clause-written
returns-in_err-list_instructions-clause-written g c =
    let p = err_from_is_err_and c.from_residual.result c.from_residual.ensures.1 in
    let contents = g.W.Sink.contents in
    let pool = c.args.file.now.pool in
    let first = rw c.deref.ensures.value at c.in_err-list_instructions.ensures.written in
    rw p.1 (first_fails (contents c.args.writer.now) (contents c.list_instructions.new.writer) (instruction_lines pool c.args.code.now.code.items) (flat_map (catch_line pool) c.args.code.now.exceptions.items) first)

pub returns-clause-written : goal.returns-clause-written
returns-clause-written g c =
    let contents = g.W.Sink.contents in
    let pool = c.args.file.now.pool in
    let first = rw c.deref.ensures.value at c.in_ok-list_instructions.ensures.written in
    let second = rw c.deref-2.ensures.value at c.list_handlers.ensures.written in
    then_writes c.list_handlers.result (contents c.args.writer.now) (contents c.list_instructions.new.writer) (contents c.list_handlers.new.writer) (instruction_lines pool c.args.code.now.code.items) (flat_map (catch_line pool) c.args.code.now.exceptions.items) first second
