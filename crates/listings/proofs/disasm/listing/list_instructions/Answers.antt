use Rattle.std.proofs.Common.{◌≡◌, ◌∙◌, length, List, [], Bool, false, ap, subst}
use Rattle.std.specs.Prelude.{if◌then◌else◌, slice_index_or}
use Rattle.std.specs.Io.KnownBytes.{Appends}
use Rattle.std.proofs.lemmas.Result.{err_from_is_err_and}
use Rattle.model.specs.Devices.{AppendsFront}
use Rattle.model.specs.Listing.{instruction_line, lines_at}
use Rattle.model.specs.InstructionStarts.{is_start}
use Rattle.listings.proofs.disasm.Writing.{number_fails, number_written}
use Rattle.listings.proofs.disasm.listing.list_instructions.Goals as goal

pub returns-in_err-list_at-clause-written : goal.returns-in_err-list_at-clause-written
returns-in_err-list_at-clause-written g c =
    let p = err_from_is_err_and c.from_residual-in_err-list_at.result c.from_residual-in_err-list_at.ensures.1 in
    let contents = g.W.Sink.contents in
    let pool = c.args.file.now.pool in
    let code = c.args.code.now in
    let pc = c.offsets.pc in
    let begins : c.is_marked.result ≡ is_start code pc = c.is_marked.ensures ∙ ap (λ (l : List Bool). slice_index_or l pc false) (c.deref.ensures.value ∙ c.in_ok-starts.ensures.marks) in
    let here : AppendsFront (contents c.offsets.writer) (contents c.list_at.new.writer) (lines_at pool code pc) =
    subst (λ (b : Bool). AppendsFront (contents c.offsets.writer) (contents c.list_at.new.writer) (if b then instruction_line pool code pc else [])) begins c.in_err-list_at.ensures.written in
    rw p.1 (number_fails (lines_at pool code) (length code) pc (contents c.args.writer.now) (contents c.offsets.writer) (contents c.list_at.new.writer) c.offsets-test.true c.offsets.invariant.so_far here)

pub offsets-preserved : goal.offsets-preserved
offsets-preserved g c =
    let contents = g.W.Sink.contents in
    let pool = c.args.file.now.pool in
    let code = c.args.code.now in
    let pc = c.offsets.pc in
    let begins : c.is_marked.result ≡ is_start code pc = c.is_marked.ensures ∙ ap (λ (l : List Bool). slice_index_or l pc false) (c.deref.ensures.value ∙ c.in_ok-starts.ensures.marks) in
    let here : Appends (contents c.offsets.writer) (contents c.list_at.new.writer) (lines_at pool code pc) =
    subst (λ (b : Bool). Appends (contents c.offsets.writer) (contents c.list_at.new.writer) (if b then instruction_line pool code pc else [])) begins c.in_ok-list_at.ensures.written in
    record {
      so_far = number_written (lines_at pool code) pc (contents c.args.writer.now) (contents c.offsets.writer) (contents c.list_at.new.writer) c.offsets.invariant.so_far here;
      failures = c.in_ok-list_at.ensures.counted ∙ c.offsets.invariant.failures;
    }
