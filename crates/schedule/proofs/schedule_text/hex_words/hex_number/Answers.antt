use Rattle.std.proofs.Common.{◌∙◌, ap, Some, sym}
use Rattle.byteorder.specs.Endian.{big_number}
use Rattle.schedule.proofs.schedule_text.HexLaws.{is_read, reads_back}
use Rattle.schedule.proofs.schedule_text.LimitLaws.{differ}
use Rattle.schedule.specs.schedule_text.Text.{hex_word}
use Rattle.schedule.proofs.schedule_text.hex_words.hex_number.Goals as goal

pub returns-in-Err-clause-only : goal.returns-in-Err-clause-only
returns-in-Err-clause-only c = λ n small is.
    let read = is_read c.args.word.now n _ _ is c.decode_to_slice.ensures.value in
    let bad = sym c.in-Err.is ∙ read.0 in cc

pub returns-then-eq-clause-only : goal.returns-then-eq-clause-only
returns-then-eq-clause-only c = λ n small is.
    let read = is_read c.args.word.now n _ _ is c.decode_to_slice.ensures.value in
    ap Some (c.read_u64-number.ensures ∙ ap (big_number 8) read.1 ∙ reads_back n small)

pub returns-else-eq-clause-only : goal.returns-else-eq-clause-only
returns-else-eq-clause-only c = λ n small is.
    let read = is_read c.args.word.now n _ _ is c.decode_to_slice.ensures.value in
    let number = c.read_u64-number.ensures ∙ ap (big_number 8) read.1 ∙ reads_back n small in
    absurd (differ c.as_slice.result.now c.args.word.now (sym c.eq.ensures ∙ c.if-eq.false) (c.as_slice.ensures ∙ c.hex_word.ensures ∙ ap hex_word number ∙ sym is))
