use Rattle.std.proofs.Common.{arith}
use Rattle.std.proofs.lemmas.Result.{err_from_is_err_and}
use Rattle.std.specs.Option.{option_map}
use Rattle.schedule.specs.Reading.{numbers_of}
use Rattle.schedule.proofs.Whole.{schedule_takes, entries_of, found_of, only_of, only_memory, refused_of}
use Rattle.schedule.proofs.read.read_schedule.Goals as goal

pub of_entries-requires : goal.of_entries-requires
of_entries-requires c = (schedule_takes c.args.bytes.now c.in_ok-entries.entries.items (option_map numbers_of c.in_ok-entries.recorded) (λ i. omega (arith, c.type_inv.bytes i)) c.in_ok-entries.ensures).fits

pub returns-clause-found : goal.returns-clause-found
returns-clause-found c = rw c.of_entries.ensures (found_of c.args.bytes.now c.in_ok-entries.entries.items c.in_ok-entries.recorded (λ i. omega (arith, c.type_inv.bytes i)) c.in_ok-entries.ensures)

pub returns-clause-entries : goal.returns-clause-entries
returns-clause-entries c = rw c.of_entries.ensures (entries_of c.args.bytes.now c.in_ok-entries.entries.items c.in_ok-entries.recorded (λ i. omega (arith, c.type_inv.bytes i)) c.in_ok-entries.ensures)

pub returns-clause-only : goal.returns-clause-only
returns-clause-only c = rw c.of_entries.ensures (only_of c.args.bytes.now c.in_ok-entries.entries.items c.in_ok-entries.recorded c.in_ok-entries.ensures)

pub returns-in_err-entries-clause-only : goal.returns-in_err-entries-clause-only
returns-in_err-entries-clause-only c =
    let p = err_from_is_err_and c.from_residual.result c.from_residual.ensures.1 in
    rw (p.1, p.2) (only_memory c.args.bytes.now c.in_err-entries.field-0.0 c.in_err-entries.ensures)

pub returns-in_err-entries-clause-refused : goal.returns-in_err-entries-clause-refused
returns-in_err-entries-clause-refused c =
    let p = err_from_is_err_and c.from_residual.result c.from_residual.ensures.1 in
    rw (p.1, p.2) (refused_of c.args.bytes.now c.in_err-entries.field-0.0 (λ i. omega (arith, c.type_inv.bytes i)) c.in_err-entries.ensures)
