use Rattle.kept_states.proofs.Written.{before_stays, globals_written, if_ok}
use Rattle.kept_states.proofs.globals.globals_number.Goals as goal

pub row_number-requires : goal.row_number-requires
row_number-requires c = before_stays c.args.parts.now c.numbers_of.new.parts c.args.before c.in_ok-numbers.ensures.grows c.requires

pub returns : goal.returns
returns c =
    if_ok c.row_number.result _ _
    (λ number written. globals_written c.args.shared.now c.in_ok-numbers.numbers number c.args.parts.now c.numbers_of.new.parts c.row_number.new.parts c.in_ok-numbers.ensures written)
    c.row_number.ensures
