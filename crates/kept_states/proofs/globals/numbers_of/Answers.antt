use Rattle.kept_states.proofs.Written.{before_stays}
use Rattle.kept_states.proofs.globals.numbers_of.Goals as goal

pub statuses_number-requires : goal.statuses_number-requires
statuses_number-requires c = before_stays c.args.parts.now c.statics_number.new.parts c.args.before c.in_ok-statics.ensures.grows c.requires

pub ready_number-requires : goal.ready_number-requires
ready_number-requires c =
    before_stays c.statics_number.new.parts c.statuses_number.new.parts c.args.before c.in_ok-statuses.ensures.grows
    (before_stays c.args.parts.now c.statics_number.new.parts c.args.before c.in_ok-statics.ensures.grows c.requires)

pub printed_number-requires : goal.printed_number-requires
printed_number-requires c =
    before_stays c.statuses_number.new.parts c.ready_number.new.parts c.args.before c.in_ok-ready.ensures.grows
    (before_stays c.statics_number.new.parts c.statuses_number.new.parts c.args.before c.in_ok-statuses.ensures.grows
    (before_stays c.args.parts.now c.statics_number.new.parts c.args.before c.in_ok-statics.ensures.grows c.requires))

pub interned_number-requires : goal.interned_number-requires
interned_number-requires c =
    before_stays c.ready_number.new.parts c.printed_number.new.parts c.args.before c.in_ok-printed.ensures.grows
    (before_stays c.statuses_number.new.parts c.ready_number.new.parts c.args.before c.in_ok-ready.ensures.grows
    (before_stays c.statics_number.new.parts c.statuses_number.new.parts c.args.before c.in_ok-statuses.ensures.grows
    (before_stays c.args.parts.now c.statics_number.new.parts c.args.before c.in_ok-statics.ensures.grows c.requires)))
