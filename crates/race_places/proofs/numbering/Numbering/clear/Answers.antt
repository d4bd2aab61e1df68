use Rattle.race_places.proofs.numbering.Steps.{clear_numbered}
use Rattle.race_places.proofs.numbering.Numbering.clear.Goals as goal

pub returns : goal.returns
returns c =
    clear_numbered c.args.thread c.args.self.now c.place_of.new.self c.place_of-2.new.self c.in_ok-taken.taken c.in_ok-left.left c.in_ok-taken.ensures
    c.in_ok-left.ensures
