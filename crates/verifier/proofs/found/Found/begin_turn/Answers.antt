use Rattle.verifier.proofs.Looked.{adds_none_twice, taken_adds_none, known_before}
use Rattle.verifier.proofs.found.Found.begin_turn.Goals as goal

pub returns-clause-looks : goal.returns-clause-looks
returns-clause-looks c =
    adds_none_twice c.args.self.now.looks.items c.count_turn.new.self.looks.items c.take_look-look.new.self.looks.items c.in_ok-count_turn.ensures.looks
    (taken_adds_none c.args.offset c.count_turn.new.self.looks.items c.take_look-look.new.self.looks.items c.take_look-look.ensures.looks)

pub returns-clause-look : goal.returns-clause-look
returns-clause-look c =
    known_before c.args.offset c.args.self.now.looks.items c.count_turn.new.self.looks.items c.take_look-look.result c.in_ok-count_turn.ensures.looks c.take_look-look.ensures.look
