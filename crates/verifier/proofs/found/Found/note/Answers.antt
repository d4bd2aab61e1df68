use Rattle.verifier.proofs.Looked.{notes_more}
use Rattle.verifier.proofs.found.Found.note.Goals as goal

pub returns-clause-looks : goal.returns-clause-looks
returns-clause-looks c =
    notes_more c.args.offset c.args.changed.now c.args.self.now.looks.items c.take_look.new.self.looks.items c.set_look.new.self.looks.items c.in-Some.look
    c.in_ok-after.after c.in-Some.ensures.look c.take_look.ensures.looks c.set_look.ensures.looks c.in_ok-after.ensures.targets c.in_ok-after.ensures.changed
