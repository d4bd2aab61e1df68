use Rattle.traces.proofs.MethodPlaces.{frame_told}
use Rattle.traces.proofs.places.push_place.Goals as goal

pub returns-in-Some : goal.returns-in-Some
returns-in-Some c =
    frame_told c.args.form c.args.names.now.linked.now c.in-Some.frame c.args.before.now.frame c.args.before.now.class c.in-Some.is c.args.text.now.items c.push_frame.new.text.items c.push_frame.result c.push_frame.ensures
