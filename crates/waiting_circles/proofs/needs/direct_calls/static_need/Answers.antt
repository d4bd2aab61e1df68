use Rattle.waiting_circles.proofs.needs.Directs.{static_needs}
use Rattle.waiting_circles.proofs.needs.direct_calls.static_need.Goals as goal

pub returns : goal.returns
returns c = λ parameters class shared trees bounds inflated t state frame rest code site meaning is.
    static_needs trees c.args.program.now bounds inflated t shared c.args.stack.now state frame rest code site meaning parameters c.args.method c.args.frames class is
    c.class_object-object.result c.class_object-object.ensures c.call_need.result c.call_need.ensures
