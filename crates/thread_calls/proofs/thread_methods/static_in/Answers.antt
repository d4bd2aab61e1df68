use Rattle.std.proofs.Common.{None, refl}
use Rattle.thread_calls.proofs.thread_methods.Calls.{static_missing, static_found}
use Rattle.thread_calls.proofs.thread_methods.static_in.Goals as goal

pub returns-in-Some : goal.returns-in-Some
returns-in-Some c file there named at =
    static_found c.args.tables.now.linked.now c.args.program.now named c.own_method.result c.in-Some.callee
    (c.in-Some.ensures.method c.args.tables.now.linked.now c.args.tables.now.are_named file there named at) c.own_method.ensures

pub returns-in-None : goal.returns-in-None
returns-in-None c file there named at =
    static_missing c.args.tables.now.linked.now c.args.program.now named None
    (c.in-None.ensures.method c.args.tables.now.linked.now c.args.tables.now.are_named file there named at) refl
