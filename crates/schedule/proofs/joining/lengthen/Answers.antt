use Rattle.std.proofs.Common.{◌∙◌, ◌<◌, ap, arith, length, subst, sym}
use Rattle.schedule.specs.Joined.{HasRoom}
use Rattle.schedule.proofs.JoinedEntries.{lengthened}
use Rattle.schedule.proofs.joining.lengthen.Goals as goal

pub returns-clause-events : goal.returns-clause-events
returns-clause-events c =
    let some : 0 < c.room.result = omega (arith, c.min-taken.ensures, c.if-taken-eq0.false) in
    let room = subst (λ l. HasRoom l c.args.event c.room.result) c.as_slice.ensures.value (c.room.ensures.some some) in
    let len = c.len-last.ensures ∙ sym c.as_slice.ensures.len ∙ ap length c.as_slice.ensures.value in
    (lengthened c.args.entries.now.items c.args.event c.room.result c.min-taken.result c.args.count c.len-last.result c.index.result.now c.requires room c.min-taken.ensures c.if-taken-eq0.false len c.index.ensures).events

pub returns-clause-runs : goal.returns-clause-runs
returns-clause-runs c =
    let some : 0 < c.room.result = omega (arith, c.min-taken.ensures, c.if-taken-eq0.false) in
    let room = subst (λ l. HasRoom l c.args.event c.room.result) c.as_slice.ensures.value (c.room.ensures.some some) in
    let len = c.len-last.ensures ∙ sym c.as_slice.ensures.len ∙ ap length c.as_slice.ensures.value in
    (lengthened c.args.entries.now.items c.args.event c.room.result c.min-taken.result c.args.count c.len-last.result c.index.result.now c.requires room c.min-taken.ensures c.if-taken-eq0.false len c.index.ensures).runs

pub returns-clause-apart : goal.returns-clause-apart
returns-clause-apart c =
    let some : 0 < c.room.result = omega (arith, c.min-taken.ensures, c.if-taken-eq0.false) in
    let room = subst (λ l. HasRoom l c.args.event c.room.result) c.as_slice.ensures.value (c.room.ensures.some some) in
    let len = c.len-last.ensures ∙ sym c.as_slice.ensures.len ∙ ap length c.as_slice.ensures.value in
    (lengthened c.args.entries.now.items c.args.event c.room.result c.min-taken.result c.args.count c.len-last.result c.index.result.now c.requires room c.min-taken.ensures c.if-taken-eq0.false len c.index.ensures).apart
