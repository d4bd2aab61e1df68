use Rattle.traces.specs.declared.members.DeedMembers.{DeedMembers}
use Rattle.traces.proofs.MemberTexts.{some_told}
use Rattle.traces.proofs.line.push_members.Goals as goal

pub returns : goal.returns
returns c =
    let told : DeedMembers =
    record {
      op = c.as_bytes.result;
      monitor = c.unwrap_or.result;
      count = c.match-monitor_of.monitor.1;
      printed = c.printed_since.result;
      started = c.match-started_by.object.1;
      object = c.unwrap_or-2.result;
    } in
    some_told _ c.args.form told _ _ c.in-Json.is c.push_deed_members.ensures
