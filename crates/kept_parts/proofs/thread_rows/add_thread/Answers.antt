use Rattle.kept_parts.proofs.Fields.{thread_added}
use Rattle.kept_parts.proofs.thread_rows.add_thread.Goals as goal

pub returns-in-Ok : goal.returns-in-Ok
returns-in-Ok c =
    thread_added c.args.threads.now c.add.new.self c.set_fields.new.threads c.len-thread.result c.args.fields.object c.args.fields
    c.len-thread.ensures.length c.in-Ok.ensures.1 c.set_fields.ensures
