use Rattle.kept_parts.proofs.Fields.{fields_set}
use Rattle.kept_parts.proofs.thread_rows.set_fields.Goals as goal

pub returns : goal.returns
returns c =
    fields_set c.args.threads.now c.set_begun.new.self c.set_pending.new.self c.set_interrupted.new.self c.set_status.new.self c.args.thread c.args.fields
    c.requires.there c.requires.object c.set_begun.ensures c.set_pending.ensures c.set_interrupted.ensures c.set_status.ensures
