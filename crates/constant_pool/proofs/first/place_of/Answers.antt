use Rattle.std.proofs.Common.{◌∙◌, sym}
use Rattle.constant_pool.proofs.TextLaws.{is_known, is_new}
use Rattle.constant_pool.proofs.first.place_of.Goals as goal

pub returns-in-Some : goal.returns-in-Some
returns-in-Some c = λ all lt at has. is_known all c.args.here c.args.seen.now c.args.text.now c.in-Some.place lt at has (sym c.in-Some.is ∙ c.copied.ensures ∙ c.get.ensures.value)

pub returns-in_ok-insert-in-None : goal.returns-in_ok-insert-in-None
returns-in_ok-insert-in-None c = λ all lt at has.
    is_new all c.args.here c.args.seen.now c.insert.new.self c.args.text.now lt at has (sym c.in-None.is ∙ c.copied.ensures ∙ c.get.ensures.value) c.in_ok-insert-in-None.ensures.updates
