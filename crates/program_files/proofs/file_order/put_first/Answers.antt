use Rattle.std.proofs.Common.{◌∙◌, ◌∷◌, ap}
use Rattle.program_files.proofs.HandedLemmas.{put_first}
use Rattle.program_files.proofs.file_order.put_first.Goals as goal

pub returns : goal.returns
returns c =
    put_first c.args.files.items c.args.place c.remove-first.result c.insert.new.self.items c.requires c.remove-first.ensures.value
    (c.in_ok-insert.ensures.items ∙ ap (λ rest. c.remove-first.result ∷ rest) c.remove-first.ensures.items)
