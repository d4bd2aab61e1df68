use Rattle.std.proofs.Common.{refl}
use Rattle.library_files.proofs.Needing.{on_ok, adds_described}
use Rattle.library_files.proofs.needed_texts.NeededTexts.need_descriptor.Goals as goal

pub returns : goal.returns
returns c =
    on_ok c.mark.result
    (λ marked pool. adds_described pool c.args.self.now (record { names = c.args.self.now.names; descriptors = c.mark.new.marks }) c.args.index refl c.mark.ensures.kept marked c.mark.ensures.only)
    c.mark.ensures.marked
