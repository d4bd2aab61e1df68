use Rattle.std.proofs.Common.{sym, ◌∙◌}
use Rattle.place_texts.proofs.Spelled.{of_one}
use Rattle.place_texts.proofs.read.entry.Goals as goal

pub returns : goal.returns
returns c = (
  of_one c.args.word.now c.in-Ok.read.1 c.in-Ok.read.0 c.entry.result c.in-Ok.ensures.found (sym c.is_some.ensures ∙ c.if-is_some.false)
      (sym c.len.ensures.count ∙ c.if-len-ne1.false) c.entry.ensures.is,
  c.entry.ensures.fits,
)
