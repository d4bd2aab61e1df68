use Rattle.constant_pool.specs.Texts.{kind_of}
use Rattle.constant_pool.proofs.TextLaws.{of_text}
use Rattle.constant_pool.proofs.texts.Texts.kind.Goals as goal

pub returns : goal.returns
returns c = cc (of_text kind_of c.self.inside.pool.now c.args.index)
