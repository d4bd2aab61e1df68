use Rattle.std.proofs.Common.{arith, inr, refl}
use Rattle.std.proofs.lemmas.Str.Pattern.{strip_suffix_char}
use Rattle.std.specs.Prelude.{None}
use Rattle.program_files.proofs.given_words.without_slash.Goals as goal

pub returns-in-None : goal.returns-in-None
returns-in-None c = inr (refl, strip_suffix_char 0x2f c.args.path.now None c.in-None.ensures.cases (omega arith))
