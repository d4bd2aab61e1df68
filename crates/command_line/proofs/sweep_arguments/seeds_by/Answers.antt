use Rattle.std.proofs.Common.{Bor, List, [], ap, map, refl, ◌∙◌, ℕ}
use Rattle.command_line.proofs.CommandLineLemmas.{refused_more}
use Rattle.command_line.proofs.SweepLemmas.{between}
use Rattle.command_line.proofs.sweep_arguments.seeds_by.Goals as goal

abbrev no_text : Bor (List ℕ)
no_text = record { ref_ptr = (0, 0); now = [] }

pub returns-then-is_empty-clause-none : goal.returns-then-is_empty-clause-none
returns-then-is_empty-clause-none c =
    let parts_are = ap (map (λ text. text.now)) c.as_slice-texts.ensures.value ∙ c.in_ok-parts.ensures in
    refused_more c.seeds_between.result _ _ (between c.as_slice-texts.result.now no_text refl c.args.word.now parts_are) c.seeds_between.ensures.none
