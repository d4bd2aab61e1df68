use Rattle.std.proofs.Common.{arith, ◌≡◌, ◌∙◌, string_bytes, subst, sym, true}
use Rattle.command_line.proofs.CommandLineLemmas.{refuses}
use Rattle.program_files.proofs.GivenLemmas.{any_at}
use Rattle.engines.specs.OutcomeFiles.{may_be_outcome}
use Rattle.engines.proofs.command_files.check_folder.Goals as goal

pub returns-then-branch-clause-read : goal.returns-then-branch-clause-read
returns-then-branch-clause-read c =
    let folder = c.args.folder.now in
    let passes = subst (λ file. may_be_outcome folder file ≡ true) c.as_str.ensures.value (sym c.in_ok-may_be_outcome.ensures ∙ c.if-branch.true) in
    refuses c.read_in.result _ c.read_in.ensures
    (any_at string_bytes (may_be_outcome folder) c.args.files.now c.loop-file.file-index c.file-item.result (omega (arith, c.loop-file-test.true)) c.file-item.is passes)
