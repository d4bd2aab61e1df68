use Rattle.std.proofs.Common.{arith, ◌≡◌, ◌∙◌, string_bytes, subst, sym, true}
use Rattle.command_line.specs.Paths.{is_same_path}
use Rattle.program_files.proofs.GivenLemmas.{any_at}
use Rattle.program_files.proofs.given_words.is_given.Goals as goal

pub returns-then-branch : goal.returns-then-branch
returns-then-branch c =
    let file = c.args.file.now in
    let passes = subst (λ path. is_same_path path file ≡ true) c.as_str.ensures.value (sym c.in_ok-is_same_path.ensures.is ∙ c.if-branch.true) in
    sym (any_at string_bytes (λ path. is_same_path path file) c.args.before.now c.loop-path.path-index c.path-item.result
    (omega (arith, c.loop-path-test.true)) c.path-item.is passes)
