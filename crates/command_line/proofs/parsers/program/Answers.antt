use Rattle.std.proofs.Common.{◌≡◌, ◌∙◌, ap, codes, true}
use Rattle.clap.specs.Simple.{app_of_fields}
use Rattle.clap.specs.Words.{App, app_of, new_app}
use Rattle.command_line.specs.Parsers.{with_subcommands, with_version}
use Rattle.command_line.proofs.parsers.program.Goals as goal

pub returns-clause-app : goal.returns-clause-app
returns-clause-app c =
    let new = ap app_of_fields c.about.ensures ∙ c.new.ensures.app in
    let versioned = ap app_of_fields c.version.ensures ∙ ap {A = App} (λ app. record app { top = record app.top { has_version = true } }) new in
    let helped = ap app_of_fields c.after_help.ensures ∙ versioned in
    let base : app_of c.subcommand_required-program.result ≡ record (new_app (codes "jvm")) { top = with_version (new_app (codes "jvm")).top } =
    ap app_of_fields c.subcommand_required-program.ensures ∙ ap {A = App} (λ app. record app { top = record app.top { subcommand_required = true } }) helped in
    c.in_ok-with_parsers.ensures ∙ ap with_subcommands base
