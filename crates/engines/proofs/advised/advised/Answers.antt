use Rattle.std.proofs.Common.{◌≡◌, ◌⊎◌, [], map, subst, sym}
use Rattle.library_files.specs.Adding.{library_file}
use Rattle.engines.specs.Advised.{IsAdviceOn, IsAdvised}
use Rattle.engines.specs.Commands.{OfFiles}
use Rattle.engines.specs.declared.fault.Fault.TheVariants as faults
use Rattle.engines.proofs.advised.advised.Goals as goal

pub returns-in-Verify-Refusal : goal.returns-in-Verify-Refusal
returns-in-Verify-Refusal g c =
    let library = map library_file c.args.library.now in
    let held = g.F.Folder.held c.args.folder.now in
    let listed = g.F.Folder.listed c.args.folder.now in
    let text = c.advice_on.result.items in
    let refusal = faults.Refusal c.in-Verify-Refusal.field-0-1 in
    let verified = subst (λ command. (text ≡ []) ⊎ OfFiles library held listed command (IsAdviceOn text)) c.in-Verify-Refusal.is-0 c.advice_on.ensures in
    subst (λ fault. (text ≡ []) ⊎ IsAdvised library held listed c.args.command.now fault text) (sym c.in-Verify-Refusal.is-1)
    (subst (λ command. (text ≡ []) ⊎ IsAdvised library held listed command refusal text) (sym c.in-Verify-Refusal.is-0) verified)
