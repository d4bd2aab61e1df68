use Rattle.std.proofs.Common.{◌≡◌, ◌⊎◌, ℕ, [], map, string_bytes, subst, sym}
use Rattle.std.specs.Prelude.{IfOk}
use Rattle.std.specs.declared.vec.Vec.{Vec}
use Rattle.std.specs.Global.{Global}
use Rattle.advice.specs.Advice.{IsAdvice}
use Rattle.advice.specs.Reading.{bytes_of}
use Rattle.library_files.specs.Adding.{library_file}
use Rattle.engines.specs.Advised.{IsAdviceOn}
use Rattle.engines.specs.Commands.{OfFiles}
use Rattle.engines.specs.Files.{held_at}
use Rattle.engines.specs.Handed.{AreHanded}
use Rattle.engines.proofs.AdviceLemmas.{advice_told}
use Rattle.engines.proofs.advised.advice_on.Goals as goal

pub returns : goal.returns
returns g c =
    let library = map library_file c.args.library.now in
    let held = g.F.Folder.held c.args.folder.now in
    let listed = g.F.Folder.listed c.args.folder.now in
    let command = c.args.command.now in
    let files = c.in-Ok-named_files.files.items in
    let named = c.in-Ok-named_files.ensures in
    let handed = subst (λ paths. AreHanded library command (held_at held (map string_bytes paths)) (map bytes_of files) named.0 named.1) c.deref.ensures.value named.2 in
    let advice = subst (λ given. IfOk c.advice.result (λ text. IsAdvice (map bytes_of given) text.items)) c.deref-2.ensures.value c.advice.ensures in
    subst (λ (told : Vec ℕ Global). (told.items ≡ []) ⊎ OfFiles library held listed command (IsAdviceOn told.items)) (sym c.unwrap_or.ensures)
    (advice_told library held listed command c.advice.result c.new-2.result (map string_bytes c.in-Ok.paths.items) c.in-Ok.ensures.files (map bytes_of files) named.0 named.1 handed advice
    c.new-2.ensures.items)
