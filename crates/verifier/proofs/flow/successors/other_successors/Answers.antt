use Rattle.std.proofs.Common.{sym, subst}
use Rattle.types.specs.View.{frame_in}
use Rattle.types.specs.method_code.View.{files_of}
use Rattle.types.specs.method_code.Site.{site_of}
use Rattle.verifier.specs.flow.Meanings.{AreMeanings}
use Rattle.verifier.proofs.flow.Flowing.{told, if_ok}
use Rattle.verifier.proofs.flow.Meant.{meant_too}
use Rattle.verifier.proofs.flow.successors.other_successors.Goals as goal

pub returns-in-Some-clause-successors : goal.returns-in-Some-clause-successors
returns-in-Some-clause-successors c =
    let s = c.args.site.now in
    let files = files_of s.method in
    if_ok _ _ c.successors_by.result (λ o h. told files (site_of s) (frame_in files c.args.frame.now) c.in-Some.meaning.now _ _ (c.requires.meanings (site_of s) c.in-Some.meaning.now c.requires.there c.in-Some.ensures) h) c.successors_by.ensures

pub returns-in_ok-found-in-Ok-clause-successors : goal.returns-in_ok-found-in-Ok-clause-successors
returns-in_ok-found-in-Ok-clause-successors c =
    let s = c.args.site.now in
    let files = files_of s.method in
    told files (site_of s) (frame_in files c.args.frame.now) c.in-Ok.meaning _ _ c.in-Ok.ensures c.in_ok-found-in-Ok.ensures

pub returns-in_ok-found-in-Ok-clause-meanings : goal.returns-in_ok-found-in-Ok-clause-meanings
returns-in_ok-found-in-Ok-clause-meanings c =
    let s = c.args.site.now in
    subst (AreMeanings s.method) (sym c.keep.ensures) (meant_too s.method c.args.meanings.now (site_of s) c.in-Ok.meaning c.requires.there c.in-Ok.ensures c.requires.meanings)
