use Rattle.std.proofs.Common.{ap, vec_items}
use Rattle.std.specs.Option.{option_map}
use Rattle.std.proofs.lemmas.Result.{IfErr-weaker, IfOk-weaker}
use Rattle.engines.proofs.PageLemmas.{page_done_of, page_undone_of}
use Rattle.engines.proofs.commands.run_pages.run_page.Goals as goal

pub returns-clause-done : goal.returns-clause-done
returns-clause-done g c =
    let outcome = c.paged-outcome.result in
    page_done_of _ _ _ _ _ _ (option_map vec_items c.paged-outcome.new.made) _ outcome c.recorded.result c.recorded.ensures.done
    (IfOk-weaker outcome _ _ (λ status done. (done.0, done.1.items, ap (option_map vec_items) done.2, done.3, done.4)) c.paged-outcome.ensures.paged)

pub returns-clause-faulty : goal.returns-clause-faulty
returns-clause-faulty g c =
    let outcome = c.paged-outcome.result in
    page_undone_of _ _ _ _ _ _ (option_map vec_items c.paged-outcome.new.made) _ outcome c.recorded.result c.recorded.ensures.faulty
    (IfOk-weaker outcome _ _ (λ status done. (done.0, done.1.items, ap (option_map vec_items) done.2, done.3, done.4)) c.paged-outcome.ensures.paged)
    c.paged-outcome.ensures.faulty
    (IfErr-weaker outcome _ _ (λ fault same. ap (option_map vec_items) same) c.paged-outcome.ensures.none)
