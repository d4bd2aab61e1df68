use Rattle.std.proofs.Common.{◌≡◌, ◌∙◌, ap, inl, map, refl, subst, sym, vec_items}
use Rattle.std.specs.Prelude.{string_bytes}
use Rattle.std.proofs.lemmas.Result.{err_from_is_err_and}
use Rattle.std.specs.Arc.{arc_value}
use Rattle.std.specs.Io.KnownBytes.{Appends}
use Rattle.model.specs.Devices.{AppendsFront}
use Rattle.model.specs.Schedule.{events_of}
use Rattle.pages.specs.Pages.{IsPage}
use Rattle.engines.specs.GivenPlaces.{told_text}
use Rattle.engines.proofs.PageLemmas.{all_paged, front_written}
use Rattle.engines.proofs.paging.paged.Goals as goal

pub returns-in_err-lines-clause-part : goal.returns-in_err-lines-clause-part
returns-in_err-lines-clause-part g c =
    let p = err_from_is_err_and c.from_residual.result c.from_residual.ensures.1 in
    rw p.1 (λ bytes options opened. inl refl)

pub returns-in_err-lines-clause-counted : goal.returns-in_err-lines-clause-counted
returns-in_err-lines-clause-counted g c =
    let p = err_from_is_err_and c.from_residual.result c.from_residual.ensures.1 in
    rw (p.1, p.2, c.in_err-lines.ensures.memory) refl

pub returns-in_err-text-clause-part : goal.returns-in_err-text-clause-part
returns-in_err-text-clause-part g c =
    let p = err_from_is_err_and c.from_residual-in_err-text.result c.from_residual-in_err-text.ensures.1 in
    rw p.1 (λ bytes options opened. inl refl)

pub returns-in_err-page-clause-part : goal.returns-in_err-page-clause-part
returns-in_err-page-clause-part g c =
    let p = err_from_is_err_and c.from_residual-in_err-page.result c.from_residual-in_err-page.ensures.1 in
    rw p.1 (λ bytes options opened. inl refl)

pub returns-in_err-write_all-clause-part : goal.returns-in_err-write_all-clause-part
returns-in_err-write_all-clause-part g c =
    let p = err_from_is_err_and c.from_residual-in_err-write_all.result c.from_residual-in_err-write_all.ensures.1 in
    let given = c.args.opened in
    let contents = g.W.Sink.contents in
    let lines = c.in_ok-lines.lines.bytes.items in
    let told = told_text given.gives_up c.in_ok-lines.report c.in_ok-lines.end in
    let page = string_bytes c.in_ok-page.page in
    let text = c.as_slice.ensures.value ∙ c.in_ok-text.ensures.text in
    let page_is = subst (λ l. IsPage l told page) c.bytes.ensures (subst (λ l. IsPage c.bytes.result.now l page) text c.in_ok-page.ensures) in
    let front = subst (AppendsFront (contents c.args.output.now) (contents c.write_all.new.self)) (c.as_slice-2.ensures.value ∙ c.in_ok-text.ensures.text) c.in_err-write_all.ensures.part in
    rw p.1
    (λ bytes options opened.
    front_written bytes (map vec_items given.files.items) options c.args.window (arc_value given.verified) (events_of given.schedule) given.limits given.gives_up c.in_ok-lines.report c.in_ok-lines.end lines page
    c.in_ok-lines.ensures.traced page_is opened _ _ front)

pub returns-clause-paged : goal.returns-clause-paged
returns-clause-paged g c =
    let given = c.args.opened in
    let contents = g.W.Sink.contents in
    let lines = c.in_ok-lines.lines.bytes.items in
    let told = told_text given.gives_up c.in_ok-lines.report c.in_ok-lines.end in
    let page = string_bytes c.in_ok-page.page in
    let made : page ≡ c.into_bytes.result.items = sym (ap vec_items c.into_bytes.ensures.value) in
    let text = c.as_slice.ensures.value ∙ c.in_ok-text.ensures.text in
    let page_is = subst (λ l. IsPage l told page) c.bytes.ensures (subst (λ l. IsPage c.bytes.result.now l page) text c.in_ok-page.ensures) in
    let written = subst (Appends (contents c.args.output.now) (contents c.write_all.new.self)) (c.as_slice-2.ensures.value ∙ c.in_ok-text.ensures.text) c.in_ok-write_all.ensures.written in
    λ bytes options opened.
    all_paged bytes (map vec_items given.files.items) options c.args.window (arc_value given.verified) (events_of given.schedule) given.limits given.gives_up c.in_ok-lines.report c.in_ok-lines.end lines c.into_bytes.result.items
    c.in_ok-lines.ensures.traced (subst (IsPage lines told) made page_is) opened _ _ c.in_ok-text.status c.in_ok-text.ensures.status written
