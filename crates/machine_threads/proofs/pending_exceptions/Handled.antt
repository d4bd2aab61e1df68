-- The handler of a frame that stands in code.
use Rattle.std.proofs.Common.{◌≡◌, ℕ, List, Option, Some, None, refl, sym, ap, subst, ◌∙◌}
use Rattle.std.specs.Option.{option_and_then}
use Rattle.std.proofs.lemmas.Option.{same_Some}
use Rattle.model.specs.Names.{Member}
use Rattle.model.specs.Classes.{Program, Body, body_of}
use Rattle.model.specs.State.{ObjectOf, FrameOf}
use Rattle.model.specs.Step.{handler_in}
use Rattle.heap.specs.Heap.{Object}
use Rattle.run_laws.specs.word_runs.Words.{StandsInCode}
use Rattle.linked_code.specs.declared.method.Handler.{Handler}
use Rattle.linked_code.specs.declared.method.LinkedCode.{LinkedCode}
use Rattle.linked_code.specs.declared.method.LinkedMethod.{LinkedMethod}
use Rattle.linked_code.specs.declared.method.MethodBody.{MethodBody}
use Rattle.linked_code.specs.declared.method.MethodBody.TheVariants as body
use Rattle.linked_code.specs.declared.program.LinkedProgram.{LinkedProgram}
use Rattle.linked_code.specs.Linked.{offset_in}
use Rattle.linked_code.specs.Methods.{IsMethodBody, IsCode}
use Rattle.thread_stacks.specs.Stacks.{ShownFrame}
use Rattle.machine_state.specs.shown_objects.Shown.{ShowsObjects}
use Rattle.machine_state.specs.shown_stacks.Shown.{ShowsFrame, offset_at}
use Rattle.machine_state.specs.method_selection.Rows.{AreMethodsRead, HasMethod}
use Rattle.machine_state.specs.Shown.{IsProgram}
use Rattle.machine_state.proofs.linked_frames.Frames.{offset_of}
use Rattle.machine_state.specs.exception_handlers.Handlers.{type_at, first_taking, IsPlaceOf, FindsHandler}
use Rattle.machine_threads.specs.pending_exceptions.Finding.{code_in, code_at, IsHandlerIn}

code_of : (trees : Program) (p : LinkedProgram) (m : Member) (b : Body) (linked : MethodBody) → IsMethodBody trees p m (Some b) linked
    → (code : LinkedCode) × (linked ≡ body.Code code) × IsCode trees p m b code
code_of trees p m b (body.Code code) h = (code, refl, h.1)
code_of trees p m b body.Abstract h = absurd h
code_of trees p m b (body.BuiltIn of) h = absurd h

module _ (read : AreMethodsRead) (p : LinkedProgram) (objects : List Object) (exception : ℕ) (shown : ShownFrame) where
  module _ (trees : Program) (program : IsProgram trees p) (frame : FrameOf ℕ) (shows : ShowsFrame trees p shown frame) (stands : StandsInCode trees frame) where
    row : HasMethod trees p shown.method frame.method
    row = read trees p program.linked shown.method frame.method shows.method

    has : (code : LinkedCode) × (row.row.body ≡ body.Code code) × IsCode trees p frame.method stands.body code
    has = code_of trees p frame.method stands.body row.row.body (subst (λ o. IsMethodBody trees p frame.method o row.row.body) stands.is_body row.linked.runs)

    code_is : code_at p shown.method ≡ Some has.0
    code_is = ap (option_and_then (λ (r : LinkedMethod). code_in r.body)) row.is ∙ ap code_in has.1

    abbrev at : ℕ → ℕ
    at = offset_in has.0.starts.items

    places : at ≡ offset_at p shown.method
    places = λ i place. sym (offset_of p shown.method row.row has.0 row.is has.1 place) i

    here : at shown.place ≡ frame.place.offset
    here = ap (λ (f : ℕ → ℕ). f shown.place) places ∙ sym shows.offset

    found_at : (heap : List (ObjectOf ℕ)) → ShowsObjects trees p.components.items objects heap → (found : Option ℕ)
        → FindsHandler p objects exception (at shown.place) has.0.handlers.items found
        → IsPlaceOf (offset_at p shown.method) (option_and_then (handler_in trees frame.place.offset (type_at heap exception))
        (body_of trees frame.method)) found
    found_at heap objects_are found finds =
        subst (λ (o : Option Body). IsPlaceOf (offset_at p shown.method) (option_and_then (handler_in trees frame.place.offset (type_at heap exception)) o) found) (sym stands.is_body)
        (subst (λ (f : ℕ → ℕ). IsPlaceOf f (first_taking trees stands.body.pool (type_at heap exception) frame.place.offset stands.body.code.exceptions) found) places
        (subst (λ n. IsPlaceOf at (first_taking trees stands.body.pool (type_at heap exception) n stands.body.code.exceptions) found) here
        (finds program.files trees program.linkable program.linked heap objects_are stands.body.pool at stands.body.code.exceptions has.2.handlers)))

  pub handled : (code : LinkedCode) → Some code ≡ code_at p shown.method → (offset : ℕ) → offset ≡ offset_in code.starts.items shown.place
      → (handlers : List Handler) → handlers ≡ code.handlers.items
      → (found : Option ℕ) → FindsHandler p objects exception offset handlers found → IsHandlerIn p objects exception shown found
  handled code is offset offset_is handlers handlers_are found finds trees program heap objects_are frame shows stands =
      let same : code ≡ (has trees program frame shows stands).0 = same_Some code _ (is ∙ code_is trees program frame shows stands) in
      found_at trees program frame shows stands heap objects_are found
      (subst (λ (c : LinkedCode). FindsHandler p objects exception (offset_in c.starts.items shown.place) c.handlers.items found) same
      (subst (λ n. FindsHandler p objects exception n code.handlers.items found) offset_is
      (subst (λ (hs : List Handler). FindsHandler p objects exception offset hs found) handlers_are finds)))

  -- a frame that stands in code has code
  pub unhandled : None ≡ code_at p shown.method → IsHandlerIn p objects exception shown None
  unhandled none trees program heap objects_are frame shows stands = let there = code_is trees program frame shows stands in absurd cc
