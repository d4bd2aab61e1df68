-- How the first threads of a state that is shown stand.
use Rattle.std.proofs.Common.{◌≡◌, ◌<◌, ◌≤◌, ℕ, zero, suc, ◌+◌, List, [], ◌∷◌, ◌++◌, length, map, take, get_or, Some, refl, sym, ap, ◌∙◌, arith}
use Rattle.std.specs.Prelude.{slice_get}
use Rattle.std.proofs.lemmas.List.{take_more, take_all, map_push}
use Rattle.std.proofs.lemmas.Option.{slice_get-get_or}
use Rattle.model.specs.declared.report.EndState.{EndState}
use Rattle.model.specs.declared.report.Report.{Report}
use Rattle.model.specs.Classes.{Program}
use Rattle.model.specs.LimitStands.{Bounds}
use Rattle.model.specs.Operands.{words}
use Rattle.model.specs.Report.{Ended, end_state_of}
use Rattle.model.specs.State.{Thread, StateOf}
use Rattle.model.specs.Worlds.{no_thread}
use Rattle.run_laws.specs.word_reports.Reports.{thread_end_of, ends_from_of, thread_ends_of}
use Rattle.linked_code.specs.declared.program.LinkedProgram.{LinkedProgram}
use Rattle.machine_state.specs.declared.state.Shared.{Shared}
use Rattle.machine_state.specs.Shown.{IsProgram}
use Rattle.machine_state.specs.state_events.Whole.{IsShown}
use Rattle.machine_threads.specs.declared.waiting_instructions.kinds.Standing.{Standing}
use Rattle.machine.specs.thread_standings.Standings.{StandsSo}
use Rattle.machine.specs.machine_reports.Told.{IsTold, TellEnds, Reports}

-- so many of them stand so
abbrev pub TellFirst : Program → LinkedProgram → Shared → (frames k : ℕ) → List EndState → Type 0
TellFirst trees p shared frames k ends =
    (bounds : Bounds) (inflated : List ℕ) (state : StateOf ℕ) → IsProgram trees p → IsShown trees p bounds inflated shared state
    → map end_state_of ends ≡ take k (thread_ends_of words trees frames state)

module _ (trees : Program) (frames : ℕ) (s : StateOf ℕ) where
  ends_length : (t : ℕ) (threads : List Thread) → length (ends_from_of words trees frames s t threads) ≡ length threads
  ends_length t [] = refl
  ends_length t (thread ∷ threads) = ap suc (ends_length (suc t) threads)

  end_at : (t : ℕ) (threads : List Thread) (k : ℕ) (thread : Thread) → slice_get threads k ≡ Some thread
      → get_or (ends_from_of words trees frames s t threads) k Ended ≡ thread_end_of words trees frames s (t + k) thread.status
  end_at t [] k thread e = absurd cc
  end_at t (first ∷ threads) zero thread e =
      let same : first ≡ thread = cc in
      let place : t ≡ t + 0 = omega arith in
      ap (λ (x : Thread). thread_end_of words trees frames s t x.status) same ∙ ap (λ n. thread_end_of words trees frames s n thread.status) place
  end_at t (first ∷ threads) (suc k) thread e =
      let place : suc t + k ≡ t + suc k = omega arith in
      end_at (suc t) threads k thread e ∙ ap (λ n. thread_end_of words trees frames s n thread.status) place

module _ (trees : Program) (p : LinkedProgram) (shared : Shared) (frames : ℕ) where
  -- one more
  pub tell_more : (k : ℕ) (ends : List EndState) (standing : Standing) (end : EndState) → k < length shared.threads.threads
      → TellFirst trees p shared frames k ends → StandsSo p shared k frames standing
      → IsTold trees standing end → TellFirst trees p shared frames (k + 1) (ends ++ end ∷ [])
  tell_more k ends standing end lt first stands told bounds inflated s program shown =
      let are : shared.threads.threads ≡ s.world.threads = shown.represents.world_is.threads in
      let thread : Thread = get_or s.world.threads k no_thread in
      let within : k < length s.world.threads = omega (arith, lt, ap length are) in
      let there : slice_get s.world.threads k ≡ Some thread = slice_get-get_or s.world.threads k no_thread within in
      let place : 0 + k ≡ k = omega arith in
      let here : end_state_of end ≡ get_or (thread_ends_of words trees frames s) k Ended =
      told _ (stands trees bounds inflated s program shown thread there) ∙ sym (end_at trees frames s 0 s.world.threads k thread there ∙ ap (λ n. thread_end_of words trees frames s n thread.status) place)
      in
      let inside : k < length (thread_ends_of words trees frames s) = omega (arith, within, ends_length trees frames s 0 s.world.threads) in
      map_push end_state_of ends end
      ∙ ap (λ l. l ++ end_state_of end ∷ []) (first bounds inflated s program shown)
      ∙ ap (λ x. take k (thread_ends_of words trees frames s) ++ x ∷ []) here
      ∙ sym (take_more (thread_ends_of words trees frames s) k Ended inside)

  -- all of them
  pub tell_all : (k : ℕ) (ends : List EndState) → length shared.threads.threads ≤ k → TellFirst trees p shared frames k ends
      → TellEnds trees p shared frames ends
  tell_all k ends le first bounds inflated s program shown =
      let are : length shared.threads.threads ≡ length s.world.threads = ap length shown.represents.world_is.threads in
      let all : length (thread_ends_of words trees frames s) ≤ k = omega (arith, le, are, ends_length trees frames s 0 s.world.threads) in
      first bounds inflated s program shown ∙ take_all k (thread_ends_of words trees frames s) all

  -- the report of them
  pub reported : (events : ℕ) (r : Report) → r.printed.items ≡ shared.printed.items → TellEnds trees p shared frames r.threads.items
      → r.events ≡ events → Reports trees p shared frames events r
  reported events r printed told count bounds inflated s program shown =
      record { printed = printed ∙ shown.represents.world_is.printed; threads = told bounds inflated s program shown; count = count }
