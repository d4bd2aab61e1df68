-- The tables of a search: a frame type or none for each offset of a method's code, and whether the offset waits.
use Rattle.std.specs.Prelude.{◌≡◌, ℕ, ◌≤◌, List, [], ◌∷◌, Option, Some, None, Bool, true, false, replicate, slice_get, length, map, option_map}
use Rattle.std.specs.List.{AllByRecursion}
use Rattle.model.specs.Names.{Member}
use Rattle.model.specs.Classes.{Program, Body}
use Rattle.model.specs.InstructionStarts.{is_start}
use Rattle.model.specs.Typing.{IsSized}
use Rattle.model.specs.TypeOrder as frames
use Rattle.run_laws.specs.typing_search.Search.{Search, Merged, Clashes}
use Rattle.run_laws.specs.typing_search.Tables.{typing_of, waits, waiting_at}
use Rattle.run_laws.specs.typing_search.Weights.{IsLowFrame, work, places}
use Rattle.run_laws.specs.typing_search.Decided.{IsBounded}
use Rattle.verifier.specs.Worklist.{Tables, Turn, all_merged}
use Rattle.verifier.specs.declared.found.Found.{Found}
use Rattle.verifier.specs.declared.found.Origin.{Origin}
use Rattle.verifier.specs.declared.flow.handler.Handler.{Handler}
use Rattle.verifier.specs.declared.flow.lead.Lead.{Lead}
use Rattle.verifier.specs.flow.Leads.{has_handlers}
use Rattle.types.specs.declared.method_code.declaration.MethodCode.{MethodCode}
use Rattle.types.specs.method_code.View.{files_of, member_of, body_of}
use Rattle.verifier.specs.Packed.{Parts, parts_in}
use Rattle.verifier.specs.Verified.{OnUnverified}
use Rattle.verifier.specs.declared.fault.MethodFault.{MethodFault}

abbrev pub tables_in : Program → Found → Tables
tables_in files found = record { types = map (option_map (parts_in files)) found.types.items; waiting = found.waiting }

-- the frame type to which an instruction leads: the one after it; or at a handler the one before it, with what is caught alone
-- on the stack
abbrev pub led_to : Program → Parts → Parts → Option Handler → frames.FrameType
led_to files before after None = parts_in files after
led_to files before after (Some h) = parts_in files (record before { stack = h.caught ∷ [] })

abbrev pub leads_in : Program → Origin → List Lead → List (ℕ × frames.FrameType)
leads_in files origin leads = map (λ (lead : Lead). (lead.offset, led_to files origin.before origin.after lead.handler)) leads

-- Before an instruction that leads so stands the frame type at an offset, where it leads to handlers; else it is not asked for.
abbrev pub StandsBefore : List (Option Parts) → ℕ → List Lead → Parts → Type 0
StandsBefore types offset leads before =
    (there : Parts) → slice_get types offset ≡ Some (Some there) → has_handlers leads ≡ true → before ≡ there

-- nothing is found at so many offsets, none waits, and no looks are kept
pub record IsEmpty (offsets : ℕ) (found : Found) : Type 0 where
  pub types : found.types.items ≡ replicate offsets None
  pub waiting : found.waiting ≡ replicate offsets false
  pub looks : found.looks.items ≡ []

-- each table is as long as the code
pub record AreOver (body : Body) (tables : Tables) : Type 0 where
  pub types : length tables.types ≡ length body.code.code
  pub waiting : length tables.waiting ≡ length body.code.code

-- no type of the tables has more than a limit above it
abbrev pub AreLow : Program → ℕ → Tables → Type 0
AreLow files limit tables = (offset : ℕ) (t : frames.FrameType) → typing_of tables.types offset ≡ Some t → IsLowFrame files limit t

abbrev pub work_left : Program → Body → ℕ → Tables → ℕ
work_left files body limit tables = work files limit (places body) tables.types tables.waiting

-- as low as before, and no more is left to do
pub record IsNoHeavier (files : Program) (body : Body) (limit : ℕ) (before after : Tables) : Type 0 where
  pub low : AreLow files limit after
  pub lighter : work_left files body limit after ≤ work_left files body limit before

-- these frame types were merged in, the tables are as long as before, and no more is left to do
pub record HasMerged (files : Program) (body : Body) (before : Tables) (leads : List (ℕ × frames.FrameType)) (after : Tables) : Type 0 where
  pub over : AreOver body after
  pub merged : Merged files body (typing_of before.types) (waits before.waiting) leads (typing_of after.types) (waits after.waiting)
  pub whole : all_merged files body before leads ≡ Some after
  pub no_heavier : (limit : ℕ) → AreLow files limit before → AllByRecursion (λ lead. IsLowFrame files limit lead.1) leads
      → IsNoHeavier files body limit before after

-- a search over a method; its types have no more above them than the method's may have
pub record IsSearch (files : Program) (method : Member) (body : Body) (tables : Tables) : Type 0 where
  pub over : AreOver body tables
  pub searches : Search files method body (typing_of tables.types) (waits tables.waiting)
  pub low : (limit : ℕ) → IsBounded files method body limit → AreLow files limit tables

-- these tables, but that an offset waits
abbrev pub waiting_again : Tables → ℕ → Tables
waiting_again tables offset = record tables { waiting = waiting_at tables.waiting offset }

-- a search after a turn
pub record HasTurned (files : Program) (method : Member) (body : Body) (before after : Tables) : Type 0 where
  pub search : IsSearch files method body after
  pub lighter : (limit : ℕ) → IsBounded files method body limit → work_left files body limit after ≤ work_left files body limit before

-- a turn was done, which takes so many steps or more
pub record DoesTurn (turn : Option Turn) (steps : ℕ) (after : Tables) : Type 0 where
  pub done : Turn
  pub is : turn ≡ Some done
  pub tables : done.tables ≡ after
  pub within : steps ≤ done.steps

-- ---- of the tables of a method

-- to one offset, with this frame type
abbrev pub one_lead : MethodCode → ℕ → Parts → List (ℕ × frames.FrameType)
one_lead method to frame = (to, parts_in (files_of method) frame) ∷ []

-- an instruction begins at an offset, nothing is found there yet, and a frame type may stand there by its size
pub record IsFirst (method : MethodCode) (found : Found) (to : ℕ) (frame : Parts) : Type 0 where
  pub start : is_start (body_of method).code.code to ≡ true
  pub none : slice_get (tables_in (files_of method) found).types to ≡ Some None
  pub size : IsSized (body_of method) (parts_in (files_of method) frame)

abbrev pub MergesInto : MethodCode → Found → List (ℕ × frames.FrameType) → Found → Type 0
MergesInto method before leads after = HasMerged (files_of method) (body_of method) (tables_in (files_of method) before) leads (tables_in (files_of method) after)

-- no typing is above what was found and these frame types
abbrev pub ClashesWith : MethodCode → Found → List (ℕ × frames.FrameType) → Type 0
ClashesWith method found leads = Clashes (files_of method) (member_of method) (body_of method) (typing_of (tables_in (files_of method) found).types) leads

-- so it is where that is not for want of memory
abbrev pub IsClash : MethodCode → Found → List (ℕ × frames.FrameType) → MethodFault → Type 0
IsClash method found leads fault = OnUnverified fault (ClashesWith method found leads)
