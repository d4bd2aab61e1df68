-- Where an instruction leads, as the definitions have it.
use Rattle.std.specs.Prelude.{◌≡◌, ◌++◌, ℕ, List, [], ◌∷◌, map, Bool, Option, Some, None, is_some}
use Rattle.std.specs.List.{filter, list_any}
use Rattle.model.specs.Classes.{Program}
use Rattle.model.specs.Step.{covers}
use Rattle.model.specs.TypeOrder as frames
use Rattle.types.specs.View.{type_in, frame_in}
use Rattle.types.specs.declared.frame_type.FrameType.{FrameType}
use Rattle.verifier.specs.declared.flow.handler.Handler.{Handler}
use Rattle.verifier.specs.declared.flow.lead.Lead.{Lead}

-- the frame type after the instruction; or at a handler, with the local variables from before it and what is caught alone
-- on the stack
abbrev pub frame_at : Program → FrameType → FrameType → Option Handler → frames.FrameType
frame_at files before after None = frame_in files after
frame_at files before after (Some h) =
    record { slots = record { locals = map (type_in files) before.locals.items; stack = type_in files h.caught ∷ [] }; constructed = before.constructed }

abbrev pub lead_in : Program → FrameType → FrameType → Lead → ℕ × frames.FrameType
lead_in files before after lead = (lead.offset, frame_at files before after lead.handler)

-- ---- leads by their offsets

abbrev pub lead_on : ℕ → Lead
lead_on to = record { offset = to; handler = None }

abbrev pub lead_to : Handler → Lead
lead_to h = record { offset = h.entry.handler; handler = Some h }

-- to the handlers whose range an offset lies in
abbrev pub handler_leads : ℕ → List Handler → List Lead
handler_leads offset hs = map lead_to (filter (λ (h : Handler). covers offset h.entry) hs)

-- on to some targets, and then to the handlers whose range an offset lies in
pub record LeadOn (offset : ℕ) (hs : List Handler) (leads : List Lead) : Type 0 where
  pub targets : List ℕ
  pub are : leads ≡ map lead_on targets ++ handler_leads offset hs

-- to some targets, and then to the handlers whose range an offset lies in
abbrev pub all_leads : ℕ → List Handler → List ℕ → List Lead
all_leads offset hs targets = map lead_on targets ++ handler_leads offset hs

abbrev pub targets_by : ℕ → Option Handler → List ℕ → List ℕ
targets_by to None tos = to ∷ tos
targets_by to (Some h) tos = tos

-- the offsets of those that are to no handler
abbrev pub targets_in : List Lead → List ℕ
targets_in [] = []
targets_in (lead ∷ leads) = targets_by lead.offset lead.handler (targets_in leads)

-- some are to handlers
abbrev pub has_handlers : List Lead → Bool
has_handlers leads = list_any (λ (lead : Lead). is_some lead.handler) leads
