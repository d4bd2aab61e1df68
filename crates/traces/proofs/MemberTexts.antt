-- What was done, as members of an object or not at all.
use Rattle.std.proofs.Common.{◌≡◌, ℕ, List, ◌++◌, Some, None, Result, append-nil, subst, sym}
use Rattle.std.specs.Prelude.{OnOk}
use Rattle.std.proofs.lemmas.Result.{on_ok_weaker}
use Rattle.traces.specs.declared.form.Form.{Form}
use Rattle.traces.specs.declared.form.Form.TheVariants.{Plain, Columns, Json}
use Rattle.traces.specs.declared.members.DeedMembers.{DeedMembers}
use Rattle.traces.specs.Lines.{AddsMembers, deed_members}

pub none_told : (form : Form) (text : List ℕ) → AddsMembers form text text
none_told Plain text = (None, sym (append-nil text))
none_told Columns text = (None, sym (append-nil text))
none_told Json text = (None, sym (append-nil text))

pub some_told : {A E : Type 0} (result : Result A E) (form : Form) (told : DeedMembers) (old new : List ℕ) → form ≡ Json
    → OnOk result (new ≡ old ++ deed_members told) → OnOk result (AddsMembers form old new)
some_told result form told old new is h =
    subst (λ f. OnOk result (AddsMembers f old new)) (sym is) (on_ok_weaker result (λ written. (Some told, written)) h)
