-- What `athrow` means (JVMS 6.5).
use Rattle.std.specs.Prelude.{[], ◌∷◌, None}
use Rattle.model.specs.Names.{java_lang_throwable}
use Rattle.model.specs.ReferenceTypes.{ClassType}
use Rattle.model.specs.Types.{AReference}
use Rattle.model.specs.Operands.{Carrier}
use Rattle.model.specs.Outcomes.{Throws, not_null}
use Rattle.model.specs.Sites.{MeaningOf, picks_none, wants_of, nowhere, referent}

-- athrow: .., objectref -> objectref
-- The object is thrown; null is a NullPointerException instead.
abbrev pub throw_meaning : {A : Type 0} → Carrier A → MeaningOf A
throw_meaning C =
    record {
      looks = None;
      wants = wants_of (AReference (ClassType java_lang_throwable) ∷ []) 0;
      leads = nowhere;
      may = picks_none;
      does = λ event world slots ops rest. not_null (referent C ops 0) (λ r. Throws r);
    }
