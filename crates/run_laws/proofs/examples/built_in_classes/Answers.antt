use Rattle.std.proofs.Common.{refl}
use Rattle.run_laws.proofs.examples.Fits.{all_fit}
use Rattle.model.specs.BuiltIn.{built_in_classes}
use Rattle.model.specs.Opening.{opening_heap}
use Rattle.run_laws.proofs.examples.built_in_classes.Goals as goal
use Rattle.model.specs.DescriptorScan.{element_at, field_at, field_type, parameters_at, method_type}

pub returns : goal.returns
unfolding built_in_classes opening_heap element_at field_at field_type parameters_at method_type
returns c =
    record {
      holds = record {
        declared_so = refl;
        no_others = refl;
        are_files = all_fit built_in_classes tt;
        exception_below = refl;
        throwable_above = refl;
        error_aside = refl;
        subtyped = refl;
      };
    }
