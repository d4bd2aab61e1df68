use Rattle.std.proofs.Common.{refl}
use Rattle.model.specs.OpcodeTable.{low_form, high_form}
use Rattle.model.specs.BuiltIn.{built_in_classes}
use Rattle.model.specs.Opening.{opening_heap}
use Rattle.run_laws.proofs.examples.branches.Goals as goal
use Rattle.model.specs.DescriptorScan.{element_at, field_at, field_type, parameters_at, method_type}

pub returns : goal.returns
unfolding low_form high_form built_in_classes opening_heap element_at field_at field_type parameters_at method_type
returns c =
    record {
      holds = record {
        ifeq = refl;
        ifne = refl;
        iflt = refl;
        ifge = refl;
        ifgt = refl;
        ifle = refl;
        if_icmpeq = refl;
        if_icmpne = refl;
        if_icmplt = refl;
        if_icmpge = refl;
        if_icmpgt = refl;
        if_icmple = refl;
        goto = refl;
        backwards = refl;
        tableswitch = refl;
        lookupswitch = refl;
      };
    }
