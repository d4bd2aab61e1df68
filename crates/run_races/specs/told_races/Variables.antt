-- Variables by numbers.
use Rattle.race_places.specs.declared.run_actions.Variable.{Variable}
use Rattle.race_places.specs.declared.run_actions.Variable.TheVariants.{InstanceField, StaticField, Element}
use Rattle.run_races.specs.declared.told_races.RacedVariable.{RacedVariable}

abbrev pub numbers_of : Variable → RacedVariable
numbers_of (InstanceField object class field) = record { kind = 0; object = object; class = class; place = field }
numbers_of (StaticField class field) = record { kind = 1; object = 0; class = class; place = field }
numbers_of (Element array index) = record { kind = 2; object = array; class = 0; place = index }
