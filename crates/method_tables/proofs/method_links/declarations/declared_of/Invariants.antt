use Rattle.method_tables.proofs.method_links.Selecting.{Sound, Complete}
use Rattle.method_tables.proofs.method_links.declarations.declared_of.Given as goal

abbrev pub invariant-loop-number : goal.invariant-loop-number
invariant-loop-number l = record {
  sound : Sound l.set l.numbers l.names l.descriptors l.declared.entries;
  complete : Complete l.set l.numbers l.names l.descriptors l.declared.entries l.number;
}
