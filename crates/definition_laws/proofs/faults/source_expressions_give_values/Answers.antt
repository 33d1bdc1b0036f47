use Rattle.program77.specs.Meaning.{Store}
use Rattle.definition_laws.proofs.Evaluating.{values_given, given_values, undefined_cause, fault_cause, faults_here, left_first, argument_first}
use Rattle.definition_laws.proofs.Typed.{typed_meaning}
use Rattle.definition_laws.proofs.faults.source_expressions_give_values.Goals as goal

pub returns : goal.returns
returns c = record {
  value = values_given Store;
  given = given_values Store;
  undefined = undefined_cause Store;
  fault = fault_cause Store;
  here = faults_here Store;
  left = left_first Store;
  argument = argument_first Store;
  typed = typed_meaning Store;
}
