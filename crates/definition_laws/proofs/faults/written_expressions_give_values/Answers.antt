use Rattle.tree90.specs.Meaning.{Objects}
use Rattle.definition_laws.proofs.Evaluating.{values_given, given_values, undefined_cause, fault_cause, faults_here, left_first, argument_first}
use Rattle.definition_laws.proofs.Typed.{typed_meaning}
use Rattle.definition_laws.proofs.faults.written_expressions_give_values.Goals as goal

pub returns : goal.returns
returns c = record {
  value = values_given Objects;
  given = given_values Objects;
  undefined = undefined_cause Objects;
  fault = fault_cause Objects;
  here = faults_here Objects;
  left = left_first Objects;
  argument = argument_first Objects;
  typed = typed_meaning Objects;
}
