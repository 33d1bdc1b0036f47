use Rattle.text_base.specs.Runs.{going, ended}
use Rattle.definition_laws.proofs.Faulting.{stores_good, undefined_read, fault_reached}
use Rattle.definition_laws.proofs.faults.faults_have_causes.Goals as goal

pub returns : goal.returns
returns c = record { undefined = undefined_read; fault = fault_reached; stores = λ p n w is. stores_good p n (going w) is; ends = λ p n w code is. stores_good p n (ended w code) is }
