use Rattle.std.proofs.Common.{◌≡◌, take}
use Rattle.order77.specs.NameSets.{labels_in, with_labels}
use Rattle.order77.proofs.names.Labels.add_all.Given as goal

abbrev pub invariant-loop-label : goal.invariant-loop-label
invariant-loop-label l = labels_in l.self ≡ with_labels (labels_in l.fn.self) (take l.label-index l.labels)
