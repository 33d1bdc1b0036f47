use Rattle.std.proofs.Common.{◌≡◌, map, length}
use Rattle.tree77.specs.TransferForms.{settings_from}
use Rattle.transfer77.specs.Views.{specifier_of, settings_of}
use Rattle.transfer77.proofs.settings.Settings.add_all.Given as goal

-- what is left, added to what was taken, gives what all give
abbrev pub invariant-loop-specifier : goal.invariant-loop-specifier
invariant-loop-specifier l = settings_from (settings_of l.self) (map specifier_of l.specifiers) ≡ settings_from (settings_of l.fn.self) (map specifier_of l.fn.specifiers)

abbrev pub decreases-loop-specifier : goal.decreases-loop-specifier
decreases-loop-specifier l = length l.specifiers
