use Rattle.std.proofs.Common.{◌≡◌, ◌++◌, map, flat_map, take}
use Rattle.tree90.specs.Plain.{declared_of}
use Rattle.tree90.specs.Printed.{declared_text}
use Rattle.free_printer.proofs.program.write_declarations.Given as goal

abbrev pub invariant-loop-declaration : goal.invariant-loop-declaration
invariant-loop-declaration l =
    l.out ≡ l.fn.out ++ flat_map declared_text (map declared_of (take l.declaration-index l.declared))
