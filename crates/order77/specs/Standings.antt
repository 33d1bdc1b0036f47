-- What stands before a statement in its unit, as one value.
use Rattle.std.specs.Prelude.{List}
use Rattle.order77.specs.declared.mark.Standing.{Standing}
use Rattle.order77.specs.Counts.{Reading, is_first, kind_among, is_declared, is_executed}

abbrev pub standing_of : List Reading → Standing
standing_of before = record { is_first = is_first before; kind = kind_among before; is_declared = is_declared before; is_executed = is_executed before }
