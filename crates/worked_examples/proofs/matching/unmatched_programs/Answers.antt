use Rattle.std.proofs.Common.{◌≡◌, zero, suc, pos}
use Rattle.worked_examples.specs.Wrong.{other_value, no_value, NeverMatches}
use Rattle.worked_examples.proofs.Carried.{carried_value}
use Rattle.worked_examples.proofs.matching.unmatched_programs.Goals as goal

other : NeverMatches other_value
other lines zero map carried = let e : pos 0 ≡ pos 1 = carried_value other_value lines 0 map carried in cc
other lines (suc zero) map carried = let e : pos 2 ≡ pos 1 = carried_value other_value lines 2 map carried in cc
other lines (suc (suc m)) map carried = carried

none : NeverMatches no_value
none lines zero map carried = let e : pos 0 ≡ pos 1 = carried_value no_value lines 0 map carried in cc
none lines (suc m) map carried = carried

pub returns : goal.returns
returns c = record { other_value = other; no_value = none }
