-- What the pass over the statements of a file keeps of those of a unit so far.
use Rattle.std.specs.Prelude.{◌≡◌, ℕ, List, [], ◌++◌}
use Rattle.order77.specs.declared.mark.Stray.{Stray}
use Rattle.unit77.specs.declared.check.Pass.{Pass}
use Rattle.unit77.specs.Checking.{open_of}
use Rattle.order77.specs.Counts.{Reading}
use Rattle.order77.specs.NameSets.{names_in, labels_in, with_names, with_labels}
use Rattle.order77.specs.Standings.{standing_of}
use Rattle.unit77.specs.Units.{uses_among, jumps_among, open_after, strays_behind}

-- what stands there, the names and the labels are those of these statements
pub record IsNoted (before : List Reading) (p : Pass) : Type 0 where
  pub standing : p.standing ≡ standing_of before
  pub used : names_in p.used ≡ with_names [] (uses_among before)
  pub targets : labels_in p.targets ≡ with_labels [] (jumps_among before)

-- it went through these statements of the unit
pub record IsPass (before : List Reading) (p : Pass) : Type 0 where
  pub noted : IsNoted before p
  pub open_ : open_of p.checker ≡ open_after before

-- with what is refused of those that are left, behind the statement with this number, all is refused
pub record IsGoing (all : List Stray) (number : ℕ) (left : List Reading) (p : Pass) : Type 0 where
  pub before : List Reading
  pub pass : IsPass before p
  pub strays : p.checker.strays ++ strays_behind before number left ≡ all
