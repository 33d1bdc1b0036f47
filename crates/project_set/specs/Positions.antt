-- Where the comments of a source and of a written text stand.
use Rattle.std.specs.Prelude.{ℕ, zero, suc, ◌+◌, ◌-◌, nat_lt, List, [], ◌∷◌, ◌++◌, length, map, if◌then◌else◌}
use Rattle.text_base.specs.Cards.{comments}
use Rattle.text_base.specs.Remarks.{Remark}
use Rattle.program77.specs.Tree as source
use Rattle.program77.specs.Tree.{SourceUnit, SourceProgram}
use Rattle.tree90.specs.Tree as free
use Rattle.tree90.specs.Tree.{FreeUnit, FreeProgram}
use Rattle.project_set.specs.Rewrite.{remark_of, size_of}
use Rattle.project_set.specs.Skeleton.{stmt_entries}

-- Before or right after the header of a unit, or before an entry of its skeleton. Units and entries are counted from 0.
pub data Position : Type 0 where
  before_header : ℕ → Position
  after_header : ℕ → Position
  before_entry : ℕ → ℕ → Position
  at_end : Position

pub record Placed : Type 0 where
  pub remark : Remark
  pub position : Position

-- ---- of a source

-- how many entries of the skeleton the first statements of a list have
abbrev pub entries_in : source.Code → ℕ → ℕ
entries_in source.done k = 0
entries_in (source.item label here s rest) zero = 0
entries_in (source.item label here s rest) (suc k) = length (stmt_entries s) + entries_in rest k

-- the position before a statement of a unit, which is counted from its header on
abbrev pub position_in : ℕ → SourceUnit → ℕ → Position
position_in unit u zero = before_header unit
position_in unit u (suc zero) = after_header unit
position_in unit u (suc (suc k)) = before_entry unit (entries_in u.code (k + 1))

-- the position before a statement of some units, of which the first has this number
abbrev pub position_of : ℕ → List SourceUnit → ℕ → Position
position_of unit [] k = at_end
position_of unit (u ∷ us) k = if nat_lt k (size_of u) then position_in unit u k else position_of (unit + 1) us (k - size_of u)

-- the comments of a source in order, with their positions
abbrev pub source_positions : List ℕ → SourceProgram → List Placed
source_positions bytes p = map (λ c. record { remark = remark_of c; position = position_of 0 p.units c.before }) (comments bytes)

-- ---- of a written text

abbrev pub placed_at : Position → List Remark → List Placed
placed_at position remarks = map (λ r. record { remark = r; position = position }) remarks

-- from the entry of this number on
abbrev pub code_positions : ℕ → ℕ → free.Code → List Remark → List Placed
code_positions unit entry free.done tail = placed_at (before_entry unit entry) tail
code_positions unit entry (free.item remarks s rest) tail = placed_at (before_entry unit entry) remarks ++ code_positions unit (entry + 1) rest tail

abbrev pub unit_positions : ℕ → FreeUnit → List Placed
unit_positions unit u = placed_at (before_header unit) u.head ++ placed_at (after_header unit) u.inner ++ code_positions unit 0 u.code u.tail

abbrev pub units_positions : ℕ → List FreeUnit → List Remark → List Placed
units_positions unit [] tail = placed_at at_end tail
units_positions unit (u ∷ us) tail = unit_positions unit u ++ units_positions (unit + 1) us tail

-- the comments of a written text in order, with their positions
abbrev pub written_positions : FreeProgram → List Placed
written_positions p = units_positions 0 p.units p.tail
