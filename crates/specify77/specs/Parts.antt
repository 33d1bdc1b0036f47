-- Parts of forms that the code reads by themselves.
use Rattle.std.specs.Prelude.{List, codes}
use Rattle.std.specs.Option.{option_map}
use Rattle.forms77.specs.Reading.{Reader, read}
use Rattle.text_base.specs.Trees.{Expr}
use Rattle.tree77.specs.FormWords.{made, behind, listed, designator}
use Rattle.tree77.specs.Forms.{Form, inside, both, choice, perhaps, seen}
use Rattle.tree77.specs.SpecificationForms as form
use Rattle.tree77.specs.SpecificationForms.{Member}
use Rattle.tree77.specs.Statements.{Type77, Dimension, Implicit}

-- what stands behind the first expression of a dimension
abbrev pub dimension_behind : Expr → Reader Dimension
dimension_behind x s = option_map (λ a. (form.dimension_of x a.0, a.1)) (read (perhaps 58 form.upper_bound) s)

-- the types of IMPLICIT that are refused
abbrev pub other_types : Form Type77
other_types = form.refused_word (codes "REAL") (form.refused_word (codes "DOUBLEPRECISION") (form.refused_type (codes "COMPLEX")))

-- a type and its letters
abbrev pub one_implicit : Form Implicit
one_implicit = made (λ p. record { type = p.0; letters = p.1 }) (both form.implicit_type (inside (listed form.letters)))

-- what shares its storage
abbrev pub shared : Form (List Expr)
shared = seen form.two_or_more (inside (listed (designator (codes "),=:"))))

-- a member of COMMON behind another
abbrev pub next_member : Form Member
next_member = choice (codes ",") (behind 44 form.member) form.first_member
