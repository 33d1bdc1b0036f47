-- The declared tree as the plain one, in which each item has exactly one statement.
use Rattle.std.specs.Prelude.{ℕ, List, [], ◌∷◌, ◌++◌, map}
use Rattle.text_base.specs.Trees as t
use Rattle.text_base.specs.Remarks.{Remark}
use Rattle.expr_tree.specs.Plain.{expr_of}
use Rattle.tree90.specs.Tree.{Stmt, simple, Code, done, item, Declared, integer_object, FreeUnit, FreeProgram}
use Rattle.tree90.specs.declared.tree.Simple90.{Simple90}
use Rattle.tree90.specs.declared.tree.Simple90.TheVariants.{Assign, Stop}
use Rattle.tree90.specs.declared.tree.Stmt90.{Stmt90}
use Rattle.tree90.specs.declared.tree.Stmt90.TheVariants.{Simple}
use Rattle.tree90.specs.declared.tree.Item90.{Item90}
use Rattle.tree90.specs.declared.tree.Type90.{Type90}
use Rattle.tree90.specs.declared.tree.Type90.TheVariants.{Integer}
use Rattle.tree90.specs.declared.tree.Declared90.{Declared90}
use Rattle.tree90.specs.declared.tree.Declared90.TheVariants.{Object}
use Rattle.tree90.specs.declared.tree.Unit90.{Unit90}
use Rattle.tree90.specs.declared.tree.Program90.{Program90}

abbrev pub action_of : Simple90 → t.Action
action_of (Assign d e) = t.assign (expr_of d) (expr_of e)
action_of Stop = t.stop

abbrev pub stmt_of : Stmt90 → Stmt
stmt_of (Simple s) = simple (action_of s)

-- a list, and comments that no statement of it follows
abbrev pub CodeAndTail : Type 0
CodeAndTail = Code × List Remark

abbrev pub with_item : List Remark → Stmt → CodeAndTail → CodeAndTail
with_item remarks s rest = (item remarks s rest.0, rest.1)

-- The statements of an item, with the comments before them, before the items that follow. Where it has no statement
-- the comments go on to those.
abbrev pub body_of : List Remark → List Stmt90 → (List Remark → CodeAndTail) → CodeAndTail
body_of remarks [] rest = rest remarks
body_of remarks (s ∷ ss) rest = with_item remarks (stmt_of s) (body_of [] ss rest)

abbrev pub listed_of : List Remark → List Item90 → CodeAndTail
listed_of remarks [] = (done, remarks)
listed_of remarks (i ∷ is) = body_of (remarks ++ i.comments) i.body (λ left. listed_of left is)

abbrev pub object_of : Type90 → List ℕ → Declared
object_of Integer x = integer_object x

abbrev pub declared_of : Declared90 → Declared
declared_of (Object type x) = object_of type x

abbrev pub unit_of : Unit90 → FreeUnit
unit_of u = let listed = listed_of [] u.items in record {
  head = u.head;
  name = u.name;
  inner = u.inner;
  declared = map declared_of u.declared;
  code = listed.0;
  tail = listed.1 ++ u.tail;
}

abbrev pub program_of : Program90 → FreeProgram
program_of p = record { units = map unit_of p.units; tail = p.tail }
