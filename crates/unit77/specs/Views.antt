-- The declared trees as what the definitions speak of.
use Rattle.std.specs.Prelude.{◌==◌, ◌&&◌, ℕ, Bool, true, false, List, [], ◌∷◌, map, fold, Option, Some, None}
use Rattle.std.specs.Option.{option_map}
use Rattle.text_base.specs.declared.refusal.Place.{Place}
use Rattle.expr_tree.specs.Plain.{expr_of}
use Rattle.expr_tree.specs.declared.tree.Expr.{Expr}
use Rattle.tree77.specs.Statements as s
use Rattle.tree77.specs.Statements.{Statement, Range}
use Rattle.tree77.specs.StatementPlain.{simple_of}
use Rattle.unit77.specs.declared.tree.Body77.{Body77, fold-Body77}
use Rattle.unit77.specs.declared.tree.Body77.TheOpen.{Body77-F, Arm77-F, Item77-F}
use Rattle.unit77.specs.declared.tree.Item77.{Item77, fold-Item77}
use Rattle.unit77.specs.declared.tree.Arm77.{Arm77, fold-Arm77}
use Rattle.unit77.specs.declared.tree.DoHead.{DoHead}
use Rattle.unit77.specs.declared.nester.Spot.{Spot}
use Rattle.unit77.specs.declared.nester.Construct.{Construct}
use Rattle.unit77.specs.declared.nester.Construct.TheVariants as construct
use Rattle.unit77.specs.declared.nester.Open as code
use Rattle.unit77.specs.declared.nester.Nester.{Nester}
use Rattle.unit77.specs.Tree.{Line, Items, done, simple, loop, block, Arms, last, arm}
use Rattle.unit77.specs.Running.{join, Part, Open, State, state}

abbrev pub line : ℕ → ℕ → Place → Statement → Line
line n l p x = record { number = n; label = l; place = p; statement = x }

-- ---- lists

abbrev pub items_from : List Items → Items
items_from [] = done
items_from (is ∷ more) = join is (items_from more)

-- an arm as it is folded
pub record ArmPart : Type 0 where
  pub number : ℕ
  pub label : ℕ
  pub place : Place
  pub test : Option Expr
  pub items : Items

-- the statement that an arm begins with, the first one or a later one
abbrev pub arm_statement : Bool → Option Expr → Statement
arm_statement true (Some x) = s.if_then (expr_of x)
arm_statement false (Some x) = s.else_if (expr_of x)
arm_statement first None = s.else_

abbrev pub later : ArmPart → Part
later a = record { head = line a.number a.label a.place (arm_statement false a.test); items = a.items }

-- whether an arm begins in the place of its IF
abbrev pub is_at : ℕ → ℕ → Place → ℕ → ℕ → Place → Bool
is_at n l p number label place = (number == n) && ((label == l) && ((place.file == p.file) && (place.line == p.line)))

-- the arms of an IF in its place; where the first one begins elsewhere, it is none that an IF may begin with
abbrev pub parts_from : ℕ → ℕ → Place → List ArmPart → List Part
parts_from n l p [] = []
parts_from n l p (a ∷ as_) = record { head = line n l p (arm_statement (is_at n l p a.number a.label a.place) a.test); items = a.items } ∷ map later as_

-- An IF has at least one arm, so this stands for no IF.
abbrev pub no_arms : Arms
no_arms = last (line 0 0 (record { file = 0; line = 0 }) s.else_) done

abbrev pub front : Part → List Part → Arms
front p [] = last p.head p.items
front p (q ∷ ps) = arm p.head p.items (front q ps)

abbrev pub arms_from : List Part → Arms
arms_from [] = no_arms
arms_from (p ∷ ps) = front p ps

abbrev pub range_of_head : DoHead → Range
range_of_head h = record { variable = h.var; from = expr_of h.from; to = expr_of h.to; by = option_map expr_of h.by }

abbrev pub do_statement : DoHead → Statement
do_statement h = s.do_ h.terminal (range_of_head h)

-- what an item is in its place, as a list of one
abbrev pub Placed : Type 0
Placed = ℕ → ℕ → Place → Items

abbrev pub body_step : Body77-F Placed ArmPart Items → Placed
body_step (Body77-F.Simple a) = λ n l p. simple (line n l p (s.simple (simple_of a))) done
body_step (Body77-F.Guarded x a) = λ n l p. simple (line n l p (s.guarded (expr_of x) (simple_of a))) done
body_step (Body77-F.If arms last_) = λ n l p. block (arms_from (parts_from n l p arms)) (line last_.number last_.label last_.place s.end_if) done
body_step (Body77-F.Do h is) = λ n l p. loop (line n l p (do_statement h)) (items_from is) done

abbrev pub arm_step : Arm77-F Placed ArmPart Items → ArmPart
arm_step a = record { number = a.number; label = a.label; place = a.place; test = a.test; items = items_from a.items }

abbrev pub item_step : Item77-F Placed ArmPart Items → Items
item_step i = i.body i.number i.label i.place

unfoldable pub body_of : Body77 → Placed
body_of = fold-Body77 Placed ArmPart Items body_step arm_step item_step

unfoldable pub item_of : Item77 → Items
item_of = fold-Item77 Placed ArmPart Items body_step arm_step item_step

unfoldable pub arm_of : Arm77 → ArmPart
arm_of = fold-Arm77 Placed ArmPart Items body_step arm_step item_step

abbrev pub items_of : List Item77 → Items
items_of is = items_from (map item_of is)

-- ---- the pass

abbrev pub parts_of : Spot → List Arm77 → List Part
parts_of at arms = parts_from at.number at.label at.place (map arm_of arms)

abbrev pub arms_in : Spot → Construct → List Part
arms_in at (construct.Do h) = []
arms_in at (construct.If arms here test) = parts_of at arms

-- the statement that an open arm begins with, behind these arms
abbrev pub open_arm : Spot → List Arm77 → Spot → Option Expr → Line
open_arm at [] here test = line at.number at.label at.place (arm_statement (is_at at.number at.label at.place here.number here.label here.place) test)
open_arm at (a ∷ as_) here test = line here.number here.label here.place (arm_statement false test)

abbrev pub head_in : Spot → Construct → Line
head_in at (construct.Do h) = line at.number at.label at.place (do_statement h)
head_in at (construct.If arms here test) = open_arm at arms here test

abbrev pub open_of : code.Open → Open
open_of o = record { before = items_of o.before; arms = arms_in o.at o.construct; head = head_in o.at o.construct }

abbrev pub pushed : List Open → code.Open → List Open
pushed os o = open_of o ∷ os

-- the innermost construct stands last in the code
abbrev pub stack_of : List code.Open → List Open
stack_of os = fold pushed [] os

abbrev pub state_of : Nester → State
state_of n = state (items_of n.items) (stack_of n.open)
