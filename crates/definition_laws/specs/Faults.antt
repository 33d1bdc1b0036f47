-- Why and where runs fault, by the values of expressions.
use Rattle.std.specs.Prelude.{◌≡◌, ◌≢◌, ◌⊎◌, ℕ, ◌<◌, ℤ, All, Contains, IsTrue, List, [], ◌∷◌, length, slice_get, is_some, Option, Some, None}
use Rattle.std.specs.Option.{option_map, option_and_then}
use Rattle.text_base.specs.Cards.{comments}
use Rattle.text_base.specs.Trees.{BinaryOp, Expr, int, bool, text, name, call, substring, unary, binary, paren, Exprs, none, more, assign}
use Rattle.text_base.specs.Names.{expr_variables, expr_functions}
use Rattle.text_base.specs.Values.{Value, integer, logical, string, Kind, kind_of, Held, undefined, holds_integer, Fault, run_fault, no_meaning}
use Rattle.text_base.specs.Operations.{Computed, computes, faults, unfit, outcome}
use Rattle.text_base.specs.Operators.{unary_op, binary_op, intrinsic}
use Rattle.text_base.specs.ExpressionKinds.{kind_of_expr}
use Rattle.text_base.specs.Runs.{Final, going, ended, fault, gives, over}
use Rattle.text_base.specs.Evaluation.{Storage, Call, eval}
use Rattle.text_base.specs.declared.operation.Op.{Op}
use Rattle.text_base.specs.declared.operation.RunFault.{RunFault}
use Rattle.text_base.specs.declared.operation.RunFault.TheVariants.{Undefined}
use Rattle.text_base.specs.declared.refusal.Place.{Place}
use Rattle.text_base.specs.declared.stop_code.StopCode.{StopCode}
use Rattle.program77.specs.Tree.{SourceUnit, SourceProgram}
use Rattle.program77.specs.Typing.{is_typed}
use Rattle.program77.specs.Layout.{Entity, layout_of, entity_named}
use Rattle.program77.specs.Meaning.{Store, tagged, start77, run77}
use Rattle.tree90.specs.Meaning.{Objects}
use Rattle.project_set.specs.Conversion.{IsConvertible}
use Rattle.project_set.specs.Rewrite.{written}
use Rattle.value_ops.specs.Laws.{IsOperationFault}
use Rattle.definition_laws.specs.Storage.{AreNamed, place_of}
use Rattle.definition_laws.specs.Statements.{actions_of}
use Rattle.tree90.specs.Meaning.{run90}

-- ---- operations

-- the value that an operation gives, where it gives one
abbrev pub value_from : Computed → Option Value
value_from (computes v) = Some v
value_from (faults kind) = None
value_from unfit = None

-- ---- expressions

-- the value of an intrinsic function of some values; no other function has one
abbrev pub function_value : Option Op → List Value → Option Value
function_value None xs = None
function_value (Some op) xs = value_from (outcome op xs)

module _ (values : List ℕ → Option Value) where
  -- the value of an expression, where each of its variables has one, and each of its operations gives one
  abbrev mutual
    pub value_in : Expr → Option Value
    value_in (int v) = Some (integer v)
    value_in (bool b) = Some (logical b)
    value_in (text t) = Some (string t)
    value_in (name x) = values x
    value_in (call f xs) = option_and_then (function_value (intrinsic f)) (values_in xs)
    value_in (substring a from to) = None
    value_in (unary op a) = option_and_then (λ x. value_from (outcome (unary_op op) (x ∷ []))) (value_in a)
    value_in (binary op a b) = option_and_then (λ x. option_and_then (λ y. value_from (outcome (binary_op op) (x ∷ y ∷ []))) (value_in b)) (value_in a)
    value_in (paren a) = value_in a

    pub values_in : Exprs → Option (List Value)
    values_in none = Some []
    values_in (more a rest) = option_and_then (λ x. option_map (λ xs. x ∷ xs) (values_in rest)) (value_in a)

  -- a variable of the expression has no value
  abbrev pub HasUndefined : Expr → Type 0
  HasUndefined e = (x : List ℕ) × Contains (expr_variables e) x × (values x ≡ None)

  -- the operation faults so, of the values of its operands
  abbrev pub Fails : RunFault → Op → Exprs → Type 0
  Fails kind op operands = (xs : List Value) × (values_in operands ≡ Some xs) × (outcome op xs ≡ faults kind)

  -- one of the operations of an expression faults so, or one of its intrinsic functions
  abbrev mutual
    pub HasFault : RunFault → Expr → Type 0
    HasFault kind (unary op a) = HasFault kind a ⊎ Fails kind (unary_op op) (more a none)
    HasFault kind (binary op a b) = HasFault kind a ⊎ (HasFault kind b ⊎ Fails kind (binary_op op) (more a (more b none)))
    HasFault kind (call f xs) = HaveFault kind xs ⊎ ((op : Op) × (intrinsic f ≡ Some op) × Fails kind op xs)
    HasFault kind (paren a) = HasFault kind a
    HasFault kind (int v) = ⊥
    HasFault kind (bool b) = ⊥
    HasFault kind (text t) = ⊥
    HasFault kind (name x) = ⊥
    HasFault kind (substring a from to) = ⊥

    pub HaveFault : RunFault → Exprs → Type 0
    HaveFault kind none = ⊥
    HaveFault kind (more a rest) = HasFault kind a ⊎ HaveFault kind rest

-- the expression refers to no function but intrinsic ones
abbrev pub IsIntrinsic : Expr → Type 0
IsIntrinsic e = All (λ f. IsTrue (is_some (intrinsic f))) (expr_functions e)

-- Over any storage, what such an expression gives is its value; no statement is counted, and nothing changes.
abbrev pub ValuesAreGiven : Type 0 → Type 0
ValuesAreGiven W = (storage : Storage W) (function : Call W) (here : Place) (e : Expr) (n m : ℕ) (w u : W) (v : Value) → IsIntrinsic e → eval storage function here e n w ≡ gives m u v
    → (m ≡ n) × (u ≡ w) × (value_in (storage.read w) e ≡ Some v)

-- Where an expression has a value, it gives it.
abbrev pub GivenAreValues : Type 0 → Type 0
GivenAreValues W = (storage : Storage W) (function : Call W) (here : Place) (e : Expr) (n : ℕ) (w : W) (v : Value) → value_in (storage.read w) e ≡ Some v
    → eval storage function here e n w ≡ gives n w v

-- It faults with Undefined only where a variable of it has no value, and in another way only where one of its operations
-- does. It faults at its statement, and the run is over in no other way.
abbrev pub UndefinedHasCause : Type 0 → Type 0
UndefinedHasCause W = (storage : Storage W) (function : Call W) (here at : Place) (e : Expr) (n : ℕ) (w : W) → IsIntrinsic e → eval storage function here e n w ≡ over (fault at (run_fault Undefined))
    → HasUndefined (storage.read w) e

abbrev pub FaultHasCause : Type 0 → Type 0
FaultHasCause W = (storage : Storage W) (function : Call W) (here at : Place) (e : Expr) (n : ℕ) (w : W) (kind : RunFault) → IsIntrinsic e → eval storage function here e n w ≡ over (fault at (run_fault kind))
    → ((kind ≡ Undefined) × HasUndefined (storage.read w) e) ⊎ HasFault (storage.read w) kind e

abbrev pub FaultsAreHere : Type 0 → Type 0
FaultsAreHere W = (storage : Storage W) (function : Call W) (here : Place) (e : Expr) (n : ℕ) (w : W) (f : Final W) → IsIntrinsic e → eval storage function here e n w ≡ over f
    → (kind : Fault) × (f ≡ fault here kind)

-- A fault of the left operand comes first, and so does one of the first argument of a function.
abbrev pub LeftIsFirst : Type 0 → Type 0
LeftIsFirst W = (storage : Storage W) (function : Call W) (here : Place) (op : BinaryOp) (a b : Expr) (n : ℕ) (w : W) (f : Final W) → eval storage function here a n w ≡ over f
    → eval storage function here (binary op a b) n w ≡ over f

abbrev pub FirstArgumentIsFirst : Type 0 → Type 0
FirstArgumentIsFirst W = (storage : Storage W) (function : Call W) (here : Place) (x : List ℕ) (a : Expr) (rest : Exprs) (n : ℕ) (w : W) (f : Final W) → eval storage function here a n w ≡ over f
    → eval storage function here (call x (more a rest)) n w ≡ over f

-- Where an expression has a type by those of its variables, and the values of these are of their types, it gives values of its
-- type alone, and has a meaning.
abbrev pub TypedHaveMeaning : Type 0 → Type 0
TypedHaveMeaning W = (storage : Storage W) (function : Call W) (here : Place) (kinds : List ℕ → Option Kind) (e : Expr) (k : Kind) (n : ℕ) (w : W) → kind_of_expr kinds e ≡ Some k
    → ((x : List ℕ) (l : Kind) (v : Value) → kinds x ≡ Some l → storage.read w x ≡ Some v → kind_of v ≡ l)
    → ((m : ℕ) (u : W) (v : Value) → eval storage function here e n w ≡ gives m u v → kind_of v ≡ k) × ((at : Place) → eval storage function here e n w ≡ over (fault at no_meaning) → ⊥)

-- ---- runs

-- The main program has an assignment at the place, and so many statements before it, which are fewer than n; the run does
-- those without fault, and there is a cause of this fault in the store that it comes to the assignment with.
pub record FaultsBy (p : SourceProgram) (n : ℕ) (here : Place) (Cause : Store → Expr → Type 0) : Type 0 where
  pub main : SourceUnit
  pub is_main : slice_get p.units 0 ≡ Some main
  pub variable : Expr
  pub value : Expr
  pub before : ℕ
  pub stands : slice_get (actions_of main.code) before ≡ Some (here, assign variable value)
  pub earlier : before < n
  pub store : Store
  pub reached : run77 p before ≡ going store
  pub cause : Cause store value

-- no integer is held
abbrev pub HoldsNoInteger : Held → Type 0
HoldsNoInteger h = (z : ℤ) → h ≢ holds_integer z

-- the place of a variable of the main program holds no integer
abbrev pub IsUndefined : SourceProgram → Store → List ℕ → Type 0
IsUndefined p w x = (e : Entity) × (entity_named (layout_of p).entities 0 x ≡ Some e) × (h : Held) × (slice_get w.numbers (place_of (layout_of p) e) ≡ Some h) × HoldsNoInteger h

abbrev pub ReadsUndefined : SourceProgram → Store → Expr → Type 0
ReadsUndefined p w e = (x : List ℕ) × Contains (expr_variables e) x × IsUndefined p w x

abbrev pub FaultsWith : SourceProgram → RunFault → Store → Expr → Type 0
FaultsWith p kind w e = HasFault ((tagged (layout_of p) 0).read w) kind e

-- A run faults with Undefined only at an assignment that reads a variable whose place holds no integer there, and with a fault
-- of operations only at one with an operation that faults so there.
abbrev pub UndefinedIsRead : Type 0
UndefinedIsRead = (p : SourceProgram) (n : ℕ) (here : Place) → AreNamed p → run77 p n ≡ fault here (run_fault Undefined) → FaultsBy p n here (ReadsUndefined p)

abbrev pub FaultIsReached : Type 0
FaultIsReached = (p : SourceProgram) (n : ℕ) (here : Place) (kind : RunFault) → IsOperationFault kind → run77 p n ≡ fault here (run_fault kind) → FaultsBy p n here (FaultsWith p kind)

-- nothing, or an integer
abbrev pub IsPlain : Held → Type 0
IsPlain h = (h ≡ undefined) ⊎ ((z : ℤ) × (h ≡ holds_integer z))

-- a store with the places of the program; where each part of the main program has the type that its place needs, none of them
-- holds a logical
pub record IsStoreOf (p : SourceProgram) (w : Store) : Type 0 where
  pub places : length w.numbers ≡ length (start77 (layout_of p)).numbers
  pub plain : (main : SourceUnit) → slice_get p.units 0 ≡ Some main → IsTrue (is_typed main) → All IsPlain w.numbers

-- The stores of a run are such.
abbrev pub StoresOfRuns : Type 0
StoresOfRuns = (p : SourceProgram) (n : ℕ) (w : Store) → run77 p n ≡ going w → IsStoreOf p w

abbrev pub StoresAtEnd : Type 0
StoresAtEnd = (p : SourceProgram) (n : ℕ) (w : Store) (code : Option StopCode) → run77 p n ≡ ended w code → IsStoreOf p w

-- ---- sources that are converted

-- a fault of an operation
abbrev pub IsOfOperation : Fault → Type 0
IsOfOperation (run_fault kind) = IsOperationFault kind
IsOfOperation no_meaning = ⊥

-- A source that is converted faults only with Undefined or with a fault of an operation, and what is written for it only with a
-- fault of an operation, from any objects. Both always have a meaning.
abbrev pub SourceFaultsInTwoWays : Type 0
SourceFaultsInTwoWays = (bytes : List ℕ) (p : SourceProgram) (n : ℕ) (here : Place) (kind : Fault) → IsConvertible bytes p → run77 p n ≡ fault here kind
    → (kind ≡ run_fault Undefined) ⊎ IsOfOperation kind

abbrev pub WrittenFaultsInOneWay : Type 0
WrittenFaultsInOneWay = (bytes : List ℕ) (p : SourceProgram) (start : Objects) (m : ℕ) (here : Place) (kind : Fault) → IsConvertible bytes p
    → run90 start (written (comments bytes) p) m ≡ fault here kind → IsOfOperation kind
