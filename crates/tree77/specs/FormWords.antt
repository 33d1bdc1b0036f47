-- Words for forms.
use Rattle.std.specs.Prelude.{◌&&◌, ℕ, Bool, true, false, List, [], ◌∷◌, codes, Option, Some, None, if◌then◌else◌}
use Rattle.std.specs.Option.{is_some}
use Rattle.text_base.specs.Trees as e
use Rattle.text_base.specs.Trees.{Expr}
use Rattle.text_base.specs.declared.refusal.Cause.TheVariants.{Unsupported}
use Rattle.tree77.specs.Forms.{Form, text, nothing, mark, word, portion, inside, both, choice, told, perhaps, repeated, seen}
use Rattle.tree77.specs.Lexemes.{Part}

-- what it stands for, made of what the parts stand for
abbrev pub made : {A B : Type 0} → (A → B) → Form A → Form B
made view f = seen (λ x. Some (view x)) f

-- a form behind a mark
abbrev pub behind : {A : Type 0} → ℕ → Form A → Form A
behind c f = made (λ p. p.1) (both (mark c) f)

-- a mark that may stand here, and whether it does
abbrev pub flag : ℕ → Form Bool
flag c = made is_some (perhaps c (nothing (tt {0})))

-- one or more, with commas between them
abbrev pub listed : {A : Type 0} → Form A → Form (List A)
listed f = made (λ p. p.0 ∷ p.1) (both f (repeated (44 ∷ []) (behind 44 f)))

-- some in parentheses, or none in parentheses; one begins with one of these sorts
abbrev pub enclosed : {A : Type 0} → List ℕ → Form A → Form (List A)
enclosed ks f = inside (choice ks (listed f) (nothing []))

-- the same, or nothing
abbrev pub grouped : {A : Type 0} → List ℕ → Form A → Form (List A)
grouped ks f = choice (codes "(") (enclosed ks f) (nothing [])

-- `WORD=` and a form, or another form
abbrev pub keyed : {A : Type 0} → List ℕ → Form A → Form A → Form A
keyed w f g = told (text w (codes "=")) (made (λ p. p.1.1) (both (word w) (both (mark 61) f))) g

-- a part that is refused, with the word that the refusal shows
abbrev pub unsupported : List ℕ → Part
unsupported w = record { cause = Unsupported; shown = w }

-- what is behind a comma, if there is something
abbrev pub or_none : {A : Type 0} → Option (List A) → List A
or_none None = []
or_none (Some xs) = xs

-- ---- expressions (X3.9 section 6)

-- what an expression begins with
abbrev pub expression_sorts : List ℕ
expression_sorts = codes "A0'(.+-"

-- an expression, which a parenthesis that closes, a comma, an equals sign or a colon ends
abbrev pub expression : Form Expr
expression = portion false (codes "),=:")

-- what is defined, or may be: a variable, an array element or a substring (X3.9 sections 5.3, 5.4 and 5.7)
abbrev pub are_some : e.Exprs → Bool
are_some e.none = false
are_some (e.more x xs) = true

abbrev pub is_designator : Expr → Bool
is_designator (e.name x) = true
is_designator (e.call f xs) = are_some xs
is_designator (e.substring x from to) = true
is_designator _ = false

abbrev pub if_designator : Expr → Option Expr
if_designator x = if is_designator x then Some x else None

abbrev pub designator : List ℕ → Form Expr
designator marks = seen if_designator (portion true marks)

-- an array element
abbrev pub is_element : Expr → Bool
is_element (e.call f xs) = are_some xs
is_element _ = false

abbrev pub if_element : Expr → Option Expr
if_element x = if is_element x then Some x else None

abbrev pub element : Form Expr
element = seen if_element (portion true (codes "),=:"))

-- a constant or a name of one, which may have a sign (X3.9 section 9.1)
abbrev pub is_unsigned : Expr → Bool
is_unsigned (e.int n) = true
is_unsigned (e.bool b) = true
is_unsigned (e.text t) = true
is_unsigned (e.name x) = true
is_unsigned _ = false

abbrev pub is_integer : Expr → Bool
is_integer (e.int n) = true
is_integer _ = false

abbrev pub is_sign : e.UnaryOp → Bool
is_sign e.plus = true
is_sign e.minus = true
is_sign e.negation = false

abbrev pub is_constant : Expr → Bool
is_constant (e.unary o x) = is_sign o && is_integer x
is_constant x = is_unsigned x

abbrev pub if_constant : Expr → Option Expr
if_constant x = if is_constant x then Some x else None

-- a constant, which one of these marks ends
abbrev pub constant : List ℕ → Form Expr
constant marks = seen if_constant (portion true marks)

-- an integer constant
abbrev pub if_integer : Expr → Option Expr
if_integer x = if is_integer x then Some x else None

abbrev pub integer : List ℕ → Form Expr
integer marks = seen if_integer (portion true marks)

-- the name of a variable
abbrev pub variable_of : Expr → Option (List ℕ)
variable_of (e.name x) = Some x
variable_of _ = None

-- the characters of a character constant
abbrev pub text_of : Expr → Option (List ℕ)
text_of (e.text t) = Some t
text_of _ = None
