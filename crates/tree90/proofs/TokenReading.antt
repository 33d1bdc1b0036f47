-- The tokens of a statement have at most one reading.
use Rattle.std.proofs.Common.{◌≡◌, ℕ, zero, suc, ◌==◌, true, List, [], ◌∷◌, drop, codes, refl, sym, ap, ◌∙◌, subst, arith}
use Rattle.std.specs.Prelude.{slice_index, if◌then◌else◌}
use Rattle.std.proofs.lemmas.Bool.{and_parts, leb-true, ne_eqb}
use Rattle.text_base.specs.Trees.{Expr, name, assign, stop}
use Rattle.tree77.specs.Expressions.{Symbol, IsExpression}
use Rattle.tree90.specs.Constants.{is_free_form_name}
use Rattle.tree90.specs.Tree.{simple, integer_object}
use Rattle.tree90.specs.FreeTokens.{Token, plain}
use Rattle.tree90.specs.FreeExpressions.{IsFreeExpression}
use Rattle.tree90.specs.FreeText.{FreeStatement, header, implicit_none, save, declaration, executable, end, SpellsFree, free_header, free_implicit, free_save, free_integer, free_assign, free_stop, free_end, free_end_together}
use Rattle.tree90.proofs.SymbolReading.{symbols, is_expression}

-- ---- the form of a statement

-- the forms of a statement
data Form : Type 0 where
  header_form : Form
  implicit_form : Form
  save_form : Form
  integer_form : Form
  assign_form : Form
  stop_form : Form
  end_form : Form
  end_together_form : Form

-- the characters of a token outside character constants
abbrev letters : Token → List ℕ
letters (plain w) = w
letters _ = []

-- the token at a place
abbrev word : List Token → ℕ → List ℕ
word [] n = []
word (w ∷ ts) zero = letters w
word (w ∷ ts) (suc n) = word ts n

-- the character of a token at a place
abbrev letter : Token → ℕ → ℕ
letter w n = slice_index (letters w) n

-- Two tokens and more are told by the first character of the second, if it is `=` or a colon, and else by the first
-- letter of all; one token by its second letter.
abbrev form : List Token → Form
form [] = stop_form
form (w ∷ []) = if letter w 1 == 65 then save_form else stop_form
form (w ∷ x ∷ []) = if letter x 0 == 61 then assign_form else (if letter w 0 == 80 then header_form else (if letter w 0 == 73 then implicit_form else end_together_form))
form (w ∷ x ∷ y ∷ ts) = if letter x 0 == 61 then assign_form else (if letter x 0 == 58 then integer_form else end_form)

-- a name doesn't begin with `=`
named_apart : (x : List ℕ) (f : Form) → is_free_form_name x ≡ true → (if slice_index x 0 == 61 then assign_form else f) ≡ f
named_apart x f named =
    let low = leb-true 65 (slice_index x 0) (and_parts _ _ (and_parts _ _ named).0).0 in
    ap (λ b. if b then assign_form else f) (ne_eqb (slice_index x 0) 61 (λ is. omega (arith, low, is)))

-- a name and `=` begin an assignment
assigned : (x : List ℕ) (us : List Token) → form (plain x ∷ plain (codes "=") ∷ us) ≡ assign_form
assigned x [] = refl
assigned x (u ∷ us) = refl

-- the statement of a form that the tokens are
abbrev IsOf : Form → List Token → FreeStatement → Type 0
IsOf header_form ts s = s ≡ header (word ts 1)
IsOf implicit_form ts s = s ≡ implicit_none
IsOf save_form ts s = s ≡ save
IsOf integer_form ts s = s ≡ declaration (integer_object (word ts 2))
IsOf assign_form ts s = (e : Expr) × IsFreeExpression (drop 2 ts) e × (s ≡ executable (simple (assign (name (word ts 0)) e)))
IsOf stop_form ts s = s ≡ executable (simple stop)
IsOf end_form ts s = s ≡ end (word ts 2)
IsOf end_together_form ts s = s ≡ end (word ts 1)

-- the statement of the tokens' form
abbrev IsFormed : FreeStatement → List Token → Type 0
IsFormed s ts = IsOf (form ts) ts s

-- each statement is of its tokens' form
of_form : (ts : List Token) (s : FreeStatement) → SpellsFree ts s → IsFormed s ts
of_form ts s (free_header {x} whole named is) =
    subst (IsFormed s) (sym whole) (subst (λ f. IsOf f (plain (codes "PROGRAM") ∷ plain x ∷ []) s) (sym (named_apart x header_form named)) is)
of_form ts s (free_implicit whole is) = subst (IsFormed s) (sym whole) is
of_form ts s (free_save whole is) = subst (IsFormed s) (sym whole) is
of_form ts s (free_integer whole named is) = subst (IsFormed s) (sym whole) is
of_form ts s (free_assign {x = x} {us = us} {e = e} whole named spelled is) =
    subst (IsFormed s) (sym whole) (subst (λ f. IsOf f (plain x ∷ plain (codes "=") ∷ us) s) (sym (assigned x us)) (e, spelled, is))
of_form ts s (free_stop whole is) = subst (IsFormed s) (sym whole) is
of_form ts s (free_end whole named is) = subst (IsFormed s) (sym whole) is
of_form ts s (free_end_together {x} whole named is) =
    subst (IsFormed s) (sym whole) (subst (λ f. IsOf f (plain (codes "ENDPROGRAM") ∷ plain x ∷ []) s) (sym (named_apart x end_together_form named)) is)

-- ---- one reading

-- what the grammar of symbols is known for
abbrev pub OneTree : Type 0
OneTree = (t : List Symbol) (x y : Expr) → IsExpression t x → IsExpression t y → x ≡ y

module _ (one_tree : OneTree) where
  -- tokens are one statement of a form at most
  form_unique : (f : Form) (ts : List Token) (s r : FreeStatement) → IsOf f ts s → IsOf f ts r → s ≡ r
  form_unique assign_form ts s r a b =
      let us = drop 2 ts in
      let values = one_tree (symbols us) a.0 b.0 (is_expression us a.0 a.1) (is_expression us b.0 b.1) in
      a.2 ∙ ap (λ e. executable (simple (assign (name (word ts 0)) e))) values ∙ sym b.2
  form_unique header_form ts s r a b = a ∙ sym b
  form_unique _ ts s r a b = a ∙ sym b

  -- tokens are one statement at most
  pub free_unique : (ts : List Token) (s r : FreeStatement) → SpellsFree ts s → SpellsFree ts r → s ≡ r
  free_unique ts s r a b = form_unique (form ts) ts s r (of_form ts s a) (of_form ts r b)
