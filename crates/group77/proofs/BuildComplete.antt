-- What is an expression is built, whatever follows it.
use Rattle.std.proofs.Common.{◌≡◌, ℕ, zero, suc, Bool, true, false, not, ◌&&◌, List, [], ◌∷◌, ◌++◌, Some, None, refl, sym, ap, ◌∙◌, append_assoc, append-nil}
use Rattle.text_base.specs.Trees.{UnaryOp, plus, minus, negation, BinaryOp, Expr, name, call, Exprs, none, more, Bound, at}
use Rattle.expr_tree.specs.Plain.{exprs_of}
use Rattle.tree77.specs.Expressions.{Symbol, operand, alternate, operator, not_sign, opening, closing, comma, colon, Grammar, sign_symbol, Equivalence, Argument, argument_expression, argument_alternate, Listed, listed_one, listed_more, IsCall, IsParent, parent_variable, parent_element, IsBound, bound_absent, bound_at, Primary, primary_operand, primary_reference, primary_empty, primary_substring, primary_paren, Nested, IsExpression}
use Rattle.group77.specs.Grouping.{group, read_factor, read_term, read_signed, read_sum, read_concatenation, read_relation, read_negation, read_conjunction, read_disjunction, read_equivalence}
use Rattle.group77.specs.Building.{grouping, listing, parting, bounding, Level, State, standing, is_after, is_specifier, read_argument, read_bound, is_bare, open_level, build_from, build}
use Rattle.group77.proofs.GroupLaw.{IsOperand, group_only}
use Rattle.group77.proofs.Carrying.{Facts, Carries, equivalence_carried}
use Rattle.group77.proofs.BuilderSteps.{last_splits, after_last, opens_group}

-- the same, where what stands last may be an array element
abbrev after : Bool → List Level → List Symbol → State
after e ls b = record { levels = ls; symbols = b; element = e }

-- reading the first text from the first state is reading the second from the second
abbrev Goes : State → List Symbol → State → List Symbol → Type 0
Goes s t s2 u = build_from s t ≡ build_from s2 u

-- ---- steps

-- an operand is read behind none
operand_goes : (x : Expr) (ls : List Level) (b rest : List Symbol) → is_after b ≡ false → Goes (standing ls b) (operand x ∷ rest) (standing ls (b ++ operand x ∷ [])) rest
operand_goes x ls b rest h = rw h refl

-- an operator is read behind an operand
operator_goes : (o : BinaryOp) (e : Bool) (ls : List Level) (b rest : List Symbol) → is_after b ≡ true → Goes (after e ls b) (operator o ∷ rest) (standing ls (b ++ operator o ∷ [])) rest
operator_goes o e ls b rest h = rw h refl

-- a sign or .NOT. is read behind no operand
sign_goes : (s : UnaryOp) (ls : List Level) (b rest : List Symbol) → is_after b ≡ false → Goes (standing ls b) (sign_symbol s ∷ rest) (standing ls (b ++ sign_symbol s ∷ [])) rest
sign_goes plus ls b rest h = rw h refl
sign_goes minus ls b rest h = rw h refl
sign_goes negation ls b rest h = rw h refl

-- no operand stands behind a sign
sign_last : (s : UnaryOp) (b : List Symbol) → is_after (b ++ sign_symbol s ∷ []) ≡ false
sign_last plus b = after_last b (sign_symbol plus)
sign_last minus b = after_last b (sign_symbol minus)
sign_last negation b = after_last b not_sign

-- behind a name a parenthesis opens a list
listing_goes : (f : List ℕ) (ls : List Level) (b rest : List Symbol) → is_after b ≡ false → Goes (standing ls b) (operand (name f) ∷ opening ∷ rest) (open_level ls b (listing f [] true)) rest
listing_goes f ls b rest h = operand_goes (name f) ls b (opening ∷ rest) h ∙ rw (last_splits b (operand (name f))) refl

-- behind an element it opens the bounds of a part of it
parting_goes : (x : Expr) (ls : List Level) (b rest : List Symbol) → Goes (after true ls (b ++ operand x ∷ [])) (opening ∷ rest) (open_level ls b (parting x)) rest
parting_goes x ls b rest = rw (last_splits b (operand x)) refl

-- ---- a text and its symbols

-- the text leads to the symbols, behind no operand, and an operand stands last
record Passes (t ss : List Symbol) : Type 0 where
  element : Bool
  ends : (b : List Symbol) → is_after (b ++ ss) ≡ true
  goes : (ls : List Level) (b rest : List Symbol) → is_after b ≡ false → Goes (standing ls b) (t ++ rest) (after element ls (b ++ ss)) rest

-- two texts with an operator between them lead to their symbols with the operator
joined_passes : (o : BinaryOp) (t u ss rs : List Symbol) → Passes t ss → Passes u rs → Passes (t ++ operator o ∷ u) (ss ++ operator o ∷ rs)
joined_passes o t u ss rs p q =
    record {
      element = q.element;
      ends = λ b. ap is_after (around b) ∙ q.ends ((b ++ ss) ++ operator o ∷ []);
      goes = λ ls b rest h.
          ap (build_from (standing ls b)) (append_assoc t (operator o ∷ u) rest) ∙ p.goes ls b (operator o ∷ (u ++ rest)) h ∙ operator_goes o p.element ls (b ++ ss) (u ++ rest) (p.ends b)
          ∙ q.goes ls ((b ++ ss) ++ operator o ∷ []) rest (after_last (b ++ ss) (operator o)) ∙ ap (λ w. build_from (after q.element ls w) rest) (sym (around b));
    }
  where
    around : (b : List Symbol) → b ++ (ss ++ operator o ∷ rs) ≡ ((b ++ ss) ++ operator o ∷ []) ++ rs
    around b = sym (append_assoc b ss (operator o ∷ rs)) ∙ sym (append_assoc (b ++ ss) (operator o ∷ []) rs)

-- a sign and a text lead to the sign and its symbols
signed_passes : (s : UnaryOp) (t ss : List Symbol) → Passes t ss → Passes (sign_symbol s ∷ t) (sign_symbol s ∷ ss)
signed_passes s t ss p =
    record {
      element = p.element;
      ends = λ b. ap is_after (sym (append_assoc b (sign_symbol s ∷ []) ss)) ∙ p.ends (b ++ sign_symbol s ∷ []);
      goes = λ ls b rest h.
          sign_goes s ls b (t ++ rest) h ∙ p.goes ls (b ++ sign_symbol s ∷ []) rest (sign_last s b) ∙ ap (λ w. build_from (after p.element ls w) rest) (append_assoc b (sign_symbol s ∷ []) ss);
    }

-- symbols that the text leads to
abbrev Taken : Facts (Unit {0}) → List Symbol → Type 0
Taken X t = (ss : List Symbol) × Passes t ss × X tt ss

-- operators and signs keep that
taken_carries : Carries (Unit {0}) Taken
taken_carries =
    record {
      turned = λ X Y f t p. (p.0, p.1, f tt p.0 p.2);
      joined = λ o X Y t u p q. (p.0 ++ operator o ∷ q.0, joined_passes o t u p.0 q.0 p.1 q.1, (p.0, q.0, refl, p.2, q.2));
      signed = λ s X t p. (sign_symbol s ∷ p.0, signed_passes s t p.0 p.1, (p.0, refl, p.2));
    }

-- ---- what is grouped

-- no symbols are no expression
group_none : group [] ≡ None
unfolding group read_factor read_term read_signed read_sum read_concatenation read_relation read_negation read_conjunction read_disjunction read_equivalence
group_none = refl

-- an alternate is no expression
group_alternate : group (alternate ∷ []) ≡ None
unfolding group read_factor read_term read_signed read_sum read_concatenation read_relation read_negation read_conjunction read_disjunction read_equivalence
group_alternate = refl

-- what is grouped is read as an argument, and is no alternate
argument_grouped : (ss : List Symbol) (x : Expr) → group ss ≡ Some x → (read_argument ss ≡ Some x) × (is_specifier ss ≡ false)
argument_grouped (alternate ∷ []) x h = let n = group_alternate in absurd cc
argument_grouped ss x h = (h, refl)

-- what is grouped is read as a bound
bound_grouped : (ss : List Symbol) (x : Expr) → group ss ≡ Some x → read_bound ss ≡ Some (at x)
bound_grouped [] x h = let n = group_none in absurd cc
bound_grouped (s ∷ ss) x h = rw h refl

-- where an argument is read last a list isn't empty
not_bare : (xs : List Expr) (ss : List Symbol) (a : Expr) → read_argument ss ≡ Some a → is_bare xs ss ≡ false
not_bare [] [] a h = let n = group_none in absurd cc
not_bare [] (s ∷ ss) a h = refl
not_bare (x ∷ xs) ss a h = refl

-- expressions before others
abbrev pub exprs_before : List Expr → Exprs → Exprs
exprs_before [] xs = xs
exprs_before (y ∷ ys) xs = more y (exprs_before ys xs)

-- one expression at the end stands behind the others
pub exprs_one : (ys : List Expr) (a : Expr) → exprs_of (ys ++ a ∷ []) ≡ exprs_before ys (more a none)
exprs_one [] a = refl
exprs_one (y ∷ ys) a = ap (λ xs. more y xs) (exprs_one ys a)

-- an expression at the end stands before what follows
pub exprs_more : (ys : List Expr) (a : Expr) (xs : Exprs) → exprs_before (ys ++ a ∷ []) xs ≡ exprs_before ys (more a xs)
exprs_more [] a xs = refl
exprs_more (y ∷ ys) a xs = ap (λ zs. more y zs) (exprs_more ys a xs)

-- ---- what stands inside parentheses

-- a text behind an opening parenthesis leads to symbols
record Inside (t : List Symbol) (Read : List Symbol → Type 0) : Type 0 where
  symbols : List Symbol
  read : Read symbols
  element : Bool
  goes : (ls : List Level) (rest : List Symbol) → Goes (standing ls []) (t ++ rest) (after element ls symbols) rest

-- the same in a list, where all may have to be subscripts
record InList (subscripts : Bool) (t : List Symbol) (x : Expr) : Type 0 where
  symbols : List Symbol
  read : read_argument symbols ≡ Some x
  is_subscript : subscripts ≡ true → is_specifier symbols ≡ false
  element : Bool
  goes : (f : List ℕ) (xs : List Expr) (e : Bool) (b : List Symbol) (ls : List Level) (rest : List Symbol)
      → Goes (open_level ls b (listing f xs e)) (t ++ rest) (after element (record { before = b; of = listing f xs e } ∷ ls) symbols) rest

-- what a list of arguments becomes
record Closes (subscripts : Bool) (t : List Symbol) (f : List ℕ) (ys : List Expr) (e : Bool) (x : Expr) : Type 0 where
  element : Bool
  is_element : subscripts ≡ true → element ≡ true
  goes : (b : List Symbol) (ls : List Level) (rest : List Symbol) → Goes (open_level ls b (listing f ys e)) (t ++ closing ∷ rest) (after element ls (b ++ operand x ∷ [])) rest

-- what may be an element is one still
still : (s e p : Bool) → (s ≡ true → e ≡ true) → (s ≡ true → p ≡ false) → s ≡ true → (e && not p) ≡ true
still s e p f g h = rw (f h, g h) refl

module _ (subscripts : Bool) (Part : Grammar) (part : (t : List Symbol) (x : Expr) → Part t x → InList subscripts t x) where
  -- arguments behind others are read up to the parenthesis that closes
  listed_closes : (t : List Symbol) (xs : Exprs) → Listed Part t xs → (f : List ℕ) (ys : List Expr) (e : Bool) → (subscripts ≡ true → e ≡ true) → Closes subscripts t f ys e (call f (exprs_before ys xs))
  listed_closes t xs (listed_one {a} d is) f ys e may =
      let k = part t a d in
      record {
        element = e && not (is_specifier k.symbols);
        is_element = still subscripts e (is_specifier k.symbols) may k.is_subscript;
        goes = λ b ls rest. k.goes f ys e b ls (closing ∷ rest) ∙ rw (not_bare ys k.symbols a k.read, k.read, is, exprs_one ys a) refl;
      }
  listed_closes t xs (listed_more {u} {v} {others} {a} whole d ds is) f ys e may =
      let k = part u a d in
      let q = listed_closes v others ds f (ys ++ a ∷ []) (e && not (is_specifier k.symbols)) (still subscripts e (is_specifier k.symbols) may k.is_subscript) in
      record {
        element = q.element;
        is_element = q.is_element;
        goes = λ b ls rest.
            ap (build_from (open_level ls b (listing f ys e))) (ap (λ w. w ++ closing ∷ rest) whole ∙ append_assoc u (comma ∷ v) (closing ∷ rest)) ∙ k.goes f ys e b ls (comma ∷ (v ++ closing ∷ rest))
            ∙ rw k.read refl ∙ q.goes b ls rest ∙ rw (exprs_more ys a others, is) refl;
      }

  -- a name and its list are read as an operand
  call_passes : (t : List Symbol) (x : Expr) → IsCall Part t x → (e : Bool) × (subscripts ≡ true → e ≡ true)
      × ((ls : List Level) (b rest : List Symbol) → is_after b ≡ false → Goes (standing ls b) (t ++ rest) (after e ls (b ++ operand x ∷ [])) rest)
  call_passes t x d =
      let q = listed_closes d.inside d.parts d.listed d.of [] true (λ h. refl) in (
        q.element,
        q.is_element,
        λ ls b rest h.
            ap (build_from (standing ls b)) (ap (λ w. w ++ rest) d.whole ∙ ap (λ w. operand (name d.of) ∷ opening ∷ w) (append_assoc d.inside (closing ∷ []) rest))
            ∙ listing_goes d.of ls b (d.inside ++ closing ∷ rest) h ∙ q.goes b ls rest ∙ ap (λ y. build_from (after q.element ls (b ++ operand y ∷ [])) rest) (sym d.tree),
      )

module _ (Inner : Grammar) (inner : (t : List Symbol) (x : Expr) → Inner t x → Taken (λ i ss. Equivalence IsOperand ss x) t) where
  -- an expression inside parentheses is read to what is grouped
  inside : (t : List Symbol) (x : Expr) → Inner t x → Inside t (λ ss. group ss ≡ Some x)
  inside t x d =
      let k = inner t x d in
      record { symbols = k.0; read = group_only k.0 x k.2; element = k.1.element; goes = λ ls rest. k.1.goes ls [] rest refl }

  -- an expression is read in a list
  expression_listed : (subscripts : Bool) (t : List Symbol) (x : Expr) → Inner t x → InList subscripts t x
  expression_listed subscripts t x d =
      let k = inside t x d in
      let g = argument_grouped k.symbols x k.read in
      record { symbols = k.symbols; read = g.0; is_subscript = λ h. g.1; element = k.element; goes = λ f xs e b ls rest. k.goes (record { before = b; of = listing f xs e } ∷ ls) rest }

  -- an argument is read in a list
  argument_listed : (t : List Symbol) (x : Expr) → Argument Inner t x → InList false t x
  argument_listed t x (argument_expression d) = expression_listed false t x d
  argument_listed t x (argument_alternate e is) = record { symbols = alternate ∷ []; read = rw is refl; is_subscript = λ h. absurd cc; element = false; goes = λ f xs s b ls rest. rw e refl }

  -- a bound is read
  bound_inside : (t : List Symbol) (b : Bound) → IsBound Inner t b → Inside t (λ ss. read_bound ss ≡ Some b)
  bound_inside t b (bound_absent e is) = record { symbols = []; read = rw is refl; element = false; goes = λ ls rest. rw e refl }
  bound_inside t b (bound_at {x} d is) =
      let k = inside t x d in
      record { symbols = k.symbols; read = rw is (bound_grouped k.symbols x k.read); element = k.element; goes = k.goes }

  -- what a substring is of is read, and its lower bound
  parent_goes : (t : List Symbol) (x : Expr) → IsParent Inner t x → (v : List Symbol) (from : Bound) → IsBound Inner v from → (ls : List Level) (b rest : List Symbol) → is_after b ≡ false
      → Goes (standing ls b) (t ++ opening ∷ (v ++ colon ∷ rest)) (open_level ls b (bounding x from)) rest
  parent_goes t x (parent_variable of e is) v from bound ls b rest h =
      let k = bound_inside v from bound in
      ap (λ w. build_from (standing ls b) (w ++ opening ∷ (v ++ colon ∷ rest))) e ∙ listing_goes of ls b (v ++ colon ∷ rest) h
      ∙ k.goes (record { before = b; of = listing of [] true } ∷ ls) (colon ∷ rest) ∙ rw (k.read, is) refl
  parent_goes t x (parent_element d) v from bound ls b rest h =
      let k = bound_inside v from bound in
      let q = call_passes true Inner (expression_listed true) t x d in
      q.2 ls b (opening ∷ (v ++ colon ∷ rest)) h
      ∙ ap (λ s. build_from (after s ls (b ++ operand x ∷ [])) (opening ∷ (v ++ colon ∷ rest))) (q.1 refl) ∙ parting_goes x ls b (v ++ colon ∷ rest)
      ∙ k.goes (record { before = b; of = parting x } ∷ ls) (colon ∷ rest) ∙ rw k.read refl

  -- each primary is read as an operand
  primary_goes : (t : List Symbol) (x : Expr) → Primary Inner t x → (e : Bool) × ((ls : List Level) (b rest : List Symbol) → is_after b ≡ false → Goes (standing ls b) (t ++ rest) (after e ls (b ++ operand x ∷ [])) rest)
  primary_goes t x (primary_operand e) = (false, λ ls b rest h. ap (λ w. build_from (standing ls b) (w ++ rest)) e ∙ operand_goes x ls b rest h)
  primary_goes t x (primary_reference d) = let q = call_passes false (Argument Inner) argument_listed t x d in (q.0, q.2)
  primary_goes t x (primary_empty of e is) = (false, λ ls b rest h. ap (λ w. build_from (standing ls b) (w ++ rest)) e ∙ listing_goes of ls b (closing ∷ rest) h ∙ rw is refl)
  primary_goes t x (primary_substring {u} {v} {w} {a} {from} {to} e d f g is) =
      let k = bound_inside w to g in (
        false,
        λ ls b rest h.
            let same : t ++ rest ≡ u ++ opening ∷ (v ++ colon ∷ (w ++ closing ∷ rest)) =
            ap (λ q. q ++ rest) e ∙ append_assoc u (opening ∷ (v ++ colon ∷ (w ++ closing ∷ []))) rest
            ∙ ap (λ q. u ++ opening ∷ q) (append_assoc v (colon ∷ (w ++ closing ∷ [])) rest ∙ ap (λ q. v ++ colon ∷ q) (append_assoc w (closing ∷ []) rest)) in
            ap (build_from (standing ls b)) same ∙ parent_goes u a d v from f ls b (w ++ closing ∷ rest) h
            ∙ k.goes (record { before = b; of = bounding a from } ∷ ls) (closing ∷ rest) ∙ rw (k.read, is) refl,
      )
  primary_goes t x (primary_paren {u} {a} e d is) =
      let k = inside u a d in (
        false,
        λ ls b rest h.
            ap (build_from (standing ls b)) (ap (λ q. q ++ rest) e ∙ ap (λ q. opening ∷ q) (append_assoc u (closing ∷ []) rest)) ∙ rw (opens_group false ls b h) refl
            ∙ k.goes (record { before = b; of = grouping } ∷ ls) (closing ∷ rest) ∙ rw (k.read, is) refl,
      )

  -- each primary leads to an operand
  primary_taken : (t : List Symbol) (x : Expr) → Primary Inner t x → Taken (λ i ss. IsOperand ss x) t
  primary_taken t x d = let q = primary_goes t x d in (operand x ∷ [], record { element = q.0; ends = λ b. after_last b (operand x); goes = q.1 }, refl)

-- an expression of any depth leads to symbols that are an expression of operands
nested_taken : (n : ℕ) (t : List Symbol) (x : Expr) → Nested n t x → Taken (λ i ss. Equivalence IsOperand ss x) t
nested_taken zero t x d = absurd d
nested_taken (suc n) t x d = equivalence_carried (Unit {0}) Taken taken_carries (Primary (Nested n)) (λ i. IsOperand) (primary_taken (Nested n) (nested_taken n)) t x d

-- what is an expression is built
pub expression_built : (t : List Symbol) (x : Expr) → IsExpression t x → build t ≡ Some x
unfolding build
expression_built t x d =
    let k = inside (Nested d.0) (nested_taken d.0) t x d.1 in
    ap (build_from (standing [] [])) (sym (append-nil t)) ∙ k.goes [] [] ∙ k.read
