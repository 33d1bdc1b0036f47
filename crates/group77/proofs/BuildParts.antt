-- The texts of symbols, one after another: that of an operand is what a grammar has for it, any other symbol is its own.
use Rattle.std.proofs.Common.{◌≡◌, List, [], ◌∷◌, ◌++◌, refl, sym, ap, ◌∙◌, subst, append_assoc, append-nil}
use Rattle.text_base.specs.Trees.{UnaryOp, plus, minus, negation, Expr}
use Rattle.tree77.specs.Expressions.{Symbol, operand, operator, Grammar, sign_symbol, Equivalence}
use Rattle.group77.proofs.GroupLaw.{IsOperand}
use Rattle.group77.proofs.Carrying.{Facts, Carries, equivalence_carried}

-- the text of an operand is what the grammar has for it; any other symbol is its own text
abbrev pub IsPart : Grammar → List Symbol → Symbol → Type 0
IsPart P t (operand x) = P t x
IsPart P t s = t ≡ s ∷ []

-- a text of two others
pub record Parted (First Rest : List Symbol → Type 0) (t : List Symbol) : Type 0 where
  pub first : List Symbol
  pub rest : List Symbol
  pub whole : t ≡ first ++ rest
  pub begins : First first
  pub goes_on : Rest rest

-- the text is that of the symbols, one after another
abbrev pub AreParts : Grammar → List Symbol → List Symbol → Type 0
AreParts P t [] = t ≡ []
AreParts P t (s ∷ ss) = Parted (λ u. IsPart P u s) (λ v. AreParts P v ss) t

module _ (P : Grammar) where
  -- the text of one symbol is that of the list of it
  pub parts_one : (s : Symbol) (t : List Symbol) → IsPart P t s → AreParts P t (s ∷ [])
  parts_one s t p = record { first = t; rest = []; whole = sym (append-nil t); begins = p; goes_on = refl }

  -- the text of a list of one symbol is that of the symbol
  pub one_part : (s : Symbol) (t : List Symbol) → AreParts P t (s ∷ []) → IsPart P t s
  one_part s t p = let same : t ≡ p.first = p.whole ∙ ap (λ w. p.first ++ w) p.goes_on ∙ append-nil p.first in subst (λ w. IsPart P w s) (sym same) p.begins

  -- texts of symbols, one behind the other, are the text of all
  pub parts_append : (ss rs t u : List Symbol) → AreParts P t ss → AreParts P u rs → AreParts P (t ++ u) (ss ++ rs)
  parts_append [] rs t u p q = rw p q
  parts_append (s ∷ ss) rs t u p q =
      record { first = p.first; rest = p.rest ++ u; whole = ap (λ w. w ++ u) p.whole ∙ append_assoc p.first p.rest u; begins = p.begins; goes_on = parts_append ss rs p.rest u p.goes_on q }

  -- the text of symbols is cut where the symbols are
  pub parts_cut : (ss rs t : List Symbol) → AreParts P t (ss ++ rs) → Parted (λ u. AreParts P u ss) (λ v. AreParts P v rs) t
  parts_cut [] rs t p = record { first = []; rest = t; whole = refl; begins = refl; goes_on = p }
  parts_cut (s ∷ ss) rs t p =
      let q = parts_cut ss rs p.rest p.goes_on in
      record {
        first = p.first ++ q.first;
        rest = q.rest;
        whole = p.whole ∙ ap (λ w. p.first ++ w) q.whole ∙ sym (append_assoc p.first q.first q.rest);
        begins = record { first = p.first; rest = q.first; whole = refl; begins = p.begins; goes_on = q.begins };
        goes_on = q.goes_on;
      }

  -- what holds of each text of the symbols
  abbrev OfTexts : Facts (Unit {0}) → List Symbol → Type 0
  OfTexts X ss = (t : List Symbol) → AreParts P t ss → X tt t

  -- the text of a sign is the sign
  sign_part : (s : UnaryOp) (t ss : List Symbol) → AreParts P t (sign_symbol s ∷ ss) → (u : List Symbol) × (t ≡ sign_symbol s ∷ u) × AreParts P u ss
  sign_part plus t ss p = (p.rest, p.whole ∙ ap (λ w. w ++ p.rest) p.begins, p.goes_on)
  sign_part minus t ss p = (p.rest, p.whole ∙ ap (λ w. w ++ p.rest) p.begins, p.goes_on)
  sign_part negation t ss p = (p.rest, p.whole ∙ ap (λ w. w ++ p.rest) p.begins, p.goes_on)

  texts_carry : Carries (Unit {0}) OfTexts
  texts_carry =
      record {
        turned = λ X Y f ss m t p. f tt t (m t p);
        joined = λ o X Y ss rs m n t p.
            let q = parts_cut ss (operator o ∷ rs) t p in
            let r = q.goes_on in
            (q.first, r.rest, q.whole ∙ ap (λ w. q.first ++ w) (r.whole ∙ ap (λ w. w ++ r.rest) r.begins), m q.first q.begins, n r.rest r.goes_on);
        signed = λ s X ss m t p. let q = sign_part s t ss p in (q.0, q.1, m q.0 q.2);
      }

  -- where symbols are an expression of operands, their text is one of what the operands stand for
  pub fill : (ss : List Symbol) (x : Expr) → Equivalence IsOperand ss x → (t : List Symbol) → AreParts P t ss → Equivalence P t x
  fill = equivalence_carried (Unit {0}) OfTexts texts_carry IsOperand (λ i. P) (λ ss x e t p. one_part (operand x) t (subst (λ w. AreParts P t w) e p))
