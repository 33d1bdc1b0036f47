-- The skeleton of the whole program, and what skeletons show of expressions.
use Rattle.std.specs.Prelude.{pos, true, List, [], ◌∷◌, codes}
use Rattle.text_base.specs.Trees.{minus, negation, power, add, subtract, conjunction, Expr, bool, text, call, substring, unary, binary, paren, none, more, absent, at}
use Rattle.project_set.specs.Skeleton.{Mark, leaf, integer, logical, characters, sign, operator, function, opening, closing, Entry, assigned, stopped, ended}
use Rattle.worked_examples.specs.Read.{variable, number}

abbrev pub whole_skeleton : List Entry
whole_skeleton =
    assigned (leaf ∷ []) (integer (pos 3) ∷ operator subtract ∷ integer (pos 2) ∷ [])
    ∷ assigned (leaf ∷ []) (leaf ∷ operator add ∷ integer (pos 4) ∷ [])
    ∷ assigned (leaf ∷ []) (leaf ∷ operator add ∷ integer (pos 1) ∷ [])
    ∷ stopped
    ∷ ended
    ∷ []

-- expressions, and what is shown of them
abbrev pub shown_expressions : List (Expr × List Mark)
shown_expressions =
    -- 7, .TRUE., 'AB', I
    (number 7, integer (pos 7) ∷ [])
    ∷ (bool true, logical true ∷ [])
    ∷ (text (codes "AB"), characters (codes "AB") ∷ [])
    ∷ (variable (codes "I"), leaf ∷ [])
    -- MOD(I+1,2); A(2:) is a leaf
    ∷ (
      call (codes "MOD") (more (binary add (variable (codes "I")) (number 1)) (more (number 2) none)),
      function (codes "MOD") ∷ opening ∷ leaf ∷ operator add ∷ integer (pos 1) ∷ integer (pos 2) ∷ closing ∷ [],
    )
    ∷ (substring (variable (codes "A")) (at (number 2)) absent, leaf ∷ [])
    -- -I, .NOT. L, (I-1)**2
    ∷ (unary minus (variable (codes "I")), sign minus ∷ leaf ∷ [])
    ∷ (unary negation (variable (codes "L")), sign negation ∷ leaf ∷ [])
    ∷ (binary power (paren (binary subtract (variable (codes "I")) (number 1))) (number 2), opening ∷ leaf ∷ operator subtract ∷ integer (pos 1) ∷ closing ∷ operator power ∷ integer (pos 2) ∷ [])
    -- L.AND.M
    ∷ (binary conjunction (variable (codes "L")) (variable (codes "M")), leaf ∷ operator conjunction ∷ leaf ∷ [])
    ∷ []
