-- Nested lists of executable statements, and the flat list that each stands for.
use Rattle.std.specs.Prelude.{ℕ, List, [], ◌∷◌, ◌++◌}
use Rattle.text_base.specs.declared.refusal.Place.{Place}
use Rattle.tree77.specs.Statements.{Statement}

-- a statement in its place
pub record Line : Type 0 where
  pub number : ℕ
  pub label : ℕ
  pub place : Place
  pub statement : Statement

-- items one after another, and the arms of an IF
mutual
  pub data Items : Type 0 where
    done : Items
    simple : Line → Items → Items
    -- a DO, its list, and what follows
    loop : Line → Items → Items → Items
    -- an IF with its arms, END IF, and what follows
    block : Arms → Line → Items → Items

  pub data Arms : Type 0 where
    last : Line → Items → Arms
    arm : Line → Items → Arms → Arms

abbrev pub first_line : Arms → Line
first_line (last h is) = h
first_line (arm h is more) = h

-- the statements of items; of arms, those behind the first one's
abbrev mutual
  pub flat : Items → List Line
  flat done = []
  flat (simple l is) = l ∷ flat is
  flat (loop l inside is) = l ∷ (flat inside ++ flat is)
  flat (block arms e is) = first_line arms ∷ (flat_arms arms ++ e ∷ flat is)

  pub flat_arms : Arms → List Line
  flat_arms (last h is) = flat is
  flat_arms (arm h is more) = flat is ++ first_line more ∷ flat_arms more
