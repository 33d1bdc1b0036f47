-- When a DO has a terminal statement in its own list (X3.9 section 11.10), without a stack, and without regard to what is refused.
use Rattle.std.specs.Prelude.{◌≡◌, ◌⊎◌, ◌==◌, ◌&&◌, not, ℕ, Bool, true, false, List, [], ◌∷◌, ◌++◌, Contains}
use Rattle.std.specs.List.{list_any}
use Rattle.order77.specs.declared.mark.Sort.{Sort}
use Rattle.order77.specs.declared.mark.Sort.TheVariants.{Leaving, Do, If, ElseIf, Else, EndIf}
use Rattle.order77.specs.declared.mark.Mark.{Mark}
use Rattle.unit77.specs.Nesting.{names}
use Rattle.unit77.specs.Refusals.{lacking, all_shown}
use Rattle.unit77.specs.Units.{begins}

-- it parts or ends an IF
abbrev pub is_part : Sort → Bool
is_part ElseIf = true
is_part Else = true
is_part EndIf = true
is_part _ = false

-- a statement with the label ends every open DO that names it; ELSE IF, ELSE and END IF end none
abbrev pub is_terminal : ℕ → Mark → Bool
is_terminal t m = not (is_part m.sort) && (t == m.label)

-- A construct is ended among the statements behind the one that begins it: a DO by a statement with the label that it names, an IF
-- by an END IF before which each construct that begins inside the IF is ended.
pub data IsEnded : Mark → List Mark → Type 0 where
  by_label : {c : Mark} {after : List Mark} (t : ℕ) → c.sort ≡ Do t → list_any (is_terminal t) after ≡ true → IsEnded c after
  by_end_if : {c : Mark} {after : List Mark} (e : Mark) (inside behind : List Mark) → c.sort ≡ If → after ≡ inside ++ e ∷ behind → e.sort ≡ EndIf
      → ((before rest : List Mark) (d : Mark) → inside ≡ before ++ d ∷ rest → begins d.sort ≡ true → IsEnded d rest) → IsEnded c after

-- Among the statements behind a DO with the label `t` stands a terminal statement in the own list of the DO: the first one with the
-- label, where each construct that is open inside the DO is a DO that names the label.
pub record HasTerminal (t : ℕ) (after : List Mark) : Type 0 where
  pub between : List Mark
  pub terminal : Mark
  pub behind : List Mark
  pub stands : after ≡ between ++ terminal ∷ behind
  pub ends : is_terminal t terminal ≡ true
  pub first : list_any (is_terminal t) between ≡ false
  pub alone : (before rest : List Mark) (c : Mark) → between ≡ before ++ c ∷ rest → begins c.sort ≡ true → IsEnded c rest ⊎ (names t c.sort ≡ true)

-- A DO `h` whose number no other statement has is refused for lacking a terminal statement exactly where it has none in its own list.
-- END, `e`, counts as a terminal statement: with the label of the DO it is refused itself.
abbrev pub OwnLists : Type 0
OwnLists = (before after : List Mark) (h e : Mark) (t : ℕ) → h.sort ≡ Do t → e.sort ≡ Leaving → list_any (λ m. m.number == h.number) (before ++ after) ≡ false
    → (Contains (all_shown e [] (before ++ h ∷ after)) (lacking h) → HasTerminal t (after ++ e ∷ []) → ⊥)
    × ((HasTerminal t (after ++ e ∷ []) → ⊥) → Contains (all_shown e [] (before ++ h ∷ after)) (lacking h))
