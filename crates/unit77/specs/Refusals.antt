-- The statements that don't nest, by what is open where they stand. `hs` are the statements that the open DOs and arms begin
-- with, the innermost first.
use Rattle.std.specs.Prelude.{◌||◌, not, ℕ, Bool, true, false, List, [], ◌∷◌, ◌++◌, map, if◌then◌else◌}
use Rattle.order77.specs.declared.mark.Sort.{Sort}
use Rattle.order77.specs.declared.mark.Sort.TheVariants.{Plain, Do, If, ElseIf, Else, EndIf}
use Rattle.order77.specs.declared.mark.Mark.{Mark}
use Rattle.order77.specs.declared.mark.Stray.{Stray}
use Rattle.order77.specs.declared.mark.Fault.TheVariants.{Nesting, Terminal}
use Rattle.unit77.specs.Nesting.{names, named}
use Rattle.unit77.specs.Running.{may_part, may_close}

-- ---- what is open behind a statement

-- a terminal statement ends every open DO that names its label
abbrev pub without : ℕ → List Mark → List Mark
without k [] = []
without k (h ∷ hs) = if names k h.sort then without k hs else h ∷ without k hs

abbrev pub outer : List Mark → List Mark
outer [] = []
outer (h ∷ hs) = hs

abbrev pub next_open : Sort → Mark → List Mark → List Mark
next_open (Do t) m hs = m ∷ without m.label hs
next_open If m hs = m ∷ without m.label hs
next_open ElseIf m hs = if may_part hs then m ∷ outer hs else hs
next_open Else m hs = if may_part hs then m ∷ outer hs else hs
next_open EndIf m hs = if may_close hs then outer hs else hs
next_open _ m hs = without m.label hs

abbrev pub next : List Mark → Mark → List Mark
next hs m = next_open m.sort m hs

-- ---- what is refused at a statement

-- no IF that it may part or close is the innermost construct, or it is a terminal statement of a wrong kind
abbrev pub is_wrong : Sort → ℕ → List Mark → Bool
is_wrong Plain k hs = false
is_wrong ElseIf k hs = not (may_part hs)
is_wrong Else k hs = not (may_part hs)
is_wrong EndIf k hs = not (may_close hs)
is_wrong _ k hs = named k hs

-- the open DOs that name the label, the outermost first
abbrev pub naming : ℕ → List Mark → List Mark
naming k [] = []
naming k (h ∷ hs) = if names k h.sort then naming k hs ++ h ∷ [] else naming k hs

-- those of them inside which another construct is open
abbrev pub strays : ℕ → List Mark → List Mark
strays k [] = []
strays k (h ∷ hs) = if names k h.sort then strays k hs else naming k hs

abbrev pub ended_wrongly : Sort → ℕ → List Mark → List Mark
ended_wrongly ElseIf k hs = []
ended_wrongly Else k hs = []
ended_wrongly EndIf k hs = []
ended_wrongly _ k hs = strays k hs

abbrev pub terminal_of : Sort → ℕ
terminal_of (Do t) = t
terminal_of _ = 0

-- a DO without terminal statement in its own list
abbrev pub lacking : Mark → Stray
lacking h = record { number = h.number; fault = Terminal (terminal_of h.sort) }

abbrev pub wrong : Mark → Stray
wrong m = record { number = m.number; fault = Nesting }

abbrev pub shown : List Mark → Mark → List Stray
shown hs m = (if is_wrong m.sort m.label hs then wrong m ∷ [] else []) ++ map lacking (ended_wrongly m.sort m.label hs)

-- ---- what is refused at END

abbrev pub is_loop : Sort → Bool
is_loop (Do t) = true
is_loop _ = false

abbrev pub has_if : List Mark → Bool
has_if [] = false
has_if (h ∷ hs) = not (is_loop h.sort) || has_if hs

-- the open DOs, the outermost first
abbrev pub loops : List Mark → List Mark
loops [] = []
loops (h ∷ hs) = if is_loop h.sort then loops hs ++ h ∷ [] else loops hs

-- those of them but the innermost ones that name the label of END
abbrev pub unended : ℕ → List Mark → List Mark
unended k [] = []
unended k (h ∷ hs) = if names k h.sort then unended k hs else loops (h ∷ hs)

abbrev pub at_end : List Mark → Mark → List Stray
at_end hs e = (if has_if hs || named e.label hs then wrong e ∷ [] else []) ++ map lacking (unended e.label hs)

-- ---- all

-- what is refused of all statements of a unit and its END, as it comes to light
abbrev pub all_shown : Mark → List Mark → List Mark → List Stray
all_shown e hs [] = at_end hs e
all_shown e hs (m ∷ ms) = shown hs m ++ all_shown e (next hs m) ms
