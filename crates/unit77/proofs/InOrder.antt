-- The statements of units, in order of their numbers, are those of the file.
use Rattle.std.proofs.Common.{◌≡◌, ◌<◌, ℕ, suc, Bool, List, [], ◌∷◌, ◌++◌, map, refl, sym, ap, ◌∙◌, subst, append_assoc, arith}
use Rattle.std.specs.Prelude.{nat_lt, flat_map, if◌then◌else◌}
use Rattle.std.proofs.lemmas.Bool.{lt-ltb, le-ltb}
use Rattle.tree77.specs.Statements.{Statement, header, declared, statement_function, end}
use Rattle.unit77.specs.Tree.{Line, flat}
use Rattle.unit77.specs.Nesting.{is_executable}
use Rattle.unit77.specs.Programs.{reading_of, is_header, is_declared, is_function, those, ProgramUnit, IsUnit, AreUnits, placed, in_order, unit_lines}
use Rattle.unit77.specs.Laws.{AreNumbered, StatementsStand}
use Rattle.unit77.proofs.Numbered.{Each, each_append, either}
use Rattle.unit77.proofs.OneProgram.{HasNoEnd, no_end_behind}

-- ---- a statement with a lower number than others

abbrev Above : ℕ → List Line → Type 0
Above n ls = Each (λ (l : Line). n < l.number) ls

placed_above : (n : ℕ) (l : Line) (ls : List Line) → n < l.number → Above n ls → Above n (placed l ls)
placed_above n l [] low above = (low, tt)
placed_above n l (m ∷ ms) low above = either (Above n) (nat_lt l.number m.number) (l ∷ m ∷ ms) (m ∷ placed l ms) (low, above) (above.0, placed_above n l ms low above.1)

order_above : (n : ℕ) (ls : List Line) → Above n ls → Above n (in_order ls)
order_above n [] above = tt
order_above n (l ∷ ls) above = placed_above n l (in_order ls) above.0 (order_above n ls above.1)

placed_first : (l : Line) (ls : List Line) → Above l.number ls → placed l ls ≡ l ∷ ls
placed_first l [] above = refl
placed_first l (m ∷ ms) above = ap (λ b. if b then l ∷ m ∷ ms else m ∷ placed l ms) (lt-ltb l.number m.number above.0)

-- it comes first, wherever it stands
comes_first : (l : Line) (before behind : List Line) → Above l.number before → Above l.number behind → in_order (before ++ l ∷ behind) ≡ l ∷ in_order (before ++ behind)
comes_first l [] behind p q = placed_first l (in_order behind) (order_above l.number behind q)
comes_first l (m ∷ before) behind p q =
    ap (placed m) (comes_first l before behind p.1 q)
    ∙ ap (λ b. if b then m ∷ l ∷ in_order (before ++ behind) else l ∷ placed m (in_order (before ++ behind))) (le-ltb m.number l.number (let low : l.number < m.number = p.0 in omega arith))

-- ---- statements of several kinds, one of which is no END

first_of_four : (l : Line) (x : Statement) (a b c d : List Line) → (x ≡ end → ⊥) → Above l.number a → Above l.number b → Above l.number c → Above l.number d
    → in_order ((if is_header x then l ∷ a else a) ++ ((if is_declared x then l ∷ b else b) ++ ((if is_function x then l ∷ c else c) ++ (if is_executable x then l ∷ d else d)))) ≡ l ∷ in_order (a ++ (b ++ (c ++ d)))
first_of_four l (header h) a b c d inner p q r s = comes_first l [] (a ++ (b ++ (c ++ d))) tt (each_append _ a (b ++ (c ++ d)) p (each_append _ b (c ++ d) q (each_append _ c d r s)))
first_of_four l (declared x) a b c d inner p q r s = comes_first l a (b ++ (c ++ d)) p (each_append _ b (c ++ d) q (each_append _ c d r s))
first_of_four l (statement_function f ds x) a b c d inner p q r s =
    ap in_order (sym (append_assoc a b (l ∷ (c ++ d))))
    ∙ comes_first l (a ++ b) (c ++ d) (each_append _ a b p q) (each_append _ c d r s)
    ∙ ap (λ ls. l ∷ in_order ls) (append_assoc a b (c ++ d))
first_of_four l end a b c d inner p q r s = absurd (inner refl)
first_of_four l x a b c d inner p q r s =
    ap (λ ls. in_order (a ++ ls)) (sym (append_assoc b c (l ∷ d))) ∙ ap in_order (sym (append_assoc a (b ++ c) (l ∷ d)))
    ∙ comes_first l (a ++ (b ++ c)) d (each_append _ a (b ++ c) p (each_append _ b c q r)) s
    ∙ ap (λ ls. l ∷ in_order ls) (append_assoc a (b ++ c) d) ∙ ap (λ ls. l ∷ in_order (a ++ ls)) (append_assoc b c d)

-- ---- the statements of a unit

numbered_above : (n m : ℕ) (ls : List Line) → n < m → AreNumbered m (map reading_of ls) → Above n ls
numbered_above n m [] low numbers = tt
numbered_above n m (l ∷ ls) low numbers = (let same : l.number ≡ m = numbers.0 in omega arith, numbered_above n (suc m) ls (omega arith) numbers.1)

those_above : (n : ℕ) (f : Statement → Bool) (ls : List Line) → Above n ls → Above n (those f ls)
those_above n f [] above = tt
those_above n f (l ∷ ls) above = either (Above n) (f l.statement) (l ∷ those f ls) (those f ls) (above.0, those_above n f ls above.1) (those_above n f ls above.1)

kinds_in_order : (n : ℕ) (own : List Line) → AreNumbered n (map reading_of own) → HasNoEnd own → in_order (those is_header own ++ (those is_declared own ++ (those is_function own ++ those is_executable own))) ≡ own
kinds_in_order n [] numbers inside = refl
kinds_in_order n (l ∷ own) numbers inside =
    first_of_four l l.statement (those is_header own) (those is_declared own) (those is_function own) (those is_executable own) (inside [] own l refl)
    (those_above l.number is_header own above) (those_above l.number is_declared own above) (those_above l.number is_function own above) (those_above l.number is_executable own above)
    ∙ ap (λ ls. l ∷ ls) (kinds_in_order (suc n) own numbers.1 (no_end_behind l own inside))
  where
    above : Above l.number own
    above = numbered_above l.number (suc n) own (let same : l.number ≡ n = numbers.0 in omega arith) numbers.1

same_four : {A : Type 0} (a b c d e f g h : List A) → a ≡ e → b ≡ f → c ≡ g → d ≡ h → a ++ (b ++ (c ++ d)) ≡ e ++ (f ++ (g ++ h))
same_four a b c d e f g h p q r s = cc

unit_in_order : (n : ℕ) (own : List Line) (u : ProgramUnit) → AreNumbered n (map reading_of own) → IsUnit own u → unit_lines u ≡ own ++ u.last ∷ []
unit_in_order n own u numbers unit =
    ap (λ ls. in_order ls ++ u.last ∷ []) (same_four u.headers u.declared u.functions (flat u.items) (those is_header own) (those is_declared own) (those is_function own) (those is_executable own) unit.headers unit.declared unit.functions unit.nested.0)
    ∙ ap (λ ls. ls ++ u.last ∷ []) (kinds_in_order n own numbers unit.inside)

-- ---- the statements of all units

numbered_part : (n : ℕ) (own rest : List Line) → AreNumbered n (map reading_of (own ++ rest)) → AreNumbered n (map reading_of own) × ((m : ℕ) × AreNumbered m (map reading_of rest))
numbered_part n [] rest numbers = (tt, (n, numbers))
numbered_part n (l ∷ own) rest numbers = let further = numbered_part (suc n) own rest numbers.1 in ((numbers.0, further.0), further.1)

units_in_order : (n : ℕ) (ls : List Line) (us : List ProgramUnit) → AreNumbered n (map reading_of ls) → AreUnits ls us → flat_map unit_lines us ≡ ls
units_in_order n ls [] numbers nothing = sym nothing
units_in_order n ls (u ∷ us) numbers (own, rest, cut, unit, units) =
    let parts = numbered_part n own (u.last ∷ rest) (subst (λ x. AreNumbered n (map reading_of x)) cut numbers) in
    ap (λ x. x ++ flat_map unit_lines us) (unit_in_order n own u parts.0 unit)
    ∙ ap (λ x. (own ++ u.last ∷ []) ++ x) (units_in_order (suc parts.1.0) rest us parts.1.1.1 units)
    ∙ append_assoc own (u.last ∷ []) rest ∙ sym cut

pub statements_stand : StatementsStand
statements_stand ls us numbers units = units_in_order 0 ls us numbers units
