-- The text of a unit is the statements that make it.
use Rattle.std.proofs.Common.{◌≡◌, ℕ, ◌<◌, Bool, true, false, not, ◌&&◌, ◌||◌, List, [], ◌∷◌, ◌++◌, map, refl, sym, ap, ◌∙◌, arith}
use Rattle.std.specs.Prelude.{nat_lt, if◌then◌else◌}
use Rattle.std.specs.List.{list_all}
use Rattle.std.proofs.lemmas.Bool.{lt-ltb, le-ltb}
use Rattle.tree77.specs.Statements.{Statement, header, declared, statement_function, end}
use Rattle.order77.specs.Counts.{counts_of, counts_as, counts_nothing, is_misplaced}
use Rattle.unit77.specs.Tree.{Line, flat}
use Rattle.unit77.specs.Nesting.{is_executable}
use Rattle.unit77.specs.Programs.{reading_of, is_header, is_declared, is_function, those, IsOrdered}
use Rattle.unit77.proofs.Numbered.{Each, either}
use Rattle.unit77.proofs.OneProgram.{HasNoEnd, no_end_behind}
use Rattle.unit77.proofs.UnitLaw.{spelled}
use Rattle.names77.specs.Text.{front, merged}
use Rattle.names77.specs.TextLaws.{NumbersRise, KeepsTheText}

-- ---- a statement with a lower number than others

abbrev Above : ℕ → List Line → Type 0
Above n ls = Each (λ (l : Line). n < l.number) ls

front_above : (n : ℕ) (x : Line) (rest : List Line → List Line) (ys : List Line) → n < x.number → ((zs : List Line) → Above n zs → Above n (rest zs)) → Above n ys → Above n (front x rest ys)
front_above n x rest [] low more above = (low, more [] tt)
front_above n x rest (y ∷ ys) low more above =
    either (Above n) (nat_lt y.number x.number) (y ∷ front x rest ys) (x ∷ rest (y ∷ ys)) (above.0, front_above n x rest ys low more above.1) (low, more (y ∷ ys) above)

merged_above : (n : ℕ) (xs ys : List Line) → Above n xs → Above n ys → Above n (merged xs ys)
merged_above n [] ys p q = q
merged_above n (x ∷ xs) ys p q = front_above n x (merged xs) ys p.0 (λ zs r. merged_above n xs zs p.1 r) q

those_above : (n : ℕ) (f : Statement → Bool) (ls : List Line) → Above n ls → Above n (those f ls)
those_above n f [] above = tt
those_above n f (l ∷ ls) above = either (Above n) (f l.statement) (l ∷ those f ls) (those f ls) (above.0, those_above n f ls above.1) (those_above n f ls above.1)

-- it comes first, in whichever list it stands
from_first : (l : Line) (xs ys : List Line) → Above l.number ys → merged (l ∷ xs) ys ≡ l ∷ merged xs ys
from_first l xs [] above = refl
from_first l xs (y ∷ ys) above = ap (λ b. if b then y ∷ front l (merged xs) ys else l ∷ merged xs (y ∷ ys)) (le-ltb y.number l.number (let low : l.number < y.number = above.0 in omega arith))

from_second : (l : Line) (xs ys : List Line) → Above l.number xs → merged xs (l ∷ ys) ≡ l ∷ merged xs ys
from_second l [] ys above = refl
from_second l (x ∷ xs) ys above = ap (λ b. if b then l ∷ front x (merged xs) ys else x ∷ merged xs (l ∷ ys)) (lt-ltb l.number x.number above.0)

-- where numbers rise, those behind a statement are above what is below its own
rise_above : (n : ℕ) (l : Line) (ls : List Line) → n < l.number → NumbersRise (l ∷ ls) → Above n (l ∷ ls)
rise_above n l [] low rise = (low, tt)
rise_above n l (m ∷ ls) low rise = (low, rise_above n m ls (let next : l.number < m.number = rise.0 in omega arith) rise.1)

-- ---- headers

abbrev HasNoHeader : List Line → Type 0
HasNoHeader ls = (before rest : List Line) (l : Line) → ls ≡ before ++ l ∷ rest → is_header l.statement ≡ true → ⊥

none_behind : (l : Line) (ls : List Line) → HasNoHeader (l ∷ ls) → HasNoHeader ls
none_behind l ls none before rest m cut = none (l ∷ before) rest m (ap (λ x. l ∷ x) cut)

no_headers : (ls : List Line) → HasNoHeader ls → those is_header ls ≡ []
no_headers [] none = refl
no_headers (l ∷ ls) none = go (is_header l.statement) (none [] ls l refl) (no_headers ls (none_behind l ls none))
  where
    go : (b : Bool) → (b ≡ true → ⊥) → those is_header ls ≡ [] → (if b then l ∷ those is_header ls else those is_header ls) ≡ []
    go true other more = absurd (other refl)
    go false other more = more

-- a header stands first
header_first : (x : Line) (own : List Line) → IsOrdered (x ∷ own) → HasNoHeader own
header_first x own ordered before rest l cut is = go l.statement is _ (ordered (x ∷ before) rest l (ap (λ ls. x ∷ ls) cut))
  where
    go : (s : Statement) → is_header s ≡ true → (late : Bool) → (is_misplaced (map reading_of (x ∷ before)) (counts_of s) || late) ≡ false → ⊥
    go (header h) is late placed =
        let misplaced = ap (λ b. not (b && list_all (λ r. counts_nothing (counts_as r)) (map reading_of before)) || late) (spelled x.statement) in
        absurd cc
    go s is late placed = absurd cc

-- ---- one statement more

abbrev text : List Line → List Line → List Line → List Line → List Line
text h d f e = h ++ merged (merged d f) e

moved : (l : Line) (h ls : List Line) → h ≡ [] → h ++ l ∷ ls ≡ l ∷ (h ++ ls)
moved l h ls none = ap (λ x. x ++ l ∷ ls) none ∙ ap (λ x. l ∷ (x ++ ls)) (sym none)

first_of_four : (l : Line) (x : Statement) (h d f e : List Line) → (x ≡ end → ⊥) → h ≡ [] → Above l.number d → Above l.number f → Above l.number e
    → text (if is_header x then l ∷ h else h) (if is_declared x then l ∷ d else d) (if is_function x then l ∷ f else f) (if is_executable x then l ∷ e else e) ≡ l ∷ text h d f e
first_of_four l (header x) h d f e inner none p q r = refl
first_of_four l (declared x) h d f e inner none p q r = ap (λ ls. h ++ merged ls e) (from_first l d f q) ∙ ap (λ ls. h ++ ls) (from_first l (merged d f) e r) ∙ moved l h (merged (merged d f) e) none
first_of_four l (statement_function g ds x) h d f e inner none p q r = ap (λ ls. h ++ merged ls e) (from_second l d f p) ∙ ap (λ ls. h ++ ls) (from_first l (merged d f) e r) ∙ moved l h (merged (merged d f) e) none
first_of_four l end h d f e inner none p q r = absurd (inner refl)
first_of_four l x h d f e inner none p q r = ap (λ ls. h ++ ls) (from_second l (merged d f) e (merged_above l.number d f p q)) ∙ moved l h (merged (merged d f) e) none

-- ---- all statements

kinds_behind : (l : Line) (own : List Line) → NumbersRise (l ∷ own) → HasNoEnd (l ∷ own) → HasNoHeader own
    → text (those is_header (l ∷ own)) (those is_declared (l ∷ own)) (those is_function (l ∷ own)) (those is_executable (l ∷ own)) ≡ l ∷ own
kinds_behind l [] rise inside none = first_of_four l l.statement [] [] [] [] (inside [] [] l refl) refl tt tt tt
kinds_behind l (m ∷ own) rise inside none =
    first_of_four l l.statement (those is_header (m ∷ own)) (those is_declared (m ∷ own)) (those is_function (m ∷ own)) (those is_executable (m ∷ own)) (inside [] (m ∷ own) l refl) (no_headers (m ∷ own) none)
    (those_above l.number is_declared (m ∷ own) above) (those_above l.number is_function (m ∷ own) above) (those_above l.number is_executable (m ∷ own) above)
    ∙ ap (λ ls. l ∷ ls) (kinds_behind m own rise.1 (no_end_behind l (m ∷ own) inside) (none_behind m own none))
  where
    above : Above l.number (m ∷ own)
    above = rise_above l.number m own rise.0 rise.1

kinds_in_order : (own : List Line) → NumbersRise own → HasNoEnd own → IsOrdered own → text (those is_header own) (those is_declared own) (those is_function own) (those is_executable own) ≡ own
kinds_in_order [] rise inside ordered = refl
kinds_in_order (l ∷ own) rise inside ordered = kinds_behind l own rise inside (header_first l own ordered)

same_text : (u v w x a b c d : List Line) → u ≡ a → v ≡ b → w ≡ c → x ≡ d → text u v w x ≡ text a b c d
same_text u v w x a b c d p q r s = cc

pub text_is_kept : KeepsTheText
text_is_kept own u unit rise =
    same_text u.headers u.declared u.functions (flat u.items) (those is_header own) (those is_declared own) (those is_function own) (those is_executable own) unit.headers unit.declared unit.functions unit.nested.0
    ∙ kinds_in_order own rise unit.inside unit.ordered
