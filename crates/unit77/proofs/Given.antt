-- The statements of a file of which nothing is refused are lines.
use Rattle.std.proofs.Common.{◌≡◌, ℕ, suc, List, [], ◌∷◌, ◌++◌, map, Some, refl, sym, ap, ◌∙◌}
use Rattle.std.specs.Option.{option_map}
use Rattle.tree77.specs.StatementPlain.{statement_of}
use Rattle.unit77.specs.Tree.{Line}
use Rattle.order77.specs.Counts.{Reading}
use Rattle.unit77.specs.FileRefusals.{file_refusals}
use Rattle.unit77.specs.Laws.{AreReadOrRefused, IsProgram}
use Rattle.unit77.specs.Programs.{ProgramUnit, reading_of, AreUnits}
use Rattle.order77.specs.ReadViews.{reading_at, readings_from, readings_of}
use Rattle.unit77.specs.Units.{file_strays}
use Rattle.unit77.specs.UnitViews.{lines_at, lines_from}
use Rattle.order77.specs.declared.read.ReadStatement.{ReadStatement}
use Rattle.unit77.proofs.Program.{program_of}
use Rattle.unit77.proofs.UnitLaw.{units_pass}

same_line : (n : ℕ) (x : ReadStatement) (l : Line) → reading_of l ≡ reading_at n x → lines_at n x (option_map statement_of x.statement) ≡ l ∷ []
same_line n x l e =
    let statement : Some l.statement ≡ option_map statement_of x.statement = ap (λ (r : Reading). r.statement) e in
    ap (lines_at n x) (sym statement)
    ∙ ap (λ (r : Reading). record { number = r.number; label = r.label; place = r.place; statement = l.statement } ∷ []) (sym e)

lines_given : (n : ℕ) (xs : List ReadStatement) (ls : List Line) → map reading_of ls ≡ readings_from n xs → lines_from n xs ≡ ls
lines_given n [] [] e = refl
lines_given n [] (l ∷ ls) e = absurd cc
lines_given n (x ∷ xs) [] e = absurd cc
lines_given n (x ∷ xs) (l ∷ ls) e =
    let first : reading_of l ≡ reading_at n x = cc in
    let rest : map reading_of ls ≡ readings_from (suc n) xs = cc in
    ap (λ ys. ys ++ lines_from (suc n) xs) (same_line n x l first) ∙ ap (λ ys. l ∷ ys) (lines_given (suc n) xs ls rest)

-- the lines that they are
pub record AreLines (xs : List ReadStatement) : Type 0 where
  pub read : map reading_of (lines_from 0 xs) ≡ readings_of xs
  pub accepted : file_strays (readings_of xs) ≡ []

pub are_lines : (xs : List ReadStatement) → AreReadOrRefused (readings_of xs) → file_refusals (readings_of xs) ≡ [] → AreLines xs
are_lines xs read none =
    let (us, p) = program_of (readings_of xs) read none in
    let same = lines_given 0 xs p.lines p.read in
    record { read = ap (map reading_of) same ∙ p.read; accepted = ap file_strays (sym p.read) ∙ units_pass p.lines us 0 p.units }

pub program_of_lines : (xs : List ReadStatement) (us : List ProgramUnit) → AreLines xs → AreUnits (lines_from 0 xs) us → IsProgram (readings_of xs) us
program_of_lines xs us are units = record { lines = lines_from 0 xs; read = are.read; units = units }
