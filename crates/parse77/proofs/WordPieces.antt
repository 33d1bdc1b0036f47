-- Words that stand first in pieces.
use Rattle.std.proofs.Common.{◌≡◌, ℕ, ◌==◌, Bool, true, false, List, [], ◌∷◌, ◌++◌, map, Some, None, refl, ap, ◌∙◌}
use Rattle.std.specs.Prelude.{if◌then◌else◌}
use Rattle.std.proofs.lemmas.Bool.{eqb-true, eq-eqb}
use Rattle.text_base.specs.Pieces.{Piece, plain, whole, broken}
use Rattle.scan77.specs.PieceSlice.{behind_plain}

-- what stands behind a word
pub word_before : (word : List ℕ) (pieces rest : List Piece) → behind_plain word pieces ≡ Some rest → pieces ≡ map plain word ++ rest
word_before [] pieces rest e = cc
word_before (d ∷ ds) [] rest e = absurd cc
word_before (d ∷ ds) (plain c ∷ ps) rest e = go (c == d) refl e (word_before ds ps rest)
  where
    go : (b : Bool) → (c == d) ≡ b → (if b then behind_plain ds ps else None) ≡ Some rest → (behind_plain ds ps ≡ Some rest → ps ≡ map plain ds ++ rest) → plain c ∷ ps ≡ plain d ∷ (map plain ds ++ rest)
    go true is e behind = let more = behind e in (λ i. plain (eqb-true c d is i) ∷ more i)
    go false is e behind = absurd cc
word_before (d ∷ ds) (whole t ∷ ps) rest e = absurd cc
word_before (d ∷ ds) (broken t ∷ ps) rest e = absurd cc

-- a word that stands first is found there
pub word_behind : (word : List ℕ) (rest : List Piece) → behind_plain word (map plain word ++ rest) ≡ Some rest
word_behind [] rest = refl
word_behind (c ∷ word) rest = ap (λ b. if b then behind_plain word (map plain word ++ rest) else None) (eq-eqb c c refl) ∙ word_behind word rest
