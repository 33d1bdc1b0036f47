-- What stands behind the first pieces of a slice.
use Rattle.std.specs.Prelude.{◌≡◌, ℕ, List, [], ◌∷◌, ◌++◌}
use Rattle.scan77.specs.declared.mark.Mark.{Mark}
use Rattle.scan77.specs.declared.piece_slice.PieceSlice.{PieceSlice}

-- some first characters have these first marks, where these marks are left: each has one, or all further ones have none
abbrev pub Fits : List ℕ → List Mark → List Mark → Type 0
Fits [] [] left = Unit {0}
Fits [] (m ∷ marks) left = ⊥
Fits (c ∷ text) [] left = left ≡ []
Fits (c ∷ text) (m ∷ marks) left = Fits text marks left

-- the characters and marks of the rest stand behind others of the slice
pub record IsBehind (slice rest : PieceSlice) : Type 0 where
  pub text : List ℕ
  pub marks : List Mark
  pub front : slice.text.now ≡ text ++ rest.text.now
  pub marked : slice.marks.now ≡ marks ++ rest.marks.now
  pub fits : Fits text marks rest.marks.now
