-- What doesn't depend on what stands under a logical IF.
use Rattle.std.proofs.Common.{◌≡◌, List, refl}
use Rattle.text_base.specs.Pieces.{Piece}
use Rattle.scan77.specs.Kind.{kind_of}
use Rattle.scan77.specs.declared.kind.Kind.{Kind}
use Rattle.scan77.specs.declared.kind.Kind.TheVariants.{Format, Do, Assign, Keyword, Unsupported, RefusedFunction, Nothing}
use Rattle.scan77.specs.declared.word.Word.{Word}
use Rattle.parse77.specs.Reading.{Read, read_as}

pub same_reading : (under other : List Piece → List Piece → Read) (k : Kind) (pieces : List Piece) → ((w : Word) → k ≡ Keyword w → ⊥) → read_as under (kind_of k) pieces ≡ read_as other (kind_of k) pieces
same_reading under other Format pieces none = refl
same_reading under other Do pieces none = refl
same_reading under other Assign pieces none = refl
same_reading under other (Keyword w) pieces none = absurd (none w refl)
same_reading under other (Unsupported w) pieces none = refl
same_reading under other (RefusedFunction w) pieces none = refl
same_reading under other Nothing pieces none = refl
