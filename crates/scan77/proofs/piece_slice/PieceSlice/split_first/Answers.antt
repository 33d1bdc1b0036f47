use Rattle.std.proofs.Common.{[], ◌∷◌, refl}
use Rattle.scan77.proofs.PieceShape.{first_unmarked, none_left}
use Rattle.scan77.proofs.piece_slice.PieceSlice.split_first.Goals as goal

pub returns-in-None-clause-pieces : goal.returns-in-None-clause-pieces
returns-in-None-clause-pieces c = first_unmarked c.in_ok-byte.byte.now c.in_ok-byte.text.now c.args.self.text.now c.args.self.marks.now c.in_ok-byte.ensures.cases.0 c.in-None.ensures.cases

pub returns-in-None-clause-behind : goal.returns-in-None-clause-behind
returns-in-None-clause-behind c =
    record { text = c.in_ok-byte.byte.now ∷ []; marks = []; front = c.in_ok-byte.ensures.cases.0; marked = refl; fits = none_left c.args.self.marks.now c.in-None.ensures.cases }

pub returns-in-Some-clause-behind : goal.returns-in-Some-clause-behind
returns-in-Some-clause-behind c =
    record { text = c.in_ok-byte.byte.now ∷ []; marks = c.in-Some.mark.now ∷ []; front = c.in_ok-byte.ensures.cases.0; marked = c.in-Some.ensures.cases.0; fits = tt }
