use Rattle.std.proofs.Common.{rules, ◌∙◌, sym, length}
use Rattle.std.proofs.lemmas.Bool.{eqb-true}
use Rattle.std.proofs.lemmas.List.{nil_from_length}
use Rattle.scan77.proofs.PieceShape.{no_pieces, no_characters}
use Rattle.scan77.proofs.piece_slice.PieceSlice.is_empty.Goals as goal

pub returns : goal.returns
returns c =
    let t = c.args.self.text.now in
    let ms = c.args.self.marks.now in
    (λ e. no_pieces t ms (nil_from_length t (eqb-true (length t) 0 (sym c.is_empty.ensures ∙ e))), λ e. let none = no_characters t ms e in search rules)
