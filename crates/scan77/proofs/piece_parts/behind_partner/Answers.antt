use Rattle.std.proofs.Common.{◌≡◌, ◌∙◌, ◌==◌, ◌∷◌, ap, false, arith, refl}
use Rattle.std.proofs.lemmas.Bool.{ne_eqb}
use Rattle.text_base.specs.Pieces.{plain}
use Rattle.tree77.specs.Kinds.{open_after}
use Rattle.scan77.specs.FirstPiece.{piece_of}
use Rattle.scan77.specs.PieceSlice.{slice_of, split_partner}
use Rattle.scan77.proofs.PieceParts.{behind_nothing, behind_more}
use Rattle.scan77.proofs.PieceSplits.{behind_split, first_piece, few_open, partner_later, not_plain, partner_past}
use Rattle.scan77.proofs.piece_parts.behind_partner.Goals as goal

pub loop-piece-init : goal.loop-piece-init
loop-piece-init c = record { same = refl; few = omega arith; behind = behind_nothing c.args.pieces }

pub returns-then-depth-eq0-clause-behind : goal.returns-then-depth-eq0-clause-behind
returns-then-depth-eq0-clause-behind c = behind_more c.args.pieces c.loop-piece.rest c.in-Some.more c.loop-piece.invariant.behind c.in-Some.ensures.behind

pub loop-piece-preserved-else-depth-eq0 : goal.loop-piece-preserved-else-depth-eq0
loop-piece-preserved-else-depth-eq0 c =
    let o = c.in-Some in
    let rest = c.loop-piece.rest in
    let n = c.loop-piece.depth in
    let byte = c.in-Plain.byte in
    let here : slice_of rest ≡ plain byte ∷ slice_of o.more = first_piece (slice_of rest) (slice_of o.more) (piece_of o.piece) o.ensures.pieces ∙ ap (λ p. piece_of p ∷ slice_of o.more) c.in-Plain.is in
    let some : (open_after n byte == 0) ≡ false = ne_eqb (open_after n byte) 0 (λ e. c.if-depth-eq0.false (c.open_after-depth.ensures ∙ e)) in
    let few = few_open n byte in
    record {
      same = ap (λ d. behind_split (split_partner d (slice_of o.more))) c.open_after-depth.ensures ∙ partner_later n byte (slice_of rest) (slice_of o.more) here some ∙ c.loop-piece.invariant.same;
      few = omega (arith, o.ensures.text);
      behind = behind_more c.args.pieces rest o.more c.loop-piece.invariant.behind o.ensures.behind;
    }

pub loop-piece-preserved : goal.loop-piece-preserved
loop-piece-preserved c =
    let o = c.in-Some in
    let rest = c.loop-piece.rest in
    record {
      same = partner_past c.loop-piece.depth (piece_of o.piece) (slice_of rest) (slice_of o.more) (first_piece (slice_of rest) (slice_of o.more) (piece_of o.piece) o.ensures.pieces)
          (not_plain o.piece c.in_default-piece.not-Plain)
          ∙ c.loop-piece.invariant.same;
      few = omega (arith, o.ensures.text);
      behind = behind_more c.args.pieces rest o.more c.loop-piece.invariant.behind o.ensures.behind;
    }
