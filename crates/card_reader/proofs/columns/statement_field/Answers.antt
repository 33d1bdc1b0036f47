use Rattle.std.proofs.Common.{◌∙◌, ℕ, List, ◌++◌, ap, take, drop, length, replicate, arith}
use Rattle.std.proofs.lemmas.List.{length-take}
use Rattle.card_reader.proofs.Cutting.{padded}
use Rattle.card_reader.proofs.columns.statement_field.Goals as goal

pub split_at_mut-front-requires : goal.split_at_mut-front-requires
split_at_mut-front-requires c = rw c.statement_text-text.ensures (omega (arith, length-take 66 (drop 6 c.args.line.now)))

pub returns : goal.returns
returns c =
    let cut = c.statement_text-text.ensures in
    let behind = c.split_at_mut-front.ensures.back ∙ ap (λ (t : List ℕ). drop (length t) (replicate 66 32)) cut in
    (λ i. (c.copy_from_slice.ensures.after ∙ cut) i ++ behind i) ∙ padded (take 66 (drop 6 c.args.line.now)) 66
