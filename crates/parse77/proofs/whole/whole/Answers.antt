use Rattle.std.proofs.Common.{◌≡◌, ◌∙◌, Some, IfOk, length, sym, ap, subst}
use Rattle.std.specs.Option.{option_map, option_and_then}
use Rattle.tree77.specs.FormTable.{form_of}
use Rattle.tree77.specs.Spelling.{room_of}
use Rattle.scan77.specs.PieceSlice.{slice_of}
use Rattle.scan77.specs.Token.{tokens_of}
use Rattle.scan77.specs.TokenReading.{read_tokens, no_token}
use Rattle.forms77.specs.Reading.{read}
use Rattle.forms77.specs.Whole.{read_to_end}
use Rattle.parse77.specs.Sort.{sort_of}
use Rattle.parse77.specs.Views.{read_made}
use Rattle.parse77.proofs.whole.whole.Goals as goal

pub returns : goal.returns
returns c =
    let pieces = slice_of c.args.pieces in
    let room : length c.characters.result.now ≡ room_of pieces = ap length c.characters.ensures in
    let cut : Some (tokens_of c.as_slice.result.now) ≡ read_tokens pieces no_token = ap (λ ts. Some (tokens_of ts)) c.as_slice.ensures ∙ ap (option_map tokens_of) (sym c.in-Some.is) ∙ c.in_ok-tokens.ensures in
    subst (λ found. IfOk c.to_end.result (λ made. read_made made ≡ found)) (λ i. option_and_then (read_to_end (read (form_of (room i) (sort_of c.args.sort)))) (cut i)) c.to_end.ensures
