use Rattle.std.proofs.Common.{rules, ◌≡◌, ◌∙◌, sym, ap, Some}
use Rattle.std.specs.Option.{option_map}
use Rattle.std.proofs.lemmas.List.{take-map, drop-map}
use Rattle.std.proofs.Common.{take}
use Rattle.scan77.specs.Token.{token_of, tokens_of}
use Rattle.forms77.specs.Reading.{count_before}
use Rattle.forms77.proofs.Splitting.{parted_at, counted}
use Rattle.forms77.proofs.tokens.split.Goals as goal

pub returns-clause-read : goal.returns-clause-read
returns-clause-read c =
    let ts = c.args.tokens.now in
    let count : count_before c.args.marks.now 0 (tokens_of ts) ≡ Some c.in-Some.count = search rules in
    ap (λ x. Some (x, tokens_of c.split_at.result.1.now)) (ap tokens_of c.split_at.ensures.front ∙ sym (take-map token_of c.in-Some.count ts))
    ∙ ap (λ x. Some (take c.in-Some.count (tokens_of ts), x)) (ap tokens_of c.split_at.ensures.back ∙ sym (drop-map token_of c.in-Some.count ts))
    ∙ sym (counted c.args.marks.now 0 (tokens_of ts) ∙ ap (option_map (parted_at (tokens_of ts))) count)
