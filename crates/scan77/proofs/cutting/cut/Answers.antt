use Rattle.std.proofs.Common.{◌≡◌, ◌∙◌, ◌∷◌, ◌++◌, [], List, ap, sym, subst, rules, refl, append-nil}
use Rattle.std.proofs.lemmas.List.{map-append}
use Rattle.tree77.specs.Tokens as plain
use Rattle.tree77.specs.Tokens.{IsCut, cut_nothing, stuck_behind}
use Rattle.scan77.specs.PieceSlice.{slice_of}
use Rattle.scan77.specs.Token.{token_of, tokens_of}
use Rattle.scan77.proofs.CutSteps.{one_token}
use Rattle.scan77.proofs.cutting.cut.Goals as goal

pub loop-rest-preserved : goal.loop-rest-preserved
loop-rest-preserved c =
    let all = slice_of c.args.pieces in
    let rest = slice_of c.loop-rest.rest in
    let left = slice_of c.in-Some.more in
    let token = token_of c.in-Some.token in
    let next = c.in-Some.ensures.some in
    let grown : tokens_of c.push.new.self ≡ tokens_of c.loop-rest.tokens ++ token ∷ [] = ap tokens_of c.in_ok-push-in-Some.ensures.ok ∙ map-append token_of c.loop-rest.tokens (c.in-Some.token ∷ []) in
    record {
      cut = λ more behind. subst (λ (ts : List plain.Token). IsCut all (ts ++ more)) (sym grown) (one_token all rest left (tokens_of c.loop-rest.tokens) token c.loop-rest.invariant.cut next.0 next.1 more behind);
      stuck = λ behind. c.loop-rest.invariant.stuck (stuck_behind token next.0 next.1 behind);
    }

pub returns-clause-cut : goal.returns-clause-cut
returns-clause-cut c =
    let none : slice_of c.loop-rest.rest ≡ [] = search rules in
    subst (IsCut (slice_of c.args.pieces)) (append-nil (tokens_of c.loop-rest.tokens)) (c.loop-rest.invariant.cut [] (cut_nothing none refl))
