use Rattle.std.proofs.Common.{rules, ◌≡◌, List, Option, Some, None, refl}
use Rattle.tree77.specs.Tokens.{Token}
use Rattle.scan77.specs.PieceSlice.{slice_of}
use Rattle.scan77.specs.TokenReading.{read_tokens, no_token}
use Rattle.parse77.proofs.whole.tokens.Goals as goal

pub returns-in-Err-NoToken : goal.returns-in-Err-NoToken
returns-in-Err-NoToken c = go (read_tokens (slice_of c.args.pieces) no_token) refl
  where
    go : (o : Option (List Token)) → read_tokens (slice_of c.args.pieces) no_token ≡ o → None ≡ o
    go None e = refl
    go (Some ts) e = absurd (c.one_cut.ensures.uncut (slice_of c.args.pieces) ts (c.cut.ensures.stuck (search rules)) (c.one_cut.ensures.found (slice_of c.args.pieces) ts e))
