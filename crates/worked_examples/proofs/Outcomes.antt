-- What pieces give as an expression, by their tokens.
use Rattle.std.proofs.Common.{◌≡◌, List, Option, Some, None, option_map, refl}
use Rattle.text_base.specs.Pieces.{Piece}
use Rattle.tree77.specs.Tokens.{Token, IsCut}
use Rattle.scan77.specs.TokenReading.{read_tokens, no_token}
use Rattle.expr77.specs.Outcome.{Outcome, outcome_of}

abbrev pub outcome_in : List Piece → Option Outcome
outcome_in pieces = option_map outcome_of (read_tokens pieces no_token)

-- where the cut is known to be one, what holds of its outcome holds of the pieces
from_tokens : (P : Type 0) (pieces : List Piece) (o : Outcome) (tokens : Option (List Token)) → ((ts : List Token) → tokens ≡ Some ts → IsCut pieces ts)
    → ((ts : List Token) → IsCut pieces ts → outcome_of ts ≡ o → P) → option_map outcome_of tokens ≡ Some o → P
from_tokens P pieces o None found law e = cc
from_tokens P pieces o (Some ts) found law e = law ts (found ts refl) cc

pub by_outcome : (P : Type 0) (pieces : List Piece) (o : Outcome) → ((ts : List Token) → read_tokens pieces no_token ≡ Some ts → IsCut pieces ts)
    → ((ts : List Token) → IsCut pieces ts → outcome_of ts ≡ o → P) → outcome_in pieces ≡ Some o → P
by_outcome P pieces o found law e = from_tokens P pieces o (read_tokens pieces no_token) found law e
