-- Tokens as the definitions have them.
use Rattle.std.specs.Prelude.{List, map}
use Rattle.tree77.specs.Tokens as plain
use Rattle.scan77.specs.declared.token.Token.{Token}
use Rattle.scan77.specs.declared.token.TokenKind.{TokenKind}
use Rattle.scan77.specs.declared.token.TokenKind.TheVariants as kind

abbrev pub token_kind_of : TokenKind → plain.TokenKind
token_kind_of kind.Run = plain.run
token_kind_of kind.Digits = plain.digits
token_kind_of kind.Text = plain.kept
token_kind_of kind.Mark = plain.mark

-- a token is its kind and its characters
abbrev pub token_of : Token → plain.Token
token_of token = record { kind = token_kind_of token.kind; text = token.text.now }

abbrev pub tokens_of : List Token → List plain.Token
tokens_of tokens = map token_of tokens
