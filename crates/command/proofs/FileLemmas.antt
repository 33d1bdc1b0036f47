-- What follows of the bytes of the command's file.
use Rattle.std.proofs.Common.{◌≡◌, ℕ, List, Option, Some, None, sym, ◌∙◌, subst}
use Rattle.text_base.specs.Files.{Files}
use Rattle.project_set.specs.Conversion.{IsRefused}
use Rattle.command.specs.Words.{Command}
use Rattle.command.specs.FromFile.{FromFile, LacksName, IsAccepted}

-- nothing isn't something
none_some : {bytes : List ℕ} → None ≡ Some bytes → ⊥
none_some e = cc

-- the same inside is the same
some_same : {a b : List ℕ} → Some a ≡ Some b → a ≡ b
some_same e = cc

-- what is so of some bytes is so of others where it follows
pub from_more : (command : Option Command) (held : Option Files) (P Q : Command → List ℕ → Type 0) → ((c : Command) (bytes : List ℕ) → P c bytes → Q c bytes) → FromFile command held P → FromFile command held Q
from_more None held P Q step from = from
from_more (Some c) held P Q step from = (from.0, from.1, step c from.0 from.2)

-- a file that isn't held has no bytes
pub lacks_none : (command : Option Command) (files : Files) (P : Command → List ℕ → Type 0) → LacksName command (Some files) → FromFile command (Some files) P → ⊥
lacks_none None files P lacks from = from
lacks_none (Some c) files P lacks from = none_some (sym lacks ∙ from.1)

-- bytes of which nothing is refused are not refused
pub accepted_not_refused : (command : Option Command) (files : Files) → FromFile command (Some files) (λ _ bytes. IsAccepted bytes) → FromFile command (Some files) (λ _ bytes. IsRefused bytes) → ⊥
accepted_not_refused None files accepted refused = accepted
accepted_not_refused (Some c) files accepted refused = refused.2 (subst (λ bytes. IsAccepted bytes) (some_same (sym accepted.1 ∙ refused.1)) accepted.2)
