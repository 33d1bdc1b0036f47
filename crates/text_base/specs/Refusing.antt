-- What is refused because this version does not convert it yet.
use Rattle.std.specs.Prelude.{ℕ, codes}
use Rattle.text_base.specs.declared.refusal.Refusal.{Refusal}
use Rattle.text_base.specs.declared.refusal.Cause.TheVariants.{NotBuilt}

-- the one refusal of a whole file
abbrev pub not_built : ℕ → Refusal
not_built file = record { place = record { file = file; line = 0 }; cause = NotBuilt; name = codes "0" }
