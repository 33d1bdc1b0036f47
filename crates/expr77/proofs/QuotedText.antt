-- A character constant is read character by character.
use Rattle.std.proofs.Common.{◌≡◌, ℕ, ◌+◌, ◌<◌, Bool, false, List, ◌∷◌, length, get_or, drop, Option, Some, None, sym, ◌∙◌, subst}
use Rattle.std.proofs.lemmas.List.{at_drop_more}
use Rattle.expr77.specs.LexemeReading.{read_quoted, with_quoted}

-- one character more
pub quoted_more : (v w text : List ℕ) (p : Bool) (i : ℕ) (next : Option Bool) → i < length text → with_quoted v (Some p) (drop i text) ≡ read_quoted false text
    → ((t : List ℕ) → with_quoted w next t ≡ with_quoted v (Some p) (get_or text i 0 ∷ t)) → with_quoted w next (drop (i + 1) text) ≡ read_quoted false text
quoted_more v w text p i next lt so_far step = step (drop (i + 1) text) ∙ sym (at_drop_more (with_quoted v (Some p)) text i 0 lt) ∙ so_far

-- the last that is read
pub quoted_ends : (v w text : List ℕ) (p : Bool) (i : ℕ) (next : Option Bool) → i < length text → with_quoted v (Some p) (drop i text) ≡ read_quoted false text
    → ((t : List ℕ) → with_quoted w next t ≡ with_quoted v (Some p) (get_or text i 0 ∷ t)) → next ≡ None → None ≡ read_quoted false text
quoted_ends v w text p i next lt so_far step none = subst (λ n. with_quoted w n (drop (i + 1) text) ≡ read_quoted false text) none (quoted_more v w text p i next lt so_far step)

pub quoted_goes_on : (v w text : List ℕ) (p q : Bool) (i : ℕ) (next : Option Bool) → i < length text → with_quoted v (Some p) (drop i text) ≡ read_quoted false text
    → ((t : List ℕ) → with_quoted w next t ≡ with_quoted v (Some p) (get_or text i 0 ∷ t)) → next ≡ Some q → with_quoted w (Some q) (drop (i + 1) text) ≡ read_quoted false text
quoted_goes_on v w text p q i next lt so_far step is = subst (λ n. with_quoted w n (drop (i + 1) text) ≡ read_quoted false text) is (quoted_more v w text p i next lt so_far step)
