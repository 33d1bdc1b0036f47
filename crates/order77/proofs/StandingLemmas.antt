-- What stands before a statement, behind one more.
use Rattle.std.proofs.Common.{◌≡◌, Bool, true, false, ◌&&◌, ◌||◌, List, [], ◌∷◌, ◌++◌, if◌then◌else◌, refl, ap, ◌∙◌}
use Rattle.std.proofs.Math.Bool.{and-true, or-false}
use Rattle.std.proofs.lemmas.List.Folds.{list_all-append, list_any-append}
use Rattle.order77.specs.declared.mark.Counts.{Counts}
use Rattle.order77.specs.declared.mark.Counts.TheVariants as counts
use Rattle.order77.specs.Counts.{Reading, counts_as, counts_nothing, counts_declaration, counts_action, kind_by, is_first, is_declared, is_executed, kind_among}
use Rattle.order77.specs.Standings.{standing_of}

-- one statement gives its kind
kind_alone : (c : Counts) → (if counts_nothing c then kind_by counts.Nothing else kind_by c) ≡ kind_by c
kind_alone (counts.Header k) = refl
kind_alone counts.Implicit = refl
kind_alone counts.Parameter = refl
kind_alone counts.Declaration = refl
kind_alone counts.Function = refl
kind_alone counts.Anywhere = refl
kind_alone (counts.Executable k) = refl
kind_alone (counts.Return k) = refl
kind_alone counts.End = refl
kind_alone counts.Outside = refl
kind_alone counts.Nothing = refl

kind_more : (before : List Reading) (r : Reading) → kind_among (before ++ r ∷ []) ≡ (if is_first before then kind_by (counts_as r) else kind_among before)
kind_more [] r = kind_alone (counts_as r)
kind_more (b ∷ bs) r = go (counts_nothing (counts_as b)) (kind_more bs r)
  where
    go : (n : Bool) → kind_among (bs ++ r ∷ []) ≡ (if is_first bs then kind_by (counts_as r) else kind_among bs)
        → (if n then kind_among (bs ++ r ∷ []) else kind_by (counts_as b))
        ≡ (if n && is_first bs then kind_by (counts_as r) else (if n then kind_among bs else kind_by (counts_as b)))
    go true e = e
    go false e = refl

pub standing_more : (before : List Reading) (r : Reading) → standing_of (before ++ r ∷ [])
    ≡ record { is_first = is_first before && counts_nothing (counts_as r); kind = (if is_first before then kind_by (counts_as r) else kind_among before); is_declared = is_declared before || counts_declaration (counts_as r); is_executed = is_executed before || counts_action (counts_as r) }
standing_more before r =
    let f = list_all-append (λ (x : Reading). counts_nothing (counts_as x)) before (r ∷ []) ∙ ap (λ b. is_first before && b) (and-true (counts_nothing (counts_as r))) in
    let d = list_any-append (λ (x : Reading). counts_declaration (counts_as x)) before (r ∷ []) ∙ ap (λ b. is_declared before || b) (or-false (counts_declaration (counts_as r))) in
    let e = list_any-append (λ (x : Reading). counts_action (counts_as x)) before (r ∷ []) ∙ ap (λ b. is_executed before || b) (or-false (counts_action (counts_as r))) in
    let k = kind_more before r in cc
