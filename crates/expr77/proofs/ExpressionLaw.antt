-- What is read of tokens is what their pieces spell.
use Rattle.std.proofs.Common.{◌≡◌, ℕ, Bool, true, false, List, [], ◌∷◌, map, take, flat_map, Option, Some, None, refl, sym, ap, ◌∙◌, subst}
use Rattle.std.specs.List.{list_any}
use Rattle.std.specs.Prelude.{if◌then◌else◌}
use Rattle.std.proofs.lemmas.Option.{same_Some}
use Rattle.text_base.specs.Pieces.{Piece, piece_text}
use Rattle.text_base.specs.Trees.{Expr}
use Rattle.text_base.specs.declared.limits.TheConstants.{MOST_SHOWN}
use Rattle.text_base.specs.declared.refusal.Cause.TheVariants.{NotAStatement}
use Rattle.text_base.proofs.Optional.{went, mapped}
use Rattle.tree77.specs.Tokens.{Token, IsCut, token_pieces}
use Rattle.tree77.specs.Expressions.{Symbol, IsExpression}
use Rattle.tree77.specs.Lexemes.{Lexeme, Part, symbol_of, parts_from, is_lower, first_lowest, AreLexemes, IsWideExpression, SpellsExpression, IsRefusedExpression, refused_whole, refused_part}
use Rattle.scan77.specs.TokenReading.{no_token, read_tokens, AllFormed}
use Rattle.group77.specs.Building.{build}
use Rattle.expr77.specs.Gathering.{keep}
use Rattle.expr77.specs.LexemeReading.{lexemes_of}
use Rattle.expr77.specs.Outcome.{accepted, refused, tree_and_lowest, expression_of, outcome_from, outcome_of}
use Rattle.expr77.specs.Parsing.{IsReadFrom}
use Rattle.expr77.proofs.GatherLaw.{keeps_on}
use Rattle.expr77.proofs.LexemeFound.{lexemes_found}
use Rattle.expr77.proofs.LexemeOnly.{lexemes_only}
use Rattle.expr77.proofs.Standing.{expression_fits}

-- what the laws on cuts and on groups say
abbrev pub CutIsRead : Type 0
CutIsRead = (pieces : List Piece) (tokens : List Token) → IsCut pieces tokens → read_tokens pieces no_token ≡ Some tokens

abbrev pub CutIsJoined : Type 0
CutIsJoined = (pieces : List Piece) (tokens : List Token) → IsCut pieces tokens → flat_map (λ t. t.text) tokens ≡ flat_map piece_text pieces

abbrev pub CutIsPieces : Type 0
CutIsPieces = (pieces : List Piece) (tokens : List Token) → IsCut pieces tokens → pieces ≡ flat_map token_pieces tokens

abbrev pub CutIsFormed : Type 0
CutIsFormed = (pieces : List Piece) (tokens : List Token) → IsCut pieces tokens → AllFormed tokens

abbrev pub TreeIsFound : Type 0
TreeIsFound = (t : List Symbol) (x : Expr) → build t ≡ Some x → IsExpression t x

abbrev pub TreeIsOnly : Type 0
TreeIsOnly = (t : List Symbol) (x : Expr) → IsExpression t x → build t ≡ Some x

-- symbols that are no expression give no tree
pub none_built : TreeIsFound → (t : List Symbol) → ((x : Expr) → IsExpression t x → ⊥) → build t ≡ None
none_built is_found t none = go (build t) refl
  where
    go : (o : Option Expr) → build t ≡ o → o ≡ None
    go None e = refl
    go (Some x) e = absurd (none x (is_found t x e))

-- ---- wide expressions

-- what spells an expression can be cut into tokens
pub wide_cut : (pieces : List Piece) (lexemes : List Lexeme) (x : Expr) → IsWideExpression pieces lexemes x → (tokens : List Token) × IsCut pieces tokens
wide_cut pieces lexemes x wide = let made = lexemes_only pieces lexemes wide.spelled (expression_fits (map symbol_of lexemes) x wide.formed) in (made.0, made.1)

wide_only : CutIsRead → (pieces : List Piece) (tokens : List Token) (lexemes : List Lexeme) (x : Expr) → IsCut pieces tokens → IsWideExpression pieces lexemes x → lexemes_of tokens ≡ Some lexemes
wide_only is_read pieces tokens lexemes x cut wide =
    let made = lexemes_only pieces lexemes wide.spelled (expression_fits (map symbol_of lexemes) x wide.formed) in
    let same_tokens : made.0 ≡ tokens = same_Some made.0 tokens (sym (is_read pieces made.0 made.1) ∙ is_read pieces tokens cut) in
    subst (λ ts. lexemes_of ts ≡ Some lexemes) same_tokens made.2

pub one_wide : CutIsRead → TreeIsOnly → (pieces : List Piece) (lexemes others : List Lexeme) (x y : Expr) → IsWideExpression pieces lexemes x → IsWideExpression pieces others y → (lexemes ≡ others) × (x ≡ y)
one_wide is_read is_only pieces lexemes others x y first second =
    let cut = wide_cut pieces lexemes x first in
    let same : lexemes ≡ others = same_Some lexemes others (sym (wide_only is_read pieces cut.0 lexemes x cut.1 first) ∙ wide_only is_read pieces cut.0 others y cut.1 second) in
    (same, same_Some x y (sym (is_only (map symbol_of lexemes) x first.formed) ∙ ap (λ is. build (map symbol_of is)) same ∙ is_only (map symbol_of others) y second.formed))

-- ---- what is read of tokens

-- an expression that is read is spelled
pub read_spelled : CutIsPieces → CutIsFormed → TreeIsFound → (pieces : List Piece) (tokens : List Token) (depth : ℕ) (lowest : Option Part) (x : Expr) (next : Option Part) → IsCut pieces tokens
    → expression_of depth lowest tokens ≡ Some (x, next) → (lexemes : List Lexeme) × IsWideExpression pieces lexemes x × (next ≡ keep lowest (parts_from depth lexemes))
read_spelled is_pieces is_formed is_found pieces tokens depth lowest x next cut e =
    let w = went (lexemes_of tokens) (tree_and_lowest depth lowest) (x, next) e in
    let m = mapped (build (map symbol_of w.from)) (λ x. (x, keep lowest (parts_from depth w.from))) (x, next) w.is in
    let tree : m.from ≡ x = ap (λ (p : Expr × Option Part). p.0) m.is in
    let kept : keep lowest (parts_from depth w.from) ≡ next = ap (λ (p : Expr × Option Part). p.1) m.is in
    let spelled = subst (λ (ps : List Piece). AreLexemes ps w.from) (sym (is_pieces pieces tokens cut)) (lexemes_found tokens w.from (is_formed pieces tokens cut) w.was) in
    (w.from, record { spelled = spelled; formed = subst (IsExpression (map symbol_of w.from)) tree (is_found (map symbol_of w.from) m.from m.was) }, sym kept)

-- and the lowest part is carried on
pub read_found : CutIsPieces → CutIsFormed → TreeIsFound → (depth : ℕ) (lowest next : Option Part) (pieces : List Piece) (tokens : List Token) (x : Expr) → IsCut pieces tokens
    → expression_of depth lowest tokens ≡ Some (x, next) → IsReadFrom depth lowest pieces x next
read_found is_pieces is_formed is_found depth lowest next pieces tokens x cut e =
    let r = read_spelled is_pieces is_formed is_found pieces tokens depth lowest x next cut e in
    (r.0, r.1, λ before is. r.2 ∙ ap (λ k. keep k (parts_from depth r.0)) is ∙ keeps_on before (parts_from depth r.0))

-- an expression that is spelled is read
pub spelled_read : CutIsRead → TreeIsOnly → (pieces : List Piece) (tokens : List Token) (depth : ℕ) (lowest : Option Part) (lexemes : List Lexeme) (x : Expr) → IsCut pieces tokens
    → IsWideExpression pieces lexemes x → expression_of depth lowest tokens ≡ Some (x, keep lowest (parts_from depth lexemes))
spelled_read is_read is_only pieces tokens depth lowest lexemes x cut wide =
    let here : lexemes_of tokens ≡ Some lexemes = wide_only is_read pieces tokens lexemes x cut wide in
    let tree : build (map symbol_of lexemes) ≡ Some x = is_only (map symbol_of lexemes) x wide.formed in
    rw (here, tree) refl

-- where none is read, none is spelled
pub read_none : CutIsRead → TreeIsOnly → (depth : ℕ) (lowest : Option Part) (pieces : List Piece) (tokens : List Token) → IsCut pieces tokens → expression_of depth lowest tokens ≡ None
    → (lexemes : List Lexeme) (x : Expr) → IsWideExpression pieces lexemes x → ⊥
read_none is_read is_only depth lowest pieces tokens cut none lexemes x wide =
    let read : ◌≡◌ {A = Option (Expr × Option Part)} None (Some (x, keep lowest (parts_from depth lexemes))) = sym none ∙ spelled_read is_read is_only pieces tokens depth lowest lexemes x cut wide in
    absurd cc

-- ---- refused parts

none_lower : (p : Part) (ps : List Part) → ps ≡ [] → list_any (λ q. is_lower q p) ps ≡ false
none_lower p ps none = ap (list_any (λ q. is_lower q p)) none

-- where no part is lowest there is none
no_lowest : (ps : List Part) → first_lowest ps ≡ None → ps ≡ []
no_lowest [] e = refl
no_lowest (p ∷ ps) e = go (no_lowest ps) (list_any (λ q. is_lower q p) ps) refl
  where
    go : (first_lowest ps ≡ None → ps ≡ []) → (b : Bool) → list_any (λ q. is_lower q p) ps ≡ b → p ∷ ps ≡ []
    go more true any =
        let none = none_lower p ps (more (ap (λ b. if b then first_lowest ps else Some p) (sym any) ∙ e)) in
        absurd cc
    go more false any =
        let found : Some p ≡ None = ap (λ b. if b then first_lowest ps else Some p) (sym any) ∙ e in
        absurd cc

-- ---- outcomes

same_accepted : {x y : Expr} → accepted x ≡ accepted y → x ≡ y
same_accepted e = cc

same_refused : {p q : Part} → refused p ≡ refused q → p ≡ q
same_refused e = cc

pub outcome_accepted : CutIsPieces → CutIsFormed → TreeIsFound → (pieces : List Piece) (tokens : List Token) (x : Expr) → IsCut pieces tokens → outcome_of tokens ≡ accepted x → SpellsExpression pieces x
outcome_accepted is_pieces is_formed is_found pieces tokens x cut = go (expression_of 0 None tokens) refl
  where
    go : (o : Option (Expr × Option Part)) → expression_of 0 None tokens ≡ o → outcome_from tokens o ≡ accepted x → SpellsExpression pieces x
    go None read e = absurd cc
    go (Some (y, Some p)) read e = absurd cc
    go (Some (y, None)) read e =
        let r = read_found is_pieces is_formed is_found 0 None None pieces tokens y cut read in
        record { lexemes = r.0; wide = subst (IsWideExpression pieces r.0) (same_accepted e) r.1; accepted = no_lowest (parts_from 0 r.0) (sym (r.2 [] refl)) }

pub outcome_refused : CutIsPieces → CutIsFormed → CutIsRead → CutIsJoined → TreeIsFound → TreeIsOnly → (pieces : List Piece) (tokens : List Token) (p : Part) → IsCut pieces tokens → outcome_of tokens ≡ refused p → IsRefusedExpression pieces p
outcome_refused is_pieces is_formed is_read is_joined is_found is_only pieces tokens p cut = go (expression_of 0 None tokens) refl
  where
    go : (o : Option (Expr × Option Part)) → expression_of 0 None tokens ≡ o → outcome_from tokens o ≡ refused p → IsRefusedExpression pieces p
    go None read e =
        refused_whole (read_none is_read is_only 0 None pieces tokens cut read) (sym (same_refused e) ∙ ap (λ text. record { cause = NotAStatement; shown = take MOST_SHOWN text }) (is_joined pieces tokens cut))
    go (Some (y, None)) read e = absurd cc
    go (Some (y, Some q)) read e =
        let r = read_found is_pieces is_formed is_found 0 None (Some q) pieces tokens y cut read in
        refused_part r.0 y r.1 (sym (r.2 [] refl) ∙ ap Some (same_refused e))

-- ---- one of each

pub one_spelled : CutIsRead → TreeIsOnly → (pieces : List Piece) (x y : Expr) → SpellsExpression pieces x → SpellsExpression pieces y → x ≡ y
one_spelled is_read is_only pieces x y first second = (one_wide is_read is_only pieces first.lexemes second.lexemes x y first.wide second.wide).1

pub apart : CutIsRead → TreeIsOnly → (pieces : List Piece) (x : Expr) (p : Part) → SpellsExpression pieces x → IsRefusedExpression pieces p → ⊥
apart is_read is_only pieces x p spelled (refused_whole none is) = none spelled.lexemes x spelled.wide
apart is_read is_only pieces x p spelled (refused_part lexemes y wide lowest) =
    let same = (one_wide is_read is_only pieces spelled.lexemes lexemes x y spelled.wide wide).0 in
    let found : None ≡ Some p = ap first_lowest (sym spelled.accepted ∙ ap (parts_from 0) same) ∙ lowest in
    absurd cc

pub one_refused : CutIsRead → TreeIsOnly → (pieces : List Piece) (p q : Part) → IsRefusedExpression pieces p → IsRefusedExpression pieces q → p ≡ q
one_refused is_read is_only pieces p q (refused_whole none is) (refused_whole other also) = is ∙ sym also
one_refused is_read is_only pieces p q (refused_whole none is) (refused_part lexemes x wide lowest) = absurd (none lexemes x wide)
one_refused is_read is_only pieces p q (refused_part lexemes x wide lowest) (refused_whole none is) = absurd (none lexemes x wide)
one_refused is_read is_only pieces p q (refused_part lexemes x wide lowest) (refused_part others y also least) =
    let same = (one_wide is_read is_only pieces lexemes others x y wide also).0 in
    same_Some p q (sym lowest ∙ ap (λ is. first_lowest (parts_from 0 is)) same ∙ least)
