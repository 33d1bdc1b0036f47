-- What is refused line by line is what is refused of the file.
use Rattle.std.proofs.Common.{◌≡◌, ◌∙◌, sym, ap, refl, subst, ℕ, ◌+◌, ◌<◌, Bool, true, false, List, [], ◌∷◌, ◌++◌, length, drop, Option, Some, None, IfSome, append_assoc, arith}
use Rattle.std.specs.Prelude.{◌==◌, decimal, if◌then◌else◌}
use Rattle.std.specs.List.{position_from, zip}
use Rattle.std.specs.Option.{option_map, option_or}
use Rattle.text_base.specs.Lines.{is_comment, column_6, is_initial, statement_field}
use Rattle.text_base.specs.Kept.{Scan, scan_start, scan_after, marks_from, scan_all}
use Rattle.text_base.specs.LineRefusals.{Fault, Begun, begun_by, long_fault, filled_column, column_fault, label_fault, is_bad, character_fault, initial_fault, place_fault, line_fault, begun_new, begun_more, begun_after, refused_at, line_refusals}
use Rattle.text_base.specs.declared.refusal.Cause.TheVariants.{BadLabelField, TooManyContinuations, BadCharacter}
use Rattle.text_base.specs.declared.refusal.Refusal.{Refusal}
use Rattle.card_reader.specs.declared.check.State as code
use Rattle.card_reader.specs.Check.{state_of}
use Rattle.text_base.specs.declared.limits.TheConstants.{MOST_CONTINUED}
use Rattle.card_reader.specs.Check.{State, read_character, read_initial, read_place, read_fault, state_new, state_more, state_after, read_refusals}

-- the marks of what follows some characters are those from where the characters end
marks_behind : (s : Scan) (t u : List ℕ) → drop (length t) (marks_from s (t ++ u)) ≡ marks_from (scan_all s t) u
marks_behind s [] u = refl
marks_behind s (c ∷ t) u = marks_behind (scan_after s c) t u

pub scan_append : (s : Scan) (t u : List ℕ) → scan_all s (t ++ u) ≡ scan_all (scan_all s t) u
scan_append s [] u = refl
scan_append s (c ∷ t) u = scan_append (scan_after s c) t u

-- what the lines so far say of those that follow
abbrev pub state_as : Begun → State
state_as b = record { scan = scan_all (scan_start b.label) b.text; continued = b.continued }

character_same : (b : Begun) (l : List ℕ) → character_fault b l ≡ read_character (scan_all (scan_start b.label) b.text) l
character_same b l = λ i. column_fault BadCharacter
    (if is_bad (column_6 l) 0 then Some 6 else position_from (λ p. is_bad p.0 p.1) 7 (zip (statement_field l) (marks_behind (scan_start b.label) b.text (statement_field l) i)))

initial_same : (l : List ℕ) → initial_fault l ≡ read_initial l
initial_same l = λ i. option_or (long_fault l) (option_or (label_fault l) (character_same (begun_by l) l i))

place_same : (b : Option Begun) (l : List ℕ) → place_fault b l ≡ read_place (option_map state_as b) l
place_same None l = refl
place_same (Some b) l = λ i. if b.continued == MOST_CONTINUED then Some (TooManyContinuations, decimal 6) else character_same b l i

fault_same : (b : Option Begun) (l : List ℕ) → line_fault b l ≡ read_fault (option_map state_as b) l
fault_same b l = λ i. if is_comment l then long_fault l else
    (if is_initial l then initial_same l i else option_or (long_fault l) (option_or (column_fault BadLabelField (filled_column l)) (place_same b l i)))

new_same : (b : Option Begun) (fault : Option Fault) (l : List ℕ) → state_as (begun_new b fault l) ≡ state_new (option_map state_as b) fault l
new_same b None l = refl
new_same None (Some fault) l = refl
new_same (Some b) (Some fault) l = refl

more_same : (fault : Option Fault) (l : List ℕ) (b : Begun) → state_as (begun_more fault l b) ≡ state_more fault l (state_as b)
more_same None l b = ap (λ (s : Scan). record { scan = s; continued = b.continued + 1 }) (scan_append (scan_start b.label) b.text (statement_field l))
more_same (Some fault) l b = refl

after_more : (fault : Option Fault) (l : List ℕ) (b : Option Begun) → option_map state_as (option_map (begun_more fault l) b) ≡ option_map (state_more fault l) (option_map state_as b)
after_more fault l None = refl
after_more fault l (Some b) = ap Some (more_same fault l b)

after_same : (b : Option Begun) (l : List ℕ) → option_map state_as (begun_after b l) ≡ state_after (option_map state_as b) (line_fault b l) l
after_same b l = go (is_comment l) (is_initial l) (line_fault b l)
  where
    go : (c i : Bool) (fault : Option Fault) → option_map state_as (if c then b else (if i then Some (begun_new b fault l) else option_map (begun_more fault l) b))
        ≡ (if c then option_map state_as b else (if i then Some (state_new (option_map state_as b) fault l) else option_map (state_more fault l) (option_map state_as b)))
    go true i fault = refl
    go false true fault = ap Some (new_same b fault l)
    go false false fault = after_more fault l b

-- what is refused of some lines, after the lines so far of a statement
pub refusals_same : (file n : ℕ) (b : Option Begun) (ls : List (List ℕ)) → read_refusals file n (option_map state_as b) ls ≡ line_refusals file n b ls
refusals_same file n b [] = refl
refusals_same file n b (l ∷ ls) =
    (λ i. refused_at file n (sym (fault_same b l) i) ++ read_refusals file (n + 1) (state_after (option_map state_as b) (sym (fault_same b l) i) l) ls)
    ∙ ap (λ s. refused_at file n (line_fault b l) ++ read_refusals file (n + 1) s ls) (sym (after_same b l))
    ∙ ap (λ (rs : List Refusal). refused_at file n (line_fault b l) ++ rs) (refusals_same file (n + 1) (begun_after b l) ls)

-- the refusals with those of one more line, and what is left
pub refusals_more : (file n : ℕ) (s after : Option State) (fault : Option Fault) (old new all : List Refusal) (l : List ℕ) (ls : List (List ℕ)) → fault ≡ read_fault s l → after ≡ state_after s fault l
    → new ≡ old ++ refused_at file n fault → old ++ read_refusals file n s (l ∷ ls) ≡ all → new ++ read_refusals file (n + 1) after ls ≡ all
refusals_more file n s after fault old new all l ls is next grown whole =
    (λ i. grown i ++ read_refusals file (n + 1) (next i) ls)
    ∙ append_assoc old (refused_at file n fault) (read_refusals file (n + 1) (state_after s fault l) ls)
    ∙ ap (λ f. old ++ (refused_at file n f ++ read_refusals file (n + 1) (state_after s f l) ls)) is
    ∙ whole

-- a statement has fewer continuation lines than the file has lines so far
abbrev IsBelow : ℕ → Option State → Type 0
IsBelow n s = IfSome s (λ t. t.continued < n)

below_after : (s : Option State) (fault : Option Fault) (l : List ℕ) (n : ℕ) → IsBelow n s → IsBelow (n + 1) (state_after s fault l)
below_after s fault l n below = go (is_comment l) (is_initial l) s fault below
  where
    go : (c i : Bool) (s : Option State) (fault : Option Fault) → IsBelow n s → IsBelow (n + 1) (if c then s else (if i then Some (state_new s fault l) else option_map (state_more fault l) s))
    go true i None fault below = tt
    go true i (Some t) fault below = omega (arith, below)
    go false true s None below = omega arith
    go false true None (Some f) below = omega arith
    go false true (Some t) (Some f) below = omega arith
    go false false None fault below = tt
    go false false (Some t) None below = omega (arith, below)
    go false false (Some t) (Some f) below = omega (arith, below)

told : (n : ℕ) (s : Option code.State) → IfSome s (λ t. t.continued < n) → IsBelow n (option_map state_of s)
told n None below = tt
told n (Some t) below = below

untold : (n : ℕ) (s : Option code.State) → IsBelow n (option_map state_of s) → IfSome s (λ t. t.continued < n)
untold n None below = tt
untold n (Some t) below = below

pub fewer_after : (s after : Option code.State) (fault : Option Fault) (l : List ℕ) (n : ℕ) → option_map state_of after ≡ state_after (option_map state_of s) fault l
    → IfSome s (λ t. t.continued < n) → IfSome after (λ t. t.continued < n + 1)
fewer_after s after fault l n next below =
    untold (n + 1) after (subst (IsBelow (n + 1)) (sym next) (below_after (option_map state_of s) fault l n (told n s below)))
