-- The reading of tokens by a form, as a function.
use Rattle.std.specs.Prelude.{◌≡◌, pos, ℤ, ℕ, zero, suc, ◌+◌, ◌-◌, ◌==◌, Bool, true, false, ◌&&◌, ◌||◌, List, [], ◌∷◌, length, take, Option, Some, None, if◌then◌else◌}
use Rattle.std.specs.Option.{option_map, option_and_then}
use Rattle.std.specs.Str.{bytes_eq}
use Rattle.text_base.specs.Formats.{FormatItems}
use Rattle.text_base.specs.Trees.{Expr}
use Rattle.text_base.specs.declared.limits.TheConstants.{LONGEST_NAME}
use Rattle.tree77.specs.Kinds.{is_word, open_after}
use Rattle.tree77.specs.Tokens.{TokenKind, run, digits, kept, mark, Token}
use Rattle.tree77.specs.Lexemes as lexeme
use Rattle.tree77.specs.Lexemes.{Part, part_of, decimal, is_label}
use Rattle.expr77.specs.Gathering.{keep}
use Rattle.expr77.specs.LexemeReading.{character_of, behind_mark, run_here, digits_here, quoted_value}
use Rattle.expr77.specs.Outcome.{expression_of}
use Rattle.format77.specs.TextReading.{read_text}
use Rattle.tree77.specs.Forms as form
use Rattle.tree77.specs.Forms.{Form, Look, is_in, small_or_0}

-- the tokens that are left, how many parentheses are open, and the lowest refused part so far
pub record State : Type 0 where
  pub tokens : List Token
  pub depth : ℕ
  pub lowest : Option Part

-- what is read, and what is left
abbrev pub Reader : Type 0 → Type 0
Reader A = State → Option (A × State)

-- ---- a look at what is left

-- the sort of what stands next
abbrev pub sort_of_token : TokenKind → List ℕ → ℕ
sort_of_token run t = 65
sort_of_token digits t = 48
sort_of_token kept t = 39
sort_of_token mark t = character_of mark t

abbrev pub next_sort : List Token → ℕ
next_sort [] = 0
next_sort (t ∷ ts) = sort_of_token t.kind t.text

-- what is left behind one token
abbrev pub behind_token : List Token → List Token
behind_token [] = []
behind_token (t ∷ ts) = ts

abbrev pub run_text : TokenKind → List ℕ → List ℕ
run_text run t = t
run_text digits t = []
run_text kept t = []
run_text mark t = []

abbrev pub next_text : List Token → List ℕ
next_text [] = []
next_text (t ∷ ts) = run_text t.kind t.text

-- what is left behind the parenthesis with which none of so many is open any more
abbrev pub behind_partner : ℕ → List Token → List Token
behind_partner n [] = []
behind_partner n (t ∷ ts) = if open_after n (character_of t.kind t.text) == 0 then ts else behind_partner (open_after n (character_of t.kind t.text)) ts

abbrev pub has_equals : ℕ → List Token → Bool
has_equals n [] = false
has_equals n (t ∷ ts) =
    if open_after n (character_of t.kind t.text) == 0 then false
    else ((n == 1 && character_of t.kind t.text == 61) || has_equals (open_after n (character_of t.kind t.text)) ts)

abbrev pub is_ahead : Look → List Token → Bool
is_ahead (form.one ks) ts = is_in ks (next_sort ts)
is_ahead (form.two k ks) ts = next_sort ts == k && is_in ks (next_sort (behind_token ts))
is_ahead (form.three a b c) ts = next_sort ts == a && (next_sort (behind_token ts) == b && next_sort (behind_token (behind_token ts)) == c)
is_ahead (form.text w ks) ts = bytes_eq (next_text ts) w && is_in ks (next_sort (behind_token ts))
is_ahead (form.group ks) ts = next_sort ts == 40 && is_in ks (next_sort (behind_partner 0 ts))
is_ahead form.equated ts = next_sort ts == 40 && has_equals 0 ts

-- ---- states

abbrev pub with_tokens : State → List Token → State
with_tokens s ts = record { tokens = ts; depth = s.depth; lowest = s.lowest }

abbrev pub with_parts : State → List Part → State
with_parts s ps = record { tokens = s.tokens; depth = s.depth; lowest = keep s.lowest ps }

abbrev pub sort_at : State → ℕ
sort_at s = next_sort s.tokens

abbrev pub lowest_of : State → Option Part
lowest_of s = s.lowest

abbrev pub look_at : Look → State → Bool
look_at look s = is_ahead look s.tokens

abbrev pub size_of : State → ℕ
size_of s = length s.tokens

-- ---- single tokens

abbrev pub read_mark : ℕ → Reader (Unit {0})
read_mark c s = option_map (λ ts. (tt, with_tokens s ts)) (behind_mark c s.tokens)

-- a mark stood next and was taken, or it didn't and all is left
abbrev pub Taken : ℕ → State → Bool → State → Type 0
Taken c before true after = (ts : List Token) × (behind_mark c before.tokens ≡ Some ts) × (after ≡ with_tokens before ts)
Taken c before false after = (behind_mark c before.tokens ≡ None) × (after ≡ before)

abbrev pub read_word : List ℕ → Reader (Unit {0})
read_word w s = option_and_then (λ r. if bytes_eq r.0 w then Some (tt, with_tokens s r.1) else None) (run_here s.tokens)

abbrev pub name_from : State → List ℕ × List Token → Option (List ℕ × State)
name_from s r = if is_word r.0 then Some (take LONGEST_NAME r.0, with_parts (with_tokens s r.1) (part_of s.depth (lexeme.name r.0))) else None

abbrev pub read_name : Reader (List ℕ)
read_name s = option_and_then (name_from s) (run_here s.tokens)

abbrev pub label_from : State → List ℕ × List Token → Option (ℕ × State)
label_from s r = if is_label r.0 then Some (decimal r.0, with_tokens s r.1) else None

abbrev pub read_label : Reader ℕ
read_label s = option_and_then (label_from s) (digits_here s.tokens)

abbrev pub read_numeral : Reader (List ℕ)
read_numeral s = option_map (λ r. (r.0, with_tokens s r.1)) (digits_here s.tokens)

-- a character constant that is a format: its characters, its items, and the parts of it that are refused
abbrev pub text_if_kept : TokenKind → List ℕ → Option (List ℕ)
text_if_kept run t = None
text_if_kept digits t = None
text_if_kept kept t = Some t
text_if_kept mark t = None

-- kept text, and what is left behind it
abbrev pub kept_here : List Token → Option (List ℕ × List Token)
kept_here [] = None
kept_here (t ∷ ts) = option_map (λ u. (u, ts)) (text_if_kept t.kind t.text)

-- behind the constant
abbrev pub format_found : State → List ℕ → Option (FormatItems × List Part) → Option ((List ℕ × FormatItems) × State)
format_found s v found = option_map (λ p. ((v, p.0), with_parts s p.1)) found

abbrev pub format_from : State → List ℕ × List Token → Option ((List ℕ × FormatItems) × State)
format_from s r = option_and_then (λ v. format_found (with_tokens s r.1) v (read_text v)) (quoted_value r.0)

abbrev pub read_format_text : Reader (List ℕ × FormatItems)
read_format_text s = option_and_then (format_from s) (kept_here s.tokens)

abbrev pub number_from : State → List ℕ × List Token → ℕ × State
number_from s r = (small_or_0 r.0, with_parts (with_tokens s r.1) (part_of s.depth (lexeme.integer r.0)))

abbrev pub read_number : Reader ℕ
read_number s = option_map (number_from s) (digits_here s.tokens)

-- ---- expressions

-- The tokens before the first of these marks outside parentheses, where so many are open, and the others; nothing where a
-- parenthesis is open at the end.
abbrev pub split : List ℕ → ℕ → List Token → Option (List Token × List Token)
split marks n [] = if n == 0 then Some ([], []) else None
split marks n (t ∷ ts) =
    if n == 0 && is_in marks (character_of t.kind t.text) then Some ([], t ∷ ts)
    else option_map (λ p. (t ∷ p.0, p.1)) (split marks (open_after n (character_of t.kind t.text)) ts)

-- how many tokens those before are
abbrev pub count_before : List ℕ → ℕ → List Token → Option ℕ
count_before marks n [] = if n == 0 then Some 0 else None
count_before marks n (t ∷ ts) =
    if n == 0 && is_in marks (character_of t.kind t.text) then Some 0 else option_map suc (count_before marks (open_after n (character_of t.kind t.text)) ts)

-- where so many parentheses are open: a star stands in the outermost ones, behind the one that opens them or a comma, one of which
-- may stand before the tokens
abbrev pub has_star : Bool → ℕ → List Token → Bool
has_star after n [] = false
has_star after n (t ∷ ts) =
    (after && (n == 1 && character_of t.kind t.text == 42)) || has_star (character_of t.kind t.text == 40 || character_of t.kind t.text == 44) (open_after n (character_of t.kind t.text)) ts

abbrev pub portion_of : ℕ → List Token → Option (Expr × Option Part) → Option (Expr × State)
portion_of depth rest found = option_map (λ p. (p.0, record { tokens = rest; depth = depth; lowest = p.1 })) found

abbrev pub portion_at : Bool → State → List Token × List Token → Option (Expr × State)
portion_at strict s p = if strict && has_star false 0 p.0 then None else portion_of s.depth p.1 (expression_of s.depth s.lowest p.0)

unfoldable pub read_portion : Bool → List ℕ → Reader Expr
read_portion strict marks s = option_and_then (portion_at strict s) (split marks 0 s.tokens)

-- ---- parentheses

-- behind a parenthesis that opens, and behind its partner
abbrev pub open_state : State → List Token → State
open_state s ts = record { tokens = ts; depth = s.depth + 1; lowest = keep s.lowest (part_of s.depth lexeme.opening) }

abbrev pub read_open : Reader (Unit {0})
read_open s = option_map (λ ts. (tt, open_state s ts)) (behind_mark 40 s.tokens)

abbrev pub close_state : State → List Token → State
close_state s ts = record { tokens = ts; depth = s.depth - 1; lowest = s.lowest }

abbrev pub read_close : Reader (Unit {0})
read_close s = option_map (λ ts. (tt, close_state s ts)) (behind_mark 41 s.tokens)

abbrev pub read_inside : {A : Type 0} → Reader A → Reader A
read_inside one s = option_and_then (λ a. option_and_then (λ b. option_map (λ c. (b.0, c.1)) (read_close b.1)) (one a.1)) (read_open s)

-- ---- one behind the other

-- what is read, in front of a list that is read behind it
abbrev pub with_first : {A : Type 0} → Option (A × State) → Reader (List A) → Option (List A × State)
with_first found more = option_and_then (λ a. option_map (λ b. (a.0 ∷ b.0, b.1)) (more a.1)) found

-- those that begin with one of these sorts, in so many turns at most
abbrev pub read_repeated : {A : Type 0} → List ℕ → Reader A → ℕ → Reader (List A)
read_repeated ks one zero s = Some ([], s)
read_repeated ks one (suc n) s = if is_in ks (next_sort s.tokens) then with_first (one s) (read_repeated ks one n) else Some ([], s)

abbrev pub read_all : {A : Type 0} → List ℕ → Reader A → Reader (List A)
read_all ks one s = read_repeated ks one (length s.tokens) s

-- ---- choices

-- behind a mark, if that stands here
abbrev pub perhaps_at : {A : Type 0} → State → Reader A → Option (List Token) → Option (Option A × State)
perhaps_at s one None = Some (None, s)
perhaps_at s one (Some ts) = option_map (λ a. (Some a.0, a.1)) (one (with_tokens s ts))

abbrev pub read_perhaps : {A : Type 0} → ℕ → Reader A → Reader (Option A)
read_perhaps c one s = perhaps_at s one (behind_mark c s.tokens)

abbrev pub read_choice : {A : Type 0} → List ℕ → Reader A → Reader A → Reader A
read_choice ks one other s = if is_in ks (next_sort s.tokens) then one s else other s

abbrev pub read_told : {A : Type 0} → Look → Reader A → Reader A → Reader A
read_told look one other s = if is_ahead look s.tokens then one s else other s

-- ---- what was read, judged as a whole: its own parts count behind those of the whole

-- no part or one, as a list
abbrev pub parts_in : Option Part → List Part
parts_in None = []
parts_in (Some p) = p ∷ []

abbrev pub without_parts : State → State
without_parts s = record { tokens = s.tokens; depth = s.depth; lowest = None }

-- the state behind, where these parts of the whole come first, behind those that were known before
abbrev pub with_whole : Option Part → List Part → State → State
with_whole before js s = record { tokens = s.tokens; depth = s.depth; lowest = keep (keep before js) (parts_in s.lowest) }

abbrev pub read_judged : {A B : Type 0} → (A → Option (B × List Part)) → Reader A → Reader B
read_judged view one s = option_and_then (λ a. option_map (λ j. (j.0, with_whole s.lowest j.1 a.1)) (view a.0)) (one (without_parts s))

-- ---- all forms

abbrev pub read_nothing : {A : Type 0} → A → Reader A
read_nothing x s = Some (x, s)

-- what is read by a form
abbrev pub read : {A : Type 0} → Form A → Reader A
read (form.nothing x) s = read_nothing x s
read (form.mark c) s = read_mark c s
read (form.word w) s = read_word w s
read form.name s = read_name s
read form.label s = read_label s
read form.numeral s = read_numeral s
read form.number s = read_number s
read form.format_text s = read_format_text s
read (form.portion strict marks) s = read_portion strict marks s
read (form.inside f) s = read_inside (read f) s
read (form.both f g) s = option_and_then (λ a. option_map (λ b. ((a.0, b.0), b.1)) (read g a.1)) (read f s)
read (form.choice ks f g) s = read_choice ks (read f) (read g) s
read (form.told look f g) s = read_told look (read f) (read g) s
read (form.perhaps c f) s = read_perhaps c (read f) s
read (form.repeated ks f) s = read_all ks (read f) s
read (form.seen view f) s = option_and_then (λ a. option_map (λ y. (y, a.1)) (view a.0)) (read f s)
read (form.judged view f) s = read_judged view (read f) s
read (form.refused p f) s = read f (with_parts s (p ∷ []))

-- an integer constant as a number
abbrev pub read_integer : Reader ℤ
read_integer s = option_map (λ a. (pos a.0, a.1)) (read_number s)
