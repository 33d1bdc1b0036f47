-- Nothing is refused of some lines, after the lines so far of a statement, where they and their statements are accepted.
use Rattle.std.proofs.Common.{◌≡◌, ◌≢◌, ◌↔◌, ◌∙◌, ap, refl, ℕ, suc, ◌+◌, ◌≤◌, Bool, true, false, not, cond, List, [], ◌∷◌, ◌++◌, length, take, Option, Some, None, IfSome, IsTrue, arith}
use Rattle.std.specs.Prelude.{if◌then◌else◌}
use Rattle.std.specs.List.{AllByRecursion, prefix_len, take_while}
use Rattle.std.specs.Option.{option_map}
use Rattle.text_base.specs.Kept.{scan_start, scan_all}
use Rattle.text_base.specs.Lines.{is_blank, is_comment, column_6, is_initial, label_field, label_of, statement_field}
use Rattle.text_base.specs.Cards.{statement_lines, grouped, fields}
use Rattle.text_base.specs.LineRefusals.{Fault, Begun, begun_by, long_fault, initial_fault, continuation_fault, begun_new, begun_more, refused_at, line_refusals}
use Rattle.text_base.specs.declared.limits.TheConstants.{LONGEST_LINE, MOST_CONTINUED}
use Rattle.text_base.specs.declared.refusal.Refusal.{Refusal}
use Rattle.definition_laws.specs.AcceptedLines.{CanStand, HasLabel, BeginInitial}
use Rattle.definition_laws.proofs.AcceptedFaults.{Stand, stand_append, scan_append, IsText, after, along, long_line, initial_line, continuation_line, unbegun_line}

-- ---- what is accepted

abbrev pub Numbered : Type 0
Numbered = ℕ × List ℕ

-- the continuation lines before the next initial line
abbrev pub continuations : List Numbered → List Numbered
continuations ps = take_while (λ q. not (is_initial q.1)) ps

-- a line of a statement by itself
abbrev pub Line : Numbered → Type 0
Line p = (is_initial p.1 ≡ true → HasLabel p.1) × (is_initial p.1 ≡ false → IsTrue (is_blank (label_field p.1))) × CanStand (column_6 p.1) 0

-- the lines of a statement together
abbrev pub Group : Numbered × List Numbered → Type 0
Group g = (length g.1 ≤ MOST_CONTINUED) × Stand (scan_start (label_of g.0.1)) (statement_field g.0.1 ++ fields g.1)

-- the lines that a statement begun before goes on with
abbrev pub Open : Option Begun → List Numbered → Type 0
Open None ps = BeginInitial ps
Open (Some b) ps = (b.continued + length (continuations ps) ≤ MOST_CONTINUED) × Stand (scan_all (scan_start b.label) b.text) (fields (continuations ps))

-- lines of statements, after the lines so far of one
abbrev pub Follow : Option Begun → List Numbered → Type 0
Follow b ps = AllByRecursion Line ps × Open b ps × AllByRecursion Group (grouped ps)

abbrev pub Short : List ℕ → Type 0
Short l = length l ≤ LONGEST_LINE

-- ---- lists

none_taken : (p : Numbered) (ps : List Numbered) → is_initial p.1 ≡ true → continuations (p ∷ ps) ≡ []
none_taken p ps e = ap (λ b. take (cond (not b) (1 + prefix_len (λ (q : Numbered). not (is_initial q.1)) ps) 0) (p ∷ ps)) e

one_taken : (p : Numbered) (ps : List Numbered) → is_initial p.1 ≡ false → continuations (p ∷ ps) ≡ p ∷ continuations ps
one_taken p ps e = let k = prefix_len (λ (q : Numbered). not (is_initial q.1)) ps in
    ap (λ b. take (cond (not b) (1 + k) 0) (p ∷ ps)) e ∙ ap (λ n. take n (p ∷ ps)) (let same : 1 + k ≡ suc k = omega arith in same)

-- where a line has no fault, the next lines are read after it
cleared : (file n : ℕ) (fault : Option Fault) (more : Option Fault → List Refusal) → (refused_at file n fault ++ more fault ≡ []) ↔ ((fault ≡ None) × (more None ≡ []))
cleared file n None more = (λ e. (refl, e), λ h. h.1)
cleared file n (Some f) more = (λ e. absurd cc, λ h. absurd cc)

-- ---- one line more

-- a statement has no more continuation lines than it may so far
abbrev pub IsFew : Option Begun → Type 0
IsFew b = IfSome b (λ t. t.continued ≤ MOST_CONTINUED)

-- nothing goes on at an initial line
open_initial : (b : Option Begun) (p : Numbered) (ps : List Numbered) → is_initial p.1 ≡ true → IsFew b → Open b (p ∷ ps)
open_initial None p ps e few = e
open_initial (Some b) p ps e few = rw none_taken (omega (arith, few), tt)

open_nothing : (b : Option Begun) → IsFew b → Open b []
open_nothing None few = tt
open_nothing (Some b) few = (omega (arith, few), tt)

-- an initial line begins a group
initial_group : (p : Numbered) (ps : List Numbered) → is_initial p.1 ≡ true → AllByRecursion Group (grouped (p ∷ ps)) ↔ (Group (p, continuations ps) × AllByRecursion Group (grouped ps))
initial_group p ps e = rw e (λ h. h, λ h. h)

same_groups : (p : Numbered) (ps : List Numbered) → is_initial p.1 ≡ false → grouped (p ∷ ps) ≡ grouped ps
same_groups p ps e = rw e refl

-- an initial line, and what follows it
initial_follows : (b : Option Begun) (n : ℕ) (l : List ℕ) (ps : List Numbered) → is_initial l ≡ true → IsFew b
    → ((HasLabel l × IsText (begun_by l) l) × Follow (Some (begun_new b None l)) ps) ↔ Follow b ((n, l) ∷ ps)
initial_follows b n l ps e few =
    let group = initial_group (n, l) ps e in
    let text = stand_append (scan_start (label_of l)) (statement_field l) (fields (continuations ps)) in (
      λ h. (((λ _. h.0.0, λ f. absurd cc, h.0.1.0), h.1.0), open_initial b (n, l) ps e few, group.1 ((omega (arith, h.1.1.0), text.1 (h.0.1.1, h.1.1.1)), h.1.2)),
      λ h. let g = group.0 h.2 in let t = text.0 g.0.1 in ((h.0.0.0 e, (h.0.0.2, t.0)), (h.0.1, (omega (arith, g.0.0), t.1), g.1)),
    )

-- a statement goes on with a continuation line
open_continuation : (b : Begun) (n : ℕ) (l : List ℕ) (ps : List Numbered) → is_initial l ≡ false → b.continued ≤ MOST_CONTINUED
    → (((b.continued ≢ MOST_CONTINUED) × Stand (scan_all (scan_start b.label) b.text) (statement_field l)) × Open (Some (begun_more None l b)) ps) ↔ Open (Some b) ((n, l) ∷ ps)
open_continuation b n l ps e few =
    let text = stand_append (scan_all (scan_start b.label) b.text) (statement_field l) (fields (continuations ps)) in
    rw (one_taken (n, l) ps e, scan_append (scan_start b.label) b.text (statement_field l))
    (λ h. (omega (arith, h.1.0), text.1 (h.0.1, h.1.1)), λ h. let t = text.0 h.1 in ((λ full. omega (arith, h.0, full), t.0), (omega (arith, h.0), t.1)))

-- a continuation line, and what follows it
continuation_follows : (b : Begun) (n : ℕ) (l : List ℕ) (ps : List Numbered) → is_initial l ≡ false → b.continued ≤ MOST_CONTINUED
    → (((is_blank (label_field l) ≡ true) × ((b.continued ≢ MOST_CONTINUED) × IsText b l)) × Follow (Some (begun_more None l b)) ps) ↔ Follow (Some b) ((n, l) ∷ ps)
continuation_follows b n l ps e few =
    let goes = open_continuation b n l ps e few in
    rw (same_groups (n, l) ps e) (
      λ h. (((λ f. absurd cc, λ _. h.0.0, h.0.1.1.0), h.1.0), goes.0 ((h.0.1.0, h.0.1.1.1), h.1.1), h.1.2),
      λ h. let o = goes.1 h.1 in ((h.0.0.1 e, (o.0.0, (h.0.0.2, o.0.1))), (h.0.1, o.1, h.2)),
    )

-- ---- all lines

-- a line and the lines after it, which are accepted where the line is
joined : {X Y S T E F G : Type 0} → X ↔ (S × T) → (T → Y ↔ (E × F)) → (T × F) ↔ G → (X × Y) ↔ ((S × E) × G)
joined one more all = (
  λ h. let s = one.0 h.0 in let r = (more s.1).0 h.1 in ((s.0, r.0), all.0 (s.1, r.1)),
  λ h. let t = all.1 h.1 in (one.1 (h.0.0, t.0), (more t.0).1 (h.0.1, t.1)),
)

-- what is refused of a line of a statement and of the lines after it, by whether it is an initial line
abbrev by_sort : ℕ → ℕ → Option Begun → List ℕ → List (List ℕ) → Bool → List Refusal
by_sort file n b l ls i =
    let fault = if i then initial_fault l else continuation_fault b l in
    refused_at file n fault ++ line_refusals file (n + 1) (if i then Some (begun_new b fault l) else option_map (begun_more fault l) b) ls

pub lines_follow : (file n : ℕ) (b : Option Begun) (ls : List (List ℕ)) → IsFew b
    → (line_refusals file n b ls ≡ []) ↔ (AllByRecursion Short ls × Follow b (statement_lines n ls))
lines_follow file n b [] few = (λ e. (tt, (tt, open_nothing b few, tt)), λ h. refl)
lines_follow file n b (l ∷ ls) few = go (is_comment l) (is_initial l) refl refl b few (λ c. lines_follow file (n + 1) c ls)
  where
    Rest : Option Begun → Type 0
    Rest c = IsFew c → (line_refusals file (n + 1) c ls ≡ []) ↔ (AllByRecursion Short ls × Follow c (statement_lines (n + 1) ls))

    go : (c i : Bool) → is_comment l ≡ c → is_initial l ≡ i → (b : Option Begun) → IsFew b → ((c : Option Begun) → Rest c)
        → (line_refusals file n b (l ∷ ls) ≡ []) ↔ (AllByRecursion Short (l ∷ ls) × Follow b (statement_lines n (l ∷ ls)))
    go true i comment is b few rest =
        rw comment (after (cleared file n (long_fault l) (λ f. line_refusals file (n + 1) b ls))
        (joined {T = Unit {0}} (λ e. ((long_line l).0 e, tt), λ h. (long_line l).1 h.0) (λ _. rest b few) (λ h. h.1, λ h. (tt, h))))
    go false i comment is b few rest = rw comment (after (along (ap (by_sort file n b l ls) is)) (one_more i is b few rest))
      where
        one_more : (i : Bool) → is_initial l ≡ i → (b : Option Begun) → IsFew b → ((c : Option Begun) → Rest c)
            → (by_sort file n b l ls i ≡ []) ↔ (AllByRecursion Short (l ∷ ls) × Follow b ((n, l) ∷ statement_lines (n + 1) ls))
        one_more true is b few rest =
            after (cleared file n (initial_fault l) (λ f. line_refusals file (n + 1) (Some (begun_new b f l)) ls))
            (joined (initial_line l) (λ _. rest (Some (begun_new b None l)) (omega arith)) (initial_follows b n l (statement_lines (n + 1) ls) is few))
        one_more false is None few rest =
            (λ e. absurd (unbegun_line l ((cleared file n (continuation_fault None l) (λ f. line_refusals file (n + 1) None ls)).0 e).0), λ h. let first : is_initial l ≡ true = h.1.1 in absurd cc)
        one_more false is (Some b) few rest =
            after (cleared file n (continuation_fault (Some b) l) (λ f. line_refusals file (n + 1) (Some (begun_more f l b)) ls))
            (joined (continuation_line b l) (λ t. rest (Some (begun_more None l b)) (omega (arith, t.1.0, few))) (continuation_follows b n l (statement_lines (n + 1) ls) is few))
