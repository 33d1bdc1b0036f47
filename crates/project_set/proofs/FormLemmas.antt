-- What assignments and PROGRAM statements are made of: their names are names, and their constants are in the range.
use Rattle.std.proofs.Common.{◌≡◌, ⊎_elim, ℕ, Bool, true, false, List, [], codes, Some, None, refl, sym, ap, ◌∙◌, subst}
use Rattle.std.specs.Prelude.{if◌then◌else◌}
use Rattle.std.specs.Str.{bytes_eq}
use Rattle.std.proofs.lemmas.Option.{same_Some}
use Rattle.text_base.specs.Chars.{is_name}
use Rattle.text_base.specs.Pieces.{Piece}
use Rattle.text_base.specs.Trees.{Expr}
use Rattle.text_base.specs.Trees as tree
use Rattle.tree77.specs.ControlForms as c
use Rattle.tree77.specs.FormTable as sort
use Rattle.tree77.specs.FormTable.{Sort, form_of}
use Rattle.tree77.specs.FormWords.{made}
use Rattle.tree77.specs.Forms.{Form, Look, Matches, nothing, choice, told, refused}
use Rattle.tree77.specs.Kinds as kind
use Rattle.tree77.specs.Kinds.{Kind, is_among}
use Rattle.tree77.specs.Lexemes.{Part}
use Rattle.tree77.specs.Spelling.{room_of, refused_actions, refused_declarations, refused_anywhere, stand_in, IsFormatBody, body_spelled, body_refused, if_labels, if_block, IsKeywordStatement, keyword_form, keyword_typed, keyword_if, IsSpelledAs, IsWideStatement, wide_plain, wide_logical}
use Rattle.tree77.specs.Statements as s
use Rattle.tree77.specs.Statements.{Header, Simple, Statement}
use Rattle.tree77.specs.TransferForms as t
use Rattle.project_set.proofs.OperandLemmas.{IsSoundExpr, word_is_name, expression_is_sound}

-- ---- what no pieces of a form stand for

record Never {A : Type 0} (test : A → Bool) (f : Form A) : Type 0 where
  is : (depth : ℕ) (u : List Piece) (x : A) (ps : List Part) → Matches f depth u x ps → test x ≡ false

never_seen : {A B : Type 0} (test : A → Bool) (other : B → Bool) (view : B → A) (f : Form B) → ((y : B) → test (view y) ≡ other y) → Never other f → Never test (made view f)
never_seen test other view f same never = record { is = λ depth u x ps m. sym (ap test (same_Some (view m.0) x m.2)) ∙ same m.0 ∙ never.is depth u m.0 ps m.1 }

never_made : {A B : Type 0} (test : A → Bool) (view : B → A) (f : Form B) → ((y : B) → test (view y) ≡ false) → Never test (made view f)
never_made test view f fails = record { is = λ depth u x ps m. sym (ap test (same_Some (view m.0) x m.2)) ∙ fails m.0 }

never_nothing : {A : Type 0} (test : A → Bool) (y : A) → test y ≡ false → Never test (nothing y)
never_nothing test y fails = record { is = λ depth u x ps m. ap test m.1 ∙ fails }

never_choice : {A : Type 0} (test : A → Bool) (ks : List ℕ) (f g : Form A) → Never test f → Never test g → Never test (choice ks f g)
never_choice test ks f g first second = record { is = λ depth u x ps m. ⊎_elim (first.is depth u x ps) (second.is depth u x ps) m }

never_told : {A : Type 0} (test : A → Bool) (look : Look) (f g : Form A) → Never test f → Never test g → Never test (told look f g)
never_told test look f g first second = record { is = λ depth u x ps m. ⊎_elim (λ q. first.is depth u x ps q.1) (λ q. second.is depth u x ps q.1) m }

never_refused : {A : Type 0} (test : A → Bool) (p : Part) (f : Form A) → Never test f → Never test (refused p f)
never_refused test p f never = record { is = λ depth u x ps m. never.is depth u x m.0 m.1 }

-- ---- the forms that stand for no assignment and no PROGRAM statement

abbrev is_assign : Simple → Bool
is_assign (s.assign d x) = true
is_assign _ = false

abbrev is_program : Header → Bool
is_program (s.program x) = true
is_program _ = false

abbrev is_either : Statement → Bool
is_either (s.simple a) = is_assign a
is_either (s.header h) = is_program h
is_either _ = false

simple_never : (f : Form Simple) → Never is_assign f → Never is_either (made s.simple f)
simple_never f never = never_seen is_either is_assign s.simple f (λ a. refl) never

header_never : (f : Form Header) → Never is_program f → Never is_either (made s.header f)
header_never f never = never_seen is_either is_program s.header f (λ h. refl) never

goto_never : Never is_assign c.goto
goto_never =
    never_told is_assign _ c.computed _ (never_made is_assign _ _ (λ p. refl))
    (never_told is_assign _ c.assigned_goto _ (never_refused is_assign _ _ (never_made is_assign _ _ (λ p. refl))) (never_made is_assign s.goto _ (λ l. refl)))

return_never : Never is_assign c.return_
return_never = never_choice is_assign _ _ _ (never_refused is_assign _ _ (never_made is_assign _ _ (λ x. refl))) (never_nothing is_assign s.return_ refl)

stop_never : Never is_assign c.stop
stop_never =
    never_told is_assign _ _ _ (never_made is_assign _ _ (λ x. refl)) (never_told is_assign _ _ _ (never_made is_assign _ _ (λ x. refl)) (never_nothing is_assign (s.stop None) refl))

read_never : (n : ℕ) → Never is_assign (t.read n)
read_never n =
    let by_format : Never is_assign (t.read_by_format n) = never_made is_assign _ _ (λ p. refl) in
    never_told is_assign _ _ _ by_format (never_told is_assign _ _ _ (never_made is_assign _ _ (λ p. refl)) by_format)

abbrev is_other : Sort → Bool
is_other sort.assignment_sort = false
is_other sort.program_sort = false
is_other _ = true

never_form : (n : ℕ) (k : Sort) → is_other k ≡ true → Never is_either (form_of n k)
never_form n sort.assignment_sort o = absurd cc
never_form n sort.program_sort o = absurd cc
never_form n sort.subroutine_sort o = header_never c.subroutine (never_made is_program _ _ (λ p. refl))
never_form n sort.function_sort o = header_never c.function (never_made is_program _ _ (λ p. refl))
never_form n sort.integer_size_sort o = never_made is_either _ _ (λ h. refl)
never_form n sort.logical_size_sort o = never_made is_either _ _ (λ h. refl)
never_form n sort.character_size_sort o = never_made is_either _ _ (λ h. refl)
never_form n sort.block_data_sort o = header_never c.block_data (never_choice is_program _ _ _ (never_made is_program _ _ (λ x. refl)) (never_nothing is_program (s.block_data None) refl))
never_form n sort.implicit_sort o = never_made is_either s.declared _ (λ h. refl)
never_form n sort.parameter_sort o = never_made is_either s.declared _ (λ h. refl)
never_form n sort.integer_sort o = never_made is_either s.declared _ (λ h. refl)
never_form n sort.logical_sort o = never_made is_either s.declared _ (λ h. refl)
never_form n sort.character_sort o = never_made is_either s.declared _ (λ h. refl)
never_form n sort.dimension_sort o = never_made is_either s.declared _ (λ h. refl)
never_form n sort.common_sort o = never_made is_either s.declared _ (λ h. refl)
never_form n sort.equivalence_sort o = never_made is_either s.declared _ (λ h. refl)
never_form n sort.external_sort o = never_made is_either s.declared _ (λ h. refl)
never_form n sort.intrinsic_sort o = never_made is_either s.declared _ (λ h. refl)
never_form n sort.save_sort o = never_made is_either s.declared _ (λ h. refl)
never_form n sort.data_sort o = never_made is_either s.declared _ (λ h. refl)
never_form n sort.goto_sort o = simple_never c.goto goto_never
never_form n sort.arithmetic_sort o = simple_never c.arithmetic (never_made is_assign _ _ (λ p. refl))
never_form n sort.condition_sort o = never_made is_either s.if_then _ (λ h. refl)
never_form n sort.then_sort o = never_made is_either s.if_then _ (λ h. refl)
never_form n sort.else_if_sort o = never_made is_either s.else_if _ (λ h. refl)
never_form n sort.else_sort o = never_nothing is_either s.else_ refl
never_form n sort.end_if_sort o = never_nothing is_either s.end_if refl
never_form n sort.do_sort o = never_made is_either _ _ (λ h. refl)
never_form n sort.continue_sort o = never_nothing is_either _ refl
never_form n sort.return_sort o = simple_never c.return_ return_never
never_form n sort.stop_sort o = simple_never c.stop stop_never
never_form n sort.end_sort o = never_nothing is_either s.end refl
never_form n sort.call_sort o = simple_never c.call (never_made is_assign _ _ (λ p. refl))
never_form n sort.read_sort o = simple_never (t.read n) (read_never n)
never_form n sort.write_sort o = simple_never (t.write n) (never_made is_assign _ _ (λ p. refl))
never_form n sort.print_sort o = simple_never (t.print n) (never_made is_assign _ _ (λ p. refl))
never_form n sort.open_sort o = simple_never t.open_ (never_made is_assign s.open_ _ (λ p. refl))
never_form n sort.close_sort o = simple_never t.close_ (never_made is_assign s.close_ _ (λ p. refl))
never_form n sort.rewind_sort o = simple_never t.rewind (never_told is_assign _ _ _ (never_made is_assign s.rewind _ (λ p. refl)) (never_made is_assign _ _ (λ p. refl)))

-- ---- what assignments and PROGRAM statements are made of

-- the name of a PROGRAM statement is a name, and both sides of an assignment are sound
abbrev IsSoundHeader : Header → Type 0
IsSoundHeader (s.program x) = is_name x ≡ true
IsSoundHeader _ = Unit {0}

abbrev IsSoundSimple : Simple → Type 0
IsSoundSimple (s.assign d x) = IsSoundExpr d × IsSoundExpr x
IsSoundSimple _ = Unit {0}

abbrev pub IsSound : Statement → Type 0
IsSound (s.header h) = IsSoundHeader h
IsSound (s.simple a) = IsSoundSimple a
IsSound _ = Unit {0}

sound_header : (h : Header) → is_program h ≡ false → IsSoundHeader h
sound_header (s.program x) e = absurd cc
sound_header _ e = tt

sound_simple : (a : Simple) → is_assign a ≡ false → IsSoundSimple a
sound_simple (s.assign d x) e = absurd cc
sound_simple _ e = tt

sound_other : (x : Statement) → is_either x ≡ false → IsSound x
sound_other (s.header h) e = sound_header h e
sound_other (s.simple a) e = sound_simple a e
sound_other _ e = tt

-- what an assignment stands for
assigned_is_sound : (a b : Expr) (x : Statement) → IsSoundExpr a → IsSoundExpr b → c.assigned a b ≡ Some x → IsSound x
assigned_is_sound (tree.call f tree.none) b x left right e = subst IsSound (same_Some _ x e) tt
assigned_is_sound (tree.call f (tree.more y ys)) b x left right e = subst IsSound (same_Some _ x e) (left, right)
assigned_is_sound (tree.name y) b x left right e = subst IsSound (same_Some _ x e) (left, right)
assigned_is_sound (tree.substring y from to) b x left right e = subst IsSound (same_Some _ x e) (left, right)
assigned_is_sound _ b x left right e = absurd cc

assignment_is_sound : (depth : ℕ) (u : List Piece) (x : Statement) (ps : List Part) → Matches c.assignment depth u x ps → IsSound x
assignment_is_sound depth u x ps m =
    let sides = m.1 in
    let value = sides.6 in
    let right : IsSoundExpr m.0.1 = subst IsSoundExpr (same_Some value.0.1 m.0.1 value.2) (expression_is_sound value.1.1 value.1.6.0 value.0.1 value.1.6.1) in
    assigned_is_sound m.0.0 m.0.1 x (expression_is_sound sides.0 sides.5.0 m.0.0 sides.5.1) right m.2

program_is_sound : (depth : ℕ) (u : List Piece) (x : Statement) (ps : List Part) → Matches (made s.header c.program) depth u x ps → IsSound x
program_is_sound depth u x ps m =
    let named = m.1.1 in
    let is : s.header (s.program m.1.0) ≡ x = ap s.header (same_Some _ m.0 m.1.2) ∙ same_Some _ x m.2 in
    subst IsSound is (ap is_name named.3 ∙ word_is_name named.0 named.2)

-- what has the form of a sort is sound
form_is_sound : (n : ℕ) (k : Sort) (depth : ℕ) (u : List Piece) (x : Statement) (ps : List Part) → Matches (form_of n k) depth u x ps → IsSound x
form_is_sound n k depth u x ps m = go k (is_other k) refl m
  where
    go : (k : Sort) (b : Bool) → is_other k ≡ b → Matches (form_of n k) depth u x ps → IsSound x
    go k true o m = sound_other x ((never_form n k o).is depth u x ps m)
    go sort.assignment_sort false o m = assignment_is_sound depth u x ps m
    go sort.program_sort false o m = program_is_sound depth u x ps m
    go k false o m = absurd cc

-- ---- statements

body_is_sound : (pieces : List Piece) (x : Statement) (ps : List Part) → IsFormatBody pieces x ps → IsSound x
body_is_sound pieces x ps (body_spelled spelled is parts) = subst IsSound (sym is) tt
body_is_sound pieces x ps (body_refused with_word is parts) = subst IsSound (sym is) tt

keyword_is_sound : (word : List ℕ) (pieces : List Piece) (x : Statement) (ps : List Part) → IsKeywordStatement word pieces x ps → IsSound x
keyword_is_sound word pieces x ps (keyword_form {k = k} listed behind) = form_is_sound _ k 0 behind.rest x ps behind.formed
keyword_is_sound word pieces x ps (keyword_typed is typed) = subst IsSound (sym typed.is) tt
keyword_is_sound word pieces x ps (keyword_if {rest = rest} is whole (if_labels labels formed)) = form_is_sound (room_of rest) sort.arithmetic_sort 0 rest x ps formed
keyword_is_sound word pieces x ps (keyword_if {rest = rest} is whole (if_block labels block formed)) = form_is_sound (room_of rest) sort.then_sort 0 rest x ps formed

stand_in_is_sound : (word : List ℕ) → IsSound (stand_in word)
stand_in_is_sound word = go (is_among refused_actions word) (is_among refused_declarations word) (is_among refused_anywhere word) (bytes_eq word (codes "IMPLICITNONE"))
  where
    go : (a b c d : Bool)
        → IsSound (if a then s.simple s.continue else (if b then s.declared (s.typed s.integer_type []) else (if c then s.declared (s.data_ []) else (if d then s.declared (s.implicit []) else s.end))))
    go true b c d = tt
    go false true c d = tt
    go false false true d = tt
    go false false false true = tt
    go false false false false = tt

spelled_is_sound : (k : Kind) (pieces : List Piece) (x : Statement) (ps : List Part) → IsSpelledAs k pieces x ps → IsSound x
spelled_is_sound kind.format pieces x ps m = body_is_sound m.rest x ps m.body
spelled_is_sound kind.loop pieces x ps m = form_is_sound (room_of m.rest) sort.do_sort 0 m.rest x ps m.formed
spelled_is_sound kind.assign pieces x ps m = form_is_sound (room_of pieces) sort.assignment_sort 0 pieces x ps m
spelled_is_sound (kind.keyword word) pieces x ps m = keyword_is_sound word pieces x ps m
spelled_is_sound (kind.unsupported word) pieces x ps m = subst IsSound (sym m.0) (stand_in_is_sound word)
spelled_is_sound (kind.refused_function type) pieces x ps m = subst IsSound (sym m.0) tt
spelled_is_sound kind.nothing pieces x ps m = absurd m

-- a statement that is spelled is sound, whatever is refused of it
pub statement_is_sound : (label : ℕ) (pieces : List Piece) (x : Statement) (ps : List Part) → IsWideStatement label pieces x ps → IsSound x
statement_is_sound label pieces x ps (wide_plain m) = spelled_is_sound m.of pieces x ps m.spelled
statement_is_sound label pieces x ps (wide_logical m) = subst IsSound (sym m.guarded.is) tt
