-- What has a form is read by it, whatever stands behind.
use Rattle.std.proofs.Common.{◌≡◌, ◌⊎◌, inl, inr, ℕ, zero, suc, ◌+◌, ◌≤◌, Bool, true, false, not, ◌&&◌, ◌||◌, ◌==◌, List, [], ◌∷◌, ◌++◌, length, take, Option, Some, None, refl, sym, ap, ◌∙◌, subst, append_assoc, append-nil, arith}
use Rattle.std.specs.Prelude.{if◌then◌else◌}
use Rattle.std.specs.List.{list_all}
use Rattle.std.specs.Option.{option_map, option_and_then}
use Rattle.std.specs.Str.{bytes_eq}
use Rattle.std.proofs.lemmas.Bool.{and_parts, and_from, eq-eqb, not-true}
use Rattle.std.proofs.lemmas.List.{length-append}
use Rattle.text_base.specs.Formats.{quoted}
use Rattle.text_base.specs.Pieces.{Piece, plain, whole, broken}
use Rattle.text_base.specs.declared.limits.TheConstants.{LONGEST_NAME}
use Rattle.text_base.specs.Chars.{is_upper, is_digit}
use Rattle.tree77.specs.Kinds.{is_word}
use Rattle.tree77.specs.Tokens.{TokenKind, run, digits, kept, Token, is_mark, IsCut, cut_nothing, cut_mark}
use Rattle.tree77.specs.Tokens as token
use Rattle.tree77.specs.Stops.{Begins}
use Rattle.tree77.specs.Lexemes as lexeme
use Rattle.tree77.specs.Lexemes.{Part, part_of, parts_from, is_label, decimal}
use Rattle.forms77.proofs.Marks.{each_mark}
use Rattle.expr77.specs.Gathering.{keep}
use Rattle.expr77.specs.LexemeReading.{character_of, behind_mark}
use Rattle.expr77.specs.Outcome.{expression_of}
use Rattle.format77.specs.TextReading.{read_text}
use Rattle.tree77.specs.Forms.{Form, nothing, mark, word, name, label, numeral, number, format_text, portion, inside, both, choice, told, perhaps, repeated, seen, judged, refused, Repeats, repeats_none, repeats_more, Matches, ahead, is_starred, stays, first_sort, is_in}
use Rattle.forms77.specs.Goodness.{is_good_look, are_told, look_stops, stops, is_null, implies, begins, is_good}
use Rattle.forms77.specs.Reading.{State, next_sort, is_ahead, split, has_star, read_numeral, read_number, read_format_text, format_found, portion_at, portion_of, read_portion, read_mark, read_word, read_name, read_label, read_close, perhaps_at, with_first, read_repeated, with_whole, parts_in, read}
use Rattle.forms77.specs.Laws.{at_least, Reads}
use Rattle.forms77.proofs.Fronts.{mark_of, run_of, digits_of, kept_of, run_first, digits_first, mark_first, kept_first}
use Rattle.forms77.proofs.Lower.{Lower}
use Rattle.forms77.proofs.Sorts.{next_is_first, implied, of_each, ends_name, ends_digits}
use Rattle.forms77.proofs.Passing.{pieces_of_tokens, look_is, Faces, faces_end, faces_mark, split_reads, star_is}
use Rattle.forms77.proofs.Starts.{Starts, starts, repeats_start, stops_first, never_null, label_is_number}
use Rattle.forms77.proofs.Steady.{ClosesFirst, first_closed, second_closed, steady}
use Rattle.forms77.proofs.Sound.{mark_is_not_0, one_less}
use Rattle.forms77.proofs.Keeping.{keep_append, keep_kept}

-- ---- how many tokens a form takes at least

abbrev least : Bool → ℕ
least b = if b then 0 else 1

both_least : (a b : Bool) (x y z : ℕ) → x + least b ≤ y → y + least a ≤ z → x + least (a && b) ≤ z
both_least true true x y z e f = omega (arith, e, f)
both_least true false x y z e f = omega (arith, e, f)
both_least false true x y z e f = omega (arith, e, f)
both_least false false x y z e f = omega (arith, e, f)

or_least : (a b : Bool) (x z : ℕ) → x + least a ≤ z → x + least (a || b) ≤ z
or_least true b x z e = e
or_least false true x z e = omega (arith, e)
or_least false false x z e = e

or_least_too : (a b : Bool) (x z : ℕ) → x + least b ≤ z → x + least (a || b) ≤ z
or_least_too true true x z e = e
or_least_too true false x z e = omega (arith, e)
or_least_too false b x z e = e

weaker : (a b : Bool) (x z : ℕ) → not a ≡ true → x + least a ≤ z → x + least b ≤ z
weaker true b x z some e = absurd cc
weaker false true x z some e = omega (arith, e)
weaker false false x z some e = e

any_least : (a : Bool) (x y z : ℕ) → x + least a ≤ y → y + 1 ≤ z → x + 0 ≤ z
any_least true x y z e f = omega (arith, e, f)
any_least false x y z e f = omega (arith, e, f)

inside_least : (a : Bool) (w x y z : ℕ) → w + 1 ≤ x → x + least a ≤ y → y + 1 ≤ z → w + 1 ≤ z
inside_least true w x y z e f g = omega (arith, e, f, g)
inside_least false w x y z e f g = omega (arith, e, f, g)

-- ---- single tokens

tail_is_one_less : (t : Token) (ts rest : List Token) → ts ≡ t ∷ rest → length rest + 1 ≤ length ts
tail_is_one_less t ts rest e = let n : length ts ≡ length (t ∷ rest) = ap length e in omega (arith, n)

mark_reads : (c : ℕ) (rest : List Token) → behind_mark c (mark_of c ∷ rest) ≡ Some rest
mark_reads c rest = ap (λ b. if b then Some rest else None) (eq-eqb c c refl)

abbrev at : List Token → ℕ → Option Part → State
at ts d l = record { tokens = ts; depth = d; lowest = l }

-- the parts may be written otherwise
with_equal : {A : Type 0} {f : Form A} {d : ℕ} {l : Option Part} {ts : List Token} {x : A} {ps : List Part} {v : List Piece} (left : List Token) → IsCut v left → length left + at_least f ≤ length ts
    → (k : Option Part) → read f (at ts d l) ≡ Some (x, at left d k) → k ≡ keep l ps → Reads f d l ts x ps v
with_equal {d = d} {x = x} left cut fewer k is same = record { left = left; cut = cut; fewer = fewer; is = is ∙ ap (λ y. Some (x, at left d y)) same }

abbrev ReadsForm : {A : Type 0} → Form A → Type 0
ReadsForm f = (d : ℕ) (l : Option Part) (u v : List Piece) (x : _) (ps : List Part) (ts : List Token) → Matches f d u x ps → stops f (first_sort v) ≡ true → IsCut (u ++ v) ts → Reads f d l ts x ps v

module _ (low : Lower) where
  mark_complete : (c : ℕ) → is_mark c ≡ true → ReadsForm (mark c)
  mark_complete c good d l u v x ps ts m stop cut =
      let t = mark_first low c v ts good (subst (λ y. IsCut (y ++ v) ts) m.0 cut) in
      with_equal t.0 t.2 (tail_is_one_less (mark_of c) ts t.0 t.1) l
      (ap (λ (y : List Token). read_mark c (at y d l)) t.1 ∙ ap (option_map (λ (us : List Token). (tt, at us d l))) (mark_reads c t.0))
      (ap (keep l) (sym m.1))

  word_complete : (w : List ℕ) → is_word w ≡ true → ReadsForm (word w)
  word_complete w good d l u v x ps ts m stop cut =
      let t = run_first low w v ts good (ends_name v stop) (subst (λ y. IsCut (y ++ v) ts) m.0 cut) in
      with_equal t.0 t.2 (tail_is_one_less (run_of w) ts t.0 t.1) l
      (ap (λ (y : List Token). read_word w (at y d l)) t.1 ∙ ap (λ b. if b then Some (tt, at t.0 d l) else None) (same_word w))
      (ap (keep l) (sym m.1))
    where
      same_word : (w : List ℕ) → bytes_eq w w ≡ true
      same_word [] = refl
      same_word (c ∷ w) = and_from (c == c) (bytes_eq w w) (eq-eqb c c refl) (same_word w)

  name_complete : ReadsForm name
  name_complete d l u v x ps ts m stop cut =
      let w = m.0 in
      let t = run_first low w v ts m.2 (ends_name v stop) (subst (λ y. IsCut (y ++ v) ts) m.1 cut) in
      with_equal t.0 t.2 (tail_is_one_less (run_of w) ts t.0 t.1) (keep l (part_of d (lexeme.name w)))
      (ap (λ (y : List Token). read_name (at y d l)) t.1
      ∙ ap (λ b. if b then Some (take LONGEST_NAME w, at t.0 d (keep l (part_of d (lexeme.name w)))) else None) m.2
      ∙ ap (λ y. Some (y, at t.0 d (keep l (part_of d (lexeme.name w))))) (sym m.3))
      (ap (keep l) (sym m.4))

  label_complete : ReadsForm label
  label_complete d l u v x ps ts m stop cut =
      let w = m.0 in
      let t = digits_first low w v ts (label_is_number w m.2) (ends_digits v stop) (subst (λ y. IsCut (y ++ v) ts) m.1 cut) in
      with_equal t.0 t.2 (tail_is_one_less (digits_of w) ts t.0 t.1) l
      (ap (λ (y : List Token). read_label (at y d l)) t.1 ∙ ap (λ b. if b then Some (decimal w, at t.0 d l) else None) m.2 ∙ ap (λ y. Some (y, at t.0 d l)) (sym m.3))
      (ap (keep l) (sym m.4))

  numeral_complete : ReadsForm numeral
  numeral_complete d l u v x ps ts m stop cut =
      let t = digits_first low x v ts m.1 (ends_digits v stop) (subst (λ y. IsCut (y ++ v) ts) m.0 cut) in
      with_equal t.0 t.2 (tail_is_one_less (digits_of x) ts t.0 t.1) l
      (ap (λ (y : List Token). read_numeral (at y d l)) t.1)
      (ap (keep l) (sym m.2))

  number_complete : ReadsForm number
  number_complete d l u v x ps ts m stop cut =
      let w = m.0 in
      let t = digits_first low w v ts m.2 (ends_digits v stop) (subst (λ y. IsCut (y ++ v) ts) m.1 cut) in
      with_equal t.0 t.2 (tail_is_one_less (digits_of w) ts t.0 t.1) (keep l (part_of d (lexeme.integer w)))
      (ap (λ (y : List Token). read_number (at y d l)) t.1 ∙ ap (λ y. Some (y, at t.0 d (keep l (part_of d (lexeme.integer w))))) (sym m.3))
      (ap (keep l) (sym m.4))

  text_complete : ReadsForm format_text
  text_complete d l u v x ps ts m stop cut =
      let t = kept_first low (quoted x.0) v ts (subst (λ y. IsCut (y ++ v) ts) m.0 cut) in
      with_equal t.0 t.2 (tail_is_one_less (kept_of (quoted x.0)) ts t.0 t.1) (keep l ps)
      (ap (λ (y : List Token). read_format_text (at y d l)) t.1
      ∙ ap (option_and_then (λ v. format_found (at t.0 d l) v (read_text v))) (low.quoted_only x.0 m.1)
      ∙ ap (format_found (at t.0 d l) x.0) (low.text_only x.0 x.1 ps m.2))
      refl

  no_mark_token : (c : ℕ) → (0 == c) ≡ false → (k : TokenKind) (x : List ℕ) (ts : List Token) → not (next_sort (record { kind = k; text = x } ∷ ts) == c) ≡ true → behind_mark c (record { kind = k; text = x } ∷ ts) ≡ None
  no_mark_token c some run x ts other = ap (λ b. if b then Some ts else None) some
  no_mark_token c some digits x ts other = ap (λ b. if b then Some ts else None) some
  no_mark_token c some kept x ts other = ap (λ b. if b then Some ts else None) some
  no_mark_token c some token.mark x ts other = ap (λ b. if b then Some ts else None) (not-true (character_of token.mark x == c) other)

  no_mark : (c : ℕ) → is_mark c ≡ true → (v : List Piece) (ts : List Token) → not (first_sort v == c) ≡ true → IsCut v ts → behind_mark c ts ≡ None
  no_mark c is v ts other cut = go ts (ap (λ k. not (k == c)) (next_is_first v ts cut) ∙ other)
    where
      go : (ts : List Token) → not (next_sort ts == c) ≡ true → behind_mark c ts ≡ None
      go [] other = refl
      go (t ∷ ts) other = no_mark_token c (mark_is_not_0 c is) t.kind t.text ts other

  -- ---- expressions

  -- the tokens of two parts, of which the second ends, or begins with one of the marks
  record Parted (marks : List ℕ) (u v : List Piece) (ts : List Token) : Type 0 where
    first : List Token
    rest : List Token
    whole : ts ≡ first ++ rest
    cut : IsCut u first
    behind : IsCut v rest
    faces : Faces marks rest

  parted : (marks : List ℕ) (u v : List Piece) (ts : List Token) → list_all is_mark marks ≡ true → is_in (0 ∷ marks) (first_sort v) ≡ true → IsCut (u ++ v) ts → Parted marks u v ts
  parted marks u [] ts good stop cut =
      record { first = ts; rest = []; whole = sym (append-nil ts); cut = subst (λ x. IsCut x ts) (append-nil u) cut; behind = cut_nothing refl refl; faces = faces_end refl }
  parted marks u (whole t ∷ v) ts good stop cut = let on : is_mark 39 ≡ true = of_each is_mark marks 39 good stop in absurd cc
  parted marks u (broken t ∷ v) ts good stop cut = let on : is_mark 1 ≡ true = of_each is_mark marks 1 good stop in absurd cc
  parted marks u (plain c ∷ v) ts good stop cut = go (is_upper c) (is_digit c) (is_mark c) refl stop
    where
      go : (upper digit marked : Bool) → is_mark c ≡ marked → is_in (0 ∷ marks) (if upper then 65 else (if digit then 48 else (if marked then c else 1))) ≡ true → Parted marks u (plain c ∷ v) ts
      go true digit marked is stop = let on : is_mark 65 ≡ true = of_each is_mark marks 65 good stop in absurd cc
      go false true marked is stop = let on : is_mark 48 ≡ true = of_each is_mark marks 48 good stop in absurd cc
      go false false false is stop = let on : is_mark 1 ≡ true = of_each is_mark marks 1 good stop in absurd cc
      go false false true is stop =
          let p = low.parted_at_mark u v c ts is cut in
          let other : (c == 0) ≡ false = each_mark (λ k. k == 0) c refl refl refl refl refl refl refl refl refl refl is in
          record { first = p.0; rest = mark_of c ∷ p.1; whole = p.2; cut = p.3; behind = cut_mark c refl is p.4 refl; faces = faces_mark c p.1 (sym (ap (λ b. b || is_in marks c) other) ∙ stop) refl }

  some_tokens : (ts us vs : List Token) → ts ≡ us ++ vs → (us ≡ [] → ⊥) → length vs + 1 ≤ length ts
  some_tokens ts [] vs e some = absurd (some refl)
  some_tokens ts (t ∷ us) vs e some = let n : length ts ≡ length (t ∷ us) + length vs = ap length e ∙ length-append (t ∷ us) vs in omega (arith, n)

  portion_complete : (strict : Bool) (marks : List ℕ) → list_all is_mark marks ≡ true → ReadsForm (portion strict marks)
  unfolding read_portion
  portion_complete strict marks good d l u v x ps ts m stop cut =
      let p = parted marks u v ts good stop cut in
      let formed = low.cut_formed u p.first p.cut in
      let are = low.cut_pieces u p.first p.cut in
      let found : split marks 0 ts ≡ Some (p.first, p.rest) = ap (split marks 0) p.whole ∙ split_reads marks good 0 p.first p.rest formed p.faces (ap (stays marks 0) (sym are) ∙ m.2) in
      let off : strict && has_star false 0 p.first ≡ false = ap (λ b. strict && b) (sym (ap (is_starred false 0) are ∙ star_is false 0 p.first formed)) ∙ m.3 in
      with_equal p.rest p.behind (some_tokens ts p.first p.rest p.whole (λ none. no_begin u (low.wide_begins u m.0 x m.1) (are ∙ ap pieces_of_tokens none))) (keep l (parts_from d m.0))
      (ap (option_and_then (portion_at strict (at ts d l))) found
      ∙ ap (λ b. if b then None else portion_of d p.rest (expression_of d l p.first)) off
      ∙ ap (portion_of d p.rest) (low.expression_only u p.first d l m.0 x p.cut m.1))
      (ap (keep l) (sym m.4))
    where
      no_begin : (u : List Piece) → Begins u → u ≡ [] → ⊥
      no_begin [] is e = is
      no_begin (y ∷ u) is e = absurd cc

  -- ---- one behind the other

  module _ {A : Type 0} (ks : List ℕ) (f : Form A) (good : is_good f ≡ true) (some : not (is_null f) ≡ true) (known : implies (begins f) (is_in ks) ≡ true) (leads : implies (begins f) (stops f) ≡ true) (one : ReadsForm f) where
    behind : (d : ℕ) (w v : List Piece) (ys : List A) (rs : List Part) → Repeats (Matches f d) w ys rs → stops f (first_sort v) ≡ true → stops f (first_sort (w ++ v)) ≡ true
    behind d w v ys rs more stop = go (repeats_start f some (starts low f good) d w v ys rs more)
      where
        go : (begins f (first_sort (w ++ v)) ≡ true) ⊎ (w ≡ []) → stops f (first_sort (w ++ v)) ≡ true
        go (inl is) = implied (begins f) (stops f) leads (w ++ v) is
        go (inr none) = ap (λ r. stops f (first_sort (r ++ v))) none ∙ stop

    begun : (d : ℕ) (u v : List Piece) (x : A) (ps : List Part) → Matches f d u x ps → is_in ks (first_sort (u ++ v)) ≡ true
    begun d u v x ps m = go (starts low f good d u v x ps m)
      where
        go : Starts f u v → is_in ks (first_sort (u ++ v)) ≡ true
        go (inl is) = implied (begins f) (is_in ks) known (u ++ v) is
        go (inr none) = never_null (is_null f) some none.1

    ended : (n d : ℕ) (l : Option Part) (v : List Piece) (ts : List Token) → not (is_in ks (first_sort v)) ≡ true → IsCut v ts → read_repeated ks (read f) n (at ts d l) ≡ Some ([], at ts d l)
    ended zero d l v ts off cut = refl
    ended (suc n) d l v ts off cut =
        ap (λ b. if b then with_first (read f (at ts d l)) (read_repeated ks (read f) n) else Some ([], at ts d l)) (ap (is_in ks) (next_is_first v ts cut) ∙ not-true (is_in ks (first_sort v)) off)

    one_taken : (x z : ℕ) → x + at_least f ≤ z → x + 1 ≤ z
    one_taken x z e = weaker (is_null f) false x z some e

    abbrev ReadAll : (d : ℕ) (l : Option Part) (v : List Piece) (xs : List A) (ps : List Part) (n : ℕ) (ts : List Token) → Type 0
    ReadAll d l v xs ps n ts = (left : List Token) × IsCut v left × (length left ≤ length ts) × (read_repeated ks (read f) n (at ts d l) ≡ Some (xs, at left d (keep l ps)))

    repeated_complete : (d : ℕ) (l : Option Part) (u v : List Piece) (xs : List A) (ps : List Part) (n : ℕ) (ts : List Token) → Repeats (Matches f d) u xs ps → stops f (first_sort v) ≡ true → not (is_in ks (first_sort v)) ≡ true → IsCut (u ++ v) ts
        → length ts ≤ n → ReadAll d l v xs ps n ts
    repeated_complete d l u v xs ps n ts (repeats_none none is parts) stop off cut most =
        let here = subst (λ y. IsCut (y ++ v) ts) none cut in
        (ts, here, omega arith, ended n d l v ts off here ∙ ap (λ (ys : List A). Some (ys, at ts d l)) (sym is) ∙ ap (λ qs. Some (xs, at ts d (keep l qs))) (sym parts))
    repeated_complete d l u v xs ps zero ts (repeats_more {v = a} {w = w} {ys = ys} {qs = qs} {rs = rs} {x = x} front m more is parts) stop off cut most =
        let first = one d l a (w ++ v) x qs ts m (behind d w v ys rs more stop) (subst (λ y. IsCut y ts) (ap (λ y. y ++ v) front ∙ append_assoc a w v) cut) in
        let less = one_taken (length first.left) (length ts) first.fewer in
        let none : ⊥ = omega (arith, less, most) in
        absurd none
    repeated_complete d l u v xs ps (suc n) ts (repeats_more {v = a} {w = w} {ys = ys} {qs = qs} {rs = rs} {x = x} front m more is parts) stop off cut most =
        let whole : u ++ v ≡ a ++ (w ++ v) = ap (λ y. y ++ v) front ∙ append_assoc a w v in
        let first = one d l a (w ++ v) x qs ts m (behind d w v ys rs more stop) (subst (λ y. IsCut y ts) whole cut) in
        let less = one_taken (length first.left) (length ts) first.fewer in
        let rest = repeated_complete d (keep l qs) w v ys rs n first.left more stop off first.cut (omega (arith, less, most)) in
        let here : is_in ks (next_sort ts) ≡ true = ap (is_in ks) (next_is_first (u ++ v) ts cut ∙ ap first_sort whole) ∙ begun d a (w ++ v) x qs m in (
          rest.0,
          rest.1,
          omega (arith, less, rest.2),
          ap (λ b. if b then with_first (read f (at ts d l)) (read_repeated ks (read f) n) else Some ([], at ts d l)) here
              ∙ ap (λ found. with_first found (read_repeated ks (read f) n)) first.is
              ∙ ap (option_map (λ (b : List A × State). (x ∷ b.0, b.1))) rest.3
              ∙ ap (λ k. Some (x ∷ ys, at rest.0 d k)) (sym (keep_append l qs rs) ∙ ap (keep l) (sym parts))
              ∙ ap (λ (zs : List A). Some (zs, at rest.0 d (keep l ps))) (sym is),
        )

  -- ---- all forms

  pub complete : {A : Type 0} (f : Form A) → is_good f ≡ true → (d : ℕ) (l : Option Part) (u v : List Piece) (x : A) (ps : List Part) (ts : List Token) → Matches f d u x ps → stops f (first_sort v) ≡ true → IsCut (u ++ v) ts → Reads f d l ts x ps v
  complete (nothing y) good d l u v x ps ts m stop cut =
      with_equal ts (subst (λ z. IsCut (z ++ v) ts) m.0 cut) (omega arith) l (ap (λ z. Some (z, at ts d l)) (sym m.1)) (ap (keep l) (sym m.2))
  complete (mark c) good d l u v x ps ts m stop cut = mark_complete c good d l u v x ps ts m stop cut
  complete (word w) good d l u v x ps ts m stop cut = word_complete w good d l u v x ps ts m stop cut
  complete name good d l u v x ps ts m stop cut = name_complete d l u v x ps ts m stop cut
  complete label good d l u v x ps ts m stop cut = label_complete d l u v x ps ts m stop cut
  complete numeral good d l u v x ps ts m stop cut = numeral_complete d l u v x ps ts m stop cut
  complete number good d l u v x ps ts m stop cut = number_complete d l u v x ps ts m stop cut
  complete format_text good d l u v x ps ts m stop cut = text_complete d l u v x ps ts m stop cut
  complete (portion strict marks) good d l u v x ps ts m stop cut = portion_complete strict marks good d l u v x ps ts m stop cut
  complete (inside f) good d l u v x ps ts m stop cut =
      let goods = and_parts (is_good f) (stops f 41) good in
      let inner = m.0 in
      let o = mark_first low 40 (inner ++ plain 41 ∷ v) ts refl (subst (λ z. IsCut z ts) (ap (λ z. z ++ v) m.2 ∙ ap (λ (z : List Piece). plain 40 ∷ z) (append_assoc inner (plain 41 ∷ []) v)) cut) in
      let k = keep l (part_of d lexeme.opening) in
      let r = complete f goods.0 (d + 1) k inner (plain 41 ∷ v) x m.1 o.0 m.3 goods.1 o.2 in
      let c = mark_first low 41 v r.left refl r.cut in
      let last = keep k m.1 in
      with_equal c.0 c.2 (inside_least (is_null f) (length c.0) (length r.left) (length o.0) (length ts) (tail_is_one_less (mark_of 41) r.left c.0 c.1) r.fewer (tail_is_one_less (mark_of 40) ts o.0 o.1)) last
      (ap (λ (y : List Token). read (inside f) (at y d l)) o.1
      ∙ ap (option_and_then (λ (b : _ × State). option_map (λ (e : Unit {0} × State). (b.0, e.1)) (read_close b.1))) r.is
      ∙ ap (λ (y : List Token). option_map (λ (e : Unit {0} × State). (x, e.1)) (read_close (at y (d + 1) last))) c.1 ∙ ap (λ n. Some (x, at c.0 n last)) (one_less d))
      (sym (keep_append l (part_of d lexeme.opening) m.1) ∙ ap (keep l) (sym m.4))
  complete (both f g) good d l u v x ps ts m stop cut =
      let goods = and_parts (is_good f) (is_good g && implies (begins g) (stops f)) good in
      let more = and_parts (is_good g) (implies (begins g) (stops f)) goods.1 in
      let stopping = and_parts (stops g (first_sort v)) (not (is_null g) || stops f (first_sort v)) stop in
      let r = complete f goods.0 d l m.0 (m.1 ++ v) x.0 m.2 ts m.5 (stops_first f g m.1 v (implied (begins g) (stops f) more.1) stopping.1 (starts low g more.0 d m.1 v x.1 m.3 m.6)) (subst (λ z. IsCut z ts) (ap (λ z. z ++ v) m.4 ∙ append_assoc m.0 m.1 v) cut) in
      let q = complete g more.0 d (keep l m.2) m.1 v x.1 m.3 r.left m.6 stopping.0 r.cut in
      with_equal q.left q.cut (both_least (is_null f) (is_null g) (length q.left) (length r.left) (length ts) q.fewer r.fewer) (keep (keep l m.2) m.3)
      (ap (option_and_then (λ (a : _ × State). option_map (λ (b : _ × State). ((a.0, b.0), b.1)) (read g a.1))) r.is ∙ ap (option_map (λ (b : _ × State). ((x.0, b.0), b.1))) q.is)
      (sym (keep_append l m.2 m.3) ∙ ap (keep l) (sym m.7))
  complete (choice ks f g) good d l u v x ps ts m stop cut =
      let goods = and_parts (is_good f) (is_good g && (not (is_null f) && (implies (begins f) (is_in ks) && implies (begins g) (λ k. not (is_in ks k))))) good in
      let more = and_parts (is_good g) (not (is_null f) && (implies (begins f) (is_in ks) && implies (begins g) (λ k. not (is_in ks k)))) goods.1 in
      let some = and_parts (not (is_null f)) (implies (begins f) (is_in ks) && implies (begins g) (λ k. not (is_in ks k))) more.1 in
      let apart = and_parts (implies (begins f) (is_in ks)) (implies (begins g) (λ k. not (is_in ks k))) some.1 in
      let first = and_parts (stops f (first_sort v)) (stops g (first_sort v) && (not (is_null g) || not (is_in ks (first_sort v)))) stop in
      let second = and_parts (stops g (first_sort v)) (not (is_null g) || not (is_in ks (first_sort v))) first.1 in
      go
      (λ m. by_first (implied (begins f) (is_in ks) apart.0 (u ++ v)) some.0 (starts low f goods.0 d u v x ps m) (complete f goods.0 d l u v x ps ts m first.0 cut))
      (λ m. by_second (implied (begins g) (λ k. not (is_in ks k)) apart.1 (u ++ v)) second.1 (starts low g more.0 d u v x ps m) (complete g more.0 d l u v x ps ts m second.0 cut))
      m
    where
      go : (Matches f d u x ps → Reads (choice ks f g) d l ts x ps v) → (Matches g d u x ps → Reads (choice ks f g) d l ts x ps v) → Matches f d u x ps ⊎ Matches g d u x ps → Reads (choice ks f g) d l ts x ps v
      go first second (inl m) = first m
      go first second (inr m) = second m

      taken : not (is_null f) ≡ true → is_in ks (first_sort (u ++ v)) ≡ true → Reads f d l ts x ps v → Reads (choice ks f g) d l ts x ps v
      taken some is r = with_equal r.left r.cut (weaker (is_null f) (is_null g) (length r.left) (length ts) some r.fewer) (keep l ps) (ap (λ b. if b then read f (at ts d l) else read g (at ts d l)) (ap (is_in ks) (next_is_first (u ++ v) ts cut) ∙ is) ∙ r.is) refl

      passed : not (is_in ks (first_sort (u ++ v))) ≡ true → Reads g d l ts x ps v → Reads (choice ks f g) d l ts x ps v
      passed is r =
          with_equal r.left r.cut r.fewer (keep l ps)
          (ap (λ b. if b then read f (at ts d l) else read g (at ts d l)) (ap (is_in ks) (next_is_first (u ++ v) ts cut) ∙ not-true (is_in ks (first_sort (u ++ v))) is) ∙ r.is) refl

      by_first : (begins f (first_sort (u ++ v)) ≡ true → is_in ks (first_sort (u ++ v)) ≡ true) → not (is_null f) ≡ true → Starts f u v → Reads f d l ts x ps v → Reads (choice ks f g) d l ts x ps v
      by_first leads some (inl is) r = taken some (leads is) r
      by_first leads some (inr none) r = never_null (is_null f) some none.1

      by_null : (b : Bool) (c : Bool) → b ≡ true → (not b || c) ≡ true → c ≡ true
      by_null true c e is = is
      by_null false c e is = absurd cc

      by_second : (begins g (first_sort (u ++ v)) ≡ true → not (is_in ks (first_sort (u ++ v))) ≡ true) → (not (is_null g) || not (is_in ks (first_sort v))) ≡ true → Starts g u v → Reads g d l ts x ps v
          → Reads (choice ks f g) d l ts x ps v
      by_second leads last (inl is) r = passed (leads is) r
      by_second leads last (inr none) r = passed (ap (λ z. not (is_in ks (first_sort (z ++ v)))) none.0 ∙ by_null (is_null g) (not (is_in ks (first_sort v))) none.1 last) r
  complete (told look f g) good d l u v x ps ts m stop cut =
      let goods = and_parts (is_good f) (is_good g && (is_good_look look && are_told look f g)) good in
      let more = and_parts (is_good g) (is_good_look look && are_told look f g) goods.1 in
      let first = and_parts (stops f (first_sort v)) (stops g (first_sort v) && look_stops look (first_sort v)) stop in
      let second = and_parts (stops g (first_sort v)) (look_stops look (first_sort v)) first.1 in
      let fine = and_parts (is_good_look look) (are_told look f g) more.1 in
      let same : ClosesFirst look u → is_ahead look ts ≡ ahead look u = λ closed. look_is look (u ++ v) ts cut ∙ steady look u v fine.0 closed second.1 in
      go (λ m. same (first_closed look f g fine.1 d u x ps m)) (λ m. same (second_closed look f g fine.1 d u x ps m)) (λ m. complete f goods.0 d l u v x ps ts m first.0 cut) (λ m. complete g more.0 d l u v x ps ts m second.0 cut) m
    where
      go : (Matches f d u x ps → is_ahead look ts ≡ ahead look u) → (Matches g d u x ps → is_ahead look ts ≡ ahead look u) → (Matches f d u x ps → Reads f d l ts x ps v) → (Matches g d u x ps → Reads g d l ts x ps v) → ((ahead look u ≡ true) × Matches f d u x ps) ⊎ ((ahead look u ≡ false) × Matches g d u x ps)
          → Reads (told look f g) d l ts x ps v
      go same again one other (inl m) =
          let r = one m.1 in
          with_equal r.left r.cut (or_least (is_null f) (is_null g) (length r.left) (length ts) r.fewer) (keep l ps) (ap (λ b. if b then read f (at ts d l) else read g (at ts d l)) (same m.1 ∙ m.0) ∙ r.is) refl
      go same again one other (inr m) =
          let r = other m.1 in
          with_equal r.left r.cut (or_least_too (is_null f) (is_null g) (length r.left) (length ts) r.fewer) (keep l ps) (ap (λ b. if b then read f (at ts d l) else read g (at ts d l)) (again m.1 ∙ m.0) ∙ r.is) refl
  complete (perhaps c f) good d l u v x ps ts m stop cut =
      let goods = and_parts (is_mark c) (is_good f) good in
      let stopping = and_parts (stops f (first_sort v)) (not (first_sort v == c)) stop in
      go (λ w y ts m cut. complete f goods.1 d l w v y ps ts m stopping.0 cut) m
    where
      go : ((w : List Piece) (y : _) (ts : List Token) → Matches f d w y ps → IsCut (w ++ v) ts → Reads f d l ts y ps v)
          → ((u ≡ []) × (x ≡ None) × (ps ≡ [])) ⊎ ((w : List Piece) × (y : _) × (u ≡ plain c ∷ w) × Matches f d w y ps × (x ≡ Some y)) → Reads (perhaps c f) d l ts x ps v
      go one (inl none) =
          let is = (and_parts (is_mark c) (is_good f) good).0 in
          let here = subst (λ z. IsCut (z ++ v) ts) none.0 cut in
          with_equal ts here (omega arith) l
          (ap (perhaps_at (at ts d l) (read f)) (no_mark c is v ts (and_parts (stops f (first_sort v)) (not (first_sort v == c)) stop).1 here) ∙ ap (λ z. Some (z, at ts d l)) (sym none.1))
          (ap (keep l) (sym none.2))
      go one (inr some) =
          let is = (and_parts (is_mark c) (is_good f) good).0 in
          let t = mark_first low c (some.0 ++ v) ts is (subst (λ z. IsCut (z ++ v) ts) some.2 cut) in
          let r = one some.0 some.1 t.0 some.3 t.2 in
          with_equal r.left r.cut (any_least (is_null f) (length r.left) (length t.0) (length ts) r.fewer (tail_is_one_less (mark_of c) ts t.0 t.1)) (keep l ps)
          (ap (perhaps_at (at ts d l) (read f)) (ap (behind_mark c) t.1 ∙ mark_reads c t.0)
          ∙ ap (option_map (λ (a : _ × State). (Some a.0, a.1))) r.is
          ∙ ap (λ z. Some (z, at r.left d (keep l ps))) (sym some.4))
          refl
  complete (repeated ks f) good d l u v x ps ts m stop cut =
      let goods = and_parts (is_good f) (not (is_null f) && (implies (begins f) (is_in ks) && implies (begins f) (stops f))) good in
      let more = and_parts (not (is_null f)) (implies (begins f) (is_in ks) && implies (begins f) (stops f)) goods.1 in
      let leads = and_parts (implies (begins f) (is_in ks)) (implies (begins f) (stops f)) more.1 in
      let stopping = and_parts (stops f (first_sort v)) (not (is_in ks (first_sort v))) stop in
      let r = repeated_complete ks f goods.0 more.0 leads.0 leads.1 (λ d l u v x ps ts. complete f goods.0 d l u v x ps ts) d l u v x ps (length ts) ts m stopping.0 stopping.1 cut (omega arith) in
      with_equal r.0 r.1 (omega (arith, r.2)) (keep l ps) r.3 refl
  complete (seen view f) good d l u v x ps ts m stop cut =
      let r = complete f good d l u v m.0 ps ts m.1 stop cut in
      with_equal r.left r.cut r.fewer (keep l ps) (ap (option_and_then (λ (a : _ × State). option_map (λ y. (y, a.1)) (view a.0))) r.is ∙ ap (option_map (λ y. (y, at r.left d (keep l ps)))) m.2) refl
  complete (judged view f) good d l u v x ps ts m stop cut =
      let r = complete f good d None u v m.0 m.1 ts m.3 stop cut in
      with_equal r.left r.cut r.fewer (keep (keep l m.2) (parts_in (keep None m.1)))
      (ap (option_and_then (λ (a : _ × State). option_map (λ (j : _ × List Part). (j.0, with_whole l j.1 a.1)) (view a.0))) r.is
      ∙ ap (option_map (λ (j : _ × List Part). (j.0, with_whole l j.1 (at r.left d (keep None m.1))))) m.4)
      (keep_kept (keep l m.2) m.1 ∙ sym (keep_append l m.2 m.1) ∙ ap (keep l) (sym m.5))
  complete (refused q f) good d l u v x ps ts m stop cut =
      let r = complete f good d (keep l (q ∷ [])) u v x m.0 ts m.1 stop cut in
      with_equal r.left r.cut r.fewer (keep (keep l (q ∷ [])) m.0) r.is (sym (keep_append l (q ∷ []) m.0) ∙ ap (keep l) (sym m.2))
