-- What is read by a form has it.
use Rattle.std.proofs.Common.{◌≡◌, ◌⊎◌, inl, inr, ℕ, zero, suc, ◌+◌, ◌-◌, Bool, true, false, not, ◌&&◌, ◌||◌, ◌==◌, List, [], ◌∷◌, ◌++◌, length, map, take, Option, Some, None, refl, sym, ap, ◌∙◌, subst, append_assoc, arith}
use Rattle.std.specs.Prelude.{if◌then◌else◌}
use Rattle.std.specs.List.{list_all}
use Rattle.std.specs.Option.{option_map, option_and_then}
use Rattle.std.specs.Str.{bytes_eq}
use Rattle.std.proofs.lemmas.Bool.{and_parts}
use Rattle.std.proofs.lemmas.Option.{same_Some}
use Rattle.text_base.specs.Pieces as piece
use Rattle.text_base.specs.Pieces.{Piece, plain}
use Rattle.text_base.specs.Trees.{Expr}
use Rattle.text_base.specs.declared.limits.TheConstants.{LONGEST_NAME}
use Rattle.text_base.proofs.CharTests.{same_bytes}
use Rattle.text_base.proofs.Optional.{went, mapped}
use Rattle.tree77.specs.Kinds.{is_word}
use Rattle.tree77.specs.Tokens.{Token, is_mark, IsCut}
use Rattle.tree77.specs.Lexemes as lexeme
use Rattle.tree77.specs.Lexemes.{Part, part_of, parts_from, is_label, decimal}
use Rattle.forms77.proofs.Marks.{each_mark}
use Rattle.expr77.specs.Gathering.{keep}
use Rattle.expr77.specs.LexemeReading.{behind_mark, run_here, digits_here, quoted_value}
use Rattle.expr77.specs.Outcome.{expression_of}
use Rattle.format77.specs.TextReading.{read_text}
use Rattle.scan77.specs.TokenReading.{AllFormed}
use Rattle.tree77.specs.Forms.{Form, nothing, mark, word, name, label, numeral, number, format_text, portion, inside, both, choice, told, perhaps, repeated, seen, judged, refused, first_sort, Repeats, repeats_none, repeats_more, Matches, is_in, ahead, is_starred, stays}
use Rattle.forms77.specs.Goodness.{look_stops, is_good_look, are_told, stops, is_null, implies, begins, is_good}
use Rattle.forms77.specs.Reading.{State, Reader, next_sort, is_ahead, split, has_star, with_tokens, with_parts, name_from, label_from, number_from, kept_here, format_found, format_from, portion_at, portion_of, read_portion, open_state, close_state, read_open, read_close, perhaps_at, with_first, read_repeated, without_parts, with_whole, parts_in, read}
use Rattle.forms77.specs.Laws.{Took}
use Rattle.forms77.proofs.Fronts.{mark_of, run_of, digits_of, kept_of, mark_is, run_is, digits_is, kept_is, taken}
use Rattle.forms77.proofs.Lower.{Lower}
use Rattle.forms77.proofs.Passing.{look_is, split_found, star_is}
use Rattle.forms77.proofs.Sorts.{implied}
use Rattle.forms77.proofs.Starts.{starts, repeats_start, stops_first}
use Rattle.forms77.proofs.Steady.{ClosesFirst, first_closed, second_closed, steady}
use Rattle.forms77.proofs.Keeping.{keep_append, keep_kept}
use Rattle.forms77.proofs.Expressions.{wide_took}

-- the same, of another form that the pieces then have
recast : {A : Type 0} {f g : Form A} {s : State} {p : A × State} {pieces : List Piece} (t : Took f s p pieces) → (stops g (first_sort t.rest) ≡ true → Matches g s.depth t.front p.0 t.parts) → Took g s p pieces
recast t formed = record { front = t.front; rest = t.rest; parts = t.parts; whole = t.whole; formed = formed; cut = t.cut; depth = t.depth; lowest = t.lowest }

pub mark_is_not_0 : (c : ℕ) → is_mark c ≡ true → (0 == c) ≡ false
mark_is_not_0 c = each_mark (λ k. 0 == k) c refl refl refl refl refl refl refl refl refl refl

-- a test that was passed
pub chosen : {A : Type 0} (b : Bool) (x y : A) → (if b then Some x else None) ≡ Some y → (b ≡ true) × (x ≡ y)
chosen true x y e = (refl, same_Some x y e)
chosen false x y e = absurd cc

record Opened (s t : State) (pieces : List Piece) : Type 0 where
  rest : List Piece
  whole : pieces ≡ plain 40 ∷ rest
  cut : IsCut rest t.tokens
  depth : t.depth ≡ s.depth + 1
  lowest : t.lowest ≡ keep s.lowest (part_of s.depth lexeme.opening)

record Closed (s t : State) (pieces : List Piece) : Type 0 where
  rest : List Piece
  whole : pieces ≡ plain 41 ∷ rest
  cut : IsCut rest t.tokens
  depth : t.depth ≡ s.depth - 1
  lowest : t.lowest ≡ s.lowest

pub one_less : (n : ℕ) → n + 1 - 1 ≡ n
one_less n = omega arith

-- a test that was not passed
kept_if : {A : Type 0} (b : Bool) (o : Option A) (y : A) → (if b then None else o) ≡ Some y → (b ≡ false) × (o ≡ Some y)
kept_if true o y e = absurd cc
kept_if false o y e = (refl, e)

module _ (low : Lower) where
  -- a mark that stands next
  mark_taken : (c : ℕ) (pieces : List Piece) (ts rest : List Token) → is_mark c ≡ true → IsCut pieces ts → behind_mark c ts ≡ Some rest → (v : List Piece) × (pieces ≡ plain c ∷ v) × IsCut v rest
  mark_taken c pieces ts rest is cut e = taken low pieces ts rest (mark_of c) cut (mark_is c ts rest (mark_is_not_0 c is) (low.cut_formed pieces ts cut) e)

  -- ---- parentheses

  opened : (s : State) (p : Unit {0} × State) (pieces : List Piece) → IsCut pieces s.tokens → read_open s ≡ Some p → Opened s p.1 pieces
  opened s p pieces cut e =
      let m = mapped (behind_mark 40 s.tokens) (λ ts. (tt, open_state s ts)) p e in
      let t = mark_taken 40 pieces s.tokens m.from refl cut m.was in
      subst (λ (q : Unit {0} × State). Opened s q.1 pieces) m.is (record { rest = t.0; whole = t.1; cut = t.2; depth = refl; lowest = refl })

  closed : (s : State) (p : Unit {0} × State) (pieces : List Piece) → IsCut pieces s.tokens → read_close s ≡ Some p → Closed s p.1 pieces
  closed s p pieces cut e =
      let m = mapped (behind_mark 41 s.tokens) (λ ts. (tt, close_state s ts)) p e in
      let t = mark_taken 41 pieces s.tokens m.from refl cut m.was in
      subst (λ (q : Unit {0} × State). Closed s q.1 pieces) m.is (record { rest = t.0; whole = t.1; cut = t.2; depth = refl; lowest = refl })

  -- ---- expressions

  portion_took : (strict : Bool) (marks : List ℕ) → list_all is_mark marks ≡ true → (s : State) (p : Expr × State) (pieces : List Piece) → IsCut pieces s.tokens → read_portion strict marks s ≡ Some p → Took (portion strict marks) s p pieces
  unfolding read_portion
  portion_took strict marks good s p pieces cut e =
      let w = went (split marks 0 s.tokens) (portion_at strict s) p e in
      let k = kept_if (strict && has_star false 0 w.from.0) (portion_of s.depth w.from.1 (expression_of s.depth s.lowest w.from.0)) p w.is in
      let m = mapped (expression_of s.depth s.lowest w.from.0) (λ q. (q.0, record { tokens = w.from.1; depth = s.depth; lowest = q.1 })) p k.1 in
      let found = split_found marks good 0 s.tokens w.from (low.cut_formed pieces s.tokens cut) w.was in
      let parted = low.parted_between pieces w.from.0 w.from.1 (subst (IsCut pieces) found.whole cut) in
      let x = wide_took low parted.0 s.lowest s.depth w.from.0 m.from parted.3 m.was in
      let are = low.cut_pieces parted.0 w.from.0 parted.3 in
      let stars : is_starred false 0 parted.0 ≡ has_star false 0 w.from.0 = ap (is_starred false 0) are ∙ star_is false 0 w.from.0 (low.cut_formed parted.0 w.from.0 parted.3) in
      subst (λ q. Took (portion strict marks) s q pieces) m.is (record {
        front = parted.0;
        rest = parted.1;
        parts = parts_from s.depth x.lexemes;
        whole = parted.2;
        formed = λ stop. (x.lexemes, x.wide, ap (stays marks 0) are ∙ found.stays, ap (λ b. strict && b) stars ∙ k.0, refl);
        cut = parted.4;
        depth = refl;
        lowest = x.lowest;
      })

  -- ---- one behind the other

  module _ {A : Type 0} (ks : List ℕ) (f : Form A) (good : is_good f ≡ true) (some : not (is_null f) ≡ true) (leads : implies (begins f) (stops f) ≡ true) (one : (s : State) (p : A × State) (pieces : List Piece) → IsCut pieces s.tokens → read f s ≡ Some p → Took f s p pieces) where
    abbrev Takes : Reader (List A) → Type 0
    Takes more = (s : State) (p : List A × State) (pieces : List Piece) → IsCut pieces s.tokens → more s ≡ Some p → Took (repeated ks f) s p pieces

    -- one, and those behind it
    joined : {s : State} {a : A × State} {pieces : List Piece} (t : Took f s a pieces) (w v : List Piece) → t.rest ≡ w ++ v → (xs : List A) (qs : List Part) → Repeats (Matches f s.depth) w xs qs → stops f (first_sort v) ≡ true
        → Repeats (Matches f s.depth) (t.front ++ w) (a.0 ∷ xs) (t.parts ++ qs)
    joined {s = s} t w v whole xs qs more stop =
        repeats_more refl (t.formed (ap (λ r. stops f (first_sort r)) whole ∙ behind (repeats_start f some (starts low f good) s.depth w v xs qs more))) more refl refl
      where
        behind : (begins f (first_sort (w ++ v)) ≡ true) ⊎ (w ≡ []) → stops f (first_sort (w ++ v)) ≡ true
        behind (inl is) = implied (begins f) (stops f) leads (w ++ v) is
        behind (inr none) = ap (λ r. stops f (first_sort (r ++ v))) none ∙ stop

    first_took : (more : Reader (List A)) → Takes more → (s : State) (p : List A × State) (pieces : List Piece) → IsCut pieces s.tokens → with_first (read f s) more ≡ Some p → Took (repeated ks f) s p pieces
    first_took more takes s p pieces cut e =
        let a = went (read f s) (λ a. option_map (λ b. (a.0 ∷ b.0, b.1)) (more a.1)) p e in
        let b = mapped (more a.from.1) (λ b. (a.from.0 ∷ b.0, b.1)) p a.is in
        let t = one s a.from pieces cut a.was in
        let u = takes a.from.1 b.from t.rest t.cut b.was in
        subst (λ q. Took (repeated ks f) s q pieces) b.is (record {
          front = t.front ++ u.front;
          rest = u.rest;
          parts = t.parts ++ u.parts;
          whole = t.whole ∙ ap (λ x. t.front ++ x) u.whole ∙ sym (append_assoc t.front u.front u.rest);
          formed = λ stop. joined t u.front u.rest u.whole b.from.0 u.parts (subst (λ d. Repeats (Matches f d) u.front b.from.0 u.parts) t.depth (u.formed stop)) (and_parts (stops f (first_sort u.rest)) _ stop).0;
          cut = u.cut;
          depth = u.depth ∙ t.depth;
          lowest = u.lowest ∙ ap (λ k. keep k u.parts) t.lowest ∙ sym (keep_append s.lowest t.parts u.parts);
        })

    ended : Takes (λ s. Some ([], s))
    ended s p pieces cut e =
        subst (λ q. Took (repeated ks f) s q pieces) (same_Some ([], s) p e)
        (record { front = []; rest = pieces; parts = []; whole = refl; formed = λ stop. repeats_none refl refl refl; cut = cut; depth = refl; lowest = refl })

    repeated_took : (n : ℕ) → Takes (read_repeated ks (read f) n)
    repeated_took zero s p pieces cut e = ended s p pieces cut e
    repeated_took (suc n) s p pieces cut e = go (repeated_took n) (is_in ks (next_sort s.tokens)) e
      where
        go : Takes (read_repeated ks (read f) n) → (b : Bool) → (if b then with_first (read f s) (read_repeated ks (read f) n) else Some ([], s)) ≡ Some p → Took (repeated ks f) s p pieces
        go takes true e = first_took (read_repeated ks (read f) n) takes s p pieces cut e
        go takes false e = ended s p pieces cut e

  -- ---- all forms

  pub sound : {A : Type 0} (f : Form A) → is_good f ≡ true → (s : State) (p : A × State) (pieces : List Piece) → IsCut pieces s.tokens → read f s ≡ Some p → Took f s p pieces
  sound (nothing x) good s p pieces cut e =
      subst (λ q. Took (nothing x) s q pieces) (same_Some (x, s) p e) (record { front = []; rest = pieces; parts = []; whole = refl; formed = λ stop. (refl, refl, refl); cut = cut; depth = refl; lowest = refl })
  sound (mark c) good s p pieces cut e =
      let m = mapped (behind_mark c s.tokens) (λ ts. (tt, with_tokens s ts)) p e in
      let t = mark_taken c pieces s.tokens m.from good cut m.was in
      subst (λ q. Took (mark c) s q pieces) m.is (record { front = plain c ∷ []; rest = t.0; parts = []; whole = t.1; formed = λ stop. (refl, refl); cut = t.2; depth = refl; lowest = refl })
  sound (word w) good s p pieces cut e =
      let r = went (run_here s.tokens) (λ r. if bytes_eq r.0 w then Some (tt, with_tokens s r.1) else None) p e in
      let b = chosen (bytes_eq r.from.0 w) (tt, with_tokens s r.from.1) p r.is in
      let t = taken low pieces s.tokens r.from.1 (run_of r.from.0) cut (run_is s.tokens r.from r.was) in
      subst (λ q. Took (word w) s q pieces) b.1
      (record { front = map plain r.from.0; rest = t.0; parts = []; whole = t.1; formed = λ stop. (ap (map plain) (same_bytes r.from.0 w b.0), refl); cut = t.2; depth = refl; lowest = refl })
  sound name good s p pieces cut e =
      let r = went (run_here s.tokens) (name_from s) p e in
      let b = chosen (is_word r.from.0) (take LONGEST_NAME r.from.0, with_parts (with_tokens s r.from.1) (part_of s.depth (lexeme.name r.from.0))) p r.is in
      let t = taken low pieces s.tokens r.from.1 (run_of r.from.0) cut (run_is s.tokens r.from r.was) in
      subst (λ q. Took name s q pieces) b.1
      (record { front = map plain r.from.0; rest = t.0; parts = part_of s.depth (lexeme.name r.from.0); whole = t.1; formed = λ stop. (r.from.0, refl, b.0, refl, refl); cut = t.2; depth = refl; lowest = refl })
  sound label good s p pieces cut e =
      let r = went (digits_here s.tokens) (label_from s) p e in
      let b = chosen (is_label r.from.0) (decimal r.from.0, with_tokens s r.from.1) p r.is in
      let t = taken low pieces s.tokens r.from.1 (digits_of r.from.0) cut (digits_is s.tokens r.from r.was) in
      subst (λ q. Took label s q pieces) b.1
      (record { front = map plain r.from.0; rest = t.0; parts = []; whole = t.1; formed = λ stop. (r.from.0, refl, b.0, refl, refl); cut = t.2; depth = refl; lowest = refl })
  sound numeral good s p pieces cut e =
      let m = mapped (digits_here s.tokens) (λ r. (r.0, with_tokens s r.1)) p e in
      let is = digits_is s.tokens m.from m.was in
      let t = taken low pieces s.tokens m.from.1 (digits_of m.from.0) cut is in
      let formed = subst AllFormed is (low.cut_formed pieces s.tokens cut) in
      subst (λ q. Took numeral s q pieces) m.is (record { front = map plain m.from.0; rest = t.0; parts = []; whole = t.1; formed = λ stop. (refl, formed.0, refl); cut = t.2; depth = refl; lowest = refl })
  sound number good s p pieces cut e =
      let m = mapped (digits_here s.tokens) (number_from s) p e in
      let is = digits_is s.tokens m.from m.was in
      let t = taken low pieces s.tokens m.from.1 (digits_of m.from.0) cut is in
      let formed = subst AllFormed is (low.cut_formed pieces s.tokens cut) in
      subst (λ q. Took number s q pieces) m.is
      (record { front = map plain m.from.0; rest = t.0; parts = part_of s.depth (lexeme.integer m.from.0); whole = t.1; formed = λ stop. (m.from.0, refl, formed.0, refl, refl); cut = t.2; depth = refl; lowest = refl })
  sound format_text good s p pieces cut e =
      let r = went (kept_here s.tokens) (format_from s) p e in
      let v = went (quoted_value r.from.0) (λ v. format_found (with_tokens s r.from.1) v (read_text v)) p r.is in
      let m = mapped (read_text v.from) (λ q. ((v.from, q.0), with_parts (with_tokens s r.from.1) q.1)) p v.is in
      let q = low.quoted_found r.from.0 v.from v.was in
      let t = taken low pieces s.tokens r.from.1 (kept_of r.from.0) cut (kept_is s.tokens r.from r.was) in
      subst (λ q. Took format_text s q pieces) m.is
      (record { front = piece.whole r.from.0 ∷ []; rest = t.0; parts = m.from.1; whole = t.1; formed = λ stop. (ap (λ (y : List ℕ). piece.whole y ∷ []) q.0, q.1, low.text_found v.from m.from.0 m.from.1 m.was); cut = t.2; depth = refl; lowest = refl })
  sound (portion strict marks) good s p pieces cut e = portion_took strict marks good s p pieces cut e
  sound (inside f) good s p pieces cut e =
      let o = went (read_open s) (λ a. option_and_then (λ b. option_map (λ c. (b.0, c.1)) (read_close b.1)) (read f a.1)) p e in
      let b = went (read f o.from.1) (λ b. option_map (λ c. (b.0, c.1)) (read_close b.1)) p o.is in
      let c = mapped (read_close b.from.1) (λ c. (b.from.0, c.1)) p b.is in
      let before = opened s o.from pieces cut o.was in
      let t = sound f (and_parts (is_good f) (stops f 41) good).0 o.from.1 b.from before.rest before.cut b.was in
      let after = closed b.from.1 c.from t.rest t.cut c.was in
      subst (λ q. Took (inside f) s q pieces) c.is (record {
        front = plain 40 ∷ (t.front ++ plain 41 ∷ []);
        rest = after.rest;
        parts = part_of s.depth lexeme.opening ++ t.parts;
        whole = before.whole ∙ ap (λ (x : List Piece). plain 40 ∷ x) (t.whole ∙ ap (λ x. t.front ++ x) after.whole ∙ sym (append_assoc t.front (plain 41 ∷ []) after.rest));
        formed = λ stop. (t.front, t.parts, refl, subst (λ d. Matches f d t.front b.from.0 t.parts) before.depth (t.formed (ap (λ r. stops f (first_sort r)) after.whole ∙ (and_parts (is_good f) (stops f 41) good).1)), refl);
        cut = after.cut;
        depth = after.depth ∙ ap (λ n. n - 1) (t.depth ∙ before.depth) ∙ one_less s.depth;
        lowest = after.lowest ∙ t.lowest ∙ ap (λ k. keep k t.parts) before.lowest ∙ sym (keep_append s.lowest (part_of s.depth lexeme.opening) t.parts);
      })
  sound (both f g) good s p pieces cut e =
      let a = went (read f s) (λ a. option_map (λ b. ((a.0, b.0), b.1)) (read g a.1)) p e in
      let b = mapped (read g a.from.1) (λ b. ((a.from.0, b.0), b.1)) p a.is in
      let goods = and_parts (is_good f) (is_good g && implies (begins g) (stops f)) good in
      let t = sound f goods.0 s a.from pieces cut a.was in
      let u = sound g (and_parts (is_good g) (implies (begins g) (stops f)) goods.1).0 a.from.1 b.from t.rest t.cut b.was in
      subst (λ q. Took (both f g) s q pieces) b.is (record {
        front = t.front ++ u.front;
        rest = u.rest;
        parts = t.parts ++ u.parts;
        whole = t.whole ∙ ap (λ x. t.front ++ x) u.whole ∙ sym (append_assoc t.front u.front u.rest);
        formed = λ stop.
            let stopping = and_parts (stops g (first_sort u.rest)) (not (is_null g) || stops f (first_sort u.rest)) stop in
            let second = subst (λ d. Matches g d u.front b.from.0 u.parts) t.depth (u.formed stopping.0) in
            let more = and_parts (is_good g) (implies (begins g) (stops f)) goods.1 in (
              t.front,
              u.front,
              t.parts,
              u.parts,
              refl,
              t.formed (ap (λ r. stops f (first_sort r)) u.whole ∙ stops_first f g u.front u.rest (implied (begins g) (stops f) more.1) stopping.1 (starts low g more.0 s.depth u.front u.rest b.from.0 u.parts second)),
              second,
              refl,
            );
        cut = u.cut;
        depth = u.depth ∙ t.depth;
        lowest = u.lowest ∙ ap (λ k. keep k u.parts) t.lowest ∙ sym (keep_append s.lowest t.parts u.parts);
      })
  sound (choice ks f g) good s p pieces cut e =
      let goods = and_parts (is_good f) _ good in
      go (sound f goods.0 s p pieces cut) (sound g (and_parts (is_good g) _ goods.1).0 s p pieces cut) (is_in ks (next_sort s.tokens)) e
    where
      go : (read f s ≡ Some p → Took f s p pieces) → (read g s ≡ Some p → Took g s p pieces) → (b : Bool) → (if b then read f s else read g s) ≡ Some p → Took (choice ks f g) s p pieces
      go first second true e = let t = first e in recast t (λ stop. inl (t.formed (and_parts (stops f (first_sort t.rest)) _ stop).0))
      go first second false e = let t = second e in recast t (λ stop. inr (t.formed (and_parts (stops g (first_sort t.rest)) _ (and_parts (stops f (first_sort t.rest)) _ stop).1).0))
  sound (told look f g) good s p pieces cut e =
      let goods = and_parts (is_good f) (is_good g && (is_good_look look && are_told look f g)) good in
      let more = and_parts (is_good g) (is_good_look look && are_told look f g) goods.1 in
      let fine = and_parts (is_good_look look) (are_told look f g) more.1 in
      go fine.0 fine.1 (sound f goods.0 s p pieces cut) (sound g more.0 s p pieces cut) (is_ahead look s.tokens) refl e
    where
      -- the look at what was read is the look at all
      same : (u v : List Piece) → pieces ≡ u ++ v → is_good_look look ≡ true → ClosesFirst look u → look_stops look (first_sort v) ≡ true → (b : Bool) → is_ahead look s.tokens ≡ b → ahead look u ≡ b
      same u v whole fine shut stop b e = sym (steady look u v fine shut stop) ∙ ap (ahead look) (sym whole) ∙ sym (look_is look pieces s.tokens cut) ∙ e

      go : is_good_look look ≡ true → are_told look f g ≡ true → (read f s ≡ Some p → Took f s p pieces) → (read g s ≡ Some p → Took g s p pieces) → (b : Bool) → is_ahead look s.tokens ≡ b → (if b then read f s else read g s) ≡ Some p → Took (told look f g) s p pieces
      go fine apart first second true is e =
          let t = first e in
          recast t (λ stop.
          let a = and_parts (stops f (first_sort t.rest)) (stops g (first_sort t.rest) && look_stops look (first_sort t.rest)) stop in
          let b = and_parts (stops g (first_sort t.rest)) (look_stops look (first_sort t.rest)) a.1 in
          let m = t.formed a.0 in
          inl (same t.front t.rest t.whole fine (first_closed look f g apart s.depth t.front p.0 t.parts m) b.1 true is, m))
      go fine apart first second false is e =
          let t = second e in
          recast t (λ stop.
          let a = and_parts (stops f (first_sort t.rest)) (stops g (first_sort t.rest) && look_stops look (first_sort t.rest)) stop in
          let b = and_parts (stops g (first_sort t.rest)) (look_stops look (first_sort t.rest)) a.1 in
          let m = t.formed b.0 in
          inr (same t.front t.rest t.whole fine (second_closed look f g apart s.depth t.front p.0 t.parts m) b.1 false is, m))
  sound (perhaps c f) good s p pieces cut e =
      let goods = and_parts (is_mark c) (is_good f) good in
      go (sound f goods.1) (behind_mark c s.tokens) refl e
    where
      go : ((s : State) (p : _) (pieces : List Piece) → IsCut pieces s.tokens → read f s ≡ Some p → Took f s p pieces) → (o : Option (List Token)) → behind_mark c s.tokens ≡ o → perhaps_at s (read f) o ≡ Some p
          → Took (perhaps c f) s p pieces
      go one None is e =
          subst (λ q. Took (perhaps c f) s q pieces) (same_Some (None, s) p e)
          (record { front = []; rest = pieces; parts = []; whole = refl; formed = λ stop. inl (refl, refl, refl); cut = cut; depth = refl; lowest = refl })
      go one (Some ts) is e =
          let m = mapped (read f (with_tokens s ts)) (λ a. (Some a.0, a.1)) p e in
          let k = mark_taken c pieces s.tokens ts (and_parts (is_mark c) (is_good f) good).0 cut is in
          let t = one (with_tokens s ts) m.from k.0 k.2 m.was in
          subst (λ q. Took (perhaps c f) s q pieces) m.is (record {
            front = plain c ∷ t.front;
            rest = t.rest;
            parts = t.parts;
            whole = k.1 ∙ ap (λ (x : List Piece). plain c ∷ x) t.whole;
            formed = λ stop. inr (t.front, m.from.0, refl, t.formed (and_parts (stops f (first_sort t.rest)) _ stop).0, refl);
            cut = t.cut;
            depth = t.depth;
            lowest = t.lowest;
          })
  sound (repeated ks f) good s p pieces cut e =
      let goods = and_parts (is_good f) (not (is_null f) && (implies (begins f) (is_in ks) && implies (begins f) (stops f))) good in
      let more = and_parts (not (is_null f)) (implies (begins f) (is_in ks) && implies (begins f) (stops f)) goods.1 in
      repeated_took ks f goods.0 more.0 (and_parts (implies (begins f) (is_in ks)) (implies (begins f) (stops f)) more.1).1 (sound f goods.0) (length s.tokens) s p pieces cut e
  sound (seen view f) good s p pieces cut e =
      let a = went (read f s) (λ a. option_map (λ y. (y, a.1)) (view a.0)) p e in
      let m = mapped (view a.from.0) (λ y. (y, a.from.1)) p a.is in
      let t = sound f good s a.from pieces cut a.was in
      subst (λ q. Took (seen view f) s q pieces) m.is
      (record { front = t.front; rest = t.rest; parts = t.parts; whole = t.whole; formed = λ stop. (a.from.0, t.formed stop, m.was); cut = t.cut; depth = t.depth; lowest = t.lowest })
  sound (judged view f) good s p pieces cut e =
      let a = went (read f (without_parts s)) (λ a. option_map (λ j. (j.0, with_whole s.lowest j.1 a.1)) (view a.0)) p e in
      let m = mapped (view a.from.0) (λ j. (j.0, with_whole s.lowest j.1 a.from.1)) p a.is in
      let t = sound f good (without_parts s) a.from pieces cut a.was in
      subst (λ q. Took (judged view f) s q pieces) m.is (record {
        front = t.front;
        rest = t.rest;
        parts = m.from.1 ++ t.parts;
        whole = t.whole;
        formed = λ stop. (a.from.0, t.parts, m.from.1, t.formed stop, m.was, refl);
        cut = t.cut;
        depth = t.depth;
        lowest = ap (λ k. keep (keep s.lowest m.from.1) (parts_in k)) t.lowest ∙ keep_kept (keep s.lowest m.from.1) t.parts ∙ sym (keep_append s.lowest m.from.1 t.parts);
      })
  sound (refused q f) good s p pieces cut e =
      let t = sound f good (with_parts s (q ∷ [])) p pieces cut e in
      record { front = t.front; rest = t.rest; parts = q ∷ t.parts; whole = t.whole; formed = λ stop. (t.parts, t.formed stop, refl); cut = t.cut; depth = t.depth; lowest = t.lowest ∙ sym (keep_append s.lowest (q ∷ []) t.parts) }
