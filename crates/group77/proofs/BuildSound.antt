-- What is built is an expression: the state represents the symbols that have been read.
use Rattle.std.proofs.Common.{◌≡◌, ℕ, Bool, true, false, not, ◌&&◌, List, [], ◌∷◌, ◌++◌, Option, Some, None, refl, sym, ap, ◌∙◌, subst, append_assoc, append-nil}
use Rattle.std.specs.Prelude.{if◌then◌else◌}
use Rattle.std.specs.Option.{option_map}
use Rattle.std.proofs.lemmas.Option.{same_Some}
use Rattle.std.proofs.lemmas.Bool.{and_parts}
use Rattle.text_base.specs.Trees.{Expr, name, call, substring, paren, Exprs, none, more, Bound, at}
use Rattle.text_base.proofs.Optional.{went, mapped}
use Rattle.expr_tree.specs.Plain.{exprs_of}
use Rattle.tree77.specs.Expressions.{Symbol, operand, alternate, operator, not_sign, opening, closing, comma, colon, Grammar, is_sum, Argument, argument_expression, argument_alternate, Listed, listed_one, listed_more, IsCall, IsElement, IsParent, parent_variable, parent_element, IsBound, bound_absent, bound_at, Primary, primary_operand, primary_reference, primary_empty, primary_substring, primary_paren, IsExpression}
use Rattle.group77.specs.Grouping.{group}
use Rattle.group77.specs.Building.{Opening, grouping, listing, parting, bounding, Level, State, standing, with_last, split_last, is_after, is_specifier, read_argument, read_bound, is_bare, open_level, behind_operand, opening_at, alternate_in, comma_in, parent_in, close_list, close_level, is_element, step, step_alternate, step_comma, step_colon, step_closing, finish_in, build_from, build}
use Rattle.group77.proofs.GroupLaw.{group_found}
use Rattle.group77.proofs.BuildParts.{IsPart, Parted, AreParts, parts_one, one_part, parts_append, parts_cut, fill}
use Rattle.group77.proofs.BuildDepth.{whole_expression}
use Rattle.group77.proofs.BuildComplete.{exprs_before, exprs_one, exprs_more}
use Rattle.group77.proofs.BuilderSteps.{last_splits}

-- the text of an operand that has been read
abbrev IsRead : Grammar
IsRead = Primary IsExpression

-- symbols of operands that are grouped have a text that is an expression
group_read : (t ss : List Symbol) (x : Expr) → AreParts IsRead t ss → group ss ≡ Some x → IsExpression t x
group_read t ss x p h = whole_expression t x (fill IsRead ss x (group_found ss x h) t p)

-- a name that has been read is one symbol
name_read : (t : List Symbol) (f : List ℕ) → IsRead t (name f) → t ≡ operand (name f) ∷ []
name_read t f (primary_operand e) = e
name_read t f (primary_reference d) = let e = d.tree in absurd cc
name_read t f (primary_empty of e is) = absurd cc
name_read t f (primary_substring e d g h is) = absurd cc
name_read t f (primary_paren e d is) = absurd cc

-- what is read as an argument is one
argument_read : (ss t : List Symbol) (a : Expr) → AreParts IsRead t ss → read_argument ss ≡ Some a → Argument IsExpression t a
argument_read (alternate ∷ []) t a p h = argument_alternate (one_part IsRead alternate t p) (sym (same_Some _ _ h))
argument_read ss t a p h = argument_expression (group_read t ss a p h)

-- where it is no alternate it is an expression
subscript_read : (ss t : List Symbol) (a : Expr) → AreParts IsRead t ss → read_argument ss ≡ Some a → not (is_specifier ss) ≡ true → IsExpression t a
subscript_read (alternate ∷ []) t a p h k = absurd cc
subscript_read ss t a p h k = group_read t ss a p h

-- what is read as a bound is one
bound_read : (ss t : List Symbol) (b : Bound) → AreParts IsRead t ss → read_bound ss ≡ Some b → IsBound IsExpression t b
bound_read [] t b p h = bound_absent p (sym (same_Some _ _ h))
bound_read (s ∷ ss) t b p h = let m = mapped (group (s ∷ ss)) at b h in bound_at (group_read t (s ∷ ss) m.from p m.was) (sym m.is)

-- ---- what an open parenthesis has before it

-- the text is a front of a list, with these read
abbrev Begun : Grammar → List Symbol → List Expr → Type 0
Begun Part t xs = (u : List Symbol) (others : Exprs) → Listed Part u others → Listed Part (t ++ u) (exprs_before xs others)

-- one more is read
begun_more : (Part : Grammar) (t u : List Symbol) (xs : List Expr) (a : Expr) → Begun Part t xs → Part u a → Begun Part (t ++ (u ++ comma ∷ [])) (xs ++ a ∷ [])
begun_more Part t u xs a b d v others l =
    rw (append_assoc t (u ++ comma ∷ []) v, append_assoc u (comma ∷ []) v, exprs_more xs a others) (b (u ++ comma ∷ v) (more a others) (listed_more refl d l refl))

-- the text of a list that is open: the name, the parenthesis and what has been read in it
record IsListing (f : List ℕ) (xs : List Expr) (e : Bool) (t : List Symbol) : Type 0 where
  inside : List Symbol
  whole : t ≡ operand (name f) ∷ opening ∷ inside
  none_yet : xs ≡ [] → inside ≡ []
  arguments : Begun (Argument IsExpression) inside xs
  subscripts : e ≡ true → Begun IsExpression inside xs

-- the text of a substring of an element that has just been opened
record IsParting (a : Expr) (t : List Symbol) : Type 0 where
  parent : List Symbol
  whole : t ≡ parent ++ opening ∷ []
  is : IsElement IsExpression parent a

-- the text of a substring whose lower bound has been read
record IsBounding (a : Expr) (from : Bound) (t : List Symbol) : Type 0 where
  parent : List Symbol
  lower : List Symbol
  whole : t ≡ parent ++ opening ∷ (lower ++ colon ∷ [])
  is : IsParent IsExpression parent a
  bound : IsBound IsExpression lower from

-- the text of an open parenthesis and of what belongs to it
abbrev IsOpening : Opening → List Symbol → Type 0
IsOpening grouping t = t ≡ opening ∷ []
IsOpening (listing f xs e) t = IsListing f xs e t
IsOpening (parting a) t = IsParting a t
IsOpening (bounding a from) t = IsBounding a from t

-- ---- what a state stands for

-- the text is that of the levels outside, of the parenthesis and of the symbols behind it
record StandsIn (Outer Opened : List Symbol → Type 0) (symbols t : List Symbol) : Type 0 where
  outer : List Symbol
  begun : List Symbol
  now : List Symbol
  whole : t ≡ outer ++ (begun ++ now)
  stands : Outer outer
  opened : Opened begun
  parts : AreParts IsRead now symbols

-- the text has been read where these levels are open and these symbols stand behind the innermost
abbrev Stands : List Level → List Symbol → List Symbol → Type 0
Stands [] symbols t = AreParts IsRead t symbols
Stands (l ∷ ls) symbols t = StandsIn (λ u. Stands ls l.before u) (λ u. IsOpening l.of u) symbols t

-- the operand that stands last is an array element
abbrev ElementLast : List Level → List Symbol → Option (List Symbol × Symbol) → Type 0
ElementLast ls t (Some (before, operand x)) = Parted (Stands ls before) (λ u. IsElement IsExpression u x) t
ElementLast ls t _ = Unit {0}

-- what a state stands for
record Holds (s : State) (t : List Symbol) : Type 0 where
  stands : Stands s.levels s.symbols t
  last : s.element ≡ true → ElementLast s.levels t (split_last s.symbols)

-- a text of three goes on where the last does
text_more : (t outer begun now u : List Symbol) → t ≡ outer ++ (begun ++ now) → t ++ u ≡ outer ++ (begun ++ (now ++ u))
text_more t outer begun now u e = ap (λ w. w ++ u) e ∙ append_assoc outer (begun ++ now) u ∙ ap (λ w. outer ++ w) (append_assoc begun now u)

-- more symbols at the innermost level
stands_more : (ls : List Level) (symbols others t u : List Symbol) → Stands ls symbols t → AreParts IsRead u others → Stands ls (symbols ++ others) (t ++ u)
stands_more [] symbols others t u s p = parts_append IsRead symbols others t u s p
stands_more (l ∷ ls) symbols others t u s p =
    record {
      outer = s.outer;
      begun = s.begun;
      now = s.now ++ u;
      whole = text_more t s.outer s.begun s.now u s.whole;
      stands = s.stands;
      opened = s.opened;
      parts = parts_append IsRead symbols others s.now u s.parts p;
    }

-- the last symbols at the innermost level
stands_cut : (ls : List Level) (symbols others t : List Symbol) → Stands ls (symbols ++ others) t → Parted (λ u. Stands ls symbols u) (λ u. AreParts IsRead u others) t
stands_cut [] symbols others t s = parts_cut IsRead symbols others t s
stands_cut (l ∷ ls) symbols others t s =
    let q = parts_cut IsRead symbols others s.now s.parts in
    record {
      first = s.outer ++ (s.begun ++ q.first);
      rest = q.rest;
      whole = s.whole ∙ sym (text_more (s.outer ++ (s.begun ++ q.first)) s.outer s.begun q.first q.rest refl ∙ ap (λ w. s.outer ++ (s.begun ++ w)) (sym q.whole));
      begins = record { outer = s.outer; begun = s.begun; now = q.first; whole = refl; stands = s.stands; opened = s.opened; parts = q.begins };
      goes_on = q.goes_on;
    }

-- ---- steps

-- the step to the next state keeps what the state stands for
abbrev Keeps : List Symbol → Option State → Type 0
Keeps t o = (s : State) → o ≡ Some s → Holds s t

-- a state that stands for the text is kept
keeps : (t : List Symbol) (s : State) → Holds s t → Keeps t (Some s)
keeps t s d next h = subst (λ (q : State). Holds q t) (same_Some _ _ h) d

-- no state is kept
keeps_none : (t : List Symbol) → Keeps t None
keeps_none t next h = absurd cc

-- what is kept in both cases is kept
keeps_if : (t : List Symbol) (b : Bool) (o p : Option State) → Keeps t o → Keeps t p → Keeps t (if b then o else p)
keeps_if t true o p k l = k
keeps_if t false o p k l = l

-- what is made of what was found
keeps_map : {A : Type 0} (t : List Symbol) (o : Option A) (f : A → State) → ((a : A) → o ≡ Some a → Holds (f a) t) → Keeps t (option_map f o)
keeps_map t o f d s h = let m = mapped o f s h in subst (λ (q : State). Holds q t) m.is (d m.from m.was)

-- where no element stands last
plainly : (ls : List Level) (symbols t : List Symbol) → Stands ls symbols t → Holds (standing ls symbols) t
plainly ls symbols t d = record { stands = d; last = λ e. absurd cc }

-- a symbol that is its own text is kept behind the others
pushed : (ls : List Level) (symbols t : List Symbol) (s : Symbol) → IsPart IsRead (s ∷ []) s → Stands ls symbols t → Keeps (t ++ s ∷ []) (Some (standing ls (symbols ++ s ∷ [])))
pushed ls symbols t s p d = keeps _ _ (plainly ls _ _ (stands_more ls symbols (s ∷ []) t (s ∷ []) d (parts_one IsRead s (s ∷ []) p)))

-- a parenthesis is opened
opened : (ls : List Level) (before : List Symbol) (of : Opening) (t u : List Symbol) → Stands ls before t → IsOpening of u → Holds (open_level ls before of) (t ++ u)
opened ls before of t u s o = plainly _ [] _ (record { outer = t; begun = u; now = []; whole = ap (λ w. t ++ w) (sym (append-nil u)); stands = s; opened = o; parts = refl })

-- an alternate is kept
alternate_keeps : (ls : List Level) (symbols t : List Symbol) → Stands ls symbols t → Keeps (t ++ alternate ∷ []) (step_alternate ls symbols)
alternate_keeps [] symbols t d = keeps_none _
alternate_keeps (l ∷ ls) symbols t d = go l.of symbols d
  where
    go : (of : Opening) (ss : List Symbol) → Stands (l ∷ ls) ss t → Keeps (t ++ alternate ∷ []) (alternate_in (l ∷ ls) of ss)
    go (listing f xs e) [] d = pushed (l ∷ ls) [] t alternate refl d
    go (listing f xs e) (s ∷ ss) d = keeps_none _
    go grouping ss d = keeps_none _
    go (parting a) ss d = keeps_none _
    go (bounding a from) ss d = keeps_none _

-- the last symbol and those before it are all symbols
abbrev IsSplit : List Symbol → Option (List Symbol × Symbol) → Type 0
IsSplit ss None = ss ≡ []
IsSplit ss (Some p) = ss ≡ p.0 ++ p.1 ∷ []

-- one symbol more is split so
split_more : (c : Symbol) (ss : List Symbol) (o : Option (List Symbol × Symbol)) → IsSplit ss o → IsSplit (c ∷ ss) (with_last c o)
split_more c ss None e = ap (λ w. c ∷ w) e
split_more c ss (Some p) e = ap (λ w. c ∷ w) e

-- symbols are split so
split_is : (ss : List Symbol) → IsSplit ss (split_last ss)
split_is [] = refl
split_is (c ∷ ss) = split_more c ss (split_last ss) (split_is ss)

-- a parenthesis that belongs to the operand before it is opened
opened_behind : (ls : List Level) (b : List Symbol) (of : Opening) (t : List Symbol) → Parted (Stands ls b) (λ u. IsOpening of (u ++ opening ∷ [])) t → Keeps (t ++ opening ∷ []) (Some (open_level ls b of))
opened_behind ls b of t q =
    let same : t ++ opening ∷ [] ≡ q.first ++ (q.rest ++ opening ∷ []) = ap (λ w. w ++ opening ∷ []) q.whole ∙ append_assoc q.first q.rest (opening ∷ []) in
    keeps _ _ (rw same (opened ls b of q.first (q.rest ++ opening ∷ []) q.begins q.goes_on))

-- a list in which nothing has been read
listing_begins : (f : List ℕ) (u : List Symbol) → u ≡ operand (name f) ∷ [] → IsListing f [] true (u ++ opening ∷ [])
listing_begins f u e = record { inside = []; whole = ap (λ w. w ++ opening ∷ []) e; none_yet = λ h. refl; arguments = λ v others l. l; subscripts = λ h v others l. l }

-- a parenthesis that opens is kept
opening_keeps : (s : State) (t : List Symbol) → Holds s t → Keeps (t ++ opening ∷ []) (step opening s)
opening_keeps s t d = go (split_last s.symbols) refl (split_is s.symbols)
  where
    alone : Keeps (t ++ opening ∷ []) (Some (open_level s.levels s.symbols grouping))
    alone = keeps _ _ (opened s.levels s.symbols grouping t (opening ∷ []) d.stands refl)

    behind : (b : List Symbol) (x : Expr) (e : Bool) → s.element ≡ e → split_last s.symbols ≡ Some (b, operand x) → s.symbols ≡ b ++ operand x ∷ [] → Keeps (t ++ opening ∷ []) (option_map (open_level s.levels b) (behind_operand e x))
    behind b x true e k i =
        let q = subst (ElementLast s.levels t) k (d.last e) in
        opened_behind s.levels b (parting x) t (record { first = q.first; rest = q.rest; whole = q.whole; begins = q.begins; goes_on = record { parent = q.rest; whole = refl; is = q.goes_on } })
    behind b (name f) false e k i =
        let q = stands_cut s.levels b (operand (name f) ∷ []) t (subst (λ w. Stands s.levels w t) i d.stands) in
        let alone = name_read q.rest f (one_part IsRead (operand (name f)) q.rest q.goes_on) in
        opened_behind s.levels b (listing f [] true) t (record { first = q.first; rest = q.rest; whole = q.whole; begins = q.begins; goes_on = listing_begins f q.rest alone })
    behind b x false e k i = keeps_none _

    go : (o : Option (List Symbol × Symbol)) → split_last s.symbols ≡ o → IsSplit s.symbols o → Keeps (t ++ opening ∷ []) (opening_at s.element s.levels s.symbols o)
    go None k i = alone
    go (Some (b, operand x)) k i = behind b x s.element refl k i
    go (Some (b, alternate)) k i = keeps_none _
    go (Some (b, c)) k i = alone

-- what an open parenthesis becomes
reopened : (ls : List Level) (before : List Symbol) (of : Opening) (Opened : List Symbol → Type 0) (symbols t : List Symbol) (c : Symbol) (s : StandsIn (λ u. Stands ls before u) Opened symbols t)
    → IsOpening of (s.begun ++ (s.now ++ c ∷ [])) → Holds (open_level ls before of) (t ++ c ∷ [])
reopened ls before of Opened symbols t c s o = rw (text_more t s.outer s.begun s.now (c ∷ []) s.whole) (opened ls before of s.outer (s.begun ++ (s.now ++ c ∷ [])) s.stands o)

-- one at the end is some
not_none : (xs : List Expr) (a : Expr) → xs ++ a ∷ [] ≡ [] → ⊥
not_none [] a e = cc
not_none (x ∷ xs) a e = cc

-- a list with one argument more
listing_more : (f : List ℕ) (xs : List Expr) (e : Bool) (a : Expr) (begun now ss : List Symbol) → IsListing f xs e begun → AreParts IsRead now ss → read_argument ss ≡ Some a
    → IsListing f (xs ++ a ∷ []) (e && not (is_specifier ss)) (begun ++ (now ++ comma ∷ []))
listing_more f xs e a begun now ss o p h =
    record {
      inside = o.inside ++ (now ++ comma ∷ []);
      whole = ap (λ w. w ++ (now ++ comma ∷ [])) o.whole;
      none_yet = λ n. absurd (not_none xs a n);
      arguments = begun_more (Argument IsExpression) o.inside now xs a o.arguments (argument_read ss now a p h);
      subscripts = λ k. let b = and_parts e (not (is_specifier ss)) k in begun_more IsExpression o.inside now xs a (o.subscripts b.0) (subscript_read ss now a p h b.1);
    }

-- a comma is kept
comma_keeps : (ls : List Level) (symbols t : List Symbol) → Stands ls symbols t → Keeps (t ++ comma ∷ []) (step_comma ls symbols)
comma_keeps [] symbols t d = keeps_none _
comma_keeps (l ∷ ls) symbols t d = go l.of d
  where
    go : (of : Opening) → StandsIn (λ u. Stands ls l.before u) (λ u. IsOpening of u) symbols t → Keeps (t ++ comma ∷ []) (comma_in ls l.before of symbols)
    go (listing f xs e) s =
        keeps_map _ (read_argument symbols) (λ a. open_level ls l.before (listing f (xs ++ a ∷ []) (e && not (is_specifier symbols))))
        (λ a h. reopened ls l.before (listing f (xs ++ a ∷ []) (e && not (is_specifier symbols))) (λ u. IsListing f xs e u) symbols t comma s (listing_more f xs e a s.begun s.now symbols s.opened s.parts h))
    go grouping s = keeps_none _
    go (parting a) s = keeps_none _
    go (bounding a from) s = keeps_none _

-- what a substring that begins here is part of
parent_found : (of : Opening) (t : List Symbol) (a : Expr) → IsOpening of t → parent_in of ≡ Some a → (p : List Symbol) × (t ≡ p ++ opening ∷ []) × IsParent IsExpression p a
parent_found (listing f [] e) t a o h = (operand (name f) ∷ [], o.whole ∙ ap (λ w. operand (name f) ∷ opening ∷ w) (o.none_yet refl), parent_variable f refl (sym (same_Some _ _ h)))
parent_found (parting b) t a o h = (o.parent, o.whole, parent_element (subst (λ x. IsElement IsExpression o.parent x) (same_Some _ _ h) o.is))
parent_found (listing f (x ∷ xs) e) t a o h = absurd cc
parent_found grouping t a o h = absurd cc
parent_found (bounding b from) t a o h = absurd cc

-- a colon is kept
colon_keeps : (ls : List Level) (symbols t : List Symbol) → Stands ls symbols t → Keeps (t ++ colon ∷ []) (step_colon ls symbols)
colon_keeps [] symbols t d = keeps_none _
colon_keeps (l ∷ ls) symbols t d = λ next h.
    let w = went (parent_in l.of) (λ a. option_map (λ from. open_level ls l.before (bounding a from)) (read_bound symbols)) next h in
    let p = parent_found l.of d.begun w.from d.opened w.was in
    keeps_map (t ++ colon ∷ []) (read_bound symbols) (λ from. open_level ls l.before (bounding w.from from))
    (λ from k. reopened ls l.before (bounding w.from from) (λ u. IsOpening l.of u) symbols t colon d
    (record { parent = p.0; lower = d.now; whole = ap (λ v. v ++ (d.now ++ colon ∷ [])) p.1 ∙ append_assoc p.0 (opening ∷ []) (d.now ++ colon ∷ []); is = p.2; bound = bound_read symbols d.now from d.parts k }))
    next w.is

-- ---- parentheses that close

-- a list with its last argument
call_closed : (Part : Grammar) (f : List ℕ) (xs : List Expr) (a : Expr) (inside begun now : List Symbol) → begun ≡ operand (name f) ∷ opening ∷ inside → Begun Part inside xs → Part now a
    → IsCall Part (begun ++ (now ++ closing ∷ [])) (call f (exprs_of (xs ++ a ∷ [])))
call_closed Part f xs a inside begun now e b d =
    record {
      of = f;
      inside = inside ++ now;
      parts = exprs_of (xs ++ a ∷ []);
      whole = ap (λ w. w ++ (now ++ closing ∷ [])) e ∙ ap (λ w. operand (name f) ∷ opening ∷ w) (sym (append_assoc inside now (closing ∷ [])));
      listed = rw (exprs_one xs a) (b now (more a none) (listed_one d refl));
      tree = refl;
    }

-- a list in which nothing stands
bare_parts : (xs : List Expr) (ss : List Symbol) → is_bare xs ss ≡ true → (xs ≡ []) × (ss ≡ [])
bare_parts [] [] h = (refl, refl)
bare_parts [] (s ∷ ss) h = absurd cc
bare_parts (x ∷ xs) ss h = absurd cc

-- a list that closes is a call
list_closed : (f : List ℕ) (xs : List Expr) (e : Bool) (begun now ss : List Symbol) (x : Expr) → IsListing f xs e begun → AreParts IsRead now ss → close_list f xs ss ≡ Some x → IsRead (begun ++ (now ++ closing ∷ [])) x
list_closed f xs e begun now ss x o p h = go (is_bare xs ss) refl h
  where
    go : (b : Bool) → is_bare xs ss ≡ b → (if b then Some (call f none) else option_map (λ a. call f (exprs_of (xs ++ a ∷ []))) (read_argument ss)) ≡ Some x → IsRead (begun ++ (now ++ closing ∷ [])) x
    go true b h =
        let bare = bare_parts xs ss b in
        let nothing : now ≡ [] = subst (λ w. AreParts IsRead now w) bare.1 p in
        primary_empty f (ap (λ w. w ++ (now ++ closing ∷ [])) (o.whole ∙ ap (λ w. operand (name f) ∷ opening ∷ w) (o.none_yet bare.0)) ∙ ap (λ w. operand (name f) ∷ opening ∷ (w ++ closing ∷ [])) nothing) (sym (same_Some _ _ h))
    go false b h =
        let m = mapped (read_argument ss) (λ a. call f (exprs_of (xs ++ a ∷ []))) x h in
        primary_reference (subst (λ y. IsCall (Argument IsExpression) (begun ++ (now ++ closing ∷ [])) y) m.is (call_closed (Argument IsExpression) f xs m.from o.inside begun now o.whole o.arguments (argument_read ss now m.from p m.was)))

-- and an element, where it may be one
element_closed : (f : List ℕ) (xs : List Expr) (e : Bool) (begun now ss : List Symbol) (x : Expr) → IsListing f xs e begun → AreParts IsRead now ss → close_list f xs ss ≡ Some x
    → (e && (not (is_bare xs ss) && not (is_specifier ss))) ≡ true → IsElement IsExpression (begun ++ (now ++ closing ∷ [])) x
element_closed f xs e begun now ss x o p h k =
    let q = and_parts e (not (is_bare xs ss) && not (is_specifier ss)) k in
    let r = and_parts (not (is_bare xs ss)) (not (is_specifier ss)) q.1 in
    go (is_bare xs ss) r.0 h q.0 r.1
  where
    go : (b : Bool) → not b ≡ true → (if b then Some (call f none) else option_map (λ a. call f (exprs_of (xs ++ a ∷ []))) (read_argument ss)) ≡ Some x → e ≡ true → not (is_specifier ss) ≡ true
        → IsElement IsExpression (begun ++ (now ++ closing ∷ [])) x
    go true b h may plain = absurd cc
    go false b h may plain =
        let m = mapped (read_argument ss) (λ a. call f (exprs_of (xs ++ a ∷ []))) x h in
        subst (λ y. IsElement IsExpression (begun ++ (now ++ closing ∷ [])) y) m.is (call_closed IsExpression f xs m.from o.inside begun now o.whole (o.subscripts may) (subscript_read ss now m.from p m.was plain))

-- a level that closes is an operand
level_closed : (of : Opening) (begun now ss : List Symbol) (x : Expr) → IsOpening of begun → AreParts IsRead now ss → close_level of ss ≡ Some x → IsRead (begun ++ (now ++ closing ∷ [])) x
level_closed grouping begun now ss x o p h =
    let m = mapped (group ss) paren x h in
    subst (λ y. IsRead (begun ++ (now ++ closing ∷ [])) y) m.is (primary_paren (ap (λ w. w ++ (now ++ closing ∷ [])) o) (group_read now ss m.from p m.was) refl)
level_closed (listing f xs e) begun now ss x o p h = list_closed f xs e begun now ss x o p h
level_closed (parting a) begun now ss x o p h = absurd cc
level_closed (bounding a from) begun now ss x o p h =
    let m = mapped (read_bound ss) (λ to. substring a from to) x h in
    let whole : begun ++ (now ++ closing ∷ []) ≡ o.parent ++ opening ∷ (o.lower ++ colon ∷ (now ++ closing ∷ [])) =
    ap (λ w. w ++ (now ++ closing ∷ [])) o.whole ∙ append_assoc o.parent (opening ∷ (o.lower ++ colon ∷ [])) (now ++ closing ∷ [])
    ∙ ap (λ w. o.parent ++ opening ∷ w) (append_assoc o.lower (colon ∷ []) (now ++ closing ∷ [])) in
    subst (λ y. IsRead (begun ++ (now ++ closing ∷ [])) y) m.is (primary_substring whole o.is o.bound (bound_read ss now m.from p m.was) refl)

-- and an array element where it is said to be one
last_closed : (of : Opening) (begun now ss : List Symbol) (x : Expr) → IsOpening of begun → AreParts IsRead now ss → close_level of ss ≡ Some x → is_element of ss ≡ true → IsElement IsExpression (begun ++ (now ++ closing ∷ [])) x
last_closed (listing f xs e) begun now ss x o p h k = element_closed f xs e begun now ss x o p h k
last_closed grouping begun now ss x o p h k = absurd cc
last_closed (parting a) begun now ss x o p h k = absurd cc
last_closed (bounding a from) begun now ss x o p h k = absurd cc

-- a parenthesis that closes is kept
closing_keeps : (ls : List Level) (symbols t : List Symbol) → Stands ls symbols t → Keeps (t ++ closing ∷ []) (step_closing ls symbols)
closing_keeps [] symbols t d = keeps_none _
closing_keeps (l ∷ ls) symbols t d =
    keeps_map _ (close_level l.of symbols) (λ x. record { levels = ls; symbols = l.before ++ operand x ∷ []; element = is_element l.of symbols })
    (λ x h.
    let behind : List Symbol = d.begun ++ (d.now ++ closing ∷ []) in
    let whole = text_more t d.outer d.begun d.now (closing ∷ []) d.whole in
    let read = parts_one IsRead (operand x) behind (level_closed l.of d.begun d.now symbols x d.opened d.parts h) in
    record {
      stands = rw whole (stands_more ls l.before (operand x ∷ []) d.outer behind d.stands read);
      last = λ k. subst (ElementLast ls (t ++ closing ∷ [])) (sym (last_splits l.before (operand x))) (
          record { first = d.outer; rest = behind; whole = whole; begins = d.stands; goes_on = last_closed l.of d.begun d.now symbols x d.opened d.parts h k }
          );
    })

-- ---- all symbols

-- each step keeps what the state stands for
step_keeps : (c : Symbol) (s : State) (t : List Symbol) → Holds s t → Keeps (t ++ c ∷ []) (step c s)
step_keeps (operand x) s t d = keeps_if _ (is_after s.symbols) None _ (keeps_none _) (pushed s.levels s.symbols t (operand x) (primary_operand refl) d.stands)
step_keeps alternate s t d = alternate_keeps s.levels s.symbols t d.stands
step_keeps (operator o) s t d =
    let k = pushed s.levels s.symbols t (operator o) refl d.stands in
    keeps_if _ (is_after s.symbols) _ _ k (keeps_if _ (is_sum o) _ None k (keeps_none _))
step_keeps not_sign s t d = keeps_if _ (is_after s.symbols) None _ (keeps_none _) (pushed s.levels s.symbols t not_sign refl d.stands)
step_keeps opening s t d = opening_keeps s t d
step_keeps closing s t d = closing_keeps s.levels s.symbols t d.stands
step_keeps comma s t d = comma_keeps s.levels s.symbols t d.stands
step_keeps colon s t d = colon_keeps s.levels s.symbols t d.stands

-- at the end the symbols are an expression
finish_is : (ls : List Level) (symbols t : List Symbol) (x : Expr) → Stands ls symbols t → finish_in ls symbols ≡ Some x → IsExpression t x
finish_is [] symbols t x d h = group_read t symbols x d h
finish_is (l ∷ ls) symbols t x d h = absurd cc

-- what is built from a state is an expression of the symbols read before and then
built_from : (cs : List Symbol) (s : State) (t : List Symbol) (x : Expr) → Holds s t → build_from s cs ≡ Some x → IsExpression (t ++ cs) x
built_from [] s t x d k = rw (append-nil t) (finish_is s.levels s.symbols t x d.stands k)
built_from (c ∷ cs) s t x d k =
    let w = went (step c s) (λ (next : State). build_from next cs) x k in
    let e = built_from cs w.from (t ++ c ∷ []) x (step_keeps c s t d w.from w.was) w.is in
    subst (λ u. IsExpression u x) (append_assoc t (c ∷ []) cs) e

-- what is built is an expression
pub built_is : (t : List Symbol) (x : Expr) → build t ≡ Some x → IsExpression t x
unfolding build
built_is t x k = built_from t (standing [] []) [] x (plainly [] [] [] refl) k
