-- Pieces of a form can be cut into tokens.
use Rattle.std.proofs.Common.{◌≡◌, ◌⊎◌, inl, inr, ℕ, ◌+◌, Bool, true, false, not, ◌&&◌, ◌||◌, ◌==◌, List, [], ◌∷◌, ◌++◌, map, Some, None, refl, sym, ap, ◌∙◌, subst, append_assoc}
use Rattle.std.specs.Prelude.{if◌then◌else◌}
use Rattle.std.specs.List.{list_all}
use Rattle.std.proofs.lemmas.Bool.{and_parts}
use Rattle.text_base.specs.Chars.{is_upper, is_digit, is_name_byte}
use Rattle.text_base.specs.Formats.{quoted}
use Rattle.text_base.specs.Pieces.{Piece, plain, whole, broken}
use Rattle.tree77.specs.Kinds.{is_word, is_number}
use Rattle.tree77.specs.Tokens.{Token, is_mark, StopsAt, IsCut, cut_nothing, cut_run, cut_digits, cut_text, cut_mark}
use Rattle.tree77.specs.Lexemes.{Part}
use Rattle.forms77.proofs.Marks.{each_mark}
use Rattle.tree77.specs.Forms.{Form, nothing, mark, word, name, label, numeral, number, format_text, portion, inside, both, choice, told, perhaps, repeated, seen, judged, refused, Repeats, repeats_none, repeats_more, Matches, ahead, first_sort, is_in}
use Rattle.forms77.specs.Goodness.{is_good_look, are_told, look_stops, stops, is_null, implies, begins, is_good}
use Rattle.forms77.proofs.Fronts.{mark_of, run_of, digits_of, kept_of}
use Rattle.forms77.proofs.Lower.{Lower}
use Rattle.forms77.proofs.Sorts.{implied, of_each, ends_name, ends_digits}
use Rattle.forms77.proofs.Starts.{starts, repeats_start, stops_first, label_is_number}

abbrev pub HasCut : List Piece → Type 0
HasCut pieces = (ts : List Token) × IsCut pieces ts

at_pieces : {a b : List Piece} → a ≡ b → HasCut b → HasCut a
at_pieces e c = (c.0, subst (λ u. IsCut u c.0) (sym e) c.1)

mark_cut : (c : ℕ) (v : List Piece) → is_mark c ≡ true → HasCut v → HasCut (plain c ∷ v)
mark_cut c v is t = (mark_of c ∷ t.0, cut_mark c refl is t.1 refl)

run_cut : (w : List ℕ) (v : List Piece) → is_word w ≡ true → StopsAt is_name_byte v → HasCut v → HasCut (map plain w ++ v)
run_cut [] v is stop t = absurd cc
run_cut (c ∷ w) v is stop t = let p = and_parts (is_upper c) (list_all is_name_byte w) is in (run_of (c ∷ w) ∷ t.0, cut_run c w refl p.0 p.1 stop t.1 refl)

digits_cut : (w : List ℕ) (v : List Piece) → is_number w ≡ true → StopsAt is_digit v → HasCut v → HasCut (map plain w ++ v)
digits_cut [] v is stop t = absurd cc
digits_cut (c ∷ w) v is stop t = let p = and_parts (is_digit c) (list_all is_digit w) is in (digits_of (c ∷ w) ∷ t.0, cut_digits c w refl p.0 p.1 stop t.1 refl)

text_cut : (t : List ℕ) (v : List Piece) → HasCut v → HasCut (whole t ∷ v)
text_cut t v c = (kept_of t ∷ c.0, cut_text t refl c.1 refl)

-- ---- pieces behind which a mark stands, or nothing

abbrev EndsAtMark : List Piece → Type 0
EndsAtMark [] = Unit {0}
EndsAtMark (plain c ∷ v) = is_mark c ≡ true
EndsAtMark (whole t ∷ v) = ⊥
EndsAtMark (broken t ∷ v) = ⊥

ends_at : (marks : List ℕ) (v : List Piece) → list_all is_mark marks ≡ true → is_in (0 ∷ marks) (first_sort v) ≡ true → EndsAtMark v
ends_at marks [] good stop = tt
ends_at marks (whole t ∷ v) good stop = let on : is_mark 39 ≡ true = of_each is_mark marks 39 good stop in absurd cc
ends_at marks (broken t ∷ v) good stop = let on : is_mark 1 ≡ true = of_each is_mark marks 1 good stop in absurd cc
ends_at marks (plain c ∷ v) good stop = go (is_upper c) (is_digit c) (is_mark c) refl stop
  where
    go : (upper digit marked : Bool) → is_mark c ≡ marked → is_in (0 ∷ marks) (if upper then 65 else (if digit then 48 else (if marked then c else 1))) ≡ true → is_mark c ≡ true
    go true digit marked is stop = let on : is_mark 65 ≡ true = of_each is_mark marks 65 good stop in absurd cc
    go false true marked is stop = let on : is_mark 48 ≡ true = of_each is_mark marks 48 good stop in absurd cc
    go false false false is stop = let on : is_mark 1 ≡ true = of_each is_mark marks 1 good stop in absurd cc
    go false false true is stop = is

stop_stops : (test : ℕ → Bool) → ((c : ℕ) → is_mark c ≡ true → test c ≡ false) → (r v : List Piece) → EndsAtMark v → StopsAt test r → StopsAt test (r ++ v)
stop_stops test off [] [] stop at = tt
stop_stops test off [] (plain c ∷ v) stop at = off c stop
stop_stops test off [] (whole t ∷ v) stop at = absurd stop
stop_stops test off [] (broken t ∷ v) stop at = absurd stop
stop_stops test off (plain c ∷ r) v stop at = at
stop_stops test off (whole t ∷ r) v stop at = tt
stop_stops test off (broken t ∷ r) v stop at = tt

joined : (u v : List Piece) (us vs : List Token) → EndsAtMark v → IsCut u us → IsCut v vs → IsCut (u ++ v) (us ++ vs)
joined u v us vs stop (cut_nothing none end) behind = subst (λ x. IsCut (x ++ v) (us ++ vs)) (sym none) (subst (λ (x : List Token). IsCut v (x ++ vs)) (sym end) behind)
joined u v us vs stop (cut_run {rest = r} {more = more} c w front upper all at follows is) behind =
    cut_run {rest = r ++ v} {more = more ++ vs} c w (ap (λ x. x ++ v) front ∙ append_assoc (plain c ∷ map plain w) r v) upper all
    (stop_stops is_name_byte (λ k m. each_mark is_name_byte k refl refl refl refl refl refl refl refl refl refl m) r v stop at) (joined r v more vs stop follows behind) (ap (λ (x : List Token). x ++ vs) is)
joined u v us vs stop (cut_digits {rest = r} {more = more} c w front digit all at follows is) behind =
    cut_digits {rest = r ++ v} {more = more ++ vs} c w (ap (λ x. x ++ v) front ∙ append_assoc (plain c ∷ map plain w) r v) digit all
    (stop_stops is_digit (λ k m. each_mark is_digit k refl refl refl refl refl refl refl refl refl refl m) r v stop at) (joined r v more vs stop follows behind) (ap (λ (x : List Token). x ++ vs) is)
joined u v us vs stop (cut_text {rest = r} {more = more} t front follows is) behind =
    cut_text {rest = r ++ v} {more = more ++ vs} t (ap (λ x. x ++ v) front) (joined r v more vs stop follows behind) (ap (λ (x : List Token). x ++ vs) is)
joined u v us vs stop (cut_mark {rest = r} {more = more} c front marks follows is) behind =
    cut_mark {rest = r ++ v} {more = more ++ vs} c (ap (λ x. x ++ v) front) marks (joined r v more vs stop follows behind) (ap (λ (x : List Token). x ++ vs) is)

-- ---- forms

abbrev Cuts : {A : Type 0} → Form A → Type 0
Cuts f = (d : ℕ) (u v : List Piece) (x : _) (ps : List Part) → Matches f d u x ps → stops f (first_sort v) ≡ true → HasCut v → HasCut (u ++ v)

module _ (low : Lower) where
  repeated_cut : {A : Type 0} (f : Form A) → is_good f ≡ true → not (is_null f) ≡ true → implies (begins f) (stops f) ≡ true → Cuts f → (d : ℕ) (u v : List Piece) (xs : List A) (ps : List Part) → Repeats (Matches f d) u xs ps → stops f (first_sort v) ≡ true
      → HasCut v → HasCut (u ++ v)
  repeated_cut f good some leads one d u v xs ps (repeats_none none is parts) stop t = at_pieces (ap (λ y. y ++ v) none) t
  repeated_cut f good some leads one d u v xs ps (repeats_more {v = a} {w = w} {ys = ys} {qs = qs} {rs = rs} {x = x} front m more is parts) stop t =
      at_pieces (ap (λ y. y ++ v) front ∙ append_assoc a w v) (one d a (w ++ v) x qs m (go (repeats_start f some (starts low f good) d w v ys rs more)) (repeated_cut f good some leads one d w v ys rs more stop t))
    where
      go : (begins f (first_sort (w ++ v)) ≡ true) ⊎ (w ≡ []) → stops f (first_sort (w ++ v)) ≡ true
      go (inl is) = implied (begins f) (stops f) leads (w ++ v) is
      go (inr none) = ap (λ r. stops f (first_sort (r ++ v))) none ∙ stop

  pub cuttable : {A : Type 0} (f : Form A) → is_good f ≡ true → (d : ℕ) (u v : List Piece) (x : A) (ps : List Part) → Matches f d u x ps → stops f (first_sort v) ≡ true → HasCut v → HasCut (u ++ v)
  cuttable (nothing y) good d u v x ps m stop t = at_pieces (ap (λ z. z ++ v) m.0) t
  cuttable (mark c) good d u v x ps m stop t = at_pieces (ap (λ z. z ++ v) m.0) (mark_cut c v good t)
  cuttable (word w) good d u v x ps m stop t = at_pieces (ap (λ z. z ++ v) m.0) (run_cut w v good (ends_name v stop) t)
  cuttable name good d u v x ps m stop t = at_pieces (ap (λ z. z ++ v) m.1) (run_cut m.0 v m.2 (ends_name v stop) t)
  cuttable label good d u v x ps m stop t = at_pieces (ap (λ z. z ++ v) m.1) (digits_cut m.0 v (label_is_number m.0 m.2) (ends_digits v stop) t)
  cuttable numeral good d u v x ps m stop t = at_pieces (ap (λ z. z ++ v) m.0) (digits_cut x v m.1 (ends_digits v stop) t)
  cuttable number good d u v x ps m stop t = at_pieces (ap (λ z. z ++ v) m.1) (digits_cut m.0 v m.2 (ends_digits v stop) t)
  cuttable format_text good d u v x ps m stop t = at_pieces (ap (λ z. z ++ v) m.0) (text_cut (quoted x.0) v t)
  cuttable (portion strict marks) good d u v x ps m stop t = let c = low.wide_cut u m.0 x m.1 in (c.0 ++ t.0, joined u v c.0 t.0 (ends_at marks v good stop) c.1 t.1)
  cuttable (inside f) good d u v x ps m stop t =
      let goods = and_parts (is_good f) (stops f 41) good in
      at_pieces (ap (λ z. z ++ v) m.2 ∙ ap (λ (z : List Piece). plain 40 ∷ z) (append_assoc m.0 (plain 41 ∷ []) v))
      (mark_cut 40 (m.0 ++ plain 41 ∷ v) refl (cuttable f goods.0 (d + 1) m.0 (plain 41 ∷ v) x m.1 m.3 goods.1 (mark_cut 41 v refl t)))
  cuttable (both f g) good d u v x ps m stop t =
      let goods = and_parts (is_good f) (is_good g && implies (begins g) (stops f)) good in
      let more = and_parts (is_good g) (implies (begins g) (stops f)) goods.1 in
      let stopping = and_parts (stops g (first_sort v)) (not (is_null g) || stops f (first_sort v)) stop in
      at_pieces (ap (λ z. z ++ v) m.4 ∙ append_assoc m.0 m.1 v)
      (cuttable f goods.0 d m.0 (m.1 ++ v) x.0 m.2 m.5 (stops_first f g m.1 v (implied (begins g) (stops f) more.1) stopping.1 (starts low g more.0 d m.1 v x.1 m.3 m.6))
      (cuttable g more.0 d m.1 v x.1 m.3 m.6 stopping.0 t))
  cuttable (choice ks f g) good d u v x ps m stop t =
      let goods = and_parts (is_good f) _ good in
      let first = and_parts (stops f (first_sort v)) (stops g (first_sort v) && (not (is_null g) || not (is_in ks (first_sort v)))) stop in
      go (λ m. cuttable f goods.0 d u v x ps m first.0 t) (λ m. cuttable g (and_parts (is_good g) _ goods.1).0 d u v x ps m (and_parts (stops g (first_sort v)) _ first.1).0 t) m
    where
      go : (Matches f d u x ps → HasCut (u ++ v)) → (Matches g d u x ps → HasCut (u ++ v)) → Matches f d u x ps ⊎ Matches g d u x ps → HasCut (u ++ v)
      go a b (inl m) = a m
      go a b (inr m) = b m
  cuttable (told look f g) good d u v x ps m stop t =
      let goods = and_parts (is_good f) (is_good g && (is_good_look look && are_told look f g)) good in
      let first = and_parts (stops f (first_sort v)) (stops g (first_sort v) && look_stops look (first_sort v)) stop in
      go (λ m. cuttable f goods.0 d u v x ps m first.0 t)
      (λ m. cuttable g (and_parts (is_good g) (is_good_look look && are_told look f g) goods.1).0 d u v x ps m (and_parts (stops g (first_sort v)) (look_stops look (first_sort v)) first.1).0 t) m
    where
      go : (Matches f d u x ps → HasCut (u ++ v)) → (Matches g d u x ps → HasCut (u ++ v)) → ((ahead look u ≡ true) × Matches f d u x ps) ⊎ ((ahead look u ≡ false) × Matches g d u x ps) → HasCut (u ++ v)
      go a b (inl m) = a m.1
      go a b (inr m) = b m.1
  cuttable (perhaps c f) good d u v x ps m stop t =
      let goods = and_parts (is_mark c) (is_good f) good in
      go (λ w y m. mark_cut c (w ++ v) goods.0 (cuttable f goods.1 d w v y ps m (and_parts (stops f (first_sort v)) (not (first_sort v == c)) stop).0 t)) m
    where
      go : ((w : List Piece) (y : _) → Matches f d w y ps → HasCut (plain c ∷ (w ++ v))) → ((u ≡ []) × (x ≡ None) × (ps ≡ [])) ⊎ ((w : List Piece) × (y : _) × (u ≡ plain c ∷ w) × Matches f d w y ps × (x ≡ Some y)) → HasCut (u ++ v)
      go one (inl none) = at_pieces (ap (λ z. z ++ v) none.0) t
      go one (inr some) = at_pieces (ap (λ z. z ++ v) some.2) (one some.0 some.1 some.3)
  cuttable (repeated ks f) good d u v x ps m stop t =
      let goods = and_parts (is_good f) (not (is_null f) && (implies (begins f) (is_in ks) && implies (begins f) (stops f))) good in
      let more = and_parts (not (is_null f)) (implies (begins f) (is_in ks) && implies (begins f) (stops f)) goods.1 in
      repeated_cut f goods.0 more.0 (and_parts (implies (begins f) (is_in ks)) (implies (begins f) (stops f)) more.1).1 (cuttable f goods.0) d u v x ps m (and_parts (stops f (first_sort v)) (not (is_in ks (first_sort v))) stop).0 t
  cuttable (seen view f) good d u v x ps m stop t = cuttable f good d u v m.0 ps m.1 stop t
  cuttable (judged view f) good d u v x ps m stop t = cuttable f good d u v m.0 m.1 m.3 stop t
  cuttable (refused p f) good d u v x ps m stop t = cuttable f good d u v x m.0 m.1 stop t
