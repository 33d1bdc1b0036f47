-- The longest of some words that stands at the beginning of a text.
use Rattle.std.proofs.Common.{◌≡◌, ◌⊎◌, inl, inr, ℕ, ◌≤◌, ◌<◌, Bool, true, false, List, [], ◌∷◌, ◌++◌, length, Option, Some, None, refl, sym, ap, ◌∙◌, arith}
use Rattle.std.specs.Prelude.{nat_lt, if◌then◌else◌}
use Rattle.std.specs.Str.{bytes_eq}
use Rattle.std.proofs.lemmas.Bool.{or_cases, or_left, or_right, ltb-true, ltb-false, lt-ltb}
use Rattle.std.proofs.lemmas.Slice.Eq.{bytes_eq-Decides}
use Rattle.text_base.proofs.CharTests.{same_bytes}
use Rattle.tree77.specs.Kinds.{is_among}
use Rattle.scan77.specs.KindReading.{behind_text, stands, longer, longest_of}
use Rattle.scan77.proofs.Standing.{stood}
use Rattle.scan77.proofs.KindParts.{behind_text_is, text_stands}

-- ---- words of a list

pub among_first : (word : List ℕ) (words : List (List ℕ)) (other : List ℕ) → is_among (word ∷ words) other ≡ true → (other ≡ word) ⊎ (is_among words other ≡ true)
among_first word words other e = go (or_cases (bytes_eq other word) (is_among words other) e)
  where
    go : (bytes_eq other word ≡ true) ⊎ (is_among words other ≡ true) → (other ≡ word) ⊎ (is_among words other ≡ true)
    go (inl is) = inl (same_bytes other word is)
    go (inr later) = inr later

is_first : (word : List ℕ) (words : List (List ℕ)) → is_among (word ∷ words) word ≡ true
is_first word words = or_left (bytes_eq word word) (is_among words word) ((bytes_eq-Decides word word).1 refl)

-- ---- the longest

-- a word of the list that begins the text, and no longer one does
pub record Best (words : List (List ℕ)) (text word : List ℕ) : Type 0 where
  pub listed : is_among words word ≡ true
  pub rest : List ℕ
  pub whole : text ≡ word ++ rest
  pub longest : (other more : List ℕ) → is_among words other ≡ true → text ≡ other ++ more → length other ≤ length word

-- the best word of a list, or none that begins the text
abbrev pub IsBest : List (List ℕ) → List ℕ → Option (List ℕ) → Type 0
IsBest words text None = (word rest : List ℕ) → is_among words word ≡ true → text ≡ word ++ rest → ⊥
IsBest words text (Some word) = Best words text word

stands_here : (word text rest : List ℕ) → text ≡ word ++ rest → stands (behind_text word text) ≡ true
stands_here word text rest e = ap (λ x. stands (behind_text word x)) e ∙ ap stands (behind_text_is word rest)

-- a word that doesn't stand here changes nothing
skip : (word : List ℕ) (words : List (List ℕ)) (text : List ℕ) → stands (behind_text word text) ≡ false → (o : Option (List ℕ)) → IsBest words text o → IsBest (word ∷ words) text o
skip word words text away None none = λ other rest among whole. go other rest whole (among_first word words other among)
  where
    go : (other rest : List ℕ) → text ≡ other ++ rest → (other ≡ word) ⊎ (is_among words other ≡ true) → ⊥
    go other rest whole (inl same) = let here = stands_here word text rest (whole ∙ ap (λ (x : List ℕ). x ++ rest) same) in cc
    go other rest whole (inr later) = none other rest later whole
skip word words text away (Some best) is =
    record {
      listed = or_right (bytes_eq best word) (is_among words best) is.listed;
      rest = is.rest;
      whole = is.whole;
      longest = λ other more among whole. go other more whole (among_first word words other among);
    }
  where
    go : (other more : List ℕ) → text ≡ other ++ more → (other ≡ word) ⊎ (is_among words other ≡ true) → length other ≤ length best
    go other more whole (inl same) = let here = stands_here word text more (whole ∙ ap (λ (x : List ℕ). x ++ more) same) in absurd cc
    go other more whole (inr later) = is.longest other more later whole

-- a word that stands here is the best where no other one that does is longer
best_here : (word : List ℕ) (words : List (List ℕ)) (text rest : List ℕ) → text ≡ word ++ rest
    → ((other more : List ℕ) → is_among words other ≡ true → text ≡ other ++ more → length other ≤ length word) → Best (word ∷ words) text word
best_here word words text rest whole below =
    record { listed = is_first word words; rest = rest; whole = whole; longest = λ other more among at. go other more at (among_first word words other among) }
  where
    go : (other more : List ℕ) → text ≡ other ++ more → (other ≡ word) ⊎ (is_among words other ≡ true) → length other ≤ length word
    go other more at (inl same) = omega (arith, ap length same)
    go other more at (inr later) = below other more later at

choose : (word : List ℕ) (words : List (List ℕ)) (text rest : List ℕ) → text ≡ word ++ rest → (o : Option (List ℕ)) → IsBest words text o → IsBest (word ∷ words) text (longer (Some word) o)
choose word words text rest whole None none = best_here word words text rest whole (λ other more among at. absurd (none other more among at))
choose word words text rest whole (Some best) is = go (nat_lt (length word) (length best)) refl
  where
    further : length word < length best → (other more : List ℕ) → text ≡ other ++ more → (other ≡ word) ⊎ (is_among words other ≡ true) → length other ≤ length best
    further lt other more at (inl same) = omega (arith, ap length same)
    further lt other more at (inr later) = is.longest other more later at

    go : (b : Bool) → nat_lt (length word) (length best) ≡ b → IsBest (word ∷ words) text (if b then Some best else Some word)
    go true lt =
        record {
          listed = or_right (bytes_eq best word) (is_among words best) is.listed;
          rest = is.rest;
          whole = is.whole;
          longest = λ other more among at. further (ltb-true (length word) (length best) lt) other more at (among_first word words other among);
        }
    go false ge =
        let low = ltb-false (length word) (length best) ge in
        best_here word words text rest whole (λ other more among at. let within = is.longest other more among at in omega arith)

pub longest_is_best : (words : List (List ℕ)) (text : List ℕ) → IsBest words text (longest_of words text)
longest_is_best [] text = λ word rest among whole. absurd (none among)
  where
    none : false ≡ true → ⊥
    none e = cc
longest_is_best (word ∷ words) text = go (stands (behind_text word text)) refl (longest_is_best words text)
  where
    go : (b : Bool) → stands (behind_text word text) ≡ b → IsBest words text (longest_of words text) → IsBest (word ∷ words) text (longer (if b then Some word else None) (longest_of words text))
    go true here best = let s = stood (behind_text word text) here in choose word words text s.from (text_stands word text s.from s.was) (longest_of words text) best
    go false away best = skip word words text away (longest_of words text) best

-- two words of one length that begin a text are one word
pub same_front : (word other rest more : List ℕ) → length word ≡ length other → word ++ rest ≡ other ++ more → word ≡ other
same_front [] [] rest more size e = refl
same_front [] (d ∷ other) rest more size e = absurd (omega arith)
same_front (c ∷ word) [] rest more size e = absurd (omega arith)
same_front (c ∷ word) (d ∷ other) rest more size e =
    let first : c ≡ d = cc in
    let later : word ++ rest ≡ other ++ more = cc in
    let same = same_front word other rest more (omega arith) later in
    cc

-- ---- of three words

longer_of_three : (x y z : List ℕ) → longer (Some x) (longer (Some y) (Some z)) ≡ longer (longer (Some x) (Some y)) (Some z)
longer_of_three x y z = go (nat_lt (length x) (length y)) (nat_lt (length y) (length z)) (nat_lt (length x) (length z)) refl refl refl
  where
    go : (a b d : Bool) → nat_lt (length x) (length y) ≡ a → nat_lt (length y) (length z) ≡ b → nat_lt (length x) (length z) ≡ d
        → longer (Some x) (if b then Some z else Some y) ≡ longer (if a then Some y else Some x) (Some z)
    go true true d xy yz xz =
        let lt = ltb-true (length x) (length y) xy in
        let further = ltb-true (length y) (length z) yz in
        ap (λ e. if e then Some z else Some x) (lt-ltb (length x) (length z) (omega (arith, lt, further))) ∙ sym (ap (λ e. if e then Some z else Some y) yz)
    go true false d xy yz xz = ap (λ e. if e then Some y else Some x) xy ∙ sym (ap (λ e. if e then Some z else Some y) yz)
    go false true d xy yz xz = refl
    go false false true xy yz xz =
        let ge = ltb-false (length x) (length y) xy in
        let lower = ltb-false (length y) (length z) yz in
        let lt = ltb-true (length x) (length z) xz in
        absurd (omega (arith, ge, lower, lt))
    go false false false xy yz xz = ap (λ e. if e then Some y else Some x) xy ∙ sym (ap (λ e. if e then Some z else Some x) xz)

pub longer_assoc : (a b c : Option (List ℕ)) → longer a (longer b c) ≡ longer (longer a b) c
longer_assoc None b c = refl
longer_assoc (Some x) None None = refl
longer_assoc (Some x) None (Some z) = refl
longer_assoc (Some x) (Some y) None = either_first (nat_lt (length x) (length y))
  where
    either_first : (b : Bool) → (if b then Some y else Some x) ≡ longer (if b then Some y else Some x) None
    either_first true = refl
    either_first false = refl
longer_assoc (Some x) (Some y) (Some z) = longer_of_three x y z
