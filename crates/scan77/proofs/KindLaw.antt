-- The kind of a statement is the one that is read.
use Rattle.std.proofs.Common.{◌≡◌, ◌⊎◌, inl, inr, ℕ, Bool, true, false, List, ◌++◌, codes, Option, Some, None, refl, sym, ap, ◌∙◌, arith}
use Rattle.std.specs.Prelude.{if◌then◌else◌}
use Rattle.std.specs.Str.{bytes_eq}
use Rattle.std.proofs.lemmas.Bool.{false_from_ne_true}
use Rattle.std.proofs.lemmas.List.Folds.{list_any-append}
use Rattle.tree77.specs.Kinds.{Kind, format, loop, assign, keyword, unsupported, refused_function, nothing, IsFormat, IsLoop, IsAssignment, IsTypedFunction, IsLabelledWhile, accepted, refused, accepted_types, refused_types, is_among, is_keyword, IsLongest, HasNoKeyword, IsOther, IsPlainKeyword, IsKind, is_format, is_loop, is_assignment, is_function, is_refused_function, is_while, is_accepted, is_refused, is_nothing}
use Rattle.scan77.specs.KindReading.{reads_format, reads_loop, reads_assignment, function_type, reads_while, longest_of, kind_of_word, kind_of_type, is_some, other_kind, read_kind}
use Rattle.scan77.proofs.KindSteps.{format_reads, format_found, loop_reads, loop_found, assignment_reads, assignment_found, while_reads, while_found}
use Rattle.scan77.proofs.KindFunction.{AreApart, accepted_apart, refused_apart, function_reads, function_found, refused_is_not_accepted, while_is_no_function}
use Rattle.scan77.proofs.KindWords.{Best, IsBest, longest_is_best, same_front}

-- ---- keywords

keyword_is_among : (word : List ℕ) → is_among (accepted ++ refused) word ≡ is_keyword word
keyword_is_among word = list_any-append (bytes_eq word) accepted refused

best_is_longest : (text word : List ℕ) → Best (accepted ++ refused) text word → IsLongest text word
best_is_longest text word best =
    record {
      listed = sym (keyword_is_among word) ∙ best.listed;
      rest = best.rest;
      whole = best.whole;
      longest = λ other more is whole. best.longest other more (keyword_is_among other ∙ is) whole;
    }

none_is_best : (text : List ℕ) → IsBest (accepted ++ refused) text None → HasNoKeyword text
none_is_best text none word rest is whole = none word rest (keyword_is_among word ∙ is) whole

longest_read : (text word : List ℕ) → IsLongest text word → longest_of (accepted ++ refused) text ≡ Some word
longest_read text word longest = go (longest_of (accepted ++ refused) text) (longest_is_best (accepted ++ refused) text)
  where
    listed : is_among (accepted ++ refused) word ≡ true
    listed = keyword_is_among word ∙ longest.listed

    go : (o : Option (List ℕ)) → IsBest (accepted ++ refused) text o → o ≡ Some word
    go None none = absurd (none word longest.rest listed longest.whole)
    go (Some other) best =
        let below = longest.longest other best.rest (sym (keyword_is_among other) ∙ best.listed) best.whole in
        let above = best.longest word longest.rest listed longest.whole in
        ap Some (same_front other word best.rest longest.rest (omega arith) (sym best.whole ∙ longest.whole))

none_read : (text : List ℕ) → HasNoKeyword text → longest_of (accepted ++ refused) text ≡ None
none_read text none = go (longest_of (accepted ++ refused) text) (longest_is_best (accepted ++ refused) text)
  where
    go : (o : Option (List ℕ)) → IsBest (accepted ++ refused) text o → o ≡ None
    go None is = refl
    go (Some other) best = absurd (none other best.rest (sym (keyword_is_among other) ∙ best.listed) best.whole)

-- ---- what is read, kind by kind

abbrev keyword_kind : List ℕ → Kind
keyword_kind text = kind_of_word (longest_of (accepted ++ refused) text)

abbrev while_kind : List ℕ → Kind
while_kind text = if reads_while text then unsupported (codes "DOWHILE") else keyword_kind text

abbrev function_kind : List ℕ → Kind
function_kind text = if is_some (function_type accepted_types text) then keyword (codes "FUNCTION") else other_kind text

abbrev assignment_kind : List ℕ → Kind
assignment_kind text = if reads_assignment text then assign else function_kind text

abbrev loop_kind : List ℕ → Kind
loop_kind text = if reads_loop text then loop else assignment_kind text

read_format : (label : ℕ) (text : List ℕ) → IsFormat label text → read_kind label text ≡ format
read_format label text is = ap (λ b. if b then format else loop_kind text) (format_reads label text is)

past_format : (label : ℕ) (text : List ℕ) → (IsFormat label text → ⊥) → read_kind label text ≡ loop_kind text
past_format label text never = ap (λ b. if b then format else loop_kind text) (false_from_ne_true (reads_format label text) (λ e. never (format_found label text e)))

read_loop : (label : ℕ) (text : List ℕ) → (IsFormat label text → ⊥) → IsLoop text → read_kind label text ≡ loop
read_loop label text never is = past_format label text never ∙ ap (λ b. if b then loop else assignment_kind text) (loop_reads text is)

past_loop : (label : ℕ) (text : List ℕ) → (IsFormat label text → ⊥) → (IsLoop text → ⊥) → read_kind label text ≡ assignment_kind text
past_loop label text no_format never =
    past_format label text no_format ∙ ap (λ b. if b then loop else assignment_kind text) (false_from_ne_true (reads_loop text) (λ e. never (loop_found text e)))

read_assignment : (label : ℕ) (text : List ℕ) → (IsFormat label text → ⊥) → (IsLoop text → ⊥) → IsAssignment text → read_kind label text ≡ assign
read_assignment label text no_format no_loop is = past_loop label text no_format no_loop ∙ ap (λ b. if b then assign else function_kind text) (assignment_reads text is)

past_assignment : (label : ℕ) (text : List ℕ) → IsOther label text → read_kind label text ≡ function_kind text
past_assignment label text other =
    past_loop label text other.no_format other.no_loop
    ∙ ap (λ b. if b then assign else function_kind text) (false_from_ne_true (reads_assignment text) (λ e. other.no_assignment (assignment_found text e)))

read_function : (label : ℕ) (text : List ℕ) → IsOther label text → IsTypedFunction accepted_types text → read_kind label text ≡ keyword (codes "FUNCTION")
read_function label text other is =
    past_assignment label text other ∙ ap (λ o. if is_some o then keyword (codes "FUNCTION") else other_kind text) (function_reads accepted_types text accepted_apart is)

-- where no type stands, none is read
none_typed : (types : List (List ℕ)) (text : List ℕ) → (IsTypedFunction types text → ⊥) → function_type types text ≡ None
none_typed types text never = go (function_type types text) refl
  where
    go : (o : Option (List ℕ)) → function_type types text ≡ o → o ≡ None
    go None is = refl
    go (Some type) is = absurd (never (function_found types text type is).function)

past_function : (label : ℕ) (text : List ℕ) → IsOther label text → function_type accepted_types text ≡ None → read_kind label text ≡ other_kind text
past_function label text other none = past_assignment label text other ∙ ap (λ o. if is_some o then keyword (codes "FUNCTION") else other_kind text) none

read_refused_function : (label : ℕ) (text : List ℕ) → IsOther label text → (f : IsTypedFunction refused_types text) → read_kind label text ≡ refused_function f.type
read_refused_function label text other f =
    past_function label text other (refused_is_not_accepted text f) ∙ ap (λ o. kind_of_type o (while_kind text)) (function_reads refused_types text refused_apart f)

read_while : (label : ℕ) (text : List ℕ) → IsOther label text → IsLabelledWhile text → read_kind label text ≡ unsupported (codes "DOWHILE")
read_while label text other is =
    let none = while_is_no_function text is in
    past_function label text other none.0
    ∙ ap (λ o. kind_of_type o (while_kind text)) none.1
    ∙ ap (λ b. if b then unsupported (codes "DOWHILE") else keyword_kind text) (while_reads text is)

past_while : (label : ℕ) (text : List ℕ) → IsPlainKeyword label text → read_kind label text ≡ keyword_kind text
past_while label text plain =
    past_function label text plain.other (none_typed accepted_types text plain.no_function)
    ∙ ap (λ o. kind_of_type o (while_kind text)) (none_typed refused_types text plain.no_refused)
    ∙ ap (λ b. if b then unsupported (codes "DOWHILE") else keyword_kind text) (false_from_ne_true (reads_while text) (λ e. plain.no_while (while_found text e)))

read_accepted : (label : ℕ) (text word : List ℕ) → IsPlainKeyword label text → IsLongest text word → is_among accepted word ≡ true → read_kind label text ≡ keyword word
read_accepted label text word plain longest is =
    past_while label text plain ∙ ap kind_of_word (longest_read text word longest) ∙ ap (λ b. if b then keyword word else unsupported word) is

read_refused : (label : ℕ) (text word : List ℕ) → IsPlainKeyword label text → IsLongest text word → is_among accepted word ≡ false → read_kind label text ≡ unsupported word
read_refused label text word plain longest is =
    past_while label text plain ∙ ap kind_of_word (longest_read text word longest) ∙ ap (λ b. if b then keyword word else unsupported word) is

read_nothing : (label : ℕ) (text : List ℕ) → IsPlainKeyword label text → HasNoKeyword text → read_kind label text ≡ nothing
read_nothing label text plain none = past_while label text plain ∙ ap kind_of_word (none_read text none)

-- ---- the law

-- a kind is the one that is read
pub kind_only : (label : ℕ) (text : List ℕ) (kind : Kind) → IsKind label text kind → kind ≡ read_kind label text
kind_only label text kind (is_format is e) = e ∙ sym (read_format label text is)
kind_only label text kind (is_loop no_format is e) = e ∙ sym (read_loop label text no_format is)
kind_only label text kind (is_assignment no_format no_loop is e) = e ∙ sym (read_assignment label text no_format no_loop is)
kind_only label text kind (is_function other is e) = e ∙ sym (read_function label text other is)
kind_only label text kind (is_refused_function other f e) = e ∙ sym (read_refused_function label text other f)
kind_only label text kind (is_while other is e) = e ∙ sym (read_while label text other is)
kind_only label text kind (is_accepted plain word longest is e) = e ∙ sym (read_accepted label text word plain longest is)
kind_only label text kind (is_refused plain word longest is e) = e ∙ sym (read_refused label text word plain longest is)
kind_only label text kind (is_nothing plain none e) = e ∙ sym (read_nothing label text plain none)

decided : (P : Type 0) (b : Bool) → (P → b ≡ true) → (b ≡ true → P) → P ⊎ (P → ⊥)
decided P true reads found = inl (found refl)
decided P false reads found = inr (λ p. none (reads p))
  where
    none : false ≡ true → ⊥
    none e = cc

typed_or_not : (types : List (List ℕ)) (text : List ℕ) → AreApart types → IsTypedFunction types text ⊎ (IsTypedFunction types text → ⊥)
typed_or_not types text apart = go (function_type types text) refl
  where
    go : (o : Option (List ℕ)) → function_type types text ≡ o → IsTypedFunction types text ⊎ (IsTypedFunction types text → ⊥)
    go (Some type) is = inl (function_found types text type is).function
    go None is = inr (λ f. none f (sym is ∙ function_reads types text apart f))
      where
        none : (f : IsTypedFunction types text) → None ≡ Some f.type → ⊥
        none f e = cc

keyword_found : (label : ℕ) (text : List ℕ) → IsPlainKeyword label text → IsKind label text (read_kind label text)
keyword_found label text plain = go (longest_of (accepted ++ refused) text) (longest_is_best (accepted ++ refused) text)
  where
    listed : (word : List ℕ) → IsLongest text word → (b : Bool) → is_among accepted word ≡ b → IsKind label text (read_kind label text)
    listed word longest true is = is_accepted plain word longest is (read_accepted label text word plain longest is)
    listed word longest false is = is_refused plain word longest is (read_refused label text word plain longest is)

    go : (o : Option (List ℕ)) → IsBest (accepted ++ refused) text o → IsKind label text (read_kind label text)
    go None none = is_nothing plain (none_is_best text none) (read_nothing label text plain (none_is_best text none))
    go (Some word) best = listed word (best_is_longest text word best) (is_among accepted word) refl

-- what is read is the kind
pub kind_found : (label : ℕ) (text : List ℕ) → IsKind label text (read_kind label text)
kind_found label text = formatted (decided (IsFormat label text) (reads_format label text) (format_reads label text) (format_found label text))
  where
    whiled : IsOther label text → (IsTypedFunction accepted_types text → ⊥) → (IsTypedFunction refused_types text → ⊥) → IsLabelledWhile text ⊎ (IsLabelledWhile text → ⊥) → IsKind label text (read_kind label text)
    whiled other no_function no_refused (inl is) = is_while other is (read_while label text other is)
    whiled other no_function no_refused (inr never) = keyword_found label text (record { other = other; no_function = no_function; no_refused = no_refused; no_while = never })

    refused_typed : IsOther label text → (IsTypedFunction accepted_types text → ⊥) → IsTypedFunction refused_types text ⊎ (IsTypedFunction refused_types text → ⊥) → IsKind label text (read_kind label text)
    refused_typed other no_function (inl f) = is_refused_function other f (read_refused_function label text other f)
    refused_typed other no_function (inr never) = whiled other no_function never (decided (IsLabelledWhile text) (reads_while text) (while_reads text) (while_found text))

    typed : IsOther label text → IsTypedFunction accepted_types text ⊎ (IsTypedFunction accepted_types text → ⊥) → IsKind label text (read_kind label text)
    typed other (inl is) = is_function other is (read_function label text other is)
    typed other (inr never) = refused_typed other never (typed_or_not refused_types text refused_apart)

    assigned : (IsFormat label text → ⊥) → (IsLoop text → ⊥) → IsAssignment text ⊎ (IsAssignment text → ⊥) → IsKind label text (read_kind label text)
    assigned no_format no_loop (inl is) = is_assignment no_format no_loop is (read_assignment label text no_format no_loop is)
    assigned no_format no_loop (inr never) =
        typed (record { no_format = no_format; no_loop = no_loop; no_assignment = never }) (typed_or_not accepted_types text accepted_apart)

    looped : (IsFormat label text → ⊥) → IsLoop text ⊎ (IsLoop text → ⊥) → IsKind label text (read_kind label text)
    looped no_format (inl is) = is_loop no_format is (read_loop label text no_format is)
    looped no_format (inr never) = assigned no_format never (decided (IsAssignment text) (reads_assignment text) (assignment_reads text) (assignment_found text))

    formatted : IsFormat label text ⊎ (IsFormat label text → ⊥) → IsKind label text (read_kind label text)
    formatted (inl is) = is_format is (read_format label text is)
    formatted (inr never) = looped never (decided (IsLoop text) (reads_loop text) (loop_reads text) (loop_found text))
