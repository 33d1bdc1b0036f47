-- The refusals of the statements of a file, one statement after another.
use Rattle.std.proofs.Common.{◌≡◌, ℕ, suc, ◌+◌, ◌<◌, Bool, true, false, not, cond, List, [], ◌∷◌, ◌++◌, length, map, filter, take, get_or, min, Option, Some, refl, sym, ap, ◌∙◌, arith}
use Rattle.std.specs.Prelude.{slice_get}
use Rattle.std.specs.Option.{option_map}
use Rattle.std.proofs.Math.Seq.{take-length}
use Rattle.std.proofs.lemmas.List.{take_more, map-append, length-map, append-nil}
use Rattle.std.proofs.lemmas.List.Elements.{filter-append}
use Rattle.std.proofs.lemmas.Option.{slice_get-map, slice_get-get_or}
use Rattle.text_base.specs.Cards as source
use Rattle.text_base.specs.declared.refusal.Refusal.{Refusal}
use Rattle.card_reader.specs.Deck.{card_of}
use Rattle.card_reader.specs.declared.card.Card.{Card}
use Rattle.program77.specs.SourceReading.{ReadCard, read_card, read_of, reading_card}
use Rattle.order77.specs.ReadViews.{reading_at, readings_from, readings_of}
use Rattle.order77.specs.declared.read.ReadStatement.{ReadStatement}
use Rattle.project_set.specs.Refusals.{is_built_as, is_built_card, not_built_at, unbuilt_refusals}

-- the refusals of the first statements of a file
abbrev pub so_far : List Card → ℕ → List Refusal
so_far cards n = unbuilt_refusals (map card_of (take n cards))

-- the refusals of one statement
one_of : (card : source.Card) (b : Bool) → is_built_card card ≡ b → unbuilt_refusals (card ∷ []) ≡ cond b [] (not_built_at card ∷ [])
one_of card true is = ap (λ b. map not_built_at (cond (not b) (card ∷ []) [])) is
one_of card false is = ap (λ b. map not_built_at (cond (not b) (card ∷ []) [])) is

more_of : (cards : List source.Card) (card : source.Card) → unbuilt_refusals (cards ++ card ∷ []) ≡ unbuilt_refusals cards ++ unbuilt_refusals (card ∷ [])
more_of cards card =
    let passes : source.Card → Bool = λ c. not (is_built_card c) in
    ap (map not_built_at) (filter-append passes cards (card ∷ [])) ∙ map-append not_built_at (filter passes cards) (filter passes (card ∷ []))

-- what was read of a statement, wherever it stands
abbrev card_read : ReadStatement → ReadCard
card_read read = reading_card (reading_at 0 read)

cards_read : (k : ℕ) (statements : List ReadStatement) → map reading_card (readings_from k statements) ≡ map card_read statements
cards_read k [] = refl
cards_read k (read ∷ statements) = ap (λ l. card_read read ∷ l) (cards_read (suc k) statements)

module _ (cards : List Card) (statements : List ReadStatement) (as_read : map reading_card (readings_of statements) ≡ map read_of (map card_of cards)) where
  same : map card_read statements ≡ map read_of (map card_of cards)
  same = sym (cards_read 0 statements) ∙ as_read

  -- what was read of a statement is what it spells
  spelled_at : (n : ℕ) (card : Card) (read : ReadStatement) → n < length cards → n < length statements → card ≡ get_or cards n card → read ≡ get_or statements n read
      → (card_read read).spelled ≡ read_card (card_of card)
  spelled_at n card read lt lt2 here there =
      let right : slice_get cards n ≡ Some card = slice_get-get_or cards n card lt ∙ ap Some (sym here) in
      let left : slice_get statements n ≡ Some read = slice_get-get_or statements n read lt2 ∙ ap Some (sym there) in
      let both : ◌≡◌ {A = Option ReadCard} (Some (card_read read)) (Some (read_of (card_of card))) =
      sym (slice_get-map card_read statements n ∙ ap (option_map card_read) left)
      ∙ ap (λ l. slice_get l n) same
      ∙ slice_get-map read_of (map card_of cards) n
      ∙ ap (option_map read_of) (slice_get-map card_of cards n ∙ ap (option_map card_of) right) in
      let whole : card_read read ≡ read_of (card_of card) = cc in
      ap (λ (r : ReadCard). r.spelled) whole

  module _ (n m : ℕ) (card : Card) (read : ReadStatement) (built : Bool) (next : m ≡ n + 1) (lt : n < length cards) (lt2 : n < length statements)
      (here : card ≡ get_or cards n card) (there : read ≡ get_or statements n read) (asked : built ≡ is_built_as (card_read read).spelled) where
    answered : is_built_card (card_of card) ≡ built
    answered = sym (asked ∙ ap is_built_as (spelled_at n card read lt lt2 here there))

    so_far_more : (b : Bool) → built ≡ b → so_far cards m ≡ so_far cards n ++ cond b [] (not_built_at (card_of card) ∷ [])
    so_far_more b is =
        ap (so_far cards) next
        ∙ ap (λ l. unbuilt_refusals (map card_of l)) (take_more cards n card lt ∙ ap (λ x. take n cards ++ x ∷ []) (sym here))
        ∙ ap unbuilt_refusals (map-append card_of (take n cards) (card ∷ []))
        ∙ more_of (map card_of (take n cards)) (card_of card)
        ∙ ap (λ l. so_far cards n ++ l) (one_of (card_of card) b (answered ∙ is))

    -- a statement that is converted is not refused
    pub not_refused : (list : List Refusal) → built ≡ true → list ≡ so_far cards n → list ≡ so_far cards m
    not_refused list is before = before ∙ sym (append-nil (so_far cards n)) ∙ sym (so_far_more true is)

    -- another one is
    pub one_refused : (list new : List Refusal) (refusal : Refusal) → built ≡ false → refusal ≡ not_built_at (card_of card) → new ≡ list ++ refusal ∷ [] → list ≡ so_far cards n → new ≡ so_far cards m
    one_refused list new refusal is it pushed before =
        pushed ∙ ap (λ l. l ++ refusal ∷ []) before ∙ ap (λ r. so_far cards n ++ r ∷ []) it ∙ sym (so_far_more false is)

  -- all statements were asked
  pub all_asked : (n : ℕ) (list : List Refusal) → n ≡ min (length cards) (length statements) → list ≡ so_far cards n → list ≡ unbuilt_refusals (map card_of cards)
  all_asked n list last before =
      let lengths : length statements ≡ length cards = sym (length-map statements card_read) ∙ ap length same ∙ length-map (map card_of cards) read_of ∙ length-map cards card_of in
      let all : n ≡ length cards = omega (arith, last, lengths) in
      before ∙ ap (so_far cards) all ∙ ap (λ l. unbuilt_refusals (map card_of l)) (take-length cards)
