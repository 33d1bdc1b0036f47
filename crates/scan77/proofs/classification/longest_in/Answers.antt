use Rattle.std.proofs.Common.{◌≡◌, ◌+◌, ◌∙◌, ◌∷◌, ◌<◌, ℕ, suc, List, length, drop, map, ap, sym, get_or, arith}
use Rattle.std.proofs.Math.Seq.{drop-cons}
use Rattle.std.specs.Option.{option_map}
use Rattle.scan77.specs.KindReading.{longer, longest_of, word_here}
use Rattle.scan77.specs.Outline.{characters_left}
use Rattle.scan77.specs.Word.{word_text}
use Rattle.scan77.specs.declared.word.Word.{Word}
use Rattle.scan77.specs.declared.word.Word.TheVariants.{Program}
use Rattle.scan77.proofs.KindWords.{longer_assoc}
use Rattle.scan77.proofs.classification.longest_in.Goals as goal

pub loop-word-preserved : goal.loop-word-preserved
loop-word-preserved c =
    let words = c.args.words.now in
    let text = characters_left c.args.at in
    let i = c.loop-word.word-index in
    let before = option_map word_text c.loop-word.longest in
    let here = word_here (word_text (get_or words i Program)) text in
    ap (λ o. longer o (longest_of (map word_text (drop (i + 1) words)) text)) c.longer_here-longest.ensures
    ∙ sym (longer_assoc before here (longest_of (map word_text (drop (i + 1) words)) text))
    ∙ ap (λ (ws : List Word). longer before (longest_of (map word_text ws) text)) (sym (next words i c.loop-word-test.true))
    ∙ c.loop-word.invariant
  where
    next : (words : List Word) (i : ℕ) → i < length words → drop i words ≡ get_or words i Program ∷ drop (i + 1) words
    next words i within = let one : suc i ≡ i + 1 = omega arith in drop-cons words i Program within ∙ ap (λ k. get_or words i Program ∷ drop k words) one
